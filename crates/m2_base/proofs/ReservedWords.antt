-- The reserved words of a letter stand together in their table.
use Rattle.std.proofs.Common.{◌≡◌, ℕ, ◌-◌, ◌<◌, true, List, [], ◌∷◌, length, take, drop, get_or, map, refl, sym, ◌∙◌, ap, arith, Bor}
use Rattle.std.proofs.lemmas.List.{take-map, drop-map}
use Rattle.std.proofs.lemmas.Bool.{eq-eqb}
use Rattle.m2_base.specs.Kinds.{kind_in, reserved_words, begins_with, IsSpan}
use Rattle.m2_base.specs.declared.kind.TokenKind.{TokenKind}
use Rattle.m2_base.proofs.KindTables.{entry_of, kind_in-range}

begins_own : (word : List ℕ) → 0 < length word → begins_with (get_or word 0 0) word ≡ true
begins_own [] some = absurd (omega arith)
begins_own (b ∷ bs) some = eq-eqb b b refl

-- a search within the span of a word's first byte is one in the whole table
pub kind_in-span : (code : List (Bor (List ℕ) × TokenKind)) (word : List ℕ) (start end : ℕ) → map entry_of code ≡ reserved_words → 0 < length word → IsSpan (get_or word 0 0) start end
    → kind_in (map entry_of (take (end - start) (drop start code))) word ≡ kind_in reserved_words word
kind_in-span code word start end same some span =
    ap (λ t. kind_in t word) (sym (take-map entry_of (end - start) (drop start code)) ∙ ap (take (end - start)) (sym (drop-map entry_of start code)) ∙ ap (λ t. take (end - start) (drop start t)) same)
    ∙ kind_in-range (begins_with (get_or word 0 0)) word (begins_own word some) reserved_words start end span.order span.before span.behind
