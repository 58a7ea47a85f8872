-- Pieces, and what parts of code append to them.
use Rattle.std.proofs.Common.{◌+◌, ◌≡◌, ◌∙◌, ◌++◌, [], ℕ, List, map, drop, get_or, ◌<◌, length, ap, sym}
use Rattle.std.proofs.lemmas.List.{append-nil, drop_more}
use Rattle.code_form.specs.Heights.{Step}
use Rattle.m2_base.specs.Copies.{copy_view}
use Rattle.m2_base.specs.declared.copies.ParamCopy.{ParamCopy}
use Rattle.expr_sem.specs.Fragments.{step_view}
use Rattle.block_code.specs.Parts.{Made, Part, Spot, none}
use Rattle.expr_sem.specs.Pieces.{Appended, IsAsBefore, extend, spot_of}
use Rattle.expr_sem.specs.Stacks.{ends_as}
use Rattle.expr_sem.specs.declared.pieces.Piece.{Piece}
use Rattle.expr_sem.proofs.PieceParts.{ended}
use Rattle.block_code.specs.BlockCode.{copy_code, prologue}
use Rattle.stmt_sem.specs.Stating.{made_in, spot_at}

-- what a piece has once this part is appended
pub made_behind : {a b : Piece} (p : Part) → Appended a b [] p → made_in b ≡ extend (made_in a) p
made_behind {a} {b} p h =
    ap (λ (l : List Step). record { code = l; bytes = b.bytes.items; next = spot_of b [] }) h.steps
    ∙ ap (λ (l : List ℕ). record { code = map step_view a.steps.items ++ (p (spot_of a [])).code; bytes = l; next = spot_of b [] }) h.bytes
    ∙ ap (λ (s : Spot). record { code = map step_view a.steps.items ++ (p (spot_of a [])).code; bytes = a.bytes.items ++ (p (spot_of a [])).bytes; next = s }) h.next

-- of an empty one it has the part alone
pub made_alone : {a b : Piece} (p : Part) (at : Spot) → made_in a ≡ none at → Appended a b [] p → made_in b ≡ p at
made_alone p at empty h = made_behind p h ∙ ap (λ (m : Made). extend m p) empty

-- a piece that is as before has what it had
pub made_same : {a b : Piece} → IsAsBefore a b → made_in b ≡ made_in a
made_same {a} {b} h = λ k. record { code = map step_view (h.steps k); bytes = h.bytes k; next = spot_at (h.cell k) (h.byte k) }

-- one more copy of those that are to be appended
pub copy_appended : (a b c : Piece) (xs : List ParamCopy) (i : ℕ) (d : ParamCopy) → i < length xs
    → ends_as b [] (prologue (map copy_view (drop i xs))) ≡ ends_as a [] (prologue (map copy_view xs))
    → Appended b c [] (copy_code (copy_view (get_or xs i d)))
    → ends_as c [] (prologue (map copy_view (drop (i + 1) xs))) ≡ ends_as a [] (prologue (map copy_view xs))
copy_appended a b c xs i d below so h =
    ended (prologue (map copy_view (drop (i + 1) xs))) h
    ∙ sym (ap (λ (l : List ParamCopy). ends_as b [] (prologue (map copy_view l))) (drop_more xs i d below))
    ∙ so

-- nothing is left to be appended
pub all_appended : (a b : Piece) (p : Part) → ends_as b [] none ≡ ends_as a [] p → Appended a b [] p
all_appended a b p e =
    record {
      steps = sym (append-nil (map step_view b.steps.items)) ∙ ap (λ (m : Made). m.code) e;
      bytes = sym (append-nil b.bytes.items) ∙ ap (λ (m : Made). m.bytes) e;
      next = ap (λ (m : Made). m.next) e;
    }
