use Rattle.std.proofs.Common.{◌≡◌, ◌∙◌, ℕ, zero, suc, List, [], ◌∷◌, Result, Ok, Err, Some, ap, rules, sym}
use Rattle.std.specs.Prelude.{slice_get, slice_index_or}
use Rattle.std.specs.Result.{IfOk}
use Rattle.m2_base.specs.Statics.Contexts.{Source}
use Rattle.m2_base.specs.Statics.Operands.{characters_of}
use Rattle.m2_base.specs.declared.memory.Memory.{Memory}
use Rattle.block_code.specs.Coded.{characters}
use Rattle.expr_sem.proofs.ValueCases.{characters_none, characters_some}
use Rattle.expr_sem.proofs.values.characters.Goals as goal

spelled : (names : List (List ℕ)) (n : ℕ) (bytes : List ℕ) → slice_get names n ≡ Some bytes → bytes ≡ slice_index_or names n []
spelled [] n bytes h = absurd (cc)
spelled (x ∷ names) zero bytes h = cc
spelled (x ∷ names) (suc n) bytes h = spelled names n bytes h

of_sources : {T : Type 0} (items : T → List ℕ) (r : Result T Memory) (names : List (List ℕ)) (name : ℕ) (bytes : List ℕ) {given : List ℕ} → slice_get names name ≡ Some bytes → given ≡ characters_of bytes → IfOk r (λ v. items v ≡ given)
    → IfOk r (λ v. (source : Source) → source.spellings ≡ names → items v ≡ characters source name)
of_sources items (Ok v) names name bytes text e h =
    λ source same. h ∙ e ∙ ap characters_of (spelled names name bytes text) ∙ ap (λ (n : List (List ℕ)). characters_of (slice_index_or n name [])) (sym same)
of_sources items (Err m) names name bytes text e h = tt

pub returns-then-is_empty : goal.returns-then-is_empty
returns-then-is_empty c =
    let bytes = c.bytes-bytes.result.now in
    let text : slice_get c.args.site.now.texts.now.names c.args.name ≡ Some bytes = search (rules, c.bytes-bytes.ensures.text) in
    of_sources (λ v. v.items) c.copied.result c.args.site.now.texts.now.names c.args.name bytes text (characters_none bytes (sym c.is_empty.ensures ∙ c.if-is_empty.true)) c.copied.ensures

pub returns-else-is_empty : goal.returns-else-is_empty
returns-else-is_empty c =
    let bytes = c.bytes-bytes.result.now in
    let text : slice_get c.args.site.now.texts.now.names c.args.name ≡ Some bytes = search (rules, c.bytes-bytes.ensures.text) in
    of_sources (λ v. v.items) c.copied-else-is_empty.result c.args.site.now.texts.now.names c.args.name bytes text (characters_some bytes (sym c.is_empty.ensures ∙ c.if-is_empty.false)) c.copied-else-is_empty.ensures
