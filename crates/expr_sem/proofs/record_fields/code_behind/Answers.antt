use Rattle.std.proofs.Common.{◌≡◌, ◌∙◌, ◌∷◌, [], ℕ, zero, suc, ap, sym, refl}
use Rattle.code_form.specs.declared.instr.Instr.TheVariants.{Offset}
use Rattle.expr_sem.specs.Fragments.{part}
use Rattle.block_code.specs.Parts.{plain, ◌⨟◌}
use Rattle.block_code.specs.RecordFields.{offset_code}
use Rattle.expr_sem.proofs.Sequencing.{Grows-refl, joined_same, made_after, part_later}
use Rattle.expr_sem.proofs.record_fields.code_behind.Goals as goal

offset_given : (n : ℕ) → (n ≡ 0 → ⊥) → plain (Offset n ∷ []) ≡ offset_code n
offset_given zero h = absurd (h refl)
offset_given (suc n) h = refl

pub returns-then-offset-eq0 : goal.returns-then-offset-eq0
returns-then-offset-eq0 c =
    let ns = c.args.fragments.now.nodes.items in
    made_after c.then.result (Grows-refl ns) c.then.ensures.made (ap (λ (n : ℕ). part ns c.args.code ⨟ offset_code n) (sym c.if-offset-eq0.true))

pub returns : goal.returns
returns c =
    let behind = c.in_ok-behind.ensures.made in
    made_after c.then-2.result behind.grows c.then-2.ensures.made
    (joined_same (part_later behind.grows c.args.code c.requires.there) (behind.made.part_is ∙ offset_given c.args.offset c.if-offset-eq0.false))
