use Rattle.std.proofs.Common.{◌≡◌, ◌∙◌, ◌∷◌, ℕ, List, Option, Some, ap, refl, sym}
use Rattle.std.specs.Prelude.{option_map}
use Rattle.m2_base.specs.Statics.Ranges.{Range, range}
use Rattle.m2_base.specs.Statics.Types.{range_of}
use Rattle.m2_base.specs.declared.builtins.Builtin.{Builtin}
use Rattle.m2_base.specs.declared.builtins.Builtin.TheVariants.{Inc}
use Rattle.code_form.specs.declared.instr.Instr.{Instr}
use Rattle.code_form.specs.declared.instr.Instr.TheVariants.{Sub}
use Rattle.type_rules.specs.Scenes.{scene_of}
use Rattle.type_rules.specs.Sites.{context_of}
use Rattle.type_rules.proofs.Compatibles.{told_later}
use Rattle.block_code.specs.Fitting.{check_of}
use Rattle.block_code.specs.Operators.{side_of}
use Rattle.block_code.specs.StandardProcedures.{counting_range, step_instr}
use Rattle.expr_sem.specs.RangeChecks.{instrs_if}
use Rattle.type_rules.proofs.Later.{IsThere_read, Suits_read}
use Rattle.type_rules.proofs.Reading.{Reads-trans, Waits_read}
use Rattle.expr_sem.proofs.updates.step_change.Goals as goal

pub range_of-requires-clause-suits : goal.range_of-requires-clause-suits
range_of-requires-clause-suits g c = Suits_read c.in-Known.ensures.reads c.requires.suits.around

pub range_of-requires-clause-there : goal.range_of-requires-clause-there
range_of-requires-clause-there g c = IsThere_read c.in-Known.ensures.reads c.requires.of

pub returns-in-DontKnowYet-range_of-clause-reads : goal.returns-in-DontKnowYet-range_of-clause-reads
returns-in-DontKnowYet-range_of-clause-reads g c = Reads-trans c.in-Known.ensures.reads c.in-DontKnowYet-range_of.ensures.reads

pub returns-in-DontKnowYet-range_of-clause-waits : goal.returns-in-DontKnowYet-range_of-clause-waits
returns-in-DontKnowYet-range_of-clause-waits g c = Waits_read c.in-Known.ensures.reads c.in-DontKnowYet-range_of.ensures.waits

-- the instruction of any other procedure than INC
no_sum : (f : Builtin) (b : ℕ) → (f ≡ Inc → ⊥) → Sub b ≡ step_instr f b
no_sum Inc b h = absurd (h refl)
no_sum f b h = refl

pub returns-in-Inc-clause-reads : goal.returns-in-Inc-clause-reads
returns-in-Inc-clause-reads g c = Reads-trans c.in-Known.ensures.reads c.in-Known-range_of.ensures.reads

pub returns-in-Inc-clause-told : goal.returns-in-Inc-clause-told
returns-in-Inc-clause-told g c made in_hand told =
    let f = (g.S.Scopes.state c.args.scopes.now).frame in
    let s = c.args.site.now in
    let k = context_of f made s in
    let side = c.in-Known.ensures.told made in_hand told in
    let ends = told_later f _ (λ e rows. option_map (λ ends. range ends.0 ends.1) c.in-Known-range_of.value ≡ range_of (scene_of e rows s.around.now) c.args.of) c.in-Known.ensures.reads.keeps.frame c.in-Known-range_of.ensures.told made in_hand told in
    let from = ap (λ (r : Range). check_of (Some r) (option_map (λ ends. range ends.0 ends.1) c.in-Known-range_of.value)) c.counting_range.ensures in
    let rest = ap (λ (b : ℕ). step_instr c.args.f b ∷ check_of (Some (counting_range b)) (option_map (λ ends. range ends.0 ends.1) c.in-Known-range_of.value)) side
    ∙ ap (λ (r : Option Range). step_instr c.args.f (side_of k.scene c.args.of) ∷ check_of (Some (counting_range (side_of k.scene c.args.of))) r) ends in
    ap (λ (i : Instr). i ∷ instrs_if c.range_check-second.result) (ap (λ (p : Builtin). step_instr p c.in-Known.value) (sym c.in-Inc.is))
    ∙ ap (λ (l : List Instr). step_instr c.args.f c.in-Known.value ∷ l) (c.range_check-second.ensures ∙ from) ∙ rest

pub returns-in_default-clause-reads : goal.returns-in_default-clause-reads
returns-in_default-clause-reads g c = Reads-trans c.in-Known.ensures.reads c.in-Known-range_of.ensures.reads

pub returns-in_default-clause-told : goal.returns-in_default-clause-told
returns-in_default-clause-told g c made in_hand told =
    let f = (g.S.Scopes.state c.args.scopes.now).frame in
    let s = c.args.site.now in
    let k = context_of f made s in
    let side = c.in-Known.ensures.told made in_hand told in
    let ends = told_later f _ (λ e rows. option_map (λ ends. range ends.0 ends.1) c.in-Known-range_of.value ≡ range_of (scene_of e rows s.around.now) c.args.of) c.in-Known.ensures.reads.keeps.frame c.in-Known-range_of.ensures.told made in_hand told in
    let from = ap (λ (r : Range). check_of (Some r) (option_map (λ ends. range ends.0 ends.1) c.in-Known-range_of.value)) c.counting_range.ensures in
    let rest = ap (λ (b : ℕ). step_instr c.args.f b ∷ check_of (Some (counting_range b)) (option_map (λ ends. range ends.0 ends.1) c.in-Known-range_of.value)) side
    ∙ ap (λ (r : Option Range). step_instr c.args.f (side_of k.scene c.args.of) ∷ check_of (Some (counting_range (side_of k.scene c.args.of))) r) ends in
    ap (λ (i : Instr). i ∷ instrs_if c.range_check-second.result) (no_sum c.args.f c.in-Known.value c.in_default.not-Inc)
    ∙ ap (λ (l : List Instr). step_instr c.args.f c.in-Known.value ∷ l) (c.range_check-second.ensures ∙ from) ∙ rest
