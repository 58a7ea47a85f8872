use Rattle.std.proofs.Common.{◌≡◌, ◌∙◌, ◌∷◌, [], Bool, ap, refl, sym, if◌then◌else◌, ℕ}
use Rattle.std.specs.Prelude.{pos}
use Rattle.m2_base.specs.Rows.{is_same_place}
use Rattle.m2_base.specs.Standard.{integer}
use Rattle.m2_base.specs.Statics.Contexts.{Scene}
use Rattle.m2_base.specs.declared.rows.Place.{Place}
use Rattle.type_rules.specs.Scenes.{scene_of}
use Rattle.type_rules.proofs.Reading.{Reads-refl}
use Rattle.code_form.specs.declared.instr.Instr.TheVariants.{Push, Eq, Mod as Remainder, Abs as Magnify}
use Rattle.const_eval.specs.declared.calls.ValueFunction.{ValueFunction}
use Rattle.const_eval.specs.declared.calls.ValueFunction.TheVariants.{Abs, Cap, Odd}
use Rattle.expr_sem.specs.ValueFunctions.{ending, function_ending}
use Rattle.expr_sem.specs.declared.value_functions.Rule.{Rule}
use Rattle.expr_sem.specs.declared.value_functions.Rule.TheVariants.{Function}
use Rattle.expr_sem.proofs.value_functions.ending_of.Goals as goal

no_ending : (scene : Scene) (t : Place) (f : ValueFunction) → (f ≡ Abs → ⊥) → (f ≡ Cap → ⊥) → (f ≡ Odd → ⊥) → [] ≡ function_ending scene t f
no_ending scene t Abs a b c = absurd (a refl)
no_ending scene t Cap a b c = absurd (b refl)
no_ending scene t Odd a b c = absurd (c refl)
no_ending scene t f a b c = refl

pub base_of-requires-clause-suits : goal.base_of-requires-clause-suits
base_of-requires-clause-suits g c = c.requires.suits.around

pub returns-in-DontKnowYet-clause-reads : goal.returns-in-DontKnowYet-clause-reads
returns-in-DontKnowYet-clause-reads g c = c.in-DontKnowYet.ensures.reads

pub returns-in-DontKnowYet-clause-waits : goal.returns-in-DontKnowYet-clause-waits
returns-in-DontKnowYet-clause-waits g c = c.in-DontKnowYet.ensures.waits

pub returns-in-DontKnowYet-side_of-clause-reads : goal.returns-in-DontKnowYet-side_of-clause-reads
returns-in-DontKnowYet-side_of-clause-reads g c = c.in-DontKnowYet-side_of.ensures.reads

pub returns-in-DontKnowYet-side_of-clause-waits : goal.returns-in-DontKnowYet-side_of-clause-waits
returns-in-DontKnowYet-side_of-clause-waits g c = c.in-DontKnowYet-side_of.ensures.waits

pub returns-then-eq-clause-reads : goal.returns-then-eq-clause-reads
returns-then-eq-clause-reads g c = c.in-Known.ensures.reads

pub returns-then-eq-clause-told : goal.returns-then-eq-clause-told
returns-then-eq-clause-told g c made in_hand told =
    ap (λ (b : Bool). if b then Magnify ∷ [] else []) (sym c.if-eq.true ∙ c.eq.ensures ∙ ap (λ (t : Place). is_same_place t integer) (c.in-Known.ensures.told made in_hand told))
    ∙ ap (λ (r : Rule). ending (scene_of (g.S.Scopes.state c.args.scopes.now).frame made c.args.site.now.around.now) c.args.of r) (ap (λ (f : ValueFunction). Function f) (sym c.in-Abs.is) ∙ sym c.in-Function.is)

pub returns-else-eq-clause-reads : goal.returns-else-eq-clause-reads
returns-else-eq-clause-reads g c = c.in-Known.ensures.reads

pub returns-else-eq-clause-told : goal.returns-else-eq-clause-told
returns-else-eq-clause-told g c made in_hand told =
    ap (λ (b : Bool). if b then Magnify ∷ [] else []) (sym c.if-eq.false ∙ c.eq.ensures ∙ ap (λ (t : Place). is_same_place t integer) (c.in-Known.ensures.told made in_hand told))
    ∙ ap (λ (r : Rule). ending (scene_of (g.S.Scopes.state c.args.scopes.now).frame made c.args.site.now.around.now) c.args.of r) (ap (λ (f : ValueFunction). Function f) (sym c.in-Abs.is) ∙ sym c.in-Function.is)

pub returns-in-Cap-clause-reads : goal.returns-in-Cap-clause-reads
returns-in-Cap-clause-reads g c = Reads-refl _

pub returns-in-Cap-clause-told : goal.returns-in-Cap-clause-told
returns-in-Cap-clause-told g c made in_hand told =
    ap (λ (r : Rule). ending (scene_of (g.S.Scopes.state c.args.scopes.now).frame made c.args.site.now.around.now) c.args.of r) (ap (λ (f : ValueFunction). Function f) (sym c.in-Cap.is) ∙ sym c.in-Function.is)

pub returns-in-Known-side_of-clause-reads : goal.returns-in-Known-side_of-clause-reads
returns-in-Known-side_of-clause-reads g c = c.in-Known-side_of.ensures.reads

pub returns-in-Known-side_of-clause-told : goal.returns-in-Known-side_of-clause-told
returns-in-Known-side_of-clause-told g c made in_hand told =
    ap (λ (side : ℕ). Push (pos 2) ∷ Remainder side ∷ Push (pos 1) ∷ Eq ∷ []) (c.in-Known-side_of.ensures.told made in_hand told)
    ∙ ap (λ (r : Rule). ending (scene_of (g.S.Scopes.state c.args.scopes.now).frame made c.args.site.now.around.now) c.args.of r) (ap (λ (f : ValueFunction). Function f) (sym c.in-Odd.is) ∙ sym c.in-Function.is)

pub returns-in_default-clause-reads : goal.returns-in_default-clause-reads
returns-in_default-clause-reads g c = Reads-refl _

pub returns-in_default-clause-told : goal.returns-in_default-clause-told
returns-in_default-clause-told g c made in_hand told =
    let s = scene_of (g.S.Scopes.state c.args.scopes.now).frame made c.args.site.now.around.now in
    no_ending s c.args.of c.in-Function.function c.in_default.not-Abs c.in_default.not-Cap c.in_default.not-Odd ∙ ap (λ (r : Rule). ending s c.args.of r) (sym c.in-Function.is)

pub returns-in-Val-clause-reads : goal.returns-in-Val-clause-reads
returns-in-Val-clause-reads g c = Reads-refl _

pub returns-in-Val-clause-told : goal.returns-in-Val-clause-told
returns-in-Val-clause-told g c made in_hand told =
    ap (λ (r : Rule). ending (scene_of (g.S.Scopes.state c.args.scopes.now).frame made c.args.site.now.around.now) c.args.of r) (sym c.in-Val.is)
