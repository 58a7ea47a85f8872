use Rattle.std.proofs.Common.{◌≡◌, ◌∙◌, ◌==◌, ◌&&◌, ℕ, Bool, true, Option, Some, None, ap, arith, refl, sym}
use Rattle.std.specs.Prelude.{is_some, option_map}
use Rattle.std.proofs.lemmas.Bool.Decides.{nat_tests}
use Rattle.m2_base.specs.Statics.Contexts.{Scene}
use Rattle.m2_base.specs.Statics.Types.{range_of}
use Rattle.m2_base.specs.declared.rows.Mode.{Mode}
use Rattle.m2_base.specs.declared.rows.Mode.TheVariants.{Plain}
use Rattle.m2_base.specs.declared.rows.Place.{Place}
use Rattle.m2_base.specs.declared.rows.RowMeaning.{RowMeaning}
use Rattle.m2_base.specs.declared.rows.RowMeaning.TheVariants.{Var}
use Rattle.type_rules.specs.Scenes.{scene_of}
use Rattle.block_code.specs.Counting.{can_control, is_plain}
use Rattle.stmt_sem.proofs.control_variables.can_control.Goals as goal

-- a variable of the block itself
own : (scene : Scene) (s : ℕ) (t : Place) (m : Mode) (o : ℕ) (b : Bool) → (s == scene.block.scope) ≡ true → m ≡ Plain → b ≡ is_some (range_of scene t) → b ≡ can_control scene s (Var t m o)
own scene s t m o b same plain e =
    e ∙ ap (λ (x : Bool). x && true && is_some (range_of scene t)) (sym same)
    ∙ ap (λ (k : Mode). (s == scene.block.scope) && is_plain k && is_some (range_of scene t)) (sym plain)

same_scope : (s n : ℕ) → s ≡ n → (s == n) ≡ true
same_scope s n e = grind (arith, nat_tests)

some_mapped : {A B : Type 0} (f : A → B) (o : Option A) → is_some o ≡ is_some (option_map f o)
some_mapped f None = refl
some_mapped f (Some x) = refl

pub returns-in-Known-clause-told : goal.returns-in-Known-clause-told
returns-in-Known-clause-told g c made in_hand told =
    let scene = scene_of (g.S.Scopes.state c.args.scopes.now).frame made c.args.around.now in
    let s = c.args.entry.0.scope in
    let arm = c.in-Var-default-Plain-default in
    own scene s arm.of arm.field-1 arm.field-2 c.is_some.result (same_scope s c.args.around.now.scope c.if-entry-around.false) arm.field-1-is (c.is_some.ensures ∙ some_mapped _ c.in-Known.value ∙ ap is_some (c.in-Known.ensures.told made in_hand told))
    ∙ ap (λ (m : RowMeaning). can_control scene s m) (sym arm.is ∙ c.read_row.ensures)
