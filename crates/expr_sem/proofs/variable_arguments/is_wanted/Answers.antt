use Rattle.std.proofs.Common.{◌≡◌, ◌∙◌, None, Option, Some, ap, false, option_map, refl, sym}
use Rattle.std.specs.Prelude.{is_some}
use Rattle.m2_base.specs.Statics.Operations.{is_set_kind}
use Rattle.m2_base.specs.declared.rows.Place.{Place}
use Rattle.m2_base.specs.declared.rows.RowMeaning.{RowMeaning}
use Rattle.m2_base.specs.declared.rows.RowMeaning.TheVariants.{Pointer, Set}
use Rattle.type_rules.specs.Scenes.{scene_of}
use Rattle.block_code.specs.StandardProcedures.{is_pointer_type}
use Rattle.expr_sem.specs.VariableArguments.{is_wanted as spec_wanted}
use Rattle.expr_sem.specs.declared.variable_arguments.Wanted.{Wanted}
use Rattle.expr_sem.proofs.variable_arguments.is_wanted.Goals as goal

no_set : (m : RowMeaning) → ((p : Place) → m ≡ Set p → ⊥) → false ≡ is_set_kind m
no_set (Set p) h = absurd (h p refl)
no_set m h = refl

no_pointer : (m : RowMeaning) → ((p : Place) → m ≡ Pointer p → ⊥) → false ≡ is_pointer_type m
no_pointer (Pointer p) h = absurd (h p refl)
no_pointer m h = refl

-- a part of what is there is there
kept_some : {A B : Type 0} (f : A → B) (o : Option A) → is_some (option_map f o) ≡ is_some o
kept_some f None = refl
kept_some f (Some x) = refl

pub range_of-requires-clause-suits : goal.range_of-requires-clause-suits
range_of-requires-clause-suits g c = c.requires.suits.around

pub range_of-requires-clause-there : goal.range_of-requires-clause-there
range_of-requires-clause-there g c = c.requires.of

pub stand-requires-clause-suits : goal.stand-requires-clause-suits
stand-requires-clause-suits g c = c.requires.suits.around

pub stand-requires-clause-there : goal.stand-requires-clause-there
stand-requires-clause-there g c = c.requires.of

pub stand-requires-in-Pointer-clause-suits : goal.stand-requires-in-Pointer-clause-suits
stand-requires-in-Pointer-clause-suits g c = c.requires.suits.around

pub stand-requires-in-Pointer-clause-there : goal.stand-requires-in-Pointer-clause-there
stand-requires-in-Pointer-clause-there g c = c.requires.of

pub returns-in-DontKnowYet-clause-reads : goal.returns-in-DontKnowYet-clause-reads
returns-in-DontKnowYet-clause-reads g c = c.in-DontKnowYet.ensures.reads

pub returns-in-DontKnowYet-clause-waits : goal.returns-in-DontKnowYet-clause-waits
returns-in-DontKnowYet-clause-waits g c = c.in-DontKnowYet.ensures.waits

pub returns-in-DontKnowYet-clause-told : goal.returns-in-DontKnowYet-clause-told
returns-in-DontKnowYet-clause-told g c made in_hand told = tt

pub returns-in-DontKnowYet-stand-clause-reads : goal.returns-in-DontKnowYet-stand-clause-reads
returns-in-DontKnowYet-stand-clause-reads g c = c.in-DontKnowYet-stand.ensures.reads

pub returns-in-DontKnowYet-stand-clause-waits : goal.returns-in-DontKnowYet-stand-clause-waits
returns-in-DontKnowYet-stand-clause-waits g c = c.in-DontKnowYet-stand.ensures.waits

pub returns-in-DontKnowYet-stand-clause-told : goal.returns-in-DontKnowYet-stand-clause-told
returns-in-DontKnowYet-stand-clause-told g c made in_hand told = tt

pub returns-in-DontKnowYet-stand-2-clause-reads : goal.returns-in-DontKnowYet-stand-2-clause-reads
returns-in-DontKnowYet-stand-2-clause-reads g c = c.in-DontKnowYet-stand-2.ensures.reads

pub returns-in-DontKnowYet-stand-2-clause-waits : goal.returns-in-DontKnowYet-stand-2-clause-waits
returns-in-DontKnowYet-stand-2-clause-waits g c = c.in-DontKnowYet-stand-2.ensures.waits

pub returns-in-DontKnowYet-stand-2-clause-told : goal.returns-in-DontKnowYet-stand-2-clause-told
returns-in-DontKnowYet-stand-2-clause-told g c made in_hand told = tt

pub returns-in-Known-clause-reads : goal.returns-in-Known-clause-reads
returns-in-Known-clause-reads g c = c.in-Known.ensures.reads

pub returns-in-Known-clause-waits : goal.returns-in-Known-clause-waits
returns-in-Known-clause-waits g c = tt

pub returns-in-Set-matches-clause-reads : goal.returns-in-Set-matches-clause-reads
returns-in-Set-matches-clause-reads g c = c.in-Known-stand.ensures.reads

pub returns-in-Set-matches-clause-waits : goal.returns-in-Set-matches-clause-waits
returns-in-Set-matches-clause-waits g c = tt

pub returns-in-Pointer-matches-clause-reads : goal.returns-in-Pointer-matches-clause-reads
returns-in-Pointer-matches-clause-reads g c = c.in-Known-stand-2.ensures.reads

pub returns-in-Pointer-matches-clause-waits : goal.returns-in-Pointer-matches-clause-waits
returns-in-Pointer-matches-clause-waits g c = tt

pub returns-in-Known-clause-told : goal.returns-in-Known-clause-told
returns-in-Known-clause-told g c made in_hand told =
    let scene = scene_of (g.S.Scopes.state c.args.scopes.now).frame made c.args.site.now.around.now in
    c.is_some.ensures ∙ sym (kept_some _ c.in-Known.value) ∙ ap is_some (c.in-Known.ensures.told made in_hand told) ∙ ap (λ (w : Wanted). spec_wanted scene w c.args.of) (sym c.in-Ordinal.is)

pub returns-in_default-clause-reads : goal.returns-in_default-clause-reads
returns-in_default-clause-reads g c = c.in-Known-stand.ensures.reads

pub returns-in_default-clause-told : goal.returns-in_default-clause-told
returns-in_default-clause-told g c made in_hand told =
    let scene = scene_of (g.S.Scopes.state c.args.scopes.now).frame made c.args.site.now.around.now in
    no_set c.in-Known-stand.value.1 c.in_default.not-Set ∙ ap is_set_kind (c.in-Known-stand.ensures.kind made in_hand told) ∙ ap (λ (w : Wanted). spec_wanted scene w c.args.of) (sym c.in-Set.is)

pub returns-in_default-matches-clause-reads : goal.returns-in_default-matches-clause-reads
returns-in_default-matches-clause-reads g c = c.in-Known-stand-2.ensures.reads

pub returns-in_default-matches-clause-told : goal.returns-in_default-matches-clause-told
returns-in_default-matches-clause-told g c made in_hand told =
    let scene = scene_of (g.S.Scopes.state c.args.scopes.now).frame made c.args.site.now.around.now in
    no_pointer c.in-Known-stand-2.value.1 c.in_default-matches.not-Pointer ∙ ap is_pointer_type (c.in-Known-stand-2.ensures.kind made in_hand told) ∙ ap (λ (w : Wanted). spec_wanted scene w c.args.of) (sym c.in-Pointer.is)

pub returns-in_default-clause-waits : goal.returns-in_default-clause-waits
returns-in_default-clause-waits g c = tt

pub returns-in_default-matches-clause-waits : goal.returns-in_default-matches-clause-waits
returns-in_default-matches-clause-waits g c = tt
