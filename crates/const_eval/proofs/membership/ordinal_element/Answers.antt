use Rattle.std.proofs.Common.{◌≡◌, ◌∙◌, ap, false, sym, true, subst, List, ℕ}
use Rattle.m2_base.specs.Statics.Compatible.{is_compatible}
use Rattle.m2_base.specs.Statics.Operands.{operand_type}
use Rattle.m2_base.specs.Statics.Operations.{is_ordinal}
use Rattle.m2_base.specs.Statics.Types.{base_of}
use Rattle.m2_base.specs.declared.operands.Operand.TheVariants.{Computed}
use Rattle.type_rules.specs.Scenes.{scene_of, IsThere}
use Rattle.type_rules.specs.Sites.{context_of}
use Rattle.type_rules.proofs.Compatibles.{told_later}
use Rattle.type_rules.proofs.Later.{IsThere_read, Suits_read}
use Rattle.type_rules.proofs.Reading.{Reads-trans, Waits_read}
use Rattle.const_eval.proofs.Elements.{ordinal_none, ordinal_some}
use Rattle.const_eval.proofs.Judging.{told_first}
use Rattle.const_eval.proofs.Later.{SuitsSite_read, IsOperand_read}
use Rattle.m2_base.specs.declared.rows.Place.{Place}
use Rattle.const_eval.proofs.TypesThere.{standard_there as standard_type, type_there, operand_named}
use Rattle.m2_base.specs.Units.{UnitTexts}
use Rattle.const_eval.specs.Sites.{IsNamed}
use Rattle.const_eval.proofs.membership.ordinal_element.Goals as goal

pub compatible_with-requires-clause-suits : goal.compatible_with-requires-clause-suits
compatible_with-requires-clause-suits g c = Suits_read c.in-Known.ensures.reads c.requires.suits.around

pub compatible_with-requires-clause-left : goal.compatible_with-requires-clause-left
compatible_with-requires-clause-left g c = IsThere_read c.in-Known.ensures.reads c.in-Known.ensures.there

pub compatible_with-requires-clause-right : goal.compatible_with-requires-clause-right
compatible_with-requires-clause-right g c = IsThere_read c.in-Known.ensures.reads c.requires.whole

pub is_ordinal-requires-clause-suits : goal.is_ordinal-requires-clause-suits
is_ordinal-requires-clause-suits g c = SuitsSite_read (Reads-trans c.in-Known.ensures.reads c.in-Known-compatible_with.ensures.reads) c.requires.suits

pub returns-in-DontKnowYet-compatible_with-clause-reads : goal.returns-in-DontKnowYet-compatible_with-clause-reads
returns-in-DontKnowYet-compatible_with-clause-reads g c = Reads-trans c.in-Known.ensures.reads c.in-DontKnowYet-compatible_with.ensures.reads

pub returns-in-DontKnowYet-compatible_with-clause-waits : goal.returns-in-DontKnowYet-compatible_with-clause-waits
returns-in-DontKnowYet-compatible_with-clause-waits g c = Waits_read c.in-Known.ensures.reads c.in-DontKnowYet-compatible_with.ensures.waits

pub returns-then-not-value-clause-reads : goal.returns-then-not-value-clause-reads
returns-then-not-value-clause-reads g c = Reads-trans c.in-Known.ensures.reads c.in-Known-compatible_with.ensures.reads

pub returns-in-DontKnowYet-is_ordinal-clause-waits : goal.returns-in-DontKnowYet-is_ordinal-clause-waits
returns-in-DontKnowYet-is_ordinal-clause-waits g c = Waits_read (Reads-trans c.in-Known.ensures.reads c.in-Known-compatible_with.ensures.reads) c.in-DontKnowYet-is_ordinal.ensures.waits

pub returns-then-not-value-clause-told : goal.returns-then-not-value-clause-told
returns-then-not-value-clause-told g c made in_hand told whole =
    let f = (g.S.Scopes.state c.args.scopes.now).frame in
    let s = c.args.site.now in
    let a = s.around.now in
    let now = context_of f made s in
    let fails : c.in-Known-compatible_with.value ≡ false = c.if-not-value.true in
    let is = told_later f _ (λ h rows. c.in-Known.value ≡ base_of (scene_of h rows a) (operand_type c.args.x) → c.args.whole ≡ base_of (scene_of h rows a) c.args.base
    → c.in-Known-compatible_with.value ≡ is_compatible (scene_of h rows a) c.args.x (Computed c.args.base)) c.in-Known.ensures.reads.keeps.frame c.in-Known-compatible_with.ensures.told made in_hand told
    (c.in-Known.ensures.told made in_hand told ∙ ap (base_of now.scene) c.operand_type.ensures) whole in
    ordinal_none now c.args.x c.args.base (sym is ∙ fails)

pub returns-then-value-clause-told : goal.returns-then-value-clause-told
returns-then-value-clause-told g c made in_hand told whole =
    let f = (g.S.Scopes.state c.args.scopes.now).frame in
    let s = c.args.site.now in
    let a = s.around.now in
    let now = context_of f made s in
    let holds : c.in-Known-compatible_with.value ≡ true = c.if-not-value.false in
    let is = told_later f _ (λ h rows. c.in-Known.value ≡ base_of (scene_of h rows a) (operand_type c.args.x) → c.args.whole ≡ base_of (scene_of h rows a) c.args.base
    → c.in-Known-compatible_with.value ≡ is_compatible (scene_of h rows a) c.args.x (Computed c.args.base)) c.in-Known.ensures.reads.keeps.frame c.in-Known-compatible_with.ensures.told made in_hand told
    (c.in-Known.ensures.told made in_hand told ∙ ap (base_of now.scene) c.operand_type.ensures) whole in
    ordinal_some now c.args.x c.args.base c.taken_beside-element.result true (sym is ∙ holds) (c.taken_beside-element.ensures.told now (sym (ap (λ (t : UnitTexts). t.names) c.texts.view_is)) whole)
    (sym c.if-value.true ∙ told_first _ f _ (λ h rows. is_ordinal (context_of h rows s) c.taken_beside-element.result) (c.in-Known-compatible_with.ensures.reads.keeps.frame ∙ c.in-Known.ensures.reads.keeps.frame) c.in-Known-is_ordinal.ensures.told made in_hand told)

pub returns-else-value-clause-told : goal.returns-else-value-clause-told
returns-else-value-clause-told g c made in_hand told whole =
    let f = (g.S.Scopes.state c.args.scopes.now).frame in
    let s = c.args.site.now in
    let a = s.around.now in
    let now = context_of f made s in
    let holds : c.in-Known-compatible_with.value ≡ true = c.if-not-value.false in
    let is = told_later f _ (λ h rows. c.in-Known.value ≡ base_of (scene_of h rows a) (operand_type c.args.x) → c.args.whole ≡ base_of (scene_of h rows a) c.args.base
    → c.in-Known-compatible_with.value ≡ is_compatible (scene_of h rows a) c.args.x (Computed c.args.base)) c.in-Known.ensures.reads.keeps.frame c.in-Known-compatible_with.ensures.told made in_hand told
    (c.in-Known.ensures.told made in_hand told ∙ ap (base_of now.scene) c.operand_type.ensures) whole in
    ordinal_some now c.args.x c.args.base c.taken_beside-element.result false (sym is ∙ holds) (c.taken_beside-element.ensures.told now (sym (ap (λ (t : UnitTexts). t.names) c.texts.view_is)) whole)
    (sym c.if-value.false ∙ told_first _ f _ (λ h rows. is_ordinal (context_of h rows s) c.taken_beside-element.result) (c.in-Known-compatible_with.ensures.reads.keeps.frame ∙ c.in-Known.ensures.reads.keeps.frame) c.in-Known-is_ordinal.ensures.told made in_hand told)

pub returns-in-DontKnowYet-is_ordinal-clause-reads : goal.returns-in-DontKnowYet-is_ordinal-clause-reads
returns-in-DontKnowYet-is_ordinal-clause-reads g c = Reads-trans (Reads-trans c.in-Known.ensures.reads c.in-Known-compatible_with.ensures.reads) c.in-DontKnowYet-is_ordinal.ensures.reads

pub returns-then-value-clause-reads : goal.returns-then-value-clause-reads
returns-then-value-clause-reads g c = Reads-trans (Reads-trans c.in-Known.ensures.reads c.in-Known-compatible_with.ensures.reads) c.in-Known-is_ordinal.ensures.reads

pub returns-else-value-clause-reads : goal.returns-else-value-clause-reads
returns-else-value-clause-reads g c = Reads-trans (Reads-trans c.in-Known.ensures.reads c.in-Known-compatible_with.ensures.reads) c.in-Known-is_ordinal.ensures.reads

pub base_of-requires-clause-suits : goal.base_of-requires-clause-suits
base_of-requires-clause-suits g c = c.requires.suits.around

pub base_of-requires-clause-there : goal.base_of-requires-clause-there
base_of-requires-clause-there g c = (subst (λ (t : Place). IsThere (g.S.Scopes.state c.args.scopes.now).frame t) (sym c.operand_type.ensures) (type_there c.requires.suits.around c.args.x c.requires.x))

pub returns-in-DontKnowYet-clause-reads : goal.returns-in-DontKnowYet-clause-reads
returns-in-DontKnowYet-clause-reads g c = c.in-DontKnowYet.ensures.reads

pub returns-in-DontKnowYet-clause-waits : goal.returns-in-DontKnowYet-clause-waits
returns-in-DontKnowYet-clause-waits g c = c.in-DontKnowYet.ensures.waits

pub returns-in-DontKnowYet-clause-told : goal.returns-in-DontKnowYet-clause-told
returns-in-DontKnowYet-clause-told g c made in_hand told = tt

pub returns-in-DontKnowYet-clause-there : goal.returns-in-DontKnowYet-clause-there
returns-in-DontKnowYet-clause-there g c = tt

pub returns-in-DontKnowYet-compatible_with-clause-told : goal.returns-in-DontKnowYet-compatible_with-clause-told
returns-in-DontKnowYet-compatible_with-clause-told g c made in_hand told = tt

pub returns-in-DontKnowYet-compatible_with-clause-there : goal.returns-in-DontKnowYet-compatible_with-clause-there
returns-in-DontKnowYet-compatible_with-clause-there g c = tt

pub returns-then-not-value-clause-waits : goal.returns-then-not-value-clause-waits
returns-then-not-value-clause-waits g c = tt

pub returns-then-not-value-clause-there : goal.returns-then-not-value-clause-there
returns-then-not-value-clause-there g c = tt

pub is_ordinal-requires-clause-x : goal.is_ordinal-requires-clause-x
is_ordinal-requires-clause-x g c = IsOperand_read c.taken_beside-element.result (Reads-trans c.in-Known.ensures.reads c.in-Known-compatible_with.ensures.reads) (c.taken_beside-element.ensures.there (g.S.Scopes.state c.args.scopes.now).frame (standard_type c.requires.suits.around 2) c.requires.x)

pub returns-in-DontKnowYet-is_ordinal-clause-told : goal.returns-in-DontKnowYet-is_ordinal-clause-told
returns-in-DontKnowYet-is_ordinal-clause-told g c made in_hand told = tt

pub returns-in-DontKnowYet-is_ordinal-clause-there : goal.returns-in-DontKnowYet-is_ordinal-clause-there
returns-in-DontKnowYet-is_ordinal-clause-there g c = tt

pub returns-then-value-clause-waits : goal.returns-then-value-clause-waits
returns-then-value-clause-waits g c = tt

pub returns-then-value-clause-there : goal.returns-then-value-clause-there
returns-then-value-clause-there g c = c.taken_beside-element.ensures.there (g.S.Scopes.state c.args.scopes.now).frame (standard_type c.requires.suits.around 2) c.requires.x

pub returns-else-value-clause-waits : goal.returns-else-value-clause-waits
returns-else-value-clause-waits g c = tt

pub returns-else-value-clause-there : goal.returns-else-value-clause-there
returns-else-value-clause-there g c = tt

pub taken_beside-element-requires : goal.taken_beside-element-requires
taken_beside-element-requires g c = subst (λ (l : List (List ℕ)). IsNamed l c.args.x) (sym (ap (λ (t : UnitTexts). t.names) c.texts.view_is)) (operand_named c.requires.suits c.args.x c.requires.x)

pub operand_type-requires : goal.operand_type-requires
operand_type-requires g c = tt
