use Rattle.std.proofs.Common.{◌≡◌, ◌∙◌, false, true, ap, sym, subst, List, ℕ}
use Rattle.m2_base.specs.Statics.Compatible.{is_compatible}
use Rattle.m2_base.specs.Statics.Operations.{base_type}
use Rattle.m2_base.specs.Statics.Types.{base_of}
use Rattle.m2_base.specs.declared.replies.Ask.TheVariants.{Known}
use Rattle.type_rules.specs.Scenes.{scene_of, IsThere}
use Rattle.type_rules.specs.Sites.{context_of}
use Rattle.type_rules.proofs.Compatibles.{told_met}
use Rattle.type_rules.proofs.Later.{IsThere_read, Suits_read}
use Rattle.type_rules.proofs.Reading.{Reads-trans, Waits_read}
use Rattle.const_eval.proofs.Besides.{none_where, pair_of, some_where}
use Rattle.m2_base.specs.declared.rows.Place.{Place}
use Rattle.const_eval.proofs.TypesThere.{standard_there as standard_type, type_there, operand_named}
use Rattle.m2_base.specs.Units.{UnitTexts}
use Rattle.const_eval.specs.Sites.{IsNamed}
use Rattle.const_eval.proofs.pairs.compatible_pair.Goals as goal

pub compatible_with-requires-clause-suits : goal.compatible_with-requires-clause-suits
compatible_with-requires-clause-suits g c = Suits_read c.in-Known.ensures.reads c.requires.suits.around

pub compatible_with-requires-clause-left : goal.compatible_with-requires-clause-left
compatible_with-requires-clause-left g c = IsThere_read c.in-Known.ensures.reads c.in-Known.ensures.there.0

pub compatible_with-requires-clause-right : goal.compatible_with-requires-clause-right
compatible_with-requires-clause-right g c = IsThere_read c.in-Known.ensures.reads c.in-Known.ensures.there.1

pub returns-in-DontKnowYet-compatible_with-clause-reads : goal.returns-in-DontKnowYet-compatible_with-clause-reads
returns-in-DontKnowYet-compatible_with-clause-reads g c = Reads-trans c.in-Known.ensures.reads c.in-DontKnowYet-compatible_with.ensures.reads

pub returns-in-DontKnowYet-compatible_with-clause-waits : goal.returns-in-DontKnowYet-compatible_with-clause-waits
returns-in-DontKnowYet-compatible_with-clause-waits g c = Waits_read c.in-Known.ensures.reads c.in-DontKnowYet-compatible_with.ensures.waits

pub returns-then-not-value-clause-reads : goal.returns-then-not-value-clause-reads
returns-then-not-value-clause-reads g c = Reads-trans c.in-Known.ensures.reads c.in-Known-compatible_with.ensures.reads

pub returns-clause-reads : goal.returns-clause-reads
returns-clause-reads g c = Reads-trans c.in-Known.ensures.reads c.in-Known-compatible_with.ensures.reads

pub returns-then-not-value-clause-told : goal.returns-then-not-value-clause-told
returns-then-not-value-clause-told g c made in_hand told =
    let f = (g.S.Scopes.state c.args.scopes.now).frame in
    let s = c.args.site.now in
    let fails : c.in-Known-compatible_with.value ≡ false = c.if-not-value.true in
    let holds = told_met (Known c.in-Known-compatible_with.value) f _ (λ h rows. c.in-Known.value.0 ≡ base_type (context_of h rows s) c.args.x) (λ h rows. c.in-Known.value.1 ≡ base_type (context_of h rows s) c.args.y)
    (λ h rows. is_compatible (scene_of h rows s.around.now) c.args.x c.args.y) c.in-Known.ensures.reads.keeps.frame c.in-Known-compatible_with.ensures.told
    (λ made in_hand told. c.in-Known.ensures.left made in_hand told ∙ ap (base_of (scene_of f made s.around.now)) c.operand_type.ensures)
    (λ made in_hand told. c.in-Known.ensures.right made in_hand told ∙ ap (base_of (scene_of f made s.around.now)) c.operand_type-2.ensures) made in_hand told in
    none_where (is_compatible (scene_of f made s.around.now) c.args.x c.args.y) _ (sym holds ∙ fails)

pub returns-clause-told : goal.returns-clause-told
returns-clause-told g c made in_hand told =
    let f = (g.S.Scopes.state c.args.scopes.now).frame in
    let s = c.args.site.now in
    let now = context_of f made s in
    let holds_here : c.in-Known-compatible_with.value ≡ true = c.if-not-value.false in
    let left = c.in-Known.ensures.left made in_hand told ∙ ap (base_of now.scene) c.operand_type.ensures in
    let right = c.in-Known.ensures.right made in_hand told ∙ ap (base_of now.scene) c.operand_type-2.ensures in
    let holds = told_met (Known c.in-Known-compatible_with.value) f _ (λ h rows. c.in-Known.value.0 ≡ base_type (context_of h rows s) c.args.x) (λ h rows. c.in-Known.value.1 ≡ base_type (context_of h rows s) c.args.y)
    (λ h rows. is_compatible (scene_of h rows s.around.now) c.args.x c.args.y) c.in-Known.ensures.reads.keeps.frame c.in-Known-compatible_with.ensures.told
    (λ made in_hand told. c.in-Known.ensures.left made in_hand told ∙ ap (base_of (scene_of f made s.around.now)) c.operand_type.ensures)
    (λ made in_hand told. c.in-Known.ensures.right made in_hand told ∙ ap (base_of (scene_of f made s.around.now)) c.operand_type-2.ensures) made in_hand told in
    some_where (is_compatible now.scene c.args.x c.args.y) _ _ (sym holds ∙ holds_here)
    (pair_of _ _ _ _ (c.taken_beside-first.ensures.told now (sym (ap (λ (t : UnitTexts). t.names) c.texts.view_is)) right) (c.taken_beside-second.ensures.told now (sym (ap (λ (t : UnitTexts). t.names) c.texts.view_is)) left))

pub bases_of-requires-clause-suits : goal.bases_of-requires-clause-suits
bases_of-requires-clause-suits g c = c.requires.suits.around

pub bases_of-requires-clause-x : goal.bases_of-requires-clause-x
bases_of-requires-clause-x g c = (subst (λ (t : Place). IsThere (g.S.Scopes.state c.args.scopes.now).frame t) (sym c.operand_type.ensures) (type_there c.requires.suits.around c.args.x c.requires.x))

pub bases_of-requires-clause-y : goal.bases_of-requires-clause-y
bases_of-requires-clause-y g c = (subst (λ (t : Place). IsThere (g.S.Scopes.state c.args.scopes.now).frame t) (sym c.operand_type-2.ensures) (type_there c.requires.suits.around c.args.y c.requires.y))

pub returns-in-DontKnowYet-clause-reads : goal.returns-in-DontKnowYet-clause-reads
returns-in-DontKnowYet-clause-reads g c = c.in-DontKnowYet.ensures.reads

pub returns-in-DontKnowYet-clause-waits : goal.returns-in-DontKnowYet-clause-waits
returns-in-DontKnowYet-clause-waits g c = c.in-DontKnowYet.ensures.waits

pub returns-in-DontKnowYet-clause-told : goal.returns-in-DontKnowYet-clause-told
returns-in-DontKnowYet-clause-told g c made in_hand told = tt

pub returns-in-DontKnowYet-clause-there : goal.returns-in-DontKnowYet-clause-there
returns-in-DontKnowYet-clause-there g c = tt

pub returns-in-DontKnowYet-compatible_with-clause-told : goal.returns-in-DontKnowYet-compatible_with-clause-told
returns-in-DontKnowYet-compatible_with-clause-told g c made in_hand told = tt

pub returns-in-DontKnowYet-compatible_with-clause-there : goal.returns-in-DontKnowYet-compatible_with-clause-there
returns-in-DontKnowYet-compatible_with-clause-there g c = tt

pub returns-then-not-value-clause-waits : goal.returns-then-not-value-clause-waits
returns-then-not-value-clause-waits g c = tt

pub returns-then-not-value-clause-there : goal.returns-then-not-value-clause-there
returns-then-not-value-clause-there g c = tt

pub returns-clause-waits : goal.returns-clause-waits
returns-clause-waits g c = tt

pub returns-clause-there : goal.returns-clause-there
returns-clause-there g c = (c.taken_beside-first.ensures.there (g.S.Scopes.state c.args.scopes.now).frame (standard_type c.requires.suits.around 2) c.requires.x, c.taken_beside-second.ensures.there (g.S.Scopes.state c.args.scopes.now).frame (standard_type c.requires.suits.around 2) c.requires.y)

pub taken_beside-first-requires : goal.taken_beside-first-requires
taken_beside-first-requires g c = subst (λ (l : List (List ℕ)). IsNamed l c.args.x) (sym (ap (λ (t : UnitTexts). t.names) c.texts.view_is)) (operand_named c.requires.suits c.args.x c.requires.x)

pub taken_beside-second-requires : goal.taken_beside-second-requires
taken_beside-second-requires g c = subst (λ (l : List (List ℕ)). IsNamed l c.args.y) (sym (ap (λ (t : UnitTexts). t.names) c.texts.view_is)) (operand_named c.requires.suits c.args.y c.requires.y)

pub operand_type-requires : goal.operand_type-requires
operand_type-requires g c = tt

pub operand_type-requires-2 : goal.operand_type-requires-2
operand_type-requires-2 g c = tt
