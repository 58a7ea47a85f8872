use Rattle.std.proofs.Common.{◌≡◌, ◌∙◌, ap, false, subst, sym, true, List, ℕ}
use Rattle.m2_base.specs.States.{Frame}
use Rattle.std.specs.Prelude.{◌&&◌}
use Rattle.m2_base.specs.Statics.Compatible.{is_compatible, is_number_type}
use Rattle.m2_base.specs.Statics.Operands.{operand_type}
use Rattle.m2_base.specs.Statics.Operations.{on_alike, on_scalars}
use Rattle.m2_base.specs.Statics.Types.{base_by, base_of, kind_of, stands_for}
use Rattle.type_rules.specs.Scenes.{IsSaid, IsThere, scene_of}
use Rattle.type_rules.specs.Sites.{context_of}
use Rattle.type_rules.proofs.Compatibles.{told_later}
use Rattle.type_rules.proofs.Later.{Suits_read, IsThere_read, Waits_asked}
use Rattle.type_rules.proofs.Reading.{Reads-trans, Waits_read}
use Rattle.const_eval.specs.Based.{IsBased, IsBasedHere}
use Rattle.const_eval.proofs.Judging.{judged_met, told_first}
use Rattle.const_eval.proofs.Later.{SuitsSite_read, IsOperand_given}
use Rattle.const_eval.proofs.Operating.{both_hold, first_fails, second_fails}
use Rattle.const_eval.proofs.Refusals.{alike_by, by_bases, values, values_at}
use Rattle.const_eval.proofs.Standard.{standard_there}
use Rattle.const_eval.proofs.TypePairs.{alike_types, by_row}
use Rattle.const_eval.proofs.TypesThere.{standard_there as standard_type, type_there, operand_named}
use Rattle.m2_base.specs.declared.rows.Place.{Place}
use Rattle.m2_base.specs.Units.{UnitTexts}
use Rattle.const_eval.specs.Sites.{IsNamed}
use Rattle.const_eval.proofs.operators.on_alike.Goals as goal
use Rattle.const_eval.proofs.operators.on_alike.Goals.{else-is_number-via-then-is_number+else-is_number-2, else-is_number-via-else-is_number}

pub stand-requires-2-clause-suits : goal.stand-requires-2-clause-suits
stand-requires-2-clause-suits g c = Suits_read c.in-Known.ensures.reads c.requires.suits.around

pub compatible_with-requires-clause-suits : goal.compatible_with-requires-clause-suits
compatible_with-requires-clause-suits g c = Suits_read (Reads-trans c.in-Known.ensures.reads c.in-Known-stand.ensures.reads) c.requires.suits.around

pub on_scalars-requires-clause-suits : goal.on_scalars-requires-clause-suits
on_scalars-requires-clause-suits g c = SuitsSite_read (Reads-trans (Reads-trans c.in-Known.ensures.reads c.in-Known-stand.ensures.reads) c.in-Known-compatible_with.ensures.reads) c.requires.suits

pub returns-in-DontKnowYet-stand-clause-reads : goal.returns-in-DontKnowYet-stand-clause-reads
returns-in-DontKnowYet-stand-clause-reads g c = Reads-trans c.in-Known.ensures.reads c.in-DontKnowYet-stand.ensures.reads

pub returns-in-DontKnowYet-stand-clause-waits : goal.returns-in-DontKnowYet-stand-clause-waits
returns-in-DontKnowYet-stand-clause-waits g c = Waits_read c.in-Known.ensures.reads c.in-DontKnowYet-stand.ensures.waits

pub returns-then-are_sets_alike-clause-reads : goal.returns-then-are_sets_alike-clause-reads
returns-then-are_sets_alike-clause-reads g c = Reads-trans c.in-Known.ensures.reads c.in-Known-stand.ensures.reads

pub returns-then-are_sets_alike-clause-told : goal.returns-then-are_sets_alike-clause-told
returns-then-are_sets_alike-clause-told g c made in_hand told =
    let f = (g.S.Scopes.state c.args.scopes.now).frame in
    let s = c.args.site.now in
    let a = s.around.now in
    let now = context_of f made s in
    let op = c.args.operator.operator in
    let x = c.args.x.operand in
    let y = c.args.y.operand in
    let x_place = c.in-Known.ensures.told made in_hand told ∙ ap (stands_for now.scene) c.operand_type.ensures in
    let x_kind = c.in-Known.ensures.kind made in_hand told ∙ ap (kind_of now.scene) c.operand_type.ensures in
    let y_place = told_first c.in-Known-stand.value.0 f _ (λ h rows. stands_for (scene_of h rows a) c.operand_type-2.result) c.in-Known.ensures.reads.keeps.frame c.in-Known-stand.ensures.told made in_hand told
    ∙ ap (stands_for now.scene) c.operand_type-2.ensures in
    let y_kind = told_first c.in-Known-stand.value.1 f _ (λ h rows. kind_of (scene_of h rows a) c.operand_type-2.result) c.in-Known.ensures.reads.keeps.frame c.in-Known-stand.ensures.kind made in_hand told
    ∙ ap (kind_of now.scene) c.operand_type-2.ensures in
    let alike = alike_types now x y c.in-Known.value.0 c.in-Known-stand.value.0 c.in-Known.value.1 c.in-Known-stand.value.1 x_place x_kind y_place y_kind in
    c.set_operation.ensures.told now
    ∙ alike_by now op c.args.operator.at x c.args.x.at y c.args.y.at _ (sym c.if-are_sets_alike.true ∙ c.are_sets_alike.ensures ∙ alike)

pub returns-in-DontKnowYet-compatible_with-clause-reads : goal.returns-in-DontKnowYet-compatible_with-clause-reads
returns-in-DontKnowYet-compatible_with-clause-reads g c = Reads-trans (Reads-trans c.in-Known.ensures.reads c.in-Known-stand.ensures.reads) c.in-DontKnowYet-compatible_with.ensures.reads

pub returns-in-DontKnowYet-compatible_with-clause-waits : goal.returns-in-DontKnowYet-compatible_with-clause-waits
returns-in-DontKnowYet-compatible_with-clause-waits g c = Waits_read (Reads-trans c.in-Known.ensures.reads c.in-Known-stand.ensures.reads) c.in-DontKnowYet-compatible_with.ensures.waits

pub returns-then-not-value-clause-reads : goal.returns-then-not-value-clause-reads
returns-then-not-value-clause-reads g c = Reads-trans (Reads-trans c.in-Known.ensures.reads c.in-Known-stand.ensures.reads) c.in-Known-compatible_with.ensures.reads

pub returns-then-not-value-clause-told : goal.returns-then-not-value-clause-told
returns-then-not-value-clause-told g c made in_hand told =
    let f = (g.S.Scopes.state c.args.scopes.now).frame in
    let s = c.args.site.now in
    let a = s.around.now in
    let now = context_of f made s in
    let op = c.args.operator.operator in
    let x = c.args.x.operand in
    let y = c.args.y.operand in
    let x_place = c.in-Known.ensures.told made in_hand told ∙ ap (stands_for now.scene) c.operand_type.ensures in
    let x_kind = c.in-Known.ensures.kind made in_hand told ∙ ap (kind_of now.scene) c.operand_type.ensures in
    let y_place = told_first c.in-Known-stand.value.0 f _ (λ h rows. stands_for (scene_of h rows a) c.operand_type-2.result) c.in-Known.ensures.reads.keeps.frame c.in-Known-stand.ensures.told made in_hand told
    ∙ ap (stands_for now.scene) c.operand_type-2.ensures in
    let y_kind = told_first c.in-Known-stand.value.1 f _ (λ h rows. kind_of (scene_of h rows a) c.operand_type-2.result) c.in-Known.ensures.reads.keeps.frame c.in-Known-stand.ensures.kind made in_hand told
    ∙ ap (kind_of now.scene) c.operand_type-2.ensures in
    let alike = alike_types now x y c.in-Known.value.0 c.in-Known-stand.value.0 c.in-Known.value.1 c.in-Known-stand.value.1 x_place x_kind y_place y_kind in
    let left = c.base_by-first.ensures.base ∙ by_row base_by x_place x_kind in
    let right = c.base_by-second.ensures.base ∙ by_row base_by y_place y_kind in
    let is = told_later f _ (λ h rows. c.base_by-first.result ≡ base_of (scene_of h rows a) (operand_type x) → c.base_by-second.result ≡ base_of (scene_of h rows a) (operand_type y)
    → c.in-Known-compatible_with.value ≡ is_compatible (scene_of h rows a) x y) (c.in-Known-stand.ensures.reads.keeps.frame ∙ c.in-Known.ensures.reads.keeps.frame)
    c.in-Known-compatible_with.ensures.told made in_hand told left right in
    let other = alike_by now op c.args.operator.at x c.args.x.at y c.args.y.at _ (sym c.if-are_sets_alike.false ∙ c.are_sets_alike.ensures ∙ alike) in
    let fails : c.in-Known-compatible_with.value ≡ false = c.if-not-value.true in
    ap (values now op c.args.operator.at x c.args.x.at y c.args.y.at) (sym fails ∙ is) ∙ other

pub on_scalars-requires-clause-x : goal.on_scalars-requires-clause-x
on_scalars-requires-clause-x g c =
    subst (λ (f : Frame). IsBasedHere f c.taken-left.result) (sym (c.in-Known-compatible_with.ensures.reads.keeps.frame ∙ c.in-Known-stand.ensures.reads.keeps.frame ∙ c.in-Known.ensures.reads.keeps.frame))
    (c.taken-left.ensures.there (g.S.Scopes.state c.args.scopes.now).frame (standard_type c.requires.suits.around 2) c.requires.x (c.base_by-first.ensures.there (g.S.Scopes.state c.args.scopes.now).frame c.in-Known.ensures.there c.in-Known.ensures.said))

pub on_scalars-requires-clause-y : goal.on_scalars-requires-clause-y
on_scalars-requires-clause-y g c =
    subst (λ (f : Frame). IsBasedHere f c.taken-right.result) (sym (c.in-Known-compatible_with.ensures.reads.keeps.frame ∙ c.in-Known-stand.ensures.reads.keeps.frame ∙ c.in-Known.ensures.reads.keeps.frame))
    (c.taken-right.ensures.there (g.S.Scopes.state c.args.scopes.now).frame (standard_type c.requires.suits.around 2) c.requires.y
    (c.base_by-second.ensures.there (g.S.Scopes.state c.args.scopes.now).frame (subst (λ (f : Frame). IsThere f c.in-Known-stand.value.0) c.in-Known.ensures.reads.keeps.frame c.in-Known-stand.ensures.there)
    (subst (λ (f : Frame). IsSaid f c.in-Known-stand.value.0 c.in-Known-stand.value.1) c.in-Known.ensures.reads.keeps.frame c.in-Known-stand.ensures.said)))

pub returns-then-is_number-2-clause-reads : goal.returns-then-is_number-2-clause-reads
returns-then-is_number-2-clause-reads g c = Reads-trans (Reads-trans c.in-Known.ensures.reads c.in-Known-stand.ensures.reads) c.in-Known-compatible_with.ensures.reads

pub returns-then-is_number-2-clause-there : goal.returns-then-is_number-2-clause-there
returns-then-is_number-2-clause-there g c =
    c.on_numbers.ensures.there (g.S.Scopes.state c.args.scopes.now).frame c.args.site.now.around.now c.requires.suits.around
    (c.taken-left.ensures.there (g.S.Scopes.state c.args.scopes.now).frame (standard_type c.requires.suits.around 2) c.requires.x (c.base_by-first.ensures.there (g.S.Scopes.state c.args.scopes.now).frame c.in-Known.ensures.there c.in-Known.ensures.said))
    (c.taken-right.ensures.there (g.S.Scopes.state c.args.scopes.now).frame (standard_type c.requires.suits.around 2) c.requires.y
    (c.base_by-second.ensures.there (g.S.Scopes.state c.args.scopes.now).frame (subst (λ (f : Frame). IsThere f c.in-Known-stand.value.0) c.in-Known.ensures.reads.keeps.frame c.in-Known-stand.ensures.there)
    (subst (λ (f : Frame). IsSaid f c.in-Known-stand.value.0 c.in-Known-stand.value.1) c.in-Known.ensures.reads.keeps.frame c.in-Known-stand.ensures.said)))

pub returns-then-is_number-2-clause-told : goal.returns-then-is_number-2-clause-told
returns-then-is_number-2-clause-told g c made in_hand told =
    let f = (g.S.Scopes.state c.args.scopes.now).frame in
    let s = c.args.site.now in
    let a = s.around.now in
    let now = context_of f made s in
    let op = c.args.operator.operator in
    let x = c.args.x.operand in
    let y = c.args.y.operand in
    let x_place = c.in-Known.ensures.told made in_hand told ∙ ap (stands_for now.scene) c.operand_type.ensures in
    let x_kind = c.in-Known.ensures.kind made in_hand told ∙ ap (kind_of now.scene) c.operand_type.ensures in
    let y_place = told_first c.in-Known-stand.value.0 f _ (λ h rows. stands_for (scene_of h rows a) c.operand_type-2.result) c.in-Known.ensures.reads.keeps.frame c.in-Known-stand.ensures.told made in_hand told
    ∙ ap (stands_for now.scene) c.operand_type-2.ensures in
    let y_kind = told_first c.in-Known-stand.value.1 f _ (λ h rows. kind_of (scene_of h rows a) c.operand_type-2.result) c.in-Known.ensures.reads.keeps.frame c.in-Known-stand.ensures.kind made in_hand told
    ∙ ap (kind_of now.scene) c.operand_type-2.ensures in
    let alike = alike_types now x y c.in-Known.value.0 c.in-Known-stand.value.0 c.in-Known.value.1 c.in-Known-stand.value.1 x_place x_kind y_place y_kind in
    let left = c.base_by-first.ensures.base ∙ by_row base_by x_place x_kind in
    let right = c.base_by-second.ensures.base ∙ by_row base_by y_place y_kind in
    let is = told_later f _ (λ h rows. c.base_by-first.result ≡ base_of (scene_of h rows a) (operand_type x) → c.base_by-second.result ≡ base_of (scene_of h rows a) (operand_type y)
    → c.in-Known-compatible_with.value ≡ is_compatible (scene_of h rows a) x y) (c.in-Known-stand.ensures.reads.keeps.frame ∙ c.in-Known.ensures.reads.keeps.frame)
    c.in-Known-compatible_with.ensures.told made in_hand told left right in
    let other = alike_by now op c.args.operator.at x c.args.x.at y c.args.y.at _ (sym c.if-are_sets_alike.false ∙ c.are_sets_alike.ensures ∙ alike) in
    let holds : c.in-Known-compatible_with.value ≡ true = c.if-not-value.false in
    let standard = standard_there f made s c.requires.suits told in
    let first = c.taken-left.result in
    let second = c.taken-right.result in
    let x_based = c.taken-left.ensures.based now (sym (ap (λ (t : UnitTexts). t.names) c.texts.view_is)) standard left right in
    let y_based = c.taken-right.ensures.based now (sym (ap (λ (t : UnitTexts). t.names) c.texts.view_is)) standard right left in
    let taken = values_at now op c.args.operator.at x c.args.x.at y c.args.y.at first.operand first.at second.operand second.at
    (c.taken-left.ensures.told now (sym (ap (λ (t : UnitTexts). t.names) c.texts.view_is)) right) c.taken-left.ensures.at (c.taken-right.ensures.told now (sym (ap (λ (t : UnitTexts). t.names) c.texts.view_is)) left) c.taken-right.ensures.at (sym is ∙ holds) in
    c.on_numbers.ensures.told now standard x_based y_based
    ∙ by_bases now op c.args.operator.at first.operand first.at second.operand second.at first.base second.base true x_based y_based
    (sym (both_hold _ _ (sym c.is_number.ensures ∙ c.if-is_number.true) (sym c.is_number-then-is_number.ensures ∙ c.if-is_number-2.true)))
    ∙ taken ∙ other

pub returns-else-is_number-clause-reads : goal.returns-else-is_number-clause-reads
returns-else-is_number-clause-reads g c = Reads-trans (Reads-trans (Reads-trans c.in-Known.ensures.reads c.in-Known-stand.ensures.reads) c.in-Known-compatible_with.ensures.reads) c.on_scalars.ensures.reads

pub returns-else-is_number-clause-told : goal.returns-else-is_number-clause-told
returns-else-is_number-clause-told g c made in_hand told =
    let f = (g.S.Scopes.state c.args.scopes.now).frame in
    let s = c.args.site.now in
    let a = s.around.now in
    let now = context_of f made s in
    let op = c.args.operator.operator in
    let x = c.args.x.operand in
    let y = c.args.y.operand in
    let x_place = c.in-Known.ensures.told made in_hand told ∙ ap (stands_for now.scene) c.operand_type.ensures in
    let x_kind = c.in-Known.ensures.kind made in_hand told ∙ ap (kind_of now.scene) c.operand_type.ensures in
    let y_place = told_first c.in-Known-stand.value.0 f _ (λ h rows. stands_for (scene_of h rows a) c.operand_type-2.result) c.in-Known.ensures.reads.keeps.frame c.in-Known-stand.ensures.told made in_hand told
    ∙ ap (stands_for now.scene) c.operand_type-2.ensures in
    let y_kind = told_first c.in-Known-stand.value.1 f _ (λ h rows. kind_of (scene_of h rows a) c.operand_type-2.result) c.in-Known.ensures.reads.keeps.frame c.in-Known-stand.ensures.kind made in_hand told
    ∙ ap (kind_of now.scene) c.operand_type-2.ensures in
    let alike = alike_types now x y c.in-Known.value.0 c.in-Known-stand.value.0 c.in-Known.value.1 c.in-Known-stand.value.1 x_place x_kind y_place y_kind in
    let left = c.base_by-first.ensures.base ∙ by_row base_by x_place x_kind in
    let right = c.base_by-second.ensures.base ∙ by_row base_by y_place y_kind in
    let is = told_later f _ (λ h rows. c.base_by-first.result ≡ base_of (scene_of h rows a) (operand_type x) → c.base_by-second.result ≡ base_of (scene_of h rows a) (operand_type y)
    → c.in-Known-compatible_with.value ≡ is_compatible (scene_of h rows a) x y) (c.in-Known-stand.ensures.reads.keeps.frame ∙ c.in-Known.ensures.reads.keeps.frame)
    c.in-Known-compatible_with.ensures.told made in_hand told left right in
    let other = alike_by now op c.args.operator.at x c.args.x.at y c.args.y.at _ (sym c.if-are_sets_alike.false ∙ c.are_sets_alike.ensures ∙ alike) in
    let holds : c.in-Known-compatible_with.value ≡ true = c.if-not-value.false in
    let standard = standard_there f made s c.requires.suits told in
    let first = c.taken-left.result in
    let second = c.taken-right.result in
    let x_based = c.taken-left.ensures.based now (sym (ap (λ (t : UnitTexts). t.names) c.texts.view_is)) standard left right in
    let y_based = c.taken-right.ensures.based now (sym (ap (λ (t : UnitTexts). t.names) c.texts.view_is)) standard right left in
    let taken = values_at now op c.args.operator.at x c.args.x.at y c.args.y.at first.operand first.at second.operand second.at
    (c.taken-left.ensures.told now (sym (ap (λ (t : UnitTexts). t.names) c.texts.view_is)) right) c.taken-left.ensures.at (c.taken-right.ensures.told now (sym (ap (λ (t : UnitTexts). t.names) c.texts.view_is)) left) c.taken-right.ensures.at (sym is ∙ holds) in
    let none : (is_number_type first.base && is_number_type second.base) ≡ false = elim c.else-is_number.branch [
      | else-is_number-via-then-is_number+else-is_number-2 w ↦ second_fails _ _ (sym w.is_number-then-is_number.ensures ∙ w.if-is_number-2.false)
      | else-is_number-via-else-is_number w ↦ first_fails _ _ (sym c.is_number.ensures ∙ w.if-is_number.false)
    ] in
    judged_met c.on_scalars.result f _ s (λ h rows. IsBased (context_of h rows s) first) (λ h rows. IsBased (context_of h rows s) second)
    (λ h rows. on_scalars (context_of h rows s) op c.args.operator.at first.operand second.operand) made (on_alike now op c.args.operator.at x c.args.x.at y c.args.y.at)
    (c.in-Known-compatible_with.ensures.reads.keeps.frame ∙ c.in-Known-stand.ensures.reads.keeps.frame ∙ c.in-Known.ensures.reads.keeps.frame) c.on_scalars.ensures.told x_based y_based
    (by_bases now op c.args.operator.at first.operand first.at second.operand second.at first.base second.base false x_based y_based none ∙ taken ∙ other) in_hand told

pub stand-requires-clause-suits : goal.stand-requires-clause-suits
stand-requires-clause-suits g c = c.requires.suits.around

pub stand-requires-clause-there : goal.stand-requires-clause-there
stand-requires-clause-there g c = (subst (λ (t : Place). IsThere (g.S.Scopes.state c.args.scopes.now).frame t) (sym c.operand_type.ensures) (type_there c.requires.suits.around c.args.x.operand c.requires.x))

pub returns-in-DontKnowYet-clause-reads : goal.returns-in-DontKnowYet-clause-reads
returns-in-DontKnowYet-clause-reads g c = c.in-DontKnowYet.ensures.reads

pub returns-in-DontKnowYet-clause-waits : goal.returns-in-DontKnowYet-clause-waits
returns-in-DontKnowYet-clause-waits g c = c.in-DontKnowYet.ensures.waits

pub returns-in-DontKnowYet-clause-told : goal.returns-in-DontKnowYet-clause-told
returns-in-DontKnowYet-clause-told g c made in_hand told = tt

pub returns-in-DontKnowYet-clause-there : goal.returns-in-DontKnowYet-clause-there
returns-in-DontKnowYet-clause-there g c = tt

pub stand-requires-2-clause-there : goal.stand-requires-2-clause-there
stand-requires-2-clause-there g c = IsThere_read c.in-Known.ensures.reads (subst (λ (t : Place). IsThere (g.S.Scopes.state c.args.scopes.now).frame t) (sym c.operand_type-2.ensures) (type_there c.requires.suits.around c.args.y.operand c.requires.y))

pub returns-in-DontKnowYet-stand-clause-told : goal.returns-in-DontKnowYet-stand-clause-told
returns-in-DontKnowYet-stand-clause-told g c made in_hand told = tt

pub returns-in-DontKnowYet-stand-clause-there : goal.returns-in-DontKnowYet-stand-clause-there
returns-in-DontKnowYet-stand-clause-there g c = tt

pub returns-then-are_sets_alike-clause-waits : goal.returns-then-are_sets_alike-clause-waits
returns-then-are_sets_alike-clause-waits g c = tt

pub returns-then-are_sets_alike-clause-there : goal.returns-then-are_sets_alike-clause-there
returns-then-are_sets_alike-clause-there g c = c.set_operation.ensures.there (g.S.Scopes.state c.args.scopes.now).frame (type_there c.requires.suits.around c.args.x.operand c.requires.x) (standard_type c.requires.suits.around 3)

pub compatible_with-requires-clause-left : goal.compatible_with-requires-clause-left
compatible_with-requires-clause-left g c = IsThere_read (Reads-trans c.in-Known.ensures.reads c.in-Known-stand.ensures.reads) (c.base_by-first.ensures.there (g.S.Scopes.state c.args.scopes.now).frame c.in-Known.ensures.there c.in-Known.ensures.said)

pub compatible_with-requires-clause-right : goal.compatible_with-requires-clause-right
compatible_with-requires-clause-right g c = IsThere_read c.in-Known-stand.ensures.reads (c.base_by-second.ensures.there _ c.in-Known-stand.ensures.there c.in-Known-stand.ensures.said)

pub returns-in-DontKnowYet-compatible_with-clause-told : goal.returns-in-DontKnowYet-compatible_with-clause-told
returns-in-DontKnowYet-compatible_with-clause-told g c made in_hand told = tt

pub returns-in-DontKnowYet-compatible_with-clause-there : goal.returns-in-DontKnowYet-compatible_with-clause-there
returns-in-DontKnowYet-compatible_with-clause-there g c = tt

pub returns-then-not-value-clause-waits : goal.returns-then-not-value-clause-waits
returns-then-not-value-clause-waits g c = tt

pub returns-then-not-value-clause-there : goal.returns-then-not-value-clause-there
returns-then-not-value-clause-there g c = tt

pub returns-then-is_number-2-clause-waits : goal.returns-then-is_number-2-clause-waits
returns-then-is_number-2-clause-waits g c = tt

pub returns-else-is_number-clause-waits : goal.returns-else-is_number-clause-waits
returns-else-is_number-clause-waits g c = Waits_asked c.on_scalars.result _ (Reads-trans (Reads-trans c.in-Known.ensures.reads c.in-Known-stand.ensures.reads) c.in-Known-compatible_with.ensures.reads) c.on_scalars.ensures.waits

pub returns-else-is_number-clause-there : goal.returns-else-is_number-clause-there
returns-else-is_number-clause-there g c = IsOperand_given c.on_scalars.result (Reads-trans (Reads-trans c.in-Known.ensures.reads c.in-Known-stand.ensures.reads) c.in-Known-compatible_with.ensures.reads) c.on_scalars.ensures.there

pub taken-left-requires : goal.taken-left-requires
taken-left-requires g c = subst (λ (l : List (List ℕ)). IsNamed l c.args.x.operand) (sym (ap (λ (t : UnitTexts). t.names) c.texts.view_is)) (operand_named c.requires.suits c.args.x.operand c.requires.x)

pub taken-right-requires : goal.taken-right-requires
taken-right-requires g c = subst (λ (l : List (List ℕ)). IsNamed l c.args.y.operand) (sym (ap (λ (t : UnitTexts). t.names) c.texts.view_is)) (operand_named c.requires.suits c.args.y.operand c.requires.y)

pub are_sets_alike-requires : goal.are_sets_alike-requires
are_sets_alike-requires g c = tt

pub is_number-requires : goal.is_number-requires
is_number-requires g c = tt

pub is_number-requires-then-is_number : goal.is_number-requires-then-is_number
is_number-requires-then-is_number g c = tt

pub on_numbers-requires : goal.on_numbers-requires
on_numbers-requires g c = tt

pub set_operation-requires : goal.set_operation-requires
set_operation-requires g c = tt

pub base_by-first-requires : goal.base_by-first-requires
base_by-first-requires g c = tt

pub base_by-second-requires : goal.base_by-second-requires
base_by-second-requires g c = tt

pub operand_type-requires : goal.operand_type-requires
operand_type-requires g c = tt

pub operand_type-requires-2 : goal.operand_type-requires-2
operand_type-requires-2 g c = tt
