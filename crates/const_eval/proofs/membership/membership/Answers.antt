use Rattle.std.proofs.Common.{◌≡◌, ◌∙◌, ap, sym, subst}
use Rattle.m2_base.specs.Gives.{and_then, gives}
use Rattle.m2_base.specs.Rows.{is_same_place}
use Rattle.m2_base.specs.Standard.{broken}
use Rattle.m2_base.specs.Statics.Operations.{as_number, member_of_set, membership}
use Rattle.m2_base.specs.Statics.Types.{base_by, base_of, kind_of, stands_for}
use Rattle.type_rules.specs.Scenes.{scene_of, IsThere}
use Rattle.type_rules.specs.Sites.{context_of}
use Rattle.type_rules.proofs.Compatibles.{told_later}
use Rattle.type_rules.proofs.Reading.{Reads-trans, Waits_read}
use Rattle.const_eval.proofs.Elements.{in_by, in_none, in_set, none_is, ordinal, within_none, within_some}
use Rattle.const_eval.proofs.Judging.{after_ok, told_first}
use Rattle.const_eval.proofs.Standard.{standard_there}
use Rattle.const_eval.proofs.TypePairs.{by_row}
use Rattle.m2_base.specs.declared.rows.Place.{Place}
use Rattle.type_rules.proofs.Later.{IsThere_read, Suits_read}
use Rattle.const_eval.proofs.Later.{IsOperand_read, SuitsSite_read}
use Rattle.const_eval.proofs.TypesThere.{standard_there as standard_type, type_there}
use Rattle.const_eval.proofs.membership.membership.Goals as goal

pub returns-in_default-clause-told : goal.returns-in_default-clause-told
returns-in_default-clause-told g c made in_hand told =
    let f = (g.S.Scopes.state c.args.scopes.now).frame in
    let s = c.args.site.now in
    let a = s.around.now in
    let now = context_of f made s in
    let x = c.args.x in
    let y = c.args.y in
    let named = ap (λ t. membership now c.args.operator_at x.operand x.at y (kind_of now.scene t)) c.operand_type.ensures in
    in_none now c.args.operator_at x.operand x.at y _ _ (sym (none_is c.in-Known.value c.in_default.not-Some) ∙ c.in-Known.ensures.told made in_hand told) ∙ named

pub returns-then-eq-clause-told : goal.returns-then-eq-clause-told
returns-then-eq-clause-told g c made in_hand told =
    let f = (g.S.Scopes.state c.args.scopes.now).frame in
    let s = c.args.site.now in
    let a = s.around.now in
    let now = context_of f made s in
    let x = c.args.x in
    let y = c.args.y in
    let named = ap (λ t. membership now c.args.operator_at x.operand x.at y (kind_of now.scene t)) c.operand_type.ensures in
    let base = c.in-Some.base in
    let row = in_set now c.args.operator_at x.operand x.at y _ _ (c.in-Some.field-0-0, base) ((rw c.in-Some.is at c.in-Known.ensures.told) made in_hand told) in
    let stood = told_first c.in-Known-stand.value.0 f _ (λ h rows. stands_for (scene_of h rows a) base) c.in-Known.ensures.reads.keeps.frame c.in-Known-stand.ensures.told made in_hand told in
    in_by now c.args.operator_at x.operand x.at y base _ (sym c.if-eq.true ∙ c.eq.ensures ∙ ap (λ t. is_same_place t broken) stood) ∙ row ∙ named

pub returns-in-DontKnowYet-ordinal_element-clause-reads : goal.returns-in-DontKnowYet-ordinal_element-clause-reads
returns-in-DontKnowYet-ordinal_element-clause-reads g c = Reads-trans (Reads-trans c.in-Known.ensures.reads c.in-Known-stand.ensures.reads) c.in-DontKnowYet-ordinal_element.ensures.reads

pub returns-in_default-2-clause-reads : goal.returns-in_default-2-clause-reads
returns-in_default-2-clause-reads g c = Reads-trans (Reads-trans c.in-Known.ensures.reads c.in-Known-stand.ensures.reads) c.in-Known-ordinal_element.ensures.reads

pub returns-in_default-2-clause-told : goal.returns-in_default-2-clause-told
returns-in_default-2-clause-told g c made in_hand told =
    let f = (g.S.Scopes.state c.args.scopes.now).frame in
    let s = c.args.site.now in
    let a = s.around.now in
    let now = context_of f made s in
    let x = c.args.x in
    let y = c.args.y in
    let named = ap (λ t. membership now c.args.operator_at x.operand x.at y (kind_of now.scene t)) c.operand_type.ensures in
    let base = c.in-Some.base in
    let row = in_set now c.args.operator_at x.operand x.at y _ _ (c.in-Some.field-0-0, base) ((rw c.in-Some.is at c.in-Known.ensures.told) made in_hand told) in
    let stood = told_first c.in-Known-stand.value.0 f _ (λ h rows. stands_for (scene_of h rows a) base) c.in-Known.ensures.reads.keeps.frame c.in-Known-stand.ensures.told made in_hand told in
    let kind = told_first c.in-Known-stand.value.1 f _ (λ h rows. kind_of (scene_of h rows a) base) c.in-Known.ensures.reads.keeps.frame c.in-Known-stand.ensures.kind made in_hand told in
    let whole = c.base_by-whole.ensures.base ∙ by_row base_by stood kind in
    let element = told_later f _ (λ h rows. c.base_by-whole.result ≡ base_of (scene_of h rows a) base → c.in-Known-ordinal_element.value ≡ ordinal (context_of h rows s) x.operand base)
    (c.in-Known-stand.ensures.reads.keeps.frame ∙ c.in-Known.ensures.reads.keeps.frame) c.in-Known-ordinal_element.ensures.told made in_hand told whole in
    let sound = in_by now c.args.operator_at x.operand x.at y base _ (sym c.if-eq.false ∙ c.eq.ensures ∙ ap (λ t. is_same_place t broken) stood) in
    within_none now c.args.operator_at x.operand x.at y base (sym (none_is c.in-Known-ordinal_element.value c.in_default-2.not-Some) ∙ element) ∙ sound ∙ row ∙ named

pub returns-in-Ok-clause-reads : goal.returns-in-Ok-clause-reads
returns-in-Ok-clause-reads g c = Reads-trans (Reads-trans c.in-Known.ensures.reads c.in-Known-stand.ensures.reads) c.in-Known-ordinal_element.ensures.reads

pub returns-in-Ok-clause-told : goal.returns-in-Ok-clause-told
returns-in-Ok-clause-told g c made in_hand told =
    let f = (g.S.Scopes.state c.args.scopes.now).frame in
    let s = c.args.site.now in
    let a = s.around.now in
    let now = context_of f made s in
    let x = c.args.x in
    let y = c.args.y in
    let named = ap (λ t. membership now c.args.operator_at x.operand x.at y (kind_of now.scene t)) c.operand_type.ensures in
    let base = c.in-Some.base in
    let row = in_set now c.args.operator_at x.operand x.at y _ _ (c.in-Some.field-0-0, base) ((rw c.in-Some.is at c.in-Known.ensures.told) made in_hand told) in
    let stood = told_first c.in-Known-stand.value.0 f _ (λ h rows. stands_for (scene_of h rows a) base) c.in-Known.ensures.reads.keeps.frame c.in-Known-stand.ensures.told made in_hand told in
    let kind = told_first c.in-Known-stand.value.1 f _ (λ h rows. kind_of (scene_of h rows a) base) c.in-Known.ensures.reads.keeps.frame c.in-Known-stand.ensures.kind made in_hand told in
    let whole = c.base_by-whole.ensures.base ∙ by_row base_by stood kind in
    let element = told_later f _ (λ h rows. c.base_by-whole.result ≡ base_of (scene_of h rows a) base → c.in-Known-ordinal_element.value ≡ ordinal (context_of h rows s) x.operand base)
    (c.in-Known-stand.ensures.reads.keeps.frame ∙ c.in-Known.ensures.reads.keeps.frame) c.in-Known-ordinal_element.ensures.told made in_hand told whole in
    let sound = in_by now c.args.operator_at x.operand x.at y base _ (sym c.if-eq.false ∙ c.eq.ensures ∙ ap (λ t. is_same_place t broken) stood) in
    ap (λ v. gives v) c.member_of_set.ensures.told
    ∙ after_ok _ c.in-Ok.element (λ e. gives (member_of_set e y)) (c.in-Ok.ensures.told now (standard_there f made s c.requires.suits told))
    ∙ ap (λ t. and_then (as_number now x.at t c.in-Some-2.element) (λ e. gives (member_of_set e y))) whole
    ∙ within_some now c.args.operator_at x.operand x.at y base c.in-Some-2.element (sym c.in-Some-2.is ∙ element) ∙ sound ∙ row ∙ named

pub returns-in-Err-clause-reads : goal.returns-in-Err-clause-reads
returns-in-Err-clause-reads g c = Reads-trans (Reads-trans c.in-Known.ensures.reads c.in-Known-stand.ensures.reads) c.in-Known-ordinal_element.ensures.reads

pub returns-in-Err-clause-told : goal.returns-in-Err-clause-told
returns-in-Err-clause-told g c made in_hand told =
    let f = (g.S.Scopes.state c.args.scopes.now).frame in
    let s = c.args.site.now in
    let a = s.around.now in
    let now = context_of f made s in
    let x = c.args.x in
    let y = c.args.y in
    let named = ap (λ t. membership now c.args.operator_at x.operand x.at y (kind_of now.scene t)) c.operand_type.ensures in
    let base = c.in-Some.base in
    let row = in_set now c.args.operator_at x.operand x.at y _ _ (c.in-Some.field-0-0, base) ((rw c.in-Some.is at c.in-Known.ensures.told) made in_hand told) in
    let stood = told_first c.in-Known-stand.value.0 f _ (λ h rows. stands_for (scene_of h rows a) base) c.in-Known.ensures.reads.keeps.frame c.in-Known-stand.ensures.told made in_hand told in
    let kind = told_first c.in-Known-stand.value.1 f _ (λ h rows. kind_of (scene_of h rows a) base) c.in-Known.ensures.reads.keeps.frame c.in-Known-stand.ensures.kind made in_hand told in
    let whole = c.base_by-whole.ensures.base ∙ by_row base_by stood kind in
    let element = told_later f _ (λ h rows. c.base_by-whole.result ≡ base_of (scene_of h rows a) base → c.in-Known-ordinal_element.value ≡ ordinal (context_of h rows s) x.operand base)
    (c.in-Known-stand.ensures.reads.keeps.frame ∙ c.in-Known.ensures.reads.keeps.frame) c.in-Known-ordinal_element.ensures.told made in_hand told whole in
    let sound = in_by now c.args.operator_at x.operand x.at y base _ (sym c.if-eq.false ∙ c.eq.ensures ∙ ap (λ t. is_same_place t broken) stood) in
    ap (λ t. and_then t (λ e. gives (member_of_set e y))) (c.in-Err.ensures.told now (standard_there f made s c.requires.suits told))
    ∙ ap (λ t. and_then (as_number now x.at t c.in-Some-2.element) (λ e. gives (member_of_set e y))) whole
    ∙ within_some now c.args.operator_at x.operand x.at y base c.in-Some-2.element (sym c.in-Some-2.is ∙ element) ∙ sound ∙ row ∙ named

pub set_row-requires-clause-suits : goal.set_row-requires-clause-suits
set_row-requires-clause-suits g c = c.requires.suits.around

pub set_row-requires-clause-there : goal.set_row-requires-clause-there
set_row-requires-clause-there g c = subst (λ (t : Place). IsThere (g.S.Scopes.state c.args.scopes.now).frame t) (sym c.operand_type.ensures) (type_there c.requires.suits.around c.args.y c.requires.y)

pub returns-in-DontKnowYet-clause-reads : goal.returns-in-DontKnowYet-clause-reads
returns-in-DontKnowYet-clause-reads g c = c.in-DontKnowYet.ensures.reads

pub returns-in-DontKnowYet-clause-waits : goal.returns-in-DontKnowYet-clause-waits
returns-in-DontKnowYet-clause-waits g c = c.in-DontKnowYet.ensures.waits

pub returns-in-DontKnowYet-clause-told : goal.returns-in-DontKnowYet-clause-told
returns-in-DontKnowYet-clause-told g c made in_hand told = tt

pub returns-in-DontKnowYet-clause-there : goal.returns-in-DontKnowYet-clause-there
returns-in-DontKnowYet-clause-there g c = tt

pub returns-in_default-clause-reads : goal.returns-in_default-clause-reads
returns-in_default-clause-reads g c = c.in-Known.ensures.reads

pub returns-in_default-clause-waits : goal.returns-in_default-clause-waits
returns-in_default-clause-waits g c = tt

pub returns-in_default-clause-there : goal.returns-in_default-clause-there
returns-in_default-clause-there g c = tt

pub stand-requires-clause-suits : goal.stand-requires-clause-suits
stand-requires-clause-suits g c = Suits_read c.in-Known.ensures.reads c.requires.suits.around

pub stand-requires-clause-there : goal.stand-requires-clause-there
stand-requires-clause-there g c = IsThere_read c.in-Known.ensures.reads (rw c.in-Some.is at c.in-Known.ensures.there).1

pub returns-in-DontKnowYet-stand-clause-reads : goal.returns-in-DontKnowYet-stand-clause-reads
returns-in-DontKnowYet-stand-clause-reads g c = Reads-trans c.in-Known.ensures.reads c.in-DontKnowYet-stand.ensures.reads

pub returns-in-DontKnowYet-stand-clause-waits : goal.returns-in-DontKnowYet-stand-clause-waits
returns-in-DontKnowYet-stand-clause-waits g c = Waits_read c.in-Known.ensures.reads c.in-DontKnowYet-stand.ensures.waits

pub returns-in-DontKnowYet-stand-clause-told : goal.returns-in-DontKnowYet-stand-clause-told
returns-in-DontKnowYet-stand-clause-told g c made in_hand told = tt

pub returns-in-DontKnowYet-stand-clause-there : goal.returns-in-DontKnowYet-stand-clause-there
returns-in-DontKnowYet-stand-clause-there g c = tt

pub returns-then-eq-clause-reads : goal.returns-then-eq-clause-reads
returns-then-eq-clause-reads g c = Reads-trans c.in-Known.ensures.reads c.in-Known-stand.ensures.reads

pub returns-then-eq-clause-waits : goal.returns-then-eq-clause-waits
returns-then-eq-clause-waits g c = tt

pub returns-then-eq-clause-there : goal.returns-then-eq-clause-there
returns-then-eq-clause-there g c = tt

pub ordinal_element-requires-clause-suits : goal.ordinal_element-requires-clause-suits
ordinal_element-requires-clause-suits g c = SuitsSite_read (Reads-trans c.in-Known.ensures.reads c.in-Known-stand.ensures.reads) c.requires.suits

pub ordinal_element-requires-clause-x : goal.ordinal_element-requires-clause-x
ordinal_element-requires-clause-x g c = IsOperand_read c.args.x.operand (Reads-trans c.in-Known.ensures.reads c.in-Known-stand.ensures.reads) c.requires.x

pub ordinal_element-requires-clause-whole : goal.ordinal_element-requires-clause-whole
ordinal_element-requires-clause-whole g c = IsThere_read c.in-Known-stand.ensures.reads (c.base_by-whole.ensures.there _ c.in-Known-stand.ensures.there c.in-Known-stand.ensures.said)

pub returns-in-DontKnowYet-ordinal_element-clause-waits : goal.returns-in-DontKnowYet-ordinal_element-clause-waits
returns-in-DontKnowYet-ordinal_element-clause-waits g c = Waits_read (Reads-trans c.in-Known.ensures.reads c.in-Known-stand.ensures.reads) c.in-DontKnowYet-ordinal_element.ensures.waits

pub returns-in-DontKnowYet-ordinal_element-clause-told : goal.returns-in-DontKnowYet-ordinal_element-clause-told
returns-in-DontKnowYet-ordinal_element-clause-told g c made in_hand told = tt

pub returns-in-DontKnowYet-ordinal_element-clause-there : goal.returns-in-DontKnowYet-ordinal_element-clause-there
returns-in-DontKnowYet-ordinal_element-clause-there g c = tt

pub returns-in_default-2-clause-waits : goal.returns-in_default-2-clause-waits
returns-in_default-2-clause-waits g c = tt

pub returns-in_default-2-clause-there : goal.returns-in_default-2-clause-there
returns-in_default-2-clause-there g c = tt

pub returns-in-Ok-clause-waits : goal.returns-in-Ok-clause-waits
returns-in-Ok-clause-waits g c = tt

pub returns-in-Err-clause-waits : goal.returns-in-Err-clause-waits
returns-in-Err-clause-waits g c = tt

pub returns-in-Err-clause-there : goal.returns-in-Err-clause-there
returns-in-Err-clause-there g c = tt

pub returns-in-Ok-clause-there : goal.returns-in-Ok-clause-there
returns-in-Ok-clause-there g c = c.member_of_set.ensures.there (g.S.Scopes.state c.args.scopes.now).frame (standard_type c.requires.suits.around 3)

pub as_number-requires : goal.as_number-requires
as_number-requires g c = tt

pub eq-requires : goal.eq-requires
eq-requires g c = tt

pub member_of_set-requires : goal.member_of_set-requires
member_of_set-requires g c = tt

pub base_by-whole-requires : goal.base_by-whole-requires
base_by-whole-requires g c = tt

pub operand_type-requires : goal.operand_type-requires
operand_type-requires g c = tt
