use Rattle.std.proofs.Common.{◌≡◌, ◌∙◌, Bool, Ok, ap, sym, subst, if◌then◌else◌}
use Rattle.m2_base.specs.Gives.{gives}
use Rattle.m2_base.specs.Standard.{cardinal}
use Rattle.m2_base.specs.Statics.Compatible.{is_integer_or_cardinal}
use Rattle.m2_base.specs.States.{Frame}
use Rattle.m2_base.specs.Statics.Contexts.{refuse}
use Rattle.m2_base.specs.Statics.Diagnostics.{wrong_argument}
use Rattle.m2_base.specs.Statics.Operands.{operand_type}
use Rattle.m2_base.specs.declared.replies.Ask.TheVariants.{Known}
use Rattle.m2_base.specs.declared.rows.Place.{Place}
use Rattle.const_eval.specs.Sites.{IsOperand}
use Rattle.const_eval.proofs.TypesThere.{standard_there, type_there}
use Rattle.type_rules.specs.Scenes.{IsThere}
use Rattle.type_rules.specs.Sites.{context_of}
use Rattle.block_code.specs.Coded.{in_error}
use Rattle.expr_sem.specs.Codings.{IsCoded, coded_in}
use Rattle.block_code.specs.StandardProcedures.{beside, number_of_type, step_type}
use Rattle.block_code.specs.Values.{as_value, in_range}
use Rattle.expr_sem.proofs.Following.{by_coding, by_question, followed_by, then_waits}
use Rattle.expr_sem.proofs.Making.{after_question}
use Rattle.expr_sem.proofs.Operating.{coding_after, described, unknown, unmade}
use Rattle.expr_sem.proofs.Selecting.{error_alone, stays_read}
use Rattle.type_rules.proofs.Reading.{Reads-trans}
use Rattle.const_eval.proofs.Later.{SuitsSite_read}
use Rattle.expr_sem.proofs.step_numbers.step_number.Goals as goal
use Rattle.expr_sem.proofs.step_numbers.step_number.Goals.{then-is_integer_or_cardinal, else-is_integer_or_cardinal}

pub returns-in-DontKnowYet : goal.returns-in-DontKnowYet
returns-in-DontKnowYet g c nodes h = unknown (rw c.in-DontKnowYet.is at c.in-Ok.ensures (g.S.Scopes.state c.args.scopes.now) nodes h)

pub returns-in-Err : goal.returns-in-Err
returns-in-Err g c nodes h = unmade (c.in-Err.ensures (g.S.Scopes.state c.args.scopes.now) nodes h) _

pub returns-then-either_bad : goal.returns-then-either_bad
returns-then-either_bad g c nodes h =
    let one = rw c.in-Known.is at c.in-Ok.ensures (g.S.Scopes.state c.args.scopes.now) nodes h in
    coding_after (λ k. as_value k c.args.n.at (coded_in nodes c.args.n.coded)) (λ v k. beside (coded_in nodes c.args.x) (number_of_type k c.args.n.at (step_type k.scene (operand_type c.args.x.operand))) v) (Ok (Known c.in_error.result)) one
    (error_alone _ _ nodes _ c.in_error.result _ c.in_error.ensures.told c.in_error.ensures.there
    (λ k. ap (λ (b : Bool). if b then gives in_error else number_of_type k c.args.n.at (step_type k.scene (operand_type c.args.x.operand)) (coded_in nodes c.in-Known.value)) (sym c.if-either_bad.true ∙ c.either_bad.ensures)))

pub base_of-requires-clause-there : goal.base_of-requires-clause-there
base_of-requires-clause-there g c =
    subst (λ (t : Place). IsThere (g.S.Scopes.state c.args.scopes.now).frame t) (sym c.operand_type.ensures) (type_there c.requires.suits.around c.args.x.operand c.requires.x)

pub returns-in-DontKnowYet-base_of : goal.returns-in-DontKnowYet-base_of
returns-in-DontKnowYet-base_of g c nodes h =
    then_waits (by_coding (c.in-Ok.ensures (g.S.Scopes.state c.args.scopes.now) nodes h)) c.base_of.ensures.reads c.in-DontKnowYet-base_of.ensures.waits

pub is_step-requires-clause-operand : goal.is_step-requires-clause-operand
is_step-requires-clause-operand g c =
    stays_read (λ (f : Frame). IsOperand f c.in-Known.value.operand) c.in-Known-base_of.ensures.reads
    (rw c.in-Known.is at c.in-Ok.ensures (g.S.Scopes.state c.args.scopes.now) c.requires.n.0 c.requires.n.1).there.operand

pub returns-in-DontKnowYet-is_step : goal.returns-in-DontKnowYet-is_step
returns-in-DontKnowYet-is_step g c nodes h =
    then_waits (followed_by (by_coding (c.in-Ok.ensures (g.S.Scopes.state c.args.scopes.now) nodes h)) (by_question _ nodes c.in-Known-base_of.ensures.reads)) c.is_step.ensures.reads c.in-DontKnowYet-is_step.ensures.waits

pub in_range-requires-clause-to : goal.in_range-requires-clause-to
in_range-requires-clause-to g c =
    let f = (g.S.Scopes.state c.args.scopes.now).frame in
    let there : IsThere f c.if-is_integer_or_cardinal.want = elim c.if-is_integer_or_cardinal.branch [
      | then-is_integer_or_cardinal w ↦ subst (λ (t : Place). IsThere f t) (sym w.want-is) c.in-Known-base_of.ensures.there
      | else-is_integer_or_cardinal w ↦ subst (λ (t : Place). IsThere f t) (sym w.want-is) (standard_there c.requires.suits.around 1)
    ] in
    stays_read (λ (e : Frame). IsThere e c.if-is_integer_or_cardinal.want) c.in-Known-is_step.ensures.reads (stays_read (λ (e : Frame). IsThere e c.if-is_integer_or_cardinal.want) c.in-Known-base_of.ensures.reads there)

pub returns-then-holds : goal.returns-then-holds
returns-then-holds g c nodes h =
    let want : c.if-is_integer_or_cardinal.want ≡ (if is_integer_or_cardinal c.in-Known-base_of.value then c.in-Known-base_of.value else cardinal) = elim c.if-is_integer_or_cardinal.branch [
      | then-is_integer_or_cardinal w ↦ w.want-is ∙ ap (λ (b : Bool). if b then c.in-Known-base_of.value else cardinal) (sym w.if-is_integer_or_cardinal.true ∙ c.is_integer_or_cardinal.ensures)
      | else-is_integer_or_cardinal w ↦ w.want-is ∙ ap (λ (b : Bool). if b then c.in-Known-base_of.value else cardinal) (sym w.if-is_integer_or_cardinal.false ∙ c.is_integer_or_cardinal.ensures)
    ] in
    let v = coded_in nodes c.in-Known.value in
    let one = rw c.in-Known.is at c.in-Ok.ensures (g.S.Scopes.state c.args.scopes.now) nodes h in
    let first = c.in-Known-base_of.ensures.reads in
    let second = c.in-Known-is_step.ensures.reads in
    coding_after (λ k. as_value k c.args.n.at (coded_in nodes c.args.n.coded)) (λ v k. beside (coded_in nodes c.args.x) (number_of_type k c.args.n.at (step_type k.scene (operand_type c.args.x.operand))) v) c.in_range.result one
    (described c.in_range.result
    (after_question {h = λ k. number_of_type k c.args.n.at (step_type k.scene c.operand_type.result) v} c.in_range.result first
    (after_question {h = λ k. number_of_type k c.args.n.at c.if-is_integer_or_cardinal.want v} c.in_range.result second (c.in_range.ensures nodes (stays_read (λ (f : Frame). IsCoded f nodes c.in-Known.value) second (stays_read (λ (f : Frame). IsCoded f nodes c.in-Known.value) first one.there)))
    (λ made in_hand told. let k = context_of (g.S.Scopes.state c.base_of.new.scopes).frame made c.args.site.now in
    ap (λ (b : Bool). if b then in_range k c.args.n.at c.if-is_integer_or_cardinal.want v else refuse k c.args.n.at wrong_argument in_error) (sym c.if-holds.true ∙ c.in-Known-is_step.ensures.told made in_hand told)))
    (λ made in_hand told. let k = context_of (g.S.Scopes.state c.args.scopes.now).frame made c.args.site.now in
    ap (λ (t : Place). number_of_type k c.args.n.at t v) (want ∙ ap (λ (b : Place). if is_integer_or_cardinal b then b else cardinal) (c.in-Known-base_of.ensures.told made in_hand told))))
    (λ k. ap (λ (t : Place). number_of_type k c.args.n.at (step_type k.scene t) v) c.operand_type.ensures
    ∙ ap (λ (b : Bool). if b then gives in_error else number_of_type k c.args.n.at (step_type k.scene (operand_type c.args.x.operand)) v) (sym c.if-either_bad.false ∙ c.either_bad.ensures)))

pub returns-else-holds : goal.returns-else-holds
returns-else-holds g c nodes h =
    let want : c.if-is_integer_or_cardinal.want ≡ (if is_integer_or_cardinal c.in-Known-base_of.value then c.in-Known-base_of.value else cardinal) = elim c.if-is_integer_or_cardinal.branch [
      | then-is_integer_or_cardinal w ↦ w.want-is ∙ ap (λ (b : Bool). if b then c.in-Known-base_of.value else cardinal) (sym w.if-is_integer_or_cardinal.true ∙ c.is_integer_or_cardinal.ensures)
      | else-is_integer_or_cardinal w ↦ w.want-is ∙ ap (λ (b : Bool). if b then c.in-Known-base_of.value else cardinal) (sym w.if-is_integer_or_cardinal.false ∙ c.is_integer_or_cardinal.ensures)
    ] in
    let v = coded_in nodes c.in-Known.value in
    let one = rw c.in-Known.is at c.in-Ok.ensures (g.S.Scopes.state c.args.scopes.now) nodes h in
    coding_after (λ k. as_value k c.args.n.at (coded_in nodes c.args.n.coded)) (λ v k. beside (coded_in nodes c.args.x) (number_of_type k c.args.n.at (step_type k.scene (operand_type c.args.x.operand))) v) c.refused.result one
    (described c.refused.result
    (after_question {h = λ k. number_of_type k c.args.n.at (step_type k.scene c.operand_type.result) v} c.refused.result c.in-Known-base_of.ensures.reads
    (after_question {h = λ k. number_of_type k c.args.n.at c.if-is_integer_or_cardinal.want v} c.refused.result c.in-Known-is_step.ensures.reads (c.refused.ensures (g.S.Scopes.state c.is_step.new.scopes) nodes)
    (λ made in_hand told. let k = context_of (g.S.Scopes.state c.base_of.new.scopes).frame made c.args.site.now in
    ap (λ (b : Bool). if b then in_range k c.args.n.at c.if-is_integer_or_cardinal.want v else refuse k c.args.n.at wrong_argument in_error) (sym c.if-holds.false ∙ c.in-Known-is_step.ensures.told made in_hand told)))
    (λ made in_hand told. let k = context_of (g.S.Scopes.state c.args.scopes.now).frame made c.args.site.now in
    ap (λ (t : Place). number_of_type k c.args.n.at t v) (want ∙ ap (λ (b : Place). if is_integer_or_cardinal b then b else cardinal) (c.in-Known-base_of.ensures.told made in_hand told))))
    (λ k. ap (λ (t : Place). number_of_type k c.args.n.at (step_type k.scene t) v) c.operand_type.ensures
    ∙ ap (λ (b : Bool). if b then gives in_error else number_of_type k c.args.n.at (step_type k.scene (operand_type c.args.x.operand)) v) (sym c.if-either_bad.false ∙ c.either_bad.ensures)))

pub is_step-requires-clause-suits : goal.is_step-requires-clause-suits
is_step-requires-clause-suits g c = SuitsSite_read c.base_of.ensures.reads c.requires.suits

pub in_range-requires-clause-suits : goal.in_range-requires-clause-suits
in_range-requires-clause-suits g c = SuitsSite_read (Reads-trans c.base_of.ensures.reads c.is_step.ensures.reads) c.requires.suits
