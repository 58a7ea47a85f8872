use Rattle.std.proofs.Common.{◌∙◌, ℕ, Bool, ap, sym, refl, if◌then◌else◌}
use Rattle.m2_base.specs.Gives.{and_then, gives}
use Rattle.m2_base.specs.States.{Frame}
use Rattle.m2_base.specs.Statics.Contexts.{Context, refuse}
use Rattle.m2_base.specs.Statics.Diagnostics.{not_boolean}
use Rattle.m2_base.specs.Statics.Operations.{is_boolean}
use Rattle.m2_base.specs.Views.{expr_view}
use Rattle.const_eval.proofs.ReadParts.{at_seen}
use Rattle.type_rules.specs.Sites.{SuitsSite, context_of}
use Rattle.block_code.specs.Coded.{value_code}
use Rattle.expr_sem.specs.Codings.{IsCoded, IsFragment, coded_in, with_types}
use Rattle.block_code.specs.Expressions.{value}
use Rattle.expr_sem.specs.Fragments.{part}
use Rattle.block_code.specs.Parts.{none}
use Rattle.expr_sem.specs.declared.fragments.Fragment.TheVariants.{Nothing}
use Rattle.expr_sem.proofs.Following.{by_coding, then_waits}
use Rattle.expr_sem.proofs.Making.{after_question, made_alone}
use Rattle.expr_sem.proofs.Onwards.{suits_after}
use Rattle.expr_sem.proofs.Operating.{coding_after, described, unknown, unmade}
use Rattle.expr_sem.proofs.Refusing.{not_noted, refused_here}
use Rattle.expr_sem.proofs.Selecting.{stays_read}
use Rattle.expr_sem.proofs.Walking.{stands_after}
use Rattle.block_code.specs.Tests.{false_code, test_code}
use Rattle.stmt_sem.proofs.walker.Walker.test.Goals as goal

pub returns-in-DontKnowYet-clause-codes : goal.returns-in-DontKnowYet-clause-codes
returns-in-DontKnowYet-clause-codes g c = unknown (rw c.in-DontKnowYet.is at c.in-Ok.ensures.codes)

pub returns-in-Err-clause-codes : goal.returns-in-Err-clause-codes
returns-in-Err-clause-codes g c = unmade c.in-Err.ensures.codes _

pub is_boolean-requires-clause-suits : goal.is_boolean-requires-clause-suits
is_boolean-requires-clause-suits g c = suits_after (rw c.in-Known.is at c.in-Ok.ensures.codes) c.requires.stand.suits

pub is_boolean-requires-clause-operand : goal.is_boolean-requires-clause-operand
is_boolean-requires-clause-operand g c = (stands_after (rw c.in-Known.is at c.in-Ok.ensures.codes)).operand

pub returns-in-DontKnowYet-is_boolean-clause-codes : goal.returns-in-DontKnowYet-is_boolean-clause-codes
returns-in-DontKnowYet-is_boolean-clause-codes g c = then_waits (by_coding c.in-Ok.ensures.codes) c.is_boolean.ensures.reads c.in-DontKnowYet-is_boolean.ensures.waits

pub value_code-requires-clause-suits : goal.value_code-requires-clause-suits
value_code-requires-clause-suits g c =
    stays_read (λ (f : Frame). SuitsSite f c.args.stand.now.site.now) c.in-Known-is_boolean.ensures.reads (suits_after (rw c.in-Known.is at c.in-Ok.ensures.codes) c.requires.stand.suits)

pub value_code-requires-clause-x : goal.value_code-requires-clause-x
value_code-requires-clause-x g c =
    stays_read (λ (f : Frame). IsCoded f c.value_of.new.self.fragments.now.nodes.items c.in-Known.value) c.in-Known-is_boolean.ensures.reads (stands_after (rw c.in-Known.is at c.in-Ok.ensures.codes))

pub returns-then-is_bad-clause-codes : goal.returns-then-is_bad-clause-codes
returns-then-is_bad-clause-codes g c =
    let e = c.args.e.now in
    let ws = with_types c.args.stand.now.withs.now in
    let w = c.value_of.new.self in
    let x = c.in-Known.value in
    described c.answered.result (coding_after (λ k. value k ws (expr_view e)) (λ y k. test_code k e.at y) c.answered.result (rw c.in-Known.is at c.in-Ok.ensures.codes)
    (described c.answered.result (made_alone w.notes.now c.false_code.result c.answered.result (λ k. false_code) c.answered.ensures c.false_code.ensures (λ made. refl))
    (λ k. ap (λ (b : Bool). if b then gives false_code else if is_boolean k x.operand then gives (value_code k (coded_in w.fragments.now.nodes.items x)) else refuse k e.at not_boolean false_code) (sym c.if-is_bad.true ∙ c.is_bad.ensures))))
    (λ k. ap (λ (at : ℕ). and_then (value k ws (expr_view e)) (λ y. test_code k at y)) (sym (at_seen e)))

pub returns-then-boolean-clause-codes : goal.returns-then-boolean-clause-codes
returns-then-boolean-clause-codes g c =
    let e = c.args.e.now in
    let ws = with_types c.args.stand.now.withs.now in
    let w = c.value_of.new.self in
    let x = c.in-Known.value in
    let v = λ (k : Context). gives (value_code k (coded_in w.fragments.now.nodes.items x)) in
    described c.value_code.result (coding_after (λ k. value k ws (expr_view e)) (λ y k. test_code k e.at y) c.value_code.result (rw c.in-Known.is at c.in-Ok.ensures.codes)
    (after_question c.value_code.result c.in-Known-is_boolean.ensures.reads (c.value_code.ensures w.notes.now)
    (λ made in_hand told. let k = context_of (g.S.Scopes.state w.scopes.now).frame made c.args.stand.now.site.now in
    ap (λ (b : Bool). if b then v k else refuse k e.at not_boolean false_code) (sym c.if-boolean.true ∙ c.in-Known-is_boolean.ensures.told made in_hand told)
    ∙ ap (λ (b : Bool). if b then gives false_code else if is_boolean k x.operand then v k else refuse k e.at not_boolean false_code) (sym c.if-is_bad.false ∙ c.is_bad.ensures))))
    (λ k. ap (λ (at : ℕ). and_then (value k ws (expr_view e)) (λ y. test_code k at y)) (sym (at_seen e)))

pub returns-in_err-noted-clause-codes : goal.returns-in_err-noted-clause-codes
returns-in_err-noted-clause-codes g c =
    let e = c.args.e.now in
    let ws = with_types c.args.stand.now.withs.now in
    let w = c.value_of.new.self in
    let x = c.in-Known.value in
    described c.from_residual.result (coding_after (λ k. value k ws (expr_view e)) (λ y k. test_code k e.at y) c.from_residual.result (rw c.in-Known.is at c.in-Ok.ensures.codes)
    (after_question {h = λ k. test_code k e.at (coded_in w.fragments.now.nodes.items x)} c.from_residual.result c.in-Known-is_boolean.ensures.reads
    (not_noted (g.S.Scopes.state c.is_boolean.new.scopes) w.notes.now c.noted.new.notes w.fragments.now.nodes.items c.args.stand.now.site.now IsFragment part (λ k. test_code k e.at (coded_in w.fragments.now.nodes.items x)) c.from_residual.result c.from_residual.ensures.0 c.in_err-noted.ensures.answers c.in_err-noted.ensures.kept)
    (λ made in_hand told. refl)))
    (λ k. ap (λ (at : ℕ). and_then (value k ws (expr_view e)) (λ y. test_code k at y)) (sym (at_seen e)))

pub returns-clause-codes : goal.returns-clause-codes
returns-clause-codes g c =
    let e = c.args.e.now in
    let ws = with_types c.args.stand.now.withs.now in
    let w = c.value_of.new.self in
    let x = c.in-Known.value in
    let ns = w.fragments.now.nodes.items in
    let v = λ (k : Context). gives (value_code k (coded_in ns x)) in
    described c.answered-2.result (coding_after (λ k. value k ws (expr_view e)) (λ y k. test_code k e.at y) c.answered-2.result (rw c.in-Known.is at c.in-Ok.ensures.codes)
    (after_question c.answered-2.result c.in-Known-is_boolean.ensures.reads
    (coding_after (λ k. refuse k e.at not_boolean none) (λ u k. gives false_code) c.answered-2.result
    (refused_here (g.S.Scopes.state c.is_boolean.new.scopes) w.notes.now c.noted.new.notes ns c.args.stand.now.site.now Nothing IsFragment part e.at not_boolean none c.in_ok-noted.ensures.answers c.in_ok-noted.ensures.noted tt refl)
    (made_alone c.noted.new.notes c.false_code-2.result c.answered-2.result (λ k. false_code) c.answered-2.ensures c.false_code-2.ensures (λ made. refl)))
    (λ made in_hand told. let k = context_of (g.S.Scopes.state w.scopes.now).frame made c.args.stand.now.site.now in
    ap (λ (b : Bool). if b then v k else refuse k e.at not_boolean false_code) (sym c.if-boolean.false ∙ c.in-Known-is_boolean.ensures.told made in_hand told)
    ∙ ap (λ (b : Bool). if b then gives false_code else if is_boolean k x.operand then v k else refuse k e.at not_boolean false_code) (sym c.if-is_bad.false ∙ c.is_bad.ensures))))
    (λ k. ap (λ (at : ℕ). and_then (value k ws (expr_view e)) (λ y. test_code k at y)) (sym (at_seen e)))
