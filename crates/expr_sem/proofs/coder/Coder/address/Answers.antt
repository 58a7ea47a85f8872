use Rattle.std.proofs.Common.{Ok, None, Some, refl}
use Rattle.m2_base.specs.Gives.{gives}
use Rattle.m2_base.specs.Views.{designator_view}
use Rattle.m2_base.specs.declared.replies.Ask.TheVariants.{Known}
use Rattle.expr_sem.specs.Codings.{with_types}
use Rattle.expr_sem.specs.Evaluations.{IsEvaluated, evaluated, evaluated_in}
use Rattle.block_code.specs.Expressions.{designated}
use Rattle.expr_sem.specs.Fragments.{part}
use Rattle.block_code.proofs.Causes.{designator-refused}
use Rattle.expr_sem.proofs.RefusedLaw.{designated-quiet}
use Rattle.expr_sem.proofs.Evaluating.{error_evaluated, evaluates, evaluates_full, evaluates_later, evaluates_none, other_evaluated, same_piece, sound_from_none}
use Rattle.expr_sem.proofs.Operating.{coding_after, value_alone}
use Rattle.expr_sem.proofs.Walking.{stands_after}
use Rattle.expr_sem.proofs.coder.Coder.address.Goals as goal

pub returns-in-DontKnowYet-clause-codes : goal.returns-in-DontKnowYet-clause-codes
returns-in-DontKnowYet-clause-codes g c = evaluates_later c.args.piece.now c.args.piece.now c.args.self.now.withs.now (rw c.in-DontKnowYet.is at c.in-Ok.ensures.codes) (same_piece c.args.piece.now)

pub returns-in-Err-clause-codes : goal.returns-in-Err-clause-codes
returns-in-Err-clause-codes g c = evaluates_none c.args.piece.now c.args.piece.now c.args.self.now.withs.now c.in-Err.ensures.codes _ (same_piece c.args.piece.now)

pub returns-in-InError-clause-codes : goal.returns-in-InError-clause-codes
returns-in-InError-clause-codes g c =
    let withs = with_types c.args.self.now.withs.now in
    let ms = c.designated.new.self.fragments.now.nodes.items in
    let x = c.in-Known.value in
    let one = rw c.in-Known.is at c.in-Ok.ensures.codes in
    let made = coding_after (λ k. designated k withs (designator_view c.args.of.now)) (λ x k. gives (evaluated x.operand x.code)) (Ok (Known None)) one
    (value_alone (g.S.Scopes.state c.designated.new.self.scopes.now) c.designated.new.self.notes.now ms c.args.self.now.site.now None IsEvaluated evaluated_in (λ k. evaluated x.operand (part ms x.code)) tt
    (λ k. error_evaluated x.operand (part ms x.code) c.in-InError.is)) in
    evaluates c.args.piece.now c.args.piece.now c.args.self.now.withs.now (Ok (Known None)) c.requires.suits made
    (λ k broken. designated-quiet k broken withs (designator_view c.args.of.now))
    (λ k whole. designator-refused c.args.self.now.site.now.texts.now.names k withs (designator_view c.args.of.now) whole c.requires.read) (same_piece c.args.piece.now) refl tt tt

pub append-requires-clause-sound : goal.append-requires-clause-sound
append-requires-clause-sound g c = sound_from_none c.in-Ok.ensures.codes.grows c.requires.sound

pub append-requires-clause-there : goal.append-requires-clause-there
append-requires-clause-there g c = (rw c.in-Known.is at c.in-Ok.ensures.codes).there.code

pub returns-in_err-append-clause-codes : goal.returns-in_err-append-clause-codes
returns-in_err-append-clause-codes g c =
    evaluates_full c.args.piece.now c.append.new.piece c.args.self.now.withs.now c.from_residual.result c.from_residual.ensures.0 c.in-Ok.ensures.codes c.in_err-append.ensures.err

pub returns-clause-codes : goal.returns-clause-codes
returns-clause-codes g c =
    let withs = with_types c.args.self.now.withs.now in
    let ms = c.designated.new.self.fragments.now.nodes.items in
    let x = c.in-Known.value in
    let one = rw c.in-Known.is at c.in-Ok.ensures.codes in
    let made = coding_after (λ k. designated k withs (designator_view c.args.of.now)) (λ x k. gives (evaluated x.operand x.code)) (Ok (Known (Some (x.operand, x.code)))) one
    (value_alone (g.S.Scopes.state c.designated.new.self.scopes.now) c.designated.new.self.notes.now ms c.args.self.now.site.now (Some (x.operand, x.code)) IsEvaluated evaluated_in (λ k. evaluated x.operand (part ms x.code))
    ((stands_after one).operand, (stands_after one).code) (λ k. other_evaluated x.operand (part ms x.code) c.in_default.not-InError)) in
    evaluates c.args.piece.now c.append.new.piece c.args.self.now.withs.now (Ok (Known (Some x.operand))) c.requires.suits made
    (λ k broken. designated-quiet k broken withs (designator_view c.args.of.now))
    (λ k whole. designator-refused c.args.self.now.site.now.texts.now.names k withs (designator_view c.args.of.now) whole c.requires.read) tt refl (rw c.designated.ensures.keeps.withs at c.in_ok-append.ensures.ok) tt
