use Rattle.std.proofs.Common.{Option, Ok, None, Some, ap, refl}
use Rattle.m2_base.specs.Gives.{gives}
use Rattle.m2_base.specs.Views.{expr_view}
use Rattle.m2_base.specs.declared.operands.Operand.{Operand}
use Rattle.m2_base.specs.declared.replies.Ask.TheVariants.{Known}
use Rattle.block_code.specs.Coded.{value_code}
use Rattle.expr_sem.specs.Codings.{coded_in, with_types}
use Rattle.expr_sem.specs.Evaluations.{IsEvaluated, evaluated, evaluated_in}
use Rattle.block_code.specs.Expressions.{value}
use Rattle.block_code.specs.Parts.{Part}
use Rattle.expr_sem.specs.declared.fragments.Fragment.{Fragment}
use Rattle.block_code.proofs.Causes.{value-refused}
use Rattle.expr_sem.proofs.RefusedLaw.{value-quiet}
use Rattle.expr_sem.proofs.Evaluating.{error_evaluated, evaluates, evaluates_full, evaluates_later, evaluates_none, other_evaluated, same_piece, sound_from_none}
use Rattle.expr_sem.proofs.Following.{by_coding, then_unknown, then_wanted}
use Rattle.expr_sem.proofs.Onwards.{suits_after, with_grown}
use Rattle.expr_sem.proofs.Operating.{coding_after, described, value_alone}
use Rattle.expr_sem.proofs.Sequencing.{Grows-refl}
use Rattle.expr_sem.proofs.Walking.{stands_after}
use Rattle.expr_sem.proofs.coder.Coder.value.Goals as goal

pub returns-in-DontKnowYet-clause-codes : goal.returns-in-DontKnowYet-clause-codes
returns-in-DontKnowYet-clause-codes g c = evaluates_later c.args.piece.now c.args.piece.now c.args.self.now.withs.now (rw c.in-DontKnowYet.is at c.in-Ok.ensures.codes) (same_piece c.args.piece.now)

pub returns-in-Err-clause-codes : goal.returns-in-Err-clause-codes
returns-in-Err-clause-codes g c = evaluates_none c.args.piece.now c.args.piece.now c.args.self.now.withs.now c.in-Err.ensures.codes _ (same_piece c.args.piece.now)

pub returns-in-InError-clause-codes : goal.returns-in-InError-clause-codes
returns-in-InError-clause-codes g c =
    let withs = with_types c.args.self.now.withs.now in
    let ms = c.value_of.new.self.fragments.now.nodes.items in
    let x = c.in-Known.value in
    let one = rw c.in-Known.is at c.in-Ok.ensures.codes in
    let made = coding_after (λ k. value k withs (expr_view c.args.e.now)) (λ x k. gives (evaluated x.operand (value_code k x))) (Ok (Known None)) one
    (value_alone (g.S.Scopes.state c.value_of.new.self.scopes.now) c.value_of.new.self.notes.now ms c.args.self.now.site.now None IsEvaluated evaluated_in (λ k. evaluated x.operand (value_code k (coded_in ms x))) tt
    (λ k. error_evaluated x.operand (value_code k (coded_in ms x)) c.in-InError.is)) in
    evaluates c.args.piece.now c.args.piece.now c.args.self.now.withs.now (Ok (Known None)) c.requires.suits made
    (λ k broken. value-quiet k broken withs (expr_view c.args.e.now))
    (λ k whole. value-refused c.args.self.now.site.now.texts.now.names k withs (expr_view c.args.e.now) whole c.requires.read) (same_piece c.args.piece.now) refl tt tt

pub value_code-requires-clause-suits : goal.value_code-requires-clause-suits
value_code-requires-clause-suits g c = rw c.value_of.ensures.keeps.site (suits_after (rw c.in-Known.is at c.in-Ok.ensures.codes) c.requires.suits)

pub value_code-requires-clause-x : goal.value_code-requires-clause-x
value_code-requires-clause-x g c = stands_after (rw c.in-Known.is at c.in-Ok.ensures.codes)

pub returns-in-DontKnowYet-asked-clause-codes : goal.returns-in-DontKnowYet-asked-clause-codes
returns-in-DontKnowYet-asked-clause-codes g c =
    let two = rw c.in-DontKnowYet-asked.is at (rw c.value_of.ensures.keeps.site at (c.in-Ok-value_code.ensures c.value_of.new.self.notes.now)) in
    evaluates_later c.args.piece.now c.args.piece.now c.args.self.now.withs.now {T = Option (Operand × Fragment)} {V = Option (Operand × Part)} {P = IsEvaluated} {as_p = evaluated_in} {g = λ k. gives None}
    (then_unknown (by_coding c.in-Ok.ensures.codes) two) (same_piece c.args.piece.now)

pub returns-in-Err-value_code-clause-codes : goal.returns-in-Err-value_code-clause-codes
returns-in-Err-value_code-clause-codes g c =
    let two = rw c.value_of.ensures.keeps.site at (c.in-Err-value_code.ensures c.value_of.new.self.notes.now) in
    evaluates_none c.args.piece.now c.args.piece.now c.args.self.now.withs.now {T = Option (Operand × Fragment)} {V = Option (Operand × Part)} {P = IsEvaluated} {as_p = evaluated_in} {g = λ k. gives None}
    (then_wanted (by_coding c.in-Ok.ensures.codes) two c.in-Err-value_code.memory) _ (same_piece c.args.piece.now)

pub append-requires-clause-sound : goal.append-requires-clause-sound
append-requires-clause-sound g c = sound_from_none (c.value_code.ensures c.value_of.new.self.notes.now).grows (sound_from_none c.in-Ok.ensures.codes.grows c.requires.sound)

pub append-requires-clause-there : goal.append-requires-clause-there
append-requires-clause-there g c = (rw c.in-Known-asked.is at (c.in-Ok-value_code.ensures c.value_of.new.self.notes.now)).there

pub returns-in_err-append-clause-codes : goal.returns-in_err-append-clause-codes
returns-in_err-append-clause-codes g c =
    let two = rw c.in-Known-asked.is at (rw c.value_of.ensures.keeps.site at (c.in-Ok-value_code.ensures c.value_of.new.self.notes.now)) in
    evaluates_full c.args.piece.now c.append.new.piece c.args.self.now.withs.now c.from_residual.result c.from_residual.ensures.0
    (coding_after (λ k. value k (with_types c.args.self.now.withs.now) (expr_view c.args.e.now)) (λ x k. gives (value_code k x)) _ (rw c.in-Known.is at c.in-Ok.ensures.codes) two) c.in_err-append.ensures.err

pub returns-clause-codes : goal.returns-clause-codes
returns-clause-codes g c =
    let withs = with_types c.args.self.now.withs.now in
    let ms = c.value_of.new.self.fragments.now.nodes.items in
    let last = c.value_code.new.fragments.nodes.items in
    let x = c.in-Known.value in
    let code = c.in-Known-asked.value in
    let one = rw c.in-Known.is at c.in-Ok.ensures.codes in
    let two = rw c.in-Known-asked.is at (rw c.value_of.ensures.keeps.site at (c.in-Ok-value_code.ensures c.value_of.new.self.notes.now)) in
    let made = coding_after (λ k. value k withs (expr_view c.args.e.now)) (λ x k. gives (evaluated x.operand (value_code k x))) (Ok (Known (Some (x.operand, code)))) one
    (described (Ok (Known (Some (x.operand, code))))
    (with_grown {Q = IsEvaluated} {as_q = evaluated_in} (λ p k. Some (x.operand, p)) (Some (x.operand, code)) two (Grows-refl last) ((stands_after one).operand, two.there) (λ k. refl))
    (λ k. ap (λ v. gives v) (other_evaluated x.operand (value_code k (coded_in ms x)) c.in_default.not-InError))) in
    evaluates c.args.piece.now c.append.new.piece c.args.self.now.withs.now (Ok (Known (Some x.operand))) c.requires.suits made
    (λ k broken. value-quiet k broken withs (expr_view c.args.e.now))
    (λ k whole. value-refused c.args.self.now.site.now.texts.now.names k withs (expr_view c.args.e.now) whole c.requires.read) tt refl (rw c.value_of.ensures.keeps.withs at c.in_ok-append.ensures.ok) tt
