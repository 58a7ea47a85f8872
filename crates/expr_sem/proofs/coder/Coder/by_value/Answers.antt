use Rattle.std.proofs.Common.{None, Ok, Some, ap, refl, sym}
use Rattle.m2_base.specs.Finished.{source_of}
use Rattle.m2_base.specs.Gives.{gives}
use Rattle.m2_base.specs.States.{Frame}
use Rattle.m2_base.specs.Statics.Diagnostics.{not_assignable}
use Rattle.m2_base.specs.Statics.Types.{size_of as spec_size}
use Rattle.m2_base.specs.declared.replies.Ask.TheVariants.{Known}
use Rattle.type_rules.specs.Scenes.{IsThere}
use Rattle.expr_sem.specs.ArgumentCodes.{IsArgument, argument_in}
use Rattle.block_code.specs.Arguments.{string_copy, value_argument as spec_value_argument, value_argument_by}
use Rattle.block_code.specs.Coded.{characters as spec_characters}
use Rattle.expr_sem.specs.Codings.{coded_in}
use Rattle.block_code.specs.Values.{assigned_to as spec_assigned_to}
use Rattle.expr_sem.proofs.ArgumentCases.{other_argument, passed}
use Rattle.expr_sem.proofs.Following.{by_coding, by_question, followed_by, holds, still_around, still_suits, then_failed, then_unknown, then_waits, then_wanted}
use Rattle.expr_sem.proofs.Making.{after_question}
use Rattle.expr_sem.proofs.Operating.{coding_after, described, unknown, unmade, value_alone}
use Rattle.expr_sem.proofs.Sequencing.{Grows-refl, made_after}
use Rattle.expr_sem.proofs.Walking.{stands_after}
use Rattle.expr_sem.proofs.coder.Coder.by_value.Goals as goal

pub returns-in-DontKnowYet-clause-codes : goal.returns-in-DontKnowYet-clause-codes
returns-in-DontKnowYet-clause-codes g c = unknown (rw c.in-DontKnowYet.is at c.in-Ok.ensures.codes)

pub returns-in-Err-clause-codes : goal.returns-in-Err-clause-codes
returns-in-Err-clause-codes g c = unmade c.in-Err.ensures.codes c.in-Err.memory

pub size_of-requires-clause-suits : goal.size_of-requires-clause-suits
size_of-requires-clause-suits g c = rw c.assigned_to.ensures.keeps.site (still_around (by_coding c.in-Ok.ensures.codes) c.requires.suits)

pub size_of-requires-clause-there : goal.size_of-requires-clause-there
size_of-requires-clause-there g c = holds (by_coding c.in-Ok.ensures.codes) (λ (f : Frame). IsThere f c.args.of) c.requires.of

pub returns-in-DontKnowYet-size_of-clause-codes : goal.returns-in-DontKnowYet-size_of-clause-codes
returns-in-DontKnowYet-size_of-clause-codes g c = then_waits (by_coding c.in-Ok.ensures.codes) c.size_of.ensures.reads c.in-DontKnowYet-size_of.ensures.waits

pub characters-requires : goal.characters-requires
characters-requires g c =
    let first = rw c.in-Known.is at c.in-Ok.ensures.codes in
    let named = rw c.in-StringConstant.is at first.there.operand in
    let same = c.requires.suits.texts in
    record { named = rw c.assigned_to.ensures.keeps.site (rw same named) }

pub returns-in_err-bytes-in-StringConstant-clause-codes : goal.returns-in_err-bytes-in-StringConstant-clause-codes
returns-in_err-bytes-in-StringConstant-clause-codes g c =
    then_failed c.from_residual.result c.from_residual.ensures.0 (followed_by (by_coding c.in-Ok.ensures.codes) (by_question _ _ c.size_of.ensures.reads))

pub fitted_code-requires : goal.fitted_code-requires
fitted_code-requires g c =
    let first = rw c.in-Known.is at c.in-Ok.ensures.codes in
    record {
      suits = rw c.assigned_to.ensures.keeps.site (still_suits (by_coding first) c.requires.suits);
      to = holds (by_coding first) (λ (f : Frame). IsThere f c.args.of) c.requires.of;
      x = stands_after first;
    }

pub returns-in-DontKnowYet-asked-clause-codes : goal.returns-in-DontKnowYet-asked-clause-codes
returns-in-DontKnowYet-asked-clause-codes g c =
    then_unknown (by_coding c.in-Ok.ensures.codes) (rw c.assigned_to.ensures.keeps.site at (rw c.in-DontKnowYet-asked.is at c.in-Ok-fitted_code.ensures c.assigned_to.new.self.notes.now))

pub returns-in-Err-fitted_code-clause-codes : goal.returns-in-Err-fitted_code-clause-codes
returns-in-Err-fitted_code-clause-codes g c =
    then_wanted (by_coding c.in-Ok.ensures.codes) (rw c.assigned_to.ensures.keeps.site at (c.in-Err-fitted_code.ensures c.assigned_to.new.self.notes.now)) c.in-Err-fitted_code.memory

pub returns-in-InError-clause-codes : goal.returns-in-InError-clause-codes
returns-in-InError-clause-codes g c =
    let ns = c.args.self.now.fragments.now.nodes.items in
    let first = rw c.in-Known.is at c.in-Ok.ensures.codes in
    let ms = c.assigned_to.new.self.fragments.now.nodes.items in
    let v = coded_in ms c.in-Known.value in
    coding_after (λ k. spec_assigned_to k c.args.of c.args.x.at not_assignable (coded_in ns c.args.x.coded)) (λ v k. gives (spec_value_argument k c.args.of v)) (Ok (Known None)) first
    (value_alone (g.S.Scopes.state c.assigned_to.new.self.scopes.now) c.assigned_to.new.self.notes.now ms c.args.self.now.site.now None IsArgument argument_in (λ k. spec_value_argument k c.args.of v) tt
    (λ k. ap (value_argument_by k c.args.of v) (sym c.in-InError.is)))

pub returns-in_ok-bytes-in-StringConstant-clause-codes : goal.returns-in_ok-bytes-in-StringConstant-clause-codes
returns-in_ok-bytes-in-StringConstant-clause-codes g c =
    let ns = c.args.self.now.fragments.now.nodes.items in
    let first = rw c.in-Known.is at c.in-Ok.ensures.codes in
    let ms = c.assigned_to.new.self.fragments.now.nodes.items in
    let v = coded_in ms c.in-Known.value in
    let source = source_of c.args.self.now.site.now.texts.now in
    let name = c.in-StringConstant.name in
    let r = c.passed_as.result in
    let copy = made_after c.string_copy.result (Grows-refl ms) c.string_copy.ensures.made (ap (string_copy c.in-Known-size_of.value) ((rw c.assigned_to.ensures.keeps.site at c.in_ok-bytes-in-StringConstant.ensures) source refl)) in
    coding_after (λ k. spec_assigned_to k c.args.of c.args.x.at not_assignable (coded_in ns c.args.x.coded)) (λ v k. gives (spec_value_argument k c.args.of v)) r first
    (described r
    (after_question {h = λ k. gives (Some (string_copy (spec_size k.scene c.args.of) (spec_characters k.source name)))} r c.size_of.ensures.reads
    (c.passed_as.ensures (g.S.Scopes.state c.size_of.new.scopes) c.assigned_to.new.self.notes.now c.args.self.now.site.now _ _ _ copy)
    (λ made in_hand told. ap (λ size. gives (Some (string_copy size (spec_characters source name)))) ((rw c.assigned_to.ensures.keeps.site at c.in-Known-size_of.ensures.told) made in_hand told)))
    (λ k. ap (λ o. gives (value_argument_by k c.args.of v o)) (sym c.in-StringConstant.is)))

pub returns-in-Known-asked-clause-codes : goal.returns-in-Known-asked-clause-codes
returns-in-Known-asked-clause-codes g c =
    let ns = c.args.self.now.fragments.now.nodes.items in
    let first = rw c.in-Known.is at c.in-Ok.ensures.codes in
    let ms = c.assigned_to.new.self.fragments.now.nodes.items in
    let v = coded_in ms c.in-Known.value in
    let last = rw c.assigned_to.ensures.keeps.site at (rw c.in-Known-asked.is at c.in-Ok-fitted_code.ensures c.assigned_to.new.self.notes.now) in
    coding_after (λ k. spec_assigned_to k c.args.of c.args.x.at not_assignable (coded_in ns c.args.x.coded)) (λ v k. gives (spec_value_argument k c.args.of v)) (Ok (Known (Some c.in-Known-asked.value))) first
    (described (Ok (Known (Some c.in-Known-asked.value))) (passed last)
    (λ k. ap (λ o. gives o) (other_argument k c.args.of v c.in-Known.value.operand c.in_default.not-InError c.in_default.not-StringConstant)))
