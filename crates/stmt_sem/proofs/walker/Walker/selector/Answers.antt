use Rattle.std.proofs.Common.{ℕ, ap, sym, refl}
use Rattle.m2_base.specs.Gives.{and_then, gives}
use Rattle.m2_base.specs.Views.{expr_view}
use Rattle.m2_base.specs.declared.rows.Place.{Place}
use Rattle.const_eval.proofs.ReadParts.{at_seen}
use Rattle.expr_sem.specs.Codings.{coded_in, with_types}
use Rattle.block_code.specs.Expressions.{value}
use Rattle.block_code.specs.Parts.{Part}
use Rattle.expr_sem.proofs.Following.{by_coding, followed_by, then_unknown, then_wanted}
use Rattle.expr_sem.proofs.Onwards.{coded_after, suits_after, with_grown}
use Rattle.expr_sem.proofs.Operating.{coding_after, described, unknown, unmade}
use Rattle.expr_sem.proofs.Sequencing.{Grows-refl}
use Rattle.expr_sem.proofs.Walking.{stands_after}
use Rattle.block_code.specs.Cases.{selector_type, selector_value}
use Rattle.stmt_sem.specs.Stands.{stand_in}
use Rattle.stmt_sem.specs.StatementParts.{typed_selector}
use Rattle.stmt_sem.specs.Taken.{IsSelector, selector_in}
use Rattle.stmt_sem.proofs.walker.Walker.selector.Goals as goal

pub returns-in-DontKnowYet-clause-codes : goal.returns-in-DontKnowYet-clause-codes
returns-in-DontKnowYet-clause-codes g c = unknown (rw c.in-DontKnowYet.is at c.in-Ok.ensures.codes)

pub returns-in-Err-clause-codes : goal.returns-in-Err-clause-codes
returns-in-Err-clause-codes g c = unmade c.in-Err.ensures.codes _

pub selector_type-requires-clause-suits : goal.selector_type-requires-clause-suits
selector_type-requires-clause-suits g c = suits_after (rw c.in-Known.is at c.in-Ok.ensures.codes) c.requires.stand.suits

pub selector_type-requires-clause-x : goal.selector_type-requires-clause-x
selector_type-requires-clause-x g c = (stands_after (rw c.in-Known.is at c.in-Ok.ensures.codes)).operand

pub returns-in-DontKnowYet-asked-clause-codes : goal.returns-in-DontKnowYet-asked-clause-codes
returns-in-DontKnowYet-asked-clause-codes g c =
    then_unknown (by_coding c.in-Ok.ensures.codes) (rw c.in-DontKnowYet-asked.is at c.in-Ok-selector_type.ensures c.value_of.new.self.fragments.now.nodes.items)

pub returns-in-Err-selector_type-clause-codes : goal.returns-in-Err-selector_type-clause-codes
returns-in-Err-selector_type-clause-codes g c =
    then_wanted (by_coding c.in-Ok.ensures.codes) (c.in-Err-selector_type.ensures c.value_of.new.self.fragments.now.nodes.items) _

pub selector_value-requires-clause-suits : goal.selector_value-requires-clause-suits
selector_value-requires-clause-suits g c =
    suits_after (rw c.in-Known-asked.is at c.in-Ok-selector_type.ensures c.value_of.new.self.fragments.now.nodes.items) (suits_after (rw c.in-Known.is at c.in-Ok.ensures.codes) c.requires.stand.suits)

pub selector_value-requires-clause-x : goal.selector_value-requires-clause-x
selector_value-requires-clause-x g c =
    coded_after (rw c.in-Known-asked.is at c.in-Ok-selector_type.ensures c.value_of.new.self.fragments.now.nodes.items) c.in-Known.value (stands_after (rw c.in-Known.is at c.in-Ok.ensures.codes))

pub returns-in-DontKnowYet-asked-2-clause-codes : goal.returns-in-DontKnowYet-asked-2-clause-codes
returns-in-DontKnowYet-asked-2-clause-codes g c =
    then_unknown (followed_by (by_coding c.in-Ok.ensures.codes) (by_coding (c.in-Ok-selector_type.ensures c.value_of.new.self.fragments.now.nodes.items))) (rw c.in-DontKnowYet-asked-2.is at c.in-Ok-selector_value.ensures c.selector_type.new.notes)

pub returns-in-Err-selector_value-clause-codes : goal.returns-in-Err-selector_value-clause-codes
returns-in-Err-selector_value-clause-codes g c =
    then_wanted (followed_by (by_coding c.in-Ok.ensures.codes) (by_coding (c.in-Ok-selector_type.ensures c.value_of.new.self.fragments.now.nodes.items))) (c.in-Err-selector_value.ensures c.selector_type.new.notes) _

pub returns-clause-codes : goal.returns-clause-codes
returns-clause-codes g c =
    let e = c.args.e.now in
    let s = c.args.stand.now in
    let ws = with_types c.args.stand.now.withs.now in
    let ns = c.value_of.new.self.fragments.now.nodes.items in
    let x = coded_in ns c.in-Known.value in
    let one = rw c.in-Known-asked.is at c.in-Ok-selector_type.ensures ns in
    let two = rw c.in-Known-asked-2.is at c.in-Ok-selector_value.ensures c.selector_type.new.notes in
    described _ (coding_after (λ k. value k ws (expr_view e)) (λ x k. typed_selector (stand_in k s) e.at x) _ (rw c.in-Known.is at c.in-Ok.ensures.codes)
    (coding_after (λ k. selector_type k e.at x) (λ (t : Place) k. gives (selector_value k x, t)) _ one
    (with_grown {Q = IsSelector} {as_q = selector_in} (λ (p : Part) k. (p, c.in-Known-asked.value)) (record { value = c.in-Known-asked-2.value; of = c.in-Known-asked.value }) two (Grows-refl c.selector_value.new.fragments.nodes.items) (two.there, stands_after one) (λ k. refl))))
    (λ k. ap (λ (at : ℕ). and_then (value k ws (expr_view e)) (λ x. typed_selector (stand_in k s) at x)) (sym (at_seen e)))
