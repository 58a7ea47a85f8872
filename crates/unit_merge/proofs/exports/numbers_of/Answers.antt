use Rattle.std.proofs.Common.{ap, ◌∙◌, nat_eq}
use Rattle.std.specs.Map.{lookup}
use Rattle.indexmap.specs.IndexMap.{get}
use Rattle.unit_merge.proofs.Numbers.{none_behind, one_more, all_found}
use Rattle.unit_merge.proofs.exports.numbers_of.Goals as goal

pub loop-heading-init : goal.loop-heading-init
loop-heading-init c = none_behind c.args.headings.now c.into_iter-heading-iterator.result.iter.rest.now (get nat_eq c.new-numbers.result) (ap (λ i. i.iter.rest.now) c.into_iter-heading-iterator.ensures.into_iter_gives ∙ ap (λ i. i.rest.now) c.rev-heading-items.ensures.source ∙ c.iter.ensures.rest) (λ name. ap (lookup (nat_eq name)) c.new-numbers.ensures.empty)

pub loop-heading-preserved : goal.loop-heading-preserved
loop-heading-preserved c = one_more c.args.headings.now c.loop-heading.heading-iterator.iter.rest.now c.next.new.self.iter.rest.now c.in-Some.heading.now (get nat_eq c.loop-heading.numbers) (get nat_eq c.insert.new.self) c.in-Some.ensures.steps (λ name. c.in_ok-insert.ensures.updates.0 name) c.loop-heading.invariant

pub returns : goal.returns
returns c = all_found c.args.headings.now c.loop-heading.heading-iterator.iter.rest.now (get nat_eq c.loop-heading.numbers) c.in-None.ensures.steps.0 c.loop-heading.invariant
