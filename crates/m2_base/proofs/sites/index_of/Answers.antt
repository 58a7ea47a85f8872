use Rattle.std.proofs.Common.{ap, ◌∙◌, nat_eq}
use Rattle.std.specs.Map.{lookup}
use Rattle.std.specs.HashMap.{get}
use Rattle.m2_base.proofs.LayoutIndex.{none_behind, one_more, all_found}
use Rattle.m2_base.proofs.sites.index_of.Goals as goal

-- src/sites.rt:102:5
pub loop-named-init : goal.loop-named-init
loop-named-init c = none_behind c.args.names.now c.into_iter-named-iterator.result.iter.rest.now (get nat_eq c.new-index.result) (ap (λ i. i.iter.rest.now) c.into_iter-named-iterator.ensures.into_iter_gives ∙ ap (λ i. i.rest.now) c.rev-named-items.ensures.source ∙ c.iter.ensures.rest) (λ name. ap (lookup (nat_eq name)) c.new-index.ensures.empty)

-- src/sites.rt:102:5
pub loop-named-preserved : goal.loop-named-preserved
loop-named-preserved c = one_more c.args.names.now c.loop-named.named-iterator.iter.rest.now c.next.new.self.iter.rest.now c.in-Some.named.now (get nat_eq c.loop-named.index) (get nat_eq c.insert.new.self) c.in-Some.ensures.steps (λ name. c.in_ok-insert.ensures.updates.0 name) c.loop-named.invariant

-- src/sites.rt:98:1
pub returns : goal.returns
returns c = all_found c.args.names.now c.loop-named.named-iterator.iter.rest.now (get nat_eq c.loop-named.index) c.in-None.ensures.steps.0 c.loop-named.invariant
