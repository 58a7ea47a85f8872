use Rattle.std.proofs.Common.{◌≡◌, nat_lt, rules, sym, ap, subst, ◌∙◌}
use Rattle.std.proofs.lemmas.List.Sorted.{IsPartitionPoint-from_clause}
use Rattle.m2_base.specs.Statics.Lookup.{brought_before}
use Rattle.m2_base.specs.Statics.Layouts.{Ascend}
use Rattle.m2_base.specs.declared.sites.Named.{Named}
use Rattle.m2_base.proofs.BroughtLaws.{parted, point_counts}
use Rattle.m2_base.proofs.brought.BroughtNames.before.Goals as goal

-- src/brought.rt:58:5
pub returns-clause-before : goal.returns-clause-before
returns-clause-before c =
    let same : c.deref.result.now ≡ c.args.self.now = c.deref.ensures.value ∙ c.self.view_is in
    let order : Ascend c.deref.result.now = subst Ascend (sym c.deref.ensures.value) c.self.invariant.1.order in
    let point = IsPartitionPoint-from_clause (λ (b : Named). nat_lt b.item c.args.item) _ _ c.partition_point.ensures.partitioned (parted c.deref.result.now c.args.item order) (λ a r q k. search rules) in
    point_counts c.deref.result.now c.args.item c.partition_point.result c.partition_point.ensures.bound point ∙ ap (λ bs. brought_before bs c.args.item) same
