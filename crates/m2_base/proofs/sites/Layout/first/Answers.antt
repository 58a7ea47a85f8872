use Rattle.std.proofs.Common.{◌≡◌, ◌==◌, ◌<◌, ◌^◌, Option, Some, sym, subst, ◌∙◌}
use Rattle.m2_base.specs.Lists.{WhereKept}
use Rattle.m2_base.specs.Statics.Lookup.{entry_named}
use Rattle.m2_base.specs.declared.sites.Named.{Named}
use Rattle.m2_base.proofs.EachLaws.{each_found}
use Rattle.m2_base.proofs.sites.Layout.first.Goals as goal

-- src/sites.rt:116:22
pub moved-requires : goal.moved-requires
moved-requires c =
    let names = c.self.inside.names.items in
    let is : entry_named names c.args.name ≡ Some c.in_ok-named-in-None.named =
    sym (c.self.invariant.0 c.args.name) ∙ sym c.get.ensures.value ∙ sym c.copied.ensures ∙ c.in_ok-named-in-None.was in
    subst (λ (o : Option Named). WhereKept o (λ (n : Named). n.ordinal < 2 ^ 31)) is
    (each_found (λ (n : Named). n.ordinal < 2 ^ 31) (λ (n : Named). n.name == c.args.name) names c.self.invariant.1.names_small)
