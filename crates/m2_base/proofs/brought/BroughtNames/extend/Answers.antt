use Rattle.std.proofs.Common.{◌≡◌, ℕ, nat_eq, sym, subst, ◌∙◌, ◌++◌, ◌≤◌, ◌+◌, List, length}
use Rattle.std.specs.HashMap.{get}
use Rattle.m2_base.specs.Lists.{Each}
use Rattle.m2_base.specs.Statics.Layouts.{AreBrought}
use Rattle.m2_base.specs.Statics.Lookup.{entry_named}
use Rattle.m2_base.specs.declared.limits.TheConstants.{MOST_BROUGHT}
use Rattle.m2_base.specs.declared.sites.Named.{Named}
use Rattle.m2_base.proofs.BroughtLaws.{more_brought, still_indexed}
use Rattle.m2_base.proofs.brought.BroughtNames.extend.Goals as goal

-- src/brought.rt:66:5
pub invariant_of-self-2 : goal.invariant_of-self-2
invariant_of-self-2 c =
    let xs = c.self.inside.list.items in
    let ys = c.args.brought.now in
    let whole : c.extend_from_slice.new.self.items ≡ xs ++ ys = c.in_ok-extend_from_slice.ensures.items in
    let kept : (name : ℕ) → get nat_eq c.reserve.new.self name ≡ entry_named xs name =
    λ name. c.reserve.ensures.entries.2 name ∙ c.self.invariant.0 name in
    subst (λ (items : List Named). ((name : ℕ) → get nat_eq c.index_all.new.index name ≡ entry_named items name) × AreBrought items) (sym whole) (
      still_indexed (get nat_eq c.reserve.new.self) (get nat_eq c.index_all.new.index) xs ys kept c.index_all.ensures,
      more_brought c.args.item xs ys c.self.invariant.1 (subst (λ (items : List Named). Each (λ (b : Named). b.item ≤ c.args.item) items) (sym c.self.view_is) c.requires.order) c.requires.item
          (subst (λ (items : List Named). length items + length ys ≤ MOST_BROUGHT) (sym c.self.view_is) c.requires.few),
    )
