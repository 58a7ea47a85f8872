use Rattle.std.proofs.Common.{◌≡◌, inl, inr, ℕ, true, sym, ap, ◌∙◌, arith}
use Rattle.std.proofs.lemmas.List.Filters.{dedup_is}
use Rattle.std.specs.Cmp.{nat_cmp_is}
use Rattle.std.specs.Ordering.{is_lt, nat_cmp, ordering_then}
use Rattle.std.specs.declared.cmp.Ordering.{Ordering}
use Rattle.std.specs.declared.cmp.Ordering.TheVariants.{Less, Equal}
use Rattle.listings.proofs.OneOrder.{AreTests, put_in_order}
use Rattle.listings.proofs.Orders.{Lower, same_by_fields}
use Rattle.m2_base.specs.contracts.notes.DiagOrd as ord
use Rattle.m2_base.specs.contracts.notes.DiagPartialEq as eq
use Rattle.listings.proofs.ordering.put_in_order.Goals as goal

lower_first : (a b : ℕ) (P : Type 0) (rest : Ordering) → (P → is_lt rest ≡ true) → Lower a b P → is_lt (ordering_then (nat_cmp a b) rest) ≡ true
lower_first a b P rest f (inl l) = ap (λ o. is_lt (ordering_then o rest)) (sym (nat_cmp_is a b Less l))
lower_first a b P rest f (inr l) = ap (λ o. is_lt (ordering_then o rest)) (sym (nat_cmp_is a b Equal l.0)) ∙ f l.1

tests : AreTests (λ d e. is_lt (ord.TheImpl.ghosts.cmp d e)) (λ d e. eq.TheImpl.ghosts.eq d e)
tests = record {
  before = λ d e b. lower_first d.text e.text _ _ (lower_first d.at e.at _ _ (λ l. ap is_lt (sym (nat_cmp_is d.code e.code Less l)))) b;
  equal = λ d. grind arith;
  one = λ d e s. same_by_fields d e s;
}

pub returns : goal.returns
returns c =
    put_in_order _ _ tests c.args.diags.now.items c.sort_unstable.new.self.items c.dedup.new.self.items c.sort_unstable.ensures.permutation c.sort_unstable.ensures.sorted
    (dedup_is _ c.sort_unstable.new.self.items c.dedup.new.self.items c.dedup.ensures.filtered)
