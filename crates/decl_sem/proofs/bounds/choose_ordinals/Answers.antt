use Rattle.std.proofs.Common.{◌≡◌, ℤ, rules, subst, to_z, of_z, w64}
use Rattle.m2_base.specs.Statics.Subranges.{subrange_base, within_base}
use Rattle.decl_sem.specs.Bounds.{chosen}
use Rattle.decl_sem.proofs.BoundRanges.{values_chosen}
use Rattle.decl_sem.proofs.bounds.choose_ordinals.Goals as goal

pub returns-in-Some-clause-told : goal.returns-in-Some-clause-told
returns-in-Some-clause-told c k base x y low_at high_at named low high =
    let v = c.in-Some-Some.first in
    let w = c.in-Some-Some.last in
    let of = c.in-Some.of in
    let same_v : to_z w64 (of_z w64 v) ≡ v = search rules in
    let same_w : to_z w64 (of_z w64 w) ≡ w = search rules in
    values_chosen k base x y low_at high_at c.args.low c.args.high v w of c.choose_values.result low high
    c.in-Some-Some.is-0 c.in-Some-Some.is-1 c.in-Some.ensures.told
    (subst (λ (n : ℤ). chosen k low_at high_at c.choose_values.result ≡ within_base k low_at high_at v n (subrange_base k base of v)) same_w
    (subst (λ (n : ℤ). chosen k low_at high_at c.choose_values.result ≡ within_base k low_at high_at n (to_z w64 (of_z w64 w)) (subrange_base k base of n)) same_v
    (c.choose_values.ensures.told k base low_at high_at named)))
