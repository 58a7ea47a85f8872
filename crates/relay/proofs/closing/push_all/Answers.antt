use Rattle.std.proofs.Common.{◌∙◌, ◌≡◌, ◌≤◌, ◌+◌, ℕ, [], ◌∷◌, ◌++◌, ap, append-nil, append_assoc, arith, refl, sym}
use Rattle.std.specs.Vec.Iter.{into_iter_items}
use Rattle.m2_base.proofs.Without.{none_of}
use Rattle.relay.proofs.closing.push_all.Goals as goal

-- what is left fits where one less is left and one more is there
fits_on : (a b m n l k : ℕ) → a + b ≤ m → b ≡ n + 1 → l ≡ a + 1 → k ≡ m → l + n ≤ k
fits_on a b m n l k h e f p = omega arith

pub loop-job-init : goal.loop-job-init
loop-job-init g c =
    let long = c.into_iter-job-iterator.ensures.into_iter_gives.1 in
    (tt, tt, refl, refl, omega arith)

pub push_reserved-requires : goal.push_reserved-requires
push_reserved-requires g c =
    let fits = c.loop-job.invariant.4 in let some = c.in-Some.ensures.steps.1 in omega arith

pub loop-job-preserved : goal.loop-job-preserved
loop-job-preserved g c =
    let inv = c.loop-job.invariant in let steps = c.in-Some.ensures.steps in let rest = into_iter_items c.next.new.self in
    let pushed = c.push_reserved.ensures in (
      tt,
      tt,
      ap (λ l. l ++ rest) pushed.items ∙ append_assoc c.loop-job.to.items (c.in-Some.job ∷ []) rest ∙ ap (λ l. c.loop-job.to.items ++ l) (sym steps.0) ∙ inv.2,
      pushed.capacity ∙ inv.3,
      fits_on _ _ _ _ _ _ inv.4 (sym steps.1) pushed.len pushed.capacity,
    )

pub loop-job-smaller : goal.loop-job-smaller
loop-job-smaller g c = (c.in-Some.ensures.goes.on tt).2

pub returns-clause-items : goal.returns-clause-items
returns-clause-items g c =
    let none = none_of _ (sym c.loop-job.job-iterator.rest.ok.0 ∙ c.in-None.ensures.steps.0) in
    sym (ap (λ l. c.loop-job.to.items ++ l) none ∙ append-nil c.loop-job.to.items) ∙ c.loop-job.invariant.2
    ∙ ap (λ l. c.args.to.items ++ l) c.into_iter-job-iterator.ensures.into_iter_gives.0
