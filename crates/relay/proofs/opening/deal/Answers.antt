use Rattle.std.proofs.Common.{rules, ◌≡◌, ◌∙◌, ◌+◌, ◌-◌, ◌<◌, ◌≤◌, ap, arith, [], ℕ, All, subst, sum_by, sym}
use Rattle.std.proofs.lemmas.List.Elements.{All-nil}
use Rattle.std.specs.Prelude.{vec_len}
use Rattle.crossbeam_queue.specs.Passes.{view}
use Rattle.relay.specs.Places.{knows}
use Rattle.relay.specs.Hands.{jobs_of, part, IsEmpty, IsHandOf}
use Rattle.relay.proofs.KeptRule.{forks}
use Rattle.relay.proofs.Dealt.{dealt, pushed}
use Rattle.m2_base.proofs.Without.{if_ok_of_err}
use Rattle.relay.proofs.opening.deal.Goals as goal

pub another-theirs-requires-clause-rule : goal.another-theirs-requires-clause-rule
another-theirs-requires-clause-rule g c =
    let inv = c.loop-made.invariant in let p = ap (λ u. u.parts) inv.4 in let some : 1 < (view c.loop-made.pass).parts = search rules in
    forks g.J.Job.number g.J.Job.done g.J.Job.stays _ _ some

pub loop-made-preserved : goal.loop-made-preserved
loop-made-preserved g c =
    let inv = c.loop-made.invariant in let r = c.args.relay.now in
    let queue = c.another-theirs.ensures.queue in let rule = c.another-theirs.ensures.rule in
    let h = c.in_ok-empty_hand.field-0 in let e = c.in_ok-empty_hand.ensures in
    let number = g.J.Job.number in let stays = g.J.Job.stays in
    let left : 1025 - c.loop-made.made - 1 ≡ 1025 - (c.loop-made.made + 1) = omega arith in
    let long = e.2 in let room = inv.2 in
    let d = dealt number stays r h c.another-theirs.result 1 e.0 e.1 (omega arith) queue.1 (rule.1 ∙ ap (λ u. knows 1 u.jobs []) inv.4) (omega arith) in
    let p = pushed number stays r c.loop-made.all.items c.push_reserved.new.self.items h 1 c.push_reserved.ensures.items inv.5 inv.6 d e.1 in
    let t : sum_by part c.push_reserved.new.self.items + 1 ≡ c.loop-made.made + 1 = (let a = p.2 in let b = inv.7 in omega arith) in
    let l : vec_len c.push_reserved.new.self + 1 ≡ c.loop-made.made + 1 = search rules in
    let k : c.loop-made.made + 1 ≤ c.args.hands = search rules in (
      omega arith,
      k,
      inv.2,
      (queue.0.0 ∙ inv.3.0, queue.0.2 ∙ inv.3.1),
      rule.0 ∙ ap (λ u. knows (u.parts - 1) u.jobs u.out) inv.4 ∙ ap (λ (m : ℕ). knows m (jobs_of r) []) left,
      p.0,
      p.1,
      t,
      l,
      (let z = c.push_reserved.ensures.capacity in let y = inv.9 in omega arith),
    )

pub returns : goal.returns
returns g c =
    let inv = c.loop-made.invariant in let r = c.args.relay.now in
    let h = c.in_ok-empty_hand-2.field-0 in let e = c.in_ok-empty_hand-2.ensures in
    let number = g.J.Job.number in let stays = g.J.Job.stays in
    let at : c.loop-made.made ≡ c.args.hands = search rules in let few : c.args.hands ≤ 64 = c.requires.hands.1 in
    let long = e.2 in let room = inv.2 in
    let d = dealt number stays r h c.loop-made.pass (1025 - c.loop-made.made) e.0 e.1 (omega arith) inv.3 inv.4 (omega arith) in
    let p = pushed number stays r c.loop-made.all.items c.push_reserved-2.new.self.items h (1025 - c.loop-made.made) c.push_reserved-2.ensures.items inv.5 inv.6 d e.1 in (
      record { order = c.requires.order; each = p.0; whole = let a = p.2 in let b = inv.7 in omega arith },
      p.1,
      search rules,
    )

pub loop-made-init : goal.loop-made-init
loop-made-init g c =
    let e = c.in_ok-all.ensures in let r = c.args.relay.now in
    let cap = c.capacity-room.ensures in let room = r.room in (
      omega arith,
      c.requires.hands.0,
      omega arith,
      c.requires.pass.0,
      c.requires.pass.1,
      subst (λ hands. All (IsHandOf g.J.Job.number g.J.Job.stays r) hands) (sym e.items) (All-nil _),
      subst (λ hands. All IsEmpty hands) (sym e.items) (All-nil _),
      ap (λ hands. sum_by part hands + 1) e.items,
      ap (λ n. n + 1) e.len,
      e.capacity,
    )

pub returns-in_err-empty_hand : goal.returns-in_err-empty_hand
returns-in_err-empty_hand g c = if_ok_of_err _ c.from_residual-in_err-empty_hand.result c.from_residual-in_err-empty_hand.ensures.0

pub returns-in_err-empty_hand-2 : goal.returns-in_err-empty_hand-2
returns-in_err-empty_hand-2 g c = if_ok_of_err _ c.from_residual-in_err-empty_hand-2.result c.from_residual-in_err-empty_hand-2.ensures.0
