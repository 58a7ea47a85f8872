-- Runs: one step more, and a run that has ended.
use Rattle.std.proofs.Common.{◌≡◌, ℕ, zero, suc, ◌+◌, ◌-◌, ◌<◌, ◌≤◌, List, [], ◌∷◌, ◌++◌, Option, Some, None, refl, sym, ap, ◌∙◌, subst, arith, append_assoc, true, false}
use Rattle.std.specs.Prelude.{IfSome}
use Rattle.m2_io.specs.Written.{with_bytes, WritesPart}
use Rattle.stack_machine.specs.declared.trap.Trap.{Trap}
use Rattle.stack_machine.specs.declared.trap.Trap.TheVariants as traps
use Rattle.stack_machine.specs.State.{State, Program}
use Rattle.stack_machine.specs.InOut.{Got}
use Rattle.stack_machine.specs.Step.{Next, Goes, Halts, Traps, NoFrame, Stuck, step}
use Rattle.stack_machine.specs.declared.next.Next.{Next as CodeNext}
use Rattle.stack_machine.specs.declared.next.Next.TheVariants as code_next
use Rattle.stack_machine.specs.declared.run.End.{End}
use Rattle.stack_machine.specs.declared.run.End.TheVariants as ends
use Rattle.stack_machine.specs.Able.{Comes}
use Rattle.m2_io.specs.Causes.{Rose}
use Rattle.std.proofs.lemmas.Bool.{false≢true}
use Rattle.stack_machine.specs.declared.run.Failure.{Failure}
use Rattle.stack_machine.specs.declared.run.Failure.TheVariants as failures
use Rattle.stack_machine.specs.Stepping.{Stepped, Broken, IsTrapped, IsEnded, FailedWith, failed_end, is_going}
use Rattle.stack_machine.proofs.Written.{none_written, all_back, rose_from}
use Rattle.stack_machine.specs.Runs.{Traffic, Run, Unfinished, Halted, Trapped, Lost, after, got, passed, run_of, asked, prints_by, Came, Stopped, Ends}

same_state : (s s' : State) (t t' : Traffic) → Unfinished s t ≡ Unfinished s' t' → (s ≡ s') × (t ≡ t')
same_state s s' t t' e = (cc, cc)

none : (p : Program) (n : ℕ) (s : State) (t : Traffic) → n ≡ 0 → run_of p n s t ≡ Unfinished s t
unfolding run_of
none p n s t e = ap (λ (k : ℕ). run_of p k s t) e

first_of : (p : Program) (n : ℕ) (s : State) (t : Traffic) → run_of p (suc n) s t ≡ after (step p (got p s t) s) s (passed p s t) (λ x. run_of p n x (passed p s t))
unfolding run_of
first_of p n s t = refl

-- one step from a state
abbrev pub one_more : Program → State → Traffic → Run
one_more p s t = after (step p (got p s t) s) s (passed p s t) (λ x. Unfinished x (passed p s t))

pub run_more : (p : Program) (n : ℕ) (s s' : State) (t t' : Traffic) → run_of p n s t ≡ Unfinished s' t' → run_of p (suc n) s t ≡ one_more p s' t'
unfolding run_of
run_more p zero s s' t t' e = let h = same_state s s' t t' e in ap (λ (x : State). one_more p x t) h.0 ∙ ap (λ (x : Traffic). one_more p s' x) h.1
run_more p (suc n) s s' t t' e = on (step p (got p s t) s) e (λ x. run_more p n x s' (passed p s t) t') where
  on : (next : Next) → after next s (passed p s t) (λ x. run_of p n x (passed p s t)) ≡ Unfinished s' t' → ((x : State) → run_of p n x (passed p s t) ≡ Unfinished s' t' → run_of p (suc n) x (passed p s t) ≡ one_more p s' t')
      → after next s (passed p s t) (λ x. run_of p (suc n) x (passed p s t)) ≡ one_more p s' t'
  on (Goes x) e more = more x e
  on Halts e more = absurd cc
  on (Traps c) e more = absurd cc
  on (NoFrame at) e more = absurd cc
  on Stuck e more = absurd cc

-- the run is over
abbrev pub IsEnd : Run → Type 0
IsEnd (Unfinished s t) = ⊥
IsEnd (Halted s t) = Unit {0}
IsEnd (Trapped c at s t) = Unit {0}
IsEnd Lost = Unit {0}

pub run_stays : (p : Program) (n m : ℕ) (s : State) (t : Traffic) (r : Run) → IsEnd r → run_of p n s t ≡ r → run_of p (n + m) s t ≡ r
unfolding run_of
run_stays p zero m s t r end e = absurd (subst IsEnd (sym e) end)
run_stays p (suc n) m s t r end e = ap (λ (k : ℕ). run_of p k s t) (more n m) ∙ on (step p (got p s t) s) e (λ x. run_stays p n m x (passed p s t) r end) where
  more : (n m : ℕ) → suc n + m ≡ suc (n + m)
  more n m = omega arith

  on : (next : Next) → after next s (passed p s t) (λ x. run_of p n x (passed p s t)) ≡ r → ((x : State) → run_of p n x (passed p s t) ≡ r → run_of p (n + m) x (passed p s t) ≡ r)
      → after next s (passed p s t) (λ x. run_of p (n + m) x (passed p s t)) ≡ r
  on (Goes x) e stays = stays x e
  on Halts e stays = e
  on (Traps c) e stays = e
  on (NoFrame at) e stays = e
  on Stuck e stays = e

-- ---- how far a run has come, where the source tells what it has left

pub record Come (p : Program) (n : ℕ) (first s : State) (input : List ℕ) (w0 w left : Option (List ℕ)) : Type 0 where
  pub t : Traffic
  pub run : run_of p n first (record { out = []; input = input }) ≡ Unfinished s t
  pub printed : w ≡ with_bytes w0 t.out
  pub left_is : left ≡ Some t.input

begun : (p : Program) (s : State) (input : List ℕ) (w : Option (List ℕ)) → Come p 0 s s input w w (Some input)
begun p s input w = record { t = record { out = []; input = input }; run = none p 0 s (record { out = []; input = input }) refl; printed = none_written w; left_is = refl }

pub run_starts : (p : Program) (s : State) (w left : Option (List ℕ)) → IfSome left (λ input. Come p 0 s s input w w left)
run_starts p s w None = tt
run_starts p s w (Some input) = begun p s input w

-- what is said of a source that tells what it has left
told_at : (left left' : Option (List ℕ)) (r : List ℕ) (P : List ℕ → Option (List ℕ) → Type 0) → left ≡ Some r → IfSome left (λ l. P l left') → P r left'
told_at left left' r P is h = subst (λ (o : Option (List ℕ)). IfSome o (λ l. P l left')) is h

-- a step on
pub record Went (p : Program) (n : ℕ) (first s s' : State) (next : CodeNext) (input : List ℕ) (w0 w left : Option (List ℕ)) : Type 0 where
  pub t : Traffic
  pub answer : Next
  pub comes : Comes next answer s s'
  pub run : run_of p (suc n) first (record { out = []; input = input }) ≡ after answer s t (λ x. Unfinished x t)
  pub printed : w ≡ with_bytes w0 t.out
  pub left_is : left ≡ Some t.input

went : (p : Program) (n : ℕ) (first s s' : State) (next : CodeNext) (input l : List ℕ) (w0 w w' left left' : Option (List ℕ)) → left ≡ Some l → Come p n first s input w0 w left → Stepped p s next s' l w w' left' → Went p n first s s' next input w0 w' left'
went p n first s s' next input l w0 w w' left left' told c step_is =
    let same : l ≡ c.t.input = some_list l c.t.input (sym told ∙ c.left_is) in
    let st : Stepped p s next s' c.t.input w w' left' = subst (λ (x : List ℕ). Stepped p s next s' x w w' left') same step_is in
    record {
      t = passed p s c.t;
      answer = step p (got p s c.t) s;
      comes = st.comes;
      run = run_more p n first s (record { out = []; input = input }) c.t c.run;
      printed = all_back w0 w w' c.t.out (prints_by (asked p s) s) c.printed st.written;
      left_is = st.left_is;
    }
  where
    some_list : (x y : List ℕ) → Some x ≡ Some y → x ≡ y
    some_list x y e = cc

pub run_goes : (p : Program) (n : ℕ) (first s s' : State) (w0 w w' left0 left left' : Option (List ℕ)) → IfSome left0 (λ input. Come p n first s input w0 w left) → IfSome left (λ l. Stepped p s code_next.Goes s' l w w' left') → IfSome left0 (λ input. Come p (n + 1) first s' input w0 w' left')
run_goes p n first s s' w0 w w' None left left' h k = tt
run_goes p n first s s' w0 w w' (Some input) left left' h k =
    let g = went p n first s s' code_next.Goes input h.t.input w0 w w' left left' h.left_is h (told_at left left' h.t.input (λ l o. Stepped p s code_next.Goes s' l w w' o) h.left_is k) in
    let more : suc n ≡ n + 1 = omega arith in
    record { t = g.t; run = ap (λ (m : ℕ). run_of p m first (record { out = []; input = input })) (sym more) ∙ g.run ∙ ap (λ (x : Next). after x s g.t (λ y. Unfinished y g.t)) g.comes; printed = g.printed; left_is = g.left_is }

-- a step that ends the run
pub run_over : (p : Program) (n most : ℕ) (first s s' : State) (w0 w w' left0 left left' : Option (List ℕ)) (next : CodeNext) (Is : Run → Traffic → Type 0) → n < most
    → IfSome left0 (λ input. Come p n first s input w0 w left) → IfSome left (λ l. Stepped p s next s' l w w' left')
    → ((x : Next) → Comes next x s s' → (t : Traffic) → IsEnd (after x s t (λ y. Unfinished y t)) × Is (after x s t (λ y. Unfinished y t)) t)
    → IfSome left0 (λ input. Came p most first input w0 w' left' Is)
run_over p n most first s s' w0 w w' None left left' next Is lt h k is = tt
run_over p n most first s s' w0 w w' (Some input) left left' next Is lt h k is =
    let g = went p n first s s' next input h.t.input w0 w w' left left' h.left_is h (told_at left left' h.t.input (λ l o. Stepped p s next s' l w w' o) h.left_is k) in
    let start : Traffic = record { out = []; input = input } in
    let e = is g.answer g.comes g.t in
    let whole : suc n + (most - suc n) ≡ most = omega (arith, lt) in
    let r = after g.answer s g.t (λ x. Unfinished x g.t) in
    let stays : run_of p most first start ≡ r = ap (λ (m : ℕ). run_of p m first start) (sym whole) ∙ run_stays p (suc n) (most - suc n) first start r e.0 g.run in
    record { t = g.t; run = subst (λ (x : Run). Is x g.t) (sym stays) e.1; printed = g.printed; left_is = g.left_is }

pub run_spent : (p : Program) (n most : ℕ) (first s : State) (w0 w left0 left : Option (List ℕ)) → n ≡ most → IfSome left0 (λ input. Come p n first s input w0 w left) → IfSome left0 (λ input. Came p most first input w0 w left (λ r t. r ≡ Unfinished s t))
run_spent p n most first s w0 w None left e h = tt
run_spent p n most first s w0 w (Some input) left e h = record { t = h.t; run = ap (λ (m : ℕ). run_of p m first (record { out = []; input = input })) (sym e) ∙ h.run; printed = h.printed; left_is = h.left_is }

pub run_stops : (p : Program) (n most : ℕ) (first s s' : State) (w0 w w' left0 left left' : Option (List ℕ)) → n < most → s' ≡ s → IfSome left0 (λ input. Come p n first s input w0 w left)
    → IfSome left (λ l. Broken (prints_by (asked p s) s) l w w' left') → IfSome left0 (λ input. Stopped p most first s' input w0 w' left')
run_stops p n most first s s' w0 w w' None left left' lt e h k = tt
run_stops p n most first s s' w0 w w' (Some input) left left' lt e h k =
    let b = told_at left left' h.t.input (λ l o. Broken (prints_by (asked p s) s) l w w' o) h.left_is k in
    subst (λ (x : State). Stopped p most first x input w0 w' left') (sym e)
    (record { steps = n; fewer = lt; t = h.t; run = h.run; printed = subst (λ (x : Option (List ℕ)). WritesPart x (prints_by (asked p s) s) w') h.printed b.part; taken = b.taken; left_is = b.left_is })

-- an end by a trap
pub trapped_ends : (end : End) (p : Program) (c : Trap) (at n : ℕ) (first new : State) (w0 w left0 left : Option (List ℕ)) → IsTrapped end p c at → IfSome left0 (λ input. Came p n first input w0 w left (λ r t. r ≡ Trapped c at new t)) → IfSome left0 (λ input. Ends end p n first new input w0 w left)
trapped_ends ends.StepsSpent p c at n first new w0 w left0 left is h = absurd is
trapped_ends ends.Halted p c at n first new w0 w left0 left is h = absurd is
trapped_ends ends.ReadFailed p c at n first new w0 w left0 left is h = absurd is
trapped_ends ends.WriteFailed p c at n first new w0 w left0 left is h = absurd is
trapped_ends (ends.Trapped code m procedure offset) p c at n first new w0 w None left is h = tt
trapped_ends (ends.Trapped code m procedure offset) p c at n first new w0 w (Some input) left is h =
    record { t = h.t; run = (c, at, h.run, is.0, is.1); printed = h.printed; left_is = h.left_is }

-- ---- the end that is answered

came_ends : (end : End) (p : Program) (n : ℕ) (first new : State) (w0 w left0 left : Option (List ℕ)) → end ≡ ends.Halted → IfSome left0 (λ input. Came p n first input w0 w left (λ r t. r ≡ Halted new t)) → IfSome left0 (λ input. Ends end p n first new input w0 w left)
came_ends end p n first new w0 w None left e h = tt
came_ends end p n first new w0 w (Some input) left e h = subst (λ (x : End). Ends x p n first new input w0 w left) (sym e) h

-- of a step that doesn't go on
pub ended_ends : (end : End) (p : Program) (n most : ℕ) (first s s' : State) (w0 w w' left0 left left' : Option (List ℕ)) (next : CodeNext) → n < most → is_going next ≡ false → IsEnded end p s'.at next
    → IfSome left0 (λ input. Come p n first s input w0 w left) → IfSome left (λ l. Stepped p s next s' l w w' left') → IfSome left0 (λ input. Ends end p most first s' input w0 w' left')
ended_ends end p n most first s s' w0 w w' left0 left left' code_next.Goes lt not is h k = absurd (false≢true (sym not))
ended_ends end p n most first s s' w0 w w' left0 left left' code_next.Halts lt not is h k =
    came_ends end p most first s' w0 w' left0 left' is
    (run_over p n most first s s' w0 w w' left0 left left' code_next.Halts (λ r t. r ≡ Halted s' t) lt h k
    (λ x c t. subst (λ (y : Next). IsEnd (after y s t (λ z. Unfinished z t)) × (after y s t (λ z. Unfinished z t) ≡ Halted s' t)) (sym c.0) (tt, ap (λ (z : State). Halted z t) (sym c.1))))
ended_ends end p n most first s s' w0 w w' left0 left left' (code_next.Traps trap) lt not is h k =
    trapped_ends end p trap s'.at most first s' w0 w' left0 left' is
    (run_over p n most first s s' w0 w w' left0 left left' (code_next.Traps trap) (λ r t. r ≡ Trapped trap s'.at s' t) lt h k
    (λ x c t. subst (λ (y : Next). IsEnd (after y s t (λ z. Unfinished z t)) × (after y s t (λ z. Unfinished z t) ≡ Trapped trap s'.at s' t)) (sym c.0) (tt, ap (λ (z : State). Trapped trap z.at z t) (sym c.1))))
ended_ends end p n most first s s' w0 w w' left0 left left' (code_next.NoFrame at) lt not is h k =
    trapped_ends end p traps.Memory at most first s' w0 w' left0 left' is
    (run_over p n most first s s' w0 w w' left0 left left' (code_next.NoFrame at) (λ r t. r ≡ Trapped traps.Memory at s' t) lt h k
    (λ x c t. subst (λ (y : Next). IsEnd (after y s t (λ z. Unfinished z t)) × (after y s t (λ z. Unfinished z t) ≡ Trapped traps.Memory at s' t)) (sym c.0) (tt, ap (λ (z : State). Trapped traps.Memory at z t) (sym c.1))))

pub failed_ends : (failure : Failure) (end : End) (p : Program) (n : ℕ) (first new : State) (w0 w left0 left : Option (List ℕ)) → end ≡ failed_end failure → IfSome left0 (λ input. Stopped p n first new input w0 w left) → IfSome left0 (λ input. Ends end p n first new input w0 w left)
failed_ends failure end p n first new w0 w None left e h = tt
failed_ends failures.Read end p n first new w0 w (Some input) left e h = subst (λ (x : End). Ends x p n first new input w0 w left) (sym e) h
failed_ends failures.Write end p n first new w0 w (Some input) left e h = subst (λ (x : End). Ends x p n first new input w0 w left) (sym e) h

pub write_failed : (failure : Failure) (end : End) (p0 p1 p2 k1 k2 : ℕ) → end ≡ failed_end failure → p0 ≤ p1 → FailedWith failure p1 p2 k1 k2 → end ≡ ends.WriteFailed → Rose p0 p2
write_failed failures.Read end p0 p1 p2 k1 k2 e le h is = absurd (differ (sym e ∙ is)) where
  differ : ends.ReadFailed ≡ ends.WriteFailed → ⊥
  differ x = cc
write_failed failures.Write end p0 p1 p2 k1 k2 e le h is = rose_from p0 p1 p2 le h

pub read_failed : (failure : Failure) (end : End) (p1 p2 k0 k1 k2 : ℕ) → end ≡ failed_end failure → k0 ≤ k1 → FailedWith failure p1 p2 k1 k2 → end ≡ ends.ReadFailed → Rose k0 k2
read_failed failures.Write end p1 p2 k0 k1 k2 e le h is = absurd (differ (sym e ∙ is)) where
  differ : ends.WriteFailed ≡ ends.ReadFailed → ⊥
  differ x = cc
read_failed failures.Read end p1 p2 k0 k1 k2 e le h is = rose_from k0 k1 k2 le h

pub read_handed : (failure : Failure) (end : End) (kept : ℕ) → end ≡ failed_end failure → (failure ≡ failures.Read → kept ≡ 0) → end ≡ ends.ReadFailed → kept ≡ 0
read_handed failures.Read end kept e h is = h refl
read_handed failures.Write end kept e h is = absurd (differ (sym e ∙ is)) where
  differ : ends.WriteFailed ≡ ends.ReadFailed → ⊥
  differ x = cc

trap_no_failure : (end : End) (p : Program) (c : Trap) (at : ℕ) → IsTrapped end p c at → (end ≡ ends.WriteFailed → ⊥) × (end ≡ ends.ReadFailed → ⊥)
trap_no_failure ends.StepsSpent p c at is = absurd is
trap_no_failure ends.Halted p c at is = absurd is
trap_no_failure ends.ReadFailed p c at is = absurd is
trap_no_failure ends.WriteFailed p c at is = absurd is
trap_no_failure (ends.Trapped code m procedure offset) p c at is = (λ e. cc, λ e. cc)

-- an end that is no failure
pub no_failure : (end : End) (p : Program) (at : ℕ) (next : CodeNext) → is_going next ≡ false → IsEnded end p at next → (end ≡ ends.WriteFailed → ⊥) × (end ≡ ends.ReadFailed → ⊥)
no_failure end p at code_next.Goes not is = absurd (false≢true (sym not))
no_failure end p at code_next.Halts not is = (λ e. one (sym is ∙ e), λ e. two (sym is ∙ e)) where
  one : ends.Halted ≡ ends.WriteFailed → ⊥
  one x = cc

  two : ends.Halted ≡ ends.ReadFailed → ⊥
  two x = cc
no_failure end p at (code_next.Traps c) not is = trap_no_failure end p c at is
no_failure end p at (code_next.NoFrame first) not is = trap_no_failure end p traps.Memory first is

pub goes_is : (next : CodeNext) → is_going next ≡ true → next ≡ code_next.Goes
goes_is code_next.Goes e = refl
goes_is code_next.Halts e = absurd (false≢true e)
goes_is (code_next.Traps c) e = absurd (false≢true e)
goes_is (code_next.NoFrame at) e = absurd (false≢true e)
