-- What a run prints grows, and what is printed before it breaks off is a front of it.
use Rattle.std.proofs.Common.{◌≡◌, ℕ, zero, suc, ◌<◌, List, [], ◌++◌, sym, ◌∙◌, ap, subst, arith, append-nil, append_assoc}
use Rattle.stack_machine.specs.Runs.{Halted, Lost, Run, Traffic, Trapped, Unfinished, after, asked, got, passed, prints_by, run_of}
use Rattle.stack_machine.specs.State.{Program, State}
use Rattle.stack_machine.specs.Step.{Goes, Halts, Next, NoFrame, Stuck, Traps, step}

-- what was printed begins with these bytes
abbrev pub Begins : List ℕ → Traffic → Type 0
Begins front t = (more : List ℕ) × (t.out ≡ front ++ more)

abbrev pub RunBegins : List ℕ → Run → Type 0
RunBegins front (Unfinished s t) = Begins front t
RunBegins front (Halted s t) = Begins front t
RunBegins front (Trapped c at s t) = Begins front t
RunBegins front Lost = Unit {0}

begins_at : (front : List ℕ) (x : Next) (old : State) (t : Traffic) (go : State → Run) → Begins front t → ((s : State) → RunBegins front (go s)) → RunBegins front (after x old t go)
begins_at front (Goes s) old t go b h = h s
begins_at front Halts old t go b h = b
begins_at front (Traps c) old t go b h = b
begins_at front (NoFrame at) old t go b h = b
begins_at front Stuck old t go b h = tt

-- a run prints behind what was printed
pub run_begins : (p : Program) (front : List ℕ) (n : ℕ) (s : State) (t : Traffic) → Begins front t → RunBegins front (run_of p n s t)
unfolding run_of
run_begins p front zero s t b = b
run_begins p front (suc n) s t b =
    let longer : Begins front (passed p s t) =
    (b.0 ++ prints_by (asked p s) s, ap (λ (x : List ℕ). x ++ prints_by (asked p s) s) b.1 ∙ append_assoc front b.0 (prints_by (asked p s) s)) in
    begins_at front (step p (got p s t) s) s (passed p s t) (λ s'. run_of p n s' (passed p s t)) longer (λ s'. run_begins p front n s' (passed p s t) longer)

one_unfinished : (s s' : State) (t t' : Traffic) → Unfinished s t ≡ Unfinished s' t' → (s ≡ s') × (t ≡ t')
one_unfinished s s' t t' e = (let a : s ≡ s' = cc in a, let b : t ≡ t' = cc in b)

-- behind fewer steps the next one prints
pub next_prints : (p : Program) (k n : ℕ) (s : State) (t : Traffic) (new : State) (u : Traffic) → k < n → run_of p k s t ≡ Unfinished new u → RunBegins (u.out ++ prints_by (asked p new) new) (run_of p n s t)
unfolding run_of
next_prints p k zero s t new u less e = absurd (omega (arith, less))
next_prints p zero (suc n) s t new u less e =
    let same = one_unfinished s new t u e in
    subst (λ (x : State). RunBegins (u.out ++ prints_by (asked p x) x) (run_of p (suc n) s t)) same.0
    (subst (λ (x : Traffic). RunBegins (x.out ++ prints_by (asked p s) s) (run_of p (suc n) s t)) same.1 here) where
      front : List ℕ
      front = t.out ++ prints_by (asked p s) s

      own : Begins front (passed p s t)
      own = ([], sym (append-nil front))

      here : RunBegins front (run_of p (suc n) s t)
      here = begins_at front (step p (got p s t) s) s (passed p s t) (λ s'. run_of p n s' (passed p s t)) own (λ s'. run_begins p front n s' (passed p s t) own)
next_prints p (suc k) (suc n) s t new u less e = on (step p (got p s t) s) e (λ s' f. next_prints p k n s' (passed p s t) new u (omega (arith, less)) f) where
  front : List ℕ
  front = u.out ++ prints_by (asked p new) new

  on : (x : Next) → after x s (passed p s t) (λ s'. run_of p k s' (passed p s t)) ≡ Unfinished new u
      → ((s' : State) → run_of p k s' (passed p s t) ≡ Unfinished new u → RunBegins front (run_of p n s' (passed p s t)))
      → RunBegins front (after x s (passed p s t) (λ s'. run_of p n s' (passed p s t)))
  on (Goes s') e by = by s' e
  on Halts e by = cc
  on (Traps c) e by = cc
  on (NoFrame at) e by = cc
  on Stuck e by = cc
