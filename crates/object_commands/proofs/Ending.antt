-- From the machine's end to what running a program leaves.
use Rattle.std.proofs.Common.{◌≡◌, ◌⊎◌, inl, inr, ℕ, ◌≤◌, List, [], ◌++◌, Option, Some, None, Result, Ok, Err, refl, sym, ◌∙◌, ap, subst, arith, append_assoc, append-nil}
use Rattle.std.specs.Prelude.{IfOk, IfSome, OnErr, ◌==◌, if◌then◌else◌}
use Rattle.m2_io.specs.Written.{with_bytes, WritesPart}
use Rattle.object_file.specs.Contents.{Contents}
use Rattle.object_text.proofs.Shown.{shown_more, shown_part, shown_start}
use Rattle.stack_machine.specs.Loading.{IsLoaded, begun, frames_of}
use Rattle.stack_machine.specs.Machines.{EndsFrom}
use Rattle.stack_machine.specs.Numbers.{code_of}
use Rattle.stack_machine.specs.Runs.{Ends, Stopped, Traffic, asked, prints_by}
use Rattle.stack_machine.specs.State.{Program, State}
use Rattle.stack_machine.specs.Step.{Goes, Halts, Next, NoFrame, Stuck, Traps}
use Rattle.stack_machine.specs.declared.code.Origin.{Origin}
use Rattle.stack_machine.specs.declared.run.End.{End}
use Rattle.stack_machine.specs.declared.run.End.TheVariants as machine
use Rattle.stack_machine.specs.declared.trap.Trap.{Trap}
use Rattle.stack_machine.specs.declared.trap.Trap.TheVariants as traps
use Rattle.object_commands.specs.Outcomes.{Leaves, LeavesPart, Outcome}
use Rattle.object_commands.specs.Runs.{Fares, Finishes, FinishesPart, HasCode, IsFailed, IsRan, Ran, RunsProgram, before, ends, no_frame, no_room, over, ran_answer, ran_text, runs, spends, spent, trapped, traps_at}
use Rattle.object_commands.specs.declared.answer.Answer.{Answer}
use Rattle.object_commands.specs.declared.answer.Stop.{Stop}
use Rattle.object_commands.proofs.Faring.{Begins, RunBegins, next_prints}
use Rattle.object_commands.proofs.OneCode.{one_code}
use Rattle.object_commands.proofs.OneOutcome.{one_faring}

-- the trap of a code; any for what is no code
abbrev trap_of : ℕ → Trap
trap_of code = if code == 1 then traps.Memory else (if code == 2 then traps.Nil else (if code == 3 then traps.Address else (if code == 4 then traps.Index else (if code == 5 then traps.Range
    else (if code == 6 then traps.Divisor else (if code == 7 then traps.Result else (if code == 8 then traps.Case else traps.Procedure)))))))

trap_again : (c : Trap) → trap_of (code_of c) ≡ c
trap_again traps.Memory = refl
trap_again traps.Nil = refl
trap_again traps.Address = refl
trap_again traps.Index = refl
trap_again traps.Range = refl
trap_again traps.Divisor = refl
trap_again traps.Result = refl
trap_again traps.Case = refl
trap_again traps.Procedure = refl

-- traps with one code are one
codes_differ : (c d : Trap) → code_of c ≡ code_of d → c ≡ d
codes_differ c d e = sym (trap_again c) ∙ ap trap_of e ∙ trap_again d

-- ** An end of the program

record HasFared (p : Program) (n : ℕ) (input : List ℕ) (first : Next) (r : Ran) (w0 w left : Option (List ℕ)) : Type 0 where
  t : Traffic
  fares : Fares p n input first r t
  written : w ≡ with_bytes w0 t.out
  left_is : left ≡ Some t.input

nothing_more : (w : Option (List ℕ)) → w ≡ with_bytes w []
nothing_more None = refl
nothing_more (Some x) = ap Some (sym (append-nil x))

module _ (p : Program) (n : ℕ) (input : List ℕ) (w0 w left : Option (List ℕ)) where
  fared : (end : End) (s s' : State) (r : Ran) → Ends end p n s s' input w0 w left → IsRan end r → HasFared p n input (Goes s) r w0 w left
  fared machine.Halted s s' r h is = subst (λ (x : Ran). HasFared p n input (Goes s) x w0 w left) (sym is) (record { t = h.t; fares = ends h.run; written = h.printed; left_is = h.left_is })
  fared machine.StepsSpent s s' r h is = subst (λ (x : Ran). HasFared p n input (Goes s) x w0 w left) (sym is) (record { t = h.t; fares = spends h.run; written = h.printed; left_is = h.left_is })
  fared (machine.Trapped code m procedure offset) s s' r h is =
      let place : Origin = record { «module» = m; procedure = procedure; offset = offset } in
      let same : h.run.0 ≡ is.0 = codes_differ h.run.0 is.0 (sym h.run.3 ∙ is.1) in
      subst (λ (x : Ran). HasFared p n input (Goes s) x w0 w left) (ap (λ (c : Trap). trapped c place) same ∙ sym is.2)
      (record { t = h.t; fares = traps_at h.run.2 h.run.4; written = h.printed; left_is = h.left_is })
  fared machine.ReadFailed s s' r h is = absurd is
  fared machine.WriteFailed s s' r h is = absurd is

  ends_so : (end : End) (first new : Next) (r : Ran) → EndsFrom end p n first new input w0 w left → IsRan end r → HasFared p n input first r w0 w left
  ends_so end (Goes s) new r h is = fared end s h.0 r h.2 is
  ends_so (machine.Trapped code m procedure offset) (NoFrame at) new r h is =
      let place : Origin = record { «module» = m; procedure = procedure; offset = offset } in
      let same : traps.Memory ≡ is.0 = codes_differ traps.Memory is.0 (sym h.1.0 ∙ is.1) in
      subst (λ (x : Ran). HasFared p n input (NoFrame at) x w0 w left) (ap (λ (c : Trap). trapped c place) same ∙ sym is.2)
      (record { t = before input; fares = no_frame h.1.1; written = h.2 ∙ nothing_more w0; left_is = h.3 })
  ends_so machine.Halted (NoFrame at) new r h is = absurd h.1
  ends_so machine.StepsSpent (NoFrame at) new r h is = absurd h.1
  ends_so machine.ReadFailed (NoFrame at) new r h is = absurd h.1
  ends_so machine.WriteFailed (NoFrame at) new r h is = absurd h.1
  ends_so end Halts new r h is = absurd h
  ends_so end (Traps c) new r h is = absurd h
  ends_so end Stuck new r h is = absurd h

  pub end_coded : (end : End) (first new : Next) → EndsFrom end p n first new input w0 w left → HasCode end
  end_coded machine.Halted first new h = tt
  end_coded machine.StepsSpent first new h = tt
  end_coded machine.ReadFailed first new h = tt
  end_coded machine.WriteFailed first new h = tt
  end_coded (machine.Trapped code m procedure offset) (Goes s) new h = (h.2.run.0, h.2.run.3)
  end_coded (machine.Trapped code m procedure offset) (NoFrame at) new h = (traps.Memory, h.1.0)
  end_coded (machine.Trapped code m procedure offset) Halts new h = absurd h
  end_coded (machine.Trapped code m procedure offset) (Traps c) new h = absurd h
  end_coded (machine.Trapped code m procedure offset) Stuck new h = absurd h

-- ** A run that breaks off

module _ (os : List Contents) (p : Program) (steps cells : ℕ) (input : List ℕ) (w0 : Option (List ℕ)) (is : IsLoaded os p) (enough : frames_of os ≤ cells) where
  abbrev outcome_of : Ran → Traffic → Outcome
  outcome_of r t = record { answer = ran_answer r; printed = t.out ++ ran_text os r; left = t.input }

  given : (r : Ran) (t : Traffic) → Fares p steps input (begun os p cells) r t → RunsProgram os steps cells input (outcome_of r t)
  given r t f = runs enough is f

  -- the parts of the text that is printed
  parted : (a b c d : List ℕ) → ((a ++ b) ++ c) ++ d ≡ a ++ (b ++ (c ++ d))
  parted a b c d = append_assoc (a ++ b) c d ∙ append_assoc a b (c ++ d)

  part_of : (r : Ran) (t : Traffic) (front piece : List ℕ) (w : Option (List ℕ)) → Begins (front ++ piece) t → WritesPart (with_bytes w0 front) piece w → WritesPart w0 (t.out ++ ran_text os r) w
  part_of r t front piece w b part =
      let whole = t.out ++ ran_text os r in
      let behind = b.0 ++ ran_text os r in
      let split : whole ≡ front ++ (piece ++ behind) = ap (λ (x : List ℕ). x ++ ran_text os r) b.1 ∙ parted front piece b.0 (ran_text os r) in
      let first = shown_start w0 whole (front ++ (piece ++ behind)) split in
      let second = shown_more w0 w0 (with_bytes w0 front) whole (front ++ (piece ++ behind)) front (piece ++ behind) first refl refl in
      shown_part w0 (with_bytes w0 front) w whole (piece ++ behind) piece behind second refl part

  stopped_so : (first new : State) (w left : Option (List ℕ)) → Stopped p steps first new input w0 w left → (r : Ran) (t : Traffic) → Fares p steps input (Goes first) r t → WritesPart w0 (t.out ++ ran_text os r) w
  stopped_so first new w left st _ t (ends e) =
      part_of over t st.t.out (prints_by (asked p new) new) w (subst (RunBegins (st.t.out ++ prints_by (asked p new) new)) e (next_prints p st.steps steps first (before input) new st.t st.fewer st.run)) st.printed
  stopped_so first new w left st _ t (traps_at {c = c} {place = place} e at) =
      part_of (trapped c place) t st.t.out (prints_by (asked p new) new) w (subst (RunBegins (st.t.out ++ prints_by (asked p new) new)) e (next_prints p st.steps steps first (before input) new st.t st.fewer st.run)) st.printed
  stopped_so first new w left st _ t (spends e) =
      part_of spent t st.t.out (prints_by (asked p new) new) w (subst (RunBegins (st.t.out ++ prints_by (asked p new) new)) e (next_prints p st.steps steps first (before input) new st.t st.fewer st.run)) st.printed

  -- ** What finishing leaves

  module _ (w1 w2 left : Option (List ℕ)) (end : End) (new : Next) (h : EndsFrom end p steps (begun os p cells) new input w0 w1 left) where
    finished : (answer : Answer) → Finishes os end answer w1 w2 → Leaves (RunsProgram os steps cells input) answer w0 w2 left
    finished answer f =
        let x = ends_so p steps input w0 w1 left end (begun os p cells) new f.ran h f.is in
        record {
          outcome = outcome_of f.ran x.t;
          is_given = given f.ran x.t x.fares;
          answer_is = f.answer_is;
          printed_is = f.printed_is ∙ ap (λ (o : Option (List ℕ)). with_bytes o (ran_text os f.ran)) x.written ∙ twice w0 x.t.out (ran_text os f.ran);
          left_is = x.left_is;
        }
      where
        twice : (w : Option (List ℕ)) (a b : List ℕ) → with_bytes (with_bytes w a) b ≡ with_bytes w (a ++ b)
        twice None a b = refl
        twice (Some x) a b = ap Some (append_assoc x a b)

    -- behind the program's own output
    part_behind : (r : Ran) (t : Traffic) → w1 ≡ with_bytes w0 t.out → WritesPart w1 (ran_text os r) w2 → WritesPart w0 (t.out ++ ran_text os r) w2
    part_behind r t e part =
        let whole = t.out ++ ran_text os r in
        let first = shown_start w0 whole whole refl in
        let second = shown_more w0 w0 w1 whole whole t.out (ran_text os r) first refl e in
        shown_part w0 w1 w2 whole (ran_text os r) (ran_text os r) [] second (sym (append-nil (ran_text os r))) part

    ran_or_failed : (x : End) → HasCode x → ((r : Ran) × IsRan x r) ⊎ IsFailed x
    ran_or_failed machine.Halted c = inl (over, refl)
    ran_or_failed machine.StepsSpent c = inl (spent, refl)
    ran_or_failed (machine.Trapped code m procedure offset) c = inl (trapped c.0 (record { «module» = m; procedure = procedure; offset = offset }), (c.0, c.1, refl))
    ran_or_failed machine.ReadFailed c = inr (inl refl)
    ran_or_failed machine.WriteFailed c = inr (inr refl)

    stopped_from : (first : Next) → EndsFrom end p steps first new input w0 w1 left → IsFailed end → (r : Ran) (t : Traffic) → Fares p steps input first r t → WritesPart w0 (t.out ++ ran_text os r) w1
    stopped_from (Goes s) h' (inl e) r t f = let k = subst (λ (x : End). EndsFrom x p steps (Goes s) new input w0 w1 left) e h' in stopped_so s k.0 w1 left k.2 r t f
    stopped_from (Goes s) h' (inr e) r t f = let k = subst (λ (x : End). EndsFrom x p steps (Goes s) new input w0 w1 left) e h' in stopped_so s k.0 w1 left k.2 r t f
    stopped_from (NoFrame at) h' (inl e) r t f = absurd (subst (λ (x : End). EndsFrom x p steps (NoFrame at) new input w0 w1 left) e h').1
    stopped_from (NoFrame at) h' (inr e) r t f = absurd (subst (λ (x : End). EndsFrom x p steps (NoFrame at) new input w0 w1 left) e h').1
    stopped_from Halts h' e r t f = absurd h'
    stopped_from (Traps c) h' e r t f = absurd h'
    stopped_from Stuck h' e r t f = absurd h'

    parts : FinishesPart os end w1 w2 → (r : Ran) (t : Traffic) → Fares p steps input (begun os p cells) r t → WritesPart w0 (t.out ++ ran_text os r) w2
    parts f r t fares = on (ran_or_failed end (end_coded p steps input w0 w1 left end (begun os p cells) new h)) where
      on : ((x : Ran) × IsRan end x) ⊎ IsFailed end → WritesPart w0 (t.out ++ ran_text os r) w2
      on (inl x) =
          let y = ends_so p steps input w0 w1 left end (begun os p cells) new x.0 h x.1 in
          let same = one_faring p steps input (begun os p cells) x.0 r y.t t y.fares fares in
          part_behind r t (y.written ∙ ap (λ (z : Traffic). with_bytes w0 z.out) same.traffics) (subst (λ (z : Ran). WritesPart w1 (ran_text os z) w2) same.rans (f.part x.0 x.1))
      on (inr failed) = subst (λ (w : Option (List ℕ)). WritesPart w0 (t.out ++ ran_text os r) w) (sym (f.nothing failed)) (stopped_from (begun os p cells) h failed r t fares)

    unfinished : FinishesPart os end w1 w2 → LeavesPart (RunsProgram os steps cells input) w0 w2
    unfinished f _ (no_room less) = absurd (omega (arith, less, enough))
    unfinished f _ (runs {p = q} {r = r} {t = t} enough' is' fares) =
        parts f r t (subst (λ (x : Program). Fares x steps input (begun os x cells) r t) (one_code os q p is' is) fares)

module _ (os : List Contents) (p : Program) (steps cells : ℕ) (is : IsLoaded os p) (enough : frames_of os ≤ cells) (input w0 w1 w2 left : Option (List ℕ)) (end : End) (first new : Next) (at : first ≡ begun os p cells)
    (h : IfSome input (λ i. EndsFrom end p steps first new i w0 w1 left)) (result : Result Answer Stop) where
  pub run_leaves : (HasCode end → IfOk result (λ answer. Finishes os end answer w1 w2)) → IfOk result (λ answer. IfSome input (λ i. Leaves (RunsProgram os steps cells i) answer w0 w2 left))
  run_leaves f = on result input h f where
    on : (r : Result Answer Stop) (i : Option (List ℕ)) → IfSome i (λ i. EndsFrom end p steps first new i w0 w1 left) → (HasCode end → IfOk r (λ answer. Finishes os end answer w1 w2)) → IfOk r (λ answer. IfSome i (λ i. Leaves (RunsProgram os steps cells i) answer w0 w2 left))
    on (Err e) i h f = tt
    on (Ok answer) None h f = tt
    on (Ok answer) (Some i) h f =
        let k : EndsFrom end p steps (begun os p cells) new i w0 w1 left = subst (λ (x : Next). EndsFrom end p steps x new i w0 w1 left) at h in
        finished os p steps cells i w0 is enough w1 w2 left end new k answer (f (end_coded p steps i w0 w1 left end (begun os p cells) new k))

  pub run_part : OnErr result (FinishesPart os end w1 w2) → OnErr result (IfSome input (λ i. LeavesPart (RunsProgram os steps cells i) w0 w2))
  run_part f = on result input h f where
    on : (r : Result Answer Stop) (i : Option (List ℕ)) → IfSome i (λ i. EndsFrom end p steps first new i w0 w1 left) → OnErr r (FinishesPart os end w1 w2) → OnErr r (IfSome i (λ i. LeavesPart (RunsProgram os steps cells i) w0 w2))
    on (Ok answer) i h f = tt
    on (Err e) None h f = tt
    on (Err e) (Some i) h f =
        unfinished os p steps cells i w0 is enough w1 w2 left end new (subst (λ (x : Next). EndsFrom end p steps x new i w0 w1 left) at h) f
