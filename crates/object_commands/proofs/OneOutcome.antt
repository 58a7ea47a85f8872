-- A command over given files has one outcome.
use Rattle.std.proofs.Common.{◌≡◌, ℕ, List, ◌++◌, Option, Some, refl, sym, ◌∙◌, ap, subst, arith}
use Rattle.m2_io.specs.Files.{Files}
use Rattle.m2_io.specs.Written.{WritesPart}
use Rattle.object_file.specs.Contents.{Contents}
use Rattle.object_text.proofs.Lines.{same_text}
use Rattle.object_text.specs.Text.{IsText}
use Rattle.program_load.specs.Closure.{start}
use Rattle.program_load.specs.Loads.{Failure, Loads, fails, linked}
use Rattle.program_load.proofs.OneLoading.{found_no_stop, one_found, one_loading_lem, one_stop}
use Rattle.stack_machine.specs.Loading.{IsLoaded, begun}
use Rattle.stack_machine.specs.Runs.{AtPlace, Halted, Run, Traffic, Trapped, Unfinished}
use Rattle.stack_machine.specs.State.{Program, State}
use Rattle.stack_machine.specs.Step.{Next}
use Rattle.stack_machine.specs.declared.code.Origin.{Origin}
use Rattle.stack_machine.specs.declared.trap.Trap.TheVariants as traps
use Rattle.stack_machine.specs.declared.trap.Trap.{Trap}
use Rattle.object_commands.specs.Dumps.{Dumps, dumped, failed as dump_failed}
use Rattle.object_commands.specs.Failures.{failure_answer, failure_text, line}
use Rattle.object_commands.specs.Outcomes.{LeavesPart, Outcome, PrintsPart}
use Rattle.object_commands.specs.Runs.{Fares, Ran, Runs, RunsProgram, ends, failed, loaded, no_frame, no_room, over, ran_answer, ran_text, runs, spends, trapped, traps_at}
use Rattle.object_commands.specs.declared.answer.Answer.{Answer}
use Rattle.object_commands.proofs.OneCode.{one_code}

-- ** Dumping

module _ (files : Files) (name : List ℕ) where
  pub one_dump : (printed other : List ℕ) (answer another : Answer) → Dumps (Some files) name printed answer → Dumps (Some files) name other another → printed ≡ other
  one_dump _ _ _ _ (dumped o text has is) (dumped o' text' has' is') =
      same_text o' text text' (subst (λ (x : Contents). IsText x text) (one_found files name o o' has has') is) is'
  one_dump _ _ _ _ (dumped o text has is) (dump_failed f stops) = absurd (found_no_stop files name o f has stops)
  one_dump _ _ _ _ (dump_failed f stops) (dumped o text has is) = absurd (found_no_stop files name o f has stops)
  one_dump _ _ _ _ (dump_failed f stops) (dump_failed g stops') = ap (λ (x : Failure). line (failure_text name x)) (one_stop files (start name) name f g stops stops')

  pub one_dump_answer : (printed other : List ℕ) (answer another : Answer) → Dumps (Some files) name printed answer → Dumps (Some files) name other another → answer ≡ another
  one_dump_answer _ _ _ _ (dumped o text has is) (dumped o' text' has' is') = refl
  one_dump_answer _ _ _ _ (dumped o text has is) (dump_failed f stops) = absurd (found_no_stop files name o f has stops)
  one_dump_answer _ _ _ _ (dump_failed f stops) (dumped o text has is) = absurd (found_no_stop files name o f has stops)
  one_dump_answer _ _ _ _ (dump_failed f stops) (dump_failed g stops') = ap failure_answer (one_stop files (start name) name f g stops stops')

  -- what is a front of what one outcome prints is a front of what is printed
  pub dump_part : (printed : List ℕ) (answer : Answer) (old new : Option (List ℕ)) → Dumps (Some files) name printed answer → WritesPart old printed new → PrintsPart (Dumps (Some files) name) old new
  dump_part printed answer old new h part other another k = subst (λ (x : List ℕ). WritesPart old x new) (one_dump printed other answer another h k) part

-- ** How a program runs

pub record Fared (r r' : Ran) (t t' : Traffic) : Type 0 where
  pub rans : r ≡ r'
  pub traffics : t ≡ t'

one_end : (x : Run) (r r' : Ran) (t t' : Traffic) (s s' : State) → x ≡ Halted s t → x ≡ Halted s' t' → t ≡ t'
one_end x r r' t t' s s' e f = let h : Halted s t ≡ Halted s' t' = sym e ∙ f in cc

one_spent : (x : Run) (t t' : Traffic) (s s' : State) → x ≡ Unfinished s t → x ≡ Unfinished s' t' → t ≡ t'
one_spent x t t' s s' e f = let h : Unfinished s t ≡ Unfinished s' t' = sym e ∙ f in cc

record Trap_at (c c' : Trap) (at at' : ℕ) (t t' : Traffic) : Type 0 where
  traps : c ≡ c'
  places : at ≡ at'
  pub traffics : t ≡ t'

one_trap : (x : Run) (c c' : Trap) (at at' : ℕ) (t t' : Traffic) (s s' : State) → x ≡ Trapped c at s t → x ≡ Trapped c' at' s' t' → Trap_at c c' at at' t t'
one_trap x c c' at at' t t' s s' e f =
    let h : Trapped c at s t ≡ Trapped c' at' s' t' = sym e ∙ f in
    record { traps = let a : c ≡ c' = cc in a; places = let a : at ≡ at' = cc in a; traffics = let a : t ≡ t' = cc in a }

not_trapped : (x : Run) (c : Trap) (at : ℕ) (t t' : Traffic) (s s' : State) → x ≡ Halted s t → x ≡ Trapped c at s' t' → ⊥
not_trapped x c at t t' s s' e f = let h : Halted s t ≡ Trapped c at s' t' = sym e ∙ f in cc

not_spent : (x : Run) (t t' : Traffic) (s s' : State) → x ≡ Halted s t → x ≡ Unfinished s' t' → ⊥
not_spent x t t' s s' e f = let h : Halted s t ≡ Unfinished s' t' = sym e ∙ f in cc

trap_not_spent : (x : Run) (c : Trap) (at : ℕ) (t t' : Traffic) (s s' : State) → x ≡ Trapped c at s t → x ≡ Unfinished s' t' → ⊥
trap_not_spent x c at t t' s s' e f = let h : Trapped c at s t ≡ Unfinished s' t' = sym e ∙ f in cc

one_place : (p : Program) (at : ℕ) (a b : Origin) → AtPlace a p at → AtPlace b p at → a ≡ b
one_place p at a b e f = let h : Some a ≡ Some b = sym e ∙ f in cc

module _ (p : Program) (most : ℕ) (input : List ℕ) where
  pub one_faring : (first : Next) (r r' : Ran) (t t' : Traffic) → Fares p most input first r t → Fares p most input first r' t' → Fared r r' t t'
  one_faring _ _ _ t t' (ends {last = s} e) (ends {last = s'} f) = record { rans = refl; traffics = one_end _ over over t t' s s' e f }
  one_faring _ _ _ t t' (ends {last = s} e) (traps_at {last = s'} {c = c} {at = at} f place) = absurd (not_trapped _ c at t t' s s' e f)
  one_faring _ _ _ t t' (ends {last = s} e) (spends {last = s'} f) = absurd (not_spent _ t t' s s' e f)
  one_faring _ _ _ t t' (traps_at {last = s'} {c = c} {at = at} f place) (ends {last = s} e) = absurd (not_trapped _ c at t' t s s' e f)
  one_faring _ _ _ t t' (traps_at {last = s} {c = c} {at = at} {place = a} e place) (traps_at {last = s'} {c = c'} {at = at'} {place = b} f place') =
      let same = one_trap _ c c' at at' t t' s s' e f in
      let placed : a ≡ b = one_place p at' a b (subst (λ (k : ℕ). AtPlace a p k) same.places place) place' in
      record { rans = ap (λ (x : Trap). trapped x a) same.traps ∙ ap (trapped c') placed; traffics = same.traffics }
  one_faring _ _ _ t t' (traps_at {last = s} {c = c} {at = at} e place) (spends {last = s'} f) = absurd (trap_not_spent _ c at t t' s s' e f)
  one_faring _ _ _ t t' (spends {last = s'} f) (ends {last = s} e) = absurd (not_spent _ t' t s s' e f)
  one_faring _ _ _ t t' (spends {last = s'} f) (traps_at {last = s} {c = c} {at = at} e place) = absurd (trap_not_spent _ c at t' t s s' e f)
  one_faring _ _ _ t t' (spends {last = s} e) (spends {last = s'} f) = record { rans = refl; traffics = one_spent _ t t' s s' e f }
  one_faring _ _ _ _ _ (no_frame {at = at} {place = a} place) (no_frame {place = b} place') =
      record { rans = ap (trapped traps.Memory) (one_place p at a b place place'); traffics = refl }

module _ (os : List Contents) (steps cells : ℕ) (input : List ℕ) where
  one_ran : (p q : Program) (r r' : Ran) (t t' : Traffic) → IsLoaded os p → IsLoaded os q → Fares p steps input (begun os p cells) r t → Fares q steps input (begun os q cells) r' t' → Fared r r' t t'
  one_ran p q r r' t t' h g f f' =
      one_faring q steps input (begun os q cells) r r' t t' (subst (λ (x : Program). Fares x steps input (begun os x cells) r t) (one_code os p q h g) f) f'

  abbrev outcome_of : Ran → Traffic → Outcome
  outcome_of r t = record { answer = ran_answer r; printed = t.out ++ ran_text os r; left = t.input }

  pub one_program_run : (these those : Outcome) → RunsProgram os steps cells input these → RunsProgram os steps cells input those → these ≡ those
  one_program_run _ _ (no_room less) (no_room less') = refl
  one_program_run _ _ (no_room less) (runs enough h f) = absurd (omega (arith, less, enough))
  one_program_run _ _ (runs enough h f) (no_room less) = absurd (omega (arith, less, enough))
  one_program_run _ _ (runs {p = p} {r = r} {t = t} enough h f) (runs {p = q} {r = r'} {t = t'} enough' h' f') =
      let same = one_ran p q r r' t t' h h' f f' in
      ap (λ (x : Ran). outcome_of x t) same.rans ∙ ap (outcome_of r') same.traffics

-- ** Running

module _ (files : Files) (name : List ℕ) (steps cells : ℕ) (input : List ℕ) where
  one_failure : (f g : Failure) → Loads (Some files) name (fails f) → Loads (Some files) name (fails g) → f ≡ g
  one_failure f g a b = let h : fails f ≡ fails g = one_loading_lem files name (fails f) (fails g) a b in cc

  pub one_linked : (os os' : List Contents) → Loads (Some files) name (linked os) → Loads (Some files) name (linked os') → os ≡ os'
  one_linked os os' a b = let h : linked os ≡ linked os' = one_loading_lem files name (linked os) (linked os') a b in cc

  pub not_both : (f : Failure) (os : List Contents) → Loads (Some files) name (fails f) → Loads (Some files) name (linked os) → ⊥
  not_both f os a b = let h : fails f ≡ linked os = one_loading_lem files name (fails f) (linked os) a b in cc

  pub one_run : (these those : Outcome) → Runs (Some files) name steps cells input these → Runs (Some files) name steps cells input those → these ≡ those
  one_run _ _ (failed f a) (failed g b) = ap (λ (x : Failure). record { answer = failure_answer x; printed = line (failure_text name x); left = input }) (one_failure f g a b)
  one_run _ those (failed f a) (loaded {os = os} b h) = absurd (not_both f os a b)
  one_run these _ (loaded {os = os} b h) (failed f a) = absurd (not_both f os a b)
  one_run these those (loaded {os = os} a h) (loaded {os = os'} b g) =
      one_program_run os' steps cells input these those (subst (λ (x : List Contents). RunsProgram x steps cells input these) (one_linked os os' a b) h) g

  -- what is a front of what one outcome prints is a front of what is printed
  pub run_part : (outcome : Outcome) (old new : Option (List ℕ)) → Runs (Some files) name steps cells input outcome → WritesPart old outcome.printed new → LeavesPart (Runs (Some files) name steps cells input) old new
  run_part outcome old new h part other k = subst (λ (x : Outcome). WritesPart old x.printed new) (one_run outcome other h k) part
