-- What the commands leave, by what the calls below them leave.
use Rattle.std.proofs.Common.{◌≡◌, ◌⊎◌, inl, inr, ℕ, ◌<◌, ◌≤◌, arith, codes, decimal, List, ◌++◌, Option, Some, None, Result, Ok, Err, refl, sym, ◌∙◌, subst}
use Rattle.std.specs.Prelude.{IfErr, IfOk, IfSome, IsErrOf, OnErr}
use Rattle.std.proofs.lemmas.Bool.{cases_lt}
use Rattle.m2_io.specs.Files.{Files}
use Rattle.m2_io.specs.Written.{with_bytes, WritesPart}
use Rattle.object_file.specs.Contents.{Contents}
use Rattle.object_text.specs.Printed as text
use Rattle.program_load.specs.Answers.{told}
use Rattle.program_load.specs.Closure.{start}
use Rattle.program_load.specs.Loads.{Failure, Finds, Loads, Stops, fails, linked}
use Rattle.program_load.specs.declared.fault.LoadFault.{LoadFault}
use Rattle.stack_machine.specs.Loading.{frames_of}
use Rattle.stack_machine.specs.declared.machine.StartFault.{StartFault}
use Rattle.stack_machine.specs.declared.machine.StartFault.TheVariants as start_faults
use Rattle.object_commands.specs.Dumps.{Dumps, dumped, failed as dump_failed}
use Rattle.object_commands.specs.Failures.{Says, SaysPart, failure_answer, failure_text, line}
use Rattle.object_commands.specs.Outcomes.{Leaves, LeavesPart, Prints, PrintsPart}
use Rattle.object_commands.specs.Runs.{Runs, RunsProgram, failed, loaded, no_room, runs}
use Rattle.object_commands.specs.declared.answer.Answer.{Answer}
use Rattle.object_commands.specs.declared.answer.Answer.TheVariants.{Done, OverLimit}
use Rattle.object_commands.specs.declared.answer.Stop.{Stop}
use Rattle.object_commands.proofs.OneOutcome.{dump_part, not_both, one_linked, run_part}
use Rattle.object_commands.proofs.Saying.{with_nothing}

told_all : {A : Type 0} (o : Option A) {P : A → Type 0} → ((x : A) → o ≡ Some x → P x) → IfSome o P
told_all None h = tt
told_all (Some x) h = h x refl

-- what a fault says is so
said : (P : Failure → Type 0) (fault : LoadFault) (f : Failure) → told fault ≡ Some f → IfSome (told fault) P → P f
said P fault f e h = subst (λ (o : Option Failure). IfSome o P) e h

-- ** Dumping

module _ (holds : Option Files) (name : List ℕ) (old new : Option (List ℕ)) where
  pub dump_done : (o : Contents) → Finds holds name o → text.Prints o old new → Prints (Dumps holds name) Done old new
  dump_done o has p = record { printed = p.text; is_given = dumped o p.text has p.is; printed_is = p.written }

  pub dump_stopped : (o : Contents) → Finds holds name o → text.PrintsPart o old new → IfSome holds (λ files. PrintsPart (Dumps (Some files) name) old new)
  dump_stopped o has p = told_all holds (λ files e. dump_part files name p.text Done old new (dumped o p.text (subst (λ (h : Option Files). Finds h name o) e has) p.is) p.written)

  module _ (fault : LoadFault) (stops : IfSome (told fault) (Stops holds (start name) name)) where
    pub dump_says : (result : Result Answer Stop) → IfOk result (λ answer. Says name fault answer old new) → IfOk result (λ answer. Prints (Dumps holds name) answer old new)
    dump_says (Err e) h = tt
    dump_says (Ok answer) h = record {
      printed = line (failure_text name h.failure);
      is_given = subst (Dumps holds name (line (failure_text name h.failure))) (sym h.answer_is) (dump_failed h.failure (said (Stops holds (start name) name) fault h.failure h.told_is stops));
      printed_is = h.printed_is;
    }

    says_front : SaysPart name fault old new → (files : Files) → holds ≡ Some files → PrintsPart (Dumps (Some files) name) old new
    says_front h files e = on (told fault) refl where
      on : (o : Option Failure) → told fault ≡ o → PrintsPart (Dumps (Some files) name) old new
      on None n = λ printed answer given. (0, h.nothing n ∙ with_nothing old)
      on (Some f) n =
          dump_part files name (line (failure_text name f)) (failure_answer f) old new
          (dump_failed f (subst (λ (x : Option Files). Stops x (start name) name f) e (said (Stops holds (start name) name) fault f n stops))) (h.part f n)

    pub dump_says_part : (result : Result Answer Stop) → OnErr result (SaysPart name fault old new) → OnErr result (IfSome holds (λ files. PrintsPart (Dumps (Some files) name) old new))
    dump_says_part (Ok answer) h = tt
    dump_says_part (Err e) h = told_all holds (says_front h)

-- ** Running

module _ (holds : Option Files) (name : List ℕ) (steps cells : ℕ) (input old new : Option (List ℕ)) (result : Result Answer Stop) where
  module _ (left : Option (List ℕ)) (os : List Contents) (loads : Loads holds name (linked os)) where
    pub run_loaded : IfOk result (λ answer. IfSome input (λ i. Leaves (RunsProgram os steps cells i) answer old new left)) → IfOk result (λ answer. IfSome input (λ i. Leaves (Runs holds name steps cells i) answer old new left))
    run_loaded h = on result input h where
      on : (r : Result Answer Stop) (i : Option (List ℕ)) → IfOk r (λ answer. IfSome i (λ i. Leaves (RunsProgram os steps cells i) answer old new left)) → IfOk r (λ answer. IfSome i (λ i. Leaves (Runs holds name steps cells i) answer old new left))
      on (Err e) i h = tt
      on (Ok answer) None h = tt
      on (Ok answer) (Some i) h = record { outcome = h.outcome; is_given = loaded loads h.is_given; answer_is = h.answer_is; printed_is = h.printed_is; left_is = h.left_is }

    run_front : (i : List ℕ) (files : Files) → holds ≡ Some files → LeavesPart (RunsProgram os steps cells i) old new → LeavesPart (Runs (Some files) name steps cells i) old new
    run_front i files e h outcome (failed f failing) = absurd (not_both files name steps cells i f os failing (subst (λ (x : Option Files). Loads x name (linked os)) e loads))
    run_front i files e h outcome (loaded {os = os'} other r) =
        h outcome (subst (λ (x : List Contents). RunsProgram x steps cells i outcome) (one_linked files name steps cells i os' os other (subst (λ (x : Option Files). Loads x name (linked os)) e loads)) r)

    pub run_loaded_part : OnErr result (IfSome input (λ i. LeavesPart (RunsProgram os steps cells i) old new)) → OnErr result (IfSome holds (λ files. IfSome input (λ i. LeavesPart (Runs (Some files) name steps cells i) old new)))
    run_loaded_part h = on result input h where
      on : (r : Result Answer Stop) (i : Option (List ℕ)) → OnErr r (IfSome i (λ i. LeavesPart (RunsProgram os steps cells i) old new)) → OnErr r (IfSome holds (λ files. IfSome i (λ i. LeavesPart (Runs (Some files) name steps cells i) old new)))
      on (Ok answer) i h = tt
      on (Err e) None h = told_all holds (λ files is. tt)
      on (Err e) (Some i) h = told_all holds (λ files is. run_front i files is h)

  module _ (fault : LoadFault) (failing : IfSome (told fault) (λ f. Loads holds name (fails f))) where
    pub run_says : IfOk result (λ answer. Says name fault answer old new) → IfOk result (λ answer. IfSome input (λ i. Leaves (Runs holds name steps cells i) answer old new input))
    run_says h = on result h where
      on : (r : Result Answer Stop) → IfOk r (λ answer. Says name fault answer old new) → IfOk r (λ answer. IfSome input (λ i. Leaves (Runs holds name steps cells i) answer old new input))
      on (Err e) h = tt
      on (Ok answer) h = told_all input (λ i is. record {
        outcome = record { answer = failure_answer h.failure; printed = line (failure_text name h.failure); left = i };
        is_given = failed h.failure (said (λ f. Loads holds name (fails f)) fault h.failure h.told_is failing);
        answer_is = h.answer_is;
        printed_is = h.printed_is;
        left_is = is;
      })

    front_said : SaysPart name fault old new → (files : Files) → holds ≡ Some files → (i : List ℕ) → LeavesPart (Runs (Some files) name steps cells i) old new
    front_said h files e i = on (told fault) refl where
      on : (o : Option Failure) → told fault ≡ o → LeavesPart (Runs (Some files) name steps cells i) old new
      on None n = λ outcome given. (0, h.nothing n ∙ with_nothing old)
      on (Some f) n =
          run_part files name steps cells i (record { answer = failure_answer f; printed = line (failure_text name f); left = i }) old new
          (failed f (subst (λ (x : Option Files). Loads x name (fails f)) e (said (λ g. Loads holds name (fails g)) fault f n failing))) (h.part f n)

    pub run_says_part : OnErr result (SaysPart name fault old new) → OnErr result (IfSome holds (λ files. IfSome input (λ i. LeavesPart (Runs (Some files) name steps cells i) old new)))
    run_says_part h = on result h where
      on : (r : Result Answer Stop) → OnErr r (SaysPart name fault old new) → OnErr r (IfSome holds (λ files. IfSome input (λ i. LeavesPart (Runs (Some files) name steps cells i) old new)))
      on (Ok answer) h = tt
      on (Err e) h = told_all holds (λ files is. told_all input (λ i given. front_said h files is i))

-- ** Too few cells

-- a machine was made only where there is room
pub enough_cells : {T E : Type 0} (cells frames : ℕ) (result : Result T E) (x : T) (e : E) → result ≡ Ok x → (cells < frames → IsErrOf result e) → frames ≤ cells
enough_cells cells frames result x e is lacks = on (cases_lt cells frames) where
  on : (cells < frames) ⊎ (frames ≤ cells) → frames ≤ cells
  on (inl lt) = absurd (let h : Ok x ≡ Err e = sym is ∙ lacks lt in cc)
  on (inr le) = le

pub too_few_cells : {T : Type 0} (cells frames : ℕ) (result : Result T StartFault) → result ≡ Err start_faults.NoRoom → (frames ≤ cells → IfErr result (λ e. e ≡ start_faults.Memory)) → cells < frames
too_few_cells {T} cells frames result is memory = on (cases_lt cells frames) where
  on : (cells < frames) ⊎ (frames ≤ cells) → cells < frames
  on (inl lt) = lt
  on (inr le) = absurd (let h : start_faults.NoRoom ≡ start_faults.Memory = subst (λ (r : Result T StartFault). IfErr r (λ e. e ≡ start_faults.Memory)) is (memory le) in cc)

module _ (os : List Contents) (steps cells : ℕ) (input old new : Option (List ℕ)) where
  abbrev cells_text : List ℕ
  cells_text = line (codes "limit cells " ++ decimal cells)

  pub room_leaves : cells < frames_of os → new ≡ with_bytes old cells_text → IfSome input (λ i. Leaves (RunsProgram os steps cells i) OverLimit old new input)
  room_leaves less printed = told_all input (λ i is. record {
    outcome = record { answer = OverLimit; printed = cells_text; left = i };
    is_given = no_room less;
    answer_is = refl;
    printed_is = printed;
    left_is = is;
  })

  room_front : cells < frames_of os → WritesPart old cells_text new → (i : List ℕ) → LeavesPart (RunsProgram os steps cells i) old new
  room_front less part i outcome (no_room less') = part
  room_front less part i outcome (runs enough is f) = absurd (omega (arith, less, enough))

  pub room_part : cells < frames_of os → WritesPart old cells_text new → IfSome input (λ i. LeavesPart (RunsProgram os steps cells i) old new)
  room_part less part = told_all input (λ i is. room_front less part i)

  pub nothing_part : new ≡ old → IfSome input (λ i. LeavesPart (RunsProgram os steps cells i) old new)
  nothing_part same = told_all input (λ i is outcome given. (0, same ∙ with_nothing old))
