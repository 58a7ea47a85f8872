-- What carrying out a command leaves.
use Rattle.std.proofs.Common.{◌≡◌, ◌↔◌, ℕ, List, Option, Result, Ok, Err, Some, refl, sym, ◌∙◌, ap, subst, IfSome, IfOk, OnErr}
use Rattle.m2_io.specs.Files.{Files}
use Rattle.m2_io.specs.Written.{WritesPart}
use Rattle.command_words.specs.Command.{Command, big, compile, dump, run}
use Rattle.module_outcome.specs.Answers.{Comes}
use Rattle.module_outcome.specs.Big.{LeavesSummary, PrintsSummaryPart, Summarizes}
use Rattle.module_outcome.specs.Outcome.{Compiles, Leaves as CompileLeaves, PrintsPart as CompilePart}
use Rattle.module_outcome.specs.declared.answer.Answer.{Answer as CompileAnswer}
use Rattle.module_outcome.specs.declared.answer.Stop.TheVariants as compile_stop
use Rattle.module_outcome.specs.declared.answer.Stop.{Stop as CompileStop}
use Rattle.object_commands.specs.Dumps.{Dumps}
use Rattle.object_commands.specs.Outcomes.{Leaves as RunLeaves, LeavesPart, Prints, PrintsPart as DumpPart}
use Rattle.object_commands.specs.Runs.{Runs}
use Rattle.object_commands.specs.declared.answer.Answer.{Answer}
use Rattle.object_commands.specs.declared.answer.Stop.TheVariants as object_stop
use Rattle.object_commands.specs.declared.answer.Stop.{Stop as ObjectStop}
use Rattle.m2c_top.specs.Effects.{Does, Effect, IsTold, Leaves, OfCompiled, PrintsPart, compiles, counts_big, dumps, runs}
use Rattle.m2c_top.specs.Ending.{ended_compiling, ended_over}
use Rattle.m2c_top.specs.Statuses.{IsCompiledAs, status_after, status_compiled, status_number}
use Rattle.m2c_top.specs.declared.ending.Stop.{Stop}
use Rattle.m2c_top.specs.declared.status.Status.{Status}
use Rattle.m2c_top.proofs.Compiled.{files_told}
use Rattle.m2c_top.proofs.OtherCommands.{compile_big, compile_dump, compile_run, dump_big, run_big, run_dump}
use Rattle.m2c_top.proofs.Told.{map_told, some_same, tells, told, told_all}

-- what the work for a command leaves, and what it prints where it is given up
module _ (holds after : Option Files) (old new before left : Option (List ℕ)) (r : Result Status Stop) where
  abbrev pub LeavesDone : Command → Type 0
  LeavesDone command = IfOk r (λ status. IfSome holds (λ files. IsTold before command → Leaves (Does files before command) (status_number status) after old new left))

  abbrev pub PrintsDone : Command → Type 0
  PrintsDone command = OnErr r (IfSome holds (λ files. IsTold before command → PrintsPart (Does files before command) old new))

err_ended : (s : ObjectStop) (P : Type 0) → P → OnErr (ended_over (Err s)) P
err_ended object_stop.Read P p = p
err_ended object_stop.Write P p = p
err_ended object_stop.Memory P p = p

compiling_ended : (s : CompileStop) (P : Type 0) → P → OnErr (ended_compiling (Err s)) P
compiling_ended compile_stop.Read P p = p
compiling_ended compile_stop.Write P p = p
compiling_ended compile_stop.Memory P p = p

-- the status of what is compiled, where it is
module _ (holds : Option Files) where
  abbrev pub ComesDone : Result Status Stop → Command → Type 0
  ComesDone r command = IfOk r (λ status. IfSome holds (λ files. OfCompiled command (λ name. IsCompiledAs files name status)))

  compiled_comes_so : (name : List ℕ) (r : Result CompileAnswer CompileStop) → IfOk r (λ answer. IfSome holds (λ files. (a : CompileAnswer) → (answer ≡ a) ↔ Comes files name a))
      → IfOk (ended_compiling r) (λ status. IfSome holds (λ files. IsCompiledAs files name status))
  compiled_comes_so name (Ok answer) comes =
      map_told holds (λ files. (a : CompileAnswer) → (answer ≡ a) ↔ Comes files name a) (λ files. IsCompiledAs files name (status_compiled answer))
      (λ files h. record { answer = answer; status_is = refl; comes = h }) comes
  compiled_comes_so name (Err compile_stop.Read) comes = tt
  compiled_comes_so name (Err compile_stop.Write) comes = tt
  compiled_comes_so name (Err compile_stop.Memory) comes = tt

  pub compiled_comes : (name : List ℕ) (workers : ℕ) (r : Result CompileAnswer CompileStop) (ended : Result Status Stop) → ended ≡ ended_compiling r
      → IfOk r (λ answer. IfSome holds (λ files. (a : CompileAnswer) → (answer ≡ a) ↔ Comes files name a)) → ComesDone ended (compile name workers)
  compiled_comes name workers r ended e comes = subst (λ x. ComesDone x (compile name workers)) (sym e) (compiled_comes_so name r comes)

  pub ran_comes : (ended : Result Status Stop) (name : List ℕ) (steps cells : ℕ) → ComesDone ended (run name steps cells)
  ran_comes (Ok status) name steps cells = told_all holds (λ files. Unit {0}) (λ files. tt)
  ran_comes (Err s) name steps cells = tt

  pub dumped_comes : (ended : Result Status Stop) (name : List ℕ) → ComesDone ended (dump name)
  dumped_comes (Ok status) name = told_all holds (λ files. Unit {0}) (λ files. tt)
  dumped_comes (Err s) name = tt

  pub counted_comes : (ended : Result Status Stop) (procedures workers : ℕ) → ComesDone ended (big procedures workers)
  counted_comes (Ok status) procedures workers = told_all holds (λ files. Unit {0}) (λ files. tt)
  counted_comes (Err s) procedures workers = tt

module _ (holds : Option Files) (old new left : Option (List ℕ)) where
  -- ** Compiling

  module _ (name : List ℕ) (workers : ℕ) where
    compiled_so : (after : Option Files) (r : Result CompileAnswer CompileStop) → IfOk r (λ answer. CompileLeaves (Compiles holds name) answer after old new)
        → IfOk (ended_compiling r) (λ status. IfSome holds (λ files. IsTold left (compile name workers) → Leaves (Does files left (compile name workers)) (status_number status) after old new left))
    compiled_so after (Ok answer) l = told holds (λ files has t.
        let given : Compiles (Some files) name l.outcome = subst (λ h. Compiles h name l.outcome) has l.is_given in
        let there = files_told files name l.outcome given in
        record {
          effect = record { status = status_compiled l.outcome.answer; printed = l.outcome.printed; files = there.0; left = left };
          is_given = compiles name workers l.outcome there.0 given there.1;
          status_is = ap (λ a. status_number (status_compiled a)) l.answer_is;
          files_are = l.files_are ∙ there.1;
          printed_is = l.printed_is;
          left_is = refl;
        })
    compiled_so after (Err compile_stop.Read) leaves = tt
    compiled_so after (Err compile_stop.Write) leaves = tt
    compiled_so after (Err compile_stop.Memory) leaves = tt

    pub compiled_leaves : (after : Option Files) (r : Result CompileAnswer CompileStop) (ended : Result Status Stop) → ended ≡ ended_compiling r → IfOk r (λ answer. CompileLeaves (Compiles holds name) answer after old new)
        → IfOk ended (λ status. IfSome holds (λ files. IsTold left (compile name workers) → Leaves (Does files left (compile name workers)) (status_number status) after old new left))
    compiled_leaves after r ended e leaves =
        subst (λ x. IfOk x (λ status. IfSome holds (λ files. IsTold left (compile name workers) → Leaves (Does files left (compile name workers)) (status_number status) after old new left))) (sym e)
        (compiled_so after r leaves)

    compiled_part : (files : Files) (command : Command) (effect : Effect) → compile name workers ≡ command → CompilePart (Compiles (Some files) name) old new → Does files left command effect → WritesPart old effect.printed new
    compiled_part files command effect e part (compiles n w o after h there) =
        let same : n ≡ name = cc in
        part o (subst (λ x. Compiles (Some files) x o) same h)
    compiled_part files command effect e part (runs n steps cells input o t h) = absurd (compile_run name workers n steps cells e)
    compiled_part files command effect e part (dumps n printed answer h) = absurd (compile_dump name workers n e)
    compiled_part files command effect e part (counts_big n w answer printed h) = absurd (compile_big name workers n w e)

    pub compiled_prints : (r : Result CompileAnswer CompileStop) (ended : Result Status Stop) → ended ≡ ended_compiling r → OnErr r (IfSome holds (λ files. CompilePart (Compiles (Some files) name) old new))
        → OnErr ended (IfSome holds (λ files. IsTold left (compile name workers) → PrintsPart (Does files left (compile name workers)) old new))
    compiled_prints r ended e part = subst (λ x. OnErr x (IfSome holds (λ files. IsTold left (compile name workers) → PrintsPart (Does files left (compile name workers)) old new))) (sym e) (go r part)
      where
        go : (r : Result CompileAnswer CompileStop) → OnErr r (IfSome holds (λ files. CompilePart (Compiles (Some files) name) old new))
            → OnErr (ended_compiling r) (IfSome holds (λ files. IsTold left (compile name workers) → PrintsPart (Does files left (compile name workers)) old new))
        go (Ok answer) part = tt
        go (Err s) part = compiling_ended s _ (map_told holds _ (λ files. IsTold left (compile name workers) → PrintsPart (Does files left (compile name workers)) old new)
            (λ files p t effect does. compiled_part files (compile name workers) effect refl p does) part)

  -- ** Running

  module _ (name : List ℕ) (steps cells : ℕ) where
    ran_so : (after : Option Files) (behind : Option (List ℕ)) (r : Result Answer ObjectStop) → after ≡ holds
        → IfOk r (λ answer. IfSome left (λ input. RunLeaves (Runs holds name steps cells input) answer old new behind))
        → IfOk (ended_over r) (λ status. IfSome holds (λ files. IsTold left (run name steps cells) → Leaves (Does files left (run name steps cells)) (status_number status) after old new behind))
    ran_so after behind (Ok answer) same leaves = told holds (λ files has t.
        let l = tells left t.0 (λ input. RunLeaves (Runs holds name steps cells input) answer old new behind) leaves t.1 in
        record {
          effect = record { status = status_after l.outcome.answer; printed = l.outcome.printed; files = files; left = Some l.outcome.left };
          is_given = runs name steps cells t.0 l.outcome t.1 (subst (λ h. Runs h name steps cells t.0 l.outcome) has l.is_given);
          status_is = ap (λ a. status_number (status_after a)) l.answer_is;
          files_are = same ∙ has;
          printed_is = l.printed_is;
          left_is = l.left_is;
        })
    ran_so after behind (Err object_stop.Read) same leaves = tt
    ran_so after behind (Err object_stop.Write) same leaves = tt
    ran_so after behind (Err object_stop.Memory) same leaves = tt

    pub ran_leaves : (after : Option Files) (behind : Option (List ℕ)) (r : Result Answer ObjectStop) (ended : Result Status Stop) → after ≡ holds → ended ≡ ended_over r
        → IfOk r (λ answer. IfSome left (λ input. RunLeaves (Runs holds name steps cells input) answer old new behind))
        → IfOk ended (λ status. IfSome holds (λ files. IsTold left (run name steps cells) → Leaves (Does files left (run name steps cells)) (status_number status) after old new behind))
    ran_leaves after behind r ended same e leaves =
        subst (λ x. IfOk x (λ status. IfSome holds (λ files. IsTold left (run name steps cells) → Leaves (Does files left (run name steps cells)) (status_number status) after old new behind))) (sym e)
        (ran_so after behind r same leaves)

    ran_part : (files : Files) (command : Command) (effect : Effect) (input : List ℕ) → run name steps cells ≡ command → left ≡ Some input → LeavesPart (Runs (Some files) name steps cells input) old new
        → Does files left command effect → WritesPart old effect.printed new
    ran_part files command effect input e t part (compiles n w o after h there) = absurd (compile_run n w name steps cells (sym e))
    ran_part files command effect input e t part (runs n s c i o u h) =
        let is : n ≡ name = cc in
        let most : s ≡ steps = cc in
        let room : c ≡ cells = cc in
        let read : i ≡ input = some_same i input (sym u ∙ t) in
        part o (subst (λ x. Runs (Some files) name steps cells x o) read (subst (λ x. Runs (Some files) name steps x i o) room (subst (λ x. Runs (Some files) name x c i o) most (subst (λ x. Runs (Some files) x s c i o) is h))))
    ran_part files command effect input e t part (dumps n printed answer h) = absurd (run_dump name steps cells n e)
    ran_part files command effect input e t part (counts_big n w answer printed h) = absurd (run_big name steps cells n w e)

    pub ran_prints : (r : Result Answer ObjectStop) (ended : Result Status Stop) → ended ≡ ended_over r → OnErr r (IfSome holds (λ files. IfSome left (λ input. LeavesPart (Runs (Some files) name steps cells input) old new)))
        → OnErr ended (IfSome holds (λ files. IsTold left (run name steps cells) → PrintsPart (Does files left (run name steps cells)) old new))
    ran_prints r ended e part = subst (λ x. OnErr x (IfSome holds (λ files. IsTold left (run name steps cells) → PrintsPart (Does files left (run name steps cells)) old new))) (sym e) (go r part)
      where
        go : (r : Result Answer ObjectStop) → OnErr r (IfSome holds (λ files. IfSome left (λ input. LeavesPart (Runs (Some files) name steps cells input) old new)))
            → OnErr (ended_over r) (IfSome holds (λ files. IsTold left (run name steps cells) → PrintsPart (Does files left (run name steps cells)) old new))
        go (Ok answer) part = tt
        go (Err s) part = err_ended s _ (map_told holds _ (λ files. IsTold left (run name steps cells) → PrintsPart (Does files left (run name steps cells)) old new)
            (λ files p t effect does. ran_part files (run name steps cells) effect t.0 refl t.1 (tells left t.0 (λ input. LeavesPart (Runs (Some files) name steps cells input) old new) p t.1) does) part)

  -- ** Dumping

  module _ (name : List ℕ) where
    dumped_so : (after : Option Files) (r : Result Answer ObjectStop) → after ≡ holds → IfOk r (λ answer. Prints (Dumps holds name) answer old new)
        → IfOk (ended_over r) (λ status. IfSome holds (λ files. IsTold left (dump name) → Leaves (Does files left (dump name)) (status_number status) after old new left))
    dumped_so after (Ok answer) same l = told holds (λ files has t. record {
      effect = record { status = status_after answer; printed = l.printed; files = files; left = left };
      is_given = dumps name l.printed answer (subst (λ h. Dumps h name l.printed answer) has l.is_given);
      status_is = refl;
      files_are = same ∙ has;
      printed_is = l.printed_is;
      left_is = refl;
    })
    dumped_so after (Err object_stop.Read) same leaves = tt
    dumped_so after (Err object_stop.Write) same leaves = tt
    dumped_so after (Err object_stop.Memory) same leaves = tt

    pub dumped_leaves : (after : Option Files) (r : Result Answer ObjectStop) (ended : Result Status Stop) → after ≡ holds → ended ≡ ended_over r → IfOk r (λ answer. Prints (Dumps holds name) answer old new)
        → IfOk ended (λ status. IfSome holds (λ files. IsTold left (dump name) → Leaves (Does files left (dump name)) (status_number status) after old new left))
    dumped_leaves after r ended same e leaves =
        subst (λ x. IfOk x (λ status. IfSome holds (λ files. IsTold left (dump name) → Leaves (Does files left (dump name)) (status_number status) after old new left))) (sym e) (dumped_so after r same leaves)

    dumped_part : (files : Files) (command : Command) (effect : Effect) → dump name ≡ command → DumpPart (Dumps (Some files) name) old new → Does files left command effect → WritesPart old effect.printed new
    dumped_part files command effect e part (compiles n w o after h there) = absurd (compile_dump n w name (sym e))
    dumped_part files command effect e part (runs n s c i o u h) = absurd (run_dump n s c name (sym e))
    dumped_part files command effect e part (dumps n printed answer h) =
        let same : n ≡ name = cc in
        part printed answer (subst (λ x. Dumps (Some files) x printed answer) same h)
    dumped_part files command effect e part (counts_big n w answer printed h) = absurd (dump_big name n w e)

    pub dumped_prints : (r : Result Answer ObjectStop) (ended : Result Status Stop) → ended ≡ ended_over r → OnErr r (IfSome holds (λ files. DumpPart (Dumps (Some files) name) old new))
        → OnErr ended (IfSome holds (λ files. IsTold left (dump name) → PrintsPart (Does files left (dump name)) old new))
    dumped_prints r ended e part = subst (λ x. OnErr x (IfSome holds (λ files. IsTold left (dump name) → PrintsPart (Does files left (dump name)) old new))) (sym e) (go r part)
      where
        go : (r : Result Answer ObjectStop) → OnErr r (IfSome holds (λ files. DumpPart (Dumps (Some files) name) old new))
            → OnErr (ended_over r) (IfSome holds (λ files. IsTold left (dump name) → PrintsPart (Does files left (dump name)) old new))
        go (Ok answer) part = tt
        go (Err s) part = err_ended s _ (map_told holds _ (λ files. IsTold left (dump name) → PrintsPart (Does files left (dump name)) old new)
            (λ files p t effect does. dumped_part files (dump name) effect refl p does) part)

  -- ** Counting

  module _ (procedures workers : ℕ) where
    counted_so : (after : Option Files) (r : Result CompileAnswer CompileStop) → after ≡ holds → IfOk r (λ answer. LeavesSummary holds procedures answer old new)
        → IfOk (ended_compiling r) (λ status. IfSome holds (λ files. IsTold left (big procedures workers) → Leaves (Does files left (big procedures workers)) (status_number status) after old new left))
    counted_so after (Ok answer) same l = told holds (λ files has t. record {
      effect = record { status = status_compiled answer; printed = l.printed; files = files; left = left };
      is_given = counts_big procedures workers answer l.printed (subst (λ h. Summarizes h procedures answer l.printed) has l.is);
      status_is = refl;
      files_are = same ∙ has;
      printed_is = l.printed_is;
      left_is = refl;
    })
    counted_so after (Err compile_stop.Read) same leaves = tt
    counted_so after (Err compile_stop.Write) same leaves = tt
    counted_so after (Err compile_stop.Memory) same leaves = tt

    pub counted_leaves : (after : Option Files) (r : Result CompileAnswer CompileStop) (ended : Result Status Stop) → after ≡ holds → ended ≡ ended_compiling r → IfOk r (λ answer. LeavesSummary holds procedures answer old new)
        → IfOk ended (λ status. IfSome holds (λ files. IsTold left (big procedures workers) → Leaves (Does files left (big procedures workers)) (status_number status) after old new left))
    counted_leaves after r ended same e leaves =
        subst (λ x. IfOk x (λ status. IfSome holds (λ files. IsTold left (big procedures workers) → Leaves (Does files left (big procedures workers)) (status_number status) after old new left))) (sym e)
        (counted_so after r same leaves)

    counted_part : (files : Files) (command : Command) (effect : Effect) → big procedures workers ≡ command → PrintsSummaryPart (Some files) procedures old new → Does files left command effect → WritesPart old effect.printed new
    counted_part files command effect e part (compiles n w o after h there) = absurd (compile_big n w procedures workers (sym e))
    counted_part files command effect e part (runs n s c i o u h) = absurd (run_big n s c procedures workers (sym e))
    counted_part files command effect e part (dumps n printed answer h) = absurd (dump_big n procedures workers (sym e))
    counted_part files command effect e part (counts_big n w answer printed h) =
        let same : n ≡ procedures = cc in
        part answer printed (subst (λ x. Summarizes (Some files) x answer printed) same h)

    pub counted_prints : (r : Result CompileAnswer CompileStop) (ended : Result Status Stop) → ended ≡ ended_compiling r → OnErr r (IfSome holds (λ files. PrintsSummaryPart (Some files) procedures old new))
        → OnErr ended (IfSome holds (λ files. IsTold left (big procedures workers) → PrintsPart (Does files left (big procedures workers)) old new))
    counted_prints r ended e part = subst (λ x. OnErr x (IfSome holds (λ files. IsTold left (big procedures workers) → PrintsPart (Does files left (big procedures workers)) old new))) (sym e) (go r part)
      where
        go : (r : Result CompileAnswer CompileStop) → OnErr r (IfSome holds (λ files. PrintsSummaryPart (Some files) procedures old new))
            → OnErr (ended_compiling r) (IfSome holds (λ files. IsTold left (big procedures workers) → PrintsPart (Does files left (big procedures workers)) old new))
        go (Ok answer) part = tt
        go (Err s) part = compiling_ended s _ (map_told holds _ (λ files. IsTold left (big procedures workers) → PrintsPart (Does files left (big procedures workers)) old new)
            (λ files p t effect does. counted_part files (big procedures workers) effect refl p does) part)
