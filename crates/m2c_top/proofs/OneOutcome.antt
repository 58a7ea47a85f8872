-- The words have one outcome.
use Rattle.std.proofs.Common.{◌≡◌, ℕ, List, Option, Some, refl, sym, ◌∙◌, ap, subst}
use Rattle.m2_io.specs.Files.{Files}
use Rattle.command_words.specs.Command.{Command, big, compile, dump, run}
use Rattle.command_words.proofs.OneCommand.{one_command_lem}
use Rattle.module_outcome.specs.Big.{Summarizes}
use Rattle.module_outcome.specs.Outcome.{Compiles, Outcome as CompileOutcome}
use Rattle.module_outcome.specs.declared.answer.Answer.{Answer as CompileAnswer}
use Rattle.object_commands.specs.Dumps.{Dumps}
use Rattle.object_commands.specs.Outcomes.{Outcome as ObjectOutcome}
use Rattle.object_commands.specs.Runs.{Runs}
use Rattle.object_commands.proofs.OneOutcome.{one_dump, one_dump_answer, one_run}
use Rattle.m2c_top.specs.Effects.{Does, Effect, Gives, commanded, compiles, counts_big, dumps, no_command, runs, usage}
use Rattle.m2c_top.specs.Statuses.{status_after, status_compiled}
use Rattle.m2c_top.specs.declared.status.Status.TheVariants.{NoCommand}
use Rattle.m2c_top.proofs.OtherCommands.{compile_big, compile_dump, compile_run, dump_big, run_big, run_dump}
use Rattle.m2c_top.proofs.Told.{some_same}

-- what is left of an outcome of compiling
abbrev compiled_effect : CompileOutcome → Files → Option (List ℕ) → Effect
compiled_effect o after left = record { status = status_compiled o.answer; printed = o.printed; files = after; left = left }

same_effect : (left : Option (List ℕ)) (o p : CompileOutcome) (these those : Files) → o ≡ p → o.files ≡ Some these → p.files ≡ Some those
    → compiled_effect o these left ≡ compiled_effect p those left
same_effect left o p these those e a b =
    ap (λ (x : CompileOutcome). compiled_effect x these left) e
    ∙ ap (λ (x : Files). compiled_effect p x left) (some_same these those (sym a ∙ ap (λ (x : CompileOutcome). x.files) e ∙ b))

module _
    (one_compiled : (files : Files) (name : List ℕ) (these those : CompileOutcome) → Compiles (Some files) name these → Compiles (Some files) name those → these ≡ those)
    (one_summary : (files : Files) (n : ℕ) (this other : CompileAnswer) (these those : List ℕ) → Summarizes (Some files) n this these → Summarizes (Some files) n other those → (this ≡ other) × (these ≡ those)) where
  -- a command leaves one thing
  one_doing : (files : Files) (left : Option (List ℕ)) (command same : Command) (these those : Effect) → command ≡ same → Does files left command these → Does files left same those → these ≡ those
  one_doing files left command same these those e (compiles name workers o after h there) d = go same those e d
    where
      go : (same : Command) (those : Effect) → compile name workers ≡ same → Does files left same those → compiled_effect o after left ≡ those
      go same those e (compiles n w p before k also) =
          let is : n ≡ name = cc in
          same_effect left o p after before (one_compiled files name o p h (subst (λ x. Compiles (Some files) x p) is k)) there also
      go same those e (runs n steps cells input p t k) = absurd (compile_run name workers n steps cells e)
      go same those e (dumps n printed answer k) = absurd (compile_dump name workers n e)
      go same those e (counts_big n w answer printed k) = absurd (compile_big name workers n w e)
  one_doing files left command same these those e (runs name steps cells input o t h) d = go same those e d
    where
      go : (same : Command) (those : Effect) → run name steps cells ≡ same → Does files left same those → record { status = status_after o.answer; printed = o.printed; files = files; left = Some o.left } ≡ those
      go same those e (compiles n w p before k also) = absurd (compile_run n w name steps cells (sym e))
      go same those e (runs n s c i p u k) =
          let is : n ≡ name = cc in
          let most : s ≡ steps = cc in
          let room : c ≡ cells = cc in
          let read : i ≡ input = some_same i input (sym u ∙ t) in
          let other : Runs (Some files) name steps cells input p =
          subst (λ x. Runs (Some files) name steps cells x p) read (subst (λ x. Runs (Some files) name steps x i p) room (subst (λ x. Runs (Some files) name x c i p) most (subst (λ x. Runs (Some files) x s c i p) is k))) in
          ap (λ (x : ObjectOutcome). record { status = status_after x.answer; printed = x.printed; files = files; left = Some x.left }) (one_run files name steps cells input o p h other)
      go same those e (dumps n printed answer k) = absurd (run_dump name steps cells n e)
      go same those e (counts_big n w answer printed k) = absurd (run_big name steps cells n w e)
  one_doing files left command same these those e (dumps name printed answer h) d = go same those e d
    where
      go : (same : Command) (those : Effect) → dump name ≡ same → Does files left same those → record { status = status_after answer; printed = printed; files = files; left = left } ≡ those
      go same those e (compiles n w p before k also) = absurd (compile_dump n w name (sym e))
      go same those e (runs n s c i p u k) = absurd (run_dump n s c name (sym e))
      go same those e (dumps n text other k) =
          let is : n ≡ name = cc in
          let this : Dumps (Some files) name text other = subst (λ x. Dumps (Some files) x text other) is k in
          ap (λ x. record { status = status_after answer; printed = x; files = files; left = left }) (one_dump files name printed text answer other h this)
          ∙ ap (λ x. record { status = status_after x; printed = text; files = files; left = left }) (one_dump_answer files name printed text answer other h this)
      go same those e (counts_big n w other text k) = absurd (dump_big name n w e)
  one_doing files left command same these those e (counts_big procedures workers answer printed h) d = go same those e d
    where
      go : (same : Command) (those : Effect) → big procedures workers ≡ same → Does files left same those → record { status = status_compiled answer; printed = printed; files = files; left = left } ≡ those
      go same those e (compiles n w p before k also) = absurd (compile_big n w procedures workers (sym e))
      go same those e (runs n s c i p u k) = absurd (run_big n s c procedures workers (sym e))
      go same those e (dumps n text other k) = absurd (dump_big n procedures workers (sym e))
      go same those e (counts_big n w other text k) =
          let is : n ≡ procedures = cc in
          let both = one_summary files procedures answer other printed text h (subst (λ x. Summarizes (Some files) x other text) is k) in
          ap (λ x. record { status = status_compiled x; printed = printed; files = files; left = left }) both.0
          ∙ ap (λ x. record { status = status_compiled other; printed = x; files = files; left = left }) both.1

  pub one_outcome_lem : (words : List (List ℕ)) (files : Files) (left : Option (List ℕ)) (these those : Effect) → Gives words files left these → Gives words files left those → these ≡ those
  one_outcome_lem words files left these those (no_command none) g = go those g
    where
      go : (those : Effect) → Gives words files left those → record { status = NoCommand; printed = usage; files = files; left = left } ≡ those
      go those (no_command other) = refl
      go those (commanded c e asks d) = absurd (none c asks)
  one_outcome_lem words files left these those (commanded command effect asks does) g = go those g
    where
      go : (those : Effect) → Gives words files left those → effect ≡ those
      go those (no_command none) = absurd (none command asks)
      go those (commanded c e other d) = one_doing files left command c effect e (one_command_lem words command c asks other) does d
