-- What the end of the work says of the status.
use Rattle.std.proofs.Common.{◌≡◌, ◌⊎◌, ◌∙◌, ◌==◌, inl, inr, ℕ, List, Option, Result, Ok, Err, if◌then◌else◌, refl, sym, ap, subst, arith, IfSome, IfOk, OnErr}
use Rattle.std.specs.Prelude.{IsErrOf}
use Rattle.m2_io.specs.Files.{Files}
use Rattle.command_words.specs.Command.{Command, IsNoCommand, big, compile, dump, run}
use Rattle.module_outcome.specs.Answers.{Comes}
use Rattle.module_outcome.specs.declared.answer.Answer.{Answer as CompileAnswer}
use Rattle.module_outcome.specs.declared.answer.Answer.TheVariants as compiling
use Rattle.object_commands.specs.declared.answer.Answer.{Answer as ObjectAnswer}
use Rattle.object_commands.specs.declared.answer.Answer.TheVariants as objects
use Rattle.m2c_top.specs.Ending.{IsWellEnded, ended_as}
use Rattle.m2c_top.specs.Effects.{Gives, HasInput, Leaves, ToCompile}
use Rattle.m2c_top.specs.Statuses.{Answers, Exactly, IsCompiledAs, IsFault, IsStatus, status_after, status_compiled, status_number}
use Rattle.m2c_top.specs.declared.status.Status.{Status}
use Rattle.m2c_top.specs.declared.status.Status.TheVariants.{Done, Diagnosed, NoCommand, NoText, NoObject, ReadFault, WriteFault, NoMemory, OverLimit, BadObjects, Trapped, StepsSpent}
use Rattle.m2c_top.specs.declared.ending.Stop.{Stop}
use Rattle.m2c_top.specs.declared.ending.Stop.TheVariants as stop
use Rattle.m2c_top.proofs.Asking.{asks_none}
use Rattle.m2c_top.proofs.Told.{map_told, told_all}

-- the number that the work ends with
abbrev pub number_of : Result Status Stop → ℕ
number_of ended = status_number (ended_as ended)

stop_fault : (s : Stop) → IsFault (number_of (Err s))
stop_fault stop.Read = inl refl
stop_fault stop.Write = inr (inl refl)
stop_fault stop.Memory = inr (inr refl)

-- a fault is none of the wanted statuses
faulty : (status wanted : ℕ) (P : Type 0) → IsFault status → (IsFault wanted → ⊥) → Exactly status wanted P
faulty status wanted P fault other = record {
  only = λ e. absurd (other (subst IsFault e fault));
  always = λ p. inr fault;
}

module _ (words : List (List ℕ)) (holds after : Option Files) (old new before left : Option (List ℕ)) where
  pub ends_leaving : (r : Result Status Stop) → IfOk r (λ status. IfSome holds (λ files. HasInput words before → Leaves (Gives words files before) (status_number status) after old new left))
      → IsFault (number_of r) ⊎ IfSome holds (λ files. HasInput words before → Leaves (Gives words files before) (number_of r) after old new left)
  ends_leaving (Ok status) leaves = inr leaves
  ends_leaving (Err s) leaves = inl (stop_fault s)

-- the statuses without a fault, but for that of no command
abbrev pub IsAnswered : ℕ → Type 0
IsAnswered n = (n ≡ 0) ⊎ (n ≡ 1) ⊎ (n ≡ 3) ⊎ (n ≡ 7) ⊎ (n ≡ 8) ⊎ (n ≡ 9) ⊎ (n ≡ 10)

compiled_number : (a : CompileAnswer) → IsAnswered (status_number (status_compiled a))
compiled_number compiling.Done = inl refl
compiled_number compiling.Diagnosed = inr (inl refl)
compiled_number compiling.NoText = inr (inr (inl refl))
compiled_number compiling.OverLimit = inr (inr (inr (inl refl)))

object_number : (a : ObjectAnswer) → IsAnswered (status_number (status_after a))
object_number objects.Done = inl refl
object_number objects.NoObject = inr (inr (inl refl))
object_number objects.OverLimit = inr (inr (inr (inl refl)))
object_number objects.BadObjects = inr (inr (inr (inr (inl refl))))
object_number objects.Trapped = inr (inr (inr (inr (inr (inl refl)))))
object_number objects.StepsSpent = inr (inr (inr (inr (inr (inr refl)))))

-- the number of what a command answers
answers_number : (command : Command) (status : Status) → Answers command status → IsAnswered (status_number status)
answers_number (compile name workers) status a = subst (λ s. IsAnswered (status_number s)) (sym a.1) (compiled_number a.0)
answers_number (run name steps cells) status a = subst (λ s. IsAnswered (status_number s)) (sym a.1) (object_number a.0)
answers_number (dump name) status a = subst (λ s. IsAnswered (status_number s)) (sym a.1) (object_number a.0)
answers_number (big procedures workers) status a = subst (λ s. IsAnswered (status_number s)) (sym a.1) (compiled_number a.0)

well_number : (words : List (List ℕ)) (status : Status) → IsWellEnded words status → IsAnswered (status_number status) ⊎ (status_number status ≡ 2)
well_number words status (inl p) = inl (answers_number p.0 status p.2)
well_number words status (inr p) = inr (ap status_number p.0)

no_fault : (n : ℕ) → IsAnswered n ⊎ (n ≡ 2) → IsFault n → ⊥
no_fault n a f = grind arith

well_is_no_fault : (words : List (List ℕ)) (status : Status) → IsWellEnded words status → IsFault (status_number status) → ⊥
well_is_no_fault words status well fault = no_fault (status_number status) (well_number words status well) fault

-- ** Of compiling

-- the number of an answer tells it
abbrev answer_numbered : ℕ → CompileAnswer
answer_numbered n = if n == 0 then compiling.Done else (if n == 1 then compiling.Diagnosed else (if n == 3 then compiling.NoText else compiling.OverLimit))

told_by_number : (a : CompileAnswer) → answer_numbered (status_number (status_compiled a)) ≡ a
told_by_number compiling.Done = refl
told_by_number compiling.Diagnosed = refl
told_by_number compiling.NoText = refl
told_by_number compiling.OverLimit = refl

same_answer : (a b : CompileAnswer) → status_number (status_compiled a) ≡ status_number (status_compiled b) → a ≡ b
same_answer a b e = sym (told_by_number a) ∙ ap answer_numbered e ∙ told_by_number b

comes_exactly : (files : Files) (name : List ℕ) (status : Status) → IsCompiledAs files name status → (a : CompileAnswer) → Exactly (status_number status) (status_number (status_compiled a)) (Comes files name a)
comes_exactly files name status is a =
    let number = ap status_number is.status_is in
    record {
      only = λ e. (is.comes a).0 (same_answer is.answer a (sym number ∙ e));
      always = λ comes. inl (number ∙ ap (λ x. status_number (status_compiled x)) ((is.comes a).1 comes));
    }

pub ends_exactly : (words : List (List ℕ)) (holds : Option Files) (r : Result Status Stop) → IfOk r (λ status. IfSome holds (λ files. ToCompile words (λ name. IsCompiledAs files name status)))
    → (a : CompileAnswer) → IfSome holds (λ files. ToCompile words (λ name. Exactly (number_of r) (status_number (status_compiled a)) (Comes files name a)))
ends_exactly words holds (Ok status) comes a =
    map_told holds (λ files. ToCompile words (λ name. IsCompiledAs files name status)) (λ files. ToCompile words (λ name. Exactly (status_number status) (status_number (status_compiled a)) (Comes files name a)))
    (λ files h name workers asks. comes_exactly files name status (h name workers asks) a) comes
ends_exactly words holds (Err s) comes a =
    told_all holds (λ files. ToCompile words (λ name. Exactly (number_of (Err s)) (status_number (status_compiled a)) (Comes files name a)))
    (λ files name workers asks. faulty (number_of (Err s)) (status_number (status_compiled a)) (Comes files name a) (stop_fault s) (no_fault (status_number (status_compiled a)) (inl (compiled_number a))))

-- ** Of every command

-- 2 is no fault
two_fault : IsFault 2 → ⊥
two_fault (inl e) = omega (arith, e)
two_fault (inr (inl e)) = omega (arith, e)
two_fault (inr (inr e)) = omega (arith, e)

module _ (words : List (List ℕ)) where
  pub ends_as_no_command : (r : Result Status Stop) → IfOk r (IsWellEnded words) → Exactly (number_of r) 2 (IsNoCommand words)
  ends_as_no_command (Ok status) (inl p) = record {
    only = λ e. absurd (clash (status_number status) (answers_number p.0 status p.2) e);
    always = λ none. absurd (asks_none words p.0 p.1 none);
  }
    where
      clash : (n : ℕ) → IsAnswered n → n ≡ 2 → ⊥
      clash n a e = grind arith
  ends_as_no_command (Ok status) (inr p) = record { only = λ e. p.1; always = λ none. inl (ap status_number p.0) }
  ends_as_no_command (Err s) well = faulty (number_of (Err s)) 2 (IsNoCommand words) (stop_fault s) two_fault

  pub ends_with_status : (r : Result Status Stop) → IfOk r (IsWellEnded words) → IsStatus (number_of r)
  ends_with_status (Ok status) well = listed (status_number status) (well_number words status well)
    where
      listed : (n : ℕ) → IsAnswered n ⊎ (n ≡ 2) → IsStatus n
      listed n (inl (inl a)) = inl a
      listed n (inl (inr (inl b))) = inr (inl b)
      listed n (inl (inr (inr (inl c)))) = inr (inr (inr (inl c)))
      listed n (inl (inr (inr (inr (inl d))))) = inr (inr (inr (inr (inl d))))
      listed n (inl (inr (inr (inr (inr (inl f)))))) = inr (inr (inr (inr (inr (inl f)))))
      listed n (inl (inr (inr (inr (inr (inr (inl g))))))) = inr (inr (inr (inr (inr (inr (inl g))))))
      listed n (inl (inr (inr (inr (inr (inr (inr h))))))) = inr (inr (inr (inr (inr (inr (inr (inl h)))))))
      listed n (inr e) = inr (inr (inl e))
  ends_with_status (Err s) well = inr (inr (inr (inr (inr (inr (inr (inr (stop_fault s))))))))

  -- which stop a fault's number tells
  pub ends_stopped : (P : Type 0) (r : Result Status Stop) → IfOk r (IsWellEnded words) → OnErr r P → IsFault (number_of r) → P
  ends_stopped P (Ok status) well on_stop fault = absurd (well_is_no_fault words status well fault)
  ends_stopped P (Err s) well on_stop fault = on_stop

  pub ends_by_reading : (P : Type 0) (r : Result Status Stop) → IfOk r (IsWellEnded words) → (IsErrOf r stop.Read → P) → number_of r ≡ 4 → P
  ends_by_reading P (Ok status) well on_stop e = absurd (well_is_no_fault words status well (inl e))
  ends_by_reading P (Err stop.Read) well on_stop e = on_stop refl
  ends_by_reading P (Err stop.Write) well on_stop e = absurd (omega (arith, e))
  ends_by_reading P (Err stop.Memory) well on_stop e = absurd (omega (arith, e))

  pub ends_by_writing : (P : Type 0) (r : Result Status Stop) → IfOk r (IsWellEnded words) → (IsErrOf r stop.Write → P) → number_of r ≡ 5 → P
  ends_by_writing P (Ok status) well on_stop e = absurd (well_is_no_fault words status well (inr (inl e)))
  ends_by_writing P (Err stop.Read) well on_stop e = absurd (omega (arith, e))
  ends_by_writing P (Err stop.Write) well on_stop e = on_stop refl
  ends_by_writing P (Err stop.Memory) well on_stop e = absurd (omega (arith, e))

-- 0 is the number of this status alone
done_of : (status : Status) → status_number status ≡ 0 → status ≡ Done
done_of Done e = refl
done_of Diagnosed e = absurd (omega (arith, e))
done_of NoCommand e = absurd (omega (arith, e))
done_of NoText e = absurd (omega (arith, e))
done_of NoObject e = absurd (omega (arith, e))
done_of ReadFault e = absurd (omega (arith, e))
done_of WriteFault e = absurd (omega (arith, e))
done_of NoMemory e = absurd (omega (arith, e))
done_of OverLimit e = absurd (omega (arith, e))
done_of BadObjects e = absurd (omega (arith, e))
done_of Trapped e = absurd (omega (arith, e))
done_of StepsSpent e = absurd (omega (arith, e))

pub ends_done : (P : Type 0) (r : Result Status Stop) → IfOk r (λ status. status ≡ Done → P) → number_of r ≡ 0 → P
ends_done P (Ok status) done e = done (done_of status e)
ends_done P (Err stop.Read) done e = absurd (omega (arith, e))
ends_done P (Err stop.Write) done e = absurd (omega (arith, e))
ends_done P (Err stop.Memory) done e = absurd (omega (arith, e))

pub ends_keeping : (P : Type 0) (r : Result Status Stop) → IfOk r (λ status. (status ≡ Done → ⊥) → P) → (IsErrOf r stop.Read → P) → (IsErrOf r stop.Memory → P)
    → (number_of r ≡ 0 → ⊥) → (number_of r ≡ 5 → ⊥) → P
ends_keeping P (Ok status) kept unread memory not_done not_written = kept (λ e. not_done (ap status_number e))
ends_keeping P (Err stop.Read) kept unread memory not_done not_written = unread refl
ends_keeping P (Err stop.Write) kept unread memory not_done not_written = absurd (not_written refl)
ends_keeping P (Err stop.Memory) kept unread memory not_done not_written = memory refl

pub ends_handed : (P : Type 0) (r : Result Status Stop) (n : ℕ) → n ≡ number_of r → IsErrOf r stop.Write ⊎ P → (n ≡ 5) ⊎ P
ends_handed P r n is (inl e) = inl (is ∙ ap number_of e)
ends_handed P r n is (inr p) = inr p
