-- What is left of the input: a run reads some first bytes of it.
use Rattle.std.proofs.Common.{◌≡◌, ℕ, zero, suc, ◌+◌, ◌-◌, ◌≤◌, List, [], ◌∷◌, ◌++◌, Option, Some, None, refl, sym, ◌∙◌, ap, subst, arith, length, take, drop}
use Rattle.std.specs.Prelude.{IfSome}
use Rattle.std.specs.Option.{option_to_list}
use Rattle.std.proofs.lemmas.List.{drop-drop}
use Rattle.stack_machine.specs.InOut.{behind, behind_sign, byte_of, got_by, is_blank, is_digit, most_bytes, number_of}
use Rattle.stack_machine.specs.Machines.{EndsFrom}
use Rattle.stack_machine.specs.Runs.{Ends, Halted, Lost, Run, Stopped, Traffic, Trapped, Unfinished, after, asked, got, gets_by, passed, run_of}
use Rattle.stack_machine.specs.State.{Program, State}
use Rattle.stack_machine.specs.Step.{Goes, Halts, Next, NoFrame, Stuck, Traps, step}
use Rattle.stack_machine.specs.declared.op.Kind.{Kind}
use Rattle.stack_machine.specs.declared.op.Kind.TheVariants.{Cardinal, Integer}
use Rattle.stack_machine.specs.declared.op.Service.{Service}
use Rattle.stack_machine.specs.declared.op.Service.TheVariants as service
use Rattle.stack_machine.specs.declared.run.End.{End}
use Rattle.stack_machine.specs.declared.run.End.TheVariants as machine
use Rattle.object_commands.specs.Outcomes.{ReadsPart}

-- what is behind some first bytes
abbrev IsRear : (rest all : List ℕ) → Type 0
IsRear rest all = (count : ℕ) × (rest ≡ drop count all)

rear_of_rear : (a b c : List ℕ) → IsRear a b → IsRear b c → IsRear a c
rear_of_rear a b c r q = (q.0 + r.0, r.1 ∙ ap (drop r.0) q.1 ∙ drop-drop r.0 q.0 c)

-- ** What a step reads

one_taken : (b : ℕ) (bs : List ℕ) → length (take 1 (b ∷ bs)) ≡ 1
one_taken b [] = refl
one_taken b (x ∷ xs) = refl

some_dropped : (window after : List ℕ) → 1 ≤ length window → 1 ≤ length window - length after + length (take 1 after)
some_dropped window [] h = omega (arith, h)
some_dropped window (b ∷ bs) h = let one = one_taken b bs in omega (arith, one)

behind_first : (n b : ℕ) (l : List ℕ) → 1 ≤ n → drop n (b ∷ l) ≡ drop (n - 1) l
behind_first zero b l h = absurd (omega (arith, h))
behind_first (suc n) b l h = let e : suc n - 1 ≡ n = omega arith in ap (λ (k : ℕ). drop k l) (sym e)

number_rear : (kind : Kind) (kept : Option ℕ) (l : List ℕ) → IsRear (number_of kind (option_to_list kept ++ l)).rest l
unfolding number_of
number_rear kind None l =
    let window = take most_bytes l in
    let last = behind is_digit (behind_sign kind (behind is_blank window)) in
    (length window - length last + length (take 1 last), refl)
number_rear kind (Some b) l =
    let window = take most_bytes (b ∷ l) in
    let last = behind is_digit (behind_sign kind (behind is_blank window)) in
    let n = length window - length last + length (take 1 last) in
    let some : length window ≡ suc (length (take 65535 l)) = refl in
    (n - 1, behind_first n b l (some_dropped window last (omega (arith, some))))

byte_rear : (kept : Option ℕ) (l : List ℕ) → IsRear (byte_of (option_to_list kept ++ l)).rest l
byte_rear None [] = (0, refl)
byte_rear None (b ∷ l) = (1, refl)
byte_rear (Some b) l = (0, refl)

service_rear : (v : Service) (kept : Option ℕ) (l : List ℕ) → IsRear (got_by v kept l).rest l
service_rear service.Read kept l = byte_rear kept l
service_rear service.ReadInt kept l = number_rear Integer kept l
service_rear service.ReadCard kept l = number_rear Cardinal kept l
service_rear service.Write kept l = (0, refl)
service_rear service.WriteString kept l = (0, refl)
service_rear service.WriteLn kept l = (0, refl)
service_rear service.WriteInt kept l = (0, refl)
service_rear service.WriteCard kept l = (0, refl)

step_rear : (o : Option Service) (s : State) (input : List ℕ) → IsRear (gets_by o s input).rest input
step_rear None s input = (0, refl)
step_rear (Some v) s input = service_rear v s.kept input

-- ** What a run reads

abbrev RunRear : List ℕ → Run → Type 0
RunRear input (Unfinished s t) = IsRear t.input input
RunRear input (Halted s t) = IsRear t.input input
RunRear input (Trapped c at s t) = IsRear t.input input
RunRear input Lost = Unit {0}

rear_at : (input : List ℕ) (x : Next) (old : State) (t : Traffic) (go : State → Run) → IsRear t.input input → ((s : State) → RunRear input (go s)) → RunRear input (after x old t go)
rear_at input (Goes s) old t go b h = h s
rear_at input Halts old t go b h = b
rear_at input (Traps c) old t go b h = b
rear_at input (NoFrame at) old t go b h = b
rear_at input Stuck old t go b h = tt

run_rear : (p : Program) (input : List ℕ) (n : ℕ) (s : State) (t : Traffic) → IsRear t.input input → RunRear input (run_of p n s t)
unfolding run_of
run_rear p input zero s t b = b
run_rear p input (suc n) s t b =
    let next : IsRear (passed p s t).input input = rear_of_rear (passed p s t).input t.input input (step_rear (asked p s) s t.input) b in
    rear_at input (step p (got p s t) s) s (passed p s t) (λ s'. run_of p n s' (passed p s t)) next (λ s'. run_rear p input n s' (passed p s t) next)

-- ** What is left

reads_rear : (input rest : List ℕ) (left : Option (List ℕ)) → left ≡ Some rest → IsRear rest input → ReadsPart input left
reads_rear input rest left e r = (r.0, e ∙ ap Some r.1)

module _ (p : Program) (n : ℕ) (input : List ℕ) (w0 w left : Option (List ℕ)) where
  began : (s : State) → RunRear input (run_of p n s (record { out = []; input = input }))
  began s = run_rear p input n s (record { out = []; input = input }) (0, refl)

  stopped_rear : (s new : State) → Stopped p n s new input w0 w left → ReadsPart input left
  stopped_rear s new h =
      let before : IsRear h.t.input input = subst (RunRear input) h.run (run_rear p input h.steps s (record { out = []; input = input }) (0, refl)) in
      reads_rear input (drop h.taken h.t.input) left h.left_is (rear_of_rear (drop h.taken h.t.input) h.t.input input (h.taken, refl) before)

  ends_rear : (end : End) (s new : State) → Ends end p n s new input w0 w left → ReadsPart input left
  ends_rear machine.Halted s new h = reads_rear input h.t.input left h.left_is (subst (RunRear input) h.run (began s))
  ends_rear machine.StepsSpent s new h = reads_rear input h.t.input left h.left_is (subst (RunRear input) h.run (began s))
  ends_rear (machine.Trapped code m procedure offset) s new h = reads_rear input h.t.input left h.left_is (subst (RunRear input) h.run.2 (began s))
  ends_rear machine.ReadFailed s new h = stopped_rear s new h
  ends_rear machine.WriteFailed s new h = stopped_rear s new h

  left_from : (end : End) (first new : Next) → EndsFrom end p n first new input w0 w left → ReadsPart input left
  left_from end (Goes s) new h = ends_rear end s h.0 h.2
  left_from end (NoFrame at) new h = (0, h.3)
  left_from end Halts new h = absurd h
  left_from end (Traps c) new h = absurd h
  left_from end Stuck new h = absurd h

pub run_left : (p : Program) (n : ℕ) (input w0 w left : Option (List ℕ)) (end : End) (first new : Next) → IfSome input (λ i. EndsFrom end p n first new i w0 w left) → IfSome input (λ i. ReadsPart i left)
run_left p n None w0 w left end first new h = tt
run_left p n (Some input) w0 w left end first new h = left_from p n input w0 w left end first new h

pub nothing_read : (input : Option (List ℕ)) → IfSome input (λ i. ReadsPart i input)
nothing_read None = tt
nothing_read (Some input) = (0, refl)
