-- What is said of how a program ran.
use Rattle.std.proofs.Common.{◌≡◌, inl, inr, ℕ, List, [], ◌++◌, Option, Some, codes, decimal, map, refl, sym, ◌∙◌, ap, subst, slice_get}
use Rattle.std.proofs.lemmas.Option.{get_or_from_slice_get}
use Rattle.m2_io.specs.Written.{with_bytes, WritesPart}
use Rattle.object_file.specs.Contents.{Contents}
use Rattle.stack_machine.specs.Numbers.{code_of}
use Rattle.stack_machine.specs.declared.run.End.{End}
use Rattle.stack_machine.specs.declared.run.End.TheVariants as machine
use Rattle.stack_machine.specs.declared.trap.Trap.{Trap}
use Rattle.object_commands.specs.Failures.{line}
use Rattle.object_commands.specs.Runs.{Finishes, FinishesPart, HasCode, IsFailed, Ran, over, ran_text, spent, trap_word, trapped}
use Rattle.object_commands.specs.declared.answer.Answer.TheVariants as answers
use Rattle.object_commands.proofs.Saying.{with_nothing}

abbrev spent_text : List ℕ
spent_text = line (codes "steps spent")

-- the line of a trap in a module of that name
abbrev pub trap_said : (code : ℕ) → Trap → (name : List ℕ) → (procedure offset : ℕ) → List ℕ
trap_said code t name procedure offset =
    line (codes "trap " ++ decimal code ++ codes " " ++ trap_word t ++ codes " in " ++ name ++ codes " procedure " ++ decimal procedure ++ codes " at " ++ decimal offset)

module _ (os : List Contents) (end : End) (old : Option (List ℕ)) where
  -- nothing is said
  pub says_no_more : FinishesPart os end old old
  says_no_more = record { part = λ r is. (0, with_nothing old); nothing = λ e. refl }

  pub ends_over : end ≡ machine.Halted → Finishes os end answers.Done old old
  ends_over e = subst (λ (x : End). Finishes os x answers.Done old old) (sym e) (record { ran = over; is = refl; answer_is = refl; printed_is = with_nothing old })

  module _ (new : Option (List ℕ)) where
    pub ends_spent : end ≡ machine.StepsSpent → new ≡ with_bytes old spent_text → Finishes os end answers.StepsSpent old new
    ends_spent e printed = subst (λ (x : End). Finishes os x answers.StepsSpent old new) (sym e) (record { ran = spent; is = refl; answer_is = refl; printed_is = printed })

    spent_fails : IsFailed machine.StepsSpent → new ≡ old
    spent_fails (inl e) = absurd (no_read e) where
      no_read : machine.StepsSpent ≡ machine.ReadFailed → ⊥
      no_read e = cc
    spent_fails (inr e) = absurd (no_write e) where
      no_write : machine.StepsSpent ≡ machine.WriteFailed → ⊥
      no_write e = cc

    pub spent_part : end ≡ machine.StepsSpent → WritesPart old spent_text new → FinishesPart os end old new
    spent_part e part =
        subst (λ (x : End). FinishesPart os x old new) (sym e)
        (record { part = λ r is. subst (λ (x : Ran). WritesPart old (ran_text os x) new) (sym is) part; nothing = spent_fails })

    module _ (code m procedure offset : ℕ) (is : end ≡ machine.Trapped code m procedure offset) (name text : List ℕ) (named : slice_get (map (λ o. o.name) os) m ≡ Some name)
        (said : (t : Trap) → code ≡ code_of t → text ≡ trap_said code t name procedure offset) where
      text_is : (t : Trap) → code ≡ code_of t → text ≡ ran_text os (trapped t (record { «module» = m; procedure = procedure; offset = offset }))
      text_is t e =
          said t e ∙ ap (λ (k : ℕ). trap_said k t name procedure offset) e
          ∙ ap (λ (n : List ℕ). trap_said (code_of t) t n procedure offset) (sym (get_or_from_slice_get (map (λ (o : Contents). o.name) os) m name [] named))

      pub ends_trapped : new ≡ with_bytes old text → HasCode end → Finishes os end answers.Trapped old new
      ends_trapped printed coded =
          let c : HasCode (machine.Trapped code m procedure offset) = subst HasCode is coded in
          subst (λ (x : End). Finishes os x answers.Trapped old new) (sym is) (record {
            ran = trapped c.0 (record { «module» = m; procedure = procedure; offset = offset });
            is = (c.0, c.1, refl);
            answer_is = refl;
            printed_is = printed ∙ ap (with_bytes old) (text_is c.0 c.1);
          })

      trap_fails : IsFailed (machine.Trapped code m procedure offset) → new ≡ old
      trap_fails (inl e) = absurd (no_read e) where
        no_read : machine.Trapped code m procedure offset ≡ machine.ReadFailed → ⊥
        no_read e = cc
      trap_fails (inr e) = absurd (no_write e) where
        no_write : machine.Trapped code m procedure offset ≡ machine.WriteFailed → ⊥
        no_write e = cc

      pub trapped_part : WritesPart old text new → FinishesPart os end old new
      trapped_part part =
          subst (λ (x : End). FinishesPart os x old new) (sym is) (record {
            part = λ r ran. subst (λ (x : List ℕ). WritesPart old x new) (text_is ran.0 ran.1 ∙ ap (ran_text os) (sym ran.2)) part;
            nothing = trap_fails;
          })
