-- What is said where there is no program.
use Rattle.std.proofs.Common.{◌≡◌, ℕ, List, [], Option, Some, None, refl, sym, ◌∙◌, ap, subst, append-nil}
use Rattle.std.specs.Prelude.{IfSome, option_map}
use Rattle.m2_io.specs.Written.{with_bytes, WritesPart}
use Rattle.program_load.specs.Answers.{told}
use Rattle.program_load.specs.Loads.{Failure}
use Rattle.program_load.specs.declared.fault.LoadFault.{LoadFault}
use Rattle.object_commands.specs.Failures.{Says, SaysPart, failure_answer, failure_text, line, line_told}
use Rattle.object_commands.specs.declared.answer.Answer.{Answer}

pub with_nothing : (old : Option (List ℕ)) → old ≡ with_bytes old []
with_nothing None = refl
with_nothing (Some old) = ap Some (sym (append-nil old))

some_one : (x y : List ℕ) → Some x ≡ Some y → x ≡ y
some_one x y e = cc

module _ (main : List ℕ) (fault : LoadFault) where
  abbrev text_of : Failure → List ℕ
  text_of f = line (failure_text main f)

  pub says_so : (text : List ℕ) (answer : Answer) (old new : Option (List ℕ)) → line_told main fault ≡ Some text → IfSome (told fault) (λ f. answer ≡ failure_answer f) → new ≡ with_bytes old text
      → Says main fault answer old new
  says_so text answer old new tells answers printed = on (told fault) refl tells answers where
    on : (o : Option Failure) → told fault ≡ o → option_map text_of o ≡ Some text → IfSome o (λ f. answer ≡ failure_answer f) → Says main fault answer old new
    on None e f h = absurd cc
    on (Some x) e f h = record { failure = x; told_is = e; answer_is = h; printed_is = printed ∙ ap (with_bytes old) (sym (some_one (text_of x) text f)) }

  pub says_nothing : (old : Option (List ℕ)) → SaysPart main fault old old
  says_nothing old = record { part = λ f e. (0, with_nothing old); nothing = λ e. refl }

  pub says_part : (text : List ℕ) (old new : Option (List ℕ)) → line_told main fault ≡ Some text → WritesPart old text new → SaysPart main fault old new
  says_part text old new tells part = record {
    part = λ f e. subst (λ (x : List ℕ). WritesPart old x new) (some_one text (text_of f) (sym tells ∙ ap (option_map text_of) e)) part;
    nothing = λ e. absurd (let h : None ≡ Some text = sym (ap (option_map text_of) e) ∙ tells in cc);
  }
