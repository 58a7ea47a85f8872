-- What is told of the module Big is what compiling it leaves.
use Rattle.std.proofs.Common.{◌≡◌, ℕ, List, Option, Some, Result, Ok, Err, sym, subst}
use Rattle.std.specs.Prelude.{IfOk, IfSome, OnErr, OnOk}
use Rattle.m2_io.specs.Files.{Files}
use Rattle.m2_io.specs.Written.{WritesPart, with_bytes}
use Rattle.module_outcome.specs.Big.{LeavesSummary, PrintsSummaryPart, Summarizes, TellsBig, as_told}
use Rattle.module_outcome.specs.Counts.{answer_by, printed_by}
use Rattle.module_outcome.specs.declared.answer.Answer.{Answer}
use Rattle.module_outcome.specs.declared.answer.Stop.{Stop}
use Rattle.module_outcome.specs.declared.summary.Summary.{Summary}
use Rattle.module_outcome.proofs.Leaving.{told_all}
use Rattle.module_outcome.proofs.Said.{with_nothing}

abbrev pub IsOneSummary : (files : Files) (n : ℕ) → Type 0
IsOneSummary files n = (this other : Answer) (these those : List ℕ) → Summarizes (Some files) n this these → Summarizes (Some files) n other those → (this ≡ other) × (these ≡ those)

module _ (holds : Option Files) (n : ℕ) (old : Option (List ℕ)) where
  -- nothing is printed
  pub prints_no_summary : IfSome holds (λ files. PrintsSummaryPart (Some files) n old old)
  prints_no_summary = told_all holds (λ files. PrintsSummaryPart (Some files) n old old) (λ files has answer printed given. (0, with_nothing old))

  module _ (s : Summary) (tells : TellsBig holds n s) (new : Option (List ℕ)) where
    pub leaves_summary : (r : Result Answer Stop) → IfOk r (λ answer. answer ≡ answer_by s) → OnOk r (new ≡ with_bytes old (printed_by n s)) → IfOk r (λ answer. LeavesSummary holds n answer old new)
    leaves_summary (Err e) answer printed = tt
    leaves_summary (Ok a) answer printed = record {
      printed = printed_by n s;
      is = subst (λ (x : Answer). Summarizes holds n x (printed_by n s)) (sym answer) (as_told s tells);
      printed_is = printed;
    }

    prints_all : ((files : Files) → IsOneSummary files n) → WritesPart old (printed_by n s) new → IfSome holds (λ files. PrintsSummaryPart (Some files) n old new)
    prints_all one part = told_all holds (λ files. PrintsSummaryPart (Some files) n old new) by
      where
        by : (files : Files) → holds ≡ Some files → PrintsSummaryPart (Some files) n old new
        by files has answer printed given =
            let mine : Summarizes (Some files) n (answer_by s) (printed_by n s) = as_told s (subst (λ (h : Option Files). TellsBig h n s) has tells) in
            subst (λ (x : List ℕ). WritesPart old x new) (one files (answer_by s) answer (printed_by n s) printed mine given).1 part

    pub prints_summary_part : ((files : Files) → IsOneSummary files n) → (r : Result Answer Stop) → OnErr r (WritesPart old (printed_by n s) new) → OnErr r (IfSome holds (λ files. PrintsSummaryPart (Some files) n old new))
    prints_summary_part one (Ok a) part = tt
    prints_summary_part one (Err e) part = prints_all one part
