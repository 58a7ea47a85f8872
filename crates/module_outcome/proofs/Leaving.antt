-- What is left of a decision is what compiling the module leaves.
use Rattle.std.proofs.Common.{◌≡◌, ℕ, List, Option, Some, None, Result, Ok, Err, refl, sym, ◌∙◌, ap, subst, cond}
use Rattle.std.specs.Cmp.{eq_by_cmp_equiv}
use Rattle.std.specs.Cmp.Lexicographic.{nat_list_cmp_total}
use Rattle.std.specs.FinMap.{get, get-insert, insert}
use Rattle.std.specs.Prelude.{IfOk, IfSome, OnErr}
use Rattle.m2_io.specs.Files.{Files, HasPart, with_file}
use Rattle.m2_io.specs.Written.{WritesPart}
use Rattle.object_file.specs.Contents.{Contents, object_bytes}
use Rattle.object_file.specs.Validity.{IsValid}
use Rattle.module_outcome.specs.Decisions.{Decides}
use Rattle.module_outcome.specs.Delivery.{Delivers, IsNamed, IsSound, PutsPart}
use Rattle.module_outcome.specs.Outcome.{Compiles, HasObject, KeepsButObject, Leaves, Outcome, PrintsPart, as_decided, keeps_all, outcome_of, puts_part}
use Rattle.module_outcome.specs.Verdicts.{Decision, answer_to, files_after, limited, listed, no_text, object, object_name, printed_of}
use Rattle.module_outcome.specs.declared.answer.Answer.{Answer}
use Rattle.module_outcome.specs.declared.answer.Answer.TheVariants.{Done}
use Rattle.module_outcome.specs.declared.answer.Stop.{Stop}
use Rattle.module_outcome.proofs.Said.{with_nothing}

pub on_err : {T E : Type 0} (r : Result T E) {P : Type 0} → P → OnErr r P
on_err (Ok x) p = tt
on_err (Err e) p = p

pub told_all : (holds : Option Files) (P : Files → Type 0) → ((files : Files) → holds ≡ Some files → P files) → IfSome holds P
told_all None P h = tt
told_all (Some files) P h = h files refl

abbrev pub IsOne : (files : Files) (name : List ℕ) → Type 0
IsOne files name = (these those : Outcome) → Compiles (Some files) name these → Compiles (Some files) name those → these ≡ those

module _ (holds : Option Files) (name : List ℕ) (old : Option (List ℕ)) where
  -- nothing is printed
  pub prints_nothing : IfSome holds (λ files. PrintsPart (Compiles (Some files) name) old old)
  prints_nothing = told_all holds (λ files. PrintsPart (Compiles (Some files) name) old old) (λ files has outcome given. (0, with_nothing old))

  module _ (d : Decision) (decides : Decides holds name d) (new : Option (List ℕ)) where
    prints_all : ((files : Files) → IsOne files name) → WritesPart old (printed_of name d) new → IfSome holds (λ files. PrintsPart (Compiles (Some files) name) old new)
    prints_all one part = told_all holds (λ files. PrintsPart (Compiles (Some files) name) old new) by
      where
        by : (files : Files) → holds ≡ Some files → PrintsPart (Compiles (Some files) name) old new
        by files has other given =
            let mine : Compiles (Some files) name (outcome_of (Some files) name d) = as_decided d (subst (λ (h : Option Files). Decides h name d) has decides) in
            subst (λ (x : Outcome). WritesPart old x.printed new) (one files (outcome_of (Some files) name d) other mine given) part

    pub prints_part : ((files : Files) → IsOne files name) → (r : Result Answer Stop) → OnErr r (WritesPart old (printed_of name d) new)
        → OnErr r (IfSome holds (λ files. PrintsPart (Compiles (Some files) name) old new))
    prints_part one (Ok a) part = tt
    prints_part one (Err e) part = prints_all one part

    module _ (before after : Option Files) (same : before ≡ holds) where
      pub leaves : (r : Result Answer Stop) → IfOk r (λ answer. Delivers name d answer before after old new) → IfOk r (λ answer. Leaves (Compiles holds name) answer after old new)
      leaves (Err e) h = tt
      leaves (Ok a) h = record {
        outcome = outcome_of holds name d;
        is_given = as_decided d decides;
        answer_is = h.answer_is;
        files_are = h.files_are ∙ ap (files_after name d) same;
        printed_is = h.printed_is;
      }

-- ** The object

put_there : (files : Files) (name bytes : List ℕ) → get (insert files name bytes) name ≡ Some bytes
put_there files name bytes =
    get-insert nat_list_cmp_total files name bytes name ∙ ap (λ same. cond same (Some bytes) (get files name)) ((eq_by_cmp_equiv nat_list_cmp_total).refl name)

module _ (name : List ℕ) (before after : Option Files) where
  put_as : (c : Contents) → IsValid c → c.name ≡ name → after ≡ with_file before (object_name name) (object_bytes c) → IfSome after (HasObject name)
  put_as c valid named files = subst (λ (o : Option Files). IfSome o (HasObject name)) (sym files) (inserted before)
    where
      inserted : (o : Option Files) → IfSome (with_file o (object_name name) (object_bytes c)) (HasObject name)
      inserted None = tt
      inserted (Some files) = record { bytes = object_bytes c; contents = c; has = put_there files (object_name name) (object_bytes c); named = named; valid = valid }

  has_object : (d : Decision) → IsNamed name d → IsSound d → after ≡ files_after name d before → Done ≡ answer_to d → IfSome after (HasObject name)
  has_object no_text named sound files done = absurd cc
  has_object (limited limit) named sound files done = absurd cc
  has_object (listed unit diags) named sound files done = absurd cc
  has_object (object c) named sound files done = put_as c sound named files

  pub has_its_object : (d : Decision) (old new : Option (List ℕ)) → IsNamed name d → (r : Result Answer Stop) → IfOk r (λ answer. IsSound d) → IfOk r (λ answer. Delivers name d answer before after old new)
      → IfOk r (λ answer. answer ≡ Done → IfSome after (HasObject name))
  has_its_object d old new named (Err e) sound h = tt
  has_its_object d old new named (Ok a) sound h = λ done. has_object d named sound h.files_are (sym done ∙ h.answer_is)

-- a front of the object is put, or nothing
pub keeps_but_object : (holds before after : Option Files) (name : List ℕ) (d : Decision) → before ≡ holds → Decides holds name d → PutsPart name d before after → KeepsButObject name holds after
keeps_but_object holds before after name no_text same decides part = keeps_all (part ∙ same)
keeps_but_object holds before after name (limited limit) same decides part = keeps_all (part ∙ same)
keeps_but_object holds before after name (listed unit diags) same decides part = keeps_all (part ∙ same)
keeps_but_object holds before after name (object c) same decides part =
    puts_part c decides (subst (λ (h : Option Files). HasPart h (object_name name) (object_bytes c) after) same part)
