-- What is told of a unit goes with what is decided of it.
use Rattle.std.proofs.Common.{◌≡◌, ℕ, List, Option, Result, Ok, Err, sym, ◌∙◌, ap, subst}
use Rattle.std.specs.Prelude.{IfOk, codes}
use Rattle.std.specs.declared.alloc.Global.{Global}
use Rattle.std.specs.declared.vec.Vec.{Vec}
use Rattle.m2_base.specs.Units.{IsUnit, UnitTexts}
use Rattle.m2_base.specs.declared.notes.Diag.{Diag}
use Rattle.m2_io.specs.Files.{Files}
use Rattle.module_gen.specs.BigModule.{text_of}
use Rattle.object_file.specs.Contents.{Contents}
use Rattle.def_import.specs.Answers.{IsTold, unit_given, wrongs_given}
use Rattle.def_import.specs.Outcomes as gathering
use Rattle.def_import.specs.Outcomes.{IsGathered, Stops}
use Rattle.def_import.specs.Views.{fault_of}
use Rattle.def_import.specs.declared.faults.GatherFault.{GatherFault}
use Rattle.def_import.specs.declared.gathering.Gathered.TheVariants.{Whole, Wrong}
use Rattle.def_import.specs.declared.gathering.Gathered.{Gathered}
use Rattle.unit_merge.specs.Outcome as units
use Rattle.module_outcome.specs.Big.{TellsBig, TellsUnit, has_wrong_imports, of_unit, passes_texts}
use Rattle.module_outcome.specs.Counts.{diagnostic_counts, import_counts, object_counts, of_diagnostics, of_limit, of_object}
use Rattle.module_outcome.specs.Decisions.{DecidesUnit, IsCutAnd}
use Rattle.module_outcome.specs.Limits.{of_texts}
use Rattle.module_outcome.specs.Verdicts.{limited, listed, object}
use Rattle.module_outcome.specs.declared.answer.Stop.{Stop}
use Rattle.module_outcome.specs.declared.limit.Limit.{Limit}
use Rattle.module_outcome.specs.declared.limit.Limit.TheVariants.{Nesting}
use Rattle.module_outcome.specs.declared.summary.Counts.{Counts}
use Rattle.module_outcome.specs.declared.summary.Summary.{Summary}
use Rattle.module_outcome.specs.declared.summary.Summary.TheVariants.{Counted, Limited}
use Rattle.module_outcome.proofs.OneOutcome.{decided_by}

pub same_counts : (c : Counts) (tokens streams code bytes diags : ℕ) → tokens ≡ c.tokens → streams ≡ c.streams → code ≡ c.code → bytes ≡ c.object → diags ≡ c.diags
    → record { tokens = tokens; streams = streams; code = code; object = bytes; diags = diags } ≡ c
same_counts c tokens streams code bytes diags e f g h k =
    ap (λ x. record { tokens = x; streams = streams; code = code; object = bytes; diags = diags }) e
    ∙ ap (λ x. record { tokens = c.tokens; streams = x; code = code; object = bytes; diags = diags }) f
    ∙ ap (λ x. record { tokens = c.tokens; streams = c.streams; code = x; object = bytes; diags = diags }) g
    ∙ ap (λ x. record { tokens = c.tokens; streams = c.streams; code = c.code; object = x; diags = diags }) h
    ∙ ap (λ x. record { tokens = c.tokens; streams = c.streams; code = c.code; object = c.object; diags = x }) k

module _ (unit : UnitTexts) where
  pub tells_object : (contents : Contents) → IsCutAnd unit (units.object contents) → (counts : Counts) → counts ≡ object_counts unit contents → TellsUnit unit (Counted counts)
  tells_object contents cut counts e = subst (λ (x : Counts). TellsUnit unit (Counted x)) (sym e) (record { decision = object contents; decides = decided_by unit (units.object contents) cut; tells = of_object contents })

  pub tells_diagnostics : (diags : List Diag) → IsCutAnd unit (units.diagnostics diags) → (counts : Counts) → counts ≡ diagnostic_counts unit diags → TellsUnit unit (Counted counts)
  tells_diagnostics diags cut counts e =
      subst (λ (x : Counts). TellsUnit unit (Counted x)) (sym e) (record { decision = listed unit diags; decides = decided_by unit (units.diagnostics diags) cut; tells = of_diagnostics diags })

  pub tells_nesting : (text at : ℕ) → IsCutAnd unit (units.too_deep text at) → TellsUnit unit (Limited Nesting)
  tells_nesting text at cut = record { decision = limited Nesting; decides = decided_by unit (units.too_deep text at) cut; tells = of_limit Nesting }

  pub tells_limit : (limit : Limit) → DecidesUnit unit (limited limit) → TellsUnit unit (Limited limit)
  tells_limit limit decides = record { decision = limited limit; decides = decides; tells = of_limit limit }

-- ** The module

module _ (holds : Option Files) (n : ℕ) (text : List ℕ) (is_text : text ≡ text_of n) where
  module _ (g : Gathered) (gathered : IsGathered holds (codes "Big") text (unit_given g) (wrongs_given g)) where
    given : (h : Gathered) → g ≡ h → IsGathered holds (codes "Big") (text_of n) (unit_given h) (wrongs_given h)
    given h is =
        subst (λ (x : Gathered). IsGathered holds (codes "Big") (text_of n) (unit_given x) (wrongs_given x)) is
        (subst (λ (t : List ℕ). IsGathered holds (codes "Big") t (unit_given g) (wrongs_given g)) is_text gathered)

    pub whole_tells : (unit : UnitTexts) (s : Summary) → g ≡ Whole unit → IsUnit unit → TellsUnit unit s → TellsBig holds n s
    whole_tells unit s is kept tells = of_unit (record { is = kept; gathered = given (Whole unit) is }) tells

    pub wrong_tells : (unit : UnitTexts) (wrongs : Vec Diag Global) → g ≡ Wrong unit wrongs → IsUnit unit → IsTold g
        → (slice : List Diag) → slice ≡ wrongs.items → (s : Summary) → s ≡ Counted (import_counts unit slice) → TellsBig holds n s
    wrong_tells unit wrongs is kept told slice e s same =
        subst (TellsBig holds n) (sym (same ∙ ap (λ (ds : List Diag). Counted (import_counts unit ds)) e))
        (has_wrong_imports unit wrongs.items (record { is = kept; gathered = given (Wrong unit wrongs) is }) (subst IsTold is told))

  pub fault_tells : (fault : GatherFault) → ((limit : gathering.Limit) → fault ≡ fault_of limit → Stops holds (codes "Big") text limit)
      → (r : Result Summary Stop) → IfOk r (λ s. (limit : gathering.Limit) × (fault ≡ fault_of limit) × (s ≡ Limited (of_texts limit))) → IfOk r (TellsBig holds n)
  fault_tells fault stops (Err e) h = tt
  fault_tells fault stops (Ok s) h =
      subst (TellsBig holds n) (sym h.2) (passes_texts h.0 (subst (λ (t : List ℕ). Stops holds (codes "Big") t h.0) is_text (stops h.0 h.1)))
