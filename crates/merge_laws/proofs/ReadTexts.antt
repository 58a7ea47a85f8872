-- Where no text of a unit has a fault, all texts are read.
use Rattle.std.specs.Prelude.{◌≡◌, refl, ℕ, zero, suc, ◌+◌, ◌<◌, Bool, true, List, [], ◌∷◌, slice_get, slice_index_or, Option, Some, None}
use Rattle.std.specs.List.{AllZip}
use Rattle.std.proofs.Common.{ap, subst, sym, arith}
use Rattle.m2_base.specs.Finished.{AreRead, main_number, main_tokens, no_text, own_scope, source_of, tokens_in, tokens_of}
use Rattle.m2_base.specs.Lists.{Each}
use Rattle.m2_base.specs.Statics.BlockLimits.{limit_of}
use Rattle.m2_base.specs.Statics.Blocks.{UnitTrees}
use Rattle.m2_base.specs.Trees.{Stream}
use Rattle.m2_base.specs.Units.{HasOneMain, IsDefinition, IsUnit, TextOf, UnitTexts}
use Rattle.m2_base.specs.WholeTexts.{SpellsDefinition, SpellsMain}
use Rattle.m2_base.specs.declared.notes.Diag.{Diag}
use Rattle.m2_base.specs.declared.outputs.StreamFault.{StreamFault}
use Rattle.m2_base.specs.declared.outputs.StreamFault.TheVariants.{Syntax, TooDeep}
use Rattle.unit_merge.specs.Outcome.{Outcome, first_too_deep, or_refusals, outcome_of_faults, refusals}
use Rattle.unit_merge.specs.TextFaults.{AreFaults, AreFaultsFrom, IsFaultOfText, Spells}
use Rattle.merge_laws.proofs.UnitNames.{got}

-- ** No faults

abbrev IsNone : Option StreamFault → Type 0
IsNone f = f ≡ None

never_none : (o : Option Outcome) (d : Diag) (ds : List Diag) → or_refusals o (d ∷ ds) ≡ None → ⊥
never_none None d ds e = cc
never_none (Some x) d ds e = cc

pub all_none : (faults : List (Option StreamFault)) → outcome_of_faults faults ≡ None → Each IsNone faults
all_none [] e = tt
all_none (None ∷ faults) e = (refl, all_none faults e)
all_none (Some (TooDeep text at) ∷ faults) e = absurd cc
all_none (Some (Syntax d) ∷ faults) e = absurd (never_none (first_too_deep faults) d (refusals faults) e)

pub none_come : (faults : List (Option StreamFault)) → Each IsNone faults → outcome_of_faults faults ≡ None
none_come [] h = refl
none_come (None ∷ faults) h = none_come faults h.1
none_come (Some f ∷ faults) h = absurd (let no = h.0 in cc)

-- each text spells trees
text_spells : (m k : ℕ) (texts : List TextOf) (faults : List (Option StreamFault)) → AreFaultsFrom m k texts faults → Each IsNone faults → (i : ℕ) (t : TextOf) → slice_get texts i ≡ Some t → Spells m t.definition t
text_spells m k [] faults h n i t e = absurd cc
text_spells m k (x ∷ texts) [] h n i t e = absurd h
text_spells m k (x ∷ texts) (f ∷ faults) h n zero t e =
    let same : x ≡ t = cc in
    subst (λ (y : TextOf). Spells m y.definition y) same (subst (IsFaultOfText m k x) n.0 h.0)
text_spells m k (x ∷ texts) (f ∷ faults) h n (suc i) t e = text_spells m (k + 1) texts faults h.1 n.1 i t e

-- ** Trees

-- the trees of a unit's texts
pub record Read (texts : UnitTexts) : Type 0 where
  pub u : UnitTrees
  pub read : AreRead texts u

module _ (texts : UnitTexts) (unit : IsUnit texts) (limits : limit_of (main_tokens texts) ≡ None) (faults : List (Option StreamFault)) (are : AreFaults texts faults) (none : outcome_of_faults faults ≡ None) where
  spells : (k : ℕ) (t : TextOf) → slice_get texts.list k ≡ Some t → Spells (main_number texts) t.definition t
  spells = text_spells (main_number texts) 0 texts.list faults are (all_none faults none)

  definition_at : (k : ℕ) → IsDefinition texts.list k → (tree : Stream) × SpellsDefinition (tree ∷ []) (tokens_of texts k)
  definition_at k d =
      let t = slice_index_or texts.list k no_text in
      let there : slice_get texts.list k ≡ Some t = got texts.list k no_text d.1 in
      let found = subst (λ (b : Bool). Spells (main_number texts) b t) (kind texts.list unit.main k d.0) (spells k t there) in
      (found.0, subst (SpellsDefinition (found.0 ∷ [])) (sym (ap tokens_in there)) found.1)
    where
      each : (list : List TextOf) (k : ℕ) → Each (λ (t : TextOf). t.definition ≡ true) list → (slice_index_or list k no_text).definition ≡ true
      each [] k h = refl
      each (x ∷ list) zero h = h.0
      each (x ∷ list) (suc k) h = each list k h.1

      kind : (list : List TextOf) → HasOneMain list → (k : ℕ) → 0 < k → (slice_index_or list k no_text).definition ≡ true
      kind [] h k p = absurd h
      kind (x ∷ list) h zero p = absurd (omega (arith, p))
      kind (x ∷ list) h (suc k) p = each list k h.1

  definitions : (order : List ℕ) → Each (IsDefinition texts.list) order → (trees : List Stream) × AllZip (λ k tree. SpellsDefinition (tree ∷ []) (tokens_of texts k)) order trees
  definitions [] h = ([], tt)
  definitions (k ∷ order) h =
      let first = definition_at k h.0 in
      let rest = definitions order h.1 in
      (first.0 ∷ rest.0, (first.1, rest.1))

  main_spells : (trees : List Stream) × SpellsMain (main_number texts) trees (main_tokens texts)
  main_spells = by texts.list unit.main spells
    where
      by : (list : List TextOf) → HasOneMain list → ((k : ℕ) (t : TextOf) → slice_get list k ≡ Some t → Spells (main_number texts) t.definition t) → (trees : List Stream) × SpellsMain (main_number texts) trees (tokens_in (slice_get list 0))
      by [] h f = absurd h
      by (t ∷ list) h f = subst (λ (b : Bool). Spells (main_number texts) b t) h.0 (f 0 t refl)

  pub texts_read : Read texts
  texts_read =
      let trees = definitions texts.order unit.ordered in
      let main = main_spells in
      record {
        u = record { source = source_of texts; own = own_scope texts; definitions = trees.0; main = main.0 };
        read = record { source = refl; own = refl; definitions = trees.1; main = main.1; limits = limits };
      }
