-- What merging gives of the outputs of a unit's streams is what the unit comes to, and that is one.
use Rattle.std.specs.Prelude.{◌≡◌, refl, ℕ, zero, suc, ◌+◌, ◌<◌, Bool, true, false, List, [], ◌∷◌, length, slice_get, Option, Some, None}
use Rattle.std.specs.List.{AllZip}
use Rattle.std.proofs.Common.{ap, subst, sym, ◌∙◌, inl, inr, arith}
use Rattle.ll_grammar.specs.Grammar.{sub}
use Rattle.ll_grammar.proofs.OneAnswer.{one_first_fault}
use Rattle.ll_grammar.proofs.OneFault.{no_fault}
use Rattle.m2_base.specs.FaultsOf.{fault_in}
use Rattle.m2_base.specs.Finished.{AreRead, main_number, tokens_in, tokens_of}
use Rattle.m2_base.specs.Grammar.{definition, grammar, levels, main}
use Rattle.m2_base.specs.Lists.{Each, IsIn}
use Rattle.m2_base.specs.Statics.Blocks.{UnitTrees}
use Rattle.m2_base.specs.Trees.{Stream}
use Rattle.m2_base.specs.Units.{Front, HasOneMain, IsUnit, TextOf, UnitTexts}
use Rattle.m2_base.specs.WholeTexts.{SpellsDefinition, SpellsMain}
use Rattle.m2_base.specs.declared.notes.Diag.{Diag}
use Rattle.m2_base.specs.declared.outputs.Output.{Output}
use Rattle.m2_base.specs.declared.outputs.StreamFault.{StreamFault}
use Rattle.m2_base.proofs.FinishedLaws.{one_reading}
use Rattle.definition_keys.specs.Keys.{unit_keys}
use Rattle.object_file.specs.Contents.{Contents}
use Rattle.object_file.specs.Validity.{IsValid}
use Rattle.unit_merge.specs.Merging.{CanBeMerged, HaveNoFaults, IsMerged, of_faults, of_outputs}
use Rattle.unit_merge.specs.Objects as objects
use Rattle.unit_merge.specs.Objects.{HaveTheirNumbers, contents_from}
use Rattle.unit_merge.specs.Outcome.{Outcome, or_object, outcome_of_faults}
use Rattle.unit_merge.specs.Outputs.{output_diags}
use Rattle.unit_merge.specs.TextFaults.{AreFaults, AreFaultsFrom, IsFaultOfText, IsFirstIn, Spells}
use Rattle.merge_laws.specs.Outcome as outcomes
use Rattle.merge_laws.specs.Outcome.{IsOutcome, unit_diags}
use Rattle.merge_laws.specs.Outputs.{AreOutputs, HasNoDiags}
use Rattle.merge_laws.specs.Texts.{HaveLowHeights, IsWhole}
use Rattle.merge_laws.specs.UnitObject.{object_of}
use Rattle.merge_laws.proofs.Diags.{none_noted, same_diags}
use Rattle.merge_laws.proofs.ReadTexts.{none_come, texts_read}
use Rattle.merge_laws.proofs.SameContents.{contents_same, heights_same}
use Rattle.merge_laws.proofs.UnitFields.{object_valid}

module _ (texts : UnitTexts) (unit : IsUnit texts) (front : TextOf → Front) (whole : IsWhole front texts) where
  pub valid : (u : UnitTrees) → AreRead texts u → HasNoDiags u → HaveTheirNumbers texts → HaveLowHeights u → IsValid (object_of front texts u)
  valid u read none numbers heights = object_valid texts unit front whole u read none numbers heights

  module _ (outputs : List Output) (are : AreOutputs texts outputs) where
    diags_are : (u : UnitTrees) → AreRead texts u → output_diags outputs ≡ unit_diags u
    diags_are u read = same_diags u outputs (are.noted u read)

    object_is : (u : UnitTrees) → AreRead texts u → HasNoDiags u → contents_from (unit_keys front texts) texts outputs ≡ object_of front texts u
    object_is u read none = contents_same texts unit front whole u read outputs (are.coded u read none)

    pub mergeable : CanBeMerged texts outputs
    mergeable = record {
      each = are.each;
      all = whole.whole.all;
      front = front;
      fronts = whole.fronts;
      valid = by;
    }
      where
        by : HaveNoFaults texts → output_diags outputs ≡ [] → HaveTheirNumbers texts → objects.HaveLowHeights texts outputs → IsValid (contents_from (unit_keys front texts) texts outputs)
        by faults none numbers heights =
            let r = texts_read texts unit are.limits faults.0 faults.1 faults.2 in
            let quiet : HasNoDiags r.u = none_noted r.u (sym (diags_are r.u r.read) ∙ none) in
            subst IsValid (sym (object_is r.u r.read quiet)) (valid r.u r.read quiet numbers (heights_same texts unit front whole r.u r.read outputs (are.coded r.u r.read quiet) heights))

    pub gives : (outcome : Outcome) → IsMerged front texts outputs outcome → IsOutcome front texts outcome
    gives _ (of_faults faults outcome h e) = outcomes.of_faults faults outcome h e
    gives _ (of_outputs faults h e) =
        let r = texts_read texts unit are.limits faults h e in
        subst (IsOutcome front texts) (sym (same r.u r.read (unit_diags r.u) refl)) (outcomes.of_trees r.u r.read)
      where
        same : (u : UnitTrees) → AreRead texts u → (ds : List Diag) → unit_diags u ≡ ds → or_object (output_diags outputs) (contents_from (unit_keys front texts) texts outputs) ≡ or_object (unit_diags u) (object_of front texts u)
        same u read [] e =
            ap (λ ds. or_object ds (contents_from (unit_keys front texts) texts outputs)) (diags_are u read ∙ e) ∙ ap (λ (o : Contents). or_object [] o) (object_is u read (none_noted u e)) ∙ ap (λ ds. or_object ds (object_of front texts u)) (sym e)
        same u read (d ∷ ds) e =
            ap (λ ds. or_object ds (contents_from (unit_keys front texts) texts outputs)) (diags_are u read ∙ e) ∙ ap (λ ds. or_object ds (object_of front texts u)) (sym e)

  -- ** One outcome

  -- a text that spells trees has no fault
  never_both : (m k : ℕ) (b : Bool) (t : TextOf) (f : StreamFault) → Spells m b t → IsFirstIn k b t f → ⊥
  never_both m k true t f s h = no_fault grammar levels definition h.fault t.tokens h.rest h.faulty s.1.sentence
  never_both m k false t f s h = no_fault grammar levels (main sub) h.fault t.tokens h.rest h.faulty s.1.sentence

  one_fault_in : (k : ℕ) (b : Bool) (t : TextOf) (f g : StreamFault) → IsFirstIn k b t f → IsFirstIn k b t g → f ≡ g
  one_fault_in k true t f g h j = one_first_fault grammar levels definition t.tokens (fault_in k) f g h j
  one_fault_in k false t f g h j = one_first_fault grammar levels (main sub) t.tokens (fault_in k) f g h j

  one_of_text : (m k : ℕ) (t : TextOf) (f g : Option StreamFault) → IsFaultOfText m k t f → IsFaultOfText m k t g → f ≡ g
  one_of_text m k t None None h j = refl
  one_of_text m k t None (Some g) h j = absurd (never_both m k t.definition t g h j)
  one_of_text m k t (Some f) None h j = absurd (never_both m k t.definition t f j h)
  one_of_text m k t (Some f) (Some g) h j = ap (λ (x : StreamFault). Some x) (one_fault_in k t.definition t f g h j)

  one_list : (m k : ℕ) (list : List TextOf) (fs gs : List (Option StreamFault)) → AreFaultsFrom m k list fs → AreFaultsFrom m k list gs → fs ≡ gs
  one_list m k [] [] [] h j = refl
  one_list m k [] [] (g ∷ gs) h j = absurd j
  one_list m k [] (f ∷ fs) gs h j = absurd h
  one_list m k (t ∷ list) [] gs h j = absurd h
  one_list m k (t ∷ list) (f ∷ fs) [] h j = absurd j
  one_list m k (t ∷ list) (f ∷ fs) (g ∷ gs) h j = λ i. one_of_text m k t f g h.0 j.0 i ∷ one_list m (k + 1) list fs gs h.1 j.1 i

  -- where the texts are read, each spells trees
  read_at : (order : List ℕ) (trees : List Stream) → AllZip (λ k tree. SpellsDefinition (tree ∷ []) (tokens_of texts k)) order trees → (k : ℕ) → IsIn k order → (tree : Stream) × SpellsDefinition (tree ∷ []) (tokens_of texts k)
  read_at [] trees h k i = absurd i
  read_at (n ∷ order) [] h k i = absurd h
  read_at (n ∷ order) (tree ∷ trees) h k (inl e) = (tree, subst (λ (x : ℕ). SpellsDefinition (tree ∷ []) (tokens_of texts x)) (sym e) h.0)
  read_at (n ∷ order) (tree ∷ trees) h k (inr i) = read_at order trees h.1 k i

  text_spells : (u : UnitTrees) → AreRead texts u → (k : ℕ) (t : TextOf) → slice_get texts.list k ≡ Some t → Spells (main_number texts) t.definition t
  text_spells u read k t e = by texts.list unit.main k e refl
    where
      within : (list : List TextOf) (i : ℕ) → slice_get list i ≡ Some t → i < length list
      within [] i e = absurd cc
      within (x ∷ list) zero e = omega arith
      within (x ∷ list) (suc i) e = let low = within list i e in omega (arith, low)

      its : (list : List TextOf) (i : ℕ) → Each (λ (x : TextOf). x.definition ≡ true) list → slice_get list i ≡ Some t → t.definition ≡ true
      its [] i h e = absurd cc
      its (x ∷ list) zero h e = let same : x ≡ t = cc in subst (λ (y : TextOf). y.definition ≡ true) same h.0
      its (x ∷ list) (suc i) h e = its list i h.1 e

      by : (list : List TextOf) → HasOneMain list → (i : ℕ) → slice_get list i ≡ Some t → i ≡ k → Spells (main_number texts) t.definition t
      by [] h i e s = absurd h
      by (x ∷ list) h zero f s =
          let same : x ≡ t = cc in
          let main_is : tokens_in (slice_get texts.list 0) ≡ t.tokens = ap (λ (n : ℕ). tokens_in (slice_get texts.list n)) s ∙ ap tokens_in e in
          subst (λ (b : Bool). Spells (main_number texts) b t) (sym (ap (λ (y : TextOf). y.definition) (sym same) ∙ h.0)) (u.main, subst (SpellsMain (main_number texts) u.main) main_is read.main)
      by (x ∷ list) h (suc i) f s =
          let low = within texts.list k e in
          let found = read_at texts.order u.definitions read.definitions k (whole.whole.all k (omega (arith, s), low)) in
          subst (λ (b : Bool). Spells (main_number texts) b t) (sym (its list i h.1 f)) (found.0, subst (SpellsDefinition (found.0 ∷ [])) (ap tokens_in e) found.1)

  none_from : (m k : ℕ) (list : List TextOf) (fs : List (Option StreamFault)) → ((i : ℕ) (t : TextOf) → slice_get list i ≡ Some t → Spells m t.definition t) → AreFaultsFrom m k list fs → Each (λ f. f ≡ None) fs
  none_from m k [] [] f h = tt
  none_from m k [] (x ∷ fs) f h = absurd h
  none_from m k (t ∷ list) [] f h = absurd h
  none_from m k (t ∷ list) (x ∷ fs) f h = (one_of_text m k t x None h.0 (f 0 t refl), none_from m (k + 1) list fs (λ i s e. f (suc i) s e) h.1)

  never_faulty : (u : UnitTrees) → AreRead texts u → (fs : List (Option StreamFault)) (o : Outcome) → AreFaults texts fs → outcome_of_faults fs ≡ Some o → ⊥
  never_faulty u read fs o h e = let none = none_come fs (none_from (main_number texts) 0 texts.list fs (text_spells u read) h) in let no : None ≡ Some o = sym none ∙ e in cc

  pub one_outcome : (these those : Outcome) → IsOutcome front texts these → IsOutcome front texts those → these ≡ those
  one_outcome _ _ (outcomes.of_faults fs these h e) (outcomes.of_faults gs those j f) =
      let same = one_list (main_number texts) 0 texts.list fs gs h j in
      let all : Some these ≡ Some those = sym e ∙ ap outcome_of_faults same ∙ f in
      cc
  one_outcome _ _ (outcomes.of_faults fs these h e) (outcomes.of_trees u read) = absurd (never_faulty u read fs these h e)
  one_outcome _ _ (outcomes.of_trees u read) (outcomes.of_faults gs those j f) = absurd (never_faulty u read gs those j f)
  one_outcome _ _ (outcomes.of_trees u read) (outcomes.of_trees v other) =
      ap (λ (x : UnitTrees). or_object (unit_diags x) (object_of front texts x)) (one_reading texts u v read other)
