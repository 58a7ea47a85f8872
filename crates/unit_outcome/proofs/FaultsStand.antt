-- The first faults of a unit's texts stand at tokens of their texts.
use Rattle.std.proofs.Common.{◌≡◌, ℕ, ◌<◌, Bool, true, false, List, [], ◌∷◌, ◌++◌, Option, Some, None, length, length-append, refl, sym, ◌∙◌, ap, subst, arith, slice_get, append_assoc}
use Rattle.ll_grammar.specs.Sentences.{Fault, Syntax, TooDeep}
use Rattle.m2_base.specs.FaultsOf.{code_of, fault_in}
use Rattle.m2_base.specs.Finished.{main_number}
use Rattle.m2_base.specs.Lists.{Each}
use Rattle.m2_base.specs.StatementsOf.{place}
use Rattle.m2_base.specs.Units.{AreNumbered, IsText, IsUnit, TextOf, UnitTexts}
use Rattle.m2_base.specs.declared.notes.Diag.{Diag}
use Rattle.m2_base.specs.declared.outputs.StreamFault.{StreamFault}
use Rattle.m2_base.specs.declared.token.Token.{Token}
use Rattle.unit_merge.specs.Outcome.{refusals}
use Rattle.unit_merge.specs.TextFaults.{AreFaults, AreFaultsFrom, IsFaultOfText, IsFirstIn}
use Rattle.unit_outcome.specs.Tokens.{IsAtToken}
use Rattle.m2_base.specs.declared.outputs.StreamFault.TheVariants as faults
use Rattle.m2_base.proofs.EachLaws.{each_back}
use Rattle.m2_base.proofs.StandingStreams.{tokens_below}

-- the text at a place of a list
at_place : {A : Type 0} (before : List A) (x : A) (behind : List A) → slice_get (before ++ x ∷ behind) (length before) ≡ Some x
at_place [] x behind = refl
at_place (b ∷ before) x behind = at_place before x behind

fault_place : (k : ℕ) (diag : Diag) (fault : Fault) (rest : List Token) → faults.Syntax diag ≡ fault_in k fault rest → (diag.text ≡ k) × (diag.at ≡ place rest)
fault_place k diag Syntax rest e =
    let same : diag ≡ record { text = k; at = place rest; code = code_of rest } = cc in (ap (λ (d : Diag). d.text) same, ap (λ (d : Diag). d.at) same)
fault_place k diag TooDeep rest e = absurd cc

place_below : (n : ℕ) (rest : List Token) → 0 < n → Each (λ (t : Token). t.at < n) rest → place rest < n
place_below n [] some h = some
place_below n (t ∷ rest) some h = h.0

some_tokens : (ts : List Token) → AreNumbered 0 ts → 0 < length ts
some_tokens [] h = absurd h
some_tokens (t ∷ ts) h = omega arith

module _ (u : UnitTexts) where
  first_stands : (k : ℕ) (definition : Bool) (t : TextOf) (diag : Diag) → slice_get u.list k ≡ Some t → AreNumbered 0 t.tokens → IsFirstIn k definition t (faults.Syntax diag) → IsAtToken u diag
  first_stands k true t diag there numbered h =
      let n = length t.tokens in
      let at = fault_place k diag h.fault h.rest h.told in
      let behind = each_back (λ (x : Token). x.at < n) h.faulty.before h.rest (subst (λ (l : List Token). Each (λ (x : Token). x.at < n) l) h.faulty.is (tokens_below t.tokens numbered)) in
      (t, ap (slice_get u.list) at.0 ∙ there, subst (λ (x : ℕ). x < n) (sym at.1) (place_below n h.rest (some_tokens t.tokens numbered) behind))
  first_stands k false t diag there numbered h =
      let n = length t.tokens in
      let at = fault_place k diag h.fault h.rest h.told in
      let behind = each_back (λ (x : Token). x.at < n) h.faulty.before h.rest (subst (λ (l : List Token). Each (λ (x : Token). x.at < n) l) h.faulty.is (tokens_below t.tokens numbered)) in
      (t, ap (slice_get u.list) at.0 ∙ there, subst (λ (x : ℕ). x < n) (sym at.1) (place_below n h.rest (some_tokens t.tokens numbered) behind))

  stand_from : (m : ℕ) (before behind : List TextOf) (fs : List (Option StreamFault)) → u.list ≡ before ++ behind → Each (IsText u.names) behind → AreFaultsFrom m (length before) behind fs → Each (IsAtToken u) (refusals fs)
  stand_from m before [] [] e texts h = tt
  stand_from m before [] (f ∷ fs) e texts h = absurd h
  stand_from m before (t ∷ behind) [] e texts h = absurd h
  stand_from m before (t ∷ behind) (f ∷ fs) e texts h = by f h.0
      (stand_from m (before ++ t ∷ []) behind fs (e ∙ sym (append_assoc before (t ∷ []) behind)) texts.1
      (subst (λ (k : ℕ). AreFaultsFrom m k behind fs) (sym (length-append before (t ∷ []))) h.1))
    where
      there : slice_get u.list (length before) ≡ Some t
      there = ap (λ (l : List TextOf). slice_get l (length before)) e ∙ at_place before t behind

      by : (o : Option StreamFault) → IsFaultOfText m (length before) t o → Each (IsAtToken u) (refusals fs) → Each (IsAtToken u) (refusals (o ∷ fs))
      by None is rest = rest
      by (Some (faults.TooDeep text at)) is rest = rest
      by (Some (faults.Syntax diag)) is rest = (first_stands (length before) t.definition t diag there texts.0.numbered is, rest)

pub refusals_stand : (unit : UnitTexts) (fs : List (Option StreamFault)) → IsUnit unit → AreFaults unit fs → Each (IsAtToken unit) (refusals fs)
refusals_stand unit fs is are = stand_from unit (main_number unit) [] unit.list fs refl is.texts are
