-- Fronts of a unit's texts that the grammar tells agree, so that nothing is left out of the unit by any of them.
use Rattle.std.specs.Prelude.{◌≡◌, ℕ, zero, suc, List, [], ◌∷◌, Some, slice_get}
use Rattle.std.proofs.Common.{ap, subst, sym, ◌∙◌}
use Rattle.def_import.specs.Answers.{HasFrontBy, IsWhole}
use Rattle.m2_base.specs.Fronts as grammar
use Rattle.m2_base.specs.Fronts.{IsFront}
use Rattle.m2_base.specs.Lists.{Each, IsIn}
use Rattle.m2_base.specs.Units.{Front, IsOwnBy, IsTextOf, IsWholeBy, TextOf, UnitTexts}
use Rattle.merge_laws.specs.Texts as merging
use Rattle.merge_laws.specs.Texts.{HasFront}
use Rattle.stream_split.specs.Fronts.{AreFronts, front_of}

-- the texts have the same fronts
abbrev Agree : (front other : TextOf → Front) → List TextOf → Type 0
Agree front other list = Each (λ t. front t ≡ other t) list

agree : (front other : TextOf → Front) (list : List TextOf) → Each (HasFrontBy front) list
    → Each (λ t. (f : grammar.Front) → IsFront t.definition t.tokens f → other t ≡ front_of f) list → Agree front other list
agree front other [] has are = tt
agree front other (t ∷ list) has are = (has.0.same ∙ sym (are.0 has.0.told has.0.is), agree front other list has.1 are.1)

agree_at : (front other : TextOf → Front) (list : List TextOf) → Agree front other list → (n : ℕ) (t : TextOf) → slice_get list n ≡ Some t → front t ≡ other t
agree_at front other [] h n t e = absurd cc
agree_at front other (x ∷ list) h zero t e = let same : x ≡ t = cc in subst (λ (y : TextOf). front y ≡ other y) same h.0
agree_at front other (x ∷ list) h (suc n) t e = agree_at front other list h.1 n t e

have_fronts : (front : TextOf → Front) (list : List TextOf) → Each (HasFrontBy front) list → Each HasFront list
have_fronts front [] has = tt
have_fronts front (t ∷ list) has = ((has.0.told, has.0.is), have_fronts front list has.1)

named : (front other : TextOf → Front) (list : List TextOf) → Agree front other list
    → Each (λ t. (name : ℕ) → (front t).name ≡ Some name → name ≡ t.name) list → Each (λ t. (name : ℕ) → (other t).name ≡ Some name → name ≡ t.name) list
named front other [] h are = tt
named front other (t ∷ list) h are = (λ name e. are.0 name (ap (λ (f : Front). f.name) h.0 ∙ e), named front other list h.1 are.1)

whole_by : (front other : TextOf → Front) (u : UnitTexts) → Agree front other u.list → IsWholeBy front u → IsWholeBy other u
whole_by front other u h w = record {
  imported = λ n t e. subst (λ (f : Front). Each (λ name. (k : ℕ) × IsTextOf u name k) f.imports) (agree_at front other u.list h n t e) (w.imported n t e);
  named = named front other u.list h w.named;
  own = λ main e. subst (λ (f : Front). IsOwnBy u f u.own) (agree_at front other u.list h 0 main e) (w.own main e);
  all = w.all;
  after = λ n k name t d e i is. w.after n k name t d e (subst (λ (f : Front). IsIn name f.imports) (sym (agree_at front other u.list h n t e)) i) is;
}

-- of a unit that is gathered whole nothing is left out by these fronts
pub gathered_whole : (u : UnitTexts) (front : TextOf → Front) → IsWhole u → AreFronts front u → merging.IsWhole front u
gathered_whole u front w are = record {
  told = have_fronts w.front u.list w.fronts;
  fronts = are;
  whole = whole_by w.front front u (agree w.front front u.list w.fronts are) w.whole;
}
