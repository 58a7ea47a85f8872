-- The keys of a unit, one after another.
use Rattle.std.proofs.Common.{◌≡◌, ◌∙◌, ℕ, zero, suc, ◌+◌, ◌<◌, List, [], ◌∷◌, ◌++◌, drop, length, map, refl, sym, ap, subst, arith}
use Rattle.std.specs.Prelude.{slice_index_or}
use Rattle.m2_base.specs.Finished.{no_text}
use Rattle.m2_base.specs.Lists.{Each}
use Rattle.m2_base.specs.Units.{Front, IsDefinition, IsUnit, TextOf, UnitTexts}
use Rattle.stream_split.specs.Fronts.{AreFronts}
use Rattle.definition_keys.specs.Keys.{IsFrontAt, Keys, key_of, keys_from, ordered_texts, unit_keys}

drop_here : {A B : Type 0} (f : A → B) (xs : List A) (k : ℕ) (d : A) → k < length xs → drop k (map f xs) ≡ f (slice_index_or xs k d) ∷ drop (suc k) (map f xs)
drop_here f [] k d l = absurd (omega (arith, l))
drop_here f (x ∷ xs) zero d l = refl
drop_here f (x ∷ xs) (suc k) d l = drop_here f xs k d (omega (arith, l))

same_there : {A : Type 0} (xs : List A) (k : ℕ) (d e : A) → k < length xs → slice_index_or xs k d ≡ slice_index_or xs k e
same_there [] k d e l = absurd (omega (arith, l))
same_there (x ∷ xs) zero d e l = refl
same_there (x ∷ xs) (suc k) d e l = same_there xs k d e (omega (arith, l))

each_got : {A : Type 0} (P : A → Type 0) (xs : List A) (k : ℕ) (d : A) → Each P xs → k < length xs → P (slice_index_or xs k d)
each_got P [] k d h l = absurd (omega (arith, l))
each_got P (x ∷ xs) zero d h l = h.0
each_got P (x ∷ xs) (suc k) d h l = each_got P xs k d h.1 (omega (arith, l))

pub keys_begin : (front : TextOf → Front) (u : UnitTexts) → keys_from u.names front [] (ordered_texts u) ≡ unit_keys front u
unfolding unit_keys
keys_begin front u = refl

module _ (front : TextOf → Front) (u : UnitTexts) (unit : IsUnit u) (k : ℕ) (t : TextOf) (l : k < length u.order) (is : t ≡ slice_index_or u.list (slice_index_or u.order k 0) t) where
  there : slice_index_or u.order k 0 < length u.list
  there = (each_got (IsDefinition u.list) u.order k 0 unit.ordered l).1

  pub front_at : AreFronts front u → IsFrontAt front t
  front_at fronts = subst (IsFrontAt front) (sym is) (each_got (IsFrontAt front) u.list (slice_index_or u.order k 0) t fronts there)

  pub keys_step : (keys all : Keys) (key : List ℕ) → key ≡ key_of u.names front keys t → keys_from u.names front keys (drop k (ordered_texts u)) ≡ all
      → keys_from u.names front (keys ++ (t.name, key) ∷ []) (drop (k + 1) (ordered_texts u)) ≡ all
  keys_step keys all key its so_far =
      let next : k + 1 ≡ suc k = omega arith in
      let here = drop_here (λ (n : ℕ). slice_index_or u.list n no_text) u.order k 0 l in
      let same : t ≡ slice_index_or u.list (slice_index_or u.order k 0) no_text = is ∙ same_there u.list (slice_index_or u.order k 0) t no_text there in
      ap (λ (n : ℕ). keys_from u.names front (keys ++ (t.name, key) ∷ []) (drop n (ordered_texts u))) next
      ∙ ap (λ (x : List ℕ). keys_from u.names front (keys ++ (t.name, x) ∷ []) (drop (suc k) (ordered_texts u))) its
      ∙ ap (λ (x : TextOf). keys_from u.names front keys (x ∷ drop (suc k) (ordered_texts u))) same
      ∙ ap (λ (xs : List TextOf). keys_from u.names front keys xs) (sym here)
      ∙ so_far
