-- The keys of a unit's definition texts are those of the texts in their order.
use Rattle.std.specs.Prelude.{◌≡◌, refl, ℕ, zero, suc, ◌<◌, List, [], ◌∷◌, ◌++◌, length, map, slice_get, slice_index_or, Some}
use Rattle.std.proofs.Common.{ap, subst, sym, ◌∙◌, arith}
use Rattle.std.proofs.lemmas.List.{append-nil, length-map}
use Rattle.std.proofs.lemmas.Option.{get_or_from_slice_get}
use Rattle.m2_base.specs.Finished.{no_text}
use Rattle.m2_base.specs.Lists.{Each}
use Rattle.m2_base.specs.Names.{number_in}
use Rattle.m2_base.specs.Units.{Front, IsDefinition, IsText, IsUnit, TextOf, UnitTexts}
use Rattle.definition_keys.specs.Keys.{Keys, key_of, keys_from, ordered_texts, unit_keys}
use Rattle.unit_merge.specs.Objects.{HasItsNumber, HaveTheirNumbers}

moved : (xs : Keys) (x : ℕ × List ℕ) (ns : List ℕ) → map (λ (k : ℕ × List ℕ). k.0) (xs ++ x ∷ []) ++ ns ≡ map (λ (k : ℕ × List ℕ). k.0) xs ++ x.0 ∷ ns
moved [] x ns = refl
moved (y ∷ xs) x ns = ap (λ zs. y.0 ∷ zs) (moved xs x ns)

-- the keys have the names of these texts behind those before
keys_named : (names : List (List ℕ)) (front : TextOf → Front) (ts : List TextOf) (keys : Keys)
    → map (λ (k : ℕ × List ℕ). k.0) (keys_from names front keys ts) ≡ map (λ (k : ℕ × List ℕ). k.0) keys ++ map (λ (t : TextOf). t.name) ts
keys_named names front [] keys = sym (append-nil (map (λ (k : ℕ × List ℕ). k.0) keys))
keys_named names front (t ∷ ts) keys =
    keys_named names front ts (keys ++ (t.name, key_of names front keys t) ∷ []) ∙ moved keys (t.name, key_of names front keys t) (map (λ (x : TextOf). x.name) ts)

abbrev text_at : UnitTexts → ℕ → TextOf
text_at texts k = slice_index_or texts.list k no_text

texts_named : (texts : UnitTexts) (order : List ℕ) → map (λ (t : TextOf). t.name) (map (text_at texts) order) ≡ map (λ k. (text_at texts k).name) order
texts_named texts [] = refl
texts_named texts (k ∷ order) = ap (λ ns. (text_at texts k).name ∷ ns) (texts_named texts order)

pub keys_of_order : (front : TextOf → Front) (texts : UnitTexts) → map (λ (k : ℕ × List ℕ). k.0) (unit_keys front texts) ≡ map (λ k. (slice_index_or texts.list k no_text).name) texts.order
unfolding unit_keys
keys_of_order front texts = keys_named texts.names front (ordered_texts texts) [] ∙ texts_named texts texts.order

pub keys_many : (front : TextOf → Front) (texts : UnitTexts) → length (unit_keys front texts) ≡ length texts.order
keys_many front texts =
    let same = ap length (keys_of_order front texts) in
    let a = length-map (unit_keys front texts) (λ (k : ℕ × List ℕ). k.0) in
    let b = length-map texts.order (λ k. (slice_index_or texts.list k no_text).name) in
    omega (arith, same, a, b)

-- ** Names

each_back : (P : ℕ → Type 0) (ks : Keys) → Each P (map (λ (k : ℕ × List ℕ). k.0) ks) → Each (λ (k : ℕ × List ℕ). P k.0) ks
each_back P [] h = tt
each_back P (k ∷ ks) h = (h.0, each_back P ks h.1)

each_forth : (P : ℕ → Type 0) (ks : Keys) → Each (λ (k : ℕ × List ℕ). P k.0) ks → Each P (map (λ (k : ℕ × List ℕ). k.0) ks)
each_forth P [] h = tt
each_forth P (k ∷ ks) h = (h.0, each_forth P ks h.1)

each_got : {A : Type 0} (P : A → Type 0) (xs : List A) (k : ℕ) (d : A) → Each P xs → k < length xs → P (slice_index_or xs k d)
each_got P [] k d h l = absurd (omega (arith, l))
each_got P (x ∷ xs) zero d h l = h.0
each_got P (x ∷ xs) (suc k) d h l = each_got P xs k d h.1 (omega (arith, l))

texts_there : (texts : UnitTexts) → IsUnit texts → (order : List ℕ) → Each (IsDefinition texts.list) order → Each (λ n. n < length texts.names) (map (λ k. (slice_index_or texts.list k no_text).name) order)
texts_there texts unit [] h = tt
texts_there texts unit (k ∷ order) h = ((each_got (IsText texts.names) texts.list k no_text unit.texts h.0.1).named.numbered.there, texts_there texts unit order h.1)

-- each key has a name of the unit
pub keys_there : (front : TextOf → Front) (texts : UnitTexts) → IsUnit texts → Each (λ (k : ℕ × List ℕ). k.0 < length texts.names) (unit_keys front texts)
keys_there front texts unit =
    each_back (λ n. n < length texts.names) (unit_keys front texts) (subst (Each (λ n. n < length texts.names)) (sym (keys_of_order front texts)) (texts_there texts unit texts.order unit.ordered))

each_unmapped : (P : ℕ → Type 0) (f : ℕ → ℕ) (xs : List ℕ) → Each P (map f xs) → Each (λ x. P (f x)) xs
each_unmapped P f [] h = tt
each_unmapped P f (x ∷ xs) h = (h.0, each_unmapped P f xs h.1)

-- the definition texts have their numbers, where the keys have
pub numbers_of_texts : (front : TextOf → Front) (texts : UnitTexts) → Each (λ (k : ℕ × List ℕ). HasItsNumber texts.names k.0) (unit_keys front texts) → HaveTheirNumbers texts
numbers_of_texts front texts h =
    each_unmapped (HasItsNumber texts.names) (λ k. (slice_index_or texts.list k no_text).name) texts.order
    (subst (Each (HasItsNumber texts.names)) (keys_of_order front texts) (each_forth (HasItsNumber texts.names) (unit_keys front texts) h))

pub its_number : (names : List (List ℕ)) (name : ℕ) (bytes : List ℕ) → slice_get names name ≡ Some bytes → number_in names bytes ≡ Some name → HasItsNumber names name
its_number names name bytes e h = ap (number_in names) (get_or_from_slice_get names name bytes [] e) ∙ h
