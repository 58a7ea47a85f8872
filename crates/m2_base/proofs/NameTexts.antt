-- The index of names, and the list of their texts that contracts see.
use Rattle.std.proofs.Common.{◌≡◌, ◌∙◌, ◌+◌, ◌-◌, ◌<◌, ◌^◌, ℕ, Bool, true, false, cond, ◌||◌, List, [], ◌∷◌, ◌++◌, Option, Some, None, map, length, take, drop, get_or, sym, ap, subst, refl, arith, length-append}
use Rattle.std.specs.Prelude.{slice_get}
use Rattle.std.specs.HashMap.{HashMap, Updates, get_by}
use Rattle.std.specs.List.{list_any, position_from, IsDistinct}
use Rattle.std.specs.Map.{KeepsOthers, lookup}
use Rattle.std.specs.Option.{is_some, option_or, unwrap_or}
use Rattle.std.specs.Str.{bytes_eq}
use Rattle.std.proofs.lemmas.Iterator.Adapters.{position_from-zero}
use Rattle.std.proofs.lemmas.List.{append_assoc, get_or_at, length-map, length-take-le, map-append, take-append-drop, take_more}
use Rattle.std.proofs.lemmas.Option.{slice_get_read}
use Rattle.std.proofs.lemmas.Slice.Eq.{bytes_eq-Decides}
use Rattle.m2_base.specs.Names.{AreIndexed, AreNumbersOf, number_in, with_name, with_names}
use Rattle.m2_base.proofs.Numbers.{IsDistinct-with_names, number_in-append, number_in-below, number_in-slice_get, with_names-append}

-- ---- a list of texts with one more

or-cond : (b : Bool) (n : ℕ) (r s o : Option ℕ) → r ≡ option_or s o → cond b (Some n) r ≡ option_or (cond b (Some n) s) o
or-cond true n r s o e = refl
or-cond false n r s o e = e

-- the first that passes is one of the former, or the last
position_from-push : {X : Type 0} (p : X → Bool) (i : ℕ) (xs : List X) (y : X) → position_from p i (xs ++ y ∷ []) ≡ option_or (position_from p i xs) (cond (p y) (Some (i + length xs)) None)
position_from-push p i [] y = ap (λ n. cond (p y) (Some n) None) (omega arith)
position_from-push p i (x ∷ xs) y =
    or-cond (p x) i (position_from p (i + 1) (xs ++ y ∷ [])) (position_from p (i + 1) xs) _
    (position_from-push p (i + 1) xs y ∙ ap (λ n. option_or (position_from p (i + 1) xs) (cond (p y) (Some n) None)) (omega arith))

number_in-push : (texts : List (List ℕ)) (b k : List ℕ) → number_in (texts ++ k ∷ []) b ≡ option_or (number_in texts b) (cond (bytes_eq b k) (Some (length texts)) None)
number_in-push texts b k =
    position_from-zero (bytes_eq b) (texts ++ k ∷ [])
    ∙ position_from-push (bytes_eq b) 0 texts k
    ∙ ap (λ n. option_or (position_from (bytes_eq b) 0 texts) (cond (bytes_eq b k) (Some n) None)) (omega arith)
    ∙ ap (λ n. option_or n (cond (bytes_eq b k) (Some (length texts)) None)) (sym (position_from-zero (bytes_eq b) texts))

some-cond : (b c : Bool) (n : ℕ) (r : Option ℕ) → is_some r ≡ c → is_some (cond b (Some n) r) ≡ (b || c)
some-cond true c n r e = refl
some-cond false c n r e = e

is_some-position_from : {X : Type 0} (p : X → Bool) (i : ℕ) (xs : List X) → is_some (position_from p i xs) ≡ list_any p xs
is_some-position_from p i [] = refl
is_some-position_from p i (x ∷ xs) = some-cond (p x) (list_any p xs) i (position_from p (i + 1) xs) (is_some-position_from p (i + 1) xs)

-- a text has a number where it is among the texts
is_some-number_in : (texts : List (List ℕ)) (b : List ℕ) → is_some (number_in texts b) ≡ list_any (bytes_eq b) texts
is_some-number_in texts b = ap is_some (position_from-zero (bytes_eq b) texts) ∙ is_some-position_from (bytes_eq b) 0 texts

-- texts that have a text stay
pub with_name-there : (texts : List (List ℕ)) (b : List ℕ) (n : ℕ) → number_in texts b ≡ Some n → with_name texts b ≡ texts
with_name-there texts b n e = ap (λ t. cond t texts (texts ++ b ∷ [])) (sym (is_some-number_in texts b) ∙ ap is_some e)

-- texts that lack a text have it last
pub with_name-new : (texts : List (List ℕ)) (b : List ℕ) → number_in texts b ≡ None → with_name texts b ≡ texts ++ b ∷ []
with_name-new texts b e = ap (λ t. cond t texts (texts ++ b ∷ [])) (sym (is_some-number_in texts b) ∙ ap is_some e)

-- and then its number is how many there were
pub number_in-new : (texts : List (List ℕ)) (b : List ℕ) → number_in texts b ≡ None → number_in (texts ++ b ∷ []) b ≡ Some (length texts)
number_in-new texts b e =
    number_in-push texts b b
    ∙ ap (λ n. option_or n (cond (bytes_eq b b) (Some (length texts)) None)) e
    ∙ ap (λ t. cond t (Some (length texts)) None) ((bytes_eq-Decides b b).1 refl)

front-cases : (texts more : List (List ℕ)) (b : List ℕ) (o : Option ℕ) → number_in texts b ≡ o → IsDistinct bytes_eq (texts ++ b ∷ more) → number_in texts b ≡ None
front-cases texts more b None e differ = e
front-cases texts more b (Some n) e differ =
    let there : slice_get (texts ++ b ∷ more) (length texts) ≡ Some b =
    slice_get_read (texts ++ b ∷ more) (length (texts ++ b ∷ more)) (length texts) b refl (omega (arith, length-append texts (b ∷ more))) (sym (get_or_at texts b more b (length texts) refl)) in
    let early : n ≡ length texts = ap (λ o. unwrap_or o 0) (sym (number_in-append texts (b ∷ more) b n e) ∙ number_in-slice_get (texts ++ b ∷ more) b (length texts) differ there) in
    absurd (omega (arith, early, number_in-below texts b n e))

-- among texts that differ, those in front of one lack it
pub number_in-front : (texts more : List (List ℕ)) (b : List ℕ) → IsDistinct bytes_eq (texts ++ b ∷ more) → number_in texts b ≡ None
number_in-front texts more b differ = front-cases texts more b (number_in texts b) refl differ

one-cases : (t : Bool) (n : ℕ) (o : Option ℕ) → (t ≡ true → o ≡ None) → cond t (Some n) o ≡ option_or o (cond t (Some n) None)
one-cases true n o none = sym (ap (λ m. option_or m (Some n)) (none refl))
one-cases false n None none = refl
one-cases false n (Some m) none = refl

module _ {V : Type 0} (items : V → List ℕ) where
  -- whether two keys have the same text
  abbrev pub same_text : V → V → Bool
  same_text x y = bytes_eq (items x) (items y)

  module _ {S : Type 0} where
    put-cases : (old new : HashMap V ℕ S) (k : V) (n : ℕ) (b : List ℕ) (t : Bool) → bytes_eq b (items k) ≡ t → Updates same_text old new k (Some n)
        → get_by (λ x. bytes_eq b (items x)) new ≡ cond t (Some n) (get_by (λ x. bytes_eq b (items x)) old)
    unfolding KeepsOthers
    put-cases old new k n b true is put = ap (λ t. get_by (λ x. bytes_eq t (items x)) new) ((bytes_eq-Decides b (items k)).0 is) ∙ put.1
    put-cases old new k n b false is put =
        put.3 (λ x. bytes_eq b (items x)) (λ x y same. ap (λ t. bytes_eq t (items y)) ((bytes_eq-Decides b (items x)).0 same))
        (λ x same. ap (bytes_eq b) (sym ((bytes_eq-Decides (items k) (items x)).0 same)) ∙ is)

    -- a text that is put has its number, and every other text the one that it had
    pub found-put : (old new : HashMap V ℕ S) (k : V) (n : ℕ) → Updates same_text old new k (Some n) → (b : List ℕ)
        → get_by (λ x. bytes_eq b (items x)) new ≡ cond (bytes_eq b (items k)) (Some n) (get_by (λ x. bytes_eq b (items x)) old)
    found-put old new k n put b = put-cases old new k n b (bytes_eq b (items k)) refl put

    -- a new text with the next number is numbered behind the others
    pub one_more : (old new : HashMap V ℕ S) (texts : List (List ℕ)) (k : List ℕ) → AreNumbersOf items old texts → number_in texts k ≡ None
        → ((b : List ℕ) → get_by (λ x. bytes_eq b (items x)) new ≡ cond (bytes_eq b k) (Some (length texts)) (get_by (λ x. bytes_eq b (items x)) old))
        → AreNumbersOf items new (texts ++ k ∷ [])
    one_more old new texts k are lacks put b =
        put b
        ∙ ap (cond (bytes_eq b k) (Some (length texts))) (are b)
        ∙ one-cases (bytes_eq b k) (length texts) (number_in texts b) (λ same. ap (number_in texts) ((bytes_eq-Decides b k).0 same) ∙ lacks)
        ∙ sym (number_in-push texts b k)

    -- names with a new one
    pub indexed-more : (old new : HashMap V ℕ S) (texts : List (List ℕ)) (k : List ℕ) → AreIndexed items old texts → length texts < 2 ^ 32 - 1 → number_in texts k ≡ None
        → ((b : List ℕ) → get_by (λ x. bytes_eq b (items x)) new ≡ cond (bytes_eq b k) (Some (length texts)) (get_by (λ x. bytes_eq b (items x)) old))
        → AreIndexed items new (texts ++ k ∷ [])
    indexed-more old new texts k are few lacks put = record {
      found = one_more old new texts k are.found lacks put;
      differ = subst (IsDistinct bytes_eq) (with_name-new texts k lacks) (IsDistinct-with_names texts (k ∷ []) are.differ);
      few = omega (arith, few, length-append texts (k ∷ []));
    }

  -- one more of the keys is numbered
  pub with_names-take : (old : List (List ℕ)) (ks : List V) (n : ℕ) (d : V) → n < length ks
      → with_names old (map items (take (n + 1) ks)) ≡ with_name (with_names old (map items (take n ks))) (items (get_or ks n d))
  with_names-take old ks n d inside =
      ap (λ front. with_names old (map items front)) (take_more ks n d inside)
      ∙ ap (with_names old) (map-append items (take n ks) (get_or ks n d ∷ []))
      ∙ with_names-append old (map items (take n ks)) (items (get_or ks n d) ∷ [])

  -- the keys before a place, the one there, and the others
  split_at : (ks : List V) (n : ℕ) (d : V) → n < length ks → map items ks ≡ map items (take n ks) ++ items (get_or ks n d) ∷ map items (drop (n + 1) ks)
  split_at ks n d inside =
      ap (map items) (sym (take-append-drop (n + 1) ks))
      ∙ map-append items (take (n + 1) ks) (drop (n + 1) ks)
      ∙ ap (λ front. map items front ++ map items (drop (n + 1) ks)) (take_more ks n d inside)
      ∙ ap (λ front. front ++ map items (drop (n + 1) ks)) (map-append items (take n ks) (get_or ks n d ∷ []))
      ∙ append_assoc (map items (take n ks)) (items (get_or ks n d) ∷ []) (map items (drop (n + 1) ks))

  -- the texts of keys up to a place are numbered, and then the one there
  pub numbered-more : {S : Type 0} (old new : HashMap V ℕ S) (ks : List V) (n : ℕ) (d : V) (k : List ℕ) → n < length ks → IsDistinct bytes_eq (map items ks) → k ≡ items (get_or ks n d)
      → AreNumbersOf items old (map items (take n ks))
      → ((b : List ℕ) → get_by (λ x. bytes_eq b (items x)) new ≡ cond (bytes_eq b k) (Some n) (get_by (λ x. bytes_eq b (items x)) old))
      → AreNumbersOf items new (map items (take (n + 1) ks))
  numbered-more old new ks n d k inside differ text are put =
      let front = map items (take n ks) in
      let many : length front ≡ n = length-map (take n ks) items ∙ length-take-le n ks (omega (arith, inside)) in
      let lacks : number_in front k ≡ None = ap (number_in front) text ∙ number_in-front front (map items (drop (n + 1) ks)) (items (get_or ks n d)) (subst (IsDistinct bytes_eq) (split_at ks n d inside) differ) in
      let whole : front ++ k ∷ [] ≡ map items (take (n + 1) ks) =
      ap (λ t. front ++ t ∷ []) text ∙ sym (map-append items (take n ks) (get_or ks n d ∷ [])) ∙ ap (map items) (sym (take_more ks n d inside)) in
      subst (AreNumbersOf items new) whole (one_more old new front k are lacks (λ b. put b ∙ ap (λ m. cond (bytes_eq b k) (Some m) (get_by (λ x. bytes_eq b (items x)) old)) (sym many)))

  -- of no texts nothing is numbered
  pub indexed_none : {S : Type 0} (numbers : HashMap V ℕ S) (ks : List V) → numbers.entries ≡ [] → ks ≡ [] → AreIndexed items numbers (map items ks)
  unfolding IsDistinct
  indexed_none numbers ks empty none =
      subst (λ texts. AreIndexed items numbers (map items texts)) (sym none) (record { found = λ b. ap (lookup (λ x. bytes_eq b (items x))) empty; differ = tt; few = omega arith })

  -- names that are numbered from none
  pub from_none : (ks : List V) (new texts : List (List ℕ)) → ks ≡ [] → new ≡ with_names (map items ks) texts → new ≡ with_names [] texts
  from_none ks new texts none is = is ∙ ap (λ keys. with_names (map items keys) texts) none
