-- A name more in the set.
use Rattle.std.proofs.Common.{◌≡◌, ℕ, List, [], ◌∷◌, ◌++◌, Bool, true, false, refl, sym, ap, ◌∙◌, is_eq}
use Rattle.std.specs.Prelude.{◌||◌}
use Rattle.std.specs.List.{list_any}
use Rattle.std.specs.Cmp.Lexicographic.{slice_cmp}
use Rattle.std.specs.Global.{Vec}
use Rattle.std.specs.Ordering.{nat_cmp, match_ordering}
use Rattle.std.specs.declared.cmp.Ordering.{Ordering}
use Rattle.std.specs.declared.cmp.Ordering.TheVariants.{Less, Equal, Greater}
use Rattle.std.specs.BTreeSet.{insert_key}
use Rattle.std.specs.Str.{bytes_eq}
use Rattle.std.proofs.lemmas.Map.Lookups.{exact_bytes}
use Rattle.std.proofs.lemmas.Map.Text.{is_eq-slice_cmp}
use Rattle.object_file.specs.Contents.{KeyedImport}
use Rattle.object_file.specs.Named.{is_named, AreNames}

abbrev order : Vec ℕ → Vec ℕ → Ordering
order a b = slice_cmp nat_cmp a.items b.items

twice : (b c : Bool) → b || c ≡ b || (b || c)
twice true c = refl
twice false c = refl

swapped : (a b c : Bool) → a || (b || c) ≡ b || (a || c)
swapped true true c = refl
swapped true false c = refl
swapped false true c = refl
swapped false false c = refl

any_inserted : (name : List ℕ) (keys : List (Vec ℕ)) (k : Vec ℕ) → list_any (is_named name) (insert_key order keys k) ≡ is_named name k || list_any (is_named name) keys
any_inserted name [] k = refl
any_inserted name (x ∷ xs) k = at_order (order k x) (λ e. exact_bytes k.items x.items e) (any_inserted name xs k) where
  at_order : (o : Ordering) → (o ≡ Equal → k.items ≡ x.items) → list_any (is_named name) (insert_key order xs k) ≡ is_named name k || list_any (is_named name) xs
      → list_any (is_named name) (match_ordering o (k ∷ x ∷ xs) (x ∷ xs) (x ∷ insert_key order xs k)) ≡ is_named name k || (is_named name x || list_any (is_named name) xs)
  at_order Less same rec = refl
  at_order Equal same rec =
      let e : is_named name k ≡ is_named name x = ap (λ (items : List ℕ). is_eq (slice_cmp nat_cmp name items)) (same refl) in
      twice (is_named name x) (list_any (is_named name) xs) ∙ ap (λ (b : Bool). b || (is_named name x || list_any (is_named name) xs)) (sym e)
  at_order Greater same rec = ap (λ (b : Bool). is_named name x || b) rec ∙ swapped (is_named name x) (is_named name k) (list_any (is_named name) xs)

any_more : (f : KeyedImport → Bool) (xs : List KeyedImport) (x : KeyedImport) → list_any f (xs ++ x ∷ []) ≡ f x || list_any f xs
any_more f [] x = refl
any_more f (y ∷ ys) x = ap (λ (b : Bool). f y || b) (any_more f ys x) ∙ swapped (f y) (f x) (list_any f ys)

-- with a name and an import more the keys are the names still
pub AreNames-more : (keys : List (Vec ℕ)) (imports : List KeyedImport) (k : Vec ℕ) (i : KeyedImport) → AreNames keys imports → k.items ≡ i.definition.name → AreNames (insert_key order keys k) (imports ++ i ∷ [])
AreNames-more keys imports k i h e name =
    any_inserted name keys k
    ∙ ap (λ (b : Bool). b || list_any (is_named name) keys) (is_eq-slice_cmp name k.items ∙ ap (bytes_eq name) e)
    ∙ ap (λ (b : Bool). bytes_eq name i.definition.name || b) (h name)
    ∙ sym (any_more (λ j. bytes_eq name j.definition.name) imports i)
