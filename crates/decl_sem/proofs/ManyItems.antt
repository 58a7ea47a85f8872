-- The layout of items, one item after another.
use Rattle.std.proofs.Common.{◌≡◌, ℕ, suc, map, drop, get_or, Result, Ok, Err, ◌+◌, ◌<◌, ◌≤◌, List, [], ◌∷◌, ◌++◌, length, refl, sym, ap, subst, ◌∙◌, arith, append_assoc}
use Rattle.std.proofs.lemmas.List.{append-nil}
use Rattle.std.specs.Prelude.{flat_map, IfOk}
use Rattle.std.proofs.Math.Seq.{drop-cons}
use Rattle.m2_base.specs.Statics.Items.{Item, import_items}
use Rattle.m2_base.specs.Views.{import_view}
use Rattle.m2_base.specs.declared.memory.Memory.{Memory}
use Rattle.m2_base.specs.declared.trees.declarations.Import.{Import}
use Rattle.m2_base.specs.Lists.{Each}
use Rattle.m2_base.proofs.EachLaws.{each_append, each_then}
use Rattle.m2_base.specs.Statics.Layouts.{Layout, names_of_item, names_from, firsts_from}
use Rattle.m2_base.specs.Statics.Shapes.{Shape, item_shapes}
use Rattle.decl_sem.specs.Progress.{Progress, at_start, with_item, with_items}
use Rattle.decl_sem.proofs.FirstOrdinals.{of_item}

-- ** Items after items

pub with_items-append : (xs ys : List Item) (p : Progress) → with_items p (xs ++ ys) ≡ with_items (with_items p xs) ys
with_items-append [] ys p = refl
with_items-append (x ∷ xs) ys p = with_items-append xs ys (with_item p (item_shapes x))

length-join : {A : Type 0} (xs ys : List A) → length (xs ++ ys) ≡ length xs + length ys
length-join [] ys = omega arith
length-join (x ∷ xs) ys = let e = length-join xs ys in omega arith

-- ** What is there after all items

pub all_names : (xs : List Item) (p : Progress) → (with_items p xs).names ≡ p.names ++ names_from (length p.firsts) p.rows xs
all_names [] p = sym (append-nil p.names)
all_names (x ∷ xs) p =
    all_names xs (with_item p (item_shapes x))
    ∙ ap (λ i. (p.names ++ names_of_item (length p.firsts) p.rows (item_shapes x)) ++ names_from i (p.rows + length (item_shapes x)) xs) (length-join p.firsts (p.rows ∷ []))
    ∙ append_assoc p.names (names_of_item (length p.firsts) p.rows (item_shapes x)) (names_from (length p.firsts + 1) (p.rows + length (item_shapes x)) xs)

pub all_firsts : (xs : List Item) (p : Progress) → (with_items p xs).firsts ++ (with_items p xs).rows ∷ [] ≡ p.firsts ++ firsts_from p.rows xs
all_firsts [] p = refl
all_firsts (x ∷ xs) p = all_firsts xs (with_item p (item_shapes x)) ∙ append_assoc p.firsts (p.rows ∷ []) (firsts_from (p.rows + length (item_shapes x)) xs)

-- ** A loop over what gives items: what the rest adds is what all add

-- the items so far have this layout, and the rest is to come
pub record IsOnTheWay (before now : Progress) (all rest : List Item) : Type 0 where
  pub same : with_items now rest ≡ with_items before all

pub on_the_way : (before : Progress) (all : List Item) → IsOnTheWay before before all all
on_the_way before all = record { same = refl }

pub one_more_item : {before now after : Progress} {all rest : List Item} (x : Item) → after ≡ with_item now (item_shapes x) → IsOnTheWay before now all (x ∷ rest) → IsOnTheWay before after all rest
one_more_item {before} {now} {after} {all} {rest} x e w =
    subst (λ p. IsOnTheWay before p all rest) (sym e) (record { same = w.same })

pub more_items : {before now after : Progress} {all rest : List Item} (xs : List Item) → after ≡ with_items now xs → IsOnTheWay before now all (xs ++ rest) → IsOnTheWay before after all rest
more_items {before} {now} {after} {all} {rest} xs e w =
    subst (λ p. IsOnTheWay before p all rest) (sym e) (record { same = sym (with_items-append xs rest now) ∙ w.same })

pub arrived : {before now : Progress} {all : List Item} → IsOnTheWay before now all [] → now ≡ with_items before all
arrived w = w.same

-- ** The whole: a heading, imports and declarations

pub all_three : (heading imports declarations : List Item) (p q r : Progress)
    → p ≡ with_items at_start heading → q ≡ with_items p imports → r ≡ with_items q declarations → r ≡ with_items at_start ((heading ++ imports) ++ declarations)
all_three heading imports declarations p q r e f g =
    g ∙ ap (λ x. with_items x declarations) (f ∙ ap (λ x. with_items x imports) e ∙ sym (with_items-append heading imports at_start)) ∙ sym (with_items-append (heading ++ imports) declarations at_start)

pub whole_layout : (items : List Item) (r : Progress) (l : Layout) → r ≡ with_items at_start items → l.names ≡ r.names → l.firsts ≡ r.firsts ++ r.rows ∷ [] → l.brought ≡ []
    → l ≡ record { names = names_from 0 0 items; firsts = firsts_from 0 items; brought = [] }
whole_layout items r l e n f none =
    let names : l.names ≡ names_from 0 0 items = n ∙ ap (λ (x : Progress). x.names) e ∙ all_names items at_start in
    let firsts : l.firsts ≡ firsts_from 0 items = f ∙ ap (λ (x : Progress). x.firsts ++ x.rows ∷ []) e ∙ all_firsts items at_start in
    ap (λ x. record { names = x; firsts = l.firsts; brought = l.brought }) names ∙ ap (λ x. record { names = names_from 0 0 items; firsts = x; brought = l.brought }) firsts
    ∙ ap (λ x. record { names = names_from 0 0 items; firsts = firsts_from 0 items; brought = x }) none

pub finished_layout : (made : Result Layout Memory) (items : List Item) (r : Progress) → r ≡ with_items at_start items
    → IfOk made (λ l. l.names ≡ r.names) → IfOk made (λ l. l.firsts ≡ r.firsts ++ r.rows ∷ []) → IfOk made (λ l. l.brought ≡ [])
    → IfOk made (λ l. l ≡ record { names = names_from 0 0 items; firsts = firsts_from 0 items; brought = [] })
finished_layout (Ok l) items r e n f none = whole_layout items r l e n f none
finished_layout (Err m) items r e n f none = tt

-- ** Ordinals stand before the number of rows

-- each ordinal stands before the number of rows, and each first ordinal isn't above it
pub record IsCounted (p : Progress) : Type 0 where
  pub names : Each (λ n. n.ordinal < p.rows) p.names
  pub firsts : Each (λ o. o ≤ p.rows) p.firsts

one_counted : (p : Progress) (shapes : List Shape) → IsCounted p → IsCounted (with_item p shapes)
one_counted p shapes h =
    record {
      names = each_append (λ n. n.ordinal < p.rows + length shapes) p.names (names_of_item (length p.firsts) p.rows shapes)
          (each_then (λ n. n.ordinal < p.rows) (λ n. n.ordinal < p.rows + length shapes) p.names (λ n k. omega (arith, k)) h.names)
          (of_item (λ n. n.ordinal < p.rows + length shapes) (length p.firsts) p.rows shapes (λ name n kind at m k. k));
      firsts = each_append (λ o. o ≤ p.rows + length shapes) p.firsts (p.rows ∷ [])
          (each_then (λ o. o ≤ p.rows) (λ o. o ≤ p.rows + length shapes) p.firsts (λ o k. omega (arith, k)) h.firsts)
          (omega arith, tt);
    }

counted : (items : List Item) (p : Progress) → IsCounted p → IsCounted (with_items p items)
counted [] p h = h
counted (x ∷ items) p h = counted items (with_item p (item_shapes x)) (one_counted p (item_shapes x) h)

pub all_counted : (items : List Item) (r : Progress) → r ≡ with_items at_start items → IsCounted r
all_counted items r e = subst (λ (p : Progress). IsCounted p) (sym e) (counted items at_start (record { names = tt; firsts = tt }))

-- ** After one more import

pub after_import : (before now after : Progress) (all : List Item) (imports : List Import) (k : ℕ) (d : Import) → k < length imports
    → after ≡ with_items now (import_items (import_view (get_or imports k d)))
    → IsOnTheWay before now all (flat_map import_items (map import_view (drop k imports)))
    → IsOnTheWay before after all (flat_map import_items (map import_view (drop (k + 1) imports)))
after_import before now after all imports k d h e w =
    let next : suc k ≡ k + 1 = omega arith in
    subst (λ (j : ℕ). IsOnTheWay before after all (flat_map import_items (map import_view (drop j imports)))) next
    (more_items (import_items (import_view (get_or imports k d))) e
    (subst (λ (is : List Import). IsOnTheWay before now all (flat_map import_items (map import_view is))) (drop-cons imports k d h) w))

pub ruleset walking = (on_the_way, one_more_item, arrived)
