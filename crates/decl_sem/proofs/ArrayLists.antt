-- The rows of arrays: of their index types, and of one array after another.
use Rattle.std.specs.Prelude.{◌≡◌, ℕ, zero, suc, ◌+◌, ◌<◌, ◌≤◌, true, false, List, [], ◌∷◌, ◌++◌, length, map, drop, reverse}
use Rattle.std.proofs.Common.{refl, sym, ap, ◌∙◌, subst, arith, get_or, Ok, Err, Result}
use Rattle.std.proofs.lemmas.List.{append_assoc, append-nil, length-append, length-reverse, reverse-append}
use Rattle.std.specs.Result.{IsErr}
use Rattle.std.specs.declared.alloc.Global.{Global}
use Rattle.std.specs.declared.boxed.Box.{Box}
use Rattle.std.specs.declared.vec.Vec.{Vec}
use Rattle.m2_base.proofs.EachLaws.{each_append}
use Rattle.m2_base.proofs.Seen.{array_seen}
use Rattle.m2_base.specs.Lists.{Each}
use Rattle.m2_base.specs.Rows.{array_kind}
use Rattle.m2_base.specs.States.{Frame, State}
use Rattle.m2_base.specs.Statics.Arrays.{array_rows, array_size, checked_index}
use Rattle.m2_base.specs.Statics.Cells.{fitting}
use Rattle.m2_base.specs.Statics.Contexts.{Context}
use Rattle.m2_base.specs.Statics.Makes.{Makes, make_then, makes, makes_row, only_gives, with_rows}
use Rattle.m2_base.specs.Statics.ReadTrees.{AreReadTypes, IsReadType}
use Rattle.m2_base.specs.Statics.Shapes.{Shape, array_shapes, form_shapes, nameless, type_shapes, types_shapes}
use Rattle.m2_base.specs.Statics.TypeRows.{form_rows, index_rows, type_rows}
use Rattle.m2_base.specs.Trees.{TypeExpr, TypeExprs, array_type, more_types, type_at, type_exprs}
use Rattle.m2_base.specs.Views.{type_form_view, type_view}
use Rattle.m2_base.specs.declared.memory.Memory.{Memory}
use Rattle.m2_base.specs.declared.replies.Ask.{Ask}
use Rattle.m2_base.specs.declared.replies.Ask.TheVariants.{Known, DontKnowYet}
use Rattle.m2_base.specs.declared.replies.Head.{Head}
use Rattle.m2_base.specs.declared.rows.Place.{Place}
use Rattle.m2_base.specs.declared.rows.RowMeaning.TheVariants.{Array}
use Rattle.m2_base.specs.declared.sites.Site.{Site}
use Rattle.m2_base.specs.declared.trees.types as code
use Rattle.m2_base.specs.declared.trees.types.TypeForm.TheVariants.{Array as ArrayOf}
use Rattle.type_rules.specs.Sites.{context_of}
use Rattle.decl_sem.specs.ArrayRows.{AreIndexes, array_row, arrays_at, index_row, listed}
use Rattle.decl_sem.specs.Making.{next_ordinal}
use Rattle.decl_sem.specs.Pieces.{Declares, IsBehind, IsMaking}
use Rattle.decl_sem.specs.declared.making.Made.{Made}
use Rattle.decl_sem.proofs.OneRows.{behind_more}
use Rattle.decl_sem.proofs.Parameters.{make_then_assoc}
use Rattle.decl_sem.proofs.Pieces.{GoesOn, failed, goes_as, goes_end, goes_failed, goes_start, goes_step, goes_waiting, making_front, making_on, next_on, not_a_type, reshaped, then_after, waiting}
use Rattle.decl_sem.proofs.NoTypeNames.{all_names_none}
use Rattle.decl_sem.proofs.TypeForms.{at_seen, seen, type_no_types, unmade}
use Rattle.decl_sem.proofs.TypeSizes.{size_type, size_types}
use Rattle.decl_sem.proofs.VariableLists.{next_left, none_left, then_same}

-- ** Lists

each-split : {A : Type 0} (P : A → Type 0) (xs : List A) (y : A) → Each P (xs ++ y ∷ []) → Each P xs × P y
each-split P [] y h = (tt, h.0)
each-split P (x ∷ xs) y h = let rest = each-split P xs y h.1 in ((h.0, rest.0), rest.1)

-- after a piece the types still stand before the next row
module _ {T : Type 0} {a b : State} {x y : Made} {s : Site} {ss : List Shape} {P : Frame → ℕ → T → Type 0} {g : Context → Makes T} {v : T} (p : Declares a b x y s (Ok (Known v)) ss P g) where
  pub still_behind : {t : Place} → IsBehind a.frame (next_ordinal x) t → IsBehind b.frame (next_ordinal y) t
  still_behind {t} h =
      subst (λ (f : Frame). IsBehind f (next_ordinal y) t) (sym p.works.keeps.frame)
      (behind_more (let n = next_on p.first p.grown in omega arith) h)

  pub all_behind : (ts : List Place) → Each (IsBehind a.frame (next_ordinal x)) ts → Each (IsBehind b.frame (next_ordinal y)) ts
  all_behind [] h = tt
  all_behind (t ∷ ts) h = (still_behind h.0, all_behind ts h.1)

-- ** One array after another

-- the arrays of the index types that are left are still to be made
pub record ArraysGo (a b : State) (x y : Made) (s : Site) (at : ℕ) (all left : List Place) (of array : Place) : Type 0 where
  pub on : GoesOn a b x y s (arrays_at at (reverse all)) (arrays_at at (reverse left)) IsBehind (λ c. array_rows c at (reverse all) of) (λ c. array_rows c at (reverse left) array)
  pub indexes : Each (IsBehind b.frame (next_ordinal y)) left
  pub elem : IsBehind b.frame (next_ordinal y) array

pub arrays_start : {a : State} {x : Made} {s : Site} (at : ℕ) (all left : List Place) (of : Place) → left ≡ all → IsMaking a.frame s x (arrays_at at (reverse all))
    → Each (IsBehind a.frame (next_ordinal x)) all → IsBehind a.frame (next_ordinal x) of → ArraysGo a a x x s at all left of of
arrays_start {a} {x} {s} at all left of e making indexes elem =
    subst (λ (is : List Place). ArraysGo a a x x s at all is of of) (sym e) (record { on = goes_start making; indexes = indexes; elem = elem })

module _ {a b : State} {x y : Made} {s : Site} (at : ℕ) (all left before : List Place) (i of array : Place) (last : left ≡ before ++ i ∷ []) (so : ArraysGo a b x y s at all left of array) where
  back : reverse left ≡ i ∷ reverse before
  back = ap reverse last ∙ reverse-append before (i ∷ [])

  -- taken apart at the last index type
  arrays_next : GoesOn a b x y s (arrays_at at (reverse all)) ((nameless array_kind at ∷ []) ++ arrays_at at (reverse before)) IsBehind (λ c. array_rows c at (reverse all) of)
      (λ c. make_then c (array_row c at i array) (λ d t. array_rows d at (reverse before) t))
  arrays_next =
      goes_as (nameless array_kind at ∷ arrays_at at (reverse before)) (λ c. make_then c (array_row c at i array) (λ d t. array_rows d at (reverse before) t)) (ap (arrays_at at) back)
      (λ hand in_hand told same. let c = context_of b.frame hand s in
      make_then_assoc c (makes_row c at (Array i array (array_size c i array))) (λ d t. only_gives (fitting d at (array_size c i array) t)) (λ d t. array_rows d at (reverse before) t)
      ∙ ap (λ (is : List Place). array_rows c at is array) (sym back))
      so.on

  split : Each (IsBehind b.frame (next_ordinal y)) before × IsBehind b.frame (next_ordinal y) i
  split = each-split (IsBehind b.frame (next_ordinal y)) before i (subst (λ (is : List Place). Each (IsBehind b.frame (next_ordinal y)) is) last so.indexes)

  pub array_making : IsMaking b.frame s y (nameless array_kind at ∷ [])
  array_making = making_front (nameless array_kind at ∷ []) (arrays_at at (reverse before)) arrays_next.making

  pub index_behind : IsBehind b.frame (next_ordinal y) i
  index_behind = split.1

  pub one_more_array : {e : State} {z : Made} {t : Place} → Declares b e y z s (Ok (Known t)) (nameless array_kind at ∷ []) IsBehind (λ c. array_row c at i array) → ArraysGo a e x z s at all before of t
  one_more_array {e} {z} {t} p =
      record {
        on = goes_step (λ c. array_row c at i array) (λ t c. array_rows c at (reverse before) t) (not_a_type (nameless array_kind at) refl) arrays_next p;
        indexes = all_behind p before split.0;
        elem = subst (λ (f : Frame). IsBehind f (next_ordinal z) t) (sym p.works.keeps.frame) p.there;
      }

  pub arrays_failed : {e : State} {z : Made} {m : Memory} (n : Memory) → Declares b e y z s (Err m) (nameless array_kind at ∷ []) IsBehind (λ c. array_row c at i array)
      → Declares a e x z s (Err n) (arrays_at at (reverse all)) IsBehind (λ c. array_rows c at (reverse all) of)
  arrays_failed n p = goes_failed arrays_next p n

  pub arrays_waiting : {e : State} {z : Made} {head : Head} → Declares b e y z s (Ok (DontKnowYet head)) (nameless array_kind at ∷ []) IsBehind (λ c. array_row c at i array)
      → Declares a e x z s (Ok (DontKnowYet head)) (arrays_at at (reverse all)) IsBehind (λ c. array_rows c at (reverse all) of)
  arrays_waiting p = goes_waiting arrays_next p

pub all_arrays : {a b : State} {x y : Made} {s : Site} (at : ℕ) (all left : List Place) (of array : Place) → length left ≡ 0 → ArraysGo a b x y s at all left of array
    → Declares a b x y s (Ok (Known array)) (arrays_at at (reverse all)) IsBehind (λ c. array_rows c at (reverse all) of)
all_arrays at all [] of array none so = goes_end array so.on so.elem
all_arrays at all (i ∷ left) of array none so = absurd (omega (arith, none))

-- ** Index types

-- the trees of index types
abbrev pub trees : List code.TypeExpr.TypeExpr → TypeExprs
trees ts = type_exprs (map type_view ts)

-- the index types from here on, behind those so far
abbrev pub rest_rows : Context → (before : List Place) → TypeExprs → Makes (List Place)
rest_rows c before ts = make_then c (index_rows c ts) (λ d more. makes (before ++ more))

-- nothing more
then_makes : {A : Type 0} (c : Context) (m : Makes A) → make_then c m (λ d v. makes v) ≡ m
then_makes c m =
    ap (λ rows. record { value = m.value; rows = rows; diags = m.diags ++ []; answers = m.answers ++ [] }) (append-nil m.rows)
    ∙ ap (λ diags. record { value = m.value; rows = m.rows; diags = diags; answers = m.answers ++ [] }) (append-nil m.diags)
    ∙ ap (λ answers. record { value = m.value; rows = m.rows; diags = m.diags; answers = answers }) (append-nil m.answers)

-- the next index type, and then the rest
rest_next : (c : Context) (before : List Place) (t : TypeExpr) (ts : TypeExprs) → make_then c (index_row c t) (λ e i. rest_rows e (before ++ i ∷ []) ts) ≡ rest_rows c before (more_types t ts)
rest_next c before t ts =
    let m = type_rows c t in
    let d = with_rows c m.rows in
    let n = only_gives (checked_index d (type_at t) m.value) in
    let e = with_rows d n.rows in
    let r = index_rows e ts in
    make_then_assoc c m (λ d u. only_gives (checked_index d (type_at t) u)) (λ e i. rest_rows e (before ++ i ∷ []) ts)
    ∙ then_same c m (λ d u. make_then d (only_gives (checked_index d (type_at t) u)) (λ e i. rest_rows e (before ++ i ∷ []) ts))
    (λ d u. make_then d (make_then d (only_gives (checked_index d (type_at t) u)) (λ e i. make_then e (index_rows e ts) (λ f is. makes (i ∷ is)))) (λ f is. makes (before ++ is)))
    (then_same d n (λ e i. rest_rows e (before ++ i ∷ []) ts) (λ e i. make_then e (make_then e (index_rows e ts) (λ f is. makes (i ∷ is))) (λ f is. makes (before ++ is)))
    (then_same e r (λ f is. makes ((before ++ n.value ∷ []) ++ is)) (λ f is. make_then f (makes (n.value ∷ is)) (λ g js. makes (before ++ js)))
    (ap makes (append_assoc before (n.value ∷ []) r.value))
    ∙ sym (make_then_assoc e r (λ f is. makes (n.value ∷ is)) (λ f is. makes (before ++ is))))
    ∙ sym (make_then_assoc d n (λ e i. make_then e (index_rows e ts) (λ f is. makes (i ∷ is))) (λ f is. makes (before ++ is))))
    ∙ sym (make_then_assoc c m (λ d u. make_then d (only_gives (checked_index d (type_at t) u)) (λ e i. make_then e (index_rows e ts) (λ f is. makes (i ∷ is)))) (λ f is. makes (before ++ is)))

-- the first k index types are made
pub record HasIndexes (a b : State) (x y : Made) (s : Site) (types : List code.TypeExpr.TypeExpr) (k : ℕ) (indexes : List Place) : Type 0 where
  pub on : GoesOn a b x y s (types_shapes (trees types)) (types_shapes (trees (drop k types))) (AreIndexes (length types)) (λ c. index_rows c (trees types)) (λ c. rest_rows c indexes (trees (drop k types)))
  pub count : length indexes ≡ k
  pub behind : Each (IsBehind b.frame (next_ordinal y)) indexes

pub no_indexes : {a : State} {x : Made} {s : Site} (types : List code.TypeExpr.TypeExpr) (indexes : List Place) → indexes ≡ [] → IsMaking a.frame s x (types_shapes (trees types)) → HasIndexes a a x x s types 0 indexes
no_indexes {a} {x} {s} types indexes e making =
    subst (λ (is : List Place). HasIndexes a a x x s types 0 is) (sym e)
    (record {
      on = goes_as (types_shapes (trees types)) (λ c. rest_rows c [] (trees types)) refl
          (λ hand in_hand told same. let c = context_of a.frame hand s in then_makes c (index_rows c (trees types))) (goes_start making);
      count = refl;
      behind = tt;
    })

read_at : (names : List (List ℕ)) (xs : List code.TypeExpr.TypeExpr) (k : ℕ) (d : code.TypeExpr.TypeExpr) → k < length xs → AreReadTypes names (trees xs) → IsReadType names (type_view (get_or xs k d))
read_at names [] k d h all = absurd (omega (arith, h))
read_at names (x ∷ xs) zero d h all = all.0
read_at names (x ∷ xs) (suc k) d h all = read_at names xs k d (omega (arith, h)) all.1

pub read_index : (names : List (List ℕ)) (xs : List code.TypeExpr.TypeExpr) (k : ℕ) (t : code.TypeExpr.TypeExpr) → k < length xs → t ≡ get_or xs k t → AreReadTypes names (trees xs) → IsReadType names (type_view t)
read_index names xs k t h e all = subst (λ (u : code.TypeExpr.TypeExpr). IsReadType names (type_view u)) (sym e) (read_at names xs k t h all)

size_at : (xs : List code.TypeExpr.TypeExpr) (k : ℕ) (d : code.TypeExpr.TypeExpr) → k < length xs → size_type (type_view (get_or xs k d)) ≤ size_types (trees xs)
size_at [] k d h = absurd (omega (arith, h))
size_at (x ∷ xs) zero d h = omega arith
size_at (x ∷ xs) (suc k) d h = let rest = size_at xs k d (omega (arith, h)) in omega (arith, rest)

-- an index type is no larger than all of them
pub index_small : (xs : List code.TypeExpr.TypeExpr) (k : ℕ) (t : code.TypeExpr.TypeExpr) → k < length xs → t ≡ get_or xs k t → size_type (type_view t) ≤ size_types (trees xs)
index_small xs k t h e = subst (λ (u : code.TypeExpr.TypeExpr). size_type (type_view u) ≤ size_types (trees xs)) (sym e) (size_at xs k t h)

module _ {a b : State} {x y : Made} {s : Site} (types : List code.TypeExpr.TypeExpr) (k : ℕ) (t : code.TypeExpr.TypeExpr) (indexes : List Place) (h : k < length types) (same : t ≡ get_or types k t) (so : HasIndexes a b x y s types k indexes) where
  abbrev next : TypeExpr
  next = type_view t

  -- taken apart at the next
  indexes_at : GoesOn a b x y s (types_shapes (trees types)) (type_shapes next ++ types_shapes (trees (drop (k + 1) types))) (AreIndexes (length types)) (λ c. index_rows c (trees types))
      (λ c. make_then c (index_row c next) (λ e i. rest_rows e (indexes ++ i ∷ []) (trees (drop (k + 1) types))))
  indexes_at =
      let e = next_left types k t h ∙ ap (λ (u : code.TypeExpr.TypeExpr). u ∷ drop (k + 1) types) (sym same) in
      goes_as (type_shapes next ++ types_shapes (trees (drop (k + 1) types))) (λ c. make_then c (index_row c next) (λ e i. rest_rows e (indexes ++ i ∷ []) (trees (drop (k + 1) types))))
      (ap (λ (ts : List code.TypeExpr.TypeExpr). types_shapes (trees ts)) e)
      (λ hand in_hand told is. let c = context_of b.frame hand s in
      rest_next c indexes next (trees (drop (k + 1) types)) ∙ ap (λ (ts : List code.TypeExpr.TypeExpr). rest_rows c indexes (trees ts)) (sym e))
      so.on

  pub index_making : IsMaking b.frame s y (type_shapes next)
  index_making = making_front (type_shapes next) (types_shapes (trees (drop (k + 1) types))) indexes_at.making

  pub one_more_index : {e : State} {z : Made} {i : Place} (more : List Place) → more ≡ indexes ++ i ∷ [] → Declares b e y z s (Ok (Known i)) (type_shapes next) IsBehind (λ c. index_row c next) → HasIndexes a e x z s types (k + 1) more
  one_more_index {e} {z} {i} more is p =
      subst (λ (js : List Place). HasIndexes a e x z s types (k + 1) js) (sym is)
      (record {
        on = goes_step (λ c. index_row c next) (λ i c. rest_rows c (indexes ++ i ∷ []) (trees (drop (k + 1) types))) (type_no_types next) indexes_at p;
        count = length-append indexes (i ∷ []) ∙ ap (λ (n : ℕ). n + 1) so.count;
        behind = each_append (IsBehind e.frame (next_ordinal z)) indexes (i ∷ []) (all_behind p indexes so.behind) (subst (λ (f : Frame). IsBehind f (next_ordinal z) i) (sym p.works.keeps.frame) p.there, tt);
      })

  pub indexes_failed : {e : State} {z : Made} {m : Memory} (n : Memory) → Declares b e y z s (Err m) (type_shapes next) IsBehind (λ c. index_row c next)
      → Declares a e x z s (Err n) (types_shapes (trees types)) (AreIndexes (length types)) (λ c. index_rows c (trees types))
  indexes_failed n p = goes_failed indexes_at p n

  pub indexes_waiting : {e : State} {z : Made} {head : Head} → Declares b e y z s (Ok (DontKnowYet head)) (type_shapes next) IsBehind (λ c. index_row c next)
      → Declares a e x z s (Ok (DontKnowYet head)) (types_shapes (trees types)) (AreIndexes (length types)) (λ c. index_rows c (trees types))
  indexes_waiting p = goes_waiting indexes_at p

  -- no memory for one more in the list
  pub indexes_full : {e : State} {z : Made} {i : Place} (answer : Result (Ask (Vec Place Global)) Memory) → IsErr answer → Declares b e y z s (Ok (Known i)) (type_shapes next) IsBehind (λ c. index_row c next)
      → Declares a e x z s (listed answer) (types_shapes (trees types)) (AreIndexes (length types)) (λ c. index_rows c (trees types))
  indexes_full (Ok v) is p = absurd (let h : false ≡ true = is in cc)
  indexes_full {e} {z} (Err n) is p =
      (goes_step (λ c. index_row c next) (λ i c. rest_rows c (indexes ++ i ∷ []) (trees (drop (k + 1) types))) (type_no_types next) indexes_at p).on e z (Err n) (unmade e z s n _ _ _)

-- all are made
pub all_indexes : {a b : State} {x y : Made} {s : Site} (types : List code.TypeExpr.TypeExpr) (k : ℕ) (indexes : List Place) → k ≡ length types → HasIndexes a b x y s types k indexes
    → Declares a b x y s (Ok (Known indexes)) (types_shapes (trees types)) (AreIndexes (length types)) (λ c. index_rows c (trees types))
all_indexes {b = b} {s = s} types k indexes all so =
    let e : drop k types ≡ [] = ap (λ (n : ℕ). drop n types) all ∙ none_left types in
    goes_end indexes
    (goes_as [] (λ c. makes indexes) (ap (λ (ts : List code.TypeExpr.TypeExpr). types_shapes (trees ts)) e)
    (λ hand in_hand told same. let c = context_of b.frame hand s in ap makes (sym (append-nil indexes)) ∙ ap (λ (ts : List code.TypeExpr.TypeExpr). rest_rows c indexes (trees ts)) (sym e)) so.on)
    (record { all = so.count ∙ all; behind = so.behind })

-- the list, as it is answered
pub first_listed : {a b : State} {x y : Made} {s : Site} {ss : List Shape} {P : Frame → ℕ → List Place → Type 0} {g : Context → Makes (List Place)} {result : Result (Ask (Vec Place Global)) Memory} {asked : Ask (Vec Place Global)} {v : Vec Place Global}
    → result ≡ Ok asked → asked ≡ Known v → Declares a b x y s (listed result) ss P g → Declares a b x y s (Ok (Known v.items)) ss P g
first_listed {a} {b} {x} {y} {s} {ss} {P} {g} {result} e f p =
    subst (λ (r : Result (Ask (Vec Place Global)) Memory). Declares a b x y s (listed r) ss P g) (e ∙ ap (λ (k : Ask (Vec Place Global)). Ok k) f) p

-- ** One index type

and_nothing : {f : Frame} {s : Site} {x : Made} (ss : List Shape) → IsMaking f s x ss → IsMaking f s x (ss ++ [])
and_nothing {f} {s} {x} ss making = subst (λ (shapes : List Shape). IsMaking f s x shapes) (sym (append-nil ss)) making

module _ {a b : State} {x y : Made} {s : Site} {v : Place} (t : code.TypeExpr.TypeExpr) (making : IsMaking a.frame s x (type_shapes (type_view t)))
    (p : Declares a b x y s (Ok (Known v)) (type_shapes (type_view t)) IsBehind (λ c. type_rows c (type_view t))) where
  pub checked_making : IsMaking b.frame s y []
  checked_making = making_on (type_no_types (type_view t)) (and_nothing (type_shapes (type_view t)) making) p

  pub checked_behind : IsBehind b.frame (next_ordinal y) v
  checked_behind = subst (λ (f : Frame). IsBehind f (next_ordinal y) v) (sym p.works.keeps.frame) p.there

  -- the type is checked after its rows are made
  pub index_made : {d : State} {z : Made} (answer : Result (Ask Place) Memory) → Declares b d y z s answer [] IsBehind (λ c. only_gives (checked_index c t.at v))
      → Declares a d x z s answer (type_shapes (type_view t)) IsBehind (λ c. index_row c (type_view t))
  index_made {d} {z} answer q =
      reshaped answer (type_shapes (type_view t)) (append-nil (type_shapes (type_view t)))
      (then_after (λ c. type_rows c (type_view t)) (λ u c. only_gives (checked_index c (type_at (type_view t)) u)) answer (type_no_types (type_view t)) (and_nothing (type_shapes (type_view t)) making) p
      (subst (λ (at : ℕ). Declares b d y z s answer [] IsBehind (λ c. only_gives (checked_index c at v))) (sym (at_seen t)) q))

-- ** The whole of an array

arrays_are : (at : ℕ) (ts : List TypeExpr) (indexes : List Place) → length indexes ≡ length ts → array_shapes at (type_exprs ts) ≡ arrays_at at indexes
arrays_are at [] [] e = refl
arrays_are at [] (i ∷ indexes) e = absurd (omega (arith, e))
arrays_are at (t ∷ ts) [] e = absurd (omega (arith, e))
arrays_are at (t ∷ ts) (i ∷ indexes) e = ap (λ rest. nameless array_kind at ∷ rest) (arrays_are at ts indexes (omega (arith, e)))

length-trees : (types : List code.TypeExpr.TypeExpr) → length (map type_view types) ≡ length types
length-trees [] = refl
length-trees (t ∷ types) = ap suc (length-trees types)

module _ (at : ℕ) (types : List code.TypeExpr.TypeExpr) (of : code.TypeExpr.TypeExpr) where
  parts : (types_shapes (trees types) ++ type_shapes (type_view of)) ++ array_shapes at (trees types) ≡ types_shapes (trees types) ++ (type_shapes (type_view of) ++ array_shapes at (trees types))
  parts = append_assoc (types_shapes (trees types)) (type_shapes (type_view of)) (array_shapes at (trees types))

  in_parts : {f : Frame} {s : Site} {x : Made} → IsMaking f s x (form_shapes at (array_type (trees types) (type_view of))) → IsMaking f s x (types_shapes (trees types) ++ (type_shapes (type_view of) ++ array_shapes at (trees types)))
  in_parts {f} {s} {x} making = subst (λ (shapes : List Shape). IsMaking f s x shapes) parts making

  pub indexes_making : {f : Frame} {s : Site} {x : Made} → IsMaking f s x (form_shapes at (array_type (trees types) (type_view of))) → IsMaking f s x (types_shapes (trees types))
  indexes_making making = making_front (types_shapes (trees types)) (type_shapes (type_view of) ++ array_shapes at (trees types)) (in_parts making)

  -- one for each index type
  one_each : (indexes : List Place) → length indexes ≡ length types → array_shapes at (trees types) ≡ arrays_at at (reverse indexes)
  one_each indexes all = arrays_are at (map type_view types) (reverse indexes) (length-reverse indexes ∙ all ∙ sym (length-trees types))

  module _ {a b : State} {x y : Made} {s : Site} {indexes : List Place} (making : IsMaking a.frame s x (form_shapes at (array_type (trees types) (type_view of))))
      (p : Declares a b x y s (Ok (Known indexes)) (types_shapes (trees types)) (AreIndexes (length types)) (λ c. index_rows c (trees types))) where
    behind_indexes : IsMaking b.frame s y (type_shapes (type_view of) ++ array_shapes at (trees types))
    behind_indexes = making_on (all_names_none (trees types)) (in_parts making) p

    pub elem_making : IsMaking b.frame s y (type_shapes (type_view of))
    elem_making = making_front (type_shapes (type_view of)) (array_shapes at (trees types)) behind_indexes

    module _ {d : State} {z : Made} {t : Place} (q : Declares b d y z s (Ok (Known t)) (type_shapes (type_view of)) IsBehind (λ c. type_rows c (type_view of))) where
      pub arrays_making : IsMaking d.frame s z (arrays_at at (reverse indexes))
      arrays_making = subst (λ (shapes : List Shape). IsMaking d.frame s z shapes) (one_each indexes p.there.all) (making_on (type_no_types (type_view of)) behind_indexes q)

      pub indexes_behind : Each (IsBehind d.frame (next_ordinal z)) indexes
      indexes_behind = all_behind q indexes (subst (λ (f : Frame). Each (IsBehind f (next_ordinal y)) indexes) (sym p.works.keeps.frame) p.there.behind)

      pub elem_behind : IsBehind d.frame (next_ordinal z) t
      elem_behind = subst (λ (f : Frame). IsBehind f (next_ordinal z) t) (sym q.works.keeps.frame) q.there

      pub whole_array : {e : State} {w : Made} (answer : Result (Ask Place) Memory) → Declares d e z w s answer (arrays_at at (reverse indexes)) IsBehind (λ c. array_rows c at (reverse indexes) t)
          → Declares a e x w s answer (form_shapes at (array_type (trees types) (type_view of))) IsBehind (λ c. form_rows c at (array_type (trees types) (type_view of)))
      whole_array answer r =
          reshaped answer (form_shapes at (array_type (trees types) (type_view of))) (sym parts)
          (then_after (λ c. index_rows c (trees types)) (λ is c. make_then c (type_rows c (type_view of)) (λ e t. array_rows e at (reverse is) t)) answer (all_names_none (trees types)) (in_parts making) p
          (then_after (λ c. type_rows c (type_view of)) (λ t c. array_rows c at (reverse indexes) t) answer (type_no_types (type_view of)) behind_indexes q
          (reshaped answer (array_shapes at (trees types)) (sym (one_each indexes p.there.all)) r)))

    -- want of memory for the elements
    pub elem_failed : {d : State} {z : Made} {m : Memory} (n : Memory) → Declares b d y z s (Err m) (type_shapes (type_view of)) IsBehind (λ c. type_rows c (type_view of))
        → Declares a d x z s (Err n) (form_shapes at (array_type (trees types) (type_view of))) IsBehind (λ c. form_rows c at (array_type (trees types) (type_view of)))
    elem_failed n q =
        reshaped (Err n) (form_shapes at (array_type (trees types) (type_view of))) (sym parts)
        (then_after (λ c. index_rows c (trees types)) (λ is c. make_then c (type_rows c (type_view of)) (λ e t. array_rows e at (reverse is) t)) (Err n) (all_names_none (trees types)) (in_parts making) p (failed q n))

    -- and what isn't known yet of them
    pub elem_waiting : {d : State} {z : Made} {head : Head} → Declares b d y z s (Ok (DontKnowYet head)) (type_shapes (type_view of)) IsBehind (λ c. type_rows c (type_view of))
        → Declares a d x z s (Ok (DontKnowYet head)) (form_shapes at (array_type (trees types) (type_view of))) IsBehind (λ c. form_rows c at (array_type (trees types) (type_view of)))
    elem_waiting {head = head} q =
        reshaped (Ok (DontKnowYet head)) (form_shapes at (array_type (trees types) (type_view of))) (sym parts)
        (then_after (λ c. index_rows c (trees types)) (λ is c. make_then c (type_rows c (type_view of)) (λ e t. array_rows e at (reverse is) t)) (Ok (DontKnowYet head)) (all_names_none (trees types)) (in_parts making) p (waiting q))

-- ** Answers that aren't known yet

pub first_waiting : {T : Type 0} {a b : State} {x y : Made} {s : Site} {ss : List Shape} {P : Frame → ℕ → T → Type 0} {g : Context → Makes T} {result : Result (Ask T) Memory} {asked : Ask T} {head : Head} → result ≡ Ok asked → asked ≡ DontKnowYet head
    → Declares a b x y s result ss P g → Declares a b x y s (Ok (DontKnowYet head)) ss P g
first_waiting {T} {a = a} {b = b} {x = x} {y = y} {s = s} {ss = ss} {P = P} {g = g} e f p =
    subst (λ (r : Result (Ask T) Memory). Declares a b x y s r ss P g) (e ∙ ap (λ (k : Ask T). Ok k) f) p

pub listed_waiting : {a b : State} {x y : Made} {s : Site} {ss : List Shape} {P : Frame → ℕ → List Place → Type 0} {g : Context → Makes (List Place)} {result : Result (Ask (Vec Place Global)) Memory} {asked : Ask (Vec Place Global)} {head : Head}
    → result ≡ Ok asked → asked ≡ DontKnowYet head → Declares a b x y s (listed result) ss P g → Declares a b x y s (Ok (DontKnowYet head)) ss P g
listed_waiting {a} {b} {x} {y} {s} {ss} {P} {g} e f p =
    subst (λ (r : Result (Ask (Vec Place Global)) Memory). Declares a b x y s (listed r) ss P g) (e ∙ ap (λ (k : Ask (Vec Place Global)). Ok k) f) p

-- ** The form

pub is_array : (t : code.TypeExpr.TypeExpr) (index : Vec code.TypeExpr.TypeExpr Global) (of : Box code.TypeExpr.TypeExpr Global) (types : List code.TypeExpr.TypeExpr) (u : code.TypeExpr.TypeExpr) → types ≡ index.items → u ≡ of.value → t.form ≡ ArrayOf index of
    → type_form_view t.form ≡ array_type (trees types) (type_view u)
is_array t index of types u all same e =
    ap type_form_view e ∙ array_seen index of
    ∙ ap (λ (ts : List code.TypeExpr.TypeExpr). array_type (trees ts) (type_view of.value)) (sym all)
    ∙ ap (λ (v : code.TypeExpr.TypeExpr). array_type (trees types) (type_view v)) (sym same)

-- an array is larger than its parts
pub size_of_array : (t : code.TypeExpr.TypeExpr) (types : List code.TypeExpr.TypeExpr) (u : code.TypeExpr.TypeExpr) → type_form_view t.form ≡ array_type (trees types) (type_view u)
    → size_type (type_view t) ≡ suc (size_types (trees types) + size_type (type_view u))
size_of_array t types u e = ap size_type (seen t (array_type (trees types) (type_view u)) e)
