-- Imports come before what a block declares: where a type stands each name that the block imports has its row.
use Rattle.std.specs.Prelude.{◌≡◌, ℕ, suc, ◌+◌, ◌==◌, ◌<◌, ◌≤◌, ◌⊎◌, Bool, true, false, if◌then◌else◌, nat_lt, filter, flat_map, map, length, List, [], ◌∷◌, ◌++◌, slice_get, Option, Some, None}
use Rattle.std.proofs.Common.{ap, subst, sym, ◌∙◌, refl, inl, inr, arith}
use Rattle.std.proofs.lemmas.Bool.{eqb-true, le-ltb, lt-ltb, or_parts}
use Rattle.std.proofs.lemmas.List.{append-nil, append_assoc, length-append}
use Rattle.m2_base.specs.Lists.{Each, IsIn}
use Rattle.m2_base.specs.Rows.{alias_kind, module_kind}
use Rattle.m2_base.specs.declared.rows.Row.{Row}
use Rattle.m2_base.specs.declared.sites.Named.{Named}
use Rattle.m2_base.specs.declared.trees.Ident.{Ident}
use Rattle.m2_base.specs.Trees.{Decl, Heading, Import, Stream}
use Rattle.m2_base.specs.Statics.BlockRows.{brought_in}
use Rattle.m2_base.specs.Statics.Contexts.{Context, Layout, Scene}
use Rattle.m2_base.specs.Statics.Effects.{Effect}
use Rattle.m2_base.specs.Statics.Items.{Item, decl_item, heading_item, heading_items, import_item, import_items, items_of}
use Rattle.m2_base.specs.Statics.Layouts.{extended, layout_of, names_from, names_of_item}
use Rattle.m2_base.specs.Statics.Lookup.{brought_before, moved}
use Rattle.m2_base.specs.Statics.Makes.{Makes, scene_with, with_rows}
use Rattle.m2_base.specs.Statics.ShapedRows.{AreShaped, more_of}
use Rattle.m2_base.specs.Statics.Shapes.{Shape, item_shapes}
use Rattle.m2_base.proofs.EachLaws.{each_append, each_then}
use Rattle.m2_base.proofs.LayoutLaws.{AreShaped-length}
use Rattle.m2_base.proofs.SceneLaws.{IsOpen, own_of, own-with}
use Rattle.row_laws.proofs.ClearTargets.{HasImports, IsMade, IsMadeImport, front_stays, made_with}
use Rattle.row_laws.proofs.ImportedRows.{Splits, laid_items, laid_length, laid_there}
use Rattle.row_laws.proofs.Joined.{in_append}
use Rattle.row_laws.proofs.Members.{each_in, each_there}
use Rattle.row_laws.proofs.PlainShapes.{AreOwn, decl_own}

-- ** Lists

behind : {A : Type 0} (xs ys : List A) (k : ℕ) → slice_get (xs ++ ys) (length xs + k) ≡ slice_get ys k
behind [] ys k = ap (slice_get ys) (omega arith)
behind (x ∷ xs) ys k =
    let next : length (x ∷ xs) + k ≡ suc (length xs + k) = omega arith in
    ap (slice_get (x ∷ (xs ++ ys))) next ∙ behind xs ys k

-- ** Names of items

-- the row of a name of item i
record HasRow (i o : ℕ) (rows : List Row) (n : Named) : Type 0 where
  k : ℕ
  row : Row
  there : slice_get rows k ≡ Some row
  kind : row.kind ≡ n.kind
  ordinal : n.ordinal ≡ o + k
  item : n.item ≡ i

next_row : (i o : ℕ) (r : Row) (rows : List Row) (n : Named) → HasRow i (o + 1) rows n → HasRow i o (r ∷ rows) n
next_row i o r rows n h = record { k = suc h.k; row = h.row; there = h.there; kind = h.kind; ordinal = let e = h.ordinal in omega (arith, e); item = h.item }

named_row : (i o : ℕ) (shapes : List Shape) (rows : List Row) → AreShaped shapes rows → (n : Named) → IsIn n (names_of_item i o shapes) → HasRow i o rows n
named_row i o [] rows is n h = absurd h
named_row i o (s ∷ shapes) [] is n h = elim is [ ]
named_row i o (s ∷ shapes) (r ∷ rows) (more_of is rest) n h = by_test (s.name == 0) (λ k. next_row i o r rows n (named_row i (o + 1) shapes rows rest n k)) h
  where
    by_place : (IsIn n (names_of_item i (o + 1) shapes) → HasRow i o (r ∷ rows) n) → (n ≡ record { name = s.name; ordinal = o; kind = s.kind; at = s.at; item = i }) ⊎ IsIn n (names_of_item i (o + 1) shapes) → HasRow i o (r ∷ rows) n
    by_place later (inl e) =
        let place = ap (λ (x : Named). x.ordinal) e in
        record {
          k = 0;
          row = r;
          there = refl;
          kind = is.kind ∙ sym (ap (λ (x : Named). x.kind) e);
          ordinal = omega (arith, place);
          item = ap (λ (x : Named). x.item) e;
        }
    by_place later (inr k) = later k

    by_test : (b : Bool) → (IsIn n (names_of_item i (o + 1) shapes) → HasRow i o (r ∷ rows) n)
        → IsIn n (if b then names_of_item i (o + 1) shapes else record { name = s.name; ordinal = o; kind = s.kind; at = s.at; item = i } ∷ names_of_item i (o + 1) shapes) → HasRow i o (r ∷ rows) n
    by_test true later k = later k
    by_test false later k = by_place later k

-- no name is an import's
abbrev AreDeclared : List Named → Type 0
AreDeclared ns = Each (λ (n : Named). (n.kind == alias_kind) ≡ false) ns

shapes_declared : (i o : ℕ) (shapes : List Shape) → AreOwn shapes → AreDeclared (names_of_item i o shapes)
shapes_declared i o [] h = tt
shapes_declared i o (s ∷ shapes) h = by_test (s.name == 0) (shapes_declared i (o + 1) shapes h.1)
  where
    by_test : (b : Bool) → AreDeclared (names_of_item i (o + 1) shapes)
        → AreDeclared (if b then names_of_item i (o + 1) shapes else record { name = s.name; ordinal = o; kind = s.kind; at = s.at; item = i } ∷ names_of_item i (o + 1) shapes)
    by_test true rest = rest
    by_test false rest = ((or_parts (s.kind == module_kind) (s.kind == alias_kind) h.0).1, rest)

decls_declared : (ds : List Decl) (i o : ℕ) → AreDeclared (names_from i o (map decl_item ds))
decls_declared [] i o = tt
decls_declared (d ∷ ds) i o =
    each_append (λ (n : Named). (n.kind == alias_kind) ≡ false) (names_of_item i o (item_shapes (decl_item d))) _
    (shapes_declared i o (item_shapes (decl_item d)) (decl_own d)) (decls_declared ds (i + 1) (o + length (item_shapes (decl_item d))))

-- ** What was brought by earlier items

before_append : (xs ys : List Named) (i : ℕ) → brought_before (xs ++ ys) i ≡ brought_before xs i + brought_before ys i
before_append [] ys i = omega arith
before_append (x ∷ xs) ys i = by_test (nat_lt x.item i) (before_append xs ys i)
  where
    by_test : (b : Bool) → brought_before (xs ++ ys) i ≡ brought_before xs i + brought_before ys i
        → length (if b then x ∷ filter (λ n. nat_lt n.item i) (xs ++ ys) else filter (λ n. nat_lt n.item i) (xs ++ ys)) ≡ length (if b then x ∷ filter (λ n. nat_lt n.item i) xs else filter (λ n. nat_lt n.item i) xs) + brought_before ys i
    by_test true h = omega (arith, h)
    by_test false h = h

all_before : (xs : List Named) (i : ℕ) → Each (λ n. n.item < i) xs → brought_before xs i ≡ length xs
all_before [] i h = refl
all_before (x ∷ xs) i h =
    ap (λ (b : Bool). length (if b then x ∷ filter (λ n. nat_lt n.item i) xs else filter (λ n. nat_lt n.item i) xs)) (lt-ltb x.item i h.0) ∙ ap suc (all_before xs i h.1)

none_before : (xs : List Named) (i k : ℕ) → k ≤ i → Each (λ n. n.item ≡ i) xs → brought_before xs k ≡ 0
none_before [] i k h e = refl
none_before (x ∷ xs) i k h e =
    let low = e.0 in
    ap (λ (b : Bool). length (if b then x ∷ filter (λ n. nat_lt n.item k) xs else filter (λ n. nat_lt n.item k) xs)) (le-ltb x.item k (omega (arith, h, low))) ∙ none_before xs i k h e.1

extended_is : (l : Layout) (bs : List Named) → extended l bs ≡ record l { brought = l.brought ++ bs }
extended_is l [] = ap (λ (b : List Named). record l { brought = b }) (sym (append-nil l.brought))
extended_is l (b ∷ bs) = refl

-- ** What still waits

-- a name of an earlier item whose row is made
abbrev pub IsMadeBefore : Context → (item : ℕ) → Named → Type 0
IsMadeBefore c i n = (n.item < i) × IsMade c.scene (moved c.layout.brought n)

-- where the name is an import's, its row is made, or it is of one of the items from this one on, the first of which has this ordinal
-- by the syntax
abbrev pub IsDue : Context → (item ordinal : ℕ) → List Item → Named → Type 0
IsDue c i o items n = (n.kind == alias_kind) ≡ true → IsMadeBefore c i n ⊎ IsIn n (names_from i o items)

-- what was brought is of earlier items, and has its rows
pub record Waits (c : Context) (i o : ℕ) (items : List Item) : Type 0 where
  pub count : o + length c.layout.brought ≡ length (own_of c.scene)
  pub earlier : Each (λ n. n.item < i) c.layout.brought
  pub brought : Each (IsMade c.scene) c.layout.brought
  pub names : Each (IsDue c i o items) c.layout.names

pub first_waits : (c : Context) (tree : Stream) → c.layout ≡ layout_of tree → own_of c.scene ≡ [] → Waits c 0 0 (items_of tree)
first_waits c tree layout none =
    let brought : c.layout.brought ≡ [] = ap (λ (l : Layout). l.brought) layout in
    let few = ap length brought in
    let rows = ap length none in
    record {
      count = omega (arith, few, rows);
      earlier = subst (Each (λ (n : Named). n.item < 0)) (sym brought) tt;
      brought = subst (Each (IsMade c.scene)) (sym brought) tt;
      names = each_there (IsDue c 0 0 (items_of tree)) c.layout.names (λ n h e. inr (subst (λ (ns : List Named). IsIn n ns) (ap (λ (l : Layout). l.names) layout) h));
    }

pub all_made : (c : Context) (i o : ℕ) (ds : List Decl) → Waits c i o (map decl_item ds) → HasImports c
all_made c i o ds h =
    record {
      brought = h.brought;
      names = each_then (IsDue c i o (map decl_item ds)) (λ (n : Named). IsMadeImport c.scene (moved c.layout.brought n)) c.layout.names (λ n k e. by_case n e (k e)) h.names;
    }
  where
    by_case : (n : Named) → (n.kind == alias_kind) ≡ true → IsMadeBefore c i n ⊎ IsIn n (names_from i o (map decl_item ds)) → IsMade c.scene (moved c.layout.brought n)
    by_case n e (inl m) = m.1
    by_case n e (inr k) =
        let no : (n.kind == alias_kind) ≡ false = each_in (λ (x : Named). (x.kind == alias_kind) ≡ false) (names_from i o (map decl_item ds)) n (decls_declared ds i o) k in
        let never : true ≡ false = sym e ∙ no in
        absurd (cc)

-- an item's own rows, and those of what it brings
pub waits_with : (c : Context) (x : Item) (items : List Item) (i o : ℕ) (m : Makes Effect) → IsOpen c.scene → Splits c i x m → Waits c i o (x ∷ items)
    → Waits (brought_in (with_rows c m.rows) m.value.brought) (i + 1) (o + length (item_shapes x)) items
waits_with c x items i o m room is h =
    subst (λ (l : Layout). Waits (record (with_rows c m.rows) { layout = l }) (i + 1) (o + length (item_shapes x)) items) (sym (extended_is c.layout new))
    (record {
      count = let e = h.count in let f = length-append old new in let g = ap length made in let k = length-append own is.own in let j = length-append (own ++ is.own) is.back in let a = AreShaped-length is.shaped in
          let b = laid_length i (length own + length is.own) new is.back is.laid in
          omega (arith, e, f, g, k, j, a, b);
      earlier = each_append (λ (n : Named). n.item < i + 1) old new (each_then (λ (n : Named). n.item < i) (λ (n : Named). n.item < i + 1) old (λ n k. omega (arith, k)) h.earlier)
          (each_then (λ (n : Named). n.item ≡ i) (λ (n : Named). n.item < i + 1) new (λ n k. omega (arith, k)) items_are);
      brought = each_append (IsMade scene) old new (each_then (IsMade c.scene) (IsMade scene) old (made_with c.scene m.rows room) h.brought) new_made;
      names = each_then (IsDue c i o (x ∷ items)) (IsDue d (i + 1) (o + length (item_shapes x)) items) c.layout.names (λ n k e. by_case n e (k e)) h.names;
    })
  where
    old : List Named
    old = c.layout.brought

    new : List Named
    new = m.value.brought

    own : List Row
    own = own_of c.scene

    scene : Scene
    scene = scene_with c.scene m.rows

    d : Context
    d = record (with_rows c m.rows) { layout = record c.layout { brought = old ++ new } }

    items_are : Each (λ (n : Named). n.item ≡ i) new
    items_are = laid_items i (length own + length is.own) new is.back is.laid

    made : own_of scene ≡ (own ++ is.own) ++ is.back
    made = own-with c.scene m.rows room ∙ ap (λ (rows : List Row). own ++ rows) is.joined ∙ sym (append_assoc own is.own is.back)

    new_made : Each (IsMade scene) new
    new_made =
        subst (λ (all : List Row). Each (λ (n : Named). (r : Row) × (slice_get all n.ordinal ≡ Some r) × (r.kind ≡ alias_kind)) new) (sym made)
        (laid_there i (length own + length is.own) (own ++ is.own) new is.back (length-append own is.own) is.laid)

    -- of an item before or this one, what is brought now doesn't move the rows
    same_before : (k : ℕ) → k ≤ i → brought_before (old ++ new) k ≡ brought_before old k
    same_before k e = let a = before_append old new k in let b = none_before new i k e items_are in omega (arith, a, b)

    made_before : (n : Named) → IsMadeBefore c i n → IsMadeBefore d (i + 1) n
    made_before n k =
        let less = k.0 in (
          omega (arith, less),
          made_with c.scene m.rows room (moved (old ++ new) n)
              (subst (λ (t : ℕ). IsMade c.scene (record n { ordinal = n.ordinal + t })) (sym (same_before n.item (omega (arith, less)))) k.1),
        )

    made_here : (n : Named) → (n.kind == alias_kind) ≡ true → HasRow i o is.own n → IsMadeBefore d (i + 1) n
    made_here n e r =
        let item = r.item in
        let all = all_before old i h.earlier in
        let moves : brought_before (old ++ new) n.item ≡ length old = ap (brought_before (old ++ new)) item ∙ same_before i (omega arith) ∙ all in
        let ordinal = r.ordinal in
        let count = h.count in
        let place : n.ordinal + brought_before (old ++ new) n.item ≡ length own + r.k = omega (arith, moves, ordinal, count) in
        let there : slice_get (own ++ is.own) (length own + r.k) ≡ Some r.row = behind own is.own r.k ∙ r.there in (
          omega (arith, item),
          (r.row, ap (slice_get (own_of scene)) place ∙ ap (λ (rows : List Row). slice_get rows (length own + r.k)) made ∙ front_stays (own ++ is.own) is.back (length own + r.k) r.row there, r.kind ∙ eqb-true n.kind alias_kind e),
        )

    by_part : (n : Named) → (n.kind == alias_kind) ≡ true → IsIn n (names_of_item i o (item_shapes x)) ⊎ IsIn n (names_from (i + 1) (o + length (item_shapes x)) items)
        → IsMadeBefore d (i + 1) n ⊎ IsIn n (names_from (i + 1) (o + length (item_shapes x)) items)
    by_part n e (inl k) = inl (made_here n e (named_row i o (item_shapes x) is.own is.shaped n k))
    by_part n e (inr k) = inr k

    by_case : (n : Named) → (n.kind == alias_kind) ≡ true → IsMadeBefore c i n ⊎ IsIn n (names_from i o (x ∷ items)) → IsMadeBefore d (i + 1) n ⊎ IsIn n (names_from (i + 1) (o + length (item_shapes x)) items)
    by_case n e (inl k) = inl (made_before n k)
    by_case n e (inr k) = by_part n e (in_append n (names_of_item i o (item_shapes x)) _ k)

-- ** The items of a block

-- a heading or an import
abbrev pub IsFront : Item → Type 0
IsFront (heading_item h) = Unit {0}
IsFront (import_item from i) = Unit {0}
IsFront other = ⊥

import_fronts : (from : Option Ident) (idents : List Ident) → Each IsFront (map (λ n. import_item from n) idents)
import_fronts from [] = tt
import_fronts from (i ∷ idents) = (tt, import_fronts from idents)

imports_fronts : (imports : List Import) → Each IsFront (flat_map import_items imports)
imports_fronts [] = tt
imports_fronts (i ∷ imports) = each_append IsFront (import_items i) _ (import_fronts i.from i.names) (imports_fronts imports)

heading_fronts : (h : Option Heading) → Each IsFront (heading_items h)
heading_fronts None = tt
heading_fronts (Some h) = (tt, tt)

pub fronts : (h : Option Heading) (imports : List Import) → Each IsFront (heading_items h ++ flat_map import_items imports)
fronts h imports = each_append IsFront (heading_items h) (flat_map import_items imports) (heading_fronts h) (imports_fronts imports)
