-- The declarations of a sample are analysed one after another: where each stands, that its rows may be entered, and what holds then.
use Rattle.std.specs.List.{AllZip}
use Rattle.std.specs.Prelude.{◌≡◌, ℕ, zero, suc, ◌+◌, ◌-◌, ◌≤◌, ◌^◌, false, List, [], ◌∷◌, ◌++◌, Option, Some, None, Result, Ok, Err, drop, filter, flat_map, length, map, option_map, slice_get, slice_index, take, unwrap_or, OnOk}
use Rattle.std.proofs.Common.{refl, sym, ap, subst, ◌∙◌, arith}
use Rattle.std.proofs.lemmas.List.{append-nil, length-append, take-append-drop}
use Rattle.std.proofs.lemmas.List.Concat.{flat_map-append}
use Rattle.std.proofs.lemmas.List.Elements.{filter-append}
use Rattle.std.proofs.lemmas.Option.{slice_get-map}
use Rattle.m2_base.specs.Finished.{source_of}
use Rattle.m2_base.specs.Lists.{Each}
use Rattle.m2_base.specs.Rows.{IsWellFormed, at_place, row_meaning}
use Rattle.m2_base.specs.Scopes.{CanComplete, CanEnter, Completed, Entered}
use Rattle.m2_base.specs.States.{Frame, State}
use Rattle.m2_base.specs.Statics.Bringing.{BringsIts, may_bring}
use Rattle.m2_base.specs.Statics.Cells.{most_cells}
use Rattle.m2_base.specs.Statics.Contexts.{Source}
use Rattle.m2_base.specs.Statics.Items.{Item, decl_item, items_of}
use Rattle.m2_base.specs.Statics.Layouts.{Layout, extended, extended_by, firsts_from, laid_shapes, layout_of, with_brought}
use Rattle.m2_base.specs.Statics.Lookup.{brought_before}
use Rattle.m2_base.specs.Statics.ProcedureRows.{is_proc}
use Rattle.m2_base.specs.Statics.ReadTrees.{IsReadItem}
use Rattle.m2_base.specs.Statics.Shapes.{Shape, item_shapes}
use Rattle.m2_base.specs.Trees.{Decl, Stream, const_decl, proc_decl, type_decl, vars_decl}
use Rattle.m2_base.specs.Units.{UnitTexts}
use Rattle.m2_base.specs.Views.{decl_view, stream_view}
use Rattle.m2_base.specs.declared.limits.TheConstants.{MOST_BROUGHT}
use Rattle.m2_base.specs.declared.memory.Memory.{Memory}
use Rattle.m2_base.specs.declared.rows.Row.{Row}
use Rattle.m2_base.specs.declared.rows.RowMeaning.{RowMeaning}
use Rattle.m2_base.specs.declared.rows.RowMeaning.TheVariants as meanings
use Rattle.m2_base.specs.declared.sites.Named.{Named}
use Rattle.m2_base.specs.declared.sites.Site.{Site}
use Rattle.m2_base.specs.declared.trees.declarations.Decl.{Decl as HeldDecl}
use Rattle.m2_base.specs.declared.trees.declarations.Stream.{Stream as HeldStream}
use Rattle.m2_base.proofs.EachLaws.{each_append, each_then}
use Rattle.scope_core.specs.PlainScopes.{Plain, started, state_of}
use Rattle.decl_sem.specs.ImportedModules.{IsFromBefore}
use Rattle.decl_sem.specs.Items.{IsAtItem}
use Rattle.decl_sem.specs.LaidRows.{AreLaid, HasFirsts, none_laid}
use Rattle.decl_sem.specs.Layouts.{IsLayoutAt}
use Rattle.decl_sem.specs.Pieces.{AreNewRows, IsOwned, end_by, item_end}
use Rattle.decl_sem.proofs.FirstNames.{AreLaid-append}
use Rattle.decl_sem.proofs.FirstOrdinals.{end_of}
use Rattle.decl_sem.proofs.LaidOnce.{laid_once}
use Rattle.decl_sem.proofs.LayoutSteps.{layout_at_start}
use Rattle.decl_sem.proofs.Pieces.{laid-length}
use Rattle.m2_cases.specs.Filled.{HasDeclared, IsFull, row_count}
use Rattle.m2_cases.specs.Samples.{IsSample}
use Rattle.m2_cases.proofs.Samples.{IsSite, none_finished, site_at}

-- ** Lists

-- an item of a list, with those before and behind it
record Splits {A : Type 0} (xs : List A) (n : ℕ) (x : A) : Type 0 where
  pub all : xs ≡ take n xs ++ x ∷ drop (suc n) xs
  pub count : length (take n xs) ≡ n
  pub next : take (suc n) xs ≡ take n xs ++ x ∷ []

some_is : {A : Type 0} (x y : A) → Some x ≡ Some y → x ≡ y
some_is x y e = ap (λ o. unwrap_or o x) e

splits : {A : Type 0} (xs : List A) (n : ℕ) (x : A) → slice_get xs n ≡ Some x → Splits xs n x
splits [] n x e = absurd (cc)
splits (y ∷ xs) zero x e =
    let same = some_is y x e in
    record { all = ap (λ z. z ∷ xs) same; count = refl; next = ap (λ z. z ∷ []) same }
splits (y ∷ xs) (suc n) x e =
    let rest = splits xs n x e in
    record { all = ap (λ z. y ∷ z) rest.all; count = ap suc rest.count; next = ap (λ z. y ∷ z) rest.next }

each_at : {A : Type 0} (P : A → Type 0) (xs : List A) (n : ℕ) (x : A) → Each P xs → slice_get xs n ≡ Some x → P x
each_at P [] n x h e = absurd (cc)
each_at P (y ∷ xs) zero x h e = subst P (some_is y x e) h.0
each_at P (y ∷ xs) (suc n) x h e = each_at P xs n x h.1 e

-- ** The number of rows

one_more : (items : List Item) (o : ℕ) → length (firsts_from o items) ≡ suc (length items)
one_more [] o = refl
one_more (x ∷ items) o = ap suc (one_more items (o + length (item_shapes x)))

last_from : (items : List Item) (o : ℕ) → slice_get (firsts_from o items) (length items) ≡ Some (o + length (flat_map item_shapes items))
last_from [] o = ap Some (let e : o ≡ o + 0 = omega arith in e)
last_from (x ∷ items) o =
    last_from items (o + length (item_shapes x))
    ∙ ap Some (let l = length-append (item_shapes x) (flat_map item_shapes items) in let e : o + length (item_shapes x) + length (flat_map item_shapes items) ≡ o + length (flat_map item_shapes (x ∷ items)) = omega (arith, l) in e)

-- the last of a layout's first ordinals is the number of the rows
pub last_first : (tree : Stream) (firsts : List ℕ) (count : ℕ) → firsts ≡ (layout_of tree).firsts → slice_get firsts (length firsts - 1) ≡ Some count → count ≡ row_count tree
last_first tree firsts count is at =
    let items = items_of tree in
    let last : length firsts - 1 ≡ length items = (let a = ap length is in let b = one_more items 0 in omega (arith, a, b)) in
    let found : slice_get firsts (length firsts - 1) ≡ Some (0 + length (flat_map item_shapes items)) = (λ k. slice_get (is k) (last k)) ∙ last_from items 0 in
    let same : count ≡ 0 + length (flat_map item_shapes items) = ap (λ o. unwrap_or o count) (sym at ∙ found) in
    omega (arith, same)

no_imports : (source : Source) (scope : ℕ) (d : Decl) → IsFromBefore source scope (decl_item d)
no_imports source scope (const_decl name value) = tt
no_imports source scope (type_decl name typ) = tt
no_imports source scope (vars_decl names typ) = tt
no_imports source scope (proc_decl heading stream) = tt

-- ** Declarations bring nothing

-- of each of so many items no name
abbrev pub nothing : ℕ → List (List Named)
nothing zero = []
nothing (suc n) = [] ∷ nothing n

nothing_count : (n : ℕ) → length (nothing n) ≡ n
nothing_count zero = refl
nothing_count (suc n) = ap suc (nothing_count n)

nothing_laid : (items : List Item) (n : ℕ) → laid_shapes items (nothing n) ≡ flat_map item_shapes items
nothing_laid [] n = refl
nothing_laid (x ∷ items) zero = ap (λ (ss : List Shape). item_shapes x ++ ss) (nothing_laid items zero)
nothing_laid (x ∷ items) (suc n) = ap (λ (ss : List Shape). item_shapes x ++ ss) (nothing_laid items n)

nothing_extends : (l : Layout) (n : ℕ) → extended_by l (nothing n) ≡ l
nothing_extends l zero = refl
nothing_extends l (suc n) = nothing_extends l n

nothing_only : (items : List Item) (n : ℕ) → n ≤ length items → AllZip BringsIts (take n items) (nothing n)
nothing_only items zero below = tt
nothing_only [] (suc n) below = absurd (omega (arith, below))
nothing_only (x ∷ items) (suc n) below = ((λ none. refl), nothing_only items n (omega (arith, below)))

-- the layout after items that have brought nothing
layout_after : (tree : Stream) (n : ℕ) → n ≤ length (items_of tree) → IsLayoutAt (layout_of tree) tree (nothing n)
layout_after tree n below =
    let items = items_of tree in
    record {
      layout = sym (nothing_extends (layout_of tree) n);
      only = subst (λ (m : ℕ). AllZip BringsIts (take m items) (nothing n)) (sym (nothing_count n)) (nothing_only items n below);
      firsts = subst (λ (ss : List Shape). HasFirsts (layout_of tree) ss) (nothing_laid items 0 ∙ sym (nothing_laid items n)) (layout_at_start tree).firsts;
      earlier = tt;
      behind = tt;
      few = omega arith;
    }

no_bringing : (d : Decl) → may_bring (decl_item d) ≡ false
no_bringing (const_decl name value) = refl
no_bringing (type_decl name typ) = refl
no_bringing (vars_decl names typ) = refl
no_bringing (proc_decl heading stream) = refl

-- the next item brings only what it may
next_only : (items : List Item) (n : ℕ) (x : Item) (b : List Named) → slice_get items n ≡ Some x → AllZip BringsIts (take (length (nothing n ++ b ∷ [])) items) (nothing n ++ b ∷ []) → BringsIts x b
next_only [] n x b e h = absurd (cc)
next_only (y ∷ items) zero x b e h = subst (λ (z : Item). BringsIts z b) (some_is y x e) h.0
next_only (y ∷ items) (suc n) x b e h = next_only items n x b e h.1

-- ** Rows that are made

owned_more : (a b : ℕ) → a ≤ b → (r : RowMeaning) → IsOwned a r → IsOwned b r
owned_more a b h (meanings.Field t o own n) k = omega (arith, h, k)
owned_more a b h _ k = tt

owned_rows : (f : Frame) (limit o : ℕ) (rows : List Row) → AreNewRows f limit o rows → Each (λ r. IsOwned limit (row_meaning r)) rows
owned_rows f limit o [] h = tt
owned_rows f limit o (r ∷ rows) h = (h.0.owned, owned_rows f limit (o + 1) rows h.1)

formed_at : (f : Frame) (limit o : ℕ) (rows : List Row) → AreNewRows f limit o rows → (k : ℕ) (r : Row) → slice_get rows k ≡ Some r
    → IsWellFormed (length f.setting.texts.names) (at_place f.setting.fills (o + k)) r
formed_at f limit o [] h k r e = absurd (cc)
formed_at f limit o (x ∷ rows) h zero r e =
    let at : o ≡ o + 0 = omega arith in
    subst (λ (n : ℕ). IsWellFormed (length f.setting.texts.names) (at_place f.setting.fills n) r) at
    (subst (λ (y : Row). IsWellFormed (length f.setting.texts.names) (at_place f.setting.fills o) y) (some_is x r e) h.0.right.formed)
formed_at f limit o (x ∷ rows) h (suc k) r e =
    let at : o + 1 + k ≡ o + suc k = omega arith in
    subst (λ (n : ℕ). IsWellFormed (length f.setting.texts.names) (at_place f.setting.fills n) r) at (formed_at f limit (o + 1) rows h.1 k r e)

-- with these rows entered
abbrev frame_with : Frame → List Row → Frame
frame_with f rows = record { setting = f.setting; entered = f.entered ++ rows; closed = f.closed }

-- the state with this frame
abbrev framed : State → Frame → State
framed st f = record { frame = f; seen = st.seen; looks = st.looks }

-- ** A declaration

-- the site of a declaration with this number
pub record IsSiteOf (s : Site) (u : UnitTexts) (tree : Stream) (n : ℕ) : Type 0 where
  pub at : IsSite s u
  pub layout : s.layout.now ≡ layout_of tree
  pub item : s.item ≡ Some n

module _ (f : Frame) (s : Site) (u : UnitTexts) (tree : HeldStream) (n : ℕ) (d : HeldDecl) (cell : ℕ) (sample : IsSample u (stream_view tree)) (few : row_count (stream_view tree) + MOST_BROUGHT ≤ 2 ^ 31)
    (is : IsSiteOf s u (stream_view tree) n) (here : slice_get tree.decls.items n ≡ Some d) (so_far : HasDeclared f u (stream_view tree) n cell) where
  abbrev item : Item
  item = decl_item (decl_view d)

  abbrev items : List Item
  items = map decl_item (stream_view tree).decls

  found : slice_get (map decl_item (stream_view tree).decls) n ≡ Some (decl_item (decl_view d))
  found = slice_get-map decl_item (map decl_view tree.decls.items) n ∙ ap (λ o. option_map decl_item o) (slice_get-map decl_view tree.decls.items n ∙ ap (λ o. option_map decl_view o) here)

  parts : Splits (map decl_item (stream_view tree).decls) n (decl_item (decl_view d))
  parts = splits items n item found

  layout_here : IsLayoutAt s.layout.now (stream_view tree) (nothing n)
  layout_here =
      let all = ap length (sample.items ∙ parts.all) in
      let l = length-append (take n items) (item ∷ drop (suc n) items) in
      let c = parts.count in
      let below : n ≤ length (items_of (stream_view tree)) = omega (arith, all, l, c) in
      subst (λ (l : Layout). IsLayoutAt l (stream_view tree) (nothing n)) (sym is.layout) (layout_after (stream_view tree) n below)

  -- it stands after the declarations before
  pub at_declaration : IsAtItem f s (stream_view tree) (decl_item (decl_view d)) cell 0
  at_declaration =
      record {
        suits = site_at f s sample is.at so_far.texts so_far.fills so_far.inside (λ none. absurd (let bad : Some n ≡ None = sym is.item ∙ none in cc));
        small = let e = so_far.fills in omega (arith, e);
        begun = so_far.open_yet;
        before = take n items;
        rest = drop (suc n) items;
        items = sample.items ∙ parts.all;
        item = is.item ∙ ap Some (sym parts.count);
        brought = nothing n;
        of_each = nothing_count n ∙ sym parts.count;
        layout = layout_here;
        entered = subst (λ (l : Layout). AreLaid l 0 (laid_shapes (take n items) (nothing n)) f.entered) (sym is.layout)
            (subst (λ (ss : List Shape). AreLaid (layout_of (stream_view tree)) 0 ss f.entered) (sym (nothing_laid (take n items) n)) so_far.laid);
        owned = so_far.owned;
        few = few;
        read = subst (λ (v : UnitTexts). IsReadItem v.names item) (sym is.at.texts)
            (each_at (IsReadItem u.names) items n item (subst (λ xs. Each (IsReadItem u.names) xs) sample.items sample.read) found);
        imports = no_imports (source_of s.texts.now) f.setting.fills (decl_view d);
        cells = so_far.cells;
        headings = so_far.procedures;
      }

  module _ (rows : List Row) (b : List Named)
      (next : (brought : List (List Named)) → s.item ≡ Some (length brought) → IsLayoutAt s.layout.now (stream_view tree) brought → IsLayoutAt (extended s.layout.now b) (stream_view tree) (brought ++ b ∷ []))
      (laid_with : AreLaid (extended s.layout.now b) (length f.entered) (with_brought (item_shapes (decl_item (decl_view d))) b) rows) (new : AreNewRows f (item_end s) (length f.entered) rows) where
    -- it brings nothing
    alone : b ≡ []
    alone =
        let at_next = next (nothing n) (is.item ∙ ap Some (sym (nothing_count n))) layout_here in
        next_only items n item b found (subst (λ (xs : List Item). AllZip BringsIts (take (length (nothing n ++ b ∷ [])) xs) (nothing n ++ b ∷ [])) sample.items at_next.only) (no_bringing (decl_view d))

    laid : AreLaid (layout_of (stream_view tree)) (length f.entered) (item_shapes (decl_item (decl_view d))) rows
    laid =
        subst (λ (l : Layout). AreLaid l (length f.entered) (item_shapes item) rows) is.layout
        (subst (λ (bs : List Named). AreLaid (extended s.layout.now bs) (length f.entered) (with_brought (item_shapes item) bs) rows) alone laid_with)

    shapes : flat_map item_shapes (take n items) ++ item_shapes (decl_item (decl_view d)) ≡ flat_map item_shapes (take (n + 1) items)
    shapes =
        let number : suc n ≡ n + 1 = omega arith in
        ap (λ ss. flat_map item_shapes (take n items) ++ ss) (sym (append-nil (item_shapes (decl_item (decl_view d)))))
        ∙ sym (flat_map-append item_shapes (take n items) (decl_item (decl_view d) ∷ []))
        ∙ ap (flat_map item_shapes) (sym parts.next ∙ ap (λ m. take m items) number)

    laid_on : AreLaid (layout_of (stream_view tree)) 0 (flat_map item_shapes (take (n + 1) items)) (f.entered ++ rows)
    laid_on =
        subst (λ ss. AreLaid (layout_of (stream_view tree)) 0 ss (f.entered ++ rows)) shapes
        (AreLaid-append so_far.laid (subst (λ o. AreLaid (layout_of (stream_view tree)) o (item_shapes (decl_item (decl_view d))) rows) (let e : length f.entered ≡ 0 + length f.entered = omega arith in e) laid))

    fit : length (f.entered ++ rows) ≤ row_count (stream_view tree)
    fit =
        let a = laid-length laid_on in
        let all : items_of (stream_view tree) ≡ take (n + 1) items ++ drop (n + 1) items = sample.items ∙ sym (take-append-drop (n + 1) items) in
        let e = ap (λ xs. length (flat_map item_shapes xs)) all in
        let g = ap length (flat_map-append item_shapes (take (n + 1) items) (drop (n + 1) items)) in
        let l = length-append (flat_map item_shapes (take (n + 1) items)) (flat_map item_shapes (drop (n + 1) items)) in
        omega (arith, a, e, g, l)

    enter_framed : (b : State) → CanEnter (framed b f) rows
    enter_framed b =
        record {
          open_yet = so_far.open_yet;
          room =
              (let size : slice_index f.setting.areas f.setting.fills ≡ slice_index f.setting.areas 1 = ap (slice_index f.setting.areas) so_far.fills in
              let room = so_far.room in
              let l = length-append f.entered rows in
              let e = fit in
              omega (arith, size, room, l, e));
          formed = formed_at f (item_end s) (length f.entered) rows new;
          once = laid_once laid_on;
          next = λ tables finished. absurd (none_finished sample so_far.texts finished);
        }

    -- the rows may be entered
    pub may_enter : (b : State) → b.frame ≡ f → CanEnter b rows
    may_enter b same = subst (λ g. CanEnter (framed b g) rows) (sym same) (enter_framed b)

    end_is : item_end s ≡ length (f.entered ++ rows)
    end_is =
        let all : items_of (stream_view tree) ≡ take n items ++ decl_item (decl_view d) ∷ drop (suc n) items = sample.items ∙ parts.all in
        let number : s.item ≡ Some (length (take n items)) = is.item ∙ ap Some (sym parts.count) in
        let before : ℕ → ℕ = (λ o. o + brought_before [] (length (take n items) + 1)) in
        let at : item_end s ≡ unwrap_or (option_map before (slice_get (firsts_from 0 (take n items ++ decl_item (decl_view d) ∷ drop (suc n) items)) (length (take n items) + 1))) 0 =
        (λ k. end_by (is.layout k) (number k)) ∙ ap (λ xs. unwrap_or (option_map before (slice_get (firsts_from 0 xs) (length (take n items) + 1))) 0) all in
        let e : item_end s ≡ 0 + length (flat_map item_shapes (take n items)) + length (item_shapes (decl_item (decl_view d))) + 0 = at ∙ ap (λ (o : Option ℕ). unwrap_or (option_map before o) 0) (end_of (take n items) (drop (suc n) items) (decl_item (decl_view d)) 0) in
        let a = laid-length so_far.laid in
        let b = laid-length laid in
        let l = length-append f.entered rows in
        omega (arith, e, a, b, l)

    one_declared : (next : ℕ) → next ≤ most_cells + 1 → length (filter is_proc rows) ≡ 0 → HasDeclared (frame_with f rows) u (stream_view tree) (n + 1) next
    one_declared next cells none =
        let more : length f.entered ≤ length (f.entered ++ rows) = let l = length-append f.entered rows in omega (arith, l) in
        record {
          texts = so_far.texts;
          fills = so_far.fills;
          inside = so_far.inside;
          room = so_far.room;
          open_yet = so_far.open_yet;
          laid = laid_on;
          owned = each_append (λ r. IsOwned (length (f.entered ++ rows)) (row_meaning r)) f.entered rows
              (each_then (λ r. IsOwned (length f.entered) (row_meaning r)) (λ r. IsOwned (length (f.entered ++ rows)) (row_meaning r)) f.entered (λ r. owned_more (length f.entered) (length (f.entered ++ rows)) more (row_meaning r)) so_far.owned)
              (subst (λ limit. Each (λ r. IsOwned limit (row_meaning r)) rows) end_is (owned_rows f (item_end s) (length f.entered) rows new));
          procedures =
              (let l = ap length (filter-append is_proc f.entered rows) in
              let a = length-append (filter is_proc f.entered) (filter is_proc rows) in
              let p = so_far.procedures in
              omega (arith, l, a, p, none));
          cells = cells;
        }

    -- one more is declared
    pub declared_then : (b c : State) (next : ℕ) → b.frame ≡ f → Entered b c rows → next ≤ most_cells + 1 → length (filter is_proc rows) ≡ 0 → HasDeclared c.frame u (stream_view tree) (n + 1) next
    declared_then b c next same entered cells none =
        subst (λ g. HasDeclared g u (stream_view tree) (n + 1) next) (sym (entered.frame ∙ ap (λ g. frame_with g rows) same)) (one_declared next cells none)

-- ** All declarations

pub begun : {u : UnitTexts} {tree : Stream} (p : Plain) (rows : ℕ) → p ≡ started u (37 ∷ rows ∷ []) → rows ≡ row_count tree → HasDeclared (state_of p).frame u tree 0 0
begun {u} {tree} p rows is count =
    subst (λ q. HasDeclared (state_of q).frame u tree 0 0) (sym is)
    (record {
      texts = refl;
      fills = refl;
      inside = omega arith;
      room = omega (arith, count);
      open_yet = refl;
      laid = none_laid;
      owned = tt;
      procedures = refl;
      cells = omega arith;
    })

pub may_complete : {u : UnitTexts} {tree : Stream} {count cell : ℕ} (a : State) → IsSample u tree → HasDeclared a.frame u tree count cell → CanComplete a
may_complete a sample all = record { open_yet = all.open_yet; all = λ tables h. absurd (none_finished sample all.texts h) }

pub all_full : {u : UnitTexts} {tree : Stream} {count cell : ℕ} (a b : State) → HasDeclared a.frame u tree count cell → Completed a b → IsFull b.frame u
all_full {u} a b all completed =
    subst (λ f. IsFull f u) (sym completed.frame)
    (record { texts = all.texts; fills = all.fills; areas = all.inside; closed = refl })

-- what follows of an answer that is there
pub all_ok : {T : Type 0} {C D E Q : Type 0} (r : Result T Memory) → (C → D → E → Q) → OnOk r C → OnOk r D → OnOk r E → OnOk r Q
all_ok (Ok v) f c d e = f c d e
all_ok (Err m) f c d e = tt
