-- An item is declared after those before: what it stands at, what it may enter, and what is declared then.
use Rattle.std.specs.Prelude.{◌≡◌, ◌≢◌, ℕ, zero, suc, ◌+◌, ◌<◌, ◌≤◌, ◌==◌, Bool, true, false, if◌then◌else◌, List, [], ◌∷◌, ◌++◌, Option, Some, None, drop, filter, flat_map, length, slice_get, take}
use Rattle.std.specs.List.{AllZip}
use Rattle.std.specs.Option.{IfSome}
use Rattle.std.proofs.Common.{refl, sym, ap, subst, ◌∙◌, arith}
use Rattle.std.proofs.lemmas.List.{append-nil, length-append, length-take-le, take-append-drop, take-take, take_all}
use Rattle.std.proofs.lemmas.List.Elements.{filter-append}
use Rattle.m2_base.specs.Finished.{IsFinished, WhereFinished, source_of}
use Rattle.m2_base.specs.Lists.{Each, HasNoRepeats, IsPrefixOf}
use Rattle.m2_base.specs.Rows.{IsWellFormed, at_place, row_meaning}
use Rattle.m2_base.specs.Scopes.{CanComplete, CanEnter}
use Rattle.m2_base.specs.Standard.{is_standard}
use Rattle.m2_base.specs.States.{Frame, Setting, State}
use Rattle.m2_base.specs.Statics.BlockRows.{at_item, context_of as block_context, declare_block, declare_items}
use Rattle.m2_base.specs.Statics.Blocks.{BlockTree}
use Rattle.m2_base.specs.Statics.Contexts.{Context, Source}
use Rattle.m2_base.specs.Statics.Declarations.{declare}
use Rattle.m2_base.specs.Statics.Effects.{BlockEffects, Effect, heading_list}
use Rattle.m2_base.specs.Statics.Items.{Item, items_of}
use Rattle.m2_base.specs.Statics.Bringing.{BringsIts, HaveBrought}
use Rattle.m2_base.specs.Statics.Layouts.{Layout, all_brought, extended, extended_by, firsts_from, laid_shapes, layout_of, with_brought}
use Rattle.m2_base.specs.Statics.Lookup.{first_entry}
use Rattle.m2_base.specs.Statics.Makes.{Makes}
use Rattle.m2_base.specs.Statics.ProcedureRows.{is_proc}
use Rattle.m2_base.specs.Statics.ReadTrees.{IsReadItem}
use Rattle.m2_base.specs.Statics.Shapes.{Shape, item_shapes}
use Rattle.m2_base.specs.Tables.{rows_at}
use Rattle.m2_base.specs.Trees.{Stream}
use Rattle.m2_base.specs.Units.{UnitTexts}
use Rattle.m2_base.specs.declared.rows.Place.{Place}
use Rattle.m2_base.specs.declared.rows.Row.{Row}
use Rattle.m2_base.specs.declared.rows.RowMeaning.{RowMeaning}
use Rattle.m2_base.specs.declared.rows.RowMeaning.TheVariants as meanings
use Rattle.m2_base.specs.declared.sites.Around.{Around}
use Rattle.m2_base.specs.declared.sites.Named.{Named}
use Rattle.m2_base.specs.declared.sites.Site.{Site}
use Rattle.m2_base.proofs.ImportLaws.{extended_length}
use Rattle.m2_base.proofs.EachLaws.{each_append, each_then}
use Rattle.type_rules.specs.Scenes.{Agrees, IsThere, Suits, WhereTold, block_of, hand}
use Rattle.type_rules.specs.Sites.{SuitsSite, context_of}
use Rattle.decl_sem.specs.DeclaredItems.{GivesAll}
use Rattle.decl_sem.specs.ImportedModules.{IsFromBefore}
use Rattle.decl_sem.specs.Items.{IsAtItem, IsEffect}
use Rattle.decl_sem.specs.LaidRows.{AreLaid, is_of, kept_name, more_laid, none_laid}
use Rattle.decl_sem.specs.Layouts.{IsLayoutAt}
use Rattle.decl_sem.specs.Pieces.{AreNewRows, IsOptionBehind, IsOwned, end_by, item_end}
use Rattle.decl_sem.specs.declared.declaring.Declared.{Declared}
use Rattle.decl_sem.proofs.LayoutSteps.{laid_on}
use Rattle.decl_sem.proofs.Pieces.{laid-length}
use Rattle.stream_split.specs.Rooms.{most_rows}
use Rattle.stream_split.proofs.BroughtRows.{laid_count, laid_few, with_count}
use Rattle.task_state.specs.Blocks.{IsBlockOf, block_with}
use Rattle.task_state.specs.Collecting.{CanAdd, Collected, IsMade, first_cell_of, first_made, first_result, with_item}
use Rattle.task_state.specs.Progress.{HasDeclared}
use Rattle.task_state.proofs.ItemsSoFar.{GoesOn, after_items, first_makes, first_rows, next_makes, one_more, result_next, same_number}
use Rattle.task_state.proofs.LayoutsOn.{end_within, extended_count, extended_firsts, extended_more}
use Rattle.task_state.proofs.Lists.{Splits, each_at, some_is, splits}
use Rattle.task_state.proofs.UnitRows.{context_with}

-- ** Rows as the layout gives them have no name twice

of_one : (a b : ℕ) (e : Option Named) → is_of a e ≡ true → is_of b e ≡ true → a ≡ b
of_one a b None h k = absurd (cc)
of_one a b (Some e) h k = sym (same_number e.ordinal a h) ∙ same_number e.ordinal b k

named_of : (l : Layout) (o name : ℕ) (standard of : Bool) → is_of o (first_entry l name) ≡ of → (if standard then 0 else if of then name else 0) ≢ 0 → is_of o (first_entry l (if standard then 0 else if of then name else 0)) ≡ true
named_of l o name true of h some = absurd (some refl)
named_of l o name false true h some = h
named_of l o name false false h some = absurd (some refl)

kept_here : (l : Layout) (o name : ℕ) → kept_name l o name ≢ 0 → is_of o (first_entry l (kept_name l o name)) ≡ true
kept_here l o name some = named_of l o name (is_standard name) (is_of o (first_entry l name)) refl some

row_at_first : {l : Layout} {o : ℕ} {ss : List Shape} {rs : List Row} → AreLaid l o ss rs → (i : ℕ) (r : Row) → slice_get rs i ≡ Some r → r.name ≢ 0 → is_of (o + i) (first_entry l r.name) ≡ true
row_at_first none_laid i r e some = absurd (cc)
row_at_first {l} {o} (more_laid {s = s} {r = x} one more) zero r e some =
    let same : x ≡ r = some_is x r e in
    let name : r.name ≡ kept_name l o s.name = ap (λ (z : Row). z.name) (sym same) ∙ one.name in
    let at : o ≡ o + 0 = omega arith in
    subst (λ (n : ℕ). is_of n (first_entry l r.name) ≡ true) at
    (subst (λ (n : ℕ). is_of o (first_entry l n) ≡ true) (sym name) (kept_here l o s.name (λ none. some (name ∙ none))))
row_at_first {l} {o} (more_laid one more) (suc i) r e some =
    let at : o + 1 + i ≡ o + suc i = omega arith in
    subst (λ (n : ℕ). is_of n (first_entry l r.name) ≡ true) at (row_at_first more i r e some)

laid_once : {l : Layout} {ss : List Shape} {rs : List Row} → AreLaid l 0 ss rs → HasNoRepeats (λ r. r.name) rs
laid_once {l} laid i j x y before a b some same =
    let first : is_of (0 + i) (first_entry l x.name) ≡ true = row_at_first laid i x a some in
    let second : is_of (0 + j) (first_entry l y.name) ≡ true = row_at_first laid j y b (λ none. some (same ∙ none)) in
    let both : is_of (0 + j) (first_entry l x.name) ≡ true = subst (λ (n : ℕ). is_of (0 + j) (first_entry l n) ≡ true) (sym same) second in
    let e = of_one (0 + i) (0 + j) (first_entry l x.name) first both in
    omega (arith, e, before)

-- ** Rows that are made

owned_more : (a b : ℕ) → a ≤ b → (r : RowMeaning) → IsOwned a r → IsOwned b r
owned_more a b h (meanings.Field t o own n) k = omega (arith, h, k)
owned_more a b h _ k = tt

owned_rows : (f : Frame) (limit o : ℕ) (rows : List Row) → AreNewRows f limit o rows → Each (λ r. IsOwned limit (row_meaning r)) rows
owned_rows f limit o [] h = tt
owned_rows f limit o (r ∷ rows) h = (h.0.owned, owned_rows f limit (o + 1) rows h.1)

formed_at : (f : Frame) (limit o : ℕ) (rows : List Row) → AreNewRows f limit o rows → (k : ℕ) (r : Row) → slice_get rows k ≡ Some r
    → IsWellFormed (length f.setting.texts.names) (at_place f.setting.fills (o + k)) r
formed_at f limit o [] h k r e = absurd (cc)
formed_at f limit o (x ∷ rows) h zero r e =
    let at : o ≡ o + 0 = omega arith in
    subst (λ (n : ℕ). IsWellFormed (length f.setting.texts.names) (at_place f.setting.fills n) r) at
    (subst (λ (y : Row). IsWellFormed (length f.setting.texts.names) (at_place f.setting.fills o) y) (some_is x r e) h.0.right.formed)
formed_at f limit o (x ∷ rows) h (suc k) r e =
    let at : o + 1 + k ≡ o + suc k = omega arith in
    subst (λ (n : ℕ). IsWellFormed (length f.setting.texts.names) (at_place f.setting.fills n) r) at (formed_at f limit (o + 1) rows h.1 k r e)

-- with these rows entered
abbrev pub frame_with : Frame → List Row → Frame
frame_with f rows = record { setting = f.setting; entered = f.entered ++ rows; closed = f.closed }

-- the state with this frame
abbrev framed : State → Frame → State
framed st f = record { frame = f; seen = st.seen; looks = st.looks }

-- ** What the definition says

-- all items of a block make what it declares
pub block_made : (source : Source) (before : List (List Row)) (b : BlockTree) → declare_block source before b ≡ declare_items (block_context source before b) b.tree.kind 0 (first_cell_of before b) (items_of b.tree)
unfolding declare_block
block_made source before b = refl

pub all_made : (source : Source) (before : List (List Row)) (b : BlockTree) (n : ℕ) → n ≡ length (items_of b.tree) → first_made source before b n ≡ declare_block source before b
all_made source before b n all =
    ap (λ items. declare_items (block_context source before b) b.tree.kind 0 (first_cell_of before b) items) (take_all n (items_of b.tree) (omega (arith, all)))
    ∙ sym (block_made source before b)

-- the rows of the first items are the first rows
pub front_rows : (source : Source) (before : List (List Row)) (b : BlockTree) (n : ℕ) → IsPrefixOf (first_made source before b n).rows (declare_block source before b).rows
front_rows source before b n =
    let items = items_of b.tree in
    let whole : declare_items (block_context source before b) b.tree.kind 0 (first_cell_of before b) (take n items ++ drop n items) ≡ declare_block source before b =
    ap (λ xs. declare_items (block_context source before b) b.tree.kind 0 (first_cell_of before b) xs) (take-append-drop n items) ∙ sym (block_made source before b) in
    subst (λ (m : Makes BlockEffects). IsPrefixOf (first_made source before b n).rows m.rows) whole
    (first_rows (take n items) (drop n items) (block_context source before b) b.tree.kind 0 (first_cell_of before b))

module _ (f : Frame) (a : Around) (tree : Stream) (m : Collected) (block : IsBlockOf f.setting a tree) (so_far : HasDeclared f a tree m) where
  -- what is entered are the first rows of the scope
  pub entered_first : (tables : List (List Row)) → IsFinished f.setting.texts tables → IsPrefixOf f.entered (rows_at tables f.setting.fills)
  entered_first tables is =
      let source = source_of f.setting.texts in
      let before = take f.setting.fills tables in
      let b = block_with a tree in
      subst (λ rows. IsPrefixOf rows (rows_at tables f.setting.fills)) (sym (so_far.told tables is).rows)
      (subst (λ rows. IsPrefixOf (first_made source before b m.count).rows rows) (sym (block.told tables is).rows) (front_rows source before b m.count))

  -- and in the end all of them
  pub entered_all : m.count ≡ length (items_of tree) → (tables : List (List Row)) → IsFinished f.setting.texts tables → f.entered ≡ rows_at tables f.setting.fills
  entered_all all tables is =
      (so_far.told tables is).rows
      ∙ ap (λ (x : Makes BlockEffects). x.rows) (all_made (source_of f.setting.texts) (take f.setting.fills tables) (block_with a tree) m.count all)
      ∙ sym (block.told tables is).rows

  pub agrees : (f.closed ≡ true → m.count ≡ length (items_of tree)) → WhereFinished f.setting.texts (Agrees f)
  agrees all tables is =
      let t = block.told tables is in
      record {
        scopes = t.scopes;
        standard = t.standard;
        few = t.few;
        entered = entered_first tables is;
        whole = λ closed. entered_all (all closed) tables is;
      }

-- ** The site

-- a site in the block, with this layout
pub record IsSiteOf (s : Site) (g : Setting) (a : Around) (l : Layout) (item : Option ℕ) : Type 0 where
  pub texts : s.texts.now ≡ g.texts
  pub around : s.around.now ≡ a
  pub layout : s.layout.now ≡ l
  pub item_is : s.item ≡ item

module _ (f : Frame) (s : Site) (a : Around) (tree : Stream) (m : Collected) (item : Option ℕ) (block : IsBlockOf f.setting a tree) (is : IsSiteOf s f.setting a m.layout item) (so_far : HasDeclared f a tree m) where
  pub suits : (item ≡ None → f.closed ≡ true) → (f.closed ≡ true → m.count ≡ length (items_of tree)) → SuitsSite f s
  suits done all =
      let unit = block.unit in
      let names = unit.countable in
      record {
        around = subst (λ (x : Around). Suits f x) (sym is.around)
            (record {
              fills = block.fills;
              inner = block.inner;
              exist = block.exist;
              names = omega (arith, names);
              standard = unit.standard;
              home = block.home;
              own = block.own;
              told = agrees f a tree m block so_far all;
            });
        texts = is.texts;
        chain = subst (λ (x : Around). x.chain ≡ f.setting.fills ∷ drop 1 x.chain) (sym is.around) block.chain;
        short = subst (λ (x : Around). length x.chain ≤ 18) (sym is.around) block.short;
        down = subst (λ (x : Around). Each (λ k. k < f.setting.fills) (drop 1 x.chain)) (sym is.around) block.down;
        done = λ none. done (sym is.item_is ∙ none);
      }

-- What is known of an item that is declared at this site.
pub record IsDeclaredAt (f : Frame) (s : Site) (tree : Stream) (x : Item) (cell : ℕ) (d : Declared) : Type 0 where
  pub laid : AreLaid (extended s.layout.now d.effect.brought) (length f.entered) (with_brought (item_shapes x) d.effect.brought) d.rows.items
  pub of_item : Each (λ b. s.item ≡ Some b.item) d.effect.brought
  pub next : (brought : List (List Named)) → s.item ≡ Some (length brought) → IsLayoutAt s.layout.now tree brought → IsLayoutAt (extended s.layout.now d.effect.brought) tree (brought ++ d.effect.brought ∷ [])
  pub new_rows : AreNewRows f (item_end s) (length f.entered) d.rows.items
  pub told : WhereTold f (λ held. held.rows ≡ [] → GivesAll d (declare (context_of f held s) tree.kind x cell))

-- ** Before an item

module _ (f : Frame) (s : Site) (a : Around) (tree : Stream) (m : Collected) (x : Item) (block : IsBlockOf f.setting a tree) (is : IsSiteOf s f.setting a m.layout (Some m.count))
    (here : slice_get (items_of tree) m.count ≡ Some x) (open_yet : f.closed ≡ false) (so_far : HasDeclared f a tree m) where
  parts : Splits (items_of tree) m.count x
  parts = splits (items_of tree) m.count x here

  pub at_next : IsAtItem f s tree x m.cell m.procedures
  at_next =
      let few = block.few in
      record {
        suits = suits f s a tree m (Some m.count) block is so_far (λ none. absurd (cc)) (λ closed. absurd (let bad : true ≡ false = sym closed ∙ open_yet in cc));
        small = block.small;
        begun = open_yet;
        before = take m.count (items_of tree);
        rest = drop (suc m.count) (items_of tree);
        items = parts.all;
        item = is.item_is ∙ ap Some (sym parts.count);
        brought = so_far.brought;
        of_each = so_far.of_each ∙ sym parts.count;
        layout = subst (λ (l : Layout). IsLayoutAt l tree so_far.brought) (sym is.layout) so_far.layout;
        entered = subst (λ (l : Layout). AreLaid l 0 (laid_shapes (take m.count (items_of tree)) so_far.brought) f.entered) (sym is.layout) so_far.laid;
        owned = so_far.owned;
        few = omega (arith, few);
        read = subst (λ (u : UnitTexts). IsReadItem u.names x) (sym is.texts) (each_at (IsReadItem f.setting.texts.names) (items_of tree) m.count x block.items here);
        imports = subst (λ (u : UnitTexts). IsFromBefore (source_of u) f.setting.fills x) (sym is.texts)
            (each_at (IsFromBefore (source_of f.setting.texts) f.setting.fills) (items_of tree) m.count x block.imports here);
        cells = so_far.cells;
        headings = so_far.procedures;
      }

  -- ** After it

  module _ (d : Declared) (p : IsDeclaredAt f s tree x m.cell d) where
    rows : List Row
    rows = d.rows.items

    number : suc m.count ≡ m.count + 1
    number = omega arith

    -- the type of the result can be asked for
    later_there : (o : Option Place) → IfSome o (λ t. IsThere f t) → IfSome o (λ t. IsThere (frame_with f d.rows.items) t)
    later_there None h = tt
    later_there (Some p) h =
        record {
          scope = h.scope;
          entered = λ own closed. (let before = h.entered own open_yet in let l = length-append f.entered d.rows.items in omega (arith, before, l));
        }

    first_there : (first : Bool) (o : Option Place) → IsOptionBehind f (length f.entered + length d.rows.items) o → IfSome (if first then o else m.returns) (λ t. IsThere (frame_with f d.rows.items) t)
    first_there true None h = tt
    first_there true (Some p) h =
        record { scope = h.scope; entered = λ own closed. (let before = h.before own in let l = length-append f.entered d.rows.items in omega (arith, before, l)) }
    first_there false o h = later_there m.returns so_far.there

    next_items : take m.count (items_of tree) ++ x ∷ [] ≡ take (m.count + 1) (items_of tree)
    next_items = sym parts.next ∙ ap (λ n. take n (items_of tree)) number

    -- the layout with what the item brings
    abbrev layout_next : Layout
    layout_next = extended m.layout d.effect.brought

    abbrev brought_next : List (List Named)
    brought_next = so_far.brought ++ d.effect.brought ∷ []

    next_each : length (so_far.brought ++ d.effect.brought ∷ []) ≡ m.count + 1
    next_each = let l = length-append so_far.brought (d.effect.brought ∷ []) in let e = so_far.of_each in omega (arith, l, e)

    layout_on : IsLayoutAt (extended m.layout d.effect.brought) tree (so_far.brought ++ d.effect.brought ∷ [])
    layout_on =
        subst (λ (l : Layout). IsLayoutAt (extended l d.effect.brought) tree (so_far.brought ++ d.effect.brought ∷ [])) is.layout
        (p.next so_far.brought (is.item_is ∙ ap Some (sym so_far.of_each)) (subst (λ (l : Layout). IsLayoutAt l tree so_far.brought) (sym is.layout) so_far.layout))

    laid_next : AreLaid (extended m.layout d.effect.brought) 0 (laid_shapes (take (m.count + 1) (items_of tree)) (so_far.brought ++ d.effect.brought ∷ [])) (f.entered ++ d.rows.items)
    laid_next =
        subst (λ items. AreLaid (extended m.layout d.effect.brought) 0 (laid_shapes items (so_far.brought ++ d.effect.brought ∷ [])) (f.entered ++ d.rows.items)) next_items
        (laid_on (take m.count (items_of tree)) (drop (suc m.count) (items_of tree)) x d.effect.brought so_far.layout layout_on parts.all (so_far.of_each ∙ sym parts.count) (laid-length so_far.laid) so_far.laid
        (subst (λ (l : Layout). AreLaid (extended l d.effect.brought) (length f.entered) (with_brought (item_shapes x) d.effect.brought) d.rows.items) is.layout p.laid))

    -- how many names are brought
    count_brought : length m.layout.brought ≡ length (all_brought so_far.brought)
    count_brought = let e = ap (λ (l : Layout). length l.brought) so_far.layout.layout in let n = extended_count (layout_of tree) so_far.brought in omega (arith, e, n)

    has_brought : HaveBrought (take (m.count + 1) (items_of tree)) (so_far.brought ++ d.effect.brought ∷ [])
    has_brought =
        let l = layout_on in
        let e = ap (λ (l : Layout). length l.brought) l.layout in
        let n = extended_count (layout_of tree) (so_far.brought ++ d.effect.brought ∷ []) in
        let few = l.few in
        record {
          each = subst (λ (n : ℕ). AllZip BringsIts (take n (items_of tree)) (so_far.brought ++ d.effect.brought ∷ [])) next_each l.only;
          few = omega (arith, e, n, few);
        }

    fit : length (f.entered ++ d.rows.items) ≤ most_rows tree
    fit =
        let e = laid-length laid_next in
        let most = laid_few tree (m.count + 1) (so_far.brought ++ d.effect.brought ∷ []) has_brought in
        omega (arith, e, most)

    -- so far
    entered_count : length f.entered ≡ length (flat_map item_shapes (take m.count (items_of tree))) + length m.layout.brought
    entered_count =
        let e = laid-length so_far.laid in
        let n = laid_count (take m.count (items_of tree)) so_far.brought (subst (λ (n : ℕ). AllZip BringsIts (take n (items_of tree)) so_far.brought) so_far.of_each so_far.layout.only) in
        let c = count_brought in
        omega (arith, e, n, c)

    end_first : item_end s ≤ length (f.entered ++ d.rows.items)
    end_first =
        let before = take m.count (items_of tree) in
        let at : s.item ≡ Some (length before) = is.item_is ∙ ap Some (sym parts.count) in
        let here : item_end s ≡ end_by m.layout (Some (length before)) = λ k. end_by (is.layout k) (at k) in
        let firsts : m.layout.firsts ≡ firsts_from 0 (items_of tree) = ap (λ (l : Layout). l.firsts) so_far.layout.layout ∙ extended_firsts (layout_of tree) so_far.brought in
        let within = end_within m.layout (items_of tree) before (drop (suc m.count) (items_of tree)) x firsts parts.all in
        let entered = entered_count in
        let q = laid-length p.laid in
        let w = with_count (item_shapes x) d.effect.brought in
        let l = length-append f.entered d.rows.items in
        omega (arith, here, within, entered, q, w, l)

    -- the names can be added
    order_by : (n : ℕ) (names : List Named) → n ≡ m.count → Each (λ b. b.item < n) names → Each (λ b. b.item ≤ m.count) names
    order_by n [] e h = tt
    order_by n (b ∷ names) e h = (let low : b.item < n = h.0 in omega (arith, low, e), order_by n names e h.1)

    items_by : (names : List Named) → Each (λ b. s.item ≡ Some b.item) names → Each (λ b. b.item ≡ m.count) names
    items_by [] h = tt
    items_by (b ∷ names) h = (sym (some_is m.count b.item (sym is.item_is ∙ h.0)), items_by names h.1)

    pub can_add : CanAdd m d
    can_add =
        record {
          item = items_by d.effect.brought p.of_item;
          order = order_by (length so_far.brought) m.layout.brought so_far.of_each so_far.layout.earlier;
          few = (let few = layout_on.few in let n = extended_length m.layout d.effect.brought in omega (arith, few, n));
        }

    -- where no text has a syntax error
    module _ (tables : List (List Row)) (finished : IsFinished f.setting.texts tables) where
      source : Source
      source = source_of f.setting.texts

      same_context : context_of f (hand tables []) s
          ≡ at_item
          (after_items (block_context (source_of f.setting.texts) (take f.setting.fills tables) (block_with a tree)) (first_made (source_of f.setting.texts) (take f.setting.fills tables) (block_with a tree) m.count).rows
          (first_made (source_of f.setting.texts) (take f.setting.fills tables) (block_with a tree) m.count).value.brought)
          (0 + length (take m.count (items_of tree)))
      same_context =
          let so = so_far.told tables finished in
          let b = block_with a tree in
          let n = f.setting.fills in
          let made = (first_made (source_of f.setting.texts) (take n tables) b m.count).rows in
          let entered : f.entered ++ [] ≡ made = append-nil f.entered ∙ so.rows in
          let number : s.item ≡ Some (0 + length (take m.count (items_of tree))) =
          is.item_is ∙ ap Some (let e = parts.count in let g : m.count ≡ 0 + length (take m.count (items_of tree)) = omega (arith, e) in g) in
          let scopes = (block.told tables finished).scopes in
          let fills = block.fills in
          let long : length (take n tables) ≡ n = length-take-le n tables (omega (arith, scopes)) in
          let twice : take a.scope (take n tables) ≡ take n tables = take-take a.scope n tables (omega (arith, fills)) ∙ ap (λ (k : ℕ). take k tables) fills in
          let brought = (first_made (source_of f.setting.texts) (take n tables) b m.count).value.brought in
          let layout : s.layout.now ≡ extended_by (layout_of tree) brought = is.layout ∙ so.layout in
          let left : context_of f (hand tables []) s
          ≡ record { source = source_of f.setting.texts; scene = record { block = block_of a; tables = take n tables ++ made ∷ [] }; layout = extended_by (layout_of tree) brought; item = Some (0 + length (take m.count (items_of tree))) } =
          λ k. record {
            source = source_of (is.texts k);
            scene = record { block = block_of (is.around k); tables = take n tables ++ entered k ∷ [] };
            layout = layout k;
            item = number k;
          } in
          let right = context_with (source_of f.setting.texts) (take n tables) b made (omega (arith, long, fills)) in
          let again : take a.scope (take n tables) ++ made ∷ [] ≡ take n tables ++ made ∷ [] = ap (λ ts. ts ++ made ∷ []) twice in
          let in_item : Context → Context = λ c. at_item (record c { layout = extended_by (layout_of tree) brought }) (0 + length (take m.count (items_of tree))) in
          left
          ∙ sym (ap (λ (ts : List (List Row)). in_item (record { source = source_of f.setting.texts; scene = record { block = block_of a; tables = ts }; layout = layout_of tree; item = None })) again)
          ∙ sym (ap in_item right)

      gives : GivesAll d (declare (context_of f (hand tables []) s) tree.kind x m.cell)
      gives = p.told (hand tables []) (record { closed = λ _. refl; types = tt }) finished refl

      same_makes : declare (context_of f (hand tables []) s) tree.kind x m.cell
          ≡ next_makes (block_context (source_of f.setting.texts) (take f.setting.fills tables) (block_with a tree)) tree.kind (0 + length (take m.count (items_of tree))) (first_made (source_of f.setting.texts) (take f.setting.fills tables) (block_with a tree) m.count) x
      same_makes = λ k. declare (same_context k) tree.kind x ((so_far.told tables finished).cell k)

      on : GoesOn (first_made (source_of f.setting.texts) (take f.setting.fills tables) (block_with a tree) m.count) (declare (context_of f (hand tables []) s) tree.kind x m.cell) (first_made (source_of f.setting.texts) (take f.setting.fills tables) (block_with a tree) (m.count + 1))
      on =
          let c = block_context (source_of f.setting.texts) (take f.setting.fills tables) (block_with a tree) in
          let cell = first_cell_of (take f.setting.fills tables) (block_with a tree) in
          let made = first_made (source_of f.setting.texts) (take f.setting.fills tables) (block_with a tree) m.count in
          subst (λ (one : Makes Effect). GoesOn made one (first_made (source_of f.setting.texts) (take f.setting.fills tables) (block_with a tree) (m.count + 1))) (sym same_makes)
          (subst (λ items. GoesOn made (next_makes c tree.kind (0 + length (take m.count (items_of tree))) made x) (declare_items c tree.kind 0 cell items)) next_items
          (one_more (take m.count (items_of tree)) x c tree.kind 0 cell))

      next_result : (if m.count == 0 then (declare (context_of f (hand tables []) s) tree.kind x m.cell).value.result else m.returns) ≡ first_result (source_of f.setting.texts) (take f.setting.fills tables) (block_with a tree) (m.count + 1)
      next_result =
          let b = block_with a tree in
          let before = take f.setting.fills tables in
          let c = block_context (source_of f.setting.texts) before b in
          let cell = first_cell_of before b in
          result_next c tree.kind cell (items_of tree) m.count x (declare (context_of f (hand tables []) s) tree.kind x m.cell).value.result m.returns here
          (λ none. ap (λ (z : Makes Effect). z.value.result) (same_makes ∙ first_makes c tree.kind cell (items_of tree) x m.count none))
          (so_far.told tables finished).returns

      pub made_on : IsMade (source_of f.setting.texts) (take f.setting.fills tables) (block_with a tree) (f.entered ++ d.rows.items) (with_item m d)
      made_on =
          let so = so_far.told tables finished in
          let e = gives.effect in
          record {
            layout =
                (λ k. extended (so.layout k) (e k).brought)
                ∙ sym (extended_more (layout_of tree) (first_made (source_of f.setting.texts) (take f.setting.fills tables) (block_with a tree) m.count).value.brought (declare (context_of f (hand tables []) s) tree.kind x m.cell).value.brought)
                ∙ ap (extended_by (layout_of tree)) (sym on.brought);
            rows = (λ k. so.rows k ++ gives.rows k) ∙ sym on.rows;
            cell = ap (λ (v : Effect). v.cell) e ∙ sym on.cell;
            returns = (λ k. if m.count == 0 then (e k).result else m.returns) ∙ next_result;
            copies = (λ k. so.copies k ++ (e k).prologue) ∙ sym on.copies;
            headings = (λ k. so.headings k ++ heading_list (e k).heading) ∙ sym on.headings;
            diags = (λ k. so.diags k ++ gives.diags k) ∙ sym on.diags;
            answers = (λ k. so.answers k ++ gives.answers k) ∙ sym on.answers;
          }

      next_front : IsPrefixOf (f.entered ++ d.rows.items) (rows_at tables f.setting.fills)
      next_front =
          let source = source_of f.setting.texts in
          let before = take f.setting.fills tables in
          let b = block_with a tree in
          subst (λ rows. IsPrefixOf rows (rows_at tables f.setting.fills)) (sym made_on.rows)
          (subst (λ rows. IsPrefixOf (first_made source before b (m.count + 1)).rows rows) (sym (block.told tables finished).rows) (front_rows source before b (m.count + 1)))

    enter_framed : (b : State) → CanEnter (framed b f) d.rows.items
    enter_framed b =
        record {
          open_yet = open_yet;
          room = (let l = length-append f.entered d.rows.items in let e = fit in let r = block.room in omega (arith, l, e, r));
          formed = formed_at f (item_end s) (length f.entered) d.rows.items p.new_rows;
          once = laid_once laid_next;
          next = λ tables finished. next_front tables finished;
        }

    -- the rows may be entered
    pub may_enter : (b : State) → b.frame ≡ f → CanEnter b d.rows.items
    may_enter b same = subst (λ g. CanEnter (framed b g) d.rows.items) (sym same) (enter_framed b)

    -- one more is declared
    pub one_declared : IsEffect f (length f.entered + length d.rows.items) d.effect → HasDeclared (frame_with f d.rows.items) a tree (with_item m d)
    one_declared effect =
        let more : length f.entered ≤ length (f.entered ++ d.rows.items) = let l = length-append f.entered d.rows.items in omega (arith, l) in
        let within = parts.within in
        record {
          within = omega (arith, within);
          brought = so_far.brought ++ d.effect.brought ∷ [];
          of_each = next_each;
          layout = layout_on;
          laid = laid_next;
          owned = each_append (λ r. IsOwned (length (f.entered ++ d.rows.items)) (row_meaning r)) f.entered d.rows.items
              (each_then (λ r. IsOwned (length f.entered) (row_meaning r)) (λ r. IsOwned (length (f.entered ++ d.rows.items)) (row_meaning r)) f.entered (λ r. owned_more (length f.entered) (length (f.entered ++ d.rows.items)) more (row_meaning r)) so_far.owned)
              (each_then (λ r. IsOwned (item_end s) (row_meaning r)) (λ r. IsOwned (length (f.entered ++ d.rows.items)) (row_meaning r)) d.rows.items (λ r. owned_more (item_end s) (length (f.entered ++ d.rows.items)) end_first (row_meaning r))
              (owned_rows f (item_end s) (length f.entered) d.rows.items p.new_rows));
          cells = effect.cell;
          procedures =
              (let l = ap length (filter-append is_proc f.entered d.rows.items) in
              let n = length-append (filter is_proc f.entered) (filter is_proc d.rows.items) in
              let p = so_far.procedures in
              omega (arith, l, n, p));
          there = first_there (m.count == 0) d.effect.result effect.result;
          told = λ tables finished. made_on tables finished;
        }

-- ** When all are declared

pub may_complete : (st : State) (a : Around) (tree : Stream) (m : Collected) → IsBlockOf st.frame.setting a tree → HasDeclared st.frame a tree m → st.frame.closed ≡ false → m.count ≡ length (items_of tree) → CanComplete st
may_complete st a tree m block so_far open_yet all =
    record { open_yet = open_yet; all = λ tables finished. entered_all st.frame a tree m block so_far all tables finished }
