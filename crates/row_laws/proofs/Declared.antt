-- The rows of procedures have the numbers of the procedures that the block declares.
use Rattle.std.specs.Prelude.{◌≡◌, ℕ, ◌+◌, ◌^◌, ◌<◌, ◌≤◌, Bool, true, false, if◌then◌else◌, filter, List, [], ◌∷◌, ◌++◌, length, flat_map, slice_get, Option, Some, None}
use Rattle.std.proofs.Common.{ap, subst, sym, ◌∙◌, refl, inl, inr, arith}
use Rattle.std.proofs.lemmas.List.{append-nil, append_assoc, length-append}
use Rattle.m2_base.specs.Lists.{Each, IsIn}
use Rattle.m2_base.specs.Rows.{row_meaning, place_of, number_of}
use Rattle.m2_base.specs.declared.outputs.HeadingNote.{HeadingNote}
use Rattle.m2_base.specs.declared.rows.Place.{Place}
use Rattle.m2_base.specs.declared.rows.Row.{Row}
use Rattle.m2_base.specs.declared.rows.RowMeaning.{RowMeaning}
use Rattle.m2_base.specs.declared.rows.RowMeaning.TheVariants.{Proc, ProcType}
use Rattle.m2_base.specs.declared.trees.declarations.StreamKind.{StreamKind}
use Rattle.m2_base.specs.declared.trees.declarations.StreamKind.TheVariants.{Main, Definition, Procedure}
use Rattle.m2_base.specs.Standard.{is_standard}
use Rattle.m2_base.specs.Trees.{Section, Heading}
use Rattle.m2_base.specs.Statics.BlockRows.{declare_block, declare_items, at_item, brought_in, context_of, scene_of, first_cell}
use Rattle.m2_base.specs.Statics.Blocks.{BlockTree}
use Rattle.m2_base.specs.Statics.Contexts.{Block, Context, Scene, Source}
use Rattle.m2_base.specs.Statics.Declarations.{declare}
use Rattle.m2_base.specs.Statics.Effects.{Effect, heading_list}
use Rattle.m2_base.specs.Statics.Items.{Item, heading_item, import_item, const_item, type_item, vars_item, proc_item, items_of}
use Rattle.m2_base.specs.Statics.Lookup.{has_name}
use Rattle.m2_base.specs.Statics.Makes.{Makes, scene_with, with_rows, next_place, own_rows, makes_row, makes_named}
use Rattle.m2_base.specs.Statics.ProcedureRows.{heading_note, is_proc, is_proc_meaning, parameter_cells, parameter_count, proc_number, proc_scope, result_cells, section_rows, sections_length}
use Rattle.m2_base.specs.Statics.ProcedureTypes.{result_type}
use Rattle.m2_base.specs.Statics.ShapedRows.{AreShaped}
use Rattle.m2_base.specs.Statics.Shapes.{Shape, section_shapes}
use Rattle.m2_base.proofs.EachLaws.{each_append, each_then}
use Rattle.m2_base.proofs.ItemLaws.{item_of, sections_of}
use Rattle.m2_base.proofs.NoRepeats.{scene_empty}
use Rattle.m2_base.proofs.RowLaws.{place_of-number_of}
use Rattle.m2_base.proofs.SceneLaws.{own_of, own-with, with-none}
use Rattle.m2_base.proofs.Sound.{next_of}
use Rattle.m2_base.proofs.SoundTypes.{either}
use Rattle.row_laws.specs.Procedures.{HasNumber, IsDeclared}
use Rattle.row_laws.proofs.Numbers.{AllAgree}
use Rattle.row_laws.proofs.Agreeing.{Ready, agree-left, agree-right, ready-left, ready-right, ready-then}
use Rattle.row_laws.proofs.Choices.{named_each}
use Rattle.row_laws.proofs.ImportedRows.{alias_shapes, import_aliases, own_shaped, ready-item, ready-next}
use Rattle.row_laws.proofs.Closed.{IsClosed, closed_with}
use Rattle.row_laws.proofs.PlainShapes.{IsNoProcedure, no_procedures}
use Rattle.row_laws.proofs.Signatures.{IsRawType, Under, type_made_raw, under-left, under-right}
use Rattle.row_laws.proofs.TypeShapes.{HaveKinds, item_kinds, kind_of_meaning, sections_kinds, shaped_means}

-- ** Rows of other kinds

-- the meaning is no procedure's
abbrev IsNone : RowMeaning → Type 0
IsNone m = is_proc_meaning m ≡ false

other_none : (m : RowMeaning) → IsNoProcedure (kind_of_meaning m) → IsNone m
other_none (Proc t k s) h = absurd (cc)
other_none m h = refl

shaped_none : (shapes : List Shape) (rows : List Row) → AreShaped shapes rows → HaveKinds IsNoProcedure shapes → Each (λ r. IsNone (row_meaning r)) rows
shaped_none shapes rows is h =
    each_then (λ (r : Row). IsNoProcedure (kind_of_meaning (row_meaning r))) (λ (r : Row). IsNone (row_meaning r)) rows (λ r. other_none (row_meaning r)) (shaped_means IsNoProcedure refl shapes rows is h)

-- ** What isn't a procedure's is declared so

none_declared : (Q : Heading → Place → Type 0) (kind : StreamKind) (b : Block) (notes : List HeadingNote) (items : List Item) (m : RowMeaning) → IsNone m → IsDeclared Q kind b notes items m
none_declared Q kind b notes items (Proc t k s) h = absurd (cc)
none_declared Q kind b notes items m h = tt

abbrev AreDeclared : (Heading → Place → Type 0) → StreamKind → Block → List HeadingNote → List Item → List Row → Type 0
AreDeclared Q kind b notes items rows = Each (λ r. IsDeclared Q kind b notes items (row_meaning r)) rows

nones_declared : (Q : Heading → Place → Type 0) (kind : StreamKind) (b : Block) (notes : List HeadingNote) (items : List Item) (rows : List Row) → Each (λ r. IsNone (row_meaning r)) rows → AreDeclared Q kind b notes items rows
nones_declared Q kind b notes items [] h = tt
nones_declared Q kind b notes items (r ∷ rows) h = (none_declared Q kind b notes items (row_meaning r) h.0, nones_declared Q kind b notes items rows h.1)

nones_counted : (rows : List Row) → Each (λ r. IsNone (row_meaning r)) rows → length (filter is_proc rows) ≡ 0
nones_counted [] h = refl
nones_counted (r ∷ rows) h = ap (λ b. length (if b then r ∷ filter is_proc rows else filter is_proc rows)) h.0 ∙ nones_counted rows h.1

filter_append : {A : Type 0} (p : A → Bool) (xs ys : List A) → length (filter p (xs ++ ys)) ≡ length (filter p xs) + length (filter p ys)
filter_append p [] ys = omega arith
filter_append {A} p (x ∷ xs) ys = by_test (p x) (filter_append p xs ys)
  where
    by_test : (b : Bool) → length (filter p (xs ++ ys)) ≡ length (filter p xs) + length (filter p ys)
        → length (if b then x ∷ filter p (xs ++ ys) else filter p (xs ++ ys)) ≡ length (if b then x ∷ filter p xs else filter p xs) + length (filter p ys)
    by_test true h = omega (arith, h)
    by_test false h = h

next_note : (front : List HeadingNote) (note : HeadingNote) (rest : List HeadingNote) → slice_get (front ++ note ∷ rest) (length front) ≡ Some note
next_note [] note rest = refl
next_note (x ∷ front) note rest = next_note front note rest

-- ** Items

-- the notes so far are as many as the procedures' rows, in a definition
abbrev IsInStep : StreamKind → List HeadingNote → List Row → Type 0
IsInStep Definition notes rows = length notes ≡ length (filter is_proc rows)
IsInStep kind notes rows = Unit {0}

-- what an item makes: rows that are declared, and as many notes as procedures' rows
record Declared (Q : Heading → Place → Type 0) (kind : StreamKind) (b : Block) (items : List Item) (front more : List HeadingNote) (rows : List Row) (m : Makes Effect) : Type 0 where
  declared : AreDeclared Q kind b (front ++ (heading_list m.value.heading ++ more)) items m.rows
  in_step : IsInStep kind (front ++ heading_list m.value.heading) (rows ++ m.rows)

same_step : (kind : StreamKind) (front : List HeadingNote) (rows more : List Row) → Each (λ r. IsNone (row_meaning r)) more → IsInStep kind front rows → IsInStep kind (front ++ []) (rows ++ more)
same_step Definition front rows more none h =
    let e = filter_append is_proc rows more in
    let z = nones_counted more none in
    let f = ap length (append-nil front) in
    omega (arith, e, z, f, h)
same_step Main front rows more none h = tt
same_step Procedure front rows more none h = tt

-- an item that declares no procedure
plain_declared : (Q : Heading → Place → Type 0) (kind : StreamKind) (b : Block) (items : List Item) (front more : List HeadingNote) (rows : List Row) (m : Makes Effect) → m.value.heading ≡ None → Each (λ r. IsNone (row_meaning r)) m.rows
    → IsInStep kind front rows → Declared Q kind b items front more rows m
plain_declared Q kind b items front more rows m none h step =
    record {
      declared = nones_declared Q kind b (front ++ (heading_list m.value.heading ++ more)) items m.rows h;
      in_step = subst (λ o. IsInStep kind (front ++ heading_list o) (rows ++ m.rows)) (sym none) (same_step kind front rows m.rows h step);
    }

-- a procedure's row with a name or without one is one row of a procedure
named_count : (c : Context) (name at : ℕ) (t : Place) (k s : ℕ) → length (filter is_proc (makes_named c name at (Proc t k s)).rows) ≡ 1
named_count c name at t k s =
    either (λ (x : Makes Place). length (filter is_proc x.rows) ≡ 1) (is_standard name) _ _ refl
    (either (λ (x : Makes Place). length (filter is_proc x.rows) ≡ 1) (has_name c.scene.tables c.scene.block.scope name) _ _ refl refl)

result_none : (e : Context) (at : ℕ) (r : Option Place) (k first : ℕ) → Each (λ r. IsNone (row_meaning r)) (makes_row e at (ProcType r k first)).rows
result_none e at None k first = (refl, tt)
result_none e at (Some r) k first = (refl, tt)

-- the number that a procedure's row has
number_is : (c : Context) (kind : StreamKind) (h : Heading) (stream : ℕ) (front more : List HeadingNote) → IsInStep kind front (own_rows c)
    → HasNumber kind c.scene.block (front ++ (heading_list (heading_note kind h (proc_number c kind stream)) ++ more)) h stream (proc_number c kind stream)
number_is c Definition h stream front more step =
    let note : HeadingNote = record { name = h.name.name; number = length (filter is_proc (own_rows c)); params = parameter_cells h.sections; result = result_cells h.result } in
    ap (λ n. slice_get (front ++ note ∷ more) n) (sym step) ∙ next_note front note more
number_is c Main h stream front more step = refl
number_is c Procedure h stream front more step = refl

notes_step : (c : Context) (kind : StreamKind) (h : Heading) (number : ℕ) (front : List HeadingNote) (before rows : List Row) → length (filter is_proc rows) ≡ 1 → IsInStep kind front before
    → IsInStep kind (front ++ heading_list (heading_note kind h number)) (before ++ rows)
notes_step c Definition h number front before rows one step =
    let e = filter_append is_proc before rows in
    let note : HeadingNote = record { name = h.name.name; number = number; params = parameter_cells h.sections; result = result_cells h.result } in
    let f = length-append front (note ∷ []) in
    omega (arith, e, f, one, step)
notes_step c Main h number front before rows one step = tt
notes_step c Procedure h number front before rows one step = tt

-- the sections make as many rows as the syntax says
sections_count : (sections : List Section) → length (flat_map section_shapes sections) ≡ sections_length sections
sections_count [] = refl
sections_count (s ∷ sections) =
    let e = length-append (section_shapes s) (flat_map section_shapes sections) in
    let rest = sections_count sections in
    omega (arith, e, rest)

module _ (names : ℕ) (final : Scene) where
  abbrev Q : Heading → Place → Type 0
  Q h t = IsRawType final h t

  proc_declared : (h : Heading) (stream : ℕ) (c : Context) (kind : StreamKind) (cell : ℕ) (items : List Item) (front more : List HeadingNote) → IsIn (proc_item h stream) items
      → Ready names c (declare c kind (proc_item h stream) cell).rows → Under c.scene (declare c kind (proc_item h stream) cell).rows final → IsClosed c.scene → IsInStep kind front (own_rows c) → Declared Q kind c.scene.block items front more (own_rows c) (declare c kind (proc_item h stream) cell)
  proc_declared h stream c kind cell items front more is_in ready under closed step =
      let start = (next_place c).ordinal in
      let own = start + sections_length h.sections in
      let made = section_rows c own h.sections in
      let d = with_rows c made.rows in
      let r = (result_type d h.result).value in
      let e = with_rows d [] in
      let t = makes_row e h.name.at (ProcType r (parameter_count h.sections) start) in
      let f = with_rows e t.rows in
      let number = proc_number c kind stream in
      let p = makes_named f h.name.name h.name.at (Proc t.value number (proc_scope kind stream)) in
      let left = ready-left (made.rows ++ (t.rows ++ (p.rows ++ []))) [] ready in
      let at_type = ready-then (ready-right made.rows _ left) in
      let few = at_type.sound.scene.few in
      let small : t.value.ordinal < 2 ^ 32 = omega (arith, few) in
      let notes = front ++ (heading_list (heading_note kind h number) ++ more) in
      let P : Row → Type 0 = λ (x : Row). IsDeclared Q kind c.scene.block notes items (row_meaning x) in
      let back = p.rows ++ [] in
      let raw = type_made_raw names final h c back left (under-left (made.rows ++ (t.rows ++ back)) [] under) closed (sections_count h.sections) in
      let typed : IsRawType final h (place_of (number_of t.value)) =
      subst (IsRawType final h) (sym (place_of-number_of t.value small)) (subst (λ s. IsRawType final h (next_of s)) (sym (with-none d.scene)) raw) in
      let none = shaped_none _ made.rows (sections_of h.sections c own) (sections_kinds IsNoProcedure no_procedures h.sections) in
      let none_type = result_none e h.name.at r (parameter_count h.sections) start in
      let row : Each P p.rows = named_each P f h.name.name h.name.at (Proc t.value number (proc_scope kind stream))
      (λ n. (h, stream, is_in, refl, number_is c kind h stream front more step, ap (λ (q : Place). q.scope) (place_of-number_of t.value small), typed)) in
      let rows = made.rows ++ (t.rows ++ (p.rows ++ [])) in
      let count : length (filter is_proc (rows ++ [])) ≡ 1 =
      let a = filter_append is_proc rows [] in
      let b = filter_append is_proc made.rows (t.rows ++ (p.rows ++ [])) in
      let x = filter_append is_proc t.rows (p.rows ++ []) in
      let y = filter_append is_proc p.rows [] in
      let z = nones_counted made.rows none in
      let w = nones_counted t.rows none_type in
      let one = named_count f h.name.name h.name.at t.value number (proc_scope kind stream) in
      omega (arith, a, b, x, y, z, w, one) in
      record {
        declared = each_append P rows [] (each_append P made.rows (t.rows ++ (p.rows ++ [])) (nones_declared Q kind c.scene.block notes items made.rows none)
            (each_append P t.rows (p.rows ++ []) (nones_declared Q kind c.scene.block notes items t.rows none_type) (each_append P p.rows [] row tt))) tt;
        in_step = notes_step c kind h number front (own_rows c) (rows ++ []) count step;
      }

  item_declared : (x : Item) (c : Context) (kind : StreamKind) (cell : ℕ) (items : List Item) (front more : List HeadingNote) → IsIn x items
      → Ready names c (declare c kind x cell).rows → Under c.scene (declare c kind x cell).rows final → IsClosed c.scene → IsInStep kind front (own_rows c) → Declared Q kind c.scene.block items front more (own_rows c) (declare c kind x cell)
  item_declared (heading_item h) c kind cell items front more is_in ready under closed step =
      plain_declared Q kind c.scene.block items front more (own_rows c) _ refl (shaped_none _ _ (item_of (heading_item h) c kind cell) (item_kinds IsNoProcedure no_procedures (heading_item h) refl)) step
  item_declared (import_item None i) c kind cell items front more is_in ready under closed step =
      plain_declared Q kind c.scene.block items front more (own_rows c) _ refl (shaped_none _ _ (item_of (import_item None i) c kind cell) (refl, tt)) step
  item_declared (import_item (Some m) i) c kind cell items front more is_in ready under closed step =
      plain_declared Q kind c.scene.block items front more (own_rows c) _ refl (shaped_none _ _ (own_shaped _) (alias_shapes IsNoProcedure refl _ (import_aliases m i c kind cell))) step
  item_declared (const_item i e) c kind cell items front more is_in ready under closed step =
      plain_declared Q kind c.scene.block items front more (own_rows c) _ refl (shaped_none _ _ (item_of (const_item i e) c kind cell) (refl, tt)) step
  item_declared (type_item i t) c kind cell items front more is_in ready under closed step =
      plain_declared Q kind c.scene.block items front more (own_rows c) _ refl (shaped_none _ _ (item_of (type_item i t) c kind cell) (item_kinds IsNoProcedure no_procedures (type_item i t) refl)) step
  item_declared (vars_item idents t) c kind cell items front more is_in ready under closed step =
      plain_declared Q kind c.scene.block items front more (own_rows c) _ refl (shaped_none _ _ (item_of (vars_item idents t) c kind cell) (item_kinds IsNoProcedure no_procedures (vars_item idents t) refl)) step
  item_declared (proc_item h stream) c kind cell items front more is_in ready under closed step = proc_declared h stream c kind cell items front more is_in ready under closed step

  items_declared : (xs : List Item) (c : Context) (kind : StreamKind) (i cell : ℕ) (items : List Item) (front : List HeadingNote) → ((x : Item) → IsIn x xs → IsIn x items)
      → Ready names c (declare_items c kind i cell xs).rows → Under c.scene (declare_items c kind i cell xs).rows final → AllAgree c.scene (declare_items c kind i cell xs).rows → IsClosed c.scene → IsInStep kind front (own_rows c)
      → AreDeclared Q kind c.scene.block (front ++ (declare_items c kind i cell xs).value.headings) items (declare_items c kind i cell xs).rows
  items_declared [] c kind i cell items front within ready under agree closed step = tt
  items_declared (x ∷ xs) c kind i cell items front within ready under agree closed step =
      let a = at_item c i in
      let m = declare a kind x cell in
      let d = brought_in (with_rows c m.rows) m.value.brought in
      let more = declare_items d kind (i + 1) m.value.cell xs in
      let ra = ready-item c i (ready-left m.rows (more.rows ++ []) ready) in
      let first = item_declared x a kind cell items front more.value.headings (within x (inl refl)) ra (under-left m.rows (more.rows ++ []) under) closed step in
      let behind = ready-left more.rows [] (ready-next c x kind i cell (more.rows ++ []) ready) in
      let next : List HeadingNote = front ++ heading_list m.value.heading in
      let rest = items_declared xs d kind (i + 1) m.value.cell items next (λ y h. within y (inr h)) behind
      (under-left more.rows [] (under-right m.rows (more.rows ++ []) under)) (agree-left more.rows [] (agree-right m.rows (more.rows ++ []) agree))
      (closed_with names a m.rows ra (agree-left m.rows (more.rows ++ []) agree) closed)
      (subst (IsInStep kind next) (sym (own-with c.scene m.rows ready.sound.scene.room)) first.in_step) in
      let notes = front ++ (heading_list m.value.heading ++ more.value.headings) in
      let P : Row → Type 0 = λ (r : Row). IsDeclared Q kind c.scene.block notes items (row_meaning r) in
      each_append P m.rows (more.rows ++ []) first.declared
      (each_append P more.rows [] (subst (λ ns. AreDeclared Q kind c.scene.block ns items more.rows) (append_assoc front (heading_list m.value.heading) more.value.headings) rest) tt)

  start_step : (kind : StreamKind) (rows : List Row) → rows ≡ [] → IsInStep kind [] rows
  start_step Definition rows e = sym (ap (λ (rs : List Row). length (filter is_proc rs)) e)
  start_step Main rows e = tt
  start_step Procedure rows e = tt

  block_under : (source : Source) (tables : List (List Row)) (b : BlockTree) → b.block.scope ≤ length tables → Ready names (context_of source tables b) (declare_block source tables b).rows
      → AllAgree (scene_of tables b.block) (declare_block source tables b).rows → IsClosed (scene_of tables b.block) → Under (scene_of tables b.block) (declare_block source tables b).rows final
      → Each (λ r. IsDeclared Q b.tree.kind b.block (declare_block source tables b).value.headings (items_of b.tree) (row_meaning r)) (declare_block source tables b).rows
  unfolding declare_block
  block_under source tables b before ready agree closed under =
      items_declared (items_of b.tree) (context_of source tables b) b.tree.kind 0 (first_cell (scene_of tables b.block) b.tree.kind b.block.own) (items_of b.tree) [] (λ x h. h) ready under agree closed
      (start_step b.tree.kind (own_of (scene_of tables b.block)) (scene_empty tables b.block before))

-- the rows of procedures of a block are those of its items, with their types
pub block_declared : (names : ℕ) (source : Source) (tables : List (List Row)) (b : BlockTree) → b.block.scope ≤ length tables → Ready names (context_of source tables b) (declare_block source tables b).rows
    → AllAgree (scene_of tables b.block) (declare_block source tables b).rows → IsClosed (scene_of tables b.block)
    → Each (λ r. IsDeclared (IsRawType (scene_with (scene_of tables b.block) (declare_block source tables b).rows)) b.tree.kind b.block (declare_block source tables b).value.headings (items_of b.tree) (row_meaning r))
    (declare_block source tables b).rows
block_declared names source tables b before ready agree closed =
    let rows = (declare_block source tables b).rows in
    block_under names (scene_with (scene_of tables b.block) rows) source tables b before ready agree closed
    (record { tail = []; same = ap (scene_with (scene_of tables b.block)) (sym (append-nil rows)) })
