-- A block without diagnostics notes the headings of its procedures' rows, in their order: each by its name and its number.
use Rattle.std.specs.Prelude.{◌≡◌, refl, ℕ, suc, ◌+◌, ◌≤◌, ◌==◌, Bool, true, false, filter, if◌then◌else◌, List, [], ◌∷◌, ◌++◌, flat_map, length, map, slice_get, unwrap_or, Option, Some, None}
use Rattle.std.proofs.Common.{ap, subst, sym, ◌∙◌, arith, append_assoc, inl, inr}
use Rattle.std.proofs.lemmas.List.{append-nil, length-append}
use Rattle.m2_base.specs.Lists.{Each, IsIn}
use Rattle.m2_base.specs.Rows.{row_of, row_meaning, proc_kind}
use Rattle.m2_base.specs.Standard.{is_standard}
use Rattle.m2_base.specs.Statics.BlockRows.{at_item, brought_in, context_of, declare_block, declare_items, first_cell, scene_of}
use Rattle.m2_base.specs.Statics.Blocks.{BlockTree}
use Rattle.m2_base.specs.Statics.Contexts.{Context, Source, diag, scope_of_module}
use Rattle.m2_base.specs.Statics.Declarations.{declare}
use Rattle.m2_base.specs.Statics.Diagnostics.{declared_twice, standard_declared}
use Rattle.m2_base.specs.Statics.Effects.{heading_list}
use Rattle.m2_base.specs.Statics.Items.{Item, const_item, heading_item, import_item, items_of, proc_item, type_item, vars_item}
use Rattle.m2_base.specs.Statics.Lookup.{has_name}
use Rattle.m2_base.specs.Statics.Makes.{Makes, makes_named, makes_row, next_place, one_row, own_rows, with_rows}
use Rattle.m2_base.specs.Statics.ProcedureRows.{heading_note, is_proc, is_proc_meaning, parameter_count, proc_number, proc_scope, section_rows, sections_length}
use Rattle.m2_base.specs.Statics.ProcedureTypes.{result_type}
use Rattle.m2_base.specs.Statics.ShapedRows.{AreShaped}
use Rattle.m2_base.specs.Statics.Shapes.{Shape, item_shapes, section_shapes}
use Rattle.m2_base.specs.Tables.{first_named}
use Rattle.m2_base.specs.Statics.ImportRows.{alias_row, place_or_broken}
use Rattle.m2_base.specs.Statics.ImportedConstants.{Member, are_too_many, brought_names, members_of, new_members}
use Rattle.m2_base.specs.Statics.Layouts.{brought_shape, with_brought}
use Rattle.m2_base.specs.Statics.Uses.{use_of}
use Rattle.m2_base.specs.Trees.{Heading}
use Rattle.m2_base.specs.declared.outputs.HeadingNote.{HeadingNote}
use Rattle.m2_base.specs.declared.rows.Place.{Place}
use Rattle.m2_base.specs.declared.rows.Row.{Row}
use Rattle.m2_base.specs.declared.rows.RowMeaning.TheVariants.{Proc, ProcType}
use Rattle.m2_base.specs.declared.rows.RowMeaning.{RowMeaning}
use Rattle.m2_base.specs.declared.sites.Named.{Named}
use Rattle.m2_base.specs.declared.trees.Ident.{Ident}
use Rattle.m2_base.specs.declared.trees.declarations.StreamKind.{StreamKind}
use Rattle.m2_base.specs.declared.trees.declarations.StreamKind.TheVariants.{Definition, Main, Procedure}
use Rattle.m2_base.proofs.ItemLaws.{item_of, sections_of}
use Rattle.m2_base.proofs.NoRepeats.{scene_empty, scene_open}
use Rattle.m2_base.proofs.SceneLaws.{IsOpen, open-with, own-with}
use Rattle.m2_base.proofs.SoundTypes.{either}
use Rattle.row_laws.proofs.Joined.{none_left}
use Rattle.row_laws.proofs.PlainShapes.{IsNoProcedure, no_procedures}
use Rattle.row_laws.proofs.TypeShapes.{HaveKinds, MeanKinds, item_kinds, kind_of_meaning, sections_kinds, shaped_means}
use Rattle.block_laws.proofs.NamedHeadings.{last_none}

-- ** The tags of procedures

-- the name and the number of a procedure's row
abbrev pub tag_by : (name : ℕ) → RowMeaning → List (ℕ × ℕ)
tag_by name (Proc t k s) = (name, k) ∷ []
tag_by name other = []

abbrev pub tags : List Row → List (ℕ × ℕ)
tags [] = []
tags (r ∷ rows) = tag_by r.name (row_meaning r) ++ tags rows

-- the same of the notes of headings
abbrev pub noted : List HeadingNote → List (ℕ × ℕ)
noted notes = map (λ h. (h.name, h.number)) notes

tags_append : (xs ys : List Row) → tags (xs ++ ys) ≡ tags xs ++ tags ys
tags_append [] ys = refl
tags_append (x ∷ xs) ys = ap (λ ts. tag_by x.name (row_meaning x) ++ ts) (tags_append xs ys) ∙ sym (append_assoc (tag_by x.name (row_meaning x)) (tags xs) (tags ys))

noted_append : (xs ys : List HeadingNote) → noted (xs ++ ys) ≡ noted xs ++ noted ys
noted_append [] ys = refl
noted_append (x ∷ xs) ys = ap (λ ts. (x.name, x.number) ∷ ts) (noted_append xs ys)

-- ** Rows that are no procedure's

other_untagged : (name : ℕ) (m : RowMeaning) → IsNoProcedure (kind_of_meaning m) → tag_by name m ≡ []
other_untagged name (Proc t k s) h = absurd cc
other_untagged name m h = refl

others_untagged : (rows : List Row) → MeanKinds IsNoProcedure rows → tags rows ≡ []
others_untagged [] h = refl
others_untagged (r ∷ rows) h = ap (λ ts. ts ++ tags rows) (other_untagged r.name (row_meaning r) h.0) ∙ others_untagged rows h.1

-- no shape is a procedure's
abbrev AreOther : List Shape → Type 0
AreOther shapes = HaveKinds IsNoProcedure shapes

shaped_untagged : (shapes : List Shape) (rows : List Row) → AreShaped shapes rows → AreOther shapes → tags rows ≡ []
shaped_untagged shapes rows is h = others_untagged rows (shaped_means IsNoProcedure refl shapes rows is h)

-- ** A procedure's row

named_tagged : (c : Context) (name at : ℕ) (t : Place) (k s : ℕ) → (makes_named c name at (Proc t k s)).diags ≡ [] → tags (makes_named c name at (Proc t k s)).rows ≡ (name, k) ∷ []
named_tagged c name at t k s none = by_tests (is_standard name) (has_name c.scene.tables c.scene.block.scope name) none
  where
    by_tests : (v w : Bool)
        → (if v then one_row c (row_of 0 at (Proc t k s)) (diag c at standard_declared ∷ []) else if w then one_row c (row_of 0 at (Proc t k s)) (diag c at declared_twice ∷ []) else one_row c (row_of name at (Proc t k s)) []).diags ≡ []
        → tags (if v then one_row c (row_of 0 at (Proc t k s)) (diag c at standard_declared ∷ []) else if w then one_row c (row_of 0 at (Proc t k s)) (diag c at declared_twice ∷ []) else one_row c (row_of name at (Proc t k s)) []).rows ≡ (name, k) ∷ []
    by_tests true w f = absurd cc
    by_tests false true f = absurd cc
    by_tests false false f = refl

type_untagged : (e : Context) (at : ℕ) (r : Option Place) (k first : ℕ) → tags (makes_row e at (ProcType r k first)).rows ≡ []
type_untagged e at None k first = refl
type_untagged e at (Some r) k first = refl

procedure_tagged : (h : Heading) (stream : ℕ) (c : Context) (kind : StreamKind) (cell : ℕ) → (declare c kind (proc_item h stream) cell).diags ≡ []
    → tags (declare c kind (proc_item h stream) cell).rows ≡ (h.name.name, proc_number c kind stream) ∷ []
procedure_tagged h stream c kind cell none =
    let first = (next_place c).ordinal in
    let sections = section_rows c (first + sections_length h.sections) h.sections in
    let d = with_rows c sections.rows in
    let result = result_type d h.result in
    let e = with_rows d [] in
    let typ = makes_row e h.name.at (ProcType result.value (parameter_count h.sections) first) in
    let f = with_rows e typ.rows in
    let row = makes_named f h.name.name h.name.at (Proc typ.value (proc_number c kind stream) (proc_scope kind stream)) in
    let quiet : row.diags ≡ [] = last_none sections.diags result.diags typ.diags row.diags none in
    let tail : List (ℕ × ℕ) = (h.name.name, proc_number c kind stream) ∷ [] in
    tags_append (sections.rows ++ (typ.rows ++ (row.rows ++ []))) []
    ∙ append-nil (tags (sections.rows ++ (typ.rows ++ (row.rows ++ []))))
    ∙ tags_append sections.rows (typ.rows ++ (row.rows ++ []))
    ∙ ap (λ ts. ts ++ tags (typ.rows ++ (row.rows ++ []))) (shaped_untagged (flat_map section_shapes h.sections) sections.rows (sections_of h.sections c (first + sections_length h.sections)) (sections_kinds IsNoProcedure no_procedures h.sections))
    ∙ tags_append typ.rows (row.rows ++ [])
    ∙ ap (λ ts. ts ++ tags (row.rows ++ [])) (type_untagged e h.name.at result.value (parameter_count h.sections) first)
    ∙ tags_append row.rows [] ∙ append-nil (tags row.rows)
    ∙ named_tagged f h.name.name h.name.at typ.value (proc_number c kind stream) (proc_scope kind stream) quiet

-- ** Items

-- a block of this kind notes its headings
abbrev pub NotesHeadings : StreamKind → Type 0
NotesHeadings Procedure = ⊥
NotesHeadings kind = Unit {0}

note_tagged : (kind : StreamKind) (h : Heading) (number : ℕ) → NotesHeadings kind → noted (heading_list (heading_note kind h number)) ≡ (h.name.name, number) ∷ []
note_tagged Procedure h number is = absurd is
note_tagged Main h number is = refl
note_tagged Definition h number is = refl

-- what an import brings is no procedure
names_other : (item o at : ℕ) (ms : List Member) → Each (λ (b : Named). (b.kind == proc_kind) ≡ false) (brought_names item o at ms)
names_other item o at [] = tt
names_other item o at (m ∷ ms) = (refl, names_other item (o + 1) at ms)

brought_other : (shapes : List Shape) (brought : List Named) → AreOther shapes → Each (λ (b : Named). (b.kind == proc_kind) ≡ false) brought → AreOther (with_brought shapes brought)
brought_other shapes [] h k = h
brought_other shapes (b ∷ brought) h k = others shapes h
  where
    shaped : (brought : List Named) → Each (λ (b : Named). (b.kind == proc_kind) ≡ false) brought → AreOther (map brought_shape brought)
    shaped [] k = tt
    shaped (b ∷ brought) k = (k.0, shaped brought k.1)

    others : (shapes : List Shape) → AreOther shapes → AreOther (shapes ++ brought_shape b ∷ map brought_shape brought)
    others [] h = (k.0, shaped brought k.1)
    others (s ∷ shapes) h = (h.0, others shapes h.1)

import_other : (m i : Ident) (c : Context) (kind : StreamKind) (cell : ℕ) → AreOther (with_brought (item_shapes (import_item (Some m) i)) (declare c kind (import_item (Some m) i) cell).value.brought)
import_other m i c kind cell =
    let e = (use_of c (Some (scope_of_module c.source m.name)) i.name i.at).value in
    let d = with_rows c [] in
    let f = with_rows d (alias_row d i (place_or_broken e)).rows in
    let new = new_members f [] (members_of f.scene e) in
    brought_other _ _ (refl, tt)
    (either (λ (x : Makes (List Named)). Each (λ (b : Named). (b.kind == proc_kind) ≡ false) x.value) (are_too_many f new) _ _ tt
    (names_other (unwrap_or f.item 0) (length (own_rows f)) i.at new))

item_tagged : (x : Item) (c : Context) (kind : StreamKind) (cell : ℕ) → NotesHeadings kind → (declare c kind x cell).diags ≡ []
    → tags (declare c kind x cell).rows ≡ noted (heading_list (declare c kind x cell).value.heading)
item_tagged (heading_item h) c kind cell is none = shaped_untagged _ _ (item_of (heading_item h) c kind cell) (item_kinds IsNoProcedure no_procedures (heading_item h) refl)
item_tagged (import_item None i) c kind cell is none = shaped_untagged _ _ (item_of (import_item None i) c kind cell) (refl, tt)
item_tagged (import_item (Some m) i) c kind cell is none = shaped_untagged _ _ (item_of (import_item (Some m) i) c kind cell) (import_other m i c kind cell)
item_tagged (const_item i e) c kind cell is none = shaped_untagged _ _ (item_of (const_item i e) c kind cell) (refl, tt)
item_tagged (type_item i t) c kind cell is none =
    shaped_untagged _ _ (item_of (type_item i t) c kind cell) (item_kinds IsNoProcedure no_procedures (type_item i t) refl)
item_tagged (vars_item idents t) c kind cell is none =
    shaped_untagged _ _ (item_of (vars_item idents t) c kind cell) (item_kinds IsNoProcedure no_procedures (vars_item idents t) refl)
item_tagged (proc_item h stream) c kind cell is none =
    procedure_tagged h stream c kind cell none ∙ sym (note_tagged kind h (proc_number c kind stream) is)

items_tagged : (items : List Item) (c : Context) (kind : StreamKind) (i cell : ℕ) → NotesHeadings kind → (declare_items c kind i cell items).diags ≡ []
    → tags (declare_items c kind i cell items).rows ≡ noted (declare_items c kind i cell items).value.headings
items_tagged [] c kind i cell is none = refl
items_tagged (x ∷ items) c kind i cell is none =
    let a = at_item c i in
    let m = declare a kind x cell in
    let d = brought_in (with_rows c m.rows) m.value.brought in
    let more = declare_items d kind (i + 1) m.value.cell items in
    let parts = none_left m.diags (more.diags ++ []) none in
    tags_append m.rows (more.rows ++ [])
    ∙ ap (λ ts. tags m.rows ++ ts) (tags_append more.rows [] ∙ append-nil (tags more.rows))
    ∙ ap (λ ts. ts ++ tags more.rows) (item_tagged x a kind cell is parts.0)
    ∙ ap (λ ts. noted (heading_list m.value.heading) ++ ts) (items_tagged items d kind (i + 1) m.value.cell is (none_left more.diags [] parts.1).0)
    ∙ sym (noted_append (heading_list m.value.heading) more.value.headings)

pub block_tagged : (source : Source) (tables : List (List Row)) (b : BlockTree) → NotesHeadings b.tree.kind → (declare_block source tables b).diags ≡ []
    → tags (declare_block source tables b).rows ≡ noted (declare_block source tables b).value.headings
unfolding declare_block
block_tagged source tables b is none = items_tagged (items_of b.tree) (context_of source tables b) b.tree.kind 0 (first_cell (scene_of tables b.block) b.tree.kind b.block.own) is none

-- ** The numbers of a definition's headings

-- the notes have the numbers from this one on
abbrev pub NumberedFrom : ℕ → List HeadingNote → Type 0
NumberedFrom n [] = Unit {0}
NumberedFrom n (h ∷ notes) = (h.number ≡ n) × NumberedFrom (n + 1) notes

procs_counted : (rows : List Row) → length (filter is_proc rows) ≡ length (tags rows)
procs_counted [] = refl
procs_counted (r ∷ rows) = by (row_meaning r) (procs_counted rows)
  where
    by : (m : RowMeaning) → length (filter is_proc rows) ≡ length (tags rows) → length (if is_proc_meaning m then r ∷ filter is_proc rows else filter is_proc rows) ≡ length (tag_by r.name m ++ tags rows)
    by (Proc t k s) e = omega (arith, e)
    by m e = e

items_numbered : (items : List Item) (c : Context) (i cell : ℕ) → IsOpen c.scene → (declare_items c Definition i cell items).diags ≡ []
    → NumberedFrom (length (tags (own_rows c))) (declare_items c Definition i cell items).value.headings
items_numbered [] c i cell room none = tt
items_numbered (x ∷ items) c i cell room none =
    let a = at_item c i in
    let m = declare a Definition x cell in
    let d = brought_in (with_rows c m.rows) m.value.brought in
    let more = declare_items d Definition (i + 1) m.value.cell items in
    let parts = none_left m.diags (more.diags ++ []) none in
    let own : tags (own_rows d) ≡ tags (own_rows c) ++ noted (heading_list m.value.heading) =
    ap tags (own-with c.scene m.rows room) ∙ tags_append (own_rows c) m.rows ∙ ap (λ ts. tags (own_rows c) ++ ts) (item_tagged x a Definition cell tt parts.0) in
    let rest = items_numbered items d (i + 1) m.value.cell (open-with c.scene m.rows room) (none_left more.diags [] parts.1).0 in
    joined x (length (tags (own_rows c))) (length (tags (own_rows d))) more.value.headings (procs_counted (own_rows c)) (ap length own ∙ length-append (tags (own_rows c)) (noted (heading_list m.value.heading))) rest
  where
    joined : (x : Item) (n n' : ℕ) (more : List HeadingNote) → length (filter is_proc (own_rows c)) ≡ n → n' ≡ n + length (noted (heading_list (declare (at_item c i) Definition x cell).value.heading)) → NumberedFrom n' more
        → NumberedFrom n (heading_list (declare (at_item c i) Definition x cell).value.heading ++ more)
    joined (heading_item h) n n' more count next rest = let same : n' ≡ n = omega (arith, next) in subst (λ (k : ℕ). NumberedFrom k more) same rest
    joined (import_item from j) n n' more count next rest = let same : n' ≡ n = omega (arith, next) in subst (λ (k : ℕ). NumberedFrom k more) same rest
    joined (const_item j e) n n' more count next rest = let same : n' ≡ n = omega (arith, next) in subst (λ (k : ℕ). NumberedFrom k more) same rest
    joined (type_item j t) n n' more count next rest = let same : n' ≡ n = omega (arith, next) in subst (λ (k : ℕ). NumberedFrom k more) same rest
    joined (vars_item idents t) n n' more count next rest = let same : n' ≡ n = omega (arith, next) in subst (λ (k : ℕ). NumberedFrom k more) same rest
    joined (proc_item h stream) n n' more count next rest = (count, let same : n' ≡ n + 1 = omega (arith, next) in subst (λ (k : ℕ). NumberedFrom k more) same rest)

pub block_numbered : (source : Source) (tables : List (List Row)) (b : BlockTree) → b.tree.kind ≡ Definition → b.block.scope ≤ length tables → (declare_block source tables b).diags ≡ []
    → NumberedFrom 0 (declare_block source tables b).value.headings
unfolding declare_block
block_numbered source tables b kind before none = on b.tree.kind kind none
  where
    cell : ℕ
    cell = first_cell (scene_of tables b.block) b.tree.kind b.block.own

    on : (k : StreamKind) → k ≡ Definition → (declare_items (context_of source tables b) k 0 cell (items_of b.tree)).diags ≡ [] → NumberedFrom 0 (declare_items (context_of source tables b) k 0 cell (items_of b.tree)).value.headings
    on Definition e f =
        subst (λ (n : ℕ). NumberedFrom n (declare_items (context_of source tables b) Definition 0 cell (items_of b.tree)).value.headings) (ap (λ (rs : List Row). length (tags rs)) (scene_empty tables b.block before))
        (items_numbered (items_of b.tree) (context_of source tables b) 0 cell (scene_open tables b.block before) f)
    on Main e f = absurd cc
    on Procedure e f = absurd cc

-- ** Rows by their tags

-- the row of a procedure with this name and number
pub record HasRow (rows : List Row) (name k : ℕ) : Type 0 where
  pub ordinal : ℕ
  pub row : Row
  pub typ : Place
  pub scope : ℕ
  pub there : slice_get rows ordinal ≡ Some row
  pub means : row_meaning row ≡ Proc typ k scope
  pub named : row.name ≡ name

pub row_tagged : (rows : List Row) (name k : ℕ) → IsIn (name, k) (tags rows) → HasRow rows name k
row_tagged [] name k h = absurd h
row_tagged (r ∷ rows) name k h = by (row_meaning r) refl h (λ i. later (row_tagged rows name k i))
  where
    later : HasRow rows name k → HasRow (r ∷ rows) name k
    later m = record { ordinal = suc m.ordinal; row = m.row; typ = m.typ; scope = m.scope; there = m.there; means = m.means; named = m.named }

    by : (m : RowMeaning) → row_meaning r ≡ m → IsIn (name, k) (tag_by r.name m ++ tags rows) → (IsIn (name, k) (tags rows) → HasRow (r ∷ rows) name k) → HasRow (r ∷ rows) name k
    by (Proc t n s) e (inl same) go =
        record { ordinal = 0; row = r; typ = t; scope = s; there = refl; means = e ∙ ap (λ (p : ℕ × ℕ). Proc t p.1 s) (sym same); named = ap (λ (p : ℕ × ℕ). p.0) (sym same) }
    by (Proc t n s) e (inr i) go = go i
    by m e i go = go i

-- the first number under a name
abbrev pub first_tag : List (ℕ × ℕ) → (name : ℕ) → Option ℕ
first_tag [] name = None
first_tag (t ∷ ts) name = if t.0 == name then Some t.1 else first_tag ts name

-- the first row of a name, where it is a procedure's, has the first number under it
pub tag_first : (rows : List Row) (name n : ℕ) (hit : ℕ × Row) (t : Place) (k s : ℕ) → first_named name rows n ≡ Some hit → row_meaning hit.1 ≡ Proc t k s → first_tag (tags rows) name ≡ Some k
tag_first [] name n hit t k s e m = absurd cc
tag_first (r ∷ rows) name n hit t k s e m = by_name (r.name == name) refl e (λ g. tag_first rows name (n + 1) hit t k s g m)
  where
    other : (x : RowMeaning) → (r.name == name) ≡ false → first_tag (tag_by r.name x ++ tags rows) name ≡ first_tag (tags rows) name
    other (Proc t n s) f = ap (λ (b : Bool). if b then Some n else first_tag (tags rows) name) f
    other x f = refl

    by_name : (b : Bool) → (r.name == name) ≡ b → (if b then Some (n, r) else first_named name rows (n + 1)) ≡ Some hit → (first_named name rows (n + 1) ≡ Some hit → first_tag (tags rows) name ≡ Some k) → first_tag (tag_by r.name (row_meaning r) ++ tags rows) name ≡ Some k
    by_name true f g go =
        let same : (n, r) ≡ hit = cc in
        let meaning : row_meaning r ≡ Proc t k s = ap (λ (p : ℕ × Row). row_meaning p.1) same ∙ m in
        ap (λ (x : RowMeaning). first_tag (tag_by r.name x ++ tags rows) name) meaning ∙ ap (λ (b : Bool). if b then Some k else first_tag (tags rows) name) f
    by_name false f g go = other (row_meaning r) f ∙ go g
