-- Each procedure that a block without diagnostics declares has a name in its row.
use Rattle.std.specs.Prelude.{◌≡◌, ◌≢◌, refl, ℕ, ◌+◌, ◌<◌, ◌≤◌, Bool, true, false, if◌then◌else◌, List, [], ◌∷◌, ◌++◌, flat_map, Option, Some, None}
use Rattle.std.proofs.Common.{subst, sym, arith}
use Rattle.m2_base.proofs.EachLaws.{each_append, each_then}
use Rattle.m2_base.proofs.ItemLaws.{item_of, sections_of}
use Rattle.m2_base.specs.Lists.{Each, IsIn, WhereKept}
use Rattle.m2_base.specs.Rows.{row_of, row_meaning}
use Rattle.m2_base.specs.Standard.{is_standard}
use Rattle.m2_base.specs.Statics.BlockRows.{at_item, brought_in, context_of, declare_block, declare_items, first_cell, scene_of}
use Rattle.m2_base.specs.Statics.Blocks.{BlockTree, UnitTrees, blocks_of, home_of}
use Rattle.m2_base.specs.Statics.Closing.{closing_diags}
use Rattle.m2_base.specs.Statics.Contexts.{Context, Source, diag}
use Rattle.m2_base.specs.Statics.Declarations.{declare}
use Rattle.m2_base.specs.Statics.Diagnostics.{declared_twice, standard_declared}
use Rattle.m2_base.specs.Statics.Items.{Item, const_item, heading_item, import_item, items_of, proc_item, type_item, vars_item}
use Rattle.m2_base.specs.Statics.Lookup.{has_name}
use Rattle.m2_base.specs.Statics.Makes.{makes_named, makes_row, next_place, one_row, with_rows}
use Rattle.m2_base.specs.Statics.ProcedureRows.{parameter_count, proc_number, proc_scope, section_rows, sections_length}
use Rattle.m2_base.specs.Statics.ProcedureTypes.{result_type}
use Rattle.m2_base.specs.Statics.ReadTrees.{IsReadItem}
use Rattle.m2_base.specs.Statics.ShapedRows.{AreShaped}
use Rattle.m2_base.specs.Statics.Shapes.{Shape, section_shapes}
use Rattle.m2_base.specs.Statics.UnitNotes.{complete_context}
use Rattle.m2_base.specs.Statics.UnitRows.{unit_rows}
use Rattle.m2_base.specs.Tables.{rows_at}
use Rattle.m2_base.specs.Trees.{Heading}
use Rattle.m2_base.specs.declared.notes.Diag.{Diag}
use Rattle.m2_base.specs.declared.rows.Row.{Row}
use Rattle.m2_base.specs.declared.rows.RowMeaning.TheVariants.{Proc, ProcType}
use Rattle.m2_base.specs.declared.rows.RowMeaning.{RowMeaning}
use Rattle.m2_base.specs.declared.trees.declarations.StreamKind.{StreamKind}
use Rattle.block_code.specs.BlockCode.{body_of, run_of, size_diags}
use Rattle.row_laws.proofs.ImportedRows.{alias_shapes, import_aliases, own_shaped}
use Rattle.row_laws.proofs.Joined.{none_left}
use Rattle.row_laws.proofs.Members.{each_in}
use Rattle.row_laws.proofs.PlainShapes.{IsNoProcedure, no_procedures}
use Rattle.row_laws.proofs.TypeShapes.{HaveKinds, item_kinds, kind_of_meaning, sections_kinds, shaped_means}
use Rattle.block_laws.specs.Headings.{HasNamedHeadings, IsNamedProcedure}
use Rattle.block_laws.proofs.BlocksAt.{before_of, unit_made}
use Rattle.block_laws.proofs.UnitWorlds.{IsClear, earlier, made, told}

-- ** Rows that are no procedure's

abbrev IsNamedRow : Row → Type 0
IsNamedRow r = IsNamedProcedure r.name (row_meaning r)

other_named : (name : ℕ) (m : RowMeaning) → IsNoProcedure (kind_of_meaning m) → IsNamedProcedure name m
other_named name (Proc t k s) h = absurd cc
other_named name m h = tt

shaped_named : (shapes : List Shape) (rows : List Row) → AreShaped shapes rows → HaveKinds IsNoProcedure shapes → Each IsNamedRow rows
shaped_named shapes rows is h =
    each_then (λ (r : Row). IsNoProcedure (kind_of_meaning (row_meaning r))) IsNamedRow rows (λ r. other_named r.name (row_meaning r)) (shaped_means IsNoProcedure refl shapes rows is h)

-- ** The row of a procedure

any_named : (name : ℕ) → name ≢ 0 → (m : RowMeaning) → IsNamedProcedure name m
any_named name h (Proc t k s) = h
any_named name h m = tt

named_by : (c : Context) (name at : ℕ) (m : RowMeaning) → name ≢ 0 → (makes_named c name at m).diags ≡ [] → Each IsNamedRow (makes_named c name at m).rows
named_by c name at m h e = by_tests (is_standard name) (has_name c.scene.tables c.scene.block.scope name) e
  where
    by_tests : (v w : Bool)
        → (if v then one_row c (row_of 0 at m) (diag c at standard_declared ∷ []) else if w then one_row c (row_of 0 at m) (diag c at declared_twice ∷ []) else one_row c (row_of name at m) []).diags ≡ []
        → Each IsNamedRow (if v then one_row c (row_of 0 at m) (diag c at standard_declared ∷ []) else if w then one_row c (row_of 0 at m) (diag c at declared_twice ∷ []) else one_row c (row_of name at m) []).rows
    by_tests true w f = absurd cc
    by_tests false true f = absurd cc
    by_tests false false f = (any_named name h (row_meaning (row_of name at m)), tt)

rows_append : (xs ys : List Row) → Each IsNamedRow xs → Each IsNamedRow ys → Each IsNamedRow (xs ++ ys)
rows_append xs ys h k = each_append IsNamedRow xs ys h k

-- what comes last of these parts has no diagnostic
pub last_none : (a b c d : List Diag) → a ++ (b ++ (c ++ (d ++ []))) ++ [] ≡ [] → d ≡ []
last_none a b c d e =
    let rest = (none_left a (b ++ (c ++ (d ++ []))) (none_left (a ++ (b ++ (c ++ (d ++ [])))) [] e).0).1 in
    (none_left d [] (none_left c (d ++ []) (none_left b (c ++ (d ++ [])) rest).1).1).0

procedure_named : (names : List (List ℕ)) (h : Heading) (stream : ℕ) (c : Context) (kind : StreamKind) (cell : ℕ) → IsReadItem names (proc_item h stream) → (declare c kind (proc_item h stream) cell).diags ≡ []
    → Each IsNamedRow (declare c kind (proc_item h stream) cell).rows
procedure_named names h stream c kind cell read none =
    let first = (next_place c).ordinal in
    let sections = section_rows c (first + sections_length h.sections) h.sections in
    let d = with_rows c sections.rows in
    let result = result_type d h.result in
    let e = with_rows d [] in
    let typ = makes_row e h.name.at (ProcType result.value (parameter_count h.sections) first) in
    let f = with_rows e typ.rows in
    let row = makes_named f h.name.name h.name.at (Proc typ.value (proc_number c kind stream) (proc_scope kind stream)) in
    let quiet : row.diags ≡ [] = last_none sections.diags result.diags typ.diags row.diags none in
    rows_append (sections.rows ++ (typ.rows ++ (row.rows ++ []))) []
    (rows_append sections.rows (typ.rows ++ (row.rows ++ []))
    (shaped_named (flat_map section_shapes h.sections) sections.rows (sections_of h.sections c (first + sections_length h.sections)) (sections_kinds IsNoProcedure no_procedures h.sections))
    (rows_append typ.rows (row.rows ++ []) (typed_row e) (rows_append row.rows [] (named_by f h.name.name h.name.at (Proc typ.value (proc_number c kind stream) (proc_scope kind stream)) (read.0).name.some quiet) tt))) tt
  where
    typed_row : (e : Context) → Each IsNamedRow (makes_row e h.name.at (ProcType (result_type (with_rows c (section_rows c ((next_place c).ordinal + sections_length h.sections) h.sections).rows) h.result).value (parameter_count h.sections) (next_place c).ordinal)).rows
    typed_row e = (tt, tt)

-- ** Items

item_named : (names : List (List ℕ)) (x : Item) (c : Context) (kind : StreamKind) (cell : ℕ) → IsReadItem names x → (declare c kind x cell).diags ≡ [] → Each IsNamedRow (declare c kind x cell).rows
item_named names (heading_item h) c kind cell read none = shaped_named _ _ (item_of (heading_item h) c kind cell) (item_kinds IsNoProcedure no_procedures (heading_item h) refl)
item_named names (import_item None i) c kind cell read none = shaped_named _ _ (item_of (import_item None i) c kind cell) (refl, tt)
item_named names (import_item (Some m) i) c kind cell read none =
    shaped_named _ _ (own_shaped _) (alias_shapes IsNoProcedure refl _ (import_aliases m i c kind cell))
item_named names (const_item i e) c kind cell read none = shaped_named _ _ (item_of (const_item i e) c kind cell) (refl, tt)
item_named names (type_item i t) c kind cell read none = shaped_named _ _ (item_of (type_item i t) c kind cell) (item_kinds IsNoProcedure no_procedures (type_item i t) refl)
item_named names (vars_item idents t) c kind cell read none = shaped_named _ _ (item_of (vars_item idents t) c kind cell) (item_kinds IsNoProcedure no_procedures (vars_item idents t) refl)
item_named names (proc_item h stream) c kind cell read none = procedure_named names h stream c kind cell read none

items_named : (names : List (List ℕ)) (items : List Item) (c : Context) (kind : StreamKind) (i cell : ℕ) → Each (IsReadItem names) items → (declare_items c kind i cell items).diags ≡ [] → Each IsNamedRow (declare_items c kind i cell items).rows
items_named names [] c kind i cell read none = tt
items_named names (x ∷ items) c kind i cell read none =
    let a = at_item c i in
    let m = declare a kind x cell in
    let d = brought_in (with_rows c m.rows) m.value.brought in
    let more = declare_items d kind (i + 1) m.value.cell items in
    let parts = none_left m.diags (more.diags ++ []) none in
    rows_append m.rows (more.rows ++ []) (item_named names x a kind cell read.0 parts.0)
    (rows_append more.rows [] (items_named names items d kind (i + 1) m.value.cell read.1 (none_left more.diags [] parts.1).0) tt)

block_named : (names : List (List ℕ)) (source : Source) (tables : List (List Row)) (b : BlockTree) → Each (IsReadItem names) (items_of b.tree) → (declare_block source tables b).diags ≡ [] → Each IsNamedRow (declare_block source tables b).rows
unfolding declare_block
block_named names source tables b read none = items_named names (items_of b.tree) (context_of source tables b) b.tree.kind 0 (first_cell (scene_of tables b.block) b.tree.kind b.block.own) read none

-- ** A unit

-- each procedure of the own definition has a name
pub headings-named : (names : List (List ℕ)) (u : UnitTrees) → IsClear names u → Each (λ b. Each (IsReadItem names) (items_of b.tree)) (blocks_of u) → (b : BlockTree) → IsIn b (blocks_of u) → home_of u ≤ b.block.scope → HasNamedHeadings u
headings-named names u is read b i behind = by_own u.own refl
  where
    rows_named : (q : BlockTree) → IsIn q (blocks_of u) → Each IsNamedRow (rows_at (unit_rows u) q.block.scope)
    rows_named q j =
        let c : Context = complete_context u.source (unit_rows u) q.block in
        let quiet : (made names u is q).diags ≡ [] =
        (none_left (made names u is q).diags (closing_diags c q.tree) (none_left ((made names u is q).diags ++ closing_diags c q.tree) (body_of c q).diags
        (none_left ((made names u is q).diags ++ closing_diags c q.tree ++ (body_of c q).diags) (size_diags c q q.tree.kind (made names u is q).value (run_of q (made names u is q).value (body_of c q).value)) (told names u is q j)).0).0).0 in
        subst (Each IsNamedRow) (sym (unit_made u is.sound.scopes q j))
        (block_named names u.source (before_of u q) q (each_in (λ (x : BlockTree). Each (IsReadItem names) (items_of x.tree)) (blocks_of u) q read j) quiet)

    by_own : (o : Option ℕ) → u.own ≡ o → WhereKept o (λ own. Each IsNamedRow (rows_at (unit_rows u) own))
    by_own None e = tt
    by_own (Some own) e =
        let low : own < home_of u = subst (λ (o : Option ℕ). WhereKept o (λ q. q < home_of u)) e is.sound.own in
        let positive : 0 < own = subst (λ (o : Option ℕ). WhereKept o (λ q. 0 < q)) e is.blocks.own in
        let q = earlier names u is b i own positive (omega (arith, low, behind)) in
        subst (λ (s : ℕ). Each IsNamedRow (rows_at (unit_rows u) s)) q.2 (rows_named q.0 q.1)
