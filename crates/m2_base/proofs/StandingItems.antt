-- The diagnostics of items, of blocks and of units stand at their tokens; those of units where no module has a definition of its own.
use Rattle.std.specs.Prelude.{◌≡◌, ℕ, ◌+◌, ◌<◌, Bool, if◌then◌else◌, ◌==◌, List, [], ◌∷◌, ◌++◌, Option, Some, None}
use Rattle.std.specs.List.{list_any}
use Rattle.std.proofs.Common.{subst, sym, refl}
use Rattle.m2_base.specs.Lists.{Each, WhereKept}
use Rattle.m2_base.specs.Rows.{Place, Row, is_same_place, Alias, ByAddress, Module, Open, Param, Plain, Proc, ProcType, TypeName, Var}
use Rattle.m2_base.specs.Standard.{broken, standard_rows}
use Rattle.m2_base.specs.Trees.{Heading, Ident, Section, Stream, StreamKind, TypeExpr}
use Rattle.m2_base.specs.Statics.BlockRows.{at_item, brought_in, context_of, declare_block, declare_items, first_cell, scene_of}
use Rattle.m2_base.specs.Statics.Blocks.{BlockTree, UnitTrees, blocks_of, blocks_of_main, declares, definition_blocks, encloser, home_of, main_block, main_blocks, procedure_block}
use Rattle.m2_base.specs.Statics.Cells.{capped}
use Rattle.m2_base.specs.Statics.Closing.{block_name, name_diags, own_diags}
use Rattle.m2_base.specs.Statics.Constants.{constant_of}
use Rattle.m2_base.specs.Statics.Contexts.{Context, DefinitionModule, Named, Source, diag, scope_of_module}
use Rattle.m2_base.specs.Statics.Declarations.{declare}
use Rattle.m2_base.specs.Statics.Diagnostics.{declared_twice}
use Rattle.m2_base.specs.Statics.Effects.{own_copy}
use Rattle.m2_base.specs.Statics.HeadingRows.{Placing, open_copies, own_section_rows, own_sections_rows, parameter_row, parameter_rows, placing}
use Rattle.m2_base.specs.Statics.ImportedConstants.{Member, are_too_many, brings, hidden_diags, is_hidden, leads_elsewhere, members_of, new_members}
use Rattle.m2_base.specs.Statics.ImportRows.{again_diags, alias_by, alias_row, import_rows, place_or_broken}
use Rattle.m2_base.specs.Statics.Items.{Item, const_item, heading_item, import_item, items_of, proc_item, type_item, vars_item}
use Rattle.m2_base.specs.Statics.Lookup.{entry_in, entry_named}
use Rattle.m2_base.specs.Statics.Makes.{make_then, makes, makes_named, makes_row, next_place, with_rows}
use Rattle.m2_base.specs.Statics.NameRows.{const_meaning, declared_type, var_rows}
use Rattle.m2_base.specs.Statics.ProcedureRows.{param_rows, parameter_cells, parameter_count, proc_number, proc_rows, proc_scope, section_rows, sections_length}
use Rattle.m2_base.specs.Statics.ProcedureTypes.{is_structured, open_array_row, parameter_type, result_type}
use Rattle.m2_base.specs.Statics.Leaves.{HeadingHas, ItemHas, NameHas, NamesHave, SectionHas, StreamHas, TypeOptionHas}
use Rattle.m2_base.specs.Statics.StandingTrees.{IsBelow, IsStandingStream, Stands, StandsIn}
use Rattle.m2_base.specs.Statics.TypeNames.{type_of_qual}
use Rattle.m2_base.specs.Statics.TypeRows.{type_rows}
use Rattle.m2_base.specs.Statics.Types.{size_of}
use Rattle.m2_base.specs.Statics.UnitNotes.{block_diags, complete_context, declaration_diags, diags_from}
use Rattle.m2_base.specs.Statics.UnitRows.{unit_rows}
use Rattle.m2_base.specs.Statics.Uses.{use_of}
use Rattle.m2_base.specs.declared.notes.Diag.{Diag}
use Rattle.m2_base.proofs.EachLaws.{each_append, each_found}
use Rattle.m2_base.proofs.StandingConstants.{constant_at}
use Rattle.m2_base.proofs.StandingNotes.{MakesAt, Noted, NotesAt, join, makes_either, named_at, none, notes_either, one, places, qual_at, use_at}
use Rattle.m2_base.proofs.StandingTypes.{open_array_at, parameter_at, result_at, type_rows_at}

module _ (Here : ℕ → Type 0) where
  -- ** Types and variables

  declared_at : (i : Ident) (typ : Option TypeExpr) (c : Context) → TypeOptionHas (Stands Here) typ → MakesAt Here c (declared_type c i typ)
  declared_at i None c h = none
  declared_at i (Some t) c h = type_rows_at Here t c h

  vars_at : (idents : List Ident) (c : Context) (t : Place) (cell : ℕ) → NamesHave (Stands Here) idents → MakesAt Here c (var_rows c t cell idents)
  vars_at [] c t cell h = none
  vars_at (i ∷ idents) c t cell h =
      let d = with_rows c (makes_named c i.name i.at (Var t Plain cell)).rows in
      join (named_at Here c i.name i.at (Var t Plain cell) h.0) (vars_at idents d t (capped (cell + size_of d.scene t)) h.1)

  -- ** Procedures

  params_at : (idents : List Ident) (c : Context) (own : ℕ) (by_ref : Bool) (t : Place) → MakesAt Here c (param_rows c own by_ref t idents)
  params_at [] c own by_ref t = none
  params_at (i ∷ idents) c own by_ref t =
      join none (params_at idents (with_rows c (makes_row c i.at (Param t by_ref own)).rows) own by_ref t)

  sections_at : (sections : List Section) (c : Context) (own : ℕ) → Each (SectionHas (Stands Here)) sections → MakesAt Here c (section_rows c own sections)
  sections_at [] c own h = none
  sections_at (s ∷ sections) c own h =
      let typ = parameter_type c s.is_open s.of in
      let d = with_rows c typ.rows in
      let params = param_rows d own s.by_ref typ.value s.names in
      join (parameter_at Here c s.is_open s.of h.0.of)
      (join (params_at s.names d own s.by_ref typ.value) (sections_at sections (with_rows d params.rows) own h.1))

  proc_at : (h : Heading) (stream : ℕ) (c : Context) (kind : StreamKind) → HeadingHas (Stands Here) h → MakesAt Here c (proc_rows c kind h stream)
  proc_at h stream c kind s =
      let first = (next_place c).ordinal in
      let own = first + sections_length h.sections in
      let d = with_rows c (section_rows c own h.sections).rows in
      let e = with_rows d [] in
      let t = makes_row e h.name.at (ProcType (result_type d h.result).value (parameter_count h.sections) first) in
      join (sections_at h.sections c own s.sections)
      (join (result_at Here d h.result s.result)
      (join none
      (join (named_at Here (with_rows e t.rows) h.name.name h.name.at (Proc t.value (proc_number c kind stream) (proc_scope kind stream)) s.name) none)))

  -- ** A heading in its own scope

  parameter_row_at : (c : Context) (s : Section) (elem t : Place) (f : Placing) (i : Ident) → Here i.at → MakesAt Here c (parameter_row c s elem t f i)
  parameter_row_at c s elem t f i h =
      let size = size_of c.scene t in
      let opened = make_then c (makes_named c i.name i.at (Var t Open f.cell)) (λ d p.
      makes (placing (capped (f.cell + 2)) f.own (f.copies ++ open_copies s.by_ref f.cell (size_of c.scene elem)))) in
      let addressed = make_then c (makes_named c i.name i.at (Var t ByAddress f.cell)) (λ d p. makes (placing (capped (f.cell + 1)) f.own f.copies)) in
      let copied = make_then c (makes_named c i.name i.at (Var t Plain f.own)) (λ d p.
      makes (placing (capped (f.cell + 1)) (capped (f.own + size)) (f.copies ++ own_copy f.own f.cell size ∷ []))) in
      let valued = make_then c (makes_named c i.name i.at (Var t Plain f.cell)) (λ d p. makes (placing (capped (f.cell + 1)) f.own f.copies)) in
      makes_either s.is_open opened (if s.by_ref then addressed else if is_structured c t then copied else valued)
      (join (named_at Here c i.name i.at (Var t Open f.cell) h) none)
      (makes_either s.by_ref addressed (if is_structured c t then copied else valued)
      (join (named_at Here c i.name i.at (Var t ByAddress f.cell) h) none)
      (makes_either (is_structured c t) copied valued
      (join (named_at Here c i.name i.at (Var t Plain f.own) h) none)
      (join (named_at Here c i.name i.at (Var t Plain f.cell) h) none)))

  parameter_rows_at : (idents : List Ident) (c : Context) (s : Section) (elem t : Place) (f : Placing) → NamesHave (Stands Here) idents → MakesAt Here c (parameter_rows c s elem t f idents)
  parameter_rows_at [] c s elem t f h = none
  parameter_rows_at (i ∷ idents) c s elem t f h =
      let m = parameter_row c s elem t f i in
      join (parameter_row_at c s elem t f i h.0) (parameter_rows_at idents (with_rows c m.rows) s elem t m.value h.1)

  own_section_at : (s : Section) (c : Context) (f : Placing) → SectionHas (Stands Here) s → MakesAt Here c (own_section_rows c f s)
  own_section_at s c f h =
      let d = with_rows c [] in
      let elem = (type_of_qual c s.of).value in
      let typ = open_array_row d s.of.first.at s.is_open elem in
      join (qual_at Here c s.of h.of)
      (join (open_array_at Here d s.of.first.at s.is_open elem) (parameter_rows_at s.names (with_rows d typ.rows) s elem typ.value f h.idents))

  own_sections_at : (sections : List Section) (c : Context) (f : Placing) → Each (SectionHas (Stands Here)) sections → MakesAt Here c (own_sections_rows c f sections)
  own_sections_at [] c f h = none
  own_sections_at (s ∷ sections) c f h =
      let m = own_section_rows c f s in
      join (own_section_at s c f h.0) (own_sections_at sections (with_rows c m.rows) m.value h.1)

  -- ** Imports

  again_at : (c : Context) (i : Ident) (p : Place) → Here i.at → NotesAt Here c (again_diags c i p)
  again_at c i p h =
      notes_either (is_same_place p broken) [] _ none
      (notes_either (leads_elsewhere c.scene p (entry_in c.scene.tables c.scene.block.scope i.name)) (diag c i.at declared_twice ∷ []) []
      (one h) none)

  alias_by_at : (c : Context) (i : Ident) (p : Place) (brought : Option Named) → Here i.at → MakesAt Here c (alias_by c i p brought)
  alias_by_at c i p None h = named_at Here c i.name i.at (Alias p) h
  alias_by_at c i p (Some x) h = again_at c i p h

  hidden_at : (c : Context) (at : ℕ) (members : List Member) → Here at → NotesAt Here c (hidden_diags c at members)
  hidden_at c at members h =
      notes_either (list_any (is_hidden c) members) (diag c at declared_twice ∷ []) [] (one h) none

  brings_at : (c : Context) (at : ℕ) (members new : List Member) → Here at → MakesAt Here c (brings c at members new)
  brings_at c at members new h =
      makes_either (are_too_many c new) _ _ (one h) (hidden_at c at members h)

  import_at : (m i : Ident) (c : Context) → Here i.at → MakesAt Here c (import_rows c (Some m) i)
  import_at m i c h =
      let scope = scope_of_module c.source m.name in
      let e = (use_of c (Some scope) i.name i.at).value in
      let d = with_rows c [] in
      let p = place_or_broken e in
      let named = alias_row d i p in
      let f = with_rows d named.rows in
      let members = members_of f.scene e in
      join (use_at Here c (Some scope) i.name i.at h)
      (join (alias_by_at d i p (entry_named d.layout.brought i.name) h) (brings_at f i.at members (new_members f [] members) h))

  -- ** Items

  item_at : (x : Item) (c : Context) (kind : StreamKind) (cell : ℕ) → ItemHas (Stands Here) x → MakesAt Here c (declare c kind x cell)
  item_at (heading_item h) c kind cell s =
      let f = placing 0 (capped (parameter_cells h.sections)) [] in
      let d = with_rows c (own_sections_rows c f h.sections).rows in
      join (own_sections_at h.sections c f s.sections) (join (result_at Here d h.result s.result) none)
  item_at (import_item None i) c kind cell s = join (join (named_at Here c i.name i.at (Module (scope_of_module c.source i.name)) s.1) none) none
  item_at (import_item (Some m) i) c kind cell s = join (import_at m i c s.1) none
  item_at (const_item i e) c kind cell s =
      join (join (constant_at Here e c s.1) (named_at Here (with_rows c []) i.name i.at (const_meaning (constant_of c e).value) s.0)) none
  item_at (type_item i typ) c kind cell s =
      let m = declared_type c i typ in
      join (join (declared_at i typ c s.1) (named_at Here (with_rows c m.rows) i.name i.at (TypeName m.value) s.0)) none
  item_at (vars_item idents typ) c kind cell s =
      let m = type_rows c typ in
      join (join (type_rows_at Here typ c s.1) (vars_at idents (with_rows c m.rows) m.value cell s.0)) none
  item_at (proc_item h stream) c kind cell s = join (proc_at h stream c kind s.0) none

  items_at : (items : List Item) (c : Context) (kind : StreamKind) (i cell : ℕ) → Each (ItemHas (Stands Here)) items → MakesAt Here c (declare_items c kind i cell items)
  items_at [] c kind i cell h = none
  items_at (x ∷ items) c kind i cell h =
      let m = declare (at_item c i) kind x cell in
      join (item_at x (at_item c i) kind cell h.0)
      (join (items_at items (brought_in (with_rows c m.rows) m.value.brought) kind (i + 1) m.value.cell h.1) none)

  -- ** Blocks

  pub block_at : (source : Source) (tables : List (List Row)) (b : BlockTree) → StreamHas (Stands Here) b.tree → Noted b.block.text Here (declare_block source tables b).diags
  unfolding declare_block
  block_at source tables b h =
      items_at (items_of b.tree) (context_of source tables b) b.tree.kind 0 (first_cell (scene_of tables b.block) b.tree.kind b.block.own) h.items

  pub name_diags_at : (c : Context) (close : Ident) (o : Option Ident) → NameHas (Stands Here) close → NotesAt Here c (name_diags c close o)
  name_diags_at c close None h = none
  name_diags_at c close (Some i) h = notes_either (i.name == close.name) [] _ none (one h)

  own_diags_at : (c : Context) (s : Stream) (own : Option ℕ) → own ≡ None → NotesAt Here c (own_diags c s own)
  own_diags_at c s own h = subst (λ o. NotesAt Here c (own_diags c s o)) (sym h) none

  blocks_at : (source : Source) (blocks : List BlockTree) (before all : List (List Row)) → Each (λ (b : BlockTree). b.block.own ≡ None) blocks
      → Each (λ (b : BlockTree). StreamHas (Stands Here) b.tree) blocks → Each (λ (d : Diag). Here d.at) (diags_from source before all blocks)
  blocks_at source [] before all own h = tt
  blocks_at source (b ∷ blocks) before all own h =
      let c = complete_context source all b.block in
      let noted : Noted b.block.text Here (block_diags source before all b) =
      join (block_at source before b h.0) (join (name_diags_at c b.tree.close (block_name b.tree) h.0.close) (own_diags_at c b.tree b.block.own own.0)) in
      each_append (λ (d : Diag). Here d.at) (block_diags source before all b) (diags_from source (before ++ (declare_block source before b).rows ∷ []) all blocks) (places noted)
      (blocks_at source blocks (before ++ (declare_block source before b).rows ∷ []) all own.1 h.1)

-- ** Units without a definition of their own

-- the block is of a module without a definition of its own
abbrev HasNoOwn : BlockTree → Type 0
HasNoOwn b = b.block.own ≡ None

definitions_alone : (s : ℕ) (ds : List DefinitionModule) (trees : List Stream) → Each HasNoOwn (definition_blocks s ds trees)
definitions_alone s [] trees = tt
definitions_alone s (d ∷ ds) [] = tt
definitions_alone s (d ∷ ds) (tree ∷ trees) = (refl, definitions_alone (s + 1) ds trees)

procedure_alone : (s : ℕ) (tree : Stream) (o : Option BlockTree) → WhereKept o HasNoOwn → Each HasNoOwn (procedure_block s tree o)
procedure_alone s tree None h = tt
procedure_alone s tree (Some outer) h = (h, tt)

mains_alone : (trees : List Stream) (before : List BlockTree) (s : ℕ) → Each HasNoOwn before → Each HasNoOwn (main_blocks before s trees)
mains_alone [] before s h = h
mains_alone (tree ∷ trees) before s h =
    mains_alone trees (before ++ procedure_block s tree (encloser before s)) (s + 1)
    (each_append HasNoOwn before (procedure_block s tree (encloser before s)) h
    (procedure_alone s tree (encloser before s) (each_found HasNoOwn (λ b. list_any (declares s) b.tree.decls) before h)))

main_alone : (u : UnitTrees) (trees : List Stream) → u.own ≡ None → Each HasNoOwn (blocks_of_main u trees)
main_alone u [] h = tt
main_alone u (tree ∷ trees) h = mains_alone trees (main_block u tree ∷ []) (home_of u + 1) (h, tt)

all_alone : (u : UnitTrees) → u.own ≡ None → Each HasNoOwn (blocks_of u)
unfolding blocks_of
all_alone u h =
    each_append HasNoOwn (definition_blocks 1 u.source.definitions u.definitions) (blocks_of_main u u.main)
    (definitions_alone 1 u.source.definitions u.definitions) (main_alone u u.main h)

-- ** The laws

module _ (n : ℕ) where
  pub item_noted : (c : Context) (kind : StreamKind) (x : Item) (cell : ℕ) → StandsIn n x → Each (λ (d : Diag). d.at < n) (declare c kind x cell).diags
  item_noted c kind x cell h = places (item_at (IsBelow n) x c kind cell h)

  -- the blocks' trees stand among the first n tokens
  abbrev AreStanding : List BlockTree → Type 0
  AreStanding blocks = Each (λ (b : BlockTree). IsStandingStream n b.tree) blocks

  pub unit_noted : (u : UnitTrees) → u.own ≡ None → AreStanding (blocks_of u) → Each (λ (d : Diag). d.at < n) (declaration_diags u)
  unfolding declaration_diags
  unit_noted u own h = blocks_at (IsBelow n) u.source (blocks_of u) (standard_rows ∷ []) (unit_rows u) (all_alone u own) h

  -- the blocks of a unit of one stream
  lone_blocks : (u : UnitTrees) (tree : Stream) → u.definitions ≡ [] → u.main ≡ tree ∷ [] → IsStandingStream n tree → AreStanding (blocks_of u)
  unfolding blocks_of
  lone_blocks u tree no_definitions one_tree h =
      each_append (λ (b : BlockTree). IsStandingStream n b.tree) (definition_blocks 1 u.source.definitions u.definitions) (blocks_of_main u u.main)
      (subst (λ (trees : List Stream). AreStanding (definition_blocks 1 u.source.definitions trees)) (sym no_definitions) (no_blocks u.source.definitions))
      (subst (λ (trees : List Stream). AreStanding (blocks_of_main u trees)) (sym one_tree) (h, tt))
    where
      no_blocks : (ds : List DefinitionModule) → AreStanding (definition_blocks 1 ds [])
      no_blocks [] = tt
      no_blocks (d ∷ ds) = tt

  pub lone_noted : (u : UnitTrees) (tree : Stream) → u.own ≡ None → u.definitions ≡ [] → u.main ≡ tree ∷ [] → IsStandingStream n tree → Each (λ (d : Diag). d.at < n) (declaration_diags u)
  lone_noted u tree own no_definitions one_tree h = unit_noted u own (lone_blocks u tree no_definitions one_tree h)
