-- In a sound context the rows of every item are right.
use Rattle.std.specs.Prelude.{◌≡◌, ℕ, ◌+◌, ◌^◌, ◌<◌, ◌≤◌, Bool, if◌then◌else◌, pos, flat_map, List, [], ◌∷◌, ◌++◌, length, map, Option, Some, None}
use Rattle.std.proofs.Common.{ap, subst, sym, refl, arith}
use Rattle.std.proofs.lemmas.List.{length-append, length-map}
use Rattle.m2_base.specs.Lists.{Each, WhereKept}
use Rattle.m2_base.specs.Rows.{Place, Mode, Alias, Const, Module, Opaque, Param, Proc, ProcType, TypeName, Var, Plain, ByAddress, Open, param_kind}
use Rattle.m2_base.specs.Standard.{text_type, broken}
use Rattle.m2_base.specs.Trees.{Ident, TypeExpr, Section, Heading, StreamKind, Definition}
use Rattle.m2_base.specs.Statics.BlockRows.{at_item, brought_in, declare_items}
use Rattle.m2_base.specs.Statics.Cells.{capped, most_cells}
use Rattle.m2_base.specs.Statics.Constants.{constant_of}
use Rattle.m2_base.specs.Statics.Contexts.{Context, Named, Scene, scope_of_module}
use Rattle.m2_base.specs.Statics.Declarations.{declare}
use Rattle.m2_base.specs.Statics.FormedRows.{IsImportedBefore}
use Rattle.m2_base.specs.Statics.HeadingRows.{Placing, placing, open_copies, parameter_row, parameter_rows, own_section_rows, own_sections_rows}
use Rattle.m2_base.specs.Statics.ImportRows.{alias_by, alias_row, place_or_broken}
use Rattle.m2_base.specs.Statics.ImportedConstants.{brings, members_of, new_members}
use Rattle.m2_base.specs.Statics.Layouts.{extended}
use Rattle.m2_base.specs.Statics.Items.{Item, heading_item, import_item, const_item, type_item, vars_item, proc_item}
use Rattle.m2_base.specs.Statics.Lookup.{Entry, entry_named}
use Rattle.m2_base.specs.Statics.Effects.{own_copy}
use Rattle.m2_base.specs.Statics.Makes.{Makes, make_then, makes, with_rows, next_place, own_rows, makes_row, makes_named}
use Rattle.m2_base.specs.Statics.NameRows.{const_meaning, declared_type, var_rows}
use Rattle.m2_base.specs.Statics.ProcedureRows.{param_rows, section_rows, parameter_count, parameter_cells, sections_length, is_proc, proc_number, proc_scope, proc_rows}
use Rattle.m2_base.specs.Statics.ProcedureTypes.{is_structured, open_array_row, parameter_type, result_type}
use Rattle.m2_base.specs.Statics.Shapes.{open_shapes, section_shapes, nameless}
use Rattle.m2_base.specs.Statics.SoundTrees.{AreSoundNames, AreSoundSections, IsSoundOption, IsSoundItem}
use Rattle.m2_base.specs.Statics.TypeNames.{type_of_qual}
use Rattle.m2_base.specs.Statics.TypeRows.{type_rows}
use Rattle.m2_base.specs.Statics.Types.{size_of}
use Rattle.m2_base.specs.Statics.Uses.{use_of}
use Rattle.m2_base.specs.declared.operands.Operand.{Operand}
use Rattle.m2_base.specs.declared.operands.Operand.TheVariants.{Constant, StringConstant}
use Rattle.m2_base.proofs.ItemLaws.{sections_of}
use Rattle.m2_base.proofs.LayoutLaws.{AreShaped-length, import_few}
use Rattle.m2_base.proofs.SceneLaws.{own_of, own-with, with-none}
use Rattle.m2_base.proofs.Sound.{Sound, EntryOk, AreOk, no_ok, ok-append, ok-end, ok-then, IsThere, there-with, Room, room-left, room-right, room-then}
use Rattle.m2_base.proofs.SoundConstants.{constant_ok}
use Rattle.m2_base.proofs.SoundMade.{Made, context-with, context-then, there-then, plain_made, named_made}
use Rattle.m2_base.proofs.SoundOperands.{OperandOk, natural-value}
use Rattle.m2_base.proofs.SoundOperations.{LayoutOk, SoundContext, filter_count}
use Rattle.m2_base.proofs.SoundBrought.{brought_ok, members_ok}
use Rattle.m2_base.proofs.SoundParts.{capped-most, parameter_made, open_made, result_ok}
use Rattle.m2_base.proofs.SoundRows.{type_made, result_small, result_before}
use Rattle.m2_base.proofs.SoundTypes.{either, broken-there, standard-there, use_ok, qual_there}

-- each parameter of a procedure has a row
sections_count : (sections : List Section) → (sections_length sections ≡ length (flat_map section_shapes sections)) × (parameter_count sections ≤ sections_length sections)
sections_count [] = (refl, omega arith)
sections_count (s ∷ sections) =
    let rest = sections_count sections in
    let e = length-append (section_shapes s) (flat_map section_shapes sections) in
    let params = map (λ (i : Ident). nameless param_kind i.at) s.names in
    let f = length-append (open_shapes s.is_open s.of) params in
    let g = length-map s.names (λ (i : Ident). nameless param_kind i.at) in
    (omega (arith, rest.0, e), omega (arith, rest.1, f, g))

module _ (names : ℕ) where
  -- ** Imports, constants and types

  place_there : (scene : Scene) → Sound names scene → (o : Option Entry) → WhereKept o (EntryOk names scene) → IsThere scene (place_or_broken o)
  place_there scene sound None h = broken-there sound
  place_there scene sound (Some e) h = h.there

  const_made : (c : Context) → SoundContext names c → (i : Ident) (o : Option Operand) → i.name < names → WhereKept o (OperandOk names c.scene)
      → AreOk names c.scene (makes_named c i.name i.at (const_meaning o)).rows
  const_made c sound i (Some (Constant t v)) good h =
      (named_made c sound i.name i.at (Const t v 0) good h.0.0 (h.0.1, h.1, omega arith, λ e. absurd (h.2 e)) tt).rows_ok
  const_made c sound i (Some (StringConstant n len)) good h =
      let few = sound.few_names in
      let there = standard-there sound.scene 8 (omega arith) in
      let small = h.0 in
      (named_made c sound i.name i.at (Const text_type (pos n) len) good there.0 (there.1, natural-value n (omega (arith, few, small)), h.1, λ e. h.0) tt).rows_ok
  const_made c sound i o good h = broken_constant o
    where
      there : IsThere c.scene broken
      there = broken-there sound.scene

      broken_row : AreOk names c.scene (makes_named c i.name i.at (Const broken (pos 0) 0)).rows
      broken_row = (named_made c sound i.name i.at (Const broken (pos 0) 0) good there.0 (there.1, natural-value 0 (omega arith), omega arith, λ e. sound.scene.some) tt).rows_ok

      broken_constant : (o : Option Operand) → AreOk names c.scene (makes_named c i.name i.at (Const broken (pos 0) 0)).rows
      broken_constant o = broken_row

  declared_made : (i : Ident) (typ : Option TypeExpr) (c : Context) → SoundContext names c → IsSoundOption names typ → Room c.scene (declared_type c i typ).rows
      → Made names c.scene (declared_type c i typ).rows (declared_type c i typ).value
  declared_made i None c sound h room = plain_made c sound i.at Opaque tt tt tt
  declared_made i (Some t) c sound h room = type_made names t c sound h room

  -- ** Variables and parameters

  vars_made : (idents : List Ident) (c : Context) (t : Place) (cell : ℕ) → SoundContext names c → AreSoundNames names idents → IsThere c.scene t → cell ≤ most_cells + 1 → Room c.scene (var_rows c t cell idents).rows
      → AreOk names c.scene (var_rows c t cell idents).rows × ((var_rows c t cell idents).value ≤ most_cells + 1)
  vars_made [] c t cell sound h k l room = (no_ok, l)
  vars_made (i ∷ idents) c t cell sound h k l room =
      let m = makes_named c i.name i.at (Var t Plain cell) in
      let first = named_made c sound i.name i.at (Var t Plain cell) h.0 k.0 (k.1, omega (arith, l)) tt in
      let d = with_rows c m.rows in
      let rest = vars_made idents d t (capped (cell + size_of d.scene t)) (context-with sound first.rows_ok (room-left m.rows _ room)) h.1
      (there-with c.scene m.rows t sound.scene.room k) (capped-most (cell + size_of d.scene t)) (room-right c.scene m.rows _ sound.scene.room room) in
      (ok-append first.rows_ok rest.0, rest.1)

  params_made : (idents : List Ident) (c : Context) (own : ℕ) (by_ref : Bool) (t : Place) → SoundContext names c → own < 2 ^ 32 → IsThere c.scene t → Room c.scene (param_rows c own by_ref t idents).rows
      → AreOk names c.scene (param_rows c own by_ref t idents).rows
  params_made [] c own by_ref t sound h k room = no_ok
  params_made (i ∷ idents) c own by_ref t sound h k room =
      let m = makes_row c i.at (Param t by_ref own) in
      let first = plain_made c sound i.at (Param t by_ref own) k.0 (k.1, h) tt in
      ok-append first.rows_ok
      (params_made idents (with_rows c m.rows) own by_ref t (context-with sound first.rows_ok (room-left m.rows _ room)) h
      (there-with c.scene m.rows t sound.scene.room k) (room-right c.scene m.rows _ sound.scene.room room))

  sections_made : (sections : List Section) (c : Context) (own : ℕ) → SoundContext names c → own < 2 ^ 32 → Room c.scene (section_rows c own sections).rows → AreOk names c.scene (section_rows c own sections).rows
  sections_made [] c own sound h room = no_ok
  sections_made (s ∷ sections) c own sound h room =
      let typ = parameter_type c s.is_open s.of in
      let first = parameter_made names c sound s.is_open s.of in
      let d = with_rows c typ.rows in
      let params = param_rows d own s.by_ref typ.value s.names in
      let e = with_rows d params.rows in
      let more = section_rows e own sections in
      let left = room-left typ.rows (params.rows ++ more.rows) room in
      let after = context-with sound first.rows_ok left in
      let rest = room-right c.scene typ.rows (params.rows ++ more.rows) sound.scene.room room in
      let middle = room-left params.rows more.rows rest in
      let second = params_made s.names d own s.by_ref typ.value after h first.there middle in
      ok-append first.rows_ok (ok-append second
      (sections_made sections e own (context-with after second middle) h (room-right d.scene params.rows more.rows after.scene.room rest)))

  -- ** A heading in its own scope

  abbrev PlacingOk : Placing → Type 0
  PlacingOk f = (f.cell ≤ most_cells + 1) × (f.own ≤ most_cells + 1)

  abbrev PlacedOk : Context → Makes Placing → Type 0
  PlacedOk c m = AreOk names c.scene m.rows × PlacingOk m.value

  parameter_ok : (c : Context) (s : Section) (elem t : Place) (f : Placing) (i : Ident) → SoundContext names c → i.name < names → IsThere c.scene t → PlacingOk f → PlacedOk c (parameter_row c s elem t f i)
  parameter_ok c s elem t f i sound h k l =
      let size = size_of c.scene t in
      let opened = make_then c (makes_named c i.name i.at (Var t Open f.cell)) (λ d p.
      makes (placing (capped (f.cell + 2)) f.own (f.copies ++ open_copies s.by_ref f.cell (size_of c.scene elem)))) in
      let addressed = make_then c (makes_named c i.name i.at (Var t ByAddress f.cell)) (λ d p. makes (placing (capped (f.cell + 1)) f.own f.copies)) in
      let copied = make_then c (makes_named c i.name i.at (Var t Plain f.own)) (λ d p.
      makes (placing (capped (f.cell + 1)) (capped (f.own + size)) (f.copies ++ own_copy f.own f.cell size ∷ []))) in
      let valued = make_then c (makes_named c i.name i.at (Var t Plain f.cell)) (λ d p. makes (placing (capped (f.cell + 1)) f.own f.copies)) in
      either (PlacedOk c) s.is_open opened (if s.by_ref then addressed else if is_structured c t then copied else valued)
      (ok-end (at_cell Open f.cell l.0), (capped-most (f.cell + 2), l.1))
      (either (PlacedOk c) s.by_ref addressed (if is_structured c t then copied else valued)
      (ok-end (at_cell ByAddress f.cell l.0), (capped-most (f.cell + 1), l.1))
      (either (PlacedOk c) (is_structured c t) copied valued
      (ok-end (at_cell Plain f.own l.1), (capped-most (f.cell + 1), capped-most (f.own + size)))
      (ok-end (at_cell Plain f.cell l.0), (capped-most (f.cell + 1), l.1))))
    where
      at_cell : (m : Mode) (cell : ℕ) → cell ≤ most_cells + 1 → AreOk names c.scene (makes_named c i.name i.at (Var t m cell)).rows
      at_cell m cell small = (named_made c sound i.name i.at (Var t m cell) h k.0 (k.1, omega (arith, small)) tt).rows_ok

  parameters_ok : (idents : List Ident) (c : Context) (s : Section) (elem t : Place) (f : Placing) → SoundContext names c → AreSoundNames names idents → IsThere c.scene t → PlacingOk f
      → Room c.scene (parameter_rows c s elem t f idents).rows → PlacedOk c (parameter_rows c s elem t f idents)
  parameters_ok [] c s elem t f sound h k l room = (no_ok, l)
  parameters_ok (i ∷ idents) c s elem t f sound h k l room =
      let m = parameter_row c s elem t f i in
      let first = parameter_ok c s elem t f i sound h.0 k l in
      let rest = parameters_ok idents (with_rows c m.rows) s elem t m.value (context-with sound first.0 (room-left m.rows _ room)) h.1
      (there-with c.scene m.rows t sound.scene.room k) first.1 (room-right c.scene m.rows _ sound.scene.room room) in
      (ok-append first.0 rest.0, rest.1)

  own_section_ok : (s : Section) (c : Context) (f : Placing) → SoundContext names c → AreSoundNames names s.names → PlacingOk f → Room c.scene (own_section_rows c f s).rows → PlacedOk c (own_section_rows c f s)
  own_section_ok s c f sound h l room =
      let d = with_rows c [] in
      let sd = context-then sound in
      let elem = (type_of_qual c s.of).value in
      let typ = open_array_row d s.of.first.at s.is_open elem in
      let e = with_rows d typ.rows in
      let more = parameter_rows e s elem typ.value f s.names in
      let first = open_made names d sd s.of.first.at s.is_open elem (there-then c.scene elem (qual_there c sound.scene s.of)) in
      let rd = room-then room in
      let left = room-left typ.rows more.rows rd in
      let rest = parameters_ok s.names e s elem typ.value f (context-with sd first.rows_ok left) h first.there l (room-right d.scene typ.rows more.rows sd.scene.room rd) in
      (ok-then (ok-append first.rows_ok rest.0), rest.1)

  own_sections_ok : (sections : List Section) (c : Context) (f : Placing) → SoundContext names c → AreSoundSections names sections → PlacingOk f → Room c.scene (own_sections_rows c f sections).rows
      → PlacedOk c (own_sections_rows c f sections)
  own_sections_ok [] c f sound h l room = (no_ok, l)
  own_sections_ok (s ∷ sections) c f sound h l room =
      let m = own_section_rows c f s in
      let left = room-left m.rows _ room in
      let first = own_section_ok s c f sound h.0 l left in
      let rest = own_sections_ok sections (with_rows c m.rows) m.value (context-with sound first.0 left) h.1 first.1 (room-right c.scene m.rows _ sound.scene.room room) in
      (ok-append first.0 rest.0, rest.1)

  -- ** Procedures

  number_small : (c : Context) → SoundContext names c → (kind : StreamKind) (stream : ℕ) → stream < 2 ^ 32 → proc_number c kind stream < 2 ^ 32
  number_small c sound Definition stream h =
      let few = sound.scene.few in
      let e = filter_count is_proc (own_rows c) in
      omega (arith, few, e)
  number_small c sound kind stream h = omega (arith, h)

  scope_small : (kind : StreamKind) (stream : ℕ) → stream < 2 ^ 32 → proc_scope kind stream < 2 ^ 32
  scope_small Definition stream h = omega arith
  scope_small kind stream h = h

  proc_ok : (h : Heading) (stream : ℕ) (c : Context) (kind : StreamKind) → SoundContext names c → h.name.name < names → stream < 2 ^ 32 → Room c.scene (proc_rows c kind h stream).rows
      → AreOk names c.scene (proc_rows c kind h stream).rows
  proc_ok h stream c kind sound good small room =
      let start = (next_place c).ordinal in
      let own = start + sections_length h.sections in
      let made = section_rows c own h.sections in
      let d = with_rows c made.rows in
      let r = (result_type d h.result).value in
      let e = with_rows d [] in
      let m = ProcType r (parameter_count h.sections) start in
      let t = makes_row e h.name.at m in
      let f = with_rows e t.rows in
      let p = makes_named f h.name.name h.name.at (Proc t.value (proc_number c kind stream) (proc_scope kind stream)) in
      let left = room-left made.rows (t.rows ++ (p.rows ++ [])) room in
      let count = sections_count h.sections in
      let many = AreShaped-length (sections_of h.sections c own) in
      let enough = left.enough in
      let first = sections_made h.sections c own sound (omega (arith, many, count.0, enough)) left in
      let after = context-with sound first left in
      let se = context-then after in
      let there : WhereKept r (IsThere e.scene) = subst (λ s. WhereKept r (IsThere s)) (sym (with-none d.scene)) (result_ok names d after.scene h.result) in
      let behind = ap length (own-with c.scene made.rows sound.scene.room) in
      let sum = length-append (own_of c.scene) made.rows in
      let same = ap length (ap own_of (with-none d.scene)) in
      let second = plain_made e se h.name.at m (result_small names e.scene r (parameter_count h.sections) start there)
      (result_before names e r there, omega (arith, many, count.0, count.1, enough), omega (arith, behind, sum, same)) tt in
      let re = room-then (room-right c.scene made.rows (t.rows ++ (p.rows ++ [])) sound.scene.room room) in
      let sf = context-with se second.rows_ok (room-left t.rows (p.rows ++ []) re) in
      let third = named_made f sf h.name.name h.name.at (Proc t.value (proc_number c kind stream) (proc_scope kind stream)) good second.there.0
      (second.there.1, number_small c sound kind stream small, scope_small kind stream small) tt in
      ok-append first (ok-then (ok-append second.rows_ok (ok-end third.rows_ok)))

  -- ** Items

  alias_made : (c : Context) → SoundContext names c → (i : Ident) (p : Place) (brought : Option Named) → i.name < names → IsThere c.scene p → AreOk names c.scene (alias_by c i p brought).rows
  alias_made c sound i p None good there = (named_made c sound i.name i.at (Alias p) good there.0 there.1 tt).rows_ok
  alias_made c sound i p (Some n) good there = (plain_made c sound i.at (Alias p) there.0 there.1 tt).rows_ok

  -- rows that are right, the next free cell, and a right layout
  abbrev pub ItemOk : Context → StreamKind → Item → ℕ → Type 0
  ItemOk c kind x cell =
      AreOk names c.scene (declare c kind x cell).rows × ((declare c kind x cell).value.cell ≤ most_cells + 1)
      × LayoutOk (extended c.layout (declare c kind x cell).value.brought)

  pub item_ok : (x : Item) (c : Context) (kind : StreamKind) (cell : ℕ) → SoundContext names c → IsSoundItem names x → IsImportedBefore c.source c.scene.block.scope x → cell ≤ most_cells + 1
      → Room c.scene (declare c kind x cell).rows → ItemOk c kind x cell
  item_ok (heading_item h) c kind cell sound good imported small room =
      let m = own_sections_rows c (placing 0 (capped (parameter_cells h.sections)) []) h.sections in
      let made = own_sections_ok h.sections c (placing 0 (capped (parameter_cells h.sections)) []) sound good (omega arith, capped-most (parameter_cells h.sections)) (room-left m.rows [] room) in
      (ok-end made.0, made.1.1, sound.layout)
  item_ok (import_item None i) c kind cell sound good imported small room =
      (ok-end (ok-end (named_made c sound i.name i.at (Module (scope_of_module c.source i.name)) good tt imported tt).rows_ok), small, sound.layout)
  item_ok (import_item (Some m) i) c kind cell sound good imported small room =
      let e = (use_of c (Some (scope_of_module c.source m.name)) i.name i.at).value in
      let there = there-then c.scene (place_or_broken e) (place_there c.scene sound.scene e (use_ok c sound.scene (Some (scope_of_module c.source m.name)) i.name i.at)) in
      let d = with_rows c [] in
      let sd = context-then sound in
      let own = alias_row d i (place_or_broken e) in
      let f = with_rows d own.rows in
      let ms = members_of f.scene e in
      let b = brings f i.at ms (new_members f [] ms) in
      let few = import_few (Some m) i c kind cell sound.layout.few in
      let rd = room-then (room-left (own.rows ++ b.rows) [] room) in
      let left = room-left own.rows b.rows rd in
      let first = alias_made d sd i (place_or_broken e) (entry_named d.layout.brought i.name) good there in
      let sf = context-with sd first left in
      let brought = brought_ok names f sf i.at ms (members_ok names f.scene sf.scene e) (room-right d.scene own.rows b.rows sd.scene.room rd) few in
      (ok-end (ok-then (ok-append first brought.0)), small, brought.1)
  item_ok (const_item i e) c kind cell sound good imported small room =
      let o = (constant_of c e).value in
      let ok : WhereKept o (OperandOk names (with_rows c []).scene) = subst (λ s. WhereKept o (OperandOk names s)) (sym (with-none c.scene)) (constant_ok names e c sound good.1) in
      (ok-end (ok-then (const_made (with_rows c []) (context-then sound) i o good.0 ok)), small, sound.layout)
  item_ok (type_item i t) c kind cell sound good imported small room =
      let made = declared_type c i t in
      let d = with_rows c made.rows in
      let name = makes_named d i.name i.at (TypeName made.value) in
      let rc = room-left (made.rows ++ name.rows) [] room in
      let left = room-left made.rows name.rows rc in
      let first = declared_made i t c sound good.1 left in
      (ok-end (ok-append first.rows_ok (named_made d (context-with sound first.rows_ok left) i.name i.at (TypeName made.value) good.0 first.there.0 first.there.1 tt).rows_ok), small, sound.layout)
  item_ok (vars_item idents t) c kind cell sound good imported small room =
      let made = type_rows c t in
      let d = with_rows c made.rows in
      let vars = var_rows d made.value cell idents in
      let rc = room-left (made.rows ++ vars.rows) [] room in
      let left = room-left made.rows vars.rows rc in
      let first = type_made names t c sound good.1 left in
      let rest = vars_made idents d made.value cell (context-with sound first.rows_ok left) good.0 first.there small (room-right c.scene made.rows vars.rows sound.scene.room rc) in
      (ok-end (ok-append first.rows_ok rest.0), rest.1, sound.layout)
  item_ok (proc_item h stream) c kind cell sound good imported small room =
      (ok-end (proc_ok h stream c kind sound good.0 good.2 (room-left (proc_rows c kind h stream).rows [] room)), small, sound.layout)

  pub items_ok : (items : List Item) (c : Context) (kind : StreamKind) (i cell : ℕ) → SoundContext names c → Each (IsSoundItem names) items → Each (IsImportedBefore c.source c.scene.block.scope) items → cell ≤ most_cells + 1
      → Room c.scene (declare_items c kind i cell items).rows → AreOk names c.scene (declare_items c kind i cell items).rows
  items_ok [] c kind i cell sound good imported small room = no_ok
  items_ok (x ∷ items) c kind i cell sound good imported small room =
      let a = at_item c i in
      let sa : SoundContext names a = record { scene = sound.scene; source = sound.source; few_names = sound.few_names; layout = sound.layout } in
      let m = declare a kind x cell in
      let d = with_rows c m.rows in
      let g = brought_in d m.value.brought in
      let more = declare_items g kind (i + 1) m.value.cell items in
      let left = room-left m.rows (more.rows ++ []) room in
      let first = item_ok x a kind cell sa good.0 imported.0 small left in
      let rest = room-right c.scene m.rows (more.rows ++ []) sound.scene.room room in
      let sd = context-with sound first.0 left in
      let sg : SoundContext names g = record { scene = sd.scene; source = sd.source; few_names = sd.few_names; layout = first.2 } in
      ok-append first.0 (ok-end (items_ok items g kind (i + 1) m.value.cell sg good.1 imported.1 first.1 (room-left more.rows [] rest)))
