-- The rows of every item agree.
use Rattle.std.specs.Prelude.{ℕ, ◌+◌, Bool, true, false, pos, List, [], ◌∷◌, ◌++◌, Option, Some, None}
use Rattle.std.proofs.Common.{ap, subst, sym}
use Rattle.m2_base.specs.Lists.{Each}
use Rattle.m2_base.specs.declared.operands.Operand.{Operand}
use Rattle.m2_base.specs.declared.operands.Operand.TheVariants.{Constant, StringConstant}
use Rattle.m2_base.specs.declared.rows.Mode.{Mode}
use Rattle.m2_base.specs.declared.rows.Mode.TheVariants.{Plain, ByAddress, Open}
use Rattle.m2_base.specs.declared.rows.Place.{Place}
use Rattle.m2_base.specs.declared.rows.RowMeaning.TheVariants.{Const, Module, Opaque, Param, Proc, ProcType, TypeName, Var}
use Rattle.m2_base.specs.declared.trees.Ident.{Ident}
use Rattle.m2_base.specs.declared.trees.declarations.StreamKind.{StreamKind}
use Rattle.m2_base.specs.Standard.{broken, text_type}
use Rattle.m2_base.specs.Trees.{TypeExpr, Section, Heading}
use Rattle.m2_base.specs.Statics.BlockRows.{at_item, brought_in, declare_items}
use Rattle.m2_base.specs.Statics.Cells.{capped}
use Rattle.m2_base.specs.Statics.Constants.{constant_of}
use Rattle.m2_base.specs.Statics.Contexts.{Context, scope_of_module}
use Rattle.m2_base.specs.Statics.Declarations.{declare}
use Rattle.m2_base.specs.Statics.HeadingRows.{Placing, placing, parameter_row, parameter_rows, own_section_rows, own_sections_rows}
use Rattle.m2_base.specs.Statics.Items.{Item, heading_item, import_item, const_item, type_item, vars_item, proc_item}
use Rattle.m2_base.specs.Statics.Makes.{Makes, with_rows, next_place, makes_row, makes_named, scene_with}
use Rattle.m2_base.specs.Statics.NameRows.{const_meaning, declared_type, var_rows}
use Rattle.m2_base.specs.Statics.ProcedureRows.{param_rows, section_rows, parameter_count, parameter_cells, sections_length, proc_number, proc_scope, proc_rows}
use Rattle.m2_base.specs.Statics.ProcedureTypes.{is_structured, open_array_row, parameter_type, result_type}
use Rattle.m2_base.specs.Statics.SoundTrees.{IsSoundOption, IsSoundItem}
use Rattle.m2_base.specs.Statics.TypeNames.{type_of_qual}
use Rattle.m2_base.specs.Statics.TypeRows.{type_rows}
use Rattle.m2_base.specs.Statics.Types.{size_of}
use Rattle.m2_base.proofs.RowLaws.{place_of-number_of}
use Rattle.m2_base.proofs.SceneLaws.{with-none}
use Rattle.m2_base.proofs.Sound.{IsThere, next_of}
use Rattle.m2_base.proofs.SoundMade.{next_there}
use Rattle.m2_base.proofs.SoundRows.{type_made}
use Rattle.m2_base.proofs.SoundTypes.{either}
use Rattle.m2_base.specs.Rows.{row_of}
use Rattle.m2_base.specs.Statics.Assignable.{is_open_kind}
use Rattle.row_laws.proofs.Numbers.{AllAgree, none_agree}
use Rattle.row_laws.proofs.Closed.{IsClosed, closed_with}
use Rattle.row_laws.proofs.ClosedTypes.{IsNoOpen, fresh_at, type_no_open}
use Rattle.row_laws.proofs.Agreeing.{Ready, ready-left, agree-append, agree-end, agree-then, one_agrees, named_agrees}
use Rattle.row_laws.proofs.ImportedRows.{import_agrees, ready-item, ready-next}
use Rattle.row_laws.proofs.AgreeingTypes.{open_agrees, parameter_agrees, result_agrees, type_agrees}

-- ** Constants, variables and parameters

const_agrees : (c : Context) (i : Ident) (o : Option Operand) → AllAgree c.scene (makes_named c i.name i.at (const_meaning o)).rows
const_agrees c i (Some (Constant t v)) = named_agrees c i.name i.at (Const t v 0) (λ n. tt)
const_agrees c i (Some (StringConstant n len)) = named_agrees c i.name i.at (Const text_type (pos n) len) (λ n. tt)
const_agrees c i o = named_agrees c i.name i.at (Const broken (pos 0) 0) (λ n. tt)

var_agrees : (c : Context) (i : Ident) (t : Place) (m : Mode) (cell : ℕ) → AllAgree c.scene (makes_named c i.name i.at (Var t m cell)).rows
var_agrees c i t Plain cell = named_agrees c i.name i.at (Var t Plain cell) (λ n. tt)
var_agrees c i t ByAddress cell = named_agrees c i.name i.at (Var t ByAddress cell) (λ n. tt)
var_agrees c i t Open cell = named_agrees c i.name i.at (Var t Open cell) (λ n. tt)

vars_agree : (idents : List Ident) (c : Context) (t : Place) (cell : ℕ) → AllAgree c.scene (var_rows c t cell idents).rows
vars_agree [] c t cell = none_agree
vars_agree (i ∷ idents) c t cell =
    let d = with_rows c (makes_named c i.name i.at (Var t Plain cell)).rows in
    agree-append (var_agrees c i t Plain cell) (vars_agree idents d t (capped (cell + size_of d.scene t)))

pub params_agree : (idents : List Ident) (c : Context) (own : ℕ) (by_ref : Bool) (t : Place) → AllAgree c.scene (param_rows c own by_ref t idents).rows
params_agree [] c own by_ref t = none_agree
params_agree (i ∷ idents) c own true t =
    agree-append (one_agrees 0 i.at (Param t true own) tt) (params_agree idents (with_rows c (makes_row c i.at (Param t true own)).rows) own true t)
params_agree (i ∷ idents) c own false t =
    agree-append (one_agrees 0 i.at (Param t false own) tt) (params_agree idents (with_rows c (makes_row c i.at (Param t false own)).rows) own false t)

sections_agree : (sections : List Section) (c : Context) (own : ℕ) → AllAgree c.scene (section_rows c own sections).rows
sections_agree [] c own = none_agree
sections_agree (s ∷ sections) c own =
    let typ = parameter_type c s.is_open s.of in
    let d = with_rows c typ.rows in
    let params = param_rows d own s.by_ref typ.value s.names in
    agree-append (parameter_agrees c s.is_open s.of)
    (agree-append (params_agree s.names d own s.by_ref typ.value) (sections_agree sections (with_rows d params.rows) own))

-- ** Headings

parameter_row_agrees : (c : Context) (s : Section) (elem t : Place) (f : Placing) (i : Ident) → AllAgree c.scene (parameter_row c s elem t f i).rows
parameter_row_agrees c s elem t f i =
    either (λ (x : Makes Placing). AllAgree c.scene x.rows) s.is_open _ _ (agree-end (var_agrees c i t Open f.cell))
    (either (λ (x : Makes Placing). AllAgree c.scene x.rows) s.by_ref _ _ (agree-end (var_agrees c i t ByAddress f.cell))
    (either (λ (x : Makes Placing). AllAgree c.scene x.rows) (is_structured c t) _ _ (agree-end (var_agrees c i t Plain f.own)) (agree-end (var_agrees c i t Plain f.cell))))

parameter_rows_agree : (idents : List Ident) (c : Context) (s : Section) (elem t : Place) (f : Placing) → AllAgree c.scene (parameter_rows c s elem t f idents).rows
parameter_rows_agree [] c s elem t f = none_agree
parameter_rows_agree (i ∷ idents) c s elem t f =
    let m = parameter_row c s elem t f i in
    agree-append (parameter_row_agrees c s elem t f i) (parameter_rows_agree idents (with_rows c m.rows) s elem t m.value)

own_section_agrees : (s : Section) (c : Context) (f : Placing) → AllAgree c.scene (own_section_rows c f s).rows
own_section_agrees s c f =
    let d = with_rows c [] in
    let elem = (type_of_qual c s.of).value in
    let typ = open_array_row d s.of.first.at s.is_open elem in
    agree-then (agree-append (open_agrees d s.of.first.at s.is_open elem) (parameter_rows_agree s.names (with_rows d typ.rows) s elem typ.value f))

own_sections_agree : (sections : List Section) (c : Context) (f : Placing) → AllAgree c.scene (own_sections_rows c f sections).rows
own_sections_agree [] c f = none_agree
own_sections_agree (s ∷ sections) c f =
    let m = own_section_rows c f s in
    agree-append (own_section_agrees s c f) (own_sections_agree sections (with_rows c m.rows) m.value)

proc_agrees : (h : Heading) (stream : ℕ) (c : Context) (kind : StreamKind) → AllAgree c.scene (proc_rows c kind h stream).rows
proc_agrees h stream c kind =
    let start = (next_place c).ordinal in
    let own = start + sections_length h.sections in
    let made = section_rows c own h.sections in
    let d = with_rows c made.rows in
    let r = (result_type d h.result).value in
    let e = with_rows d [] in
    let t = makes_row e h.name.at (ProcType r (parameter_count h.sections) start) in
    let f = with_rows e t.rows in
    agree-append (sections_agree h.sections c own) (agree-then
    (agree-append (result_agrees e h.name.at r (parameter_count h.sections) start)
    (agree-end (named_agrees f h.name.name h.name.at (Proc t.value (proc_number c kind stream) (proc_scope kind stream)) (λ n. tt)))))

module _ (names : ℕ) where
  declared_agrees : (i : Ident) (typ : Option TypeExpr) (c : Context) → IsSoundOption names typ → Ready names c (declared_type c i typ).rows → AllAgree c.scene (declared_type c i typ).rows
  declared_agrees i None c good ready = one_agrees 0 i.at Opaque tt
  declared_agrees i (Some t) c good ready = type_agrees names t c good ready

  -- the type of a type's name is no open array's
  declared_no_open : (i : Ident) (typ : Option TypeExpr) (c : Context) → IsSoundOption names typ → Ready names c (declared_type c i typ).rows → IsClosed c.scene → IsNoOpen (scene_with c.scene (declared_type c i typ).rows) (declared_type c i typ).value
  declared_no_open i None c good ready closed =
      subst (λ x. IsNoOpen (scene_with c.scene (row_of 0 i.at Opaque ∷ [])) (next_of x)) (with-none c.scene) (ap is_open_kind (fresh_at c [] (row_of 0 i.at Opaque) [] ready))
  declared_no_open i (Some t) c good ready closed = type_no_open names t c ready (type_agrees names t c good ready) closed

  declared_there : (i : Ident) (typ : Option TypeExpr) (c : Context) → IsSoundOption names typ → Ready names c (declared_type c i typ).rows → IsThere (scene_with c.scene (declared_type c i typ).rows) (declared_type c i typ).value
  declared_there i None c good ready = next_there ready.sound.scene (row_of 0 i.at Opaque)
  declared_there i (Some t) c good ready = (type_made names t c ready.sound good ready.room).there

  item_agrees : (x : Item) (c : Context) (kind : StreamKind) (cell : ℕ) → IsSoundItem names x → Ready names c (declare c kind x cell).rows → IsClosed c.scene → AllAgree c.scene (declare c kind x cell).rows
  item_agrees (heading_item h) c kind cell good ready closed = agree-end (own_sections_agree h.sections c (placing 0 (capped (parameter_cells h.sections)) []))
  item_agrees (import_item None i) c kind cell good ready closed = agree-end (agree-end (named_agrees c i.name i.at (Module (scope_of_module c.source i.name)) (λ n. tt)))
  item_agrees (import_item (Some m) i) c kind cell good ready closed = import_agrees m i c kind cell
  item_agrees (const_item i e) c kind cell good ready closed = agree-end (agree-then (const_agrees (with_rows c []) i (constant_of c e).value))
  item_agrees (type_item i t) c kind cell good ready closed =
      let made = declared_type c i t in
      let d = with_rows c made.rows in
      let name = makes_named d i.name i.at (TypeName made.value) in
      let rc = ready-left (made.rows ++ name.rows) [] ready in
      agree-end (agree-append (declared_agrees i t c good.1 (ready-left made.rows name.rows rc)) (named_agrees d i.name i.at (TypeName made.value)
      (λ n. let left = ready-left made.rows name.rows rc in
      subst (λ p. IsNoOpen d.scene p) (sym (place_of-number_of made.value (declared_there i t c good.1 left).0)) (declared_no_open i t c good.1 left closed))))
  item_agrees (vars_item idents t) c kind cell good ready closed =
      let made = type_rows c t in
      let d = with_rows c made.rows in
      let vars = var_rows d made.value cell idents in
      let rc = ready-left (made.rows ++ vars.rows) [] ready in
      agree-end (agree-append (type_agrees names t c good.1 (ready-left made.rows vars.rows rc)) (vars_agree idents d made.value cell))
  item_agrees (proc_item h stream) c kind cell good ready closed = agree-end (proc_agrees h stream c kind)

  pub items_agree : (items : List Item) (c : Context) (kind : StreamKind) (i cell : ℕ) → Each (IsSoundItem names) items → Ready names c (declare_items c kind i cell items).rows → IsClosed c.scene
      → AllAgree c.scene (declare_items c kind i cell items).rows
  items_agree [] c kind i cell good ready closed = none_agree
  items_agree (x ∷ items) c kind i cell good ready closed =
      let a = at_item c i in
      let m = declare a kind x cell in
      let d = brought_in (with_rows c m.rows) m.value.brought in
      let more = declare_items d kind (i + 1) m.value.cell items in
      let ra = ready-item c i (ready-left m.rows (more.rows ++ []) ready) in
      let rest = ready-next c x kind i cell (more.rows ++ []) ready in
      let agrees = item_agrees x a kind cell good.0 ra closed in
      agree-append agrees (agree-end (items_agree items d kind (i + 1) m.value.cell good.1 (ready-left more.rows [] rest) (closed_with names a m.rows ra agrees closed)))
