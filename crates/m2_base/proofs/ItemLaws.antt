-- The rows that an item makes are those that the layout gives it.
use Rattle.std.specs.Prelude.{refl, ℕ, ◌+◌, Bool, true, false, if◌then◌else◌, List, [], ◌∷◌, map, flat_map, pos, Option, Some, None}
use Rattle.m2_base.specs.Rows.{Place, Const, TypeName, Var, Proc, Module, Alias, ProcType, Plain, ByAddress, Open, const_kind, type_name_kind, var_kind, proc_kind, module_kind, alias_kind, param_kind, proc_type_kind, opaque_kind}
use Rattle.m2_base.specs.Standard.{broken, text_type}
use Rattle.m2_base.specs.Statics.Cells.{capped}
use Rattle.m2_base.specs.Statics.Constants.{constant_of}
use Rattle.m2_base.specs.Statics.Contexts.{Context, Named, scope_of_module}
use Rattle.m2_base.specs.Statics.Declarations.{declare}
use Rattle.m2_base.specs.Statics.HeadingRows.{Placing, placing, parameter_row, parameter_rows, own_section_rows, own_sections_rows}
use Rattle.m2_base.specs.Statics.ImportRows.{alias_by, alias_row, place_or_broken}
use Rattle.m2_base.specs.Statics.ImportedConstants.{members_of, new_members}
use Rattle.m2_base.specs.Statics.Items.{heading_item, Item, import_item, const_item, type_item, vars_item, proc_item}
use Rattle.m2_base.specs.Statics.Layouts.{with_brought}
use Rattle.m2_base.specs.Statics.Lookup.{entry_named}
use Rattle.m2_base.specs.Statics.Makes.{Makes, with_rows, makes_named, makes_row, next_place}
use Rattle.m2_base.specs.Statics.NameRows.{const_meaning, declared_type, var_rows}
use Rattle.m2_base.specs.Statics.ProcedureRows.{param_rows, section_rows, parameter_cells, sections_length, parameter_count, proc_number, proc_scope}
use Rattle.m2_base.specs.Statics.ProcedureTypes.{is_structured, open_array_row, result_type}
use Rattle.m2_base.specs.Statics.Shapes.{nameless, named, own_section_shapes, section_shapes, type_item_shapes, item_shapes}
use Rattle.m2_base.specs.Statics.TypeNames.{type_of_qual}
use Rattle.m2_base.specs.Statics.TypeRows.{type_rows}
use Rattle.m2_base.specs.Statics.Uses.{use_of}
use Rattle.m2_base.specs.Trees.{Ident, Expr, TypeExpr, Section, Heading, StreamKind}
use Rattle.m2_base.specs.declared.operands.Operand.{Operand}
use Rattle.m2_base.specs.declared.operands.Operand.TheVariants.{Constant, StringConstant}
use Rattle.m2_base.specs.Statics.ShapedRows.{AreShaped, none_of}
use Rattle.m2_base.proofs.ShapeLaws.{AreShaped-append, AreShaped-append3, AreShaped-end, one_of, plain_of, named_of, open_of, type_of}
use Rattle.m2_base.proofs.ImportLaws.{brings_shaped}
use Rattle.std.proofs.Common.{inr}

-- ** Variables and parameters

vars_of : (names : List Ident) (c : Context) (t : Place) (cell : ℕ) → AreShaped (map (named var_kind) names) (var_rows c t cell names).rows
vars_of [] c t cell = none_of
vars_of (i ∷ names) c t cell =
    AreShaped-append (named_of c var_kind i (Var t Plain cell) refl refl refl refl refl refl) (vars_of names _ t _)

params_of : (names : List Ident) (c : Context) (own : ℕ) (by_ref : Bool) (t : Place)
    → AreShaped (map (λ (i : Ident). nameless param_kind i.at) names) (param_rows c own by_ref t names).rows
params_of [] c own by_ref t = none_of
params_of (i ∷ names) c own by_ref t = AreShaped-append (plain_of param_kind i.at _ refl refl refl) (params_of names _ own by_ref t)

pub sections_of : (sections : List Section) (c : Context) (own : ℕ) → AreShaped (flat_map section_shapes sections) (section_rows c own sections).rows
sections_of [] c own = none_of
sections_of (s ∷ sections) c own =
    let d = with_rows c [] in
    let elem = (type_of_qual c s.of).value in
    let t = open_array_row d s.of.first.at s.is_open elem in
    AreShaped-append3 (open_of d s.is_open s.of elem) (params_of s.names (with_rows c t.rows) own s.by_ref t.value)
    (sections_of sections _ own)

parameter_of : (c : Context) (s : Section) (elem t : Place) (f : Placing) (i : Ident) → AreShaped (named var_kind i ∷ []) (parameter_row c s elem t f i).rows
parameter_of c s elem t f i = by_tests s.is_open s.by_ref (is_structured c t) _ _ _ _
    (AreShaped-end (named_of c var_kind i (Var t Open f.cell) refl refl refl refl refl refl))
    (AreShaped-end (named_of c var_kind i (Var t ByAddress f.cell) refl refl refl refl refl refl))
    (AreShaped-end (named_of c var_kind i (Var t Plain f.own) refl refl refl refl refl refl))
    (AreShaped-end (named_of c var_kind i (Var t Plain f.cell) refl refl refl refl refl refl))
  where
    by_tests : (a b d : Bool) (w x y z : Makes Placing) → AreShaped (named var_kind i ∷ []) w.rows → AreShaped (named var_kind i ∷ []) x.rows
        → AreShaped (named var_kind i ∷ []) y.rows → AreShaped (named var_kind i ∷ []) z.rows
        → AreShaped (named var_kind i ∷ []) (if a then w else if b then x else if d then y else z).rows
    by_tests true b d w x y z p q r u = p
    by_tests false true d w x y z p q r u = q
    by_tests false false true w x y z p q r u = r
    by_tests false false false w x y z p q r u = u

parameters_of : (names : List Ident) (c : Context) (s : Section) (elem t : Place) (f : Placing)
    → AreShaped (map (named var_kind) names) (parameter_rows c s elem t f names).rows
parameters_of [] c s elem t f = none_of
parameters_of (i ∷ names) c s elem t f = AreShaped-append (parameter_of c s elem t f i) (parameters_of names _ s elem t _)

own_section_of : (s : Section) (c : Context) (f : Placing) → AreShaped (own_section_shapes s) (own_section_rows c f s).rows
own_section_of s c f =
    let d = with_rows c [] in
    let elem = (type_of_qual c s.of).value in
    let t = open_array_row d s.of.first.at s.is_open elem in
    AreShaped-append (open_of d s.is_open s.of elem) (parameters_of s.names (with_rows d t.rows) s elem t.value f)

own_sections_of : (sections : List Section) (c : Context) (f : Placing) → AreShaped (flat_map own_section_shapes sections) (own_sections_rows c f sections).rows
own_sections_of [] c f = none_of
own_sections_of (s ∷ sections) c f = AreShaped-append (own_section_of s c f) (own_sections_of sections _ _)

-- ** Items

declared_of : (i : Ident) (typ : Option TypeExpr) (c : Context) → AreShaped (type_item_shapes i typ) (declared_type c i typ).rows
declared_of i None c = plain_of opaque_kind i.at _ refl refl refl
declared_of i (Some t) c = type_of t c

const_of : (o : Option Operand) (c : Context) (i : Ident) → AreShaped (named const_kind i ∷ []) (makes_named c i.name i.at (const_meaning o)).rows
const_of None c i = named_of c const_kind i (Const broken (pos 0) 0) refl refl refl refl refl refl
const_of (Some (Constant t v)) c i = named_of c const_kind i (Const t v 0) refl refl refl refl refl refl
const_of (Some (StringConstant n len)) c i = named_of c const_kind i (Const text_type (pos n) len) refl refl refl refl refl refl
const_of (Some other) c i = named_of c const_kind i (Const broken (pos 0) 0) refl refl refl refl refl refl

-- what each kind of item makes, whatever the context

pub heading_item_of : (h : Heading) (c : Context) (kind : StreamKind) (cell : ℕ)
    → AreShaped (item_shapes (heading_item h)) (declare c kind (heading_item h) cell).rows
heading_item_of h c kind cell = AreShaped-end (own_sections_of h.sections c (placing 0 (capped (parameter_cells h.sections)) []))

alias_of : (c : Context) (i : Ident) (p : Place) (brought : Option Named) → AreShaped (named alias_kind i ∷ []) (alias_by c i p brought).rows
alias_of c i p None = named_of c alias_kind i (Alias p) refl refl refl refl refl refl
alias_of c i p (Some n) = one_of (record { kind = refl; at = refl; name = inr refl })

pub import_item_of : (from : Option Ident) (i : Ident) (c : Context) (kind : StreamKind) (cell : ℕ)
    → AreShaped (with_brought (item_shapes (import_item from i)) (declare c kind (import_item from i) cell).value.brought) (declare c kind (import_item from i) cell).rows
import_item_of None i c kind cell = AreShaped-end (AreShaped-end (named_of c module_kind i (Module (scope_of_module c.source i.name)) refl refl refl refl refl refl))
import_item_of (Some m) i c kind cell =
    let e = (use_of c (Some (scope_of_module c.source m.name)) i.name i.at).value in
    let d = with_rows c [] in
    let f = with_rows d (alias_row d i (place_or_broken e)).rows in
    let ms = members_of f.scene e in
    AreShaped-end (brings_shaped f i.at ms (new_members f [] ms) (alias_of d i (place_or_broken e) (entry_named d.layout.brought i.name)))

pub const_item_of : (i : Ident) (e : Expr) (c : Context) (kind : StreamKind) (cell : ℕ)
    → AreShaped (item_shapes (const_item i e)) (declare c kind (const_item i e) cell).rows
const_item_of i e c kind cell = AreShaped-end (const_of (constant_of c e).value (with_rows c []) i)

pub type_item_of : (i : Ident) (t : Option TypeExpr) (c : Context) (kind : StreamKind) (cell : ℕ)
    → AreShaped (item_shapes (type_item i t)) (declare c kind (type_item i t) cell).rows
type_item_of i t c kind cell =
    let made = declared_type c i t in
    AreShaped-end (AreShaped-append (declared_of i t c)
    (named_of (with_rows c made.rows) type_name_kind i (TypeName made.value) refl refl refl refl refl refl))

pub vars_item_of : (names : List Ident) (t : TypeExpr) (c : Context) (kind : StreamKind) (cell : ℕ)
    → AreShaped (item_shapes (vars_item names t)) (declare c kind (vars_item names t) cell).rows
vars_item_of names t c kind cell =
    let made = type_rows c t in
    AreShaped-end (AreShaped-append (type_of t c) (vars_of names (with_rows c made.rows) made.value cell))

pub proc_item_of : (h : Heading) (stream : ℕ) (c : Context) (kind : StreamKind) (cell : ℕ)
    → AreShaped (item_shapes (proc_item h stream)) (declare c kind (proc_item h stream) cell).rows
proc_item_of h stream c kind cell =
    let first = (next_place c).ordinal in
    let sections = section_rows c (first + sections_length h.sections) h.sections in
    let d = with_rows c sections.rows in
    let e = with_rows d [] in
    let t = makes_row e h.name.at (ProcType (result_type d h.result).value (parameter_count h.sections) first) in
    AreShaped-end (AreShaped-append (sections_of h.sections c (first + sections_length h.sections))
    (AreShaped-append (plain_of proc_type_kind h.name.at _ refl refl refl)
    (AreShaped-end (named_of (with_rows e t.rows) proc_kind h.name (Proc t.value (proc_number c kind stream) (proc_scope kind stream)) refl refl refl refl refl refl))))

pub item_of : (x : Item) (c : Context) (kind : StreamKind) (cell : ℕ) → AreShaped (with_brought (item_shapes x) (declare c kind x cell).value.brought) (declare c kind x cell).rows
item_of (heading_item h) c kind cell = heading_item_of h c kind cell
item_of (import_item from i) c kind cell = import_item_of from i c kind cell
item_of (const_item i e) c kind cell = const_item_of i e c kind cell
item_of (type_item i t) c kind cell = type_item_of i t c kind cell
item_of (vars_item names t) c kind cell = vars_item_of names t c kind cell
item_of (proc_item h stream) c kind cell = proc_item_of h stream c kind cell
