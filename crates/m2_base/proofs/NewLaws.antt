-- The rows that a declaration makes are new in their scope.
use Rattle.std.specs.Prelude.{◌≡◌, ℕ, ◌+◌, Bool, true, false, if◌then◌else◌, List, [], ◌∷◌, ◌++◌, pos, Option, Some, None}
use Rattle.std.proofs.Common.{subst, sym, refl, inl, inr}
use Rattle.m2_base.specs.Gives.{Gives}
use Rattle.m2_base.specs.Rows.{Row, Place, RowMeaning, Const, TypeName, Var, Proc, Module, Alias, ProcType, Plain, ByAddress, Open}
use Rattle.m2_base.specs.Standard.{is_standard}
use Rattle.m2_base.specs.Trees.{Ident, Formal, TypeExpr, type_expr, TypeForm, named_type, enum_type, sub_type, array_type, record_type, set_type, pointer_type, proc_type, TypeExprs, no_types, more_types, FieldList, plain_fields, case_fields, FieldLists, no_fields, more_fields, variant_arm, VariantArms, no_variant_arms, more_variant_arms, Section, Heading, StreamKind}
use Rattle.m2_base.specs.Statics.Arrays.{array_rows}
use Rattle.m2_base.specs.Statics.BlockRows.{declare_items}
use Rattle.m2_base.specs.Statics.Cells.{capped}
use Rattle.m2_base.specs.Statics.Constants.{constant_of}
use Rattle.m2_base.specs.Statics.Contexts.{Context, Named, Scene, scope_of_module}
use Rattle.m2_base.specs.Statics.Declarations.{declare}
use Rattle.m2_base.specs.Statics.Enumerations.{constant_rows}
use Rattle.m2_base.specs.Statics.Fields.{field_row, plain_rows, tag_type, tag_rows}
use Rattle.m2_base.specs.Statics.HeadingRows.{Placing, placing, parameter_row, parameter_rows, own_section_rows, own_sections_rows}
use Rattle.m2_base.specs.Statics.ImportRows.{alias_by, alias_row, place_or_broken}
use Rattle.m2_base.specs.Statics.ImportedConstants.{members_of}
use Rattle.m2_base.specs.Statics.Items.{Item, heading_item, import_item, const_item, type_item, vars_item, proc_item}
use Rattle.m2_base.specs.Statics.Lookup.{entry_named, has_name}
use Rattle.m2_base.specs.Statics.Makes.{Makes, with_rows, scene_with, makes_named, makes_row, next_place}
use Rattle.m2_base.specs.Statics.NameRows.{const_meaning, declared_type, var_rows}
use Rattle.m2_base.specs.Statics.NewRows.{AreNew, no_new, more_new}
use Rattle.m2_base.specs.Statics.ProcedureRows.{param_rows, section_rows, parameter_cells, sections_length, parameter_count, proc_number, proc_scope, proc_rows}
use Rattle.m2_base.specs.Statics.ProcedureTypes.{is_structured, open_array_row, formal_rows, result_type}
use Rattle.m2_base.specs.Statics.Ranges.{Range}
use Rattle.m2_base.specs.Statics.Subranges.{Bounds, subrange_row, subrange_of}
use Rattle.m2_base.specs.Statics.Targets.{target_name, target_by_name, target_or}
use Rattle.m2_base.specs.Statics.TypeNames.{type_of_qual}
use Rattle.m2_base.specs.Statics.TypeRows.{type_rows, form_rows, index_rows, fields_rows, field_list_rows, arms_rows}
use Rattle.m2_base.specs.Statics.Uses.{use_of}
use Rattle.m2_base.proofs.ImportLaws.{brought_new}
use Rattle.m2_base.proofs.SceneLaws.{with-none, with-twice}

pub new-append : {scene : Scene} {xs ys : List Row} → AreNew scene xs → AreNew (scene_with scene xs) ys → AreNew scene (xs ++ ys)
new-append {scene} {ys = ys} no_new k = subst (λ s. AreNew s ys) (with-none scene) k
new-append {scene} {ys = ys} (more_new {r = r} {rows = rows} i h) k =
    more_new i (new-append h (subst (λ s. AreNew s ys) (sym (with-twice scene (r ∷ []) rows)) k))

pub new-end : {scene : Scene} {xs : List Row} → AreNew scene xs → AreNew scene (xs ++ [])
new-end no_new = no_new
new-end (more_new i h) = more_new i (new-end h)

-- nothing made, then these
pub new-then : {scene : Scene} {xs : List Row} → AreNew (scene_with scene []) xs → AreNew scene xs
new-then {scene} {xs} h = subst (λ s. AreNew s xs) (with-none scene) h

-- a row without a name
plain_new : (scene : Scene) (r : Row) → r.name ≡ 0 → AreNew scene (r ∷ [])
plain_new scene r h = more_new (inl h) no_new

named_new : (c : Context) (name at : ℕ) (m : RowMeaning) → AreNew c.scene (makes_named c name at m).rows
named_new c name at m = by_tests (is_standard name) (has_name c.scene.tables c.scene.block.scope name) _ _ _
    (plain_new c.scene _ refl) (plain_new c.scene _ refl) (λ e. more_new (inr e) no_new) refl
  where
    by_tests : (a b : Bool) (x y z : Makes Place) → AreNew c.scene x.rows → AreNew c.scene y.rows
        → (has_name c.scene.tables c.scene.block.scope name ≡ false → AreNew c.scene z.rows)
        → has_name c.scene.tables c.scene.block.scope name ≡ b → AreNew c.scene (if a then x else if b then y else z).rows
    by_tests true b x y z p q r e = p
    by_tests false true x y z p q r e = q
    by_tests false false x y z p q r e = r e

constants_new : (names : List Ident) (c : Context) (t : Place) (n : ℕ) → AreNew c.scene (constant_rows c t n names).rows
constants_new [] c t n = no_new
constants_new (i ∷ names) c t n = new-append (named_new c i.name i.at (Const t (pos n) 0)) (constants_new names _ t (n + 1))

subrange_row_new : (c : Context) (at : ℕ) (b : Option Bounds) → AreNew c.scene (subrange_row c at b).rows
subrange_row_new c at None = plain_new c.scene _ refl
subrange_row_new c at (Some b) = plain_new c.scene _ refl

arrays_new : (is : List Place) (c : Context) (at : ℕ) (elem : Place) → AreNew c.scene (array_rows c at is elem).rows
arrays_new [] c at elem = no_new
arrays_new (i ∷ is) c at elem = new-append (plain_new c.scene _ refl) (new-then (arrays_new is _ at _))

target_new : (g : Option (Gives Place)) (scene : Scene) (m : Makes Place) → AreNew scene m.rows → AreNew scene (target_or g m).rows
target_new None scene m h = h
target_new (Some g) scene m h = no_new

open_new : (c : Context) (at : ℕ) (is_open : Bool) (t : Place) → AreNew c.scene (open_array_row c at is_open t).rows
open_new c at true t = plain_new c.scene _ refl
open_new c at false t = no_new

formals_new : (formals : List Formal) (c : Context) (own : ℕ) → AreNew c.scene (formal_rows c own formals).rows
formals_new [] c own = no_new
formals_new (f ∷ formals) c own =
    new-append (new-then (open_new (with_rows c []) f.of.first.at f.is_open (type_of_qual c f.of).value))
    (new-append (plain_new _ _ refl) (formals_new formals _ own))

field_new : (c : Context) (own : ℕ) (i : Ident) (t : Place) (offset : ℕ) → AreNew c.scene (field_row c own i t offset).rows
field_new c own i t offset = plain_new c.scene _ refl

plain_fields_new : (names : List Ident) (c : Context) (own : ℕ) (t : Place) (offset : ℕ) → AreNew c.scene (plain_rows c own t offset names).rows
plain_fields_new [] c own t offset = no_new
plain_fields_new (i ∷ names) c own t offset = new-append (field_new c own i t offset) (plain_fields_new names _ own t _)

tag_new : (tag : Option Ident) (c : Context) (own offset : ℕ) (t : Place) → AreNew c.scene (tag_rows c own offset t tag).rows
tag_new None c own offset t = no_new
tag_new (Some i) c own offset t = new-append (field_new c own i t offset) no_new

mutual
  type_new : (t : TypeExpr) (c : Context) → AreNew c.scene (type_rows c t).rows
  type_new (type_expr at form) c = form_new form c at

  form_new : (form : TypeForm) (c : Context) (at : ℕ) → AreNew c.scene (form_rows c at form).rows
  form_new (named_type q) c at = no_new
  form_new (enum_type names) c at = new-append (plain_new c.scene _ refl) (constants_new names _ _ 0)
  form_new (sub_type base low high) c at = new-then (subrange_row_new (with_rows c []) at (subrange_of c base low high).value)
  form_new (array_type index of) c at = new-append (types_new index c) (new-append (type_new of _) (arrays_new _ _ at _))
  form_new (record_type fs) c at = new-append (fields_new fs c _ 0) (new-append (plain_new _ _ refl) no_new)
  form_new (set_type of) c at = new-append (type_new of c) (new-then (plain_new _ _ refl))
  form_new (pointer_type of) c at =
      new-append (target_new (target_by_name c (target_name c of)) c.scene _ (type_new of c)) (plain_new _ _ refl)
  form_new (proc_type formals result) c at = new-append (formals_new formals c _) (new-then (plain_new _ _ refl))

  types_new : (ts : TypeExprs) (c : Context) → AreNew c.scene (index_rows c ts).rows
  types_new no_types c = no_new
  types_new (more_types t ts) c = new-append (type_new t c) (new-then (new-end (types_new ts _)))

  fields_new : (fs : FieldLists) (c : Context) (own offset : ℕ) → AreNew c.scene (fields_rows c own offset fs).rows
  fields_new no_fields c own offset = no_new
  fields_new (more_fields f fs) c own offset = new-append (field_list_new f c own offset) (fields_new fs _ own _)

  field_list_new : (f : FieldList) (c : Context) (own offset : ℕ) → AreNew c.scene (field_list_rows c own offset f).rows
  field_list_new (plain_fields names t) c own offset = new-append (type_new t c) (plain_fields_new names _ own _ offset)
  field_list_new (case_fields tag of arms other) c own offset =
      let d = with_rows c [] in
      let t = (tag_type c of).value in
      let first = tag_rows d own offset t tag in
      let e = with_rows d first.rows in
      let all = arms_rows e own first.value t [] first.value arms in
      new-then (new-append (tag_new tag d own offset t) (new-append (arms_new arms e own first.value t [] first.value)
      (new-end (fields_new other (with_rows e all.rows) own first.value))))

  arms_new : (arms : VariantArms) (c : Context) (own offset : ℕ) (t : Place) (covered : List Range) (end : ℕ)
      → AreNew c.scene (arms_rows c own offset t covered end arms).rows
  arms_new no_variant_arms c own offset t covered end = no_new
  arms_new (more_variant_arms (variant_arm ls fs) arms) c own offset t covered end =
      new-then (new-append (fields_new fs _ own offset) (arms_new arms _ own offset t _ _))

-- ** Items

vars_new : (names : List Ident) (c : Context) (t : Place) (cell : ℕ) → AreNew c.scene (var_rows c t cell names).rows
vars_new [] c t cell = no_new
vars_new (i ∷ names) c t cell = new-append (named_new c i.name i.at (Var t Plain cell)) (vars_new names _ t _)

params_new : (names : List Ident) (c : Context) (own : ℕ) (by_ref : Bool) (t : Place) → AreNew c.scene (param_rows c own by_ref t names).rows
params_new [] c own by_ref t = no_new
params_new (i ∷ names) c own by_ref t = new-append (plain_new c.scene _ refl) (params_new names _ own by_ref t)

sections_new : (sections : List Section) (c : Context) (own : ℕ) → AreNew c.scene (section_rows c own sections).rows
sections_new [] c own = no_new
sections_new (s ∷ sections) c own =
    new-append (new-then (open_new (with_rows c []) s.of.first.at s.is_open (type_of_qual c s.of).value))
    (new-append (params_new s.names _ own s.by_ref _) (sections_new sections _ own))

parameter_new : (c : Context) (s : Section) (elem t : Place) (f : Placing) (i : Ident) → AreNew c.scene (parameter_row c s elem t f i).rows
parameter_new c s elem t f i = by_tests s.is_open s.by_ref (is_structured c t) _ _ _ _
    (new-end (named_new c i.name i.at (Var t Open f.cell)))
    (new-end (named_new c i.name i.at (Var t ByAddress f.cell)))
    (new-end (named_new c i.name i.at (Var t Plain f.own)))
    (new-end (named_new c i.name i.at (Var t Plain f.cell)))
  where
    by_tests : (a b d : Bool) (w x y z : Makes Placing) → AreNew c.scene w.rows → AreNew c.scene x.rows
        → AreNew c.scene y.rows → AreNew c.scene z.rows
        → AreNew c.scene (if a then w else if b then x else if d then y else z).rows
    by_tests true b d w x y z p q r u = p
    by_tests false true d w x y z p q r u = q
    by_tests false false true w x y z p q r u = r
    by_tests false false false w x y z p q r u = u

parameters_new : (names : List Ident) (c : Context) (s : Section) (elem t : Place) (f : Placing) → AreNew c.scene (parameter_rows c s elem t f names).rows
parameters_new [] c s elem t f = no_new
parameters_new (i ∷ names) c s elem t f = new-append (parameter_new c s elem t f i) (parameters_new names _ s elem t _)

own_section_new : (s : Section) (c : Context) (f : Placing) → AreNew c.scene (own_section_rows c f s).rows
own_section_new s c f =
    new-then (new-append (open_new (with_rows c []) s.of.first.at s.is_open (type_of_qual c s.of).value) (parameters_new s.names _ s _ _ f))

own_sections_new : (sections : List Section) (c : Context) (f : Placing) → AreNew c.scene (own_sections_rows c f sections).rows
own_sections_new [] c f = no_new
own_sections_new (s ∷ sections) c f = new-append (own_section_new s c f) (own_sections_new sections _ _)

declared_new : (i : Ident) (typ : Option TypeExpr) (c : Context) → AreNew c.scene (declared_type c i typ).rows
declared_new i None c = plain_new c.scene _ refl
declared_new i (Some t) c = type_new t c

proc_new : (h : Heading) (stream : ℕ) (c : Context) (kind : StreamKind) → AreNew c.scene (proc_rows c kind h stream).rows
proc_new h stream c kind =
    let first = (next_place c).ordinal in
    let sections = section_rows c (first + sections_length h.sections) h.sections in
    let d = with_rows c sections.rows in
    let e = with_rows d [] in
    let t = makes_row e h.name.at (ProcType (result_type d h.result).value (parameter_count h.sections) first) in
    new-append (sections_new h.sections c (first + sections_length h.sections))
    (new-then (new-append (plain_new e.scene _ refl)
    (new-end (named_new (with_rows e t.rows) h.name.name h.name.at (Proc t.value (proc_number c kind stream) (proc_scope kind stream))))))

alias_new : (c : Context) (i : Ident) (p : Place) (brought : Option Named) → AreNew c.scene (alias_by c i p brought).rows
alias_new c i p None = named_new c i.name i.at (Alias p)
alias_new c i p (Some n) = plain_new c.scene _ refl

pub item_new : (x : Item) (c : Context) (kind : StreamKind) (cell : ℕ) → AreNew c.scene (declare c kind x cell).rows
item_new (heading_item h) c kind cell = new-end (own_sections_new h.sections c (placing 0 (capped (parameter_cells h.sections)) []))
item_new (import_item None i) c kind cell = new-end (new-end (named_new c i.name i.at (Module (scope_of_module c.source i.name))))
item_new (import_item (Some m) i) c kind cell =
    let e = (use_of c (Some (scope_of_module c.source m.name)) i.name i.at).value in
    let d = with_rows c [] in
    let f = with_rows d (alias_row d i (place_or_broken e)).rows in
    new-end (new-then (new-append (alias_new d i (place_or_broken e) (entry_named d.layout.brought i.name)) (brought_new f i.at (members_of f.scene e))))
item_new (const_item i e) c kind cell = new-end (new-then (named_new (with_rows c []) i.name i.at (const_meaning (constant_of c e).value)))
item_new (type_item i t) c kind cell =
    let made = declared_type c i t in
    new-end (new-append (declared_new i t c) (named_new (with_rows c made.rows) i.name i.at (TypeName made.value)))
item_new (vars_item names t) c kind cell = new-end (new-append (type_new t c) (vars_new names _ _ cell))
item_new (proc_item h stream) c kind cell = new-end (proc_new h stream c kind)

pub items_new : (items : List Item) (c : Context) (kind : StreamKind) (i cell : ℕ) → AreNew c.scene (declare_items c kind i cell items).rows
items_new [] c kind i cell = no_new
items_new (x ∷ items) c kind i cell = new-append (item_new x _ kind cell) (new-end (items_new items _ kind (i + 1) _))
