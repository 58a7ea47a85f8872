-- No row of a field has a name, in the rows of every unit.
use Rattle.std.specs.Prelude.{◌≡◌, refl, ℕ, zero, suc, ◌+◌, ◌==◌, Bool, true, false, not, ◌||◌, if◌then◌else◌, List, [], ◌∷◌, ◌++◌, flat_map, map, Option, Some, None}
use Rattle.std.proofs.Common.{sym, ◌∙◌, subst, ⊎_elim, arith}
use Rattle.std.proofs.lemmas.Bool.{eqb-false, eqb-true, not-true, or_cases}
use Rattle.m2_base.specs.Finished.{IsFinished}
use Rattle.m2_base.specs.Lists.{Each}
use Rattle.m2_base.specs.Rows.{Row, alias_kind, const_kind, field_kind, type_name_kind, var_kind, proc_kind}
use Rattle.m2_base.specs.Standard.{standard_rows}
use Rattle.m2_base.specs.Statics.BlockRows.{at_item, brought_in, declare_block, declare_items}
use Rattle.m2_base.specs.Statics.Blocks.{BlockTree, blocks_of}
use Rattle.m2_base.specs.Statics.Contexts.{Context, Named, Source, scope_of_module}
use Rattle.m2_base.specs.Statics.Declarations.{declare}
use Rattle.m2_base.specs.Statics.ImportRows.{alias_row, place_or_broken}
use Rattle.m2_base.specs.Statics.ImportedConstants.{Member, are_too_many, brings, brought_names, members_of, new_members}
use Rattle.m2_base.specs.Statics.Items.{Item, const_item, heading_item, import_item, items_of, proc_item, type_item, vars_item}
use Rattle.m2_base.specs.Statics.Layouts.{brought_shape, with_brought}
use Rattle.m2_base.specs.Statics.Makes.{Makes, with_rows}
use Rattle.m2_base.specs.Statics.ShapedRows.{AreShaped, more_of, none_of}
use Rattle.m2_base.specs.Statics.Shapes.{Shape, array_shapes, arms_shapes, field_shapes, fields_shapes, form_shapes, formal_shapes, import_kind, item_shapes, named, nameless, open_shapes, own_section_shapes, section_shapes, tag_shapes, type_item_shapes, type_shapes, types_shapes}
use Rattle.m2_base.specs.Statics.UnitRows.{rows_from, unit_rows}
use Rattle.m2_base.specs.Statics.Uses.{use_of}
use Rattle.m2_base.specs.Tables.{rows_at}
use Rattle.m2_base.specs.Trees.{FieldList, FieldLists, Formal, Ident, Qual, Section, StreamKind, TypeExpr, TypeExprs, TypeForm, VariantArms, array_type, case_fields, enum_type, more_fields, more_types, more_variant_arms, named_type, no_fields, no_types, no_variant_arms, plain_fields, pointer_type, proc_type, record_type, set_type, sub_type, type_expr, variant_arm}
use Rattle.m2_base.specs.Units.{UnitTexts}
use Rattle.m2_base.proofs.ItemLaws.{item_of}
use Rattle.m2_base.proofs.KeyLaws.{IsPlain}
use Rattle.m2_base.proofs.EachLaws.{each_append}

-- ** Shapes

-- a field has no name
abbrev IsUnnamed : Shape → Type 0
IsUnnamed s = s.kind ≡ field_kind → s.name ≡ 0

data AreUnnamed : List Shape → Type 0 where
  no_shapes : AreUnnamed []
  more_shapes : {s : Shape} {ss : List Shape} → IsUnnamed s → AreUnnamed ss → AreUnnamed (s ∷ ss)

shaped_plain : {ss : List Shape} {rs : List Row} → AreShaped ss rs → AreUnnamed ss → Each IsPlain rs
shaped_plain none_of no_shapes = tt
shaped_plain (more_of {s = s} {r = r} i rest) (more_shapes h more) =
    ((λ e. ⊎_elim (λ (same : r.name ≡ s.name). same ∙ h (sym i.kind ∙ e)) (λ (none : r.name ≡ 0). none) i.name), shaped_plain rest more)

both : {xs ys : List Shape} → AreUnnamed xs → AreUnnamed ys → AreUnnamed (xs ++ ys)
both no_shapes q = q
both (more_shapes h p) q = more_shapes h (both p q)

-- of several parts
each_part : {A : Type 0} (f : A → List Shape) → ((x : A) → AreUnnamed (f x)) → (xs : List A) → AreUnnamed (flat_map f xs)
each_part f h [] = no_shapes
each_part f h (x ∷ xs) = both (h x) (each_part f h xs)

-- of several names
each_name : (f : Ident → Shape) → ((i : Ident) → IsUnnamed (f i)) → (names : List Ident) → AreUnnamed (map f names)
each_name f h [] = no_shapes
each_name f h (i ∷ names) = more_shapes (h i) (each_name f h names)

plain_one : (k at : ℕ) → AreUnnamed (nameless k at ∷ [])
plain_one k at = more_shapes (λ _. refl) no_shapes

-- a row with a name that is no field
named_one : (k : ℕ) (i : Ident) → (k ≡ field_kind → ⊥) → AreUnnamed (named k i ∷ [])
named_one k i other = more_shapes (λ e. absurd (other e)) no_shapes

open_plain : (is_open : Bool) (q : Qual) → AreUnnamed (open_shapes is_open q)
open_plain true q = plain_one _ _
open_plain false q = no_shapes

formal_plain : (f : Formal) → AreUnnamed (formal_shapes f)
formal_plain f = both (open_plain f.is_open f.of) (plain_one _ _)

tag_plain : (tag : Option Ident) → AreUnnamed (tag_shapes tag)
tag_plain None = no_shapes
tag_plain (Some i) = plain_one _ _

arrays_plain : (at : ℕ) (ts : TypeExprs) → AreUnnamed (array_shapes at ts)
arrays_plain at no_types = no_shapes
arrays_plain at (more_types t ts) = more_shapes (λ _. refl) (arrays_plain at ts)

named_plain : (k : ℕ) → (k ≡ field_kind → ⊥) → (names : List Ident) → AreUnnamed (map (named k) names)
named_plain k other names = each_name (named k) (λ i e. absurd (other e)) names

mutual
  type_plain : (t : TypeExpr) → AreUnnamed (type_shapes t)
  type_plain (type_expr at form) = form_plain form at

  form_plain : (form : TypeForm) (at : ℕ) → AreUnnamed (form_shapes at form)
  form_plain (named_type q) at = no_shapes
  form_plain (enum_type names) at = more_shapes (λ _. refl) (named_plain const_kind (λ e. omega (arith, e)) names)
  form_plain (sub_type base low high) at = plain_one _ _
  form_plain (array_type index of) at = both (both (types_plain index) (type_plain of)) (arrays_plain at index)
  form_plain (record_type fields) at = both (fields_plain fields) (plain_one _ _)
  form_plain (set_type of) at = both (type_plain of) (plain_one _ _)
  form_plain (pointer_type of) at = both (type_plain of) (plain_one _ _)
  form_plain (proc_type formals result) at = both (each_part formal_shapes formal_plain formals) (plain_one _ _)

  types_plain : (ts : TypeExprs) → AreUnnamed (types_shapes ts)
  types_plain no_types = no_shapes
  types_plain (more_types t ts) = both (type_plain t) (types_plain ts)

  fields_plain : (fs : FieldLists) → AreUnnamed (fields_shapes fs)
  fields_plain no_fields = no_shapes
  fields_plain (more_fields f fs) = both (field_plain f) (fields_plain fs)

  field_plain : (f : FieldList) → AreUnnamed (field_shapes f)
  field_plain (plain_fields names t) = both (type_plain t) (each_name (λ i. nameless field_kind i.at) (λ i _. refl) names)
  field_plain (case_fields tag of arms rest) = both (both (tag_plain tag) (arms_plain arms)) (fields_plain rest)

  arms_plain : (arms : VariantArms) → AreUnnamed (arms_shapes arms)
  arms_plain no_variant_arms = no_shapes
  arms_plain (more_variant_arms (variant_arm _ fields) arms) = both (fields_plain fields) (arms_plain arms)

section_plain : (s : Section) → AreUnnamed (section_shapes s)
section_plain s = both (open_plain s.is_open s.of) (each_name _ (λ i _. refl) s.names)

own_section_plain : (s : Section) → AreUnnamed (own_section_shapes s)
own_section_plain s = both (open_plain s.is_open s.of) (named_plain var_kind (λ e. omega (arith, e)) s.names)

declared_plain : (i : Ident) (t : Option TypeExpr) → AreUnnamed (type_item_shapes i t)
declared_plain i None = plain_one _ _
declared_plain i (Some t) = type_plain t

import_plain : (from : Option Ident) → import_kind from ≡ field_kind → ⊥
import_plain None e = omega (arith, e)
import_plain (Some m) e = omega (arith, e)

item_plain : (x : Item) → AreUnnamed (item_shapes x)
item_plain (heading_item h) = each_part own_section_shapes own_section_plain h.sections
item_plain (import_item from i) = named_one (import_kind from) i (import_plain from)
item_plain (const_item i e) = named_one const_kind i (λ e. omega (arith, e))
item_plain (type_item i t) = both (declared_plain i t) (named_one type_name_kind i (λ e. omega (arith, e)))
item_plain (vars_item names t) = both (type_plain t) (named_plain var_kind (λ e. omega (arith, e)) names)
item_plain (proc_item h stream) = both (each_part section_shapes section_plain h.sections) (more_shapes (λ _. refl) (named_one proc_kind h.name (λ e. omega (arith, e))))

-- ** What imports bring

abbrev IsAlias : Named → Type 0
IsAlias n = n.kind ≡ alias_kind

aliases : (item o at : ℕ) (ms : List Member) → Each IsAlias (brought_names item o at ms)
aliases item o at [] = tt
aliases item o at (m ∷ ms) = (refl, aliases item (o + 1) at ms)

brings_aliases : (c : Context) (at : ℕ) (ms new : List Member) → Each IsAlias (brings c at ms new).value
brings_aliases c at ms new = by_test (are_too_many c new) _ _ tt (aliases _ _ at new)
  where
    by_test : (b : Bool) (x y : Makes (List Named)) → Each IsAlias x.value → Each IsAlias y.value → Each IsAlias (if b then x else y).value
    by_test true x y p q = p
    by_test false x y p q = q

alias_plain : (n : Named) → IsAlias n → IsUnnamed (brought_shape n)
alias_plain n is e = absurd (omega (arith, is, e))

aliases_plain : (b : List Named) → Each IsAlias b → AreUnnamed (map brought_shape b)
aliases_plain [] h = no_shapes
aliases_plain (n ∷ b) h = more_shapes (alias_plain n h.0) (aliases_plain b h.1)

brought_plain : (shapes : List Shape) (b : List Named) → AreUnnamed shapes → Each IsAlias b → AreUnnamed (with_brought shapes b)
brought_plain shapes [] p q = p
brought_plain shapes (n ∷ b) p q = both p (more_shapes (alias_plain n q.0) (aliases_plain b q.1))

item_aliases : (x : Item) (c : Context) (kind : StreamKind) (cell : ℕ) → Each IsAlias (declare c kind x cell).value.brought
item_aliases (heading_item h) c kind cell = tt
item_aliases (import_item None i) c kind cell = tt
item_aliases (import_item (Some m) i) c kind cell =
    let e = (use_of c (Some (scope_of_module c.source m.name)) i.name i.at).value in
    let d = with_rows c [] in
    let f = with_rows d (alias_row d i (place_or_broken e)).rows in
    let ms = members_of f.scene e in
    brings_aliases f i.at ms (new_members f [] ms)
item_aliases (const_item i e) c kind cell = tt
item_aliases (type_item i t) c kind cell = tt
item_aliases (vars_item names t) c kind cell = tt
item_aliases (proc_item h stream) c kind cell = tt

-- ** Rows

declared_item_plain : (x : Item) (c : Context) (kind : StreamKind) (cell : ℕ) → Each IsPlain (declare c kind x cell).rows
declared_item_plain x c kind cell = shaped_plain (item_of x c kind cell) (brought_plain (item_shapes x) _ (item_plain x) (item_aliases x c kind cell))

items_plain : (items : List Item) (c : Context) (kind : StreamKind) (i cell : ℕ) → Each IsPlain (declare_items c kind i cell items).rows
items_plain [] c kind i cell = tt
items_plain (x ∷ items) c kind i cell =
    let e = declare (at_item c i) kind x cell in
    let es = declare_items (brought_in (with_rows c e.rows) e.value.brought) kind (i + 1) e.value.cell items in
    each_append IsPlain e.rows (es.rows ++ []) (declared_item_plain x (at_item c i) kind cell)
    (each_append IsPlain es.rows [] (items_plain items _ kind (i + 1) _) tt)

block_plain : (source : Source) (tables : List (List Row)) (b : BlockTree) → Each IsPlain (declare_block source tables b).rows
unfolding declare_block
block_plain source tables b = items_plain (items_of b.tree) _ b.tree.kind 0 _

unit_plain : (source : Source) (blocks : List BlockTree) (tables : List (List Row)) → Each (Each IsPlain) tables → Each (Each IsPlain) (rows_from source tables blocks)
unit_plain source [] tables h = h
unit_plain source (b ∷ blocks) tables h =
    unit_plain source blocks (tables ++ (declare_block source tables b).rows ∷ [])
    (each_append (Each IsPlain) tables _ h (block_plain source tables b, tt))

-- the test of it
are_plain : List Row → Bool
are_plain [] = true
are_plain (r ∷ rows) = if not (r.kind == field_kind) || (r.name == 0) then are_plain rows else false

plain_test : (rows : List Row) → are_plain rows ≡ true → Each IsPlain rows
unfolding are_plain
plain_test [] h = tt
plain_test (r ∷ rows) h = go (not (r.kind == field_kind) || (r.name == 0)) refl h (plain_test rows)
  where
    here : (not (r.kind == field_kind) || (r.name == 0)) ≡ true → IsPlain r
    here t e =
        ⊎_elim (λ (no : not (r.kind == field_kind) ≡ true). absurd (eqb-false r.kind field_kind (not-true (r.kind == field_kind) no) e))
        (λ (yes : (r.name == 0) ≡ true). eqb-true r.name 0 yes)
        (or_cases (not (r.kind == field_kind)) (r.name == 0) t)

    go : (b : Bool) → (not (r.kind == field_kind) || (r.name == 0)) ≡ b → (if b then are_plain rows else false) ≡ true → (are_plain rows ≡ true → Each IsPlain rows) → Each IsPlain (r ∷ rows)
    go true t k rest = (here t, rest k)
    go false t k rest = absurd (cc)

standard_plain : Each IsPlain standard_rows
unfolding are_plain
standard_plain = plain_test standard_rows refl

rows_plain : (tables : List (List Row)) → Each (Each IsPlain) tables → (s : ℕ) → Each IsPlain (rows_at tables s)
rows_plain [] h s = tt
rows_plain (rows ∷ tables) h zero = h.0
rows_plain (rows ∷ tables) h (suc s) = rows_plain tables h.1 s

-- no finished row of a field has a name
pub finished_plain : (u : UnitTexts) (tables : List (List Row)) → IsFinished u tables → (s : ℕ) → Each IsPlain (rows_at tables s)
unfolding unit_rows
finished_plain u tables is s =
    subst (λ (ts : List (List Row)). Each IsPlain (rows_at ts s)) (sym is.rows)
    (rows_plain (unit_rows is.trees) (unit_plain is.trees.source (blocks_of is.trees) (standard_rows ∷ []) (standard_plain, tt)) s)
