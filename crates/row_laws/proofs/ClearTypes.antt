-- The rows of type expressions in a clear scene, where they have no diagnostic.
use Rattle.std.specs.Prelude.{◌≡◌, ℕ, ◌+◌, ◌==◌, Bool, true, false, if◌then◌else◌, ◌&&◌, ◌||◌, is_some, int_lt, max, nat_lt, reverse, ℤ, pos, is_none, not, length, slice_index_or, List, [], ◌∷◌, Option, Some, None}
use Rattle.std.proofs.Common.{ap, ◌∙◌, refl, sym}
use Rattle.std.proofs.lemmas.Bool.{and_parts}
use Rattle.m2_base.specs.Gives.{Gives}
use Rattle.m2_base.specs.Lists.{Each, WhereKept}
use Rattle.m2_base.specs.Rows.{result_number, result_of, row_of, row_meaning}
use Rattle.m2_base.specs.declared.rows.Place.{Place}
use Rattle.m2_base.specs.declared.rows.Row.{Row}
use Rattle.m2_base.specs.declared.rows.RowMeaning.TheVariants.{Array, Broken, Const, Enum, Field, OpenArray, Param, Pointer, ProcType, Record, Set, Subrange, Text}
use Rattle.m2_base.specs.declared.trees.Ident.{Ident}
use Rattle.m2_base.specs.declared.trees.Qual.{Qual}
use Rattle.m2_base.specs.declared.trees.types.Formal.{Formal}
use Rattle.m2_base.specs.Standard.{text_type}
use Rattle.m2_base.specs.Trees.{Expr, FieldList, FieldLists, TypeExpr, TypeExprs, TypeForm, VariantArms, array_type, case_fields, enum_type, expr_at, more_fields, more_types, more_variant_arms, named_type, no_fields, no_types, no_variant_arms, plain_fields, pointer_type, proc_type, record_type, set_type, sub_type, type_at, type_expr, variant_arm}
use Rattle.m2_base.specs.Statics.Arrays.{array_rows, array_size, checked_base, checked_index, is_index_range, is_set_range}
use Rattle.m2_base.specs.Statics.CaseLabels.{labels_of}
use Rattle.m2_base.specs.Statics.Cells.{capped, fitting, most_cells}
use Rattle.m2_base.specs.Statics.Constants.{constant_of}
use Rattle.m2_base.specs.Statics.Contexts.{Context}
use Rattle.m2_base.specs.Statics.Enumerations.{constant_rows}
use Rattle.m2_base.specs.Statics.Fields.{plain_rows, tag_rows, tag_type}
use Rattle.m2_base.specs.Statics.Makes.{Makes, makes_named, makes_row, next_place, only_gives, with_rows}
use Rattle.m2_base.specs.Statics.Operands.{as_char, char_or_same, constant_of_operand, operand_type}
use Rattle.m2_base.specs.Statics.Operations.{is_ordinal}
use Rattle.m2_base.specs.Statics.ProcedureTypes.{is_structured, formal_rows, formals_length, open_array_row, parameter_type, result_type}
use Rattle.m2_base.specs.Statics.Ranges.{Range, is_within}
use Rattle.m2_base.specs.Statics.ReadTrees.{AreReadArms, AreReadFields, AreReadFormals, AreReadTypes, IsReadExpr, IsReadField, IsReadQual, IsReadQualOption, IsReadType, IsReadTypeForm}
use Rattle.m2_base.specs.Statics.Shapes.{fields_shapes}
use Rattle.m2_base.specs.Statics.Subranges.{Bounds, checked_bound, common_type, is_broken_base, named_base, of_bounds, of_common, of_ordinals, of_values, ordered_bounds, subrange_base, subrange_if, subrange_of, subrange_row, within_base}
use Rattle.m2_base.specs.Statics.Targets.{target_by_name, target_name, target_or}
use Rattle.m2_base.specs.Statics.TypeNames.{type_of_qual}
use Rattle.m2_base.specs.Statics.TypeRows.{arms_rows, field_list_rows, fields_rows, form_rows, index_rows, type_rows}
use Rattle.m2_base.specs.Statics.Types.{base_of, is_broken, kind_of, meaning_at, range_by, range_of, size_of, stands_as}
use Rattle.m2_base.specs.declared.notes.Diag.{Diag}
use Rattle.m2_base.specs.declared.operands.Operand.{Operand}
use Rattle.m2_base.specs.declared.operands.Operand.TheVariants.{Constant, StringConstant}
use Rattle.row_laws.specs.Clear.{IsClear}
use Rattle.row_laws.proofs.ClearRows.{HaveClear, IsClearScene, clear_again, have_clear, not_broken}
use Rattle.row_laws.proofs.Choices.{either_by, where_false}
use Rattle.row_laws.proofs.ClearNotes.{Fine, GivesFine, MakesFine, chain, done, fine, fine_either, given, join, named_fine, one_row_fine, only, qual_fine, refused, row_fine}
use Rattle.row_laws.proofs.AgreeingTypes.{each_reverse}
use Rattle.row_laws.proofs.ClearTargets.{HasImports, imports_with, name_target_fine}
use Rattle.row_laws.proofs.ClearConstants.{IsConstant, constant_fine}

-- of a value nothing is asked
abbrev pub IsAny : {T : Type 0} → T → Type 0
IsAny x = Unit {0}

-- ** Subranges

-- a value is there
abbrev IsKept : {T : Type 0} → Option T → Type 0
IsKept None = ⊥
IsKept (Some x) = Unit {0}

-- a base that is named isn't in error
abbrev IsBase : Option Place → Type 0
IsBase None = Unit {0}
IsBase (Some t) = IsClear t

module _ (c : Context) (clear : IsClearScene c.scene) where
  types : HaveClear c.scene.tables
  types = have_clear c.scene.tables clear.rows

  -- strings aren't ordinal
  no_range : is_some (range_of c.scene text_type) ≡ false
  no_range =
      let text : meaning_at c.scene text_type ≡ Text = ap (λ (rows : List Row). row_meaning (slice_index_or rows 8 (row_of 0 0 Broken))) clear.standard in
      let kind : kind_of c.scene text_type ≡ Text = ap (meaning_at c.scene) (ap (stands_as c.scene text_type) text) ∙ text in
      ap (λ m. is_some (range_by m)) kind

  string_kept : (n l : ℕ) (b : Bool) → is_ordinal c (if b then as_char c.source (StringConstant n l) else StringConstant n l) ≡ true
      → IsKept (constant_of_operand (if b then as_char c.source (StringConstant n l) else StringConstant n l))
  string_kept n l true e = tt
  string_kept n l false e = let none : false ≡ true = sym no_range ∙ e in absurd (cc)

  -- a constant that is ordinal has a value
  bound_kept : (x : Operand) → IsConstant (Some x) → is_ordinal c (char_or_same c.source x) ≡ true → IsKept (constant_of_operand (char_or_same c.source x))
  bound_kept (Constant t v) h e = tt
  bound_kept (StringConstant n l) h e = string_kept n l (l == 1) e
  bound_kept x h e = absurd h

  checked_fine : (base : Place) (at : ℕ) (v : ℤ) → GivesFine (λ b. b ≡ true) (checked_bound c base at v)
  checked_fine base at v = fine_either (is_within (range_of c.scene base) v) _ _ (given refl) refused

  ordered_fine : (at : ℕ) (low high : ℤ) (x y : Bool) → x ≡ true → y ≡ true → GivesFine (λ b. b ≡ true) (ordered_bounds c at low high x y)
  ordered_fine at low high true true e f = fine_either (int_lt high low) _ _ refused (given refl)
  ordered_fine at low high false y e f = absurd (cc)
  ordered_fine at low high true false e f = absurd (cc)

  subrange_kept : (base : Place) (low high : ℤ) (b : Bool) → b ≡ true → IsKept (subrange_if base low high b)
  subrange_kept base low high true e = tt
  subrange_kept base low high false e = absurd (cc)

  within_fine : (low_at high_at : ℕ) (low high : ℤ) (o : Option Place) → GivesFine IsKept (within_base c low_at high_at low high o)
  within_fine low_at high_at low high None = refused
  within_fine low_at high_at low high (Some base) =
      let x = (checked_bound c base low_at low).value in
      let y = (checked_bound c base high_at high).value in
      join (checked_fine base low_at low) (λ h. join (checked_fine base high_at high)
      (λ k. join (ordered_fine high_at low high x y h k) (λ g. given (subrange_kept base low high (ordered_bounds c high_at low high x y).value g))))

  common_fine : (base : Option Place) (low_at high_at : ℕ) (low high : ℤ) (o : Option Place) → GivesFine IsKept (of_common c base low_at high_at low high o)
  common_fine base low_at high_at low high None = refused
  common_fine base low_at high_at low high (Some t) = within_fine low_at high_at low high (subrange_base c base t low)

  values_fine : (base : Option Place) (low_at high_at : ℕ) (x y : Operand) (v w : Option ℤ) → IsKept v → IsKept w → GivesFine IsKept (of_values c base low_at high_at x y v w)
  values_fine base low_at high_at x y (Some low) (Some high) h k = common_fine base low_at high_at low high (common_type (base_of c.scene (operand_type x)) (base_of c.scene (operand_type y)))
  values_fine base low_at high_at x y None w h k = absurd h
  values_fine base low_at high_at x y (Some low) None h k = absurd k

  ordinals_fine : (base : Option Place) (low_at high_at : ℕ) (x y : Operand) → IsConstant (Some x) → IsConstant (Some y)
      → GivesFine IsKept (of_ordinals c base low_at high_at (char_or_same c.source x) (char_or_same c.source y))
  ordinals_fine base low_at high_at x y h k =
      let x' = char_or_same c.source x in
      let y' = char_or_same c.source y in
      either_by (λ (g : Gives (Option Bounds)). GivesFine IsKept g) (is_ordinal c x' && is_ordinal c y') (of_values c base low_at high_at x' y' (constant_of_operand x') (constant_of_operand y')) _
      (λ e. let parts = and_parts (is_ordinal c x') (is_ordinal c y') e in
      values_fine base low_at high_at x' y' (constant_of_operand x') (constant_of_operand y') (bound_kept x h parts.0) (bound_kept y k parts.1)) (λ e. refused)

  base_fine : (base : Option Place) → IsBase base → is_broken_base c base ≡ false
  base_fine None h = refl
  base_fine (Some t) h = not_broken c.scene types t h

  bounds_fine : (base : Option Place) (low_at high_at : ℕ) (x y : Option Operand) → IsBase base → IsConstant x → IsConstant y → GivesFine IsKept (of_bounds c base low_at high_at x y)
  bounds_fine base low_at high_at None y b h k = absurd h
  bounds_fine base low_at high_at (Some x) None b h k = absurd k
  bounds_fine base low_at high_at (Some x) (Some y) b h k =
      where_false (λ (g : Gives (Option Bounds)). GivesFine IsKept g) (is_broken_base c base) _ _ (base_fine base b) (ordinals_fine base low_at high_at x y h k)

  named_base_fine : (names : List (List ℕ)) (base : Option Qual) → IsReadQualOption names base → GivesFine IsBase (named_base c base)
  named_base_fine names None read = given tt
  named_base_fine names (Some q) read = join (qual_fine c clear names q read) (λ h. given h)

  subrange_fine : (names : List (List ℕ)) (base : Option Qual) (low high : Expr) → IsReadQualOption names base → IsReadExpr names low → IsReadExpr names high → GivesFine IsKept (subrange_of c base low high)
  subrange_fine names base low high b l r =
      let base' = (named_base c base).value in
      let x = (constant_of c low).value in
      let y = (constant_of c high).value in
      join (named_base_fine names base b) (λ h. join (constant_fine c clear names low l)
      (λ k. join (constant_fine c clear names high r) (λ g. bounds_fine base' (expr_at low) (expr_at high) x y h k g)))

subrange_row_fine : (c : Context) (at : ℕ) (o : Option Bounds) → IsClearScene c.scene → IsKept o → MakesFine IsClear c (subrange_row c at o)
subrange_row_fine c at None clear h = absurd h
subrange_row_fine c at (Some b) clear h = row_fine c at (Subrange b.base b.low b.high) clear tt tt

-- ** Parts of types

any_fine : {T : Type 0} {ds : List Diag} {v : T} → Fine IsAny ds v
any_fine = fine tt

-- what is looked at for its own sake
pub looked : {T : Type 0} (c : Context) (g : Gives T) → IsClearScene c.scene → MakesFine IsAny c (only_gives g)
looked c g clear = only clear any_fine

enum_fine : (idents : List Ident) (c : Context) (t : Place) (n : ℕ) → IsClearScene c.scene → IsClear t → MakesFine IsClear c (constant_rows c t n idents)
enum_fine [] c t n clear h = done clear h
enum_fine (i ∷ idents) c t n clear h =
    let row = makes_named c i.name i.at (Const t (pos n) 0) in
    chain (named_fine c i.name i.at (Const t (pos n) 0) clear (clear_again t h) tt tt) (λ more k. enum_fine idents (with_rows c row.rows) t (n + 1) more h)

fitting_fine : (c : Context) (at size : ℕ) (t : Place) → IsClear t → GivesFine IsClear (fitting c at size t)
fitting_fine c at size t h = fine_either (nat_lt most_cells size) _ _ refused (given h)

-- types none of which is in error
abbrev AreClearTypes : List Place → Type 0
AreClearTypes ts = Each IsClear ts

arrays_fine : (is : List Place) (c : Context) (at : ℕ) (elem : Place) → IsClearScene c.scene → AreClearTypes is → IsClear elem → MakesFine IsClear c (array_rows c at is elem)
arrays_fine [] c at elem clear all h = done clear h
arrays_fine (index ∷ outer) c at elem clear all h =
    let size = array_size c index elem in
    let row = makes_row c at (Array index elem size) in
    let d = with_rows c row.rows in
    let u = (fitting d at size row.value).value in
    chain (row_fine c at (Array index elem size) clear (clear_again index all.0, clear_again elem h) tt)
    (λ more k. chain (only more (fitting_fine d at size row.value k)) (λ again u_clear. arrays_fine outer (with_rows d []) at u again all.1 u_clear))

checked_index_fine : (c : Context) (at : ℕ) (t : Place) → IsClear t → GivesFine IsClear (checked_index c at t)
checked_index_fine c at t h = fine_either (is_broken c.scene t || is_index_range (range_of c.scene t)) _ _ (given h) refused

checked_base_fine : (c : Context) (at : ℕ) (t : Place) → IsClear t → GivesFine IsClear (checked_base c at t)
checked_base_fine c at t h = fine_either (is_broken c.scene t || is_set_range (range_of c.scene t)) _ _ (given h) refused

pub open_fine : (c : Context) (at : ℕ) (is_open : Bool) (t : Place) → IsClearScene c.scene → IsClear t → MakesFine IsClear c (open_array_row c at is_open t)
open_fine c at true t clear h = row_fine c at (OpenArray t) clear (clear_again t h) tt
open_fine c at false t clear h = done clear h

pub parameter_fine : (names : List (List ℕ)) (c : Context) (is_open : Bool) (q : Qual) → IsClearScene c.scene → IsReadQual names q → MakesFine IsClear c (parameter_type c is_open q)
parameter_fine names c is_open q clear read =
    chain (only clear (qual_fine c clear names q read)) (λ more h. open_fine (with_rows c []) q.first.at is_open (type_of_qual c q).value more h)

-- a result, if there is one
abbrev IsClearResult : Option Place → Type 0
IsClearResult r = WhereKept r IsClear

pub result_again : (r : Option Place) → IsClearResult r → IsClearResult (result_of (result_number r))
result_again None h = tt
result_again (Some t) h = clear_again t h

pub result_fine : (names : List (List ℕ)) (c : Context) (q : Option Qual) → IsClearScene c.scene → IsReadQualOption names q → GivesFine (λ r. WhereKept r IsClear) (result_type c q)
result_fine names c None clear read = given tt
result_fine names c (Some q) clear read = join (qual_fine c clear names q read) (λ h. fine_either (is_structured c (type_of_qual c q).value) _ _ refused (given h))

formals_fine : (names : List (List ℕ)) (formals : List Formal) (c : Context) (own : ℕ) → IsClearScene c.scene → AreReadFormals names formals → MakesFine IsAny c (formal_rows c own formals)
formals_fine names [] c own clear read = done clear tt
formals_fine names (f ∷ formals) c own clear read =
    let typ = parameter_type c f.is_open f.of in
    let d = with_rows c typ.rows in
    let row = makes_row d f.of.first.at (Param typ.value f.by_ref own) in
    chain (parameter_fine names c f.is_open f.of clear read.0)
    (λ more h. chain (row_fine d f.of.first.at (Param typ.value f.by_ref own) more (clear_again typ.value h) tt) (λ again k. formals_fine names formals (with_rows d row.rows) own again read.1))

plain_fine : (idents : List Ident) (c : Context) (own : ℕ) (t : Place) (offset : ℕ) → IsClearScene c.scene → IsClear t → MakesFine IsAny c (plain_rows c own t offset idents)
plain_fine [] c own t offset clear h = done clear tt
plain_fine (i ∷ idents) c own t offset clear h =
    let r = row_of 0 i.at (Field t offset own i.name) in
    let d = with_rows c (r ∷ []) in
    chain {P = IsAny {T = Place}} {v = next_place c} (one_row_fine c.scene r clear (clear_again t h, tt, λ some. absurd (some refl)) tt)
    (λ more k. plain_fine idents d own t (capped (offset + size_of d.scene t)) more h)

tag_type_fine : (names : List (List ℕ)) (c : Context) (q : Qual) → IsClearScene c.scene → IsReadQual names q → GivesFine IsClear (tag_type c q)
tag_type_fine names c q clear read =
    let t = (type_of_qual c q).value in
    join (qual_fine c clear names q read) (λ h. fine_either (not (is_broken c.scene t) && is_none (range_of c.scene t)) _ _ refused (given h))

tag_fine : (c : Context) (own offset : ℕ) (t : Place) (o : Option Ident) → IsClearScene c.scene → IsClear t → MakesFine IsAny c (tag_rows c own offset t o)
tag_fine c own offset t None clear h = done clear tt
tag_fine c own offset t (Some i) clear h =
    chain {P = IsAny {T = Place}} {v = next_place c} (one_row_fine c.scene (row_of 0 i.at (Field t offset own i.name)) clear (clear_again t h, tt, λ some. absurd (some refl)) tt)
    (λ more k. done more tt)

target_fine : (c : Context) (m : Makes Place) (o : Option (Gives Place)) → IsClearScene c.scene → WhereKept o (GivesFine IsClear) → MakesFine IsClear c m → MakesFine IsClear c (target_or o m)
target_fine c m None clear k h = h
target_fine c m (Some g) clear k h = only clear k

-- ** Types

module _ (names : List (List ℕ)) where
  mutual
    pub type_fine : (t : TypeExpr) (c : Context) → IsClearScene c.scene → HasImports c → IsReadType names t → MakesFine IsClear c (type_rows c t)
    type_fine (type_expr at form) c clear imports read = form_fine form c at clear imports read

    form_fine : (form : TypeForm) (c : Context) (at : ℕ) → IsClearScene c.scene → HasImports c → IsReadTypeForm names form → MakesFine IsClear c (form_rows c at form)
    form_fine (named_type q) c at clear imports read = only clear (qual_fine c clear names q read)
    form_fine (enum_type idents) c at clear imports read =
        let row = makes_row c at (Enum (length idents)) in
        chain (row_fine c at (Enum (length idents)) clear tt tt) (λ more h. enum_fine idents (with_rows c row.rows) row.value 0 more h)
    form_fine (sub_type base low high) c at clear imports read =
        chain (only clear (subrange_fine c clear names base low high read.0 read.1 read.2)) (λ more h. subrange_row_fine (with_rows c []) at (subrange_of c base low high).value more h)
    form_fine (array_type index of) c at clear imports read =
        let is = index_rows c index in
        let d = with_rows c is.rows in
        let t = type_rows d of in
        chain (indices_fine index c clear imports read.0)
        (λ more h. chain (type_fine of d more (imports_with c is.rows clear imports) read.1) (λ again k. arrays_fine (reverse is.value) (with_rows d t.rows) at t.value again (each_reverse IsClear is.value h) k))
    form_fine (record_type fields) c at clear imports read =
        let first = (next_place c).ordinal in
        let made = fields_rows c (first + length (fields_shapes fields)) 0 fields in
        let d = with_rows c made.rows in
        let size = max 1 made.value in
        let row = makes_row d at (Record first size) in
        chain (fields_fine fields c (first + length (fields_shapes fields)) 0 clear imports read)
        (λ more h. chain (row_fine d at (Record first size) more tt tt) (λ again k. only again (fitting_fine (with_rows d row.rows) at size row.value k)))
    form_fine (set_type of) c at clear imports read =
        let t = type_rows c of in
        let d = with_rows c t.rows in
        let base = (checked_base d (type_at of) t.value).value in
        chain (type_fine of c clear imports read)
        (λ more h. chain (only more (checked_base_fine d (type_at of) t.value h)) (λ again k. row_fine (with_rows d []) at (Set base) again (clear_again base k) tt))
    form_fine (pointer_type of) c at clear imports read =
        let t = target_or (target_by_name c (target_name c of)) (type_rows c of) in
        chain (target_fine c (type_rows c of) (target_by_name c (target_name c of)) clear (name_target_fine c clear of imports) (type_fine of c clear imports read))
        (λ more h. row_fine (with_rows c t.rows) at (Pointer t.value) more (clear_again t.value h) tt)
    form_fine (proc_type formals result) c at clear imports read =
        let first = (next_place c).ordinal in
        let own = first + formals_length formals in
        let made = formal_rows c own formals in
        let d = with_rows c made.rows in
        let r = (result_type d result).value in
        chain (formals_fine names formals c own clear read.0)
        (λ more h. chain (only more (result_fine names d result more read.1)) (λ again k. row_fine (with_rows d []) at (ProcType r (length formals) first) again (result_again r k) tt))

    indices_fine : (ts : TypeExprs) (c : Context) → IsClearScene c.scene → HasImports c → AreReadTypes names ts → MakesFine AreClearTypes c (index_rows c ts)
    indices_fine no_types c clear imports read = done clear tt
    indices_fine (more_types t ts) c clear imports read =
        let u = type_rows c t in
        let d = with_rows c u.rows in
        let e = with_rows d [] in
        chain (type_fine t c clear imports read.0)
        (λ more h. chain (only more (checked_index_fine d (type_at t) u.value h))
        (λ again k. chain (indices_fine ts e again (imports_with d [] more (imports_with c u.rows clear imports)) read.1) (λ last j. done last (k, j))))

    fields_fine : (fs : FieldLists) (c : Context) (own offset : ℕ) → IsClearScene c.scene → HasImports c → AreReadFields names fs → MakesFine IsAny c (fields_rows c own offset fs)
    fields_fine no_fields c own offset clear imports read = done clear tt
    fields_fine (more_fields f fs) c own offset clear imports read =
        let made = field_list_rows c own offset f in
        chain (field_fine f c own offset clear imports read.0) (λ more h. fields_fine fs (with_rows c made.rows) own made.value more (imports_with c made.rows clear imports) read.1)

    field_fine : (f : FieldList) (c : Context) (own offset : ℕ) → IsClearScene c.scene → HasImports c → IsReadField names f → MakesFine IsAny c (field_list_rows c own offset f)
    field_fine (plain_fields idents t) c own offset clear imports read =
        let u = type_rows c t in
        chain (type_fine t c clear imports read.1) (λ more h. plain_fine idents (with_rows c u.rows) own u.value offset more h)
    field_fine (case_fields tag of arms other) c own offset clear imports read =
        let t = (tag_type c of).value in
        let d = with_rows c [] in
        let tags = tag_rows d own offset t tag in
        let e = with_rows d tags.rows in
        let all = arms_rows e own tags.value t [] tags.value arms in
        chain (only clear (tag_type_fine names c of clear read.1))
        (λ one h.
        let kept = imports_with c [] clear imports in
        chain (tag_fine d own offset t tag one h)
        (λ two k.
        let more = imports_with d tags.rows one kept in
        chain (arms_fine arms e own tags.value t [] tags.value two more read.2)
        (λ three j. chain (fields_fine other (with_rows e all.rows) own tags.value three (imports_with e all.rows two more) read.3) (λ four i. done four tt))))

    arms_fine : (arms : VariantArms) (c : Context) (own offset : ℕ) (tag : Place) (covered : List Range) (end : ℕ) → IsClearScene c.scene → HasImports c → AreReadArms names arms
        → MakesFine IsAny c (arms_rows c own offset tag covered end arms)
    arms_fine no_variant_arms c own offset tag covered end clear imports read = done clear tt
    arms_fine (more_variant_arms (variant_arm labels fields) arms) c own offset tag covered end clear imports read =
        let ls = (labels_of c tag covered labels).value in
        let d = with_rows c [] in
        let made = fields_rows d own offset fields in
        let kept = imports_with c [] clear imports in
        chain (looked c (labels_of c tag covered labels) clear)
        (λ one h. chain (fields_fine fields d own offset one kept read.0.1)
        (λ two k. arms_fine arms (with_rows d made.rows) own offset tag ls.covered (max end made.value) two (imports_with d made.rows one kept) read.1))
