-- The rows of a type expression agree.
use Rattle.std.specs.Prelude.{◌≡◌, ◌≤ℤ◌, ℕ, ◌+◌, Bool, true, false, if◌then◌else◌, ◌&&◌, ◌||◌, ℤ, pos, negsuc, int_lt, max, List, [], ◌∷◌, ◌++◌, length, reverse, Option, Some, None}
use Rattle.std.proofs.Common.{ap, subst, sym, refl, arith}
use Rattle.std.proofs.Math.Facts.{yes_leb}
use Rattle.std.proofs.lemmas.Bool.{ltb-false}
use Rattle.std.proofs.lemmas.List.{append-nil, reverse-append}
use Rattle.m2_base.specs.Gives.{Gives, gives}
use Rattle.m2_base.specs.Lists.{Each, WhereKept}
use Rattle.m2_base.specs.declared.operands.Operand.{Operand}
use Rattle.m2_base.specs.declared.rows.Place.{Place}
use Rattle.m2_base.specs.declared.rows.Row.{Row}
use Rattle.m2_base.specs.declared.rows.RowMeaning.TheVariants.{Array, Const, Enum, Field, OpenArray, Param, Pointer, ProcType, Record, Set, Subrange}
use Rattle.m2_base.specs.declared.trees.Ident.{Ident}
use Rattle.m2_base.specs.declared.trees.Qual.{Qual}
use Rattle.m2_base.specs.declared.trees.types.Formal.{Formal}
use Rattle.m2_base.specs.Standard.{broken}
use Rattle.m2_base.specs.Trees.{Expr, TypeExpr, type_expr, TypeForm, named_type, enum_type, sub_type, array_type, record_type, set_type, pointer_type, proc_type, TypeExprs, no_types, more_types, FieldList, plain_fields, case_fields, FieldLists, no_fields, more_fields, variant_arm, VariantArms, no_variant_arms, more_variant_arms, type_at, expr_at}
use Rattle.m2_base.specs.Statics.Arrays.{array_size, array_rows, checked_index, checked_base, is_index_range}
use Rattle.m2_base.specs.Statics.CaseLabels.{labels_of}
use Rattle.m2_base.specs.Statics.Cells.{capped, fitting}
use Rattle.m2_base.specs.Statics.Constants.{constant_of}
use Rattle.m2_base.specs.Statics.Contexts.{Context, Scene, refuse}
use Rattle.m2_base.specs.Statics.Diagnostics.{out_of_range, wrong_index}
use Rattle.m2_base.specs.Statics.Enumerations.{constant_rows}
use Rattle.m2_base.specs.Statics.Fields.{field_row, plain_rows, tag_type, tag_rows}
use Rattle.m2_base.specs.Statics.Makes.{Makes, scene_with, with_rows, next_place, makes_row, makes_named}
use Rattle.m2_base.specs.Statics.Operands.{constant_of_operand, char_or_same, operand_type}
use Rattle.m2_base.specs.Statics.Operations.{is_ordinal}
use Rattle.m2_base.specs.Statics.ProcedureTypes.{open_array_row, parameter_type, formal_rows, formals_length, result_type}
use Rattle.m2_base.specs.Statics.Ranges.{Range}
use Rattle.m2_base.specs.Statics.Shapes.{fields_shapes}
use Rattle.m2_base.specs.Statics.SoundTrees.{IsSoundType, IsSoundTypeForm, AreSoundTypes, AreSoundFields, IsSoundField, AreSoundArms}
use Rattle.m2_base.specs.Statics.Subranges.{Bounds, subrange_base, ordered_bounds, checked_bound, common_type, subrange_if, within_base, of_common, of_values, of_ordinals, is_broken_base, of_bounds, named_base, subrange_of, subrange_row}
use Rattle.m2_base.specs.Statics.Targets.{target_name, target_by_name, target_or}
use Rattle.m2_base.specs.Statics.TypeNames.{type_of_qual}
use Rattle.m2_base.specs.Statics.TypeRows.{type_rows, form_rows, index_rows, fields_rows, field_list_rows, arms_rows}
use Rattle.m2_base.specs.Statics.Types.{base_of, is_broken, range_of, size_of}
use Rattle.m2_base.proofs.EachLaws.{each_append, each_then}
use Rattle.m2_base.proofs.RowLaws.{place_of-number_of}
use Rattle.m2_base.proofs.SceneLaws.{with-none, with-twice}
use Rattle.m2_base.proofs.Sound.{Sound}
use Rattle.m2_base.proofs.SoundOperations.{broken_is}
use Rattle.m2_base.proofs.SoundParts.{index_there}
use Rattle.m2_base.proofs.SoundRows.{type_made}
use Rattle.m2_base.proofs.SoundTypes.{either}
use Rattle.row_laws.proofs.Numbers.{IsIndex, AllAgree, none_agree}
use Rattle.row_laws.proofs.Agreeing.{Ready, ready-left, ready-right, ready-then, agree-append, agree-end, agree-then, one_agrees, named_agrees, IsIndexThere, index-with, index-then}

-- ** Constants, parameters and fields

constants_agree : (idents : List Ident) (c : Context) (t : Place) (n : ℕ) → AllAgree c.scene (constant_rows c t n idents).rows
constants_agree [] c t n = none_agree
constants_agree (i ∷ idents) c t n =
    agree-append (named_agrees c i.name i.at (Const t (pos n) 0) (λ name. tt)) (constants_agree idents (with_rows c (makes_named c i.name i.at (Const t (pos n) 0)).rows) t (n + 1))

pub open_agrees : (c : Context) (at : ℕ) (is_open : Bool) (t : Place) → AllAgree c.scene (open_array_row c at is_open t).rows
open_agrees c at true t = one_agrees 0 at (OpenArray t) tt
open_agrees c at false t = none_agree

pub parameter_agrees : (c : Context) (is_open : Bool) (q : Qual) → AllAgree c.scene (parameter_type c is_open q).rows
parameter_agrees c is_open q = agree-then (open_agrees (with_rows c []) q.first.at is_open (type_of_qual c q).value)

formals_agree : (formals : List Formal) (c : Context) (own : ℕ) → AllAgree c.scene (formal_rows c own formals).rows
formals_agree [] c own = none_agree
formals_agree (f ∷ formals) c own =
    let typ = parameter_type c f.is_open f.of in
    let d = with_rows c typ.rows in
    let param = makes_row d f.of.first.at (Param typ.value f.by_ref own) in
    agree-append (parameter_agrees c f.is_open f.of)
    (agree-append (one_agrees 0 f.of.first.at (Param typ.value f.by_ref own) tt) (formals_agree formals (with_rows d param.rows) own))

plain_agree : (idents : List Ident) (c : Context) (own : ℕ) (t : Place) (offset : ℕ) → AllAgree c.scene (plain_rows c own t offset idents).rows
plain_agree [] c own t offset = none_agree
plain_agree (i ∷ idents) c own t offset =
    let d = with_rows c (field_row c own i t offset).rows in
    agree-append (one_agrees 0 i.at (Field t offset own i.name) tt) (plain_agree idents d own t (capped (offset + size_of d.scene t)))

tag_agrees : (tag : Option Ident) (c : Context) (own offset : ℕ) (t : Place) → AllAgree c.scene (tag_rows c own offset t tag).rows
tag_agrees None c own offset t = none_agree
tag_agrees (Some i) c own offset t = one_agrees 0 i.at (Field t offset own i.name) tt

-- a procedure type's row, with a result or without
pub result_agrees : (c : Context) (at : ℕ) (o : Option Place) (k first : ℕ) → AllAgree c.scene (makes_row c at (ProcType o k first)).rows
result_agrees c at None k first = one_agrees 0 at (ProcType None k first) tt
result_agrees c at (Some r) k first = one_agrees 0 at (ProcType (Some r) k first) tt

-- ** Subranges

abbrev IsOrdered : Option Bounds → Type 0
IsOrdered o = WhereKept o (λ b. b.low ≤ℤ b.high)

not_above : (low high : ℤ) → int_lt high low ≡ false → low ≤ℤ high
not_above (pos l) (pos h) e = let k = ltb-false h l e in omega (arith, yes_leb, k)
not_above (pos l) (negsuc h) e = absurd (cc)
not_above (negsuc l) (pos h) e = record { le = tt }
not_above (negsuc l) (negsuc h) e = let k = ltb-false l h e in omega (arith, yes_leb, k)

if_ordered : (base : Place) (low high : ℤ) (good : Bool) → (good ≡ true → low ≤ℤ high) → IsOrdered (subrange_if base low high good)
if_ordered base low high true h = h refl
if_ordered base low high false h = tt

bounds_ordered : (c : Context) (at : ℕ) (low high : ℤ) (x y : Bool) → (ordered_bounds c at low high x y).value ≡ true → low ≤ℤ high
bounds_ordered c at low high true true e = by_test (int_lt high low) refl e
  where
    by_test : (b : Bool) → int_lt high low ≡ b → (if b then refuse c at out_of_range false else gives true).value ≡ true → low ≤ℤ high
    by_test true p q = absurd (cc)
    by_test false p q = not_above low high p
bounds_ordered c at low high true false e = absurd (cc)
bounds_ordered c at low high false y e = absurd (cc)

within_ordered : (c : Context) (low_at high_at : ℕ) (low high : ℤ) (o : Option Place) → IsOrdered (within_base c low_at high_at low high o).value
within_ordered c low_at high_at low high None = tt
within_ordered c low_at high_at low high (Some base) =
    let x = (checked_bound c base low_at low).value in
    let y = (checked_bound c base high_at high).value in
    if_ordered base low high (ordered_bounds c high_at low high x y).value (bounds_ordered c high_at low high x y)

common_ordered : (c : Context) (base : Option Place) (low_at high_at : ℕ) (low high : ℤ) (o : Option Place) → IsOrdered (of_common c base low_at high_at low high o).value
common_ordered c base low_at high_at low high None = tt
common_ordered c base low_at high_at low high (Some t) = within_ordered c low_at high_at low high (subrange_base c base t low)

values_ordered : (c : Context) (base : Option Place) (low_at high_at : ℕ) (x y : Operand) (v w : Option ℤ) → IsOrdered (of_values c base low_at high_at x y v w).value
values_ordered c base low_at high_at x y (Some low) (Some high) =
    common_ordered c base low_at high_at low high (common_type (base_of c.scene (operand_type x)) (base_of c.scene (operand_type y)))
values_ordered c base low_at high_at x y (Some low) None = tt
values_ordered c base low_at high_at x y None w = tt

ordinals_ordered : (c : Context) (base : Option Place) (low_at high_at : ℕ) (x y : Operand) → IsOrdered (of_ordinals c base low_at high_at x y).value
ordinals_ordered c base low_at high_at x y =
    either (λ (g : Gives (Option Bounds)). IsOrdered g.value) (is_ordinal c x && is_ordinal c y) _ _
    (values_ordered c base low_at high_at x y (constant_of_operand x) (constant_of_operand y)) tt

of_bounds_ordered : (c : Context) (base : Option Place) (low_at high_at : ℕ) (x y : Option Operand) → IsOrdered (of_bounds c base low_at high_at x y).value
of_bounds_ordered c base low_at high_at (Some x) (Some y) =
    either (λ (g : Gives (Option Bounds)). IsOrdered g.value) (is_broken_base c base) (gives None) _ tt
    (ordinals_ordered c base low_at high_at (char_or_same c.source x) (char_or_same c.source y))
of_bounds_ordered c base low_at high_at (Some x) None = tt
of_bounds_ordered c base low_at high_at None y = tt

subrange_ordered : (c : Context) (base : Option Qual) (low high : Expr) → IsOrdered (subrange_of c base low high).value
subrange_ordered c base low high =
    of_bounds_ordered c (named_base c base).value (expr_at low) (expr_at high) (constant_of c low).value (constant_of c high).value

subrange_agrees : (c : Context) (at : ℕ) (o : Option Bounds) → IsOrdered o → AllAgree c.scene (subrange_row c at o).rows
subrange_agrees c at (Some b) h = one_agrees 0 at (Subrange b.base b.low b.high) h
subrange_agrees c at None h = one_agrees 0 at (Subrange broken (pos 0) (pos 0)) (record { le = tt })

pub each_reverse : {A : Type 0} (P : A → Type 0) (xs : List A) → Each P xs → Each P (reverse xs)
each_reverse P [] h = tt
each_reverse P (x ∷ xs) h =
    subst (Each P) (sym (reverse-append (x ∷ []) xs)) (each_append P (reverse xs) (x ∷ []) (each_reverse P xs h.1) (h.0, tt))

module _ (names : ℕ) where
  -- ** Arrays

  -- an index type as it is checked
  checked_is : (c : Context) → Sound names c.scene → (at : ℕ) (t : Place) → IsIndex c.scene (checked_index c at t).value
  checked_is c sound at t = by_test (is_broken c.scene t || is_index_range (range_of c.scene t)) refl
    where
      by_test : (b : Bool) → (is_broken c.scene t || is_index_range (range_of c.scene t)) ≡ b → IsIndex c.scene (if b then gives t else refuse c at wrong_index broken).value
      by_test true e = e
      by_test false e = ap (λ b. b || is_index_range (range_of c.scene broken)) (broken_is sound)

  arrays_agree : (is : List Place) (c : Context) (at : ℕ) (elem : Place) → Ready names c (array_rows c at is elem).rows → Each (IsIndexThere c.scene) is → AllAgree c.scene (array_rows c at is elem).rows
  arrays_agree [] c at elem ready h = none_agree
  arrays_agree (index ∷ outer) c at elem ready h =
      let size = array_size c index elem in
      let made = makes_row c at (Array index elem size) in
      let d = with_rows c made.rows in
      let u = (fitting d at size made.value).value in
      let sound = ready.sound.scene in
      agree-append (one_agrees 0 at (Array index elem size) (subst (IsIndex c.scene) (sym (place_of-number_of index h.0.0.0)) h.0.1))
      (agree-then
      (arrays_agree outer (with_rows d []) at u (ready-then (ready-right made.rows _ ready))
      (each_then _ _ outer (λ p k. index-then d.scene p (index-with made.rows sound ready.before p k)) h.1)))

  -- rows that agree, with index types that are there behind them
  record AgreeAll (scene : Scene) (rows : List Row) (ps : List Place) : Type 0 where
    rows_agree : AllAgree scene rows
    all : Each (IsIndexThere (scene_with scene rows)) ps

  all-append : {scene : Scene} {xs ys : List Row} {ps : List Place} → AllAgree scene xs → AgreeAll (scene_with scene xs) ys ps → AgreeAll scene (xs ++ ys) ps
  all-append {scene} {xs} {ys} {ps} h k = record { rows_agree = agree-append h k.rows_agree; all = subst (λ s. Each (IsIndexThere s) ps) (with-twice scene xs ys) k.all }

  all-then : {scene : Scene} {xs : List Row} {ps : List Place} → AgreeAll (scene_with scene []) xs ps → AgreeAll scene xs ps
  all-then {scene} {xs} {ps} h = subst (λ s. AgreeAll s xs ps) (with-none scene) h

  all-end : {scene : Scene} {xs : List Row} {ps : List Place} → AgreeAll scene xs ps → AgreeAll scene (xs ++ []) ps
  all-end {scene} {xs} {ps} h = subst (λ rows. AgreeAll scene rows ps) (sym (append-nil xs)) h

  -- the target that the layout gives makes no rows
  target_agrees : (c : Context) (o : Option (Gives Place)) (m : Makes Place) → (Ready names c m.rows → AllAgree c.scene m.rows) → Ready names c (target_or o m).rows → AllAgree c.scene (target_or o m).rows
  target_agrees c None m h ready = h ready
  target_agrees c (Some g) m h ready = none_agree

  mutual
    pub type_agrees : (t : TypeExpr) (c : Context) → IsSoundType names t → Ready names c (type_rows c t).rows → AllAgree c.scene (type_rows c t).rows
    type_agrees (type_expr at form) c good ready = form_agrees form c at good ready

    form_agrees : (form : TypeForm) (c : Context) (at : ℕ) → IsSoundTypeForm names form → Ready names c (form_rows c at form).rows → AllAgree c.scene (form_rows c at form).rows
    form_agrees (named_type q) c at good ready = none_agree
    form_agrees (enum_type idents) c at good ready =
        let row = makes_row c at (Enum (length idents)) in
        agree-append (one_agrees 0 at (Enum (length idents)) tt) (constants_agree idents (with_rows c row.rows) row.value 0)
    form_agrees (sub_type base low high) c at good ready =
        let o = (subrange_of c base low high).value in
        agree-then (subrange_agrees (with_rows c []) at o (subrange_ordered c base low high))
    form_agrees (array_type index of) c at good ready =
        let is = index_rows c index in
        let first = index_agrees index c good.0 (ready-left is.rows _ ready) in
        let d = with_rows c is.rows in
        let rest = ready-right is.rows _ ready in
        let t = type_rows d of in
        let second = type_agrees of d good.1 (ready-left t.rows _ rest) in
        let e = with_rows d t.rows in
        let third = arrays_agree (reverse is.value) e at t.value (ready-right t.rows _ rest)
        (each_reverse (IsIndexThere e.scene) is.value (each_then _ _ is.value (λ p k. index-with t.rows rest.sound.scene rest.before p k) first.all)) in
        agree-append first.rows_agree (agree-append second third)
    form_agrees (record_type fs) c at good ready =
        let start = (next_place c).ordinal in
        let own = start + length (fields_shapes fs) in
        let fields = fields_rows c own 0 fs in
        agree-append (fields_agree fs c own 0 good (ready-left fields.rows _ ready)) (one_agrees 0 at (Record start (max 1 fields.value)) tt)
    form_agrees (set_type of) c at good ready =
        let t = type_rows c of in
        let d = with_rows c t.rows in
        agree-append (type_agrees of c good (ready-left t.rows _ ready)) (agree-then (one_agrees 0 at (Set (checked_base d (type_at of) t.value).value) tt))
    form_agrees (pointer_type of) c at good ready =
        let o = target_by_name c (target_name c of) in
        let t = target_or o (type_rows c of) in
        agree-append (target_agrees c o (type_rows c of) (λ r. type_agrees of c good r) (ready-left t.rows _ ready)) (one_agrees 0 at (Pointer t.value) tt)
    form_agrees (proc_type formals result) c at good ready =
        let start = (next_place c).ordinal in
        let own = start + formals_length formals in
        let made = formal_rows c own formals in
        let d = with_rows c made.rows in
        agree-append (formals_agree formals c own) (agree-then (result_agrees (with_rows d []) at (result_type d result).value (length formals) start))

    index_agrees : (ts : TypeExprs) (c : Context) → AreSoundTypes names ts → Ready names c (index_rows c ts).rows → AgreeAll c.scene (index_rows c ts).rows (index_rows c ts).value
    index_agrees no_types c good ready = record { rows_agree = none_agree; all = tt }
    index_agrees (more_types t ts) c good ready =
        let m = type_rows c t in
        let left = ready-left m.rows _ ready in
        let first = type_agrees t c good.0 left in
        let made = type_made names t c left.sound good.0 left.room in
        let d = with_rows c m.rows in
        let after = ready-right m.rows _ ready in
        let i = (checked_index d (type_at t) m.value).value in
        let there : IsIndexThere d.scene i = (index_there names d after.sound.scene (type_at t) m.value made.there, checked_is d after.sound.scene (type_at t) m.value) in
        let e = with_rows d [] in
        let more = index_rows e ts in
        let rest = ready-left more.rows [] (ready-then after) in
        let others = index_agrees ts e good.1 rest in
        all-append first (all-then
        (all-end (record { rows_agree = others.rows_agree; all = (index-with more.rows rest.sound.scene rest.before i (index-then d.scene i there), others.all) })))

    fields_agree : (fs : FieldLists) (c : Context) (own offset : ℕ) → AreSoundFields names fs → Ready names c (fields_rows c own offset fs).rows → AllAgree c.scene (fields_rows c own offset fs).rows
    fields_agree no_fields c own offset good ready = none_agree
    fields_agree (more_fields f fs) c own offset good ready =
        let m = field_list_rows c own offset f in
        agree-append (field_list_agrees f c own offset good.0 (ready-left m.rows _ ready)) (fields_agree fs (with_rows c m.rows) own m.value good.1 (ready-right m.rows _ ready))

    field_list_agrees : (f : FieldList) (c : Context) (own offset : ℕ) → IsSoundField names f → Ready names c (field_list_rows c own offset f).rows → AllAgree c.scene (field_list_rows c own offset f).rows
    field_list_agrees (plain_fields idents t) c own offset good ready =
        let m = type_rows c t in
        agree-append (type_agrees t c good.1 (ready-left m.rows _ ready)) (plain_agree idents (with_rows c m.rows) own m.value offset)
    field_list_agrees (case_fields tag of arms other) c own offset good ready =
        let d = with_rows c [] in
        let t = (tag_type c of).value in
        let first = tag_rows d own offset t tag in
        let e = with_rows d first.rows in
        let all = arms_rows e own first.value t [] first.value arms in
        let f = with_rows e all.rows in
        let last = fields_rows f own first.value other in
        let re = ready-right first.rows (all.rows ++ (last.rows ++ [])) (ready-then ready) in
        let rf = ready-right all.rows (last.rows ++ []) re in
        agree-then (agree-append (tag_agrees tag d own offset t)
        (agree-append (arms_agree arms e own first.value t [] first.value good.1 (ready-left all.rows _ re))
        (agree-end (fields_agree other f own first.value good.2 (ready-left last.rows [] rf)))))

    arms_agree : (arms : VariantArms) (c : Context) (own offset : ℕ) (t : Place) (covered : List Range) (end : ℕ) → AreSoundArms names arms → Ready names c (arms_rows c own offset t covered end arms).rows
        → AllAgree c.scene (arms_rows c own offset t covered end arms).rows
    arms_agree no_variant_arms c own offset t covered end good ready = none_agree
    arms_agree (more_variant_arms (variant_arm ls fs) arms) c own offset t covered end good ready =
        let d = with_rows c [] in
        let fields = fields_rows d own offset fs in
        let later = (labels_of c t covered ls).value.covered in
        let rd = ready-then ready in
        agree-then (agree-append (fields_agree fs d own offset good.0 (ready-left fields.rows _ rd))
        (arms_agree arms (with_rows d fields.rows) own offset t later (max end fields.value) good.1 (ready-right fields.rows _ rd)))
