-- A type expression is no open array.
use Rattle.std.specs.Prelude.{◌≡◌, ℕ, ◌+◌, false, max, nat_lt, pos, List, [], ◌∷◌, ◌++◌, length, reverse, slice_index_or, Option, Some, None}
use Rattle.std.proofs.Common.{ap, subst, sym, ◌∙◌, refl}
use Rattle.std.proofs.lemmas.List.{get_or_at}
use Rattle.m2_base.specs.Gives.{Gives, gives}
use Rattle.m2_base.specs.Rows.{row_of, row_meaning}
use Rattle.m2_base.specs.declared.rows.Place.{Place}
use Rattle.m2_base.specs.declared.rows.Row.{Row}
use Rattle.m2_base.specs.declared.rows.RowMeaning.TheVariants.{Array, Broken, Const, Enum, Pointer, ProcType, Record, Set, Subrange}
use Rattle.m2_base.specs.declared.trees.Ident.{Ident}
use Rattle.m2_base.specs.Standard.{broken}
use Rattle.m2_base.specs.Trees.{TypeExpr, type_expr, TypeForm, named_type, enum_type, sub_type, array_type, record_type, set_type, pointer_type, proc_type, type_at}
use Rattle.m2_base.specs.Statics.Arrays.{array_size, array_rows, checked_base}
use Rattle.m2_base.specs.Statics.Assignable.{is_open_kind}
use Rattle.m2_base.specs.Statics.Cells.{fitting, most_cells}
use Rattle.m2_base.specs.Statics.Contexts.{Context, Scene}
use Rattle.m2_base.specs.Statics.Enumerations.{constant_rows}
use Rattle.m2_base.specs.Statics.Makes.{scene_with, with_rows, next_place, makes_row, makes_named}
use Rattle.m2_base.specs.Statics.ProcedureTypes.{formal_rows, formals_length, result_type}
use Rattle.m2_base.specs.Statics.Shapes.{fields_shapes}
use Rattle.m2_base.specs.Statics.Subranges.{Bounds, subrange_of, subrange_row}
use Rattle.m2_base.specs.Statics.Targets.{target_name, target_by_name, target_or}
use Rattle.m2_base.specs.Statics.TypeNames.{type_of_qual}
use Rattle.m2_base.specs.Statics.TypeRows.{type_rows, form_rows, index_rows, fields_rows}
use Rattle.m2_base.specs.Statics.Types.{meaning_at}
use Rattle.m2_base.proofs.SceneLaws.{own_of, own-with, with-none, with-twice}
use Rattle.m2_base.proofs.Sound.{next_of, sound-with}
use Rattle.m2_base.proofs.SoundTypes.{either}
use Rattle.row_laws.proofs.Numbers.{AllAgree}
use Rattle.row_laws.proofs.Agreeing.{Ready, ready-left, ready-right, ready-then, agree-left, agree-right}
use Rattle.row_laws.proofs.Closed.{IsClosed, broken_closed, closed_with, qual_closed}

-- the type is no open array's
abbrev pub IsNoOpen : Scene → Place → Type 0
IsNoOpen scene t = is_open_kind (meaning_at scene t) ≡ false

-- ** Rows that were made

-- the row at a place is the one that was made there
pub fresh_at : {names : ℕ} (c : Context) (xs : List Row) (r : Row) (ys : List Row) → Ready names c (xs ++ r ∷ ys) → meaning_at (scene_with c.scene (xs ++ r ∷ ys)) (next_of (scene_with c.scene xs)) ≡ row_meaning r
fresh_at {names} c xs r ys ready =
    let rest = ready-right xs (r ∷ ys) ready in
    let own = own_of (scene_with c.scene xs) in
    ap (λ s. meaning_at s (next_of (scene_with c.scene xs))) (sym (with-twice c.scene xs (r ∷ ys)))
    ∙ ap (λ (rows : List Row). row_meaning (slice_index_or rows (length own) (row_of 0 0 Broken))) (own-with (scene_with c.scene xs) (r ∷ ys) rest.sound.scene.room)
    ∙ ap row_meaning (get_or_at own r ys (row_of 0 0 Broken) (length own) refl)

fresh_no_open : {names : ℕ} (c : Context) (xs : List Row) (r : Row) (ys : List Row) → Ready names c (xs ++ r ∷ ys) → is_open_kind (row_meaning r) ≡ false → IsNoOpen (scene_with c.scene (xs ++ r ∷ ys)) (next_of (scene_with c.scene xs))
fresh_no_open c xs r ys ready h = ap is_open_kind (fresh_at c xs r ys ready) ∙ h

-- the place of a row that is made after no row
none_before : (scene s : Scene) → IsNoOpen scene (next_of s) → IsNoOpen scene (next_of (scene_with s []))
none_before scene s h = subst (λ x. IsNoOpen scene (next_of x)) (sym (with-none s)) h

-- the type in error is no open array after rows, too
broken_no_open : {names : ℕ} (c : Context) (xs : List Row) → Ready names c xs → IsNoOpen (scene_with c.scene xs) broken
broken_no_open c xs ready = broken_closed (sound-with ready.sound.scene ready.ok ready.room)

constant_value : (idents : List Ident) (c : Context) (t : Place) (n : ℕ) → (constant_rows c t n idents).value ≡ t
constant_value [] c t n = refl
constant_value (i ∷ idents) c t n = constant_value idents (with_rows c (makes_named c i.name i.at (Const t (pos n) 0)).rows) t (n + 1)

proc_no_open : (at : ℕ) (r : Option Place) (k first : ℕ) → is_open_kind (row_meaning (row_of 0 at (ProcType r k first))) ≡ false
proc_no_open at None k first = refl
proc_no_open at (Some r) k first = refl

subrange_no_open : {names : ℕ} (c : Context) (at : ℕ) (o : Option Bounds) → Ready names c (subrange_row c at o).rows → IsNoOpen (scene_with c.scene (subrange_row c at o).rows) (subrange_row c at o).value
subrange_no_open c at (Some b) ready =
    subst (λ x. IsNoOpen (scene_with c.scene (row_of 0 at (Subrange b.base b.low b.high) ∷ [])) (next_of x)) (with-none c.scene)
    (fresh_no_open c [] (row_of 0 at (Subrange b.base b.low b.high)) [] ready refl)
subrange_no_open c at None ready = broken_no_open c _ ready

arrays_no_open : {names : ℕ} (is : List Place) (c : Context) (at : ℕ) (elem : Place) → Ready names c (array_rows c at is elem).rows → IsNoOpen c.scene elem
    → IsNoOpen (scene_with c.scene (array_rows c at is elem).rows) (array_rows c at is elem).value
arrays_no_open [] c at elem ready h = subst (λ s. IsNoOpen s elem) (sym (with-none c.scene)) h
arrays_no_open (index ∷ outer) c at elem ready h =
    let size = array_size c index elem in
    let r = row_of 0 at (Array index elem size) in
    let made = makes_row c at (Array index elem size) in
    let d = with_rows c made.rows in
    let u = (fitting d at size made.value).value in
    let more = array_rows (with_rows d []) at outer u in
    let rest = ready-right made.rows more.rows ready in
    let first = ready-left made.rows more.rows ready in
    let fresh : IsNoOpen d.scene made.value = subst (λ x. IsNoOpen d.scene (next_of x)) (with-none c.scene) (fresh_no_open c [] r [] first refl) in
    let one : IsNoOpen d.scene u = either (λ (g : Gives Place). IsNoOpen d.scene g.value) (nat_lt most_cells size) _ (gives made.value) (broken_closed rest.sound.scene) fresh in
    let all = arrays_no_open outer (with_rows d []) at u (ready-then rest) (subst (λ s. IsNoOpen s u) (sym (with-none d.scene)) one) in
    subst (λ s. IsNoOpen s more.value) (ap (λ s. scene_with s more.rows) (with-none d.scene) ∙ with-twice c.scene made.rows more.rows) all

module _ (names : ℕ) where
  mutual
    pub type_no_open : (t : TypeExpr) (c : Context) → Ready names c (type_rows c t).rows → AllAgree c.scene (type_rows c t).rows → IsClosed c.scene → IsNoOpen (scene_with c.scene (type_rows c t).rows) (type_rows c t).value
    type_no_open (type_expr at form) c ready agree closed = form_no_open form c at ready agree closed

    form_no_open : (form : TypeForm) (c : Context) (at : ℕ) → Ready names c (form_rows c at form).rows → AllAgree c.scene (form_rows c at form).rows → IsClosed c.scene
        → IsNoOpen (scene_with c.scene (form_rows c at form).rows) (form_rows c at form).value
    form_no_open (named_type q) c at ready agree closed =
        subst (λ s. IsNoOpen s (type_of_qual c q).value) (sym (with-none c.scene)) (qual_closed names c ready.sound.scene closed q)
    form_no_open (enum_type idents) c at ready agree closed =
        let r = row_of 0 at (Enum (length idents)) in
        let row = makes_row c at (Enum (length idents)) in
        let more = constant_rows (with_rows c row.rows) row.value 0 idents in
        let fresh = subst (λ x. IsNoOpen (scene_with c.scene (r ∷ more.rows)) (next_of x)) (with-none c.scene) (fresh_no_open c [] r more.rows ready refl) in
        subst (IsNoOpen (scene_with c.scene (r ∷ more.rows))) (sym (constant_value idents (with_rows c row.rows) row.value 0)) fresh
    form_no_open (sub_type base low high) c at ready agree closed =
        let o = (subrange_of c base low high).value in
        let made = subrange_row (with_rows c []) at o in
        subst (λ s. IsNoOpen s made.value) (ap (λ s. scene_with s made.rows) (with-none c.scene)) (subrange_no_open (with_rows c []) at o (ready-then ready))
    form_no_open (array_type index of) c at ready agree closed =
        let is = index_rows c index in
        let d = with_rows c is.rows in
        let t = type_rows d of in
        let e = with_rows d t.rows in
        let arrays = array_rows e at (reverse is.value) t.value in
        let first = ready-left is.rows (t.rows ++ arrays.rows) ready in
        let rest = ready-right is.rows (t.rows ++ arrays.rows) ready in
        let rest_agree = agree-right is.rows (t.rows ++ arrays.rows) agree in
        let elem = type_no_open of d (ready-left t.rows arrays.rows rest) (agree-left t.rows arrays.rows rest_agree)
        (closed_with names c is.rows first (agree-left is.rows (t.rows ++ arrays.rows) agree) closed) in
        let all = arrays_no_open (reverse is.value) e at t.value (ready-right t.rows arrays.rows rest) elem in
        subst (λ s. IsNoOpen s arrays.value) (with-twice d.scene t.rows arrays.rows ∙ with-twice c.scene is.rows (t.rows ++ arrays.rows)) all
    form_no_open (record_type fs) c at ready agree closed =
        let start = (next_place c).ordinal in
        let own = start + length (fields_shapes fs) in
        let fields = fields_rows c own 0 fs in
        let size = max 1 fields.value in
        let r = row_of 0 at (Record start size) in
        let scene = scene_with c.scene (fields.rows ++ r ∷ []) in
        either (λ (g : Gives Place). IsNoOpen scene g.value) (nat_lt most_cells size) _ (gives (next_place (with_rows c fields.rows)))
        (broken_no_open c (fields.rows ++ r ∷ []) ready) (fresh_no_open c fields.rows r [] ready refl)
    form_no_open (set_type of) c at ready agree closed =
        let t = type_rows c of in
        let d = with_rows c t.rows in
        let r = row_of 0 at (Set (checked_base d (type_at of) t.value).value) in
        none_before (scene_with c.scene (t.rows ++ r ∷ [])) d.scene (fresh_no_open c t.rows r [] ready refl)
    form_no_open (pointer_type of) c at ready agree closed =
        let t = target_or (target_by_name c (target_name c of)) (type_rows c of) in
        fresh_no_open c t.rows (row_of 0 at (Pointer t.value)) [] ready refl
    form_no_open (proc_type formals result) c at ready agree closed =
        let start = (next_place c).ordinal in
        let own = start + formals_length formals in
        let made = formal_rows c own formals in
        let d = with_rows c made.rows in
        let o = (result_type d result).value in
        let r = row_of 0 at (ProcType o (length formals) start) in
        none_before (scene_with c.scene (made.rows ++ r ∷ [])) d.scene (fresh_no_open c made.rows r [] ready (proc_no_open at o (length formals) start))
