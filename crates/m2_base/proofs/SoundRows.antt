-- In a sound context the rows of a type expression are right, and its type is there behind them.
use Rattle.std.specs.Prelude.{◌≡◌, ℕ, ◌+◌, ◌^◌, ◌<◌, ◌≤◌, max, List, [], ◌∷◌, ◌++◌, length, reverse, flat_map, Option, Some, None}
use Rattle.std.proofs.Common.{ap, subst, sym, ◌∙◌, refl, arith}
use Rattle.std.proofs.Math.Nat.{le-max_left, max-le}
use Rattle.std.proofs.lemmas.List.{append-nil, length-append, length-map, reverse-append}
use Rattle.m2_base.specs.Gives.{Gives}
use Rattle.m2_base.specs.Lists.{Each, WhereKept}
use Rattle.m2_base.specs.Rows.{Row, Place, Enum, Record, Set, Pointer, ProcType, HasSmallOrdinals, ResultIsBefore, const_kind, param_kind}
use Rattle.m2_base.specs.Trees.{Formal, TypeExpr, type_expr, TypeForm, named_type, enum_type, sub_type, array_type, record_type, set_type, pointer_type, proc_type, TypeExprs, no_types, more_types, FieldList, plain_fields, case_fields, FieldLists, no_fields, more_fields, variant_arm, VariantArms, no_variant_arms, more_variant_arms, type_at}
use Rattle.m2_base.specs.Statics.Arrays.{checked_index, checked_base}
use Rattle.m2_base.specs.Statics.CaseLabels.{labels_of}
use Rattle.m2_base.specs.Statics.Cells.{most_cells}
use Rattle.m2_base.specs.Statics.Contexts.{Context, Scene}
use Rattle.m2_base.specs.Statics.Enumerations.{constant_rows}
use Rattle.m2_base.specs.Statics.Fields.{tag_type, tag_rows}
use Rattle.m2_base.specs.Statics.Makes.{Makes, scene_with, with_rows, next_place, makes_row}
use Rattle.m2_base.specs.Statics.ProcedureTypes.{formal_rows, formals_length, result_type}
use Rattle.m2_base.specs.Statics.Ranges.{Range}
use Rattle.m2_base.specs.Statics.Shapes.{named, nameless, formal_shapes, open_shapes, fields_shapes}
use Rattle.m2_base.specs.Statics.SoundTrees.{IsSoundType, IsSoundTypeForm, AreSoundTypes, AreSoundFields, IsSoundField, AreSoundArms}
use Rattle.m2_base.specs.Statics.Subranges.{subrange_of}
use Rattle.m2_base.specs.Statics.Targets.{target_name, target_by_name, target_or}
use Rattle.m2_base.specs.Statics.TypeRows.{type_rows, form_rows, index_rows, fields_rows, field_list_rows, arms_rows}
use Rattle.m2_base.proofs.EachLaws.{each_append, each_then}
use Rattle.m2_base.proofs.LayoutLaws.{AreShaped-length}
use Rattle.m2_base.proofs.SceneLaws.{IsOpen, own_of, own-with, with-none, with-twice}
use Rattle.m2_base.proofs.ShapeLaws.{constants_of, formals_of, fields_of}
use Rattle.m2_base.proofs.Sound.{AreOk, no_ok, ok-append, ok-end, ok-then, IsThere, there-with, Room, room-left, room-right, room-then, sound-with}
use Rattle.m2_base.proofs.SoundMade.{Made, made-append, made-then, made-before, context-with, context-then, there-then, plain_made}
use Rattle.m2_base.proofs.SoundOperations.{SoundContext}
use Rattle.m2_base.proofs.SoundParts.{constants_made, BoundsOk, subrange_ok, subrange_row_made, index_there, set_base_there, fitting_there, arrays_made, IsTarget, there_target, by_name_ok, formals_ok, result_ok, FieldsOk, plain_fields_made, tag_there, tag_made}
use Rattle.m2_base.proofs.SoundTypes.{qual_there}

each_reverse : {A : Type 0} (P : A → Type 0) (xs : List A) → Each P xs → Each P (reverse xs)
each_reverse P [] h = tt
each_reverse P (x ∷ xs) h =
    subst (Each P) (sym (reverse-append (x ∷ []) xs)) (each_append P (reverse xs) (x ∷ []) (each_reverse P xs h.1) (h.0, tt))

-- each parameter of a procedure type has a row
formals_count : (formals : List Formal) → (formals_length formals ≡ length (flat_map formal_shapes formals)) × (length formals ≤ formals_length formals)
formals_count [] = (refl, omega arith)
formals_count (f ∷ formals) =
    let rest = formals_count formals in
    let e = length-append (formal_shapes f) (flat_map formal_shapes formals) in
    let one = length-append (open_shapes f.is_open f.of) (nameless param_kind f.of.first.at ∷ []) in
    (omega (arith, rest.0, e), omega (arith, rest.1, one))

module _ (names : ℕ) where
  -- rows that are right, with places that are there behind them
  pub record MadeAll (scene : Scene) (rows : List Row) (ps : List Place) : Type 0 where
    pub rows_ok : AreOk names scene rows
    pub all : Each (IsThere (scene_with scene rows)) ps

  all-append : {scene : Scene} {xs ys : List Row} {ps : List Place} → AreOk names scene xs → MadeAll (scene_with scene xs) ys ps → MadeAll scene (xs ++ ys) ps
  all-append {scene} {xs} {ys} {ps} h k = record { rows_ok = ok-append h k.rows_ok; all = subst (λ s. Each (IsThere s) ps) (with-twice scene xs ys) k.all }

  all-then : {scene : Scene} {xs : List Row} {ps : List Place} → MadeAll (scene_with scene []) xs ps → MadeAll scene xs ps
  all-then {scene} {xs} {ps} h = subst (λ s. MadeAll s xs ps) (with-none scene) h

  all-end : {scene : Scene} {xs : List Row} {ps : List Place} → MadeAll scene xs ps → MadeAll scene (xs ++ []) ps
  all-end {scene} {xs} {ps} h = subst (λ rows. MadeAll scene rows ps) (sym (append-nil xs)) h

  all-cons : {scene : Scene} {xs : List Row} {p : Place} {ps : List Place} → IsOpen scene → IsThere scene p → MadeAll scene xs ps → MadeAll scene xs (p ∷ ps)
  all-cons {scene} {xs} {p} o h k = record { rows_ok = k.rows_ok; all = (there-with scene xs p o h, k.all) }

  -- the target that the layout gives, or the type that is made
  target_made : (c : Context) → SoundContext names c → (o : Option (Gives Place)) (m : Makes Place) → WhereKept o (λ g. IsTarget names c.scene g.value)
      → (Room c.scene m.rows → Made names c.scene m.rows m.value) → Room c.scene (target_or o m).rows
      → AreOk names c.scene (target_or o m).rows × IsTarget names c.scene (target_or o m).value
  target_made c sound None m h f room =
      let made = f room in
      (made.rows_ok, there_target names (scene_with c.scene m.rows) (sound-with sound.scene made.rows_ok room) m.value made.there)
  target_made c sound (Some g) m h f room = (no_ok, h)

  pub result_small : (scene : Scene) (o : Option Place) (k f : ℕ) → WhereKept o (IsThere scene) → HasSmallOrdinals (ProcType o k f)
  result_small scene None k f h = tt
  result_small scene (Some r) k f h = h.0

  pub result_before : (c : Context) (o : Option Place) → WhereKept o (IsThere c.scene) → ResultIsBefore o (next_place c)
  result_before c None h = tt
  result_before c (Some r) h = h.1

  mutual
    pub type_made : (t : TypeExpr) (c : Context) → SoundContext names c → IsSoundType names t → Room c.scene (type_rows c t).rows
        → Made names c.scene (type_rows c t).rows (type_rows c t).value
    type_made (type_expr at form) c sound h room = form_made form c at sound h room

    form_made : (form : TypeForm) (c : Context) (at : ℕ) → SoundContext names c → IsSoundTypeForm names form → Room c.scene (form_rows c at form).rows
        → Made names c.scene (form_rows c at form).rows (form_rows c at form).value
    form_made (named_type q) c at sound h room = made-before sound.scene.room no_ok (qual_there c sound.scene q)
    form_made (enum_type idents) c at sound h room =
        let row = makes_row c at (Enum (length idents)) in
        let d = with_rows c row.rows in
        let rest = room-right c.scene row.rows (constant_rows d row.value 0 idents).rows sound.scene.room room in
        let many = AreShaped-length (constants_of idents d row.value 0) ∙ length-map idents (named const_kind) in
        let enough = rest.enough in
        let few : length idents < 2 ^ 32 = omega (arith, many, enough) in
        let first = plain_made c sound at (Enum (length idents)) tt few tt in
        let positive = sound.scene.positive in
        made-append first.rows_ok
        (constants_made names idents d row.value 0 (context-with sound first.rows_ok (room-left row.rows _ room)) first.there
        (λ e. let zero_scope : c.scene.block.scope ≡ 0 = ap (λ (p : Place). p.scope) e in omega (arith, zero_scope, positive)) (omega (arith, few)) h rest)
    form_made (sub_type base low high) c at sound h room =
        let o = (subrange_of c base low high).value in
        made-then (subrange_row_made names (with_rows c []) (context-then sound) at o
        (subst (λ s. WhereKept o (BoundsOk names s)) (sym (with-none c.scene)) (subrange_ok names c sound base low high h.0 h.1)))
    form_made (array_type index of) c at sound h room =
        let is = index_rows c index in
        let first = index_made index c sound h.0 (room-left is.rows _ room) in
        let d = with_rows c is.rows in
        let after = context-with sound first.rows_ok (room-left is.rows _ room) in
        let rest = room-right c.scene is.rows _ sound.scene.room room in
        let t = type_rows d of in
        let second = type_made of d after h.1 (room-left t.rows _ rest) in
        let e = with_rows d t.rows in
        let third = arrays_made names (reverse is.value) e at t.value (context-with after second.rows_ok (room-left t.rows _ rest))
        (each_reverse (IsThere e.scene) is.value (each_then _ _ is.value (λ p k. there-with d.scene t.rows p after.scene.room k) first.all)) second.there
        (room-right d.scene t.rows _ after.scene.room rest) in
        made-append first.rows_ok (made-append second.rows_ok third)
    form_made (record_type fs) c at sound h room =
        let start = (next_place c).ordinal in
        let own = start + length (fields_shapes fs) in
        let fields = fields_rows c own 0 fs in
        let left = room-left fields.rows _ room in
        let many = AreShaped-length (fields_of fs c own 0) in
        let enough = left.enough in
        let first = fields_made fs c own 0 sound h (omega (arith, many, enough)) (omega arith) left in
        let d = with_rows c fields.rows in
        let after = context-with sound first.0 left in
        let size = max 1 fields.value in
        let row = makes_row d at (Record start size) in
        let small : size ≤ most_cells + 1 = max-le (omega arith) first.1 in
        let behind = ap length (own-with c.scene fields.rows sound.scene.room) in
        let sum = length-append (own_of c.scene) fields.rows in
        let second = plain_made d after at (Record start size) tt (omega (arith, behind, sum), omega (arith, small)) (le-max_left 1 fields.value) in
        made-append first.0
        (record { rows_ok = second.rows_ok; there = fitting_there names (with_rows d row.rows) (context-with after second.rows_ok (room-left row.rows [] (room-right c.scene fields.rows (row.rows ++ []) sound.scene.room room))).scene at size row.value second.there })
    form_made (set_type of) c at sound h room =
        let t = type_rows c of in
        let left = room-left t.rows _ room in
        let first = type_made of c sound h left in
        let d = with_rows c t.rows in
        let after = context-with sound first.rows_ok left in
        let base = (checked_base d (type_at of) t.value).value in
        let there = there-then d.scene base (set_base_there names d after.scene (type_at of) t.value first.there) in
        made-append first.rows_ok (made-then (plain_made (with_rows d []) (context-then after) at (Set base) there.0 there.1 tt))
    form_made (pointer_type of) c at sound h room =
        let o = target_by_name c (target_name c of) in
        let t = target_or o (type_rows c of) in
        let left = room-left t.rows _ room in
        let first = target_made c sound o (type_rows c of) (by_name_ok names c sound (target_name c of)) (λ r. type_made of c sound h r) left in
        let after = context-with sound first.0 left in
        made-append first.0 (plain_made (with_rows c t.rows) after at (Pointer t.value) first.1.0 first.1.1 tt)
    form_made (proc_type formals result) c at sound h room =
        let start = (next_place c).ordinal in
        let own = start + formals_length formals in
        let made = formal_rows c own formals in
        let left = room-left made.rows _ room in
        let count = formals_count formals in
        let many = AreShaped-length (formals_of formals c own) in
        let enough = left.enough in
        let first = formals_ok names formals c own sound (omega (arith, many, count.0, enough)) left in
        let d = with_rows c made.rows in
        let after = context-with sound first left in
        let r = (result_type d result).value in
        let e = with_rows d [] in
        let there : WhereKept r (IsThere e.scene) = subst (λ s. WhereKept r (IsThere s)) (sym (with-none d.scene)) (result_ok names d after.scene result) in
        let behind = ap length (own-with c.scene made.rows sound.scene.room) in
        let sum = length-append (own_of c.scene) made.rows in
        let same = ap length (ap own_of (with-none d.scene)) in
        made-append first (made-then (plain_made e (context-then after) at (ProcType r (length formals) start)
        (result_small e.scene r (length formals) start there)
        (result_before e r there, omega (arith, many, count.0, count.1, enough), omega (arith, behind, sum, same)) tt))

    index_made : (ts : TypeExprs) (c : Context) → SoundContext names c → AreSoundTypes names ts → Room c.scene (index_rows c ts).rows → MadeAll c.scene (index_rows c ts).rows (index_rows c ts).value
    index_made no_types c sound h room = record { rows_ok = no_ok; all = tt }
    index_made (more_types t ts) c sound h room =
        let m = type_rows c t in
        let left = room-left m.rows _ room in
        let first = type_made t c sound h.0 left in
        let d = with_rows c m.rows in
        let after = context-with sound first.rows_ok left in
        let i = (checked_index d (type_at t) m.value).value in
        let e = with_rows d [] in
        let second = context-then after in
        let rest = room-then (room-right c.scene m.rows ((index_rows e ts).rows ++ []) sound.scene.room room) in
        all-append first.rows_ok (all-then
        (all-cons second.scene.room (there-then d.scene i (index_there names d after.scene (type_at t) m.value first.there))
        (all-end (index_made ts e second h.1 (room-left (index_rows e ts).rows [] rest)))))

    fields_made : (fs : FieldLists) (c : Context) (own offset : ℕ) → SoundContext names c → AreSoundFields names fs → own < 2 ^ 32 → offset ≤ most_cells + 1 → Room c.scene (fields_rows c own offset fs).rows
        → FieldsOk names c (fields_rows c own offset fs)
    fields_made no_fields c own offset sound h k l room = (no_ok, l)
    fields_made (more_fields f fs) c own offset sound h k l room =
        let m = field_list_rows c own offset f in
        let left = room-left m.rows _ room in
        let first = field_list_made f c own offset sound h.0 k l left in
        let rest = fields_made fs (with_rows c m.rows) own m.value (context-with sound first.0 left) h.1 k first.1 (room-right c.scene m.rows _ sound.scene.room room) in
        (ok-append first.0 rest.0, rest.1)

    field_list_made : (f : FieldList) (c : Context) (own offset : ℕ) → SoundContext names c → IsSoundField names f → own < 2 ^ 32 → offset ≤ most_cells + 1 → Room c.scene (field_list_rows c own offset f).rows
        → FieldsOk names c (field_list_rows c own offset f)
    field_list_made (plain_fields idents t) c own offset sound h k l room =
        let m = type_rows c t in
        let left = room-left m.rows _ room in
        let first = type_made t c sound h.1 left in
        let rest = plain_fields_made names idents (with_rows c m.rows) own m.value offset (context-with sound first.rows_ok left) k h.0 first.there l (room-right c.scene m.rows _ sound.scene.room room) in
        (ok-append first.rows_ok rest.0, rest.1)
    field_list_made (case_fields tag of arms other) c own offset sound h k l room =
        let d = with_rows c [] in
        let sd = context-then sound in
        let t = (tag_type c of).value in
        let there = there-then c.scene t (tag_there names c sound.scene of) in
        let first = tag_rows d own offset t tag in
        let e = with_rows d first.rows in
        let all = arms_rows e own first.value t [] first.value arms in
        let f = with_rows e all.rows in
        let last = fields_rows f own first.value other in
        let rd = room-then room in
        let left = room-left first.rows (all.rows ++ (last.rows ++ [])) rd in
        let tags = tag_made names tag d own offset t sd k h.0 there l in
        let se = context-with sd tags.0 left in
        let re = room-right d.scene first.rows (all.rows ++ (last.rows ++ [])) sd.scene.room rd in
        let middle = room-left all.rows (last.rows ++ []) re in
        let variants = arms_made arms e own first.value t [] first.value se h.1 k tags.1 tags.1 middle in
        let sf = context-with se variants.0 middle in
        let rf = room-right e.scene all.rows (last.rows ++ []) se.scene.room re in
        let others = fields_made other f own first.value sf h.2 k tags.1 (room-left last.rows [] rf) in
        (ok-then (ok-append tags.0 (ok-append variants.0 (ok-end others.0))), max-le variants.1 others.1)

    arms_made : (arms : VariantArms) (c : Context) (own offset : ℕ) (t : Place) (covered : List Range) (end : ℕ) → SoundContext names c → AreSoundArms names arms → own < 2 ^ 32 → offset ≤ most_cells + 1 → end ≤ most_cells + 1
        → Room c.scene (arms_rows c own offset t covered end arms).rows → FieldsOk names c (arms_rows c own offset t covered end arms)
    arms_made no_variant_arms c own offset t covered end sound h k l m room = (no_ok, m)
    arms_made (more_variant_arms (variant_arm ls fs) arms) c own offset t covered end sound h k l m room =
        let d = with_rows c [] in
        let sd = context-then sound in
        let fields = fields_rows d own offset fs in
        let later = (labels_of c t covered ls).value.covered in
        let e = with_rows d fields.rows in
        let more = arms_rows e own offset t later (max end fields.value) arms in
        let rd = room-then room in
        let left = room-left fields.rows more.rows rd in
        let first = fields_made fs d own offset sd h.0 k l left in
        let rest = arms_made arms e own offset t later (max end fields.value) (context-with sd first.0 left) h.1 k l (max-le m first.1) (room-right d.scene fields.rows more.rows sd.scene.room rd) in
        (ok-then (ok-append first.0 rest.0), rest.1)
