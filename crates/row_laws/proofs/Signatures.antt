-- The type of a procedure's row has the cells and the result of the procedure's heading.
use Rattle.std.specs.Prelude.{◌≡◌, ℕ, suc, ◌+◌, ◌-◌, ◌*◌, Bool, true, false, if◌then◌else◌, drop, take, filter_map, is_some, flat_map, List, [], ◌∷◌, ◌++◌, length, Option, Some, None}
use Rattle.std.specs.List.{cons_option}
use Rattle.std.proofs.Common.{ap, subst, sym, ◌∙◌, refl, arith}
use Rattle.std.proofs.Math.Seq.{drop-append_seam, take-append_seam}
use Rattle.std.proofs.lemmas.Bool.{eq-eqb}
use Rattle.std.proofs.lemmas.List.{append_assoc, length-append}
use Rattle.std.proofs.lemmas.List.Elements.{filter_map-append}
use Rattle.m2_base.specs.Gives.{Gives}
use Rattle.m2_base.specs.Lists.{Each}
use Rattle.m2_base.specs.Rows.{row_of, row_meaning, number_of, place_of}
use Rattle.m2_base.specs.declared.rows.Place.{Place}
use Rattle.m2_base.specs.declared.rows.Row.{Row}
use Rattle.m2_base.specs.declared.rows.RowMeaning.{RowMeaning}
use Rattle.m2_base.specs.declared.rows.RowMeaning.TheVariants.{OpenArray, Param, ProcType}
use Rattle.m2_base.specs.declared.trees.Ident.{Ident}
use Rattle.m2_base.specs.declared.trees.Qual.{Qual}
use Rattle.m2_base.specs.Trees.{Heading, Section}
use Rattle.m2_base.specs.Tables.{rows_at}
use Rattle.m2_base.specs.Statics.Assignable.{is_open_array, is_open_kind}
use Rattle.m2_base.specs.Statics.Contexts.{Context, Scene}
use Rattle.m2_base.specs.Statics.Makes.{scene_with, with_rows, next_place, makes_row}
use Rattle.m2_base.specs.Statics.ProcedureRows.{param_rows, section_rows, section_cells, parameter_cells, parameter_count, sections_length}
use Rattle.m2_base.specs.Statics.ProcedureTypes.{is_structured, open_array_row, parameter_type, result_type}
use Rattle.m2_base.specs.Statics.Shapes.{section_shapes}
use Rattle.m2_base.specs.Statics.TypeNames.{type_of_qual}
use Rattle.m2_base.specs.Statics.TypeParts.{Parameter, parameter_of, parameters, parameters_by, rows_between}
use Rattle.m2_base.specs.Statics.TypeParts as parts
use Rattle.m2_base.specs.Statics.Types.{kind_of, meaning_at, stands_as, stands_for}
use Rattle.m2_base.proofs.EachLaws.{each_append}
use Rattle.m2_base.proofs.ItemLaws.{sections_of}
use Rattle.m2_base.proofs.LayoutLaws.{AreShaped-length}
use Rattle.m2_base.proofs.RowLaws.{place_of-number_of}
use Rattle.m2_base.proofs.SceneLaws.{own_of, own-with, with-none, with-twice}
use Rattle.m2_base.proofs.Sound.{Sound, IsThere, next_of, sound-with, there-with}
use Rattle.m2_base.proofs.SoundParts.{parameter_made}
use Rattle.m2_base.proofs.SoundTypes.{either, qual_there}
use Rattle.row_laws.specs.Procedures.{IsTypeOf, cells_of_parameters}
use Rattle.row_laws.proofs.Agreeing.{Ready, ready-left, ready-right}
use Rattle.row_laws.proofs.AgreeingItems.{params_agree}
use Rattle.row_laws.proofs.AgreeingTypes.{parameter_agrees}
use Rattle.row_laws.proofs.Closed.{IsClosed, closed_with, kind_closed, qual_closed}
use Rattle.row_laws.proofs.ClosedTypes.{fresh_at}
use Rattle.row_laws.proofs.Placing.{section_size}
use Rattle.row_laws.proofs.Settled.{row_stays}

-- ** Rows in a scene with more of them

-- a scene that has these rows, and more
pub record Under (scene : Scene) (rows : List Row) (final : Scene) : Type 0 where
  pub tail : List Row
  pub same : final ≡ scene_with scene (rows ++ tail)

pub under-left : {scene final : Scene} (xs ys : List Row) → Under scene (xs ++ ys) final → Under scene xs final
under-left {scene} xs ys h = record { tail = ys ++ h.tail; same = h.same ∙ ap (scene_with scene) (append_assoc xs ys h.tail) }

pub under-right : {scene final : Scene} (xs ys : List Row) → Under scene (xs ++ ys) final → Under (scene_with scene xs) ys final
under-right {scene} xs ys h = record { tail = h.tail; same = h.same ∙ ap (scene_with scene) (append_assoc xs ys h.tail) ∙ sym (with-twice scene xs (ys ++ h.tail)) }

pub under-then : {scene final : Scene} {xs : List Row} → Under scene xs final → Under (scene_with scene []) xs final
under-then {scene} {final} {xs} h = record { tail = h.tail; same = h.same ∙ ap (λ s. scene_with s (xs ++ h.tail)) (sym (with-none scene)) }

-- a type that is there behind the rows
record Remains (scene final : Scene) (t : Place) : Type 0 where
  there : IsThere final t
  meaning : meaning_at final t ≡ meaning_at scene t

remains : {names : ℕ} (scene final : Scene) (rows : List Row) → Under scene rows final → Sound names (scene_with scene rows) → (t : Place) → IsThere (scene_with scene rows) t → Remains (scene_with scene rows) final t
remains {names} scene final rows under sound t h =
    let same : scene_with (scene_with scene rows) under.tail ≡ final = with-twice scene rows under.tail ∙ sym under.same in
    record {
      there = subst (λ s. IsThere s t) same (there-with (scene_with scene rows) under.tail t sound.room h);
      meaning = ap (λ s. meaning_at s t) (sym same) ∙ ap row_meaning (row_stays (scene_with scene rows) under.tail sound t h);
    }

-- ** Cells of parameters

-- the cells of parameters by the rows of their types
abbrev raw_cells : Scene → List Parameter → ℕ
raw_cells scene [] = 0
raw_cells scene (p ∷ ps) = (if is_open_kind (meaning_at scene p.typ) then 2 else 1) + raw_cells scene ps

raw_append : (scene : Scene) (xs ys : List Parameter) → raw_cells scene (xs ++ ys) ≡ raw_cells scene xs + raw_cells scene ys
raw_append scene [] ys = omega arith
raw_append scene (x ∷ xs) ys = let h = raw_append scene xs ys in omega (arith, h)

parameter_is : (own at : ℕ) (t : Place) (by_ref : Bool) → parameter_of own (row_of 0 at (Param t by_ref own)) ≡ Some (record { typ = place_of (number_of t); by_ref = by_ref })
parameter_is own at t true = ap (λ b. if b then Some (record { typ = place_of (number_of t); by_ref = true }) else None) (eq-eqb own own refl)
parameter_is own at t false = ap (λ b. if b then Some (record { typ = place_of (number_of t); by_ref = false }) else None) (eq-eqb own own refl)

-- parameters of one type
record SameTyped (scene : Scene) (cells : ℕ) (ps : List Parameter) : Type 0 where
  many : raw_cells scene ps ≡ cells
  there : Each (λ p. IsThere scene p.typ) ps

params_typed : (final : Scene) (own : ℕ) (t : Place) (by_ref : Bool) → IsThere final t → (size : ℕ) → (if is_open_kind (meaning_at final t) then 2 else 1) ≡ size → (idents : List Ident) (c : Context)
    → SameTyped final (size * length idents) (filter_map (parameter_of own) (param_rows c own by_ref t idents).rows)
params_typed final own t by_ref h size e [] c = record { many = omega arith; there = tt }
params_typed final own t by_ref h size e (i ∷ idents) c =
    let d = with_rows c (makes_row c i.at (Param t by_ref own)).rows in
    let rest = params_typed final own t by_ref h size e idents d in
    let more = filter_map (parameter_of own) (param_rows d own by_ref t idents).rows in
    let p : Parameter = record { typ = t; by_ref = by_ref } in
    let is : parameter_of own (row_of 0 i.at (Param t by_ref own)) ≡ Some p = parameter_is own i.at t by_ref ∙ ap (λ q. Some (record { typ = q; by_ref = by_ref })) (place_of-number_of t h.0) in
    let many = rest.many in
    subst (λ o. SameTyped final (size * suc (length idents)) (cons_option o more)) (sym is)
    (record { many = omega (arith, e, many); there = (h, rest.there) })

open_none : (c : Context) (own at : ℕ) (is_open : Bool) (t : Place) → filter_map (parameter_of own) (open_array_row c at is_open t).rows ≡ []
open_none c own at true t = refl
open_none c own at false t = refl

-- the type of a parameter is an open array's exactly where the section is
type_open : (names : ℕ) (c : Context) (final : Scene) (is_open : Bool) (q : Qual) → Ready names c (parameter_type c is_open q).rows → Under c.scene (parameter_type c is_open q).rows final → IsClosed c.scene
    → is_open_kind (meaning_at final (parameter_type c is_open q).value) ≡ is_open
type_open names c final true q ready under closed =
    let t = (type_of_qual c q).value in
    let r = row_of 0 q.first.at (OpenArray t) in
    let there = (parameter_made names c ready.sound true q).there in
    let sound = sound-with ready.sound.scene ready.ok ready.room in
    ap is_open_kind (remains c.scene final (r ∷ []) under sound (next_place (with_rows c [])) there).meaning
    ∙ ap is_open_kind (fresh_at c [] r [] ready)
type_open names c final false q ready under closed =
    let t = (type_of_qual c q).value in
    let sound = ready.sound.scene in
    let same : final ≡ scene_with c.scene under.tail = under.same in
    ap (λ s. is_open_kind (meaning_at s t)) same ∙ ap (λ (r : Row). is_open_kind (row_meaning r)) (row_stays c.scene under.tail sound t (qual_there c sound q)) ∙ qual_closed names c sound closed q

sections_typed : (names : ℕ) (final : Scene) (own : ℕ) (sections : List Section) (c : Context) → Ready names c (section_rows c own sections).rows → Under c.scene (section_rows c own sections).rows final → IsClosed c.scene
    → SameTyped final (parameter_cells sections) (filter_map (parameter_of own) (section_rows c own sections).rows)
sections_typed names final own [] c ready under closed = record { many = refl; there = tt }
sections_typed names final own (s ∷ sections) c ready under closed =
    let typ = parameter_type c s.is_open s.of in
    let d = with_rows c typ.rows in
    let params = param_rows d own s.by_ref typ.value s.names in
    let e = with_rows d params.rows in
    let more = section_rows e own sections in
    let left = ready-left typ.rows (params.rows ++ more.rows) ready in
    let rest = ready-right typ.rows (params.rows ++ more.rows) ready in
    let under_left = under-left typ.rows (params.rows ++ more.rows) under in
    let under_rest = under-right typ.rows (params.rows ++ more.rows) under in
    let there = (parameter_made names c left.sound s.is_open s.of).there in
    let stays = remains c.scene final typ.rows under_left rest.sound.scene typ.value there in
    let size = ap {B = ℕ} (λ b. if b then 2 else 1) (type_open names c final s.is_open s.of left under_left closed) in
    let one = params_typed final own typ.value s.by_ref stays.there (if s.is_open then 2 else 1) size s.names d in
    let closed_d = closed_with names c typ.rows left (parameter_agrees c s.is_open s.of) closed in
    let closed_e = closed_with names d params.rows (ready-left params.rows more.rows rest) (params_agree s.names d own s.by_ref typ.value) closed_d in
    let others = sections_typed names final own sections e (ready-right params.rows more.rows rest) (under-right params.rows more.rows under_rest) closed_e in
    let ps = filter_map (parameter_of own) params.rows in
    let qs = filter_map (parameter_of own) more.rows in
    let all : filter_map (parameter_of own) (typ.rows ++ (params.rows ++ more.rows)) ≡ ps ++ qs =
    filter_map-append (parameter_of own) typ.rows (params.rows ++ more.rows)
    ∙ ap (λ xs. xs ++ filter_map (parameter_of own) (params.rows ++ more.rows)) (open_none (with_rows c []) own s.of.first.at s.is_open (type_of_qual c s.of).value)
    ∙ filter_map-append (parameter_of own) params.rows more.rows in
    let a = raw_append final ps qs in
    let m = one.many in
    let n = others.many in
    let z = section_size s in
    subst (SameTyped final (section_cells s + parameter_cells sections)) (sym all)
    (record { many = omega (arith, a, m, n, z); there = each_append (λ (p : Parameter). IsThere final p.typ) ps qs one.there others.there })

-- ** The type of a procedure

-- the rows of a procedure's type, by themselves
pub record IsRawType (final : Scene) (h : Heading) (t : Place) : Type 0 where
  first : ℕ
  many : ℕ
  result : Option Place
  meaning : meaning_at final t ≡ ProcType result many first
  there : IsThere final t
  some : is_some result ≡ is_some h.result
  typed : SameTyped final (parameter_cells h.sections) (filter_map (parameter_of t.ordinal) (rows_between final t.scope first t.ordinal))

between : (front middle back : List Row) (n : ℕ) → n ≡ length front + length middle → take (n - length front) (drop (length front) (front ++ (middle ++ back))) ≡ middle
between front middle back n e =
    let m : n - length front ≡ length middle = omega (arith, e) in
    ap (λ k. take k (drop (length front) (front ++ (middle ++ back)))) m ∙ ap (take (length middle)) (drop-append_seam front (middle ++ back)) ∙ take-append_seam middle back

result_some : (c : Context) (h : Heading) → is_some (result_type c h.result).value ≡ is_some h.result
result_some c h = by_result h.result
  where
    by_result : (o : Option Qual) → is_some (result_type c o).value ≡ is_some o
    by_result None = refl
    by_result (Some q) = either (λ (g : Gives (Option Place)). is_some g.value ≡ true) (is_structured c (type_of_qual c q).value) _ _ refl refl

proc_meaning : (at : ℕ) (r : Option Place) (k first : ℕ) → (o : Option Place) × (row_meaning (row_of 0 at (ProcType r k first)) ≡ ProcType o k first) × (is_some o ≡ is_some r)
proc_meaning at None k first = (None, refl, refl)
proc_meaning at (Some r) k first = (Some (place_of (number_of r)), refl, refl)

-- the rows of a procedure's heading in the scope round it, up to its type
pub type_made_raw : (names : ℕ) (final : Scene) (h : Heading) (c : Context) (back : List Row)
    → (let made = section_rows c ((next_place c).ordinal + sections_length h.sections) h.sections in
    let r = row_of 0 h.name.at (ProcType (result_type (with_rows c made.rows) h.result).value (parameter_count h.sections) (next_place c).ordinal) in
    Ready names c (made.rows ++ r ∷ back) → Under c.scene (made.rows ++ r ∷ back) final → IsClosed c.scene → length (flat_map section_shapes h.sections) ≡ sections_length h.sections
    → IsRawType final h (next_of (scene_with c.scene made.rows)))
type_made_raw names final h c back ready under closed count =
    let start = (next_place c).ordinal in
    let own = start + sections_length h.sections in
    let made = section_rows c own h.sections in
    let d = with_rows c made.rows in
    let o = (result_type d h.result).value in
    let r = row_of 0 h.name.at (ProcType o (parameter_count h.sections) start) in
    let t = next_of d.scene in
    let left = ready-left made.rows (r ∷ back) ready in
    let rest = ready-right made.rows (r ∷ back) ready in
    let whole = sound-with ready.sound.scene ready.ok ready.room in
    let typed = sections_typed names final own h.sections c left (under-left made.rows (r ∷ back) under) closed in
    let proc = proc_meaning h.name.at o (parameter_count h.sections) start in
    let many = AreShaped-length (sections_of h.sections c own) in
    let behind = own-with c.scene made.rows ready.sound.scene.room in
    let long = ap length behind in
    let sum = length-append (own_of c.scene) made.rows in
    let few = rest.sound.scene.few in
    let all = own-with c.scene (made.rows ++ r ∷ back) ready.sound.scene.room in
    let total = ap length all in
    let sum_all = length-append (own_of c.scene) (made.rows ++ r ∷ back) in
    let sum_back = length-append made.rows (r ∷ back) in
    let there : IsThere (scene_with c.scene (made.rows ++ r ∷ back)) t = (omega (arith, few), omega (arith, long, sum, total, sum_all, sum_back)) in
    let stays = remains c.scene final (made.rows ++ r ∷ back) under whole t there in
    let tail = under.tail in
    let final_rows : rows_at final.tables c.scene.block.scope ≡ own_of c.scene ++ (made.rows ++ (r ∷ (back ++ tail))) =
    ap (λ s. rows_at s.tables c.scene.block.scope) under.same ∙ own-with c.scene ((made.rows ++ r ∷ back) ++ tail) ready.sound.scene.room
    ∙ ap (λ xs. own_of c.scene ++ xs) (append_assoc made.rows (r ∷ back) tail) in
    let is_own : own ≡ t.ordinal = omega (arith, long, sum, many, count) in
    let at_end : t.ordinal ≡ length (own_of c.scene) + length made.rows = omega (arith, long, sum) in
    let rows : rows_between final t.scope start t.ordinal ≡ made.rows =
    ap (λ xs. take (t.ordinal - start) (drop start xs)) final_rows ∙ between (own_of c.scene) made.rows (r ∷ (back ++ tail)) t.ordinal at_end in
    record {
      first = start;
      many = parameter_count h.sections;
      result = proc.0;
      meaning = stays.meaning ∙ fresh_at c made.rows r back ready ∙ proc.1;
      there = stays.there;
      some = proc.2 ∙ result_some d h;
      typed = subst (SameTyped final (parameter_cells h.sections))
          (ap (λ n. filter_map (parameter_of n) made.rows) is_own ∙ ap (filter_map (parameter_of t.ordinal)) (sym rows)) typed;
    }

-- ** In later scenes

open_stands : (scene : Scene) (t : Place) (m : RowMeaning) → meaning_at scene t ≡ m → is_open_kind m ≡ true → is_open_array scene t ≡ true
open_stands scene t (OpenArray e) p h = ap (λ x. is_open_kind (meaning_at scene (stands_as scene t x))) p ∙ ap is_open_kind p
open_stands scene t m p h = absurd (cc)

same_open : (final later : Scene) → IsClosed later → (t : Place) → meaning_at later t ≡ meaning_at final t → is_open_array later t ≡ is_open_kind (meaning_at final t)
same_open final later closed t e = by_test (is_open_kind (meaning_at final t)) refl
  where
    by_test : (b : Bool) → is_open_kind (meaning_at final t) ≡ b → is_open_array later t ≡ b
    by_test true h = open_stands later t (meaning_at later t) refl (ap is_open_kind e ∙ h)
    by_test false h = kind_closed later closed t (ap is_open_kind e ∙ h)

same_cells : (final later : Scene) → IsClosed later → ((t : Place) → IsThere final t → meaning_at later t ≡ meaning_at final t) → (ps : List Parameter) → Each (λ p. IsThere final p.typ) ps
    → cells_of_parameters later ps ≡ raw_cells final ps
same_cells final later closed same [] h = refl
same_cells final later closed same (p ∷ ps) h =
    let one = ap {B = ℕ} (λ b. if b then 2 else 1) (same_open final later closed p.typ (same p.typ h.0)) in
    let rest = same_cells final later closed same ps h.1 in
    omega (arith, one, rest)

-- a procedure's type is the heading's in every scene that sees it
pub type_seen : (final later : Scene) → IsClosed later → ((t : Place) → IsThere final t → meaning_at later t ≡ meaning_at final t) → (h : Heading) (t : Place) → rows_at later.tables t.scope ≡ rows_at final.tables t.scope
    → IsRawType final h t → IsTypeOf later h t
type_seen final later closed same h t rows raw =
    let meaning : meaning_at later t ≡ ProcType raw.result raw.many raw.first = same t raw.there ∙ raw.meaning in
    let stands : stands_for later t ≡ t = ap (stands_as later t) meaning in
    let kind : kind_of later t ≡ ProcType raw.result raw.many raw.first = ap (meaning_at later) stands ∙ meaning in
    let ps = filter_map (parameter_of t.ordinal) (rows_between final t.scope raw.first t.ordinal) in
    let params : parameters later t ≡ ps =
    ap (λ p. parameters_by later p (kind_of later t)) stands ∙ ap (parameters_by later t) kind
    ∙ ap (λ xs. filter_map (parameter_of t.ordinal) (take (t.ordinal - raw.first) (drop raw.first xs))) rows in
    record {
      cells = ap (cells_of_parameters later) params ∙ same_cells final later closed same ps raw.typed.there ∙ raw.typed.many;
      result = ap (λ m. is_some (parts.result_by m)) kind ∙ raw.some;
    }
