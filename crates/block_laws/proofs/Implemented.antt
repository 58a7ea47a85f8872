-- The headings of an own definition are procedures of the module that take and leave the same, where the module's block has no
-- diagnostic.
use Rattle.std.specs.Prelude.{◌≡◌, refl, ℕ, zero, suc, ◌+◌, ◌<◌, ◌≤◌, ◌==◌, ◌&&◌, Bool, true, false, is_some, if◌then◌else◌, List, [], ◌∷◌, ◌++◌, slice_get, unwrap_or, Option, Some, None}
use Rattle.std.proofs.Common.{ap, subst, sym, ◌∙◌, inl, inr, arith}
use Rattle.std.proofs.lemmas.Bool.{eq-eqb, eqb-true, and_parts}
use Rattle.block_code.specs.Calls.{cells_of, cells_of_all, result_cells}
use Rattle.m2_base.specs.Lists.{Each, IsIn, WhereKept}
use Rattle.m2_base.specs.Rows.{at_place, row_meaning}
use Rattle.m2_base.specs.Statics.Assignable.{is_open_kind}
use Rattle.m2_base.specs.Statics.Blocks.{BlockTree, UnitTrees, blocks_of, home_of}
use Rattle.m2_base.specs.Statics.Closing.{Implemented, block_name, closing_diags, heading_name, all_implemented, differing, differs_at, has_missing, implementation_diags, implemented, implements_heading, is_implemented, is_missing, name_diags, own_diags, procedure_implements}
use Rattle.m2_base.specs.Statics.Contexts.{Context, Scene, diag}
use Rattle.m2_base.specs.Statics.Diagnostics.{not_implemented}
use Rattle.m2_base.specs.Statics.Items.{items_of}
use Rattle.m2_base.specs.Statics.Lookup.{Entry, entry_in}
use Rattle.m2_base.specs.Statics.ProcedureRows.{parameter_cells}
use Rattle.m2_base.specs.Statics.SameForm.{are_same_parameters, is_same_by, is_same_form, is_same_mode, is_same_parameter_type, is_same_result}
use Rattle.m2_base.specs.Statics.TypeParts.{Parameter, parameters, result_of_type}
use Rattle.m2_base.specs.Statics.Types.{is_broken, kind_of}
use Rattle.m2_base.specs.Statics.UnitNotes.{complete_context}
use Rattle.m2_base.specs.Statics.UnitRows.{unit_rows}
use Rattle.m2_base.specs.Tables.{first_named, found_or, rows_at}
use Rattle.m2_base.specs.Trees.{Heading}
use Rattle.m2_base.specs.declared.notes.Diag.{Diag}
use Rattle.m2_base.specs.declared.rows.Place.{Place}
use Rattle.m2_base.specs.declared.rows.Row.{Row}
use Rattle.m2_base.specs.declared.rows.RowMeaning.TheVariants.{OpenArray, Proc}
use Rattle.m2_base.specs.declared.rows.RowMeaning.{RowMeaning}
use Rattle.m2_base.specs.declared.trees.Ident.{Ident}
use Rattle.row_laws.proofs.Joined.{none_left}
use Rattle.row_laws.proofs.Lookups.{named_at}
use Rattle.row_laws.proofs.Members.{each_in, each_at}
use Rattle.row_laws.proofs.Whole.{whole-rows}
use Rattle.row_laws.specs.Procedures.{IsDeclared, IsSeenAs, IsTypeOf}
use Rattle.block_code.specs.BlockCode.{body_of, run_of, size_diags}
use Rattle.block_laws.specs.Headings.{HasNamedHeadings, IsNamedProcedure}
use Rattle.row_laws.specs.Headings.{AreSoundFor, HasSoundHeadings, HasSoundParameters}
use Rattle.block_laws.proofs.BlocksAt.{unit_made}
use Rattle.block_laws.proofs.Chains.{Stands, blocks_stand}
use Rattle.block_laws.proofs.OwnCalls.{same_cells}
use Rattle.block_laws.proofs.UnitWorlds.{IsClear, declared, earlier, form, made, there, told}
use Rattle.block_laws.proofs.WorldCalls.{AreImplemented}
use Rattle.block_laws.proofs.WorldCells.{in_main}

-- ** What is implemented

-- nothing is missing, and nothing differs
record Fine (c : Context) (all : List Implemented) : Type 0 where
  whole : has_missing all ≡ false
  same : differing c all ≡ []

fine : (c : Context) (x : Implemented) (all : List Implemented) → Fine c (x ∷ all) → (x ≡ is_implemented) × Fine c all
fine c is_implemented all h = (refl, record { whole = h.whole; same = h.same })
fine c is_missing all h = let e = h.whole in absurd cc
fine c (differs_at at) all h = let e = h.same in absurd cc

fine_row : (c : Context) (own : ℕ) (rows : List Row) (o : ℕ) → Fine c (all_implemented c.scene own o rows) → (n : ℕ) (r : Row) (t : Place) (k s : ℕ) → slice_get rows n ≡ Some r → row_meaning r ≡ Proc t k s → (r.name ≡ 0 → ⊥)
    → implements_heading c.scene t (entry_in c.scene.tables c.scene.block.home r.name) ≡ is_implemented
fine_row c own [] o h n r t k s e m named = absurd cc
fine_row c own (x ∷ rows) o h n r t k s e m named = by_place n e (λ j g f. fine_row c own rows (o + 1) g j r t k s f m named)
  where
    rest : (v : Bool) → Fine c (if v then all_implemented c.scene own (o + 1) rows else implemented c.scene own o x.name (row_meaning x) ∷ all_implemented c.scene own (o + 1) rows)
        → Fine c (all_implemented c.scene own (o + 1) rows)
    rest true g = g
    rest false g = (fine c _ _ g).1

    this : (v : Bool) → (x.name == 0) ≡ v → (x.name ≡ 0 → ⊥) → Fine c (if v then all_implemented c.scene own (o + 1) rows else implemented c.scene own o x.name (row_meaning x) ∷ all_implemented c.scene own (o + 1) rows)
        → implemented c.scene own o x.name (row_meaning x) ≡ is_implemented
    this true e f g = absurd (f (eqb-true x.name 0 e))
    this false e f g = (fine c _ _ g).0

    by_place : (j : ℕ) → slice_get (x ∷ rows) j ≡ Some r
        → ((q : ℕ) → Fine c (all_implemented c.scene own (o + 1) rows) → slice_get rows q ≡ Some r → implements_heading c.scene t (entry_in c.scene.tables c.scene.block.home r.name) ≡ is_implemented)
        → implements_heading c.scene t (entry_in c.scene.tables c.scene.block.home r.name) ≡ is_implemented
    by_place (suc j) f go = go j (rest (x.name == 0) h) f
    by_place zero f go =
        let same : x ≡ r = ap (λ (z : Option Row). unwrap_or z x) f in
        sym (ap (implemented c.scene own o r.name) m) ∙ subst (λ (y : Row). implemented c.scene own o y.name (row_meaning y) ≡ is_implemented) same
        (this (x.name == 0) refl (λ g. named (sym (ap (λ (y : Row). y.name) same) ∙ g)) h)

-- from the diagnostics of the module's block
fine_by : (c : Context) (name : Option Ident) (i : Ident) (all : List Implemented) → name ≡ Some i → implementation_diags c name all ≡ [] → Fine c all
fine_by c None i all e h = absurd cc
fine_by c (Some j) i all e h = by_missing (diag c j.at not_implemented) (has_missing all) refl h
  where
    by_missing : (d : Diag) (v : Bool) → has_missing all ≡ v → (if v then differing c all ++ d ∷ [] else differing c all) ≡ [] → Fine c all
    by_missing d true f g = let no : d ∷ [] ≡ [] = (none_left (differing c all) (d ∷ []) g).1 in absurd cc
    by_missing d false f g = record { whole = f; same = g }

-- ** The module's procedure

-- the procedure that implements a heading
record Found (scene : Scene) (t : Place) (o : Option Entry) : Type 0 where
  e : Entry
  there : o ≡ Some e
  typ : Place
  number : ℕ
  scope : ℕ
  means : row_meaning e.1 ≡ Proc typ number scope
  same : is_same_form scene t typ ≡ true

by_row : (scene : Scene) (t : Place) (at : ℕ) (m : RowMeaning) → procedure_implements scene t at m ≡ is_implemented → (u : Place) × (number : ℕ) × (s : ℕ) × (m ≡ Proc u number s) × (is_same_form scene t u ≡ true)
by_row scene t at (Proc u number s) e = (u, number, s, refl, by_same (is_same_form scene t u) refl e)
  where
    by_same : (v : Bool) → is_same_form scene t u ≡ v → (if v then is_implemented else differs_at at) ≡ is_implemented → v ≡ true
    by_same true f g = refl
    by_same false f g = absurd cc
by_row scene t at m e = absurd cc

found_by : (scene : Scene) (t : Place) (o : Option Entry) → implements_heading scene t o ≡ is_implemented → Found scene t o
found_by scene t None h = absurd cc
found_by scene t (Some e) h =
    let r = by_row scene t e.1.at (row_meaning e.1) h in
    record { e = e; there = refl; typ = r.0; number = r.1; scope = r.2; means = r.3; same = r.4 }

-- where an entry of one scope stands
pub entry_place : (tables : List (List Row)) (s name : ℕ) (e : Entry) → entry_in tables s name ≡ Some e → (n : ℕ) × (e ≡ (at_place s n, e.1)) × (slice_get (rows_at tables s) n ≡ Some e.1)
entry_place tables s name e h = by_hit (first_named name (rows_at tables s) 0) refl h
  where
    by_hit : (o : Option (ℕ × Row)) → first_named name (rows_at tables s) 0 ≡ o → found_or s o None ≡ Some e → (n : ℕ) × (e ≡ (at_place s n, e.1)) × (slice_get (rows_at tables s) n ≡ Some e.1)
    by_hit None f g = absurd cc
    by_hit (Some hit) f g =
        let at = named_at name (rows_at tables s) 0 hit f in
        let same : (at_place s hit.0, hit.1) ≡ e = ap (λ (o : Option Entry). unwrap_or o (at_place s hit.0, hit.1)) g in
        let number : at.0 ≡ hit.0 = let h = at.1 in omega (arith, h) in
        let there : slice_get (rows_at tables s) hit.0 ≡ Some hit.1 = subst (λ (n : ℕ). slice_get (rows_at tables s) n ≡ Some hit.1) number at.2 in
        subst (λ (x : Entry). (n : ℕ) × (x ≡ (at_place s n, x.1)) × (slice_get (rows_at tables s) n ≡ Some x.1)) same (hit.0, refl, there)

-- ** The same form

three_true : (a b c : Bool) → (a && b && c) ≡ true → (a ≡ true) × (b ≡ true) × (c ≡ true)
three_true true true true e = (refl, refl, refl)
three_true true true false e = absurd cc
three_true true false true e = absurd cc
three_true true false false e = absurd cc
three_true false true true e = absurd cc
three_true false true false e = absurd cc
three_true false false true e = absurd cc
three_true false false false e = absurd cc

open_same : (scene : Scene) (t u : Place) (m n : RowMeaning) → is_same_by scene t u m n ≡ true → is_broken scene t ≡ false → is_broken scene u ≡ false → is_open_kind m ≡ is_open_kind n
open_same scene t u (OpenArray a) (OpenArray b) e f g = refl
open_same scene t u (OpenArray a) n e f g = absurd cc
open_same scene t u m (OpenArray b) e f g = absurd cc
open_same scene t u m n e f g = refl

same_params : (scene : Scene) (ps qs : List Parameter) → are_same_parameters scene ps qs ≡ true → Each (λ q. is_broken scene q.typ ≡ false) ps → Each (λ q. is_broken scene q.typ ≡ false) qs
    → cells_of_all scene ps ≡ cells_of_all scene qs
same_params scene [] [] e f g = refl
same_params scene [] (q ∷ qs) e f g = absurd cc
same_params scene (p ∷ ps) [] e f g = absurd cc
same_params scene (p ∷ ps) (q ∷ qs) e f g =
    let parts = three_true (is_same_mode p.by_ref q.by_ref) (is_same_parameter_type scene p.typ q.typ) (are_same_parameters scene ps qs) e in
    let here = open_same scene p.typ q.typ (kind_of scene p.typ) (kind_of scene q.typ) parts.1 f.0 g.0 in
    ap (λ (v : Bool). (if v then 2 else 1) + cells_of_all scene ps) here ∙ ap (λ (n : ℕ). cells_of scene q + n) (same_params scene ps qs parts.2 f.1 g.1)

same_some : (scene : Scene) (o r : Option Place) → is_same_result scene o r ≡ true → is_some o ≡ is_some r
same_some scene None None e = refl
same_some scene (Some t) (Some u) e = refl
same_some scene None (Some u) e = absurd cc
same_some scene (Some t) None e = absurd cc

some_cells : (o r : Option Place) → is_some o ≡ is_some r → result_cells o ≡ result_cells r
some_cells None None e = refl
some_cells (Some t) (Some u) e = refl
some_cells None (Some u) e = absurd cc
some_cells (Some t) None e = absurd cc

-- ** A unit

module _ (names : List (List ℕ)) (u : UnitTrees) (is : IsClear names u) (sound : HasSoundHeadings u) (b : BlockTree) (i : IsIn b (blocks_of u)) (behind : home_of u ≤ b.block.scope) where
  abbrev scene_of : BlockTree → Scene
  scene_of q = (complete_context u.source (unit_rows u) q.block).scene

  -- the heading of a row's procedure, as later blocks see it
  typed : (q : BlockTree) → IsIn q (blocks_of u) → (n : ℕ) (r : Row) (t : Place) (k s : ℕ) → slice_get (rows_at (unit_rows u) q.block.scope) n ≡ Some r → row_meaning r ≡ Proc t k s
      → (h : Heading) × ((later : BlockTree) → IsIn later (blocks_of u) → q.block.scope ≤ later.block.scope → IsTypeOf (scene_of later) h t)
  typed q j n r t k s e m =
      let here : slice_get (made names u is q).rows n ≡ Some r = subst (λ (rs : List Row). slice_get rs n ≡ Some r) (unit_made u is.sound.scopes q j) e in
      let d = subst (IsDeclared (IsSeenAs u q) q.tree.kind q.block (made names u is q).value.headings (items_of q.tree)) m
      (each_at (λ (y : Row). IsDeclared (IsSeenAs u q) q.tree.kind q.block (made names u is q).value.headings (items_of q.tree) (row_meaning y)) (made names u is q).rows (declared names u is q j) n r here) in
      (d.0, d.6)

  cells_is : (scene : Scene) (h : Heading) (t : Place) → IsTypeOf scene h t → cells_of_all scene (parameters scene t) ≡ parameter_cells h.sections
  cells_is scene h t k = sym (same_cells scene (parameters scene t)) ∙ k.cells

  level_is : (m : BlockTree) → IsIn m (blocks_of u) → m.block.scope ≡ home_of u → m.block.level ≡ 0
  level_is m j e = by_place (each_in _ (blocks_of u) m (blocks_stand u) j (omega (arith, e)))
    where
      by_place : Stands u (blocks_of u) m.block → m.block.level ≡ 0
      by_place (inl h) = h.level
      by_place (inr h) = let low = h.lower in let far = h.behind in absurd (omega (arith, low, far, e))

  -- the closing check of the module has told nothing
  closed : (m : BlockTree) → IsIn m (blocks_of u) → m.block.scope ≡ home_of u → (own : ℕ) → u.own ≡ Some own
      → Fine (complete_context u.source (unit_rows u) m.block) (all_implemented (scene_of m) own 0 (rows_at (scene_of m).tables own))
  closed m j e own f =
      let c : Context = complete_context u.source (unit_rows u) m.block in
      let f0 = form names u is m j in
      let told_closing : closing_diags c m.tree ≡ [] =
      (none_left (made names u is m).diags (closing_diags c m.tree) (none_left ((made names u is m).diags ++ closing_diags c m.tree) (body_of c m).diags
      (none_left ((made names u is m).diags ++ closing_diags c m.tree ++ (body_of c m).diags) (size_diags c m m.tree.kind (made names u is m).value (run_of m (made names u is m).value (body_of c m).value)) (told names u is m j)).0).0).1 in
      let told_own : own_diags c m.tree m.block.own ≡ [] = (none_left (name_diags c m.tree.close (block_name m.tree)) (own_diags c m.tree m.block.own) told_closing).1 in
      let own_is : m.block.own ≡ Some own = (in_main u m j (omega (arith, e))).own ∙ f in
      let here : own_diags c m.tree (Some own) ≡ [] = subst (λ (o : Option ℕ). own_diags c m.tree o ≡ []) own_is told_own in
      let level : (m.block.level == 0) ≡ true = eq-eqb m.block.level 0 (level_is m j e) in
      let all : List Implemented = all_implemented (scene_of m) own 0 (rows_at (scene_of m).tables own) in
      let name : m.tree.name ≡ Some f0.name = sym (ap (heading_name m.tree.name) (f0.module_heading e)) ∙ f0.named in
      fine_by c m.tree.name f0.name all name
      (sym (ap (λ (v : Bool). if v then implementation_diags c m.tree.name all else []) level) ∙ here)

  pub implements : HasNamedHeadings u → AreImplemented u
  implements named own f n r t k s e m =
      let home = earlier names u is b i (home_of u) (omega arith) behind in
      let main : BlockTree = home.0 in
      let low : own < home_of u = subst (λ (o : Option ℕ). WhereKept o (λ q. q < home_of u)) f is.sound.own in
      let positive : 0 < own = subst (λ (o : Option ℕ). WhereKept o (λ q. 0 < q)) f is.blocks.own in
      let definition = earlier names u is b i own positive (omega (arith, low, behind)) in
      let at_home = home.2 in
      let at_own = definition.2 in
      let there_main = there names u is main home.1 in
      let sounds : AreSoundFor u own × AreSoundFor u (home_of u) = subst (λ (o : Option ℕ). WhereKept o (λ q. AreSoundFor u q × AreSoundFor u (home_of u))) f sound in
      let rows_own : rows_at (scene_of main).tables own ≡ rows_at (unit_rows u) own = whole-rows (unit_rows u) main.block own there_main (omega (arith, low, at_home)) in
      let rows_home : rows_at (scene_of main).tables (home_of u) ≡ rows_at (unit_rows u) (home_of u) = whole-rows (unit_rows u) main.block (home_of u) there_main (omega (arith, at_home)) in
      let all_named : Each (λ (y : Row). IsNamedProcedure y.name (row_meaning y)) (rows_at (unit_rows u) own) =
      subst (λ (o : Option ℕ). WhereKept o (λ q. Each (λ (y : Row). IsNamedProcedure y.name (row_meaning y)) (rows_at (unit_rows u) q))) f named in
      let has_name : r.name ≡ 0 → ⊥ = subst (IsNamedProcedure r.name) m (each_at (λ (y : Row). IsNamedProcedure y.name (row_meaning y)) (rows_at (unit_rows u) own) all_named n r e) in
      let right = fine_row (complete_context u.source (unit_rows u) main.block) own (rows_at (scene_of main).tables own) 0 (closed main home.1 home.2 own f) n r t k s
      (ap (λ (rs : List Row). slice_get rs n) rows_own ∙ e) m has_name in
      let entry : Option Entry = entry_in (unit_rows u) (home_of u) r.name in
      let seen_entry : entry_in (scene_of main).tables main.block.home r.name ≡ entry =
      ap (λ (z : ℕ). entry_in (scene_of main).tables z r.name) (in_main u main home.1 (omega (arith, at_home))).home ∙ ap (λ (rs : List Row). found_or (home_of u) (first_named r.name rs 0) None) rows_home in
      let found = found_by (scene_of main) t entry (subst (λ (o : Option Entry). implements_heading (scene_of main) t o ≡ is_implemented) seen_entry right) in
      let place = entry_place (unit_rows u) (home_of u) r.name found.e found.there in
      let mine = typed definition.0 definition.1 n r t k s (ap (λ (z : ℕ). slice_get (rows_at (unit_rows u) z) n) at_own ∙ e) m in
      let its = typed main home.1 place.0 found.e.1 found.typ found.number found.scope (ap (λ (z : ℕ). slice_get (rows_at (unit_rows u) z) place.0) at_home ∙ place.2) found.means in
      let form_is = and_parts (are_same_parameters (scene_of main) (parameters (scene_of main) t) (parameters (scene_of main) found.typ))
      (is_same_result (scene_of main) (result_of_type (scene_of main) t) (result_of_type (scene_of main) found.typ)) found.same in
      let sound_mine = subst (HasSoundParameters (scene_of main)) m
      (each_at (λ (y : Row). HasSoundParameters (scene_of main) (row_meaning y)) (rows_at (unit_rows u) own) (sounds.0 main home.1 at_home) n r e) in
      let sound_its = subst (HasSoundParameters (scene_of main)) found.means
      (each_at (λ (y : Row). HasSoundParameters (scene_of main) (row_meaning y)) (rows_at (unit_rows u) (home_of u)) (sounds.1 main home.1 at_home) place.0 found.e.1 place.2) in
      let mine_here = mine.1 main home.1 (omega (arith, low, at_own, at_home)) in
      let its_here = its.1 main home.1 (omega arith) in
      let cells : parameter_cells its.0.sections ≡ parameter_cells mine.0.sections =
      sym (cells_is (scene_of main) its.0 found.typ its_here)
      ∙ sym (same_params (scene_of main) (parameters (scene_of main) t) (parameters (scene_of main) found.typ) form_is.0 sound_mine sound_its) ∙ cells_is (scene_of main) mine.0 t mine_here in
      let result : is_some its.0.result ≡ is_some mine.0.result =
      sym its_here.result ∙ sym (same_some (scene_of main) (result_of_type (scene_of main) t) (result_of_type (scene_of main) found.typ) form_is.1) ∙ mine_here.result in
      record {
        typ = found.typ;
        number = found.number;
        scope = found.scope;
        ordinal = place.0;
        row = found.e.1;
        there = place.2;
        means = found.means;
        found = found.there ∙ ap (λ (x : Entry). Some x) place.1;
        params = λ q j far.
            let its_there = its.1 q j (omega (arith, far, at_home)) in
            let mine_there = mine.1 q j (omega (arith, far, low, at_own)) in
            cells_is (scene_of q) its.0 found.typ its_there ∙ cells ∙ sym (cells_is (scene_of q) mine.0 t mine_there);
        result = λ q j far.
            let its_there = its.1 q j (omega (arith, far, at_home)) in
            let mine_there = mine.1 q j (omega (arith, far, low, at_own)) in
            some_cells (result_of_type (scene_of q) found.typ) (result_of_type (scene_of q) t) (its_there.result ∙ result ∙ sym mine_there.result);
      }
