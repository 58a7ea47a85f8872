-- Each heading of an implementation module's own definition is that of a procedure of the module, which takes and leaves the same.
use Rattle.std.specs.Prelude.{◌≡◌, refl, ℕ, suc, ◌+◌, ◌-◌, ◌<◌, ◌≤◌, ◌==◌, if◌then◌else◌, List, [], ◌∷◌, slice_get, unwrap_or, Option, Some, None}
use Rattle.std.proofs.Common.{ap, subst, sym, ◌∙◌, inl, inr, arith}
use Rattle.code_form.specs.Modules.{Procedure}
use Rattle.m2_base.specs.Lists.{Each, IsIn, WhereKept}
use Rattle.m2_base.specs.Rows.{at_place, row_meaning}
use Rattle.m2_base.specs.Statics.Blocks.{BlockTree, UnitTrees, blocks_of, home_of}
use Rattle.m2_base.specs.Statics.BlockRows.{declare_block}
use Rattle.m2_base.specs.Statics.Contexts.{Scene}
use Rattle.m2_base.specs.Statics.Items.{items_of, proc_item}
use Rattle.m2_base.specs.Statics.Lookup.{Entry, entry_in}
use Rattle.m2_base.specs.Statics.ProcedureRows.{parameter_cells, result_cells as cells_of_result}
use Rattle.m2_base.specs.Statics.ReadTrees.{IsReadItem}
use Rattle.m2_base.specs.Statics.ReadStatements.{AreReadStatements}
use Rattle.m2_base.specs.Statics.TypeParts.{parameters, result_of_type}
use Rattle.m2_base.specs.Statics.UnitNotes.{complete_context}
use Rattle.m2_base.specs.Statics.UnitRows.{unit_rows}
use Rattle.m2_base.specs.Tables.{first_named, found_or, rows_at}
use Rattle.m2_base.specs.Trees.{Heading}
use Rattle.m2_base.specs.declared.outputs.HeadingNote.{HeadingNote}
use Rattle.m2_base.specs.declared.rows.Place.{Place}
use Rattle.m2_base.specs.declared.rows.Row.{Row}
use Rattle.m2_base.specs.declared.rows.RowMeaning.TheVariants.{Proc}
use Rattle.m2_base.specs.declared.trees.declarations.StreamKind.{StreamKind}
use Rattle.m2_base.specs.declared.trees.declarations.StreamKind.TheVariants.{Definition, Main}
use Rattle.row_laws.specs.Headings.{HasSoundHeadings}
use Rattle.row_laws.specs.Procedures.{HasNumber, IsDeclared, IsSeenAs, IsTypeOf}
use Rattle.row_laws.proofs.ClearUnits.{unit_headings}
use Rattle.row_laws.proofs.Members.{each_at, each_in}
use Rattle.row_laws.proofs.Units.{each_block_then}
use Rattle.block_code.specs.BlockCode.{block_diags}
use Rattle.block_laws.specs.Worlds.{unit_world}
use Rattle.block_laws.proofs.BlocksAt.{before_of, unit_made}
use Rattle.block_laws.proofs.CodeIsValid.{declared-none}
use Rattle.block_laws.proofs.Implemented.{implements}
use Rattle.block_laws.proofs.NamedHeadings.{headings-named}
use Rattle.block_laws.proofs.OwnCalls.{IsCallable, callable, same_cells, same_result}
use Rattle.block_laws.proofs.UnitWorlds.{IsClear, declared, form, furnishes, made, notes_of, told}
use Rattle.block_laws.proofs.WorldCalls.{AreImplemented, IsImplemented}
use Rattle.unit_merge.specs.Objects.{export_in, number_of}
use Rattle.merge_laws.proofs.Headings.{HasRow, NotesHeadings, NumberedFrom, block_numbered, block_tagged, first_tag, noted, row_tagged, tag_first, tags}
use Rattle.merge_laws.proofs.OwnCells.{unit_before}
use Rattle.m2_base.proofs.NoRepeats.{some_is}

-- ** Notes

in_noted : (h : HeadingNote) (notes : List HeadingNote) → IsIn h notes → IsIn (h.name, h.number) (noted notes)
in_noted h [] i = absurd i
in_noted h (x ∷ notes) (inl e) = inl (ap (λ (y : HeadingNote). (y.name, y.number)) e)
in_noted h (x ∷ notes) (inr i) = inr (in_noted h notes i)

numbered_at : (n : ℕ) (notes : List HeadingNote) (h : HeadingNote) → NumberedFrom n notes → IsIn h notes → (k : ℕ) × (h.number ≡ n + k) × (slice_get notes k ≡ Some h)
numbered_at n [] h e i = absurd i
numbered_at n (x ∷ notes) h e (inl same) = (0, (let first = ap (λ (y : HeadingNote). y.number) same in let f = e.0 in omega (arith, first, f)), ap (λ (y : HeadingNote). Some y) (sym same))
numbered_at n (x ∷ notes) h e (inr i) =
    let rest = numbered_at (n + 1) notes h e.1 i in
    let number = rest.1 in
    (suc rest.0, omega (arith, number), rest.2)

first_number : (notes : List HeadingNote) (name : ℕ) → number_of notes name ≡ first_tag (noted notes) name
first_number [] name = refl
first_number (h ∷ notes) name = ap (λ (o : Option ℕ). if h.name == name then Some h.number else o) (first_number notes name)

-- what an entry of one scope is found by
entry_first : (tables : List (List Row)) (s name : ℕ) (e : Entry) → entry_in tables s name ≡ Some e → (n : ℕ) × (first_named name (rows_at tables s) 0 ≡ Some (n, e.1))
entry_first tables s name e h = by (first_named name (rows_at tables s) 0) refl h
  where
    by : (o : Option (ℕ × Row)) → first_named name (rows_at tables s) 0 ≡ o → found_or s o None ≡ Some e → (n : ℕ) × (first_named name (rows_at tables s) 0 ≡ Some (n, e.1))
    by None f g = absurd cc
    by (Some hit) f g = (hit.0, f ∙ ap (λ (x : Entry). Some (hit.0, x.1)) (some_is (at_place s hit.0, hit.1) e g))

-- the heading is that of a procedure of the module
pub record IsExported (u : UnitTrees) (of_module : List HeadingNote) (h : HeadingNote) : Type 0 where
  pub p : Procedure
  pub there : slice_get (unit_world u).procedures (export_in of_module h).0 ≡ Some p
  pub positive : 1 ≤ (export_in of_module h).0
  pub outer : p.outer ≡ 0
  pub params : p.params ≡ h.params
  pub result : p.result ≡ h.result

module _ (names : List (List ℕ)) (u : UnitTrees) (is : IsClear names u) (read : Each (λ b. AreReadStatements names b.tree.body) (blocks_of u)) (items : Each (λ b. Each (IsReadItem names) (items_of b.tree)) (blocks_of u))
    (b : BlockTree) (i : IsIn b (blocks_of u)) (home : b.block.scope ≡ home_of u) (d : BlockTree) (j : IsIn d (blocks_of u)) (own : u.own ≡ Some d.block.scope) where
  low : d.block.scope < home_of u
  low = subst (λ (o : Option ℕ). WhereKept o (λ s. s < home_of u)) own is.sound.own

  behind : home_of u ≤ b.block.scope
  behind = omega (arith, home)

  quiet : (c : BlockTree) → IsIn c (blocks_of u) → (made names u is c).diags ≡ []
  quiet c k = declared-none u.source (before_of u c) (unit_rows u) c (told names u is c k)

  all_implemented : AreImplemented u
  all_implemented =
      let headings : HasSoundHeadings u = unit_headings names u is.sound items
      (each_block_then (λ before c. block_diags u.source before (unit_rows u) c ≡ []) (λ before c. (declare_block u.source before c).diags ≡ []) u.source (blocks_of u) _
      (λ before c e. declared-none u.source before (unit_rows u) c e) is.none) in
      implements names u is headings b i behind (headings-named names u is items b i behind)

  abbrev scene : Scene
  scene = (complete_context u.source (unit_rows u) b.block).scene

  abbrev mine : List HeadingNote
  mine = (made names u is b).value.headings

  abbrev its : List HeadingNote
  its = (made names u is d).value.headings

  main_kind : b.tree.kind ≡ Main
  main_kind = (form names u is b i).module_kind home

  definition_kind : d.tree.kind ≡ Definition
  definition_kind = (form names u is d j).definition low

  tagged : (c : BlockTree) → IsIn c (blocks_of u) → NotesHeadings c.tree.kind → tags (rows_at (unit_rows u) c.block.scope) ≡ noted (made names u is c).value.headings
  tagged c k notes = ap tags (unit_made u is.sound.scopes c k) ∙ block_tagged u.source (before_of u c) c notes (quiet c k)

  tagged_main : tags (rows_at (unit_rows u) (home_of u)) ≡ noted mine
  tagged_main = ap (λ (s : ℕ). tags (rows_at (unit_rows u) s)) (sym home) ∙ tagged b i (subst NotesHeadings (sym main_kind) tt)

  tagged_own : tags (rows_at (unit_rows u) d.block.scope) ≡ noted its
  tagged_own = tagged d j (subst NotesHeadings (sym definition_kind) tt)

  -- ** What rows say

  -- the heading of a row's procedure, as the module's block sees it
  record Says (c : BlockTree) (t : Place) (k : ℕ) : Type 0 where
    heading : Heading
    stream : ℕ
    item : IsIn (proc_item heading stream) (items_of c.tree)
    number : HasNumber c.tree.kind c.block (made names u is c).value.headings heading stream k
    seen : IsTypeOf scene heading t

  says : (c : BlockTree) → IsIn c (blocks_of u) → c.block.scope ≤ b.block.scope → (n : ℕ) (r : Row) (t : Place) (k s : ℕ) → slice_get (rows_at (unit_rows u) c.block.scope) n ≡ Some r → row_meaning r ≡ Proc t k s → Says c t k
  says c q lower n r t k s e m =
      let here : slice_get (made names u is c).rows n ≡ Some r = subst (λ (rs : List Row). slice_get rs n ≡ Some r) (unit_made u is.sound.scopes c q) e in
      let x = subst (IsDeclared (IsSeenAs u c) c.tree.kind c.block (made names u is c).value.headings (items_of c.tree)) m
      (each_at (λ (y : Row). IsDeclared (IsSeenAs u c) c.tree.kind c.block (made names u is c).value.headings (items_of c.tree) (row_meaning y)) (made names u is c).rows (declared names u is c q) n r here) in
      record { heading = x.0; stream = x.1; item = x.2; number = x.4; seen = x.6 b i lower }

  -- ** One heading

  module _ (h : HeadingNote) (there : IsIn h its) where
    row : HasRow (rows_at (unit_rows u) d.block.scope) h.name h.number
    row = row_tagged (rows_at (unit_rows u) d.block.scope) h.name h.number (subst (IsIn (h.name, h.number)) (sym tagged_own) (in_noted h its there))

    done : IsImplemented u row.row.name row.typ
    done = all_implemented d.block.scope own row.ordinal row.row row.typ h.number row.scope row.there row.means

    -- the number that the module's headings have for it
    numbered : number_of mine h.name ≡ Some done.number
    numbered =
        let first = entry_first (unit_rows u) (home_of u) row.row.name (at_place (home_of u) done.ordinal, done.row) done.found in
        first_number mine h.name ∙ ap (λ (ts : List (ℕ × ℕ)). first_tag ts h.name) (sym tagged_main)
        ∙ ap (first_tag (tags (rows_at (unit_rows u) (home_of u)))) (sym row.named)
        ∙ tag_first (rows_at (unit_rows u) (home_of u)) row.row.name 0 (first.0, done.row) done.typ done.number done.scope first.1 done.means

    export_is : (export_in mine h).0 ≡ done.number
    export_is = ap (λ (o : Option ℕ). unwrap_or o 0) numbered

    of_main : Says b done.typ done.number
    of_main = says b i (omega arith) done.ordinal done.row done.typ done.number done.scope (ap (λ (s : ℕ). slice_get (rows_at (unit_rows u) s) done.ordinal) home ∙ done.there) done.means

    of_own : Says d row.typ h.number
    of_own = says d j (omega (arith, low, behind)) row.ordinal row.row row.typ h.number row.scope row.there row.means

    main_number : done.number ≡ of_main.stream - b.block.home
    main_number = subst (λ (k : StreamKind). HasNumber k b.block mine of_main.heading of_main.stream done.number) main_kind of_main.number

    call : IsCallable (unit_world u) (home_of u) b.block.scope of_main.heading done.number
    call =
        callable u (unit_world u) (unit_rows u) (notes_of u) (furnishes names u is read b i behind) b i behind (each_in _ (blocks_of u) b is.blocks.procedures i) of_main.heading of_main.stream done.number of_main.item main_number

    -- the note of the definition is that of its item
    noted_as : h ≡ record { name = of_own.heading.name.name; number = h.number; params = parameter_cells of_own.heading.sections; result = cells_of_result of_own.heading.result }
    noted_as =
        let at = subst (λ (k : StreamKind). HasNumber k d.block its of_own.heading of_own.stream h.number) definition_kind of_own.number in
        let place = numbered_at 0 its h (block_numbered u.source (before_of u d) d definition_kind (let long = unit_before names u is d j in omega (arith, long)) (quiet d j)) there in
        let number = place.1 in
        let same : place.0 ≡ h.number = omega (arith, number) in
        some_is h _ (sym place.2 ∙ ap (slice_get its) same ∙ at)

    cells_same : parameter_cells of_main.heading.sections ≡ h.params
    cells_same =
        sym (sym (same_cells scene (parameters scene done.typ)) ∙ of_main.seen.cells) ∙ done.params b i behind ∙ sym (same_cells scene (parameters scene row.typ)) ∙ of_own.seen.cells
        ∙ sym (ap (λ (x : HeadingNote). x.params) noted_as)

    results_same : cells_of_result of_main.heading.result ≡ h.result
    results_same =
        same_result (result_of_type scene done.typ) of_main.heading.result of_main.seen.result ∙ done.result b i behind
        ∙ sym (same_result (result_of_type scene row.typ) of_own.heading.result of_own.seen.result) ∙ sym (ap (λ (x : HeadingNote). x.result) noted_as)

    pub exported : IsExported u mine h
    exported = record {
      p = call.p;
      there = ap (slice_get (unit_world u).procedures) export_is ∙ call.there;
      positive = let e = export_is in let k = call.positive in omega (arith, e, k);
      outer = let o = call.outer in omega (arith, o, home);
      params = call.params ∙ cells_same;
      result = call.result ∙ results_same;
    }
