-- The rows in sight of a block are whole where no block of the unit has a diagnostic.
use Rattle.std.specs.Prelude.{◌≡◌, refl, ℕ, ◌<◌, ◌≤◌, ◌⊎◌, Bool, true, false, if◌then◌else◌, List, [], ◌∷◌, slice_get, Option, Some, None}
use Rattle.std.specs.Option.{IsSome}
use Rattle.std.proofs.Common.{ap, subst, sym, ◌∙◌, inl, inr, arith}
use Rattle.std.proofs.lemmas.Bool.{cases_order}
use Rattle.block_code.specs.ProcedureNames.{is_own_definition, target, target_by, target_of_entry, target_of_procedure}
use Rattle.block_code.specs.Whole.{AreWhole, HasWholeParts, IsNoAlias, IsWholeName, IsWholeRow, IsWholeType}
use Rattle.m2_base.specs.Finished.{AreRead}
use Rattle.m2_base.specs.Lists.{Each, IsIn, WhereKept}
use Rattle.m2_base.specs.Rows.{row_meaning}
use Rattle.m2_base.specs.declared.rows.Place.{Place}
use Rattle.m2_base.specs.declared.rows.Row.{Row}
use Rattle.m2_base.specs.declared.rows.RowMeaning.{RowMeaning}
use Rattle.m2_base.specs.declared.rows.RowMeaning.TheVariants.{Alias, Array, Const, Field, Module, OpenArray, Param, Pointer, Proc, ProcType, Set, Standard, TypeName, Var}
use Rattle.m2_base.specs.Standard.{standard_rows}
use Rattle.m2_base.specs.Tables.{first_named, found_or, rows_at}
use Rattle.m2_base.specs.Statics.BlockRows.{declare_block}
use Rattle.m2_base.specs.Statics.Blocks.{BlockTree, UnitTrees, blocks_of, home_of}
use Rattle.m2_base.specs.Statics.Contexts.{Scene}
use Rattle.m2_base.specs.Statics.Items.{items_of}
use Rattle.m2_base.specs.Statics.Lookup.{entry_in}
use Rattle.m2_base.specs.Statics.ReadTrees.{IsReadItem}
use Rattle.m2_base.specs.Statics.TypeParts.{named_target}
use Rattle.m2_base.specs.Statics.Types.{meaning_at}
use Rattle.m2_base.specs.Statics.UnitNotes.{complete_context}
use Rattle.m2_base.specs.Statics.UnitRows.{unit_rows}
use Rattle.m2_base.specs.Units.{UnitTexts}
use Rattle.row_laws.specs.Clear.{AreClear, HasClear, IsClear as IsClearType, IsNamable, IsTarget, LeadsOn}
use Rattle.row_laws.specs.Procedures.{IsDeclared, IsSeenAs}
use Rattle.row_laws.specs.RowRanges.{EachBlock, IsSoundUnit}
use Rattle.row_laws.proofs.ClearRows.{HaveClear, have_clear, not_broken, place_clear}
use Rattle.row_laws.proofs.ClearUnits.{unit_clear, unit_headings}
use Rattle.row_laws.proofs.Fitting.{IsFit, IsInModule, blocks_fit}
use Rattle.row_laws.proofs.Members.{each_in, each_at}
use Rattle.row_laws.proofs.TextBlocks.{blocks_read}
use Rattle.row_laws.proofs.Units.{each_block_then, unit_whole}
use Rattle.row_laws.proofs.Whole.{whole-above, whole-rows}
use Rattle.block_code.specs.BlockCode.{block_diags}
use Rattle.block_laws.specs.Lone.{IsOfLone}
use Rattle.block_laws.proofs.BlocksAt.{unit_all, unit_each, unit_made}
use Rattle.block_laws.proofs.CodeIsValid.{declared-none}
use Rattle.block_laws.proofs.Implemented.{implements}
use Rattle.block_laws.proofs.LoneUnits.{standard-of-lone}
use Rattle.block_laws.proofs.NamedHeadings.{headings-named}
use Rattle.block_laws.proofs.UnitWorlds.{IsClear, declared, earlier, made, there}
use Rattle.block_laws.proofs.WorldCalls.{AreImplemented, own_scope}

-- ** Rows of a clear scene

module _ (scene : Scene) (clear : HaveClear scene.tables) where
  target_whole : (p : Place) (m : RowMeaning) → IsClearType p → HasClear m → IsWholeType scene (named_target p m)
  target_whole p (TypeName t) h k = not_broken scene clear t k
  target_whole p m h k = not_broken scene clear p h

  result_whole : (r : Option Place) → WhereKept r IsClearType → WhereKept r (IsWholeType scene)
  result_whole None h = tt
  result_whole (Some t) h = not_broken scene clear t h

  parts_whole : (m : RowMeaning) → HasClear m → HasWholeParts scene m
  parts_whole (Field t offset own name) h = not_broken scene clear t h
  parts_whole (Param t by_ref own) h = not_broken scene clear t h
  parts_whole (Array index elem size) h = (not_broken scene clear index h.0, not_broken scene clear elem h.1)
  parts_whole (OpenArray elem) h = not_broken scene clear elem h
  parts_whole (Set base) h = not_broken scene clear base h
  parts_whole (Pointer p) h = target_whole p (meaning_at scene p) h (place_clear scene.tables clear p)
  parts_whole (ProcType result count first) h = result_whole result h
  parts_whole m h = tt

  no_alias : (m : RowMeaning) → IsTarget m → IsNoAlias m
  no_alias (Alias p) h = absurd h
  no_alias m h = tt

  name_whole : (name : ℕ) (m : RowMeaning) → HasClear m → LeadsOn scene.tables m → IsNamable m → ((t : Place) (k s : ℕ) → m ≡ Proc t k s → IsSome (target_of_procedure scene name t k)) → IsWholeName scene name m
  name_whole name (Const t v len) h leads n there = not_broken scene clear t h
  name_whole name (TypeName t) h leads n there = not_broken scene clear t h
  name_whole name (Var t mode offset) h leads n there = not_broken scene clear t h
  name_whole name (Proc t k s) h leads n there = there t k s refl
  name_whole name (Module s) h leads n there = tt
  name_whole name (Standard k) h leads n there = tt
  name_whole name (Alias p) h leads n there = (leads.0, no_alias (meaning_at scene p) leads.1)
  name_whole name m h leads n there = absurd n

-- ** Headings of the own definition

module _ (names : List (List ℕ)) (u : UnitTrees) (is : IsClear names u) (b : BlockTree) (i : IsIn b (blocks_of u)) where
  abbrev scene : Scene
  scene = (complete_context u.source (unit_rows u) b.block).scene

  low_row : (s o : ℕ) (r : Row) → slice_get (rows_at scene.tables s) o ≡ Some r → s ≤ b.block.scope
  low_row s o r e = by_order (cases_order s b.block.scope)
    where
      by_order : (s ≡ b.block.scope) ⊎ ((s < b.block.scope) ⊎ (b.block.scope < s)) → s ≤ b.block.scope
      by_order (inl same) = omega (arith, same)
      by_order (inr (inl less)) = omega (arith, less)
      by_order (inr (inr more)) =
          let none : slice_get [] o ≡ Some r = subst (λ (rs : List Row). slice_get rs o ≡ Some r) (whole-above (unit_rows u) b.block s (there names u is b i) more) e in
          absurd cc

  rows_same : (s : ℕ) → s ≤ b.block.scope → rows_at scene.tables s ≡ rows_at (unit_rows u) s
  rows_same s low = whole-rows (unit_rows u) b.block s (there names u is b i) low

  -- a row of a procedure is of its type's scope
  own_row : (s o : ℕ) (r : Row) (t : Place) (k q : ℕ) → slice_get (rows_at (unit_rows u) s) o ≡ Some r → s ≤ b.block.scope → row_meaning r ≡ Proc t k q → t.scope ≡ s
  own_row s o r t k q e low m = by_order (cases_order 0 s)
    where
      by_order : (0 ≡ s) ⊎ ((0 < s) ⊎ (s < 0)) → t.scope ≡ s
      by_order (inl same) =
          let standard : rows_at (unit_rows u) s ≡ standard_rows = sym (ap (rows_at (unit_rows u)) same) ∙ (unit_whole names u is.sound).standard in
          absurd (subst (IsOfLone 0 1) m
          (each_at (λ (x : Row). IsOfLone 0 1 (row_meaning x)) standard_rows standard-of-lone o r (subst (λ (rs : List Row). slice_get rs o ≡ Some r) standard e)))
      by_order (inr (inl positive)) =
          let block = earlier names u is b i s positive low in
          let c : BlockTree = block.0 in
          let here : slice_get (made names u is c).rows o ≡ Some r = subst (λ (rs : List Row). slice_get rs o ≡ Some r) (ap (rows_at (unit_rows u)) (sym block.2) ∙ unit_made u is.sound.scopes c block.1) e in
          let d = subst (IsDeclared (IsSeenAs u c) c.tree.kind c.block (made names u is c).value.headings (items_of c.tree)) m
          (each_at (λ (y : Row). IsDeclared (IsSeenAs u c) c.tree.kind c.block (made names u is c).value.headings (items_of c.tree) (row_meaning y)) (made names u is c).rows (declared names u is c block.1) o r here) in
          d.5 ∙ block.2
      by_order (inr (inr less)) = absurd (omega (arith, less))

  procedure_there : (home_of u ≤ b.block.scope → AreImplemented u) → (s o : ℕ) (r : Row) → slice_get (rows_at scene.tables s) o ≡ Some r → (t : Place) (k q : ℕ) → row_meaning r ≡ Proc t k q
      → IsSome (target_of_procedure scene r.name t k)
  procedure_there implemented s o r e t k q m = by_place (each_in (λ (c : BlockTree). IsFit u.own (home_of u) c.block) (blocks_of u) b (blocks_fit u) i).in_module
    where
      low : s ≤ b.block.scope
      low = low_row s o r e

      row_here : slice_get (rows_at (unit_rows u) s) o ≡ Some r
      row_here = subst (λ (rs : List Row). slice_get rs o ≡ Some r) (rows_same s low) e

      in_main : u.own ≡ Some t.scope → b.block.home ≡ home_of u → home_of u ≤ b.block.scope → IsSome (target_of_entry (entry_in scene.tables b.block.home r.name))
      in_main own home behind =
          let same : t.scope ≡ s = own_row s o r t k q row_here low m in
          let is = implemented behind t.scope own o r t k q (subst (λ (n : ℕ). slice_get (rows_at (unit_rows u) n) o ≡ Some r) (sym same) row_here) m in
          let seen : entry_in scene.tables b.block.home r.name ≡ entry_in (unit_rows u) (home_of u) r.name =
          ap (λ (z : ℕ). entry_in scene.tables z r.name) home ∙ ap (λ (rs : List Row). found_or (home_of u) (first_named r.name rs 0) None) (rows_same (home_of u) behind) in
          let given : target_of_entry (entry_in scene.tables b.block.home r.name) ≡ Some (target is.typ is.number) = ap target_of_entry (seen ∙ is.found) ∙ ap target_by is.means in
          subst IsSome (sym given) refl

      by_test : (v : Bool) → is_own_definition b.block.own t.scope ≡ v → (b.block.own ≡ u.own) × (b.block.home ≡ home_of u) × (home_of u ≤ b.block.scope)
          → IsSome (if v then target_of_entry (entry_in scene.tables b.block.home r.name) else Some (target t k))
      by_test true f h = in_main (sym h.0 ∙ own_scope b.block.own t.scope f) h.1 h.2
      by_test false f h = refl

      by_place : IsInModule u.own (home_of u) b.block → IsSome (target_of_procedure scene r.name t k)
      by_place (inl d) =
          subst (λ (o : Option ℕ). IsSome (if is_own_definition o t.scope then target_of_entry (entry_in scene.tables b.block.home r.name) else Some (target t k))) (sym d.0) refl
      by_place (inr h) = by_test (is_own_definition b.block.own t.scope) refl h

  row_whole : AreClear scene.tables → (home_of u ≤ b.block.scope → AreImplemented u) → (s o : ℕ) (r : Row) → slice_get (rows_at scene.tables s) o ≡ Some r → IsWholeRow scene r
  row_whole clear implemented s o r e =
      let types = have_clear scene.tables clear in
      let row = clear s o r e in
      record {
        parts = parts_whole scene types (row_meaning r) row.0;
        named = λ some. name_whole scene types r.name (row_meaning r) row.0 row.1 (row.2 some) (procedure_there implemented s o r e);
      }

  pub block_whole : AreClear scene.tables → (home_of u ≤ b.block.scope → AreImplemented u) → AreWhole scene
  block_whole clear implemented = record { standard = rows_same 0 (omega arith) ∙ (unit_whole names u is.sound).standard; rows = row_whole clear implemented }

-- ** Units

pub rows-whole : (names : List (List ℕ)) (texts : UnitTexts) (u : UnitTrees) → IsSoundUnit names u → AreRead texts u → Each (λ b. Each (IsReadItem names) (items_of b.tree)) (blocks_of u)
    → EachBlock (λ before b. block_diags u.source before (unit_rows u) b ≡ []) u.source (standard_rows ∷ []) (blocks_of u)
    → EachBlock (λ before b. AreWhole (complete_context u.source (unit_rows u) b.block).scene) u.source (standard_rows ∷ []) (blocks_of u)
rows-whole names texts u sound told items none =
    let quiet =
    each_block_then (λ before b. block_diags u.source before (unit_rows u) b ≡ []) (λ before b. (declare_block u.source before b).diags ≡ []) u.source (blocks_of u) (standard_rows ∷ [])
    (λ before b e. declared-none u.source before (unit_rows u) b e) none in
    let is : IsClear names u = record { sound = sound; blocks = blocks_read texts u told; none = none } in
    let clear = unit_each u sound.scopes (λ before b. AreClear (complete_context u.source (unit_rows u) b.block).scene.tables) (unit_clear names u sound items quiet) in
    unit_all u sound.scopes (λ before b. AreWhole (complete_context u.source (unit_rows u) b.block).scene)
    (λ b i. block_whole names u is b i (clear b i) (λ behind. implements names u is (unit_headings names u sound items quiet) b i behind (headings-named names u is items b i behind)))
