-- The cells of an implementation module's own definition are the first of the module's.
use Rattle.std.specs.Prelude.{◌≡◌, ℕ, zero, suc, ◌+◌, ◌-◌, ◌<◌, ◌≤◌, ◌⊎◌, List, [], ◌∷◌, ◌++◌, length, slice_get, slice_index_or, Option, Some, None}
use Rattle.std.proofs.Common.{ap, subst, sym, ◌∙◌, inl, inr, arith}
use Rattle.std.proofs.lemmas.Bool.{cases_order}
use Rattle.std.proofs.lemmas.List.{length-append, get_or-set_other}
use Rattle.m2_base.specs.Lists.{IsIn, WhereKept}
use Rattle.m2_base.specs.Rows.{row_meaning, row_of}
use Rattle.m2_base.specs.declared.rows.RowMeaning.TheVariants.{Broken}
use Rattle.m2_base.specs.Standard.{standard_rows}
use Rattle.m2_base.specs.Statics.BlockRows.{cells_after, context_of, declare_block, scene_of}
use Rattle.m2_base.specs.Statics.Blocks.{BlockTree, UnitTrees, blocks_of, home_of}
use Rattle.m2_base.specs.Statics.Contexts.{Scene, Source}
use Rattle.m2_base.specs.Statics.FormedRows.{IsReady, IsSoundBlock}
use Rattle.m2_base.specs.Statics.Makes.{scene_with}
use Rattle.m2_base.specs.Statics.UnitRows.{rows_from, unit_rows}
use Rattle.m2_base.specs.Tables.{rows_at}
use Rattle.m2_base.specs.declared.rows.Row.{Row}
use Rattle.m2_base.proofs.NoRepeats.{scene_empty}
use Rattle.m2_base.proofs.SceneLaws.{own_of, own-with}
use Rattle.m2_base.proofs.Sound.{Sound, sound-with}
use Rattle.m2_base.proofs.SoundBlocks.{rows_before}
use Rattle.row_laws.proofs.Agreeing.{Ready}
use Rattle.row_laws.proofs.Fitting.{IsFit, IsInModule, blocks_fit}
use Rattle.row_laws.proofs.MadeBy.{stays}
use Rattle.row_laws.proofs.Members.{each_in}
use Rattle.row_laws.proofs.OwnCells.{block_counted}
use Rattle.row_laws.proofs.Scenes.{block_ready}
use Rattle.row_laws.proofs.Units.{unit_whole}
use Rattle.row_laws.proofs.Whole.{Whole, there_scope}
use Rattle.block_laws.proofs.BlocksAt.{before_at, before_of, unit_made, unit_place}
use Rattle.block_laws.proofs.UnitWorlds.{IsClear, form, made}
use Rattle.merge_laws.proofs.Growing.{first_fits}

-- ** The finished scopes before a block

before_long : (source : Source) (before : List (List Row)) (blocks : List BlockTree) (i : ℕ) (b : BlockTree) → slice_get blocks i ≡ Some b → length (before_at source before blocks i) ≡ length before + i
before_long source before [] i b e = absurd cc
before_long source before (c ∷ blocks) zero b e = omega arith
before_long source before (c ∷ blocks) (suc i) b e =
    let made = (declare_block source before c).rows in
    let next = length-append before (made ∷ []) in
    let rest = before_long source (before ++ made ∷ []) blocks i b e in
    omega (arith, next, rest)

before_same : (source : Source) (before : List (List Row)) (blocks : List BlockTree) (i : ℕ) (b : BlockTree) → slice_get blocks i ≡ Some b → (q : ℕ) → q < length before + i
    → rows_at (rows_from source before blocks) q ≡ rows_at (before_at source before blocks i) q
before_same source before [] i b e q h = absurd cc
before_same source before (c ∷ blocks) zero b e q h = stays source (c ∷ blocks) before q (omega (arith, h))
before_same source before (c ∷ blocks) (suc i) b e q h =
    let made = (declare_block source before c).rows in
    let next = length-append before (made ∷ []) in
    before_same source (before ++ made ∷ []) blocks i b e q (omega (arith, next, h))

module _ (names : List (List ℕ)) (u : UnitTrees) (is : IsClear names u) where
  abbrev all : List (List Row)
  all = unit_rows u

  whole : Whole (length names) u.source u.own (home_of u) all
  whole = unit_whole names u is.sound

  pub unit_before : (b : BlockTree) → IsIn b (blocks_of u) → length (before_of u b) ≡ b.block.scope
  unit_before b i =
      let place = unit_place u is.sound.scopes b i in
      let long = before_long u.source (standard_rows ∷ []) (blocks_of u) (b.block.scope - 1) b place.0 in
      let positive = place.1 in
      omega (arith, long, positive)

  earlier_same : (b : BlockTree) → IsIn b (blocks_of u) → (q : ℕ) → q < b.block.scope → rows_at all q ≡ rows_at (before_of u b) q
  unfolding unit_rows
  earlier_same b i q h =
      let place = unit_place u is.sound.scopes b i in
      let positive = place.1 in
      before_same u.source (standard_rows ∷ []) (blocks_of u) (b.block.scope - 1) b place.0 q (omega (arith, h, positive))

  fits : (b : BlockTree) → IsIn b (blocks_of u) → IsFit u.own (home_of u) b.block
  fits b i = each_in (λ (c : BlockTree). IsFit u.own (home_of u) c.block) (blocks_of u) b (blocks_fit u) i

  is_ready : (b : BlockTree) → IsIn b (blocks_of u) → IsReady (length names) u.source (before_of u b) b
  is_ready b i =
      let good = each_in (IsSoundBlock (length names) u.source) (blocks_of u) b is.sound.blocks i in
      let place = unit_place u is.sound.scopes b i in
      let long = unit_before b i in
      record {
        some_names = is.sound.some;
        few_names = is.sound.few;
        positive = place.1;
        before = omega (arith, long);
        standard = sym (earlier_same b i 0 place.1) ∙ whole.standard;
        right = λ s o r h found. whole.right s o r (subst (λ (rs : List Row). slice_get rs o ≡ Some r) (sym (earlier_same b i s h)) found);
        few = good.few;
        short = is.sound.text.short;
        bytes = is.sound.text.bytes;
        items = good.items;
        imports = good.imports;
      }

  -- ** The own definition's block

  module _ (d : BlockTree) (j : IsIn d (blocks_of u)) (low : d.block.scope < home_of u) where
    own_none : IsInModule u.own (home_of u) d.block → d.block.own ≡ None
    own_none (inl e) = e.0
    own_none (inr m) = let x = m.2 in absurd (omega (arith, x, low))

    abbrev rows : List Row
    rows = (made names u is d).rows

    abbrev scene : Scene
    scene = scene_of (before_of u d) d.block

    no_own : d.block.own ≡ None
    no_own = own_none (fits d j).in_module

    ready : Ready (length names) (context_of u.source (before_of u d) d) rows
    ready = block_ready (length names) u.source (before_of u d) d (is_ready d j) (subst (λ (o : Option ℕ). WhereKept o (λ s. s < d.block.scope)) (sym no_own) tt)

    sound : Sound (length names) (scene_with scene rows)
    sound = sound-with ready.sound.scene ready.ok ready.room

    behind_rows : (q : ℕ) → q ≤ d.block.scope → rows_at (scene_with scene rows).tables q ≡ rows_at all q
    behind_rows q h = by_order (cases_order q d.block.scope)
      where
        by_order : (q ≡ d.block.scope) ⊎ ((q < d.block.scope) ⊎ (d.block.scope < q)) → rows_at (scene_with scene rows).tables q ≡ rows_at all q
        by_order (inl same) =
            ap (λ n. rows_at (scene_with scene rows).tables n) same ∙ own-with scene rows ready.sound.scene.room
            ∙ ap (λ (own : List Row). own ++ rows) (scene_empty (before_of u d) d.block (is_ready d j).before) ∙ sym (unit_made u is.sound.scopes d j) ∙ ap (rows_at all) (sym same)
        by_order (inr (inl less)) =
            get_or-set_other scene.tables d.block.scope q (own_of scene ++ rows) [] (λ e. omega (arith, e, less))
            ∙ rows_before (before_of u d) d.block q (is_ready d j).before less ∙ sym (earlier_same d j q less)
        by_order (inr (inr more)) = absurd (omega (arith, h, more))

    headless : d.tree.heading ≡ None
    headless = each_in (λ (c : BlockTree). c.block.scope < home_of u → c.tree.heading ≡ None) (blocks_of u) d is.sound.headings j low

    -- its rows count the cells of its variables, wherever its scopes are seen
    counted : (seen : Scene) → ((q : ℕ) → q ≤ d.block.scope → rows_at seen.tables q ≡ rows_at all q) → cells_after seen 0 (rows_at all d.block.scope) ≡ (made names u is d).value.cell
    counted seen same =
        ap (cells_after seen 0) (unit_made u is.sound.scopes d j)
        ∙ block_counted (length names) seen u.source (before_of u d) d (is_ready d j).items ready no_own headless
        (λ t here.
        let l = there_scope (length names) u.source u.own (home_of u) all whole (scene_with scene rows) sound t here in
        ap (λ (rs : List Row). row_meaning (slice_index_or rs t.ordinal (row_of 0 0 Broken))) (same t.scope l ∙ sym (behind_rows t.scope l)))

    -- they are among the module's
    pub own_cells_fit : (b : BlockTree) → IsIn b (blocks_of u) → b.block.scope ≡ home_of u → b.block.own ≡ Some d.block.scope → (made names u is d).value.cell ≤ (made names u is b).value.cell
    own_cells_fit b i home own =
        let s = scene_of (before_of u b) b.block in
        let long = unit_before b i in
        let same : (q : ℕ) → q ≤ d.block.scope → rows_at s.tables q ≡ rows_at all q = λ q h.
        rows_before (before_of u b) b.block q (omega (arith, long)) (omega (arith, h, low, home)) ∙ sym (earlier_same b i q (omega (arith, h, low, home))) in
        let first = first_fits u.source (before_of u b) b d.block.scope ((form names u is b i).module_kind home) ((form names u is b i).module_heading home) own in
        let count = ap (cells_after s 0) (same d.block.scope (omega arith)) ∙ counted s same in
        omega (arith, first, count)
