-- The rows of a unit are clear where its declarations have no diagnostic, and so its headings are sound.
use Rattle.std.specs.Prelude.{◌≡◌, ℕ, zero, suc, ◌+◌, ◌-◌, ◌^◌, ◌<◌, ◌==◌, ◌⊎◌, Bool, true, false, if◌then◌else◌, drop, filter_map, List, [], ◌∷◌, ◌++◌, length, Option, Some, None}
use Rattle.std.specs.List.{cons_option}
use Rattle.std.proofs.Common.{ap, subst, sym, ◌∙◌, refl, inl, inr, arith}
use Rattle.std.proofs.lemmas.Bool.{cases_order}
use Rattle.std.proofs.lemmas.List.{length-append, get_or_append_left, get_or_at, get_or_past}
use Rattle.m2_base.proofs.SoundBlocks.{rows_above, rows_before}
use Rattle.m2_base.specs.Lists.{Each, IsIn, WhereKept}
use Rattle.m2_base.specs.Rows.{row_meaning}
use Rattle.m2_base.specs.declared.rows.Place.{Place}
use Rattle.m2_base.specs.declared.rows.Row.{Row}
use Rattle.m2_base.specs.declared.rows.RowMeaning.{RowMeaning}
use Rattle.m2_base.specs.declared.rows.RowMeaning.TheVariants.{Param, Proc, ProcType}
use Rattle.m2_base.specs.Standard.{standard_rows}
use Rattle.m2_base.specs.Tables.{rows_at}
use Rattle.m2_base.specs.Statics.BlockRows.{context_of, declare_block, first_cell, scene_of}
use Rattle.m2_base.specs.Statics.Blocks.{BlockTree, UnitTrees, blocks_of, home_of}
use Rattle.m2_base.specs.Statics.Contexts.{Block, Scene, Source}
use Rattle.m2_base.specs.Statics.FormedRows.{AreConsecutive, IsSoundBlock}
use Rattle.m2_base.specs.Statics.Items.{items_of}
use Rattle.m2_base.specs.Statics.Makes.{scene_with}
use Rattle.m2_base.specs.Statics.ReadTrees.{IsReadItem}
use Rattle.m2_base.specs.Statics.TypeParts.{Parameter, parameter_by, parameter_of, parameters_by, rows_between}
use Rattle.m2_base.specs.Statics.Types.{is_broken, kind_of, stands_for}
use Rattle.m2_base.specs.Statics.UnitNotes.{complete_context}
use Rattle.m2_base.specs.Statics.UnitRows.{rows_from, unit_rows}
use Rattle.m2_base.proofs.LayoutLaws.{block_counted, block_few}
use Rattle.m2_base.proofs.NoRepeats.{scene_empty, scene_open}
use Rattle.m2_base.proofs.SceneLaws.{own-with}
use Rattle.row_laws.specs.Headings.{AreSoundFor, HasSoundHeadings, HasSoundParameters}
use Rattle.row_laws.specs.RowRanges.{EachBlock, IsSoundUnit}
use Rattle.row_laws.specs.Clear.{AreClear, HasClear}
use Rattle.row_laws.proofs.ClearRows.{HaveClear, IsClearScene, have_clear, not_broken, same_clear, standard_clear}
use Rattle.row_laws.proofs.ClearItems.{AreFew, HasSpace, items_fine}
use Rattle.row_laws.proofs.MadeBy.{stays}
use Rattle.row_laws.proofs.Members.{each_drop, each_got, each_take}
use Rattle.row_laws.proofs.Settled.{other_rows}
use Rattle.row_laws.proofs.Units.{long_from}
use Rattle.row_laws.proofs.Whole.{whole-above, whole-rows, whole_scene}

-- ** Blocks

-- the scopes before a block are clear, and it stands behind them
record IsBehind (before : List (List Row)) (b : BlockTree) : Type 0 where
  scope : b.block.scope ≡ length before
  positive : 0 < length before
  standard : rows_at before 0 ≡ standard_rows
  clear : AreClear before
  few : AreFew before

-- the scopes that a block sees first are those before it
scene_same : (before : List (List Row)) (b : BlockTree) → b.block.scope ≡ length before → (s : ℕ) → rows_at (scene_of before b.block).tables s ≡ rows_at before s
scene_same before b at s = by_order (cases_order s b.block.scope)
  where
    by_order : (s ≡ b.block.scope) ⊎ ((s < b.block.scope) ⊎ (b.block.scope < s)) → rows_at (scene_of before b.block).tables s ≡ rows_at before s
    by_order (inl same) =
        ap (rows_at (scene_of before b.block).tables) same ∙ scene_empty before b.block (omega (arith, at)) ∙ sym (get_or_past before s [] (omega (arith, same, at)))
    by_order (inr (inl less)) = rows_before before b.block s (omega (arith, at)) less
    by_order (inr (inr more)) = rows_above before b.block s (omega (arith, at)) more ∙ sym (get_or_past before s [] (omega (arith, more, at)))

scene_clear : (before : List (List Row)) (b : BlockTree) → IsBehind before b → IsClearScene (scene_of before b.block)
scene_clear before b is =
    let at = is.scope in
    let positive = is.positive in
    record {
      room = scene_open before b.block (omega (arith, at));
      positive = omega (arith, at, positive);
      standard = scene_same before b at 0 ∙ is.standard;
      rows = same_clear before (scene_of before b.block).tables (scene_same before b at) is.clear;
    }

block_small : (names : ℕ) (source : Source) (before : List (List Row)) (b : BlockTree) → IsSoundBlock names source b → length (declare_block source before b).rows < 2 ^ 31
block_small names source before b sound = let few = sound.few in let e = block_counted source before b in let brought = block_few source before b in omega (arith, few, e, brought)

block_space : (names : ℕ) (source : Source) (before : List (List Row)) (b : BlockTree) → IsBehind before b → IsSoundBlock names source b → HasSpace (scene_of before b.block) (declare_block source before b).rows
block_space names source before b is sound =
    let at = is.scope in
    let none = ap length (scene_empty before b.block (omega (arith, at))) in
    let many = block_small names source before b sound in
    record {
      few = λ s. let few = is.few s in let e = ap length (scene_same before b at s) in omega (arith, few, e);
      own = omega (arith, none, many);
    }

-- the scene behind a block without diagnostic is clear
block_fine : (names : List (List ℕ)) (source : Source) (before : List (List Row)) (b : BlockTree) → IsBehind before b → HasSpace (scene_of before b.block) (declare_block source before b).rows
    → Each (IsReadItem names) (items_of b.tree) → (declare_block source before b).diags ≡ [] → IsClearScene (scene_with (scene_of before b.block) (declare_block source before b).rows)
unfolding declare_block
block_fine names source before b is space read none =
    let at = is.scope in
    (items_fine names b.tree (context_of source before b) b.tree.kind (first_cell (scene_of before b.block) b.tree.kind b.block.own) refl (scene_empty before b.block (omega (arith, at))) (scene_clear before b is) space read).clear none

-- the scopes behind a block
behind_same : (before : List (List Row)) (b : BlockTree) (made : List Row) → b.block.scope ≡ length before → (s : ℕ) → rows_at (before ++ made ∷ []) s ≡ rows_at (scene_with (scene_of before b.block) made).tables s
behind_same before b made at s = by_order (cases_order s b.block.scope)
  where
    scene : Scene
    scene = scene_of before b.block

    by_order : (s ≡ b.block.scope) ⊎ ((s < b.block.scope) ⊎ (b.block.scope < s)) → rows_at (before ++ made ∷ []) s ≡ rows_at (scene_with scene made).tables s
    by_order (inl same) =
        get_or_at before made [] [] s (omega (arith, same, at))
        ∙ sym (ap (rows_at (scene_with scene made).tables) same ∙ own-with scene made (scene_open before b.block (omega (arith, at))) ∙ ap (λ (rs : List Row). rs ++ made) (scene_empty before b.block (omega (arith, at))))
    by_order (inr (inl less)) =
        get_or_append_left before (made ∷ []) [] s (omega (arith, less, at))
        ∙ sym (other_rows scene made s (λ q. omega (arith, q, less)) ∙ scene_same before b at s)
    by_order (inr (inr more)) =
        let long = length-append before (made ∷ []) in
        get_or_past (before ++ made ∷ []) s [] (omega (arith, long, more, at))
        ∙ sym (other_rows scene made s (λ q. omega (arith, q, more)) ∙ rows_above before b.block s (omega (arith, at)) more)

few_behind : (before : List (List Row)) (made : List Row) → AreFew before → length made < 2 ^ 31 → AreFew (before ++ made ∷ [])
few_behind before made few many s = by_order (cases_order s (length before))
  where
    by_order : (s ≡ length before) ⊎ ((s < length before) ⊎ (length before < s)) → length (rows_at (before ++ made ∷ []) s) < 2 ^ 31
    by_order (inl same) = let e = ap length (get_or_at before made [] [] s (sym same)) in omega (arith, e, many)
    by_order (inr (inl less)) = let e = ap length (get_or_append_left before (made ∷ []) [] s less) in let k = few s in omega (arith, e, k)
    by_order (inr (inr more)) =
        let long = length-append before (made ∷ []) in
        let e = ap length (get_or_past (before ++ made ∷ []) s [] (omega (arith, long, more))) in
        omega (arith, e)

-- ** Units

-- what a block sees in the end are its own rows, and those before
seen_same : (all before : List (List Row)) (made : List Row) (b : Block) → b.scope ≡ length before → length before < length all → ((s : ℕ) → s < length (before ++ made ∷ []) → rows_at all s ≡ rows_at (before ++ made ∷ []) s)
    → (s : ℕ) → rows_at (whole_scene all b).tables s ≡ rows_at (before ++ made ∷ []) s
seen_same all before made b at there stay s = by_order (cases_order s b.scope)
  where
    long : length (before ++ made ∷ []) ≡ length before + 1
    long = let e = length-append before (made ∷ []) in omega (arith, e)

    by_order : (s ≡ b.scope) ⊎ ((s < b.scope) ⊎ (b.scope < s)) → rows_at (whole_scene all b).tables s ≡ rows_at (before ++ made ∷ []) s
    by_order (inl same) = whole-rows all b s (omega (arith, at, there)) (omega (arith, same)) ∙ stay s (omega (arith, long, at, same))
    by_order (inr (inl less)) = whole-rows all b s (omega (arith, at, there)) (omega (arith, less)) ∙ stay s (omega (arith, long, at, less))
    by_order (inr (inr more)) = whole-above all b s (omega (arith, at, there)) more ∙ sym (get_or_past (before ++ made ∷ []) s [] (omega (arith, long, at, more)))

-- what a block of the unit sees in the end is clear
abbrev SeesClear : Source → (all : List (List Row)) → BlockTree → Type 0
SeesClear source all b = AreClear (complete_context source all b.block).scene.tables

all_clear : (names : List (List ℕ)) (count : ℕ) (source : Source) (all : List (List Row)) (blocks : List BlockTree) (before : List (List Row)) → rows_from source before blocks ≡ all → AreConsecutive (length before) blocks → 0 < length before
    → rows_at before 0 ≡ standard_rows → AreClear before → AreFew before → Each (IsSoundBlock count source) blocks → Each (λ b. Each (IsReadItem names) (items_of b.tree)) blocks
    → EachBlock (λ ts b. (declare_block source ts b).diags ≡ []) source before blocks → EachBlock (λ ts b. SeesClear source all b) source before blocks
all_clear names count source all [] before e row positive standard clear few sound read none = tt
all_clear names count source all (b ∷ blocks) before e row positive standard clear few sound read none =
    let made = (declare_block source before b).rows in
    let next = length-append before (made ∷ []) in
    let one : length before + 1 ≡ length (before ++ made ∷ []) = omega (arith, next) in
    let is : IsBehind before b = record { scope = row.0; positive = positive; standard = standard; clear = clear; few = few } in
    let scene = block_fine names source before b is (block_space count source before b is sound.0) read.0 none.0 in
    let more : AreClear (before ++ made ∷ []) = same_clear (scene_with (scene_of before b.block) made).tables (before ++ made ∷ []) (behind_same before b made row.0) scene.rows in
    let long = long_from source (b ∷ blocks) before in
    let whole = ap length e in
    let seen = seen_same all before made b.block row.0 (omega (arith, long, whole)) (λ s h. sym (ap (λ (ts : List (List Row)). rows_at ts s) e) ∙ stays source blocks (before ++ made ∷ []) s h) in (
      same_clear (before ++ made ∷ []) (whole_scene all b.block).tables seen more,
      all_clear names count source all blocks (before ++ made ∷ []) e (subst (λ n. AreConsecutive n blocks) one row.1) (omega (arith, next)) (get_or_append_left before (made ∷ []) [] 0 positive ∙ standard) more
          (few_behind before made few (block_small count source before b sound.0)) sound.1 read.1 none.1,
    )

standard_few : AreFew (standard_rows ∷ [])
standard_few zero = omega arith
standard_few (suc s) = omega arith

pub unit_clear : (names : List (List ℕ)) (u : UnitTrees) → IsSoundUnit names u → Each (λ b. Each (IsReadItem names) (items_of b.tree)) (blocks_of u)
    → EachBlock (λ before b. (declare_block u.source before b).diags ≡ []) u.source (standard_rows ∷ []) (blocks_of u)
    → EachBlock (λ before b. AreClear (complete_context u.source (unit_rows u) b.block).scene.tables) u.source (standard_rows ∷ []) (blocks_of u)
unfolding unit_rows
unit_clear names u is read none =
    all_clear names (length names) u.source (unit_rows u) (blocks_of u) (standard_rows ∷ []) refl is.scopes (omega arith) refl standard_clear standard_few is.blocks read none

-- what holds of each block, whatever stands before it, holds of one of them
in_blocks : (P : BlockTree → Type 0) (source : Source) (blocks : List BlockTree) (before : List (List Row)) → EachBlock (λ ts b. P b) source before blocks → (b : BlockTree) → IsIn b blocks → P b
in_blocks P source [] before h b i = absurd i
in_blocks P source (x ∷ blocks) before h b (inl e) = subst P (sym e) h.0
in_blocks P source (x ∷ blocks) before h b (inr i) = in_blocks P source blocks (before ++ (declare_block source before x).rows ∷ []) h.1 b i

-- ** Headings

module _ (scene : Scene) (clear : HaveClear scene.tables) where
  abbrev IsSound : Parameter → Type 0
  IsSound q = is_broken scene q.typ ≡ false

  parameter_sound : (own : ℕ) (m : RowMeaning) → HasClear m → WhereKept (parameter_by own m) IsSound
  parameter_sound own (Param t v q) h = by_test (q == own)
    where
      by_test : (b : Bool) → WhereKept (if b then Some (record { typ = t; by_ref = v }) else None) IsSound
      by_test true = not_broken scene clear t h
      by_test false = tt
  parameter_sound own m h = tt

  more_sound : (o : Option Parameter) (qs : List Parameter) → WhereKept o IsSound → Each IsSound qs → Each IsSound (cons_option o qs)
  more_sound None qs h k = k
  more_sound (Some q) qs h k = (h, k)

  rows_sound : (own : ℕ) (rows : List Row) → Each (λ (r : Row). HasClear (row_meaning r)) rows → Each IsSound (filter_map (parameter_of own) rows)
  rows_sound own [] h = tt
  rows_sound own (r ∷ rows) h = more_sound (parameter_of own r) (filter_map (parameter_of own) rows) (parameter_sound own (row_meaning r) h.0) (rows_sound own rows h.1)

  scope_rows : (s : ℕ) → Each (λ (r : Row). HasClear (row_meaning r)) (rows_at scene.tables s)
  scope_rows s = each_got (λ (r : Row). HasClear (row_meaning r)) (rows_at scene.tables s) (clear s)

  between_sound : (own s from upto : ℕ) → Each IsSound (filter_map (parameter_of own) (rows_between scene s from upto))
  between_sound own s from upto =
      rows_sound own (rows_between scene s from upto)
      (each_take (λ (r : Row). HasClear (row_meaning r)) (upto - from) (drop from (rows_at scene.tables s)) (each_drop (λ (r : Row). HasClear (row_meaning r)) from (rows_at scene.tables s) (scope_rows s)))

  parameters_sound : (t : Place) (m : RowMeaning) → Each IsSound (parameters_by scene t m)
  parameters_sound t (ProcType r n first) = between_sound t.ordinal t.scope first t.ordinal
  parameters_sound t m = tt

  row_sound : (m : RowMeaning) → HasSoundParameters scene m
  row_sound (Proc t k s) = parameters_sound (stands_for scene t) (kind_of scene t)
  row_sound m = tt

  all_sound : (rows : List Row) → Each (λ (r : Row). HasSoundParameters scene (row_meaning r)) rows
  all_sound [] = tt
  all_sound (r ∷ rows) = (row_sound (row_meaning r), all_sound rows)

scope_sound : (u : UnitTrees) → EachBlock (λ before b. AreClear (complete_context u.source (unit_rows u) b.block).scene.tables) u.source (standard_rows ∷ []) (blocks_of u) → (s : ℕ) → AreSoundFor u s
scope_sound u clear s b there home =
    let scene = (complete_context u.source (unit_rows u) b.block).scene in
    all_sound scene (have_clear scene.tables (in_blocks (λ (q : BlockTree). AreClear (complete_context u.source (unit_rows u) q.block).scene.tables) u.source (blocks_of u) (standard_rows ∷ []) clear b there)) (rows_at (unit_rows u) s)

pub unit_headings : (names : List (List ℕ)) (u : UnitTrees) → IsSoundUnit names u → Each (λ b. Each (IsReadItem names) (items_of b.tree)) (blocks_of u)
    → EachBlock (λ before b. (declare_block u.source before b).diags ≡ []) u.source (standard_rows ∷ []) (blocks_of u) → HasSoundHeadings u
unit_headings names u is read none = by_own u.own
  where
    by_own : (o : Option ℕ) → WhereKept o (λ own. AreSoundFor u own × AreSoundFor u (home_of u))
    by_own None = tt
    by_own (Some own) = let clear = unit_clear names u is read none in (scope_sound u clear own, scope_sound u clear (home_of u))
