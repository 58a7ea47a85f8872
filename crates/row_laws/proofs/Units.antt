-- The finished rows of a unit keep to their ranges, block after block.
use Rattle.std.specs.Prelude.{◌≡◌, ℕ, zero, suc, ◌+◌, ◌^◌, ◌<◌, ◌≤◌, ◌⊎◌, List, [], ◌∷◌, ◌++◌, length, slice_get, slice_index_or, Option, Some, None}
use Rattle.std.proofs.Common.{ap, subst, sym, ◌∙◌, refl, inl, inr, arith}
use Rattle.std.proofs.lemmas.Bool.{cases_order}
use Rattle.std.proofs.lemmas.List.{length-append, get_or-set_other, get_or_append_left, get_or_at, get_or_past}
use Rattle.std.proofs.lemmas.Option.{get_or_from_slice_get, slice_get_within, slice_get_cases}
use Rattle.m2_base.proofs.SoundBlocks.{rows_above, rows_before}
use Rattle.m2_base.specs.Lists.{Each, WhereKept}
use Rattle.m2_base.specs.Trees.{Heading}
use Rattle.m2_base.specs.declared.outputs.HeadingNote.{HeadingNote}
use Rattle.m2_base.specs.declared.trees.declarations.StreamKind.{StreamKind}
use Rattle.m2_base.specs.Rows.{at_place, row_of, row_meaning, Fits, HasSmallOrdinals}
use Rattle.m2_base.specs.declared.rows.Place.{Place}
use Rattle.m2_base.specs.declared.rows.Row.{Row}
use Rattle.m2_base.specs.declared.rows.RowMeaning.{RowMeaning}
use Rattle.m2_base.specs.declared.rows.RowMeaning.TheVariants.{Broken, Proc, TypeName, Var}
use Rattle.m2_base.specs.declared.trees.declarations.StreamKind.TheVariants.{Main}
use Rattle.m2_base.specs.Standard.{standard_rows}
use Rattle.m2_base.specs.Tables.{rows_at}
use Rattle.m2_base.specs.Statics.Assignable.{is_open_kind}
use Rattle.m2_base.specs.Statics.BlockRows.{at_item, cells_after, context_of, declare_block, first_cell, scene_of}
use Rattle.m2_base.specs.Statics.Blocks.{BlockTree, GoesDown, UnitTrees, blocks_of, home_of}
use Rattle.m2_base.specs.Statics.Cells.{capped, most_cells}
use Rattle.m2_base.specs.Statics.Contexts.{Block, Scene, Source}
use Rattle.m2_base.specs.Statics.Declarations.{declare}
use Rattle.m2_base.specs.Statics.Effects.{BlockEffects}
use Rattle.m2_base.specs.Statics.FormedRows.{AreConsecutive, IsReady, IsSoundBlock}
use Rattle.m2_base.specs.Statics.HeadingRows.{own_sections_rows, placing}
use Rattle.m2_base.specs.Statics.Items.{Item, heading_item, items_of}
use Rattle.m2_base.specs.Statics.Layouts.{layout_of}
use Rattle.m2_base.specs.Statics.Makes.{Makes, scene_with}
use Rattle.m2_base.specs.Statics.ProcedureRows.{parameter_cells}
use Rattle.m2_base.specs.Statics.ProcedureTypes.{result_type}
use Rattle.m2_base.specs.Statics.Types.{meaning_at}
use Rattle.m2_base.specs.Statics.UnitNotes.{complete_context}
use Rattle.m2_base.specs.Statics.UnitRows.{rows_from, unit_rows}
use Rattle.m2_base.proofs.ChainLaws.{chains_down}
use Rattle.m2_base.proofs.EachLaws.{each_then}
use Rattle.m2_base.proofs.LayoutLaws.{block_counted as rows_counted, block_few}
use Rattle.m2_base.proofs.NoRepeats.{scene_empty}
use Rattle.m2_base.proofs.SceneLaws.{own_of, own-with}
use Rattle.m2_base.proofs.Sound.{Sound, sound-with}
use Rattle.m2_base.proofs.SoundUnits.{unit_right}
use Rattle.row_laws.proofs.Numbers.{Agrees}
use Rattle.row_laws.specs.Procedures.{IsDeclared, IsSeenAs, IsTypeOf, ProceduresAreDeclared}
use Rattle.row_laws.specs.Results.{BindsItsResult, bound_first}
use Rattle.row_laws.specs.RowRanges.{BlockInRange, CellsAreThere, EachBlock, EffectsInRange, HasOperands, IsBelow, IsCopyBelow, IsCopyInRange, IsSoundUnit, OwnCellsAreThere, RowsInRange}
use Rattle.row_laws.proofs.Declared.{block_declared}
use Rattle.row_laws.proofs.Signatures.{IsRawType, type_seen}
use Rattle.row_laws.proofs.Fitting.{IsFit, IsInModule, blocks_fit}
use Rattle.row_laws.proofs.Closed.{IsClosed, IsNamed, agrees_named}
use Rattle.row_laws.proofs.HeadingResults.{result_same}
use Rattle.row_laws.proofs.Later.{agree_each, agrees_later}
use Rattle.row_laws.proofs.MadeBy.{stays}
use Rattle.row_laws.proofs.Members.{each_at, each_in}
use Rattle.row_laws.proofs.OwnCells.{block_counted}
use Rattle.row_laws.proofs.Placing.{ArePlaced, IsCopyPlaced, IsPlaced, placed_more}
use Rattle.row_laws.proofs.PlacingItems.{Placed, block_more, block_placed}
use Rattle.row_laws.proofs.Scenes.{block_agrees, block_ready}
use Rattle.row_laws.proofs.Whole.{HasOffset, Whole, later_whole, operands, there_scope, whole-above, whole-length, whole-rows, whole_scene}

-- ** The rows of one block

placed_offset : (cells : ℕ) (m : RowMeaning) → IsPlaced cells m → HasOffset m
placed_offset cells (Var t mode o) h = h.0
placed_offset cells m h = tt

placed_below : (cells : ℕ) (m : RowMeaning) → cells ≤ most_cells → IsPlaced cells m → IsBelow cells m
placed_below cells (Var t mode o) few h = h.1 few
placed_below cells m few h = tt

-- the cells of a block's variables and of what is copied are there
block_cells : (m : Makes BlockEffects) → Placed m → CellsAreThere m.rows m.value
block_cells m h =
    record {
      variables = λ few. each_then (λ (r : Row). IsPlaced m.value.cell (row_meaning r)) (λ (r : Row). IsBelow m.value.cell (row_meaning r)) m.rows (λ r. placed_below m.value.cell (row_meaning r) few) h.placed;
      copies = λ few. each_then (IsCopyPlaced m.value.cell) (IsCopyBelow m.value.cell) m.value.prologue (λ c k. k.1 few) h.copied;
    }

block_effects : (m : Makes BlockEffects) → Placed m → EffectsInRange m.value
block_effects m h =
    record {
      cell = let few = h.few in omega (arith, few);
      copies = each_then (IsCopyPlaced m.value.cell) IsCopyInRange m.value.prologue (λ c k. k.0) h.copied;
    }

-- what holds of the types of declared procedures
declared_then : (P Q : Heading → Place → Type 0) (kind : StreamKind) (b : Block) (notes : List HeadingNote) (items : List Item) (m : RowMeaning) → ((h : Heading) (t : Place) → t.scope ≡ b.scope → P h t → Q h t)
    → IsDeclared P kind b notes items m → IsDeclared Q kind b notes items m
declared_then P Q kind b notes items (Proc t k s) f d = (d.0, d.1, d.2, d.3, d.4, d.5, f d.0 t d.5 d.6)
declared_then P Q kind b notes items m f d = tt

-- a block over the finished scopes before it, among all finished scopes of a unit
record IsAt (names : ℕ) (source : Source) (all before : List (List Row)) (b : BlockTree) : Type 0 where
  ready : IsReady names source before b
  own_before : WhereKept b.block.own (λ s. s < b.block.scope)
  there : b.block.scope < length all
  earlier : (q : ℕ) → q < b.block.scope → rows_at all q ≡ rows_at before q
  here : rows_at all b.block.scope ≡ (declare_block source before b).rows

module _ (names : ℕ) (source : Source) (own : Option ℕ) (home : ℕ) (all : List (List Row)) (whole : Whole names source own home all) where
  -- a block of the unit
  pub record Suits (b : Block) : Type 0 where
    pub in_module : IsInModule own home b
    pub positive : 0 < b.scope
    pub there : b.scope < length all

  abbrev pub Good : Block → RowMeaning → Type 0
  Good b m = Agrees (whole_scene all b) m × HasOffset m

  -- the rows of the scopes before this one are good for every block that sees them
  abbrev pub AreGood : ℕ → Type 0
  AreGood n = (s o : ℕ) (r : Row) → s < n → slice_get (rows_at all s) o ≡ Some r → (b : Block) → Suits b → s ≤ b.scope → Good b (row_meaning r)

  standard_good : (scene : Scene) → ((n : ℕ) → meaning_at scene (at_place 0 n) ≡ row_meaning (slice_index_or standard_rows n (row_of 0 0 Broken))) → Each (λ r. Agrees scene (row_meaning r) × HasOffset (row_meaning r)) standard_rows
  standard_good scene same = ((tt, tt), ((tt, tt), ((tt, tt), ((tt, tt), ((record { le = tt }, tt), ((tt, tt), ((tt, tt), ((tt, tt), ((tt, tt), ((tt, tt), ((tt, tt), ((h 0, tt), ((h 1, tt), ((h 2, tt), ((h 3, tt), ((h 5, tt), ((h 6, tt), ((tt, tt), ((tt, tt), ((tt, tt), ((tt, tt), ((tt, tt), ((tt, tt), ((tt, tt), ((tt, tt), ((tt, tt), ((tt, tt), ((tt, tt), ((tt, tt), ((tt, tt), ((tt, tt), ((tt, tt), ((tt, tt), ((tt, tt), ((tt, tt), ((tt, tt), ((tt, tt), tt)))))))))))))))))))))))))))))))))))))
    where
      h : (n : ℕ) → is_open_kind (meaning_at scene (at_place 0 n)) ≡ is_open_kind (row_meaning (slice_index_or standard_rows n (row_of 0 0 Broken)))
      h n = ap is_open_kind (same n)

  first_good : AreGood 1
  first_good zero o r h e b suits k =
      each_at (λ (x : Row). Agrees (whole_scene all b) (row_meaning x) × HasOffset (row_meaning x)) standard_rows
      (standard_good (whole_scene all b) (λ n. ap (λ (rs : List Row). row_meaning (slice_index_or rs n (row_of 0 0 Broken))) (whole-rows all b 0 suits.there (omega arith) ∙ whole.standard))) o r
      (subst (λ (rows : List Row). slice_get rows o ≡ Some r) whole.standard e)
  first_good (suc s) o r h e b suits k = absurd (omega (arith, h))

  -- the rows that the block makes, as they stand behind it
  behind_sound : (before : List (List Row)) (b : BlockTree) → IsAt names source all before b → Sound names (scene_with (scene_of before b.block) (declare_block source before b).rows)
  behind_sound before b is =
      let ready = block_ready names source before b is.ready is.own_before in
      sound-with ready.sound.scene ready.ok ready.room

  own_rows_are : (before : List (List Row)) (b : BlockTree) → IsAt names source all before b → own_of (scene_with (scene_of before b.block) (declare_block source before b).rows) ≡ (declare_block source before b).rows
  own_rows_are before b is =
      let rows = (declare_block source before b).rows in
      let ready = block_ready names source before b is.ready is.own_before in
      own-with (scene_of before b.block) rows ready.sound.scene.room ∙ ap (λ (own : List Row). own ++ rows) (scene_empty before b.block is.ready.before)

  behind_rows : (before : List (List Row)) (b : BlockTree) → IsAt names source all before b → (q : ℕ) → q ≤ b.block.scope
      → rows_at (scene_with (scene_of before b.block) (declare_block source before b).rows).tables q ≡ rows_at all q
  behind_rows before b is q h = by_order (cases_order q b.block.scope)
    where
      made : List Row
      made = (declare_block source before b).rows

      by_order : (q ≡ b.block.scope) ⊎ ((q < b.block.scope) ⊎ (b.block.scope < q)) → rows_at (scene_with (scene_of before b.block) (declare_block source before b).rows).tables q ≡ rows_at all q
      by_order (inl same) =
          ap (λ n. rows_at (scene_with (scene_of before b.block) (declare_block source before b).rows).tables n) same ∙ own_rows_are before b is ∙ sym is.here ∙ ap (rows_at all) (sym same)
      by_order (inr (inl less)) =
          get_or-set_other (scene_of before b.block).tables b.block.scope q (own_of (scene_of before b.block) ++ (declare_block source before b).rows) [] (λ e. omega (arith, e, less))
          ∙ rows_before before b.block q is.ready.before less ∙ sym (is.earlier q less)
      by_order (inr (inr more)) = absurd (omega (arith, h, more))

  -- no type's name in the scopes before a block is an open array's
  before_closed : (before : List (List Row)) (b : BlockTree) → IsAt names source all before b → IsFit own home b.block → AreGood b.block.scope → IsClosed (scene_of before b.block)
  before_closed before b is fit good s o r e = by_order (cases_order s b.block.scope)
    where
      scene : Scene
      scene = scene_of before b.block

      suits : Suits b.block
      suits = record { in_module = fit.in_module; positive = is.ready.positive; there = is.there }

      rows_same : (q : ℕ) → q < b.block.scope → rows_at scene.tables q ≡ rows_at all q
      rows_same q h = rows_before before b.block q is.ready.before h ∙ sym (is.earlier q h)

      by_meaning : (m : RowMeaning) → Fits names (at_place s o) m → HasSmallOrdinals m → o < 2 ^ 32 → s < b.block.scope → Agrees (whole_scene all b.block) m → IsNamed scene m
      by_meaning (TypeName t) fits small few less agrees =
          let low : t.scope < b.block.scope = omega (arith, fits, few, less) in
          ap (λ (rs : List Row). is_open_kind (row_meaning (slice_index_or rs t.ordinal (row_of 0 0 Broken)))) (rows_same t.scope low ∙ sym (whole-rows all b.block t.scope is.there (omega (arith, low)))) ∙ agrees
      by_meaning m fits small few less agrees = tt

      by_order : (s ≡ b.block.scope) ⊎ ((s < b.block.scope) ⊎ (b.block.scope < s)) → IsNamed scene (row_meaning r)
      by_order (inl same) =
          let none : slice_get [] o ≡ Some r = subst (λ (rs : List Row). slice_get rs o ≡ Some r) (ap (rows_at scene.tables) same ∙ scene_empty before b.block is.ready.before) e in
          absurd (cc)
      by_order (inr (inl less)) =
          let found : slice_get (rows_at all s) o ≡ Some r = subst (λ (rs : List Row). slice_get rs o ≡ Some r) (rows_same s less) e in
          let right = whole.right s o r found in
          by_meaning (row_meaning r) right.1.formed.fits right.1.small right.0 less (good s o r less found b.block suits (omega (arith, less))).0
      by_order (inr (inr more)) =
          let none : slice_get [] o ≡ Some r = subst (λ (rs : List Row). slice_get rs o ≡ Some r) (rows_above before b.block s is.ready.before more) e in
          absurd (cc)

  -- each row of a block is good for every block that sees it
  block_good : (before : List (List Row)) (b : BlockTree) → IsAt names source all before b → IsFit own home b.block → AreGood b.block.scope → (o : ℕ) (r : Row) → slice_get (rows_at all b.block.scope) o ≡ Some r
      → (later : Block) → Suits later → b.block.scope ≤ later.scope → Good later (row_meaning r)
  block_good before b is fit good o r e later suits k =
      let scene = scene_with (scene_of before b.block) (declare_block source before b).rows in
      let ready = block_ready names source before b is.ready is.own_before in
      let sound = behind_sound before b is in
      let found : slice_get (declare_block source before b).rows o ≡ Some r = subst (λ (rs : List Row). slice_get rs o ≡ Some r) is.here e in
      let own_found : slice_get (own_of scene) o ≡ Some r = subst (λ (rs : List Row). slice_get rs o ≡ Some r) (sym (own_rows_are before b is)) found in
      let within = slice_get_within (own_of scene) o r own_found in
      let ok = sound.own o r own_found in
      let agrees = each_at (λ (x : Row). Agrees scene (row_meaning x)) (declare_block source before b).rows
      (agree_each names (context_of source before b) (declare_block source before b).rows ready (block_agrees names source before b is.ready is.own_before (before_closed before b is fit good))) o r found in
      let placed = block_placed names source before b ready in
      let cells = (declare_block source before b).value.cell in (
        agrees_later names scene (whole_scene all later) sound
            (later_whole names source own home all whole scene sound (behind_rows before b is) fit.in_module later suits.in_module k suits.there)
            (at_place b.block.scope o) (omega (arith, within)) (row_meaning r) ok.formed.fits ok.small agrees,
        placed_offset cells (row_meaning r) (each_at (λ (x : Row). IsPlaced cells (row_meaning x)) (declare_block source before b).rows placed.placed o r found),
      )

  more_good : (before : List (List Row)) (b : BlockTree) → IsAt names source all before b → IsFit own home b.block → AreGood b.block.scope → AreGood (b.block.scope + 1)
  more_good before b is fit good s o r h e later suits k = by_order (cases_order s b.block.scope)
    where
      by_order : (s ≡ b.block.scope) ⊎ ((s < b.block.scope) ⊎ (b.block.scope < s)) → Good later (row_meaning r)
      by_order (inl same) =
          block_good before b is fit good o r (subst (λ n. slice_get (rows_at all n) o ≡ Some r) same e) later suits (subst (λ n. n ≤ later.scope) same k)
      by_order (inr (inl less)) = good s o r less e later suits k
      by_order (inr (inr more)) = absurd (omega (arith, h, more))

  -- ** Blocks in range

  in_range : (b : Block) → Suits b → AreGood (b.scope + 1) → RowsInRange (whole_scene all b)
  in_range b suits good =
      record {
        scopes = let e = whole-length all b suits.there in let t = suits.there in let short = whole.short in omega (arith, e, t, short);
        few = λ s. few_rows s (cases_order s b.scope);
        rows = λ s o r e. row_operands s o r e (cases_order s b.scope);
      }
    where
      few_rows : (s : ℕ) → (s ≡ b.scope) ⊎ ((s < b.scope) ⊎ (b.scope < s)) → length (rows_at (whole_scene all b).tables s) < 2 ^ 31
      few_rows s (inl same) = let e = ap length (whole-rows all b s suits.there (omega (arith, same))) in let few = whole.few s in omega (arith, e, few)
      few_rows s (inr (inl less)) = let e = ap length (whole-rows all b s suits.there (omega (arith, less))) in let few = whole.few s in omega (arith, e, few)
      few_rows s (inr (inr more)) = let e = ap length (whole-above all b s suits.there more) in omega (arith, e)

      -- the row at a place agrees, also where it is missing
      agrees_at : (q o : ℕ) (r : Row) → slice_get (rows_at (whole_scene all b).tables q) o ≡ Some r → (q ≡ b.scope) ⊎ ((q < b.scope) ⊎ (b.scope < q)) → Agrees (whole_scene all b) (row_meaning r)
      agrees_at q o r e (inl same) =
          (good q o r (omega (arith, same)) (subst (λ (rs : List Row). slice_get rs o ≡ Some r) (whole-rows all b q suits.there (omega (arith, same))) e) b suits (omega (arith, same))).0
      agrees_at q o r e (inr (inl less)) =
          (good q o r (omega (arith, less)) (subst (λ (rs : List Row). slice_get rs o ≡ Some r) (whole-rows all b q suits.there (omega (arith, less))) e) b suits (omega (arith, less))).0
      agrees_at q o r e (inr (inr more)) =
          let none : slice_get [] o ≡ Some r = subst (λ (rs : List Row). slice_get rs o ≡ Some r) (whole-above all b q suits.there more) e in
          absurd (cc)

      all_agree : (i : Place) → Agrees (whole_scene all b) (meaning_at (whole_scene all b) i)
      all_agree i = by_case ((slice_get_cases (rows_at (whole_scene all b).tables i.scope) i.ordinal).1)
        where
          by_case : ((x : Row) × (i.ordinal < length (rows_at (whole_scene all b).tables i.scope)) × (slice_get (rows_at (whole_scene all b).tables i.scope) i.ordinal ≡ Some x) × (slice_index_or (rows_at (whole_scene all b).tables i.scope) i.ordinal x ≡ x))
              ⊎ ((length (rows_at (whole_scene all b).tables i.scope) ≤ i.ordinal) × (slice_get (rows_at (whole_scene all b).tables i.scope) i.ordinal ≡ None))
              → Agrees (whole_scene all b) (meaning_at (whole_scene all b) i)
          by_case (inl h) =
              subst (λ (r : Row). Agrees (whole_scene all b) (row_meaning r)) (sym (get_or_from_slice_get (rows_at (whole_scene all b).tables i.scope) i.ordinal h.0 (row_of 0 0 Broken) h.2))
              (agrees_at i.scope i.ordinal h.0 h.2 (cases_order i.scope b.scope))
          by_case (inr h) =
              subst (λ (r : Row). Agrees (whole_scene all b) (row_meaning r)) (sym (get_or_past (rows_at (whole_scene all b).tables i.scope) i.ordinal (row_of 0 0 Broken) h.0)) tt

      at_scope : (s o : ℕ) (r : Row) → slice_get (rows_at (whole_scene all b).tables s) o ≡ Some r → s ≤ b.scope → HasOperands (whole_scene all b) (row_meaning r)
      at_scope s o r e h =
          let found : slice_get (rows_at all s) o ≡ Some r = subst (λ (rs : List Row). slice_get rs o ≡ Some r) (whole-rows all b s suits.there h) e in
          let right = whole.right s o r found in
          let row = good s o r (omega (arith, h)) found b suits h in
          let there = suits.there in
          let short = whole.short in
          operands names (whole_scene all b) (at_place s o) (omega (arith, h, there, short)) right.0 all_agree (row_meaning r) right.1.formed.fits right.1.small right.1.cells row.0 row.1

      row_operands : (s o : ℕ) (r : Row) → slice_get (rows_at (whole_scene all b).tables s) o ≡ Some r → (s ≡ b.scope) ⊎ ((s < b.scope) ⊎ (b.scope < s)) → HasOperands (whole_scene all b) (row_meaning r)
      row_operands s o r e (inl same) = at_scope s o r e (omega (arith, same))
      row_operands s o r e (inr (inl less)) = at_scope s o r e (omega (arith, less))
      row_operands s o r e (inr (inr more)) =
          let none : slice_get [] o ≡ Some r = subst (λ (rs : List Row). slice_get rs o ≡ Some r) (whole-above all b s suits.there more) e in
          absurd (cc)

  block_in_range : (before : List (List Row)) (b : BlockTree) → IsAt names source all before b → IsFit own home b.block → AreGood (b.block.scope + 1) → BlockInRange source before all b
  block_in_range before b is fit good =
      let ready = block_ready names source before b is.ready is.own_before in
      record {
        rows = in_range b.block (record { in_module = fit.in_module; positive = is.ready.positive; there = is.there }) good;
        effects = block_effects (declare_block source before b) (block_placed names source before b ready);
        level = let l = fit.level in let t = is.there in let short = whole.short in omega (arith, l, t, short);
        text = whole.text;
      }

  -- ** The own definition

  -- the cells that the rows of a definition module count, where they are seen
  pub record IsCounted (s : ℕ) : Type 0 where
    pub cells : ℕ
    pub placed : ArePlaced cells (rows_at all s)
    pub counted : (scene : Scene) → ((q : ℕ) → q ≤ s → rows_at scene.tables q ≡ rows_at all q) → cells_after scene 0 (rows_at all s) ≡ cells

  abbrev pub AreCounted : ℕ → Type 0
  AreCounted n = (s : ℕ) → s < n → s < home → IsCounted s

  first_counted : AreCounted 1
  first_counted zero h k = record {
    cells = 0;
    placed = subst (ArePlaced 0) (sym whole.standard) (tt, (tt, (tt, (tt, (tt, (tt, (tt, (tt, (tt, (tt, (tt, (tt, (tt, (tt, (tt, (tt, (tt, (tt, (tt, (tt, (tt, (tt, (tt, (tt, (tt, (tt, (tt, (tt, (tt, (tt, (tt, (tt, (tt, (tt, (tt, (tt, (tt, tt)))))))))))))))))))))))))))))))))))));
    counted = λ scene same. ap (cells_after scene 0) whole.standard;
  }
  first_counted (suc s) h k = absurd (omega (arith, h))

  block_is_counted : (before : List (List Row)) (b : BlockTree) → IsAt names source all before b → IsFit own home b.block → (b.block.scope < home → b.tree.heading ≡ None) → b.block.scope < home → IsCounted b.block.scope
  block_is_counted before b is fit headed low =
      let ready = block_ready names source before b is.ready is.own_before in
      let m = declare_block source before b in
      let behind = scene_with (scene_of before b.block) m.rows in
      let sound = behind_sound before b is in
      record {
        cells = m.value.cell;
        placed = subst (ArePlaced m.value.cell) (sym is.here) (block_placed names source before b ready).placed;
        counted = λ scene same. ap (cells_after scene 0) is.here
            ∙ block_counted names scene source before b is.ready.items ready (own_none fit.in_module) (headed low)
            (λ t there. let l = there_scope names source own home all whole behind sound t there in
            ap (λ (rs : List Row). row_meaning (slice_index_or rs t.ordinal (row_of 0 0 Broken))) (same t.scope l ∙ sym (behind_rows before b is t.scope l)));
      }
    where
      own_none : IsInModule own home b.block → b.block.own ≡ None
      own_none (inl d) = d.0
      own_none (inr m) = let x = m.2 in absurd (omega (arith, x, low))

  more_counted : (before : List (List Row)) (b : BlockTree) → IsAt names source all before b → IsFit own home b.block → (b.block.scope < home → b.tree.heading ≡ None) → AreCounted b.block.scope → AreCounted (b.block.scope + 1)
  more_counted before b is fit headed counted s h k = by_order (cases_order s b.block.scope)
    where
      by_order : (s ≡ b.block.scope) ⊎ ((s < b.block.scope) ⊎ (b.block.scope < s)) → IsCounted s
      by_order (inl same) = subst IsCounted (sym same) (block_is_counted before b is fit headed (omega (arith, same, k)))
      by_order (inr (inl less)) = counted s less k
      by_order (inr (inr more)) = absurd (omega (arith, h, more))

  -- the cells of the own definition come first
  own_cells : (before : List (List Row)) (b : BlockTree) → IsAt names source all before b → IsFit own home b.block → AreCounted b.block.scope → OwnCellsAreThere all b (declare_block source before b).value
  own_cells before b is fit counted s kind none own_is =
      let ready = block_ready names source before b is.ready is.own_before in
      let m = declare_block source before b in
      let scene = scene_of before b.block in
      let low : s < home = in_home fit.in_module in
      let lower : s < b.block.scope = subst (λ (o : Option ℕ). WhereKept o (λ q. q < b.block.scope)) own_is is.own_before in
      let count = counted s lower low in
      let same : (q : ℕ) → q ≤ s → rows_at scene.tables q ≡ rows_at all q = λ q h.
      rows_before before b.block q is.ready.before (omega (arith, h, lower)) ∙ sym (is.earlier q (omega (arith, h, lower))) in
      let first : first_cell scene b.tree.kind b.block.own ≡ count.cells =
      ap (λ k. first_cell scene k b.block.own) kind ∙ ap (first_cell scene Main) own_is ∙ ap (cells_after scene 0) (same s (omega arith)) ∙ count.counted scene same in
      let more = block_more names source before b ready none in
      let up : count.cells ≤ m.value.cell = omega (arith, first, more) in
      record {
        variables = λ few. each_then (λ (r : Row). IsPlaced count.cells (row_meaning r)) (λ (r : Row). IsBelow m.value.cell (row_meaning r)) (rows_at all s)
            (λ r p. placed_below m.value.cell (row_meaning r) few (placed_more count.cells m.value.cell (row_meaning r) up p)) count.placed;
        copies = (block_cells m (block_placed names source before b ready)).copies;
      }
    where
      in_home : IsInModule own home b.block → s < home
      in_home (inl d) = let not : None ≡ Some s = sym d.0 ∙ own_is in absurd (cc)
      in_home (inr m) = subst (λ (o : Option ℕ). WhereKept o (λ q. q < home)) (sym m.0 ∙ own_is) whole.own_before

  -- ** Blocks

  -- each row of a procedure is that of an item, with its type where the block ends
  abbrev pub AreRawly : List (List Row) → BlockTree → Type 0
  AreRawly before b = Each (λ r. IsDeclared (IsRawType (scene_with (scene_of before b.block) (declare_block source before b).rows)) b.tree.kind b.block (declare_block source before b).value.headings (items_of b.tree) (row_meaning r))
      (declare_block source before b).rows

  -- what holds of a block
  abbrev pub Holds : List (List Row) → BlockTree → Type 0
  Holds before b = BlockInRange source before all b × CellsAreThere (declare_block source before b).rows (declare_block source before b).value × OwnCellsAreThere all b (declare_block source before b).value
      × AreRawly before b

  -- the finished scopes before a block stay
  before_stays : (blocks : List BlockTree) (before : List (List Row)) (q : ℕ) → q < length before → rows_at (rows_from source before blocks) q ≡ rows_at before q
  before_stays [] before q h = refl
  before_stays (b ∷ blocks) before q h =
      let made = (declare_block source before b).rows in
      let next = length-append before (made ∷ []) in
      before_stays blocks (before ++ made ∷ []) q (omega (arith, next, h)) ∙ get_or_append_left before (made ∷ []) [] q h

  long_enough : (blocks : List BlockTree) (before : List (List Row)) → length before ≤ length (rows_from source before blocks)
  long_enough [] before = omega arith
  long_enough (b ∷ blocks) before =
      let made = (declare_block source before b).rows in
      let next = length-append before (made ∷ []) in
      let rest = long_enough blocks (before ++ made ∷ []) in
      omega (arith, next, rest)

  is_at : (b : BlockTree) (blocks : List BlockTree) (before : List (List Row)) → rows_from source (before ++ (declare_block source before b).rows ∷ []) blocks ≡ all → b.block.scope ≡ length before → 0 < length before
      → IsSoundBlock names source b → IsFit own home b.block → IsAt names source all before b
  is_at b blocks before e same positive good fit =
      let made = (declare_block source before b).rows in
      let next = length-append before (made ∷ []) in
      let long = long_enough blocks (before ++ made ∷ []) in
      let longer = ap length e in
      let earlier : (q : ℕ) → q < b.block.scope → rows_at all q ≡ rows_at before q = λ q h.
      ap (λ ts. rows_at ts q) (sym e) ∙ before_stays blocks (before ++ made ∷ []) q (omega (arith, next, h, same)) ∙ get_or_append_left before (made ∷ []) [] q (omega (arith, h, same)) in
      record {
        ready = record {
          some_names = whole.some;
          few_names = whole.few_names;
          positive = omega (arith, same, positive);
          before = omega (arith, same);
          standard = sym (earlier 0 (omega (arith, same, positive))) ∙ whole.standard;
          right = λ s o r h found. whole.right s o r (subst (λ (rs : List Row). slice_get rs o ≡ Some r) (sym (earlier s h)) found);
          few = good.few;
          short = whole.text.short;
          bytes = whole.text.bytes;
          items = good.items;
          imports = good.imports;
        };
        own_before = own_lower b.block.own refl fit.in_module;
        there = omega (arith, long, longer, next, same);
        earlier = earlier;
        here = ap (λ ts. rows_at ts b.block.scope) (sym e) ∙ before_stays blocks (before ++ made ∷ []) b.block.scope (omega (arith, next, same)) ∙ get_or_at before made [] [] b.block.scope (sym same);
      }
    where
      own_lower : (o : Option ℕ) → b.block.own ≡ o → IsInModule own home b.block → WhereKept o (λ s. s < b.block.scope)
      own_lower None o fits = tt
      own_lower (Some s) o (inl d) = let none : None ≡ Some s = sym d.0 ∙ o in absurd (cc)
      own_lower (Some s) o (inr m) =
          let is : own ≡ Some s = sym m.0 ∙ o in
          let lower : s < home = subst (λ (x : Option ℕ). WhereKept x (λ o. o < home)) is whole.own_before in
          let behind = m.2 in
          omega (arith, lower, behind)

  pub each_block : (blocks : List BlockTree) (before : List (List Row)) → rows_from source before blocks ≡ all → AreConsecutive (length before) blocks → 0 < length before → Each (IsSoundBlock names source) blocks
      → Each (λ b. IsFit own home b.block) blocks → Each (λ b. b.block.scope < home → b.tree.heading ≡ None) blocks → AreGood (length before) → AreCounted (length before) → EachBlock Holds source before blocks
  each_block [] before e row positive good fits headed rows_good counted = tt
  each_block (b ∷ blocks) before e row positive good fits headed rows_good counted =
      let made = (declare_block source before b).rows in
      let same = row.0 in
      let next = length-append before (made ∷ []) in
      let one : length before + 1 ≡ length (before ++ made ∷ []) = omega (arith, next) in
      let is = is_at b blocks before e same positive good.0 fits.0 in
      let ready = block_ready names source before b is.ready is.own_before in
      let good_before : AreGood b.block.scope = subst AreGood (sym same) rows_good in
      let shut = before_closed before b is fits.0 good_before in
      let better : AreGood (b.block.scope + 1) = more_good before b is fits.0 good_before in
      let counts : AreCounted b.block.scope = subst AreCounted (sym same) counted in (
        (
          block_in_range before b is fits.0 better,
          block_cells (declare_block source before b) (block_placed names source before b ready),
          own_cells before b is fits.0 counts,
          block_declared names source before b is.ready.before ready (block_agrees names source before b is.ready is.own_before shut) shut,
        ),
        each_block blocks (before ++ made ∷ []) e (subst (λ n. AreConsecutive n blocks) one row.1) (omega (arith, next)) good.1 fits.1 headed.1
            (subst AreGood (ap (λ n. n + 1) same ∙ one) better) (subst AreCounted (ap (λ n. n + 1) same ∙ one) (more_counted before b is fits.0 headed.0 counts)),
      )

  pub all_blocks : (blocks : List BlockTree) → rows_from source (standard_rows ∷ []) blocks ≡ all → AreConsecutive 1 blocks → Each (IsSoundBlock names source) blocks → Each (λ b. IsFit own home b.block) blocks
      → Each (λ b. b.block.scope < home → b.tree.heading ≡ None) blocks → EachBlock Holds source (standard_rows ∷ []) blocks
  all_blocks blocks e row good fits headed = each_block blocks (standard_rows ∷ []) e row (omega arith) good fits headed first_good first_counted

  -- ** Procedures

  last_good : (blocks : List BlockTree) (before : List (List Row)) → rows_from source before blocks ≡ all → AreConsecutive (length before) blocks → 0 < length before → Each (IsSoundBlock names source) blocks
      → Each (λ b. IsFit own home b.block) blocks → AreGood (length before) → AreGood (length all)
  last_good [] before e row positive good fits rows_good = subst AreGood (ap length e) rows_good
  last_good (b ∷ blocks) before e row positive good fits rows_good =
      let made = (declare_block source before b).rows in
      let same = row.0 in
      let next = length-append before (made ∷ []) in
      let one : length before + 1 ≡ length (before ++ made ∷ []) = omega (arith, next) in
      let is = is_at b blocks before e same positive good.0 fits.0 in
      let better = more_good before b is fits.0 (subst AreGood (sym same) rows_good) in
      last_good blocks (before ++ made ∷ []) e (subst (λ n. AreConsecutive n blocks) one row.1) (omega (arith, next)) good.1 fits.1 (subst AreGood (ap (λ n. n + 1) same ∙ one) better)

  all_suit : (blocks : List BlockTree) (before : List (List Row)) → rows_from source before blocks ≡ all → AreConsecutive (length before) blocks → 0 < length before → Each (IsSoundBlock names source) blocks
      → Each (λ b. IsFit own home b.block) blocks → Each (λ b. Suits b.block) blocks
  all_suit [] before e row positive good fits = tt
  all_suit (b ∷ blocks) before e row positive good fits =
      let made = (declare_block source before b).rows in
      let next = length-append before (made ∷ []) in
      let one : length before + 1 ≡ length (before ++ made ∷ []) = omega (arith, next) in
      let is = is_at b blocks before e row.0 positive good.0 fits.0 in (
        record { in_module = fits.0.in_module; positive = is.ready.positive; there = is.there },
        all_suit blocks (before ++ made ∷ []) e (subst (λ n. AreConsecutive n blocks) one row.1) (omega (arith, next)) good.1 fits.1,
      )

  whole_closed : AreGood (length all) → (b : Block) → Suits b → IsClosed (whole_scene all b)
  whole_closed good b suits s o r e = by_order (cases_order s b.scope)
    where
      at_scope : s ≤ b.scope → IsNamed (whole_scene all b) (row_meaning r)
      at_scope h =
          let there = suits.there in
          let found : slice_get (rows_at all s) o ≡ Some r = subst (λ (rs : List Row). slice_get rs o ≡ Some r) (whole-rows all b s suits.there h) e in
          agrees_named (whole_scene all b) (row_meaning r) (good s o r (omega (arith, h, there)) found b suits h).0

      by_order : (s ≡ b.scope) ⊎ ((s < b.scope) ⊎ (b.scope < s)) → IsNamed (whole_scene all b) (row_meaning r)
      by_order (inl same) = at_scope (omega (arith, same))
      by_order (inr (inl less)) = at_scope (omega (arith, less))
      by_order (inr (inr more)) =
          let none : slice_get [] o ≡ Some r = subst (λ (rs : List Row). slice_get rs o ≡ Some r) (whole-above all b s suits.there more) e in
          absurd (cc)

  -- the type of a block's procedure in each block that sees it
  abbrev pub IsSeenIn : Block → Heading → Place → Type 0
  IsSeenIn b h t = (later : Block) → Suits later → b.scope ≤ later.scope → IsTypeOf (whole_scene all later) h t

  abbrev pub AreSeen : List (List Row) → BlockTree → Type 0
  AreSeen before b = Each (λ r. IsDeclared (IsSeenIn b.block) b.tree.kind b.block (declare_block source before b).value.headings (items_of b.tree) (row_meaning r)) (declare_block source before b).rows

  block_seen : (before : List (List Row)) (b : BlockTree) → IsAt names source all before b → IsFit own home b.block → AreGood (length all) → AreRawly before b → AreSeen before b
  block_seen before b is fit good raw =
      let behind = scene_with (scene_of before b.block) (declare_block source before b).rows in
      let notes = (declare_block source before b).value.headings in
      let items = items_of b.tree in
      each_then (λ (r : Row). IsDeclared (IsRawType behind) b.tree.kind b.block notes items (row_meaning r)) (λ (r : Row). IsDeclared (IsSeenIn b.block) b.tree.kind b.block notes items (row_meaning r))
      (declare_block source before b).rows
      (λ r. declared_then (IsRawType behind) (IsSeenIn b.block) b.tree.kind b.block notes items (row_meaning r)
      (λ h t at raw_type later suits k.
      let sees = later_whole names source own home all whole behind (behind_sound before b is) (behind_rows before b is) fit.in_module later suits.in_module k suits.there in
      type_seen behind (whole_scene all later) (whole_closed good later suits) (λ u there. ap row_meaning (sees.rows_same u there)) h t
      (whole-rows all later t.scope suits.there (omega (arith, at, k)) ∙ sym (behind_rows before b is t.scope (omega (arith, at)))) raw_type)) raw

  each_seen : (blocks : List BlockTree) (before : List (List Row)) → rows_from source before blocks ≡ all → AreConsecutive (length before) blocks → 0 < length before → Each (IsSoundBlock names source) blocks
      → Each (λ b. IsFit own home b.block) blocks → AreGood (length all) → EachBlock Holds source before blocks → EachBlock AreSeen source before blocks
  each_seen [] before e row positive good fits last holds = tt
  each_seen (b ∷ blocks) before e row positive good fits last holds =
      let made = (declare_block source before b).rows in
      let next = length-append before (made ∷ []) in
      let one : length before + 1 ≡ length (before ++ made ∷ []) = omega (arith, next) in
      let is = is_at b blocks before e row.0 positive good.0 fits.0 in (
        block_seen before b is fits.0 last holds.0.3,
        each_seen blocks (before ++ made ∷ []) e (subst (λ n. AreConsecutive n blocks) one row.1) (omega (arith, next)) good.1 fits.1 last holds.1,
      )

  pub all_seen : (blocks : List BlockTree) → rows_from source (standard_rows ∷ []) blocks ≡ all → AreConsecutive 1 blocks → Each (IsSoundBlock names source) blocks → Each (λ b. IsFit own home b.block) blocks
      → EachBlock Holds source (standard_rows ∷ []) blocks → EachBlock AreSeen source (standard_rows ∷ []) blocks × Each (λ b. Suits b.block) blocks
  all_seen blocks e row good fits holds = (
    each_seen blocks (standard_rows ∷ []) e row (omega arith) good fits (last_good blocks (standard_rows ∷ []) e row (omega arith) good fits first_good) holds,
    all_suit blocks (standard_rows ∷ []) e row (omega arith) good fits,
  )

  -- ** The results of headings

  block_result : (before : List (List Row)) (b : BlockTree) → IsAt names source all before b → IsFit own home b.block → GoesDown b → home < b.block.scope → (h : Heading) (cell : ℕ)
      → (declare (at_item (context_of source before b) 0) b.tree.kind (heading_item h) cell).value.result ≡ bound_first (complete_context source all b.block) b.tree h
  block_result before b is fit down behind h cell = first
    where
      t : List (List Row)
      t = (scene_of before b.block).tables

      sections : List Row
      sections = (own_sections_rows (at_item (context_of source before b) 0) (placing 0 (capped (parameter_cells h.sections)) []) h.sections).rows

      in_module : IsInModule own home b.block → b.block.home < b.block.scope
      in_module (inl d) = let e = d.1 in absurd (omega (arith, e, behind))
      in_module (inr m) = let e = m.1 in omega (arith, e, behind)

      made_same : (s : ℕ) → s < b.block.scope → rows_at (scene_with (scene_of before b.block) sections).tables s ≡ rows_at t s
      made_same s k = get_or-set_other t b.block.scope s (own_of (scene_of before b.block) ++ sections) [] (λ e. omega (arith, e, k))

      whole_same : (s : ℕ) → s < b.block.scope → rows_at (whole_scene all b.block).tables s ≡ rows_at t s
      whole_same s k = whole-rows all b.block s is.there (omega (arith, k)) ∙ is.earlier s k ∙ sym (rows_before before b.block s is.ready.before k)

      bound : (u : List (List Row)) → ((s : ℕ) → s < b.block.scope → rows_at u s ≡ rows_at t s)
          → (result_type (record { source = source; scene = record { block = b.block; tables = u }; layout = layout_of b.tree; item = Some 0 }) h.result).value
          ≡ (result_type (record { source = source; scene = record { block = b.block; tables = t }; layout = layout_of b.tree; item = Some 0 }) h.result).value
      bound u same =
          let ready = block_ready names source before b is.ready is.own_before in
          result_same names source b.block (layout_of b.tree) t u ready.sound.scene same down (in_module fit.in_module) is.own_before h.result

      first : (declare (at_item (context_of source before b) 0) b.tree.kind (heading_item h) cell).value.result ≡ bound_first (complete_context source all b.block) b.tree h
      first = bound (scene_with (scene_of before b.block) sections).tables made_same ∙ sym (bound (whole_scene all b.block).tables whole_same)

  pub each_result : (blocks : List BlockTree) (before : List (List Row)) → rows_from source before blocks ≡ all → AreConsecutive (length before) blocks → 0 < length before → Each (IsSoundBlock names source) blocks
      → Each (λ b. IsFit own home b.block) blocks → Each GoesDown blocks
      → EachBlock (λ before b. home < b.block.scope → (h : Heading) (cell : ℕ) → (declare (at_item (context_of source before b) 0) b.tree.kind (heading_item h) cell).value.result ≡ bound_first (complete_context source all b.block) b.tree h) source before blocks
  each_result [] before e row positive good fits down = tt
  each_result (b ∷ blocks) before e row positive good fits down =
      let made = (declare_block source before b).rows in
      let next = length-append before (made ∷ []) in
      let one : length before + 1 ≡ length (before ++ made ∷ []) = omega (arith, next) in
      let is = is_at b blocks before e row.0 positive good.0 fits.0 in (
        block_result before b is fits.0 down.0,
        each_result blocks (before ++ made ∷ []) e (subst (λ n. AreConsecutive n blocks) one row.1) (omega (arith, next)) good.1 fits.1 down.1,
      )

-- ** Units

few_from : (names : ℕ) (source : Source) (blocks : List BlockTree) (before : List (List Row)) → Each (IsSoundBlock names source) blocks → ((s : ℕ) → length (rows_at before s) < 2 ^ 31)
    → (s : ℕ) → length (rows_at (rows_from source before blocks) s) < 2 ^ 31
few_from names source [] before good few = few
few_from names source (b ∷ blocks) before good few =
    few_from names source blocks (before ++ (declare_block source before b).rows ∷ []) good.1 (λ s. by_order s (cases_order s (length before)))
  where
    many : length (declare_block source before b).rows < 2 ^ 31
    many = let e = rows_counted source before b in let brought = block_few source before b in let g = good.0.few in omega (arith, e, brought, g)

    by_order : (s : ℕ) → (s ≡ length before) ⊎ ((s < length before) ⊎ (length before < s)) → length (rows_at (before ++ (declare_block source before b).rows ∷ []) s) < 2 ^ 31
    by_order s (inl same) = let e = ap length (get_or_at before (declare_block source before b).rows [] [] s (sym same)) in omega (arith, e, many)
    by_order s (inr (inl less)) = let e = ap length (get_or_append_left before ((declare_block source before b).rows ∷ []) [] s less) in let k = few s in omega (arith, e, k)
    by_order s (inr (inr more)) =
        let f = length-append before ((declare_block source before b).rows ∷ []) in
        let e = ap length (get_or_past (before ++ (declare_block source before b).rows ∷ []) s [] (omega (arith, f, more))) in
        omega (arith, e)

pub long_from : (source : Source) (blocks : List BlockTree) (before : List (List Row)) → length (rows_from source before blocks) ≡ length before + length blocks
long_from source [] before = omega arith
long_from source (b ∷ blocks) before =
    let f = length-append before ((declare_block source before b).rows ∷ []) in
    let rest = long_from source blocks (before ++ (declare_block source before b).rows ∷ []) in
    omega (arith, f, rest)

standard_few : (s : ℕ) → length (rows_at (standard_rows ∷ []) s) < 2 ^ 31
standard_few zero = omega arith
standard_few (suc s) = omega arith

pub unit_whole : (names : List (List ℕ)) (u : UnitTrees) → IsSoundUnit names u → Whole (length names) u.source u.own (home_of u) (unit_rows u)
unfolding unit_rows
unit_whole names u is =
    record {
      some = is.some;
      few_names = is.few;
      text = is.text;
      standard = stays u.source (blocks_of u) (standard_rows ∷ []) 0 (omega arith);
      right = unit_right names u is.standard is.some is.few is.text is.scopes is.blocks;
      short = let e = long_from u.source (blocks_of u) (standard_rows ∷ []) in let n = is.count in omega (arith, e, n);
      few = few_from (length names) u.source (blocks_of u) (standard_rows ∷ []) is.blocks standard_few;
      own_before = is.own;
    }

-- what holds of each block of a unit
unit_holds : (names : List (List ℕ)) (u : UnitTrees) (is : IsSoundUnit names u)
    → EachBlock (Holds (length names) u.source u.own (home_of u) (unit_rows u) (unit_whole names u is)) u.source (standard_rows ∷ []) (blocks_of u)
unfolding unit_rows
unit_holds names u is =
    all_blocks (length names) u.source u.own (home_of u) (unit_rows u) (unit_whole names u is) (blocks_of u) refl is.scopes is.blocks (blocks_fit u) is.headings

unit_seen : (names : List (List ℕ)) (u : UnitTrees) (is : IsSoundUnit names u)
    → (let whole = unit_whole names u is in
    EachBlock (AreSeen (length names) u.source u.own (home_of u) (unit_rows u) whole) u.source (standard_rows ∷ []) (blocks_of u) × Each (λ b. Suits (length names) u.source u.own (home_of u) (unit_rows u) whole b.block) (blocks_of u))
unfolding unit_rows
unit_seen names u is =
    all_seen (length names) u.source u.own (home_of u) (unit_rows u) (unit_whole names u is) (blocks_of u) refl is.scopes is.blocks (blocks_fit u) (unit_holds names u is)

pub each_block_then : (P Q : List (List Row) → BlockTree → Type 0) (source : Source) (blocks : List BlockTree) (before : List (List Row)) → ((ts : List (List Row)) (b : BlockTree) → P ts b → Q ts b)
    → EachBlock P source before blocks → EachBlock Q source before blocks
each_block_then P Q source [] before f h = tt
each_block_then P Q source (b ∷ blocks) before f h = (f before b h.0, each_block_then P Q source blocks (before ++ (declare_block source before b).rows ∷ []) f h.1)

-- what follows with what holds of the blocks themselves
pub each_block_with : (P Q : List (List Row) → BlockTree → Type 0) (R : BlockTree → Type 0) → ((before : List (List Row)) (b : BlockTree) → P before b → R b → Q before b)
    → (source : Source) (before : List (List Row)) (blocks : List BlockTree) → EachBlock P source before blocks → Each R blocks → EachBlock Q source before blocks
each_block_with P Q R f source before [] g h = tt
each_block_with P Q R f source before (b ∷ blocks) g h =
    (f before b g.0 h.0, each_block_with P Q R f source (before ++ (declare_block source before b).rows ∷ []) blocks g.1 h.1)

pub unit_in_range : (names : List (List ℕ)) (u : UnitTrees) → IsSoundUnit names u → EachBlock (λ before b. BlockInRange u.source before (unit_rows u) b) u.source (standard_rows ∷ []) (blocks_of u)
unit_in_range names u is = each_block_then _ (λ before b. BlockInRange u.source before (unit_rows u) b) u.source (blocks_of u) (standard_rows ∷ []) (λ ts b h. h.0) (unit_holds names u is)

pub unit_cells : (names : List (List ℕ)) (u : UnitTrees) → IsSoundUnit names u
    → EachBlock (λ before b. CellsAreThere (declare_block u.source before b).rows (declare_block u.source before b).value) u.source (standard_rows ∷ []) (blocks_of u)
unit_cells names u is =
    each_block_then _ (λ before b. CellsAreThere (declare_block u.source before b).rows (declare_block u.source before b).value) u.source (blocks_of u) (standard_rows ∷ []) (λ ts b h. h.1) (unit_holds names u is)

pub unit_own_cells : (names : List (List ℕ)) (u : UnitTrees) → IsSoundUnit names u
    → EachBlock (λ before b. OwnCellsAreThere (unit_rows u) b (declare_block u.source before b).value) u.source (standard_rows ∷ []) (blocks_of u)
unit_own_cells names u is =
    each_block_then _ (λ before b. OwnCellsAreThere (unit_rows u) b (declare_block u.source before b).value) u.source (blocks_of u) (standard_rows ∷ []) (λ ts b h. h.2) (unit_holds names u is)

pub unit_declared : (names : List (List ℕ)) (u : UnitTrees) → IsSoundUnit names u → EachBlock (λ before b. ProceduresAreDeclared u b (declare_block u.source before b)) u.source (standard_rows ∷ []) (blocks_of u)
unit_declared names u is =
    let seen = unit_seen names u is in
    each_block_then _ (λ before b. ProceduresAreDeclared u b (declare_block u.source before b)) u.source (blocks_of u) (standard_rows ∷ [])
    (λ ts b h. each_then _ (λ (r : Row). IsDeclared (IsSeenAs u b) b.tree.kind b.block (declare_block u.source ts b).value.headings (items_of b.tree) (row_meaning r)) (declare_block u.source ts b).rows
    (λ r. declared_then _ (IsSeenAs u b) b.tree.kind b.block (declare_block u.source ts b).value.headings (items_of b.tree) (row_meaning r)
    (λ g t at q later there k. q later.block (each_in _ (blocks_of u) later seen.1 there) k)) h) seen.0

pub unit_results : (names : List (List ℕ)) (u : UnitTrees) → IsSoundUnit names u → EachBlock (BindsItsResult u) u.source (standard_rows ∷ []) (blocks_of u)
unfolding unit_rows
unit_results names u is =
    each_result (length names) u.source u.own (home_of u) (unit_rows u) (unit_whole names u is) (blocks_of u) (standard_rows ∷ []) refl is.scopes (omega arith) is.blocks (blocks_fit u) (chains_down u is.own)
