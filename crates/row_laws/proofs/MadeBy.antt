-- Each finished scope behind the standard one is that of a block of the unit, of which holds what holds of each block.
use Rattle.std.specs.Prelude.{◌≡◌, ℕ, ◌+◌, ◌<◌, ◌≤◌, ◌⊎◌, List, [], ◌∷◌, ◌++◌, length}
use Rattle.std.proofs.Common.{subst, sym, ◌∙◌, refl, inl, inr, arith}
use Rattle.std.proofs.lemmas.Bool.{cases_order}
use Rattle.std.proofs.lemmas.List.{length-append, get_or_append_left, get_or_at}
use Rattle.m2_base.specs.Lists.{IsIn}
use Rattle.m2_base.specs.declared.rows.Row.{Row}
use Rattle.m2_base.specs.Standard.{standard_rows}
use Rattle.m2_base.specs.Tables.{rows_at}
use Rattle.m2_base.specs.Statics.BlockRows.{declare_block}
use Rattle.m2_base.specs.Statics.Blocks.{BlockTree, UnitTrees, blocks_of}
use Rattle.m2_base.specs.Statics.Contexts.{Source}
use Rattle.m2_base.specs.Statics.FormedRows.{AreConsecutive}
use Rattle.m2_base.specs.Statics.UnitRows.{rows_from, unit_rows}
use Rattle.row_laws.specs.RowRanges.{EachBlock}

-- the block of this scope, one of these blocks: the rows of the scope are what it declares, and P holds of it
pub record MadeBy (P : List (List Row) → BlockTree → Type 0) (source : Source) (all : List (List Row)) (blocks : List BlockTree) (s : ℕ) : Type 0 where
  pub block : BlockTree
  pub before : List (List Row)
  pub is_in : IsIn block blocks
  pub scope : block.block.scope ≡ s
  pub rows : rows_at all s ≡ (declare_block source before block).rows
  pub earlier : (q : ℕ) → q < s → rows_at all q ≡ rows_at before q
  pub holds : P before block

-- the scopes before stay as they are
pub stays : (source : Source) (blocks : List BlockTree) (before : List (List Row)) (q : ℕ) → q < length before → rows_at (rows_from source before blocks) q ≡ rows_at before q
stays source [] before q h = refl
stays source (b ∷ blocks) before q h =
    let made = (declare_block source before b).rows in
    let next = length-append before (made ∷ []) in
    stays source blocks (before ++ made ∷ []) q (omega (arith, next, h)) ∙ get_or_append_left before (made ∷ []) [] q h

made-more : {P : List (List Row) → BlockTree → Type 0} {source : Source} {all : List (List Row)} {b : BlockTree} {blocks : List BlockTree} {s : ℕ} → MadeBy P source all blocks s → MadeBy P source all (b ∷ blocks) s
made-more m = record { block = m.block; before = m.before; is_in = inr m.is_in; scope = m.scope; rows = m.rows; earlier = m.earlier; holds = m.holds }

module _ (P : List (List Row) → BlockTree → Type 0) (source : Source) where
  made_from : (blocks : List BlockTree) (before : List (List Row)) → AreConsecutive (length before) blocks → EachBlock P source before blocks → (s : ℕ) → length before ≤ s → s < length (rows_from source before blocks)
      → MadeBy P source (rows_from source before blocks) blocks s
  made_from [] before row holds s low high = absurd (omega (arith, low, high))
  made_from (b ∷ blocks) before row holds s low high =
      let made = (declare_block source before b).rows in
      let next = length-append before (made ∷ []) in
      let one : length before + 1 ≡ length (before ++ made ∷ []) = omega (arith, next) in
      by_order (cases_order s (length before)) (λ more. made_from blocks (before ++ made ∷ []) (subst (λ n. AreConsecutive n blocks) one row.1) holds.1 s (omega (arith, next, more)) high)
    where
      made : List Row
      made = (declare_block source before b).rows

      next : length (before ++ made ∷ []) ≡ length before + 1
      next = let e = length-append before (made ∷ []) in omega (arith, e)

      by_order : (s ≡ length before) ⊎ ((s < length before) ⊎ (length before < s)) → (length before < s → MadeBy P source (rows_from source before (b ∷ blocks)) blocks s) → MadeBy P source (rows_from source before (b ∷ blocks)) (b ∷ blocks) s
      by_order (inl same) rest = record {
        block = b;
        before = before;
        is_in = inl refl;
        scope = row.0 ∙ sym same;
        rows = stays source blocks (before ++ made ∷ []) s (omega (arith, next, same)) ∙ get_or_at before made [] [] s (sym same);
        earlier = λ q h. stays source blocks (before ++ made ∷ []) q (omega (arith, next, same, h)) ∙ get_or_append_left before (made ∷ []) [] q (omega (arith, same, h));
        holds = holds.0;
      }
      by_order (inr (inl less)) rest = absurd (omega (arith, low, less))
      by_order (inr (inr more)) rest = made-more (rest more)

-- each scope of a unit but the standard one
pub made_by : (P : List (List Row) → BlockTree → Type 0) (u : UnitTrees) → AreConsecutive 1 (blocks_of u) → EachBlock P u.source (standard_rows ∷ []) (blocks_of u) → (s : ℕ) → 0 < s → s < length (unit_rows u)
    → MadeBy P u.source (unit_rows u) (blocks_of u) s
unfolding unit_rows
made_by P u row holds s low high = made_from P u.source (blocks_of u) (standard_rows ∷ []) row holds s (omega (arith, low)) high
