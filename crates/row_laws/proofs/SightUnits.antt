-- Modules and aliases lead to scopes in sight, in every block of a unit.
use Rattle.std.specs.Prelude.{◌≡◌, ℕ, ◌+◌, ◌^◌, ◌<◌, ◌≤◌, ◌⊎◌, List, [], ◌∷◌, ◌++◌, length, slice_get, Some}
use Rattle.std.proofs.Common.{subst, sym, inl, inr, arith}
use Rattle.std.proofs.lemmas.Bool.{cases_order}
use Rattle.std.proofs.lemmas.List.{length-append}
use Rattle.m2_base.specs.Lists.{Each, IsIn}
use Rattle.m2_base.specs.Rows.{at_place, row_meaning, Fits}
use Rattle.m2_base.specs.declared.rows.Row.{Row}
use Rattle.m2_base.specs.declared.rows.RowMeaning.{RowMeaning}
use Rattle.m2_base.specs.declared.rows.RowMeaning.TheVariants.{Alias, Module}
use Rattle.m2_base.specs.Standard.{standard_rows}
use Rattle.m2_base.specs.Tables.{rows_at}
use Rattle.m2_base.specs.Statics.BlockRows.{declare_block}
use Rattle.m2_base.specs.Statics.Blocks.{BlockTree, UnitTrees, blocks_of, home_of}
use Rattle.m2_base.specs.Statics.Contexts.{Block, Source}
use Rattle.m2_base.specs.Statics.FormedRows.{AreConsecutive}
use Rattle.m2_base.specs.Statics.UnitNotes.{complete_context}
use Rattle.m2_base.specs.Statics.UnitRows.{unit_rows}
use Rattle.row_laws.specs.RowRanges.{EachBlock, IsSoundUnit}
use Rattle.row_laws.specs.Sight.{IsInSight, LeadsInSight, LeadsTo}
use Rattle.row_laws.specs.TextTrees.{AreOfTexts, HasTree}
use Rattle.row_laws.proofs.Chains.{IsAtHome, IsChained, blocks_chained}
use Rattle.row_laws.proofs.MadeBy.{MadeBy, made_by}
use Rattle.row_laws.proofs.Members.{each_at}
use Rattle.row_laws.proofs.PlainShapes.{LeadsNowhere, nothing_leads}
use Rattle.row_laws.proofs.Units.{long_from, unit_whole}
use Rattle.row_laws.proofs.Whole.{Whole, whole-above, whole-rows, whole_scene}

-- what leads nowhere leads in sight
nowhere_in_sight : (P : ℕ → Type 0) (m : RowMeaning) → LeadsNowhere m → LeadsTo P m
nowhere_in_sight P (Module s) h = absurd h
nowhere_in_sight P (Alias p) h = absurd h
nowhere_in_sight P m h = tt

-- a row of a scope that isn't behind the module's leads in sight, since it fits its place
fits_in_sight : (names : ℕ) (b : Block) → IsIn b.home b.chain → (s o : ℕ) → s ≤ b.home → o < 2 ^ 32 → (m : RowMeaning) → Fits names (at_place s o) m → LeadsTo (IsInSight b) m
fits_in_sight names b there s o low small (Module q) fits = inr (omega (arith, low, fits))
fits_in_sight names b there s o low small (Alias p) fits = by_order (cases_order p.scope b.home)
  where
    by_order : (p.scope ≡ b.home) ⊎ ((p.scope < b.home) ⊎ (b.home < p.scope)) → IsInSight b p.scope
    by_order (inl same) = inl (subst (λ n. IsIn n b.chain) (sym same) there)
    by_order (inr (inl less)) = inr less
    by_order (inr (inr more)) = absurd (omega (arith, low, small, fits, more))
fits_in_sight names b there s o low small m fits = tt

-- the rows behind the module's scope lead nowhere, since procedures import nothing
abbrev RestIsPlain : (home : ℕ) → List (List Row) → Type 0
RestIsPlain home all = (s o : ℕ) (r : Row) → home < s → s < length all → slice_get (rows_at all s) o ≡ Some r → LeadsNowhere (row_meaning r)

module _ (names : ℕ) (source : Source) (u : UnitTrees) (all : List (List Row)) (whole : Whole names source u.own (home_of u) all) (plain : RestIsPlain (home_of u) all) where
  block_sight : (b : BlockTree) → b.block.scope < length all → IsChained (home_of u) b → LeadsInSight (whole_scene all b.block)
  block_sight b there is =
      record {
        own = is.own;
        of_module = is.of_module;
        positive = is.positive;
        leads = λ s o r e. by_order s o r e (cases_order s b.block.scope);
      }
    where
      by_home : (s o : ℕ) (r : Row) → slice_get (rows_at all s) o ≡ Some r → s ≤ b.block.scope → (s ≤ b.block.home) ⊎ (home_of u < s) → LeadsTo (IsInSight b.block) (row_meaning r)
      by_home s o r e low (inl h) =
          let right = whole.right s o r e in
          fits_in_sight names b.block is.of_module s o h right.0 (row_meaning r) right.1.formed.fits
      by_home s o r e low (inr h) = nowhere_in_sight (IsInSight b.block) (row_meaning r) (plain s o r h (omega (arith, low, there)) e)

      behind : (s : ℕ) → s ≤ b.block.scope → IsAtHome (home_of u) b.block → (s ≤ b.block.home) ⊎ (home_of u < s)
      behind s low (inl d) = let e = d.0 in inl (omega (arith, e, low))
      behind s low (inr m) = by_end (cases_order s (home_of u))
        where
          by_end : (s ≡ home_of u) ⊎ ((s < home_of u) ⊎ (home_of u < s)) → (s ≤ b.block.home) ⊎ (home_of u < s)
          by_end (inl same) = let e = m.0 in inl (omega (arith, e, same))
          by_end (inr (inl less)) = let e = m.0 in inl (omega (arith, e, less))
          by_end (inr (inr more)) = inr more

      found : (s o : ℕ) (r : Row) → slice_get (rows_at (whole_scene all b.block).tables s) o ≡ Some r → s ≤ b.block.scope → LeadsTo (IsInSight b.block) (row_meaning r)
      found s o r e low =
          by_home s o r (subst (λ (rows : List Row). slice_get rows o ≡ Some r) (whole-rows all b.block s there low) e) low (behind s low is.at_home)

      by_order : (s o : ℕ) (r : Row) → slice_get (rows_at (whole_scene all b.block).tables s) o ≡ Some r → (s ≡ b.block.scope) ⊎ ((s < b.block.scope) ⊎ (b.block.scope < s)) → LeadsTo (IsInSight b.block) (row_meaning r)
      by_order s o r e (inl same) = found s o r e (omega (arith, same))
      by_order s o r e (inr (inl less)) = found s o r e (omega (arith, less))
      by_order s o r e (inr (inr more)) =
          let none : slice_get [] o ≡ Some r = subst (λ (rows : List Row). slice_get rows o ≡ Some r) (whole-above all b.block s there more) e in
          absurd (cc)

  each_sight : (blocks : List BlockTree) (before : List (List Row)) → AreConsecutive (length before) blocks → length before + length blocks ≤ length all → Each (IsChained (home_of u)) blocks
      → EachBlock (λ before b. LeadsInSight (complete_context source all b.block).scene) source before blocks
  each_sight [] before row long is = tt
  each_sight (b ∷ blocks) before row long is =
      let made = (declare_block source before b).rows in
      let next = length-append before (made ∷ []) in
      let one : length before + 1 ≡ length (before ++ made ∷ []) = omega (arith, next) in
      let same = row.0 in (
        block_sight b (omega (arith, same, long)) is.0,
        each_sight blocks (before ++ made ∷ []) (subst (λ n. AreConsecutive n blocks) one row.1) (omega (arith, next, long)) is.1,
      )

-- a block's own tree stands with it, whatever the scopes before
each_before : (P : BlockTree → Type 0) (source : Source) (blocks : List BlockTree) (before : List (List Row)) → Each P blocks → EachBlock (λ before b. P b) source before blocks
each_before P source [] before h = tt
each_before P source (b ∷ blocks) before h = (h.0, each_before P source blocks (before ++ (declare_block source before b).rows ∷ []) h.1)

unit_plain : (names : List (List ℕ)) (u : UnitTrees) → IsSoundUnit names u → AreOfTexts u → RestIsPlain (home_of u) (unit_rows u)
unit_plain names u is trees s o r behind there e = by_tree m.holds.tree
  where
    m : MadeBy (λ before b. IsChained (home_of u) b) u.source (unit_rows u) (blocks_of u) s
    m = made_by (λ before b. IsChained (home_of u) b) u is.scopes (each_before (IsChained (home_of u)) u.source (blocks_of u) (standard_rows ∷ []) (blocks_chained u trees)) s (omega (arith, behind)) there

    by_tree : HasTree (home_of u) m.block → LeadsNowhere (row_meaning r)
    by_tree (inl d) = let x = d.0 in let y = m.scope in absurd (omega (arith, x, y, behind))
    by_tree (inr (inl d)) = let x = d.0 in let y = m.scope in absurd (omega (arith, x, y, behind))
    by_tree (inr (inr d)) =
        each_at (λ (x : Row). LeadsNowhere (row_meaning x)) (declare_block u.source m.before m.block).rows (nothing_leads u.source m.before m.block d.1.no_imports) o r
        (subst (λ (rows : List Row). slice_get rows o ≡ Some r) m.rows e)

unit_long : (u : UnitTrees) → length (unit_rows u) ≡ 1 + length (blocks_of u)
unfolding unit_rows
unit_long u = long_from u.source (blocks_of u) (standard_rows ∷ [])

pub unit_sight : (names : List (List ℕ)) (u : UnitTrees) → IsSoundUnit names u → AreOfTexts u
    → EachBlock (λ before b. LeadsInSight (complete_context u.source (unit_rows u) b.block).scene) u.source (standard_rows ∷ []) (blocks_of u)
unit_sight names u is trees =
    let long = unit_long u in
    each_sight (length names) u.source u (unit_rows u) (unit_whole names u is) (unit_plain names u is trees) (blocks_of u) (standard_rows ∷ []) is.scopes (omega (arith, long)) (blocks_chained u trees)
