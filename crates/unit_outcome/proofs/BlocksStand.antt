-- The diagnostics of a unit's blocks stand at tokens of its texts.
use Rattle.std.proofs.Common.{◌≡◌, ◌∙◌, ℕ, ◌<◌, ap, inl, inr, List, [], ◌∷◌, ◌++◌, Bool, true, false, Some, if◌then◌else◌, length, slice_get, subst, sym}
use Rattle.std.specs.Prelude.{flat_map}
use Rattle.listings.specs.Ordering.{comes_before, in_order, is_same, with_diag}
use Rattle.m2_base.specs.Finished.{AreRead}
use Rattle.m2_base.specs.Lists.{Each, IsIn}
use Rattle.m2_base.specs.Standard.{standard_rows}
use Rattle.m2_base.specs.Statics.BlockRows.{declare_block}
use Rattle.m2_base.specs.Statics.Blocks.{BlockTree, UnitTrees, blocks_of}
use Rattle.m2_base.specs.Statics.Contexts.{Source}
use Rattle.m2_base.specs.Statics.UnitRows.{unit_rows}
use Rattle.m2_base.specs.Units.{IsUnit, TextOf, UnitTexts}
use Rattle.m2_base.specs.declared.notes.Diag.{Diag}
use Rattle.m2_base.specs.declared.rows.Row.{Row}
use Rattle.m2_base.proofs.EachLaws.{each_append, each_then}
use Rattle.row_laws.specs.RowRanges.{EachBlock}
use Rattle.block_code.specs.BlockCode.{block_diags}
use Rattle.block_laws.specs.Worlds.{over_blocks}
use Rattle.block_laws.proofs.BlocksAt.{before_of, unit_all, unit_made}
use Rattle.unit_laws.proofs.SoundUnits.{scopes_are}
use Rattle.block_laws.proofs.StandingBlocks.{block_stands}
use Rattle.merge_laws.specs.Outcome.{unit_diags}
use Rattle.unit_outcome.specs.Tokens.{IsAtToken}
use Rattle.unit_outcome.proofs.BlockTexts.{IsHome, StandsInText, all_home, unit_blocks}

each_with : (P : BlockTree → Type 0) (b : BlockTree) (blocks : List BlockTree) → Each P blocks → IsIn b blocks → P b
each_with P b [] h i = absurd i
each_with P b (c ∷ blocks) h (inl e) = subst P (sym e) h.0
each_with P b (c ∷ blocks) h (inr i) = each_with P b blocks h.1 i

-- of each block
noted_stand : (Q : Diag → Type 0) (f : List (List Row) → BlockTree → List Diag) (source : Source) (before : List (List Row)) (blocks : List BlockTree) → EachBlock (λ ts b. Each Q (f ts b)) source before blocks
    → Each Q (flat_map (λ (diags : List Diag). diags) (over_blocks f source before blocks))
noted_stand Q f source before [] h = tt
noted_stand Q f source before (b ∷ blocks) h =
    let later = before ++ (declare_block source before b).rows ∷ [] in
    each_append Q (f before b) (flat_map (λ (diags : List Diag). diags) (over_blocks f source later blocks)) h.0 (noted_stand Q f source later blocks h.1)

module _ (Q : Diag → Type 0) where
  each_either : (b : Bool) (ds es : List Diag) → Each Q ds → Each Q es → Each Q (if b then ds else es)
  each_either true ds es h k = h
  each_either false ds es h k = k

  with_stands : (d : Diag) (ds : List Diag) → Q d → Each Q ds → Each Q (with_diag d ds)
  with_stands d [] q h = (q, tt)
  with_stands d (e ∷ es) q h =
      each_either (comes_before d e) (d ∷ e ∷ es) (if is_same d e then e ∷ es else e ∷ with_diag d es) (q, h)
      (each_either (is_same d e) (e ∷ es) (e ∷ with_diag d es) h (h.0, with_stands d es q h.1))

  in_order_stands : (ds : List Diag) → Each Q ds → Each Q (in_order ds)
  in_order_stands [] h = tt
  in_order_stands (d ∷ ds) h = with_stands d (in_order ds) h.0 (in_order_stands ds h.1)

module _ (texts : UnitTexts) (u : UnitTrees) (unit : IsUnit texts) (read : AreRead texts u) where
  abbrev made : List (List Row) → BlockTree → List Diag
  made before b = block_diags u.source before (unit_rows u) b

  block_at_tokens : (b : BlockTree) → IsIn b (blocks_of u) → Each (IsAtToken texts) (made (before_of u b) b)
  block_at_tokens b i =
      let s = each_with (StandsInText texts.list) b (blocks_of u) (unit_blocks texts u unit read) i in
      let home = each_with IsHome b (blocks_of u) (all_home u) i in
      let rows = unit_made u (scopes_are texts u read) b i in
      each_then (λ (d : Diag). (d.text ≡ b.block.text) × (d.at < length s.text.tokens)) (IsAtToken texts) (made (before_of u b) b) (λ d k. (s.text, ap (slice_get texts.list) k.0 ∙ s.there, k.1))
      (block_stands (length s.text.tokens) u.source (before_of u b) (unit_rows u) b s.tree home rows).each

  -- the diagnostics of all blocks
  pub unit_stands : Each (IsAtToken texts) (unit_diags u)
  unit_stands =
      in_order_stands (IsAtToken texts) (flat_map (λ (diags : List Diag). diags) (over_blocks made u.source (standard_rows ∷ []) (blocks_of u)))
      (noted_stand (IsAtToken texts) made u.source (standard_rows ∷ []) (blocks_of u)
      (unit_all u (scopes_are texts u read) (λ before b. Each (IsAtToken texts) (made before b)) block_at_tokens))
