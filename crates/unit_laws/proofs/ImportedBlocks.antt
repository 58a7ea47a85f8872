-- The modules that the blocks of a unit import have scopes before.
use Rattle.std.proofs.Common.{◌≡◌, ◌∙◌, ℕ, suc, ◌+◌, List, [], ◌∷◌, ◌++◌, map, refl, sym, subst}
use Rattle.std.specs.Prelude.{Some, slice_get}
use Rattle.m2_base.specs.Finished.{AreRead, source_of}
use Rattle.m2_base.specs.Lists.{Each}
use Rattle.m2_base.specs.Statics.Blocks.{BlockTree, UnitTrees, blocks_of}
use Rattle.m2_base.specs.Statics.Contexts.{Source}
use Rattle.m2_base.specs.Statics.FormedRows.{AreConsecutive, IsImportedBefore}
use Rattle.m2_base.specs.Statics.Items.{items_of}
use Rattle.m2_base.specs.Trees.{Stream}
use Rattle.m2_base.specs.Units.{Front, IsUnit, IsWholeBy, TextOf, UnitTexts}
use Rattle.stream_split.specs.Agreement.{SpellsStream, SpellsStreams}
use Rattle.stream_split.specs.Fronts.{AreFronts}
use Rattle.stream_split.specs.Streams.{StreamOf, streams_of}
use Rattle.stream_split.proofs.BlocksAgree.{blocks_agree}
use Rattle.stream_split.proofs.ImportScopes.{stream_imports}
use Rattle.stream_split.proofs.ReadUnits.{streams_spelled, trees_read}
use Rattle.stream_split.proofs.StreamCounts.{AreFrom, streams_from}
use Rattle.unit_laws.proofs.SoundUnits.{scopes_are}

module _ (texts : UnitTexts) (unit : IsUnit texts) (front : TextOf → Front) (fronts : AreFronts front texts) (whole : IsWholeBy front texts) where
  abbrev Imports : ℕ → Stream → Type 0
  Imports s tree = Each (IsImportedBefore (source_of texts) s) (items_of tree)

  each_block : (n : ℕ) (blocks : List BlockTree) (trees : List Stream) (streams : List StreamOf) → map (λ (b : BlockTree). b.tree) blocks ≡ trees → AreConsecutive n blocks → AreFrom n streams
      → SpellsStreams trees streams → ((k : ℕ) (s : StreamOf) (tree : Stream) → slice_get streams k ≡ Some s → SpellsStream tree s → Imports s.stream tree) → Each (λ b. Imports b.block.scope b.tree) blocks
  each_block n [] trees streams e c f h p = tt
  each_block n (b ∷ blocks) [] streams e c f h p = cc
  each_block n (b ∷ blocks) (tree ∷ trees) [] e c f h p = absurd h
  each_block n (b ∷ blocks) (tree ∷ trees) (s ∷ streams) e c f h p =
      let first : b.tree ≡ tree = cc in
      let rest : map (λ (b : BlockTree). b.tree) blocks ≡ trees = cc in
      (subst (λ t. Imports b.block.scope t) (sym first) (subst (λ i. Imports i tree) (f.0 ∙ sym c.0) (p 0 s tree refl h.0)), each_block (n + 1) blocks trees streams rest c.1 f.1 h.1 (λ k. p (suc k)))

  -- each block imports modules with scopes before its own
  pub imports_before : (u : UnitTrees) → AreRead texts u → Each (λ b. Each (IsImportedBefore u.source b.block.scope) (items_of b.tree)) (blocks_of u)
  imports_before u read =
      subst (λ (source : Source). Each (λ b. Each (IsImportedBefore source b.block.scope) (items_of b.tree)) (blocks_of u)) (sym read.source)
      (each_block 1 (blocks_of u) (u.definitions ++ u.main) (streams_of texts) (blocks_agree texts u (trees_read texts u read)).same_trees (scopes_are texts u read) (streams_from texts)
      (streams_spelled texts u read) (stream_imports texts unit front fronts whole))
