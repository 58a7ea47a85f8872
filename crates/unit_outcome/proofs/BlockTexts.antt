-- Each block of a unit is one of a text, and its tree names tokens of that text alone.
use Rattle.std.proofs.Common.{◌≡◌, ◌∙◌, ℕ, ◌+◌, ap, List, [], ◌∷◌, ◌++◌, Option, Some, None, arith, length, map, refl, slice_get, subst, sym}
use Rattle.m2_base.specs.Finished.{AreRead, main_number, own_scope}
use Rattle.m2_base.specs.Lists.{Each}
use Rattle.m2_base.specs.Statics.Blocks.{BlockTree, UnitTrees, blocks_of, blocks_of_main, definition_blocks, encloser, home_of, main_block, main_blocks, procedure_block}
use Rattle.m2_base.specs.Statics.Contexts.{Block, DefinitionModule}
use Rattle.m2_base.specs.Statics.StandingTrees.{IsStandingStream}
use Rattle.m2_base.specs.Trees.{Stream}
use Rattle.m2_base.specs.Units.{IsUnit, TextOf, UnitTexts}
use Rattle.m2_base.specs.declared.trees.declarations.StreamKind.{StreamKind}
use Rattle.m2_base.specs.declared.trees.declarations.StreamKind.TheVariants.{Definition, Main, Procedure}
use Rattle.m2_base.proofs.EachLaws.{each_append}
use Rattle.m2_base.proofs.StandingStreams.{streams_stand}
use Rattle.stream_split.specs.Agreement.{SpellsStreams}
use Rattle.stream_split.specs.Chains.{block_by, block_of}
use Rattle.stream_split.specs.Streams.{StreamOf, streams_of}
use Rattle.stream_split.proofs.BlocksAgree.{blocks_agree}
use Rattle.stream_split.proofs.ReadUnits.{streams_spelled, trees_read}
use Rattle.unit_outcome.proofs.StreamTokens.{IsOfText, streams_are}

-- ** Each block is one of a text

-- the block's text is there, and its tree names tokens of it alone
pub record StandsInText (list : List TextOf) (b : BlockTree) : Type 0 where
  pub text : TextOf
  pub there : slice_get list b.block.text ≡ Some text
  pub tree : IsStandingStream (length text.tokens) b.tree

text_by : (kind : StreamKind) (home : ℕ) (own : Option ℕ) (streams : List StreamOf) (s : StreamOf) → (block_by kind home own streams s).text ≡ s.text
text_by Definition home own streams s = refl
text_by Main home own streams s = refl
text_by Procedure home own streams s = refl

module _ (list : List TextOf) (home : ℕ) (own : Option ℕ) (all : List StreamOf) where
  blocks_in : (blocks : List BlockTree) (trees : List Stream) (streams : List StreamOf) → map (λ (b : BlockTree). b.tree) blocks ≡ trees → map (λ (b : BlockTree). b.block) blocks ≡ map (block_of home own all) streams
      → SpellsStreams trees streams → Each (IsOfText list) streams → Each (StandsInText list) blocks
  blocks_in [] trees streams e f h p = tt
  blocks_in (b ∷ blocks) [] streams e f h p = cc
  blocks_in (b ∷ blocks) (tree ∷ trees) [] e f h p = absurd h
  blocks_in (b ∷ blocks) (tree ∷ trees) (s ∷ streams) e f h p =
      let first : b.tree ≡ tree = cc in
      let rest : map (λ (b : BlockTree). b.tree) blocks ≡ trees = cc in
      let around : b.block ≡ block_of home own all s = cc in
      let others : map (λ (b : BlockTree). b.block) blocks ≡ map (block_of home own all) streams = cc in
      let t = p.0 in
      let text : b.block.text ≡ s.text = ap (λ (x : Block). x.text) around ∙ text_by s.kind home own all s in (
        record {
          text = t.text;
          there = ap (slice_get list) text ∙ t.there;
          tree = subst (IsStandingStream (length t.text.tokens)) (sym first) (streams_stand (length t.text.tokens) s.kind tree s.tokens h.0 t.below);
        },
        blocks_in blocks trees streams rest others h.1 p.1,
      )

pub unit_blocks : (texts : UnitTexts) (u : UnitTrees) → IsUnit texts → AreRead texts u → Each (StandsInText texts.list) (blocks_of u)
unit_blocks texts u unit read =
    let agree = blocks_agree texts u (trees_read texts u read) in
    blocks_in texts.list (main_number texts) (own_scope texts) (streams_of texts) (blocks_of u) (u.definitions ++ u.main) (streams_of texts) agree.same_trees agree.blocks
    (streams_spelled texts u read) (streams_are texts unit)

-- ** The blocks of modules

-- a block of a module is the home of its own
abbrev pub IsHome : BlockTree → Type 0
IsHome b = b.block.level ≡ 0 → b.block.home ≡ b.block.scope

definitions_home : (s : ℕ) (ds : List DefinitionModule) (trees : List Stream) → Each IsHome (definition_blocks s ds trees)
definitions_home s [] trees = tt
definitions_home s (d ∷ ds) [] = tt
definitions_home s (d ∷ ds) (tree ∷ trees) = ((λ e. refl), definitions_home (s + 1) ds trees)

procedure_home : (s : ℕ) (tree : Stream) (o : Option BlockTree) → Each IsHome (procedure_block s tree o)
procedure_home s tree None = tt
procedure_home s tree (Some outer) = ((λ e. absurd (omega (arith, e))), tt)

mains_home : (trees : List Stream) (before : List BlockTree) (s : ℕ) → Each IsHome before → Each IsHome (main_blocks before s trees)
mains_home [] before s h = h
mains_home (tree ∷ trees) before s h =
    mains_home trees (before ++ procedure_block s tree (encloser before s)) (s + 1)
    (each_append IsHome before (procedure_block s tree (encloser before s)) h (procedure_home s tree (encloser before s)))

main_home : (u : UnitTrees) (trees : List Stream) → Each IsHome (blocks_of_main u trees)
main_home u [] = tt
main_home u (tree ∷ trees) = mains_home trees (main_block u tree ∷ []) (home_of u + 1) ((λ e. refl), tt)

pub all_home : (u : UnitTrees) → Each IsHome (blocks_of u)
unfolding blocks_of
all_home u =
    each_append IsHome (definition_blocks 1 u.source.definitions u.definitions) (blocks_of_main u u.main)
    (definitions_home 1 u.source.definitions u.definitions) (main_home u u.main)
