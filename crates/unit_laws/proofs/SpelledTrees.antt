-- What holds of every tree that a stream of the unit spells holds of its blocks.
use Rattle.std.proofs.Common.{List, [], ◌∷◌, ◌++◌, map, sym, subst}
use Rattle.m2_base.specs.Statics.ReadStatements.{AreReadStatements}
use Rattle.m2_base.proofs.ReadTrees.{items_are_read, statements_are_read}
use Rattle.m2_base.specs.Finished.{AreRead}
use Rattle.m2_base.specs.Lists.{Each}
use Rattle.m2_base.specs.Statics.Blocks.{BlockTree, UnitTrees, blocks_of}
use Rattle.m2_base.specs.Statics.Items.{items_of}
use Rattle.m2_base.specs.Statics.ReadTrees.{IsReadItem}
use Rattle.m2_base.specs.Trees.{Stream}
use Rattle.m2_base.specs.Units.{IsUnit, UnitTexts}
use Rattle.stream_split.specs.Agreement.{SpellsStream, SpellsStreams}
use Rattle.stream_split.specs.Streams.{StreamOf, streams_of}
use Rattle.stream_split.proofs.BlocksAgree.{blocks_agree}
use Rattle.stream_split.proofs.ReadUnits.{streams_spelled, trees_read}
use Rattle.stream_split.proofs.ReadTokens.{IsReadStream, streams_read}

each_spelled : (P : Stream → Type 0) (Q : StreamOf → Type 0) → ((tree : Stream) (s : StreamOf) → SpellsStream tree s → Q s → P tree) → (trees : List Stream) (streams : List StreamOf)
    → SpellsStreams trees streams → Each Q streams → Each P trees
each_spelled P Q f [] [] h q = tt
each_spelled P Q f [] (s ∷ ss) h q = absurd h
each_spelled P Q f (t ∷ ts) [] h q = absurd h
each_spelled P Q f (t ∷ ts) (s ∷ ss) h q = (f t s h.0 q.0, each_spelled P Q f ts ss h.1 q.1)

of_blocks : (P : Stream → Type 0) (blocks : List BlockTree) → Each P (map (λ (b : BlockTree). b.tree) blocks) → Each (λ b. P b.tree) blocks
of_blocks P [] h = tt
of_blocks P (b ∷ blocks) h = (h.0, of_blocks P blocks h.1)

-- what holds of all trees
pub blocks_have : (P : Stream → Type 0) (texts : UnitTexts) (u : UnitTrees) → AreRead texts u → Each P (u.definitions ++ u.main) → Each (λ b. P b.tree) (blocks_of u)
blocks_have P texts u read h = of_blocks P (blocks_of u) (subst (Each P) (sym (blocks_agree texts u (trees_read texts u read)).same_trees) h)

-- what holds of every tree that is spelled by a stream of which Q holds
pub blocks_spelled : (P : Stream → Type 0) (Q : StreamOf → Type 0) (texts : UnitTexts) (u : UnitTrees) → ((tree : Stream) (s : StreamOf) → SpellsStream tree s → Q s → P tree) → AreRead texts u → Each Q (streams_of texts)
    → Each (λ b. P b.tree) (blocks_of u)
blocks_spelled P Q texts u f read q =
    blocks_have P texts u read (each_spelled P Q f (u.definitions ++ u.main) (streams_of texts) (streams_spelled texts u read) q)

-- the items of each block are as read
pub items_read : (texts : UnitTexts) (u : UnitTrees) → IsUnit texts → AreRead texts u → Each (λ b. Each (IsReadItem texts.names) (items_of b.tree)) (blocks_of u)
items_read texts u unit read =
    blocks_spelled (λ tree. Each (IsReadItem texts.names) (items_of tree)) (IsReadStream texts.names) texts u
    (λ tree s spelled h. items_are_read texts.names s.kind tree s.tokens spelled h) read (streams_read texts unit)

-- and so are its statements
pub statements_read : (texts : UnitTexts) (u : UnitTrees) → IsUnit texts → AreRead texts u → Each (λ b. AreReadStatements texts.names b.tree.body) (blocks_of u)
statements_read texts u unit read =
    blocks_spelled (λ tree. AreReadStatements texts.names tree.body) (IsReadStream texts.names) texts u
    (λ tree s spelled h. statements_are_read texts.names s.kind tree s.tokens spelled h) read (streams_read texts unit)
