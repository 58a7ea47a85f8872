-- What a whole text means: the trees of its blocks, or its first fault. The text is read as it stands, with each
-- procedure where it is declared. The module's block comes first and the procedures' follow in the order of their
-- PROCEDURE tokens, each with the next number; a procedure's declaration names the number of its block.
use Rattle.std.specs.Prelude.{ℕ, suc, List, [], ◌∷◌, ◌++◌}
use Rattle.m2_base.specs.declared.outputs.StreamFault.{StreamFault}
use Rattle.m2_base.specs.declared.token.Token.{Token}
use Rattle.m2_base.specs.ExpressionsOf.{no_ident, ident_of}
use Rattle.m2_base.specs.FaultsOf.{fault_in}
use Rattle.m2_base.specs.Grammar.{grammar, main, definition, levels}
use Rattle.m2_base.specs.StreamsOf.{Block, heading_of, procedure_of, declaration_of, body_of, imports_of, main_tree}
use Rattle.m2_base.specs.StreamsOf.{procedure_tree, no_stream, definition_of}
use Rattle.m2_base.specs.Trees.{Decl, proc_decl, Stream}
use Rattle.m2_base.specs.TypesOf.{is_there}
use Rattle.ll_grammar.specs.Derivations.{Tree, nothing, leaf, both, left, right, last, more, inner, part, tokens}
use Rattle.ll_grammar.specs.Grammar.{sub}
use Rattle.ll_grammar.specs.Texts as texts

-- the number after those of the procedures that are declared in these parts, where c is the next one
abbrev pub blocks_after : ℕ → Tree Token → ℕ
blocks_after c nothing = c
blocks_after c (leaf t) = c
blocks_after c (both d e) = blocks_after (blocks_after c d) e
blocks_after c (left d) = blocks_after c d
blocks_after c (right d) = blocks_after c d
blocks_after c last = c
blocks_after c (more d ds) = blocks_after (blocks_after c d) ds
blocks_after c (inner d) = c
blocks_after c (part d) = blocks_after (suc c) d

-- a procedure, with the number of its block
abbrev pub procedure_numbered : ℕ → Tree Token → Decl
procedure_numbered c (both h d) = proc_decl (heading_of h) c
procedure_numbered c d = procedure_of d

-- the declarations of a block, whose first procedure has the number c
abbrev pub declaration_from : ℕ → Tree Token → List Decl
declaration_from c (right (right (right (part d)))) = procedure_numbered c d ∷ []
declaration_from c d = declaration_of d

abbrev pub declarations_from : ℕ → Tree Token → List Decl
declarations_from c (more d ds) = declaration_from c d ++ declarations_from (blocks_after c d) ds
declarations_from c _ = []

abbrev pub block_from : ℕ → Tree Token → List Token → Block
block_from c (both ds (both b (both end i))) w =
    record { decls = declarations_from c ds; body = body_of b (tokens (both end i) ++ w); close = ident_of i }
block_from c _ w = record { decls = []; body = []; close = no_ident }

-- the trees of the procedures that are declared in these parts and within each other, from number c on
abbrev pub procedures_from : ℕ → Tree Token → List Stream
procedures_from c nothing = []
procedures_from c (leaf t) = []
procedures_from c (both d e) = procedures_from c d ++ procedures_from (blocks_after c d) e
procedures_from c (left d) = procedures_from c d
procedures_from c (right d) = procedures_from c d
procedures_from c last = []
procedures_from c (more d ds) = procedures_from c d ++ procedures_from (blocks_after c d) ds
procedures_from c (inner d) = []
procedures_from c (part (both h (both semicolon (both b closing)))) =
    procedure_tree (heading_of h) (block_from (suc c) b (tokens closing)) ∷ procedures_from (suc c) b
procedures_from c (part d) = []

-- the trees of a main text's blocks, of which the module's has the number m
abbrev pub main_blocks : ℕ → Tree Token → List Token → List Stream
main_blocks m (both implementation (both module_word (both i (both semicolon (both is (both b (both period end)))))))
    w =
    main_tree (is_there implementation) (ident_of i) (imports_of is)
    (block_from (suc m) b (tokens (both period end) ++ w)) ∷ procedures_from (suc m) b
main_blocks m _ w = no_stream ∷ []

-- a definition text has one block
abbrev pub definition_blocks : Tree Token → List Token → List Stream
definition_blocks d w = definition_of d w ∷ []

-- The tokens are those of a main text, no token is nested too deep, and these are its blocks' trees;
-- and so of a definition.
abbrev pub SpellsMain : ℕ → List Stream → List Token → Type 0
SpellsMain m trees ts = texts.Spells grammar levels (main sub) (main_blocks m) trees ts

abbrev pub SpellsDefinition : List Stream → List Token → Type 0
SpellsDefinition trees ts = texts.Spells grammar levels definition definition_blocks trees ts

-- The fault is the first of the main text of this number, or of the definition text.
abbrev pub IsFirstInMain : ℕ → StreamFault → List Token → Type 0
IsFirstInMain text fault ts = texts.IsFirstFault grammar levels (main sub) (fault_in text) fault ts

abbrev pub IsFirstInDefinition : ℕ → StreamFault → List Token → Type 0
IsFirstInDefinition text fault ts = texts.IsFirstFault grammar levels definition (fault_in text) fault ts
