-- The blocks of a unit's texts are made of few tokens.
use Rattle.std.proofs.Common.{ℕ, suc, ◌+◌, ◌≤◌, List, [], ◌∷◌, ◌++◌, length, ap, subst, arith}
use Rattle.std.specs.List.{AllZip}
use Rattle.ll_grammar.specs.Derivations.{Tree, both, tokens, Derives, of_empty, of_token, of_then, of_left, of_right, of_last, of_more, of_deep, of_sub}
use Rattle.ll_grammar.specs.Grammar.{Rule, many, optional, sub, ◌⨾◌}
use Rattle.m2_base.proofs.EachLaws.{each_append}
use Rattle.m2_base.specs.Finished.{AreRead, main_number, main_tokens, tokens_of}
use Rattle.m2_base.specs.Grammar as rules
use Rattle.m2_base.specs.Grammar.{grammar}
use Rattle.m2_base.specs.Lists.{Each}
use Rattle.m2_base.specs.Statics.Blocks.{UnitTrees, blocks_of}
use Rattle.m2_base.specs.Statics.ProcedureRows.{parameter_count}
use Rattle.m2_base.specs.StreamsOf as streams
use Rattle.m2_base.specs.Trees.{Stream, statements}
use Rattle.m2_base.specs.Units.{IsUnit, UnitTexts}
use Rattle.m2_base.specs.WholeTexts as whole
use Rattle.m2_base.specs.WholeTexts.{SpellsDefinition, SpellsMain, blocks_after, procedures_from}
use Rattle.m2_base.specs.declared.kind.TokenKind.TheVariants.{Semicolon}
use Rattle.m2_base.specs.declared.token.Token.{Token}
use Rattle.block_code.specs.FlowLengths.{most_tokens}
use Rattle.block_code.specs.StatementTokens.{block_tokens, statements_tokens}
use Rattle.stream_split.proofs.Lengths.{text_short}
use Rattle.stream_split.proofs.TypeSizes.{idents_size, size, size_is}
use Rattle.unit_laws.proofs.SpelledTrees.{blocks_have}
use Rattle.unit_laws.proofs.StatementTokens.{body_few}

-- ** Headings

section_few : {d : Tree Token} → Derives grammar rules.section d → length (streams.section_of d).names ≤ size d
section_few (of_then v (of_then names (of_then (of_token g) (of_then o q)))) = let i = idents_size names in omega (arith, i)

more_sections_few : {d : Tree Token} → Derives grammar (many (rules.a Semicolon ⨾ rules.section)) d → parameter_count (streams.more_sections_of d) ≤ size d
more_sections_few of_last = omega arith
more_sections_few (of_more (of_then (of_token g) s) ss) = let i = section_few s in let j = more_sections_few ss in omega (arith, i, j)

sections_few : {d : Tree Token} → Derives grammar (optional (rules.list rules.section Semicolon)) d → parameter_count (streams.sections_of d) ≤ size d
sections_few (of_left (of_then s ss)) = let i = section_few s in let j = more_sections_few ss in omega (arith, i, j)
sections_few (of_right of_empty) = omega arith

parameters_few : {d : Tree Token} → Derives grammar rules.parameters d → parameter_count (streams.parameters_of d).0 ≤ size d
parameters_few (of_left (of_then (of_token g) (of_then ss (of_then close result)))) = let i = sections_few ss in omega (arith, i)
parameters_few (of_right of_empty) = omega arith

heading_few : {d : Tree Token} → Derives grammar rules.heading d → parameter_count (streams.heading_of d).sections ≤ size d
heading_few (of_then (of_token g) (of_then (of_token h) p)) = let i = parameters_few p in omega (arith, i)

-- ** Blocks

-- END stands behind the statements
block_few : {d : Tree Token} (c : ℕ) (w : List Token) → Derives grammar (rules.block sub) d → statements_tokens (statements (whole.block_from c d w).body) + 1 ≤ size d
block_few c w (of_then ds (of_then b (of_then {d = end} {e = i} (of_token m) close))) = let h = body_few (tokens (both end i) ++ w) b in omega (arith, h)

-- no more tokens than n
abbrev pub IsFew : ℕ → Stream → Type 0
IsFew n tree = block_tokens tree ≤ n

procedures_few : {r : Rule} {x : Tree Token} (n : ℕ) → Derives grammar r x → (c : ℕ) → size x ≤ n → Each (IsFew n) (procedures_from c x)
procedures_few n of_empty c h = tt
procedures_few n (of_token g) c h = tt
procedures_few n (of_then {d = x} {e = y} g k) c h =
    each_append (IsFew n) (procedures_from c x) (procedures_from (blocks_after c x) y) (procedures_few n g c (omega (arith, h))) (procedures_few n k (blocks_after c x) (omega (arith, h)))
procedures_few n (of_left g) c h = procedures_few n g c h
procedures_few n (of_right g) c h = procedures_few n g c h
procedures_few n of_last c h = tt
procedures_few n (of_more {d = x} {ds = y} g k) c h =
    each_append (IsFew n) (procedures_from c x) (procedures_from (blocks_after c x) y) (procedures_few n g c (omega (arith, h))) (procedures_few n k (blocks_after c x) (omega (arith, h)))
procedures_few n (of_deep g) c h = tt
procedures_few n (of_sub (of_then gh (of_then gs (of_then {e = closing} gb gl)))) c h = (
  (let head = heading_few gh in
      let body = block_few (suc c) (tokens closing) gb in
      omega (arith, h, head, body)),
  procedures_few n gb (suc c) (omega (arith, h)),
)

main_few : {x : Tree Token} (n m : ℕ) → Derives grammar (rules.main sub) x → size x ≤ n → Each (IsFew n) (whole.main_blocks m x [])
main_few n m (of_then implementation (of_then word (of_then name (of_then semicolon (of_then is (of_then b (of_then {d = period} {e = end} p e))))))) h = (
  (let body = block_few (suc m) (tokens (both period end) ++ []) b in omega (arith, h, body)),
  procedures_few n b (suc m) (omega (arith, h)),
)

main_short : (n m : ℕ) (trees : List Stream) (ts : List Token) → SpellsMain m trees ts → length ts ≤ n → Each (IsFew n) trees
main_short n m trees ts h short =
    let count = size_is h.sentence.tree in
    let same = ap length h.sentence.spells in
    subst (Each (IsFew n)) h.gives (main_few n m h.sentence.derives (omega (arith, short, count, same)))

-- ** Definitions

-- there are no statements in a definition
definition_few : (n : ℕ) (tree : Stream) (ts : List Token) → 1 ≤ n → SpellsDefinition (tree ∷ []) ts → IsFew n tree
definition_few n tree ts one h = (subst (Each (IsFew n)) h.gives (by h.sentence.derives, tt)).0
  where
    by : {x : Tree Token} → Derives grammar rules.definition x → IsFew n (streams.definition_of x [])
    by (of_then word (of_then module_word (of_then i (of_then semicolon (of_then is (of_then export (of_then ds (of_then end (of_then close (of_then period stop)))))))))) = omega (arith, one)

definitions_few : (n : ℕ) (texts : UnitTexts) (order : List ℕ) (trees : List Stream) → 1 ≤ n → AllZip (λ k tree. SpellsDefinition (tree ∷ []) (tokens_of texts k)) order trees → Each (IsFew n) trees
definitions_few n texts [] [] one read = tt
definitions_few n texts [] (tree ∷ trees) one read = absurd read
definitions_few n texts (k ∷ order) [] one read = absurd read
definitions_few n texts (k ∷ order) (tree ∷ trees) one read = (definition_few n tree (tokens_of texts k) one read.0, definitions_few n texts order trees one read.1)

-- each block of a unit has few tokens
pub blocks_short : (texts : UnitTexts) (u : UnitTrees) → IsUnit texts → AreRead texts u → Each (λ b. block_tokens b.tree ≤ most_tokens) (blocks_of u)
blocks_short texts u unit read =
    blocks_have (IsFew most_tokens) texts u read
    (each_append (IsFew most_tokens) u.definitions u.main (definitions_few most_tokens texts texts.order u.definitions (omega arith) read.definitions)
    (main_short most_tokens (main_number texts) u.main (main_tokens texts) read.main (text_short texts.names texts.list unit.texts 0)))
