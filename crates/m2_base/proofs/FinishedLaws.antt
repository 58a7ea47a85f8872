-- What holds of the finished rows of every unit.
use Rattle.std.proofs.Common.{◌≡◌, ◌∙◌, ℕ, ◌<◌, List, [], ◌∷◌, ◌++◌, length, refl, sym, ap, arith}
use Rattle.std.specs.List.{AllZip}
use Rattle.std.proofs.lemmas.List.{length-append, get_or_append_left}
use Rattle.m2_base.specs.Finished.{AreRead, IsFinished, tokens_of}
use Rattle.m2_base.specs.Grammar.{grammar, levels, main, definition}
use Rattle.m2_base.specs.Rows.{Row}
use Rattle.m2_base.specs.Standard.{standard_rows}
use Rattle.m2_base.specs.Statics.BlockRows.{declare_block}
use Rattle.m2_base.specs.Statics.Blocks.{BlockTree, UnitTrees, blocks_of}
use Rattle.m2_base.specs.Statics.Contexts.{Source}
use Rattle.m2_base.specs.Statics.UnitRows.{rows_from, unit_rows}
use Rattle.m2_base.specs.Tables.{rows_at}
use Rattle.m2_base.specs.Trees.{Stream}
use Rattle.m2_base.specs.Units.{UnitTexts}
use Rattle.m2_base.specs.WholeTexts.{SpellsDefinition, definition_blocks, main_blocks}
use Rattle.m2_base.specs.declared.trees.declarations.StreamKind.TheVariants.{Definition}
use Rattle.m2_base.proofs.GrammarChecks.{is_ll1, main_is_root, stream_is_root}
use Rattle.ll_grammar.specs.Grammar.{sub}
use Rattle.ll_grammar.proofs.OneAnswer.{one_value}

-- ** Scope 0

-- the rows of further scopes come behind
first_stays : (source : Source) (blocks : List BlockTree) (tables : List (List Row)) → 0 < length tables → rows_at (rows_from source tables blocks) 0 ≡ rows_at tables 0
first_stays source [] tables some = refl
first_stays source (b ∷ blocks) tables some =
    let rows = (declare_block source tables b).rows in
    let next = length-append tables (rows ∷ []) in
    first_stays source blocks (tables ++ rows ∷ []) (omega (arith, next, some)) ∙ get_or_append_left tables (rows ∷ []) [] 0 some

unit_first : (trees : UnitTrees) → rows_at (unit_rows trees) 0 ≡ standard_rows
unfolding unit_rows
unit_first trees = first_stays trees.source (blocks_of trees) (standard_rows ∷ []) (omega arith)

-- scope 0 has the standard rows
pub finished-standard : (u : UnitTexts) (tables : List (List Row)) → IsFinished u tables → rows_at tables 0 ≡ standard_rows
finished-standard u tables is = ap (λ ts. rows_at ts 0) is.rows ∙ unit_first is.trees

-- ** One reading

-- a definition text has one tree
one_definition : (u : UnitTexts) (k : ℕ) (x y : Stream) → SpellsDefinition (x ∷ []) (tokens_of u k) → SpellsDefinition (y ∷ []) (tokens_of u k) → (x ∷ []) ≡ (y ∷ [])
one_definition u k x y p q = one_value grammar levels definition (tokens_of u k) is_ll1 (stream_is_root Definition) definition_blocks (x ∷ []) (y ∷ []) p q

joined : (x y : Stream) (xs ys : List Stream) → (x ∷ []) ≡ (y ∷ []) → xs ≡ ys → (x ∷ xs) ≡ (y ∷ ys)
joined x y xs ys p q = λ k. p k ++ q k

one_each : (u : UnitTexts) (order : List ℕ) (a b : List Stream) → AllZip (λ k tree. SpellsDefinition (tree ∷ []) (tokens_of u k)) order a
    → AllZip (λ k tree. SpellsDefinition (tree ∷ []) (tokens_of u k)) order b → a ≡ b
one_each u [] [] [] p q = refl
one_each u [] [] (y ∷ b) p q = absurd q
one_each u [] (x ∷ a) b p q = absurd p
one_each u (k ∷ order) [] b p q = absurd p
one_each u (k ∷ order) (x ∷ a) [] p q = absurd q
one_each u (k ∷ order) (x ∷ a) (y ∷ b) p q = joined x y a b (one_definition u k x y p.0 q.0) (one_each u order a b p.1 q.1)

-- a unit is read in one way
pub one_reading : (u : UnitTexts) (these those : UnitTrees) → AreRead u these → AreRead u those → these ≡ those
one_reading u these those p q =
    let source : these.source ≡ those.source = p.source ∙ sym q.source in
    let own : these.own ≡ those.own = p.own ∙ sym q.own in
    let definitions : these.definitions ≡ those.definitions = one_each u u.order these.definitions those.definitions p.definitions q.definitions in
    let blocks : these.main ≡ those.main = one_value grammar levels (main sub) _ is_ll1 main_is_root (main_blocks _) these.main those.main p.main q.main in
    λ k. record { source = source k; own = own k; definitions = definitions k; main = blocks k }

-- the finished rows of a unit are those of its trees
pub rows_read : (u : UnitTexts) (trees : UnitTrees) (tables : List (List Row)) → AreRead u trees → IsFinished u tables → tables ≡ unit_rows trees
rows_read u trees tables read is = is.rows ∙ ap unit_rows (one_reading u is.trees trees is.read read)

-- and there is one list of them
pub one_table : (u : UnitTexts) (these those : List (List Row)) → IsFinished u these → IsFinished u those → these ≡ those
one_table u these those p q = rows_read u q.trees these q.read p ∙ sym q.rows
