-- The outputs of a unit's streams are those of its blocks.
use Rattle.std.specs.Prelude.{◌≡◌, refl, ℕ, zero, suc, ◌+◌, List, [], ◌∷◌, ◌++◌, drop, length, map, take, Option, Some, None}
use Rattle.std.specs.List.{AllZip}
use Rattle.std.proofs.Common.{ap, subst, sym, ◌∙◌}
use Rattle.std.proofs.lemmas.List.{length-append}
use Rattle.ll_grammar.proofs.OneAnswer.{one_value}
use Rattle.ll_grammar.proofs.OneFault.{no_fault}
use Rattle.m2_base.specs.Finished.{AreRead, IsFinished, source_of}
use Rattle.m2_base.specs.Grammar.{grammar, levels, stream}
use Rattle.m2_base.specs.Standard.{standard_rows}
use Rattle.m2_base.specs.Statics.BlockLimits.{limit_of}
use Rattle.m2_base.specs.Statics.BlockRows.{declare_block}
use Rattle.m2_base.specs.Statics.Blocks.{BlockTree, UnitTrees, blocks_of}
use Rattle.m2_base.specs.Statics.Contexts.{Block, Source}
use Rattle.m2_base.specs.Statics.FormedRows.{AreConsecutive}
use Rattle.m2_base.specs.Statics.UnitRows.{rows_from, unit_rows}
use Rattle.m2_base.specs.StreamsOf.{stream_of}
use Rattle.m2_base.specs.Trees.{Stream}
use Rattle.m2_base.specs.Units.{UnitTexts}
use Rattle.m2_base.specs.declared.outputs.Output.{Output}
use Rattle.m2_base.specs.declared.outputs.StreamFault.{StreamFault}
use Rattle.m2_base.specs.declared.rows.Row.{Row}
use Rattle.m2_base.specs.declared.trees.declarations.StreamKind.{StreamKind}
use Rattle.m2_base.specs.declared.trees.declarations.StreamKind.TheVariants.{Definition, Main, Procedure}
use Rattle.m2_base.proofs.GrammarChecks.{is_ll1, stream_is_root}
use Rattle.block_code.specs.BlockCode.{ProcedureCode, block_code, block_diags}
use Rattle.block_code.specs.ProcedureCodes.{code_view}
use Rattle.stream_split.specs.Agreement.{SpellsStream}
use Rattle.stream_split.specs.Chains.{block_by, own_scope}
use Rattle.stream_split.specs.Streams.{StreamOf, main_number, main_tokens, streams_of}
use Rattle.stream_split.proofs.BlocksAgree.{blocks_agree}
use Rattle.stream_split.proofs.ReadUnits.{streams_spelled, trees_read}
use Rattle.stream_split.proofs.StreamCounts.{AreFrom, streams_from}
use Rattle.task_state.specs.Outputs.{IsOutputBy, IsOutputOf}
use Rattle.task_state.proofs.UnitRows.{first_stay}
use Rattle.block_laws.specs.Worlds.{of_blocks, over_blocks}
use Rattle.unit_merge.specs.Outputs as merging
use Rattle.merge_laws.specs.Outputs.{AreCoded, AreNoted, AreOutputs}
use Rattle.unit_tasks.specs.Outputs.{AreOfStreams, IsOutputIn}
use Rattle.unit_tasks.specs.Units.{block_in}

-- ** What is made of blocks, one after another

map_drop : {A B : Type 0} (f : A → B) (n : ℕ) (xs : List A) → map f (drop n xs) ≡ drop n (map f xs)
map_drop f zero xs = refl
map_drop f (suc n) [] = refl
map_drop f (suc n) (x ∷ xs) = map_drop f n xs

-- what is made of each block, over the scopes before it, is what the outputs have
over_outputs : {A : Type 0} (g : Output → A) (f : List (List Row) → BlockTree → A) (source : Source) (tables : List (List Row)) (R : BlockTree → Output → Type 0)
    → ((b : BlockTree) (o : Output) → R b o → g o ≡ f (take b.block.scope tables) b) → (before : List (List Row)) (blocks : List BlockTree) (outputs : List Output)
    → rows_from source before blocks ≡ tables → AreConsecutive (length before) blocks → AllZip R blocks outputs → map g outputs ≡ over_blocks f source before blocks
over_outputs g f source tables R each before [] [] made scopes h = refl
over_outputs g f source tables R each before [] (o ∷ outputs) made scopes h = absurd h
over_outputs g f source tables R each before (b ∷ blocks) [] made scopes h = absurd h
over_outputs g f source tables R each before (b ∷ blocks) (o ∷ outputs) made scopes h =
    let rows = (declare_block source before b).rows in
    let so_far : take b.block.scope tables ≡ before =
    ap (λ (n : ℕ). take n tables) scopes.0 ∙ ap (λ (ts : List (List Row)). take (length before) ts) (sym made) ∙ first_stay source (b ∷ blocks) before in
    let first : g o ≡ f before b = each b o h.0 ∙ ap (λ (ts : List (List Row)). f ts b) so_far in
    let next : length before + 1 ≡ length (before ++ rows ∷ []) = sym (length-append before (rows ∷ [])) in
    let rest = over_outputs g f source tables R each (before ++ rows ∷ []) blocks outputs made (subst (λ (n : ℕ). AreConsecutive n blocks) next scopes.1) h.1 in
    λ i. first i ∷ rest i

-- ** The blocks of streams

-- the block is the stream's, and has the tree that this spells
pub record IsOfStream (u : UnitTexts) (s : StreamOf) (b : BlockTree) : Type 0 where
  pub block : b.block ≡ block_in u s
  pub spelled : SpellsStream b.tree s

scope_is : (home : ℕ) (own : Option ℕ) (streams : List StreamOf) (s : StreamOf) (kind : StreamKind) → (block_by kind home own streams s).scope ≡ s.stream
scope_is home own streams s Definition = refl
scope_is home own streams s Main = refl
scope_is home own streams s Procedure = refl

one_by_one : (u : UnitTexts) (blocks : List BlockTree) (streams : List StreamOf) → map (λ (b : BlockTree). b.block) blocks ≡ map (block_in u) streams
    → AllZip SpellsStream (map (λ (b : BlockTree). b.tree) blocks) streams → AllZip (IsOfStream u) streams blocks
one_by_one u [] [] e h = tt
one_by_one u [] (s ∷ streams) e h = absurd h
one_by_one u (b ∷ blocks) [] e h = absurd h
one_by_one u (b ∷ blocks) (s ∷ streams) e h =
    let first : b.block ≡ block_in u s = cc in
    let rest : map (λ (x : BlockTree). x.block) blocks ≡ map (block_in u) streams = cc in
    (record { block = first; spelled = h.0 }, one_by_one u blocks streams rest h.1)

-- they have the scopes from this number on, as the streams have
consecutive : (u : UnitTexts) (n : ℕ) (streams : List StreamOf) (blocks : List BlockTree) → AreFrom n streams → AllZip (IsOfStream u) streams blocks → AreConsecutive n blocks
consecutive u n [] [] from h = tt
consecutive u n [] (b ∷ blocks) from h = absurd h
consecutive u n (s ∷ streams) [] from h = absurd h
consecutive u n (s ∷ streams) (b ∷ blocks) from h =
    let scope : b.block.scope ≡ n = ap (λ (x : Block). x.scope) h.0.block ∙ scope_is (main_number u) (own_scope u) (streams_of u) s s.kind ∙ from.0 in
    (scope, consecutive u (n + 1) streams blocks from.1 h.1)

-- ** The output of a stream

-- where all texts are read, it is that of the block
output_of : (u : UnitTexts) (tables : List (List Row)) → IsFinished u tables → (s : StreamOf) (b : BlockTree) (o : Output) → IsOfStream u s b → IsOutputIn u s o → IsOutputOf (source_of u) tables b o
output_of u tables finished s b o at is = go o.fault is.by_fault
  where
    go : (fault : Option StreamFault) → IsOutputBy u s (block_in u s) o fault → IsOutputOf (source_of u) tables b o
    go (Some fault) h = absurd (no_fault grammar levels (stream s.kind) h.fault s.tokens h.rest h.faulty at.spelled.sentence)
    go None h =
        let tree : h.tree ≡ b.tree = one_value grammar levels (stream s.kind) s.tokens is_ll1 (stream_is_root s.kind) (stream_of s.kind) h.tree b.tree h.spelled at.spelled in
        let same : record { block = block_in u s; tree = h.tree } ≡ b = λ i. record { block = sym at.block i; tree = tree i } in
        subst (λ (x : BlockTree). IsOutputOf (source_of u) tables x o) same (h.told tables finished)

outputs_of : (u : UnitTexts) (tables : List (List Row)) → IsFinished u tables → (streams : List StreamOf) (blocks : List BlockTree) (outputs : List Output)
    → AllZip (IsOfStream u) streams blocks → AllZip (IsOutputIn u) streams outputs → AllZip (IsOutputOf (source_of u) tables) blocks outputs
outputs_of u tables finished [] [] [] h k = tt
outputs_of u tables finished [] [] (o ∷ outputs) h k = absurd k
outputs_of u tables finished [] (b ∷ blocks) outputs h k = absurd h
outputs_of u tables finished (s ∷ streams) [] outputs h k = absurd h
outputs_of u tables finished (s ∷ streams) (b ∷ blocks) [] h k = absurd k
outputs_of u tables finished (s ∷ streams) (b ∷ blocks) (o ∷ outputs) h k =
    (output_of u tables finished s b o h.0 k.0, outputs_of u tables finished streams blocks outputs h.1 k.1)

-- and in every unit it tells its fault
told_of : (u : UnitTexts) (s : StreamOf) (o : Output) → IsOutputIn u s o → merging.IsOutputOf s o
told_of u s o is = record { stream = is.stream; fault = go o.fault is.by_fault }
  where
    go : (fault : Option StreamFault) → IsOutputBy u s (block_in u s) o fault → merging.IsFaultTold s fault
    go None h = (h.tree, h.spelled)
    go (Some fault) h = h

all_told : (u : UnitTexts) (streams : List StreamOf) (outputs : List Output) → AllZip (IsOutputIn u) streams outputs → AllZip merging.IsOutputOf streams outputs
all_told u [] [] h = tt
all_told u [] (o ∷ outputs) h = absurd h
all_told u (s ∷ streams) [] h = absurd h
all_told u (s ∷ streams) (o ∷ outputs) h = (told_of u s o h.0, all_told u streams outputs h.1)

-- ** A unit

unit_made : (trees : UnitTrees) → rows_from trees.source (standard_rows ∷ []) (blocks_of trees) ≡ unit_rows trees
unfolding unit_rows
unit_made trees = refl

module _ (u : UnitTexts) (outputs : List Output) (are : AreOfStreams u outputs) (trees : UnitTrees) (read : AreRead u trees) where
  blocks_there : AllZip (IsOfStream u) (streams_of u) (blocks_of trees)
  blocks_there =
      let agrees = blocks_agree u trees (trees_read u trees read) in
      one_by_one u (blocks_of trees) (streams_of u) agrees.blocks
      (subst (λ (ts : List Stream). AllZip SpellsStream ts (streams_of u)) (sym agrees.same_trees) (streams_spelled u trees read))

  each_output : AllZip (IsOutputOf trees.source (unit_rows trees)) (blocks_of trees) outputs
  each_output =
      subst (λ (source : Source). AllZip (IsOutputOf source (unit_rows trees)) (blocks_of trees) outputs) (sym read.source)
      (outputs_of u (unit_rows trees) (record { trees = trees; read = read; rows = refl }) (streams_of u) (blocks_of trees) outputs blocks_there are)

  all_outputs : {A : Type 0} (g : Output → A) (f : List (List Row) → BlockTree → A)
      → ((b : BlockTree) (o : Output) → IsOutputOf trees.source (unit_rows trees) b o → g o ≡ f (take b.block.scope (unit_rows trees)) b) → map g outputs ≡ of_blocks f trees
  all_outputs g f each =
      over_outputs g f trees.source (unit_rows trees) (IsOutputOf trees.source (unit_rows trees)) each (standard_rows ∷ []) (blocks_of trees) outputs (unit_made trees)
      (consecutive u 1 (streams_of u) (blocks_of trees) (streams_from u) blocks_there) each_output

  noted : AreNoted trees outputs
  noted = all_outputs (λ (o : Output). o.diags.items) (λ before b. block_diags trees.source before (unit_rows trees) b) (λ b o h. h.diags)

  coded : AreCoded trees outputs
  coded =
      let all = all_outputs (λ (o : Output). code_view o.code) (λ before b. block_code trees.source before (unit_rows trees) b) (λ b o h. h.code) in
      record {
        cells = all_outputs (λ (o : Output). o.cells) (λ before b. (declare_block trees.source before b).value.cell) (λ b o h. h.cells);
        headings = all_outputs (λ (o : Output). o.headings.items) (λ before b. (declare_block trees.source before b).value.headings) (λ b o h. h.headings);
        codes = map_drop (λ (o : Output). code_view o.code) (length trees.definitions) outputs ∙ ap (λ (cs : List ProcedureCode). drop (length trees.definitions) cs) all;
      }

-- The outputs of a unit's streams are what merging takes.
pub outputs_are : (u : UnitTexts) (outputs : List Output) → limit_of (main_tokens u) ≡ None → AreOfStreams u outputs → AreOutputs u outputs
outputs_are u outputs limits are =
    record {
      limits = limits;
      each = all_told u (streams_of u) outputs are;
      noted = λ trees read. noted u outputs are trees read;
      coded = λ trees read none. coded u outputs are trees read;
    }
