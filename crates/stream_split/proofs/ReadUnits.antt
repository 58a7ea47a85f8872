-- What the streams of a unit say of it, where its texts can be read.
use Rattle.std.proofs.Common.{◌≡◌, ◌∙◌, ℕ, zero, suc, ◌+◌, ◌<◌, ◌≤◌, ◌^◌, All, List, [], ◌∷◌, ◌++◌, length, map, refl, sym, ap, subst, append_assoc, arith}
use Rattle.std.specs.List.{AllZip}
use Rattle.std.specs.Prelude.{slice_index_or}
use Rattle.std.proofs.lemmas.List.{append-nil, length-map}
use Rattle.std.proofs.lemmas.List.Elements.{All-head, All-tail}
use Rattle.std.proofs.lemmas.Slice.Zip.{AllZip-long}
use Rattle.m2_base.specs.Finished.{AreRead, IsFinished, no_text, tokens_of}
use Rattle.m2_base.specs.declared.rows.Row.{Row}
use Rattle.m2_base.specs.Standard.{standard_rows}
use Rattle.m2_base.specs.Statics.BlockRows.{declare_block}
use Rattle.m2_base.specs.Statics.Blocks.{BlockTree, UnitTrees, blocks_of}
use Rattle.m2_base.specs.Statics.Contexts.{DefinitionModule, Source}
use Rattle.m2_base.specs.Statics.UnitRows.{rows_from, unit_rows}
use Rattle.m2_base.specs.Trees.{Stream}
use Rattle.m2_base.specs.Tables.{rows_at}
use Rattle.m2_base.specs.Units.{IsUnit, UnitTexts}
use Rattle.m2_base.specs.WholeTexts.{SpellsDefinition}
use Rattle.stream_split.specs.Agreement.{SpellsStreams}
use Rattle.stream_split.specs.Rooms.{most_rows, most_rows_of_scopes}
use Rattle.stream_split.specs.Sizes.{room_of, sizes_of}
use Rattle.stream_split.specs.Streams.{StreamOf, definition_streams, main_number, main_streams, main_tokens, streams_of}
use Rattle.stream_split.specs.Surroundings.{AreTreesOf}
use Rattle.stream_split.proofs.Agree.{trees_agree}
use Rattle.stream_split.proofs.BlocksAgree.{blocks_agree}
use Rattle.stream_split.proofs.BroughtRows.{room_over, scopes_most}
use Rattle.stream_split.proofs.DefinitionTexts.{definition_spelled}
use Rattle.stream_split.proofs.Lengths.{IsShort, unit_short}
use Rattle.stream_split.proofs.MadeRows.{finished_rows}

-- ** Trees

-- the definition modules are those of the texts in their order
texts_in_order : (u : UnitTexts) (order : List ℕ) → map (λ (d : DefinitionModule). d.text) (map (λ k. record { name = (slice_index_or u.list k no_text).name; text = k }) order) ≡ order
texts_in_order u [] = refl
texts_in_order u (k ∷ order) = ap (λ ks. k ∷ ks) (texts_in_order u order)

pub trees_read : (u : UnitTexts) (trees : UnitTrees) → AreRead u trees → AreTreesOf u trees
trees_read u trees read =
    record {
      modules = ap (λ (s : Source). map (λ (d : DefinitionModule). d.text) s.definitions) read.source ∙ texts_in_order u u.order;
      definitions = AllZip-long (λ k tree. SpellsDefinition (tree ∷ []) (tokens_of u k)) u.order trees.definitions read.definitions;
      own = read.own;
      main = read.main;
    }

-- ** Streams

definitions_read : (u : UnitTexts) (j : ℕ) (order : List ℕ) (trees : List Stream) → AllZip (λ k tree. SpellsDefinition (tree ∷ []) (tokens_of u k)) order trees
    → SpellsStreams trees (definition_streams j u.list order)
definitions_read u j [] [] h = tt
definitions_read u j [] (tree ∷ trees) h = absurd h
definitions_read u j (k ∷ order) [] h = absurd h
definitions_read u j (k ∷ order) (tree ∷ trees) h = (definition_spelled j k (tokens_of u k) tree h.0, definitions_read u (suc j) order trees h.1)

spelled_append : (xs ys : List Stream) (ss rs : List StreamOf) → SpellsStreams xs ss → SpellsStreams ys rs → SpellsStreams (xs ++ ys) (ss ++ rs)
spelled_append [] ys [] rs p q = q
spelled_append [] ys (s ∷ ss) rs p q = absurd p
spelled_append (x ∷ xs) ys [] rs p q = absurd p
spelled_append (x ∷ xs) ys (s ∷ ss) rs p q = (p.0, spelled_append xs ys ss rs p.1 q)

-- each stream of a unit spells the tree at its place
pub streams_spelled : (u : UnitTexts) (trees : UnitTrees) → AreRead u trees → SpellsStreams (trees.definitions ++ trees.main) (streams_of u)
streams_spelled u trees read =
    spelled_append trees.definitions trees.main (definition_streams 1 u.list u.order) (main_streams (main_number u) (main_tokens u))
    (definitions_read u 1 u.order trees.definitions read.definitions) (trees_agree (main_number u) (main_tokens u) trees.main read.main)

-- ** Rows

-- a scope has no more rows than this
abbrev Fits : List Row → ℕ → Type 0
Fits rows room = length rows ≤ room

fit_append : (tables more : List (List Row)) (rooms others : List ℕ) → AllZip Fits tables rooms → AllZip Fits more others → AllZip Fits (tables ++ more) (rooms ++ others)
fit_append [] more [] others h k = k
fit_append [] more (room ∷ rooms) others h k = absurd h
fit_append (rows ∷ tables) more [] others h k = absurd h
fit_append (rows ∷ tables) more (room ∷ rooms) others h k = (h.0, fit_append tables more rooms others h.1 k)

fit_wider : (tables : List (List Row)) (rooms wider : List ℕ) → AllZip Fits tables rooms → AllZip (λ n room. n ≤ room) rooms wider → AllZip Fits tables wider
fit_wider [] [] [] h k = tt
fit_wider [] [] (w ∷ wider) h k = absurd k
fit_wider [] (room ∷ rooms) wider h k = absurd h
fit_wider (rows ∷ tables) [] wider h k = absurd h
fit_wider (rows ∷ tables) (room ∷ rooms) [] h k = absurd k
fit_wider (rows ∷ tables) (room ∷ rooms) (w ∷ wider) h k =
    let first : length rows ≤ room = h.0 in
    let next : room ≤ w = k.0 in
    (omega (arith, first, next), fit_wider tables rooms wider h.1 k.1)

-- the scopes have as many rows at most as their blocks' trees say
rows_counted : (source : Source) (blocks : List BlockTree) (tables : List (List Row)) (rooms : List ℕ) → AllZip Fits tables rooms
    → AllZip Fits (rows_from source tables blocks) (rooms ++ map most_rows (map (λ (b : BlockTree). b.tree) blocks))
rows_counted source [] tables rooms h = subst (λ ns. AllZip Fits tables ns) (sym (append-nil rooms)) h
rows_counted source (b ∷ blocks) tables rooms h =
    let rows : List Row = (declare_block source tables b).rows in
    let rest : List ℕ = map most_rows (map (λ (b : BlockTree). b.tree) blocks) in
    subst (λ ns. AllZip Fits (rows_from source (tables ++ rows ∷ []) blocks) ns) (append_assoc rooms (most_rows b.tree ∷ []) rest)
    (rows_counted source blocks (tables ++ rows ∷ []) (rooms ++ most_rows b.tree ∷ [])
    (fit_append tables (rows ∷ []) rooms (most_rows b.tree ∷ []) h (finished_rows source tables b, tt)))

unit_counted : (u : UnitTexts) (trees : UnitTrees) → AreRead u trees → AllZip Fits (unit_rows trees) (most_rows_of_scopes (trees.definitions ++ trees.main))
unfolding unit_rows
unit_counted u trees read =
    subst (λ (all : List Stream). AllZip Fits (rows_from trees.source (standard_rows ∷ []) (blocks_of trees)) (length standard_rows ∷ map most_rows all)) (blocks_agree u trees (trees_read u trees read)).same_trees
    (rows_counted trees.source (blocks_of trees) (standard_rows ∷ []) (length standard_rows ∷ []) (omega arith, tt))

-- no scope has more finished rows than its room
pub rows_fit : (u : UnitTexts) (tables : List (List Row)) → IsFinished u tables → AllZip (λ rows room. length rows ≤ room) tables (sizes_of (streams_of u))
rows_fit u tables is =
    let all = is.trees.definitions ++ is.trees.main in
    fit_wider tables (most_rows_of_scopes all) (sizes_of (streams_of u))
    (subst (λ rows. AllZip Fits rows (most_rows_of_scopes all)) (sym is.rows) (unit_counted u is.trees is.read))
    (scopes_most all (streams_of u) (streams_spelled u is.trees is.read))

-- beside scope 0 there is one for each stream
pub scopes_counted : (u : UnitTexts) (tables : List (List Row)) → IsFinished u tables → length tables ≡ length (streams_of u) + 1
scopes_counted u tables is =
    let long : length (sizes_of (streams_of u)) ≡ length tables = AllZip-long (λ rows room. length rows ≤ room) tables (sizes_of (streams_of u)) (rows_fit u tables is) in
    let many = length-map (streams_of u) room_of in
    omega (arith, long, many)

few_each : (streams : List StreamOf) → All IsShort streams → (tables : List (List Row)) → AllZip (λ rows room. length rows ≤ room) tables (map room_of streams)
    → (s : ℕ) → length (rows_at tables s) < 2 ^ 32
few_each streams short [] h s = omega arith
few_each [] short (rows ∷ tables) h s = absurd h
few_each (x ∷ streams) short (rows ∷ tables) h zero =
    let short : length x.tokens < 2 ^ 30 = All-head IsShort x streams short in
    let fits : length rows ≤ room_of x = h.0 in
    let over = room_over x in
    omega (arith, short, fits, over)
few_each (x ∷ streams) short (rows ∷ tables) h (suc s) = few_each streams (All-tail IsShort x streams short) tables h.1 s

few_all : (streams : List StreamOf) → All IsShort streams → (tables : List (List Row)) → AllZip (λ rows room. length rows ≤ room) tables (sizes_of streams) → (s : ℕ) → length (rows_at tables s) < 2 ^ 32
few_all streams short [] h s = omega arith
few_all streams short (rows ∷ tables) h zero =
    let fits : length rows ≤ 37 = h.0 in
    omega (arith, fits)
few_all streams short (rows ∷ tables) h (suc s) = few_each streams short tables h.1 s

-- no scope has more finished rows than numbers of 32 bits
pub finished_few : (u : UnitTexts) (tables : List (List Row)) → IsUnit u → IsFinished u tables → (s : ℕ) → length (rows_at tables s) < 2 ^ 32
finished_few u tables unit is = few_all (streams_of u) (unit_short u unit) tables (rows_fit u tables is)
