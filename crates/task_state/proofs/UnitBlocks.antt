-- The block of a stream of a unit: it can be searched from, its tree was read, and it has the rows of its scope.
use Rattle.std.specs.Prelude.{◌≡◌, ℕ, zero, suc, ◌+◌, ◌<◌, ◌≤◌, List, [], ◌∷◌, ◌++◌, None, Option, Some, drop, length, map, option_map, slice_get, slice_index, take}
use Rattle.std.specs.List.{AllZip}
use Rattle.std.proofs.Common.{refl, sym, ap, subst, ◌∙◌, arith}
use Rattle.std.proofs.lemmas.List.{length-map}
use Rattle.std.proofs.lemmas.Option.{slice_get-map}
use Rattle.m2_base.specs.Finished.{AreRead, IsFinished, source_of}
use Rattle.m2_base.specs.Lists.{Each, WhereKept}
use Rattle.m2_base.specs.Standard.{standard_rows}
use Rattle.m2_base.specs.States.{Setting}
use Rattle.m2_base.specs.Statics.BlockRows.{declare_block}
use Rattle.m2_base.specs.Statics.Blocks.{BlockTree, UnitTrees, blocks_of}
use Rattle.m2_base.specs.Statics.Contexts.{Block, Source}
use Rattle.m2_base.specs.Statics.FormedRows.{IsImportedBefore}
use Rattle.m2_base.specs.Statics.Items.{Item, const_item, heading_item, import_item, items_of, proc_item, type_item, vars_item}
use Rattle.m2_base.specs.Statics.UnitRows.{rows_from, unit_rows}
use Rattle.m2_base.specs.Tables.{rows_at}
use Rattle.m2_base.specs.Trees.{Stream}
use Rattle.m2_base.specs.Units.{UnitTexts}
use Rattle.m2_base.specs.declared.rows.Row.{Row}
use Rattle.m2_base.specs.declared.sites.Around.{Around}
use Rattle.m2_base.proofs.FinishedLaws.{finished-standard}
use Rattle.m2_base.proofs.EachLaws.{each_then}
use Rattle.decl_sem.specs.ImportedModules.{IsFromBefore}
use Rattle.stream_split.specs.Agreement.{SpellsStream}
use Rattle.stream_split.specs.Chains.{around_view, block_of, own_scope}
use Rattle.stream_split.specs.Sizes.{room_of, sizes_of}
use Rattle.stream_split.specs.Streams.{StreamOf, main_number, streams_of}
use Rattle.stream_split.specs.Surroundings.{IsSurrounded}
use Rattle.stream_split.proofs.BlocksAgree.{blocks_agree}
use Rattle.stream_split.proofs.ImportScopes.{stream_imports}
use Rattle.stream_split.proofs.ReadUnits.{finished_few, scopes_counted, streams_spelled, trees_read}
use Rattle.stream_split.proofs.StreamCounts.{number_is, streams_few}
use Rattle.stream_split.proofs.StreamTrees.{stream_few, stream_items, stream_room, stream_statements}
use Rattle.stream_split.proofs.Surrounded.{level_low, surrounded}
use Rattle.task_state.specs.Blocks.{IsBlockIn, IsBlockOf, block_with}
use Rattle.task_state.specs.Units.{IsOfUnit}
use Rattle.task_state.proofs.Lists.{some_is}
use Rattle.task_state.proofs.UnitRows.{made_over}
use Rattle.task_state.proofs.UnitResults.{ReturnsIts, unit_returns}

-- ** Lists

zipped_at : {A B : Type 0} (P : A → B → Type 0) (xs : List A) (ys : List B) (n : ℕ) (y : B) → AllZip P xs ys → slice_get ys n ≡ Some y → (x : A) × (slice_get xs n ≡ Some x) × P x y
zipped_at P [] [] n y h e = absurd (cc)
zipped_at P [] (z ∷ ys) n y h e = absurd h
zipped_at P (x ∷ xs) [] n y h e = absurd h
zipped_at P (x ∷ xs) (z ∷ ys) zero y h e = (x, refl, subst (P x) (some_is z y e) h.0)
zipped_at P (x ∷ xs) (z ∷ ys) (suc n) y h e = zipped_at P xs ys n y h.1 e

got_below : {A : Type 0} (xs : List A) (n : ℕ) (x : A) → slice_get xs n ≡ Some x → n < length xs
got_below [] n x e = absurd (cc)
got_below (y ∷ xs) zero x e = omega arith
got_below (y ∷ xs) (suc n) x e = let h = got_below xs n x e in omega (arith, h)

-- what a map has at a place is what it gives of the item there
pub record IsMapped {A B : Type 0} (f : A → B) (xs : List A) (n : ℕ) (y : B) : Type 0 where
  pub item : A
  pub there : slice_get xs n ≡ Some item
  pub gives : f item ≡ y

mapped_at : {A B : Type 0} (f : A → B) (xs : List A) (n : ℕ) (y : B) → slice_get (map f xs) n ≡ Some y → IsMapped f xs n y
mapped_at f [] n y e = absurd (cc)
mapped_at f (x ∷ xs) zero y e = record { item = x; there = refl; gives = some_is (f x) y e }
mapped_at f (x ∷ xs) (suc n) y e = let h = mapped_at f xs n y e in record { item = h.item; there = h.there; gives = h.gives }

-- ** Imports

from_before : (source : Source) (scope : ℕ) (x : Item) → IsImportedBefore source scope x → IsFromBefore source scope x
from_before source scope (heading_item h) k = tt
from_before source scope (import_item None i) k = k
from_before source scope (import_item (Some m) i) k = k
from_before source scope (const_item i e) k = tt
from_before source scope (type_item i t) k = tt
from_before source scope (vars_item is t) k = tt
from_before source scope (proc_item h n) k = tt

-- ** The block

unit_is : (trees : UnitTrees) → unit_rows trees ≡ rows_from trees.source (standard_rows ∷ []) (blocks_of trees)
unfolding unit_rows
unit_is trees = refl

-- the block at a stream's place, with the tree of the stream
pub record IsBlockAt (u : UnitTexts) (trees : UnitTrees) (n : ℕ) (s : StreamOf) (b : BlockTree) : Type 0 where
  pub there : slice_get (blocks_of trees) n ≡ Some b
  pub block : b.block ≡ block_of (main_number u) (own_scope u) (streams_of u) s
  pub spelled : SpellsStream b.tree s

block_at : (u : UnitTexts) (trees : UnitTrees) → AreRead u trees → (n : ℕ) (s : StreamOf) → slice_get (streams_of u) n ≡ Some s → (b : BlockTree) × IsBlockAt u trees n s b
block_at u trees read n s there =
    let agrees = blocks_agree u trees (trees_read u trees read) in
    let spelled = zipped_at SpellsStream (trees.definitions ++ trees.main) (streams_of u) n s (streams_spelled u trees read) there in
    let tree : slice_get (map (λ (b : BlockTree). b.tree) (blocks_of trees)) n ≡ Some spelled.0 = ap (λ ts. slice_get ts n) agrees.same_trees ∙ spelled.1 in
    let at = mapped_at (λ (b : BlockTree). b.tree) (blocks_of trees) n spelled.0 tree in
    let of : Option StreamOf → Option Block = λ o. option_map (block_of (main_number u) (own_scope u) (streams_of u)) o in
    let block : Some at.item.block ≡ Some (block_of (main_number u) (own_scope u) (streams_of u) s) =
    sym (slice_get-map (λ (b : BlockTree). b.block) (blocks_of trees) n ∙ ap (λ o. option_map (λ (b : BlockTree). b.block) o) at.there)
    ∙ ap (λ bs. slice_get bs n) agrees.blocks
    ∙ slice_get-map (block_of (main_number u) (own_scope u) (streams_of u)) (streams_of u) n ∙ ap of there in (
      at.item,
      record {
        there = at.there;
        block = some_is at.item.block (block_of (main_number u) (own_scope u) (streams_of u) s) block;
        spelled = subst (λ t. SpellsStream t s) (sym at.gives) spelled.2;
      },
    )

module _ (g : Setting) (s : StreamOf) (a : Around) (tree : Stream) (of : IsOfUnit g s a) (spelled : SpellsStream tree s) (only : (t : Stream) → SpellsStream t s → t ≡ tree) where
  number : s.stream ≡ of.index + 1
  number = number_is g.texts of.index s of.there

  below : of.index < length (streams_of g.texts)
  below = got_below (streams_of g.texts) of.index s of.there

  around : IsSurrounded s (around_view a)
  around = subst (IsSurrounded s) (sym of.around) (surrounded g.texts of.unit of.index s of.there)

  -- the same of the block in the unit
  returns_here : (tables : List (List Row)) (is : IsFinished g.texts tables) (b : BlockTree) → slice_get (blocks_of is.trees) of.index ≡ Some b → b ≡ block_with a tree → 1 + of.index ≡ g.fills
      → rows_from is.trees.source (standard_rows ∷ []) (blocks_of is.trees) ≡ tables → ReturnsIts (source_of g.texts) (take g.fills tables) tables (block_with a tree)
  returns_here tables is b there same fills all =
      let made = rows_from is.trees.source (standard_rows ∷ []) (blocks_of is.trees) in
      let at = unit_returns g.texts of.unit of.front of.fronts of.whole is.trees is.read of.index b there in
      subst (λ (k : ℕ). ReturnsIts (source_of g.texts) (take k tables) tables (block_with a tree)) fills
      (subst (λ (x : BlockTree). ReturnsIts (source_of g.texts) (take (1 + of.index) tables) tables x) same
      (subst (λ (source : Source). ReturnsIts source (take (1 + of.index) tables) tables b) is.read.source
      (subst (λ (ts : List (List Row)). ReturnsIts is.trees.source (take (1 + of.index) ts) ts b) all
      (subst (λ (ts : List (List Row)). ReturnsIts is.trees.source (take (1 + of.index) made) ts b) (unit_is is.trees) at))))

  -- where no text has a syntax error
  told : (tables : List (List Row)) → IsFinished g.texts tables → IsBlockIn (source_of g.texts) tables g.fills (block_with a tree)
  told tables is =
      let at = block_at g.texts is.trees is.read of.index s of.there in
      let b = at.0 in
      let same_block : b.block ≡ around_view a = at.1.block ∙ sym of.around in
      let same_tree : b.tree ≡ tree = only b.tree at.1.spelled in
      let same : b ≡ block_with a tree = λ k. record { block = same_block k; tree = same_tree k } in
      let fills : 1 + of.index ≡ g.fills = let n = number in let f = of.fills in omega (arith, n, f) in
      let made : rows_at (rows_from is.trees.source (standard_rows ∷ []) (blocks_of is.trees)) (1 + of.index)
      ≡ (declare_block is.trees.source (take (1 + of.index) (rows_from is.trees.source (standard_rows ∷ []) (blocks_of is.trees))) b).rows =
      made_over is.trees.source (standard_rows ∷ []) (blocks_of is.trees) of.index b at.1.there in
      let all : rows_from is.trees.source (standard_rows ∷ []) (blocks_of is.trees) ≡ tables = sym (unit_is is.trees) ∙ sym is.rows in
      let count = scopes_counted g.texts tables is in
      let n = number in
      let f = of.fills in
      let h = below in
      record {
        scopes = omega (arith, count, n, f, h);
        standard = finished-standard g.texts tables is;
        few = finished_few g.texts tables of.unit is;
        returns = returns_here tables is b at.1.there same fills all;
        rows = subst (λ (k : ℕ). rows_at tables k ≡ (declare_block (source_of g.texts) (take k tables) (block_with a tree)).rows) fills
            (subst (λ (x : BlockTree). rows_at tables (1 + of.index) ≡ (declare_block (source_of g.texts) (take (1 + of.index) tables) x).rows) same
            (subst (λ (source : Source). rows_at tables (1 + of.index) ≡ (declare_block source (take (1 + of.index) tables) b).rows) is.read.source
            (subst (λ (ts : List (List Row)). rows_at ts (1 + of.index) ≡ (declare_block is.trees.source (take (1 + of.index) ts) b).rows) all made)));
      }

  pub block_is : IsBlockOf g a tree
  block_is =
      let u = g.texts in
      let r = around in
      let fills = of.fills in
      let n = number in
      let h = below in
      let few = streams_few u of.unit in
      let scope : a.scope ≡ g.fills = r.scope ∙ sym of.fills in
      let sizes = ap length of.areas in
      let long = length-map (streams_of u) room_of in
      let low = level_low u of.unit of.limits of.index s of.there in
      let short = r.short in
      let level = r.level in
      record {
        unit = of.unit;
        fills = scope;
        inner = omega (arith, n, fills);
        exist = omega (arith, n, fills, h, sizes, long);
        small = omega (arith, n, fills, h, few);
        home = subst (λ (k : ℕ). a.«module» ≤ k) scope r.home;
        own = subst (λ (k : ℕ). WhereKept a.own (λ o. o < k)) scope r.own;
        chain = subst (λ (k : ℕ). a.chain ≡ k ∷ drop 1 a.chain) scope r.chain;
        short = omega (arith, low, short, level);
        down = subst (λ (j : ℕ). Each (λ k. k < j) (drop 1 a.chain)) scope r.down;
        items = stream_items u of.index s tree of.unit of.there spelled;
        statements = stream_statements u of.index s tree of.unit of.there spelled;
        imports = subst (λ (k : ℕ). Each (IsFromBefore (source_of u) k) (items_of tree)) (sym of.fills)
            (each_then (IsImportedBefore (source_of u) s.stream) (IsFromBefore (source_of u) s.stream) (items_of tree) (from_before (source_of u) s.stream)
            (stream_imports u of.unit of.front of.fronts of.whole of.index s tree of.there spelled));
        few = stream_few u of.index s tree of.unit of.there spelled;
        room =
            (let room = stream_room u of.index s tree of.there spelled in
            let area : slice_index g.areas g.fills ≡ slice_index (sizes_of (streams_of u)) s.stream = λ k. slice_index (of.areas k) (of.fills k) in
            omega (arith, room, area));
        told = told;
      }

-- a stream of a unit that has finished rows has a tree
pub has_tree : (g : Setting) (s : StreamOf) (a : Around) → IsOfUnit g s a → (tables : List (List Row)) → IsFinished g.texts tables → (t : Stream) × SpellsStream t s
has_tree g s a of tables is =
    let at = block_at g.texts is.trees is.read of.index s of.there in
    (at.0.tree, at.1.spelled)
