-- The trees of a unit that can be read are sound, where its modules are imported from scopes before.
use Rattle.std.proofs.Common.{◌≡◌, ◌∙◌, ℕ, ◌+◌, ◌<◌, ◌^◌, All, List, [], ◌∷◌, length, map, refl, sym, ap, subst, inl, inr, arith}
use Rattle.std.specs.Prelude.{Option, Some, None, flat_map, option_map, position, ◌==◌}
use Rattle.std.proofs.lemmas.List.{length-map}
use Rattle.std.proofs.lemmas.List.Elements.{All-head, All-tail}
use Rattle.std.proofs.lemmas.List.Quantifiers.{position-Some}
use Rattle.m2_base.proofs.EachLaws.{each_then}
use Rattle.m2_base.proofs.ReadSound.{item_sound}
use Rattle.m2_base.proofs.SoundNames.{names_sound}
use Rattle.m2_base.specs.Finished.{AreRead, own_scope, scope_in, source_of}
use Rattle.m2_base.specs.Lists.{Each, WhereKept}
use Rattle.m2_base.specs.Names.{standard_names}
use Rattle.m2_base.specs.Statics.Blocks.{BlockTree, UnitTrees, blocks_of, home_of}
use Rattle.m2_base.specs.Statics.Contexts.{Block}
use Rattle.m2_base.specs.Statics.FormedRows.{AreConsecutive, IsImportedBefore, IsSoundBlock, IsSoundText}
use Rattle.m2_base.specs.Statics.Items.{items_of}
use Rattle.m2_base.specs.Statics.ReadTrees.{IsReadItem}
use Rattle.m2_base.specs.Statics.Shapes.{item_shapes}
use Rattle.m2_base.specs.Statics.SoundTrees.{IsSoundItem}
use Rattle.m2_base.specs.Units.{IsUnit, UnitTexts}
use Rattle.m2_base.specs.declared.limits.TheConstants.{MOST_BROUGHT}
use Rattle.m2_base.specs.declared.trees.declarations.StreamKind.{StreamKind}
use Rattle.m2_base.specs.declared.trees.declarations.StreamKind.TheVariants.{Definition, Main, Procedure}
use Rattle.row_laws.specs.RowRanges.{IsSoundUnit}
use Rattle.row_laws.specs.TextTrees.{HasTree}
use Rattle.row_laws.proofs.Chains.{IsChained, blocks_chained}
use Rattle.row_laws.proofs.TextBlocks as row_blocks
use Rattle.stream_split.specs.Chains.{block_by, block_of}
use Rattle.stream_split.specs.Rooms.{rows_of}
use Rattle.stream_split.specs.Streams.{StreamOf, main_number, streams_of}
use Rattle.stream_split.proofs.BlocksAgree.{blocks_agree}
use Rattle.stream_split.proofs.Lengths.{IsShort, unit_short}
use Rattle.stream_split.proofs.ReadUnits.{trees_read}
use Rattle.stream_split.proofs.RowCounts.{rows_are_shapes, stream_rows}
use Rattle.stream_split.proofs.StreamCounts.{AreFrom, streams_few, streams_from}
use Rattle.unit_laws.proofs.SpelledTrees.{blocks_spelled, items_read}

-- ** Scopes

scope_by : (kind : StreamKind) (home : ℕ) (own : Option ℕ) (all : List StreamOf) (s : StreamOf) → (block_by kind home own all s).scope ≡ s.stream
scope_by Main home own all s = refl
scope_by Definition home own all s = refl
scope_by Procedure home own all s = refl

scopes_from : (home : ℕ) (own : Option ℕ) (all : List StreamOf) (n : ℕ) (streams : List StreamOf) (blocks : List BlockTree)
    → map (λ (b : BlockTree). b.block) blocks ≡ map (block_of home own all) streams → AreFrom n streams → AreConsecutive n blocks
scopes_from home own all n [] [] e h = tt
scopes_from home own all n [] (b ∷ blocks) e h = absurd (let long = ap length e in omega (arith, long))
scopes_from home own all n (s ∷ streams) [] e h = absurd (let long = ap length e in omega (arith, long))
scopes_from home own all n (s ∷ streams) (b ∷ blocks) e h =
    let first : b.block ≡ block_of home own all s = let e' = e in cc in
    let rest : map (λ (b : BlockTree). b.block) blocks ≡ map (block_of home own all) streams = let e' = e in cc in
    (ap (λ (i : Block). i.scope) first ∙ scope_by s.kind home own all s ∙ h.0, scopes_from home own all (n + 1) streams blocks rest h.1)

-- the blocks of a unit have the scopes from 1 on
pub scopes_are : (texts : UnitTexts) (u : UnitTrees) → AreRead texts u → AreConsecutive 1 (blocks_of u)
scopes_are texts u read =
    scopes_from (main_number texts) (own_scope texts) (streams_of texts) 1 (streams_of texts) (blocks_of u) (blocks_agree texts u (trees_read texts u read)).blocks (streams_from texts)

-- ** Blocks

-- a stream with fewer tokens than 2^30
few_from : (streams : List StreamOf) → All IsShort streams → Each IsShort streams
few_from [] h = tt
few_from (s ∷ streams) h = (All-head IsShort s streams h, few_from streams (All-tail IsShort s streams h))

module _ (texts : UnitTexts) (u : UnitTrees) (unit : IsUnit texts) (read : AreRead texts u) where
  abbrev names : ℕ
  names = length texts.names

  blocks_few : Each (λ b. rows_of b.tree < 2 ^ 30) (blocks_of u)
  blocks_few =
      blocks_spelled (λ tree. rows_of tree < 2 ^ 30) IsShort texts u (λ tree s spelled short. let rows = stream_rows tree s spelled in omega (arith, rows, short)) read
      (few_from (streams_of texts) (unit_short texts unit))

  shapes_few : (b : BlockTree) → rows_of b.tree < 2 ^ 30 → length (flat_map item_shapes (items_of b.tree)) + MOST_BROUGHT < 2 ^ 31
  shapes_few b h = let shapes = rows_are_shapes b.tree in omega (arith, h, shapes)

  three : {A : Type 0} (P Q R S : A → Type 0) (xs : List A) → ((x : A) → P x → Q x → R x → S x) → Each P xs → Each Q xs → Each R xs → Each S xs
  three P Q R S [] f p q r = tt
  three P Q R S (x ∷ xs) f p q r = (f x p.0 q.0 r.0, three P Q R S xs f p.1 q.1 r.1)

  blocks_sound : Each (λ b. Each (IsImportedBefore u.source b.block.scope) (items_of b.tree)) (blocks_of u) → Each (IsSoundBlock names u.source) (blocks_of u)
  blocks_sound imports =
      three (λ b. rows_of b.tree < 2 ^ 30) (λ b. Each (IsReadItem texts.names) (items_of b.tree)) (λ b. Each (IsImportedBefore u.source b.block.scope) (items_of b.tree)) (IsSoundBlock names u.source) (blocks_of u)
      (λ b few items before.
      record {
        few = shapes_few b few;
        items = each_then (IsReadItem texts.names) (IsSoundItem names) (items_of b.tree) (item_sound texts.names) items;
        imports = before;
      })
      blocks_few (items_read texts u unit read) imports

  -- ** The own definition and the headings

  definitions_same : length u.definitions ≡ length texts.order
  definitions_same = (trees_read texts u read).definitions

  own_low : (order : List ℕ) (own : Option ℕ) → WhereKept (scope_in order own) (λ s. s < length order + 1)
  own_low order None = tt
  own_low order (Some k) = by (position (λ x. x == k) order) refl
    where
      by : (o : Option ℕ) → position (λ x. x == k) order ≡ o → WhereKept (option_map (λ n. n + 1) o) (λ s. s < length order + 1)
      by None e = tt
      by (Some n) e = let low = (position-Some (λ x. x == k) order n 0 e).0 in omega (arith, low)

  own_before : WhereKept u.own (λ s. s < home_of u)
  own_before =
      subst (λ (o : Option ℕ). WhereKept o (λ s. s < home_of u)) (sym read.own)
      (subst (λ (n : ℕ). WhereKept (own_scope texts) (λ s. s < n + 1)) (sym definitions_same) (own_low texts.order texts.own))

  headless : (b : BlockTree) → IsChained (home_of u) b → b.block.scope < home_of u → b.tree.heading ≡ None
  headless b h low = by h.tree
    where
      by : HasTree (home_of u) b → b.tree.heading ≡ None
      by (inl k) = k.1.headless
      by (inr (inl k)) = let same = k.0 in absurd (omega (arith, low, same))
      by (inr (inr k)) = let high = k.0 in absurd (omega (arith, low, high))

  count : length (blocks_of u) < 2 ^ 32
  count =
      let agrees = ap length (blocks_agree texts u (trees_read texts u read)).blocks in
      let blocks = length-map (blocks_of u) (λ (b : BlockTree). b.block) in
      let streams = length-map (streams_of texts) (block_of (main_number texts) (own_scope texts) (streams_of texts)) in
      let few = streams_few texts unit in
      omega (arith, agrees, blocks, streams, few)

  pub unit_sound : Each (λ b. Each (IsImportedBefore u.source b.block.scope) (items_of b.tree)) (blocks_of u) → IsSoundUnit texts.names u
  unfolding standard_names
  unit_sound imports =
      record {
        standard = unit.standard;
        some = let e = ap length unit.standard.joined in omega (arith, e);
        few = let c = unit.countable in omega (arith, c);
        text = subst IsSoundText (sym read.source) (names_sound (source_of texts) unit.spelled);
        scopes = scopes_are texts u read;
        blocks = blocks_sound imports;
        count = count;
        own = own_before;
        headings = each_then (IsChained (home_of u)) (λ b. b.block.scope < home_of u → b.tree.heading ≡ None) (blocks_of u) headless (blocks_chained u (row_blocks.trees_read texts u read));
      }
