-- What the tree of one stream is like, whatever the other streams are.
use Rattle.std.proofs.Common.{◌≡◌, ℕ, zero, suc, ◌<◌, ◌≤◌, ◌^◌, All, List, [], ◌∷◌, arith, length, subst}
use Rattle.std.specs.Prelude.{Some, flat_map, slice_get, slice_index}
use Rattle.std.proofs.lemmas.List.Elements.{All-head, All-tail}
use Rattle.m2_base.proofs.ReadTrees.{items_are_read, statements_are_read}
use Rattle.m2_base.specs.Lists.{Each}
use Rattle.m2_base.specs.Statics.Items.{items_of}
use Rattle.m2_base.specs.Statics.ReadStatements.{AreReadStatements}
use Rattle.m2_base.specs.Statics.ReadTrees.{IsReadItem}
use Rattle.m2_base.specs.Statics.Shapes.{item_shapes}
use Rattle.m2_base.specs.Trees.{Stream}
use Rattle.m2_base.specs.Units.{IsUnit, UnitTexts}
use Rattle.stream_split.specs.Agreement.{SpellsStream}
use Rattle.stream_split.specs.Rooms.{most_rows}
use Rattle.stream_split.specs.Sizes.{sizes_of}
use Rattle.stream_split.specs.Streams.{StreamOf, streams_of}
use Rattle.stream_split.proofs.Lengths.{IsShort, unit_short}
use Rattle.stream_split.proofs.RowCounts.{rows_are_shapes, stream_rows}
use Rattle.stream_split.proofs.StreamCounts.{row_room}
use Rattle.stream_split.proofs.ReadTokens.{IsReadStream, streams_read}

each_got : {A : Type 0} (P : A → Type 0) (xs : List A) (k : ℕ) (x : A) → Each P xs → slice_get xs k ≡ Some x → P x
each_got P [] k x h g = cc
each_got P (y ∷ xs) zero x h g = let same : y ≡ x = cc in subst P same h.0
each_got P (y ∷ xs) (suc k) x h g = each_got P xs k x h.1 g

all_got : {A : Type 0} (P : A → Type 0) (xs : List A) (k : ℕ) (x : A) → All P xs → slice_get xs k ≡ Some x → P x
all_got P [] k x h g = cc
all_got P (y ∷ xs) zero x h g = let same : y ≡ x = cc in subst P same (All-head P y xs h)
all_got P (y ∷ xs) (suc k) x h g = all_got P xs k x (All-tail P y xs h) g

module _ (texts : UnitTexts) (k : ℕ) (s : StreamOf) (tree : Stream) (unit : IsUnit texts) (there : slice_get (streams_of texts) k ≡ Some s) (spelled : SpellsStream tree s) where
  -- its tokens are as read
  pub tokens_read : IsReadStream texts.names s
  tokens_read = each_got (IsReadStream texts.names) (streams_of texts) k s (streams_read texts unit) there

  -- and so are its items
  pub stream_items : Each (IsReadItem texts.names) (items_of tree)
  stream_items = items_are_read texts.names s.kind tree s.tokens spelled tokens_read

  -- and its statements
  pub stream_statements : AreReadStatements texts.names tree.body
  stream_statements = statements_are_read texts.names s.kind tree s.tokens spelled tokens_read

  -- fewer rows than numbers of 30 bits
  pub stream_few : length (flat_map item_shapes (items_of tree)) < 2 ^ 30
  stream_few =
      let rows = stream_rows tree s spelled in
      let shapes = rows_are_shapes tree in
      let short = all_got IsShort (streams_of texts) k s (unit_short texts unit) there in
      omega (arith, rows, shapes, short)

-- there is room for its rows, and for those that its imports bring
pub stream_room : (texts : UnitTexts) (k : ℕ) (s : StreamOf) (tree : Stream) → slice_get (streams_of texts) k ≡ Some s → SpellsStream tree s → most_rows tree ≤ slice_index (sizes_of (streams_of texts)) s.stream
stream_room = row_room
