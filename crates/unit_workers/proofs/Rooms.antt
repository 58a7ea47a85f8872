-- The room of each scope is small.
use Rattle.std.specs.Prelude.{◌≡◌, refl, ℕ, zero, suc, ◌<◌, ◌^◌, List, [], ◌∷◌, length, map, slice_index, All}
use Rattle.std.proofs.Common.{arith}
use Rattle.m2_base.specs.declared.limits.TheConstants.{STANDARD_ROWS}
use Rattle.stream_split.specs.Sizes.{room_of, sizes_of}
use Rattle.stream_split.specs.Views.{stream_view}
use Rattle.stream_split.specs.declared.streams.StreamTokens.{StreamTokens}
use Rattle.stream_split.proofs.BroughtRows.{room_over}

low_rooms : (streams : List StreamTokens) → All (λ s. length s.tokens.items < 2 ^ 30) streams → (k : ℕ) → k < length (map room_of (map stream_view streams)) → slice_index (map room_of (map stream_view streams)) k < 2 ^ 31
low_rooms [] short k low = absurd (omega (arith, low))
low_rooms (s ∷ streams) short zero low =
    let over = room_over (stream_view s) in
    let few = short 0 s (omega arith) in
    omega (arith, over, few)
low_rooms (s ∷ streams) short (suc k) low = low_rooms streams (λ i d l. short (suc i) d (omega (arith, l))) k (omega (arith, low))

pub narrow : (streams : List StreamTokens) → All (λ s. length s.tokens.items < 2 ^ 30) streams → (k : ℕ) → k < length (sizes_of (map stream_view streams)) → slice_index (sizes_of (map stream_view streams)) k < 2 ^ 31
narrow streams short zero low = let rows : STANDARD_ROWS ≡ 37 = refl in omega (arith, rows)
narrow streams short (suc k) low = low_rooms streams short k (omega (arith, low))
