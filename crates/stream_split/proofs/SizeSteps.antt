-- The sizes of streams, one after another.
use Rattle.std.proofs.Common.{◌≡◌, ℕ, suc, List, [], ◌∷◌, ◌++◌, ap, sym, ◌∙◌, length, ◌<◌, ◌+◌, arith, get_or, take, map}
use Rattle.std.proofs.Math.Seq.{take-suc}
use Rattle.stream_split.specs.declared.streams.StreamTokens.{StreamTokens}
use Rattle.stream_split.specs.Sizes.{room_of, sizes_of}
use Rattle.stream_split.specs.Views.{stream_view}
use Rattle.stream_split.proofs.Definitions.{map_append}

pub sizes_step : (xs : List StreamTokens) (i : ℕ) (d : StreamTokens) (out new : List ℕ) (n : ℕ) → i < length xs → out ≡ sizes_of (map stream_view (take i xs))
    → new ≡ out ++ (n ∷ []) → n ≡ room_of (stream_view (get_or xs i d)) → new ≡ sizes_of (map stream_view (take (i + 1) xs))
sizes_step xs i d out new n l h e m =
    let one : i + 1 ≡ suc i = omega arith in
    e ∙ ap (λ z. z ++ (n ∷ [])) h ∙ ap (λ z. sizes_of (map stream_view (take i xs)) ++ (z ∷ [])) m
    ∙ ap (λ z. 37 ∷ z) (sym (map_append room_of (map stream_view (take i xs)) (stream_view (get_or xs i d) ∷ [])))
    ∙ ap sizes_of (sym (map_append stream_view (take i xs) (get_or xs i d ∷ [])) ∙ ap (map stream_view) (sym (take-suc xs i d l) ∙ ap (λ z. take z xs) (sym one)))
