-- What a read takes from the front of the bytes that are left.
use Rattle.std.proofs.Common.{◌≡◌, ◌≤◌, ◌+◌, ℕ, List, ◌++◌, length, take, drop, ap, sym, ◌∙◌, arith}
use Rattle.std.proofs.lemmas.List.{take-append-le, take-append-drop, take-take, drop-drop}

-- Bytes that were copied into the front of a buffer, and then what is left, are what was left before.
pub front-copied : (bytes rest copied : List ℕ) (read n : ℕ) → copied ≡ take n (drop read bytes) → n ≤ length copied
    → drop read bytes ≡ take n (copied ++ rest) ++ drop (read + n) bytes
front-copied bytes rest copied read n same long =
    let front : take n (copied ++ rest) ≡ take n (drop read bytes) =
    take-append-le n copied rest long ∙ ap (take n) same ∙ take-take n n (drop read bytes) (omega arith) in
    sym (ap (λ f. f ++ drop (read + n) bytes) front
    ∙ ap (λ b. take n (drop read bytes) ++ b) (sym (drop-drop n read bytes))
    ∙ take-append-drop n (drop read bytes))
