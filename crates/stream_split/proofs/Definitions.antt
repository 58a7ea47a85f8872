-- The streams of definition texts, one after another.
use Rattle.std.proofs.Common.{◌≡◌, ℕ, zero, suc, List, [], ◌∷◌, ◌++◌, refl, sym, ap, ◌∙◌, length, ◌<◌, ◌+◌, arith, get_or, take, map, slice_get}
use Rattle.std.proofs.Math.Seq.{take-suc}
use Rattle.m2_base.specs.Units.{TextOf}
use Rattle.stream_split.specs.declared.streams.StreamTokens.{StreamTokens}
use Rattle.stream_split.specs.Streams.{StreamOf, definition_streams, definition_stream, tokens_in}
use Rattle.stream_split.specs.Views.{stream_view}

definitions_append : (j : ℕ) (texts : List TextOf) (xs ys : List ℕ)
    → definition_streams j texts (xs ++ ys) ≡ definition_streams j texts xs ++ definition_streams (j + length xs) texts ys
definitions_append j texts [] ys = ap (λ z. definition_streams z texts ys) (plus j)
  where
    plus : (j : ℕ) → j ≡ j + 0
    plus j = omega arith
definitions_append j texts (x ∷ xs) ys =
    ap (λ z. definition_stream j x (tokens_in (slice_get texts x)) ∷ z) (definitions_append (suc j) texts xs ys ∙ ap (λ z. definition_streams (suc j) texts xs ++ definition_streams z texts ys) (plus j (length xs)))
  where
    plus : (j n : ℕ) → suc j + n ≡ j + suc n
    plus j n = omega arith

pub map_append : {A B : Type 0} (f : A → B) (xs ys : List A) → map f (xs ++ ys) ≡ map f xs ++ map f ys
map_append f [] ys = refl
map_append f (x ∷ xs) ys = ap (λ z. f x ∷ z) (map_append f xs ys)

take_length : {A : Type 0} (xs : List A) (i : ℕ) → i < length xs → length (take i xs) ≡ i
take_length [] i h = let no : ⊥ = omega (arith, h) in absurd no
take_length (x ∷ xs) zero h = refl
take_length (x ∷ xs) (suc i) h = ap suc (take_length xs i (omega (arith, h)))

-- one more text
pub definitions_step : (texts : List TextOf) (order : List ℕ) (i n : ℕ) (xs ys : List StreamTokens) (v : StreamTokens) → i < length order
    → map stream_view xs ≡ definition_streams 1 texts (take i order) → ys ≡ xs ++ (v ∷ []) → n ≡ 1 + i
    → stream_view v ≡ definition_stream n (get_or order i 0) (tokens_in (slice_get texts (get_or order i 0)))
    → map stream_view ys ≡ definition_streams 1 texts (take (i + 1) order)
definitions_step texts order i n xs ys v l h e m w =
    let one : i + 1 ≡ suc i = omega arith in
    let k : ℕ = get_or order i 0 in
    ap (map stream_view) e ∙ map_append stream_view xs (v ∷ []) ∙ ap (λ z. z ++ (stream_view v ∷ [])) h
    ∙ ap (λ z. definition_streams 1 texts (take i order) ++ (z ∷ [])) (w ∙ ap (λ z. definition_stream z k (tokens_in (slice_get texts k))) m)
    ∙ ap (λ z. definition_streams 1 texts (take i order) ++ definition_streams (1 + z) texts (k ∷ [])) (sym (take_length order i l))
    ∙ sym (definitions_append 1 texts (take i order) (k ∷ [])) ∙ ap (definition_streams 1 texts) (sym (take-suc order i 0 l) ∙ ap (λ z. take z order) (sym one))

-- of two lists of streams
pub joined : (xs ys zs : List StreamTokens) (a b : List StreamOf) → zs ≡ xs ++ ys → map stream_view xs ≡ a → map stream_view ys ≡ b → map stream_view zs ≡ a ++ b
joined xs ys zs a b e f g = ap (map stream_view) e ∙ map_append stream_view xs ys ∙ ap (λ z. z ++ map stream_view ys) f ∙ ap (λ z. a ++ z) g

pub definitions_length : (j : ℕ) (texts : List TextOf) (order : List ℕ) → length (definition_streams j texts order) ≡ length order
definitions_length j texts [] = refl
definitions_length j texts (k ∷ order) = ap suc (definitions_length (suc j) texts order)

map_length : {A B : Type 0} (f : A → B) (xs : List A) → length (map f xs) ≡ length xs
map_length f [] = refl
map_length f (x ∷ xs) = ap suc (map_length f xs)

-- the number of the main module's stream
pub main_is : (texts : List TextOf) (order : List ℕ) (xs : List StreamTokens) (n m : ℕ) → map stream_view xs ≡ definition_streams 1 texts order → m ≡ length xs
    → n ≡ 1 + m → n ≡ length order + 1
main_is texts order xs n m h l e =
    let a = ap length h in let b = map_length stream_view xs in let c = definitions_length 1 texts order in omega (arith, a, b, c, l, e)
