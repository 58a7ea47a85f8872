-- Reading one field from the front of the bytes: its value and the bytes behind it, or why there is none.
use Rattle.std.specs.Prelude.{◌≡◌, ℕ, zero, suc, Bool, true, List, [], ◌∷◌, ◌++◌, length, take, drop, Result, Ok, Err}
use Rattle.std.specs.Prelude.{nat_lt, ◌==◌, if◌then◌else◌}
use Rattle.std.specs.Int.{Width, w32, byte_len, from_le_bytes}
use Rattle.object_file.specs.declared.fault.Stop.{Stop}
use Rattle.object_file.specs.declared.fault.Stop.TheVariants as stops
use Rattle.object_file.specs.Formats.{Format, done, exact, number, text, raw, Bad, ended, not_valid}

infixl 10 ◌then◌
abbrev pub ◌then◌ : {X Y : Type 0} → Result X Bad → (X → Result Y Bad) → Result Y Bad
(Ok x) then f = f x
(Err e) then f = Err e

abbrev pub wide_at : Width → List ℕ → Result (ℕ × List ℕ) Bad
wide_at w bytes = if nat_lt (length bytes) (byte_len w) then Err ended
    else Ok (from_le_bytes w (take (byte_len w) bytes), drop (byte_len w) bytes)

abbrev pub number_at : List ℕ → Result (ℕ × List ℕ) Bad
number_at = wide_at w32

-- so many bytes
abbrev pub raw_at : ℕ → List ℕ → Result (List ℕ × List ℕ) Bad
raw_at n bytes = if nat_lt (length bytes) n then Err ended else Ok (take n bytes, drop n bytes)

unfoldable pub text_at : List ℕ → Result (List ℕ × List ℕ) Bad
text_at bytes = number_at bytes then λ n. raw_at n.0 n.1

-- the bytes behind the expected ones, or the first that differs
unfoldable pub match_at : List ℕ → List ℕ → Result (List ℕ) Bad
match_at [] bytes = Ok bytes
match_at (c ∷ expected) [] = Err ended
match_at (c ∷ expected) (b ∷ bytes) =
    if b == c then match_at expected bytes else Err (record { left = length (b ∷ bytes); code = 3 })

unfoldable pub exact_at : List ℕ → List ℕ → Result (List ℕ) Bad
exact_at expected bytes = if nat_lt (length bytes) (length expected) then Err ended else match_at expected bytes

-- the field that begins these bytes is valid
abbrev pub valid_at : Bool → List ℕ → Result Bool Bad
valid_at ok bytes = if ok then Ok true else Err (not_valid bytes)

unfoldable pub many_at : {A : Type 0} → (List A → List ℕ → Result (A × List ℕ) Bad) → ℕ → List A → List ℕ
    → Result (List A × List ℕ) Bad
many_at one zero before bytes = Ok (before, bytes)
many_at one (suc n) before bytes = one before bytes then λ x. many_at one n (before ++ x.0 ∷ []) x.1

unfoldable pub counted_at : {A : Type 0} → (ℕ → Bool) → (List A → List ℕ → Result (A × List ℕ) Bad) → List ℕ
    → Result (List A × List ℕ) Bad
counted_at ok one bytes = number_at bytes then λ n. (valid_at (ok n.0) bytes then λ _. many_at one n.0 [] n.1)

-- nothing follows
abbrev pub ends_at : List ℕ → Result Bool Bad
ends_at [] = Ok true
ends_at (b ∷ more) = Err (record { left = length (b ∷ more); code = 2 })

-- reading by a format
unfoldable pub read : {A : Type 0} → Format A → List ℕ → Result (A × List ℕ) Bad
read (done x) bytes = Ok (x, bytes)
read (exact e next) bytes = exact_at e bytes then λ rest. read next rest
read (number ok next) bytes = number_at bytes then λ n. (valid_at (ok n.0) bytes then λ _. read (next n.0) n.1)
read (text ok next) bytes = text_at bytes then λ t. (valid_at (ok t.0) bytes then λ _. read (next t.0) t.1)
read (raw n next) bytes = raw_at n bytes then λ t. read (next t.0) t.1

-- what a function returned, seen by view, is what reading gives, unless memory ran out
abbrev pub Fails : {Y : Type 0} → Stop → Result Y Bad → Type 0
Fails stops.Memory found = Unit {0}
Fails (stops.Bad left code) found = found ≡ Err (record { left = left; code = code })

abbrev pub Gives : {X Y : Type 0} → (X → Y) → Result X Stop → Result Y Bad → Type 0
Gives view (Ok x) found = found ≡ Ok (view x)
Gives view (Err e) found = Fails e found
