-- The bytes of tokens, one after another.
use Rattle.std.proofs.Common.{◌≡◌, ◌∙◌, ℕ, zero, suc, ◌+◌, ◌<◌, List, [], ◌∷◌, ◌++◌, length, take, sym, ap, append_assoc, arith}
use Rattle.std.specs.Prelude.{slice_index_or}
use Rattle.std.proofs.lemmas.List.{append-nil}
use Rattle.m2_base.specs.declared.token.Token.{Token}
use Rattle.definition_keys.specs.KeyBytes.{text_bytes, token_bytes}

text_suc : (names : List (List ℕ)) (ts : List Token) (k : ℕ) (d : Token) → k < length ts
    → text_bytes names (take (suc k) ts) ≡ text_bytes names (take k ts) ++ token_bytes names (slice_index_or ts k d)
text_suc names [] k d l = absurd (omega (arith, l))
text_suc names (t ∷ ts) zero d l = append-nil (token_bytes names t)
text_suc names (t ∷ ts) (suc k) d l =
    ap (λ (b : List ℕ). token_bytes names t ++ b) (text_suc names ts k d (omega (arith, l)))
    ∙ sym (append_assoc (token_bytes names t) (text_bytes names (take k ts)) (token_bytes names (slice_index_or ts k d)))

-- one more token
pub text_step : (names : List (List ℕ)) (ts : List Token) (k : ℕ) (d : Token) (old new : List ℕ) → k < length ts → old ≡ text_bytes names (take k ts)
    → new ≡ old ++ token_bytes names (slice_index_or ts k d) → new ≡ text_bytes names (take (k + 1) ts)
text_step names ts k d old new l told e =
    let one : k + 1 ≡ suc k = omega arith in
    e ∙ ap (λ (b : List ℕ). b ++ token_bytes names (slice_index_or ts k d)) told ∙ sym (text_suc names ts k d l) ∙ ap (λ (n : ℕ). text_bytes names (take n ts)) (sym one)
