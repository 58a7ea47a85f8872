-- The names of a text's tokens fit what its front has of them.
use Rattle.std.proofs.Common.{◌≡◌, ℕ, ◌<◌, ◌≤◌, ◌^◌, ◌==◌, Bool, true, false, ◌&&◌, List, [], ◌∷◌, length, refl, ◌∙◌, ap, subst, arith, if◌then◌else◌}
use Rattle.std.specs.Prelude.{nat_lt}
use Rattle.std.specs.List.{AllZip}
use Rattle.std.proofs.lemmas.Bool.{lt-ltb}
use Rattle.m2_base.specs.KindNumbers.{kind_number}
use Rattle.m2_base.specs.Lists.{Each}
use Rattle.m2_base.specs.Meanings.{Meaning, blank, name, number, character, string, fixed, bad, meaning_of}
use Rattle.m2_base.specs.Tokens.{AreTokens, Placed, placed, IsToken, Means}
use Rattle.m2_base.specs.Units.{HasValue}
use Rattle.m2_base.specs.declared.kind.TokenKind.{TokenKind}
use Rattle.m2_base.specs.declared.kind.TokenKind.TheVariants as kind
use Rattle.m2_base.specs.declared.token.Token.{Token}
use Rattle.m2_lex.proofs.TextUnit.{text_listed}
use Rattle.m2_parse.specs.Fitting.{name_fits, names_fit}

both_true : (a b : Bool) → a ≡ true → b ≡ true → (a && b) ≡ true
both_true true b e f = f
both_true false b e f = e

-- the most that a name has, if the token is one
abbrev name_limit : ℕ → ℕ
name_limit n = if n == kind_number kind.Identifier then 2 ^ 32 else 2 ^ 64

some_of_limit : (n : ℕ) → nat_lt 0 (name_limit n) ≡ true
some_of_limit n = go (n == kind_number kind.Identifier)
  where
    go : (a : Bool) → nat_lt 0 (if a then 2 ^ 32 else 2 ^ 64) ≡ true
    go true = refl
    go false = refl

fit_at : (t : Token) (k : TokenKind) (a : ℕ) → t.kind ≡ k → name_limit (kind_number k) ≡ a → t.value < a → name_fits t ≡ true
fit_at t k a e l h = ap (λ x. nat_lt t.value (name_limit (kind_number x))) e ∙ ap (λ n. nat_lt t.value n) l ∙ lt-ltb t.value a h

valued : (names : List (List ℕ)) (t : Token) (k : TokenKind) → t.kind ≡ k → HasValue names t.kind t.value → HasValue names k t.value
valued names t k e h = subst (λ x. HasValue names x t.value) e h

token_fits : (names : List (List ℕ)) (t : Token) (m : Meaning) → length names < 2 ^ 32 → HasValue names t.kind t.value → Means names m t → name_fits t ≡ true
token_fits names t blank few v means = absurd means
token_fits names t (name text) few v means =
    let named = valued names t kind.Identifier means.0 v in fit_at t kind.Identifier (2 ^ 32) means.0 refl (omega (arith, named.numbered.there, few))
token_fits names t (number value) few v means = let most = valued names t kind.Number means.0 v in fit_at t kind.Number (2 ^ 64) means.0 refl (omega (arith, most))
token_fits names t (character value) few v means =
    let most = valued names t kind.Character means.0 v in fit_at t kind.Character (2 ^ 64) means.0 refl (omega (arith, most))
token_fits names t (string bytes) few v means =
    let numbered = valued names t kind.«String» means.0 v in fit_at t kind.«String» (2 ^ 64) means.0 refl (omega (arith, numbered.there, few))
token_fits names t (bad code) few v means = let codes = valued names t kind.Bad means.0 v in fit_at t kind.Bad (2 ^ 64) means.0 refl (omega (arith, codes.1))
token_fits names t (fixed k) few v means = ap (λ n. nat_lt n (name_limit (kind_number t.kind))) means.1 ∙ some_of_limit (kind_number t.kind)

tokens_fit : (names : List (List ℕ)) (ps : List Placed) (ts : List Token) → length names < 2 ^ 32 → Each (λ (t : Token). HasValue names t.kind t.value) ts → AllZip (IsToken names) ps ts → names_fit ts ≡ true
tokens_fit names [] [] few v each = refl
tokens_fit names [] (t ∷ ts) few v each = absurd each
tokens_fit names (p ∷ ps) [] few v each = absurd each
tokens_fit names (p ∷ ps) (t ∷ ts) few v each =
    both_true (name_fits t) (names_fit ts) (token_fits names t (meaning_of p.lexeme) few v.0 each.0.means) (tokens_fit names ps ts few v.1 each.1)

-- the names of a text's tokens fit
pub text_fits : (old names : List (List ℕ)) (text : List ℕ) (tokens : List Token) → AreTokens old names text tokens → length text ≤ 1048576 → length names < 2 ^ 32 → names_fit tokens ≡ true
text_fits old names text tokens are short few = tokens_fit names (placed are.lexemes) tokens few (text_listed old names text tokens are short).1 are.each
