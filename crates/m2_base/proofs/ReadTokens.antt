-- Tokens whose values are those of their kinds are as read.
use Rattle.std.proofs.Common.{◌≡◌, ◌≢◌, ℕ, ◌+◌, ◌<◌, ◌^◌, List, [], ◌∷◌, sym, ◌∙◌, ap, subst, arith}
use Rattle.std.specs.Prelude.{slice_index_or}
use Rattle.std.proofs.lemmas.Bool.{false≢true}
use Rattle.m2_base.specs.KindNumbers.{kind_number}
use Rattle.m2_base.specs.Lists.{Each, IsPrefixOf}
use Rattle.m2_base.specs.Names.{standard_names}
use Rattle.m2_base.specs.Statics.ReadTrees.{IsReadName, IsReadString, IsReadToken}
use Rattle.m2_base.specs.Units.{AreNumbered, HasValue, IsIdentifier, IsInner, IsNamed}
use Rattle.m2_base.specs.declared.kind.TokenKind.{TokenKind}
use Rattle.m2_base.specs.declared.kind.TokenKind.TheVariants as kind
use Rattle.m2_base.specs.declared.token.Token.{Token}

-- name 0 is the empty text
first_is_empty : (names : List (List ℕ)) → IsPrefixOf standard_names names → slice_index_or names 0 [] ≡ []
unfolding standard_names
first_is_empty names standard = ap (λ (all : List (List ℕ)). slice_index_or all 0 []) (sym standard.joined)

module _ (names : List (List ℕ)) (standard : IsPrefixOf standard_names names) where
  -- which no identifier spells
  not_empty : (value : ℕ) → IsNamed names value → value ≢ 0
  not_empty value named zero_is =
      let empty : slice_index_or names value [] ≡ [] = ap (λ (n : ℕ). slice_index_or names n []) zero_is ∙ first_is_empty names standard in
      let none : IsIdentifier [] = subst IsIdentifier empty named.spelled in
      absurd (false≢true none.one)

  name_read : (k : TokenKind) (value at : ℕ) → HasValue names k value → kind_number k ≡ kind_number kind.Identifier → IsReadName names (record { name = value; at = at })
  name_read kind.Identifier value at h e = record { some = not_empty value h; known = h.numbered.there }
  name_read _ value at h e = absurd (omega (arith, e))

  number_read : (k : TokenKind) (value : ℕ) → HasValue names k value → kind_number k ≡ kind_number kind.Number → value < 2 ^ 32
  number_read kind.Number value h e = omega (arith, h)
  number_read _ value h e = absurd (omega (arith, e))

  character_read : (k : TokenKind) (value : ℕ) → HasValue names k value → kind_number k ≡ kind_number kind.Character → value < 256
  character_read kind.Character value h e = omega (arith, h)
  character_read _ value h e = absurd (omega (arith, e))

  string_read : (k : TokenKind) (value : ℕ) → HasValue names k value → kind_number k ≡ kind_number kind.«String» → IsReadString names value
  string_read kind.«String» value h e = (h.there, (let short = h.short in omega (arith, short)))
  string_read _ value h e = absurd (omega (arith, e))

  -- a token that isn't the cut of a procedure
  token_read : (t : Token) → kind_number t.kind ≢ kind_number kind.Cut → HasValue names t.kind t.value → IsReadToken names t
  token_read t whole h =
      record {
        name = name_read t.kind t.value t.at h;
        number = number_read t.kind t.value h;
        character = character_read t.kind t.value h;
        text = string_read t.kind t.value h;
        cut = λ e. absurd (whole e);
      }

  inner_whole : (k : TokenKind) → IsInner k → kind_number k ≢ kind_number kind.Cut
  inner_whole kind.Cut h e = absurd h
  inner_whole _ h e = absurd (omega (arith, e))

  end_whole : (k : TokenKind) → k ≡ kind.EndOfText → kind_number k ≢ kind_number kind.Cut
  end_whole k is e = let zero_is : kind_number k ≡ 0 = ap kind_number is in absurd (omega (arith, zero_is, e))

  -- the tokens of a text
  pub tokens_read : (at : ℕ) (tokens : List Token) → AreNumbered at tokens → Each (λ token. HasValue names token.kind token.value) tokens → Each (IsReadToken names) tokens
  tokens_read at [] n h = absurd n
  tokens_read at (t ∷ []) n h = (token_read t (end_whole t.kind n.0) h.0, tt)
  tokens_read at (t ∷ u ∷ tokens) n h = (token_read t (inner_whole t.kind n.0) h.0, tokens_read (at + 1) (u ∷ tokens) n.2 h.1)
