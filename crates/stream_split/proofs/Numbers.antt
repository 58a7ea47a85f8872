-- The sort of a kind of token, by its number.
use Rattle.std.proofs.Common.{◌≡◌, ℕ, List, [], ◌∷◌, refl, ◌==◌, cond}
use Rattle.m2_base.specs.declared.kind.TokenKind.{TokenKind}
use Rattle.m2_base.specs.declared.kind.TokenKind.TheVariants as kinds
use Rattle.m2_base.specs.KindNumbers.{kind_number}
use Rattle.ll_grammar.specs.LookAhead.{member}
use Rattle.stream_split.specs.declared.sorts.Sort.{Sort}
use Rattle.stream_split.specs.declared.sorts.Sort.TheVariants.{Stop, Word, Procedure, Opener, Closer, Left, Right, Semicolon, Other}
use Rattle.stream_split.specs.Cut.{sort}

abbrev opens : List ℕ
opens = 39 ∷ 14 ∷ 26 ∷ 48 ∷ 24 ∷ 30 ∷ 49 ∷ []

unfoldable pub sort_of_number : ℕ → Sort
sort_of_number k =
    cond (k == 0) Stop (cond (k == 1) Word (cond (k == 37) Procedure (cond (member k opens) Opener (cond (k == 21) Closer (cond (k == 58) Left (cond (k == 70) Right (cond (k == 57) Semicolon Other)))))))

pub sort_is : (k : TokenKind) → sort_of_number (kind_number k) ≡ sort k
unfolding sort_of_number
sort_is kinds.EndOfText = refl
sort_is k = refl
