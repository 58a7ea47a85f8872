-- Procedures and their levels in texts that were calculated apart.
use Rattle.std.specs.Prelude.{◌≡◌, ℕ, ◌+◌, List, [], ◌∷◌, ◌++◌, Some, None, replicate, flat_map}
use Rattle.std.proofs.Common.{refl}
use Rattle.m2_base.specs.Statics.BlockLimits.{Begun, too_deep_procedure, procedures_of, limit_of}
use Rattle.m2_base.specs.declared.kind.TokenKind.{TokenKind}
use Rattle.m2_base.specs.declared.kind.TokenKind.TheVariants.{EndOfText, Identifier, Begin, End, If, Module, Procedure, Record, Then, «Type», Equal, Period, Semicolon, LeftParenthesis, RightParenthesis}
use Rattle.m2_base.specs.declared.token.Token.{Token}

-- tokens of these kinds, from this number on
abbrev tokens_from : ℕ → List TokenKind → List Token
tokens_from n [] = []
tokens_from n (k ∷ kinds) = record { kind = k; value = 0; at = n; line = 1; column = n + 1 } ∷ tokens_from (n + 1) kinds

abbrev begun : ℕ → ℕ → Begun
begun at level = record { at = at; level = level }

-- MODULE A; and 17 times PROCEDURE p); and END A.
-- A bracket that closes nothing leaves the heading as it is, so each procedure stands in the one before it.
abbrev nested : List Token
nested = tokens_from 0 (Module ∷ Identifier ∷ Semicolon
    ∷ (flat_map (λ (k : ℕ). Procedure ∷ Identifier ∷ RightParenthesis ∷ Semicolon ∷ []) (replicate 17 0) ++ End ∷ Identifier ∷ Period ∷ EndOfText ∷ []))

nested_too_deep : limit_of nested ≡ Some (too_deep_procedure 67)
nested_too_deep = refl

-- MODULE A; PROCEDURE p(;); TYPE t = RECORD END; PROCEDURE q; BEGIN IF END END q; END p; PROCEDURE r; END r; END A.
abbrev apart : List Token
apart = tokens_from 0 (Module ∷ Identifier ∷ Semicolon
    ∷ Procedure ∷ Identifier ∷ LeftParenthesis ∷ Semicolon ∷ RightParenthesis ∷ Semicolon
    ∷ «Type» ∷ Identifier ∷ Equal ∷ Record ∷ End ∷ Semicolon
    ∷ Procedure ∷ Identifier ∷ Semicolon ∷ Begin ∷ If ∷ Then ∷ End ∷ End ∷ Identifier ∷ Semicolon
    ∷ End ∷ Identifier ∷ Semicolon
    ∷ Procedure ∷ Identifier ∷ Semicolon ∷ End ∷ Identifier ∷ Semicolon
    ∷ End ∷ Identifier ∷ Period ∷ EndOfText ∷ [])

apart_levels : procedures_of apart ≡ begun 3 1 ∷ begun 15 2 ∷ begun 28 1 ∷ []
apart_levels = refl

apart_within : limit_of apart ≡ None
apart_within = refl
