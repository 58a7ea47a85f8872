-- What a token's value has to fit: a name, the bytes of a string and the number of a stream are below 2^32, the code
-- of a fault is below 256.
use Rattle.std.specs.Prelude.{ℕ, ◌^◌, Bool, true, ◌&&◌, List, [], ◌∷◌, map, nat_lt, ◌==◌, if◌then◌else◌}
use Rattle.m2_base.specs.declared.kind.TokenKind.TheVariants.{Identifier, String, Bad, Cut}
use Rattle.m2_base.specs.declared.token.Token.{Token}
use Rattle.m2_base.specs.KindNumbers.{kind_number}
use Rattle.ll_grammar.specs.LookAhead.{member}

-- the values of tokens of the kind of this number are below it
abbrev pub limit_of : ℕ → ℕ
limit_of number =
    if member number (map kind_number (Identifier ∷ String ∷ Cut ∷ [])) then 2 ^ 32 else
    (if number == kind_number Bad then 256 else 2 ^ 64)

-- the value of this token fits
abbrev pub fits : Token → Bool
fits t = nat_lt t.value (limit_of (kind_number t.kind))

-- the value of each token fits
abbrev pub all_fit : List Token → Bool
all_fit [] = true
all_fit (t ∷ ts) = fits t && all_fit ts

-- the name of this token fits, if it is one
abbrev pub name_fits : Token → Bool
name_fits t = nat_lt t.value (if kind_number t.kind == kind_number Identifier then 2 ^ 32 else 2 ^ 64)

abbrev pub names_fit : List Token → Bool
names_fit [] = true
names_fit (t ∷ ts) = name_fits t && names_fit ts
