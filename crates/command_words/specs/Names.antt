-- The names of modules, as a command line gives them.
use Rattle.std.specs.Prelude.{ℕ, Bool, false, ◌&&◌, ◌||◌, not, nat_le, is_some, List, [], ◌∷◌, length, codes}
use Rattle.std.specs.List.{list_all}
use Rattle.std.specs.Str.{bytes_eq}
use Rattle.m2_base.specs.Letters.{is_letter, goes_on}
use Rattle.m2_base.specs.Kinds.{kind_in, reserved_words}

-- a letter or underscore, and then letters, underscores and digits
abbrev pub is_identifier : List ℕ → Bool
is_identifier [] = false
is_identifier (b ∷ bs) = is_letter b && list_all goes_on bs

-- a module's name: an identifier of at most 64 bytes that is no reserved word and isn't the library module's
abbrev pub is_name : List ℕ → Bool
is_name word = is_identifier word && nat_le (length word) 64
    && not (is_some (kind_in reserved_words word) || bytes_eq word (codes "InOut"))
