-- The standard names, and scope 0, whose rows they are.
use Rattle.std.specs.Prelude.{ℕ, ◌+◌, Bool, ◌&&◌, nat_le, List, [], ◌∷◌, ◌++◌, map, pos, None}
use Rattle.m2_base.specs.Rows.{Row, Place, at_place, row_of, RowMeaning, Const, TypeName, Standard, Broken, Integer}
use Rattle.m2_base.specs.Rows.{Cardinal, Character, Nil, Text, Whole, Enum, Subrange, Set, ProcType}

-- the types of scope 0, by their places
abbrev pub integer : Place
integer = at_place 0 0

abbrev pub cardinal : Place
cardinal = at_place 0 1

abbrev pub character : Place
character = at_place 0 2

abbrev pub boolean : Place
boolean = at_place 0 3

-- 0..31, the base of BITSET
abbrev pub bit_range : Place
bit_range = at_place 0 4

abbrev pub bitset : Place
bitset = at_place 0 5

abbrev pub proc_type : Place
proc_type = at_place 0 6

-- the type of NIL
abbrev pub nil_type : Place
nil_type = at_place 0 7

-- the type of strings
abbrev pub text_type : Place
text_type = at_place 0 8

-- the type of whole constants
abbrev pub whole : Place
whole = at_place 0 9

-- the type of parts in error
abbrev pub broken : Place
broken = at_place 0 10

-- a standard name has a number from 1 to 26
abbrev pub is_standard : ℕ → Bool
is_standard name = nat_le 1 name && nat_le name 26

-- the place of a standard name
abbrev pub standard_place : ℕ → Place
standard_place name = at_place 0 (name + 10)

-- the names, in the order of their numbers, with what they mean
abbrev pub standard_meanings : List RowMeaning
standard_meanings =
    TypeName integer ∷ TypeName cardinal ∷ TypeName character ∷ TypeName boolean ∷ TypeName bitset ∷ TypeName proc_type
    ∷
    Const boolean (pos 1) 0 ∷ Const boolean (pos 0) 0 ∷ Const nil_type (pos 0) 0 ∷
    Standard 10 ∷ Standard 11 ∷ Standard 12 ∷ Standard 13 ∷ Standard 14 ∷ Standard 15 ∷ Standard 16 ∷ Standard 17 ∷
    Standard 18 ∷ Standard 19 ∷ Standard 20 ∷ Standard 21 ∷ Standard 22 ∷ Standard 23 ∷ Standard 24 ∷ Standard 25 ∷
    Standard 26 ∷ []

-- rows of the names from this number on
abbrev pub named_rows : ℕ → List RowMeaning → List Row
named_rows n [] = []
named_rows n (m ∷ ms) = row_of n 0 m ∷ named_rows (n + 1) ms

-- the 37 rows of scope 0: the types without names, then the standard names
abbrev pub standard_rows : List Row
standard_rows =
    map (row_of 0 0)
    (Integer ∷ Cardinal ∷ Character ∷ Enum 2 ∷ Subrange cardinal (pos 0) (pos 31) ∷ Set bit_range ∷
    ProcType None 0 6 ∷ Nil ∷ Text ∷ Whole ∷ Broken ∷ [])
    ++ named_rows 1 standard_meanings
