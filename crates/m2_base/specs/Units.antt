-- The texts of a unit as plain data, and what every unit keeps.
use Rattle.std.specs.Prelude.{◌≡◌, ◌≢◌, ◌⊎◌, ℕ, ◌+◌, ◌<◌, ◌≤◌, ◌^◌, Bool, true, false, List, [], ◌∷◌, Option, Some}
use Rattle.std.specs.Prelude.{None, length, map, slice_get, slice_index_or, sum_by, IsTrue}
use Rattle.m2_base.specs.Lexemes.{is_lexeme}
use Rattle.m2_base.specs.Lists.{Each, IsIn, IsPrefixOf}
use Rattle.m2_base.specs.Meanings.{greatest_character, greatest_number, name, meaning_of}
use Rattle.m2_base.specs.Names.{standard_names}
use Rattle.m2_base.specs.declared.kind.TokenKind.{TokenKind}
use Rattle.m2_base.specs.declared.kind.TokenKind.TheVariants.{EndOfText, Identifier, Number, Character, «String», Bad}
use Rattle.m2_base.specs.declared.kind.TokenKind.TheVariants.{Cut, StreamEnd}
use Rattle.m2_base.specs.declared.token.Token.{Token}
use Rattle.m2_base.specs.declared.limits.TheConstants.{MOST_TEXT_BYTES, MOST_TEXTS, MOST_TOKENS, MOST_UNIT_TOKENS}

pub record TextOf : Type 0 where
  pub name : ℕ
  pub definition : Bool
  pub tokens : List Token

pub record UnitTexts : Type 0 where
  pub names : List (List ℕ)
  pub list : List TextOf
  pub order : List ℕ
  pub own : Option ℕ

abbrev pub unit_of : (names : List (List ℕ)) → List TextOf → (order : List ℕ) → (own : Option ℕ) → UnitTexts
unit_of names list order own = record { names = names; list = list; order = order; own = own }

-- ** What every unit keeps

-- the bytes are an identifier's
pub record IsIdentifier (bytes : List ℕ) : Type 0 where
  pub one : IsTrue (is_lexeme bytes)
  pub spells : meaning_of bytes ≡ name bytes

-- a text that a number may stand for: a name, or what stands between the quotes of a string
pub record IsSpelling (text : List ℕ) : Type 0 where
  pub short : length text ≤ MOST_TEXT_BYTES
  pub bytes : Each (λ byte. byte < 256) text

-- a name that a token or a text may have
pub record IsNumbered (names : List (List ℕ)) (number : ℕ) : Type 0 where
  pub there : number < length names
  pub short : length (slice_index_or names number []) ≤ MOST_TEXT_BYTES

-- the name of an identifier
pub record IsNamed (names : List (List ℕ)) (number : ℕ) : Type 0 where
  pub numbered : IsNumbered names number
  pub spelled : IsIdentifier (slice_index_or names number [])

-- what a token of this kind has as its value
abbrev pub HasValue : List (List ℕ) → TokenKind → ℕ → Type 0
HasValue names Identifier value = IsNamed names value
HasValue names «String» value = IsNumbered names value
HasValue names Number value = value ≤ greatest_number
HasValue names Character value = value ≤ greatest_character
HasValue names Bad value = (10 ≤ value) × (value ≤ 13)
HasValue names other value = Unit {0}

-- a token that stands before the end of a text
abbrev pub IsInner : TokenKind → Type 0
IsInner EndOfText = ⊥
IsInner Cut = ⊥
IsInner StreamEnd = ⊥
IsInner other = Unit {0}

-- these are the tokens from number `at` on: each has its own number, and the last and no other is the end
abbrev pub AreNumbered : (at : ℕ) → List Token → Type 0
AreNumbered at [] = ⊥
AreNumbered at (last ∷ []) = (last.kind ≡ EndOfText) × (last.at ≡ at)
AreNumbered at (token ∷ next ∷ tokens) = IsInner token.kind × (token.at ≡ at) × AreNumbered (at + 1) (next ∷ tokens)

pub record IsText (names : List (List ℕ)) (t : TextOf) : Type 0 where
  pub named : IsNamed names t.name
  pub count : length t.tokens ≤ MOST_TOKENS
  pub numbered : AreNumbered 0 t.tokens
  pub values : Each (λ token. HasValue names token.kind token.value) t.tokens

-- the first is the main text, and all others are definition texts
abbrev pub HasOneMain : List TextOf → Type 0
HasOneMain [] = ⊥
HasOneMain (main ∷ texts) = (main.definition ≡ false) × Each (λ t. t.definition ≡ true) texts

-- no two are equal
abbrev pub AllDiffer : {A : Type 0} → List A → Type 0
AllDiffer [] = Unit {0}
AllDiffer (x ∷ xs) = (IsIn x xs → ⊥) × AllDiffer xs

-- the definition texts
abbrev pub definitions_of : List TextOf → List TextOf
definitions_of [] = []
definitions_of (main ∷ texts) = texts

-- the number of a definition text
abbrev pub IsDefinition : List TextOf → ℕ → Type 0
IsDefinition texts k = (0 < k) × (k < length texts)

abbrev pub IsOwn : List TextOf → Option ℕ → Type 0
IsOwn texts None = Unit {0}
IsOwn texts (Some k) = IsDefinition texts k

-- Every unit keeps this. Its names begin with those of every unit.
pub record IsUnit (u : UnitTexts) : Type 0 where
  pub standard : IsPrefixOf standard_names u.names
  pub countable : length u.names < 2 ^ 32
  pub spelled : Each IsSpelling u.names
  pub main : HasOneMain u.list
  pub few : length u.list ≤ MOST_TEXTS
  pub tokens : sum_by (λ t. length t.tokens) u.list ≤ MOST_UNIT_TOKENS
  pub texts : Each (IsText u.names) u.list
  pub differ : AllDiffer (map (λ t. t.name) (definitions_of u.list))
  pub ordered : Each (IsDefinition u.list) u.order
  pub once : AllDiffer u.order
  pub own_text : IsOwn u.list u.own

-- ** Whole units, by what the fronts of the texts say. How a front is read is the grammar's to say:
-- it is a parameter here.

-- What the front of a text says: the module's name, whether it is an implementation, and the modules that it imports.
pub record Front : Type 0 where
  pub name : Option ℕ
  pub implementation : Bool
  pub imports : List ℕ

-- the definition text of this name is that number of the list
pub record IsTextOf (u : UnitTexts) (name k : ℕ) : Type 0 where
  pub definition : IsDefinition u.list k
  pub named : (t : TextOf) → slice_get u.list k ≡ Some t → t.name ≡ name

-- k stands in the order, and n doesn't stand up to it: k comes before n, and is another
abbrev pub StandsBefore : List ℕ → ℕ → ℕ → Type 0
StandsBefore [] k n = ⊥
StandsBefore (x ∷ order) k n = (x ≢ n) × ((x ≡ k) ⊎ StandsBefore order k n)

-- the own definition of text 0 is told exactly where its front is an implementation's and has a name
abbrev pub IsOwnBy : UnitTexts → Front → Option ℕ → Type 0
IsOwnBy u front (Some k) = (front.implementation ≡ true) × (name : ℕ) × (front.name ≡ Some name) × IsTextOf u name k
IsOwnBy u front None = front.implementation ≡ true → front.name ≡ None

-- Nothing is left out of a unit, by what the fronts of its texts say: each module that a front names is there, no
-- front has a name other than its text's, the own definition is told where there is one, and each definition text
-- comes after those that it imports, so that none imports itself.
pub record IsWholeBy (front : TextOf → Front) (u : UnitTexts) : Type 0 where
  pub imported : (n : ℕ) (t : TextOf) → slice_get u.list n ≡ Some t
      → Each (λ name. (k : ℕ) × IsTextOf u name k) (front t).imports
  pub named : Each (λ t. (name : ℕ) → (front t).name ≡ Some name → name ≡ t.name) u.list
  pub own : (main : TextOf) → slice_get u.list 0 ≡ Some main → IsOwnBy u (front main) u.own
  pub all : (k : ℕ) → IsDefinition u.list k → IsIn k u.order
  pub after : (n k name : ℕ) (t : TextOf) → IsDefinition u.list n → slice_get u.list n ≡ Some t
      → IsIn name (front t).imports → IsTextOf u name k → StandsBefore u.order k n
