-- Grammars in EBNF, as data.
use Rattle.std.specs.Prelude.{ℕ, List, [], ◌∷◌}

-- The right side of a rule. A kind of token is a number.
pub data Rule : Type 0 where
  -- nothing at all
  empty : Rule
  -- one token of one of these kinds
  token : List ℕ → Rule
  -- one right side behind the other
  then : Rule → Rule → Rule
  -- one right side or the other
  or : Rule → Rule → Rule
  -- the right side as often as one likes, as in { .. }
  many : Rule → Rule
  -- the rule of this number, one level deeper: nesting counts these
  deep : ℕ → Rule
  -- the rule of number 0, where nesting does not count it
  sub : Rule

-- A grammar over tokens of the type T.
pub record Grammar (T : Type 0) : Type 0 where
  -- the kind of a token
  pub kind : T → ℕ
  -- the alphabet: a token of each kind that the rules name
  pub samples : List T
  -- the rules that a right side may go back to, by number
  pub rule : ℕ → Rule
  -- the kinds that may follow a sentence of each numbered rule
  pub follows : ℕ → List ℕ
  -- through how many numbered rules the checks look for a first token, and for a shortest sentence
  pub rounds : ℕ

-- a token of this kind
abbrev pub one : ℕ → Rule
one k = token (k ∷ [])

-- r and then s
infixr 5 ◌⨾◌
abbrev pub ◌⨾◌ : Rule → Rule → Rule
r ⨾ s = then r s

-- [r]
abbrev pub optional : Rule → Rule
optional r = or r empty

-- r {k r}
abbrev pub list : Rule → ℕ → Rule
list r k = r ⨾ many (one k ⨾ r)
