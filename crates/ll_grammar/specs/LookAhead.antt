-- Whether one token of look-ahead tells what to read: checks of a grammar that compute.
use Rattle.std.specs.Prelude.{◌≡◌, ℕ, zero, suc, Bool, true, false, List, [], ◌∷◌, ◌++◌, ◌==◌, ◌||◌, ◌&&◌, not}
use Rattle.ll_grammar.specs.Grammar.{Rule, empty, token, then, or, many, deep, sub, Grammar}

-- the kind is one of these
abbrev pub member : ℕ → List ℕ → Bool
member k [] = false
member k (x ∷ xs) = (k == x) || member k xs

-- no kind is in both
abbrev pub disjoint : List ℕ → List ℕ → Bool
disjoint [] ys = true
disjoint (x ∷ xs) ys = not (member x ys) && disjoint xs ys

-- each kind of the first is in the second
abbrev pub subset : List ℕ → List ℕ → Bool
subset [] ys = true
subset (x ∷ xs) ys = member x ys && subset xs ys

-- the kinds, where it is so
abbrev pub if_so : Bool → List ℕ → List ℕ
if_so true ks = ks
if_so false ks = []

-- the right side has the empty sentence; a numbered rule never has it
abbrev pub nullable : Rule → Bool
nullable empty = true
nullable (token ks) = false
nullable (then r s) = let b : Bool = nullable s in nullable r && b
nullable (or r s) = let b : Bool = nullable s in nullable r || b
nullable (many r) = true
nullable (deep n) = false
nullable sub = false

-- the kinds that a sentence begins with, where those of the numbered rules are given
abbrev pub first_by : (ℕ → List ℕ) → Rule → List ℕ
first_by firsts empty = []
first_by firsts (token ks) = ks
first_by firsts (then r s) = let behind : List ℕ = first_by firsts s in first_by firsts r ++ if_so (nullable r) behind
first_by firsts (or r s) = first_by firsts r ++ first_by firsts s
first_by firsts (many r) = first_by firsts r
first_by firsts (deep n) = firsts n
first_by firsts sub = firsts zero

-- reading the right side may come to `sub` before any token
abbrev pub sub_first : Rule → Bool
sub_first empty = false
sub_first (token ks) = false
sub_first (then r s) = sub_first r || (nullable r && sub_first s)
sub_first (or r s) = sub_first r || sub_first s
sub_first (many r) = sub_first r
sub_first (deep n) = false
sub_first sub = true

module _ {T : Type 0} (g : Grammar T) where
  -- the list begins with a token of these kinds
  unfoldable pub starts : List ℕ → List T → Bool
  starts ks [] = false
  starts ks (t ∷ ts) = member (g.kind t) ks

  -- the first set of a numbered rule, seen through k numbered rules
  abbrev pub firsts_within : ℕ → ℕ → List ℕ
  firsts_within zero n = []
  firsts_within (suc k) n = first_by (λ m. firsts_within k m) (g.rule n)

  -- the first set of a numbered rule
  abbrev pub firsts : ℕ → List ℕ
  firsts n = firsts_within g.rounds n

  -- the first set of a right side
  abbrev pub first : Rule → List ℕ
  first r = first_by firsts r

  -- what a sentence with something of `follow` behind it may begin with
  abbrev pub heads : Rule → List ℕ → List ℕ
  heads r follow = first r ++ if_so (nullable r) follow

  -- one token of look-ahead tells each choice, where a kind of `follow` comes behind
  abbrev pub clear : Rule → List ℕ → Bool
  clear empty follow = true
  clear (token ks) follow = true
  clear (then r s) follow = clear r (heads s follow) && clear s follow
  clear (or r s) follow =
      not (nullable r) && (disjoint (first r) (heads s follow) && (clear r follow && clear s follow))
  clear (many r) follow = not (nullable r) && (disjoint (first r) follow && clear r (first r ++ follow))
  clear (deep n) follow = subset follow (g.follows n)
  clear sub follow = subset follow (g.follows zero)

  -- one of the tokens is of one of these kinds
  abbrev pub has_kind : List T → List ℕ → Bool
  has_kind [] ks = false
  has_kind (t ∷ ts) ks = let b : Bool = has_kind ts ks in member (g.kind t) ks || b

  -- each part of the right side has a sentence, where each numbered rule has one
  abbrev pub complete : Rule → Bool
  complete empty = true
  complete (token ks) = has_kind g.samples ks
  complete (then r s) = complete r && complete s
  complete (or r s) = complete r && complete s
  complete (many r) = complete r
  complete (deep n) = true
  complete sub = true

  -- the right side has a sentence, where it is told which numbered rules have one
  abbrev pub productive_by : (ℕ → Bool) → Rule → Bool
  productive_by known empty = true
  productive_by known (token ks) = has_kind g.samples ks
  productive_by known (then r s) = let b : Bool = productive_by known s in productive_by known r && b
  productive_by known (or r s) = let b : Bool = productive_by known s in productive_by known r || b
  productive_by known (many r) = true
  productive_by known (deep n) = known n
  productive_by known sub = known zero

  -- a numbered rule has a sentence, seen through k numbered rules
  abbrev pub productive_within : ℕ → ℕ → Bool
  productive_within zero n = false
  productive_within (suc k) n = productive_by (λ m. productive_within k m) (g.rule n)

  -- a numbered rule passes each check
  abbrev pub passes : ℕ → Bool
  passes n =
      not (nullable (g.rule n))
      && (subset (first (g.rule n)) (firsts n)
      && (clear (g.rule n) (g.follows n)
      && (complete (g.rule n)
      && productive_within g.rounds n)))

  -- one token of look-ahead tells what to read, and a token stands before each further `sub`
  pub record IsLL1 : Type 0 where
    pub rules : (n : ℕ) → passes n ≡ true
    pub ends : sub_first (g.rule zero) ≡ false

  -- a right side that texts are read by: nothing follows it
  abbrev pub IsRoot : Rule → Type 0
  IsRoot r = (clear r [] && complete r) ≡ true
