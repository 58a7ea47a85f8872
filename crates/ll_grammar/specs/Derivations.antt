-- How a sentence comes from a right side, what it spells, and how deep its tokens are nested.
use Rattle.std.specs.Prelude.{◌≡◌, ℕ, zero, suc, true, List, [], ◌∷◌, ◌++◌, Option, Some, None}
use Rattle.ll_grammar.specs.Grammar.{Rule, empty, token, then, or, many, deep, sub, Grammar}
use Rattle.ll_grammar.specs.LookAhead.{member}

-- A derivation tree: one form for each form of a right side.
pub data Tree (T : Type 0) : Type 0 where
  nothing : Tree T
  leaf : T → Tree T
  both : Tree T → Tree T → Tree T
  left : Tree T → Tree T
  right : Tree T → Tree T
  last : Tree T
  more : Tree T → Tree T → Tree T
  inner : Tree T → Tree T
  part : Tree T → Tree T

-- the tokens that a derivation spells
abbrev pub tokens : {T : Type 0} → Tree T → List T
tokens nothing = []
tokens (leaf t) = t ∷ []
tokens (both d e) = tokens d ++ tokens e
tokens (left d) = tokens d
tokens (right d) = tokens d
tokens last = []
tokens (more d ds) = tokens d ++ tokens ds
tokens (inner d) = tokens d
tokens (part d) = tokens d

-- the right side derives the tree
module _ {T : Type 0} (g : Grammar T) where
  pub data Derives : Rule → Tree T → Type 0 where
    of_empty : Derives empty nothing
    of_token : {ks : List ℕ} {t : T} → member (g.kind t) ks ≡ true → Derives (token ks) (leaf t)
    of_then : {r s : Rule} {d e : Tree T} → Derives r d → Derives s e → Derives (then r s) (both d e)
    of_left : {r s : Rule} {d : Tree T} → Derives r d → Derives (or r s) (left d)
    of_right : {r s : Rule} {d : Tree T} → Derives s d → Derives (or r s) (right d)
    of_last : {r : Rule} → Derives (many r) last
    of_more : {r : Rule} {d ds : Tree T} → Derives r d → Derives (many r) ds → Derives (many r) (more d ds)
    of_deep : {n : ℕ} {d : Tree T} → Derives (g.rule n) d → Derives (deep n) (inner d)
    of_sub : {d : Tree T} → Derives (g.rule zero) d → Derives sub (part d)

-- the first of two answers, where the second speaks of what stands behind u
abbrev pub first_of : {T : Type 0} → List T → Option (List T) → Option (List T) → Option (List T)
first_of u (Some v) o = Some v
first_of u None None = None
first_of u None (Some v) = Some (u ++ v)

-- the tokens before the first one that lies in more than n counted rules, if there is one
abbrev pub over : {T : Type 0} → ℕ → Tree T → Option (List T)
over n nothing = None
over n (leaf t) = None
over n (both d e) = first_of (tokens d) (over n d) (over n e)
over n (left d) = over n d
over n (right d) = over n d
over n last = None
over n (more d ds) = first_of (tokens d) (over n d) (over n ds)
over zero (inner d) = Some []
over (suc n) (inner d) = over n d
over n (part d) = over n d
