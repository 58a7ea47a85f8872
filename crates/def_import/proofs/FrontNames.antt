-- The names in the front of a text are names of its tokens, so they are identifiers of the unit.
use Rattle.std.proofs.Common.{◌≡◌, ℕ, Bool, true, false, List, [], ◌∷◌, ◌++◌, Option, Some, None, length, get_or, sym, ◌∙◌, ap, subst, arith, if◌then◌else◌, nat_eq}
use Rattle.std.specs.List.{list_any}
use Rattle.std.proofs.lemmas.List.{get_or_append_left, length-append}
use Rattle.m2_base.specs.Fronts.{Front, IsFront}
use Rattle.m2_base.specs.KindNumbers.{kind_number}
use Rattle.m2_base.specs.Lists.{Each, IsPrefixOf}
use Rattle.m2_base.specs.Statics.Leaves.{Leaf, name_leaf, NameHas, NameOptionHas, NamesHave}
use Rattle.m2_base.specs.Units.{HasValue, IsIdentifier, IsNamed}
use Rattle.m2_base.specs.declared.kind.TokenKind.TheVariants.{Identifier}
use Rattle.m2_base.specs.declared.kind.TokenKind.{TokenKind}
use Rattle.m2_base.specs.declared.token.Token.{Token}
use Rattle.m2_base.specs.declared.trees.Ident.{Ident}
use Rattle.m2_base.proofs.EachLaws.{each_append, each_then}
use Rattle.m2_base.proofs.LeafExpressions.{TokenHas}
use Rattle.m2_base.proofs.LeafFronts.{front_leaves}
use Rattle.def_import.specs.Closure.{listed, modules_of, names_of, own_name, with_module, with_modules}

-- names stay names where more come behind them
pub stays_named : {old new : List (List ℕ)} → IsPrefixOf old new → (name : ℕ) → IsNamed old name → IsNamed new name
stays_named {old} {new} grows name is =
    let same : get_or new name [] ≡ get_or old name [] =
    ap (λ (all : List (List ℕ)). get_or all name []) (sym grows.joined) ∙ get_or_append_left old grows.rest [] name is.numbered.there in
    record {
      numbered = record {
        there = omega (arith, is.numbered.there, ap length grows.joined, length-append old grows.rest);
        short = omega (arith, is.numbered.short, ap length same);
      };
      spelled = subst IsIdentifier (sym same) is.spelled;
    }

pub each_stays_named : {old new : List (List ℕ)} → IsPrefixOf old new → (xs : List ℕ) → Each (IsNamed old) xs → Each (IsNamed new) xs
each_stays_named grows [] is = tt
each_stays_named grows (x ∷ xs) is = (stays_named grows x is.0, each_stays_named grows xs is.1)

module _ (names : List (List ℕ)) where
  -- a leaf that is a name of the unit, where it is a name
  abbrev IsNamedLeaf : Leaf → Type 0
  IsNamedLeaf (name_leaf i) = IsNamed names i.name
  IsNamedLeaf other = Unit {0}

  name_named : (k : TokenKind) (value : ℕ) → HasValue names k value → kind_number k ≡ kind_number Identifier → IsNamed names value
  name_named Identifier value h e = h
  name_named _ value h e = absurd (omega (arith, e))

  token_named : (t : Token) → HasValue names t.kind t.value → TokenHas IsNamedLeaf t
  token_named t h =
      record { place = tt; name = name_named t.kind t.value h; number = λ e. tt; character = λ e. tt; text = λ e. tt; cut = λ e. tt }

  own_named : (implementation : Bool) (name : Option Ident) → NameOptionHas IsNamedLeaf name → NamesHave IsNamedLeaf (listed (if implementation then name else None))
  own_named false name h = tt
  own_named true None h = tt
  own_named true (Some i) h = (h, tt)

  -- the modules of a front
  pub front_named : (definition : Bool) (ts : List Token) (f : Front) → IsFront definition ts f → Each (λ (t : Token). HasValue names t.kind t.value) ts → NamesHave IsNamedLeaf (modules_of f)
  front_named definition ts f front h =
      let has = front_leaves IsNamedLeaf definition ts f front (each_then (λ (t : Token). HasValue names t.kind t.value) (TokenHas IsNamedLeaf) ts token_named h) in
      each_append (NameHas IsNamedLeaf) (listed (own_name f)) f.imports (own_named f.implementation f.name has.name) has.imports

  pub numbers_named : (is : List Ident) → NamesHave IsNamedLeaf is → Each (IsNamed names) (names_of is)
  numbers_named [] h = tt
  numbers_named (i ∷ is) h = (h.0, numbers_named is h.1)

  one_named : (xs : List ℕ) (x : ℕ) → Each (IsNamed names) xs → IsNamed names x → Each (IsNamed names) (with_module xs x)
  one_named xs x h k = go (list_any (nat_eq x) xs)
    where
      go : (b : Bool) → Each (IsNamed names) (if b then xs else xs ++ x ∷ [])
      go true = h
      go false = each_append (IsNamed names) xs (x ∷ []) h (k, tt)

  pub all_named : (xs ys : List ℕ) → Each (IsNamed names) xs → Each (IsNamed names) ys → Each (IsNamed names) (with_modules xs ys)
  all_named xs [] h k = h
  all_named xs (y ∷ ys) h k = all_named (with_module xs y) ys (one_named xs y h k.0) k.1
