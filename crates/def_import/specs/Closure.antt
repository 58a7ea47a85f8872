-- The texts of a unit, breadth first: which modules the texts read so far name, and which of them is asked for next.
use Rattle.std.specs.Prelude.{◌≡◌, ℕ, List, [], ◌∷◌, ◌++◌, ◌+◌, ◌<◌, ◌≤◌, Option, Some, None, if◌then◌else◌}
use Rattle.std.specs.Prelude.{fold, length, map, nat_eq, option_map, position, slice_get, sum_by}
use Rattle.std.specs.List.{list_any}
use Rattle.std.specs.Option.{option_flatten}
use Rattle.m2_base.specs.Fronts.{Front}
use Rattle.m2_base.specs.Lists.{Each}
use Rattle.m2_base.specs.Units as units
use Rattle.m2_base.specs.Units.{IsNamed, TextOf}
use Rattle.m2_base.specs.declared.limits.TheConstants.{MOST_TEXTS, MOST_UNIT_TOKENS}
use Rattle.m2_base.specs.declared.trees.Ident.{Ident}

-- a text that was read, with its front
pub record Found : Type 0 where
  pub text : TextOf
  pub front : Front

-- How far the texts of a unit are read: the names so far, the texts in the order in which they were found, and for
-- each module that was asked for, in that order, the number of its text, if there is one.
pub record Progress : Type 0 where
  pub names : List (List ℕ)
  pub found : List Found
  pub asked : List (Option ℕ)

abbrev pub progress_of : (names : List (List ℕ)) → List Found → List (Option ℕ) → Progress
progress_of names found asked = record { names = names; found = found; asked = asked }

-- the name of an implementation's own definition, if it tells one
abbrev pub own_name : Front → Option Ident
own_name front = if front.implementation then front.name else None

abbrev pub listed : Option Ident → List Ident
listed None = []
listed (Some i) = i ∷ []

-- the definition modules that a front names: its own definition, then its imports
abbrev pub modules_of : Front → List Ident
modules_of front = listed (own_name front) ++ front.imports

abbrev pub names_of : List Ident → List ℕ
names_of modules = map (λ i. i.name) modules

-- the names with this one among them
abbrev pub with_module : List ℕ → ℕ → List ℕ
with_module modules name = if list_any (nat_eq name) modules then modules else modules ++ name ∷ []

abbrev pub with_modules : List ℕ → List ℕ → List ℕ
with_modules modules names = fold with_module modules names

-- a front, by the names alone
abbrev pub front_by_names : Front → units.Front
front_by_names f = record {
  name = option_map (λ i. i.name) f.name;
  implementation = f.implementation;
  imports = names_of f.imports;
}

abbrev pub named_by : List Found → List ℕ
named_by [] = []
named_by (f ∷ found) = names_of (modules_of f.front) ++ named_by found

-- the definition modules that these texts name, in the order in which they are named first
abbrev pub modules_named : List Found → List ℕ
modules_named found = with_modules [] (named_by found)

-- the module that is asked for next: the first that is named and wasn't asked for yet
abbrev pub next_module : Progress → Option ℕ
next_module p = slice_get (modules_named p.found) (length p.asked)

-- how many tokens the texts have
abbrev pub tokens_in : List Found → ℕ
tokens_in found = sum_by (λ f. length f.text.tokens) found

-- what is kept under a place, if there is one
abbrev pub answer_at : List (Option ℕ) → Option ℕ → Option ℕ
answer_at asked None = None
answer_at asked (Some place) = option_flatten (slice_get asked place)

-- the number of the text of that module, if it was asked for and is there
abbrev pub text_of_module : Progress → ℕ → Option ℕ
text_of_module p name = answer_at p.asked (position (nat_eq name) (modules_named p.found))

-- one more module was asked for, and its text has this number, if there is one
abbrev pub answered : Progress → Option ℕ → Progress
answered p text = progress_of p.names p.found (p.asked ++ text ∷ [])

-- What the code has beside it: the modules named so far, and how many tokens there are. None of these is above its
-- limit, so that each fits a number of the code.
pub record IsKept (p : Progress) (named_so_far : List ℕ) (count : ℕ) : Type 0 where
  pub modules : named_so_far ≡ modules_named p.found
  pub tokens : count ≡ tokens_in p.found
  pub few_tokens : count ≤ MOST_UNIT_TOKENS
  pub few_modules : length named_so_far < MOST_TEXTS
  pub few_names : length p.names ≤ 29 + count
  pub few_asked : length p.asked ≤ length named_so_far
  pub few_found : length p.found ≤ length p.asked + 1
  pub known : Each (IsNamed p.names) named_so_far

-- one more text was read
abbrev pub longer : Progress → List (List ℕ) → Found → Progress
longer p names f = progress_of names (p.found ++ f ∷ []) p.asked
