-- The dependency order: again and again, in text order, the first definition module is taken that isn't taken yet and
-- whose imports that are found are all taken.
use Rattle.std.specs.Prelude.{◌≡◌, ℕ, zero, suc, ◌+◌, Bool, true, ◌&&◌, not, List, [], ◌∷◌, ◌++◌, Option, Some, None}
use Rattle.std.specs.Prelude.{Vec, if◌then◌else◌, length, map, nat_eq}
use Rattle.std.specs.Global.{Global}
use Rattle.std.specs.List.{AllZip, list_all, list_any}
use Rattle.def_import.specs.Closure.{Found, Progress, names_of, text_of_module}

abbrev pub is_in : List ℕ → ℕ → Bool
is_in taken k = list_any (λ x. nat_eq x k) taken

abbrev pub one_number : Option ℕ → List ℕ
one_number None = []
one_number (Some k) = k ∷ []

-- the texts of these modules, as far as they are found
abbrev pub texts_of_modules : Progress → List ℕ → List ℕ
texts_of_modules p [] = []
texts_of_modules p (name ∷ names) = one_number (text_of_module p name) ++ texts_of_modules p names

-- the imports of a text that are found
abbrev pub needs_of : Progress → Found → List ℕ
needs_of p f = texts_of_modules p (names_of f.front.imports)

-- the text of this number isn't taken yet, and its imports that are found are
abbrev pub is_ready : Progress → List ℕ → ℕ → Found → Bool
is_ready p taken k f = not (is_in taken k) && list_all (is_in taken) (needs_of p f)

-- the first of these texts that is ready; the numbers go from k on
abbrev pub first_ready : Progress → List ℕ → ℕ → List Found → Option ℕ
first_ready p taken k [] = None
first_ready p taken k (f ∷ found) = if is_ready p taken k f then Some k else first_ready p taken (k + 1) found

-- the definition texts are those behind the main text
abbrev pub definitions : List Found → List Found
definitions [] = []
definitions (main ∷ found) = found

abbrev pub next_taken : Progress → List ℕ → Option ℕ
next_taken p taken = first_ready p taken 1 (definitions p.found)

abbrev pub and_taken : List ℕ → Option ℕ → List ℕ
and_taken taken None = taken
and_taken taken (Some k) = taken ++ k ∷ []

-- what is taken in so many rounds
abbrev pub taken_in : Progress → ℕ → List ℕ
taken_in p zero = []
taken_in p (suc n) = and_taken (taken_in p n) (next_taken p (taken_in p n))

-- No text is taken twice, so there is nothing left to take after as many rounds as there are texts.
abbrev pub dependency_order : Progress → List ℕ
dependency_order p = taken_in p (length p.found)

-- ** What the code keeps of the needs of a text

-- all of these texts are taken
abbrev pub all_in : List ℕ → List ℕ → Bool
all_in taken needs = list_all (is_in taken) needs

-- texts that are taken were struck off from the back
pub record IsStruck (taken old new : List ℕ) : Type 0 where
  pub struck : List ℕ
  pub joined : old ≡ new ++ struck
  pub taken_all : all_in taken struck ≡ true

-- these are what the texts need, one after another, but for what was struck off
abbrev pub AreStruck : List ℕ → List (List ℕ) → List (List ℕ) → Type 0
AreStruck taken olds news = AllZip (IsStruck taken) olds news

-- the first text that isn't taken yet and whose needs are all taken; the numbers go from k on
abbrev pub first_free : List ℕ → ℕ → List (List ℕ) → Option ℕ
first_free taken k [] = None
first_free taken k (needs ∷ all) =
    if not (is_in taken k) && all_in taken needs then Some k else first_free taken (k + 1) all

abbrev pub items_of : List (Vec ℕ Global) → List (List ℕ)
items_of all = map (λ v. v.items) all

-- what each text needs
abbrev pub all_needs : Progress → List Found → List (List ℕ)
all_needs p found = map (needs_of p) found
