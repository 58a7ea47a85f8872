-- Naming modules: what is named stays, and new ones come last.
use Rattle.std.proofs.Common.{◌≡◌, ℕ, ◌+◌, ◌<◌, ◌≤◌, Bool, true, false, List, [], ◌∷◌, ◌++◌, length, take, drop, get_or, refl, sym, ◌∙◌, ap, arith, length-append, if◌then◌else◌, nat_eq, append_assoc}
use Rattle.std.specs.List.{list_any}
use Rattle.std.proofs.lemmas.List.{append-nil, map-append, take_more, take-append-drop}
use Rattle.m2_base.specs.declared.trees.Ident.{Ident}
use Rattle.m2_base.specs.Fronts.{Front}
use Rattle.def_import.specs.Closure.{listed, modules_of, names_of, own_name, with_module, with_modules}

pub with_modules-append : (old xs ys : List ℕ) → with_modules old (xs ++ ys) ≡ with_modules (with_modules old xs) ys
with_modules-append old [] ys = refl
with_modules-append old (x ∷ xs) ys = with_modules-append (with_module old x) xs ys

with_module-longer : (old : List ℕ) (x : ℕ) → length old ≤ length (with_module old x)
with_module-longer old x = go (list_any (nat_eq x) old)
  where
    go : (b : Bool) → length old ≤ length (if b then old else old ++ x ∷ [])
    go true = omega arith
    go false = omega (arith, length-append old (x ∷ []))

pub with_modules-longer : (old xs : List ℕ) → length old ≤ length (with_modules old xs)
with_modules-longer old [] = omega arith
with_modules-longer old (x ∷ xs) = omega (arith, with_module-longer old x, with_modules-longer (with_module old x) xs)

-- one more of these modules is named
pub one_more : (old : List ℕ) (named : List Ident) (i : ℕ) (d : Ident) → i < length named
    → with_modules old (names_of (take (i + 1) named)) ≡ with_module (with_modules old (names_of (take i named))) (get_or named i d).name
one_more old named i d inside =
    ap (λ front. with_modules old (names_of front)) (take_more named i d inside)
    ∙ ap (with_modules old) (map-append (λ (x : Ident). x.name) (take i named) (get_or named i d ∷ []))
    ∙ with_modules-append old (names_of (take i named)) ((get_or named i d).name ∷ [])

-- and if they are too many then, all are
pub too_many : (limit : ℕ) (old : List ℕ) (named : List Ident) (so_far : List ℕ) (i : ℕ) (d : Ident) → i < length named → so_far ≡ with_modules old (names_of (take i named))
    → limit ≤ length (with_module so_far (get_or named i d).name) → limit ≤ length (with_modules old (names_of named))
too_many limit old named so_far i d inside is many =
    let front = names_of (take (i + 1) named) in
    let behind = names_of (drop (i + 1) named) in
    let all : with_modules old (names_of named) ≡ with_modules (with_modules old front) behind =
    ap (λ n. with_modules old (names_of n)) (sym (take-append-drop (i + 1) named)) ∙ ap (with_modules old) (map-append (λ (x : Ident). x.name) (take (i + 1) named) (drop (i + 1) named))
    ∙ with_modules-append old front behind in
    omega (arith, many, ap (λ s. length (with_module s (get_or named i d).name)) is, ap length (one_more old named i d inside), ap length all, with_modules-longer (with_modules old front) behind)

-- the own definition is named, then the imports
pub both_named : (old : List ℕ) (f : Front)
    → with_modules old (names_of (modules_of f)) ≡ with_modules (with_modules old (names_of (listed (own_name f)))) (names_of f.imports)
both_named old f =
    ap (with_modules old) (map-append (λ (x : Ident). x.name) (listed (own_name f)) f.imports) ∙ with_modules-append old (names_of (listed (own_name f))) (names_of f.imports)

pub either_too_many : (limit : ℕ) (old : List ℕ) (f : Front) → limit ≤ length (with_modules old (names_of (listed (own_name f)))) → limit ≤ length (with_modules old (names_of (modules_of f)))
either_too_many limit old f many =
    let own = with_modules old (names_of (listed (own_name f))) in omega (arith, many, ap length (both_named old f), with_modules-longer own (names_of f.imports))

-- what is named stays in front
pub modules_grow : (old xs : List ℕ) → (more : List ℕ) × (with_modules old xs ≡ old ++ more)
modules_grow old [] = ([], sym (append-nil old))
modules_grow old (x ∷ xs) =
    let one = go (list_any (nat_eq x) old) in
    let rest = modules_grow (with_module old x) xs in
    (one.0 ++ rest.0, rest.1 ∙ ap (λ l. l ++ rest.0) one.1 ∙ append_assoc old one.0 rest.0)
  where
    go : (b : Bool) → (more : List ℕ) × ((if b then old else old ++ x ∷ []) ≡ old ++ more)
    go true = ([], sym (append-nil old))
    go false = (x ∷ [], refl)
