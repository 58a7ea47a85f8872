-- The tables of the code are those of the definitions.
use Rattle.std.proofs.Common.{◌≡◌, ℕ, ◌+◌, ◌-◌, ◌≤◌, Bool, true, false, cond, not, List, [], ◌∷◌, ◌++◌, take, drop, Option, Some, None, map, refl, sym, ◌∙◌, ap, arith, Bor}
use Rattle.std.specs.Prelude.{find, option_map}
use Rattle.std.specs.List.{list_all}
use Rattle.std.proofs.lemmas.Bool.{and_parts}
use Rattle.std.proofs.lemmas.List.{take-append-drop, drop-drop}
use Rattle.std.proofs.lemmas.Slice.Eq.{bytes_eq-Decides}
use Rattle.std.specs.Str.{bytes_eq}
use Rattle.m2_base.specs.Kinds.{kind_in}
use Rattle.m2_base.specs.declared.kind.TokenKind.{TokenKind}

abbrev pub entry_of : Bor (List ℕ) × TokenKind → List ℕ × TokenKind
entry_of entry = (entry.0.now, entry.1)

chosen : (b : Bool) (entry : Bor (List ℕ) × TokenKind) (o : Option (Bor (List ℕ) × TokenKind)) (p : Option (List ℕ × TokenKind))
    → option_map (λ e. e.1) o ≡ option_map (λ e. e.1) p → option_map (λ e. e.1) (cond b (Some entry) o) ≡ option_map (λ e. e.1) (cond b (Some (entry_of entry)) p)
chosen true entry o p h = refl
chosen false entry o p h = h

-- a search among the code's entries is the table's
pub kind_in-map : (spelling : List ℕ) (table : List (Bor (List ℕ) × TokenKind))
    → option_map (λ e. e.1) (find (λ e. bytes_eq spelling e.0.now) table) ≡ kind_in (map entry_of table) spelling
kind_in-map spelling [] = refl
kind_in-map spelling (entry ∷ table) =
    chosen (bytes_eq spelling entry.0.now) entry (find (λ e. bytes_eq spelling e.0.now) table) (find (λ e. bytes_eq spelling e.0) (map entry_of table)) (kind_in-map spelling table)

-- A test of spellings tells an entry from another.

not_same : (test : List ℕ → Bool) (xs ys : List ℕ) → test xs ≡ false → test ys ≡ true → bytes_eq xs ys ≡ false
not_same test xs ys fails passes = elim (bytes_eq xs ys) as (λ b. bytes_eq xs ys ≡ b → b ≡ false) [
  | true ↦ λ e. let same : xs ≡ ys = (bytes_eq-Decides xs ys).0 e in let both : test xs ≡ true = ap test same ∙ passes in absurd cc
  | false ↦ λ e. refl
] refl

-- a first entry with other bytes counts for nothing
kind_in-next : (entry : List ℕ × TokenKind) (table : List (List ℕ × TokenKind)) (xs : List ℕ) → bytes_eq xs entry.0 ≡ false → kind_in (entry ∷ table) xs ≡ kind_in table xs
kind_in-next entry table xs differs = ap (λ (t : Bool). option_map (λ (e : List ℕ × TokenKind). e.1) (cond t (Some entry) (find (λ e. bytes_eq xs e.0) table))) differs

-- no entry has bytes that fail a test which each entry passes
pub kind_in-none : (test : List ℕ → Bool) (table : List (List ℕ × TokenKind)) (xs : List ℕ) → list_all (λ entry. test entry.0) table ≡ true → test xs ≡ false → kind_in table xs ≡ None
kind_in-none test [] xs pass fails = refl
kind_in-none test (entry ∷ table) xs pass fails =
    let parts = and_parts (test entry.0) (list_all (λ e. test e.0) table) pass in
    kind_in-next entry table xs (not_same test xs entry.0 fails parts.0) ∙ kind_in-none test table xs parts.1 fails

fails_not : (b : Bool) → b ≡ true → not b ≡ false
fails_not true e = refl
fails_not false e = cc

module _ (test : List ℕ → Bool) (xs : List ℕ) (passes : test xs ≡ true) where
  -- entries in front that fail the test count for nothing
  kind_in-behind : (front rest : List (List ℕ × TokenKind)) → list_all (λ entry. not (test entry.0)) front ≡ true → kind_in (front ++ rest) xs ≡ kind_in rest xs
  kind_in-behind [] rest fail = refl
  kind_in-behind (entry ∷ front) rest fail =
      let parts = and_parts (not (test entry.0)) (list_all (λ e. not (test e.0)) front) fail in
      kind_in-next entry (front ++ rest) xs (not_same (λ ys. not (test ys)) xs entry.0 (fails_not (test xs) passes) parts.0) ∙ kind_in-behind front rest parts.1

  -- nor do those behind
  kind_in-front : (front rest : List (List ℕ × TokenKind)) → list_all (λ entry. not (test entry.0)) rest ≡ true → kind_in (front ++ rest) xs ≡ kind_in front xs
  kind_in-front [] rest fail = kind_in-none (λ ys. not (test ys)) rest xs fail (fails_not (test xs) passes)
  kind_in-front (entry ∷ front) rest fail =
      elim (bytes_eq xs entry.0) as (λ b. option_map (λ (e : List ℕ × TokenKind). e.1) (cond b (Some entry) (find (λ e. bytes_eq xs e.0) (front ++ rest)))
      ≡ option_map (λ (e : List ℕ × TokenKind). e.1) (cond b (Some entry) (find (λ e. bytes_eq xs e.0) front))) [
        | true ↦ refl
        | false ↦ kind_in-front front rest fail
      ]

  -- so only the entries from i to j are looked at, if the others fail
  pub kind_in-range : (table : List (List ℕ × TokenKind)) (i j : ℕ) → i ≤ j → list_all (λ entry. not (test entry.0)) (take i table) ≡ true → list_all (λ entry. not (test entry.0)) (drop j table) ≡ true
      → kind_in (take (j - i) (drop i table)) xs ≡ kind_in table xs
  kind_in-range table i j order before after =
      let rest = drop i table in
      let place : i + (j - i) ≡ j = omega arith in
      let last : drop (j - i) rest ≡ drop j table = drop-drop (j - i) i table ∙ ap (λ (n : ℕ). drop n table) place in
      sym (ap (λ (t : List (List ℕ × TokenKind)). kind_in t xs) (sym (take-append-drop i table)) ∙ kind_in-behind (take i table) rest before
      ∙ ap (λ (t : List (List ℕ × TokenKind)). kind_in t xs) (sym (take-append-drop (j - i) rest))
      ∙ kind_in-front (take (j - i) rest) (drop (j - i) rest) (ap (list_all (λ entry. not (test entry.0))) last ∙ after))
