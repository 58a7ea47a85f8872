-- What is found under a name, and the row of a place.
use Rattle.std.specs.Prelude.{◌≡◌, ℕ, suc, ◌+◌, ◌<◌, ◌≤◌, ◌==◌, Bool, true, false, if◌then◌else◌, ◌⊎◌, List, [], ◌∷◌, length, slice_get, slice_index_or, Option, Some, None, unwrap_or}
use Rattle.std.proofs.Common.{ap, subst, sym, ◌∙◌, refl, inl, inr, arith}
use Rattle.std.proofs.lemmas.Bool.{eqb-true}
use Rattle.std.proofs.lemmas.List.{get_or_past}
use Rattle.std.proofs.lemmas.Option.{get_or_from_slice_get, slice_get_cases}
use Rattle.m2_base.specs.Lists.{WhereKept}
use Rattle.m2_base.specs.Rows.{row_of}
use Rattle.m2_base.specs.declared.rows.Place.{Place}
use Rattle.m2_base.specs.declared.rows.Row.{Row}
use Rattle.m2_base.specs.declared.rows.RowMeaning.TheVariants.{Broken}
use Rattle.m2_base.specs.Tables.{first_named, found_or, lookup, rows_at}
use Rattle.m2_base.specs.Statics.Contexts.{row_at}
use Rattle.m2_base.specs.Statics.Lookup.{Entry}

-- the row under a name has it, and stands among the rows
pub named_at : (name : ℕ) (xs : List Row) (k : ℕ) (hit : ℕ × Row) → first_named name xs k ≡ Some hit → (j : ℕ) × (hit.0 ≡ k + j) × (slice_get xs j ≡ Some hit.1) × (hit.1.name ≡ name)
named_at name [] k hit e = absurd (cc)
named_at name (r ∷ xs) k hit e = by_test (r.name == name) refl (named_at name xs (k + 1) hit) e
  where
    by_test : (b : Bool) → (r.name == name) ≡ b → (first_named name xs (k + 1) ≡ Some hit → (j : ℕ) × (hit.0 ≡ k + 1 + j) × (slice_get xs j ≡ Some hit.1) × (hit.1.name ≡ name))
        → (if b then Some (k, r) else first_named name xs (k + 1)) ≡ Some hit → (j : ℕ) × (hit.0 ≡ k + j) × (slice_get (r ∷ xs) j ≡ Some hit.1) × (hit.1.name ≡ name)
    by_test true t rest h =
        let e' : (k, r) ≡ hit = ap (λ (o : Option (ℕ × Row)). unwrap_or o (k, r)) h in
        let f : k ≡ hit.0 = ap (λ (x : ℕ × Row). x.0) e' in
        (0, omega (arith, f), ap (λ (x : ℕ × Row). Some x.1) e', ap (λ (x : ℕ × Row). x.1.name) (sym e') ∙ eqb-true r.name name t)
    by_test false t rest h = let found = rest h in (suc found.0, (let f = found.1 in omega (arith, f)), found.2, found.3)

-- an entry whose row has P and the name, and stands at its place
pub record Found (P : Row → Type 0) (tables : List (List Row)) (name : ℕ) (e : Entry) : Type 0 where
  pub holds : P e.1
  pub named : e.1.name ≡ name
  pub stands : row_at tables e.0 ≡ e.1

module _ (P : Row → Type 0) (tables : List (List Row)) (all : (s o : ℕ) (r : Row) → slice_get (rows_at tables s) o ≡ Some r → P r) where
  pub found_row : (chain : List ℕ) (name : ℕ) → WhereKept (lookup tables chain name) (Found P tables name)
  found_row [] name = tt
  found_row (s ∷ chain) name = by_hit (first_named name (rows_at tables s) 0) refl (found_row chain name)
    where
      by_hit : (o : Option (ℕ × Row)) → first_named name (rows_at tables s) 0 ≡ o → WhereKept (lookup tables chain name) (Found P tables name)
          → WhereKept (found_or s o (lookup tables chain name)) (Found P tables name)
      by_hit None e rest = rest
      by_hit (Some hit) e rest =
          let at = named_at name (rows_at tables s) 0 hit e in
          let same : hit.0 ≡ at.0 = let h = at.1 in omega (arith, h) in
          record {
            holds = all s at.0 hit.1 at.2;
            named = at.3;
            stands = ap (λ n. slice_index_or (rows_at tables s) n (row_of 0 0 Broken)) same ∙ get_or_from_slice_get (rows_at tables s) at.0 hit.1 (row_of 0 0 Broken) at.2;
          }

  -- the row at a place, also where it is missing
  pub row_of_place : P (row_of 0 0 Broken) → (p : Place) → P (row_at tables p)
  row_of_place none p = by_case ((slice_get_cases (rows_at tables p.scope) p.ordinal).1)
    where
      by_case : ((x : Row) × (p.ordinal < length (rows_at tables p.scope)) × (slice_get (rows_at tables p.scope) p.ordinal ≡ Some x) × (slice_index_or (rows_at tables p.scope) p.ordinal x ≡ x))
          ⊎ ((length (rows_at tables p.scope) ≤ p.ordinal) × (slice_get (rows_at tables p.scope) p.ordinal ≡ None))
          → P (row_at tables p)
      by_case (inl h) = subst P (sym (get_or_from_slice_get (rows_at tables p.scope) p.ordinal h.0 (row_of 0 0 Broken) h.2)) (all p.scope p.ordinal h.0 h.2)
      by_case (inr h) = subst P (sym (get_or_past (rows_at tables p.scope) p.ordinal (row_of 0 0 Broken) h.0)) none
