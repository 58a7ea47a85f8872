-- the index of a scope's rows
use Rattle.std.proofs.Common.{◌≡◌, ℕ, ◌<◌, ◌+◌, Bool, true, false, List, [], ◌∷◌, ◌++◌, Option, Some, None, length, get_or, refl, sym, ◌∙◌, ap, arith, if◌then◌else◌}
use Rattle.std.specs.List.{slice_get}
use Rattle.std.specs.Option.{option_map, option_or}
use Rattle.std.proofs.lemmas.Option.{slice_get_within, get_or_from_slice_get}
use Rattle.m2_base.specs.declared.rows.Row.{Row}
use Rattle.m2_base.specs.declared.rows.RowKey.{RowKey}
use Rattle.m2_base.specs.Keys.{first_keyed, is_keyed, row_key}
use Rattle.m2_base.proofs.KeyLaws.{first_hit}
use Rattle.scope_core.specs.Kept.{IsIndexOf}

-- the ordinal of the first row of a key
abbrev ordinal_of : Option (ℕ × Row) → Option ℕ
ordinal_of o = option_map (λ hit. hit.0) o

-- one more row is the first of its key where no row before has that key
keyed-push : (x : RowKey) (rows : List Row) (r : Row) (n : ℕ) → ordinal_of (first_keyed x (rows ++ r ∷ []) n) ≡ option_or (ordinal_of (first_keyed x rows n)) (if is_keyed x (row_key r) then Some (n + length rows) else None)
keyed-push x [] r n = go (is_keyed x (row_key r))
  where
    go : (b : Bool) → ordinal_of (if b then Some (n, r) else None) ≡ (if b then Some (n + 0) else None)
    go true = ap Some (let e : n ≡ n + 0 = omega arith in e)
    go false = refl
keyed-push x (s ∷ rows) r n =
    let last : n + 1 + length rows ≡ n + length (s ∷ rows) = omega arith in
    go (is_keyed x (row_key s)) (keyed-push x rows r (n + 1) ∙ ap (λ k. option_or (ordinal_of (first_keyed x rows (n + 1))) (if is_keyed x (row_key r) then Some k else None)) last)
  where
    go : (b : Bool) → ordinal_of (first_keyed x (rows ++ r ∷ []) (n + 1)) ≡ option_or (ordinal_of (first_keyed x rows (n + 1))) (if is_keyed x (row_key r) then Some (n + length (s ∷ rows)) else None)
        → ordinal_of (if b then Some (n, s) else first_keyed x (rows ++ r ∷ []) (n + 1)) ≡ option_or (ordinal_of (if b then Some (n, s) else first_keyed x rows (n + 1))) (if is_keyed x (row_key r) then Some (n + length (s ∷ rows)) else None)
    go true later = refl
    go false later = later

-- the index of one more row
pub IsIndexOf-push : (index new : RowKey → Option ℕ) (rows : List Row) (r : Row) (n : ℕ) → n ≡ length rows → IsIndexOf index rows
    → ((x : RowKey) → new x ≡ option_or (index x) (if is_keyed x (row_key r) then Some n else None)) → IsIndexOf new (rows ++ r ∷ [])
IsIndexOf-push index new rows r n last is noted x =
    noted x ∙ ap (λ o. option_or o (if is_keyed x (row_key r) then Some n else None)) (is x)
    ∙ ap (λ k. option_or (ordinal_of (first_keyed x rows 0)) (if is_keyed x (row_key r) then Some k else None)) (let e : n ≡ 0 + length rows = omega (arith, last) in e)
    ∙ sym (keyed-push x rows r 0)

-- an ordinal in the index is that of the first row
indexed_at : (index : RowKey → Option ℕ) (rows : List Row) (x : RowKey) (i : ℕ) → IsIndexOf index rows → index x ≡ Some i → (r : Row) × (first_keyed x rows 0 ≡ Some (i, r)) × (slice_get rows i ≡ Some r)
indexed_at index rows x i is at = go (first_keyed x rows 0) refl (sym (is x) ∙ at)
  where
    go : (o : Option (ℕ × Row)) → first_keyed x rows 0 ≡ o → ordinal_of o ≡ Some i → (r : Row) × (first_keyed x rows 0 ≡ Some (i, r)) × (slice_get rows i ≡ Some r)
    go None e h = absurd (cc)
    go (Some hit) e h =
        let same : hit.0 ≡ i = cc in
        let first = first_hit x rows 0 hit.0 hit.1 e in
        let at : i ≡ first.0 = (let o = first.1 in omega (arith, same, o)) in
        (hit.1, e ∙ ap (λ k. Some (k, hit.1)) same, ap (slice_get rows) at ∙ first.2.at)

pub indexed_within : (index : RowKey → Option ℕ) (rows : List Row) (x : RowKey) (i : ℕ) → IsIndexOf index rows → index x ≡ Some i → i < length rows
indexed_within index rows x i is at = let r = indexed_at index rows x i is at in slice_get_within rows i r.0 r.2

pub indexed_row : (index : RowKey → Option ℕ) (rows : List Row) (x : RowKey) (i : ℕ) (d : Row) → IsIndexOf index rows → index x ≡ Some i → Some (i, get_or rows i d) ≡ first_keyed x rows 0
indexed_row index rows x i d is at =
    let r = indexed_at index rows x i is at in
    ap (λ s. Some (i, s)) (get_or_from_slice_get rows i r.0 d r.2) ∙ sym r.1
