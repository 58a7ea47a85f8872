-- What probing from a key's home has met.
use Rattle.std.proofs.Common.{◌≡◌, ◌≢◌, ℕ, ◌+◌, ◌<◌, List, Option, Some, None, length, get_or, sym, refl, ap, ◌∙◌, subst, arith}
use Rattle.std.proofs.lemmas.Option.{get_or_from_slice_get, slice_get_within}
use mathlib.Core.Logic.{dite}
use native.Mathlib.Decide.{ℕ_discrete, dec_le}
use Rattle.m2_base.specs.Keys.{first_keyed, row_key}
use Rattle.m2_base.specs.declared.rows.Row.{Row}
use Rattle.m2_base.specs.declared.rows.RowKey.{RowKey}
use Rattle.m2_base.proofs.KeyLaws.{first_hit, first_lacks}
use Rattle.scope_table.specs.Cells.{probe, seed, IsFirstOf, IsHidden, IsIndexed}
use Rattle.scope_table.specs.Rows.{blank, row_of}
use Rattle.scope_table.proofs.Steps.{got_row}

-- the row of the cell at distance q, if it is one of these, has another key
abbrev pub HasMet : (w : ℕ) → List Row → (cells : List ℕ) → RowKey → (q : ℕ) → Type 0
HasMet w rows cs k q = (i : ℕ) → i < length rows → get_or cs (probe w (seed k) q) 0 ≡ i + 1 → row_key (row_of rows i) ≢ Some k

-- the first row of a key, as the index leads to it
first_of : (k : RowKey) (rows : List Row) (i : ℕ) (r : Row) → first_keyed k rows 0 ≡ Some (i, r) → IsFirstOf k rows i × (r ≡ row_of rows i)
first_of k rows i r e =
    let f = first_hit k rows 0 i r e in
    let same : f.0 ≡ i = (let o = f.1 in omega (arith, o)) in
    let l : f.0 < length rows = slice_get_within rows f.0 r f.2.at in
    let row : row_of rows f.0 ≡ r = get_or_from_slice_get rows f.0 r blank f.2.at in
    subst (λ (n : ℕ). IsFirstOf k rows n × (r ≡ row_of rows n)) same (
      record {
        within = l;
        keyed = ap row_key row ∙ f.2.keyed;
        before = λ j lj. f.2.before j (row_of rows j) lj (got_row rows j (omega (arith, lj, l)));
      },
      sym row,
    )

module _ (w : ℕ) (k : RowKey) (m : ℕ) (rows : List Row) (cs : List ℕ) (ix : IsIndexed w rows cs) (met : (q : ℕ) → q < m → HasMet w rows cs k q) where
  -- Probing up to an empty cell, or all round, has met every row of the key: no row has it.
  pub probed : (m < w → get_or cs (probe w (seed k) m) 0 ≡ 0) → first_keyed k rows 0 ≡ None
  probed ends = go (first_keyed k rows 0) refl
    where
      hidden : (i : ℕ) → IsFirstOf k rows i → IsHidden w rows cs k i
      hidden i f d ld at run = elim (dec_le m d) [
        | yes le ↦ dite (ℕ_discrete m d)
            (λ same. let z : get_or cs (probe w (seed k) d) 0 ≡ 0 = ap (λ (q : ℕ). get_or cs (probe w (seed k) q) 0) (sym same) ∙ ends (omega arith) in absurd (omega arith))
            (λ n. (run m (omega arith)).some (ends (omega arith)))
        | no n ↦ met d (omega arith) i f.within at f.keyed
      ]

      go : (o : Option (ℕ × Row)) → first_keyed k rows 0 ≡ o → first_keyed k rows 0 ≡ None
      go None e = e
      go (Some hit) e = let f = first_of k rows hit.0 hit.1 e in absurd (ix k hit.0 f.0 (hidden hit.0 f.0))

  -- The first row of the key that is met is the first of all.
  pub hit_first : (o : ℕ) (row : Row) → m < w → (get_or cs (probe w (seed k) m) 0 ≢ 0 → get_or cs (probe w (seed k) m) 0 ≡ o + 1) → o < length rows → row ≡ row_of rows o → row_key row ≡ Some k → first_keyed k rows 0 ≡ Some (o, row)
  hit_first o row lm found l is keyed = go (first_keyed k rows 0) refl
    where
      here : row_key (row_of rows o) ≡ Some k
      here = ap row_key (sym is) ∙ keyed

      hidden : (i : ℕ) → IsFirstOf k rows i → i ≢ o → IsHidden w rows cs k i
      hidden i f other d ld at run = elim (dec_le m d) [
        | yes le ↦ dite (ℕ_discrete m d)
            (λ same. let e : get_or cs (probe w (seed k) m) 0 ≡ i + 1 = ap (λ (q : ℕ). get_or cs (probe w (seed k) q) 0) same ∙ at in
            let p = found (λ z. absurd (omega arith)) in other (omega arith))
            (λ n. let p = run m (omega arith) in p.other o l (found p.some) here)
        | no n ↦ met d (omega arith) i f.within at f.keyed
      ]

      go : (a : Option (ℕ × Row)) → first_keyed k rows 0 ≡ a → first_keyed k rows 0 ≡ Some (o, row)
      go None e = absurd (first_lacks k rows 0 e o (row_of rows o) (got_row rows o l) here)
      go (Some hit) e =
          let f = first_of k rows hit.0 hit.1 e in
          dite (ℕ_discrete hit.0 o)
          (λ same. let r : hit.1 ≡ row = f.1 ∙ ap (row_of rows) same ∙ sym is in e ∙ (λ i. Some (same i, r i)))
          (λ n. absurd (ix k hit.0 f.0 (hidden hit.0 f.0 n)))

-- the row of a cell that was found has another key, or is none of these
pub met_is : (w : ℕ) (k : RowKey) (m o : ℕ) (rows : List Row) (cs : List ℕ) → (get_or cs (probe w (seed k) m) 0 ≢ 0 → get_or cs (probe w (seed k) m) 0 ≡ o + 1) → (o < length rows → row_key (row_of rows o) ≢ Some k) → HasMet w rows cs k m
met_is w k m o rows cs found other i l at keyed =
    let e : get_or cs (probe w (seed k) m) 0 ≡ o + 1 = found (λ z. absurd (omega arith)) in let io : i ≡ o = omega arith in
    other (omega arith) (subst (λ (n : ℕ). row_key (row_of rows n) ≡ Some k) io keyed)

pub more_met : (w : ℕ) (k : RowKey) (m : ℕ) (rows : List Row) (cs : List ℕ) → ((q : ℕ) → q < m → HasMet w rows cs k q) → HasMet w rows cs k m → (q : ℕ) → q < m + 1 → HasMet w rows cs k q
more_met w k m rows cs old new q lq = dite (ℕ_discrete q m) (λ e. subst (HasMet w rows cs k) (sym e) new) (λ n. old q (omega arith))
