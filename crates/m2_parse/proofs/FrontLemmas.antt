-- Reading the imports of a front, as the loop does: `front` is what it has, i of `count` rounds are behind it, ts is still
-- to be read, and `total` is what the whole gives.
use Rattle.std.proofs.Common.{◌≡◌, ℕ, suc, ◌-◌, ◌+◌, ◌≤◌, ◌<◌, List, ◌++◌, Ok, Err, refl, sym, ◌∙◌, append_assoc, arith}
use Rattle.std.proofs.lemmas.List.{append-nil}
use Rattle.m2_base.specs.declared.token.Token.{Token}
use Rattle.m2_base.specs.declared.trees.Ident.{Ident}
use Rattle.m2_base.specs.Fronts.{modules_of}
use Rattle.m2_base.specs.Trees as trees
use Rattle.m2_parse.specs.declared.faults.Refusal.{Refusal}
use Rattle.m2_parse.specs.Fronts.{modules_at}
use Rattle.m2_parse.specs.ReadStreams.{import_at}

module _ (front : List Ident) (count i : ℕ) (ts : List Token) (total : List Ident)
    (so_far : front ++ modules_at (count - i) ts ≡ total) where
  -- an import was read
  pub goes_on : (x : trees.Import) (after : List Token) (some new : List Ident) → i < count → import_at ts ≡ Ok (x, after)
      → some ≡ modules_of x → new ≡ front ++ some → new ++ modules_at (count - (i + 1)) after ≡ total
  unfolding modules_at
  goes_on x after some new lt h s n =
      let e : count - i ≡ suc (count - (i + 1)) = omega arith in
      let same : front ++ modules_at (count - i) ts ≡ front ++ (modules_of x ++ modules_at (count - (i + 1)) after) = rw (e, h) refl in
      rw (n, s) (append_assoc front (modules_of x) (modules_at (count - (i + 1)) after) ∙ sym same ∙ so_far)

  -- an import is refused
  pub stops : (r : Refusal) → i < count → import_at ts ≡ Err r → front ≡ total
  unfolding modules_at
  stops r lt h =
      let e : count - i ≡ suc (count - (i + 1)) = omega arith in
      let same : front ++ modules_at (count - i) ts ≡ front = rw (e, h) (append-nil front) in
      sym same ∙ so_far

  -- each round was gone
  pub is_done : count ≤ i → front ≡ total
  unfolding modules_at
  is_done le =
      let e : count - i ≡ 0 = omega arith in
      let same : front ++ modules_at (count - i) ts ≡ front = rw e (append-nil front) in
      sym same ∙ so_far
