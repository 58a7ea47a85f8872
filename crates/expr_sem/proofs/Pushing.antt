-- A further node behind others: what it stands for, and that all stay sound.
use Rattle.std.proofs.Common.{◌≡◌, ◌∙◌, ◌++◌, ◌∷◌, ◌⊎◌, inl, inr, [], ℕ, zero, suc, ◌<◌, ◌≤◌, List, length, Some, Ok, ap, sym, subst, refl, arith}
use Rattle.std.specs.Prelude.{get_or, slice_get, slice_index_or}
use Rattle.std.proofs.lemmas.List.{get_or_push}
use Rattle.expr_sem.specs.Fragments.{AreSound, IsMade, IsMadeOf, IsSound, part, part_by, parts_after}
use Rattle.block_code.specs.Parts.{Part, Spot, none, steps_size}
use Rattle.expr_sem.specs.declared.fragments.Fragment.TheVariants.{Node as NodeOf}
use Rattle.expr_sem.specs.declared.fragments.Node.{Node}
use Rattle.expr_sem.proofs.Sequencing.{parts_append, parts_length, part_before}

-- the node behind others stands for what its form is made of
pub part_pushed : (ns : List Node) (n : Node) → part (ns ++ n ∷ []) (NodeOf (length ns)) ≡ part_by (parts_after [] ns) n.form
part_pushed ns n =
    ap (λ (ps : List Part). slice_index_or ps (length ns) none) (parts_append [] ns (n ∷ []))
    ∙ get_or_push (parts_after [] ns) (part_by (parts_after [] ns) n.form) none (length ns) (let e = parts_length [] ns in omega (arith, e))

out_of : (ps : List Part) (k : ℕ) → length ps ≤ k → slice_index_or ps k none ≡ none
out_of [] k h = refl
out_of (p ∷ ps) zero h = absurd (omega (arith, h))
out_of (p ∷ ps) (suc k) h = out_of ps k (omega (arith, h))

-- a number of no node stands for no code
pub part_out : (ns : List Node) (k : ℕ) → length ns ≤ k → part ns (NodeOf k) ≡ none
part_out ns k h = out_of (parts_after [] ns) k (let e = parts_length [] ns in omega (arith, e, h))

some_same : {A : Type 0} {x y : A} → Some x ≡ Some y → x ≡ y
some_same e = cc

pushed : (xs : List Node) (y z : Node) (k : ℕ) → slice_get (xs ++ y ∷ []) k ≡ Some z → (slice_get xs k ≡ Some z) ⊎ ((k ≡ length xs) × (y ≡ z))
pushed [] y z zero e = inr (refl, some_same e)
pushed [] y z (suc k) e = absurd (cc)
pushed (x ∷ xs) y z zero e = inl e
pushed (x ∷ xs) y z (suc k) e = elim (pushed xs y z k e) as (λ _. (slice_get (x ∷ xs) (suc k) ≡ Some z) ⊎ ((suc k ≡ length (x ∷ xs)) × (y ≡ z))) [ inl h ↦ inl h | inr h ↦ inr (ap suc h.0, h.1) ]

inside : (xs : List Node) (z : Node) (k : ℕ) → slice_get xs k ≡ Some z → k < length xs
inside [] z k e = absurd (cc)
inside (x ∷ xs) z zero e = omega arith
inside (x ∷ xs) z (suc k) e = let h = inside xs z k e in omega (arith, h)

-- the nodes stay sound
pub sound_pushed : (ns : List Node) (n : Node) → IsMadeOf (length ns) n.form → (AreSound ns → (at : Spot) → steps_size (part_by (parts_after [] ns) n.form at).code ≡ n.size)
    → AreSound ns → AreSound (ns ++ n ∷ [])
sound_pushed ns n earlier sized sound k m e = by_place (pushed ns n m k e)
  where
    old_part : k < length ns → part (ns ++ n ∷ []) (NodeOf k) ≡ part ns (NodeOf k)
    old_part h = part_before ns (n ∷ []) (NodeOf k) h

    by_place : (slice_get ns k ≡ Some m) ⊎ ((k ≡ length ns) × (n ≡ m)) → IsSound (ns ++ n ∷ []) k m
    by_place (inl h) =
        record {
          earlier = (sound k m h).earlier;
          size = λ at. ap (λ (p : Part). steps_size (p at).code) (old_part (inside ns m k h)) ∙ (sound k m h).size at;
        }
    by_place (inr h) =
        subst (λ (x : Node). IsSound (ns ++ n ∷ []) k x) h.1
        (subst (λ (j : ℕ). IsSound (ns ++ n ∷ []) j n) (sym h.0)
        (record { earlier = earlier; size = λ at. ap (λ (p : Part). steps_size (p at).code) (part_pushed ns n) ∙ sized sound at }))

-- a node is pushed
pub made_pushed : (ns : List Node) (n : Node) → IsMadeOf (length ns) n.form → (AreSound ns → (at : Spot) → steps_size (part_by (parts_after [] ns) n.form at).code ≡ n.size)
    → IsMade ns (ns ++ n ∷ []) (Ok (NodeOf (length ns))) (part_by (parts_after [] ns) n.form)
made_pushed ns n earlier sized =
    record {
      grows = record { before = record { rest = n ∷ []; joined = refl }; sound = sound_pushed ns n earlier sized };
      made = record { there = behind ns n; part_is = part_pushed ns n };
    }
  where
    behind : (ns : List Node) (n : Node) → length ns < length (ns ++ n ∷ [])
    behind [] n = omega arith
    behind (x ∷ xs) n = let h = behind xs n in omega (arith, h)

pub there_at : (ns : List Node) (k : ℕ) (n : Node) → k < length ns → n ≡ get_or ns k n → slice_get ns k ≡ Some n
there_at [] k n h e = absurd (omega (arith, h))
there_at (x ∷ xs) zero n h e = ap Some (sym e)
there_at (x ∷ xs) (suc k) n h e = there_at xs k n (omega (arith, h)) e

-- a node has the length of its code
pub sized_at : (ns : List Node) (k : ℕ) (n : Node) → k < length ns → n ≡ get_or ns k n → AreSound ns → (at : Spot) → steps_size (part ns (NodeOf k) at).code ≡ n.size
sized_at ns k n h e sound at = (sound k n (there_at ns k n h e)).size at
