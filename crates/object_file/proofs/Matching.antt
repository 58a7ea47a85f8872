-- Comparing with the expected bytes, one after another.
use Rattle.std.proofs.Common.{◌≡◌, ◌≢◌, ℕ, suc, ◌+◌, ◌-◌, ◌<◌, ◌≤◌, List, ◌∷◌, length, drop, get_or, Ok, Err, refl, ◌∙◌, ap, arith, eqb, true}
use Rattle.std.proofs.lemmas.Bool.{ne_eqb}
use Rattle.std.proofs.lemmas.Bool.Decides.{nat_tests}
use Rattle.std.proofs.lemmas.List.{length-drop, drop_all}
use Rattle.std.proofs.Math.Seq.{drop-cons}
use Rattle.object_file.specs.Fields.{match_at}

eqb-self : (n : ℕ) → eqb n n ≡ true
eqb-self n = grind (arith, nat_tests)

pub eq-eqb : (m n : ℕ) → m ≡ n → eqb m n ≡ true
eq-eqb m n h = rw h (eqb-self n)

-- both lists at one place
cons : (e b : List ℕ) (i : ℕ) → i < length e → i < length b → match_at (drop i e) (drop i b) ≡ match_at (get_or e i 0 ∷ drop (i + 1) e) (get_or b i 0 ∷ drop (i + 1) b)
cons e b i le lb =
    let one : i + 1 ≡ suc i = omega arith in
    rw (one, drop-cons e i 0, drop-cons b i 0) refl

pub same_byte : (e b : List ℕ) (i : ℕ) → i < length e → i < length b → get_or b i 0 ≡ get_or e i 0 → match_at (drop i e) (drop i b) ≡ match_at (drop (i + 1) e) (drop (i + 1) b)
unfolding match_at
same_byte e b i le lb h = cons e b i le lb ∙ rw (eq-eqb (get_or b i 0) (get_or e i 0) h) refl

pub other_byte : (e b : List ℕ) (i : ℕ) → i < length e → i < length b → get_or b i 0 ≢ get_or e i 0 → match_at (drop i e) (drop i b) ≡ Err (record { left = length b - i; code = 3 })
unfolding match_at
other_byte e b i le lb h =
    let n : suc (length (drop (i + 1) b)) ≡ length b - i = omega (arith, length-drop (i + 1) b) in
    cons e b i le lb ∙ rw (ne_eqb (get_or b i 0) (get_or e i 0) h) (ap (λ (k : ℕ). Err (record { left = k; code = 3 })) n)

pub all_same : (e b : List ℕ) (i : ℕ) → length e ≤ i → match_at (drop i e) b ≡ Ok b
unfolding match_at
all_same e b i h = rw (drop_all i e h) refl
