-- The order in which diagnostics are listed is one.
use Rattle.std.proofs.Common.{◌≡◌, ◌⊎◌, inl, inr, ℕ, ◌<◌, ◌==◌, Bool, true, false, refl, sym, ◌∙◌, arith, nat_lt, ◌&&◌, if◌then◌else◌}
use Rattle.std.proofs.lemmas.Bool.{false≢true}
use Rattle.m2_base.specs.declared.notes.Diag.{Diag}
use Rattle.listings.specs.Ordering.{comes_before, is_same}

abbrev pub Lower : (a b : ℕ) → Type 0 → Type 0
Lower a b P = (a < b) ⊎ ((a ≡ b) × P)

-- one is listed before the other
abbrev pub Before : Diag → Diag → Type 0
Before d e = Lower d.text e.text (Lower d.at e.at (d.code < e.code))

lower_of : (a b : ℕ) (c : Bool) (P : Type 0) → (c ≡ true → P) → (if a == b then c else nat_lt a b) ≡ true → Lower a b P
lower_of a b c P f h = elim (a == b) as (λ t. (a == b) ≡ t → (if t then c else nat_lt a b) ≡ true → Lower a b P) [
  | true ↦ λ e k. inr (grind arith, f k)
  | false ↦ λ e k. inl (grind arith)
] refl h

of_lower : (a b : ℕ) (c : Bool) (P : Type 0) → (P → c ≡ true) → Lower a b P → (if a == b then c else nat_lt a b) ≡ true
of_lower a b c P f (inl l) = elim (a == b) as (λ t. (a == b) ≡ t → (if t then c else nat_lt a b) ≡ true) [
  | true ↦ λ e. absurd (grind arith)
  | false ↦ λ e. grind arith
] refl
of_lower a b c P f (inr l) = elim (a == b) as (λ t. (a == b) ≡ t → (if t then c else nat_lt a b) ≡ true) [
  | true ↦ λ e. f l.1
  | false ↦ λ e. absurd (let same : a ≡ b = l.0 in grind arith)
] refl

pub before_of : (d e : Diag) → comes_before d e ≡ true → Before d e
before_of d e h = lower_of d.text e.text _ _ (λ k. lower_of d.at e.at _ _ (λ l. grind arith) k) h

pub of_before : (d e : Diag) → Before d e → comes_before d e ≡ true
of_before d e h = of_lower d.text e.text _ _ (λ k. of_lower d.at e.at _ _ (λ l. grind arith) k) h

lower_trans : (a b c : ℕ) (P Q R : Type 0) → (P → Q → R) → Lower a b P → Lower b c Q → Lower a c R
lower_trans a b c P Q R f (inl x) (inl y) = inl (omega (arith, x, y))
lower_trans a b c P Q R f (inl x) (inr y) = inl (let e : b ≡ c = y.0 in omega (arith, x, e))
lower_trans a b c P Q R f (inr x) (inl y) = inl (let e : a ≡ b = x.0 in omega (arith, y, e))
lower_trans a b c P Q R f (inr x) (inr y) = inr (x.0 ∙ y.0, f x.1 y.1)

lower_irrefl : (a : ℕ) (P : Type 0) → (P → ⊥) → Lower a a P → ⊥
lower_irrefl a P f (inl x) = omega (arith, x)
lower_irrefl a P f (inr x) = f x.1

lower_total : (a b : ℕ) (P Q R : Type 0) → (a ≡ b → P ⊎ (Q ⊎ R)) → Lower a b P ⊎ (Lower b a Q ⊎ ((a ≡ b) × R))
lower_total a b P Q R f = elim (which a b) as (λ _. Lower a b P ⊎ (Lower b a Q ⊎ ((a ≡ b) × R))) [
  | inl x ↦ inl (inl x)
  | inr (inl x) ↦ inr (inl (inl x))
  | inr (inr x) ↦ elim (f x) as (λ _. Lower a b P ⊎ (Lower b a Q ⊎ ((a ≡ b) × R))) [
    | inl p ↦ inl (inr (x, p))
    | inr (inl q) ↦ inr (inl (inr (sym x, q)))
    | inr (inr r) ↦ inr (inr (x, r))
  ]
]
  where
    which : (m n : ℕ) → (m < n) ⊎ ((n < m) ⊎ (m ≡ n))
    which m n = grind arith

pub before_trans : (d e f : Diag) → Before d e → Before e f → Before d f
before_trans d e f = lower_trans d.text e.text f.text _ _ _ (lower_trans d.at e.at f.at _ _ _ (λ x y. omega (arith, x, y)))

pub before_irrefl : (d : Diag) → Before d d → ⊥
before_irrefl d = lower_irrefl d.text _ (lower_irrefl d.at _ (λ x. omega (arith, x)))

-- of two diagnostics one is before the other, or they are one
pub before_total : (d e : Diag) → Before d e ⊎ (Before e d ⊎ (d ≡ e))
before_total d e = elim (lower_total d.text e.text _ _ _ (λ s. lower_total d.at e.at _ _ (d.code ≡ e.code) (λ t. codes))) as (λ _. Before d e ⊎ (Before e d ⊎ (d ≡ e))) [
  | inl x ↦ inl x
  | inr (inl x) ↦ inr (inl x)
  | inr (inr x) ↦ inr (inr (λ k. record { text = x.0 k; at = x.1.0 k; code = x.1.1 k }))
]
  where
    codes : (d.code < e.code) ⊎ ((e.code < d.code) ⊎ (d.code ≡ e.code))
    codes = grind arith

both : (a b : Bool) → (a && b) ≡ true → (a ≡ true) × (b ≡ true)
both true b h = (refl, h)
both false b h = absurd (false≢true h)

pub same_by_fields : (d e : Diag) → (d.text == e.text && (d.at == e.at && d.code == e.code)) ≡ true → d ≡ e
same_by_fields d e h =
    let two = both (d.text == e.text) (d.at == e.at && d.code == e.code) h in
    let one = both (d.at == e.at) (d.code == e.code) two.1 in
    let p : d.text ≡ e.text = let h : (d.text == e.text) ≡ true = two.0 in grind arith in
    let q : d.at ≡ e.at = let h : (d.at == e.at) ≡ true = one.0 in grind arith in
    let r : d.code ≡ e.code = let h : (d.code == e.code) ≡ true = one.1 in grind arith in
    λ k. record { text = p k; at = q k; code = r k }

pub same_self : (d : Diag) → is_same d d ≡ true
same_self d = grind arith
