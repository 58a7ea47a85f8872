-- Rows as the layout gives them have no name twice.
use Rattle.std.specs.Prelude.{◌≡◌, ◌≢◌, ℕ, zero, suc, ◌+◌, ◌==◌, Bool, true, false, if◌then◌else◌, List, Option, Some, None, slice_get, unwrap_or}
use Rattle.std.proofs.Common.{refl, sym, ap, subst, ◌∙◌, arith}
use Rattle.m2_base.specs.Lists.{HasNoRepeats}
use Rattle.m2_base.specs.Standard.{is_standard}
use Rattle.m2_base.specs.Statics.Contexts.{Layout}
use Rattle.m2_base.specs.Statics.Lookup.{first_entry}
use Rattle.m2_base.specs.Statics.Shapes.{Shape}
use Rattle.m2_base.specs.declared.rows.Row.{Row}
use Rattle.m2_base.specs.declared.sites.Named.{Named}
use Rattle.decl_sem.specs.LaidRows.{AreLaid, is_of, kept_name, more_laid, none_laid}

pub some_is : {A : Type 0} (x y : A) → Some x ≡ Some y → x ≡ y
some_is x y e = ap (λ o. unwrap_or o x) e

same_number : (m n : ℕ) → (m == n) ≡ true → m ≡ n
same_number m n h = grind arith

of_one : (a b : ℕ) (e : Option Named) → is_of a e ≡ true → is_of b e ≡ true → a ≡ b
of_one a b None h k = absurd (cc)
of_one a b (Some e) h k = sym (same_number e.ordinal a h) ∙ same_number e.ordinal b k

named_of : (layout : Layout) (o name : ℕ) (standard of : Bool) → is_of o (first_entry layout name) ≡ of → (if standard then 0 else if of then name else 0) ≢ 0 → is_of o (first_entry layout (if standard then 0 else if of then name else 0)) ≡ true
named_of layout o name true of h some = absurd (some refl)
named_of layout o name false true h some = h
named_of layout o name false false h some = absurd (some refl)

kept_here : (layout : Layout) (o name : ℕ) → kept_name layout o name ≢ 0 → is_of o (first_entry layout (kept_name layout o name)) ≡ true
kept_here layout o name some = named_of layout o name (is_standard name) (is_of o (first_entry layout name)) refl some

row_at_first : {layout : Layout} {o : ℕ} {ss : List Shape} {rs : List Row} → AreLaid layout o ss rs → (i : ℕ) (r : Row) → slice_get rs i ≡ Some r → r.name ≢ 0 → is_of (o + i) (first_entry layout r.name) ≡ true
row_at_first none_laid i r e some = absurd (cc)
row_at_first {layout} {o} (more_laid {s = s} {r = x} l more) zero r e some =
    let same : x ≡ r = some_is x r e in
    let name : r.name ≡ kept_name layout o s.name = ap (λ (z : Row). z.name) (sym same) ∙ l.name in
    let at : o ≡ o + 0 = omega arith in
    subst (λ (n : ℕ). is_of n (first_entry layout r.name) ≡ true) at
    (subst (λ (n : ℕ). is_of o (first_entry layout n) ≡ true) (sym name) (kept_here layout o s.name (λ none. some (name ∙ none))))
row_at_first {layout} {o} (more_laid l more) (suc i) r e some =
    let at : o + 1 + i ≡ o + suc i = omega arith in
    subst (λ (n : ℕ). is_of n (first_entry layout r.name) ≡ true) at (row_at_first more i r e some)

pub laid_once : {layout : Layout} {ss : List Shape} {rs : List Row} → AreLaid layout 0 ss rs → HasNoRepeats (λ r. r.name) rs
laid_once {layout} laid i j x y before a b some same =
    let first : is_of (0 + i) (first_entry layout x.name) ≡ true = row_at_first laid i x a some in
    let second : is_of (0 + j) (first_entry layout y.name) ≡ true = row_at_first laid j y b (λ none. some (same ∙ none)) in
    let both : is_of (0 + j) (first_entry layout x.name) ≡ true = subst (λ (n : ℕ). is_of (0 + j) (first_entry layout n) ≡ true) (sym same) second in
    let e = of_one (0 + i) (0 + j) (first_entry layout x.name) first both in
    omega (arith, e, before)
