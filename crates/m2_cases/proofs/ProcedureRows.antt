-- The rows of procedures are those of their kind.
use Rattle.std.specs.Prelude.{◌≡◌, ℕ, ◌==◌, Bool, true, false, if◌then◌else◌}
use Rattle.std.proofs.Common.{refl, sym, ◌∙◌, arith}
use Rattle.m2_base.specs.Rows.{basic_of, natural}
use Rattle.m2_base.specs.Statics.ProcedureRows.{is_proc, is_proc_meaning}
use Rattle.m2_base.specs.declared.rows.Row.{Row}
use Rattle.m2_base.specs.declared.rows.RowMeaning.{RowMeaning}

by_test : (t : Bool) (x y : RowMeaning) (b : Bool) → (t ≡ true → is_proc_meaning x ≡ b) → (t ≡ false → is_proc_meaning y ≡ b) → is_proc_meaning (if t then x else y) ≡ b
by_test true x y b p q = p refl
by_test false x y b p q = q refl

neither : (t : Bool) (x y : RowMeaning) → is_proc_meaning x ≡ false → is_proc_meaning y ≡ false → is_proc_meaning (if t then x else y) ≡ false
neither true x y p q = p
neither false x y p q = q

other_kind : (k n : ℕ) → (k == n) ≡ true → (n == 4) ≡ false → false ≡ (k == 4)
other_kind k n h e = grind arith

no_basic : (n : ℕ) → is_proc_meaning (basic_of n) ≡ false
no_basic n =
    neither (n == 1) _ _ refl (neither (n == 2) _ _ refl (neither (n == 3) _ _ refl (neither (n == 4) _ _ refl (neither (n == 5) _ _ refl (neither (n == 6) _ _ refl refl)))))

pub kind_tells : (r : Row) → (r.kind == 4) ≡ is_proc r
kind_tells r =
    sym (by_test (r.kind == 1) _ _ _ (λ e. other_kind r.kind 1 e refl) (λ _.
    by_test (r.kind == 2) _ _ _ (λ e. other_kind r.kind 2 e refl) (λ _.
    by_test (r.kind == 3) _ _ _ (λ e. other_kind r.kind 3 e refl) (λ _.
    by_test (r.kind == 4) _ _ _ (λ e. sym e) (λ other.
    neither (r.kind == 5) _ _ refl (neither (r.kind == 6) _ _ refl (neither (r.kind == 7) _ _ refl (neither (r.kind == 8) _ _ refl
    (neither (r.kind == 9) _ _ refl (neither (r.kind == 10) _ _ (no_basic (natural r.a)) (neither (r.kind == 11) _ _ refl (neither (r.kind == 12) _ _ refl
    (neither (r.kind == 13) _ _ refl (neither (r.kind == 14) _ _ refl (neither (r.kind == 15) _ _ refl (neither (r.kind == 16) _ _ refl
    (neither (r.kind == 17) _ _ refl (neither (r.kind == 18) _ _ refl (neither (r.kind == 19) _ _ refl refl)))))))))))))) ∙ sym other)))))
