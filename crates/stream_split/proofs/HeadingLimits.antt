-- The limits at a heading, by numbers.
use Rattle.std.proofs.Common.{◌≡◌, ◌≢◌, ℕ, true, false, ap, ◌∙◌, ◌==◌, ◌+◌, ◌≤◌, ◌<◌, nat_lt, arith, List, [], length, Some, None, if◌then◌else◌}
use Rattle.m2_base.specs.Statics.BlockLimits.{too_many_procedures, too_deep_procedure}
use Rattle.stream_split.specs.declared.cutter.Frame.{Frame}
use Rattle.stream_split.specs.Limits.{heading_limit}
use Rattle.stream_split.specs.Views.{frames_view}
use Rattle.stream_split.proofs.Items.{frames_length}

equal : (m n : ℕ) → m ≡ n → (m == n) ≡ true
equal m n e = grind arith

different : (m n : ℕ) → m ≢ n → (m == n) ≡ false
different m n e = grind arith

less : (m n : ℕ) → m < n → nat_lt m n ≡ true
less m n e = grind arith

not_less : (m n : ℕ) → n ≤ m → nat_lt m n ≡ false
not_less m n e = grind arith

pub many : (before round at : ℕ) → before ≡ 16384 → heading_limit before round at ≡ Some (too_many_procedures at)
many before round at h =
    ap (λ b. if b then Some (too_many_procedures at) else (if nat_lt 16 (round + 1) then Some (too_deep_procedure at) else None)) (equal before 16384 h)

pub deep : (before round at : ℕ) → before ≢ 16384 → 16 < round + 1 → heading_limit before round at ≡ Some (too_deep_procedure at)
deep before round at h d =
    ap (λ b. if b then Some (too_many_procedures at) else (if nat_lt 16 (round + 1) then Some (too_deep_procedure at) else None)) (different before 16384 h)
    ∙ ap (λ b. if b then Some (too_deep_procedure at) else None) (less 16 (round + 1) d)

pub neither : (before round at : ℕ) → before ≢ 16384 → round + 1 ≤ 16 → heading_limit before round at ≡ None
neither before round at h d =
    ap (λ b. if b then Some (too_many_procedures at) else (if nat_lt 16 (round + 1) then Some (too_deep_procedure at) else None)) (different before 16384 h)
    ∙ ap (λ b. if b then Some (too_deep_procedure at) else None) (not_less 16 (round + 1) d)

pub count_is : (n : ℕ) (xs : List Frame) → length (frames_view n xs) ≡ length xs
count_is n xs = let e = frames_length n [] xs in omega (arith, e)
