use Rattle.std.proofs.Common.{◌≡◌, ◌∙◌, length, eqb, ap, sym, refl, true, false, Some, None, arith}
use Rattle.std.specs.Prelude.{pos, vec_len}
use Rattle.std.proofs.lemmas.Result.{err_from_is_err_and}
use Rattle.code_form.specs.Valid.{of_instrs, in_code, of_high, same_height}
use Rattle.object_file.specs.Views.{procedure_of, world_in}
use Rattle.object_file.proofs.Finding.{right_is, level_is}
use Rattle.object_file.proofs.Judging.{fault_is, no_code, walk_told}
use Rattle.object_file.proofs.code.check.Goals as goal

pub returns-in_err-survey : goal.returns-in_err-survey
returns-in_err-survey c =
    let p = err_from_is_err_and c.from_residual.result c.from_residual.ensures.1 in
    rw (p.1, p.2) (walk_told (world_in c.args.parts.now) c.args.k (procedure_of c.args.own.now) c.in_err-survey.field-0.0 c.in_err-survey.ensures)

pub returns-then-is_empty : goal.returns-then-is_empty
returns-then-is_empty c =
    let w = world_in c.args.parts.now in
    let p = procedure_of c.args.own.now in
    let s = c.in_ok-survey.ensures in
    let len : length p.code ≡ vec_len c.args.own.now.code = omega (arith, c.args.own.now.code.ok.0) in
    let empty = no_code p.code s.is s.instrs_are ∙ ap (λ n. eqb n 0) len ∙ sym c.is_empty.ensures ∙ c.if-is_empty.true in
    of_instrs s.is (in_code 0 6) s.instrs_are (fault_is w c.args.k p s.is true _ _ _ empty refl refl refl)

pub returns-in-Some : goal.returns-in-Some
returns-in-Some c =
    let w = world_in c.args.parts.now in
    let p = procedure_of c.args.own.now in
    let s = c.in_ok-survey.ensures in
    let j = c.jump_faults-jumps.ensures in
    let len : length p.code ≡ vec_len c.args.own.now.code = omega (arith, c.args.own.now.code.ok.0) in
    let empty = no_code p.code s.is s.instrs_are ∙ ap (λ n. eqb n 0) len ∙ sym c.is_empty.ensures ∙ c.if-is_empty.false in
    let right = right_is w c.args.k p s.is _ _ (s.wrong_is s.is s.instrs_are) (j.nowhere s.is s.instrs_are) ∙ sym c.in-Some.ensures in
    of_instrs s.is (in_code c.in-Some.at 6) s.instrs_are (fault_is w c.args.k p s.is false (Some c.in-Some.at) _ _ empty right refl refl)

pub returns-in-Some-earlier : goal.returns-in-Some-earlier
returns-in-Some-earlier c =
    let w = world_in c.args.parts.now in
    let p = procedure_of c.args.own.now in
    let s = c.in_ok-survey.ensures in
    let j = c.jump_faults-jumps.ensures in
    let len : length p.code ≡ vec_len c.args.own.now.code = omega (arith, c.args.own.now.code.ok.0) in
    let empty = no_code p.code s.is s.instrs_are ∙ ap (λ n. eqb n 0) len ∙ sym c.is_empty.ensures ∙ c.if-is_empty.false in
    let right = right_is w c.args.k p s.is _ _ (s.wrong_is s.is s.instrs_are) (j.nowhere s.is s.instrs_are) ∙ sym c.in_default.ensures in
    let level = level_is w p s.is _ _ (s.low_is s.is s.instrs_are) (j.uneven s.is s.instrs_are) ∙ sym c.in-Some-earlier.ensures in
    of_instrs s.is (in_code c.in-Some-earlier.at 7) s.instrs_are (fault_is w c.args.k p s.is false None (Some c.in-Some-earlier.at) _ empty right level refl)

pub returns-then-not-is_high : goal.returns-then-not-is_high
returns-then-not-is_high c =
    let w = world_in c.args.parts.now in
    let p = procedure_of c.args.own.now in
    let s = c.in_ok-survey.ensures in
    let j = c.jump_faults-jumps.ensures in
    let len : length p.code ≡ vec_len c.args.own.now.code = omega (arith, c.args.own.now.code.ok.0) in
    let empty = no_code p.code s.is s.instrs_are ∙ ap (λ n. eqb n 0) len ∙ sym c.is_empty.ensures ∙ c.if-is_empty.false in
    let right = right_is w c.args.k p s.is _ _ (s.wrong_is s.is s.instrs_are) (j.nowhere s.is s.instrs_are) ∙ sym c.in_default.ensures in
    let level = level_is w p s.is _ _ (s.low_is s.is s.instrs_are) (j.uneven s.is s.instrs_are) ∙ sym c.in_default-earlier.ensures in
    let high = ap (λ h. same_height h (pos p.high)) (sym s.highest_is) ∙ sym c.is_high.ensures ∙ c.if-not-is_high.true in
    of_instrs s.is of_high s.instrs_are (fault_is w c.args.k p s.is false None None false empty right level high)

pub returns : goal.returns
returns c =
    let w = world_in c.args.parts.now in
    let p = procedure_of c.args.own.now in
    let s = c.in_ok-survey.ensures in
    let j = c.jump_faults-jumps.ensures in
    let len : length p.code ≡ vec_len c.args.own.now.code = omega (arith, c.args.own.now.code.ok.0) in
    let empty = no_code p.code s.is s.instrs_are ∙ ap (λ n. eqb n 0) len ∙ sym c.is_empty.ensures ∙ c.if-is_empty.false in
    let right = right_is w c.args.k p s.is _ _ (s.wrong_is s.is s.instrs_are) (j.nowhere s.is s.instrs_are) ∙ sym c.in_default.ensures in
    let level = level_is w p s.is _ _ (s.low_is s.is s.instrs_are) (j.uneven s.is s.instrs_are) ∙ sym c.in_default-earlier.ensures in
    let high = ap (λ h. same_height h (pos p.high)) (sym s.highest_is) ∙ sym c.is_high.ensures ∙ c.if-not-is_high.false in
    record { is = s.is; instrs = s.instrs_are; no_fault = fault_is w c.args.k p s.is false None None true empty right level high }
