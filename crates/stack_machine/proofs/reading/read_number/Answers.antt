use Rattle.std.proofs.Common.{◌≡◌, ◌≤◌, ℕ, List, Option, Some, sym, subst, arith, rules}
use Rattle.std.specs.Prelude.{IfSome, drop}
use Rattle.std.specs.Option.{option_to_list}
use Rattle.std.proofs.Common.{◌++◌}
use Rattle.stack_machine.specs.declared.reading.Ahead.{Ahead}
use Rattle.stack_machine.specs.declared.reading.Reading.{Reading}
use Rattle.stack_machine.specs.InOut.{is_blank, number_of}
use Rattle.stack_machine.specs.Readings.{IsOver, Passed, ahead_by, IsReading}
use Rattle.stack_machine.proofs.Written.{on_err, rose_from}
use Rattle.stack_machine.proofs.Numbering.{whole, taken_none, blanks_fail, sign_fail, digits_fail}
use Rattle.stack_machine.proofs.reading.read_number.Goals as goal

pub returns-in_err-byte-clause-err : goal.returns-in_err-byte-clause-err
returns-in_err-byte-clause-err g c = on_err c.from_residual.result (taken_none (g.K.Source.left c.args.keys.now) (g.K.Source.left c.first_byte.new.keys) c.in_err-byte.ensures.err)

pub returns-in_err-pass_blanks-clause-err : goal.returns-in_err-pass_blanks-clause-err
returns-in_err-pass_blanks-clause-err g c =
    on_err c.from_residual-in_err-pass_blanks.result
    (blanks_fail c.args.kept c.in_ok-byte.byte (g.K.Source.left c.args.keys.now) (g.K.Source.left c.first_byte.new.keys) (g.K.Source.left c.pass_blanks.new.keys) c.in_ok-byte.ensures.byte
    (subst (λ (a : Ahead). IfSome (g.K.Source.left c.first_byte.new.keys) (λ l. IsOver a l → (n : ℕ) × (g.K.Source.left c.pass_blanks.new.keys ≡ Some (drop n l)))) c.ahead_of-ahead.ensures c.in_err-pass_blanks.ensures.err))

pub returns-in_err-negative-clause-err : goal.returns-in_err-negative-clause-err
returns-in_err-negative-clause-err g c =
    let passed : IfSome (g.K.Source.left c.first_byte.new.keys) (λ l. IsOver (ahead_by c.in_ok-byte.byte) l → Passed is_blank (ahead_by c.in_ok-byte.byte) l c.pass_blanks.new.ahead (g.K.Source.left c.pass_blanks.new.keys)) =
    subst (λ (a : Ahead). IfSome (g.K.Source.left c.first_byte.new.keys) (λ l. IsOver a l → Passed is_blank a l c.pass_blanks.new.ahead (g.K.Source.left c.pass_blanks.new.keys))) c.ahead_of-ahead.ensures c.in_ok-pass_blanks.ensures.passed in
    on_err c.from_residual-in_err-negative.result
    (sign_fail c.args.kept c.in_ok-byte.byte c.pass_blanks.new.ahead (g.K.Source.left c.args.keys.now) (g.K.Source.left c.first_byte.new.keys) (g.K.Source.left c.pass_blanks.new.keys) (g.K.Source.left c.take_sign.new.keys) c.in_ok-byte.ensures.byte passed c.in_err-negative.ensures.err)

pub returns-in_err-number-clause-err : goal.returns-in_err-number-clause-err
returns-in_err-number-clause-err g c =
    let passed : IfSome (g.K.Source.left c.first_byte.new.keys) (λ l. IsOver (ahead_by c.in_ok-byte.byte) l → Passed is_blank (ahead_by c.in_ok-byte.byte) l c.pass_blanks.new.ahead (g.K.Source.left c.pass_blanks.new.keys)) =
    subst (λ (a : Ahead). IfSome (g.K.Source.left c.first_byte.new.keys) (λ l. IsOver a l → Passed is_blank a l c.pass_blanks.new.ahead (g.K.Source.left c.pass_blanks.new.keys))) c.ahead_of-ahead.ensures c.in_ok-pass_blanks.ensures.passed in
    on_err c.from_residual-in_err-number.result
    (digits_fail c.args.kind c.in_ok-negative.negative c.args.kept c.in_ok-byte.byte c.pass_blanks.new.ahead c.take_sign.new.ahead (g.K.Source.left c.args.keys.now) (g.K.Source.left c.first_byte.new.keys) (g.K.Source.left c.pass_blanks.new.keys) (g.K.Source.left c.take_sign.new.keys) (g.K.Source.left c.take_digits.new.keys) c.in_ok-byte.ensures.byte passed c.in_ok-negative.ensures.signed c.in_err-number.ensures.err)

pub returns-clause-ok : goal.returns-clause-ok
returns-clause-ok g c =
    let passed : IfSome (g.K.Source.left c.first_byte.new.keys) (λ l. IsOver (ahead_by c.in_ok-byte.byte) l → Passed is_blank (ahead_by c.in_ok-byte.byte) l c.pass_blanks.new.ahead (g.K.Source.left c.pass_blanks.new.keys)) =
    subst (λ (a : Ahead). IfSome (g.K.Source.left c.first_byte.new.keys) (λ l. IsOver a l → Passed is_blank a l c.pass_blanks.new.ahead (g.K.Source.left c.pass_blanks.new.keys))) c.ahead_of-ahead.ensures c.in_ok-pass_blanks.ensures.passed in
    subst (λ (r : Reading). IfSome (g.K.Source.left c.args.keys.now) (λ l. IsReading r (number_of c.args.kind (option_to_list c.args.kept ++ l)) (g.K.Source.left c.take_digits.new.keys))) (sym c.number_reading.ensures)
    (whole c.args.kind c.in_ok-negative.negative c.in_ok-number.number c.args.kept c.in_ok-byte.byte c.pass_blanks.new.ahead c.take_sign.new.ahead c.take_digits.new.ahead (g.K.Source.left c.args.keys.now) (g.K.Source.left c.first_byte.new.keys) (g.K.Source.left c.pass_blanks.new.keys) (g.K.Source.left c.take_sign.new.keys) (g.K.Source.left c.take_digits.new.keys)
    c.in_ok-byte.ensures.byte passed c.in_ok-negative.ensures.signed c.in_ok-number.ensures.digits)

pub returns-in_err-pass_blanks-clause-failed : goal.returns-in_err-pass_blanks-clause-failed
returns-in_err-pass_blanks-clause-failed g c =
    let a = c.first_byte.ensures.later in
    on_err c.from_residual-in_err-pass_blanks.result (rose_from (g.K.Source.faults c.args.keys.now) (g.K.Source.faults c.first_byte.new.keys) (g.K.Source.faults c.pass_blanks.new.keys) (omega (arith, a)) c.in_err-pass_blanks.ensures.failed)

pub returns-in_err-pass_blanks-clause-later : goal.returns-in_err-pass_blanks-clause-later
returns-in_err-pass_blanks-clause-later g c =
    let a = c.first_byte.ensures.later in let z = c.pass_blanks.ensures.later in
    omega (arith, a, z)

pub returns-in_err-negative-clause-failed : goal.returns-in_err-negative-clause-failed
returns-in_err-negative-clause-failed g c =
    let a = c.first_byte.ensures.later in let b = c.pass_blanks.ensures.later in
    on_err c.from_residual-in_err-negative.result (rose_from (g.K.Source.faults c.args.keys.now) (g.K.Source.faults c.pass_blanks.new.keys) (g.K.Source.faults c.take_sign.new.keys) (omega (arith, a, b)) c.in_err-negative.ensures.failed)

pub returns-in_err-negative-clause-later : goal.returns-in_err-negative-clause-later
returns-in_err-negative-clause-later g c =
    let a = c.first_byte.ensures.later in let b = c.pass_blanks.ensures.later in let z = c.take_sign.ensures.later in
    omega (arith, a, b, z)

pub returns-in_err-number-clause-failed : goal.returns-in_err-number-clause-failed
returns-in_err-number-clause-failed g c =
    let a = c.first_byte.ensures.later in let b = c.pass_blanks.ensures.later in let e = c.take_sign.ensures.later in
    on_err c.from_residual-in_err-number.result (rose_from (g.K.Source.faults c.args.keys.now) (g.K.Source.faults c.take_sign.new.keys) (g.K.Source.faults c.take_digits.new.keys) (omega (arith, a, b, e)) c.in_err-number.ensures.failed)

pub returns-in_err-number-clause-later : goal.returns-in_err-number-clause-later
returns-in_err-number-clause-later g c =
    let a = c.first_byte.ensures.later in let b = c.pass_blanks.ensures.later in let e = c.take_sign.ensures.later in let z = c.take_digits.ensures.later in
    omega (arith, a, b, e, z)

pub returns-clause-later : goal.returns-clause-later
returns-clause-later g c =
    let a = c.first_byte.ensures.later in let b = c.pass_blanks.ensures.later in let e = c.take_sign.ensures.later in let d = c.take_digits.ensures.later in
    omega (arith, a, b, e, d)
