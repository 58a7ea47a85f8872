use Rattle.std.proofs.Common.{arith, inl}
use Rattle.object_file.specs.Views.{contents_of}
use Rattle.object_file.proofs.OneTelling.{one_object, fine, nothing_told, only_bad, read_valid, told_left}
use Rattle.object_file.proofs.object.read_object.Goals as goal

pub invariant_of-result : goal.invariant_of-result
invariant_of-result c = read_valid c.args.bytes.now (contents_of c.in-Ok.parts) c.in-Ok.ensures

pub overflow_sub-offset : goal.overflow_sub-offset
overflow_sub-offset c = told_left c.args.bytes.now (record { left = c.in-Err-Bad.left; code = c.in-Err-Bad.code }) (rw c.in-Err-Bad.field-0-is at c.in-Err-Bad.ensures)

pub returns-in-Ok-clause-only_object : goal.returns-in-Ok-clause-only_object
returns-in-Ok-clause-only_object c = λ o h. one_object c.args.bytes.now (contents_of c.in-Ok.parts) o c.in-Ok.ensures h

pub returns-in-Ok-clause-only_fault : goal.returns-in-Ok-clause-only_fault
returns-in-Ok-clause-only_fault c = λ offset code b. fine c.args.bytes.now (contents_of c.in-Ok.parts) offset code c.in-Ok.ensures b

pub returns-in-Err-Bad-clause-fault : goal.returns-in-Err-Bad-clause-fault
returns-in-Err-Bad-clause-fault c =
    let within = told_left c.args.bytes.now (record { left = c.in-Err-Bad.left; code = c.in-Err-Bad.code }) (rw c.in-Err-Bad.field-0-is at c.in-Err-Bad.ensures) in
    record { left = c.in-Err-Bad.left; place = omega (arith, within); told = (rw c.in-Err-Bad.field-0-is at c.in-Err-Bad.ensures) }

pub returns-in-Err-Bad-clause-only_object : goal.returns-in-Err-Bad-clause-only_object
returns-in-Err-Bad-clause-only_object c = λ o h. absurd (nothing_told c.args.bytes.now o (record { left = c.in-Err-Bad.left; code = c.in-Err-Bad.code }) h (rw c.in-Err-Bad.field-0-is at c.in-Err-Bad.ensures))

pub returns-in-Err-Bad-clause-only_fault : goal.returns-in-Err-Bad-clause-only_fault
returns-in-Err-Bad-clause-only_fault c = λ offset code b. inl (only_bad c.args.bytes.now c.in-Err-Bad.left c.in-Err-Bad.code offset code (rw c.in-Err-Bad.field-0-is at c.in-Err-Bad.ensures) b)
