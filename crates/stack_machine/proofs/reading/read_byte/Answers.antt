use Rattle.std.proofs.Common.{◌≡◌, ◌++◌, List, ℕ, Option, ℤ, None, sym, subst}
use Rattle.std.specs.Prelude.{IfSome}
use Rattle.std.specs.Option.{option_to_list}
use Rattle.stack_machine.specs.InOut.{byte_of}
use Rattle.stack_machine.specs.Readings.{IsReading}
use Rattle.stack_machine.proofs.Written.{on_err}
use Rattle.stack_machine.proofs.Numbering.{byte_read, taken_none}
use Rattle.stack_machine.proofs.reading.read_byte.Goals as goal

pub returns-in_err-byte-clause-err : goal.returns-in_err-byte-clause-err
returns-in_err-byte-clause-err g c = on_err c.from_residual.result (taken_none (g.K.Source.left c.args.keys.now) (g.K.Source.left c.first_byte.new.keys) c.in_err-byte.ensures.err)

pub returns-clause-ok : goal.returns-clause-ok
returns-clause-ok g c =
    subst (λ (v : Option ℤ). IfSome (g.K.Source.left c.args.keys.now) (λ l. IsReading (record { value = v; kept = None }) (byte_of (option_to_list c.args.kept ++ l)) (g.K.Source.left c.first_byte.new.keys))) (sym c.number_of_byte.ensures)
    (byte_read c.args.kept c.in_ok-byte.byte (g.K.Source.left c.args.keys.now) (g.K.Source.left c.first_byte.new.keys) c.in_ok-byte.ensures.byte)
