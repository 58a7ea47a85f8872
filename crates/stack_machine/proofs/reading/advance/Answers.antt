use Rattle.std.proofs.Common.{◌≡◌, ◌≢◌, arith, rules, sym, ap, ◌∙◌, Some, None, Option, ℕ}
use Rattle.stack_machine.proofs.Taking.{told_end, told_byte}
use Rattle.stack_machine.proofs.reading.advance.Goals as goal

pub returns-in-Some-clause-moves : goal.returns-in-Some-clause-moves
returns-in-Some-clause-moves g c =
    told_byte c.args.ahead.now.byte c.args.ahead.now.more c.in_ok-byte.field-0 c.in-Some.byte (g.K.Source.left c.args.keys.now) (g.K.Source.left c.next_byte.new.keys) c.requires (search rules) c.in_ok-byte.ensures.byte c.in-Some.is

pub returns-in-None-clause-moves : goal.returns-in-None-clause-moves
returns-in-None-clause-moves g c =
    told_end c.args.ahead.now.byte c.args.ahead.now.more c.in_ok-byte.field-0 (g.K.Source.left c.args.keys.now) (g.K.Source.left c.next_byte.new.keys) c.requires c.in_ok-byte.ensures.byte c.in-None.is
