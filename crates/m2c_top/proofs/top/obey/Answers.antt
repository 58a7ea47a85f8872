use Rattle.std.proofs.Common.{◌≡◌, map, refl, string_bytes, IfSome}
use Rattle.command_words.proofs.Asked.{asked_sound}
use Rattle.command_words.specs.Command.{command_of}
use Rattle.m2c_top.proofs.Asking.{commanded_comes, or_asks, usage_comes}
use Rattle.m2c_top.proofs.Obeying.{commanded_leaves, commanded_object, commanded_prints, nothing_printed, nothing_read, usage_leaves, usage_prints}
use Rattle.module_outcome.specs.Outcome.{HasObject, KeepsButObject}
use Rattle.m2c_top.proofs.top.obey.Goals as goal

pub carry_out-requires-clause-sound : goal.carry_out-requires-clause-sound
carry_out-requires-clause-sound g c κs within = asked_sound (map string_bytes c.args.words.now) (command_of c.in-Ok-Some.command) (rw c.in-Ok-Some.field-0-is at c.in-Ok-Some.ensures)

pub returns-in-Ok-Some-clause-leaves : goal.returns-in-Ok-Some-clause-leaves
returns-in-Ok-Some-clause-leaves g c =
    commanded_leaves (map string_bytes c.args.words.now) (g.H.Shelf.holds c.args.shelf.now) (g.H.Shelf.holds c.carry_out.new.shelf) (g.P.Sink.written c.args.print.now) (g.P.Sink.written c.carry_out.new.print)
    (g.K.Source.left c.args.keys.now) (g.K.Source.left c.carry_out.new.keys) (command_of c.in-Ok-Some.command) (rw c.in-Ok-Some.field-0-is at c.in-Ok-Some.ensures) c.carry_out.result c.carry_out.ensures.leaves

pub returns-in-Ok-Some-clause-prints : goal.returns-in-Ok-Some-clause-prints
returns-in-Ok-Some-clause-prints g c =
    commanded_prints (map string_bytes c.args.words.now) (g.H.Shelf.holds c.args.shelf.now) (g.H.Shelf.holds c.carry_out.new.shelf) (g.P.Sink.written c.args.print.now) (g.P.Sink.written c.carry_out.new.print)
    (g.K.Source.left c.args.keys.now) (g.K.Source.left c.carry_out.new.keys) (command_of c.in-Ok-Some.command) (rw c.in-Ok-Some.field-0-is at c.in-Ok-Some.ensures) c.carry_out.result c.carry_out.ensures.prints

pub returns-in-Ok-Some-clause-object : goal.returns-in-Ok-Some-clause-object
returns-in-Ok-Some-clause-object g c =
    commanded_object (map string_bytes c.args.words.now) (g.H.Shelf.holds c.args.shelf.now) (g.H.Shelf.holds c.carry_out.new.shelf) (g.P.Sink.written c.args.print.now) (g.P.Sink.written c.carry_out.new.print)
    (g.K.Source.left c.args.keys.now) (g.K.Source.left c.carry_out.new.keys) (command_of c.in-Ok-Some.command) (rw c.in-Ok-Some.field-0-is at c.in-Ok-Some.ensures) (λ name. IfSome (g.H.Shelf.holds c.carry_out.new.shelf) (HasObject name))
    c.carry_out.result c.carry_out.ensures.object

pub returns-in-Ok-Some-clause-comes : goal.returns-in-Ok-Some-clause-comes
returns-in-Ok-Some-clause-comes g c =
    commanded_comes (map string_bytes c.args.words.now) (g.H.Shelf.holds c.args.shelf.now) (command_of c.in-Ok-Some.command) (rw c.in-Ok-Some.field-0-is at c.in-Ok-Some.ensures) c.carry_out.result c.carry_out.ensures.comes

pub returns-in-Ok-Some-clause-part : goal.returns-in-Ok-Some-clause-part
returns-in-Ok-Some-clause-part g c =
    let holds = g.H.Shelf.holds c.args.shelf.now in
    let after = g.H.Shelf.holds c.carry_out.new.shelf in
    or_asks (map string_bytes c.args.words.now) (command_of c.in-Ok-Some.command) (rw c.in-Ok-Some.field-0-is at c.in-Ok-Some.ensures) (after ≡ holds) (λ name. KeepsButObject name holds after) c.carry_out.ensures.part

pub returns-in-Ok-None-clause-comes : goal.returns-in-Ok-None-clause-comes
returns-in-Ok-None-clause-comes g c = usage_comes (map string_bytes c.args.words.now) (g.H.Shelf.holds c.args.shelf.now) (rw c.in-Ok-None.field-0-is at c.in-Ok-None.ensures) c.print_usage.result

pub returns-in-Ok-None-clause-leaves : goal.returns-in-Ok-None-clause-leaves
returns-in-Ok-None-clause-leaves g c =
    usage_leaves (map string_bytes c.args.words.now) (g.H.Shelf.holds c.args.shelf.now) (g.H.Shelf.holds c.args.shelf.now) (g.P.Sink.written c.args.print.now) (g.P.Sink.written c.print_usage.new.print)
    (g.K.Source.left c.args.keys.now) (g.K.Source.left c.args.keys.now) c.print_usage.result refl refl (rw c.in-Ok-None.field-0-is at c.in-Ok-None.ensures) c.print_usage.ensures.ok c.print_usage.ensures.printed

pub returns-in-Ok-None-clause-prints : goal.returns-in-Ok-None-clause-prints
returns-in-Ok-None-clause-prints g c =
    usage_prints (map string_bytes c.args.words.now) (g.H.Shelf.holds c.args.shelf.now) (g.H.Shelf.holds c.args.shelf.now) (g.P.Sink.written c.args.print.now) (g.P.Sink.written c.print_usage.new.print)
    (g.K.Source.left c.args.keys.now) (g.K.Source.left c.args.keys.now) c.print_usage.result (rw c.in-Ok-None.field-0-is at c.in-Ok-None.ensures) c.print_usage.ensures.part

pub returns-in-Err-clause-prints : goal.returns-in-Err-clause-prints
returns-in-Err-clause-prints g c = nothing_printed (map string_bytes c.args.words.now) (g.H.Shelf.holds c.args.shelf.now) (g.P.Sink.written c.args.print.now) (g.K.Source.left c.args.keys.now)

pub returns-in-Err-clause-left : goal.returns-in-Err-clause-left
returns-in-Err-clause-left g c = nothing_read (g.K.Source.left c.args.keys.now)
