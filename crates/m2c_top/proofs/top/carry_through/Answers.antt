use Rattle.std.proofs.Common.{◌≡◌, ◌⊎◌, Option, List, ℕ, map, string_bytes, subst, sym, IfOk, IfSome}
use Rattle.std.specs.Prelude.{IsErrOf}
use Rattle.m2_io.specs.Causes.{Rose}
use Rattle.module_outcome.specs.Outcome.{HasObject}
use Rattle.m2c_top.specs.Effects.{AsksToCompile, AsksToRun, Gives, HasInput, Leaves, ToCompile}
use Rattle.m2c_top.specs.Ending.{IsWellEnded}
use Rattle.m2c_top.specs.Statuses.{IsCompiledAs, status_number}
use Rattle.m2c_top.specs.declared.ending.Stop.TheVariants as stop
use Rattle.m2c_top.specs.declared.status.Status.TheVariants.{Done}
use Rattle.m2c_top.proofs.HandedOn.{prints_front, still_memory, still_ok, still_read, writing_failed}
use Rattle.m2c_top.proofs.top.carry_through.Goals as goal

pub returns-clause-leaves : goal.returns-clause-leaves
returns-clause-leaves g c =
    let words = map string_bytes c.args.words.now in
    let holds = g.H.Shelf.holds c.args.shelf.now in
    let after = g.H.Shelf.holds c.obey-ended.new.shelf in
    let before = g.K.Source.left c.args.keys.now in
    let left = g.K.Source.left c.obey-ended.new.keys in
    let old = g.P.Sink.written c.args.print.now in
    subst (λ (new : Option (List ℕ)). IfOk c.hand_on.result (λ status. IfSome holds (λ files. HasInput words before → Leaves (Gives words files before) (status_number status) after old new left))) (sym c.hand_on.ensures.written)
    (still_ok c.obey-ended.result c.hand_on.result c.hand_on.ensures.same
    (λ status. IfSome holds (λ files. HasInput words before → Leaves (Gives words files before) (status_number status) after old (g.P.Sink.written c.obey-ended.new.print) left)) c.obey-ended.ensures.leaves)

pub returns-clause-prints : goal.returns-clause-prints
returns-clause-prints g c =
    prints_front (map string_bytes c.args.words.now) (c.one_outcome.ensures (map string_bytes c.args.words.now)) c.hand_on.result (g.H.Shelf.holds c.args.shelf.now) (g.H.Shelf.holds c.obey-ended.new.shelf) (g.K.Source.left c.args.keys.now)
    (g.P.Sink.written c.args.print.now) (g.P.Sink.written c.obey-ended.new.print) (g.P.Sink.written c.hand_on.new.print) (g.K.Source.left c.obey-ended.new.keys) c.obey-ended.result c.hand_on.ensures.written
    c.obey-ended.ensures.leaves c.obey-ended.ensures.prints

pub returns-clause-status : goal.returns-clause-status
returns-clause-status g c = still_ok c.obey-ended.result c.hand_on.result c.hand_on.ensures.same (IsWellEnded (map string_bytes c.args.words.now)) c.obey-ended.ensures.status

pub returns-clause-comes : goal.returns-clause-comes
returns-clause-comes g c =
    let words = map string_bytes c.args.words.now in
    let holds = g.H.Shelf.holds c.args.shelf.now in
    still_ok c.obey-ended.result c.hand_on.result c.hand_on.ensures.same (λ status. IfSome holds (λ files. ToCompile words (λ name. IsCompiledAs files name status))) c.obey-ended.ensures.comes

pub returns-clause-object : goal.returns-clause-object
returns-clause-object g c =
    let words = map string_bytes c.args.words.now in
    let after = g.H.Shelf.holds c.obey-ended.new.shelf in
    still_ok c.obey-ended.result c.hand_on.result c.hand_on.ensures.same (λ status. status ≡ Done → ToCompile words (λ name. IfSome after (HasObject name))) c.obey-ended.ensures.object

pub returns-clause-kept : goal.returns-clause-kept
returns-clause-kept g c =
    let same = g.H.Shelf.holds c.obey-ended.new.shelf ≡ g.H.Shelf.holds c.args.shelf.now in
    still_ok c.obey-ended.result c.hand_on.result c.hand_on.ensures.same (λ status. (status ≡ Done → ⊥) → same) c.obey-ended.ensures.kept

pub returns-clause-unread : goal.returns-clause-unread
returns-clause-unread g c =
    still_read c.obey-ended.result c.hand_on.result c.hand_on.ensures.same (g.H.Shelf.holds c.obey-ended.new.shelf ≡ g.H.Shelf.holds c.args.shelf.now) c.obey-ended.ensures.unread

pub returns-clause-memory : goal.returns-clause-memory
returns-clause-memory g c =
    still_memory c.obey-ended.result c.hand_on.result c.hand_on.ensures.same (g.H.Shelf.holds c.obey-ended.new.shelf ≡ g.H.Shelf.holds c.args.shelf.now) c.obey-ended.ensures.memory

pub returns-clause-read : goal.returns-clause-read
returns-clause-read g c =
    let words = map string_bytes c.args.words.now in
    still_read c.obey-ended.result c.hand_on.result c.hand_on.ensures.same
    (Rose (g.H.Shelf.faults c.args.shelf.now) (g.H.Shelf.faults c.obey-ended.new.shelf) ⊎ AsksToRun words × Rose (g.K.Source.faults c.args.keys.now) (g.K.Source.faults c.obey-ended.new.keys)) c.obey-ended.ensures.read

pub returns-clause-write : goal.returns-clause-write
returns-clause-write g c failed =
    let words = map string_bytes c.args.words.now in
    writing_failed (IsErrOf c.obey-ended.result stop.Write) (AsksToCompile words (λ name. Rose (g.H.Shelf.put_faults c.args.shelf.now) (g.H.Shelf.put_faults c.obey-ended.new.shelf)))
    (g.P.Sink.faults c.args.print.now) (g.P.Sink.faults c.obey-ended.new.print) (g.P.Sink.faults c.hand_on.new.print) c.obey-ended.ensures.later c.hand_on.ensures.later c.obey-ended.ensures.write (c.hand_on.ensures.write failed)
