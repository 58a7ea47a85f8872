use Rattle.std.proofs.Common.{◌≡◌, sym, subst}
use Rattle.std.specs.Prelude.{IfSome, IfOk, OnErr, Result, Ok, Err}
use Rattle.stack_machine.specs.declared.op.Service.{Service}
use Rattle.stack_machine.specs.declared.op.Service.TheVariants as service
use Rattle.stack_machine.specs.InOut.{Reads, got_by}
use Rattle.stack_machine.specs.Readings.{IsReading}
use Rattle.stack_machine.proofs.Numbering.{none_reading}
use Rattle.stack_machine.proofs.reading.read.Goals as goal

-- it reads, whatever came of it
reads_so : {T E : Type 0} (r : Result T E) (v w : Service) → v ≡ w → Reads w → OnErr r (Reads v)
reads_so (Ok x) v w is h = tt
reads_so (Err e) v w is h = subst Reads (sym is) h

pub returns-in-Read-clause-ok : goal.returns-in-Read-clause-ok
returns-in-Read-clause-ok g c =
    subst (λ (v : Service). IfOk c.read_byte.result (λ r. IfSome (g.K.Source.left c.args.keys.now) (λ l. IsReading r (got_by v c.args.kept l) (g.K.Source.left c.read_byte.new.keys)))) (sym c.in-Read.is) c.read_byte.ensures.ok

pub returns-in-ReadInt-clause-ok : goal.returns-in-ReadInt-clause-ok
returns-in-ReadInt-clause-ok g c =
    subst (λ (v : Service). IfOk c.read_number.result (λ r. IfSome (g.K.Source.left c.args.keys.now) (λ l. IsReading r (got_by v c.args.kept l) (g.K.Source.left c.read_number.new.keys)))) (sym c.in-ReadInt.is) c.read_number.ensures.ok

pub returns-in-ReadCard-clause-ok : goal.returns-in-ReadCard-clause-ok
returns-in-ReadCard-clause-ok g c =
    subst (λ (v : Service). IfOk c.read_number-in-ReadCard.result (λ r. IfSome (g.K.Source.left c.args.keys.now) (λ l. IsReading r (got_by v c.args.kept l) (g.K.Source.left c.read_number-in-ReadCard.new.keys)))) (sym c.in-ReadCard.is) c.read_number-in-ReadCard.ensures.ok

pub returns-in-Write-clause-ok : goal.returns-in-Write-clause-ok
returns-in-Write-clause-ok g c =
    subst (λ (v : Service). IfSome (g.K.Source.left c.args.keys.now) (λ l. IsReading c.none_read.result (got_by v c.args.kept l) (g.K.Source.left c.args.keys.now))) (sym c.in-Write.is)
    (none_reading c.none_read.result c.args.kept (g.K.Source.left c.args.keys.now) c.none_read.ensures.value c.none_read.ensures.kept)

pub returns-in-WriteString-clause-ok : goal.returns-in-WriteString-clause-ok
returns-in-WriteString-clause-ok g c =
    subst (λ (v : Service). IfSome (g.K.Source.left c.args.keys.now) (λ l. IsReading c.none_read-in-WriteString.result (got_by v c.args.kept l) (g.K.Source.left c.args.keys.now))) (sym c.in-WriteString.is)
    (none_reading c.none_read-in-WriteString.result c.args.kept (g.K.Source.left c.args.keys.now) c.none_read-in-WriteString.ensures.value c.none_read-in-WriteString.ensures.kept)

pub returns-in-WriteLn-clause-ok : goal.returns-in-WriteLn-clause-ok
returns-in-WriteLn-clause-ok g c =
    subst (λ (v : Service). IfSome (g.K.Source.left c.args.keys.now) (λ l. IsReading c.none_read-in-WriteLn.result (got_by v c.args.kept l) (g.K.Source.left c.args.keys.now))) (sym c.in-WriteLn.is)
    (none_reading c.none_read-in-WriteLn.result c.args.kept (g.K.Source.left c.args.keys.now) c.none_read-in-WriteLn.ensures.value c.none_read-in-WriteLn.ensures.kept)

pub returns-in-WriteInt-clause-ok : goal.returns-in-WriteInt-clause-ok
returns-in-WriteInt-clause-ok g c =
    subst (λ (v : Service). IfSome (g.K.Source.left c.args.keys.now) (λ l. IsReading c.none_read-in-WriteInt.result (got_by v c.args.kept l) (g.K.Source.left c.args.keys.now))) (sym c.in-WriteInt.is)
    (none_reading c.none_read-in-WriteInt.result c.args.kept (g.K.Source.left c.args.keys.now) c.none_read-in-WriteInt.ensures.value c.none_read-in-WriteInt.ensures.kept)

pub returns-in-WriteCard-clause-ok : goal.returns-in-WriteCard-clause-ok
returns-in-WriteCard-clause-ok g c =
    subst (λ (v : Service). IfSome (g.K.Source.left c.args.keys.now) (λ l. IsReading c.none_read-in-WriteCard.result (got_by v c.args.kept l) (g.K.Source.left c.args.keys.now))) (sym c.in-WriteCard.is)
    (none_reading c.none_read-in-WriteCard.result c.args.kept (g.K.Source.left c.args.keys.now) c.none_read-in-WriteCard.ensures.value c.none_read-in-WriteCard.ensures.kept)

pub returns-in-Read-clause-reads : goal.returns-in-Read-clause-reads
returns-in-Read-clause-reads g c = reads_so c.read_byte.result c.args.service service.Read c.in-Read.is tt

pub returns-in-ReadInt-clause-reads : goal.returns-in-ReadInt-clause-reads
returns-in-ReadInt-clause-reads g c = reads_so c.read_number.result c.args.service service.ReadInt c.in-ReadInt.is tt

pub returns-in-ReadCard-clause-reads : goal.returns-in-ReadCard-clause-reads
returns-in-ReadCard-clause-reads g c = reads_so c.read_number-in-ReadCard.result c.args.service service.ReadCard c.in-ReadCard.is tt
