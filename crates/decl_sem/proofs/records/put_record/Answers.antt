use Rattle.decl_sem.proofs.Pieces.{failed}
use Rattle.decl_sem.proofs.RecordRows.{record_made, record_meaning}
use Rattle.decl_sem.proofs.records.put_record.Goals as goal

pub returns-in-Err : goal.returns-in-Err
returns-in-Err c a making =
    failed (c.in-Err.ensures.piece a making (record_meaning c.args.first c.args.end c.max-size.result c.max-size.ensures c.requires.first c.ranges.end.fits)) c.in-Err.memory

pub returns : goal.returns
returns c a making =
    let p = c.in-Ok.ensures.piece a making (record_meaning c.args.first c.args.end c.max-size.result c.max-size.ensures c.requires.first c.ranges.end.fits) in
    record_made c.args.at c.args.first c.args.end c.max-size.result c.max-size.ensures c.fit.result making p (c.fit.ensures a)
