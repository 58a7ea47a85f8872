use Rattle.m2_base.specs.Views.{import_view}
use Rattle.m2_parse.proofs.FrontLemmas.{goes_on, stops, is_done}
use Rattle.m2_parse.proofs.fronts.all_modules.Goals as goal

pub returns-in-Err-Refused : goal.returns-in-Err-Refused
returns-in-Err-Refused c =
    stops _ _ _ c.loop.tokens.list.now _ c.loop.invariant c.in-Err-Refused.field-0-0 c.loop-test.true (rw c.in-Err-Refused.field-0-is at c.in-Err-Refused.ensures)

pub loop-preserved : goal.loop-preserved
loop-preserved c =
    goes_on _ _ _ c.loop.tokens.list.now _ c.loop.invariant (import_view c.in-Ok.read) c.import.new.tokens.list.now _ _ c.loop-test.true c.in-Ok.ensures c.in_ok-some.ensures c.in_ok-append.ensures.items

pub returns : goal.returns
returns c = is_done _ _ _ c.loop.tokens.list.now _ c.loop.invariant c.loop-test.false
