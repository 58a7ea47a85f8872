use Rattle.std.proofs.Common.{refl}
use Rattle.scope_core.specs.declared.event.Event.TheVariants.{Enter}
use Rattle.scope_core.proofs.Checks.{IsLawful-test, IsRun-test}
use Rattle.search_tests.proofs.of_scope_core.a_reply_stays.Goals as goal

pub step-requires-clause-lawful : goal.step-requires-clause-lawful
step-requires-clause-lawful g c =
    IsLawful-test c.in_ok-tables.tables (Enter 0 c.in_ok-outer.outer)
    (rw (c.in_ok-tables.ensures, c.in_ok-outer.ensures.items, c.row.ensures, c.row-2.ensures) refl)

pub settle-requires-clause-run : goal.settle-requires-clause-run
settle-requires-clause-run g c =
    IsRun-test c.step-2.new.tables c.in_ok-run.run'.items
    (rw (c.in_ok-run.ensures.items, c.in_ok-step-2.ensures.ok, c.in_ok-step.ensures.ok, c.in_ok-tables.ensures, c.in_ok-outer.ensures.items, c.in_ok-more.ensures.items, c.row.ensures, c.row-2.ensures, c.row-4.ensures, c.row-5.ensures) refl)
