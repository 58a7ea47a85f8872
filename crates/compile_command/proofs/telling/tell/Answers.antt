use Rattle.std.proofs.Common.{Err, ap, refl, ◌∙◌}
use Rattle.module_outcome.proofs.Tellings.{fault_tells, whole_tells, wrong_tells}
use Rattle.compile_command.proofs.telling.tell.Goals as goal

pub gather_text-requires-clause-named : goal.gather_text-requires-clause-named
gather_text-requires-clause-named g c = record { one = refl; spells = refl }

pub returns-in-Ok-Whole-clause-tells : goal.returns-in-Ok-Whole-clause-tells
returns-in-Ok-Whole-clause-tells g c =
    let done = c.in_ok-tell_unit-in-Ok-Whole in
    whole_tells (g.H.Shelf.holds c.args.shelf.now) c.args.procedures c.as_slice.result.now (c.as_slice.ensures.value ∙ c.in_ok-text.ensures) c.in-Ok-Whole.field-0 c.in-Ok-Whole.ensures.gathered c.in-Ok-Whole.texts done.field-0
    c.in-Ok-Whole.field-0-is done.ensures.unit done.ensures.tells

pub returns-in-Ok-Wrong-clause-tells : goal.returns-in-Ok-Wrong-clause-tells
returns-in-Ok-Wrong-clause-tells g c =
    wrong_tells (g.H.Shelf.holds c.args.shelf.now) c.args.procedures c.as_slice.result.now (c.as_slice.ensures.value ∙ c.in_ok-text.ensures) c.in-Ok-Wrong.field-0 c.in-Ok-Wrong.ensures.gathered c.in-Ok-Wrong.texts c.in-Ok-Wrong.wrongs
    c.in-Ok-Wrong.field-0-is c.tell_wrongs.ensures.unit c.in-Ok-Wrong.ensures.told c.as_slice-in-Ok-Wrong.result.now c.as_slice-in-Ok-Wrong.ensures.value c.tell_wrongs.result c.tell_wrongs.ensures.wrongs

pub returns-clause-tells : goal.returns-clause-tells
returns-clause-tells g c =
    fault_tells (g.H.Shelf.holds c.args.shelf.now) c.args.procedures c.as_slice.result.now (c.as_slice.ensures.value ∙ c.in_ok-text.ensures) c.in-Err.fault (λ limit e. c.in-Err.ensures.limits limit (ap Err e)) c.tell_fault.result
    c.tell_fault.ensures.limit
