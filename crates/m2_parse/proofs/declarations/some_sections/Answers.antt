use Rattle.std.proofs.Common.{ap, ◌∙◌, map}
use Rattle.std.proofs.lemmas.List.{map_push}
use Rattle.ll_grammar.proofs.Loops.{listed_starts, separated_is_done}
use Rattle.m2_base.specs.Views.{section_view}
use Rattle.m2_parse.proofs.ListLemmas.{list_goes_on, list_ends, list_stops}
use Rattle.m2_parse.proofs.Steps.{handed_on, fails}
use Rattle.m2_parse.proofs.declarations.some_sections.Goals as goal

pub returns-in_default : goal.returns-in_default
returns-in_default c = list_stops c.loop.invariant c.loop-test.true c.in_default.ensures.0 c.in_default.ensures.1

pub returns-in_err-first : goal.returns-in_err-first
returns-in_err-first c = handed_on _ _ _ c.from_residual.result c.from_residual.ensures.1 (fails _ _ _ c.in_err-first.ensures)

pub returns-in_err-item : goal.returns-in_err-item
returns-in_err-item c =
    handed_on _ _ _ c.from_residual-in_err-item.result c.from_residual-in_err-item.ensures.1 (list_ends _ c.loop.invariant c.loop-test.true c.in-Some.ensures.1 c.in_err-item.ensures)

pub loop-init : goal.loop-init
loop-init c = listed_starts _ c.in_ok-first.ensures (ap (map section_view) c.in_ok-items.ensures)

pub loop-preserved : goal.loop-preserved
loop-preserved c =
    list_goes_on c.loop.invariant c.loop-test.true c.in-Some.ensures.1 c.in_ok-item.ensures
    (ap (map section_view) c.in_ok-push.ensures.items ∙ map_push section_view c.loop.items.items c.in_ok-item.item)

pub returns : goal.returns
returns c = separated_is_done c.loop.invariant c.loop-test.false
