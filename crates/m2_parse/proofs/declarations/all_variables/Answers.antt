use Rattle.std.proofs.Common.{ap, ◌∙◌, map}
use Rattle.std.proofs.lemmas.List.{map_push}
use Rattle.ll_grammar.proofs.Loops.{repeat_goes_on, repeat_ends, repeat_stops, repeat_is_done}
use Rattle.m2_base.specs.Views.{decl_view}
use Rattle.m2_parse.proofs.Steps.{handed_on}
use Rattle.m2_parse.proofs.declarations.all_variables.Goals as goal

pub returns-then-not-next_is : goal.returns-then-not-next_is
returns-then-not-next_is c = repeat_stops c.loop.invariant c.loop-test.true c.if-not-next_is.true c.next_is.ensures

pub returns-in_err-item : goal.returns-in_err-item
returns-in_err-item c =
    handed_on _ _ _ c.from_residual.result c.from_residual.ensures.1 (repeat_ends _ c.loop.invariant c.loop-test.true c.if-not-next_is.false c.next_is.ensures c.in_err-item.ensures)

pub loop-preserved : goal.loop-preserved
loop-preserved c =
    repeat_goes_on c.loop.invariant c.loop-test.true c.if-not-next_is.false c.next_is.ensures c.in_ok-item.ensures
    (ap (map decl_view) c.in_ok-push.ensures.items ∙ map_push decl_view c.loop.items.items c.in_ok-item.item)

pub returns : goal.returns
returns c = repeat_is_done c.loop.invariant c.loop-test.false
