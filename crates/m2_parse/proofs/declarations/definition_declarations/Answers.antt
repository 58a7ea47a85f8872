use Rattle.std.proofs.Common.{ap, ◌∙◌, map}
use Rattle.std.proofs.lemmas.List.{map-append}
use Rattle.ll_grammar.proofs.Loops.{repeat_goes_on, repeat_ends, repeat_stops, repeat_is_done}
use Rattle.m2_base.specs.Views.{decl_view}
use Rattle.m2_parse.proofs.Steps.{handed_on}
use Rattle.m2_parse.proofs.declarations.definition_declarations.Goals as goal

pub returns-then-not-begins_declaration : goal.returns-then-not-begins_declaration
returns-then-not-begins_declaration c = repeat_stops c.loop.invariant c.loop-test.true c.if-not-begins_declaration.true c.begins_declaration.ensures

pub returns-in_err-more : goal.returns-in_err-more
returns-in_err-more c =
    handed_on _ _ _ c.from_residual.result c.from_residual.ensures.1 (repeat_ends _ c.loop.invariant c.loop-test.true c.if-not-begins_declaration.false c.begins_declaration.ensures c.in_err-more.ensures)

pub loop-preserved : goal.loop-preserved
loop-preserved c =
    repeat_goes_on c.loop.invariant c.loop-test.true c.if-not-begins_declaration.false c.begins_declaration.ensures c.in_ok-more.ensures
    (ap (map decl_view) c.in_ok-append.ensures.items ∙ map-append decl_view c.loop.items.items c.in_ok-more.more.items)

pub returns : goal.returns
returns c = repeat_is_done c.loop.invariant c.loop-test.false
