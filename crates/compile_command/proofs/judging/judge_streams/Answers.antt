use Rattle.m2_base.specs.Units.{Front, TextOf}
use Rattle.merge_laws.specs.Texts.{IsWhole}
use Rattle.unit_merge.specs.declared.merging.Merged.TheVariants.{Code, Diags, TooDeep}
use Rattle.module_outcome.proofs.Merging.{merged_decides, merged_named}
use Rattle.compile_command.proofs.judging.judge_streams.Goals as goal

pub work-requires-clause-whole : goal.work-requires-clause-whole
work-requires-clause-whole g c κs within =
    let unit = c.args.texts in
    let h = c.requires.whole in
    let laws = c.gathered_units_are_whole.ensures in
    let whole : (front : TextOf → Front) × IsWhole front unit = (h.front, laws.whole unit h.front h (laws.fronts unit h)) in
    whole

pub merge-requires : goal.merge-requires
merge-requires g c =
    let unit = c.args.texts in
    let h = c.requires.whole in
    let laws = c.gathered_units_are_whole.ensures in
    c.outputs_can_be_merged.ensures unit h.front c.in_ok-outputs.outputs.items c.main-unit.ensures.unit (laws.whole unit h.front h (laws.fronts unit h)) c.in_ok-outputs.ensures

pub returns-in-Code-clause-decides : goal.returns-in-Code-clause-decides
returns-in-Code-clause-decides g c =
    let unit = c.args.texts in
    let outputs = c.in_ok-outputs.outputs.items in
    let whole = c.gathered_units_are_whole.ensures.whole unit in
    merged_decides unit outputs c.in_ok-object.field-0 c.in_ok-object.ensures c.requires.limits
    (λ front o fronts merged. c.merging_gives_the_outcome.ensures unit front outputs o c.main-unit.ensures.unit (whole front c.requires.whole fronts) c.in_ok-outputs.ensures merged)
    (Code c.in-Code.object) c.in-Code.is

pub returns-in-Code-clause-named : goal.returns-in-Code-clause-named
returns-in-Code-clause-named g c =
    let unit = c.args.texts in
    let h = c.requires.whole in
    merged_named unit c.in_ok-outputs.outputs.items c.in_ok-object.field-0 c.in_ok-object.ensures h.front (c.gathered_units_are_whole.ensures.fronts unit h) c.in-Code.object c.in-Code.is

pub returns-in-Diags-clause-decides : goal.returns-in-Diags-clause-decides
returns-in-Diags-clause-decides g c =
    let unit = c.args.texts in
    let outputs = c.in_ok-outputs.outputs.items in
    let whole = c.gathered_units_are_whole.ensures.whole unit in
    merged_decides unit outputs c.in_ok-object.field-0 c.in_ok-object.ensures c.requires.limits
    (λ front o fronts merged. c.merging_gives_the_outcome.ensures unit front outputs o c.main-unit.ensures.unit (whole front c.requires.whole fronts) c.in_ok-outputs.ensures merged)
    (Diags c.in-Diags.diags) c.in-Diags.is

pub returns-in-TooDeep-clause-decides : goal.returns-in-TooDeep-clause-decides
returns-in-TooDeep-clause-decides g c =
    let unit = c.args.texts in
    let outputs = c.in_ok-outputs.outputs.items in
    let whole = c.gathered_units_are_whole.ensures.whole unit in
    merged_decides unit outputs c.in_ok-object.field-0 c.in_ok-object.ensures c.requires.limits
    (λ front o fronts merged. c.merging_gives_the_outcome.ensures unit front outputs o c.main-unit.ensures.unit (whole front c.requires.whole fronts) c.in_ok-outputs.ensures merged)
    (TooDeep c.in-TooDeep.text c.in-TooDeep.at) c.in-TooDeep.is
