use Rattle.std.specs.Prelude.{Ok, Err}
use Rattle.m2_base.specs.declared.replies.Ask.TheVariants.{Known}
use Rattle.decl_sem.proofs.OwnParameters.{open_parameter, ref_parameter, value_parameter}
use Rattle.decl_sem.proofs.own_parameters.parameter_in.Goals as goal

pub returns-in-Ok : goal.returns-in-Ok
returns-in-Ok g c = ref_parameter c.args.section.now c.args.elem c.args.of c.args.from c.args.name (Ok (Known c.in-Ok.next)) c.if-section.true c.in-Ok.ensures

pub returns-in-Err : goal.returns-in-Err
returns-in-Err g c = ref_parameter c.args.section.now c.args.elem c.args.of c.args.from c.args.name (Err c.in-Err.memory) c.if-section.true c.in-Err.ensures

pub returns-then-section-2 : goal.returns-then-section-2
returns-then-section-2 g c = open_parameter c.args.section.now c.args.elem c.args.of c.args.from c.args.name c.open_value.result c.if-section.false c.if-section-2.true c.open_value.ensures

pub returns-else-section-2 : goal.returns-else-section-2
returns-else-section-2 g c = value_parameter c.args.section.now c.args.elem c.args.of c.args.from c.args.name c.value_in.result c.if-section.false c.if-section-2.false c.value_in.ensures
