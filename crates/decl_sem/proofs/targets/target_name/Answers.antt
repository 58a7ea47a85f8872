use Rattle.std.proofs.Common.{◌∙◌, ap, sym}
use Rattle.m2_base.specs.Statics.Shapes.{type_shapes}
use Rattle.m2_base.specs.Statics.Targets.{target_name}
use Rattle.decl_sem.proofs.TargetNames.{if_some, name_seen, no_name}
use Rattle.decl_sem.proofs.targets.target_name.Goals as goal

pub returns-in-Named-clause-told : goal.returns-in-Named-clause-told
returns-in-Named-clause-told c k = c.name_alone.ensures ∙ ap (target_name k) (sym (name_seen c.args.typ.now c.in-Named.qual c.in-Named.is))

pub returns-in-Named-clause-plain : goal.returns-in-Named-clause-plain
returns-in-Named-clause-plain c = if_some c.name_alone.result (ap type_shapes (name_seen c.args.typ.now c.in-Named.qual c.in-Named.is))

pub returns-in-Enum-clause-told : goal.returns-in-Enum-clause-told
returns-in-Enum-clause-told c k = no_name c.args.typ.now k c.in-Enum.is

pub returns-in-Enum-2-clause-told : goal.returns-in-Enum-2-clause-told
returns-in-Enum-2-clause-told c k = no_name c.args.typ.now k c.in-Enum.is

pub returns-in-Enum-3-clause-told : goal.returns-in-Enum-3-clause-told
returns-in-Enum-3-clause-told c k = no_name c.args.typ.now k c.in-Enum.is

pub returns-in-Enum-4-clause-told : goal.returns-in-Enum-4-clause-told
returns-in-Enum-4-clause-told c k = no_name c.args.typ.now k c.in-Enum.is

pub returns-in-Enum-5-clause-told : goal.returns-in-Enum-5-clause-told
returns-in-Enum-5-clause-told c k = no_name c.args.typ.now k c.in-Enum.is

pub returns-in-Enum-6-clause-told : goal.returns-in-Enum-6-clause-told
returns-in-Enum-6-clause-told c k = no_name c.args.typ.now k c.in-Enum.is

pub returns-in-Enum-7-clause-told : goal.returns-in-Enum-7-clause-told
returns-in-Enum-7-clause-told c k = no_name c.args.typ.now k c.in-Enum.is
