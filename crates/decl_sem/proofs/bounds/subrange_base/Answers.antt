use Rattle.std.proofs.Common.{◌∙◌, ap, sym, w64, Some, None}
use Rattle.std.proofs.lemmas.Int.{to_z-of_z}
use Rattle.m2_base.specs.Statics.Subranges.{subrange_base}
use Rattle.decl_sem.proofs.BoundRanges.{base_named, base_unnamed}
use Rattle.decl_sem.proofs.bounds.subrange_base.Goals as goal

pub returns-in-Some-clause-told : goal.returns-in-Some-clause-told
returns-in-Some-clause-told c k base e = base_named k base c.in-Some.named c.args.of c.args.low c.named_base.result (sym c.in-Some.is ∙ e) (λ u same. c.named_base.ensures.told k u c.args.low same)

pub returns-in-None-clause-told : goal.returns-in-None-clause-told
returns-in-None-clause-told c k base e = base_unnamed k base c.args.of c.args.low (Some c.own_base.result) (sym c.in-None.is ∙ e)
    (c.own_base.ensures.told k ∙ ap (subrange_base k None c.args.of) (to_z-of_z w64 c.args.low c.ranges.low))
