use Rattle.std.proofs.Common.{◌∙◌, List, ap, sym}
use Rattle.m2_base.specs.Statics.Lookup.{first_entry}
use Rattle.m2_base.specs.Statics.Targets.{target_by_layout, target_by_name}
use Rattle.m2_base.specs.Statics.Contexts.{Layout}
use Rattle.decl_sem.proofs.targets.laid_target.Goals as goal

pub returns-in_default-clause-told : goal.returns-in_default-clause-told
returns-in_default-clause-told c k same = ap (target_by_name k) (sym (c.in_default.ensures.told k))

pub returns-in-Some-first-clause-told : goal.returns-in-Some-first-clause-told
returns-in-Some-first-clause-told c k same =
    let i = c.in-Some.name in
    ap (target_by_name k) (sym (c.in-Some.ensures.told k))
    ∙ ap (target_by_layout k i) (ap (λ (layout : Layout). first_entry layout i.name) same ∙ sym c.in-Some-first.ensures)

pub returns-in-None-clause-told : goal.returns-in-None-clause-told
returns-in-None-clause-told c k same =
    let i = c.in-Some.name in
    ap (target_by_name k) (sym (c.in-Some.ensures.told k))
    ∙ ap (target_by_layout k i) (ap (λ (layout : Layout). first_entry layout i.name) same ∙ sym c.in-None.ensures)
