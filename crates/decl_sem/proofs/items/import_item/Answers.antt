use Rattle.m2_base.specs.Statics.Effects.{bringing}
use Rattle.std.proofs.Common.{refl}
use Rattle.decl_sem.specs.Brought.{all_names}
use Rattle.decl_sem.specs.Items.{IsEffectOf}
use Rattle.m2_base.specs.Statics.Items.{import_item}
use Rattle.decl_sem.proofs.BroughtRows.{bringing_unknown, bringing_valued}
use Rattle.decl_sem.proofs.items.import_item.Goals as goal

pub returns-in-Ok-Known : goal.returns-in-Ok-Known
returns-in-Ok-Known g c =
    let p = rw c.in-Ok-Known.field-0-is at c.in-Ok-Known.ensures in
    bringing_valued all_names (λ e. e.brought) (IsEffectOf (import_item c.args.from.now c.args.name)) (λ b. bringing c.args.cell b) c.bringing.result c.bringing.ensures (rw c.bringing.ensures refl)
    (rw c.bringing.ensures (record { effect = record { cell = c.requires.cell; result = tt }; only = p.there })) p

pub returns-in-Ok-DontKnowYet : goal.returns-in-Ok-DontKnowYet
returns-in-Ok-DontKnowYet g c =
    let p = rw c.in-Ok-DontKnowYet.field-0-is at c.in-Ok-DontKnowYet.ensures in
    bringing_unknown c.args.site.now _ (λ e. e.brought) (IsEffectOf (import_item c.args.from.now c.args.name)) _ c.in-Ok-DontKnowYet.head p.works p.waits p.first
