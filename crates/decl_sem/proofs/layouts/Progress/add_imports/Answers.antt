use Rattle.std.proofs.Common.{ap, ◌∙◌}
use Rattle.m2_base.specs.Statics.Items.{import_items}
use Rattle.m2_base.specs.Views.{import_view}
use Rattle.decl_sem.specs.Progress.{with_items}
use Rattle.decl_sem.proofs.ManyItems.{after_import}
use Rattle.decl_sem.proofs.layouts.Progress.add_imports.Goals as goal

pub loop-import-preserved : goal.loop-import-preserved
loop-import-preserved c =
    let added = c.in_ok-add_import.ensures in
    after_import c.args.self.now c.loop-import.self c.add_import.new.self _ c.args.imports.now c.loop-import.import-index c.import-item.result c.loop-import-test.true
    (added ∙ ap (λ i. with_items c.loop-import.self (import_items (import_view i))) c.import-item.is)
    c.loop-import.invariant
