use Rattle.std.proofs.Common.{ap, sym}
use Rattle.m2_base.specs.Statics.Items.{decl_item, heading_item}
use Rattle.m2_base.specs.Views.{decl_view, heading_view}
use Rattle.decl_sem.specs.Items.{item_view}
use Rattle.decl_sem.proofs.ItemEffects.{alone_of}
use Rattle.decl_sem.proofs.items.item_rows.Goals as goal

pub returns-in-Heading : goal.returns-in-Heading
returns-in-Heading g c =
    alone_of c.args.kind c.args.before.cell (heading_item (heading_view c.in-Heading.heading.now)) (item_view c.args.item.now) (sym (ap item_view c.in-Heading.is)) c.heading_rows.result c.heading_rows.ensures

pub returns-in-Declaration : goal.returns-in-Declaration
returns-in-Declaration g c =
    alone_of c.args.kind c.args.before.cell (decl_item (decl_view c.in-Declaration.decl.now)) (item_view c.args.item.now) (sym (ap item_view c.in-Declaration.is)) c.declaration.result c.declaration.ensures
