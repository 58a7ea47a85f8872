use Rattle.std.proofs.Common.{refl, Ok, Err}
use Rattle.m2_base.specs.Statics.Subranges.{subrange_of}
use Rattle.m2_base.specs.Views.{expr_view}
use Rattle.m2_base.specs.declared.replies.Ask.TheVariants.{Known}
use Rattle.decl_sem.specs.Bounds.{kept}
use Rattle.decl_sem.proofs.SubrangeRows.{AreOptionBounds, bounds_row}
use Rattle.decl_sem.proofs.Uses.{first_known}
use Rattle.decl_sem.proofs.subranges.subrange_in.Goals as goal

pub returns-in-Err-put_subrange : goal.returns-in-Err-put_subrange
returns-in-Err-put_subrange g c =
    let low = expr_view c.args.low.now in
    let high = expr_view c.args.high.now in
    let given = first_known (g.S.Scopes.state c.args.scopes.now) (g.S.Scopes.state c.bounds_in.new.scopes) c.args.made.now.notes c.bounds_in.new.notes c.args.site.now
    AreOptionBounds (λ k. kept (subrange_of k c.args.base low high)) c.in-Ok.is c.in-Known.is c.bounds_in.ensures in
    bounds_row c.args.at c.args.base low high (Err c.in-Err-put_subrange.memory) c.requires.making refl refl given c.in-Err-put_subrange.ensures

pub returns : goal.returns
returns g c =
    let low = expr_view c.args.low.now in
    let high = expr_view c.args.high.now in
    let given = first_known (g.S.Scopes.state c.args.scopes.now) (g.S.Scopes.state c.bounds_in.new.scopes) c.args.made.now.notes c.bounds_in.new.notes c.args.site.now
    AreOptionBounds (λ k. kept (subrange_of k c.args.base low high)) c.in-Ok.is c.in-Known.is c.bounds_in.ensures in
    bounds_row c.args.at c.args.base low high (Ok (Known c.in-Ok-put_subrange.value)) c.requires.making refl refl given c.in-Ok-put_subrange.ensures
