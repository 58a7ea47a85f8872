use Rattle.std.proofs.Common.{Ok, None, ap, refl, sym, arith}
use Rattle.m2_base.specs.Statics.Makes.{only_gives}
use Rattle.m2_base.specs.Statics.Targets.{target_by_name, target_name}
use Rattle.m2_base.specs.Views.{type_view}
use Rattle.m2_base.specs.declared.replies.Ask.TheVariants.{Known}
use Rattle.type_rules.specs.Sites.{context_of}
use Rattle.decl_sem.specs.Targets.{IsOptionTarget, optional}
use Rattle.decl_sem.proofs.Pieces.{described, value_alone}
use Rattle.decl_sem.proofs.PointerRows.{by_layout}
use Rattle.decl_sem.proofs.targets.target_in.Goals as goal

pub layout_target-requires-clause-entered : goal.layout_target-requires-clause-entered
layout_target-requires-clause-entered g c kind =
    let laid = c.in-Some.ensures.first in
    let before = c.requires.aliases laid.name c.in-Some.named laid.first kind in
    let n = c.requires.making.count in
    omega (arith, before, n)

pub returns-in_default-clause-target : goal.returns-in_default-clause-target
returns-in_default-clause-target g c =
    let a = g.S.Scopes.state c.args.scopes.now in
    let t = type_view c.args.typ.now in
    described (Ok (Known None)) (λ k. only_gives (optional (target_by_name k (target_name k t)))) (value_alone a c.args.made.now c.args.site.now None IsOptionTarget tt)
    (λ hand in_hand told same. let k = context_of a.frame hand c.args.site.now in ap (λ o. only_gives (optional o)) (sym (c.in_default.ensures.told k refl)))

pub returns-clause-target : goal.returns-clause-target
returns-clause-target g c =
    let a = g.S.Scopes.state c.args.scopes.now in
    let b = g.S.Scopes.state c.layout_target.new.scopes in
    by_layout (type_view c.args.typ.now) c.args.made.now c.layout_target.new.notes c.args.site.now c.in-Some.at c.in-Some.named c.in-Known.value c.requires.making
    (λ k same. c.in-Some.ensures.told k same) c.in-Ok.is c.in-Known.is c.layout_target.ensures
