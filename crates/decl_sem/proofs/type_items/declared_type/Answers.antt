use Rattle.std.specs.Prelude.{Err, Ok, Option, option_map}
use Rattle.std.proofs.Common.{subst, sym}
use Rattle.m2_base.specs.Statics.NameRows.{declared_type}
use Rattle.m2_base.specs.Statics.Shapes.{type_item_shapes}
use Rattle.m2_base.specs.Views.{type_view}
use Rattle.m2_base.specs.declared.replies.Ask.TheVariants.{Known}
use Rattle.m2_base.specs.declared.trees.types.TypeExpr.{TypeExpr}
use Rattle.decl_sem.specs.Pieces.{Declares, IsBehind}
use Rattle.decl_sem.proofs.type_items.declared_type.Goals as goal

pub returns-in-Some : goal.returns-in-Some
returns-in-Some g c =
    subst (λ (typ : Option TypeExpr). Declares (g.S.Scopes.state c.args.scopes.now) (g.S.Scopes.state c.type_in.new.scopes) c.args.made.now c.type_in.new.made c.args.site.now c.type_in.result
    (type_item_shapes c.args.name (option_map type_view typ)) IsBehind (λ k. declared_type k c.args.name (option_map type_view typ)))
    (sym c.in-Some.is) c.type_in.ensures

pub returns-in-Ok : goal.returns-in-Ok
returns-in-Ok g c =
    subst (λ (typ : Option TypeExpr). Declares (g.S.Scopes.state c.args.scopes.now) (g.S.Scopes.state c.args.scopes.now) c.args.made.now c.plain_row.new.made c.args.site.now (Ok (Known c.in-Ok.place))
    (type_item_shapes c.args.name (option_map type_view typ)) IsBehind (λ k. declared_type k c.args.name (option_map type_view typ)))
    (sym c.in-None.is) c.in-Ok.ensures

pub returns-in-Err : goal.returns-in-Err
returns-in-Err g c =
    subst (λ (typ : Option TypeExpr). Declares (g.S.Scopes.state c.args.scopes.now) (g.S.Scopes.state c.args.scopes.now) c.args.made.now c.plain_row.new.made c.args.site.now (Err c.in-Err.memory)
    (type_item_shapes c.args.name (option_map type_view typ)) IsBehind (λ k. declared_type k c.args.name (option_map type_view typ)))
    (sym c.in-None.is) c.in-Err.ensures
