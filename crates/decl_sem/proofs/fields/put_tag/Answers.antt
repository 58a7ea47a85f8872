use Rattle.std.proofs.Common.{subst, Option}
use Rattle.m2_base.specs.Statics.ReadTrees.{IsReadOption}
use Rattle.m2_base.specs.Statics.Shapes.{tag_shapes}
use Rattle.m2_base.specs.declared.trees.Ident.{Ident}
use Rattle.decl_sem.specs.Pieces.{IsMaking}
use Rattle.decl_sem.proofs.FieldLists.{no_tag, one_tag, owner_behind, tag_failed}
use Rattle.decl_sem.proofs.fields.put_tag.Goals as goal

pub returns-in_default : goal.returns-in_default
returns-in_default g c =
    no_tag (g.S.Scopes.state c.args.scopes.now) c.args.made.now c.args.site.now c.args.own c.args.offset c.args.of c.args.tag c.in_default.is c.requires.offset

pub put_field-requires-clause-making : goal.put_field-requires-clause-making
put_field-requires-clause-making g c =
    subst (λ (o : Option Ident). IsMaking (g.S.Scopes.state c.args.scopes.now).frame c.args.site.now c.args.made.now (tag_shapes o)) c.in-Some.is c.requires.making

pub put_field-requires-clause-read : goal.put_field-requires-clause-read
put_field-requires-clause-read g c = subst (λ (o : Option Ident). IsReadOption c.args.site.now.texts.now.names o) c.in-Some.is c.requires.read

pub put_field-requires-clause-behind : goal.put_field-requires-clause-behind
put_field-requires-clause-behind g c = owner_behind c.requires.owner

pub returns-in-Err : goal.returns-in-Err
returns-in-Err g c = tag_failed c.args.own c.args.offset c.args.of c.args.tag c.in-Err.memory c.in-Err.ensures

pub returns-in-Ok : goal.returns-in-Ok
returns-in-Ok g c =
    one_tag c.args.own c.args.offset c.args.of c.args.tag c.in-Some.name c.capped.result c.in-Some.is c.capped.ensures
    (subst (λ (o : Option Ident). IsMaking (g.S.Scopes.state c.args.scopes.now).frame c.args.site.now c.args.made.now (tag_shapes o)) c.in-Some.is c.requires.making) c.in-Ok.ensures
