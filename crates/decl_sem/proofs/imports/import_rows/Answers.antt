use Rattle.std.specs.Prelude.{Option, [], ◌∷◌}
use Rattle.std.proofs.Common.{subst, sym}
use Rattle.m2_base.specs.Statics.ImportRows.{import_rows}
use Rattle.m2_base.specs.Statics.Items.{import_item}
use Rattle.m2_base.specs.Statics.Shapes.{import_kind, named}
use Rattle.m2_base.specs.declared.trees.Ident.{Ident}
use Rattle.decl_sem.specs.Brought.{BringAny, DeclaresWith, all_names, listed}
use Rattle.decl_sem.proofs.imports.import_rows.Goals as goal

pub returns-in-Some : goal.returns-in-Some
returns-in-Some g c =
    subst (λ (from : Option Ident). DeclaresWith (g.S.Scopes.state c.args.scopes.now) (g.S.Scopes.state c.member_rows.new.scopes) c.args.made.now c.member_rows.new.made c.args.site.now (listed c.member_rows.result)
    (named (import_kind from) c.args.name ∷ []) all_names (BringAny (import_item from c.args.name)) (λ k. import_rows k from c.args.name))
    (sym c.in-Some.is) c.member_rows.ensures

pub returns-in-None : goal.returns-in-None
returns-in-None g c =
    subst (λ (from : Option Ident). DeclaresWith (g.S.Scopes.state c.args.scopes.now) (g.S.Scopes.state c.module_rows.new.scopes) c.args.made.now c.module_rows.new.made c.args.site.now (listed c.module_rows.result)
    (named (import_kind from) c.args.name ∷ []) all_names (BringAny (import_item from c.args.name)) (λ k. import_rows k from c.args.name))
    (sym c.in-None.is) c.module_rows.ensures
