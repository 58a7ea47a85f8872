use Rattle.std.proofs.Common.{refl}
use Rattle.std.specs.Prelude.{Ok, Err}
use Rattle.m2_base.specs.Statics.Constants.{constant_of}
use Rattle.m2_base.specs.Views.{expr_view}
use Rattle.m2_base.specs.declared.replies.Ask.TheVariants.{Known}
use Rattle.decl_sem.proofs.ConstantRows.{IsForRow, constant_known, constant_making, constant_meaning, constant_row}
use Rattle.decl_sem.proofs.Uses.{first_known}
use Rattle.decl_sem.proofs.const_items.const_rows.Goals as goal

pub name_row-requires-clause-making : goal.name_row-requires-clause-making
name_row-requires-clause-making g c =
    constant_making c.args.name (expr_view c.args.value.now) c.requires.making refl refl (first_known (g.S.Scopes.state c.args.scopes.now) (g.S.Scopes.state c.constant.new.scopes) c.args.made.now.notes c.constant.new.notes c.args.site.now IsForRow (λ k. constant_of k (expr_view c.args.value.now)) c.in-Ok.is c.in-Known.is c.constant.ensures.analysed)
    c.meaning_of-meaning.result c.meaning_of-meaning.ensures.kind

pub name_row-requires-clause-meaning : goal.name_row-requires-clause-meaning
name_row-requires-clause-meaning g c =
    let given = first_known (g.S.Scopes.state c.args.scopes.now) (g.S.Scopes.state c.constant.new.scopes) c.args.made.now.notes c.constant.new.notes c.args.site.now IsForRow (λ k. constant_of k (expr_view c.args.value.now)) c.in-Ok.is c.in-Known.is c.constant.ensures.analysed in
    constant_meaning c.in-Known.value c.meaning_of-meaning.result c.meaning_of-meaning.ensures.told c.meaning_of-meaning.ensures.ordinals c.meaning_of-meaning.ensures.numbers
    (constant_making c.args.name (expr_view c.args.value.now) c.requires.making refl refl given c.meaning_of-meaning.result c.meaning_of-meaning.ensures.kind)
    (constant_known c.args.name (expr_view c.args.value.now) c.requires.making refl refl given)

pub returns-in-Err-name_row : goal.returns-in-Err-name_row
returns-in-Err-name_row g c =
    constant_row c.args.name (expr_view c.args.value.now) c.requires.making refl refl (first_known (g.S.Scopes.state c.args.scopes.now) (g.S.Scopes.state c.constant.new.scopes) c.args.made.now.notes c.constant.new.notes c.args.site.now IsForRow (λ k. constant_of k (expr_view c.args.value.now)) c.in-Ok.is c.in-Known.is c.constant.ensures.analysed)
    c.meaning_of-meaning.result (Err c.in-Err-name_row.memory) c.meaning_of-meaning.ensures.told c.meaning_of-meaning.ensures.kind c.in-Err-name_row.ensures

pub returns : goal.returns
returns g c =
    constant_row c.args.name (expr_view c.args.value.now) c.requires.making refl refl (first_known (g.S.Scopes.state c.args.scopes.now) (g.S.Scopes.state c.constant.new.scopes) c.args.made.now.notes c.constant.new.notes c.args.site.now IsForRow (λ k. constant_of k (expr_view c.args.value.now)) c.in-Ok.is c.in-Known.is c.constant.ensures.analysed)
    c.meaning_of-meaning.result (Ok (Known c.in-Ok-name_row.value)) c.meaning_of-meaning.ensures.told c.meaning_of-meaning.ensures.kind c.in-Ok-name_row.ensures
