use Rattle.std.proofs.Common.{◌∙◌, ap, sym, subst, length, Option}
use Rattle.std.specs.Option.{IfSome}
use Rattle.m2_base.specs.Rows.{Fits}
use Rattle.m2_base.specs.Standard.{broken}
use Rattle.m2_base.specs.Statics.Lookup.{Entry}
use Rattle.m2_base.specs.Statics.TypeNames.{type_by, type_of_entry}
use Rattle.m2_base.specs.declared.rows.RowMeaning.{RowMeaning}
use Rattle.type_rules.specs.Scenes.{IsRowOf, IsThere}
use Rattle.type_rules.specs.Sites.{context_of}
use Rattle.const_eval.proofs.Analysing.{described, value_alone}
use Rattle.decl_sem.proofs.Uses.{broken_there, refused, unnoted}
use Rattle.decl_sem.proofs.names.type_of_entry.Goals as goal

pub returns-in_default : goal.returns-in_default
returns-in_default c a suits row =
    value_alone a c.args.notes.now c.args.site.now broken IsThere (λ k. type_of_entry k c.args.at c.args.entry) (broken_there suits.around)
    (λ made. ap (type_of_entry (context_of a.frame made c.args.site.now) c.args.at) (sym c.in_default.is))

pub returns-in-Some-type_in_row : goal.returns-in-Some-type_in_row
returns-in-Some-type_in_row c a suits row =
    let e : Entry = c.in-Some.entry in
    let r : IsRowOf a.frame e.0 e.1 = subst (λ (o : Option Entry). IfSome o (λ q. IsRowOf a.frame q.0 q.1)) c.in-Some.is row in
    let fits = subst (λ (m : RowMeaning). Fits (length a.frame.setting.texts.names) e.0 m) (sym c.read_row.ensures) r.said.fits in
    value_alone a c.args.notes.now c.args.site.now c.in-Some-type_in_row.of IsThere (λ k. type_of_entry k c.args.at c.args.entry)
    (c.in-Some-type_in_row.ensures.there a.frame c.args.site.now.around.now (length a.frame.setting.texts.names) e.0 suits.around c.small_place-place.ensures.small r.there fits)
    (λ made. let k = context_of a.frame made c.args.site.now in
    sym (c.in-Some-type_in_row.ensures.told k c.args.at) ∙ ap (type_by k c.args.at) c.read_row.ensures ∙ ap (type_of_entry k c.args.at) (sym c.in-Some.is))

pub returns-in-Err : goal.returns-in-Err
returns-in-Err c a suits row =
    unnoted a c.args.notes.now c.refuse.new.notes c.args.site.now c.in-Err.memory IsThere (λ k. type_of_entry k c.args.at c.args.entry) c.refuse.ensures.answers c.refuse.ensures.diags

pub returns-in-Ok : goal.returns-in-Ok
returns-in-Ok c a suits row =
    described _ (refused a c.args.notes.now c.refuse.new.notes c.args.site.now c.args.at 45 broken IsThere (broken_there suits.around) c.in-Ok.ensures.noted c.refuse.ensures.answers c.refuse.ensures.diags)
    (λ k. sym (c.in-None.ensures.told k c.args.at) ∙ ap (type_by k c.args.at) c.read_row.ensures ∙ ap (type_of_entry k c.args.at) (sym c.in-Some.is))
