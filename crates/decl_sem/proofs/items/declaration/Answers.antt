use Rattle.std.specs.Prelude.{◌≡◌, [], List, None, Ok, Err}
use Rattle.std.proofs.Common.{ap, refl, rules, sym, ◌∙◌}
use Rattle.m2_base.specs.Statics.Effects.{only_cell}
use Rattle.m2_base.specs.Statics.Items.{decl_item, vars_item}
use Rattle.m2_base.specs.Views.{decl_view, type_view}
use Rattle.m2_base.specs.declared.replies.Ask.TheVariants.{DontKnowYet, Known}
use Rattle.m2_base.specs.declared.trees.Ident.{Ident}
use Rattle.m2_base.specs.declared.trees.declarations.Decl.{Decl}
use Rattle.decl_sem.specs.Items.{IsLoneEffect}
use Rattle.decl_sem.proofs.Asking.{first_made}
use Rattle.decl_sem.proofs.ItemEffects.{item_made, item_making, item_read, valued}
use Rattle.decl_sem.proofs.Pieces.{failed, waiting}
use Rattle.decl_sem.proofs.items.declaration.Goals as goal

pub const_rows-requires-clause-making : goal.const_rows-requires-clause-making
const_rows-requires-clause-making g c =
    item_making (ap (λ (d : Decl). decl_item (decl_view d)) c.in-Const.is) c.requires.making

pub const_rows-requires-clause-read : goal.const_rows-requires-clause-read
const_rows-requires-clause-read g c =
    (item_read (ap (λ (d : Decl). decl_item (decl_view d)) c.in-Const.is) c.args.site.now.texts.now.names c.requires.read).1

pub const_rows-requires-clause-named : goal.const_rows-requires-clause-named
const_rows-requires-clause-named g c =
    (item_read (ap (λ (d : Decl). decl_item (decl_view d)) c.in-Const.is) c.args.site.now.texts.now.names c.requires.read).0

pub returns-in-Err : goal.returns-in-Err
returns-in-Err g c =
    item_made (ap (λ (d : Decl). decl_item (decl_view d)) c.in-Const.is) c.args.kind c.args.before.cell (Err c.in-Err.memory) (failed c.in-Err.ensures c.in-Err.memory)

pub returns-in-DontKnowYet : goal.returns-in-DontKnowYet
returns-in-DontKnowYet g c =
    item_made (ap (λ (d : Decl). decl_item (decl_view d)) c.in-Const.is) c.args.kind c.args.before.cell (Ok (DontKnowYet c.in-DontKnowYet.head))
    (waiting (rw c.in-DontKnowYet.is at c.in-Ok.ensures))

pub returns-in-Known : goal.returns-in-Known
returns-in-Known g c =
    item_made (ap (λ (d : Decl). decl_item (decl_view d)) c.in-Const.is) c.args.kind c.args.before.cell (Ok (Known c.only_cell.result))
    (valued IsLoneEffect (λ p. only_cell c.args.before.cell) c.only_cell.result c.only_cell.ensures (rw c.only_cell.ensures (record { effect = record { cell = c.requires.cell; result = tt }; alone = refl })) (first_made c.in-Ok.is c.in-Known.is c.const_rows.ensures))

pub type_name_rows-requires-clause-making : goal.type_name_rows-requires-clause-making
type_name_rows-requires-clause-making g c =
    item_making (ap (λ (d : Decl). decl_item (decl_view d)) c.in-Types.is) c.requires.making

pub type_name_rows-requires-clause-read : goal.type_name_rows-requires-clause-read
type_name_rows-requires-clause-read g c =
    (item_read (ap (λ (d : Decl). decl_item (decl_view d)) c.in-Types.is) c.args.site.now.texts.now.names c.requires.read).1

pub type_name_rows-requires-clause-named : goal.type_name_rows-requires-clause-named
type_name_rows-requires-clause-named g c =
    (item_read (ap (λ (d : Decl). decl_item (decl_view d)) c.in-Types.is) c.args.site.now.texts.now.names c.requires.read).0

pub returns-in-Err-type_name_rows : goal.returns-in-Err-type_name_rows
returns-in-Err-type_name_rows g c =
    item_made (ap (λ (d : Decl). decl_item (decl_view d)) c.in-Types.is) c.args.kind c.args.before.cell (Err c.in-Err-type_name_rows.memory) (failed c.in-Err-type_name_rows.ensures c.in-Err-type_name_rows.memory)

pub returns-in-DontKnowYet-asked : goal.returns-in-DontKnowYet-asked
returns-in-DontKnowYet-asked g c =
    item_made (ap (λ (d : Decl). decl_item (decl_view d)) c.in-Types.is) c.args.kind c.args.before.cell (Ok (DontKnowYet c.in-DontKnowYet-asked.head))
    (waiting (rw c.in-DontKnowYet-asked.is at c.in-Ok-type_name_rows.ensures))

pub returns-in-Known-asked : goal.returns-in-Known-asked
returns-in-Known-asked g c =
    item_made (ap (λ (d : Decl). decl_item (decl_view d)) c.in-Types.is) c.args.kind c.args.before.cell (Ok (Known c.only_cell-in-Types.result))
    (valued IsLoneEffect (λ p. only_cell c.args.before.cell) c.only_cell-in-Types.result c.only_cell-in-Types.ensures (rw c.only_cell-in-Types.ensures (record { effect = record { cell = c.requires.cell; result = tt }; alone = refl })) (first_made c.in-Ok-type_name_rows.is c.in-Known-asked.is c.type_name_rows.ensures))

pub vars_rows-requires-clause-making : goal.vars_rows-requires-clause-making
vars_rows-requires-clause-making g c =
    let same : c.deref.result.now ≡ c.in-Vars.names.items = search rules in
    item_making (ap (λ (d : Decl). decl_item (decl_view d)) c.in-Vars.is ∙ ap (λ (xs : List Ident). vars_item xs (type_view c.in-Vars.typ)) (sym same)) c.requires.making

pub vars_rows-requires-clause-read : goal.vars_rows-requires-clause-read
vars_rows-requires-clause-read g c =
    let same : c.deref.result.now ≡ c.in-Vars.names.items = search rules in
    (item_read (ap (λ (d : Decl). decl_item (decl_view d)) c.in-Vars.is ∙ ap (λ (xs : List Ident). vars_item xs (type_view c.in-Vars.typ)) (sym same)) c.args.site.now.texts.now.names c.requires.read).1

pub vars_rows-requires-clause-named : goal.vars_rows-requires-clause-named
vars_rows-requires-clause-named g c =
    let same : c.deref.result.now ≡ c.in-Vars.names.items = search rules in
    (item_read (ap (λ (d : Decl). decl_item (decl_view d)) c.in-Vars.is ∙ ap (λ (xs : List Ident). vars_item xs (type_view c.in-Vars.typ)) (sym same)) c.args.site.now.texts.now.names c.requires.read).0

pub returns-in-Err-vars_rows : goal.returns-in-Err-vars_rows
returns-in-Err-vars_rows g c =
    let same : c.deref.result.now ≡ c.in-Vars.names.items = search rules in
    item_made (ap (λ (d : Decl). decl_item (decl_view d)) c.in-Vars.is ∙ ap (λ (xs : List Ident). vars_item xs (type_view c.in-Vars.typ)) (sym same)) c.args.kind c.args.before.cell (Err c.in-Err-vars_rows.memory) (failed c.in-Err-vars_rows.ensures c.in-Err-vars_rows.memory)

pub returns-in-DontKnowYet-asked-2 : goal.returns-in-DontKnowYet-asked-2
returns-in-DontKnowYet-asked-2 g c =
    let same : c.deref.result.now ≡ c.in-Vars.names.items = search rules in
    item_made (ap (λ (d : Decl). decl_item (decl_view d)) c.in-Vars.is ∙ ap (λ (xs : List Ident). vars_item xs (type_view c.in-Vars.typ)) (sym same)) c.args.kind c.args.before.cell (Ok (DontKnowYet c.in-DontKnowYet-asked-2.head))
    (waiting (rw c.in-DontKnowYet-asked-2.is at c.in-Ok-vars_rows.ensures))

pub returns-in-Known-asked-2 : goal.returns-in-Known-asked-2
returns-in-Known-asked-2 g c =
    let same : c.deref.result.now ≡ c.in-Vars.names.items = search rules in
    item_made (ap (λ (d : Decl). decl_item (decl_view d)) c.in-Vars.is ∙ ap (λ (xs : List Ident). vars_item xs (type_view c.in-Vars.typ)) (sym same)) c.args.kind c.args.before.cell (Ok (Known c.only_cell-in-Vars.result))
    (valued IsLoneEffect (λ n. only_cell n) c.only_cell-in-Vars.result c.only_cell-in-Vars.ensures (rw c.only_cell-in-Vars.ensures (record { effect = record { cell = (first_made c.in-Ok-vars_rows.is c.in-Known-asked-2.is c.vars_rows.ensures).there; result = tt }; alone = refl })) (first_made c.in-Ok-vars_rows.is c.in-Known-asked-2.is c.vars_rows.ensures))

pub proc_rows-requires-clause-making : goal.proc_rows-requires-clause-making
proc_rows-requires-clause-making g c =
    item_making (ap (λ (d : Decl). decl_item (decl_view d)) c.in-Proc.is) c.requires.making

pub proc_rows-requires-clause-read : goal.proc_rows-requires-clause-read
proc_rows-requires-clause-read g c =
    (item_read (ap (λ (d : Decl). decl_item (decl_view d)) c.in-Proc.is) c.args.site.now.texts.now.names c.requires.read).0

pub returns-in-Err-proc_rows : goal.returns-in-Err-proc_rows
returns-in-Err-proc_rows g c =
    item_made (ap (λ (d : Decl). decl_item (decl_view d)) c.in-Proc.is) c.args.kind c.args.before.cell (Err c.in-Err-proc_rows.memory) (failed c.in-Err-proc_rows.ensures c.in-Err-proc_rows.memory)

pub returns-in-DontKnowYet-asked-3 : goal.returns-in-DontKnowYet-asked-3
returns-in-DontKnowYet-asked-3 g c =
    item_made (ap (λ (d : Decl). decl_item (decl_view d)) c.in-Proc.is) c.args.kind c.args.before.cell (Ok (DontKnowYet c.in-DontKnowYet-asked-3.head))
    (waiting (rw c.in-DontKnowYet-asked-3.is at c.in-Ok-proc_rows.ensures))

pub returns-in-Known-asked-3 : goal.returns-in-Known-asked-3
returns-in-Known-asked-3 g c =
    item_made (ap (λ (d : Decl). decl_item (decl_view d)) c.in-Proc.is) c.args.kind c.args.before.cell (Ok (Known c.noted.result))
    (valued IsLoneEffect (λ n. record { cell = c.args.before.cell; prologue = []; result = None; heading = n; brought = [] }) c.noted.result c.noted.ensures (rw c.noted.ensures (record { effect = record { cell = c.requires.cell; result = tt }; alone = refl })) (first_made c.in-Ok-proc_rows.is c.in-Known-asked-3.is c.proc_rows.ensures))
