use Rattle.std.proofs.Common.{Bool, None, Some, ap, if◌then◌else◌, sym, ◌∙◌, ◌^◌, ◌<◌, length, subst}
use Rattle.m2_base.specs.Tables.{head_of}
use Rattle.m2_base.specs.declared.replies.Ask.TheVariants.{DontKnowYet, Known}
use Rattle.scope_core.proofs.KeptTables.{at_kept, row_kept}
use Rattle.scope_core.proofs.kept.row_in.Goals as goal

pub head-requires : goal.head-requires
head-requires c =
    let k = c.index-kept-place in let s = c.args.place.scope in
    subst (λ t. length t.rows < 2 ^ 32) (at_kept c.args.kept.now s k.result c.requires.exist ∙ ap (λ w. w.table) (sym k.is)) (c.requires.fit s)

pub returns-in-Some : goal.returns-in-Some
returns-in-Some c =
    let k = c.index-kept-place in
    row_kept c.args.kept.now c.args.place.scope c.args.place.ordinal k.result (Some c.in-Some.row) c.requires.exist k.is c.in-Some.ensures

pub returns-then-is_complete : goal.returns-then-is_complete
returns-then-is_complete c =
    let k = c.index-kept-place in let s = c.args.place.scope in
    ap (λ (b : Bool). if b then Known None else DontKnowYet (head_of s k.result.table)) (sym c.if-is_complete.true ∙ c.is_complete.ensures)
    ∙ row_kept c.args.kept.now s c.args.place.ordinal k.result None c.requires.exist k.is c.in-None.ensures

pub returns-else-is_complete : goal.returns-else-is_complete
returns-else-is_complete c =
    let k = c.index-kept-place in let s = c.args.place.scope in
    ap DontKnowYet c.head.ensures
    ∙ ap (λ (b : Bool). if b then Known None else DontKnowYet (head_of s k.result.table)) (sym c.if-is_complete.false ∙ c.is_complete.ensures)
    ∙ row_kept c.args.kept.now s c.args.place.ordinal k.result None c.requires.exist k.is c.in-None.ensures
