use Rattle.std.proofs.Common.{◌≡◌, ◌∙◌, ◌-◌, ◌<◌, ◌≤◌, List, ap, arith, get_or, subst, sym}
use Rattle.std.proofs.lemmas.List.{get_or_default}
use Rattle.m2_base.specs.Rows.{HasSmallNumbers, row_meaning, row_of}
use Rattle.m2_base.specs.declared.rows.Place.{Place}
use Rattle.m2_base.specs.declared.rows.Row.{Row}
use Rattle.m2_base.specs.declared.rows.RowMeaning.TheVariants.{Broken}
use Rattle.decl_sem.specs.Hands.{held_meaning}
use Rattle.decl_sem.specs.Making.{next_ordinal}
use Rattle.decl_sem.specs.declared.making.Made.{Made}
use Rattle.decl_sem.proofs.standing.held_meaning.Goals as goal

-- the row at the place, whatever stands for a missing one
held_row : (made : Made) (of : Place) (rows : List Row) (d : Row) → rows ≡ made.rows.items → made.first ≤ of.ordinal → of.ordinal < next_ordinal made
    → row_meaning (get_or rows (of.ordinal - made.first) d) ≡ held_meaning made of
held_row made of rows d same first within =
    ap (λ (rs : List Row). row_meaning (get_or rs (of.ordinal - made.first) d)) same
    ∙ ap row_meaning (get_or_default made.rows.items (of.ordinal - made.first) d (row_of 0 0 Broken) (omega (arith, first, within)))

pub read_row-requires : goal.read_row-requires
read_row-requires c = subst HasSmallNumbers (sym (held_row c.args.made.now c.args.of c.list-rows.result.now _ c.list-rows.ensures c.requires.first c.requires.within)) c.requires.small

pub returns : goal.returns
returns c = c.read_row.ensures ∙ held_row c.args.made.now c.args.of c.list-rows.result.now _ c.list-rows.ensures c.requires.first c.requires.within
