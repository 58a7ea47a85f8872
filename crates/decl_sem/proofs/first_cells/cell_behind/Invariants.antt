use Rattle.std.proofs.Common.{◌≡◌, ◌≤◌, ◌+◌}
use Rattle.type_rules.specs.Asks.{Reads}
use Rattle.type_rules.specs.Scenes.{WhereTold}
use Rattle.decl_sem.proofs.OwnRows.{behind}
use Rattle.decl_sem.proofs.first_cells.cell_behind.Given as goal
use Rattle.m2_base.specs.Statics.Cells.{most_cells}

-- the cell after the rows so far, and the rows that are left, give that after all
abbrev pub invariant-loop-ordinal : goal.invariant-loop-ordinal
invariant-loop-ordinal g l =
    let state = g.S.Scopes.state in
    let f = (state l.fn.scopes).frame in
    record {
      reads : Reads (state l.fn.scopes) (state l.scopes);
      few : l.cell ≤ most_cells + 1;
      left : WhereTold f (λ made. behind f l.around l.own made l.cell l.ordinal ≡ behind f l.around l.own made 0 0);
    }
