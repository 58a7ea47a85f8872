use Rattle.std.proofs.Common.{◌≡◌}
use Rattle.type_rules.specs.Asks.{Reads}
use Rattle.decl_sem.proofs.OwnRows.{AreCheckedTo}
use Rattle.decl_sem.proofs.closing.check_rows.Given as goal

-- the rows before this one are checked
abbrev pub invariant-loop-ordinal : goal.invariant-loop-ordinal
invariant-loop-ordinal g l =
    let state = g.S.Scopes.state in
    record {
      reads : Reads (state l.fn.scopes) (state l.scopes);
      answers : l.notes.answers.items ≡ l.fn.notes.answers.items;
      left : AreCheckedTo (state l.fn.scopes).frame l.site l.own l.fn.notes.diags.items l.notes.diags.items l.missing l.ordinal;
    }
