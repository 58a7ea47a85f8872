use Rattle.std.specs.Prelude.{◌<◌}
use Rattle.type_rules.specs.Asks.{Reads}
use Rattle.decl_sem.specs.FoundConstants.{AreFound, constants_left}
use Rattle.decl_sem.proofs.brought.constants_in.Given as goal

-- what is found of the constants, where those from this ordinal on are left
abbrev pub invariant-loop-ordinal : goal.invariant-loop-ordinal
invariant-loop-ordinal g l =
    let state = g.S.Scopes.state in
    let f = (state l.fn.scopes).frame in
    record {
      reads : Reads (state l.fn.scopes) (state l.scopes);
      before : l.of.scope < f.setting.fills;
      found : AreFound f l.site l.made (constants_left l.of.scope l.first l.end) (constants_left l.of.scope l.ordinal l.end) l.found;
    }
