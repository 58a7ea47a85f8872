use Rattle.std.proofs.Common.{◌≡◌, ◌+◌, drop, map}
use Rattle.type_rules.specs.Asks.{Reads}
use Rattle.type_rules.specs.Scenes.{WhereTold, scene_of}
use Rattle.expr_sem.specs.ArgumentCodes.{parameter_view}
use Rattle.block_code.specs.Calls.{cells_of_all}
use Rattle.expr_sem.proofs.signatures.cells_of_all.Given as goal

-- the cells so far and those that are left are all
abbrev pub invariant-loop-number : goal.invariant-loop-number
invariant-loop-number g l =
    let state = g.S.Scopes.state in
    let f = (state l.fn.scopes).frame in
    record {
      reads : Reads (state l.fn.scopes) (state l.scopes);
      left : WhereTold f (λ made. l.cells + cells_of_all (scene_of f made l.around) (map parameter_view (drop l.number l.params)) ≡ cells_of_all (scene_of f made l.around) (map parameter_view l.params));
    }
