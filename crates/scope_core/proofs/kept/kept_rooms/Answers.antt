use Rattle.std.proofs.Common.{◌≡◌, [], ◌∷◌, ◌++◌, arith, subst}
use Rattle.std.proofs.lemmas.List.{take_all, take_more}
use Rattle.std.proofs.lemmas.Grind.{common_steps}
use Rattle.scope_core.proofs.KeptTables.{HaveRooms, HaveRooms-more}
use Rattle.m2_base.proofs.Without.{if_ok_of_err}
use Rattle.scope_core.proofs.kept.kept_rooms.Goals as goal

pub loop-size-preserved : goal.loop-size-preserved
loop-size-preserved c =
    let added : c.push.new.self.items ≡ c.loop-size.kept.items ++ c.in_ok-scope.scope ∷ [] = grind (arith, common_steps) in
    let taken = take_more c.args.sizes.now c.loop-size.size-index 0 c.loop-size-test.true in
    rw (taken, added) (HaveRooms-more _ _ _ _ c.loop-size.invariant c.in_ok-scope.ensures.table c.in_ok-scope.ensures.room)

pub returns-clause-empty : goal.returns-clause-empty
returns-clause-empty c = (subst (λ l. HaveRooms l c.loop-size.kept.items) (take_all _ c.args.sizes.now c.loop-size-test.false) c.loop-size.invariant).empty

pub returns-clause-rooms : goal.returns-clause-rooms
returns-clause-rooms c = (subst (λ l. HaveRooms l c.loop-size.kept.items) (take_all _ c.args.sizes.now c.loop-size-test.false) c.loop-size.invariant).rooms

pub returns-in_err-scope-clause-empty : goal.returns-in_err-scope-clause-empty
returns-in_err-scope-clause-empty c = if_ok_of_err _ c.from_residual-in_err-scope.result c.from_residual-in_err-scope.ensures.0

pub returns-in_err-scope-clause-rooms : goal.returns-in_err-scope-clause-rooms
returns-in_err-scope-clause-rooms c = if_ok_of_err _ c.from_residual-in_err-scope.result c.from_residual-in_err-scope.ensures.0

pub returns-in_err-push-clause-empty : goal.returns-in_err-push-clause-empty
returns-in_err-push-clause-empty c = if_ok_of_err _ c.from_residual-in_err-push.result c.from_residual-in_err-push.ensures.0

pub returns-in_err-push-clause-rooms : goal.returns-in_err-push-clause-rooms
returns-in_err-push-clause-rooms c = if_ok_of_err _ c.from_residual-in_err-push.result c.from_residual-in_err-push.ensures.0
