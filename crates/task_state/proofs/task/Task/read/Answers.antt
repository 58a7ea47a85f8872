use Rattle.std.specs.Prelude.{List, Ok}
use Rattle.std.proofs.Common.{refl, sym, subst}
use Rattle.m2_base.specs.Views.{stream_view}
use Rattle.m2_base.specs.declared.token.Token.{Token}
use Rattle.m2_base.proofs.Kept.{Turns-completed, Turns-refl}
use Rattle.task_state.specs.Progress.{IsUnread}
use Rattle.task_state.proofs.StageSteps.{at_unread, far_begun, fault_completes, is_read, one_tree}
use Rattle.task_state.proofs.task.Task.read.Goals as goal

pub returns-in_default-clause-turns : goal.returns-in_default-clause-turns
returns-in_default-clause-turns g c = Turns-refl (g.S.Scopes.state c.args.scopes.now)

pub returns-in_default-clause-read : goal.returns-in_default-clause-read
returns-in_default-clause-read g c = is_read c.args.self.now.stage c.in_default.not-Unread

pub complete-requires : goal.complete-requires
complete-requires g c =
    let st = g.S.Scopes.state c.args.scopes.now in
    let far = c.requires.far in
    let unread = subst (λ (ts : List Token). IsUnread st.frame far.stream ts) (sym c.deref.ensures.value) (at_unread st c.args.self.now far c.in-Unread.tokens c.in-Unread.is) in
    fault_completes st c.args.self.now far c.deref.result.now unread c.in-Err-Fault.fault (rw c.in-Err-Fault.field-0-is at c.in-Err-Fault.ensures.only)

pub returns-in-Err-Fault-clause-turns : goal.returns-in-Err-Fault-clause-turns
returns-in-Err-Fault-clause-turns g c = Turns-completed c.complete.ensures

pub returns-clause-turns : goal.returns-clause-turns
returns-clause-turns g c = Turns-refl (g.S.Scopes.state c.args.scopes.now)

pub returns-clause-far : goal.returns-clause-far
returns-clause-far g c =
    let st = g.S.Scopes.state c.args.scopes.now in
    let far = c.requires.far in
    let unread = subst (λ (ts : List Token). IsUnread st.frame far.stream ts) (sym c.deref.ensures.value) (at_unread st c.args.self.now far c.in-Unread.tokens c.in-Unread.is) in
    let tree = c.in-Ok.tree in
    far_begun st c.args.self.now far c.deref.result.now unread tree c.begun.result c.in-Ok.ensures.tree (λ x h. one_tree x (stream_view tree) (Ok x) refl (c.in-Ok.ensures.only x h)) c.begun.ensures
