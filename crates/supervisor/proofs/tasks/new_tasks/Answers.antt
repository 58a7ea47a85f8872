use Rattle.std.proofs.Common.{subst, sym, ◌∙◌, ◌≡◌, List, ◌++◌, ◌∷◌, [], length}
use Rattle.std.specs.List.{AllZip}
use Rattle.std.proofs.lemmas.Slice.Zip.{all_zipped_more}
use Rattle.std.proofs.lemmas.Iterator.{YieldsList-from_zip}
use Rattle.std.proofs.lemmas.Iterator.Adapters.{YieldsList-from_vec}
use Rattle.std.proofs.lemmas.Iterator.Consumers.{YieldsList-end}
use Rattle.m2_base.specs.declared.sites.Around.{Around}
use Rattle.stream_split.specs.Views.{stream_view}
use Rattle.stream_split.specs.declared.streams.StreamTokens.{StreamTokens}
use Rattle.task_state.specs.declared.task.Task.{Task}
use Rattle.unit_tasks.specs.Starts.{IsNew}
use Rattle.supervisor.proofs.Starting.{pairs_same}
use Rattle.supervisor.proofs.tasks.new_tasks.Goals as goal

pub loop-stream-preserved : goal.loop-stream-preserved
loop-stream-preserved c =
    subst (λ (ts : List Task). AllZip (λ p t. IsNew (stream_view p.0) p.1 t) (c.loop-stream.yielded ++ (c.in-Some.stream, c.in-Some.around) ∷ []) ts) (sym c.in_ok-push.ensures.items)
    (all_zipped_more (λ (p : StreamTokens × Around) (t : Task). IsNew (stream_view p.0) p.1 t) c.loop-stream.yielded c.loop-stream.tasks.items (c.in-Some.stream, c.in-Some.around) c.new.result c.loop-stream.invariant c.new.ensures)

pub returns : goal.returns
returns c =
    let first = c.zip-stream-items.ensures.first in
    let second = c.zip-stream-items.ensures.second in
    let rest = c.into_iter.ensures.rest in
    let len = c.into_iter.ensures.len in
    let given = c.into_iter-stream-iterator.ensures.into_iter_gives in
    let a : c.into_iter-stream-iterator.result.a.rest.items ≡ c.args.streams.items = cc in
    let b : c.into_iter-stream-iterator.result.a.rest.len ≡ length c.args.streams.items = cc in
    let d : c.into_iter-stream-iterator.result.b.rest.items ≡ c.args.arounds.items = cc (second.0) in
    let e : c.into_iter-stream-iterator.result.b.rest.len ≡ length c.args.arounds.items = cc in
    let all =
    YieldsList-end (YieldsList-from_zip {s = c.into_iter-stream-iterator.result} (YieldsList-from_vec {s = c.into_iter-stream-iterator.result.a} c.args.streams.items a b) (YieldsList-from_vec {s = c.into_iter-stream-iterator.result.b} c.args.arounds.items d e))
    c.loop-stream.yielded c.loop-stream.stream-iterator c.loop-stream.yielded_by c.next.result c.next.new.self c.in-None.is c.next.ensures.steps in
    subst (λ (ps : List (StreamTokens × Around)). AllZip (λ p t. IsNew (stream_view p.0) p.1 t) ps c.loop-stream.tasks.items) (sym (pairs_same c.loop-stream.yielded) ∙ all.0) c.loop-stream.invariant
