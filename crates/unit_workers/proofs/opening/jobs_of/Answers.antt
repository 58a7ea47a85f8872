use Rattle.std.proofs.Common.{ap, subst, sym, ◌∙◌, ◌≡◌, ◌++◌, ◌∷◌, [], length}
use Rattle.std.specs.List.{AllZip}
use Rattle.std.proofs.lemmas.Slice.Zip.{all_zipped_more}
use Rattle.std.proofs.lemmas.Iterator.{YieldsList-from_zip}
use Rattle.std.proofs.lemmas.Iterator.Adapters.{YieldsList-from_vec}
use Rattle.std.proofs.lemmas.Iterator.Consumers.{YieldsList-end, YieldsList-turn}
use Rattle.dky_search.specs.SeatScopes.{state_of}
use Rattle.stream_split.specs.Views.{stream_view}
use Rattle.unit_tasks.specs.Starts.{IsNew}
use Rattle.unit_workers.specs.Starts.{IsUnused, first_state}
use Rattle.unit_workers.proofs.Openings.{all_begun, all_unused, texts_same}
use Rattle.unit_workers.proofs.Places.{second_of, triples_same}
use Rattle.unit_workers.proofs.opening.jobs_of.Goals as goal

pub new-scopes-requires-clause-texts : goal.new-scopes-requires-clause-texts
new-scopes-requires-clause-texts g c = texts_same c.args.table.now c.args.texts.now c.args.seats.items c.requires.seats

pub new-scopes-requires-clause-unused : goal.new-scopes-requires-clause-unused
new-scopes-requires-clause-unused g c =
    let inner = c.zip.ensures.second in
    let outer = c.zip-stream-items.ensures.second in
    let first = c.zip.ensures.first in
    let both = c.zip-stream-items.ensures.first in
    let rest = c.into_iter.ensures.rest in
    let len = c.into_iter.ensures.len in
    let given = c.into_iter-stream-iterator.ensures.into_iter_gives in
    let s = c.into_iter-stream-iterator.result in
    let a : s.a.a.rest.items ≡ c.args.streams.items = ap (λ z. z.a.a.rest.items) given ∙ ap (λ z. z.a.rest.items) both ∙ ap (λ z. z.rest.items) first ∙ rest in
    let b : s.a.a.rest.len ≡ length c.args.streams.items = ap (λ z. z.a.a.rest.len) given ∙ ap (λ z. z.a.rest.len) both ∙ ap (λ z. z.rest.len) first ∙ len ∙ c.args.streams.ok.0 in
    let d : s.a.b.rest.items ≡ c.in_ok-arounds.arounds.items = ap (λ z. z.a.b.rest.items) given ∙ ap (λ z. z.b.rest.items) both ∙ inner.0 in
    let e : s.a.b.rest.len ≡ length c.in_ok-arounds.arounds.items = ap (λ z. z.a.b.rest.len) given ∙ ap (λ z. z.b.rest.len) both ∙ inner.1 ∙ c.in_ok-arounds.arounds.ok.0 in
    let f : s.b.rest.items ≡ c.args.seats.items = ap (λ z. z.b.rest.items) given ∙ outer.0 in
    let h : s.b.rest.len ≡ length c.args.seats.items = ap (λ z. z.b.rest.len) given ∙ outer.1 ∙ c.args.seats.ok.0 in
    let blocks = YieldsList-from_zip {s = s.a} (YieldsList-from_vec {s = s.a.a} c.args.streams.items a b) (YieldsList-from_vec {s = s.a.b} c.in_ok-arounds.arounds.items d e) in
    let turn =
    YieldsList-turn (YieldsList-from_zip {s = s} blocks (YieldsList-from_vec {s = s.b} c.args.seats.items f h))
    c.loop-stream.yielded c.loop-stream.stream-iterator c.loop-stream.yielded_by c.next.result c.next.new.self ((c.in-Some.stream, c.in-Some.around), c.in-Some.seat) c.in-Some.is c.next.ensures.steps in
    second_of (IsUnused c.args.table.now) _ _ _ _ (all_unused c.args.table.now c.args.texts.now c.args.seats.items c.requires.seats) turn.0 turn.1

pub loop-stream-preserved : goal.loop-stream-preserved
loop-stream-preserved g c =
    let job = c.in_ok-new.field-0 in
    let task = subst (IsNew (stream_view c.in-Some.stream) c.in-Some.around) (sym c.in_ok-new.ensures.0) c.new-task.ensures in
    let state = c.in_ok-new.ensures.1 ∙ c.new-scopes.ensures.state in
    subst (λ js. AllZip (λ p j. IsNew (stream_view p.0.0) p.0.1 j.parts.value.task × (state_of j.parts.value.scopes.scopes ≡ first_state c.args.table.now p.1)) (c.loop-stream.yielded ++ ((c.in-Some.stream, c.in-Some.around), c.in-Some.seat) ∷ []) js) (sym c.in_ok-push.ensures.items)
    (all_zipped_more (λ p j. IsNew (stream_view p.0.0) p.0.1 j.parts.value.task × (state_of j.parts.value.scopes.scopes ≡ first_state c.args.table.now p.1)) c.loop-stream.yielded c.loop-stream.jobs.items ((c.in-Some.stream, c.in-Some.around), c.in-Some.seat)
    job c.loop-stream.invariant (task, state))

pub returns : goal.returns
returns g c =
    let inner = c.zip.ensures.second in
    let outer = c.zip-stream-items.ensures.second in
    let first = c.zip.ensures.first in
    let both = c.zip-stream-items.ensures.first in
    let rest = c.into_iter.ensures.rest in
    let len = c.into_iter.ensures.len in
    let given = c.into_iter-stream-iterator.ensures.into_iter_gives in
    let s = c.into_iter-stream-iterator.result in
    let a : s.a.a.rest.items ≡ c.args.streams.items = ap (λ z. z.a.a.rest.items) given ∙ ap (λ z. z.a.rest.items) both ∙ ap (λ z. z.rest.items) first ∙ rest in
    let b : s.a.a.rest.len ≡ length c.args.streams.items = ap (λ z. z.a.a.rest.len) given ∙ ap (λ z. z.a.rest.len) both ∙ ap (λ z. z.rest.len) first ∙ len ∙ c.args.streams.ok.0 in
    let d : s.a.b.rest.items ≡ c.in_ok-arounds.arounds.items = ap (λ z. z.a.b.rest.items) given ∙ ap (λ z. z.b.rest.items) both ∙ inner.0 in
    let e : s.a.b.rest.len ≡ length c.in_ok-arounds.arounds.items = ap (λ z. z.a.b.rest.len) given ∙ ap (λ z. z.b.rest.len) both ∙ inner.1 ∙ c.in_ok-arounds.arounds.ok.0 in
    let f : s.b.rest.items ≡ c.args.seats.items = ap (λ z. z.b.rest.items) given ∙ outer.0 in
    let h : s.b.rest.len ≡ length c.args.seats.items = ap (λ z. z.b.rest.len) given ∙ outer.1 ∙ c.args.seats.ok.0 in
    let blocks = YieldsList-from_zip {s = s.a} (YieldsList-from_vec {s = s.a.a} c.args.streams.items a b) (YieldsList-from_vec {s = s.a.b} c.in_ok-arounds.arounds.items d e) in
    let all =
    YieldsList-end (YieldsList-from_zip {s = s} blocks (YieldsList-from_vec {s = s.b} c.args.seats.items f h))
    c.loop-stream.yielded c.loop-stream.stream-iterator c.loop-stream.yielded_by c.next.result c.next.new.self c.in-None.is c.next.ensures.steps in
    let made =
    subst (λ ps. AllZip (λ p j. IsNew (stream_view p.0.0) p.0.1 j.parts.value.task × (state_of j.parts.value.scopes.scopes ≡ first_state c.args.table.now p.1)) ps c.loop-stream.jobs.items) (sym (triples_same c.loop-stream.yielded) ∙ all.0) c.loop-stream.invariant in
    all_begun c.args.table.now c.args.texts.now c.args.seats.items c.requires.seats (λ j. state_of j.parts.value.scopes.scopes) (λ j. j.parts.value.task) c.main-main.ensures.unit c.requires.unit
    c.args.streams.items c.in_ok-arounds.arounds.items c.loop-stream.jobs.items c.requires.streams c.in_ok-arounds.ensures made
