use Rattle.std.proofs.Common.{rules, subst, sym, ◌≡◌, ◌++◌, ◌∷◌, [], true}
use Rattle.std.specs.List.{AllZip}
use Rattle.std.specs.Vec.Iter.{into_iter_items}
use Rattle.std.proofs.lemmas.Slice.Zip.{all_zipped_more}
use Rattle.dky_search.specs.SeatScopes.{state_of}
use Rattle.task_state.specs.Progress.{is_over}
use Rattle.unit_workers.specs.Ends.{IsEnd}
use Rattle.unit_workers.proofs.Places.{first_of, others_of}
use Rattle.unit_workers.proofs.finishing.all_finished.Goals as goal

pub end_of-requires : goal.end_of-requires
end_of-requires g c =
    let e : into_iter_items c.loop-job.job-iterator ≡ c.in-Some.job ∷ into_iter_items c.next.new.self = search rules in
    subst (λ parts. is_over parts.task ≡ true) (sym c.into_inner-parts.ensures) (first_of (λ job. is_over job.parts.value.task ≡ true) _ _ _ e c.loop-job.invariant.3)

pub loop-job-preserved : goal.loop-job-preserved
loop-job-preserved g c =
    let e : into_iter_items c.loop-job.job-iterator ≡ c.in-Some.job ∷ into_iter_items c.next.new.self = search rules in (
      search rules,
      search rules,
      subst (λ fs. AllZip (λ job end. IsEnd g.J.OfTable.table (state_of job.parts.value.scopes.scopes) job.parts.value.task end) (c.loop-job.yielded ++ c.in-Some.job ∷ []) fs) (sym c.in_ok-push.ensures.items)
          (all_zipped_more (λ job end. IsEnd g.J.OfTable.table (state_of job.parts.value.scopes.scopes) job.parts.value.task end) c.loop-job.yielded c.loop-job.all.items c.in-Some.job c.end_of.result c.loop-job.invariant.2
          (subst (λ parts. IsEnd g.J.OfTable.table (state_of parts.scopes.scopes) parts.task c.end_of.result) c.into_inner-parts.ensures c.end_of.ensures)),
      others_of (λ job. is_over job.parts.value.task ≡ true) _ _ _ e c.loop-job.invariant.3,
    )
