use Rattle.std.proofs.Common.{◌∙◌, ◌<◌, ◌^◌, ℕ, ap, length, map, subst, sym}
use Rattle.std.specs.Prelude.{All}
use Rattle.std.specs.List.{slice_index}
use Rattle.scope_table.specs.Seats.{IsOpened}
use Rattle.stream_split.specs.Sizes.{sizes_of}
use Rattle.stream_split.specs.Views.{stream_view}
use Rattle.unit_workers.proofs.Rooms.{narrow}
use Rattle.unit_workers.proofs.opened.outputs_by.Goals as goal

pub open-requires-clause-narrow : goal.open-requires-clause-narrow
open-requires-clause-narrow g c =
    subst (λ ns. (k : ℕ) → k < length ns → slice_index ns k < 2 ^ 31)
    (sym (c.deref-2.ensures.value ∙ c.in_ok-sizes.ensures.sizes ∙ ap (λ ss. sizes_of (map stream_view ss)) c.deref.ensures.value)) (narrow c.args.streams.items c.requires.short)

pub open-requires-clause-first : goal.open-requires-clause-first
open-requires-clause-first g c = ap (λ ns. slice_index ns 0) (c.deref-2.ensures.value ∙ c.in_ok-sizes.ensures.sizes)

pub others-seats-requires : goal.others-seats-requires
others-seats-requires g c =
    subst (λ ns. IsOpened c.in_ok-table.table c.in_ok-table.seats.items c.args.texts.now ns)
    (c.deref-2.ensures.value ∙ c.in_ok-sizes.ensures.sizes ∙ ap (λ ss. sizes_of (map stream_view ss)) c.deref.ensures.value ∙ ap sizes_of c.requires.streams) c.in_ok-table.ensures.opened

pub sizes-requires : goal.sizes-requires
sizes-requires g c = subst (λ ss. All (λ s. length s.tokens.items < 2 ^ 30) ss) (sym c.deref.ensures.value) c.requires.short

pub run_unit-requires-clause-unit : goal.run_unit-requires-clause-unit
run_unit-requires-clause-unit g c κs within = c.requires.unit

pub run_unit-requires-clause-streams : goal.run_unit-requires-clause-streams
run_unit-requires-clause-streams g c κs within = c.requires.streams

pub run_unit-requires-clause-table : goal.run_unit-requires-clause-table
run_unit-requires-clause-table g c κs within = c.others-seats.ensures

pub run_unit-requires-clause-workers : goal.run_unit-requires-clause-workers
run_unit-requires-clause-workers g c κs within = c.requires.workers
