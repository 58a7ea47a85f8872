-- What the work on a unit leaves.
use Rattle.std.specs.Prelude.{◌≡◌, ℕ, true, List, [], ◌∷◌, slice_get, slice_index_or, Some, None}
use Rattle.std.specs.List.{AllZip}
use Rattle.std.proofs.Common.{ap, subst, sym, ◌∙◌, arith}
use Rattle.m2_base.specs.Finished.{IsFinished as HasRows}
use Rattle.m2_base.specs.Lists.{Each, WhereKept}
use Rattle.m2_base.specs.States.{IsAmong, State, fills_of, texts_of}
use Rattle.m2_base.specs.Statics.BlockLimits.{limit_of}
use Rattle.m2_base.specs.Statics.Contexts.{Block}
use Rattle.m2_base.specs.Tables.{rows_at}
use Rattle.m2_base.specs.Units.{UnitTexts}
use Rattle.m2_base.specs.declared.rows.Row.{Row}
use Rattle.unit_tasks.specs.Outputs.{AreOutputs}
use Rattle.relay.specs.Hands.{AreLater}
use Rattle.scope_table.specs.declared.table.ScopeTable.{ScopeTable}
use Rattle.dky_search.specs.SeatScopes.{state_of, table_in}
use Rattle.dky_search.specs.declared.seat_scopes.SeatScopes.{SeatScopes}
use Rattle.stream_split.specs.Streams.{StreamOf, main_tokens, streams_of}
use Rattle.stream_split.proofs.StreamCounts.{number_is}
use Rattle.task_state.specs.Outputs.{IsOutput}
use Rattle.task_state.specs.Progress.{IsLeft}
use Rattle.task_state.specs.declared.task.Task.{Task}
use Rattle.unit_tasks.specs.Outputs.{IsOutputIn}
use Rattle.unit_tasks.proofs.Starting.{zip_from, zip_long, zipped_at}
use Rattle.unit_tasks.proofs.UnitOutputs.{outputs_are}
use Rattle.unit_workers.specs.Ends.{IsEnd, IsFinished, outputs_in}
use Rattle.unit_workers.specs.Jobs.{Fits, Stays, fills_stays, fits_on}
use Rattle.unit_workers.specs.Starts.{IsBegun}
use Rattle.unit_workers.specs.declared.finishing.Finished.{Finished}
use Rattle.unit_workers.proofs.Places.{at_or, got, low_of, map_zip}

-- ** The end of one job

module _ (t : ScopeTable) (u : UnitTexts) (k : ℕ) (s : StreamOf) (there : slice_get (streams_of u) k ≡ Some s) (st : State) (task : Task) (fits : Fits u st task) (fills : fills_of st ≡ s.stream)
    (f : Finished SeatScopes) (end : IsEnd (Some t) st task f) where
  left : IsLeft st task f.output
  left = end.left st fits.far

  stream_is : left.stream ≡ s
  stream_is =
      let number = number_is (texts_of st) left.of_unit.index left.stream left.of_unit.there in
      let own = number_is u k s there in
      let is = left.of_unit.fills in
      let place : left.of_unit.index ≡ k = omega (arith, number, own, is, fills) in
      let at : slice_get (streams_of u) k ≡ Some left.stream =
      ap (λ (v : UnitTexts). slice_get (streams_of v) k) (sym fits.texts) ∙ ap (slice_get (streams_of (texts_of st))) (sym place) ∙ left.of_unit.there in
      let both : Some left.stream ≡ Some s = sym at ∙ there in
      cc

  output_is : IsOutputIn u s f.output
  output_is =
      subst (λ (x : StreamOf). IsOutputIn u x f.output) stream_is
      (subst (λ (v : UnitTexts). IsOutputIn v left.stream f.output) fits.texts
      (subst (λ (b : Block). IsOutput (texts_of st) left.stream b f.output) left.of_unit.around left.ended.output))

  table_same : table_in f.scopes ≡ t
  table_same = let both : Some (table_in f.scopes) ≡ Some t = sym end.table_is in cc

  -- of the handle
  at_handle : (P : State → Type 0) → P st → P (state_of f.scopes)
  at_handle P p = subst P (sym end.state_is) p

  closed : (state_of f.scopes).frame.closed ≡ true
  closed = at_handle (λ x. x.frame.closed ≡ true) left.ended.closed

  texts_are : texts_of (state_of f.scopes) ≡ u
  texts_are = at_handle (λ x. texts_of x ≡ u) fits.texts

  fills_are : fills_of (state_of f.scopes) ≡ s.stream
  fills_are = at_handle (λ x. fills_of x ≡ s.stream) fills

  rows_are : (tables : List (List Row)) → HasRows u tables → (state_of f.scopes).frame.entered ≡ rows_at tables s.stream
  rows_are tables finished =
      (end.front tables (subst (λ (v : UnitTexts). HasRows v tables) (sym texts_are) finished)).whole closed ∙ ap (rows_at tables) fills_are

  pub one_finished : IsFinished t u s f
  one_finished =
      record {
        output = output_is;
        table = table_same;
        texts = texts_are;
        fills = fills_are;
        closed = closed;
        rows = rows_are;
        shown = at_handle (λ x. WhereKept x.looks (λ looks. Each (IsAmong looks) f.output.answers.items)) left.shown;
      }

-- ** All of them

module _ {A : Type 0} (t : ScopeTable) (u : UnitTexts) (state : A → State) (task : A → Task) (first last : List A) (all : List (Finished SeatScopes))
    (begun : AllZip (λ s j. IsBegun u s (state j) (task j)) (streams_of u) first) (later : AreLater (λ a b. Stays (state a) (task a) (state b) (task b)) first last)
    (ends : AllZip (λ j f. IsEnd (Some t) (state j) (task j) f) last all) where
  finished_at : (k : ℕ) (s : StreamOf) (f : Finished SeatScopes) → slice_get (streams_of u) k ≡ Some s → slice_get all k ≡ Some f → IsFinished t u s f
  finished_at k s f there given =
      let z = zipped_at (λ j x. IsEnd (Some t) (state j) (task j) x) last all ends k f given in
      let many = later.many in
      let low = low_of last k z.item z.there in
      let g = got first k (omega (arith, many, low)) in
      let b = zipped_at (λ x j. IsBegun u x (state j) (task j)) (streams_of u) first begun k g.0 g.1 in
      let here : Some b.item ≡ Some s = sym b.there ∙ there in
      let same : b.item ≡ s = cc in
      let was = at_or first k g.0 z.item g.1 in
      let is = at_or last k z.item z.item z.there in
      let stays : Stays (state g.0) (task g.0) (state z.item) (task z.item) =
      subst (λ (j : A). Stays (state g.0) (task g.0) (state j) (task j)) is
      (subst (λ (j : A). Stays (state j) (task j) (state (slice_index_or last k z.item)) (task (slice_index_or last k z.item))) was (later.each k z.item (low_of first k g.0 g.1))) in
      one_finished t u k s there (state z.item) (task z.item) (fits_on b.holds.fits stays) (fills_stays stays ∙ b.holds.fills ∙ ap (λ (x : StreamOf). x.stream) same) f z.holds

  pub all_finished : AllZip (IsFinished t u) (streams_of u) all
  all_finished =
      let one = zip_long (λ s j. IsBegun u s (state j) (task j)) (streams_of u) first begun in
      let two = later.many in
      let three = zip_long (λ j f. IsEnd (Some t) (state j) (task j) f) last all ends in
      zip_from (IsFinished t u) (streams_of u) all (omega (arith, one, two, three)) finished_at

-- the outputs alone are those of the unit's streams
pub finished_outputs : (t : ScopeTable) (u : UnitTexts) (all : List (Finished SeatScopes)) → limit_of (main_tokens u) ≡ None → AllZip (IsFinished t u) (streams_of u) all → AreOutputs u (outputs_in all)
finished_outputs t u all limits are =
    outputs_are u (outputs_in all) limits (map_zip (IsOutputIn u) (λ f. f.output) (streams_of u) all (weaker (streams_of u) all are))
  where
    weaker : (ss : List StreamOf) (fs : List (Finished SeatScopes)) → AllZip (IsFinished t u) ss fs → AllZip (λ s f. IsOutputIn u s f.output) ss fs
    weaker [] [] h = tt
    weaker [] (f ∷ fs) h = absurd h
    weaker (s ∷ ss) [] h = absurd h
    weaker (s ∷ ss) (f ∷ fs) h = (h.0.output, weaker ss fs h.1)
