use Rattle.std.proofs.Common.{◌≡◌, ℕ, ◌+◌, ◌*◌, ◌<◌, ◌∙◌, length, get_or, set, length-set, sym, ap, subst, arith, get_or-set_same, get_or-set_other}
use mathlib.Core.Logic.{dite}
use native.Mathlib.Decide.{ℕ_discrete}
use Rattle.scope_table.specs.Plays.{IsWordOf}
use Rattle.m2_base.specs.declared.rows.Row.{Row}
use Rattle.m2_base.specs.Rows.{at_place, IsWellFormed}
use Rattle.scope_table.specs.Rows.{row_of}
use Rattle.scope_table.specs.Rule.{base, scopes, shown_at, texts_in}
use Rattle.scope_table.specs.Seats.{view, key_of}
use Rattle.scope_table.specs.declared.table.TableSeat.{TableSeat}
use Rattle.scope_table.specs.declared.view.About.{About}
use Rattle.scope_table.proofs.Rooms.{reads, within, row_room}
use Rattle.scope_table.proofs.Rows.{row_by_fields}
use Rattle.scope_table.proofs.table.ScopeTable.load_row.Goals as goal

pub load_word-requires-clause-word : goal.load_word-requires-clause-word
load_word-requires-clause-word c =
    let t = c.args.self.now in let v = view c.args.seat.now in let a = t.table.shared.key in let is = reads a t.bases c.args.place.scope c.at.result t.bases_are c.at.ensures in
    let room = row_room a v c.args.place.scope c.args.place.ordinal c.requires.table.1 c.requires.scope c.args.seat.now.seated.rooms c.requires.shown in
    let inside = within a c.args.place.scope (8 * c.args.place.ordinal + 7) t.table.shared.table_id.words t.laid c.requires.scope t.wide (omega arith) in omega arith

pub loop-field-preserved : goal.loop-field-preserved
loop-field-preserved c =
    let inv = c.loop-field.invariant in let k = c.loop-field.field in let v = view c.args.seat.now in let test = c.loop-field-test.true in let many = inv.many in
    let l : c.args.place.scope < scopes (key_of c.args.self.now) = c.requires.scope in
    let word : IsWordOf v c.args.place.scope c.args.place.ordinal (c.at.result + 8 * c.args.place.ordinal + k) c.load_word.result =
    subst (λ (s : TableSeat). c.args.place.ordinal < length (shown_at (view s) c.args.place.scope).rows → IsWordOf (view s) c.args.place.scope c.args.place.ordinal (c.at.result + 8 * c.args.place.ordinal + k) c.load_word.result) inv.seat
    (c.load_word.ensures.word c.args.place.scope c.args.place.ordinal l) c.requires.shown in record {
      seat = c.load_word.ensures.same ∙ inv.seat;
      many = length-set c.loop-field.words k c.load_word.result ∙ inv.many;
      words = λ f lf. dite (ℕ_discrete f k)
          (λ e. subst (λ (z : ℕ). IsWordOf v c.args.place.scope c.args.place.ordinal (c.at.result + 8 * c.args.place.ordinal + z) (get_or (set c.loop-field.words k c.load_word.result) z 0)) (sym e)
          (subst (IsWordOf v c.args.place.scope c.args.place.ordinal (c.at.result + 8 * c.args.place.ordinal + k)) (sym (get_or-set_same c.loop-field.words k c.load_word.result 0 (omega arith))) word))
          (λ n. subst (IsWordOf v c.args.place.scope c.args.place.ordinal (c.at.result + 8 * c.args.place.ordinal + f)) (sym (get_or-set_other c.loop-field.words k f c.load_word.result 0 n)) (inv.words f (omega arith)));
    }

pub returns-clause-row : goal.returns-clause-row
returns-clause-row c =
    let t = c.args.self.now in let v = view c.args.seat.now in let a = t.table.shared.key in let is = reads a t.bases c.args.place.scope c.at.result t.bases_are c.at.ensures in
    let about = ap (λ (b : About). base b c.args.place.scope) c.requires.table.1 in let inv = c.loop-field.invariant in let test = c.loop-field-test.false in
    c.from_words.ensures ∙ sym (row_by_fields (row_of (shown_at v c.args.place.scope).rows c.args.place.ordinal) c.loop-field.words (λ f lf. (inv.words f (omega arith)).field f lf (omega arith)))

pub returns-clause-formed : goal.returns-clause-formed
returns-clause-formed c =
    let t = c.args.self.now in let v = view c.args.seat.now in let a = t.table.shared.key in let is = reads a t.bases c.args.place.scope c.at.result t.bases_are c.at.ensures in
    let about = ap (λ (b : About). base b c.args.place.scope) c.requires.table.1 in let inv = c.loop-field.invariant in let test = c.loop-field-test.false in
    let same : row_of (shown_at v c.args.place.scope).rows c.args.place.ordinal ≡ c.from_words.result = row_by_fields (row_of (shown_at v c.args.place.scope).rows c.args.place.ordinal) c.loop-field.words (λ f lf. (inv.words f (omega arith)).field f lf (omega arith)) ∙ sym c.from_words.ensures in
    subst (λ (z : About × Row). IsWellFormed (length (texts_in z.0).names) (at_place c.args.place.scope c.args.place.ordinal) z.1) (λ i. (c.requires.table.1 i, same i)) (inv.words 0 (omega arith)).formed
