use Rattle.std.proofs.Common.{◌<◌, sym, ap, subst, arith}
use Rattle.scope_table.specs.Rule.{scopes, base, mid, width, times}
use Rattle.scope_table.specs.Seats.{view}
use Rattle.scope_table.specs.declared.view.About.{About}
use Rattle.scope_table.proofs.Cells.{reads_mid, cell_within, loads_cell}
use Rattle.scope_table.proofs.Steps.{has_one}
use Rattle.scope_table.proofs.table.ScopeTable.load_cell.Goals as goal

pub load-word-requires : goal.load-word-requires
load-word-requires c =
    let t = c.args.self.now in let a = t.table.shared.key in let is = reads_mid a t.mids c.args.scope c.at.result t.mids_are c.at.ensures in
    let inside = cell_within a c.args.scope c.args.cell t.table.shared.table_id.words t.laid c.requires.scope t.wide c.requires.cell in (c.requires.table.0, omega arith, loads_cell _ _ _ _ _)

pub overflow_cast-result : goal.overflow_cast-result
overflow_cast-result c =
    let t = c.args.self.now in let v = view c.args.seat.now in let a = t.table.shared.key in let about = c.requires.table.1 in let is = reads_mid a t.mids c.args.scope c.at.result t.mids_are c.at.ensures in
    let l : c.args.scope < scopes v.about = subst (λ (b : About). c.args.scope < scopes b) (sym about) c.requires.scope in let lc : c.args.cell < width v.about c.args.scope = subst (λ (b : About). c.args.cell < width b c.args.scope) (sym about) c.requires.cell in
    let mids = ap (λ (b : About). mid b c.args.scope) about in let bases = ap (λ (b : About). base b c.args.scope) about in
    let cell = c.load-word.ensures.2.1 c.args.scope c.args.cell l lc (omega arith) in let o = cell.ordinal in let few = t.few c.args.scope c.requires.scope in let narrow = t.narrow c.args.scope c.requires.scope in omega arith

pub returns-else-word-eq0-clause-mine : goal.returns-else-word-eq0-clause-mine
returns-else-word-eq0-clause-mine c own =
    let t = c.args.self.now in let st = c.args.seat.now in let v = view st in let a = t.table.shared.key in let about = c.requires.table.1 in let is = reads_mid a t.mids c.args.scope c.at.result t.mids_are c.at.ensures in
    let l : c.args.scope < scopes v.about = subst (λ (b : About). c.args.scope < scopes b) (sym about) c.requires.scope in let lc : c.args.cell < width v.about c.args.scope = subst (λ (b : About). c.args.cell < width b c.args.scope) (sym about) c.requires.cell in
    let mids = ap (λ (b : About). mid b c.args.scope) about in let has : 0 < times c.args.scope v.rights = subst (λ z. 0 < times z v.rights) (sym own) (has_one st.scope v st.seated.mine) in
    let cell = c.load-word.ensures.2.1 c.args.scope c.args.cell l lc (omega arith) in let mine = cell.mine has in let some = c.if-word-eq0.false in omega arith
