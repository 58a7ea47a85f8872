use Rattle.std.specs.Prelude.{◌≡◌, None, Some, slice_get}
use Rattle.std.proofs.Common.{arith, sym, ◌∙◌}
use Rattle.m2_base.specs.Rows.{row_meaning}
use Rattle.m2_base.specs.Statics.BlockRows.{cell_after as spec_after}
use Rattle.m2_base.specs.Tables.{rows_at}
use Rattle.type_rules.specs.Scenes.{rows_of, scene_of}
use Rattle.type_rules.proofs.Compatibles.{told_later}
use Rattle.type_rules.proofs.Later.{Suits_read}
use Rattle.type_rules.proofs.Reading.{Reads-trans, Waits_read}
use Rattle.decl_sem.proofs.OwnRows.{cells_ended, cells_full, cells_passed}
use Rattle.decl_sem.proofs.first_cells.cell_behind.Goals as goal

pub row_before-requires-clause-suits : goal.row_before-requires-clause-suits
row_before-requires-clause-suits g c = Suits_read c.loop-ordinal.invariant.reads c.requires.suits

pub cell_after-requires-clause-suits : goal.cell_after-requires-clause-suits
cell_after-requires-clause-suits g c = Suits_read (Reads-trans c.loop-ordinal.invariant.reads c.row_before.ensures.reads) c.requires.suits

pub returns-in-DontKnowYet-clause-reads : goal.returns-in-DontKnowYet-clause-reads
returns-in-DontKnowYet-clause-reads g c = Reads-trans c.loop-ordinal.invariant.reads c.row_before.ensures.reads

pub returns-in-DontKnowYet-clause-waits : goal.returns-in-DontKnowYet-clause-waits
returns-in-DontKnowYet-clause-waits g c = Waits_read c.loop-ordinal.invariant.reads c.in-DontKnowYet.ensures.waits

pub returns-in_default-clause-reads : goal.returns-in_default-clause-reads
returns-in_default-clause-reads g c = Reads-trans c.loop-ordinal.invariant.reads c.row_before.ensures.reads

pub returns-in-DontKnowYet-cell_after-clause-waits : goal.returns-in-DontKnowYet-cell_after-clause-waits
returns-in-DontKnowYet-cell_after-clause-waits g c = Waits_read (Reads-trans c.loop-ordinal.invariant.reads c.row_before.ensures.reads) c.in-DontKnowYet-cell_after.ensures.waits

pub returns-in_default-clause-told : goal.returns-in_default-clause-told
returns-in_default-clause-told g c =
    let f = (g.S.Scopes.state c.args.scopes.now).frame in
    let mid = (g.S.Scopes.state c.loop-ordinal.scopes).frame in
    let own = c.args.own in
    let k = c.loop-ordinal.ordinal in
    cells_ended f c.args.around.now own k c.loop-ordinal.cell
    (told_later f mid (λ h made. None ≡ slice_get (rows_at (rows_of h made) own) k) c.loop-ordinal.invariant.reads.keeps.frame
    (λ made in_hand told. sym c.in_default.is ∙ c.in-Known.ensures.told made in_hand told))
    c.loop-ordinal.invariant.left

pub loop-ordinal-preserved : goal.loop-ordinal-preserved
loop-ordinal-preserved g c =
    let f = (g.S.Scopes.state c.args.scopes.now).frame in
    let mid = (g.S.Scopes.state c.loop-ordinal.scopes).frame in
    let own = c.args.own in
    let k = c.loop-ordinal.ordinal in
    let first = c.loop-ordinal.invariant.reads in
    let second = Reads-trans first c.row_before.ensures.reads in
    record {
      reads = Reads-trans second c.cell_after.ensures.reads;
      few = c.in-Known-cell_after.ensures.cell;
      left = cells_passed f c.args.around.now own k c.loop-ordinal.cell c.in-Known-cell_after.value c.in-Some.row
          (told_later f mid (λ h made. Some c.in-Some.row ≡ slice_get (rows_at (rows_of h made) own) k) first.keeps.frame
          (λ made in_hand told. sym c.in-Some.is ∙ c.in-Known.ensures.told made in_hand told))
          (told_later f (g.S.Scopes.state c.row_before.new.scopes).frame (λ h made. c.in-Known-cell_after.value ≡ spec_after (scene_of h made c.args.around.now) c.loop-ordinal.cell (row_meaning c.in-Some.row))
          second.keeps.frame c.in-Known-cell_after.ensures.told)
          c.loop-ordinal.invariant.left;
    }

pub returns-clause-told : goal.returns-clause-told
returns-clause-told g c =
    cells_full (g.S.Scopes.state c.args.scopes.now).frame c.args.around.now c.args.own c.loop-ordinal.ordinal c.loop-ordinal.cell c.requires.suits c.requires.before
    (let h = c.loop-ordinal-test.false in omega arith) c.loop-ordinal.invariant.left

pub returns-in-DontKnowYet-cell_after-clause-reads : goal.returns-in-DontKnowYet-cell_after-clause-reads
returns-in-DontKnowYet-cell_after-clause-reads g c =
    Reads-trans (Reads-trans c.loop-ordinal.invariant.reads c.row_before.ensures.reads) c.cell_after.ensures.reads
