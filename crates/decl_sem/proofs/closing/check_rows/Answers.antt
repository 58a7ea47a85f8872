use Rattle.std.specs.Prelude.{◌≡◌, ◌+◌, Bool, None, Some, slice_get}
use Rattle.std.proofs.Common.{arith, subst, sym, ◌∙◌}
use Rattle.m2_base.specs.Tables.{rows_at}
use Rattle.type_rules.specs.Scenes.{rows_of, IsRowOf}
use Rattle.type_rules.specs.Sites.{context_of}
use Rattle.type_rules.proofs.Compatibles.{told_later}
use Rattle.type_rules.proofs.Later.{Suits_read}
use Rattle.type_rules.proofs.Reading.{Reads-trans, Waits_read}
use Rattle.decl_sem.specs.Closing.{AreChecked, row_implemented}
use Rattle.decl_sem.proofs.OwnRows.{AreCheckedTo, all_checked, known_told, row_checked, rows_checked}
use Rattle.m2_base.specs.States.{Frame}
use Rattle.decl_sem.proofs.closing.check_rows.Goals as goal

pub row_before-requires-clause-suits : goal.row_before-requires-clause-suits
row_before-requires-clause-suits g c = Suits_read c.loop-ordinal.invariant.reads c.requires.suits

pub returns-in-DontKnowYet-clause-reads : goal.returns-in-DontKnowYet-clause-reads
returns-in-DontKnowYet-clause-reads g c = Reads-trans c.loop-ordinal.invariant.reads c.row_before.ensures.reads

pub returns-in-DontKnowYet-clause-waits : goal.returns-in-DontKnowYet-clause-waits
returns-in-DontKnowYet-clause-waits g c = Waits_read c.loop-ordinal.invariant.reads c.in-DontKnowYet.ensures.waits

pub returns-in_default-clause-reads : goal.returns-in_default-clause-reads
returns-in_default-clause-reads g c = Reads-trans c.loop-ordinal.invariant.reads c.row_before.ensures.reads

pub returns-in_default-clause-told : goal.returns-in_default-clause-told
returns-in_default-clause-told g c =
    let f = (g.S.Scopes.state c.args.scopes.now).frame in
    let mid = (g.S.Scopes.state c.loop-ordinal.scopes).frame in
    let own = c.args.own in
    let k = c.loop-ordinal.ordinal in
    rows_checked f c.args.site.now own c.args.notes.now.diags.items c.loop-ordinal.notes.diags.items c.loop-ordinal.missing k
    (told_later f mid (λ h made. None ≡ slice_get (rows_at (rows_of h made) own) k) c.loop-ordinal.invariant.reads.keeps.frame
    (λ made in_hand told. sym c.in_default.is ∙ c.in-Known.ensures.told made in_hand told))
    c.loop-ordinal.invariant.left

pub returns-in-DontKnowYet-asked-clause-reads : goal.returns-in-DontKnowYet-asked-clause-reads
returns-in-DontKnowYet-asked-clause-reads g c =
    Reads-trans (Reads-trans c.loop-ordinal.invariant.reads c.row_before.ensures.reads) c.check_row.ensures.reads

pub returns-in-Err-clause-reads : goal.returns-in-Err-clause-reads
returns-in-Err-clause-reads g c =
    Reads-trans (Reads-trans c.loop-ordinal.invariant.reads c.row_before.ensures.reads) c.check_row.ensures.reads

pub loop-ordinal-preserved : goal.loop-ordinal-preserved
loop-ordinal-preserved g c =
    let f = (g.S.Scopes.state c.args.scopes.now).frame in
    let mid = (g.S.Scopes.state c.loop-ordinal.scopes).frame in
    let after = (g.S.Scopes.state c.row_before.new.scopes).frame in
    let s = c.args.site.now in
    let own = c.args.own in
    let k = c.loop-ordinal.ordinal in
    let row = c.in-Some.row in
    let first = c.loop-ordinal.invariant.reads in
    let second = Reads-trans first c.row_before.ensures.reads in
    let noted = c.loop-ordinal.notes.diags.items in
    let more = c.check_row.new.notes.diags.items in
    record {
      reads = Reads-trans second c.check_row.ensures.reads;
      answers = c.check_row.ensures.answers ∙ c.loop-ordinal.invariant.answers;
      left = subst (λ (b : Bool). AreCheckedTo f s own c.args.notes.now.diags.items more b (k + 1)) (sym c.either-missing.ensures)
          (row_checked f s own c.args.notes.now.diags.items noted more c.loop-ordinal.missing c.in-Known-asked.value k row
          (told_later f mid (λ h made. Some row ≡ slice_get (rows_at (rows_of h made) own) k) first.keeps.frame
          (λ made in_hand told. sym c.in-Some.is ∙ c.in-Known.ensures.told made in_hand told))
          (known_told c.check_row.result c.in-Ok.asked c.in-Known-asked.value f after
          (λ h made v. AreChecked (context_of h made s) (row_implemented (context_of h made s) (record { scope = own; ordinal = k }) row) noted more v)
          c.in-Ok.is c.in-Known-asked.is second.keeps.frame c.check_row.ensures.told)
          c.loop-ordinal.invariant.left);
    }

pub returns-clause-told : goal.returns-clause-told
returns-clause-told g c =
    all_checked (g.S.Scopes.state c.args.scopes.now).frame c.args.site.now c.args.own c.args.notes.now.diags.items c.loop-ordinal.notes.diags.items c.loop-ordinal.missing c.loop-ordinal.ordinal
    c.requires.suits c.requires.before (let h = c.loop-ordinal-test.false in omega arith) c.loop-ordinal.invariant.left

pub check_row-requires-clause-suits : goal.check_row-requires-clause-suits
check_row-requires-clause-suits g c = Suits_read (Reads-trans c.loop-ordinal.invariant.reads c.row_before.ensures.reads) c.requires.suits

pub check_row-requires-clause-row : goal.check_row-requires-clause-row
check_row-requires-clause-row g c =
    subst (λ (f : Frame). IsRowOf f (record { scope = c.args.own; ordinal = c.loop-ordinal.ordinal }) c.in-Some.row) (sym c.row_before.ensures.reads.keeps.frame)
    (rw c.in-Some.is at c.in-Known.ensures.row)
