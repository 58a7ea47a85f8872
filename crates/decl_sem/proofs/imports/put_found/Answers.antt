use Rattle.std.proofs.Common.{◌∙◌, refl, sym}
use Rattle.m2_base.proofs.Kept.{Works-notes}
use Rattle.decl_sem.specs.Brought.{all_names, brings_new}
use Rattle.decl_sem.specs.FoundConstants.{member_view}
use Rattle.decl_sem.specs.Pieces.{IsAny}
use Rattle.decl_sem.proofs.BroughtRows.{found_put, found_unmade, none_put}
use Rattle.decl_sem.proofs.imports.put_found.Goals as goal

pub returns-in-Err : goal.returns-in-Err
returns-in-Err c a making new = found_unmade c.args.at c.args.found.now a c.in-Err.memory c.refuse.ensures.answers c.refuse.ensures.diags refl

pub returns-then-is_full : goal.returns-then-is_full
returns-then-is_full c a making new = none_put c.args.at c.args.found.now a making new refl c.refuse.ensures.answers c.in-Ok.ensures.noted refl (sym c.is_full.ensures ∙ c.if-is_full.true) c.new.result.items c.new.ensures.items

pub returns-in-Err-note_hidden : goal.returns-in-Err-note_hidden
returns-in-Err-note_hidden c a making new = found_unmade c.args.at c.args.found.now a c.in-Err-note_hidden.memory c.note_hidden.ensures.answers c.note_hidden.ensures.diags refl

pub returns : goal.returns
returns c a making new =
    found_put c.args.at c.args.found.now a making new c.put_members.result (rw c.deref.ensures.value at c.put_members.ensures.names) (rw c.deref.ensures.value at c.put_members.ensures.rows)
    c.put_members.ensures.notes c.note_hidden.ensures.answers c.in-Ok-note_hidden.ensures.noted c.note_hidden.ensures.diags c.put_members.ensures.first (sym c.is_full.ensures ∙ c.if-is_full.false) refl refl
