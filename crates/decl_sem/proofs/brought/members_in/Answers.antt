use Rattle.std.specs.Prelude.{[], Some}
use Rattle.std.proofs.Common.{◌∙◌, ◌<◌, subst, sym}
use Rattle.m2_base.specs.States.{Frame}
use Rattle.m2_base.specs.Statics.ImportedConstants.{members_of}
use Rattle.type_rules.proofs.Reading.{Reads-trans}
use Rattle.decl_sem.specs.FoundConstants.{constants_of}
use Rattle.decl_sem.specs.Pieces.{IsMaking}
use Rattle.decl_sem.proofs.FoundConstants.{found_none, seen_all, seen_known}
use Rattle.decl_sem.proofs.brought.members_in.Goals as goal

pub constants_in-requires : goal.constants_in-requires
constants_in-requires g c =
    let same = c.in-Known.ensures.reads.keeps.frame in
    record {
      making = subst (λ (f : Frame). IsMaking f c.args.site.now c.args.made.now []) (sym same) c.requires.making;
      before = subst (λ (f : Frame). c.in-Some.of.scope < f.setting.fills) (sym same) (rw c.in-Some.is at c.in-Known.ensures.before);
    }

pub returns-in_default-clause-seen : goal.returns-in_default-clause-seen
returns-in_default-clause-seen g c =
    let f = (g.S.Scopes.state c.args.scopes.now).frame in
    seen_all (found_none f c.args.site.now c.args.made.now (λ k. members_of k.scene c.args.entry) c.new.result c.new.ensures.members c.new.ensures.names c.new.ensures.hidden)
    (λ hand in_hand told same. rw c.in_default.is at (c.in-Known.ensures.told hand in_hand told))

pub returns-clause-seen : goal.returns-clause-seen
returns-clause-seen g c =
    seen_known c.args.site.now c.args.made.now c.constants_in.result (λ k. constants_of k.scene (Some (c.in-Some.of, c.in-Some.count))) (λ k. members_of k.scene c.args.entry) c.in-Known.ensures.reads.keeps.frame
    (λ hand in_hand told same. sym (rw c.in-Some.is at (c.in-Known.ensures.told hand in_hand told))) c.constants_in.ensures.seen

pub returns-clause-reads : goal.returns-clause-reads
returns-clause-reads g c = Reads-trans c.in-Known.ensures.reads c.constants_in.ensures.reads
