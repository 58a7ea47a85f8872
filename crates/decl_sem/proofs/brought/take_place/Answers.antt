use Rattle.std.specs.Prelude.{None, Some, option_map}
use Rattle.std.specs.Prelude.{[]}
use Rattle.std.proofs.Common.{ap, subst, sym}
use Rattle.m2_base.specs.States.{Frame}
use Rattle.type_rules.proofs.Reading.{Reads-trans}
use Rattle.decl_sem.specs.FoundConstants.{IsMember, member_view}
use Rattle.decl_sem.specs.Pieces.{IsMaking}
use Rattle.decl_sem.proofs.FoundConstants.{place_passed, taken_at}
use Rattle.decl_sem.proofs.brought.take_place.Goals as goal

pub returns-clause-reads : goal.returns-clause-reads
returns-clause-reads g c = Reads-trans c.constant_at.ensures.reads c.take_member.ensures.reads

pub take_member-requires-clause-making : goal.take_member-requires-clause-making
take_member-requires-clause-making g c = subst (λ (f : Frame). IsMaking f c.args.site.now c.args.made.now []) (sym c.in-Known.ensures.reads.keeps.frame) c.requires.making

pub take_member-requires-clause-member : goal.take_member-requires-clause-member
take_member-requires-clause-member g c = subst (λ (f : Frame). IsMember f c.in-Some.member) (sym c.in-Known.ensures.reads.keeps.frame) (rw c.in-Some.is at c.in-Known.ensures.member)

pub returns-in_default-clause-found : goal.returns-in_default-clause-found
returns-in_default-clause-found g c all rest found =
    place_passed c.args.place (option_map member_view c.in-Known.value) c.args.found.now (ap (option_map member_view) c.in_default.is) (λ hand in_hand told same. c.in-Known.ensures.told hand in_hand told) found

pub returns-clause-found : goal.returns-clause-found
returns-clause-found g c =
    taken_at c.args.site.now c.args.made.now c.take_member.result c.args.place (option_map member_view c.in-Known.value) (member_view c.in-Some.member) c.args.found.now c.take_member.new.found c.in-Known.ensures.reads.keeps.frame
    (ap (option_map member_view) c.in-Some.is) (λ hand in_hand told same. c.in-Known.ensures.told hand in_hand told) c.take_member.ensures.found
