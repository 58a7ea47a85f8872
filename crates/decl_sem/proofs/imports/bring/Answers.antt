use Rattle.std.specs.Prelude.{[], map, Ok, Err}
use Rattle.std.proofs.Common.{subst, sym}
use Rattle.m2_base.specs.States.{Frame}
use Rattle.m2_base.specs.Statics.ImportedConstants.{brought_by, members_of}
use Rattle.m2_base.specs.declared.replies.Ask.TheVariants.{Known}
use Rattle.decl_sem.specs.Brought.{all_names, brings_new}
use Rattle.decl_sem.specs.FoundConstants.{AreNewMembers, member_view}
use Rattle.decl_sem.specs.Pieces.{IsMaking}
use Rattle.decl_sem.proofs.BroughtRows.{bringing_read, places_small, room_for_brought}
use Rattle.decl_sem.proofs.imports.bring.Goals as goal

pub put_found-requires-clause-room : goal.put_found-requires-clause-room
put_found-requires-clause-room g c = room_for_brought c.requires.making

pub put_found-requires-clause-places : goal.put_found-requires-clause-places
put_found-requires-clause-places g c = let seen = rw c.in-Known.is at c.in-Ok.ensures.seen in places_small c.requires.making c.in-Known.value.members.items seen.new

pub returns-in-Err-put_found : goal.returns-in-Err-put_found
returns-in-Err-put_found g c =
    let b = g.S.Scopes.state c.members_in.new.scopes in
    let frame = c.members_in.ensures.reads.keeps.frame in
    let seen = rw c.in-Known.is at c.in-Ok.ensures.seen in
    let found = c.in-Known.value in
    bringing_read all_names (λ k. brings_new k c.args.at (map member_view found.members.items) found.hidden) (λ k. brought_by k c.args.at (members_of k.scene c.args.entry)) (Err c.in-Err-put_found.memory) c.members_in.ensures.reads
    (λ hand in_hand told same. seen.told c.args.at hand in_hand told same)
    (c.in-Err-put_found.ensures b (subst (λ (f : Frame). IsMaking f c.args.site.now c.args.made.now []) (sym frame) c.requires.making)
    (subst (λ (f : Frame). AreNewMembers f c.args.site.now c.args.made.now found.members.items) (sym frame) seen.new))

pub returns : goal.returns
returns g c =
    let b = g.S.Scopes.state c.members_in.new.scopes in
    let frame = c.members_in.ensures.reads.keeps.frame in
    let seen = rw c.in-Known.is at c.in-Ok.ensures.seen in
    let found = c.in-Known.value in
    bringing_read all_names (λ k. brings_new k c.args.at (map member_view found.members.items) found.hidden) (λ k. brought_by k c.args.at (members_of k.scene c.args.entry)) (Ok (Known c.in-Ok-put_found.value.items)) c.members_in.ensures.reads
    (λ hand in_hand told same. seen.told c.args.at hand in_hand told same)
    (c.in-Ok-put_found.ensures b (subst (λ (f : Frame). IsMaking f c.args.site.now c.args.made.now []) (sym frame) c.requires.making)
    (subst (λ (f : Frame). AreNewMembers f c.args.site.now c.args.made.now found.members.items) (sym frame) seen.new))
