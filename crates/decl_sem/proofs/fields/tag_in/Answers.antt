use Rattle.std.proofs.Common.{[], Ok, Err}
use Rattle.m2_base.specs.Statics.Makes.{only_gives}
use Rattle.m2_base.specs.Statics.TypeNames.{type_of_qual}
use Rattle.m2_base.specs.declared.replies.Ask.TheVariants.{DontKnowYet, Known}
use Rattle.type_rules.specs.Scenes.{IsThere}
use Rattle.decl_sem.specs.Stood.{is_no_tag}
use Rattle.decl_sem.proofs.Asking.{asked_waits, making_read, tested}
use Rattle.decl_sem.proofs.Pieces.{making_on}
use Rattle.decl_sem.proofs.Tags.{tag_found, tag_given, tag_named, tag_read, tag_stands}
use Rattle.decl_sem.proofs.Uses.{first_known}
use Rattle.decl_sem.proofs.fields.tag_in.Goals as goal

pub type_of_qual-requires-clause-suits : goal.type_of_qual-requires-clause-suits
type_of_qual-requires-clause-suits g c = c.requires.making.suits

pub stand_in-requires-clause-making : goal.stand_in-requires-clause-making
stand_in-requires-clause-making g c =
    let of = tag_found {n = c.type_of_qual.new.notes} c.args.qual c.requires.making c.small_place-of.ensures.same c.small_place-of.ensures.small (first_known (g.S.Scopes.state c.args.scopes.now) (g.S.Scopes.state c.type_of_qual.new.scopes) c.args.made.now.notes c.type_of_qual.new.notes c.args.site.now IsThere (λ k. type_of_qual k c.args.qual) c.in-Ok.is c.in-Known.is c.type_of_qual.ensures) in
    making_on {ss = []} {ts = []} tt c.requires.making of

pub stand_in-requires-clause-there : goal.stand_in-requires-clause-there
stand_in-requires-clause-there g c =
    let of = tag_found {n = c.type_of_qual.new.notes} c.args.qual c.requires.making c.small_place-of.ensures.same c.small_place-of.ensures.small (first_known (g.S.Scopes.state c.args.scopes.now) (g.S.Scopes.state c.type_of_qual.new.scopes) c.args.made.now.notes c.type_of_qual.new.notes c.args.site.now IsThere (λ k. type_of_qual k c.args.qual) c.in-Ok.is c.in-Known.is c.type_of_qual.ensures) in
    (tag_stands of).1

pub returns-in-DontKnowYet-stand_in : goal.returns-in-DontKnowYet-stand_in
returns-in-DontKnowYet-stand_in g c =
    let of = tag_found {n = c.type_of_qual.new.notes} c.args.qual c.requires.making c.small_place-of.ensures.same c.small_place-of.ensures.small (first_known (g.S.Scopes.state c.args.scopes.now) (g.S.Scopes.state c.type_of_qual.new.scopes) c.args.made.now.notes c.type_of_qual.new.notes c.args.site.now IsThere (λ k. type_of_qual k c.args.qual) c.in-Ok.is c.in-Known.is c.type_of_qual.ensures) in
    tag_named c.args.qual (Ok (DontKnowYet c.in-DontKnowYet-stand_in.head)) c.requires.making of
    (asked_waits c.in-DontKnowYet-stand_in.head c.stand_in.ensures.reads c.in-DontKnowYet-stand_in.ensures.waits)

pub returns-in-Err-keep_tag : goal.returns-in-Err-keep_tag
returns-in-Err-keep_tag g c =
    let of = tag_found {n = c.type_of_qual.new.notes} c.args.qual c.requires.making c.small_place-of.ensures.same c.small_place-of.ensures.small (first_known (g.S.Scopes.state c.args.scopes.now) (g.S.Scopes.state c.type_of_qual.new.scopes) c.args.made.now.notes c.type_of_qual.new.notes c.args.site.now IsThere (λ k. type_of_qual k c.args.qual) c.in-Ok.is c.in-Known.is c.type_of_qual.ensures) in
    let making = making_on {ss = []} {ts = []} tt c.requires.making of in
    tag_named c.args.qual (Err c.in-Err-keep_tag.memory) c.requires.making of
    (tested is_no_tag (λ b k. only_gives (tag_given c.args.qual.first.at c.small_place-of.result b k)) c.small_place-of.result (Err c.in-Err-keep_tag.memory) c.stand_in.result c.is_no_tag-wrong.result making
    c.stand_in.ensures.reads c.stand_in.ensures.waits c.stand_in.ensures.told c.in-Known-stand_in.is c.is_no_tag-wrong.ensures
    (c.in-Err-keep_tag.ensures (g.S.Scopes.state c.stand_in.new.scopes) (making_read c.stand_in.ensures.reads making) (tag_read c.stand_in.ensures.reads (tag_stands of))))

pub returns : goal.returns
returns g c =
    let of = tag_found {n = c.type_of_qual.new.notes} c.args.qual c.requires.making c.small_place-of.ensures.same c.small_place-of.ensures.small (first_known (g.S.Scopes.state c.args.scopes.now) (g.S.Scopes.state c.type_of_qual.new.scopes) c.args.made.now.notes c.type_of_qual.new.notes c.args.site.now IsThere (λ k. type_of_qual k c.args.qual) c.in-Ok.is c.in-Known.is c.type_of_qual.ensures) in
    let making = making_on {ss = []} {ts = []} tt c.requires.making of in
    tag_named c.args.qual (Ok (Known c.in-Ok-keep_tag.value)) c.requires.making of
    (tested is_no_tag (λ b k. only_gives (tag_given c.args.qual.first.at c.small_place-of.result b k)) c.small_place-of.result (Ok (Known c.in-Ok-keep_tag.value)) c.stand_in.result c.is_no_tag-wrong.result making
    c.stand_in.ensures.reads c.stand_in.ensures.waits c.stand_in.ensures.told c.in-Known-stand_in.is c.is_no_tag-wrong.ensures
    (c.in-Ok-keep_tag.ensures (g.S.Scopes.state c.stand_in.new.scopes) (making_read c.stand_in.ensures.reads making) (tag_read c.stand_in.ensures.reads (tag_stands of))))
