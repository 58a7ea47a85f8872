use Rattle.std.proofs.Common.{◌≡◌, ◌∙◌, ap, inl, inr, sym}
use Rattle.m2_base.specs.Statics.Types.{meaning_at as spec_meaning}
use Rattle.type_rules.specs.Scenes.{scene_of}
use Rattle.type_rules.specs.Standing.{found_or}
use Rattle.type_rules.proofs.Compatibles.{told_later}
use Rattle.type_rules.proofs.Later.{IsStoodHere_before, IsThere_read, Suits_read}
use Rattle.type_rules.proofs.Opaque.{opaque_stands, plain_stands}
use Rattle.type_rules.proofs.Reading.{Reads-trans, Waits_read}
use Rattle.type_rules.proofs.standing.stand.Goals as goal

pub opaque_as-requires : goal.opaque_as-requires
opaque_as-requires g c = record { suits = Suits_read c.in-Known.ensures.reads c.requires.suits; there = IsThere_read c.in-Known.ensures.reads c.requires.there }

pub returns-in-DontKnowYet-opaque_as : goal.returns-in-DontKnowYet-opaque_as
returns-in-DontKnowYet-opaque_as g c =
    let e = c.in-DontKnowYet-opaque_as.ensures in
    record {
      reads = Reads-trans c.in-Known.ensures.reads e.reads;
      waits = Waits_read c.in-Known.ensures.reads e.waits;
      told = λ made in_hand told. tt;
      kind = λ made in_hand told. tt;
      there = tt;
      said = tt;
      stops = inr e.stops;
    }

pub returns-in-Some : goal.returns-in-Some
returns-in-Some g c =
    let old = (g.S.Scopes.state c.args.scopes.now).frame in
    let mid = (g.S.Scopes.state c.meaning_at.new.scopes).frame in
    let a = c.args.around.now in
    let of = c.args.of in
    let reads = c.in-Known.ensures.reads in
    let stood = c.in-Some.stood in
    let e = c.in-Known-opaque_as.ensures in
    let here = IsStoodHere_before reads (rw c.in-Some.is at e.here) in
    let told_here = opaque_stands old mid a of c.in-Known.value c.in-Known-opaque_as.value reads.keeps.frame c.in-Opaque.is c.in-Known.ensures.told e.told in
    record {
      reads = Reads-trans reads e.reads;
      waits = tt;
      told = λ made in_hand told. sym (ap (found_or of) c.in-Some.is) ∙ told_here made in_hand told;
      kind = λ made in_hand told. told_later old mid (λ f held. stood.1 ≡ spec_meaning (scene_of f held a) stood.0) reads.keeps.frame (λ m i t. rw c.in-Some.is at (e.meant m i t)) made in_hand told
          ∙ ap (spec_meaning (scene_of old made a)) (sym (ap (found_or of) c.in-Some.is) ∙ told_here made in_hand told);
      there = here.there;
      said = here.said;
      stops = tt;
    }

pub returns-in-None : goal.returns-in-None
returns-in-None g c =
    let old = (g.S.Scopes.state c.args.scopes.now).frame in
    let mid = (g.S.Scopes.state c.meaning_at.new.scopes).frame in
    let a = c.args.around.now in
    let of = c.args.of in
    let reads = c.in-Known.ensures.reads in
    let e = c.in-Known-opaque_as.ensures in
    let told_here = opaque_stands old mid a of c.in-Known.value c.in-Known-opaque_as.value reads.keeps.frame c.in-Opaque.is c.in-Known.ensures.told e.told in
    record {
      reads = Reads-trans reads e.reads;
      waits = tt;
      told = λ made in_hand told. sym (ap (found_or of) c.in-None.is) ∙ told_here made in_hand told;
      kind = λ made in_hand told. sym c.in-Opaque.is ∙ c.in-Known.ensures.told made in_hand told
          ∙ ap (spec_meaning (scene_of old made a)) (sym (ap (found_or of) c.in-None.is) ∙ told_here made in_hand told);
      there = c.requires.there;
      said = rw c.in-Opaque.is at c.in-Known.ensures.said;
      stops = tt;
    }

pub returns-in_default : goal.returns-in_default
returns-in_default g c =
    let old = (g.S.Scopes.state c.args.scopes.now).frame in
    let e = c.in-Known.ensures in
    let stands = plain_stands old c.args.around.now c.args.of c.in-Known.value c.in_default.not-Opaque e.told in
    record {
      reads = e.reads;
      waits = tt;
      told = stands;
      kind = λ made in_hand told. e.told made in_hand told ∙ ap (spec_meaning (scene_of old made c.args.around.now)) (stands made in_hand told);
      there = c.requires.there;
      said = e.said;
      stops = tt;
    }

pub meaning_at-requires : goal.meaning_at-requires
meaning_at-requires g c = record { suits = c.requires.suits; there = c.requires.there }

pub returns-in-DontKnowYet : goal.returns-in-DontKnowYet
returns-in-DontKnowYet g c =
    record {
      reads = c.in-DontKnowYet.ensures.reads;
      waits = c.in-DontKnowYet.ensures.waits;
      told = λ made in_hand told. tt;
      kind = λ made in_hand told. tt;
      there = tt;
      said = tt;
      stops = inl (c.in-DontKnowYet.ensures.of, c.in-DontKnowYet.ensures.stops);
    }
