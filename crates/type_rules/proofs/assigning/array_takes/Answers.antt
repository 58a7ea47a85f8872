use Rattle.std.proofs.Common.{◌∙◌, sym, ap, Fits, rules, w32}
use Rattle.m2_base.specs.Statics.Assignable.{takes_string as spec_takes_string}
use Rattle.m2_base.specs.Statics.Types.{kind_of}
use Rattle.type_rules.specs.Assigning.{array_takes}
use Rattle.type_rules.specs.Scenes.{scene_of}
use Rattle.type_rules.proofs.Compatibles.{told_as}
use Rattle.type_rules.proofs.Later.{Suits_read, Waits_asked, IsThere_before, IsThere_read}
use Rattle.type_rules.proofs.Reading.{Reads-trans}
use Rattle.type_rules.proofs.Otherwise.{other_string}
use Rattle.type_rules.proofs.assigning.array_takes.Goals as goal

pub takes_string-requires-clause-suits : goal.takes_string-requires-clause-suits
takes_string-requires-clause-suits g c = Suits_read c.in-Known.ensures.reads c.requires.suits

pub returns-in-Array-clause-reads : goal.returns-in-Array-clause-reads
returns-in-Array-clause-reads g c = Reads-trans c.in-Known.ensures.reads c.takes_string.ensures.reads

pub returns-in-Array-clause-waits : goal.returns-in-Array-clause-waits
returns-in-Array-clause-waits g c = Waits_asked c.takes_string.result (g.S.Scopes.state c.takes_string.new.scopes) c.in-Known.ensures.reads c.takes_string.ensures.waits

pub returns-in-Array-clause-told : goal.returns-in-Array-clause-told
returns-in-Array-clause-told g c =
    let f = (g.S.Scopes.state c.args.scopes.now).frame in
    told_as c.takes_string.result f (g.S.Scopes.state c.stand.new.scopes).frame (λ h made. array_takes (scene_of h made c.args.around.now) c.args.length c.in-Array.index c.in-Array.of)
    (λ made. spec_takes_string (scene_of f made c.args.around.now) c.args.length (kind_of (scene_of f made c.args.around.now) c.args.to)) c.in-Known.ensures.reads.keeps.frame c.takes_string.ensures.told
    (λ made in_hand told. ap (spec_takes_string (scene_of f made c.args.around.now) c.args.length) (sym c.in-Array.is ∙ c.in-Known.ensures.kind made in_hand told))

pub returns-in-DontKnowYet : goal.returns-in-DontKnowYet
returns-in-DontKnowYet g c =
    record {
      reads = c.in-DontKnowYet.ensures.reads;
      waits = c.in-DontKnowYet.ensures.waits;
      told = λ made in_hand told. tt;
    }

pub returns-in_default : goal.returns-in_default
returns-in_default g c =
    record {
      reads = c.in-Known.ensures.reads;
      waits = tt;
      told = λ made in_hand told. other_string (scene_of (g.S.Scopes.state c.args.scopes.now).frame made c.args.around.now) c.args.length c.in-Known.value.1 c.in_default.not-Array ∙ ap (spec_takes_string (scene_of (g.S.Scopes.state c.args.scopes.now).frame made c.args.around.now) c.args.length) (c.in-Known.ensures.kind made in_hand told);
    }

pub stand-requires : goal.stand-requires
stand-requires g c = record { suits = c.requires.suits; there = c.requires.to }

pub takes_string-requires-clause-index : goal.takes_string-requires-clause-index
takes_string-requires-clause-index g c =
    let o : Fits w32 c.in-Known.value.0.ordinal = search rules in
    let fits = (rw c.in-Array.is at c.in-Known.ensures.said.fits) in
    IsThere_read c.in-Known.ensures.reads (IsThere_before _ c.in-Known.value.0 c.in-Array.index o.fits c.in-Known.ensures.there fits.0)

pub takes_string-requires-clause-of : goal.takes_string-requires-clause-of
takes_string-requires-clause-of g c =
    let o : Fits w32 c.in-Known.value.0.ordinal = search rules in
    let fits = (rw c.in-Array.is at c.in-Known.ensures.said.fits) in
    IsThere_read c.in-Known.ensures.reads (IsThere_before _ c.in-Known.value.0 c.in-Array.of o.fits c.in-Known.ensures.there fits.1)
