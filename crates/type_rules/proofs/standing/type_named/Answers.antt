use Rattle.std.proofs.Common.{◌∙◌, ap, refl, sym, Fits, rules, w32}
use Rattle.m2_base.specs.Statics.Types.{type_named as spec_named, unless_opaque}
use Rattle.type_rules.specs.Scenes.{scene_of}
use Rattle.type_rules.proofs.Later.{IsThere_before}
use Rattle.type_rules.proofs.Opaque.{other_named, unless_other}
use Rattle.type_rules.proofs.Reading.{Reads-refl}
use Rattle.type_rules.proofs.standing.type_named.Goals as goal

pub read_row-requires : goal.read_row-requires
read_row-requires g c = c.requires.row.said.small

pub returns-in_default : goal.returns-in_default
returns-in_default g c =
    record {
      reads = Reads-refl _;
      waits = tt;
      told = λ made in_hand told of. (let scene = scene_of (g.S.Scopes.state c.args.scopes.now).frame made c.args.around.now in
          other_named scene of c.read_row.result c.in_default.not-TypeName ∙ ap (spec_named scene of) c.read_row.ensures);
      meant = λ made in_hand told. tt;
      here = tt;
      stops = tt;
      looks = refl;
    }

pub returns-in-Opaque-clause-meant : goal.returns-in-Opaque-clause-meant
returns-in-Opaque-clause-meant g c made in_hand told = tt

pub returns-in-Opaque-clause-here : goal.returns-in-Opaque-clause-here
returns-in-Opaque-clause-here g c = tt

pub returns-in_default-2 : goal.returns-in_default-2
returns-in_default-2 g c =
    let f = (g.S.Scopes.state c.args.scopes.now).frame in
    let e = c.in-Known.ensures in
    let named = c.in-TypeName.named in
    let leads = sym c.read_row.ensures ∙ c.in-TypeName.is in
    let o : Fits w32 c.args.place.ordinal = search rules in
    record {
      reads = e.reads;
      waits = tt;
      told = λ made in_hand told of. (let scene = scene_of f made c.args.around.now in
          unless_other of named c.in-Known.value c.in_default-2.not-Opaque ∙ ap (unless_opaque of named) (e.told made in_hand told) ∙ sym (ap (spec_named scene of) leads));
      meant = e.told;
      here = record { there = IsThere_before f c.args.place named o.fits c.requires.row.there (rw leads at c.requires.row.said.fits); said = e.said };
      stops = tt;
      looks = e.looks;
    }

pub returns-in-DontKnowYet : goal.returns-in-DontKnowYet
returns-in-DontKnowYet g c =
    record {
      reads = c.in-DontKnowYet.ensures.reads;
      waits = c.in-DontKnowYet.ensures.waits;
      told = λ made in_hand told. tt;
      meant = λ made in_hand told. tt;
      here = tt;
      stops = (let e = c.in-DontKnowYet.ensures in
          record { named = c.in-TypeName.named; leads = sym c.read_row.ensures ∙ c.in-TypeName.is; short = (e.of, e.stops) });
      looks = c.in-DontKnowYet.ensures.looks;
    }

pub returns-in-Opaque-clause-reads : goal.returns-in-Opaque-clause-reads
returns-in-Opaque-clause-reads g c = c.in-Known.ensures.reads

pub returns-in-Opaque-clause-waits : goal.returns-in-Opaque-clause-waits
returns-in-Opaque-clause-waits g c = tt

pub returns-in-Opaque-clause-stops : goal.returns-in-Opaque-clause-stops
returns-in-Opaque-clause-stops g c = tt

pub returns-in-Opaque-clause-looks : goal.returns-in-Opaque-clause-looks
returns-in-Opaque-clause-looks g c = c.in-Known.ensures.looks

pub meaning_at-requires : goal.meaning_at-requires
meaning_at-requires g c =
    let o : Fits w32 c.args.place.ordinal = search rules in
    record { suits = c.requires.suits; there = IsThere_before _ c.args.place c.in-TypeName.named o.fits c.requires.row.there (rw (sym c.read_row.ensures ∙ c.in-TypeName.is) at c.requires.row.said.fits) }
