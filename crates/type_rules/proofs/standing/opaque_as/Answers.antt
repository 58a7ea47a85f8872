use Rattle.std.proofs.Common.{◌≡◌, inl, ◌≤◌, ◌^◌, ◌+◌, Some, rules}
use Rattle.type_rules.proofs.Opaque.{opaque_last, opaque_stops, opaque_told}
use Rattle.type_rules.proofs.Later.{Suits_read, Waits_asked, meant_before, stood_before}
use Rattle.type_rules.proofs.Reading.{Reads-trans, Reads-refl}
use Rattle.type_rules.proofs.standing.opaque_as.Goals as goal

pub row_at-requires-clause-suits : goal.row_at-requires-clause-suits
row_at-requires-clause-suits g c = c.requires.suits

pub declared_as-requires : goal.declared_as-requires
declared_as-requires g c = record { suits = Suits_read c.in-Known.ensures.reads c.requires.suits }

pub returns : goal.returns
returns g c =
    record {
      reads = Reads-trans c.in-Known.ensures.reads c.declared_as.ensures.reads;
      waits = Waits_asked c.declared_as.result (g.S.Scopes.state c.declared_as.new.scopes) c.in-Known.ensures.reads c.declared_as.ensures.waits;
      told = (let own : c.args.around.now.own ≡ Some c.args.of.scope = search rules in
          let next : c.in-Some.ordinal ≡ c.args.of.ordinal + 1 = search rules in
          opaque_told c.declared_as.result _ _ c.args.around.now c.args.of c.in-Known.value c.in-Known.ensures.reads.keeps.frame own (rw next at c.in-Known.ensures.told) c.declared_as.ensures.told);
      meant = meant_before c.declared_as.result _ _ c.args.around.now c.in-Known.ensures.reads.keeps.frame c.declared_as.ensures.meant;
      here = stood_before c.declared_as.result _ _ c.in-Known.ensures.reads.keeps.frame c.declared_as.ensures.here;
      stops = (let own : c.args.around.now.own ≡ Some c.args.of.scope = search rules in
          opaque_stops c.declared_as.result (g.S.Scopes.state c.declared_as.new.scopes) c.args.around.now c.args.of c.in-Known.value.name own c.declared_as.ensures.stops);
    }

pub returns-in-DontKnowYet : goal.returns-in-DontKnowYet
returns-in-DontKnowYet g c =
    record {
      reads = c.in-DontKnowYet.ensures.reads;
      waits = c.in-DontKnowYet.ensures.waits;
      told = λ made in_hand told. tt;
      meant = λ made in_hand told. tt;
      here = tt;
      stops = (let own : c.args.around.now.own ≡ Some c.args.of.scope = search rules in
          let next : c.in-Some.ordinal ≡ c.args.of.ordinal + 1 = search rules in
          record { own = own; stops = inl (c.in-DontKnowYet.ensures.of, rw next at c.in-DontKnowYet.ensures.stops) });
    }

pub returns-then-ne-clause-reads : goal.returns-then-ne-clause-reads
returns-then-ne-clause-reads g c = Reads-refl _

pub returns-then-ne-clause-waits : goal.returns-then-ne-clause-waits
returns-then-ne-clause-waits g c = tt

pub returns-then-ne-clause-meant : goal.returns-then-ne-clause-meant
returns-then-ne-clause-meant g c made in_hand told = tt

pub returns-then-ne-clause-here : goal.returns-then-ne-clause-here
returns-then-ne-clause-here g c = tt

pub returns-then-ne-clause-stops : goal.returns-then-ne-clause-stops
returns-then-ne-clause-stops g c = tt

pub returns-in_default : goal.returns-in_default
returns-in_default g c =
    record {
      reads = Reads-refl _;
      waits = tt;
      told = λ made in_hand told. (let own : c.args.around.now.own ≡ Some c.args.of.scope = search rules in
          let large : 2 ^ 32 ≤ c.args.of.ordinal + 1 = search rules in
          opaque_last _ made c.args.around.now c.args.of c.requires.suits told own large);
      meant = λ made in_hand told. tt;
      here = tt;
      stops = tt;
    }
