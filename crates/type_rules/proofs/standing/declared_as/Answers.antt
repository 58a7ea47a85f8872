use Rattle.std.proofs.Common.{inl, sym}
use Rattle.type_rules.proofs.Later.{IsRowOf_read, Suits_read, Waits_asked, meant_before, stood_before}
use Rattle.type_rules.proofs.Opaque.{declared_told, stops_behind}
use Rattle.type_rules.proofs.Reading.{Reads-trans, Reads-refl}
use Rattle.type_rules.proofs.standing.declared_as.Goals as goal

pub type_named-requires-clause-suits : goal.type_named-requires-clause-suits
type_named-requires-clause-suits g c = Suits_read c.in-Known.ensures.reads c.requires.suits

pub type_named-requires-clause-row : goal.type_named-requires-clause-row
type_named-requires-clause-row g c = IsRowOf_read c.in-Known.ensures.reads (rw c.in-Some.is at c.in-Known.ensures.row)

pub returns-in-None-clause-meant : goal.returns-in-None-clause-meant
returns-in-None-clause-meant g c made in_hand told = tt

pub returns-in-None-clause-here : goal.returns-in-None-clause-here
returns-in-None-clause-here g c = tt

pub declared-requires : goal.declared-requires
declared-requires g c = record { suits = c.requires.suits; named = c.if-name-eq0.false }

pub returns-in-DontKnowYet : goal.returns-in-DontKnowYet
returns-in-DontKnowYet g c =
    record {
      reads = c.in-DontKnowYet.ensures.reads;
      waits = c.in-DontKnowYet.ensures.waits;
      told = λ made in_hand told. tt;
      meant = λ made in_hand told. tt;
      here = tt;
      stops = inl c.in-DontKnowYet.ensures.stops;
    }

pub returns-in-None-clause-reads : goal.returns-in-None-clause-reads
returns-in-None-clause-reads g c = c.in-Known.ensures.reads

pub returns-in-None-clause-waits : goal.returns-in-None-clause-waits
returns-in-None-clause-waits g c = tt

pub returns-in-None-clause-stops : goal.returns-in-None-clause-stops
returns-in-None-clause-stops g c = tt

pub returns-then-name-eq0-clause-reads : goal.returns-then-name-eq0-clause-reads
returns-then-name-eq0-clause-reads g c = Reads-refl _

pub returns-then-name-eq0-clause-waits : goal.returns-then-name-eq0-clause-waits
returns-then-name-eq0-clause-waits g c = tt

pub returns-then-name-eq0-clause-meant : goal.returns-then-name-eq0-clause-meant
returns-then-name-eq0-clause-meant g c made in_hand told = tt

pub returns-then-name-eq0-clause-here : goal.returns-then-name-eq0-clause-here
returns-then-name-eq0-clause-here g c = tt

pub returns-then-name-eq0-clause-stops : goal.returns-then-name-eq0-clause-stops
returns-then-name-eq0-clause-stops g c = tt

pub returns-in-Some : goal.returns-in-Some
returns-in-Some g c =
    record {
      reads = Reads-trans c.in-Known.ensures.reads c.type_named.ensures.reads;
      waits = Waits_asked c.type_named.result (g.S.Scopes.state c.type_named.new.scopes) c.in-Known.ensures.reads c.type_named.ensures.waits;
      told = declared_told c.type_named.result (g.S.Scopes.state c.args.scopes.now).frame (g.S.Scopes.state c.declared.new.scopes).frame c.args.around.now c.args.name c.in-Some.place c.in-Some.row
          c.in-Known.ensures.reads.keeps.frame c.if-name-eq0.false (λ made in_hand told. rw c.in-Some.is at (c.in-Known.ensures.told made in_hand told)) c.type_named.ensures.told;
      meant = meant_before c.type_named.result _ _ c.args.around.now c.in-Known.ensures.reads.keeps.frame c.type_named.ensures.meant;
      here = stood_before c.type_named.result _ _ c.in-Known.ensures.reads.keeps.frame c.type_named.ensures.here;
      stops = stops_behind c.type_named.result (g.S.Scopes.state c.type_named.new.scopes) c.args.around.now.module c.args.name c.in-Some.place c.in-Some.row
          (rw (sym c.type_named.ensures.looks) at (rw c.in-Some.is at c.in-Known.ensures.found)) c.type_named.ensures.stops;
    }
