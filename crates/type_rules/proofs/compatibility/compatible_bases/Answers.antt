use Rattle.std.proofs.Common.{◌∙◌, refl, sym}
use Rattle.m2_base.specs.Statics.Compatible.{are_compatible_bases, is_pointer as spec_pointer}
use Rattle.type_rules.specs.Scenes.{scene_of}
use Rattle.type_rules.proofs.Compatibles.{nil_before, nil_behind, told_as}
use Rattle.type_rules.proofs.Later.{stops_left, stops_right}
use Rattle.type_rules.proofs.Reading.{Reads-refl}
use Rattle.type_rules.proofs.compatibility.compatible_bases.Goals as goal

pub is_pointer-requires : goal.is_pointer-requires
is_pointer-requires g c = record { suits = c.requires.suits; there = c.requires.y }

pub is_pointer-requires-then-eq-5 : goal.is_pointer-requires-then-eq-5
is_pointer-requires-then-eq-5 g c = record { suits = c.requires.suits; there = c.requires.x }

pub eq-requires : goal.eq-requires
eq-requires g c = tt

pub eq-requires-2 : goal.eq-requires-2
eq-requires-2 g c = tt

pub eq-requires-3 : goal.eq-requires-3
eq-requires-3 g c = tt

pub eq-requires-4 : goal.eq-requires-4
eq-requires-4 g c = tt

pub eq-requires-else-is_integer_or_cardinal : goal.eq-requires-else-is_integer_or_cardinal
eq-requires-else-is_integer_or_cardinal g c = tt

pub is_integer_or_cardinal-requires : goal.is_integer_or_cardinal-requires
is_integer_or_cardinal-requires g c = tt

pub is_integer_or_cardinal-requires-then-eq-3 : goal.is_integer_or_cardinal-requires-then-eq-3
is_integer_or_cardinal-requires-then-eq-3 g c = tt

pub returns-clause-reads : goal.returns-clause-reads
returns-clause-reads g c = Reads-refl _

pub returns-clause-waits : goal.returns-clause-waits
returns-clause-waits g c = tt

pub returns-clause-stops : goal.returns-clause-stops
returns-clause-stops g c = tt

pub returns-then-eq-clause-reads : goal.returns-then-eq-clause-reads
returns-then-eq-clause-reads g c = Reads-refl _

pub returns-then-eq-clause-waits : goal.returns-then-eq-clause-waits
returns-then-eq-clause-waits g c = tt

pub returns-then-eq-clause-stops : goal.returns-then-eq-clause-stops
returns-then-eq-clause-stops g c = tt

pub returns-then-is_integer_or_cardinal-clause-reads : goal.returns-then-is_integer_or_cardinal-clause-reads
returns-then-is_integer_or_cardinal-clause-reads g c = Reads-refl _

pub returns-then-is_integer_or_cardinal-clause-waits : goal.returns-then-is_integer_or_cardinal-clause-waits
returns-then-is_integer_or_cardinal-clause-waits g c = tt

pub returns-then-is_integer_or_cardinal-clause-stops : goal.returns-then-is_integer_or_cardinal-clause-stops
returns-then-is_integer_or_cardinal-clause-stops g c = tt

pub returns-then-eq-4 : goal.returns-then-eq-4
returns-then-eq-4 g c =
    record {
      reads = c.is_pointer.ensures.reads;
      waits = c.is_pointer.ensures.waits;
      told = (let f = (g.S.Scopes.state c.args.scopes.now).frame in
          told_as c.is_pointer.result f f (λ h made. spec_pointer (scene_of h made c.args.around.now) c.args.y)
          (λ made. are_compatible_bases (scene_of f made c.args.around.now) c.args.x c.args.y) refl c.is_pointer.ensures.told
          (λ made in_hand told. nil_before (scene_of f made c.args.around.now) c.args.x c.args.y (sym c.eq.ensures ∙ c.if-eq.false) (sym c.eq-3.ensures ∙ c.if-eq-4.true)));
      stops = stops_right c.is_pointer.result (g.S.Scopes.state c.is_pointer.new.scopes) c.args.around.now c.args.x c.args.y c.is_pointer.ensures.stops;
    }

pub returns-then-eq-5 : goal.returns-then-eq-5
returns-then-eq-5 g c =
    record {
      reads = c.is_pointer-then-eq-5.ensures.reads;
      waits = c.is_pointer-then-eq-5.ensures.waits;
      told = (let f = (g.S.Scopes.state c.args.scopes.now).frame in
          told_as c.is_pointer-then-eq-5.result f f (λ h made. spec_pointer (scene_of h made c.args.around.now) c.args.x)
          (λ made. are_compatible_bases (scene_of f made c.args.around.now) c.args.x c.args.y) refl c.is_pointer-then-eq-5.ensures.told
          (λ made in_hand told. nil_behind (scene_of f made c.args.around.now) c.args.x c.args.y (sym c.eq.ensures ∙ c.if-eq.false) (sym c.eq-4.ensures ∙ c.if-eq-5.true)));
      stops = stops_left c.is_pointer-then-eq-5.result (g.S.Scopes.state c.is_pointer-then-eq-5.new.scopes) c.args.around.now c.args.x c.args.y c.is_pointer-then-eq-5.ensures.stops;
    }
