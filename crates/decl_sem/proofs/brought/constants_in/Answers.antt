use Rattle.std.specs.Prelude.{◌<◌, [], Some}
use Rattle.std.proofs.Common.{◌∙◌, arith, subst, sym}
use Rattle.m2_base.specs.States.{Frame}
use Rattle.m2_base.proofs.Kept.{Waits_after}
use Rattle.type_rules.specs.Sites.{context_of}
use Rattle.type_rules.proofs.Reading.{Reads-refl, Reads-trans}
use Rattle.decl_sem.specs.FoundConstants.{constants_left, constants_of}
use Rattle.decl_sem.specs.Pieces.{IsMaking}
use Rattle.decl_sem.proofs.FoundConstants.{few_rows, found_none, left_none, place_taken, seen_all, seen_as, seen_enough}
use Rattle.decl_sem.proofs.brought.constants_in.Goals as goal

pub loop-ordinal-init : goal.loop-ordinal-init
loop-ordinal-init g c =
    let a = g.S.Scopes.state c.args.scopes.now in
    record {
      reads = Reads-refl a;
      before = c.requires.before;
      found = found_none a.frame c.args.site.now c.args.made.now (constants_left c.args.of.scope c.ordinals_of-first.result.0 c.ordinals_of-first.result.1) c.new-found.result c.new-found.ensures.members c.new-found.ensures.names c.new-found.ensures.hidden;
    }

pub take_place-requires-clause-making : goal.take_place-requires-clause-making
take_place-requires-clause-making g c = subst (λ (f : Frame). IsMaking f c.args.site.now c.args.made.now []) (sym c.loop-ordinal.invariant.reads.keeps.frame) c.requires.making

pub take_place-requires-clause-before : goal.take_place-requires-clause-before
take_place-requires-clause-before g c = subst (λ (f : Frame). c.args.of.scope < f.setting.fills) (sym c.loop-ordinal.invariant.reads.keeps.frame) c.loop-ordinal.invariant.before

pub returns-in-DontKnowYet-clause-reads : goal.returns-in-DontKnowYet-clause-reads
returns-in-DontKnowYet-clause-reads g c = Reads-trans c.loop-ordinal.invariant.reads c.take_place.ensures.reads

pub returns-in-DontKnowYet-clause-waits : goal.returns-in-DontKnowYet-clause-waits
returns-in-DontKnowYet-clause-waits g c = Waits_after c.loop-ordinal.invariant.reads.keeps (rw c.in-DontKnowYet.is at c.in-Ok.ensures.waits)

pub returns-in-Err-clause-reads : goal.returns-in-Err-clause-reads
returns-in-Err-clause-reads g c = Reads-trans c.loop-ordinal.invariant.reads c.take_place.ensures.reads

pub returns-then-is_full-clause-reads : goal.returns-then-is_full-clause-reads
returns-then-is_full-clause-reads g c = Reads-trans c.loop-ordinal.invariant.reads c.take_place.ensures.reads

pub returns-then-is_full-clause-seen : goal.returns-then-is_full-clause-seen
returns-then-is_full-clause-seen g c =
    let f = (g.S.Scopes.state c.args.scopes.now).frame in
    let scope = c.args.of.scope in
    let next = place_taken scope c.ordinals_of-first.result.0 c.ordinals_of-first.result.1 c.loop-ordinal.ordinal c.loop-ordinal.found c.take_place.new.found c.loop-ordinal.invariant.reads.keeps.frame c.loop-ordinal-test.true
    c.loop-ordinal.invariant.found (rw c.in-Known.is at c.in-Ok.ensures.found) in
    seen_as (constants_left scope c.ordinals_of-first.result.0 c.ordinals_of-first.result.1) (λ k. constants_of k.scene (Some (c.args.of, c.args.count))) c.take_place.new.found
    (λ hand in_hand told same. sym (c.ordinals_of-first.ensures (context_of f hand c.args.site.now) (few_rows hand c.args.of.scope c.requires.making.suits told c.requires.before)))
    (seen_enough next (sym c.is_full.ensures ∙ c.if-is_full.true))

pub loop-ordinal-preserved : goal.loop-ordinal-preserved
loop-ordinal-preserved g c =
    record {
      reads = Reads-trans c.loop-ordinal.invariant.reads c.take_place.ensures.reads;
      before = c.loop-ordinal.invariant.before;
      found = place_taken c.args.of.scope c.ordinals_of-first.result.0 c.ordinals_of-first.result.1 c.loop-ordinal.ordinal c.loop-ordinal.found c.take_place.new.found c.loop-ordinal.invariant.reads.keeps.frame c.loop-ordinal-test.true
          c.loop-ordinal.invariant.found (rw c.in-Known.is at c.in-Ok.ensures.found);
    }

pub returns-clause-seen : goal.returns-clause-seen
returns-clause-seen g c =
    let f = (g.S.Scopes.state c.args.scopes.now).frame in
    let scope = c.args.of.scope in
    let past = c.loop-ordinal-test.false in
    seen_as (constants_left scope c.ordinals_of-first.result.0 c.ordinals_of-first.result.1) (λ k. constants_of k.scene (Some (c.args.of, c.args.count))) c.loop-ordinal.found
    (λ hand in_hand told same. sym (c.ordinals_of-first.ensures (context_of f hand c.args.site.now) (few_rows hand c.args.of.scope c.requires.making.suits told c.requires.before)))
    (seen_all c.loop-ordinal.invariant.found (λ hand in_hand told same. left_none scope c.loop-ordinal.ordinal c.ordinals_of-first.result.1 (context_of f hand c.args.site.now) (omega (arith, past))))
