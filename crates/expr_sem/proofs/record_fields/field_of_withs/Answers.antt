use Rattle.std.proofs.Common.{◌∙◌, List, None, Some, ap, refl, sym}
use Rattle.std.proofs.lemmas.List.{drop_all}
use Rattle.type_rules.specs.Scenes.{scene_of}
use Rattle.type_rules.proofs.Later.{Suits_read}
use Rattle.type_rules.proofs.Reading.{Reads-refl, Reads-trans, Waits_read}
use Rattle.expr_sem.specs.Codings.{with_types}
use Rattle.expr_sem.specs.Selections.{with_number}
use Rattle.expr_sem.specs.declared.pieces.With.{With}
use Rattle.expr_sem.proofs.Selecting.{asked_before, with_step}
use Rattle.expr_sem.proofs.record_fields.field_of_withs.Goals as goal

pub loop-number-init : goal.loop-number-init
loop-number-init g c = record { reads = Reads-refl _; left = λ made in_hand told. refl }

pub field_of-requires-clause-suits : goal.field_of-requires-clause-suits
field_of-requires-clause-suits g c = Suits_read c.loop-number.invariant.reads c.requires.suits

pub returns-in-DontKnowYet-clause-reads : goal.returns-in-DontKnowYet-clause-reads
returns-in-DontKnowYet-clause-reads g c = Reads-trans c.loop-number.invariant.reads c.in-DontKnowYet.ensures.reads

pub returns-in-DontKnowYet-clause-waits : goal.returns-in-DontKnowYet-clause-waits
returns-in-DontKnowYet-clause-waits g c = Waits_read c.loop-number.invariant.reads c.in-DontKnowYet.ensures.waits

pub returns-in-Some-clause-reads : goal.returns-in-Some-clause-reads
returns-in-Some-clause-reads g c = Reads-trans c.loop-number.invariant.reads c.field_of.ensures.reads

pub returns-in-Some-clause-told : goal.returns-in-Some-clause-told
returns-in-Some-clause-told g c made in_hand told =
    let f = (g.S.Scopes.state c.args.scopes.now).frame in
    let h = (g.S.Scopes.state c.loop-number.scopes).frame in
    let a = c.args.around.now in
    let k = c.loop-number.number in
    let asked = asked_before f h a _ c.args.name c.in-Known.value c.loop-number.invariant.reads.keeps.frame c.in-Known.ensures.told in
    with_step (scene_of f made a) k c.args.withs.now _ c.args.name (Some c.in-Some.field) c.loop-number-test.true (sym c.in-Some.is ∙ asked made in_hand told)
    ∙ c.loop-number.invariant.left made in_hand told

pub loop-number-preserved : goal.loop-number-preserved
loop-number-preserved g c =
    let f = (g.S.Scopes.state c.args.scopes.now).frame in
    let h = (g.S.Scopes.state c.loop-number.scopes).frame in
    let a = c.args.around.now in
    let k = c.loop-number.number in
    let asked = asked_before f h a _ c.args.name c.in-Known.value c.loop-number.invariant.reads.keeps.frame c.in-Known.ensures.told in
    record {
      reads = Reads-trans c.loop-number.invariant.reads c.field_of.ensures.reads;
      left = λ made in_hand told. with_step (scene_of f made a) k c.args.withs.now _ c.args.name None c.loop-number-test.true (sym c.in_default.is ∙ asked made in_hand told)
          ∙ c.loop-number.invariant.left made in_hand told;
    }

pub returns-clause-reads : goal.returns-clause-reads
returns-clause-reads g c = c.loop-number.invariant.reads

pub returns-clause-told : goal.returns-clause-told
returns-clause-told g c made in_hand told =
    let scene = scene_of (g.S.Scopes.state c.args.scopes.now).frame made c.args.around.now in
    let k = c.loop-number.number in
    sym (ap (λ (l : List With). with_number scene k (with_types l) c.args.name) (drop_all k c.args.withs.now c.loop-number-test.false)) ∙ c.loop-number.invariant.left made in_hand told

pub returns-in-DontKnowYet-clause-told : goal.returns-in-DontKnowYet-clause-told
returns-in-DontKnowYet-clause-told g c made in_hand told = tt

pub returns-in-DontKnowYet-clause-field : goal.returns-in-DontKnowYet-clause-field
returns-in-DontKnowYet-clause-field g c = tt

pub returns-in-Some-clause-waits : goal.returns-in-Some-clause-waits
returns-in-Some-clause-waits g c = tt

pub returns-clause-waits : goal.returns-clause-waits
returns-clause-waits g c = tt

pub returns-clause-field : goal.returns-clause-field
returns-clause-field g c = tt
