use Rattle.std.proofs.Common.{◌≡◌, ◌∙◌, Bool, List, ap, arith, if◌then◌else◌, map, sym}
use Rattle.std.proofs.lemmas.List.{drop_all}
use Rattle.type_rules.specs.Scenes.{scene_of}
use Rattle.type_rules.proofs.Later.{Suits_read}
use Rattle.type_rules.proofs.Reading.{Reads-refl, Reads-trans, Waits_read}
use Rattle.expr_sem.specs.ArgumentCodes.{parameter_view}
use Rattle.block_code.specs.Calls.{cells_of_all}
use Rattle.expr_sem.specs.declared.arguments.Parameter.{Parameter}
use Rattle.expr_sem.proofs.CallCases.{cells_step, open_before}
use Rattle.expr_sem.proofs.signatures.cells_of_all.Goals as goal
use Rattle.expr_sem.proofs.signatures.cells_of_all.Goals.{then-is_open, else-is_open}

pub loop-number-preserved : goal.loop-number-preserved
loop-number-preserved g c =
    let f = (g.S.Scopes.state c.args.scopes.now).frame in
    let a = c.args.around.now in
    let at = c.loop-number in
    let asked = open_before f (g.S.Scopes.state at.scopes).frame a _ c.in-Known.value at.invariant.reads.keeps.frame c.in-Known.ensures.told in
    let own : c.if-is_open.own ≡ (if c.in-Known.value then 2 else 1) = elim c.if-is_open.branch [
      | then-is_open w ↦ w.own-is ∙ ap (λ (b : Bool). if b then 2 else 1) (sym w.if-is_open.true)
      | else-is_open w ↦ w.own-is ∙ ap (λ (b : Bool). if b then 2 else 1) (sym w.if-is_open.false)
    ] in
    record {
      reads = Reads-trans at.invariant.reads c.is_open_array.ensures.reads;
      left = λ made in_hand told.
          cells_step (scene_of f made a) c.args.params.now at.number _ c.if-is_open.own at.cells _ c.loop-number-test.true (ap (λ (b : Bool). if b then 2 else 1) (sym (asked made in_hand told)) ∙ sym own) c.in-Some.ensures.1
          ∙ at.invariant.left made in_hand told;
    }

pub loop-number-init : goal.loop-number-init
loop-number-init g c = record { reads = Reads-refl _; left = λ made in_hand told. omega arith }

pub is_open_array-requires-clause-suits : goal.is_open_array-requires-clause-suits
is_open_array-requires-clause-suits g c = Suits_read c.loop-number.invariant.reads c.requires.suits

pub returns-in-DontKnowYet-clause-reads : goal.returns-in-DontKnowYet-clause-reads
returns-in-DontKnowYet-clause-reads g c = Reads-trans c.loop-number.invariant.reads c.in-DontKnowYet.ensures.reads

pub returns-in-DontKnowYet-clause-waits : goal.returns-in-DontKnowYet-clause-waits
returns-in-DontKnowYet-clause-waits g c = Waits_read c.loop-number.invariant.reads c.in-DontKnowYet.ensures.waits

pub returns-in-DontKnowYet-clause-told : goal.returns-in-DontKnowYet-clause-told
returns-in-DontKnowYet-clause-told g c made in_hand told = tt

pub returns-in_default-clause-reads : goal.returns-in_default-clause-reads
returns-in_default-clause-reads g c = Reads-trans c.loop-number.invariant.reads c.in-Known.ensures.reads

pub returns-in_default-clause-waits : goal.returns-in_default-clause-waits
returns-in_default-clause-waits g c = tt

pub returns-in_default-clause-told : goal.returns-in_default-clause-told
returns-in_default-clause-told g c made in_hand told = tt

pub returns-clause-reads : goal.returns-clause-reads
returns-clause-reads g c = c.loop-number.invariant.reads

pub returns-clause-waits : goal.returns-clause-waits
returns-clause-waits g c = tt

pub returns-clause-told : goal.returns-clause-told
returns-clause-told g c made in_hand told =
    let scene = scene_of (g.S.Scopes.state c.args.scopes.now).frame made c.args.around.now in
    let left = c.loop-number.invariant.left made in_hand told in
    let none = ap (λ (l : List Parameter). cells_of_all scene (map parameter_view l)) (drop_all c.loop-number.number c.args.params.now c.loop-number-test.false) in
    omega (arith, left, none)
