use Rattle.std.proofs.Common.{◌∙◌, sym, ap, subst, ◌≡◌, false}
use Rattle.m2_base.specs.Statics.Types.{base_of}
use Rattle.type_rules.specs.Sites.{context_of}
use Rattle.type_rules.specs.Scenes.{IsThere}
use Rattle.const_eval.proofs.Operating.{both_hold, logical_by, first_fails, second_fails}
use Rattle.const_eval.proofs.TypesThere.{type_there, standard_there}
use Rattle.std.specs.Prelude.{◌&&◌}
use Rattle.m2_base.specs.Rows.{is_same_place}
use Rattle.m2_base.specs.Standard.{boolean}
use Rattle.const_eval.proofs.operators.logical.Goals.{else-eq-via-then-eq+else-eq-2, else-eq-via-else-eq}
use Rattle.const_eval.proofs.operators.logical.Goals as goal

pub returns-then-eq-2-clause-told : goal.returns-then-eq-2-clause-told
returns-then-eq-2-clause-told g c made in_hand told =
    let now = context_of (g.S.Scopes.state c.args.scopes.now).frame made c.args.site.now in
    c.combined.ensures.told now
    ∙ logical_by now c.args.operator.operator c.args.operator.at c.args.x c.args.y c.in-Known.value.0 c.in-Known.value.1
    (c.in-Known.ensures.left made in_hand told ∙ ap (base_of now.scene) c.operand_type.ensures)
    (c.in-Known.ensures.right made in_hand told ∙ ap (base_of now.scene) c.operand_type-2.ensures)
    _ (both_hold _ _ (sym c.eq.ensures ∙ c.if-eq.true) (sym c.eq-then-eq.ensures ∙ c.if-eq-2.true))

pub bases_of-requires-clause-suits : goal.bases_of-requires-clause-suits
bases_of-requires-clause-suits g c = c.requires.suits.around

pub eq-requires : goal.eq-requires
eq-requires g c = tt

pub eq-requires-then-eq : goal.eq-requires-then-eq
eq-requires-then-eq g c = tt

pub operand_type-requires : goal.operand_type-requires
operand_type-requires g c = tt

pub operand_type-requires-2 : goal.operand_type-requires-2
operand_type-requires-2 g c = tt

pub returns-in-DontKnowYet : goal.returns-in-DontKnowYet
returns-in-DontKnowYet g c =
    record {
      reads = c.in-DontKnowYet.ensures.reads;
      waits = c.in-DontKnowYet.ensures.waits;
      told = λ made in_hand told. tt;
      there = tt;
    }

pub returns-then-eq-2-clause-reads : goal.returns-then-eq-2-clause-reads
returns-then-eq-2-clause-reads g c = c.in-Known.ensures.reads

pub returns-then-eq-2-clause-waits : goal.returns-then-eq-2-clause-waits
returns-then-eq-2-clause-waits g c = tt

pub returns-else-eq-clause-reads : goal.returns-else-eq-clause-reads
returns-else-eq-clause-reads g c = c.in-Known.ensures.reads

pub returns-else-eq-clause-waits : goal.returns-else-eq-clause-waits
returns-else-eq-clause-waits g c = tt

pub returns-else-eq-clause-there : goal.returns-else-eq-clause-there
returns-else-eq-clause-there g c = tt

pub combined-requires : goal.combined-requires
combined-requires g c = tt

pub bases_of-requires-clause-x : goal.bases_of-requires-clause-x
bases_of-requires-clause-x g c =
    subst (λ t. IsThere (g.S.Scopes.state c.args.scopes.now).frame t) (sym c.operand_type.ensures) (type_there c.requires.suits.around c.args.x c.requires.x)

pub bases_of-requires-clause-y : goal.bases_of-requires-clause-y
bases_of-requires-clause-y g c =
    subst (λ t. IsThere (g.S.Scopes.state c.args.scopes.now).frame t) (sym c.operand_type-2.ensures) (type_there c.requires.suits.around c.args.y c.requires.y)

pub returns-then-eq-2-clause-there : goal.returns-then-eq-2-clause-there
returns-then-eq-2-clause-there g c = c.combined.ensures.there (g.S.Scopes.state c.args.scopes.now).frame (standard_there c.requires.suits.around 3)

pub returns-else-eq-clause-told : goal.returns-else-eq-clause-told
returns-else-eq-clause-told g c made in_hand told =
    let now = context_of (g.S.Scopes.state c.args.scopes.now).frame made c.args.site.now in
    let none : (is_same_place c.in-Known.value.0 boolean && is_same_place c.in-Known.value.1 boolean) ≡ false = elim c.else-eq.branch [
      | else-eq-via-then-eq+else-eq-2 w ↦ second_fails _ _ (sym w.eq-then-eq.ensures ∙ w.if-eq-2.false)
      | else-eq-via-else-eq w ↦ first_fails _ _ (sym c.eq.ensures ∙ w.if-eq.false)
    ] in
    logical_by now c.args.operator.operator c.args.operator.at c.args.x c.args.y c.in-Known.value.0 c.in-Known.value.1
    (c.in-Known.ensures.left made in_hand told ∙ ap (base_of now.scene) c.operand_type.ensures)
    (c.in-Known.ensures.right made in_hand told ∙ ap (base_of now.scene) c.operand_type-2.ensures)
    false (sym none)
