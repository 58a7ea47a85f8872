use Rattle.std.proofs.Common.{◌≡◌, ◌∙◌, Bool, ap, subst, sym}
use Rattle.std.specs.Prelude.{◌||◌}
use Rattle.m2_base.specs.Rows.{is_same_place}
use Rattle.m2_base.specs.Standard.{whole}
use Rattle.m2_base.specs.declared.operands.Operand.{Operand}
use Rattle.type_rules.specs.Asks.{WhereKnown}
use Rattle.type_rules.specs.Scenes.{scene_of}
use Rattle.const_eval.specs.Sites.{IsOperand}
use Rattle.block_code.specs.StandardProcedures.{is_step}
use Rattle.expr_sem.proofs.step_numbers.is_step.Goals as goal

pub has_base-requires-clause-suits : goal.has_base-requires-clause-suits
has_base-requires-clause-suits g c = c.requires.suits.around

pub has_base-requires-clause-of : goal.has_base-requires-clause-of
has_base-requires-clause-of g c =
    (subst (λ (o : Operand). IsOperand (g.S.Scopes.state c.args.scopes.now).frame o) c.in-Constant.is c.requires.operand).0

pub returns-in-DontKnowYet-clause-reads : goal.returns-in-DontKnowYet-clause-reads
returns-in-DontKnowYet-clause-reads g c = c.in-DontKnowYet.ensures.reads

pub returns-in-DontKnowYet-clause-waits : goal.returns-in-DontKnowYet-clause-waits
returns-in-DontKnowYet-clause-waits g c = c.in-DontKnowYet.ensures.waits

pub has_base-requires-in-Computed-clause-suits : goal.has_base-requires-in-Computed-clause-suits
has_base-requires-in-Computed-clause-suits g c = c.requires.suits.around

pub has_base-requires-in-Computed-clause-of : goal.has_base-requires-in-Computed-clause-of
has_base-requires-in-Computed-clause-of g c =
    subst (λ (o : Operand). IsOperand (g.S.Scopes.state c.args.scopes.now).frame o) c.in-Computed.is c.requires.operand

pub has_base-requires-in-Variable-clause-suits : goal.has_base-requires-in-Variable-clause-suits
has_base-requires-in-Variable-clause-suits g c = c.requires.suits.around

pub has_base-requires-in-Variable-clause-of : goal.has_base-requires-in-Variable-clause-of
has_base-requires-in-Variable-clause-of g c =
    subst (λ (o : Operand). IsOperand (g.S.Scopes.state c.args.scopes.now).frame o) c.in-Variable.is c.requires.operand

pub returns-then-holds-clause-reads : goal.returns-then-holds-clause-reads
returns-then-holds-clause-reads g c = c.in-Known.ensures.reads

pub returns-then-holds-clause-told : goal.returns-then-holds-clause-told
returns-then-holds-clause-told g c made in_hand told =
    let s = scene_of (g.S.Scopes.state c.args.scopes.now).frame made c.args.site.now.around.now in
    c.if-holds.true ∙ ap (λ (b : Bool). b || is_same_place c.in-Constant.of whole) (sym c.if-holds.true ∙ c.in-Known.ensures.told made in_hand told)
    ∙ ap (λ (o : Operand). is_step s c.args.want o) (sym c.in-Constant.is)

pub returns-else-holds-clause-reads : goal.returns-else-holds-clause-reads
returns-else-holds-clause-reads g c = c.in-Known.ensures.reads

pub returns-else-holds-clause-told : goal.returns-else-holds-clause-told
returns-else-holds-clause-told g c made in_hand told =
    let s = scene_of (g.S.Scopes.state c.args.scopes.now).frame made c.args.site.now.around.now in
    c.eq.ensures ∙ ap (λ (b : Bool). b || is_same_place c.in-Constant.of whole) (sym c.if-holds.false ∙ c.in-Known.ensures.told made in_hand told)
    ∙ ap (λ (o : Operand). is_step s c.args.want o) (sym c.in-Constant.is)

pub returns-in-Computed-clause-reads : goal.returns-in-Computed-clause-reads
returns-in-Computed-clause-reads g c = c.has_base-in-Computed.ensures.reads

pub returns-in-Computed-clause-waits : goal.returns-in-Computed-clause-waits
returns-in-Computed-clause-waits g c = c.has_base-in-Computed.ensures.waits

pub returns-in-Computed-clause-told : goal.returns-in-Computed-clause-told
returns-in-Computed-clause-told g c made in_hand told =
    let s = scene_of (g.S.Scopes.state c.args.scopes.now).frame made c.args.site.now.around.now in
    subst (λ (o : Operand). WhereKnown c.has_base-in-Computed.result (λ holds. holds ≡ is_step s c.args.want o)) (sym c.in-Computed.is) (c.has_base-in-Computed.ensures.told made in_hand told)

pub returns-in-Variable-clause-reads : goal.returns-in-Variable-clause-reads
returns-in-Variable-clause-reads g c = c.has_base-in-Variable.ensures.reads

pub returns-in-Variable-clause-waits : goal.returns-in-Variable-clause-waits
returns-in-Variable-clause-waits g c = c.has_base-in-Variable.ensures.waits

pub returns-in-Variable-clause-told : goal.returns-in-Variable-clause-told
returns-in-Variable-clause-told g c made in_hand told =
    let s = scene_of (g.S.Scopes.state c.args.scopes.now).frame made c.args.site.now.around.now in
    subst (λ (o : Operand). WhereKnown c.has_base-in-Variable.result (λ holds. holds ≡ is_step s c.args.want o)) (sym c.in-Variable.is) (c.has_base-in-Variable.ensures.told made in_hand told)
