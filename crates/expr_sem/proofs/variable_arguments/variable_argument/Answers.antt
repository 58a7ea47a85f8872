use Rattle.std.proofs.Common.{◌∙◌, ◌||◌, Bool, Ok, ap, sym, subst, refl, if◌then◌else◌}
use Rattle.m2_base.specs.Gives.{gives}
use Rattle.m2_base.specs.Statics.Contexts.{refuse}
use Rattle.m2_base.specs.Statics.Diagnostics.{wrong_argument}
use Rattle.m2_base.specs.Statics.Operands.{operand_type}
use Rattle.m2_base.specs.declared.replies.Ask.TheVariants.{Known}
use Rattle.m2_base.specs.declared.rows.Place.{Place}
use Rattle.m2_base.specs.States.{Frame}
use Rattle.const_eval.proofs.TypesThere.{type_there}
use Rattle.type_rules.specs.Scenes.{IsThere}
use Rattle.type_rules.specs.Sites.{context_of}
use Rattle.block_code.specs.Coded.{in_error}
use Rattle.expr_sem.specs.Codings.{IsCoded, coded_in}
use Rattle.block_code.specs.StandardFunctions.{as_variable}
use Rattle.block_code.specs.StandardProcedures.{variable_where}
use Rattle.expr_sem.specs.VariableArguments.{is_wanted}
use Rattle.expr_sem.proofs.Making.{after_question, question_waits}
use Rattle.expr_sem.proofs.Operating.{coding_after, described, unknown, unmade, value_alone}
use Rattle.expr_sem.proofs.Selecting.{stays_read}
use Rattle.expr_sem.proofs.variable_arguments.variable_argument.Goals as goal

pub returns-in-DontKnowYet : goal.returns-in-DontKnowYet
returns-in-DontKnowYet g c nodes h = unknown (rw c.in-DontKnowYet.is at c.in-Ok.ensures (g.S.Scopes.state c.args.scopes.now) nodes h)

pub returns-in-Err : goal.returns-in-Err
returns-in-Err g c nodes h = unmade (c.in-Err.ensures (g.S.Scopes.state c.args.scopes.now) nodes h) _

pub returns-then-is_bad : goal.returns-then-is_bad
returns-then-is_bad g c nodes h =
    let v = c.in-Known.value in
    let one = rw c.in-Known.is at c.in-Ok.ensures (g.S.Scopes.state c.args.scopes.now) nodes h in
    coding_after (λ k. as_variable k c.args.x.at (coded_in nodes c.args.x.coded)) (λ u k. variable_where k c.args.x.at (is_wanted k.scene c.args.wanted) u) (Ok (Known v)) one
    (described _ (value_alone _ c.as_variable.new.notes nodes c.args.site.now v IsCoded coded_in (λ k. coded_in nodes v) one.there (λ k. refl))
    (λ k. ap (λ (b : Bool). if b || is_wanted k.scene c.args.wanted (operand_type v.operand) then gives (coded_in nodes v) else refuse k c.args.x.at wrong_argument in_error) (sym c.if-is_bad.true ∙ c.is_bad.ensures)))

pub is_wanted-requires-clause-of : goal.is_wanted-requires-clause-of
is_wanted-requires-clause-of g c =
    let one = rw c.in-Known.is at c.in-Ok.ensures (g.S.Scopes.state c.args.scopes.now) c.requires.x.0 c.requires.x.1 in
    subst (λ (t : Place). IsThere (g.S.Scopes.state c.args.scopes.now).frame t) (sym c.operand_type.ensures) (type_there c.requires.suits.around c.in-Known.value.operand one.there.operand)

pub returns-in-DontKnowYet-is_wanted : goal.returns-in-DontKnowYet-is_wanted
returns-in-DontKnowYet-is_wanted g c nodes h =
    let one = rw c.in-Known.is at c.in-Ok.ensures (g.S.Scopes.state c.args.scopes.now) nodes h in
    coding_after (λ k. as_variable k c.args.x.at (coded_in nodes c.args.x.coded)) (λ u k. variable_where k c.args.x.at (is_wanted k.scene c.args.wanted) u) _ one
    (question_waits c.as_variable.new.notes nodes c.is_wanted.ensures.reads c.in-DontKnowYet-is_wanted.ensures.waits)

pub returns-then-value : goal.returns-then-value
returns-then-value g c nodes h =
    let v = c.in-Known.value in
    let one = rw c.in-Known.is at c.in-Ok.ensures (g.S.Scopes.state c.args.scopes.now) nodes h in
    coding_after (λ k. as_variable k c.args.x.at (coded_in nodes c.args.x.coded)) (λ u k. variable_where k c.args.x.at (is_wanted k.scene c.args.wanted) u) (Ok (Known v)) one
    (after_question _ c.is_wanted.ensures.reads
    (value_alone (g.S.Scopes.state c.is_wanted.new.scopes) c.as_variable.new.notes nodes c.args.site.now v IsCoded coded_in (λ k. coded_in nodes v) (stays_read (λ (f : Frame). IsCoded f nodes v) c.is_wanted.ensures.reads one.there) (λ k. refl))
    (λ made in_hand told. let k = context_of (g.S.Scopes.state c.args.scopes.now).frame made c.args.site.now in
    ap (λ (b : Bool). if b then gives (coded_in nodes v) else refuse k c.args.x.at wrong_argument in_error)
    (sym c.if-value.true ∙ c.in-Known-is_wanted.ensures.told made in_hand told ∙ ap (is_wanted k.scene c.args.wanted) c.operand_type.ensures
    ∙ ap (λ (b : Bool). b || is_wanted k.scene c.args.wanted (operand_type v.operand)) (sym c.if-is_bad.false ∙ c.is_bad.ensures))))

pub returns : goal.returns
returns g c nodes h =
    let v = c.in-Known.value in
    let one = rw c.in-Known.is at c.in-Ok.ensures (g.S.Scopes.state c.args.scopes.now) nodes h in
    coding_after (λ k. as_variable k c.args.x.at (coded_in nodes c.args.x.coded)) (λ u k. variable_where k c.args.x.at (is_wanted k.scene c.args.wanted) u) c.refused.result one
    (after_question c.refused.result c.is_wanted.ensures.reads
    (c.refused.ensures (g.S.Scopes.state c.is_wanted.new.scopes) nodes)
    (λ made in_hand told. let k = context_of (g.S.Scopes.state c.args.scopes.now).frame made c.args.site.now in
    ap (λ (b : Bool). if b then gives (coded_in nodes v) else refuse k c.args.x.at wrong_argument in_error)
    (sym c.if-value.false ∙ c.in-Known-is_wanted.ensures.told made in_hand told ∙ ap (is_wanted k.scene c.args.wanted) c.operand_type.ensures
    ∙ ap (λ (b : Bool). b || is_wanted k.scene c.args.wanted (operand_type v.operand)) (sym c.if-is_bad.false ∙ c.is_bad.ensures))))
