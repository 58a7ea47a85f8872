use Rattle.std.proofs.Common.{◌≡◌, ◌∙◌, ◌∷◌, [], ℕ, Option, Ok, ap, sym, option_map, subst}
use Rattle.m2_base.specs.Asks.{IfKnown}
use Rattle.m2_base.specs.declared.replies.Ask.{Ask}
use Rattle.code_form.specs.declared.instr.Instr.TheVariants.{Proc}
use Rattle.block_code.specs.Parts.{plain}
use Rattle.block_code.specs.ProcedureNames.{procedure_code as spec_code, target_of_procedure}
use Rattle.expr_sem.specs.Targets.{target_view}
use Rattle.expr_sem.specs.declared.procedure_names.Target.{Target}
use Rattle.type_rules.specs.Scenes.{scene_of}
use Rattle.expr_sem.proofs.Making.{made_told, question_failed, question_waits}
use Rattle.expr_sem.proofs.procedure_names.procedure_code.Goals as goal

pub returns-in-Some : goal.returns-in-Some
returns-in-Some g c n =
    let f = (g.S.Scopes.state c.args.scopes.now).frame in
    let a = c.args.site.now.around.now in
    made_told n c.one.result c.answered.result (λ k. spec_code k.scene (target_of_procedure k.scene c.args.name c.args.named.of c.args.named.number)) c.answered.ensures
    c.in-Ok.ensures.reads c.one.ensures.made
    (λ made in_hand told. ap (λ (i : ℕ). plain (Proc i c.in-Some.target.number ∷ [])) c.import_of_target-import.ensures
    ∙ ap (λ (t : Option Target). spec_code (scene_of f made a) (option_map target_view t)) (sym c.in-Some.is)
    ∙ ap (spec_code (scene_of f made a))
    (subst (λ (x : Ask (Option Target)). IfKnown (Ok x) (λ t. option_map target_view t ≡ target_of_procedure (scene_of f made a) c.args.name c.args.named.of c.args.named.number)) c.in-Known.is (c.in-Ok.ensures.told made in_hand told)))

pub returns-in-None : goal.returns-in-None
returns-in-None g c n =
    let f = (g.S.Scopes.state c.args.scopes.now).frame in
    let a = c.args.site.now.around.now in
    made_told n c.one-in-None.result c.answered-in-None.result (λ k. spec_code k.scene (target_of_procedure k.scene c.args.name c.args.named.of c.args.named.number)) c.answered-in-None.ensures
    c.in-Ok.ensures.reads c.one-in-None.ensures.made
    (λ made in_hand told. ap (λ (t : Option Target). spec_code (scene_of f made a) (option_map target_view t)) (sym c.in-None.is)
    ∙ ap (spec_code (scene_of f made a))
    (subst (λ (x : Ask (Option Target)). IfKnown (Ok x) (λ t. option_map target_view t ≡ target_of_procedure (scene_of f made a) c.args.name c.args.named.of c.args.named.number)) c.in-Known.is (c.in-Ok.ensures.told made in_hand told)))

pub returns-in-DontKnowYet : goal.returns-in-DontKnowYet
returns-in-DontKnowYet g c n = question_waits n _ c.in-Ok.ensures.reads (rw c.in-DontKnowYet.is at c.in-Ok.ensures.waits)

pub returns-in-Err : goal.returns-in-Err
returns-in-Err g c n = question_failed n _ c.in-Err.ensures.reads _
