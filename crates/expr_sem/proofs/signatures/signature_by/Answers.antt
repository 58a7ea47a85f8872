use Rattle.std.proofs.Common.{◌∙◌, ◌∷◌, [], ◌++◌, List, ap, map, refl, subst, sym}
use Rattle.m2_base.specs.States.{Frame}
use Rattle.m2_base.specs.Statics.TypeParts as parts
use Rattle.type_rules.specs.Forms.{parameters_from}
use Rattle.type_rules.specs.Scenes.{scene_of}
use Rattle.type_rules.proofs.Later.{IsThere_read, Suits_read}
use Rattle.type_rules.proofs.Reading.{Reads-refl, Reads-trans, Waits_read}
use Rattle.expr_sem.specs.ArgumentCodes.{parameter_view}
use Rattle.m2_base.specs.Lists.{Each}
use Rattle.m2_base.proofs.EachLaws.{each_append}
use Rattle.type_rules.specs.Forms.{parameters_by}
use Rattle.type_rules.specs.Scenes.{IsThere}
use Rattle.expr_sem.specs.declared.arguments.Parameter.{Parameter}
use Rattle.expr_sem.proofs.CallCases.{last_parameter, next_before, pushed_view}
use Rattle.expr_sem.proofs.signatures.signature_by.Goals as goal

pub returns-in-None-clause-told : goal.returns-in-None-clause-told
returns-in-None-clause-told g c made in_hand told =
    let f = (g.S.Scopes.state c.args.scopes.now).frame in
    let a = c.args.site.now.around.now in
    let at = c.parameters in
    let rest = next_before f (g.S.Scopes.state at.scopes).frame a c.args.form.of at.start c.in-Known.value at.invariant.reads.keeps.frame c.in-Known.ensures.told in
    record {
      params = last_parameter (map parameter_view at.params.items) (parameters_from (scene_of f made a) c.args.form.of at.start) (parameters_from (scene_of f made a) c.args.form.of c.args.form.first)
          (rest made in_hand told ∙ ap (parameters_by (scene_of f made a) c.args.form.of) c.in-None.is) (at.invariant.left made in_hand told);
      result = refl;
    }

pub parameters-preserved : goal.parameters-preserved
parameters-preserved g c =
    let f = (g.S.Scopes.state c.args.scopes.now).frame in
    let a = c.args.site.now.around.now in
    let at = c.parameters in
    let formal = c.in-Some.formal in
    let goes = rw c.in-Some.is at c.in-Known.ensures.goes_on in
    let rest = next_before f (g.S.Scopes.state at.scopes).frame a c.args.form.of at.start c.in-Known.value at.invariant.reads.keeps.frame c.in-Known.ensures.told in
    record {
      reads = Reads-trans at.invariant.reads c.in-Known.ensures.reads;
      within = goes.within;
      there = subst (λ (l : List Parameter). Each (λ p. IsThere f p.of) l) (sym c.in_ok-push-in-Some.ensures.items)
          (each_append (λ (p : Parameter). IsThere f p.of) at.params.items (record { of = formal.typ; by_ref = formal.by_ref } ∷ []) at.invariant.there (subst (λ (e : Frame). IsThere e formal.typ) at.invariant.reads.keeps.frame goes.there, tt));
      left = λ made in_hand told.
          ap (λ (l : List Parameter). map parameter_view l ++ parameters_from (scene_of f made a) c.args.form.of formal.next) c.in_ok-push-in-Some.ensures.items
          ∙ pushed_view at.params.items (record { of = formal.typ; by_ref = formal.by_ref }) (parameters_from (scene_of f made a) c.args.form.of formal.next)
          ∙ ap (λ (l : List parts.Parameter). map parameter_view at.params.items ++ l) (sym (rest made in_hand told ∙ ap (parameters_by (scene_of f made a) c.args.form.of) c.in-Some.is))
          ∙ at.invariant.left made in_hand told;
    }

pub parameters-init : goal.parameters-init
parameters-init g c =
    let f = (g.S.Scopes.state c.args.scopes.now).frame in
    let form = c.args.form in
    record {
      reads = Reads-refl _;
      within = c.requires.form.first;
      there = subst (λ (l : List Parameter). Each (λ p. IsThere f p.of) l) (sym c.new-params.ensures.items) tt;
      left = λ made in_hand told.
          ap (λ (l : List Parameter). map parameter_view l ++ parameters_from (scene_of f made c.args.site.now.around.now) form.of form.first) c.new-params.ensures.items;
    }

pub next_parameter-requires-clause-suits : goal.next_parameter-requires-clause-suits
next_parameter-requires-clause-suits g c = Suits_read c.parameters.invariant.reads c.requires.suits.around

pub next_parameter-requires-clause-there : goal.next_parameter-requires-clause-there
next_parameter-requires-clause-there g c = IsThere_read c.parameters.invariant.reads c.requires.form.of

pub returns-in-DontKnowYet-clause-reads : goal.returns-in-DontKnowYet-clause-reads
returns-in-DontKnowYet-clause-reads g c = Reads-trans c.parameters.invariant.reads c.in-DontKnowYet.ensures.reads

pub returns-in-DontKnowYet-clause-waits : goal.returns-in-DontKnowYet-clause-waits
returns-in-DontKnowYet-clause-waits g c = Waits_read c.parameters.invariant.reads c.in-DontKnowYet.ensures.waits

pub returns-in-DontKnowYet-clause-told : goal.returns-in-DontKnowYet-clause-told
returns-in-DontKnowYet-clause-told g c made in_hand told = tt

pub returns-in-DontKnowYet-clause-there : goal.returns-in-DontKnowYet-clause-there
returns-in-DontKnowYet-clause-there g c = tt

pub returns-in_err-push-in-Some-clause-reads : goal.returns-in_err-push-in-Some-clause-reads
returns-in_err-push-in-Some-clause-reads g c = Reads-trans c.parameters.invariant.reads c.in-Known.ensures.reads

pub returns-in-None-clause-reads : goal.returns-in-None-clause-reads
returns-in-None-clause-reads g c = Reads-trans c.parameters.invariant.reads c.in-Known.ensures.reads

pub returns-in-None-clause-waits : goal.returns-in-None-clause-waits
returns-in-None-clause-waits g c = tt

pub returns-in-None-clause-there : goal.returns-in-None-clause-there
returns-in-None-clause-there g c = record { params = c.parameters.invariant.there; result = c.requires.form.result }
