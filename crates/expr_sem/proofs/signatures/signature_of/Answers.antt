use Rattle.std.proofs.Common.{◌∙◌, List, Err, Ok, Result, ap, map, subst, sym}
use Rattle.type_rules.specs.Scenes.{scene_of}
use Rattle.m2_base.specs.Statics.Types.{kind_of, stands_for}
use Rattle.m2_base.specs.Asks.{IfKnown, IfWaits}
use Rattle.m2_base.specs.Lists.{Each}
use Rattle.m2_base.specs.States.{Frame, State, Waits}
use Rattle.m2_base.specs.declared.memory.Memory.{Memory}
use Rattle.m2_base.specs.declared.replies.Ask.{Ask}
use Rattle.m2_base.specs.declared.replies.Ask.TheVariants.{DontKnowYet, Known}
use Rattle.type_rules.specs.Asks.{Reads}
use Rattle.type_rules.specs.Forms.{IsFormHere}
use Rattle.type_rules.specs.Scenes.{IsThere}
use Rattle.type_rules.proofs.Reading.{Reads-trans, Waits_read, reads_frame}
use Rattle.const_eval.proofs.Later.{SuitsSite_read}
use Rattle.expr_sem.specs.Signatures.{IsSignature}
use Rattle.expr_sem.specs.declared.signatures.Signature.{Signature}
use Rattle.expr_sem.specs.ArgumentCodes.{parameter_view}
use Rattle.expr_sem.specs.declared.arguments.Parameter.{Parameter}
use Rattle.expr_sem.proofs.CallCases.{no_parameters, no_result, signature_told}
use Rattle.expr_sem.proofs.signatures.signature_of.Goals as goal

-- where what comes next waits, both wait
waits_after : {a b : State} (r : Result (Ask Signature) Memory) (c : State) → Reads a b → IfWaits r (λ h. Waits b c h) → IfWaits r (λ h. Waits a c h)
waits_after (Ok (Known x)) c reads w = tt
waits_after (Ok (DontKnowYet h)) c reads w = Waits_read reads w
waits_after (Err m) c reads w = tt

pub returns-in-Known-Some-clause-told : goal.returns-in-Known-Some-clause-told
returns-in-Known-Some-clause-told g c =
    let asked = c.in-Known-Some in
    signature_told (g.S.Scopes.state c.args.scopes.now).frame (g.S.Scopes.state c.form_of.new.scopes).frame c.args.site.now.around.now c.args.of asked.form c.signature_by.result asked.ensures.reads.keeps.frame c.signature_by.ensures.told (λ made in_hand told. sym asked.field-0-is ∙ asked.ensures.told made in_hand told)

pub returns-in-Known-None-clause-told : goal.returns-in-Known-None-clause-told
returns-in-Known-None-clause-told g c made in_hand told =
    let scene = scene_of (g.S.Scopes.state c.args.scopes.now).frame made c.args.site.now.around.now in
    let asked = c.in-Known-None in
    let none = sym asked.field-0-is ∙ asked.ensures.told made in_hand told in
    record {
      params = ap (λ (l : List Parameter). map parameter_view l) c.new.ensures.items ∙ no_parameters scene (stands_for scene c.args.of) (kind_of scene c.args.of) none;
      result = no_result (stands_for scene c.args.of) (kind_of scene c.args.of) none;
    }

pub form_of-requires-clause-suits : goal.form_of-requires-clause-suits
form_of-requires-clause-suits g c = c.requires.suits.around

pub form_of-requires-clause-there : goal.form_of-requires-clause-there
form_of-requires-clause-there g c = c.requires.of

pub signature_by-requires-clause-suits : goal.signature_by-requires-clause-suits
signature_by-requires-clause-suits g c = SuitsSite_read c.in-Known-Some.ensures.reads c.requires.suits

pub signature_by-requires-clause-form : goal.signature_by-requires-clause-form
signature_by-requires-clause-form g c =
    let asked = c.in-Known-Some in
    subst (λ (e : Frame). IsFormHere e asked.form) (sym (reads_frame asked.ensures.reads)) (rw asked.field-0-is at asked.ensures.here)

pub returns-in-Known-Some-clause-reads : goal.returns-in-Known-Some-clause-reads
returns-in-Known-Some-clause-reads g c = Reads-trans c.in-Known-Some.ensures.reads c.signature_by.ensures.reads

pub returns-in-Known-Some-clause-waits : goal.returns-in-Known-Some-clause-waits
returns-in-Known-Some-clause-waits g c = waits_after c.signature_by.result _ c.in-Known-Some.ensures.reads c.signature_by.ensures.waits

pub returns-in-Known-Some-clause-there : goal.returns-in-Known-Some-clause-there
returns-in-Known-Some-clause-there g c = subst (λ (e : Frame). IfKnown c.signature_by.result (λ s. IsSignature e s)) (reads_frame c.in-Known-Some.ensures.reads) c.signature_by.ensures.there

pub returns-in-Known-None-clause-reads : goal.returns-in-Known-None-clause-reads
returns-in-Known-None-clause-reads g c = c.in-Known-None.ensures.reads

pub returns-in-Known-None-clause-waits : goal.returns-in-Known-None-clause-waits
returns-in-Known-None-clause-waits g c = tt

pub returns-in-Known-None-clause-there : goal.returns-in-Known-None-clause-there
returns-in-Known-None-clause-there g c = record { params = subst (λ (l : List Parameter). Each (λ p. IsThere (g.S.Scopes.state c.args.scopes.now).frame p.of) l) (sym c.new.ensures.items) tt; result = tt }

pub returns-in-DontKnowYet-clause-reads : goal.returns-in-DontKnowYet-clause-reads
returns-in-DontKnowYet-clause-reads g c = c.in-DontKnowYet.ensures.reads

pub returns-in-DontKnowYet-clause-waits : goal.returns-in-DontKnowYet-clause-waits
returns-in-DontKnowYet-clause-waits g c = c.in-DontKnowYet.ensures.waits

pub returns-in-DontKnowYet-clause-told : goal.returns-in-DontKnowYet-clause-told
returns-in-DontKnowYet-clause-told g c made in_hand told = tt

pub returns-in-DontKnowYet-clause-there : goal.returns-in-DontKnowYet-clause-there
returns-in-DontKnowYet-clause-there g c = tt
