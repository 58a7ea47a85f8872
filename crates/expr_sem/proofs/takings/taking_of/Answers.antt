use Rattle.std.proofs.Common.{◌≡◌, ◌∙◌, Bool, ap, false, subst, sym, true, if◌then◌else◌}
use Rattle.m2_base.specs.States.{Frame}
use Rattle.m2_base.specs.Statics.Assignable.{is_assignable, taken_into as spec_taken_into}
use Rattle.m2_base.specs.Statics.Contexts.{Context}
use Rattle.m2_base.specs.declared.operands.Operand.{Operand}
use Rattle.m2_base.specs.declared.rows.Place.{Place}
use Rattle.type_rules.specs.Sites.{context_of}
use Rattle.type_rules.proofs.Compatibles.{told_later}
use Rattle.type_rules.proofs.Later.{IsThere_read, Suits_read}
use Rattle.type_rules.proofs.Reading.{Reads-trans, Waits_read, reads_frame}
use Rattle.const_eval.specs.Sites.{IsOperand}
use Rattle.const_eval.proofs.TypesThere.{operand_there}
use Rattle.const_eval.proofs.Later.{IsOperand_read, SuitsSite_read}
use Rattle.expr_sem.specs.Takings.{taken_or_refused, taking as spec_taking}
use Rattle.block_code.specs.Values.{is_passed_over as spec_passed_over}
use Rattle.expr_sem.specs.declared.takings.Taking.TheVariants.{PassedOver, Refused, Taken}
use Rattle.expr_sem.proofs.takings.taking_of.Goals as goal

-- what is assignable and isn't passed over
taken : (k : Context) (to : Place) (o x : Operand) → spec_passed_over k.scene to o ≡ false → is_assignable k.scene to o ≡ true → x ≡ spec_taken_into k.source k.scene to o → Taken x ≡ spec_taking k to o
taken k to o x heard fits e =
    ap Taken e ∙ sym (ap (λ (b : Bool). if b then PassedOver else taken_or_refused k to o) heard ∙ ap (λ (b : Bool). if b then Taken (spec_taken_into k.source k.scene to o) else Refused) fits)

pub taken_into-requires-clause-suits : goal.taken_into-requires-clause-suits
taken_into-requires-clause-suits g c = SuitsSite_read (Reads-trans c.in-Known.ensures.reads c.in-Known-assignable.ensures.reads) c.requires.suits

pub taken_into-requires-clause-to : goal.taken_into-requires-clause-to
taken_into-requires-clause-to g c = IsThere_read (Reads-trans c.in-Known.ensures.reads c.in-Known-assignable.ensures.reads) c.requires.to

pub taken_into-requires-clause-operand : goal.taken_into-requires-clause-operand
taken_into-requires-clause-operand g c = IsOperand_read c.args.operand (Reads-trans c.in-Known.ensures.reads c.in-Known-assignable.ensures.reads) c.requires.operand

pub returns-in-DontKnowYet-taken_into-clause-reads : goal.returns-in-DontKnowYet-taken_into-clause-reads
returns-in-DontKnowYet-taken_into-clause-reads g c =
    Reads-trans (Reads-trans c.in-Known.ensures.reads c.in-Known-assignable.ensures.reads) c.in-DontKnowYet-taken_into.ensures.reads

pub returns-in-DontKnowYet-taken_into-clause-waits : goal.returns-in-DontKnowYet-taken_into-clause-waits
returns-in-DontKnowYet-taken_into-clause-waits g c =
    Waits_read (Reads-trans c.in-Known.ensures.reads c.in-Known-assignable.ensures.reads) c.in-DontKnowYet-taken_into.ensures.waits

pub returns-clause-reads : goal.returns-clause-reads
returns-clause-reads g c = Reads-trans (Reads-trans c.in-Known.ensures.reads c.in-Known-assignable.ensures.reads) c.in-Known-taken_into.ensures.reads

pub returns-clause-told : goal.returns-clause-told
returns-clause-told g c made in_hand told =
    let f = (g.S.Scopes.state c.args.scopes.now).frame in
    let s = c.args.site.now in
    let k = context_of f made s in
    let two = Reads-trans c.in-Known.ensures.reads c.in-Known-assignable.ensures.reads in
    let fits = told_later f _ (λ e rows. c.in-Known-assignable.value ≡ is_assignable (context_of e rows s).scene c.args.to c.args.operand) c.in-Known.ensures.reads.keeps.frame c.in-Known-assignable.ensures.told made in_hand told in
    let into = told_later f _ (λ e rows. c.in-Known-taken_into.value ≡ spec_taken_into (context_of e rows s).source (context_of e rows s).scene c.args.to c.args.operand) two.keeps.frame c.in-Known-taken_into.ensures.told made in_hand told in
    taken k c.args.to c.args.operand c.in-Known-taken_into.value (sym (c.in-Known.ensures.told made in_hand told) ∙ c.if-value.false) (sym fits ∙ c.if-not-value.false) into

pub is_passed_over-requires-clause-suits : goal.is_passed_over-requires-clause-suits
is_passed_over-requires-clause-suits g c = c.requires.suits.around

pub is_passed_over-requires-clause-to : goal.is_passed_over-requires-clause-to
is_passed_over-requires-clause-to g c = c.requires.to

pub returns-in-DontKnowYet-clause-reads : goal.returns-in-DontKnowYet-clause-reads
returns-in-DontKnowYet-clause-reads g c = c.in-DontKnowYet.ensures.reads

pub returns-in-DontKnowYet-clause-waits : goal.returns-in-DontKnowYet-clause-waits
returns-in-DontKnowYet-clause-waits g c = c.in-DontKnowYet.ensures.waits

pub returns-in-DontKnowYet-clause-told : goal.returns-in-DontKnowYet-clause-told
returns-in-DontKnowYet-clause-told g c made in_hand told = tt

pub returns-in-DontKnowYet-clause-there : goal.returns-in-DontKnowYet-clause-there
returns-in-DontKnowYet-clause-there g c = tt

pub returns-then-value-clause-reads : goal.returns-then-value-clause-reads
returns-then-value-clause-reads g c = c.in-Known.ensures.reads

pub returns-then-value-clause-waits : goal.returns-then-value-clause-waits
returns-then-value-clause-waits g c = tt

pub returns-then-value-clause-told : goal.returns-then-value-clause-told
returns-then-value-clause-told g c made in_hand told =
    let k = context_of (g.S.Scopes.state c.args.scopes.now).frame made c.args.site.now in
    sym (ap (λ (b : Bool). if b then PassedOver else taken_or_refused k c.args.to c.args.operand) (sym (c.in-Known.ensures.told made in_hand told) ∙ c.if-value.true))

pub returns-then-value-clause-there : goal.returns-then-value-clause-there
returns-then-value-clause-there g c = tt

pub assignable-requires-clause-suits : goal.assignable-requires-clause-suits
assignable-requires-clause-suits g c = Suits_read c.in-Known.ensures.reads c.requires.suits.around

pub assignable-requires-clause-to : goal.assignable-requires-clause-to
assignable-requires-clause-to g c = IsThere_read c.in-Known.ensures.reads c.requires.to

pub assignable-requires-clause-operand : goal.assignable-requires-clause-operand
assignable-requires-clause-operand g c = operand_there _ c.args.operand (IsOperand_read c.args.operand c.in-Known.ensures.reads c.requires.operand)

pub returns-in-DontKnowYet-assignable-clause-reads : goal.returns-in-DontKnowYet-assignable-clause-reads
returns-in-DontKnowYet-assignable-clause-reads g c = Reads-trans c.in-Known.ensures.reads c.in-DontKnowYet-assignable.ensures.reads

pub returns-in-DontKnowYet-assignable-clause-waits : goal.returns-in-DontKnowYet-assignable-clause-waits
returns-in-DontKnowYet-assignable-clause-waits g c = Waits_read c.in-Known.ensures.reads c.in-DontKnowYet-assignable.ensures.waits

pub returns-in-DontKnowYet-assignable-clause-told : goal.returns-in-DontKnowYet-assignable-clause-told
returns-in-DontKnowYet-assignable-clause-told g c made in_hand told = tt

pub returns-in-DontKnowYet-assignable-clause-there : goal.returns-in-DontKnowYet-assignable-clause-there
returns-in-DontKnowYet-assignable-clause-there g c = tt

pub returns-then-not-value-clause-reads : goal.returns-then-not-value-clause-reads
returns-then-not-value-clause-reads g c = Reads-trans c.in-Known.ensures.reads c.in-Known-assignable.ensures.reads

pub returns-then-not-value-clause-waits : goal.returns-then-not-value-clause-waits
returns-then-not-value-clause-waits g c = tt

pub returns-then-not-value-clause-told : goal.returns-then-not-value-clause-told
returns-then-not-value-clause-told g c made in_hand told =
    let f = (g.S.Scopes.state c.args.scopes.now).frame in
    let s = c.args.site.now in
    let k = context_of f made s in
    let fits = told_later f _ (λ e rows. c.in-Known-assignable.value ≡ is_assignable (context_of e rows s).scene c.args.to c.args.operand) c.in-Known.ensures.reads.keeps.frame c.in-Known-assignable.ensures.told made in_hand told in
    sym (ap (λ (b : Bool). if b then PassedOver else taken_or_refused k c.args.to c.args.operand) (sym (c.in-Known.ensures.told made in_hand told) ∙ c.if-value.false) ∙ ap (λ (b : Bool). if b then Taken (spec_taken_into k.source k.scene c.args.to c.args.operand) else Refused) (sym fits ∙ c.if-not-value.true))

pub returns-then-not-value-clause-there : goal.returns-then-not-value-clause-there
returns-then-not-value-clause-there g c = tt

pub returns-in-DontKnowYet-taken_into-clause-told : goal.returns-in-DontKnowYet-taken_into-clause-told
returns-in-DontKnowYet-taken_into-clause-told g c made in_hand told = tt

pub returns-in-DontKnowYet-taken_into-clause-there : goal.returns-in-DontKnowYet-taken_into-clause-there
returns-in-DontKnowYet-taken_into-clause-there g c = tt

pub returns-clause-waits : goal.returns-clause-waits
returns-clause-waits g c = tt

pub returns-clause-there : goal.returns-clause-there
returns-clause-there g c = subst (λ (e : Frame). IsOperand e c.in-Known-taken_into.value) (reads_frame (Reads-trans c.in-Known.ensures.reads c.in-Known-assignable.ensures.reads)) c.in-Known-taken_into.ensures.there
