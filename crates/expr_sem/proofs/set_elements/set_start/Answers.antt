use Rattle.std.proofs.Common.{◌≡◌, ap, subst}
use Rattle.m2_base.specs.States.{Frame}
use Rattle.m2_base.specs.Statics.Sets.{no_elements as spec_no_elements}
use Rattle.m2_base.specs.declared.operands.Operand.{Operand}
use Rattle.type_rules.specs.Sites.{context_of}
use Rattle.type_rules.proofs.Compatibles.{told_later}
use Rattle.type_rules.proofs.Later.{IsThere_read}
use Rattle.type_rules.proofs.Reading.{Reads-trans, Waits_read, reads_frame}
use Rattle.const_eval.specs.Sites.{IsOperand}
use Rattle.const_eval.proofs.Later.{SuitsSite_read}
use Rattle.block_code.specs.Parts.{none}
use Rattle.block_code.specs.SetElements as sets
use Rattle.expr_sem.proofs.set_elements.set_start.Goals as goal

-- no code, and this set
abbrev the_elements : Operand → sets.Elements
the_elements o = record { set = o; code = none }

pub set_base-requires-clause-suits : goal.set_base-requires-clause-suits
set_base-requires-clause-suits g c = c.requires.suits

pub set_base-requires-clause-of : goal.set_base-requires-clause-of
set_base-requires-clause-of g c = c.requires.of

pub returns-in-DontKnowYet-clause-reads : goal.returns-in-DontKnowYet-clause-reads
returns-in-DontKnowYet-clause-reads g c = c.in-DontKnowYet.ensures.reads

pub returns-in-DontKnowYet-clause-waits : goal.returns-in-DontKnowYet-clause-waits
returns-in-DontKnowYet-clause-waits g c = c.in-DontKnowYet.ensures.waits

pub returns-in-DontKnowYet-clause-based : goal.returns-in-DontKnowYet-clause-based
returns-in-DontKnowYet-clause-based g c made in_hand told = tt

pub returns-in-DontKnowYet-clause-told : goal.returns-in-DontKnowYet-clause-told
returns-in-DontKnowYet-clause-told g c made in_hand told = tt

pub returns-in-DontKnowYet-clause-base : goal.returns-in-DontKnowYet-clause-base
returns-in-DontKnowYet-clause-base g c = tt

pub returns-in-DontKnowYet-clause-elements : goal.returns-in-DontKnowYet-clause-elements
returns-in-DontKnowYet-clause-elements g c = tt

pub no_elements-requires-clause-suits : goal.no_elements-requires-clause-suits
no_elements-requires-clause-suits g c = SuitsSite_read c.in-Known.ensures.reads c.requires.suits

pub no_elements-requires-clause-of : goal.no_elements-requires-clause-of
no_elements-requires-clause-of g c = IsThere_read c.in-Known.ensures.reads c.requires.of

pub returns-in-DontKnowYet-no_elements-clause-reads : goal.returns-in-DontKnowYet-no_elements-clause-reads
returns-in-DontKnowYet-no_elements-clause-reads g c = Reads-trans c.in-Known.ensures.reads c.in-DontKnowYet-no_elements.ensures.reads

pub returns-in-DontKnowYet-no_elements-clause-waits : goal.returns-in-DontKnowYet-no_elements-clause-waits
returns-in-DontKnowYet-no_elements-clause-waits g c = Waits_read c.in-Known.ensures.reads c.in-DontKnowYet-no_elements.ensures.waits

pub returns-in-DontKnowYet-no_elements-clause-based : goal.returns-in-DontKnowYet-no_elements-clause-based
returns-in-DontKnowYet-no_elements-clause-based g c made in_hand told = tt

pub returns-in-DontKnowYet-no_elements-clause-told : goal.returns-in-DontKnowYet-no_elements-clause-told
returns-in-DontKnowYet-no_elements-clause-told g c made in_hand told = tt

pub returns-in-DontKnowYet-no_elements-clause-base : goal.returns-in-DontKnowYet-no_elements-clause-base
returns-in-DontKnowYet-no_elements-clause-base g c = tt

pub returns-in-DontKnowYet-no_elements-clause-elements : goal.returns-in-DontKnowYet-no_elements-clause-elements
returns-in-DontKnowYet-no_elements-clause-elements g c = tt

pub returns-clause-reads : goal.returns-clause-reads
returns-clause-reads g c = Reads-trans c.in-Known.ensures.reads c.in-Known-no_elements.ensures.reads

pub returns-clause-waits : goal.returns-clause-waits
returns-clause-waits g c = tt

pub returns-clause-based : goal.returns-clause-based
returns-clause-based g c = c.in-Known.ensures.told

pub returns-clause-told : goal.returns-clause-told
returns-clause-told g c made in_hand told nodes =
    let f = (g.S.Scopes.state c.args.scopes.now).frame in
    let s = c.args.site.now in
    ap (λ (o : Operand). the_elements o) (told_later f _ (λ e rows. c.in-Known-no_elements.value ≡ spec_no_elements (context_of e rows s) c.args.of) c.in-Known.ensures.reads.keeps.frame c.in-Known-no_elements.ensures.told made in_hand told)

pub returns-clause-base : goal.returns-clause-base
returns-clause-base g c = c.in-Known.ensures.there

pub returns-clause-elements : goal.returns-clause-elements
returns-clause-elements g c nodes =
    record { set = subst (λ (e : Frame). IsOperand e c.in-Known-no_elements.value) (reads_frame c.in-Known.ensures.reads) c.in-Known-no_elements.ensures.there; code = tt }
