use Rattle.std.proofs.Common.{◌≡◌, ◌∙◌, Bool, ap, false, refl, sym, true, if◌then◌else◌}
use Rattle.m2_base.specs.Statics.Operations.{is_set_kind}
use Rattle.m2_base.specs.declared.rows.Place.{Place}
use Rattle.m2_base.specs.declared.rows.RowMeaning.{RowMeaning}
use Rattle.m2_base.specs.declared.rows.RowMeaning.TheVariants.{Set}
use Rattle.type_rules.specs.Sites.{context_of}
use Rattle.type_rules.proofs.Compatibles.{told_later}
use Rattle.type_rules.proofs.Later.{IsThere_read}
use Rattle.type_rules.proofs.Reading.{Reads-trans, Waits_read}
use Rattle.const_eval.proofs.Later.{SuitsSite_read}
use Rattle.block_code.specs.Operators.{scalar_instr, set_instr, side_of}
use Rattle.expr_sem.proofs.operators.instruction.Goals as goal

no_set : (m : RowMeaning) → ((t : Place) → m ≡ Set t → ⊥) → false ≡ is_set_kind m
no_set (Set t) h = absurd (h t refl)
no_set m h = refl

pub stand-requires-clause-suits : goal.stand-requires-clause-suits
stand-requires-clause-suits g c = c.requires.suits.around

pub returns-in-DontKnowYet-clause-reads : goal.returns-in-DontKnowYet-clause-reads
returns-in-DontKnowYet-clause-reads g c = c.in-DontKnowYet.ensures.reads

pub returns-in-DontKnowYet-clause-waits : goal.returns-in-DontKnowYet-clause-waits
returns-in-DontKnowYet-clause-waits g c = c.in-DontKnowYet.ensures.waits

pub side_of-requires-clause-suits : goal.side_of-requires-clause-suits
side_of-requires-clause-suits g c = SuitsSite_read c.in-Known.ensures.reads c.requires.suits

pub side_of-requires-clause-of : goal.side_of-requires-clause-of
side_of-requires-clause-of g c = IsThere_read c.in-Known.ensures.reads c.requires.of

pub returns-in-DontKnowYet-side_of-clause-reads : goal.returns-in-DontKnowYet-side_of-clause-reads
returns-in-DontKnowYet-side_of-clause-reads g c = Reads-trans c.in-Known.ensures.reads c.in-DontKnowYet-side_of.ensures.reads

pub returns-in-DontKnowYet-side_of-clause-waits : goal.returns-in-DontKnowYet-side_of-clause-waits
returns-in-DontKnowYet-side_of-clause-waits g c = Waits_read c.in-Known.ensures.reads c.in-DontKnowYet-side_of.ensures.waits

pub returns-in-Set-clause-reads : goal.returns-in-Set-clause-reads
returns-in-Set-clause-reads g c = c.in-Known.ensures.reads

pub returns-in-Set-clause-told : goal.returns-in-Set-clause-told
returns-in-Set-clause-told g c made in_hand told =
    let k = context_of (g.S.Scopes.state c.args.scopes.now).frame made c.args.site.now in
    let set : true ≡ is_set_kind c.in-Known.value.1 = ap is_set_kind (sym c.in-Set.is) in
    c.set_instruction.ensures
    ∙ ap (λ (b : Bool). if b then set_instr c.args.op else scalar_instr (side_of k.scene c.args.of) c.args.op) (set ∙ ap is_set_kind (c.in-Known.ensures.kind made in_hand told))

pub returns-in-Known-side_of-clause-reads : goal.returns-in-Known-side_of-clause-reads
returns-in-Known-side_of-clause-reads g c = Reads-trans c.in-Known.ensures.reads c.in-Known-side_of.ensures.reads

pub returns-in-Known-side_of-clause-told : goal.returns-in-Known-side_of-clause-told
returns-in-Known-side_of-clause-told g c made in_hand told =
    let f = (g.S.Scopes.state c.args.scopes.now).frame in
    let s = c.args.site.now in
    let side = told_later f _ (λ e rows. c.in-Known-side_of.value ≡ side_of (context_of e rows s).scene c.args.of) c.in-Known.ensures.reads.keeps.frame c.in-Known-side_of.ensures.told made in_hand told in
    let other = no_set c.in-Known.value.1 c.in_default.not-Set ∙ ap is_set_kind (c.in-Known.ensures.kind made in_hand told) in
    c.scalar_instruction.ensures ∙ ap (λ b. scalar_instr b c.args.op) side
    ∙ ap (λ b. if b then set_instr c.args.op else scalar_instr (side_of (context_of f made s).scene c.args.of) c.args.op) other
