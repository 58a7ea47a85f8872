use Rattle.std.proofs.Common.{◌∙◌, ap, subst, sym}
use Rattle.m2_base.specs.Standard.{cardinal}
use Rattle.m2_base.specs.Statics.Diagnostics.{not_assignable}
use Rattle.m2_base.specs.declared.operands.Operand.{Operand}
use Rattle.const_eval.specs.Sites.{IsOperand}
use Rattle.const_eval.proofs.Later.{SuitsSite_read}
use Rattle.type_rules.specs.Sites.{context_of}
use Rattle.block_code.specs.Coded as code
use Rattle.expr_sem.specs.Codings.{coded_in}
use Rattle.block_code.specs.Elements.{element_of_array, element_of_open, of_array, select_element_by}
use Rattle.block_code.specs.Values.{assigned_to}
use Rattle.expr_sem.proofs.Following.{by_question, then_unknown, then_wanted}
use Rattle.expr_sem.proofs.Making.{after_question, question_waits}
use Rattle.expr_sem.proofs.Onwards.{coded_after, suits_after}
use Rattle.expr_sem.proofs.Operating.{coded_later, coding_after, described, stays_coded}
use Rattle.expr_sem.proofs.Selecting.{error_alone, no_array, no_element}
use Rattle.expr_sem.proofs.Sequencing.{Grows-refl}
use Rattle.expr_sem.proofs.Walking.{stands_after}
use Rattle.expr_sem.proofs.Coders.{Keeps-trans}
use Rattle.expr_sem.proofs.coder.Coder.select_element.Goals as goal

pub stand-requires-clause-suits : goal.stand-requires-clause-suits
stand-requires-clause-suits g c = c.requires.suits.around

pub stand-requires-clause-there : goal.stand-requires-clause-there
stand-requires-clause-there g c = subst (λ (o : Operand). IsOperand (g.S.Scopes.state c.args.self.now.scopes.now).frame o) c.in-Variable.is c.requires.x.operand

pub returns-in-DontKnowYet-clause-codes : goal.returns-in-DontKnowYet-clause-codes
returns-in-DontKnowYet-clause-codes g c = question_waits _ _ c.stand.ensures.reads c.in-DontKnowYet.ensures.waits

pub assigned_to-requires-clause-suits : goal.assigned_to-requires-clause-suits
assigned_to-requires-clause-suits g c = SuitsSite_read c.stand.ensures.reads c.requires.suits

pub assigned_to-requires-clause-x : goal.assigned_to-requires-clause-x
assigned_to-requires-clause-x g c = stays_coded c.stand.ensures.reads.keeps.frame (Grows-refl _) c.args.index.coded c.requires.index

pub returns-in-DontKnowYet-asked-clause-codes : goal.returns-in-DontKnowYet-asked-clause-codes
returns-in-DontKnowYet-asked-clause-codes g c = then_unknown (by_question _ _ c.stand.ensures.reads) (rw c.in-DontKnowYet-asked.is at c.in-Ok.ensures.codes)

pub returns-in-Err-clause-codes : goal.returns-in-Err-clause-codes
returns-in-Err-clause-codes g c = then_wanted (by_question _ _ c.stand.ensures.reads) c.in-Err.ensures.codes _

pub element_of_array-requires-clause-suits : goal.element_of_array-requires-clause-suits
element_of_array-requires-clause-suits g c =
    rw c.assigned_to.ensures.keeps.site (suits_after (rw c.in-Known-asked.is at c.in-Ok.ensures.codes) (SuitsSite_read c.stand.ensures.reads c.requires.suits))

pub element_of_array-requires-clause-index : goal.element_of_array-requires-clause-index
element_of_array-requires-clause-index g c = stands_after (rw c.in-Known-asked.is at c.in-Ok.ensures.codes)

pub element_of_array-requires-clause-x : goal.element_of_array-requires-clause-x
element_of_array-requires-clause-x g c =
    coded_after (rw c.in-Known-asked.is at c.in-Ok.ensures.codes) c.args.x (stays_coded c.stand.ensures.reads.keeps.frame (Grows-refl _) c.args.x c.requires.x)

pub returns-in-Known-asked-clause-codes : goal.returns-in-Known-asked-clause-codes
returns-in-Known-asked-clause-codes g c =
    let ns = c.args.self.now.fragments.now.nodes.items in
    let x = coded_in ns c.args.x in
    let i = coded_in ns c.args.index.coded in
    let index = coded_in c.assigned_to.new.self.fragments.now.nodes.items c.in-Known-asked.value in
    let indices = c.in-Array.indices in
    let of = c.in-Array.elements in
    let one = rw c.in-Known-asked.is at c.in-Ok.ensures.codes in
    after_question c.element_of_array.result c.stand.ensures.reads
    (coding_after (λ k. assigned_to k indices c.args.index.at not_assignable i) (λ i k. element_of_array k x indices of i) c.element_of_array.result one
    (described c.element_of_array.result (rw c.assigned_to.ensures.keeps.site at c.element_of_array.ensures.codes)
    (λ k. ap (λ (y : code.Coded). element_of_array k y indices of index) (coded_later one.grows c.args.x (stays_coded c.stand.ensures.reads.keeps.frame (Grows-refl _) c.args.x c.requires.x)))))
    (λ made in_hand told. let k = context_of (g.S.Scopes.state c.args.self.now.scopes.now).frame made c.args.self.now.site.now in
    ap (λ m. of_array k c.args.at x c.args.index.at i m) (sym c.in-Array.is ∙ c.in-Known.ensures.kind made in_hand told) ∙ ap (λ o. select_element_by k c.args.first c.args.at c.args.index.at i x o) (sym c.in-Variable.is))

pub assigned_to-requires-in-OpenArray-clause-suits : goal.assigned_to-requires-in-OpenArray-clause-suits
assigned_to-requires-in-OpenArray-clause-suits g c = SuitsSite_read c.stand.ensures.reads c.requires.suits

pub assigned_to-requires-in-OpenArray-clause-x : goal.assigned_to-requires-in-OpenArray-clause-x
assigned_to-requires-in-OpenArray-clause-x g c = stays_coded c.stand.ensures.reads.keeps.frame (Grows-refl _) c.args.index.coded c.requires.index

pub returns-in-DontKnowYet-asked-2-clause-codes : goal.returns-in-DontKnowYet-asked-2-clause-codes
returns-in-DontKnowYet-asked-2-clause-codes g c = then_unknown (by_question _ _ c.stand.ensures.reads) (rw c.in-DontKnowYet-asked-2.is at c.in-Ok-assigned_to.ensures.codes)

pub returns-in-Err-assigned_to-clause-codes : goal.returns-in-Err-assigned_to-clause-codes
returns-in-Err-assigned_to-clause-codes g c = then_wanted (by_question _ _ c.stand.ensures.reads) c.in-Err-assigned_to.ensures.codes _

pub element_of_open-requires-clause-suits : goal.element_of_open-requires-clause-suits
element_of_open-requires-clause-suits g c =
    rw c.assigned_to-in-OpenArray.ensures.keeps.site (suits_after (rw c.in-Known-asked-2.is at c.in-Ok-assigned_to.ensures.codes) (SuitsSite_read c.stand.ensures.reads c.requires.suits))

pub element_of_open-requires-clause-index : goal.element_of_open-requires-clause-index
element_of_open-requires-clause-index g c = stands_after (rw c.in-Known-asked-2.is at c.in-Ok-assigned_to.ensures.codes)

pub element_of_open-requires-clause-x : goal.element_of_open-requires-clause-x
element_of_open-requires-clause-x g c =
    coded_after (rw c.in-Known-asked-2.is at c.in-Ok-assigned_to.ensures.codes) c.args.x (stays_coded c.stand.ensures.reads.keeps.frame (Grows-refl _) c.args.x c.requires.x)

pub returns-in-Known-asked-2-clause-codes : goal.returns-in-Known-asked-2-clause-codes
returns-in-Known-asked-2-clause-codes g c =
    let ns = c.args.self.now.fragments.now.nodes.items in
    let x = coded_in ns c.args.x in
    let i = coded_in ns c.args.index.coded in
    let index = coded_in c.assigned_to-in-OpenArray.new.self.fragments.now.nodes.items c.in-Known-asked-2.value in
    let of = c.in-OpenArray.elements in
    let one = rw c.in-Known-asked-2.is at c.in-Ok-assigned_to.ensures.codes in
    after_question c.element_of_open.result c.stand.ensures.reads
    (coding_after (λ k. assigned_to k cardinal c.args.index.at not_assignable i) (λ i k. element_of_open k x of i) c.element_of_open.result one
    (described c.element_of_open.result (rw c.assigned_to-in-OpenArray.ensures.keeps.site at c.element_of_open.ensures.codes)
    (λ k. ap (λ (y : code.Coded). element_of_open k y of index) (coded_later one.grows c.args.x (stays_coded c.stand.ensures.reads.keeps.frame (Grows-refl _) c.args.x c.requires.x)))))
    (λ made in_hand told. let k = context_of (g.S.Scopes.state c.args.self.now.scopes.now).frame made c.args.self.now.site.now in
    ap (λ m. of_array k c.args.at x c.args.index.at i m) (sym c.in-OpenArray.is ∙ c.in-Known.ensures.kind made in_hand told) ∙ ap (λ o. select_element_by k c.args.first c.args.at c.args.index.at i x o) (sym c.in-Variable.is))

pub returns-in_default-meaning-clause-codes : goal.returns-in_default-meaning-clause-codes
returns-in_default-meaning-clause-codes g c =
    let ns = c.args.self.now.fragments.now.nodes.items in
    let x = coded_in ns c.args.x in
    let i = coded_in ns c.args.index.coded in
    after_question c.refused.result c.stand.ensures.reads (c.refused.ensures (g.S.Scopes.state c.stand.new.scopes) _)
    (λ made in_hand told. let k = context_of (g.S.Scopes.state c.args.self.now.scopes.now).frame made c.args.self.now.site.now in
    no_array k c.args.at x c.args.index.at i c.in-Known.value.1 c.in_default-meaning.not-Array c.in_default-meaning.not-OpenArray
    ∙ ap (λ m. of_array k c.args.at x c.args.index.at i m) (c.in-Known.ensures.kind made in_hand told) ∙ ap (λ o. select_element_by k c.args.first c.args.at c.args.index.at i x o) (sym c.in-Variable.is))

pub returns-in-InError-clause-codes : goal.returns-in-InError-clause-codes
returns-in-InError-clause-codes g c =
    let ns = c.args.self.now.fragments.now.nodes.items in
    error_alone _ _ _ _ c.in_error.result _ c.in_error.ensures.told c.in_error.ensures.there (λ k. ap (λ o. select_element_by k c.args.first c.args.at c.args.index.at (coded_in ns c.args.index.coded) (coded_in ns c.args.x) o) (sym c.in-InError.is))

pub returns-in-NotConstant-clause-codes : goal.returns-in-NotConstant-clause-codes
returns-in-NotConstant-clause-codes g c =
    let ns = c.args.self.now.fragments.now.nodes.items in
    error_alone _ _ _ _ c.in_error-in-NotConstant.result _ c.in_error-in-NotConstant.ensures.told c.in_error-in-NotConstant.ensures.there (λ k. ap (λ o. select_element_by k c.args.first c.args.at c.args.index.at (coded_in ns c.args.index.coded) (coded_in ns c.args.x) o) (sym c.in-NotConstant.is))

pub returns-in_default-clause-codes : goal.returns-in_default-clause-codes
returns-in_default-clause-codes g c =
    let ns = c.args.self.now.fragments.now.nodes.items in
    described c.refused-in_default.result (c.refused-in_default.ensures (g.S.Scopes.state c.args.self.now.scopes.now) _)
    (λ k. no_element k c.args.first c.args.at c.args.index.at (coded_in ns c.args.index.coded) (coded_in ns c.args.x) c.args.x.operand c.in_default.not-Variable c.in_default.not-InError c.in_default.not-NotConstant)

pub returns-in-Known-asked-clause-keeps : goal.returns-in-Known-asked-clause-keeps
returns-in-Known-asked-clause-keeps g c = let k = Keeps-trans c.assigned_to.ensures.keeps c.element_of_array.ensures.keeps in record { site = k.site; withs = k.withs; scopes = k.scopes; fragments = k.fragments; notes = k.notes }

pub returns-in-Known-asked-2-clause-keeps : goal.returns-in-Known-asked-2-clause-keeps
returns-in-Known-asked-2-clause-keeps g c = let k = Keeps-trans c.assigned_to-in-OpenArray.ensures.keeps c.element_of_open.ensures.keeps in record { site = k.site; withs = k.withs; scopes = k.scopes; fragments = k.fragments; notes = k.notes }
