use Rattle.std.proofs.Common.{◌∙◌, ◌-◌, ◌∷◌, [], ap, refl, subst, sym}
use Rattle.std.specs.Prelude.{pos}
use Rattle.m2_base.specs.Finished.{source_of}
use Rattle.code_form.specs.declared.instr.Instr.{Instr}
use Rattle.code_form.specs.declared.instr.Instr.TheVariants.{Push}
use Rattle.const_eval.proofs.TypesThere.{standard_there}
use Rattle.type_rules.specs.Sites.{context_of}
use Rattle.block_code.specs.Arguments.{open_argument}
use Rattle.expr_sem.specs.Codings.{coded_in}
use Rattle.expr_sem.specs.Fragments.{part}
use Rattle.block_code.specs.Parts.{plain, ◌⨟◌}
use Rattle.expr_sem.proofs.ArgumentCases.{other_open, string_refused, string_taken}
use Rattle.expr_sem.proofs.Making.{after_question, question_full, question_waits}
use Rattle.expr_sem.proofs.Operating.{described}
use Rattle.expr_sem.proofs.Sequencing.{Grows-refl, made_after, then_rest}
use Rattle.expr_sem.proofs.coder.Coder.open_argument.Goals as goal
use Rattle.m2_base.specs.declared.operands.Operand.{Operand}
use Rattle.const_eval.specs.Sites.{IsOperand}

pub same-requires-clause-y : goal.same-requires-clause-y
same-requires-clause-y g c = standard_there c.requires.suits.around 2

pub returns-in_err-address-in-StringConstant-clause-codes : goal.returns-in_err-address-in-StringConstant-clause-codes
returns-in_err-address-in-StringConstant-clause-codes g c =
    question_full c.args.self.now.notes.now c.from_residual.result c.from_residual.ensures.0 c.same.ensures.reads (c.in_err-address-in-StringConstant.ensures (source_of c.args.self.now.site.now.texts.now) refl)

pub instr_behind-requires : goal.instr_behind-requires
instr_behind-requires g c = (c.in_ok-address-in-StringConstant.ensures (source_of c.args.self.now.site.now.texts.now) refl).made.there

pub returns-then-value-clause-codes : goal.returns-then-value-clause-codes
returns-then-value-clause-codes g c =
    let source = source_of c.args.self.now.site.now.texts.now in
    let name = c.in-StringConstant.name in
    let len = c.in-StringConstant.length in
    let ms = c.string_value.new.fragments.nodes.items in
    let x = coded_in c.args.self.now.fragments.now.nodes.items c.args.x.coded in
    let made = then_rest c.instr_behind.result (plain (Push (pos (len - 1)) ∷ [])) (c.in_ok-address-in-StringConstant.ensures source refl)
    (made_after c.instr_behind.result (Grows-refl ms) c.instr_behind.ensures
    (ap (λ (i : Instr). part ms c.in_ok-address-in-StringConstant.address ⨟ plain (i ∷ [])) c.push_length-last.ensures)) in
    after_question c.passed_as.result c.same.ensures.reads
    (c.passed_as.ensures (g.S.Scopes.state c.same.new.scopes) c.args.self.now.notes.now c.args.self.now.site.now _ _ _ made)
    (λ made in_hand told. let k = context_of (g.S.Scopes.state c.args.self.now.scopes.now).frame made c.args.self.now.site.now in
    string_taken k c.args.want c.args.x.at name len (sym (c.in-Known.ensures.told made in_hand told) ∙ c.if-value.true)
    ∙ ap (open_argument k c.args.want c.args.x.at x) (sym c.in-StringConstant.is))

pub returns-else-value-clause-codes : goal.returns-else-value-clause-codes
returns-else-value-clause-codes g c =
    let x = coded_in c.args.self.now.fragments.now.nodes.items c.args.x.coded in
    after_question c.refuse_argument.result c.same.ensures.reads (c.refuse_argument.ensures (g.S.Scopes.state c.same.new.scopes) c.args.self.now.fragments.now.nodes.items)
    (λ made in_hand told. let k = context_of (g.S.Scopes.state c.args.self.now.scopes.now).frame made c.args.self.now.site.now in
    string_refused k c.args.want c.args.x.at c.in-StringConstant.name c.in-StringConstant.length (sym (c.in-Known.ensures.told made in_hand told) ∙ c.if-value.false)
    ∙ ap (open_argument k c.args.want c.args.x.at x) (sym c.in-StringConstant.is))

pub returns-in_default-clause-codes : goal.returns-in_default-clause-codes
returns-in_default-clause-codes g c =
    let ns = c.args.self.now.fragments.now.nodes.items in
    described c.refuse_argument-in_default.result (c.refuse_argument-in_default.ensures (g.S.Scopes.state c.args.self.now.scopes.now) ns)
    (λ k. other_open k c.args.want c.args.x.at (coded_in ns c.args.x.coded) c.args.x.coded.operand c.in_default.not-StringConstant c.in_default.not-Variable)

pub same-requires-clause-suits : goal.same-requires-clause-suits
same-requires-clause-suits g c = c.requires.suits.around

pub same-requires-clause-x : goal.same-requires-clause-x
same-requires-clause-x g c = c.requires.want

pub returns-in-DontKnowYet-clause-codes : goal.returns-in-DontKnowYet-clause-codes
returns-in-DontKnowYet-clause-codes g c = question_waits _ _ c.in-DontKnowYet.ensures.reads c.in-DontKnowYet.ensures.waits

pub array_argument-requires-clause-suits : goal.array_argument-requires-clause-suits
array_argument-requires-clause-suits g c = c.requires.suits

pub array_argument-requires-clause-want : goal.array_argument-requires-clause-want
array_argument-requires-clause-want g c = c.requires.want

pub array_argument-requires-clause-x : goal.array_argument-requires-clause-x
array_argument-requires-clause-x g c = c.requires.x

pub array_argument-requires-clause-of : goal.array_argument-requires-clause-of
array_argument-requires-clause-of g c = subst (λ (o : Operand). IsOperand (g.S.Scopes.state c.args.self.now.scopes.now).frame o) c.in-Variable.is c.requires.x.operand

pub returns-in-Variable-clause-codes : goal.returns-in-Variable-clause-codes
returns-in-Variable-clause-codes g c =
    let x = coded_in c.args.self.now.fragments.now.nodes.items c.args.x.coded in
    described c.array_argument.result c.array_argument.ensures.codes (λ k. ap (open_argument k c.args.want c.args.x.at x) (sym c.in-Variable.is))

pub returns-in-Variable-clause-keeps : goal.returns-in-Variable-clause-keeps
returns-in-Variable-clause-keeps g c = c.array_argument.ensures.keeps
