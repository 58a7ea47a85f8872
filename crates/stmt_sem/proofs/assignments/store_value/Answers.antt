use Rattle.std.proofs.Common.{◌∙◌, ◌∷◌, [], ℕ, Bool, ap, sym, subst, refl, if◌then◌else◌}
use Rattle.m2_base.specs.Gives.{gives}
use Rattle.m2_base.specs.States.{Frame}
use Rattle.m2_base.specs.Statics.Contexts.{Context}
use Rattle.m2_base.specs.Statics.Operands.{operand_type}
use Rattle.m2_base.specs.Statics.Types.{size_of}
use Rattle.m2_base.specs.declared.rows.Place.{Place}
use Rattle.code_form.specs.declared.instr.Instr.TheVariants.{Move, Store}
use Rattle.const_eval.proofs.Later.{SuitsSite_read}
use Rattle.const_eval.proofs.TypesThere.{type_there}
use Rattle.type_rules.specs.Scenes.{IsThere}
use Rattle.type_rules.specs.Sites.{context_of}
use Rattle.block_code.specs.Coded.{value_code}
use Rattle.expr_sem.specs.Codings.{IsCoded, coded_in}
use Rattle.block_code.specs.Fitting.{fitted_code}
use Rattle.expr_sem.specs.Fragments.{part}
use Rattle.block_code.specs.Parts.{Part, plain, ◌⨟◌}
use Rattle.expr_sem.proofs.Making.{after_question, made_alone, question_waits}
use Rattle.expr_sem.proofs.Onwards.{in_after}
use Rattle.expr_sem.proofs.Operating.{coding_after, unknown, unmade}
use Rattle.expr_sem.proofs.Quiet.{no_notes}
use Rattle.expr_sem.proofs.Selecting.{stays_read}
use Rattle.expr_sem.proofs.Sequencing.{part_later}
use Rattle.block_code.specs.Assignments.{store_value}
use Rattle.stmt_sem.proofs.assignments.store_value.Goals as goal

pub is_structured-requires-clause-of : goal.is_structured-requires-clause-of
is_structured-requires-clause-of g c =
    subst (λ (t : Place). IsThere (g.S.Scopes.state c.args.scopes.now).frame t) (sym c.operand_type-of.ensures) (type_there c.requires.suits.around c.args.to.operand c.requires.to.operand)

pub returns-in-DontKnowYet : goal.returns-in-DontKnowYet
returns-in-DontKnowYet g c notes = question_waits notes _ c.is_structured.ensures.reads c.in-DontKnowYet.ensures.waits

-- ---- a value of one cell

pub fitted_code-requires-clause-to : goal.fitted_code-requires-clause-to
fitted_code-requires-clause-to g c =
    subst (λ (t : Place). IsThere (g.S.Scopes.state c.is_structured.new.scopes).frame t) (sym c.operand_type-of.ensures)
    (stays_read (λ (f : Frame). IsThere f (operand_type c.args.to.operand)) c.in-Known.ensures.reads (type_there c.requires.suits.around c.args.to.operand c.requires.to.operand))

pub fitted_code-requires-clause-x : goal.fitted_code-requires-clause-x
fitted_code-requires-clause-x g c = stays_read (λ (f : Frame). IsCoded f c.args.fragments.now.nodes.items c.args.x) c.in-Known.ensures.reads c.requires.x

pub returns-in-DontKnowYet-asked : goal.returns-in-DontKnowYet-asked
returns-in-DontKnowYet-asked g c notes =
    let ns = c.args.fragments.now.nodes.items in
    let stored = λ (k : Context). gives (store_value k (operand_type c.args.to.operand) (part ns c.args.to.code) (coded_in ns c.args.x)) in
    after_question {g = stored} _ c.in-Known.ensures.reads (unknown (rw c.in-DontKnowYet-asked.is at c.in-Ok.ensures notes)) (λ made in_hand told. refl)

pub returns-in-Err : goal.returns-in-Err
returns-in-Err g c notes =
    let ns = c.args.fragments.now.nodes.items in
    let stored = λ (k : Context). gives (store_value k (operand_type c.args.to.operand) (part ns c.args.to.code) (coded_in ns c.args.x)) in
    after_question {g = stored} _ c.in-Known.ensures.reads (unmade (c.in-Err.ensures notes) _) (λ made in_hand told. refl)

pub stored-requires-clause-to : goal.stored-requires-clause-to
stored-requires-clause-to g c = in_after (rw c.in-Known-asked.is at c.in-Ok.ensures (no_notes c.args.fragments.now)) c.args.to.code c.requires.to.code

pub stored-requires-clause-value : goal.stored-requires-clause-value
stored-requires-clause-value g c = (rw c.in-Known-asked.is at c.in-Ok.ensures (no_notes c.args.fragments.now)).there

pub returns-then-not-structured : goal.returns-then-not-structured
returns-then-not-structured g c notes =
    let ns = c.args.fragments.now.nodes.items in
    let ms = c.fitted_code.new.fragments.nodes.items in
    let to = part ns c.args.to.code in
    let x = coded_in ns c.args.x in
    let of = c.operand_type-of.result in
    let one = rw c.in-Known-asked.is at c.in-Ok.ensures notes in
    after_question c.answered.result c.in-Known.ensures.reads
    (coding_after (λ k. gives (fitted_code k of x)) (λ (p : Part) k. gives (to ⨟ p ⨟ plain (Store ∷ []))) c.answered.result one
    (made_alone notes c.stored.result c.answered.result (λ k. to ⨟ part ms c.in-Known-asked.value ⨟ plain (Store ∷ [])) c.answered.ensures c.stored.ensures
    (λ made. ap (λ (q : Part). q ⨟ part ms c.in-Known-asked.value ⨟ plain (Store ∷ [])) (part_later one.grows c.args.to.code c.requires.to.code))))
    (λ made in_hand told. let k = context_of (g.S.Scopes.state c.args.scopes.now).frame made c.args.site.now in
    ap (λ (b : Bool). gives (if b then (to ⨟ value_code k x ⨟ plain (Move (size_of k.scene of) ∷ [])) else (to ⨟ fitted_code k of x ⨟ plain (Store ∷ [])))) (sym c.if-not-structured.true ∙ c.in-Known.ensures.told made in_hand told)
    ∙ ap (λ (t : Place). gives (store_value k t to x)) c.operand_type-of.ensures)

-- ---- an array or a record

pub cells_of-requires-clause-of : goal.cells_of-requires-clause-of
cells_of-requires-clause-of g c =
    subst (λ (t : Place). IsThere (g.S.Scopes.state c.is_structured.new.scopes).frame t) (sym c.operand_type-of.ensures)
    (stays_read (λ (f : Frame). IsThere f (operand_type c.args.to.operand)) c.in-Known.ensures.reads (type_there c.requires.suits.around c.args.to.operand c.requires.to.operand))

pub returns-in-DontKnowYet-cells_of : goal.returns-in-DontKnowYet-cells_of
returns-in-DontKnowYet-cells_of g c notes =
    let ns = c.args.fragments.now.nodes.items in
    let stored = λ (k : Context). gives (store_value k (operand_type c.args.to.operand) (part ns c.args.to.code) (coded_in ns c.args.x)) in
    after_question {g = stored} _ c.in-Known.ensures.reads (question_waits notes _ c.cells_of.ensures.reads c.in-DontKnowYet-cells_of.ensures.waits) (λ made in_hand told. refl)

pub value_code-requires-clause-x : goal.value_code-requires-clause-x
value_code-requires-clause-x g c =
    let kept = λ (f : Frame). IsCoded f c.args.fragments.now.nodes.items c.args.x in
    stays_read kept c.in-Known-cells_of.ensures.reads (stays_read kept c.in-Known.ensures.reads c.requires.x)

pub returns-in-DontKnowYet-asked-2 : goal.returns-in-DontKnowYet-asked-2
returns-in-DontKnowYet-asked-2 g c notes =
    let ns = c.args.fragments.now.nodes.items in
    let stored = λ (k : Context). gives (store_value k (operand_type c.args.to.operand) (part ns c.args.to.code) (coded_in ns c.args.x)) in
    after_question {g = stored} _ c.in-Known.ensures.reads (after_question {g = stored} _ c.in-Known-cells_of.ensures.reads (unknown (rw c.in-DontKnowYet-asked-2.is at c.in-Ok-value_code.ensures notes)) (λ made in_hand told. refl)) (λ made in_hand told. refl)

pub returns-in-Err-value_code : goal.returns-in-Err-value_code
returns-in-Err-value_code g c notes =
    let ns = c.args.fragments.now.nodes.items in
    let stored = λ (k : Context). gives (store_value k (operand_type c.args.to.operand) (part ns c.args.to.code) (coded_in ns c.args.x)) in
    after_question {g = stored} _ c.in-Known.ensures.reads (after_question {g = stored} _ c.in-Known-cells_of.ensures.reads (unmade (c.in-Err-value_code.ensures notes) _) (λ made in_hand told. refl)) (λ made in_hand told. refl)

pub stored-requires-2-clause-to : goal.stored-requires-2-clause-to
stored-requires-2-clause-to g c = in_after (rw c.in-Known-asked-2.is at c.in-Ok-value_code.ensures (no_notes c.args.fragments.now)) c.args.to.code c.requires.to.code

pub stored-requires-2-clause-value : goal.stored-requires-2-clause-value
stored-requires-2-clause-value g c = (rw c.in-Known-asked-2.is at c.in-Ok-value_code.ensures (no_notes c.args.fragments.now)).there

pub returns : goal.returns
returns g c notes =
    let ns = c.args.fragments.now.nodes.items in
    let ms = c.value_code.new.fragments.nodes.items in
    let to = part ns c.args.to.code in
    let x = coded_in ns c.args.x in
    let of = c.operand_type-of.result in
    let size = c.in-Known-cells_of.value in
    let value = c.in-Known-asked-2.value in
    let one = rw c.in-Known-asked-2.is at c.in-Ok-value_code.ensures notes in
    let r = c.answered-2.result in
    after_question {g = λ (k : Context). gives (to ⨟ value_code k x ⨟ plain (Move (size_of k.scene of) ∷ []))} r c.in-Known.ensures.reads
    (after_question {g = λ (k : Context). gives (to ⨟ value_code k x ⨟ plain (Move size ∷ []))} r c.in-Known-cells_of.ensures.reads
    (coding_after (λ k. gives (value_code k x)) (λ (p : Part) k. gives (to ⨟ p ⨟ plain (Move size ∷ []))) r one
    (made_alone notes c.stored-2.result r (λ k. to ⨟ part ms value ⨟ plain (Move size ∷ [])) c.answered-2.ensures c.stored-2.ensures
    (λ made. ap (λ (q : Part). q ⨟ part ms value ⨟ plain (Move size ∷ [])) (part_later one.grows c.args.to.code c.requires.to.code))))
    (λ made in_hand told. let k = context_of (g.S.Scopes.state c.is_structured.new.scopes).frame made c.args.site.now in
    ap (λ (n : ℕ). gives (to ⨟ value_code k x ⨟ plain (Move n ∷ []))) (c.in-Known-cells_of.ensures.told made in_hand told)))
    (λ made in_hand told. let k = context_of (g.S.Scopes.state c.args.scopes.now).frame made c.args.site.now in
    ap (λ (b : Bool). gives (if b then (to ⨟ value_code k x ⨟ plain (Move (size_of k.scene of) ∷ [])) else (to ⨟ fitted_code k of x ⨟ plain (Store ∷ [])))) (sym c.if-not-structured.false ∙ c.in-Known.ensures.told made in_hand told)
    ∙ ap (λ (t : Place). gives (store_value k t to x)) c.operand_type-of.ensures)

pub fitted_code-requires-clause-suits : goal.fitted_code-requires-clause-suits
fitted_code-requires-clause-suits g c = SuitsSite_read c.in-Known.ensures.reads c.requires.suits

pub cells_of-requires-clause-suits : goal.cells_of-requires-clause-suits
cells_of-requires-clause-suits g c = (SuitsSite_read c.in-Known.ensures.reads c.requires.suits).around

pub value_code-requires-clause-suits : goal.value_code-requires-clause-suits
value_code-requires-clause-suits g c = SuitsSite_read c.in-Known-cells_of.ensures.reads (SuitsSite_read c.in-Known.ensures.reads c.requires.suits)
