use Rattle.std.proofs.Common.{◌∙◌, ◌∷◌, [], Bool, Ok, ap, sym, subst, refl, if◌then◌else◌}
use Rattle.m2_base.specs.Gives.{gives}
use Rattle.m2_base.specs.States.{Frame}
use Rattle.m2_base.specs.Statics.Types.{range_of, size_of}
use Rattle.m2_base.specs.declared.operands.Operand.TheVariants.{Variable}
use Rattle.m2_base.specs.declared.replies.Ask.TheVariants.{Known}
use Rattle.type_rules.specs.Scenes.{IsThere}
use Rattle.type_rules.specs.Sites.{context_of}
use Rattle.type_rules.proofs.Later.{IsThere_read, Suits_read}
use Rattle.type_rules.proofs.Reading.{Reads-trans}
use Rattle.const_eval.proofs.Later.{SuitsSite_read}
use Rattle.block_code.specs.Coded.{coded, in_error, value_code}
use Rattle.expr_sem.specs.Codings.{coded_in}
use Rattle.block_code.specs.Elements.{index_instr}
use Rattle.expr_sem.specs.Fragments.{part}
use Rattle.block_code.specs.Parts.{plain, ◌⨟◌}
use Rattle.expr_sem.proofs.Following.{by_question, still_coded, then_failed, then_unknown, then_waits, then_wanted}
use Rattle.expr_sem.proofs.Making.{after_question, question_waits}
use Rattle.expr_sem.proofs.Operating.{coding_after, described}
use Rattle.expr_sem.proofs.Quiet.{no_notes}
use Rattle.expr_sem.proofs.Selecting.{error_alone}
use Rattle.expr_sem.proofs.Sequencing.{in_later, part_later}
use Rattle.expr_sem.proofs.coder.Coder.element_of_array.Goals as goal

pub is_spoilt-requires-clause-suits : goal.is_spoilt-requires-clause-suits
is_spoilt-requires-clause-suits g c = c.requires.suits.around

pub is_spoilt-requires-clause-of : goal.is_spoilt-requires-clause-of
is_spoilt-requires-clause-of g c = c.requires.of

pub returns-in-DontKnowYet-clause-codes : goal.returns-in-DontKnowYet-clause-codes
returns-in-DontKnowYet-clause-codes g c = question_waits _ _ c.is_spoilt.ensures.reads c.in-DontKnowYet.ensures.waits

pub returns-then-value-clause-codes : goal.returns-then-value-clause-codes
returns-then-value-clause-codes g c =
    let notes = c.args.self.now.notes.now in
    let ns = c.args.self.now.fragments.now.nodes.items in
    after_question (Ok (Known c.in_error.result)) c.is_spoilt.ensures.reads
    (error_alone _ notes _ _ c.in_error.result (λ k. gives in_error) c.in_error.ensures.told c.in_error.ensures.there (λ k. refl))
    (λ made in_hand told. let k = (context_of (g.S.Scopes.state c.args.self.now.scopes.now).frame made c.args.self.now.site.now) in ap (λ (b : Bool). if b then gives in_error else gives (coded (Variable c.args.of) (part ns c.args.x.code ⨟ value_code k (coded_in ns c.args.index) ⨟ plain (index_instr (range_of k.scene c.args.indices) (size_of k.scene c.args.of) ∷ [])))) (sym c.if-value.true ∙ c.in-Known.ensures.told made in_hand told))

pub extent-requires-clause-suits : goal.extent-requires-clause-suits
extent-requires-clause-suits g c = Suits_read c.is_spoilt.ensures.reads c.requires.suits.around

pub extent-requires-clause-index : goal.extent-requires-clause-index
extent-requires-clause-index g c = IsThere_read c.is_spoilt.ensures.reads c.requires.indices

pub extent-requires-clause-of : goal.extent-requires-clause-of
extent-requires-clause-of g c = IsThere_read c.is_spoilt.ensures.reads c.requires.of

pub returns-in-DontKnowYet-extent-clause-codes : goal.returns-in-DontKnowYet-extent-clause-codes
returns-in-DontKnowYet-extent-clause-codes g c =
    then_waits (by_question c.args.self.now.notes.now c.args.self.now.fragments.now.nodes.items c.is_spoilt.ensures.reads) c.extent.ensures.reads c.in-DontKnowYet-extent.ensures.waits

pub returns-in_err-find-clause-codes : goal.returns-in_err-find-clause-codes
returns-in_err-find-clause-codes g c =
    then_failed c.from_residual.result c.from_residual.ensures.0 (by_question c.args.self.now.notes.now c.args.self.now.fragments.now.nodes.items (Reads-trans c.is_spoilt.ensures.reads c.extent.ensures.reads))

pub value_code-requires-clause-suits : goal.value_code-requires-clause-suits
value_code-requires-clause-suits g c = SuitsSite_read (Reads-trans c.is_spoilt.ensures.reads c.extent.ensures.reads) c.requires.suits

pub value_code-requires-clause-x : goal.value_code-requires-clause-x
value_code-requires-clause-x g c =
    still_coded (by_question c.args.self.now.notes.now c.args.self.now.fragments.now.nodes.items (Reads-trans c.is_spoilt.ensures.reads c.extent.ensures.reads)) c.args.index c.requires.index

pub returns-in-DontKnowYet-asked-clause-codes : goal.returns-in-DontKnowYet-asked-clause-codes
returns-in-DontKnowYet-asked-clause-codes g c =
    let notes = c.args.self.now.notes.now in
    then_unknown (by_question notes c.args.self.now.fragments.now.nodes.items (Reads-trans c.is_spoilt.ensures.reads c.extent.ensures.reads)) (rw c.in-DontKnowYet-asked.is at c.in-Ok.ensures notes)

pub returns-in-Err-clause-codes : goal.returns-in-Err-clause-codes
returns-in-Err-clause-codes g c =
    let notes = c.args.self.now.notes.now in
    then_wanted (by_question notes c.args.self.now.fragments.now.nodes.items (Reads-trans c.is_spoilt.ensures.reads c.extent.ensures.reads)) (c.in-Err.ensures notes) _

pub applied-requires-clause-x : goal.applied-requires-clause-x
applied-requires-clause-x g c = let one = (rw c.in-Known-asked.is at c.in-Ok.ensures (no_notes c.args.self.now.fragments.now)) in in_later one.grows c.args.x.code c.requires.x.code

pub applied-requires-clause-y : goal.applied-requires-clause-y
applied-requires-clause-y g c = let one = (rw c.in-Known-asked.is at c.in-Ok.ensures (no_notes c.args.self.now.fragments.now)) in one.there

pub returns-clause-codes : goal.returns-clause-codes
returns-clause-codes g c =
    let notes = c.args.self.now.notes.now in
    let site = c.args.self.now.site.now in
    let ns = c.args.self.now.fragments.now.nodes.items in
    let ms = c.value_code.new.fragments.nodes.items in
    let find = c.in_ok-find.find in
    let one = (rw c.in-Known-asked.is at c.in-Ok.ensures notes) in
    let reads = Reads-trans c.is_spoilt.ensures.reads c.extent.ensures.reads in
    let there = subst (λ (f : Frame). IsThere f c.args.of) (sym one.works.keeps.frame) (IsThere_read reads c.requires.of) in
    after_question c.answered_as.result c.is_spoilt.ensures.reads
    (after_question {h = λ k. gives (coded (Variable c.args.of) (part ns c.args.x.code ⨟ value_code k (coded_in ns c.args.index) ⨟ plain (index_instr (range_of k.scene c.args.indices) (size_of k.scene c.args.of) ∷ [])))} c.answered_as.result c.extent.ensures.reads
    (described c.answered_as.result
    (coding_after (λ k. gives (value_code k (coded_in ns c.args.index))) (λ q k. gives (coded (Variable c.args.of) (part ms c.args.x.code ⨟ q ⨟ plain (find ∷ [])))) c.answered_as.result one
    (c.answered_as.ensures (g.S.Scopes.state c.value_code.new.scopes) notes site _ _ _ there c.applied.ensures))
    (λ k. ap (λ r. gives (coded (Variable c.args.of) (r ⨟ value_code k (coded_in ns c.args.index) ⨟ plain (find ∷ [])))) (part_later one.grows c.args.x.code c.requires.x.code)))
    (λ made in_hand told. let k = (context_of (g.S.Scopes.state c.is_spoilt.new.scopes).frame made site) in
    ap (λ i. gives (coded (Variable c.args.of) (part ns c.args.x.code ⨟ value_code k (coded_in ns c.args.index) ⨟ plain (i ∷ []))))
    (c.in_ok-find.ensures ∙ ap (λ r. index_instr r c.in-Known-extent.value.1) (c.in-Known-extent.ensures.ends made in_hand told) ∙ ap (λ n. index_instr (range_of k.scene c.args.indices) n) (c.in-Known-extent.ensures.size made in_hand told))))
    (λ made in_hand told. let k = (context_of (g.S.Scopes.state c.args.self.now.scopes.now).frame made site) in
    ap (λ (b : Bool). if b then gives in_error else gives (coded (Variable c.args.of) (part ns c.args.x.code ⨟ value_code k (coded_in ns c.args.index) ⨟ plain (index_instr (range_of k.scene c.args.indices) (size_of k.scene c.args.of) ∷ [])))) (sym c.if-value.false ∙ c.in-Known.ensures.told made in_hand told))
