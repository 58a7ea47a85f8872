use Rattle.std.proofs.Common.{◌∙◌, Bool, Option, Some, None, Ok, Err, ap, sym, if◌then◌else◌}
use Rattle.std.specs.Option.{IfSome}
use Rattle.m2_base.specs.Gives.{and_then, gives}
use Rattle.m2_base.specs.States.{Frame}
use Rattle.m2_base.specs.Statics.Contexts.{refuse}
use Rattle.m2_base.specs.Statics.Diagnostics.{not_a_control_variable}
use Rattle.m2_base.specs.Statics.Uses.{use_of}
use Rattle.m2_base.specs.declared.replies.Ask.TheVariants.{DontKnowYet, Known}
use Rattle.m2_base.specs.declared.rows.Place.{Place}
use Rattle.m2_base.specs.declared.rows.Row.{Row}
use Rattle.const_eval.specs.Analyses.{Analysed}
use Rattle.type_rules.specs.Scenes.{IsRowOf}
use Rattle.type_rules.specs.Sites.{SuitsSite, context_of}
use Rattle.block_code.specs.Coded.{Coded, in_error}
use Rattle.expr_sem.specs.Codings.{IsCoded, with_types}
use Rattle.block_code.specs.Variables.{entry_coded}
use Rattle.expr_sem.proofs.Making.{after_question, question_waits}
use Rattle.expr_sem.proofs.Onwards.{holds_after, suits_after}
use Rattle.expr_sem.proofs.Operating.{coding_after, described, of_analysed, unknown_after, unmade_after}
use Rattle.expr_sem.proofs.Selecting.{error_alone, stays_read}
use Rattle.expr_sem.proofs.Sequencing.{Grows-refl}
use Rattle.block_code.specs.Counting.{controls, controls_by}
use Rattle.stmt_sem.proofs.LoopCases.{no_entry, withs_have}
use Rattle.stmt_sem.proofs.walker.Walker.control_variable.Goals as goal

pub returns-in-DontKnowYet-clause-codes : goal.returns-in-DontKnowYet-clause-codes
returns-in-DontKnowYet-clause-codes g c =
    question_waits _ _ c.field_of_withs.ensures.reads c.in-DontKnowYet.ensures.waits

pub returns-then-is_some-clause-codes : goal.returns-then-is_some-clause-codes
returns-then-is_some-clause-codes g c =
    after_question c.refused.result c.field_of_withs.ensures.reads (c.refused.ensures (g.S.Scopes.state c.field_of_withs.new.scopes) c.args.self.now.fragments.now.nodes.items)
    (λ made in_hand told. let k = context_of (g.S.Scopes.state c.args.self.now.scopes.now).frame made c.args.stand.now.site.now in
    ap (λ (b : Bool). if b then refuse k c.args.ident.at not_a_control_variable in_error else and_then (use_of k None c.args.ident.name c.args.ident.at) (controls k c.args.ident.at))
    (sym c.if-is_some.true ∙ c.is_some.ensures ∙ withs_have k.scene (with_types c.args.stand.now.withs.now) c.args.ident.name c.in-Known.value (c.in-Known.ensures.told made in_hand told)))

pub use_name-requires-clause-suits : goal.use_name-requires-clause-suits
use_name-requires-clause-suits g c =
    stays_read (λ (f : Frame). SuitsSite f c.args.stand.now.site.now) c.field_of_withs.ensures.reads c.requires.stand.suits

pub returns-in-DontKnowYet-asked-clause-codes : goal.returns-in-DontKnowYet-asked-clause-codes
returns-in-DontKnowYet-asked-clause-codes g c =
    after_question {g = λ k. and_then (use_of k None c.args.ident.name c.args.ident.at) (controls k c.args.ident.at)} (Ok (DontKnowYet c.in-DontKnowYet-asked.head)) c.field_of_withs.ensures.reads
    (record { works = c.use_name.ensures.works; waits = rw c.in-DontKnowYet-asked.is at c.in-Ok.ensures.waits; grows = Grows-refl _; told = λ made in_hand told of_site. tt; there = tt })
    (λ made in_hand told. let k = context_of (g.S.Scopes.state c.args.self.now.scopes.now).frame made c.args.stand.now.site.now in
    ap (λ (b : Bool). if b then refuse k c.args.ident.at not_a_control_variable in_error else and_then (use_of k None c.args.ident.name c.args.ident.at) (controls k c.args.ident.at))
    (sym c.if-is_some.false ∙ c.is_some.ensures ∙ withs_have k.scene (with_types c.args.stand.now.withs.now) c.args.ident.name c.in-Known.value (c.in-Known.ensures.told made in_hand told)))

pub returns-in-Err-clause-codes : goal.returns-in-Err-clause-codes
returns-in-Err-clause-codes g c =
    after_question {g = λ k. and_then (use_of k None c.args.ident.name c.args.ident.at) (controls k c.args.ident.at)} (Err c.in-Err.memory) c.field_of_withs.ensures.reads
    (record { works = c.use_name.ensures.works; waits = tt; grows = Grows-refl _; told = λ made in_hand told of_site. tt; there = tt })
    (λ made in_hand told. let k = context_of (g.S.Scopes.state c.args.self.now.scopes.now).frame made c.args.stand.now.site.now in
    ap (λ (b : Bool). if b then refuse k c.args.ident.at not_a_control_variable in_error else and_then (use_of k None c.args.ident.name c.args.ident.at) (controls k c.args.ident.at))
    (sym c.if-is_some.false ∙ c.is_some.ensures ∙ withs_have k.scene (with_types c.args.stand.now.withs.now) c.args.ident.name c.in-Known.value (c.in-Known.ensures.told made in_hand told)))

pub returns-in_default-clause-codes : goal.returns-in_default-clause-codes
returns-in_default-clause-codes g c =
    let first : Analysed {T = Option (Place × Row)} (g.S.Scopes.state c.field_of_withs.new.scopes) (g.S.Scopes.state c.use_name.new.scopes) c.args.self.now.notes.now c.use_name.new.notes c.args.stand.now.site.now
    (Ok (Known c.in-Known-asked.value)) (λ f e. IfSome e (λ r. IsRowOf f r.0 r.1)) (λ k. use_of k None c.args.ident.name c.args.ident.at) =
    record { works = c.use_name.ensures.works; waits = tt; told = rw c.in-Known-asked.is at c.in-Ok.ensures.told; there = rw c.in-Known-asked.is at c.in-Ok.ensures.row } in
    let one = of_analysed c.args.self.now.fragments.now.nodes.items (Ok (Known c.in-Known-asked.value)) first in
    let ns = c.args.self.now.fragments.now.nodes.items in
    let r = Ok (Known c.in_error.result) in
    after_question r c.field_of_withs.ensures.reads
    (coding_after (λ k. use_of k None c.args.ident.name c.args.ident.at) (λ e k. controls k c.args.ident.at e) r one
    (error_alone (g.S.Scopes.state c.use_name.new.scopes) c.use_name.new.notes ns c.args.stand.now.site.now c.in_error.result (λ k. controls k c.args.ident.at c.in-Known-asked.value) c.in_error.ensures.told c.in_error.ensures.there
    (λ k. no_entry k c.args.ident.at c.in-Known-asked.value c.in_default.not-Some)))
    (λ made in_hand told. let k = context_of (g.S.Scopes.state c.args.self.now.scopes.now).frame made c.args.stand.now.site.now in
    ap (λ (b : Bool). if b then refuse k c.args.ident.at not_a_control_variable in_error else and_then (use_of k None c.args.ident.name c.args.ident.at) (controls k c.args.ident.at))
    (sym c.if-is_some.false ∙ c.is_some.ensures ∙ withs_have k.scene (with_types c.args.stand.now.withs.now) c.args.ident.name c.in-Known.value (c.in-Known.ensures.told made in_hand told)))

pub entry_coded-requires-clause-suits : goal.entry_coded-requires-clause-suits
entry_coded-requires-clause-suits g c =
    let first : Analysed {T = Option (Place × Row)} (g.S.Scopes.state c.field_of_withs.new.scopes) (g.S.Scopes.state c.use_name.new.scopes) c.args.self.now.notes.now c.use_name.new.notes c.args.stand.now.site.now
    (Ok (Known c.in-Known-asked.value)) (λ f e. IfSome e (λ r. IsRowOf f r.0 r.1)) (λ k. use_of k None c.args.ident.name c.args.ident.at) =
    record { works = c.use_name.ensures.works; waits = tt; told = rw c.in-Known-asked.is at c.in-Ok.ensures.told; there = rw c.in-Known-asked.is at c.in-Ok.ensures.row } in
    let one = of_analysed c.args.self.now.fragments.now.nodes.items (Ok (Known c.in-Known-asked.value)) first in
    suits_after one (stays_read (λ (f : Frame). SuitsSite f c.args.stand.now.site.now) c.field_of_withs.ensures.reads c.requires.stand.suits)

pub entry_coded-requires-clause-entry : goal.entry_coded-requires-clause-entry
entry_coded-requires-clause-entry g c =
    let first : Analysed {T = Option (Place × Row)} (g.S.Scopes.state c.field_of_withs.new.scopes) (g.S.Scopes.state c.use_name.new.scopes) c.args.self.now.notes.now c.use_name.new.notes c.args.stand.now.site.now
    (Ok (Known c.in-Known-asked.value)) (λ f e. IfSome e (λ r. IsRowOf f r.0 r.1)) (λ k. use_of k None c.args.ident.name c.args.ident.at) =
    record { works = c.use_name.ensures.works; waits = tt; told = rw c.in-Known-asked.is at c.in-Ok.ensures.told; there = rw c.in-Known-asked.is at c.in-Ok.ensures.row } in
    let one = of_analysed c.args.self.now.fragments.now.nodes.items (Ok (Known c.in-Known-asked.value)) first in
    let row = holds_after one (λ (f : Frame). IsRowOf f c.in-Some.entry.0 c.in-Some.entry.1) (rw c.in-Some.is at (rw c.in-Known-asked.is at c.in-Ok.ensures.row)) in
    row

pub returns-in-DontKnowYet-asked-2-clause-codes : goal.returns-in-DontKnowYet-asked-2-clause-codes
returns-in-DontKnowYet-asked-2-clause-codes g c =
    let first : Analysed {T = Option (Place × Row)} (g.S.Scopes.state c.field_of_withs.new.scopes) (g.S.Scopes.state c.use_name.new.scopes) c.args.self.now.notes.now c.use_name.new.notes c.args.stand.now.site.now
    (Ok (Known c.in-Known-asked.value)) (λ f e. IfSome e (λ r. IsRowOf f r.0 r.1)) (λ k. use_of k None c.args.ident.name c.args.ident.at) =
    record { works = c.use_name.ensures.works; waits = tt; told = rw c.in-Known-asked.is at c.in-Ok.ensures.told; there = rw c.in-Known-asked.is at c.in-Ok.ensures.row } in
    let one = of_analysed c.args.self.now.fragments.now.nodes.items (Ok (Known c.in-Known-asked.value)) first in
    let r = Ok (DontKnowYet c.in-DontKnowYet-asked-2.head) in
    after_question {g = λ k. and_then (use_of k None c.args.ident.name c.args.ident.at) (controls k c.args.ident.at)} r c.field_of_withs.ensures.reads (unknown_after one (rw c.in-DontKnowYet-asked-2.is at c.in-Ok-entry_coded.ensures c.use_name.new.notes))
    (λ made in_hand told. let k = context_of (g.S.Scopes.state c.args.self.now.scopes.now).frame made c.args.stand.now.site.now in
    ap (λ (b : Bool). if b then refuse k c.args.ident.at not_a_control_variable in_error else and_then (use_of k None c.args.ident.name c.args.ident.at) (controls k c.args.ident.at))
    (sym c.if-is_some.false ∙ c.is_some.ensures ∙ withs_have k.scene (with_types c.args.stand.now.withs.now) c.args.ident.name c.in-Known.value (c.in-Known.ensures.told made in_hand told)))

pub returns-in-Err-entry_coded-clause-codes : goal.returns-in-Err-entry_coded-clause-codes
returns-in-Err-entry_coded-clause-codes g c =
    let first : Analysed {T = Option (Place × Row)} (g.S.Scopes.state c.field_of_withs.new.scopes) (g.S.Scopes.state c.use_name.new.scopes) c.args.self.now.notes.now c.use_name.new.notes c.args.stand.now.site.now
    (Ok (Known c.in-Known-asked.value)) (λ f e. IfSome e (λ r. IsRowOf f r.0 r.1)) (λ k. use_of k None c.args.ident.name c.args.ident.at) =
    record { works = c.use_name.ensures.works; waits = tt; told = rw c.in-Known-asked.is at c.in-Ok.ensures.told; there = rw c.in-Known-asked.is at c.in-Ok.ensures.row } in
    let one = of_analysed c.args.self.now.fragments.now.nodes.items (Ok (Known c.in-Known-asked.value)) first in
    let r = Err c.in-Err-entry_coded.memory in
    after_question {g = λ k. and_then (use_of k None c.args.ident.name c.args.ident.at) (controls k c.args.ident.at)} r c.field_of_withs.ensures.reads (unmade_after one (c.in-Err-entry_coded.ensures c.use_name.new.notes) _)
    (λ made in_hand told. let k = context_of (g.S.Scopes.state c.args.self.now.scopes.now).frame made c.args.stand.now.site.now in
    ap (λ (b : Bool). if b then refuse k c.args.ident.at not_a_control_variable in_error else and_then (use_of k None c.args.ident.name c.args.ident.at) (controls k c.args.ident.at))
    (sym c.if-is_some.false ∙ c.is_some.ensures ∙ withs_have k.scene (with_types c.args.stand.now.withs.now) c.args.ident.name c.in-Known.value (c.in-Known.ensures.told made in_hand told)))

pub check_control-requires-clause-suits : goal.check_control-requires-clause-suits
check_control-requires-clause-suits g c =
    let first : Analysed {T = Option (Place × Row)} (g.S.Scopes.state c.field_of_withs.new.scopes) (g.S.Scopes.state c.use_name.new.scopes) c.args.self.now.notes.now c.use_name.new.notes c.args.stand.now.site.now
    (Ok (Known c.in-Known-asked.value)) (λ f e. IfSome e (λ r. IsRowOf f r.0 r.1)) (λ k. use_of k None c.args.ident.name c.args.ident.at) =
    record { works = c.use_name.ensures.works; waits = tt; told = rw c.in-Known-asked.is at c.in-Ok.ensures.told; there = rw c.in-Known-asked.is at c.in-Ok.ensures.row } in
    let one = of_analysed c.args.self.now.fragments.now.nodes.items (Ok (Known c.in-Known-asked.value)) first in
    let two = rw c.in-Known-asked-2.is at c.in-Ok-entry_coded.ensures c.use_name.new.notes in
    suits_after two (suits_after one (stays_read (λ (f : Frame). SuitsSite f c.args.stand.now.site.now) c.field_of_withs.ensures.reads c.requires.stand.suits))

pub check_control-requires-clause-entry : goal.check_control-requires-clause-entry
check_control-requires-clause-entry g c =
    let first : Analysed {T = Option (Place × Row)} (g.S.Scopes.state c.field_of_withs.new.scopes) (g.S.Scopes.state c.use_name.new.scopes) c.args.self.now.notes.now c.use_name.new.notes c.args.stand.now.site.now
    (Ok (Known c.in-Known-asked.value)) (λ f e. IfSome e (λ r. IsRowOf f r.0 r.1)) (λ k. use_of k None c.args.ident.name c.args.ident.at) =
    record { works = c.use_name.ensures.works; waits = tt; told = rw c.in-Known-asked.is at c.in-Ok.ensures.told; there = rw c.in-Known-asked.is at c.in-Ok.ensures.row } in
    let one = of_analysed c.args.self.now.fragments.now.nodes.items (Ok (Known c.in-Known-asked.value)) first in
    let row = holds_after one (λ (f : Frame). IsRowOf f c.in-Some.entry.0 c.in-Some.entry.1) (rw c.in-Some.is at (rw c.in-Known-asked.is at c.in-Ok.ensures.row)) in
    let two = rw c.in-Known-asked-2.is at c.in-Ok-entry_coded.ensures c.use_name.new.notes in
    holds_after two (λ (f : Frame). IsRowOf f c.in-Some.entry.0 c.in-Some.entry.1) row

pub returns-clause-codes : goal.returns-clause-codes
returns-clause-codes g c =
    let first : Analysed {T = Option (Place × Row)} (g.S.Scopes.state c.field_of_withs.new.scopes) (g.S.Scopes.state c.use_name.new.scopes) c.args.self.now.notes.now c.use_name.new.notes c.args.stand.now.site.now
    (Ok (Known c.in-Known-asked.value)) (λ f e. IfSome e (λ r. IsRowOf f r.0 r.1)) (λ k. use_of k None c.args.ident.name c.args.ident.at) =
    record { works = c.use_name.ensures.works; waits = tt; told = rw c.in-Known-asked.is at c.in-Ok.ensures.told; there = rw c.in-Known-asked.is at c.in-Ok.ensures.row } in
    let one = of_analysed c.args.self.now.fragments.now.nodes.items (Ok (Known c.in-Known-asked.value)) first in
    let two = rw c.in-Known-asked-2.is at c.in-Ok-entry_coded.ensures c.use_name.new.notes in
    let ms = c.entry_coded.new.fragments.nodes.items in
    let at = c.args.ident.at in
    let r = c.check_control.result in
    after_question r c.field_of_withs.ensures.reads
    (coding_after (λ k. use_of k None c.args.ident.name c.args.ident.at) (λ e k. controls k c.args.ident.at e) r one
    (described r (coding_after (λ k. gives (entry_coded k (Some c.in-Some.entry))) (λ (x : Coded) k. controls_by k at c.in-Some.entry x x.operand) r two
    (c.check_control.ensures ms (holds_after two (λ (f : Frame). IsCoded f ms c.in-Known-asked-2.value) two.there)))
    (λ k. ap (λ e. controls k at e) (sym c.in-Some.is))))
    (λ made in_hand told. let k = context_of (g.S.Scopes.state c.args.self.now.scopes.now).frame made c.args.stand.now.site.now in
    ap (λ (b : Bool). if b then refuse k c.args.ident.at not_a_control_variable in_error else and_then (use_of k None c.args.ident.name c.args.ident.at) (controls k c.args.ident.at))
    (sym c.if-is_some.false ∙ c.is_some.ensures ∙ withs_have k.scene (with_types c.args.stand.now.withs.now) c.args.ident.name c.in-Known.value (c.in-Known.ensures.told made in_hand told)))
