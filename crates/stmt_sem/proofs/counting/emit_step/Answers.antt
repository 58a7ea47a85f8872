use Rattle.std.proofs.Common.{◌≡◌, ◌∙◌, ◌∷◌, [], ℕ, ℤ, List, ap, sym, subst, refl, rules, of_z, to_z, w64}
use Rattle.m2_base.specs.States.{State}
use Rattle.m2_base.specs.declared.notes.Notes.{Notes}
use Rattle.m2_base.specs.declared.rows.Place.{Place}
use Rattle.code_form.specs.declared.instr.Instr.TheVariants.{Push, Store, Load, Dup, Add}
use Rattle.const_eval.proofs.TypesThere.{type_there}
use Rattle.type_rules.specs.Scenes.{IsThere}
use Rattle.type_rules.specs.Sites.{context_of}
use Rattle.expr_sem.specs.Codings.{coded_in}
use Rattle.expr_sem.specs.Fragments.{Grows, IsMade, part}
use Rattle.block_code.specs.Parts.{plain, ◌⨟◌}
use Rattle.expr_sem.specs.declared.fragments.Node.{Node}
use Rattle.expr_sem.proofs.Following.{Leads, by_question, then_full}
use Rattle.expr_sem.proofs.Making.{made_told, question_waits}
use Rattle.expr_sem.proofs.Sequencing.{Grows-trans, joined_same, made_after, part_later}
use Rattle.block_code.specs.Counting.{for_step}
use Rattle.block_code.specs.Operators.{side_of}
use Rattle.stmt_sem.proofs.counting.emit_step.Goals as goal

-- and further fragments
with_more : {a b : State} {x y : Notes} {n1 n2 n3 : List Node} → Leads a b x y n1 n2 → Grows n2 n3 → Leads a b x y n1 n3
with_more p g = record { works = p.works; grows = Grows-trans p.grows g }

pub side_of-requires-clause-of : goal.side_of-requires-clause-of
side_of-requires-clause-of g c =
    subst (λ (t : Place). IsThere (g.S.Scopes.state c.args.scopes.now).frame t) (sym c.operand_type.ensures) (type_there c.requires.suits.around c.args.x.operand c.requires.x.operand)

pub returns-in-DontKnowYet : goal.returns-in-DontKnowYet
returns-in-DontKnowYet g c notes = question_waits notes _ c.side_of.ensures.reads c.in-DontKnowYet.ensures.waits

pub returns-in_err-loaded : goal.returns-in_err-loaded
returns-in_err-loaded g c notes =
    then_full c.from_residual.result c.from_residual.ensures.0 (by_question notes _ c.in-Known.ensures.reads) c.in_err-loaded.ensures

pub returns-in_err-sum : goal.returns-in_err-sum
returns-in_err-sum g c notes =
    then_full c.from_residual-in_err-sum.result c.from_residual-in_err-sum.ensures.0 (with_more (by_question notes _ c.in-Known.ensures.reads) c.in_ok-loaded.ensures.grows) c.in_err-sum.ensures

pub returns-in_err-stored : goal.returns-in_err-stored
returns-in_err-stored g c notes =
    then_full c.from_residual-in_err-stored.result c.from_residual-in_err-stored.ensures.0 (with_more (by_question notes _ c.in-Known.ensures.reads) (Grows-trans c.in_ok-loaded.ensures.grows c.in_ok-sum.ensures.grows)) c.in_err-stored.ensures

pub returns-in_err-next : goal.returns-in_err-next
returns-in_err-next g c notes =
    then_full c.from_residual-in_err-next.result c.from_residual-in_err-next.ensures.0
    (with_more (by_question notes _ c.in-Known.ensures.reads) (Grows-trans c.in_ok-loaded.ensures.grows (Grows-trans c.in_ok-sum.ensures.grows c.in_ok-stored.ensures.grows))) c.in_err-next.ensures.made

pub returns : goal.returns
returns g c notes =
    let ns = c.args.fragments.now.nodes.items in
    let x = c.args.x.code in
    let side = c.in-Known.value in
    let loaded = c.in_ok-loaded.ensures in
    let sum = c.in_ok-sum.ensures in
    let stored = c.in_ok-stored.ensures in
    let next = c.in_ok-next.ensures.made in
    let later = Grows-trans sum.grows stored.grows in
    let grows = Grows-trans loaded.grows (Grows-trans later next.grows) in
    let value : to_z w64 (of_z w64 c.args.by) ≡ c.args.by = search rules in
    let last : part c.instr_behind.new.fragments.nodes.items c.in_ok-stored.stored ≡ plain (Push (to_z w64 (of_z w64 c.args.by)) ∷ Add side ∷ Store ∷ []) =
    stored.made.part_is ∙ joined_same {q = plain (Store ∷ [])} {s = plain (Store ∷ [])} sum.made.part_is refl in
    let whole : IsMade ns c.then-2.new.self.nodes.items c.then-2.result (part ns x ⨟ plain (Dup ∷ Load ∷ Push (to_z w64 (of_z w64 c.args.by)) ∷ Add side ∷ Store ∷ [])) =
    made_after c.then-2.result grows c.then-2.ensures.made
    (joined_same (part_later grows x c.requires.x.code)
    (next.made.part_is ∙ joined_same (part_later later c.in_ok-loaded.loaded loaded.made.there ∙ loaded.made.part_is) last)) in
    made_told notes c.then-2.result c.answered.result (λ k. for_step k.scene (coded_in ns c.args.x) c.args.by) c.answered.ensures c.in-Known.ensures.reads whole
    (λ made in_hand told. let k = context_of (g.S.Scopes.state c.args.scopes.now).frame made c.args.site.now in
    ap (λ (v : ℤ). part ns x ⨟ plain (Dup ∷ Load ∷ Push v ∷ Add side ∷ Store ∷ [])) value
    ∙ ap (λ (n : ℕ). part ns x ⨟ plain (Dup ∷ Load ∷ Push c.args.by ∷ Add n ∷ Store ∷ [])) (c.in-Known.ensures.told made in_hand told ∙ ap (λ (t : Place). side_of k.scene t) c.operand_type.ensures))
