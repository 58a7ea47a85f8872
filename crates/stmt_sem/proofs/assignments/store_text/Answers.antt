use Rattle.std.proofs.Common.{◌≡◌, ◌∙◌, ◌∷◌, [], ◌+◌, ℕ, List, length, ap, arith, min, refl, subst, sym}
use Rattle.std.specs.Prelude.{vec_len}
use Rattle.m2_base.specs.Finished.{source_of}
use Rattle.m2_base.specs.Statics.Operands.{operand_type}
use Rattle.m2_base.specs.Statics.Types.{size_of}
use Rattle.m2_base.specs.declared.rows.Place.{Place}
use Rattle.code_form.specs.declared.instr.Instr.TheVariants.{Move}
use Rattle.const_eval.proofs.TypesThere.{type_there}
use Rattle.type_rules.specs.Scenes.{IsThere}
use Rattle.type_rules.specs.Sites.{context_of}
use Rattle.block_code.specs.Coded.{characters}
use Rattle.expr_sem.specs.Fragments.{IsMade, part}
use Rattle.block_code.specs.Parts.{plain, text, ◌⨟◌}
use Rattle.expr_sem.proofs.Following.{by_question, then_failed}
use Rattle.expr_sem.proofs.Making.{made_told, question_full, question_waits}
use Rattle.expr_sem.proofs.Sequencing.{in_later, joined_same, made_after, part_later}
use Rattle.block_code.specs.Assignments.{store_text}
use Rattle.stmt_sem.proofs.assignments.store_text.Goals as goal

pub cells_of-requires-clause-of : goal.cells_of-requires-clause-of
cells_of-requires-clause-of g c =
    subst (λ (t : Place). IsThere (g.S.Scopes.state c.args.scopes.now).frame t) (sym c.operand_type.ensures) (type_there c.requires.suits.around c.args.to.operand c.requires.to.operand)

pub returns-in-DontKnowYet : goal.returns-in-DontKnowYet
returns-in-DontKnowYet g c notes = question_waits notes _ c.cells_of.ensures.reads c.in-DontKnowYet.ensures.waits

pub returns-in_err-string : goal.returns-in_err-string
returns-in_err-string g c notes = question_full notes c.from_residual-in_err-string.result c.from_residual-in_err-string.ensures.0 c.in-Known.ensures.reads c.in_err-string.ensures.made

pub stored-requires-clause-to : goal.stored-requires-clause-to
stored-requires-clause-to g c = in_later c.in_ok-string.ensures.made.grows c.args.to.code c.requires.to.code

pub stored-requires-clause-value : goal.stored-requires-clause-value
stored-requires-clause-value g c = c.in_ok-string.ensures.made.made.there

pub returns : goal.returns
returns g c notes =
    let ns = c.args.fragments.now.nodes.items in
    let to = part ns c.args.to.code in
    let string = c.in_ok-string.ensures.made in
    let bytes = c.in_ok-bytes.bytes in
    let chars = characters (source_of c.args.site.now.texts.now) c.args.name in
    let same : vec_len bytes ≡ length bytes.items = omega (arith, bytes.ok.0) in
    let whole : IsMade ns c.stored.new.fragments.nodes.items c.stored.result (to ⨟ text bytes.items ⨟ plain (Move (min (length bytes.items + 1) c.in-Known.value) ∷ [])) =
    made_after c.stored.result string.grows c.stored.ensures
    (joined_same (part_later string.grows c.args.to.code c.requires.to.code) (joined_same string.made.part_is (ap (λ (n : ℕ). plain (Move n ∷ [])) (c.cells_taken-cells.ensures ∙ ap (λ (n : ℕ). min (n + 1) c.in-Known.value) (c.len.ensures ∙ same))))) in
    made_told notes c.stored.result c.answered.result (λ k. store_text k (operand_type c.args.to.operand) to (characters k.source c.args.name)) c.answered.ensures c.in-Known.ensures.reads whole
    (λ made in_hand told. let k = context_of (g.S.Scopes.state c.args.scopes.now).frame made c.args.site.now in
    ap (λ (l : List ℕ). to ⨟ text l ⨟ plain (Move (min (length l + 1) c.in-Known.value) ∷ [])) (c.in_ok-bytes.ensures (source_of c.args.site.now.texts.now) refl)
    ∙ ap (λ (n : ℕ). to ⨟ text chars ⨟ plain (Move (min (length chars + 1) n) ∷ [])) (c.in-Known.ensures.told made in_hand told ∙ ap (λ (t : Place). size_of k.scene t) c.operand_type.ensures))

pub returns-in_err-bytes : goal.returns-in_err-bytes
returns-in_err-bytes g c notes = then_failed c.from_residual.result c.from_residual.ensures.0 (by_question notes _ c.in-Known.ensures.reads)
