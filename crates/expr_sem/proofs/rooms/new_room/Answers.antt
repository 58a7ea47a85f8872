use Rattle.std.specs.Prelude.{is_some}
use Rattle.std.proofs.lemmas.Bool.{false≢true}
use Rattle.std.proofs.Common.{◌≡◌, ◌∙◌, ◌||◌, ℕ, Bool, Option, None, Some, false, ap, sym, subst, refl, if◌then◌else◌}
use Rattle.m2_base.specs.Gives.{gives}
use Rattle.m2_base.specs.Standard.{broken}
use Rattle.m2_base.specs.States.{Frame}
use Rattle.m2_base.specs.Statics.Contexts.{Context}
use Rattle.m2_base.specs.Statics.Operands.{operand_type}
use Rattle.m2_base.specs.Statics.TypeParts.{target_of}
use Rattle.m2_base.specs.Statics.Types.{is_broken, size_of}
use Rattle.m2_base.specs.declared.rows.Place.{Place}
use Rattle.const_eval.proofs.TypesThere.{standard_there, type_there}
use Rattle.type_rules.proofs.Later.{IsThere_read, Suits_read}
use Rattle.type_rules.proofs.Reading.{Reads-refl, Reads-trans, Waits_read}
use Rattle.type_rules.specs.Scenes.{IsThere}
use Rattle.type_rules.specs.Sites.{context_of}
use Rattle.block_code.specs.Coded.{in_error}
use Rattle.expr_sem.specs.Fragments.{part}
use Rattle.expr_sem.specs.Rooms.{room_at, room_of}
use Rattle.expr_sem.proofs.Making.{after_question, question_failed, question_waits}
use Rattle.expr_sem.proofs.Selecting.{error_alone, stays_read}
use Rattle.expr_sem.proofs.rooms.new_room.Goals as goal

none_of : (o : Option ℕ) (b : Bool) → b ≡ is_some o → b ≡ false → o ≡ None
none_of None b e f = refl
none_of (Some n) b e f = absurd (false≢true (sym f ∙ e))

pub returns-then-is_bad : goal.returns-then-is_bad
returns-then-is_bad g c notes =
    error_alone _ notes _ _ c.in_error.result _ c.in_error.ensures.told c.in_error.ensures.there
    (λ k. let t = target_of k.scene (operand_type c.args.x.operand) in
    ap (λ (b : Bool). gives (if b || is_broken k.scene t then in_error else room_at (part c.args.fragments.now.nodes.items c.args.x.code) (size_of k.scene t))) (sym c.if-is_bad.true ∙ c.is_bad.ensures))

pub returns-then-is_some : goal.returns-then-is_some
returns-then-is_some g c notes = question_failed notes _ (Reads-refl _) _

pub target_of-requires-clause-of : goal.target_of-requires-clause-of
target_of-requires-clause-of g c =
    subst (λ (t : Place). IsThere (g.S.Scopes.state c.args.scopes.now).frame t) (sym c.operand_type.ensures) (type_there c.requires.suits.around c.args.x.operand c.requires.x.operand)

pub target_of-requires-clause-closed : goal.target_of-requires-clause-closed
target_of-requires-clause-closed g c = c.requires.suits.done (none_of c.args.site.now.item c.is_some.result c.is_some.ensures c.if-is_some.false)

pub returns-in-DontKnowYet : goal.returns-in-DontKnowYet
returns-in-DontKnowYet g c notes = question_waits notes _ c.target_of.ensures.reads c.in-DontKnowYet.ensures.waits

pub is_broken-requires-clause-suits : goal.is_broken-requires-clause-suits
is_broken-requires-clause-suits g c = Suits_read c.in-Known.ensures.reads c.requires.suits.around

pub is_broken-requires-clause-there : goal.is_broken-requires-clause-there
is_broken-requires-clause-there g c = IsThere_read c.in-Known.ensures.reads c.in-Known.ensures.there

pub returns-in-DontKnowYet-is_broken : goal.returns-in-DontKnowYet-is_broken
returns-in-DontKnowYet-is_broken g c notes =
    let reads = Reads-trans c.in-Known.ensures.reads c.in-DontKnowYet-is_broken.ensures.reads in
    question_waits notes _ reads (Waits_read c.in-Known.ensures.reads c.in-DontKnowYet-is_broken.ensures.waits)

pub returns-then-value : goal.returns-then-value
returns-then-value g c notes =
    let p = part c.args.fragments.now.nodes.items c.args.x.code in
    after_question {g = λ (k : Context). gives (room_of k.scene p c.in-Known.value)} _ c.in-Known.ensures.reads
    (after_question {g = λ (k : Context). gives in_error} _ c.in-Known-is_broken.ensures.reads
    (error_alone _ notes _ _ c.in_error-then-value.result (λ (k : Context). gives in_error) c.in_error-then-value.ensures.told c.in_error-then-value.ensures.there (λ k. refl))
    (λ rows in_hand told. let k = context_of (g.S.Scopes.state c.target_of.new.scopes).frame rows c.args.site.now in
    ap (λ (b : Bool). gives (if b then in_error else room_at p (size_of k.scene c.in-Known.value))) (sym c.if-value.true ∙ c.in-Known-is_broken.ensures.told rows in_hand told)))
    (λ rows in_hand told. let k = context_of (g.S.Scopes.state c.args.scopes.now).frame rows c.args.site.now in
    ap (λ (t : Place). gives (room_of k.scene p t)) (c.in-Known.ensures.told rows in_hand told ∙ ap (λ (t : Place). target_of k.scene t) c.operand_type.ensures)
    ∙ ap (λ (b : Bool). gives (if b || is_broken k.scene (target_of k.scene (operand_type c.args.x.operand)) then in_error else room_at p (size_of k.scene (target_of k.scene (operand_type c.args.x.operand))))) (sym c.if-is_bad.false ∙ c.is_bad.ensures))

pub cells_of-requires-clause-suits : goal.cells_of-requires-clause-suits
cells_of-requires-clause-suits g c = Suits_read (Reads-trans c.in-Known.ensures.reads c.in-Known-is_broken.ensures.reads) c.requires.suits.around

pub cells_of-requires-clause-of : goal.cells_of-requires-clause-of
cells_of-requires-clause-of g c = IsThere_read (Reads-trans c.in-Known.ensures.reads c.in-Known-is_broken.ensures.reads) c.in-Known.ensures.there

pub returns-in-DontKnowYet-cells_of : goal.returns-in-DontKnowYet-cells_of
returns-in-DontKnowYet-cells_of g c notes =
    let before = Reads-trans c.in-Known.ensures.reads c.in-Known-is_broken.ensures.reads in
    question_waits notes _ (Reads-trans before c.in-DontKnowYet-cells_of.ensures.reads) (Waits_read before c.in-DontKnowYet-cells_of.ensures.waits)

pub returns : goal.returns
returns g c notes =
    let ns = c.args.fragments.now.nodes.items in
    let p = part ns c.args.x.code in
    let reads = Reads-trans (Reads-trans c.in-Known.ensures.reads c.in-Known-is_broken.ensures.reads) c.in-Known-cells_of.ensures.reads in
    after_question {g = λ (k : Context). gives (room_of k.scene p c.in-Known.value)} _ c.in-Known.ensures.reads
    (after_question {g = λ (k : Context). gives (room_at p (size_of k.scene c.in-Known.value))} _ c.in-Known-is_broken.ensures.reads
    (after_question {g = λ (k : Context). gives (room_at p c.in-Known-cells_of.value)} _ c.in-Known-cells_of.ensures.reads
    (c.answered_as.ensures (g.S.Scopes.state c.cells_of.new.scopes) notes c.args.site.now _ _ _ (stays_read (λ (f : Frame). IsThere f broken) reads (standard_there c.requires.suits.around 10)) c.instr_behind.ensures)
    (λ rows in_hand told. ap (λ (s : ℕ). gives (room_at p s)) (c.in-Known-cells_of.ensures.told rows in_hand told)))
    (λ rows in_hand told. let k = context_of (g.S.Scopes.state c.target_of.new.scopes).frame rows c.args.site.now in
    ap (λ (b : Bool). gives (if b then in_error else room_at p (size_of k.scene c.in-Known.value))) (sym c.if-value.false ∙ c.in-Known-is_broken.ensures.told rows in_hand told)))
    (λ rows in_hand told. let k = context_of (g.S.Scopes.state c.args.scopes.now).frame rows c.args.site.now in
    ap (λ (t : Place). gives (room_of k.scene p t)) (c.in-Known.ensures.told rows in_hand told ∙ ap (λ (t : Place). target_of k.scene t) c.operand_type.ensures)
    ∙ ap (λ (b : Bool). gives (if b || is_broken k.scene (target_of k.scene (operand_type c.args.x.operand)) then in_error else room_at p (size_of k.scene (target_of k.scene (operand_type c.args.x.operand))))) (sym c.if-is_bad.false ∙ c.is_bad.ensures))
