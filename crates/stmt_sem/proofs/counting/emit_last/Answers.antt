use Rattle.std.proofs.Common.{◌∙◌, ◌∷◌, [], ℕ, Ok, ap, sym, subst, refl}
use Rattle.std.proofs.Math.Path.{fun_ext}
use Rattle.m2_base.specs.Gives.{gives}
use Rattle.m2_base.specs.Statics.Contexts.{Context}
use Rattle.m2_base.specs.Statics.Operands.{operand_type}
use Rattle.m2_base.specs.declared.replies.Ask.TheVariants.{Known}
use Rattle.m2_base.specs.declared.rows.Place.{Place}
use Rattle.code_form.specs.declared.instr.Instr.TheVariants.{Local, Store}
use Rattle.const_eval.proofs.TypesThere.{type_there}
use Rattle.type_rules.specs.Scenes.{IsThere}
use Rattle.expr_sem.specs.Codings.{coded_in}
use Rattle.block_code.specs.Fitting.{fitted_code}
use Rattle.block_code.specs.Parts.{Part, none, plain, ◌⨟◌}
use Rattle.expr_sem.specs.declared.fragments.Fragment.TheVariants.{Nothing}
use Rattle.expr_sem.proofs.Onwards.{with_grown}
use Rattle.expr_sem.proofs.Operating.{described, unknown, unmade, value_alone}
use Rattle.expr_sem.proofs.Sequencing.{Grows-refl}
use Rattle.stmt_sem.specs.FlowTrees.{code_by}
use Rattle.stmt_sem.specs.Taken.{IsCellCode}
use Rattle.stmt_sem.specs.declared.flows.Code.TheVariants.{Fixed, Stored}
use Rattle.stmt_sem.proofs.LoopCases.{first_bad, none_bad, second_bad}
use Rattle.stmt_sem.proofs.counting.emit_last.Goals as goal
use Rattle.stmt_sem.proofs.counting.emit_last.Goals.{then-is_bad-via-then-is_bad, then-is_bad-via-else-is_bad+then-is_bad-2}

-- a part's value, in this cell
abbrev in_cell : (cell : ℕ) → Part → Part
in_cell t p = plain (Local 0 t ∷ []) ⨟ p ⨟ plain (Store ∷ [])

pub returns-then-is_bad : goal.returns-then-is_bad
returns-then-is_bad g c notes =
    let ns = c.args.fragments.now.nodes.items in
    let stored = λ (k : Context) (t : ℕ). in_cell t (fitted_code k (operand_type c.args.x.operand) (coded_in ns c.args.last)) in
    described (Ok (Known (Fixed Nothing))) (value_alone (g.S.Scopes.state c.args.scopes.now) notes ns c.args.site.now (Fixed Nothing) IsCellCode code_by (λ k. λ t. none) tt (λ k. refl))
    (λ k. ap (λ (f : ℕ → Part). gives f) (fun_ext (λ t. elim c.then-is_bad.branch [
      | then-is_bad-via-then-is_bad w ↦ first_bad (stored k t) none _ _ (sym w.if-is_bad.true ∙ c.is_bad.ensures)
      | then-is_bad-via-else-is_bad+then-is_bad-2 w ↦ second_bad (stored k t) none _ _ (sym w.if-is_bad.false ∙ c.is_bad.ensures) (sym w.if-is_bad-2.true ∙ w.is_bad-else-is_bad.ensures)
    ])))

pub fitted_code-requires-clause-to : goal.fitted_code-requires-clause-to
fitted_code-requires-clause-to g c =
    subst (λ (t : Place). IsThere (g.S.Scopes.state c.args.scopes.now).frame t) (sym c.operand_type-of.ensures) (type_there c.requires.suits.around c.args.x.operand c.requires.x.operand)

pub returns-in-DontKnowYet : goal.returns-in-DontKnowYet
returns-in-DontKnowYet g c notes = unknown (rw c.in-DontKnowYet.is at c.in-Ok.ensures notes)

pub returns-in-Err : goal.returns-in-Err
returns-in-Err g c notes = unmade (c.in-Err.ensures notes) _

pub returns : goal.returns
returns g c notes =
    let ms = c.fitted_code.new.fragments.nodes.items in
    let last = coded_in c.args.fragments.now.nodes.items c.args.last in
    let one = rw c.in-Known.is at c.in-Ok.ensures notes in
    described (Ok (Known (Stored c.in-Known.value)))
    (with_grown {Q = IsCellCode} {as_q = code_by} (λ (p : Part) k. λ t. in_cell t p) (Stored c.in-Known.value) one (Grows-refl ms) one.there (λ k. refl))
    (λ k. ap (λ (f : ℕ → Part). gives f) (fun_ext (λ t.
    ap (λ (p : Place). in_cell t (fitted_code k p last)) c.operand_type-of.ensures
    ∙ none_bad (in_cell t (fitted_code k (operand_type c.args.x.operand) last)) none _ _ (sym c.if-is_bad.false ∙ c.is_bad.ensures) (sym c.if-is_bad-2.false ∙ c.is_bad-else-is_bad.ensures))))
