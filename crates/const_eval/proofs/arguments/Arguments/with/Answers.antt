use Rattle.std.proofs.Common.{◌≡◌, ◌∙◌, false, ap, refl, sym}
use Rattle.std.specs.Prelude.{◌||◌}
use Rattle.m2_base.specs.declared.operands.Operand.{Operand}
use Rattle.m2_base.specs.declared.operands.Operand.TheVariants.{InError}
use Rattle.const_eval.specs.Calls.{is_in_error, with_argument}
use Rattle.const_eval.specs.declared.arguments.Shape.{Shape}
use Rattle.const_eval.specs.declared.arguments.Shape.TheVariants.{Empty, More, One}
use Rattle.const_eval.specs.declared.operands.Argument.{Argument}
use Rattle.const_eval.proofs.CallKinds.{shape_more, spoilt_more}
use Rattle.const_eval.proofs.arguments.Arguments.with.Goals.{then-self, else-self+in-InError, else-self+in_default}
use Rattle.const_eval.proofs.arguments.Arguments.with.Goals as goal

many : (s : Shape) (a : Argument) → (s ≡ Empty → ⊥) → ((b : Argument) → s ≡ One b → ⊥) → More ≡ with_argument s a
many Empty a empty one = absurd (empty refl)
many (One b) a empty one = absurd (one b refl)
many s a empty one = refl

sound : (o : Operand) → (o ≡ InError → ⊥) → false ≡ is_in_error o
sound InError other = absurd (other refl)
sound o other = refl

pub returns-in_default-shape-clause-summary : goal.returns-in_default-shape-clause-summary
returns-in_default-shape-clause-summary c list s =
    let a = c.args.arg in
    let spoilt : c.if-self.spoilt ≡ (c.args.self.spoilt || is_in_error a.operand) = elim c.if-self.branch [
      | then-self w ↦ w.spoilt-is ∙ w.if-self.true ∙ ap (λ b. b || is_in_error a.operand) (sym w.if-self.true)
      | else-self+in-InError w ↦ w.spoilt-is ∙ ap (λ o. false || is_in_error o) (sym w.in-InError.is) ∙ ap (λ b. b || is_in_error a.operand) (sym w.if-self.false)
      | else-self+in_default w ↦ w.spoilt-is ∙ sound a.operand w.in_default.not-InError ∙ ap (λ b. b || is_in_error a.operand) (sym w.if-self.false)
    ] in
    record {
      shape = many c.args.self.shape a c.in_default-shape.not-Empty c.in_default-shape.not-One ∙ ap (λ shape. with_argument shape a) s.shape ∙ sym (shape_more list a);
      spoilt = spoilt ∙ ap (λ b. b || is_in_error a.operand) s.spoilt ∙ sym (spoilt_more list a);
    }
