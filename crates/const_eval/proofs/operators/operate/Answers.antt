use Rattle.std.proofs.Common.{◌≡◌, if◌then◌else◌, true, ◌∙◌, refl, sym, ap, false, subst, ◌⊎◌, inl, inr, ℕ}
use Rattle.m2_base.specs.Statics.Operations.{on_alike, operate, membership, operate_by, wrong, logical}
use Rattle.m2_base.specs.States.{Frame}
use Rattle.m2_base.specs.declared.operands.Operand.{Operand}
use Rattle.m2_base.specs.declared.operands.Operand.TheVariants.{InError}
use Rattle.m2_base.specs.Statics.Contexts.{Context}
use Rattle.m2_base.specs.declared.trees.operators.Operator.{Operator}
use Rattle.m2_base.specs.declared.trees.operators.Operator.TheVariants.{And, Or}
use Rattle.type_rules.specs.Sites.{context_of}
use Rattle.const_eval.proofs.Judging.{judged_as}
use Rattle.const_eval.proofs.Operating.{operate_on, other_operator}
use Rattle.type_rules.proofs.Reading.{Reads-refl}
use Rattle.m2_base.specs.Statics.Operands.{is_bad, is_procedure, operand_type, worse}
use Rattle.m2_base.specs.Statics.Types.{kind_of}
use Rattle.std.specs.Prelude.{◌||◌}
use Rattle.m2_base.specs.Gives.{gives}
use Rattle.const_eval.proofs.Refusals.{or_true}
use Rattle.const_eval.specs.Sites.{IsOperand}
use Rattle.const_eval.proofs.operators.operate.Goals as goal
use Rattle.const_eval.proofs.operators.operate.Goals.{then-is_bad-via-then-is_bad, then-is_bad-via-else-is_bad+then-is_bad-2, then-is_procedure-via-then-is_procedure, then-is_procedure-via-else-is_procedure+then-is_procedure-2}

logical_operator : (k : Context) (op : Operator) (at : ℕ) (x : Operand) (x_at : ℕ) (y : Operand) (y_at : ℕ) → (op ≡ And) ⊎ (op ≡ Or) → logical k op at x y ≡ operate_by k op at x x_at y y_at
logical_operator k op at x x_at y y_at (inl e) = ap (λ o. logical k o at x y) e ∙ sym (ap (λ o. operate_by k o at x x_at y y_at) e)
logical_operator k op at x x_at y y_at (inr e) = ap (λ o. logical k o at x y) e ∙ sym (ap (λ o. operate_by k o at x x_at y y_at) e)

worse_there : (f : Frame) (x y : Operand) → IsOperand f (worse x y)
worse_there f InError y = tt
worse_there f x InError = tt
worse_there f x y = tt

pub returns-in_default : goal.returns-in_default
returns-in_default g c =
    let f = (g.S.Scopes.state c.args.scopes.now).frame in
    let s = c.args.site.now in
    let op = c.args.operator.operator in
    let x = c.args.x in
    let y = c.args.y in
    record {
      reads = c.on_alike.ensures.reads;
      waits = c.on_alike.ensures.waits;
      told = λ made in_hand told.
          judged_as c.on_alike.result f f s (λ h rows. on_alike (context_of h rows s) op c.args.operator.at x.operand x.at y.operand y.at)
          made (operate (context_of f made s) op c.args.operator.at x.operand x.at y.operand y.at)
          refl c.on_alike.ensures.told
          (other_operator (context_of f made s) op c.args.operator.at x.operand x.at y.operand y.at c.in_default.not-And c.in_default.not-Or c.in_default.not-In
          ∙ operate_on (context_of f made s) op c.args.operator.at x.operand x.at y.operand y.at (sym c.is_bad.ensures ∙ c.if-is_bad.false) (sym c.is_bad-else-is_bad.ensures ∙ c.if-is_bad-2.false)
          (sym c.is_procedure.ensures ∙ c.if-is_procedure.false) (sym c.is_procedure-else-is_procedure.ensures ∙ c.if-is_procedure-2.false)) in_hand told;
      there = c.on_alike.ensures.there;
    }

pub logical-requires-clause-suits : goal.logical-requires-clause-suits
logical-requires-clause-suits g c = c.requires.suits

pub logical-requires-clause-x : goal.logical-requires-clause-x
logical-requires-clause-x g c = c.requires.x

pub logical-requires-clause-y : goal.logical-requires-clause-y
logical-requires-clause-y g c = c.requires.y

pub membership-requires-clause-suits : goal.membership-requires-clause-suits
membership-requires-clause-suits g c = c.requires.suits

pub membership-requires-clause-x : goal.membership-requires-clause-x
membership-requires-clause-x g c = c.requires.x

pub membership-requires-clause-y : goal.membership-requires-clause-y
membership-requires-clause-y g c = c.requires.y

pub on_alike-requires-clause-suits : goal.on_alike-requires-clause-suits
on_alike-requires-clause-suits g c = c.requires.suits

pub on_alike-requires-clause-x : goal.on_alike-requires-clause-x
on_alike-requires-clause-x g c = c.requires.x

pub on_alike-requires-clause-y : goal.on_alike-requires-clause-y
on_alike-requires-clause-y g c = c.requires.y

pub returns-in-In-clause-reads : goal.returns-in-In-clause-reads
returns-in-In-clause-reads g c = c.membership.ensures.reads

pub returns-in-In-clause-waits : goal.returns-in-In-clause-waits
returns-in-In-clause-waits g c = c.membership.ensures.waits

pub returns-in-In-clause-there : goal.returns-in-In-clause-there
returns-in-In-clause-there g c = c.membership.ensures.there

pub returns-in-In-clause-told : goal.returns-in-In-clause-told
returns-in-In-clause-told g c made in_hand told =
    let f = (g.S.Scopes.state c.args.scopes.now).frame in
    let s = c.args.site.now in
    let now = context_of f made s in
    let op = c.args.operator.operator in
    let at = c.args.operator.at in
    let x = c.args.x in
    let y = c.args.y in
    judged_as c.membership.result f f s (λ h rows. membership (context_of h rows s) at x.operand x.at y.operand (kind_of (context_of h rows s).scene (operand_type y.operand)))
    made (operate now op at x.operand x.at y.operand y.at) refl c.membership.ensures.told
    (ap (λ o. operate_by now o at x.operand x.at y.operand y.at) (sym c.in-In.is)
    ∙ operate_on now op at x.operand x.at y.operand y.at (sym c.is_bad.ensures ∙ c.if-is_bad.false) (sym c.is_bad-else-is_bad.ensures ∙ c.if-is_bad-2.false)
    (sym c.is_procedure.ensures ∙ c.if-is_procedure.false) (sym c.is_procedure-else-is_procedure.ensures ∙ c.if-is_procedure-2.false)) in_hand told

pub returns-in-And-clause-reads : goal.returns-in-And-clause-reads
returns-in-And-clause-reads g c = c.logical.ensures.reads

pub returns-in-And-clause-waits : goal.returns-in-And-clause-waits
returns-in-And-clause-waits g c = c.logical.ensures.waits

pub returns-in-And-clause-there : goal.returns-in-And-clause-there
returns-in-And-clause-there g c = c.logical.ensures.there

pub returns-then-is_bad-clause-reads : goal.returns-then-is_bad-clause-reads
returns-then-is_bad-clause-reads g c = Reads-refl _

pub returns-then-is_bad-clause-waits : goal.returns-then-is_bad-clause-waits
returns-then-is_bad-clause-waits g c = tt

pub returns-then-is_procedure-clause-reads : goal.returns-then-is_procedure-clause-reads
returns-then-is_procedure-clause-reads g c = Reads-refl _

pub returns-then-is_procedure-clause-waits : goal.returns-then-is_procedure-clause-waits
returns-then-is_procedure-clause-waits g c = tt

pub returns-then-is_procedure-clause-there : goal.returns-then-is_procedure-clause-there
returns-then-is_procedure-clause-there g c = tt

pub returns-then-is_bad-clause-told : goal.returns-then-is_bad-clause-told
returns-then-is_bad-clause-told g c made in_hand told =
    let now = context_of (g.S.Scopes.state c.args.scopes.now).frame made c.args.site.now in
    let at = c.args.operator.at in
    let x = c.args.x in
    let y = c.args.y in
    let bad : (is_bad x.operand || is_bad y.operand) ≡ true = elim c.then-is_bad.branch [
      | then-is_bad-via-then-is_bad w ↦ ap (λ t. t || is_bad y.operand) (sym c.is_bad.ensures ∙ w.if-is_bad.true)
      | then-is_bad-via-else-is_bad+then-is_bad-2 w ↦ ap (λ t. is_bad x.operand || t) (sym w.is_bad-else-is_bad.ensures ∙ w.if-is_bad-2.true) ∙ or_true (is_bad x.operand)
    ] in
    ap (λ o. gives o) c.worse.ensures
    ∙ sym (ap (λ t. if t then gives (worse x.operand y.operand) else if is_procedure x.operand || is_procedure y.operand then wrong now at else operate_by now c.args.operator.operator at x.operand x.at y.operand y.at) bad)

pub is_bad-requires : goal.is_bad-requires
is_bad-requires g c = tt

pub is_bad-requires-else-is_bad : goal.is_bad-requires-else-is_bad
is_bad-requires-else-is_bad g c = tt

pub is_procedure-requires : goal.is_procedure-requires
is_procedure-requires g c = tt

pub is_procedure-requires-else-is_procedure : goal.is_procedure-requires-else-is_procedure
is_procedure-requires-else-is_procedure g c = tt

pub worse-requires : goal.worse-requires
worse-requires g c = tt

pub returns-then-is_procedure-clause-told : goal.returns-then-is_procedure-clause-told
returns-then-is_procedure-clause-told g c made in_hand told =
    let now = context_of (g.S.Scopes.state c.args.scopes.now).frame made c.args.site.now in
    let at = c.args.operator.at in
    let x = c.args.x in
    let y = c.args.y in
    let good : (is_bad x.operand || is_bad y.operand) ≡ false =
    ap (λ t. t || is_bad y.operand) (sym c.is_bad.ensures ∙ c.if-is_bad.false) ∙ sym c.is_bad-else-is_bad.ensures ∙ c.if-is_bad-2.false in
    let procedure : (is_procedure x.operand || is_procedure y.operand) ≡ true = elim c.then-is_procedure.branch [
      | then-is_procedure-via-then-is_procedure w ↦ ap (λ t. t || is_procedure y.operand) (sym c.is_procedure.ensures ∙ w.if-is_procedure.true)
      | then-is_procedure-via-else-is_procedure+then-is_procedure-2 w ↦ ap (λ t. is_procedure x.operand || t) (sym w.is_procedure-else-is_procedure.ensures ∙ w.if-is_procedure-2.true) ∙ or_true (is_procedure x.operand)
    ] in
    let by = operate_by now c.args.operator.operator at x.operand x.at y.operand y.at in
    sym (ap (λ t. if t then gives (worse x.operand y.operand) else if is_procedure x.operand || is_procedure y.operand then wrong now at else by) good
    ∙ ap (λ t. if t then wrong now at else by) procedure)

pub returns-then-is_bad-clause-there : goal.returns-then-is_bad-clause-there
returns-then-is_bad-clause-there g c =
    let f = (g.S.Scopes.state c.args.scopes.now).frame in
    subst (λ o. IsOperand f o) (sym c.worse.ensures) (worse_there f c.args.x.operand c.args.y.operand)

pub returns-in-And-clause-told : goal.returns-in-And-clause-told
returns-in-And-clause-told g c made in_hand told =
    let f = (g.S.Scopes.state c.args.scopes.now).frame in
    let s = c.args.site.now in
    let op = c.args.operator.operator in
    let x = c.args.x in
    let y = c.args.y in
    judged_as c.logical.result f f s (λ h rows. logical (context_of h rows s) op c.args.operator.at x.operand y.operand)
    made (operate (context_of f made s) op c.args.operator.at x.operand x.at y.operand y.at)
    refl c.logical.ensures.told
    (logical_operator (context_of f made s) op c.args.operator.at x.operand x.at y.operand y.at c.in-And.is
    ∙ operate_on (context_of f made s) op c.args.operator.at x.operand x.at y.operand y.at (sym c.is_bad.ensures ∙ c.if-is_bad.false) (sym c.is_bad-else-is_bad.ensures ∙ c.if-is_bad-2.false)
    (sym c.is_procedure.ensures ∙ c.if-is_procedure.false) (sym c.is_procedure-else-is_procedure.ensures ∙ c.if-is_procedure-2.false)) in_hand told
