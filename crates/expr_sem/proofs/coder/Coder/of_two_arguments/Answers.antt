use Rattle.std.proofs.Common.{◌≡◌, ◌⊎◌, ℕ, ap, inl, inr, subst, sym, refl}
use Rattle.m2_base.specs.Gives.{and_then, gives}
use Rattle.m2_base.specs.Statics.Contexts.{Context}
use Rattle.m2_base.specs.declared.builtins.Builtin.{Builtin}
use Rattle.m2_base.specs.declared.builtins.Builtin.TheVariants.{Dec, Excl, Inc, Incl, Val}
use Rattle.block_code.specs.Coded.{Coded, in_error}
use Rattle.expr_sem.specs.Codings.{coded_in}
use Rattle.block_code.specs.StandardProcedures.{included, of_two_arguments, set_member, step_number, stepped}
use Rattle.expr_sem.proofs.Onwards.{coded_after, suits_after}
use Rattle.expr_sem.proofs.Operating.{coding_after, described, unknown, unmade}
use Rattle.expr_sem.proofs.Selecting.{error_alone}
use Rattle.expr_sem.proofs.coder.Coder.of_two_arguments.Goals as goal

of_others : (c : Context) (f : Builtin) (x_at : ℕ) (x : Coded) (at : ℕ) (y : Coded) → (f ≡ Inc → ⊥) → (f ≡ Dec → ⊥) → (f ≡ Incl → ⊥) → (f ≡ Excl → ⊥) → (f ≡ Val → ⊥) → gives in_error ≡ of_two_arguments c f x_at x at y
of_others c Inc x_at x at y h1 h2 h3 h4 h5 = absurd (h1 refl)
of_others c Dec x_at x at y h1 h2 h3 h4 h5 = absurd (h2 refl)
of_others c Incl x_at x at y h1 h2 h3 h4 h5 = absurd (h3 refl)
of_others c Excl x_at x at y h1 h2 h3 h4 h5 = absurd (h4 refl)
of_others c Val x_at x at y h1 h2 h3 h4 h5 = absurd (h5 refl)
of_others c f x_at x at y h1 h2 h3 h4 h5 = refl

-- a number is added, and an element
of_number : (c : Context) (f : Builtin) (x_at : ℕ) (x : Coded) (at : ℕ) (y : Coded) → (f ≡ Inc) ⊎ (f ≡ Dec) → and_then (step_number c x at y) (λ n. gives (stepped c f x n)) ≡ of_two_arguments c f x_at x at y
of_number c f x_at x at y is =
    elim is as (λ _. and_then (step_number c x at y) (λ n. gives (stepped c f x n)) ≡ of_two_arguments c f x_at x at y) [
      | inl e ↦ subst (λ (g : Builtin). and_then (step_number c x at y) (λ n. gives (stepped c g x n)) ≡ of_two_arguments c g x_at x at y) (sym e) refl
      | inr e ↦ subst (λ (g : Builtin). and_then (step_number c x at y) (λ n. gives (stepped c g x n)) ≡ of_two_arguments c g x_at x at y) (sym e) refl
    ]

of_element : (c : Context) (f : Builtin) (x_at : ℕ) (x : Coded) (at : ℕ) (y : Coded) → (f ≡ Incl) ⊎ (f ≡ Excl) → and_then (set_member c x at y) (λ e. gives (included c f x e)) ≡ of_two_arguments c f x_at x at y
of_element c f x_at x at y is =
    elim is as (λ _. and_then (set_member c x at y) (λ e. gives (included c f x e)) ≡ of_two_arguments c f x_at x at y) [
      | inl e ↦ subst (λ (g : Builtin). and_then (set_member c x at y) (λ v. gives (included c g x v)) ≡ of_two_arguments c g x_at x at y) (sym e) refl
      | inr e ↦ subst (λ (g : Builtin). and_then (set_member c x at y) (λ v. gives (included c g x v)) ≡ of_two_arguments c g x_at x at y) (sym e) refl
    ]

pub step_number-requires-clause-x : goal.step_number-requires-clause-x
step_number-requires-clause-x g c = c.requires.x.operand

pub step_number-requires-clause-n : goal.step_number-requires-clause-n
step_number-requires-clause-n g c = (c.args.self.now.fragments.now.nodes.items, c.requires.y)

pub returns-in-DontKnowYet-clause-codes : goal.returns-in-DontKnowYet-clause-codes
returns-in-DontKnowYet-clause-codes g c = unknown (rw c.in-DontKnowYet.is at c.in-Ok.ensures c.args.self.now.fragments.now.nodes.items c.requires.y)

pub returns-in-Err-clause-codes : goal.returns-in-Err-clause-codes
returns-in-Err-clause-codes g c = unmade (c.in-Err.ensures c.args.self.now.fragments.now.nodes.items c.requires.y) _

pub stepped-requires-clause-suits : goal.stepped-requires-clause-suits
stepped-requires-clause-suits g c = suits_after (rw c.in-Known.is at c.in-Ok.ensures c.args.self.now.fragments.now.nodes.items c.requires.y) c.requires.suits

pub stepped-requires-clause-x : goal.stepped-requires-clause-x
stepped-requires-clause-x g c = coded_after (rw c.in-Known.is at c.in-Ok.ensures c.args.self.now.fragments.now.nodes.items c.requires.y) c.args.x.coded c.requires.x

pub stepped-requires-clause-n : goal.stepped-requires-clause-n
stepped-requires-clause-n g c =
    let first = rw c.in-Known.is at c.in-Ok.ensures c.args.self.now.fragments.now.nodes.items c.requires.y in
    coded_after first c.in-Known.value first.there

pub returns-in-Known-clause-codes : goal.returns-in-Known-clause-codes
returns-in-Known-clause-codes g c =
    let ns = c.args.self.now.fragments.now.nodes.items in
    let x = coded_in ns c.args.x.coded in
    let y = coded_in ns c.args.y.coded in
    described c.stepped.result
    (coding_after (λ k. step_number k x c.args.y.at y) (λ v k. gives (stepped k c.args.f x v)) c.stepped.result (rw c.in-Known.is at c.in-Ok.ensures ns c.requires.y) c.stepped.ensures.codes)
    (λ k. of_number k c.args.f c.args.x.at x c.args.y.at y c.in-Inc.is)

pub returns-in-Incl-clause-codes : goal.returns-in-Incl-clause-codes
returns-in-Incl-clause-codes g c =
    let ns = c.args.self.now.fragments.now.nodes.items in
    described c.included.result c.included.ensures.codes (λ k. of_element k c.args.f c.args.x.at (coded_in ns c.args.x.coded) c.args.y.at (coded_in ns c.args.y.coded) c.in-Incl.is)

pub returns-in-Val-clause-codes : goal.returns-in-Val-clause-codes
returns-in-Val-clause-codes g c =
    let ns = c.args.self.now.fragments.now.nodes.items in
    described c.on_value.result c.on_value.ensures.codes (λ k. ap (λ (f : Builtin). of_two_arguments k f c.args.x.at (coded_in ns c.args.x.coded) c.args.y.at (coded_in ns c.args.y.coded)) (sym c.in-Val.is))

pub returns-in_default-clause-codes : goal.returns-in_default-clause-codes
returns-in_default-clause-codes g c =
    let ns = c.args.self.now.fragments.now.nodes.items in
    error_alone _ _ _ _ c.in_error.result _ c.in_error.ensures.told c.in_error.ensures.there
    (λ k. of_others k c.args.f c.args.x.at (coded_in ns c.args.x.coded) c.args.y.at (coded_in ns c.args.y.coded) c.in_default.not-Inc c.in_default.not-Dec c.in_default.not-Incl c.in_default.not-Excl c.in_default.not-Val)
