use Rattle.std.proofs.Common.{◌≡◌, ◌⊎◌, ℕ, ap, inl, inr, sym, refl}
use Rattle.m2_base.specs.Gives.{gives}
use Rattle.m2_base.specs.Statics.Contexts.{Context}
use Rattle.m2_base.specs.declared.builtins.Builtin.{Builtin}
use Rattle.m2_base.specs.declared.builtins.Builtin.TheVariants.{Dec, Excl, Inc, Incl}
use Rattle.block_code.specs.Coded.{Coded}
use Rattle.expr_sem.specs.Codings.{IsCoded, coded_in}
use Rattle.block_code.specs.StandardProcedures.{first_of_two, ordinal_variable, set_variable}
use Rattle.expr_sem.proofs.Operating.{described, value_alone}
use Rattle.expr_sem.proofs.coder.Coder.first_of_two.Goals as goal

as_it_is : (c : Context) (f : Builtin) (at : ℕ) (x : Coded) → (f ≡ Inc → ⊥) → (f ≡ Dec → ⊥) → (f ≡ Incl → ⊥) → (f ≡ Excl → ⊥) → gives x ≡ first_of_two c f at x
as_it_is c Inc at x h1 h2 h3 h4 = absurd (h1 refl)
as_it_is c Dec at x h1 h2 h3 h4 = absurd (h2 refl)
as_it_is c Incl at x h1 h2 h3 h4 = absurd (h3 refl)
as_it_is c Excl at x h1 h2 h3 h4 = absurd (h4 refl)
as_it_is c f at x h1 h2 h3 h4 = refl

-- a number is added to an ordinal variable, and an element to a set
of_ordinal : (c : Context) (f : Builtin) (at : ℕ) (x : Coded) → (f ≡ Inc) ⊎ (f ≡ Dec) → ordinal_variable c at x ≡ first_of_two c f at x
of_ordinal c f at x is = elim is as (λ _. ordinal_variable c at x ≡ first_of_two c f at x) [ inl e ↦ ap (λ (g : Builtin). first_of_two c g at x) (sym e) | inr e ↦ ap (λ (g : Builtin). first_of_two c g at x) (sym e) ]

of_set : (c : Context) (f : Builtin) (at : ℕ) (x : Coded) → (f ≡ Incl) ⊎ (f ≡ Excl) → set_variable c at x ≡ first_of_two c f at x
of_set c f at x is = elim is as (λ _. set_variable c at x ≡ first_of_two c f at x) [ inl e ↦ ap (λ (g : Builtin). first_of_two c g at x) (sym e) | inr e ↦ ap (λ (g : Builtin). first_of_two c g at x) (sym e) ]

pub returns-in-Inc-clause-codes : goal.returns-in-Inc-clause-codes
returns-in-Inc-clause-codes g c =
    described c.variable_argument.result (c.variable_argument.ensures c.args.self.now.fragments.now.nodes.items c.requires.x) (λ k. of_ordinal k c.args.f c.args.at (coded_in c.args.self.now.fragments.now.nodes.items c.args.x) c.in-Inc.is)

pub returns-in-Incl-clause-codes : goal.returns-in-Incl-clause-codes
returns-in-Incl-clause-codes g c =
    described c.variable_argument-in-Incl.result (c.variable_argument-in-Incl.ensures c.args.self.now.fragments.now.nodes.items c.requires.x) (λ k. of_set k c.args.f c.args.at (coded_in c.args.self.now.fragments.now.nodes.items c.args.x) c.in-Incl.is)

pub returns-in_default-clause-codes : goal.returns-in_default-clause-codes
returns-in_default-clause-codes g c =
    let ns = c.args.self.now.fragments.now.nodes.items in
    described _ (value_alone (g.S.Scopes.state c.args.self.now.scopes.now) c.args.self.now.notes.now ns c.args.self.now.site.now c.args.x IsCoded coded_in (λ k. coded_in ns c.args.x) c.requires.x (λ k. refl))
    (λ k. as_it_is k c.args.f c.args.at (coded_in ns c.args.x) c.in_default.not-Inc c.in_default.not-Dec c.in_default.not-Incl c.in_default.not-Excl)

pub variable_argument-requires-clause-x : goal.variable_argument-requires-clause-x
variable_argument-requires-clause-x g c = (c.args.self.now.fragments.now.nodes.items, c.requires.x)

pub variable_argument-requires-in-Incl-clause-x : goal.variable_argument-requires-in-Incl-clause-x
variable_argument-requires-in-Incl-clause-x g c = (c.args.self.now.fragments.now.nodes.items, c.requires.x)
