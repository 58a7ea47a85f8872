use Rattle.std.proofs.Common.{◌≡◌, ◌⊎◌, ℕ, ap, arith, inl, inr, subst, sym, refl}
use Rattle.m2_base.specs.Gives.{and_then, gives}
use Rattle.m2_base.specs.Statics.Contexts.{Context}
use Rattle.m2_base.specs.declared.builtins.Builtin.{Builtin}
use Rattle.m2_base.specs.declared.builtins.Builtin.TheVariants.{Dec, Dispose, Inc, New}
use Rattle.const_eval.proofs.TypesThere.{standard_there}
use Rattle.block_code.specs.Coded.{Coded}
use Rattle.expr_sem.specs.Codings.{coded_in}
use Rattle.block_code.specs.StandardFunctions.{function_of_one}
use Rattle.block_code.specs.StandardProcedures.{disposed, new_room, of_one_argument, one, ordinal_variable, pointer_variable, stepped}
use Rattle.expr_sem.proofs.Onwards.{coded_after, suits_after}
use Rattle.expr_sem.proofs.Operating.{coding_after, described, unknown, unmade}
use Rattle.expr_sem.proofs.coder.Coder.of_one_argument.Goals as goal

a_function : (c : Context) (f : Builtin) (at : ℕ) (x : Coded) → (f ≡ Inc → ⊥) → (f ≡ Dec → ⊥) → (f ≡ New → ⊥) → (f ≡ Dispose → ⊥) → function_of_one c f at x ≡ of_one_argument c f at x
a_function c Inc at x h1 h2 h3 h4 = absurd (h1 refl)
a_function c Dec at x h1 h2 h3 h4 = absurd (h2 refl)
a_function c New at x h1 h2 h3 h4 = absurd (h3 refl)
a_function c Dispose at x h1 h2 h3 h4 = absurd (h4 refl)
a_function c f at x h1 h2 h3 h4 = refl

-- what is left of two
second : {A B : Type 0} → A ⊎ B → (A → ⊥) → B
second (inl a) h = absurd (h a)
second (inr b) h = b

-- a variable is changed by 1
by_one : (c : Context) (f : Builtin) (at : ℕ) (x : Coded) → (f ≡ Inc) ⊎ (f ≡ Dec) → and_then (ordinal_variable c at x) (λ v. gives (stepped c f v one)) ≡ of_one_argument c f at x
by_one c f at x is =
    elim is as (λ _. and_then (ordinal_variable c at x) (λ v. gives (stepped c f v one)) ≡ of_one_argument c f at x) [
      | inl e ↦ subst (λ (g : Builtin). and_then (ordinal_variable c at x) (λ v. gives (stepped c g v one)) ≡ of_one_argument c g at x) (sym e) refl
      | inr e ↦ subst (λ (g : Builtin). and_then (ordinal_variable c at x) (λ v. gives (stepped c g v one)) ≡ of_one_argument c g at x) (sym e) refl
    ]

pub returns-in-DontKnowYet-clause-codes : goal.returns-in-DontKnowYet-clause-codes
returns-in-DontKnowYet-clause-codes g c = unknown (rw c.in-DontKnowYet.is at c.in-Ok.ensures c.args.self.now.fragments.now.nodes.items c.requires.x)

pub returns-in-Err-clause-codes : goal.returns-in-Err-clause-codes
returns-in-Err-clause-codes g c = unmade (c.in-Err.ensures c.args.self.now.fragments.now.nodes.items c.requires.x) _

pub stepped-requires-clause-suits : goal.stepped-requires-clause-suits
stepped-requires-clause-suits g c = suits_after (rw c.in-Known.is at c.in-Ok.ensures c.args.self.now.fragments.now.nodes.items c.requires.x) c.requires.suits

pub stepped-requires-clause-x : goal.stepped-requires-clause-x
stepped-requires-clause-x g c =
    let first = rw c.in-Known.is at c.in-Ok.ensures c.args.self.now.fragments.now.nodes.items c.requires.x in
    coded_after first c.in-Known.value first.there

pub stepped-requires-clause-n : goal.stepped-requires-clause-n
stepped-requires-clause-n g c =
    let first = rw c.in-Known.is at c.in-Ok.ensures c.args.self.now.fragments.now.nodes.items c.requires.x in
    c.bare-one.ensures.there _ _ (standard_there (suits_after first c.requires.suits).around 9, (omega arith, omega arith))

pub returns-in-Known-clause-codes : goal.returns-in-Known-clause-codes
returns-in-Known-clause-codes g c =
    let ns = c.args.self.now.fragments.now.nodes.items in
    let x = coded_in ns c.args.x in
    described c.stepped.result
    (coding_after (λ k. ordinal_variable k c.args.at x) (λ v k. gives (stepped k c.args.f v one)) c.stepped.result (rw c.in-Known.is at c.in-Ok.ensures ns c.requires.x)
    (described c.stepped.result c.stepped.ensures.codes (λ k. ap (λ (n : Coded). gives (stepped k c.args.f (coded_in ns c.in-Known.value) n)) (c.bare-one.ensures.told ns))))
    (λ k. by_one k c.args.f c.args.at x c.in-Inc.is)

pub variable_argument-requires-clause-x : goal.variable_argument-requires-clause-x
variable_argument-requires-clause-x g c = (c.args.self.now.fragments.now.nodes.items, c.requires.x)

pub returns-in_default-clause-codes : goal.returns-in_default-clause-codes
returns-in_default-clause-codes g c =
    described c.function_of_one.result c.function_of_one.ensures.codes
    (λ k. a_function k c.args.f c.args.at (coded_in c.args.self.now.fragments.now.nodes.items c.args.x) c.in_default.not-Inc c.in_default.not-Dec c.in_default.not-New c.in_default.not-Dispose)

pub variable_argument-requires-in-New-clause-x : goal.variable_argument-requires-in-New-clause-x
variable_argument-requires-in-New-clause-x g c = (c.args.self.now.fragments.now.nodes.items, c.requires.x)

pub returns-in-DontKnowYet-asked-clause-codes : goal.returns-in-DontKnowYet-asked-clause-codes
returns-in-DontKnowYet-asked-clause-codes g c = unknown (rw c.in-DontKnowYet-asked.is at c.in-Ok-variable_argument.ensures c.args.self.now.fragments.now.nodes.items c.requires.x)

pub returns-in-Err-variable_argument-clause-codes : goal.returns-in-Err-variable_argument-clause-codes
returns-in-Err-variable_argument-clause-codes g c = unmade (c.in-Err-variable_argument.ensures c.args.self.now.fragments.now.nodes.items c.requires.x) _

pub new_room-requires-clause-suits : goal.new_room-requires-clause-suits
new_room-requires-clause-suits g c = suits_after (c.in-Ok-variable_argument.ensures c.args.self.now.fragments.now.nodes.items c.requires.x) c.requires.suits

pub new_room-requires-clause-x : goal.new_room-requires-clause-x
new_room-requires-clause-x g c =
    let first = rw c.in-Known-asked.is at c.in-Ok-variable_argument.ensures c.args.self.now.fragments.now.nodes.items c.requires.x in
    coded_after first c.in-Known-asked.value first.there

pub disposed-requires : goal.disposed-requires
disposed-requires g c = (rw c.in-Known-asked.is at c.in-Ok-variable_argument.ensures c.args.self.now.fragments.now.nodes.items c.requires.x).there.code

pub returns-in-New-f-clause-codes : goal.returns-in-New-f-clause-codes
returns-in-New-f-clause-codes g c =
    let ns = c.args.self.now.fragments.now.nodes.items in
    described c.new_room.result
    (coding_after (λ k. pointer_variable k c.args.at (coded_in ns c.args.x)) (λ v k. gives (new_room k v)) c.new_room.result (rw c.in-Known-asked.is at c.in-Ok-variable_argument.ensures ns c.requires.x) (c.new_room.ensures c.variable_argument-in-New.new.notes))
    (λ k. ap (λ (f : Builtin). of_one_argument k f c.args.at (coded_in ns c.args.x)) (sym c.in-New-f.is))

pub returns-in_default-f : goal.returns-in_default-f
returns-in_default-f g c =
    let ns = c.args.self.now.fragments.now.nodes.items in
    let first = rw c.in-Known-asked.is at c.in-Ok-variable_argument.ensures ns c.requires.x in
    record {
      keeps = record { site = refl; withs = refl; scopes = refl; fragments = refl; notes = refl };
      codes = described c.disposed.result
          (coding_after (λ k. pointer_variable k c.args.at (coded_in ns c.args.x)) (λ v k. gives (disposed v)) c.disposed.result first
          (c.disposed.ensures (g.S.Scopes.state c.variable_argument-in-New.new.scopes) c.variable_argument-in-New.new.notes c.args.self.now.site.now (suits_after first c.requires.suits)))
          (λ k. ap (λ (f : Builtin). of_one_argument k f c.args.at (coded_in ns c.args.x)) (sym (second c.in-New.is c.in_default-f.not-New)));
    }
