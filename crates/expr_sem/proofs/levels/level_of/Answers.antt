use Rattle.std.proofs.Common.{◌≡◌, ◌∙◌, ◌-◌, ◌==◌, ℕ, Option, ap, arith, sym}
use Rattle.std.specs.Prelude.{position, unwrap_or}
use Rattle.expr_sem.proofs.levels.level_of.Goals as goal

pub returns-in-Some : goal.returns-in-Some
returns-in-Some c =
    let level = c.args.around.now.level in
    let found = c.distance_in.ensures ∙ ap (position (λ (q : ℕ). q == c.args.scope)) c.scopes.ensures in
    ap (λ (o : Option ℕ). level - unwrap_or o level) (sym c.in-Some.is ∙ found)

pub returns-in_default : goal.returns-in_default
returns-in_default c =
    let level = c.args.around.now.level in
    let found = c.distance_in.ensures ∙ ap (position (λ (q : ℕ). q == c.args.scope)) c.scopes.ensures in
    let none : 0 ≡ level - c.in-Some.distance = omega (arith, c.if-distance-around.false) in
    none ∙ ap (λ (o : Option ℕ). level - unwrap_or o level) (sym c.in-Some.is ∙ found)

pub returns-in_default-2 : goal.returns-in_default-2
returns-in_default-2 c =
    let level = c.args.around.now.level in
    let found = c.distance_in.ensures ∙ ap (position (λ (q : ℕ). q == c.args.scope)) c.scopes.ensures in
    let none : 0 ≡ level - level = omega arith in
    none ∙ ap (λ (o : Option ℕ). level - unwrap_or o level) (sym c.in_default.is ∙ found)
