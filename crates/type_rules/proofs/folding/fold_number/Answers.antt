use Rattle.std.proofs.Common.{◌∙◌, ap, sym, arith, pos, ◌<ℤ◌, w64, FitsSigned, rules}
use Rattle.std.proofs.lemmas.Int.{ints, to_z-of_z}
use Rattle.m2_base.specs.Statics.Folding.{fold_number as spec_number, where_in}
use Rattle.m2_base.specs.Statics.Ranges.{range}
use Rattle.type_rules.proofs.Divisions.{quotient}
use Rattle.type_rules.proofs.folding.fold_number.Goals as goal

pub returns-in-Div : goal.returns-in-Div
returns-in-Div c =
    let positive : pos 0 <ℤ c.args.y = grind (arith, ints) in
    let r = range c.args.low c.args.high in
    let low = c.ranges.low in
    let high = c.ranges.high in
    let x = c.ranges.x in
    let y = c.ranges.y in
    let q : FitsSigned w64 c.div_euclid.result = search rules in
    let divided = simp to_z-of_z at c.div_euclid.ensures in
    let kept = simp to_z-of_z at c.within-in-Div.ensures in
    kept ∙ ap (where_in r) divided ∙ quotient r c.args.x c.args.y positive
    ∙ ap (λ o. spec_number r o c.args.x c.args.y) (sym c.in-Div.is)
