use Rattle.std.proofs.Common.{◌≡◌, rules}
use Rattle.type_rules.proofs.Binding.{text_of_inside}
use Rattle.type_rules.proofs.uses.text_of_scope.Goals as goal

pub returns-then-definition-len : goal.returns-then-definition-len
returns-then-definition-len c =
    let same : c.texts.inside.order.items ≡ c.args.texts.now.order = search rules in
    text_of_inside c.args.texts.now c.texts.inside.order.items c.args.scope c.index.result.now same c.if-scope-eq0.false (search rules) c.index.ensures
