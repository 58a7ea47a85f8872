use Rattle.std.proofs.Common.{◌≡◌, ◌∙◌, ap, rules, sym}
use Rattle.search_tests.specs.Named.{first_kind}
use Rattle.search_tests.proofs.Tables.{is_unread}
use Rattle.search_tests.proofs.opening.unit_with.Goals as goal

pub returns : goal.returns
returns c =
    let tokens : c.deref.result.now ≡ c.main.result.now.tokens = search rules in
    is_unread c.in-Ok.texts c.main.result.now c.main.ensures.text (ap first_kind (sym tokens) ∙ c.begins_with_fault.ensures (cc))
