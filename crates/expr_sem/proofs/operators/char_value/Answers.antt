use Rattle.std.proofs.Common.{◌∙◌, ap, refl}
use Rattle.m2_base.specs.Gives.{gives}
use Rattle.type_rules.specs.Sites.{context_of}
use Rattle.const_eval.proofs.TypesThere.{standard_there}
use Rattle.block_code.specs.Coded.{taken, value_code}
use Rattle.expr_sem.specs.Codings.{coded_in}
use Rattle.expr_sem.proofs.Operating.{described_there}
use Rattle.expr_sem.proofs.operators.char_value.Goals as goal

pub value_code-requires-clause-x : goal.value_code-requires-clause-x
value_code-requires-clause-x g c = c.taken.ensures.there (g.S.Scopes.state c.args.scopes.now).frame c.args.fragments.now.nodes.items (c.char_of_string-operand.ensures.there (g.S.Scopes.state c.args.scopes.now).frame (standard_there c.requires.suits.around 2) c.requires.x.operand) c.requires.x

pub returns : goal.returns
returns g c notes =
    let f = (g.S.Scopes.state c.args.scopes.now).frame in
    let ns = c.args.fragments.now.nodes.items in
    described_there c.value_code.result (c.value_code.ensures notes)
    (λ made. let k = context_of f made c.args.site.now in
    ap (λ u. gives (value_code k u)) (c.taken.ensures.told ns ∙ ap (λ o. taken o (coded_in ns c.args.x)) (c.char_of_string-operand.ensures.told k.source refl)))
