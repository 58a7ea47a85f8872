use Rattle.std.proofs.Common.{Some, if◌then◌else◌, sym, ◌∙◌}
use Rattle.std.specs.HashMap.{get_by}
use Rattle.scope_core.proofs.KeyTests.{get-same_key, same_key}
use Rattle.scope_core.proofs.kept.put_ordinal.Goals as goal

pub returns-clause-put : goal.returns-clause-put
returns-clause-put c k =
    sym (get-same_key c.insert.new.self k)
    ∙ c.in-Ok.ensures.updates.0 k
    ∙ (λ i. if same_key c.args.key k i then Some c.args.ordinal else get_by (λ x. same_key k x i) c.args.index.now)
