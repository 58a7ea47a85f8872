use Rattle.scope_core.proofs.Searching.{selected}
use Rattle.scope_core.proofs.plain_scopes.PlainScopesScopes.select.Goals as goal

pub returns : goal.returns
returns c = selected c.args.self.now c.args.of c.args.name c.field.result c.field.ensures.sound c.field.ensures.field
