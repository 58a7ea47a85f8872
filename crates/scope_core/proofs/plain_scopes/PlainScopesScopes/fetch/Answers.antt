use Rattle.scope_core.proofs.Searching.{fetched}
use Rattle.scope_core.proofs.plain_scopes.PlainScopesScopes.fetch.Goals as goal

pub returns : goal.returns
returns c = fetched c.args.self.now c.args.place c.row.result c.row.ensures.sound c.row.ensures.row
