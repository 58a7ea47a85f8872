use Rattle.scope_core.proofs.Searching.{searched}
use Rattle.scope_core.proofs.plain_scopes.PlainScopesScopes.search.Goals as goal

pub returns : goal.returns
returns c = searched c.args.self.now c.args._at c.args.chain.now c.args.name c.reply.result c.reply.ensures.sound c.reply.ensures.reply
