use Rattle.m2_link.proofs.Accepted.{lengths_differ}
use Rattle.m2_link.proofs.agreement.same_headings.Goals as goal

pub returns-then-exports-headings : goal.returns-then-exports-headings
returns-then-exports-headings c = lengths_differ c.args.exports.now c.args.headings.now c.if-exports-headings.true
