use Rattle.object_file.proofs.Indexing.{IsIndex-nil}
use Rattle.object_file.proofs.exports.Exports.new.Goals as goal

pub invariant_of-result : goal.invariant_of-result
invariant_of-result c = IsIndex-nil c.new.result.items c.new-2.result c.new.ensures.items c.new-2.ensures.empty
