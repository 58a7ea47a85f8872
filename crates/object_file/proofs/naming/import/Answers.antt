use Rattle.std.proofs.Common.{◌∙◌, sym, arith}
use Rattle.object_file.specs.Views.{world_in}
use Rattle.object_file.proofs.Linking.{import_from_1}
use Rattle.object_file.proofs.naming.import.Goals as goal

pub returns : goal.returns
returns c = c.import_at.ensures ∙ sym (import_from_1 (world_in c.args.parts.now) c.args.m (omega arith))
