use Rattle.object_file.specs.Short.{ShortImport}
use Rattle.object_file.specs.Views.{keyed_of}
use Rattle.object_file.proofs.Each.{one_of_all}
use Rattle.object_file.proofs.writing.imports.Goals as goal

pub import-requires : goal.import-requires
import-requires c = one_of_all ShortImport keyed_of c.args.all.now c.loop-one.one-index c.one-item.result c.requires c.loop-one-test.true c.one-item.is
