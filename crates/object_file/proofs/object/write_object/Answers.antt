use Rattle.std.proofs.Common.{[], drop}
use Rattle.object_file.specs.ObjectFormat.{version_near}
use Rattle.object_file.specs.Views.{contents_of}
use Rattle.object_file.specs.Contents.{object_bytes}
use Rattle.object_file.proofs.Spelled.{written}
use Rattle.object_file.proofs.object.write_object.Goals as goal

pub bytes_of-requires : goal.bytes_of-requires
bytes_of-requires c =
    let o = contents_of c.object.inside.parts in
    (written (version_near (drop 4 (object_bytes o))) (object_bytes o) o [] c.object.invariant.fields).short
