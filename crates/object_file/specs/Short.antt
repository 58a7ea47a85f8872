-- What is short enough for its lengths to be written. A valid object is.
use Rattle.std.specs.Prelude.{◌<◌, ◌^◌, length}
use Rattle.std.specs.List.{AllByRecursion}
use Rattle.code_form.specs.Modules.{Procedure}
use Rattle.object_file.specs.Contents.{KeyedImport, Contents}

pub record ShortImport (i : KeyedImport) : Type 0 where
  pub name : length i.definition.name < 2 ^ 32
  pub headings : length i.definition.headings < 2 ^ 32

pub record ShortProcedure (p : Procedure) : Type 0 where
  pub bytes : length p.bytes < 2 ^ 32
  pub code : length p.code < 2 ^ 32

pub record Short (o : Contents) : Type 0 where
  pub name : length o.name < 2 ^ 32
  pub exports : length o.exports < 2 ^ 32
  pub imports : length o.imports < 2 ^ 32
  pub procedures : length o.procedures < 2 ^ 32
  pub each_import : AllByRecursion ShortImport o.imports
  pub each_procedure : AllByRecursion ShortProcedure o.procedures
