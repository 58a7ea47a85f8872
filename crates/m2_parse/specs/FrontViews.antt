-- A front of the code, seen as plain data.
use Rattle.m2_base.specs.Fronts.{Front}
use Rattle.m2_parse.specs.declared.heads.Front as code

abbrev pub front_view : code.Front → Front
front_view f = record { name = f.name; implementation = f.implementation; imports = f.imports.items }
