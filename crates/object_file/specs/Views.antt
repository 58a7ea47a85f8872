-- What the types of objects say, without where it lies in memory.
use Rattle.std.specs.Prelude.{ℕ, map}
use Rattle.code_form.specs.Heights.{Callee}
use Rattle.code_form.specs.Modules.{Import, Procedure, World}
use Rattle.object_file.specs.declared.parts.ImportNote.{ImportNote}
use Rattle.m2_base.specs.declared.outputs.ProcCode.{ProcCode}
use Rattle.object_file.specs.declared.parts.Parts.{Parts}
use Rattle.object_file.specs.Contents.{KeyedImport, Contents}

abbrev pub heading_of : ℕ × ℕ → Callee
heading_of h = record { params = h.0; result = h.1 }

abbrev pub import_of : ImportNote → Import
import_of i = record { name = i.name.items; cells = i.cells; headings = map heading_of i.headings.items }

abbrev pub keyed_of : ImportNote → KeyedImport
keyed_of i = record { key = i.key.items; definition = import_of i }

abbrev pub procedure_of : ProcCode → Procedure
procedure_of p = record {
  outer = p.outer;
  params = p.params;
  result = p.result;
  locals = p.locals;
  high = p.high;
  bytes = p.bytes.items;
  code = p.code.items;
}

abbrev pub contents_of : Parts → Contents
contents_of p =
    record {
      version = p.version;
      name = p.name.items;
      key = p.key.items;
      cells = p.cells;
      own_cells = p.own_cells;
      exports = p.exports.items;
      imports = map keyed_of p.imports.items;
      procedures = map procedure_of p.procedures.items;
    }

-- what the code of an object with these parts can name
abbrev pub world_in : Parts → World
world_in p = record {
  cells = p.cells;
  imports = map import_of p.imports.items;
  procedures = map procedure_of p.procedures.items;
}
