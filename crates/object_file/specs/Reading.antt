-- Reading the fields of an object from left to right.
use Rattle.std.specs.Prelude.{ℕ, List, length, Result, Ok}
use Rattle.code_form.specs.Heights.{Callee}
use Rattle.code_form.specs.Modules.{Procedure}
use Rattle.object_file.specs.Contents.{Export, KeyedImport, Contents, u32, magic}
use Rattle.object_file.specs.declared.reading.ProcedureFrame.{ProcedureFrame}
use Rattle.object_file.specs.Formats.{Bad}
use Rattle.object_file.specs.Fields.{number_at, text_at, raw_at, exact_at, valid_at, counted_at, ends_at}
use Rattle.object_file.specs.Fields.{◌then◌ as ◌>>=◌}
use Rattle.object_file.specs.ObjectFormat.{any, version_near, key_length, is_cells, is_own_cells, is_identifier}
use Rattle.object_file.specs.ObjectFormat.{is_new_name, is_export, is_count, is_outer, is_params, is_result, is_locals}

unfoldable pub export_at : List Export → List ℕ → Result (Export × List ℕ) Bad
export_at before bytes = do
  k ← number_at bytes
  _ ← valid_at (is_export k.0) bytes
  params ← number_at k.1
  result ← number_at params.1
  Ok ((k.0, params.0, result.0), result.1)

unfoldable pub heading_at : List Callee → List ℕ → Result (Callee × List ℕ) Bad
heading_at before bytes = do
  params ← number_at bytes
  result ← number_at params.1
  Ok (record { params = params.0; result = result.0 }, result.1)

unfoldable pub import_at : (version : ℕ) → List KeyedImport → List ℕ → Result (KeyedImport × List ℕ) Bad
import_at version before bytes = do
  name ← text_at bytes
  _ ← valid_at (is_new_name before name.0) bytes
  key ← raw_at (key_length version) name.1
  cells ← number_at key.1
  headings ← counted_at any heading_at cells.1
  Ok (
    record { key = key.0; definition = record { name = name.0; cells = cells.0; headings = headings.0 } },
    headings.1,
  )

-- the frame of procedure k: its outer procedure, and the cells of its parameters, of its result and in all
unfoldable pub frame_at : List Export → (k : ℕ) → List ℕ → Result (ProcedureFrame × List ℕ) Bad
frame_at exports k bytes = do
  outer ← number_at bytes
  _ ← valid_at (is_outer exports k outer.0) bytes
  params ← number_at outer.1
  _ ← valid_at (is_params exports k params.0) outer.1
  result ← number_at params.1
  _ ← valid_at (is_result exports k result.0) params.1
  locals ← number_at result.1
  _ ← valid_at (is_locals params.0 locals.0) result.1
  Ok (record { outer = outer.0; params = params.0; result = result.0; locals = locals.0 }, locals.1)

-- a procedure: its frame and the fields behind that
unfoldable pub procedure_at : List Export → List Procedure → List ℕ → Result (Procedure × List ℕ) Bad
procedure_at exports before bytes = do
  frame ← frame_at exports (length before) bytes
  high ← number_at frame.1
  strings ← text_at high.1
  code ← text_at strings.1
  Ok (
    record {
      outer = frame.0.outer;
      params = frame.0.params;
      result = frame.0.result;
      locals = frame.0.locals;
      high = high.0;
      bytes = strings.0;
      code = code.0;
    },
    code.1,
  )

-- the front behind the version: the name, the cells, and those of the object's own variables
unfoldable pub front_at : List ℕ → Result ((List ℕ × ℕ × ℕ) × List ℕ) Bad
front_at bytes = do
  name ← text_at bytes
  _ ← valid_at (is_identifier name.0) bytes
  cells ← number_at name.1
  _ ← valid_at (is_cells cells.0) name.1
  own_cells ← number_at cells.1
  _ ← valid_at (is_own_cells cells.0 own_cells.0) cells.1
  Ok ((name.0, cells.0, own_cells.0), own_cells.1)

-- the fields behind the version: the front and those behind it
unfoldable pub fields_at : (version : ℕ) → List ℕ → Result (Contents × List ℕ) Bad
fields_at version bytes = do
  front ← front_at bytes
  key ← raw_at (key_length version) front.1
  exports ← counted_at any export_at key.1
  imports ← counted_at any (import_at version) exports.1
  procedures ← counted_at (is_count exports.0) (procedure_at exports.0) imports.1
  Ok (
    record {
      version = version;
      name = front.0.0;
      key = key.0;
      cells = front.0.1;
      own_cells = front.0.2;
      exports = exports.0;
      imports = imports.0;
      procedures = procedures.0;
    },
    procedures.1,
  )

unfoldable pub object_at : List ℕ → Result (Contents × List ℕ) Bad
object_at bytes = do
  front ← exact_at magic bytes
  start ← exact_at (u32 (version_near front)) front
  fields_at (version_near front) start

-- the object that all of the bytes are
unfoldable pub whole_at : List ℕ → Result Contents Bad
whole_at bytes = do
  o ← object_at bytes
  _ ← ends_at o.1
  Ok o.0
