-- The format of an object, field by field in the order of the file, with the values that are valid.
use Rattle.std.specs.Prelude.{ℕ, ◌==◌, Bool, true, false, ◌&&◌, ◌||◌, not, List, [], ◌∷◌, length, drop, nat_le, nat_lt}
use Rattle.std.specs.Prelude.{if◌then◌else◌}
use Rattle.std.specs.List.{list_all, list_any}
use Rattle.std.specs.Str.{bytes_eq}
use Rattle.m2_base.specs.Letters.{is_letter, goes_on}
use Rattle.m2_base.specs.declared.limits.TheConstants.{MOST_CELLS}
use Rattle.code_form.specs.Heights.{Callee}
use Rattle.code_form.specs.Modules.{Procedure}
use Rattle.object_file.specs.Contents.{Export, KeyedImport, Contents, u32, magic}
use Rattle.object_file.specs.Formats.{Format, done, bytes_of, numbered, texted, raw_bytes, counted, ◌>>=◌}

-- ---- what is valid

abbrev pub any : {A : Type 0} → A → Bool
any x = true

-- the most cells that a block or a module has
abbrev pub is_cells : ℕ → Bool
is_cells n = nat_le n MOST_CELLS

-- the definition's cells are among the module's
abbrev pub is_own_cells : ℕ → ℕ → Bool
is_own_cells cells n = nat_le n cells

-- a letter or an underscore, then such and digits
unfoldable pub is_identifier : List ℕ → Bool
is_identifier [] = false
is_identifier (b ∷ bytes) = is_letter b && list_all goes_on bytes

-- an import's name: an identifier that no import before has
unfoldable pub is_new_name : List KeyedImport → List ℕ → Bool
is_new_name before name = is_identifier name && not (list_any (λ i. bytes_eq name i.definition.name) before)

-- an export isn't the body
abbrev pub is_export : ℕ → Bool
is_export k = nat_le 1 k

-- there is a body, and each export's procedure
unfoldable pub is_count : List Export → ℕ → Bool
is_count exports n = nat_le 1 n && list_all (λ e. nat_lt e.0 n) exports

-- what holds of each export of the procedure with this number
unfoldable pub as_exported : List Export → ℕ → (Export → Bool) → Bool
as_exported exports k test = list_all (λ e. not (e.0 == k) || test e) exports

-- the outer procedure has a smaller number; 0 stands for module level, where exports and the body are
abbrev pub is_outer : List Export → ℕ → ℕ → Bool
is_outer exports k outer = (nat_lt outer k || (k == 0 && outer == 0)) && as_exported exports k (λ e. outer == 0)

-- the body has no parameters, an export's are those of its heading
abbrev pub is_params : List Export → ℕ → ℕ → Bool
is_params exports k params = (nat_lt 0 k || params == 0) && as_exported exports k (λ e. params == e.1)

-- a result is one cell or none, the body has none, an export's is that of its heading
abbrev pub is_result : List Export → ℕ → ℕ → Bool
is_result exports k result =
    nat_le result 1 && (nat_lt 0 k || result == 0) && as_exported exports k (λ e. result == e.2)

-- the parameters are among the cells
abbrev pub is_locals : ℕ → ℕ → Bool
is_locals params locals = nat_le params locals && nat_le locals MOST_CELLS

-- ---- the fields

-- how many bytes a key has: from version 2 on those of a digest, before that there are none
unfoldable pub key_length : (version : ℕ) → ℕ
key_length version = if version == 2 then 32 else 0

unfoldable pub export_format : List Export → Format Export
export_format before = do
  k ← numbered is_export
  params ← numbered any
  result ← numbered any
  done (k, params, result)

unfoldable pub heading_format : List Callee → Format Callee
heading_format before = do
  params ← numbered any
  result ← numbered any
  done (record { params = params; result = result })

unfoldable pub import_format : (version : ℕ) → List KeyedImport → Format KeyedImport
import_format version before = do
  name ← texted (is_new_name before)
  key ← raw_bytes (key_length version)
  cells ← numbered any
  headings ← counted any heading_format
  done (record { key = key; definition = record { name = name; cells = cells; headings = headings } })

-- the procedure behind these
unfoldable pub procedure_format : List Export → List Procedure → Format Procedure
procedure_format exports before = do
  outer ← numbered (is_outer exports (length before))
  params ← numbered (is_params exports (length before))
  result ← numbered (is_result exports (length before))
  locals ← numbered (is_locals params)
  high ← numbered any
  bytes ← texted any
  code ← texted any
  done (record
      { outer = outer; params = params; result = result; locals = locals; high = high; bytes = bytes; code = code })

-- the fields behind the version
unfoldable pub fields_format : (version : ℕ) → Format Contents
fields_format version = do
  name ← texted is_identifier
  cells ← numbered is_cells
  own_cells ← numbered (is_own_cells cells)
  key ← raw_bytes (key_length version)
  exports ← counted any export_format
  imports ← counted any (import_format version)
  procedures ← counted (is_count exports) (procedure_format exports)
  done (record {
    version = version;
    name = name;
    key = key;
    cells = cells;
    own_cells = own_cells;
    exports = exports;
    imports = imports;
    procedures = procedures;
  })

-- the whole object, of this version
unfoldable pub format_with : (version : ℕ) → Format Contents
format_with version = do
  _ ← bytes_of magic
  _ ← bytes_of (u32 version)
  fields_format version

-- There are versions 1 and 2. Bytes whose version begins as the second are held against it, all others against the
-- first; so the first wrong byte is the first that neither version has there.
unfoldable pub version_near : List ℕ → ℕ
version_near [] = 1
version_near (b ∷ rest) = if b == 2 then 2 else 1

-- the format of the bytes' own version
abbrev pub format_near : List ℕ → Format Contents
format_near bytes = format_with (version_near (drop 4 bytes))
