-- Reading an object field by field is reading by its format.
use Rattle.std.proofs.Common.{◌≡◌, ℕ, List, Result, Ok, Err, drop, length, refl, ap, sym, ◌∙◌}
use Rattle.code_form.specs.Heights.{Callee}
use Rattle.code_form.specs.Modules.{Procedure}
use Rattle.object_file.specs.Contents.{Export, KeyedImport, Contents, u32, magic}
use Rattle.object_file.specs.Formats.{Bad, ◌>>=◌, counted}
use Rattle.object_file.specs.Fields.{number_at, raw_at, text_at, exact_at, valid_at, counted_at, ends_at, ◌then◌, read}
use Rattle.object_file.specs.ObjectFormat.{any, is_cells, is_own_cells, is_identifier, is_new_name, is_count, is_outer, is_params, is_result, is_locals, export_format, heading_format, import_format, procedure_format, fields_format, format_with, key_length, version_near, format_near}
use Rattle.object_file.specs.Reading.{export_at, heading_at, import_at, frame_at, procedure_at, front_at, fields_at, object_at, whole_at}
use Rattle.object_file.specs.declared.reading.ProcedureFrame.{ProcedureFrame}
use Rattle.object_file.proofs.Meanings.{IsBytes, then_same, then_then, bind_at, read_counted, read_all, behind}

read_export : (before : List Export) (bytes : List ℕ) → read (export_format before) bytes ≡ export_at before bytes
unfolding read ◌>>=◌ export_format export_at
read_export before bytes = refl

read_heading : (before : List Callee) (bytes : List ℕ) → read (heading_format before) bytes ≡ heading_at before bytes
unfolding read ◌>>=◌ heading_format heading_at
read_heading before bytes = refl

read_import : (version : ℕ) (before : List KeyedImport) (bytes : List ℕ) → read (import_format version before) bytes ≡ import_at version before bytes
unfolding read ◌>>=◌ import_format import_at
read_import version before bytes =
    then_same (text_at bytes) _ _ (λ name. then_same (valid_at (is_new_name before name.0) bytes) _ _ (λ u.
    then_same (raw_at (key_length version) name.1) _ _ (λ key. then_same (number_at key.1) _ _ (λ cells.
    bind_at (counted any heading_format) (counted_at any heading_at) _ _ cells.1 (read_counted any heading_format heading_at read_heading) (λ headings bs. refl)))))

-- the fields behind a procedure's frame
abbrev behind_frame : ProcedureFrame × List ℕ → Result (Procedure × List ℕ) Bad
behind_frame f = number_at f.1 then λ high. (text_at high.1 then λ strings. (text_at strings.1 then λ code.
    Ok (record { outer = f.0.outer; params = f.0.params; result = f.0.result; locals = f.0.locals; high = high.0; bytes = strings.0; code = code.0 }, code.1)))

read_procedure : (exports : List Export) (before : List Procedure) (bytes : List ℕ) → read (procedure_format exports before) bytes ≡ procedure_at exports before bytes
unfolding read ◌>>=◌ procedure_format procedure_at frame_at
read_procedure exports before bytes =
    sym (then_then (number_at bytes) _ behind_frame ∙ then_same (number_at bytes) _ _ (λ outer.
    then_then (valid_at (is_outer exports (length before) outer.0) bytes) _ behind_frame ∙ then_same (valid_at (is_outer exports (length before) outer.0) bytes) _ _ (λ u.
    then_then (number_at outer.1) _ behind_frame ∙ then_same (number_at outer.1) _ _ (λ params.
    then_then (valid_at (is_params exports (length before) params.0) outer.1) _ behind_frame ∙ then_same (valid_at (is_params exports (length before) params.0) outer.1) _ _ (λ v.
    then_then (number_at params.1) _ behind_frame ∙ then_same (number_at params.1) _ _ (λ result.
    then_then (valid_at (is_result exports (length before) result.0) params.1) _ behind_frame ∙ then_same (valid_at (is_result exports (length before) result.0) params.1) _ _ (λ w.
    then_then (number_at result.1) _ behind_frame ∙ then_same (number_at result.1) _ _ (λ locals.
    then_then (valid_at (is_locals params.0 locals.0) result.1) _ behind_frame))))))))

-- the fields behind the front
abbrev behind_front : (version : ℕ) → (List ℕ × ℕ × ℕ) × List ℕ → Result (Contents × List ℕ) Bad
behind_front version f = raw_at (key_length version) f.1 then λ key. (counted_at any export_at key.1 then λ exports. (counted_at any (import_at version) exports.1 then λ imports.
    (counted_at (is_count exports.0) (procedure_at exports.0) imports.1 then λ procedures.
    Ok (record { version = version; name = f.0.0; key = key.0; cells = f.0.1; own_cells = f.0.2; exports = exports.0; imports = imports.0; procedures = procedures.0 }, procedures.1))))

fronted : (version : ℕ) (bytes : List ℕ)
    → fields_at version bytes
    ≡ (text_at bytes then λ name. (valid_at (is_identifier name.0) bytes then λ u.
    (number_at name.1 then λ cells. (valid_at (is_cells cells.0) name.1 then λ v.
    (number_at cells.1 then λ own_cells. (valid_at (is_own_cells cells.0 own_cells.0) cells.1 then λ w.
    behind_front version ((name.0, cells.0, own_cells.0), own_cells.1)))))))
unfolding fields_at front_at
fronted version bytes =
    then_then (text_at bytes) _ (behind_front version) ∙ then_same (text_at bytes) _ _ (λ name.
    then_then (valid_at (is_identifier name.0) bytes) _ (behind_front version) ∙ then_same (valid_at (is_identifier name.0) bytes) _ _ (λ u.
    then_then (number_at name.1) _ (behind_front version) ∙ then_same (number_at name.1) _ _ (λ cells.
    then_then (valid_at (is_cells cells.0) name.1) _ (behind_front version) ∙ then_same (valid_at (is_cells cells.0) name.1) _ _ (λ v.
    then_then (number_at cells.1) _ (behind_front version) ∙ then_same (number_at cells.1) _ _ (λ own_cells.
    then_then (valid_at (is_own_cells cells.0 own_cells.0) cells.1) _ (behind_front version))))))

read_fields : (version : ℕ) (bytes : List ℕ) → read (fields_format version) bytes ≡ fields_at version bytes
unfolding read ◌>>=◌ fields_format
read_fields version bytes =
    then_same (text_at bytes) _ _ (λ name. then_same (valid_at (is_identifier name.0) bytes) _ _ (λ u.
    then_same (number_at name.1) _ _ (λ cells. then_same (valid_at (is_cells cells.0) name.1) _ _ (λ v.
    then_same (number_at cells.1) _ _ (λ own_cells. then_same (valid_at (is_own_cells cells.0 own_cells.0) cells.1) _ _ (λ w.
    then_same (raw_at (key_length version) own_cells.1) _ _ (λ key.
    bind_at (counted any export_format) (counted_at any export_at) _ _ key.1 (read_counted any export_format export_at read_export) (λ exports bs.
    bind_at (counted any (import_format version)) (counted_at any (import_at version)) _ _ bs
    (read_counted any (import_format version) (import_at version) (read_import version)) (λ imports cs.
    bind_at (counted (is_count exports) (procedure_format exports)) (counted_at (is_count exports) (procedure_at exports)) _ _ cs
    (read_counted (is_count exports) (procedure_format exports) (procedure_at exports) (read_procedure exports)) (λ procedures ds. refl))))))))))
    ∙ sym (fronted version bytes)

-- by any version
read_with : (version : ℕ) (bytes : List ℕ) → read (format_with version) bytes ≡ (exact_at magic bytes then λ front. (exact_at (u32 version) front then fields_at version))
unfolding read ◌>>=◌ format_with
read_with version bytes = then_same (exact_at magic bytes) _ _ (λ front. then_same (exact_at (u32 version) front) _ _ (read_fields version))

then_known : {A B : Type 0} (r : Result A Bad) (f g : A → Result B Bad) → ((x : A) → r ≡ Ok x → f x ≡ g x) → r then f ≡ r then g
then_known (Ok x) f g h = h x refl
then_known (Err e) f g h = refl

-- by the bytes' own version
read_object : (bytes : List ℕ) → IsBytes bytes → read (format_near bytes) bytes ≡ object_at bytes
unfolding object_at
read_object bytes fits =
    read_with (version_near (drop 4 bytes)) bytes
    ∙ then_known (exact_at magic bytes) _ _ (λ front is. ap (λ (f : List ℕ). exact_at (u32 (version_near f)) front then fields_at (version_near f)) (behind magic bytes front fits is))

-- the object that all of the bytes are
pub read_whole : (bytes : List ℕ) → IsBytes bytes → read_all (format_near bytes) bytes ≡ whole_at bytes
unfolding whole_at
read_whole bytes fits = ap (λ (r : Result (Contents × List ℕ) Bad). r then λ x. (ends_at x.1 then λ u. Ok x.0)) (read_object bytes fits)
