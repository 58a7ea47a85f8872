-- The text of an object, part by part.
use Rattle.std.proofs.Common.{◌≡◌, ℕ, List, [], ◌++◌, Option, refl, sym, ap, ◌∙◌, append_assoc, append-nil}
use Rattle.m2_io.specs.Written.{with_bytes, WritesPart}
use Rattle.object_file.specs.Contents.{Contents, definitions_of}
use Rattle.object_text.specs.Printed.{Prints, PrintsPart}
use Rattle.object_text.specs.Text.{module_line, import_lines, export_lines, AreLines, IsText}
use Rattle.object_text.proofs.Shown.{Shown, shown_start, shown_more, shown_part, shown_all}

-- the text with the lines of its procedures
abbrev pub whole : Contents → List ℕ → List ℕ
whole o procedures = module_line o ++ import_lines (definitions_of o) ++ export_lines 0 o.exports ++ procedures

whole_text : (o : Contents) (procedures : List ℕ) → AreLines 0 o.procedures procedures → IsText o (whole o procedures)
whole_text o procedures lines = record { procedures = procedures; lines = lines; text_is = refl }

four : (a b c d : List ℕ) → ((a ++ b) ++ c) ++ d ≡ a ++ (b ++ (c ++ d))
four a b c d = append_assoc (a ++ b) c d ∙ append_assoc a b (c ++ d)

abbrev behind_module : Contents → List ℕ → List ℕ
behind_module o procedures = import_lines (definitions_of o) ++ (export_lines 0 o.exports ++ procedures)

begun : (o : Contents) (procedures : List ℕ) (w : Option (List ℕ)) → Shown w w (whole o procedures) (module_line o ++ behind_module o procedures)
begun o procedures w = shown_start w (whole o procedures) (module_line o ++ behind_module o procedures) (four (module_line o) (import_lines (definitions_of o)) (export_lines 0 o.exports) procedures)

module _ (o : Contents) (procedures : List ℕ) (lines : AreLines 0 o.procedures procedures) (w : Option (List ℕ)) where
  pub of_module : (w1 : Option (List ℕ)) → WritesPart w (module_line o) w1 → PrintsPart o w w1
  of_module w1 h =
      record { text = whole o procedures; is = whole_text o procedures lines; written = shown_part w w w1 (whole o procedures) (module_line o ++ behind_module o procedures) (module_line o) (behind_module o procedures) (begun o procedures w) refl h }

  module_shown : (w1 : Option (List ℕ)) → w1 ≡ with_bytes w (module_line o) → Shown w w1 (whole o procedures) (behind_module o procedures)
  module_shown w1 e = shown_more w w w1 (whole o procedures) (module_line o ++ behind_module o procedures) (module_line o) (behind_module o procedures) (begun o procedures w) refl e

  pub of_imports : (w1 w2 : Option (List ℕ)) → w1 ≡ with_bytes w (module_line o) → WritesPart w1 (import_lines (definitions_of o)) w2 → PrintsPart o w w2
  of_imports w1 w2 e h =
      record { text = whole o procedures; is = whole_text o procedures lines; written = shown_part w w1 w2 (whole o procedures) (behind_module o procedures) (import_lines (definitions_of o)) (export_lines 0 o.exports ++ procedures) (module_shown w1 e) refl h }

  imports_shown : (w1 w2 : Option (List ℕ)) → w1 ≡ with_bytes w (module_line o) → w2 ≡ with_bytes w1 (import_lines (definitions_of o)) → Shown w w2 (whole o procedures) (export_lines 0 o.exports ++ procedures)
  imports_shown w1 w2 e f = shown_more w w1 w2 (whole o procedures) (behind_module o procedures) (import_lines (definitions_of o)) (export_lines 0 o.exports ++ procedures) (module_shown w1 e) refl f

  pub of_exports : (w1 w2 w3 : Option (List ℕ)) → w1 ≡ with_bytes w (module_line o) → w2 ≡ with_bytes w1 (import_lines (definitions_of o)) → WritesPart w2 (export_lines 0 o.exports) w3 → PrintsPart o w w3
  of_exports w1 w2 w3 e f h =
      record { text = whole o procedures; is = whole_text o procedures lines; written = shown_part w w2 w3 (whole o procedures) (export_lines 0 o.exports ++ procedures) (export_lines 0 o.exports) procedures (imports_shown w1 w2 e f) refl h }

  exports_shown : (w1 w2 w3 : Option (List ℕ)) → w1 ≡ with_bytes w (module_line o) → w2 ≡ with_bytes w1 (import_lines (definitions_of o)) → w3 ≡ with_bytes w2 (export_lines 0 o.exports) → Shown w w3 (whole o procedures) procedures
  exports_shown w1 w2 w3 e f g = shown_more w w2 w3 (whole o procedures) (export_lines 0 o.exports ++ procedures) (export_lines 0 o.exports) procedures (imports_shown w1 w2 e f) refl g

  pub of_procedures : (w1 w2 w3 w4 : Option (List ℕ)) → w1 ≡ with_bytes w (module_line o) → w2 ≡ with_bytes w1 (import_lines (definitions_of o)) → w3 ≡ with_bytes w2 (export_lines 0 o.exports) → WritesPart w3 procedures w4 → PrintsPart o w w4
  of_procedures w1 w2 w3 w4 e f g h =
      record { text = whole o procedures; is = whole_text o procedures lines; written = shown_part w w3 w4 (whole o procedures) procedures procedures [] (exports_shown w1 w2 w3 e f g) (sym (append-nil procedures)) h }

  pub all_printed : (w1 w2 w3 w4 : Option (List ℕ)) → w1 ≡ with_bytes w (module_line o) → w2 ≡ with_bytes w1 (import_lines (definitions_of o)) → w3 ≡ with_bytes w2 (export_lines 0 o.exports) → w4 ≡ with_bytes w3 procedures → Prints o w w4
  all_printed w1 w2 w3 w4 e f g h =
      record { text = whole o procedures; is = whole_text o procedures lines; written = shown_all w w4 (whole o procedures) [] (shown_more w w3 w4 (whole o procedures) procedures procedures [] (exports_shown w1 w2 w3 e f g) (sym (append-nil procedures)) h) refl }
