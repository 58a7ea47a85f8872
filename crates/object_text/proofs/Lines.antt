-- The lines of an object, one after another.
use Rattle.std.proofs.Common.{◌≡◌, ℕ, zero, suc, ◌+◌, ◌-◌, ◌<◌, ◌≤◌, get_or, List, [], ◌∷◌, ◌++◌, length, map, drop, Option, Some, None, refl, sym, ap, subst, ◌∙◌, arith, append_assoc, drop_at, drop-drop, length-drop, length-append}
use Rattle.std.specs.List.{AllByRecursion}
use Rattle.std.proofs.Math.Seq.{drop-cons}
use Rattle.m2_base.specs.declared.outputs.ProcCode.{ProcCode}
use Rattle.code_form.specs.declared.instr.Instr.{Instr}
use Rattle.code_form.specs.Instructions.{IsInstr}
use Rattle.code_form.specs.Bytes.{size, spelling, code_bytes, BeginsWith}
use Rattle.code_form.specs.Modules.{Procedure, World}
use Rattle.code_form.specs.Valid.{AreInstrs, IsValidCode}
use Rattle.code_form.proofs.Spellings.{length-spelling, one_instr, one_rest}
use Rattle.object_file.specs.Contents.{Contents, Export, definitions_of, world_of}
use Rattle.object_file.specs.Validity.{HaveValidCode, IsValid}
use Rattle.object_file.specs.Views.{import_of, procedure_of}
use Rattle.object_file.specs.declared.parts.ImportNote.{ImportNote}
use Rattle.object_text.specs.Text.{instr_line, instr_lines, procedure_line, AreLines, IsText, module_line, import_line, import_lines, export_line, export_lines}

next_in : {A : Type 0} (xs : List A) (i : ℕ) (x : A) → i < length xs → x ≡ get_or xs i x → drop i xs ≡ x ∷ drop (i + 1) xs
next_in {A} xs i x lt is =
    let one : suc i ≡ i + 1 = omega arith in
    drop-cons xs i x lt ∙ ap (λ (y : A). y ∷ drop (suc i) xs) (sym is) ∙ ap (λ (n : ℕ). x ∷ drop n xs) one

-- ---- instructions

begins : (bytes : List ℕ) (i : Instr) (is : List Instr) → AreInstrs bytes (i ∷ is) → BeginsWith bytes i (code_bytes is)
begins bytes i is a = record { in_range = a.in_range.0; spelled = a.spelled }

none_left : (bytes : List ℕ) → AreInstrs bytes [] → 0 < length bytes → ⊥
none_left bytes a lt = let e = ap length a.spelled in omega (arith, e, lt)

pub no_stop : (code : List ℕ) (at : ℕ) (rest : List Instr) → AreInstrs (drop at code) rest → at < length code → ((i : Instr) (behind : List ℕ) → BeginsWith (drop at code) i behind → ⊥) → ⊥
no_stop code at [] a lt none = none_left (drop at code) a (omega (arith, lt, length-drop at code))
no_stop code at (i ∷ rest) a lt none = none i (code_bytes rest) (begins (drop at code) i rest a)

both : (i j : Instr) (m n : ℕ) → ◌≡◌ {A = Option (Instr × ℕ)} (Some (j, m)) (Some (i, n)) → (j ≡ i) × (m ≡ n)
both i j m n e = let p : ◌≡◌ {A = Instr × ℕ} (j, m) (i, n) = cc in (ap (λ (q : Instr × ℕ). q.0) p, ap (λ (q : Instr × ℕ). q.1) p)

-- the next instruction and those behind it
pub record Next (code : List ℕ) (at end : ℕ) (i : Instr) (lines : List ℕ) : Type 0 where
  pub behind : List Instr
  pub instrs : AreInstrs (drop end code) behind
  pub lines_are : lines ≡ instr_line at i ++ instr_lines end behind

pub next_instr : (code : List ℕ) (at end : ℕ) (j : Instr) (rest : List Instr) → AreInstrs (drop at code) rest → at < length code
    → ((i : Instr) (behind : List ℕ) → BeginsWith (drop at code) i behind → ◌≡◌ {A = Option (Instr × ℕ)} (Some (j, end)) (Some (i, at + length (spelling i)))) → Next code at end j (instr_lines at rest)
next_instr code at end j [] a lt again = absurd (none_left (drop at code) a (omega (arith, lt, length-drop at code)))
next_instr code at end j (i ∷ rest) a lt again =
    let e = both i j end (at + length (spelling i)) (again i (code_bytes rest) (begins (drop at code) i rest a)) in
    let end_is : end ≡ at + size i = e.1 ∙ ap (λ (n : ℕ). at + n) (length-spelling i) in
    let behind : drop end code ≡ code_bytes rest =
    ap (λ (n : ℕ). drop n code) (e.1 ∙ omega arith) ∙ sym (drop-drop (length (spelling i)) at code) ∙ ap (drop (length (spelling i))) a.spelled ∙ drop_at (spelling i) (code_bytes rest) (length (spelling i)) refl in
    record {
      behind = rest;
      instrs = record { in_range = a.in_range.1; spelled = behind };
      lines_are = ap (λ (x : Instr). instr_line at x ++ instr_lines (at + size i) rest) (sym e.0) ∙ ap (λ (n : ℕ). instr_line at j ++ instr_lines n rest) (sym end_is);
    }

pub over_instrs : (code : List ℕ) (at : ℕ) (rest : List Instr) → AreInstrs (drop at code) rest → length code ≤ at → instr_lines at rest ≡ []
over_instrs code at [] a le = refl
over_instrs code at (i ∷ rest) a le =
    let e = ap length a.spelled in
    absurd (omega (arith, e, le, length-drop at code, length-append (spelling i) (code_bytes rest), length-spelling i))

-- ---- a code is one list of instructions

same_from : (is js : List Instr) (bytes : List ℕ) → AllByRecursion IsInstr is → AllByRecursion IsInstr js → bytes ≡ code_bytes is → bytes ≡ code_bytes js → is ≡ js
same_from [] [] bytes a b e d = refl
same_from [] (j ∷ js) bytes a b e d = absurd (let h : [] ≡ spelling j ++ code_bytes js = sym e ∙ d in cc)
same_from (i ∷ is) [] bytes a b e d = absurd (let h : [] ≡ spelling i ++ code_bytes is = sym d ∙ e in cc)
same_from (i ∷ is) (j ∷ js) bytes a b e d =
    let p : BeginsWith bytes i (code_bytes is) = record { in_range = a.0; spelled = e } in
    let q : BeginsWith bytes j (code_bytes js) = record { in_range = b.0; spelled = d } in
    ap (λ (x : Instr). x ∷ is) (one_instr bytes (code_bytes is) (code_bytes js) i j p q)
    ∙ ap (λ (xs : List Instr). j ∷ xs) (same_from is js (code_bytes is) a.1 b.1 refl (one_rest bytes (code_bytes is) (code_bytes js) i j p q))

same_code : (code : List ℕ) (is js : List Instr) → AreInstrs code is → AreInstrs code js → is ≡ js
same_code code is js a b = same_from is js code a.in_range b.in_range a.spelled b.spelled

-- ---- procedures

-- the lines of the next procedure, and those behind it
pub next_procedure : (k : ℕ) (p : Procedure) (ps : List Procedure) (text : List ℕ) (lines : AreLines k (p ∷ ps) text) → text ≡ (procedure_line k p ++ instr_lines 0 lines.0) ++ lines.1
next_procedure k p ps text lines = lines.4

same_lines : (k : ℕ) (ps : List Procedure) (text other : List ℕ) → AreLines k ps text → AreLines k ps other → text ≡ other
same_lines k [] text other a b = a ∙ sym b
same_lines k (p ∷ ps) text other a b =
    a.4 ∙ ap (λ (is : List Instr). procedure_line k p ++ instr_lines 0 is ++ a.1) (same_code p.code a.0 b.0 a.2 b.2)
    ∙ ap (λ (r : List ℕ). procedure_line k p ++ instr_lines 0 b.0 ++ r) (same_lines (suc k) ps a.1 b.1 a.3 b.3) ∙ sym b.4

pub same_text : (o : Contents) (text other : List ℕ) → IsText o text → IsText o other → text ≡ other
same_text o text other a b = a.text_is ∙ ap (λ (r : List ℕ). module_line o ++ import_lines (definitions_of o) ++ export_lines 0 o.exports ++ r) (same_lines 0 o.procedures a.procedures b.procedures a.lines b.lines) ∙ sym b.text_is

some_lines : (w : World) (k : ℕ) (ps : List Procedure) → HaveValidCode w k ps → (text : List ℕ) × AreLines k ps text
some_lines w k [] v = ([], refl)
some_lines w k (p ∷ ps) v = let rest = some_lines w (suc k) ps v.1 in (procedure_line k p ++ instr_lines 0 v.0.is ++ rest.0, (v.0.is, rest.0, v.0.instrs, rest.1, refl))

pub lines_of : (o : Contents) → IsValid o → (text : List ℕ) × AreLines 0 o.procedures text
lines_of o v = some_lines (world_of o) 0 o.procedures v.code

pub text_of : (o : Contents) (procedures : List ℕ) → AreLines 0 o.procedures procedures → (text : List ℕ) × IsText o text
text_of o procedures lines = (module_line o ++ import_lines (definitions_of o) ++ export_lines 0 o.exports ++ procedures, record { procedures = procedures; lines = lines; text_is = refl })

-- ---- what is next in a list

pub next_import : (notes : List ImportNote) (i : ℕ) (n : ImportNote) → i < length notes → n ≡ get_or notes i n → import_lines (map import_of (drop i notes)) ≡ import_line (import_of n) ++ import_lines (map import_of (drop (i + 1) notes))
next_import notes i n lt is = ap (λ (xs : List ImportNote). import_lines (map import_of xs)) (next_in notes i n lt is)

pub next_export : (exports : List Export) (k : ℕ) (d : Export) → k < length exports → export_lines k (drop k exports) ≡ export_line k (get_or exports k d) ++ export_lines (k + 1) (drop (k + 1) exports)
next_export exports k d lt =
    let one : suc k ≡ k + 1 = omega arith in
    ap (export_lines k) (drop-cons exports k d lt) ∙ ap (λ (n : ℕ). export_line k (get_or exports k d) ++ export_lines n (drop n exports)) one

pub next_own : (ps : List ProcCode) (k : ℕ) (p : ProcCode) (text : List ℕ) → k < length ps → p ≡ get_or ps k p → AreLines k (map procedure_of (drop k ps)) text → AreLines k (procedure_of p ∷ map procedure_of (drop (k + 1) ps)) text
next_own ps k p text lt is a = subst (λ (xs : List ProcCode). AreLines k (map procedure_of xs) text) (next_in ps k p lt is) a

pub from_next : (ps : List ProcCode) (k : ℕ) (text : List ℕ) → AreLines (suc k) (map procedure_of (drop (k + 1) ps)) text → AreLines (k + 1) (map procedure_of (drop (k + 1) ps)) text
from_next ps k text a = subst (λ (n : ℕ). AreLines n (map procedure_of (drop (k + 1) ps)) text) (omega arith) a
