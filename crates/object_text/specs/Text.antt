-- The text of an object: a line for the module, each import, each export and each procedure, and behind a procedure's
-- line one for each of its instructions.
use Rattle.std.specs.Prelude.{◌≡◌, ℕ, suc, ◌+◌, ℤ, pos, List, [], ◌∷◌, ◌++◌, length, codes, decimal}
use Rattle.std.specs.Fmt.{signed_decimal}
use Rattle.std.specs.List.{flat_map}
use Rattle.code_form.specs.declared.instr.Instr.{Instr}
use Rattle.code_form.specs.declared.instr.Instr.TheVariants as instr
use Rattle.code_form.specs.Instructions.{line_of}
use Rattle.code_form.specs.Bytes.{size}
use Rattle.code_form.specs.Modules.{Import, Procedure}
use Rattle.code_form.specs.Valid.{AreInstrs}
use Rattle.object_file.specs.Contents.{Contents, Export, definitions_of}

abbrev pub line_end : List ℕ
line_end = codes "\n"

-- a word and its number
abbrev pub field : List ℕ → ℕ → List ℕ
field word n = word ++ decimal n

abbrev pub module_line : Contents → List ℕ
module_line o = codes "module " ++ o.name ++ field (codes " version ") o.version ++ field (codes " cells ") o.cells
    ++ line_end

abbrev pub import_line : Import → List ℕ
import_line i = codes "import " ++ i.name ++ field (codes " cells ") i.cells
    ++ field (codes " headings ") (length i.headings) ++ line_end

-- an export with its number
abbrev pub export_line : ℕ → Export → List ℕ
export_line k e = field (codes "export ") k ++ field (codes " procedure ") e.0 ++ field (codes " params ") e.1
    ++ field (codes " result ") e.2 ++ line_end

-- a procedure with its number
abbrev pub procedure_line : ℕ → Procedure → List ℕ
procedure_line k p =
    field (codes "procedure ") k ++ field (codes " outer ") p.outer ++ field (codes " params ") p.params
    ++ field (codes " result ") p.result
    ++ field (codes " locals ") p.locals ++ field (codes " high ") p.high ++ field (codes " data ") (length p.bytes)
    ++ field (codes " code ") (length p.code) ++ line_end

-- the operands of an instruction
abbrev pub operands_of : Instr → List ℤ
operands_of (instr.Push v) = v ∷ []
operands_of (instr.Local h o) = pos h ∷ pos o ∷ []
operands_of (instr.Global m o) = pos m ∷ pos o ∷ []
operands_of (instr.Str o) = pos o ∷ []
operands_of (instr.Move n) = pos n ∷ []
operands_of (instr.Offset n) = pos n ∷ []
operands_of (instr.Index low n s) = low ∷ pos n ∷ pos s ∷ []
operands_of (instr.IndexOpen s) = pos s ∷ []
operands_of (instr.Check low high) = low ∷ high ∷ []
operands_of (instr.Add b) = pos b ∷ []
operands_of (instr.Sub b) = pos b ∷ []
operands_of (instr.Mul b) = pos b ∷ []
operands_of (instr.Div b) = pos b ∷ []
operands_of (instr.Mod b) = pos b ∷ []
operands_of (instr.Jump j) = j ∷ []
operands_of (instr.JumpFalse j) = j ∷ []
operands_of (instr.AndJump j) = j ∷ []
operands_of (instr.OrJump j) = j ∷ []
operands_of (instr.More c) = c ∷ []
operands_of (instr.Call p h) = pos p ∷ pos h ∷ []
operands_of (instr.CallX m k) = pos m ∷ pos k ∷ []
operands_of (instr.CallVar n r) = pos n ∷ pos r ∷ []
operands_of (instr.Proc m k) = pos m ∷ pos k ∷ []
operands_of (instr.Trap c) = pos c ∷ []
operands_of (instr.New n) = pos n ∷ []
operands_of (instr.OpenCopy o s) = pos o ∷ pos s ∷ []
operands_of i = []

-- numbers, each with a blank before it
abbrev pub numbers_text : List ℤ → List ℕ
numbers_text ns = flat_map (λ n. codes " " ++ signed_decimal n) ns

-- an instruction with its place in the code
abbrev pub instr_line : (at : ℕ) → Instr → List ℕ
instr_line at i = decimal at ++ codes " " ++ (line_of i).word ++ numbers_text (operands_of i) ++ line_end

-- instructions one after another, the first of them at a place
abbrev pub instr_lines : (at : ℕ) → List Instr → List ℕ
instr_lines at [] = []
instr_lines at (i ∷ is) = instr_line at i ++ instr_lines (at + size i) is

abbrev pub import_lines : List Import → List ℕ
import_lines is = flat_map import_line is

-- exports, the first of which has number k
abbrev pub export_lines : (k : ℕ) → List Export → List ℕ
export_lines k [] = []
export_lines k (e ∷ es) = export_line k e ++ export_lines (suc k) es

-- the lines of procedures, the first of which has number k, each followed by its instructions
abbrev pub AreLines : (k : ℕ) → List Procedure → List ℕ → Type 0
AreLines k [] text = text ≡ []
AreLines k (p ∷ ps) text = (is : List Instr) × (rest : List ℕ) × AreInstrs p.code is × AreLines (suc k) ps rest
    × (text ≡ procedure_line k p ++ instr_lines 0 is ++ rest)

-- the text of an object
pub record IsText (o : Contents) (text : List ℕ) : Type 0 where
  pub procedures : List ℕ
  pub lines : AreLines 0 o.procedures procedures
  pub text_is : text ≡ module_line o ++ import_lines (definitions_of o) ++ export_lines 0 o.exports ++ procedures
