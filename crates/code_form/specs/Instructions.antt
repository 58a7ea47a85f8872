-- The instructions of the machine: one table, from which bytes, heights and printed words come.
use Rattle.std.specs.Prelude.{ℕ, ◌+◌, pos, negsuc, ◌≤ℤ◌, FitsSigned, ◌<◌, ◌≤◌, ◌^◌, List, [], ◌∷◌, codes}
use Rattle.std.specs.Int.{w32}
use Rattle.std.specs.List.{AllByRecursion}
use Rattle.code_form.specs.declared.effect.Effect.{Effect}
use Rattle.code_form.specs.declared.effect.Effect.TheVariants.{Changes, CallsOwn, CallsImport, GivesResult}
pub use Rattle.code_form.specs.declared.instr.Instr.{Instr}
pub use Rattle.code_form.specs.declared.instr.Instr.TheVariants.{Push, Local, Global, Str, Load, Store, Move, Dup}
pub use Rattle.code_form.specs.declared.instr.Instr.TheVariants.{Offset, Index, IndexOpen, Check, Nil, Add, Sub, Mul}
pub use Rattle.code_form.specs.declared.instr.Instr.TheVariants.{Div, Mod, Neg, Abs, Not, Eq, Ne, Lt, Le, Gt, Ge}
pub use Rattle.code_form.specs.declared.instr.Instr.TheVariants.{Union, Diff, Inter, SymDiff, Subset, Superset, In}
pub use Rattle.code_form.specs.declared.instr.Instr.TheVariants.{Bit, Span, Jump, JumpFalse, AndJump, OrJump, More}
pub use Rattle.code_form.specs.declared.instr.Instr.TheVariants.{Call, CallX, CallVar, Proc, Return, Trap, New}
pub use Rattle.code_form.specs.declared.instr.Instr.TheVariants.{OpenCopy, Halt, Cap}
pub use Rattle.code_form.specs.declared.operand.Operand.{Operand}
pub use Rattle.code_form.specs.declared.operand.Operand.TheVariants.{Number as number, Count as count}
pub use Rattle.code_form.specs.declared.operand.Operand.TheVariants.{Distance as distance, Value as value}
pub use Rattle.code_form.specs.declared.operand.Operand.TheVariants.{Flag as flag, Trap as trap}

-- a line of the table
pub record Line : Type 0 where
  pub opcode : ℕ
  pub word : List ℕ
  pub operands : List Operand
  pub effect : Effect

abbrev pub line : ℕ → List ℕ → List Operand → Effect → Line
line opcode word operands effect = record { opcode = opcode; word = word; operands = operands; effect = effect }

-- The table. An instruction that may jump with a value kept has the effect of not jumping.
abbrev pub line_of : Instr → Line
line_of (Push v) = line 0x01 (codes "Push") (value v ∷ []) (Changes 0 1)
line_of (Local h o) = line 0x02 (codes "Local") (number h ∷ number o ∷ []) (Changes 0 1)
line_of (Global m o) = line 0x03 (codes "Global") (number m ∷ number o ∷ []) (Changes 0 1)
line_of (Str o) = line 0x04 (codes "Str") (number o ∷ []) (Changes 0 1)
line_of Load = line 0x05 (codes "Load") [] (Changes 1 1)
line_of Store = line 0x06 (codes "Store") [] (Changes 2 0)
line_of (Move n) = line 0x07 (codes "Move") (number n ∷ []) (Changes 2 0)
line_of Dup = line 0x08 (codes "Dup") [] (Changes 1 2)
line_of (Offset n) = line 0x09 (codes "Offset") (number n ∷ []) (Changes 1 1)
line_of (Index low n s) = line 0x0a (codes "Index") (value low ∷ number n ∷ number s ∷ []) (Changes 2 1)
line_of (IndexOpen s) = line 0x0b (codes "IndexOpen") (number s ∷ []) (Changes 3 1)
line_of (Check low high) = line 0x0c (codes "Check") (value low ∷ value high ∷ []) (Changes 1 1)
line_of Nil = line 0x0d (codes "Nil") [] (Changes 1 1)
line_of (Add b) = line 0x0e (codes "Add") (flag b ∷ []) (Changes 2 1)
line_of (Sub b) = line 0x0f (codes "Sub") (flag b ∷ []) (Changes 2 1)
line_of (Mul b) = line 0x10 (codes "Mul") (flag b ∷ []) (Changes 2 1)
line_of (Div b) = line 0x11 (codes "Div") (flag b ∷ []) (Changes 2 1)
line_of (Mod b) = line 0x12 (codes "Mod") (flag b ∷ []) (Changes 2 1)
line_of Neg = line 0x13 (codes "Neg") [] (Changes 1 1)
line_of Abs = line 0x14 (codes "Abs") [] (Changes 1 1)
line_of Not = line 0x15 (codes "Not") [] (Changes 1 1)
line_of Eq = line 0x16 (codes "Eq") [] (Changes 2 1)
line_of Ne = line 0x17 (codes "Ne") [] (Changes 2 1)
line_of Lt = line 0x18 (codes "Lt") [] (Changes 2 1)
line_of Le = line 0x19 (codes "Le") [] (Changes 2 1)
line_of Gt = line 0x1a (codes "Gt") [] (Changes 2 1)
line_of Ge = line 0x1b (codes "Ge") [] (Changes 2 1)
line_of Union = line 0x1c (codes "Union") [] (Changes 2 1)
line_of Diff = line 0x1d (codes "Diff") [] (Changes 2 1)
line_of Inter = line 0x1e (codes "Inter") [] (Changes 2 1)
line_of SymDiff = line 0x1f (codes "SymDiff") [] (Changes 2 1)
line_of Subset = line 0x20 (codes "Subset") [] (Changes 2 1)
line_of Superset = line 0x21 (codes "Superset") [] (Changes 2 1)
line_of In = line 0x22 (codes "In") [] (Changes 2 1)
line_of Bit = line 0x23 (codes "Bit") [] (Changes 1 1)
line_of Span = line 0x24 (codes "Span") [] (Changes 2 1)
line_of (Jump j) = line 0x25 (codes "Jump") (distance j ∷ []) (Changes 0 0)
line_of (JumpFalse j) = line 0x26 (codes "JumpFalse") (distance j ∷ []) (Changes 1 0)
line_of (AndJump j) = line 0x27 (codes "AndJump") (distance j ∷ []) (Changes 1 0)
line_of (OrJump j) = line 0x28 (codes "OrJump") (distance j ∷ []) (Changes 1 0)
line_of (More c) = line 0x29 (codes "More") (value c ∷ []) (Changes 2 1)
line_of (Call p h) = line 0x2a (codes "Call") (number p ∷ number h ∷ []) (CallsOwn p)
line_of (CallX m k) = line 0x2b (codes "CallX") (number m ∷ number k ∷ []) (CallsImport m k)
line_of (CallVar n r) = line 0x2c (codes "CallVar") (number n ∷ number r ∷ []) (Changes (n + 1) r)
line_of (Proc m k) = line 0x2d (codes "Proc") (number m ∷ number k ∷ []) (Changes 0 1)
line_of Return = line 0x2e (codes "Return") [] GivesResult
line_of (Trap c) = line 0x2f (codes "Trap") (trap c ∷ []) (Changes 0 0)
line_of (New n) = line 0x30 (codes "New") (count n ∷ []) (Changes 1 0)
line_of (OpenCopy o s) = line 0x31 (codes "OpenCopy") (number o ∷ number s ∷ []) (Changes 0 0)
line_of Halt = line 0x32 (codes "Halt") [] (Changes 0 0)
line_of Cap = line 0x33 (codes "Cap") [] (Changes 1 1)

-- the ranges of the operands
abbrev pub InRange : Operand → Type 0
InRange (number n) = n < 2 ^ 32
InRange (count n) = (1 ≤ n) × (n < 2 ^ 32)
InRange (distance j) = FitsSigned w32 j
InRange (value v) = (negsuc 2147483647 ≤ℤ v) × (v ≤ℤ pos 4294967295)
InRange (flag b) = b < 2
InRange (trap c) = (7 ≤ c) × (c ≤ 8)

-- all operands are in their ranges
abbrev pub IsInstr : Instr → Type 0
IsInstr i = AllByRecursion InRange (line_of i).operands
