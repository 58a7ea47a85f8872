-- Reading an instruction from the front of the bytes.
use Rattle.std.specs.Prelude.{◌≡◌, ℕ, ℤ, pos, negsuc, List, [], ◌∷◌, length, take, drop, Option, Some, None, nat_lt}
use Rattle.std.specs.Prelude.{◌==◌, ◌||◌, if◌then◌else◌, slice_get}
use Rattle.std.specs.Int.{Width, w32, w64, byte_len, from_le_bytes, cast_signed}
use Rattle.code_form.specs.Instructions.{Instr, Push, Local, Global, Str, Load, Store, Move, Dup, Offset, Index}
use Rattle.code_form.specs.Instructions.{IndexOpen, Check, Nil, Add, Sub, Mul, Div, Mod, Neg, Abs, Not, Eq, Ne, Lt, Le}
use Rattle.code_form.specs.Instructions.{Gt, Ge, Union, Diff, Inter, SymDiff, Subset, Superset, In, Bit, Span, Jump}
use Rattle.code_form.specs.Instructions.{JumpFalse, AndJump, OrJump, More, Call, CallX, CallVar, Proc, Return, Trap}
use Rattle.code_form.specs.Instructions.{New, OpenCopy, Halt, Cap}

infixl 10 ◌>>=◌
abbrev pub ◌>>=◌ : {A B : Type 0} → Option A → (A → Option B) → Option B
(Some x) >>= f = f x
None >>= f = None

-- what a function returned, seen by view, is what reading gives
abbrev pub Reads : {X Y : Type 0} → (X → Y) → Option X → Option Y → Type 0
Reads view (Some x) read = read ≡ Some (view x)
Reads view None read = read ≡ None

abbrev pub wide_at : Width → List ℕ → Option (ℕ × List ℕ)
wide_at w bytes = if nat_lt (length bytes) (byte_len w) then None
    else Some (from_le_bytes w (take (byte_len w) bytes), drop (byte_len w) bytes)

abbrev pub number_at : List ℕ → Option (ℕ × List ℕ)
number_at = wide_at w32

unfoldable pub distance_at : List ℕ → Option (ℤ × List ℕ)
distance_at bytes = do
  n ← number_at bytes
  Some (cast_signed w32 n.0, n.1)

abbrev pub is_value : ℤ → Option ℤ
is_value (pos n) = if nat_lt n 4294967296 then Some (pos n) else None
is_value (negsuc n) = if nat_lt n 2147483648 then Some (negsuc n) else None

unfoldable pub value_at : List ℕ → Option (ℤ × List ℕ)
value_at bytes = do
  n ← wide_at w64 bytes
  v ← is_value (cast_signed w64 n.0)
  Some (v, n.1)

unfoldable pub flag_at : List ℕ → Option (ℕ × List ℕ)
flag_at [] = None
flag_at (b ∷ rest) = if nat_lt b 2 then Some (b, rest) else None

unfoldable pub trap_at : List ℕ → Option (ℕ × List ℕ)
trap_at [] = None
trap_at (b ∷ rest) = if b == 7 || b == 8 then Some (b, rest) else None

unfoldable pub count_at : List ℕ → Option (ℕ × List ℕ)
count_at bytes = do
  n ← number_at bytes
  if n.0 == 0 then None else Some n

abbrev pub Row : Type 0
Row = List ℕ → Option (Instr × List ℕ)

abbrev pub none : Row
none rest = None

abbrev pub bare : Instr → Row
bare i rest = Some (i, rest)

abbrev pub one : {A : Type 0} → (List ℕ → Option (A × List ℕ)) → (A → Instr) → Row
one at f bytes = do
  x ← at bytes
  Some (f x.0, x.1)

abbrev pub two : {A B : Type 0} → (List ℕ → Option (A × List ℕ)) → (List ℕ → Option (B × List ℕ)) → (A → B → Instr)
    → Row
two at bt f bytes = do
  x ← at bytes
  y ← bt x.1
  Some (f x.0 y.0, y.1)

abbrev pub three : {A B C : Type 0} → (List ℕ → Option (A × List ℕ)) → (List ℕ → Option (B × List ℕ))
    → (List ℕ → Option (C × List ℕ)) → (A → B → C → Instr) → Row
three at bt ct f bytes = do
  x ← at bytes
  y ← bt x.1
  z ← ct y.1
  Some (f x.0 y.0 z.0, z.1)

-- the reader of each opcode
unfoldable pub rows : List Row
rows =
    none ∷ one value_at Push ∷ two number_at number_at Local ∷ two number_at number_at Global ∷ one number_at Str
    ∷ bare Load ∷ bare Store ∷ one number_at Move ∷ bare Dup ∷ one number_at Offset
    ∷ three value_at number_at number_at Index ∷ one number_at IndexOpen ∷ two value_at value_at Check ∷ bare Nil
    ∷ one flag_at Add ∷ one flag_at Sub ∷ one flag_at Mul ∷ one flag_at Div ∷ one flag_at Mod ∷ bare Neg ∷ bare Abs
    ∷ bare Not ∷ bare Eq ∷ bare Ne ∷ bare Lt ∷ bare Le ∷ bare Gt ∷ bare Ge ∷ bare Union ∷ bare Diff ∷ bare Inter
    ∷ bare SymDiff ∷ bare Subset ∷ bare Superset ∷ bare In ∷ bare Bit ∷ bare Span ∷ one distance_at Jump
    ∷ one distance_at JumpFalse ∷ one distance_at AndJump ∷ one distance_at OrJump ∷ one value_at More
    ∷ two number_at number_at Call ∷ two number_at number_at CallX ∷ two number_at number_at CallVar
    ∷ two number_at number_at Proc ∷ bare Return ∷ one trap_at Trap ∷ one count_at New
    ∷ two number_at number_at OpenCopy ∷ bare Halt ∷ bare Cap ∷ []

unfoldable pub instr_at : ℕ → Row
unfolding rows
instr_at op rest = slice_get rows op >>= λ row. row rest

unfoldable pub decoded : Row
decoded [] = None
decoded (op ∷ rest) = instr_at op rest
