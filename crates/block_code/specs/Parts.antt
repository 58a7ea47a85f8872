-- Parts of a block's code. A part is known once it is told where it stands: which temporary cell and which byte of the
-- block's data come next, and which cells have the addresses of the records of the open WITHs. What a part takes of
-- cells and bytes is handed on to the part after it, in text order. A jump goes by its distance, so a part is the same
-- wherever its instructions stand.
use Rattle.std.specs.Prelude.{ℕ, ◌+◌, ℤ, pos, List, [], ◌∷◌, ◌++◌, length, map, nat_lt, if◌then◌else◌, slice_index}
use Rattle.m2_base.specs.Statics.Cells.{capped, most_cells}
use Rattle.code_form.specs.declared.instr.Instr.{Instr}
use Rattle.code_form.specs.declared.instr.Instr.TheVariants.{Str, Local, Load}
use Rattle.code_form.specs.Bytes.{size}
use Rattle.code_form.specs.Heights.{Callee, Callees, Step, step_among}

-- where a part begins: the next temporary cell, the number of the next byte of the block's data, and the cells of the
-- open WITHs, the innermost first
pub record Spot : Type 0 where
  pub cell : ℕ
  pub byte : ℕ
  pub withs : List ℕ

-- what a part makes: its code, its bytes of the data, and where the next part begins
pub record Made : Type 0 where
  pub code : List Step
  pub bytes : List ℕ
  pub next : Spot

-- a part of a block's code, as a function of where it stands
abbrev pub Part : Type 0
Part = Spot → Made

-- the length in bytes of instructions one after another
abbrev pub steps_size : List Step → ℕ
steps_size [] = 0
steps_size (s ∷ ss) = size s.instr + steps_size ss

-- what a call that nobody asks of takes and leaves
abbrev pub no_callee : Callee
no_callee = record { params = 0; result = 0 }

-- no procedure, and no result
abbrev pub no_callees : Callees
no_callees = record { own = λ p. no_callee; imported = λ m k. no_callee; result = 0 }

-- an instruction that is no call and no return: the table has what it takes and leaves
abbrev pub plain_step : Instr → Step
plain_step i = step_among no_callees i

-- these instructions, which take no cells and no bytes of the data
abbrev pub steps : List Step → Part
steps code at = record { code = code; bytes = []; next = at }

-- such instructions, none of which calls or returns
abbrev pub plain : List Instr → Part
plain code = steps (map plain_step code)

-- an instruction that calls: it takes so many operands and leaves the result
abbrev pub call : Instr → (takes leaves : ℕ) → Part
call i takes leaves = steps (record { instr = i; takes = takes; leaves = leaves } ∷ [])

-- nothing
abbrev pub none : Part
none = steps []

infixr 40 ◌⨟◌
-- one part after another
abbrev pub ◌⨟◌ : Part → Part → Part
(a ⨟ b) at =
    let p = a at in
    let q = b p.next in
    record { code = p.code ++ q.code; bytes = p.bytes ++ q.bytes; next = q.next }

-- a jump that skips a part
abbrev pub skip : (ℤ → Instr) → Part → Part
skip jump a at =
    let p = a at in
    record { code = plain_step (jump (pos (steps_size p.code))) ∷ p.code; bytes = p.bytes; next = p.next }

-- a part that has so many temporary cells of its own, from the next one on
abbrev pub with_cells : ℕ → ((first : ℕ) → Part) → Part
with_cells n part at = part at.cell (record at { cell = capped (at.cell + n) })

-- bytes of the data, unless the data would have too many of them
abbrev pub unless_too_many : (last : ℕ) → List ℕ → List ℕ
unless_too_many last bytes = if nat_lt most_cells last then [] else bytes

-- the address of a string's characters, which go to the data with a 0 behind them
abbrev pub text : List ℕ → Part
text characters at =
    let last = capped (at.byte + length characters + 1) in
    record {
      code = plain_step (Str at.byte) ∷ [];
      bytes = unless_too_many last (characters ++ 0 ∷ []);
      next = record at { byte = last };
    }

-- the address of the record of an open WITH, of which 0 is the innermost
abbrev pub with_record : ℕ → Part
with_record k at = plain (Local 0 (slice_index at.withs k) ∷ Load ∷ []) at
