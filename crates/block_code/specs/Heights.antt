-- How a part of code moves the stack's height, wherever it stands: from so many operands above some height to so many
-- above the same, never taking what is below; and each jump in it goes to an instruction of the part or to its end,
-- where the height is the one that the jump leaves.
use Rattle.std.specs.Prelude.{◌≡◌, ℕ, Bool, true, false, ◌-◌, ◌≤◌, ℤ, pos, negsuc, List, [], ◌∷◌, Option, Some, None}
use Rattle.std.specs.Prelude.{◌⊎◌}
use Rattle.code_form.specs.Bytes.{size}
use Rattle.code_form.specs.Heights.{Step, after_step}
use Rattle.code_form.specs.Valid.{jump_of}
use Rattle.code_form.specs.declared.instr.Instr.{Instr}
use Rattle.code_form.specs.declared.instr.Instr.TheVariants.{Call, CallX, Return}
use Rattle.m2_base.specs.declared.operands.Operand.TheVariants.{Variable}
use Rattle.m2_base.specs.declared.operands.Operand.{Operand}
use Rattle.block_code.specs.Coded.{Coded}
use Rattle.block_code.specs.Parts.{Part, Spot}

-- So many bytes on from a height before these steps there is an instruction, or the end, and the height there is the
-- last one given.
abbrev pub Reaches : (bytes height : ℕ) → List Step → (there : ℕ) → Type 0
Reaches j h [] k = (j ≡ 0) × (h ≡ k)
Reaches j h (s ∷ ss) k = ((j ≡ 0) × (h ≡ k)) ⊎ ((size s.instr ≤ j) × Reaches (j - size s.instr) (after_step h s) ss k)

-- an instruction that jumps goes forward, to an instruction at the height that it leaves, or to the end at that height
abbrev pub Jumps : (before : ℕ) → Option (ℤ × ℕ) → (behind : ℕ) → List Step → Type 0
Jumps h None after ss = Unit {0}
Jumps h (Some (pos j, gone)) after ss = (gone ≤ h) × Reaches j after ss (h - gone)
Jumps h (Some (negsuc j, gone)) after ss = ⊥

-- from the first height on these steps find what they take, their jumps go where they may,
-- and they end at the last height
abbrev pub Fine : (first : ℕ) → List Step → (last : ℕ) → Type 0
Fine h [] k = h ≡ k
Fine h (s ∷ ss) k = (s.takes ≤ h) × Jumps h (jump_of s.instr) (after_step h s) ss × Fine (after_step h s) ss k

-- wherever it stands, the part moves the height from the first to the last
abbrev pub Moves : (first : ℕ) → Part → (last : ℕ) → Type 0
Moves m p n = (at : Spot) → Fine m (p at).code n

-- by its operand, what the code of a variable leaves: its address, and of an open array the number of elements less 1
abbrev pub IsAddressedBy : (code high : Part) → Operand → Type 0
IsAddressedBy code high (Variable t) = Moves 0 code 1 × Moves 0 high 1
IsAddressedBy code high other = Unit {0}

-- where it is a variable, its code leaves its address
abbrev pub IsAddressed : Coded → Type 0
IsAddressed x = IsAddressedBy x.code x.high x.operand

-- the instruction asks the callees what it takes and leaves
abbrev pub needs_callee : Instr → Bool
needs_callee (Call p h) = true
needs_callee (CallX m k) = true
needs_callee Return = true
needs_callee i = false
