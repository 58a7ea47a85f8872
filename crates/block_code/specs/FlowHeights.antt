-- How the code of statements stands: it finds what it takes and leaves the height as it was; each jump in it goes to
-- an instruction, forward or back, where the height is the one that the jump leaves, or, as EXIT, to the place behind
-- the innermost LOOP.
use Rattle.std.specs.Prelude.{◌≡◌, ℕ, suc, ◌+◌, ◌-◌, ◌≤◌, ℤ, pos, negsuc, List, [], ◌∷◌, Option, Some, None, ◌⊎◌}
use Rattle.code_form.specs.Bytes.{size}
use Rattle.code_form.specs.Heights.{Step, after_step}
use Rattle.code_form.specs.Valid.{jump_of}
use Rattle.block_code.specs.Parts.{Spot}
use Rattle.block_code.specs.Flows.{Flow}

-- the places behind, each by its distance and the height there
abbrev pub Behind : Type 0
Behind = List (ℕ × ℕ)

abbrev pub farther : ℕ → Behind → Behind
farther n [] = []
farther n (p ∷ ps) = (p.0 + n, p.1) ∷ farther n ps

-- after a step at height h this place is behind too
abbrev pub passed : Behind → ℕ → Step → Behind
passed b h s = farther (size s.instr) ((0, h) ∷ b)

abbrev pub Has : ℕ → ℕ → Behind → Type 0
Has d k [] = ⊥
Has d k (p ∷ ps) = ((p.0 ≡ d) × (p.1 ≡ k)) ⊎ Has d k ps

-- j bytes on there is an instruction, or the end, at height k; or, o bytes behind the end, what follows a LOOP,
-- at height 0
abbrev pub Leads : (o j h : ℕ) → List Step → ℕ → Type 0
Leads o j h [] k = ((j ≡ 0) × (h ≡ k)) ⊎ ((j ≡ o) × (k ≡ 0))
Leads o j h (s ∷ ss) k = ((j ≡ 0) × (h ≡ k)) ⊎ ((size s.instr ≤ j) × Leads o (j - size s.instr) (after_step h s) ss k)

abbrev pub Goes : Behind → (o h : ℕ) → Option (ℤ × ℕ) → (after : ℕ) → List Step → Type 0
Goes b o h None after ss = Unit {0}
Goes b o h (Some (pos j, gone)) after ss = (gone ≤ h) × Leads o j after ss (h - gone)
Goes b o h (Some (negsuc j, gone)) after ss = (gone ≤ h) × Has (suc j) (h - gone) b

abbrev pub Stands : Behind → (o h : ℕ) → List Step → ℕ → Type 0
Stands b o h [] k = h ≡ k
Stands b o h (s ∷ ss) k = (s.takes ≤ h) × Goes (passed b h s) o h (jump_of s.instr) (after_step h s) ss
    × Stands (passed b h s) o (after_step h s) ss k

-- what is behind after steps that began with b behind at height h
abbrev pub behind : Behind → ℕ → List Step → Behind
behind b h [] = b
behind b h (s ∷ ss) = behind (passed b h s) (after_step h s) ss

-- wherever they stand, the statements leave the height as it was
abbrev pub KeepsHeight : Flow → Type 0
KeepsHeight f = (at : Spot) (b : Behind) (o : ℕ) → Stands b o 0 ((f at).code o) 0
