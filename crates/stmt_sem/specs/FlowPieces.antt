-- What a piece has once an arm, or a part of a choice, is appended.
use Rattle.std.specs.Prelude.{◌≡◌, ℕ, ◌+◌, pos, negsuc, List, [], ◌∷◌, Option, Some, None}
use Rattle.code_form.specs.declared.instr.Instr.TheVariants.{Jump, JumpFalse}
use Rattle.block_code.specs.Parts.{Part, plain, ◌⨟◌}
use Rattle.expr_sem.specs.Stacks.{ends_as}
use Rattle.expr_sem.specs.declared.pieces.Piece.{Piece}
use Rattle.expr_sem.specs.declared.pieces.With.{With}
use Rattle.block_code.specs.Flows.{Flow, HasSize, part_at}
use Rattle.block_code.specs.Statements.{arm_before, flow_or_nothing}

-- so many bytes, where a jump before them is counted too; none where nothing follows
abbrev pub Over : Option Flow → ℕ → Type 0
Over None n = n ≡ 0
Over (Some f) n = (m : ℕ) × (n ≡ m + 5) × HasSize f m

-- with what follows the arm, whatever it is and where it has so many bytes,
-- the piece is as if all were appended at once
abbrev pub AppendedArm : (before after : Piece) → List With → (out left : ℕ) → (test : Part) → (body : Flow) → Type 0
AppendedArm before after ws out left test body =
    (other : Option Flow) → Over other left
    → ends_as after ws (part_at out (flow_or_nothing other))
    ≡ ends_as before ws (part_at out (flow_or_nothing (arm_before test body other)))

-- what was appended, with the rest behind it, is the whole
abbrev pub AppendedBefore : (before after : Piece) → List With → (out : ℕ) → (rest whole : Flow) → Type 0
AppendedBefore before after ws out rest whole =
    ends_as after ws (part_at out rest) ≡ ends_as before ws (part_at out whole)

-- what comes after the body of a loop that counts, whose length is told
abbrev pub again_part : (body again step : ℕ) → Part → Part → Part
again_part b a s again step =
    again ⨟ (plain (JumpFalse (pos (s + 5)) ∷ []) ⨟ (step ⨟ plain (Jump (negsuc (b + a + (s + 5) + 4)) ∷ [])))
