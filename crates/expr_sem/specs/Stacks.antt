-- Fragments that are still to be appended, the next one last.
use Rattle.std.specs.Prelude.{◌≡◌, ℕ, zero, suc, ◌+◌, List, [], ◌∷◌, ◌++◌, map}
use Rattle.expr_sem.specs.Fragments.{part, part_by, parts_after, step_view}
use Rattle.block_code.specs.Parts.{Made, Part, none, ◌⨟◌}
use Rattle.expr_sem.specs.Pieces.{spot_of}
use Rattle.expr_sem.specs.declared.fragments.Form.{Form}
use Rattle.expr_sem.specs.declared.fragments.Form.TheVariants.{Skip, Then}
use Rattle.expr_sem.specs.declared.fragments.Fragment.{Fragment}
use Rattle.expr_sem.specs.declared.fragments.Fragment.TheVariants.{Nothing, Node as NodeOf}
use Rattle.expr_sem.specs.declared.fragments.Node.{Node}
use Rattle.expr_sem.specs.declared.pieces.Piece.{Piece}
use Rattle.expr_sem.specs.declared.pieces.With.{With}

-- what is still to be appended, the last of the list first
abbrev pub remaining : List Node → List Fragment → Part
remaining ns [] = none
remaining ns (f ∷ fs) = remaining ns fs ⨟ part ns f

-- what a piece has, and what this part appends to it
abbrev pub ends_as : Piece → List With → Part → Made
ends_as p ws q =
    let m = q (spot_of p ws) in
    record { code = map step_view p.steps.items ++ m.code; bytes = p.bytes.items ++ m.bytes; next = m.next }

-- three to this power
abbrev pub three_to : ℕ → ℕ
three_to zero = 1
three_to (suc k) = three_to k + three_to k + three_to k

-- more than the work on the fragment
abbrev pub weight : Fragment → ℕ
weight Nothing = 1
weight (NodeOf k) = three_to (suc k)

abbrev pub stack_weight : List Fragment → ℕ
stack_weight [] = 0
stack_weight (f ∷ fs) = weight f + stack_weight fs

-- the fragments that a form puts on the stack
abbrev pub behind : Form → List Fragment
behind (Then a b) = b ∷ a ∷ []
behind (Skip c a) = a ∷ []
behind other = []

-- a form was appended, but for the fragments that it put on the stack
pub record Visited (before after : Piece) (ws : List With) (ns : List Node) (form : Form)
    (rest more : List Fragment) : Type 0 where
  pub pushed : more ≡ rest ++ behind form
  pub same : ends_as after ws (remaining ns (behind form)) ≡ ends_as before ws (part_by (parts_after [] ns) form)
