-- Fragments of code: the part of code that each stands for. A node is made of earlier ones.
use Rattle.std.specs.Prelude.{◌≡◌, ℕ, ◌<◌, ℤ, List, [], ◌∷◌, ◌++◌, length, Some, Result, Ok, Err, slice_get}
use Rattle.std.specs.Prelude.{slice_index_or}
use Rattle.m2_base.specs.Lists.{IsPrefixOf}
use Rattle.m2_base.specs.declared.memory.Memory.{Memory}
use Rattle.code_form.specs.declared.instr.Instr.{Instr}
use Rattle.code_form.specs.declared.instr.Instr.TheVariants.{AndJump, OrJump}
use Rattle.code_form.specs.Heights.{Step}
use Rattle.block_code.specs.Arguments.{string_copy}
use Rattle.block_code.specs.Parts.{Part, Spot, none, skip, steps, steps_size, text, with_record, ◌⨟◌}
use Rattle.expr_sem.specs.declared.fragments.Connective.{Connective}
use Rattle.expr_sem.specs.declared.fragments.Connective.TheVariants.{And, Or}
use Rattle.expr_sem.specs.declared.fragments.Form.{Form}
use Rattle.expr_sem.specs.declared.fragments.Form.TheVariants.{One, Text, StringCopy, WithRecord, Then, Skip}
use Rattle.expr_sem.specs.declared.fragments.Fragment.{Fragment}
use Rattle.expr_sem.specs.declared.fragments.Fragment.TheVariants.{Nothing, Node as NodeOf}
use Rattle.expr_sem.specs.declared.fragments.Node.{Node}
use Rattle.expr_sem.specs.declared.steps.Step.{Step as CodeStep}

-- a step as the definitions see it
abbrev pub step_view : CodeStep → Step
step_view s = record { instr = s.instr; takes = s.takes; leaves = s.leaves }

-- the jump over what is skipped
abbrev pub jump_of : Connective → ℤ → Instr
jump_of And j = AndJump j
jump_of Or j = OrJump j

-- what a fragment stands for, among the parts of the nodes
abbrev pub part_among : List Part → Fragment → Part
part_among ps Nothing = none
part_among ps (NodeOf k) = slice_index_or ps k none

-- what a node stands for, after those parts
abbrev pub part_by : List Part → Form → Part
part_by ps (One s) = steps (step_view s ∷ [])
part_by ps (Text characters) = text characters.items
part_by ps (StringCopy size characters) = string_copy size characters.items
part_by ps (WithRecord k) = with_record k
part_by ps (Then a b) = part_among ps a ⨟ part_among ps b
part_by ps (Skip c a) = skip (jump_of c) (part_among ps a)

-- the parts of further nodes, after these
abbrev pub parts_after : List Part → List Node → List Part
parts_after ps [] = ps
parts_after ps (n ∷ ns) = parts_after (ps ++ part_by ps n.form ∷ []) ns

-- the part of code that a fragment stands for
abbrev pub part : List Node → Fragment → Part
part ns f = part_among (parts_after [] ns) f

-- a fragment is one of these
abbrev pub IsIn : List Node → Fragment → Type 0
IsIn ns Nothing = Unit {0}
IsIn ns (NodeOf k) = k < length ns

-- a fragment is one of the first k
abbrev pub IsBefore : (k : ℕ) → Fragment → Type 0
IsBefore k Nothing = Unit {0}
IsBefore k (NodeOf j) = j < k

-- a form is made of the first k fragments
abbrev pub IsMadeOf : (k : ℕ) → Form → Type 0
IsMadeOf k (Then a b) = IsBefore k a × IsBefore k b
IsMadeOf k (Skip c a) = IsBefore k a
IsMadeOf k other = Unit {0}

-- A node's number: it is made of earlier ones, and its size is the length of its code in bytes, wherever it stands.
pub record IsSound (ns : List Node) (k : ℕ) (n : Node) : Type 0 where
  pub earlier : IsMadeOf k n.form
  pub size : (at : Spot) → steps_size (part ns (NodeOf k) at).code ≡ n.size

abbrev pub AreSound : List Node → Type 0
AreSound ns = (k : ℕ) (n : Node) → slice_get ns k ≡ Some n → IsSound ns k n

-- further nodes behind, which are as sound as those before
pub record Grows (from to : List Node) : Type 0 where
  pub before : IsPrefixOf from to
  pub sound : AreSound from → AreSound to

-- the fragment is one of these and stands for this part
pub record IsFragmentOf (ns : List Node) (f : Fragment) (p : Part) : Type 0 where
  pub there : IsIn ns f
  pub part_is : part ns f ≡ p

abbrev pub MadeBy : List Node → Result Fragment Memory → Part → Type 0
MadeBy ns (Ok f) p = IsFragmentOf ns f p
MadeBy ns (Err m) p = Unit {0}

-- Nodes were added, and with them the fragment for this part, or memory was wanted.
pub record IsMade (from to : List Node) (answer : Result Fragment Memory) (p : Part) : Type 0 where
  pub grows : Grows from to
  pub made : MadeBy to answer p
