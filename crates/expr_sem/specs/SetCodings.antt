-- What the elements of a set make so far, as the definitions see it.
use Rattle.std.specs.Prelude.{List}
use Rattle.m2_base.specs.States.{Frame}
use Rattle.const_eval.specs.Sites.{IsOperand}
use Rattle.expr_sem.specs.Fragments.{IsIn, part}
use Rattle.block_code.specs.SetElements as sets
use Rattle.expr_sem.specs.declared.fragments.Node.{Node}
use Rattle.expr_sem.specs.declared.set_elements.Elements.{Elements}

-- the set and the code, each fragment as the part that it stands for
abbrev pub elements_in : List Node → Elements → sets.Elements
elements_in ns es = record { set = es.set; code = part ns es.code }

-- the set may stand in an expression, and the code is among these fragments
pub record AreElements (f : Frame) (ns : List Node) (es : Elements) : Type 0 where
  pub set : IsOperand f es.set
  pub code : IsIn ns es.code
