-- The bounds of subranges, as the code has them.
use Rattle.std.specs.Prelude.{◌≡◌, ℕ, Option, Some, None, option_map}
use Rattle.std.specs.Option.{IfSome}
use Rattle.m2_base.specs.Gives.{Gives, and_then, gives}
use Rattle.m2_base.specs.Rows.{IsValue}
use Rattle.m2_base.specs.States.{Frame}
use Rattle.m2_base.specs.Statics.Contexts.{Context, refuse}
use Rattle.m2_base.specs.Statics.Diagnostics.{out_of_range, wrong_operands}
use Rattle.m2_base.specs.Statics.Operands.{constant_of_operand, operand_type}
use Rattle.m2_base.specs.Statics.Operations.{is_ordinal}
use Rattle.m2_base.specs.Statics.Subranges as plain
use Rattle.m2_base.specs.Statics.Subranges.{within_base}
use Rattle.m2_base.specs.Statics.Types.{base_of}
use Rattle.m2_base.specs.declared.operands.Operand.{Operand}
use Rattle.type_rules.specs.Scenes.{IsThere}
use Rattle.decl_sem.specs.declared.bounds.Bounds.{Bounds}
use Rattle.decl_sem.specs.declared.bounds.Choice.{Choice}
use Rattle.decl_sem.specs.declared.bounds.Choice.TheVariants.{Chosen, Nothing as NothingChosen, Wrong as WrongChoice}
use Rattle.decl_sem.specs.declared.bounds.End.{End}
use Rattle.decl_sem.specs.declared.bounds.Verdict.{Verdict}
use Rattle.decl_sem.specs.declared.bounds.Verdict.TheVariants.{BothOutside, HighOutside, LowOutside, Nothing, Right}
use Rattle.decl_sem.specs.declared.bounds.Verdict.TheVariants.{Wrong}

-- bounds, as the definitions see them
abbrev pub bounds_view : Bounds → plain.Bounds
bounds_view b = record { base = b.base; low = b.low; high = b.high }

-- bounds, as the code keeps them
abbrev pub kept_bounds : plain.Bounds → Bounds
kept_bounds b = record { base = b.base; low = b.low; high = b.high }

-- what gives bounds, as the code keeps them
abbrev pub kept : Gives (Option plain.Bounds) → Gives (Option Bounds)
kept g = record { value = option_map kept_bounds g.value; diags = g.diags; answers = g.answers }

-- this is what an operand is as a bound: whether it is ordinal, its base, and its value
pub record IsEndOf (c : Context) (o : Operand) (e : End) : Type 0 where
  pub ordinal : e.ordinal ≡ is_ordinal c o
  pub base : e.base ≡ base_of c.scene (operand_type o)
  pub value : e.value ≡ constant_of_operand o

-- what a choice gives: bounds are compared with the range of their base
abbrev pub chosen : Context → (low_at high_at : ℕ) → Choice → Gives (Option plain.Bounds)
chosen c low_at high_at (Chosen b) = within_base c low_at high_at b.low b.high (Some b.base)
chosen c low_at high_at WrongChoice = refuse c high_at wrong_operands None
chosen c low_at high_at NothingChosen = gives None

-- what a verdict gives
abbrev pub given_by : Context → (low_at high_at : ℕ) → Verdict → Gives (Option Bounds)
given_by c low_at high_at (Right b) = gives (Some b)
given_by c low_at high_at LowOutside = refuse c low_at out_of_range None
given_by c low_at high_at HighOutside = refuse c high_at out_of_range None
given_by c low_at high_at BothOutside =
    and_then (refuse c low_at out_of_range None) (λ none. refuse c high_at out_of_range none)
given_by c low_at high_at Wrong = refuse c high_at wrong_operands None
given_by c low_at high_at Nothing = gives None

-- ** What may stand

-- the base can be asked for, and the value is one that a row has room for
abbrev pub IsEnd : Frame → End → Type 0
IsEnd f e = IsThere f e.base × IfSome e.value (λ v. IsValue v)

-- the base can be asked for, and the bounds are values that a row has room for
abbrev pub AreBounds : Frame → Bounds → Type 0
AreBounds f b = IsThere f b.base × IsValue b.low × IsValue b.high

abbrev pub IsChoice : Frame → Choice → Type 0
IsChoice f (Chosen b) = AreBounds f b
IsChoice f other = Unit {0}

abbrev pub IsVerdict : Frame → Verdict → Type 0
IsVerdict f (Right b) = AreBounds f b
IsVerdict f other = Unit {0}
