-- What an analysis that makes code leaves and gives, whose answer may not be known yet.
use Rattle.std.specs.Prelude.{List, Option, Some, None, Result, map}
use Rattle.std.specs.Option.{IfSome}
use Rattle.m2_base.specs.Asks.{IfKnown, IfWaits}
use Rattle.m2_base.specs.Gives.{Adds, Gives}
use Rattle.m2_base.specs.States.{Frame, State, Waits, Works}
use Rattle.m2_base.specs.Statics.Contexts.{Context}
use Rattle.m2_base.specs.declared.memory.Memory.{Memory}
use Rattle.m2_base.specs.declared.notes.Notes.{Notes}
use Rattle.m2_base.specs.declared.replies.Ask.{Ask}
use Rattle.m2_base.specs.declared.rows.Place.{Place}
use Rattle.m2_base.specs.declared.sites.Site.{Site}
use Rattle.type_rules.specs.Scenes.{WhereTold}
use Rattle.type_rules.specs.Sites.{AreOfSite, context_of}
use Rattle.const_eval.specs.Sites.{IsOperand}
use Rattle.block_code.specs.Coded as code
use Rattle.block_code.specs.Coded.{no_high}
use Rattle.expr_sem.specs.Fragments.{Grows, IsIn, part}
use Rattle.block_code.specs.Parts.{Part}
use Rattle.expr_sem.specs.declared.coded.Coded.{Coded}
use Rattle.expr_sem.specs.declared.fragments.Fragment.{Fragment}
use Rattle.expr_sem.specs.declared.fragments.Node.{Node}
use Rattle.expr_sem.specs.declared.pieces.With.{With}

-- the number of elements less 1: of what is no open array nobody asks
abbrev pub high_in : List Node → Option Fragment → Part
high_in ns None = no_high
high_in ns (Some f) = part ns f

-- an operand with its code, as the definitions see it
abbrev pub coded_in : List Node → Coded → code.Coded
coded_in ns x = record { operand = x.operand; code = part ns x.code; high = high_in ns x.high }

-- an operand with its code that may stand in an expression: its fragments are among these
pub record IsCoded (f : Frame) (ns : List Node) (x : Coded) : Type 0 where
  pub operand : IsOperand f x.operand
  pub code : IsIn ns x.code
  pub high : IfSome x.high (λ h. IsIn ns h)

-- a fragment alone, among these
abbrev pub IsFragment : Frame → List Node → Fragment → Type 0
IsFragment f ns x = IsIn ns x

-- the types of the records of open WITHs
abbrev pub with_types : List With → List Place
with_types ws = map (λ w. w.of) ws

-- Previous notes stay, and each answer noted was found by a search. The scope that the answer waits for is incomplete,
-- and before the own one. The fragments made before stay. Where the texts are told, with rows of the site's item in
-- hand, a known answer and what is noted are the definition's, where each fragment counts as the part of code that it
-- stands for. A known answer may stand at the place.
pub record Coding {T V : Type 0} (old new : State) (before after : Notes) (from to : List Node)
    (s : Site) (answer : Result (Ask T) Memory) (MayStand : Frame → List Node → T → Type 0)
    (as_given : List Node → T → V) (given : Context → Gives V) : Type 0 where
  pub works : Works old new before after
  pub waits : IfWaits answer (λ h. Waits old new h)
  pub grows : Grows from to
  pub told : WhereTold old.frame (λ made.
      AreOfSite s made → IfKnown answer (λ x. Adds before after (given (context_of old.frame made s)) (as_given to x)))
  pub there : IfKnown answer (λ x. MayStand old.frame to x)
