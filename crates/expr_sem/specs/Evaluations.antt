-- What a value or an address leaves that is appended to a piece of a block's code.
use Rattle.std.specs.Prelude.{◌≡◌, List, Option, Some, None, Result, Ok}
use Rattle.std.specs.Option.{IfNone, IfSome}
use Rattle.m2_base.specs.Asks.{IfKnown, IfWaits}
use Rattle.m2_base.specs.Gives.{Adds, Gives, and_then, gives}
use Rattle.m2_base.specs.States.{Frame, State, Waits, Works}
use Rattle.m2_base.specs.Statics.Contexts.{Context}
use Rattle.m2_base.specs.declared.memory.Memory.{Memory}
use Rattle.m2_base.specs.declared.notes.Notes.{Notes}
use Rattle.m2_base.specs.declared.operands.Operand.{Operand}
use Rattle.m2_base.specs.declared.operands.Operand.TheVariants.{InError}
use Rattle.m2_base.specs.declared.replies.Ask.{Ask}
use Rattle.m2_base.specs.declared.replies.Ask.TheVariants.{Known}
use Rattle.m2_base.specs.declared.sites.Site.{Site}
use Rattle.type_rules.specs.Scenes.{WhereTold}
use Rattle.type_rules.specs.Sites.{AreOfSite, context_of}
use Rattle.const_eval.specs.Sites.{IsOperand}
use Rattle.block_code.specs.Coded as code
use Rattle.expr_sem.specs.Fragments.{IsIn, part}
use Rattle.block_code.specs.Parts.{Part}
use Rattle.expr_sem.specs.Pieces.{Appended, IsAsBefore}
use Rattle.block_code.specs.Whole.{AreWhole}
use Rattle.expr_sem.specs.declared.fragments.Fragment.{Fragment}
use Rattle.expr_sem.specs.declared.fragments.Node.{Node}
use Rattle.expr_sem.specs.declared.pieces.Piece.{Piece}
use Rattle.expr_sem.specs.declared.pieces.With.{With}

-- an operand with the code of its value or of its address; none of what is in error
abbrev pub evaluated : Operand → Part → Option (Operand × Part)
evaluated InError p = None
evaluated o p = Some (o, p)

-- an operand; none of what is in error
abbrev pub unless_in_error : Operand → Option Operand
unless_in_error InError = None
unless_in_error o = Some o

-- the same with fragments
abbrev pub evaluated_in : List Node → Option (Operand × Fragment) → Option (Operand × Part)
evaluated_in ns None = None
evaluated_in ns (Some x) = Some (x.0, part ns x.1)

-- its operand alone
abbrev pub operand_of : Option (Operand × Fragment) → Option Operand
operand_of None = None
operand_of (Some x) = Some x.0

abbrev pub IsEvaluated : Frame → List Node → Option (Operand × Fragment) → Type 0
IsEvaluated f ns x = IfSome x (λ y. IsOperand f y.0 × IsIn ns y.1)

-- what it gives, by what its operand's code is
abbrev pub evaluation : (given : Gives code.Coded) → (worth : code.Coded → Part) → Gives (Option (Operand × Part))
evaluation given worth = and_then given (λ x. gives (evaluated x.operand (worth x)))

-- unless an operand is known, the piece has what it had before
abbrev pub KeepsPiece : Result (Ask (Option Operand)) Memory → Piece → Piece → Type 0
KeepsPiece (Ok (Known (Some o))) before after = Unit {0}
KeepsPiece other before after = IsAsBefore before after

-- Previous notes stay, and each answer noted was found by a search. The scope that the answer waits for is incomplete,
-- and before the own one. Where the texts are told, with rows of the site's item in hand, a known answer is the
-- operand that the definition gives, or none where that is in error; what is noted is the definition's; no operand
-- comes out where a diagnostic is noted, and one comes out where none is, unless a row in sight has a part in error;
-- and the piece has grown by this code of what it gives. Unless an operand is known, the piece has what it had before.
pub record Evaluates (old new : State) (before after : Notes) (from to : Piece)
    (ws : List With) (s : Site) (answer : Result (Ask (Option Operand)) Memory)
    (worth : Context → code.Coded → Part) (given : Context → Gives code.Coded) : Type 0 where
  pub works : Works old new before after
  pub waits : IfWaits answer (λ h. Waits old new h)
  pub kept : KeepsPiece answer from to
  pub told : WhereTold old.frame (λ made. AreOfSite s made → let c = context_of old.frame made s in
      IfKnown answer (λ o. Adds before after (and_then (given c) (λ x. gives (unless_in_error x.operand))) o))
  pub unrefused : WhereTold old.frame (λ made.
      AreOfSite s made → IfKnown answer (λ o. IfSome o (λ p. after.diags.items ≡ before.diags.items)))
  pub caused : WhereTold old.frame (λ made. AreOfSite s made → AreWhole (context_of old.frame made s).scene
      → IfKnown answer (λ o. IfNone o (after.diags.items ≡ before.diags.items → ⊥)))
  pub appended : WhereTold old.frame (λ made. AreOfSite s made → let c = context_of old.frame made s in
      IfKnown answer (λ o. IfSome o (λ p. Appended from to ws (worth c (given c).value))))
  pub there : IfKnown answer (λ o. IfSome o (λ p. IsOperand old.frame p))
