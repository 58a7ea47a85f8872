-- Facts about an answer that may not be known yet.
use Rattle.std.specs.Prelude.{Result, Ok, Err}
use Rattle.m2_base.specs.declared.memory.Memory.{Memory}
use Rattle.m2_base.specs.declared.replies.Ask.{Ask}
use Rattle.m2_base.specs.declared.replies.Ask.TheVariants.{Known, DontKnowYet}
use Rattle.m2_base.specs.declared.replies.Head.{Head}

-- P of the value, where it is known
abbrev pub IfKnown : {T : Type 0} → Result (Ask T) Memory → (T → Type 0) → Type 0
IfKnown (Ok (Known x)) P = P x
IfKnown (Ok (DontKnowYet h)) P = Unit {0}
IfKnown (Err m) P = Unit {0}

-- P of the head, where the answer is that it isn't known yet
abbrev pub IfWaits : {T : Type 0} → Result (Ask T) Memory → (Head → Type 0) → Type 0
IfWaits (Ok (Known x)) P = Unit {0}
IfWaits (Ok (DontKnowYet h)) P = P h
IfWaits (Err m) P = Unit {0}
