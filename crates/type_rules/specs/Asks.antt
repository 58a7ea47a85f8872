-- Facts about the answer of a question of types, and what such a question leaves as before.
use Rattle.std.specs.Prelude.{◌≡◌, List}
use Rattle.m2_base.specs.Lists.{Each}
use Rattle.m2_base.specs.States.{State, Look, Keeps}
use Rattle.m2_base.specs.declared.replies.Ask.{Ask}
use Rattle.m2_base.specs.declared.replies.Ask.TheVariants.{Known, DontKnowYet}
use Rattle.m2_base.specs.declared.replies.Head.{Head}

-- P of the value, where it is known
abbrev pub WhereKnown : {T : Type 0} → Ask T → (T → Type 0) → Type 0
WhereKnown (Known x) P = P x
WhereKnown (DontKnowYet h) P = Unit {0}

-- P of the head, where the answer is that it isn't known yet
abbrev pub WhereWaiting : {T : Type 0} → Ask T → (Head → Type 0) → Type 0
WhereWaiting (Known x) P = Unit {0}
WhereWaiting (DontKnowYet h) P = P h

-- What a question of types leaves as before, and what grows. Each search that it makes has the token 0.
pub record Reads (old new : State) : Type 0 where
  pub looks : List Look
  pub keeps : Keeps old new looks
  pub silent : Each (λ l. l.at ≡ 0) looks
