-- Answers of judgements that rest on others.
use Rattle.std.proofs.Common.{◌≡◌, ◌∙◌, Result, ap, subst}
use Rattle.m2_base.specs.Finished.{IsFinished}
use Rattle.m2_base.specs.Gives.{Gives, and_then, gives}
use Rattle.m2_base.specs.States.{Frame}
use Rattle.m2_base.specs.declared.operands.Operand.{Operand}
use Rattle.m2_base.specs.declared.replies.Ask.{Ask}
use Rattle.m2_base.specs.declared.replies.Ask.TheVariants.{Known, DontKnowYet}
use Rattle.m2_base.specs.declared.sites.Site.{Site}
use Rattle.type_rules.specs.Asks.{WhereKnown}
use Rattle.type_rules.specs.Scenes.{AreInHand, Hand, WhereTold}
use Rattle.type_rules.specs.Sites.{context_of}
use Rattle.type_rules.proofs.Compatibles.{told_later}
use Rattle.const_eval.specs.Judgements.{judged}
use Rattle.const_eval.specs.declared.faults.Fault.{Fault}

-- what is told over the frame of a later question is told over the first
pub told_first : {T : Type 0} (x : T) (f mid : Frame) (given : Frame → Hand → T) → mid ≡ f → WhereTold mid (λ made. x ≡ given mid made) → WhereTold f (λ made. x ≡ given f made)
told_first {T} x f mid given same asked = told_later f mid (λ h rows. x ≡ given h rows) same asked

-- the answer of a later judgement is the one wanted
pub judged_as : (answer : Ask (Result Operand Fault)) (f mid : Frame) (s : Site) (given : Frame → Hand → Gives Operand) (made : Hand) (value : Gives Operand) → mid ≡ f
    → WhereTold mid (λ rows. WhereKnown answer (λ j. judged (context_of mid rows s) j ≡ given mid rows)) → given f made ≡ value
    → AreInHand f made → IsFinished f.setting.texts made.finished → WhereKnown answer (λ j. judged (context_of f made s) j ≡ value)
judged_as answer f mid s given made value same asked is in_hand told =
    subst (λ (v : Gives Operand). WhereKnown answer (λ j. judged (context_of f made s) j ≡ v)) is
    (told_later f mid (λ h rows. WhereKnown answer (λ j. judged (context_of h rows s) j ≡ given h rows)) same asked made in_hand told)

-- what comes after an operand that may stand
pub after_ok : (first : Gives Operand) (v : Operand) (k : Operand → Gives Operand) → gives v ≡ first → k v ≡ and_then first k
after_ok first v k e = ap (λ (g : Gives Operand). and_then g k) e

-- the answer of a later judgement under two conditions that are met
pub judged_met : (answer : Ask (Result Operand Fault)) (f mid : Frame) (s : Site) (A B : Frame → Hand → Type 0) (given : Frame → Hand → Gives Operand) (made : Hand) (value : Gives Operand) → mid ≡ f
    → WhereTold mid (λ rows. WhereKnown answer (λ j. A mid rows → B mid rows → judged (context_of mid rows s) j ≡ given mid rows))
    → A f made → B f made → given f made ≡ value
    → AreInHand f made → IsFinished f.setting.texts made.finished → WhereKnown answer (λ j. judged (context_of f made s) j ≡ value)
judged_met (Known j) f mid s A B given made value same asked a b is in_hand told =
    told_later f mid (λ h rows. A h rows → B h rows → judged (context_of h rows s) j ≡ given h rows) same asked made in_hand told a b ∙ is
judged_met (DontKnowYet head) f mid s A B given made value same asked a b is in_hand told = tt
