-- What one question of a site leaves to the next.
use Rattle.std.proofs.Common.{Result, sym, subst}
use Rattle.std.specs.Prelude.{IfOk}
use Rattle.m2_base.specs.States.{Frame, State}
use Rattle.m2_base.specs.declared.operands.Operand.{Operand}
use Rattle.m2_base.specs.declared.replies.Ask.{Ask}
use Rattle.m2_base.specs.declared.sites.Site.{Site}
use Rattle.type_rules.specs.Asks.{Reads, WhereKnown}
use Rattle.type_rules.specs.Sites.{SuitsSite}
use Rattle.type_rules.proofs.Reading.{reads_frame}
use Rattle.const_eval.specs.Sites.{IsOperand}
use Rattle.const_eval.specs.declared.faults.Fault.{Fault}

-- the scopes suit the site at the next question as they suited it at the first
pub SuitsSite_read : {a b : State} {s : Site} → Reads a b → SuitsSite a.frame s → SuitsSite b.frame s
SuitsSite_read {a} {b} {s} r h = subst (λ (f : Frame). SuitsSite f s) (sym (reads_frame r)) h

-- an operand that may stand at the first question may at the next
pub IsOperand_read : {a b : State} (o : Operand) → Reads a b → IsOperand a.frame o → IsOperand b.frame o
IsOperand_read o r h = subst (λ (f : Frame). IsOperand f o) (sym (reads_frame r)) h

-- what the next question gives may have stood at the first
pub IsOperand_given : {a b : State} (answer : Ask (Result Operand Fault)) → Reads a b → WhereKnown answer (λ given. IfOk given (λ o. IsOperand b.frame o))
    → WhereKnown answer (λ given. IfOk given (λ o. IsOperand a.frame o))
IsOperand_given answer r h = subst (λ (f : Frame). WhereKnown answer (λ given. IfOk given (λ o. IsOperand f o))) (reads_frame r) h
