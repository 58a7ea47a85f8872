-- Reading, with the faults told otherwise.
use Rattle.std.proofs.Common.{◌≡◌, ℕ, List, Result, Ok, Err, refl, ap, ◌∙◌}
use Rattle.m2_base.specs.FaultsOf.{fault_in}
use Rattle.m2_base.specs.declared.token.Token.{Token}
use Rattle.ll_grammar.specs.Grammar.{Rule, Grammar}
use Rattle.ll_grammar.specs.Derivations.{Tree}
use Rattle.ll_grammar.specs.Sentences.{Fault, Syntax, TooDeep}
use Rattle.ll_grammar.proofs.Link.{Reads, Outcome}
use Rattle.m2_parse.specs.Reading.{tell}
use Rattle.m2_parse.specs.Streams.{in_text, retell}

module _ {X : Type 0} (g : Grammar Token) (text : ℕ) (r : Rule) (P : Tree Token → X → List Token → Type 0) (n : ℕ) (ts : List Token) where
  same : (fault : Fault) (rest : List Token) → in_text text (tell fault rest) ≡ fault_in text fault rest
  same Syntax rest = refl
  same TooDeep rest = refl

  retold_on : (o : Result (X × List Token) _) → Outcome g tell r P n ts o → Outcome g (fault_in text) r P n ts (retell (in_text text) o)
  retold_on (Ok x) p = record { tree = p.tree; by = p.by; is = p.is; says = p.says }
  retold_on (Err e) p =
      record { fault = p.fault; before = p.before; rest = p.rest; by = p.by; is = p.is; told = ap (in_text text) p.told ∙ same p.fault p.rest }

  pub retold : (o : Result (X × List Token) _) → Reads g tell r P n ts o → Reads g (fault_in text) r P n ts (retell (in_text text) o)
  retold o p = record { outcome = retold_on o p.outcome }
