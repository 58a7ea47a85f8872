-- Statements that have no statements within them: what they make of their code, and what is made where memory was wanted or a
-- statement is refused.
use Rattle.std.proofs.Common.{◌≡◌, ◌∙◌, ◌++◌, ◌∷◌, [], ℕ, List, Result, Ok, Err, subst, sym}
use Rattle.std.specs.Result.{IsErr}
use Rattle.m2_base.specs.Gives.{Gives, and_then, gives}
use Rattle.m2_base.specs.Lists.{IsPrefixOf}
use Rattle.m2_base.specs.States.{Frame, State}
use Rattle.m2_base.specs.Statics.Contexts.{Context, refuse}
use Rattle.m2_base.specs.Trees.{Designator, Exprs, call_statement}
use Rattle.m2_base.specs.declared.memory.Memory.{Memory}
use Rattle.m2_base.specs.declared.notes.Diag.{Diag}
use Rattle.m2_base.specs.declared.notes.Notes.{Notes}
use Rattle.m2_base.specs.declared.replies.Ask.{Ask}
use Rattle.m2_base.specs.declared.replies.Ask.TheVariants.{Known}
use Rattle.m2_base.specs.declared.sites.Site.{Site}
use Rattle.m2_base.proofs.Kept.{Adds-refl, IsPrefixOf-refl, Works-notes, Works-refl}
use Rattle.const_eval.proofs.Analysing.{and_then_assoc}
use Rattle.block_code.specs.Expressions.{call_alone}
use Rattle.expr_sem.specs.Fragments.{IsMade}
use Rattle.block_code.specs.Parts.{Part}
use Rattle.block_code.specs.Assignments.{code_unless_bad}
use Rattle.expr_sem.specs.declared.fragments.Node.{Node}
use Rattle.expr_sem.proofs.Sequencing.{Grows-refl}
use Rattle.stmt_sem.specs.FlowTrees.{IsFlowOf, flow_in}
use Rattle.stmt_sem.specs.Flowings.{Flowing, IsFlow}
use Rattle.block_code.specs.Flows.{nothing, straight}
use Rattle.stmt_sem.specs.StatementParts.{called, form_of}
use Rattle.block_code.specs.Statements.{Stand}
use Rattle.stmt_sem.specs.declared.flows.Flow.{Flow}

-- ---- what they make of their code

module _ (s : Stand) where
  pub call_given : (d : Designator) (args : Exprs) → and_then (called s d args) (λ p. gives (straight p)) ≡ form_of s (call_statement d args)
  call_given d args = and_then_assoc (call_alone s.context s.withs d args) (λ x. gives (code_unless_bad x)) (λ p. gives (straight p))

-- ---- refusals

-- a diagnostic at a token of the site's text, and no code
pub refused_flow : (a : State) (x y : Notes) (ns : List Node) (s : Site) (at code : ℕ) (none : Flow) → IsFlowOf ns none (λ t. nothing) → y.answers.items ≡ x.answers.items → y.diags.items ≡ x.diags.items ++ record { text = s.around.now.text; at = at; code = code } ∷ []
    → Flowing a a x y ns ns s (Ok (Known none)) IsFlow flow_in (λ c. refuse c at code nothing)
refused_flow a x y ns s at code none empty answers diags =
    record {
      works = Works-notes a x y answers (record { rest = record { text = s.around.now.text; at = at; code = code } ∷ []; joined = sym diags });
      waits = tt;
      grows = Grows-refl ns;
      told = λ made in_hand told of_site cell. record { value_is = empty.flow_is cell; diags = diags; answers = answers ∙ (Adds-refl x nothing).answers };
      there = empty.there;
    }

module _ {T V : Type 0} {P : Frame → List Node → T → Type 0} {as_p : List Node → T → (cell : ℕ) → V} {g : Context → Gives V} where
  -- memory was wanted for a diagnostic
  pub not_noted : (a : State) (x y : Notes) (ns : List Node) (s : Site) (r : Result (Ask T) Memory) → IsErr r → y.answers.items ≡ x.answers.items → y.diags.items ≡ x.diags.items → Flowing a a x y ns ns s r P as_p g
  not_noted a x y ns s (Ok v) h answers diags = absurd (cc)
  not_noted a x y ns s (Err m) h answers diags =
      record {
        works = Works-notes a x y answers (subst (λ (l : List Diag). IsPrefixOf x.diags.items l) (sym diags) (IsPrefixOf-refl x.diags.items));
        waits = tt;
        grows = Grows-refl ns;
        told = λ made in_hand told of_site. tt;
        there = tt;
      }

  -- memory was wanted for a fragment
  pub fragment_wanted : (a : State) (n : Notes) {from to : List Node} (s : Site) {m : Memory} {p : Part} (r : Result (Ask T) Memory) → IsErr r → IsMade from to (Err m) p
      → Flowing a a n n from to s r P as_p g
  fragment_wanted a n s (Ok v) is h = absurd (cc)
  fragment_wanted a n s (Err k) is h = record { works = Works-refl a n; waits = tt; grows = h.grows; told = λ made in_hand told of_site. tt; there = tt }
