use Rattle.std.proofs.Common.{None, Ok, [], take}
use Rattle.m2_base.specs.Gives.{and_then}
use Rattle.m2_base.specs.Statics.Constants.{element_in, name_operand, next_in, selector_in}
use Rattle.m2_base.specs.Views.{expr_view, label_view, next_view, selector_view}
use Rattle.m2_base.specs.declared.replies.Ask.TheVariants.{Known}
use Rattle.const_eval.specs.Analyses.{Analysed}
use Rattle.const_eval.specs.Parts.{index_in, summed}
use Rattle.const_eval.specs.Sites.{AreArguments, IsOperand}
use Rattle.const_eval.proofs.Folding.{argument_in, folded}
use Rattle.const_eval.proofs.expressions.+expressions.Given as goal

-- what the items so far give
abbrev pub invariant-nexts_in-loop-next : goal.invariant-nexts_in-loop-next
invariant-nexts_in-loop-next g l =
    Analysed (g.S.Scopes.state l.fn.scopes) (g.S.Scopes.state l.scopes) l.fn.notes l.notes l.site (Ok (Known l.operand)) IsOperand (λ c. folded (λ o n. next_in c l.fn.first.at o (next_view n)) l.fn.first.operand (take l.next-index l.rest))

abbrev pub invariant-elements_in-loop-label : goal.invariant-elements_in-loop-label
invariant-elements_in-loop-label g l =
    Analysed (g.S.Scopes.state l.fn.scopes) (g.S.Scopes.state l.scopes) l.fn.notes l.notes l.site (Ok (Known l.set)) IsOperand (λ c. folded (λ o i. element_in c l.fn.of.base o (label_view i)) l.fn.of.set (take l.label-index l.items))

abbrev pub invariant-designator_in-loop-selector : goal.invariant-designator_in-loop-selector
invariant-designator_in-loop-selector g l =
    Analysed (g.S.Scopes.state l.fn.scopes) (g.S.Scopes.state l.scopes) l.fn.notes l.notes l.site (Ok (Known l.operand)) IsOperand
    (λ c. and_then (name_operand c None l.fn.of.first) (λ o. folded (λ o i. selector_in c l.fn.of.first.at o (selector_view i)) o (take l.selector-index l.fn.of.rest.items)))

abbrev pub invariant-indices_in-loop-e : goal.invariant-indices_in-loop-e
invariant-indices_in-loop-e g l =
    Analysed (g.S.Scopes.state l.fn.scopes) (g.S.Scopes.state l.scopes) l.fn.notes l.notes l.site (Ok (Known l.operand)) IsOperand (λ c. folded (λ o i. index_in c l.fn.of.at o (expr_view i)) l.fn.of.operand (take l.e-index l.es))

abbrev pub invariant-called_in-loop-e : goal.invariant-called_in-loop-e
invariant-called_in-loop-e g l =
    Analysed (g.S.Scopes.state l.fn.scopes) (g.S.Scopes.state l.scopes) l.fn.notes l.notes l.site (Ok (Known l.args)) AreArguments (λ c. folded (λ args i. argument_in c args (expr_view i)) (summed []) (take l.e-index l.es))
