use Rattle.std.proofs.Common.{Ok, Some, map, take, true}
use Rattle.m2_base.specs.Gives.{and_then, gives}
use Rattle.m2_base.specs.Views.{expr_view, label_view, next_view, selector_view}
use Rattle.m2_base.specs.declared.replies.Ask.TheVariants.{Known}
use Rattle.const_eval.proofs.Folding.{folded}
use Rattle.expr_sem.specs.ArgumentCodes.{parameter_view}
use Rattle.block_code.specs.Coded.{in_error}
use Rattle.expr_sem.specs.Coders.{Codes, Keeps, nodes_of}
use Rattle.expr_sem.specs.Codings.{Coding, IsCoded, coded_in, with_types}
use Rattle.expr_sem.specs.ExpressionParts.{index}
use Rattle.block_code.specs.Expressions.{element, expression, followed, selector}
use Rattle.block_code.specs.Parts.{none}
use Rattle.expr_sem.specs.SetCodings.{AreElements, elements_in}
use Rattle.expr_sem.proofs.ArgumentFolds.{argument_step}
use Rattle.expr_sem.proofs.Calling.{AreLeft, NoMatter, error_in, left_in}
use Rattle.expr_sem.proofs.coder.Coder.+expressions.Given as goal

-- what the items so far give
abbrev pub invariant-continued-loop-next : goal.invariant-continued-loop-next
invariant-continued-loop-next g l =
    Keeps l.fn.self l.self
    × Codes g.S.Scopes.state l.fn.self l.self (Ok (Known l.x)) IsCoded coded_in
    (λ c. folded (λ o i. followed c (with_types l.fn.self.withs.now) l.fn.left.at o (next_view i)) (coded_in (nodes_of l.fn.self) l.fn.left.coded) (take l.next-index l.rest))

abbrev pub invariant-elements-loop-label : goal.invariant-elements-loop-label
invariant-elements-loop-label g l =
    Keeps l.fn.self l.self
    × Codes g.S.Scopes.state l.fn.self l.self (Ok (Known l.made)) AreElements elements_in
    (λ c. folded (λ o i. element c (with_types l.fn.self.withs.now) l.base o (label_view i)) (elements_in (nodes_of l.fn.self) l.fn.es) (take l.label-index l.items))

abbrev pub invariant-designated-loop-selector : goal.invariant-designated-loop-selector
invariant-designated-loop-selector g l =
    Keeps l.fn.self l.self
    × Coding (g.S.Scopes.state l.initial.self.scopes.now) (g.S.Scopes.state l.self.scopes.now) l.initial.self.notes.now l.self.notes.now (nodes_of l.initial.self) (nodes_of l.self) l.fn.self.site.now (Ok (Known l.x)) IsCoded coded_in
    (λ c. folded (λ o i. selector c (with_types l.fn.self.withs.now) l.of.first.at o (selector_view i)) (coded_in (nodes_of l.initial.self) l.initial.x) (take l.selector-index l.rest))

abbrev pub invariant-indexed-loop-e : goal.invariant-indexed-loop-e
invariant-indexed-loop-e g l =
    Keeps l.fn.self l.self
    × Codes g.S.Scopes.state l.fn.self l.self (Ok (Known l.y)) IsCoded coded_in
    (λ c. folded (λ o i. index c (with_types l.fn.self.withs.now) l.first l.at o (expr_view i)) (coded_in (nodes_of l.fn.self) l.fn.x) (take l.e-index l.es))

abbrev pub invariant-looked_at-loop-e : goal.invariant-looked_at-loop-e
invariant-looked_at-loop-e g l =
    Keeps l.fn.self l.self
    × Codes g.S.Scopes.state l.fn.self l.self (Ok (Known true)) NoMatter error_in
    (λ c. folded (λ o i. and_then (expression c (with_types l.fn.self.withs.now) (expr_view i)) (λ x. gives o)) in_error (take l.e-index l.args))

abbrev pub invariant-passed-loop-e : goal.invariant-passed-loop-e
invariant-passed-loop-e g l =
    Keeps l.fn.self l.self
    × Codes g.S.Scopes.state l.fn.self l.self (Ok (Known (l.left, l.code))) AreLeft left_in
    (λ c. folded (λ o i. argument_step c (with_types l.fn.self.withs.now) o (expr_view i)) (map parameter_view l.params, Some none) (take l.e-index l.args))
