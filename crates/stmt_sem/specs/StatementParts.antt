-- Parts of statements, as the walk over the trees goes through them.
use Rattle.std.specs.Prelude.{ℕ, [], ◌∷◌, Option}
use Rattle.m2_base.specs.Gives.{Gives, and_then, gives}
use Rattle.m2_base.specs.declared.rows.Place.{Place}
use Rattle.m2_base.specs.Trees.{CaseArms, CaseElse, Designator, Expr, Exprs, Statements, StmtForm, designator_at}
use Rattle.m2_base.specs.Trees.{expr_at, more_statements, no_statements}
use Rattle.code_form.specs.declared.instr.Instr.TheVariants.{Local, Store}
use Rattle.block_code.specs.Coded.{Coded}
use Rattle.block_code.specs.Expressions.{call_alone}
use Rattle.block_code.specs.Parts.{Part, plain, ◌⨟◌}
use Rattle.block_code.specs.Assignments.{code_unless_bad}
use Rattle.block_code.specs.Cases.{selector_type, selector_value}
use Rattle.block_code.specs.Flows.{Flow, straight, with_cell, ◌⨾◌}
use Rattle.block_code.specs.Statements.{Stand, cases_flow, else_flow, else_of, flow_of, form_flow, statement_flow}
use Rattle.block_code.specs.Statements.{value_at, variable, within}
use Rattle.block_code.specs.Withs.{in_with_of, record_variable, with_code}

-- what a form of statement makes of whose first token nothing depends
abbrev pub form_of : Stand → StmtForm → Gives Flow
form_of s form = form_flow s 0 form

-- ---- parts of code

-- a call
abbrev pub called : Stand → Designator → Exprs → Gives Part
called s d args = and_then (call_alone s.context s.withs d args) (λ x. gives (code_unless_bad x))

-- the value of a selector that is there, and its type
abbrev pub typed_selector : Stand → (at : ℕ) → Coded → Gives (Part × Place)
typed_selector s at x = and_then (selector_type s.context at x) (λ t. gives (selector_value s.context x, t))

-- the value of a selector, and its type
abbrev pub selector : Stand → Expr → Gives (Part × Place)
selector s e = and_then (value_at s e) (typed_selector s (expr_at e))

-- the variable of a WITH
abbrev pub record_of : Stand → Designator → Gives Coded
record_of s d = and_then (variable s d) (record_variable s.context (designator_at d))

-- ---- statements

-- this value in a cell of its own, and then code that knows the cell
abbrev pub stored_before : Part → ((cell : ℕ) → Flow) → Flow
stored_before value rest = with_cell (λ t. straight (plain (Local 0 t ∷ []) ⨟ value ⨟ plain (Store ∷ [])) ⨾ rest t)

-- the statements after ELSE of an IF, if there are any
abbrev pub otherwise : Stand → Statements → Gives (Option Flow)
otherwise s other = and_then (flow_of s other) (λ o. gives (else_of other o))

-- the arms of a CASE whose selector has this value and this type, and its ELSE
abbrev pub case_of : Stand → (selector : Part) → (typ : Place) → CaseArms → CaseElse → Gives Flow
case_of s x typ arms other =
    and_then (cases_flow s typ [] arms)
    (λ before. and_then (else_flow s other) (λ o. gives (stored_before x (λ t. before t o))))

-- the statements in a WITH of this variable
abbrev pub with_body : Stand → Coded → Statements → Gives Flow
with_body s x body =
    and_then (flow_of (within s x) body) (λ b. gives (with_cell (λ t. straight (with_code t x) ⨾ in_with_of x t b)))

-- statements one after another, behind what is there
abbrev pub statements_onto : Stand → (before : Flow → Flow) → Statements → Gives (Flow → Flow)
statements_onto s before no_statements = gives before
statements_onto s before (more_statements st ss) =
    and_then (statement_flow s st) (λ a. statements_onto s (λ rest. before (a ⨾ rest)) ss)
