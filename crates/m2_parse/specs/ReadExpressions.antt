-- Readers of expressions. All but Factor take the reader of a factor, in which their nesting lies.
use Rattle.std.specs.Prelude.{ℕ, zero, suc, Bool, List, [], ◌∷◌, Ok, Option, Some, None, if◌then◌else◌, length}
use Rattle.m2_base.specs.declared.kind.TokenKind.{TokenKind}
use Rattle.m2_base.specs.declared.kind.TokenKind.TheVariants.{Identifier, Number, Character, String, LeftBrace}
use Rattle.m2_base.specs.declared.kind.TokenKind.TheVariants.{RightBrace, LeftParenthesis, RightParenthesis}
use Rattle.m2_base.specs.declared.kind.TokenKind.TheVariants.{LeftBracket, RightBracket, Period, Comma, Arrow}
use Rattle.m2_base.specs.declared.kind.TokenKind.TheVariants.{Ellipsis, Plus, Minus, Not}
use Rattle.m2_base.specs.declared.token.Token.{Token}
use Rattle.m2_base.specs.declared.trees.operators.Operator.TheVariants as operators
use Rattle.m2_base.specs.KindNumbers.{kind_number}
use Rattle.m2_base.specs.Grammar.{number_of_token, multiplying, signs, adding, relations}
use Rattle.m2_base.specs.Operators.{operator_of}
use Rattle.m2_base.specs.Trees.{Expr, expr, number_form, char_form, string_form, one_form, exprs, Next, next}
use Rattle.m2_base.specs.Trees.{Designator, designator, Selector, field_selector, index_selector, deref_selector}
use Rattle.m2_base.specs.Trees.{selectors, Label, label_with, with_operators, in_brackets}
use Rattle.m2_base.specs.ExpressionsOf.{plain_set, typed_set, call, name}
use Rattle.ll_grammar.specs.Readers.{◌>>=◌, listed, repeat, itself, at_depth}
use Rattle.m2_parse.specs.Reading.{Read, tell, next_is, next_in, expect, expect_in}
use Rattle.m2_parse.specs.ReadNames.{ident_at}

-- what a factor, an expression and a selector begin with
abbrev pub factor_starts : List TokenKind
factor_starts = Number ∷ Character ∷ String ∷ LeftBrace ∷ Identifier ∷ LeftParenthesis ∷ Not ∷ []

abbrev pub begins_factor : List Token → Bool
begins_factor ts = next_in factor_starts ts

abbrev pub begins_expr : List Token → Bool
begins_expr ts = next_in (Plus ∷ Minus ∷ factor_starts) ts

abbrev pub begins_selector : List Token → Bool
begins_selector ts = next_in (Period ∷ LeftBracket ∷ Arrow ∷ []) ts

-- number, char and string
unfoldable pub number_at : Read Expr
number_at ts = expect Number ts >>= λ t. Ok (expr t.0.at (number_form t.0.value), t.1)

unfoldable pub char_at : Read Expr
char_at ts = expect Character ts >>= λ t. Ok (expr t.0.at (char_form t.0.value), t.1)

unfoldable pub string_at : Read Expr
string_at ts = expect String ts >>= λ t. Ok (expr t.0.at (string_form t.0.value), t.1)

module _ (factor : Read Expr) where
  -- {("*"|"/"|DIV|MOD|AND) Factor}
  unfoldable pub next_factor_with : Read Next
  next_factor_with ts = do
    t ← expect_in multiplying ts
    f ← factor t.1
    Ok (next (operator_of t.0.kind) t.0.at f.0, f.1)

  abbrev pub factors_with : Read (List Next)
  factors_with ts = repeat (next_in multiplying) next_factor_with itself (length ts) ts

  -- Term = Factor {("*"|"/"|DIV|MOD|AND) Factor}
  unfoldable pub term_with : Read Expr
  term_with ts = do
    f ← factor ts
    fs ← factors_with f.1
    Ok (with_operators f.0 fs.0, fs.1)

  -- {("+"|"-"|OR) Term}
  unfoldable pub next_term_with : Read Next
  next_term_with ts = do
    t ← expect_in adding ts
    d ← term_with t.1
    Ok (next (operator_of t.0.kind) t.0.at d.0, d.1)

  abbrev pub terms_with : Read (List Next)
  terms_with ts = repeat (next_in adding) next_term_with itself (length ts) ts

  -- ["+"|"-"] Term
  unfoldable pub first_term_with : Read Expr
  first_term_with ts =
      if next_in signs ts then (do
        t ← expect_in signs ts
        d ← term_with t.1
        Ok (expr t.0.at (one_form (operator_of t.0.kind) t.0.at d.0), d.1)) else term_with ts

  -- Sum = ["+"|"-"] Term {("+"|"-"|OR) Term}
  unfoldable pub sum_with : Read Expr
  sum_with ts = do
    d ← first_term_with ts
    ds ← terms_with d.1
    Ok (with_operators d.0 ds.0, ds.1)

  -- [("="|"#"|"<"|"<="|">"|">="|IN) Sum]
  unfoldable pub relation_with : Read (List Next)
  relation_with ts =
      if next_in relations ts then (do
        t ← expect_in relations ts
        s ← sum_with t.1
        Ok (next (operator_of t.0.kind) t.0.at s.0 ∷ [], s.1)) else Ok ([], ts)

  -- Expr = Sum [("="|"#"|"<"|"<="|">"|">="|IN) Sum]
  unfoldable pub expr_with : Read Expr
  expr_with ts = do
    s ← sum_with ts
    r ← relation_with s.1
    Ok (with_operators s.0 r.0, r.1)

  -- Expr {"," Expr}
  abbrev pub exprs_with : Read (List Expr)
  exprs_with ts = listed number_of_token (kind_number Comma) expr_with itself ts

  -- Label = Expr [".." Expr]
  unfoldable pub upper_with : Read (Option Expr)
  upper_with ts =
      if next_is Ellipsis ts then (do
        p ← expect Ellipsis ts
        e ← expr_with p.1
        Ok (Some e.0, e.1)) else Ok (None, ts)

  unfoldable pub label_with_upper : Read Label
  label_with_upper ts = do
    e ← expr_with ts
    u ← upper_with e.1
    Ok (label_with e.0 u.0, u.1)

  -- Labels = Label {"," Label}
  abbrev pub labels_with : Read (List Label)
  labels_with ts = listed number_of_token (kind_number Comma) label_with_upper itself ts

  -- Set = "{" [Element {"," Element}] "}", with its first token
  unfoldable pub elements_with : Read (List Label)
  elements_with ts = if begins_expr ts then labels_with ts else Ok ([], ts)

  unfoldable pub set_with : Read (ℕ × List Label)
  set_with ts = do
    p ← expect LeftBrace ts
    es ← elements_with p.1
    q ← expect RightBrace es.1
    Ok ((p.0.at, es.0), q.1)

  -- Actuals = "(" [Expr {"," Expr}] ")"
  unfoldable pub arguments_with : Read (List Expr)
  arguments_with ts = if begins_expr ts then exprs_with ts else Ok ([], ts)

  unfoldable pub actuals_with : Read (List Expr)
  actuals_with ts = do
    p ← expect LeftParenthesis ts
    es ← arguments_with p.1
    q ← expect RightParenthesis es.1
    Ok (es.0, q.1)

  -- "." ident | "[" Expr {"," Expr} "]" | "^"
  unfoldable pub selector_with : Read Selector
  selector_with ts =
      if next_is Period ts then (do
        p ← expect Period ts
        i ← ident_at p.1
        Ok (field_selector i.0 p.0.at, i.1)) else
      (if next_is LeftBracket ts then (do
        p ← expect LeftBracket ts
        es ← exprs_with p.1
        q ← expect RightBracket es.1
        Ok (index_selector (exprs es.0) p.0.at, q.1)) else
      (do
        p ← expect Arrow ts
        Ok (deref_selector p.0.at, p.1)))

  abbrev pub selectors_with : Read (List Selector)
  selectors_with ts = repeat begins_selector selector_with itself (length ts) ts

  -- Designator = ident {"." ident | "[" Expr {"," Expr} "]" | "^"}
  unfoldable pub designator_with : Read Designator
  designator_with ts = do
    i ← ident_at ts
    ss ← selectors_with i.1
    Ok (designator i.0 (selectors ss.0), ss.1)

  -- Designator [Set | Actuals]
  unfoldable pub selection_with : Designator → Read Expr
  selection_with d ts =
      if next_is LeftBrace ts then (do
        s ← set_with ts
        Ok (typed_set d s.0.1, s.1)) else
      (if next_is LeftParenthesis ts then (do
        es ← actuals_with ts
        Ok (call d es.0, es.1)) else Ok (name d, ts))

  unfoldable pub designated_with : Read Expr
  designated_with ts = do
    d ← designator_with ts
    selection_with d.0 d.1

  -- a set, with no type before it
  unfoldable pub plain_set_with : Read Expr
  plain_set_with ts = do
    s ← set_with ts
    Ok (plain_set s.0, s.1)

  -- "(" Expr ")"
  unfoldable pub bracketed_with : Read Expr
  bracketed_with ts = do
    p ← expect LeftParenthesis ts
    e ← expr_with p.1
    q ← expect RightParenthesis e.1
    Ok (in_brackets p.0.at e.0, q.1)

  -- NOT Factor
  unfoldable pub negated_with : Read Expr
  negated_with ts = do
    p ← expect Not ts
    f ← factor p.1
    Ok (expr p.0.at (one_form operators.Not p.0.at f.0), f.1)

  -- Factor = number | char | string | Set | Designator [Set | Actuals] | "(" Expr ")" | NOT Factor
  unfoldable pub inner_factor : Read Expr
  inner_factor ts =
      if next_is Number ts then number_at ts else
      (if next_is Character ts then char_at ts else
      (if next_is String ts then string_at ts else
      (if next_is LeftBrace ts then plain_set_with ts else
      (if next_is Identifier ts then designated_with ts else
      (if next_is LeftParenthesis ts then bracketed_with ts else negated_with ts)))))

-- a factor, where so many levels are left
unfoldable pub factor_at : ℕ → Read Expr
factor_at zero ts = at_depth tell (begins_factor ts) ts
factor_at (suc n) ts = inner_factor (factor_at n) ts
