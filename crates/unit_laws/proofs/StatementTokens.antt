-- The statements of a block are made of no more tokens than stand in its derivation.
use Rattle.std.specs.Prelude.{◌≡◌, ℕ, suc, ◌+◌, ◌≤◌, List, [], ◌∷◌, ◌++◌}
use Rattle.std.proofs.Common.{arith}
use Rattle.ll_grammar.specs.Derivations.{Tree, both, tokens, Derives, of_empty, of_token, of_then, of_left, of_right, of_last, of_more, of_deep}
use Rattle.ll_grammar.specs.Grammar.{many, optional, token, ◌⨾◌}
use Rattle.m2_base.specs.ExpressionsOf as expressions
use Rattle.m2_base.specs.Grammar as rules
use Rattle.m2_base.specs.Grammar.{grammar}
use Rattle.m2_base.specs.StatementsOf as of
use Rattle.m2_base.specs.StreamsOf as streams
use Rattle.m2_base.specs.Trees.{CaseArm, case_arms, exprs, if_arms, statements}
use Rattle.m2_base.specs.declared.kind.TokenKind.TheVariants.{Bar, Elsif, Exit, Return, Semicolon}
use Rattle.m2_base.specs.declared.token.Token.{Token}
use Rattle.block_code.specs.Tokens.{exprs_tokens}
use Rattle.block_code.specs.StatementTokens.{case_arms_tokens, else_tokens, if_arm_tokens, if_arms_tokens, option_tokens, statement_tokens, statements_tokens}
use Rattle.stream_split.proofs.TypeSizes.{size}
use Rattle.unit_laws.proofs.ExpressionTokens.{actuals_few, designator_few, expr_few, labels_few}

optional_actuals_few : {d : Tree Token} → Derives grammar (optional rules.actuals) d → exprs_tokens (exprs (of.optional_actuals_of d)) ≤ size d
optional_actuals_few (of_left p) = let h = actuals_few p in omega (arith, h)
optional_actuals_few (of_right of_empty) = omega arith

designated_few : {d : Tree Token} → Derives grammar rules.designated_statement d → statement_tokens (of.designated_of d) ≤ size d
designated_few (of_then p (of_left (of_then (of_token m) q))) = let h = designator_few p in let k = expr_few q in omega (arith, h, k)
designated_few (of_then p (of_right q)) = let h = designator_few p in let k = optional_actuals_few q in omega (arith, h, k)

optional_expr_few : {d : Tree Token} → Derives grammar (optional rules.expr) d → option_tokens (expressions.optional_expr_of d) ≤ size d
optional_expr_few (of_left p) = expr_few p
optional_expr_few (of_right of_empty) = omega arith

step_few : {d : Tree Token} → Derives grammar rules.step d → option_tokens (of.step_of d) ≤ size d
step_few (of_left (of_then (of_token m) p)) = let h = expr_few p in omega (arith, h)
step_few (of_right of_empty) = omega arith

exit_few : {d : Tree Token} → Derives grammar (rules.a Exit) d → statement_tokens (of.exit_of d) ≤ size d
exit_few (of_token m) = omega arith

return_few : {d : Tree Token} → Derives grammar (rules.a Return ⨾ optional rules.expr) d → statement_tokens (of.return_of d) ≤ size d
return_few (of_then (of_token m) p) = let h = optional_expr_few p in omega (arith, h)

arms_join : (xs ys : List CaseArm) → case_arms_tokens (case_arms (xs ++ ys)) ≡ case_arms_tokens (case_arms xs) + case_arms_tokens (case_arms ys)
arms_join [] ys = omega arith
arms_join (x ∷ xs) ys = let h = arms_join xs ys in omega (arith, h)

-- ** Sums

joined : {a b x y : ℕ} → a ≤ x → b ≤ y → a + b ≤ x + y
joined h k = omega (arith, h, k)

behind_word : {a b s x y : ℕ} → 1 ≤ s → a ≤ x → b ≤ y → a + b ≤ s + x + y
behind_word s h k = omega (arith, s, h, k)

word_and : {a s x : ℕ} → 1 ≤ s → a ≤ x → 1 + a ≤ s + x
word_and s h = omega (arith, s, h)

with_word : {a s x : ℕ} → 1 ≤ s → a ≤ x → a ≤ s + x
with_word s h = omega (arith, s, h)

if_sum : {a b c x y z n : ℕ} → a ≤ suc x → b ≤ y → c ≤ z → 1 ≤ n → 1 + (a + b) + c ≤ 1 + (x + (y + (z + n)))
if_sum h k l n = omega (arith, h, k, l, n)

if_arm_sum : {a b x y n : ℕ} → a ≤ x → 1 ≤ n → b ≤ y → 2 + a + b ≤ suc (x + (n + y))
if_arm_sum h n k = omega (arith, h, k, n)

elsif_sum : {a b x y s : ℕ} → 1 ≤ s → a ≤ suc x → b ≤ y → a + b ≤ s + x + y
elsif_sum s h k = omega (arith, s, h, k)

case_sum : {a b c x y z f n : ℕ} → a ≤ x → 1 ≤ f → b ≤ suc y → c ≤ z → 1 ≤ n → 2 + a + b + c ≤ 1 + (x + (f + (y + (z + n))))
case_sum h f k l n = omega (arith, h, k, l, f, n)

arms_sum : {m a b x y : ℕ} → m ≡ a + b → a ≤ suc x → b ≤ y → m ≤ suc (x + y)
arms_sum j h k = omega (arith, j, h, k)

more_arms_sum : {m a b s x y : ℕ} → m ≡ a + b → 1 ≤ s → a ≤ suc x → b ≤ y → m ≤ s + x + y
more_arms_sum j s h k = omega (arith, j, s, h, k)

arm_sum : (x : ℕ) {a b y n : ℕ} → a ≤ x + 1 → 1 ≤ n → b ≤ y → 1 + a + b + 0 ≤ suc (x + (n + y))
arm_sum x h n k = omega (arith, h, k, n)

loop_sum : {a x n : ℕ} → a ≤ x → 1 ≤ n → 2 + a ≤ 1 + (x + n)
loop_sum h n = omega (arith, h, n)

while_sum : {a b x y f n : ℕ} → a ≤ x → 1 ≤ f → b ≤ y → 1 ≤ n → 3 + a + b ≤ 1 + (x + (f + (y + n)))
while_sum h f k n = omega (arith, h, k, f, n)

repeat_sum : {a b x y n : ℕ} → a ≤ x → 1 ≤ n → b ≤ y → 2 + a + b ≤ 1 + (x + (n + y))
repeat_sum h n k = omega (arith, h, k, n)

for_sum : {a b c d x y z w i f t g n : ℕ} → 1 ≤ i → 1 ≤ f → a ≤ x → 1 ≤ t → b ≤ y → c ≤ z → 1 ≤ g → d ≤ w → 1 ≤ n → 6 + a + b + c + d ≤ 1 + (i + (f + (x + (t + (y + (z + (g + (w + n))))))))
for_sum i f h t k l g m n = omega (arith, h, k, l, m, i, f, t, g, n)

none_few : {x : ℕ} → 0 ≤ x
none_few = omega arith

one_few : 1 ≤ 1
one_few = omega arith

-- a token is one
word : {ks : List ℕ} {d : Tree Token} → Derives grammar (token ks) d → 1 ≤ size d
word (of_token m) = omega arith

-- ** Statements

mutual
  statements_few : {d : Tree Token} (w : List Token) → Derives grammar rules.statements d → statements_tokens (statements (of.statements_of d w)) ≤ size d
  statements_few w (of_then {d = d} {e = e} p q) = joined (optional_statement_few (tokens e ++ w) p) (more_statements_few w q)

  more_statements_few : {d : Tree Token} (w : List Token) → Derives grammar (many (rules.a Semicolon ⨾ rules.statement)) d → statements_tokens (statements (of.more_statements_of d w)) ≤ size d
  more_statements_few w of_last = none_few
  more_statements_few w (of_more {ds = ds} (of_then semicolon p) q) = behind_word (word semicolon) (optional_statement_few (tokens ds ++ w) p) (more_statements_few w q)

  optional_statement_few : {d : Tree Token} (w : List Token) → Derives grammar rules.statement d → statement_tokens (of.optional_statement_of d w) ≤ size d
  optional_statement_few w (of_left p) = statement_few w p
  optional_statement_few w (of_right of_empty) = none_few

  statement_few : {d : Tree Token} (w : List Token) → Derives grammar rules.one_statement d → statement_tokens (of.statement_of d w) ≤ size d
  statement_few w (of_deep p) = statement_rule_few w p

  statement_rule_few : {d : Tree Token} (w : List Token) → Derives grammar rules.statement_rule d → statement_tokens (of.statement_rule_of d w) ≤ size d
  statement_rule_few w (of_left p) = designated_few p
  statement_rule_few w (of_right (of_left p)) = if_few w p
  statement_rule_few w (of_right (of_right (of_left p))) = case_few w p
  statement_rule_few w (of_right (of_right (of_right (of_left p)))) = while_few w p
  statement_rule_few w (of_right (of_right (of_right (of_right (of_left p))))) = repeat_few w p
  statement_rule_few w (of_right (of_right (of_right (of_right (of_right (of_left p)))))) = loop_few w p
  statement_rule_few w (of_right (of_right (of_right (of_right (of_right (of_right (of_left p))))))) = exit_few p
  statement_rule_few w (of_right (of_right (of_right (of_right (of_right (of_right (of_right (of_left p)))))))) = return_few p
  statement_rule_few w (of_right (of_right (of_right (of_right (of_right (of_right (of_right (of_right (of_left p))))))))) = for_few w p
  statement_rule_few w (of_right (of_right (of_right (of_right (of_right (of_right (of_right (of_right (of_right p))))))))) = with_few w p

  if_few : {d : Tree Token} (w : List Token) → Derives grammar rules.if_rule d → statement_tokens (of.if_of d w) ≤ size d
  if_few w (of_then (of_token m) (of_then p (of_then {d = arms} q (of_then {d = other} {e = end} o n)))) =
      if_sum (if_arm_few (tokens (both arms (both other end)) ++ w) p) (elsifs_few (tokens (both other end) ++ w) q) (otherwise_few (tokens end ++ w) o) (word n)

  -- the word before the test stands before the derivation
  if_arm_few : {d : Tree Token} (w : List Token) → Derives grammar rules.if_arm d → if_arm_tokens (of.if_arm_of d w) ≤ suc (size d)
  if_arm_few w (of_then p (of_then m q)) = if_arm_sum (expr_few p) (word m) (statements_few w q)

  elsifs_few : {d : Tree Token} (w : List Token) → Derives grammar (many (rules.a Elsif ⨾ rules.if_arm)) d → if_arms_tokens (if_arms (of.elsifs_of d w)) ≤ size d
  elsifs_few w of_last = none_few
  elsifs_few w (of_more {ds = ds} (of_then m p) q) = elsif_sum (word m) (if_arm_few (tokens ds ++ w) p) (elsifs_few w q)

  otherwise_few : {d : Tree Token} (w : List Token) → Derives grammar rules.otherwise d → statements_tokens (statements (of.other_statements (of.otherwise_of d w))) ≤ size d
  otherwise_few w (of_left (of_then m p)) = with_word (word m) (statements_few w p)
  otherwise_few w (of_right of_empty) = none_few

  case_few : {d : Tree Token} (w : List Token) → Derives grammar rules.case_rule d → statement_tokens (of.case_of d w) ≤ size d
  case_few w (of_then (of_token m) (of_then p (of_then f (of_then q (of_then {d = other} {e = end} o n))))) =
      case_sum (expr_few p) (word f) (case_arms_few (tokens (both other end) ++ w) q) (case_else_few (tokens end ++ w) o) (word n)

  case_else_few : {d : Tree Token} (w : List Token) → Derives grammar rules.otherwise d → else_tokens (of.case_else_with (of.otherwise_of d w)) ≤ size d
  case_else_few w (of_left (of_then m p)) = word_and (word m) (statements_few w p)
  case_else_few w (of_right of_empty) = none_few

  -- the word or the bar before the first arm stands before the derivation
  case_arms_few : {d : Tree Token} (w : List Token) → Derives grammar (rules.list rules.arm Bar) d → case_arms_tokens (case_arms (of.arms_of d w)) ≤ suc (size d)
  case_arms_few w (of_then {d = d} {e = e} p q) =
      arms_sum (arms_join (of.arm_of d (tokens e ++ w)) (of.more_arms_of e w)) (case_arm_few (tokens e ++ w) p) (more_case_arms_few w q)

  more_case_arms_few : {d : Tree Token} (w : List Token) → Derives grammar (many (rules.a Bar ⨾ rules.arm)) d → case_arms_tokens (case_arms (of.more_arms_of d w)) ≤ size d
  more_case_arms_few w of_last = none_few
  more_case_arms_few w (of_more {ds = ds} (of_then {e = e} m p) q) =
      more_arms_sum (arms_join (of.arm_of e (tokens ds ++ w)) (of.more_arms_of ds w)) (word m) (case_arm_few (tokens ds ++ w) p) (more_case_arms_few w q)

  case_arm_few : {d : Tree Token} (w : List Token) → Derives grammar rules.arm d → case_arms_tokens (case_arms (of.arm_of d w)) ≤ suc (size d)
  case_arm_few w (of_left (of_then {d = d} p (of_then m q))) = arm_sum (size d) (labels_few p) (word m) (statements_few w q)
  case_arm_few w (of_right of_empty) = none_few

  while_few : {d : Tree Token} (w : List Token) → Derives grammar rules.while_rule d → statement_tokens (of.while_of d w) ≤ size d
  while_few w (of_then (of_token m) (of_then p (of_then f (of_then {e = end} q n)))) = while_sum (expr_few p) (word f) (statements_few (tokens end ++ w) q) (word n)

  repeat_few : {d : Tree Token} (w : List Token) → Derives grammar rules.repeat_rule d → statement_tokens (of.repeat_of d w) ≤ size d
  repeat_few w (of_then (of_token m) (of_then q (of_then {d = until} {e = e} n p))) = repeat_sum (statements_few (tokens (both until e) ++ w) q) (word n) (expr_few p)

  loop_few : {d : Tree Token} (w : List Token) → Derives grammar rules.loop_rule d → statement_tokens (of.loop_of d w) ≤ size d
  loop_few w (of_then (of_token m) (of_then {e = end} q n)) = loop_sum (statements_few (tokens end ++ w) q) (word n)

  for_few : {d : Tree Token} (w : List Token) → Derives grammar rules.for_rule d → statement_tokens (of.for_of d w) ≤ size d
  for_few w (of_then (of_token m) (of_then i (of_then b (of_then low (of_then t (of_then high (of_then by (of_then f (of_then {e = end} q n))))))))) =
      for_sum (word i) (word b) (expr_few low) (word t) (expr_few high) (step_few by) (word f) (statements_few (tokens end ++ w) q) (word n)

  with_few : {d : Tree Token} (w : List Token) → Derives grammar rules.with_rule d → statement_tokens (of.with_of d w) ≤ size d
  with_few w (of_then (of_token m) (of_then p (of_then f (of_then {e = end} q n)))) = while_sum (designator_few p) (word f) (statements_few (tokens end ++ w) q) (word n)

pub body_few : {d : Tree Token} (w : List Token) → Derives grammar rules.body d → statements_tokens (statements (streams.body_of d w)) ≤ size d
body_few w (of_left (of_then (of_token m) p)) = let h = statements_few w p in omega (arith, h)
body_few w (of_right of_empty) = omega arith
