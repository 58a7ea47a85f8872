-- Parts of statements that are read by functions of their own: DO Stmts END, TO Expr [BY Expr], and the arms of an IF.
-- What is read behind them.
use Rattle.std.proofs.Common.{◌≡◌, ℕ, List, ◌∷◌, Result, Ok, Err, Option, Some, None, ap, ◌∙◌}
use Rattle.ll_grammar.specs.Readers.{◌>>=◌, Ends}
use Rattle.m2_base.specs.declared.kind.TokenKind.TheVariants.{Do, End, To}
use Rattle.m2_base.specs.declared.token.Token.{Token}
use Rattle.m2_base.specs.Trees.{Expr, Statement, IfArm, statement, statements, if_form, if_arms}
use Rattle.m2_base.specs.StatementsOf.{other_statements}
use Rattle.m2_parse.specs.declared.faults.Refusal.{Refusal}
use Rattle.m2_parse.specs.Reading.{Read, expect, until}
use Rattle.m2_parse.specs.ReadStatements.{expr_at, step_at, limit_at, body_with, statements_with}
use Rattle.m2_parse.specs.ReadStatements.{if_arm_with, elsifs_with, if_arms_with, otherwise_with}
use Rattle.m2_parse.proofs.Steps.{two_fail, two_give, until_fails, until_gives}

module _ {A X Y : Type 0} where
  last_part_fails : (first : Result A Refusal) (read : A → Result (X × List Token) Refusal) (k : A → X × List Token → Token × List Token → Result Y Refusal) (o : Option Refusal)
      → Ends o (first >>= λ d. until End (read d)) → Ends o (first >>= λ d. read d >>= λ x. expect End x.1 >>= λ e. k d x e)
  last_part_fails first read k None h = tt
  last_part_fails (Ok d) read k (Some f) h = until_fails End (read d) (k d) (Some f) h
  last_part_fails (Err e) read k (Some f) h = cc

  last_part_gives : (first : Result A Refusal) (read : A → Result (X × List Token) Refusal) (k : A → X × List Token → Token × List Token → Result Y Refusal)
      {x : X × List Token} {out : Result Y Refusal} → (first >>= λ d. until End (read d)) ≡ Ok x
      → ((d : A) (mid : List Token) (t : Token) → k d (x.0, mid) (t, x.1) ≡ out)
      → (first >>= λ d. read d >>= λ x. expect End x.1 >>= λ e. k d x e) ≡ out
  last_part_gives (Ok d) read k h j = until_gives End (read d) (k d) h (j d)
  last_part_gives (Err e) read k h j = cc

module _ {Y : Type 0} (n : ℕ) (reader : Read Statement) (ts : List Token)
    (k : Token × List Token → List Statement × List Token → Token × List Token → Result Y Refusal) where
  -- the body fails
  pub body_fails : (o : Option Refusal) → Ends o (body_with n reader ts)
      → Ends o (expect Do ts >>= λ d. statements_with n reader d.1 >>= λ ss. expect End ss.1 >>= λ e. k d ss e)
  unfolding body_with
  body_fails o h = last_part_fails (expect Do ts) (λ d. statements_with n reader d.1) k o h

  -- the body gives x
  pub body_gives : {x : List Statement × List Token} {out : Result Y Refusal} → body_with n reader ts ≡ Ok x
      → ((d : Token × List Token) (mid : List Token) (t : Token) → k d (x.0, mid) (t, x.1) ≡ out)
      → (expect Do ts >>= λ d. statements_with n reader d.1 >>= λ ss. expect End ss.1 >>= λ e. k d ss e) ≡ out
  unfolding body_with
  body_gives h j = last_part_gives (expect Do ts) (λ d. statements_with n reader d.1) k h j

module _ {A X Z Y : Type 0} where
  pair_fails : (first : Result A Refusal) (read : A → Result (X × List Token) Refusal) (more : X × List Token → Result (Z × List Token) Refusal)
      (k : A → X × List Token → Z × List Token → Result Y Refusal) (o : Option Refusal)
      → Ends {Y = (X × Z) × List Token} o (first >>= λ d. read d >>= λ x. more x >>= λ z. Ok ((x.0, z.0), z.1))
      → Ends o (first >>= λ d. read d >>= λ x. more x >>= λ z. k d x z)
  pair_fails first read more k None h = tt
  pair_fails (Ok d) read more k (Some f) h = two_fail (read d) more (λ x z. ((x.0, z.0), z.1)) (k d) (Some f) h
  pair_fails (Err e) read more k (Some f) h = cc

  pair_gives : (first : Result A Refusal) (read : A → Result (X × List Token) Refusal) (more : X × List Token → Result (Z × List Token) Refusal)
      (k : A → X × List Token → Z × List Token → Result Y Refusal) {p : (X × Z) × List Token} {out : Result Y Refusal}
      → (first >>= λ d. read d >>= λ x. more x >>= λ z. Ok ((x.0, z.0), z.1)) ≡ Ok p → ((d : A) (mid : List Token) → k d (p.0.0, mid) (p.0.1, p.1) ≡ out)
      → (first >>= λ d. read d >>= λ x. more x >>= λ z. k d x z) ≡ out
  pair_gives (Ok d) read more k h j =
      two_give (read d) more (λ x z. ((x.0, z.0), z.1)) (k d) h (λ x z is. ap (λ q. k d (q.0.0, x.1) (q.0.1, q.1)) is ∙ j d x.1)
  pair_gives (Err e) read more k h j = cc

module _ {Y : Type 0} (n : ℕ) (ts : List Token) (k : Token × List Token → Expr × List Token → Option Expr × List Token → Result Y Refusal) where
  -- the limit fails
  pub limit_fails : (o : Option Refusal) → Ends o (limit_at n ts) → Ends o (expect To ts >>= λ t. expr_at n t.1 >>= λ x. step_at n x.1 >>= λ z. k t x z)
  unfolding limit_at
  limit_fails o h = pair_fails (expect To ts) (λ t. expr_at n t.1) (λ x. step_at n x.1) k o h

  -- the limit gives p
  pub limit_gives : {p : (Expr × Option Expr) × List Token} {out : Result Y Refusal} → limit_at n ts ≡ Ok p
      → ((t : Token × List Token) (mid : List Token) → k t (p.0.0, mid) (p.0.1, p.1) ≡ out)
      → (expect To ts >>= λ t. expr_at n t.1 >>= λ x. step_at n x.1 >>= λ z. k t x z) ≡ out
  unfolding limit_at
  limit_gives h j = pair_gives (expect To ts) (λ t. expr_at n t.1) (λ x. step_at n x.1) k h j

  -- the limit gives p, and what is behind it fails
  pub limit_behind : (o : Option Refusal) {p : (Expr × Option Expr) × List Token} → limit_at n ts ≡ Ok p
      → ((t : Token × List Token) (mid : List Token) → Ends o (k t (p.0.0, mid) (p.0.1, p.1)))
      → Ends o (expect To ts >>= λ t. expr_at n t.1 >>= λ x. step_at n x.1 >>= λ z. k t x z)
  limit_behind None h j = tt
  limit_behind (Some f) h j = limit_gives h j

-- what stands behind the arms of an IF
abbrev pub after_arms : (n : ℕ) (reader : Read Statement) (at : ℕ) → List IfArm × List Token → Result (Statement × List Token) Refusal
after_arms n reader at p =
    otherwise_with n reader p.1 >>= λ other. expect End other.1 >>= λ e. Ok (statement at (if_form (if_arms p.0) (statements (other_statements other.0))), e.1)

module _ {Y : Type 0} (n : ℕ) (reader : Read Statement) (ts : List Token) (k : List IfArm × List Token → Result Y Refusal) where
  -- the arms fail
  pub arms_fail : (o : Option Refusal) → Ends o (if_arms_with n reader ts)
      → Ends o (if_arm_with n reader ts >>= λ a. elsifs_with n reader a.1 >>= λ more. k (a.0 ∷ more.0, more.1))
  unfolding if_arms_with
  arms_fail o h =
      two_fail (if_arm_with n reader ts) (λ a. elsifs_with n reader a.1) (λ a more. (a.0 ∷ more.0, more.1)) (λ a more. k (a.0 ∷ more.0, more.1)) o h

  -- the arms give p
  pub arms_give : {p : List IfArm × List Token} {out : Result Y Refusal} → if_arms_with n reader ts ≡ Ok p → k p ≡ out
      → (if_arm_with n reader ts >>= λ a. elsifs_with n reader a.1 >>= λ more. k (a.0 ∷ more.0, more.1)) ≡ out
  unfolding if_arms_with
  arms_give h j =
      two_give (if_arm_with n reader ts) (λ a. elsifs_with n reader a.1) (λ a more. (a.0 ∷ more.0, more.1)) (λ a more. k (a.0 ∷ more.0, more.1)) h
      (λ a more is. ap k is ∙ j)

  -- the arms give p, and what is behind them fails
  pub arms_behind : (o : Option Refusal) {p : List IfArm × List Token} → if_arms_with n reader ts ≡ Ok p → Ends o (k p)
      → Ends o (if_arm_with n reader ts >>= λ a. elsifs_with n reader a.1 >>= λ more. k (a.0 ∷ more.0, more.1))
  arms_behind None h j = tt
  arms_behind (Some f) h j = arms_give h j
