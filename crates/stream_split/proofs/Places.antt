-- Of the tokens behind a body its statements see the number of the first alone.
use Rattle.std.proofs.Common.{◌≡◌, List, [], ◌∷◌, ◌++◌, refl, Some}
use Rattle.m2_base.specs.declared.token.Token.{Token}
use Rattle.m2_base.specs.ExpressionsOf.{ident_of, designator_of, expr_of, labels_of}
use Rattle.m2_base.specs.StatementsOf.{place, other_statements, case_else_with, step_of, statements_of, more_statements_of, optional_statement_of, statement_of, statement_rule_of, if_of, if_arm_of, elsifs_of, elsif_of, otherwise_of, case_of, arms_of, more_arms_of, arm_of, while_of, repeat_of, loop_of, for_of, with_of}
use Rattle.m2_base.specs.StreamsOf.{body_of}
use Rattle.m2_base.specs.Trees.{labels, statement, if_form, loop_form, case_form, while_form, repeat_form, for_form, with_form, empty_form, statements, if_arm, if_arms, case_arm, case_arms}
use Rattle.ll_grammar.specs.Derivations.{Tree, leaf, both, left, right, more, inner, tokens}

pub place_behind : (xs v w : List Token) → place v ≡ place w → place (xs ++ v) ≡ place (xs ++ w)
place_behind [] v w h = h
place_behind (x ∷ xs) v w h = refl

mutual
  pub same_statements : (d : Tree Token) (v w : List Token) → place v ≡ place w → statements_of d v ≡ statements_of d w
  same_statements (both s ss) v w h =
      λ k. same_optional s (tokens ss ++ v) (tokens ss ++ w) (place_behind (tokens ss) v w h) k ∷ same_more ss v w h k
  same_statements d v w h = refl

  same_more : (d : Tree Token) (v w : List Token) → place v ≡ place w → more_statements_of d v ≡ more_statements_of d w
  same_more (more (both semicolon s) ss) v w h =
      λ k. same_optional s (tokens ss ++ v) (tokens ss ++ w) (place_behind (tokens ss) v w h) k ∷ same_more ss v w h k
  same_more d v w h = refl

  same_optional : (d : Tree Token) (v w : List Token) → place v ≡ place w → optional_statement_of d v ≡ optional_statement_of d w
  same_optional (left s) v w h = same_statement s v w h
  same_optional d v w h = λ k. statement (h k) empty_form

  same_statement : (d : Tree Token) (v w : List Token) → place v ≡ place w → statement_of d v ≡ statement_of d w
  same_statement (inner s) v w h = same_rule s v w h
  same_statement d v w h = refl

  same_rule : (d : Tree Token) (v w : List Token) → place v ≡ place w → statement_rule_of d v ≡ statement_rule_of d w
  same_rule (left s) v w h = refl
  same_rule (right (left s)) v w h = same_if s v w h
  same_rule (right (right (left s))) v w h = same_case s v w h
  same_rule (right (right (right (left s)))) v w h = same_while s v w h
  same_rule (right (right (right (right (left s))))) v w h = same_repeat s v w h
  same_rule (right (right (right (right (right (left s)))))) v w h = same_loop s v w h
  same_rule (right (right (right (right (right (right (left s))))))) v w h = refl
  same_rule (right (right (right (right (right (right (right (left s)))))))) v w h = refl
  same_rule (right (right (right (right (right (right (right (right (left s))))))))) v w h = same_for s v w h
  same_rule (right (right (right (right (right (right (right (right (right s))))))))) v w h = same_with s v w h
  same_rule d v w h = refl

  same_if : (d : Tree Token) (v w : List Token) → place v ≡ place w → if_of d v ≡ if_of d w
  same_if (both (leaf t) (both a (both arms (both other end)))) v w h =
      λ k. statement t.at (if_form (if_arms (same_arm a (tokens (both arms (both other end)) ++ v) (tokens (both arms (both other end)) ++ w) (place_behind (tokens (both arms (both other end))) v w h) k ∷ same_elsifs arms (tokens (both other end) ++ v) (tokens (both other end) ++ w) (place_behind (tokens (both other end)) v w h) k))
      (statements (other_statements (same_otherwise other (tokens end ++ v) (tokens end ++ w) (place_behind (tokens end) v w h) k))))
  same_if d v w h = refl

  same_arm : (d : Tree Token) (v w : List Token) → place v ≡ place w → if_arm_of d v ≡ if_arm_of d w
  same_arm (both e (both then ss)) v w h = λ k. if_arm (expr_of e) (statements (same_statements ss v w h k))
  same_arm d v w h = refl

  same_elsifs : (d : Tree Token) (v w : List Token) → place v ≡ place w → elsifs_of d v ≡ elsifs_of d w
  same_elsifs (more a arms) v w h =
      λ k. same_elsif a (tokens arms ++ v) (tokens arms ++ w) (place_behind (tokens arms) v w h) k ∷ same_elsifs arms v w h k
  same_elsifs d v w h = refl

  same_elsif : (d : Tree Token) (v w : List Token) → place v ≡ place w → elsif_of d v ≡ elsif_of d w
  same_elsif (both elsif a) v w h = same_arm a v w h
  same_elsif d v w h = refl

  same_otherwise : (d : Tree Token) (v w : List Token) → place v ≡ place w → otherwise_of d v ≡ otherwise_of d w
  same_otherwise (left (both else ss)) v w h = λ k. Some (same_statements ss v w h k)
  same_otherwise d v w h = refl

  same_case : (d : Tree Token) (v w : List Token) → place v ≡ place w → case_of d v ≡ case_of d w
  same_case (both (leaf t) (both e (both of (both arms (both other end))))) v w h =
      λ k. statement t.at (case_form (expr_of e) (case_arms (same_arms arms (tokens (both other end) ++ v) (tokens (both other end) ++ w) (place_behind (tokens (both other end)) v w h) k))
      (case_else_with (same_otherwise other (tokens end ++ v) (tokens end ++ w) (place_behind (tokens end) v w h) k)))
  same_case d v w h = refl

  same_arms : (d : Tree Token) (v w : List Token) → place v ≡ place w → arms_of d v ≡ arms_of d w
  same_arms (both a arms) v w h =
      λ k. same_case_arm a (tokens arms ++ v) (tokens arms ++ w) (place_behind (tokens arms) v w h) k ++ same_more_arms arms v w h k
  same_arms d v w h = refl

  same_more_arms : (d : Tree Token) (v w : List Token) → place v ≡ place w → more_arms_of d v ≡ more_arms_of d w
  same_more_arms (more (both bar a) arms) v w h =
      λ k. same_case_arm a (tokens arms ++ v) (tokens arms ++ w) (place_behind (tokens arms) v w h) k ++ same_more_arms arms v w h k
  same_more_arms d v w h = refl

  same_case_arm : (d : Tree Token) (v w : List Token) → place v ≡ place w → arm_of d v ≡ arm_of d w
  same_case_arm (left (both ls (both colon ss))) v w h = λ k. case_arm (labels (labels_of ls)) (statements (same_statements ss v w h k)) ∷ []
  same_case_arm d v w h = refl

  same_while : (d : Tree Token) (v w : List Token) → place v ≡ place w → while_of d v ≡ while_of d w
  same_while (both (leaf t) (both e (both doing (both ss end)))) v w h =
      λ k. statement t.at (while_form (expr_of e) (statements (same_statements ss (tokens end ++ v) (tokens end ++ w) (place_behind (tokens end) v w h) k)))
  same_while d v w h = refl

  same_repeat : (d : Tree Token) (v w : List Token) → place v ≡ place w → repeat_of d v ≡ repeat_of d w
  same_repeat (both (leaf t) (both ss (both until e))) v w h =
      λ k. statement t.at (repeat_form (statements (same_statements ss (tokens (both until e) ++ v) (tokens (both until e) ++ w) (place_behind (tokens (both until e)) v w h) k)) (expr_of e))
  same_repeat d v w h = refl

  same_loop : (d : Tree Token) (v w : List Token) → place v ≡ place w → loop_of d v ≡ loop_of d w
  same_loop (both (leaf t) (both ss end)) v w h =
      λ k. statement t.at (loop_form (statements (same_statements ss (tokens end ++ v) (tokens end ++ w) (place_behind (tokens end) v w h) k)))
  same_loop d v w h = refl

  same_for : (d : Tree Token) (v w : List Token) → place v ≡ place w → for_of d v ≡ for_of d w
  same_for (both (leaf t) (both i (both becomes (both low (both to (both high (both by (both doing (both ss end))))))))) v w h =
      λ k. statement t.at (for_form (ident_of i) (expr_of low) (expr_of high) (step_of by) (statements (same_statements ss (tokens end ++ v) (tokens end ++ w) (place_behind (tokens end) v w h) k)))
  same_for d v w h = refl

  same_with : (d : Tree Token) (v w : List Token) → place v ≡ place w → with_of d v ≡ with_of d w
  same_with (both (leaf t) (both d (both doing (both ss end)))) v w h =
      λ k. statement t.at (with_form (designator_of d) (statements (same_statements ss (tokens end ++ v) (tokens end ++ w) (place_behind (tokens end) v w h) k)))
  same_with d v w h = refl

pub same_body : (d : Tree Token) (v w : List Token) → place v ≡ place w → body_of d v ≡ body_of d w
same_body (left (both begin ss)) v w h = same_statements ss v w h
same_body d v w h = refl
