-- What is accepted is a derivation, and nothing in it is nested too deep.
use Rattle.std.proofs.Common.{◌≡◌, ℕ, List, refl, ap, ◌∙◌, Option, None}
use Rattle.ll_grammar.specs.Grammar.{Rule, Grammar}
use Rattle.ll_grammar.specs.Derivations.{Tree, Derives, of_empty, of_token, of_then, of_left, of_right, of_last, of_more, of_deep, of_sub, over, first_of}
use Rattle.ll_grammar.specs.Reading.{Accepts, accept_empty, accept_token, accept_then, accept_left, accept_right, accept_last, accept_more, accept_deep, accept_sub}

-- two parts that are not nested too deep
pub none_both : {T : Type 0} (u : List T) (o p : Option (List T)) → o ≡ None → p ≡ None → first_of u o p ≡ None
none_both u o p h k = ap (λ z. first_of u z p) h ∙ ap (first_of u None) k

module _ {T : Type 0} (g : Grammar T) where
  pub accepts_derives : {n : ℕ} {r : Rule} {d : Tree T} {rest : List T} → Accepts g n r d rest → Derives g r d
  accepts_derives accept_empty = of_empty
  accepts_derives (accept_token h) = of_token h
  accepts_derives (accept_then p q) = of_then (accepts_derives p) (accepts_derives q)
  accepts_derives (accept_left h p) = of_left (accepts_derives p)
  accepts_derives (accept_right h p) = of_right (accepts_derives p)
  accepts_derives (accept_last h) = of_last
  accepts_derives (accept_more h p q) = of_more (accepts_derives p) (accepts_derives q)
  accepts_derives (accept_deep p) = of_deep (accepts_derives p)
  accepts_derives (accept_sub p) = of_sub (accepts_derives p)

  pub accepts_within : {n : ℕ} {r : Rule} {d : Tree T} {rest : List T} → Accepts g n r d rest → over n d ≡ None
  accepts_within accept_empty = refl
  accepts_within (accept_token h) = refl
  accepts_within (accept_then p q) = none_both _ _ _ (accepts_within p) (accepts_within q)
  accepts_within (accept_left h p) = accepts_within p
  accepts_within (accept_right h p) = accepts_within p
  accepts_within (accept_last h) = refl
  accepts_within (accept_more h p q) = none_both _ _ _ (accepts_within p) (accepts_within q)
  accepts_within (accept_deep p) = accepts_within p
  accepts_within (accept_sub p) = accepts_within p
