-- Of what follows, reading sees the first token alone.
use Rattle.std.proofs.Common.{ℕ, List, ◌++◌, sym, ◌∙◌}
use Rattle.ll_grammar.specs.Grammar.{Rule, Grammar}
use Rattle.ll_grammar.specs.Derivations.{Tree, tokens}
use Rattle.ll_grammar.specs.Sentences.{Fault, SameHead}
use Rattle.ll_grammar.specs.Reading.{Accepts, accept_empty, accept_token, accept_then, accept_left, accept_right, accept_last, accept_more, accept_deep, accept_sub, Refuses, refuse_token, refuse_then, refuse_later, refuse_left, refuse_right, refuse_many, refuse_more, refuse_deep, refuse_sub, refuse_limit, refuse_none}
use Rattle.ll_grammar.proofs.Beginnings.{starts_same, same_front}

module _ {T : Type 0} (g : Grammar T) where
  pub accepts_rest : {n : ℕ} {r : Rule} {d : Tree T} {rest : List T} → Accepts g n r d rest → (w : List T) → SameHead rest w
      → Accepts g n r d w
  accepts_rest accept_empty w h = accept_empty
  accepts_rest (accept_token m) w h = accept_token m
  accepts_rest (accept_then {e = e} p q) w h =
      accept_then (accepts_rest p (tokens e ++ w) (same_front (tokens e) _ w h)) (accepts_rest q w h)
  accepts_rest (accept_left {d = d} m p) w h =
      accept_left (sym (starts_same g _ _ _ (same_front (tokens d) _ w h)) ∙ m) (accepts_rest p w h)
  accepts_rest (accept_right {d = d} m p) w h =
      accept_right (sym (starts_same g _ _ _ (same_front (tokens d) _ w h)) ∙ m) (accepts_rest p w h)
  accepts_rest (accept_last m) w h = accept_last (sym (starts_same g _ _ _ h) ∙ m)
  accepts_rest (accept_more {d = d} {ds = ds} m p q) w h =
      accept_more (sym (starts_same g _ _ _ (same_front (tokens d) _ _ (same_front (tokens ds) _ w h))) ∙ m) (accepts_rest p (tokens ds ++ w) (same_front (tokens ds) _ w h)) (accepts_rest q w h)
  accepts_rest (accept_deep p) w h = accept_deep (accepts_rest p w h)
  accepts_rest (accept_sub p) w h = accept_sub (accepts_rest p w h)

  pub refuses_rest : {f : Fault} {n : ℕ} {r : Rule} {u rest : List T} → Refuses g f n r u rest → (w : List T) → SameHead rest w
      → Refuses g f n r u w
  refuses_rest (refuse_token m) w h = refuse_token (sym (starts_same g _ _ _ h) ∙ m)
  refuses_rest (refuse_then p) w h = refuse_then (refuses_rest p w h)
  refuses_rest (refuse_later {u = u} a p) w h = refuse_later (accepts_rest a (u ++ w) (same_front u _ w h)) (refuses_rest p w h)
  refuses_rest (refuse_left {u = u} m p) w h = refuse_left (sym (starts_same g _ _ _ (same_front u _ w h)) ∙ m) (refuses_rest p w h)
  refuses_rest (refuse_right {u = u} m p) w h =
      refuse_right (sym (starts_same g _ _ _ (same_front u _ w h)) ∙ m) (refuses_rest p w h)
  refuses_rest (refuse_many {u = u} m p) w h = refuse_many (sym (starts_same g _ _ _ (same_front u _ w h)) ∙ m) (refuses_rest p w h)
  refuses_rest (refuse_more {d = d} {u = u} m a p) w h =
      refuse_more (sym (starts_same g _ _ _ (same_front (tokens d) _ _ (same_front u _ w h))) ∙ m) (accepts_rest a (u ++ w) (same_front u _ w h)) (refuses_rest p w h)
  refuses_rest (refuse_deep p) w h = refuse_deep (refuses_rest p w h)
  refuses_rest (refuse_sub p) w h = refuse_sub (refuses_rest p w h)
  refuses_rest (refuse_limit m) w h = refuse_limit (sym (starts_same g _ _ _ h) ∙ m)
  refuses_rest (refuse_none m) w h = refuse_none (sym (starts_same g _ _ _ h) ∙ m)
