-- Depth in a text and in its streams.
use Rattle.std.proofs.Common.{◌≡◌, ℕ, suc, [], ◌∷◌, refl, All, None}
use Rattle.std.proofs.lemmas.List.Elements.{All-append, All-nil, All-cons}
use Rattle.m2_base.specs.declared.token.Token.{Token}
use Rattle.ll_grammar.specs.Grammar.{Rule, Grammar}
use Rattle.ll_grammar.specs.Derivations.{Tree, tokens, Derives, of_empty, of_token, of_then, of_left, of_right, of_last, of_more, of_deep, of_sub, over}
use Rattle.ll_grammar.proofs.Nesting.{first_none}
use Rattle.ll_grammar.proofs.Soundness.{none_both}
use Rattle.stream_split.proofs.Flow.{Cuttable, grammar_of}
use Rattle.stream_split.proofs.Parts.{streams_after, own, parts}

-- in a text within the depth all streams are
pub record Shallow (n c : ℕ) (x : Tree Token) : Type 0 where
  pub mine : over n (own c x) ≡ None
  pub theirs : All (λ z. over n z ≡ None) (parts c x)

module _ (G : Cuttable) where
  abbrev W : Grammar Token
  W = grammar_of G

  pub shallow : {r : Rule} {x : Tree Token} → Derives W r x → (n c : ℕ) → over n x ≡ None → Shallow n c x
  shallow of_empty n c h = record { mine = refl; theirs = All-nil (λ z. over n z ≡ None) }
  shallow (of_token g) n c h = record { mine = refl; theirs = All-nil (λ z. over n z ≡ None) }
  shallow (of_then {d = x} {e = y} g g') n c h =
      let o = first_none (tokens x) (over n x) (over n y) h in
      let i = shallow g n c o.0 in let j = shallow g' n (streams_after c x) o.1 in
      record { mine = none_both (tokens (own c x)) _ _ i.mine j.mine; theirs = All-append (λ z. over n z ≡ None) (parts c x) (parts (streams_after c x) y) i.theirs j.theirs }
  shallow (of_left g) n c h = let i = shallow g n c h in record { mine = i.mine; theirs = i.theirs }
  shallow (of_right g) n c h = let i = shallow g n c h in record { mine = i.mine; theirs = i.theirs }
  shallow of_last n c h = record { mine = refl; theirs = All-nil (λ z. over n z ≡ None) }
  shallow (of_more {d = x} {ds = y} g g') n c h =
      let o = first_none (tokens x) (over n x) (over n y) h in
      let i = shallow g n c o.0 in let j = shallow g' n (streams_after c x) o.1 in
      record { mine = none_both (tokens (own c x)) _ _ i.mine j.mine; theirs = All-append (λ z. over n z ≡ None) (parts c x) (parts (streams_after c x) y) i.theirs j.theirs }
  shallow (of_deep g) n c h = record { mine = h; theirs = All-nil (λ z. over n z ≡ None) }
  shallow (of_sub (of_then {d = hd} gh (of_then (of_token {t = s} gs) (of_then {d = y} gy (of_token {t = l} gl))))) n c h =
      let o = first_none (tokens hd) (over n hd) _ h in
      let o2 = first_none (s ∷ []) None _ o.1 in
      let o3 = first_none (tokens y) (over n y) None o2.1 in
      let j = shallow gy n (suc c) o3.0 in
      record {
        mine = none_both (tokens hd) (over n hd) _ o.0 refl;
        theirs = All-cons (λ z. over n z ≡ None) _ (parts (suc c) y) (none_both (tokens hd) (over n hd) _ o.0 (none_both (s ∷ []) None _ refl (none_both (tokens (own (suc c) y)) (over n (own (suc c) y)) _ j.mine refl))) j.theirs;
      }
