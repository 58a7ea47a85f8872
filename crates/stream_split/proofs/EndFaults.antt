-- No stream is refused behind its last token.
use Rattle.std.proofs.Common.{◌≡◌, ℕ, zero, suc, Bool, true, false, true≢false, List, [], ◌∷◌, ◌++◌, refl, sym, ap, ◌∙◌, subst, append_assoc, inl, inr, ◌==◌, ◌&&◌, not, cond, All}
use Rattle.std.proofs.lemmas.List.{append-nil}
use Rattle.std.proofs.lemmas.List.Elements.{All-head, All-tail, All-append, All-nil, All-cons}
use Rattle.m2_base.specs.declared.token.Token.{Token}
use Rattle.m2_base.specs.KindNumbers.{kind_number}
use Rattle.ll_grammar.specs.Grammar.{Rule, empty, token, then, or, many, deep, sub, one, Grammar}
use Rattle.ll_grammar.specs.Derivations.{Tree, tokens, Derives, of_empty, of_token, of_then, of_left, of_right, of_last, of_more, of_deep, of_sub}
use Rattle.ll_grammar.specs.Sentences.{Fault, Syntax, TooDeep, Begins, Faulty, Refusal}
use Rattle.ll_grammar.proofs.Beginnings.{begins_self}
use Rattle.ll_grammar.proofs.KindSets.{and_l, and_r}
use Rattle.ll_grammar.proofs.Nesting.{deep_token}
use Rattle.stream_split.proofs.Checked.{cuttable, main_text, front}
use Rattle.stream_split.proofs.Closings.{IsClosing, Closed}
use Rattle.stream_split.proofs.First.{root}
use Rattle.stream_split.proofs.Flow.{every, every_mem, head, block, grammar_of, procedure_rule}
use Rattle.stream_split.proofs.Parts.{stream_rule}

abbrev W : Grammar Token
W = grammar_of cuttable

-- no token that ends a stream stands in a sentence of the rule
abbrev avoids : Rule → Bool
avoids empty = true
avoids (token ks) = every (λ k. not (k == 0) && not (k == 7)) ks
avoids (then r s) = avoids r && avoids s
avoids (or r s) = avoids r && avoids s
avoids (many r) = avoids r
avoids (deep zero) = false
avoids (deep (suc n)) = true
avoids sub = false

levels_avoid : (n : ℕ) → avoids (cuttable.below n) ≡ true
levels_avoid zero = refl
levels_avoid (suc zero) = refl
levels_avoid (suc (suc zero)) = refl
levels_avoid (suc (suc (suc zero))) = refl
levels_avoid (suc (suc (suc (suc n)))) = refl

abbrev NotClosing : Token → Type 0
NotClosing t = IsClosing t → ⊥

not_closing : (t : Token) → (not (kind_number t.kind == 0) && not (kind_number t.kind == 7)) ≡ true → NotClosing t
not_closing t h (inl e) = true≢false (sym (ap (λ k. not (kind_number k == 0) && not (kind_number k == 7)) (sym e) ∙ h))
not_closing t h (inr e) = true≢false (sym (ap (λ k. not (kind_number k == 0) && not (kind_number k == 7)) (sym e) ∙ h))

free_of : {r : Rule} {x : Tree Token} → Derives W r x → avoids r ≡ true → All NotClosing (tokens x)
free_of of_empty h = All-nil NotClosing
free_of (of_token {ks = ks} {t = t} g) h =
    All-cons NotClosing t [] (not_closing t (every_mem (λ k. not (k == 0) && not (k == 7)) (kind_number t.kind) ks h g)) (All-nil NotClosing)
free_of (of_then {r = r} {d = x} {e = y} g g') h = All-append NotClosing (tokens x) (tokens y) (free_of g (and_l _ _ h)) (free_of g' (and_r (avoids r) _ h))
free_of (of_left g) h = free_of g (and_l _ _ h)
free_of (of_right {r = r} g) h = free_of g (and_r (avoids r) _ h)
free_of of_last h = All-nil NotClosing
free_of (of_more {d = x} {ds = y} g g') h = All-append NotClosing (tokens x) (tokens y) (free_of g h) (free_of g' h)
free_of (of_deep {n = zero} g) h = absurd (true≢false (sym h))
free_of (of_deep {n = suc n} g) h = free_of g (levels_avoid n)
free_of (of_sub g) h = absurd (true≢false (sym h))

-- only the last token of a stream's sentence ends it
pub record LastOnly (ts : List Token) : Type 0 where
  pub inner : List Token
  pub final : Token
  pub is : ts ≡ inner ++ (final ∷ [])
  pub none : All NotClosing inner

last_of_main : {e : Tree Token} → Derives W (then (stream_rule (head cuttable) front) (one 0)) e → LastOnly (tokens e)
last_of_main (of_then {d = x} g (of_token {t = z} h)) = record { inner = tokens x; final = z; is = refl; none = free_of g refl }

last_of_procedure : {e : Tree Token} → Derives W (procedure_rule cuttable) e → LastOnly (tokens e)
last_of_procedure (of_then {d = h} gh (of_then (of_token {t = s} gs) (of_then {d = b} gb (of_then (of_token {t = l} gl) (of_token {t = z} gz))))) =
    record {
      inner = tokens h ++ (s ∷ (tokens b ++ (l ∷ [])));
      final = z;
      is = ap (λ q. tokens h ++ (s ∷ q)) (sym (append_assoc (tokens b) (l ∷ []) (z ∷ []))) ∙ sym (append_assoc (tokens h) (s ∷ (tokens b ++ (l ∷ []))) (z ∷ []));
      none = free_of {r = then (head cuttable) (then (one 57) (then (stream_rule (head cuttable) (block cuttable)) (one 57)))} (of_then gh (of_then (of_token {t = s} gs) (of_then gb (of_token {t = l} gl)))) refl;
    }

last_of : (m j : ℕ) {e : Tree Token} → Derives W (root cuttable main_text m j) e → LastOnly (tokens e)
last_of m j {e} d = on (j == m) d
  where
    on : (b : Bool) → Derives W (cond b (then (stream_rule (head cuttable) front) (one 0)) (procedure_rule cuttable)) e → LastOnly (tokens e)
    on true d = last_of_main d
    on false d = last_of_procedure d

-- where a token that ends a stream stands in such a list, it is the last
is_last : (inner before behind : List Token) (final end : Token) → inner ++ (final ∷ []) ≡ before ++ (end ∷ behind) → All NotClosing inner → IsClosing end → behind ≡ []
is_last [] [] behind final end h a c = cc
is_last [] (x ∷ before) behind final end h a c = absurd (none before cc)
  where
    none : (xs : List Token) → [] ≡ xs ++ (end ∷ behind) → ⊥
    none [] h = cc
    none (x ∷ xs) h = cc
is_last (y ∷ inner) [] behind final end h a c = let e : y ≡ end = cc in absurd (All-head NotClosing y inner a (subst IsClosing (sym e) c))
is_last (y ∷ inner) (x ∷ before) behind final end h a c =
    let r : inner ++ (final ∷ []) ≡ before ++ (end ∷ behind) = cc in is_last inner before behind final end r (All-tail NotClosing y inner a) c

begins_none : (u z : List Token) (t : Token) → Begins u [] (u ++ (t ∷ z)) → ⊥
begins_none [] z t h = h
begins_none (x ∷ u) z t h = begins_none u z t h.1

-- a closed stream has no fault at its end
pub none_at_end : (m j n : ℕ) (f : Fault) (ts : List Token) → Closed ts → Faulty W n (root cuttable main_text m j) f ts [] → ⊥
none_at_end m j n f ts c a =
    let b = a.beginning in
    let l = last_of m j b.derives in
    let whole : a.before ≡ ts = sym (a.is ∙ append-nil a.before) in
    let parted : l.inner ++ (l.final ∷ []) ≡ c.front ++ (c.end ∷ b.behind) =
    sym l.is ∙ b.spells ∙ ap (λ z. z ++ b.behind) (whole ∙ c.is) ∙ append_assoc c.front (c.end ∷ []) b.behind in
    let nothing : b.behind ≡ [] = is_last l.inner c.front b.behind l.final c.end parted l.none c.closing in
    let all : tokens b.tree ≡ a.before = b.spells ∙ ap (λ z. a.before ++ z) nothing ∙ append-nil a.before in
    let begins : Begins a.before [] (tokens b.tree) = subst (Begins a.before []) (append-nil a.before ∙ sym all) (begins_self a.before [] [] tt) in
    on f a.refusal b.tree b.derives begins
  where
    on : (f : Fault) → Refusal W n (root cuttable main_text m j) f a.before [] → (d : Tree Token) → Derives W (root cuttable main_text m j) d → Begins a.before [] (tokens d) → ⊥
    on Syntax q d k b = q d k b
    on TooDeep q d k b =
        let t = deep_token W main_text.ok k n a.before (q.each d k b) in
        begins_none a.before t.behind t.token (subst (Begins a.before []) t.is b)
