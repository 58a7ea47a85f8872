-- The streams of a sentence of the unsplit text are sentences, and their trees are its parts.
use Rattle.std.proofs.Common.{◌≡◌, ℕ, zero, suc, Bool, true, false, List, [], ◌∷◌, ◌++◌, refl, sym, ap, ◌∙◌, subst, append_assoc, ◌==◌, eqb-true, map, length, ◌<◌, ◌≤◌, ◌+◌, arith, All}
use Rattle.std.proofs.lemmas.List.{append-nil}
use Rattle.std.proofs.lemmas.List.Elements.{All-append, All-nil, All-cons}
use Rattle.std.proofs.lemmas.Grind.{common_steps}
use Rattle.m2_base.specs.declared.token.Token.{Token}
use Rattle.m2_base.specs.KindNumbers.{kind_number}
use Rattle.ll_grammar.specs.Grammar.{Rule, Grammar, one}
use Rattle.ll_grammar.specs.Derivations.{Tree, leaf, both, tokens, Derives, of_empty, of_token, of_then, of_left, of_right, of_last, of_more, of_deep, of_sub}
use Rattle.ll_grammar.specs.LookAhead.{member}
use Rattle.stream_split.specs.Cut.{Event, to, cut_at, end_at, pick}
use Rattle.stream_split.proofs.Flow.{Cuttable, head, block, grammar_of, procedure_rule}
use Rattle.stream_split.proofs.Parts.{stream_rule, streams_after, own, parts, sends, spread}
use Rattle.stream_split.proofs.Picks.{to_append, pick_append, pick_own, pick_other}

less_apart : (j c : ℕ) → j < c → (j == c) ≡ false
less_apart j c h = grind arith

pub pick_low : (j c : ℕ) (xs : List (Tree Token)) → j < c → pick j (spread c xs) ≡ []
pick_low j c [] h = refl
pick_low j c (x ∷ xs) h = pick_append j (to c (tokens x)) (spread (suc c) xs) ∙ ap (λ z. z ++ pick j (spread (suc c) xs)) (pick_other j c (tokens x) (less_apart j c h)) ∙ pick_low j (suc c) xs (omega arith)

swap : (j k c : ℕ) (xs : List (Tree Token)) (ts : List Token) → k < c → pick j (spread c xs) ++ pick j (to k ts) ≡ pick j (to k ts) ++ pick j (spread c xs)
swap j k c xs ts h = by (j == k) refl
  where
    by : (b : Bool) → (j == k) ≡ b → pick j (spread c xs) ++ pick j (to k ts) ≡ pick j (to k ts) ++ pick j (spread c xs)
    by true e = let low = pick_low j c xs (subst (λ z. z < c) (sym (eqb-true j k e)) h) in ap (λ z. z ++ pick j (to k ts)) low ∙ sym (append-nil _) ∙ ap (λ z. pick j (to k ts) ++ z) (sym low)
    by false e = let none = pick_other j k ts e in ap (λ z. pick j (spread c xs) ++ z) none ∙ append-nil _ ∙ ap (λ z. z ++ pick j (spread c xs)) (sym none)

spread_append : (c : ℕ) (xs ys : List (Tree Token)) → spread c (xs ++ ys) ≡ spread c xs ++ spread (c + length xs) ys
spread_append c [] ys = let e : c + 0 ≡ c = omega arith in ap (λ z. spread z ys) (sym e)
spread_append c (x ∷ xs) ys = let e : suc c + length xs ≡ c + suc (length xs) = omega arith in ap (λ z. to c (tokens x) ++ z) (spread_append (suc c) xs ys) ∙ sym (append_assoc (to c (tokens x)) _ _) ∙ ap (λ z. (to c (tokens x) ++ spread (suc c) xs) ++ spread z ys) e

middle : {A : Type 0} (a b d e : List A) → b ++ d ≡ d ++ b → (a ++ b) ++ (d ++ e) ≡ (a ++ d) ++ (b ++ e)
middle a b d e h = append_assoc a b (d ++ e) ∙ ap (λ z. a ++ z) (sym (append_assoc b d e) ∙ ap (λ z. z ++ e) h ∙ append_assoc d b e) ∙ sym (append_assoc a d (b ++ e))

pick_to : (j k : ℕ) (xs ys : List Token) → pick j (to k (xs ++ ys)) ≡ pick j (to k xs) ++ pick j (to k ys)
pick_to j k xs ys = ap (pick j) (to_append k xs ys) ∙ pick_append j (to k xs) (to k ys)

-- the events of stream k and of streams from c on, told apart
abbrev pub Told : ℕ → ℕ → ℕ → List Event → List Token → List (Tree Token) → Type 0
Told j k c es os ps = pick j es ≡ pick j (to k os) ++ pick j (spread c ps)

told_then : (j k c c1 : ℕ) (es fs : List Event) (os qs : List Token) (xs ys : List (Tree Token)) → k < c → c1 ≡ c + length xs → Told j k c es os xs → Told j k c1 fs qs ys → Told j k c (es ++ fs) (os ++ qs) (xs ++ ys)
told_then j k c c1 es fs os qs xs ys h n a b =
    pick_append j es fs ∙ ap (λ z. z ++ pick j fs) a ∙ ap (λ z. (pick j (to k os) ++ pick j (spread c xs)) ++ z) b
    ∙ middle (pick j (to k os)) (pick j (spread c xs)) (pick j (to k qs)) (pick j (spread c1 ys)) (swap j k c xs qs h)
    ∙ ap (λ z. z ++ (pick j (spread c xs) ++ pick j (spread c1 ys))) (sym (pick_to j k os qs))
    ∙ ap (λ z. pick j (to k (os ++ qs)) ++ z) (ap (λ z. pick j (spread c xs) ++ pick j (spread z ys)) n ∙ sym (pick_append j (spread c xs) (spread (c + length xs) ys)) ∙ ap (pick j) (sym (spread_append c xs ys)))

told_plain : (j k c : ℕ) (ts : List Token) → Told j k c (to k ts) ts []
told_plain j k c ts = sym (append-nil (pick j (to k ts)))

-- a Procedure: its heading in both streams, its own tokens and its procedures, its end
told_part : (j k c : ℕ) (hs : List Token) (s u : Token) (es : List Event) (os ends : List Token) (ps : List (Tree Token)) (x : Tree Token) → k < c →
    tokens x ≡ hs ++ (s ∷ (os ++ ends)) →
    Told j c (suc c) es os ps →
    Told j k c (to k hs ++ (((k, s) ∷ (k, u) ∷ to c (hs ++ (s ∷ []))) ++ (es ++ to c ends))) (hs ++ (s ∷ u ∷ [])) (x ∷ ps)
told_part j k c hs s u es os ends ps x h is a =
    let inside : pick j (es ++ to c ends) ≡ pick j (to c (os ++ ends)) ++ pick j (spread (suc c) ps) =
    pick_append j es (to c ends) ∙ ap (λ z. z ++ pick j (to c ends)) a ∙ append_assoc (pick j (to c os)) _ _ ∙ ap (λ z. pick j (to c os) ++ z) (swap j c (suc c) ps ends (omega arith)) ∙ sym (append_assoc (pick j (to c os)) _ _) ∙ ap (λ z. z ++ pick j (spread (suc c) ps)) (sym (pick_to j c os ends)) in
    let left : pick j (to k hs ++ (((k, s) ∷ (k, u) ∷ []))) ≡ pick j (to k (hs ++ (s ∷ u ∷ []))) = ap (pick j) (sym (to_append k hs (s ∷ u ∷ []))) in
    let right : pick j (to c (hs ++ (s ∷ []))) ++ pick j (to c (os ++ ends)) ≡ pick j (to c (tokens x)) = sym (pick_to j c (hs ++ (s ∷ [])) (os ++ ends)) ∙ ap (λ z. pick j (to c z)) (append_assoc hs (s ∷ []) (os ++ ends) ∙ sym is) in
    ap (pick j) (sym (append_assoc (to k hs) ((k, s) ∷ (k, u) ∷ []) (to c (hs ++ (s ∷ [])) ++ (es ++ to c ends))))
    ∙ pick_append j (to k hs ++ ((k, s) ∷ (k, u) ∷ [])) (to c (hs ++ (s ∷ [])) ++ (es ++ to c ends))
    ∙ ap (λ z. z ++ pick j (to c (hs ++ (s ∷ [])) ++ (es ++ to c ends))) left
    ∙ ap (λ z. pick j (to k (hs ++ (s ∷ u ∷ []))) ++ z) (pick_append j (to c (hs ++ (s ∷ []))) (es ++ to c ends) ∙ ap (λ z. pick j (to c (hs ++ (s ∷ []))) ++ z) inside ∙ sym (append_assoc (pick j (to c (hs ++ (s ∷ [])))) _ _) ∙ ap (λ z. z ++ pick j (spread (suc c) ps)) right ∙ sym (pick_append j (to c (tokens x)) (spread (suc c) ps)))

module _ (G : Cuttable) where
  abbrev W : Grammar Token
  W = grammar_of G

  abbrev H : Rule
  H = head G

  pub counted : {r : Rule} {x : Tree Token} → Derives W r x → (c : ℕ) → streams_after c x ≡ c + length (parts c x)
  counted of_empty c = omega arith
  counted (of_token g) c = omega arith
  counted (of_then {d = x} {e = y} g g') c = counted g' (streams_after c x) ∙ ap (λ z. z + length (parts (streams_after c x) y)) (counted g c) ∙ grind (arith, common_steps)
  counted (of_left g) c = counted g c
  counted (of_right g) c = counted g c
  counted of_last c = omega arith
  counted (of_more {d = x} {ds = y} g g') c = counted g' (streams_after c x) ∙ ap (λ z. z + length (parts (streams_after c x) y)) (counted g c) ∙ grind (arith, common_steps)
  counted (of_deep g) c = omega arith
  counted (of_sub (of_then gh (of_then gs (of_then {d = y} gy gl)))) c = counted gy (suc c) ∙ omega arith

  pub told : {r : Rule} {x : Tree Token} → Derives W r x → (j k c : ℕ) → k < c → Told j k c (sends k c x) (tokens (own c x)) (parts c x)
  told of_empty j k c h = refl
  told (of_token {t = t} g) j k c h = told_plain j k c (t ∷ [])
  told (of_then {d = x} {e = y} g g') j k c h = told_then j k c (streams_after c x) _ _ (tokens (own c x)) _ (parts c x) _ h (counted g c) (told g j k c h) (told g' j k (streams_after c x) (up (parts c x) (counted g c) h))
    where
      up : {c' : ℕ} (ps : List (Tree Token)) → c' ≡ c + length ps → k < c → k < c'
      up ps e l = omega arith
  told (of_left g) j k c h = told g j k c h
  told (of_right g) j k c h = told g j k c h
  told of_last j k c h = refl
  told (of_more {d = x} {ds = y} g g') j k c h = told_then j k c (streams_after c x) _ _ (tokens (own c x)) _ (parts c x) _ h (counted g c) (told g j k c h) (told g' j k (streams_after c x) (up (parts c x) (counted g c) h))
    where
      up : {c' : ℕ} (ps : List (Tree Token)) → c' ≡ c + length ps → k < c → k < c'
      up ps e l = omega arith
  told (of_deep {d = x} g) j k c h = told_plain j k c (tokens x)
  told (of_sub (of_then {d = hd} gh (of_then (of_token {t = s} gs) (of_then {d = y} gy (of_token {t = l} gl))))) j k c h =
      told_part j k c (tokens hd) s (cut_at c s) (sends c (suc c) y) (tokens (own (suc c) y)) (l ∷ end_at l ∷ []) (parts (suc c) y) (both hd (both (leaf s) (both (own (suc c) y) (both (leaf l) (leaf (end_at l)))))) h refl (told gy j c (suc c) (omega arith))

  -- the text's own stream is a sentence of the stream grammar
  pub own_of : {r : Rule} {x : Tree Token} → Derives W r x → (c : ℕ) → Derives W (stream_rule H r) (own c x)
  own_of of_empty c = of_empty
  own_of (of_token g) c = of_token g
  own_of (of_then {d = x} g g') c = of_then (own_of g c) (own_of g' (streams_after c x))
  own_of (of_left g) c = of_left (own_of g c)
  own_of (of_right g) c = of_right (own_of g c)
  own_of of_last c = of_last
  own_of (of_more {d = x} g g') c = of_more (own_of g c) (own_of g' (streams_after c x))
  own_of (of_deep g) c = of_deep g
  own_of (of_sub (of_then gh (of_then (of_token gs) g))) c = of_then gh (of_then (of_token gs) (of_token refl))

  -- and so are those of its procedures
  abbrev pub PS : (Tree Token) → Type 0
  PS x = Derives W (procedure_rule G) x

  part_of : {h s y : Tree Token} {l : Token} → Derives W H h → Derives W (one 57) s → Derives W (stream_rule H (block G)) y → member (kind_number l.kind) (57 ∷ []) ≡ true → PS (both h (both s (both y (both (leaf l) (leaf (end_at l))))))
  part_of gh gs gy gl = of_then gh (of_then gs (of_then gy (of_then (of_token gl) (of_token {ks = 7 ∷ []} refl))))

  pub parts_of : {r : Rule} {x : Tree Token} → Derives W r x → (c : ℕ) → All PS (parts c x)
  parts_of of_empty c = All-nil PS
  parts_of (of_token g) c = All-nil PS
  parts_of (of_then {d = x} {e = y} g g') c = All-append PS (parts c x) (parts (streams_after c x) y) (parts_of g c) (parts_of g' (streams_after c x))
  parts_of (of_left g) c = parts_of g c
  parts_of (of_right g) c = parts_of g c
  parts_of of_last c = All-nil PS
  parts_of (of_more {d = x} {ds = y} g g') c = All-append PS (parts c x) (parts (streams_after c x) y) (parts_of g c) (parts_of g' (streams_after c x))
  parts_of (of_deep g) c = All-nil PS
  parts_of (of_sub (of_then gh (of_then gs (of_then {d = y} gy (of_token gl))))) c =
      All-cons PS _ (parts (suc c) y) (part_of gh gs (own_of gy (suc c)) gl) (parts_of gy (suc c))

-- the tokens of the streams from number j on, so many
abbrev pub streams_from : ℕ → ℕ → List Event → List (List Token)
streams_from j zero es = []
streams_from j (suc n) es = pick j es ∷ streams_from (suc j) n es

pub told_streams : (es : List Event) (c : ℕ) (ps : List (Tree Token)) → ((j : ℕ) → c ≤ j → pick j es ≡ pick j (spread c ps)) → streams_from c (length ps) es ≡ map tokens ps
told_streams es c [] h = refl
told_streams es c (x ∷ ps) h =
    let low : c < suc c = omega arith in
    let one = h c (omega arith) ∙ pick_append c (to c (tokens x)) (spread (suc c) ps) ∙ ap (λ z. z ++ pick c (spread (suc c) ps)) (pick_own c (tokens x)) ∙ ap (λ z. tokens x ++ z) (pick_low c (suc c) ps low) ∙ append-nil (tokens x) in
    let more = told_streams es (suc c) ps (λ j l. h j (omega (arith, l)) ∙ pick_append j (to c (tokens x)) (spread (suc c) ps) ∙ ap (λ z. z ++ pick j (spread (suc c) ps)) (pick_other j c (tokens x) (above j l))) in
    ap (λ z. z ∷ streams_from (suc c) (length ps) es) one ∙ ap (λ z. tokens x ∷ z) more
  where
    above : (j : ℕ) → suc c ≤ j → (j == c) ≡ false
    above j l = grind arith

pub pick_high : (j c : ℕ) (xs : List (Tree Token)) → c + length xs ≤ j → pick j (spread c xs) ≡ []
pick_high j c [] h = refl
pick_high j c (x ∷ xs) h = pick_append j (to c (tokens x)) (spread (suc c) xs) ∙ ap (λ z. z ++ pick j (spread (suc c) xs)) (pick_other j c (tokens x) (apart j (length xs) h)) ∙ pick_high j (suc c) xs (omega (arith, h))
  where
    apart : (j n : ℕ) → c + suc n ≤ j → (j == c) ≡ false
    apart j n h = grind arith

module _ (G : Cuttable) where
  pub own_pick : {r : Rule} {x : Tree Token} → Derives (grammar_of G) r x → (k c : ℕ) → k < c → pick k (sends k c x) ≡ tokens (own c x)
  own_pick {x = x} g k c h = told G g k k c h ∙ ap (λ z. z ++ pick k (spread c (parts c x))) (pick_own k (tokens (own c x))) ∙ ap (λ z. tokens (own c x) ++ z) (pick_low k c (parts c x) h) ∙ append-nil _

  pub high_pick : {r : Rule} {x : Tree Token} → Derives (grammar_of G) r x → (j k c : ℕ) → k < c → streams_after c x ≤ j → pick j (sends k c x) ≡ []
  high_pick {x = x} g j k c h l =
      let n = counted G g c in
      told G g j k c h ∙ ap (λ z. z ++ pick j (spread c (parts c x))) (pick_other j k (tokens (own c x)) (apart (parts c x) n h l)) ∙ pick_high j c (parts c x) (omega (arith, n, l))
    where
      apart : {c' : ℕ} (ps : List (Tree Token)) → c' ≡ c + length ps → k < c → c' ≤ j → (j == k) ≡ false
      apart ps n h l = grind arith
