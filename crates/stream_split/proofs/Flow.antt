-- What the cut does along a sentence of the unsplit text.
use Rattle.std.proofs.Common.{◌≡◌, ℕ, zero, suc, Bool, true, false, List, [], ◌∷◌, ◌++◌, refl, sym, ap, ◌∙◌, subst, ◌&&◌, ◌||◌, not, true≢false, append_assoc, ⊎_elim, ◌==◌, eqb-true, map}
use Rattle.std.proofs.lemmas.List.{append-nil}
use Rattle.m2_base.specs.declared.token.Token.{Token}
use Rattle.m2_base.specs.Grammar.{number_of_token}
use Rattle.m2_base.specs.KindNumbers.{kind_number, all_kinds, sample}
use Rattle.ll_grammar.specs.Grammar.{Rule, empty, token, then, or, many, deep, sub, Grammar, one}
use Rattle.ll_grammar.specs.Derivations.{Tree, tokens, Derives, of_empty, of_token, of_then, of_left, of_right, of_last, of_more, of_deep, of_sub}
use Rattle.ll_grammar.specs.LookAhead.{member}
use Rattle.stream_split.specs.declared.sorts.Sort.{Sort}
use Rattle.stream_split.specs.declared.sorts.Sort.TheVariants.{Stop, Word, Procedure, Opener, Closer, Left, Right, Semicolon, Other}
use Rattle.stream_split.specs.declared.cutter.Mode.{Mode}
use Rattle.stream_split.specs.declared.cutter.Mode.TheVariants.{Free, Body}
use Rattle.ll_grammar.proofs.KindSets.{and_l, and_r, or_cases}
use Rattle.stream_split.specs.Cut.{sort, Phase, amid, seen, heading, two_left, one_left, State, state, deeper, closed, next_by, goes_by, events, after, Event, to, less}
use Rattle.stream_split.proofs.Numbers.{sort_of_number, sort_is}
use Rattle.stream_split.proofs.Parts.{stream_rule, streams_after, own, sends}
use Rattle.stream_split.proofs.Picks.{to_append}
use Rattle.stream_split.proofs.Runs.{after_append, events_append}

abbrev pub every : (ℕ → Bool) → List ℕ → Bool
every p [] = true
every p (k ∷ ks) = p k && every p ks

pub every_mem : (p : ℕ → Bool) (k : ℕ) (ks : List ℕ) → every p ks ≡ true → member k ks ≡ true → p k ≡ true
every_mem p k [] h m = absurd (true≢false (sym m))
every_mem p k (x ∷ ks) h m = ⊎_elim (λ e. ap p (eqb-true k x e) ∙ and_l _ _ h) (λ e. every_mem p k ks (and_r (p x) _ h) e) (or_cases (k == x) _ m)

-- a token where d openers are open, and where a PROCEDURE may stand directly before it
abbrev pub step : Bool → Sort → ℕ → Bool → (ℕ → Bool → Bool) → Bool
step top Stop d s k = false
step top Word d s k = not s && k d false
step top Procedure d s k = k d true
step top Opener d s k = k (suc d) false
step top Closer zero s k = top && k zero false
step top Closer (suc d) s k = k d false
step top Left d s k = k d false
step top Right d s k = k d false
step top Semicolon d s k = k d false
step top Other d s k = k d false

abbrev pub no_more : Bool → Bool → Bool
no_more true s = true
no_more false s = not s

-- a loop: from s where it stays there, else from true
abbrev pub again : (Bool → Bool) → (Bool → Bool) → Bool → Bool
again stay k s = stay (s || not (stay s)) && k (s || not (stay s))

pub again_stay : (stay k : Bool → Bool) (z : Bool) → stay z ≡ true → k z ≡ true → again stay k z ≡ true
again_stay stay k z e f = ap (λ y. stay (z || not y) && k (z || not y)) e ∙ ap (λ y. stay y && k y) (or_false z) ∙ ap (λ y. y && k z) e ∙ f
  where
    or_false : (z : Bool) → (z || false) ≡ z
    or_false true = refl
    or_false false = refl

-- along every sentence of the rule from here on, the test k is met
abbrev pub flow : Bool → Rule → ℕ → Bool → (ℕ → Bool → Bool) → Bool
flow top empty d s k = k d s
flow top (token ks) d s k = every (λ x. step top (sort_of_number x) d s k) ks
flow top (then q r) d s k = flow top q d s (λ d' s'. flow top r d' s' k)
flow top (or q r) d s k = flow top q d s k && flow top r d s k
flow top (many r) d s k = again (λ z. flow top r d z (λ d' s'. (d' == d) && no_more z s')) (λ z. k d z) s
flow top (deep zero) d s k = false
flow top (deep (suc n)) d s k = not s && k d true
flow top sub d s k = k d false

-- the same of a heading, where p brackets are open
abbrev pub head_step : Sort → ℕ → (ℕ → Bool) → Bool
head_step Stop p k = false
head_step Word p k = k p
head_step Procedure p k = k p
head_step Opener p k = k p
head_step Closer p k = k p
head_step Left p k = k (suc p)
head_step Right p k = k (less p)
head_step Semicolon zero k = false
head_step Semicolon (suc p) k = k (suc p)
head_step Other p k = k p

abbrev pub head_flow : Rule → ℕ → (ℕ → Bool) → Bool
head_flow empty p k = k p
head_flow (token ks) p k = every (λ x. head_step (sort_of_number x) p k) ks
head_flow (then q r) p k = head_flow q p (λ p'. head_flow r p' k)
head_flow (or q r) p k = head_flow q p k && head_flow r p k
head_flow (many r) p k = head_flow r p (λ p'. p' == p) && k p
head_flow (deep n) p k = false
head_flow sub p k = false

abbrev pub raise : ℕ → Mode → Mode
raise zero m = m
raise (suc d) m = deeper (raise d m)

-- the phase, where d openers are open on top of m
pub data Fits (m : Mode) : ℕ → Bool → Phase → Type 0 where
  fits_amid : {d : ℕ} {s : Bool} → Fits m d s (amid (raise d m))
  fits_seen : {d : ℕ} {t : Token} → Fits m d true (seen (raise d m) t)

abbrev pub Tops : Bool → Mode → Type 0
Tops top m = top ≡ true → m ≡ Free

pub closed_deeper : (m : Mode) → closed (deeper m) ≡ amid m
closed_deeper Free = refl
closed_deeper (Body d) = refl

-- one token
pub record Steps (top : Bool) (m : Mode) (d : ℕ) (s : Bool) (kk : ℕ → Bool → Bool) (k c : ℕ) (fs : List (ℕ × Mode)) (p : Phase) (t : Token) (z : Sort) : Type 0 where
  pub d' : ℕ
  pub s' : Bool
  pub p' : Phase
  pub test : kk d' s' ≡ true
  pub fits : Fits m d' s' p'
  pub state_is : next_by (state k c fs p) t z ≡ state k c fs p'
  pub events_are : goes_by (state k c fs p) t z ≡ (k, t) ∷ []

fit_closed : (m : Mode) (d : ℕ) → Fits m d false (closed (deeper (raise d m)))
fit_closed m d = subst (Fits m d false) (sym (closed_deeper (raise d m))) fits_amid

steps : (top : Bool) (m : Mode) (d : ℕ) (s : Bool) (kk : ℕ → Bool → Bool) (k c : ℕ) (fs : List (ℕ × Mode)) (p : Phase) (t : Token) (z : Sort) → step top z d s kk ≡ true → Fits m d s p → Tops top m → Steps top m d s kk k c fs p t z
steps top m d s kk k c fs p t Stop h f o = absurd (true≢false (sym h))
steps top m d s kk k c fs _ t Word h fits_amid o = record { d' = d; s' = false; p' = amid (raise d m); test = and_r (not s) _ h; fits = fits_amid; state_is = refl; events_are = refl }
steps top m d s kk k c fs _ t Word h fits_seen o = absurd (true≢false (sym h))
steps top m d s kk k c fs _ t Procedure h fits_amid o = record { d' = d; s' = true; p' = seen (raise d m) t; test = h; fits = fits_seen; state_is = refl; events_are = refl }
steps top m d s kk k c fs _ t Procedure h fits_seen o = record { d' = d; s' = true; p' = seen (raise d m) t; test = h; fits = fits_seen; state_is = refl; events_are = refl }
steps top m d s kk k c fs _ t Opener h fits_amid o = record { d' = suc d; s' = false; p' = amid (deeper (raise d m)); test = h; fits = fits_amid; state_is = refl; events_are = refl }
steps top m d s kk k c fs _ t Opener h fits_seen o = record { d' = suc d; s' = false; p' = amid (deeper (raise d m)); test = h; fits = fits_amid; state_is = refl; events_are = refl }
steps top m zero s kk k c fs _ t Closer h fits_amid o = record { d' = zero; s' = false; p' = closed m; test = and_r top _ h; fits = subst (λ x. Fits x zero false (closed x)) (sym (o (and_l top _ h))) fits_amid; state_is = refl; events_are = refl }
steps top m zero s kk k c fs _ t Closer h fits_seen o = record { d' = zero; s' = false; p' = closed m; test = and_r top _ h; fits = subst (λ x. Fits x zero false (closed x)) (sym (o (and_l top _ h))) fits_amid; state_is = refl; events_are = refl }
steps top m (suc d) s kk k c fs _ t Closer h fits_amid o = record { d' = d; s' = false; p' = closed (deeper (raise d m)); test = h; fits = fit_closed m d; state_is = refl; events_are = refl }
steps top m (suc d) s kk k c fs _ t Closer h fits_seen o = record { d' = d; s' = false; p' = closed (deeper (raise d m)); test = h; fits = fit_closed m d; state_is = refl; events_are = refl }
steps top m d s kk k c fs _ t Left h fits_amid o = record { d' = d; s' = false; p' = amid (raise d m); test = h; fits = fits_amid; state_is = refl; events_are = refl }
steps top m d s kk k c fs _ t Left h fits_seen o = record { d' = d; s' = false; p' = amid (raise d m); test = h; fits = fits_amid; state_is = refl; events_are = refl }
steps top m d s kk k c fs _ t Right h fits_amid o = record { d' = d; s' = false; p' = amid (raise d m); test = h; fits = fits_amid; state_is = refl; events_are = refl }
steps top m d s kk k c fs _ t Right h fits_seen o = record { d' = d; s' = false; p' = amid (raise d m); test = h; fits = fits_amid; state_is = refl; events_are = refl }
steps top m d s kk k c fs _ t Semicolon h fits_amid o = record { d' = d; s' = false; p' = amid (raise d m); test = h; fits = fits_amid; state_is = refl; events_are = refl }
steps top m d s kk k c fs _ t Semicolon h fits_seen o = record { d' = d; s' = false; p' = amid (raise d m); test = h; fits = fits_amid; state_is = refl; events_are = refl }
steps top m d s kk k c fs _ t Other h fits_amid o = record { d' = d; s' = false; p' = amid (raise d m); test = h; fits = fits_amid; state_is = refl; events_are = refl }
steps top m d s kk k c fs _ t Other h fits_seen o = record { d' = d; s' = false; p' = amid (raise d m); test = h; fits = fits_amid; state_is = refl; events_are = refl }

pub one_is : (k x : ℕ) → member k (x ∷ []) ≡ true → k ≡ x
one_is k x h = ⊎_elim (λ e. eqb-true k x e) (λ e. absurd (true≢false (sym e))) (or_cases (k == x) false h)

-- no Procedure stands in the rule
abbrev pub plain : Rule → Bool
plain empty = true
plain (token ks) = true
plain (then q r) = plain q && plain r
plain (or q r) = plain q && plain r
plain (many r) = plain r
plain (deep n) = true
plain sub = false

-- the grammar of a main text, whose rule 0 is a procedure, with what the cut rests on: within each counted rule, a block
-- and a heading what is opened is closed
pub record Cuttable : Type 0 where
  pub more_head : Rule
  pub decls : Rule
  pub body : Rule
  pub below : ℕ → Rule
  pub follows : ℕ → List ℕ
  pub levels : (n : ℕ) → flow false (below n) 0 false (λ d s. d == 0) ≡ true
  pub plains : (n : ℕ) → plain (below n) ≡ true
  pub heads : head_flow more_head 0 (λ p. p == 0) ≡ true
  pub insides : flow false (then decls body) 0 false (λ d s. d == 0) ≡ true

module _ (G : Cuttable) where
  -- Heading = PROCEDURE ident more
  abbrev pub head : Rule
  head = then (one 37) (then (one 1) G.more_head)

  -- Block ident
  abbrev pub block : Rule
  block = then G.decls (then G.body (then (one 21) (one 1)))

  -- the rules of the unsplit text: 0 is a procedure
  abbrev pub whole : ℕ → Rule
  whole zero = then head (then (one 57) (then block (one 57)))
  whole (suc n) = G.below n

  abbrev pub grammar_of : Grammar Token
  grammar_of = record { kind = number_of_token; samples = map sample all_kinds; rule = whole; follows = G.follows; rounds = 2 }

  abbrev pub procedure_rule : Rule
  procedure_rule = then head (then (one 57) (then (stream_rule head block) (then (one 57) (one 7))))

-- one token of a heading
pub record HeadSteps (kk : ℕ → Bool) (k c : ℕ) (fs : List (ℕ × Mode)) (m : Mode) (p : ℕ) (hs : List Token) (t : Token) (z : Sort) : Type 0 where
  pub p' : ℕ
  pub test : kk p' ≡ true
  pub state_is : next_by (state k c fs (heading m p hs)) t z ≡ state k c fs (heading m p' (hs ++ (t ∷ [])))
  pub events_are : goes_by (state k c fs (heading m p hs)) t z ≡ (k, t) ∷ []

head_steps : (kk : ℕ → Bool) (k c : ℕ) (fs : List (ℕ × Mode)) (m : Mode) (p : ℕ) (hs : List Token) (t : Token) (z : Sort) → head_step z p kk ≡ true → HeadSteps kk k c fs m p hs t z
head_steps kk k c fs m p hs t Stop h = absurd (true≢false (sym h))
head_steps kk k c fs m p hs t Word h = record { p' = p; test = h; state_is = refl; events_are = refl }
head_steps kk k c fs m p hs t Procedure h = record { p' = p; test = h; state_is = refl; events_are = refl }
head_steps kk k c fs m p hs t Opener h = record { p' = p; test = h; state_is = refl; events_are = refl }
head_steps kk k c fs m p hs t Closer h = record { p' = p; test = h; state_is = refl; events_are = refl }
head_steps kk k c fs m p hs t Left h = record { p' = suc p; test = h; state_is = refl; events_are = refl }
head_steps kk k c fs m p hs t Right h = record { p' = less p; test = h; state_is = refl; events_are = refl }
head_steps kk k c fs m zero hs t Semicolon h = absurd (true≢false (sym h))
head_steps kk k c fs m (suc p) hs t Semicolon h = record { p' = suc p; test = h; state_is = refl; events_are = refl }
head_steps kk k c fs m p hs t Other h = record { p' = p; test = h; state_is = refl; events_are = refl }

pub record Heads (kk : ℕ → Bool) (k c : ℕ) (fs : List (ℕ × Mode)) (m : Mode) (p : ℕ) (hs ts : List Token) : Type 0 where
  pub p' : ℕ
  pub test : kk p' ≡ true
  pub state_is : after (state k c fs (heading m p hs)) ts ≡ state k c fs (heading m p' (hs ++ ts))
  pub events_are : events (state k c fs (heading m p hs)) ts ≡ to k ts

module _ (G : Cuttable) where
  pub heads_of : {r : Rule} {x : Tree Token} → Derives (grammar_of G) r x → (p : ℕ) (kk : ℕ → Bool) → head_flow r p kk ≡ true → (k c : ℕ) (fs : List (ℕ × Mode)) (m : Mode) (hs : List Token) → Heads kk k c fs m p hs (tokens x)
  heads_of of_empty p kk h k c fs m hs = record { p' = p; test = h; state_is = ap (λ z. state k c fs (heading m p z)) (sym (append-nil hs)); events_are = refl }
  heads_of (of_token {ks} {t} g) p kk h k c fs m hs =
      let i = head_steps kk k c fs m p hs t (sort t.kind) (subst (λ z. head_step z p kk ≡ true) (sort_is t.kind) (every_mem (λ x. head_step (sort_of_number x) p kk) (kind_number t.kind) ks h g)) in
      record { p' = i.p'; test = i.test; state_is = i.state_is; events_are = ap (λ z. z ++ []) i.events_are }
  heads_of (of_then {r} {s} {d = x} {e = y} g h') p kk h k c fs m hs =
      let i = heads_of g p (λ p'. head_flow s p' kk) h k c fs m hs in
      let j = heads_of h' i.p' kk i.test k c fs m (hs ++ tokens x) in
      record {
        p' = j.p';
        test = j.test;
        state_is = after_append _ (tokens x) (tokens y) ∙ ap (λ z. after z (tokens y)) i.state_is ∙ j.state_is ∙ ap (λ z. state k c fs (heading m j.p' z)) (append_assoc hs (tokens x) (tokens y));
        events_are = events_append _ (tokens x) (tokens y) ∙ ap (λ z. z ++ events (after (state k c fs (heading m p hs)) (tokens x)) (tokens y)) i.events_are ∙ ap (λ z. to k (tokens x) ++ events z (tokens y)) i.state_is ∙ ap (λ z. to k (tokens x) ++ z) j.events_are ∙ sym (to_append k (tokens x) (tokens y));
      }
  heads_of (of_left g) p kk h k c fs m hs = heads_of g p kk (and_l _ _ h) k c fs m hs
  heads_of (of_right {r} g) p kk h k c fs m hs = heads_of g p kk (and_r (head_flow r p kk) _ h) k c fs m hs
  heads_of (of_last {r}) p kk h k c fs m hs = record { p' = p; test = and_r (head_flow r p (λ p'. p' == p)) _ h; state_is = ap (λ z. state k c fs (heading m p z)) (sym (append-nil hs)); events_are = refl }
  heads_of (of_more {r} {d = x} {ds = xs} g h') p kk h k c fs m hs =
      let i = heads_of g p (λ p'. p' == p) (and_l _ _ h) k c fs m hs in
      let j = heads_of h' p kk h k c fs m (hs ++ tokens x) in
      let at_p = i.state_is ∙ ap (λ z. state k c fs (heading m z (hs ++ tokens x))) (eqb-true i.p' p i.test) in
      record {
        p' = j.p';
        test = j.test;
        state_is = after_append _ (tokens x) (tokens xs) ∙ ap (λ z. after z (tokens xs)) at_p ∙ j.state_is ∙ ap (λ z. state k c fs (heading m j.p' z)) (append_assoc hs (tokens x) (tokens xs));
        events_are = events_append _ (tokens x) (tokens xs) ∙ ap (λ z. z ++ events (after (state k c fs (heading m p hs)) (tokens x)) (tokens xs)) i.events_are ∙ ap (λ z. to k (tokens x) ++ events z (tokens xs)) at_p ∙ ap (λ z. to k (tokens x) ++ z) j.events_are ∙ sym (to_append k (tokens x) (tokens xs));
      }
  heads_of (of_deep g) p kk h k c fs m hs = absurd (true≢false (sym h))
  heads_of (of_sub g) p kk h k c fs m hs = absurd (true≢false (sym h))

  pub plain_sends : {r : Rule} {x : Tree Token} → Derives (grammar_of G) r x → plain r ≡ true → (k c : ℕ) → (sends k c x ≡ to k (tokens x)) × (streams_after c x ≡ c)
  plain_sends of_empty h k c = (refl, refl)
  plain_sends (of_token g) h k c = (refl, refl)
  plain_sends (of_then {r} {s} {d = x} {e = y} g h') h k c =
      let i = plain_sends g (and_l _ _ h) k c in let j = plain_sends h' (and_r (plain r) _ h) k c in
      (ap (λ z. z ++ sends k (streams_after c x) y) i.0 ∙ ap (λ z. to k (tokens x) ++ sends k z y) i.1 ∙ ap (λ z. to k (tokens x) ++ z) j.0 ∙ sym (to_append k (tokens x) (tokens y)), ap (λ z. streams_after z y) i.1 ∙ j.1)
  plain_sends (of_left g) h k c = plain_sends g (and_l _ _ h) k c
  plain_sends (of_right {r} g) h k c = plain_sends g (and_r (plain r) _ h) k c
  plain_sends of_last h k c = (refl, refl)
  plain_sends (of_more {r} {d = x} {ds = xs} g h') h k c =
      let i = plain_sends g h k c in let j = plain_sends h' h k c in
      (ap (λ z. z ++ sends k (streams_after c x) xs) i.0 ∙ ap (λ z. to k (tokens x) ++ sends k z xs) i.1 ∙ ap (λ z. to k (tokens x) ++ z) j.0 ∙ sym (to_append k (tokens x) (tokens xs)), ap (λ z. streams_after z xs) i.1 ∙ j.1)
  plain_sends (of_deep g) h k c = (refl, refl)
  plain_sends (of_sub g) h k c = absurd (true≢false (sym h))

module _ (G : Cuttable) where
  pub plain_own : {r : Rule} {x : Tree Token} → Derives (grammar_of G) r x → plain r ≡ true → (c : ℕ) → tokens (own c x) ≡ tokens x
  plain_own of_empty h c = refl
  plain_own (of_token g) h c = refl
  plain_own (of_then {r = r} {d = x} {e = y} g g') h c = ap (λ z. z ++ tokens (own (streams_after c x) y)) (plain_own g (and_l _ _ h) c) ∙ ap (λ z. tokens x ++ z) (plain_own g' (and_r (plain r) _ h) (streams_after c x))
  plain_own (of_left g) h c = plain_own g (and_l _ _ h) c
  plain_own (of_right {r = r} g) h c = plain_own g (and_r (plain r) _ h) c
  plain_own of_last h c = refl
  plain_own (of_more {d = x} {ds = y} g g') h c = ap (λ z. z ++ tokens (own (streams_after c x) y)) (plain_own g h c) ∙ ap (λ z. tokens x ++ z) (plain_own g' h (streams_after c x))
  plain_own (of_deep g) h c = refl
  plain_own (of_sub g) h c = absurd (true≢false (sym h))

-- how a kind is seen
pub is_word : sort_of_number 1 ≡ Word
unfolding sort_of_number
is_word = refl

pub is_procedure : sort_of_number 37 ≡ Procedure
unfolding sort_of_number
is_procedure = refl

pub is_closer : sort_of_number 21 ≡ Closer
unfolding sort_of_number
is_closer = refl

pub is_semi : sort_of_number 57 ≡ Semicolon
unfolding sort_of_number
is_semi = refl

pub is_stop : sort_of_number 0 ≡ Stop
unfolding sort_of_number
is_stop = refl

-- along xs the cut goes from s to s' and sends es
pub record Runs (s : State) (xs : List Token) (s' : State) (es : List Event) : Type 0 where
  pub state_is : after s xs ≡ s'
  pub events_are : events s xs ≡ es

pub runs_then : {s s1 s2 : State} {xs ys : List Token} {es fs : List Event} → Runs s xs s1 es → Runs s1 ys s2 fs → Runs s (xs ++ ys) s2 (es ++ fs)
runs_then {s} {s1} {s2} {xs} {ys} {es} {fs} a b = record {
  state_is = after_append s xs ys ∙ ap (λ z. after z ys) a.state_is ∙ b.state_is;
  events_are = events_append s xs ys ∙ ap (λ z. z ++ events (after s xs) ys) a.events_are ∙ ap (λ z. es ++ events z ys) a.state_is ∙ ap (λ z. es ++ z) b.events_are;
}

pub runs_one : (s : State) (t : Token) (n : ℕ) (z : Sort) {s' : State} {es : List Event} → member (kind_number t.kind) (n ∷ []) ≡ true → sort_of_number n ≡ z → next_by s t z ≡ s' → goes_by s t z ≡ es → Runs s (t ∷ []) s' es
runs_one s t n z {s'} {es} m e f g =
    let is : sort t.kind ≡ z = sym (sort_is t.kind) ∙ ap sort_of_number (one_is (kind_number t.kind) n m) ∙ e in
    record { state_is = ap (λ q. next_by s t q) is ∙ f; events_are = ap (λ q. goes_by s t q ++ []) is ∙ ap (λ q. q ++ []) g ∙ append-nil es }

-- a sentence of a rule, its tokens and the test at its end
pub record Flows (m : Mode) (kk : ℕ → Bool → Bool) (k c : ℕ) (fs : List (ℕ × Mode)) (p : Phase) (x : Tree Token) : Type 0 where
  pub d' : ℕ
  pub s' : Bool
  pub p' : Phase
  pub test : kk d' s' ≡ true
  pub fits : Fits m d' s' p'
  pub runs : Runs (state k c fs p) (tokens x) (state k (streams_after c x) fs p') (sends k c x)

pub fits_more : {m : Mode} {d : ℕ} {p : Phase} (s s' : Bool) → no_more s s' ≡ true → Fits m d s' p → Fits m d s p
fits_more s s' h fits_amid = fits_amid
fits_more true _ h fits_seen = fits_seen
fits_more false _ h fits_seen = absurd (true≢false (sym h))

pub fits_wider : {m : Mode} {d : ℕ} {p : Phase} (s b : Bool) → Fits m d s p → Fits m d (s || not b) p
fits_wider s b fits_amid = fits_amid
fits_wider true b fits_seen = fits_seen

fits_any : {m : Mode} {d : ℕ} {s : Bool} {p : Phase} → Fits m d s p → Fits m d true p
fits_any fits_amid = fits_amid
fits_any fits_seen = fits_seen

pub fits_deeper : {m : Mode} {d : ℕ} {s : Bool} {p : Phase} → Fits (raise d m) zero s p → Fits m d true p
fits_deeper fits_amid = fits_amid
fits_deeper fits_seen = fits_seen

pub fits_low : {m : Mode} {d : ℕ} {p : Phase} (s : Bool) → not s ≡ true → Fits m d s p → Fits (raise d m) zero false p
fits_low true e f = absurd (true≢false (sym e))
fits_low false e fits_amid = fits_amid

-- any token but a Stop in a phase that fits
pub seen_procedure : {m : Mode} {d : ℕ} {s : Bool} {p : Phase} (k c : ℕ) (fs : List (ℕ × Mode)) (t : Token) → Fits m d s p → (next_by (state k c fs p) t Procedure ≡ state k c fs (seen (raise d m) t)) × (goes_by (state k c fs p) t Procedure ≡ (k, t) ∷ [])
seen_procedure k c fs t fits_amid = (refl, refl)
seen_procedure k c fs t fits_seen = (refl, refl)

pub seen_closer : {s : Bool} {p : Phase} (k c : ℕ) (fs : List (ℕ × Mode)) (t : Token) → Fits (Body 0) zero s p → (next_by (state k c fs p) t Closer ≡ state k c fs two_left) × (goes_by (state k c fs p) t Closer ≡ (k, t) ∷ [])
seen_closer k c fs t fits_amid = (refl, refl)
seen_closer k c fs t fits_seen = (refl, refl)

module _ (G : Cuttable) where
  pub flows : {r : Rule} {x : Tree Token} → Derives (grammar_of G) r x → (top : Bool) (m : Mode) (d : ℕ) (s : Bool) (kk : ℕ → Bool → Bool) (k c : ℕ) (fs : List (ℕ × Mode)) (p : Phase) → flow top r d s kk ≡ true → Fits m d s p → Tops top m → Flows m kk k c fs p x
  flows of_empty top m d s kk k c fs p h f o = record { d' = d; s' = s; p' = p; test = h; fits = f; runs = record { state_is = refl; events_are = refl } }
  flows (of_token {ks} {t} g) top m d s kk k c fs p h f o =
      let i = steps top m d s kk k c fs p t (sort t.kind) (subst (λ z. step top z d s kk ≡ true) (sort_is t.kind) (every_mem (λ x. step top (sort_of_number x) d s kk) (kind_number t.kind) ks h g)) f o in
      record { d' = i.d'; s' = i.s'; p' = i.p'; test = i.test; fits = i.fits; runs = record { state_is = i.state_is; events_are = ap (λ z. z ++ []) i.events_are } }
  flows (of_then {r = q} {s = r} {d = x} {e = y} g g') top m d s kk k c fs p h f o =
      let i = flows g top m d s (λ d' s'. flow top r d' s' kk) k c fs p h f o in
      let j = flows g' top m i.d' i.s' kk k (streams_after c x) fs i.p' i.test i.fits o in
      record { d' = j.d'; s' = j.s'; p' = j.p'; test = j.test; fits = j.fits; runs = runs_then i.runs j.runs }
  flows (of_left g) top m d s kk k c fs p h f o =
      let i = flows g top m d s kk k c fs p (and_l _ _ h) f o in
      record { d' = i.d'; s' = i.s'; p' = i.p'; test = i.test; fits = i.fits; runs = record { state_is = i.runs.state_is; events_are = i.runs.events_are } }
  flows (of_right {r = q} g) top m d s kk k c fs p h f o =
      let i = flows g top m d s kk k c fs p (and_r (flow top q d s kk) _ h) f o in
      record { d' = i.d'; s' = i.s'; p' = i.p'; test = i.test; fits = i.fits; runs = record { state_is = i.runs.state_is; events_are = i.runs.events_are } }
  flows (of_last {r}) top m d s kk k c fs p h f o =
      let stay : Bool → Bool = λ z. flow top r d z (λ d' s'. (d' == d) && no_more z s') in
      record { d' = d; s' = s || not (stay s); p' = p; test = and_r (stay (s || not (stay s))) _ h; fits = fits_wider s (stay s) f; runs = record { state_is = refl; events_are = refl } }
  flows (of_more {r} {d = x} {ds = xs} g g') top m d s kk k c fs p h f o =
      let stay : Bool → Bool = λ z. flow top r d z (λ d' s'. (d' == d) && no_more z s') in
      let z = s || not (stay s) in
      let i = flows g top m d z (λ d' s'. (d' == d) && no_more z s') k c fs p (and_l _ _ h) (fits_wider s (stay s) f) o in
      let f' = fits_more z i.s' (and_r (i.d' == d) _ i.test) (subst (λ y. Fits m y i.s' i.p') (eqb-true i.d' d (and_l _ _ i.test)) i.fits) in
      let j = flows g' top m d z kk k (streams_after c x) fs i.p' (again_stay stay (λ y. kk d y) z (and_l _ _ h) (and_r (stay z) _ h)) f' o in
      record { d' = j.d'; s' = j.s'; p' = j.p'; test = j.test; fits = j.fits; runs = runs_then i.runs j.runs }
  flows (of_deep {n = zero} g) top m d s kk k c fs p h f o = absurd (true≢false (sym h))
  flows (of_deep {n = suc n} {d = x} g) top m d s kk k c fs p h f o =
      let i = flows g false (raise d m) 0 false (λ d s. d == 0) k c fs p (G.levels n) (fits_low s (and_l (not s) _ h) f) (λ e. absurd (true≢false (sym e))) in
      let e = plain_sends G g (G.plains n) k c in
      let same : i.d' ≡ 0 = eqb-true i.d' 0 i.test in
      record {
        d' = d;
        s' = true;
        p' = i.p';
        test = and_r (not s) _ h;
        fits = fits_deeper (subst (λ z. Fits (raise d m) z i.s' i.p') same i.fits);
        runs = record { state_is = i.runs.state_is ∙ ap (λ z. state k z fs i.p') e.1; events_are = i.runs.events_are ∙ e.0 };
      }
  flows (of_sub (of_then (of_then (of_token {t = t0} g0) (of_then {e = hm} (of_token {t = t1} g1) gm)) (of_then (of_token {t = ts} gs) (of_then (of_then {d = x} gx (of_then {d = y} gy (of_then (of_token {t = te} ge) (of_token {t = ti} gi)))) (of_token {t = tl} gl))))) top m d s kk k c fs p h f o =
      let mm = raise d m in
      let a0 = seen_procedure k c fs t0 f in
      let r0 = runs_one (state k c fs p) t0 37 Procedure g0 is_procedure a0.0 a0.1 in
      let r1 = runs_one (state k c fs (seen mm t0)) t1 1 Word g1 is_word refl refl in
      let i = heads_of G gm 0 (λ p. p == 0) G.heads k c fs mm (t0 ∷ t1 ∷ []) in
      let rm : Runs (state k c fs (heading mm 0 (t0 ∷ t1 ∷ []))) (tokens hm) (state k c fs (heading mm 0 (t0 ∷ t1 ∷ tokens hm))) (to k (tokens hm)) =
      record { state_is = i.state_is ∙ ap (λ z. state k c fs (heading mm z (t0 ∷ t1 ∷ tokens hm))) (eqb-true i.p' 0 i.test); events_are = i.events_are } in
      let rs = runs_one (state k c fs (heading mm 0 (t0 ∷ t1 ∷ tokens hm))) ts 57 Semicolon gs is_semi refl refl in
      let fs' : List (ℕ × Mode) = (k, mm) ∷ fs in
      let no : false ≡ true → Body 0 ≡ Free = λ e. absurd (true≢false (sym e)) in
      let j1 = flows gx false (Body 0) 0 false (λ d' s'. flow false G.body d' s' (λ d s. d == 0)) c (suc c) fs' (amid (Body 0)) G.insides fits_amid no in
      let c1 = streams_after (suc c) x in
      let j2 = flows gy false (Body 0) j1.d' j1.s' (λ d s. d == 0) c c1 fs' j1.p' j1.test j1.fits no in
      let c2 = streams_after c1 y in
      let fe = subst (λ z. Fits (Body 0) z j2.s' j2.p') (eqb-true j2.d' 0 j2.test) j2.fits in
      let ae = seen_closer c c2 fs' te fe in
      let re = runs_one (state c c2 fs' j2.p') te 21 Closer ge is_closer ae.0 ae.1 in
      let ri = runs_one (state c c2 fs' two_left) ti 1 Word gi is_word refl refl in
      let rl = runs_one (state c c2 fs' one_left) tl 57 Semicolon gl is_semi refl refl in
      record {
        d' = d;
        s' = false;
        p' = amid mm;
        test = h;
        fits = fits_amid;
        runs = runs_then (runs_then r0 (runs_then r1 rm)) (runs_then rs (runs_then (runs_then j1.runs (runs_then j2.runs (runs_then re ri))) rl));
      }
