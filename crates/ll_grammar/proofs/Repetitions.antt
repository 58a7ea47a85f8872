-- Reading again and again is what the grammar says of { .. }.
use Rattle.std.proofs.Common.{◌≡◌, ℕ, zero, suc, ◌≤◌, Bool, true, false, List, [], ◌∷◌, ◌++◌, Result, Ok, Err, Some, None, refl, sym, ap, ◌∙◌, subst, append_assoc, arith, length, cond}
use Rattle.std.specs.Prelude.{◌==◌}
use Rattle.ll_grammar.specs.Grammar.{Rule, list, then, many, one, Grammar}
use Rattle.ll_grammar.specs.Derivations.{Tree, both, last, more, tokens, Derives}
use Rattle.ll_grammar.specs.LookAhead.{nullable, starts, first, IsLL1}
use Rattle.ll_grammar.specs.Sentences.{Fault}
use Rattle.ll_grammar.specs.Reading.{Accepts, accept_last, accept_more, refuse_many, refuse_more}
use Rattle.ll_grammar.specs.Readers.{◌>>=◌, Reader, next_is, behind, expect, repeat, separated, listed}
use Rattle.ll_grammar.proofs.Soundness.{accepts_derives}
use Rattle.ll_grammar.proofs.FirstTokens.{rest_shorter}
use Rattle.ll_grammar.proofs.Link.{Accepted, seq_at, final, Outcome, Reads, IsAt, seq, a_kind, next_starts}

-- What a repetition is about: a right side r, read by `item` where `begins` says so, and what that says of the values.
module _ {T F X Y : Type 0} (g : Grammar T) (tell : Fault → List T → F) (n : ℕ) (r : Rule) (P : Tree T → X → List T → Type 0)
    (Q : Tree T → List Y → List T → Type 0) (begins : List T → Bool) (item : Reader T F X) (parts : X → List Y) where
  -- no value of no items, and the values of one more item
  abbrev pub NoneHolds : Type 0
  NoneHolds = (w : List T) → Q last [] w

  abbrev pub MoreHolds : Type 0
  MoreHolds =
      (d : Tree T) (x : X) (ds : Tree T) (ys : List Y) (w : List T) → Derives g r d → P d x (tokens ds ++ w) → Q ds ys w
      → Q (more d ds) (parts x ++ ys) w

  module _ (ok : IsLL1 g) (solid : nullable r ≡ false) (test : (ts : List T) → begins ts ≡ starts g (first g r) ts)
      (reads : (ts : List T) → Reads g tell r P n ts (item ts)) (nil : NoneHolds) (cons : MoreHolds) where
    on_more : (ts : List T) → starts g (first g r) ts ≡ true → (x : X × List T) → Accepted g tell r P n ts x
        → (o : Result (List Y × List T) F) → Outcome g tell (many r) Q n x.1 o
        → Outcome g tell (many r) Q n ts (o >>= λ ys. Ok (parts x.0 ++ ys.0, ys.1))
    on_more ts h x p (Ok ys) q = record {
      tree = more p.tree q.tree;
      by =
          accept_more (subst (λ w. starts g (first g r) w ≡ true) (p.is ∙ ap (λ w. tokens p.tree ++ w) q.is) h) (subst (Accepts g n r p.tree) q.is p.by) q.by;
      is = p.is ∙ ap (λ w. tokens p.tree ++ w) q.is ∙ sym (append_assoc (tokens p.tree) (tokens q.tree) ys.1);
      says = cons p.tree x.0 q.tree ys.0 ys.1 (accepts_derives g p.by) (subst (P p.tree x.0) q.is p.says) q.says;
    }
    on_more ts h x p (Err e) q = record {
      fault = q.fault;
      before = tokens p.tree ++ q.before;
      rest = q.rest;
      by =
          refuse_more (subst (λ w. starts g (first g r) w ≡ true) (p.is ∙ ap (λ w. tokens p.tree ++ w) q.is) h) (subst (Accepts g n r p.tree) q.is p.by) q.by;
      is = p.is ∙ ap (λ w. tokens p.tree ++ w) q.is ∙ sym (append_assoc (tokens p.tree) q.before q.rest);
      told = q.told;
    }

    on_item : (ts : List T) (k : ℕ) → starts g (first g r) ts ≡ true
        → ((x : X × List T) → Accepted g tell r P n ts x → Outcome g tell (many r) Q n x.1 (repeat begins item parts k x.1))
        → (o : Result (X × List T) F) → Outcome g tell r P n ts o
        → Outcome g tell (many r) Q n ts (o >>= λ x. repeat begins item parts k x.1 >>= λ ys. Ok (parts x.0 ++ ys.0, ys.1))
    on_item ts k h go (Ok x) p = on_more ts h x p (repeat begins item parts k x.1) (go x p)
    on_item ts k h go (Err e) p =
        record { fault = p.fault; before = p.before; rest = p.rest; by = refuse_many (subst (λ w. starts g (first g r) w ≡ true) p.is h) p.by; is = p.is; told = p.told }

    no_more : (ts : List T) → starts g (first g r) ts ≡ false → Outcome g tell (many r) Q n ts (Ok ([], ts))
    no_more ts h = record { tree = last; by = accept_last h; is = refl; says = nil ts }

    on_test : (ts : List T) (k : ℕ) (b : Bool) → starts g (first g r) ts ≡ b
        → ((x : X × List T) → Accepted g tell r P n ts x → Outcome g tell (many r) Q n x.1 (repeat begins item parts k x.1))
        → Outcome g tell (many r) Q n ts (cond b (item ts >>= λ x. repeat begins item parts k x.1 >>= λ ys. Ok (parts x.0 ++ ys.0, ys.1)) (Ok ([], ts)))
    on_test ts k true h go = on_item ts k h go (item ts) (reads ts).outcome
    on_test ts k false h go = no_more ts h

    fewer : (ts : List T) (k : ℕ) → length ts ≤ suc k → (x : X × List T) → Accepted g tell r P n ts x → length x.1 ≤ k
    fewer ts k h x p = let l = rest_shorter g ok (accepts_derives g p.by) solid ts x.1 p.is in omega (arith, l, h)

    on_length : (k : ℕ) (ts : List T) → length ts ≤ k → Outcome g tell (many r) Q n ts (repeat begins item parts k ts)
    unfolding repeat starts
    on_length zero [] h = no_more [] refl
    on_length zero (t ∷ ts) h = absurd (omega arith)
    on_length (suc k) ts h = on_test ts k (begins ts) (sym (test ts)) (λ x p. on_length k x.1 (fewer ts k h x p))

    -- { r }
    pub repeated : (ts : List T) → Reads g tell (many r) Q n ts (repeat begins item parts (length ts) ts)
    repeated ts = record { outcome = on_length (length ts) ts (omega arith) }

-- What an item behind a token says is what the item says.
abbrev pub Behind : {T X : Type 0} → (Tree T → X → List T → Type 0) → Tree T → X → List T → Type 0
Behind P (both s d) x w = P d x w
Behind P _ x w = ⊥

module _ {T F X Y : Type 0} (g : Grammar T) (tell : Fault → List T → F) (k : ℕ) (item : Reader T F X) (parts : X → List Y) where
  -- a token of kind k, and then an item
  abbrev pub with_token : Reader T F X
  with_token ts = expect tell g.kind k ts >>= λ s. item s.1

  -- one item before others
  abbrev add : X → Result (List Y × List T) F → Result (List Y × List T) F
  add x o = o >>= λ ys. Ok (parts x ++ ys.0, ys.1)

  abbrev none : List T → Result (List Y × List T) F
  none ts = Ok ([], ts)

  abbrev taken : T → List T → Bool → Result (T × List T) F
  taken t ts b = cond b (Ok (t, ts)) (Err (tell Fault.Syntax (t ∷ ts)))

  on_items : (o : Result (X × List T) F) (p q : List T → Result (List Y × List T) F) → ((ts : List T) → p ts ≡ q ts)
      → (o >>= λ x. add x.0 (p x.1)) ≡ (o >>= λ x. add x.0 (q x.1))
  on_items (Ok x) p q h = ap (add x.0) (h x.1)
  on_items (Err e) p q h = refl

  on_skip : (t : T) (ts : List T) (b : Bool) (p q : List T → Result (List Y × List T) F) → ((ts : List T) → p ts ≡ q ts)
      → behind (cond b (Some ts) None) (λ after. item after >>= λ x. add x.0 (p x.1)) (none (t ∷ ts))
      ≡ cond b ((taken t ts b >>= λ s. item s.1) >>= λ x. add x.0 (q x.1)) (none (t ∷ ts))
  on_skip t ts true p q h = on_items (item ts) p q h
  on_skip t ts false p q h = refl

  separated_is : (n : ℕ) (ts : List T) → separated g.kind k item parts n ts ≡ repeat (next_is g.kind k) with_token parts n ts
  unfolding separated repeat
  separated_is zero ts = refl
  separated_is (suc n) [] = refl
  separated_is (suc n) (t ∷ ts) =
      on_skip t ts (g.kind t == k) (λ w. separated g.kind k item parts n w) (λ w. repeat (next_is g.kind k) with_token parts n w) (λ w. separated_is n w)

module _ {T F X Y : Type 0} {g : Grammar T} {tell : Fault → List T → F} where
  -- { r }, where the values are a function of the derivation
  pub loop : {n : ℕ} {r : Rule} {value : Tree T → List T → X} {begins : List T → Bool} {item : Reader T F X} (ok : IsLL1 g) (values : Tree T → List T → List Y) (parts : X → List Y)
      → nullable r ≡ false → ((ts : List T) → begins ts ≡ starts g (first g r) ts)
      → ((w : List T) → values last w ≡ []) → ((d ds : Tree T) (w : List T) → Derives g r d → values (more d ds) w ≡ parts (value d (tokens ds ++ w)) ++ values ds w)
      → ((ts : List T) → Reads g tell r (IsAt value) n ts (item ts))
      → (ts : List T) → Reads g tell (many r) (IsAt values) n ts (repeat begins item parts (length ts) ts)
  loop {n} {r} {value} {begins} {item} ok values parts solid test nil cons reads ts =
      repeated g tell n r (IsAt value) (IsAt values) begins item parts ok solid test reads nil
      (λ d x ds ys w k p q. cons d ds w k ∙ (λ i. parts (p i) ++ q i)) ts

  -- { k r }, where the values are a function of the derivation
  pub list_loop : {n : ℕ} {r : Rule} {value : Tree T → List T → X} {item : Reader T F X} (ok : IsLL1 g) (k : ℕ) (values : Tree T → List T → List Y) (parts : X → List Y)
      → ((w : List T) → values last w ≡ []) → ((s d ds : Tree T) (w : List T) → values (more (both s d) ds) w ≡ parts (value d (tokens ds ++ w)) ++ values ds w)
      → ((ts : List T) → Reads g tell r (IsAt value) n ts (item ts))
      → (ts : List T) → Reads g tell (many (then (one k) r)) (IsAt values) n ts (separated g.kind k item parts (length ts) ts)
  list_loop {n} {r} {value} {item} ok k values parts nil cons reads ts =
      subst (Reads g tell (many (then (one k) r)) (IsAt values) n ts) (sym (separated_is g tell k item parts (length ts) ts))
      (repeated g tell n (then (one k) r) (Behind (IsAt value)) (IsAt values) (next_is g.kind k) (with_token g tell k item parts) parts ok refl (next_starts g k)
      (λ ts. seq (a_kind k ts) (λ s d e. reads s.1)) nil on_more_values ts)
    where
      on_more_values : (d : Tree T) (x : X) (ds : Tree T) (ys : List Y) (w : List T) → Derives g (then (one k) r) d
          → Behind (IsAt value) d x (tokens ds ++ w) → values ds w ≡ ys → values (more d ds) w ≡ parts x ++ ys
      on_more_values (both s d) x ds ys w h p q = cons s d ds w ∙ (λ i. parts (p i) ++ q i)
      on_more_values _ x ds ys w h p q = absurd p

  -- r { k r }, where the values are a function of the derivation
  pub list_read : {n : ℕ} {r : Rule} {value : Tree T → List T → X} {item : Reader T F X} (ok : IsLL1 g) (k : ℕ) (values more_values : Tree T → List T → List Y) (parts : X → List Y)
      → ((w : List T) → more_values last w ≡ []) → ((s d ds : Tree T) (w : List T) → more_values (more (both s d) ds) w ≡ parts (value d (tokens ds ++ w)) ++ more_values ds w)
      → ((d ds : Tree T) (w : List T) → values (both d ds) w ≡ parts (value d (tokens ds ++ w)) ++ more_values ds w)
      → ((ts : List T) → Reads g tell r (IsAt value) n ts (item ts))
      → (ts : List T) → Reads g tell (list r k) (IsAt values) n ts (listed g.kind k item parts ts)
  list_read {value = value} ok k values more_values parts nil cons whole reads ts =
      seq_at (reads ts) (λ x d h.
      final (λ ys. parts x.0 ++ ys.0) (list_loop ok k more_values parts nil cons reads x.1) (λ ys ds j is.
      whole d ds ys.1 ∙ (λ i. parts ((ap (value d) (sym is) ∙ h) i) ++ j i)))
