-- A part of a right side may be bracketed from the left or from the right.
use Rattle.std.proofs.Common.{◌≡◌, ℕ, List, [], ◌∷◌, ◌++◌, refl, sym, ap, ◌∙◌, subst, append_assoc, inl, inr, Option, Some, None}
use Rattle.ll_grammar.specs.Grammar.{Rule, then, Grammar}
use Rattle.ll_grammar.specs.Derivations.{Tree, both, tokens, Derives, of_then, over, first_of}
use Rattle.ll_grammar.specs.Sentences.{Fault, Syntax, TooDeep, Begins, Kept, Refusal, Faulty}

-- these right sides, and e behind them
abbrev pub chain : List Rule → Rule → Rule
chain [] e = e
chain (r ∷ rs) e = then r (chain rs e)

module _ {T : Type 0} where
  first_assoc : (u v : List T) (a b c : Option (List T)) → first_of (u ++ v) (first_of u a b) c ≡ first_of u a (first_of v b c)
  first_assoc u v (Some x) b c = refl
  first_assoc u v None (Some x) c = refl
  first_assoc u v None None None = refl
  first_assoc u v None None (Some x) = ap Some (append_assoc u v x)

module _ {T : Type 0} (g : Grammar T) where
  -- a derivation with the same tokens, which are nested as deep
  pub record Alike (r : Rule) (d : Tree T) : Type 0 where
    pub tree : Tree T
    pub derives : Derives g r tree
    pub spells : tokens tree ≡ tokens d
    pub depth : (n : ℕ) → over n tree ≡ over n d

  -- each derivation of r is alike one of s
  abbrev pub Covers : Rule → Rule → Type 0
  Covers r s = (d : Tree T) → Derives g r d → Alike s d

  pub inward : (rs : List Rule) (q e : Rule) → Covers (then (chain rs q) e) (chain rs (then q e))
  inward rs q e _ (of_then {d = d} {e = y} h k) = on rs h
    where
      on : (rs : List Rule) {d : Tree T} → Derives g (chain rs q) d → Alike (chain rs (then q e)) (both d y)
      on [] {d} h = record { tree = both d y; derives = of_then h k; spells = refl; depth = λ n. refl }
      on (r ∷ rs) (of_then {d = a} {e = d} i h) =
          let j = on rs h in
          record {
            tree = both a j.tree;
            derives = of_then i j.derives;
            spells = ap (λ z. tokens a ++ z) j.spells ∙ sym (append_assoc (tokens a) (tokens d) (tokens y));
            depth = λ n. ap (first_of (tokens a) (over n a)) (j.depth n) ∙ sym (first_assoc (tokens a) (tokens d) (over n a) (over n d) (over n y));
          }

  add_front : {r q e : Rule} {a d : Tree T} → Derives g r a → Alike (then q e) d → Alike (then (then r q) e) (both a d)
  add_front {r} {q} {e} {a} {d} i j = on j.tree j.derives j.spells j.depth
    where
      on : (t : Tree T) → Derives g (then q e) t → tokens t ≡ tokens d → ((n : ℕ) → over n t ≡ over n d) → Alike (then (then r q) e) (both a d)
      on _ (of_then {d = x} {e = y} h k) s o =
          record {
            tree = both (both a x) y;
            derives = of_then (of_then i h) k;
            spells = append_assoc (tokens a) (tokens x) (tokens y) ∙ ap (λ z. tokens a ++ z) s;
            depth = λ n. first_assoc (tokens a) (tokens x) (over n a) (over n x) (over n y) ∙ ap (first_of (tokens a) (over n a)) (o n);
          }

  pub outward : (rs : List Rule) (q e : Rule) → Covers (chain rs (then q e)) (then (chain rs q) e)
  outward [] q e d h = record { tree = d; derives = h; spells = refl; depth = λ n. refl }
  outward (r ∷ rs) q e _ (of_then {d = a} {e = d} i h) = add_front i (outward rs q e d h)

  module _ (r s : Rule) (there : Covers r s) (back : Covers s r) (n : ℕ) where
    kept : (d e : Tree T) (u : List T) → over n e ≡ over n d → Kept n d u → Kept n e u
    kept d e u h (inl k) = inl (h ∙ k)
    kept d e u h (inr k) = inr (k.0, h ∙ k.1)

    -- what is a fault by the one is a fault by the other
    pub faulty_by : (f : Fault) (ts rest : List T) → Faulty g n r f ts rest → Faulty g n s f ts rest
    faulty_by f ts rest a = record {
      before = a.before;
      is = a.is;
      beginning =
          let b = a.beginning in
          let j = there b.tree b.derives in
          record { tree = j.tree; derives = j.derives; behind = b.behind; spells = j.spells ∙ b.spells; within = kept b.tree j.tree a.before (j.depth n) b.within };
      refusal = on f a.refusal;
    }
      where
        on : (f : Fault) → Refusal g n r f a.before rest → Refusal g n s f a.before rest
        on Syntax q = λ d k b. let j = back d k in q j.tree j.derives (subst (Begins a.before rest) (sym j.spells) b)
        on TooDeep q =
            let j = there q.tree q.derives in
            record {
              tree = j.tree;
              derives = j.derives;
              begins = subst (Begins a.before rest) (sym j.spells) q.begins;
              each = λ d k b. let i = back d k in sym (i.depth n) ∙ q.each i.tree i.derives (subst (Begins a.before rest) (sym i.spells) b);
            }
