-- Flowings one after another: what the walk over the trees of statements finds of a step, and what several make.
use Rattle.std.proofs.Common.{◌≡◌, ◌∙◌, ◌++◌, ◌∷◌, [], ℕ, ◌+◌, ◌<◌, ◌≤◌, List, length, take, Result, Ok, Err, ap, sym, subst}
use Rattle.std.specs.Prelude.{get_or}
use Rattle.std.proofs.lemmas.List.{take_all, take_more}
use Rattle.m2_base.specs.Asks.{IfKnown, IfWaits}
use Rattle.m2_base.specs.Gives.{Adds, Gives, and_then, gives}
use Rattle.m2_base.specs.States.{Frame, State, Waits, Works}
use Rattle.m2_base.specs.Statics.Contexts.{Context}
use Rattle.m2_base.specs.declared.memory.Memory.{Memory}
use Rattle.m2_base.specs.declared.notes.Notes.{Notes}
use Rattle.m2_base.specs.declared.replies.Ask.{Ask}
use Rattle.m2_base.specs.declared.replies.Ask.TheVariants.{DontKnowYet, Known}
use Rattle.m2_base.specs.declared.replies.Head.{Head}
use Rattle.m2_base.specs.declared.sites.Site.{Site}
use Rattle.m2_base.proofs.Kept.{Adds-and_then, Adds-refl, Waits_after, Works-refl, Works-trans}
use Rattle.type_rules.specs.Scenes.{Hand}
use Rattle.type_rules.specs.Sites.{AreOfSite, SuitsSite, context_of}
use Rattle.type_rules.proofs.Compatibles.{told_later}
use Rattle.const_eval.proofs.Folding.{folded, folded_more}
use Rattle.expr_sem.specs.Codings.{Coding}
use Rattle.expr_sem.specs.declared.fragments.Node.{Node}
use Rattle.expr_sem.specs.Fragments.{AreSound, Grows}
use Rattle.expr_sem.proofs.Sequencing.{Grows-refl, Grows-trans}
use Rattle.stmt_sem.specs.FlowTrees.{CellFlow, MadeBy, flow_in}
use Rattle.stmt_sem.specs.Flowings.{Flowing, IsFlow}
use Rattle.block_code.specs.Flows as flow
use Rattle.stmt_sem.specs.Stands.{IsStand}
use Rattle.stmt_sem.specs.Stated.{answer_of}
use Rattle.stmt_sem.specs.declared.flows.Flow.{Flow}
use Rattle.stmt_sem.specs.declared.stands.Stand.{Stand}

-- the same whatever the cell is
abbrev pub any_cell : {T V : Type 0} → (List Node → T → V) → List Node → T → (cell : ℕ) → V
any_cell as_p ns v cell = as_p ns v

-- code alone
pub of_coding : {T V : Type 0} {a b : State} {x y : Notes} {from to : List Node} {s : Site} {P : Frame → List Node → T → Type 0} {as_p : List Node → T → V} {g : Context → Gives V} (answer : Result (Ask T) Memory)
    → Coding a b x y from to s answer P as_p g → Flowing a b x y from to s answer P (any_cell as_p) g
of_coding (Ok (Known v)) p = record { works = p.works; waits = tt; grows = p.grows; told = λ made in_hand told of_site cell. p.told made in_hand told of_site; there = p.there }
of_coding (Ok (DontKnowYet h)) p = record { works = p.works; waits = p.waits; grows = p.grows; told = λ made in_hand told of_site. tt; there = tt }
of_coding (Err m) p = record { works = p.works; waits = tt; grows = p.grows; told = λ made in_hand told of_site. tt; there = tt }

module _ {T U V W : Type 0} {a b : State} {x y : Notes} {f1 f2 : List Node} {s : Site} {P : Frame → List Node → T → Type 0} {Q : Frame → List Node → U → Type 0} {as_p : List Node → T → (cell : ℕ) → V} {as_q : List Node → U → (cell : ℕ) → W} {g : Context → Gives V} {h : Context → Gives W} where
  -- after want of memory nothing more is said
  pub unmade : {m : Memory} → Flowing a b x y f1 f2 s (Err m) P as_p g → (n : Memory) → Flowing a b x y f1 f2 s (Err n) Q as_q h
  unmade p n = record { works = p.works; waits = tt; grows = p.grows; told = λ made in_hand told of_site. tt; there = tt }

  -- what isn't known yet of a part isn't known yet of the whole
  pub unknown : {head : Head} → Flowing a b x y f1 f2 s (Ok (DontKnowYet head)) P as_p g → Flowing a b x y f1 f2 s (Ok (DontKnowYet head)) Q as_q h
  unknown p = record { works = p.works; waits = p.waits; grows = p.grows; told = λ made in_hand told of_site. tt; there = tt }

  -- memory was wanted behind a known part
  pub full_after : {v : T} → Flowing a b x y f1 f2 s (Ok (Known v)) P as_p g → (n : Memory) → Flowing a b x y f1 f2 s (Err n) Q as_q h
  full_after p n = record { works = p.works; waits = tt; grows = p.grows; told = λ made in_hand told of_site. tt; there = tt }

module _ {T U V W : Type 0} {a b d : State} {x y z : Notes} {f1 f2 f3 : List Node} {s : Site} {P : Frame → List Node → T → Type 0} {Q : Frame → List Node → U → Type 0} {as_p : List Node → T → (cell : ℕ) → V} {as_q : List Node → U → (cell : ℕ) → W} {g : Context → Gives V} {h : Context → Gives W} {first : Result (Ask T) Memory} where
  -- after want of memory in a later step nothing more is said
  pub unmade_after : {m : Memory} {R X : Type 0} {S : Frame → List Node → R → Type 0} {as_r : List Node → R → (cell : ℕ) → X} {k : Context → Gives X} → Flowing a b x y f1 f2 s first P as_p g → Flowing b d y z f2 f3 s (Err m) Q as_q h → (n : Memory) → Flowing a d x z f1 f3 s (Err n) S as_r k
  unmade_after p q n = record { works = Works-trans p.works q.works; waits = tt; grows = Grows-trans p.grows q.grows; told = λ made in_hand told of_site. tt; there = tt }

  -- memory was wanted behind a known later step
  pub full_after_both : {w : U} {R X : Type 0} {S : Frame → List Node → R → Type 0} {as_r : List Node → R → (cell : ℕ) → X} {k : Context → Gives X} → Flowing a b x y f1 f2 s first P as_p g → Flowing b d y z f2 f3 s (Ok (Known w)) Q as_q h → (n : Memory) → Flowing a d x z f1 f3 s (Err n) S as_r k
  full_after_both p q n = record { works = Works-trans p.works q.works; waits = tt; grows = Grows-trans p.grows q.grows; told = λ made in_hand told of_site. tt; there = tt }

  -- what isn't known yet of a later step isn't known yet of the whole
  pub unknown_after : {head : Head} {R X : Type 0} {S : Frame → List Node → R → Type 0} {as_r : List Node → R → (cell : ℕ) → X} {k : Context → Gives X} → Flowing a b x y f1 f2 s first P as_p g → Flowing b d y z f2 f3 s (Ok (DontKnowYet head)) Q as_q h → Flowing a d x z f1 f3 s (Ok (DontKnowYet head)) S as_r k
  unknown_after p q =
      record { works = Works-trans p.works q.works; waits = Waits_after p.works.keeps q.waits; grows = Grows-trans p.grows q.grows; told = λ made in_hand told of_site. tt; there = tt }

module _ {T V : Type 0} {a b : State} {x y : Notes} {f1 f2 : List Node} {s : Site} {P : Frame → List Node → T → Type 0} {as_p : List Node → T → (cell : ℕ) → V} {g h : Context → Gives V} where
  -- the same, of another description
  pub described : (answer : Result (Ask T) Memory) → Flowing a b x y f1 f2 s answer P as_p g → ((c : Context) → g c ≡ h c) → Flowing a b x y f1 f2 s answer P as_p h
  described answer p e =
      record {
        works = p.works;
        waits = p.waits;
        grows = p.grows;
        told = λ made in_hand told of_site. subst (λ given. IfKnown answer (λ v. (cell : ℕ) → Adds x y given (as_p f2 v cell))) (e (context_of a.frame made s)) (p.told made in_hand told of_site);
        there = p.there;
      }

module _ {T V : Type 0} {a b : State} {x y : Notes} {f1 f2 : List Node} {s : Site} {P : Frame → List Node → T → Type 0} {as_p : List Node → T → (cell : ℕ) → V} {g : Context → Gives V} {answer : Result (Ask T) Memory} (p : Flowing a b x y f1 f2 s answer P as_p g) where
  -- what could stand before can stand after
  pub holds_after : (Q : Frame → Type 0) → Q a.frame → Q b.frame
  holds_after Q h = subst Q (sym p.works.keeps.frame) h

  pub suits_after : {t : Site} → SuitsSite a.frame t → SuitsSite b.frame t
  suits_after {t} h = holds_after (λ (f : Frame). SuitsSite f t) h

  pub stand_after : (t : Stand) → IsStand a.frame t → IsStand b.frame t
  stand_after t h = holds_after (λ (f : Frame). IsStand f t) h

  pub sound_after : AreSound f1 → AreSound f2
  sound_after h = p.grows.sound h

-- what may stand after a flowing: its value
pub stands_after : {T V : Type 0} {a b : State} {x y : Notes} {f1 f2 : List Node} {s : Site} {P : Frame → List Node → T → Type 0} {as_p : List Node → T → (cell : ℕ) → V} {g : Context → Gives V} {v : T} → Flowing a b x y f1 f2 s (Ok (Known v)) P as_p g → P b.frame f2 v
stands_after {T} {V} {a} {b} {x} {y} {f1} {f2} {s} {P} {as_p} {g} {v} p = subst (λ (f : Frame). P f f2 v) (sym p.works.keeps.frame) p.there

-- a value alone
pub value_alone : {T V : Type 0} (a : State) (n : Notes) (ns : List Node) (s : Site) (v : T) (P : Frame → List Node → T → Type 0) (as_p : List Node → T → (cell : ℕ) → V) (f : Context → V)
    → P a.frame ns v → ((c : Context) (cell : ℕ) → as_p ns v cell ≡ f c) → Flowing a a n n ns ns s (Ok (Known v)) P as_p (λ c. gives (f c))
value_alone a n ns s v P as_p f h e =
    record {
      works = Works-refl a n;
      waits = tt;
      grows = Grows-refl ns;
      told = λ made in_hand told of_site cell. subst (λ given. Adds n n (gives given) (as_p ns v cell)) (e (context_of a.frame made s) cell) (Adds-refl n (as_p ns v cell));
      there = h;
    }

-- a flow that is made
pub made_alone : (a : State) (n : Notes) {from to : List Node} (s : Site) (made : Result Flow Memory) {F : CellFlow} (f : Context → flow.Flow) → Grows from to → MadeBy to made F → ((c : Context) (cell : ℕ) → F cell ≡ f c)
    → Flowing a a n n from to s (answer_of made) IsFlow flow_in (λ c. gives (f c))
made_alone a n {from} {to} s (Ok w) f g m e =
    record {
      works = Works-refl a n;
      waits = tt;
      grows = g;
      told = λ made in_hand told of_site cell. subst (λ given. Adds n n (gives given) (flow_in to w cell)) (m.flow_is cell ∙ e (context_of a.frame made s) cell) (Adds-refl n (flow_in to w cell));
      there = m.there;
    }
made_alone a n s (Err k) f g m e = record { works = Works-refl a n; waits = tt; grows = g; told = λ made in_hand told of_site. tt; there = tt }

-- an answer that was given of a flow that is made
pub by_answer : {a b : State} {x y : Notes} {f1 f2 : List Node} {s : Site} {g : Context → Gives flow.Flow} (made : Result Flow Memory) (answer : Result (Ask Flow) Memory) → answer ≡ answer_of made
    → Flowing a b x y f1 f2 s (answer_of made) IsFlow flow_in g → Flowing a b x y f1 f2 s answer IsFlow flow_in g
by_answer {a} {b} {x} {y} {f1} {f2} {s} {g} made answer e p = subst (λ (r : Result (Ask Flow) Memory). Flowing a b x y f1 f2 s r IsFlow flow_in g) (sym e) p

waits_on : {U : Type 0} {a b : State} (d : State) {x y : Notes} (answer : Result (Ask U) Memory) → Works a b x y → IfWaits answer (λ head. Waits b d head) → IfWaits answer (λ head. Waits a d head)
waits_on d (Ok (Known v)) w h = tt
waits_on d (Ok (DontKnowYet head)) w h = Waits_after w.keeps h
waits_on d (Err m) w h = tt

module _ {T U V W : Type 0} {a b d : State} {x y z : Notes} {f1 f2 f3 : List Node} {s : Site} {P : Frame → List Node → T → Type 0} {Q : Frame → List Node → U → Type 0} {as_p : List Node → T → (cell : ℕ) → V} {as_q : List Node → U → (cell : ℕ) → W} (g : Context → Gives V) (h : V → Context → Gives W) where
  -- one flowing after another, where the second is the whole's
  pub flowing_after : {v : T} (answer : Result (Ask U) Memory) → Flowing a b x y f1 f2 s (Ok (Known v)) P as_p g → Flowing b d y z f2 f3 s answer Q as_q (h (as_p f2 v 0))
      → Flowing a d x z f1 f3 s answer Q as_q (λ c. and_then (g c) (λ u. h u c))
  flowing_after {v} answer p q =
      record {
        works = Works-trans p.works q.works;
        waits = waits_on d answer p.works q.waits;
        grows = Grows-trans p.grows q.grows;
        told = λ made in_hand told of_site. both made answer (p.told made in_hand told of_site 0)
            (told_later a.frame b.frame (λ f rows. AreOfSite s rows → IfKnown answer (λ w. (cell : ℕ) → Adds y z (h (as_p f2 v 0) (context_of f rows s)) (as_q f3 w cell))) p.works.keeps.frame q.told made in_hand told of_site);
        there = subst (λ (f : Frame). IfKnown answer (λ w. Q f f3 w)) p.works.keeps.frame q.there;
      }
    where
      both : (made : Hand) (answer : Result (Ask U) Memory) → Adds x y (g (context_of a.frame made s)) (as_p f2 v 0) → IfKnown answer (λ w. (cell : ℕ) → Adds y z (h (as_p f2 v 0) (context_of a.frame made s)) (as_q f3 w cell))
          → IfKnown answer (λ w. (cell : ℕ) → Adds x z (and_then (g (context_of a.frame made s)) (λ u. h u (context_of a.frame made s))) (as_q f3 w cell))
      both made (Ok (Known w)) p' q' = λ cell. Adds-and_then (g (context_of a.frame made s)) (λ u. h u (context_of a.frame made s)) p' (q' cell)
      both made (Ok (DontKnowYet head)) p' q' = tt
      both made (Err m) p' q' = tt

  -- a value that is made of two, one after the other
  pub value_after_both : {R X : Type 0} {v : T} {w : U} {f4 : List Node} {S : Frame → List Node → R → Type 0} {as_r : List Node → R → (cell : ℕ) → X} (k : V → W → X) (r : R)
      → Flowing a b x y f1 f2 s (Ok (Known v)) P as_p g → Flowing b d y z f2 f3 s (Ok (Known w)) Q as_q (h (as_p f2 v 0)) → Grows f3 f4 → S a.frame f4 r
      → ((u : V) (m : W) → ((cell : ℕ) → as_p f2 v cell ≡ u) → ((cell : ℕ) → as_q f3 w cell ≡ m) → (cell : ℕ) → as_r f4 r cell ≡ k u m)
      → Flowing a d x z f1 f4 s (Ok (Known r)) S as_r (λ c. and_then (g c) (λ u. and_then (h u c) (λ m. gives (k u m))))
  value_after_both {v = v} {w = w} {f4 = f4} {as_r = as_r} k r p q grows there e =
      record {
        works = Works-trans p.works q.works;
        waits = tt;
        grows = Grows-trans (Grows-trans p.grows q.grows) grows;
        told = λ made in_hand told of_site cell.
            let c = context_of a.frame made s in
            let u = as_p f2 v 0 in
            let m = as_q f3 w 0 in
            let t : (n : ℕ) → Adds x y (g c) (as_p f2 v n) = p.told made in_hand told of_site in
            let t' : (n : ℕ) → Adds y z (h u c) (as_q f3 w n) =
            told_later a.frame b.frame (λ f rows. AreOfSite s rows → (n : ℕ) → Adds y z (h u (context_of f rows s)) (as_q f3 w n)) p.works.keeps.frame q.told made in_hand told of_site in
            let same : as_r f4 r cell ≡ k u m = e u m (λ n. (t n).value_is ∙ sym (t 0).value_is) (λ n. (t' n).value_is ∙ sym (t' 0).value_is) cell in
            Adds-and_then (g c) (λ o. and_then (h o c) (λ i. gives (k o i))) (t 0)
            (Adds-and_then (h u c) (λ i. gives (k u i)) (t' 0) (subst (λ given. Adds z z (gives given) (as_r f4 r cell)) same (Adds-refl z (as_r f4 r cell))));
        there = there;
      }

  -- a flow that is made of two values, one after the other
  pub made_after_both : {v : T} {w : U} {F : CellFlow} (k : V → W → flow.Flow) (made : Result Flow Memory)
      → Flowing a b x y f1 f2 s (Ok (Known v)) P as_p g → Flowing b d y z f2 f3 s (Ok (Known w)) Q as_q (h (as_p f2 v 0)) → MadeBy f3 made F
      → ((u : V) (m : W) → ((cell : ℕ) → as_p f2 v cell ≡ u) → ((cell : ℕ) → as_q f3 w cell ≡ m) → (cell : ℕ) → F cell ≡ k u m)
      → Flowing a d x z f1 f3 s (answer_of made) IsFlow flow_in (λ c. and_then (g c) (λ u. and_then (h u c) (λ m. gives (k u m))))
  made_after_both k (Ok r) p q m e = value_after_both k r p q (Grows-refl f3) m.there (λ u i eu ei cell. m.flow_is cell ∙ e u i eu ei cell)
  made_after_both k (Err n) p q m e =
      record { works = Works-trans p.works q.works; waits = tt; grows = Grows-trans p.grows q.grows; told = λ made in_hand told of_site. tt; there = tt }

module _ {T V : Type 0} {a b : State} {x y : Notes} {f1 f2 : List Node} {s : Site} {P : Frame → List Node → T → Type 0} {as_p : List Node → T → (cell : ℕ) → V} (g : Context → Gives V) where
  -- a value that is made of one
  pub value_after : {U W : Type 0} {v : T} {f3 : List Node} {Q : Frame → List Node → U → Type 0} {as_q : List Node → U → (cell : ℕ) → W} (k : V → W) (w : U) → Flowing a b x y f1 f2 s (Ok (Known v)) P as_p g → Grows f2 f3 → Q a.frame f3 w
      → ((u : V) → ((cell : ℕ) → as_p f2 v cell ≡ u) → (cell : ℕ) → as_q f3 w cell ≡ k u)
      → Flowing a b x y f1 f3 s (Ok (Known w)) Q as_q (λ c. and_then (g c) (λ u. gives (k u)))
  value_after {v = v} {f3 = f3} {as_q = as_q} k w p grows there e =
      record {
        works = p.works;
        waits = tt;
        grows = Grows-trans p.grows grows;
        told = λ made in_hand told of_site cell.
            let c = context_of a.frame made s in
            let u = as_p f2 v 0 in
            let t : (n : ℕ) → Adds x y (g c) (as_p f2 v n) = p.told made in_hand told of_site in
            let same : as_q f3 w cell ≡ k u = e u (λ n. (t n).value_is ∙ sym (t 0).value_is) cell in
            Adds-and_then (g c) (λ o. gives (k o)) (t 0) (subst (λ given. Adds y y (gives given) (as_q f3 w cell)) same (Adds-refl y (as_q f3 w cell)));
        there = there;
      }

  -- a flow that is made of one
  pub made_after : {v : T} {F : CellFlow} (k : V → flow.Flow) (made : Result Flow Memory) → Flowing a b x y f1 f2 s (Ok (Known v)) P as_p g → MadeBy f2 made F
      → ((u : V) → ((cell : ℕ) → as_p f2 v cell ≡ u) → (cell : ℕ) → F cell ≡ k u)
      → Flowing a b x y f1 f2 s (answer_of made) IsFlow flow_in (λ c. and_then (g c) (λ u. gives (k u)))
  made_after k (Ok w) p m e = value_after k w p (Grows-refl f2) m.there (λ u eu cell. m.flow_is cell ∙ e u eu cell)
  made_after k (Err n) p m e = record { works = p.works; waits = tt; grows = p.grows; told = λ made in_hand told of_site. tt; there = tt }

-- ---- loops over parts of a list

-- one step of the loop
abbrev pub step : {A B C : Type 0} (h : Context → A → B → Gives C) (k : A → C → A) → Context → A → B → Gives A
step h k c a b = and_then (h c a b) (λ m. gives (k a m))

module _ {A B C T U : Type 0} {P : Frame → List Node → T → Type 0} {Q : Frame → List Node → U → Type 0} {as_p : List Node → T → (cell : ℕ) → A} {as_q : List Node → U → (cell : ℕ) → C} (h : Context → A → B → Gives C) (k : A → C → A) (first : A) (items : List B) (i : ℕ) where
  -- one more item
  pub one_more : {a b d : State} {x y z : Notes} {f1 f2 f3 : List Node} {s : Site} {v : T} {w : U} (r : T) (item : B) → i < length items → item ≡ get_or items i item
      → Flowing a b x y f1 f2 s (Ok (Known v)) P as_p (λ c. folded (step h k c) first (take i items)) → Flowing b d y z f2 f3 s (Ok (Known w)) Q as_q (λ c. h c (as_p f2 v 0) item) → P a.frame f3 r
      → ((u : A) (m : C) → ((cell : ℕ) → as_p f2 v cell ≡ u) → ((cell : ℕ) → as_q f3 w cell ≡ m) → (cell : ℕ) → as_p f3 r cell ≡ k u m)
      → Flowing a d x z f1 f3 s (Ok (Known r)) P as_p (λ c. folded (step h k c) first (take (i + 1) items))
  one_more {f3 = f3} r item l e p q there same =
      let longer : take i items ++ item ∷ [] ≡ take (i + 1) items = ap (λ (u : B). take i items ++ u ∷ []) e ∙ sym (take_more items i item l) in
      described (Ok (Known r)) (value_after_both (λ c. folded (step h k c) first (take i items)) (λ u c. h c u item) k r p q (Grows-refl f3) there same)
      (λ c. folded_more (step h k c) first (take i items) item ∙ ap (λ (l : List B). folded (step h k c) first l) longer)

-- all items
pub whole : {A B C T : Type 0} {P : Frame → List Node → T → Type 0} {as_p : List Node → T → (cell : ℕ) → A} (h : Context → A → B → Gives C) (k : A → C → A) (first : A) (items : List B) (i : ℕ)
    {a b : State} {x y : Notes} {f1 f2 : List Node} {s : Site} {v : T} (g : Context → Gives A) → length items ≤ i
    → Flowing a b x y f1 f2 s (Ok (Known v)) P as_p (λ c. folded (step h k c) first (take i items)) → ((c : Context) → folded (step h k c) first items ≡ g c)
    → Flowing a b x y f1 f2 s (Ok (Known v)) P as_p g
whole {B = B} h k first items i {v = v} g l p e = described (Ok (Known v)) p (λ c. ap (λ (l : List B). folded (step h k c) first l) (take_all i items l) ∙ e c)
