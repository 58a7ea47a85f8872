-- One step after another: what a later one finds of an earlier one, and what loops give.
use Rattle.std.proofs.Common.{◌≡◌, ◌∙◌, ◌++◌, ◌∷◌, [], ℕ, ◌+◌, ◌<◌, ◌≤◌, List, length, take, Result, Ok, Err, ap, sym, subst}
use Rattle.std.specs.Prelude.{get_or}
use Rattle.std.proofs.lemmas.List.{take_all, take_more}
use Rattle.m2_base.specs.Gives.{Gives, and_then}
use Rattle.m2_base.specs.States.{Frame, State}
use Rattle.m2_base.specs.Statics.Contexts.{Context}
use Rattle.m2_base.specs.declared.memory.Memory.{Memory}
use Rattle.m2_base.specs.declared.notes.Notes.{Notes}
use Rattle.m2_base.specs.declared.replies.Ask.{Ask}
use Rattle.m2_base.specs.declared.replies.Ask.TheVariants.{DontKnowYet, Known}
use Rattle.m2_base.specs.declared.replies.Head.{Head}
use Rattle.m2_base.specs.declared.sites.Site.{Site}
use Rattle.m2_base.proofs.Kept.{Waits_after, Works-trans}
use Rattle.const_eval.specs.Analyses.{Analysed}
use Rattle.const_eval.proofs.Analysing.{and_after, and_then_assoc, described}
use Rattle.const_eval.proofs.Folding.{and_then_same, folded, folded_more}

-- what may stand after an analysis: its value
pub stands_after : {T : Type 0} {a b : State} {x y : Notes} {s : Site} {P : Frame → T → Type 0} {g : Context → Gives T} {v : T} → Analysed a b x y s (Ok (Known v)) P g → P b.frame v
stands_after {T} {a} {b} {x} {y} {s} {P} {g} {v} p = subst (λ (f : Frame). P f v) (sym p.works.keeps.frame) p.there

-- and what could stand before
pub stays_after : {T : Type 0} {a b : State} {x y : Notes} {s : Site} {P : Frame → T → Type 0} {g : Context → Gives T} {answer : Result (Ask T) Memory} (Q : Frame → Type 0) → Analysed a b x y s answer P g → Q a.frame → Q b.frame
stays_after {T} {a} {b} {x} {y} {s} {P} {g} {answer} Q p h = subst (λ (f : Frame). Q f) (sym p.works.keeps.frame) h

module _ {S T U : Type 0} {a b d : State} {x y z : Notes} {s : Site} {P : Frame → T → Type 0} {Q : Frame → U → Type 0} {R : Frame → S → Type 0} {g : Context → Gives T} {h : Context → Gives U} {k : Context → Gives S} {first : Result (Ask T) Memory} where
  -- after want of memory in a later step nothing more is said
  pub failed_after : {m : Memory} → Analysed a b x y s first P g → Analysed b d y z s (Err m) Q h → (n : Memory) → Analysed a d x z s (Err n) R k
  failed_after p q n = record { works = Works-trans p.works q.works; waits = tt; told = λ made in_hand told of_site. tt; there = tt }

  -- what isn't known yet of a later step isn't known yet of the whole
  pub waiting_after : {head : Head} → Analysed a b x y s first P g → Analysed b d y z s (Ok (DontKnowYet head)) Q h → Analysed a d x z s (Ok (DontKnowYet head)) R k
  waiting_after p q =
      record { works = Works-trans p.works q.works; waits = Waits_after p.works.keeps q.waits; told = λ made in_hand told of_site. tt; there = tt }

module _ {A B : Type 0} (f : Context → A → B → Gives A) (first : A) (items : List B) (i : ℕ) where
  -- one more item of a loop
  pub one_more : {a b d : State} {x y z : Notes} {s : Site} {P : Frame → A → Type 0} {v w : A} (item : B) → i < length items → item ≡ get_or items i item
      → Analysed a b x y s (Ok (Known v)) P (λ c. folded (f c) first (take i items)) → Analysed b d y z s (Ok (Known w)) P (λ c. f c v item)
      → Analysed a d x z s (Ok (Known w)) P (λ c. folded (f c) first (take (i + 1) items))
  one_more {w = w} item h e p q =
      let longer : take i items ++ item ∷ [] ≡ take (i + 1) items = ap (λ (u : B). take i items ++ u ∷ []) e ∙ sym (take_more items i item h) in
      described (Ok (Known w)) (and_after (λ c. folded (f c) first (take i items)) (λ u c. f c u item) (Ok (Known w)) p q)
      (λ c. folded_more (f c) first (take i items) item ∙ ap (λ (l : List B). folded (f c) first l) longer)

  -- all items of a loop
  pub whole : {a b : State} {x y : Notes} {s : Site} {P : Frame → A → Type 0} {v : A} (g : Context → Gives A) → length items ≤ i
      → Analysed a b x y s (Ok (Known v)) P (λ c. folded (f c) first (take i items)) → ((c : Context) → folded (f c) first items ≡ g c)
      → Analysed a b x y s (Ok (Known v)) P g
  whole {v = v} g h p e = described (Ok (Known v)) p (λ c. ap (λ (l : List B). folded (f c) first l) (take_all i items h) ∙ e c)

module _ {S T U V : Type 0} {a b d e : State} {w x y z : Notes} {s : Site} {P : Frame → T → Type 0} {Q : Frame → U → Type 0} {O : Frame → V → Type 0} {R : Frame → S → Type 0} {g : Context → Gives T} {h : Context → Gives U} {j : Context → Gives V} {k : Context → Gives S} {first : Result (Ask T) Memory} {second : Result (Ask U) Memory} where
  -- after want of memory in the step after two others nothing more is said
  pub failed_third : {m : Memory} → Analysed a b w x s first P g → Analysed b d x y s second Q h → Analysed d e y z s (Err m) O j → (n : Memory) → Analysed a e w z s (Err n) R k
  failed_third p q r n = record { works = Works-trans p.works (Works-trans q.works r.works); waits = tt; told = λ made in_hand told of_site. tt; there = tt }

  -- and what isn't known yet of it isn't known yet of the whole
  pub waiting_third : {head : Head} → Analysed a b w x s first P g → Analysed b d x y s second Q h → Analysed d e y z s (Ok (DontKnowYet head)) O j → Analysed a e w z s (Ok (DontKnowYet head)) R k
  waiting_third p q r =
      record { works = Works-trans p.works (Works-trans q.works r.works); waits = Waits_after p.works.keeps (Waits_after q.works.keeps r.waits); told = λ made in_hand told of_site. tt; there = tt }

module _ {A B : Type 0} (n : Context → Gives A) (f : Context → A → B → Gives A) (items : List B) (i : ℕ) where
  -- one more item of a loop after an analysis
  pub one_more_after : {a b d : State} {x y z : Notes} {s : Site} {P : Frame → A → Type 0} {v w : A} (item : B) → i < length items → item ≡ get_or items i item
      → Analysed a b x y s (Ok (Known v)) P (λ c. and_then (n c) (λ o. folded (f c) o (take i items))) → Analysed b d y z s (Ok (Known w)) P (λ c. f c v item)
      → Analysed a d x z s (Ok (Known w)) P (λ c. and_then (n c) (λ o. folded (f c) o (take (i + 1) items)))
  one_more_after {w = w} item h e p q =
      let longer : take i items ++ item ∷ [] ≡ take (i + 1) items = ap (λ (u : B). take i items ++ u ∷ []) e ∙ sym (take_more items i item h) in
      described (Ok (Known w)) (and_after (λ c. and_then (n c) (λ o. folded (f c) o (take i items))) (λ u c. f c u item) (Ok (Known w)) p q)
      (λ c. and_then_assoc (n c) (λ o. folded (f c) o (take i items)) (λ u. f c u item)
      ∙ and_then_same (n c) (λ o. and_then (folded (f c) o (take i items)) (λ u. f c u item)) (λ o. folded (f c) o (take (i + 1) items))
      (folded_more (f c) (n c).value (take i items) item ∙ ap (λ (l : List B). folded (f c) (n c).value l) longer))

  -- all items of a loop after an analysis
  pub whole_after : {a b : State} {x y : Notes} {s : Site} {P : Frame → A → Type 0} {v : A} (g : Context → Gives A) → length items ≤ i
      → Analysed a b x y s (Ok (Known v)) P (λ c. and_then (n c) (λ o. folded (f c) o (take i items))) → ((c : Context) → and_then (n c) (λ o. folded (f c) o items) ≡ g c)
      → Analysed a b x y s (Ok (Known v)) P g
  whole_after {v = v} g h p e = described (Ok (Known v)) p (λ c. ap (λ (l : List B). and_then (n c) (λ o. folded (f c) o l)) (take_all i items h) ∙ e c)
