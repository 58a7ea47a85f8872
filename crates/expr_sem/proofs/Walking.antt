-- The walk over trees: what a later step finds of an earlier one, and what loops make.
use Rattle.std.proofs.Common.{◌≡◌, ◌∙◌, ◌++◌, ◌∷◌, [], ℕ, ◌+◌, ◌<◌, ◌≤◌, List, length, take, Result, Ok, ap, sym, subst}
use Rattle.std.specs.Prelude.{get_or}
use Rattle.std.proofs.lemmas.List.{take_all, take_more}
use Rattle.m2_base.specs.Gives.{Gives, gives}
use Rattle.m2_base.specs.Lists.{Each}
use Rattle.m2_base.specs.States.{Frame, State, Waits}
use Rattle.m2_base.specs.Statics.Contexts.{Context}
use Rattle.m2_base.specs.Statics.Sets.{set_base}
use Rattle.m2_base.specs.declared.memory.Memory.{Memory}
use Rattle.m2_base.specs.declared.notes.Notes.{Notes}
use Rattle.m2_base.specs.declared.replies.Ask.{Ask}
use Rattle.m2_base.specs.declared.replies.Ask.TheVariants.{DontKnowYet, Known}
use Rattle.m2_base.specs.declared.rows.Place.{Place}
use Rattle.m2_base.specs.declared.sites.Site.{Site}
use Rattle.type_rules.specs.Asks.{Reads, WhereKnown, WhereWaiting}
use Rattle.type_rules.specs.Scenes.{IsThere, WhereTold}
use Rattle.type_rules.specs.Sites.{context_of}
use Rattle.const_eval.specs.Sites.{IsOperand}
use Rattle.const_eval.proofs.Folding.{folded, folded_more}
use Rattle.expr_sem.specs.Codings.{Coding}
use Rattle.expr_sem.specs.Fragments.{Grows}
use Rattle.block_code.specs.Parts.{Part}
use Rattle.expr_sem.specs.SetCodings.{AreElements, elements_in}
use Rattle.block_code.specs.SetElements as sets
use Rattle.block_code.specs.SetElements.{no_elements_yet}
use Rattle.expr_sem.specs.declared.fragments.Node.{Node}
use Rattle.expr_sem.specs.declared.pieces.With.{With}
use Rattle.expr_sem.specs.declared.set_elements.Elements.{Elements}
use Rattle.expr_sem.proofs.Onwards.{holds_after}
use Rattle.expr_sem.proofs.Operating.{coding_after, described, quiet}
use Rattle.expr_sem.proofs.Sequencing.{in_later, part_later}

-- what may stand after a coding: its value
pub stands_after : {T V : Type 0} {a b : State} {x y : Notes} {ns ms : List Node} {s : Site} {P : Frame → List Node → T → Type 0} {as_p : List Node → T → V} {g : Context → Gives V} {v : T} → Coding a b x y ns ms s (Ok (Known v)) P as_p g → P b.frame ms v
stands_after {T} {V} {a} {b} {x} {y} {ns} {ms} {s} {P} {as_p} {g} {v} p = subst (λ (f : Frame). P f ms v) (sym p.works.keeps.frame) p.there

-- the types of the records of open WITHs can be asked for
abbrev pub AreOpen : Frame → List With → Type 0
AreOpen f ws = Each (λ w. IsThere f w.of) ws

module _ {T V : Type 0} {a b : State} {x y : Notes} {n1 n2 : List Node} {s : Site} {P : Frame → List Node → T → Type 0} {as_p : List Node → T → V} {g : Context → Gives V} {answer : Result (Ask T) Memory} (p : Coding a b x y n1 n2 s answer P as_p g) where
  -- and still can after a coding
  pub open_after : (ws : List With) → AreOpen a.frame ws → AreOpen b.frame ws
  open_after ws h = holds_after p (λ (f : Frame). AreOpen f ws) h

  -- so can a type
  pub there_after : (t : Place) → IsThere a.frame t → IsThere b.frame t
  there_after t h = holds_after p (λ (f : Frame). IsThere f t) h

  -- the elements of a set so far may still stand
  pub elements_after : (es : Elements) → AreElements a.frame n1 es → AreElements b.frame n2 es
  elements_after es h = record { set = holds_after p (λ (f : Frame). IsOperand f es.set) h.set; code = in_later p.grows es.code h.code }

abbrev elements_of : Elements → Part → sets.Elements
elements_of es p = record { set = es.set; code = p }

-- and are the same among more fragments
pub elements_later : {f : Frame} {from to : List Node} → Grows from to → (es : Elements) → AreElements f from es → elements_in to es ≡ elements_in from es
elements_later g es h = ap (λ (p : Part). elements_of es p) (part_later g es.code h.code)

module _ {A B T : Type 0} {P : Frame → List Node → T → Type 0} {as_p : List Node → T → A} (f : Context → A → B → Gives A) (first : A) (items : List B) (i : ℕ) where
  -- one more item of a loop
  pub one_more : {a b d : State} {x y z : Notes} {n1 n2 n3 : List Node} {s : Site} {v w : T} (item : B) → i < length items → item ≡ get_or items i item
      → Coding a b x y n1 n2 s (Ok (Known v)) P as_p (λ c. folded (f c) first (take i items)) → Coding b d y z n2 n3 s (Ok (Known w)) P as_p (λ c. f c (as_p n2 v) item)
      → Coding a d x z n1 n3 s (Ok (Known w)) P as_p (λ c. folded (f c) first (take (i + 1) items))
  one_more {w = w} item h e p q =
      let longer : take i items ++ item ∷ [] ≡ take (i + 1) items = ap (λ (u : B). take i items ++ u ∷ []) e ∙ sym (take_more items i item h) in
      described (Ok (Known w)) (coding_after (λ c. folded (f c) first (take i items)) (λ u c. f c u item) (Ok (Known w)) p q)
      (λ c. folded_more (f c) first (take i items) item ∙ ap (λ (l : List B). folded (f c) first l) longer)

  -- all items of a loop
  pub whole : {a b : State} {x y : Notes} {n1 n2 : List Node} {s : Site} {v : T} (g : Context → Gives A) → length items ≤ i
      → Coding a b x y n1 n2 s (Ok (Known v)) P as_p (λ c. folded (f c) first (take i items)) → ((c : Context) → folded (f c) first items ≡ g c)
      → Coding a b x y n1 n2 s (Ok (Known v)) P as_p g
  whole {v = v} g h p e = described (Ok (Known v)) p (λ c. ap (λ (l : List B). folded (f c) first l) (take_all i items h) ∙ e c)

-- ** The beginning of a set

-- a base, and the elements so far
abbrev pub IsStart : Frame → List Node → Place × Elements → Type 0
IsStart f ns start = IsThere f start.0 × AreElements f ns start.1

abbrev pub start_of : Place → sets.Elements → Place × sets.Elements
start_of base es = (base, es)

abbrev pub start_in : List Node → Place × Elements → Place × sets.Elements
start_in ns start = start_of start.0 (elements_in ns start.1)

both_known : (asked : Ask (Place × Elements)) (ns : List Node) (base : Place) (es : sets.Elements) → WhereKnown asked (λ given. given.0 ≡ base) → WhereKnown asked (λ given. (nodes : List Node) → elements_in nodes given.1 ≡ es)
    → WhereKnown asked (λ given. start_in ns given ≡ start_of base es)
both_known (Known given) ns base es b e = ap (λ (t : Place). start_of t (elements_in ns given.1)) b ∙ ap (λ (u : sets.Elements). start_of base u) (e ns)
both_known (DontKnowYet h) ns base es b e = tt

both_there : (asked : Ask (Place × Elements)) (f : Frame) (ns : List Node) → WhereKnown asked (λ given. IsThere f given.0) → WhereKnown asked (λ given. (nodes : List Node) → AreElements f nodes given.1) → WhereKnown asked (λ given. IsStart f ns given)
both_there (Known given) f ns b e = (b, e ns)
both_there (DontKnowYet h) f ns b e = tt

-- a set begins with its base and no elements
pub started : {a b : State} (y : Notes) (ns : List Node) (s : Site) (asked : Ask (Place × Elements)) (of : Place) → Reads a b → WhereWaiting asked (λ head. Waits a b head)
    → WhereTold a.frame (λ made. WhereKnown asked (λ given. given.0 ≡ set_base (context_of a.frame made s) of))
    → WhereTold a.frame (λ made. WhereKnown asked (λ given. (nodes : List Node) → elements_in nodes given.1 ≡ no_elements_yet (context_of a.frame made s) of))
    → WhereKnown asked (λ given. IsThere a.frame given.0) → WhereKnown asked (λ given. (nodes : List Node) → AreElements a.frame nodes given.1)
    → Coding a b y y ns ns s (Ok asked) IsStart start_in (λ c. gives (start_of (set_base c of) (no_elements_yet c of)))
started {a} y ns s asked of reads waits based told base elements =
    quiet y ns s asked IsStart start_in (λ c. start_of (set_base c of) (no_elements_yet c of)) reads waits
    (λ made in_hand t. both_known asked ns (set_base (context_of a.frame made s) of) (no_elements_yet (context_of a.frame made s) of) (based made in_hand t) (told made in_hand t)) (both_there asked a.frame ns base elements)
