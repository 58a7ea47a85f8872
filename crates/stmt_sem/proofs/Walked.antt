-- What the walk over statements finds of code and of memory that was wanted.
use Rattle.std.proofs.Common.{◌≡◌, ◌∷◌, [], ℕ, List, Option, Result, Ok, Err, true, false, ap, sym, subst}
use Rattle.std.specs.declared.alloc.Global.{Global}
use Rattle.std.specs.declared.vec.Vec.{Vec}
use Rattle.std.specs.Prelude.{IsErr}
use Rattle.m2_base.specs.Gives.{Gives}
use Rattle.m2_base.specs.Lists.{Each}
use Rattle.m2_base.specs.States.{Frame, State}
use Rattle.m2_base.specs.Statics.Contexts.{Context}
use Rattle.m2_base.specs.declared.memory.Memory.{Memory}
use Rattle.m2_base.specs.declared.notes.Notes.{Notes}
use Rattle.m2_base.specs.declared.replies.Ask.{Ask}
use Rattle.m2_base.specs.declared.replies.Ask.TheVariants.{Known}
use Rattle.m2_base.specs.declared.rows.Place.{Place}
use Rattle.m2_base.specs.declared.sites.Site.{Site}
use Rattle.type_rules.specs.Scenes.{IsThere}
use Rattle.expr_sem.specs.Codings.{with_types}
use Rattle.expr_sem.specs.declared.fragments.Node.{Node}
use Rattle.expr_sem.specs.declared.pieces.With.{With}
use Rattle.m2_base.proofs.Kept.{Works-refl}
use Rattle.stmt_sem.specs.FlowTrees.{IsOver, arms_among}
use Rattle.stmt_sem.specs.Flowings.{Flowing}
use Rattle.block_code.specs.Flows as flow
use Rattle.stmt_sem.specs.Stated.{IsArm, arms_in, block_in, onto}
use Rattle.stmt_sem.specs.declared.flows.Arm.{Arm}
use Rattle.stmt_sem.specs.declared.flows.Flow.{Flow}
use Rattle.expr_sem.proofs.Sequencing.{Grows-refl}
use Rattle.stmt_sem.proofs.Flowed.{full_after, full_after_both, holds_after}

-- memory was wanted behind a known part
pub full_by : {T U V W : Type 0} {a b : State} {x y : Notes} {f1 f2 : List Node} {s : Site} {P : Frame → List Node → T → Type 0} {Q : Frame → List Node → U → Type 0} {as_p : List Node → T → (cell : ℕ) → V} {as_q : List Node → U → (cell : ℕ) → W} {g : Context → Gives V} {h : Context → Gives W} {v : T} (r : Result (Ask U) Memory)
    → IsErr r → Flowing a b x y f1 f2 s (Ok (Known v)) P as_p g → Flowing a b x y f1 f2 s r Q as_q h
full_by (Ok w) is p = absurd (let e : false ≡ true = is in cc)
full_by (Err n) is p = full_after p n

-- and behind a known later part
pub full_by_both : {T U V W R X : Type 0} {a b d : State} {x y z : Notes} {f1 f2 f3 : List Node} {s : Site} {P : Frame → List Node → T → Type 0} {Q : Frame → List Node → U → Type 0} {S : Frame → List Node → R → Type 0} {as_p : List Node → T → (cell : ℕ) → V} {as_q : List Node → U → (cell : ℕ) → W} {as_r : List Node → R → (cell : ℕ) → X} {g : Context → Gives V} {h : Context → Gives W} {k : Context → Gives X} {v : T} {w : U} (r : Result (Ask R) Memory)
    → IsErr r → Flowing a b x y f1 f2 s (Ok (Known v)) P as_p g → Flowing b d y z f2 f3 s (Ok (Known w)) Q as_q h → Flowing a d x z f1 f3 s r S as_r k
full_by_both (Ok w) is p q = absurd (let e : false ≡ true = is in cc)
full_by_both (Err n) is p q = full_after_both p q n

-- a type can still be asked for
pub there_after : {T V : Type 0} {a b : State} {x y : Notes} {f1 f2 : List Node} {s : Site} {P : Frame → List Node → T → Type 0} {as_p : List Node → T → (cell : ℕ) → V} {g : Context → Gives V} {answer : Result (Ask T) Memory} → Flowing a b x y f1 f2 s answer P as_p g → (t : Place) → IsThere a.frame t → IsThere b.frame t
there_after p t h = holds_after p (λ (f : Frame). IsThere f t) h

-- memory was wanted at once
pub wanted_first : {T V : Type 0} {P : Frame → List Node → T → Type 0} {as_p : List Node → T → (cell : ℕ) → V} {g : Context → Gives V} (a : State) (n : Notes) (ns : List Node) (s : Site) (r : Result (Ask T) Memory) → IsErr r → Flowing a a n n ns ns s r P as_p g
wanted_first a n ns s (Ok v) is = absurd (let e : false ≡ true = is in cc)
wanted_first a n ns s (Err m) is = record { works = Works-refl a n; waits = tt; grows = Grows-refl ns; told = λ made in_hand told of_site. tt; there = tt }

-- ---- none yet

pub none_there : (ns : List Node) (made : Vec Flow Global) → made.items ≡ [] → Each (IsOver ns) made.items
none_there ns made e = subst (λ (xs : List Flow). Each (IsOver ns) xs) (sym e) tt

pub none_in : (ns : List Node) (made : Vec Flow Global) → made.items ≡ [] → (cell : ℕ) → block_in ns made cell ≡ (λ rest. rest)
none_in ns made e cell =
    let put : List Flow → flow.Flow → flow.Flow = λ xs rest. onto ns xs cell rest in
    ap put e

pub no_arms_there : (f : Frame) (ns : List Node) (made : Vec Arm Global) → made.items ≡ [] → Each (IsArm f ns) made.items
no_arms_there f ns made e = subst (λ (xs : List Arm). Each (IsArm f ns) xs) (sym e) tt

pub no_arms_in : (ns : List Node) (made : Vec Arm Global) → made.items ≡ [] → (cell : ℕ) → arms_in ns made cell ≡ (λ other. other)
no_arms_in ns made e cell =
    let put : List Arm → Option flow.Flow → Option flow.Flow = λ xs other. arms_among ns xs cell other in
    ap put e

-- ---- open WITHs

types_open : (f : Frame) (ws : List With) → Each (λ w. IsThere f w.of) ws → Each (λ t. IsThere f t) (with_types ws)
types_open f [] h = tt
types_open f (w ∷ ws) h = (h.0, types_open f ws h.1)

open_types : (f : Frame) (ws : List With) → Each (λ t. IsThere f t) (with_types ws) → Each (λ w. IsThere f w.of) ws
open_types f [] h = tt
open_types f (w ∷ ws) h = (h.0, open_types f ws h.1)

-- one more
pub more_open : (f : Frame) (ws more : List With) (of : Place) → with_types more ≡ of ∷ with_types ws → IsThere f of → Each (λ w. IsThere f w.of) ws → Each (λ w. IsThere f w.of) more
more_open f ws more of e l h = open_types f more (subst (λ (ts : List Place). Each (λ t. IsThere f t) ts) (sym e) (l, types_open f ws h))
