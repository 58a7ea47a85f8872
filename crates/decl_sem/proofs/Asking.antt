-- Questions of types whose rows may be in hand, and what is made after them.
use Rattle.std.specs.Prelude.{◌≡◌, ℕ, Bool, if◌then◌else◌, List, []}
use Rattle.std.proofs.Common.{sym, ap, ◌∙◌, subst, Ok, Result}
use Rattle.m2_base.specs.Gives.{gives}
use Rattle.m2_base.specs.Standard.{broken}
use Rattle.m2_base.specs.States.{Frame, State, Waits}
use Rattle.m2_base.specs.Statics.Contexts.{Context, Scene, refuse}
use Rattle.m2_base.specs.Statics.Diagnostics.{wrong_index}
use Rattle.m2_base.specs.Statics.Makes.{Makes, makes, only_gives}
use Rattle.m2_base.specs.Statics.Shapes.{Shape}
use Rattle.m2_base.specs.Statics.Types.{kind_of, stands_for}
use Rattle.m2_base.specs.declared.replies.Head.{Head}
use Rattle.m2_base.specs.declared.memory.Memory.{Memory}
use Rattle.m2_base.specs.declared.replies.Ask.{Ask}
use Rattle.m2_base.specs.declared.replies.Ask.TheVariants.{DontKnowYet, Known}
use Rattle.m2_base.specs.declared.rows.Place.{Place}
use Rattle.m2_base.specs.declared.rows.RowMeaning.{RowMeaning}
use Rattle.m2_base.specs.declared.rows.RowMeaning.TheVariants.{Set}
use Rattle.m2_base.specs.declared.sites.Site.{Site}
use Rattle.type_rules.specs.Asks.{Reads, WhereKnown, WhereWaiting}
use Rattle.type_rules.specs.Scenes.{IsStood, scene_of}
use Rattle.decl_sem.specs.Making.{next_ordinal}
use Rattle.decl_sem.specs.Pieces.{Declares, IsAny, IsBehind, IsMaking, IsNewMeaning, WhereMaking}
use Rattle.decl_sem.specs.Stood.{stood_in}
use Rattle.decl_sem.specs.declared.making.Made.{Made}
use Rattle.decl_sem.proofs.OneRows.{before_next, small_scope}
use Rattle.decl_sem.proofs.Pieces.{asked, asked_then, waiting}

-- an answer, as it is known
pub first_made : {T : Type 0} {a b : State} {x y : Made} {s : Site} {ss : List Shape} {P : Frame → ℕ → T → Type 0} {g : Context → Makes T} {result : Result (Ask T) Memory} {asked : Ask T} {v : T} → result ≡ Ok asked → asked ≡ Known v
    → Declares a b x y s result ss P g → Declares a b x y s (Ok (Known v)) ss P g
first_made {T} {a = a} {b = b} {x = x} {y = y} {s = s} {ss = ss} {P = P} {g = g} {result = result} e f p =
    subst (λ (r : Result (Ask T) Memory). Declares a b x y s r ss P g) (e ∙ ap (λ (k : Ask T). Ok k) f) p

-- another value that is the same
pub revalued : {T : Type 0} {a b : State} {x y : Made} {s : Site} {ss : List Shape} {P Q : Frame → ℕ → T → Type 0} {g : Context → Makes T} {v w : T} → w ≡ v
    → (P a.frame (next_ordinal y) v → Q a.frame (next_ordinal y) w) → Declares a b x y s (Ok (Known v)) ss P g → Declares a b x y s (Ok (Known w)) ss Q g
revalued {T} {a = a} {b = b} {x = x} {y = y} {s = s} {ss = ss} {P = P} {Q = Q} {g = g} {v = v} {w = w} e stands p =
    let q : Declares a b x y s (Ok (Known w)) ss P g = subst (λ (u : T). Declares a b x y s (Ok (Known u)) ss P g) (sym e) p in
    record { works = q.works; waits = q.waits; first = q.first; grown = q.grown; told = q.told; there = stands p.there }

-- what a question leaves as before
module _ {a b : State} (reads : Reads a b) where
  pub making_read : {s : Site} {x : Made} {ss : List Shape} → IsMaking a.frame s x ss → IsMaking b.frame s x ss
  making_read {s} {x} {ss} making = subst (λ (f : Frame). IsMaking f s x ss) (sym reads.keeps.frame) making

  pub behind_read : {next : ℕ} {p : Place} → IsBehind a.frame next p → IsBehind b.frame next p
  behind_read {next} {p} h = subst (λ (f : Frame). IsBehind f next p) (sym reads.keeps.frame) h

-- a question whose answer isn't known yet
pub asked_waits : {T : Type 0} {a b : State} {x : Made} {s : Site} {ts : List Shape} {P : Frame → ℕ → T → Type 0} {h : Context → Makes T} (head : Head) → Reads a b → Waits a b head → Declares a b x x s (Ok (DontKnowYet head)) ts P h
asked_waits {x = x} {s = s} head reads waits = waiting (asked x s (DontKnowYet head) IsAny (λ c. c) reads waits (λ hand in_hand told same. tt) tt)

-- what a type stands for
pub stood_piece : {a b : State} (x : Made) (s : Site) (answer : Ask (Place × RowMeaning)) (t : Place) → Reads a b → WhereWaiting answer (λ head. Waits a b head)
    → WhereMaking a.frame x (λ hand. WhereKnown answer (λ stood. IsStood (scene_of a.frame hand s.around.now) t stood))
    → Declares a b x x s (Ok answer) [] IsAny (λ c. makes (stood_in t c))
stood_piece {a} {b} x s answer t reads waits told =
    asked x s answer IsAny (λ c. stood_in t c) reads waits (λ hand in_hand known same. pair answer (scene_of a.frame hand s.around.now) (told hand in_hand known same)) (any answer)
  where
    pair : (answer : Ask (Place × RowMeaning)) (scene : Scene) → WhereKnown answer (λ stood. IsStood scene t stood) → WhereKnown answer (λ v. v ≡ (stands_for scene t, kind_of scene t))
    pair (Known (p, m)) scene h = ap (λ q. (q, m)) h.place ∙ ap (λ k. (stands_for scene t, k)) h.meaning
    pair (DontKnowYet head) scene h = tt

    any : (answer : Ask (Place × RowMeaning)) → WhereKnown answer (λ v. Unit {0})
    any (Known v) = tt
    any (DontKnowYet head) = tt

-- after a question of what a type stands for, by which it is kept or refused
pub checked : {a b : State} {x y : Made} {s : Site} (test : Place × RowMeaning → Bool) (at : ℕ) (t : Place) (answer : Result (Ask Place) Memory) (asks : Ask (Place × RowMeaning)) {stood : Place × RowMeaning} (keep : Bool)
    → IsMaking a.frame s x [] → Reads a b → WhereWaiting asks (λ head. Waits a b head)
    → WhereMaking a.frame x (λ hand. WhereKnown asks (λ stood. IsStood (scene_of a.frame hand s.around.now) t stood))
    → asks ≡ Known stood → keep ≡ test stood
    → Declares b b x y s answer [] IsBehind (λ c. only_gives (if keep then gives t else refuse c at wrong_index broken))
    → Declares a b x y s answer [] IsBehind (λ c. only_gives (if test (stood_in t c) then gives t else refuse c at wrong_index broken))
checked {a} {b} {x} {y} {s} test at t answer asks {stood} keep making reads waits told is same p =
    let first : Declares a b x x s (Ok (Known stood)) [] IsAny (λ c. makes (stood_in t c)) =
    subst (λ (k : Ask (Place × RowMeaning)). Declares a b x x s (Ok k) [] IsAny (λ c. makes (stood_in t c))) is (stood_piece x s asks t reads waits told) in
    let q : Declares b b x y s answer [] IsBehind (λ c. only_gives (if test stood then gives t else refuse c at wrong_index broken)) =
    subst (λ (k : Bool). Declares b b x y s answer [] IsBehind (λ c. only_gives (if k then gives t else refuse c at wrong_index broken))) same p in
    asked_then (λ c. stood_in t c) (λ v c. only_gives (if test v then gives t else refuse c at wrong_index broken)) answer making first q

-- the meaning of a set's row
pub set_meaning : {f : Frame} {s : Site} {x : Made} {ss : List Shape} {t : Place} → IsMaking f s x ss → IsBehind f (next_ordinal x) t → IsNewMeaning f s (next_ordinal x) (Set t)
set_meaning making h = record { small = h.small; scopes = small_scope making h; fits = before_next h; filled = tt; owned = tt }

-- after a question of what a type stands for, by a value of the answer
pub tested : {T V : Type 0} {a b : State} {x y : Made} {s : Site} {ss : List Shape} {Q : Frame → ℕ → T → Type 0} (of : Place × RowMeaning → V) (h : V → Context → Makes T) (t : Place) (answer : Result (Ask T) Memory) (asks : Ask (Place × RowMeaning)) {stood : Place × RowMeaning} (v : V)
    → IsMaking a.frame s x ss → Reads a b → WhereWaiting asks (λ head. Waits a b head)
    → WhereMaking a.frame x (λ hand. WhereKnown asks (λ stood. IsStood (scene_of a.frame hand s.around.now) t stood))
    → asks ≡ Known stood → v ≡ of stood → Declares b b x y s answer ss Q (h v) → Declares a b x y s answer ss Q (λ c. h (of (stood_in t c)) c)
tested {T} {V} {a} {b} {x} {y} {s} {ss} {Q} of h t answer asks {stood} v making reads waits told is same p =
    let first : Declares a b x x s (Ok (Known stood)) [] IsAny (λ c. makes (stood_in t c)) =
    subst (λ (k : Ask (Place × RowMeaning)). Declares a b x x s (Ok k) [] IsAny (λ c. makes (stood_in t c))) is (stood_piece x s asks t reads waits told) in
    let q : Declares b b x y s answer ss Q (h (of stood)) = subst (λ (k : V). Declares b b x y s answer ss Q (h k)) same p in
    asked_then (λ c. stood_in t c) (λ u c. h (of u) c) answer making first q
