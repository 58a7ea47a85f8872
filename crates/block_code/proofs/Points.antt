-- Steps that stand where they may have valid code: at their places each height is right, and each jump goes to an instruction.
use Rattle.std.specs.Prelude.{◌≡◌, refl, ℕ, zero, suc, ◌+◌, ◌-◌, ◌≤◌, ◌<◌, max, ℤ, pos, negsuc, ◌+ℤ◌, ◌-ℤ◌, int_le, int_lt, ◌==◌, ◌&&◌, ◌||◌, Bool, true, false, cond, ltb, nat_lt, if◌then◌else◌, List, [], ◌∷◌, ◌++◌, length, Option, Some, None, ◌⊎◌}
use Rattle.std.proofs.Common.{arith, sym, ap, subst, ◌∙◌, inl, inr}
use Rattle.std.proofs.lemmas.Bool.{le-ltb, le-leb, lt-ltb, ltb-false, ltb-true, eq-eqb, ne_eqb}
use Rattle.code_form.specs.Bytes.{size}
use Rattle.code_form.specs.Heights.{Callees, Step, after_step, greatest, step_among}
use Rattle.code_form.specs.declared.instr.Instr.{Instr}
use Rattle.code_form.specs.Modules.{Procedure, World}
use Rattle.code_form.specs.Valid.{Fault, Point, at_place, callees_of, fault_among, first_not, highest, in_code, in_code_or, is_end, is_level, is_right, jump_of, names_what_is_there, of_high, points, returns_all, same_height, target_passes}
use Rattle.block_code.proofs.NoReturns.{IsOwn}
use Rattle.block_code.specs.Parts.{steps_size}
use Rattle.block_code.specs.FlowHeights.{Behind, Goes, Has, Leads, Stands, farther, passed}
use Rattle.block_code.specs.Places.{NameThere, instrs_of}

-- each step takes and leaves what its instruction does among these callees
abbrev pub Agree : Callees → List Step → Type 0
Agree c [] = Unit {0}
Agree c (s ∷ ss) = (step_among c s.instr ≡ s) × Agree c ss

-- From this height on, what each return finds is the result alone; and what each step takes and leaves is the table's, unless
-- it asks the callees.
abbrev pub ReturnAll : (height : ℕ) → List Step → Type 0
ReturnAll h [] = Unit {0}
ReturnAll h (s ∷ ss) = ((returns_all s.instr (pos h) s.takes ≡ true) × IsOwn s) × ReturnAll (after_step h s) ss

-- ---- where steps stand with no way out

-- so many bytes on there is an instruction at this height
abbrev pub Inside : (j h : ℕ) → List Step → (k : ℕ) → Type 0
Inside j h [] k = ⊥
Inside j h (s ∷ ss) k = ((j ≡ 0) × (h ≡ k)) ⊎ ((size s.instr ≤ j) × Inside (j - size s.instr) (after_step h s) ss k)

-- a jump goes to an instruction
abbrev pub Targets : Behind → (h : ℕ) → Option (ℤ × ℕ) → (after : ℕ) → List Step → Type 0
Targets b h None after ss = Unit {0}
Targets b h (Some (pos j, gone)) after ss = (gone ≤ h) × Inside j after ss (h - gone)
Targets b h (Some (negsuc j, gone)) after ss = (gone ≤ h) × Has (suc j) (h - gone) b

-- each step finds what it takes, and each jump goes to an instruction at the height that it leaves
abbrev pub Sits : Behind → (h : ℕ) → List Step → Type 0
Sits b h [] = Unit {0}
Sits b h (s ∷ ss) = (s.takes ≤ h) × Targets (passed b h s) h (jump_of s.instr) (after_step h s) ss × Sits (passed b h s) (after_step h s) ss

clash : (j : ℕ) → j ≡ 0 → j ≡ 1 → ⊥
clash j e f = omega (arith, e, f)

bytes : (i : Instr) → 1 ≤ size i
bytes i = omega arith

at_once : (i : Instr) (j : ℕ) → j ≡ 0 → size i ≤ j → ⊥
at_once i j e f = omega (arith, bytes i, e, f)

-- what leads out of the code only by one of two ways doesn't lead out
inside : (j h l k : ℕ) (a e : List Step) (b b' : Behind) (o o' : ℕ) (x : Step) → Leads 0 j h a k → Leads 1 j h a k → Stands b o h a l → Inside j h (a ++ (x ∷ e)) k
inside j h l k [] e b b' o o' x (inl r) g f = inl r
inside j h l k [] e b b' o o' x (inr r) (inl s) f = inl s
inside j h l k [] e b b' o o' x (inr r) (inr s) f = absurd (clash j r.0 s.0)
inside j h l k (s ∷ ss) e b b' o o' x (inl r) g f = inl r
inside j h l k (s ∷ ss) e b b' o o' x (inr r) (inl q) f = absurd (at_once s.instr j q.0 r.0)
inside j h l k (s ∷ ss) e b b' o o' x (inr r) (inr q) f =
    inr (r.0, inside (j - size s.instr) (after_step h s) l k ss e (passed b h s) b' o o' x r.1 q.1 f.2)

targets : (b : Behind) (h l after : ℕ) (t : Option (ℤ × ℕ)) (a e : List Step) (b' : Behind) (o : ℕ) (x : Step) → Goes b 0 h t after a → Goes b 1 h t after a
    → Stands b' o after a l → Targets b h t after (a ++ (x ∷ e))
targets b h l after None a e b' o x f g s = tt
targets b h l after (Some (pos j, gone)) a e b' o x f g s = (f.0, inside j after l (h - gone) a e b' b' o o x f.1 g.1 s)
targets b h l after (Some (negsuc j, gone)) a e b' o x f g s = f

-- code that stands whatever the place behind its LOOP is, before an instruction that doesn't jump
pub sits-append : (b : Behind) (h l : ℕ) (a : List Step) (x : Step) → Stands b 0 h a l → Stands b 1 h a l → x.takes ≤ l → jump_of x.instr ≡ None
    → Sits b h (a ++ (x ∷ []))
sits-append b h l [] x f g t e =
    let P : ℕ → Type 0 = λ n. x.takes ≤ n in
    let Q : Option (ℤ × ℕ) → Type 0 = λ o. Targets (passed b h x) h o (after_step h x) [] in
    (subst P (sym f) t, subst Q (sym e) tt, tt)
sits-append b h l (s ∷ ss) x f g t e = (
  f.0,
  targets (passed b h s) h l (after_step h s) (jump_of s.instr) ss [] (passed b h s) 0 x f.1 g.1 f.2,
  sits-append (passed b h s) (after_step h s) l ss x f.2 g.2 t e,
)

-- ---- steps at their places

abbrev mark : (n h : ℕ) → Step → Point
mark n h s = record { at = n; height = pos h; step = s }

abbrev pub marks : (n h : ℕ) → List Step → List Point
marks n h [] = []
marks n h (s ∷ ss) = mark n h s ∷ marks (n + size s.instr) (after_step h s) ss

minus : (h t : ℕ) → t ≤ h → pos h -ℤ pos t ≡ pos (h - t)
minus h zero l = ap pos (go h)
  where
    go : (h : ℕ) → h + 0 ≡ h - 0
    go h = omega arith
minus h (suc n) l = ap (λ (b : Bool). cond b (negsuc (suc n - suc h)) (pos (h - suc n))) (le-ltb h (suc n) l)

height-on : (h : ℕ) (s : Step) → s.takes ≤ h → pos h -ℤ pos s.takes +ℤ pos s.leaves ≡ pos (after_step h s)
height-on h s l = ap (λ (x : ℤ). x +ℤ pos s.leaves) (minus h s.takes l)

points-marks : (c : Callees) (b : Behind) (n h : ℕ) (ss : List Step) → Agree c ss → Sits b h ss → points c n (pos h) (instrs_of ss) ≡ marks n h ss
points-marks c b n h [] a f = refl
points-marks c b n h (s ∷ ss) a f =
    ap (λ (t : Step). record { at = n; height = pos h; step = t } ∷ points c (n + size s.instr) (pos h -ℤ pos t.takes +ℤ pos t.leaves) (instrs_of ss)) a.0
    ∙ ap (λ (x : ℤ). mark n h s ∷ points c (n + size s.instr) x (instrs_of ss)) (height-on h s f.0)
    ∙ ap (λ (ps : List Point). mark n h s ∷ ps) (points-marks c (passed b h s) (n + size s.instr) (after_step h s) ss a.1 f.2)

-- there is a point at this place, with this height
abbrev Hits : List Point → (n k : ℕ) → Type 0
Hits all n k = (test : Point → Bool) → ((s : Step) → test (mark n k s) ≡ true) → at_place all (pos n) test ≡ true

here : (n m h k : ℕ) (s : Step) (ps : List Point) → m ≡ n → h ≡ k → Hits (mark n h s ∷ ps) m k
here n m h k s ps e d = λ test t.
    let P : ℕ → Type 0 = λ i. test (mark i h s) ≡ true in
    let Q : ℕ → Type 0 = λ i. test (mark m i s) ≡ true in
    ap (λ (b : Bool). if b then test (mark n h s) else at_place ps (pos m) test) (eq-eqb m n e) ∙ subst P e (subst Q (sym d) (t s))

there : (n m h k : ℕ) (s : Step) (ps : List Point) → (m ≡ n → ⊥) → Hits ps m k → Hits (mark n h s ∷ ps) m k
there n m h k s ps e f = λ test t.
    ap (λ (b : Bool). if b then test (mark n h s) else at_place ps (pos m) test) (ne_eqb m n e) ∙ f test t

hits-marks : (n h j k : ℕ) (ss : List Step) → Inside j h ss k → Hits (marks n h ss) (n + j) k
hits-marks n h j k [] r = absurd r
hits-marks n h j k (s ∷ ss) (inl r) = here n (n + j) h k s (marks (n + size s.instr) (after_step h s) ss) (at_it n j r.0) r.1
  where
    at_it : (n j : ℕ) → j ≡ 0 → n + j ≡ n
    at_it n j e = omega (arith, e)
hits-marks n h j k (s ∷ ss) (inr r) =
    let P : ℕ → Type 0 = λ m. Hits (marks (n + size s.instr) (after_step h s) ss) m k in
    there n (n + j) h k s (marks (n + size s.instr) (after_step h s) ss) (beyond n j (size s.instr) (bytes s.instr) r.0)
    (subst P (on n j (size s.instr) r.0) (hits-marks (n + size s.instr) (after_step h s) (j - size s.instr) k ss r.1))
  where
    beyond : (n j z : ℕ) → 1 ≤ z → z ≤ j → n + j ≡ n → ⊥
    beyond n j z f g e = omega (arith, e, f, g)

    on : (n j z : ℕ) → z ≤ j → (n + z) + (j - z) ≡ n + j
    on n j z g = omega (arith, g)

-- ---- what is known on the way

-- the points from here on are among all
abbrev Ahead : List Point → (n h : ℕ) → List Step → Type 0
Ahead all n h ss = (j k : ℕ) → Inside j h ss k → Hits all (n + j) k

-- the places behind are among all
abbrev Past : List Point → (n : ℕ) → Behind → Type 0
Past all n b = (d k : ℕ) → Has d k b → (d ≤ n) × Hits all (n - d) k

ahead-on : (all : List Point) (n h : ℕ) (s : Step) (ss : List Step) → Ahead all n h (s ∷ ss) → Ahead all (n + size s.instr) (after_step h s) ss
ahead-on all n h s ss f = λ j k r.
    let z : ℕ = size s.instr in
    let P : ℕ → Type 0 = λ m. Hits all m k in
    let Q : ℕ → Type 0 = λ m. Inside m (after_step h s) ss k in
    subst P (sum n z j) (f (z + j) k (inr (most z j, subst Q (back z j) r)))
  where
    sum : (n z j : ℕ) → n + (z + j) ≡ (n + z) + j
    sum n z j = omega arith

    most : (z j : ℕ) → z ≤ z + j
    most z j = omega arith

    back : (z j : ℕ) → j ≡ (z + j) - z
    back z j = omega arith

pub nearer : (m d k : ℕ) (b : Behind) → Has d k (farther m b) → (m ≤ d) × Has (d - m) k b
nearer m d k [] r = absurd r
nearer m d k (p ∷ ps) (inl r) = (most p.0 m d r.0, inl (left p.0 m d r.0, r.1))
  where
    most : (x m d : ℕ) → x + m ≡ d → m ≤ d
    most x m d e = omega (arith, e)

    left : (x m d : ℕ) → x + m ≡ d → x ≡ d - m
    left x m d e = omega (arith, e)
nearer m d k (p ∷ ps) (inr r) = let q = nearer m d k ps r in (q.0, inr q.1)

past-on : (all : List Point) (n h : ℕ) (s : Step) (ss : List Step) (b : Behind) → Ahead all n h (s ∷ ss) → Past all n b → Past all (n + size s.instr) (passed b h s)
past-on all n h s ss b f g = λ d k r. go d k (nearer (size s.instr) d k ((0, h) ∷ b) r)
  where
    far : (n z d : ℕ) → z ≤ d → d - z ≤ n → d ≤ n + z
    far n z d e f = omega (arith, e, f)

    spot : (n z d : ℕ) → z ≤ d → 0 ≡ d - z → n + 0 ≡ (n + z) - d
    spot n z d e f = omega (arith, e, f)

    spot' : (n z d : ℕ) → z ≤ d → d - z ≤ n → n - (d - z) ≡ (n + z) - d
    spot' n z d e f = omega (arith, e, f)

    near : (n z d : ℕ) → z ≤ d → 0 ≡ d - z → d ≤ n + z
    near n z d e f = omega (arith, e, f)

    go : (d k : ℕ) → (size s.instr ≤ d) × Has (d - size s.instr) k ((0, h) ∷ b) → (d ≤ n + size s.instr) × Hits all ((n + size s.instr) - d) k
    go d k (e, inl r) = (
      near n (size s.instr) d e r.0,
      let P : ℕ → Type 0 = λ m. Hits all m k in subst P (spot n (size s.instr) d e r.0) (f 0 k (inl (refl, r.1))),
    )
    go d k (e, inr r) =
        let q = g (d - size s.instr) k r in (
          far n (size s.instr) d e q.0,
          let P : ℕ → Type 0 = λ m. Hits all m k in subst P (spot' n (size s.instr) d e q.0) q.1,
        )

-- a jump's target passes what every point at its height passes
target : (all : List Point) (n h after : ℕ) (s : Step) (b : Behind) (ss : List Step) (o : Option (ℤ × ℕ)) (g : Point → ℕ → Bool) → Targets b h o after ss
    → Ahead all (n + size s.instr) after ss → Past all (n + size s.instr) b
    → ((m gone : ℕ) (x : Step) → gone ≤ h → g (mark m (h - gone) x) gone ≡ true) → target_passes all (mark n h s) g o ≡ true
target all n h after s b ss None g r f p t = refl
target all n h after s b ss (Some (pos j, gone)) g r f p t =
    f j (h - gone) r.1 (λ q. g q gone) (λ x. t (n + size s.instr + j) gone x r.0)
target all n h after s b ss (Some (negsuc j, gone)) g r f p t =
    let q = p (suc j) (h - gone) r.1 in
    let m : ℕ = n + size s.instr in
    ap (λ (c : Bool). at_place all (cond c (negsuc (suc j - suc m)) (pos (m - suc j))) (λ x. g x gone)) (le-ltb m (suc j) q.0)
    ∙ q.1 (λ x. g x gone) (λ x. t (m - suc j) gone x r.0)

-- ---- the heights are right

both : (a b : Bool) → a ≡ true → b ≡ true → (a && b) ≡ true
both true true e f = refl
both true false e f = absurd cc
both false b e f = absurd cc

goes_on : (test : Point → Bool) (p : Point) (ps : List Point) → test p ≡ true → first_not test ps ≡ None → first_not test (p ∷ ps) ≡ None
goes_on test p ps e f = ap (λ (b : Bool). if b then first_not test ps else Some p.at) e ∙ f

same : (m gone h : ℕ) → gone ≤ h → same_height (pos h -ℤ pos gone) (pos (h - gone)) ≡ true
same m gone h l = ap (λ (z : ℤ). same_height z (pos (h - gone))) (minus h gone l) ∙ eq-eqb (h - gone) (h - gone) refl

levels : (all : List Point) (b : Behind) (n h : ℕ) (ss : List Step) → Sits b h ss → ReturnAll h ss → Ahead all n h ss → Past all n b
    → first_not (is_level all) (marks n h ss) ≡ None
levels all b n h [] f r a p = refl
levels all b n h (s ∷ ss) f r a p =
    let z : ℕ = n + size s.instr in
    let k : ℕ = after_step h s in
    let a' : Ahead all z k ss = ahead-on all n h s ss a in
    let p' : Past all z (passed b h s) = past-on all n h s ss b a p in
    goes_on (is_level all) (mark n h s) (marks z k ss)
    (both (int_le (pos s.takes) (pos h) && target_passes all (mark n h s) (λ q gone. same_height (pos h -ℤ pos gone) q.height) (jump_of s.instr))
    (returns_all s.instr (pos h) s.takes)
    (both (int_le (pos s.takes) (pos h)) (target_passes all (mark n h s) (λ q gone. same_height (pos h -ℤ pos gone) q.height) (jump_of s.instr))
    (le-leb s.takes h f.0)
    (target all n h k s (passed b h s) ss (jump_of s.instr) (λ q gone. same_height (pos h -ℤ pos gone) q.height) f.1 a' p' (λ m gone x l. same m gone h l)))
    r.0.0)
    (levels all (passed b h s) z k ss f.2 r.1 a' p')

-- ---- operands, jumps and the end

-- the last one ends
abbrev pub Ends : List Step → Type 0
Ends [] = Unit {0}
Ends (s ∷ []) = is_end s.instr ≡ true
Ends (s ∷ (t ∷ ss)) = Ends (t ∷ ss)

either : (a b : Bool) → a ≡ true → (a || b) ≡ true
either true b e = refl
either false b e = absurd cc

or_last : (a b : Bool) → b ≡ true → (a || b) ≡ true
or_last true b e = refl
or_last false b e = e

ended : (n : ℕ) (s : Step) (ss : List Step) (total : ℕ) → Ends (s ∷ ss) → n + steps_size (s ∷ ss) ≡ total
    → (nat_lt (n + size s.instr) total || is_end s.instr) ≡ true
ended n s [] total f e = or_last (nat_lt (n + size s.instr) total) (is_end s.instr) f
ended n s (t ∷ ss) total f e =
    either (nat_lt (n + size s.instr) total) (is_end s.instr) (lt-ltb (n + size s.instr) total (more n (size s.instr) (size t.instr) (steps_size ss) total (bytes t.instr) e))
  where
    more : (n x y z total : ℕ) → 1 ≤ y → n + (x + (y + z)) ≡ total → n + x < total
    more n x y z total f e = omega (arith, e, f)

ends_on : (s : Step) (ss : List Step) → Ends (s ∷ ss) → Ends ss
ends_on s [] f = tt
ends_on s (t ∷ ss) f = f

rights : (w : World) (k : ℕ) (p : Procedure) (all : List Point) (b : Behind) (n h : ℕ) (ss : List Step) → Sits b h ss → NameThere w k p ss → Ends ss
    → n + steps_size ss ≡ length p.code → Ahead all n h ss → Past all n b → first_not (is_right w k p all) (marks n h ss) ≡ None
rights w k p all b n h [] f t e d a q = refl
rights w k p all b n h (s ∷ ss) f t e d a q =
    let z : ℕ = n + size s.instr in
    let m : ℕ = after_step h s in
    let a' : Ahead all z m ss = ahead-on all n h s ss a in
    let q' : Past all z (passed b h s) = past-on all n h s ss b a q in
    goes_on (is_right w k p all) (mark n h s) (marks z m ss)
    (both (names_what_is_there w k p s.instr && target_passes all (mark n h s) (λ x gone. true) (jump_of s.instr))
    (nat_lt (n + size s.instr) (length p.code) || is_end s.instr)
    (both (names_what_is_there w k p s.instr) (target_passes all (mark n h s) (λ x gone. true) (jump_of s.instr)) t.0
    (target all n h m s (passed b h s) ss (jump_of s.instr) (λ x gone. true) f.1 a' q' (λ i gone x l. refl)))
    (ended n s ss (length p.code) e d))
    (rights w k p all (passed b h s) z m ss f.2 t.1 (ends_on s ss e) (sum n (size s.instr) (steps_size ss) (length p.code) d) a' q')
  where
    sum : (n x y total : ℕ) → n + (x + y) ≡ total → (n + x) + y ≡ total
    sum n x y total e = omega (arith, e)

-- ---- the greatest height

above : (h : ℕ) (ss : List Step) → h ≤ greatest h ss
above h [] = omega arith
above h (s ∷ ss) = omega arith

greater : (m a : ℕ) → (if int_lt (pos m) (pos a) then pos a else pos m) ≡ pos (max m a)
greater m a = go (ltb m a) refl
  where
    go : (b : Bool) → ltb m a ≡ b → (if b then pos a else pos m) ≡ pos (max m a)
    go true e = let f = ltb-true m a e in ap pos (omega (arith, f))
    go false e = let f = ltb-false m a e in ap pos (omega (arith, f))

highest-marks : (b : Behind) (m n h : ℕ) (ss : List Step) → h ≤ m → Sits b h ss → highest (pos m) (marks n h ss) ≡ pos (max m (greatest h ss))
highest-marks b m n h [] l f = ap pos (only m h l)
  where
    only : (m h : ℕ) → h ≤ m → m ≡ max m h
    only m h l = omega (arith, l)
highest-marks b m n h (s ∷ ss) l f =
    let a : ℕ = after_step h s in
    let ps : List Point = marks (n + size s.instr) a ss in
    ap (λ (x : ℤ). highest (if int_lt (pos m) x then x else pos m) ps) (height-on h s f.0)
    ∙ ap (λ (x : ℤ). highest x ps) (greater m a)
    ∙ highest-marks (passed b h s) (max m a) (n + size s.instr) a ss (least m a) f.2
    ∙ ap pos (most m a h (greatest a ss) l (above a ss))
  where
    least : (m a : ℕ) → a ≤ max m a
    least m a = omega arith

    most : (m a h g : ℕ) → h ≤ m → a ≤ g → max (max m a) g ≡ max m (max h g)
    most m a h g e f = omega (arith, e, f)

-- ---- no fault

abbrev decide : Bool → Option ℕ → Option ℕ → Bool → Option Fault
decide empty right level high = if empty then Some (in_code 0 6) else in_code_or 6 right (in_code_or 7 level (if high then None else Some of_high))

-- Steps that sit where they may, agree with the callees, name what is there, and end, are the instructions of valid code.
pub no_fault : (w : World) (k : ℕ) (p : Procedure) (ss : List Step) → (length (instrs_of ss) ≡ 0 → ⊥) → Sits [] 0 ss → Agree (callees_of w p) ss → ReturnAll 0 ss
    → NameThere w k p ss → Ends ss → steps_size ss ≡ length p.code → greatest 0 ss ≡ p.high → fault_among w k p (instrs_of ss) ≡ None
no_fault w k p ss m f a r t e d g =
    let is : List Instr = instrs_of ss in
    let all : List Point = marks 0 0 ss in
    let ahead : Ahead all 0 0 ss = λ j n x. hits-marks 0 0 j n ss x in
    let past : Past all 0 [] = λ j n x. absurd x in
    let right : first_not (is_right w k p all) all ≡ None = rights w k p all [] 0 0 ss f t e (start (steps_size ss) (length p.code) d) ahead past in
    let level : first_not (is_level all) all ≡ None = levels all [] 0 0 ss f r ahead past in
    let high : same_height (highest (pos 0) all) (pos p.high) ≡ true =
    ap (λ (x : ℤ). same_height x (pos p.high)) (highest-marks [] 0 0 0 ss (omega arith) f)
    ∙ eq-eqb (max 0 (greatest 0 ss)) p.high (top (greatest 0 ss) p.high g) in
    ap (λ (ps : List Point). decide (length is == 0) (first_not (is_right w k p ps) ps) (first_not (is_level ps) ps) (same_height (highest (pos 0) ps) (pos p.high)))
    (points-marks (callees_of w p) [] 0 0 ss a f)
    ∙ ap (λ (b : Bool). decide b (first_not (is_right w k p all) all) (first_not (is_level all) all) (same_height (highest (pos 0) all) (pos p.high)))
    (ne_eqb (length is) 0 m)
    ∙ ap (λ (o : Option ℕ). decide false o (first_not (is_level all) all) (same_height (highest (pos 0) all) (pos p.high))) right
    ∙ ap (λ (o : Option ℕ). decide false None o (same_height (highest (pos 0) all) (pos p.high))) level
    ∙ ap (decide false None None) high
  where
    start : (x y : ℕ) → x ≡ y → 0 + x ≡ y
    start x y e = omega (arith, e)

    top : (x y : ℕ) → x ≡ y → max 0 x ≡ y
    top x y e = omega (arith, e)
