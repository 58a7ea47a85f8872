-- How flows that are put together stand, by how each of them does.
use Rattle.std.specs.Prelude.{◌≡◌, refl, ℕ, suc, ◌+◌, ◌-◌, ℤ, pos, negsuc, List, [], ◌∷◌, ◌++◌, Option, Some, None, ◌⊎◌}
use Rattle.std.proofs.Common.{sym, ◌∙◌, ap, subst, arith, inl, inr}
use Rattle.m2_base.specs.Statics.Cells.{capped}
use Rattle.code_form.specs.declared.instr.Instr.TheVariants.{Jump, JumpFalse}
use Rattle.code_form.specs.Bytes.{size}
use Rattle.code_form.specs.Heights.{Step, after_step}
use Rattle.code_form.specs.Valid.{jump_of}
use Rattle.block_code.specs.Heights.{Fine, Jumps, Moves, Reaches}
use Rattle.block_code.specs.Parts.{Part, Spot, plain_step, steps_size}
use Rattle.block_code.specs.Flows.{Flow, back, choose, counted, exit, for_ever, in_with, jump_size, nothing, straight, until_true, when, while_true, with_cell, ◌⨾◌}
use Rattle.block_code.specs.FlowHeights.{Behind, Goes, Has, KeepsHeight, Leads, Stands, behind, farther, passed}

-- ---- a part stands wherever it is put

leads : (o j h : ℕ) (ss : List Step) (k : ℕ) → Reaches j h ss k → Leads o j h ss k
leads o j h [] k r = inl r
leads o j h (s ∷ ss) k (inl r) = inl r
leads o j h (s ∷ ss) k (inr r) = inr (r.0, leads o (j - size s.instr) (after_step h s) ss k r.1)

goes : (b : Behind) (o h : ℕ) (t : Option (ℤ × ℕ)) (after : ℕ) (ss : List Step) → Jumps h t after ss → Goes b o h t after ss
goes b o h None after ss r = tt
goes b o h (Some (pos j, gone)) after ss r = (r.0, leads o j after ss (h - gone) r.1)
goes b o h (Some (negsuc j, gone)) after ss r = absurd r

pub stands : (b : Behind) (o h : ℕ) (ss : List Step) (k : ℕ) → Fine h ss k → Stands b o h ss k
stands b o h [] k f = f
stands b o h (s ∷ ss) k f =
    (f.0, goes (passed b h s) o h (jump_of s.instr) (after_step h s) ss f.1, stands (passed b h s) o (after_step h s) ss k f.2)

-- ---- one after the other

leads-here : (o h : ℕ) (ss : List Step) (k : ℕ) → h ≡ k → Leads o 0 h ss k
leads-here o h [] k e = inl (refl, e)
leads-here o h (s ∷ ss) k e = inl (refl, e)

-- the exits of a, p bytes behind its end, go on through c
leads-append : (o p j h l k : ℕ) (b : Behind) (o' : ℕ) (a c : List Step) → Stands b o' h a l → Leads o p l c 0 → Leads p j h a k → Leads o j h (a ++ c) k
leads-append o p j h l k b o' [] c f x (inl r) =
    let P : ℕ → Type 0 = λ n. Leads o n h c k in subst P (sym r.0) (leads-here o h c k r.1)
leads-append o p j h l k b o' [] c f x (inr r) =
    let P : ℕ → Type 0 = λ n. Leads o n h c k in
    let Q : ℕ → Type 0 = λ n. Leads o p h c n in
    let R : ℕ → Type 0 = λ n. Leads o p n c 0 in
    subst P (sym r.0) (subst Q (sym r.1) (subst R (sym f) x))
leads-append o p j h l k b o' (s ∷ ss) c f x (inl r) = inl r
leads-append o p j h l k b o' (s ∷ ss) c f x (inr r) =
    inr (r.0, leads-append o p (j - size s.instr) (after_step h s) l k (passed b h s) o' ss c f.2 x r.1)

goes-append : (b : Behind) (o p h l : ℕ) (t : Option (ℤ × ℕ)) (after : ℕ) (b' : Behind) (o' : ℕ) (a c : List Step) → Stands b' o' after a l → Leads o p l c 0
    → Goes b p h t after a → Goes b o h t after (a ++ c)
goes-append b o p h l None after b' o' a c f x r = tt
goes-append b o p h l (Some (pos j, gone)) after b' o' a c f x r = (r.0, leads-append o p j after l (h - gone) b' o' a c f x r.1)
goes-append b o p h l (Some (negsuc j, gone)) after b' o' a c f x r = r

pub stands-append : (b : Behind) (o p h l k : ℕ) (a c : List Step) → Stands b p h a l → Leads o p l c 0 → Stands (behind b h a) o l c k
    → Stands b o h (a ++ c) k
stands-append b o p h l k [] c f x g = let P : ℕ → Type 0 = λ n. Stands b o n c k in subst P (sym f) g
stands-append b o p h l k (s ∷ ss) c f x g = (
  f.0,
  goes-append (passed b h s) o p h l (jump_of s.instr) (after_step h s) (passed b h s) p ss c f.2 x f.1,
  stands-append (passed b h s) o p (after_step h s) l k ss c f.2 x g,
)

-- over all of c, and o bytes more
pub leads-out : (o h : ℕ) (c : List Step) → Leads o (o + steps_size c) h c 0
leads-out o h [] = inr (omega arith, refl)
leads-out o h (s ∷ ss) =
    inr (
      omega arith,
      let P : ℕ → Type 0 = λ n. Leads o n (after_step h s) ss 0 in
          subst P (over o (size s.instr) (steps_size ss)) (leads-out o (after_step h s) ss),
    )
  where
    over : (o m n : ℕ) → o + n ≡ (o + (m + n)) - m
    over o m n = omega arith

-- over all of a, and j bytes more in c
pub leads-over : (b : Behind) (o p j h l k : ℕ) (a c : List Step) → Stands b p h a l → Leads o j l c k → Leads o (steps_size a + j) h (a ++ c) k
leads-over b o p j h l k [] c f r =
    let P : ℕ → Type 0 = λ n. Leads o (0 + j) n c k in
    let Q : ℕ → Type 0 = λ n. Leads o n l c k in
    subst P (sym f) (subst Q (zero_add j) r)
  where
    zero_add : (n : ℕ) → n ≡ 0 + n
    zero_add n = omega arith
leads-over b o p j h l k (s ∷ ss) c f r =
    inr (
      omega arith,
      let P : ℕ → Type 0 = λ n. Leads o n (after_step h s) (ss ++ c) k in
          subst P (over (size s.instr) (steps_size ss) j) (leads-over (passed b h s) o p j (after_step h s) l k ss c f.2 r),
    )
  where
    over : (m n j : ℕ) → n + j ≡ ((m + n) + j) - m
    over m n j = omega arith

-- what was behind is behind still, by the steps' size farther
has-farther : (n d k : ℕ) (b : Behind) → Has d k b → Has (d + n) k (farther n b)
has-farther n d k [] r = absurd r
has-farther n d k (p ∷ ps) (inl r) = inl (ap (λ m. m + n) r.0, r.1)
has-farther n d k (p ∷ ps) (inr r) = inr (has-farther n d k ps r)

pub has-behind : (d k h : ℕ) (b : Behind) (a : List Step) → Has d k b → Has (d + steps_size a) k (behind b h a)
has-behind d k h b [] r = let P : ℕ → Type 0 = λ n. Has n k b in subst P (plus d) r
  where
    plus : (n : ℕ) → n ≡ n + 0
    plus n = omega arith
has-behind d k h b (s ∷ ss) r =
    let P : ℕ → Type 0 = λ n. Has n k (behind (passed b h s) (after_step h s) ss) in
    subst P (over d (size s.instr) (steps_size ss)) (has-behind (d + size s.instr) k (after_step h s) (passed b h s) ss (inr (has-farther (size s.instr) d k b r)))
  where
    over : (d m n : ℕ) → (d + m) + n ≡ d + (m + n)
    over d m n = omega arith

-- the place where steps began is behind them
pub has-start : (h : ℕ) (b : Behind) (s : Step) (ss : List Step) → Has (steps_size (s ∷ ss)) h (behind b h (s ∷ ss))
has-start h b s ss = has-behind (size s.instr) h (after_step h s) (passed b h s) ss (inl (zero_add (size s.instr), refl))
  where
    zero_add : (n : ℕ) → 0 + n ≡ n
    zero_add n = omega arith

-- ---- the statements' code, wherever it is put

leads-end : (b : Behind) (o h l : ℕ) (a : List Step) → Stands b o h a l → Leads o (steps_size a) h a l
leads-end b o h l [] f = inl (refl, f)
leads-end b o h l (s ∷ ss) f =
    inr (
      omega arith,
      let P : ℕ → Type 0 = λ n. Leads o n (after_step h s) ss l in
          subst P (rest (size s.instr) (steps_size ss)) (leads-end (passed b h s) o (after_step h s) l ss f.2),
    )
  where
    rest : (m n : ℕ) → n ≡ (m + n) - m
    rest m n = omega arith

-- a place that is marked: it is here, or d bytes behind at height k
abbrev Marked : (d k h : ℕ) → Behind → Type 0
Marked d k h b = Has d k b ⊎ ((d ≡ 0) × (h ≡ k))

marked-step : (d k h : ℕ) (b : Behind) (s : Step) → Marked d k h b → Has (d + size s.instr) k (passed b h s)
marked-step d k h b s (inl r) = inr (has-farther (size s.instr) d k b r)
marked-step d k h b s (inr r) = inl (ap (λ m. m + size s.instr) (sym r.0), r.1)

marked-over : (d k h l o : ℕ) (b : Behind) (a : List Step) → Marked d k h b → Stands b o h a l → Marked (d + steps_size a) k l (behind b h a)
marked-over d k h l o b [] (inl r) f = inl (let P : ℕ → Type 0 = λ n. Has n k b in subst P (plus d) r)
  where
    plus : (n : ℕ) → n ≡ n + 0
    plus n = omega arith
marked-over d k h l o b [] (inr r) f = inr (omega (arith, r.0), sym f ∙ r.1)
marked-over d k h l o b (s ∷ ss) m f =
    let P : ℕ → Type 0 = λ n. Marked n k l (behind (passed b h s) (after_step h s) ss) in
    subst P (over d (size s.instr) (steps_size ss))
    (marked-over (d + size s.instr) k (after_step h s) l o (passed b h s) ss (inl (marked-step d k h b s m)) f.2)
  where
    over : (d m n : ℕ) → (d + m) + n ≡ d + (m + n)
    over d m n = omega arith

pub straight-flows : (p : Part) → Moves 0 p 0 → KeepsHeight (straight p)
straight-flows p f = λ at b o. stands b o 0 (p at).code 0 (f at)

pub nothing-flows : KeepsHeight nothing
nothing-flows = λ at b o. refl

pub exit-flows : KeepsHeight exit
exit-flows = λ at b o. (omega arith, (omega arith, inr (refl, refl)), refl)

pub then-flows : (p q : Flow) → KeepsHeight p → KeepsHeight q → KeepsHeight (p ⨾ q)
then-flows p q f g = λ at b o.
    let c : List Step = (q (p at).next).code o in
    let a : List Step = (p at).code (o + steps_size c) in
    stands-append b o (o + steps_size c) 0 0 0 a c (f at b (o + steps_size c)) (leads-out o 0 c) (g (p at).next (behind b 0 a) o)

pub in_with-flows : (cell : ℕ) (f : Flow) → KeepsHeight f → KeepsHeight (in_with cell f)
in_with-flows cell f g = λ at b o. g (record at { withs = cell ∷ at.withs }) b o

pub with_cell-flows : (make : ℕ → Flow) → ((t : ℕ) → KeepsHeight (make t)) → KeepsHeight (with_cell make)
with_cell-flows make g = λ at b o. g at.cell (record at { cell = capped (at.cell + 1) }) b o

-- a test, and what follows it
tested : (b : Behind) (o : ℕ) (t c : List Step) → Fine 0 t 1 → Stands (behind b 0 t) o 1 c 0 → Stands b o 0 (t ++ c) 0
tested b o t c f g = stands-append b o (o + steps_size c) 0 1 0 t c (stands b (o + steps_size c) 0 t 1 f) (leads-out o 1 c) g

pub when-flows : (t : Part) (f : Flow) → Moves 0 t 1 → KeepsHeight f → KeepsHeight (when t f)
when-flows t f m g = λ at b o.
    let code : List Step = (t at).code in
    let inner : List Step = (f (t at).next).code o in
    let s : Step = plain_step (JumpFalse (pos (steps_size inner))) in
    let law : Stands (passed (behind b 0 code) 1 s) o 0 inner 0 = g (t at).next (passed (behind b 0 code) 1 s) o in
    tested b o code (s ∷ inner) (m at) (omega arith, (omega arith, leads-end (passed (behind b 0 code) 1 s) o 0 0 inner law), law)

pub choose-flows : (t : Part) (f g : Flow) → Moves 0 t 1 → KeepsHeight f → KeepsHeight g → KeepsHeight (choose t f g)
choose-flows t f g m u v = λ at b o.
    let code : List Step = (t at).code in
    let b' : Spot = (f (t at).next).next in
    let after : List Step = (g b').code o in
    let p : ℕ = o + steps_size after + jump_size in
    let inner : List Step = (f (t at).next).code p in
    let j : Step = plain_step (Jump (pos (steps_size after))) in
    let s : Step = plain_step (JumpFalse (pos (steps_size inner + jump_size))) in
    let b1 : Behind = passed (behind b 0 code) 1 s in
    let b2 : Behind = passed (behind b1 0 inner) 0 j in
    let law : Stands b1 p 0 inner 0 = u (t at).next b1 p in
    let other : Stands b2 o 0 after 0 = v b' b2 o in
    let rest : Stands (behind b1 0 inner) o 0 (j ∷ after) 0 = (omega arith, (omega arith, leads-end b2 o 0 0 after other), other) in
    tested b o code (s ∷ (inner ++ (j ∷ after))) (m at) (
      omega arith,
      (omega arith, leads-over b1 o p jump_size 0 0 0 inner (j ∷ after) law (inr (omega arith, leads-here o 0 after 0 refl))),
      stands-append b1 o p 0 0 0 inner (j ∷ after) law (exits o after) rest,
    )
  where
    exits : (o : ℕ) (c : List Step) → Leads o (o + steps_size c + jump_size) 0 (plain_step (Jump (pos (steps_size c))) ∷ c) 0
    exits o c = inr (omega arith, let P : ℕ → Type 0 = λ n. Leads o n 0 c 0 in subst P (less (o + steps_size c)) (leads-out o 0 c))
      where
        less : (n : ℕ) → n ≡ (n + 5) - 5
        less n = omega arith

-- a jump back at the end of a loop
backed : (b : Behind) (o d n : ℕ) → Has d 0 (passed b 0 (back Jump n)) → d ≡ n + 5 → Stands b o 0 (back Jump n ∷ []) 0
backed b o d n r e =
    (omega arith, (omega arith, let P : ℕ → Type 0 = λ k. Has k 0 (passed b 0 (back Jump n)) in subst P (e ∙ five n) r), refl)
  where
    five : (n : ℕ) → n + 5 ≡ suc (n + 4)
    five n = omega arith

pub for_ever-flows : (f : Flow) → KeepsHeight f → KeepsHeight (for_ever f)
for_ever-flows f g = λ at b o.
    let inner : List Step = (f at).code jump_size in
    let law : Stands b jump_size 0 inner 0 = g at b jump_size in
    let m : Marked (0 + steps_size inner) 0 0 (behind b 0 inner) = marked-over 0 0 0 0 jump_size b inner (inr (refl, refl)) law in
    stands-append b o jump_size 0 0 0 inner (back Jump (steps_size inner) ∷ []) law (inr (omega arith, inl (refl, refl)))
    (backed (behind b 0 inner) o ((0 + steps_size inner) + 5) (steps_size inner)
    (marked-step (0 + steps_size inner) 0 0 (behind b 0 inner) (back Jump (steps_size inner)) m) (omega arith))

pub while-flows : (t : Part) (f : Flow) → Moves 0 t 1 → KeepsHeight f → KeepsHeight (while_true t f)
while-flows t f m g = λ at b o.
    let code : List Step = (t at).code in
    let p : ℕ = o + jump_size in
    let inner : List Step = (f (t at).next).code p in
    let s : Step = plain_step (JumpFalse (pos (steps_size inner + jump_size))) in
    let n : ℕ = steps_size code + jump_size + steps_size inner in
    let e : Step = back Jump n in
    let b1 : Behind = passed (behind b 0 code) 1 s in
    let law : Stands b1 p 0 inner 0 = g (t at).next b1 p in
    let m0 : Marked (0 + steps_size code) 0 1 (behind b 0 code) = marked-over 0 0 0 1 o b code (inr (refl, refl)) (stands b o 0 code 1 (m at)) in
    let m1 : Has ((0 + steps_size code) + 5) 0 b1 = marked-step (0 + steps_size code) 0 1 (behind b 0 code) s m0 in
    let m2 : Marked (((0 + steps_size code) + 5) + steps_size inner) 0 0 (behind b1 0 inner) = marked-over ((0 + steps_size code) + 5) 0 0 0 p b1 inner (inl m1) law in
    tested b o code (s ∷ (inner ++ (e ∷ []))) (m at) (
      omega arith,
      (omega arith, leads-over b1 o p jump_size 0 0 0 inner (e ∷ []) law (inr (omega arith, inl (refl, refl)))),
      stands-append b1 o p 0 0 0 inner (e ∷ []) law (exits o n)
          (backed (behind b1 0 inner) o ((((0 + steps_size code) + 5) + steps_size inner) + 5) n
          (marked-step (((0 + steps_size code) + 5) + steps_size inner) 0 0 (behind b1 0 inner) e m2) (omega arith)),
    )
  where
    exits : (o n : ℕ) → Leads o (o + jump_size) 0 (back Jump n ∷ []) 0
    exits o n = inr (omega arith, inr (less o, refl))
      where
        less : (n : ℕ) → (n + 5) - 5 ≡ n
        less n = omega arith

-- a jump back where a test fails
backed_if : (b : Behind) (o d n : ℕ) → Has d 0 (passed b 1 (back JumpFalse n)) → d ≡ n + 5 → Stands b o 1 (back JumpFalse n ∷ []) 0
backed_if b o d n r e =
    (omega arith, (omega arith, let P : ℕ → Type 0 = λ k. Has k 0 (passed b 1 (back JumpFalse n)) in subst P (e ∙ five n) r), refl)
  where
    five : (n : ℕ) → n + 5 ≡ suc (n + 4)
    five n = omega arith

pub until-flows : (f : Flow) (t : Part) → KeepsHeight f → Moves 0 t 1 → KeepsHeight (until_true f t)
until-flows f t g m = λ at b o.
    let at' : Spot = (f at).next in
    let code : List Step = (t at').code in
    let p : ℕ = o + steps_size code + jump_size in
    let inner : List Step = (f at).code p in
    let n : ℕ = steps_size inner + steps_size code in
    let e : Step = back JumpFalse n in
    let law : Stands b p 0 inner 0 = g at b p in
    let b1 : Behind = behind b 0 inner in
    let test : Stands b1 (o + 5) 0 code 1 = stands b1 (o + 5) 0 code 1 (m at') in
    let m0 : Marked (0 + steps_size inner) 0 0 b1 = marked-over 0 0 0 0 p b inner (inr (refl, refl)) law in
    let m1 : Marked ((0 + steps_size inner) + steps_size code) 0 1 (behind b1 0 code) = marked-over (0 + steps_size inner) 0 0 1 (o + 5) b1 code m0 test in
    stands-append b o p 0 0 0 inner (code ++ (e ∷ [])) law (exits b1 o n code test)
    (stands-append b1 o (o + 5) 0 1 0 code (e ∷ []) test (last o n 1)
    (backed_if (behind b1 0 code) o (((0 + steps_size inner) + steps_size code) + 5) n
    (marked-step ((0 + steps_size inner) + steps_size code) 0 1 (behind b1 0 code) e m1) (omega arith)))
  where
    last : (o n h : ℕ) → Leads o (o + 5) h (back JumpFalse n ∷ []) 0
    last o n h = inr (omega arith, inr (less o, refl))
      where
        less : (n : ℕ) → (n + 5) - 5 ≡ n
        less n = omega arith

    exits : (b : Behind) (o n : ℕ) (code : List Step) → Stands b (o + 5) 0 code 1 → Leads o (o + steps_size code + jump_size) 0 (code ++ (back JumpFalse n ∷ [])) 0
    exits b o n code test =
        let P : ℕ → Type 0 = λ k. Leads o k 0 (code ++ (back JumpFalse n ∷ [])) 0 in
        subst P (sum o (steps_size code)) (leads-over b o (o + 5) (o + 5) 0 1 0 code (back JumpFalse n ∷ []) test (last o n 1))
      where
        sum : (o m : ℕ) → m + (o + 5) ≡ o + m + 5
        sum o m = omega arith

pub counted-flows : (first : Part) (f : Flow) (again step : Part) → Moves 0 first 1 → KeepsHeight f → Moves 0 again 1 → Moves 0 step 0
    → KeepsHeight (counted first f again step)
counted-flows first f again step mf g ma ms = λ at b o.
    let at1 : Spot = (first at).next in
    let at2 : Spot = (f at1).next in
    let at3 : Spot = (again at2).next in
    let t : List Step = (first at).code in
    let a : List Step = (again at2).code in
    let s : List Step = (step at3).code in
    let q : ℕ = steps_size a + jump_size + steps_size s + jump_size in
    let p : ℕ = o + q in
    let inner : List Step = (f at1).code p in
    let n : ℕ = steps_size inner + steps_size a + jump_size + steps_size s in
    let e : Step = back Jump n in
    let j : Step = plain_step (JumpFalse (pos (steps_size s + jump_size))) in
    let i : Step = plain_step (JumpFalse (pos (steps_size inner + q))) in
    let tail : List Step = a ++ (j ∷ (s ++ (e ∷ []))) in
    let b1 : Behind = passed (behind b 0 t) 1 i in
    let law : Stands b1 p 0 inner 0 = g at1 b1 p in
    let b2 : Behind = behind b1 0 inner in
    let test : Stands b2 (o + (5 + (steps_size s + 5))) 0 a 1 = stands b2 (o + (5 + (steps_size s + 5))) 0 a 1 (ma at2) in
    let b3 : Behind = passed (behind b2 0 a) 1 j in
    let stepped : Stands b3 (o + 5) 0 s 0 = stands b3 (o + 5) 0 s 0 (ms at3) in
    let m0 : Marked (0 + steps_size inner) 0 0 b2 = marked-over 0 0 0 0 p b1 inner (inr (refl, refl)) law in
    let m1 : Marked ((0 + steps_size inner) + steps_size a) 0 1 (behind b2 0 a) = marked-over (0 + steps_size inner) 0 0 1 (o + (5 + (steps_size s + 5))) b2 a m0 test in
    let m2 : Has (((0 + steps_size inner) + steps_size a) + 5) 0 b3 = marked-step ((0 + steps_size inner) + steps_size a) 0 1 (behind b2 0 a) j m1 in
    let m3 : Marked ((((0 + steps_size inner) + steps_size a) + 5) + steps_size s) 0 0 (behind b3 0 s) =
    marked-over (((0 + steps_size inner) + steps_size a) + 5) 0 0 0 (o + 5) b3 s (inl m2) stepped in
    let end : Stands (behind b3 0 s) o 0 (e ∷ []) 0 =
    backed (behind b3 0 s) o (((((0 + steps_size inner) + steps_size a) + 5) + steps_size s) + 5) n
    (marked-step ((((0 + steps_size inner) + steps_size a) + 5) + steps_size s) 0 0 (behind b3 0 s) e m3) (omega arith) in
    let rest : Stands b3 o 0 (s ++ (e ∷ [])) 0 = stands-append b3 o (o + 5) 0 0 0 s (e ∷ []) stepped (last o n) end in
    let ends : Leads o 5 0 (e ∷ []) 0 = inr (omega arith, inl (refl, refl)) in
    let over_step : Leads o (steps_size s + 5) 0 (s ++ (e ∷ [])) 0 = leads-over b3 o (o + 5) 5 0 0 0 s (e ∷ []) stepped ends in
    let again_test : Stands (behind b2 0 a) o 1 (j ∷ (s ++ (e ∷ []))) 0 = (omega arith, (omega arith, over_step), rest) in
    let exit_step : Leads o (steps_size s + (o + 5)) 0 (s ++ (e ∷ [])) 0 = leads-over b3 o (o + 5) (o + 5) 0 0 0 s (e ∷ []) stepped (last o n) in
    let exit_test : Leads o (5 + (steps_size s + (o + 5))) 1 (j ∷ (s ++ (e ∷ []))) 0 =
    inr (omega arith, let P : ℕ → Type 0 = λ k. Leads o k 0 (s ++ (e ∷ [])) 0 in subst P (less (steps_size s + (o + 5))) exit_step) in
    let exit_again : Leads o (steps_size a + (5 + (steps_size s + (o + 5)))) 0 tail 0 =
    leads-over b2 o (o + (5 + (steps_size s + 5))) (5 + (steps_size s + (o + 5))) 0 1 0 a (j ∷ (s ++ (e ∷ []))) test exit_test in
    let exits : Leads o p 0 tail 0 =
    let P : ℕ → Type 0 = λ k. Leads o k 0 tail 0 in subst P (sum o (steps_size a) (steps_size s)) exit_again in
    let after : Stands b2 o 0 tail 0 =
    stands-append b2 o (o + (5 + (steps_size s + 5))) 0 1 0 a (j ∷ (s ++ (e ∷ []))) test
    (let P : ℕ → Type 0 = λ k. Leads o k 1 (j ∷ (s ++ (e ∷ []))) 0 in subst P (sum' o (steps_size s)) exit_test) again_test in
    let end_step : Leads o (5 + (steps_size s + 5)) 1 (j ∷ (s ++ (e ∷ []))) 0 =
    inr (omega arith, let P : ℕ → Type 0 = λ k. Leads o k 0 (s ++ (e ∷ [])) 0 in subst P (less (steps_size s + 5)) over_step) in
    let end_again : Leads o (steps_size a + (5 + (steps_size s + 5))) 0 tail 0 =
    leads-over b2 o (o + (5 + (steps_size s + 5))) (5 + (steps_size s + 5)) 0 1 0 a (j ∷ (s ++ (e ∷ []))) test end_step in
    let over_all : Leads o q 0 tail 0 = let P : ℕ → Type 0 = λ k. Leads o k 0 tail 0 in subst P (sum'' (steps_size a) (steps_size s)) end_again in
    tested b o t (i ∷ (inner ++ tail)) (mf at) (
      omega arith,
      (omega arith, leads-over b1 o p q 0 0 0 inner tail law over_all),
      stands-append b1 o p 0 0 0 inner tail law exits after,
    )
  where
    last : (o n : ℕ) → Leads o (o + 5) 0 (back Jump n ∷ []) 0
    last o n = inr (omega arith, inr (less' o, refl))
      where
        less' : (n : ℕ) → (n + 5) - 5 ≡ n
        less' n = omega arith

    less : (n : ℕ) → n ≡ (5 + n) - 5
    less n = omega arith

    sum : (o a s : ℕ) → a + (5 + (s + (o + 5))) ≡ o + (a + 5 + s + 5)
    sum o a s = omega arith

    sum' : (o s : ℕ) → 5 + (s + (o + 5)) ≡ o + (5 + (s + 5))
    sum' o s = omega arith

    sum'' : (a s : ℕ) → a + (5 + (s + 5)) ≡ a + 5 + s + 5
    sum'' a s = omega arith
