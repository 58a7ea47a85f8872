-- How parts that are put together move the height, by how each of them does.
use Rattle.std.specs.Prelude.{◌≡◌, refl, ℕ, ◌+◌, ◌-◌, ◌≤◌, nat_le, ℤ, pos, negsuc, List, [], ◌∷◌, ◌++◌, map, Option, Some, None, if◌then◌else◌, Bool, true, false}
use Rattle.std.proofs.lemmas.Bool.{leb-true}
use Rattle.std.proofs.Common.{sym, ap, subst, arith, inl, inr}
use Rattle.code_form.specs.declared.instr.Instr.TheVariants.{AndJump, OrJump}
use Rattle.code_form.specs.Bytes.{size}
use Rattle.code_form.specs.Heights.{Step, after_step}
use Rattle.code_form.specs.Valid.{jump_of}
use Rattle.code_form.specs.declared.instr.Instr.{Instr}
use Rattle.block_code.specs.Coded.{characters}
use Rattle.block_code.specs.Heights.{Fine, Jumps, Moves, Reaches}
use Rattle.block_code.specs.Parts.{Part, call, none, plain, plain_step, skip, steps_size, text, ◌⨟◌}
use Rattle.m2_base.specs.Statics.Assignable.{takes}

Reaches-here : (h : ℕ) (b : List Step) (k : ℕ) → h ≡ k → Reaches 0 h b k
Reaches-here h [] k e = (refl, e)
Reaches-here h (s ∷ ss) k e = inl (refl, e)

Reaches-append : (a b : List Step) (j h k : ℕ) → Reaches j h a k → Reaches j h (a ++ b) k
Reaches-append [] b j h k r = let P : ℕ → Type 0 = λ n. Reaches n h b k in subst P (sym r.0) (Reaches-here h b k r.1)
Reaches-append (s ∷ ss) b j h k (inl r) = inl r
Reaches-append (s ∷ ss) b j h k (inr r) = inr (r.0, Reaches-append ss b (j - size s.instr) (after_step h s) k r.1)

Jumps-append : (h : ℕ) (o : Option (ℤ × ℕ)) (after : ℕ) (a b : List Step) → Jumps h o after a → Jumps h o after (a ++ b)
Jumps-append h None after a b r = tt
Jumps-append h (Some (pos j, gone)) after a b r = (r.0, Reaches-append a b j after (h - gone) r.1)
Jumps-append h (Some (negsuc j, gone)) after a b r = absurd r

pub Fine-append : (a b : List Step) (h k l : ℕ) → Fine h a k → Fine k b l → Fine h (a ++ b) l
Fine-append [] b h k l p q = let P : ℕ → Type 0 = λ n. Fine n b l in subst P (sym p) q
Fine-append (s ∷ ss) b h k l p q =
    (p.0, Jumps-append h (jump_of s.instr) (after_step h s) ss b p.1, Fine-append ss b (after_step h s) k l p.2 q)

raised : (h n : ℕ) (s : Step) → s.takes ≤ h → after_step (h + n) s ≡ after_step h s + n
raised h n s p = omega arith

Reaches-raise : (a : List Step) (j h k l n : ℕ) → Fine h a l → Reaches j h a k → Reaches j (h + n) a (k + n)
Reaches-raise [] j h k l n f r = (r.0, ap (λ m. m + n) r.1)
Reaches-raise (s ∷ ss) j h k l n f (inl r) = inl (r.0, ap (λ m. m + n) r.1)
Reaches-raise (s ∷ ss) j h k l n f (inr r) =
    inr (
      r.0,
      let P : ℕ → Type 0 = λ m. Reaches (j - size s.instr) m ss (k + n) in
          subst P (sym (raised h n s f.0)) (Reaches-raise ss (j - size s.instr) (after_step h s) k l n f.2 r.1),
    )

lowered : (h n gone : ℕ) → gone ≤ h → (h + n) - gone ≡ (h - gone) + n
lowered h n gone p = omega arith

Jumps-raise : (h n : ℕ) (o : Option (ℤ × ℕ)) (after l : ℕ) (ss : List Step) → Fine after ss l → Jumps h o after ss → Jumps (h + n) o (after + n) ss
Jumps-raise h n None after l ss f r = tt
Jumps-raise h n (Some (pos j, gone)) after l ss f r = (
  omega (arith, r.0),
  let P : ℕ → Type 0 = λ m. Reaches j (after + n) ss m in
      subst P (sym (lowered h n gone r.0)) (Reaches-raise ss j after (h - gone) l n f r.1),
)
Jumps-raise h n (Some (negsuc j, gone)) after l ss f r = absurd r

pub Fine-raise : (a : List Step) (h k n : ℕ) → Fine h a k → Fine (h + n) a (k + n)
Fine-raise [] h k n p = ap (λ m. m + n) p
Fine-raise (s ∷ ss) h k n p = (
  omega (arith, p.0),
  (let P : ℕ → Type 0 = λ m. Jumps (h + n) (jump_of s.instr) m ss in
      subst P (sym (raised h n s p.0)) (Jumps-raise h n (jump_of s.instr) (after_step h s) k ss p.2 p.1)),
  (let P : ℕ → Type 0 = λ m. Fine m ss (k + n) in
      subst P (sym (raised h n s p.0)) (Fine-raise ss (after_step h s) k n p.2)),
)

-- the end of steps is reached over all of them
pub Reaches-end : (a : List Step) (h k : ℕ) → Fine h a k → Reaches (steps_size a) h a k
Reaches-end [] h k f = (refl, f)
Reaches-end (s ∷ ss) h k f =
    inr (
      omega arith,
      let P : ℕ → Type 0 = λ m. Reaches m (after_step h s) ss k in
          subst P (back_to (size s.instr) (steps_size ss)) (Reaches-end ss (after_step h s) k f.2),
    )
  where
    back_to : (m n : ℕ) → n ≡ (m + n) - m
    back_to m n = omega arith

pub Moves-none : (m : ℕ) → Moves m none m
Moves-none m = λ at. refl

pub Moves-then : (p q : Part) (l m n : ℕ) → Moves l p m → Moves m q n → Moves l (p ⨟ q) n
Moves-then p q l m n f g = λ at. Fine-append (p at).code (q (p at).next).code l m n (f at) (g (p at).next)

pub Moves-raise : (p : Part) (m n k : ℕ) → Moves m p n → Moves (m + k) p (n + k)
Moves-raise p m n k f = λ at. Fine-raise (p at).code m n k (f at)

-- ---- steps without jumps

abbrev pub is_no_jump : Option (ℤ × ℕ) → Bool
is_no_jump None = true
is_no_jump (Some j) = false

-- the height at which such steps end, where each finds what it takes
abbrev pub ends_at : ℕ → List Step → Option ℕ
ends_at h [] = Some h
ends_at h (s ∷ ss) = if is_no_jump (jump_of s.instr) then (if nat_le s.takes h then ends_at (after_step h s) ss else None) else None

no_jump : (h : ℕ) (o : Option (ℤ × ℕ)) (after : ℕ) (ss : List Step) → is_no_jump o ≡ true → Jumps h o after ss
no_jump h None after ss e = tt
no_jump h (Some j) after ss e = absurd cc

after_test : (h k : ℕ) (s : Step) (ss : List Step) (c b : Bool) → is_no_jump (jump_of s.instr) ≡ c → nat_le s.takes h ≡ b
    → (ends_at (after_step h s) ss ≡ Some k → Fine (after_step h s) ss k)
    → (if c then (if b then ends_at (after_step h s) ss else None) else None) ≡ Some k → Fine h (s ∷ ss) k
after_test h k s ss true true u t rest f = (leb-true s.takes h t, no_jump h (jump_of s.instr) (after_step h s) ss u, rest f)
after_test h k s ss true false u t rest f = absurd cc
after_test h k s ss false b u t rest f = absurd cc

pub Fine-ends : (h : ℕ) (a : List Step) (k : ℕ) → ends_at h a ≡ Some k → Fine h a k
Fine-ends h [] k e = cc
Fine-ends h (s ∷ ss) k e =
    after_test h k s ss (is_no_jump (jump_of s.instr)) (nat_le s.takes h) refl refl (λ f. Fine-ends (after_step h s) ss k f) e

-- a list of instructions moves the height as its own fold says
pub plain-moves : (is : List Instr) (m n : ℕ) → ends_at m (map plain_step is) ≡ Some n → Moves m (plain is) n
plain-moves is m n e = λ at. Fine-ends m (map plain_step is) n e

pub call-moves : (i : Instr) (takes leaves : ℕ) → jump_of i ≡ None → Moves takes (call i takes leaves) leaves
call-moves i takes leaves e = λ at.
    (omega arith, (let P : Option (ℤ × ℕ) → Type 0 = λ o. Jumps takes o (takes - takes + leaves) [] in subst P (sym e) tt), omega arith)

pub text-moves : (characters : List ℕ) → Moves 0 (text characters) 1
text-moves characters = λ at. (omega arith, tt, refl)

-- AND and OR: a part that is skipped with the value kept
pub skip-and : (p : Part) → Moves 0 p 1 → Moves 1 (skip AndJump p) 1
skip-and p f = λ at. (omega arith, (omega arith, Reaches-end (p at).code 0 1 (f at)), f at)

pub skip-or : (p : Part) → Moves 0 p 1 → Moves 1 (skip OrJump p) 1
skip-or p f = λ at. (omega arith, (omega arith, Reaches-end (p at).code 0 1 (f at)), f at)
