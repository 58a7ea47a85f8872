-- Taking bytes one by one.
use Rattle.std.proofs.Common.{◌≡◌, ◌≢◌, ℕ, zero, suc, ◌+◌, ◌-◌, ◌*◌, Bool, true, false, cond, List, [], ◌∷◌, ◌++◌, length, take, drop, min, Option, Some, None, refl, sym, ap, ◌∙◌, subst, arith, append_assoc, eqb}
use Rattle.std.specs.Prelude.{slice_get, IfSome, ◌||◌, Result, Ok, Err, OnErr}
use Rattle.std.proofs.lemmas.List.{length-append, length-drop, append-nil}
use Rattle.std.proofs.lemmas.Bool.{false≢true}
use Rattle.stack_machine.specs.declared.reading.Ahead.{Ahead}
use Rattle.stack_machine.specs.declared.op.Kind.{Kind}
use Rattle.stack_machine.specs.declared.op.Kind.TheVariants.{Integer, Cardinal}
use Rattle.stack_machine.specs.InOut.{number_from, is_sign, is_digit, is_negative, behind, front, behind_sign}
use Rattle.stack_machine.specs.Readings.{Taken, Moves, IsOver, coming, window, next_is, most, number_by, number_after, sign_at, digit_at, Passed, Signed, Digits}

abbrev nil : List ℕ
nil = []

pub take_nil : (n : ℕ) → take n nil ≡ nil
take_nil zero = refl
take_nil (suc n) = refl

drop_nil : (n : ℕ) → drop n nil ≡ nil
drop_nil zero = refl
drop_nil (suc n) = refl

some_byte : (x y : ℕ) → Some x ≡ Some y → x ≡ y
some_byte x y e = cc

some_list : (x y : List ℕ) → Some x ≡ Some y → x ≡ y
some_list x y e = cc

some_none : (y : ℕ) → Some y ≡ None → ⊥
some_none y e = cc

-- ---- one byte

no_more : (byte : Option ℕ) (more : ℕ) (l : List ℕ) → byte ≢ None → more ≡ 0 → Moves 1 (record { byte = byte; more = more }) l (record { byte = None; more = more }) (Some l)
no_more None more l some e = absurd (some refl)
no_more (Some b) more l some e = record {
  rest = l;
  left_is = refl;
  taken = 0;
  rest_is = refl;
  coming_is = refl;
  window_is = ap (λ (k : ℕ). take k l) e ∙ sym (ap (λ (k : ℕ). take k l) e);
  within = omega (arith, length-append (b ∷ []) (take more l));
  count = omega arith;
  over = λ none. ap (λ (k : ℕ). take k l) e;
}

at_end : (byte : Option ℕ) (more : ℕ) (l : List ℕ) (left : Option (List ℕ)) → byte ≢ None → None ≡ slice_get l 0 → left ≡ Some (drop 1 l) → Moves 1 (record { byte = byte; more = more }) l (record { byte = None; more = more }) left
at_end None more l left some e is = absurd (some refl)
at_end (Some b) more [] left some e is = record {
  rest = [];
  left_is = is;
  taken = 0;
  rest_is = refl;
  coming_is = refl;
  window_is = refl;
  within = omega (arith, length-append (b ∷ []) (take more []));
  count = omega arith;
  over = λ none. take_nil more;
}
at_end (Some b) more (x ∷ l) left some e is = absurd cc

next_one : (byte : Option ℕ) (more : ℕ) (l : List ℕ) (y : ℕ) (left : Option (List ℕ)) → byte ≢ None → more ≢ 0 → Some y ≡ slice_get l 0 → left ≡ Some (drop 1 l) → Moves 1 (record { byte = byte; more = more }) l (record { byte = Some y; more = more - 1 }) left
next_one None more l y left some positive e is = absurd (some refl)
next_one (Some b) zero l y left some positive e is = absurd (positive refl)
next_one (Some b) (suc more) [] y left some positive e is = absurd cc
next_one (Some b) (suc more) (x ∷ l) y left some positive e is =
    let same : y ≡ x = some_byte y x e in
    let less : suc more - 1 ≡ more = omega arith in
    record {
      rest = l;
      left_is = is;
      taken = 1;
      rest_is = refl;
      coming_is = ap (λ (z : ℕ). z ∷ l) same;
      window_is = ap (λ (z : ℕ). z ∷ take (suc more - 1) l) same ∙ ap (λ (k : ℕ). x ∷ take k l) less;
      within = omega (arith, length-append (b ∷ []) (take (suc more) (x ∷ l)));
      count = omega arith;
      over = λ none. absurd (some_none y none);
    }

pub told_no_more : (byte : Option ℕ) (more : ℕ) (left : Option (List ℕ)) → byte ≢ None → more ≡ 0 → IfSome left (λ l. Moves 1 (record { byte = byte; more = more }) l (record { byte = None; more = more }) left)
told_no_more byte more None some e = tt
told_no_more byte more (Some l) some e = no_more byte more l some e

pub told_end : (byte : Option ℕ) (more : ℕ) (o : Option ℕ) (left left' : Option (List ℕ)) → byte ≢ None → IfSome left (λ l. (o ≡ slice_get l 0) × (left' ≡ Some (drop 1 l))) → o ≡ None → IfSome left (λ l. Moves 1 (record { byte = byte; more = more }) l (record { byte = None; more = more }) left')
told_end byte more o None left' some h e = tt
told_end byte more o (Some l) left' some h e = at_end byte more l left' some (sym e ∙ h.0) h.1

pub told_byte : (byte : Option ℕ) (more : ℕ) (o : Option ℕ) (y : ℕ) (left left' : Option (List ℕ)) → byte ≢ None → more ≢ 0 → IfSome left (λ l. (o ≡ slice_get l 0) × (left' ≡ Some (drop 1 l))) → o ≡ Some y
    → IfSome left (λ l. Moves 1 (record { byte = byte; more = more }) l (record { byte = Some y; more = more - 1 }) left')
told_byte byte more o y None left' some positive h e = tt
told_byte byte more o y (Some l) left' some positive h e = next_one byte more l y left' some positive (sym e ∙ h.0) h.1

-- ---- many bytes

pub drop_twice : (m n : ℕ) (l : List ℕ) → drop n (drop m l) ≡ drop (m + n) l
drop_twice zero n l = ap (λ (k : ℕ). drop k l) (omega arith)
drop_twice (suc m) n [] = drop_nil n ∙ sym (drop_nil (suc m + n))
drop_twice (suc m) n (x ∷ l) = drop_twice m n l ∙ ap (λ (k : ℕ). drop k (x ∷ l)) (more m n) where
  more : (m n : ℕ) → suc (m + n) ≡ suc m + n
  more m n = omega arith

-- taking none
abbrev stay : (a : Ahead) (l : List ℕ) (left : Option (List ℕ)) → left ≡ Some l → IsOver a l → Moves 0 a l a left
stay a l left is over = record { rest = l; left_is = is; taken = 0; rest_is = refl; coming_is = refl; window_is = refl; within = omega arith; count = omega arith; over = over }

-- taking more
abbrev pub follow : (m n : ℕ) (a b c : Ahead) (l : List ℕ) (left left' : Option (List ℕ)) → (p : Moves m a l b left) → Moves n b p.rest c left' → Moves (m + n) a l c left'
follow m n a b c l left left' p q =
    let len : length (window b p.rest) ≡ length (window a l) - m = ap length p.window_is ∙ length-drop m (window a l) in
    let w1 = p.within in
    let w2 = q.within in
    let c1 = p.count in
    let c2 = q.count in
    record {
      rest = q.rest;
      left_is = q.left_is;
      taken = p.taken + q.taken;
      rest_is = q.rest_is ∙ ap (drop q.taken) p.rest_is ∙ drop_twice p.taken q.taken l;
      coming_is = q.coming_is ∙ ap (drop n) p.coming_is ∙ drop_twice m n (coming a l);
      window_is = q.window_is ∙ ap (drop n) p.window_is ∙ drop_twice m n (window a l);
      within = omega (arith, len, w1, w2);
      count = omega (arith, c1, c2);
      over = q.over;
    }

-- the next clause of a source that tells what it has left
pub at_left : (left left' : Option (List ℕ)) (r : List ℕ) (P : List ℕ → Option (List ℕ) → Type 0) → left ≡ Some r → IfSome left (λ l. P l left') → P r left'
at_left left left' r P is h = subst (λ (o : Option (List ℕ)). IfSome o (λ l. P l left')) is h

-- what was taken before a fault
pub taken_then : (n : ℕ) (a b : Ahead) (l : List ℕ) (left left' : Option (List ℕ)) → Moves n a l b left → Taken left left' → (k : ℕ) × (left' ≡ Some (drop k l))
taken_then n a b l left left' p h =
    let t = at_left left left' p.rest (λ r o. (k : ℕ) × (o ≡ Some (drop k r))) p.left_is h in
    (p.taken + t.0, t.1 ∙ ap (λ (r : List ℕ). Some (drop t.0 r)) p.rest_is ∙ ap Some (drop_twice p.taken t.0 l))

-- ---- passing a test

pub record Passing (test : ℕ → Bool) (a : Ahead) (l : List ℕ) (b : Ahead) (left : Option (List ℕ)) : Type 0 where
  pub n : ℕ
  pub moves : Moves n a l b left
  pub same : behind test (window b moves.rest) ≡ behind test (window a l)

pub passing_starts : (test : ℕ → Bool) (a : Ahead) (left : Option (List ℕ)) → IfSome left (λ l. IsOver a l → Passing test a l a left)
passing_starts test a None = tt
passing_starts test a (Some l) = λ over. record { n = 0; moves = stay a l (Some l) refl over; same = refl }

tests : (test : ℕ → Bool) (byte : Option ℕ) (more : ℕ) (r : List ℕ) → next_is test byte ≡ true → behind test (window (record { byte = byte; more = more }) r) ≡ behind test (drop 1 (window (record { byte = byte; more = more }) r))
tests test None more r e = absurd cc
tests test (Some x) more r e = rw e refl

pub passing_goes : (test : ℕ → Bool) (a b c : Ahead) (left mid new : Option (List ℕ)) → next_is test b.byte ≡ true → IfSome left (λ l. IsOver a l → Passing test a l b mid) → IfSome mid (λ l. Moves 1 b l c new) → IfSome left (λ l. IsOver a l → Passing test a l c new)
passing_goes test a b c None mid new e h m = tt
passing_goes test a b c (Some l) mid new e h m = λ over.
    let p = h over in
    let q = at_left mid new p.moves.rest (λ r o. Moves 1 b r c o) p.moves.left_is m in
    record {
      n = p.n + 1;
      moves = follow p.n 1 a b c l mid new p.moves q;
      same = ap (behind test) q.window_is ∙ sym (tests test b.byte b.more p.moves.rest e) ∙ p.same;
    }

stops : (test : ℕ → Bool) (byte : Option ℕ) (more : ℕ) (r : List ℕ) → next_is test byte ≡ false → IsOver (record { byte = byte; more = more }) r → window (record { byte = byte; more = more }) r ≡ behind test (window (record { byte = byte; more = more }) r)
stops test None more r e over = over refl ∙ sym (ap (behind test) (over refl))
stops test (Some x) more r e over = rw e refl

pub passing_ends : (test : ℕ → Bool) (a b : Ahead) (left left' : Option (List ℕ)) → next_is test b.byte ≡ false → IfSome left (λ l. IsOver a l → Passing test a l b left') → IfSome left (λ l. IsOver a l → Passed test a l b left')
passing_ends test a b None left' e h = tt
passing_ends test a b (Some l) left' e h = λ over.
    let p = h over in
    record { n = p.n; moves = p.moves; is = stops test b.byte b.more p.moves.rest e p.moves.over ∙ p.same }

-- ---- a sign

no_sign : (b : ℕ) → is_sign b ≡ false → false ≡ eqb b 45
no_sign b e = either (eqb b 43) (eqb b 45) e where
  either : (x y : Bool) → x || y ≡ false → false ≡ y
  either true y e = absurd (false≢true (sym e))
  either false y e = sym e

unsigned_by : (kind : Kind) (byte : Option ℕ) (more : ℕ) (l : List ℕ) → sign_at kind byte ≡ None → IsOver (record { byte = byte; more = more }) l
    → (window (record { byte = byte; more = more }) l ≡ behind_sign kind (window (record { byte = byte; more = more }) l)) × (false ≡ is_negative kind (window (record { byte = byte; more = more }) l))
unsigned_by Cardinal byte more l e over = (refl, refl)
unsigned_by Integer None more l e over = let o = over refl in (o ∙ sym (ap (behind_sign Integer) o), sym (ap (is_negative Integer) o))
unsigned_by Integer (Some b) more l e over = chosen (is_sign b) refl e where
  chosen : (x : Bool) → is_sign b ≡ x → cond x (Some b) None ≡ None → (b ∷ take more l ≡ cond (is_sign b) (take more l) (b ∷ take more l)) × (false ≡ eqb b 45)
  chosen true is e = absurd (some_none b e)
  chosen false is e = (rw is refl, no_sign b is)

pub signed_none : (kind : Kind) (a : Ahead) (left : Option (List ℕ)) → sign_at kind a.byte ≡ None → IfSome left (λ l. IsOver a l → Signed kind false a l a left)
signed_none kind a None e = tt
signed_none kind a (Some l) e = λ over.
    let u = unsigned_by kind a.byte a.more l e over in
    record { n = 0; moves = stay a l (Some l) refl over; is = u.0; negative_is = u.1 }

signed_by : (kind : Kind) (byte : Option ℕ) (more : ℕ) (l : List ℕ) (x : ℕ) → sign_at kind byte ≡ Some x
    → (drop 1 (window (record { byte = byte; more = more }) l) ≡ behind_sign kind (window (record { byte = byte; more = more }) l)) × (eqb x 45 ≡ is_negative kind (window (record { byte = byte; more = more }) l)) × (byte ≢ None)
signed_by Cardinal byte more l x e = absurd (some_none x (sym e))
signed_by Integer None more l x e = absurd (some_none x (sym e))
signed_by Integer (Some b) more l x e = chosen (is_sign b) refl e where
  chosen : (y : Bool) → is_sign b ≡ y → cond y (Some b) None ≡ Some x → (take more l ≡ cond (is_sign b) (take more l) (b ∷ take more l)) × (eqb x 45 ≡ eqb b 45) × (Some b ≢ None)
  chosen true is e = (rw is refl, ap (λ (z : ℕ). eqb z 45) (sym (some_byte b x e)), λ n. some_none b n)
  chosen false is e = absurd (some_none x (sym e))

pub sign_there : (kind : Kind) (byte : Option ℕ) (x : ℕ) → sign_at kind byte ≡ Some x → byte ≢ None
sign_there kind byte x e = (signed_by kind byte 0 [] x e).2

pub signed_some : (kind : Kind) (a c : Ahead) (x : ℕ) (left new : Option (List ℕ)) → sign_at kind a.byte ≡ Some x → IfSome left (λ l. Moves 1 a l c new) → IfSome left (λ l. IsOver a l → Signed kind (eqb x 45) a l c new)
signed_some kind a c x None new e m = tt
signed_some kind a c x (Some l) new e m = λ over.
    let u = signed_by kind a.byte a.more l x e in
    record { n = 1; moves = m; is = m.window_is ∙ u.0; negative_is = u.1 }

-- ---- digits

pub record Digiting (number : Option ℕ) (a : Ahead) (l : List ℕ) (b : Ahead) (left : Option (List ℕ)) : Type 0 where
  pub n : ℕ
  pub moves : Moves n a l b left
  pub digits : List ℕ
  pub front_is : front is_digit (window a l) ≡ digits ++ front is_digit (window b moves.rest)
  pub same : behind is_digit (window b moves.rest) ≡ behind is_digit (window a l)
  pub number_is : number ≡ number_by digits

pub digits_start : (a : Ahead) (left : Option (List ℕ)) → IfSome left (λ l. IsOver a l → Digiting None a l a left)
digits_start a None = tt
digits_start a (Some l) = λ over. record { n = 0; moves = stay a l (Some l) refl over; digits = []; front_is = refl; same = refl; number_is = refl }

number_push : (n : ℕ) (ds : List ℕ) (x : ℕ) → number_from n (ds ++ x ∷ []) ≡ number_from n ds * 10 + (x - 48)
number_push n [] x = refl
number_push n (d ∷ ds) x = number_push (n * 10 + (d - 48)) ds x

capped : (v d : ℕ) → min (min v most * 10 + d) most ≡ min (v * 10 + d) most
capped v d = omega arith

number_more : (ds : List ℕ) (x : ℕ) → number_after (number_by ds) x ≡ number_by (ds ++ x ∷ [])
number_more [] x = refl
number_more (d ∷ ds) x = ap Some (capped (number_from 0 (d ∷ ds)) (x - 48) ∙ ap (λ (k : ℕ). min k most) (sym (number_push 0 (d ∷ ds) x)))

digit_step : (byte : Option ℕ) (more : ℕ) (r : List ℕ) (x : ℕ) → digit_at byte ≡ Some x
    → (front is_digit (window (record { byte = byte; more = more }) r) ≡ x ∷ front is_digit (drop 1 (window (record { byte = byte; more = more }) r)))
    × (behind is_digit (window (record { byte = byte; more = more }) r) ≡ behind is_digit (drop 1 (window (record { byte = byte; more = more }) r))) × (byte ≢ None) × (is_digit x ≡ true)
digit_step None more r x e = absurd (some_none x (sym e))
digit_step (Some b) more r x e = chosen (is_digit b) refl e where
  chosen : (y : Bool) → is_digit b ≡ y → cond y (Some b) None ≡ Some x
      → (cond (is_digit b) (b ∷ front is_digit (take more r)) [] ≡ x ∷ front is_digit (take more r)) × (cond (is_digit b) (behind is_digit (take more r)) (b ∷ take more r) ≡ behind is_digit (take more r)) × (Some b ≢ None) × (is_digit x ≡ true)
  chosen true is e = let same = some_byte b x e in (rw is (ap (λ (z : ℕ). z ∷ front is_digit (take more r)) same), rw is refl, λ n. some_none b n, subst (λ (z : ℕ). is_digit z ≡ true) same is)
  chosen false is e = absurd (some_none x (sym e))

pub digit_there : (byte : Option ℕ) (x : ℕ) → digit_at byte ≡ Some x → byte ≢ None
digit_there byte x e = (digit_step byte 0 [] x e).2

pub digit_is : (byte : Option ℕ) (x : ℕ) → digit_at byte ≡ Some x → is_digit x ≡ true
digit_is byte x e = (digit_step byte 0 [] x e).3

pub digits_go : (number : Option ℕ) (a b c : Ahead) (x : ℕ) (left mid new : Option (List ℕ)) → digit_at b.byte ≡ Some x → IfSome left (λ l. IsOver a l → Digiting number a l b mid) → IfSome mid (λ l. Moves 1 b l c new)
    → IfSome left (λ l. IsOver a l → Digiting (number_after number x) a l c new)
digits_go number a b c x None mid new e h m = tt
digits_go number a b c x (Some l) mid new e h m = λ over.
    let p = h over in
    let q = at_left mid new p.moves.rest (λ r o. Moves 1 b r c o) p.moves.left_is m in
    let u = digit_step b.byte b.more p.moves.rest x e in
    record {
      n = p.n + 1;
      moves = follow p.n 1 a b c l mid new p.moves q;
      digits = p.digits ++ x ∷ [];
      front_is = p.front_is ∙ ap (λ (t : List ℕ). p.digits ++ t) (u.0 ∙ ap (λ (t : List ℕ). x ∷ front is_digit t) (sym q.window_is)) ∙ sym (append_assoc p.digits (x ∷ []) (front is_digit (window c q.rest)));
      same = ap (behind is_digit) q.window_is ∙ sym u.1 ∙ p.same;
      number_is = ap (λ (o : Option ℕ). number_after o x) p.number_is ∙ number_more p.digits x;
    }

digit_stops : (byte : Option ℕ) (more : ℕ) (r : List ℕ) → digit_at byte ≡ None → IsOver (record { byte = byte; more = more }) r
    → (window (record { byte = byte; more = more }) r ≡ behind is_digit (window (record { byte = byte; more = more }) r)) × (front is_digit (window (record { byte = byte; more = more }) r) ≡ [])
digit_stops None more r e over = let o = over refl in (o ∙ sym (ap (behind is_digit) o), ap (front is_digit) o)
digit_stops (Some b) more r e over = chosen (is_digit b) refl e where
  chosen : (y : Bool) → is_digit b ≡ y → cond y (Some b) None ≡ None → (b ∷ take more r ≡ cond (is_digit b) (behind is_digit (take more r)) (b ∷ take more r)) × (cond (is_digit b) (b ∷ front is_digit (take more r)) [] ≡ [])
  chosen true is e = absurd (some_none b e)
  chosen false is e = (rw is refl, rw is refl)

pub digits_end : (number : Option ℕ) (a b : Ahead) (left left' : Option (List ℕ)) → digit_at b.byte ≡ None → IfSome left (λ l. IsOver a l → Digiting number a l b left') → IfSome left (λ l. IsOver a l → Digits number a l b left')
digits_end number a b None left' e h = tt
digits_end number a b (Some l) left' e h = λ over.
    let p = h over in
    let u = digit_stops b.byte b.more p.moves.rest e p.moves.over in
    record {
      n = p.n;
      moves = p.moves;
      is = u.0 ∙ p.same;
      number_is = p.number_is ∙ ap number_by (sym (append-nil p.digits) ∙ ap (λ (t : List ℕ). p.digits ++ t) (sym u.1) ∙ sym p.front_is);
    }

-- ---- faults

pub passing_fails : (test : ℕ → Bool) (a b : Ahead) (left mid new : Option (List ℕ)) → IfSome left (λ l. IsOver a l → Passing test a l b mid) → Taken mid new → IfSome left (λ l. IsOver a l → (n : ℕ) × (new ≡ Some (drop n l)))
passing_fails test a b None mid new h t = tt
passing_fails test a b (Some l) mid new h t = λ over. let p = h over in taken_then p.n a b l mid new p.moves t

pub digits_fail : (number : Option ℕ) (a b : Ahead) (left mid new : Option (List ℕ)) → IfSome left (λ l. IsOver a l → Digiting number a l b mid) → Taken mid new → IfSome left (λ l. IsOver a l → (n : ℕ) × (new ≡ Some (drop n l)))
digits_fail number a b None mid new h t = tt
digits_fail number a b (Some l) mid new h t = λ over. let p = h over in taken_then p.n a b l mid new p.moves t

pub sign_fails : (a : Ahead) (left new : Option (List ℕ)) → Taken left new → IfSome left (λ l. IsOver a l → (n : ℕ) × (new ≡ Some (drop n l)))
sign_fails a None new t = tt
sign_fails a (Some l) new t = λ over. t

pub passed_there : (test : ℕ → Bool) (byte : Option ℕ) → next_is test byte ≡ true → byte ≢ None
passed_there test None e = absurd (false≢true e)
passed_there test (Some b) e = λ n. some_none b n

-- what holds anyway holds where memory or reading failed
pub on_err : {T E : Type 0} (r : Result T E) (P : Type 0) → P → OnErr r P
on_err (Ok t) P h = tt
on_err (Err e) P h = h
