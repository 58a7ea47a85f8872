-- A number that was read is the one of the definition.
use Rattle.std.proofs.Common.{◌≡◌, ◌≢◌, ℕ, zero, suc, ◌+◌, ◌-◌, ◌*◌, ◌<◌, ◌≤◌, Bool, true, false, cond, List, [], ◌∷◌, ◌++◌, length, take, drop, min, Option, Some, None, refl, sym, ap, ◌∙◌, subst, arith, eqb, ltb, ◌⊎◌, inl, inr, ℤ, pos, negsuc, rules}
use Rattle.std.specs.Prelude.{slice_get, IfSome, OnErr, is_none, ◌&&◌, option_map, int_le}
use Rattle.std.specs.Option.{option_to_list}
use Rattle.std.proofs.lemmas.Bool.{le-ltb, lt-ltb, lt-leb}
use Rattle.std.proofs.lemmas.List.{length-drop, length-take-le, length-take}
use Rattle.stack_machine.specs.declared.reading.Ahead.{Ahead}
use Rattle.stack_machine.specs.declared.reading.Reading.{Reading}
use Rattle.stack_machine.specs.declared.op.Kind.{Kind}
use Rattle.stack_machine.specs.declared.op.Kind.TheVariants.{Integer, Cardinal}
use Rattle.stack_machine.specs.Numbers.{in_kind}
use Rattle.stack_machine.specs.InOut.{Got, number_from, is_blank, is_digit, is_negative, behind, front, behind_sign, signed, if_in_kind, value_of, if_ended, most_bytes, number_of, byte_of}
use Rattle.stack_machine.specs.Readings.{Taken, Moves, IsOver, coming, window, budget, most, number_by, value_by, Passed, Signed, Digits, ahead_by, is_cut, reading_by, IsReading}
use Rattle.stack_machine.proofs.Taking.{follow, at_left, take_nil, drop_twice}

-- ---- the first byte

record Begins (all : List ℕ) (byte : Option ℕ) : Type 0 where
  coming_is : coming (ahead_by byte) (drop 1 all) ≡ all
  window_is : window (ahead_by byte) (drop 1 all) ≡ take most_bytes all
  budget_is : budget (ahead_by byte) ≡ most_bytes
  over : IsOver (ahead_by byte) (drop 1 all)

begins : (all : List ℕ) → Begins all (slice_get all 0)
begins [] = record { coming_is = refl; window_is = refl; budget_is = omega arith; over = λ none. take_nil 65536 }
begins (x ∷ xs) = record { coming_is = refl; window_is = refl; budget_is = omega arith; over = λ none. absurd (some_none none) } where
  some_none : Some x ≡ None → ⊥
  some_none e = cc

-- ---- the value

-- what is past the most is in no type
and_false : (a b : Bool) → b ≡ false → a && b ≡ false
and_false true b e = e
and_false false b e = refl

past : (kind : Kind) (negative : Bool) (v : ℕ) → most ≤ v → in_kind kind (signed negative v) ≡ false
past Integer false v le = and_false (int_le (negsuc 2147483647) (pos v)) (int_le (pos v) (pos 2147483647)) (lt-leb v 2147483647 (omega (arith, le)))
past Cardinal false v le = and_false (int_le (pos 0) (pos v)) (int_le (pos v) (pos 4294967295)) (lt-leb v 4294967295 (omega (arith, le)))
past Integer true zero le = absurd (omega (arith, le))
past Cardinal true zero le = absurd (omega (arith, le))
past Integer true (suc v) le = rw (lt-leb v 2147483647 (omega (arith, le))) refl
past Cardinal true (suc v) le = refl

cases_le : (m n : ℕ) → (m ≤ n) ⊎ (n ≤ m)
cases_le m zero = inr (omega arith)
cases_le zero (suc n) = inl (omega arith)
cases_le (suc m) (suc n) = more (cases_le m n) where
  more : (m ≤ n) ⊎ (n ≤ m) → (suc m ≤ suc n) ⊎ (suc n ≤ suc m)
  more (inl h) = inl (omega (arith, h))
  more (inr h) = inr (omega (arith, h))

none_past : (kind : Kind) (negative : Bool) (v : ℕ) → most ≤ v → if_in_kind kind (signed negative v) ≡ None
none_past kind negative v le = rw (past kind negative v le) refl

same_value : (kind : Kind) (negative : Bool) (v : ℕ) → if_in_kind kind (signed negative v) ≡ if_in_kind kind (signed negative (min v most))
same_value kind negative v = chosen (cases_le v most) where
  chosen : (v ≤ most) ⊎ (most ≤ v) → if_in_kind kind (signed negative v) ≡ if_in_kind kind (signed negative (min v most))
  chosen (inl h) = let e : v ≡ min v most = omega (arith, h) in ap (λ (k : ℕ). if_in_kind kind (signed negative k)) e
  chosen (inr h) =
      let e : most ≡ min v most = omega (arith, h) in
      none_past kind negative v h ∙ sym (none_past kind negative most (omega arith)) ∙ ap (λ (k : ℕ). if_in_kind kind (signed negative k)) e

values : (kind : Kind) (negative : Bool) (digits : List ℕ) → value_of kind negative digits ≡ value_by kind negative (number_by digits)
values kind negative [] = refl
values kind negative (d ∷ ds) = same_value kind negative (number_from 0 (d ∷ ds))

-- ---- the end

empty_drop : (n : ℕ) (xs : List ℕ) → drop n xs ≡ [] → length xs ≤ n
empty_drop n xs e = let len = length-drop n xs in let none : length (drop n xs) ≡ 0 = ap length e in omega (arith, len, none)

empty_take : (m : ℕ) (xs : List ℕ) → take (suc m) xs ≡ [] → xs ≡ []
empty_take m [] e = refl
empty_take m (x ∷ xs) e = absurd cc

-- where the number has ended it has its value, and the byte behind it is at hand
record Ended (byte : Option ℕ) (more n : ℕ) (all rest after : List ℕ) (value : Option ℤ) : Type 0 where
  value_is : cond (is_cut (record { byte = byte; more = more })) None value ≡ if_ended after (ltb (length all) most_bytes) value
  kept_is : byte ≡ slice_get after 0
  rest_is : rest ≡ drop (n + length (take 1 after)) all

drop_more : (n : ℕ) (all : List ℕ) (b : ℕ) (rest : List ℕ) → b ∷ rest ≡ drop n all → rest ≡ drop (n + 1) all
drop_more zero all b rest e = let one : 1 ≡ 0 + 1 = omega arith in ap (drop 1) e ∙ ap (λ (k : ℕ). drop k all) one
drop_more (suc n) [] b rest e = absurd cc
drop_more (suc n) (x ∷ all) b rest e = drop_more n all b rest e ∙ ap (λ (k : ℕ). drop k (x ∷ all)) (more n) where
  more : (n : ℕ) → suc (n + 1) ≡ suc n + 1
  more n = omega arith

none_left : (more n : ℕ) (all rest : List ℕ) → take more rest ≡ [] → rest ≡ drop n all → n ≤ length all → more + n ≡ most_bytes → (value : Option ℤ) → cond (eqb more 0) None value ≡ cond (ltb (length all) most_bytes) value None
none_left zero n all rest w c le count value = rw (le-ltb (length all) most_bytes (omega (arith, le, count))) refl
none_left (suc more) n all rest w c le count value =
    let no_rest : drop n all ≡ [] = sym c ∙ empty_take more rest w in
    let short = empty_drop n all no_rest in
    some_more ∙ sym (ap (λ b. cond b value None) (lt-ltb (length all) most_bytes (omega (arith, short, count)))) where
      some_more : cond (eqb (suc more) 0) None value ≡ value
      some_more = search rules

ended : (byte : Option ℕ) (more n : ℕ) (all rest after : List ℕ) (value : Option ℤ) → window (record { byte = byte; more = more }) rest ≡ after → coming (record { byte = byte; more = more }) rest ≡ drop n all
    → n ≤ length all → budget (record { byte = byte; more = more }) + n ≡ most_bytes → IsOver (record { byte = byte; more = more }) rest → Ended byte more n all rest after value
ended (Some b) more n all rest after value w c le count over =
    subst (λ (a : List ℕ). Ended (Some b) more n all rest a value) w (record { value_is = refl; kept_is = refl; rest_is = drop_more n all b rest c ∙ ap (λ (k : ℕ). drop k all) (one more rest) }) where
      one : (more : ℕ) (rest : List ℕ) → n + 1 ≡ n + length (take 1 (b ∷ take more rest))
      one zero rest = refl
      one (suc m) rest = refl
ended None more n all rest after value w c le count over =
    let none : after ≡ [] = sym w ∙ over refl in
    subst (λ (a : List ℕ). Ended None more n all rest a value) (sym none) (record {
      value_is = none_left more n all rest (over refl) c le (omega (arith, count)) value;
      kept_is = refl;
      rest_is = let e : n ≡ n + 0 = omega arith in c ∙ ap (λ (k : ℕ). drop k all) e;
    })

-- ---- the whole number

number_is : (kind : Kind) (negative : Bool) (number : Option ℕ) (all : List ℕ) (byte : Option ℕ) (a1 a2 a3 : Ahead) (left1 left2 left3 : Option (List ℕ)) → byte ≡ slice_get all 0
    → (p1 : Passed is_blank (ahead_by byte) (drop 1 all) a1 left1) → (p2 : Signed kind negative a1 p1.moves.rest a2 left2) → Digits number a2 p2.moves.rest a3 left3
    → IsReading (reading_by kind negative number a3) (number_of kind all) left3
unfolding number_of
number_is kind negative number all byte a1 a2 a3 left1 left2 left3 is p1 p2 p3 =
    let b = subst (Begins all) (sym is) (begins all) in
    let a0 = ahead_by byte in
    let n = p1.n + p2.n + p3.n in
    let m = follow (p1.n + p2.n) p3.n a0 a2 a3 (drop 1 all) left2 left3 (follow p1.n p2.n a0 a1 a2 (drop 1 all) left1 left2 p1.moves p2.moves) p3.moves in
    let start = behind is_blank (take most_bytes all) in
    let digits = behind_sign kind start in
    let after = behind is_digit digits in
    let w1 : window a1 p1.moves.rest ≡ start = p1.is ∙ ap (behind is_blank) b.window_is in
    let w2 : window a2 p2.moves.rest ≡ digits = p2.is ∙ ap (behind_sign kind) w1 in
    let w3 : window a3 p3.moves.rest ≡ after = p3.is ∙ ap (behind is_digit) w2 in
    let c3 : coming a3 p3.moves.rest ≡ drop n all = m.coming_is ∙ ap (drop n) b.coming_is in
    let front_len : length (take most_bytes all) ≤ length all = omega (arith, length-take most_bytes all) in
    let within : n ≤ length (take most_bytes all) = subst (λ (x : List ℕ). n ≤ length x) b.window_is m.within in
    let budget_is = b.budget_is in
    let count = m.count in
    let value = value_of kind (is_negative kind start) (front is_digit digits) in
    let e = ended a3.byte a3.more n all p3.moves.rest after value w3 c3 (omega (arith, within, front_len)) (omega (arith, budget_is, count)) p3.moves.over in
    let sign : negative ≡ is_negative kind start = p2.negative_is ∙ ap (is_negative kind) w1 in
    let number_same : number ≡ number_by (front is_digit digits) = p3.number_is ∙ ap (λ (x : List ℕ). number_by (front is_digit x)) w2 in
    let value_same : value_by kind negative number ≡ value =
    ap (λ (x : Bool). value_by kind x number) sign ∙ ap (value_by kind (is_negative kind start)) number_same ∙ sym (values kind (is_negative kind start) (front is_digit digits)) in
    let after_len : length after ≡ length (take most_bytes all) - n = sym (ap length w3) ∙ ap length m.window_is ∙ length-drop n (window a0 (drop 1 all)) ∙ ap (λ (x : List ℕ). length x - n) b.window_is in
    let place : n + length (take 1 after) ≡ length (take most_bytes all) - length after + length (take 1 after) = omega (arith, after_len, within) in
    record {
      value = ap (λ (v : Option ℤ). cond (is_cut a3) None v) value_same ∙ e.value_is;
      kept = e.kept_is;
      left_is = p3.moves.left_is ∙ ap Some (e.rest_is ∙ ap (λ (k : ℕ). drop k all) place);
    }

pub whole : (kind : Kind) (negative : Bool) (number kept byte : Option ℕ) (a1 a2 a3 : Ahead) (left left0 left1 left2 left3 : Option (List ℕ))
    → IfSome left (λ l. (byte ≡ slice_get (option_to_list kept ++ l) 0) × (left0 ≡ Some (drop 1 (option_to_list kept ++ l))))
    → IfSome left0 (λ l. IsOver (ahead_by byte) l → Passed is_blank (ahead_by byte) l a1 left1)
    → IfSome left1 (λ l. IsOver a1 l → Signed kind negative a1 l a2 left2)
    → IfSome left2 (λ l. IsOver a2 l → Digits number a2 l a3 left3)
    → IfSome left (λ l. IsReading (reading_by kind negative number a3) (number_of kind (option_to_list kept ++ l)) left3)
whole kind negative number kept byte a1 a2 a3 None left0 left1 left2 left3 h0 h1 h2 h3 = tt
whole kind negative number kept byte a1 a2 a3 (Some l) left0 left1 left2 left3 h0 h1 h2 h3 =
    let all = option_to_list kept ++ l in
    let b = subst (Begins all) (sym h0.0) (begins all) in
    let p1 = at_left left0 left1 (drop 1 all) (λ r o. IsOver (ahead_by byte) r → Passed is_blank (ahead_by byte) r a1 o) h0.1 h1 b.over in
    let p2 = at_left left1 left2 p1.moves.rest (λ r o. IsOver a1 r → Signed kind negative a1 r a2 o) p1.moves.left_is h2 p1.moves.over in
    let p3 = at_left left2 left3 p2.moves.rest (λ r o. IsOver a2 r → Digits number a2 r a3 o) p2.moves.left_is h3 p2.moves.over in
    number_is kind negative number all byte a1 a2 a3 left1 left2 left3 h0.0 p1 p2 p3

-- ---- one byte

pub kept_first : (b : ℕ) (left : Option (List ℕ)) → IfSome left (λ l. (Some b ≡ slice_get (option_to_list (Some b) ++ l) 0) × (left ≡ Some (drop 1 (option_to_list (Some b) ++ l))))
kept_first b None = tt
kept_first b (Some l) = (refl, refl)

pub byte_is : (all : List ℕ) (byte : Option ℕ) (left : Option (List ℕ)) → byte ≡ slice_get all 0 → left ≡ Some (drop 1 all) → IsReading (record { value = option_map pos byte; kept = None }) (byte_of all) left
byte_is [] byte left e is = record { value = ap (option_map pos) e; kept = refl; left_is = is }
byte_is (x ∷ all) byte left e is = record { value = ap (option_map pos) e; kept = refl; left_is = is }

pub byte_read : (kept byte : Option ℕ) (left left' : Option (List ℕ)) → IfSome left (λ l. (byte ≡ slice_get (option_to_list kept ++ l) 0) × (left' ≡ Some (drop 1 (option_to_list kept ++ l))))
    → IfSome left (λ l. IsReading (record { value = option_map pos byte; kept = None }) (byte_of (option_to_list kept ++ l)) left')
byte_read kept byte None left' h = tt
byte_read kept byte (Some l) left' h = byte_is (option_to_list kept ++ l) byte left' h.0 h.1

pub none_reading : (r : Reading) (kept : Option ℕ) (left : Option (List ℕ)) → r.value ≡ None → r.kept ≡ kept → IfSome left (λ l. IsReading r (record { value = None; kept = kept; rest = l }) left)
none_reading r kept None e f = tt
none_reading r kept (Some l) e f = record { value = e; kept = f; left_is = refl }

-- ---- what was taken before a fault

pub taken_none : (left left' : Option (List ℕ)) → left' ≡ left → Taken left left'
taken_none None left' e = tt
taken_none (Some l) left' e = (0, e)

first_taken : (kept : Option ℕ) (l : List ℕ) (left : Option (List ℕ)) → left ≡ Some (drop 1 (option_to_list kept ++ l)) → (k : ℕ) × (left ≡ Some (drop k l))
first_taken None l left e = (1, e)
first_taken (Some b) l left e = (0, e)

more_taken : (k : ℕ) (l : List ℕ) (left : Option (List ℕ)) → (m : ℕ) × (left ≡ Some (drop m (drop k l))) → (n : ℕ) × (left ≡ Some (drop n l))
more_taken k l left h = (k + h.0, h.1 ∙ ap Some (drop_twice k h.0 l))

-- of a first byte
from_first : (kept : Option ℕ) (l : List ℕ) (left' : Option (List ℕ)) → (m : ℕ) × (left' ≡ Some (drop m (drop 1 (option_to_list kept ++ l)))) → (n : ℕ) × (left' ≡ Some (drop n l))
from_first None l left' h = more_taken 1 l left' h
from_first (Some b) l left' h = h

pub blanks_fail : (kept byte : Option ℕ) (left left0 left1 : Option (List ℕ))
    → IfSome left (λ l. (byte ≡ slice_get (option_to_list kept ++ l) 0) × (left0 ≡ Some (drop 1 (option_to_list kept ++ l))))
    → IfSome left0 (λ l. IsOver (ahead_by byte) l → (n : ℕ) × (left1 ≡ Some (drop n l))) → Taken left left1
blanks_fail kept byte None left0 left1 h0 h1 = tt
blanks_fail kept byte (Some l) left0 left1 h0 h1 =
    let all = option_to_list kept ++ l in
    let b = subst (Begins all) (sym h0.0) (begins all) in
    from_first kept l left1 (at_left left0 left1 (drop 1 all) (λ r o. IsOver (ahead_by byte) r → (n : ℕ) × (o ≡ Some (drop n r))) h0.1 h1 b.over)

pub sign_fail : (kept byte : Option ℕ) (a1 : Ahead) (left left0 left1 left2 : Option (List ℕ))
    → IfSome left (λ l. (byte ≡ slice_get (option_to_list kept ++ l) 0) × (left0 ≡ Some (drop 1 (option_to_list kept ++ l))))
    → IfSome left0 (λ l. IsOver (ahead_by byte) l → Passed is_blank (ahead_by byte) l a1 left1)
    → IfSome left1 (λ l. IsOver a1 l → (n : ℕ) × (left2 ≡ Some (drop n l))) → Taken left left2
sign_fail kept byte a1 None left0 left1 left2 h0 h1 h2 = tt
sign_fail kept byte a1 (Some l) left0 left1 left2 h0 h1 h2 =
    let all = option_to_list kept ++ l in
    let b = subst (Begins all) (sym h0.0) (begins all) in
    let p1 = at_left left0 left1 (drop 1 all) (λ r o. IsOver (ahead_by byte) r → Passed is_blank (ahead_by byte) r a1 o) h0.1 h1 b.over in
    let t = at_left left1 left2 p1.moves.rest (λ r o. IsOver a1 r → (n : ℕ) × (o ≡ Some (drop n r))) p1.moves.left_is h2 p1.moves.over in
    from_first kept l left2 (p1.moves.taken + t.0, t.1 ∙ ap (λ (r : List ℕ). Some (drop t.0 r)) p1.moves.rest_is ∙ ap Some (drop_twice p1.moves.taken t.0 (drop 1 all)))

pub digits_fail : (kind : Kind) (negative : Bool) (kept byte : Option ℕ) (a1 a2 : Ahead) (left left0 left1 left2 left3 : Option (List ℕ))
    → IfSome left (λ l. (byte ≡ slice_get (option_to_list kept ++ l) 0) × (left0 ≡ Some (drop 1 (option_to_list kept ++ l))))
    → IfSome left0 (λ l. IsOver (ahead_by byte) l → Passed is_blank (ahead_by byte) l a1 left1)
    → IfSome left1 (λ l. IsOver a1 l → Signed kind negative a1 l a2 left2)
    → IfSome left2 (λ l. IsOver a2 l → (n : ℕ) × (left3 ≡ Some (drop n l))) → Taken left left3
digits_fail kind negative kept byte a1 a2 None left0 left1 left2 left3 h0 h1 h2 h3 = tt
digits_fail kind negative kept byte a1 a2 (Some l) left0 left1 left2 left3 h0 h1 h2 h3 =
    let all = option_to_list kept ++ l in
    let a0 = ahead_by byte in
    let b = subst (Begins all) (sym h0.0) (begins all) in
    let p1 = at_left left0 left1 (drop 1 all) (λ r o. IsOver (ahead_by byte) r → Passed is_blank (ahead_by byte) r a1 o) h0.1 h1 b.over in
    let p2 = at_left left1 left2 p1.moves.rest (λ r o. IsOver a1 r → Signed kind negative a1 r a2 o) p1.moves.left_is h2 p1.moves.over in
    let m = follow p1.n p2.n a0 a1 a2 (drop 1 all) left1 left2 p1.moves p2.moves in
    let t = at_left left2 left3 p2.moves.rest (λ r o. IsOver a2 r → (n : ℕ) × (o ≡ Some (drop n r))) p2.moves.left_is h3 p2.moves.over in
    from_first kept l left3 (m.taken + t.0, t.1 ∙ ap (λ (r : List ℕ). Some (drop t.0 r)) m.rest_is ∙ ap Some (drop_twice m.taken t.0 (drop 1 all)))
