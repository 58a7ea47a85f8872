-- What is read is spelled so, and what is spelled so is read.
use Rattle.std.proofs.Common.{◌≡◌, ℕ, zero, suc, ◌+◌, ◌-◌, ◌^◌, ◌<◌, ◌≤◌, Bool, true, false, cond, ltb, eqb, List, [], ◌∷◌, ◌++◌, length, get_or, take, drop, Option, Some, None, refl, sym, ap, subst, ◌∙◌, append_assoc, arith, rules, Fits, inl, inr, ℤ, pos, negsuc}
use Rattle.std.specs.Prelude.{slice_get, ◌≤ℤ◌, ◌||◌, FitsSigned}
use Rattle.std.specs.List.{AllByRecursion}
use Rattle.std.specs.Int.{Width, w32, w64, byte_len, from_le_bytes, to_le_bytes, cast_signed, cast_unsigned}
use Rattle.std.proofs.lemmas.Bool.{cases_lt, ltb-false, ltb-true, le-ltb, lt-ltb, eqb-true, eqb-false, ne_eqb}
use Rattle.std.proofs.lemmas.Int.{to_z-of_z, of_z-to_z, ints}
use Rattle.std.proofs.Math.Facts.{Fits-of_z, sfits_to_z}
use Rattle.std.proofs.lemmas.List.{append-nil, take_at, drop_at, take-append-drop, length-append, length-take, length-drop, drop-drop, get_or-drop, get_or-take, get_or_past}
use Rattle.std.proofs.lemmas.Option.{slice_get_past}
use Rattle.std.proofs.lemmas.Nat.{le_bytes_4, le_bytes_8, from_le_bytes-to_le_bytes_4, from_le_bytes-to_le_bytes_8}
use Rattle.code_form.specs.Instructions.{Instr, Push, Local, Global, Str, Load, Store, Move, Dup, Offset, Index, IndexOpen, Check, Nil, Add, Sub, Mul, Div, Mod, Neg, Abs, Not, Eq, Ne, Lt, Le, Gt, Ge, Union, Diff, Inter, SymDiff, Subset, Superset, In, Bit, Span, Jump, JumpFalse, AndJump, OrJump, More, Call, CallX, CallVar, Proc, Return, Trap, New, OpenCopy, Halt, Cap, Operand, number, count, distance, value, flag, trap, line_of, InRange, IsInstr}
use Rattle.code_form.specs.Bytes.{operand_bytes, all_bytes, width, all_widths, size, spelling, BeginsWith}
use Rattle.code_form.specs.Reading.{◌>>=◌, wide_at, number_at, distance_at, is_value, value_at, flag_at, trap_at, count_at, Row, none, bare, one, two, three, rows, instr_at, decoded}

abbrev pub IsBytes : List ℕ → Type 0
IsBytes bytes = (i : ℕ) → get_or bytes i 0 < 256

IsBytes-drop : (n : ℕ) (bytes : List ℕ) → IsBytes bytes → IsBytes (drop n bytes)
IsBytes-drop n bytes h i = rw get_or-drop (h (n + i))

IsBytes-take : (n : ℕ) (bytes : List ℕ) → IsBytes bytes → IsBytes (take n bytes)
IsBytes-take n bytes h i =
    elim (cases_lt i n) [
      | inl lt ↦ rw (get_or-take n bytes i 0 lt) (h i)
      | inr le ↦ rw (get_or_past (take n bytes) i 0 (omega (arith, length-take n bytes))) (omega arith)
    ]

IsBytes-rest : (b : ℕ) (bytes : List ℕ) → IsBytes (b ∷ bytes) → IsBytes bytes
IsBytes-rest b bytes h i = h (suc i)

-- the value of a step that found something
bind_some : {A B : Type 0} (r : Option A) (f : A → Option B) (y : B) → (r >>= f) ≡ Some y → (x : A) × (r ≡ Some x) × (f x ≡ Some y)
bind_some (Some x) f y e = (x, refl, e)
bind_some None f y e = absurd cc

guard_some : {A : Type 0} (b : Bool) (r : Option A) (y : A) → cond b None r ≡ Some y → (b ≡ false) × (r ≡ Some y)
guard_some true r y e = absurd cc
guard_some false r y e = (refl, e)

only_some : {A : Type 0} (b : Bool) (r : Option A) (y : A) → cond b r None ≡ Some y → (b ≡ true) × (r ≡ Some y)
only_some true r y e = (refl, e)
only_some false r y e = absurd cc

some_is : {A : Type 0} (x y : A) → Some x ≡ Some y → x ≡ y
some_is x y e = cc

-- ---- one operand

record Takes (bytes text rest : List ℕ) : Type 0 where
  parts : bytes ≡ text ++ rest
  rest_fits : IsBytes rest

Takes-then : (a x b y c : List ℕ) → Takes a x b → Takes b y c → Takes a (x ++ y) c
Takes-then a x b y c p q = record { parts = p.parts ∙ ap (λ (t : List ℕ). x ++ t) q.parts ∙ sym (append_assoc x y c); rest_fits = q.rest_fits }

Takes-nil : (a x b : List ℕ) → Takes a x b → Takes a (x ++ []) b
Takes-nil a x b p = record { parts = p.parts ∙ ap (λ (t : List ℕ). t ++ b) (sym (append-nil x)); rest_fits = p.rest_fits }

-- what a reader of an operand answers
record Law {A : Type 0} (at : List ℕ → Option (A × List ℕ)) (o : A → Operand) : Type 0 where
  takes : (bytes : List ℕ) (x : A) (rest : List ℕ) → IsBytes bytes → at bytes ≡ Some (x, rest) → Takes bytes (operand_bytes (o x)) rest × InRange (o x)
  again : (x : A) (rest : List ℕ) → InRange (o x) → at (operand_bytes (o x) ++ rest) ≡ Some (x, rest)

record IsWide (w : Width) (limit : ℕ) : Type 0 where
  len : (n : ℕ) → length (to_le_bytes w n) ≡ byte_len w
  back : (bytes : List ℕ) → length bytes ≡ byte_len w → IsBytes bytes → to_le_bytes w (from_le_bytes w bytes) ≡ bytes
  again : (n : ℕ) → n < limit → from_le_bytes w (to_le_bytes w n) ≡ n
  below : (bytes : List ℕ) → IsBytes bytes → from_le_bytes w bytes < limit

wide32 : IsWide w32 (2 ^ 32)
wide32 = record {
  len = λ n. refl;
  back = λ bytes len fits. le_bytes_4 bytes _ len fits refl;
  again = λ n lt. from_le_bytes-to_le_bytes_4 n lt;
  below = λ bytes fits. omega (arith, fits 0, fits 1, fits 2, fits 3);
}

wide64 : IsWide w64 (2 ^ 64)
wide64 = record {
  len = λ n. refl;
  back = λ bytes len fits. le_bytes_8 bytes _ len fits refl;
  again = λ n lt. from_le_bytes-to_le_bytes_8 n lt;
  below = λ bytes fits. omega (arith, fits 0, fits 1, fits 2, fits 3, fits 4, fits 5, fits 6, fits 7);
}

wide_takes : (w : Width) (limit : ℕ) (wide : IsWide w limit) (bytes : List ℕ) (n : ℕ) (rest : List ℕ) → IsBytes bytes → wide_at w bytes ≡ Some (n, rest) → Takes bytes (to_le_bytes w n) rest × (n < limit)
wide_takes w limit wide bytes n rest fits e =
    let g = guard_some (ltb (length bytes) (byte_len w)) (Some (from_le_bytes w (take (byte_len w) bytes), drop (byte_len w) bytes)) (n, rest) e in
    let long : byte_len w ≤ length bytes = ltb-false _ _ g.0 in
    let is = some_is (from_le_bytes w (take (byte_len w) bytes), drop (byte_len w) bytes) (n, rest) g.1 in
    let n-is : from_le_bytes w (take (byte_len w) bytes) ≡ n = ap (λ (p : ℕ × List ℕ). p.0) is in
    let rest-is : drop (byte_len w) bytes ≡ rest = ap (λ (p : ℕ × List ℕ). p.1) is in
    let front : to_le_bytes w n ≡ take (byte_len w) bytes = rw (← n-is) (wide.back (take (byte_len w) bytes) (omega (arith, length-take (byte_len w) bytes)) (IsBytes-take (byte_len w) bytes fits)) in
    (record { parts = rw (front, ← rest-is) (sym (take-append-drop (byte_len w) bytes)); rest_fits = rw (← rest-is) (IsBytes-drop (byte_len w) bytes fits) }, rw (← n-is) (wide.below (take (byte_len w) bytes) (IsBytes-take (byte_len w) bytes fits)))

wide_again : (w : Width) (limit : ℕ) (wide : IsWide w limit) (n : ℕ) (rest : List ℕ) → n < limit → wide_at w (to_le_bytes w n ++ rest) ≡ Some (n, rest)
wide_again w limit wide n rest lt =
    let len = wide.len n in
    let long : ltb (length (to_le_bytes w n ++ rest)) (byte_len w) ≡ false = le-ltb _ _ (omega (arith, length-append (to_le_bytes w n) rest)) in
    rw (long, take_at (to_le_bytes w n) rest (byte_len w) len, drop_at (to_le_bytes w n) rest (byte_len w) len, wide.again n lt) refl

number_law : Law number_at number
unfolding operand_bytes
number_law = record { takes = wide_takes w32 (2 ^ 32) wide32; again = wide_again w32 (2 ^ 32) wide32 }

count_takes : (bytes : List ℕ) (n : ℕ) (rest : List ℕ) → IsBytes bytes → count_at bytes ≡ Some (n, rest) → Takes bytes (to_le_bytes w32 n) rest × (1 ≤ n) × (n < 2 ^ 32)
unfolding count_at
count_takes bytes n rest fits e =
    let a = bind_some (number_at bytes) (λ p. cond (eqb p.0 0) None (Some p)) (n, rest) e in
    let g = guard_some (eqb a.0.0 0) (Some a.0) (n, rest) a.2 in
    let read : number_at bytes ≡ Some (n, rest) = a.1 ∙ g.1 in
    let t = wide_takes w32 (2 ^ 32) wide32 bytes n rest fits read in
    let same : a.0.0 ≡ n = ap (λ (p : ℕ × List ℕ). p.0) (some_is a.0 (n, rest) g.1) in
    let not0 = eqb-false a.0.0 0 g.0 in
    (t.0, omega (arith, not0, same), t.1)

count_again : (n : ℕ) (rest : List ℕ) → (1 ≤ n) × (n < 2 ^ 32) → count_at (to_le_bytes w32 n ++ rest) ≡ Some (n, rest)
unfolding count_at
count_again zero rest h = absurd (omega arith)
count_again (suc n) rest h = let not0 : eqb (suc n) 0 ≡ false = ne_eqb (suc n) 0 (λ (e : suc n ≡ 0). absurd cc) in rw (wide_again w32 (2 ^ 32) wide32 (suc n) rest h.1, not0) refl

count_law : Law count_at count
unfolding operand_bytes
count_law = record { takes = λ bytes n rest fits e. let t = count_takes bytes n rest fits e in (t.0, (t.1, t.2)); again = λ n rest h. count_again n rest h }

distance_takes : (bytes : List ℕ) (j : ℤ) (rest : List ℕ) → IsBytes bytes → distance_at bytes ≡ Some (j, rest) → Takes bytes (to_le_bytes w32 (cast_unsigned w32 j)) rest × FitsSigned w32 j
unfolding distance_at
distance_takes bytes j rest fits e =
    let a = bind_some (number_at bytes) (λ p. Some (cast_signed w32 p.0, p.1)) (j, rest) e in
    let t = wide_takes w32 (2 ^ 32) wide32 bytes a.0.0 a.0.1 fits a.1 in
    let is = some_is (cast_signed w32 a.0.0, a.0.1) (j, rest) a.2 in
    let back = of_z-to_z w32 a.0.0 t.1 in
    let P : ℤ × List ℕ → Type 0 = λ p. Takes bytes (to_le_bytes w32 (cast_unsigned w32 p.0)) p.1 × FitsSigned w32 p.0 in
    subst P is (subst (λ (m : ℕ). Takes bytes (to_le_bytes w32 m) a.0.1) (sym back) t.0, let f : Fits w32 a.0.0 = search (rules, t.1) in sfits_to_z {w = w32} f)

distance_again : (j : ℤ) (rest : List ℕ) → FitsSigned w32 j → distance_at (to_le_bytes w32 (cast_unsigned w32 j) ++ rest) ≡ Some (j, rest)
unfolding distance_at
distance_again j rest h = rw (wide_again w32 (2 ^ 32) wide32 (cast_unsigned w32 j) rest (let f = Fits-of_z {w = w32} h in omega (arith, f)), to_z-of_z w32 j h) refl

distance_law : Law distance_at distance
unfolding operand_bytes
distance_law = record { takes = distance_takes; again = distance_again }

is_value_takes : (z v : ℤ) → is_value z ≡ Some v → (z ≡ v) × (negsuc 2147483647 ≤ℤ v) × (v ≤ℤ pos 4294967295)
is_value_takes (pos n) v e =
    let g = only_some (ltb n 4294967296) (Some (pos n)) v e in
    let lt = ltb-true n 4294967296 g.0 in
    let is = some_is (pos n) v g.1 in
    (is, rw (← is) (omega (arith, ints)), rw (← is) (omega (arith, ints, lt)))
is_value_takes (negsuc n) v e =
    let g = only_some (ltb n 2147483648) (Some (negsuc n)) v e in
    let lt = ltb-true n 2147483648 g.0 in
    let is = some_is (negsuc n) v g.1 in
    (is, rw (← is) (omega (arith, ints, lt)), rw (← is) (omega (arith, ints)))

is_value_again : (v : ℤ) → (negsuc 2147483647 ≤ℤ v) × (v ≤ℤ pos 4294967295) → is_value v ≡ Some v
is_value_again (pos n) h = let lt : n < 4294967296 = omega (arith, ints, h.1) in rw (lt-ltb n 4294967296 lt) refl
is_value_again (negsuc n) h = let lt : n < 2147483648 = omega (arith, ints, h.0) in rw (lt-ltb n 2147483648 lt) refl

value_fits : (v : ℤ) → (negsuc 2147483647 ≤ℤ v) × (v ≤ℤ pos 4294967295) → FitsSigned w64 v
value_fits v h = omega (arith, ints, h.0, h.1)

value_takes : (bytes : List ℕ) (v : ℤ) (rest : List ℕ) → IsBytes bytes → value_at bytes ≡ Some (v, rest) → Takes bytes (to_le_bytes w64 (cast_unsigned w64 v)) rest × ((negsuc 2147483647 ≤ℤ v) × (v ≤ℤ pos 4294967295))
unfolding value_at
value_takes bytes v rest fits e =
    let a = bind_some (wide_at w64 bytes) (λ p. is_value (cast_signed w64 p.0) >>= λ z. Some (z, p.1)) (v, rest) e in
    let b = bind_some (is_value (cast_signed w64 a.0.0)) (λ z. Some (z, a.0.1)) (v, rest) a.2 in
    let t = wide_takes w64 (2 ^ 64) wide64 bytes a.0.0 a.0.1 fits a.1 in
    let is = some_is (b.0, a.0.1) (v, rest) b.2 in
    let r = is_value_takes (cast_signed w64 a.0.0) b.0 b.1 in
    let back : cast_unsigned w64 b.0 ≡ a.0.0 = ap (cast_unsigned w64) (sym r.0) ∙ of_z-to_z w64 a.0.0 t.1 in
    let P : ℤ × List ℕ → Type 0 = λ p. Takes bytes (to_le_bytes w64 (cast_unsigned w64 p.0)) p.1 × ((negsuc 2147483647 ≤ℤ p.0) × (p.0 ≤ℤ pos 4294967295)) in
    subst P is (subst (λ (m : ℕ). Takes bytes (to_le_bytes w64 m) a.0.1) (sym back) t.0, (r.1, r.2))

value_again : (v : ℤ) (rest : List ℕ) → (negsuc 2147483647 ≤ℤ v) × (v ≤ℤ pos 4294967295) → value_at (to_le_bytes w64 (cast_unsigned w64 v) ++ rest) ≡ Some (v, rest)
unfolding value_at
value_again v rest h =
    let fits = value_fits v h in
    rw (wide_again w64 (2 ^ 64) wide64 (cast_unsigned w64 v) rest (let f = Fits-of_z {w = w64} fits in omega (arith, f)), to_z-of_z w64 v fits, is_value_again v h) refl

value_law : Law value_at value
unfolding operand_bytes
value_law = record { takes = value_takes; again = value_again }

flag_takes : (bytes : List ℕ) (b : ℕ) (rest : List ℕ) → IsBytes bytes → flag_at bytes ≡ Some (b, rest) → Takes bytes (b ∷ []) rest × (b < 2)
unfolding flag_at
flag_takes [] b rest fits e = absurd cc
flag_takes (x ∷ bytes) b rest fits e =
    let g = only_some (ltb x 2) (Some (x, bytes)) (b, rest) e in
    let is = some_is (x, bytes) (b, rest) g.1 in
    subst (λ (p : ℕ × List ℕ). Takes (x ∷ bytes) (p.0 ∷ []) p.1 × (p.0 < 2)) is (record { parts = refl; rest_fits = IsBytes-rest x bytes fits }, ltb-true x 2 g.0)

flag_again : (b : ℕ) (rest : List ℕ) → b < 2 → flag_at (b ∷ [] ++ rest) ≡ Some (b, rest)
unfolding flag_at
flag_again b rest lt = rw (lt-ltb b 2 lt) refl

flag_law : Law flag_at flag
unfolding operand_bytes
flag_law = record { takes = flag_takes; again = flag_again }

is_trap : (x : ℕ) → (eqb x 7 || eqb x 8) ≡ true → (7 ≤ x) × (x ≤ 8)
is_trap x e = grind (arith, eqb-true)

trap_takes : (bytes : List ℕ) (b : ℕ) (rest : List ℕ) → IsBytes bytes → trap_at bytes ≡ Some (b, rest) → Takes bytes (b ∷ []) rest × ((7 ≤ b) × (b ≤ 8))
unfolding trap_at
trap_takes [] b rest fits e = absurd cc
trap_takes (x ∷ bytes) b rest fits e =
    let g = only_some (eqb x 7 || eqb x 8) (Some (x, bytes)) (b, rest) e in
    let is = some_is (x, bytes) (b, rest) g.1 in
    subst (λ (p : ℕ × List ℕ). Takes (x ∷ bytes) (p.0 ∷ []) p.1 × ((7 ≤ p.0) × (p.0 ≤ 8))) is (record { parts = refl; rest_fits = IsBytes-rest x bytes fits }, is_trap x g.0)

trap_again : (b : ℕ) (rest : List ℕ) → (7 ≤ b) × (b ≤ 8) → trap_at (b ∷ [] ++ rest) ≡ Some (b, rest)
unfolding trap_at
trap_again b rest h = elim (cases_lt b 8) [
  | inl lt ↦ let e : b ≡ 7 = omega (arith, lt, h.0) in subst (λ (n : ℕ). trap_at (n ∷ [] ++ rest) ≡ Some (n, rest)) (sym e) refl
  | inr le ↦ let e : b ≡ 8 = omega (arith, le, h.1) in subst (λ (n : ℕ). trap_at (n ∷ [] ++ rest) ≡ Some (n, rest)) (sym e) refl
]

trap_law : Law trap_at trap
unfolding operand_bytes
trap_law = record { takes = trap_takes; again = trap_again }

-- ---- one row

-- what a line says of the bytes
record Form : Type 0 where
  op : ℕ
  operands : List Operand

abbrev has : ℕ → List Operand → Form
has op operands = record { op = op; operands = operands }

abbrev form : Instr → Form
form i = has (line_of i).opcode (line_of i).operands

record Sound (op : ℕ) (row : Row) : Type 0 where
  takes : (bytes : List ℕ) (i : Instr) (rest : List ℕ) → IsBytes bytes → row bytes ≡ Some (i, rest) → Takes (op ∷ bytes) (spelling i) rest × IsInstr i

Takes-op : (op : ℕ) (a x b : List ℕ) → Takes a x b → Takes (op ∷ a) (op ∷ x) b
Takes-op op a x b p = record { parts = ap (λ (t : List ℕ). op ∷ t) p.parts; rest_fits = p.rest_fits }

abbrev Fine : ℕ → List ℕ → Form → Instr × List ℕ → Type 0
Fine op bytes f y = Takes (op ∷ bytes) (f.op ∷ all_bytes f.operands) y.1 × AllByRecursion InRange f.operands

abbrev Spelled : ℕ → List ℕ → Instr × List ℕ → Type 0
Spelled op bytes y = Takes (op ∷ bytes) (spelling y.0) y.1 × IsInstr y.0

spelled : (op : ℕ) (bytes : List ℕ) (f : Form) (made y : Instr × List ℕ) → form made.0 ≡ f → made ≡ y → Fine op bytes f made → Spelled op bytes y
spelled op bytes f made y e is h = subst (Spelled op bytes) is (subst (λ (g : Form). Fine op bytes g made) (sym e) h)

none_sound : (op : ℕ) → Sound op none
none_sound op = record { takes = λ bytes i rest fits e. absurd (cc e) }

bare_sound : (op : ℕ) (i : Instr) → form i ≡ has op [] → Sound op (bare i)
bare_sound op i e = record {
  takes = λ bytes j rest fits h.
      spelled op bytes (has op []) (i, bytes) (j, rest) e (some_is (i, bytes) (j, rest) h) (record { parts = refl; rest_fits = fits }, tt);
}

one_sound : {A : Type 0} (op : ℕ) (at : List ℕ → Option (A × List ℕ)) (o : A → Operand) (f : A → Instr) → Law at o → ((x : A) → form (f x) ≡ has op (o x ∷ [])) → Sound op (one at f)
one_sound op at o f law e = record {
  takes = λ bytes j rest fits h.
      let a = bind_some (at bytes) (λ x. Some (f x.0, x.1)) (j, rest) h in
      let t = law.takes bytes a.0.0 a.0.1 fits a.1 in
      spelled op bytes (has op (o a.0.0 ∷ [])) (f a.0.0, a.0.1) (j, rest) (e a.0.0) (some_is _ _ a.2) (Takes-op op _ _ _ (Takes-nil _ _ _ t.0), (t.1, tt));
}

two_sound : {A B : Type 0} (op : ℕ) (at : List ℕ → Option (A × List ℕ)) (bt : List ℕ → Option (B × List ℕ)) (o : A → Operand) (p : B → Operand) (f : A → B → Instr) → Law at o → Law bt p → ((x : A) (y : B) → form (f x y) ≡ has op (o x ∷ p y ∷ [])) → Sound op (two at bt f)
two_sound op at bt o p f law lbw e = record {
  takes = λ bytes j rest fits h.
      let a = bind_some (at bytes) (λ x. bt x.1 >>= λ y. Some (f x.0 y.0, y.1)) (j, rest) h in
      let b = bind_some (bt a.0.1) (λ y. Some (f a.0.0 y.0, y.1)) (j, rest) a.2 in
      let t = law.takes bytes a.0.0 a.0.1 fits a.1 in
      let u = lbw.takes a.0.1 b.0.0 b.0.1 t.0.rest_fits b.1 in
      spelled op bytes (has op (o a.0.0 ∷ p b.0.0 ∷ [])) (f a.0.0 b.0.0, b.0.1) (j, rest) (e a.0.0 b.0.0) (some_is _ _ b.2) (Takes-op op _ _ _ (Takes-then _ _ _ _ _ t.0 (Takes-nil _ _ _ u.0)), (t.1, (u.1, tt)));
}

three_sound : {A B C : Type 0} (op : ℕ) (at : List ℕ → Option (A × List ℕ)) (bt : List ℕ → Option (B × List ℕ)) (ct : List ℕ → Option (C × List ℕ)) (o : A → Operand) (p : B → Operand) (q : C → Operand) (f : A → B → C → Instr) → Law at o → Law bt p → Law ct q → ((x : A) (y : B) (z : C) → form (f x y z) ≡ has op (o x ∷ p y ∷ q z ∷ [])) → Sound op (three at bt ct f)
three_sound op at bt ct o p q f law lbw lcw e = record {
  takes = λ bytes j rest fits h.
      let a = bind_some (at bytes) (λ x. bt x.1 >>= λ y. ct y.1 >>= λ z. Some (f x.0 y.0 z.0, z.1)) (j, rest) h in
      let b = bind_some (bt a.0.1) (λ y. ct y.1 >>= λ z. Some (f a.0.0 y.0 z.0, z.1)) (j, rest) a.2 in
      let c = bind_some (ct b.0.1) (λ z. Some (f a.0.0 b.0.0 z.0, z.1)) (j, rest) b.2 in
      let t = law.takes bytes a.0.0 a.0.1 fits a.1 in
      let u = lbw.takes a.0.1 b.0.0 b.0.1 t.0.rest_fits b.1 in
      let v = lcw.takes b.0.1 c.0.0 c.0.1 u.0.rest_fits c.1 in
      spelled op bytes (has op (o a.0.0 ∷ p b.0.0 ∷ q c.0.0 ∷ [])) (f a.0.0 b.0.0 c.0.0, c.0.1) (j, rest) (e a.0.0 b.0.0 c.0.0) (some_is _ _ c.2) (Takes-op op _ _ _ (Takes-then _ _ _ _ _ t.0 (Takes-then _ _ _ _ _ u.0 (Takes-nil _ _ _ v.0))), (t.1, (u.1, (v.1, tt))));
}

abbrev AllSound : ℕ → List Row → Type 0
AllSound op [] = Unit {0}
AllSound op (row ∷ rest) = Sound op row × AllSound (suc op) rest

rows_sound : AllSound 0 rows
unfolding rows
rows_sound = (
  none_sound 0,
  (
    one_sound 1 value_at value Push value_law (λ x. refl),
    (
      two_sound 2 number_at number_at number number Local number_law number_law (λ x y. refl),
      (
        two_sound 3 number_at number_at number number Global number_law number_law (λ x y. refl),
        (
          one_sound 4 number_at number Str number_law (λ x. refl),
          (
            bare_sound 5 Load refl,
            (
              bare_sound 6 Store refl,
              (
                one_sound 7 number_at number Move number_law (λ x. refl),
                (
                  bare_sound 8 Dup refl,
                  (
                    one_sound 9 number_at number Offset number_law (λ x. refl),
                    (
                      three_sound 10 value_at number_at number_at value number number Index value_law number_law number_law (λ x y z. refl),
                      (
                        one_sound 11 number_at number IndexOpen number_law (λ x. refl),
                        (
                          two_sound 12 value_at value_at value value Check value_law value_law (λ x y. refl),
                          (
                            bare_sound 13 Nil refl,
                            (
                              one_sound 14 flag_at flag Add flag_law (λ x. refl),
                              (
                                one_sound 15 flag_at flag Sub flag_law (λ x. refl),
                                (
                                  one_sound 16 flag_at flag Mul flag_law (λ x. refl),
                                  (
                                    one_sound 17 flag_at flag Div flag_law (λ x. refl),
                                    (
                                      one_sound 18 flag_at flag Mod flag_law (λ x. refl),
                                      (
                                        bare_sound 19 Neg refl,
                                        (
                                          bare_sound 20 Abs refl,
                                          (
                                            bare_sound 21 Not refl,
                                            (
                                              bare_sound 22 Eq refl,
                                              (
                                                bare_sound 23 Ne refl,
                                                (
                                                  bare_sound 24 Lt refl,
                                                  (
                                                    bare_sound 25 Le refl,
                                                    (
                                                      bare_sound 26 Gt refl,
                                                      (
                                                        bare_sound 27 Ge refl,
                                                        (
                                                          bare_sound 28 Union refl,
                                                          (
                                                            bare_sound 29 Diff refl,
                                                            (
                                                              bare_sound 30 Inter refl,
                                                              (
                                                                bare_sound 31 SymDiff refl,
                                                                (
                                                                  bare_sound 32 Subset refl,
                                                                  (
                                                                    bare_sound 33 Superset refl,
                                                                    (
                                                                      bare_sound 34 In refl,
                                                                      (
                                                                        bare_sound 35 Bit refl,
                                                                        (
                                                                          bare_sound 36 Span refl,
                                                                          (
                                                                            one_sound 37 distance_at distance Jump distance_law (λ x. refl),
                                                                            (
                                                                              one_sound 38 distance_at distance JumpFalse distance_law (λ x. refl),
                                                                              (
                                                                                one_sound 39 distance_at distance AndJump distance_law (λ x. refl),
                                                                                (
                                                                                  one_sound 40 distance_at distance OrJump distance_law (λ x. refl),
                                                                                  (
                                                                                    one_sound 41 value_at value More value_law (λ x. refl),
                                                                                    (
                                                                                      two_sound 42 number_at number_at number number Call number_law number_law (λ x y. refl),
                                                                                      (
                                                                                        two_sound 43 number_at number_at number number CallX number_law number_law (λ x y. refl),
                                                                                        (
                                                                                          two_sound 44 number_at number_at number number CallVar number_law number_law (λ x y. refl),
                                                                                          (
                                                                                            two_sound 45 number_at number_at number number Proc number_law number_law (λ x y. refl),
                                                                                            (
                                                                                              bare_sound 46 Return refl,
                                                                                              (
                                                                                                one_sound 47 trap_at trap Trap trap_law (λ x. refl),
                                                                                                (
                                                                                                  one_sound 48 count_at count New count_law (λ x. refl),
                                                                                                  (
                                                                                                    two_sound 49 number_at number_at number number OpenCopy number_law number_law (λ x y. refl),
                                                                                                    (
                                                                                                      bare_sound 50 Halt refl,
                                                                                                      (
                                                                                                        bare_sound 51 Cap refl,
                                                                                                        tt,
                                                                                                      ),
                                                                                                    ),
                                                                                                  ),
                                                                                                ),
                                                                                              ),
                                                                                            ),
                                                                                          ),
                                                                                        ),
                                                                                      ),
                                                                                    ),
                                                                                  ),
                                                                                ),
                                                                              ),
                                                                            ),
                                                                          ),
                                                                        ),
                                                                      ),
                                                                    ),
                                                                  ),
                                                                ),
                                                              ),
                                                            ),
                                                          ),
                                                        ),
                                                      ),
                                                    ),
                                                  ),
                                                ),
                                              ),
                                            ),
                                          ),
                                        ),
                                      ),
                                    ),
                                  ),
                                ),
                              ),
                            ),
                          ),
                        ),
                      ),
                    ),
                  ),
                ),
              ),
            ),
          ),
        ),
      ),
    ),
  ),
)

row_sound : (rs : List Row) (n k : ℕ) (row : Row) → AllSound n rs → slice_get rs k ≡ Some row → Sound (n + k) row
row_sound [] n k row all e = absurd cc
row_sound (r ∷ rs) n zero row all e = subst (Sound (n + 0)) (some_is r row e) (subst (λ (m : ℕ). Sound m r) (omega arith) all.0)
row_sound (r ∷ rs) n (suc k) row all e = subst (λ (m : ℕ). Sound m row) (omega arith) (row_sound rs (suc n) k row all.1 e)

pub takes : (bytes : List ℕ) (i : Instr) (rest : List ℕ) → IsBytes bytes → decoded bytes ≡ Some (i, rest) → (bytes ≡ spelling i ++ rest) × IsInstr i
unfolding decoded instr_at
takes [] i rest fits e = absurd cc
takes (op ∷ bytes) i rest fits e =
    let a = bind_some (slice_get rows op) (λ row. row bytes) (i, rest) e in
    let s = row_sound rows 0 op a.0 rows_sound a.1 in
    let s' : Sound op a.0 = subst (λ (m : ℕ). Sound m a.0) (omega arith) s in
    let t = s'.takes bytes i rest (IsBytes-rest op bytes fits) a.2 in
    (t.0.parts, t.1)

-- ---- what is spelled so is read

one_again : {A : Type 0} (at : List ℕ → Option (A × List ℕ)) (o : A → Operand) (f : A → Instr) (x : A) (rest : List ℕ) → Law at o → InRange (o x) → one at f ((operand_bytes (o x) ++ []) ++ rest) ≡ Some (f x, rest)
one_again at o f x rest law fits = rw (append-nil (operand_bytes (o x)), law.again x rest fits) refl

two_again : {A B : Type 0} (at : List ℕ → Option (A × List ℕ)) (bt : List ℕ → Option (B × List ℕ)) (o : A → Operand) (p : B → Operand) (f : A → B → Instr) (x : A) (y : B) (rest : List ℕ) → Law at o → Law bt p → InRange (o x) → InRange (p y) → two at bt f ((operand_bytes (o x) ++ (operand_bytes (p y) ++ [])) ++ rest) ≡ Some (f x y, rest)
two_again at bt o p f x y rest law lbw fits fits' =
    rw (append-nil (operand_bytes (p y)), append_assoc (operand_bytes (o x)) (operand_bytes (p y)) rest, law.again x (operand_bytes (p y) ++ rest) fits, lbw.again y rest fits') refl

three_again : {A B C : Type 0} (at : List ℕ → Option (A × List ℕ)) (bt : List ℕ → Option (B × List ℕ)) (ct : List ℕ → Option (C × List ℕ)) (o : A → Operand) (p : B → Operand) (q : C → Operand) (f : A → B → C → Instr) (x : A) (y : B) (z : C) (rest : List ℕ) → Law at o → Law bt p → Law ct q → InRange (o x) → InRange (p y) → InRange (q z) → three at bt ct f ((operand_bytes (o x) ++ (operand_bytes (p y) ++ (operand_bytes (q z) ++ []))) ++ rest) ≡ Some (f x y z, rest)
three_again at bt ct o p q f x y z rest law lbw lcw fits fits' fits'' =
    rw (append-nil (operand_bytes (q z)), append_assoc (operand_bytes (o x)) (operand_bytes (p y) ++ operand_bytes (q z)) rest, append_assoc (operand_bytes (p y)) (operand_bytes (q z)) rest, law.again x (operand_bytes (p y) ++ (operand_bytes (q z) ++ rest)) fits, lbw.again y (operand_bytes (q z) ++ rest) fits', lcw.again z rest fits'') refl

pub again : (i : Instr) (rest : List ℕ) → IsInstr i → decoded (spelling i ++ rest) ≡ Some (i, rest)
unfolding decoded instr_at rows
again (Push x) rest h = one_again value_at value Push x rest value_law h.0
again (Local x y) rest h = two_again number_at number_at number number Local x y rest number_law number_law h.0 h.1.0
again (Global x y) rest h = two_again number_at number_at number number Global x y rest number_law number_law h.0 h.1.0
again (Str x) rest h = one_again number_at number Str x rest number_law h.0
again Load rest h = refl
again Store rest h = refl
again (Move x) rest h = one_again number_at number Move x rest number_law h.0
again Dup rest h = refl
again (Offset x) rest h = one_again number_at number Offset x rest number_law h.0
again (Index x y z) rest h = three_again value_at number_at number_at value number number Index x y z rest value_law number_law number_law h.0 h.1.0 h.1.1.0
again (IndexOpen x) rest h = one_again number_at number IndexOpen x rest number_law h.0
again (Check x y) rest h = two_again value_at value_at value value Check x y rest value_law value_law h.0 h.1.0
again Nil rest h = refl
again (Add x) rest h = one_again flag_at flag Add x rest flag_law h.0
again (Sub x) rest h = one_again flag_at flag Sub x rest flag_law h.0
again (Mul x) rest h = one_again flag_at flag Mul x rest flag_law h.0
again (Div x) rest h = one_again flag_at flag Div x rest flag_law h.0
again (Mod x) rest h = one_again flag_at flag Mod x rest flag_law h.0
again Neg rest h = refl
again Abs rest h = refl
again Not rest h = refl
again Eq rest h = refl
again Ne rest h = refl
again Lt rest h = refl
again Le rest h = refl
again Gt rest h = refl
again Ge rest h = refl
again Union rest h = refl
again Diff rest h = refl
again Inter rest h = refl
again SymDiff rest h = refl
again Subset rest h = refl
again Superset rest h = refl
again In rest h = refl
again Bit rest h = refl
again Span rest h = refl
again (Jump x) rest h = one_again distance_at distance Jump x rest distance_law h.0
again (JumpFalse x) rest h = one_again distance_at distance JumpFalse x rest distance_law h.0
again (AndJump x) rest h = one_again distance_at distance AndJump x rest distance_law h.0
again (OrJump x) rest h = one_again distance_at distance OrJump x rest distance_law h.0
again (More x) rest h = one_again value_at value More x rest value_law h.0
again (Call x y) rest h = two_again number_at number_at number number Call x y rest number_law number_law h.0 h.1.0
again (CallX x y) rest h = two_again number_at number_at number number CallX x y rest number_law number_law h.0 h.1.0
again (CallVar x y) rest h = two_again number_at number_at number number CallVar x y rest number_law number_law h.0 h.1.0
again (Proc x y) rest h = two_again number_at number_at number number Proc x y rest number_law number_law h.0 h.1.0
again Return rest h = refl
again (Trap x) rest h = one_again trap_at trap Trap x rest trap_law h.0
again (New x) rest h = one_again count_at count New x rest count_law h.0
again (OpenCopy x y) rest h = two_again number_at number_at number number OpenCopy x y rest number_law number_law h.0 h.1.0
again Halt rest h = refl
again Cap rest h = refl

-- ---- what the code tells

none_some : (r : Option (Instr × List ℕ)) (x : Instr × List ℕ) → r ≡ None → r ≡ Some x → ⊥
none_some r x a b = cc

-- bytes in which nothing is read begin with no instruction
pub no_other : (bytes : List ℕ) (i : Instr) (rest : List ℕ) → decoded bytes ≡ None → BeginsWith bytes i rest → ⊥
no_other bytes i rest e h = none_some _ _ e (ap decoded h.spelled ∙ again i rest h.in_range)

pub past : (op : ℕ) (rest : List ℕ) → 52 ≤ op → instr_at op rest ≡ None
unfolding instr_at rows
past op rest h = rw (slice_get_past rows op h) refl

-- what is read at a place of the bytes
pub record Found (bytes : List ℕ) (at : ℕ) (i : Instr) (after : List ℕ) : Type 0 where
  pub begins : BeginsWith (drop at bytes) i after
  pub size : length bytes - at ≡ length (spelling i) + length after
  pub after_is : drop (length bytes - length after) bytes ≡ after

pub found : (bytes : List ℕ) (at : ℕ) (i : Instr) (after : List ℕ) → IsBytes bytes → at ≤ length bytes → decoded (drop at bytes) ≡ Some (i, after) → Found bytes at i after
found bytes at i after fits le e =
    let t = takes (drop at bytes) i after (IsBytes-drop at bytes fits) e in
    let size : length bytes - at ≡ length (spelling i) + length after = sym (length-drop at bytes) ∙ ap length t.0 ∙ length-append (spelling i) after in
    let gone : length bytes - length after ≡ at + length (spelling i) = omega arith in
    let back : drop (length bytes - length after) bytes ≡ after = ap (λ (n : ℕ). drop n bytes) gone ∙ sym (drop-drop (length (spelling i)) at bytes) ∙ ap (drop (length (spelling i))) t.0 ∙ drop_at (spelling i) after (length (spelling i)) refl in
    record { begins = record { in_range = t.1; spelled = t.0 }; size = size; after_is = back }

-- a spelling isn't empty
pub spelling-positive : (i : Instr) → 0 < length (spelling i)
spelling-positive i = omega arith

-- bytes that begin with an instruction are read so
decoded_so : (bytes : List ℕ) (i : Instr) (rest : List ℕ) → BeginsWith bytes i rest → decoded bytes ≡ Some (i, rest)
decoded_so bytes i rest h = ap decoded h.spelled ∙ again i rest h.in_range

same_pair : (p q : Instr × List ℕ) (r : Option (Instr × List ℕ)) → r ≡ Some p → r ≡ Some q → p ≡ q
same_pair p q r h k = cc

pub one_instr : (bytes rest rest' : List ℕ) (i j : Instr) → BeginsWith bytes i rest → BeginsWith bytes j rest' → i ≡ j
one_instr bytes rest rest' i j h k =
    ap (λ (p : Instr × List ℕ). p.0) (same_pair (i, rest) (j, rest') (decoded bytes) (decoded_so bytes i rest h) (decoded_so bytes j rest' k))

pub one_rest : (bytes rest rest' : List ℕ) (i j : Instr) → BeginsWith bytes i rest → BeginsWith bytes j rest' → rest ≡ rest'
one_rest bytes rest rest' i j h k =
    ap (λ (p : Instr × List ℕ). p.1) (same_pair (i, rest) (j, rest') (decoded bytes) (decoded_so bytes i rest h) (decoded_so bytes j rest' k))

-- ---- sizes

length-operand_bytes : (o : Operand) → length (operand_bytes o) ≡ width o
unfolding operand_bytes
length-operand_bytes (number n) = refl
length-operand_bytes (count n) = refl
length-operand_bytes (distance j) = refl
length-operand_bytes (value v) = refl
length-operand_bytes (flag b) = refl
length-operand_bytes (trap c) = refl

length-all_bytes : (os : List Operand) → length (all_bytes os) ≡ all_widths os
length-all_bytes [] = refl
length-all_bytes (o ∷ os) = length-append (operand_bytes o) (all_bytes os) ∙ ap (λ (n : ℕ). n + length (all_bytes os)) (length-operand_bytes o) ∙ ap (λ (n : ℕ). width o + n) (length-all_bytes os)

-- an instruction has so many bytes
pub length-spelling : (i : Instr) → length (spelling i) ≡ size i
length-spelling i = ap suc (length-all_bytes (line_of i).operands)
