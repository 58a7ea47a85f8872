-- Bytes written after others.
use Rattle.std.proofs.Common.{◌≡◌, ℕ, zero, suc, ◌+◌, ◌-◌, ◌/◌, ◌%◌, ◌<◌, ◌≤◌, ◌^◌, List, [], ◌∷◌, ◌++◌, length, take, min, Option, Some, None, refl, sym, ap, ◌∙◌, subst, arith, append_assoc}
use Rattle.std.specs.Prelude.{decimal, replicate, Result, Ok, Err, OnErr, OnOk}
use Rattle.std.proofs.lemmas.List.{append-nil, length-append}
use Rattle.std.proofs.lemmas.Fmt.{decimal_digit, decimal_step}
use Rattle.std.specs.Prelude.{ℤ, pos, negsuc, unsigned_abs, Bool, true, false}
use Rattle.std.specs.Int.Signed.{le_z}
use Rattle.std.proofs.Common.{FitsSigned, w64, to_z, of_z}
use Rattle.std.proofs.lemmas.Bool.{false≢true, le-ltb, leb-false, leb-true, lt-ltb}
use Rattle.std.proofs.lemmas.Int.{to_z-of_z}
use Rattle.stack_machine.specs.declared.printing.Char.{Char}
use Rattle.stack_machine.specs.declared.printing.Char.TheVariants as chars
use Rattle.stack_machine.specs.InOut.{Text, text_at, text_from, string_of, char_at, begun, number_digits, padded}
use Rattle.stack_machine.specs.Numbers.{count_of}
use Rattle.stack_machine.specs.Operands.{top_of}
use Rattle.m2_io.specs.Written.{with_bytes, WritesPart}
use Rattle.m2_io.specs.Causes.{Rose}

take_front : (n : ℕ) (a b : List ℕ) → take (min n (length a)) (a ++ b) ≡ take n a
take_front zero a b = let e : min 0 (length a) ≡ 0 = omega arith in ap (λ (k : ℕ). take k (a ++ b)) e
take_front (suc n) [] b = let e : min (suc n) 0 ≡ 0 = omega arith in ap (λ (k : ℕ). take k b) e
take_front (suc n) (x ∷ a) b = ap (λ (k : ℕ). take k (x ∷ (a ++ b))) (more n (length a)) ∙ ap (λ (t : List ℕ). x ∷ t) (take_front n a b) where
  more : (n m : ℕ) → min (suc n) (suc m) ≡ suc (min n m)
  more n m = omega arith

take_back : (n : ℕ) (a b : List ℕ) → take (length a + n) (a ++ b) ≡ a ++ take n b
take_back n [] b = let e : 0 + n ≡ n = omega arith in ap (λ (k : ℕ). take k b) e
take_back n (x ∷ a) b = ap (λ (k : ℕ). take k (x ∷ (a ++ b))) (more (length a) n) ∙ ap (λ (t : List ℕ). x ∷ t) (take_back n a b) where
  more : (m n : ℕ) → suc m + n ≡ suc (m + n)
  more m n = omega arith

twice : (old : Option (List ℕ)) (a b : List ℕ) → with_bytes (with_bytes old a) b ≡ with_bytes old (a ++ b)
twice None a b = refl
twice (Some w) a b = ap Some (append_assoc w a b)

pub none_written : (w : Option (List ℕ)) → w ≡ with_bytes w []
none_written None = refl
none_written (Some x) = ap Some (sym (append-nil x))

pub all_back : (old mid new : Option (List ℕ)) (a b : List ℕ) → mid ≡ with_bytes old a → new ≡ with_bytes mid b → new ≡ with_bytes old (a ++ b)
all_back old mid new a b e f = f ∙ ap (λ (o : Option (List ℕ)). with_bytes o b) e ∙ twice old a b

pub part_front : (old new : Option (List ℕ)) (a b : List ℕ) → WritesPart old a new → WritesPart old (a ++ b) new
part_front old new a b h = (min h.0 (length a), h.1 ∙ ap (with_bytes old) (sym (take_front h.0 a b)))

pub part_back : (old mid new : Option (List ℕ)) (a b : List ℕ) → mid ≡ with_bytes old a → WritesPart mid b new → WritesPart old (a ++ b) new
part_back old mid new a b e h =
    (length a + h.0, h.1 ∙ ap (λ (o : Option (List ℕ)). with_bytes o (take h.0 b)) e ∙ twice old a (take h.0 b) ∙ ap (with_bytes old) (sym (take_back h.0 a b)))

pub part_none : (old : Option (List ℕ)) (a : List ℕ) → WritesPart old a old
part_none old a = (0, none_written old)

pub rose_from : (first mid last : ℕ) → first ≤ mid → Rose mid last → Rose first last
rose_from first mid last le h = omega (arith, le, h)

pub digit_all : (n : ℕ) → n < 10 → (48 + n) ∷ [] ≡ decimal n
digit_all n lt = sym (decimal_digit n lt)

pub digits_all : (old mid new : Option (List ℕ)) (n : ℕ) → 10 ≤ n → n < 2 ^ 64 → mid ≡ with_bytes old (decimal (n / 10)) → new ≡ with_bytes mid ((48 + n % 10) ∷ []) → new ≡ with_bytes old (decimal n)
digits_all old mid new n le lt e f = all_back old mid new (decimal (n / 10)) ((48 + n % 10) ∷ []) e f ∙ ap (with_bytes old) (sym (decimal_step n le lt))

pub digits_part : (old mid new : Option (List ℕ)) (n : ℕ) → 10 ≤ n → n < 2 ^ 64 → mid ≡ with_bytes old (decimal (n / 10)) → WritesPart mid ((48 + n % 10) ∷ []) new → WritesPart old (decimal n) new
digits_part old mid new n le lt e h = subst (λ (b : List ℕ). WritesPart old b new) (sym (decimal_step n le lt)) (part_back old mid new (decimal (n / 10)) ((48 + n % 10) ∷ []) e h)

pub digits_front : (old new : Option (List ℕ)) (n : ℕ) → 10 ≤ n → n < 2 ^ 64 → WritesPart old (decimal (n / 10)) new → WritesPart old (decimal n) new
digits_front old new n le lt h = subst (λ (b : List ℕ). WritesPart old b new) (sym (decimal_step n le lt)) (part_front old new (decimal (n / 10)) ((48 + n % 10) ∷ []) h)

pub one_digit : (n : ℕ) → n < 10 → 1 ≡ length (decimal n)
one_digit n lt = ap length (digit_all n lt)

pub more_digits : (n : ℕ) → 10 ≤ n → n < 2 ^ 64 → length (decimal (n / 10)) + 1 ≡ length (decimal n)
more_digits n le lt = sym (ap length (decimal_step n le lt) ∙ length-append (decimal (n / 10)) ((48 + n % 10) ∷ []))

pub sign_back : (old new : Option (List ℕ)) (b : List ℕ) → WritesPart old (45 ∷ []) new → WritesPart old (45 ∷ b) new
sign_back old new b h = part_front old new (45 ∷ []) b h

-- ---- numbers with a sign, and with blanks before them

positive_is : (v : ℤ) (n : ℕ) → le_z (pos 0) v ≡ true → n ≡ unsigned_abs v → decimal n ≡ number_digits v
unfolding number_digits
positive_is (pos k) n test is = rw (le-ltb k 0 (omega arith)) (ap decimal is)
positive_is (negsuc k) n test is = absurd (false≢true test)

negative_is : (v : ℤ) (n : ℕ) → le_z (pos 0) v ≡ false → n ≡ unsigned_abs v → 45 ∷ decimal n ≡ number_digits v
unfolding number_digits
negative_is (pos k) n test is = absurd (omega (arith, leb-false 0 k test))
negative_is (negsuc k) n test is = ap (λ (m : ℕ). 45 ∷ decimal m) is

-- the number is handed on before it is tested
pub positive_digits : (v : ℤ) (n : ℕ) → FitsSigned w64 v → le_z (pos 0) (to_z w64 (of_z w64 v)) ≡ true → n ≡ unsigned_abs (to_z w64 (of_z w64 v)) → decimal n ≡ number_digits v
positive_digits v n fits test is = let same = to_z-of_z w64 v fits in positive_is v n (subst (λ (z : ℤ). le_z (pos 0) z ≡ true) same test) (is ∙ ap unsigned_abs same)

pub negative_digits : (v : ℤ) (n : ℕ) → FitsSigned w64 v → le_z (pos 0) (to_z w64 (of_z w64 v)) ≡ false → n ≡ unsigned_abs (to_z w64 (of_z w64 v)) → 45 ∷ decimal n ≡ number_digits v
negative_digits v n fits test is = let same = to_z-of_z w64 v fits in negative_is v n (subst (λ (z : ℤ). le_z (pos 0) z ≡ false) same test) (is ∙ ap unsigned_abs same)

narrow_is : (n : ℤ) (text : List ℕ) → le_z n (pos 0) ≡ true → text ≡ padded n text
unfolding padded
narrow_is (pos k) text test = rw (le-ltb 0 k (leb-true k 0 test)) refl
narrow_is (negsuc k) text test = refl

wide_is : (n : ℤ) (text : List ℕ) → le_z n (pos 0) ≡ false → replicate (unsigned_abs n - length text) 32 ++ text ≡ padded n text
unfolding padded
wide_is (pos k) text test = rw (lt-ltb 0 k (leb-false k 0 test)) refl
wide_is (negsuc k) text test = absurd (false≢true (sym test))

pub narrow : (n v : ℤ) → FitsSigned w64 n → FitsSigned w64 v → le_z (to_z w64 (of_z w64 n)) (pos 0) ≡ true → number_digits (to_z w64 (of_z w64 v)) ≡ padded n (number_digits v)
narrow n v fits fits' test = ap number_digits (to_z-of_z w64 v fits') ∙ narrow_is n (number_digits v) (subst (λ (z : ℤ). le_z z (pos 0) ≡ true) (to_z-of_z w64 n fits) test)

-- the blanks and the digits, as they are handed on
pub wide : (n v : ℤ) (blanks size wide : ℕ) → FitsSigned w64 n → FitsSigned w64 v → le_z (to_z w64 (of_z w64 n)) (pos 0) ≡ false → blanks ≡ wide - size → wide ≡ unsigned_abs (to_z w64 (of_z w64 n)) → size ≡ length (number_digits (to_z w64 (of_z w64 v)))
    → replicate blanks 32 ++ number_digits (to_z w64 (of_z w64 v)) ≡ padded n (number_digits v)
wide n v blanks size all fits fits' test is all_is size_is =
    let same = to_z-of_z w64 n fits in
    let digits = ap number_digits (to_z-of_z w64 v fits') in
    let count : blanks ≡ unsigned_abs n - length (number_digits v) = is ∙ ap (λ (k : ℕ). k - size) (all_is ∙ ap unsigned_abs same) ∙ ap (λ (k : ℕ). unsigned_abs n - k) (size_is ∙ ap length digits) in
    ap (λ (k : ℕ). replicate k 32 ++ number_digits (to_z w64 (of_z w64 v))) count ∙ ap (λ (t : List ℕ). replicate (unsigned_abs n - length (number_digits v)) 32 ++ t) digits
    ∙ wide_is n (number_digits v) (subst (λ (z : ℤ). le_z z (pos 0) ≡ false) same test)

-- the text of an open array, as its address and its number of cells are handed on
pub string_told : (cells now : List ℤ) (operands : List ℤ) (high address : ℤ) (n : ℕ) → now ≡ cells → FitsSigned w64 high → FitsSigned w64 address → high ≡ top_of 0 operands → address ≡ top_of 1 operands → n ≡ count_of (to_z w64 (of_z w64 high)) → text_from now n (to_z w64 (of_z w64 address)) ≡ string_of cells operands
string_told cells now operands high address n same high_fits address_fits high_is address_is count =
    let z = to_z w64 (of_z w64 address) in
    ap (λ (xs : List ℤ). text_from xs n z) same ∙ ap (λ (k : ℕ). text_from cells k z) (count ∙ ap count_of (to_z-of_z w64 high high_fits ∙ high_is))
    ∙ ap (text_from cells (count_of (top_of 0 operands))) (to_z-of_z w64 address address_fits ∙ address_is)

-- ---- blanks

same_more : (b i : ℕ) → replicate i b ++ b ∷ [] ≡ replicate (suc i) b
same_more b zero = refl
same_more b (suc i) = ap (λ (t : List ℕ). b ∷ t) (same_more b i)

same_split : (b i k : ℕ) → replicate (i + k) b ≡ replicate i b ++ replicate k b
same_split b zero k = let e : 0 + k ≡ k = omega arith in ap (λ (n : ℕ). replicate n b) e
same_split b (suc i) k = let e : suc i + k ≡ suc (i + k) = omega arith in ap (λ (n : ℕ). replicate n b) e ∙ ap (λ (t : List ℕ). b ∷ t) (same_split b i k)

pub blanks_go : (old mid new : Option (List ℕ)) (i : ℕ) → mid ≡ with_bytes old (replicate i 32) → new ≡ with_bytes mid (32 ∷ []) → new ≡ with_bytes old (replicate (i + 1) 32)
blanks_go old mid new i e f =
    let n : suc i ≡ i + 1 = omega arith in
    let b : ℕ = 32 in
    all_back old mid new (replicate i b) (b ∷ []) e f ∙ ap (with_bytes old) (same_more b i ∙ ap (λ (k : ℕ). replicate k b) n)

pub blanks_part : (old mid new : Option (List ℕ)) (n i : ℕ) → i < n → mid ≡ with_bytes old (replicate i 32) → WritesPart mid (32 ∷ []) new → WritesPart old (replicate n 32) new
blanks_part old mid new n i lt e h =
    let b : ℕ = 32 in
    let m : suc i + (n - suc i) ≡ n = omega arith in
    let whole : (replicate i b ++ b ∷ []) ++ replicate (n - suc i) b ≡ replicate n b =
    ap (λ (t : List ℕ). t ++ replicate (n - suc i) b) (same_more b i) ∙ sym (same_split b (suc i) (n - suc i)) ∙ ap (λ (k : ℕ). replicate k b) m in
    subst (λ (x : List ℕ). WritesPart old x new) whole (part_front old new (replicate i b ++ b ∷ []) (replicate (n - suc i) b) (part_back old mid new (replicate i b) (b ∷ []) e h))

-- ---- texts

abbrev pub behind_bytes : List ℕ → Text → Text
behind_bytes bytes t = record { bytes = bytes ++ t.bytes; whole = t.whole }

-- so many of n cells are printed
pub record Printing (cells : List ℤ) (n i at0 at : ℕ) (old new : Option (List ℕ)) (first now : ℕ) : Type 0 where
  pub bytes : List ℕ
  pub written : new ≡ with_bytes old bytes
  pub text : text_at cells n at0 ≡ behind_bytes bytes (text_at cells (n - i) at)
  pub later : first ≤ now

text_step : (cells : List ℤ) (n i at : ℕ) → i < n → text_at cells (n - i) at ≡ begun (char_at cells at) (text_at cells (n - (i + 1)) (at + 1))
unfolding text_at
text_step cells n i at lt = let e : n - i ≡ suc (n - (i + 1)) = omega arith in ap (λ (k : ℕ). text_at cells k at) e

text_none : (cells : List ℤ) (n at : ℕ) → n ≡ 0 → text_at cells n at ≡ record { bytes = []; whole = true }
unfolding text_at
text_none cells n at e = ap (λ (k : ℕ). text_at cells k at) e

pub starts : (cells : List ℤ) (n at : ℕ) (old : Option (List ℕ)) (first : ℕ) → Printing cells n 0 at at old old first first
starts cells n at old first =
    let e : n ≡ n - 0 = omega arith in
    record { bytes = []; written = none_written old; text = ap (λ (k : ℕ). text_at cells k at) e; later = omega arith }

at_char : (cells : List ℤ) (n i at0 at : ℕ) (old new : Option (List ℕ)) (first now : ℕ) (char : Char) → i < n → (p : Printing cells n i at0 at old new first now) → char ≡ char_at cells at
    → text_at cells n at0 ≡ behind_bytes p.bytes (begun char (text_at cells (n - (i + 1)) (at + 1)))
at_char cells n i at0 at old new first now char lt p is =
    p.text ∙ ap (behind_bytes p.bytes) (text_step cells n i at lt ∙ ap (λ (x : Char). begun x (text_at cells (n - (i + 1)) (at + 1))) (sym is))

pub goes : (cells : List ℤ) (n i at0 at : ℕ) (old mid new : Option (List ℕ)) (first mid_faults now b : ℕ) → i < n → Printing cells n i at0 at old mid first mid_faults → chars.Byte b ≡ char_at cells at
    → new ≡ with_bytes mid (b ∷ []) → mid_faults ≤ now → Printing cells n (i + 1) at0 (at + 1) old new first now
goes cells n i at0 at old mid new first mid_faults now b lt p is e le =
    let t = text_at cells (n - (i + 1)) (at + 1) in
    let later = p.later in
    record {
      bytes = p.bytes ++ b ∷ [];
      written = all_back old mid new p.bytes (b ∷ []) p.written e;
      text = at_char cells n i at0 at old mid first mid_faults (chars.Byte b) lt p is ∙ ap (λ (x : List ℕ). record { bytes = x; whole = t.whole }) (sym (append_assoc p.bytes (b ∷ []) t.bytes));
      later = omega (arith, later, le);
    }

-- the text of which so much was printed is over
pub record Over (t : Text) (old new : Option (List ℕ)) (whole : Bool) : Type 0 where
  pub whole_is : whole ≡ t.whole
  pub written : new ≡ with_bytes old t.bytes

over_by : (t : Text) (bytes : List ℕ) (whole : Bool) (old new : Option (List ℕ)) → new ≡ with_bytes old bytes → t ≡ behind_bytes bytes (record { bytes = []; whole = whole }) → Over t old new whole
over_by t bytes whole old new e is = record {
  whole_is = sym (ap (λ (x : Text). x.whole) is);
  written = e ∙ ap (with_bytes old) (sym (ap (λ (x : Text). x.bytes) is ∙ append-nil bytes));
}

pub misses : (cells : List ℤ) (n i at0 at : ℕ) (old new : Option (List ℕ)) (first now : ℕ) → i < n → Printing cells n i at0 at old new first now → chars.Missing ≡ char_at cells at → Over (text_at cells n at0) old new false
misses cells n i at0 at old new first now lt p is = over_by (text_at cells n at0) p.bytes false old new p.written (at_char cells n i at0 at old new first now chars.Missing lt p is)

pub ends : (cells : List ℤ) (n i at0 at : ℕ) (old new : Option (List ℕ)) (first now : ℕ) → i < n → Printing cells n i at0 at old new first now → chars.End ≡ char_at cells at → Over (text_at cells n at0) old new true
ends cells n i at0 at old new first now lt p is = over_by (text_at cells n at0) p.bytes true old new p.written (at_char cells n i at0 at old new first now chars.End lt p is)

pub all_printed : (cells : List ℤ) (n i at0 at : ℕ) (old new : Option (List ℕ)) (first now : ℕ) → n ≤ i → Printing cells n i at0 at old new first now → Over (text_at cells n at0) old new true
all_printed cells n i at0 at old new first now le p =
    over_by (text_at cells n at0) p.bytes true old new p.written (p.text ∙ ap (behind_bytes p.bytes) (text_none cells (n - i) at (omega arith)))

pub fails : (cells : List ℤ) (n i at0 at : ℕ) (old mid new : Option (List ℕ)) (first now b : ℕ) → i < n → Printing cells n i at0 at old mid first now → chars.Byte b ≡ char_at cells at
    → WritesPart mid (b ∷ []) new → WritesPart old (text_at cells n at0).bytes new
fails cells n i at0 at old mid new first now b lt p is h =
    let t = text_at cells (n - (i + 1)) (at + 1) in
    let whole : (text_at cells n at0).bytes ≡ (p.bytes ++ b ∷ []) ++ t.bytes =
    ap (λ (x : Text). x.bytes) (at_char cells n i at0 at old mid first now (chars.Byte b) lt p is) ∙ sym (append_assoc p.bytes (b ∷ []) t.bytes) in
    subst (λ (x : List ℕ). WritesPart old x new) (sym whole) (part_front old new (p.bytes ++ b ∷ []) t.bytes (part_back old mid new p.bytes (b ∷ []) p.written h))

pub on_err : {T E Q : Type 0} (r : Result T E) → Q → OnErr r Q
on_err (Ok x) q = tt
on_err (Err e) q = q

pub on_ok : {T E Q : Type 0} (r : Result T E) → Q → OnOk r Q
on_ok (Ok x) q = q
on_ok (Err e) q = tt
