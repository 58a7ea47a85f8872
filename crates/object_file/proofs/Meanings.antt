-- Formats one after another: what is read is spelled so, what is spelled so is read, and a fault is the first broken field.
use Rattle.std.proofs.Common.{◌≡◌, ◌≢◌, ℕ, ◌^◌, ◌<◌, ◌≤◌, Bool, true, false, cond, ltb, eqb, List, [], ◌∷◌, ◌++◌, length, get_or, take, drop, Result, Ok, Err, refl, sym, ap, subst, ◌∙◌, arith, zero, suc, ◌+◌, ◌⊎◌, inl, inr}
use Rattle.std.specs.Int.{Width, w32, byte_len, from_le_bytes, to_le_bytes}
use Rattle.std.proofs.lemmas.Bool.{cases_lt, le-ltb, lt-ltb, ne_eqb}
use Rattle.std.proofs.lemmas.Bool.Decides.{eqb_tells}
use Rattle.std.proofs.lemmas.List.{take_at, drop_at, take-append-drop, length-append, length-take, get_or-drop, get_or-take, get_or_past}
use Rattle.std.proofs.lemmas.Nat.{le_bytes_4, from_le_bytes-to_le_bytes_4}
use Rattle.object_file.specs.Contents.{u32, with_length}
use Rattle.object_file.specs.Formats.{Format, done, exact, number, text, raw, ◌>>=◌, many, Bad, ended, Differs, Spells, IsBroken, IsBad}
use Rattle.object_file.specs.Fields.{wide_at, number_at, raw_at, text_at, match_at, exact_at, valid_at, many_at, counted_at, ends_at, ◌then◌, read}
use Rattle.object_file.proofs.Matching.{eq-eqb}

-- ---- reading by parts

pub then_then : {A B C : Type 0} (r : Result A Bad) (f : A → Result B Bad) (g : B → Result C Bad) → (r then f) then g ≡ r then (λ x. f x then g)
then_then (Ok x) f g = refl
then_then (Err e) f g = refl

pub then_same : {A B : Type 0} (r : Result A Bad) (f g : A → Result B Bad) → ((x : A) → f x ≡ g x) → r then f ≡ r then g
then_same (Ok x) f g h = h x
then_same (Err e) f g h = refl

read_then : {A B : Type 0} (f : Format A) (g : A → Format B) (bytes : List ℕ) → read (f >>= g) bytes ≡ read f bytes then (λ x. read (g x.0) x.1)
unfolding read ◌>>=◌
read_then (done x) g bytes = refl
read_then (exact e next) g bytes =
    then_same (exact_at e bytes) _ _ (λ rest. read_then next g rest)
    ∙ sym (then_then (exact_at e bytes) (λ rest. read next rest) (λ x. read (g x.0) x.1))
read_then (number ok next) g bytes =
    then_same (number_at bytes) _ _ (λ n. then_same (valid_at (ok n.0) bytes) _ _ (λ u. read_then (next n.0) g n.1) ∙ sym (then_then (valid_at (ok n.0) bytes) (λ u. read (next n.0) n.1) (λ x. read (g x.0) x.1)))
    ∙ sym (then_then (number_at bytes) (λ n. valid_at (ok n.0) bytes then λ u. read (next n.0) n.1) (λ x. read (g x.0) x.1))
read_then (text ok next) g bytes =
    then_same (text_at bytes) _ _ (λ n. then_same (valid_at (ok n.0) bytes) _ _ (λ u. read_then (next n.0) g n.1) ∙ sym (then_then (valid_at (ok n.0) bytes) (λ u. read (next n.0) n.1) (λ x. read (g x.0) x.1)))
    ∙ sym (then_then (text_at bytes) (λ n. valid_at (ok n.0) bytes then λ u. read (next n.0) n.1) (λ x. read (g x.0) x.1))
read_then (raw n next) g bytes =
    then_same (raw_at n bytes) _ _ (λ t. read_then (next t.0) g t.1)
    ∙ sym (then_then (raw_at n bytes) (λ t. read (next t.0) t.1) (λ x. read (g x.0) x.1))

read_many : {A : Type 0} (one : List A → Format A) (one_at : List A → List ℕ → Result (A × List ℕ) Bad) (n : ℕ) (before : List A) (bytes : List ℕ) → ((xs : List A) (bs : List ℕ) → read (one xs) bs ≡ one_at xs bs) → read (many one n before) bytes ≡ many_at one_at n before bytes
unfolding many many_at read
read_many one one_at zero before bytes h = refl
read_many {A = A} one one_at (suc n) before bytes h =
    read_then (one before) (λ x. many one n (before ++ x ∷ [])) bytes
    ∙ ap (λ (r : Result (A × List ℕ) Bad). r then λ x. read (many one n (before ++ x.0 ∷ [])) x.1) (h before bytes)
    ∙ then_same (one_at before bytes) _ _ (λ x. read_many one one_at n (before ++ x.0 ∷ []) x.1 h)

-- one format after another, each read by its own function
pub bind_at : {A B : Type 0} (f : Format A) (f_at : List ℕ → Result (A × List ℕ) Bad) (g : A → Format B) (g_at : A → List ℕ → Result (B × List ℕ) Bad) (bytes : List ℕ)
    → ((bs : List ℕ) → read f bs ≡ f_at bs) → ((x : A) (bs : List ℕ) → read (g x) bs ≡ g_at x bs) → read (f >>= g) bytes ≡ f_at bytes then (λ x. g_at x.0 x.1)
bind_at {A = A} {B = B} f f_at g g_at bytes hf hg =
    read_then f g bytes
    ∙ ap (λ (r : Result (A × List ℕ) Bad). r then λ x. read (g x.0) x.1) (hf bytes)
    ∙ then_same (f_at bytes) (λ x. read (g x.0) x.1) (λ x. g_at x.0 x.1) (λ x. hg x.0 x.1)

pub read_counted : {A : Type 0} (ok : ℕ → Bool) (one : List A → Format A) (one_at : List A → List ℕ → Result (A × List ℕ) Bad) → ((xs : List A) (bs : List ℕ) → read (one xs) bs ≡ one_at xs bs) → (bytes : List ℕ) → read (number ok (λ n. many one n [])) bytes ≡ counted_at ok one_at bytes
unfolding read counted_at
read_counted ok one one_at h bytes = then_same (number_at bytes) _ _ (λ n. then_same (valid_at (ok n.0) bytes) _ _ (λ u. read_many one one_at n.0 [] n.1 h))

-- ---- the meaning of reading

abbrev pub IsBytes : List ℕ → Type 0
IsBytes bytes = (i : ℕ) → get_or bytes i 0 < 256

IsBytes-drop : (n : ℕ) (bytes : List ℕ) → IsBytes bytes → IsBytes (drop n bytes)
IsBytes-drop n bytes h i = rw get_or-drop (h (n + i))

IsBytes-take : (n : ℕ) (bytes : List ℕ) → IsBytes bytes → IsBytes (take n bytes)
IsBytes-take n bytes h i =
    elim (cases_lt i n) [
      | inl lt ↦ rw (get_or-take n bytes i 0 lt) (h i)
      | inr le ↦ rw (get_or_past (take n bytes) i 0 (omega (arith, length-take n bytes))) (omega arith)
    ]

IsBytes-rest : (b : ℕ) (bytes : List ℕ) → IsBytes (b ∷ bytes) → IsBytes bytes
IsBytes-rest b bytes h i = h (suc i)

record IsWide (w : Width) (limit : ℕ) : Type 0 where
  len : (n : ℕ) → length (to_le_bytes w n) ≡ byte_len w
  back : (bytes : List ℕ) → length bytes ≡ byte_len w → IsBytes bytes → to_le_bytes w (from_le_bytes w bytes) ≡ bytes
  again : (n : ℕ) → n < limit → from_le_bytes w (to_le_bytes w n) ≡ n
  below : (bytes : List ℕ) → IsBytes bytes → from_le_bytes w bytes < limit

wide32 : IsWide w32 (2 ^ 32)
wide32 = record {
  len = λ n. refl;
  back = λ bytes len fits. le_bytes_4 bytes _ len fits refl;
  again = λ n lt. from_le_bytes-to_le_bytes_4 n lt;
  below = λ bytes fits. omega (arith, fits 0, fits 1, fits 2, fits 3);
}

record Takes (bytes text rest : List ℕ) : Type 0 where
  parts : bytes ≡ text ++ rest
  fits : IsBytes rest

-- what a reader of one field found, or why not
abbrev NumberIs : Width → ℕ → List ℕ → Result (ℕ × List ℕ) Bad → Type 0
NumberIs w limit bytes (Ok x) = Takes bytes (to_le_bytes w x.0) x.1 × (x.0 < limit)
NumberIs w limit bytes (Err bad) = (length bytes < byte_len w) × (bad ≡ ended)

wide_is : (w : Width) (limit : ℕ) (wide : IsWide w limit) (bytes : List ℕ) → IsBytes bytes → NumberIs w limit bytes (wide_at w bytes)
wide_is w limit wide bytes fits =
    elim (cases_lt (length bytes) (byte_len w)) [
      | inl lt ↦ rw (lt-ltb (length bytes) (byte_len w) lt) (lt, refl)
      | inr le ↦ rw (le-ltb (length bytes) (byte_len w) le)
          (record { parts = rw (wide.back (take (byte_len w) bytes) (omega (arith, length-take (byte_len w) bytes)) (IsBytes-take (byte_len w) bytes fits)) (sym (take-append-drop (byte_len w) bytes)); fits = IsBytes-drop (byte_len w) bytes fits }, wide.below (take (byte_len w) bytes) (IsBytes-take (byte_len w) bytes fits))
    ]

wide_again : (w : Width) (limit : ℕ) (wide : IsWide w limit) (n : ℕ) (rest : List ℕ) → n < limit → wide_at w (to_le_bytes w n ++ rest) ≡ Ok (n, rest)
wide_again w limit wide n rest lt =
    let len = wide.len n in
    let long : ltb (length (to_le_bytes w n ++ rest)) (byte_len w) ≡ false = le-ltb _ _ (omega (arith, length-append (to_le_bytes w n) rest)) in
    rw (long, take_at (to_le_bytes w n) rest (byte_len w) len, drop_at (to_le_bytes w n) rest (byte_len w) len, wide.again n lt) refl

number_again : (n : ℕ) (rest : List ℕ) → n < 2 ^ 32 → number_at (u32 n ++ rest) ≡ Ok (n, rest)
number_again n rest lt = wide_again w32 (2 ^ 32) wide32 n rest lt

text_again : (t rest : List ℕ) → length t < 2 ^ 32 → text_at (with_length t ++ rest) ≡ Ok (t, rest)
unfolding text_at
text_again t rest lt =
    let long : ltb (length (t ++ rest)) (length t) ≡ false = le-ltb _ _ (omega (arith, length-append t rest)) in
    rw (number_again (length t) (t ++ rest) lt, long, take_at t rest (length t) refl, drop_at t rest (length t) refl) refl

abbrev TextIs : List ℕ → Result (List ℕ × List ℕ) Bad → Type 0
TextIs bytes (Ok x) = Takes bytes (with_length x.0) x.1 × (length x.0 < 2 ^ 32)
TextIs bytes (Err bad) = ((length bytes < 4) × (bad ≡ ended)) ⊎ ((n : ℕ) × (mid : List ℕ) × (n < 2 ^ 32) × (bytes ≡ u32 n ++ mid) × (length mid < n) × (bad ≡ ended))

text_is : (bytes : List ℕ) → IsBytes bytes → TextIs bytes (text_at bytes)
unfolding text_at
text_is bytes fits = after (number_at bytes) (wide_is w32 (2 ^ 32) wide32 bytes fits) where
  after : (found : Result (ℕ × List ℕ) Bad) → NumberIs w32 (2 ^ 32) bytes found → TextIs bytes (found then λ n. cond (ltb (length n.1) n.0) (Err ended) (Ok (take n.0 n.1, drop n.0 n.1)))
  after (Err bad) h = inl h
  after (Ok n) h =
      elim (cases_lt (length n.1) n.0) [
        | inl lt ↦ rw (lt-ltb (length n.1) n.0 lt) (inr (n.0, n.1, h.1, h.0.parts, lt, refl))
        | inr le ↦ rw (le-ltb (length n.1) n.0 le) (
            let len : length (take n.0 n.1) ≡ n.0 = omega (arith, length-take n.0 n.1) in
            (record { parts = h.0.parts ∙ subst (λ (k : ℕ). u32 n.0 ++ n.1 ≡ u32 k ++ take n.0 n.1 ++ drop n.0 n.1) (sym len) (ap (λ (r : List ℕ). u32 n.0 ++ r) (sym (take-append-drop n.0 n.1))); fits = IsBytes-drop n.0 n.1 h.0.fits }, omega (arith, h.1, len)))
      ]

raw_again : (n : ℕ) (t rest : List ℕ) → length t ≡ n → raw_at n (t ++ rest) ≡ Ok (t, rest)
raw_again n t rest len =
    let long : ltb (length (t ++ rest)) n ≡ false = le-ltb _ _ (omega (arith, len, length-append t rest)) in
    rw (long, take_at t rest n len, drop_at t rest n len) refl

abbrev RawIs : ℕ → List ℕ → Result (List ℕ × List ℕ) Bad → Type 0
RawIs n bytes (Ok x) = Takes bytes x.0 x.1 × (length x.0 ≡ n)
RawIs n bytes (Err bad) = (length bytes < n) × (bad ≡ ended)

raw_is : (n : ℕ) (bytes : List ℕ) → IsBytes bytes → RawIs n bytes (raw_at n bytes)
raw_is n bytes fits =
    elim (cases_lt (length bytes) n) [
      | inl lt ↦ rw (lt-ltb (length bytes) n lt) (lt, refl)
      | inr le ↦ rw (le-ltb (length bytes) n le)
          (record { parts = sym (take-append-drop n bytes); fits = IsBytes-drop n bytes fits }, omega (arith, length-take n bytes))
    ]

raw_short : (n : ℕ) (bytes : List ℕ) → length bytes < n → raw_at n bytes ≡ Err ended
raw_short n bytes lt = rw (lt-ltb (length bytes) n lt) refl

-- the expected bytes are matched
match_again : (e rest : List ℕ) → match_at e (e ++ rest) ≡ Ok rest
unfolding match_at
match_again [] rest = refl
match_again (c ∷ e) rest = rw (eq-eqb c c refl) (match_again e rest)

exact_again : (e rest : List ℕ) → exact_at e (e ++ rest) ≡ Ok rest
unfolding exact_at
exact_again e rest =
    let long : ltb (length (e ++ rest)) (length e) ≡ false = le-ltb _ _ (omega (arith, length-append e rest)) in
    rw long (match_again e rest)

-- where bytes differ, that is told
match_differs : (same behind others : List ℕ) (found wanted : ℕ) → found ≢ wanted → match_at (same ++ wanted ∷ others) (same ++ found ∷ behind) ≡ Err (record { left = length (found ∷ behind); code = 3 })
unfolding match_at
match_differs [] behind others found wanted h = rw (ne_eqb found wanted h) refl
match_differs (c ∷ same) behind others found wanted h = rw (eq-eqb c c refl) (match_differs same behind others found wanted h)

exact_differs : (e bytes : List ℕ) (bad : Bad) → length e ≤ length bytes → Differs bytes e bad → exact_at e bytes ≡ Err bad
unfolding exact_at
exact_differs e bytes bad le d =
    let long : ltb (length bytes) (length e) ≡ false = le-ltb _ _ le in
    rw long (ap (λ (x : List ℕ). match_at x bytes) d.expected_are ∙ ap (match_at (d.same ++ d.wanted ∷ d.others)) d.bytes_are ∙ match_differs d.same d.behind d.others d.found d.wanted d.differ ∙ ap (λ (b : Bad). Err b) (sym d.told))

abbrev MatchIs : List ℕ → List ℕ → Result (List ℕ) Bad → Type 0
MatchIs e bytes (Ok rest) = Takes bytes e rest
MatchIs e bytes (Err bad) = Differs bytes e bad

match_more : (c : ℕ) (e bytes : List ℕ) (r : Result (List ℕ) Bad) → MatchIs e bytes r → MatchIs (c ∷ e) (c ∷ bytes) r
match_more c e bytes (Ok rest) h = record { parts = ap (λ (t : List ℕ). c ∷ t) h.parts; fits = h.fits }
match_more c e bytes (Err bad) h = record {
  same = c ∷ h.same;
  found = h.found;
  behind = h.behind;
  wanted = h.wanted;
  others = h.others;
  bytes_are = ap (λ (t : List ℕ). c ∷ t) h.bytes_are;
  expected_are = ap (λ (t : List ℕ). c ∷ t) h.expected_are;
  differ = h.differ;
  told = h.told;
}

match_is : (e bytes : List ℕ) → IsBytes bytes → length e ≤ length bytes → MatchIs e bytes (match_at e bytes)
unfolding match_at
match_is [] bytes fits le = record { parts = refl; fits = fits }
match_is (c ∷ e) [] fits le = absurd (omega arith)
match_is (c ∷ e) (b ∷ bytes) fits le = tested (eqb_tells b c) (λ l. match_is e bytes (IsBytes-rest b bytes fits) l) where
  tested : ((eqb b c ≡ true) × (b ≡ c)) ⊎ ((eqb b c ≡ false) × (b ≢ c)) → (length e ≤ length bytes → MatchIs e bytes (match_at e bytes)) → MatchIs (c ∷ e) (b ∷ bytes) (cond (eqb b c) (match_at e bytes) (Err (record { left = length (b ∷ bytes); code = 3 })))
  tested (inl h) rec = rw h.0 (subst (λ (x : ℕ). MatchIs (c ∷ e) (x ∷ bytes) (match_at e bytes)) (sym h.1) (match_more c e bytes (match_at e bytes) (rec (omega arith))))
  tested (inr h) rec = rw h.0 (record { same = []; found = b; behind = bytes; wanted = c; others = e; bytes_are = refl; expected_are = refl; differ = h.1; told = refl })

abbrev ExactIs : List ℕ → List ℕ → Result (List ℕ) Bad → Type 0
ExactIs e bytes (Ok rest) = Takes bytes e rest
ExactIs e bytes (Err bad) = ((length bytes < length e) × (bad ≡ ended)) ⊎ ((length e ≤ length bytes) × Differs bytes e bad)

exact_is : (e bytes : List ℕ) → IsBytes bytes → ExactIs e bytes (exact_at e bytes)
unfolding exact_at
exact_is e bytes fits =
    elim (cases_lt (length bytes) (length e)) [
      | inl lt ↦ rw (lt-ltb (length bytes) (length e) lt) (inl (lt, refl))
      | inr le ↦ rw (le-ltb (length bytes) (length e) le) (matched (match_at e bytes) le (match_is e bytes fits le))
    ]
  where
    matched : (r : Result (List ℕ) Bad) → length e ≤ length bytes → MatchIs e bytes r → ExactIs e bytes r
    matched (Ok rest) le h = h
    matched (Err bad) le h = inr (le, h)

-- what is behind the expected bytes
pub behind : (e bytes rest : List ℕ) → IsBytes bytes → exact_at e bytes ≡ Ok rest → drop (length e) bytes ≡ rest
behind e bytes rest fits is = let t = subst (ExactIs e bytes) is (exact_is e bytes fits) in ap (drop (length e)) t.parts ∙ drop_at e rest (length e) refl

exact_short : (e bytes : List ℕ) → length bytes < length e → exact_at e bytes ≡ Err ended
unfolding exact_at
exact_short e bytes lt = rw (lt-ltb (length bytes) (length e) lt) refl

-- what is spelled so is read
pub reads : {A : Type 0} (f : Format A) (bytes : List ℕ) (x : A) (rest : List ℕ) → Spells f bytes x rest → read f bytes ≡ Ok (x, rest)
unfolding read
reads {A = A} (done x) bytes y rest s = ap (λ (p : A). Ok (p, bytes)) s.0 ∙ ap (λ (b : List ℕ). Ok (y, b)) s.1
reads {A = A} (exact e next) bytes y rest s =
    ap (λ (b : List ℕ). exact_at e b then λ r. read next r) s.1
    ∙ ap (λ (r : Result (List ℕ) Bad). r then λ t. read next t) (exact_again e s.0)
    ∙ reads next s.0 y rest s.2
reads (number ok next) bytes y rest s =
    ap (λ (b : List ℕ). number_at b then λ n. (valid_at (ok n.0) b then λ u. read (next n.0) n.1)) s.3
    ∙ ap (λ (r : Result (ℕ × List ℕ) Bad). r then λ n. (valid_at (ok n.0) (u32 s.0 ++ s.1) then λ u. read (next n.0) n.1)) (number_again s.0 s.1 s.2)
    ∙ ap (λ (b : Bool). valid_at b (u32 s.0 ++ s.1) then λ u. read (next s.0) s.1) s.4
    ∙ reads (next s.0) s.1 y rest s.5
reads (text ok next) bytes y rest s =
    ap (λ (b : List ℕ). text_at b then λ n. (valid_at (ok n.0) b then λ u. read (next n.0) n.1)) s.3
    ∙ ap (λ (r : Result (List ℕ × List ℕ) Bad). r then λ n. (valid_at (ok n.0) (with_length s.0 ++ s.1) then λ u. read (next n.0) n.1)) (text_again s.0 s.1 s.2)
    ∙ ap (λ (b : Bool). valid_at b (with_length s.0 ++ s.1) then λ u. read (next s.0) s.1) s.4
    ∙ reads (next s.0) s.1 y rest s.5
reads (raw n next) bytes y rest s =
    ap (λ (b : List ℕ). raw_at n b then λ t. read (next t.0) t.1) s.3
    ∙ ap (λ (r : Result (List ℕ × List ℕ) Bad). r then λ t. read (next t.0) t.1) (raw_again n s.0 s.1 s.2)
    ∙ reads (next s.0) s.1 y rest s.4

-- what is read: spelled so, or the first broken field
abbrev pub Means : {A : Type 0} → Format A → List ℕ → Result (A × List ℕ) Bad → Type 0
Means f bytes (Ok x) = Spells f bytes x.0 x.1
Means f bytes (Err bad) = IsBroken f bytes bad

pub meaning : {A : Type 0} (f : Format A) (bytes : List ℕ) → IsBytes bytes → Means f bytes (read f bytes)
unfolding read
meaning (done x) bytes fits = (refl, refl)
meaning {A = A} (exact e next) bytes fits = after (exact_at e bytes) (exact_is e bytes fits) (λ rest. meaning next rest) where
  tested : (rest : List ℕ) (r : Result (A × List ℕ) Bad) → bytes ≡ e ++ rest → Means next rest r → Means (exact e next) bytes r
  tested rest (Ok x) is m = (rest, is, m)
  tested rest (Err bad) is m = inr (inr (rest, is, m))

  after : (found : Result (List ℕ) Bad) → ExactIs e bytes found → ((rest : List ℕ) → IsBytes rest → Means next rest (read next rest)) → Means (exact e next) bytes (found then λ rest. read next rest)
  after (Err bad) (inl h) rec = inl h
  after (Err bad) (inr h) rec = inr (inl h)
  after (Ok rest) h rec = tested rest (read next rest) h.parts (rec rest h.fits)
meaning {A = A} (number ok next) bytes fits = after (number_at bytes) (wide_is w32 (2 ^ 32) wide32 bytes fits) (λ n. meaning (next n)) where
  tested : (n : ℕ) (rest : List ℕ) (b : Bool) (r : Result (A × List ℕ) Bad) → ok n ≡ b → n < 2 ^ 32 → bytes ≡ u32 n ++ rest → Means (next n) rest r → Means (number ok next) bytes (valid_at b bytes then λ u. r)
  tested n rest false r e lt parts m = inr (inl (n, rest, lt, parts, e, refl))
  tested n rest true (Ok x) e lt parts m = (n, rest, lt, parts, e, m)
  tested n rest true (Err bad) e lt parts m = inr (inr (n, rest, lt, parts, e, m))

  after : (found : Result (ℕ × List ℕ) Bad) → NumberIs w32 (2 ^ 32) bytes found → ((n : ℕ) (rest : List ℕ) → IsBytes rest → Means (next n) rest (read (next n) rest)) → Means (number ok next) bytes (found then λ n. (valid_at (ok n.0) bytes then λ u. read (next n.0) n.1))
  after (Err bad) h rec = inl h
  after (Ok n) h rec = tested n.0 n.1 (ok n.0) (read (next n.0) n.1) refl h.1 h.0.parts (rec n.0 n.1 h.0.fits)
meaning {A = A} (text ok next) bytes fits = after (text_at bytes) (text_is bytes fits) (λ n. meaning (next n)) where
  tested : (n : List ℕ) (rest : List ℕ) (b : Bool) (r : Result (A × List ℕ) Bad) → ok n ≡ b → length n < 2 ^ 32 → bytes ≡ with_length n ++ rest → Means (next n) rest r → Means (text ok next) bytes (valid_at b bytes then λ u. r)
  tested n rest false r e lt parts m = inr (inr (inl (n, rest, lt, parts, e, refl)))
  tested n rest true (Ok x) e lt parts m = (n, rest, lt, parts, e, m)
  tested n rest true (Err bad) e lt parts m = inr (inr (inr (n, rest, lt, parts, e, m)))

  after : (found : Result (List ℕ × List ℕ) Bad) → TextIs bytes found → ((n : List ℕ) (rest : List ℕ) → IsBytes rest → Means (next n) rest (read (next n) rest)) → Means (text ok next) bytes (found then λ n. (valid_at (ok n.0) bytes then λ u. read (next n.0) n.1))
  after (Err bad) (inl h) rec = inl h
  after (Err bad) (inr h) rec = inr (inl h)
  after (Ok n) h rec = tested n.0 n.1 (ok n.0) (read (next n.0) n.1) refl h.1 h.0.parts (rec n.0 n.1 h.0.fits)
meaning {A = A} (raw n next) bytes fits = after (raw_at n bytes) (raw_is n bytes fits) (λ t. meaning (next t)) where
  tested : (t : List ℕ) (rest : List ℕ) (r : Result (A × List ℕ) Bad) → length t ≡ n → bytes ≡ t ++ rest → Means (next t) rest r → Means (raw n next) bytes r
  tested t rest (Ok x) len parts m = (t, rest, len, parts, m)
  tested t rest (Err bad) len parts m = inr (t, rest, len, parts, m)

  after : (found : Result (List ℕ × List ℕ) Bad) → RawIs n bytes found → ((t : List ℕ) (rest : List ℕ) → IsBytes rest → Means (next t) rest (read (next t) rest)) → Means (raw n next) bytes (found then λ t. read (next t.0) t.1)
  after (Err bad) h rec = inl h
  after (Ok t) h rec = tested t.0 t.1 (read (next t.0) t.1) h.1 h.0.parts (rec t.0 t.1 h.0.fits)

-- the first broken field is what reading answers
pub breaks : {A : Type 0} (f : Format A) (bytes : List ℕ) (bad : Bad) → IsBroken f bytes bad → read f bytes ≡ Err bad
unfolding read text_at
breaks (done x) bytes bad broken = absurd broken
breaks {A = A} (exact e next) bytes bad (inl h) =
    ap (λ (r : Result (List ℕ) Bad). r then λ t. read next t) (exact_short e bytes h.0) ∙ ap (λ (b : Bad). Err b) (sym h.1)
breaks {A = A} (exact e next) bytes bad (inr (inl h)) =
    ap (λ (r : Result (List ℕ) Bad). r then λ t. read next t) (exact_differs e bytes bad h.0 h.1)
breaks {A = A} (exact e next) bytes bad (inr (inr h)) =
    ap (λ (b : List ℕ). exact_at e b then λ r. read next r) h.1
    ∙ ap (λ (r : Result (List ℕ) Bad). r then λ t. read next t) (exact_again e h.0)
    ∙ breaks next h.0 bad h.2
breaks {A = A} (number ok next) bytes bad (inl h) = rw (lt-ltb (length bytes) 4 h.0) (ap (λ (b : Bad). Err b) (sym h.1))
breaks {A = A} (number ok next) bytes bad (inr (inl h)) =
    ap (λ (b : List ℕ). number_at b then λ n. (valid_at (ok n.0) bytes then λ u. read (next n.0) n.1)) h.3
    ∙ ap (λ (r : Result (ℕ × List ℕ) Bad). r then λ n. (valid_at (ok n.0) bytes then λ u. read (next n.0) n.1)) (number_again h.0 h.1 h.2)
    ∙ ap (λ (b : Bool). valid_at b bytes then λ u. read (next h.0) h.1) h.4
    ∙ ap (λ (b : Bad). Err b) (sym h.5)
breaks {A = A} (number ok next) bytes bad (inr (inr h)) =
    ap (λ (b : List ℕ). number_at b then λ n. (valid_at (ok n.0) bytes then λ u. read (next n.0) n.1)) h.3
    ∙ ap (λ (r : Result (ℕ × List ℕ) Bad). r then λ n. (valid_at (ok n.0) bytes then λ u. read (next n.0) n.1)) (number_again h.0 h.1 h.2)
    ∙ ap (λ (b : Bool). valid_at b bytes then λ u. read (next h.0) h.1) h.4
    ∙ breaks (next h.0) h.1 bad h.5
breaks {A = A} (text ok next) bytes bad (inl h) = rw (lt-ltb (length bytes) 4 h.0) (ap (λ (b : Bad). Err b) (sym h.1))
breaks {A = A} (text ok next) bytes bad (inr (inl h)) =
    let long : ℕ × List ℕ → Result (List ℕ × List ℕ) Bad = λ m. cond (ltb (length m.1) m.0) (Err ended) (Ok (take m.0 m.1, drop m.0 m.1)) in
    ap (λ (b : List ℕ). text_at b then λ n. (valid_at (ok n.0) bytes then λ u. read (next n.0) n.1)) h.3
    ∙ ap (λ (r : Result (ℕ × List ℕ) Bad). (r then long) then λ n. (valid_at (ok n.0) bytes then λ u. read (next n.0) n.1)) (number_again h.0 h.1 h.2)
    ∙ rw (lt-ltb (length h.1) h.0 h.4) (ap (λ (b : Bad). Err b) (sym h.5))
breaks {A = A} (text ok next) bytes bad (inr (inr (inl h))) =
    ap (λ (b : List ℕ). text_at b then λ n. (valid_at (ok n.0) bytes then λ u. read (next n.0) n.1)) h.3
    ∙ ap (λ (r : Result (List ℕ × List ℕ) Bad). r then λ n. (valid_at (ok n.0) bytes then λ u. read (next n.0) n.1)) (text_again h.0 h.1 h.2)
    ∙ ap (λ (b : Bool). valid_at b bytes then λ u. read (next h.0) h.1) h.4
    ∙ ap (λ (b : Bad). Err b) (sym h.5)
breaks {A = A} (text ok next) bytes bad (inr (inr (inr h))) =
    ap (λ (b : List ℕ). text_at b then λ n. (valid_at (ok n.0) bytes then λ u. read (next n.0) n.1)) h.3
    ∙ ap (λ (r : Result (List ℕ × List ℕ) Bad). r then λ n. (valid_at (ok n.0) bytes then λ u. read (next n.0) n.1)) (text_again h.0 h.1 h.2)
    ∙ ap (λ (b : Bool). valid_at b bytes then λ u. read (next h.0) h.1) h.4
    ∙ breaks (next h.0) h.1 bad h.5
breaks {A = A} (raw n next) bytes bad (inl h) =
    ap (λ (r : Result (List ℕ × List ℕ) Bad). r then λ t. read (next t.0) t.1) (raw_short n bytes h.0) ∙ ap (λ (b : Bad). Err b) (sym h.1)
breaks {A = A} (raw n next) bytes bad (inr h) =
    ap (λ (b : List ℕ). raw_at n b then λ t. read (next t.0) t.1) h.3
    ∙ ap (λ (r : Result (List ℕ × List ℕ) Bad). r then λ t. read (next t.0) t.1) (raw_again n h.0 h.1 h.2)
    ∙ breaks (next h.0) h.1 bad h.4

-- ---- all of the bytes

-- the fields of all of the bytes
abbrev pub read_all : {A : Type 0} → Format A → List ℕ → Result A Bad
read_all f bytes = read f bytes then λ x. (ends_at x.1 then λ _. Ok x.0)

-- what all of the bytes are: a value's fields, or bad
abbrev pub MeansAll : {A : Type 0} → Format A → List ℕ → Result A Bad → Type 0
MeansAll f bytes (Ok x) = Spells f bytes x []
MeansAll f bytes (Err bad) = IsBad f bytes bad

pub means_all : {A : Type 0} (f : Format A) (bytes : List ℕ) → IsBytes bytes → MeansAll f bytes (read_all f bytes)
means_all {A = A} f bytes fits = after (read f bytes) (meaning f bytes fits) where
  ended_at : (x : A) (more : List ℕ) → Spells f bytes x more → MeansAll f bytes (ends_at more then λ u. Ok x)
  ended_at x [] s = s
  ended_at x (b ∷ more) s = inr (x, b ∷ more, s, omega arith, refl)

  after : (found : Result (A × List ℕ) Bad) → Means f bytes found → MeansAll f bytes (found then λ x. (ends_at x.1 then λ u. Ok x.0))
  after (Ok x) m = ended_at x.0 x.1 m
  after (Err bad) m = inl m

-- what all of the bytes spell is read
pub all_read : {A : Type 0} (f : Format A) (bytes : List ℕ) (x : A) → Spells f bytes x [] → read_all f bytes ≡ Ok x
all_read {A = A} f bytes x s = ap (λ (r : Result (A × List ℕ) Bad). r then λ y. (ends_at y.1 then λ u. Ok y.0)) (reads f bytes x [] s)

-- what is bad is told so
pub all_bad : {A : Type 0} (f : Format A) (bytes : List ℕ) (bad : Bad) → IsBad f bytes bad → read_all f bytes ≡ Err bad
all_bad {A = A} f bytes bad (inl b) = ap (λ (r : Result (A × List ℕ) Bad). r then λ y. (ends_at y.1 then λ u. Ok y.0)) (breaks f bytes bad b)
all_bad {A = A} f bytes bad (inr h) =
    ap (λ (r : Result (A × List ℕ) Bad). r then λ y. (ends_at y.1 then λ u. Ok y.0)) (reads f bytes h.0 h.1 h.2) ∙ left_over h.0 h.1 h.3 ∙ ap (λ (b : Bad). Err b) (sym h.4)
  where
    left_over : (x : A) (rest : List ℕ) → 0 < length rest → (ends_at rest then λ u. Ok x) ≡ Err (record { left = length rest; code = 2 })
    left_over x [] lt = absurd (omega arith)
    left_over x (b ∷ more) lt = refl
