-- The longest numeral.
use Rattle.std.proofs.Common.{◌≡◌, ℕ, suc, zero, ◌+◌, ◌-◌, ◌<◌, ◌≤◌, Bool, true, false, cond, ◌&&◌, List, [], ◌∷◌, length, take, drop, get_or, refl, sym, ◌∙◌, ap, subst, arith}
use Rattle.std.specs.Prelude.{◌||◌, ◌==◌, nat_le, codes}
use Rattle.std.specs.List.{list_all, prefix_len}
use Rattle.std.proofs.lemmas.Bool.{and_parts, leb-true, leb-false, le-leb, eqb-true, eq-eqb}
use Rattle.std.proofs.lemmas.List.{get_or-drop}
use Rattle.std.proofs.lemmas.List.Sums.{prefix_len-le-length}
use Rattle.m2_base.specs.Letters.{is_digit, is_octal_digit, is_hexadecimal_digit, is_letter, is_blank}
use Rattle.m2_base.specs.Lexemes.{IsLongest, is_lexeme, is_numeral}
use Rattle.m2_base.specs.Runs.{is_run_and}
use Rattle.m2_lex.specs.Ahead.{ShowsH, IsPlain}
use Rattle.m2_lex.specs.Numerals.{plain_length, behind_octal}
use Rattle.m2_lex.proofs.LongestFrom.{false_from, longest_from, and_false, or_first, or_second, all_within, all_spells, run_and_one, one_spells, within_by}

-- a digit is no blank and no letter

digit_bounds : (b : ℕ) → is_digit b ≡ true → (48 ≤ b) × (b ≤ 57)
digit_bounds b e = let parts = and_parts (nat_le 48 b) (nat_le b 57) e in (leb-true 48 b parts.0, leb-true b 57 parts.1)

le_false : (a b : ℕ) → b < a → nat_le a b ≡ false
le_false a b less = false_from (nat_le a b) (λ e. let h : a ≤ b = leb-true a b e in omega arith)

eq_false : (a b : ℕ) → (a ≡ b → ⊥) → (a == b) ≡ false
eq_false a b differ = false_from (a == b) (λ e. differ (eqb-true a b e))

digit_no_blank : (b : ℕ) → is_digit b ≡ true → is_blank b ≡ false
digit_no_blank b e =
    let h = digit_bounds b e in
    let high : nat_le b 13 ≡ false = le_false b 13 (omega (arith, h.0)) in
    let other : (b == 32) ≡ false = eq_false b 32 (λ (s : b ≡ 32). omega (arith, h.0, s)) in
    ap (λ (t : Bool). (nat_le 9 b && t) || b == 32) high ∙ ap (λ (t : Bool). t || b == 32) (and_false (nat_le 9 b)) ∙ other

digit_no_letter : (b : ℕ) → is_digit b ≡ true → is_letter b ≡ false
digit_no_letter b e =
    let h = digit_bounds b e in
    let capital : nat_le 65 b ≡ false = le_false 65 b (omega (arith, h.1)) in
    let small : nat_le 97 b ≡ false = le_false 97 b (omega (arith, h.1)) in
    let other : (b == 95) ≡ false = eq_false b 95 (λ (s : b ≡ 95). omega (arith, h.1, s)) in
    ap (λ (t : Bool). (t && nat_le b 90 || nat_le 97 b && nat_le b 122) || b == 95) capital
    ∙ ap (λ (t : Bool). (t && nat_le b 122) || b == 95) small ∙ other

at_digit : (blank letter digit w x y z : Bool) → blank ≡ false → letter ≡ false → digit ≡ true → cond blank w (cond letter x (cond digit y z)) ≡ y
at_digit true letter digit w x y z e l d = cc
at_digit false true digit w x y z e l d = cc
at_digit false false true w x y z e l d = refl
at_digit false false false w x y z e l d = cc

spelled_by : (text : List ℕ) → is_digit (get_or text 0 0) ≡ true → (m : ℕ) → 0 < m → is_lexeme (take m text) ≡ is_numeral (take m text)
spelled_by [] digit m some = absurd cc
spelled_by (b ∷ bs) digit zero some = absurd (omega arith)
spelled_by (b ∷ bs) digit (suc k) some =
    at_digit (is_blank b) (is_letter b) (is_digit b) _ _ (is_numeral (b ∷ take k bs)) _ (digit_no_blank b digit) (digit_no_letter b digit) digit

-- the runs of digits of the three kinds

prefix_len-le : (p q : ℕ → Bool) → ((x : ℕ) → p x ≡ true → q x ≡ true) → (xs : List ℕ) → prefix_len p xs ≤ prefix_len q xs
prefix_len-le p q more [] = omega arith
prefix_len-le p q more (x ∷ xs) = elim (p x) as (λ b. p x ≡ b → cond b (1 + prefix_len p xs) 0 ≤ cond (q x) (1 + prefix_len q xs) 0) [
  | true ↦ λ e. subst (λ (t : Bool). 1 + prefix_len p xs ≤ cond t (1 + prefix_len q xs) 0) (sym (more x e)) (omega (arith, prefix_len-le p q more xs))
  | false ↦ λ e. omega arith
] refl

octal_is_digit : (x : ℕ) → is_octal_digit x ≡ true → is_digit x ≡ true
octal_is_digit x e =
    let parts = and_parts (nat_le 48 x) (nat_le x 55) e in
    let high : x ≤ 55 = leb-true x 55 parts.1 in
    ap (λ (t : Bool). t && nat_le x 57) parts.0 ∙ le-leb x 57 (omega arith)

digit_is_hexadecimal : (x : ℕ) → is_digit x ≡ true → is_hexadecimal_digit x ≡ true
digit_is_hexadecimal x e = or_first (is_digit x) (nat_le 65 x && nat_le x 70) e

-- a byte that is none of the class ends the run
prefix_len_stops : (q : ℕ → Bool) (xs : List ℕ) (n : ℕ) → q (get_or xs n 0) ≡ false → n < length xs → prefix_len q xs ≤ n
prefix_len_stops q [] n e within = omega arith
prefix_len_stops q (x ∷ xs) zero e within = let none : prefix_len q (x ∷ xs) ≡ 0 = ap (λ (t : Bool). cond t (1 + prefix_len q xs) 0) e in omega arith
prefix_len_stops q (x ∷ xs) (suc n) e within = elim (q x) as (λ b. cond b (1 + prefix_len q xs) 0 ≤ suc n) [
  | true ↦ omega (arith, prefix_len_stops q xs n e (omega arith))
  | false ↦ omega arith
]

none_of : (a b c d : Bool) → a ≡ false → b ≡ false → c ≡ false → d ≡ false → (a || b || c || d) ≡ false
none_of a b c d ea eb ec ed = ap (λ (x : Bool). x || b || c || d) ea ∙ ap (λ (x : Bool). x || c || d) eb ∙ ap (λ (x : Bool). x || d) ec ∙ ed

-- a front is no numeral if it is none of the four kinds
no_numeral : (text : List ℕ) (m : ℕ) → m ≤ length text → prefix_len is_digit text < m
    → (m ≡ prefix_len is_octal_digit text + 1 → behind_octal text ≡ 66 → ⊥) → (m ≡ prefix_len is_octal_digit text + 1 → behind_octal text ≡ 67 → ⊥)
    → (m ≡ prefix_len is_hexadecimal_digit text + 1 → ShowsH text → ⊥) → is_numeral (take m text) ≡ false
no_numeral text m room more no_number no_character no_hexadecimal =
    none_of (list_all is_digit (take m text)) (is_run_and is_octal_digit (codes "B") (take m text)) (is_run_and is_octal_digit (codes "C") (take m text)) (is_run_and is_hexadecimal_digit (codes "H") (take m text))
    (false_from (list_all is_digit (take m text)) (λ e. let h : m ≤ prefix_len is_digit text = all_within is_digit text m room e in omega arith))
    (false_from (is_run_and is_octal_digit (codes "B") (take m text)) (λ e. let h = run_and_one is_octal_digit text 66 m room e in no_number h.0 h.1))
    (false_from (is_run_and is_octal_digit (codes "C") (take m text)) (λ e. let h = run_and_one is_octal_digit text 67 m room e in no_character h.0 h.1))
    (false_from (is_run_and is_hexadecimal_digit (codes "H") (take m text)) (λ e. let h = run_and_one is_hexadecimal_digit text 72 m room e in no_hexadecimal h.0 h.1))

pub hexadecimal_within : (text : List ℕ) → ShowsH text → prefix_len is_hexadecimal_digit text < length text
hexadecimal_within text shows = within_by text (prefix_len is_hexadecimal_digit text) 72 shows (omega arith)

pub longest_hexadecimal : (text : List ℕ) (n : ℕ) → is_digit (get_or text 0 0) ≡ true → n ≡ prefix_len is_hexadecimal_digit text + 1 → ShowsH text → IsLongest (take n text) (drop n text)
longest_hexadecimal text n digit count shows =
    let h = prefix_len is_hexadecimal_digit text in
    let within : h < length text = hexadecimal_within text shows in
    let decimal : prefix_len is_digit text ≤ h = prefix_len-le is_digit is_hexadecimal_digit digit_is_hexadecimal text in
    let octal : prefix_len is_octal_digit text ≤ prefix_len is_digit text = prefix_len-le is_octal_digit is_digit octal_is_digit text in
    subst (λ (k : ℕ). IsLongest (take k text) (drop k text)) (sym count)
    (longest_from text (h + 1) (omega arith)
    (spelled_by text digit (h + 1) (omega arith) ∙ or_second _ _ (one_spells is_hexadecimal_digit text 72 within shows))
    (λ m more room. spelled_by text digit m (omega arith)
    ∙ no_numeral text m room (omega (arith, more, decimal)) (λ e s. omega (arith, more, decimal, octal, e)) (λ e s. omega (arith, more, decimal, octal, e)) (λ e s. omega (arith, more, e))))

longest_octal : (text : List ℕ) (s : ℕ) → is_digit (get_or text 0 0) ≡ true → (ShowsH text → ⊥) → behind_octal text ≡ s → 0 < s → is_digit s ≡ false
    → ((xs : List ℕ) → is_run_and is_octal_digit (s ∷ []) xs ≡ true → is_numeral xs ≡ true)
    → IsLongest (take (prefix_len is_octal_digit text + 1) text) (drop (prefix_len is_octal_digit text + 1) text)
longest_octal text s digit no_h is some no_digit spells =
    let o = prefix_len is_octal_digit text in
    let within : o < length text = within_by text o s is some in
    let decimal : prefix_len is_digit text ≤ o = prefix_len_stops is_digit text o (ap is_digit is ∙ no_digit) within in
    longest_from text (o + 1) (omega arith)
    (spelled_by text digit (o + 1) (omega arith) ∙ spells (take (o + 1) text) (one_spells is_octal_digit text s within is))
    (λ m more room. spelled_by text digit m (omega arith)
    ∙ no_numeral text m room (omega (arith, more, decimal)) (λ e t. omega (arith, more, e)) (λ e t. omega (arith, more, e)) (λ e t. no_h t))

some_digits : (text : List ℕ) → is_digit (get_or text 0 0) ≡ true → 0 < prefix_len is_digit text
some_digits [] digit = absurd cc
some_digits (b ∷ bs) digit = let more : prefix_len is_digit (b ∷ bs) ≡ 1 + prefix_len is_digit bs = ap (λ (t : Bool). cond t (1 + prefix_len is_digit bs) 0) digit in omega arith

longest_decimal : (text : List ℕ) → is_digit (get_or text 0 0) ≡ true → (ShowsH text → ⊥) → (behind_octal text ≡ 66 → ⊥) → (behind_octal text ≡ 67 → ⊥)
    → IsLongest (take (prefix_len is_digit text) text) (drop (prefix_len is_digit text) text)
longest_decimal text digit no_h no_b no_c =
    let d = prefix_len is_digit text in
    longest_from text d (prefix_len-le-length is_digit text)
    (spelled_by text digit d (some_digits text digit) ∙ or_first _ _ (or_first _ _ (or_first _ _ (all_spells is_digit text))))
    (λ m more room. spelled_by text digit m (omega arith) ∙ no_numeral text m room more (λ e t. no_b t) (λ e t. no_c t) (λ e t. no_h t))

number_spells : (xs : List ℕ) → is_run_and is_octal_digit (66 ∷ []) xs ≡ true → is_numeral xs ≡ true
number_spells xs e = or_first _ _ (or_first _ _ (or_second (list_all is_digit xs) (is_run_and is_octal_digit (66 ∷ []) xs) e))

character_spells : (xs : List ℕ) → is_run_and is_octal_digit (67 ∷ []) xs ≡ true → is_numeral xs ≡ true
character_spells xs e = or_first _ _ (or_second (list_all is_digit xs || is_run_and is_octal_digit (66 ∷ []) xs) (is_run_and is_octal_digit (67 ∷ []) xs) e)

not_eq : (a b : ℕ) → (a == b) ≡ false → a ≡ b → ⊥
not_eq a b e same = let t : (a == b) ≡ true = eq-eqb a b same in cc

-- the fact of a length that goes by the byte behind the octal digits
by_octal : (P : ℕ → Type 0) (text : List ℕ) → (behind_octal text ≡ 66 → P (prefix_len is_octal_digit text + 1)) → (behind_octal text ≡ 67 → P (prefix_len is_octal_digit text + 1))
    → ((behind_octal text ≡ 66 → ⊥) → (behind_octal text ≡ 67 → ⊥) → P (prefix_len is_digit text)) → P (plain_length text)
by_octal P text number character decimal =
    let o = behind_octal text in
    elim (o == 66) as (λ s. (o == 66) ≡ s → P (cond (s || (o == 67)) (prefix_len is_octal_digit text + 1) (prefix_len is_digit text))) [
      | true ↦ λ e. number (eqb-true o 66 e)
      | false ↦ λ e. elim (o == 67) as (λ t. (o == 67) ≡ t → P (cond t (prefix_len is_octal_digit text + 1) (prefix_len is_digit text))) [
        | true ↦ λ f. character (eqb-true o 67 f)
        | false ↦ λ f. decimal (not_eq o 66 e) (not_eq o 67 f)
      ] refl
    ] refl

pub longest_plain : (text : List ℕ) → is_digit (get_or text 0 0) ≡ true → (ShowsH text → ⊥) → IsLongest (take (plain_length text) text) (drop (plain_length text) text)
longest_plain text digit no_h =
    by_octal (λ n. IsLongest (take n text) (drop n text)) text
    (λ e. longest_octal text 66 digit no_h e (omega arith) refl number_spells)
    (λ e. longest_octal text 67 digit no_h e (omega arith) refl character_spells)
    (longest_decimal text digit no_h)

pub plain-some : (text : List ℕ) → is_digit (get_or text 0 0) ≡ true → 1 ≤ plain_length text
plain-some text digit = by_octal (λ n. 1 ≤ n) text (λ e. omega arith) (λ e. omega arith) (λ e f. some_digits text digit)

pub plain-within : (text : List ℕ) → plain_length text ≤ length text
plain-within text =
    let o = prefix_len is_octal_digit text in
    by_octal (λ n. n ≤ length text) text
    (λ e. let within : o < length text = within_by text o 66 e (omega arith) in omega arith)
    (λ e. let within : o < length text = within_by text o 67 e (omega arith) in omega arith)
    (λ e f. prefix_len-le-length is_digit text)

-- what is known ahead holds on behind a lexeme

prefix_len-drop : (p : ℕ → Bool) (k : ℕ) (xs : List ℕ) → k ≤ prefix_len p xs → prefix_len p (drop k xs) + k ≡ prefix_len p xs
prefix_len-drop p zero xs h = omega arith
prefix_len-drop p (suc k) [] h = absurd (omega arith)
prefix_len-drop p (suc k) (x ∷ xs) h = elim (p x) as (λ b. suc k ≤ cond b (1 + prefix_len p xs) 0 → prefix_len p (drop k xs) + suc k ≡ cond b (1 + prefix_len p xs) 0) [
  | true ↦ λ within. omega (arith, prefix_len-drop p k xs (omega arith))
  | false ↦ λ within. absurd (omega arith)
] h

pub nothing_ahead : (n : ℕ) (text : List ℕ) → n ≡ 0 → IsPlain n text
nothing_ahead n text none = record { within = omega arith; without = λ some shows. omega arith }

further_ahead : (n k : ℕ) (text : List ℕ) → IsPlain n text → k < n → IsPlain (n - k) (drop k text)
further_ahead n k text plain less =
    let h = prefix_len is_hexadecimal_digit text in
    let i = prefix_len is_hexadecimal_digit (drop k text) in
    let left : i + k ≡ h = prefix_len-drop is_hexadecimal_digit k text (omega (arith, plain.within)) in
    let place : k + i ≡ h = omega arith in
    record {
      within = omega (arith, plain.within);
      without = λ some shows. plain.without (omega arith) (ap (λ (n : ℕ). get_or text n 0) (sym place) ∙ sym (get_or-drop k text i 0) ∙ shows);
    }

pub plain_on : (n k : ℕ) (text : List ℕ) → IsPlain n text → IsPlain (n - k) (drop k text)
plain_on n k text plain = elim (nat_le n k) as (λ b. nat_le n k ≡ b → IsPlain (n - k) (drop k text)) [
  | true ↦ λ e. let h : n ≤ k = leb-true n k e in nothing_ahead (n - k) (drop k text) (omega arith)
  | false ↦ λ e. further_ahead n k text plain (leb-false n k e)
] refl
