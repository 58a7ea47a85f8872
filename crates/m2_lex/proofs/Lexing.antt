-- What the loop over the lexemes keeps.
use Rattle.std.proofs.Common.{◌≡◌, ℕ, suc, ◌+◌, ◌<◌, ◌≤◌, Bool, true, false, cond, List, [], ◌∷◌, ◌++◌, length, refl, sym, ◌∙◌, ap, subst, append_assoc, length-append, arith}
use Rattle.std.proofs.lemmas.List.{append-nil}
use Rattle.std.proofs.Math.Seq.{append_snoc}
use Rattle.std.specs.Prelude.{◌==◌}
use Rattle.std.specs.List.{AllZip}
use Rattle.m2_base.specs.Lexemes.{AreLexemes, IsLongest}
use Rattle.m2_base.specs.Meanings.{Meaning, blank, name, number, character, string, fixed, bad, meaning_of, is_blank_lexeme}
use Rattle.m2_base.specs.Names.{with_names}
use Rattle.m2_base.specs.Positions.{Position, first_position, after_byte, after_bytes}
use Rattle.m2_base.specs.Tokens.{Placed, placed_from, placed, names_of, names_in, IsToken, Means, AreTokens}
use Rattle.m2_base.specs.declared.token.Token.{Token}
use Rattle.m2_lex.specs.Adding.{placed_one, AddsToken}
use Rattle.m2_lex.specs.Faults.{Extends, HasTooMany}
use Rattle.m2_base.proofs.Numbers.{number_in-append, with_names-grows, with_names-append, length-with_names}
use Rattle.m2_base.proofs.OneReading.{one_list_of_lexemes}

-- the state of the loop: what is done of the text, and what holds of the rest
pub record IsLexing (old : List (List ℕ)) (text : List ℕ) (names : List (List ℕ)) (tokens : List Token) (position : Position) (rest : List ℕ) : Type 0 where
  pub lexemes : List (List ℕ)
  pub done : List Placed
  pub split : (later : List (List ℕ)) → AreLexemes rest later → AreLexemes text (lexemes ++ later)
  pub numbered : (later : List (List ℕ)) → placed (lexemes ++ later) ≡ done ++ placed_from position (length tokens) later
  pub each : AllZip (IsToken names) done tokens
  pub named : names ≡ with_names old (names_in lexemes)
  pub extends : Extends old names
  pub room : length tokens + length rest ≤ length text
  pub line : position.line + length rest ≤ 1 + length text
  pub column : position.column + length rest ≤ 1 + length text
  pub count : length names + length rest ≤ length old + length text

-- one lexeme more

placed_by : (b : Bool) (p q : Position) (at : ℕ) (lexeme : List ℕ) (later : List (List ℕ))
    → cond b (placed_from q at later) (record { lexeme = lexeme; at = at; position = p } ∷ placed_from q (at + 1) later)
    ≡ cond b [] (record { lexeme = lexeme; at = at; position = p } ∷ []) ++ placed_from q (at + length (cond {A = List Placed} b [] (record { lexeme = lexeme; at = at; position = p } ∷ []))) later
placed_by true p q at lexeme later = ap (λ (n : ℕ). placed_from q n later) (omega arith)
placed_by false p q at lexeme later = refl

placed_from-cons : (p : Position) (at : ℕ) (lexeme : List ℕ) (later : List (List ℕ))
    → placed_from p at (lexeme ∷ later) ≡ placed_one p at lexeme ++ placed_from (after_bytes p lexeme) (at + length (placed_one p at lexeme)) later
placed_from-cons p at lexeme later = placed_by (is_blank_lexeme lexeme) p (after_bytes p lexeme) at lexeme later

length-placed_by : (b : Bool) (x : Placed) → length (cond {A = List Placed} b [] (x ∷ [])) ≤ 1
length-placed_by true x = omega arith
length-placed_by false x = omega arith

length-placed_one : (p : Position) (at : ℕ) (lexeme : List ℕ) → length (placed_one p at lexeme) ≤ 1
length-placed_one p at lexeme = length-placed_by (is_blank_lexeme lexeme) (record { lexeme = lexeme; at = at; position = p })

same_length : {A B : Type 0} (R : A → B → Type 0) (xs : List A) (ys : List B) → AllZip R xs ys → length xs ≡ length ys
same_length R [] [] h = refl
same_length R [] (y ∷ ys) h = absurd h
same_length R (x ∷ xs) [] h = absurd h
same_length R (x ∷ xs) (y ∷ ys) h = ap suc (same_length R xs ys h.1)

join : {A B : Type 0} (R : A → B → Type 0) (xs : List A) (ys : List B) (us : List A) (vs : List B) → AllZip R xs ys → AllZip R us vs → AllZip R (xs ++ us) (ys ++ vs)
join R [] [] us vs h k = k
join R [] (y ∷ ys) us vs h k = absurd h
join R (x ∷ xs) [] us vs h k = absurd h
join R (x ∷ xs) (y ∷ ys) us vs h k = (h.0, join R xs ys us vs h.1 k)

-- a lexeme adds one token at most
pub adds_one : (names : List (List ℕ)) (p : Position) (lexeme : List ℕ) (old new : List Token) → AddsToken names p lexeme old new → length new ≤ length old + 1
adds_one names p lexeme old new a =
    omega (arith, ap length a.pushed, length-append old a.added, same_length (IsToken names) (placed_one p (length old) lexeme) a.added a.each, length-placed_one p (length old) lexeme)

-- names keep their numbers

means-kept : (names more : List (List ℕ)) (m : Meaning) (token : Token) → Means names m token → Means (names ++ more) m token
means-kept names more blank token h = h
means-kept names more (name text) token h = (h.0, number_in-append names more text token.value h.1)
means-kept names more (number value) token h = h
means-kept names more (character value) token h = h
means-kept names more (string bytes) token h = (h.0, number_in-append names more bytes token.value h.1)
means-kept names more (fixed kind) token h = h
means-kept names more (bad code) token h = h

tokens-kept : (names more : List (List ℕ)) (xs : List Placed) (ts : List Token) → AllZip (IsToken names) xs ts → AllZip (IsToken (names ++ more)) xs ts
tokens-kept names more [] [] h = h
tokens-kept names more [] (t ∷ ts) h = h
tokens-kept names more (x ∷ xs) [] h = h
tokens-kept names more (x ∷ xs) (t ∷ ts) h =
    (record { means = means-kept names more (meaning_of x.lexeme) t h.0.means; at = h.0.at; line = h.0.line; column = h.0.column }, tokens-kept names more xs ts h.1)

-- names are only added

pub extends_same : (names : List (List ℕ)) → Extends names names
extends_same names = ([], sym (append-nil names))

pub extends_more : (a b c : List (List ℕ)) → Extends a b → Extends b c → Extends a c
extends_more a b c h k = (h.0 ++ k.0, k.1 ∙ ap (λ (n : List (List ℕ)). n ++ k.0) h.1 ∙ append_assoc a h.0 k.0)

pub extends_by : (old new : List (List ℕ)) (m : Meaning) → new ≡ with_names old (names_of m) → Extends old new
extends_by old new m e = let grown = with_names-grows old (names_of m) in (grown.0, e ∙ grown.1)

length-names_of : (m : Meaning) → length (names_of m) ≤ 1
length-names_of blank = omega arith
length-names_of (name text) = omega arith
length-names_of (number value) = omega arith
length-names_of (character value) = omega arith
length-names_of (string bytes) = omega arith
length-names_of (fixed kind) = omega arith
length-names_of (bad code) = omega arith

one_name : (old new : List (List ℕ)) (m : Meaning) → new ≡ with_names old (names_of m) → length new ≤ length old + 1
one_name old new m e = omega (arith, ap length e, length-with_names old (names_of m), length-names_of m)

names_in-append : (xs ys : List (List ℕ)) → names_in (xs ++ ys) ≡ names_in xs ++ names_in ys
names_in-append [] ys = refl
names_in-append (x ∷ xs) ys = ap (λ (n : List (List ℕ)). names_of (meaning_of x) ++ n) (names_in-append xs ys) ∙ sym (append_assoc (names_of (meaning_of x)) (names_in xs) (names_in ys))

names_in_push : (xs : List (List ℕ)) (x : List ℕ) → names_in (xs ++ x ∷ []) ≡ names_in xs ++ names_of (meaning_of x)
names_in_push xs x = names_in-append xs (x ∷ []) ∙ ap (λ (n : List (List ℕ)). names_in xs ++ n) (append-nil (names_of (meaning_of x)))

named_on : (old names new : List (List ℕ)) (lexemes : List (List ℕ)) (lexeme : List ℕ) → names ≡ with_names old (names_in lexemes) → new ≡ with_names names (names_of (meaning_of lexeme))
    → new ≡ with_names old (names_in (lexemes ++ lexeme ∷ []))
named_on old names new lexemes lexeme h e =
    e ∙ ap (λ (n : List (List ℕ)). with_names n (names_of (meaning_of lexeme))) h
    ∙ sym (with_names-append old (names_in lexemes) (names_of (meaning_of lexeme)))
    ∙ ap (with_names old) (sym (names_in_push lexemes lexeme))

-- a place goes on by no more than the bytes behind it

after_byte-line : (b : Bool) (p : Position) → (cond {A = Position} b (record { line = p.line + 1; column = 1 }) (record { line = p.line; column = p.column + 1 })).line ≤ p.line + 1
after_byte-line true p = omega arith
after_byte-line false p = omega arith

after_byte-column : (b : Bool) (p : Position) → (cond {A = Position} b (record { line = p.line + 1; column = 1 }) (record { line = p.line; column = p.column + 1 })).column ≤ p.column + 1
after_byte-column true p = omega arith
after_byte-column false p = omega arith

after_bytes-line : (p : Position) (bs : List ℕ) → (after_bytes p bs).line ≤ p.line + length bs
after_bytes-line p [] = omega arith
after_bytes-line p (b ∷ bs) = omega (arith, after_byte-line (b == 10) p, after_bytes-line (after_byte p b) bs)

after_bytes-column : (p : Position) (bs : List ℕ) → (after_bytes p bs).column ≤ p.column + length bs
after_bytes-column p [] = omega arith
after_bytes-column p (b ∷ bs) = omega (arith, after_byte-column (b == 10) p, after_bytes-column (after_byte p b) bs)

-- the loop

begins : (old : List (List ℕ)) (text : List ℕ) → IsLexing old text old [] first_position text
begins old text = record {
  lexemes = [];
  done = [];
  split = λ later h. h;
  numbered = λ later. refl;
  each = tt;
  named = refl;
  extends = extends_same old;
  room = omega arith;
  line = omega arith;
  column = omega arith;
  count = omega arith;
}

pub lexing_begins : (old : List (List ℕ)) (text : List ℕ) (names : List (List ℕ)) (tokens : List Token) (p : Position) → names ≡ old → tokens ≡ [] → p ≡ first_position → IsLexing old text names tokens p text
lexing_begins old text names tokens p same none first =
    subst (λ (n : List (List ℕ)). IsLexing old text n tokens p text) (sym same)
    (subst (λ (ts : List Token). IsLexing old text old ts p text) (sym none)
    (subst (λ (q : Position). IsLexing old text old [] q text) (sym first) (begins old text)))

first_lexeme : (text lexeme after : List ℕ) (later : List (List ℕ)) → text ≡ lexeme ++ after → IsLongest lexeme after → AreLexemes after later → AreLexemes text (lexeme ∷ later)
first_lexeme text lexeme after later parts longest rest = (after, parts, longest, rest)

pub lexing_goes_on : (old : List (List ℕ)) (text : List ℕ) (names : List (List ℕ)) (tokens : List Token) (p : Position) (rest lexeme after : List ℕ) (new : List (List ℕ)) (all : List Token)
    → IsLexing old text names tokens p rest → rest ≡ lexeme ++ after → 1 ≤ length lexeme → IsLongest lexeme after → new ≡ with_names names (names_of (meaning_of lexeme)) → AddsToken new p lexeme tokens all
    → IsLexing old text new all (after_bytes p lexeme) after
lexing_goes_on old text names tokens p rest lexeme after new all h parts some longest named adds =
    let one = placed_one p (length tokens) lexeme in
    let extends : Extends names new = extends_by names new (meaning_of lexeme) named in
    let kept : AllZip (IsToken new) h.done tokens = subst (λ (n : List (List ℕ)). AllZip (IsToken n) h.done tokens) (sym extends.1) (tokens-kept names extends.0 h.done tokens h.each) in
    let same : length one ≡ length adds.added = same_length (IsToken new) one adds.added adds.each in
    let few : length one ≤ 1 = length-placed_one p (length tokens) lexeme in
    let longer : length all ≡ length tokens + length adds.added = ap length adds.pushed ∙ length-append tokens adds.added in
    let bytes : length rest ≡ length lexeme + length after = ap length parts ∙ length-append lexeme after in
    record {
      lexemes = h.lexemes ++ lexeme ∷ [];
      done = h.done ++ one;
      split = λ later l. subst (AreLexemes text) (sym (append_snoc h.lexemes lexeme later)) (h.split (lexeme ∷ later) (first_lexeme rest lexeme after later parts longest l));
      numbered = λ later.
          ap placed (append_snoc h.lexemes lexeme later) ∙ h.numbered (lexeme ∷ later)
          ∙ ap (λ (xs : List Placed). h.done ++ xs) (placed_from-cons p (length tokens) lexeme later)
          ∙ sym (append_assoc h.done one (placed_from (after_bytes p lexeme) (length tokens + length one) later))
          ∙ ap (λ (n : ℕ). (h.done ++ one) ++ placed_from (after_bytes p lexeme) n later) (ap (λ (n : ℕ). length tokens + n) same ∙ sym longer);
      each = subst (AllZip (IsToken new) (h.done ++ one)) (sym adds.pushed) (join (IsToken new) h.done tokens one adds.added kept adds.each);
      named = named_on old names new h.lexemes lexeme h.named named;
      extends = extends_more old names new h.extends extends;
      room = omega (arith, h.room, bytes, longer, same, few, some);
      line = omega (arith, h.line, bytes, after_bytes-line p lexeme);
      column = omega (arith, h.column, bytes, after_bytes-column p lexeme);
      count = omega (arith, h.count, bytes, one_name names new (meaning_of lexeme) named, some);
    }

none_left : (rest : List ℕ) → length rest ≡ 0 → rest ≡ []
none_left [] e = refl
none_left (b ∷ rest) e = absurd (omega arith)

all_split : (old : List (List ℕ)) (text : List ℕ) (names : List (List ℕ)) (tokens : List Token) (p : Position) (rest : List ℕ) (h : IsLexing old text names tokens p rest) → length rest ≡ 0 → AreLexemes text h.lexemes
all_split old text names tokens p rest h none = subst (AreLexemes text) (append-nil h.lexemes) (h.split [] (none_left rest none))

all_placed : (old : List (List ℕ)) (text : List ℕ) (names : List (List ℕ)) (tokens : List Token) (p : Position) (rest : List ℕ) (h : IsLexing old text names tokens p rest)
    → placed h.lexemes ≡ h.done ++ placed_one p (length tokens) []
all_placed old text names tokens p rest h = ap placed (sym (append-nil h.lexemes)) ∙ h.numbered []

-- the end is the token of no bytes
pub lexing_ends : (old : List (List ℕ)) (text : List ℕ) (names : List (List ℕ)) (tokens : List Token) (p : Position) (rest : List ℕ) (new : List (List ℕ)) (all : List Token)
    → IsLexing old text names tokens p rest → length rest ≡ 0 → new ≡ names → AddsToken new p [] tokens all → AreTokens old new text all
lexing_ends old text names tokens p rest new all h none same adds = record {
  lexemes = h.lexemes;
  split = all_split old text names tokens p rest h none;
  names = same ∙ h.named;
  each =
      subst (λ (xs : List Placed). AllZip (IsToken new) xs all) (sym (all_placed old text names tokens p rest h))
      (subst (AllZip (IsToken new) (h.done ++ placed_one p (length tokens) [])) (sym adds.pushed)
      (join (IsToken new) h.done tokens (placed_one p (length tokens) []) adds.added (subst (λ (n : List (List ℕ)). AllZip (IsToken n) h.done tokens) (sym same) h.each) adds.each));
}

-- with the end there is one token more than before it
count_with_end : (old : List (List ℕ)) (text : List ℕ) (names : List (List ℕ)) (tokens : List Token) (p : Position) (rest : List ℕ) (h : IsLexing old text names tokens p rest)
    → length (placed h.lexemes) ≡ length tokens + 1
count_with_end old text names tokens p rest h =
    let one = placed_one p (length tokens) [] in
    omega (arith, ap length (all_placed old text names tokens p rest h), length-append h.done one, same_length (IsToken names) h.done tokens h.each)

pub too_many : (old : List (List ℕ)) (text : List ℕ) (names : List (List ℕ)) (tokens : List Token) (p : Position) (rest : List ℕ)
    → IsLexing old text names tokens p rest → length rest ≡ 0 → length tokens ≡ 1048576 → HasTooMany text
too_many old text names tokens p rest h none many = (h.lexemes, all_split old text names tokens p rest h none, omega (arith, many, count_with_end old text names tokens p rest h))

pub not_too_many : (old : List (List ℕ)) (text : List ℕ) (names : List (List ℕ)) (tokens : List Token) (p : Position) (rest : List ℕ)
    → IsLexing old text names tokens p rest → length rest ≡ 0 → length tokens < 1048576 → HasTooMany text → ⊥
not_too_many old text names tokens p rest h none few many =
    let same : many.0 ≡ h.lexemes = one_list_of_lexemes text many.0 h.lexemes many.1 (all_split old text names tokens p rest h none) in
    omega (arith, many.2, ap (λ (ls : List (List ℕ)). length (placed ls)) same, count_with_end old text names tokens p rest h)
