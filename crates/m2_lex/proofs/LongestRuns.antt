-- A run of bytes of one class at the front is the longest match.
use Rattle.std.proofs.Common.{◌≡◌, ℕ, suc, zero, ◌+◌, ◌<◌, ◌≤◌, Bool, true, false, cond, ◌&&◌, List, [], ◌∷◌, take, drop, get_or, refl, sym, ◌∙◌, ap, subst, arith}
use Rattle.std.specs.List.{list_all, prefix_len}
use Rattle.std.proofs.lemmas.List.Sums.{prefix_len-le-length}
use Rattle.m2_base.specs.Letters.{is_digit, is_letter, goes_on, is_blank}
use Rattle.m2_base.specs.Lexemes.{IsLongest, is_lexeme}
use Rattle.m2_lex.proofs.LongestFrom.{or_first, false_from, longest_from, all_within, all_spells}

some_first : (p : ℕ → Bool) (b : ℕ) (bs : List ℕ) → p b ≡ true → 0 < prefix_len p (b ∷ bs)
some_first p b bs first = subst (λ (t : Bool). 0 < cond t (1 + prefix_len p bs) 0) (sym first) (omega arith)

-- a first byte of the class, after which the bytes of the class go on
longest_run : (p : ℕ → Bool) (b : ℕ) (bs : List ℕ) (n : ℕ) → p b ≡ true → ((cs : List ℕ) → is_lexeme (b ∷ cs) ≡ list_all p cs) → n ≡ prefix_len p (b ∷ bs) → IsLongest (take n (b ∷ bs)) (drop n (b ∷ bs))
longest_run p b bs n first continues count =
    let r = prefix_len p (b ∷ bs) in
    subst (λ (k : ℕ). IsLongest (take k (b ∷ bs)) (drop k (b ∷ bs))) (sym count)
    (longest_from (b ∷ bs) r (prefix_len-le-length p (b ∷ bs))
    (spells r (some_first p b bs first) ∙ all_spells p (b ∷ bs))
    (λ m more room. spells m (omega arith) ∙ false_from (list_all p (take m (b ∷ bs))) (λ e. let h : m ≤ r = all_within p (b ∷ bs) m room e in omega arith)))
  where
    spells : (m : ℕ) → 0 < m → is_lexeme (take m (b ∷ bs)) ≡ list_all p (take m (b ∷ bs))
    spells zero some = absurd (omega arith)
    spells (suc k) some = continues (take k bs) ∙ sym (ap (λ (t : Bool). t && list_all p (take k bs)) first)

at_blank : (blank x y : Bool) → blank ≡ true → cond blank x y ≡ x
at_blank true x y e = refl
at_blank false x y e = cc

at_letter : (blank letter x y z : Bool) → blank ≡ false → letter ≡ true → cond blank x (cond letter y z) ≡ y
at_letter true letter x y z e l = cc
at_letter false true x y z e l = refl
at_letter false false x y z e l = cc

pub longest_blanks : (text : List ℕ) (n : ℕ) → is_blank (get_or text 0 0) ≡ true → n ≡ prefix_len is_blank text → IsLongest (take n text) (drop n text)
longest_blanks [] n blank h = absurd cc
longest_blanks (b ∷ bs) n blank h = longest_run is_blank b bs n blank (λ cs. at_blank (is_blank b) (list_all is_blank cs) _ blank) h

pub longest_word : (text : List ℕ) (n : ℕ) → is_blank (get_or text 0 0) ≡ false → is_letter (get_or text 0 0) ≡ true → n ≡ prefix_len goes_on text → IsLongest (take n text) (drop n text)
longest_word [] n blank letter h = absurd cc
longest_word (b ∷ bs) n blank letter h =
    longest_run goes_on b bs n (or_first (is_letter b) (is_digit b) letter) (λ cs. at_letter (is_blank b) (is_letter b) _ (list_all goes_on cs) _ blank letter) h
