-- Two bytes that spell a symbol are the longest match, since no symbol has three.
use Rattle.std.proofs.Common.{◌≡◌, ℕ, suc, zero, ◌<◌, ◌≤◌, Bool, true, false, cond, ◌&&◌, List, [], ◌∷◌, length, take, drop, get_or, None, refl, sym, ◌∙◌, ap, subst, arith}
use Rattle.std.specs.Prelude.{nat_le, nat_eq, ◌||◌, is_some}
use Rattle.std.specs.Str.{bytes_eq}
use Rattle.std.proofs.lemmas.Bool.{leb-true, le-leb}
use Rattle.m2_base.specs.Comments.{opens_comment, behind_comment, is_all, is_comment}
use Rattle.m2_base.specs.Kinds.{kind_in, symbols}
use Rattle.m2_base.specs.Letters.{is_digit, is_letter, is_blank, is_quote}
use Rattle.m2_base.specs.Lexemes.{IsLongest, is_lexeme}
use Rattle.m2_base.proofs.KindTables.{kind_in-none}
use Rattle.m2_lex.specs.Symbols.{symbol_length}
use Rattle.m2_lex.proofs.LongestFrom.{and_false, false_from}

no_long : (a b c : ℕ) (ds : List ℕ) → kind_in symbols (a ∷ b ∷ c ∷ ds) ≡ None
no_long a b c ds = kind_in-none (λ xs. nat_le (length xs) 2) symbols (a ∷ b ∷ c ∷ ds) refl (false_from (nat_le (length (a ∷ b ∷ c ∷ ds)) 2) (λ e. let short : length (a ∷ b ∷ c ∷ ds) ≤ 2 = leb-true (length (a ∷ b ∷ c ∷ ds)) 2 e in omega arith))

longer_none : (a b : ℕ) (cs : List ℕ) (k : ℕ) → 0 < k → k ≤ length cs → is_some (kind_in symbols (a ∷ b ∷ take k cs)) ≡ false
longer_none a b [] k some room = absurd (omega arith)
longer_none a b (c ∷ cs) zero some room = absurd (omega arith)
longer_none a b (c ∷ cs) (suc k) some room = ap is_some (no_long a b c (take k cs))

-- a pair that is no symbol doesn't become one by more bytes
no_pair : (a b : ℕ) (cs : List ℕ) (k : ℕ) → is_some (kind_in symbols (a ∷ b ∷ [])) ≡ false → 0 < k → k ≤ length (b ∷ cs) → (bytes_eq (take k (b ∷ cs)) [] || is_some (kind_in symbols (a ∷ take k (b ∷ cs)))) ≡ false
no_pair a b cs zero none some room = absurd (omega arith)
no_pair a b cs (suc zero) none some room = none
no_pair a b cs (suc (suc k)) none some room = longer_none a b cs (suc k) (omega arith) (omega arith)

at_other : (blank letter digit quote v w x y z : Bool) → blank ≡ false → letter ≡ false → digit ≡ false → quote ≡ false → cond blank v (cond letter w (cond digit x (cond quote y z))) ≡ z
at_other true letter digit quote v w x y z e l d q = cc
at_other false true digit quote v w x y z e l d q = cc
at_other false false true quote v w x y z e l d q = cc
at_other false false false true v w x y z e l d q = cc
at_other false false false false v w x y z e l d q = refl

or_false : (b : Bool) → (b || false) ≡ b
or_false true = refl
or_false false = refl

-- a front opens no comment if the whole opens none
no_comment : (a : ℕ) (rest : List ℕ) (k : ℕ) → opens_comment (a ∷ rest) ≡ false → opens_comment (a ∷ take k rest) ≡ false
no_comment a [] zero h = h
no_comment a [] (suc k) h = h
no_comment a (b ∷ bs) zero h = and_false (nat_eq 40 a)
no_comment a (b ∷ bs) (suc k) h = h

abbrev Spells : ℕ → List ℕ → Type 0
Spells a rest = (k : ℕ) → is_lexeme (a ∷ take k rest) ≡ (bytes_eq (take k rest) [] || is_some (kind_in symbols (a ∷ take k rest)))

-- the byte begins no other lexeme than a symbol
record IsOther (a : ℕ) (rest : List ℕ) : Type 0 where
  blank : is_blank a ≡ false
  letter : is_letter a ≡ false
  digit : is_digit a ≡ false
  quote : is_quote a ≡ false
  comment : opens_comment (a ∷ rest) ≡ false

spelled : (a : ℕ) (rest : List ℕ) → IsOther a rest → Spells a rest
spelled a rest other k =
    let bs = take k rest in
    let symbol = bytes_eq bs [] || is_some (kind_in symbols (a ∷ bs)) in
    at_other (is_blank a) (is_letter a) (is_digit a) (is_quote a) _ _ _ _ (symbol || is_comment (a ∷ bs)) other.blank other.letter other.digit other.quote
    ∙ ap (λ (t : Bool). symbol || (t && is_all (behind_comment (a ∷ bs)))) (no_comment a rest k other.comment)
    ∙ or_false symbol

alone : (a : ℕ) → Spells a [] → IsLongest (a ∷ []) []
alone a spells = record { spells = spells 0; none_longer = λ k some room. absurd (omega arith) }

single : (a b : ℕ) (cs : List ℕ) → Spells a (b ∷ cs) → is_some (kind_in symbols (a ∷ b ∷ [])) ≡ false → IsLongest (a ∷ []) (b ∷ cs)
single a b cs spells none = record { spells = spells 0; none_longer = λ k some room. spells k ∙ no_pair a b cs k none some room }

pair : (a b : ℕ) (cs : List ℕ) → Spells a (b ∷ cs) → is_some (kind_in symbols (a ∷ b ∷ [])) ≡ true → IsLongest (a ∷ b ∷ []) cs
pair a b cs spells is = record { spells = spells 1 ∙ is; none_longer = λ k some room. spells (suc k) ∙ longer_none a b cs k some room }

length_of : (two is : Bool) → two ≡ true → cond {A = ℕ} (two && is) 2 1 ≡ cond {A = ℕ} is 2 1
length_of true is e = refl
length_of false is e = cc

abbrev IsSplit : List ℕ → ℕ → Type 0
IsSplit text n = IsLongest (take n text) (drop n text)

longest_other : (text : List ℕ) (n : ℕ) (a : ℕ) (rest : List ℕ) → text ≡ a ∷ rest → IsOther a rest → n ≡ symbol_length text → IsLongest (take n text) (drop n text)
longest_other text n a [] is other h = subst (λ (t : List ℕ). IsSplit t n) (sym is) (subst (IsSplit (a ∷ [])) (sym (h ∙ ap symbol_length is)) (alone a (spelled a [] other)))
longest_other text n a (b ∷ cs) is other h =
    let spells : Spells a (b ∷ cs) = spelled a (b ∷ cs) other in
    let symbol = is_some (kind_in symbols (a ∷ b ∷ [])) in
    let long : n ≡ cond {A = ℕ} symbol 2 1 = h ∙ ap symbol_length is ∙ length_of (nat_le 2 (length (a ∷ b ∷ cs))) symbol (le-leb 2 (length (a ∷ b ∷ cs)) (omega arith)) in
    subst (λ (t : List ℕ). IsSplit t n) (sym is)
    (subst (IsSplit (a ∷ b ∷ cs)) (sym long)
    (elim symbol as (λ t. symbol ≡ t → IsSplit (a ∷ b ∷ cs) (cond t 2 1)) [
      | true ↦ λ e. pair a b cs spells e
      | false ↦ λ e. single a b cs spells e
    ] refl))

pub longest_symbol : (text : List ℕ) (n : ℕ) → 1 ≤ length text → is_blank (get_or text 0 0) ≡ false → is_letter (get_or text 0 0) ≡ false → is_digit (get_or text 0 0) ≡ false
    → is_quote (get_or text 0 0) ≡ false → opens_comment text ≡ false → n ≡ symbol_length text → IsLongest (take n text) (drop n text)
longest_symbol [] n some blank letter digit quote comment h = absurd (omega arith)
longest_symbol (a ∷ rest) n some blank letter digit quote comment h =
    longest_other (a ∷ rest) n a rest refl (record { blank = blank; letter = letter; digit = digit; quote = quote; comment = comment }) h
