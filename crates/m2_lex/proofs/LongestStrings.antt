-- The longest string, and the longest comment.
use Rattle.std.proofs.Common.{◌≡◌, ◌⊎◌, inl, inr, ℕ, suc, zero, ◌+◌, ◌-◌, ◌<◌, ◌≤◌, Bool, true, false, cond, List, [], ◌∷◌, ◌++◌, length, take, drop, get_or, Option, Some, None, refl, sym, ◌∙◌, ap, subst, arith, length-append}
use Rattle.std.specs.Prelude.{◌||◌, ◌==◌, unwrap_or, MatchOption}
use Rattle.std.specs.List.{list_all, prefix_len}
use Rattle.std.specs.Str.{bytes_eq}
use Rattle.std.proofs.Math.Seq.{take-append_seam, take-length, drop-cons}
use Rattle.std.proofs.lemmas.Bool.{eqb-true, eq-eqb}
use Rattle.std.proofs.lemmas.List.{append-nil, take-append-drop, length-drop, drop-drop}
use Rattle.std.proofs.lemmas.List.Sums.{prefix_len-le-length}
use Rattle.std.proofs.lemmas.Slice.Eq.{bytes_eq-Decides}
use Rattle.m2_base.specs.Comments.{Depth, one_further, in_comment, after_comment, behind_comment, opens_comment, is_all}
use Rattle.m2_base.specs.Letters.{is_quote, stays_in}
use Rattle.m2_base.specs.Lexemes.{IsLongest, is_lexeme, fills_string}
use Rattle.m2_base.specs.Runs.{is_run_and}
use Rattle.m2_lex.proofs.LongestFrom.{false_from, longest_from, or_first, or_second, all_within, all_spells, run_and_one, one_spells, within_by}

-- strings

quote_cases : (b : ℕ) → is_quote b ≡ true → (b ≡ 34) ⊎ (b ≡ 39)
quote_cases b e = elim (b == 34) as (λ t. (b == 34) ≡ t → (t || (b == 39)) ≡ true → (b ≡ 34) ⊎ (b ≡ 39)) [
  | true ↦ λ f h. inl (eqb-true b 34 f)
  | false ↦ λ f h. inr (eqb-true b 39 h)
] refl e

string_spelled : (q : ℕ) (bs : List ℕ) → is_quote q ≡ true → is_lexeme (q ∷ bs) ≡ fills_string q bs
string_spelled q bs e = elim (quote_cases q e) [
  | inl h ↦ subst (λ (q : ℕ). is_lexeme (q ∷ bs) ≡ fills_string q bs) (sym h) refl
  | inr h ↦ subst (λ (q : ℕ). is_lexeme (q ∷ bs) ≡ fills_string q bs) (sym h) refl
]

quote_some : (q : ℕ) → is_quote q ≡ true → 0 < q
quote_some q e = elim (quote_cases q e) [ inl h ↦ omega arith | inr h ↦ omega arith ]

string_by : (q : ℕ) (bs : List ℕ) → is_quote q ≡ true → (m : ℕ) → 0 < m → is_lexeme (take m (q ∷ bs)) ≡ fills_string q (take (m - 1) bs)
string_by q bs e zero some = absurd (omega arith)
string_by q bs e (suc k) some = let less : k ≡ suc k - 1 = omega arith in string_spelled q (take k bs) e ∙ ap (λ (n : ℕ). fills_string q (take n bs)) less

or_false_both : (a b : Bool) → a ≡ false → b ≡ false → (a || b) ≡ false
or_false_both a b ea eb = ap (λ (t : Bool). t || b) ea ∙ eb

no_string : (q : ℕ) (bs : List ℕ) (k : ℕ) → k ≤ length bs → prefix_len (stays_in q) bs < k → (k ≡ prefix_len (stays_in q) bs + 1 → get_or bs (prefix_len (stays_in q) bs) 0 ≡ q → ⊥) → fills_string q (take k bs) ≡ false
no_string q bs k room more not_closed =
    or_false_both (list_all (stays_in q) (take k bs)) (is_run_and (stays_in q) (q ∷ []) (take k bs))
    (false_from (list_all (stays_in q) (take k bs)) (λ e. let h : k ≤ prefix_len (stays_in q) bs = all_within (stays_in q) bs k room e in omega arith))
    (false_from (is_run_and (stays_in q) (q ∷ []) (take k bs)) (λ e. let h = run_and_one (stays_in q) bs q k room e in not_closed h.0 h.1))

longest_closed : (q : ℕ) (bs : List ℕ) → is_quote q ≡ true → get_or bs (prefix_len (stays_in q) bs) 0 ≡ q
    → IsLongest (take (2 + prefix_len (stays_in q) bs) (q ∷ bs)) (drop (2 + prefix_len (stays_in q) bs) (q ∷ bs))
longest_closed q bs e closed =
    let r = prefix_len (stays_in q) bs in
    let within : r < length bs = within_by bs r q closed (quote_some q e) in
    let inner : 2 + r - 1 ≡ r + 1 = omega arith in
    longest_from (q ∷ bs) (2 + r) (omega arith)
    (string_by q bs e (2 + r) (omega arith) ∙ ap (λ (n : ℕ). fills_string q (take n bs)) inner
    ∙ or_second (list_all (stays_in q) (take (r + 1) bs)) _ (one_spells (stays_in q) bs q within closed))
    (λ m more room. string_by q bs e m (omega arith) ∙ no_string q bs (m - 1) (omega arith) (omega arith) (λ f s. omega (arith, more, f)))

longest_open : (q : ℕ) (bs : List ℕ) → is_quote q ≡ true → (get_or bs (prefix_len (stays_in q) bs) 0 ≡ q → ⊥)
    → IsLongest (take (1 + prefix_len (stays_in q) bs) (q ∷ bs)) (drop (1 + prefix_len (stays_in q) bs) (q ∷ bs))
longest_open q bs e open_ =
    let r = prefix_len (stays_in q) bs in
    let within : r ≤ length bs = prefix_len-le-length (stays_in q) bs in
    let inner : 1 + r - 1 ≡ r = omega arith in
    longest_from (q ∷ bs) (1 + r) (omega arith)
    (string_by q bs e (1 + r) (omega arith) ∙ ap (λ (n : ℕ). fills_string q (take n bs)) inner
    ∙ or_first (list_all (stays_in q) (take r bs)) _ (all_spells (stays_in q) bs))
    (λ m more room. string_by q bs e m (omega arith) ∙ no_string q bs (m - 1) (omega arith) (omega arith) (λ f s. open_ s))

behind_quote : (q : ℕ) (bs : List ℕ) (n : ℕ) → get_or (q ∷ bs) (1 + n) 0 ≡ get_or bs n 0
behind_quote q bs n = let more : 1 + n ≡ suc n = omega arith in ap (λ (k : ℕ). get_or (q ∷ bs) k 0) more

-- a string with its closing quote
pub longest_string : (text : List ℕ) (q n : ℕ) → q ≡ get_or text 0 0 → is_quote q ≡ true → n ≡ prefix_len (stays_in q) (drop 1 text) → get_or text (1 + n) 0 ≡ q
    → IsLongest (take (2 + n) text) (drop (2 + n) text) × (2 + n ≤ length text)
longest_string [] q n first quote count closed = absurd (let some : 0 < q = quote_some q quote in omega arith)
longest_string (b ∷ bs) q n first quote count closed =
    let P : ℕ → Type 0 = λ k. IsLongest (take (2 + k) (q ∷ bs)) (drop (2 + k) (q ∷ bs)) in
    let here : get_or bs n 0 ≡ q = sym (behind_quote b bs n) ∙ closed in
    let there : get_or bs (prefix_len (stays_in q) bs) 0 ≡ q = ap (λ (k : ℕ). get_or bs k 0) (sym count) ∙ here in
    let within : n < length bs = within_by bs n q here (quote_some q quote) in
    (subst (λ (f : ℕ). IsLongest (take (2 + n) (f ∷ bs)) (drop (2 + n) (f ∷ bs))) first (subst P (sym count) (longest_closed q bs quote there)), omega arith)

-- a string that isn't closed
pub longest_open_string : (text : List ℕ) (q n : ℕ) → q ≡ get_or text 0 0 → is_quote q ≡ true → n ≡ prefix_len (stays_in q) (drop 1 text) → (get_or text (1 + n) 0 ≡ q → ⊥)
    → IsLongest (take (1 + n) text) (drop (1 + n) text) × (1 + n ≤ length text)
longest_open_string [] q n first quote count not_closed = absurd (let some : 0 < q = quote_some q quote in omega arith)
longest_open_string (b ∷ bs) q n first quote count not_closed =
    let P : ℕ → Type 0 = λ k. IsLongest (take (1 + k) (q ∷ bs)) (drop (1 + k) (q ∷ bs)) in
    let there : get_or bs (prefix_len (stays_in q) bs) 0 ≡ q → ⊥ = λ e. not_closed (behind_quote b bs n ∙ ap (λ (k : ℕ). get_or bs k 0) count ∙ e) in
    let within : prefix_len (stays_in q) bs ≤ length bs = prefix_len-le-length (stays_in q) bs in
    (subst (λ (f : ℕ). IsLongest (take (1 + n) (f ∷ bs)) (drop (1 + n) (f ∷ bs))) first (subst P (sym count) (longest_open q bs quote there)), omega arith)

-- comments

-- what closes a comment closes it whatever follows
closed_by : (p : Depth) (bs rest : List ℕ) → after_comment p bs ≡ Some rest → (front : List ℕ) × (bs ≡ front ++ rest) × ((more : List ℕ) → after_comment p (front ++ more) ≡ Some more)
closed_by p [] rest e = absurd cc
closed_by p (b ∷ bs) rest e =
    let next = one_further p b in
    elim (next.depth == 0) as (λ t. (next.depth == 0) ≡ t → cond t (Some bs) (after_comment next bs) ≡ Some rest
    → (front : List ℕ) × (b ∷ bs ≡ front ++ rest) × ((more : List ℕ) → after_comment p (front ++ more) ≡ Some more)) [
      | true ↦ λ d h. let same : bs ≡ rest = cc in (b ∷ [], ap (λ (xs : List ℕ). b ∷ xs) same, λ more. ap (λ (t : Bool). cond t (Some more) (after_comment next more)) d)
      | false ↦ λ d h. let inner = closed_by next bs rest h in
          (b ∷ inner.0, ap (λ (xs : List ℕ). b ∷ xs) inner.1, λ more. ap (λ (t : Bool). cond t (Some (inner.0 ++ more)) (after_comment next (inner.0 ++ more))) d ∙ inner.2 more)
    ] refl e

-- a text that opens a comment
opened : (text : List ℕ) → opens_comment text ≡ true → text ≡ 40 ∷ 42 ∷ drop 2 text
opened text e =
    let same : 40 ∷ 42 ∷ [] ≡ take 2 text = (bytes_eq-Decides (40 ∷ 42 ∷ []) (take 2 text)).0 e in
    sym (take-append-drop 2 text) ∙ ap (λ (front : List ℕ). front ++ drop 2 text) (sym same)

some_left : (k : ℕ) (rest : List ℕ) → 0 < k → k ≤ length rest → bytes_eq (take k rest) [] ≡ false
some_left zero rest some room = absurd (omega arith)
some_left (suc k) [] some room = absurd (omega arith)
some_left (suc k) (x ∷ rest) some room = refl

comment_spelled : (bs : List ℕ) → is_lexeme (40 ∷ 42 ∷ bs) ≡ is_all (after_comment in_comment bs)
comment_spelled bs = refl

comment_longest : (front rest : List ℕ) → ((more : List ℕ) → after_comment in_comment (front ++ more) ≡ Some more) → IsLongest (40 ∷ 42 ∷ front) rest
comment_longest front rest closes = record {
  spells = comment_spelled front ∙ ap (λ (bs : List ℕ). is_all (after_comment in_comment bs)) (sym (append-nil front)) ∙ ap is_all (closes []);
  none_longer = λ k some room. comment_spelled (front ++ take k rest) ∙ ap is_all (closes (take k rest)) ∙ some_left k rest some room;
}

length_front : (xs ys : List ℕ) (n : ℕ) → n ≤ length (xs ++ ys) → length ys ≡ length (xs ++ ys) - n → n ≡ length xs
length_front xs ys n room left = omega (arith, length-append xs ys)

pub longest_comment : (text : List ℕ) (n : ℕ) → opens_comment text ≡ true → n ≤ length text → behind_comment text ≡ Some (drop n text) → IsLongest (take n text) (drop n text)
longest_comment text n opens room closed =
    let rest = drop n text in
    let by = closed_by in_comment (drop 2 text) rest closed in
    let whole : text ≡ (40 ∷ 42 ∷ by.0) ++ rest = opened text opens ∙ ap (λ (bs : List ℕ). 40 ∷ 42 ∷ bs) by.1 in
    let count : n ≡ length (40 ∷ 42 ∷ by.0) = omega (arith, ap length whole, length-append (40 ∷ 42 ∷ by.0) rest, length-drop n text) in
    let front : take n text ≡ 40 ∷ 42 ∷ by.0 = ap (take n) whole ∙ ap (λ (k : ℕ). take k ((40 ∷ 42 ∷ by.0) ++ rest)) count ∙ take-append_seam (40 ∷ 42 ∷ by.0) rest in
    subst (λ (xs : List ℕ). IsLongest xs rest) (sym front) (comment_longest by.0 rest by.2)

pub longest_open_comment : (text : List ℕ) (n : ℕ) → opens_comment text ≡ true → n ≡ length text → behind_comment text ≡ None → IsLongest (take n text) (drop n text)
longest_open_comment text n opens all not_closed =
    subst (λ (k : ℕ). IsLongest (take k text) (drop k text)) (sym all)
    (longest_from text (length text) (omega arith)
    (ap is_lexeme (take-length text ∙ opened text opens) ∙ comment_spelled (drop 2 text) ∙ ap is_all not_closed)
    (λ m more room. absurd (omega arith)))

-- the byte here closes the comment
pub closes_here : (text : List ℕ) (p next : Depth) (i b : ℕ) → behind_comment text ≡ after_comment p (drop i (drop 2 text)) → i < length (drop 2 text) → b ≡ get_or (drop 2 text) i 0
    → next ≡ one_further p b → next.depth ≡ 0 → behind_comment text ≡ Some (drop (i + 3) text)
closes_here text p next i b so_far within byte step out =
    let bs = drop (suc i) (drop 2 text) in
    let read : drop i (drop 2 text) ≡ b ∷ bs = drop-cons (drop 2 text) i 0 within ∙ ap (λ (x : ℕ). x ∷ bs) (sym byte) in
    let none : ((one_further p b).depth == 0) ≡ true = eq-eqb (one_further p b).depth 0 (ap (λ (d : Depth). d.depth) (sym step) ∙ out) in
    let place : 2 + suc i ≡ i + 3 = omega arith in
    so_far ∙ ap (after_comment p) read ∙ ap (λ (t : Bool). cond t (Some bs) (after_comment (one_further p b) bs)) none
    ∙ ap Some (drop-drop (suc i) 2 text ∙ ap (λ (n : ℕ). drop n text) place)

-- a comment is as long as it is closed, or goes on to the end
pub longest_comment_by : (text : List ℕ) (found : Option ℕ) (n : ℕ) → opens_comment text ≡ true
    → MatchOption found (behind_comment text ≡ None) (λ count. (2 < count) × (count ≤ length text) × (behind_comment text ≡ Some (drop count text)))
    → n ≡ unwrap_or found (length text) → IsLongest (take n text) (drop n text)
longest_comment_by text (Some count) n opens closed is = subst (λ (k : ℕ). IsLongest (take k text) (drop k text)) (sym is) (longest_comment text count opens closed.1 closed.2)
longest_comment_by text None n opens not_closed is = longest_open_comment text n opens is not_closed
