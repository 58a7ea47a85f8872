-- How long the text is, and which bytes it has.
use Rattle.std.proofs.Common.{◌≡◌, ◌≤◌, ◌<◌, ℕ, zero, suc, ◌+◌, ◌*◌, List, [], ◌∷◌, ◌++◌, All, length, map, codes, decimal, true, nat_lt, refl, sym, subst, arith}
use Rattle.std.specs.Str.{IsAscii}
use Rattle.std.specs.List.{flat_map, range_with_len, list_all}
use Rattle.std.proofs.lemmas.Fmt.{length-decimal-le, IsAscii-decimal}
use Rattle.std.proofs.lemmas.List.{length-append, length-map}
use Rattle.std.proofs.lemmas.List.FromFn.{length-range_with_len}
use Rattle.std.proofs.lemmas.List.Elements.{All-append, All-nil, All-cons, All-head, All-tail}
use Rattle.std.proofs.lemmas.Bool.Decides.{nat_tests}
use Rattle.std.proofs.lemmas.List.Sums.{AllPass-from_list_all}
use Rattle.std.proofs.lemmas.Str.Ascii.{All-from_ascii, IsAscii-from_all}
use Rattle.module_gen.specs.BigModule.{numbers, ended, procedure_lines, call_line, opening, between, closing, procedure_text, call_text, lines_of, text_of}
use Rattle.module_gen.proofs.Parts.{text, by_parts}

pairs : (ns : List ℕ) → length (flat_map procedure_lines ns) ≡ 2 * length ns
pairs [] = refl
pairs (n ∷ ns) = let r = pairs ns in let l = length-append (procedure_lines n) (flat_map procedure_lines ns) in omega arith

pub many_lines : (n : ℕ) → length (lines_of n) ≡ 3 * n + 5
many_lines n =
    let ns = numbers n in let ps = flat_map procedure_lines ns in let cs = map call_line ns in
    let a = length-append (opening ++ ps ++ between ++ cs) closing in
    let b = length-append (opening ++ ps ++ between) cs in
    let c = length-append (opening ++ ps) between in
    let d = length-append opening ps in
    let p = pairs ns in let q = length-map ns call_line in let r = length-range_with_len 1 n in
    omega arith

abbrev Low : List ℕ → Type 0
Low bs = All (λ b. b < 128) bs

-- they have five digits at most
abbrev Few : List ℕ → Type 0
Few ns = All (λ n. n < 100000) ns

few_from : (from n : ℕ) → from + n ≤ 100000 → Few (range_with_len from n)
few_from from zero h = All-nil _
few_from from (suc n) h = All-cons (λ k. k < 100000) from (range_with_len (from + 1) n) (omega arith) (few_from (from + 1) n (omega arith))

short_parts : (part : ℕ → List ℕ) (most : ℕ) (ns : List ℕ) → ((k : ℕ) → k < 100000 → length (part k) ≤ most) → Few ns
    → length (flat_map part ns) ≤ most * length ns
short_parts part most [] each few = omega arith
short_parts part most (n ∷ ns) each few =
    let r = short_parts part most ns each (All-tail (λ k. k < 100000) n ns few) in
    let one = each n (All-head (λ k. k < 100000) n ns few) in
    let l = length-append (part n) (flat_map part ns) in
    let m : most * length (n ∷ ns) ≡ most * length ns + most = grind arith in
    omega arith

low_parts : (part : ℕ → List ℕ) (ns : List ℕ) → ((k : ℕ) → k < 100000 → Low (part k)) → Few ns → Low (flat_map part ns)
low_parts part [] each few = All-nil _
low_parts part (n ∷ ns) each few =
    All-append (λ b. b < 128) (part n) (flat_map part ns)
    (each n (All-head (λ k. k < 100000) n ns few))
    (low_parts part ns each (All-tail (λ k. k < 100000) n ns few))

-- a line of a word, a number and a semicolon
abbrev line : (word : List ℕ) (k : ℕ) → List ℕ
line word k = ended (word ++ decimal k ++ codes ";")

short_line : (word : List ℕ) (k : ℕ) → k < 100000 → length (line word k) ≤ length word + 7
short_line word k h =
    let d = length-decimal-le 5 k (omega arith) (omega arith) (omega arith) in
    let a = length-append word (decimal k) in
    let b = length-append (word ++ decimal k) (codes ";") in
    let c = length-append (word ++ decimal k ++ codes ";") (10 ∷ []) in
    omega arith

low : (bs : List ℕ) → list_all (λ b. nat_lt b 128) bs ≡ true → Low bs
low bs h = λ k d l. let e = AllPass-from_list_all (λ b. nat_lt b 128) bs h k d l in grind (arith, nat_tests)

low_line : (word : List ℕ) (k : ℕ) → k < 100000 → Low word → Low (line word k)
low_line word k h w =
    All-append (λ b. b < 128) (word ++ decimal k ++ codes ";") (10 ∷ [])
    (All-append (λ b. b < 128) (word ++ decimal k) (codes ";")
    (All-append (λ b. b < 128) word (decimal k) w (All-from_ascii (decimal k) (IsAscii-decimal k (omega arith))))
    (low (codes ";") refl))
    (low (10 ∷ []) refl)

abbrev heading_word : List ℕ
heading_word = codes "PROCEDURE p"

abbrev body_word : List ℕ
body_word = codes "BEGIN v := v + w END p"

abbrev call_word : List ℕ
call_word = codes "p"

short_procedure : (k : ℕ) → k < 100000 → length (procedure_text k) ≤ 47
short_procedure k h =
    let a = short_line heading_word k h in let b = short_line body_word k h in
    let c = length-append (line heading_word k) (line body_word k ++ []) in
    let d = length-append (line body_word k) [] in
    omega arith

low_procedure : (k : ℕ) → k < 100000 → Low (procedure_text k)
low_procedure k h =
    All-append (λ b. b < 128) (line heading_word k) (line body_word k ++ [])
    (low_line heading_word k h (low heading_word refl))
    (All-append (λ b. b < 128) (line body_word k) [] (low_line body_word k h (low body_word refl)) (All-nil _))

pub short_text : (n : ℕ) → n ≤ 16384 → length (text_of n) < 1048576
short_text n few =
    let ns = numbers n in let p = flat_map procedure_text ns in let q = flat_map call_text ns in
    let f = few_from 1 n (omega arith) in let l = length-range_with_len 1 n in
    let a = short_parts procedure_text 47 ns short_procedure f in
    let b = short_parts call_text 8 ns (λ k. short_line call_word k) f in
    let c = length-append (text opening ++ p ++ text between ++ q) (text closing) in
    let d = length-append (text opening ++ p ++ text between) q in
    let e = length-append (text opening ++ p) (text between) in
    let g = length-append (text opening) p in
    subst (λ (t : List ℕ). length t < 1048576) (sym (by_parts n)) (omega arith)

pub ascii_text : (n : ℕ) → n ≤ 16384 → IsAscii (text_of n)
ascii_text n few =
    let ns = numbers n in let p = flat_map procedure_text ns in let q = flat_map call_text ns in let f = few_from 1 n (omega arith) in
    let a = All-append (λ b. b < 128) (text opening) p (low (text opening) refl) (low_parts procedure_text ns low_procedure f) in
    let b = All-append (λ b. b < 128) (text opening ++ p) (text between) a (low (text between) refl) in
    let c = All-append (λ b. b < 128) (text opening ++ p ++ text between) q b (low_parts call_text ns (λ k h. low_line call_word k h (low call_word refl)) f) in
    let d = All-append (λ b. b < 128) (text opening ++ p ++ text between ++ q) (text closing) c (low (text closing) refl) in
    IsAscii-from_all (text_of n) (subst (λ (t : List ℕ). Low t) (sym (by_parts n)) d)
