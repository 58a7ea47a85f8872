-- Rows that lie in words.
use Rattle.std.proofs.Common.{◌≡◌, ℕ, zero, suc, ◌+◌, ◌*◌, ◌/◌, ◌%◌, ◌<◌, ◌≤◌, List, [], ◌∷◌, ◌++◌, length, get_or, set, sym, refl, ap, ◌∙◌, arith, length-append, suc-add, get_or-set_same, get_or-set_other}
use lib.ListN.{get_or-append}
use Rattle.std.specs.Int.{cast_signed, w64}
use Rattle.std.proofs.lemmas.Int.{to_z-of_z}
use Rattle.std.proofs.Math.Nat.{mod-eq_of_lt}
use Rattle.m2_base.specs.declared.rows.Row.{Row}
use Rattle.scope_table.specs.Rows.{words_of, row_at, rows_at, rows_of, words_at, Stand, row_of, IsField, IsNarrow}

-- rows that lie in the same words
row-shift : (ws vs : List ℕ) (b c : ℕ) → ((k : ℕ) → k < 8 → get_or ws (b + k) 0 ≡ get_or vs (c + k) 0) → row_at ws b ≡ row_at vs c
row-shift ws vs b c h = let z : get_or ws b 0 ≡ get_or vs c 0 = (let e : b ≡ b + 0 = omega arith in let f : c + 0 ≡ c = omega arith in ap (λ (k : ℕ). get_or ws k 0) e ∙ (h 0 (omega arith) ∙ ap (λ (k : ℕ). get_or vs k 0) f)) in
    λ i. record {
      name = z i % 4294967296;
      kind = h 1 (omega arith) i % 256;
      at = h 2 (omega arith) i % 4294967296;
      a = cast_signed w64 (h 3 (omega arith) i);
      b = cast_signed w64 (h 4 (omega arith) i);
      c = cast_signed w64 (h 5 (omega arith) i);
      d = cast_signed w64 (h 6 (omega arith) i);
      e = cast_signed w64 (h 7 (omega arith) i);
    }

pub rows-shift : (ws vs : List ℕ) (b c n : ℕ) → ((k : ℕ) → k < 8 * n → get_or ws (b + k) 0 ≡ get_or vs (c + k) 0) → rows_at ws b n ≡ rows_at vs c n
rows-shift ws vs b c zero h = refl
rows-shift ws vs b c (suc n) h =
    let x = row-shift ws vs b c (λ k l. h k (omega arith)) in
    let rest = rows-shift ws vs (b + 8) (c + 8) n (λ k l. let e : b + 8 + k ≡ b + (8 + k) = omega arith in let f : c + (8 + k) ≡ c + 8 + k = omega arith in ap (λ (p : ℕ). get_or ws p 0) e ∙ (h (8 + k) (omega arith) ∙ ap (λ (p : ℕ). get_or vs p 0) f)) in
    λ i. x i ∷ rest i

pub length-rows_at : (ws : List ℕ) (b n : ℕ) → length (rows_at ws b n) ≡ n
length-rows_at ws b zero = refl
length-rows_at ws b (suc n) = ap suc (length-rows_at ws (b + 8) n)

pub rows_at-same : (ws ws' : List ℕ) (b n : ℕ) → ((p : ℕ) → b ≤ p → p < b + 8 * n → get_or ws' p 0 ≡ get_or ws p 0) → rows_at ws' b n ≡ rows_at ws b n
rows_at-same ws ws' b n h = rows-shift ws' ws b b n (λ k l. h (b + k) (omega arith) (omega arith))

pub rows_at-more : (ws : List ℕ) (b n m : ℕ) → rows_at ws b (n + m) ≡ rows_at ws b n ++ rows_at ws (b + 8 * n) m
rows_at-more ws b zero m = ap (λ (z : ℕ × ℕ). rows_at ws z.0 z.1) (λ i. (let e : b ≡ b + 8 * 0 = omega arith in e i, let e : 0 + m ≡ m = omega arith in e i))
rows_at-more ws b (suc n) m = ap (rows_at ws b) (suc-add n m) ∙ ap (λ (l : List Row). row_at ws b ∷ l) (rows_at-more ws (b + 8) n m ∙ ap (λ (z : ℕ). rows_at ws (b + 8) n ++ rows_at ws z m) (omega arith))

pub get_or-rows_at : (ws : List ℕ) (b n i : ℕ) → i < n → row_of (rows_at ws b n) i ≡ row_at ws (b + 8 * i)
get_or-rows_at ws b zero i h = absurd (omega arith)
get_or-rows_at ws b (suc n) zero h = ap (row_at ws) (omega arith)
get_or-rows_at ws b (suc n) (suc i) h = get_or-rows_at ws (b + 8) n i (omega arith) ∙ ap (row_at ws) (omega arith)

-- ** Words that make rows

pub length-rows_of : (m : ℕ) (xs : List ℕ) → length xs ≡ 8 * m → length (rows_of xs) ≡ m
length-rows_of m xs e = length-rows_at xs 0 (length xs / 8) ∙ omega arith

pub rows_of-is : (m : ℕ) (xs : List ℕ) → length xs ≡ 8 * m → rows_of xs ≡ rows_at xs 0 m
rows_of-is m xs e = ap (rows_at xs 0) (let q : length xs / 8 ≡ m = omega arith in q)

pub rows_at-words : (ws : List ℕ) (b m : ℕ) (xs : List ℕ) → length xs ≡ 8 * m → Stand ws b xs → rows_at ws b m ≡ rows_of xs
rows_at-words ws b m xs e h = rows-shift ws xs b 0 m (λ k l. h k (omega arith) ∙ ap (λ (p : ℕ). get_or xs p 0) (omega arith)) ∙ sym (rows_of-is m xs e)

-- the words of a row are the row
pub row_at-words : (r : Row) → IsNarrow r → row_at (words_of r) 0 ≡ r
row_at-words r h = λ i. record {
  name = mod-eq_of_lt h.name i;
  kind = mod-eq_of_lt h.kind i;
  at = mod-eq_of_lt h.at i;
  a = to_z-of_z w64 r.a h.a i;
  b = to_z-of_z w64 r.b h.b i;
  c = to_z-of_z w64 r.c h.c i;
  d = to_z-of_z w64 r.d h.d i;
  e = to_z-of_z w64 r.e h.e i;
}

get_or-behind : (xs ys : List ℕ) (k : ℕ) → get_or (xs ++ ys) (length xs + k) 0 ≡ get_or ys k 0
get_or-behind [] ys k = ap (λ (p : ℕ). get_or ys p 0) (omega arith)
get_or-behind (x ∷ xs) ys k = ap (λ (p : ℕ). get_or (x ∷ (xs ++ ys)) p 0) (let e : suc (length xs) + k ≡ suc (length xs + k) = omega arith in e) ∙ get_or-behind xs ys k

-- one row more
pub rows_of-more : (m : ℕ) (xs : List ℕ) (r : Row) → length xs ≡ 8 * m → IsNarrow r → rows_of (xs ++ words_of r) ≡ rows_of xs ++ r ∷ []
rows_of-more m xs r e h =
    let len : length (xs ++ words_of r) ≡ 8 * (m + 1) = length-append xs (words_of r) ∙ (let n : length (words_of r) ≡ 8 = refl in omega arith) in
    let first : rows_at (xs ++ words_of r) 0 m ≡ rows_at xs 0 m = rows-shift (xs ++ words_of r) xs 0 0 m (λ k l. get_or-append xs (words_of r) 0 (0 + k) (omega arith)) in
    let last : row_at (xs ++ words_of r) (0 + 8 * m) ≡ r = row-shift (xs ++ words_of r) (words_of r) (0 + 8 * m) 0 (λ k l. ap (λ (p : ℕ). get_or (xs ++ words_of r) p 0) (omega arith) ∙ (get_or-behind xs (words_of r) k ∙ ap (λ (p : ℕ). get_or (words_of r) p 0) (omega arith))) ∙ row_at-words r h in
    rows_of-is (m + 1) (xs ++ words_of r) len ∙ (rows_at-more (xs ++ words_of r) 0 m 1 ∙ (λ i. (first ∙ sym (rows_of-is m xs e)) i ++ last i ∷ []))

-- ** The fields of a row

-- the words from b on are the fields of the row there
pub field_at : (ws : List ℕ) (b f : ℕ) → f < 8 → IsField (row_at ws b) f (get_or ws (b + f) 0)
field_at ws b zero h = ap (λ (p : ℕ). get_or ws p 0 % 4294967296) (omega arith)
field_at ws b (suc zero) h = refl
field_at ws b (suc (suc zero)) h = refl
field_at ws b (suc (suc (suc zero))) h = refl
field_at ws b (suc (suc (suc (suc zero)))) h = refl
field_at ws b (suc (suc (suc (suc (suc zero))))) h = refl
field_at ws b (suc (suc (suc (suc (suc (suc zero)))))) h = refl
field_at ws b (suc (suc (suc (suc (suc (suc (suc zero))))))) h = refl
field_at ws b (suc (suc (suc (suc (suc (suc (suc (suc n)))))))) h = absurd (omega arith)

-- a row is that of its fields
pub row_by_fields : (r : Row) (ws : List ℕ) → ((f : ℕ) → f < 8 → IsField r f (get_or ws f 0)) → r ≡ row_at ws 0
row_by_fields r ws h = λ i. record {
  name = h 0 (omega arith) i;
  kind = h 1 (omega arith) i;
  at = h 2 (omega arith) i;
  a = h 3 (omega arith) i;
  b = h 4 (omega arith) i;
  c = h 5 (omega arith) i;
  d = h 6 (omega arith) i;
  e = h 7 (omega arith) i;
}

-- ** Words beside each other

pub words_at-same : (ws ws' : List ℕ) (b n : ℕ) → ((p : ℕ) → b ≤ p → p < b + n → get_or ws' p 0 ≡ get_or ws p 0) → words_at ws' b n ≡ words_at ws b n
words_at-same ws ws' b zero h = refl
words_at-same ws ws' b (suc n) h =
    let x : get_or ws' b 0 ≡ get_or ws b 0 = h b (omega arith) (omega arith) in let z : words_at ws' (b + 1) n ≡ words_at ws (b + 1) n = words_at-same ws ws' (b + 1) n (λ p l u. h p (omega arith) (omega arith)) in
    λ k. x k ∷ z k

pub get_or-words_at : (ws : List ℕ) (b n c : ℕ) → c < n → get_or (words_at ws b n) c 0 ≡ get_or ws (b + c) 0
get_or-words_at ws b zero c h = absurd (omega arith)
get_or-words_at ws b (suc n) zero h = ap (λ (p : ℕ). get_or ws p 0) (omega arith)
get_or-words_at ws b (suc n) (suc c) h = get_or-words_at ws (b + 1) n c (omega arith) ∙ ap (λ (p : ℕ). get_or ws p 0) (omega arith)

pub words_at-set : (ws : List ℕ) (b n c x : ℕ) → c < n → b + c < length ws → words_at (set ws (b + c) x) b n ≡ set (words_at ws b n) c x
words_at-set ws b zero c x h l = absurd (omega arith)
words_at-set ws b (suc n) zero x h l =
    let e : b + 0 ≡ b = omega arith in let hd : get_or (set ws (b + 0) x) b 0 ≡ x = ap (λ (p : ℕ). get_or (set ws p x) b 0) e ∙ get_or-set_same ws b x 0 (omega arith) in
    let tl : words_at (set ws (b + 0) x) (b + 1) n ≡ words_at ws (b + 1) n = words_at-same ws (set ws (b + 0) x) (b + 1) n (λ p lo hi. get_or-set_other ws (b + 0) p x 0 (λ q. omega arith)) in λ i. hd i ∷ tl i
words_at-set ws b (suc n) (suc c) x h l =
    let e : b + suc c ≡ b + 1 + c = omega arith in let hd : get_or (set ws (b + suc c) x) b 0 ≡ get_or ws b 0 = get_or-set_other ws (b + suc c) b x 0 (λ q. omega arith) in
    let tl : words_at (set ws (b + suc c) x) (b + 1) n ≡ set (words_at ws (b + 1) n) c x = ap (λ (p : ℕ). words_at (set ws p x) (b + 1) n) e ∙ words_at-set ws (b + 1) n c x (omega arith) (omega arith) in λ i. hd i ∷ tl i
