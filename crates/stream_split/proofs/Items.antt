-- Lists of streams, changed at one place.
use Rattle.std.proofs.Common.{◌≡◌, ℕ, zero, suc, Bool, true, false, List, [], ◌∷◌, ◌++◌, refl, sym, ap, ◌∙◌, subst, cond, ◌==◌, length, ◌<◌, ◌+◌, arith, slice_set, get_or, append_assoc, take, map}
use Rattle.std.proofs.lemmas.List.{append-nil}
use Rattle.std.proofs.Math.Seq.{take-suc}
use Rattle.m2_base.specs.declared.token.Token.{Token}
use Rattle.stream_split.specs.declared.cutter.Frame.{Frame}
use Rattle.stream_split.specs.declared.cutter.Mode.{Mode}
use Rattle.stream_split.specs.declared.cutter.Mode.TheVariants.{Free, Body}
use Rattle.stream_split.specs.declared.streams.StreamTokens.{StreamTokens}
use Rattle.stream_split.specs.Cut.{Event, amid, state, to, pick, all_end, out_of}
use Rattle.stream_split.specs.Streams.{StreamOf}
use Rattle.stream_split.specs.Views.{label, stream_view, item, Sent, frame_view, frames_on, frames_view, sends_all}
use Rattle.stream_split.proofs.Picks.{pick_append, pick_own, pick_other}

get_item : (k : ℕ) (xs : List StreamTokens) (d : StreamTokens) → k < length xs → (get_or xs k d).tokens.items ≡ item k xs
get_item k [] d h = let no : ⊥ = omega (arith, h) in absurd no
get_item zero (x ∷ xs) d h = refl
get_item (suc k) (x ∷ xs) d h = get_item k xs d (omega (arith, h))

eq_suc : (j k : ℕ) → (suc j == suc k) ≡ (j == k)
eq_suc j k = grind arith

pub eq_plus : (n j k : ℕ) → (n + j == n + k) ≡ (j == k)
eq_plus n j k = grind arith

eq_zero : (k : ℕ) → (0 == suc k) ≡ false
eq_zero k = grind arith

eq_one : (k : ℕ) → (suc k == 0) ≡ false
eq_one k = grind arith

none : (b : Bool) (xs ts : List Token) → b ≡ false → xs ≡ xs ++ cond b ts []
none b xs ts e = sym (append-nil xs) ∙ ap (λ z. xs ++ cond z ts []) (sym e)

set_item : (j k : ℕ) (xs : List StreamTokens) (v : StreamTokens) (t : Token) → k < length xs
    → v.tokens.items ≡ item k xs ++ (t ∷ []) → item j (slice_set xs k v) ≡ item j xs ++ cond (j == k) (t ∷ []) []
set_item j k [] v t h e = let no : ⊥ = omega (arith, h) in absurd no
set_item zero zero (x ∷ xs) v t h e = e
set_item zero (suc k) (x ∷ xs) v t h e = none (0 == suc k) x.tokens.items (t ∷ []) (eq_zero k)
set_item (suc j) zero (x ∷ xs) v t h e = none (suc j == 0) (item j xs) (t ∷ []) (eq_one j)
set_item (suc j) (suc k) (x ∷ xs) v t h e =
    set_item j k xs v t (omega (arith, h)) e ∙ ap (λ z. item j xs ++ cond z (t ∷ []) []) (sym (eq_suc j k))

-- a token at the end of one stream
pub item_set : (n j k : ℕ) (xs : List StreamTokens) (d v : StreamTokens) (t : Token) → k < length xs → d ≡ get_or xs k d
    → v.tokens.items ≡ d.tokens.items ++ (t ∷ []) → item j (slice_set xs k v) ≡ item j xs ++ cond (n + j == n + k) (t ∷ []) []
item_set n j k xs d v t h g e =
    set_item j k xs v t h (e ∙ ap (λ z. z.tokens.items ++ (t ∷ [])) g ∙ ap (λ z. z ++ (t ∷ [])) (get_item k xs d h))
    ∙ ap (λ z. item j xs ++ cond z (t ∷ []) []) (sym (eq_plus n j k))

-- a stream with the same label in the place of another
pub labels_set : (k : ℕ) (xs : List StreamTokens) (d v : StreamTokens) → k < length xs → d ≡ get_or xs k d → label v ≡ label d
    → map label (slice_set xs k v) ≡ map label xs
labels_set k [] d v h g e = refl
labels_set zero (x ∷ xs) d v h g e = ap (λ z. z ∷ map label xs) (e ∙ ap label g)
labels_set (suc k) (x ∷ xs) d v h g e = ap (λ z. label x ∷ z) (labels_set k xs d v (omega (arith, h)) g e)

pub sent_none : (n : ℕ) (xs : List StreamTokens) → Sent n xs [] xs
sent_none n xs j = sym (append-nil (item j xs))

pub sent_then : (n : ℕ) (xs ys zs : List StreamTokens) (es fs : List Event) → Sent n xs es ys → Sent n ys fs zs → Sent n xs (es ++ fs) zs
sent_then n xs ys zs es fs a b j =
    b j ∙ ap (λ z. z ++ pick (n + j) fs) (a j) ∙ append_assoc (item j xs) (pick (n + j) es) (pick (n + j) fs)
    ∙ ap (λ z. item j xs ++ z) (sym (pick_append (n + j) es fs))

-- a new stream
pub sent_new : (n : ℕ) (xs : List StreamTokens) (v : StreamTokens) (c : ℕ) → n + length xs ≡ c → Sent n xs (to c v.tokens.items) (xs ++ (v ∷ []))
sent_new n xs v c e j =
    subst (λ z. item j (xs ++ (v ∷ [])) ≡ item j xs ++ pick (n + j) (to z v.tokens.items)) e (on j xs ∙ ap (λ z. item j xs ++ z) (shift j (length xs) v.tokens.items))
  where
    up : (j k : ℕ) (ts : List Token) → pick j (to k ts) ≡ pick (suc j) (to (suc k) ts)
    up j k [] = refl
    up j k (t ∷ ts) =
        ap (λ b. cond b (t ∷ pick j (to k ts)) (pick j (to k ts))) (sym (eq_suc j k)) ∙ ap (λ z. cond (suc j == suc k) (t ∷ z) z) (up j k ts)

    shift : (j k : ℕ) (ts : List Token) → pick j (to k ts) ≡ pick (n + j) (to (n + k) ts)
    shift j k [] = refl
    shift j k (t ∷ ts) =
        ap (λ b. cond b (t ∷ pick j (to k ts)) (pick j (to k ts))) (sym (eq_plus n j k)) ∙ ap (λ z. cond (n + j == n + k) (t ∷ z) z) (shift j k ts)

    on : (j : ℕ) (xs : List StreamTokens) → item j (xs ++ (v ∷ [])) ≡ item j xs ++ pick j (to (length xs) v.tokens.items)
    on zero [] = sym (pick_own 0 v.tokens.items)
    on (suc j) [] = sym (pick_other (suc j) 0 v.tokens.items (eq_one j))
    on zero (x ∷ xs) =
        sym (append-nil x.tokens.items) ∙ ap (λ z. x.tokens.items ++ z) (sym (pick_other 0 (suc (length xs)) v.tokens.items (eq_zero (length xs))))
    on (suc j) (x ∷ xs) = on j xs ∙ ap (λ z. item j xs ++ z) (up j (length xs) v.tokens.items)

map_snoc : (n : ℕ) (xs : List Frame) (f : Frame) (t : Token) → sends_all n (xs ++ (f ∷ [])) t ≡ sends_all n xs t ++ ((n + f.stream, t) ∷ [])
map_snoc n [] f t = refl
map_snoc n (x ∷ xs) f t = ap (λ z. (n + x.stream, t) ∷ z) (map_snoc n xs f t)

-- one more stream ends
pub ends_step : (n : ℕ) (fs : List Frame) (i : ℕ) (d : Frame) (t : Token) (xs ys zs : List StreamTokens) → i < length fs
    → Sent n xs (sends_all n (take i fs) t) ys → Sent n ys ((n + (get_or fs i d).stream, t) ∷ []) zs → Sent n xs (sends_all n (take (i + 1) fs) t) zs
ends_step n fs i d t xs ys zs h a b =
    let e : i + 1 ≡ suc i = omega arith in
    subst (λ es. Sent n xs es zs) (sym (ap (λ z. sends_all n (take z fs) t) e ∙ ap (λ z. sends_all n z t) (take-suc fs i d h) ∙ map_snoc n (take i fs) (get_or fs i d) t))
    (sent_then n xs ys zs (sends_all n (take i fs) t) ((n + (get_or fs i d).stream, t) ∷ []) a b)

swap_same : (n j : ℕ) (xs : List Frame) (t : Token) (es : List Token) → pick j (sends_all n xs t) ++ (t ∷ es) ≡ t ∷ (pick j (sends_all n xs t) ++ es)
swap_same n j [] t es = refl
swap_same n j (x ∷ xs) t es = by (j == n + x.stream) (swap_same n j xs t es)
  where
    by : (b : Bool) → pick j (sends_all n xs t) ++ (t ∷ es) ≡ t ∷ (pick j (sends_all n xs t) ++ es)
        → cond b (t ∷ pick j (sends_all n xs t)) (pick j (sends_all n xs t)) ++ (t ∷ es) ≡ t ∷ (cond b (t ∷ pick j (sends_all n xs t)) (pick j (sends_all n xs t)) ++ es)
    by true h = ap (λ z. t ∷ z) h
    by false h = h

ends_on : (n j : ℕ) (fs : List (ℕ × Mode)) (xs : List Frame) (t : Token) → pick j (all_end (frames_on n fs xs) t) ≡ pick j (sends_all n xs t) ++ pick j (all_end fs t)
ends_on n j fs [] t = refl
ends_on n j fs (x ∷ xs) t = ends_on n j (frame_view n x ∷ fs) xs t ∙ by (j == n + x.stream)
  where
    by : (b : Bool) → pick j (sends_all n xs t) ++ cond b (t ∷ pick j (all_end fs t)) (pick j (all_end fs t)) ≡ cond b (t ∷ pick j (sends_all n xs t)) (pick j (sends_all n xs t)) ++ pick j (all_end fs t)
    by true = swap_same n j xs t (pick j (all_end fs t))
    by false = refl

-- in the order of the definition
pub sent_ends : (n : ℕ) (xs ys : List StreamTokens) (around : List Frame) (t : Token) → Sent n xs (sends_all n around t) ys
    → Sent n xs (all_end (frames_view n around) t) ys
sent_ends n xs ys around t h j = h j ∙ ap (λ z. item j xs ++ z) (sym (ends_on n (n + j) [] around t ∙ append-nil _))

pub frames_snoc : (n : ℕ) (fs : List (ℕ × Mode)) (xs : List Frame) (f : Frame) → frames_on n fs (xs ++ (f ∷ [])) ≡ frame_view n f ∷ frames_on n fs xs
frames_snoc n fs [] f = refl
frames_snoc n fs (x ∷ xs) f = frames_snoc n (frame_view n x ∷ fs) xs f

pub frames_length : (n : ℕ) (fs : List (ℕ × Mode)) (xs : List Frame) → length (frames_on n fs xs) ≡ length fs + length xs
frames_length n fs [] = omega arith
frames_length n fs (x ∷ xs) = let e = frames_length n (frame_view n x ∷ fs) xs in omega (arith, e)

map_append : {A B : Type 0} (f : A → B) (xs ys : List A) → map f (xs ++ ys) ≡ map f xs ++ map f ys
map_append f [] ys = refl
map_append f (x ∷ xs) ys = ap (λ z. f x ∷ z) (map_append f xs ys)

pub sent_open : (n : ℕ) (xs ys : List StreamTokens) (v : StreamTokens) (b : StreamOf) (ts : List Token) → ys ≡ xs ++ (v ∷ []) → stream_view v ≡ b
    → b.tokens ≡ ts → Sent n xs (to (n + length xs) ts) ys
sent_open n xs ys v b ts e f g =
    let is : v.tokens.items ≡ ts = ap (λ z. z.tokens) f ∙ g in
    subst (Sent n xs (to (n + length xs) ts)) (sym e) (subst (λ z. Sent n xs (to (n + length xs) z) (xs ++ (v ∷ []))) is (sent_new n xs v (n + length xs) refl))

-- a stream without its tokens
abbrev bare : StreamOf → StreamOf
bare b = record { stream = b.stream; text = b.text; outer = b.outer; level = b.level; kind = b.kind; tokens = [] }

pub labels_open : (xs ys : List StreamTokens) (v : StreamTokens) (b c : StreamOf) → ys ≡ xs ++ (v ∷ []) → stream_view v ≡ b → bare b ≡ c
    → map label ys ≡ map label xs ++ (c ∷ [])
labels_open xs ys v b c e f g = ap (map label) e ∙ map_append label xs (v ∷ []) ∙ ap (λ z. map label xs ++ (z ∷ [])) (ap bare f ∙ g)

-- the level of a procedure
pub level_is : (n : ℕ) (xs : List Frame) → length xs + 1 ≡ length (frames_view n xs) + 1
level_is n xs = let e = frames_length n [] xs in omega (arith, e)

-- behind a procedure
pub leave_some : (n k c : ℕ) (xs ys : List Frame) (f : Frame) → xs ≡ ys ++ (f ∷ [])
    → state (n + f.stream) c (frames_view n ys) (amid f.mode) ≡ out_of k c (frames_view n xs)
leave_some n k c xs ys f e = sym (ap (λ z. out_of k c z) (ap (frames_view n) e ∙ frames_snoc n [] ys f))

pub leave_none : (n k c : ℕ) (xs ys : List Frame) → xs ≡ [] → ys ≡ xs
    → state k c (frames_view n ys) (amid Free) ≡ out_of k c (frames_view n xs)
leave_none n k c xs ys e f = ap (λ z. state k c (frames_view n z) (amid Free)) (f ∙ e) ∙ ap (λ z. out_of k c (frames_view n z)) (sym e)

-- within a new block
pub block_state : (n n' i len len' k k' : ℕ) (m m' : Mode) (around around1 around' : List Frame) → n' ≡ n → k' ≡ k → m' ≡ m → i ≡ len
    → len' ≡ suc len → around1 ≡ around → around' ≡ around1 ++ (record { stream = k'; mode = m' } ∷ [])
    → state (n' + i) (n' + len') (frames_view n' around') (amid (Body 0)) ≡ state (n + len) (suc (n + len)) ((n + k, m) ∷ frames_view n around) (amid (Body 0))
block_state n n' i len len' k k' m m' around around1 around' en ek em ei el ea e =
    let count : n' + len' ≡ suc (n + len) = omega (arith, en, el) in
    let current : n' + i ≡ n + len = omega (arith, en, ei) in
    let frames : frames_view n' around' ≡ (n + k, m) ∷ frames_view n around =
    ap (λ z. frames_view z around') en ∙ ap (frames_view n) (e ∙ ap (λ z. z ++ (record { stream = k'; mode = m' } ∷ [])) ea) ∙ frames_snoc n [] around (record { stream = k'; mode = m' })
    ∙ ap (λ z. (n + z, m') ∷ frames_view n around) ek ∙ ap (λ z. (n + k, z) ∷ frames_view n around) em in
    ap (λ z. state z (n' + len') (frames_view n' around') (amid (Body 0))) current ∙ ap (λ z. state (n + len) z (frames_view n' around') (amid (Body 0))) count
    ∙ ap (λ z. state (n + len) (suc (n + len)) z (amid (Body 0))) frames

-- at the end of a text within a heading
pub heading_sent : (n k : ℕ) (xs a b ys : List StreamTokens) (t : Token) (ts : List Token) (ends : List Event) → Sent n xs ((k, t) ∷ []) a → Sent n a ends b
    → length b ≡ length xs → Sent n b (to (n + length b) ts) ys → Sent n xs ((k, t) ∷ (ends ++ to (n + length xs) ts)) ys
heading_sent n k xs a b ys t ts ends s1 s2 e s3 =
    sent_then n xs a ys ((k, t) ∷ []) (ends ++ to (n + length xs) ts) s1
    (sent_then n a b ys ends (to (n + length xs) ts) s2 (subst (λ z. Sent n b (to (n + z) ts) ys) e s3))
