-- Where the tokens that the cut still has to read can go.
use Rattle.std.proofs.Common.{◌≡◌, ◌≢◌, ℕ, zero, suc, Bool, true, false, List, [], ◌∷◌, ◌++◌, refl, sym, ap, ◌∙◌, subst, true≢false, append_assoc, ◌⊎◌, inl, inr, ◌==◌, eqb-true, cond, ◌<◌, ◌≤◌, arith, All}
use Rattle.std.proofs.lemmas.List.{append-nil}
use Rattle.std.proofs.lemmas.List.Elements.{All-head, All-tail, All-cons, All-nil, All-append}
use Rattle.m2_base.specs.declared.token.Token.{Token}
use Rattle.ll_grammar.specs.Sentences.{SameHead}
use Rattle.stream_split.specs.declared.sorts.Sort.{Sort}
use Rattle.stream_split.specs.declared.sorts.Sort.TheVariants.{Stop, Word, Procedure, Opener, Closer, Left, Right, Semicolon, Other}
use Rattle.stream_split.specs.declared.cutter.Mode.{Mode}
use Rattle.stream_split.specs.declared.cutter.Mode.TheVariants.{Free, Body}
use Rattle.stream_split.specs.Cut.{less, sort, Phase, amid, seen, heading, two_left, one_left, ended, State, state, next, goes, goes_by, events, after, Event, to, cut_at, end_at, pick, all_end, unless_stop, heading_goes, heading_next, amid_next, seen_next, closed, out_of}
use Rattle.stream_split.proofs.Picks.{pick_append, pick_own}

-- the tokens have these numbers
abbrev pub Numbered : ℕ → List Token → Type 0
Numbered n [] = Unit {0}
Numbered n (t ∷ ts) = (t.at ≡ n) × Numbered (suc n) ts

-- the number of the next stream
abbrev pub count : State → ℕ
count (state k c fs p) = c

pub all_map : {A : Type 0} {P Q : A → Type 0} (xs : List A) → ((x : A) → P x → Q x) → All P xs → All Q xs
all_map {A} {P} {Q} [] h a = All-nil Q
all_map {A} {P} {Q} (x ∷ xs) h a = All-cons Q x xs (h x (All-head P x xs a)) (all_map {P = P} {Q = Q} xs h (All-tail P x xs a))

abbrev pub InHeading : Phase → Type 0
InHeading (amid m) = ⊥
InHeading (seen m t) = ⊥
InHeading (heading m p hs) = Unit {0}
InHeading two_left = ⊥
InHeading one_left = ⊥
InHeading ended = ⊥

-- what the next token of a text does to a stream: it goes to the current one, to a new one from a heading, or it ends all
pub data Class (k c : ℕ) (p : Phase) (t : Token) (z : Sort) : Event → Type 0 where
  mine : {x : Token} → x.at ≡ t.at → Class k c p t z (k, x)
  fresh : {x : Token} → InHeading p → Class k c p t z (c, x)
  final : {j : ℕ} → z ≡ Stop → j < c → Class k c p t z (j, t)

Ends : ℕ → List (ℕ × Mode) → Type 0
Ends c fs = All (λ f. f.0 < c) fs

unless_all : (P : Event → Type 0) (z : Sort) (xs ys : List Event) → (z ≡ Stop → All P xs) → All P ys → All P (unless_stop z xs ys)
unless_all P Stop xs ys a b = a refl
unless_all P Word xs ys a b = b
unless_all P Procedure xs ys a b = b
unless_all P Opener xs ys a b = b
unless_all P Closer xs ys a b = b
unless_all P Left xs ys a b = b
unless_all P Right xs ys a b = b
unless_all P Semicolon xs ys a b = b
unless_all P Other xs ys a b = b

end_all : (k c : ℕ) (p : Phase) (t : Token) (z : Sort) (fs : List (ℕ × Mode)) → z ≡ Stop → All (λ f. f.0 < c) fs → All (Class k c p t z) (all_end fs t)
end_all k c p t z [] e a = All-nil (Class k c p t z)
end_all k c p t z (f ∷ fs) e a = All-cons (Class k c p t z) (f.0, t) (all_end fs t) (final e (All-head (λ f. f.0 < c) f fs a)) (end_all k c p t z fs e (All-tail (λ f. f.0 < c) f fs a))

fresh_all : (k c : ℕ) (p : Phase) (t : Token) (z : Sort) (ts : List Token) → InHeading p → All (Class k c p t z) (to c ts)
fresh_all k c p t z [] h = All-nil (Class k c p t z)
fresh_all k c p t z (x ∷ ts) h = All-cons (Class k c p t z) (c, x) (to c ts) (fresh h) (fresh_all k c p t z ts h)

heading_classes : (k c : ℕ) (fs : List (ℕ × Mode)) (m : Mode) (q : ℕ) (hs : List Token) (t : Token) (z : Sort) → All (λ f. f.0 < c) fs → All (Class k c (heading m q hs) t z) (heading_goes k c fs q hs t z)
heading_classes k c fs m q hs t Stop a = let P = Class k c (heading m q hs) t Stop in All-cons P (k, t) (all_end fs t ++ to c (hs ++ (t ∷ []))) (mine refl) (All-append P (all_end fs t) (to c (hs ++ (t ∷ []))) (end_all k c (heading m q hs) t Stop fs refl a) (fresh_all k c (heading m q hs) t Stop (hs ++ (t ∷ [])) tt))
heading_classes k c fs m zero hs t Semicolon a = let P = Class k c (heading m zero hs) t Semicolon in All-cons P (k, t) ((k, cut_at c t) ∷ to c (hs ++ (t ∷ []))) (mine refl) (All-cons P (k, cut_at c t) (to c (hs ++ (t ∷ []))) (mine refl) (fresh_all k c (heading m zero hs) t Semicolon (hs ++ (t ∷ [])) tt))
heading_classes k c fs m (suc q) hs t Semicolon a = let P = Class k c (heading m (suc q) hs) t Semicolon in All-cons P (k, t) [] (mine refl) (All-nil P)
heading_classes k c fs m q hs t Word a = let P = Class k c (heading m q hs) t Word in All-cons P (k, t) [] (mine refl) (All-nil P)
heading_classes k c fs m q hs t Procedure a = let P = Class k c (heading m q hs) t Procedure in All-cons P (k, t) [] (mine refl) (All-nil P)
heading_classes k c fs m q hs t Opener a = let P = Class k c (heading m q hs) t Opener in All-cons P (k, t) [] (mine refl) (All-nil P)
heading_classes k c fs m q hs t Closer a = let P = Class k c (heading m q hs) t Closer in All-cons P (k, t) [] (mine refl) (All-nil P)
heading_classes k c fs m q hs t Left a = let P = Class k c (heading m q hs) t Left in All-cons P (k, t) [] (mine refl) (All-nil P)
heading_classes k c fs m q hs t Right a = let P = Class k c (heading m q hs) t Right in All-cons P (k, t) [] (mine refl) (All-nil P)
heading_classes k c fs m q hs t Other a = let P = Class k c (heading m q hs) t Other in All-cons P (k, t) [] (mine refl) (All-nil P)

pub classes : (k c : ℕ) (fs : List (ℕ × Mode)) (p : Phase) (t : Token) (z : Sort) → All (λ f. f.0 < c) fs → All (Class k c p t z) (goes_by (state k c fs p) t z)
classes k c fs (amid m) t z a = let P = Class k c (amid m) t z in All-cons P (k, t) _ (mine refl) (unless_all P z _ _ (λ e. end_all k c (amid m) t z fs e a) (All-nil P))
classes k c fs (seen m u) t z a = let P = Class k c (seen m u) t z in All-cons P (k, t) _ (mine refl) (unless_all P z _ _ (λ e. end_all k c (seen m u) t z fs e a) (All-nil P))
classes k c fs (heading m q hs) t z a = heading_classes k c fs m q hs t z a
classes k c fs two_left t z a = let P = Class k c two_left t z in All-cons P (k, t) _ (mine refl) (unless_all P z _ _ (λ e. end_all k c two_left t z fs e a) (All-nil P))
classes k c fs one_left t z a = let P = Class k c one_left t z in All-cons P (k, t) _ (mine refl) (unless_all P z _ _ (λ e. end_all k c one_left t z fs e a) (All-cons P (k, end_at t) [] (mine refl) (All-nil P)))
classes k c fs ended t z a = All-nil (Class k c ended t z)

-- what holds of a stream's events holds of its tokens
pub all_pick : (P : Event → Type 0) (j : ℕ) (es : List Event) → All P es → All (λ x. P (j, x)) (pick j es)
all_pick P j [] a = All-nil (λ x. P (j, x))
all_pick P j (e ∷ es) a = by (j == e.0) refl (all_pick P j es (All-tail P e es a))
  where
    by : (b : Bool) → (j == e.0) ≡ b → All (λ x. P (j, x)) (pick j es) → All (λ x. P (j, x)) (cond b (e.1 ∷ pick j es) (pick j es))
    by true h r = All-cons (λ x. P (j, x)) e.1 (pick j es) (subst (λ n. P (n, e.1)) (sym (eqb-true j e.0 h)) (All-head P e es a)) r
    by false h r = r

all_none : (xs : List Token) → All (λ x. ⊥) xs → xs ≡ []
all_none [] a = refl
all_none (x ∷ xs) a = absurd (All-head (λ x. ⊥) x xs a)

-- a stream that has begun, and one that is not the current one, and one that has not
class_old : {k c : ℕ} {p : Phase} {t : Token} {z : Sort} {e : Event} → Class k c p t z e → e.0 < c → (e.1).at ≡ t.at
class_old (mine h) l = h
class_old (fresh h) l = omega (arith, l)
class_old (final h n) l = refl

class_other : {k c : ℕ} {p : Phase} {t : Token} {z : Sort} {e : Event} → Class k c p t z e → e.0 < c → (e.0 ≡ k → ⊥) → (e.1 ≡ t) × (z ≡ Stop)
class_other (mine h) l n = absurd (n refl)
class_other (fresh h) l n = let no : ⊥ = omega (arith, l) in absurd no
class_other (final h n) l m = (refl, h)

class_new : {k c : ℕ} {p : Phase} {t : Token} {z : Sort} {e : Event} → Class k c p t z e → k < c → c ≤ e.0 → (InHeading p → e.0 ≡ c → ⊥) → ⊥
class_new (mine h) l i n = omega (arith, l, i)
class_new (fresh h) l i n = n h refl
class_new (final h m) l i n = omega (arith, m, i)

-- what a token held before an identifier is
abbrev pub Held : Phase → Type 0
Held (amid m) = Unit {0}
Held (seen m t) = sort t.kind ≡ Procedure
Held (heading m p hs) = Unit {0}
Held two_left = Unit {0}
Held one_left = Unit {0}
Held ended = Unit {0}

pub data Well : State → Type 0 where
  well : {k c : ℕ} {fs : List (ℕ × Mode)} {p : Phase} → k < c → All (λ f. f.0 < c) fs → Held p → Well (state k c fs p)

held_closed : (m : Mode) → Held (closed m)
held_closed Free = tt
held_closed (Body zero) = tt
held_closed (Body (suc d)) = tt

held_amid : (m : Mode) (t : Token) (z : Sort) → sort t.kind ≡ z → Held (amid_next m t z)
held_amid m t Stop e = tt
held_amid m t Word e = tt
held_amid m t Procedure e = e
held_amid m t Opener e = tt
held_amid m t Closer e = held_closed m
held_amid m t Left e = tt
held_amid m t Right e = tt
held_amid m t Semicolon e = tt
held_amid m t Other e = tt

held_seen : (m : Mode) (u t : Token) (z : Sort) → sort t.kind ≡ z → Held (seen_next m u t z)
held_seen m u t Stop e = tt
held_seen m u t Word e = tt
held_seen m u t Procedure e = e
held_seen m u t Opener e = tt
held_seen m u t Closer e = held_closed m
held_seen m u t Left e = tt
held_seen m u t Right e = tt
held_seen m u t Semicolon e = tt
held_seen m u t Other e = tt

pub more_below : (c : ℕ) (fs : List (ℕ × Mode)) → All (λ f. f.0 < c) fs → All (λ f. f.0 < suc c) fs
more_below c fs a = all_map {P = λ f. f.0 < c} {Q = λ f. f.0 < suc c} fs (λ f h. omega (arith, h)) a

well_heading : (k c : ℕ) (fs : List (ℕ × Mode)) (m : Mode) (q : ℕ) (hs : List Token) (t : Token) (z : Sort) → k < c → All (λ f. f.0 < c) fs → Well (heading_next k c fs m q hs t z)
well_heading k c fs m q hs t Stop l a = well (omega (arith, l)) (more_below c fs a) tt
well_heading k c fs m zero hs t Semicolon l a = well (omega arith) (All-cons (λ f. f.0 < suc c) (k, m) fs (omega (arith, l)) (more_below c fs a)) tt
well_heading k c fs m (suc q) hs t Semicolon l a = well l a tt
well_heading k c fs m q hs t Word l a = well l a tt
well_heading k c fs m q hs t Procedure l a = well l a tt
well_heading k c fs m q hs t Opener l a = well l a tt
well_heading k c fs m q hs t Closer l a = well l a tt
well_heading k c fs m q hs t Left l a = well l a tt
well_heading k c fs m q hs t Right l a = well l a tt
well_heading k c fs m q hs t Other l a = well l a tt

well_out : (k c : ℕ) (fs : List (ℕ × Mode)) → k < c → All (λ f. f.0 < c) fs → Well (out_of k c fs)
well_out k c [] l a = well l a tt
well_out k c (f ∷ fs) l a = well (All-head (λ f. f.0 < c) f fs a) (All-tail (λ f. f.0 < c) f fs a) tt

unless_well : (z : Sort) (s s' : State) → Well s → Well s' → Well (unless_stop z s s')
unless_well Stop s s' a b = a
unless_well Word s s' a b = b
unless_well Procedure s s' a b = b
unless_well Opener s s' a b = b
unless_well Closer s s' a b = b
unless_well Left s s' a b = b
unless_well Right s s' a b = b
unless_well Semicolon s s' a b = b
unless_well Other s s' a b = b

unless_held : (z : Sort) (p q : Phase) → Held p → Held q → Held (unless_stop z p q)
unless_held Stop s s' a b = a
unless_held Word s s' a b = b
unless_held Procedure s s' a b = b
unless_held Opener s s' a b = b
unless_held Closer s s' a b = b
unless_held Left s s' a b = b
unless_held Right s s' a b = b
unless_held Semicolon s s' a b = b
unless_held Other s s' a b = b

pub well_next : (s : State) (t : Token) → Well s → Well (next s t)
well_next _ t (well {k = k} {c = c} {fs = fs} {p = amid m} l a h) = well l a (held_amid m t (sort t.kind) refl)
well_next _ t (well {k = k} {c = c} {fs = fs} {p = seen m u} l a h) = well l a (held_seen m u t (sort t.kind) refl)
well_next _ t (well {k = k} {c = c} {fs = fs} {p = heading m q hs} l a h) = well_heading k c fs m q hs t (sort t.kind) l a
well_next _ t (well {k = k} {c = c} {fs = fs} {p = two_left} l a h) = well l a (unless_held (sort t.kind) ended one_left tt tt)
well_next _ t (well {k = k} {c = c} {fs = fs} {p = one_left} l a h) = unless_well (sort t.kind) (state k c fs ended) (out_of k c fs) (well l a tt) (well_out k c fs l a)
well_next _ t (well {k = k} {c = c} {fs = fs} {p = ended} l a h) = well l a tt

pub well_after : (s : State) (ts : List Token) → Well s → Well (after s ts)
well_after s [] w = w
well_after s (t ∷ ts) w = well_after (next s t) ts (well_next s t w)

count_heading : (k c : ℕ) (fs : List (ℕ × Mode)) (m : Mode) (q : ℕ) (hs : List Token) (t : Token) (z : Sort) → c ≤ count (heading_next k c fs m q hs t z)
count_heading k c fs m q hs t Stop = omega arith
count_heading k c fs m zero hs t Semicolon = omega arith
count_heading k c fs m (suc q) hs t Semicolon = omega arith
count_heading k c fs m q hs t Word = omega arith
count_heading k c fs m q hs t Procedure = omega arith
count_heading k c fs m q hs t Opener = omega arith
count_heading k c fs m q hs t Closer = omega arith
count_heading k c fs m q hs t Left = omega arith
count_heading k c fs m q hs t Right = omega arith
count_heading k c fs m q hs t Other = omega arith

pub count_out : (k c : ℕ) (fs : List (ℕ × Mode)) → count (out_of k c fs) ≡ c
count_out k c [] = refl
count_out k c (f ∷ fs) = refl

pub unless_count : (z : Sort) (s s' : State) (c : ℕ) → count s ≡ c → count s' ≡ c → count (unless_stop z s s') ≡ c
unless_count Stop s s' c a b = a
unless_count Word s s' c a b = b
unless_count Procedure s s' c a b = b
unless_count Opener s s' c a b = b
unless_count Closer s s' c a b = b
unless_count Left s s' c a b = b
unless_count Right s s' c a b = b
unless_count Semicolon s s' c a b = b
unless_count Other s s' c a b = b

pub count_next : (s : State) (t : Token) → count s ≤ count (next s t)
count_next (state k c fs (amid m)) t = omega arith
count_next (state k c fs (seen m u)) t = omega arith
count_next (state k c fs (heading m q hs)) t = count_heading k c fs m q hs t (sort t.kind)
count_next (state k c fs two_left) t = omega arith
count_next (state k c fs one_left) t = let e = unless_count (sort t.kind) (state k c fs ended) (out_of k c fs) c refl (count_out k c fs) in omega (arith, e)
count_next (state k c fs ended) t = omega arith

goes_old : (i : ℕ) (s : State) (t : Token) → Well s → i < count s → All (λ x. x.at ≡ t.at) (pick i (goes s t))
goes_old i _ t (well {k = k} {c = c} {fs = fs} {p = p} l a h) n = all_map {P = λ x. Class k c p t (sort t.kind) (i, x)} {Q = λ x. x.at ≡ t.at} (pick i (goes (state k c fs p) t)) (λ x q. class_old q n) (all_pick (Class k c p t (sort t.kind)) i _ (classes k c fs p t (sort t.kind) a))

-- what comes to a stream that has begun is not before the next token
pub old : (i : ℕ) (s : State) (ts : List Token) (m : ℕ) → Well s → i < count s → Numbered m ts → All (λ x. m ≤ x.at) (pick i (events s ts))
old i s [] m w n h = All-nil (λ x. m ≤ x.at)
old i s (t ∷ ts) m w n h =
    let a = all_map {P = λ x. x.at ≡ t.at} {Q = λ x. m ≤ x.at} (pick i (goes s t)) (λ x q. omega (arith, q, h.0)) (goes_old i s t w n) in
    let c = count_next s t in
    let r = all_map {P = λ x. suc m ≤ x.at} {Q = λ x. m ≤ x.at} (pick i (events (next s t) ts)) (λ x q. omega (arith, q)) (old i (next s t) ts (suc m) (well_next s t w) (omega (arith, n, c)) h.1) in
    subst (All (λ x. m ≤ x.at)) (sym (pick_append i (goes s t) (events (next s t) ts))) (All-append (λ x. m ≤ x.at) (pick i (goes s t)) (pick i (events (next s t) ts)) a r)

abbrev pub current : State → ℕ
current (state k c fs p) = k

abbrev pub phase : State → Phase
phase (state k c fs p) = p

-- what comes to a stream that has begun and is not the current one is behind the next token, or the end of all
pub around : (i : ℕ) (s : State) (t : Token) (ts : List Token) (m : ℕ) → Well s → i < count s → (i ≡ current s → ⊥) → Numbered m (t ∷ ts) → All (λ x. (m < x.at) ⊎ ((x ≡ t) × (sort t.kind ≡ Stop))) (pick i (events s (t ∷ ts)))
around i s t ts m w n o h =
    let a = first w n o in
    let c = count_next s t in
    let r = all_map {P = λ x. suc m ≤ x.at} {Q = λ x. (m < x.at) ⊎ ((x ≡ t) × (sort t.kind ≡ Stop))} (pick i (events (next s t) ts)) (λ x q. inl (omega (arith, q))) (old i (next s t) ts (suc m) (well_next s t w) (omega (arith, n, c)) h.1) in
    subst (All (λ x. (m < x.at) ⊎ ((x ≡ t) × (sort t.kind ≡ Stop)))) (sym (pick_append i (goes s t) (events (next s t) ts))) (All-append (λ x. (m < x.at) ⊎ ((x ≡ t) × (sort t.kind ≡ Stop))) (pick i (goes s t)) (pick i (events (next s t) ts)) a r)
  where
    first : {s : State} → Well s → i < count s → (i ≡ current s → ⊥) → All (λ x. (m < x.at) ⊎ ((x ≡ t) × (sort t.kind ≡ Stop))) (pick i (goes s t))
    first (well {k = k} {c = c} {fs = fs} {p = p} l a h) n o = all_map {P = λ x. Class k c p t (sort t.kind) (i, x)} {Q = λ x. (m < x.at) ⊎ ((x ≡ t) × (sort t.kind ≡ Stop))} (pick i (goes (state k c fs p) t)) (λ x q. inr (class_other q n o)) (all_pick (Class k c p t (sort t.kind)) i _ (classes k c fs p t (sort t.kind) a))

-- what comes to the stream of a heading
pub record Begins_with (hs ts rest : List Token) (m : ℕ) : Type 0 where
  pub more : List Token
  pub is : ts ≡ hs ++ more
  pub late : All (λ x. m ≤ x.at) more
  pub next_is : SameHead rest more

ended_none : (k c : ℕ) (fs : List (ℕ × Mode)) (ts : List Token) → events (state k c fs ended) ts ≡ []
ended_none k c fs [] = refl
ended_none k c fs (t ∷ ts) = ended_none k c fs ts

pub pick_skip : (j k : ℕ) (t : Token) (es : List Event) → (j == k) ≡ false → pick j ((k, t) ∷ es) ≡ pick j es
pick_skip j k t es h = ap (λ b. cond b (t ∷ pick j es) (pick j es)) h

same_num : (j : ℕ) → (j == j) ≡ true
same_num j = grind arith

pub apart : (j k : ℕ) → k < j → (j == k) ≡ false
apart j k h = grind arith

pub pick_ends : (c : ℕ) (fs : List (ℕ × Mode)) (t : Token) → All (λ f. f.0 < c) fs → pick c (all_end fs t) ≡ []
pick_ends c [] t a = refl
pick_ends c (f ∷ fs) t a = pick_skip c f.0 t (all_end fs t) (apart c f.0 (All-head (λ f. f.0 < c) f fs a)) ∙ pick_ends c fs t (All-tail (λ f. f.0 < c) f fs a)

abbrev pub HeadingGets : (c : ℕ) (hs : List Token) (es : List Event) (rest : List Token) (a : ℕ) → Type 0
HeadingGets c hs es rest a = (pick c es ≡ []) ⊎ Begins_with hs (pick c es) rest a

one_on : (k c : ℕ) (t : Token) (hs ts : List Token) (es : List Event) (a : ℕ) → k < c → t.at ≡ a → HeadingGets c (hs ++ (t ∷ [])) es ts (suc a) → HeadingGets c hs ((k, t) ∷ es) (t ∷ ts) a
one_on k c t hs ts es a l n (inl h) = inl (pick_skip c k t es (apart c k l) ∙ h)
one_on k c t hs ts es a l n (inr h) = inr (record { more = t ∷ h.more; is = pick_skip c k t es (apart c k l) ∙ h.is ∙ append_assoc hs (t ∷ []) h.more; late = All-cons (λ x. a ≤ x.at) t h.more (omega (arith, n)) (all_map {P = λ x. suc a ≤ x.at} {Q = λ x. a ≤ x.at} h.more (λ x q. omega (arith, q)) h.late); next_is = refl })

heading_step : (k c : ℕ) (fs : List (ℕ × Mode)) (m : Mode) (q : ℕ) (hs : List Token) (t : Token) (ts : List Token) (a : ℕ) (z : Sort) → k < c → All (λ f. f.0 < c) fs → t.at ≡ a → Numbered (suc a) ts →
    ((q' : ℕ) → HeadingGets c (hs ++ (t ∷ [])) (events (state k c fs (heading m q' (hs ++ (t ∷ [])))) ts) ts (suc a)) →
    HeadingGets c hs (heading_goes k c fs q hs t z ++ events (heading_next k c fs m q hs t z) ts) (t ∷ ts) a
heading_step k c fs m q hs t ts a Stop l g n h r =
    let es : List Event = all_end fs t ++ to c (hs ++ (t ∷ [])) in
    inr (record {
      more = t ∷ [];
      is = pick_skip c k t (es ++ events (state k (suc c) fs ended) ts) (apart c k l) ∙ ap (λ z. pick c (es ++ z)) (ended_none k (suc c) fs ts) ∙ ap (pick c) (append-nil es) ∙ pick_append c (all_end fs t) (to c (hs ++ (t ∷ []))) ∙ ap (λ z. z ++ pick c (to c (hs ++ (t ∷ [])))) (pick_ends c fs t g) ∙ pick_own c (hs ++ (t ∷ []));
      late = All-cons (λ x. a ≤ x.at) t [] (omega (arith, n)) (All-nil (λ x. a ≤ x.at));
      next_is = refl;
    })
heading_step k c fs m zero hs t ts a Semicolon l g n h r =
    let es = events (state c (suc c) ((k, m) ∷ fs) (amid (Body 0))) ts in
    let hs' : List Token = hs ++ (t ∷ []) in
    let f = old c (state c (suc c) ((k, m) ∷ fs) (amid (Body 0))) ts (suc a) (well (omega arith) (All-cons (λ f. f.0 < suc c) (k, m) fs (omega (arith, l)) (more_below c fs g)) tt) (omega arith) h in
    inr (record {
      more = t ∷ pick c es;
      is = pick_skip c k t ((k, cut_at c t) ∷ (to c hs' ++ es)) (apart c k l) ∙ pick_skip c k (cut_at c t) (to c hs' ++ es) (apart c k l) ∙ pick_append c (to c hs') es ∙ ap (λ z. z ++ pick c es) (pick_own c hs') ∙ append_assoc hs (t ∷ []) (pick c es);
      late = All-cons (λ x. a ≤ x.at) t (pick c es) (omega (arith, n)) (all_map {P = λ x. suc a ≤ x.at} {Q = λ x. a ≤ x.at} (pick c es) (λ x q. omega (arith, q)) f);
      next_is = refl;
    })
heading_step k c fs m (suc q) hs t ts a Semicolon l g n h r = one_on k c t hs ts _ a l n (r (suc q))
heading_step k c fs m q hs t ts a Word l g n h r = one_on k c t hs ts _ a l n (r q)
heading_step k c fs m q hs t ts a Procedure l g n h r = one_on k c t hs ts _ a l n (r q)
heading_step k c fs m q hs t ts a Opener l g n h r = one_on k c t hs ts _ a l n (r q)
heading_step k c fs m q hs t ts a Closer l g n h r = one_on k c t hs ts _ a l n (r q)
heading_step k c fs m q hs t ts a Left l g n h r = one_on k c t hs ts _ a l n (r (suc q))
heading_step k c fs m q hs t ts a Right l g n h r = one_on k c t hs ts _ a l n (r (less q))
heading_step k c fs m q hs t ts a Other l g n h r = one_on k c t hs ts _ a l n (r q)

pub heading_gets : (ts : List Token) (k c : ℕ) (fs : List (ℕ × Mode)) (m : Mode) (q : ℕ) (hs : List Token) (a : ℕ) → k < c → All (λ f. f.0 < c) fs → Numbered a ts → HeadingGets c hs (events (state k c fs (heading m q hs)) ts) ts a
heading_gets [] k c fs m q hs a l g n = inl refl
heading_gets (t ∷ ts) k c fs m q hs a l g n = heading_step k c fs m q hs t ts a (sort t.kind) l g n.0 n.1 (λ q'. heading_gets ts k c fs m q' (hs ++ (t ∷ [])) (suc a) l g n.1)

-- how a step bears on streams that have not begun
pub data Move (s : State) (t : Token) (s' : State) : Type 0 where
  calm : count s' ≡ count s → (InHeading (phase s') → ⊥) → Move s t s'
  begins : {k c : ℕ} {fs : List (ℕ × Mode)} {m : Mode} {u : Token} → sort u.kind ≡ Procedure → sort t.kind ≡ Word → count s ≡ c → k < c → All (λ f. f.0 < c) fs → s' ≡ state k c fs (heading m 0 (u ∷ t ∷ [])) → Move s t s'
  stays : count s' ≡ count s → InHeading (phase s) → Move s t s'
  leaves : count s' ≡ suc (count s) → (InHeading (phase s') → ⊥) → InHeading (phase s) → Move s t s'

calm_closed : (m : Mode) → InHeading (closed m) → ⊥
calm_closed Free h = h
calm_closed (Body zero) h = h
calm_closed (Body (suc d)) h = h

calm_amid : (m : Mode) (t : Token) (z : Sort) → InHeading (amid_next m t z) → ⊥
calm_amid m t Stop h = h
calm_amid m t Word h = h
calm_amid m t Procedure h = h
calm_amid m t Opener h = h
calm_amid m t Closer h = calm_closed m h
calm_amid m t Left h = h
calm_amid m t Right h = h
calm_amid m t Semicolon h = h
calm_amid m t Other h = h

move_seen : (k c : ℕ) (fs : List (ℕ × Mode)) (m : Mode) (u t : Token) (z : Sort) → sort t.kind ≡ z → sort u.kind ≡ Procedure → k < c → All (λ f. f.0 < c) fs → Move (state k c fs (seen m u)) t (state k c fs (seen_next m u t z))
move_seen k c fs m u t Stop e h l a = calm refl (calm_amid m t Stop)
move_seen k c fs m u t Word e h l a = begins h e refl l a refl
move_seen k c fs m u t Procedure e h l a = calm refl (calm_amid m t Procedure)
move_seen k c fs m u t Opener e h l a = calm refl (calm_amid m t Opener)
move_seen k c fs m u t Closer e h l a = calm refl (calm_amid m t Closer)
move_seen k c fs m u t Left e h l a = calm refl (calm_amid m t Left)
move_seen k c fs m u t Right e h l a = calm refl (calm_amid m t Right)
move_seen k c fs m u t Semicolon e h l a = calm refl (calm_amid m t Semicolon)
move_seen k c fs m u t Other e h l a = calm refl (calm_amid m t Other)

move_heading : (k c : ℕ) (fs : List (ℕ × Mode)) (m : Mode) (q : ℕ) (hs : List Token) (t : Token) (z : Sort) → Move (state k c fs (heading m q hs)) t (heading_next k c fs m q hs t z)
move_heading k c fs m q hs t Stop = leaves refl (λ h. h) tt
move_heading k c fs m zero hs t Semicolon = leaves refl (λ h. h) tt
move_heading k c fs m (suc q) hs t Semicolon = stays refl tt
move_heading k c fs m q hs t Word = stays refl tt
move_heading k c fs m q hs t Procedure = stays refl tt
move_heading k c fs m q hs t Opener = stays refl tt
move_heading k c fs m q hs t Closer = stays refl tt
move_heading k c fs m q hs t Left = stays refl tt
move_heading k c fs m q hs t Right = stays refl tt
move_heading k c fs m q hs t Other = stays refl tt

calm_two : (z : Sort) → InHeading (unless_stop z ended one_left) → ⊥
calm_two Stop h = h
calm_two Word h = h
calm_two Procedure h = h
calm_two Opener h = h
calm_two Closer h = h
calm_two Left h = h
calm_two Right h = h
calm_two Semicolon h = h
calm_two Other h = h

move_out : (k c : ℕ) (fs : List (ℕ × Mode)) (t : Token) → Move (state k c fs one_left) t (out_of k c fs)
move_out k c [] t = calm refl (λ h. h)
move_out k c (f ∷ fs) t = calm refl (λ h. h)

move_one : (k c : ℕ) (fs : List (ℕ × Mode)) (t : Token) (z : Sort) → Move (state k c fs one_left) t (unless_stop z (state k c fs ended) (out_of k c fs))
move_one k c fs t Stop = calm refl (λ h. h)
move_one k c fs t Word = move_out k c fs t
move_one k c fs t Procedure = move_out k c fs t
move_one k c fs t Opener = move_out k c fs t
move_one k c fs t Closer = move_out k c fs t
move_one k c fs t Left = move_out k c fs t
move_one k c fs t Right = move_out k c fs t
move_one k c fs t Semicolon = move_out k c fs t
move_one k c fs t Other = move_out k c fs t

move : (s : State) (t : Token) → Well s → Move s t (next s t)
move _ t (well {k = k} {c = c} {fs = fs} {p = amid m} l a h) = calm refl (calm_amid m t (sort t.kind))
move _ t (well {k = k} {c = c} {fs = fs} {p = seen m u} l a h) = move_seen k c fs m u t (sort t.kind) refl h l a
move _ t (well {k = k} {c = c} {fs = fs} {p = heading m q hs} l a h) = move_heading k c fs m q hs t (sort t.kind)
move _ t (well {k = k} {c = c} {fs = fs} {p = two_left} l a h) = calm refl (calm_two (sort t.kind))
move _ t (well {k = k} {c = c} {fs = fs} {p = one_left} l a h) = move_one k c fs t (sort t.kind)
move _ t (well {k = k} {c = c} {fs = fs} {p = ended} l a h) = calm refl (λ h. h)

pub goes_new : (i : ℕ) (s : State) (t : Token) → Well s → count s ≤ i → (InHeading (phase s) → i ≡ count s → ⊥) → pick i (goes s t) ≡ []
goes_new i _ t (well {k = k} {c = c} {fs = fs} {p = p} l a h) n o = all_none (pick i (goes (state k c fs p) t)) (all_map {P = λ x. Class k c p t (sort t.kind) (i, x)} {Q = λ x. ⊥} (pick i (goes (state k c fs p) t)) (λ x q. class_new q l n o) (all_pick (Class k c p t (sort t.kind)) i _ (classes k c fs p t (sort t.kind) a)))

-- what comes to a stream that has not begun: nothing, or a PROCEDURE, an identifier, and what lies behind the next token
pub record Fresh (ts : List Token) (m : ℕ) : Type 0 where
  pub t0 : Token
  pub t1 : Token
  pub more : List Token
  pub is : ts ≡ t0 ∷ t1 ∷ more
  pub first : sort t0.kind ≡ Procedure
  pub second : sort t1.kind ≡ Word
  pub late : All (λ x. m < x.at) more

fresh_less : (ts ts' : List Token) (m : ℕ) → ts' ≡ ts → (ts ≡ []) ⊎ Fresh ts (suc m) → (ts' ≡ []) ⊎ Fresh ts' m
fresh_less ts ts' m e (inl h) = inl (e ∙ h)
fresh_less ts ts' m e (inr h) = inr (record { t0 = h.t0; t1 = h.t1; more = h.more; is = e ∙ h.is; first = h.first; second = h.second; late = all_map {P = λ x. suc m < x.at} {Q = λ x. m < x.at} h.more (λ x q. omega (arith, q)) h.late })

pub new : (i : ℕ) (s : State) (ts : List Token) (m : ℕ) → Well s → count s ≤ i → (InHeading (phase s) → i ≡ count s → ⊥) → Numbered m ts → (pick i (events s ts) ≡ []) ⊎ Fresh (pick i (events s ts)) m
new i s [] m w n o h = inl refl
new i s (t ∷ ts) m w n o h =
    on (move s t w) (pick_append i (goes s t) (events (next s t) ts) ∙ ap (λ z. z ++ pick i (events (next s t) ts)) (goes_new i s t w n o)) (λ n' o'. new i (next s t) ts (suc m) (well_next s t w) n' o' h.1)
  where
    on : {s' : State} → Move s t s' → pick i (events s (t ∷ ts)) ≡ pick i (events s' ts) → (count s' ≤ i → (InHeading (phase s') → i ≡ count s' → ⊥) → (pick i (events s' ts) ≡ []) ⊎ Fresh (pick i (events s' ts)) (suc m)) → (pick i (events s (t ∷ ts)) ≡ []) ⊎ Fresh (pick i (events s (t ∷ ts))) m
    on {s'} (calm c g) e r = fresh_less _ _ m e (r (omega (arith, n, c)) (λ y z. g y))
    on {s'} (stays c g) e r = fresh_less _ _ m e (r (omega (arith, n, c)) (λ y z. o g (z ∙ c)))
    on {s'} (leaves c g g') e r = let n' : i ≢ count s = o g' in fresh_less _ _ m e (r (omega (arith, n, n', c)) (λ y z. g y))
    on {s'} (begins {k = k} {c = c} {fs = fs} {m = mm} {u = u} f1 f2 c' l a g) e r = choose (i == c) refl
      where
        fresh_of : HeadingGets c (u ∷ t ∷ []) (events s' ts) ts (suc m) → i ≡ c → (pick i (events s (t ∷ ts)) ≡ []) ⊎ Fresh (pick i (events s (t ∷ ts))) m
        fresh_of (inl y) z = inl (e ∙ ap (λ q. pick q (events s' ts)) z ∙ y)
        fresh_of (inr y) z = inr (record { t0 = u; t1 = t; more = y.more; is = e ∙ ap (λ q. pick q (events s' ts)) z ∙ y.is; first = f1; second = f2; late = all_map {P = λ x. suc m ≤ x.at} {Q = λ x. m < x.at} y.more (λ x q. omega (arith, q)) y.late })

        choose : (b : Bool) → (i == c) ≡ b → (pick i (events s (t ∷ ts)) ≡ []) ⊎ Fresh (pick i (events s (t ∷ ts))) m
        choose true q = fresh_of (subst (λ z. HeadingGets c (u ∷ t ∷ []) (events z ts) ts (suc m)) (sym g) (heading_gets ts k c fs mm 0 (u ∷ t ∷ []) (suc m) l a h.1)) (eqb-true i c q)
        choose false q = let cs : count s' ≡ c = ap count g in fresh_less _ _ m e (r (omega (arith, n, c', cs)) (λ y z. true≢false (sym (same_num i) ∙ ap (λ w. i == w) (z ∙ cs) ∙ q)))
