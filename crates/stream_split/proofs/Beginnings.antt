-- The procedures that the cut comes to are those that begin in the text.
use Rattle.std.proofs.Common.{◌≡◌, ℕ, zero, suc, Bool, true, false, true≢false, List, [], ◌∷◌, ◌++◌, refl, sym, ap, ◌∙◌, subst, length, ◌+◌, ◌-◌, ◌==◌, ◌&&◌, arith, if◌then◌else◌}
use Rattle.m2_base.specs.declared.kind.TokenKind.{TokenKind}
use Rattle.m2_base.specs.declared.kind.TokenKind.TheVariants as kinds
use Rattle.m2_base.specs.declared.token.Token.{Token}
use Rattle.m2_base.specs.Statics.BlockLimits.{Begun, in_block, in_heading, behind_end, behind_name, begun_in, begins_procedure, is_identifier, is_procedure_word, names_next, block_step, open_after}
use Rattle.m2_base.specs.Units.{AreNumbered, IsInner}
use Rattle.stream_split.specs.declared.sorts.Sort.{Sort}
use Rattle.stream_split.specs.declared.sorts.Sort.TheVariants.{Stop, Word, Procedure, Opener, Closer, Left, Right, Semicolon, Other}
use Rattle.stream_split.specs.declared.cutter.Mode.{Mode}
use Rattle.stream_split.specs.declared.cutter.Mode.TheVariants.{Free, Body}
use Rattle.stream_split.specs.Cut.{less, sort, amid, seen, heading, two_left, one_left, ended, State, state, next, amid_next, seen_next, heading_next, unless_stop, out_of, closed}
use Rattle.stream_split.proofs.KindSteps.{is_word, is_procedure, heading_by, block_by, step_by, open_by, ByStep, by_step}

-- ** What is open

-- how many constructs are open in the current block and in those round it
abbrev counts : Mode → List (ℕ × Mode) → List ℕ
counts Free fs = []
counts (Body d) [] = d ∷ []
counts (Body d) (f ∷ fs) = d ∷ counts f.1 fs

abbrev round : List (ℕ × Mode) → List ℕ
round [] = []
round (f ∷ fs) = counts f.1 fs

-- the module's block is the outermost
abbrev Nests : Mode → List (ℕ × Mode) → Type 0
Nests Free fs = fs ≡ []
Nests (Body d) [] = ⊥
Nests (Body d) (f ∷ fs) = Nests f.1 fs

abbrev NestsRound : List (ℕ × Mode) → Type 0
NestsRound [] = Unit {0}
NestsRound (f ∷ fs) = Nests f.1 fs

counts_length : (m : Mode) (fs : List (ℕ × Mode)) → Nests m fs → length (counts m fs) ≡ length fs
counts_length Free fs h = ap length (sym h)
counts_length (Body d) [] h = absurd h
counts_length (Body d) (f ∷ fs) h = ap suc (counts_length f.1 fs h)

body_counts : (d : ℕ) (fs : List (ℕ × Mode)) → counts (Body d) fs ≡ d ∷ round fs
body_counts d [] = refl
body_counts d (f ∷ fs) = refl

body_nests : (d e : ℕ) (fs : List (ℕ × Mode)) → Nests (Body d) fs → Nests (Body e) fs
body_nests d e [] h = h
body_nests d e (f ∷ fs) h = h

round_nests : (d : ℕ) (fs : List (ℕ × Mode)) → Nests (Body d) fs → NestsRound fs
round_nests d [] h = tt
round_nests d (f ∷ fs) h = h

-- ** What is still to begin

-- the procedures that begin in these tokens, by the text's definition
abbrev pub begun : State → List Token → List Begun
begun (state k c fs (amid m)) ts = begun_in in_block (counts m fs) ts
begun (state k c fs (seen m u)) ts = begun_in in_block (counts m fs) (u ∷ ts)
begun (state k c fs (heading m q hs)) ts = begun_in (in_heading q) (0 ∷ counts m fs) ts
begun (state k c fs two_left) ts = begun_in behind_end (round fs) ts
begun (state k c fs one_left) ts = begun_in behind_name (round fs) ts
begun (state k c fs ended) ts = []

-- the procedure of this PROCEDURE, round which so many others lie
abbrev pub procedure_at : Token → List (ℕ × Mode) → Begun
procedure_at u fs = record { at = u.at; level = length fs + 1 }

abbrev pub seen_begins : List (ℕ × Mode) → Token → Sort → List Begun
seen_begins fs u Word = procedure_at u fs ∷ []
seen_begins fs u z = []

-- the procedure that is known to begin with a token of this sort
abbrev pub begins_by : State → Sort → List Begun
begins_by (state k c fs (seen m u)) z = seen_begins fs u z
begins_by s z = []

-- some token is there
abbrev pub IsSome : List Token → Type 0
IsSome [] = ⊥
IsSome (t ∷ ts) = Unit {0}

some_more : (ts us : List Token) → IsSome ts → IsSome (ts ++ us)
some_more [] us h = absurd h
some_more (t ∷ ts) us h = tt

abbrev pub Sound : State → List Token → Type 0
Sound (state k c fs (amid m)) ts = Nests m fs
Sound (state k c fs (seen m u)) ts = Nests m fs × (sort u.kind ≡ Procedure)
Sound (state k c fs (heading m q hs)) ts = Nests m fs × IsSome hs
Sound (state k c fs two_left) ts = NestsRound fs
Sound (state k c fs one_left) ts = NestsRound fs
Sound (state k c fs ended) ts = ts ≡ []

-- the end of the text is its last token
abbrev pub Closes : List Token → Type 0
Closes [] = Unit {0}
Closes (t ∷ ts) = (sort t.kind ≡ Stop → ts ≡ []) × Closes ts

plus_one : (n : ℕ) → n + 1 ≡ suc n
plus_one n = omega arith

-- ** Blocks

-- behind a token of a block that begins no procedure
behind_block : (m : Mode) (fs : List (ℕ × Mode)) (t : Token) (ts : List Token) → begins_procedure t.kind ts ≡ false
    → begun_in in_block (counts m fs) (t ∷ ts) ≡ begun_in (block_step (counts m fs) t.kind) (open_after (counts m fs) t.kind) ts
behind_block m fs t ts h = ap (λ b. if b then record { at = t.at; level = length (counts m fs) + 1 } ∷ begun_in (in_heading 0) (0 ∷ counts m fs) ts else begun_in (block_step (counts m fs) t.kind) (open_after (counts m fs) t.kind) ts) h

-- what the definition of limits makes of a token of a procedure's block
in_body : (d : ℕ) (outer : List ℕ) (t : Token) (ts : List Token) (z : Sort) → ByStep t.kind z
    → begun_in (block_step (d ∷ outer) t.kind) (open_after (d ∷ outer) t.kind) ts ≡ begun_in (step_by d z) (open_by d outer z) ts
in_body zero outer t ts z s =
    ap (λ q. begun_in q (open_after (0 ∷ outer) t.kind) ts) (s.block outer) ∙ ap (λ q. begun_in (block_by z) q ts) (s.none outer)
in_body (suc d) outer t ts z s = ap (λ q. begun_in in_block q ts) (s.some d outer)

-- the current block with so many open constructs
as_counted : (d : ℕ) (fs : List (ℕ × Mode)) (ts : List Token) → begun_in in_block (counts (Body d) fs) ts ≡ begun_in in_block (d ∷ round fs) ts
as_counted d fs ts = ap (λ q. begun_in in_block q ts) (body_counts d fs)

-- a token of a block other than a PROCEDURE
amid_counted : (k c d : ℕ) (fs : List (ℕ × Mode)) (t : Token) (ts : List Token) (z : Sort) → (z ≡ Stop → ts ≡ []) → (z ≡ Procedure → ⊥)
    → begun (state k c fs (amid_next (Body d) t z)) ts ≡ begun_in (step_by d z) (open_by d (round fs) z) ts
amid_counted k c d fs t ts Procedure e o = absurd (o refl)
amid_counted k c zero fs t ts Stop e o = sym (ap (λ q. begun_in in_block (0 ∷ round fs) q) (e refl))
amid_counted k c (suc d) fs t ts Stop e o = sym (ap (λ q. begun_in in_block (suc d ∷ round fs) q) (e refl))
amid_counted k c zero fs t ts Closer e o = refl
amid_counted k c (suc d) fs t ts Closer e o = as_counted d fs ts
amid_counted k c zero fs t ts Opener e o = as_counted 1 fs ts
amid_counted k c (suc d) fs t ts Opener e o = as_counted (suc (suc d)) fs ts ∙ ap (λ q. begun_in in_block (q ∷ round fs) ts) (sym (plus_one (suc d)))
amid_counted k c zero fs t ts Word e o = as_counted 0 fs ts
amid_counted k c (suc d) fs t ts Word e o = as_counted (suc d) fs ts
amid_counted k c zero fs t ts Left e o = as_counted 0 fs ts
amid_counted k c (suc d) fs t ts Left e o = as_counted (suc d) fs ts
amid_counted k c zero fs t ts Right e o = as_counted 0 fs ts
amid_counted k c (suc d) fs t ts Right e o = as_counted (suc d) fs ts
amid_counted k c zero fs t ts Semicolon e o = as_counted 0 fs ts
amid_counted k c (suc d) fs t ts Semicolon e o = as_counted (suc d) fs ts
amid_counted k c zero fs t ts Other e o = as_counted 0 fs ts
amid_counted k c (suc d) fs t ts Other e o = as_counted (suc d) fs ts

amid_body : (k c d : ℕ) (fs : List (ℕ × Mode)) (t : Token) (ts : List Token) (z : Sort) → ByStep t.kind z → (z ≡ Stop → ts ≡ []) → (z ≡ Procedure → ⊥)
    → begun (state k c fs (amid_next (Body d) t z)) ts ≡ begun_in (block_step (d ∷ round fs) t.kind) (open_after (d ∷ round fs) t.kind) ts
amid_body k c d fs t ts z s e o = amid_counted k c d fs t ts z e o ∙ sym (in_body d (round fs) t ts z s)

amid_free : (k c : ℕ) (fs : List (ℕ × Mode)) (t : Token) (ts : List Token) (z : Sort) → (z ≡ Stop → ts ≡ []) → (z ≡ Procedure → ⊥)
    → begun (state k c fs (amid_next Free t z)) ts ≡ begun_in in_block [] ts
amid_free k c fs t ts Procedure e o = absurd (o refl)
amid_free k c fs t ts Stop e o = sym (ap (λ z. begun_in in_block [] z) (e refl))
amid_free k c fs t ts Closer e o = refl
amid_free k c fs t ts Opener e o = refl
amid_free k c fs t ts Word e o = refl
amid_free k c fs t ts Left e o = refl
amid_free k c fs t ts Right e o = refl
amid_free k c fs t ts Semicolon e o = refl
amid_free k c fs t ts Other e o = refl

amid_any : (k c : ℕ) (fs : List (ℕ × Mode)) (m : Mode) (t : Token) (ts : List Token) (z : Sort) → ByStep t.kind z → (z ≡ Stop → ts ≡ []) → (z ≡ Procedure → ⊥)
    → begun (state k c fs (amid_next m t z)) ts ≡ begun_in (block_step (counts m fs) t.kind) (open_after (counts m fs) t.kind) ts
amid_any k c fs Free t ts z s e o = amid_free k c fs t ts z e o
amid_any k c fs (Body d) t ts z s e o = amid_body k c d fs t ts z s e o ∙ ap (λ q. begun_in (block_step q t.kind) (open_after q t.kind) ts) (sym (body_counts d fs))

no_procedure : (t : Token) (ts : List Token) (z : Sort) → ByStep t.kind z → (z ≡ Procedure → ⊥) → begins_procedure t.kind ts ≡ false
no_procedure t ts z s o = ap (λ b. b && names_next ts) (s.procedure ∙ is_none z o)
  where
    is_none : (z : Sort) → (z ≡ Procedure → ⊥) → is_procedure z ≡ false
    is_none Procedure o = absurd (o refl)
    is_none Stop o = refl
    is_none Word o = refl
    is_none Opener o = refl
    is_none Closer o = refl
    is_none Left o = refl
    is_none Right o = refl
    is_none Semicolon o = refl
    is_none Other o = refl

amid_other : (k c : ℕ) (fs : List (ℕ × Mode)) (m : Mode) (t : Token) (ts : List Token) (z : Sort) → ByStep t.kind z → (z ≡ Stop → ts ≡ []) → (z ≡ Procedure → ⊥)
    → begun (state k c fs (amid_next m t z)) ts ≡ begun_in in_block (counts m fs) (t ∷ ts)
amid_other k c fs m t ts z s e o = amid_any k c fs m t ts z s e o ∙ sym (behind_block m fs t ts (no_procedure t ts z s o))

not_procedure : (z : Sort) → is_procedure z ≡ false → z ≡ Procedure → ⊥
not_procedure z h e = cc

amid_step : (k c : ℕ) (fs : List (ℕ × Mode)) (m : Mode) (t : Token) (ts : List Token) (z : Sort) → ByStep t.kind z → (z ≡ Stop → ts ≡ [])
    → begun (state k c fs (amid_next m t z)) ts ≡ begun_in in_block (counts m fs) (t ∷ ts)
amid_step k c fs m t ts Procedure s e = refl
amid_step k c fs m t ts Stop s e = amid_other k c fs m t ts Stop s e (not_procedure Stop refl)
amid_step k c fs m t ts Word s e = amid_other k c fs m t ts Word s e (not_procedure Word refl)
amid_step k c fs m t ts Opener s e = amid_other k c fs m t ts Opener s e (not_procedure Opener refl)
amid_step k c fs m t ts Closer s e = amid_other k c fs m t ts Closer s e (not_procedure Closer refl)
amid_step k c fs m t ts Left s e = amid_other k c fs m t ts Left s e (not_procedure Left refl)
amid_step k c fs m t ts Right s e = amid_other k c fs m t ts Right s e (not_procedure Right refl)
amid_step k c fs m t ts Semicolon s e = amid_other k c fs m t ts Semicolon s e (not_procedure Semicolon refl)
amid_step k c fs m t ts Other s e = amid_other k c fs m t ts Other s e (not_procedure Other refl)

-- ** Behind a PROCEDURE

-- a PROCEDURE that begins no procedure leaves all as it is
held_keeps : (m : Mode) (fs : List (ℕ × Mode)) (u : Token) (ts : List Token) → ByStep u.kind Procedure
    → begun_in (block_step (counts m fs) u.kind) (open_after (counts m fs) u.kind) ts ≡ begun_in in_block (counts m fs) ts
held_keeps Free fs u ts s = refl
held_keeps (Body d) fs u ts s =
    ap (λ q. begun_in (block_step q u.kind) (open_after q u.kind) ts) (body_counts d fs) ∙ in_body d (round fs) u ts Procedure s ∙ stays d ∙ sym (as_counted d fs ts)
  where
    stays : (d : ℕ) → begun_in (step_by d Procedure) (open_by d (round fs) Procedure) ts ≡ begun_in in_block (d ∷ round fs) ts
    stays zero = refl
    stays (suc d) = refl

and_none : (b : Bool) → (b && false) ≡ false
and_none true = refl
and_none false = refl

held_other : (k c : ℕ) (fs : List (ℕ × Mode)) (m : Mode) (u t : Token) (ts : List Token) (z : Sort) → ByStep u.kind Procedure → ByStep t.kind z → is_word z ≡ false
    → (z ≡ Stop → ts ≡ []) → begun_in in_block (counts m fs) (u ∷ t ∷ ts) ≡ begun (state k c fs (amid_next m t z)) ts
held_other k c fs m u t ts z r s w e =
    behind_block m fs u (t ∷ ts) (ap (λ b. is_procedure_word u.kind && b) (s.word ∙ w) ∙ and_none (is_procedure_word u.kind))
    ∙ held_keeps m fs u (t ∷ ts) r ∙ sym (amid_step k c fs m t ts z s e)

held_word : (fs : List (ℕ × Mode)) (m : Mode) (u t : Token) (ts : List Token) → ByStep u.kind Procedure → ByStep t.kind Word → Nests m fs
    → begun_in in_block (counts m fs) (u ∷ t ∷ ts) ≡ procedure_at u fs ∷ begun_in (in_heading 0) (0 ∷ counts m fs) ts
held_word fs m u t ts r s h =
    let p : ℕ → Begun = λ l. record { at = u.at; level = l + 1 } in
    ap (λ b. if b then p (length (counts m fs)) ∷ begun_in (in_heading 0) (0 ∷ counts m fs) (t ∷ ts) else begun_in (block_step (counts m fs) u.kind) (open_after (counts m fs) u.kind) (t ∷ ts))
    (ap (λ b. b && is_identifier t.kind) r.procedure ∙ s.word)
    ∙ ap (λ q. p (length (counts m fs)) ∷ begun_in q (0 ∷ counts m fs) ts) (s.heading 0)
    ∙ ap (λ l. p l ∷ begun_in (in_heading 0) (0 ∷ counts m fs) ts) (counts_length m fs h)

seen_step : (k c : ℕ) (fs : List (ℕ × Mode)) (m : Mode) (u t : Token) (ts : List Token) (z : Sort) → ByStep u.kind Procedure → ByStep t.kind z → Nests m fs → (z ≡ Stop → ts ≡ [])
    → begun_in in_block (counts m fs) (u ∷ t ∷ ts) ≡ seen_begins fs u z ++ begun (state k c fs (seen_next m u t z)) ts
seen_step k c fs m u t ts Word r s h e = held_word fs m u t ts r s h
seen_step k c fs m u t ts Stop r s h e = held_other k c fs m u t ts Stop r s refl e
seen_step k c fs m u t ts Procedure r s h e = held_other k c fs m u t ts Procedure r s refl e
seen_step k c fs m u t ts Opener r s h e = held_other k c fs m u t ts Opener r s refl e
seen_step k c fs m u t ts Closer r s h e = held_other k c fs m u t ts Closer r s refl e
seen_step k c fs m u t ts Left r s h e = held_other k c fs m u t ts Left r s refl e
seen_step k c fs m u t ts Right r s h e = held_other k c fs m u t ts Right r s refl e
seen_step k c fs m u t ts Semicolon r s h e = held_other k c fs m u t ts Semicolon r s refl e
seen_step k c fs m u t ts Other r s h e = held_other k c fs m u t ts Other r s refl e

-- ** Headings and ends

less_is : (q : ℕ) → less q ≡ q - 1
less_is zero = refl
less_is (suc q) = omega arith

not_zero : (q : ℕ) → (suc q == 0) ≡ false
not_zero q = grind arith

-- the heading, by the sort of its next token
heading_counted : (k c : ℕ) (fs : List (ℕ × Mode)) (m : Mode) (q : ℕ) (hs : List Token) (t : Token) (ts : List Token) (z : Sort) → (z ≡ Stop → ts ≡ [])
    → begun (heading_next k c fs m q hs t z) ts ≡ begun_in (heading_by q z) (0 ∷ counts m fs) ts
heading_counted k c fs m q hs t ts Stop e = sym (ap (λ z. begun_in (in_heading q) (0 ∷ counts m fs) z) (e refl))
heading_counted k c fs m q hs t ts Left e = ap (λ z. begun_in (in_heading z) (0 ∷ counts m fs) ts) (sym (plus_one q))
heading_counted k c fs m q hs t ts Right e = ap (λ z. begun_in (in_heading z) (0 ∷ counts m fs) ts) (less_is q)
heading_counted k c fs m zero hs t ts Semicolon e = refl
heading_counted k c fs m (suc q) hs t ts Semicolon e = ap (λ b. begun_in (if b then in_block else in_heading (suc q)) (0 ∷ counts m fs) ts) (sym (not_zero q))
heading_counted k c fs m q hs t ts Word e = refl
heading_counted k c fs m q hs t ts Procedure e = refl
heading_counted k c fs m q hs t ts Opener e = refl
heading_counted k c fs m q hs t ts Closer e = refl
heading_counted k c fs m q hs t ts Other e = refl

two_step : (k c : ℕ) (fs : List (ℕ × Mode)) (ts : List Token) (z : Sort) → (z ≡ Stop → ts ≡ [])
    → begun (state k c fs (unless_stop z ended one_left)) ts ≡ begun_in behind_name (round fs) ts
two_step k c fs ts Stop e = sym (ap (λ z. begun_in behind_name (round fs) z) (e refl))
two_step k c fs ts Word e = refl
two_step k c fs ts Procedure e = refl
two_step k c fs ts Opener e = refl
two_step k c fs ts Closer e = refl
two_step k c fs ts Left e = refl
two_step k c fs ts Right e = refl
two_step k c fs ts Semicolon e = refl
two_step k c fs ts Other e = refl

out_step : (k c : ℕ) (fs : List (ℕ × Mode)) (ts : List Token) → begun (out_of k c fs) ts ≡ begun_in in_block (round fs) ts
out_step k c [] ts = refl
out_step k c (f ∷ fs) ts = refl

one_step : (k c : ℕ) (fs : List (ℕ × Mode)) (ts : List Token) (z : Sort) → (z ≡ Stop → ts ≡ [])
    → begun (unless_stop z (state k c fs ended) (out_of k c fs)) ts ≡ begun_in in_block (round fs) ts
one_step k c fs ts Stop e = sym (ap (λ z. begun_in in_block (round fs) z) (e refl))
one_step k c fs ts Word e = out_step k c fs ts
one_step k c fs ts Procedure e = out_step k c fs ts
one_step k c fs ts Opener e = out_step k c fs ts
one_step k c fs ts Closer e = out_step k c fs ts
one_step k c fs ts Left e = out_step k c fs ts
one_step k c fs ts Right e = out_step k c fs ts
one_step k c fs ts Semicolon e = out_step k c fs ts
one_step k c fs ts Other e = out_step k c fs ts

-- ** Every token

-- the next token, and what begins behind it
pub begun_step : (s : State) (t : Token) (ts : List Token) → Sound s (t ∷ ts) → (sort t.kind ≡ Stop → ts ≡ []) → begun s (t ∷ ts) ≡ begins_by s (sort t.kind) ++ begun (next s t) ts
begun_step (state k c fs (amid m)) t ts h e = sym (amid_step k c fs m t ts (sort t.kind) (by_step t.kind) e)
begun_step (state k c fs (seen m u)) t ts h e = seen_step k c fs m u t ts (sort t.kind) (subst (ByStep u.kind) h.1 (by_step u.kind)) (by_step t.kind) h.0 e
begun_step (state k c fs (heading m q hs)) t ts h e =
    ap (λ z. begun_in z (0 ∷ counts m fs) ts) ((by_step t.kind).heading q) ∙ sym (heading_counted k c fs m q hs t ts (sort t.kind) e)
begun_step (state k c fs two_left) t ts h e = sym (two_step k c fs ts (sort t.kind) e)
begun_step (state k c fs one_left) t ts h e = sym (one_step k c fs ts (sort t.kind) e)
begun_step (state k c fs ended) t ts h e = cc

-- nothing begins behind the last
pub begun_none : (s : State) → begun s [] ≡ []
begun_none (state k c fs (amid m)) = refl
begun_none (state k c fs (seen m u)) = behind_block m fs u [] (and_none (is_procedure_word u.kind))
begun_none (state k c fs (heading m q hs)) = refl
begun_none (state k c fs two_left) = refl
begun_none (state k c fs one_left) = refl
begun_none (state k c fs ended) = refl

sound_closed : (k c d : ℕ) (fs : List (ℕ × Mode)) (ts : List Token) → Nests (Body d) fs → Sound (state k c fs (closed (Body d))) ts
sound_closed k c zero fs ts h = round_nests zero fs h
sound_closed k c (suc d) fs ts h = body_nests (suc d) d fs h

sound_amid : (k c : ℕ) (fs : List (ℕ × Mode)) (m : Mode) (t : Token) (ts : List Token) (z : Sort) → sort t.kind ≡ z → Nests m fs → (z ≡ Stop → ts ≡ [])
    → Sound (state k c fs (amid_next m t z)) ts
sound_amid k c fs m t ts Stop i h e = e refl
sound_amid k c fs m t ts Procedure i h e = (h, i)
sound_amid k c fs Free t ts Opener i h e = h
sound_amid k c fs (Body d) t ts Opener i h e = body_nests d (suc d) fs h
sound_amid k c fs Free t ts Closer i h e = h
sound_amid k c fs (Body d) t ts Closer i h e = sound_closed k c d fs ts h
sound_amid k c fs m t ts Word i h e = h
sound_amid k c fs m t ts Left i h e = h
sound_amid k c fs m t ts Right i h e = h
sound_amid k c fs m t ts Semicolon i h e = h
sound_amid k c fs m t ts Other i h e = h

sound_seen : (k c : ℕ) (fs : List (ℕ × Mode)) (m : Mode) (u t : Token) (ts : List Token) (z : Sort) → sort t.kind ≡ z → Nests m fs → (z ≡ Stop → ts ≡ [])
    → Sound (state k c fs (seen_next m u t z)) ts
sound_seen k c fs m u t ts Word i h e = (h, tt)
sound_seen k c fs m u t ts Stop i h e = sound_amid k c fs m t ts Stop i h e
sound_seen k c fs m u t ts Procedure i h e = sound_amid k c fs m t ts Procedure i h e
sound_seen k c fs m u t ts Opener i h e = sound_amid k c fs m t ts Opener i h e
sound_seen k c fs m u t ts Closer i h e = sound_amid k c fs m t ts Closer i h e
sound_seen k c fs m u t ts Left i h e = h
sound_seen k c fs m u t ts Right i h e = h
sound_seen k c fs m u t ts Semicolon i h e = h
sound_seen k c fs m u t ts Other i h e = h

sound_heading : (k c : ℕ) (fs : List (ℕ × Mode)) (m : Mode) (q : ℕ) (hs : List Token) (t : Token) (ts : List Token) (z : Sort) → Nests m fs → IsSome hs → (z ≡ Stop → ts ≡ [])
    → Sound (heading_next k c fs m q hs t z) ts
sound_heading k c fs m q hs t ts Stop h i e = e refl
sound_heading k c fs m zero hs t ts Semicolon h i e = h
sound_heading k c fs m (suc q) hs t ts Semicolon h i e = (h, some_more hs (t ∷ []) i)
sound_heading k c fs m q hs t ts Word h i e = (h, some_more hs (t ∷ []) i)
sound_heading k c fs m q hs t ts Procedure h i e = (h, some_more hs (t ∷ []) i)
sound_heading k c fs m q hs t ts Opener h i e = (h, some_more hs (t ∷ []) i)
sound_heading k c fs m q hs t ts Closer h i e = (h, some_more hs (t ∷ []) i)
sound_heading k c fs m q hs t ts Left h i e = (h, some_more hs (t ∷ []) i)
sound_heading k c fs m q hs t ts Right h i e = (h, some_more hs (t ∷ []) i)
sound_heading k c fs m q hs t ts Other h i e = (h, some_more hs (t ∷ []) i)

sound_two : (k c : ℕ) (fs : List (ℕ × Mode)) (ts : List Token) (z : Sort) → NestsRound fs → (z ≡ Stop → ts ≡ []) → Sound (state k c fs (unless_stop z ended one_left)) ts
sound_two k c fs ts Stop h e = e refl
sound_two k c fs ts Word h e = h
sound_two k c fs ts Procedure h e = h
sound_two k c fs ts Opener h e = h
sound_two k c fs ts Closer h e = h
sound_two k c fs ts Left h e = h
sound_two k c fs ts Right h e = h
sound_two k c fs ts Semicolon h e = h
sound_two k c fs ts Other h e = h

sound_out : (k c : ℕ) (fs : List (ℕ × Mode)) (ts : List Token) → NestsRound fs → Sound (out_of k c fs) ts
sound_out k c [] ts h = refl
sound_out k c (f ∷ fs) ts h = h

sound_one : (k c : ℕ) (fs : List (ℕ × Mode)) (ts : List Token) (z : Sort) → NestsRound fs → (z ≡ Stop → ts ≡ [])
    → Sound (unless_stop z (state k c fs ended) (out_of k c fs)) ts
sound_one k c fs ts Stop h e = e refl
sound_one k c fs ts Word h e = sound_out k c fs ts h
sound_one k c fs ts Procedure h e = sound_out k c fs ts h
sound_one k c fs ts Opener h e = sound_out k c fs ts h
sound_one k c fs ts Closer h e = sound_out k c fs ts h
sound_one k c fs ts Left h e = sound_out k c fs ts h
sound_one k c fs ts Right h e = sound_out k c fs ts h
sound_one k c fs ts Semicolon h e = sound_out k c fs ts h
sound_one k c fs ts Other h e = sound_out k c fs ts h

pub sound_next : (s : State) (t : Token) (ts : List Token) → Sound s (t ∷ ts) → (sort t.kind ≡ Stop → ts ≡ []) → Sound (next s t) ts
sound_next (state k c fs (amid m)) t ts h e = sound_amid k c fs m t ts (sort t.kind) refl h e
sound_next (state k c fs (seen m u)) t ts h e = sound_seen k c fs m u t ts (sort t.kind) refl h.0 e
sound_next (state k c fs (heading m q hs)) t ts h e = sound_heading k c fs m q hs t ts (sort t.kind) h.0 h.1 e
sound_next (state k c fs two_left) t ts h e = sound_two k c fs ts (sort t.kind) h e
sound_next (state k c fs one_left) t ts h e = sound_one k c fs ts (sort t.kind) h e
sound_next (state k c fs ended) t ts h e = cc

abbrev is_stop : Sort → Bool
is_stop Stop = true
is_stop z = false

-- a token before the last is not the end
inner_sort : (kind : TokenKind) → IsInner kind → sort kind ≡ Stop → ⊥
inner_sort kinds.EndOfText h e = h
inner_sort kind h e = true≢false (sym (ap is_stop e))

pub numbered_closes : (at : ℕ) (ts : List Token) → AreNumbered at ts → Closes ts
numbered_closes at [] h = tt
numbered_closes at (t ∷ []) h = (λ e. refl, tt)
numbered_closes at (t ∷ u ∷ ts) h = (λ e. absurd (inner_sort t.kind h.0 e), numbered_closes (at + 1) (u ∷ ts) h.2)
