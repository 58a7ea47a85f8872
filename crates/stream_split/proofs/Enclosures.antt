-- Where the procedures of a main text are declared, by its derivation.
use Rattle.std.proofs.Common.{◌≡◌, ℕ, zero, suc, Bool, true, false, List, [], ◌∷◌, ◌++◌, refl, sym, ap, ◌∙◌, subst, ◌&&◌, ◌||◌, not, true≢false, eqb-true, ◌==◌, length, ◌+◌}
use Rattle.std.proofs.lemmas.List.{append-nil}
use Rattle.m2_base.specs.declared.token.Token.{Token}
use Rattle.m2_base.specs.KindNumbers.{kind_number}
use Rattle.ll_grammar.proofs.KindSets.{and_l, and_r}
use Rattle.ll_grammar.specs.Derivations.{Tree, nothing, leaf, both, left, right, last, more, inner, part, tokens, Derives, of_empty, of_token, of_then, of_left, of_right, of_last, of_more, of_deep, of_sub}
use Rattle.ll_grammar.specs.Grammar.{Rule, then, one}
use Rattle.ll_grammar.specs.LookAhead.{member}
use Rattle.stream_split.specs.declared.cutter.Mode.{Mode}
use Rattle.stream_split.specs.declared.cutter.Mode.TheVariants.{Free, Body}
use Rattle.stream_split.specs.declared.sorts.Sort.{Sort}
use Rattle.stream_split.specs.declared.sorts.Sort.TheVariants.{Stop, Word, Procedure, Closer, Semicolon}
use Rattle.stream_split.specs.Cut.{sort, Phase, amid, seen, heading, two_left, one_left, State, state, start, next_by, after, Enclosed, enclosed, heading_opens, opens_by, opened}
use Rattle.stream_split.proofs.Flow.{every_mem, no_more, head_step, head_flow, flow, raise, Fits, fits_amid, fits_seen, Tops, plain, Cuttable, grammar_of, heads_of, fits_more, fits_wider, fits_low, seen_procedure, seen_closer, is_word, is_procedure, is_closer, is_semi, again_stay, one_is, flows}
use Rattle.stream_split.proofs.First.{MainText}
use Rattle.stream_split.proofs.Numbers.{sort_of_number, sort_is}
use Rattle.stream_split.proofs.Parts.{streams_after}
use Rattle.stream_split.proofs.Runs.{after_append, opened_append}

-- where the procedures in a tree are declared: it is of stream k, which lies in n others, and the next stream has number c
abbrev pub enclosures : (k n c : ℕ) → Tree Token → List Enclosed
enclosures k n c nothing = []
enclosures k n c (leaf t) = []
enclosures k n c (both x y) = enclosures k n c x ++ enclosures k n (streams_after c x) y
enclosures k n c (left x) = enclosures k n c x
enclosures k n c (right x) = enclosures k n c x
enclosures k n c last = []
enclosures k n c (more x xs) = enclosures k n c x ++ enclosures k n (streams_after c x) xs
enclosures k n c (inner x) = []
enclosures k n c (part (both h (both s (both b l)))) = record { outer = k; level = n + 1 } ∷ enclosures c (suc n) (suc c) b
enclosures k n c (part _) = []

-- along xs the cut goes from s to s' and begins these streams
record Opens (s : State) (xs : List Token) (s' : State) (os : List Enclosed) : Type 0 where
  state_is : after s xs ≡ s'
  opens_are : opened s xs ≡ os

opens_then : {s s1 s2 : State} {xs ys : List Token} {os ps : List Enclosed} → Opens s xs s1 os → Opens s1 ys s2 ps → Opens s (xs ++ ys) s2 (os ++ ps)
opens_then {s} {s1} {s2} {xs} {ys} {os} {ps} a b = record {
  state_is = after_append s xs ys ∙ ap (λ z. after z ys) a.state_is ∙ b.state_is;
  opens_are = opened_append s xs ys ∙ ap (λ z. z ++ opened (after s xs) ys) a.opens_are ∙ ap (λ z. os ++ opened z ys) a.state_is ∙ ap (λ z. os ++ z) b.opens_are;
}

opens_one : (s : State) (t : Token) (n : ℕ) (z : Sort) {s' : State} {os : List Enclosed} → member (kind_number t.kind) (n ∷ []) ≡ true → sort_of_number n ≡ z → next_by s t z ≡ s' → opens_by s z ≡ os → Opens s (t ∷ []) s' os
opens_one s t n z {s'} {os} m e f g =
    let is : sort t.kind ≡ z = sym (sort_is t.kind) ∙ ap sort_of_number (one_is (kind_number t.kind) n m) ∙ e in
    record { state_is = ap (λ q. next_by s t q) is ∙ f; opens_are = ap (λ q. opens_by s q ++ []) is ∙ ap (λ q. q ++ []) g ∙ append-nil os }

fits_open : {m : Mode} {d : ℕ} {s : Bool} {p : Phase} (k c : ℕ) (fs : List (ℕ × Mode)) (z : Sort) → Fits m d s p → opens_by (state k c fs p) z ≡ []
fits_open k c fs z fits_amid = refl
fits_open k c fs z fits_seen = refl

head_opens : (kk : ℕ → Bool) (k : ℕ) (fs : List (ℕ × Mode)) (p : ℕ) (z : Sort) → head_step z p kk ≡ true → heading_opens k fs p z ≡ []
head_opens kk k fs p Stop h = absurd (true≢false (sym h))
head_opens kk k fs zero Semicolon h = absurd (true≢false (sym h))
head_opens kk k fs (suc p) Semicolon h = refl
head_opens kk k fs p z h = refl

module _ (G : Cuttable) where
  heads_open : {r : Rule} {x : Tree Token} → Derives (grammar_of G) r x → (p : ℕ) (kk : ℕ → Bool) → head_flow r p kk ≡ true → (k c : ℕ) (fs : List (ℕ × Mode)) (m : Mode) (hs : List Token) → opened (state k c fs (heading m p hs)) (tokens x) ≡ []
  heads_open of_empty p kk h k c fs m hs = refl
  heads_open (of_token {ks} {t} g) p kk h k c fs m hs =
      ap (λ z. z ++ []) (head_opens kk k fs p (sort t.kind) (subst (λ z. head_step z p kk ≡ true) (sort_is t.kind) (every_mem (λ x. head_step (sort_of_number x) p kk) (kind_number t.kind) ks h g)))
  heads_open (of_then {r} {s} {d = x} {e = y} g h') p kk h k c fs m hs =
      let i = heads_of G g p (λ p'. head_flow s p' kk) h k c fs m hs in
      opened_append _ (tokens x) (tokens y) ∙ ap (λ z. z ++ opened (after (state k c fs (heading m p hs)) (tokens x)) (tokens y)) (heads_open g p (λ p'. head_flow s p' kk) h k c fs m hs)
      ∙ ap (λ z. opened z (tokens y)) i.state_is ∙ heads_open h' i.p' kk i.test k c fs m (hs ++ tokens x)
  heads_open (of_left g) p kk h k c fs m hs = heads_open g p kk (and_l _ _ h) k c fs m hs
  heads_open (of_right {r} g) p kk h k c fs m hs = heads_open g p kk (and_r (head_flow r p kk) _ h) k c fs m hs
  heads_open of_last p kk h k c fs m hs = refl
  heads_open (of_more {r} {d = x} {ds = xs} g h') p kk h k c fs m hs =
      let i = heads_of G g p (λ p'. p' == p) (and_l _ _ h) k c fs m hs in
      let at_p = i.state_is ∙ ap (λ z. state k c fs (heading m z (hs ++ tokens x))) (eqb-true i.p' p i.test) in
      opened_append _ (tokens x) (tokens xs) ∙ ap (λ z. z ++ opened (after (state k c fs (heading m p hs)) (tokens x)) (tokens xs)) (heads_open g p (λ p'. p' == p) (and_l _ _ h) k c fs m hs)
      ∙ ap (λ z. opened z (tokens xs)) at_p ∙ heads_open h' p kk h k c fs m (hs ++ tokens x)
  heads_open (of_deep g) p kk h k c fs m hs = absurd (true≢false (sym h))
  heads_open (of_sub g) p kk h k c fs m hs = absurd (true≢false (sym h))

  pub plain_enclosures : {r : Rule} {x : Tree Token} → Derives (grammar_of G) r x → plain r ≡ true → (k n c : ℕ) → enclosures k n c x ≡ []
  plain_enclosures of_empty h k n c = refl
  plain_enclosures (of_token g) h k n c = refl
  plain_enclosures (of_then {r} {d = x} {e = y} g g') h k n c =
      ap (λ z. z ++ enclosures k n (streams_after c x) y) (plain_enclosures g (and_l _ _ h) k n c) ∙ plain_enclosures g' (and_r (plain r) _ h) k n (streams_after c x)
  plain_enclosures (of_left g) h k n c = plain_enclosures g (and_l _ _ h) k n c
  plain_enclosures (of_right {r} g) h k n c = plain_enclosures g (and_r (plain r) _ h) k n c
  plain_enclosures of_last h k n c = refl
  plain_enclosures (of_more {d = x} {ds = y} g g') h k n c =
      ap (λ z. z ++ enclosures k n (streams_after c x) y) (plain_enclosures g h k n c) ∙ plain_enclosures g' h k n (streams_after c x)
  plain_enclosures (of_deep g) h k n c = refl
  plain_enclosures (of_sub g) h k n c = absurd (true≢false (sym h))

  opens_along : {r : Rule} {x : Tree Token} → Derives (grammar_of G) r x → (top : Bool) (m : Mode) (d : ℕ) (s : Bool) (kk : ℕ → Bool → Bool) (k c : ℕ) (fs : List (ℕ × Mode)) (p : Phase) → flow top r d s kk ≡ true → Fits m d s p → Tops top m
      → opened (state k c fs p) (tokens x) ≡ enclosures k (length fs) c x
  opens_along of_empty top m d s kk k c fs p h f o = refl
  opens_along (of_token {t = t} g) top m d s kk k c fs p h f o = ap (λ z. z ++ []) (fits_open k c fs (sort t.kind) f)
  opens_along (of_then {r = q} {s = r} {d = x} {e = y} g g') top m d s kk k c fs p h f o =
      let i = flows G g top m d s (λ d' s'. flow top r d' s' kk) k c fs p h f o in
      opened_append _ (tokens x) (tokens y) ∙ ap (λ z. z ++ opened (after (state k c fs p) (tokens x)) (tokens y)) (opens_along g top m d s (λ d' s'. flow top r d' s' kk) k c fs p h f o)
      ∙ ap (λ z. enclosures k (length fs) c x ++ opened z (tokens y)) i.runs.state_is
      ∙ ap (λ z. enclosures k (length fs) c x ++ z) (opens_along g' top m i.d' i.s' kk k (streams_after c x) fs i.p' i.test i.fits o)
  opens_along (of_left g) top m d s kk k c fs p h f o = opens_along g top m d s kk k c fs p (and_l _ _ h) f o
  opens_along (of_right {r = q} g) top m d s kk k c fs p h f o = opens_along g top m d s kk k c fs p (and_r (flow top q d s kk) _ h) f o
  opens_along of_last top m d s kk k c fs p h f o = refl
  opens_along (of_more {r} {d = x} {ds = xs} g g') top m d s kk k c fs p h f o =
      let stay : Bool → Bool = λ z. flow top r d z (λ d' s'. (d' == d) && no_more z s') in
      let z = s || not (stay s) in
      let i = flows G g top m d z (λ d' s'. (d' == d) && no_more z s') k c fs p (and_l _ _ h) (fits_wider s (stay s) f) o in
      let f' = fits_more z i.s' (and_r (i.d' == d) _ i.test) (subst (λ y. Fits m y i.s' i.p') (eqb-true i.d' d (and_l _ _ i.test)) i.fits) in
      opened_append _ (tokens x) (tokens xs)
      ∙ ap (λ z. z ++ opened (after (state k c fs p) (tokens x)) (tokens xs)) (opens_along g top m d z (λ d' s'. (d' == d) && no_more z s') k c fs p (and_l _ _ h) (fits_wider s (stay s) f) o)
      ∙ ap (λ z. enclosures k (length fs) c x ++ opened z (tokens xs)) i.runs.state_is
      ∙ ap (λ z. enclosures k (length fs) c x ++ z) (opens_along g' top m d z kk k (streams_after c x) fs i.p' (again_stay stay (λ y. kk d y) z (and_l _ _ h) (and_r (stay z) _ h)) f' o)
  opens_along (of_deep {n = zero} g) top m d s kk k c fs p h f o = absurd (true≢false (sym h))
  opens_along (of_deep {n = suc n} {d = x} g) top m d s kk k c fs p h f o =
      opens_along g false (raise d m) 0 false (λ d s. d == 0) k c fs p (G.levels n) (fits_low s (and_l (not s) _ h) f) (λ e. absurd (true≢false (sym e)))
      ∙ plain_enclosures g (G.plains n) k (length fs) c
  opens_along (of_sub (of_then (of_then (of_token {t = t0} g0) (of_then {e = hm} (of_token {t = t1} g1) gm)) (of_then (of_token {t = ts} gs) (of_then (of_then {d = x} gx (of_then {d = y} gy (of_then (of_token {t = te} ge) (of_token {t = ti} gi)))) (of_token {t = tl} gl))))) top m d s kk k c fs p h f o =
      let mm = raise d m in
      let a0 = seen_procedure k c fs t0 f in
      let r0 = opens_one (state k c fs p) t0 37 Procedure g0 is_procedure a0.0 (fits_open k c fs Procedure f) in
      let r1 = opens_one (state k c fs (seen mm t0)) t1 1 Word g1 is_word refl refl in
      let i = heads_of G gm 0 (λ p. p == 0) G.heads k c fs mm (t0 ∷ t1 ∷ []) in
      let rm : Opens (state k c fs (heading mm 0 (t0 ∷ t1 ∷ []))) (tokens hm) (state k c fs (heading mm 0 (t0 ∷ t1 ∷ tokens hm))) [] =
      record { state_is = i.state_is ∙ ap (λ z. state k c fs (heading mm z (t0 ∷ t1 ∷ tokens hm))) (eqb-true i.p' 0 i.test); opens_are = heads_open gm 0 (λ p. p == 0) G.heads k c fs mm (t0 ∷ t1 ∷ []) } in
      let rs = opens_one (state k c fs (heading mm 0 (t0 ∷ t1 ∷ tokens hm))) ts 57 Semicolon gs is_semi refl refl in
      let fs' : List (ℕ × Mode) = (k, mm) ∷ fs in
      let no : false ≡ true → Body 0 ≡ Free = λ e. absurd (true≢false (sym e)) in
      let j1 = flows G gx false (Body 0) 0 false (λ d' s'. flow false G.body d' s' (λ d s. d == 0)) c (suc c) fs' (amid (Body 0)) G.insides fits_amid no in
      let c1 = streams_after (suc c) x in
      let j2 = flows G gy false (Body 0) j1.d' j1.s' (λ d s. d == 0) c c1 fs' j1.p' j1.test j1.fits no in
      let c2 = streams_after c1 y in
      let rx : Opens (state c (suc c) fs' (amid (Body 0))) (tokens x) (state c c1 fs' j1.p') (enclosures c (suc (length fs)) (suc c) x) =
      record { state_is = j1.runs.state_is; opens_are = opens_along gx false (Body 0) 0 false (λ d' s'. flow false G.body d' s' (λ d s. d == 0)) c (suc c) fs' (amid (Body 0)) G.insides fits_amid no } in
      let ry : Opens (state c c1 fs' j1.p') (tokens y) (state c c2 fs' j2.p') (enclosures c (suc (length fs)) c1 y) =
      record { state_is = j2.runs.state_is; opens_are = opens_along gy false (Body 0) j1.d' j1.s' (λ d s. d == 0) c c1 fs' j1.p' j1.test j1.fits no } in
      let fe = subst (λ z. Fits (Body 0) z j2.s' j2.p') (eqb-true j2.d' 0 j2.test) j2.fits in
      let ae = seen_closer c c2 fs' te fe in
      let re = opens_one (state c c2 fs' j2.p') te 21 Closer ge is_closer ae.0 (fits_open c c2 fs' Closer fe) in
      let ri = opens_one (state c c2 fs' two_left) ti 1 Word gi is_word refl refl in
      let rl = opens_one (state c c2 fs' one_left) tl 57 Semicolon gl is_semi refl refl in
      let all = opens_then (opens_then r0 (opens_then r1 rm)) (opens_then rs (opens_then (opens_then rx (opens_then ry (opens_then re ri))) rl)) in
      all.opens_are ∙ ap (λ z. enclosed k fs ∷ z) (append-nil _)

  module _ (M : MainText G) where
    ends_open : {d : ℕ} {s : Bool} {p : Phase} (m c : ℕ) (z : Sort) → Fits Free d s p → opens_by (state m c [] p) z ++ [] ≡ []
    ends_open m c z fits_amid = refl
    ends_open m c z fits_seen = refl

    -- of a whole text
    pub opens_whole : {e : Tree Token} (m : ℕ) → Derives (grammar_of G) (then M.main_text (one 0)) e → opened (start m) (tokens e) ≡ enclosures m 0 (suc m) e
    opens_whole m (of_then {d = x} g (of_token {t = t} h)) =
        let i = flows G g true Free 0 false (λ d s. true) m (suc m) [] (amid Free) M.mains fits_amid (λ e. refl) in
        opened_append (start m) (tokens x) (t ∷ []) ∙ ap (λ z. z ++ opened (after (start m) (tokens x)) (t ∷ [])) (opens_along g true Free 0 false (λ d s. true) m (suc m) [] (amid Free) M.mains fits_amid (λ e. refl))
        ∙ ap (λ z. enclosures m 0 (suc m) x ++ opened z (t ∷ [])) i.runs.state_is
        ∙ ap (λ z. enclosures m 0 (suc m) x ++ z) (ends_open m (streams_after (suc m) x) (sort t.kind) i.fits)
