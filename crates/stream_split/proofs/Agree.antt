-- The streams of a main text, and the text.
use Rattle.std.proofs.Common.{◌≡◌, ℕ, zero, suc, Bool, true, false, List, [], ◌∷◌, ◌++◌, refl, sym, ap, ◌∙◌, subst, append_assoc, ◌⊎◌, inl, inr, ◌==◌, eqb-true, cond, map, length, length-append, ◌<◌, ◌≤◌, ◌+◌, arith, All, None}
use Rattle.std.proofs.lemmas.List.Elements.{All-head, All-tail, All-cons, All-nil}
use Rattle.std.specs.List.{AllZip}
use Rattle.m2_base.specs.declared.kind.TokenKind.{TokenKind}
use Rattle.m2_base.specs.declared.kind.TokenKind.TheVariants as kinds
use Rattle.m2_base.specs.declared.kind.TokenKind.TheVariants.{EndOfText, Implementation, Module, Period, Semicolon as SemicolonKind}
use Rattle.m2_base.specs.declared.outputs.StreamFault.{StreamFault}
use Rattle.m2_base.specs.declared.outputs.StreamFault.TheVariants as faults
use Rattle.m2_base.specs.declared.token.Token.{Token}
use Rattle.m2_base.specs.declared.trees.declarations.StreamKind.TheVariants as streams
use Rattle.m2_base.specs.FaultsOf.{fault_in, code_of}
use Rattle.m2_base.specs.Grammar.{grammar, levels, main, imported, block as block_rule, a, ident, procedure_cut, stream as stream_rule_of}
use Rattle.m2_base.specs.Lists.{IsIn, Each}
use Rattle.m2_base.specs.Trees.{Stream}
use Rattle.m2_base.specs.Units.{AreNumbered, IsInner}
use Rattle.m2_base.specs.WholeTexts.{main_blocks, SpellsMain, IsFirstInMain}
use Rattle.ll_grammar.specs.Grammar.{Rule, many, sub, then, one, optional, Grammar}
use Rattle.ll_grammar.specs.Derivations.{Tree, tokens, Derives, of_token, of_then, over}
use Rattle.ll_grammar.specs.Sentences.{Fault, Syntax, TooDeep, SameHead, Faulty}
use Rattle.stream_split.specs.declared.sorts.Sort.{Sort}
use Rattle.stream_split.specs.declared.sorts.Sort.TheVariants.{Stop, Word, Procedure, Opener, Closer, Left, Right, Semicolon, Other}
use Rattle.stream_split.specs.declared.cutter.Mode.{Mode}
use Rattle.stream_split.specs.Agreement.{SpellsStream, SpellsStreams, IsFaultOf, IsFirstOfStreams, fault_at}
use Rattle.stream_split.specs.Cut.{sort, State, state, amid, seen, heading, two_left, one_left, ended, start, next, after, events, opened, opens_by, heading_opens, heading_next, out_of, unless_stop, Event, Enclosed, to, pick}
use Rattle.stream_split.specs.Streams.{StreamOf, procedure_streams, procedure_stream, module_stream, main_streams}
use Rattle.stream_split.proofs.Picks.{same_number, pick_append}
use Rattle.stream_split.proofs.Parts.{stream_rule, streams_after, own, parts, sends, spread}
use Rattle.stream_split.proofs.Flow.{grammar_of, head, procedure_rule, Runs}
use Rattle.stream_split.proofs.Told.{told, told_streams, streams_from, counted, own_of, parts_of}
use Rattle.stream_split.proofs.Depths.{shallow}
use Rattle.stream_split.proofs.Future.{Numbered, count, count_out}
use Rattle.stream_split.proofs.First.{Ended, NotBefore, FirstOfStreams, first_fault, whole_runs, root}
use Rattle.stream_split.proofs.Checked.{cuttable, main_text, front, same_grammar}
use Rattle.stream_split.proofs.Closings.{streams_close}
use Rattle.stream_split.proofs.EndFaults.{none_at_end}
use Rattle.stream_split.proofs.Rotations.{inward, outward, faulty_by}
use Rattle.stream_split.proofs.TreesAgree.{procedure_of_stream, same_blocks}

abbrev W : Grammar Token
W = grammar_of cuttable

-- ** The number of streams

count_heading : (k c : ℕ) (fs : List (ℕ × Mode)) (m : Mode) (q : ℕ) (hs : List Token) (t : Token) (z : Sort) → count (heading_next k c fs m q hs t z) ≡ c + length (heading_opens k fs q z)
count_heading k c fs m q hs t Stop = omega arith
count_heading k c fs m zero hs t Semicolon = omega arith
count_heading k c fs m (suc q) hs t Semicolon = omega arith
count_heading k c fs m q hs t Word = omega arith
count_heading k c fs m q hs t Procedure = omega arith
count_heading k c fs m q hs t Opener = omega arith
count_heading k c fs m q hs t Closer = omega arith
count_heading k c fs m q hs t Left = omega arith
count_heading k c fs m q hs t Right = omega arith
count_heading k c fs m q hs t Other = omega arith

count_one : (k c : ℕ) (fs : List (ℕ × Mode)) (z : Sort) → count (unless_stop z (state k c fs ended) (out_of k c fs)) ≡ c
count_one k c fs Stop = refl
count_one k c fs z = count_out k c fs

count_step : (s : State) (t : Token) → count (next s t) ≡ count s + length (opens_by s (sort t.kind))
count_step (state k c fs (amid m)) t = omega arith
count_step (state k c fs (seen m u)) t = omega arith
count_step (state k c fs (heading m q hs)) t = count_heading k c fs m q hs t (sort t.kind)
count_step (state k c fs two_left) t = omega arith
count_step (state k c fs one_left) t = let e = count_one k c fs (sort t.kind) in omega (arith, e)
count_step (state k c fs ended) t = omega arith

count_opened : (s : State) (ts : List Token) → count (after s ts) ≡ count s + length (opened s ts)
count_opened s [] = omega arith
count_opened s (t ∷ ts) =
    let i = count_opened (next s t) ts in
    let j = count_step s t in
    let l = length-append (opens_by s (sort t.kind)) (opened (next s t) ts) in
    omega (arith, i, j, l)

-- ** Trees

pub regroup : {A : Type 0} (xs ys zs : List A) (a b c d e : A) → (xs ++ (a ∷ b ∷ c ∷ (ys ++ (zs ++ (d ∷ []))))) ++ (e ∷ []) ≡ xs ++ (a ∷ b ∷ c ∷ (ys ++ (zs ++ (d ∷ e ∷ []))))
regroup xs ys zs a b c d e =
    append_assoc xs (a ∷ b ∷ c ∷ (ys ++ (zs ++ (d ∷ [])))) (e ∷ [])
    ∙ ap (λ q. xs ++ (a ∷ b ∷ c ∷ q)) (append_assoc ys (zs ++ (d ∷ [])) (e ∷ []) ∙ ap (λ q. ys ++ q) (append_assoc zs (d ∷ []) (e ∷ [])))

main_runs : {e : Tree Token} (m : ℕ) → Derives W (main sub) e → Runs (start m) (tokens e) (state m (streams_after (suc m) e) [] ended) (sends m (suc m) e)
main_runs m (of_then {d = im} gm (of_then (of_token {t = w} gw) (of_then (of_token {t = i} gi) (of_then (of_token {t = s} gs) (of_then {d = is} gis (of_then {d = b} gb (of_then (of_token {t = p} gp) (of_token {t = z} gz)))))))) =
    let r = whole_runs cuttable main_text m (of_then (of_then gm (of_then (of_token {t = w} gw) (of_then (of_token {t = i} gi) (of_then (of_token {t = s} gs) (of_then gis (of_then gb (of_token {t = p} gp))))))) (of_token {t = z} gz)) in
    let c1 : ℕ = streams_after (suc m) im in
    let same = regroup (tokens im) (tokens is) (tokens b) w i s p z in
    record {
      state_is = ap (after (start m)) (sym same) ∙ r.state_is;
      events_are = ap (events (start m)) (sym same) ∙ r.events_are ∙ regroup (sends m (suc m) im) (sends m c1 is) (sends m (streams_after c1 is) b) (m, w) (m, i) (m, s) (m, p) (m, z);
    }

-- the streams of procedures, each with its tree
zip : (ps : List Enclosed) (ys : List (Tree Token)) (j : ℕ) (es : List Event) → length ps ≡ length ys → streams_from j (length ys) es ≡ map tokens ys
    → All (λ y. Derives grammar (stream_rule_of streams.Procedure) y) ys → All (λ y. over levels y ≡ None) ys
    → AllZip SpellsStream (map procedure_of_stream ys) (procedure_streams j ps es)
zip [] [] j es l h d o = tt
zip [] (y ∷ ys) j es l h d o = let no : ⊥ = omega (arith, l) in absurd no
zip (p ∷ ps) [] j es l h d o = let no : ⊥ = omega (arith, l) in absurd no
zip (p ∷ ps) (y ∷ ys) j es l h d o =
    let one : pick j es ≡ tokens y = cc in
    let others : streams_from (suc j) (length ys) es ≡ map tokens ys = cc in (
      record { sentence = record { tree = y; derives = All-head (λ y. Derives grammar (stream_rule_of streams.Procedure) y) y ys d; spells = sym one; within = All-head (λ y. over levels y ≡ None) y ys o }; gives = refl },
      zip ps ys (suc j) es (omega (arith, l)) others (All-tail (λ y. Derives grammar (stream_rule_of streams.Procedure) y) y ys d) (All-tail (λ y. over levels y ≡ None) y ys o),
    )

pub trees_agree : (m : ℕ) (ts : List Token) (trees : List Stream) → SpellsMain m trees ts → SpellsStreams trees (main_streams m ts)
trees_agree m ts trees h = on h.sentence.tree (subst (λ g. Derives g (main sub) h.sentence.tree) same_grammar h.sentence.derives) h.sentence.spells h.sentence.within h.gives
  where
    pick_spread : (e : Tree Token) (j : ℕ) → pick j (spread m (own (suc m) e ∷ parts (suc m) e)) ≡ pick j (to m (tokens (own (suc m) e))) ++ pick j (spread (suc m) (parts (suc m) e))
    pick_spread e j = pick_append j (to m (tokens (own (suc m) e))) (spread (suc m) (parts (suc m) e))

    to_grammar : {r : Rule} {x : Tree Token} → Derives W r x → Derives grammar r x
    to_grammar {r} {x} d = subst (λ g. Derives g r x) (sym same_grammar) d

    all_grammar : (ys : List (Tree Token)) → All (λ y. Derives W (procedure_rule cuttable) y) ys → All (λ y. Derives grammar (stream_rule_of streams.Procedure) y) ys
    all_grammar [] a = All-nil (λ y. Derives grammar (stream_rule_of streams.Procedure) y)
    all_grammar (y ∷ ys) a = All-cons (λ y. Derives grammar (stream_rule_of streams.Procedure) y) y ys (to_grammar (All-head (λ y. Derives W (procedure_rule cuttable) y) y ys a)) (all_grammar ys (All-tail (λ y. Derives W (procedure_rule cuttable) y) y ys a))

    on : (e : Tree Token) → Derives W (main sub) e → tokens e ≡ ts → over levels e ≡ None → main_blocks m e [] ≡ trees → SpellsStreams trees (main_streams m ts)
    on e g is o v =
        let r = main_runs m g in
        let es : List Event = events (start m) (tokens e) in
        let ps : List Enclosed = opened (start m) (tokens e) in
        let num = counted cuttable g (suc m) in
        let c = count_opened (start m) (tokens e) in
        let d = ap count r.state_is in
        let l : length ps ≡ length (parts (suc m) e) = omega (arith, num, c, d) in
        let lists : streams_from m (suc (length (parts (suc m) e))) es ≡ tokens (own (suc m) e) ∷ map tokens (parts (suc m) e) =
        ap (streams_from m (suc (length (parts (suc m) e)))) r.events_are ∙ told_streams (sends m (suc m) e) m (own (suc m) e ∷ parts (suc m) e) (λ j low. told cuttable g j m (suc m) (omega arith) ∙ sym (pick_spread e j)) in
        let one : pick m es ≡ tokens (own (suc m) e) = cc in
        let others : streams_from (suc m) (length (parts (suc m) e)) es ≡ map tokens (parts (suc m) e) = cc in
        let s = shallow cuttable g levels (suc m) o in
        subst (λ q. SpellsStreams trees (main_streams m q)) is
        (subst (λ q. SpellsStreams q (main_streams m (tokens e))) (same_blocks g m ∙ v) (
          record { sentence = record { tree = own (suc m) e; derives = to_grammar (own_of cuttable g (suc m)); spells = sym one; within = s.mine }; gives = refl },
          zip ps (parts (suc m) e) (suc m) es l others (all_grammar (parts (suc m) e) (parts_of cuttable g (suc m))) s.theirs,
        ))

-- ** Faults

-- the parts of a main text before its last
abbrev before_period : Rule → List Rule
before_period procedure = optional (a Implementation) ∷ a Module ∷ ident ∷ a SemicolonKind ∷ many imported ∷ block_rule procedure ∷ []

module _ (f : Fault) (ts rest : List Token) where
  text_fault : Faulty grammar levels (main sub) f ts rest → Faulty W levels (then front (one 0)) f ts rest
  text_fault h =
      faulty_by W (main sub) (then front (one 0)) (outward W (before_period sub) (a Period) (a EndOfText)) (inward W (before_period sub) (a Period) (a EndOfText)) levels f ts rest
      (subst (λ g. Faulty g levels (main sub) f ts rest) same_grammar h)

  abbrev stream_front : Rule
  stream_front = then (stream_rule (head cuttable) front) (one 0)

  main_fault : Faulty grammar levels (stream_rule_of streams.Main) f ts rest → Faulty W levels stream_front f ts rest
  main_fault h =
      faulty_by W (main procedure_cut) stream_front (outward W (before_period procedure_cut) (a Period) (a EndOfText)) (inward W (before_period procedure_cut) (a Period) (a EndOfText)) levels f ts rest
      (subst (λ g. Faulty g levels (main procedure_cut) f ts rest) same_grammar h)

  main_fault_back : Faulty W levels stream_front f ts rest → Faulty grammar levels (stream_rule_of streams.Main) f ts rest
  main_fault_back h =
      subst (λ g. Faulty g levels (main procedure_cut) f ts rest) (sym same_grammar)
      (faulty_by W stream_front (main procedure_cut) (inward W (before_period procedure_cut) (a Period) (a EndOfText)) (outward W (before_period procedure_cut) (a Period) (a EndOfText)) levels f ts rest h)

numbered_of : (at : ℕ) (ts : List Token) → AreNumbered at ts → Numbered at ts
numbered_of at [] h = tt
numbered_of at (t ∷ []) h = (h.1, tt)
numbered_of at (t ∷ u ∷ ts) h = let one : at + 1 ≡ suc at = omega arith in (h.1, subst (λ z. Numbered z (u ∷ ts)) one (numbered_of (at + 1) (u ∷ ts) h.2))

not_end : (k : TokenKind) → IsInner k → k ≡ kinds.EndOfText → ⊥
not_end k h e = subst IsInner e h

ended_of : (at : ℕ) (ts : List Token) → AreNumbered at ts → Ended ts
ended_of at [] h = absurd h
ended_of at (t ∷ []) h = record { before = []; last_token = t; is = refl; end = h.0; inner = All-nil (λ t. t.kind ≡ kinds.EndOfText → ⊥) }
ended_of at (t ∷ u ∷ ts) h =
    let i = ended_of (at + 1) (u ∷ ts) h.2 in
    record { before = t ∷ i.before; last_token = i.last_token; is = ap (λ z. t ∷ z) i.is; end = i.end; inner = All-cons (λ t. t.kind ≡ kinds.EndOfText → ⊥) t i.before (not_end t.kind h.0) i.inner }

-- what is told of a fault depends on its token
same_told : (text : ℕ) (f : Fault) (xs ys : List Token) → SameHead xs ys → fault_in text f xs ≡ fault_in text f ys
same_told text f [] [] h = refl
same_told text f [] (y ∷ ys) h = absurd h
same_told text f (x ∷ xs) [] h = absurd h
same_told text Syntax (x ∷ xs) (y ∷ ys) h = λ k. faults.Syntax (record { text = text; at = (h k).at; code = code_of (h k ∷ []) })
same_told text TooDeep (x ∷ xs) (y ∷ ys) h = λ k. faults.TooDeep text (h k).at

told_at : (text : ℕ) (f : Fault) (x : Token) (xs : List Token) → fault_at (fault_in text f (x ∷ xs)) ≡ x.at
told_at text Syntax x xs = refl
told_at text TooDeep x xs = refl

-- the fault of another stream, which is not at its end
not_before : (text : ℕ) (f g : Fault) (rest w : List Token) (other : StreamFault) → (w ≡ [] → ⊥) → other ≡ fault_in text g w → NotBefore f rest g w
    → (other ≡ fault_in text f rest) ⊎ (fault_at (fault_in text f rest) < fault_at other)
not_before text f g rest [] other n o h = absurd (n refl)
not_before text f g [] (y ∷ ys) other n o h = absurd h
not_before text f g (x ∷ xs) (y ∷ ys) other n o (inl h) =
    inr (subst (λ z. fault_at (fault_in text f (x ∷ xs)) < fault_at z) (sym o) (subst (λ z. fault_at (fault_in text f (x ∷ xs)) < z) (sym (told_at text g y ys)) (subst (λ z. z < y.at) (sym (told_at text f x xs)) h)))
not_before text f g (x ∷ xs) (y ∷ ys) other n o (inr h) = inl (o ∙ ap (λ z. fault_in text z (y ∷ ys)) h.1 ∙ same_told text f (y ∷ ys) (x ∷ xs) h.0)

-- the streams of procedures by their numbers
less_apart : (j c : ℕ) → c ≤ j → (j == c) ≡ false → suc c ≤ j
less_apart j c h e = grind arith

find : (c : ℕ) (ps : List Enclosed) (es : List Event) (j : ℕ) → c ≤ j → j < c + length ps → (p : Enclosed) × IsIn (procedure_stream j p (pick j es)) (procedure_streams c ps es)
find c [] es j l h = let no : ⊥ = omega (arith, l, h) in absurd no
find c (p ∷ ps) es j l h = on (j == c) refl (λ low. find (suc c) ps es j low (omega (arith, h)))
  where
    on : (b : Bool) → (j == c) ≡ b → (suc c ≤ j → (q : Enclosed) × IsIn (procedure_stream j q (pick j es)) (procedure_streams (suc c) ps es))
        → (q : Enclosed) × IsIn (procedure_stream j q (pick j es)) (procedure_streams c (p ∷ ps) es)
    on true e r = (p, inl (ap (λ z. procedure_stream z p (pick z es)) (eqb-true j c e)))
    on false e r = let i = r (less_apart j c l e) in (i.0, inr i.1)

each : (P : StreamOf → Type 0) (c : ℕ) (ps : List Enclosed) (es : List Event) → ((j : ℕ) (p : Enclosed) → c ≤ j → j < c + length ps → P (procedure_stream j p (pick j es))) → Each P (procedure_streams c ps es)
each P c [] es h = tt
each P c (p ∷ ps) es h = (h c p (omega arith) (omega arith), each P (suc c) ps es (λ j q l u. h j q (omega (arith, l)) (omega (arith, u))))

root_is : (m : ℕ) → root cuttable main_text m m ≡ then (stream_rule (head cuttable) front) (one 0)
root_is m = ap (λ b. cond b (then (stream_rule (head cuttable) front) (one 0)) (procedure_rule cuttable)) (same_number m)

root_other : (m j : ℕ) → suc m ≤ j → root cuttable main_text m j ≡ procedure_rule cuttable
root_other m j h = ap (λ b. cond b (then (stream_rule (head cuttable) front) (one 0)) (procedure_rule cuttable)) (apart j m h)
  where
    apart : (j m : ℕ) → suc m ≤ j → (j == m) ≡ false
    apart j m h = grind arith

module _ (m text : ℕ) (ts : List Token) where
  abbrev es : List Event
  es = events (start m) ts

  -- the stream with the fault
  one_of : (f : Fault) (rest : List Token) (i : FirstOfStreams cuttable main_text m levels f ts rest) → (s : StreamOf) × IsIn s (main_streams m ts) × IsFaultOf text (fault_in text f rest) s
  one_of f rest i = on (i.number == m) refl
    where
      told : fault_in text f rest ≡ fault_in text f i.rest'
      told = same_told text f rest i.rest' i.here

      on : (b : Bool) → (i.number == m) ≡ b → (s : StreamOf) × IsIn s (main_streams m ts) × IsFaultOf text (fault_in text f rest) s
      on true e =
          let is : i.number ≡ m = eqb-true i.number m e in
          let h = subst (λ r. Faulty W levels r f (pick m es) i.rest') (root_is m) (subst (λ z. Faulty W levels (root cuttable main_text m z) f (pick z es) i.rest') is i.faulty) in
          (module_stream m (pick m es), inl refl, record { fault = f; rest = i.rest'; faulty = main_fault_back f (pick m es) i.rest' h; told = told })
      on false e =
          let low : suc m ≤ i.number = less_apart i.number m i.low e in
          let h = subst (λ g. Faulty g levels (procedure_rule cuttable) f (pick i.number es) i.rest') (sym same_grammar) (subst (λ r. Faulty W levels r f (pick i.number es) i.rest') (root_other m i.number low) i.faulty) in
          let c = count_opened (start m) ts in
          let x = i.exists in
          let j = find (suc m) (opened (start m) ts) es i.number low (omega (arith, c, x)) in
          (procedure_stream i.number j.0 (pick i.number es), inr j.1, record { fault = f; rest = i.rest'; faulty = h; told = told })

  pub fault_agrees : (fault : StreamFault) → AreNumbered 0 ts → IsFirstInMain text fault ts → IsFirstOfStreams text fault (main_streams m ts)
  fault_agrees fault n h =
      let ended = ended_of 0 ts n in
      let i = first_fault cuttable main_text m levels ts (numbered_of 0 ts n) ended h.fault h.rest (text_fault h.fault ts h.rest h.faulty) in
      let c = count_opened (start m) ts in
      let later : (j : ℕ) → m ≤ j → j < count (after (start m) ts) → (g : Fault) (w : List Token) (other : StreamFault) → Faulty W levels (root cuttable main_text m j) g (pick j es) w → other ≡ fault_in text g w → (other ≡ fault_in text h.fault h.rest) ⊎ (fault_at (fault_in text h.fault h.rest) < fault_at other) =
      λ j low up g w other q o. not_before text h.fault g h.rest w other (λ e. none_at_end m j levels g (pick j es) (streams_close m ts ended j low up) (subst (Faulty W levels (root cuttable main_text m j) g (pick j es)) e q)) o (i.others j g w low q) in
      subst (λ z. IsFirstOfStreams text z (main_streams m ts)) (sym h.told)
      (record {
        one = one_of h.fault h.rest i;
        others = (
          λ other q. later m (omega arith) (omega (arith, c)) q.fault q.rest other (subst (λ r. Faulty W levels r q.fault (pick m es) q.rest) (sym (root_is m)) (main_fault q.fault (pick m es) q.rest q.faulty)) q.told,
          each (λ s. (other : StreamFault) → IsFaultOf text other s → (other ≡ fault_in text h.fault h.rest) ⊎ (fault_at (fault_in text h.fault h.rest) < fault_at other)) (suc m) (opened (start m) ts) es
              (λ j p low up other q. later j (omega (arith, low)) (omega (arith, c, up)) q.fault q.rest other (subst (λ r. Faulty W levels r q.fault (pick j es) q.rest) (sym (root_other m j low)) (subst (λ g. Faulty g levels (procedure_rule cuttable) q.fault (pick j es) q.rest) same_grammar q.faulty)) q.told),
        );
      })
