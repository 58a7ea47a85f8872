-- The earliest faults of the streams are those of the texts.
use Rattle.std.proofs.Common.{◌≡◌, ◌∙◌, ◌⊎◌, inl, inr, ⊎_elim, ℕ, zero, suc, ◌+◌, ◌<◌, ◌≤◌, Bool, true, false, List, [], ◌∷◌, ◌++◌, length, Option, Some, None, refl, sym, ap, subst, arith}
use Rattle.std.specs.List.{AllZip}
use Rattle.std.specs.Prelude.{slice_get, slice_index_or}
use Rattle.ll_grammar.specs.Grammar.{sub}
use Rattle.ll_grammar.specs.Sentences.{Fault, Syntax, TooDeep}
use Rattle.ll_grammar.proofs.Decided.{is_decided}
use Rattle.ll_grammar.proofs.OneAnswer.{one_first_fault}
use Rattle.ll_grammar.proofs.OneFault.{no_fault}
use Rattle.m2_base.specs.FaultsOf.{fault_in}
use Rattle.m2_base.specs.Finished.{main_number, main_tokens, tokens_in, tokens_of}
use Rattle.m2_base.specs.Grammar.{grammar, levels, main, stream}
use Rattle.m2_base.specs.Lists.{Each, IsIn, WhereKept}
use Rattle.m2_base.specs.Trees.{Stream}
use Rattle.m2_base.specs.Units.{HasOneMain, IsDefinition, IsUnit, TextOf, UnitTexts}
use Rattle.m2_base.specs.WholeTexts.{IsFirstInDefinition, IsFirstInMain, SpellsDefinition, SpellsMain, main_blocks}
use Rattle.m2_base.specs.declared.outputs.Output.{Output}
use Rattle.m2_base.specs.declared.outputs.StreamFault.{StreamFault}
use Rattle.m2_base.specs.declared.token.Token.{Token}
use Rattle.m2_base.proofs.GrammarChecks.{is_ll1, main_is_root}
use Rattle.stream_split.specs.Agreement.{IsFaultOf, IsFirstOfStreams, SpellsStream, SpellsStreams, fault_at}
use Rattle.stream_split.specs.Cut.{Enclosed, Event, events, opened, start}
use Rattle.stream_split.specs.Streams.{StreamOf, definition_stream, definition_streams, main_streams, procedure_streams, streams_of}
use Rattle.stream_split.proofs.Agree.{fault_agrees, trees_agree}
use Rattle.stream_split.proofs.DefinitionTexts.{definition_whole}
use Rattle.stream_split.proofs.StreamCounts.{main_numbered}
use Rattle.stream_split.proofs.WholeAgrees.{whole_agrees}
use Rattle.unit_merge.specs.Earliest.{AreOf, earliest, text_of}
use Rattle.unit_merge.specs.Outputs.{IsFaultTold, IsOutputOf, told_by}
use Rattle.unit_merge.specs.TextFaults.{AreFaults, AreFaultsFrom, IsFaultOfText, IsFirstIn, Spells}
use Rattle.unit_merge.proofs.Earliest.{IsEarliest, earliest_is, earliest_length}

-- ** Lists

in_append : {A : Type 0} (x : A) (xs ys : List A) → IsIn x (xs ++ ys) → IsIn x xs ⊎ IsIn x ys
in_append x [] ys h = inr h
in_append x (y ∷ xs) ys (inl e) = inl (inl e)
in_append x (y ∷ xs) ys (inr h) = by (in_append x xs ys h)
  where
    by : IsIn x xs ⊎ IsIn x ys → IsIn x (y ∷ xs) ⊎ IsIn x ys
    by (inl i) = inl (inr i)
    by (inr i) = inr i

in_left : {A : Type 0} (x : A) (xs ys : List A) → IsIn x xs → IsIn x (xs ++ ys)
in_left x [] ys h = absurd h
in_left x (z ∷ xs) ys (inl e) = inl e
in_left x (z ∷ xs) ys (inr h) = inr (in_left x xs ys h)

in_right : {A : Type 0} (x : A) (xs ys : List A) → IsIn x ys → IsIn x (xs ++ ys)
in_right x [] ys h = h
in_right x (z ∷ xs) ys h = inr (in_right x xs ys h)

each_at : {A : Type 0} (P : A → Type 0) (x : A) (xs : List A) → Each P xs → IsIn x xs → P x
each_at P x [] h i = absurd i
each_at P x (y ∷ xs) h (inl e) = subst P (sym e) h.0
each_at P x (y ∷ xs) h (inr i) = each_at P x xs h.1 i

each_from : {A : Type 0} (P : A → Type 0) (xs : List A) → ((x : A) → IsIn x xs → P x) → Each P xs
each_from P [] f = tt
each_from P (x ∷ xs) f = (f x (inl refl), each_from P xs (λ y i. f y (inr i)))

-- ** What is told of the streams

-- what is told of a stream
record Told (told : List (Option StreamFault)) (s : StreamOf) : Type 0 where
  fault : Option StreamFault
  there : IsIn fault told
  is : IsFaultTold s fault

-- the stream of which something is told
record TellsOf (streams : List StreamOf) (f : StreamFault) : Type 0 where
  s : StreamOf
  there : IsIn s streams
  is : IsFaultOf s.text f s

told_of : (streams : List StreamOf) (outputs : List Output) → AllZip IsOutputOf streams outputs → (s : StreamOf) → IsIn s streams → Told (told_by outputs) s
told_of [] outputs h s i = absurd i
told_of (x ∷ streams) [] h s i = absurd h
told_of (x ∷ streams) (o ∷ outputs) h s (inl e) = record { fault = o.fault; there = inl refl; is = subst (λ y. IsFaultTold y o.fault) (sym e) h.0.fault }
told_of (x ∷ streams) (o ∷ outputs) h s (inr i) =
    let r = told_of streams outputs h.1 s i in
    record { fault = r.fault; there = inr r.there; is = r.is }

tells_of : (streams : List StreamOf) (outputs : List Output) → AllZip IsOutputOf streams outputs → (f : StreamFault) → IsIn (Some f) (told_by outputs) → TellsOf streams f
tells_of [] [] h f i = absurd i
tells_of [] (o ∷ outputs) h f i = absurd h
tells_of (x ∷ streams) [] h f i = absurd i
tells_of (x ∷ streams) (o ∷ outputs) h f (inl e) = record { s = x; there = inl refl; is = subst (IsFaultTold x) (sym e) h.0.fault }
tells_of (x ∷ streams) (o ∷ outputs) h f (inr i) =
    let r = tells_of streams outputs h.1 f i in
    record { s = r.s; there = inr r.there; is = r.is }

-- a stream's first fault is of its text
fault_text : (text : ℕ) (s : StreamOf) (f : StreamFault) → IsFaultOf text f s → text_of f ≡ text
fault_text text s f h = ap text_of h.told ∙ by h.fault
  where
    by : (reason : Fault) → text_of (fault_in text reason h.rest) ≡ text
    by Syntax = refl
    by TooDeep = refl

-- a stream that spells a tree has no fault
never_both : (s : StreamOf) (tree : Stream) (text : ℕ) (f : StreamFault) → SpellsStream tree s → IsFaultOf text f s → ⊥
never_both s tree text f h k = no_fault grammar levels (stream s.kind) k.fault s.tokens k.rest k.faulty h.sentence

one_fault_of : (s : StreamOf) (text : ℕ) (f g : StreamFault) → IsFaultOf text f s → IsFaultOf text g s → f ≡ g
one_fault_of s text f g h k = one_first_fault grammar levels (stream s.kind) s.tokens (fault_in text) f g h k

-- ** The streams of a unit

-- the stream of a definition text
abbrev IsOfDefinition : UnitTexts → StreamOf → Type 0
IsOfDefinition u s = (j k : ℕ) × IsIn k u.order × (s ≡ definition_stream j k (tokens_of u k))

definition_is : (u : UnitTexts) (j : ℕ) (order : List ℕ) (s : StreamOf) → IsIn s (definition_streams j u.list order) → (i k : ℕ) × IsIn k order × (s ≡ definition_stream i k (tokens_of u k))
definition_is u j [] s h = absurd h
definition_is u j (k ∷ order) s (inl e) = (j, k, inl refl, e)
definition_is u j (k ∷ order) s (inr h) = let r = definition_is u (suc j) order s h in (r.0, r.1, inr r.2, r.3)

definition_there : (u : UnitTexts) (j : ℕ) (order : List ℕ) (k : ℕ) → IsIn k order → (i : ℕ) × IsIn (definition_stream i k (tokens_of u k)) (definition_streams j u.list order)
definition_there u j [] k h = absurd h
definition_there u j (x ∷ order) k (inl e) = (j, inl (ap (λ (n : ℕ). definition_stream j n (tokens_of u n)) e))
definition_there u j (x ∷ order) k (inr h) = let r = definition_there u (suc j) order k h in (r.0, inr r.1)

procedure_text : (j : ℕ) (ps : List Enclosed) (es : List Event) (s : StreamOf) → IsIn s (procedure_streams j ps es) → s.text ≡ 0
procedure_text j [] es s h = absurd h
procedure_text j (p ∷ ps) es s (inl e) = ap (λ (x : StreamOf). x.text) e
procedure_text j (p ∷ ps) es s (inr h) = procedure_text (suc j) ps es s h

module _ (u : UnitTexts) where
  abbrev m : ℕ
  m = main_number u

  abbrev mains : List StreamOf
  mains = main_streams m (main_tokens u)

  main_text : (s : StreamOf) → IsIn s mains → s.text ≡ 0
  main_text s (inl e) = ap (λ (x : StreamOf). x.text) e
  main_text s (inr h) = procedure_text (suc m) (opened (start m) (main_tokens u)) (events (start m) (main_tokens u)) s h

  stream_is : (s : StreamOf) → IsIn s (streams_of u) → IsOfDefinition u s ⊎ IsIn s mains
  stream_is s h = by (in_append s (definition_streams 1 u.list u.order) mains h)
    where
      by : IsIn s (definition_streams 1 u.list u.order) ⊎ IsIn s mains → IsOfDefinition u s ⊎ IsIn s mains
      by (inl i) = inl (definition_is u 1 u.order s i)
      by (inr i) = inr i

  module _ (unit : IsUnit u) (outputs : List Output) (each : AllZip IsOutputOf (streams_of u) outputs) where
    abbrev told : List (Option StreamFault)
    told = told_by outputs

    -- ** A definition text

    definition_none : (k : ℕ) → IsIn k u.order → IsEarliest k told None → (tree : Stream) × SpellsDefinition (tree ∷ []) (tokens_of u k)
    definition_none k i none =
        let there = definition_there u 1 u.order k i in
        let s : StreamOf = definition_stream there.0 k (tokens_of u k) in
        let r = told_of (streams_of u) outputs each s (in_left s (definition_streams 1 u.list u.order) mains there.1) in
        by there.0 r.fault r.there r.is
      where
        by : (j : ℕ) (f : Option StreamFault) → IsIn f told → IsFaultTold (definition_stream j k (tokens_of u k)) f → (tree : Stream) × SpellsDefinition (tree ∷ []) (tokens_of u k)
        by j None there is = (is.0, definition_whole j k (tokens_of u k) (is.0 ∷ []) (is.1, tt))
        by j (Some f) there is = absurd (none.none refl f there (fault_text k (definition_stream j k (tokens_of u k)) f is))

    definition_first : (k : ℕ) (f : StreamFault) → 0 < k → IsIn (Some f) told → text_of f ≡ k → IsFirstInDefinition k f (tokens_of u k)
    definition_first k f positive i same =
        let r = tells_of (streams_of u) outputs each f i in
        let text : r.s.text ≡ k = sym (fault_text r.s.text r.s f r.is) ∙ same in
        by r.s text r.is (stream_is r.s r.there)
      where
        by : (s : StreamOf) → s.text ≡ k → IsFaultOf s.text f s → IsOfDefinition u s ⊎ IsIn s mains → IsFirstInDefinition k f (tokens_of u k)
        by s text is (inl d) =
            let here : IsFaultOf d.1 f (definition_stream d.0 d.1 (tokens_of u d.1)) = subst (λ (x : StreamOf). IsFaultOf x.text f x) d.3 is in
            let number : d.1 ≡ k = sym (ap (λ (x : StreamOf). x.text) d.3) ∙ text in
            subst (λ (n : ℕ). IsFirstInDefinition n f (tokens_of u n)) number here
        by s text is (inr h) = let zero_is = main_text s h in absurd (omega (arith, text, zero_is, positive))

    -- ** The main text

    abbrev ts : List Token
    ts = main_tokens u

    trees_of_mains : (streams : List StreamOf) → ((s : StreamOf) → IsIn s streams → (tree : Stream) × SpellsStream tree s) → (trees : List Stream) × SpellsStreams trees streams
    trees_of_mains [] f = ([], tt)
    trees_of_mains (s ∷ streams) f =
        let first = f s (inl refl) in
        let rest = trees_of_mains streams (λ x i. f x (inr i)) in
        (first.0 ∷ rest.0, (first.1, rest.1))

    told_main : (s : StreamOf) → IsIn s mains → Told told s
    told_main s i = told_of (streams_of u) outputs each s (in_right s (definition_streams 1 u.list u.order) mains i)

    main_none : IsEarliest 0 told None → (trees : List Stream) × SpellsMain m trees ts
    main_none none =
        let all = trees_of_mains mains (λ s i. let r = told_main s i in by s i r.fault r.there r.is) in
        (all.0, whole_agrees m ts all.0 (main_numbered u unit) all.1)
      where
        by : (s : StreamOf) → IsIn s mains → (f : Option StreamFault) → IsIn f told → IsFaultTold s f → (tree : Stream) × SpellsStream tree s
        by s i None there is = is
        by s i (Some f) there is = absurd (none.none refl f there (fault_text s.text s f is ∙ main_text s i))

    -- a fault of text 0 is of one of its streams
    main_fault : (f : StreamFault) → IsIn (Some f) told → text_of f ≡ 0 → (s : StreamOf) × IsIn s mains × IsFaultOf 0 f s
    main_fault f i same =
        let r = tells_of (streams_of u) outputs each f i in
        let text : r.s.text ≡ 0 = sym (fault_text r.s.text r.s f r.is) ∙ same in
        by r.s text r.is (stream_is r.s r.there)
      where
        by : (s : StreamOf) → s.text ≡ 0 → IsFaultOf s.text f s → IsOfDefinition u s ⊎ IsIn s mains → (s : StreamOf) × IsIn s mains × IsFaultOf 0 f s
        by s text is (inl d) =
            let number : d.1 ≡ 0 = sym (ap (λ (x : StreamOf). x.text) d.3) ∙ text in
            let positive : 0 < d.1 = (each_at (IsDefinition u.list) d.1 u.order unit.ordered d.2).0 in
            absurd (omega (arith, number, positive))
        by s text is (inr h) = (s, h, subst (λ (n : ℕ). IsFaultOf n f s) text is)

    spelled_never : (trees : List Stream) (streams : List StreamOf) → SpellsStreams trees streams → (s : StreamOf) → IsIn s streams → (text : ℕ) (f : StreamFault) → IsFaultOf text f s → ⊥
    spelled_never trees [] h s i text f k = absurd i
    spelled_never [] (x ∷ streams) h s i text f k = absurd h
    spelled_never (t ∷ trees) (x ∷ streams) h s (inl e) text f k = never_both x t text f h.0 (subst (IsFaultOf text f) e k)
    spelled_never (t ∷ trees) (x ∷ streams) h s (inr i) text f k = spelled_never trees streams h.1 s i text f k

    -- the fault of the text is told of one of its streams
    told_first : (f : StreamFault) → IsFirstOfStreams 0 f mains → IsIn (Some f) told × (text_of f ≡ 0)
    told_first f h =
        let s : StreamOf = h.one.0 in
        let r = told_main s h.one.1 in
        (by s r.fault r.there (main_text s h.one.1) r.is h.one.2, fault_text 0 s f h.one.2)
      where
        by : (s : StreamOf) (x : Option StreamFault) → IsIn x told → s.text ≡ 0 → IsFaultTold s x → IsFaultOf 0 f s → IsIn (Some f) told
        by s None there text is k = absurd (never_both s is.0 0 f is.1 k)
        by s (Some g) there text is k =
            let same : g ≡ f = one_fault_of s 0 g f (subst (λ (n : ℕ). IsFaultOf n g s) text is) k in
            subst (λ y. IsIn (Some y) told) same there

    main_first : (g : StreamFault) → IsEarliest 0 told (Some g) → IsFirstInMain 0 g ts
    main_first g h =
        let one = h.one g refl in
        let mine = main_fault g one.0 one.1 in
        ⊎_elim
        (λ s.
        let found : SpellsMain m (main_blocks m s.tree []) ts = record { sentence = s; gives = refl } in
        absurd (spelled_never (main_blocks m s.tree []) mains (trees_agree m ts (main_blocks m s.tree []) found) mine.0 mine.1 0 g mine.2))
        (λ f.
        let first : IsFirstInMain 0 (fault_in 0 f.0 f.1) ts = record { fault = f.0; rest = f.1; faulty = f.2; told = refl } in
        let streams = fault_agrees m 0 ts (fault_in 0 f.0 f.1) (main_numbered u unit) first in
        let its = told_first (fault_in 0 f.0 f.1) streams in
        let low = h.least g (fault_in 0 f.0 f.1) refl its.0 its.1 in
        subst (λ x. IsFirstInMain 0 x ts) {x = fault_in 0 f.0 f.1} (sym {b = fault_in 0 f.0 f.1} (by (fault_in 0 f.0 f.1) low (each_at (λ s. (other : StreamFault) → IsFaultOf 0 other s → (other ≡ fault_in 0 f.0 f.1) ⊎ (fault_at (fault_in 0 f.0 f.1) < fault_at other)) mine.0 mains streams.others mine.1 g mine.2))) first)
        (is_decided grammar (main sub) is_ll1 main_is_root levels ts)
      where
        by : (f : StreamFault) → fault_at g ≤ fault_at f → (g ≡ f) ⊎ (fault_at f < fault_at g) → g ≡ f
        by f low (inl e) = e
        by f low (inr l) = absurd (omega (arith, low, l))

    -- ** All texts

    -- each fault that is told is of a text of the unit
    pub told_low : AreOf (length u.list) told
    told_low = each_from (λ x. WhereKept x (λ f. text_of f < length u.list)) told (λ x i. by x i)
      where
        positive : (list : List TextOf) → HasOneMain list → 0 < length list
        positive [] h = absurd h
        positive (t ∷ list) h = omega arith

        low : (s : StreamOf) → IsOfDefinition u s ⊎ IsIn s mains → s.text < length u.list
        low s (inl d) =
            let text = ap (λ (x : StreamOf). x.text) d.3 in
            let there = (each_at (IsDefinition u.list) d.1 u.order unit.ordered d.2).1 in
            omega (arith, text, there)
        low s (inr h) = let text = main_text s h in let some = positive u.list unit.main in omega (arith, text, some)

        by : (x : Option StreamFault) → IsIn x told → WhereKept x (λ f. text_of f < length u.list)
        by None i = tt
        by (Some f) i =
            let r = tells_of (streams_of u) outputs each f i in
            let text = fault_text r.s.text r.s f r.is in
            let there = low r.s (stream_is r.s r.there) in
            omega (arith, text, there)

    module _ (all : (k : ℕ) → IsDefinition u.list k → IsIn k u.order) where
      abbrev faults : List (Option StreamFault)
      faults = earliest (length u.list) told

      tokens_at : (k : ℕ) (t : TextOf) → slice_get u.list k ≡ Some t → tokens_of u k ≡ t.tokens
      tokens_at k t e = ap tokens_in e

      main_is : (t : TextOf) → slice_get u.list 0 ≡ Some t → (r : Option StreamFault) → IsEarliest 0 told r → t.definition ≡ false → IsFaultOfText m 0 t r
      main_is t e None h d =
          let found = main_none h in
          subst (λ (b : Bool). Spells m b t) (sym d) (found.0, subst (SpellsMain m found.0) (tokens_at 0 t e) found.1)
      main_is t e (Some f) h d =
          subst (λ (b : Bool). IsFirstIn 0 b t f) (sym d) (subst (IsFirstInMain 0 f) (tokens_at 0 t e) (main_first f h))

      definition_fault : (k : ℕ) (t : TextOf) → slice_get u.list k ≡ Some t → IsDefinition u.list k → (r : Option StreamFault) → IsEarliest k told r → t.definition ≡ true → IsFaultOfText m k t r
      definition_fault k t e i None h d =
          let found = definition_none k (all k i) h in
          subst (λ (b : Bool). Spells m b t) (sym d) (found.0, subst (SpellsDefinition (found.0 ∷ [])) (tokens_at k t e) found.1)
      definition_fault k t e i (Some f) h d =
          let one = h.one f refl in
          subst (λ (b : Bool). IsFirstIn k b t f) (sym d) (subst (IsFirstInDefinition k f) (tokens_at k t e) (definition_first k f i.0 one.0 one.1))

      at : (k : ℕ) (t : TextOf) → slice_get u.list k ≡ Some t → k < length u.list → IsFaultOfText m k t (slice_index_or faults k None)
      at zero t e low = main_is t e (slice_index_or faults 0 None) (earliest_is (length u.list) told told_low 0 low) (first u.list unit.main e)
        where
          first : (list : List TextOf) → HasOneMain list → slice_get list 0 ≡ Some t → t.definition ≡ false
          first [] h e = absurd h
          first (x ∷ list) h e = let same : x ≡ t = cc in subst (λ (y : TextOf). y.definition ≡ false) same h.0
      at (suc k) t e low = definition_fault (suc k) t e (omega arith, low) (slice_index_or faults (suc k) None) (earliest_is (length u.list) told told_low (suc k) low) (behind u.list unit.main e)
        where
          got : (list : List TextOf) (i : ℕ) → Each (λ (x : TextOf). x.definition ≡ true) list → slice_get list i ≡ Some t → t.definition ≡ true
          got [] i h e = absurd cc
          got (x ∷ list) zero h e = let same : x ≡ t = cc in subst (λ (y : TextOf). y.definition ≡ true) same h.0
          got (x ∷ list) (suc i) h e = got list i h.1 e

          behind : (list : List TextOf) → HasOneMain list → slice_get list (suc k) ≡ Some t → t.definition ≡ true
          behind [] h e = absurd h
          behind (x ∷ list) h e = got list k h.1 e

      from : (k : ℕ) (list : List TextOf) (fs : List (Option StreamFault)) → length fs ≡ length list → ((i : ℕ) (t : TextOf) → slice_get list i ≡ Some t → IsFaultOfText m (k + i) t (slice_index_or fs i None)) → AreFaultsFrom m k list fs
      from k [] [] e f = tt
      from k [] (x ∷ fs) e f = absurd (omega (arith, e))
      from k (t ∷ list) [] e f = absurd (omega (arith, e))
      from k (t ∷ list) (x ∷ fs) e f =
          let here : k + 0 ≡ k = omega arith in (
            subst (λ (n : ℕ). IsFaultOfText m n t x) here (f 0 t refl),
            from (k + 1) list fs (omega (arith, e)) (λ i s g. let next : k + suc i ≡ k + 1 + i = omega arith in subst (λ (n : ℕ). IsFaultOfText m n s (slice_index_or fs i None)) next (f (suc i) s g)),
          )

      within : {A : Type 0} (xs : List A) (i : ℕ) (x : A) → slice_get xs i ≡ Some x → i < length xs
      within [] i x e = absurd cc
      within (y ∷ xs) zero x e = omega arith
      within (y ∷ xs) (suc i) x e = let low = within xs i x e in omega (arith, low)

      -- the earliest faults of the streams are the faults of the texts
      pub faults_are : AreFaults u faults
      faults_are =
          from 0 u.list faults (earliest_length (length u.list) told)
          (λ i t e. let same : i ≡ 0 + i = omega arith in subst (λ (n : ℕ). IsFaultOfText m n t (slice_index_or faults i None)) same (at i t e (within u.list i t e)))
