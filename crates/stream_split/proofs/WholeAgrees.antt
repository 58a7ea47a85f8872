-- Where all streams of a main text have trees, the text has them, and the first of their faults is the text's.
use Rattle.std.proofs.Common.{◌≡◌, ℕ, ◌<◌, List, [], ◌∷◌, refl, sym, subst, ◌⊎◌, inl, inr, ⊎_elim, arith}
use Rattle.m2_base.specs.declared.token.Token.{Token}
use Rattle.m2_base.specs.FaultsOf.{fault_in}
use Rattle.m2_base.specs.Grammar.{grammar, levels, main, stream}
use Rattle.m2_base.specs.Lists.{Each, IsIn}
use Rattle.m2_base.specs.declared.outputs.StreamFault.{StreamFault}
use Rattle.m2_base.specs.StreamsOf.{stream_of}
use Rattle.m2_base.specs.Trees.{Stream}
use Rattle.m2_base.specs.Units.{AreNumbered}
use Rattle.m2_base.specs.WholeTexts.{main_blocks, IsFirstInMain, SpellsMain}
use Rattle.m2_base.proofs.GrammarChecks.{is_ll1, stream_is_root, main_is_root}
use Rattle.ll_grammar.specs.Grammar.{sub}
use Rattle.ll_grammar.specs.Sentences.{Fault, Faulty}
use Rattle.ll_grammar.proofs.Decided.{is_decided}
use Rattle.ll_grammar.proofs.OneAnswer.{one_value}
use Rattle.ll_grammar.proofs.OneFault.{no_fault}
use Rattle.stream_split.specs.Agreement.{SpellsStreams, IsFaultOf, IsFirstOfStreams, fault_at}
use Rattle.stream_split.specs.Streams.{StreamOf, main_streams}
use Rattle.stream_split.proofs.Agree.{trees_agree, fault_agrees}

-- streams have one list of trees
one_list : (a b : List Stream) (ss : List StreamOf) → SpellsStreams a ss → SpellsStreams b ss → a ≡ b
one_list [] [] [] p q = refl
one_list [] [] (s ∷ ss) p q = absurd p
one_list [] (y ∷ b) [] p q = absurd q
one_list [] (y ∷ b) (s ∷ ss) p q = absurd p
one_list (x ∷ a) [] [] p q = absurd p
one_list (x ∷ a) [] (s ∷ ss) p q = absurd q
one_list (x ∷ a) (y ∷ b) [] p q = absurd p
one_list (x ∷ a) (y ∷ b) (s ∷ ss) p q =
    λ k. one_value grammar levels (stream s.kind) s.tokens is_ll1 (stream_is_root s.kind) (stream_of s.kind) x y p.0 q.0 k ∷ one_list a b ss p.1 q.1 k

-- a stream that spells a tree has no fault
spelled : (text : ℕ) (trees : List Stream) (ss : List StreamOf) (s : StreamOf) → SpellsStreams trees ss → IsIn s ss → (f : Fault) (rest : List Token) → Faulty grammar levels (stream s.kind) f s.tokens rest → ⊥
spelled text trees [] s p i f rest q = absurd i
spelled text [] (x ∷ ss) s p i f rest q = absurd p
spelled text (t ∷ trees) (x ∷ ss) s p (inl e) f rest q =
    no_fault grammar levels (stream x.kind) f x.tokens rest (subst (λ z. Faulty grammar levels (stream z.kind) f z.tokens rest) e q) p.0.sentence
spelled text (t ∷ trees) (x ∷ ss) s p (inr i) f rest q = spelled text trees ss s p.1 i f rest q

pub whole_agrees : (m : ℕ) (ts : List Token) (trees : List Stream) → AreNumbered 0 ts → SpellsStreams trees (main_streams m ts) → SpellsMain m trees ts
whole_agrees m ts trees n p = ⊎_elim
    (λ s.
    let found : SpellsMain m (main_blocks m s.tree []) ts = record { sentence = s; gives = refl } in
    subst (λ z. SpellsMain m z ts) (one_list (main_blocks m s.tree []) trees (main_streams m ts) (trees_agree m ts (main_blocks m s.tree []) found) p) found)
    (λ f.
    let first = fault_agrees m 0 ts (fault_in 0 f.0 f.1) n (record { fault = f.0; rest = f.1; faulty = f.2; told = refl }) in
    let one = first.one in
    absurd (spelled 0 trees (main_streams m ts) one.0 p one.1 one.2.fault one.2.rest one.2.faulty))
    (is_decided grammar (main sub) is_ll1 main_is_root levels ts)

each_at : {A : Type 0} (P : A → Type 0) (x : A) (xs : List A) → Each P xs → IsIn x xs → P x
each_at P x [] h i = absurd i
each_at P x (y ∷ xs) h (inl e) = subst P (sym e) h.0
each_at P x (y ∷ xs) h (inr i) = each_at P x xs h.1 i

-- streams have one first fault
one_first : (text : ℕ) (ss : List StreamOf) (a b : StreamFault) → IsFirstOfStreams text a ss → IsFirstOfStreams text b ss → a ≡ b
one_first text ss a b p q =
    by (each_at (λ s. (other : StreamFault) → IsFaultOf text other s → (other ≡ b) ⊎ (fault_at b < fault_at other)) p.one.0 ss q.others p.one.1 a p.one.2)
    (each_at (λ s. (other : StreamFault) → IsFaultOf text other s → (other ≡ a) ⊎ (fault_at a < fault_at other)) q.one.0 ss p.others q.one.1 b q.one.2)
  where
    by : (a ≡ b) ⊎ (fault_at b < fault_at a) → (b ≡ a) ⊎ (fault_at a < fault_at b) → a ≡ b
    by (inl e) j = e
    by (inr l) (inl e) = sym e
    by (inr l) (inr k) = absurd (omega (arith, l, k))

pub refused_agrees : (m text : ℕ) (ts : List Token) (fault : StreamFault) → AreNumbered 0 ts → IsFirstOfStreams text fault (main_streams m ts) → IsFirstInMain text fault ts
refused_agrees m text ts fault n h = ⊎_elim
    (λ s.
    let found : SpellsMain m (main_blocks m s.tree []) ts = record { sentence = s; gives = refl } in
    let one = h.one in
    absurd (spelled text (main_blocks m s.tree []) (main_streams m ts) one.0 (trees_agree m ts (main_blocks m s.tree []) found) one.1 one.2.fault one.2.rest one.2.faulty))
    (λ f.
    let first : IsFirstInMain text (fault_in text f.0 f.1) ts = record { fault = f.0; rest = f.1; faulty = f.2; told = refl } in
    subst (λ z. IsFirstInMain text z ts) (sym (one_first text (main_streams m ts) fault (fault_in text f.0 f.1) h (fault_agrees m text ts (fault_in text f.0 f.1) n first))) first)
    (is_decided grammar (main sub) is_ll1 main_is_root levels ts)
