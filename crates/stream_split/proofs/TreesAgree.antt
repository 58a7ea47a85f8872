-- The trees of a main text's streams are those of its blocks.
use Rattle.std.proofs.Common.{◌≡◌, ℕ, suc, true, List, [], ◌∷◌, ◌++◌, refl, sym, ap, ◌∙◌, map, true≢false}
use Rattle.std.proofs.lemmas.List.{append-nil}
use Rattle.m2_base.specs.declared.token.Token.{Token}
use Rattle.m2_base.specs.ExpressionsOf.{ident_of}
use Rattle.m2_base.specs.Grammar.{main, declaration, block as block_rule}
use Rattle.m2_base.specs.StreamsOf.{declaration_of, declarations_of, block_of, body_of, heading_of, imports_of, main_of, main_tree, procedure_tree, procedure_stream_of}
use Rattle.m2_base.specs.Trees.{Stream}
use Rattle.m2_base.specs.TypesOf.{is_there}
use Rattle.m2_base.specs.WholeTexts.{blocks_after, declaration_from, declarations_from, block_from, procedures_from, main_blocks}
use Rattle.ll_grammar.specs.Grammar.{Rule, many, sub, Grammar}
use Rattle.ll_grammar.specs.Derivations.{Tree, leaf, both, left, right, more, Derives, of_empty, of_token, of_then, of_left, of_right, of_last, of_more, of_deep, of_sub}
use Rattle.ll_grammar.proofs.KindSets.{and_l, and_r}
use Rattle.stream_split.specs.Cut.{end_at}
use Rattle.stream_split.proofs.Checked.{cuttable}
use Rattle.stream_split.proofs.Definitions.{map_append}
use Rattle.stream_split.proofs.Flow.{grammar_of, plain}
use Rattle.stream_split.proofs.Parts.{streams_after, own, parts}
use Rattle.stream_split.proofs.Places.{same_body}

abbrev W : Grammar Token
W = grammar_of cuttable

-- in a part without procedures nothing is cut
pub record Uncut (c : ℕ) (x : Tree Token) : Type 0 where
  pub tree : own c x ≡ x
  pub number : streams_after c x ≡ c
  pub count : blocks_after c x ≡ c
  pub none : parts c x ≡ []

pub uncut : {r : Rule} {x : Tree Token} → Derives W r x → plain r ≡ true → (c : ℕ) → Uncut c x
uncut of_empty h c = record { tree = refl; number = refl; count = refl; none = refl }
uncut (of_token g) h c = record { tree = refl; number = refl; count = refl; none = refl }
uncut (of_then {r = r} {d = x} {e = y} g g') h c =
    let i = uncut g (and_l _ _ h) c in
    let j = uncut g' (and_r (plain r) _ h) c in
    record {
      tree = λ k. both (i.tree k) ((ap (λ z. own z y) i.number ∙ j.tree) k);
      number = ap (λ z. streams_after z y) i.number ∙ j.number;
      count = ap (λ z. blocks_after z y) i.count ∙ j.count;
      none = λ k. i.none k ++ (ap (λ z. parts z y) i.number ∙ j.none) k;
    }
uncut (of_left g) h c = let i = uncut g (and_l _ _ h) c in record { tree = ap left i.tree; number = i.number; count = i.count; none = i.none }
uncut (of_right {r = r} g) h c =
    let i = uncut g (and_r (plain r) _ h) c in record { tree = ap right i.tree; number = i.number; count = i.count; none = i.none }
uncut of_last h c = record { tree = refl; number = refl; count = refl; none = refl }
uncut (of_more {d = x} {ds = y} g g') h c =
    let i = uncut g h c in
    let j = uncut g' h c in
    record {
      tree = λ k. more (i.tree k) ((ap (λ z. own z y) i.number ∙ j.tree) k);
      number = ap (λ z. streams_after z y) i.number ∙ j.number;
      count = ap (λ z. blocks_after z y) i.count ∙ j.count;
      none = λ k. i.none k ++ (ap (λ z. parts z y) i.number ∙ j.none) k;
    }
uncut (of_deep g) h c = record { tree = refl; number = refl; count = refl; none = refl }
uncut (of_sub g) h c = absurd (true≢false (sym h))

pub same_count : {r : Rule} {x : Tree Token} → Derives W r x → (c : ℕ) → blocks_after c x ≡ streams_after c x
same_count of_empty c = refl
same_count (of_token g) c = refl
same_count (of_then {d = x} {e = y} g g') c = ap (λ z. blocks_after z y) (same_count g c) ∙ same_count g' (streams_after c x)
same_count (of_left g) c = same_count g c
same_count (of_right g) c = same_count g c
same_count of_last c = refl
same_count (of_more {d = x} {ds = y} g g') c = ap (λ z. blocks_after z y) (same_count g c) ∙ same_count g' (streams_after c x)
same_count (of_deep g) c = refl
same_count (of_sub (of_then {d = h} gh (of_then (of_token gs) (of_then {d = b} gb (of_token gl))))) c =
    ap (λ z. blocks_after z b) (uncut gh refl (suc c)).count ∙ same_count gb (suc c)

same_declaration : {d : Tree Token} → Derives W (declaration sub) d → (c : ℕ) → declaration_of (own c d) ≡ declaration_from c d
same_declaration (of_left g) c = ap (λ z. declaration_of (left z)) (uncut g refl c).tree
same_declaration (of_right (of_left g)) c = ap (λ z. declaration_of (right (left z))) (uncut g refl c).tree
same_declaration (of_right (of_right (of_left g))) c = ap (λ z. declaration_of (right (right (left z)))) (uncut g refl c).tree
same_declaration (of_right (of_right (of_right (of_sub (of_then gh (of_then (of_token gs) g)))))) c = refl

same_declarations : {ds : Tree Token} → Derives W (many (declaration sub)) ds → (c : ℕ) → declarations_of (own c ds) ≡ declarations_from c ds
same_declarations of_last c = refl
same_declarations (of_more {d = d} {ds = ds} g g') c =
    λ k. same_declaration g c k ++ (same_declarations g' (streams_after c d) ∙ ap (λ z. declarations_from z ds) (sym (same_count g c))) k

same_block : {b : Tree Token} → Derives W (block_rule sub) b → (c : ℕ) (v w : List Token) → block_of (own c b) v ≡ block_from c b w
same_block (of_then {d = ds} gd (of_then {d = b} gb (of_then (of_token {t = e} ge) (of_token {t = i} gi)))) c v w =
    λ k. record {
      decls = same_declarations gd c k;
      body = (ap (λ z. body_of z (e ∷ i ∷ v)) (uncut gb refl (streams_after c ds)).tree ∙ same_body b (e ∷ i ∷ v) (e ∷ i ∷ w) refl) k;
      close = ident_of (leaf i);
    }

-- the tree of a procedure's stream
abbrev pub procedure_of_stream : Tree Token → Stream
procedure_of_stream y = procedure_stream_of y []

same_procedures : {r : Rule} {x : Tree Token} → Derives W r x → (c : ℕ) → map procedure_of_stream (parts c x) ≡ procedures_from c x
same_procedures of_empty c = refl
same_procedures (of_token g) c = refl
same_procedures (of_then {d = x} {e = y} g g') c =
    map_append procedure_of_stream (parts c x) (parts (streams_after c x) y)
    ∙ (λ k. same_procedures g c k ++ (same_procedures g' (streams_after c x) ∙ ap (λ z. procedures_from z y) (sym (same_count g c))) k)
same_procedures (of_left g) c = same_procedures g c
same_procedures (of_right g) c = same_procedures g c
same_procedures of_last c = refl
same_procedures (of_more {d = x} {ds = y} g g') c =
    map_append procedure_of_stream (parts c x) (parts (streams_after c x) y)
    ∙ (λ k. same_procedures g c k ++ (same_procedures g' (streams_after c x) ∙ ap (λ z. procedures_from z y) (sym (same_count g c))) k)
same_procedures (of_deep g) c = refl
same_procedures (of_sub (of_then {d = h} gh (of_then (of_token {t = s} gs) (of_then {d = b} gb (of_token {t = l} gl))))) c =
    λ k. procedure_tree (heading_of h) (same_block gb (suc c) (l ∷ end_at l ∷ []) (l ∷ []) k) ∷ same_procedures gb (suc c) k

-- the trees of all streams of a main text are those of its blocks
pub same_blocks : {e : Tree Token} → Derives W (main sub) e → (m : ℕ)
    → main_of (own (suc m) e) [] ∷ map procedure_of_stream (parts (suc m) e) ≡ main_blocks m e []
same_blocks (of_then {d = im} gm (of_then (of_token {t = w} gw) (of_then (of_token {t = i} gi) (of_then (of_token {t = s} gs) (of_then {d = is} gis (of_then {d = b} gb (of_then (of_token {t = p} gp) (of_token {t = z} gz)))))))) m =
    let c : ℕ = suc m in
    let u = uncut gm refl c in
    let c1 : ℕ = streams_after c im in
    let v = uncut gis refl c1 in
    let c2 : ℕ = streams_after c1 is in
    let number : c2 ≡ c = v.number ∙ u.number in
    let block : block_of (own c2 b) (p ∷ z ∷ []) ≡ block_from c b (p ∷ z ∷ []) = ap (λ n. block_of (own n b) (p ∷ z ∷ [])) number ∙ same_block gb c (p ∷ z ∷ []) (p ∷ z ∷ []) in
    let procedures : parts c im ++ (parts c1 is ++ (parts c2 b ++ [])) ≡ parts c b =
    ap (λ q. q ++ (parts c1 is ++ (parts c2 b ++ []))) u.none ∙ ap (λ q. q ++ (parts c2 b ++ [])) v.none ∙ append-nil (parts c2 b) ∙ ap (λ n. parts n b) number in
    λ k. main_tree (is_there (u.tree k)) (ident_of (leaf i)) (imports_of (v.tree k)) (block k) ∷ (ap (map procedure_of_stream) procedures ∙ same_procedures gb c) k
