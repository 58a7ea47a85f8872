-- The blocks of a unit are surrounded as its streams say.
use Rattle.std.proofs.Common.{◌≡◌, ℕ, zero, suc, Bool, true, false, List, [], ◌∷◌, ◌++◌, refl, sym, ap, ◌∙◌, subst, cond, append_assoc, ◌==◌, length, length-append, ◌+◌, ◌<◌, ◌≤◌, arith, find, map, slice_get, Option, Some, None, ◌||◌}
use Rattle.std.proofs.lemmas.List.{append-nil}
use Rattle.std.specs.List.{list_any}
use Rattle.m2_base.specs.declared.token.Token.{Token}
use Rattle.m2_base.specs.ExpressionsOf.{ident_of}
use Rattle.m2_base.specs.Grammar.{main}
use Rattle.m2_base.specs.Statics.Blocks.{BlockTree, UnitTrees, blocks_of, blocks_of_main, declares, definition_blocks, encloser, home_of, main_block, main_blocks, procedure_block, with_own}
use Rattle.m2_base.specs.Statics.Contexts.{Block, DefinitionModule}
use Rattle.m2_base.specs.StreamsOf.{heading_of, imports_of, main_tree, procedure_tree}
use Rattle.m2_base.specs.Trees.{Stream}
use Rattle.m2_base.specs.TypesOf.{is_there}
use Rattle.m2_base.specs.Units.{TextOf, UnitTexts}
use Rattle.m2_base.specs.WholeTexts.{blocks_after, block_from, procedures_from, SpellsMain}
use Rattle.m2_base.specs.WholeTexts as whole
use Rattle.ll_grammar.specs.Derivations.{Tree, nothing, leaf, both, left, right, last, more, inner, part, tokens, Derives, of_empty, of_token, of_then, of_left, of_right, of_last, of_more, of_deep, of_sub}
use Rattle.ll_grammar.specs.Grammar.{Rule, sub, Grammar}
use Rattle.stream_split.specs.Chains.{outer_of, outer_in, chain_from, block_of, own_scope}
use Rattle.stream_split.specs.Cut.{Enclosed, Event, start, events, opened}
use Rattle.stream_split.specs.Streams.{StreamOf, procedure_streams, main_streams, definition_streams, streams_of, main_number, main_tokens}
use Rattle.stream_split.specs.Surroundings.{AreTreesOf, surroundings_of}
use Rattle.stream_split.proofs.Agree.{regroup}
use Rattle.stream_split.proofs.Checked.{cuttable, main_text, same_grammar}
use Rattle.stream_split.proofs.Declared.{has, later, has_low, has_high, block_declares}
use Rattle.stream_split.proofs.Definitions.{map_append, definitions_length}
use Rattle.stream_split.proofs.Enclosures.{enclosures, plain_enclosures, opens_whole}
use Rattle.stream_split.proofs.Flow.{grammar_of}
use Rattle.stream_split.proofs.Loop.{streams_append}
use Rattle.stream_split.proofs.Parts.{streams_after}
use Rattle.stream_split.proofs.Picks.{same_number}
use Rattle.stream_split.proofs.TreesAgree.{same_count, uncut}

abbrev W : Grammar Token
W = grammar_of cuttable

-- ** The blocks of procedures

-- the block of procedure c, which is declared in this one
abbrev inner_block : BlockTree → (c : ℕ) → (h b l : Tree Token) → BlockTree
inner_block o c h b l = record {
  block = record { scope = c; text = o.block.text; level = o.block.level + 1; home = o.block.home; own = o.block.own; chain = c ∷ o.block.chain };
  tree = procedure_tree (heading_of h) (block_from (suc c) b (tokens l));
}

-- the blocks of the procedures of a part of this block, from number c on
abbrev inner_blocks : BlockTree → (c : ℕ) → Tree Token → List BlockTree
inner_blocks o c nothing = []
inner_blocks o c (leaf t) = []
inner_blocks o c (both x y) = inner_blocks o c x ++ inner_blocks o (streams_after c x) y
inner_blocks o c (left x) = inner_blocks o c x
inner_blocks o c (right x) = inner_blocks o c x
inner_blocks o c last = []
inner_blocks o c (more x xs) = inner_blocks o c x ++ inner_blocks o (streams_after c x) xs
inner_blocks o c (inner x) = []
inner_blocks o c (part (both h (both s (both b l)))) = inner_block o c h b l ∷ inner_blocks (inner_block o c h b l) (suc c) b
inner_blocks o c (part _) = []

find_right : {A : Type 0} (test : A → Bool) (xs ys : List A) → find test xs ≡ None → find test (xs ++ ys) ≡ find test ys
find_right test [] ys h = refl
find_right {A} test (x ∷ xs) ys h = by (test x) h (find_right test xs ys)
  where
    by : (b : Bool) → cond b (Some x) (find test xs) ≡ None → (find test xs ≡ None → find test (xs ++ ys) ≡ find test ys) → cond b (Some x) (find test (xs ++ ys)) ≡ find test ys
    by true e i = cc
    by false e i = i e

find_left : {A : Type 0} (test : A → Bool) (xs ys : List A) → find test ys ≡ None → find test (xs ++ ys) ≡ find test xs
find_left test [] ys h = h
find_left test (x ∷ xs) ys h = ap (cond (test x) (Some x)) (find_left test xs ys h)

-- none of them declares a procedure with a number behind theirs
inner_declare : {r : Rule} {x : Tree Token} → Derives W r x → (o : BlockTree) (s c : ℕ) → streams_after c x ≤ s → encloser (inner_blocks o c x) s ≡ None
inner_declare of_empty o s c h = refl
inner_declare (of_token g) o s c h = refl
inner_declare (of_then {d = x} {e = y} g g') o s c h =
    let j = later g' (streams_after c x) in
    find_right (λ b. list_any (declares s) b.tree.decls) (inner_blocks o c x) _ (inner_declare g o s c (omega (arith, h, j))) ∙ inner_declare g' o s (streams_after c x) h
inner_declare (of_left g) o s c h = inner_declare g o s c h
inner_declare (of_right g) o s c h = inner_declare g o s c h
inner_declare of_last o s c h = refl
inner_declare (of_more {d = x} {ds = y} g g') o s c h =
    let j = later g' (streams_after c x) in
    find_right (λ b. list_any (declares s) b.tree.decls) (inner_blocks o c x) _ (inner_declare g o s c (omega (arith, h, j))) ∙ inner_declare g' o s (streams_after c x) h
inner_declare (of_deep g) o s c h = refl
inner_declare (of_sub (of_then {d = h} gh (of_then (of_token gs) (of_then {d = b} gb (of_token {t = l} gl))))) o s c low =
    let n : BlockTree = inner_block o c h b (leaf l) in
    ap (λ z. cond z (Some n) (encloser (inner_blocks n (suc c) b) s)) (block_declares gb s (suc c) (l ∷ []) ∙ has_high gb s (suc c) low)
    ∙ inner_declare gb n s (suc c) low

-- which of the blocks before encloses a procedure of a part of this block
abbrev Encloses : BlockTree → List BlockTree → ℕ → Tree Token → Type 0
Encloses o before c x = (s : ℕ) → c ≤ s → s < streams_after c x → encloser before s ≡ cond (has s c x) (Some o) None

or_right : (a b : Bool) → b ≡ false → (a || b) ≡ a
or_right true b e = refl
or_right false b e = e

or_left : (a b : Bool) → a ≡ false → (a || b) ≡ b
or_left a b e = ap (λ z. z || b) e

-- the blocks of the procedures come one after another
grows : {r : Rule} {x : Tree Token} → Derives W r x → (o : BlockTree) (c : ℕ) (before : List BlockTree) (rest : List Stream) → Encloses o before c x
    → main_blocks before c (procedures_from c x ++ rest) ≡ main_blocks (before ++ inner_blocks o c x) (streams_after c x) rest
grows of_empty o c before rest e = ap (λ z. main_blocks z c rest) (sym (append-nil before))
grows (of_token g) o c before rest e = ap (λ z. main_blocks z c rest) (sym (append-nil before))
grows (of_then {d = x} {e = y} g g') o c before rest e =
    let c1 : ℕ = streams_after c x in
    ap (main_blocks before c) (append_assoc (procedures_from c x) (procedures_from (blocks_after c x) y) rest)
    ∙ grows g o c before (procedures_from (blocks_after c x) y ++ rest) (λ s lo hi. let j = later g' c1 in e s lo (omega (arith, hi, j)) ∙ ap (λ z. cond z (Some o) None) (or_right _ _ (has_low g' s c1 hi)))
    ∙ ap (λ z. main_blocks (before ++ inner_blocks o c x) c1 (procedures_from z y ++ rest)) (same_count g c)
    ∙ grows g' o c1 (before ++ inner_blocks o c x) rest
    (λ s lo hi. let i = later g c in
    find_left (λ b. list_any (declares s) b.tree.decls) before _ (inner_declare g o s c lo) ∙ e s (omega (arith, lo, i)) hi ∙ ap (λ z. cond z (Some o) None) (or_left _ _ (has_high g s c lo)))
    ∙ ap (λ z. main_blocks z (streams_after c1 y) rest) (append_assoc before (inner_blocks o c x) (inner_blocks o c1 y))
grows (of_left g) o c before rest e = grows g o c before rest e
grows (of_right g) o c before rest e = grows g o c before rest e
grows of_last o c before rest e = ap (λ z. main_blocks z c rest) (sym (append-nil before))
grows (of_more {d = x} {ds = y} g g') o c before rest e =
    let c1 : ℕ = streams_after c x in
    ap (main_blocks before c) (append_assoc (procedures_from c x) (procedures_from (blocks_after c x) y) rest)
    ∙ grows g o c before (procedures_from (blocks_after c x) y ++ rest) (λ s lo hi. let j = later g' c1 in e s lo (omega (arith, hi, j)) ∙ ap (λ z. cond z (Some o) None) (or_right _ _ (has_low g' s c1 hi)))
    ∙ ap (λ z. main_blocks (before ++ inner_blocks o c x) c1 (procedures_from z y ++ rest)) (same_count g c)
    ∙ grows g' o c1 (before ++ inner_blocks o c x) rest
    (λ s lo hi. let i = later g c in
    find_left (λ b. list_any (declares s) b.tree.decls) before _ (inner_declare g o s c lo) ∙ e s (omega (arith, lo, i)) hi ∙ ap (λ z. cond z (Some o) None) (or_left _ _ (has_high g s c lo)))
    ∙ ap (λ z. main_blocks z (streams_after c1 y) rest) (append_assoc before (inner_blocks o c x) (inner_blocks o c1 y))
grows (of_deep g) o c before rest e = ap (λ z. main_blocks z c rest) (sym (append-nil before))
grows (of_sub (of_then {d = h} gh (of_then (of_token {t = t} gs) (of_then {d = b} gb (of_token {t = l} gl))))) o c before rest e =
    let n : BlockTree = inner_block o c h b (leaf l) in
    let tree : Stream = procedure_tree (heading_of h) (block_from (suc c) b (l ∷ [])) in
    let i = later gb (suc c) in
    let one : c + 1 ≡ suc c = omega arith in
    let found : encloser before c ≡ Some o = e c (omega arith) (omega (arith, i)) ∙ ap (λ z. cond z (Some o) None) (same_number c) in
    ap (λ z. main_blocks (before ++ procedure_block c tree z) (c + 1) (procedures_from (suc c) b ++ rest)) found
    ∙ ap (λ z. main_blocks (before ++ (n ∷ [])) z (procedures_from (suc c) b ++ rest)) one
    ∙ grows gb n (suc c) (before ++ (n ∷ [])) rest
    (λ s lo hi.
    find_right (λ b. list_any (declares s) b.tree.decls) before (n ∷ []) (e s (omega (arith, lo)) hi ∙ ap (λ z. cond z (Some o) None) (other c s lo))
    ∙ ap (λ z. cond z (Some n) None) (block_declares gb s (suc c) (l ∷ [])))
    ∙ ap (λ z. main_blocks z (streams_after (suc c) b) rest) (append_assoc before (n ∷ []) (inner_blocks n (suc c) b))
  where
    other : (c s : ℕ) → suc c ≤ s → (c == s) ≡ false
    other c s h = grind arith

-- ** What surrounds them

module _ (home : ℕ) (own : Option ℕ) (streams : List StreamOf) where
  -- a block of the main text with this level and scope
  abbrev block_at : ℕ → ℕ → Block
  block_at level scope = record { scope = scope; text = 0; level = level; home = home; own = own; chain = with_own (chain_from level streams scope) own }

  -- the streams from number c on say where these procedures are declared
  abbrev Told : ℕ → List Enclosed → Type 0
  Told c ps = (j : ℕ) (p : Enclosed) → slice_get ps j ≡ Some p → outer_of streams (c + j) ≡ p.outer

  got_left : (ps qs : List Enclosed) (j : ℕ) (p : Enclosed) → slice_get ps j ≡ Some p → slice_get (ps ++ qs) j ≡ Some p
  got_left [] qs j p h = cc
  got_left (x ∷ ps) qs zero p h = h
  got_left (x ∷ ps) qs (suc j) p h = got_left ps qs j p h

  got_right : (ps qs : List Enclosed) (j : ℕ) → slice_get (ps ++ qs) (length ps + j) ≡ slice_get qs j
  got_right [] qs j = let e : 0 + j ≡ j = omega arith in ap (slice_get qs) e
  got_right (x ∷ ps) qs j = let e : suc (length ps) + j ≡ suc (length ps + j) = omega arith in ap (slice_get (x ∷ (ps ++ qs))) e ∙ got_right ps qs j

  told_left : (c : ℕ) (ps qs : List Enclosed) → Told c (ps ++ qs) → Told c ps
  told_left c ps qs t j p h = t j p (got_left ps qs j p h)

  told_right : (c c1 : ℕ) (ps qs : List Enclosed) → c1 ≡ c + length ps → Told c (ps ++ qs) → Told c1 qs
  told_right c c1 ps qs e t j p h =
      let f : c1 + j ≡ c + (length ps + j) = omega (arith, e) in
      ap (outer_of streams) f ∙ t (length ps + j) p (got_right ps qs j ∙ h)

  enclosures_count : {r : Rule} {x : Tree Token} → Derives W r x → (k n c : ℕ) → streams_after c x ≡ c + length (enclosures k n c x)
  enclosures_count of_empty k n c = omega arith
  enclosures_count (of_token g) k n c = omega arith
  enclosures_count (of_then {d = x} {e = y} g g') k n c =
      let i = enclosures_count g k n c in
      let j = enclosures_count g' k n (streams_after c x) in
      let l = length-append (enclosures k n c x) (enclosures k n (streams_after c x) y) in
      omega (arith, i, j, l)
  enclosures_count (of_left g) k n c = enclosures_count g k n c
  enclosures_count (of_right g) k n c = enclosures_count g k n c
  enclosures_count of_last k n c = omega arith
  enclosures_count (of_more {d = x} {ds = y} g g') k n c =
      let i = enclosures_count g k n c in
      let j = enclosures_count g' k n (streams_after c x) in
      let l = length-append (enclosures k n c x) (enclosures k n (streams_after c x) y) in
      omega (arith, i, j, l)
  enclosures_count (of_deep g) k n c = omega arith
  enclosures_count (of_sub (of_then gh (of_then (of_token gs) (of_then gb (of_token gl))))) k n c =
      let i = enclosures_count gb c (suc n) (suc c) in omega (arith, i)

  chain_own : (s : ℕ) (xs : List ℕ) (o : Option ℕ) → s ∷ with_own xs o ≡ with_own (s ∷ xs) o
  chain_own s xs None = refl
  chain_own s xs (Some k) = refl

  joined : (c c1 : ℕ) (ps qs : List Enclosed) (es : List Event) (xs ys : List BlockTree) → c1 ≡ c + length ps
      → map (λ b. b.block) xs ≡ map (block_of home own streams) (procedure_streams c ps es)
      → map (λ b. b.block) ys ≡ map (block_of home own streams) (procedure_streams c1 qs es)
      → map (λ b. b.block) (xs ++ ys) ≡ map (block_of home own streams) (procedure_streams c (ps ++ qs) es)
  joined c c1 ps qs es xs ys e h k =
      map_append (λ (b : BlockTree). b.block) xs ys ∙ ap (λ z. z ++ map (λ b. b.block) ys) h
      ∙ ap (λ z. map (block_of home own streams) (procedure_streams c ps es) ++ z) (k ∙ ap (λ z. map (block_of home own streams) (procedure_streams z qs es)) e)
      ∙ sym (map_append (block_of home own streams) (procedure_streams c ps es) (procedure_streams (c + length ps) qs es))
      ∙ ap (map (block_of home own streams)) (sym (streams_append c ps qs es))

  surrounded : {r : Rule} {x : Tree Token} → Derives W r x → (o : BlockTree) (k n c : ℕ) (es : List Event) → o.block ≡ block_at n k → Told c (enclosures k n c x)
      → map (λ b. b.block) (inner_blocks o c x) ≡ map (block_of home own streams) (procedure_streams c (enclosures k n c x) es)
  surrounded of_empty o k n c es b t = refl
  surrounded (of_token g) o k n c es b t = refl
  surrounded (of_then {d = x} {e = y} g g') o k n c es b t =
      let m = enclosures_count g k n c in
      joined c (streams_after c x) (enclosures k n c x) (enclosures k n (streams_after c x) y) es (inner_blocks o c x) (inner_blocks o (streams_after c x) y) m
      (surrounded g o k n c es b (told_left c (enclosures k n c x) _ t)) (surrounded g' o k n (streams_after c x) es b (told_right c (streams_after c x) (enclosures k n c x) _ m t))
  surrounded (of_left g) o k n c es b t = surrounded g o k n c es b t
  surrounded (of_right g) o k n c es b t = surrounded g o k n c es b t
  surrounded of_last o k n c es b t = refl
  surrounded (of_more {d = x} {ds = y} g g') o k n c es b t =
      let m = enclosures_count g k n c in
      joined c (streams_after c x) (enclosures k n c x) (enclosures k n (streams_after c x) y) es (inner_blocks o c x) (inner_blocks o (streams_after c x) y) m
      (surrounded g o k n c es b (told_left c (enclosures k n c x) _ t)) (surrounded g' o k n (streams_after c x) es b (told_right c (streams_after c x) (enclosures k n c x) _ m t))
  surrounded (of_deep g) o k n c es b t = refl
  surrounded (of_sub (of_then {d = h} gh (of_then (of_token {t = z} gs) (of_then {d = b} gb (of_token {t = l} gl))))) o k n c es is t =
      let one : n + 1 ≡ suc n = omega arith in
      let here : c + 0 ≡ c = omega arith in
      let outer : outer_of streams c ≡ k = ap (outer_of streams) (sym here) ∙ t 0 (record { outer = k; level = n + 1 }) refl in
      let chain : c ∷ with_own (chain_from n streams k) own ≡ with_own (chain_from (suc n) streams c) own =
      ap (λ z. c ∷ with_own (chain_from n streams z) own) (sym outer) ∙ chain_own c (chain_from n streams (outer_of streams c)) own in
      let block : (inner_block o c h b (leaf l)).block ≡ block_at (suc n) c =
      ap (λ (z : Block). record { scope = c; text = z.text; level = z.level + 1; home = z.home; own = z.own; chain = c ∷ z.chain }) is
      ∙ ap (λ z. record { scope = c; text = 0; level = z; home = home; own = own; chain = c ∷ with_own (chain_from n streams k) own }) one
      ∙ ap (λ z. record { scope = c; text = 0; level = suc n; home = home; own = own; chain = z }) chain in
      let next : (j : ℕ) → suc c + j ≡ c + suc j = λ j. omega arith in
      ap (λ z. z ∷ map (λ b. b.block) (inner_blocks (inner_block o c h b (leaf l)) (suc c) b)) (block ∙ ap (λ z. block_at z c) (sym one))
      ∙ ap (λ z. block_at (n + 1) c ∷ z) (surrounded gb (inner_block o c h b (leaf l)) c (suc n) (suc c) es block (λ j p q. ap (outer_of streams) (next j) ∙ t (suc j) p q))

-- ** The trees of blocks

inner_trees : {r : Rule} {x : Tree Token} → Derives W r x → (o : BlockTree) (c : ℕ) → map (λ b. b.tree) (inner_blocks o c x) ≡ procedures_from c x
inner_trees of_empty o c = refl
inner_trees (of_token g) o c = refl
inner_trees (of_then {d = x} {e = y} g g') o c =
    map_append (λ (b : BlockTree). b.tree) (inner_blocks o c x) (inner_blocks o (streams_after c x) y) ∙ ap (λ z. z ++ map (λ b. b.tree) (inner_blocks o (streams_after c x) y)) (inner_trees g o c)
    ∙ ap (λ z. procedures_from c x ++ z) (inner_trees g' o (streams_after c x) ∙ ap (λ z. procedures_from z y) (sym (same_count g c)))
inner_trees (of_left g) o c = inner_trees g o c
inner_trees (of_right g) o c = inner_trees g o c
inner_trees of_last o c = refl
inner_trees (of_more {d = x} {ds = y} g g') o c =
    map_append (λ (b : BlockTree). b.tree) (inner_blocks o c x) (inner_blocks o (streams_after c x) y) ∙ ap (λ z. z ++ map (λ b. b.tree) (inner_blocks o (streams_after c x) y)) (inner_trees g o c)
    ∙ ap (λ z. procedures_from c x ++ z) (inner_trees g' o (streams_after c x) ∙ ap (λ z. procedures_from z y) (sym (same_count g c)))
inner_trees (of_deep g) o c = refl
inner_trees (of_sub (of_then {d = h} gh (of_then (of_token gs) (of_then {d = b} gb (of_token {t = l} gl))))) o c =
    ap (λ z. procedure_tree (heading_of h) (block_from (suc c) b (l ∷ [])) ∷ z) (inner_trees gb (inner_block o c h b (leaf l)) (suc c))

-- ** Whole units

-- what is shown of a main text's blocks
record MainAgrees (m : ℕ) (own : Option ℕ) (streams : List StreamOf) (ts : List Token) (u : UnitTrees) (trees : List Stream) : Type 0 where
  blocks : map (λ b. b.block) (blocks_of_main u trees) ≡ map (block_of m own streams) (main_streams m ts)
  same_trees : map (λ b. b.tree) (blocks_of_main u trees) ≡ trees

main_agrees : (m : ℕ) (own : Option ℕ) (streams : List StreamOf) (ts : List Token) (u : UnitTrees) (trees : List Stream) → home_of u ≡ m → u.own ≡ own
    → Told m own streams (suc m) (opened (start m) ts) → {e : Tree Token} → Derives W (main sub) e → tokens e ≡ ts → whole.main_blocks m e [] ≡ trees → MainAgrees m own streams ts u trees
main_agrees m own streams ts u trees h w t (of_then {d = im} gm (of_then (of_token {t = w0} gw) (of_then (of_token {t = i} gi) (of_then (of_token {t = s} gs) (of_then {d = is} gis (of_then {d = b} gb (of_then (of_token {t = p} gp) (of_token {t = z} gz)))))))) spells gives =
    let c : ℕ = suc m in
    let c1 : ℕ = streams_after c im in
    let c2 : ℕ = streams_after c1 is in
    let number : c2 ≡ c = (uncut gis refl c1).number ∙ (uncut gm refl c).number in
    let es : List Event = events (start m) ts in
    let whole_text = opens_whole cuttable main_text m (of_then (of_then gm (of_then (of_token {t = w0} gw) (of_then (of_token {t = i} gi) (of_then (of_token {t = s} gs) (of_then gis (of_then gb (of_token {t = p} gp))))))) (of_token {t = z} gz)) in
    let opens : opened (start m) ts ≡ enclosures m 0 c b =
    ap (opened (start m)) (sym spells ∙ sym (regroup (tokens im) (tokens is) (tokens b) w0 i s p z)) ∙ whole_text
    ∙ append-nil (enclosures m 0 c im ++ (enclosures m 0 c1 is ++ (enclosures m 0 c2 b ++ [])))
    ∙ ap (λ q. q ++ (enclosures m 0 c1 is ++ (enclosures m 0 c2 b ++ []))) (plain_enclosures cuttable gm refl m 0 c)
    ∙ ap (λ q. q ++ (enclosures m 0 c2 b ++ [])) (plain_enclosures cuttable gis refl m 0 c1)
    ∙ append-nil (enclosures m 0 c2 b) ∙ ap (λ q. enclosures m 0 q b) number in
    let tree : Stream = main_tree (is_there im) (ident_of (leaf i)) (imports_of is) (block_from c b (p ∷ z ∷ [])) in
    let o : BlockTree = main_block u tree in
    let here : o.block ≡ block_at m own streams 0 m = λ k. record { scope = h k; text = 0; level = 0; home = h k; own = w k; chain = with_own (h k ∷ []) (w k) } in
    let one : home_of u + 1 ≡ c = omega (arith, h) in
    let blocks : main_blocks (o ∷ []) (home_of u + 1) (procedures_from c b) ≡ o ∷ inner_blocks o c b =
    ap (λ q. main_blocks (o ∷ []) q (procedures_from c b)) one ∙ ap (main_blocks (o ∷ []) c) (sym (append-nil (procedures_from c b)))
    ∙ grows gb o c (o ∷ []) [] (λ s lo hi. ap (λ q. cond q (Some o) None) (block_declares gb s c (p ∷ z ∷ []))) in
    let inside = surrounded m own streams gb o m 0 c es here (subst (Told m own streams c) opens t) in
    record {
      blocks =
          ap (λ q. map (λ b. b.block) (blocks_of_main u q)) (sym gives) ∙ ap (map (λ b. b.block)) blocks
          ∙ ap (λ q. q ∷ map (λ b. b.block) (inner_blocks o c b)) here
          ∙ ap (λ q. block_at m own streams 0 m ∷ q) (inside ∙ ap (λ q. map (block_of m own streams) (procedure_streams c q es)) (sym opens));
      same_trees =
          ap (λ q. map (λ b. b.tree) (blocks_of_main u q)) (sym gives) ∙ ap (map (λ b. b.tree)) blocks
          ∙ ap (λ q. tree ∷ q) (inner_trees gb o c) ∙ gives;
    }

definitions_agree : (home : ℕ) (own : Option ℕ) (streams : List StreamOf) (s : ℕ) (ds : List DefinitionModule) (trees : List Stream) (texts : List TextOf) (order : List ℕ) → map (λ d. d.text) ds ≡ order → length trees ≡ length order
    → (map (λ b. b.block) (definition_blocks s ds trees) ≡ map (block_of home own streams) (definition_streams s texts order)) × (map (λ b. b.tree) (definition_blocks s ds trees) ≡ trees)
definitions_agree home own streams s [] [] texts [] e l = (refl, refl)
definitions_agree home own streams s [] (t ∷ trees) texts [] e l = let no : ⊥ = omega (arith, l) in absurd no
definitions_agree home own streams s [] trees texts (k ∷ order) e l = let no : ⊥ = cc in absurd no
definitions_agree home own streams s (d ∷ ds) trees texts [] e l = let no : ⊥ = cc in absurd no
definitions_agree home own streams s (d ∷ ds) [] texts (k ∷ order) e l = let no : ⊥ = omega (arith, l) in absurd no
definitions_agree home own streams s (d ∷ ds) (t ∷ trees) texts (k ∷ order) e l =
    let one : d.text ≡ k = cc in
    let others : map (λ d. d.text) ds ≡ order = cc in
    let next : s + 1 ≡ suc s = omega arith in
    let i = definitions_agree home own streams (suc s) ds trees texts order others (omega (arith, l)) in (
      ap (λ z. record { scope = s; text = z; level = 0; home = s; own = None; chain = s ∷ [] } ∷ map (λ b. b.block) (definition_blocks (s + 1) ds trees)) one
          ∙ ap (λ z. record { scope = s; text = k; level = 0; home = s; own = None; chain = s ∷ [] } ∷ z) (ap (λ z. map (λ b. b.block) (definition_blocks z ds trees)) next ∙ i.0),
      ap (λ z. t ∷ z) (ap (λ z. map (λ b. b.tree) (definition_blocks z ds trees)) next ∙ i.1),
    )

pub got_behind : (xs ys : List StreamOf) (j : ℕ) → slice_get (xs ++ ys) (length xs + j) ≡ slice_get ys j
got_behind [] ys j = let e : 0 + j ≡ j = omega arith in ap (slice_get ys) e
got_behind (x ∷ xs) ys j = let e : suc (length xs) + j ≡ suc (length xs + j) = omega arith in ap (slice_get (x ∷ (xs ++ ys))) e ∙ got_behind xs ys j

got_outer : (c : ℕ) (ps : List Enclosed) (es : List Event) (j : ℕ) (p : Enclosed) → slice_get ps j ≡ Some p → outer_in (slice_get (procedure_streams c ps es) j) ≡ p.outer
got_outer c [] es j p h = let no : ⊥ = cc in absurd no
got_outer c (x ∷ ps) es zero p h = let same : x ≡ p = cc in ap (λ (z : Enclosed). z.outer) same
got_outer c (x ∷ ps) es (suc j) p h = got_outer (suc c) ps es j p h

told_unit : (t : UnitTexts) → Told (main_number t) (own_scope t) (streams_of t) (suc (main_number t)) (opened (start (main_number t)) (main_tokens t))
told_unit t j p h =
    let m : ℕ = main_number t in
    let defs : List StreamOf = definition_streams 1 t.list t.order in
    let l = definitions_length 1 t.list t.order in
    let e : suc m + j ≡ suc (length defs + suc j) = omega (arith, l) in
    ap (outer_of (streams_of t)) e ∙ ap outer_in (got_behind defs (main_streams m (main_tokens t)) (suc j))
    ∙ got_outer (suc m) (opened (start m) (main_tokens t)) (events (start m) (main_tokens t)) j p h

-- what is shown of a unit's blocks
pub record Agrees (t : UnitTexts) (u : UnitTrees) : Type 0 where
  pub blocks : map (λ b. b.block) (blocks_of u) ≡ surroundings_of t
  pub same_trees : map (λ b. b.tree) (blocks_of u) ≡ u.definitions ++ u.main

pub blocks_agree : (t : UnitTexts) (u : UnitTrees) → AreTreesOf t u → Agrees t u
unfolding blocks_of
blocks_agree t u h =
    let m : ℕ = main_number t in
    let own : Option ℕ = own_scope t in
    let all : List StreamOf = streams_of t in
    let home : home_of u ≡ m = ap (λ z. z + 1) h.definitions in
    let d = definitions_agree m own all 1 u.source.definitions u.definitions t.list t.order h.modules h.definitions in
    let g = subst (λ g. Derives g (main sub) h.main.sentence.tree) same_grammar h.main.sentence.derives in
    let a = main_agrees m own all (main_tokens t) u u.main home h.own (told_unit t) g h.main.sentence.spells h.main.gives in
    let defs : List BlockTree = definition_blocks 1 u.source.definitions u.definitions in
    let mains : List BlockTree = blocks_of_main u u.main in
    record {
      blocks =
          map_append (λ (b : BlockTree). b.block) defs mains ∙ (λ k. d.0 k ++ a.blocks k)
          ∙ sym (map_append (block_of m own all) (definition_streams 1 t.list t.order) (main_streams m (main_tokens t)));
      same_trees = map_append (λ (b : BlockTree). b.tree) defs mains ∙ (λ k. d.1 k ++ a.same_trees k);
    }
