-- The blocks of a main text, by its derivation: each procedure that one of them declares has its block behind it.
use Rattle.std.specs.Prelude.{◌≡◌, ℕ, suc, ◌+◌, ◌<◌, ◌≤◌, ◌==◌, ◌||◌, Bool, true, false, cond, flat_map, map, List, [], ◌∷◌, ◌++◌, Option, Some, None}
use Rattle.std.specs.List.{list_any}
use Rattle.std.proofs.Common.{ap, subst, sym, ◌∙◌, refl, inl, inr, arith, append_assoc}
use Rattle.std.proofs.lemmas.List.{append-nil}
use Rattle.ll_grammar.specs.Derivations.{Tree, nothing, leaf, both, left, right, last, more, inner, part, tokens, Derives, of_empty, of_token, of_then, of_left, of_right, of_last, of_more, of_deep, of_sub}
use Rattle.ll_grammar.specs.Grammar.{Rule, sub}
use Rattle.m2_base.specs.ExpressionsOf.{ident_of}
use Rattle.m2_base.specs.Grammar.{grammar, main}
use Rattle.m2_base.specs.Lists.{Each, IsIn}
use Rattle.m2_base.specs.Statics.Blocks.{BlockTree, UnitTrees, blocks_of_main, declares, encloser, home_of, main_block, main_blocks, procedure_block}
use Rattle.m2_base.specs.Statics.Items.{Item, decl_item, heading_items, import_items, import_item, items_of, proc_item}
use Rattle.m2_base.specs.StreamsOf.{heading_of, imports_of, main_tree, procedure_tree}
use Rattle.m2_base.specs.Trees.{Decl, Heading, Import, Stream, const_decl, type_decl, vars_decl, proc_decl}
use Rattle.m2_base.specs.TypesOf.{is_there}
use Rattle.m2_base.specs.WholeTexts as whole
use Rattle.m2_base.specs.WholeTexts.{block_from, blocks_after, procedures_from}
use Rattle.m2_base.specs.declared.token.Token.{Token}
use Rattle.m2_base.specs.declared.trees.Ident.{Ident}
use Rattle.m2_base.proofs.EachLaws.{each_append, each_then}
use Rattle.row_laws.specs.UnitBlocks.{IsProcedureIn}
use Rattle.row_laws.proofs.Joined.{find_left, find_right, in_either, in_left, in_right}
use Rattle.row_laws.proofs.Numbered.{Has, after_procedure, block_declares, block_has, has, has_high, has_low, later}

-- ** The blocks of procedures

-- the block of procedure c, which is declared in this one
abbrev inner_block : BlockTree → (c : ℕ) → (h b l : Tree Token) → BlockTree
inner_block o c h b l = record {
  block = record { scope = c; text = o.block.text; level = o.block.level + 1; home = o.block.home; own = o.block.own; chain = c ∷ o.block.chain };
  tree = procedure_tree (heading_of h) (block_from (suc c) b (tokens l));
}

-- the blocks of the procedures of a part of this block, from number c on
abbrev inner_blocks : BlockTree → (c : ℕ) → Tree Token → List BlockTree
inner_blocks o c nothing = []
inner_blocks o c (leaf t) = []
inner_blocks o c (both x y) = inner_blocks o c x ++ inner_blocks o (blocks_after c x) y
inner_blocks o c (left x) = inner_blocks o c x
inner_blocks o c (right x) = inner_blocks o c x
inner_blocks o c last = []
inner_blocks o c (more x xs) = inner_blocks o c x ++ inner_blocks o (blocks_after c x) xs
inner_blocks o c (inner x) = []
inner_blocks o c (part (both h (both s (both b l)))) = inner_block o c h b l ∷ inner_blocks (inner_block o c h b l) (suc c) b
inner_blocks o c (part _) = []

-- the block declares the procedure of this number
abbrev has_declared : ℕ → BlockTree → Bool
has_declared s b = list_any (declares s) b.tree.decls

-- none of them declares a procedure with a number behind theirs
inner_declare : {r : Rule} {x : Tree Token} → Derives grammar r x → (o : BlockTree) (s c : ℕ) → blocks_after c x ≤ s → encloser (inner_blocks o c x) s ≡ None
inner_declare of_empty o s c h = refl
inner_declare (of_token g) o s c h = refl
inner_declare (of_then {d = x} g k) o s c h =
    let j = later k (blocks_after c x) in
    find_right (has_declared s) (inner_blocks o c x) _ (inner_declare g o s c (omega (arith, h, j))) ∙ inner_declare k o s (blocks_after c x) h
inner_declare (of_left g) o s c h = inner_declare g o s c h
inner_declare (of_right g) o s c h = inner_declare g o s c h
inner_declare of_last o s c h = refl
inner_declare (of_more {d = x} g k) o s c h =
    let j = later k (blocks_after c x) in
    find_right (has_declared s) (inner_blocks o c x) _ (inner_declare g o s c (omega (arith, h, j))) ∙ inner_declare k o s (blocks_after c x) h
inner_declare (of_deep g) o s c h = refl
inner_declare (of_sub (of_then {d = h} gh (of_then (of_token {t} gs) (of_then {d = b} gb (of_token {t = l} gl))))) o s c low =
    let n : BlockTree = inner_block o c h b (leaf l) in
    let e = after_procedure gh b t l c in
    let behind : blocks_after (suc c) b ≤ s = omega (arith, low, e) in
    ap (λ z. cond z (Some n) (encloser (inner_blocks n (suc c) b) s)) (block_declares gb s (suc c) (l ∷ []) ∙ has_high gb s (suc c) behind)
    ∙ inner_declare gb n s (suc c) behind

-- which of the blocks before encloses a procedure of a part of this block
abbrev Encloses : BlockTree → List BlockTree → ℕ → Tree Token → Type 0
Encloses o before c x = (s : ℕ) → c ≤ s → s < blocks_after c x → encloser before s ≡ cond (has s c x) (Some o) None

or_right : (a b : Bool) → b ≡ false → (a || b) ≡ a
or_right true b e = refl
or_right false b e = e

or_left : (a b : Bool) → a ≡ false → (a || b) ≡ b
or_left a b e = ap (λ z. z || b) e

same_number : (c : ℕ) → (c == c) ≡ true
same_number c = grind arith

other_number : (c s : ℕ) → suc c ≤ s → (c == s) ≡ false
other_number c s h = grind arith

-- of two parts, what encloses the procedures of the first, and behind its blocks those of the second
enclose_first : {r q : Rule} {x y : Tree Token} → Derives grammar r x → Derives grammar q y → (o : BlockTree) (c : ℕ) (before : List BlockTree) → Encloses o before c (both x y) → Encloses o before c x
enclose_first {x} g k o c before e s low high =
    let j = later k (blocks_after c x) in e s low (omega (arith, high, j)) ∙ ap (λ z. cond z (Some o) None) (or_right _ _ (has_low k s (blocks_after c x) high))

enclose_second : {r q : Rule} {x y : Tree Token} → Derives grammar r x → Derives grammar q y → (o : BlockTree) (c : ℕ) (before : List BlockTree) → Encloses o before c (both x y)
    → Encloses o (before ++ inner_blocks o c x) (blocks_after c x) y
enclose_second g k o c before e s low high =
    let i = later g c in
    find_left (has_declared s) before _ (inner_declare g o s c low) ∙ e s (omega (arith, low, i)) high ∙ ap (λ z. cond z (Some o) None) (or_left _ _ (has_high g s c low))

-- the blocks of the procedures come one after another
grows : {r : Rule} {x : Tree Token} → Derives grammar r x → (o : BlockTree) (c : ℕ) (before : List BlockTree) (rest : List Stream) → Encloses o before c x
    → main_blocks before c (procedures_from c x ++ rest) ≡ main_blocks (before ++ inner_blocks o c x) (blocks_after c x) rest
grows of_empty o c before rest e = ap (λ z. main_blocks z c rest) (sym (append-nil before))
grows (of_token g) o c before rest e = ap (λ z. main_blocks z c rest) (sym (append-nil before))
grows (of_then {d = x} {e = y} g k) o c before rest e =
    let d : ℕ = blocks_after c x in
    ap (main_blocks before c) (append_assoc (procedures_from c x) (procedures_from d y) rest)
    ∙ grows g o c before (procedures_from d y ++ rest) (enclose_first g k o c before e)
    ∙ grows k o d (before ++ inner_blocks o c x) rest (enclose_second g k o c before e)
    ∙ ap (λ z. main_blocks z (blocks_after d y) rest) (append_assoc before (inner_blocks o c x) (inner_blocks o d y))
grows (of_left g) o c before rest e = grows g o c before rest e
grows (of_right g) o c before rest e = grows g o c before rest e
grows of_last o c before rest e = ap (λ z. main_blocks z c rest) (sym (append-nil before))
grows (of_more {d = x} {ds = y} g k) o c before rest e =
    let d : ℕ = blocks_after c x in
    ap (main_blocks before c) (append_assoc (procedures_from c x) (procedures_from d y) rest)
    ∙ grows g o c before (procedures_from d y ++ rest) (enclose_first g k o c before e)
    ∙ grows k o d (before ++ inner_blocks o c x) rest (enclose_second g k o c before e)
    ∙ ap (λ z. main_blocks z (blocks_after d y) rest) (append_assoc before (inner_blocks o c x) (inner_blocks o d y))
grows (of_deep g) o c before rest e = ap (λ z. main_blocks z c rest) (sym (append-nil before))
grows (of_sub (of_then {d = h} gh (of_then (of_token {t} gs) (of_then {d = b} gb (of_token {t = l} gl))))) o c before rest e =
    let n : BlockTree = inner_block o c h b (leaf l) in
    let tree : Stream = procedure_tree (heading_of h) (block_from (suc c) b (l ∷ [])) in
    let i = later gb (suc c) in
    let a = after_procedure gh b t l c in
    let one : c + 1 ≡ suc c = omega arith in
    let found : encloser before c ≡ Some o = e c (omega arith) (omega (arith, i, a)) ∙ ap (λ z. cond z (Some o) None) (same_number c) in
    ap (λ z. main_blocks (before ++ procedure_block c tree z) (c + 1) (procedures_from (suc c) b ++ rest)) found
    ∙ ap (λ z. main_blocks (before ++ (n ∷ [])) z (procedures_from (suc c) b ++ rest)) one
    ∙ grows gb n (suc c) (before ++ (n ∷ [])) rest
    (λ s low high.
    find_right (has_declared s) before (n ∷ []) (e s (omega (arith, low)) (omega (arith, high, a)) ∙ ap (λ z. cond z (Some o) None) (other_number c s low))
    ∙ ap (λ z. cond z (Some n) None) (block_declares gb s (suc c) (l ∷ [])))
    ∙ ap (λ z. main_blocks z (blocks_after (suc c) b) rest) (append_assoc before (n ∷ []) (inner_blocks n (suc c) b))
    ∙ ap (λ z. main_blocks (before ++ n ∷ inner_blocks n (suc c) b) z rest) (sym a)

-- ** The procedures of a block

-- the procedure of this heading and number, which block o declares, has its block among these
abbrev IsThere : BlockTree → Heading → ℕ → List BlockTree → Type 0
IsThere o h s blocks = (q : BlockTree) × IsIn q blocks × IsProcedureIn o h s q

-- each procedure that the block declares has its block among these
abbrev pub HasInner : List BlockTree → BlockTree → Type 0
HasInner blocks o = (h : Heading) (s : ℕ) → IsIn (proc_item h s) (items_of o.tree) → IsThere o h s blocks

there_left : (xs ys : List BlockTree) (o : BlockTree) (h : Heading) (s : ℕ) → IsThere o h s xs → IsThere o h s (xs ++ ys)
there_left xs ys o h s t = (t.0, in_left t.0 xs ys t.1, t.2)

pub there_right : (xs ys : List BlockTree) (o : BlockTree) (h : Heading) (s : ℕ) → IsThere o h s ys → IsThere o h s (xs ++ ys)
there_right xs ys o h s t = (t.0, in_right t.0 xs ys t.1, t.2)

-- a procedure that is declared in a part has its block among those of the part
declared_there : {r : Rule} {x : Tree Token} → Derives grammar r x → (o : BlockTree) (h : Heading) (s c : ℕ) → o.block.scope < c → Has h s c x → IsThere o h s (inner_blocks o c x)
declared_there of_empty o h s c low k = absurd k
declared_there (of_token g) o h s c low k = absurd k
declared_there (of_then {d = x} {e = y} g g') o h s c low (inl k) =
    there_left (inner_blocks o c x) (inner_blocks o (blocks_after c x) y) o h s (declared_there g o h s c low k)
declared_there (of_then {d = x} {e = y} g g') o h s c low (inr k) =
    let i = later g c in
    there_right (inner_blocks o c x) (inner_blocks o (blocks_after c x) y) o h s (declared_there g' o h s (blocks_after c x) (omega (arith, low, i)) k)
declared_there (of_left g) o h s c low k = declared_there g o h s c low k
declared_there (of_right g) o h s c low k = declared_there g o h s c low k
declared_there of_last o h s c low k = absurd k
declared_there (of_more {d = x} {ds = y} g g') o h s c low (inl k) =
    there_left (inner_blocks o c x) (inner_blocks o (blocks_after c x) y) o h s (declared_there g o h s c low k)
declared_there (of_more {d = x} {ds = y} g g') o h s c low (inr k) =
    let i = later g c in
    there_right (inner_blocks o c x) (inner_blocks o (blocks_after c x) y) o h s (declared_there g' o h s (blocks_after c x) (omega (arith, low, i)) k)
declared_there (of_deep g) o h s c low k = absurd k
declared_there (of_sub (of_then {d = x} gh (of_then (of_token gs) (of_then {d = b} gb (of_token {t = l} gl))))) o h s c low k = (
  inner_block o c x b (leaf l),
  inl refl,
  record {
    scope = sym k.1;
    behind = let e = k.1 in omega (arith, low, e);
    heading = ap Some (sym k.0);
    level = refl;
    chain = ap (λ z. z ∷ o.block.chain) (sym k.1);
  },
)

-- ** The items of a block

none_from : (f : Option Ident) (names : List Ident) (h : Heading) (s : ℕ) → IsIn (proc_item h s) (map (λ n. import_item f n) names) → ⊥
none_from f [] h s i = i
none_from f (n ∷ names) h s (inl e) = absurd cc
none_from f (n ∷ names) h s (inr i) = none_from f names h s i

none_imported : (is : List Import) (h : Heading) (s : ℕ) → IsIn (proc_item h s) (flat_map import_items is) → ⊥
none_imported [] h s i = i
none_imported (x ∷ is) h s i = in_either (proc_item h s) (import_items x) (flat_map import_items is) (λ j. none_from x.from x.names h s j) (λ j. none_imported is h s j) i

none_headed : (o : Option Heading) (h : Heading) (s : ℕ) → IsIn (proc_item h s) (heading_items o) → ⊥
none_headed None h s i = i
none_headed (Some g) h s (inl e) = absurd cc
none_headed (Some g) h s (inr i) = i

same_declaration : (d : Decl) (h : Heading) (s : ℕ) → proc_item h s ≡ decl_item d → proc_decl h s ≡ d
same_declaration (const_decl i v) h s e = absurd cc
same_declaration (type_decl i t) h s e = absurd cc
same_declaration (vars_decl is t) h s e = absurd cc
same_declaration (proc_decl g n) h s e =
    let same : h ≡ g = cc in
    let number : s ≡ n = cc in
    λ k. proc_decl (same k) (number k)

declared_in : (ds : List Decl) (h : Heading) (s : ℕ) → IsIn (proc_item h s) (map decl_item ds) → IsIn (proc_decl h s) ds
declared_in [] h s i = i
declared_in (d ∷ ds) h s (inl e) = inl (same_declaration d h s e)
declared_in (d ∷ ds) h s (inr i) = inr (declared_in ds h s i)

-- an item of a procedure is a declaration
item_declared : (tree : Stream) (h : Heading) (s : ℕ) → IsIn (proc_item h s) (items_of tree) → IsIn (proc_decl h s) tree.decls
item_declared tree h s i =
    let item : Item = proc_item h s in
    let headed : List Item = heading_items tree.heading in
    let imported : List Item = flat_map import_items tree.imports in
    in_either item (headed ++ imported) (map decl_item tree.decls)
    (λ j. absurd (in_either item headed imported (none_headed tree.heading h s) (none_imported tree.imports h s) j))
    (declared_in tree.decls h s) i

-- ** The blocks of a main text

inner_left : (xs ys : List BlockTree) → Each (HasInner xs) xs → Each (HasInner (xs ++ ys)) xs
inner_left xs ys f = each_then (HasInner xs) (HasInner (xs ++ ys)) xs (λ o k h s i. there_left xs ys o h s (k h s i)) f

inner_right : (xs ys : List BlockTree) → Each (HasInner ys) ys → Each (HasInner (xs ++ ys)) ys
inner_right xs ys f = each_then (HasInner ys) (HasInner (xs ++ ys)) ys (λ o k h s i. there_right xs ys o h s (k h s i)) f

inner_joined : (xs ys : List BlockTree) → Each (HasInner xs) xs → Each (HasInner ys) ys → Each (HasInner (xs ++ ys)) (xs ++ ys)
inner_joined xs ys f k = each_append (HasInner (xs ++ ys)) xs ys (inner_left xs ys f) (inner_right xs ys k)

inner_have : {r : Rule} {x : Tree Token} → Derives grammar r x → (o : BlockTree) (c : ℕ) → Each (HasInner (inner_blocks o c x)) (inner_blocks o c x)
inner_have of_empty o c = tt
inner_have (of_token g) o c = tt
inner_have (of_then {d = x} {e = y} g k) o c = inner_joined (inner_blocks o c x) (inner_blocks o (blocks_after c x) y) (inner_have g o c) (inner_have k o (blocks_after c x))
inner_have (of_left g) o c = inner_have g o c
inner_have (of_right g) o c = inner_have g o c
inner_have of_last o c = tt
inner_have (of_more {d = x} {ds = y} g k) o c = inner_joined (inner_blocks o c x) (inner_blocks o (blocks_after c x) y) (inner_have g o c) (inner_have k o (blocks_after c x))
inner_have (of_deep g) o c = tt
inner_have (of_sub (of_then {d = x} gh (of_then (of_token gs) (of_then {d = b} gb (of_token {t = l} gl))))) o c =
    let n : BlockTree = inner_block o c x b (leaf l) in (
      λ h s i. there_right (n ∷ []) (inner_blocks n (suc c) b) n h s (declared_there gb n h s (suc c) (omega arith) (block_has gb h s (suc c) (l ∷ []) (item_declared n.tree h s i))),
      inner_right (n ∷ []) (inner_blocks n (suc c) b) (inner_have gb n (suc c)),
    )

-- each procedure that a block of a main text declares has its block there
pub main_have : (m : ℕ) (u : UnitTrees) → home_of u ≡ m → {e : Tree Token} → Derives grammar (main sub) e
    → Each (HasInner (blocks_of_main u (whole.main_blocks m e []))) (blocks_of_main u (whole.main_blocks m e []))
main_have m u home (of_then {d = im} gm (of_then (of_token gw) (of_then (of_token {t = i} gi) (of_then (of_token gs) (of_then {d = is} gis (of_then {d = b} gb (of_then (of_token {t = p} gp) (of_token {t = z} gz)))))))) =
    let c : ℕ = suc m in
    let tree : Stream = main_tree (is_there im) (ident_of (leaf i)) (imports_of is) (block_from c b (p ∷ z ∷ [])) in
    let o : BlockTree = main_block u tree in
    let one : home_of u + 1 ≡ c = omega (arith, home) in
    let low : home_of u < c = omega (arith, home) in
    let blocks : main_blocks (o ∷ []) (home_of u + 1) (procedures_from c b) ≡ o ∷ inner_blocks o c b =
    ap (λ q. main_blocks (o ∷ []) q (procedures_from c b)) one ∙ ap (main_blocks (o ∷ []) c) (sym (append-nil (procedures_from c b)))
    ∙ grows gb o c (o ∷ []) [] (λ s first behind. ap (λ q. cond q (Some o) None) (block_declares gb s c (p ∷ z ∷ []))) in
    subst (λ bs. Each (HasInner bs) bs) (sym blocks) (
      λ h s k. there_right (o ∷ []) (inner_blocks o c b) o h s (declared_there gb o h s c low (block_has gb h s c (p ∷ z ∷ []) (item_declared tree h s k))),
      inner_right (o ∷ []) (inner_blocks o c b) (inner_have gb o c),
    )
