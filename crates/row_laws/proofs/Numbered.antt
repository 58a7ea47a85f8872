-- Which procedures the blocks of a main text declare, and under which numbers, by its derivation.
use Rattle.std.specs.Prelude.{◌≡◌, ℕ, suc, ◌<◌, ◌≤◌, ◌==◌, ◌&&◌, ◌||◌, ◌⊎◌, Bool, true, false, List, [], ◌∷◌, ◌++◌}
use Rattle.std.specs.List.{list_any}
use Rattle.std.proofs.Common.{ap, subst, sym, ◌∙◌, refl, inl, inr, arith}
use Rattle.std.proofs.lemmas.Bool.{false≢true, and_parts, or_from}
use Rattle.ll_grammar.specs.Derivations.{Tree, nothing, leaf, both, left, right, last, more, inner, part, Derives, of_empty, of_token, of_then, of_left, of_right, of_last, of_more, of_deep, of_sub}
use Rattle.ll_grammar.specs.Grammar.{Rule, empty, token, then as followed, or, many, deep, sub}
use Rattle.m2_base.specs.Grammar.{grammar, block as block_rule, constant, declaration, heading, type_declaration, variables}
use Rattle.m2_base.specs.Lists.{Each, IsIn}
use Rattle.m2_base.specs.Statics.Blocks.{declares}
use Rattle.m2_base.specs.StreamsOf.{all_variables_of, constants_of, heading_of, type_declarations_of}
use Rattle.m2_base.specs.Trees.{Decl, Heading, const_decl, type_decl, vars_decl, proc_decl}
use Rattle.m2_base.specs.WholeTexts.{block_from, blocks_after, declaration_from, declarations_from}
use Rattle.m2_base.specs.declared.token.Token.{Token}
use Rattle.m2_base.proofs.LoneModules.{alone}
use Rattle.row_laws.proofs.Joined.{in_either}

-- ** Parts without procedures

plain_after : {r : Rule} {x : Tree Token} → Derives grammar r x → alone r ≡ true → (c : ℕ) → blocks_after c x ≡ c
plain_after of_empty h c = refl
plain_after (of_token g) h c = refl
plain_after (of_then {r} {s} {d = x} {e = y} g k) h c =
    let e = and_parts (alone r) (alone s) h in ap (λ z. blocks_after z y) (plain_after g e.0 c) ∙ plain_after k e.1 c
plain_after (of_left {r} {s} g) h c = plain_after g (and_parts (alone r) (alone s) h).0 c
plain_after (of_right {r} {s} g) h c = plain_after g (and_parts (alone r) (alone s) h).1 c
plain_after of_last h c = refl
plain_after (of_more {d = x} {ds = y} g k) h c = ap (λ z. blocks_after z y) (plain_after g h c) ∙ plain_after k h c
plain_after (of_deep g) h c = refl
plain_after (of_sub g) h c = absurd (false≢true h)

-- the numbers behind a procedure are those behind its block
pub after_procedure : {h : Tree Token} → Derives grammar heading h → (b : Tree Token) (s l : Token) (c : ℕ)
    → blocks_after c (part (both h (both (leaf s) (both b (leaf l))))) ≡ blocks_after (suc c) b
after_procedure g b s l c = ap (λ z. blocks_after z b) (plain_after g refl (suc c))

-- the numbers go up
pub later : {r : Rule} {x : Tree Token} → Derives grammar r x → (c : ℕ) → c ≤ blocks_after c x
later of_empty c = omega arith
later (of_token g) c = omega arith
later (of_then {d = x} g k) c = let i = later g c in let j = later k (blocks_after c x) in omega (arith, i, j)
later (of_left g) c = later g c
later (of_right g) c = later g c
later of_last c = omega arith
later (of_more {d = x} g k) c = let i = later g c in let j = later k (blocks_after c x) in omega (arith, i, j)
later (of_deep g) c = omega arith
later (of_sub (of_then gh (of_then (of_token {t = s} gs) (of_then {d = b} gb (of_token {t = l} gl))))) c =
    let e = after_procedure gh b s l c in let i = later gb (suc c) in omega (arith, e, i)

-- ** What a part declares

-- the procedure of number s is declared in this part, and in no other procedure there; the next one has number c
abbrev pub has : (s c : ℕ) → Tree Token → Bool
has s c nothing = false
has s c (leaf t) = false
has s c (both x y) = has s c x || has s (blocks_after c x) y
has s c (left x) = has s c x
has s c (right x) = has s c x
has s c last = false
has s c (more x xs) = has s c x || has s (blocks_after c x) xs
has s c (inner x) = false
has s c (part x) = c == s

-- the same, of the procedure with this heading
abbrev pub Has : Heading → (s c : ℕ) → Tree Token → Type 0
Has h s c nothing = ⊥
Has h s c (leaf t) = ⊥
Has h s c (both x y) = Has h s c x ⊎ Has h s (blocks_after c x) y
Has h s c (left x) = Has h s c x
Has h s c (right x) = Has h s c x
Has h s c last = ⊥
Has h s c (more x xs) = Has h s c x ⊎ Has h s (blocks_after c x) xs
Has h s c (inner x) = ⊥
Has h s c (part (both g x)) = (h ≡ heading_of g) × (s ≡ c)
Has h s c (part x) = ⊥

or_false : (b : Bool) → (b || false) ≡ b
or_false true = refl
or_false false = refl

unequal : (c s : ℕ) → c < s → (c == s) ≡ false
unequal c s h = grind arith

unequal_low : (c s : ℕ) → s < c → (c == s) ≡ false
unequal_low c s h = grind arith

plain_has : {r : Rule} {x : Tree Token} → Derives grammar r x → alone r ≡ true → (s c : ℕ) → has s c x ≡ false
plain_has of_empty h s c = refl
plain_has (of_token g) h s c = refl
plain_has (of_then {r} {s = q} {d = x} g k) h s c =
    let e = and_parts (alone r) (alone q) h in or_from _ _ (plain_has g e.0 s c) (plain_has k e.1 s (blocks_after c x))
plain_has (of_left {r} {s = q} g) h s c = plain_has g (and_parts (alone r) (alone q) h).0 s c
plain_has (of_right {r} {s = q} g) h s c = plain_has g (and_parts (alone r) (alone q) h).1 s c
plain_has of_last h s c = refl
plain_has (of_more {d = x} g k) h s c = or_from _ _ (plain_has g h s c) (plain_has k h s (blocks_after c x))
plain_has (of_deep g) h s c = refl
plain_has (of_sub g) h s c = absurd (false≢true h)

-- no procedure with a number before c is declared there, or with a number behind those that are
pub has_low : {r : Rule} {x : Tree Token} → Derives grammar r x → (s c : ℕ) → s < c → has s c x ≡ false
has_low of_empty s c h = refl
has_low (of_token g) s c h = refl
has_low (of_then {d = x} g k) s c h = let i = later g c in or_from _ _ (has_low g s c h) (has_low k s (blocks_after c x) (omega (arith, h, i)))
has_low (of_left g) s c h = has_low g s c h
has_low (of_right g) s c h = has_low g s c h
has_low of_last s c h = refl
has_low (of_more {d = x} g k) s c h = let i = later g c in or_from _ _ (has_low g s c h) (has_low k s (blocks_after c x) (omega (arith, h, i)))
has_low (of_deep g) s c h = refl
has_low (of_sub g) s c h = unequal_low c s h

pub has_high : {r : Rule} {x : Tree Token} → Derives grammar r x → (s c : ℕ) → blocks_after c x ≤ s → has s c x ≡ false
has_high of_empty s c h = refl
has_high (of_token g) s c h = refl
has_high (of_then {d = x} g k) s c h =
    let j = later k (blocks_after c x) in or_from _ _ (has_high g s c (omega (arith, h, j))) (has_high k s (blocks_after c x) h)
has_high (of_left g) s c h = has_high g s c h
has_high (of_right g) s c h = has_high g s c h
has_high of_last s c h = refl
has_high (of_more {d = x} g k) s c h =
    let j = later k (blocks_after c x) in or_from _ _ (has_high g s c (omega (arith, h, j))) (has_high k s (blocks_after c x) h)
has_high (of_deep g) s c h = refl
has_high (of_sub (of_then gh (of_then (of_token {t} gs) (of_then {d = b} gb (of_token {t = l} gl))))) s c h =
    let e = after_procedure gh b t l c in let i = later gb (suc c) in unequal c s (omega (arith, h, e, i))

-- ** The declarations of a block

any_append : (test : Decl → Bool) (xs ys : List Decl) → list_any test (xs ++ ys) ≡ (list_any test xs || list_any test ys)
any_append test [] ys = refl
any_append test (x ∷ xs) ys = by (test x) (any_append test xs ys)
  where
    by : (b : Bool) → list_any test (xs ++ ys) ≡ (list_any test xs || list_any test ys) → (b || list_any test (xs ++ ys)) ≡ ((b || list_any test xs) || list_any test ys)
    by true h = refl
    by false h = h

-- a declaration of anything but a procedure
abbrev IsOther : Decl → Type 0
IsOther (proc_decl h s) = ⊥
IsOther d = Unit {0}

others_any : (s : ℕ) (ds : List Decl) → Each IsOther ds → list_any (declares s) ds ≡ false
others_any s [] f = refl
others_any s (const_decl i e ∷ ds) f = others_any s ds f.1
others_any s (type_decl i t ∷ ds) f = others_any s ds f.1
others_any s (vars_decl is t ∷ ds) f = others_any s ds f.1
others_any s (proc_decl h k ∷ ds) f = absurd f.0

others_in : (h : Heading) (s : ℕ) (ds : List Decl) → Each IsOther ds → IsIn (proc_decl h s) ds → ⊥
others_in h s [] f i = i
others_in h s (d ∷ ds) f (inl e) = subst IsOther (sym e) f.0
others_in h s (d ∷ ds) f (inr i) = others_in h s ds f.1 i

constants_other : {d : Tree Token} → Derives grammar (many constant) d → Each IsOther (constants_of d)
constants_other of_last = tt
constants_other (of_more (of_then (of_token g) (of_then (of_token e) (of_then v (of_token z)))) k) = (tt, constants_other k)

types_other : {d : Tree Token} → Derives grammar (many type_declaration) d → Each IsOther (type_declarations_of d)
types_other of_last = tt
types_other (of_more (of_then (of_token g) (of_then (of_token e) (of_then v (of_token z)))) k) = (tt, types_other k)

variables_other : {d : Tree Token} → Derives grammar (many variables) d → Each IsOther (all_variables_of d)
variables_other of_last = tt
variables_other (of_more (of_then n (of_then (of_token e) (of_then v (of_token z)))) k) = (tt, variables_other k)

declaration_declares : {d : Tree Token} → Derives grammar (declaration sub) d → (s c : ℕ) → list_any (declares s) (declaration_from c d) ≡ has s c d
declaration_declares (of_left (of_then (of_token g) k)) s c = others_any s _ (constants_other k) ∙ sym (plain_has k refl s c)
declaration_declares (of_right (of_left (of_then (of_token g) k))) s c = others_any s _ (types_other k) ∙ sym (plain_has k refl s c)
declaration_declares (of_right (of_right (of_left (of_then (of_token g) k)))) s c = others_any s _ (variables_other k) ∙ sym (plain_has k refl s c)
declaration_declares (of_right (of_right (of_right (of_sub (of_then gh (of_then (of_token gs) g)))))) s c = or_false (c == s)

declarations_declare : {d : Tree Token} → Derives grammar (many (declaration sub)) d → (s c : ℕ) → list_any (declares s) (declarations_from c d) ≡ has s c d
declarations_declare of_last s c = refl
declarations_declare (of_more {d} {ds} g k) s c =
    any_append (declares s) (declaration_from c d) (declarations_from (blocks_after c d) ds)
    ∙ ap (λ z. z || list_any (declares s) (declarations_from (blocks_after c d) ds)) (declaration_declares g s c)
    ∙ ap (λ z. has s c d || z) (declarations_declare k s (blocks_after c d))

pub block_declares : {b : Tree Token} → Derives grammar (block_rule sub) b → (s c : ℕ) (w : List Token) → list_any (declares s) (block_from c b w).decls ≡ has s c b
block_declares (of_then {d = ds} gd (of_then {d = b} gb (of_then (of_token ge) (of_token gi)))) s c w =
    declarations_declare gd s c ∙ sym (or_false (has s c ds)) ∙ ap (λ z. has s c ds || z) (sym (or_from _ _ (plain_has gb refl s (blocks_after c ds)) refl))

declaration_has : {d : Tree Token} → Derives grammar (declaration sub) d → (h : Heading) (s c : ℕ) → IsIn (proc_decl h s) (declaration_from c d) → Has h s c d
declaration_has (of_left (of_then (of_token g) k)) h s c i = absurd (others_in h s _ (constants_other k) i)
declaration_has (of_right (of_left (of_then (of_token g) k))) h s c i = absurd (others_in h s _ (types_other k) i)
declaration_has (of_right (of_right (of_left (of_then (of_token g) k)))) h s c i = absurd (others_in h s _ (variables_other k) i)
declaration_has (of_right (of_right (of_right (of_sub (of_then {d = x} gh (of_then (of_token gs) g)))))) h s c (inl e) =
    let same : h ≡ heading_of x = cc in
    let number : s ≡ c = cc in
    (same, number)
declaration_has (of_right (of_right (of_right (of_sub (of_then gh (of_then (of_token gs) g)))))) h s c (inr i) = absurd i

declarations_have : {d : Tree Token} → Derives grammar (many (declaration sub)) d → (h : Heading) (s c : ℕ) → IsIn (proc_decl h s) (declarations_from c d) → Has h s c d
declarations_have of_last h s c i = absurd i
declarations_have (of_more {d} {ds} g k) h s c i =
    in_either (proc_decl h s) (declaration_from c d) (declarations_from (blocks_after c d) ds) (λ j. inl (declaration_has g h s c j)) (λ j. inr (declarations_have k h s (blocks_after c d) j)) i

-- what a block declares is declared in its part
pub block_has : {b : Tree Token} → Derives grammar (block_rule sub) b → (h : Heading) (s c : ℕ) (w : List Token) → IsIn (proc_decl h s) (block_from c b w).decls → Has h s c b
block_has (of_then gd (of_then gb (of_then (of_token ge) (of_token gi)))) h s c w i = inl (declarations_have gd h s c i)
