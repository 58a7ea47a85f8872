-- Which procedures the blocks of a main text declare, by its derivation.
use Rattle.std.proofs.Common.{◌≡◌, ℕ, suc, Bool, true, false, List, [], ◌∷◌, ◌++◌, refl, sym, ap, ◌∙◌, ◌||◌, true≢false, ◌==◌, ◌<◌, ◌≤◌, arith}
use Rattle.std.specs.List.{list_any}
use Rattle.m2_base.specs.declared.token.Token.{Token}
use Rattle.m2_base.specs.Grammar.{declaration, block as block_rule, constant, type_declaration, variables}
use Rattle.m2_base.specs.Statics.Blocks.{declares}
use Rattle.m2_base.specs.StreamsOf.{constants_of, type_declarations_of, all_variables_of}
use Rattle.m2_base.specs.Trees.{Decl}
use Rattle.m2_base.specs.WholeTexts.{blocks_after, declaration_from, declarations_from, block_from}
use Rattle.ll_grammar.proofs.KindSets.{and_l, and_r}
use Rattle.ll_grammar.specs.Derivations.{Tree, nothing, leaf, both, left, right, last, more, inner, part, Derives, of_empty, of_token, of_then, of_left, of_right, of_last, of_more, of_deep, of_sub}
use Rattle.ll_grammar.specs.Grammar.{Rule, many, sub, Grammar}
use Rattle.stream_split.proofs.Checked.{cuttable}
use Rattle.stream_split.proofs.Flow.{grammar_of, plain}
use Rattle.stream_split.proofs.Parts.{streams_after}
use Rattle.stream_split.proofs.TreesAgree.{same_count}

abbrev W : Grammar Token
W = grammar_of cuttable

-- the procedure of stream s is declared in this tree, and in no other procedure there; the next stream has number c
abbrev pub has : (s c : ℕ) → Tree Token → Bool
has s c nothing = false
has s c (leaf t) = false
has s c (both x y) = has s c x || has s (streams_after c x) y
has s c (left x) = has s c x
has s c (right x) = has s c x
has s c last = false
has s c (more x xs) = has s c x || has s (streams_after c x) xs
has s c (inner x) = false
has s c (part x) = c == s

or_false : (b : Bool) → (b || false) ≡ b
or_false true = refl
or_false false = refl

both_false : (a b : Bool) → a ≡ false → b ≡ false → (a || b) ≡ false
both_false a b e f = ap (λ z. z || b) e ∙ f

unequal : (c s : ℕ) → c < s → (c == s) ≡ false
unequal c s h = grind arith

unequal_low : (c s : ℕ) → s < c → (c == s) ≡ false
unequal_low c s h = grind arith

pub later : {r : Rule} {x : Tree Token} → Derives W r x → (c : ℕ) → c ≤ streams_after c x
later of_empty c = omega arith
later (of_token g) c = omega arith
later (of_then {d = x} g g') c = let i = later g c in let j = later g' (streams_after c x) in omega (arith, i, j)
later (of_left g) c = later g c
later (of_right g) c = later g c
later of_last c = omega arith
later (of_more {d = x} g g') c = let i = later g c in let j = later g' (streams_after c x) in omega (arith, i, j)
later (of_deep g) c = omega arith
later (of_sub (of_then gh (of_then (of_token gs) (of_then gb (of_token gl))))) c = let i = later gb (suc c) in omega (arith, i)

plain_has : {r : Rule} {x : Tree Token} → Derives W r x → plain r ≡ true → (s c : ℕ) → has s c x ≡ false
plain_has of_empty h s c = refl
plain_has (of_token g) h s c = refl
plain_has (of_then {r} {d = x} g g') h s c = both_false _ _ (plain_has g (and_l _ _ h) s c) (plain_has g' (and_r (plain r) _ h) s (streams_after c x))
plain_has (of_left g) h s c = plain_has g (and_l _ _ h) s c
plain_has (of_right {r} g) h s c = plain_has g (and_r (plain r) _ h) s c
plain_has of_last h s c = refl
plain_has (of_more {d = x} g g') h s c = both_false _ _ (plain_has g h s c) (plain_has g' h s (streams_after c x))
plain_has (of_deep g) h s c = refl
plain_has (of_sub g) h s c = absurd (true≢false (sym h))

-- no procedure with a number before c is declared there, or with a number behind those that are
pub has_low : {r : Rule} {x : Tree Token} → Derives W r x → (s c : ℕ) → s < c → has s c x ≡ false
has_low of_empty s c h = refl
has_low (of_token g) s c h = refl
has_low (of_then {d = x} g g') s c h = let i = later g c in both_false _ _ (has_low g s c h) (has_low g' s (streams_after c x) (omega (arith, h, i)))
has_low (of_left g) s c h = has_low g s c h
has_low (of_right g) s c h = has_low g s c h
has_low of_last s c h = refl
has_low (of_more {d = x} g g') s c h = let i = later g c in both_false _ _ (has_low g s c h) (has_low g' s (streams_after c x) (omega (arith, h, i)))
has_low (of_deep g) s c h = refl
has_low (of_sub g) s c h = unequal_low c s h

pub has_high : {r : Rule} {x : Tree Token} → Derives W r x → (s c : ℕ) → streams_after c x ≤ s → has s c x ≡ false
has_high of_empty s c h = refl
has_high (of_token g) s c h = refl
has_high (of_then {d = x} g g') s c h = let j = later g' (streams_after c x) in both_false _ _ (has_high g s c (omega (arith, h, j))) (has_high g' s (streams_after c x) h)
has_high (of_left g) s c h = has_high g s c h
has_high (of_right g) s c h = has_high g s c h
has_high of_last s c h = refl
has_high (of_more {d = x} g g') s c h = let j = later g' (streams_after c x) in both_false _ _ (has_high g s c (omega (arith, h, j))) (has_high g' s (streams_after c x) h)
has_high (of_deep g) s c h = refl
has_high (of_sub (of_then gh (of_then (of_token gs) (of_then gb (of_token gl))))) s c h = let i = later gb (suc c) in unequal c s (omega (arith, h, i))

-- ** The declarations of a block

any_append : (test : Decl → Bool) (xs ys : List Decl) → list_any test (xs ++ ys) ≡ (list_any test xs || list_any test ys)
any_append test [] ys = refl
any_append test (x ∷ xs) ys = by (test x) (any_append test xs ys)
  where
    by : (b : Bool) → list_any test (xs ++ ys) ≡ (list_any test xs || list_any test ys) → (b || list_any test (xs ++ ys)) ≡ ((b || list_any test xs) || list_any test ys)
    by true h = refl
    by false h = h

constants_declare : {d : Tree Token} → Derives W (many constant) d → (s : ℕ) → list_any (declares s) (constants_of d) ≡ false
constants_declare of_last s = refl
constants_declare (of_more (of_then (of_token g) (of_then (of_token e) (of_then h (of_token z)))) k) s = constants_declare k s

types_declare : {d : Tree Token} → Derives W (many type_declaration) d → (s : ℕ) → list_any (declares s) (type_declarations_of d) ≡ false
types_declare of_last s = refl
types_declare (of_more (of_then (of_token g) (of_then (of_token e) (of_then h (of_token z)))) k) s = types_declare k s

variables_declare : {d : Tree Token} → Derives W (many variables) d → (s : ℕ) → list_any (declares s) (all_variables_of d) ≡ false
variables_declare of_last s = refl
variables_declare (of_more (of_then h (of_then (of_token e) (of_then j (of_token z)))) k) s = variables_declare k s

declaration_declares : {d : Tree Token} → Derives W (declaration sub) d → (s c : ℕ) → list_any (declares s) (declaration_from c d) ≡ has s c d
declaration_declares (of_left (of_then (of_token g) h)) s c = constants_declare h s ∙ sym (plain_has h refl s c)
declaration_declares (of_right (of_left (of_then (of_token g) h))) s c = types_declare h s ∙ sym (plain_has h refl s c)
declaration_declares (of_right (of_right (of_left (of_then (of_token g) h)))) s c = variables_declare h s ∙ sym (plain_has h refl s c)
declaration_declares (of_right (of_right (of_right (of_sub (of_then gh (of_then (of_token gs) g)))))) s c = or_false (c == s)

declarations_declare : {d : Tree Token} → Derives W (many (declaration sub)) d → (s c : ℕ) → list_any (declares s) (declarations_from c d) ≡ has s c d
declarations_declare of_last s c = refl
declarations_declare (of_more {d = d} {ds = ds} g g') s c =
    any_append (declares s) (declaration_from c d) (declarations_from (blocks_after c d) ds) ∙ ap (λ z. z || list_any (declares s) (declarations_from (blocks_after c d) ds)) (declaration_declares g s c)
    ∙ ap (λ z. has s c d || z) (ap (λ z. list_any (declares s) (declarations_from z ds)) (same_count g c) ∙ declarations_declare g' s (streams_after c d))

pub block_declares : {b : Tree Token} → Derives W (block_rule sub) b → (s c : ℕ) (w : List Token) → list_any (declares s) (block_from c b w).decls ≡ has s c b
block_declares (of_then {d = ds} gd (of_then {d = b} gb (of_then (of_token ge) (of_token gi)))) s c w =
    declarations_declare gd s c ∙ sym (or_false (has s c ds)) ∙ ap (λ z. has s c ds || z) (sym (both_false _ _ (plain_has gb refl s (streams_after c ds)) refl))
