-- A unit of one text in which no procedure begins: the tree of its stream is that of the text.
use Rattle.std.proofs.Common.{◌≡◌, ◌∙◌, ℕ, suc, Bool, true, false, ◌&&◌, List, [], ◌∷◌, ◌++◌, None, refl, sym, ap, subst, if◌then◌else◌}
use Rattle.std.specs.List.{AllZip}
use Rattle.std.proofs.lemmas.Bool.{false≢true}
use Rattle.m2_base.specs.declared.kind.TokenKind.{TokenKind}
use Rattle.m2_base.specs.declared.kind.TokenKind.TheVariants.{Identifier, Procedure}
use Rattle.m2_base.specs.declared.token.Token.{Token}
use Rattle.m2_base.specs.declared.trees.declarations.StreamKind.TheVariants.{Main}
use Rattle.m2_base.specs.Finished.{AreRead, HasNoProcedure, lone_trees, main_number, main_tokens, scope_in, tokens_of}
use Rattle.m2_base.specs.ExpressionsOf.{ident_of}
use Rattle.m2_base.specs.Grammar.{grammar, levels, main, stream, declaration, procedure_cut}
use Rattle.m2_base.specs.KindNumbers.{kind_number}
use Rattle.m2_base.specs.Statics.BlockLimits.{Begun, begins_procedure, is_identifier, is_procedure_word, limit_from, procedures_of}
use Rattle.m2_base.specs.StreamsOf.{body_of, declaration_of, declarations_of, imports_of, main_of, main_tree, stream_of}
use Rattle.m2_base.specs.Trees.{Stream}
use Rattle.m2_base.specs.TypesOf.{is_there}
use Rattle.m2_base.specs.Units.{UnitTexts}
use Rattle.m2_base.specs.WholeTexts.{SpellsDefinition, blocks_after, declaration_from, declarations_from, main_blocks, procedures_from}
use Rattle.ll_grammar.specs.Derivations.{Tree, both, tokens, Derives, of_empty, of_token, of_then, of_left, of_right, of_last, of_more, of_deep, of_sub}
use Rattle.ll_grammar.specs.Grammar.{Rule, empty, token, then as followed, or, many, deep, sub}
use Rattle.ll_grammar.specs.LookAhead.{member}
use Rattle.ll_grammar.specs.Texts as texts

-- ** Parts without procedures

-- no procedure is part of it
abbrev pub alone : Rule → Bool
alone empty = true
alone (token ks) = true
alone (followed r s) = alone r && alone s
alone (or r s) = alone r && alone s
alone (many r) = alone r
alone (deep n) = true
alone sub = false

both_are : (a b : Bool) → (a && b) ≡ true → (a ≡ true) × (b ≡ true)
both_are true b h = (refl, h)
both_are false b h = absurd (false≢true h)

no_procedures : {r : Rule} {d : Tree Token} → Derives grammar r d → alone r ≡ true → (c : ℕ) → procedures_from c d ≡ []
no_procedures of_empty h c = refl
no_procedures (of_token g) h c = refl
no_procedures (of_then {r} {s} {d} {e} p q) h c =
    ap (λ z. z ++ procedures_from (blocks_after c d) e) (no_procedures p (both_are (alone r) (alone s) h).0 c)
    ∙ no_procedures q (both_are (alone r) (alone s) h).1 (blocks_after c d)
no_procedures (of_left {r} {s} p) h c = no_procedures p (both_are (alone r) (alone s) h).0 c
no_procedures (of_right {r} {s} p) h c = no_procedures p (both_are (alone r) (alone s) h).1 c
no_procedures of_last h c = refl
no_procedures (of_more {r} {d} {ds} p q) h c =
    ap (λ z. z ++ procedures_from (blocks_after c d) ds) (no_procedures p h c) ∙ no_procedures q h (blocks_after c d)
no_procedures (of_deep p) h c = refl
no_procedures (of_sub p) h c = absurd (false≢true h)

-- ** Declarations

procedure_word : (k : TokenKind) → member (kind_number k) (kind_number Procedure ∷ []) ≡ true → is_procedure_word k ≡ true
procedure_word Procedure e = refl
procedure_word _ e = absurd (false≢true e)

identifier : (k : TokenKind) → member (kind_number k) (kind_number Identifier ∷ []) ≡ true → is_identifier k ≡ true
identifier Identifier e = refl
identifier _ e = absurd (false≢true e)

both_not : (a b : Bool) → (a && b) ≡ false → a ≡ true → b ≡ false
both_not true b h e = h
both_not false b h e = absurd (false≢true e)

-- tokens that begin no procedure with others behind them begin none alone
begins_none : (k : TokenKind) (xs ys : List Token) → begins_procedure k (xs ++ ys) ≡ false → begins_procedure k xs ≡ false
begins_none k [] ys h = never (is_procedure_word k)
  where
    never : (b : Bool) → (b && false) ≡ false
    never true = refl
    never false = refl
begins_none k (x ∷ xs) ys h = h

each_left : (xs ys : List Token) → HasNoProcedure (xs ++ ys) → HasNoProcedure xs
each_left [] ys h = tt
each_left (x ∷ xs) ys h = (begins_none x.kind xs ys h.0, each_left xs ys h.1)

each_right : (xs ys : List Token) → HasNoProcedure (xs ++ ys) → HasNoProcedure ys
each_right [] ys h = h
each_right (x ∷ xs) ys h = each_right xs ys h.1

-- PROCEDURE before an identifier begins one
heading_begins : (k i : TokenKind) → member (kind_number k) (kind_number Procedure ∷ []) ≡ true → member (kind_number i) (kind_number Identifier ∷ []) ≡ true
    → (is_procedure_word k && is_identifier i) ≡ true
heading_begins k i p q = ap (λ b. b && is_identifier i) (procedure_word k p) ∙ identifier i q

-- a declaration reads the same in a text, and has no procedure
record Same (d : Tree Token) : Type 0 where
  pub derives : Derives grammar (declaration sub) d
  pub reads : (c : ℕ) → declaration_from c d ≡ declaration_of d
  pub none : (c : ℕ) → procedures_from c d ≡ []

same_declaration : {d : Tree Token} → Derives grammar (declaration procedure_cut) d → HasNoProcedure (tokens d) → Same d
same_declaration (of_left p) h = record { derives = of_left p; reads = λ c. refl; none = λ c. no_procedures p refl c }
same_declaration (of_right (of_left p)) h = record { derives = of_right (of_left p); reads = λ c. refl; none = λ c. no_procedures p refl c }
same_declaration (of_right (of_right (of_left p))) h = record { derives = of_right (of_right (of_left p)); reads = λ c. refl; none = λ c. no_procedures p refl c }
same_declaration (of_right (of_right (of_right (of_then (of_then (of_token {t} g) (of_then (of_token {t = i} gi) q)) r)))) h = absurd (false≢true (sym h.0 ∙ heading_begins t.kind i.kind g gi))

record SameAll (ds : Tree Token) : Type 0 where
  pub derives : Derives grammar (many (declaration sub)) ds
  pub reads : (c : ℕ) → declarations_from c ds ≡ declarations_of ds
  pub none : (c : ℕ) → procedures_from c ds ≡ []

same_declarations : {ds : Tree Token} → Derives grammar (many (declaration procedure_cut)) ds → HasNoProcedure (tokens ds) → SameAll ds
same_declarations of_last h = record { derives = of_last; reads = λ c. refl; none = λ c. refl }
same_declarations (of_more {d} {ds} p q) h =
    let first = same_declaration p (each_left (tokens d) (tokens ds) h) in
    let rest = same_declarations q (each_right (tokens d) (tokens ds) h) in
    record {
      derives = of_more first.derives rest.derives;
      reads = λ c. λ k. first.reads c k ++ rest.reads (blocks_after c d) k;
      none = λ c. λ k. first.none c k ++ rest.none (blocks_after c d) k;
    }

-- ** The main text

record SameMain (d : Tree Token) : Type 0 where
  pub derives : Derives grammar (main sub) d
  pub reads : (m : ℕ) → main_blocks m d [] ≡ main_of d [] ∷ []

same_main : {d : Tree Token} → Derives grammar (main procedure_cut) d → HasNoProcedure (tokens d) → SameMain d
same_main (of_then {d = a} p (of_then {d = b} q (of_then {d = i} r (of_then {d = s} t (of_then {d = is} u (of_then (of_then {d = ds} v (of_then {d = bd} w (of_then {d = en} {e = cl} x y))) (of_then {d = pe} {e = ed} z o))))))) h =
    let bl : Tree Token = both ds (both bd (both en cl)) in
    let fin : Tree Token = both pe ed in
    let behind_a = each_right (tokens a) _ h in
    let behind_b = each_right (tokens b) _ behind_a in
    let behind_i = each_right (tokens i) _ behind_b in
    let behind_s = each_right (tokens s) _ behind_i in
    let behind_is : HasNoProcedure (tokens bl ++ tokens fin) = each_right (tokens is) _ behind_s in
    let all = same_declarations v (each_left (tokens ds) _ (each_left (tokens bl) (tokens fin) behind_is)) in
    record {
      derives = of_then p (of_then q (of_then r (of_then t (of_then u (of_then (of_then all.derives (of_then w (of_then x y))) (of_then z o))))));
      reads = λ m. λ k.
          main_tree (is_there a) (ident_of i) (imports_of is) (record { decls = all.reads (suc m) k; body = body_of bd (tokens (both en cl) ++ (tokens fin ++ [])); close = ident_of cl })
          ∷ (all.none (suc m) k ++ no_procedures (of_then w (of_then x y)) refl (blocks_after (suc m) ds) k);
    }

-- ** The unit

none_begin : (ts : List Token) → HasNoProcedure ts → procedures_of ts ≡ []
none_begin [] h = refl
none_begin (t ∷ ts) h = at_word _ _ (begins_procedure t.kind ts) h.0 ∙ none_begin ts h.1
  where
    at_word : (begun rest : List Begun) (b : Bool) → b ≡ false → (if b then begun else rest) ≡ rest
    at_word begun rest false e = refl
    at_word begun rest true e = absurd (false≢true (sym e))

pub lone_read : (u : UnitTexts) (tree : Stream) → u.order ≡ [] → u.own ≡ None → HasNoProcedure (main_tokens u)
    → texts.Spells grammar levels (stream Main) (stream_of Main) tree (main_tokens u) → AreRead u (lone_trees u tree)
lone_read u tree order own none spells =
    let same : SameMain spells.sentence.tree = same_main spells.sentence.derives (subst HasNoProcedure (sym spells.sentence.spells) none) in
    record {
      source = refl;
      own = ap (scope_in u.order) (sym own);
      definitions = subst (λ ks. AllZip (λ k t. SpellsDefinition (t ∷ []) (tokens_of u k)) ks []) (sym order) tt;
      main = record {
        sentence = record { tree = spells.sentence.tree; derives = same.derives; spells = spells.sentence.spells; within = spells.sentence.within };
        gives = same.reads (main_number u) ∙ ap (λ t. t ∷ []) spells.gives;
      };
      limits = ap (limit_from 0) (none_begin (main_tokens u) none);
    }
