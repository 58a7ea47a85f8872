-- The front of a definition text names the modules that its tree imports.
use Rattle.std.proofs.Common.{◌≡◌, ◌∙◌, ℕ, Bool, true, false, List, [], ◌∷◌, ◌++◌, Some, refl, sym, ap, subst, inl, true≢false, append_assoc, arith}
use Rattle.std.specs.Prelude.{◌==◌, ◌||◌, flat_map}
use Rattle.ll_grammar.specs.Derivations.{Tree, nothing, leaf, both, right, last, tokens, Derives, of_empty, of_token, of_then, of_left, of_right, of_last, of_more}
use Rattle.ll_grammar.specs.Grammar.{Rule, many, token, ◌⨾◌}
use Rattle.ll_grammar.specs.LookAhead.{member}
use Rattle.ll_grammar.specs.Sentences.{SameHead}
use Rattle.m2_base.specs.Fronts.{BreaksOff, Front, Imported, IsFront, an_import, anything, head_of, modules_of, named, no_import, semicolon}
use Rattle.m2_base.specs.Grammar as rules
use Rattle.m2_base.specs.Grammar.{a, grammar, imported, levels}
use Rattle.m2_base.specs.KindNumbers.{kind_number, sample}
use Rattle.m2_base.specs.StreamsOf as streams
use Rattle.m2_base.specs.StreamsOf.{import_of}
use Rattle.m2_base.specs.Trees.{Stream}
use Rattle.m2_base.specs.WholeTexts.{SpellsDefinition}
use Rattle.m2_base.specs.declared.kind.TokenKind.TheVariants.{Const, End, EndOfText, Export, From, Identifier, Import, Period, Procedure, Semicolon, «Type», Var}
use Rattle.m2_base.specs.declared.token.Token.{Token}
use Rattle.m2_base.specs.declared.trees.Ident.{Ident}

-- ** First tokens

-- an import begins with a token of this kind
abbrev opens_import : ℕ → Bool
opens_import k = (k == kind_number From) || (k == kind_number Import)

-- the tokens begin with one of an import, or with another
abbrev Starts : Bool → List Token → Type 0
Starts b [] = ⊥
Starts b (t ∷ ts) = opens_import (kind_number t.kind) ≡ b

starts_more : (b : Bool) (xs ys : List Token) → Starts b xs → Starts b (xs ++ ys)
starts_more b [] ys h = absurd h
starts_more b (x ∷ xs) ys h = h

only : (k n : ℕ) → member k (n ∷ []) ≡ true → k ≡ n
only k n h = by (k == n) refl h
  where
    by : (b : Bool) → (k == n) ≡ b → (b || false) ≡ true → k ≡ n
    by true e h = grind arith
    by false e h = absurd (true≢false (sym h))

token_starts : (b : Bool) (n : ℕ) {d : Tree Token} → opens_import n ≡ b → Derives grammar (token (n ∷ [])) d → Starts b (tokens d)
token_starts b n e (of_token {t = t} m) = ap opens_import (only (kind_number t.kind) n m) ∙ e

imported_starts : {d : Tree Token} → Derives grammar imported d → Starts true (tokens d)
imported_starts (of_then {e = e} (of_left (of_then {d = f} {e = i} gf gi)) g) =
    starts_more true (tokens f ++ tokens i) (tokens e) (starts_more true (tokens f) (tokens i) (token_starts true (kind_number From) refl gf))
imported_starts (of_then (of_right of_empty) (of_then {d = w} {e = e} gw g)) = starts_more true (tokens w) (tokens e) (token_starts true (kind_number Import) refl gw)

declaration_starts : {d : Tree Token} → Derives grammar rules.definition_declaration d → Starts false (tokens d)
declaration_starts (of_left (of_then {d = w} {e = e} gw g)) = starts_more false (tokens w) (tokens e) (token_starts false (kind_number Const) refl gw)
declaration_starts (of_right (of_left (of_then {d = w} {e = e} gw g))) = starts_more false (tokens w) (tokens e) (token_starts false (kind_number «Type») refl gw)
declaration_starts (of_right (of_right (of_left (of_then {d = w} {e = e} gw g)))) = starts_more false (tokens w) (tokens e) (token_starts false (kind_number Var) refl gw)
declaration_starts (of_right (of_right (of_right (of_then {e = s} (of_then {d = w} {e = e} gw g) k)))) =
    starts_more false (tokens w ++ tokens e) (tokens s) (starts_more false (tokens w) (tokens e) (token_starts false (kind_number Procedure) refl gw))

-- what stands behind the imports of a definition text
abbrev behind_imports : Rule
behind_imports = rules.export ⨾ many rules.definition_declaration ⨾ a End ⨾ rules.ident ⨾ a Period ⨾ a EndOfText

behind_starts : {d : Tree Token} → Derives grammar behind_imports d → Starts false (tokens d)
behind_starts (of_then {e = e} (of_left (of_then {d = w} {e = x} gw g)) k) =
    starts_more false (tokens w ++ tokens x) (tokens e) (starts_more false (tokens w) (tokens x) (token_starts false (kind_number Export) refl gw))
behind_starts (of_then (of_right of_empty) (of_then of_last (of_then {d = w} {e = e} gw g))) = starts_more false (tokens w) (tokens e) (token_starts false (kind_number End) refl gw)
behind_starts (of_then (of_right of_empty) (of_then {e = e} (of_more {d = x} {ds = xs} gx g) k)) =
    starts_more false (tokens x ++ tokens xs) (tokens e) (starts_more false (tokens x) (tokens xs) (declaration_starts gx))

never_same : (xs ys : List Token) → Starts true xs → Starts false ys → SameHead xs ys → ⊥
never_same [] ys p q e = absurd p
never_same (x ∷ xs) [] p q e = absurd q
never_same (x ∷ xs) (y ∷ ys) p q e = true≢false (sym p ∙ ap (λ (t : Token). opens_import (kind_number t.kind)) e ∙ q)

-- ** Imports

-- an import with something behind it
abbrev an_import_tree : Tree Token
an_import_tree = both (both (right nothing) (both (leaf (sample Import)) (both (both (leaf (sample Identifier)) last) (leaf (sample Semicolon))))) last

import_derives : Derives grammar (imported ⨾ anything) an_import_tree
import_derives = of_then (of_then (of_right of_empty) (of_then (of_token refl) (of_then (of_then (of_token refl) of_last) (of_token refl)))) of_last

never_begins : (ts : List Token) → Starts false ts → {d : Tree Token} → Derives grammar (imported ⨾ anything) d → SameHead (tokens d) ts → ⊥
never_begins ts h (of_then {d = x} {e = y} gx gy) same = never_same (tokens x ++ tokens y) ts (starts_more true (tokens x) (tokens y) (imported_starts gx)) h same

no_import_here : (ts : List Token) → Starts false ts → BreaksOff imported ts
no_import_here ts h =
    record {
      rest = ts;
      faulty =
          record {
            before = [];
            is = refl;
            beginning = record { tree = an_import_tree; derives = import_derives; behind = tokens an_import_tree; spells = refl; within = inl refl };
            refusal = λ d g same. never_begins ts h g same;
          };
    }

imports_told : {is : Tree Token} → Derives grammar (many imported) is → (rest : List Token) → Starts false rest → Imported (tokens is ++ rest) (flat_map modules_of (streams.imports_of is))
imports_told of_last rest h = no_import (no_import_here rest h)
imports_told (of_more {d = d} {ds = ds} g k) rest h = an_import (record { derives = g; spells = append_assoc (tokens d) (tokens ds) rest }) (imports_told k rest h)

-- ** Fronts

-- a front of these tokens with these modules
pub record HasFront (modules : List Ident) (ts : List Token) : Type 0 where
  pub front : Front
  pub is : IsFront true ts front
  pub imports : front.imports ≡ modules

front_derived : {x : Tree Token} → Derives grammar rules.definition x → HasFront (flat_map modules_of (streams.definition_of x []).imports) (tokens x)
front_derived (of_then (of_token {t = d} gd) (of_then (of_token {t = m} gm) (of_then (of_token {t = i} gi) (of_then (of_token {t = s} gs) (of_then {d = is} {e = e} gis
    (of_then gx (of_then gds (of_then ge (of_then gc (of_then gp gn)))))))))) =
    record {
      front = record {
        name = Some (head_of true (both (leaf d) (both (leaf m) (leaf i)))).1;
        implementation = (head_of true (both (leaf d) (both (leaf m) (leaf i)))).0;
        imports = flat_map modules_of (streams.imports_of is);
      };
      is =
          named (record { derives = of_then (of_token gd) (of_then (of_token gm) (of_token gi)); spells = refl })
          (semicolon (record { derives = of_token gs; spells = refl }) (imports_told gis (tokens e) (behind_starts (of_then gx (of_then gds (of_then ge (of_then gc (of_then gp gn))))))));
      imports = refl;
    }

-- a definition text that spells a tree has the front with the modules that the tree imports
pub front_told : (tree : Stream) (ts : List Token) → SpellsDefinition (tree ∷ []) ts → HasFront (flat_map modules_of tree.imports) ts
front_told tree ts spelled =
    let s = spelled.sentence in
    let same : streams.definition_of s.tree [] ≡ tree = let all = spelled.gives in cc in
    subst (λ (us : List Token). HasFront (flat_map modules_of tree.imports) us) s.spells
    (subst (λ (z : Stream). HasFront (flat_map modules_of z.imports) (tokens s.tree)) same (front_derived s.derives))
