-- The trees of read texts are of the kinds of their texts, and their blocks have their forms and their procedures.
use Rattle.std.specs.Prelude.{◌≡◌, ℕ, suc, ◌+◌, ◌<◌, ◌≤◌, length, option_map, position, ◌==◌, List, [], ◌∷◌, Option, Some, None}
use Rattle.std.specs.List.{AllZip}
use Rattle.std.proofs.Common.{ap, subst, sym, refl, inl, inr, arith}
use Rattle.std.proofs.lemmas.Slice.Zip.{AllZip-long}
use Rattle.ll_grammar.specs.Derivations.{Tree, Derives, of_empty, of_token, of_then, of_left, of_right, of_last, of_more, of_deep, of_sub}
use Rattle.ll_grammar.specs.Grammar.{Rule, sub}
use Rattle.m2_base.specs.ExpressionsOf as expressions
use Rattle.m2_base.specs.Finished.{AreRead, main_number, scope_in, tokens_of}
use Rattle.m2_base.specs.Grammar.{grammar, main}
use Rattle.m2_base.specs.Lists.{Each, WhereKept}
use Rattle.m2_base.specs.Statics.Blocks.{BlockTree, UnitTrees, blocks_of, blocks_of_main, definition_blocks, home_of}
use Rattle.m2_base.specs.Statics.Closing.{heading_name}
use Rattle.m2_base.specs.Statics.Contexts.{DefinitionModule}
use Rattle.m2_base.specs.StreamsOf as streams
use Rattle.m2_base.specs.Trees.{Stream}
use Rattle.m2_base.specs.Units.{UnitTexts}
use Rattle.m2_base.specs.WholeTexts as whole
use Rattle.m2_base.specs.WholeTexts.{SpellsDefinition, SpellsMain, blocks_after, procedures_from}
use Rattle.m2_base.specs.declared.token.Token.{Token}
use Rattle.m2_base.specs.declared.trees.declarations.StreamKind.TheVariants.{Definition, Procedure}
use Rattle.m2_base.proofs.EachLaws.{each_append, each_then}
use Rattle.row_laws.specs.TextTrees.{AreOfMain, AreOfTexts, HasTree, IsTreeOf}
use Rattle.row_laws.specs.UnitBlocks.{HasItsBlocks, HasItsForm, HasItsProcedures}
use Rattle.row_laws.proofs.Chains.{IsChained, blocks_chained}
use Rattle.row_laws.proofs.InnerBlocks.{HasInner, main_have, there_right}
use Rattle.row_laws.proofs.TreesOf.{tree_of_kind}

-- ** The trees

definition_read : (tree : Stream) (ts : List Token) → SpellsDefinition (tree ∷ []) ts → IsTreeOf Definition tree
definition_read tree ts spelled =
    let same : streams.definition_of spelled.sentence.tree [] ≡ tree = let all = spelled.gives in cc in
    tree_of_kind Definition tree ts (record { sentence = spelled.sentence; gives = same })

definitions_read : (u : UnitTexts) (order : List ℕ) (trees : List Stream) → AllZip (λ k tree. SpellsDefinition (tree ∷ []) (tokens_of u k)) order trees → Each (IsTreeOf Definition) trees
definitions_read u [] [] read = tt
definitions_read u [] (tree ∷ trees) read = absurd read
definitions_read u (k ∷ order) [] read = absurd read
definitions_read u (k ∷ order) (tree ∷ trees) read = (definition_read tree (tokens_of u k) read.0, definitions_read u order trees read.1)

procedures_read : {r : Rule} {x : Tree Token} → Derives grammar r x → (c : ℕ) → Each (IsTreeOf Procedure) (procedures_from c x)
procedures_read of_empty c = tt
procedures_read (of_token g) c = tt
procedures_read (of_then {d = x} {e = y} g k) c =
    each_append (IsTreeOf Procedure) (procedures_from c x) (procedures_from (blocks_after c x) y) (procedures_read g c) (procedures_read k (blocks_after c x))
procedures_read (of_left g) c = procedures_read g c
procedures_read (of_right g) c = procedures_read g c
procedures_read of_last c = tt
procedures_read (of_more {d = x} {ds = y} g k) c =
    each_append (IsTreeOf Procedure) (procedures_from c x) (procedures_from (blocks_after c x) y) (procedures_read g c) (procedures_read k (blocks_after c x))
procedures_read (of_deep g) c = tt
procedures_read (of_sub (of_then {d = h} gh (of_then gs (of_then gb gl)))) c =
    (record { kind_is = refl; heading = streams.heading_of h; headed = refl; no_imports = refl }, procedures_read gb (suc c))

main_read : {x : Tree Token} → Derives grammar (main sub) x → (m : ℕ) → AreOfMain (whole.main_blocks m x [])
main_read (of_then implementation (of_then word (of_then {d = i} name (of_then semicolon (of_then is (of_then b (of_then period stop))))))) m =
    (record { kind_is = refl; name = expressions.ident_of i; named = refl; headless = refl }, procedures_read b (suc m))

pub trees_read : (texts : UnitTexts) (u : UnitTrees) → AreRead texts u → AreOfTexts u
trees_read texts u read =
    record {
      definitions = definitions_read texts texts.order u.definitions read.definitions;
      main = subst AreOfMain read.main.gives (main_read read.main.sentence.derives (main_number texts));
    }

-- ** The forms

form_of : (home : ℕ) (b : BlockTree) → HasTree home b → HasItsForm home b
form_of home b (inl h) =
    let low = h.0 in
    record {
      definition = λ k. h.1.kind_is;
      module_kind = λ k. absurd (omega (arith, low, k));
      module_heading = λ k. absurd (omega (arith, low, k));
      procedure = λ k. absurd (omega (arith, low, k));
      name = h.1.name;
      named = λ k. heading_name (h.1.named k) (h.1.headless k);
    }
form_of home b (inr (inl h)) =
    let same = h.0 in
    record {
      definition = λ k. absurd (omega (arith, same, k));
      module_kind = λ k. h.1.kind_is;
      module_heading = λ k. h.1.headless;
      procedure = λ k. absurd (omega (arith, same, k));
      name = h.1.name;
      named = λ k. heading_name (h.1.named k) (h.1.headless k);
    }
form_of home b (inr (inr h)) =
    let high = h.0 in
    record {
      definition = λ k. absurd (omega (arith, high, k));
      module_kind = λ k. absurd (omega (arith, high, k));
      module_heading = λ k. absurd (omega (arith, high, k));
      procedure = λ k. h.1.kind_is;
      name = h.1.heading.name;
      named = ap (heading_name b.tree.name) h.1.headed;
    }

-- ** The procedures

-- definition modules come before the main module
definitions_before : (u : UnitTrees) (home s : ℕ) (ds : List DefinitionModule) (trees : List Stream) → home ≡ home_of u → s + length trees ≤ home → Each (HasItsProcedures u) (definition_blocks s ds trees)
definitions_before u home s [] trees e h = tt
definitions_before u home s (d ∷ ds) [] e h = tt
definitions_before u home s (d ∷ ds) (tree ∷ trees) e h = (λ k. absurd (omega (arith, e, h, k)), definitions_before u home (s + 1) ds trees e (omega (arith, h)))

blocks_have : (u : UnitTrees) → Each (HasInner (blocks_of_main u u.main)) (blocks_of_main u u.main) → Each (HasItsProcedures u) (blocks_of u)
unfolding blocks_of
blocks_have u f =
    let first : List BlockTree = definition_blocks 1 u.source.definitions u.definitions in
    let behind : List BlockTree = blocks_of_main u u.main in
    each_append (HasItsProcedures u) first behind (definitions_before u (home_of u) 1 u.source.definitions u.definitions refl (omega arith))
    (each_then (HasInner behind) (HasItsProcedures u) behind (λ b k high h s i. there_right first behind b h s (k h s i)) f)

-- the scope of a definition text isn't 0
own_positive : (order : List ℕ) (own : Option ℕ) → WhereKept (scope_in order own) (λ s. 0 < s)
own_positive order None = tt
own_positive order (Some k) = by (position (λ x. x == k) order)
  where
    by : (o : Option ℕ) → WhereKept (option_map (λ n. n + 1) o) (λ s. 0 < s)
    by None = tt
    by (Some n) = omega arith

pub blocks_read : (texts : UnitTexts) (u : UnitTrees) → AreRead texts u → HasItsBlocks u
blocks_read texts u read =
    let count : length u.definitions ≡ length texts.order = AllZip-long (λ k tree. SpellsDefinition (tree ∷ []) (tokens_of texts k)) texts.order u.definitions read.definitions in
    let home : home_of u ≡ main_number texts = omega (arith, count) in
    let inner = main_have (main_number texts) u home read.main.sentence.derives in
    record {
      own = subst (λ o. WhereKept o (λ s. 0 < s)) (sym read.own) (own_positive texts.order texts.own);
      forms = each_then (IsChained (home_of u)) (HasItsForm (home_of u)) (blocks_of u) (λ b k. form_of (home_of u) b k.tree) (blocks_chained u (trees_read texts u read));
      procedures = blocks_have u (subst (λ trees. Each (HasInner (blocks_of_main u trees)) (blocks_of_main u trees)) read.main.gives inner);
    }
