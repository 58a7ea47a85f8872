-- The streams of derivations over tokens of which each has a property, as a leaf: each of their leaves has it. A heading in a
-- definition has no stream: its number is 0.
use Rattle.std.specs.Prelude.{List, [], ◌∷◌, ◌++◌, flat_map, map, Option, Some, None}
use Rattle.std.proofs.Common.{subst, sym}
use Rattle.ll_grammar.specs.Derivations.{Tree, both, tokens, Derives, of_empty, of_token, of_then, of_left, of_right, of_last, of_more}
use Rattle.ll_grammar.specs.Grammar.{many, optional, ◌⨾◌}
use Rattle.ll_grammar.specs.Texts as texts
use Rattle.m2_base.specs.Grammar as rules
use Rattle.m2_base.specs.Grammar.{grammar, levels, number_of_token}
use Rattle.m2_base.specs.Lists.{Each}
use Rattle.m2_base.specs.StatementsOf.{place}
use Rattle.m2_base.specs.Statics.Items.{decl_item, heading_items, import_item, import_items, items_of}
use Rattle.m2_base.specs.Statics.Leaves.{Leaf, token_leaf, stream_leaf, NamesHave, StatementsHave, HeadingHas, NameHas, NameOptionHas, StreamHas, ItemHas, QualOptionHas, TypeOptionHas, SectionHas}
use Rattle.m2_base.specs.StreamsOf as streams
use Rattle.m2_base.specs.Trees.{Decl, Heading, Ident, Import, Qual, Section, Stream, StreamKind, statements}
use Rattle.m2_base.specs.declared.kind.TokenKind.TheVariants.{Equal, Semicolon}
use Rattle.m2_base.specs.declared.token.Token.{Token}
use Rattle.m2_base.specs.declared.trees.declarations.StreamKind.TheVariants.{Definition, Main, Procedure}
use Rattle.m2_base.proofs.EachLaws.{each_append}
use Rattle.m2_base.proofs.LeafExpressions.{LeavesHave, TokenHas, expr_leaves, kind_is, leaves_have, name_leaves, names_leaves, qual_leaves}
use Rattle.m2_base.proofs.LeafFronts.{ImportHas, imports_leaves}
use Rattle.m2_base.proofs.LeafStatements.{statements_leaves}
use Rattle.m2_base.proofs.LeafTypes.{result_leaves, type_leaves}

module _ (P : Leaf → Type 0) (none : P (stream_leaf 0)) where
  section_leaves : {d : Tree Token} → Derives grammar rules.section d → LeavesHave P d → SectionHas P (streams.section_of d)
  section_leaves (of_then by_ref (of_then p (of_then colon (of_then is_open q)))) r = record { idents = names_leaves P p r.1.0; of = qual_leaves P q r.1.1.1.1 }

  more_sections_leaves : {d : Tree Token} → Derives grammar (many (rules.a Semicolon ⨾ rules.section)) d → LeavesHave P d → Each (SectionHas P) (streams.more_sections_of d)
  more_sections_leaves of_last r = tt
  more_sections_leaves (of_more (of_then semicolon p) q) r = (section_leaves p r.0.1, more_sections_leaves q r.1)

  sections_leaves : {d : Tree Token} → Derives grammar (optional (rules.list rules.section Semicolon)) d → LeavesHave P d → Each (SectionHas P) (streams.sections_of d)
  sections_leaves (of_left (of_then p q)) r = (section_leaves p r.0, more_sections_leaves q r.1)
  sections_leaves (of_right of_empty) r = tt

  -- what stands behind the name of a heading
  abbrev ParametersHave : List Section × Option Qual → Type 0
  ParametersHave parameters = Each (SectionHas P) parameters.0 × QualOptionHas P parameters.1

  parameters_leaves : {d : Tree Token} → Derives grammar rules.parameters d → LeavesHave P d → ParametersHave (streams.parameters_of d)
  parameters_leaves (of_left (of_then opening (of_then p (of_then close q)))) r = (sections_leaves p r.1.0, result_leaves P q r.1.1.1)
  parameters_leaves (of_right of_empty) r = (tt, tt)

  heading_leaves : {d : Tree Token} → Derives grammar rules.heading d → LeavesHave P d → HeadingHas P (streams.heading_of d)
  heading_leaves (of_then procedure (of_then i p)) r =
      let behind = parameters_leaves p r.1.1 in
      record { name = name_leaves P i r.1.0; sections = behind.0; result = behind.1 }

  -- a declaration as an item
  abbrev DeclHas : Decl → Type 0
  DeclHas d = ItemHas P (decl_item d)

  constants_leaves : {d : Tree Token} → Derives grammar (many rules.constant) d → LeavesHave P d → Each DeclHas (streams.constants_of d)
  constants_leaves of_last r = tt
  constants_leaves (of_more (of_then i (of_then equal (of_then p semicolon))) q) r = ((name_leaves P i r.0.0, expr_leaves P p r.0.1.1.0), constants_leaves q r.1)

  types_leaves : {d : Tree Token} → Derives grammar (many rules.type_declaration) d → LeavesHave P d → Each DeclHas (streams.type_declarations_of d)
  types_leaves of_last r = tt
  types_leaves (of_more (of_then i (of_then equal (of_then p semicolon))) q) r = ((name_leaves P i r.0.0, type_leaves P p r.0.1.1.0), types_leaves q r.1)

  variables_leaves : {d : Tree Token} → Derives grammar (many rules.variables) d → LeavesHave P d → Each DeclHas (streams.all_variables_of d)
  variables_leaves of_last r = tt
  variables_leaves (of_more (of_then p (of_then colon (of_then q semicolon))) s) r = ((names_leaves P p r.0.0, type_leaves P q r.0.1.1.0), variables_leaves s r.1)

  procedure_leaves : {d : Tree Token} → Derives grammar rules.procedure_cut d → LeavesHave P d → DeclHas (streams.procedure_of d)
  procedure_leaves (of_then p (of_then semicolon (of_token {t = t} m))) r = (heading_leaves p r.0, r.1.1.cut (kind_is (number_of_token t) 6 m))

  declaration_leaves : {d : Tree Token} → Derives grammar (rules.declaration rules.procedure_cut) d → LeavesHave P d → Each DeclHas (streams.declaration_of d)
  declaration_leaves (of_left (of_then const p)) r = constants_leaves p r.1
  declaration_leaves (of_right (of_left (of_then type p))) r = types_leaves p r.1
  declaration_leaves (of_right (of_right (of_left (of_then var p)))) r = variables_leaves p r.1
  declaration_leaves (of_right (of_right (of_right p))) r = (procedure_leaves p r, tt)

  declarations_leaves : {d : Tree Token} → Derives grammar (many (rules.declaration rules.procedure_cut)) d → LeavesHave P d → Each DeclHas (streams.declarations_of d)
  declarations_leaves of_last r = tt
  declarations_leaves (of_more {d = d} {ds = ds} p q) r = each_append DeclHas (streams.declaration_of d) (streams.declarations_of ds) (declaration_leaves p r.0) (declarations_leaves q r.1)

  block_leaves : {d : Tree Token} (w : List Token) → Derives grammar (rules.block rules.procedure_cut) d → LeavesHave P d → Each DeclHas (streams.block_of d w).decls
  block_leaves w (of_then p (of_then b (of_then end i))) r = declarations_leaves p r.0

  defined_leaves : {d : Tree Token} → Derives grammar (optional (rules.a Equal ⨾ rules.type_expr)) d → LeavesHave P d → TypeOptionHas P (streams.defined_of d)
  defined_leaves (of_left (of_then equal p)) r = type_leaves P p r.1
  defined_leaves (of_right of_empty) r = tt

  defined_types_leaves : {d : Tree Token} → Derives grammar (many rules.defined_type) d → LeavesHave P d → Each DeclHas (streams.defined_types_of d)
  defined_types_leaves of_last r = tt
  defined_types_leaves (of_more (of_then i (of_then p semicolon)) q) r = ((name_leaves P i r.0.0, defined_leaves p r.0.1.0), defined_types_leaves q r.1)

  definition_declaration_leaves : {d : Tree Token} → Derives grammar rules.definition_declaration d → LeavesHave P d → Each DeclHas (streams.definition_declaration_of d)
  definition_declaration_leaves (of_left (of_then const p)) r = constants_leaves p r.1
  definition_declaration_leaves (of_right (of_left (of_then type p))) r = defined_types_leaves p r.1
  definition_declaration_leaves (of_right (of_right (of_left (of_then var p)))) r = variables_leaves p r.1
  definition_declaration_leaves (of_right (of_right (of_right (of_then p semicolon)))) r = ((heading_leaves p r.0, none), tt)

  definition_declarations_leaves : {d : Tree Token} → Derives grammar (many rules.definition_declaration) d → LeavesHave P d → Each DeclHas (streams.definition_declarations_of d)
  definition_declarations_leaves of_last r = tt
  definition_declarations_leaves (of_more {d = d} {ds = ds} p q) r =
      each_append DeclHas (streams.definition_declaration_of d) (streams.definition_declarations_of ds) (definition_declaration_leaves p r.0) (definition_declarations_leaves q r.1)

  -- ** Items

  import_items_leaves : (from : Option Ident) (idents : List Ident) → NameOptionHas P from → NamesHave P idents → Each (ItemHas P) (map (λ i. import_item from i) idents)
  import_items_leaves from [] p q = tt
  import_items_leaves from (i ∷ idents) p q = ((p, q.0), import_items_leaves from idents p q.1)

  all_imports_leaves : (is : List Import) → Each (ImportHas P) is → Each (ItemHas P) (flat_map import_items is)
  all_imports_leaves [] h = tt
  all_imports_leaves (i ∷ is) h = each_append (ItemHas P) (import_items i) (flat_map import_items is) (import_items_leaves i.from i.names h.0.0 h.0.1) (all_imports_leaves is h.1)

  decls_leaves : (ds : List Decl) → Each DeclHas ds → Each (ItemHas P) (map decl_item ds)
  decls_leaves [] h = tt
  decls_leaves (d ∷ ds) h = (h.0, decls_leaves ds h.1)

  -- the heading of a block, if it has one
  abbrev OwnHas : Option Heading → Type 0
  OwnHas None = Unit {0}
  OwnHas (Some h) = HeadingHas P h

  own_leaves : (h : Option Heading) → OwnHas h → Each (ItemHas P) (heading_items h)
  own_leaves None p = tt
  own_leaves (Some h) p = (p, tt)

  items_leaves : (s : Stream) → OwnHas s.heading → Each (ImportHas P) s.imports → Each DeclHas s.decls → Each (ItemHas P) (items_of s)
  items_leaves s p q r =
      each_append (ItemHas P) (heading_items s.heading ++ flat_map import_items s.imports) (map decl_item s.decls)
      (each_append (ItemHas P) (heading_items s.heading) (flat_map import_items s.imports) (own_leaves s.heading p) (all_imports_leaves s.imports q))
      (decls_leaves s.decls r)

  close_leaves : {d : Tree Token} (w : List Token) → Derives grammar (rules.block rules.procedure_cut) d → LeavesHave P d → NameHas P (streams.block_of d w).close
  close_leaves w (of_then p (of_then b (of_then end i))) r = name_leaves P i r.1.1.1

  -- the statements of a block, which END follows
  begun_leaves : {d : Tree Token} (w : List Token) → Derives grammar rules.body d → LeavesHave P d → P (token_leaf (place w)) → StatementsHave P (statements (streams.body_of d w))
  begun_leaves w (of_left (of_then begin p)) r h = statements_leaves P w p r.1 h
  begun_leaves w (of_right of_empty) r h = tt

  body_leaves : {d : Tree Token} (w : List Token) → Derives grammar (rules.block rules.procedure_cut) d → LeavesHave P d → StatementsHave P (statements (streams.block_of d w).body)
  body_leaves w (of_then p (of_then b (of_then {d = d} {e = e} (of_token m) i))) r = begun_leaves (tokens (both d e) ++ w) b r.1.0 r.1.1.0.place

  stream_leaves : (kind : StreamKind) {d : Tree Token} (w : List Token) → Derives grammar (rules.stream kind) d → LeavesHave P d → StreamHas P (streams.stream_of kind d w)
  stream_leaves Main w (of_then {d = d0} implementation (of_then {d = d1} module_word (of_then {d = d2} i (of_then {d = d3} semicolon (of_then {d = d4} is (of_then {d = d5} b (of_then {d = d6} {e = d7} p q))))))) r =
      record {
        items = items_leaves (streams.main_of (both d0 (both d1 (both d2 (both d3 (both d4 (both d5 (both d6 d7))))))) w) tt (imports_leaves P is r.1.1.1.1.0) (block_leaves (tokens (both d6 d7) ++ w) b r.1.1.1.1.1.0);
        name = name_leaves P i r.1.1.0;
        body = body_leaves (tokens (both d6 d7) ++ w) b r.1.1.1.1.1.0;
        close = close_leaves (tokens (both d6 d7) ++ w) b r.1.1.1.1.1.0;
      }
  stream_leaves Definition w (of_then {d = d0} word (of_then {d = d1} module_word (of_then {d = d2} i (of_then {d = d3} semicolon (of_then {d = d4} is (of_then {d = d5} export (of_then {d = d6} ds (of_then {d = d7} end (of_then {d = d8} close (of_then {d = d9} {e = d10} period stop)))))))))) r =
      record {
        items = items_leaves (streams.definition_of (both d0 (both d1 (both d2 (both d3 (both d4 (both d5 (both d6 (both d7 (both d8 (both d9 d10)))))))))) w) tt (imports_leaves P is r.1.1.1.1.0) (definition_declarations_leaves ds r.1.1.1.1.1.1.0);
        name = name_leaves P i r.1.1.0;
        body = tt;
        close = name_leaves P close r.1.1.1.1.1.1.1.1.0;
      }
  stream_leaves Procedure w (of_then {d = d0} h (of_then {d = d1} semicolon (of_then {d = d2} b (of_then {d = d3} {e = d4} p q)))) r =
      record {
        items = items_leaves (streams.procedure_stream_of (both d0 (both d1 (both d2 (both d3 d4)))) w) (heading_leaves h r.0) tt (block_leaves (tokens (both d3 d4) ++ w) b r.1.1.0);
        name = tt;
        body = body_leaves (tokens (both d3 d4) ++ w) b r.1.1.0;
        close = close_leaves (tokens (both d3 d4) ++ w) b r.1.1.0;
      }

  pub streams_leaves : (kind : StreamKind) (tree : Stream) (ts : List Token) → texts.Spells grammar levels (rules.stream kind) (streams.stream_of kind) tree ts → Each (TokenHas P) ts → StreamHas P tree
  streams_leaves kind tree ts spelled h =
      let s = spelled.sentence in
      subst (StreamHas P) spelled.gives
      (stream_leaves kind [] s.derives (leaves_have P s.tree (subst (Each (TokenHas P)) (sym s.spells) h)))
