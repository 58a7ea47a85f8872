-- The readers of declarations and of streams read what the grammar says.
use Rattle.std.proofs.Common.{ℕ, true, List, [], ◌∷◌, Some, refl, sym, ap, ◌∙◌}
use Rattle.ll_grammar.specs.Grammar.{many, ◌⨾◌, optional}
use Rattle.ll_grammar.specs.Derivations.{both}
use Rattle.ll_grammar.specs.Readers.{itself, all}
use Rattle.ll_grammar.proofs.Link.{Reads, Is, IsAt, weaker, seq, seq_at, final, either, no_part, a_kind, next_starts, next_in_starts}
use Rattle.ll_grammar.proofs.Repetitions.{loop, list_read}
use Rattle.m2_base.specs.declared.kind.TokenKind.TheVariants.{Const, «Type», Var, Begin, Implementation, From, Export, Equal, Semicolon, LeftParenthesis}
use Rattle.m2_base.specs.declared.token.Token.{Token}
use Rattle.m2_base.specs.declared.trees.declarations.StreamKind.{StreamKind}
use Rattle.m2_base.specs.declared.trees.declarations.StreamKind.TheVariants as streams
use Rattle.m2_base.specs.Grammar as rules
use Rattle.m2_base.specs.Grammar.{grammar, a, list, stream, procedure_cut}
use Rattle.m2_base.specs.Trees as trees
use Rattle.m2_base.specs.StreamsOf as of
use Rattle.m2_base.specs.TypesOf.{is_there}
use Rattle.m2_base.proofs.GrammarChecks.{is_ll1}
use Rattle.m2_parse.specs.Reading.{tell, next_is}
use Rattle.m2_parse.specs.ReadExpressions.{factor_at}
use Rattle.m2_parse.specs.ReadStatements.{statement_at}
use Rattle.m2_parse.specs.ReadStreams as at
use Rattle.m2_parse.specs.ReadStreams.{begins_section, begins_declaration, begins_import}
use Rattle.m2_parse.proofs.NameLinks.{ident_read, idents_read, qual_read}
use Rattle.m2_parse.proofs.ExpressionLinks.{expr_read, factor_read}
use Rattle.m2_parse.proofs.TypeLinks.{by_reference_read, open_array_read, result_read, type_read}
use Rattle.m2_parse.proofs.StatementLinks.{statements_read, statement_read}

module _ (n : ℕ) where
  section_read : (ts : List Token) → Reads grammar tell rules.section (Is of.section_of) n ts (at.section_at ts)
  unfolding at.section_at
  section_read ts =
      seq (by_reference_read n ts) (λ v dv hv.
      seq (idents_read n v.1) (λ is dis hi.
      seq (a_kind 69 is.1) (λ c dc ec.
      seq (open_array_read n c.1) (λ o d_open ho.
      final (λ q. record { by_ref = v.0; names = is.0; is_open = o.0; of = q.0 }) (qual_read n o.1) (λ q dq hq.
      (λ j. record { by_ref = hv j; names = hi j; is_open = ho j; of = hq j }))))))

  some_sections_read : (ts : List Token) → Reads grammar tell (list rules.section Semicolon) (Is of.some_sections_of) n ts (at.some_sections_at ts)
  some_sections_read ts =
      list_read is_ll1 57 (λ d w. of.some_sections_of d) (λ d w. of.more_sections_of d) itself (λ w. refl) (λ s d ds w. refl) (λ d ds w. refl) section_read ts

  sections_read : (ts : List Token) → Reads grammar tell (optional (list rules.section Semicolon)) (Is of.sections_of) n ts (at.sections_at ts)
  unfolding at.sections_at
  sections_read ts =
      either (begins_section ts) (next_in_starts grammar (47 ∷ 1 ∷ []) ts) (weaker (λ x d w h. h) (some_sections_read ts)) (no_part refl)

  parameters_read : (ts : List Token) → Reads grammar tell rules.parameters (Is of.parameters_of) n ts (at.parameters_at ts)
  unfolding at.parameters_at
  parameters_read ts =
      either (next_is LeftParenthesis ts) (next_starts grammar 58 ts)
      (seq (a_kind 58 ts) (λ p dp ep.
      seq (sections_read p.1) (λ ss dss h.
      seq (a_kind 70 ss.1) (λ q dq eq.
      final (λ r. (ss.0, r.0)) (result_read n q.1) (λ r dr k. (λ j. (h j, k j)))))))
      (no_part refl)

  heading_read : (ts : List Token) → Reads grammar tell rules.heading (Is of.heading_of) n ts (at.heading_at ts)
  unfolding at.heading_at
  heading_read ts =
      seq (a_kind 37 ts) (λ p dp ep.
      seq (ident_read n p.1) (λ i di h.
      final (λ ps. of.heading_with i.0 ps.0) (parameters_read i.1) (λ ps dps k. (λ j. of.heading_with (h j) (k j)))))

  constant_read : (ts : List Token) → Reads grammar tell rules.constant (Is of.constant_of) n ts (at.constant_at n ts)
  unfolding at.constant_at
  constant_read ts =
      seq (ident_read n ts) (λ i di h.
      seq (a_kind 62 i.1) (λ e de ee.
      seq (expr_read n (factor_at n) (factor_read n) e.1) (λ x dx k.
      final (λ s. trees.const_decl i.0 x.0) (a_kind 57 x.1) (λ s ds es. (λ j. trees.const_decl (h j) (k j))))))

  constants_read : (ts : List Token) → Reads grammar tell (many rules.constant) (Is of.constants_of) n ts (at.constants_at n ts)
  constants_read ts = loop is_ll1 (λ d w. of.constants_of d) itself refl (next_starts grammar 1) (λ w. refl) (λ d ds w h. refl) constant_read ts

  type_declaration_read : (ts : List Token) → Reads grammar tell rules.type_declaration (Is of.type_declaration_of) n ts (at.type_declaration_at n ts)
  unfolding at.type_declaration_at
  type_declaration_read ts =
      seq (ident_read n ts) (λ i di h.
      seq (a_kind 62 i.1) (λ e de ee.
      seq (type_read n e.1) (λ x dx k.
      final (λ s. trees.type_decl i.0 (Some x.0)) (a_kind 57 x.1) (λ s ds es. (λ j. trees.type_decl (h j) (Some (k j)))))))

  type_declarations_read : (ts : List Token) → Reads grammar tell (many rules.type_declaration) (Is of.type_declarations_of) n ts (at.type_declarations_at n ts)
  type_declarations_read ts = loop is_ll1 (λ d w. of.type_declarations_of d) itself refl (next_starts grammar 1) (λ w. refl) (λ d ds w h. refl) type_declaration_read ts

  defined_read : (ts : List Token) → Reads grammar tell (optional (a Equal ⨾ rules.type_expr)) (Is of.defined_of) n ts (at.defined_at n ts)
  unfolding at.defined_at
  defined_read ts =
      either (next_is Equal ts) (next_starts grammar 62 ts)
      (seq (a_kind 62 ts) (λ e de ee. final (λ d. Some d.0) (type_read n e.1) (λ d dd h. ap (λ x. Some x) h)))
      (no_part refl)

  defined_type_read : (ts : List Token) → Reads grammar tell rules.defined_type (Is of.defined_type_of) n ts (at.defined_type_at n ts)
  unfolding at.defined_type_at
  defined_type_read ts =
      seq (ident_read n ts) (λ i di h.
      seq (defined_read i.1) (λ d dd k.
      final (λ s. trees.type_decl i.0 d.0) (a_kind 57 d.1) (λ s ds es. (λ j. trees.type_decl (h j) (k j)))))

  defined_types_read : (ts : List Token) → Reads grammar tell (many rules.defined_type) (Is of.defined_types_of) n ts (at.defined_types_at n ts)
  defined_types_read ts = loop is_ll1 (λ d w. of.defined_types_of d) itself refl (next_starts grammar 1) (λ w. refl) (λ d ds w h. refl) defined_type_read ts

  variables_read : (ts : List Token) → Reads grammar tell rules.variables (Is of.variables_of) n ts (at.variables_at n ts)
  unfolding at.variables_at
  variables_read ts =
      seq (idents_read n ts) (λ is dis h.
      seq (a_kind 69 is.1) (λ c dc ec.
      seq (type_read n c.1) (λ d dd k.
      final (λ s. trees.vars_decl is.0 d.0) (a_kind 57 d.1) (λ s ds es. (λ j. trees.vars_decl (h j) (k j))))))

  all_variables_read : (ts : List Token) → Reads grammar tell (many rules.variables) (Is of.all_variables_of) n ts (at.all_variables_at n ts)
  all_variables_read ts = loop is_ll1 (λ d w. of.all_variables_of d) itself refl (next_starts grammar 1) (λ w. refl) (λ d ds w h. refl) variables_read ts

  procedure_read : (ts : List Token) → Reads grammar tell procedure_cut (Is of.procedure_of) n ts (at.procedure_at ts)
  unfolding at.procedure_at
  procedure_read ts =
      seq (heading_read ts) (λ h dh k.
      seq (a_kind 57 h.1) (λ s ds es.
      final (λ c. trees.proc_decl h.0 c.0.value) (a_kind 6 s.1) (λ c dc ec.
      ap (λ z. of.procedure_of (both dh (both ds z))) ec ∙ ap (λ x. trees.proc_decl x c.0.value) k)))

  declaration_read : (ts : List Token) → Reads grammar tell (rules.declaration procedure_cut) (Is of.declaration_of) n ts (at.declaration_at n ts)
  unfolding at.declaration_at
  declaration_read ts =
      either (next_is Const ts) (next_starts grammar 15 ts) (seq (a_kind 15 ts) (λ p dp ep. final (λ ds. ds.0) (constants_read p.1) (λ ds dds h. h)))
      (either (next_is «Type» ts) (next_starts grammar 45 ts) (seq (a_kind 45 ts) (λ p dp ep. final (λ ds. ds.0) (type_declarations_read p.1) (λ ds dds h. h)))
      (either (next_is Var ts) (next_starts grammar 47 ts) (seq (a_kind 47 ts) (λ p dp ep. final (λ ds. ds.0) (all_variables_read p.1) (λ ds dds h. h)))
      (final (λ d. d.0 ∷ []) (procedure_read ts) (λ d dd h. ap (λ x. x ∷ []) h))))

  declarations_read : (ts : List Token) → Reads grammar tell (many (rules.declaration procedure_cut)) (Is of.declarations_of) n ts (at.declarations_at n ts)
  declarations_read ts =
      loop is_ll1 (λ d w. of.declarations_of d) all refl (next_in_starts grammar (15 ∷ 45 ∷ 47 ∷ 37 ∷ [])) (λ w. refl) (λ d ds w h. refl) declaration_read ts

  body_read : (ts : List Token) → Reads grammar tell rules.body (IsAt of.body_of) n ts (at.body_at n ts)
  unfolding at.body_at
  body_read ts =
      either (next_is Begin ts) (next_starts grammar 12 ts)
      (seq (a_kind 12 ts) (λ p dp ep. final (λ ss. ss.0) (statements_read n (statement_at n) (statement_read n) p.1) (λ ss dss h. h)))
      (no_part refl)

  block_read : (ts : List Token) → Reads grammar tell (rules.block procedure_cut) (IsAt of.block_of) n ts (at.block_at n ts)
  unfolding at.block_at
  block_read ts =
      seq (declarations_read ts) (λ ds dds h.
      seq_at (body_read ds.1) (λ b db k.
      seq (a_kind 21 b.1) (λ e de ee.
      final (λ i. record { decls = ds.0; body = b.0; close = i.0 }) (ident_read n e.1) (λ i di m i1.
      (λ j. record { decls = h j; body = (ap (of.body_of db) (sym i1) ∙ k) j; close = m j })))))

  definition_declaration_read : (ts : List Token) → Reads grammar tell rules.definition_declaration (Is of.definition_declaration_of) n ts (at.definition_declaration_at n ts)
  unfolding at.definition_declaration_at
  definition_declaration_read ts =
      either (next_is Const ts) (next_starts grammar 15 ts) (seq (a_kind 15 ts) (λ p dp ep. final (λ ds. ds.0) (constants_read p.1) (λ ds dds h. h)))
      (either (next_is «Type» ts) (next_starts grammar 45 ts) (seq (a_kind 45 ts) (λ p dp ep. final (λ ds. ds.0) (defined_types_read p.1) (λ ds dds h. h)))
      (either (next_is Var ts) (next_starts grammar 47 ts) (seq (a_kind 47 ts) (λ p dp ep. final (λ ds. ds.0) (all_variables_read p.1) (λ ds dds h. h)))
      (seq (heading_read ts) (λ h dh k. final (λ s. trees.proc_decl h.0 0 ∷ []) (a_kind 57 h.1) (λ s ds es. ap (λ x. trees.proc_decl x 0 ∷ []) k)))))

  definition_declarations_read : (ts : List Token) → Reads grammar tell (many rules.definition_declaration) (Is of.definition_declarations_of) n ts (at.definition_declarations_at n ts)
  definition_declarations_read ts =
      loop is_ll1 (λ d w. of.definition_declarations_of d) all refl (next_in_starts grammar (15 ∷ 45 ∷ 47 ∷ 37 ∷ [])) (λ w. refl) (λ d ds w h. refl) definition_declaration_read ts

  from_read : (ts : List Token) → Reads grammar tell rules.from (Is of.from_of) n ts (at.from_at ts)
  unfolding at.from_at
  from_read ts =
      either (next_is From ts) (next_starts grammar 25 ts)
      (seq (a_kind 25 ts) (λ p dp ep. final (λ i. Some i.0) (ident_read n p.1) (λ i di h. ap (λ x. Some x) h)))
      (no_part refl)

  pub import_read : (ts : List Token) → Reads grammar tell rules.imported (Is of.import_of) n ts (at.import_at ts)
  unfolding at.import_at
  import_read ts =
      seq (from_read ts) (λ f df h.
      seq (a_kind 28 f.1) (λ p dp ep.
      seq (idents_read n p.1) (λ is dis k.
      final (λ s. record { from = f.0; names = is.0 }) (a_kind 57 is.1) (λ s ds es. (λ j. record { from = h j; names = k j })))))

  imports_read : (ts : List Token) → Reads grammar tell (many rules.imported) (Is of.imports_of) n ts (at.imports_at ts)
  imports_read ts =
      loop is_ll1 (λ d w. of.imports_of d) itself refl (next_in_starts grammar (25 ∷ 28 ∷ [])) (λ w. refl) (λ d ds w h. refl) import_read ts

  pub implementation_read : (ts : List Token) → Reads grammar tell (optional (a Implementation)) (Is is_there) n ts (at.implementation_at ts)
  unfolding at.implementation_at
  implementation_read ts =
      either (next_is Implementation ts) (next_starts grammar 27 ts) (final (λ p. true) (a_kind 27 ts) (λ p dp ep. refl)) (no_part refl)

  -- EXPORT leaves no entry
  export_read : (ts : List Token) → Reads grammar tell rules.export (λ d x w. Unit {0}) n ts (at.export_at ts)
  unfolding at.export_at
  export_read ts =
      either (next_is Export ts) (next_starts grammar 23 ts)
      (seq (a_kind 23 ts) (λ p dp ep.
      seq (a_kind 38 p.1) (λ q dq eq.
      seq (idents_read n q.1) (λ is dis h.
      final (λ s. []) (a_kind 57 is.1) (λ s ds es. tt)))))
      (no_part tt)

  main_read : (ts : List Token) → Reads grammar tell (rules.main procedure_cut) (IsAt of.main_of) n ts (at.main_at n ts)
  unfolding at.main_at
  main_read ts =
      seq (implementation_read ts) (λ k dk hk.
      seq (a_kind 32 k.1) (λ m dm em.
      seq (ident_read n m.1) (λ i di hi.
      seq (a_kind 57 i.1) (λ s ds es.
      seq (imports_read s.1) (λ is dis his.
      seq_at (block_read is.1) (λ b db hb.
      seq (a_kind 55 b.1) (λ p dp ep.
      final (λ e. of.main_tree k.0 i.0 is.0 b.0) (a_kind 0 p.1) (λ e de ee i1.
      (λ j. of.main_tree (hk j) (hi j) (his j) ((ap (of.block_of db) (sym i1) ∙ hb) j))))))))))

  definition_read : (ts : List Token) → Reads grammar tell rules.definition (IsAt of.definition_of) n ts (at.definition_at n ts)
  unfolding at.definition_at
  definition_read ts =
      seq (a_kind 16 ts) (λ k dk ek.
      seq (a_kind 32 k.1) (λ m dm em.
      seq (ident_read n m.1) (λ i di hi.
      seq (a_kind 57 i.1) (λ s ds es.
      seq (imports_read s.1) (λ is dis his.
      seq (export_read is.1) (λ x dx hx.
      seq (definition_declarations_read x.1) (λ ds dds hds.
      seq (a_kind 21 ds.1) (λ f df ef.
      seq (ident_read n f.1) (λ c dc hc.
      seq (a_kind 55 c.1) (λ p dp ep.
      final (λ e. of.definition_tree i.0 is.0 ds.0 c.0) (a_kind 0 p.1) (λ e de ee.
      (λ j. of.definition_tree (hi j) (his j) (hds j) (hc j)))))))))))))

  procedure_stream_read : (ts : List Token) → Reads grammar tell rules.procedure_stream (IsAt of.procedure_stream_of) n ts (at.procedure_stream_at n ts)
  unfolding at.procedure_stream_at
  procedure_stream_read ts =
      seq (heading_read ts) (λ h dh hh.
      seq (a_kind 57 h.1) (λ s ds es.
      seq_at (block_read s.1) (λ b db hb.
      seq (a_kind 57 b.1) (λ t dt et.
      final (λ e. of.procedure_tree h.0 b.0) (a_kind 7 t.1) (λ e de ee i1.
      (λ j. of.procedure_tree (hh j) ((ap (of.block_of db) (sym i1) ∙ hb) j)))))))

  pub stream_read : (kind : StreamKind) (ts : List Token) → Reads grammar tell (stream kind) (IsAt (of.stream_of kind)) n ts (at.stream_at n kind ts)
  unfolding at.stream_at
  stream_read streams.Main ts = main_read ts
  stream_read streams.Definition ts = definition_read ts
  stream_read streams.Procedure ts = procedure_stream_read ts
