-- The readers of names read what the grammar says.
use Rattle.std.proofs.Common.{ℕ, List, Some, refl, ap}
use Rattle.ll_grammar.specs.Readers.{itself}
use Rattle.ll_grammar.proofs.Link.{Reads, Is, seq, final, either, no_part, a_kind, next_starts}
use Rattle.ll_grammar.proofs.Repetitions.{list_read}
use Rattle.m2_base.specs.declared.kind.TokenKind.TheVariants.{Period}
use Rattle.m2_base.specs.declared.token.Token.{Token}
use Rattle.m2_base.specs.Grammar.{grammar, ident, idents, second_name, qual}
use Rattle.m2_base.specs.ExpressionsOf.{ident_of_token, ident_of, idents_of, more_idents_of, second_of, qual_of}
use Rattle.m2_base.proofs.GrammarChecks.{is_ll1}
use Rattle.m2_parse.specs.Reading.{tell, next_is}
use Rattle.m2_parse.specs.ReadNames.{ident_at, idents_at, second_at, qual_at}

module _ (n : ℕ) where
  pub ident_read : (ts : List Token) → Reads grammar tell ident (Is ident_of) n ts (ident_at ts)
  unfolding ident_at
  ident_read ts = final (λ t. ident_of_token t.0) (a_kind 1 ts) (λ t d e. ap ident_of e)

  pub idents_read : (ts : List Token) → Reads grammar tell idents (Is idents_of) n ts (idents_at ts)
  idents_read ts =
      list_read is_ll1 56 (λ d w. idents_of d) (λ d w. more_idents_of d) itself (λ w. refl) (λ s d ds w. refl) (λ d ds w. refl) ident_read ts

  pub second_read : (ts : List Token) → Reads grammar tell second_name (Is second_of) n ts (second_at ts)
  unfolding second_at
  second_read ts =
      either (next_is Period ts) (next_starts grammar 55 ts)
      (seq (a_kind 55 ts) (λ p dp ep.
      final (λ i. Some i.0) (ident_read p.1) (λ i di h. ap (λ x. Some x) h)))
      (no_part refl)

  pub qual_read : (ts : List Token) → Reads grammar tell qual (Is qual_of) n ts (qual_at ts)
  unfolding qual_at
  qual_read ts =
      seq (ident_read ts) (λ i di h.
      final (λ s. record { first = i.0; second = s.0 }) (second_read i.1) (λ s ds k. (λ j. record { first = h j; second = k j })))
