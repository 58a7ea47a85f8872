-- The grammar of main texts can be cut.
use Rattle.std.proofs.Common.{◌≡◌, ℕ, zero, suc, true, false, refl, ◌==◌, map}
use Rattle.m2_base.specs.declared.kind.TokenKind.TheVariants.{Implementation, Module, Semicolon, Period}
use Rattle.m2_base.specs.Grammar.{grammar, rule, follows, parameters, declaration, body as body_rule, imported, block as block_rule, a, ident, number_of_token}
use Rattle.m2_base.specs.KindNumbers.{kind_number, all_kinds, sample}
use Rattle.ll_grammar.specs.Grammar.{Rule, many, sub, then, ◌⨾◌, optional}
use Rattle.ll_grammar.specs.LookAhead.{passes, firsts, member}
use Rattle.stream_split.proofs.Numbers.{sort_of_number}
use Rattle.stream_split.proofs.Flow.{flow, head_flow, plain, Cuttable, whole, grammar_of}
use Rattle.stream_split.proofs.First.{MainText}

pub levels_of : (n : ℕ) → flow false (rule (suc n)) 0 false (λ d s. d == 0) ≡ true
unfolding sort_of_number
levels_of zero = refl
levels_of (suc zero) = refl
levels_of (suc (suc zero)) = refl
levels_of (suc (suc (suc zero))) = refl
levels_of (suc (suc (suc (suc n)))) = refl

pub plains_of : (n : ℕ) → plain (rule (suc n)) ≡ true
plains_of zero = refl
plains_of (suc zero) = refl
plains_of (suc (suc zero)) = refl
plains_of (suc (suc (suc zero))) = refl
plains_of (suc (suc (suc (suc n)))) = refl

pub heads_of : head_flow parameters 0 (λ p. p == 0) ≡ true
unfolding sort_of_number
heads_of = refl

pub insides_of : flow false (then (many (declaration sub)) body_rule) 0 false (λ d s. d == 0) ≡ true
unfolding sort_of_number
insides_of = refl

abbrev pub cuttable : Cuttable
cuttable = record {
  more_head = parameters;
  decls = many (declaration sub);
  body = body_rule;
  below = λ n. rule (suc n);
  follows = λ n. map kind_number (follows n);
  levels = levels_of;
  plains = plains_of;
  heads = heads_of;
  insides = insides_of;
}

-- the parts of a main text before its end
abbrev pub front : Rule
front = optional (a Implementation) ⨾ a Module ⨾ ident ⨾ a Semicolon ⨾ many imported ⨾ block_rule sub ⨾ a Period

pub mains_of : flow true front 0 false (λ d s. true) ≡ true
unfolding sort_of_number
mains_of = refl

pub rules_of : (n : ℕ) → passes (grammar_of cuttable) n ≡ true
rules_of zero = refl
rules_of (suc zero) = refl
rules_of (suc (suc zero)) = refl
rules_of (suc (suc (suc zero))) = refl
rules_of (suc (suc (suc (suc zero)))) = refl
rules_of (suc (suc (suc (suc (suc n))))) = refl

pub no_end_of : (n : ℕ) → member 0 (firsts (grammar_of cuttable) n) ≡ false
no_end_of zero = refl
no_end_of (suc zero) = refl
no_end_of (suc (suc zero)) = refl
no_end_of (suc (suc (suc zero))) = refl
no_end_of (suc (suc (suc (suc zero)))) = refl
no_end_of (suc (suc (suc (suc (suc n))))) = refl

abbrev pub main_text : MainText cuttable
main_text = record {
  main_text = front;
  mains = mains_of;
  ok = record { rules = rules_of; ends = refl };
  main_root = refl;
  stream_root = refl;
  procedure_root = refl;
  more_complete = refl;
  rest_complete = refl;
  no_end = no_end_of;
}

-- it is the grammar
same_rule : (n : ℕ) → rule n ≡ whole cuttable n
same_rule zero = refl
same_rule (suc n) = refl

pub same_grammar : grammar ≡ grammar_of cuttable
same_grammar = λ k. record { kind = number_of_token; samples = map sample all_kinds; rule = λ n. same_rule n k; follows = λ n. map kind_number (follows n); rounds = 2 }
