use Rattle.std.proofs.Common.{[], ◌≡◌, ◌≤◌, ◌<◌, ◌++◌, List, ℕ, sym, ◌∙◌, ap, subst, arith, rules, length, drop, take, refl}
use Rattle.std.proofs.lemmas.List.{take-append-drop}
use Rattle.std.specs.Result.{IsErrAnd}
use Rattle.std.proofs.lemmas.Result.{IfOk-from_err}
use Rattle.m2_base.specs.Lexemes.{IsLongest}
use Rattle.m2_base.specs.Positions.{Position}
use Rattle.m2_lex.specs.Ahead.{IsPlain}
use Rattle.m2_lex.specs.Places.{place_of}
use Rattle.m2_lex.proofs.FaultLaws.{of_memory}
use Rattle.m2_lex.proofs.Lexing.{IsLexing, adds_one, extends_more, lexing_begins, lexing_goes_on, lexing_ends, too_many, not_too_many}
use Rattle.m2_lex.proofs.LongestNumerals.{nothing_ahead}
use Rattle.m2_lex.proofs.lexer.lex.Goals as goal

pub loop-rest-init : goal.loop-rest-init
loop-rest-init c =
    (lexing_begins c.args.names.now c.args.text.now c.prepare.new.self c.new-tokens.result.items (place_of c.first-position.result) c.prepare.ensures c.new-tokens.ensures.items c.first-position.ensures, nothing_ahead 0 c.args.text.now refl)

pub loop-rest-preserved : goal.loop-rest-preserved
loop-rest-preserved c =
    let rest = c.loop-rest.rest.now in
    let n = c.lexeme_len.result in
    let lexeme = c.split_at.result.0.now in
    let after = c.split_at.result.1.now in
    let front : lexeme ≡ take n rest = c.split_at.ensures.front in
    let back : after ≡ drop n rest = c.split_at.ensures.back in
    let parts : rest ≡ lexeme ++ after = sym (ap (λ (s : List ℕ). s ++ after) front ∙ ap (λ (a : List ℕ). take n rest ++ a) back ∙ take-append-drop n rest) in
    let longest : IsLongest lexeme after = subst (λ (s : List ℕ). IsLongest s after) (sym front) (subst (IsLongest (take n rest)) (sym back) c.lexeme_len.ensures.longest) in
    let some : 1 ≤ length lexeme = omega (arith, c.split_at.ensures.front_len, c.lexeme_len.ensures.some) in
    let position = place_of c.loop-rest.position in
    let new = c.add_token.new.names in
    let all = c.add_token.new.tokens.items in
    let plain : IsPlain c.lexeme_len.new.plain after = subst (IsPlain c.lexeme_len.new.plain) (sym back) c.lexeme_len.ensures.plain in (
      subst (λ (p : Position). IsLexing c.args.names.now c.args.text.now new all p after) (sym c.after-position.ensures)
          (lexing_goes_on c.args.names.now c.args.text.now c.loop-rest.names c.loop-rest.tokens.items position rest lexeme after new all
          c.loop-rest.invariant.0 parts some longest c.in_ok-add_token.ensures.names c.in_ok-add_token.ensures.token),
      plain,
    )

pub returns-then-len-eq-MOST_TOKENS-clause-too_many : goal.returns-then-len-eq-MOST_TOKENS-clause-too_many
returns-then-len-eq-MOST_TOKENS-clause-too_many c =
    let none : length c.loop-rest.rest.now ≡ 0 = search rules in
    let many : length c.loop-rest.tokens.items ≡ 1048576 = search rules in
    λ _. too_many c.args.names.now c.args.text.now c.loop-rest.names c.loop-rest.tokens.items (place_of c.loop-rest.position) c.loop-rest.rest.now c.loop-rest.invariant.0 none many

pub returns-clause-tokens : goal.returns-clause-tokens
returns-clause-tokens c =
    let none : length c.loop-rest.rest.now ≡ 0 = search rules in
    lexing_ends c.args.names.now c.args.text.now c.loop-rest.names c.loop-rest.tokens.items (place_of c.loop-rest.position) c.loop-rest.rest.now c.add_token-2.new.names c.add_token-2.new.tokens.items
    c.loop-rest.invariant.0 none c.in_ok-add_token-2.ensures.names c.in_ok-add_token-2.ensures.token

pub returns-clause-not_too_many : goal.returns-clause-not_too_many
returns-clause-not_too_many c =
    let none : length c.loop-rest.rest.now ≡ 0 = search rules in
    let few : length c.loop-rest.tokens.items < 1048576 = omega (arith, c.loop-rest.invariant.0.room, c.requires.short) in
    λ _. not_too_many c.args.names.now c.args.text.now c.loop-rest.names c.loop-rest.tokens.items (place_of c.loop-rest.position) c.loop-rest.rest.now c.loop-rest.invariant.0 none few

pub returns-clause-most : goal.returns-clause-most
returns-clause-most c =
    let more = adds_one c.add_token-2.new.names (place_of c.loop-rest.position) [] c.loop-rest.tokens.items c.add_token-2.new.tokens.items c.in_ok-add_token-2.ensures.token in
    omega (arith, more, c.add_token-2.new.tokens.ok.0, c.loop-rest.tokens.ok.0, c.loop-rest.invariant.0.room, c.requires.short)

pub returns-clause-names : goal.returns-clause-names
returns-clause-names c = extends_more c.args.names.now c.loop-rest.names c.add_token-2.new.names c.loop-rest.invariant.0.extends c.in_ok-add_token-2.ensures.extends

pub returns-in_err-add_token-2-clause-tokens : goal.returns-in_err-add_token-2-clause-tokens
returns-in_err-add_token-2-clause-tokens c = IfOk-from_err c.from_residual-in_err-add_token-2.result _ c.from_residual-in_err-add_token-2.ensures.0

pub returns-in_err-add_token-2-clause-most : goal.returns-in_err-add_token-2-clause-most
returns-in_err-add_token-2-clause-most c = IfOk-from_err c.from_residual-in_err-add_token-2.result _ c.from_residual-in_err-add_token-2.ensures.0

pub returns-in_err-add_token-2-clause-too_many : goal.returns-in_err-add_token-2-clause-too_many
returns-in_err-add_token-2-clause-too_many c = of_memory c.from_residual-in_err-add_token-2.result (subst (λ x. IsErrAnd c.from_residual-in_err-add_token-2.result (λ y. y ≡ x)) c.in_err-add_token-2.ensures.err c.from_residual-in_err-add_token-2.ensures.1)

pub returns-in_err-add_token-2-clause-names : goal.returns-in_err-add_token-2-clause-names
returns-in_err-add_token-2-clause-names c = extends_more c.args.names.now c.loop-rest.names c.add_token-2.new.names c.loop-rest.invariant.0.extends c.in_err-add_token-2.ensures.extends

pub returns-in_err-add_token-clause-tokens : goal.returns-in_err-add_token-clause-tokens
returns-in_err-add_token-clause-tokens c = IfOk-from_err c.from_residual-in_err-add_token.result _ c.from_residual-in_err-add_token.ensures.0

pub returns-in_err-add_token-clause-most : goal.returns-in_err-add_token-clause-most
returns-in_err-add_token-clause-most c = IfOk-from_err c.from_residual-in_err-add_token.result _ c.from_residual-in_err-add_token.ensures.0

pub returns-in_err-add_token-clause-too_many : goal.returns-in_err-add_token-clause-too_many
returns-in_err-add_token-clause-too_many c = of_memory c.from_residual-in_err-add_token.result (subst (λ x. IsErrAnd c.from_residual-in_err-add_token.result (λ y. y ≡ x)) c.in_err-add_token.ensures.err c.from_residual-in_err-add_token.ensures.1)

pub returns-in_err-add_token-clause-names : goal.returns-in_err-add_token-clause-names
returns-in_err-add_token-clause-names c = extends_more c.args.names.now c.loop-rest.names c.add_token.new.names c.loop-rest.invariant.0.extends c.in_err-add_token.ensures.extends
