use Rattle.std.proofs.Common.{◌≡◌, ◌<◌, ◌^◌, length, sym, subst, arith, true, List}
use Rattle.std.proofs.lemmas.Result.{err_from_is_err_and}
use Rattle.m2_base.specs.declared.token.Token.{Token}
use Rattle.m2_parse.specs.Fitting.{names_fit}
use Rattle.def_import.proofs.Fitting.{text_fits}
use Rattle.def_import.proofs.Limits.{when_lexing, when_long}
use Rattle.def_import.proofs.reading.read_text.Goals as goal

-- src/reading.rt:88:9
pub returns-then-bytes-gt-MOST_TEXT_BYTES-clause-limits :
    goal.returns-then-bytes-gt-MOST_TEXT_BYTES-clause-limits
returns-then-bytes-gt-MOST_TEXT_BYTES-clause-limits c =
    λ found limit h. when_long c.args.names.now found c.args.definition c.args.name c.args.bytes.now limit c.if-bytes-gt-MOST_TEXT_BYTES.true h

-- src/reading.rt:90:18
pub returns-in_err-tokens-clause-limits : goal.returns-in_err-tokens-clause-limits
returns-in_err-tokens-clause-limits c =
    let p = err_from_is_err_and c.from_residual.result c.from_residual.ensures.1 in
    rw (p.1, p.2) (λ found limit h. when_lexing c.args.names.now found c.args.definition c.args.name c.args.bytes.now c.in_err-tokens.field-0.0 limit c.if-bytes-gt-MOST_TEXT_BYTES.false c.in_err-tokens.ensures.too_many h)

-- src/reading.rt:92:17
pub front-requires : goal.front-requires
front-requires c =
    let countable : length c.lex.new.names < 2 ^ 32 = omega (arith, c.count-countable.ensures) in
    subst (λ (ts : List Token). names_fit ts ≡ true) (sym c.deref.ensures.value)
    (text_fits c.args.names.now c.lex.new.names c.args.bytes.now c.in_ok-tokens.tokens.items c.in_ok-tokens.ensures.tokens c.if-bytes-gt-MOST_TEXT_BYTES.false countable)
