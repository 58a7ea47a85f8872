use Rattle.std.proofs.Common.{◌≡◌, ◌∙◌, rules, subst, sym, true}
use Rattle.command_words.specs.Numerals.{is_numeral}
use Rattle.command_words.proofs.Values.{too_great}
use Rattle.command_words.proofs.numeral.value_to.Goals as goal

pub returns-in-Err : goal.returns-in-Err
returns-in-Err c =
    let numeral : is_numeral c.args.word.now ≡ true = subst (λ w. is_numeral w ≡ true) c.as_bytes.ensures.value (sym c.is_numeral.ensures ∙ c.if-not-is_numeral.false) in
    too_great c.args.most c.args.word.now c.in-Err.field-0 (search rules) c.in-Err.ensures.value.0 numeral
