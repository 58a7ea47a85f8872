use Rattle.definition_keys.proofs.TextFits.{kind_fits}
use Rattle.definition_keys.proofs.bytes.push_token.Goals as goal

pub returns-clause-fits : goal.returns-clause-fits
returns-clause-fits c = kind_fits c.args.names.now c.args.token.kind c.args.token.value c.requires.countable c.requires.value c.is_word.ensures

pub returns-then-is_of-clause-fits : goal.returns-then-is_of-clause-fits
returns-then-is_of-clause-fits c = kind_fits c.args.names.now c.args.token.kind c.args.token.value c.requires.countable c.requires.value c.is_word.ensures

pub returns-in_err-push-clause-fits : goal.returns-in_err-push-clause-fits
returns-in_err-push-clause-fits c = kind_fits c.args.names.now c.args.token.kind c.args.token.value c.requires.countable c.requires.value c.is_word.ensures
