use Rattle.std.proofs.Common.{◌≡◌, Some, false, refl, rules}
use Rattle.std.specs.Prelude.{IsTrue, codes}
use Rattle.command_words.specs.Names.{is_name}
use Rattle.command_words.specs.Words.{given_of}
use Rattle.command_words.proofs.Making.{makes_run, nameless, none_of}
use Rattle.command_words.proofs.Verbs.{no_run_big}
use Rattle.command_words.proofs.command.to_run.Goals as goal

pub returns-then-not-is_name : goal.returns-then-not-is_name
returns-then-not-is_name c =
    let given : (given_of c.args.given).operand ≡ Some c.in_ok-name.name.now = search rules in
    let not : is_name c.in_ok-name.name.now ≡ false = search rules in
    nameless (codes "run") (given_of c.args.given) c.in_ok-name.name.now (no_run_big (codes "run") refl) given not

pub returns : goal.returns
returns c =
    let given : (given_of c.args.given).operand ≡ Some c.in_ok-name.name.now = search rules in
    let named : IsTrue (is_name c.in_ok-name.name.now) = search rules in
    makes_run (codes "run") (given_of c.args.given) c.in_ok-name.name.now given named c.unwrap_or-steps.result c.unwrap_or-cells.result refl
    (none_of c.args.given.workers c.is_some.result c.is_some.ensures c.if-is_some.false)
    c.unwrap_or-steps.ensures c.unwrap_or-cells.ensures
