use Rattle.std.proofs.Common.{◌≡◌, Some, false, refl, rules}
use Rattle.std.specs.Prelude.{IsTrue, codes}
use Rattle.command_words.specs.Names.{is_name}
use Rattle.command_words.specs.Words.{given_of}
use Rattle.command_words.proofs.Making.{makes_dump, nameless, none_of}
use Rattle.command_words.proofs.Verbs.{no_dump_big}
use Rattle.command_words.proofs.command.to_dump.Goals as goal

pub returns-then-not-is_name : goal.returns-then-not-is_name
returns-then-not-is_name c =
    let given : (given_of c.args.given).operand ≡ Some c.in_ok-name.name.now = search rules in
    let not : is_name c.in_ok-name.name.now ≡ false = search rules in
    nameless (codes "dump") (given_of c.args.given) c.in_ok-name.name.now (no_dump_big (codes "dump") refl) given not

pub returns : goal.returns
returns c =
    let given : (given_of c.args.given).operand ≡ Some c.in_ok-name.name.now = search rules in
    let named : IsTrue (is_name c.in_ok-name.name.now) = search rules in
    makes_dump (codes "dump") (given_of c.args.given) c.in_ok-name.name.now given named refl
    (none_of c.args.given.workers c.is_some.result c.is_some.ensures c.if-is_some.false) (none_of c.args.given.steps c.is_some-else-is_some.result c.is_some-else-is_some.ensures c.if-is_some-2.false)
    (none_of c.args.given.cells c.is_some-else-is_some-2.result c.is_some-else-is_some-2.ensures c.if-is_some-3.false)
