use Rattle.std.proofs.Common.{sym}
use Rattle.m2_parse.proofs.ListLemmas.{taken, none_taken}
use Rattle.m2_parse.proofs.fronts.imports_behind.Goals as goal

pub returns-in_default : goal.returns-in_default
returns-in_default c = rw (sym (none_taken 57 c.args.tokens.now.list.now c.in_default.ensures.0)) c.new.ensures.items

pub returns : goal.returns
returns c = rw (sym (taken 57 c.args.tokens.now.list.now _ _ c.in-Some.ensures.1)) c.all_modules.ensures
