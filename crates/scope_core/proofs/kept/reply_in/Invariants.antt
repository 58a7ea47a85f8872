use Rattle.std.proofs.Common.{◌≡◌, drop}
use Rattle.m2_base.specs.Tables.{one_thread}
use Rattle.scope_core.specs.Kept.{tables_in}
use Rattle.scope_core.proofs.kept.reply_in.Given as goal

-- the answer is that of the scopes that are left
abbrev pub invariant-loop-s : goal.invariant-loop-s
invariant-loop-s l = one_thread (tables_in l.kept) (drop l.s-index l.chain) l.name ≡ one_thread (tables_in l.kept) l.chain l.name
