-- A fragment that was made is a known answer.
use Rattle.std.specs.Prelude.{Result, Ok, Err}
use Rattle.m2_base.specs.declared.memory.Memory.{Memory}
use Rattle.m2_base.specs.declared.replies.Ask.{Ask}
use Rattle.m2_base.specs.declared.replies.Ask.TheVariants.{Known}
use Rattle.expr_sem.specs.declared.fragments.Fragment.{Fragment}

abbrev pub answer_of : Result Fragment Memory → Result (Ask Fragment) Memory
answer_of (Ok f) = Ok (Known f)
answer_of (Err m) = Err m
