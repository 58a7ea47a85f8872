use Rattle.std.specs.Prelude.{◌≡◌, ◌+◌, ◌-◌, ◌^◌, min}
use Rattle.std.proofs.Common.{Fits, rules, w32}
use Rattle.decl_sem.proofs.FoundConstants.{left_all}
use Rattle.decl_sem.proofs.brought.ordinals_of.Goals as goal

pub returns : goal.returns
returns c k few =
    let begin : c.saturating_add-first.result ≡ min (c.args.of.ordinal + 1) (2 ^ 32 - 1) = search rules in
    let small : Fits w32 c.args.of.ordinal = search rules in
    let behind : c.saturating_add-end.result ≡ min (c.saturating_add-first.result + c.args.count) (2 ^ 32 - 1) = search rules in
    left_all c.args.of c.args.count c.saturating_add-first.result c.saturating_add-end.result k small.fits begin behind few
