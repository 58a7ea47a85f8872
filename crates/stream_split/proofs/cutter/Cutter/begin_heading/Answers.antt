use Rattle.std.proofs.lemmas.Result.{err_from_is_err_and}
use Rattle.std.proofs.Common.{◌≡◌, ◌≢◌, ◌<◌, ◌≤◌, length, rules, ◌-◌, ◌+◌, arith}
use Rattle.stream_split.proofs.HeadingLimits.{many, deep, neither, count_is}
use Rattle.stream_split.proofs.cutter.Cutter.begin_heading.Goals as goal

pub returns-then-len-eq-MOST_PROCEDURES : goal.returns-then-len-eq-MOST_PROCEDURES
returns-then-len-eq-MOST_PROCEDURES c =
    let e : length c.args.self.now.streams.items - 1 ≡ 16384 = search rules in
    record { state = tt; sent = tt; labels = tt; first = tt; limits = (c.args.p.at, many _ _ c.args.p.at e) }

pub returns-then-len-gt-DEEPEST_LEVEL : goal.returns-then-len-gt-DEEPEST_LEVEL
returns-then-len-gt-DEEPEST_LEVEL c =
    let e : length c.args.self.now.streams.items - 1 ≢ 16384 = search rules in
    let n = count_is c.args.self.now.first c.args.self.now.around.items in
    let d : 16 < length c.args.self.now.around.items + 1 = search rules in
    record { state = tt; sent = tt; labels = tt; first = tt; limits = (c.args.p.at, deep _ _ c.args.p.at e (omega (arith, n, d))) }

pub returns-clause-limits : goal.returns-clause-limits
returns-clause-limits c =
    let e : length c.args.self.now.streams.items - 1 ≢ 16384 = search rules in
    let n = count_is c.args.self.now.first c.args.self.now.around.items in
    let d : length c.args.self.now.around.items + 1 ≤ 16 = search rules in
    neither _ _ c.args.p.at e (omega (arith, n, d))

pub returns-in_err-send : goal.returns-in_err-send
returns-in_err-send c =
    let p = err_from_is_err_and c.from_residual.result c.from_residual.ensures.1 in
    rw (p.1, p.2) (record { state = tt; sent = tt; labels = tt; first = tt; limits = tt })

pub returns-in_err-push : goal.returns-in_err-push
returns-in_err-push c =
    let p = err_from_is_err_and c.from_residual-in_err-push.result c.from_residual-in_err-push.ensures.1 in
    rw (p.1, p.2) (record { state = tt; sent = tt; labels = tt; first = tt; limits = tt })

pub returns-in_err-push-2 : goal.returns-in_err-push-2
returns-in_err-push-2 c =
    let p = err_from_is_err_and c.from_residual-in_err-push-2.result c.from_residual-in_err-push-2.ensures.1 in
    rw (p.1, p.2) (record { state = tt; sent = tt; labels = tt; first = tt; limits = tt })

pub send-requires : goal.send-requires
send-requires c = c.requires.current
