use Rattle.std.proofs.Common.{◌≡◌, ◌≤◌, length, arith, rules, sym, subst}
use Rattle.m2_base.specs.States.{State}
use Rattle.search_tests.specs.Named.{HasNamed}
use Rattle.search_tests.proofs.Tables.{nothing_named}
use Rattle.search_tests.proofs.filling.Filler.new.Goals as goal

pub new-scopes-requires : goal.new-scopes-requires
new-scopes-requires c =
    let s = c.requires.seat in
    record { texts = c.requires.table.texts; table = s.table; scope = (let e = s.scope in λ z. omega (arith, e, z)); none = s.start.put }

pub invariant_of-result : goal.invariant_of-result
invariant_of-result c =
    let there : c.count-names.result ≤ length c.args.texts.now.names = search rules in
    record {
      filled = subst (λ (st : State). HasNamed st c.count-names.result c.args.room 0) (sym c.new-scopes.ensures.state)
          (nothing_named c.args.table.now c.args.seat c.args.texts.now c.count-names.result c.args.room c.requires.table c.requires.seat c.requires.unread there c.requires.room);
    }
