use Rattle.std.proofs.Common.{◌≡◌, ◌+◌, ◌≤◌, List, arith, sym, subst, ◌∙◌}
use Rattle.m2_base.specs.Scopes.{CanEnter, Entered}
use Rattle.m2_base.specs.declared.rows.Row.{Row}
use Rattle.dky_search.specs.SeatScopes.{state_of}
use Rattle.search_tests.specs.Named.{first_name, rows_named}
use Rattle.search_tests.proofs.Named.{can_enter, has_more}
use Rattle.search_tests.proofs.filling.Filler.enter.Goals as goal

pub enter-requires : goal.enter-requires
enter-requires c =
    let f = c.args.self.now in
    let rows : c.deref.result.now ≡ rows_named (first_name + f.many) c.args.more = c.deref.ensures.value ∙ c.in_ok-rows.ensures in
    subst (λ (rs : List Row). CanEnter (state_of f.scopes) rs) (sym rows) (can_enter (state_of f.scopes) f.names f.room f.many c.args.more f.filled (omega arith) (omega arith))

pub invariant_of-self : goal.invariant_of-self
invariant_of-self c =
    let f = c.args.self.now in
    let rows : c.deref.result.now ≡ rows_named (first_name + f.many) c.args.more = c.deref.ensures.value ∙ c.in_ok-rows.ensures in
    let done = c.enter.ensures.entered in
    record {
      filled = has_more (state_of f.scopes) (state_of c.enter.new.self) f.names f.room f.many c.args.more f.filled (omega arith) (subst (λ (rs : List Row). Entered (state_of f.scopes) (state_of c.enter.new.self) rs) rows done);
    }
