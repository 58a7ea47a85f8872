use Rattle.scope_table.specs.Seats.{IsFirst}
use Rattle.search_tests.proofs.Tables.{of_three, popped}
use Rattle.search_tests.proofs.opening.last_two.Goals as goal

pub returns : goal.returns
returns c =
    let both =
    of_three (λ k d. IsFirst c.args._table.now k d) c.args.seats.items c.pop.new.self.items c.pop-2.new.self.items c.in_ok-two.two c.in_ok-one.one c.requires.each c.requires.all
    (popped c.args.seats.items c.pop.new.self.items c.pop.result c.in_ok-two.two c.pop.ensures.items c.in_ok-two.was)
    (popped c.pop.new.self.items c.pop-2.new.self.items c.pop-2.result c.in_ok-one.one c.pop-2.ensures.items c.in_ok-one.was) in
    (both.1, both.0)
