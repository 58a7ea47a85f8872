use Rattle.m2_base.proofs.NameTexts.{found-put}
use Rattle.m2_base.proofs.names.put_number.Goals as goal

pub returns-clause-put : goal.returns-clause-put
returns-clause-put c = found-put (λ k. k.items) c.args.numbers.now c.insert.new.self c.args.text c.args.number c.in_ok-insert.ensures.updates
