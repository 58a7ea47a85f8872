use Rattle.m2_base.specs.Names.{standard_names}
use Rattle.m2_base.proofs.NameTexts.{from_none, indexed_none}
use Rattle.m2_base.proofs.names.Names.new.Goals as goal

pub invariant_of-names : goal.invariant_of-names
invariant_of-names c = indexed_none (λ k. k.items) c.with_hasher-numbers.result c.new-texts.result.items c.with_hasher-numbers.ensures.empty c.new-texts.ensures.items

-- the table of the code, numbered from none, is the definition's list
pub returns : goal.returns
unfolding standard_names
returns c = from_none (λ text. text.items) c.new-texts.result.items _ standard_names c.new-texts.ensures.items c.in_ok-intern_all.ensures
