use Rattle.m2_base.proofs.ItemLaws.{item_of}
use Rattle.m2_base.proofs.LayoutLaws.{block_counted, block_few, block_shaped}
use Rattle.m2_base.proofs.static_laws.rows_have_their_shapes.Goals as goal

pub returns-clause-items : goal.returns-clause-items
returns-clause-items c = λ d kind x cell. item_of x d kind cell

pub returns-clause-blocks : goal.returns-clause-blocks
returns-clause-blocks c = block_shaped

pub returns-clause-count : goal.returns-clause-count
returns-clause-count c = block_counted

pub returns-clause-few : goal.returns-clause-few
returns-clause-few c = block_few
