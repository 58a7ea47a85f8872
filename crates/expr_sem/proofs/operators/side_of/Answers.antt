use Rattle.std.proofs.Common.{◌∙◌, Bool, ap, sym, if◌then◌else◌}
use Rattle.m2_base.specs.Rows.{is_same_place}
use Rattle.m2_base.specs.Standard.{integer}
use Rattle.m2_base.specs.declared.rows.Place.{Place}
use Rattle.expr_sem.proofs.operators.side_of.Goals as goal

pub base_of-requires-clause-suits : goal.base_of-requires-clause-suits
base_of-requires-clause-suits g c = c.requires.suits.around

pub returns-in-DontKnowYet-clause-reads : goal.returns-in-DontKnowYet-clause-reads
returns-in-DontKnowYet-clause-reads g c = c.in-DontKnowYet.ensures.reads

pub returns-in-DontKnowYet-clause-waits : goal.returns-in-DontKnowYet-clause-waits
returns-in-DontKnowYet-clause-waits g c = c.in-DontKnowYet.ensures.waits

pub returns-then-eq-clause-reads : goal.returns-then-eq-clause-reads
returns-then-eq-clause-reads g c = c.in-Known.ensures.reads

pub returns-then-eq-clause-told : goal.returns-then-eq-clause-told
returns-then-eq-clause-told g c made in_hand told =
    ap (λ (b : Bool). if b then 0 else 1) (sym c.if-eq.true ∙ c.eq.ensures ∙ ap (λ (t : Place). is_same_place t integer) (c.in-Known.ensures.told made in_hand told))

pub returns-else-eq-clause-reads : goal.returns-else-eq-clause-reads
returns-else-eq-clause-reads g c = c.in-Known.ensures.reads

pub returns-else-eq-clause-told : goal.returns-else-eq-clause-told
returns-else-eq-clause-told g c made in_hand told =
    ap (λ (b : Bool). if b then 0 else 1) (sym c.if-eq.false ∙ c.eq.ensures ∙ ap (λ (t : Place). is_same_place t integer) (c.in-Known.ensures.told made in_hand told))
