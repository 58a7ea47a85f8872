use Rattle.std.proofs.Common.{◌∙◌, ◌∷◌, [], ap}
use Rattle.code_form.specs.declared.instr.Instr.TheVariants.{IndexOpen}
use Rattle.block_code.specs.Parts.{Part, plain, ◌⨟◌}
use Rattle.expr_sem.proofs.Selecting.{made_full}
use Rattle.expr_sem.proofs.Sequencing.{Grows-trans, in_later, joined_same, made_after, part_later}
use Rattle.expr_sem.proofs.elements.open_code.Goals as goal

pub applied-requires-clause-x : goal.applied-requires-clause-x
applied-requires-clause-x c = c.in_ok-high.ensures.made.there

pub applied-requires-clause-y : goal.applied-requires-clause-y
applied-requires-clause-y c = in_later c.in_ok-high.ensures.grows c.args.value c.requires.value

pub returns-in_err-found : goal.returns-in_err-found
returns-in_err-found c =
    made_full c.from_residual-in_err-found.result c.from_residual-in_err-found.ensures.0 c.in_err-found.ensures c.in_ok-high.ensures.grows

pub returns : goal.returns
returns c =
    let high = c.in_ok-high.ensures in
    let found = c.in_ok-found.ensures in
    let both = Grows-trans high.grows found.grows in
    made_after c.then.result both c.then.ensures.made
    (joined_same (part_later both c.args.x.code c.requires.code) (found.made.part_is ∙ joined_same high.made.part_is (ap (λ (q : Part). q ⨟ plain (IndexOpen c.args.size ∷ [])) (part_later high.grows c.args.value c.requires.value))))
