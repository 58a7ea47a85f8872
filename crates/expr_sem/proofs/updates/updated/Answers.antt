use Rattle.std.proofs.Common.{◌∙◌, ◌∷◌, [], refl}
use Rattle.code_form.specs.declared.instr.Instr.TheVariants.{Store}
use Rattle.block_code.specs.Parts.{plain}
use Rattle.expr_sem.proofs.Selecting.{made_full}
use Rattle.expr_sem.proofs.Sequencing.{Grows-trans, joined_same, made_after, part_later}
use Rattle.expr_sem.proofs.updates.updated.Goals as goal

pub returns-in_err-stored : goal.returns-in_err-stored
returns-in_err-stored c = made_full c.from_residual-in_err-stored.result c.from_residual-in_err-stored.ensures.0 c.in_err-stored.ensures c.in_ok-change.ensures.grows

pub returns-in_err-loaded : goal.returns-in_err-loaded
returns-in_err-loaded c = made_full c.from_residual-in_err-loaded.result c.from_residual-in_err-loaded.ensures.0 c.in_err-loaded.ensures (Grows-trans c.in_ok-change.ensures.grows c.in_ok-stored.ensures.grows)

pub returns-in_err-changed : goal.returns-in_err-changed
returns-in_err-changed c =
    made_full c.from_residual-in_err-changed.result c.from_residual-in_err-changed.ensures.0 c.in_err-changed.ensures.made (Grows-trans (Grows-trans c.in_ok-change.ensures.grows c.in_ok-stored.ensures.grows) c.in_ok-loaded.ensures.grows)

pub returns-in_err-rest : goal.returns-in_err-rest
returns-in_err-rest c =
    let made = Grows-trans (Grows-trans c.in_ok-change.ensures.grows c.in_ok-stored.ensures.grows) c.in_ok-loaded.ensures.grows in
    made_full c.from_residual-in_err-rest.result c.from_residual-in_err-rest.ensures.0 c.in_err-rest.ensures.made (Grows-trans made c.in_ok-changed.ensures.made.grows)

pub returns : goal.returns
returns c =
    let change = c.in_ok-change.ensures in
    let stored = c.in_ok-stored.ensures in
    let loaded = c.in_ok-loaded.ensures in
    let changed = c.in_ok-changed.ensures.made in
    let rest = c.in_ok-rest.ensures.made in
    let before = Grows-trans (Grows-trans change.grows stored.grows) loaded.grows in
    let all = Grows-trans (Grows-trans before changed.grows) rest.grows in
    made_after c.then-3.result all c.then-3.ensures.made
    (joined_same (part_later all c.args.variable c.requires.variable)
    (rest.made.part_is
    ∙ joined_same (part_later changed.grows c.in_ok-loaded.loaded loaded.made.there ∙ loaded.made.part_is)
    (changed.made.part_is
    ∙ joined_same (part_later before c.args.number c.requires.number)
    (part_later loaded.grows c.in_ok-stored.stored stored.made.there ∙ stored.made.part_is ∙ joined_same {q = plain (Store ∷ [])} {s = plain (Store ∷ [])} change.made.part_is refl))))
