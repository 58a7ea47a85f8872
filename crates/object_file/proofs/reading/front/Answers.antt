use Rattle.std.proofs.Common.{◌∙◌, ap, refl}
use Rattle.object_file.specs.ObjectFormat.{is_identifier}
use Rattle.object_file.specs.Reading.{front_at}
use Rattle.object_file.proofs.FieldSteps.{onwards, valid_onwards, ends_there, valid_ends}
use Rattle.object_file.proofs.reading.front.Goals as goal

pub returns-in_err-name : goal.returns-in_err-name
unfolding front_at
returns-in_err-name c =
    ends_there _ _ _ _ c.from_residual.result c.from_residual.ensures.1 c.in_err-name.ensures
    refl

pub returns-in_err-valid : goal.returns-in_err-valid
unfolding front_at
returns-in_err-valid c =
    valid_ends _ _ _ _ c.from_residual-in_err-valid.result (c.is_identifier.ensures ∙ ap is_identifier c.deref.ensures.value) c.from_residual-in_err-valid.ensures.1 c.in_err-valid.ensures
    (onwards _ _ c.in_ok-name.ensures refl)

pub returns-in_err-cells : goal.returns-in_err-cells
unfolding front_at
returns-in_err-cells c =
    ends_there _ _ _ _ c.from_residual-in_err-cells.result c.from_residual-in_err-cells.ensures.1 c.in_err-cells.ensures
    (valid_onwards _ _ (c.is_identifier.ensures ∙ ap is_identifier c.deref.ensures.value) c.in_ok-valid.ensures (onwards _ _ c.in_ok-name.ensures refl))

pub returns-in_err-valid-2 : goal.returns-in_err-valid-2
unfolding front_at
returns-in_err-valid-2 c =
    valid_ends _ _ _ _ c.from_residual-in_err-valid-2.result refl c.from_residual-in_err-valid-2.ensures.1 c.in_err-valid-2.ensures
    (onwards _ _ c.in_ok-cells.ensures (valid_onwards _ _ (c.is_identifier.ensures ∙ ap is_identifier c.deref.ensures.value) c.in_ok-valid.ensures (onwards _ _ c.in_ok-name.ensures refl)))

pub returns-in_err-own_cells : goal.returns-in_err-own_cells
unfolding front_at
returns-in_err-own_cells c =
    ends_there _ _ _ _ c.from_residual-in_err-own_cells.result c.from_residual-in_err-own_cells.ensures.1 c.in_err-own_cells.ensures
    (valid_onwards _ _ refl c.in_ok-valid-2.ensures (onwards _ _ c.in_ok-cells.ensures (valid_onwards _ _ (c.is_identifier.ensures ∙ ap is_identifier c.deref.ensures.value) c.in_ok-valid.ensures (onwards _ _ c.in_ok-name.ensures refl))))

pub returns-in_err-valid-3 : goal.returns-in_err-valid-3
unfolding front_at
returns-in_err-valid-3 c =
    valid_ends _ _ _ _ c.from_residual-in_err-valid-3.result refl c.from_residual-in_err-valid-3.ensures.1 c.in_err-valid-3.ensures
    (onwards _ _ c.in_ok-own_cells.ensures (valid_onwards _ _ refl c.in_ok-valid-2.ensures (onwards _ _ c.in_ok-cells.ensures (valid_onwards _ _ (c.is_identifier.ensures ∙ ap is_identifier c.deref.ensures.value) c.in_ok-valid.ensures (onwards _ _ c.in_ok-name.ensures refl)))))

pub returns : goal.returns
unfolding front_at
returns c = valid_onwards _ _ refl c.in_ok-valid-3.ensures (onwards _ _ c.in_ok-own_cells.ensures (valid_onwards _ _ refl c.in_ok-valid-2.ensures (onwards _ _ c.in_ok-cells.ensures (valid_onwards _ _ (c.is_identifier.ensures ∙ ap is_identifier c.deref.ensures.value) c.in_ok-valid.ensures (onwards _ _ c.in_ok-name.ensures refl)))))
