use Rattle.std.proofs.Common.{refl}
use Rattle.object_file.specs.Reading.{frame_at}
use Rattle.object_file.proofs.FieldSteps.{onwards, valid_onwards, ends_there, valid_ends}
use Rattle.object_file.proofs.reading.frame.Goals as goal

pub returns-in_err-outer : goal.returns-in_err-outer
unfolding frame_at
returns-in_err-outer c =
    ends_there _ _ _ _ c.from_residual.result c.from_residual.ensures.1 c.in_err-outer.ensures
    refl

pub returns-in_err-valid : goal.returns-in_err-valid
unfolding frame_at
returns-in_err-valid c =
    valid_ends _ _ _ _ c.from_residual-in_err-valid.result c.is_outer.ensures c.from_residual-in_err-valid.ensures.1 c.in_err-valid.ensures
    (onwards _ _ c.in_ok-outer.ensures refl)

pub returns-in_err-params : goal.returns-in_err-params
unfolding frame_at
returns-in_err-params c =
    ends_there _ _ _ _ c.from_residual-in_err-params.result c.from_residual-in_err-params.ensures.1 c.in_err-params.ensures
    (valid_onwards _ _ c.is_outer.ensures c.in_ok-valid.ensures (onwards _ _ c.in_ok-outer.ensures refl))

pub returns-in_err-valid-2 : goal.returns-in_err-valid-2
unfolding frame_at
returns-in_err-valid-2 c =
    valid_ends _ _ _ _ c.from_residual-in_err-valid-2.result c.is_params.ensures c.from_residual-in_err-valid-2.ensures.1 c.in_err-valid-2.ensures
    (onwards _ _ c.in_ok-params.ensures (valid_onwards _ _ c.is_outer.ensures c.in_ok-valid.ensures (onwards _ _ c.in_ok-outer.ensures refl)))

pub returns-in_err-result : goal.returns-in_err-result
unfolding frame_at
returns-in_err-result c =
    ends_there _ _ _ _ c.from_residual-in_err-result.result c.from_residual-in_err-result.ensures.1 c.in_err-result.ensures
    (valid_onwards _ _ c.is_params.ensures c.in_ok-valid-2.ensures (onwards _ _ c.in_ok-params.ensures (valid_onwards _ _ c.is_outer.ensures c.in_ok-valid.ensures (onwards _ _ c.in_ok-outer.ensures refl))))

pub returns-in_err-valid-3 : goal.returns-in_err-valid-3
unfolding frame_at
returns-in_err-valid-3 c =
    valid_ends _ _ _ _ c.from_residual-in_err-valid-3.result c.is_result.ensures c.from_residual-in_err-valid-3.ensures.1 c.in_err-valid-3.ensures
    (onwards _ _ c.in_ok-result.ensures (valid_onwards _ _ c.is_params.ensures c.in_ok-valid-2.ensures (onwards _ _ c.in_ok-params.ensures (valid_onwards _ _ c.is_outer.ensures c.in_ok-valid.ensures (onwards _ _ c.in_ok-outer.ensures refl)))))

pub returns-in_err-locals : goal.returns-in_err-locals
unfolding frame_at
returns-in_err-locals c =
    ends_there _ _ _ _ c.from_residual-in_err-locals.result c.from_residual-in_err-locals.ensures.1 c.in_err-locals.ensures
    (valid_onwards _ _ c.is_result.ensures c.in_ok-valid-3.ensures (onwards _ _ c.in_ok-result.ensures (valid_onwards _ _ c.is_params.ensures c.in_ok-valid-2.ensures (onwards _ _ c.in_ok-params.ensures (valid_onwards _ _ c.is_outer.ensures c.in_ok-valid.ensures (onwards _ _ c.in_ok-outer.ensures refl))))))

pub returns-in_err-valid-4 : goal.returns-in_err-valid-4
unfolding frame_at
returns-in_err-valid-4 c =
    valid_ends _ _ _ _ c.from_residual-in_err-valid-4.result c.is_locals.ensures c.from_residual-in_err-valid-4.ensures.1 c.in_err-valid-4.ensures
    (onwards _ _ c.in_ok-locals.ensures (valid_onwards _ _ c.is_result.ensures c.in_ok-valid-3.ensures (onwards _ _ c.in_ok-result.ensures (valid_onwards _ _ c.is_params.ensures c.in_ok-valid-2.ensures (onwards _ _ c.in_ok-params.ensures (valid_onwards _ _ c.is_outer.ensures c.in_ok-valid.ensures (onwards _ _ c.in_ok-outer.ensures refl)))))))

pub returns : goal.returns
unfolding frame_at
returns c = valid_onwards _ _ c.is_locals.ensures c.in_ok-valid-4.ensures (onwards _ _ c.in_ok-locals.ensures (valid_onwards _ _ c.is_result.ensures c.in_ok-valid-3.ensures (onwards _ _ c.in_ok-result.ensures (valid_onwards _ _ c.is_params.ensures c.in_ok-valid-2.ensures (onwards _ _ c.in_ok-params.ensures (valid_onwards _ _ c.is_outer.ensures c.in_ok-valid.ensures (onwards _ _ c.in_ok-outer.ensures refl)))))))
