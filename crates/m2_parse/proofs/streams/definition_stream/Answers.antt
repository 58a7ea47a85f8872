use Rattle.std.proofs.Common.{arith}
use Rattle.std.proofs.lemmas.Grind.{common_steps}
use Rattle.m2_parse.specs.ReadStreams.{definition_at}
use Rattle.m2_parse.proofs.Steps.{fails, fails_behind, handed_on}
use Rattle.m2_parse.proofs.streams.definition_stream.Goals as goal

pub returns-in_err-expect : goal.returns-in_err-expect
unfolding definition_at
returns-in_err-expect c =
    handed_on _ _ _ c.from_residual.result c.from_residual.ensures.1 (fails _ _ _ c.in_err-expect.ensures.gives)

pub returns-in_err-expect-2 : goal.returns-in_err-expect-2
unfolding definition_at
returns-in_err-expect-2 c =
    handed_on _ _ _ c.from_residual-in_err-expect-2.result c.from_residual-in_err-expect-2.ensures.1
    (fails_behind _ _ _ c.in_ok-expect.ensures.gives (fails _ _ _ c.in_err-expect-2.ensures.gives))

pub returns-in_err-name : goal.returns-in_err-name
unfolding definition_at
returns-in_err-name c =
    handed_on _ _ _ c.from_residual-in_err-name.result c.from_residual-in_err-name.ensures.1
    (fails_behind _ _ _ c.in_ok-expect.ensures.gives (fails_behind _ _ _ c.in_ok-expect-2.ensures.gives
    (fails _ _ _ c.in_err-name.ensures)))

pub returns-in_err-expect-3 : goal.returns-in_err-expect-3
unfolding definition_at
returns-in_err-expect-3 c =
    handed_on _ _ _ c.from_residual-in_err-expect-3.result c.from_residual-in_err-expect-3.ensures.1
    (fails_behind _ _ _ c.in_ok-expect.ensures.gives (fails_behind _ _ _ c.in_ok-expect-2.ensures.gives
    (fails_behind _ _ _ c.in_ok-name.ensures (fails _ _ _ c.in_err-expect-3.ensures.gives))))

pub returns-in_err-imports : goal.returns-in_err-imports
unfolding definition_at
returns-in_err-imports c =
    handed_on _ _ _ c.from_residual-in_err-imports.result c.from_residual-in_err-imports.ensures.1
    (fails_behind _ _ _ c.in_ok-expect.ensures.gives (fails_behind _ _ _ c.in_ok-expect-2.ensures.gives
    (fails_behind _ _ _ c.in_ok-name.ensures (fails_behind _ _ _ c.in_ok-expect-3.ensures.gives
    (fails _ _ _ c.in_err-imports.ensures)))))

pub returns-in_err-export : goal.returns-in_err-export
unfolding definition_at
returns-in_err-export c =
    handed_on _ _ _ c.from_residual-in_err-export.result c.from_residual-in_err-export.ensures.1
    (fails_behind _ _ _ c.in_ok-expect.ensures.gives (fails_behind _ _ _ c.in_ok-expect-2.ensures.gives
    (fails_behind _ _ _ c.in_ok-name.ensures (fails_behind _ _ _ c.in_ok-expect-3.ensures.gives
    (fails_behind _ _ _ c.in_ok-imports.ensures (fails _ _ _ c.in_err-export.ensures))))))

pub returns-in_err-decls : goal.returns-in_err-decls
unfolding definition_at
returns-in_err-decls c =
    handed_on _ _ _ c.from_residual-in_err-decls.result c.from_residual-in_err-decls.ensures.1
    (fails_behind _ _ _ c.in_ok-expect.ensures.gives (fails_behind _ _ _ c.in_ok-expect-2.ensures.gives
    (fails_behind _ _ _ c.in_ok-name.ensures (fails_behind _ _ _ c.in_ok-expect-3.ensures.gives
    (fails_behind _ _ _ c.in_ok-imports.ensures (fails_behind _ _ _ c.in_ok-export.ensures
    (fails _ _ _ c.in_err-decls.ensures)))))))

pub returns-in_err-expect-4 : goal.returns-in_err-expect-4
unfolding definition_at
returns-in_err-expect-4 c =
    handed_on _ _ _ c.from_residual-in_err-expect-4.result c.from_residual-in_err-expect-4.ensures.1
    (fails_behind _ _ _ c.in_ok-expect.ensures.gives (fails_behind _ _ _ c.in_ok-expect-2.ensures.gives
    (fails_behind _ _ _ c.in_ok-name.ensures (fails_behind _ _ _ c.in_ok-expect-3.ensures.gives
    (fails_behind _ _ _ c.in_ok-imports.ensures (fails_behind _ _ _ c.in_ok-export.ensures
    (fails_behind _ _ _ c.in_ok-decls.ensures (fails _ _ _ c.in_err-expect-4.ensures.gives))))))))

pub returns-in_err-close : goal.returns-in_err-close
unfolding definition_at
returns-in_err-close c =
    handed_on _ _ _ c.from_residual-in_err-close.result c.from_residual-in_err-close.ensures.1
    (fails_behind _ _ _ c.in_ok-expect.ensures.gives (fails_behind _ _ _ c.in_ok-expect-2.ensures.gives
    (fails_behind _ _ _ c.in_ok-name.ensures (fails_behind _ _ _ c.in_ok-expect-3.ensures.gives
    (fails_behind _ _ _ c.in_ok-imports.ensures (fails_behind _ _ _ c.in_ok-export.ensures
    (fails_behind _ _ _ c.in_ok-decls.ensures (fails_behind _ _ _ c.in_ok-expect-4.ensures.gives
    (fails _ _ _ c.in_err-close.ensures)))))))))

pub returns-in_err-expect-5 : goal.returns-in_err-expect-5
unfolding definition_at
returns-in_err-expect-5 c =
    handed_on _ _ _ c.from_residual-in_err-expect-5.result c.from_residual-in_err-expect-5.ensures.1
    (fails_behind _ _ _ c.in_ok-expect.ensures.gives (fails_behind _ _ _ c.in_ok-expect-2.ensures.gives
    (fails_behind _ _ _ c.in_ok-name.ensures (fails_behind _ _ _ c.in_ok-expect-3.ensures.gives
    (fails_behind _ _ _ c.in_ok-imports.ensures (fails_behind _ _ _ c.in_ok-export.ensures
    (fails_behind _ _ _ c.in_ok-decls.ensures (fails_behind _ _ _ c.in_ok-expect-4.ensures.gives
    (fails_behind _ _ _ c.in_ok-close.ensures (fails _ _ _ c.in_err-expect-5.ensures.gives))))))))))

pub returns-in_err-expect-6 : goal.returns-in_err-expect-6
unfolding definition_at
returns-in_err-expect-6 c =
    handed_on _ _ _ c.from_residual-in_err-expect-6.result c.from_residual-in_err-expect-6.ensures.1
    (fails_behind _ _ _ c.in_ok-expect.ensures.gives (fails_behind _ _ _ c.in_ok-expect-2.ensures.gives
    (fails_behind _ _ _ c.in_ok-name.ensures (fails_behind _ _ _ c.in_ok-expect-3.ensures.gives
    (fails_behind _ _ _ c.in_ok-imports.ensures (fails_behind _ _ _ c.in_ok-export.ensures
    (fails_behind _ _ _ c.in_ok-decls.ensures (fails_behind _ _ _ c.in_ok-expect-4.ensures.gives
    (fails_behind _ _ _ c.in_ok-close.ensures (fails_behind _ _ _ c.in_ok-expect-5.ensures.gives
    (fails _ _ _ c.in_err-expect-6.ensures.gives)))))))))))

pub returns : goal.returns
unfolding definition_at
returns c = grind (arith, common_steps)
