use Rattle.std.proofs.Common.{◌≡◌, ◌++◌, ◌∷◌, [], ℤ, w64, to_z, of_z, get_or, map, pos, refl, ap, ◌∙◌, rules}
use Rattle.std.proofs.lemmas.List.{get_or_default}
use Rattle.stack_machine.proofs.Pushing.{not_ok, part_all, part_more}
use Rattle.stack_machine.proofs.start.push_bytes.Goals as goal

pub returns-in_err-push : goal.returns-in_err-push
returns-in_err-push c = not_ok c.from_residual.result _ c.from_residual.ensures.0

pub loop-byte-preserved : goal.loop-byte-preserved
loop-byte-preserved c =
    let byte = get_or c.args.bytes.now c.loop-byte.byte-index 0 in
    let value : to_z w64 (of_z w64 c.from.result) ≡ pos byte = search (rules, c.from.ensures) in
    part_more (map pos) c.args.bytes.now c.loop-byte.byte-index byte c.loop-byte.cells.items c.push.new.self.items (pos byte ∷ []) _ c.loop-byte-test.true (get_or_default c.args.bytes.now c.loop-byte.byte-index 0 byte c.loop-byte-test.true) refl c.loop-byte.invariant
    (c.in_ok-push.ensures.items ∙ ap (λ (z : ℤ). c.loop-byte.cells.items ++ z ∷ []) value)

pub returns : goal.returns
returns c = part_all (map pos) c.args.bytes.now c.loop-byte.byte-index c.loop-byte.cells.items _ refl c.loop-byte-test.false c.loop-byte.invariant
