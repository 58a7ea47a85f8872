use Rattle.std.proofs.Common.{◌≡◌, ◌∙◌, ℕ, ◌+◌, ◌<◌, ◌≤◌, List, drop, length, get_or, ap, refl, arith}
use Rattle.std.proofs.lemmas.List.{take_rest, length-drop}
use Rattle.m2_base.specs.Comments.{one_further}
use Rattle.m2_lex.specs.Depths.{depth_of}
use Rattle.m2_lex.proofs.LongestStrings.{closes_here}
use Rattle.m2_lex.proofs.comment.comment_len.Goals as goal

pub returns-then-place-eq0 : goal.returns-then-place-eq0
returns-then-place-eq0 c =
    let text = c.args.text.now in
    let i = c.loop-index.index in
    let place = depth_of c.loop-index.place in
    let next = depth_of c.one_further-place.result in
    let within : i < length (drop 2 text) = omega (arith, c.loop-index-test.true, ap length (take_rest text 2)) in
    let inside : i + 3 ≤ length text = omega (arith, within, length-drop 2 text) in
    let step : next ≡ one_further place (get_or (drop 2 text) i 0) = c.one_further-place.ensures ∙ ap (λ (xs : List ℕ). one_further place (get_or xs i 0)) (take_rest text 2) in
    (omega arith, inside, closes_here text place next i (get_or (drop 2 text) i 0) c.loop-index.invariant.0 within refl step c.if-place-eq0.true)
