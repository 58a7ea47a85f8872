use Rattle.std.proofs.Common.{◌∙◌, ◌≤◌, [], ℕ, List, ap, length, map, sym}
use Rattle.std.proofs.lemmas.List.{drop_all}
use Rattle.m2_base.specs.Copies.{copy_view}
use Rattle.m2_base.specs.declared.copies.ParamCopy.{ParamCopy}
use Rattle.m2_base.specs.declared.copies.ParamCopy.TheVariants.{Own}
use Rattle.block_code.specs.Parts.{none}
use Rattle.expr_sem.specs.Stacks.{ends_as}
use Rattle.block_code.specs.BlockCode.{first_cell, prologue}
use Rattle.stmt_sem.specs.Stating.{spot_at}
use Rattle.stmt_sem.proofs.PiecesJoined.{all_appended, copy_appended, made_alone}
use Rattle.stmt_sem.proofs.block_pieces.begun.Goals as goal

pub loop-copy-preserved : goal.loop-copy-preserved
loop-copy-preserved c =
    copy_appended c.empty_piece-piece.result c.loop-copy.piece c.append_copy.new.piece c.args.copies.now c.loop-copy.copy-index (Own 0 0 0) c.loop-copy-test.true c.loop-copy.invariant c.in_ok-append_copy.ensures

pub returns : goal.returns
returns c =
    let xs = c.args.copies.now in
    let b = c.loop-copy.piece in
    let past : length xs ≤ c.loop-copy.copy-index = c.loop-copy-test.false in
    let copied = all_appended c.empty_piece-piece.result b (prologue (map copy_view xs)) (sym (ap (λ (l : List ParamCopy). ends_as b [] (prologue (map copy_view l))) (drop_all c.loop-copy.copy-index xs past)) ∙ c.loop-copy.invariant) in
    made_alone (prologue (map copy_view xs)) (spot_at (first_cell c.args.kind c.args.cells) 0) (c.empty_piece-piece.ensures ∙ ap (λ (n : ℕ). none (spot_at n 0)) c.first_cell.ensures) copied
