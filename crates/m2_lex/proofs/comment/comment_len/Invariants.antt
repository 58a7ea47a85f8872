use Rattle.std.proofs.Common.{◌≡◌, ◌+◌, ◌≤◌, drop}
use Rattle.m2_base.specs.Comments.{after_comment, behind_comment}
use Rattle.m2_lex.specs.Depths.{depth_of}
use Rattle.m2_lex.proofs.comment.comment_len.Given as goal

abbrev pub invariant-loop-index : goal.invariant-loop-index
invariant-loop-index l = (behind_comment l.text ≡ after_comment (depth_of l.place) (drop l.index (drop 2 l.text))) × (l.place.depth ≤ l.index + 1)
