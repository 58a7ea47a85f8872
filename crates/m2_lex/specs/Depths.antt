-- The code's places in comments, as those of the definitions.
use Rattle.m2_base.specs.Comments.{Depth as Place}
use Rattle.m2_lex.specs.declared.comment.Depth.{Depth}

abbrev pub depth_of : Depth → Place
depth_of d = record { depth = d.depth; before = d.before }
