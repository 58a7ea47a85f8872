use Rattle.m2_base.specs.Views.{stream_view}
use Rattle.scope_core.specs.PlainScopes.{state_of}
use Rattle.m2_cases.specs.Filled.{HasDeclared}
use Rattle.m2_cases.proofs.declaring.declare_items.Given as goal

-- so many declarations are analysed
abbrev pub invariant-loop-index : goal.invariant-loop-index
invariant-loop-index l = HasDeclared (state_of l.scopes).frame l.block.sample.now.texts (stream_view l.block.sample.now.tree) l.index l.made.cell
