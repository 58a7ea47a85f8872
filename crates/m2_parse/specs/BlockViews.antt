-- A block of the code, seen as plain data.
use Rattle.std.specs.Prelude.{map}
use Rattle.m2_base.specs.StreamsOf.{Block}
use Rattle.m2_base.specs.Views.{decl_view, statement_view}
use Rattle.m2_parse.specs.declared.blocks.Block as code

abbrev pub block_view : code.Block → Block
block_view b = record { decls = map decl_view b.decls.items; body = map statement_view b.body.items; close = b.close }
