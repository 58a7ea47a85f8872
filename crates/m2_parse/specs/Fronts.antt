-- Reading the front of a text: its head, and the imports behind it as long as each is whole.
use Rattle.std.specs.Prelude.{ℕ, zero, suc, Bool, false, List, [], ◌++◌, Result, Ok, Err, Option, Some, None}
use Rattle.std.specs.Prelude.{if◌then◌else◌, length}
use Rattle.m2_base.specs.declared.kind.TokenKind.TheVariants.{Definition, Module, Semicolon}
use Rattle.m2_base.specs.declared.token.Token.{Token}
use Rattle.m2_base.specs.declared.trees.Ident.{Ident}
use Rattle.m2_base.specs.Fronts.{Front, modules_of}
use Rattle.m2_base.specs.Trees as trees
use Rattle.ll_grammar.specs.Readers.{◌>>=◌}
use Rattle.m2_parse.specs.declared.faults.Refusal.{Refusal}
use Rattle.m2_parse.specs.Reading.{Read, expect, skip}
use Rattle.m2_parse.specs.ReadNames.{ident_at}
use Rattle.m2_parse.specs.ReadStreams.{implementation_at, import_at}

-- DEFINITION MODULE ident, or [IMPLEMENTATION] MODULE ident
unfoldable pub definition_head_at : Read (Bool × Ident)
definition_head_at ts = do
  d ← expect Definition ts
  m ← expect Module d.1
  i ← ident_at m.1
  Ok ((false, i.0), i.1)

unfoldable pub main_head_at : Read (Bool × Ident)
main_head_at ts = do
  k ← implementation_at ts
  m ← expect Module k.1
  i ← ident_at m.1
  Ok ((k.0, i.0), i.1)

abbrev pub head_at : Bool → Read (Bool × Ident)
head_at definition ts = if definition then definition_head_at ts else main_head_at ts

-- the modules of an import and of those behind it, or none where it isn't whole
abbrev pub modules_behind : Result (trees.Import × List Token) Refusal → (List Token → List Ident) → List Ident
modules_behind (Ok x) others = modules_of x.0 ++ others x.1
modules_behind (Err e) others = []

-- the modules of the whole imports at the front, at most n imports
unfoldable pub modules_at : ℕ → List Token → List Ident
modules_at zero ts = []
modules_at (suc n) ts = modules_behind (import_at ts) (λ rest. modules_at n rest)

-- the modules of the imports behind the name and its ";"
abbrev pub modules_after : Option (List Token) → List Ident
modules_after None = []
modules_after (Some rest) = modules_at (length rest) rest

abbrev pub imports_behind : List Token → List Ident
imports_behind ts = modules_after (skip Semicolon ts)

-- where a token is refused before the name, there is none
abbrev pub front_with : Result ((Bool × Ident) × List Token) Refusal → Front
front_with (Ok x) = record { name = Some x.0.1; implementation = x.0.0; imports = imports_behind x.1 }
front_with (Err e) = record { name = None; implementation = false; imports = [] }

abbrev pub front_of : Bool → List Token → Front
front_of definition ts = front_with (head_at definition ts)
