-- The imports and the front of tokens of which each has a property, as a leaf: each of their names has it.
use Rattle.std.specs.Prelude.{Bool, true, false, List, Option, Some, None}
use Rattle.std.proofs.Common.{subst}
use Rattle.ll_grammar.specs.Derivations.{Tree, tokens, Derives, of_empty, of_then, of_left, of_right, of_last, of_more}
use Rattle.ll_grammar.specs.Grammar.{Rule, many}
use Rattle.m2_base.specs.Fronts.{Front, Imported, ImportedBehind, IsFront, Opens, an_import, head, head_of, modules_of, modules_with, named, nameless, no_import, no_semicolon, semicolon}
use Rattle.m2_base.specs.Grammar as rules
use Rattle.m2_base.specs.Grammar.{grammar}
use Rattle.m2_base.specs.Lists.{Each}
use Rattle.m2_base.specs.Statics.Leaves.{Leaf, NameHas, NameOptionHas, NamesHave}
use Rattle.m2_base.specs.StreamsOf as streams
use Rattle.m2_base.specs.Trees.{Ident, Import}
use Rattle.m2_base.specs.declared.token.Token.{Token}
use Rattle.m2_base.proofs.EachLaws.{each_append, each_back, each_front}
use Rattle.m2_base.proofs.LeafExpressions.{LeavesHave, TokenHas, leaves_have, name_leaves, names_leaves}

module _ (P : Leaf → Type 0) where
  -- ** Imports

  -- the names of an import
  abbrev pub ImportHas : Import → Type 0
  ImportHas i = NameOptionHas P i.from × NamesHave P i.names

  from_leaves : {d : Tree Token} → Derives grammar rules.from d → LeavesHave P d → NameOptionHas P (streams.from_of d)
  from_leaves (of_left (of_then from i)) r = name_leaves P i r.1
  from_leaves (of_right of_empty) r = tt

  import_leaves : {d : Tree Token} → Derives grammar rules.imported d → LeavesHave P d → ImportHas (streams.import_of d)
  import_leaves (of_then p (of_then import (of_then q stop))) r = (from_leaves p r.0, names_leaves P q r.1.1.0)

  pub imports_leaves : {d : Tree Token} → Derives grammar (many rules.imported) d → LeavesHave P d → Each ImportHas (streams.imports_of d)
  imports_leaves of_last r = tt
  imports_leaves (of_more p q) r = (import_leaves p r.0, imports_leaves q r.1)

  -- ** Fronts

  -- what is whole, and what stands behind it
  opened_leaves : {r : Rule} {d : Tree Token} {rest ts : List Token} → Opens r d rest ts → Each (TokenHas P) ts → LeavesHave P d × Each (TokenHas P) rest
  opened_leaves {d = d} {rest = rest} opens h =
      let all = subst (Each (TokenHas P)) opens.spells h in (leaves_have P d (each_front (TokenHas P) (tokens d) rest all), each_back (TokenHas P) (tokens d) rest all)

  head_leaves : (definition : Bool) {d : Tree Token} → Derives grammar (head definition) d → LeavesHave P d → NameHas P (head_of definition d).1
  head_leaves true (of_then word (of_then module_word i)) r = name_leaves P i r.1.1
  head_leaves false (of_then word (of_then module_word i)) r = name_leaves P i r.1.1

  modules_have : (i : Import) → ImportHas i → NamesHave P (modules_of i)
  modules_have i h = by i.from h.0
    where
      by : (from : Option Ident) → NameOptionHas P from → NamesHave P (modules_with from i.names)
      by None k = h.1
      by (Some x) k = (k, tt)

  imported_leaves : {ts : List Token} {modules : List Ident} → Imported ts modules → Each (TokenHas P) ts → NamesHave P modules
  imported_leaves (no_import b) h = tt
  imported_leaves (an_import {d = d} {modules = modules} opens behind) h =
      let parts = opened_leaves opens h in
      each_append (NameHas P) (modules_of (streams.import_of d)) modules (modules_have (streams.import_of d) (import_leaves opens.derives parts.0)) (imported_leaves behind parts.1)

  behind_leaves : {ts : List Token} {modules : List Ident} → ImportedBehind ts modules → Each (TokenHas P) ts → NamesHave P modules
  behind_leaves (no_semicolon b) h = tt
  behind_leaves (semicolon opens behind) h = imported_leaves behind (opened_leaves opens h).1

  -- the names of a front
  pub record FrontHas (f : Front) : Type 0 where
    pub name : NameOptionHas P f.name
    pub imports : NamesHave P f.imports

  pub front_leaves : (definition : Bool) (ts : List Token) (f : Front) → IsFront definition ts f → Each (TokenHas P) ts → FrontHas f
  front_leaves definition ts _ (nameless b) h = record { name = tt; imports = tt }
  front_leaves definition ts _ (named opens behind) h =
      let parts = opened_leaves opens h in record { name = head_leaves definition opens.derives parts.0; imports = behind_leaves behind parts.1 }
