-- The front of a text: the module's name, and the modules of the whole imports behind it. A token is refused where no
-- sentence of what is read begins with the tokens up to it; what stands behind a whole part is not looked at.
use Rattle.std.specs.Prelude.{◌≡◌, Bool, true, false, List, [], ◌∷◌, ◌++◌, Option, Some, None}
use Rattle.m2_base.specs.declared.kind.TokenKind.TheVariants.{Definition, Implementation, Module, Semicolon}
use Rattle.m2_base.specs.declared.token.Token.{Token}
use Rattle.m2_base.specs.declared.trees.Ident.{Ident}
use Rattle.m2_base.specs.ExpressionsOf.{no_ident, ident_of}
use Rattle.m2_base.specs.Grammar.{grammar, a, any, ident, imported, levels}
use Rattle.m2_base.specs.KindNumbers.{all_kinds}
use Rattle.m2_base.specs.StreamsOf.{import_of}
use Rattle.m2_base.specs.Trees.{Import}
use Rattle.m2_base.specs.TypesOf.{is_there}
use Rattle.ll_grammar.specs.Derivations.{Tree, both, tokens, Derives}
use Rattle.ll_grammar.specs.Grammar.{Rule, many, ◌⨾◌, optional}
use Rattle.ll_grammar.specs.Sentences.{Syntax, Faulty}

pub record Front : Type 0 where
  pub name : Option Ident
  pub implementation : Bool
  pub imports : List Ident

-- tokens of any kinds
abbrev pub anything : Rule
anything = many (any all_kinds)

-- The part is whole, with this derivation, and the tokens of rest stand behind it.
pub record Opens (part : Rule) (d : Tree Token) (rest ts : List Token) : Type 0 where
  pub derives : Derives grammar part d
  pub spells : ts ≡ tokens d ++ rest

-- A token is refused before the part is whole.
pub record BreaksOff (part : Rule) (ts : List Token) : Type 0 where
  pub rest : List Token
  pub faulty : Faulty grammar levels (part ⨾ anything) Syntax ts rest

-- DEFINITION MODULE ident, or [IMPLEMENTATION] MODULE ident
abbrev pub head : (definition : Bool) → Rule
head true = a Definition ⨾ a Module ⨾ ident
head false = optional (a Implementation) ⨾ a Module ⨾ ident

-- whether it is an implementation, and the name
abbrev pub head_of : (definition : Bool) → Tree Token → Bool × Ident
head_of true (both definition (both module_word i)) = (false, ident_of i)
head_of false (both implementation (both module_word i)) = (is_there implementation, ident_of i)
head_of definition d = (false, no_ident)

-- the modules of an import: those that it names, or the one after FROM
abbrev pub modules_with : Option Ident → List Ident → List Ident
modules_with None names = names
modules_with (Some i) names = i ∷ []

abbrev pub modules_of : Import → List Ident
modules_of i = modules_with i.from i.names

-- These are the modules of the whole imports that the list begins with.
pub data Imported : List Token → List Ident → Type 0 where
  no_import : {ts : List Token} → BreaksOff imported ts → Imported ts []
  an_import : {d : Tree Token} {rest ts : List Token} {modules : List Ident} → Opens imported d rest ts
      → Imported rest modules
      → Imported ts (modules_of (import_of d) ++ modules)

-- The same of what stands behind the module's name, which begins with ";".
pub data ImportedBehind : List Token → List Ident → Type 0 where
  no_semicolon : {ts : List Token} → BreaksOff (a Semicolon) ts → ImportedBehind ts []
  semicolon : {d : Tree Token} {rest ts : List Token} {modules : List Ident} → Opens (a Semicolon) d rest ts
      → Imported rest modules
      → ImportedBehind ts modules

-- This is the front of the text: where a token is refused before the name, there is no name and no import.
pub data IsFront (definition : Bool) : List Token → Front → Type 0 where
  nameless : {ts : List Token} → BreaksOff (head definition) ts
      → IsFront definition ts (record { name = None; implementation = false; imports = [] })
  named : {d : Tree Token} {rest ts : List Token} {modules : List Ident} → Opens (head definition) d rest ts
      → ImportedBehind rest modules
      → IsFront definition ts
      (record { name = Some (head_of definition d).1; implementation = (head_of definition d).0; imports = modules })
