-- What is promised of a stream: its tree, or its first fault in this text.
use Rattle.std.specs.Prelude.{ℕ, List, Result, Ok, Err, Option, Some, None}
use Rattle.m2_base.specs.declared.token.Token.{Token}
use Rattle.m2_base.specs.declared.outputs.StreamFault.{StreamFault}
use Rattle.m2_base.specs.declared.outputs.StreamFault.TheVariants as faults
use Rattle.m2_base.specs.declared.trees.declarations.StreamKind.{StreamKind}
use Rattle.m2_base.specs.FaultsOf.{fault_in}
use Rattle.m2_base.specs.Grammar.{grammar, stream, levels}
use Rattle.m2_base.specs.StreamsOf.{stream_of}
use Rattle.m2_base.specs.Trees.{Stream}
use Rattle.m2_parse.specs.declared.faults.Refusal.{Refusal}
use Rattle.m2_parse.specs.declared.faults.Refusal.TheVariants as refusals
use Rattle.m2_parse.specs.declared.faults.ReadFault.{ReadFault}
use Rattle.m2_parse.specs.declared.faults.ReadFault.TheVariants as errors
use Rattle.m2_parse.specs.declared.faults.ParseFault.{ParseFault}
use Rattle.m2_parse.specs.declared.faults.ParseFault.TheVariants as parse_faults
use Rattle.ll_grammar.specs.Readers as readers
use Rattle.ll_grammar.specs.Texts as texts
use Rattle.m2_parse.specs.ReadStreams.{stream_at}

-- the refused token, in the text of this number
abbrev pub in_text : ℕ → Refusal → StreamFault
in_text text (refusals.Syntax at code) = faults.Syntax (record { text = text; at = at; code = code })
in_text text (refusals.TooDeep at) = faults.TooDeep text at

abbrev pub parse_fault : ℕ → ReadFault → ParseFault
parse_fault text errors.Memory = parse_faults.Memory
parse_fault text (errors.Refused r) = parse_faults.Fault (in_text text r)

-- what an error tells of
abbrev pub cause_of : ParseFault → Option StreamFault
cause_of parse_faults.Memory = None
cause_of (parse_faults.Fault f) = Some f

-- The tokens are a sentence of the stream's grammar, no token is nested too deep, and their parts give this tree.
abbrev pub SpellsStream : StreamKind → Stream → List Token → Type 0
SpellsStream kind tree ts = texts.Spells grammar levels (stream kind) (stream_of kind) tree ts

-- The fault that the error tells of is the first of the stream, where memory is not out.
abbrev pub IsFirstFault : ℕ → StreamKind → List Token → ParseFault → Type 0
IsFirstFault text kind ts e = texts.TellsFirst grammar levels (stream kind) (fault_in text) ts (cause_of e)

-- what a reader reads, with its faults told otherwise
abbrev pub retell : {X F G : Type 0} → (F → G) → Result X F → Result X G
retell f (Ok x) = Ok x
retell f (Err e) = Err (f e)

-- reading a whole stream
unfoldable pub stream_text : ℕ → StreamKind → List Token → Result Stream StreamFault
stream_text text kind ts = readers.ended (fault_in text) (retell (in_text text) (stream_at levels kind ts))
