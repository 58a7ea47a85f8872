-- The streams of a unit: those of the definition modules in dependency order, which are whole texts, that of the main
-- module, and those of the procedures in the order of their PROCEDURE tokens. Scope 0 has no stream.
use Rattle.std.specs.Prelude.{ℕ, suc, List, [], ◌∷◌, ◌++◌, slice_get}
use Rattle.m2_base.specs.declared.token.Token.{Token}
use Rattle.m2_base.specs.declared.trees.declarations.StreamKind.{StreamKind}
use Rattle.m2_base.specs.declared.trees.declarations.StreamKind.TheVariants.{Main, Definition, Procedure}
pub use Rattle.m2_base.specs.Finished.{main_number, main_tokens, tokens_in}
use Rattle.m2_base.specs.Units.{TextOf, UnitTexts}
use Rattle.stream_split.specs.Cut.{Enclosed, Event, start, events, opened, pick}

-- a stream as plain data
pub record StreamOf : Type 0 where
  pub stream : ℕ
  pub text : ℕ
  pub outer : ℕ
  pub level : ℕ
  pub kind : StreamKind
  pub tokens : List Token

-- the stream of a procedure
abbrev pub procedure_stream : ℕ → Enclosed → List Token → StreamOf
procedure_stream j p ts =
    record { stream = j; text = 0; outer = p.outer; level = p.level; kind = Procedure; tokens = ts }

-- the streams of procedures from number j on
abbrev pub procedure_streams : ℕ → List Enclosed → List Event → List StreamOf
procedure_streams j [] es = []
procedure_streams j (p ∷ ps) es = procedure_stream j p (pick j es) ∷ procedure_streams (suc j) ps es

-- the stream of the main module
abbrev pub module_stream : ℕ → List Token → StreamOf
module_stream m ts = record { stream = m; text = 0; outer = 0; level = 0; kind = Main; tokens = ts }

-- the streams of a main text, of which the module's has the number m
abbrev pub main_streams : ℕ → List Token → List StreamOf
main_streams m ts =
    let es : List Event = events (start m) ts in
    module_stream m (pick m es) ∷ procedure_streams (suc m) (opened (start m) ts) es

-- the stream of a definition text
abbrev pub definition_stream : ℕ → ℕ → List Token → StreamOf
definition_stream j k ts = record { stream = j; text = k; outer = 0; level = 0; kind = Definition; tokens = ts }

-- the streams of these definition texts, the first of which has the number j
abbrev pub definition_streams : ℕ → List TextOf → List ℕ → List StreamOf
definition_streams j texts [] = []
definition_streams j texts (k ∷ order) =
    definition_stream j k (tokens_in (slice_get texts k)) ∷ definition_streams (suc j) texts order

-- the streams of a unit, the first of which has the number 1
abbrev pub streams_of : UnitTexts → List StreamOf
streams_of u = definition_streams 1 u.list u.order ++ main_streams (main_number u) (main_tokens u)
