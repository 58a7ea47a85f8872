-- What is counted of a unit, and the line that tells it.
use Rattle.std.specs.Prelude.{ℕ, List, ◌++◌, codes, decimal, length, sum_by}
use Rattle.m2_base.specs.Units.{UnitTexts}
use Rattle.m2_base.specs.declared.notes.Diag.{Diag}
use Rattle.object_file.specs.Contents.{Contents, object_bytes}
use Rattle.stream_split.specs.Streams.{streams_of}
use Rattle.module_outcome.specs.Limits.{limit_text}
use Rattle.module_outcome.specs.Lines.{line}
use Rattle.module_outcome.specs.Verdicts.{Decision, limited, listed, object}
use Rattle.module_outcome.specs.declared.answer.Answer.{Answer}
use Rattle.module_outcome.specs.declared.answer.Answer.TheVariants.{Done, OverLimit}
use Rattle.module_outcome.specs.declared.limit.Limit.{Limit}
use Rattle.module_outcome.specs.declared.summary.Counts.{Counts}
use Rattle.module_outcome.specs.declared.summary.Summary.{Summary}
use Rattle.module_outcome.specs.declared.summary.Summary.TheVariants.{Counted, Limited}

-- the tokens of all texts of a unit, and the bytes of the code of all procedures of an object
abbrev pub tokens_of : UnitTexts → ℕ
tokens_of unit = sum_by (λ t. length t.tokens) unit.list

abbrev pub code_of : Contents → ℕ
code_of contents = sum_by (λ p. length p.code) contents.procedures

-- ** The counts

-- of a unit that is compiled to this object
abbrev pub object_counts : UnitTexts → Contents → Counts
object_counts unit contents = record {
  tokens = tokens_of unit;
  streams = length (streams_of unit);
  code = code_of contents;
  object = length (object_bytes contents);
  diags = 0;
}

-- of one that is cut and has these diagnostics
abbrev pub diagnostic_counts : UnitTexts → List Diag → Counts
diagnostic_counts unit diags =
    record { tokens = tokens_of unit; streams = length (streams_of unit); code = 0; object = 0; diags = length diags }

-- of one with whose imports this is wrong, which isn't cut
abbrev pub import_counts : UnitTexts → List Diag → Counts
import_counts unit wrongs =
    record { tokens = tokens_of unit; streams = 0; code = 0; object = 0; diags = length wrongs }

-- What is told of a unit of which this is decided: the counts, or the limit that it passes.
pub data Tells (unit : UnitTexts) : Decision → Summary → Type 0 where
  of_object : (contents : Contents) → Tells unit (object contents) (Counted (object_counts unit contents))
  of_diagnostics : (diags : List Diag) → Tells unit (listed unit diags) (Counted (diagnostic_counts unit diags))
  of_limit : (limit : Limit) → Tells unit (limited limit) (Limited limit)

-- ** What goes with them

-- the line that tells the counts of the module of so many procedures: each number with its word
abbrev pub counted : (count : ℕ) → (word : List ℕ) → List ℕ
counted count word = decimal count ++ word

abbrev pub counts_line : (procedures : ℕ) → Counts → List ℕ
counts_line procedures c =
    (codes "big " ++ decimal procedures ++ codes ": ")
    ++ counted c.tokens (codes " tokens, ")
    ++ counted c.streams (codes " streams, ")
    ++ counted c.code (codes " code bytes, ")
    ++ counted c.object (codes " object bytes, ")
    ++ counted c.diags (line (codes " diagnostics"))

abbrev pub answer_by : Summary → Answer
answer_by (Counted counts) = Done
answer_by (Limited limit) = OverLimit

abbrev pub printed_by : (procedures : ℕ) → Summary → List ℕ
printed_by procedures (Counted counts) = counts_line procedures counts
printed_by procedures (Limited limit) = line (limit_text limit)
