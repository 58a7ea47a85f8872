use Rattle.module_gen.proofs.Measures.{many_lines, short_text, ascii_text}
use Rattle.module_gen.proofs.laws.big_is_a_text.Goals as goal

pub returns-clause-lines : goal.returns-clause-lines
returns-clause-lines c = many_lines

pub returns-clause-short : goal.returns-clause-short
returns-clause-short c = short_text

pub returns-clause-bytes : goal.returns-clause-bytes
returns-clause-bytes c = ascii_text
