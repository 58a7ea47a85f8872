use Rattle.stream_split.proofs.Agree.{trees_agree, fault_agrees}
use Rattle.stream_split.proofs.WholeAgrees.{refused_agrees, whole_agrees}
use Rattle.stream_split.proofs.laws.streams_agree_with_the_text.Goals as goal

pub returns : goal.returns
returns c = record { trees = trees_agree; whole = whole_agrees; fault = fault_agrees; refused = refused_agrees }
