use Rattle.stream_split.proofs.DefinitionTexts.{definition_trees, definition_whole}
use Rattle.stream_split.proofs.laws.definition_streams_agree_with_the_text.Goals as goal

pub returns : goal.returns
returns c = record { trees = definition_trees; whole = definition_whole; fault = λ j k text ts fault h. h; refused = λ j k text ts fault h. h }
