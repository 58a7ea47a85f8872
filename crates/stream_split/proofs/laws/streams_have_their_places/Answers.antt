use Rattle.stream_split.proofs.StreamCounts.{definition_at, module_at, number_is, streams_counted, unit_procedure}
use Rattle.stream_split.proofs.Surrounded.{level_low, stream_has, surrounded}
use Rattle.stream_split.proofs.laws.streams_have_their_places.Goals as goal

pub returns : goal.returns
returns c =
    record {
      numbers = number_is;
      definitions = definition_at;
      main = module_at;
      count = streams_counted;
      procedures = λ u k p unit g. unit_procedure u unit k p g;
      streams = λ u k s unit g. stream_has u unit k s g;
      surrounded = λ u k s unit g. surrounded u unit k s g;
      levels = λ u k s unit none g. level_low u unit none k s g;
    }
