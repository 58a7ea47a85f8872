use Rattle.stream_split.proofs.ImportScopes.{stream_imports}
use Rattle.stream_split.proofs.StreamTrees.{stream_few, stream_items, stream_room, stream_statements}
use Rattle.stream_split.proofs.laws.trees_of_streams_are_read.Goals as goal

pub returns : goal.returns
returns c =
    record {
      items = stream_items;
      statements = stream_statements;
      imports = λ texts front k s tree unit fronts whole. stream_imports texts unit front fronts whole k s tree;
      room = stream_room;
      few = stream_few;
    }
