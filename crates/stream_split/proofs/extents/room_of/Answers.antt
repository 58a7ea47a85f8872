use Rattle.std.proofs.Common.{◌≡◌, ◌+◌, arith, rules}
use Rattle.stream_split.specs.Sizes.{room_of}
use Rattle.stream_split.specs.Views.{stream_view}
use Rattle.stream_split.proofs.BroughtRows.{room_over}
use Rattle.stream_split.proofs.extents.room_of.Goals as goal

pub returns-clause-few : goal.returns-clause-few
returns-clause-few c =
    let room : c.declared_room.result + c.brought_room.result ≡ room_of (stream_view c.args.stream.now) = search rules in
    let over = room_over (stream_view c.args.stream.now) in
    let short = c.requires in
    omega (arith, room, over, short)
