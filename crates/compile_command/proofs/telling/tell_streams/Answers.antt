use Rattle.std.proofs.Common.{◌≡◌, ◌∙◌, ap, arith, length, sym}
use Rattle.std.proofs.lemmas.List.{length-map}
use Rattle.m2_base.specs.Units.{Front, TextOf}
use Rattle.merge_laws.specs.Texts.{IsWhole}
use Rattle.stream_split.specs.Views.{stream_view}
use Rattle.compile_command.proofs.telling.tell_streams.Goals as goal

pub work-requires-clause-whole : goal.work-requires-clause-whole
work-requires-clause-whole g c κs within =
    let unit = c.args.texts.now in
    let h = c.requires.whole in
    let laws = c.gathered_units_are_whole.ensures in
    let whole : (front : TextOf → Front) × IsWhole front unit = (h.front, laws.whole unit h.front h (laws.fronts unit h)) in
    whole

pub tell_merged-requires-clause-comes : goal.tell_merged-requires-clause-comes
tell_merged-requires-clause-comes g c = record { limits = c.requires.limits; comes = c.in_ok-merged.ensures.outcome }

pub tell_merged-requires-clause-streams : goal.tell_merged-requires-clause-streams
tell_merged-requires-clause-streams g c =
    let count : c.len-count.result ≡ length c.args.streams.items = omega (arith, c.len-count.ensures, c.args.streams.ok.0) in
    count ∙ sym (length-map c.args.streams.items stream_view) ∙ ap length c.requires.streams
