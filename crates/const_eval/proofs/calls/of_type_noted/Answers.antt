use Rattle.const_eval.specs.Calls.{of_type}
use Rattle.const_eval.specs.declared.calls.TypeFunction.TheVariants.{Max, Min, Size}
use Rattle.const_eval.proofs.Analysing.{noted_operand}
use Rattle.const_eval.proofs.calls.of_type_noted.Goals.{in-Max, in-Min, in-Size}
use Rattle.const_eval.proofs.calls.of_type_noted.Goals as goal

pub returns : goal.returns
returns g c =
    elim c.match-function.branch [
      | in-Min w ↦ let noted = rw w.given-is at c.note.ensures in
          rw (w.scopes-is, w.in-Min.is) (noted_operand c.args.notes.now c.note.new.notes c.args.site.now w.extreme_of-given.result c.note.result (λ k. of_type k Min c.args.x.at c.args.x.operand)
          noted.answers noted.diags noted.waits noted.there noted.told w.extreme_of-given.ensures.reads w.extreme_of-given.ensures.waits w.extreme_of-given.ensures.told w.extreme_of-given.ensures.there)
      | in-Max w ↦ let noted = rw w.given-is at c.note.ensures in
          rw (w.scopes-is, w.in-Max.is) (noted_operand c.args.notes.now c.note.new.notes c.args.site.now w.extreme_of-given-in-Max.result c.note.result (λ k. of_type k Max c.args.x.at c.args.x.operand)
          noted.answers noted.diags noted.waits noted.there noted.told w.extreme_of-given-in-Max.ensures.reads w.extreme_of-given-in-Max.ensures.waits w.extreme_of-given-in-Max.ensures.told w.extreme_of-given-in-Max.ensures.there)
      | in-Size w ↦ let noted = rw w.given-is at c.note.ensures in
          rw (w.scopes-is, w.in-Size.is) (noted_operand c.args.notes.now c.note.new.notes c.args.site.now w.size_value-given.result c.note.result (λ k. of_type k Size c.args.x.at c.args.x.operand)
          noted.answers noted.diags noted.waits noted.there noted.told w.size_value-given.ensures.reads w.size_value-given.ensures.waits w.size_value-given.ensures.told w.size_value-given.ensures.there)
    ]

pub extreme_of-given-requires : goal.extreme_of-given-requires
extreme_of-given-requires g c = record { suits = c.requires.suits; x = c.requires.x }

pub extreme_of-given-requires-in-Max : goal.extreme_of-given-requires-in-Max
extreme_of-given-requires-in-Max g c = record { suits = c.requires.suits; x = c.requires.x }

pub size_value-given-requires : goal.size_value-given-requires
size_value-given-requires g c = record { suits = c.requires.suits; x = c.requires.x }

pub note-requires : goal.note-requires
note-requires g c = tt
