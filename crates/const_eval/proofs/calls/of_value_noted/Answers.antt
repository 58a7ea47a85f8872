use Rattle.const_eval.specs.Calls.{of_value}
use Rattle.const_eval.specs.declared.calls.ValueFunction.TheVariants.{Abs, Cap, Chr, Odd, Ord}
use Rattle.const_eval.proofs.Analysing.{noted_operand}
use Rattle.const_eval.proofs.calls.of_value_noted.Goals.{in-Abs, in-Cap, in-Chr, in-Odd, in-Ord}
use Rattle.const_eval.proofs.calls.of_value_noted.Goals as goal

pub returns : goal.returns
returns g c =
    elim c.match-function.branch [
      | in-Abs w ↦ let noted = rw w.given-is at c.note.ensures in
          rw (w.scopes-is, w.in-Abs.is) (noted_operand c.args.notes.now c.note.new.notes c.args.site.now w.abs_of-given.result c.note.result (λ k. of_value k Abs c.args.x.at c.args.x.operand)
          noted.answers noted.diags noted.waits noted.there noted.told w.abs_of-given.ensures.reads w.abs_of-given.ensures.waits w.abs_of-given.ensures.told w.abs_of-given.ensures.there)
      | in-Cap w ↦ let noted = rw w.given-is at c.note.ensures in
          rw (w.scopes-is, w.in-Cap.is) (noted_operand c.args.notes.now c.note.new.notes c.args.site.now w.cap_of-given.result c.note.result (λ k. of_value k Cap c.args.x.at c.args.x.operand)
          noted.answers noted.diags noted.waits noted.there noted.told w.cap_of-given.ensures.reads w.cap_of-given.ensures.waits w.cap_of-given.ensures.told w.cap_of-given.ensures.there)
      | in-Chr w ↦ let noted = rw w.given-is at c.note.ensures in
          rw (w.scopes-is, w.in-Chr.is) (noted_operand c.args.notes.now c.note.new.notes c.args.site.now w.chr_of-given.result c.note.result (λ k. of_value k Chr c.args.x.at c.args.x.operand)
          noted.answers noted.diags noted.waits noted.there noted.told w.chr_of-given.ensures.reads w.chr_of-given.ensures.waits w.chr_of-given.ensures.told w.chr_of-given.ensures.there)
      | in-Odd w ↦ let noted = rw w.given-is at c.note.ensures in
          rw (w.scopes-is, w.in-Odd.is) (noted_operand c.args.notes.now c.note.new.notes c.args.site.now w.odd_of-given.result c.note.result (λ k. of_value k Odd c.args.x.at c.args.x.operand)
          noted.answers noted.diags noted.waits noted.there noted.told w.odd_of-given.ensures.reads w.odd_of-given.ensures.waits w.odd_of-given.ensures.told w.odd_of-given.ensures.there)
      | in-Ord w ↦ let noted = rw w.given-is at c.note.ensures in
          rw (w.scopes-is, w.in-Ord.is) (noted_operand c.args.notes.now c.note.new.notes c.args.site.now w.ord_of-given.result c.note.result (λ k. of_value k Ord c.args.x.at c.args.x.operand)
          noted.answers noted.diags noted.waits noted.there noted.told w.ord_of-given.ensures.reads w.ord_of-given.ensures.waits w.ord_of-given.ensures.told w.ord_of-given.ensures.there)
    ]

pub abs_of-given-requires : goal.abs_of-given-requires
abs_of-given-requires g c = record { suits = c.requires.suits; x = c.requires.x }

pub cap_of-given-requires : goal.cap_of-given-requires
cap_of-given-requires g c = record { suits = c.requires.suits; x = c.requires.x }

pub chr_of-given-requires : goal.chr_of-given-requires
chr_of-given-requires g c = record { suits = c.requires.suits; x = c.requires.x }

pub odd_of-given-requires : goal.odd_of-given-requires
odd_of-given-requires g c = record { suits = c.requires.suits; x = c.requires.x }

pub ord_of-given-requires : goal.ord_of-given-requires
ord_of-given-requires g c = record { suits = c.requires.suits; x = c.requires.x }

pub note-requires : goal.note-requires
note-requires g c = tt
