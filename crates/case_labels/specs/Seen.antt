-- The labels of an arm, as the definitions see them.
use Rattle.std.specs.Prelude.{Result, Ok, Err, map}
use Rattle.m2_base.specs.States.{Frame}
use Rattle.m2_base.specs.Statics.CaseLabels as plain
use Rattle.m2_base.specs.declared.memory.Memory.{Memory}
use Rattle.m2_base.specs.declared.replies.Ask.{Ask}
use Rattle.m2_base.specs.declared.replies.Ask.TheVariants.{Known, DontKnowYet}
use Rattle.case_labels.specs.declared.labels.CaseLabels.{CaseLabels}
use Rattle.case_labels.specs.declared.tests.LabelTest.{LabelTest}

-- any labels may stand
abbrev pub AreAny : Frame → plain.CaseLabels → Type 0
AreAny f labels = Unit {0}

-- an answer, whose value is seen so
abbrev pub answer_as : {T V : Type 0} → (T → V) → Result (Ask T) Memory → Result (Ask V) Memory
answer_as seen (Ok (Known v)) = Ok (Known (seen v))
answer_as seen (Ok (DontKnowYet head)) = Ok (DontKnowYet head)
answer_as seen (Err m) = Err m

-- the same, of an answer that never waits
abbrev pub known_as : {T V : Type 0} → (T → V) → Result T Memory → Result (Ask V) Memory
known_as seen (Ok v) = Ok (Known (seen v))
known_as seen (Err m) = Err m

-- a label's test
abbrev pub test_seen : LabelTest → plain.LabelTest
test_seen t = record { low = t.low; high = t.high }

-- the labels of an arm
abbrev pub labels_seen : CaseLabels → plain.CaseLabels
labels_seen x = plain.case_labels x.good (map test_seen x.tests.items) x.covered
