use Rattle.std.proofs.Common.{◌≡◌, ◌⊎◌, ◌∙◌, sym, ap, subst, map, string_bytes, IfSome}
use Rattle.m2_io.specs.Causes.{Rose}
use Rattle.command_words.specs.Command.{IsNoCommand}
use Rattle.m2c_top.specs.Effects.{AsksToCompile, AsksToRun, Gives, HasInput, Leaves, PrintsPart, ToCompile}
use Rattle.module_outcome.specs.Answers.{Comes}
use Rattle.module_outcome.specs.declared.answer.Answer.{Answer as CompileAnswer}
use Rattle.module_outcome.specs.declared.answer.Answer.TheVariants.{Diagnosed, Done, NoText, OverLimit}
use Rattle.module_outcome.specs.Outcome.{HasObject, KeepsButObject}
use Rattle.m2c_top.specs.Statuses.{status_compiled, status_number, IsFault, IsStatus, Exactly}
use Rattle.m2c_top.proofs.Ends.{number_of, ends_done, ends_leaving, ends_exactly, ends_as_no_command, ends_with_status, ends_stopped, ends_by_reading, ends_by_writing, ends_handed, ends_keeping}
use Rattle.m2c_top.proofs.top.m2c.Given as given
use Rattle.m2c_top.proofs.top.m2c.Goals as goal

-- the status is the number that the work ends with
numbered : (g : given.Over) (c : goal.After-number g) → c.number.result ≡ number_of c.carry_through.result
numbered g c = c.number.ensures ∙ ap status_number c.status_of.ensures

pub returns-clause-leaves : goal.returns-clause-leaves
returns-clause-leaves g c =
    let holds = g.H.Shelf.holds c.args.shelf.now in
    let after = g.H.Shelf.holds c.carry_through.new.shelf in
    let old = g.P.Sink.written c.args.print.now in
    let new = g.P.Sink.written c.carry_through.new.print in
    let before = g.K.Source.left c.args.keys.now in
    let left = g.K.Source.left c.carry_through.new.keys in
    let words = map string_bytes c.args.words.now in
    subst (λ n. IsFault n ⊎ IfSome holds (λ files. HasInput words before → Leaves (Gives words files before) n after old new left)) (sym (numbered g c))
    (ends_leaving words holds after old new before left c.carry_through.result c.carry_through.ensures.leaves)

pub returns-clause-object : goal.returns-clause-object
returns-clause-object g c zero =
    ends_done (ToCompile (map string_bytes c.args.words.now) (λ name. IfSome (g.H.Shelf.holds c.carry_through.new.shelf) (HasObject name))) c.carry_through.result c.carry_through.ensures.object (sym (numbered g c) ∙ zero)

pub returns-clause-no_command : goal.returns-clause-no_command
returns-clause-no_command g c =
    let words = map string_bytes c.args.words.now in
    subst (λ n. Exactly n 2 (IsNoCommand words)) (sym (numbered g c)) (ends_as_no_command words c.carry_through.result c.carry_through.ensures.status)

-- the status of an answer to compiling comes exactly where the answer does
exactly : (g : given.Over) (c : goal.After-number g) (a : CompileAnswer)
    → IfSome (g.H.Shelf.holds c.args.shelf.now) (λ files. ToCompile (map string_bytes c.args.words.now) (λ name. Exactly c.number.result (status_number (status_compiled a)) (Comes files name a)))
exactly g c a =
    let holds = g.H.Shelf.holds c.args.shelf.now in
    let words = map string_bytes c.args.words.now in
    subst (λ n. IfSome holds (λ files. ToCompile words (λ name. Exactly n (status_number (status_compiled a)) (Comes files name a)))) (sym (numbered g c))
    (ends_exactly words holds c.carry_through.result c.carry_through.ensures.comes a)

pub returns-clause-no_text : goal.returns-clause-no_text
returns-clause-no_text g c = exactly g c NoText

pub returns-clause-done : goal.returns-clause-done
returns-clause-done g c = exactly g c Done

pub returns-clause-refused : goal.returns-clause-refused
returns-clause-refused g c = exactly g c Diagnosed

pub returns-clause-limits : goal.returns-clause-limits
returns-clause-limits g c = exactly g c OverLimit

pub returns-clause-read : goal.returns-clause-read
returns-clause-read g c four =
    let words = map string_bytes c.args.words.now in
    ends_by_reading words (Rose (g.H.Shelf.faults c.args.shelf.now) (g.H.Shelf.faults c.carry_through.new.shelf) ⊎ AsksToRun words × Rose (g.K.Source.faults c.args.keys.now) (g.K.Source.faults c.carry_through.new.keys))
    c.carry_through.result c.carry_through.ensures.status c.carry_through.ensures.read (sym (numbered g c) ∙ four)

pub returns-clause-write : goal.returns-clause-write
returns-clause-write g c five =
    let words = map string_bytes c.args.words.now in
    ends_by_writing words
    (Rose (g.P.Sink.faults c.args.print.now) (g.P.Sink.faults c.carry_through.new.print) ⊎ AsksToCompile words (λ name. Rose (g.H.Shelf.put_faults c.args.shelf.now) (g.H.Shelf.put_faults c.carry_through.new.shelf)))
    c.carry_through.result c.carry_through.ensures.status c.carry_through.ensures.write (sym (numbered g c) ∙ five)

pub returns-clause-status : goal.returns-clause-status
returns-clause-status g c = subst IsStatus (sym (numbered g c)) (ends_with_status (map string_bytes c.args.words.now) c.carry_through.result c.carry_through.ensures.status)

pub returns-clause-prints : goal.returns-clause-prints
returns-clause-prints g c fault =
    let words = map string_bytes c.args.words.now in
    let before = g.K.Source.left c.args.keys.now in
    ends_stopped words (IfSome (g.H.Shelf.holds c.args.shelf.now) (λ files. HasInput words before → PrintsPart (Gives words files before) (g.P.Sink.written c.args.print.now) (g.P.Sink.written c.carry_through.new.print)))
    c.carry_through.result c.carry_through.ensures.status c.carry_through.ensures.prints (subst IsFault (numbered g c) fault)

pub returns-clause-kept : goal.returns-clause-kept
returns-clause-kept g c not_done not_written =
    ends_keeping (g.H.Shelf.holds c.carry_through.new.shelf ≡ g.H.Shelf.holds c.args.shelf.now) c.carry_through.result c.carry_through.ensures.kept c.carry_through.ensures.unread c.carry_through.ensures.memory
    (λ e. not_done (numbered g c ∙ e)) (λ e. not_written (numbered g c ∙ e))

pub returns-clause-part : goal.returns-clause-part
returns-clause-part g c five =
    let holds = g.H.Shelf.holds c.args.shelf.now in
    let after = g.H.Shelf.holds c.carry_through.new.shelf in
    let words = map string_bytes c.args.words.now in
    ends_by_writing words ((after ≡ holds) ⊎ AsksToCompile words (λ name. KeepsButObject name holds after)) c.carry_through.result c.carry_through.ensures.status (λ e. c.carry_through.ensures.part) (sym (numbered g c) ∙ five)

pub returns-clause-handed_on : goal.returns-clause-handed_on
returns-clause-handed_on g c = ends_handed (g.P.Sink.kept c.carry_through.new.print ≡ 0) c.carry_through.result c.number.result (numbered g c) c.carry_through.ensures.handed
