use Rattle.std.proofs.Common.{◌≡◌, ℕ, List, length, map, ap, Result, Ok}
use Rattle.std.proofs.lemmas.List.{length-map}
use Rattle.m2_base.specs.declared.outputs.ProcCode.{ProcCode}
use Rattle.code_form.specs.Modules.{Procedure}
use Rattle.object_file.specs.Contents.{Export}
use Rattle.object_file.specs.Fields.{number_at, text_at, ◌then◌}
use Rattle.object_file.specs.Formats.{Bad}
use Rattle.object_file.specs.Reading.{frame_at, procedure_at}
use Rattle.object_file.specs.declared.reading.ProcedureFrame.{ProcedureFrame}
use Rattle.object_file.specs.Views.{procedure_of}
use Rattle.object_file.proofs.FieldSteps.{onwards, ends_there}
use Rattle.object_file.proofs.reading.procedure.Goals as goal

-- the fields behind the frame
abbrev behind : ProcedureFrame × List ℕ → Result (Procedure × List ℕ) Bad
behind f = number_at f.1 then λ high. (text_at high.1 then λ strings. (text_at strings.1 then λ code.
    Ok (record { outer = f.0.outer; params = f.0.params; result = f.0.result; locals = f.0.locals; high = high.0; bytes = strings.0; code = code.0 }, code.1)))

-- the procedures before it are as many, seen as what they say
read_is : (exports : List Export) (before : List ProcCode) (bytes : List ℕ) → procedure_at exports (map procedure_of before) bytes ≡ (frame_at exports (length before) bytes then behind)
unfolding procedure_at
read_is exports before bytes = ap (λ (k : ℕ). frame_at exports k bytes then behind) (length-map before procedure_of)

pub returns-in_err-outer : goal.returns-in_err-outer
returns-in_err-outer c =
    ends_there _ _ _ _ c.from_residual.result c.from_residual.ensures.1 c.in_err-outer.ensures
    (read_is c.args.exports.now c.args.before.now c.args.bytes.now.now)

pub returns-in_err-high : goal.returns-in_err-high
returns-in_err-high c =
    ends_there _ _ _ _ c.from_residual-in_err-high.result c.from_residual-in_err-high.ensures.1 c.in_err-high.ensures
    (onwards _ _ c.in_ok-outer.ensures (read_is c.args.exports.now c.args.before.now c.args.bytes.now.now))

pub returns-in_err-strings : goal.returns-in_err-strings
returns-in_err-strings c =
    ends_there _ _ _ _ c.from_residual-in_err-strings.result c.from_residual-in_err-strings.ensures.1 c.in_err-strings.ensures
    (onwards _ _ c.in_ok-high.ensures (onwards _ _ c.in_ok-outer.ensures (read_is c.args.exports.now c.args.before.now c.args.bytes.now.now)))

pub returns-in_err-code : goal.returns-in_err-code
returns-in_err-code c =
    ends_there _ _ _ _ c.from_residual-in_err-code.result c.from_residual-in_err-code.ensures.1 c.in_err-code.ensures
    (onwards _ _ c.in_ok-strings.ensures (onwards _ _ c.in_ok-high.ensures (onwards _ _ c.in_ok-outer.ensures (read_is c.args.exports.now c.args.before.now c.args.bytes.now.now))))

pub returns : goal.returns
returns c =
    onwards _ _ c.in_ok-code.ensures (onwards _ _ c.in_ok-strings.ensures (onwards _ _ c.in_ok-high.ensures (onwards _ _ c.in_ok-outer.ensures (read_is c.args.exports.now c.args.before.now c.args.bytes.now.now))))
