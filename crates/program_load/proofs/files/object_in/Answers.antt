use Rattle.std.proofs.Common.{◌≡◌, ℕ, List, string_bytes, subst, sym}
use Rattle.object_file.specs.Telling.{IsFaultOf}
use Rattle.object_file.specs.Validity.{IsBadAt}
use Rattle.object_file.specs.declared.fault.ObjectFault.{ObjectFault}
use Rattle.program_load.specs.Loads.{Spoils, bad, broken, too_long}
use Rattle.program_load.proofs.files.object_in.Goals as goal

pub returns-then-bytes-gt-MOST_OBJECT_BYTES-clause-fault : goal.returns-then-bytes-gt-MOST_OBJECT_BYTES-clause-fault
returns-then-bytes-gt-MOST_OBJECT_BYTES-clause-fault c = too_long c.if-bytes-gt-MOST_OBJECT_BYTES.true

pub returns-in_ok-name-in-Err-BadObject-clause-fault : goal.returns-in_ok-name-in-Err-BadObject-clause-fault
returns-in_ok-name-in-Err-BadObject-clause-fault c =
    let bytes = c.args.bytes.now in
    let offset = c.in-Err-BadObject.offset in
    let code = c.in-Err-BadObject.code in
    let named : string_bytes c.in_ok-name-in-Err-BadObject.name ≡ c.args.name.now = c.in_ok-name-in-Err-BadObject.ensures.ok in
    let at : IsBadAt bytes offset code = subst (λ (e : ObjectFault). IsFaultOf bytes e) c.in-Err-BadObject.field-0-is c.in-Err-BadObject.ensures.fault in
    subst (λ (n : List ℕ). Spoils c.args.name.now bytes (broken n offset code)) (sym named) (bad c.if-bytes-gt-MOST_OBJECT_BYTES.false at)
