use Rattle.std.proofs.Common.{◌≡◌, ◌∙◌, ℕ, List, Ok, ap, map, refl, sym, subst}
use Rattle.object_file.specs.Contents.{Export}
use Rattle.object_file.specs.Fields.{Fails, raw_at}
use Rattle.object_file.specs.Reading.{fields_at}
use Rattle.object_file.specs.Views.{keyed_of, procedure_of}
use Rattle.object_file.proofs.FieldSteps.{onwards, ends_there}
use Rattle.object_file.proofs.reading.parts.Goals as goal

pub returns-in_err-name : goal.returns-in_err-name
unfolding fields_at
returns-in_err-name c =
    ends_there _ _ _ _ c.from_residual.result c.from_residual.ensures.1 c.in_err-name.ensures
    refl

pub returns-in_err-key : goal.returns-in_err-key
unfolding fields_at
returns-in_err-key c =
    ends_there _ _ _ c.in_err-key.field-0.0 c.from_residual-in_err-key.result c.from_residual-in_err-key.ensures.1 (subst (λ (n : ℕ). Fails c.in_err-key.field-0.0 (raw_at n c.front.new.bytes.now)) c.key_length.ensures c.in_err-key.ensures)
    (onwards _ _ c.in_ok-name.ensures refl)

pub returns-in_err-exports : goal.returns-in_err-exports
unfolding fields_at
returns-in_err-exports c =
    ends_there _ _ _ _ c.from_residual-in_err-exports.result c.from_residual-in_err-exports.ensures.1 c.in_err-exports.ensures
    (onwards _ _ (subst (λ (n : ℕ). raw_at n c.front.new.bytes.now ≡ Ok (c.in_ok-key.key.items, c.raw.new.bytes.now)) c.key_length.ensures c.in_ok-key.ensures) (onwards _ _ c.in_ok-name.ensures refl))

pub returns-in_err-imports : goal.returns-in_err-imports
unfolding fields_at
returns-in_err-imports c =
    ends_there _ _ _ _ c.from_residual-in_err-imports.result c.from_residual-in_err-imports.ensures.1 c.in_err-imports.ensures
    (onwards _ _ c.in_ok-exports.ensures (onwards _ _ (subst (λ (n : ℕ). raw_at n c.front.new.bytes.now ≡ Ok (c.in_ok-key.key.items, c.raw.new.bytes.now)) c.key_length.ensures c.in_ok-key.ensures) (onwards _ _ c.in_ok-name.ensures refl)))

pub returns-in_err-procedures : goal.returns-in_err-procedures
unfolding fields_at
returns-in_err-procedures c =
    ends_there _ _ _ _ c.from_residual-in_err-procedures.result c.from_residual-in_err-procedures.ensures.1 c.in_err-procedures.ensures
    (onwards _ _ c.in_ok-imports.ensures (onwards _ _ c.in_ok-exports.ensures (onwards _ _ (subst (λ (n : ℕ). raw_at n c.front.new.bytes.now ≡ Ok (c.in_ok-key.key.items, c.raw.new.bytes.now)) c.key_length.ensures c.in_ok-key.ensures) (onwards _ _ c.in_ok-name.ensures refl))))

pub returns : goal.returns
unfolding fields_at
returns c =
    onwards _ _ c.in_ok-procedures.ensures (onwards _ _ c.in_ok-imports.ensures (onwards _ _ c.in_ok-exports.ensures (onwards _ _ (subst (λ (n : ℕ). raw_at n c.front.new.bytes.now ≡ Ok (c.in_ok-key.key.items, c.raw.new.bytes.now)) c.key_length.ensures c.in_ok-key.ensures) (onwards _ _ c.in_ok-name.ensures refl))))
    ∙ ap (λ (exports : List Export). Ok (
      record {
        version = c.args.version;
        name = c.in_ok-name.name.items;
        key = c.in_ok-key.key.items;
        cells = c.in_ok-name.cells;
        own_cells = c.in_ok-name.own_cells;
        exports = exports;
        imports = map keyed_of c.in_ok-imports.imports.items;
        procedures = map procedure_of c.in_ok-procedures.procedures.items;
      },
      c.procedures.new.bytes.now,
    )) (sym c.into_vec.ensures)
