-- The code of an object's procedures is no longer than the object.
use Rattle.std.proofs.Common.{◌≡◌, ℕ, ◌+◌, ◌≤◌, List, [], ◌∷◌, ◌++◌, length, length-append, map, refl, sym, ◌∙◌, ap, arith}
use Rattle.std.specs.Prelude.{sum_by}
use Rattle.std.specs.List.{flat_map}
use Rattle.std.proofs.lemmas.List.Sums.{sum_by-cons}
use Rattle.m2_base.specs.declared.outputs.ProcCode.{ProcCode}
use Rattle.code_form.specs.Modules.{Procedure}
use Rattle.object_file.specs.Contents.{Contents, body_bytes, frame_bytes, head_bytes, object_bytes, procedure_bytes, u32, with_length}
use Rattle.object_file.specs.Views.{procedure_of}
use Rattle.module_outcome.specs.Counts.{code_of}

longer : (xs ys : List ℕ) → length ys ≤ length (xs ++ ys)
longer xs ys = omega (arith, length-append xs ys)

code_in_body : (p : Procedure) → length p.code ≤ length (body_bytes p)
unfolding body_bytes
code_in_body p =
    let a : length p.code ≤ length (with_length p.code) = longer (u32 (length p.code)) p.code in
    let b : length (with_length p.code) ≤ length (with_length p.bytes ++ with_length p.code) = longer (with_length p.bytes) (with_length p.code) in
    let c : length (with_length p.bytes ++ with_length p.code) ≤ length (body_bytes p) = longer (u32 p.high) (with_length p.bytes ++ with_length p.code) in
    omega (arith, a, b, c)

code_in_bytes : (ps : List Procedure) → sum_by (λ (p : Procedure). length p.code) ps ≤ length (flat_map procedure_bytes ps)
code_in_bytes [] = omega arith
code_in_bytes (p ∷ ps) =
    let s : sum_by (λ (q : Procedure). length q.code) (p ∷ ps) ≡ length p.code + sum_by (λ (q : Procedure). length q.code) ps = sum_by-cons (λ (q : Procedure). length q.code) p ps in
    let a = code_in_body p in
    let b : length (body_bytes p) ≤ length (procedure_bytes p) = longer (frame_bytes p) (body_bytes p) in
    let c : length (flat_map procedure_bytes (p ∷ ps)) ≡ length (procedure_bytes p) + length (flat_map procedure_bytes ps) = length-append (procedure_bytes p) (flat_map procedure_bytes ps) in
    let d = code_in_bytes ps in
    omega (arith, s, a, b, c, d)

code_in_object : (o : Contents) → code_of o ≤ length (object_bytes o)
code_in_object o =
    let a = code_in_bytes o.procedures in
    let b : length (flat_map procedure_bytes o.procedures) ≤ length (object_bytes o) = longer (head_bytes o) (flat_map procedure_bytes o.procedures) in
    omega (arith, a, b)

-- ** The code as the program holds it

held : (ps : List ProcCode) → sum_by (λ (p : ProcCode). length p.code.items) ps ≡ sum_by (λ (p : Procedure). length p.code) (map procedure_of ps)
held [] = refl
held (p ∷ ps) =
    sum_by-cons (λ (q : ProcCode). length q.code.items) p ps
    ∙ ap (λ n. length p.code.items + n) (held ps)
    ∙ sym (sum_by-cons (λ (q : Procedure). length q.code) (procedure_of p) (map procedure_of ps))

pub code_held : (o : Contents) (ps : List ProcCode) → map procedure_of ps ≡ o.procedures → sum_by (λ (p : ProcCode). length p.code.items) ps ≡ code_of o
code_held o ps e = held ps ∙ ap (sum_by (λ (p : Procedure). length p.code)) e

pub code_within : (o : Contents) (ps : List ProcCode) (bytes : List ℕ) → map procedure_of ps ≡ o.procedures → bytes ≡ object_bytes o → sum_by (λ (p : ProcCode). length p.code.items) ps ≤ length bytes
code_within o ps bytes e f = let a = code_held o ps e in let b = code_in_object o in let c = ap length f in omega (arith, a, b, c)
