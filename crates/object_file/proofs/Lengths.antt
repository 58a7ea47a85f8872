-- How many bytes procedures take.
use Rattle.std.proofs.Common.{◌≡◌, ℕ, suc, ◌+◌, ◌-◌, ◌<◌, List, ◌∷◌, length, ◌++◌, ◌∙◌, arith, refl, sym, ap, subst, map, drop, get_or, Result, Ok, Err, inl, inr}
use Rattle.std.specs.List.{flat_map}
use Rattle.std.proofs.lemmas.List.{length-append}
use Rattle.std.proofs.Math.Seq.{drop-cons}
use Rattle.code_form.specs.Modules.{Procedure, World}
use Rattle.code_form.specs.Valid.{in_code, of_high, IsValidCode}
use Rattle.m2_base.specs.declared.outputs.ProcCode.{ProcCode}
use Rattle.object_file.specs.declared.fault.Stop.{Stop}
use Rattle.object_file.specs.declared.fault.Stop.TheVariants as stops
use Rattle.object_file.specs.declared.fault.CodeFault.{CodeFault}
use Rattle.object_file.specs.declared.fault.CodeFault.TheVariants as faults
use Rattle.object_file.specs.Points.{Tells}
use Rattle.object_file.specs.Telling.{stop_of, TellsAll}
use Rattle.object_file.specs.Views.{procedure_of}
use Rattle.object_file.specs.Contents.{u32, with_length, frame_bytes, body_bytes, procedure_bytes}

four : (n : ℕ) → length (u32 n) ≡ 4
four n = refl

with_length-length : (bytes : List ℕ) → length (with_length bytes) ≡ 4 + length bytes
with_length-length bytes = length-append (u32 (length bytes)) bytes

frame_length : (p : Procedure) → length (frame_bytes p) ≡ 16
unfolding frame_bytes
frame_length p = refl

pub body_length : (p : Procedure) → length (body_bytes p) ≡ 12 + length p.bytes + length p.code
unfolding body_bytes
body_length p =
    length-append (u32 p.high ++ with_length p.bytes) (with_length p.code)
    ∙ omega (arith, length-append (u32 p.high) (with_length p.bytes), with_length-length p.bytes, with_length-length p.code)

pub procedure_length : (p : Procedure) → length (procedure_bytes p) ≡ 16 + length (body_bytes p)
procedure_length p = length-append (frame_bytes p) (body_bytes p) ∙ ap (λ (n : ℕ). n + length (body_bytes p)) (frame_length p)

-- the procedures from the i-th on
pub from : (ps : List ProcCode) (i : ℕ) (p : ProcCode) → i < length ps → p ≡ get_or ps i p → drop i ps ≡ p ∷ drop (i + 1) ps
from ps i p lt is =
    let one : i + 1 ≡ suc i = omega arith in
    drop-cons ps i p lt ∙ ap (λ (x : ProcCode). x ∷ drop (suc i) ps) (sym is) ∙ ap (λ (n : ℕ). p ∷ drop n ps) (sym one)

abbrev pub all_bytes : List ProcCode → List ℕ
all_bytes ps = flat_map procedure_bytes (map procedure_of ps)

pub behind_is : (ps : List ProcCode) (i : ℕ) (p : ProcCode) → i < length ps → p ≡ get_or ps i p → length (all_bytes (drop i ps)) ≡ length (procedure_bytes (procedure_of p)) + length (all_bytes (drop (i + 1) ps))
behind_is ps i p lt is = ap (λ (qs : List ProcCode). length (all_bytes qs)) (from ps i p lt is) ∙ length-append (procedure_bytes (procedure_of p)) (all_bytes (drop (i + 1) ps))

-- ---- what is told of procedures

tells_more : (w : World) (k : ℕ) (p : Procedure) (ps : List Procedure) (r : Result (Unit {0}) Stop) → IsValidCode w k p → TellsAll w (suc k) ps r → TellsAll w k (p ∷ ps) r
tells_more w k p ps (Ok u) v h = (v, h)
tells_more w k p ps (Err stops.Memory) v h = tt
tells_more w k p ps (Err (stops.Bad left code)) v h = inr (v, h)

tells_here : (w : World) (k : ℕ) (p : Procedure) (ps : List Procedure) (e : CodeFault) (behind : ℕ) → behind ≡ length (flat_map procedure_bytes ps) → Tells w k p (Err e) → TellsAll w k (p ∷ ps) (Err (stop_of e p behind))
tells_here w k p ps faults.Memory behind is h = tt
tells_here w k p ps (faults.InCode at code) behind is h = inl (in_code at code, h, ap (λ (n : ℕ). record { left = length p.code - at + n; code = code }) is)
tells_here w k p ps faults.OfHigh behind is h = inl (of_high, h, ap (λ (n : ℕ). record { left = length (body_bytes p) + n; code = 8 }) is)

pub tells_on : (w : World) (ps : List ProcCode) (i : ℕ) (p : ProcCode) (r : Result (Unit {0}) Stop) → i < length ps → p ≡ get_or ps i p → IsValidCode w i (procedure_of p)
    → TellsAll w (i + 1) (map procedure_of (drop (i + 1) ps)) r → TellsAll w i (map procedure_of (drop i ps)) r
tells_on w ps i p r lt is v h =
    let one : i + 1 ≡ suc i = omega arith in
    subst (λ (qs : List ProcCode). TellsAll w i (map procedure_of qs) r) (sym (from ps i p lt is))
    (tells_more w i (procedure_of p) (map procedure_of (drop (i + 1) ps)) r v (subst (λ (n : ℕ). TellsAll w n (map procedure_of (drop (i + 1) ps)) r) one h))

pub tells_at : (w : World) (ps : List ProcCode) (i : ℕ) (p : ProcCode) (e : CodeFault) (behind : ℕ) → i < length ps → p ≡ get_or ps i p → behind ≡ length (all_bytes (drop (i + 1) ps)) → Tells w i (procedure_of p) (Err e)
    → TellsAll w i (map procedure_of (drop i ps)) (Err (stop_of e (procedure_of p) behind))
tells_at w ps i p e behind lt is n h =
    subst (λ (qs : List ProcCode). TellsAll w i (map procedure_of qs) (Err (stop_of e (procedure_of p) behind))) (sym (from ps i p lt is))
    (tells_here w i (procedure_of p) (map procedure_of (drop (i + 1) ps)) e behind n h)
