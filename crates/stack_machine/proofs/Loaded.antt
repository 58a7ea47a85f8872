-- The code that is loaded from a program never gets stuck.
use Rattle.std.proofs.Common.{◌≡◌, ◌≢◌, ℕ, zero, suc, ◌+◌, ◌-◌, ◌<◌, ◌≤◌, ◌^◌, Bool, true, false, cond, eqb, ltb, leb, eq-eqb, List, [], ◌∷◌, ◌++◌, length, take, map, Option, Some, None, refl, sym, ap, ◌∙◌, subst, arith}
use Rattle.std.specs.Prelude.{int_le, ℤ, pos, negsuc, ◌+ℤ◌, ◌-ℤ◌, ◌≤ℤ◌, slice_get, unsigned_abs, ◌&&◌, ◌||◌, codes, unwrap_or}
use Rattle.std.specs.List.{AllByRecursion, slice_index_or}
use Rattle.std.specs.Str.{bytes_eq}
use Rattle.std.specs.Bool.{Decides}
use Rattle.std.proofs.lemmas.Bool.{leb-true, ltb-true, eqb-true, ne_eqb}
use Rattle.std.proofs.lemmas.Int.{ints}
use Rattle.std.proofs.lemmas.Slice.Eq.{bytes_eq-Decides}
use Rattle.code_form.specs.declared.instr.Instr.TheVariants as instr
use Rattle.code_form.specs.declared.instr.Instr.{Instr}
use Rattle.code_form.specs.Instructions.{IsInstr}
use Rattle.code_form.specs.Bytes.{size, code_bytes}
use Rattle.code_form.specs.Heights.{Callee, Callees, Step, step_among}
use Rattle.code_form.specs.Modules.{Import, Procedure, World}
use Rattle.code_form.specs.Valid as valid
use Rattle.code_form.specs.Valid.{Point, points, AreInstrs, callees_of, is_end, names_what_is_there, returns_all, target_passes, when_there, linked, outer_or, can_call, has_local, has_heading, same_height, height_behind, is_right, is_level, procedure_or, heading_or, headings_or}
use Rattle.object_file.specs.Contents.{Contents, Export, definitions_of, world_of}
use Rattle.object_file.specs.Programs.{IsProgram, IsMet, IsApart, apart, by, built_in, empty, in_out, AllDiffer, given_headings}
use Rattle.object_file.specs.Validity.{IsValid as IsValidObject}
use Rattle.stack_machine.specs.declared.op.Op.{Op}
use Rattle.stack_machine.specs.declared.op.Op.TheVariants as op
use Rattle.stack_machine.specs.declared.op.Service.{Service}
use Rattle.stack_machine.specs.declared.op.Service.TheVariants as service
use Rattle.stack_machine.specs.declared.code.Routine.{Routine}
use Rattle.stack_machine.specs.declared.code.Origin.{Origin}
use Rattle.stack_machine.specs.declared.owners.Owner.{Owner}
use Rattle.stack_machine.specs.declared.owners.Owner.TheVariants as owners
use Rattle.stack_machine.specs.InOut.{services, params_of}
use Rattle.stack_machine.specs.State.{State, Program}
use Rattle.stack_machine.specs.Ready.{IsSmall, Shapes, Leads, Passes, outer_of, with_outer, level_out, LinksTo, CanCall, CanReturn, HasLocal, HasOpenArray, IsFine, Owns, IsValid}
use Rattle.stack_machine.specs.Loading.{Spot, spots, instr_at, Block, AreBlocks, flat, Site, site_of, op_by, block_ops, block_origins, routine_of, routines_from, number_of, bodies_of, bodies_from, owner_named, owners_of, owner_of as owner_for, object_at, heading_of, exported_in, exported_or, is_in_out, data_at, frames_of, first_cell, imports_in_out, import_in_out, service_of, call_of as call_op, IsLoaded}
use Rattle.stack_machine.proofs.Flat.{get_within, get_there, one_is, nothing_at, total, IsEven, Found, found, put, flat_length, routine_at, FoundRoutine, routine_found, Belongs, belongs, BlockOf, block_of}
use Rattle.stack_machine.proofs.ObjectFacts.{same_instrs, all_get, valid_code, both_true, either_true, Formed, Facts, facts, outer_smaller, params_within, body_gives_none, AsExported, as_heading, export_within, some_procedure}
use Rattle.stack_machine.proofs.Judged.{instr_is, PointAt, point_at, points_length, spots_length, spot_at, spots_are, next_point, Judged, judged, same_pos, same_is, height_pos, abs_is, behind_is, point_highest, pos_le, Lands, lands}

-- ---- lists

pub get_map : {A B : Type 0} (f : A → B) (xs : List A) (n : ℕ) (x : A) → slice_get xs n ≡ Some x → slice_get (map f xs) n ≡ Some (f x)
get_map f [] n x e = absurd cc
get_map f (y ∷ ys) zero x e = ap (λ z. Some (f z)) (one_is y x e)
get_map f (y ∷ ys) (suc n) x e = get_map f ys n x e

map_length : {A B : Type 0} (f : A → B) (xs : List A) → length (map f xs) ≡ length xs
map_length f [] = refl
map_length f (x ∷ xs) = ap suc (map_length f xs)

pub get_unmap : {A B : Type 0} (f : A → B) (xs : List A) (n : ℕ) (y : B) → slice_get (map f xs) n ≡ Some y → (x : A) × (slice_get xs n ≡ Some x) × (f x ≡ y)
get_unmap f [] n y e = absurd cc
get_unmap f (x ∷ xs) zero y e = (x, refl, one_is (f x) y e)
get_unmap f (x ∷ xs) (suc n) y e = get_unmap f xs n y e

-- ---- shapes

abbrev pub callees_in : Block → Callees
callees_in b = callees_of (world_of b.object) b.procedure

abbrev pub points_in : Block → List Point
points_in b = points (callees_in b) 0 (pos 0) b.instrs

abbrev pub block_shapes : (start number : ℕ) → Block → Shapes
block_shapes start number b = map (λ p. (number, unsigned_abs p.height)) (points_in b)

pub shapes_even : IsEven block_shapes
shapes_even start number b = map_length (λ p. (number, unsigned_abs p.height)) (points_in b) ∙ points_length (callees_in b) 0 (pos 0) b.instrs

pub ops_even : (os : List Contents) → IsEven (block_ops os)
ops_even os start number b = map_length (λ s. op_by os (site_of os start b) s s.instr) (spots 0 b.instrs) ∙ spots_length 0 b.instrs

pub origins_even : IsEven block_origins
origins_even start number b = map_length (λ s. record { «module» = b.«module»; procedure = b.number; offset = s.at }) (spots 0 b.instrs) ∙ spots_length 0 b.instrs

-- ---- what operands name

there : {A : Type 0} (o : Option A) (test : A → Bool) → when_there o test ≡ true → (x : A) × (o ≡ Some x) × (test x ≡ true)
there None test e = absurd cc
there (Some x) test e = (x, refl, e)

outer_is : (n k : ℕ) → n ≢ 0 → cond (eqb n 0) None (Some k) ≡ Some k
outer_is n k some = ap (λ (b : Bool). cond b None (Some k)) (ne_eqb n 0 some)

-- a walk that goes on
goes_out : {A : Type 0} (n : ℕ) (o : Option A) (x : A) → cond (eqb n 0) None o ≡ Some x → (n ≢ 0) × (o ≡ Some x)
goes_out n o x e = chosen (eqb n 0) refl e where
  chosen : (t : Bool) → eqb n 0 ≡ t → cond t None o ≡ Some x → (n ≢ 0) × (o ≡ Some x)
  chosen true t e = absurd cc
  chosen false t e = (λ z. let h : false ≡ true = sym t ∙ eq-eqb n 0 z in absurd cc, e)

-- ---- objects by their names

name_differs : (n m : List ℕ) → n ≢ m → bytes_eq n m ≡ false
name_differs n m h = chosen (bytes_eq n m) (bytes_eq-Decides n m) where
  chosen : (b : Bool) → Decides b (n ≡ m) → b ≡ false
  chosen true d = absurd (h (d.0 refl))
  chosen false d = refl

name_same : (n m : List ℕ) → n ≡ m → bytes_eq n m ≡ true
name_same n m e = (bytes_eq-Decides n m).1 e

object_found : (os : List Contents) (i : ℕ) (o : Contents) (name : List ℕ) → AllDiffer (map (λ x. x.name) os) → slice_get os i ≡ Some o → o.name ≡ name → object_at os name ≡ i
object_found [] i o name d is same = absurd cc
object_found (x ∷ os) zero o name d is same = ap (λ (b : Bool). cond b 0 (suc (object_at os name))) (name_same x.name name (ap (λ (c : Contents). c.name) (one_is x o is) ∙ same))
object_found (x ∷ os) (suc i) o name d is same =
    ap (λ (b : Bool). cond b 0 (suc (object_at os name))) (name_differs x.name name (λ e. all_get (λ (m : List ℕ). x.name ≢ m) (map (λ y. y.name) os) i o.name d.0 (get_map (λ y. y.name) os i o is) (e ∙ sym same)))
    ∙ ap suc (object_found os i o name d.1 is same)

-- one of the headings that an object gives
heading_given : (es : List Export) (k : ℕ) (c : Callee) → slice_get (given_headings es) k ≡ Some c → (e : Export) × (slice_get es k ≡ Some e) × (e.1 ≡ c.params) × (e.2 ≡ c.result)
heading_given es k c is =
    let w = get_unmap (λ (e : Export). record { params = e.1; result = e.2 }) es k c is in
    (w.0, w.1, ap (λ (x : Callee). x.params) w.2, ap (λ (x : Callee). x.result) w.2)

-- InOut's procedures take what its headings say
service_takes : (k : ℕ) (c : Callee) → slice_get in_out.headings k ≡ Some c → (v : Service) × (slice_get services k ≡ Some v) × (params_of v ≡ c.params) × (c.result ≡ 0)
service_takes zero c e = let h = one_is (record { params = 1; result = 0 }) c e in (service.Read, refl, ap (λ (x : Callee). x.params) h, sym (ap (λ (x : Callee). x.result) h))
service_takes (suc zero) c e = let h = one_is (record { params = 1; result = 0 }) c e in (service.ReadInt, refl, ap (λ (x : Callee). x.params) h, sym (ap (λ (x : Callee). x.result) h))
service_takes (suc (suc zero)) c e = let h = one_is (record { params = 1; result = 0 }) c e in (service.ReadCard, refl, ap (λ (x : Callee). x.params) h, sym (ap (λ (x : Callee). x.result) h))
service_takes (suc (suc (suc zero))) c e = let h = one_is (record { params = 1; result = 0 }) c e in (service.Write, refl, ap (λ (x : Callee). x.params) h, sym (ap (λ (x : Callee). x.result) h))
service_takes (suc (suc (suc (suc zero)))) c e = let h = one_is (record { params = 2; result = 0 }) c e in (service.WriteString, refl, ap (λ (x : Callee). x.params) h, sym (ap (λ (x : Callee). x.result) h))
service_takes (suc (suc (suc (suc (suc zero))))) c e = let h = one_is (record { params = 0; result = 0 }) c e in (service.WriteLn, refl, ap (λ (x : Callee). x.params) h, sym (ap (λ (x : Callee). x.result) h))
service_takes (suc (suc (suc (suc (suc (suc zero)))))) c e = let h = one_is (record { params = 2; result = 0 }) c e in (service.WriteInt, refl, ap (λ (x : Callee). x.params) h, sym (ap (λ (x : Callee). x.result) h))
service_takes (suc (suc (suc (suc (suc (suc (suc zero))))))) c e = let h = one_is (record { params = 2; result = 0 }) c e in (service.WriteCard, refl, ap (λ (x : Callee). x.params) h, sym (ap (λ (x : Callee). x.result) h))
service_takes (suc (suc (suc (suc (suc (suc (suc (suc n)))))))) c e = absurd (nothing_at [] n c refl e)

-- some import is InOut's
import_there : (is : List Import) (i : ℕ) (x : Import) → slice_get is i ≡ Some x → is_in_out x.name ≡ true → import_in_out is ≡ true
import_there [] i x e t = absurd cc
import_there (y ∷ is) zero x e t = ap (λ (b : Bool). b || import_in_out is) (ap (λ (z : Import). is_in_out z.name) (one_is y x e) ∙ t)
import_there (y ∷ is) (suc i) x e t = or_true (is_in_out y.name) (import_in_out is) (import_there is i x e t) where
  or_true : (a b : Bool) → b ≡ true → (a || b) ≡ true
  or_true true b e = refl
  or_true false b e = e

in_out_there : (os : List Contents) (m i : ℕ) (o : Contents) (x : Import) → slice_get os m ≡ Some o → slice_get (definitions_of o) i ≡ Some x → is_in_out x.name ≡ true → imports_in_out os ≡ true
in_out_there [] m i o x is at t = absurd cc
in_out_there (y ∷ os) zero i o x is at t =
    ap (λ (b : Bool). b || imports_in_out os) (ap (λ (z : Contents). import_in_out (definitions_of z)) (one_is y o is) ∙ import_there (definitions_of o) i x at t)
in_out_there (y ∷ os) (suc m) i o x is at t = or_true (import_in_out (definitions_of y)) (imports_in_out os) (in_out_there os m i o x is at t) where
  or_true : (a b : Bool) → b ≡ true → (a || b) ≡ true
  or_true true b e = refl
  or_true false b e = e

body_there : (n : ℕ) (os : List Contents) (m k : ℕ) → slice_get (bodies_from n os) m ≡ Some k → (o : Contents) × (slice_get os m ≡ Some o) × (k ≡ slice_index_or (bodies_from n os) m 0)
body_there n [] m k e = absurd cc
body_there n (o ∷ os) zero k e = (o, refl, sym (one_is n k e))
body_there n (o ∷ os) (suc m) k e = body_there (n + length o.procedures) os m k e

module _ (os : List Contents) (c : Program) (program : IsProgram os) (loaded : IsLoaded os c) where
  abbrev pub shapes : Shapes
  shapes = flat block_shapes 0 0 loaded.blocks

  valid_at : (m : ℕ) (o : Contents) → slice_get os m ≡ Some o → IsValidObject o
  valid_at m o is = all_get IsValidObject os m o program.valid is

  facts_at : (m : ℕ) (o : Contents) → slice_get os m ≡ Some o → Facts o
  facts_at m o is = facts o (valid_at m o is)

  belongs_at : (q : ℕ) (b : Block) → slice_get loaded.blocks q ≡ Some b → Belongs os q b
  belongs_at q b is = belongs (data_at os) os loaded.blocks q b loaded.are is

  judged_at : (q : ℕ) (b : Block) → slice_get loaded.blocks q ≡ Some b → Judged (world_of b.object) b.number b.procedure b.instrs
  judged_at q b is =
      let w = belongs_at q b is in
      let v = valid_code (world_of b.object) 0 b.number b.object.procedures b.procedure (valid_at b.«module» b.object w.object).code w.procedure in
      let n : 0 + b.number ≡ b.number = omega arith in
      judged (world_of b.object) b.number b.procedure b.instrs
      (subst (λ (k : ℕ). valid.fault_among (world_of b.object) k b.procedure b.instrs ≡ None) n
      (ap (valid.fault_among (world_of b.object) (0 + b.number) b.procedure) (same_instrs b.procedure.code b.instrs v.is w.instrs v.instrs) ∙ v.no_fault))

  formed_at : (q : ℕ) (b : Block) → slice_get loaded.blocks q ≡ Some b → Formed b.object.exports b.number b.procedure
  formed_at q b is = let w = belongs_at q b is in (facts_at b.«module» b.object w.object).procedures b.number b.procedure w.procedure

  routine_is : (q : ℕ) (b : Block) → slice_get loaded.blocks q ≡ Some b → slice_get c.routines q ≡ Some (routine_of os (total (take q loaded.blocks)) b)
  routine_is q b is = ap (λ (rs : List Routine). slice_get rs q) loaded.routines ∙ routine_at os 0 loaded.blocks q b (total (take q loaded.blocks)) is (omega arith)

  leads : (q : ℕ) (b : Block) (first n k h : ℕ) (p : Point) → slice_get loaded.blocks q ≡ Some b → first ≡ total (take q loaded.blocks) → slice_get (points_in b) n ≡ Some p → k ≡ first + n → unsigned_abs p.height ≡ h → Leads shapes k q h
  leads q b first n k h p is fi at place height =
      put block_shapes shapes_even 0 0 loaded.blocks q b first q n k (q, h) is (omega (arith, fi)) (omega arith)
      (get_map (λ (x : Point). (q, unsigned_abs x.height)) (points_in b) n p at ∙ ap (λ (m : ℕ). Some (q, m)) height) (omega (arith, place, fi))

  -- a procedure of an object among all
  callee_is : (m k : ℕ) (o : Contents) (p : Procedure) → slice_get os m ≡ Some o → slice_get o.procedures k ≡ Some p
      → (r : Routine) × (slice_get c.routines (number_of os m k) ≡ Some r) × (r.params ≡ p.params) × (r.result ≡ p.result) × (r.outer ≡ cond (eqb p.outer 0) None (Some (number_of os m p.outer)))
  callee_is m k o p is at =
      let b = block_of (data_at os) os loaded.blocks m k o p loaded.are is at in (
        routine_of os (total (take (number_of os m k) loaded.blocks)) b.block,
        routine_is (number_of os m k) b.block b.is,
        ap (λ (x : Procedure). x.params) b.procedure_is,
        ap (λ (x : Procedure). x.result) b.procedure_is,
        ap (λ (x : Procedure). cond (eqb x.outer 0) None (Some (number_of os b.block.«module» x.outer))) b.procedure_is
            ∙ ap (λ (n : ℕ). cond (eqb p.outer 0) None (Some (number_of os n p.outer))) b.module_is,
      )

  -- static links lead where they lead in the object
  links_lead : (m : ℕ) (o : Contents) → slice_get os m ≡ Some o → (h k e : ℕ) → linked (world_of o) h k ≡ Some e → level_out c.routines h (number_of os m k) ≡ Some (number_of os m e)
  unfolding level_out linked
  links_lead m o is zero k e to = ap (λ (n : ℕ). Some (number_of os m n)) (one_is k e to)
  links_lead m o is (suc h) k e to = known (slice_get o.procedures k) refl (λ d x. links_lead m o is h d e x) where
    known : (x : Option Procedure) → slice_get o.procedures k ≡ x → ((d : ℕ) → linked (world_of o) h d ≡ Some e → level_out c.routines h (number_of os m d) ≡ Some (number_of os m e))
        → with_outer (outer_of (slice_get c.routines (number_of os m k))) (λ d. level_out c.routines h d) ≡ Some (number_of os m e)
    known None none rest = absurd (let h : None ≡ Some e = sym (ap (λ (x : Option Procedure). cond (eqb (outer_or 0 x) 0) None (linked (world_of o) h (outer_or 0 x))) none) ∙ to in cc)
    known (Some p) at rest =
        let r = callee_is m k o p is at in
        let inner = goes_out p.outer (linked (world_of o) h p.outer) e (sym (ap (λ (x : Option Procedure). cond (eqb (outer_or 0 x) 0) None (linked (world_of o) h (outer_or 0 x))) at) ∙ to) in
        ap (λ (x : Option Routine). with_outer (outer_of x) (λ d. level_out c.routines h d)) r.1
        ∙ ap (λ (x : Option ℕ). with_outer x (λ d. level_out c.routines h d)) (r.4 ∙ outer_is p.outer (number_of os m p.outer) inner.0)
        ∙ rest p.outer inner.1

  -- ---- one instruction

  record Fact (k q h first place : ℕ) (b : Block) (i : Instr) : Type 0 where
    is : slice_get loaded.blocks q ≡ Some b
    first_is : first ≡ total (take q loaded.blocks)
    names : names_what_is_there (world_of b.object) b.number b.procedure i ≡ true
    go : is_end i ≡ false → Passes shapes k q h (step_among (callees_in b) i).takes (step_among (callees_in b) i).leaves
    takes : (step_among (callees_in b) i).takes ≤ h
    jump : target_passes (points_in b) (record { at = place; height = pos h; step = step_among (callees_in b) i }) (λ x gone. same_height (pos h -ℤ pos gone) x.height) (valid.jump_of i) ≡ true
    returns : returns_all i (pos h) (step_among (callees_in b) i).takes ≡ true
    range : IsInstr i

  module _ (k q h first place : ℕ) (b : Block) where
    jump_to : (i : Instr) → Fact k q h first place b i → (to : ℤ) (gone left : ℕ) → left ≡ h - gone → gone ≤ h → valid.at_place (points_in b) to (λ x. same_height (pos h -ℤ pos gone) x.height) ≡ true → Leads shapes (first + instr_at (spots 0 b.instrs) to) q left
    jump_to i f to gone left left_is le passes =
        let l = lands (points_in b) to (λ x. same_height (pos h -ℤ pos gone) x.height) passes in
        let n : instr_at (map spot_at (points_in b)) to ≡ instr_at (spots 0 b.instrs) to = ap (λ (ss : List Spot). instr_at ss to) (spots_are (callees_in b) 0 (pos 0) b.instrs) in
        let height : pos h -ℤ pos gone ≡ l.point.height = same_is (pos h -ℤ pos gone) l.point.height l.passes in
        let size : unsigned_abs (pos h -ℤ pos gone) ≡ left = omega (arith, ints, left_is, le) in
        leads q b first (instr_at (spots 0 b.instrs) to) (first + instr_at (spots 0 b.instrs) to) left l.point f.is f.first_is (sym (ap (slice_get (points_in b)) n) ∙ l.is) refl (sym (ap unsigned_abs height) ∙ size)

    local_of : (l o : ℕ) → Fact k q h first place b (instr.Local l o) → HasLocal c.routines l q o
    local_of l o f =
        let w = belongs_at q b f.is in
        let x = there (linked (world_of b.object) l b.number) (λ e. when_there (slice_get b.object.procedures e) (λ p. ltb o p.locals)) f.names in
        record {
          small = f.range.1.0;
          owner = number_of os b.«module» x.0;
          linked = ap (level_out c.routines l) w.place ∙ links_lead b.«module» b.object w.object l b.number x.0 x.1;
        }

    copy_of : (o size : ℕ) → Fact k q h first place b (instr.OpenCopy o size) → HasOpenArray c.routines q o
    copy_of o size f = record { own = routine_of os (total (take q loaded.blocks)) b; is = routine_is q b f.is; within = ltb-true (o + 1) b.procedure.locals f.names }

    return_of : Fact k q h first place b instr.Return → CanReturn c.routines q h
    return_of f = record { own = routine_of os (total (take q loaded.blocks)) b; is = routine_is q b f.is; height = eqb-true h b.procedure.result f.returns }

    call_of : (x l : ℕ) → Fact k q h first place b (instr.Call x l) → CanCall c.routines shapes k q h (number_of os b.«module» x) l
    call_of x l f =
        let w = belongs_at q b f.is in
        let t = there (slice_get b.object.procedures x) (λ p. cond (eqb p.outer 0) (eqb l 0) (when_there (linked (world_of b.object) l b.number) (λ e. eqb e p.outer))) (both_true (leb 1 x) _ f.names).1 in
        let r = callee_is b.«module» x b.object t.0 w.object t.1 in
        let params : (procedure_or (slice_get b.object.procedures x)).params ≡ r.0.params = ap (λ (y : Option Procedure). (procedure_or y).params) t.1 ∙ sym r.2 in
        let result : (procedure_or (slice_get b.object.procedures x)).result ≡ r.0.result = ap (λ (y : Option Procedure). (procedure_or y).result) t.1 ∙ sym r.3 in
        let g = f.go refl in
        record {
          callee = r.0;
          is = r.1;
          params = subst (λ (n : ℕ). n ≤ h) params g.0;
          comes_back = subst (λ (n : ℕ). Leads shapes (k + 1) q (h - r.0.params + n)) result (subst (λ (n : ℕ). Leads shapes (k + 1) q (h - n + (procedure_or (slice_get b.object.procedures x)).result)) params g.1);
          linked = subst (LinksTo c.routines l q) (sym r.4) (links w t.0 (eqb t.0.outer 0) refl t.2);
        }
      where
        links : (w : Belongs os q b) (p : Procedure) (t : Bool) → eqb p.outer 0 ≡ t → cond t (eqb l 0) (when_there (linked (world_of b.object) l b.number) (λ e. eqb e p.outer)) ≡ true → LinksTo c.routines l q (cond t None (Some (number_of os b.«module» p.outer)))
        links w p true e h = tt
        links w p false e h =
            let y = there (linked (world_of b.object) l b.number) (λ e. eqb e p.outer) h in
            ap (level_out c.routines l) w.place ∙ links_lead b.«module» b.object w.object l b.number y.0 y.1 ∙ ap (λ (n : ℕ). Some (number_of os b.«module» n)) (eqb-true y.0 p.outer y.2)

    same_passes : (t u l m : ℕ) → t ≡ u → l ≡ m → Passes shapes k q h t l → Passes shapes k q h u m
    same_passes t u l m e d p = subst (λ (n : ℕ). Passes shapes k q h u n) d (subst (λ (n : ℕ). Passes shapes k q h n l) e p)

    -- a call of a heading, by what meets the import
    callx_by : (i x : ℕ) (note : Import) (heading : Callee) → slice_get loaded.blocks q ≡ Some b → slice_get (definitions_of b.object) i ≡ Some note → slice_get note.headings x ≡ Some heading → Passes shapes k q h heading.params heading.result → IsMet os note
        → IsFine c shapes k q h (call_op os (owner_for os note) x)
    callx_by i x note heading is at there_is passes (apart (built_in e)) =
        let name : is_in_out note.name ≡ true = name_same note.name (codes "InOut") (ap (λ (n : Import). n.name) e) in
        let v = service_takes x heading (sym (ap (λ (n : Import). slice_get n.headings x) e) ∙ there_is) in
        let w = belongs_at q b is in
        let has : c.has_in_out ≡ true = loaded.has_in_out ∙ in_out_there os b.«module» i b.object note w.object at name in
        let op_is : call_op os (owner_for os note) x ≡ op.CallService v.0 =
        ap (λ (t : Bool). call_op os (cond t owners.InOut (owners.Object (object_at os note.name))) x) name ∙ ap service_of v.1 in
        subst (λ (o : Op). IsFine c shapes k q h o) (sym op_is) (same_passes heading.params (params_of v.0) heading.result 0 (sym v.2) v.3 passes, has)
    callx_by i x note heading is at there_is passes (apart (empty ne cells none)) = absurd (nothing_at note.headings x heading none there_is)
    callx_by i x note heading is at there_is passes (by m o o_is ne name own given) =
        let other : is_in_out note.name ≡ false = name_differs note.name (codes "InOut") ne in
        let found_at : object_at os note.name ≡ m = object_found os m o note.name program.names_differ o_is name in
        let e = heading_given o.exports x heading (ap (λ (hs : List Callee). slice_get hs x) given ∙ there_is) in
        let fs = facts_at m o o_is in
        let p = get_there o.procedures e.0.0 (export_within o x e.0 fs e.1) in
        let heads = as_heading o.exports e.0.0 x e.0 p.0 (fs.procedures e.0.0 p.0 p.1) e.1 refl in
        let r = callee_is m e.0.0 o p.0 o_is p.1 in
        let op_is : call_op os (owner_for os note) x ≡ op.Call (number_of os m e.0.0) 0 =
        ap (λ (t : Bool). call_op os (cond t owners.InOut (owners.Object (object_at os note.name))) x) other
        ∙ ap (λ (n : ℕ). call_op os (owners.Object n) x) found_at
        ∙ ap (λ (y : Option Contents). op.Call (number_of os m (exported_in y x)) 0) o_is
        ∙ ap (λ (y : Option Export). op.Call (number_of os m (exported_or y)) 0) e.1 in
        let params : heading.params ≡ r.0.params = sym e.2 ∙ sym heads.params ∙ sym r.2 in
        let result : heading.result ≡ r.0.result = sym e.3 ∙ sym heads.result ∙ sym r.3 in
        let g = same_passes heading.params r.0.params heading.result r.0.result params result passes in
        let none : r.0.outer ≡ None = r.4 ∙ ap (λ (n : ℕ). cond (eqb n 0) None (Some (number_of os m n))) heads.outer in
        let can : CanCall c.routines shapes k q h (number_of os m e.0.0) 0 = record { callee = r.0; is = r.1; params = g.0; comes_back = g.1; linked = subst (LinksTo c.routines 0 q) (sym none) tt } in
        subst (λ (o : Op). IsFine c shapes k q h o) (sym op_is) can

    callx_of : (i x : ℕ) → Fact k q h first place b (instr.CallX i x) → IsFine c shapes k q h (call_op os (owner_named b.«module» (owners_of os b.object) i) x)
    callx_of zero x f = absurd (let n : false ≡ true = f.names in cc)
    callx_of (suc i) x f =
        let w = belongs_at q b f.is in
        let t = there (slice_get (definitions_of b.object) i) (λ y. ltb x (length y.headings)) f.names in
        let heading = get_there t.0.headings x (ltb-true x (length t.0.headings) t.2) in
        let met = all_get (IsMet os) (definitions_of b.object) i t.0 (all_get (λ (o : Contents). AllByRecursion (IsMet os) (definitions_of o)) os b.«module» b.object program.met w.object) t.1 in
        let owner : owner_named b.«module» (owners_of os b.object) (suc i) ≡ owner_for os t.0 = ap (λ (o : Option Owner). unwrap_or o owners.InOut) (get_map (λ y. owner_for os y) (definitions_of b.object) i t.0 t.1) in
        let callee : heading_or (slice_get (headings_or (slice_get (definitions_of b.object) i)) x) ≡ heading.0 = ap (λ (y : Option Import). heading_or (slice_get (headings_or y) x)) t.1 ∙ ap heading_or heading.1 in
        subst (λ (o : Owner). IsFine c shapes k q h (call_op os o x)) (sym owner)
        (callx_by i x t.0 heading.0 f.is t.1 heading.1 (same_passes _ heading.0.params _ heading.0.result (ap (λ (y : Callee). y.params) callee) (ap (λ (y : Callee). y.result) callee) (f.go refl)) met)

    fine : (i : Instr) → Fact k q h first place b i → IsFine c shapes k q h (op_by os (site_of os first b) (record { at = place; instr = i }) i)
    fine (instr.Push v) f = f.go refl
    fine (instr.Local l o) f = (f.go refl, local_of l o f)
    fine (instr.Global i o) f = f.go refl
    fine (instr.Str o) f = f.go refl
    fine instr.Load f = f.go refl
    fine instr.Store f = f.go refl
    fine (instr.Move n) f = f.go refl
    fine instr.Dup f = f.go refl
    fine (instr.Offset n) f = f.go refl
    fine (instr.Index low n size) f = f.go refl
    fine (instr.IndexOpen size) f = f.go refl
    fine (instr.Check low high) f = f.go refl
    fine instr.Nil f = f.go refl
    fine (instr.Add t) f = f.go refl
    fine (instr.Sub t) f = f.go refl
    fine (instr.Mul t) f = f.go refl
    fine (instr.Div t) f = f.go refl
    fine (instr.Mod t) f = f.go refl
    fine instr.Neg f = f.go refl
    fine instr.Abs f = f.go refl
    fine instr.Not f = f.go refl
    fine instr.Eq f = f.go refl
    fine instr.Ne f = f.go refl
    fine instr.Lt f = f.go refl
    fine instr.Le f = f.go refl
    fine instr.Gt f = f.go refl
    fine instr.Ge f = f.go refl
    fine instr.Union f = f.go refl
    fine instr.Diff f = f.go refl
    fine instr.Inter f = f.go refl
    fine instr.SymDiff f = f.go refl
    fine instr.Subset f = f.go refl
    fine instr.Superset f = f.go refl
    fine instr.In f = f.go refl
    fine instr.Bit f = f.go refl
    fine instr.Span f = f.go refl
    fine (instr.Jump j) f = jump_to _ f _ 0 h (omega arith) (omega arith) f.jump
    fine (instr.JumpFalse j) f = (f.go refl, jump_to _ f _ 1 (h - 1) refl f.takes f.jump)
    fine (instr.AndJump j) f = (f.go refl, jump_to _ f _ 0 h (omega arith) (omega arith) f.jump)
    fine (instr.OrJump j) f = (f.go refl, jump_to _ f _ 0 h (omega arith) (omega arith) f.jump)
    fine (instr.More v) f = f.go refl
    fine (instr.Call k' l) f = call_of k' l f
    fine (instr.CallX i k') f = callx_of i k' f
    fine (instr.CallVar n r) f = f.go refl
    fine (instr.Proc i k') f = f.go refl
    fine instr.Return f = return_of f
    fine (instr.Trap v) f = tt
    fine (instr.New n) f = (f.go refl, f.range.0.1)
    fine (instr.OpenCopy o size) f = (f.go refl, copy_of o size f)
    fine instr.Halt f = tt
    fine instr.Cap f = f.go refl

  -- what is known of each instruction
  or_right : (a b : Bool) → (a || b) ≡ true → b ≡ false → a ≡ true
  or_right true b e d = refl
  or_right false b e d = absurd (let x : false ≡ true = sym d ∙ e in cc)

  fact : (q : ℕ) (b : Block) (first n k h : ℕ) → slice_get loaded.blocks q ≡ Some b → first ≡ total (take q loaded.blocks) → k ≡ first + n → (pa : PointAt (callees_in b) 0 (pos 0) b.instrs n) → unsigned_abs pa.height ≡ h
      → Fact k q h first pa.place b pa.instr
  fact q b first n k h is fi place pa size_is =
      let w = belongs_at q b is in
      let j = judged_at q b is in
      let cs = callees_in b in
      let step = step_among cs pa.instr in
      let i_is : step.instr ≡ pa.instr = instr_is cs pa.instr in
      let pt : Point = record { at = pa.place; height = pa.height; step = step } in
      let right = j.right n pt pa.point_is in
      let level = j.level n pt pa.point_is in
      let r1 = both_true (names_what_is_there (world_of b.object) b.number b.procedure step.instr && target_passes (points_in b) pt (λ x gone. true) (valid.jump_of step.instr)) _ right in
      let r2 = both_true (names_what_is_there (world_of b.object) b.number b.procedure step.instr) _ r1.0 in
      let l1 = both_true (int_le (pos step.takes) pa.height && target_passes (points_in b) pt (λ x gone. same_height (pa.height -ℤ pos gone) x.height) (valid.jump_of step.instr)) _ level in
      let l2 = both_true (int_le (pos step.takes) pa.height) _ l1.0 in
      let hp = height_pos step.takes pa.height l2.0 in
      let height : pa.height ≡ pos h = hp.1 ∙ ap pos (sym (ap unsigned_abs hp.1) ∙ size_is) in
      let le : step.takes ≤ h = subst (λ (m : ℕ). step.takes ≤ m) (sym (ap unsigned_abs hp.1) ∙ size_is) hp.2 in
      let code : length b.procedure.code ≡ length (code_bytes b.instrs) = ap length w.instrs.spelled in
      let passes : is_end pa.instr ≡ false → Leads shapes (k + 1) q (h - step.takes + step.leaves) = λ no_end.
      (let lt = ltb-true (pa.place + size step.instr) (length b.procedure.code) (or_right (ltb (pa.place + size step.instr) (length b.procedure.code)) (is_end step.instr) r1.1 (ap is_end i_is ∙ no_end)) in
      let next = next_point cs 0 (pos 0) b.instrs n pt pa.point_is (omega (arith, lt, code)) in
      leads q b first (suc n) (k + 1) (h - step.takes + step.leaves) next.0 is fi next.1 (omega (arith, place))
      (ap unsigned_abs (next.2 ∙ ap (λ (z : ℤ). z -ℤ pos step.takes +ℤ pos step.leaves) height) ∙ abs_is h step.takes step.leaves le)) in
      record {
        is = is;
        first_is = fi;
        names = subst (λ (x : Instr). names_what_is_there (world_of b.object) b.number b.procedure x ≡ true) i_is r2.0;
        go = λ no_end. (le, passes no_end);
        takes = le;
        jump = subst (λ (x : Instr). target_passes (points_in b) (record { at = pa.place; height = pos h; step = step }) (λ y gone. same_height (pos h -ℤ pos gone) y.height) (valid.jump_of x) ≡ true) i_is
            (subst (λ (z : ℤ). target_passes (points_in b) (record { at = pa.place; height = z; step = step }) (λ y gone. same_height (z -ℤ pos gone) y.height) (valid.jump_of step.instr) ≡ true) height l2.1);
        returns = subst (λ (x : Instr). returns_all x (pos h) step.takes ≡ true) i_is (subst (λ (z : ℤ). returns_all step.instr z step.takes ≡ true) height l1.1);
        range = all_get IsInstr b.instrs n pa.instr w.instrs.in_range pa.instr_is;
      }

  each_is : (k p h : ℕ) (o : Op) → slice_get c.ops k ≡ Some o → Leads shapes k p h → IsFine c shapes k p h o
  each_is k p h o e lead =
      let r = found (block_ops os) block_shapes (ops_even os) shapes_even 0 0 loaded.blocks k o (p, h) (sym (ap (λ (xs : List Op). slice_get xs k) loaded.ops) ∙ e) lead in
      let b = r.block in
      let within = get_within (block_ops os r.first (0 + r.j) b) r.at o r.here in
      let even = ops_even os r.first (0 + r.j) b in
      let pa = point_at (callees_in b) 0 (pos 0) b.instrs r.at (omega (arith, within, even)) in
      let spot : Spot = record { at = pa.place; instr = pa.instr } in
      let op_is : op_by os (site_of os r.first b) spot pa.instr ≡ o =
      one_is _ o (sym (get_map (λ s. op_by os (site_of os r.first b) s s.instr) (spots 0 b.instrs) r.at spot pa.spot_is) ∙ r.here) in
      let shape : ◌≡◌ {A = ℕ × ℕ} (0 + r.j, unsigned_abs pa.height) (p, h) =
      one_is _ (p, h) (sym (get_map (λ x. (0 + r.j, unsigned_abs x.height)) (points_in b) r.at _ pa.point_is) ∙ r.there) in
      let p_is : 0 + r.j ≡ p = ap (λ (x : ℕ × ℕ). x.0) shape in
      let fi = r.first_is in
      let pl = r.place in
      let f = fact r.j b r.first r.at k h r.is (omega (arith, fi)) (omega (arith, fi, pl)) pa (ap (λ (x : ℕ × ℕ). x.1) shape) in
      subst (λ (q : ℕ). IsFine c shapes k q h o) (omega (arith, p_is)) (subst (λ (x : Op). IsFine c shapes k r.j h x) op_is (fine k r.j h r.first pa.place b pa.instr f))

  owner_is : (k p h : ℕ) → Leads shapes k p h → Owns c.routines p h
  owner_is k p h lead =
      let r = found block_shapes block_shapes shapes_even shapes_even 0 0 loaded.blocks k (p, h) (p, h) lead lead in
      let b = r.block in
      let within = get_within (block_shapes r.first (0 + r.j) b) r.at (p, h) r.here in
      let even = shapes_even r.first (0 + r.j) b in
      let pa = point_at (callees_in b) 0 (pos 0) b.instrs r.at (omega (arith, within, even)) in
      let shape : ◌≡◌ {A = ℕ × ℕ} (0 + r.j, unsigned_abs pa.height) (p, h) =
      one_is _ (p, h) (sym (get_map (λ x. (0 + r.j, unsigned_abs x.height)) (points_in b) r.at _ pa.point_is) ∙ r.there) in
      let p_is : 0 + r.j ≡ p = ap (λ (x : ℕ × ℕ). x.0) shape in
      let fi = r.first_is in
      let pl = r.place in
      let f = fact r.j b r.first r.at k h r.is (omega (arith, fi)) (omega (arith, fi, pl)) pa (ap (λ (x : ℕ × ℕ). x.1) shape) in
      let j = judged_at r.j b r.is in
      let step = step_among (callees_in b) pa.instr in
      let pt : Point = record { at = pa.place; height = pa.height; step = step } in
      let top = point_highest (callees_in b) 0 (pos 0) b.instrs r.at pt (pos 0) (omega (arith, ints)) pa.point_is in
      let top_is = same_pos (valid.highest (pos 0) (points_in b)) b.procedure.high j.high in
      let hp = height_pos step.takes pa.height (both_true (int_le (pos step.takes) pa.height) _ (both_true (int_le (pos step.takes) pa.height && target_passes (points_in b) pt (λ x gone. same_height (pa.height -ℤ pos gone) x.height) (valid.jump_of step.instr)) _ (j.level r.at pt pa.point_is)).0).0 in
      let size : hp.0 ≡ h = sym (ap unsigned_abs hp.1) ∙ ap (λ (x : ℕ × ℕ). x.1) shape in
      let high : h ≤ b.procedure.high = subst (λ (m : ℕ). m ≤ b.procedure.high) size (pos_le hp.0 b.procedure.high (subst (λ (z : ℤ). z ≤ℤ pos b.procedure.high) hp.1 (subst (λ (z : ℤ). pa.height ≤ℤ z) top_is top))) in
      record { own = routine_of os (total (take r.j loaded.blocks)) b; is = subst (λ (q : ℕ). slice_get c.routines q ≡ Some (routine_of os (total (take r.j loaded.blocks)) b)) (omega (arith, p_is)) (routine_is r.j b r.is); high = high }

  found_routine : (q : ℕ) (r : Routine) → slice_get c.routines q ≡ Some r → FoundRoutine os 0 loaded.blocks q r
  found_routine q r is = routine_found os 0 loaded.blocks q r (sym (ap (λ (rs : List Routine). slice_get rs q) loaded.routines) ∙ is)

  small_is : (q : ℕ) (r : Routine) → slice_get c.routines q ≡ Some r → IsSmall r
  small_is q r is =
      let w = found_routine q r is in
      let f = formed_at q w.block w.is in
      let p = params_within w.block.object.exports w.block.number w.block.procedure f in
      let locals = p.1 in
      subst IsSmall w.routine_is (record { params = p.0; locals = omega (arith, locals); high = f.high })

  first_point : (cs : Callees) (at : ℕ) (z : ℤ) (is : List Instr) → 0 < length is → (p : Point) × (slice_get (points cs at z is) 0 ≡ Some p) × (p.height ≡ z)
  first_point cs at z [] lt = absurd (omega arith)
  first_point cs at z (i ∷ is) lt = (_, refl, refl)

  enters_is : (q : ℕ) (r : Routine) → slice_get c.routines q ≡ Some r → Leads shapes r.entry q 0
  enters_is q r is =
      let w = found_routine q r is in
      let j = judged_at q w.block w.is in
      let p = first_point (callees_in w.block) 0 (pos 0) w.block.instrs j.some in
      let fi = w.first_is in
      subst (λ (x : Routine). Leads shapes x.entry q 0) w.routine_is (leads q w.block w.first 0 w.first 0 p.0 w.is (omega (arith, fi)) p.1 (omega arith) (ap unsigned_abs p.2))

  bodies_is : (m k : ℕ) → slice_get c.bodies m ≡ Some k → (r : Routine) × (slice_get c.routines k ≡ Some r) × (r.outer ≡ None) × (r.result ≡ 0)
  bodies_is m k is =
      let t = body_there 0 os m k (sym (ap (λ (xs : List ℕ). slice_get xs m) loaded.bodies) ∙ is) in
      let fs = facts_at m t.0 t.1 in
      let p = get_there t.0.procedures 0 (some_procedure t.0 fs) in
      let none = body_gives_none t.0.exports p.0 (fs.procedures 0 p.0 p.1) in
      let r = callee_is m 0 t.0 p.0 t.1 p.1 in
      let n : number_of os m 0 ≡ k = (let e = t.2 in omega (arith, e)) in
      (r.0, subst (λ (x : ℕ). slice_get c.routines x ≡ Some r.0) n r.1, r.4 ∙ ap (λ (x : ℕ). cond (eqb x 0) None (Some (number_of os m x))) none.0, r.3 ∙ none.1)

  done_is : c.has_in_out ≡ true → 1 < c.frames_at
  done_is e =
      let t : imports_in_out os ≡ true = sym loaded.has_in_out ∙ e in
      let two : first_cell os ≡ 2 = ap (λ (b : Bool). cond b 2 1) t in
      let at = loaded.frames_at in
      omega (arith, two, at)

  pub is_valid : length c.ops < 2 ^ 62 → IsValid c shapes
  is_valid short = record {
    long = flat_length block_shapes shapes_even 0 0 loaded.blocks ∙ sym (flat_length (block_ops os) (ops_even os) 0 0 loaded.blocks) ∙ sym (ap length loaded.ops);
    short = short;
    origins = ap length loaded.origins ∙ flat_length block_origins origins_even 0 0 loaded.blocks ∙ sym (flat_length (block_ops os) (ops_even os) 0 0 loaded.blocks) ∙ sym (ap length loaded.ops);
    small = small_is;
    enters = enters_is;
    bodies = bodies_is;
    done = done_is;
    owner = owner_is;
    each = λ k p h o e lead. each_is k p h o e lead;
  }

pub code_is_valid : (os : List Contents) (c : Program) → IsProgram os → IsLoaded os c → length c.ops < 2 ^ 62 → (s : Shapes) × IsValid c s
code_is_valid os c program loaded short = (shapes os c program loaded, is_valid os c program loaded short)
