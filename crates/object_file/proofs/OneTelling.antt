-- Bytes are one object at most, or have one first broken place.
use Rattle.std.proofs.Common.{◌≡◌, ℕ, suc, ◌-◌, ◌^◌, ◌<◌, ◌≤◌, List, [], ◌∷◌, ◌++◌, length, drop, Option, Some, None, Result, Ok, Err, refl, sym, ap, subst, ◌∙◌, append_assoc, arith, inl, inr}
use Rattle.std.specs.List.{AllByRecursion, flat_map}
use Rattle.std.proofs.lemmas.List.{append-nil, length-append}
use Rattle.code_form.specs.declared.instr.Instr.{Instr}
use Rattle.code_form.specs.Instructions.{IsInstr}
use Rattle.code_form.specs.Bytes.{spelling, code_bytes, BeginsWith}
use Rattle.code_form.specs.Modules.{Procedure, World}
use Rattle.code_form.specs.Valid.{Fault, in_code, of_high, fault_among, AreInstrs, StopsAt, IsValidCode, IsFault, no_instr, of_instrs}
use Rattle.code_form.proofs.Spellings.{one_instr, one_rest}
use Rattle.object_file.specs.Contents.{Contents, procedure_bytes, object_bytes, head_bytes, world_of, u32, with_length}
use Rattle.object_file.specs.Formats.{Format, done, exact, number, text, raw, Bad, Spells, IsBroken, IsBad}
use Rattle.object_file.specs.ObjectFormat.{version_near, format_near}
use Rattle.object_file.specs.Validity.{IsObject, IsTold, of_fields, of_code, IsBadAt, HaveValidCode, HaveFault, bad_of}
use Rattle.object_file.specs.declared.fault.Stop.{Stop}
use Rattle.object_file.specs.declared.fault.Stop.TheVariants as stops
use Rattle.object_file.specs.declared.fault.ObjectFault.{ObjectFault}
use Rattle.object_file.specs.declared.fault.ObjectFault.TheVariants as object_faults
use Rattle.object_file.specs.Fields.{Fails}
use Rattle.object_file.specs.Reading.{whole_at}
use Rattle.object_file.specs.Telling.{TellsAll, TellsBytes}
use Rattle.object_file.proofs.Lengths.{procedure_length, body_length}
use Rattle.object_file.proofs.ObjectReads.{read_whole}
use Rattle.object_file.proofs.Meanings.{IsBytes, read_all, all_read, all_bad, MeansAll, means_all}
use Rattle.object_file.proofs.Spelled.{written}
use Rattle.object_file.specs.Links.{OutersBelow}
use Rattle.object_file.proofs.Outers.{outers_below}

-- ---- code is one list of instructions, and one rest

abbrev BeginsNone : List ℕ → Type 0
BeginsNone bytes = (i : Instr) (behind : List ℕ) → BeginsWith bytes i behind → ⊥

nil_begins_none : BeginsNone []
nil_begins_none i behind b = nil_cons (b.spelled) where
  nil_cons : {x : ℕ} {xs : List ℕ} → [] ≡ x ∷ xs → ⊥
  nil_cons e = absurd cc

record Same (is js : List Instr) (r s : List ℕ) : Type 0 where
  instrs : is ≡ js
  rest : r ≡ s

-- the bytes of an instruction, of others and a rest
first_of_more : (i : Instr) (is : List Instr) (r bytes : List ℕ) → IsInstr i → bytes ≡ code_bytes (i ∷ is) ++ r → BeginsWith bytes i (code_bytes is ++ r)
first_of_more i is r bytes h e = record { in_range = h; spelled = e ∙ append_assoc (spelling i) (code_bytes is) r }

agree : (is js : List Instr) (r s bytes : List ℕ) → AllByRecursion IsInstr is → AllByRecursion IsInstr js → BeginsNone r → BeginsNone s → bytes ≡ code_bytes is ++ r → bytes ≡ code_bytes js ++ s → Same is js r s
agree [] [] r s bytes hi hj nr ns e d = record { instrs = refl; rest = sym e ∙ d }
agree [] (j ∷ js) r s bytes hi hj nr ns e d = absurd (nr j (code_bytes js ++ s) (first_of_more j js s r hj.0 (sym e ∙ d)))
agree (i ∷ is) [] r s bytes hi hj nr ns e d = absurd (ns i (code_bytes is ++ r) (first_of_more i is r s hi.0 (sym d ∙ e)))
agree (i ∷ is) (j ∷ js) r s bytes hi hj nr ns e d =
    let a = first_of_more i is r bytes hi.0 e in
    let b = first_of_more j js s bytes hj.0 d in
    let head = one_instr bytes (code_bytes is ++ r) (code_bytes js ++ s) i j a b in
    let tail = one_rest bytes (code_bytes is ++ r) (code_bytes js ++ s) i j a b in
    let more = agree is js r s (code_bytes is ++ r) hi.1 hj.1 nr ns refl tail in
    record { instrs = ap (λ (x : Instr). x ∷ is) head ∙ ap (λ (xs : List Instr). j ∷ xs) more.instrs; rest = more.rest }

whole : (code : List ℕ) (is : List Instr) → AreInstrs code is → code ≡ code_bytes is ++ []
whole code is a = a.spelled ∙ sym (append-nil (code_bytes is))

same_instrs : (code : List ℕ) (is js : List Instr) → AreInstrs code is → AreInstrs code js → is ≡ js
same_instrs code is js a b = (agree is js [] [] code a.in_range b.in_range nil_begins_none nil_begins_none (whole code is a) (whole code js b)).instrs

no_stop : (code : List ℕ) (is : List Instr) (at : ℕ) → AreInstrs code is → StopsAt code at → ⊥
no_stop code is at a s =
    let h = agree is s.before [] s.rest code a.in_range s.in_range nil_begins_none s.none (whole code is a) s.spelled in
    let long = s.more in
    let n : length s.rest ≡ 0 = sym (ap length h.rest) in
    absurd (omega (arith, long, n))

one_stop : (code : List ℕ) (at at' : ℕ) → StopsAt code at → StopsAt code at' → at ≡ at'
one_stop code at at' s t =
    let h = agree s.before t.before s.rest t.rest code s.in_range t.in_range s.none t.none s.spelled t.spelled in
    s.place ∙ ap (λ (is : List Instr). length (code_bytes is)) h.instrs ∙ sym t.place

none_some : (o : Option Fault) (f : Fault) → o ≡ None → o ≡ Some f → ⊥
none_some o f e d = absurd cc

some_some : (o : Option Fault) (f f' : Fault) → o ≡ Some f → o ≡ Some f' → f ≡ f'
some_some o f f' e d = cc

-- ---- the code of a procedure is valid, or has one first fault

no_fault : (w : World) (k : ℕ) (p : Procedure) (f : Fault) → IsValidCode w k p → IsFault w k p f → ⊥
no_fault w k p f v (no_instr at s) = no_stop p.code v.is at v.instrs s
no_fault w k p f v (of_instrs is g a e) =
    none_some (fault_among w k p is) g (ap (fault_among w k p) (same_instrs p.code is v.is a v.instrs) ∙ v.no_fault) e

one_code_fault : (w : World) (k : ℕ) (p : Procedure) (f f' : Fault) → IsFault w k p f → IsFault w k p f' → f ≡ f'
one_code_fault w k p f f' (no_instr at s) (no_instr at' s') = ap (λ (n : ℕ). in_code n 5) (one_stop p.code at at' s s')
one_code_fault w k p f f' (no_instr at s) (of_instrs is g a e) = absurd (no_stop p.code is at a s)
one_code_fault w k p f f' (of_instrs is g a e) (no_instr at s) = absurd (no_stop p.code is at a s)
one_code_fault w k p f f' (of_instrs is g a e) (of_instrs is' g' a' e') =
    some_some (fault_among w k p is) g g' e (ap (fault_among w k p) (same_instrs p.code is is' a a') ∙ e')

no_faults : (w : World) (k : ℕ) (ps : List Procedure) (bad : Bad) → HaveValidCode w k ps → HaveFault w k ps bad → ⊥
no_faults w k [] bad v h = h
no_faults w k (p ∷ ps) bad v (inl h) = no_fault w k p h.0 v.0 h.1
no_faults w k (p ∷ ps) bad v (inr h) = no_faults w (suc k) ps bad v.1 h.1

one_of_faults : (w : World) (k : ℕ) (ps : List Procedure) (bad bad' : Bad) → HaveFault w k ps bad → HaveFault w k ps bad' → bad ≡ bad'
one_of_faults w k [] bad bad' h h' = absurd h
one_of_faults w k (p ∷ ps) bad bad' (inl h) (inl h') = h.2 ∙ ap (bad_of p ps) (one_code_fault w k p h.0 h'.0 h.1 h'.1) ∙ sym h'.2
one_of_faults w k (p ∷ ps) bad bad' (inl h) (inr h') = absurd (no_fault w k p h.0 h'.0 h.1)
one_of_faults w k (p ∷ ps) bad bad' (inr h) (inl h') = absurd (no_fault w k p h'.0 h.0 h'.1)
one_of_faults w k (p ∷ ps) bad bad' (inr h) (inr h') = one_of_faults w (suc k) ps bad bad' h.1 h'.1

-- ---- the same of bytes

ok_err : (r : Result Contents Bad) (o : Contents) (bad : Bad) → r ≡ Ok o → r ≡ Err bad → ⊥
ok_err r o bad e d = absurd cc

err_err : (r : Result Contents Bad) (bad bad' : Bad) → r ≡ Err bad → r ≡ Err bad' → bad ≡ bad'
err_err r bad bad' e d = cc

ok_ok : (r : Result Contents Bad) (o o' : Contents) → r ≡ Ok o → r ≡ Ok o' → o ≡ o'
ok_ok r o o' e d = cc

pub one_contents : (bytes : List ℕ) (o o' : Contents) → Spells (format_near bytes) bytes o [] → Spells (format_near bytes) bytes o' [] → o ≡ o'
one_contents bytes o o' s s' = ok_ok (read_all (format_near bytes) bytes) o o' (all_read (format_near bytes) bytes o s) (all_read (format_near bytes) bytes o' s')

not_bad : (bytes : List ℕ) (o : Contents) (bad : Bad) → Spells (format_near bytes) bytes o [] → IsBad (format_near bytes) bytes bad → ⊥
not_bad bytes o bad s b =
    ok_err (read_all (format_near bytes) bytes) o bad (all_read (format_near bytes) bytes o s) (all_bad (format_near bytes) bytes bad b)

pub nothing_told : (bytes : List ℕ) (o : Contents) (bad : Bad) → IsObject bytes o → IsTold bytes bad → ⊥
nothing_told bytes o bad h (of_fields b) = not_bad bytes o bad h.fields b
nothing_told bytes o bad h (of_code o' s f) =
    no_faults (world_of o) 0 o.procedures bad h.code (subst (λ (x : Contents). HaveFault (world_of x) 0 x.procedures bad) (one_contents bytes o' o s h.fields) f)

pub one_told : (bytes : List ℕ) (bad bad' : Bad) → IsTold bytes bad → IsTold bytes bad' → bad ≡ bad'
one_told bytes bad bad' (of_fields b) (of_fields b') = err_err (read_all (format_near bytes) bytes) bad bad' (all_bad (format_near bytes) bytes bad b) (all_bad (format_near bytes) bytes bad' b')
one_told bytes bad bad' (of_fields b) (of_code o s f) = absurd (not_bad bytes o bad s b)
one_told bytes bad bad' (of_code o s f) (of_fields b) = absurd (not_bad bytes o bad' s b)
one_told bytes bad bad' (of_code o s f) (of_code o' s' f') =
    one_of_faults (world_of o) 0 o.procedures bad bad' f (subst (λ (x : Contents). HaveFault (world_of x) 0 x.procedures bad') (one_contents bytes o' o s' s) f')

pub one_left : (bytes : List ℕ) (offset code offset' code' : ℕ) (h : IsBadAt bytes offset code) (h' : IsBadAt bytes offset' code') → ◌≡◌ {A = Bad} (record { left = h.left; code = code }) (record { left = h'.left; code = code' })
one_left bytes offset code offset' code' h h' = one_told bytes (record { left = h.left; code = code }) (record { left = h'.left; code = code' }) h.told h'.told

pub one_place : (bytes : List ℕ) (offset code offset' code' : ℕ) → IsBadAt bytes offset code → IsBadAt bytes offset' code' → offset ≡ offset'
one_place bytes offset code offset' code' h h' =
    let same : h.left ≡ h'.left = ap (λ (b : Bad). b.left) (one_left bytes offset code offset' code' h h') in
    omega (arith, h.place, h'.place, same)

pub one_code : (bytes : List ℕ) (offset code offset' code' : ℕ) → IsBadAt bytes offset code → IsBadAt bytes offset' code' → code ≡ code'
one_code bytes offset code offset' code' h h' = ap (λ (b : Bad). b.code) (one_left bytes offset code offset' code' h h')

pub fine : (bytes : List ℕ) (o : Contents) (offset code : ℕ) → IsObject bytes o → IsBadAt bytes offset code → ⊥
fine bytes o offset code h b = nothing_told bytes o (record { left = b.left; code = code }) h b.told

pub one_object : (bytes : List ℕ) (o o' : Contents) → IsObject bytes o → IsObject bytes o' → o ≡ o'
one_object bytes o o' h h' = one_contents bytes o o' h.fields h'.fields

-- ---- a place is within the bytes

broken_left : {A : Type 0} (f : Format A) (bytes : List ℕ) (bad : Bad) → IsBroken f bytes bad → bad.left ≤ length bytes
broken_left (done x) bytes bad h = absurd h
broken_left (exact e next) bytes bad (inl h) = let n = ap (λ (b : Bad). b.left) h.1 in omega (arith, n)
broken_left (exact e next) bytes bad (inr (inl h)) =
    let n = ap (λ (b : Bad). b.left) h.1.told in
    let l = ap length h.1.bytes_are in
    omega (arith, n, l, length-append h.1.same (h.1.found ∷ h.1.behind))
broken_left (exact e next) bytes bad (inr (inr h)) =
    let l = ap length h.1 in let r = broken_left next h.0 bad h.2 in omega (arith, l, r, length-append e h.0)
broken_left (number ok next) bytes bad (inl h) = let n = ap (λ (b : Bad). b.left) h.1 in omega (arith, n)
broken_left (number ok next) bytes bad (inr (inl h)) = let n = ap (λ (b : Bad). b.left) h.5 in omega (arith, n)
broken_left (number ok next) bytes bad (inr (inr h)) =
    let l = ap length h.3 in let r = broken_left (next h.0) h.1 bad h.5 in omega (arith, l, r, length-append (u32 h.0) h.1)
broken_left (text ok next) bytes bad (inl h) = let n = ap (λ (b : Bad). b.left) h.1 in omega (arith, n)
broken_left (text ok next) bytes bad (inr (inl h)) = let n = ap (λ (b : Bad). b.left) h.5 in omega (arith, n)
broken_left (text ok next) bytes bad (inr (inr (inl h))) = let n = ap (λ (b : Bad). b.left) h.5 in omega (arith, n)
broken_left (text ok next) bytes bad (inr (inr (inr h))) =
    let l = ap length h.3 in let r = broken_left (next h.0) h.1 bad h.5 in omega (arith, l, r, length-append (with_length h.0) h.1)
broken_left (raw n next) bytes bad (inl h) = let n = ap (λ (b : Bad). b.left) h.1 in omega (arith, n)
broken_left (raw n next) bytes bad (inr h) =
    let l = ap length h.3 in let r = broken_left (next h.0) h.1 bad h.4 in omega (arith, l, r, length-append h.0 h.1)

fault_left : (w : World) (k : ℕ) (ps : List Procedure) (bad : Bad) → HaveFault w k ps bad → bad.left ≤ length (flat_map procedure_bytes ps)
fault_left w k [] bad h = absurd h
fault_left w k (p ∷ ps) bad (inl h) =
    subst (λ (b : Bad). b.left ≤ length (flat_map procedure_bytes (p ∷ ps))) (sym h.2) (here h.0)
  where
    here : (f : Fault) → (bad_of p ps f).left ≤ length (flat_map procedure_bytes (p ∷ ps))
    here (in_code at c) = omega (arith, length-append (procedure_bytes p) (flat_map procedure_bytes ps), procedure_length p, body_length p)
    here of_high = omega (arith, length-append (procedure_bytes p) (flat_map procedure_bytes ps), procedure_length p)
fault_left w k (p ∷ ps) bad (inr h) =
    let r = fault_left w (suc k) ps bad h.1 in omega (arith, r, length-append (procedure_bytes p) (flat_map procedure_bytes ps))

-- the procedures are among the bytes
pub procedures_within : (bytes : List ℕ) (o : Contents) → Spells (format_near bytes) bytes o [] → length (flat_map procedure_bytes o.procedures) ≤ length bytes
procedures_within bytes o s =
    let e = ap length (written (version_near (drop 4 bytes)) bytes o [] s).spelled in
    omega (arith, e, length-append (object_bytes o) [], length-append (head_bytes o) (flat_map procedure_bytes o.procedures))

rest_within : {A : Type 0} (f : Format A) (bytes : List ℕ) (x : A) (rest : List ℕ) → Spells f bytes x rest → length rest ≤ length bytes
rest_within (done x) bytes y rest s = let e = ap length s.1 in omega (arith, e)
rest_within (exact e next) bytes y rest s = let l = ap length s.1 in let r = rest_within next s.0 y rest s.2 in omega (arith, l, r, length-append e s.0)
rest_within (number ok next) bytes y rest s = let l = ap length s.3 in let r = rest_within (next s.0) s.1 y rest s.5 in omega (arith, l, r, length-append (u32 s.0) s.1)
rest_within (text ok next) bytes y rest s = let l = ap length s.3 in let r = rest_within (next s.0) s.1 y rest s.5 in omega (arith, l, r, length-append (with_length s.0) s.1)
rest_within (raw n next) bytes y rest s = let l = ap length s.3 in let r = rest_within (next s.0) s.1 y rest s.4 in omega (arith, l, r, length-append s.0 s.1)

pub told_left : (bytes : List ℕ) (bad : Bad) → IsTold bytes bad → bad.left ≤ length bytes
told_left bytes bad (of_fields (inl h)) = broken_left (format_near bytes) bytes bad h
told_left bytes bad (of_fields (inr h)) =
    let n = ap (λ (b : Bad). b.left) h.4 in
    let l = rest_within (format_near bytes) bytes h.0 h.1 h.2 in omega (arith, n, l)
told_left bytes bad (of_code o s f) =
    let l = fault_left (world_of o) 0 o.procedures bad f in let m = procedures_within bytes o s in omega (arith, l, m)

-- ---- what the parts of reading tell of the bytes

pub fields_are : (bytes : List ℕ) (o : Contents) → IsBytes bytes → whole_at bytes ≡ Ok o → Spells (format_near bytes) bytes o []
fields_are bytes o fits e = subst (MeansAll (format_near bytes) bytes) (read_whole bytes fits ∙ e) (means_all (format_near bytes) bytes fits)

pub fields_told : {X : Type 0} (view : X → Contents) (bytes : List ℕ) (e : Stop) → IsBytes bytes → Fails e (whole_at bytes) → TellsBytes view bytes (Err e)
fields_told view bytes stops.Memory fits h = tt
fields_told view bytes (stops.Bad left code) fits h = of_fields (subst (MeansAll (format_near bytes) bytes) (read_whole bytes fits ∙ h) (means_all (format_near bytes) bytes fits))

pub code_told : {X : Type 0} (view : X → Contents) (bytes : List ℕ) (o : Contents) (e : Stop) → Spells (format_near bytes) bytes o [] → TellsAll (world_of o) 0 o.procedures (Err e) → TellsBytes view bytes (Err e)
code_told view bytes o stops.Memory s h = tt
code_told view bytes o (stops.Bad left code) s h = of_code o s h

pub outers : (bytes : List ℕ) (o : Contents) → Spells (format_near bytes) bytes o [] → OutersBelow (world_of o)
outers bytes o s = outers_below (world_of o) (written (version_near (drop 4 bytes)) bytes o [] s).outers

pub few_procedures : (bytes : List ℕ) (o : Contents) → Spells (format_near bytes) bytes o [] → length o.procedures < 2 ^ 32
few_procedures bytes o s = (written (version_near (drop 4 bytes)) bytes o [] s).short.procedures

-- what is read is valid
pub read_valid : (bytes : List ℕ) (o : Contents) → IsObject bytes o → IsObject (object_bytes o) o
read_valid bytes o h = subst (λ (b : List ℕ). IsObject b o) ((written (version_near (drop 4 bytes)) bytes o [] h.fields).spelled ∙ append-nil (object_bytes o)) h

same_bad : (o o' c c' : ℕ) → o ≡ o' → c ≡ c' → ◌≡◌ {A = ObjectFault} (object_faults.BadObject o c) (object_faults.BadObject o' c')
same_bad o o' c c' p q = rw (p, q) refl

-- the place that is told is the first broken one
pub only_bad : (bytes : List ℕ) (left code offset code' : ℕ) → IsTold bytes (record { left = left; code = code }) → IsBadAt bytes offset code' → object_faults.BadObject (length bytes - left) code ≡ object_faults.BadObject offset code'
only_bad bytes left code offset code' t b =
    let same : ◌≡◌ {A = Bad} (record { left = left; code = code }) (record { left = b.left; code = code' }) = one_told bytes (record { left = left; code = code }) (record { left = b.left; code = code' }) t b.told in
    let l : left ≡ b.left = ap (λ (x : Bad). x.left) same in
    same_bad (length bytes - left) offset code code' (omega (arith, l, b.place)) (ap (λ (x : Bad). x.code) same)
