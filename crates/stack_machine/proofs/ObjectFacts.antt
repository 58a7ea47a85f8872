-- What is known of the parts of a valid object.
use Rattle.std.proofs.Common.{◌≡◌, ◌≢◌, ℕ, zero, suc, ◌+◌, ◌-◌, ◌<◌, ◌≤◌, ◌^◌, ◌⊎◌, inl, inr, Bool, true, false, eqb, ltb, leb, eq-eqb, List, [], ◌∷◌, ◌++◌, length, drop, Some, refl, sym, ap, subst, ◌∙◌, arith}
use Rattle.std.specs.Prelude.{◌&&◌, ◌||◌, not, slice_get}
use Rattle.std.specs.List.{AllByRecursion, list_all}
use Rattle.std.proofs.lemmas.Bool.{cases_lt, eqb-true, ltb-true, leb-true}
use Rattle.std.proofs.lemmas.List.{length-append, append-nil}
use Rattle.code_form.specs.declared.instr.Instr.{Instr}
use Rattle.code_form.specs.Instructions.{IsInstr}
use Rattle.code_form.specs.Bytes.{spelling, code_bytes, BeginsWith}
use Rattle.code_form.specs.Modules.{Procedure, World}
use Rattle.code_form.specs.Valid.{AreInstrs, IsValidCode}
use Rattle.code_form.proofs.Spellings.{one_instr, one_rest}
use Rattle.object_file.specs.Contents.{Export, KeyedImport, Contents, world_of, object_bytes}
use Rattle.object_file.specs.Formats.{Format, done, exact, number, raw, text, ◌>>=◌, many, counted, Spells}
use Rattle.object_file.specs.ObjectFormat.{any, is_outer, is_params, is_result, is_locals, is_count, as_exported, export_format, import_format, procedure_format, fields_format, format_with, version_near}
use Rattle.object_file.specs.Validity.{IsObject, IsValid, HaveValidCode}
use Rattle.object_file.proofs.Outers.{smaller}
use Rattle.stack_machine.proofs.Flat.{get_front, get_back, get_within, one_is, nothing_at}
use Rattle.m2_base.specs.declared.limits.TheConstants.{MOST_CELLS}

-- ---- code is one list of instructions

agree : (is js : List Instr) (bytes : List ℕ) → AllByRecursion IsInstr is → AllByRecursion IsInstr js → bytes ≡ code_bytes is → bytes ≡ code_bytes js → is ≡ js
agree [] [] bytes a b e d = refl
agree [] (j ∷ js) bytes a b e d = absurd (let h : [] ≡ spelling j ++ code_bytes js = sym e ∙ d in cc)
agree (i ∷ is) [] bytes a b e d = absurd (let h : [] ≡ spelling i ++ code_bytes is = sym d ∙ e in cc)
agree (i ∷ is) (j ∷ js) bytes a b e d =
    let p : BeginsWith bytes i (code_bytes is) = record { in_range = a.0; spelled = e } in
    let q : BeginsWith bytes j (code_bytes js) = record { in_range = b.0; spelled = d } in
    let head = one_instr bytes (code_bytes is) (code_bytes js) i j p q in
    let tail = one_rest bytes (code_bytes is) (code_bytes js) i j p q in
    ap (λ (x : Instr). x ∷ is) head ∙ ap (λ (xs : List Instr). j ∷ xs) (agree is js (code_bytes is) a.1 b.1 refl tail)

pub same_instrs : (code : List ℕ) (is js : List Instr) → AreInstrs code is → AreInstrs code js → is ≡ js
same_instrs code is js a b = agree is js code a.in_range b.in_range a.spelled b.spelled

pub all_get : {A : Type 0} (P : A → Type 0) (xs : List A) (k : ℕ) (x : A) → AllByRecursion P xs → slice_get xs k ≡ Some x → P x
all_get P [] k x h is = absurd cc
all_get P (y ∷ ys) zero x h is = subst P (one_is y x is) h.0
all_get P (y ∷ ys) (suc k) x h is = all_get P ys k x h.1 is

pub valid_code : (w : World) (first k : ℕ) (ps : List Procedure) (p : Procedure) → HaveValidCode w first ps → slice_get ps k ≡ Some p → IsValidCode w (first + k) p
valid_code w first k [] p h is = absurd cc
valid_code w first zero (x ∷ ps) p h is = subst (λ (n : ℕ). IsValidCode w n p) (omega arith) (subst (IsValidCode w first) (one_is x p is) h.0)
valid_code w first (suc k) (x ∷ ps) p h is = subst (λ (n : ℕ). IsValidCode w n p) (omega arith) (valid_code w (suc first) k ps p h.1 is)

-- ---- the fields

pub both_true : (a b : Bool) → (a && b) ≡ true → (a ≡ true) × (b ≡ true)
both_true true b e = (refl, e)
both_true false b e = absurd cc

pub either_true : (a b : Bool) → (a || b) ≡ true → (a ≡ true) ⊎ (b ≡ true)
either_true true b e = inl refl
either_true false b e = inr e

pub list_all_get : {A : Type 0} (test : A → Bool) (xs : List A) (j : ℕ) (x : A) → list_all test xs ≡ true → slice_get xs j ≡ Some x → test x ≡ true
list_all_get test [] j x h is = absurd cc
list_all_get test (y ∷ ys) zero x h is = subst (λ z. test z ≡ true) (one_is y x is) (both_true (test y) (list_all test ys) h).0
list_all_get test (y ∷ ys) (suc j) x h is = list_all_get test ys j x (both_true (test y) (list_all test ys) h).1 is

-- what the fields of procedure k say
pub record Formed (exports : List Export) (k : ℕ) (p : Procedure) : Type 0 where
  pub outer : is_outer exports k p.outer ≡ true
  pub params : is_params exports k p.params ≡ true
  pub result : is_result exports k p.result ≡ true
  pub locals : is_locals p.params p.locals ≡ true
  pub high : p.high < 2 ^ 32
  pub code : length p.code < 2 ^ 32

abbrev AllFormed : List Export → List Procedure → Type 0
AllFormed es ps = (k : ℕ) (p : Procedure) → slice_get ps k ≡ Some p → Formed es k p

pub record Facts (o : Contents) : Type 0 where
  pub procedures : AllFormed o.exports o.procedures
  pub count : is_count o.exports (length o.procedures) ≡ true
  pub few : length o.procedures < 2 ^ 32

spells_then : {A B : Type 0} (f : Format A) (g : A → Format B) (bytes : List ℕ) (y : B) (rest : List ℕ) → Spells (f >>= g) bytes y rest → (x : A) × (mid : List ℕ) × Spells f bytes x mid × Spells (g x) mid y rest
unfolding ◌>>=◌
spells_then (done x) g bytes y rest s = (x, bytes, (refl, refl), s)
spells_then (exact e next) g bytes y rest s = let t = spells_then next g s.0 y rest s.2 in (t.0, t.1, (s.0, s.1, t.2), t.3)
spells_then (number ok next) g bytes y rest s = let t = spells_then (next s.0) g s.1 y rest s.5 in (t.0, t.1, (s.0, s.1, s.2, s.3, s.4, t.2), t.3)
spells_then (text ok next) g bytes y rest s = let t = spells_then (next s.0) g s.1 y rest s.5 in (t.0, t.1, (s.0, s.1, s.2, s.3, s.4, t.2), t.3)
spells_then (raw n next) g bytes y rest s = let t = spells_then (next s.0) g s.1 y rest s.4 in (t.0, t.1, (s.0, s.1, s.2, s.3, t.2), t.3)

formed_one : (es : List Export) (before : List Procedure) (bytes : List ℕ) (x : Procedure) (rest : List ℕ) → Spells (procedure_format es before) bytes x rest → Formed es (length before) x
unfolding procedure_format ◌>>=◌
formed_one es before bytes x rest s =
    let s1 = s.5 in
    let s2 = s1.5 in
    let s3 = s2.5 in
    let s4 = s3.5 in
    let s5 = s4.5 in
    let s6 = s5.5 in
    let d = s6.5 in
    subst (Formed es (length before)) d.0 (record { outer = s.4; params = s1.4; result = s2.4; locals = s3.4; high = s4.2; code = s6.2 })

formed_more : (es : List Export) (ps : List Procedure) (p : Procedure) → AllFormed es ps → Formed es (length ps) p → AllFormed es (ps ++ p ∷ [])
formed_more es ps p all one k x is = elim (cases_lt k (length ps)) [
  | inl lt ↦ all k x (sym (get_front ps (p ∷ []) k lt) ∙ is)
  | inr le ↦ (
      let there : slice_get (p ∷ []) (k - length ps) ≡ Some x = sym (get_back ps (p ∷ []) (k - length ps) k (omega (arith, le))) ∙ is in
      let in_one = get_within (p ∷ []) (k - length ps) x there in
      let at : k - length ps ≡ 0 = omega (arith, in_one) in
      let same : p ≡ x = one_is p x (sym (ap (slice_get (p ∷ [])) at) ∙ there) in
      subst (λ (n : ℕ). Formed es n x) (omega (arith, le, at)) (subst (Formed es (length ps)) same one))
]

record Many (es : List Export) (n : ℕ) (before all : List Procedure) : Type 0 where
  formed : AllFormed es all
  len : length all ≡ n + length before

formed_many : (es : List Export) (n : ℕ) (before : List Procedure) (bytes : List ℕ) (all : List Procedure) (rest : List ℕ) → Spells (many (procedure_format es) n before) bytes all rest → AllFormed es before → Many es n before all
unfolding many
formed_many es zero before bytes all rest s b = subst (Many es 0 before) s.0 (record { formed = b; len = omega arith })
formed_many es (suc n) before bytes all rest s b =
    let t = spells_then (procedure_format es before) (λ x. many (procedure_format es) n (before ++ x ∷ [])) bytes all rest s in
    let r = formed_many es n (before ++ t.0 ∷ []) t.1 all rest t.3 (formed_more es before t.0 b (formed_one es before bytes t.0 t.1 t.2)) in
    let len = r.len in
    record { formed = r.formed; len = omega (arith, len, length-append before (t.0 ∷ [])) }

facts_of : (version : ℕ) (bytes : List ℕ) (o : Contents) (rest : List ℕ) → Spells (format_with version) bytes o rest → Facts o
unfolding format_with fields_format ◌>>=◌
facts_of version bytes o rest s =
    let s1 = s.2 in
    let s2 = s1.2 in
    let s3 = s2.5 in
    let s4 = s3.5 in
    let k = s4.5 in
    let last : List Export → List KeyedImport → List Procedure → Format Contents =
    λ es is ps. done (record { version = version; name = s2.0; key = k.0; cells = s3.0; own_cells = s4.0; exports = es; imports = is; procedures = ps }) in
    let with_procedures : List Export → List KeyedImport → Format Contents = λ es is. counted (is_count es) (procedure_format es) >>= λ ps. last es is ps in
    let with_imports : List Export → Format Contents = λ es. counted any (import_format version) >>= λ is. with_procedures es is in
    let e = spells_then (counted any export_format) with_imports k.1 o rest k.4 in
    let i = spells_then (counted any (import_format version)) (with_procedures e.0) e.1 o rest e.3 in
    let p = spells_then (counted (is_count e.0) (procedure_format e.0)) (last e.0 i.0) i.1 o rest i.3 in
    let m = formed_many e.0 p.2.0 [] p.2.1 p.0 p.1 p.2.5 (λ k x is. absurd (nothing_at [] k x refl is)) in
    let n : length p.0 ≡ p.2.0 = (let l = m.len in omega (arith, l)) in
    subst Facts p.3.0 (record {
      procedures = m.formed;
      count = subst (λ (k : ℕ). is_count e.0 k ≡ true) (sym n) p.2.4;
      few = subst (λ (k : ℕ). k < 2 ^ 32) (sym n) p.2.2;
    })

pub facts : (o : Contents) → IsValid o → Facts o
facts o v = facts_of (version_near (drop 4 (object_bytes o))) (object_bytes o) o [] v.fields

-- ---- and what follows

pub outer_smaller : (o : Contents) (k : ℕ) (p : Procedure) → Facts o → slice_get o.procedures k ≡ Some p → p.outer ≢ 0 → p.outer < k
outer_smaller o k p f is some = smaller o.exports k p.outer (f.procedures k p is).outer some

pub params_within : (es : List Export) (k : ℕ) (p : Procedure) → Formed es k p → (p.params ≤ p.locals) × (p.locals ≤ MOST_CELLS)
params_within es k p f =
    let h = both_true (leb p.params p.locals) (leb p.locals MOST_CELLS) f.locals in
    (leb-true p.params p.locals h.0, leb-true p.locals MOST_CELLS h.1)

body_result : (b c : Bool) (n : ℕ) → ((b && eqb n 0) && c) ≡ true → n ≡ 0
body_result b c n e = eqb-true n 0 (both_true b (eqb n 0) (both_true (b && eqb n 0) c e).0).1

pub body_gives_none : (es : List Export) (p : Procedure) → Formed es 0 p → (p.outer ≡ 0) × (p.result ≡ 0)
body_gives_none es p f = (zero_of p.outer refl, body_result (leb p.result 1) (as_exported es 0 (λ e. eqb p.result e.2)) p.result f.result) where
  zero_of : (n : ℕ) → p.outer ≡ n → p.outer ≡ 0
  zero_of zero e = e
  zero_of (suc n) e = absurd (let lt = smaller es 0 p.outer f.outer (λ z. suc_zero n (sym e ∙ z)) in omega (arith, lt)) where
    suc_zero : (n : ℕ) → suc n ≡ 0 → ⊥
    suc_zero n e = omega (arith, e)

-- what holds of an export of procedure k
exported_get : (es : List Export) (k j : ℕ) (e : Export) (test : Export → Bool) → as_exported es k test ≡ true → slice_get es j ≡ Some e → e.0 ≡ k → test e ≡ true
unfolding as_exported
exported_get es k j e test h is at = chosen (eqb e.0 k) (test e) (list_all_get (λ x. not (eqb x.0 k) || test x) es j e h is) (eq-eqb e.0 k at) where
  chosen : (a b : Bool) → (not a || b) ≡ true → a ≡ true → b ≡ true
  chosen true b h e = h
  chosen false b h e = absurd cc

pub record AsExported (e : Export) (p : Procedure) : Type 0 where
  pub outer : p.outer ≡ 0
  pub params : p.params ≡ e.1
  pub result : p.result ≡ e.2

pub as_heading : (es : List Export) (k j : ℕ) (e : Export) (p : Procedure) → Formed es k p → slice_get es j ≡ Some e → e.0 ≡ k → AsExported e p
as_heading es k j e p f is at = record {
  outer = eqb-true p.outer 0 (exported_get es k j e (λ x. eqb p.outer 0) (both_true (ltb p.outer k || (eqb k 0 && eqb p.outer 0)) (as_exported es k (λ x. eqb p.outer 0)) f.outer).1 is at);
  params = eqb-true p.params e.1 (exported_get es k j e (λ x. eqb p.params x.1) (both_true (ltb 0 k || eqb p.params 0) (as_exported es k (λ x. eqb p.params x.1)) f.params).1 is at);
  result = eqb-true p.result e.2 (exported_get es k j e (λ x. eqb p.result x.2) (both_true (leb p.result 1 && (ltb 0 k || eqb p.result 0)) (as_exported es k (λ x. eqb p.result x.2)) f.result).1 is at);
}

pub export_within : (o : Contents) (j : ℕ) (e : Export) → Facts o → slice_get o.exports j ≡ Some e → e.0 < length o.procedures
unfolding is_count
export_within o j e f is =
    ltb-true e.0 (length o.procedures) (list_all_get (λ x. ltb x.0 (length o.procedures)) o.exports j e (both_true (leb 1 (length o.procedures)) (list_all (λ x. ltb x.0 (length o.procedures)) o.exports) f.count).1 is)

pub some_procedure : (o : Contents) → Facts o → 0 < length o.procedures
unfolding is_count
some_procedure o f = let h = leb-true 1 (length o.procedures) (both_true (leb 1 (length o.procedures)) (list_all (λ x. ltb x.0 (length o.procedures)) o.exports) f.count).0 in omega (arith, h)
