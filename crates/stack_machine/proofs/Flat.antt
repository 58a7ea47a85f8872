-- Lists that blocks give one after another, and the blocks themselves.
use Rattle.std.proofs.Common.{◌≡◌, ℕ, zero, suc, ◌+◌, ◌-◌, ◌<◌, ◌≤◌, ◌⊎◌, inl, inr, List, [], ◌∷◌, ◌++◌, length, take, Option, Some, None, refl, sym, ap, subst, ◌∙◌, arith}
use Rattle.std.specs.Prelude.{slice_get}
use Rattle.std.specs.List.{slice_index_or}
use Rattle.std.proofs.lemmas.List.{length-append}
use Rattle.std.proofs.lemmas.Bool.{cases_lt}
use Rattle.code_form.specs.Modules.{Procedure}
use Rattle.code_form.specs.Valid.{AreInstrs}
use Rattle.object_file.specs.Contents.{Contents}
use Rattle.stack_machine.specs.declared.code.Routine.{Routine}
use Rattle.stack_machine.specs.Loading.{Block, IsBlock, AreBlocksOf, AreBlocks, flat, routine_of, routines_from, bodies_from, number_of, data_in}

pub get_front : {A : Type 0} (xs ys : List A) (k : ℕ) → k < length xs → slice_get (xs ++ ys) k ≡ slice_get xs k
get_front [] ys k lt = absurd (omega arith)
get_front (x ∷ xs) ys zero lt = refl
get_front (x ∷ xs) ys (suc k) lt = get_front xs ys k (omega arith)

pub get_back : {A : Type 0} (xs ys : List A) (k j : ℕ) → j ≡ length xs + k → slice_get (xs ++ ys) j ≡ slice_get ys k
get_back [] ys k j e = ap (slice_get ys) (e ∙ omega arith)
get_back (x ∷ xs) ys k zero e = absurd (omega arith)
get_back (x ∷ xs) ys k (suc j) e = get_back xs ys k j (omega (arith, e))

pub get_within : {A : Type 0} (xs : List A) (k : ℕ) (x : A) → slice_get xs k ≡ Some x → k < length xs
get_within [] k x e = absurd cc
get_within (y ∷ ys) zero x e = omega arith
get_within (y ∷ ys) (suc k) x e = let h = get_within ys k x e in omega (arith, h)

pub get_there : {A : Type 0} (xs : List A) (k : ℕ) → k < length xs → (x : A) × (slice_get xs k ≡ Some x)
get_there [] k lt = absurd (omega arith)
get_there (x ∷ xs) zero lt = (x, refl)
get_there (x ∷ xs) (suc k) lt = get_there xs k (omega arith)

pub one_is : {A : Type 0} (x y : A) → Some x ≡ Some y → x ≡ y
one_is x y e = cc

pub nothing_at : {A : Type 0} (xs : List A) (k : ℕ) (x : A) → xs ≡ [] → slice_get xs k ≡ Some x → ⊥
nothing_at [] k x e is = cc
nothing_at (y ∷ ys) k x e is = absurd cc

-- how many places blocks have
abbrev pub total : List Block → ℕ
total [] = 0
total (b ∷ bs) = length b.instrs + total bs

-- each block gives something for each of its instructions
abbrev pub IsEven : {A : Type 0} → ((start number : ℕ) → Block → List A) → Type 0
IsEven f = (start number : ℕ) (b : Block) → length (f start number b) ≡ length b.instrs

pub record Found {A B : Type 0} (f : (start number : ℕ) → Block → List A) (g : (start number : ℕ) → Block → List B) (start number : ℕ) (bs : List Block) (k : ℕ) (y : A) (z : B) : Type 0 where
  pub j : ℕ
  pub block : Block
  pub is : slice_get bs j ≡ Some block
  pub first : ℕ
  pub first_is : first ≡ start + total (take j bs)
  pub at : ℕ
  pub place : k ≡ total (take j bs) + at
  pub here : slice_get (f first (number + j) block) at ≡ Some y
  pub there : slice_get (g first (number + j) block) at ≡ Some z

pub found : {A B : Type 0} (f : (start number : ℕ) → Block → List A) (g : (start number : ℕ) → Block → List B) → IsEven f → IsEven g → (start number : ℕ) (bs : List Block) (k : ℕ) (y : A) (z : B)
    → slice_get (flat f start number bs) k ≡ Some y → slice_get (flat g start number bs) k ≡ Some z → Found f g start number bs k y z
found f g ef eg start number [] k y z e h = absurd cc
found {A = A} {B = B} f g ef eg start number (b ∷ bs) k y z e h = elim (cases_lt k (length b.instrs)) [
  | inl lt ↦ (let n : number ≡ number + 0 = omega arith in record {
    j = 0;
    block = b;
    is = refl;
    first = start;
    first_is = omega arith;
    at = k;
    place = omega arith;
    here = subst (λ (m : ℕ). slice_get (f start m b) k ≡ Some y) n (sym (get_front (f start number b) (flat f (start + length b.instrs) (suc number) bs) k (omega (arith, lt, ef start number b))) ∙ e);
    there = subst (λ (m : ℕ). slice_get (g start m b) k ≡ Some z) n (sym (get_front (g start number b) (flat g (start + length b.instrs) (suc number) bs) k (omega (arith, lt, eg start number b))) ∙ h);
  })
  | inr le ↦ (
      let back : k ≡ length (f start number b) + (k - length b.instrs) = omega (arith, le, ef start number b) in
      let back' : k ≡ length (g start number b) + (k - length b.instrs) = omega (arith, le, eg start number b) in
      let r = found f g ef eg (start + length b.instrs) (suc number) bs (k - length b.instrs) y z
      (sym (get_back (f start number b) (flat f (start + length b.instrs) (suc number) bs) (k - length b.instrs) k back) ∙ e)
      (sym (get_back (g start number b) (flat g (start + length b.instrs) (suc number) bs) (k - length b.instrs) k back') ∙ h) in
      let n : suc number + r.j ≡ number + suc r.j = omega arith in
      let first_is = r.first_is in
      let place = r.place in
      record {
        j = suc r.j;
        block = r.block;
        is = r.is;
        first = r.first;
        first_is = omega (arith, first_is);
        at = r.at;
        place = omega (arith, place, le);
        here = subst (λ (m : ℕ). slice_get (f r.first m r.block) r.at ≡ Some y) n r.here;
        there = subst (λ (m : ℕ). slice_get (g r.first m r.block) r.at ≡ Some z) n r.there;
      })
]

pub put : {A : Type 0} (f : (start number : ℕ) → Block → List A) → IsEven f → (start number : ℕ) (bs : List Block) (j : ℕ) (b : Block) (first q at k : ℕ) (y : A)
    → slice_get bs j ≡ Some b → first ≡ start + total (take j bs) → q ≡ number + j → slice_get (f first q b) at ≡ Some y → k ≡ total (take j bs) + at
    → slice_get (flat f start number bs) k ≡ Some y
put f ef start number [] j b first q at k y is fi qi here place = absurd cc
put {A = A} f ef start number (c ∷ bs) zero b first q at k y is fi qi here place =
    let same : c ≡ b = one_is c b is in
    let there : slice_get (f start number c) at ≡ Some y = subst (λ (x : Block). slice_get (f start number x) at ≡ Some y) (sym same) (subst (λ (m : ℕ). slice_get (f start m b) at ≡ Some y) (qi ∙ omega arith) (subst (λ (m : ℕ). slice_get (f m q b) at ≡ Some y) (fi ∙ omega arith) here)) in
    let k_is : k ≡ at = place ∙ omega arith in
    ap (slice_get (f start number c ++ flat f (start + length c.instrs) (suc number) bs)) k_is
    ∙ get_front (f start number c) (flat f (start + length c.instrs) (suc number) bs) at (get_within (f start number c) at y there) ∙ there
put f ef start number (c ∷ bs) (suc j) b first q at k y is fi qi here place =
    get_back (f start number c) (flat f (start + length c.instrs) (suc number) bs) (total (take j bs) + at) k (omega (arith, place, ef start number c))
    ∙ put f ef (start + length c.instrs) (suc number) bs j b first q at (total (take j bs) + at) y is (omega (arith, fi)) (omega (arith, qi)) here refl

pub flat_length : {A : Type 0} (f : (start number : ℕ) → Block → List A) → IsEven f → (start number : ℕ) (bs : List Block) → length (flat f start number bs) ≡ total bs
flat_length f ef start number [] = refl
flat_length f ef start number (b ∷ bs) =
    let r = flat_length f ef (start + length b.instrs) (suc number) bs in
    length-append (f start number b) (flat f (start + length b.instrs) (suc number) bs) ∙ omega (arith, r, ef start number b)

pub routine_at : (os : List Contents) (start : ℕ) (bs : List Block) (j : ℕ) (b : Block) (first : ℕ) → slice_get bs j ≡ Some b → first ≡ start + total (take j bs)
    → slice_get (routines_from os start bs) j ≡ Some (routine_of os first b)
routine_at os start [] j b first is fi = absurd cc
routine_at os start (c ∷ bs) zero b first is fi =
    let f : start ≡ first = omega (arith, fi) in
    ap (λ (x : Block). Some (routine_of os start x)) (one_is c b is) ∙ ap (λ (n : ℕ). Some (routine_of os n b)) f
routine_at os start (c ∷ bs) (suc j) b first is fi = routine_at os (start + length c.instrs) bs j b first is (omega (arith, fi))

pub record FoundRoutine (os : List Contents) (start : ℕ) (bs : List Block) (j : ℕ) (r : Routine) : Type 0 where
  pub block : Block
  pub first : ℕ
  pub is : slice_get bs j ≡ Some block
  pub first_is : first ≡ start + total (take j bs)
  pub routine_is : routine_of os first block ≡ r

pub routine_found : (os : List Contents) (start : ℕ) (bs : List Block) (j : ℕ) (r : Routine) → slice_get (routines_from os start bs) j ≡ Some r → FoundRoutine os start bs j r
routine_found os start [] j r e = absurd cc
routine_found os start (b ∷ bs) zero r e = record { block = b; first = start; is = refl; first_is = omega arith; routine_is = one_is (routine_of os start b) r e }
routine_found os start (b ∷ bs) (suc j) r e =
    let w = routine_found os (start + length b.instrs) bs j r e in
    let f = w.first_is in
    record { block = w.block; first = w.first; is = w.is; first_is = omega (arith, f); routine_is = w.routine_is }

-- ---- which procedure a block is

record BelongsOf (m : ℕ) (o : Contents) (k : ℕ) (ps : List Procedure) (q : ℕ) (b : Block) : Type 0 where
  module_is : b.«module» ≡ m
  object_is : b.object ≡ o
  number_is : b.number ≡ k + q
  procedure : slice_get ps q ≡ Some b.procedure
  instrs : AreInstrs b.procedure.code b.instrs

blocks_length : (m : ℕ) (o : Contents) (k text : ℕ) (ps : List Procedure) (bs : List Block) → AreBlocksOf m o k text ps bs → length bs ≡ length ps
blocks_length m o k text [] bs are = ap length are
blocks_length m o k text (p ∷ ps) bs are = let r = blocks_length m o (suc k) (text + length p.bytes) ps are.1 are.4 in ap length are.2 ∙ omega (arith, r)

belongs_of : (m : ℕ) (o : Contents) (k text : ℕ) (ps : List Procedure) (bs : List Block) (q : ℕ) (b : Block) → AreBlocksOf m o k text ps bs → slice_get bs q ≡ Some b → BelongsOf m o k ps q b
belongs_of m o k text [] bs q b are is = absurd (nothing_at bs q b are is)
belongs_of m o k text (p ∷ ps) bs zero b are is =
    let same : are.0 ≡ b = one_is are.0 b (sym (ap (λ (xs : List Block). slice_get xs 0) are.2) ∙ is) in
    let h = are.3 in
    subst (BelongsOf m o k (p ∷ ps) 0) same (record {
      module_is = h.module_is;
      object_is = h.object_is;
      number_is = h.number_is ∙ omega arith;
      procedure = ap (λ (x : Procedure). Some x) (sym h.procedure_is);
      instrs = subst (λ (x : Procedure). AreInstrs x.code are.0.instrs) (sym h.procedure_is) h.instrs;
    })
belongs_of m o k text (p ∷ ps) bs (suc q) b are is =
    let r = belongs_of m o (suc k) (text + length p.bytes) ps are.1 q b are.4 (sym (ap (λ (xs : List Block). slice_get xs (suc q)) are.2) ∙ is) in
    let n = r.number_is in
    record { module_is = r.module_is; object_is = r.object_is; number_is = omega (arith, n); procedure = r.procedure; instrs = r.instrs }

record BelongsFrom (m n : ℕ) (os : List Contents) (q : ℕ) (b : Block) : Type 0 where
  i : ℕ
  module_is : b.«module» ≡ m + i
  object : slice_get os i ≡ Some b.object
  procedure : slice_get b.object.procedures b.number ≡ Some b.procedure
  place : n + q ≡ slice_index_or (bodies_from n os) i 0 + b.number
  instrs : AreInstrs b.procedure.code b.instrs

belongs_from : (m n text : ℕ) (os : List Contents) (bs : List Block) (q : ℕ) (b : Block) → AreBlocks m text os bs → slice_get bs q ≡ Some b → BelongsFrom m n os q b
belongs_from m n text [] bs q b are is = absurd (nothing_at bs q b are is)
belongs_from m n text (o ∷ os) bs q b are is = elim (cases_lt q (length are.0)) [
  | inl lt ↦ (
      let w = belongs_of m o 0 text o.procedures are.0 q b are.3 (sym (get_front are.0 are.1 q lt) ∙ sym (ap (λ (xs : List Block). slice_get xs q) are.2) ∙ is) in
      let k : b.number ≡ q = w.number_is ∙ omega arith in
      record {
        i = 0;
        module_is = w.module_is ∙ omega arith;
        object = ap (λ (x : Contents). Some x) (sym w.object_is);
        procedure = ap (λ (x : Contents). slice_get x.procedures b.number) w.object_is ∙ ap (slice_get o.procedures) k ∙ w.procedure;
        place = omega (arith, k);
        instrs = w.instrs;
      })
  | inr le ↦ (
      let len = blocks_length m o 0 text o.procedures are.0 are.3 in
      let w = belongs_from (suc m) (n + length o.procedures) (text + data_in o.procedures) os are.1 (q - length are.0) b are.4
      (sym (get_back are.0 are.1 (q - length are.0) q (omega (arith, le))) ∙ sym (ap (λ (xs : List Block). slice_get xs q) are.2) ∙ is) in
      let mi = w.module_is in
      let pl = w.place in
      record { i = suc w.i; module_is = omega (arith, mi); object = w.object; procedure = w.procedure; place = omega (arith, pl, len, le); instrs = w.instrs })
]

-- a block of a program is a procedure of one of its objects
pub record Belongs (os : List Contents) (q : ℕ) (b : Block) : Type 0 where
  pub object : slice_get os b.«module» ≡ Some b.object
  pub procedure : slice_get b.object.procedures b.number ≡ Some b.procedure
  pub place : q ≡ number_of os b.«module» b.number
  pub instrs : AreInstrs b.procedure.code b.instrs

pub belongs : (text : ℕ) (os : List Contents) (bs : List Block) (q : ℕ) (b : Block) → AreBlocks 0 text os bs → slice_get bs q ≡ Some b → Belongs os q b
belongs text os bs q b are is =
    let w = belongs_from 0 0 text os bs q b are is in
    let i : w.i ≡ b.«module» = (let e = w.module_is in omega (arith, e)) in
    let p = w.place in
    record {
      object = subst (λ (n : ℕ). slice_get os n ≡ Some b.object) i w.object;
      procedure = w.procedure;
      place = subst (λ (n : ℕ). q ≡ slice_index_or (bodies_from 0 os) n 0 + b.number) i (omega (arith, p));
      instrs = w.instrs;
    }

-- each procedure of an object is a block
pub record BlockOf (os : List Contents) (bs : List Block) (m : ℕ) (o : Contents) (k : ℕ) (p : Procedure) (q : ℕ) : Type 0 where
  pub block : Block
  pub is : slice_get bs q ≡ Some block
  pub module_is : block.«module» ≡ m
  pub number_is : block.number ≡ k
  pub procedure_is : block.procedure ≡ p

block_in : (m : ℕ) (o : Contents) (k text : ℕ) (ps : List Procedure) (bs : List Block) (q : ℕ) (p : Procedure) → AreBlocksOf m o k text ps bs → slice_get ps q ≡ Some p
    → (b : Block) × (slice_get bs q ≡ Some b) × (b.«module» ≡ m) × (b.number ≡ k + q) × (b.procedure ≡ p)
block_in m o k text [] bs q p are is = absurd cc
block_in m o k text (x ∷ ps) bs zero p are is =
    let h = are.3 in
    (are.0, ap (λ (xs : List Block). slice_get xs 0) are.2, h.module_is, h.number_is ∙ omega arith, h.procedure_is ∙ one_is x p is)
block_in m o k text (x ∷ ps) bs (suc q) p are is =
    let r = block_in m o (suc k) (text + length x.bytes) ps are.1 q p are.4 is in
    let n = r.3 in
    (r.0, ap (λ (xs : List Block). slice_get xs (suc q)) are.2 ∙ r.1, r.2, omega (arith, n), r.4)

block_from : (m n text : ℕ) (os : List Contents) (bs : List Block) (i k : ℕ) (o : Contents) (p : Procedure) (q : ℕ) → AreBlocks m text os bs → slice_get os i ≡ Some o → slice_get o.procedures k ≡ Some p
    → n + q ≡ slice_index_or (bodies_from n os) i 0 + k → (b : Block) × (slice_get bs q ≡ Some b) × (b.«module» ≡ m + i) × (b.number ≡ k) × (b.procedure ≡ p)
block_from m n text [] bs i k o p q are is at place = absurd cc
block_from m n text (x ∷ os) bs zero k o p q are is at place =
    let same : x ≡ o = one_is x o is in
    let here : slice_get x.procedures q ≡ Some p = ap (slice_get x.procedures) (omega (arith, place)) ∙ ap (λ (c : Contents). slice_get c.procedures k) same ∙ at in
    let r = block_in m x 0 text x.procedures are.0 q p are.3 here in
    let n = r.3 in
    (r.0, ap (λ (xs : List Block). slice_get xs q) are.2 ∙ get_front are.0 are.1 q (get_within are.0 q r.0 r.1) ∙ r.1, r.2 ∙ omega arith, omega (arith, n, place), r.4)
block_from m n text (x ∷ os) bs (suc i) k o p q are is at place =
    let len = blocks_length m x 0 text x.procedures are.0 are.3 in
    let low = at_least (n + length x.procedures) os i o is in
    let r = block_from (suc m) (n + length x.procedures) (text + data_in x.procedures) os are.1 i k o p (q - length x.procedures) are.4 is at (omega (arith, place, low)) in
    let mi = r.2 in
    (r.0, ap (λ (xs : List Block). slice_get xs q) are.2 ∙ get_back are.0 are.1 (q - length x.procedures) q (omega (arith, place, low, len)) ∙ r.1, omega (arith, mi), r.3, r.4)
  where
    at_least : (n : ℕ) (os : List Contents) (i : ℕ) (o : Contents) → slice_get os i ≡ Some o → n ≤ slice_index_or (bodies_from n os) i 0
    at_least n [] i o e = absurd cc
    at_least n (y ∷ ys) zero o e = omega arith
    at_least n (y ∷ ys) (suc i) o e = let r = at_least (n + length y.procedures) ys i o e in omega (arith, r)

pub block_of : (text : ℕ) (os : List Contents) (bs : List Block) (m k : ℕ) (o : Contents) (p : Procedure) → AreBlocks 0 text os bs → slice_get os m ≡ Some o → slice_get o.procedures k ≡ Some p → BlockOf os bs m o k p (number_of os m k)
block_of text os bs m k o p are is at =
    let r = block_from 0 0 text os bs m k o p (number_of os m k) are is at (omega arith) in
    let mi = r.2 in
    record { block = r.0; is = r.1; module_is = omega (arith, mi); number_is = r.3; procedure_is = r.4 }
