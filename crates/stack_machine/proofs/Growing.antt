-- Code that grows block by block.
use Rattle.std.proofs.Common.{◌≡◌, ℕ, zero, suc, ◌+◌, ◌-◌, ◌<◌, ◌≤◌, ◌^◌, cond, eqb, List, [], ◌∷◌, ◌++◌, length, take, drop, map, get_or, Option, Some, None, Result, Ok, Err, OnOk, refl, sym, ap, ◌∙◌, subst, arith, append_assoc, append-nil, length-append}
use Rattle.std.specs.Prelude.{slice_get}
use Rattle.std.specs.List.{slice_index_or}
use Rattle.std.proofs.lemmas.List.{map_push}
use Rattle.code_form.specs.declared.instr.Instr.{Instr}
use Rattle.code_form.specs.Modules.{Procedure}
use Rattle.code_form.specs.Valid.{AreInstrs}
use Rattle.m2_base.specs.declared.outputs.ProcCode.{ProcCode}
use Rattle.object_file.specs.Contents.{Contents}
use Rattle.object_file.specs.Programs.{IsProgram}
use Rattle.object_file.specs.Views.{procedure_of}
use Rattle.object_file.specs.Validity.{IsValid}
use Rattle.stack_machine.specs.declared.op.Op.{Op}
use Rattle.stack_machine.specs.declared.code.Routine.{Routine}
use Rattle.stack_machine.specs.declared.code.Origin.{Origin}
use Rattle.stack_machine.specs.declared.loading.Listing.{Listing}
use Rattle.stack_machine.specs.declared.owners.Owner.{Owner}
use Rattle.stack_machine.specs.Loading.{Spot, spots, Site, Block, IsBlock, AreBlocksOf, AreBlocks, flat, op_by, block_ops, block_origins, routine_of, routines_from, number_of, owners_of, data_in, data_of, cells_of, count_of, variables_from, bodies_from}
use Rattle.stack_machine.specs.Sites.{Grows, GrowsBlock, GrowsObject, GrowsAll, at_object, contents_or}
use Rattle.stack_machine.proofs.Flat.{total, IsEven, flat_length, one_is, get_within}
use Rattle.stack_machine.proofs.ObjectFacts.{all_get, facts, Facts, valid_code}
use Rattle.stack_machine.proofs.Loaded.{ops_even, get_map}
use Rattle.stack_machine.proofs.Placing.{get_index}

pub ok_map : {T E P Q : Type 0} (r : Result T E) → OnOk r P → (P → Q) → OnOk r Q
ok_map (Ok x) p f = f p
ok_map (Err e) p f = tt

-- ---- one after another

flat_append : {A : Type 0} (f : (start number : ℕ) → Block → List A) (start number : ℕ) (bs cs : List Block) → flat f start number (bs ++ cs) ≡ flat f start number bs ++ flat f (start + total bs) (number + length bs) cs
flat_append f start number [] cs = let s : start ≡ start + 0 = omega arith in let n : number ≡ number + 0 = omega arith in ap (λ (k : ℕ). flat f k number cs) s ∙ ap (λ (k : ℕ). flat f (start + 0) k cs) n
flat_append f start number (b ∷ bs) cs =
    let s : start + length b.instrs + total bs ≡ start + (length b.instrs + total bs) = omega arith in
    let n : suc number + length bs ≡ number + suc (length bs) = omega arith in
    ap (λ xs. f start number b ++ xs) (flat_append f (start + length b.instrs) (suc number) bs cs)
    ∙ sym (append_assoc (f start number b) (flat f (start + length b.instrs) (suc number) bs) (flat f (start + length b.instrs + total bs) (suc number + length bs) cs))
    ∙ ap (λ (k : ℕ). (f start number b ++ flat f (start + length b.instrs) (suc number) bs) ++ flat f k (suc number + length bs) cs) s
    ∙ ap (λ (k : ℕ). (f start number b ++ flat f (start + length b.instrs) (suc number) bs) ++ flat f (start + (length b.instrs + total bs)) k cs) n

routines_append : (os : List Contents) (start : ℕ) (bs cs : List Block) → routines_from os start (bs ++ cs) ≡ routines_from os start bs ++ routines_from os (start + total bs) cs
routines_append os start [] cs = let s : start ≡ start + 0 = omega arith in ap (λ (k : ℕ). routines_from os k cs) s
routines_append os start (b ∷ bs) cs =
    let s : start + length b.instrs + total bs ≡ start + (length b.instrs + total bs) = omega arith in
    ap (λ (xs : List Routine). routine_of os start b ∷ xs) (routines_append os (start + length b.instrs) bs cs ∙ ap (λ (k : ℕ). routines_from os (start + length b.instrs) bs ++ routines_from os k cs) s)

-- the numbers of blocks change no operation, and no place an origin
ops_numbered : (os : List Contents) (start m n : ℕ) (bs : List Block) → flat (block_ops os) start m bs ≡ flat (block_ops os) start n bs
ops_numbered os start m n [] = refl
ops_numbered os start m n (b ∷ bs) = ap (λ (xs : List Op). block_ops os start 0 b ++ xs) (ops_numbered os (start + length b.instrs) (suc m) (suc n) bs)

origins_numbered : (s t m n : ℕ) (bs : List Block) → flat block_origins s m bs ≡ flat block_origins t n bs
origins_numbered s t m n [] = refl
origins_numbered s t m n (b ∷ bs) = ap (λ (xs : List Origin). block_origins 0 0 b ++ xs) (origins_numbered (s + length b.instrs) (t + length b.instrs) (suc m) (suc n) bs)

joined : {A : Type 0} (old mid new xs ys zs : List A) → mid ≡ old ++ xs → new ≡ mid ++ ys → xs ++ ys ≡ zs → new ≡ old ++ zs
joined old mid new xs ys zs e d h = d ∙ ap (λ ws. ws ++ ys) e ∙ append_assoc old xs ys ∙ ap (λ ws. old ++ ws) h

pub grows_on : (os : List Contents) (bs cs : List Block) (old mid new : Listing) → Grows os bs old mid → Grows os cs mid new → Grows os (bs ++ cs) old new
grows_on os bs cs old mid new g h =
    let len : length mid.ops.items ≡ length old.ops.items + total bs = ap length g.ops ∙ length-append old.ops.items (flat (block_ops os) (length old.ops.items) 0 bs) ∙ ap (λ (n : ℕ). length old.ops.items + n) (flat_length (block_ops os) (ops_even os) (length old.ops.items) 0 bs) in
    record {
      ops = joined old.ops.items mid.ops.items new.ops.items (flat (block_ops os) (length old.ops.items) 0 bs) (flat (block_ops os) (length mid.ops.items) 0 cs) (flat (block_ops os) (length old.ops.items) 0 (bs ++ cs)) g.ops h.ops
          (ap (λ (n : ℕ). flat (block_ops os) (length old.ops.items) 0 bs ++ flat (block_ops os) n 0 cs) len
          ∙ ap (λ (xs : List Op). flat (block_ops os) (length old.ops.items) 0 bs ++ xs) (ops_numbered os (length old.ops.items + total bs) 0 (0 + length bs) cs)
          ∙ sym (flat_append (block_ops os) (length old.ops.items) 0 bs cs));
      origins = joined old.origins.items mid.origins.items new.origins.items (flat block_origins 0 0 bs) (flat block_origins 0 0 cs) (flat block_origins 0 0 (bs ++ cs)) g.origins h.origins
          (ap (λ (xs : List Origin). flat block_origins 0 0 bs ++ xs) (origins_numbered 0 (0 + total bs) 0 (0 + length bs) cs) ∙ sym (flat_append block_origins 0 0 bs cs));
      routines = joined old.routines.items mid.routines.items new.routines.items (routines_from os (length old.ops.items) bs) (routines_from os (length mid.ops.items) cs) (routines_from os (length old.ops.items) (bs ++ cs)) g.routines h.routines
          (ap (λ (n : ℕ). routines_from os (length old.ops.items) bs ++ routines_from os n cs) len ∙ sym (routines_append os (length old.ops.items) bs cs));
    }

-- ---- one block

pub block_grows : (os : List Contents) (m : ℕ) (o : Contents) (k text : ℕ) (p : Procedure) (old new : Listing) (is : List Instr) (start : ℕ) (named : List Owner) (ss ts : List Spot) (outer : Option ℕ)
    → AreInstrs p.code is → ss ≡ spots 0 is → ts ≡ spots 0 is → start ≡ length old.ops.items → named ≡ owners_of os o → outer ≡ cond (eqb p.outer 0) None (Some (number_of os m p.outer))
    → new.ops.items ≡ old.ops.items ++ map (λ s. op_by os (record { «module» = m; named = named; text = text; start = start; all = ss }) s s.instr) ss
    → new.origins.items ≡ old.origins.items ++ map (λ s. record { «module» = m; procedure = k; offset = s.at }) ts
    → new.routines.items ≡ old.routines.items ++ (record { entry = start; params = p.params; result = p.result; locals = p.locals; high = p.high; outer = outer }) ∷ []
    → GrowsBlock os m o k text p old new
block_grows os m o k text p old new is start named ss ts outer instrs s_is t_is start_is named_is outer_is ops origins routines =
    let b : Block = record { «module» = m; object = o; number = k; text = text; procedure = p; instrs = is } in
    record {
      block = b;
      is = record { module_is = refl; object_is = refl; number_is = refl; text_is = refl; procedure_is = refl; instrs = instrs };
      listed = ops
          ∙ ap (λ (n : List Owner). old.ops.items ++ map (λ (s : Spot). op_by os (record { «module» = m; named = n; text = text; start = start; all = ss }) s s.instr) ss) named_is
          ∙ ap (λ (xs : List Spot). old.ops.items ++ map (λ (s : Spot). op_by os (record { «module» = m; named = owners_of os o; text = text; start = start; all = xs }) s s.instr) xs) s_is
          ∙ ap (λ (n : ℕ). old.ops.items ++ map (λ (s : Spot). op_by os (record { «module» = m; named = owners_of os o; text = text; start = n; all = spots 0 is }) s s.instr) (spots 0 is)) start_is;
      origins = origins ∙ ap (λ (xs : List Spot). old.origins.items ++ map (λ (s : Spot). record { «module» = m; procedure = k; offset = s.at }) xs) t_is;
      routines = routines
          ∙ ap (λ (x : Option ℕ). old.routines.items ++ (record { entry = start; params = p.params; result = p.result; locals = p.locals; high = p.high; outer = x }) ∷ []) outer_is
          ∙ ap (λ (n : ℕ). old.routines.items ++ routines_from os n (b ∷ [])) start_is;
    }

one_block : (os : List Contents) (m : ℕ) (o : Contents) (k text : ℕ) (p : Procedure) (old new : Listing) → (g : GrowsBlock os m o k text p old new) → Grows os (g.block ∷ []) old new
one_block os m o k text p old new g = record {
  ops = g.listed ∙ ap (λ (xs : List Op). old.ops.items ++ xs) (sym (append-nil (block_ops os (length old.ops.items) 0 g.block)));
  origins = g.origins ∙ ap (λ (xs : List Origin). old.origins.items ++ xs) (sym (append-nil (block_origins 0 0 g.block)));
  routines = g.routines;
}

-- ---- the procedures of an object

blocks_more : (m : ℕ) (o : Contents) (k text : ℕ) (ps : List Procedure) (bs : List Block) (p : Procedure) (b : Block) → AreBlocksOf m o k text ps bs → IsBlock m o (k + length ps) (text + data_in ps) p b → AreBlocksOf m o k text (ps ++ p ∷ []) (bs ++ b ∷ [])
blocks_more m o k text [] bs p b are is =
    let n : k + 0 ≡ k = omega arith in
    let t : text + 0 ≡ text = omega arith in
    (b, [], ap (λ (xs : List Block). xs ++ b ∷ []) are, subst (λ (x : ℕ). IsBlock m o k x p b) t (subst (λ (x : ℕ). IsBlock m o x (text + 0) p b) n is), refl)
blocks_more m o k text (q ∷ ps) bs p b are is =
    let n : k + length (q ∷ ps) ≡ suc k + length ps = omega arith in
    let t : text + data_in (q ∷ ps) ≡ text + length q.bytes + data_in ps = omega arith in (
      are.0,
      are.1 ++ b ∷ [],
      ap (λ (xs : List Block). xs ++ b ∷ []) are.2,
      are.3,
      blocks_more m o (suc k) (text + length q.bytes) ps are.1 p b are.4 (subst (λ (x : ℕ). IsBlock m o (suc k + length ps) x p b) t (subst (λ (x : ℕ). IsBlock m o x (text + data_in (q ∷ ps)) p b) n is)),
    )

pub no_procedures : (os : List Contents) (m : ℕ) (o : Contents) (text : ℕ) (old : Listing) → GrowsObject os m o text [] old old
no_procedures os m o text old = record { blocks = []; are = refl; grows = record { ops = sym (append-nil old.ops.items); origins = sym (append-nil old.origins.items); routines = sym (append-nil old.routines.items) } }

more_object : (os : List Contents) (m : ℕ) (o : Contents) (text : ℕ) (ps : List Procedure) (p : Procedure) (k at : ℕ) (old mid new : Listing) → GrowsObject os m o text ps old mid → GrowsBlock os m o k at p mid new → k ≡ length ps → at ≡ text + data_in ps → GrowsObject os m o text (ps ++ p ∷ []) old new
more_object os m o text ps p k at old mid new g h k_is at_is =
    let n : k ≡ 0 + length ps = omega (arith, k_is) in
    record {
      blocks = g.blocks ++ h.block ∷ [];
      are = blocks_more m o 0 text ps g.blocks p h.block g.are (subst (λ (x : ℕ). IsBlock m o (0 + length ps) x p h.block) at_is (subst (λ (x : ℕ). IsBlock m o x at p h.block) n h.is));
      grows = grows_on os g.blocks (h.block ∷ []) old mid new g.grows (one_block os m o k at p mid new h);
    }

pub take_more : {A : Type 0} (xs : List A) (k : ℕ) (x : A) → slice_get xs k ≡ Some x → take (k + 1) xs ≡ take k xs ++ x ∷ []
take_more xs k x e = (let n : k + 1 ≡ suc k = omega arith in ap (λ (m : ℕ). take m xs) n ∙ next xs k x e) where
  next : {A : Type 0} (xs : List A) (k : ℕ) (x : A) → slice_get xs k ≡ Some x → take (suc k) xs ≡ take k xs ++ x ∷ []
  next [] k x e = absurd cc
  next (y ∷ ys) zero x e = ap (λ z. z ∷ []) (one_is y x e)
  next (y ∷ ys) (suc k) x e = ap (λ zs. y ∷ zs) (next ys k x e)

take_length : {A : Type 0} (xs : List A) (k : ℕ) → k ≤ length xs → length (take k xs) ≡ k
take_length xs zero le = refl
take_length [] (suc k) le = absurd (omega arith)
take_length (x ∷ xs) (suc k) le = ap suc (take_length xs k (omega arith))

map_len : {A B : Type 0} (f : A → B) (xs : List A) → length (map f xs) ≡ length xs
map_len f [] = refl
map_len f (x ∷ xs) = ap suc (map_len f xs)

pub object_more : (os : List Contents) (m : ℕ) (o : Contents) (text : ℕ) (ps : List ProcCode) (p : ProcCode) (k at : ℕ) (old mid new : Listing) → k < length ps → p ≡ get_or ps k p → GrowsObject os m o text (map procedure_of (take k ps)) old mid → GrowsBlock os m o k at (procedure_of p) mid new → at ≡ text + data_in (map procedure_of (take k ps))
    → GrowsObject os m o text (map procedure_of (take (k + 1) ps)) old new
object_more os m o text ps p k at old mid new lt is g h at_is =
    let e : map procedure_of (take (k + 1) ps) ≡ map procedure_of (take k ps) ++ procedure_of p ∷ [] = ap (map procedure_of) (take_more ps k p (get_index ps k p lt is)) ∙ map_push procedure_of (take k ps) p in
    let n : k ≡ length (map procedure_of (take k ps)) = sym (map_len procedure_of (take k ps) ∙ take_length ps k (omega (arith, lt))) in
    subst (λ (qs : List Procedure). GrowsObject os m o text qs old new) (sym e) (more_object os m o text (map procedure_of (take k ps)) (procedure_of p) k at old mid new g h n at_is)

data_push : (ps : List Procedure) (p : Procedure) → data_in (ps ++ p ∷ []) ≡ data_in ps + length p.bytes
data_push [] p = omega arith
data_push (q ∷ ps) p = let r = data_push ps p in omega (arith, r)

data_take : (ps : List ProcCode) (k : ℕ) → data_in (map procedure_of (take k ps)) ≤ data_in (map procedure_of ps)
data_take ps zero = omega arith
data_take [] (suc k) = omega arith
data_take (p ∷ ps) (suc k) = let r = data_take ps k in omega (arith, r)

pub record NextData (ps : List ProcCode) (k : ℕ) (p : ProcCode) : Type 0 where
  pub next : data_in (map procedure_of (take (k + 1) ps)) ≡ data_in (map procedure_of (take k ps)) + length p.bytes.items
  pub within : data_in (map procedure_of (take k ps)) + length p.bytes.items ≤ data_in (map procedure_of ps)

pub next_data : (ps : List ProcCode) (k : ℕ) (p : ProcCode) → k < length ps → p ≡ get_or ps k p → NextData ps k p
next_data ps k p lt is =
    let n = ap (λ (qs : List ProcCode). data_in (map procedure_of qs)) (take_more ps k p (get_index ps k p lt is)) ∙ ap data_in (map_push procedure_of (take k ps) p) ∙ data_push (map procedure_of (take k ps)) (procedure_of p) in
    let w = data_take ps (k + 1) in
    record { next = n; within = omega (arith, n, w) }

-- ---- the objects

are_more : (m text : ℕ) (some : List Contents) (bs : List Block) (o : Contents) (own : List Block) → AreBlocks m text some bs → AreBlocksOf (m + length some) o 0 (text + data_of some) o.procedures own → AreBlocks m text (some ++ o ∷ []) (bs ++ own)
are_more m text [] bs o own are is =
    let n : m + 0 ≡ m = omega arith in
    let t : text + 0 ≡ text = omega arith in
    (own, [], ap (λ (xs : List Block). xs ++ own) are ∙ sym (append-nil own), subst (λ (x : ℕ). AreBlocksOf m o 0 x o.procedures own) t (subst (λ (x : ℕ). AreBlocksOf x o 0 (text + 0) o.procedures own) n is), refl)
are_more m text (q ∷ some) bs o own are is =
    let n : m + length (q ∷ some) ≡ suc m + length some = omega arith in
    let t : text + data_of (q ∷ some) ≡ text + data_in q.procedures + data_of some = omega arith in (
      are.0,
      are.1 ++ own,
      ap (λ (xs : List Block). xs ++ own) are.2 ∙ append_assoc are.0 are.1 own,
      are.3,
      are_more (suc m) (text + data_in q.procedures) some are.1 o own are.4 (subst (λ (x : ℕ). AreBlocksOf (suc m + length some) o 0 x o.procedures own) t (subst (λ (x : ℕ). AreBlocksOf x o 0 (text + data_of (q ∷ some)) o.procedures own) n is)),
    )

pub no_objects : (os : List Contents) (text : ℕ) (old : Listing) → GrowsAll os text [] old old
no_objects os text old = record { blocks = []; are = refl; grows = record { ops = sym (append-nil old.ops.items); origins = sym (append-nil old.origins.items); routines = sym (append-nil old.routines.items) } }

pub object_there : (os : List Contents) (m : ℕ) → m < length os → slice_get os m ≡ Some (at_object os m)
object_there [] m lt = absurd (omega arith)
object_there (o ∷ os) zero lt = refl
object_there (o ∷ os) (suc m) lt = object_there os m (omega arith)

pub all_more : (os : List Contents) (text m at : ℕ) (old mid new : Listing) → m < length os → GrowsAll os text (take m os) old mid → GrowsObject os m (at_object os m) at (at_object os m).procedures mid new → at ≡ text + data_of (take m os)
    → GrowsAll os text (take (m + 1) os) old new
all_more os text m at old mid new lt g h at_is =
    let o = at_object os m in
    let e = take_more os m o (object_there os m lt) in
    let n : m ≡ 0 + length (take m os) = sym (take_length os m (omega (arith, lt))) ∙ omega arith in
    subst (λ (qs : List Contents). GrowsAll os text qs old new) (sym e) (record {
      blocks = g.blocks ++ h.blocks;
      are = are_more 0 text (take m os) g.blocks o h.blocks g.are (subst (λ (x : ℕ). AreBlocksOf (0 + length (take m os)) o 0 x o.procedures h.blocks) at_is (subst (λ (x : ℕ). AreBlocksOf x o 0 at o.procedures h.blocks) n h.are));
      grows = grows_on os g.blocks h.blocks old mid new g.grows h.grows;
    })

all_data_push : (os : List Contents) (o : Contents) → data_of (os ++ o ∷ []) ≡ data_of os + data_in o.procedures
all_data_push [] o = omega arith
all_data_push (q ∷ os) o = let r = all_data_push os o in omega (arith, r)

all_data_take : (os : List Contents) (k : ℕ) → data_of (take k os) ≤ data_of os
all_data_take os zero = omega arith
all_data_take [] (suc k) = omega arith
all_data_take (o ∷ os) (suc k) = let r = all_data_take os k in omega (arith, r)

pub record NextObject (os : List Contents) (m : ℕ) : Type 0 where
  pub next : data_of (take (m + 1) os) ≡ data_of (take m os) + data_in (at_object os m).procedures
  pub within : data_of (take m os) + data_in (at_object os m).procedures ≤ data_of os

pub next_object : (os : List Contents) (m : ℕ) → m < length os → NextObject os m
next_object os m lt =
    let n = ap data_of (take_more os m (at_object os m) (object_there os m lt)) ∙ all_data_push (take m os) (at_object os m) in
    let w = all_data_take os (m + 1) in
    record { next = n; within = omega (arith, n, w) }

-- ---- what is known of an object's procedures

pub few_of : (os : List Contents) (m : ℕ) (ps : List ProcCode) → IsProgram os → m < length os → map procedure_of ps ≡ (at_object os m).procedures → length ps < 2 ^ 32
few_of os m ps program lt e =
    let f = facts (at_object os m) (all_get IsValid os m (at_object os m) program.valid (object_there os m lt)) in
    let few = f.few in
    let n = sym (map_len procedure_of ps) ∙ ap length e in
    omega (arith, few, n)

pub sound_of : (os : List Contents) (m : ℕ) (ps : List ProcCode) → IsProgram os → m < length os → map procedure_of ps ≡ (at_object os m).procedures → (k : ℕ) (p : ProcCode) → slice_get ps k ≡ Some p → (length p.code.items < 2 ^ 32) × ((is : List Instr) × AreInstrs p.code.items is)
sound_of os m ps program lt e k p is =
    let o = at_object os m in
    let v = all_get IsValid os m o program.valid (object_there os m lt) in
    let f = facts o v in
    let there : slice_get o.procedures k ≡ Some (procedure_of p) = sym (ap (λ (qs : List Procedure). slice_get qs k) e) ∙ get_map procedure_of ps k p is in
    let c = valid_code _ 0 k o.procedures (procedure_of p) v.code there in
    ((f.procedures k (procedure_of p) there).code, (c.is, c.instrs))

pub object_is : (os : List Contents) (m : ℕ) (o : Contents) → m < length os → o ≡ get_or os m o → o ≡ at_object os m
object_is os m o lt e = one_is o (at_object os m) (sym (get_index os m o lt e) ∙ object_there os m lt)

pub same_object : (os : List Contents) (m text : ℕ) (o o' : Contents) (ps : List Procedure) (old new : Listing) → o ≡ o' → ps ≡ o'.procedures → GrowsObject os m o text ps old new → GrowsObject os m o' text o'.procedures old new
same_object os m text o o' ps old new e d g = subst (λ (qs : List Procedure). GrowsObject os m o' text qs old new) d (subst (λ (x : Contents). GrowsObject os m x text ps old new) e g)

-- ---- tables

pub variables_low : (at : ℕ) (os : List Contents) (x : ℕ) → slice_index_or (variables_from at os) x 0 ≤ at + cells_of os
variables_low at [] x = omega arith
variables_low at (o ∷ os) zero = omega arith
variables_low at (o ∷ os) (suc x) = let r = variables_low (at + o.cells) os x in omega (arith, r)

pub bodies_low : (n : ℕ) (os : List Contents) (x : ℕ) → slice_index_or (bodies_from n os) x 0 ≤ n + count_of os
bodies_low n [] x = omega arith
bodies_low n (o ∷ os) zero = omega arith
bodies_low n (o ∷ os) (suc x) = let r = bodies_low (n + length o.procedures) os x in omega (arith, r)
