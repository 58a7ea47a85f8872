-- Flows appended to a piece: each combinator by the parts that are appended one after another.
use Rattle.std.proofs.Common.{Result, Ok, Err, ◌≡◌, ◌∙◌, ◌++◌, ◌∷◌, [], ℕ, zero, suc, ◌+◌, ◌-◌, ◌<◌, ℤ, pos, negsuc, List, length, map, Option, Some, None, ap, sym, subst, refl, arith, append_assoc}
use Rattle.std.proofs.lemmas.List.{append-nil, at_drop_more}
use Rattle.std.specs.Prelude.{OnOk, drop, get_or}
use Rattle.m2_base.specs.Lists.{Each}
use Rattle.m2_base.specs.declared.memory.Memory.{Memory}
use Rattle.m2_base.specs.Statics.Cells.{capped}
use Rattle.code_form.specs.Heights.{Step}
use Rattle.code_form.specs.declared.instr.Instr.TheVariants.{Jump, JumpFalse, OrJump}
use Rattle.block_code.specs.Parts.{Made, Part, Spot, none, plain, plain_step, skip, steps_size, ◌⨟◌}
use Rattle.expr_sem.specs.Fragments.{step_view}
use Rattle.expr_sem.specs.Pieces.{Appended, spot_of}
use Rattle.expr_sem.specs.Stacks.{ends_as}
use Rattle.expr_sem.proofs.PieceParts.{append_then, ended}
use Rattle.expr_sem.specs.declared.pieces.Piece.{Piece}
use Rattle.expr_sem.specs.declared.pieces.With.{With}
use Rattle.stmt_sem.specs.FlowPieces.{AppendedArm, Over, again_part}
use Rattle.block_code.specs.Flows.{Flow, HasSize, Run, choose, counted, for_ever, in_with, part_at, until_true, when, while_true, with_cell, ◌⨾◌}
use Rattle.block_code.specs.Statements.{arm_before, flow_or_nothing}
use Rattle.block_code.specs.Cases.{label_code, more_labels_code}
use Rattle.expr_sem.specs.Fragments.{AreSound}
use Rattle.expr_sem.specs.declared.fragments.Node.{Node}
use Rattle.std.specs.declared.alloc.Global.{Global}
use Rattle.std.specs.declared.boxed.Box.{Box}
use Rattle.stmt_sem.specs.FlowTrees.{IsArmOver, IsOver, arms_among, block_among, choice_among, code_by, flow_in, other_among}
use Rattle.stmt_sem.specs.FlowSizes.{arm_bytes, arms_bytes, block_bytes, label_bytes}
use Rattle.stmt_sem.specs.declared.flows.Arm.{Arm}
use Rattle.stmt_sem.specs.declared.flows.Flow.{Flow as FlowOf}
use Rattle.case_labels.specs.declared.tests.LabelTest.{LabelTest}
use Rattle.case_labels.specs.Seen.{test_seen}
use Rattle.stmt_sem.proofs.FlowsSized.{PartHas, arms_over, block_sized, label_sized}

-- what is appended, by another name
pub as_part : {a e : Piece} {ws : List With} (p q : Part) → Appended a e ws p → p (spot_of a ws) ≡ q (spot_of a ws) → Appended a e ws q
as_part {a} {e} {ws} p q g same =
    record {
      steps = g.steps ∙ ap (λ (m : Made). map step_view a.steps.items ++ m.code) same;
      bytes = g.bytes ∙ ap (λ (m : Made). a.bytes.items ++ m.bytes) same;
      next = g.next ∙ ap (λ (m : Made). m.next) same;
    }

while_same : (out o m n : ℕ) (j k : ℤ) (t : Part) (f : Flow) → PartHas t m → HasSize f n → o ≡ out + 5 → j ≡ pos (n + 5) → k ≡ negsuc (m + (n + 5) + 4) → (at : Spot)
    → (t ⨟ (plain (JumpFalse j ∷ []) ⨟ (part_at o f ⨟ plain (Jump k ∷ [])))) at ≡ part_at out (while_true t f) at
while_same out o m n j k t f ht hf eo ej ek at =
    let x : Made = t at in
    let b : Run = f x.next in
    let inner : List Step = b.code (out + 5) in
    let sm : m ≡ steps_size x.code = sym (ht at) in
    let sn : n ≡ steps_size inner = sym (hf x.next (out + 5)) in
    let total : m + (n + 5) + 4 ≡ steps_size x.code + 5 + steps_size inner + 4 = omega (arith, sm, sn) in
    ap (λ (i : ℕ). (t ⨟ (plain (JumpFalse j ∷ []) ⨟ (part_at i f ⨟ plain (Jump k ∷ [])))) at) eo
    ∙ ap (λ (i : ℤ). (t ⨟ (plain (JumpFalse i ∷ []) ⨟ (part_at (out + 5) f ⨟ plain (Jump k ∷ [])))) at) (ej ∙ ap (λ (i : ℕ). pos (i + 5)) sn)
    ∙ ap (λ (i : ℤ). (t ⨟ (plain (JumpFalse (pos (steps_size inner + 5)) ∷ []) ⨟ (part_at (out + 5) f ⨟ plain (Jump i ∷ [])))) at) (ek ∙ ap negsuc total)
    ∙ ap (λ (l : List ℕ). record {
      code = x.code ++ (plain_step (JumpFalse (pos (steps_size inner + 5))) ∷ (inner ++ plain_step (Jump (negsuc (steps_size x.code + 5 + steps_size inner + 4))) ∷ []));
      bytes = x.bytes ++ l;
      next = b.next;
    }) (append-nil b.bytes)

-- the parts of a loop with its test before the body
pub while_on : {T : Type 0} (r : Result T Memory) {a b c d : Piece} (e : Piece) {ws : List With} (out o m n : ℕ) (j k : ℤ) (t : Part) (f : Flow)
    → PartHas t m → HasSize f n → o ≡ out + 5 → j ≡ pos (n + 5) → k ≡ negsuc (m + (n + 5) + 4)
    → Appended a b ws t → Appended b c ws (plain (JumpFalse j ∷ [])) → Appended c d ws (part_at o f) → OnOk r (Appended d e ws (plain (Jump k ∷ [])))
    → OnOk r (Appended a e ws (part_at out (while_true t f)))
while_on (Ok v) {a} e {ws} out o m n j k t f ht hf eo ej ek h1 h2 h3 h4 =
    as_part (t ⨟ (plain (JumpFalse j ∷ []) ⨟ (part_at o f ⨟ plain (Jump k ∷ [])))) (part_at out (while_true t f)) (append_then h1 (append_then h2 (append_then h3 h4)))
    (while_same out o m n j k t f ht hf eo ej ek (spot_of a ws))
while_on (Err v) e out o m n j k t f ht hf eo ej ek h1 h2 h3 h4 = tt

until_same : (out o m n : ℕ) (k : ℤ) (f : Flow) (t : Part) → HasSize f m → PartHas t n → o ≡ out + (n + 5) → k ≡ negsuc (m + n + 4) → (at : Spot)
    → (part_at o f ⨟ (t ⨟ plain (JumpFalse k ∷ []))) at ≡ part_at out (until_true f t) at
until_same out o m n k f t hf ht eo ek at =
    let b : Run = f at in
    let x : Made = t b.next in
    let sn : n ≡ steps_size x.code = sym (ht b.next) in
    let here : o ≡ out + steps_size x.code + 5 = omega (arith, eo, sn) in
    let inner : List Step = b.code (out + steps_size x.code + 5) in
    let sm : m ≡ steps_size inner = sym (hf at (out + steps_size x.code + 5)) in
    let total : m + n + 4 ≡ steps_size inner + steps_size x.code + 4 = omega (arith, sm, sn) in
    ap (λ (i : ℕ). (part_at i f ⨟ (t ⨟ plain (JumpFalse k ∷ []))) at) here
    ∙ ap (λ (i : ℤ). (part_at (out + steps_size x.code + 5) f ⨟ (t ⨟ plain (JumpFalse i ∷ []))) at) (ek ∙ ap negsuc total)
    ∙ ap (λ (l : List ℕ). record {
      code = inner ++ (x.code ++ plain_step (JumpFalse (negsuc (steps_size inner + steps_size x.code + 4))) ∷ []);
      bytes = b.bytes ++ l;
      next = x.next;
    }) (append-nil x.bytes)

-- the parts of a loop with its test behind the body
pub until_on : {T : Type 0} (r : Result T Memory) {a b c : Piece} (e : Piece) {ws : List With} (out o m n : ℕ) (k : ℤ) (f : Flow) (t : Part)
    → HasSize f m → PartHas t n → o ≡ out + (n + 5) → k ≡ negsuc (m + n + 4)
    → Appended a b ws (part_at o f) → Appended b c ws t → OnOk r (Appended c e ws (plain (JumpFalse k ∷ [])))
    → OnOk r (Appended a e ws (part_at out (until_true f t)))
until_on (Ok v) {a} e {ws} out o m n k f t hf ht eo ek h1 h2 h3 =
    as_part (part_at o f ⨟ (t ⨟ plain (JumpFalse k ∷ []))) (part_at out (until_true f t)) (append_then h1 (append_then h2 h3)) (until_same out o m n k f t hf ht eo ek (spot_of a ws))
until_on (Err v) e out o m n k f t hf ht eo ek h1 h2 h3 = tt

for_ever_same : (out m : ℕ) (k : ℤ) (f : Flow) → HasSize f m → k ≡ negsuc (m + 4) → (at : Spot) → (part_at 5 f ⨟ plain (Jump k ∷ [])) at ≡ part_at out (for_ever f) at
for_ever_same out m k f hf ek at =
    let b : Run = f at in
    let inner : List Step = b.code 5 in
    let sm : m ≡ steps_size inner = sym (hf at 5) in
    ap (λ (i : ℤ). (part_at 5 f ⨟ plain (Jump i ∷ [])) at) (ek ∙ ap (λ (i : ℕ). negsuc (i + 4)) sm)
    ∙ ap (λ (l : List ℕ). record { code = inner ++ plain_step (Jump (negsuc (steps_size inner + 4))) ∷ []; bytes = l; next = b.next }) (append-nil b.bytes)

-- the parts of a loop that only EXIT leaves
pub for_ever_on : {T : Type 0} (r : Result T Memory) {a b : Piece} (e : Piece) {ws : List With} (out m : ℕ) (k : ℤ) (f : Flow)
    → HasSize f m → k ≡ negsuc (m + 4) → Appended a b ws (part_at 5 f) → OnOk r (Appended b e ws (plain (Jump k ∷ []))) → OnOk r (Appended a e ws (part_at out (for_ever f)))
for_ever_on (Ok v) {a} e {ws} out m k f hf ek h1 h2 = as_part (part_at 5 f ⨟ plain (Jump k ∷ [])) (part_at out (for_ever f)) (append_then h1 h2) (for_ever_same out m k f hf ek (spot_of a ws))
for_ever_on (Err v) e out m k f hf ek h1 h2 = tt

-- one after the other
then_same : (out n : ℕ) (f g : Flow) → HasSize g n → (at : Spot) → (part_at (out + n) f ⨟ part_at out g) at ≡ part_at out (f ⨾ g) at
then_same out n f g hg at =
    let p : Run = f at in
    let q : Run = g p.next in
    ap (λ (i : ℕ). record { code = p.code (out + i) ++ q.code out; bytes = p.bytes ++ q.bytes; next = q.next }) (sym (hg p.next out))

-- what was appended of a block, and what is to be
pub block_ended : {a b : Piece} {ws : List With} (out n : ℕ) (f g : Flow) → HasSize g n → Appended a b ws (part_at (out + n) f) → ends_as b ws (part_at out g) ≡ ends_as a ws (part_at out (f ⨾ g))
block_ended {a} {b} {ws} out n f g hg h =
    ended (part_at out g) h
    ∙ ap (λ (m : Made). record { code = map step_view a.steps.items ++ m.code; bytes = a.bytes.items ++ m.bytes; next = m.next }) (then_same out n f g hg (spot_of a ws))

when_same : (out n : ℕ) (j : ℤ) (t : Part) (f : Flow) → HasSize f n → j ≡ pos n → (at : Spot) → (t ⨟ (plain (JumpFalse j ∷ []) ⨟ part_at out f)) at ≡ part_at out (when t f) at
when_same out n j t f hf ej at =
    let x : Made = t at in
    ap (λ (i : ℤ). (t ⨟ (plain (JumpFalse i ∷ []) ⨟ part_at out f)) at) (ej ∙ ap pos (sym (hf x.next out)))

choose_same : (out n m left : ℕ) (t : Part) (f g : Flow) → HasSize f n → HasSize g m → left ≡ m + 5 → (at : Spot)
    → ((t ⨟ (plain (JumpFalse (pos (n + 5)) ∷ []) ⨟ (part_at (out + left) f ⨟ plain (Jump (pos (left - 5)) ∷ [])))) ⨟ part_at out g) at ≡ part_at out (choose t f g) at
choose_same out n m left t f g hf hg el at =
    let x : Made = t at in
    let b : Run = f x.next in
    let o : Run = g b.next in
    let behind : List Step = o.code out in
    let sm : m ≡ steps_size behind = sym (hg b.next out) in
    let here : out + left ≡ out + steps_size behind + 5 = omega (arith, el, sm) in
    let last : left - 5 ≡ steps_size behind = omega (arith, el, sm) in
    let inner : List Step = b.code (out + steps_size behind + 5) in
    let sn : n ≡ steps_size inner = sym (hf x.next (out + steps_size behind + 5)) in
    let jump : Step = plain_step (Jump (pos (steps_size behind))) in
    let first : Step = plain_step (JumpFalse (pos (steps_size inner + 5))) in
    ap (λ (i : ℕ). ((t ⨟ (plain (JumpFalse (pos (n + 5)) ∷ []) ⨟ (part_at i f ⨟ plain (Jump (pos (left - 5)) ∷ [])))) ⨟ part_at out g) at) here
    ∙ ap (λ (i : ℕ). ((t ⨟ (plain (JumpFalse (pos (n + 5)) ∷ []) ⨟ (part_at (out + steps_size behind + 5) f ⨟ plain (Jump (pos i) ∷ [])))) ⨟ part_at out g) at) last
    ∙ ap (λ (i : ℕ). ((t ⨟ (plain (JumpFalse (pos (i + 5)) ∷ []) ⨟ (part_at (out + steps_size behind + 5) f ⨟ plain (Jump (pos (steps_size behind)) ∷ [])))) ⨟ part_at out g) at) sn
    ∙ ap (λ (l : List Step). record { code = l; bytes = (x.bytes ++ (b.bytes ++ [])) ++ o.bytes; next = o.next })
    (append_assoc x.code (first ∷ (inner ++ jump ∷ [])) behind ∙ ap (λ (l : List Step). x.code ++ (first ∷ l)) (append_assoc inner (jump ∷ []) behind))
    ∙ ap (λ (l : List ℕ). record { code = x.code ++ (first ∷ (inner ++ (jump ∷ behind))); bytes = (x.bytes ++ l) ++ o.bytes; next = o.next }) (append-nil b.bytes)

last_of : (a b e : Piece) (ws : List With) (out left n : ℕ) (t : Part) (f : Flow) → HasSize f n → left ≡ 0 → Appended a b ws t → Appended b e ws (plain (JumpFalse (pos n) ∷ []) ⨟ part_at out f) → (other : Option Flow) → Over other left
    → ends_as e ws (part_at out (flow_or_nothing other)) ≡ ends_as a ws (part_at out (flow_or_nothing (arm_before t f other)))
last_of a b e ws out left n t f hf z h1 h2 None o =
    let g : Appended a e ws (part_at out (when t f)) = as_part (t ⨟ (plain (JumpFalse (pos n) ∷ []) ⨟ part_at out f)) (part_at out (when t f)) (append_then h1 h2) (when_same out n (pos n) t f hf refl (spot_of a ws)) in
    ended none g ∙ alone
  where
    alone : ends_as a ws (part_at out (when t f) ⨟ none) ≡ ends_as a ws (part_at out (when t f))
    alone =
        let m : Made = part_at out (when t f) (spot_of a ws) in
        ap (λ (l : List Step). record { code = map step_view a.steps.items ++ l; bytes = a.bytes.items ++ (m.bytes ++ []); next = m.next }) (append-nil m.code)
        ∙ ap (λ (l : List ℕ). record { code = map step_view a.steps.items ++ m.code; bytes = a.bytes.items ++ l; next = m.next }) (append-nil m.bytes)
last_of a b e ws out left n t f hf z h1 h2 (Some g) o = let x = o.1 in absurd (omega (arith, x, z))

-- an arm with nothing behind it
pub last_arm : {T : Type 0} (r : Result T Memory) {a b : Piece} (e : Piece) {ws : List With} (out left n : ℕ) (t : Part) (f : Flow) → HasSize f n → left ≡ 0
    → Appended a b ws t → OnOk r (Appended b e ws (plain (JumpFalse (pos n) ∷ []) ⨟ part_at out f)) → OnOk r (AppendedArm a e ws out left t f)
last_arm (Err v) e out left n t f hf z h1 h2 = tt
last_arm (Ok v) {a} {b} e {ws} out left n t f hf z h1 h2 = λ other o. last_of a b e ws out left n t f hf z h1 h2 other o

first_of_arms : (a b e : Piece) (ws : List With) (out left n : ℕ) (t : Part) (f : Flow) → HasSize f n → 0 < left → Appended a b ws t → Appended b e ws (plain (JumpFalse (pos (n + 5)) ∷ []) ⨟ (part_at (out + left) f ⨟ plain (Jump (pos (left - 5)) ∷ []))) → (other : Option Flow) → Over other left
    → ends_as e ws (part_at out (flow_or_nothing other)) ≡ ends_as a ws (part_at out (flow_or_nothing (arm_before t f other)))
first_of_arms a b e ws out left n t f hf z h1 h2 None o = absurd (omega (arith, o, z))
first_of_arms a b e ws out left n t f hf z h1 h2 (Some g) o =
    ended (part_at out g) (append_then h1 h2)
    ∙ ap (λ (m : Made). record { code = map step_view a.steps.items ++ m.code; bytes = a.bytes.items ++ m.bytes; next = m.next }) (choose_same out n o.0 left t f g hf o.2 o.1 (spot_of a ws))

-- an arm with others behind it
pub first_arm : {T : Type 0} (r : Result T Memory) {a b : Piece} (e : Piece) {ws : List With} (out left n : ℕ) (t : Part) (f : Flow) → HasSize f n → 0 < left
    → Appended a b ws t → OnOk r (Appended b e ws (plain (JumpFalse (pos (n + 5)) ∷ []) ⨟ (part_at (out + left) f ⨟ plain (Jump (pos (left - 5)) ∷ []))))
    → OnOk r (AppendedArm a e ws out left t f)
first_arm (Err v) e out left n t f hf z h1 h2 = tt
first_arm (Ok v) {a} {b} e {ws} out left n t f hf z h1 h2 = λ other o. first_of_arms a b e ws out left n t f hf z h1 h2 other o

-- a cell was taken before
pub with_cell_on : {T : Type 0} (r : Result T Memory) (a e : Piece) (ws : List With) (out cell : ℕ) (f : ℕ → Flow) → cell ≡ capped (a.cell + 1)
    → OnOk r (Appended (record a { cell = cell }) e ws (part_at out (f a.cell))) → OnOk r (Appended a e ws (part_at out (with_cell f)))
with_cell_on (Err v) a e ws out cell f same h = tt
with_cell_on (Ok v) a e ws out cell f same h =
    let k : Appended (record a { cell = capped (a.cell + 1) }) e ws (part_at out (f a.cell)) = subst (λ (j : ℕ). Appended (record a { cell = j }) e ws (part_at out (f a.cell))) same h in
    record { steps = k.steps; bytes = k.bytes; next = k.next }

-- a WITH was opened before
pub in_with_on : {T : Type 0} (r : Result T Memory) (a e : Piece) (w : With) (ws inner : List With) (out : ℕ) (f : Flow) → inner ≡ w ∷ ws
    → OnOk r (Appended a e inner (part_at out f)) → OnOk r (Appended a e ws (part_at out (in_with w.cell f)))
in_with_on (Err v) a e w ws inner out f same h = tt
in_with_on (Ok v) a e w ws inner out f same h =
    let k : Appended a e (w ∷ ws) (part_at out f) = subst (λ (l : List With). Appended a e l (part_at out f)) same h in
    record { steps = k.steps; bytes = k.bytes; next = ap (λ (s : Spot). record s { withs = map (λ w. w.cell) ws }) k.next }

counted_same : (out o n a s : ℕ) (j : ℤ) (first : Part) (f : Flow) (again step : Part) → HasSize f n → PartHas again a → PartHas step s → o ≡ out + (a + s + 10) → j ≡ pos (n + (a + s + 10)) → (at : Spot)
    → (first ⨟ (plain (JumpFalse j ∷ []) ⨟ (part_at o f ⨟ again_part n a s again step))) at ≡ part_at out (counted first f again step) at
counted_same out o n a s j first f again step hf ha hs eo ej at =
    let x : Made = first at in
    let b : Run = f x.next in
    let y : Made = again b.next in
    let z : Made = step y.next in
    let behind : ℕ = steps_size y.code + 5 + steps_size z.code + 5 in
    let inner : List Step = b.code (out + behind) in
    let sa : a ≡ steps_size y.code = sym (ha b.next) in
    let ss : s ≡ steps_size z.code = sym (hs y.next) in
    let sn : n ≡ steps_size inner = sym (hf x.next (out + behind)) in
    let here : o ≡ out + behind = omega (arith, eo, sa, ss) in
    let over : n + (a + s + 10) ≡ steps_size inner + behind = omega (arith, sa, ss, sn) in
    let total : n + a + (s + 5) + 4 ≡ steps_size inner + steps_size y.code + 5 + steps_size z.code + 4 = omega (arith, sa, ss, sn) in
    let back : ℤ = negsuc (steps_size inner + steps_size y.code + 5 + steps_size z.code + 4) in
    ap (λ (i : ℕ). (first ⨟ (plain (JumpFalse j ∷ []) ⨟ (part_at i f ⨟ again_part n a s again step))) at) here
    ∙ ap (λ (i : ℤ). (first ⨟ (plain (JumpFalse i ∷ []) ⨟ (part_at (out + behind) f ⨟ again_part n a s again step))) at) (ej ∙ ap pos over)
    ∙ ap (λ (i : ℕ). (first ⨟ (plain (JumpFalse (pos (steps_size inner + behind)) ∷ []) ⨟ (part_at (out + behind) f ⨟ (again ⨟ (plain (JumpFalse (pos (i + 5)) ∷ []) ⨟ (step ⨟ plain (Jump (negsuc (n + a + (s + 5) + 4)) ∷ []))))))) at) ss
    ∙ ap (λ (i : ℕ). (first ⨟ (plain (JumpFalse (pos (steps_size inner + behind)) ∷ []) ⨟ (part_at (out + behind) f ⨟ (again ⨟ (plain (JumpFalse (pos (steps_size z.code + 5)) ∷ []) ⨟ (step ⨟ plain (Jump (negsuc i) ∷ []))))))) at) total
    ∙ ap (λ (l : List ℕ). record {
      code = x.code ++ (plain_step (JumpFalse (pos (steps_size inner + behind))) ∷ (inner ++ (y.code ++ (plain_step (JumpFalse (pos (steps_size z.code + 5))) ∷ (z.code ++ plain_step (Jump back) ∷ [])))));
      bytes = l;
      next = z.next;
    }) (ap (λ (l : List ℕ). x.bytes ++ (b.bytes ++ (y.bytes ++ l))) (append-nil z.bytes)
    ∙ sym (append_assoc x.bytes b.bytes (y.bytes ++ z.bytes))
    ∙ sym (append_assoc (x.bytes ++ b.bytes) y.bytes z.bytes))

-- the parts of a loop that counts
pub counted_on : {T : Type 0} (r : Result T Memory) {a b c d : Piece} (e : Piece) {ws : List With} (out o n k s : ℕ) (j : ℤ) (first : Part) (f : Flow) (again step : Part)
    → HasSize f n → PartHas again k → PartHas step s → o ≡ out + (k + s + 10) → j ≡ pos (n + (k + s + 10))
    → Appended a b ws first → Appended b c ws (plain (JumpFalse j ∷ [])) → Appended c d ws (part_at o f) → OnOk r (Appended d e ws (again_part n k s again step))
    → OnOk r (Appended a e ws (part_at out (counted first f again step)))
counted_on (Err v) e out o n k s j first f again step hf ha hs eo ej h1 h2 h3 h4 = tt
counted_on (Ok v) {a} e {ws} out o n k s j first f again step hf ha hs eo ej h1 h2 h3 h4 =
    as_part (first ⨟ (plain (JumpFalse j ∷ []) ⨟ (part_at o f ⨟ again_part n k s again step))) (part_at out (counted first f again step)) (append_then h1 (append_then h2 (append_then h3 h4)))
    (counted_same out o n k s j first f again step hf ha hs eo ej (spot_of a ws))

-- the parts of what comes after the body
pub again_on : {T : Type 0} (r : Result T Memory) {a b c d : Piece} (e : Piece) {ws : List With} (n k s : ℕ) (j i : ℤ) (again step : Part) → j ≡ pos (s + 5) → i ≡ negsuc (n + k + (s + 5) + 4)
    → Appended a b ws again → Appended b c ws (plain (JumpFalse j ∷ [])) → Appended c d ws step → OnOk r (Appended d e ws (plain (Jump i ∷ [])))
    → OnOk r (Appended a e ws (again_part n k s again step))
again_on (Err v) e n k s j i again step ej ei h1 h2 h3 h4 = tt
again_on (Ok v) {a} e {ws} n k s j i again step ej ei h1 h2 h3 h4 =
    let at : Spot = spot_of a ws in
    as_part (again ⨟ (plain (JumpFalse j ∷ []) ⨟ (step ⨟ plain (Jump i ∷ [])))) (again_part n k s again step) (append_then h1 (append_then h2 (append_then h3 h4)))
    (ap (λ (q : ℤ). (again ⨟ (plain (JumpFalse q ∷ []) ⨟ (step ⨟ plain (Jump i ∷ [])))) at) ej ∙ ap (λ (q : ℤ). (again ⨟ (plain (JumpFalse (pos (s + 5)) ∷ []) ⨟ (step ⨟ plain (Jump q ∷ [])))) at) ei)

-- the bytes behind the body of a loop that counts
pub behind_body : (b c k s m n : ℕ) → b ≡ c + 10 → c ≡ m + n → k ≡ m → s ≡ n → b ≡ k + s + 10
behind_body b c k s m n e f g h = omega (arith, e, f, g, h)

-- the bytes behind an entry
pub behind_entry : (b o q x r s d : ℕ) → b ≡ o + q → q ≡ x + r → s ≡ x → d ≡ b - s → d ≡ o + r
behind_entry b o q x r s d e f g h = omega (arith, e, f, g, h)

-- ---- the loops

each_drop : {A : Type 0} (P : A → Type 0) (i : ℕ) (xs : List A) → Each P xs → Each P (drop i xs)
each_drop P zero xs h = h
each_drop P (suc i) [] h = tt
each_drop P (suc i) (x ∷ xs) h = each_drop P i xs h.1

-- one of those that all have it has it
pub each_at : {A : Type 0} (P : A → Type 0) (xs : List A) (i : ℕ) (x : A) → i < length xs → x ≡ get_or xs i x → Each P xs → P x
each_at P [] i x l e h = absurd (omega (arith, l))
each_at P (y ∷ xs) zero x l e h = subst P (sym e) h.0
each_at P (y ∷ xs) (suc i) x l e h = each_at P xs i x (omega (arith, l)) e h.1

-- one more label
pub label_appended : (a b c d : Piece) (ws : List With) (ls : List LabelTest) (i : ℕ) (x : LabelTest) → i < length ls → x ≡ get_or ls i x → (t : ℕ) (j : ℤ) → j ≡ pos (label_bytes x)
    → ends_as b ws (more_labels_code t (map test_seen (drop i ls))) ≡ ends_as a ws (more_labels_code t (map test_seen ls))
    → Appended b c ws (plain (OrJump j ∷ [])) → Appended c d ws (label_code t (test_seen x))
    → ends_as d ws (more_labels_code t (map test_seen (drop (i + 1) ls))) ≡ ends_as a ws (more_labels_code t (map test_seen ls))
label_appended a b c d ws ls i x h e t j ej same h1 h2 =
    let l : Part = label_code t (test_seen x) in
    let rest : Part = more_labels_code t (map test_seen (drop (i + 1) ls)) in
    let at : Spot = spot_of b ws in
    let skipped : (plain (OrJump j ∷ []) ⨟ l) at ≡ skip OrJump l at = ap (λ (k : ℤ). (plain (OrJump k ∷ []) ⨟ l) at) (ej ∙ ap pos (sym (label_sized t x at))) in
    ended rest (as_part (plain (OrJump j ∷ []) ⨟ l) (skip OrJump l) (append_then h1 h2) skipped)
    ∙ ap (λ (y : LabelTest). ends_as b ws (more_labels_code t (map test_seen (y ∷ drop (i + 1) ls)))) e
    ∙ sym (at_drop_more (λ (m : List LabelTest). ends_as b ws (more_labels_code t (map test_seen m))) ls i x h)
    ∙ same

-- one more entry of a block
pub entry_appended : (a b c : Piece) (ws : List With) (ns : List Node) (xs : List FlowOf) → Each (IsOver ns) xs
    → (i : ℕ) (x : FlowOf) → i < length xs → x ≡ get_or xs i x → (out o t : ℕ) → o ≡ out + block_bytes (drop (i + 1) xs)
    → ends_as b ws (part_at out (block_among ns (drop i xs) t)) ≡ ends_as a ws (part_at out (block_among ns xs t))
    → Appended b c ws (part_at o (flow_in ns x t))
    → ends_as c ws (part_at out (block_among ns (drop (i + 1) xs) t)) ≡ ends_as a ws (part_at out (block_among ns xs t))
entry_appended a b c ws ns xs there i x h e out o t eo same g =
    let rest = drop (i + 1) xs in
    let more : ends_as b ws (part_at out (block_among ns (drop i xs) t)) ≡ ends_as b ws (part_at out (block_among ns (x ∷ rest) t)) =
    at_drop_more (λ (l : List FlowOf). ends_as b ws (part_at out (block_among ns l t))) xs i x h
    ∙ ap (λ (y : FlowOf). ends_as b ws (part_at out (block_among ns (y ∷ rest) t))) (sym e) in
    block_ended out (block_bytes rest) (flow_in ns x t) (block_among ns rest t) (block_sized ns rest (each_drop (IsOver ns) (i + 1) xs there) t)
    (subst (λ (k : ℕ). Appended b c ws (part_at k (flow_in ns x t))) eo g)
    ∙ sym more ∙ same

-- the bytes of an entry
pub entry_bytes : (xs : List FlowOf) (i : ℕ) (x : FlowOf) → i < length xs → x ≡ get_or xs i x → block_bytes (drop i xs) ≡ x.size + block_bytes (drop (i + 1) xs)
entry_bytes xs i x h e = at_drop_more block_bytes xs i x h ∙ ap (λ (y : FlowOf). block_bytes (y ∷ drop (i + 1) xs)) (sym e)

pub arm_at : (ns : List Node) (xs : List Arm) (i : ℕ) (x : Arm) → i < length xs → x ≡ get_or xs i x → arms_bytes ns (drop i xs) ≡ arm_bytes ns x + arms_bytes ns (drop (i + 1) xs)
arm_at ns xs i x h e = at_drop_more (arms_bytes ns) xs i x h ∙ ap (λ (y : Arm). arms_bytes ns (y ∷ drop (i + 1) xs)) (sym e)

-- one more arm
pub arm_appended : (a b c : Piece) (ws : List With) (ns : List Node) → AreSound ns → (xs : List Arm) → Each (IsArmOver ns) xs
    → (i : ℕ) (x : Arm) → i < length xs → x ≡ get_or xs i x → (other : Option (Box FlowOf Global)) (out left k t : ℕ) → left ≡ arms_bytes ns (drop (i + 1) xs) + k → ((u : ℕ) → Over (other_among ns other u) k)
    → ends_as b ws (part_at out (choice_among ns (drop i xs) other t)) ≡ ends_as a ws (part_at out (choice_among ns xs other t))
    → AppendedArm b c ws out left (code_by ns x.test t) (flow_in ns x.body t)
    → ends_as c ws (part_at out (choice_among ns (drop (i + 1) xs) other t)) ≡ ends_as a ws (part_at out (choice_among ns xs other t))
arm_appended a b c ws ns s xs there i x h e other out left k t el o same g =
    let rest = drop (i + 1) xs in
    let more : ends_as b ws (part_at out (choice_among ns (drop i xs) other t)) ≡ ends_as b ws (part_at out (choice_among ns (x ∷ rest) other t)) =
    at_drop_more (λ (l : List Arm). ends_as b ws (part_at out (choice_among ns l other t))) xs i x h
    ∙ ap (λ (y : Arm). ends_as b ws (part_at out (choice_among ns (y ∷ rest) other t))) (sym e) in
    g (arms_among ns rest t (other_among ns other t))
    (subst (λ (n : ℕ). Over (arms_among ns rest t (other_among ns other t)) n) (sym el)
    (arms_over ns s rest (each_drop (IsArmOver ns) (i + 1) xs there) (other_among ns other t) k t (o t)))
    ∙ sym more ∙ same

-- what was appended is all
pub all_appended : {a b : Piece} {ws : List With} (p q : Part) → ends_as b ws p ≡ ends_as a ws q → p ≡ none → Appended a b ws q
all_appended {a} {b} {ws} p q e z =
    let f : ends_as b ws none ≡ ends_as a ws q = ap (λ (r : Part). ends_as b ws r) (sym z) ∙ e in
    record {
      steps = sym (append-nil (map step_view b.steps.items)) ∙ ap (λ (m : Made). m.code) f;
      bytes = sym (append-nil b.bytes.items) ∙ ap (λ (m : Made). m.bytes) f;
      next = ap (λ (m : Made). m.next) f;
    }

-- what was appended, and the last of it
pub rest_appended : {T : Type 0} (r : Result T Memory) (a b c : Piece) (ws : List With) (p q : Part) → ends_as b ws p ≡ ends_as a ws q → OnOk r (Appended b c ws p) → OnOk r (Appended a c ws q)
rest_appended (Err m) a b c ws p q e h = tt
rest_appended (Ok v) a b c ws p q e h =
    record {
      steps = h.steps ∙ ap (λ (m : Made). m.code) e;
      bytes = h.bytes ∙ ap (λ (m : Made). m.bytes) e;
      next = h.next ∙ ap (λ (m : Made). m.next) e;
    }
