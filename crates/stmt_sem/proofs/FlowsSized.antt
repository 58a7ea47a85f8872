-- The lengths of flows that are put together, by those of their parts.
use Rattle.std.proofs.Common.{Result, Ok, Err, ◌≡◌, ◌∙◌, ◌++◌, ◌∷◌, [], ℕ, zero, suc, ◌+◌, ◌-◌, ◌<◌, ℤ, List, length, map, Option, Some, None, sym, subst, refl, arith}
use Rattle.std.specs.Prelude.{IfOk, slice_get, pos}
use Rattle.m2_base.specs.Lists.{Each}
use Rattle.m2_base.specs.declared.memory.Memory.{Memory}
use Rattle.code_form.specs.Bytes.{size}
use Rattle.code_form.specs.Heights.{Step}
use Rattle.code_form.specs.declared.instr.Instr.{Instr}
use Rattle.code_form.specs.declared.instr.Instr.TheVariants.{Jump, JumpFalse, Load, Local, Store}
use Rattle.expr_sem.specs.Fragments as parts
use Rattle.expr_sem.specs.Fragments.{AreSound, part}
use Rattle.std.specs.declared.alloc.Global.{Global}
use Rattle.std.specs.declared.boxed.Box.{Box}
use Rattle.block_code.specs.Parts.{Part, Spot, plain, plain_step, steps_size, ◌⨟◌}
use Rattle.block_code.proofs.Sizes.{size_append, size_then}
use Rattle.expr_sem.specs.declared.fragments.Fragment.{Fragment}
use Rattle.expr_sem.specs.declared.fragments.Fragment.TheVariants.{Nothing as NoFragment, Node as FragmentOf}
use Rattle.expr_sem.specs.declared.fragments.Node.{Node}
use Rattle.block_code.specs.Cases.{label_by, label_code, labels_code, more_labels_code}
use Rattle.case_labels.specs.Seen.{test_seen}
use Rattle.stmt_sem.specs.FlowTrees.{IsArmOver, IsCodeOf, IsOver, Measures, MeasuresPart, arms_among, block_among, choice_among, code_by, flow_in, other_among}
use Rattle.stmt_sem.specs.FlowPieces.{Over}
use Rattle.stmt_sem.specs.FlowSizes.{arms_bytes, block_bytes, label_bytes, labels_bytes, somewhere}
use Rattle.block_code.specs.Flows as flow
use Rattle.block_code.specs.Flows.{HasSize, back, choose, counted, for_ever, nothing, straight, until_true, when, while_true, ◌⨾◌}
use Rattle.block_code.specs.Statements.{arm_before, flow_or_nothing}
use Rattle.stmt_sem.specs.declared.flows.Arm.{Arm}
use Rattle.stmt_sem.specs.declared.flows.Code.{Code}
use Rattle.stmt_sem.specs.declared.flows.Code.TheVariants.{Fixed, Stored, Compared, Labels}
use Rattle.stmt_sem.specs.declared.flows.Flow.{Flow}
use Rattle.case_labels.specs.declared.tests.LabelTest.{LabelTest}

-- so many bytes, wherever the part stands
abbrev pub PartHas : Part → ℕ → Type 0
PartHas p n = (at : Spot) → steps_size (p at).code ≡ n

pub then_sized : (f g : flow.Flow) {m n : ℕ} → HasSize f m → HasSize g n → HasSize (f ⨾ g) (m + n)
then_sized f g {m} {n} a b at out =
    let q : List Step = (g (f at).next).code out in
    let e = size_append ((f at).code (out + steps_size q)) q in
    let x = a at (out + steps_size q) in
    let y = b (f at).next out in
    omega (arith, e, x, y)

pub when_sized : (t : Part) (f : flow.Flow) {m n : ℕ} → PartHas t m → HasSize f n → HasSize (when t f) (m + (5 + n))
when_sized t f {m} {n} a b at out =
    let q : List Step = (f (t at).next).code out in
    let e : steps_size ((t at).code ++ (plain_step (JumpFalse (pos (steps_size q))) ∷ q)) ≡ steps_size (t at).code + (5 + steps_size q) = size_append (t at).code (plain_step (JumpFalse (pos (steps_size q))) ∷ q) in
    let x = a at in
    let y = b (t at).next out in
    omega (arith, e, x, y)

pub choose_sized : (t : Part) (f g : flow.Flow) {m n k : ℕ} → PartHas t m → HasSize f n → HasSize g k → HasSize (choose t f g) (m + (5 + (n + (5 + k))))
choose_sized t f g {m} {n} {k} a b d at out =
    let s : Spot = (t at).next in
    let r : List Step = (g (f s).next).code out in
    let q : List Step = (f s).code (out + steps_size r + 5) in
    let tail : List Step = plain_step (Jump (pos (steps_size r))) ∷ r in
    let e : steps_size ((t at).code ++ (plain_step (JumpFalse (pos (steps_size q + 5))) ∷ (q ++ tail))) ≡ steps_size (t at).code + (5 + steps_size (q ++ tail)) = size_append (t at).code (plain_step (JumpFalse (pos (steps_size q + 5))) ∷ (q ++ tail)) in
    let i : steps_size (q ++ tail) ≡ steps_size q + (5 + steps_size r) = size_append q tail in
    let x = a at in
    let y = b s (out + steps_size r + 5) in
    let z = d (f s).next out in
    omega (arith, e, i, x, y, z)

-- a list, and a jump behind it
ended : (q : List Step) (s : Step) → steps_size (s ∷ []) ≡ 5 → steps_size (q ++ s ∷ []) ≡ steps_size q + 5
ended q s h = let e = size_append q (s ∷ []) in omega (arith, e, h)

pub while_sized : (t : Part) (f : flow.Flow) {m n : ℕ} → PartHas t m → HasSize f n → HasSize (while_true t f) (m + n + 10)
while_sized t f {m} {n} a b at out =
    let s : Spot = (t at).next in
    let q : List Step = (f s).code (out + 5) in
    let jump : Step = back Jump (steps_size (t at).code + 5 + steps_size q) in
    let e : steps_size ((t at).code ++ (plain_step (JumpFalse (pos (steps_size q + 5))) ∷ (q ++ jump ∷ []))) ≡ steps_size (t at).code + (5 + steps_size (q ++ jump ∷ [])) = size_append (t at).code (plain_step (JumpFalse (pos (steps_size q + 5))) ∷ (q ++ jump ∷ [])) in
    let i = ended q jump refl in
    let x = a at in
    let y = b s (out + 5) in
    omega (arith, e, i, x, y)

pub until_sized : (f : flow.Flow) (t : Part) {m n : ℕ} → HasSize f m → PartHas t n → HasSize (until_true f t) (m + n + 5)
until_sized f t {m} {n} a b at out =
    let s : Spot = (f at).next in
    let c : List Step = (t s).code in
    let q : List Step = (f at).code (out + steps_size c + 5) in
    let jump : Step = back JumpFalse (steps_size q + steps_size c) in
    let e = size_append q (c ++ jump ∷ []) in
    let i = ended c jump refl in
    let x = a at (out + steps_size c + 5) in
    let y = b s in
    omega (arith, e, i, x, y)

pub for_ever_sized : (f : flow.Flow) {m : ℕ} → HasSize f m → HasSize (for_ever f) (m + 5)
for_ever_sized f {m} a at out =
    let q : List Step = (f at).code 5 in
    let i = ended q (back Jump (steps_size q)) refl in
    let x = a at 5 in
    omega (arith, i, x)

pub counted_sized : (first : Part) (f : flow.Flow) (again step : Part) {m n a s : ℕ} → PartHas first m → HasSize f n → PartHas again a → PartHas step s → HasSize (counted first f again step) (m + a + (n + s) + 15)
counted_sized first f again step {m} {n} {a} {s} hf hb ha hs at out =
    let s1 : Spot = (first at).next in
    let s2 : Spot = (f s1).next in
    let c : List Step = (again s2).code in
    let d : List Step = (step (again s2).next).code in
    let behind : ℕ = steps_size c + 5 + steps_size d + 5 in
    let q : List Step = (f s1).code (out + behind) in
    let jump : Step = back Jump (steps_size q + steps_size c + 5 + steps_size d) in
    let last : List Step = d ++ jump ∷ [] in
    let tail : List Step = c ++ (plain_step (JumpFalse (pos (steps_size d + 5))) ∷ last) in
    let e : steps_size ((first at).code ++ (plain_step (JumpFalse (pos (steps_size q + behind))) ∷ (q ++ tail))) ≡ steps_size (first at).code + (5 + steps_size (q ++ tail)) = size_append (first at).code (plain_step (JumpFalse (pos (steps_size q + behind))) ∷ (q ++ tail)) in
    let i = size_append q tail in
    let j : steps_size tail ≡ steps_size c + (5 + steps_size last) = size_append c (plain_step (JumpFalse (pos (steps_size d + 5))) ∷ last) in
    let k = ended d jump refl in
    let x = hf at in
    let y = hb s1 (out + behind) in
    let z = ha s2 in
    let w = hs (again s2).next in
    omega (arith, e, i, j, k, x, y, z, w)

-- ---- labels

by_sized : (t : ℕ) (l : LabelTest) (h : Option ℤ) → l.high ≡ h → PartHas (label_by t l.low h) (steps_size (label_by 0 l.low h somewhere).code)
by_sized t l None e at = refl
by_sized t l (Some x) e at = refl

pub label_sized : (t : ℕ) (l : LabelTest) → PartHas (label_code t (test_seen l)) (label_bytes l)
label_sized t l = by_sized t l l.high refl

more_sized : (t : ℕ) (ls : List LabelTest) → PartHas (more_labels_code t (map test_seen ls)) (labels_bytes ls)
more_sized t [] at = refl
more_sized t (l ∷ ls) at =
    let p : Part = label_code t (test_seen l) in
    let e = size_append (p at).code (more_labels_code t (map test_seen ls) (p at).next).code in
    let x = label_sized t l at in
    let y = more_sized t ls (p at).next in
    omega (arith, e, x, y)

-- the first label has no jump
pub labels_sized : (t : ℕ) (ls : List LabelTest) → 0 < length ls → PartHas (labels_code t (map test_seen ls)) (labels_bytes ls - 5)
labels_sized t [] h at = absurd (omega (arith, h))
labels_sized t (l ∷ ls) h at =
    let p : Part = label_code t (test_seen l) in
    let e = size_append (p at).code (more_labels_code t (map test_seen ls) (p at).next).code in
    let x = label_sized t l at in
    let y = more_sized t ls (p at).next in
    omega (arith, e, x, y)

pub none_sized : (t : ℕ) (ls : List LabelTest) → length ls ≡ 0 → PartHas (labels_code t (map test_seen ls)) 9
none_sized t [] h at = refl
none_sized t (l ∷ ls) h at = absurd (omega (arith, h))

-- ---- a statement's own code

pub stored_sized : (ns : List Node) (f : Fragment) (n : ℕ) → PartHas (part ns f) n → MeasuresPart (λ t. plain (Local 0 t ∷ []) ⨟ part ns f ⨟ plain (Store ∷ [])) (n + 10)
stored_sized ns f n h t at =
    let e = size_then (part ns f) (plain (Store ∷ [])) n 1 h (λ s. refl) at in
    omega (arith, e)

pub compared_sized : (ns : List Node) (f : Fragment) (i : Instr) (n k : ℕ) → PartHas (part ns f) n → k ≡ size (plain_step i).instr → MeasuresPart (λ t. part ns f ⨟ plain (Load ∷ Local 0 t ∷ Load ∷ i ∷ [])) (n + 11 + k)
compared_sized ns f i n k h e t at =
    let s : steps_size ((part ns f ⨟ plain (Load ∷ Local 0 t ∷ Load ∷ i ∷ [])) at).code ≡ steps_size (part ns f at).code + (1 + (9 + (1 + (size (plain_step i).instr + 0)))) = size_append (part ns f at).code (plain (Load ∷ Local 0 t ∷ Load ∷ i ∷ []) (part ns f at).next).code in
    let x = h at in
    omega (arith, e, s, x)

-- a number, where there is one, has another property too
pub if_ok : (P Q : ℕ → Type 0) (r : Result ℕ Memory) → IfOk r P → ((n : ℕ) → P n → Q n) → IfOk r Q
if_ok P Q (Ok n) h f = f n h
if_ok P Q (Err m) h f = tt

-- ---- blocks and arms

pub block_sized : (ns : List Node) (xs : List Flow) → Each (IsOver ns) xs → Measures (block_among ns xs) (block_bytes xs)
block_sized ns [] h t at out = refl
block_sized ns (x ∷ xs) h t at out = then_sized (flow_in ns x t) (block_among ns xs t) (h.0.1 t) (block_sized ns xs h.1 t) at out

arm_over : (t : Part) (f : flow.Flow) (o : Option flow.Flow) (m n k : ℕ) → PartHas t m → HasSize f n → Over o k → Over (arm_before t f o) (m + 5 + n + 5 + k)
arm_over t f None m n k a b d = (m + (5 + n), omega (arith, d), when_sized t f a b)
arm_over t f (Some g) m n k a b d = (m + (5 + (n + (5 + d.0))), let e = d.1 in omega (arith, e), choose_sized t f g a b d.2)

-- a statement's own code has a size
abbrev CodeMeasures : List Node → Code → Type 0
CodeMeasures ns c = (n : ℕ) × MeasuresPart (code_by ns c) n

measured : (p : ℕ → Part) (n : ℕ) → MeasuresPart p n → MeasuresPart p (steps_size (p 0 somewhere).code)
measured p n h t at = h t at ∙ sym (h 0 somewhere)

fragment_sized : (ns : List Node) → parts.AreSound ns → (f : Fragment) → parts.IsIn ns f → PartHas (part ns f) (steps_size (part ns f somewhere).code)
fragment_sized ns s NoFragment h at = refl
fragment_sized ns s (FragmentOf k) h at = known ns k h (λ n e. (s k n e).size at ∙ sym ((s k n e).size somewhere))
  where
    known : {P : Type 0} (ms : List Node) (k : ℕ) → k < length ms → ((n : Node) → slice_get ms k ≡ Some n → P) → P
    known [] k h f = absurd (omega (arith, h))
    known (n ∷ ms) zero h f = f n refl
    known (n ∷ ms) (suc k) h f = known ms k (omega (arith, h)) f

labels_measures : (ls : List LabelTest) → (n : ℕ) × MeasuresPart (λ t. labels_code t (map test_seen ls)) n
labels_measures [] = (9, λ t at. refl)
labels_measures (l ∷ ls) = (labels_bytes (l ∷ ls) - 5, λ t. labels_sized t (l ∷ ls) (omega arith))

code_measures : (ns : List Node) → AreSound ns → (c : Code) → IsCodeOf ns c → CodeMeasures ns c
code_measures ns s (Fixed f) h = (steps_size (part ns f somewhere).code, λ t. fragment_sized ns s f h)
code_measures ns s (Stored f) h =
    let n = steps_size (part ns f somewhere).code in
    (n + 10, stored_sized ns f n (fragment_sized ns s f h))
code_measures ns s (Compared f i) h =
    let n = steps_size (part ns f somewhere).code in
    (n + 11 + size (plain_step i).instr, compared_sized ns f i n (size (plain_step i).instr) (fragment_sized ns s f h) refl)
code_measures ns s (Labels ls) h = labels_measures ls.items

pub arms_over : (ns : List Node) → AreSound ns → (arms : List Arm) → Each (IsArmOver ns) arms → (o : Option flow.Flow) (k t : ℕ) → Over o k → Over (arms_among ns arms t o) (arms_bytes ns arms + k)
arms_over ns s [] h o k t d = subst (λ (n : ℕ). Over o n) (omega arith) d
arms_over ns s (a ∷ arms) h o k t d =
    let m = code_measures ns s a.test h.0.0 in
    subst (λ (n : ℕ). Over (arms_among ns (a ∷ arms) t o) n) (omega arith)
    (arm_over (code_by ns a.test t) (flow_in ns a.body t) (arms_among ns arms t o) (steps_size (code_by ns a.test 0 somewhere).code) a.body.size (arms_bytes ns arms + k)
    (measured (code_by ns a.test) m.0 m.1 t) (h.0.1.1 t) (arms_over ns s arms h.1 o k t d))

over_sized : (o : Option flow.Flow) (n : ℕ) → Over o n → HasSize (flow_or_nothing o) (n - 5)
over_sized None n d = subst (λ (m : ℕ). HasSize nothing m) (omega (arith, d)) (λ at out. refl)
over_sized (Some f) n d = subst (λ (m : ℕ). HasSize f m) (let e = d.1 in omega (arith, e)) d.2

pub choice_sized : (ns : List Node) → AreSound ns → (arms : List Arm) → Each (IsArmOver ns) arms → (x : Option (Box Flow Global)) (k : ℕ) → ((t : ℕ) → Over (other_among ns x t) k)
    → Measures (choice_among ns arms x) ((arms_bytes ns arms + k) - 5)
choice_sized ns s arms h x k d t = over_sized (arms_among ns arms t (other_among ns x t)) (arms_bytes ns arms + k) (arms_over ns s arms h (other_among ns x t) k t (d t))
