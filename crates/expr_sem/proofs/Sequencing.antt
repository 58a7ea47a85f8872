-- Fragments made one after another: an earlier one stands for the same part later.
use Rattle.std.proofs.Common.{◌≡◌, ◌∙◌, ◌++◌, ◌∷◌, [], ℕ, ◌+◌, ◌<◌, List, length, Result, Ok, Err, ap, sym, subst, refl, arith}
use Rattle.std.specs.Prelude.{slice_index_or}
use Rattle.std.proofs.lemmas.List.{get_or_append_left, length-append, length_push}
use Rattle.m2_base.specs.declared.memory.Memory.{Memory}
use Rattle.m2_base.proofs.Kept.{IsPrefixOf-refl, IsPrefixOf-trans}
use Rattle.expr_sem.specs.Fragments.{Grows, IsIn, IsMade, MadeBy, part, part_by, parts_after}
use Rattle.block_code.specs.Parts.{Part, none, ◌⨟◌}
use Rattle.expr_sem.specs.declared.fragments.Fragment.{Fragment}
use Rattle.expr_sem.specs.declared.fragments.Fragment.TheVariants.{Nothing, Node as NodeOf}
use Rattle.expr_sem.specs.declared.fragments.Node.{Node}

pub parts_length : (ps : List Part) (ns : List Node) → length (parts_after ps ns) ≡ length ps + length ns
parts_length ps [] = omega arith
parts_length ps (n ∷ ns) =
    let e = parts_length (ps ++ part_by ps n.form ∷ []) ns in
    let l = length_push ps (part_by ps n.form) in
    omega (arith, e, l)

pub parts_append : (ps : List Part) (xs ys : List Node) → parts_after ps (xs ++ ys) ≡ parts_after (parts_after ps xs) ys
parts_append ps [] ys = refl
parts_append ps (x ∷ xs) ys = parts_append (ps ++ part_by ps x.form ∷ []) xs ys

pub parts_kept : (ps : List Part) (ns : List Node) (k : ℕ) → k < length ps → slice_index_or (parts_after ps ns) k none ≡ slice_index_or ps k none
parts_kept ps [] k h = refl
parts_kept ps (n ∷ ns) k h =
    let l = length_push ps (part_by ps n.form) in
    parts_kept (ps ++ part_by ps n.form ∷ []) ns k (omega (arith, h, l)) ∙ get_or_append_left ps (part_by ps n.form ∷ []) none k h

-- behind further nodes a fragment stands for the same part
pub part_before : (xs ys : List Node) (f : Fragment) → IsIn xs f → part (xs ++ ys) f ≡ part xs f
part_before xs ys Nothing h = refl
part_before xs ys (NodeOf k) h =
    let l = parts_length [] xs in
    ap (λ ps. slice_index_or ps k none) (parts_append [] xs ys) ∙ parts_kept (parts_after [] xs) ys k (omega (arith, h, l))

pub part_later : {from to : List Node} → Grows from to → (f : Fragment) → IsIn from f → part to f ≡ part from f
part_later {from} {to} g f h = ap (λ ns. part ns f) (sym g.before.joined) ∙ part_before from g.before.rest f h

in_before : (xs ys : List Node) (f : Fragment) → IsIn xs f → IsIn (xs ++ ys) f
in_before xs ys Nothing h = tt
in_before xs ys (NodeOf k) h = let l = length-append xs ys in omega (arith, h, l)

-- and is one of them
pub in_later : {from to : List Node} → Grows from to → (f : Fragment) → IsIn from f → IsIn to f
in_later {from} {to} g f h = subst (λ ns. IsIn ns f) g.before.joined (in_before from g.before.rest f h)

pub Grows-refl : (ns : List Node) → Grows ns ns
Grows-refl ns = record { before = IsPrefixOf-refl ns; sound = λ s. s }

pub Grows-trans : {a b c : List Node} → Grows a b → Grows b c → Grows a c
Grows-trans p q = record { before = IsPrefixOf-trans p.before q.before; sound = λ s. q.sound (p.sound s) }

made_as : (to : List Node) (r : Result Fragment Memory) {p q : Part} → MadeBy to r p → p ≡ q → MadeBy to r q
made_as to (Ok f) h e = record { there = h.there; part_is = h.part_is ∙ e }
made_as to (Err m) h e = tt

-- one more fragment, after others
pub made_after : {a b c : List Node} {p q : Part} (r : Result Fragment Memory) → Grows a b → IsMade b c r p → p ≡ q → IsMade a c r q
made_after {a} {b} {c} r g h e = record { grows = Grows-trans g h.grows; made = made_as c r h.made e }

-- memory was wanted, of a part that was made on the way or of the whole
pub wanted : {a b : List Node} {p q : Part} {m : Memory} → IsMade a b (Err m) p → (n : Memory) → IsMade a b (Err n) q
wanted h n = record { grows = h.grows; made = tt }

pub joined_same : {p q r s : Part} → p ≡ r → q ≡ s → (p ⨟ q) ≡ (r ⨟ s)
joined_same {p} {q} {r} {s} e f = ap (λ (t : Part). t ⨟ q) e ∙ ap (λ (t : Part). r ⨟ t) f

-- a fragment, and another behind it that was just made
pub behind : {a b c : List Node} {last : Fragment} {q : Part} (r : Result Fragment Memory) (first : Fragment) → IsIn a first → IsMade a b (Ok last) q → IsMade b c r (part b first ⨟ part b last) → IsMade a c r (part a first ⨟ q)
behind r first h m t = made_after r m.grows t (joined_same (part_later m.grows first h) m.made.part_is)

-- two fragments, and another behind them that was just made
pub behind_both : {a b c : List Node} {last : Fragment} {q : Part} (r : Result Fragment Memory) (x y : Fragment) → IsIn a x → IsIn a y → IsMade a b (Ok last) q
    → IsMade b c r (part b x ⨟ part b y ⨟ part b last) → IsMade a c r (part a x ⨟ part a y ⨟ q)
behind_both r x y h k m t =
    made_after r m.grows t (joined_same (part_later m.grows x h) (joined_same (part_later m.grows y k) m.made.part_is))

-- one that was just made, and what is known of the rest
pub then_rest : {a b c : List Node} {first : Fragment} {p : Part} (r : Result Fragment Memory) (q : Part) → IsMade a b (Ok first) p → IsMade b c r (part b first ⨟ q) → IsMade a c r (p ⨟ q)
then_rest r q m t = made_after r m.grows t (ap (λ (u : Part). u ⨟ q) m.made.part_is)

-- a fragment behind one that was just made
pub made_before : {a b c : List Node} {first : Fragment} {p : Part} (r : Result Fragment Memory) (last : Fragment) → IsIn a last → IsMade a b (Ok first) p → IsMade b c r (part b first ⨟ part b last) → IsMade a c r (p ⨟ part a last)
made_before r last h m t = made_after r m.grows t (joined_same m.made.part_is (part_later m.grows last h))

-- two that were just made
pub joined_both : {a b c d : List Node} (first second : Fragment) {p q : Part} (r : Result Fragment Memory) → IsMade a b (Ok first) p → IsMade b c (Ok second) q
    → IsMade c d r (part c first ⨟ part c second) → IsMade a d r (p ⨟ q)
joined_both first second r n m w =
    made_after r (Grows-trans n.grows m.grows) w (joined_same (part_later m.grows first n.made.there ∙ n.made.part_is) m.made.part_is)
