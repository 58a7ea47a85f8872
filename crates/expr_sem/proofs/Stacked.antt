-- Nodes on the stack of what is still to be appended: what they stand for, and that the work on them ends.
use Rattle.std.proofs.Common.{◌≡◌, ◌∙◌, ◌++◌, ◌∷◌, [], ℕ, zero, suc, ◌+◌, ◌<◌, ◌≤◌, List, length, Some, ap, sym, subst, refl, arith}
use Rattle.std.specs.Prelude.{get_or, slice_get, slice_index_or}
use Rattle.std.proofs.lemmas.List.{get_or_push, length_push}
use Rattle.m2_base.specs.Lists.{Each}
use Rattle.m2_base.proofs.EachLaws.{each_append}
use Rattle.expr_sem.specs.Fragments.{AreSound, IsBefore, IsIn, IsMadeOf, part, part_among, part_by, parts_after}
use Rattle.block_code.specs.Parts.{Part, none, skip, ◌⨟◌}
use Rattle.expr_sem.specs.Fragments.{jump_of}
use Rattle.expr_sem.specs.Stacks.{behind, stack_weight, three_to}
use Rattle.expr_sem.specs.declared.fragments.Form.{Form}
use Rattle.expr_sem.specs.declared.fragments.Form.TheVariants.{One, Skip, StringCopy, Text, Then, WithRecord}
use Rattle.expr_sem.specs.declared.fragments.Fragment.{Fragment}
use Rattle.expr_sem.specs.declared.fragments.Fragment.TheVariants.{Nothing, Node as NodeOf}
use Rattle.expr_sem.specs.declared.fragments.Node.{Node}
use Rattle.expr_sem.proofs.PieceParts.{lighter, stack_pushed, three_some}
use Rattle.expr_sem.proofs.Pushing.{there_at}
use Rattle.expr_sem.proofs.Sequencing.{parts_kept}

kept_among : (ps : List Part) (ns : List Node) (f : Fragment) → IsBefore (length ps) f → part_among (parts_after ps ns) f ≡ part_among ps f
kept_among ps ns Nothing h = refl
kept_among ps ns (NodeOf k) h = parts_kept ps ns k h

kept_by : (ps : List Part) (ns : List Node) (form : Form) → IsMadeOf (length ps) form → part_by (parts_after ps ns) form ≡ part_by ps form
kept_by ps ns (One s) h = refl
kept_by ps ns (Text t) h = refl
kept_by ps ns (StringCopy n t) h = refl
kept_by ps ns (WithRecord k) h = refl
kept_by ps ns (Then a b) h = ap (λ (p : Part). p ⨟ part_among (parts_after ps ns) b) (kept_among ps ns a h.0) ∙ ap (λ (p : Part). part_among ps a ⨟ p) (kept_among ps ns b h.1)
kept_by ps ns (Skip c a) h = ap (λ (p : Part). skip (jump_of c) p) (kept_among ps ns a h)

some_is : (x y : Node) → Some x ≡ Some y → x ≡ y
some_is x y e = cc

parts_at : (ps : List Part) (ns : List Node) (k : ℕ) (n : Node) → slice_get ns k ≡ Some n → IsMadeOf (length ps + k) n.form → slice_index_or (parts_after ps ns) (length ps + k) none ≡ part_by (parts_after ps ns) n.form
parts_at ps [] k n e h = absurd (cc)
parts_at ps (x ∷ ns) zero n e h =
    let same : length ps + 0 ≡ length ps = omega arith in
    let l = length_push ps (part_by ps x.form) in
    let m : IsMadeOf (length ps) x.form = subst (λ (y : Node). IsMadeOf (length ps) y.form) (sym (some_is x n e)) (subst (λ (j : ℕ). IsMadeOf j n.form) same h) in
    ap (λ (j : ℕ). slice_index_or (parts_after ps (x ∷ ns)) j none) same
    ∙ parts_kept (ps ++ part_by ps x.form ∷ []) ns (length ps) (omega (arith, l))
    ∙ get_or_push ps (part_by ps x.form) none (length ps) refl
    ∙ sym (kept_by ps (x ∷ ns) x.form m)
    ∙ ap (λ (y : Node). part_by (parts_after ps (x ∷ ns)) y.form) (some_is x n e)
parts_at ps (x ∷ ns) (suc k) n e h =
    let l = length_push ps (part_by ps x.form) in
    let same : length ps + suc k ≡ length (ps ++ part_by ps x.form ∷ []) + k = omega (arith, l) in
    ap (λ (j : ℕ). slice_index_or (parts_after ps (x ∷ ns)) j none) same
    ∙ parts_at (ps ++ part_by ps x.form ∷ []) ns k n e (subst (λ (j : ℕ). IsMadeOf j n.form) same h)

before_up : (j k : ℕ) (f : Fragment) → j ≤ k → IsBefore j f → IsBefore k f
before_up j k Nothing l h = tt
before_up j k (NodeOf i) l h = omega (arith, l, h)

made_up : (j k : ℕ) (form : Form) → j ≤ k → IsMadeOf j form → IsMadeOf k form
made_up j k (Then a b) l h = (before_up j k a l h.0, before_up j k b l h.1)
made_up j k (Skip c a) l h = before_up j k a l h
made_up j k (One s) l h = tt
made_up j k (Text t) l h = tt
made_up j k (StringCopy n t) l h = tt
made_up j k (WithRecord i) l h = tt

module _ (ns : List Node) (k : ℕ) (n : Node) (sound : AreSound ns) (h : k < length ns) (e : n ≡ get_or ns k n) where
  -- a node is made of earlier ones
  pub earlier_than : IsMadeOf k n.form
  earlier_than = (sound k n (there_at ns k n h e)).earlier

  pub made_there : IsMadeOf (length ns) n.form
  made_there = made_up k (length ns) n.form (omega (arith, h)) earlier_than

  -- and stands for what its form is made of
  pub node_part : part ns (NodeOf k) ≡ part_by (parts_after [] ns) n.form
  node_part = let z : 0 + k ≡ k = omega arith in
      ap (λ (j : ℕ). slice_index_or (parts_after [] ns) j none) (sym z)
      ∙ parts_at [] ns k n (there_at ns k n h e) (subst (λ (j : ℕ). IsMadeOf j n.form) (sym z) earlier_than)

in_of : (ns : List Node) (f : Fragment) → IsBefore (length ns) f → IsIn ns f
in_of ns Nothing h = tt
in_of ns (NodeOf k) h = h

behind_in : (ns : List Node) (form : Form) → IsMadeOf (length ns) form → Each (λ f. IsIn ns f) (behind form)
behind_in ns (Then a b) h = (in_of ns b h.1, (in_of ns a h.0, tt))
behind_in ns (Skip c a) h = (in_of ns a h, tt)
behind_in ns (One s) h = tt
behind_in ns (Text t) h = tt
behind_in ns (StringCopy n t) h = tt
behind_in ns (WithRecord i) h = tt

-- what comes on the stack is among the nodes
pub still_in : (ns : List Node) (rest more : List Fragment) (form : Form) → more ≡ rest ++ behind form → IsMadeOf (length ns) form → Each (λ f. IsIn ns f) rest → Each (λ f. IsIn ns f) more
still_in ns rest more form e h r = subst (λ (l : List Fragment). Each (λ f. IsIn ns f) l) (sym e) (each_append (λ f. IsIn ns f) rest (behind form) r (behind_in ns form h))

-- the front of the stack, and its last fragment
pub front_in : (ns : List Node) (rest : List Fragment) (f : Fragment) → Each (λ g. IsIn ns g) (rest ++ f ∷ []) → Each (λ g. IsIn ns g) rest × IsIn ns f
front_in ns [] f h = (tt, h.0)
front_in ns (x ∷ rest) f h = let r = front_in ns rest f h.1 in ((h.0, r.0), r.1)

weight_append : (xs ys : List Fragment) → stack_weight (xs ++ ys) ≡ stack_weight xs + stack_weight ys
weight_append [] ys = omega arith
weight_append (x ∷ xs) ys = let e = weight_append xs ys in omega (arith, e)

behind_light : (k : ℕ) (form : Form) → IsMadeOf k form → stack_weight (behind form) < three_to k + three_to k + three_to k
behind_light k (Then a b) h = let x = lighter k a h.0 in let y = lighter k b h.1 in let z = three_some k in omega (arith, x, y, z)
behind_light k (Skip c a) h = let x = lighter k a h in let z = three_some k in omega (arith, x, z)
behind_light k (One s) h = let z = three_some k in omega (arith, z)
behind_light k (Text t) h = let z = three_some k in omega (arith, z)
behind_light k (StringCopy n t) h = let z = three_some k in omega (arith, z)
behind_light k (WithRecord i) h = let z = three_some k in omega (arith, z)

-- the stack gets lighter
pub lighter_stack : (rest more : List Fragment) (k : ℕ) (form : Form) → more ≡ rest ++ behind form → IsMadeOf k form → stack_weight more < stack_weight (rest ++ NodeOf k ∷ [])
lighter_stack rest more k form e h =
    let w = behind_light k form h in
    let x = weight_append rest (behind form) in
    let y = stack_pushed rest (NodeOf k) in
    subst (λ (l : List Fragment). stack_weight l < stack_weight (rest ++ NodeOf k ∷ [])) (sym e) (omega (arith, w, x, y))
