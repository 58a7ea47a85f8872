-- Parts appended to a piece one after another.
use Rattle.std.proofs.Common.{Result, Ok, Err, pos, ◌≡◌, ◌∙◌, ◌++◌, ◌∷◌, [], ℕ, zero, suc, ◌+◌, ◌≤◌, List, length, map, ap, sym, subst, refl, arith, append_assoc}
use Rattle.std.proofs.lemmas.List.{append-nil, map-append}
use Rattle.std.specs.Prelude.{OnOk, min}
use Rattle.m2_base.specs.declared.memory.Memory.{Memory}
use Rattle.m2_base.specs.Statics.Cells.{capped}
use Rattle.m2_base.proofs.Kept.{IsPrefixOf-refl, IsPrefixOf-trans}
use Rattle.code_form.specs.Heights.{Step}
use Rattle.block_code.specs.Arguments.{string_copy}
use Rattle.expr_sem.specs.Fragments.{IsBefore, jump_of, part, part_by, parts_after, step_view}
use Rattle.block_code.specs.Parts.{Made, Part, Spot, none, plain, steps, steps_size, text, unless_too_many, ◌⨟◌}
use Rattle.expr_sem.specs.Pieces.{Appended, Begins, extend, spot_of}
use Rattle.expr_sem.specs.Stacks.{Visited, behind, ends_as, remaining, stack_weight, three_to, weight}
use Rattle.code_form.specs.declared.instr.Instr.TheVariants.{Local, Move, Str}
use Rattle.expr_sem.specs.declared.fragments.Connective.{Connective}
use Rattle.expr_sem.specs.declared.fragments.Form.{Form}
use Rattle.expr_sem.specs.declared.fragments.Form.TheVariants.{Skip}
use Rattle.expr_sem.specs.declared.fragments.Fragment.{Fragment}
use Rattle.expr_sem.specs.declared.fragments.Fragment.TheVariants.{Nothing, Node as NodeOf}
use Rattle.expr_sem.specs.declared.fragments.Node.{Node}
use Rattle.expr_sem.specs.declared.pieces.Piece.{Piece}
use Rattle.expr_sem.specs.declared.pieces.With.{With}
use Rattle.expr_sem.specs.declared.steps.Step.{Step as CodeStep}

pub Begins-refl : (p : Piece) → Begins p p
Begins-refl p = record { steps = IsPrefixOf-refl p.steps.items; bytes = IsPrefixOf-refl p.bytes.items }

pub Begins-trans : {p q r : Piece} → Begins p q → Begins q r → Begins p r
Begins-trans h k = record { steps = IsPrefixOf-trans h.steps k.steps; bytes = IsPrefixOf-trans h.bytes k.bytes }

-- one part after another
pub append_then : {a b c : Piece} {ws : List With} {p q : Part} → Appended a b ws p → Appended b c ws q → Appended a c ws (p ⨟ q)
append_then {a} {b} {c} {ws} {p} {q} h k =
    let m = p (spot_of a ws) in
    record {
      steps = k.steps ∙ ap (λ (s : Spot). map step_view b.steps.items ++ (q s).code) h.next ∙ ap (λ (l : List Step). l ++ (q m.next).code) h.steps
          ∙ append_assoc (map step_view a.steps.items) m.code (q m.next).code;
      bytes = k.bytes ∙ ap (λ (s : Spot). b.bytes.items ++ (q s).bytes) h.next ∙ ap (λ (l : List ℕ). l ++ (q m.next).bytes) h.bytes
          ∙ append_assoc a.bytes.items m.bytes (q m.next).bytes;
      next = k.next ∙ ap (λ (s : Spot). (q s).next) h.next;
    }

-- a step more
pub append_step : (a b : Piece) (ws : List With) (s : CodeStep) → b.steps.items ≡ a.steps.items ++ s ∷ [] → b.bytes ≡ a.bytes → b.cell ≡ a.cell → b.byte ≡ a.byte
    → Appended a b ws (steps (step_view s ∷ []))
append_step a b ws s h bytes cell byte =
    record {
      steps = ap (λ (l : List CodeStep). map step_view l) h ∙ map-append step_view a.steps.items (s ∷ []);
      bytes = ap (λ v. v.items) bytes ∙ sym (append-nil a.bytes.items);
      next = ap (λ (n : ℕ). record { cell = n; byte = b.byte; withs = map (λ w. w.cell) ws }) cell ∙ ap (λ (n : ℕ). record { cell = a.cell; byte = n; withs = map (λ w. w.cell) ws }) byte;
    }

pub three_some : (k : ℕ) → 1 ≤ three_to k
three_some zero = omega arith
three_some (suc k) = let h = three_some k in omega (arith, h)

three_up : (j k : ℕ) → j ≤ k → three_to j ≤ three_to k
three_up zero k h = three_some k
three_up (suc j) zero h = absurd (omega (arith, h))
three_up (suc j) (suc k) h = let e = three_up j k (omega (arith, h)) in omega (arith, e)

-- what a node is made of weighs less
pub lighter : (k : ℕ) (f : Fragment) → IsBefore k f → weight f ≤ three_to k
lighter k Nothing h = three_some k
lighter k (NodeOf j) h = three_up (suc j) k (omega (arith, h))

pub stack_pushed : (fs : List Fragment) (f : Fragment) → stack_weight (fs ++ f ∷ []) ≡ stack_weight fs + weight f
stack_pushed [] f = omega arith
stack_pushed (g ∷ fs) f = let e = stack_pushed fs f in omega (arith, e)

-- the same, where the later one may want memory
pub then_on : {T : Type 0} (r : Result T Memory) {a b : Piece} (c : Piece) {ws : List With} {p : Part} (q w : Part) → Appended a b ws p → (p ⨟ q) (spot_of a ws) ≡ w (spot_of a ws)
    → OnOk r (Appended b c ws q) → OnOk r (Appended a c ws w)
then_on (Ok v) {a} {b} c {ws} {p} q w h e k =
    let g : Appended a c ws (p ⨟ q) = append_then h k in
    record {
      steps = g.steps ∙ ap (λ (m : Made). map step_view a.steps.items ++ m.code) e;
      bytes = g.bytes ∙ ap (λ (m : Made). a.bytes.items ++ m.bytes) e;
      next = g.next ∙ ap (λ (m : Made). m.next) e;
    }
then_on (Err m) c q w h e k = tt

-- a copy of characters, once its cells are taken
pub copy_on : {T : Type 0} (r : Result T Memory) (a e : Piece) (ws : List With) (size : ℕ) (chars : List ℕ) (cell m : ℕ) → cell ≡ capped (a.cell + size) → m ≡ min (length chars + 1) size
    → OnOk r (Appended (record a { cell = cell }) e ws (plain (Local 0 a.cell ∷ []) ⨟ (text chars ⨟ plain (Move m ∷ Local 0 a.cell ∷ []))))
    → OnOk r (Appended a e ws (string_copy size chars))
copy_on (Err m) a e ws size chars cell n same_cell same h = tt
copy_on (Ok v) a e ws size chars cell n same_cell same h =
    let k : Appended (record a { cell = capped (a.cell + size) }) e ws (plain (Local 0 a.cell ∷ []) ⨟ (text chars ⨟ plain (Move (min (length chars + 1) size) ∷ Local 0 a.cell ∷ []))) =
    subst (λ (j : ℕ). Appended (record a { cell = capped (a.cell + size) }) e ws (plain (Local 0 a.cell ∷ []) ⨟ (text chars ⨟ plain (Move j ∷ Local 0 a.cell ∷ [])))) same
    (subst (λ (j : ℕ). Appended (record a { cell = j }) e ws (plain (Local 0 a.cell ∷ []) ⨟ (text chars ⨟ plain (Move n ∷ Local 0 a.cell ∷ [])))) same_cell h) in
    record { steps = k.steps; bytes = k.bytes; next = k.next }

-- characters, once their bytes are there
pub text_on : {T : Type 0} (r : Result T Memory) (a b c : Piece) (ws : List With) (chars : List ℕ) (last : ℕ) → last ≡ capped (a.byte + length chars + 1)
    → b.steps.items ≡ a.steps.items → b.bytes.items ≡ a.bytes.items ++ unless_too_many last (chars ++ 0 ∷ []) → b.cell ≡ a.cell → b.byte ≡ last
    → OnOk r (Appended b c ws (plain (Str a.byte ∷ []))) → OnOk r (Appended a c ws (text chars))
text_on (Err m) a b c ws chars last e steps bytes cell byte h = tt
text_on (Ok v) a b c ws chars last e steps bytes cell byte h =
    record {
      steps = h.steps ∙ ap (λ (l : List CodeStep). map step_view l ++ (plain (Str a.byte ∷ []) (spot_of b ws)).code) steps;
      bytes = h.bytes ∙ append-nil b.bytes.items ∙ bytes ∙ ap (λ (n : ℕ). a.bytes.items ++ unless_too_many n (chars ++ 0 ∷ [])) e;
      next = h.next ∙ ap (λ (n : ℕ). record { cell = n; byte = b.byte; withs = map (λ w. w.cell) ws }) cell
          ∙ ap (λ (n : ℕ). record { cell = a.cell; byte = n; withs = map (λ w. w.cell) ws }) (byte ∙ e);
    }

ends_then : (a : Piece) (ws : List With) (p r : Part) → ends_as a ws (p ⨟ r) ≡ extend (ends_as a ws p) r
ends_then a ws p r =
    let m = p (spot_of a ws) in
    let n = r m.next in
    ap (λ (l : List Step). record { code = l; bytes = a.bytes.items ++ (m.bytes ++ n.bytes); next = n.next }) (sym (append_assoc (map step_view a.steps.items) m.code n.code))
    ∙ ap (λ (l : List ℕ). record { code = (map step_view a.steps.items ++ m.code) ++ n.code; bytes = l; next = n.next }) (sym (append_assoc a.bytes.items m.bytes n.bytes))

ends_more : (a b : Piece) (ws : List With) (p q r : Part) → ends_as b ws p ≡ ends_as a ws q → ends_as b ws (p ⨟ r) ≡ ends_as a ws (q ⨟ r)
ends_more a b ws p q r e = ends_then b ws p r ∙ ap (λ (m : Made). extend m r) e ∙ sym (ends_then a ws q r)

-- what was appended, and what is to be
pub ended : {a b : Piece} {ws : List With} {p : Part} (q : Part) → Appended a b ws p → ends_as b ws q ≡ ends_as a ws (p ⨟ q)
ended {a} {b} {ws} {p} q h =
    let m = p (spot_of a ws) in
    ap (λ (l : List Step). record { code = l ++ (q (spot_of b ws)).code; bytes = b.bytes.items ++ (q (spot_of b ws)).bytes; next = (q (spot_of b ws)).next }) h.steps
    ∙ ap (λ (l : List ℕ). record { code = (map step_view a.steps.items ++ m.code) ++ (q (spot_of b ws)).code; bytes = l ++ (q (spot_of b ws)).bytes; next = (q (spot_of b ws)).next }) h.bytes
    ∙ ap (λ (s : Spot). record { code = (map step_view a.steps.items ++ m.code) ++ (q s).code; bytes = (a.bytes.items ++ m.bytes) ++ (q s).bytes; next = (q s).next }) h.next
    ∙ sym (ends_then a ws p q)

ends_alone : (a : Piece) (ws : List With) (p : Part) → ends_as a ws (p ⨟ none) ≡ ends_as a ws p
ends_alone a ws p =
    let m = p (spot_of a ws) in
    ap (λ (l : List Step). record { code = map step_view a.steps.items ++ l; bytes = a.bytes.items ++ (m.bytes ++ []); next = m.next }) (append-nil m.code)
    ∙ ap (λ (l : List ℕ). record { code = map step_view a.steps.items ++ m.code; bytes = a.bytes.items ++ l; next = m.next }) (append-nil m.bytes)

-- a form that puts nothing on the stack
pub leaf_on : {T : Type 0} (r : Result T Memory) (a b : Piece) (ws : List With) (ns : List Node) (form : Form) (rest : List Fragment) (p : Part) → behind form ≡ [] → part_by (parts_after [] ns) form ≡ p
    → OnOk r (Appended a b ws p) → OnOk r (Visited a b ws ns form rest rest)
leaf_on (Err m) a b ws ns form rest p none_behind is h = tt
leaf_on (Ok v) a b ws ns form rest p none_behind is h =
    record {
      pushed = sym (ap (λ (l : List Fragment). rest ++ l) none_behind ∙ append-nil rest);
      same = ap (λ (l : List Fragment). ends_as b ws (remaining ns l)) none_behind ∙ ended none h ∙ ends_alone a ws p ∙ ap (λ (q : Part). ends_as a ws q) (sym is);
    }

-- a jump, and what it skips on the stack
pub skipped : (a b : Piece) (ws : List With) (ns : List Node) (c : Connective) (f : Fragment) (size : ℕ) → ((at : Spot) → steps_size (part ns f at).code ≡ size)
    → Appended a b ws (plain (jump_of c (pos size) ∷ [])) → ends_as b ws (remaining ns (f ∷ [])) ≡ ends_as a ws (part_by (parts_after [] ns) (Skip c f))
skipped a b ws ns c f size sized h =
    ended (none ⨟ part ns f) h
    ∙ ap (λ (n : ℕ). ends_as a ws (plain (jump_of c (pos n) ∷ []) ⨟ part ns f)) (sym (sized (spot_of a ws)))

remaining_append : (ns : List Node) (xs ys : List Fragment) (a : Piece) (ws : List With) → ends_as a ws (remaining ns (xs ++ ys)) ≡ ends_as a ws (remaining ns ys ⨟ remaining ns xs)
remaining_append ns [] ys a ws = sym (ends_alone a ws (remaining ns ys))
remaining_append ns (x ∷ xs) ys a ws =
    ends_more a a ws (remaining ns (xs ++ ys)) (remaining ns ys ⨟ remaining ns xs) (part ns x) (remaining_append ns xs ys a ws)
    ∙ ends_then a ws (remaining ns ys ⨟ remaining ns xs) (part ns x) ∙ ap (λ (m : Made). extend m (part ns x)) (ends_then a ws (remaining ns ys) (remaining ns xs))
    ∙ again (ends_as a ws (remaining ns ys)) (remaining ns xs) (part ns x) ∙ sym (ends_then a ws (remaining ns ys) (remaining ns xs ⨟ part ns x))
  where
    again : (m : Made) (p q : Part) → extend (extend m p) q ≡ extend m (p ⨟ q)
    again m p q =
        let n = p m.next in
        let o = q n.next in
        ap (λ (l : List Step). record { code = l; bytes = (m.bytes ++ n.bytes) ++ o.bytes; next = o.next }) (append_assoc m.code n.code o.code)
        ∙ ap (λ (l : List ℕ). record { code = m.code ++ (n.code ++ o.code); bytes = l; next = o.next }) (append_assoc m.bytes n.bytes o.bytes)

-- one fragment from the stack was visited
pub one_visited : (ns : List Node) (a b : Piece) (ws : List With) (rest more : List Fragment) (f : Fragment) (form : Form) → part ns f ≡ part_by (parts_after [] ns) form → Visited a b ws ns form rest more
    → ends_as b ws (remaining ns more) ≡ ends_as a ws (remaining ns (rest ++ f ∷ []))
one_visited ns a b ws rest more f form is v =
    ap (λ (l : List Fragment). ends_as b ws (remaining ns l)) v.pushed
    ∙ remaining_append ns rest (behind form) b ws
    ∙ ends_more a b ws (remaining ns (behind form)) (part_by (parts_after [] ns) form) (remaining ns rest) v.same
    ∙ ap (λ (p : Part). ends_as a ws (p ⨟ remaining ns rest)) (sym is)
    ∙ sym (remaining_append ns rest (f ∷ []) a ws)

-- no code
pub none_visited : (ns : List Node) (a : Piece) (ws : List With) (rest : List Fragment) → ends_as a ws (remaining ns rest) ≡ ends_as a ws (remaining ns (rest ++ Nothing ∷ []))
none_visited ns a ws rest = sym (remaining_append ns rest (Nothing ∷ []) a ws)

-- nothing is left to be appended
pub ended_all : (ns : List Node) (a b : Piece) (ws : List With) (rest : List Fragment) (p : Part) → rest ≡ [] → ends_as b ws (remaining ns rest) ≡ ends_as a ws p → Appended a b ws p
ended_all ns a b ws rest p e h =
    let g : ends_as b ws none ≡ ends_as a ws p = ap (λ (l : List Fragment). ends_as b ws (remaining ns l)) (sym e) ∙ h in
    record {
      steps = sym (append-nil (map step_view b.steps.items)) ∙ ap (λ (m : Made). m.code) g;
      bytes = sym (append-nil b.bytes.items) ∙ ap (λ (m : Made). m.bytes) g;
      next = ap (λ (m : Made). m.next) g;
    }

pub empty_of : (l : List Fragment) → length l ≡ 0 → l ≡ []
empty_of [] e = refl
empty_of (x ∷ l) e = absurd (omega (arith, e))
