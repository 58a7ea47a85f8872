-- Operands in an array.
use Rattle.std.proofs.Common.{◌≡◌, ℕ, ◌+◌, ◌-◌, ◌<◌, ◌≤◌, List, [], ◌∷◌, ◌++◌, length, get_or, take, drop, Some, false, ltb, subst, refl, sym, ap, ◌∙◌, arith, ℤ, pos}
use Rattle.std.specs.Prelude.{slice_set, slice_get}
use Rattle.std.proofs.Math.Seq.{get_or-append_seam}
use Rattle.std.proofs.lemmas.Option.{slice_get-get_or}
use Rattle.std.proofs.lemmas.List.{length-take-le, get_or-take, take_more_set, take-take, drop-take, take_at, length-append}
use Rattle.std.proofs.lemmas.Bool.{le-ltb}
use Rattle.stack_machine.specs.declared.core_state.Frame.{Frame}
use Rattle.stack_machine.specs.declared.code.Routine.{Routine}
use Rattle.stack_machine.specs.State.{State}
use Rattle.stack_machine.specs.Operands.{top_of, without}
use Rattle.stack_machine.specs.Step.{innermost, called, with_frame_at, size_of, Next, Goes}

len : (xs : List ℤ) (sp : ℕ) → sp ≤ length xs → length (take sp xs) ≡ sp
len xs sp le = length-take-le sp xs le

pub top_is : (n : ℕ) (xs : List ℤ) (sp : ℕ) → sp ≤ length xs → n < sp → get_or xs (sp - 1 - n) (pos 0) ≡ top_of n (take sp xs)
top_is n xs sp le lt =
    let e = len xs sp le in
    let h : length (take sp xs) - 1 - n < sp = omega arith in
    sym (get_or-take sp xs (length (take sp xs) - 1 - n) (pos 0) h ∙ ap (λ (k : ℕ). get_or xs (k - 1 - n) (pos 0)) e)

pub below_is : (n : ℕ) (xs : List ℤ) (sp : ℕ) → sp ≤ length xs → without n (take sp xs) ≡ take (sp - n) xs
below_is n xs sp le = ap (λ (k : ℕ). take (k - n) (take sp xs)) (len xs sp le) ∙ take-take (sp - n) sp xs (omega arith)

pub put_is : (n : ℕ) (xs : List ℤ) (sp : ℕ) (v : ℤ) → sp ≤ length xs → n ≤ sp → sp - n < length xs → take (sp - n + 1) (slice_set xs (sp - n) v) ≡ without n (take sp xs) ++ v ∷ []
put_is n xs sp v le le' lt = take_more_set xs (sp - n) v lt ∙ ap (λ (t : List ℤ). t ++ v ∷ []) (sym (below_is n xs sp le))

-- the operands from a place on, as a part of the array
pub last_are : (n : ℕ) (xs : List ℤ) (sp : ℕ) → sp ≤ length xs → n ≤ sp → take (sp - (sp - n)) (drop (sp - n) xs) ≡ drop (length (take sp xs) - n) (take sp xs)
last_are n xs sp le le' =
    let whole : sp - n + (sp - (sp - n)) ≡ sp = omega arith in
    sym (drop-take (sp - n) (sp - (sp - n)) xs) ∙ ap (λ (k : ℕ). drop (sp - n) (take k xs)) whole ∙ sym (ap (λ (k : ℕ). drop (k - n) (take sp xs)) (len xs sp le))

pub innermost_is : (xs ys : List Frame) (f : Frame) → xs ≡ ys ++ f ∷ [] → (innermost xs ≡ Some f) × (take (length xs - 1) xs ≡ ys)
innermost_is xs ys f e = subst (λ (zs : List Frame). (innermost zs ≡ Some f) × (take (length zs - 1) zs ≡ ys)) (sym e) (last_one ys f, front_of ys f) where
  last_one : (ys : List Frame) (f : Frame) → innermost (ys ++ f ∷ []) ≡ Some f
  last_one [] f = refl
  last_one (y ∷ ys) f =
      let n : length (ys ++ f ∷ []) ≡ length (y ∷ ys) = omega (arith, length-append ys (f ∷ [])) in
      ap (slice_get ((y ∷ ys) ++ f ∷ [])) n ∙ slice_get-get_or ((y ∷ ys) ++ f ∷ []) (length (y ∷ ys)) f (omega (arith, length-append (y ∷ ys) (f ∷ []))) ∙ ap Some (get_or-append_seam (y ∷ ys) f [] f)

  front_of : (ys : List Frame) (f : Frame) → take (length (ys ++ f ∷ []) - 1) (ys ++ f ∷ []) ≡ ys
  front_of ys f = let e : length (ys ++ f ∷ []) - 1 ≡ length ys = omega (arith, length-append ys (f ∷ [])) in ap (λ (k : ℕ). take k (ys ++ f ∷ [])) e ∙ take_at ys (f ∷ []) (length ys) refl

pub call_is : (p : Routine) (n link : ℕ) (s : State) (sp : ℕ) (xs cells' : List ℤ) (frames' : List Frame) → s.operands ≡ take sp xs → sp ≤ length xs → n ≤ sp → p.params ≤ n → s.top + size_of p ≤ s.heap
    → cells' ≡ with_frame_at s.cells s.top (size_of p) (take (sp - (sp - p.params)) (drop (sp - p.params) xs)) → frames' ≡ s.frames ++ (record { at = s.at + 1; base = s.base; top = s.top; link = s.link }) ∷ []
    → called p n link s ≡ Goes (record { at = p.entry; base = s.top; top = s.top + size_of p; link = link; heap = s.heap; kept = s.kept; operands = take (sp - n) xs; cells = cells'; frames = frames' })
unfolding called
call_is p n link s sp xs cells' frames' is le le' params room e2 e3 =
    let m : length s.operands ≡ sp = ap length is ∙ len xs sp le in
    let test1 : ltb (length s.operands) n ≡ false = le-ltb _ _ (omega arith) in
    let test2 : ltb s.heap (s.top + size_of p) ≡ false = le-ltb _ _ room in
    let ops : without n s.operands ≡ take (sp - n) xs = ap (without n) is ∙ below_is n xs sp le in
    let args : drop (length s.operands - p.params) s.operands ≡ take (sp - (sp - p.params)) (drop (sp - p.params) xs) = ap (λ (ys : List ℤ). drop (length ys - p.params) ys) is ∙ sym (last_are p.params xs sp le (omega arith)) in
    let cells : with_frame_at s.cells s.top (size_of p) (drop (length s.operands - p.params) s.operands) ≡ cells' = ap (with_frame_at s.cells s.top (size_of p)) args ∙ sym e2 in
    rw (test1, test2) (goes _ _ _ _ _ _ ops cells (sym e3)) where
      same : List ℤ → List ℤ → List Frame → Next
      same a b c = Goes (record { at = p.entry; base = s.top; top = s.top + size_of p; link = link; heap = s.heap; kept = s.kept; operands = a; cells = b; frames = c })

      goes : (a a' : List ℤ) (b b' : List ℤ) (c c' : List Frame) → a ≡ a' → b ≡ b' → c ≡ c' → same a b c ≡ same a' b' c'
      goes a a' b b' c c' e1 e2 e3 = cc
