-- One more instruction behind those that were listed.
use Rattle.std.proofs.Common.{◌≡◌, ℕ, ◌+◌, ◌<◌, ◌≤◌, List, [], ◌∷◌, ◌++◌, length, take, drop, refl, sym, ap, ◌∙◌, append_assoc, arith}
use Rattle.std.specs.Prelude.{ℤ, pos, ◌+ℤ◌, ◌-ℤ◌}
use Rattle.std.specs.List.{AllByRecursion}
use Rattle.std.proofs.lemmas.List.{take-append-drop, length-append, length-take-le, append-nil, length-drop, take_at}
use Rattle.std.proofs.lemmas.Grind.{flat_map-append}
use Rattle.std.specs.Prelude.{Option, Some}
use Rattle.code_form.specs.declared.instr.Instr.{Instr}
use Rattle.code_form.specs.Instructions.{IsInstr}
use Rattle.code_form.specs.Bytes.{spelling, size, code_bytes, BeginsWith}
use Rattle.code_form.specs.Heights.{Callees, Step, step_among}
use Rattle.code_form.specs.Valid.{Point, points, AreInstrs, StopsAt}
use Rattle.object_file.specs.Points.{end_of, height_of}
use Rattle.code_form.proofs.Spellings.{length-spelling}

pub end_of-more : (at : ℕ) (is : List Instr) (i : Instr) → end_of at (is ++ i ∷ []) ≡ end_of at is + size i
end_of-more at [] i = refl
end_of-more at (x ∷ is) i = end_of-more (at + size x) is i

pub height_of-more : (c : Callees) (h : ℤ) (is : List Instr) (i : Instr) → height_of c h (is ++ i ∷ []) ≡ height_of c h is -ℤ pos (step_among c i).takes +ℤ pos (step_among c i).leaves
height_of-more c h [] i = refl
height_of-more c h (x ∷ is) i = height_of-more c (h -ℤ pos (step_among c x).takes +ℤ pos (step_among c x).leaves) is i

pub points-more : (c : Callees) (at : ℕ) (h : ℤ) (is : List Instr) (i : Instr) → points c at h (is ++ i ∷ []) ≡ points c at h is ++ record { at = end_of at is; height = height_of c h is; step = step_among c i } ∷ []
points-more c at h [] i = refl
points-more c at h (x ∷ is) i =
    ap (λ (ps : List Point). record { at = at; height = h; step = step_among c x } ∷ ps) (points-more c (at + size x) (h -ℤ pos (step_among c x).takes +ℤ pos (step_among c x).leaves) is i)

pub length-code_bytes : (at : ℕ) (is : List Instr) → end_of at is ≡ at + length (code_bytes is)
length-code_bytes at [] = omega arith
length-code_bytes at (i ∷ is) = length-code_bytes (at + size i) is ∙ omega (arith, length-spelling i, length-append (spelling i) (code_bytes is))

-- what stands before the next place
front : (code : List ℕ) (at end : ℕ) (i : Instr) → at < end → end ≤ length code → drop at code ≡ spelling i ++ drop end code → take end code ≡ take at code ++ spelling i
front code at end i lt le e =
    let whole : code ≡ (take at code ++ spelling i) ++ drop end code = sym (take-append-drop at code) ∙ ap (λ (b : List ℕ). take at code ++ b) e ∙ sym (append_assoc (take at code) (spelling i) (drop end code)) in
    let lens : length (drop at code) ≡ length (spelling i) + length (drop end code) = ap length e ∙ length-append (spelling i) (drop end code) in
    let n : length (take at code ++ spelling i) ≡ end = omega (arith, lens, length-drop at code, length-drop end code, length-append (take at code) (spelling i), length-take-le at code (omega arith)) in
    ap (take end) whole ∙ take_at (take at code ++ spelling i) (drop end code) end n

in_range_more : (is : List Instr) (i : Instr) → AllByRecursion IsInstr is → IsInstr i → AllByRecursion IsInstr (is ++ i ∷ [])
in_range_more [] i h f = (f, tt)
in_range_more (x ∷ is) i h f = (h.0, in_range_more is i h.1 f)

pub AreInstrs-more : (code : List ℕ) (at end : ℕ) (is : List Instr) (i : Instr) → AreInstrs (take at code) is → BeginsWith (drop at code) i (drop end code) → at < end → end ≤ length code → AreInstrs (take end code) (is ++ i ∷ [])
AreInstrs-more code at end is i h b lt le = record {
  spelled = front code at end i lt le b.spelled ∙ ap (λ (t : List ℕ). t ++ spelling i) h.spelled ∙ ap (λ (t : List ℕ). code_bytes is ++ t) (sym (append-nil (spelling i))) ∙ sym (flat_map-append spelling is (i ∷ []));
  in_range = in_range_more is i h.in_range b.in_range;
}

pub stops : (code : List ℕ) (at : ℕ) (is : List Instr) → AreInstrs (take at code) is → at < length code → ((i : Instr) (rest : List ℕ) → BeginsWith (drop at code) i rest → ⊥) → StopsAt code at
stops code at is h lt none = record {
  before = is;
  rest = drop at code;
  in_range = h.in_range;
  spelled = sym (take-append-drop at code) ∙ ap (λ (t : List ℕ). t ++ drop at code) h.spelled;
  place = sym (length-take-le at code (omega arith)) ∙ ap length h.spelled;
  more = omega (arith, length-drop at code);
  none = none;
}

both : (i j : Instr) (m n : ℕ) → ◌≡◌ {A = Option (Instr × ℕ)} (Some (j, m)) (Some (i, n)) → (j ≡ i) × (m ≡ n)
both i j m n e = let p : ◌≡◌ {A = Instr × ℕ} (j, m) (i, n) = cc in (ap (λ (q : Instr × ℕ). q.0) p, ap (λ (q : Instr × ℕ). q.1) p)

-- the place behind an instruction that was decoded
pub place_is : (i j : Instr) (end at : ℕ) → ◌≡◌ {A = Option (Instr × ℕ)} (Some (j, end)) (Some (i, at + length (spelling i))) → end ≡ at + size j
place_is i j end at e =
    let h = both i j end (at + length (spelling i)) e in
    h.1 ∙ ap (λ (n : ℕ). at + n) (length-spelling i ∙ ap size (sym h.0))

pub point-is : (at at' : ℕ) (h h' : ℤ) (s s' : Step) → at ≡ at' → h ≡ h' → s ≡ s' → ◌≡◌ {A = Point} (record { at = at; height = h; step = s }) (record { at = at'; height = h'; step = s' })
point-is at at' h h' s s' p q r = rw (p, q, r) refl

pub height-is : (h h' : ℤ) (s s' : Step) → h ≡ h' → s ≡ s' → h -ℤ pos s.takes +ℤ pos s.leaves ≡ h' -ℤ pos s'.takes +ℤ pos s'.leaves
height-is h h' s s' q r = rw (q, r) refl
