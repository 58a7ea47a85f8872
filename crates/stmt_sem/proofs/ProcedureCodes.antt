-- What is summed up of steps and of sections, one after another.
use Rattle.std.specs.Prelude.{◌≡◌, ℕ, ◌+◌, ◌-◌, ◌<◌, ◌≤◌, max, List, [], ◌∷◌, ◌++◌, length, drop, map}
use Rattle.std.specs.List.{flat_map}
use Rattle.std.proofs.Common.{refl, sym, ap, ◌∙◌, arith, get_or, append_assoc}
use Rattle.std.proofs.lemmas.List.{append-nil, drop_all, drop_more}
use Rattle.m2_base.specs.Statics.ProcedureRows.{parameter_cells, section_cells}
use Rattle.m2_base.specs.Views.{section_view}
use Rattle.m2_base.specs.declared.trees.declarations.Section.{Section}
use Rattle.code_form.specs.Bytes.{spelling}
use Rattle.code_form.specs.Heights as heights
use Rattle.code_form.specs.Heights.{greatest}
use Rattle.expr_sem.specs.Fragments.{step_view}
use Rattle.expr_sem.specs.declared.steps.Step.{Step}

-- ** Heights

-- these are the height after the first k steps, and the greatest before
pub record IsHighUpTo (height high : ℕ) (steps : List Step) (k : ℕ) : Type 0 where
  pub greatest_is : max high (greatest height (map step_view (drop k steps))) ≡ greatest 0 (map step_view steps)
  pub within : height ≤ high

reaches : (h : ℕ) (ss : List heights.Step) → h ≤ greatest h ss
reaches h [] = omega arith
reaches h (s ∷ ss) = grind arith

joined : (a b c d : ℕ) → b ≤ a → d ≤ c → max a (max b c) ≡ max (max a d) c
joined a b c d p q = grind arith

pub high_begins : (steps : List Step) → IsHighUpTo 0 0 steps 0
high_begins steps = record { greatest_is = first (greatest 0 (map step_view steps)); within = omega arith }
  where
    first : (n : ℕ) → max 0 n ≡ n
    first n = grind arith

pub high_more : (height after high next : ℕ) (steps : List Step) (k : ℕ) (d : Step) → k < length steps
    → after ≡ height - (get_or steps k d).takes + (get_or steps k d).leaves → next ≡ max high after → IsHighUpTo height high steps k → IsHighUpTo after next steps (k + 1)
high_more height after high next steps k d h is next_is so =
    let s = get_or steps k d in
    let rest = map step_view (drop (k + 1) steps) in
    let there = ap (λ (ss : List Step). max high (greatest height (map step_view ss))) (drop_more steps k d h) in
    let step : max high (max height (greatest after rest)) ≡ max (max high after) (greatest after rest) = joined high height (greatest after rest) after so.within (reaches after rest) in
    record {
      greatest_is = ap (λ n. max n (greatest after rest)) next_is ∙ sym step ∙ ap (λ n. max high (max height (greatest n rest))) is ∙ sym there ∙ so.greatest_is;
      within = above next_is;
    }
  where
    above : next ≡ max high after → after ≤ next
    above e = grind arith

pub high_all : (height high : ℕ) (steps : List Step) (k : ℕ) → length steps ≤ k → IsHighUpTo height high steps k → high ≡ greatest 0 (map step_view steps)
high_all height high steps k past so =
    let none = ap (λ (ss : List Step). max high (greatest height (map step_view ss))) (drop_all k steps past) in
    sym (whole so.within) ∙ sym none ∙ so.greatest_is
  where
    whole : height ≤ high → max high height ≡ high
    whole h = grind arith

-- ** Bytes

-- the first k steps have these bytes
abbrev pub HasBytesOf : (bytes : List ℕ) → List Step → (k : ℕ) → Type 0
HasBytesOf bytes steps k = bytes ++ flat_map (λ (s : Step). spelling s.instr) (drop k steps) ≡ flat_map (λ (s : Step). spelling s.instr) steps

pub bytes_more : (bytes next : List ℕ) (steps : List Step) (k : ℕ) (d : Step) → k < length steps → next ≡ bytes ++ spelling (get_or steps k d).instr → HasBytesOf bytes steps k → HasBytesOf next steps (k + 1)
bytes_more bytes next steps k d h is so =
    let rest = flat_map (λ (s : Step). spelling s.instr) (drop (k + 1) steps) in
    ap (λ bs. bs ++ rest) is ∙ append_assoc bytes (spelling (get_or steps k d).instr) rest
    ∙ ap (λ (ss : List Step). bytes ++ flat_map (λ (s : Step). spelling s.instr) ss) (sym (drop_more steps k d h)) ∙ so

pub bytes_all : (bytes : List ℕ) (steps : List Step) (k : ℕ) → length steps ≤ k → HasBytesOf bytes steps k → bytes ≡ flat_map (λ (s : Step). spelling s.instr) steps
bytes_all bytes steps k past so =
    sym (append-nil bytes) ∙ ap (λ (ss : List Step). bytes ++ flat_map (λ (s : Step). spelling s.instr) ss) (sym (drop_all k steps past)) ∙ so

-- the bytes of steps are those of their instructions
pub bytes_of_steps : (steps : List Step) → flat_map (λ (s : Step). spelling s.instr) steps ≡ flat_map spelling (map (λ (s : heights.Step). s.instr) (map step_view steps))
bytes_of_steps [] = refl
bytes_of_steps (s ∷ steps) = ap (λ bs. spelling s.instr ++ bs) (bytes_of_steps steps)

-- ** Sections

-- the first k sections have so many cells
abbrev pub HasCellsOf : (cells : ℕ) → List Section → (k : ℕ) → Type 0
HasCellsOf cells sections k = cells + parameter_cells (map section_view (drop k sections)) ≡ parameter_cells (map section_view sections)

pub cells_more : (cells next : ℕ) (sections : List Section) (k : ℕ) (d : Section) → k < length sections → next ≡ cells + section_cells (section_view (get_or sections k d)) → HasCellsOf cells sections k → HasCellsOf next sections (k + 1)
cells_more cells next sections k d h is so =
    let there = ap (λ (ss : List Section). parameter_cells (map section_view ss)) (drop_more sections k d h) in
    omega (arith, is, there, so)

pub cells_all : (cells : ℕ) (sections : List Section) (k : ℕ) → length sections ≤ k → HasCellsOf cells sections k → cells ≡ parameter_cells (map section_view sections)
cells_all cells sections k past so =
    let none = ap (λ (ss : List Section). parameter_cells (map section_view ss)) (drop_all k sections past) in
    omega (arith, none, so)

pub ruleset heightening = (high_begins, high_more, high_all)

pub ruleset spelling_on = (bytes_more, bytes_all)

pub ruleset counting_on = (cells_more, cells_all)
