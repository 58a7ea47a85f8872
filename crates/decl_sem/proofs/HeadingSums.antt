-- The sizes of a heading, section after section.
use Rattle.std.specs.Prelude.{◌≡◌, ℕ, ◌+◌, ◌-◌, ◌*◌, ◌<◌, ◌≤◌, ◌^◌, Bool, true, false, if◌then◌else◌, List, [], ◌∷◌, length, drop, flat_map, map}
use Rattle.std.proofs.Common.{refl, ap, ◌∙◌, arith, get_or}
use Rattle.std.proofs.lemmas.List.{length-append, length-map}
use Rattle.m2_base.specs.Rows.{param_kind}
use Rattle.m2_base.specs.Statics.ProcedureRows.{parameter_cells, parameter_count, section_cells, sections_length}
use Rattle.m2_base.specs.Statics.Shapes.{nameless, open_shapes, section_shapes}
use Rattle.m2_base.specs.Views.{section_view}
use Rattle.m2_base.specs.declared.trees.Ident.{Ident}
use Rattle.m2_base.specs.declared.trees.declarations.Section.{Section}
use Rattle.decl_sem.proofs.VariableLists.{next_left, none_left}
use Rattle.decl_sem.specs.declared.heading_sizes.HeadingSizes.{HeadingSizes}

-- the sizes are those of the first k sections
pub record IsSumUpTo (s : HeadingSizes) (sections : List Section) (k : ℕ) : Type 0 where
  pub count : s.count + parameter_count (map section_view (drop k sections)) ≡ parameter_count (map section_view sections)
  pub cells : s.cells + parameter_cells (map section_view (drop k sections)) ≡ parameter_cells (map section_view sections)
  pub rows : s.rows + sections_length (map section_view (drop k sections)) ≡ sections_length (map section_view sections)

-- a section has no more names than rows, and fewer than two cells for each row
section_within : (d : Section) → (length d.names.items ≤ length (section_shapes (section_view d))) × (section_cells (section_view d) ≤ 2 * length (section_shapes (section_view d)) - 1)
section_within d =
    let l = length-append (open_shapes d.is_open d.of) (map (λ i. nameless param_kind i.at) d.names.items) in
    let m = length-map d.names.items (λ (i : Ident). nameless param_kind i.at) in
    go d.is_open l m
  where
    n : ℕ
    n = length d.names.items

    go : (b : Bool) → length (section_shapes (section_view d)) ≡ length (open_shapes b d.of) + length (map (λ i. nameless param_kind i.at) d.names.items) → length (map (λ i. nameless param_kind i.at) d.names.items) ≡ n
        → (n ≤ length (section_shapes (section_view d))) × ((if b then 2 * n else n) ≤ 2 * length (section_shapes (section_view d)) - 1)
    go true l m = (omega (arith, l, m), omega (arith, l, m))
    go false l m = (omega (arith, l, m), omega (arith, l, m))

-- and so have all
pub within_rows : (sections : List Section) → (parameter_count (map section_view sections) ≤ sections_length (map section_view sections)) × (parameter_cells (map section_view sections) ≤ 2 * sections_length (map section_view sections) - 1)
within_rows [] = (omega arith, omega arith)
within_rows (d ∷ sections) =
    let one = section_within d in
    let rest = within_rows sections in
    let one0 = one.0 in
    let one1 = one.1 in
    let rest0 = rest.0 in
    let rest1 = rest.1 in
    (omega arith, omega arith)

-- so the sizes of the sections before one more have room for its sizes
module _ (s : HeadingSizes) (sections : List Section) (k : ℕ) (d : Section) (h : k < length sections) (few : sections_length (map section_view sections) ≤ 2 ^ 31) (so : IsSumUpTo s sections k) where
  pub room_for_count : s.count + length (get_or sections k d).names.items < 2 ^ 32
  room_for_count =
      let e = ap (λ (ss : List Section). parameter_count (map section_view ss)) (next_left sections k d h) in
      let all = (within_rows sections).0 in
      omega (arith, so.count)

  pub room_for_cells : s.cells + section_cells (section_view (get_or sections k d)) < 2 ^ 32
  room_for_cells =
      let e = ap (λ (ss : List Section). parameter_cells (map section_view ss)) (next_left sections k d h) in
      let all = (within_rows sections).1 in
      omega (arith, so.cells)

  pub room_for_rows : s.rows + length (section_shapes (section_view (get_or sections k d))) < 2 ^ 32
  room_for_rows =
      let e = ap (λ (ss : List Section). sections_length (map section_view ss)) (next_left sections k d h) in
      omega (arith, so.rows)

-- the rows of a heading round the procedure are as many as their shapes
pub rows_are_shapes : (sections : List Section) → length (flat_map section_shapes (map section_view sections)) ≡ sections_length (map section_view sections)
rows_are_shapes [] = refl
rows_are_shapes (d ∷ sections) = length-append (section_shapes (section_view d)) (flat_map section_shapes (map section_view sections)) ∙ ap (λ n. length (section_shapes (section_view d)) + n) (rows_are_shapes sections)

-- of one more section
pub one_more : (s t : HeadingSizes) (sections : List Section) (k : ℕ) (d : Section) → k < length sections
    → t.count ≡ s.count + length (get_or sections k d).names.items → t.cells ≡ s.cells + section_cells (section_view (get_or sections k d)) → t.rows ≡ s.rows + length (section_shapes (section_view (get_or sections k d)))
    → IsSumUpTo s sections k → IsSumUpTo t sections (k + 1)
one_more s t sections k d h count cells rows so =
    let e = next_left sections k d h in
    let count' = ap (λ (ss : List Section). parameter_count (map section_view ss)) e in
    let cells' = ap (λ (ss : List Section). parameter_cells (map section_view ss)) e in
    let rows' = ap (λ (ss : List Section). sections_length (map section_view ss)) e in
    record { count = omega (arith, so.count); cells = omega (arith, so.cells); rows = omega (arith, so.rows) }

-- of all sections
pub all_counted : (s : HeadingSizes) (sections : List Section) → IsSumUpTo s sections (length sections) → s.count ≡ parameter_count (map section_view sections)
all_counted s sections so =
    let e = ap (λ (ss : List Section). parameter_count (map section_view ss)) (none_left sections) in
    omega (arith, so.count)

pub all_cells : (s : HeadingSizes) (sections : List Section) → IsSumUpTo s sections (length sections) → s.cells ≡ parameter_cells (map section_view sections)
all_cells s sections so =
    let e = ap (λ (ss : List Section). parameter_cells (map section_view ss)) (none_left sections) in
    omega (arith, so.cells)

pub all_rows : (s : HeadingSizes) (sections : List Section) → IsSumUpTo s sections (length sections) → s.rows ≡ sections_length (map section_view sections)
all_rows s sections so =
    let e = ap (λ (ss : List Section). sections_length (map section_view ss)) (none_left sections) in
    omega (arith, so.rows)

pub ruleset summing = (one_more, all_counted, all_cells, all_rows)
