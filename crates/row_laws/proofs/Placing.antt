-- Variables are placed below the next free cell.
use Rattle.std.specs.Prelude.{◌≡◌, ℕ, suc, ◌+◌, ◌*◌, ◌^◌, ◌<◌, ◌≤◌, ◌==◌, Bool, true, false, if◌then◌else◌, List, [], ◌∷◌, ◌++◌, length}
use Rattle.std.proofs.Common.{ap, subst, refl, arith}
use Rattle.m2_base.specs.Lists.{Each}
use Rattle.m2_base.specs.Rows.{row_of, row_meaning, Fits, var_kind}
use Rattle.m2_base.specs.declared.rows.Mode.TheVariants.{Plain, ByAddress, Open}
use Rattle.m2_base.specs.declared.rows.Place.{Place}
use Rattle.m2_base.specs.declared.rows.Row.{Row}
use Rattle.m2_base.specs.declared.rows.RowMeaning.{RowMeaning}
use Rattle.m2_base.specs.declared.rows.RowMeaning.TheVariants.{Array, Record, Var}
use Rattle.m2_base.specs.declared.trees.Ident.{Ident}
use Rattle.m2_base.specs.Trees.{TypeExpr, Section}
use Rattle.m2_base.specs.Statics.Cells.{capped, most_cells}
use Rattle.m2_base.specs.Statics.Contexts.{Context, Scene}
use Rattle.m2_base.specs.Statics.Effects.{ParamCopy, open_copy, own_copy}
use Rattle.m2_base.specs.Statics.FormedRows.{IsFilled}
use Rattle.m2_base.specs.Statics.HeadingRows.{Placing, placing, open_copies, parameter_row, parameter_rows, own_section_rows, own_sections_rows}
use Rattle.m2_base.specs.Statics.Makes.{Makes, make_then, makes, with_rows, makes_named}
use Rattle.m2_base.specs.Statics.NameRows.{var_rows}
use Rattle.m2_base.specs.Statics.ProcedureRows.{section_cells, parameter_cells}
use Rattle.m2_base.specs.Statics.ProcedureTypes.{is_structured, open_array_row}
use Rattle.m2_base.specs.Statics.ShapedRows.{AreShaped}
use Rattle.m2_base.specs.Statics.Shapes.{Shape, type_shapes, open_shapes}
use Rattle.m2_base.specs.Statics.TypeNames.{type_of_qual}
use Rattle.m2_base.specs.Statics.Types.{kind_of, size_by, size_of, stands_for}
use Rattle.m2_base.proofs.EachLaws.{each_append, each_then}
use Rattle.m2_base.proofs.ShapeLaws.{open_of}
use Rattle.m2_base.proofs.Sound.{Sound, row_ok}
use Rattle.m2_base.proofs.SoundParts.{capped-most}
use Rattle.m2_base.proofs.SoundTypes.{kind_fits}
use Rattle.row_laws.specs.RowRanges.{IsBelow, IsCopyBelow, IsCopyInRange}
use Rattle.row_laws.proofs.Agreeing.{Ready, ready-left, ready-right, ready-then}
use Rattle.row_laws.proofs.Choices.{either_by, named_each}
use Rattle.row_laws.proofs.TypeShapes.{HaveKinds, OfTypes, kind_of_meaning, open_kinds, shaped_means, type_kinds}

-- ** Sizes

filled_size : (m : RowMeaning) → IsFilled m → 1 ≤ size_by m
filled_size (Array i t s) h = h
filled_size (Record f s) h = h
filled_size m h = omega arith

small_size : (names : ℕ) (p : Place) (m : RowMeaning) → Fits names p m → size_by m < 2 ^ 32
small_size names p (Array i t s) h = h.2
small_size names p (Record f s) h = h.1
small_size names p m h = omega arith

pub size_some : {names : ℕ} {scene : Scene} → Sound names scene → (t : Place) → 1 ≤ size_of scene t
size_some {names} {scene} sound t = filled_size (kind_of scene t) (row_ok sound (stands_for scene t)).cells

pub size_few : {names : ℕ} {scene : Scene} → Sound names scene → (t : Place) → size_of scene t < 2 ^ 32
size_few {names} {scene} sound t = small_size names (stands_for scene t) (kind_of scene t) (kind_fits sound t)

-- ** Rows that are placed

-- a variable's offset isn't too great, and its cells are below this one, unless that is one too many
abbrev pub IsPlaced : (cells : ℕ) → RowMeaning → Type 0
IsPlaced cells (Var t mode offset) = (offset ≤ most_cells + 1) × (cells ≤ most_cells → IsBelow cells (Var t mode offset))
IsPlaced cells other = Unit {0}

abbrev pub ArePlaced : (cells : ℕ) → List Row → Type 0
ArePlaced cells rows = Each (λ r. IsPlaced cells (row_meaning r)) rows

-- what is copied first is placed
abbrev pub IsCopyPlaced : (cells : ℕ) → ParamCopy → Type 0
IsCopyPlaced cells c = IsCopyInRange c × (cells ≤ most_cells → IsCopyBelow cells c)

pub below_more : (a b : ℕ) (m : RowMeaning) → a ≤ b → IsBelow a m → IsBelow b m
below_more a b (Var t Open o) h k = omega (arith, h, k)
below_more a b (Var t Plain o) h k = omega (arith, h, k)
below_more a b (Var t ByAddress o) h k = omega (arith, h, k)
below_more a b m h k = tt

pub placed_more : (a b : ℕ) (m : RowMeaning) → a ≤ b → IsPlaced a m → IsPlaced b m
placed_more a b (Var t mode o) h k = (k.0, λ few. below_more a b (Var t mode o) h (k.1 (omega (arith, h, few))))
placed_more a b m h k = tt

pub placed-more : (a b : ℕ) (rows : List Row) → a ≤ b → ArePlaced a rows → ArePlaced b rows
placed-more a b rows h k = each_then (λ (r : Row). IsPlaced a (row_meaning r)) (λ (r : Row). IsPlaced b (row_meaning r)) rows (λ r. placed_more a b (row_meaning r) h) k

copy_below_more : (a b : ℕ) (c : ParamCopy) → a ≤ b → IsCopyBelow a c → IsCopyBelow b c
copy_below_more a b (own_copy own cell size) h k = let x = k.0 in let y = k.1 in (omega (arith, h, x), omega (arith, h, y))
copy_below_more a b (open_copy cell size) h k = omega (arith, h, k)

pub copies-more : (a b : ℕ) (cs : List ParamCopy) → a ≤ b → Each (IsCopyPlaced a) cs → Each (IsCopyPlaced b) cs
copies-more a b cs h k = each_then (IsCopyPlaced a) (IsCopyPlaced b) cs (λ c p. (p.0, λ few. copy_below_more a b c h (p.1 (omega (arith, h, few))))) k

-- ** Rows of other kinds

-- the kind is no variable's
abbrev pub IsOther : ℕ → Type 0
IsOther k = (k == var_kind) ≡ false

pub others : OfTypes IsOther
others = record { const_kind = refl; field_kind = refl; param_kind = refl; enum_kind = refl; subrange_kind = refl; array_kind = refl; open_array_kind = refl; record_kind = refl; set_kind = refl; pointer_kind = refl; proc_type_kind = refl; opaque_kind = refl }

other_placed : (cells : ℕ) (m : RowMeaning) → IsOther (kind_of_meaning m) → IsPlaced cells m
other_placed cells (Var t mode o) h = absurd (cc)
other_placed cells m h = tt

pub shaped_placed : (cells : ℕ) (shapes : List Shape) (rows : List Row) → AreShaped shapes rows → HaveKinds IsOther shapes → ArePlaced cells rows
shaped_placed cells shapes rows is h =
    each_then (λ (r : Row). IsOther (kind_of_meaning (row_meaning r))) (λ (r : Row). IsPlaced cells (row_meaning r)) rows (λ r. other_placed cells (row_meaning r)) (shaped_means IsOther refl shapes rows is h)

pub type_placed : (cells : ℕ) (t : TypeExpr) (c : Context) (rows : List Row) → AreShaped (type_shapes t) rows → ArePlaced cells rows
type_placed cells t c rows h = shaped_placed cells (type_shapes t) rows h (type_kinds IsOther others t)

-- ** Variables

-- a row with a name or without one
named_placed : (cells : ℕ) (c : Context) (name at : ℕ) (m : RowMeaning) → ((n : ℕ) → IsPlaced cells (row_meaning (row_of n at m))) → ArePlaced cells (makes_named c name at m).rows
named_placed cells c name at m h = named_each (λ (r : Row). IsPlaced cells (row_meaning r)) c name at m h

-- cells after this one, and rows that are placed below them
pub record Cells (cell next : ℕ) (rows : List Row) : Type 0 where
  pub more : cell ≤ next
  pub few : next ≤ most_cells + 1
  pub placed : ArePlaced next rows

-- the cells after a variable of some cells
after_cells : (cell size : ℕ) → cell ≤ most_cells + 1 → cell ≤ capped (cell + size)
after_cells cell size h = omega (arith, h)

-- a cell before the cells after it, unless they are too many
before_cells : (cell size end : ℕ) → 1 ≤ size → capped (cell + size) ≤ end → end ≤ most_cells → cell < end
before_cells cell size end some h few = omega (arith, some, h, few)

-- the cells in which the parameters of a section arrive
pub section_size : (s : Section) → section_cells s ≡ (if s.is_open then 2 else 1) * length s.names
section_size s = by_test s.is_open
  where
    by_test : (b : Bool) → (if b then 2 * length s.names else length s.names) ≡ (if b then 2 else 1) * length s.names
    by_test true = refl
    by_test false = omega arith

module _ (names : ℕ) where
  pub vars_placed : (idents : List Ident) (c : Context) (t : Place) (cell : ℕ) → Ready names c (var_rows c t cell idents).rows → cell ≤ most_cells + 1
      → Cells cell (var_rows c t cell idents).value (var_rows c t cell idents).rows
  vars_placed [] c t cell ready h = record { more = omega arith; few = h; placed = tt }
  vars_placed (i ∷ idents) c t cell ready h =
      let m = makes_named c i.name i.at (Var t Plain cell) in
      let d = with_rows c m.rows in
      let size = size_of d.scene t in
      let rest = ready-right m.rows _ ready in
      let others = vars_placed idents d t (capped (cell + size)) rest (capped-most (cell + size)) in
      let up = others.more in
      let first = after_cells cell size h in
      let end = (var_rows d t (capped (cell + size)) idents).value in
      record {
        more = omega (arith, up, first);
        few = others.few;
        placed = each_append (λ (r : Row). IsPlaced end (row_meaning r)) m.rows _
            (named_placed end c i.name i.at (Var t Plain cell) (λ n. (h, λ few. before_cells cell size end (size_some rest.sound.scene t) up few))) others.placed;
      }

  -- ** Parameters

  -- the cells in which a parameter arrives
  abbrev cells_of_one : Section → ℕ
  cells_of_one s = if s.is_open then 2 else 1

  -- where parameters are placed, of which so many cells are left
  record Left (f : Placing) (left : ℕ) : Type 0 where
    cell : f.cell ≤ most_cells + 1
    own : f.own ≤ most_cells + 1
    room : capped (f.cell + left) ≤ f.own
    copies : Each (IsCopyPlaced f.own) f.copies

  -- what parameters make: rows that are placed, and where the next ones are
  record Parameters (f g : Placing) (left : ℕ) (rows : List Row) : Type 0 where
    next : Left g left
    more : f.own ≤ g.own
    placed : ArePlaced g.own rows

  after_one : (cell left own : ℕ) → capped (cell + (1 + left)) ≤ own → capped (capped (cell + 1) + left) ≤ own
  after_one cell left own h = omega (arith, h)

  after_two : (cell left own : ℕ) → capped (cell + (2 + left)) ≤ own → capped (capped (cell + 2) + left) ≤ own
  after_two cell left own h = omega (arith, h)

  one_below : (cell left own : ℕ) → capped (cell + (1 + left)) ≤ own → own ≤ most_cells → cell < own
  one_below cell left own h few = omega (arith, h, few)

  two_below : (cell left own : ℕ) → capped (cell + (2 + left)) ≤ own → own ≤ most_cells → cell + 1 < own
  two_below cell left own h few = omega (arith, h, few)

  open_copies_placed : (by_ref : Bool) (cell size own : ℕ) → cell ≤ most_cells + 1 → size < 2 ^ 32 → (own ≤ most_cells → cell + 1 < own) → Each (IsCopyPlaced own) (open_copies by_ref cell size)
  open_copies_placed true cell size own h k l = tt
  open_copies_placed false cell size own h k l = (((omega (arith, h), k), l), tt)

  parameter_placed : (c : Context) (s : Section) (elem t : Place) (f : Placing) (i : Ident) (left : ℕ) → Sound names c.scene → Left f (cells_of_one s + left)
      → Parameters f (parameter_row c s elem t f i).value left (parameter_row c s elem t f i).rows
  parameter_placed c s elem t f i left sound h =
      either_by P s.is_open _ _ opened (λ e. either_by P s.by_ref _ _ (λ e'. addressed e) (λ e'. either_by P (is_structured c t) _ _ (λ e''. copied e) (λ e''. valued e)))
    where
      P : Makes Placing → Type 0
      P m = Parameters f m.value left m.rows

      two : s.is_open ≡ true → capped (f.cell + (2 + left)) ≤ f.own
      two e = subst (λ n. capped (f.cell + (n + left)) ≤ f.own) (ap (λ b. if b then 2 else 1) e) h.room

      one : s.is_open ≡ false → capped (f.cell + (1 + left)) ≤ f.own
      one e = subst (λ n. capped (f.cell + (n + left)) ≤ f.own) (ap (λ b. if b then 2 else 1) e) h.room

      opened : s.is_open ≡ true → P (make_then c (makes_named c i.name i.at (Var t Open f.cell)) (λ d p.
          makes (placing (capped (f.cell + 2)) f.own (f.copies ++ open_copies s.by_ref f.cell (size_of c.scene elem)))))
      opened e = record {
        next = record {
          cell = capped-most (f.cell + 2);
          own = h.own;
          room = after_two f.cell left f.own (two e);
          copies = each_append (IsCopyPlaced f.own) f.copies _ h.copies
              (open_copies_placed s.by_ref f.cell (size_of c.scene elem) f.own h.cell (size_few sound elem) (two_below f.cell left f.own (two e)));
        };
        more = omega arith;
        placed = each_append (λ (r : Row). IsPlaced f.own (row_meaning r)) _ [] (named_placed f.own c i.name i.at (Var t Open f.cell) (λ n. (h.cell, two_below f.cell left f.own (two e)))) tt;
      }

      addressed : s.is_open ≡ false → P (make_then c (makes_named c i.name i.at (Var t ByAddress f.cell)) (λ d p. makes (placing (capped (f.cell + 1)) f.own f.copies)))
      addressed e = record {
        next = record { cell = capped-most (f.cell + 1); own = h.own; room = after_one f.cell left f.own (one e); copies = h.copies };
        more = omega arith;
        placed = each_append (λ (r : Row). IsPlaced f.own (row_meaning r)) _ [] (named_placed f.own c i.name i.at (Var t ByAddress f.cell) (λ n. (h.cell, one_below f.cell left f.own (one e)))) tt;
      }

      valued : s.is_open ≡ false → P (make_then c (makes_named c i.name i.at (Var t Plain f.cell)) (λ d p. makes (placing (capped (f.cell + 1)) f.own f.copies)))
      valued e = record {
        next = record { cell = capped-most (f.cell + 1); own = h.own; room = after_one f.cell left f.own (one e); copies = h.copies };
        more = omega arith;
        placed = each_append (λ (r : Row). IsPlaced f.own (row_meaning r)) _ [] (named_placed f.own c i.name i.at (Var t Plain f.cell) (λ n. (h.cell, one_below f.cell left f.own (one e)))) tt;
      }

      copied : s.is_open ≡ false → P (make_then c (makes_named c i.name i.at (Var t Plain f.own)) (λ d p.
          makes (placing (capped (f.cell + 1)) (capped (f.own + size_of c.scene t)) (f.copies ++ own_copy f.own f.cell (size_of c.scene t) ∷ []))))
      copied e =
          let size = size_of c.scene t in
          let end = capped (f.own + size) in
          let some = size_some sound t in
          let up : f.own ≤ end = after_cells f.own size h.own in
          let same : end ≤ end = omega arith in
          let small = capped-most (f.own + size) in
          let left_room = one e in
          let cell_few = h.cell in
          let own_few = h.own in
          record {
            next = record {
              cell = capped-most (f.cell + 1);
              own = small;
              room = let r = after_one f.cell left f.own left_room in omega (arith, r, up);
              copies = each_append (IsCopyPlaced end) f.copies _ (copies-more f.own end f.copies up h.copies) (
                (
                  (omega (arith, own_few), omega (arith, cell_few), size_few sound t),
                  λ few. (before_cells f.own size end some same few, let b = one_below f.cell left f.own left_room (omega (arith, up, few)) in omega (arith, b, up)),
                ),
                tt,
              );
            };
            more = up;
            placed = each_append (λ (r : Row). IsPlaced end (row_meaning r)) _ [] (named_placed end c i.name i.at (Var t Plain f.own) (λ n. (h.own, before_cells f.own size end some same))) tt;
          }

  parameters_placed : (idents : List Ident) (c : Context) (s : Section) (elem t : Place) (f : Placing) (left : ℕ) → Ready names c (parameter_rows c s elem t f idents).rows
      → Left f (cells_of_one s * length idents + left) → Parameters f (parameter_rows c s elem t f idents).value left (parameter_rows c s elem t f idents).rows
  parameters_placed [] c s elem t f left ready h =
      record { next = subst (Left f) (let e : cells_of_one s * 0 + left ≡ left = omega arith in e) h; more = omega arith; placed = tt }
  parameters_placed (i ∷ idents) c s elem t f left ready h =
      let m = parameter_row c s elem t f i in
      let more = cells_of_one s * length idents + left in
      let enough : cells_of_one s * suc (length idents) + left ≡ cells_of_one s + more = omega arith in
      let first = parameter_placed c s elem t f i more ready.sound.scene (subst (Left f) enough h) in
      let rest = parameters_placed idents (with_rows c m.rows) s elem t m.value left (ready-right m.rows _ ready) first.next in
      let x = first.more in
      let y = rest.more in
      let end = (parameter_rows (with_rows c m.rows) s elem t m.value idents).value.own in
      record {
        next = rest.next;
        more = omega (arith, x, y);
        placed = each_append (λ (r : Row). IsPlaced end (row_meaning r)) m.rows _ (placed-more m.value.own end m.rows y first.placed) rest.placed;
      }

  own_section_placed : (s : Section) (c : Context) (f : Placing) (left : ℕ) → Ready names c (own_section_rows c f s).rows → Left f (section_cells s + left)
      → Parameters f (own_section_rows c f s).value left (own_section_rows c f s).rows
  own_section_placed s c f left ready h =
      let d = with_rows c [] in
      let elem = (type_of_qual c s.of).value in
      let typ = open_array_row d s.of.first.at s.is_open elem in
      let e = with_rows d typ.rows in
      let rest = parameters_placed s.names e s elem typ.value f left (ready-right typ.rows _ (ready-then ready)) (subst (λ n. Left f (n + left)) (section_size s) h) in
      let end = (parameter_rows e s elem typ.value f s.names).value.own in
      record {
        next = rest.next;
        more = rest.more;
        placed = each_append (λ (r : Row). IsPlaced end (row_meaning r)) typ.rows _
            (shaped_placed end (open_shapes s.is_open s.of) typ.rows (open_of d s.is_open s.of elem) (open_kinds IsOther others s.is_open s.of)) rest.placed;
      }

  own_sections_placed : (sections : List Section) (c : Context) (f : Placing) → Ready names c (own_sections_rows c f sections).rows → Left f (parameter_cells sections)
      → Parameters f (own_sections_rows c f sections).value 0 (own_sections_rows c f sections).rows
  own_sections_placed [] c f ready h = record { next = h; more = omega arith; placed = tt }
  own_sections_placed (s ∷ sections) c f ready h =
      let m = own_section_rows c f s in
      let first = own_section_placed s c f (parameter_cells sections) (ready-left m.rows _ ready) h in
      let rest = own_sections_placed sections (with_rows c m.rows) m.value (ready-right m.rows _ ready) first.next in
      let x = first.more in
      let y = rest.more in
      let end = (own_sections_rows (with_rows c m.rows) m.value sections).value.own in
      record {
        next = rest.next;
        more = omega (arith, x, y);
        placed = each_append (λ (r : Row). IsPlaced end (row_meaning r)) m.rows _ (placed-more m.value.own end m.rows y first.placed) rest.placed;
      }

  -- what the parameters of a heading make in its own scope
  pub record Heads (own : ℕ) (copies : List ParamCopy) (rows : List Row) : Type 0 where
    pub few : own ≤ most_cells + 1
    pub placed : ArePlaced own rows
    pub copied : Each (IsCopyPlaced own) copies

  pub sections_placed : (sections : List Section) (c : Context) → Ready names c (own_sections_rows c (placing 0 (capped (parameter_cells sections)) []) sections).rows
      → (let m = own_sections_rows c (placing 0 (capped (parameter_cells sections)) []) sections in Heads m.value.own m.value.copies m.rows)
  sections_placed sections c ready =
      let all = own_sections_placed sections c (placing 0 (capped (parameter_cells sections)) []) ready
      (record { cell = omega arith; own = capped-most (parameter_cells sections); room = omega arith; copies = tt }) in
      record { few = all.next.own; placed = all.placed; copied = all.next.copies }
