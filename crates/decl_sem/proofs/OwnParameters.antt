-- The variable of a parameter in the procedure's own scope.
use Rattle.std.specs.Prelude.{◌≡◌, ℕ, ◌<◌, ◌^◌, Bool, true, false, List, [], ◌∷◌, Result, Ok}
use Rattle.std.proofs.Common.{refl, sym, ap, ◌∙◌, subst, arith}
use Rattle.std.proofs.lemmas.List.{append-nil}
use Rattle.m2_base.specs.Rows.{var_kind}
use Rattle.m2_base.specs.States.{Frame, State, Waits}
use Rattle.m2_base.specs.Statics.Contexts.{Context}
use Rattle.m2_base.specs.Statics.Effects.{ParamCopy}
use Rattle.m2_base.specs.Statics.HeadingRows.{Placing, parameter_row, placing}
use Rattle.m2_base.specs.Statics.Makes.{Makes, makes_named}
use Rattle.m2_base.specs.Statics.ProcedureTypes.{is_structured, is_structured_kind}
use Rattle.m2_base.specs.Statics.Shapes.{Shape, named}
use Rattle.m2_base.specs.Statics.Types.{size_by, size_of}
use Rattle.m2_base.specs.Views.{section_view}
use Rattle.m2_base.specs.declared.memory.Memory.{Memory}
use Rattle.m2_base.specs.declared.replies.Ask.{Ask}
use Rattle.m2_base.specs.declared.replies.Ask.TheVariants.{Known}
use Rattle.m2_base.specs.declared.rows.Mode.{Mode}
use Rattle.m2_base.specs.declared.rows.Mode.TheVariants.{Open}
use Rattle.m2_base.specs.declared.rows.Place.{Place}
use Rattle.m2_base.specs.declared.rows.RowMeaning.{RowMeaning}
use Rattle.m2_base.specs.declared.rows.RowMeaning.TheVariants.{Var}
use Rattle.m2_base.specs.declared.sites.Site.{Site}
use Rattle.m2_base.specs.declared.trees.Ident.{Ident}
use Rattle.m2_base.specs.declared.trees.declarations.Section.{Section}
use Rattle.type_rules.specs.Asks.{Reads, WhereKnown, WhereWaiting}
use Rattle.type_rules.specs.Scenes.{IsStood, scene_of}
use Rattle.type_rules.specs.Sites.{context_of}
use Rattle.decl_sem.specs.Making.{next_ordinal}
use Rattle.decl_sem.specs.OwnParameters.{AreCells, IsPlaced, after_cells, after_open, after_own, open_row, placed_row, ref_row, value_row}
use Rattle.decl_sem.specs.Pieces.{Declares, IsBehind, IsMaking, IsNewMeaning, WhereMaking}
use Rattle.decl_sem.specs.declared.making.Made.{Made}
use Rattle.decl_sem.proofs.Asking.{tested}
use Rattle.decl_sem.proofs.ItemEffects.{valued}
use Rattle.decl_sem.proofs.OneRows.{before_next, small_scope}
use Rattle.decl_sem.proofs.Pieces.{described}

-- the meaning of a parameter's row
pub var_meaning : {f : Frame} {s : Site} {x : Made} {ss : List Shape} (t : Place) (m : Mode) (cell : ℕ) → cell < 2 ^ 32 → IsMaking f s x ss → IsBehind f (next_ordinal x) t → IsNewMeaning f s (next_ordinal x) (Var t m cell)
var_meaning t m cell small making behind = record { small = behind.small; scopes = small_scope making behind; fits = (before_next behind, small); filled = tt; owned = tt }

-- ** Where the next parameter is

pub cells_after : (count : ℕ) (p : Placing) → AreCells p → AreCells (after_cells count p)
cells_after count p h = record { cell = omega arith; own = h.own }

pub open_after : (size : ℕ) (p : Placing) → AreCells p → AreCells (after_open size p)
open_after size p h = record { cell = omega arith; own = h.own }

pub own_after : (size : ℕ) (p : Placing) → AreCells p → AreCells (after_own size p)
own_after size p h = record { cell = omega arith; own = omega arith }

pub same_cells : {p q : Placing} → p ≡ q → AreCells q → AreCells p
same_cells e h = subst (λ (v : Placing). AreCells v) (sym e) h

-- ** The row

-- a parameter's variable, and then the next
pub parameter_put : {a : State} {x y : Made} {s : Site} {v : Place} (i : Ident) (t : Place) (m : Mode) (cell : ℕ) (next : Placing) → AreCells next
    → Declares a a x y s (Ok (Known v)) (named var_kind i ∷ []) IsBehind (λ c. makes_named c i.name i.at (Var t m cell))
    → Declares a a x y s (Ok (Known next)) (named var_kind i ∷ []) IsPlaced (placed_row i t m cell next)
parameter_put i t m cell next cells p = valued IsPlaced (λ v. next) next refl cells p

-- the same, where the cell and the next are given otherwise
pub placed_as : {a b : State} {x y : Made} {s : Site} (i : Ident) (t : Place) (m : Mode) {cell u : ℕ} {next v : Placing} (answer : Result (Ask Placing) Memory) → cell ≡ u → next ≡ v
    → Declares a b x y s answer (named var_kind i ∷ []) IsPlaced (placed_row i t m cell next) → Declares a b x y s answer (named var_kind i ∷ []) IsPlaced (placed_row i t m u v)
placed_as {a} {b} {x} {y} {s} i t m {cell} {u} {next} {v} answer e g p =
    subst (λ (w : Placing). Declares a b x y s answer (named var_kind i ∷ []) IsPlaced (placed_row i t m u w)) g
    (subst (λ (n : ℕ). Declares a b x y s answer (named var_kind i ∷ []) IsPlaced (placed_row i t m n next)) e p)

-- ** After a question

module _ {a b : State} {x y : Made} {s : Site} (i : Ident) (t : Place) (p : Placing) (answer : Result (Ask Placing) Memory) (asks : Ask (Place × RowMeaning)) {stood : Place × RowMeaning} where
  -- an open array by value, after the question for its elements
  pub open_asked : (elem : Place) (size : ℕ) → IsMaking a.frame s x (named var_kind i ∷ []) → Reads a b → WhereWaiting asks (λ head. Waits a b head)
      → WhereMaking a.frame x (λ hand. WhereKnown asks (λ v. IsStood (scene_of a.frame hand s.around.now) elem v))
      → asks ≡ Known stood → size ≡ size_by stood.1 → Declares b b x y s answer (named var_kind i ∷ []) IsPlaced (open_row size i t p)
      → Declares a b x y s answer (named var_kind i ∷ []) IsPlaced (λ c. open_row (size_of c.scene elem) i t p c)
  open_asked elem size making reads waits told is same q =
      tested (λ (v : Place × RowMeaning). size_by v.1) (λ n c. open_row n i t p c) elem answer asks size making reads waits told is same q

  -- a value, after the question for its type
  pub value_asked : (structured : Bool) (size : ℕ) → IsMaking a.frame s x (named var_kind i ∷ []) → Reads a b → WhereWaiting asks (λ head. Waits a b head)
      → WhereMaking a.frame x (λ hand. WhereKnown asks (λ v. IsStood (scene_of a.frame hand s.around.now) t v))
      → asks ≡ Known stood → structured ≡ is_structured_kind stood.1 → size ≡ size_by stood.1 → Declares b b x y s answer (named var_kind i ∷ []) IsPlaced (value_row structured size i t p)
      → Declares a b x y s answer (named var_kind i ∷ []) IsPlaced (λ c. value_row (is_structured c t) (size_of c.scene t) i t p c)
  value_asked structured size making reads waits told is kind same q =
      let pair : (structured, size) ≡ (is_structured_kind stood.1, size_by stood.1) =
      ap (λ (k : Bool). (k, size)) kind ∙ ap (λ (n : ℕ). (is_structured_kind stood.1, n)) same in
      tested {V = Bool × ℕ} (λ (v : Place × RowMeaning). (is_structured_kind v.1, size_by v.1)) (λ v c. value_row v.0 v.1 i t p c) t answer asks (structured, size) making reads waits told is pair q

-- ** By what the section says

-- a parameter of a section with these flags
abbrev flagged : (is_open by_ref : Bool) → Section → (elem t : Place) → Placing → Ident → Context → Makes Placing
flagged is_open by_ref section elem t p i c =
    parameter_row c (record { by_ref = by_ref; names = section.names.items; is_open = is_open; of = section.of }) elem t p i

ref_flagged : (is_open : Bool) (section : Section) (elem t : Place) (p : Placing) (i : Ident) (c : Context) → ref_row is_open i t p c ≡ flagged is_open true section elem t p i c
ref_flagged true section elem t p i c =
    ap (λ (copies : List ParamCopy). placed_row i t Open p.cell (placing (after_cells 2 p).cell p.own copies) c) (sym (append-nil p.copies))
ref_flagged false section elem t p i c = refl

module _ {a b : State} {x y : Made} {s : Site} {ss : List Shape} (section : Section) (elem t : Place) (p : Placing) (i : Ident) (answer : Result (Ask Placing) Memory) where
  -- a VAR parameter
  pub ref_parameter : section.by_ref ≡ true → Declares a b x y s answer ss IsPlaced (ref_row section.is_open i t p)
      → Declares a b x y s answer ss IsPlaced (λ c. parameter_row c (section_view section) elem t p i)
  ref_parameter e q =
      subst (λ (r : Bool). Declares a b x y s answer ss IsPlaced (flagged section.is_open r section elem t p i)) (sym e)
      (described answer (flagged section.is_open true section elem t p i) q
      (λ hand in_hand told same. ref_flagged section.is_open section elem t p i (context_of a.frame hand s)))

  -- an open array by value
  pub open_parameter : section.by_ref ≡ false → section.is_open ≡ true → Declares a b x y s answer ss IsPlaced (λ c. open_row (size_of c.scene elem) i t p c)
      → Declares a b x y s answer ss IsPlaced (λ c. parameter_row c (section_view section) elem t p i)
  open_parameter e o q =
      subst (λ (r : Bool). Declares a b x y s answer ss IsPlaced (flagged section.is_open r section elem t p i)) (sym e)
      (subst (λ (k : Bool). Declares a b x y s answer ss IsPlaced (flagged k false section elem t p i)) (sym o) q)

  -- any other value
  pub value_parameter : section.by_ref ≡ false → section.is_open ≡ false → Declares a b x y s answer ss IsPlaced (λ c. value_row (is_structured c t) (size_of c.scene t) i t p c)
      → Declares a b x y s answer ss IsPlaced (λ c. parameter_row c (section_view section) elem t p i)
  value_parameter e o q =
      subst (λ (r : Bool). Declares a b x y s answer ss IsPlaced (flagged section.is_open r section elem t p i)) (sym e)
      (subst (λ (k : Bool). Declares a b x y s answer ss IsPlaced (flagged k false section elem t p i)) (sym o) q)
