-- The parameters of a section in the procedure's own scope, one after another.
use Rattle.std.specs.Prelude.{◌≡◌, ℕ, ◌+◌, ◌<◌, List, [], ◌∷◌, length, drop, Ok, Err}
use Rattle.std.proofs.Common.{sym, ap, ◌∙◌, subst, arith, get_or}
use Rattle.m2_base.specs.Rows.{type_name_kind, var_kind}
use Rattle.m2_base.specs.States.{Frame, State}
use Rattle.m2_base.specs.Statics.Contexts.{Context}
use Rattle.m2_base.specs.Statics.HeadingRows.{Placing, parameter_row, parameter_rows}
use Rattle.m2_base.specs.Statics.Makes.{Makes, makes}
use Rattle.m2_base.specs.Statics.Shapes.{Shape, named}
use Rattle.m2_base.specs.Views.{section_view}
use Rattle.m2_base.specs.declared.memory.Memory.{Memory}
use Rattle.m2_base.specs.declared.replies.Ask.TheVariants.{DontKnowYet, Known}
use Rattle.m2_base.specs.declared.replies.Head.{Head}
use Rattle.m2_base.specs.declared.rows.Place.{Place}
use Rattle.m2_base.specs.declared.sites.Site.{Site}
use Rattle.m2_base.specs.declared.trees.Ident.{Ident}
use Rattle.m2_base.specs.declared.trees.declarations.Section.{Section}
use Rattle.type_rules.specs.Sites.{context_of}
use Rattle.decl_sem.specs.Making.{next_ordinal}
use Rattle.decl_sem.specs.OwnParameters.{AreCells, IsPlaced}
use Rattle.decl_sem.specs.Pieces.{Declares, IsBehind, IsMaking}
use Rattle.decl_sem.specs.declared.making.Made.{Made}
use Rattle.decl_sem.proofs.OneRows.{behind_more}
use Rattle.decl_sem.proofs.Pieces.{AreNoTypes, GoesOn, goes_as, goes_end, goes_failed, goes_start, goes_step, goes_waiting, making_front, next_on}
use Rattle.decl_sem.proofs.VariableLists.{next_left, none_left, shapes}

-- what stands before the next row still does after more of them
pub behind_on : {T : Type 0} {a b : State} {x y : Made} {s : Site} {ss : List Shape} {P : Frame → ℕ → T → Type 0} {g : Context → Makes T} {v : T} (t : Place) → Declares a b x y s (Ok (Known v)) ss P g → IsBehind a.frame (next_ordinal x) t
    → IsBehind b.frame (next_ordinal y) t
behind_on {y = y} t p h =
    subst (λ (f : Frame). IsBehind f (next_ordinal y) t) (sym p.works.keeps.frame) (behind_more (let n = next_on p.first p.grown in omega arith) h)

-- no variable is a type's name
var_none : (i : Ident) → AreNoTypes (named var_kind i ∷ [])
var_none i = (λ e. absurd (let h : var_kind ≡ type_name_kind = e in omega arith), tt)

pub vars_none : (names : List Ident) → AreNoTypes (shapes names)
vars_none [] = tt
vars_none (i ∷ names) = ((var_none i).0, vars_none names)

-- the first k of the parameters are made, and the next is there
pub record ParametersGo (a b : State) (x y : Made) (s : Site) (section : Section) (elem t : Place) (first : Placing) (names : List Ident) (k : ℕ) (next : Placing) : Type 0 where
  pub cells : AreCells next
  pub elem_behind : IsBehind b.frame (next_ordinal y) elem
  pub of_behind : IsBehind b.frame (next_ordinal y) t
  pub on : GoesOn a b x y s (shapes names) (shapes (drop k names)) IsPlaced (λ c. parameter_rows c (section_view section) elem t first names) (λ c. parameter_rows c (section_view section) elem t next (drop k names))

pub no_parameters : {a : State} {x : Made} {s : Site} {names : List Ident} (section : Section) (elem t : Place) (first : Placing) → IsMaking a.frame s x (shapes names) → IsBehind a.frame (next_ordinal x) elem → IsBehind a.frame (next_ordinal x) t → AreCells first
    → ParametersGo a a x x s section elem t first names 0 first
no_parameters section elem t first making before behind cells = record { cells = cells; elem_behind = before; of_behind = behind; on = goes_start making }

module _ {a b : State} {x y : Made} {s : Site} {section : Section} {elem t : Place} {first next : Placing} {names : List Ident} (k : ℕ) (d : Ident) (h : k < length names) (so : ParametersGo a b x y s section elem t first names k next) where
  abbrev i : Ident
  i = get_or names k d

  -- taken apart at the next
  parameters_at : GoesOn a b x y s (shapes names) (named var_kind i ∷ shapes (drop (k + 1) names)) IsPlaced (λ c. parameter_rows c (section_view section) elem t first names) (λ c. parameter_rows c (section_view section) elem t next (i ∷ drop (k + 1) names))
  parameters_at =
      let e = next_left names k d h in
      goes_as (named var_kind i ∷ shapes (drop (k + 1) names)) (λ c. parameter_rows c (section_view section) elem t next (i ∷ drop (k + 1) names)) (ap shapes e)
      (λ hand in_hand told same. ap (λ (xs : List Ident). parameter_rows (context_of b.frame hand s) (section_view section) elem t next xs) (sym e)) so.on

  -- what the next parameter needs
  pub parameter_making : IsMaking b.frame s y (named var_kind i ∷ [])
  parameter_making = making_front (named var_kind i ∷ []) (shapes (drop (k + 1) names)) parameters_at.making

  pub one_parameter : {e : State} {z : Made} {v : Placing} → Declares b e y z s (Ok (Known v)) (named var_kind i ∷ []) IsPlaced (λ c. parameter_row c (section_view section) elem t next i)
      → ParametersGo a e x z s section elem t first names (k + 1) v
  one_parameter q =
      record {
        cells = q.there;
        elem_behind = behind_on elem q so.elem_behind;
        of_behind = behind_on t q so.of_behind;
        on = goes_step (λ c. parameter_row c (section_view section) elem t next i) (λ p c. parameter_rows c (section_view section) elem t p (drop (k + 1) names)) (var_none i) parameters_at q;
      }

  -- want of memory in the next parameter
  pub parameters_failed : {e : State} {z : Made} {m : Memory} (n : Memory) → Declares b e y z s (Err m) (named var_kind i ∷ []) IsPlaced (λ c. parameter_row c (section_view section) elem t next i)
      → Declares a e x z s (Err n) (shapes names) IsPlaced (λ c. parameter_rows c (section_view section) elem t first names)
  parameters_failed n q = goes_failed parameters_at q n

  -- what isn't known yet of it
  pub parameters_waiting : {e : State} {z : Made} {head : Head} → Declares b e y z s (Ok (DontKnowYet head)) (named var_kind i ∷ []) IsPlaced (λ c. parameter_row c (section_view section) elem t next i)
      → Declares a e x z s (Ok (DontKnowYet head)) (shapes names) IsPlaced (λ c. parameter_rows c (section_view section) elem t first names)
  parameters_waiting q = goes_waiting parameters_at q

-- all are made
pub all_parameters : {a b : State} {x y : Made} {s : Site} {section : Section} {elem t : Place} {first next : Placing} {names : List Ident} (k : ℕ) → k ≡ length names → ParametersGo a b x y s section elem t first names k next
    → Declares a b x y s (Ok (Known next)) (shapes names) IsPlaced (λ c. parameter_rows c (section_view section) elem t first names)
all_parameters {b = b} {s = s} {section = section} {elem = elem} {t = t} {next = next} {names = names} k end so =
    let e : drop k names ≡ [] = ap (λ (n : ℕ). drop n names) end ∙ none_left names in
    goes_end next
    (goes_as [] (λ c. makes next) (ap shapes e) (λ hand in_hand told same. ap (λ (xs : List Ident). parameter_rows (context_of b.frame hand s) (section_view section) elem t next xs) (sym e)) so.on)
    so.cells
