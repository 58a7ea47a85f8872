-- The sections of a heading in the scope round the procedure, one after another.
use Rattle.std.specs.Prelude.{◌≡◌, ℕ, zero, suc, ◌+◌, ◌<◌, List, [], ◌∷◌, ◌++◌, flat_map, length, map, drop, Result, Ok, Err}
use Rattle.std.proofs.Common.{sym, ap, ◌∙◌, subst, arith, get_or}
use Rattle.m2_base.specs.Lists.{Each}
use Rattle.m2_base.specs.Rows.{param_kind, type_name_kind}
use Rattle.m2_base.specs.States.{Frame, State}
use Rattle.m2_base.specs.Statics.Contexts.{Context}
use Rattle.m2_base.specs.Statics.Makes.{Makes, make_then, makes}
use Rattle.m2_base.specs.Statics.ProcedureRows.{param_rows, section_rows}
use Rattle.m2_base.specs.Statics.ProcedureTypes.{parameter_type}
use Rattle.m2_base.specs.Statics.Shapes.{Shape, open_shapes, section_shapes}
use Rattle.m2_base.specs.Views.{section_view}
use Rattle.m2_base.specs.declared.memory.Memory.{Memory}
use Rattle.m2_base.specs.declared.replies.Ask.{Ask}
use Rattle.m2_base.specs.declared.replies.Ask.TheVariants.{DontKnowYet, Known}
use Rattle.m2_base.specs.declared.replies.Head.{Head}
use Rattle.m2_base.specs.declared.rows.Place.{Place}
use Rattle.m2_base.specs.declared.sites.Site.{Site}
use Rattle.m2_base.specs.declared.trees.Ident.{Ident}
use Rattle.m2_base.specs.declared.trees.declarations.Section.{Section}
use Rattle.type_rules.specs.Sites.{context_of}
use Rattle.decl_sem.specs.Making.{next_ordinal}
use Rattle.decl_sem.specs.Pieces.{Declares, IsAny, IsBehind, IsMaking}
use Rattle.m2_base.specs.Statics.ReadTrees.{IsReadSection}
use Rattle.decl_sem.specs.declared.making.Made.{Made}
use Rattle.decl_sem.proofs.NoTypeNames.{both, opens}
use Rattle.decl_sem.proofs.ParameterLists as parameters
use Rattle.decl_sem.proofs.Parameters.{make_then_assoc}
use Rattle.decl_sem.proofs.Pieces.{AreNoTypes, GoesOn, goes_as, goes_end, goes_failed, goes_step, goes_waiting, making_front, making_on, then_after}
use Rattle.decl_sem.proofs.VariableLists.{next_left, none_left}

abbrev pub shapes : List Section → List Shape
shapes sections = flat_map section_shapes (map section_view sections)

-- the parameters of one section
abbrev pub section_given : (own : ℕ) → Section → Context → Makes (Unit {0})
section_given own x c = make_then c (parameter_type c x.is_open x.of) (λ d t. param_rows d own x.by_ref t x.names.items)

-- the first k of the sections are made
abbrev pub SectionsGo : (a b : State) (x y : Made) → Site → (own : ℕ) → List Section → (k : ℕ) → Type 0
SectionsGo a b x y s own sections k =
    GoesOn a b x y s (shapes sections) (shapes (drop k sections)) IsAny (λ c. section_rows c own (map section_view sections)) (λ c. section_rows c own (map section_view (drop k sections)))

section_at : (texts : List (List ℕ)) (xs : List Section) (k : ℕ) (d : Section) → k < length xs → Each (IsReadSection texts) (map section_view xs) → IsReadSection texts (section_view (get_or xs k d))
section_at texts [] k d h all = absurd (omega (arith, h))
section_at texts (x ∷ xs) zero d h all = all.0
section_at texts (x ∷ xs) (suc k) d h all = section_at texts xs k d (omega (arith, h)) all.1

pub section_read : (texts : List (List ℕ)) (xs : List Section) (k : ℕ) (x : Section) → k < length xs → x ≡ get_or xs k x → Each (IsReadSection texts) (map section_view xs) → IsReadSection texts (section_view x)
section_read texts xs k x h is all = subst (λ (u : Section). IsReadSection texts (section_view u)) (sym is) (section_at texts xs k x h all)

params_none : (names : List Ident) → AreNoTypes (parameters.shapes names)
params_none [] = tt
params_none (i ∷ names) = ((λ e. absurd (let h : param_kind ≡ type_name_kind = e in omega arith)), params_none names)

pub section_none : (x : Section) → AreNoTypes (section_shapes (section_view x))
section_none x = both (open_shapes x.is_open x.of) (parameters.shapes x.names.items) (opens x.is_open x.of) (params_none x.names.items)

pub sections_none : (xs : List Section) → AreNoTypes (shapes xs)
sections_none [] = tt
sections_none (x ∷ xs) = both (section_shapes (section_view x)) (shapes xs) (section_none x) (sections_none xs)

-- the type of the parameters stands where they are made
pub type_stands : {a b : State} {x y : Made} {s : Site} {t : Place} {ss : List Shape} {g : Context → Makes Place} → Declares a b x y s (Ok (Known t)) ss IsBehind g → IsBehind b.frame (next_ordinal y) t
type_stands {y = y} {t = t} p = subst (λ (f : Frame). IsBehind f (next_ordinal y) t) (sym p.works.keeps.frame) p.there

-- what the parameters need after their type
pub names_making : {a b : State} {x y : Made} {s : Site} {t : Place} (section : Section) (names : List Ident) → names ≡ section.names.items → IsMaking a.frame s x (section_shapes (section_view section))
    → Declares a b x y s (Ok (Known t)) (open_shapes section.is_open section.of) IsBehind (λ c. parameter_type c section.is_open section.of) → IsMaking b.frame s y (parameters.shapes names)
names_making {b = b} {y = y} {s = s} section names same making p =
    subst (λ (is : List Ident). IsMaking b.frame s y (parameters.shapes is)) (sym same) (making_on {ss = open_shapes section.is_open section.of} {ts = parameters.shapes section.names.items} (opens section.is_open section.of) making p)

-- parameters after their type
pub section_piece : {a b d : State} {x y z : Made} {s : Site} {t : Place} (own : ℕ) (section : Section) (names : List Ident) (answer : Result (Ask (Unit {0})) Memory) → names ≡ section.names.items → IsMaking a.frame s x (section_shapes (section_view section))
    → Declares a b x y s (Ok (Known t)) (open_shapes section.is_open section.of) IsBehind (λ c. parameter_type c section.is_open section.of)
    → Declares b d y z s answer (parameters.shapes names) IsAny (λ c. param_rows c own section.by_ref t names)
    → Declares a d x z s answer (section_shapes (section_view section)) IsAny (section_given own section)
section_piece {b = b} {d = d} {y = y} {z = z} {s = s} {t = t} own x names answer same making p q =
    then_after (λ c. parameter_type c x.is_open x.of) (λ t c. param_rows c own x.by_ref t x.names.items) answer (opens x.is_open x.of) making p
    (subst (λ (is : List Ident). Declares b d y z s answer (parameters.shapes is) IsAny (λ c. param_rows c own x.by_ref t is)) same q)

module _ {a b : State} {x y : Made} {s : Site} (own : ℕ) (sections : List Section) (k : ℕ) (i : Section) (h : k < length sections) (is : i ≡ get_or sections k i) where
  -- taken apart at the next
  sections_at : SectionsGo a b x y s own sections k
      → GoesOn a b x y s (shapes sections) (section_shapes (section_view i) ++ shapes (drop (k + 1) sections)) IsAny (λ c. section_rows c own (map section_view sections))
      (λ c. make_then c (section_given own i c) (λ e p. section_rows e own (map section_view (drop (k + 1) sections))))
  sections_at so =
      let e : drop k sections ≡ i ∷ drop (k + 1) sections = next_left sections k i h ∙ ap (λ (u : Section). u ∷ drop (k + 1) sections) (sym is) in
      goes_as (section_shapes (section_view i) ++ shapes (drop (k + 1) sections)) (λ c. make_then c (section_given own i c) (λ e p. section_rows e own (map section_view (drop (k + 1) sections))))
      (ap shapes e)
      (λ hand in_hand told same. let c = context_of b.frame hand s in
      make_then_assoc c (parameter_type c i.is_open i.of) (λ e t. param_rows e own i.by_ref t i.names.items) (λ e p. section_rows e own (map section_view (drop (k + 1) sections)))
      ∙ ap (λ (xs : List Section). section_rows c own (map section_view xs)) (sym e))
      so

  pub next_making : SectionsGo a b x y s own sections k → IsMaking b.frame s y (section_shapes (section_view i))
  next_making so = making_front (section_shapes (section_view i)) (shapes (drop (k + 1) sections)) (sections_at so).making

  pub one_more_section : {e : State} {z : Made} {v : Unit {0}} → SectionsGo a b x y s own sections k → Declares b e y z s (Ok (Known v)) (section_shapes (section_view i)) IsAny (section_given own i) → SectionsGo a e x z s own sections (k + 1)
  one_more_section so q = goes_step (section_given own i) (λ p c. section_rows c own (map section_view (drop (k + 1) sections))) (section_none i) (sections_at so) q

  pub sections_failed : {e : State} {z : Made} {m : Memory} (n : Memory) → SectionsGo a b x y s own sections k → Declares b e y z s (Err m) (section_shapes (section_view i)) IsAny (section_given own i)
      → Declares a e x z s (Err n) (shapes sections) IsAny (λ c. section_rows c own (map section_view sections))
  sections_failed n so q = goes_failed (sections_at so) q n

  pub sections_waiting : {e : State} {z : Made} {head : Head} → SectionsGo a b x y s own sections k → Declares b e y z s (Ok (DontKnowYet head)) (section_shapes (section_view i)) IsAny (section_given own i)
      → Declares a e x z s (Ok (DontKnowYet head)) (shapes sections) IsAny (λ c. section_rows c own (map section_view sections))
  sections_waiting so q = goes_waiting (sections_at so) q

-- all are made
pub all_sections : {a b : State} {x y : Made} {s : Site} (own : ℕ) (sections : List Section) → SectionsGo a b x y s own sections (length sections)
    → Declares a b x y s (Ok (Known tt)) (shapes sections) IsAny (λ c. section_rows c own (map section_view sections))
all_sections {b = b} {s = s} own sections so =
    goes_end tt
    (goes_as [] (λ c. makes tt) (ap shapes (none_left sections)) (λ hand in_hand told same. ap (λ (xs : List Section). section_rows (context_of b.frame hand s) own (map section_view xs)) (sym (none_left sections))) so)
    tt
