-- The sections of a heading in the procedure's own scope, one after another.
use Rattle.std.specs.Prelude.{◌≡◌, ℕ, ◌+◌, ◌<◌, ◌≤◌, ◌^◌, List, [], ◌∷◌, ◌++◌, flat_map, length, map, drop, Option, None, Result, Ok, Err}
use Rattle.std.proofs.Common.{refl, sym, ap, ◌∙◌, subst, arith, get_or}
use Rattle.std.proofs.lemmas.List.{append-nil, length-append, length-map}
use Rattle.m2_base.specs.Lists.{Each}
use Rattle.m2_base.specs.States.{Frame, State}
use Rattle.m2_base.specs.Statics.Cells.{capped, most_cells}
use Rattle.m2_base.specs.Statics.Effects.{Effect}
use Rattle.m2_base.specs.Statics.HeadingRows.{Placing, heading_rows, own_section_rows, own_sections_rows, parameter_rows, placing}
use Rattle.m2_base.specs.Statics.Makes.{makes, only_gives}
use Rattle.m2_base.specs.Rows.{param_kind, var_kind}
use Rattle.m2_base.specs.Statics.ProcedureRows.{parameter_cells, sections_length}
use Rattle.m2_base.specs.Statics.ProcedureTypes.{open_array_row, result_type}
use Rattle.m2_base.specs.Statics.ReadTrees.{IsReadSection}
use Rattle.m2_base.specs.Statics.Shapes.{Shape, named, nameless, open_shapes, own_section_shapes, section_shapes}
use Rattle.m2_base.specs.Statics.TypeNames.{type_of_qual}
use Rattle.m2_base.specs.Views.{heading_view, section_view}
use Rattle.m2_base.specs.declared.memory.Memory.{Memory}
use Rattle.m2_base.specs.declared.replies.Ask.{Ask}
use Rattle.m2_base.specs.declared.replies.Ask.TheVariants.{DontKnowYet, Known}
use Rattle.m2_base.specs.declared.replies.Head.{Head}
use Rattle.m2_base.specs.declared.rows.Place.{Place}
use Rattle.m2_base.specs.declared.sites.Site.{Site}
use Rattle.m2_base.specs.declared.trees.Ident.{Ident}
use Rattle.m2_base.specs.declared.trees.Qual.{Qual}
use Rattle.m2_base.specs.declared.trees.declarations.Heading.{Heading}
use Rattle.m2_base.specs.declared.trees.declarations.Section.{Section}
use Rattle.type_rules.specs.Sites.{context_of}
use Rattle.decl_sem.specs.Items.{IsEffect, IsLoneEffect}
use Rattle.decl_sem.specs.Making.{next_ordinal}
use Rattle.decl_sem.specs.OwnParameters.{AreCells, IsPlaced, heading_effect, section_given}
use Rattle.decl_sem.specs.Pieces.{Declares, IsBehind, IsMaking, IsOptionBehind}
use Rattle.decl_sem.specs.declared.making.Made.{Made}
use Rattle.decl_sem.proofs.ItemEffects.{valued}
use Rattle.decl_sem.proofs.NoTypeNames.{both, opens}
use Rattle.decl_sem.proofs.OwnParameterLists.{vars_none}
use Rattle.decl_sem.proofs.Pieces.{AreNoTypes, GoesOn, goes_as, goes_end, goes_failed, goes_start, goes_step, goes_waiting, making_front, making_on, reshaped, then_after}
use Rattle.decl_sem.proofs.VariableLists as variables
use Rattle.decl_sem.proofs.VariableLists.{next_left, none_left}

abbrev pub shapes : List Section → List Shape
shapes sections = flat_map own_section_shapes (map section_view sections)

section_none : (x : Section) → AreNoTypes (own_section_shapes (section_view x))
section_none x = both (open_shapes x.is_open x.of) (variables.shapes x.names.items) (opens x.is_open x.of) (vars_none x.names.items)

sections_none : (xs : List Section) → AreNoTypes (shapes xs)
sections_none [] = tt
sections_none (x ∷ xs) = both (own_section_shapes (section_view x)) (shapes xs) (section_none x) (sections_none xs)

-- a heading has as many rows in the own scope as round the procedure
own_section_length : (x : Section) → length (own_section_shapes (section_view x)) ≡ length (section_shapes (section_view x))
own_section_length x =
    length-append (open_shapes x.is_open x.of) (map (named var_kind) x.names.items)
    ∙ ap (λ n. length (open_shapes x.is_open x.of) + n) (length-map x.names.items (named var_kind) ∙ sym (length-map x.names.items (λ (i : Ident). nameless param_kind i.at)))
    ∙ sym (length-append (open_shapes x.is_open x.of) (map (λ (i : Ident). nameless param_kind i.at) x.names.items))

own_rows_length : (xs : List Section) → length (shapes xs) ≡ sections_length (map section_view xs)
own_rows_length [] = refl
own_rows_length (x ∷ xs) =
    length-append (own_section_shapes (section_view x)) (shapes xs)
    ∙ ap (λ n. n + length (shapes xs)) (own_section_length x)
    ∙ ap (λ n. length (section_shapes (section_view x)) + n) (own_rows_length xs)

-- ** One section

module _ {a b : State} {x y : Made} {s : Site} {t : Place} (section : Section) (elem : Place) (names : List Ident) (same : names ≡ section.names.items) (making : IsMaking a.frame s x (own_section_shapes (section_view section)))
    (p : Declares a b x y s (Ok (Known t)) (open_shapes section.is_open section.of) IsBehind (λ c. open_array_row c section.of.first.at section.is_open elem)) where
  -- what the parameters need after an open array
  pub names_making : IsMaking b.frame s y (variables.shapes names)
  names_making =
      subst (λ (is : List Ident). IsMaking b.frame s y (variables.shapes is)) (sym same)
      (making_on {ss = open_shapes section.is_open section.of} {ts = variables.shapes section.names.items} (opens section.is_open section.of) making p)

  -- parameters after an open array
  pub section_piece : {d : State} {z : Made} (from : Placing) (answer : Result (Ask Placing) Memory) → Declares b d y z s answer (variables.shapes names) IsPlaced (λ c. parameter_rows c (section_view section) elem t from names)
      → Declares a d x z s answer (own_section_shapes (section_view section)) IsPlaced (section_given (section_view section) elem from)
  section_piece {d} {z} from answer q =
      then_after (λ c. open_array_row c section.of.first.at section.is_open elem) (λ t c. parameter_rows c (section_view section) elem t from section.names.items) answer (opens section.is_open section.of) making p
      (subst (λ (is : List Ident). Declares b d y z s answer (variables.shapes is) IsPlaced (λ c. parameter_rows c (section_view section) elem t from is)) same q)

-- and all after the name of the type
pub section_whole : {a b d : State} {x y z : Made} {s : Site} {elem : Place} (section : Section) (from : Placing) (answer : Result (Ask Placing) Memory) → IsMaking a.frame s x (own_section_shapes (section_view section))
    → Declares a b x y s (Ok (Known elem)) [] IsBehind (λ c. only_gives (type_of_qual c section.of)) → Declares b d y z s answer (own_section_shapes (section_view section)) IsPlaced (section_given (section_view section) elem from)
    → Declares a d x z s answer (own_section_shapes (section_view section)) IsPlaced (λ c. own_section_rows c from (section_view section))
section_whole section from answer making p q =
    then_after (λ c. only_gives (type_of_qual c section.of)) (λ elem c. section_given (section_view section) elem from c) answer tt making p q

-- ** One after another

-- the first k of the sections are made, and the next parameter is there
pub record OwnSectionsGo (a b : State) (x y : Made) (s : Site) (first : Placing) (sections : List Section) (k : ℕ) (next : Placing) : Type 0 where
  pub cells : AreCells next
  pub on : GoesOn a b x y s (shapes sections) (shapes (drop k sections)) IsPlaced (λ c. own_sections_rows c first (map section_view sections)) (λ c. own_sections_rows c next (map section_view (drop k sections)))

pub no_sections : {a : State} {x : Made} {s : Site} {sections : List Section} (first : Placing) → IsMaking a.frame s x (shapes sections) → AreCells first → OwnSectionsGo a a x x s first sections 0 first
no_sections first making cells = record { cells = cells; on = goes_start making }

module _ {a b : State} {x y : Made} {s : Site} {first next : Placing} {sections : List Section} (k : ℕ) (i : Section) (h : k < length sections) (is : i ≡ get_or sections k i) (so : OwnSectionsGo a b x y s first sections k next) where
  -- taken apart at the next
  sections_at : GoesOn a b x y s (shapes sections) (own_section_shapes (section_view i) ++ shapes (drop (k + 1) sections)) IsPlaced (λ c. own_sections_rows c first (map section_view sections))
      (λ c. own_sections_rows c next (section_view i ∷ map section_view (drop (k + 1) sections)))
  sections_at =
      let e : drop k sections ≡ i ∷ drop (k + 1) sections = next_left sections k i h ∙ ap (λ (u : Section). u ∷ drop (k + 1) sections) (sym is) in
      goes_as (own_section_shapes (section_view i) ++ shapes (drop (k + 1) sections)) (λ c. own_sections_rows c next (section_view i ∷ map section_view (drop (k + 1) sections))) (ap shapes e)
      (λ hand in_hand told same. ap (λ (xs : List Section). own_sections_rows (context_of b.frame hand s) next (map section_view xs)) (sym e)) so.on

  pub section_making : IsMaking b.frame s y (own_section_shapes (section_view i))
  section_making = making_front (own_section_shapes (section_view i)) (shapes (drop (k + 1) sections)) sections_at.making

  pub one_section : {e : State} {z : Made} {v : Placing} → Declares b e y z s (Ok (Known v)) (own_section_shapes (section_view i)) IsPlaced (λ c. own_section_rows c next (section_view i)) → OwnSectionsGo a e x z s first sections (k + 1) v
  one_section q =
      record {
        cells = q.there;
        on = goes_step (λ c. own_section_rows c next (section_view i)) (λ p c. own_sections_rows c p (map section_view (drop (k + 1) sections))) (section_none i) sections_at q;
      }

  pub sections_failed : {e : State} {z : Made} {m : Memory} (n : Memory) → Declares b e y z s (Err m) (own_section_shapes (section_view i)) IsPlaced (λ c. own_section_rows c next (section_view i))
      → Declares a e x z s (Err n) (shapes sections) IsPlaced (λ c. own_sections_rows c first (map section_view sections))
  sections_failed n q = goes_failed sections_at q n

  pub sections_waiting : {e : State} {z : Made} {head : Head} → Declares b e y z s (Ok (DontKnowYet head)) (own_section_shapes (section_view i)) IsPlaced (λ c. own_section_rows c next (section_view i))
      → Declares a e x z s (Ok (DontKnowYet head)) (shapes sections) IsPlaced (λ c. own_sections_rows c first (map section_view sections))
  sections_waiting q = goes_waiting sections_at q

-- all are made
pub all_sections : {a b : State} {x y : Made} {s : Site} {first next : Placing} {sections : List Section} (k : ℕ) → k ≡ length sections → OwnSectionsGo a b x y s first sections k next
    → Declares a b x y s (Ok (Known next)) (shapes sections) IsPlaced (λ c. own_sections_rows c first (map section_view sections))
all_sections {b = b} {s = s} {next = next} {sections = sections} k end so =
    let e : drop k sections ≡ [] = ap (λ (n : ℕ). drop n sections) end ∙ none_left sections in
    goes_end next
    (goes_as [] (λ c. makes next) (ap shapes e) (λ hand in_hand told same. ap (λ (xs : List Section). own_sections_rows (context_of b.frame hand s) next (map section_view xs)) (sym e)) so.on)
    so.cells

-- ** The whole heading

-- where the first parameter is
abbrev pub first_of : Heading → Placing
first_of h = placing 0 (capped (parameter_cells (heading_view h).sections)) []

pub first_cells : (n : ℕ) {own : ℕ} {p : Placing} → p ≡ placing 0 own [] → own ≡ capped n → AreCells p
first_cells n {own} e is = subst (λ (p : Placing). AreCells p) (sym e) (record { cell = omega arith; own = omega (arith, is) })

pub first_at : {n own : ℕ} {p : Placing} (h : Heading) (sections : List Section) → sections ≡ h.sections.items → n ≡ parameter_cells (map section_view sections) → own ≡ capped n → p ≡ placing 0 own [] → p ≡ first_of h
first_at h sections same count is e =
    e ∙ ap (λ (own : ℕ). placing 0 own []) (is ∙ ap capped (count ∙ ap (λ (xs : List Section). parameter_cells (map section_view xs)) same))

pub sections_read : (texts : List (List ℕ)) (h : Heading) (sections : List Section) → sections ≡ h.sections.items → Each (IsReadSection texts) (heading_view h).sections → Each (IsReadSection texts) (map section_view sections)
sections_read texts h sections same all = subst (λ (xs : List Section). Each (IsReadSection texts) (map section_view xs)) (sym same) all

-- what the heading gives, after its result
pub effect_given : {a b : State} {x y : Made} {s : Site} {r : Option Place} (q : Option Qual) (p : Placing) (e : Effect) → e ≡ record { cell = p.own; prologue = p.copies; result = r; heading = None; brought = [] } → AreCells p
    → Declares a b x y s (Ok (Known r)) [] IsOptionBehind (λ c. only_gives (result_type c q)) → Declares a b x y s (Ok (Known e)) [] IsLoneEffect (heading_effect q p)
effect_given {a = a} {y = y} q p e same cells piece =
    valued IsLoneEffect (λ r. record { cell = p.own; prologue = p.copies; result = r; heading = None; brought = [] }) e same
    (subst (λ (v : Effect). IsLoneEffect a.frame (next_ordinal y) v) (sym same) (record { effect = record { cell = cells.own; result = piece.there }; alone = refl })) piece

-- what the sections need
-- they are not too many
pub few_own_rows : {f : Frame} {s : Site} {x : Made} (h : Heading) → IsMaking f s x (flat_map own_section_shapes (heading_view h).sections) → sections_length (map section_view h.sections.items) ≤ 2 ^ 31
few_own_rows h making =
    let e = own_rows_length h.sections.items in
    let a = making.room in
    let b = making.few in
    omega arith

pub all_making : {f : Frame} {s : Site} {x : Made} (h : Heading) (sections : List Section) → sections ≡ h.sections.items → IsMaking f s x (flat_map own_section_shapes (heading_view h).sections) → IsMaking f s x (shapes sections)
all_making {f} {s} {x} h sections same making = subst (λ (xs : List Section). IsMaking f s x (shapes xs)) (sym same) making

making_nil : {f : Frame} {s : Site} {x : Made} (ss : List Shape) → IsMaking f s x ss → IsMaking f s x (ss ++ [])
making_nil {f} {s} {x} ss making = subst (λ (ts : List Shape). IsMaking f s x ts) (sym (append-nil ss)) making

module _ {a b : State} {x y : Made} {s : Site} {from v : Placing} (h : Heading) (sections : List Section) (same : sections ≡ h.sections.items) (making : IsMaking a.frame s x (flat_map own_section_shapes (heading_view h).sections)) (is : from ≡ first_of h)
    (p : Declares a b x y s (Ok (Known v)) (shapes sections) IsPlaced (λ c. own_sections_rows c from (map section_view sections))) where
  -- the sections, as the heading has them
  as_heading : Declares a b x y s (Ok (Known v)) (shapes h.sections.items) IsPlaced (λ c. own_sections_rows c (first_of h) (heading_view h).sections)
  as_heading =
      subst (λ (f : Placing). Declares a b x y s (Ok (Known v)) (shapes h.sections.items) IsPlaced (λ c. own_sections_rows c f (heading_view h).sections)) is
      (subst (λ (xs : List Section). Declares a b x y s (Ok (Known v)) (shapes xs) IsPlaced (λ c. own_sections_rows c from (map section_view xs))) same p)

  -- what the result needs
  pub result_making : IsMaking b.frame s y []
  result_making = making_on {ss = shapes h.sections.items} {ts = []} (sections_none h.sections.items) (making_nil (shapes h.sections.items) making) as_heading

  -- the result after the sections
  pub heading_whole : {d : State} {z : Made} (answer : Result (Ask Effect) Memory) → Declares b d y z s answer [] IsLoneEffect (heading_effect h.result v)
      → Declares a d x z s answer (flat_map own_section_shapes (heading_view h).sections) IsLoneEffect (λ c. heading_rows c (heading_view h))
  heading_whole answer q =
      reshaped answer (shapes h.sections.items) (append-nil (shapes h.sections.items))
      (then_after {ss = shapes h.sections.items} {ts = []} (λ c. own_sections_rows c (first_of h) (heading_view h).sections) (λ f c. heading_effect h.result f c) answer (sections_none h.sections.items) (making_nil (shapes h.sections.items) making) as_heading q)
