-- Variables of one type, one after another.
use Rattle.std.specs.Prelude.{◌≡◌, ℕ, zero, suc, ◌+◌, ◌<◌, ◌≤◌, Bool, true, false, if◌then◌else◌, List, [], ◌∷◌, ◌++◌, length, map, drop, Result, Ok, Err}
use Rattle.std.proofs.Common.{refl, sym, ap, ◌∙◌, subst, arith, get_or}
use Rattle.std.proofs.Math.Seq.{drop-cons}
use Rattle.std.proofs.lemmas.List.{append-nil}
use Rattle.m2_base.specs.Lists.{Each}
use Rattle.m2_base.specs.Rows.{row_meaning, row_of, type_name_kind, var_kind}
use Rattle.m2_base.specs.Standard.{is_standard}
use Rattle.m2_base.specs.States.{Frame, State}
use Rattle.m2_base.specs.Statics.Cells.{capped, most_cells}
use Rattle.m2_base.specs.Statics.Contexts.{Context, Scene, diag}
use Rattle.m2_base.specs.Statics.Diagnostics.{declared_twice, standard_declared}
use Rattle.m2_base.specs.Statics.Lookup.{has_name}
use Rattle.m2_base.specs.Statics.Makes.{Makes, make_then, makes, makes_named, one_row, with_rows}
use Rattle.m2_base.specs.Statics.NameRows.{var_rows}
use Rattle.m2_base.specs.Statics.Shapes.{Shape, named}
use Rattle.m2_base.specs.Statics.Types.{size_of}
use Rattle.m2_base.specs.declared.memory.Memory.{Memory}
use Rattle.m2_base.specs.declared.replies.Ask.{Ask}
use Rattle.m2_base.specs.declared.replies.Ask.TheVariants.{Known}
use Rattle.m2_base.specs.declared.rows.Mode.TheVariants.{Plain}
use Rattle.m2_base.specs.declared.rows.Place.{Place}
use Rattle.m2_base.specs.declared.rows.Row.{Row}
use Rattle.m2_base.specs.declared.rows.RowMeaning.{RowMeaning}
use Rattle.m2_base.specs.declared.rows.RowMeaning.TheVariants.{Var}
use Rattle.m2_base.specs.declared.sites.Site.{Site}
use Rattle.m2_base.specs.declared.trees.Ident.{Ident}
use Rattle.m2_base.proofs.SceneLaws.{with-twice}
use Rattle.type_rules.specs.Asks.{Reads}
use Rattle.type_rules.specs.Scenes.{NamesNoType}
use Rattle.type_rules.specs.Sites.{context_of}
use Rattle.decl_sem.specs.Making.{next_ordinal}
use Rattle.decl_sem.specs.Pieces.{Declares, IsAny, IsBehind, IsMaking, IsNewMeaning, WhereMaking, holding}
use Rattle.m2_base.specs.Statics.ReadTrees.{AreReadNames, IsReadName}
use Rattle.decl_sem.specs.Variables.{IsCell, sized_rows}
use Rattle.decl_sem.specs.declared.making.Made.{Made}
use Rattle.decl_sem.proofs.Hands.{hand_with}
use Rattle.decl_sem.proofs.OneRows.{before_next, behind_more, small_scope}
use Rattle.decl_sem.proofs.Pieces.{GoesOn, asked, asked_then, described, goes_as, goes_end, goes_failed, goes_start, goes_step, making_front, next_on}

-- the shapes of variables
abbrev pub shapes : List Ident → List Shape
shapes names = map (named var_kind) names

-- what stands for a name past the last
abbrev pub no_ident : Ident
no_ident = record { name = 0; at = 0 }

-- ** In a loop

-- the first k of the variables are made, and the next cell is this one
pub record HasVariables (a : State) (s : Site) (before now : Made) (of : Place) (size first : ℕ) (names : List Ident) (k cell : ℕ) : Type 0 where
  pub cell_is : cell ≤ most_cells + 1
  pub count : next_ordinal before ≤ next_ordinal now
  pub on : GoesOn a a before now s (shapes names) (shapes (drop k names)) IsCell (λ c. sized_rows c of size first names) (λ c. sized_rows c of size cell (drop k names))

pub no_variables : {a : State} {s : Site} {before : Made} {names : List Ident} (of : Place) (size first : ℕ) → IsMaking a.frame s before (shapes names) → first ≤ most_cells + 1
    → HasVariables a s before before of size first names 0 first
no_variables of size first making h = record { cell_is = h; count = omega arith; on = goes_start making }

pub read_at : (texts : List (List ℕ)) (xs : List Ident) (k : ℕ) (d : Ident) → k < length xs → AreReadNames texts xs → IsReadName texts (get_or xs k d)
read_at texts [] k d h all = absurd (omega (arith, h))
read_at texts (x ∷ xs) zero d h all = all.0
read_at texts (x ∷ xs) (suc k) d h all = read_at texts xs k d (omega (arith, h)) all.1

-- the names from the next on
pub next_left : {A : Type 0} (xs : List A) (k : ℕ) (d : A) → k < length xs → drop k xs ≡ get_or xs k d ∷ drop (k + 1) xs
next_left xs k d h =
    let e : suc k ≡ k + 1 = omega arith in
    drop-cons xs k d h ∙ ap (λ (n : ℕ). get_or xs k d ∷ drop n xs) e

pub none_left : {A : Type 0} (xs : List A) → drop (length xs) xs ≡ []
none_left [] = refl
none_left (x ∷ xs) = none_left xs

module _ {a : State} {s : Site} {before now : Made} {of : Place} {size first : ℕ} {names : List Ident} {cell : ℕ} (k : ℕ) (d : Ident) (h : k < length names) (so : HasVariables a s before now of size first names k cell) where
  abbrev i : Ident
  i = get_or names k d

  variables_at : GoesOn a a before now s (shapes names) (named var_kind i ∷ shapes (drop (k + 1) names)) IsCell (λ c. sized_rows c of size first names) (λ c. sized_rows c of size cell (i ∷ drop (k + 1) names))
  variables_at =
      let e = next_left names k d h in
      goes_as (named var_kind i ∷ shapes (drop (k + 1) names)) (λ c. sized_rows c of size cell (i ∷ drop (k + 1) names)) (ap shapes e)
      (λ hand in_hand told same. ap (λ (xs : List Ident). sized_rows (context_of a.frame hand s) of size cell xs) (sym e)) so.on

  -- what the next variable needs
  pub this_making : IsMaking a.frame s now (named var_kind i ∷ [])
  this_making = making_front (named var_kind i ∷ []) (shapes (drop (k + 1) names)) variables_at.making

  pub this_meaning : IsBehind a.frame (next_ordinal before) of → IsNewMeaning a.frame s (next_ordinal now) (Var of Plain cell)
  this_meaning behind =
      let here = behind_more so.count behind in
      record {
        small = behind.small;
        scopes = small_scope this_making here;
        fits = (before_next here, let n = so.cell_is in omega arith);
        filled = tt;
        owned = tt;
      }

  pub one_variable : {after : Made} {p : Place} (next : ℕ) → next ≡ capped (cell + size) → Declares a a now after s (Ok (Known p)) (named var_kind i ∷ []) IsBehind (λ c. makes_named c i.name i.at (Var of Plain cell))
      → HasVariables a s before after of size first names (k + 1) next
  one_variable {after} {p} next e piece =
      subst (λ (n : ℕ). HasVariables a s before after of size first names (k + 1) n) (sym e)
      (record {
        cell_is = omega arith;
        count = let n = next_on piece.first piece.grown in let m = so.count in omega arith;
        on = goes_step (λ c. makes_named c i.name i.at (Var of Plain cell)) (λ p c. sized_rows c of size (capped (cell + size)) (drop (k + 1) names))
            (λ e. absurd (let b : var_kind ≡ type_name_kind = e in omega arith), tt) variables_at piece;
      })

  -- want of memory in the next variable
  pub variables_failed : {after : Made} {m : Memory} (n : Memory) → Declares a a now after s (Err m) (named var_kind i ∷ []) IsBehind (λ c. makes_named c i.name i.at (Var of Plain cell))
      → Declares a a before after s (Err n) (shapes names) IsCell (λ c. sized_rows c of size first names)
  variables_failed n piece = goes_failed variables_at piece n

-- all are made
pub all_variables : {a : State} {s : Site} {before now : Made} {of : Place} {size first : ℕ} {names : List Ident} {cell : ℕ} (k : ℕ) → k ≡ length names → HasVariables a s before now of size first names k cell
    → Declares a a before now s (Ok (Known cell)) (shapes names) IsCell (λ c. sized_rows c of size first names)
all_variables {a} {s} {of = of} {size = size} {names = names} {cell = cell} k end so =
    let e : drop k names ≡ [] = ap (λ (n : ℕ). drop n names) end ∙ none_left names in
    goes_end cell
    (goes_as [] (λ c. makes cell) (ap shapes e) (λ hand in_hand told same. ap (λ (xs : List Ident). sized_rows (context_of a.frame hand s) of size cell xs) (sym e)) so.on)
    so.cell_is

-- ** The size of the type

-- it has this size, whatever further rows are made that name no types
abbrev pub HasSize : Context → Place → (size : ℕ) → Type 0
HasSize c t size = (rows : List Row) → Each (λ r. NamesNoType (row_meaning r)) rows → size ≡ size_of (with_rows c rows).scene t

no_type_named : (c : Context) (name at : ℕ) (t : Place) (cell : ℕ) → Each (λ r. NamesNoType (row_meaning r)) (makes_named c name at (Var t Plain cell)).rows
no_type_named c name at t cell = go (is_standard name) (has_name c.scene.tables c.scene.block.scope name)
  where
    m : RowMeaning
    m = Var t Plain cell

    go : (x y : Bool) → Each (λ r. NamesNoType (row_meaning r)) (if x then one_row c (row_of 0 at m) (diag c at standard_declared ∷ []) else if y then one_row c (row_of 0 at m) (diag c at declared_twice ∷ []) else one_row c (row_of name at m) []).rows
    go true y = (tt, tt)
    go false true = (tt, tt)
    go false false = (tt, tt)

pub types-append : (xs ys : List Row) → Each (λ r. NamesNoType (row_meaning r)) xs → Each (λ r. NamesNoType (row_meaning r)) ys → Each (λ r. NamesNoType (row_meaning r)) (xs ++ ys)
types-append [] ys h k = k
types-append (x ∷ xs) ys h k = (h.0, types-append xs ys h.1 k)

pub then_same : {A B : Type 0} (c : Context) (m : Makes A) (f h : Context → A → Makes B) → f (with_rows c m.rows) m.value ≡ h (with_rows c m.rows) m.value → make_then c m f ≡ make_then c m h
then_same {A} {B} c m f h e =
    ap (λ (b : Makes B). record { value = b.value; rows = m.rows ++ b.rows; diags = m.diags ++ b.diags; answers = m.answers ++ b.answers }) e

-- so its variables are those of the definition
pub sized : (names : List Ident) (c : Context) (t : Place) (size cell : ℕ) → HasSize c t size → sized_rows c t size cell names ≡ var_rows c t cell names
sized [] c t size cell has = refl
sized (i ∷ names) c t size cell has =
    let m = makes_named c i.name i.at (Var t Plain cell) in
    let types = no_type_named c i.name i.at t cell in
    let d = with_rows c m.rows in
    then_same c m (λ d p. sized_rows d t size (capped (cell + size)) names) (λ d p. var_rows d t (capped (cell + size_of d.scene t)) names)
    (sized names d t size (capped (cell + size))
    (λ rows none. has (m.rows ++ rows) (types-append m.rows rows types none) ∙ ap (λ (scene : Scene). size_of scene t) (sym (with-twice c.scene m.rows rows)))
    ∙ ap (λ (n : ℕ). var_rows d t (capped (cell + n)) names) (has m.rows types))

-- the size of a type, where told
abbrev pub IsSizeOf : Frame → Made → Site → Place → (size : ℕ) → Type 0
IsSizeOf f x s t size = WhereMaking f x (λ hand. (more : List Row) → Each (λ r. NamesNoType (row_meaning r)) more → size ≡ size_of (context_of f (holding hand more) s).scene t)

pub has_size : {f : Frame} {s : Site} {x : Made} {ss : List Shape} (t : Place) (size : ℕ) → IsMaking f s x ss → IsSizeOf f x s t size → WhereMaking f x (λ hand. HasSize (context_of f hand s) t size)
has_size t size making is hand in_hand told same rows none =
    is hand in_hand told same rows none ∙ ap (λ (c : Context). size_of c.scene t) (sym (hand_with hand rows making.suits told))

-- the question for the size
pub size_asked : {a b : State} {x : Made} {s : Site} (t : Place) (size : ℕ) → Reads a b → IsSizeOf a.frame x s t size
    → Declares a b x x s (Ok (Known size)) [] IsAny (λ c. makes (size_of c.scene t))
size_asked {a} {b} {x} {s} t size reads is =
    asked x s (Known size) IsAny (λ c. size_of c.scene t) reads tt
    (λ hand in_hand told same. is hand in_hand told same [] tt ∙ ap (λ (rows : List Row). size_of (context_of a.frame (record { finished = hand.finished; rows = rows }) s).scene t) (append-nil hand.rows)) tt

-- variables of a type, after the question for its size
pub of_this_size : {a b : State} {x z : Made} {s : Site} (t : Place) (cell : ℕ) (names : List Ident) (size : ℕ) (answer : Result (Ask ℕ) Memory) → IsMaking a.frame s x (shapes names) → Reads a b → IsSizeOf a.frame x s t size
    → Declares b b x z s answer (shapes names) IsCell (λ c. sized_rows c t size cell names) → Declares a b x z s answer (shapes names) IsCell (λ c. var_rows c t cell names)
of_this_size {a} {b} {x} {z} {s} t cell names size answer making reads is piece =
    described answer (λ c. var_rows c t cell names)
    (asked_then (λ c. size_of c.scene t) (λ size c. sized_rows c t size cell names) answer making (size_asked t size reads is) piece)
    (λ hand in_hand told same.
    let c = context_of a.frame hand s in
    let has = has_size t size making is hand in_hand told same in
    let one : size ≡ size_of c.scene t = is hand in_hand told same [] tt ∙ ap (λ (rows : List Row). size_of (context_of a.frame (record { finished = hand.finished; rows = rows }) s).scene t) (append-nil hand.rows) in
    sized names c t (size_of c.scene t) cell (subst (λ (n : ℕ). HasSize c t n) one has))
