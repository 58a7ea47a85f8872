-- The parameters of procedure types.
use Rattle.std.specs.Prelude.{◌≡◌, ℕ, zero, suc, ◌+◌, ◌<◌, ◌^◌, Bool, true, false, List, [], ◌∷◌, ◌++◌, length, drop, flat_map}
use Rattle.std.proofs.Common.{refl, sym, ap, ◌∙◌, subst, arith, get_or, Ok, Err, Result}
use Rattle.std.proofs.Math.Seq.{drop-cons}
use Rattle.std.proofs.lemmas.List.{append_assoc}
use Rattle.m2_base.proofs.SceneLaws.{with-twice}
use Rattle.m2_base.specs.Rows.{open_array_kind, param_kind}
use Rattle.m2_base.specs.States.{Frame, State}
use Rattle.m2_base.specs.Statics.Contexts.{Context, Scene}
use Rattle.m2_base.specs.Statics.Makes.{Makes, make_then, makes, makes_row, with_rows}
use Rattle.m2_base.specs.Statics.ProcedureTypes.{formal_rows, open_array_row, parameter_type}
use Rattle.m2_base.specs.Statics.Shapes.{Shape, formal_shapes, nameless, open_shapes}
use Rattle.m2_base.specs.declared.memory.Memory.{Memory}
use Rattle.m2_base.specs.declared.replies.Ask.{Ask}
use Rattle.m2_base.specs.declared.replies.Ask.TheVariants.{DontKnowYet, Known}
use Rattle.m2_base.specs.declared.replies.Head.{Head}
use Rattle.m2_base.specs.declared.rows.Place.{Place}
use Rattle.m2_base.specs.declared.rows.Row.{Row}
use Rattle.m2_base.specs.declared.rows.RowMeaning.TheVariants.{OpenArray, Param}
use Rattle.m2_base.specs.declared.sites.Site.{Site}
use Rattle.m2_base.specs.declared.trees.Qual.{Qual}
use Rattle.m2_base.specs.declared.trees.types.Formal.{Formal}
use Rattle.type_rules.specs.Sites.{context_of}
use Rattle.decl_sem.specs.Making.{next_ordinal}
use Rattle.decl_sem.specs.Pieces.{Declares, IsAny, IsBehind, IsMaking, IsNewMeaning}
use Rattle.m2_base.specs.Statics.ReadTrees.{AreReadFormals, IsReadQual}
use Rattle.decl_sem.specs.declared.making.Made.{Made}
use Rattle.decl_sem.proofs.OneRows.{before_next, small_scope}
use Rattle.decl_sem.proofs.Pieces.{AreNoTypes, GoesOn, goes_as, goes_end, goes_failed, goes_step, goes_waiting, making_front, no_types-append, not_a_type, value_alone}

pub open_meaning : {f : Frame} {s : Site} {x : Made} {ss : List Shape} {t : Place} → IsMaking f s x ss → IsBehind f (next_ordinal x) t → IsNewMeaning f s (next_ordinal x) (OpenArray t)
open_meaning making h = record { small = h.small; scopes = small_scope making h; fits = before_next h; filled = tt; owned = tt }

pub param_meaning : {f : Frame} {s : Site} {x : Made} {ss : List Shape} {t : Place} (by_ref : Bool) (own : ℕ) → own < 2 ^ 32 → IsMaking f s x ss → IsBehind f (next_ordinal x) t → IsNewMeaning f s (next_ordinal x) (Param t by_ref own)
param_meaning by_ref own few making h = record { small = h.small; scopes = small_scope making h; fits = (before_next h, few); filled = tt; owned = tt }

pub open_no_types : (b : Bool) (q : Qual) → AreNoTypes (open_shapes b q)
open_no_types true q = not_a_type (nameless open_array_kind q.first.at) refl
open_no_types false q = tt

-- an open array
module _ {a : State} {s : Site} {x y : Made} (q : Qual) (of : Place) (is_open : Bool) where
  pub opened : {answer : Result (Ask Place) Memory} → is_open ≡ true → (IsMaking a.frame s x (nameless open_array_kind q.first.at ∷ []) → IsNewMeaning a.frame s (next_ordinal x) (OpenArray of) → Declares a a x y s answer (nameless open_array_kind q.first.at ∷ []) IsBehind (λ c. makes_row c q.first.at (OpenArray of)))
      → IsMaking a.frame s x (open_shapes is_open q) → IsBehind a.frame (next_ordinal x) of → Declares a a x y s answer (open_shapes is_open q) IsBehind (λ c. open_array_row c q.first.at is_open of)
  opened {answer} e piece making behind =
      let here : IsMaking a.frame s x (open_shapes true q) = subst (λ (b : Bool). IsMaking a.frame s x (open_shapes b q)) e making in
      subst (λ (b : Bool). Declares a a x y s answer (open_shapes b q) IsBehind (λ c. open_array_row c q.first.at b of)) (sym e) (piece here (open_meaning here behind))

-- any other type
pub closed : {a : State} {s : Site} {x : Made} (q : Qual) (of : Place) (is_open : Bool) → is_open ≡ false → IsBehind a.frame (next_ordinal x) of
    → Declares a a x x s (Ok (Known of)) (open_shapes is_open q) IsBehind (λ c. open_array_row c q.first.at is_open of)
closed {a} {s} {x} q of is_open e behind =
    subst (λ (b : Bool). Declares a a x x s (Ok (Known of)) (open_shapes b q) IsBehind (λ c. open_array_row c q.first.at b of)) (sym e) (value_alone a x s of IsBehind behind)

-- ** The list

formal_no_types : (f : Formal) → AreNoTypes (formal_shapes f)
formal_no_types f = no_types-append (open_shapes f.is_open f.of) (nameless param_kind f.of.first.at ∷ []) (open_no_types f.is_open f.of) (not_a_type (nameless param_kind f.of.first.at) refl)

pub read_formal : {names : List (List ℕ)} (xs : List Formal) (k : ℕ) (d : Formal) → k < length xs → AreReadFormals names xs → IsReadQual names (get_or xs k d).of
read_formal [] k d h all = absurd (omega (arith, h))
read_formal (x ∷ xs) zero d h all = all.0
read_formal (x ∷ xs) (suc k) d h all = read_formal xs k d (omega (arith, h)) all.1

context-twice : (c : Context) (xs ys : List Row) → with_rows (with_rows c xs) ys ≡ with_rows c (xs ++ ys)
context-twice c xs ys = ap (λ (s : Scene). record { source = c.source; scene = s; layout = c.layout; item = c.item }) (with-twice c.scene xs ys)

-- the parts of three in a row can be taken together
pub make_then_assoc : {A B C : Type 0} (c : Context) (m : Makes A) (f : Context → A → Makes B) (h : Context → B → Makes C) → make_then c (make_then c m f) h ≡ make_then c m (λ d t. make_then d (f d t) h)
make_then_assoc c m f h =
    let d = with_rows c m.rows in
    let b = f d m.value in
    let k = with_rows d b.rows in
    ap (λ (e : Context). record { value = (h e b.value).value; rows = (m.rows ++ b.rows) ++ (h e b.value).rows; diags = (m.diags ++ b.diags) ++ (h e b.value).diags; answers = (m.answers ++ b.answers) ++ (h e b.value).answers }) (sym (context-twice c m.rows b.rows))
    ∙ ap (λ rows. record { value = (h k b.value).value; rows = rows; diags = (m.diags ++ b.diags) ++ (h k b.value).diags; answers = (m.answers ++ b.answers) ++ (h k b.value).answers }) (append_assoc m.rows b.rows (h k b.value).rows)
    ∙ ap (λ diags. record { value = (h k b.value).value; rows = m.rows ++ (b.rows ++ (h k b.value).rows); diags = diags; answers = (m.answers ++ b.answers) ++ (h k b.value).answers }) (append_assoc m.diags b.diags (h k b.value).diags)
    ∙ ap (λ answers. record { value = (h k b.value).value; rows = m.rows ++ (b.rows ++ (h k b.value).rows); diags = m.diags ++ (b.diags ++ (h k b.value).diags); answers = answers }) (append_assoc m.answers b.answers (h k b.value).answers)

-- what one parameter makes
abbrev pub formal_given : (own : ℕ) → Formal → Context → Makes Place
formal_given own f c = make_then c (parameter_type c f.is_open f.of) (λ d t. makes_row d f.of.first.at (Param t f.by_ref own))

abbrev pub formals_shapes : List Formal → List Shape
formals_shapes formals = flat_map formal_shapes formals

-- the first of the parameters are made
abbrev pub FormalsGo : (a b : State) (x y : Made) → Site → (own : ℕ) → List Formal → (k : ℕ) → Type 0
FormalsGo a b x y s own formals k = GoesOn a b x y s (formals_shapes formals) (formals_shapes (drop k formals)) IsAny (λ c. formal_rows c own formals) (λ c. formal_rows c own (drop k formals))

pub formals_from : (xs : List Formal) (k : ℕ) (d : Formal) → k < length xs → drop k xs ≡ get_or xs k d ∷ drop (k + 1) xs
formals_from xs k d h = drop-cons xs k d h ∙ (let e : suc k ≡ k + 1 = omega arith in ap (λ (n : ℕ). get_or xs k d ∷ drop n xs) e)

module _ {a b : State} {x y : Made} {s : Site} (own : ℕ) (formals : List Formal) (k : ℕ) (d : Formal) (h : k < length formals) where
  -- taken apart at the next
  formals_at : FormalsGo a b x y s own formals k → GoesOn a b x y s (formals_shapes formals) (formal_shapes (get_or formals k d) ++ formals_shapes (drop (k + 1) formals)) IsAny (λ c. formal_rows c own formals)
      (λ c. make_then c (formal_given own (get_or formals k d) c) (λ e p. formal_rows e own (drop (k + 1) formals)))
  formals_at so =
      goes_as (formal_shapes (get_or formals k d) ++ formals_shapes (drop (k + 1) formals)) (λ c. make_then c (formal_given own (get_or formals k d) c) (λ e p. formal_rows e own (drop (k + 1) formals)))
      (ap formals_shapes (formals_from formals k d h))
      (λ hand in_hand told same. let c = context_of b.frame hand s in let f = get_or formals k d in
      make_then_assoc c (parameter_type c f.is_open f.of) (λ e t. makes_row e f.of.first.at (Param t f.by_ref own)) (λ e p. formal_rows e own (drop (k + 1) formals))
      ∙ ap (formal_rows c own) (sym (formals_from formals k d h)))
      so

  pub next_making : FormalsGo a b x y s own formals k → IsMaking b.frame s y (formal_shapes (get_or formals k d))
  next_making so = making_front (formal_shapes (get_or formals k d)) (formals_shapes (drop (k + 1) formals)) (formals_at so).making

  pub one_more_formal : {e : State} {z : Made} {p : Place} → FormalsGo a b x y s own formals k → Declares b e y z s (Ok (Known p)) (formal_shapes (get_or formals k d)) IsBehind (formal_given own (get_or formals k d)) → FormalsGo a e x z s own formals (k + 1)
  one_more_formal so q = goes_step (formal_given own (get_or formals k d)) (λ p c. formal_rows c own (drop (k + 1) formals)) (formal_no_types (get_or formals k d)) (formals_at so) q

  pub formals_failed : {e : State} {z : Made} {m : Memory} (n : Memory) → FormalsGo a b x y s own formals k → Declares b e y z s (Err m) (formal_shapes (get_or formals k d)) IsBehind (formal_given own (get_or formals k d))
      → Declares a e x z s (Err n) (formals_shapes formals) IsAny (λ c. formal_rows c own formals)
  formals_failed n so q = goes_failed (formals_at so) q n

  pub formals_waiting : {e : State} {z : Made} {head : Head} → FormalsGo a b x y s own formals k → Declares b e y z s (Ok (DontKnowYet head)) (formal_shapes (get_or formals k d)) IsBehind (formal_given own (get_or formals k d))
      → Declares a e x z s (Ok (DontKnowYet head)) (formals_shapes formals) IsAny (λ c. formal_rows c own formals)
  formals_waiting so q = goes_waiting (formals_at so) q

no_formals_left : (xs : List Formal) → drop (length xs) xs ≡ []
no_formals_left [] = refl
no_formals_left (x ∷ xs) = no_formals_left xs

-- all are made
pub all_formals : {a b : State} {x y : Made} {s : Site} (own : ℕ) (formals : List Formal) → FormalsGo a b x y s own formals (length formals) → Declares a b x y s (Ok (Known tt)) (formals_shapes formals) IsAny (λ c. formal_rows c own formals)
all_formals {b = b} {s = s} own formals so =
    goes_end tt
    (goes_as [] (λ c. makes tt) (ap formals_shapes (no_formals_left formals)) (λ hand in_hand told same. ap (formal_rows (context_of b.frame hand s) own) (sym (no_formals_left formals))) so)
    tt
