-- Parameters of one type, one after another.
use Rattle.std.specs.Prelude.{◌≡◌, ℕ, ◌+◌, ◌<◌, ◌≤◌, ◌^◌, Bool, List, [], ◌∷◌, length, map, drop, Result, Ok, Err}
use Rattle.std.proofs.Common.{sym, ap, ◌∙◌, subst, arith, get_or}
use Rattle.m2_base.specs.Rows.{param_kind, type_name_kind}
use Rattle.m2_base.specs.States.{Frame, State}
use Rattle.m2_base.specs.Statics.Makes.{makes, makes_row, only_gives}
use Rattle.m2_base.specs.Statics.ProcedureTypes.{open_array_row, parameter_type}
use Rattle.m2_base.specs.Statics.TypeNames.{type_of_qual}
use Rattle.m2_base.specs.Statics.ProcedureRows.{param_rows}
use Rattle.m2_base.specs.Statics.Shapes.{Shape, nameless, open_shapes}
use Rattle.m2_base.specs.declared.memory.Memory.{Memory}
use Rattle.m2_base.specs.declared.replies.Ask.{Ask}
use Rattle.m2_base.specs.declared.replies.Ask.TheVariants.{Known}
use Rattle.m2_base.specs.declared.rows.Place.{Place}
use Rattle.m2_base.specs.declared.rows.RowMeaning.TheVariants.{Param}
use Rattle.m2_base.specs.declared.sites.Site.{Site}
use Rattle.m2_base.specs.declared.trees.Ident.{Ident}
use Rattle.m2_base.specs.declared.trees.Qual.{Qual}
use Rattle.type_rules.specs.Scenes.{IsThere}
use Rattle.type_rules.specs.Sites.{context_of}
use Rattle.const_eval.specs.Analyses.{Analysed}
use Rattle.decl_sem.specs.Making.{next_ordinal}
use Rattle.decl_sem.specs.Pieces.{Declares, IsAny, IsBehind, IsMaking, IsNewMeaning}
use Rattle.decl_sem.specs.declared.making.Made.{Made}
use Rattle.decl_sem.proofs.ConstantRows.{behind_there}
use Rattle.decl_sem.proofs.OneRows.{before_next, behind_more, small_scope}
use Rattle.decl_sem.proofs.Pieces.{GoesOn, analysed, goes_as, goes_end, goes_failed, goes_start, goes_step, making_front, making_on, next_on, then_after}
use Rattle.decl_sem.proofs.VariableLists.{next_left, none_left}

-- the shapes of parameters
abbrev pub shapes : List Ident → List Shape
shapes names = map (λ i. nameless param_kind i.at) names

-- the first k of the parameters are made
pub record HasParameters (a : State) (s : Site) (before now : Made) (own : ℕ) (by_ref : Bool) (of : Place) (names : List Ident) (k : ℕ) : Type 0 where
  pub count : next_ordinal before ≤ next_ordinal now
  pub on : GoesOn a a before now s (shapes names) (shapes (drop k names)) IsAny (λ c. param_rows c own by_ref of names) (λ c. param_rows c own by_ref of (drop k names))

pub no_parameters : {a : State} {s : Site} {before : Made} {names : List Ident} (own : ℕ) (by_ref : Bool) (of : Place) → IsMaking a.frame s before (shapes names) → HasParameters a s before before own by_ref of names 0
no_parameters own by_ref of making = record { count = omega arith; on = goes_start making }

module _ {a : State} {s : Site} {before now : Made} {own : ℕ} {by_ref : Bool} {of : Place} {names : List Ident} (k : ℕ) (d : Ident) (h : k < length names) (so : HasParameters a s before now own by_ref of names k) where
  abbrev i : Ident
  i = get_or names k d

  parameters_at : GoesOn a a before now s (shapes names) (nameless param_kind i.at ∷ shapes (drop (k + 1) names)) IsAny (λ c. param_rows c own by_ref of names) (λ c. param_rows c own by_ref of (i ∷ drop (k + 1) names))
  parameters_at =
      let e = next_left names k d h in
      goes_as (nameless param_kind i.at ∷ shapes (drop (k + 1) names)) (λ c. param_rows c own by_ref of (i ∷ drop (k + 1) names)) (ap shapes e)
      (λ hand in_hand told same. ap (λ (xs : List Ident). param_rows (context_of a.frame hand s) own by_ref of xs) (sym e)) so.on

  -- what the next parameter needs
  pub parameter_making : IsMaking a.frame s now (nameless param_kind i.at ∷ [])
  parameter_making = making_front (nameless param_kind i.at ∷ []) (shapes (drop (k + 1) names)) parameters_at.making

  pub parameter_meaning : own < 2 ^ 32 → IsBehind a.frame (next_ordinal before) of → IsNewMeaning a.frame s (next_ordinal now) (Param of by_ref own)
  parameter_meaning small behind =
      let here = behind_more so.count behind in
      record { small = behind.small; scopes = small_scope parameter_making here; fits = (before_next here, small); filled = tt; owned = tt }

  pub one_parameter : {after : Made} {p : Place} → Declares a a now after s (Ok (Known p)) (nameless param_kind i.at ∷ []) IsBehind (λ c. makes_row c i.at (Param of by_ref own)) → HasParameters a s before after own by_ref of names (k + 1)
  one_parameter {after} {p} piece =
      record {
        count = let n = next_on piece.first piece.grown in let m = so.count in omega arith;
        on = goes_step (λ c. makes_row c i.at (Param of by_ref own)) (λ p c. param_rows c own by_ref of (drop (k + 1) names)) (λ e. absurd (let b : param_kind ≡ type_name_kind = e in omega arith), tt) parameters_at piece;
      }

  -- want of memory in the next parameter
  pub parameters_failed : {after : Made} {m : Memory} (n : Memory) → Declares a a now after s (Err m) (nameless param_kind i.at ∷ []) IsBehind (λ c. makes_row c i.at (Param of by_ref own)) → Declares a a before after s (Err n) (shapes names) IsAny (λ c. param_rows c own by_ref of names)
  parameters_failed n piece = goes_failed parameters_at piece n

-- all are made
pub all_parameters : {a : State} {s : Site} {before now : Made} {own : ℕ} {by_ref : Bool} {of : Place} {names : List Ident} (k : ℕ) → k ≡ length names → HasParameters a s before now own by_ref of names k
    → Declares a a before now s (Ok (Known tt)) (shapes names) IsAny (λ c. param_rows c own by_ref of names)
all_parameters {a} {s} {own = own} {by_ref = by_ref} {of = of} {names = names} k end so =
    let e : drop k names ≡ [] = ap (λ (n : ℕ). drop n names) end ∙ none_left names in
    goes_end tt
    (goes_as [] (λ c. makes tt) (ap shapes e) (λ hand in_hand told same. ap (λ (xs : List Ident). param_rows (context_of a.frame hand s) own by_ref of xs) (sym e)) so.on)
    tt

-- ** The type of a parameter

-- the type that a name leads to
pub type_piece : {a b : State} {x y : Made} {s : Site} {t : Place} {ss : List Shape} (q : Qual) → IsMaking a.frame s x ss → y.rows ≡ x.rows → y.first ≡ x.first → Analysed a b x.notes y.notes s (Ok (Known t)) IsThere (λ c. type_of_qual c q)
    → Declares a b x y s (Ok (Known t)) [] (λ f next v. IsThere f v) (λ c. only_gives (type_of_qual c q))
type_piece {t = t} q making rows first analysis = analysed (Ok (Known t)) making rows first (λ v h. h) analysis

-- a type stands before the next row, where it is given so
pub type_behind : {a b : State} {x y : Made} {s : Site} {t : Place} {ss : List Shape} (q : Qual) (u : Place) → u ≡ t → u.ordinal < 2 ^ 32 → IsMaking a.frame s x ss → Declares a b x y s (Ok (Known t)) [] (λ f next v. IsThere f v) (λ c. only_gives (type_of_qual c q))
    → IsBehind b.frame (next_ordinal y) u
type_behind {a} {b} {y = y} {s = s} {ss = ss} q u same small making p =
    subst (λ (f : Frame). IsBehind f (next_ordinal y) u) (sym p.works.keeps.frame)
    (behind_there u (subst (λ (f : Frame). IsMaking f s y ss) p.works.keeps.frame (making_on {ss = []} tt making p)) small (subst (λ (v : Place). IsThere a.frame v) (sym same) p.there))

-- a parameter's type, after its name
pub parameter_piece : {a b d : State} {x y z : Made} {s : Site} {t : Place} (is_open : Bool) (q : Qual) (u : Place) (answer : Result (Ask Place) Memory) → u ≡ t → IsMaking a.frame s x (open_shapes is_open q)
    → Declares a b x y s (Ok (Known t)) [] (λ f next v. IsThere f v) (λ c. only_gives (type_of_qual c q)) → Declares b d y z s answer (open_shapes is_open q) IsBehind (λ c. open_array_row c q.first.at is_open u)
    → Declares a d x z s answer (open_shapes is_open q) IsBehind (λ c. parameter_type c is_open q)
parameter_piece {b = b} {d = d} {y = y} {z = z} {s = s} is_open q u answer same making p piece =
    then_after (λ c. only_gives (type_of_qual c q)) (λ t c. open_array_row c q.first.at is_open t) answer tt making p
    (subst (λ (v : Place). Declares b d y z s answer (open_shapes is_open q) IsBehind (λ c. open_array_row c q.first.at is_open v)) same piece)
