-- The rows of procedure types.
use Rattle.std.specs.Prelude.{◌≡◌, ℕ, ◌+◌, ◌<◌, ◌≤◌, ◌^◌, List, [], ◌∷◌, ◌++◌, length, drop, Option, None, Some}
use Rattle.std.proofs.Common.{refl, sym, ap, ◌∙◌, subst, arith, get_or, Ok, Result}
use Rattle.std.proofs.lemmas.List.{length-append}
use Rattle.m2_base.specs.Rows.{HasSmallScopes, param_kind, proc_type_kind}
use Rattle.m2_base.specs.States.{Frame, State}
use Rattle.m2_base.specs.Statics.Contexts.{Context}
use Rattle.m2_base.specs.Statics.Makes.{Makes, make_then, makes_row, only_gives}
use Rattle.m2_base.specs.Statics.ProcedureTypes.{formal_rows, formals_length, result_type}
use Rattle.m2_base.specs.Statics.Shapes.{Shape, form_shapes, formal_shapes, nameless, open_shapes}
use Rattle.m2_base.specs.Statics.TypeRows.{form_rows}
use Rattle.m2_base.specs.Trees.{proc_type}
use Rattle.m2_base.specs.declared.memory.Memory.{Memory}
use Rattle.m2_base.specs.declared.replies.Ask.{Ask}
use Rattle.m2_base.specs.declared.replies.Ask.TheVariants.{Known}
use Rattle.m2_base.specs.declared.rows.Place.{Place}
use Rattle.m2_base.specs.declared.rows.RowMeaning.TheVariants.{ProcType}
use Rattle.m2_base.specs.declared.sites.Site.{Site}
use Rattle.m2_base.specs.declared.trees.Qual.{Qual}
use Rattle.m2_base.specs.declared.trees.types.Formal.{Formal}
use Rattle.type_rules.specs.Sites.{context_of}
use Rattle.decl_sem.specs.Making.{next_ordinal}
use Rattle.decl_sem.specs.Pieces.{Declares, IsAny, IsBehind, IsMaking, IsNewMeaning, IsOptionBehind}
use Rattle.decl_sem.specs.declared.making.Made.{Made}
use Rattle.decl_sem.proofs.Hands.{hand_is}
use Rattle.decl_sem.proofs.OneRows.{before_next, small_scope}
use Rattle.decl_sem.proofs.Parameters.{formals_from, formals_shapes}
use Rattle.decl_sem.proofs.Pieces.{described, next_on, then_after}
use Rattle.decl_sem.proofs.TypeForms.{formals_no_types}

-- the rows from the next parameter on
pub length_from : (xs : List Formal) (k : ℕ) (d : Formal) → k < length xs → formals_length (drop k xs) ≡ length (formal_shapes (get_or xs k d)) + formals_length (drop (k + 1) xs)
length_from xs k d h = ap formals_length (formals_from xs k d h)

pub length_none : (xs : List Formal) → formals_length (drop (length xs) xs) ≡ 0
length_none [] = refl
length_none (x ∷ xs) = length_none xs

pub proc_meaning : {f : Frame} {s : Site} {x : Made} {ss : List Shape} (r : Option Place) (count first : ℕ) → count < 2 ^ 32 → first ≤ next_ordinal x → IsMaking f s x ss → IsOptionBehind f (next_ordinal x) r → IsNewMeaning f s (next_ordinal x) (ProcType r count first)
proc_meaning None count first few before making h = record { small = tt; scopes = tt; fits = (tt, few, before); filled = tt; owned = tt }
proc_meaning (Some p) count first few before making h = record { small = h.small; scopes = small_scope making h; fits = (before_next h, few, before); filled = tt; owned = tt }

pub result_small : {f : Frame} {s : Site} {x : Made} {ss : List Shape} (next : ℕ) (r : Option Place) (count first : ℕ) → IsMaking f s x ss → IsOptionBehind f next r → HasSmallScopes (ProcType r count first)
result_small next None count first making h = tt
result_small next (Some p) count first making h = small_scope making h

-- the whole of a procedure type
pub proc_made : {a b d : State} {x y z : Made} {s : Site} (at first own : ℕ) (formals : List Formal) (q : Option Qual) (answer : Result (Ask Place) Memory) → IsMaking a.frame s x (form_shapes at (proc_type formals q))
    → first ≡ next_ordinal x → own ≡ first + formals_length formals
    → Declares a b x y s (Ok (Known tt)) (formals_shapes formals) IsAny (λ c. formal_rows c own formals)
    → Declares b d y z s answer (nameless proc_type_kind at ∷ []) IsBehind (λ c. make_then c (only_gives (result_type c q)) (λ e r. makes_row e at (ProcType r (length formals) first)))
    → Declares a d x z s answer (form_shapes at (proc_type formals q)) IsBehind (λ c. form_rows c at (proc_type formals q))
proc_made {a} {b} {d} {x} {y} {z} {s} at first own formals q answer making is sum p r =
    let p2 : Declares a b x y s (Ok (Known tt)) (formals_shapes formals) IsAny (λ c. formal_rows c (first + formals_length formals) formals) =
    subst (λ (n : ℕ). Declares a b x y s (Ok (Known tt)) (formals_shapes formals) IsAny (λ c. formal_rows c n formals)) sum p in
    described answer (λ c. form_rows c at (proc_type formals q))
    (then_after (λ c. formal_rows c (first + formals_length formals) formals) (λ none c. make_then c (only_gives (result_type c q)) (λ e r. makes_row e at (ProcType r (length formals) first))) answer (formals_no_types formals) making p2 r)
    (λ hand in_hand told same. let c = context_of a.frame hand s in
    ap (λ (n : ℕ). make_then c (formal_rows c (n + formals_length formals) formals) (λ d none. make_then d (only_gives (result_type d q)) (λ e r. makes_row e at (ProcType r (length formals) n))))
    (is ∙ sym (hand_is making hand same told).count))

pub first_before : {T : Type 0} {a b : State} {x y : Made} {s : Site} {ss : List Shape} {P : Frame → ℕ → T → Type 0} {g : Context → Makes T} {v : T} {first : ℕ} → first ≡ next_ordinal x → Declares a b x y s (Ok (Known v)) ss P g → first ≤ next_ordinal y
first_before is p = let e = next_on p.first p.grown in omega arith

pub first_before_same : {T : Type 0} {a b : State} {x y : Made} {s : Site} {ss : List Shape} {P : Frame → ℕ → T → Type 0} {g : Context → Makes T} {v : T} {first : ℕ} → first ≤ next_ordinal x → Declares a b x y s (Ok (Known v)) ss P g → first ≤ next_ordinal y
first_before_same h p = let e = next_on p.first p.grown in omega arith

pub own_step : (own next rows first whole : ℕ) (xs : List Formal) (k : ℕ) (d : Formal) → k < length xs → own + formals_length (drop k xs) ≡ first + whole → rows ≡ length (formal_shapes (get_or xs k d)) → next ≡ own + rows
    → next + formals_length (drop (k + 1) xs) ≡ first + whole
own_step own next rows first whole xs k d h i r n = let e = length_from xs k d h in omega arith

each_has_a_row : (xs : List Formal) → length xs ≤ length (formals_shapes xs)
each_has_a_row [] = omega arith
each_has_a_row (x ∷ xs) =
    let l = length-append (formal_shapes x) (formals_shapes xs) in
    let one = length-append (open_shapes x.is_open x.of) (nameless param_kind x.of.first.at ∷ []) in
    let rest = each_has_a_row xs in
    omega arith

-- there are not too many parameters
pub few_formals : {f : Frame} {s : Site} {x : Made} (at : ℕ) (formals : List Formal) → IsMaking f s x (formals_shapes formals ++ nameless proc_type_kind at ∷ []) → length formals < 2 ^ 32
few_formals at formals making =
    let l = length-append (formals_shapes formals) (nameless proc_type_kind at ∷ []) in
    let a = making.room in
    let b = making.few in
    let e = each_has_a_row formals in
    omega arith

formals_length_is : (xs : List Formal) → formals_length xs ≡ length (formals_shapes xs)
formals_length_is [] = refl
formals_length_is (x ∷ xs) = ap (λ n. length (formal_shapes x) + n) (formals_length_is xs) ∙ sym (length-append (formal_shapes x) (formals_shapes xs))

-- the row behind them has an ordinal of 32 bits
pub room_for_own : {f : Frame} {s : Site} {x : Made} {first : ℕ} (at : ℕ) (formals : List Formal) → IsMaking f s x (formals_shapes formals ++ nameless proc_type_kind at ∷ []) → first ≡ next_ordinal x
    → first + formals_length formals < 2 ^ 32
room_for_own at formals making is =
    let l = length-append (formals_shapes formals) (nameless proc_type_kind at ∷ []) in
    let e = formals_length_is formals in
    let a = making.room in
    let b = making.few in
    omega (arith, is)
