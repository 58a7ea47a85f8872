-- What the use of a name leaves, and the texts of scopes.
use Rattle.std.proofs.Common.{◌≡◌, ◌≢◌, ◌⊎◌, inl, inr, ℕ, zero, suc, ◌+◌, ◌-◌, ◌<◌, ◌≤◌, ◌^◌, true, false, if◌then◌else◌, List, [], ◌∷◌, ◌++◌, Option, Some, None, Result, Ok, Err, length, map, take, drop, refl, sym, ◌∙◌, ap, subst, arith}
use Rattle.std.specs.Prelude.{slice_index_or, slice_get, unwrap_or}
use Rattle.std.specs.Result.{IfOk, OnErr}
use Rattle.std.proofs.lemmas.List.{append-nil}
use Rattle.m2_base.specs.Asks.{IfKnown}
use Rattle.m2_base.specs.Gives.{Adds, and_then, gives, gives_answer}
use Rattle.m2_base.specs.Lists.{IsPrefixOf, Each, IsIn}
use Rattle.m2_base.specs.Rows.{row_of, row_meaning}
use Rattle.m2_base.specs.Standard.{is_standard, standard_place, standard_rows}
use Rattle.m2_base.specs.States.{State, Frame, Works}
use Rattle.m2_base.specs.Statics.Contexts.{text_of_scope, refuse, row_at}
use Rattle.m2_base.specs.Statics.Diagnostics.{used_before}
use Rattle.m2_base.specs.Statics.Lookup.{Entry, entry_at}
use Rattle.m2_base.specs.Statics.Uses.{answer_of, bound, bound_outside, followed, stands_later, use_by_item, use_of}
use Rattle.m2_base.specs.Tables.{rows_at}
use Rattle.m2_base.specs.Units.{UnitTexts}
use Rattle.m2_base.specs.declared.memory.Memory.{Memory}
use Rattle.m2_base.specs.declared.notes.Notes.{Notes}
use Rattle.m2_base.specs.declared.replies.Ask.{Ask}
use Rattle.m2_base.specs.declared.replies.Ask.TheVariants.{Known, DontKnowYet}
use Rattle.m2_base.specs.declared.rows.Place.{Place}
use Rattle.m2_base.specs.declared.rows.Row.{Row}
use Rattle.m2_base.specs.declared.rows.RowMeaning.TheVariants.{Broken}
use Rattle.m2_base.specs.declared.sites.Around.{Around}
use Rattle.m2_base.specs.declared.sites.Site.{Site}
use Rattle.m2_base.proofs.EachLaws.{each_then}
use Rattle.m2_base.proofs.Kept.{Works-trans, Works-kept, IsPrefixOf-refl, Adds-refl}
use Rattle.m2_base.proofs.RowLaws.{HasSmallNumbers-fits}
use Rattle.m2_base.proofs.StandardLaws.{IsWellFormed-standard}
use Rattle.type_rules.specs.Asks.{Reads}
use Rattle.type_rules.specs.Scenes.{Hand, IsRowOf, Suits, WhereTold, hand, rows_of, scene_of}
use Rattle.type_rules.specs.Sites.{AreOfSite, Looked, CanLook, SuitsSite, context_of, source_of, definitions_of}
use Rattle.type_rules.proofs.Counting.{counted_below}

-- of two facts, one by each outcome
pub by_outcome : {T : Type 0} (r : Result T Memory) (P Q : Type 0) → IfOk r (λ _. P) → OnErr r Q → P ⊎ Q
by_outcome (Ok x) P Q p q = inl p
by_outcome (Err e) P Q p q = inr q

pub prefix_same : {A : Type 0} (xs ys : List A) → ys ≡ xs → IsPrefixOf xs ys
prefix_same xs ys same = record { rest = []; joined = append-nil xs ∙ sym same }

-- an answer that was found is noted or not, and then rows are read
pub Works-bound : (a b c : State) (x y : Notes) (at name : ℕ) (e : Entry) → Looked a b at name (Known (Some e)) → Reads b c
    → (y.answers.items ≡ x.answers.items ++ answer_of name at e ∷ []) ⊎ (y.answers.items ≡ x.answers.items) → y.diags.items ≡ x.diags.items → Works a c x y
Works-bound a b c x y at name e looked reads noted same =
    let first : Works a b x y =
    elim noted as (λ _. Works a b x y) [
      | inl added ↦ record {
        looks = looked.looks;
        keeps = looked.keeps;
        answers = answer_of name at e ∷ [];
        noted = added;
        shown = (looked.among, tt);
        diags = prefix_same x.diags.items y.diags.items same;
      }
      | inr kept ↦ Works-kept x y looked.keeps kept (prefix_same x.diags.items y.diags.items same)
    ] in
    Works-trans first (Works-kept y y reads.keeps refl (IsPrefixOf-refl y.diags.items))

-- an answer that was found is noted or not, and diagnostics
pub Works-later : (a b : State) (x y : Notes) (at name : ℕ) (e : Entry) → Looked a b at name (Known (Some e))
    → (y.answers.items ≡ x.answers.items ++ answer_of name at e ∷ []) ⊎ (y.answers.items ≡ x.answers.items) → IsPrefixOf x.diags.items y.diags.items → Works a b x y
Works-later a b x y at name e looked noted grows =
    elim noted as (λ _. Works a b x y) [
      | inl added ↦ record {
        looks = looked.looks;
        keeps = looked.keeps;
        answers = answer_of name at e ∷ [];
        noted = added;
        shown = (looked.among, tt);
        diags = grows;
      }
      | inr kept ↦ Works-kept x y looked.keeps kept grows
    ]

-- ** The texts of scopes

text_at : (u : UnitTexts) (order : List ℕ) (n d : ℕ) → slice_index_or (map (λ k. k.text) (definitions_of (record u { order = order }))) n d ≡ slice_index_or order n d
text_at u [] n d = refl
text_at u (k ∷ order) zero d = refl
text_at u (k ∷ order) (suc n) d = text_at u order n d

same_within : (xs : List ℕ) (n d k : ℕ) → n < length xs → k ≡ slice_index_or xs n k → k ≡ slice_index_or xs n d
same_within [] n d k within is = absurd (omega (arith, within))
same_within (x ∷ xs) zero d k within is = is
same_within (x ∷ xs) (suc n) d k within is = same_within xs n d k (omega (arith, within)) is

pub text_of_definition : (u : UnitTexts) (s k : ℕ) → s ≢ 0 → s - 1 < length u.order → k ≡ slice_index_or u.order (s - 1) k → k ≡ text_of_scope (source_of u) s
text_of_definition u zero k positive within is = absurd (positive refl)
text_of_definition u (suc n) k positive within is =
    let one : suc n - 1 ≡ n = omega arith in
    let here : k ≡ slice_index_or u.order n k = subst (λ i. k ≡ slice_index_or u.order i k) one is in
    same_within u.order n 0 k (omega (arith, within)) here ∙ sym (text_at u u.order n 0)

pub text_of_inside : (u : UnitTexts) (order : List ℕ) (s k : ℕ) → order ≡ u.order → s ≢ 0 → s - 1 < length order → k ≡ slice_index_or order (s - 1) k → k ≡ text_of_scope (source_of u) s
text_of_inside u order s k same positive within is =
    text_of_definition u s k positive (subst (λ xs. s - 1 < length xs) same within) (subst (λ xs. k ≡ slice_index_or xs (s - 1) k) same is)

-- ** Chains

take_whole : (xs : List ℕ) → take (length xs) xs ≡ xs
take_whole [] = refl
take_whole (x ∷ xs) = ap (λ ys. x ∷ ys) (take_whole xs)

-- a slice from 1 on
rest_whole : (xs : List ℕ) → take (length xs - 1) (drop 1 xs) ≡ drop 1 xs
rest_whole [] = refl
rest_whole (x ∷ xs) = let one : suc (length xs) - 1 ≡ length xs = omega arith in ap (λ n. take n xs) one ∙ take_whole xs

pub below_not : (n : ℕ) (chain : List ℕ) → Each (λ s. s < n) chain → IsIn n chain → ⊥
below_not n [] below on = on
below_not n (s ∷ chain) below on = elim on as (λ _. ⊥) [ inl same ↦ (let e : n ≡ s = same in let b : s < n = below.0 in absurd (omega (arith, e, b))) | inr later ↦ below_not n chain below.1 later ]

below_inner : (n : ℕ) (chain : List ℕ) → Each (λ s. s < n) chain → Each (λ s. s ≤ n) chain
below_inner n chain below = each_then (λ s. s < n) (λ s. s ≤ n) chain (λ s b. omega (arith, b)) below

rest_short : (xs : List ℕ) → length xs ≤ 18 → length (drop 1 xs) ≤ 18
rest_short [] h = h
rest_short (x ∷ xs) h = omega (arith, h)

pub can_outside : (f : Frame) (s : Site) → SuitsSite f s → CanLook f (drop 1 s.around.now.chain)
can_outside f s suits =
    record {
      short = rest_short s.around.now.chain suits.short;
      inner = below_inner f.setting.fills (drop 1 s.around.now.chain) suits.down;
      settled = inr (λ on. absurd (below_not f.setting.fills (drop 1 s.around.now.chain) suits.down on));
    }

-- the chain of a site without its first scope, as it is sliced
pub can_rest : (f : Frame) (s : Site) (xs : List ℕ) → xs ≡ s.around.now.chain → SuitsSite f s → CanLook f (take (length xs - 1) (drop 1 xs))
can_rest f s xs same suits =
    subst (λ ys. CanLook f ys) (sym (rest_whole xs)) (subst (λ ys. CanLook f (drop 1 ys)) (sym same) (can_outside f s suits))

pub rest_of : (s : Site) (xs : List ℕ) → xs ≡ s.around.now.chain → take (length xs - 1) (drop 1 xs) ≡ drop 1 s.around.now.chain
rest_of s xs same = rest_whole xs ∙ ap (drop 1) same

-- the own scope alone
pub can_own : (f : Frame) (s : Site) → SuitsSite f s → CanLook f (s.around.now.scope ∷ [])
can_own f s suits =
    let fills = suits.around.fills in
    record { short = omega arith; inner = (omega (arith, fills), tt); settled = inl (ap (λ k. k ∷ []) fills) }

-- one scope before it
pub can_before : (f : Frame) (s : ℕ) → s < f.setting.fills → CanLook f (s ∷ [])
can_before f s below = record { short = omega arith; inner = (omega (arith, below), tt); settled = inr (λ on. absurd (below_not f.setting.fills (s ∷ []) (below, tt) on)) }

-- the whole chain, where the own scope is complete
pub can_whole : (f : Frame) (s : Site) (xs : List ℕ) → xs ≡ s.around.now.chain → s.item ≡ None → SuitsSite f s → CanLook f xs
can_whole f s xs same none suits =
    let whole : CanLook f s.around.now.chain =
    record {
      short = suits.short;
      inner = subst (λ ys. Each (λ k. k ≤ f.setting.fills) ys) (sym suits.chain) (let own : f.setting.fills ≤ f.setting.fills = omega arith in (own, below_inner f.setting.fills (drop 1 s.around.now.chain) suits.down));
      settled = inr (λ on. suits.done none);
    } in
    subst (λ ys. CanLook f ys) (sym same) whole

-- ** What is noted

-- a found entry that isn't later, noted and followed
pub outside_told : (answer : Result (Ask (Option Entry)) Memory) (f mid : Frame) (s : Site) (name at : ℕ) (e : Entry) (x y : Notes) (there : Hand → Option Entry) → mid ≡ f
    → WhereTold f (λ made. there made ≡ Some e) → stands_later (context_of f (hand [] []) s) at e ≡ false
    → IfOk answer (λ _. y.answers.items ≡ x.answers.items ++ answer_of name at e ∷ []) → y.diags.items ≡ x.diags.items
    → WhereTold mid (λ made. IfKnown answer (λ found. found ≡ Some (followed (scene_of mid made s.around.now) e)))
    → WhereTold f (λ made. IfKnown answer (λ entry. Adds x y (bound_outside (context_of f made s) name at (there made)) entry))
outside_told (Ok (Known v)) f mid s name at e x y there same found earlier noted kept asked made in_hand told =
    let c = context_of f made s in
    let value : v ≡ Some (followed (scene_of f made s.around.now) e) =
    subst (λ (h : Frame). WhereTold h (λ rows. v ≡ Some (followed (scene_of h rows s.around.now) e))) same asked made in_hand told in
    let later = and_then (gives_answer (answer_of name at e) None) (λ none. refuse c at used_before none) in
    let given : bound_outside c name at (there made) ≡ bound c name at e =
    ap (bound_outside c name at) (found made in_hand told) ∙ ap (λ b. if b then later else bound c name at e) earlier in
    subst (λ g. Adds x y g v) (sym given) (record { value_is = value; diags = kept ∙ sym (append-nil x.diags.items); answers = noted })
outside_told (Ok (DontKnowYet h)) f mid s name at e x y there same found earlier noted kept asked made in_hand told = tt
outside_told (Err m) f mid s name at e x y there same found earlier noted kept asked made in_hand told = tt

-- ** Standard names

slice_within : {A : Type 0} (xs : List A) (i : ℕ) (r : A) → slice_get xs i ≡ Some r → i < length xs
slice_within [] i r h = absurd (cc)
slice_within (x ∷ xs) zero r h = omega arith
slice_within (x ∷ xs) (suc i) r h = let k = slice_within xs i r h in omega (arith, k)

get_is : {A : Type 0} (xs : List A) (i : ℕ) (d r : A) → slice_get xs i ≡ Some r → slice_index_or xs i d ≡ r
get_is [] i d r h = absurd (cc)
get_is {A} (x ∷ xs) zero d r h = ap (λ (o : Option A). unwrap_or o r) h
get_is (x ∷ xs) (suc i) d r h = get_is xs i d r h

pub standard_told : (f : Frame) (s : Site) (name at : ℕ) (within : Option ℕ) (e : Entry) (n : Notes) → SuitsSite f s → within ≡ None → is_standard name ≡ true → e.0 ≡ standard_place name
    → slice_get standard_rows (name + 10) ≡ Some e.1 → WhereTold f (λ made. AreOfSite s made → Adds n n (use_of (context_of f made s) within name at) (Some e))
standard_told f s name at within e n suits none is place row made in_hand told of_site =
    let c = context_of f made s in
    let agrees = suits.around.told made.finished told in
    let d : Row = row_of 0 0 Broken in
    let rows : rows_at (rows_of f made) 0 ≡ standard_rows = counted_below f made 0 agrees suits.around.inner ∙ agrees.standard in
    let here : row_at (rows_of f made) (standard_place name) ≡ e.1 = ap (λ xs. slice_index_or xs (name + 10) d) rows ∙ get_is standard_rows (name + 10) d e.1 row in
    let entry : entry_at c.scene (standard_place name) ≡ e = ap (λ r. (standard_place name, r)) here ∙ ap (λ p. (p, e.1)) (sym place) in
    let given : use_of c within name at ≡ gives (Some e) =
    ap (λ w. use_of c w name at) none
    ∙ ap (λ b. if b then gives (Some (entry_at c.scene (standard_place name))) else use_by_item c name at c.item) is
    ∙ ap (λ x. gives (Some x)) entry in
    subst (λ g. Adds n n g (Some e)) (sym given) (Adds-refl n (Some e))

pub standard_row : (f : Frame) (a : Around) (name : ℕ) (e : Entry) → Suits f a → e.0 ≡ standard_place name → slice_get standard_rows (name + 10) ≡ Some e.1 → IsRowOf f e.0 e.1
standard_row f a name e suits place row =
    let names = length f.setting.texts.names in
    let formed = IsWellFormed-standard f.setting.texts.names suits.standard (name + 10) e.1 row in
    let count : length standard_rows ≡ 37 = refl in
    let within = slice_within standard_rows (name + 10) e.1 row in
    let small : name + 10 < 2 ^ 32 = omega (arith, within, count) in
    let positive = suits.inner in
    subst (λ (p : Place). IsRowOf f p e.1) (sym place) (record {
      there = record { scope = omega (arith, positive); entered = λ same open_yet. absurd (let z : 0 ≡ f.setting.fills = same in omega (arith, z, positive)) };
      said = record { fits = formed.fits; small = HasSmallNumbers-fits names (standard_place name) (row_meaning e.1) suits.names (omega arith) small formed.fits };
    })
