-- A table is opened over a unit whose text begins with a fault, and the seats of scopes 1 and 2 are taken.
use Rattle.std.proofs.Common.{◌≡◌, ◌∙◌, ℕ, zero, suc, ◌+◌, ◌*◌, ◌/◌, ◌-◌, ◌<◌, ◌≤◌, ◌^◌, true, false, List, [], ◌∷◌, ◌++◌, Some, length, get_or, refl, sym, ap, subst, arith, length-append}
use Rattle.std.specs.List.{slice_get, slice_index, slice_index_or}
use Rattle.std.proofs.lemmas.Bool.{true≢false}
use Rattle.ll_grammar.specs.Derivations.{Derives, Tree, of_empty, of_left, of_right, of_then, of_token, tokens}
use Rattle.ll_grammar.specs.Grammar.{sub}
use Rattle.ll_grammar.specs.LookAhead.{member}
use Rattle.std.specs.Prelude.{Option, option_to_list}
use Rattle.m2_base.specs.Finished.{IsFinished, tokens_in}
use Rattle.m2_base.specs.Grammar.{grammar, main}
use Rattle.m2_base.specs.KindNumbers.{kind_number}
use Rattle.m2_base.specs.Units.{TextOf, UnitTexts}
use Rattle.m2_base.specs.declared.kind.TokenKind.{TokenKind}
use Rattle.m2_base.specs.declared.kind.TokenKind.TheVariants.{Bad, Implementation, Module}
use Rattle.scope_table.specs.Rule.{base, empty_at, mid, scopes, shown_at, texts_in}
use Rattle.scope_table.specs.Seats.{IsFirst, IsOpened, key_of, scope_of, view}
use Rattle.scope_table.specs.declared.table.ScopeTable.{ScopeTable}
use Rattle.scope_table.specs.declared.table.TableSeat.{TableSeat}
use Rattle.scope_table.specs.declared.view.About.{About}
use Rattle.scope_table.specs.declared.view.Shown.{Shown}
use Rattle.scope_table.specs.declared.view.View.{View}
use Rattle.dky_search.specs.Seen.{areas_in, state_in}
use Rattle.dky_search.proofs.Seen.{area_at}
use Rattle.search_tests.specs.Named.{HasNamed, IsTable, IsUnread, first_kind, rows_named}

-- a main text begins with MODULE or IMPLEMENTATION
begins : {d : Tree _} → Derives grammar (main sub) d → first_kind (tokens d) ≡ Bad → ⊥
begins (of_then (of_left (of_token {t} g)) q) e = true≢false (sym g ∙ ap (λ (k : TokenKind). member (kind_number k) (kind_number Implementation ∷ [])) e)
begins (of_then (of_right of_empty) (of_then (of_token {t} g) q)) e = true≢false (sym g ∙ ap (λ (k : TokenKind). member (kind_number k) (kind_number Module ∷ [])) e)

-- a text that begins with a fault has no finished rows
pub is_unread : (u : UnitTexts) (text : TextOf) → slice_get u.list 0 ≡ Some text → first_kind text.tokens ≡ Bad → IsUnread u
is_unread u text at fault tables h = begins h.read.main.sentence.derives (ap first_kind (h.read.main.sentence.spells ∙ ap tokens_in at) ∙ fault)

-- the last of a list is taken
pub popped : {A : Type 0} (old new : List A) (r : Option A) (x : A) → old ≡ new ++ option_to_list r → r ≡ Some x → old ≡ new ++ x ∷ []
popped {A} old new r x e is = e ∙ ap (λ (o : Option A). new ++ option_to_list o) is

-- the sizes of the scopes are small
pub narrow : (room : ℕ) → room < 2 ^ 31 → (k : ℕ) → k < length (37 ∷ room ∷ 1 ∷ []) → slice_index (37 ∷ room ∷ 1 ∷ []) k < 2 ^ 31
narrow room h zero l = omega arith
narrow room h (suc zero) l = h
narrow room h (suc (suc zero)) l = omega arith
narrow room h (suc (suc (suc k))) l = absurd (omega arith)

-- the last two of three
pub of_three : {A : Type 0} (P : ℕ → A → Type 0) (xs ys zs : List A) (x y : A) → ((k : ℕ) (d : A) → k < 3 → P k (slice_index_or xs k d)) → length xs ≡ 3 → xs ≡ ys ++ x ∷ [] → ys ≡ zs ++ y ∷ [] → P 2 x × P 1 y
of_three {A} P xs ys zs x y each three a b = go zs refl
  where
    all : xs ≡ (zs ++ y ∷ []) ++ x ∷ []
    all = a ∙ (λ i. b i ++ x ∷ [])

    go : (vs : List A) → zs ≡ vs → P 2 x × P 1 y
    go [] e = let bad : length xs ≡ 2 = ap length (all ∙ (λ i. (e i ++ y ∷ []) ++ x ∷ [])) in absurd (omega (arith, three, bad))
    go (v ∷ []) e =
        let is : xs ≡ v ∷ y ∷ x ∷ [] = all ∙ (λ i. (e i ++ y ∷ []) ++ x ∷ []) in
        (subst (λ l. P 2 (slice_index_or l 2 x)) is (each 2 x (omega arith)), subst (λ l. P 1 (slice_index_or l 1 y)) is (each 1 y (omega arith)))
    go (v ∷ u ∷ vs) e =
        let n : length xs ≡ length ((v ∷ u ∷ vs) ++ y ∷ []) + 1 = ap length (all ∙ (λ i. (e i ++ y ∷ []) ++ x ∷ [])) ∙ length-append ((v ∷ u ∷ vs) ++ y ∷ []) (x ∷ []) in
        let m : length ((v ∷ u ∷ vs) ++ y ∷ []) ≡ length (v ∷ u ∷ vs) + 1 = length-append (v ∷ u ∷ vs) (y ∷ []) in
        absurd (omega (arith, three, n, m))

pub table_opened : (t : ScopeTable) (seats : List TableSeat) (u : UnitTexts) (sizes : List ℕ) (room : ℕ) → IsOpened t seats u sizes → sizes ≡ 37 ∷ room ∷ 1 ∷ [] → IsTable t u room
table_opened t seats u sizes room opened is =
    record {
      texts = opened.texts_are;
      many = opened.many ∙ ap length is;
      area = opened.rooms 1 (subst (λ (l : List ℕ). 1 < length l) (sym is) (omega arith)) ∙ ap (λ (l : List ℕ). base (key_of t) 1 + 8 * slice_index l 1) is;
    }

-- the seat of scope 1, before any row is put
pub nothing_named : (t : ScopeTable) (s : TableSeat) (u : UnitTexts) (names room : ℕ) → IsTable t u room → IsFirst t 1 s → IsUnread u → names ≤ length u.names → room < 2 ^ 31
    → HasNamed (state_in (key_of t) (view s) (scope_of s)) names room 0
nothing_named t s u names room table first unread there small =
    let a : About = key_of t in
    let inside : 1 < scopes a = (let m = table.many in omega (arith, m)) in
    let empty : shown_at (view s) 1 ≡ empty_at a 1 = first.start.others 1 (omega arith) inside in
    let state : HasNamed (state_in a (view s) 1) names room 0 = record {
      there = subst (λ (v : UnitTexts). names ≤ length v.names) (sym table.texts) there;
      unread = λ tables h. unread tables (subst (λ (v : UnitTexts). IsFinished v tables) table.texts h);
      fills = refl;
      area = area_at a 1 inside ∙ (let m = table.area in omega (arith, m));
      entered = ap (λ (x : Shown). x.rows) empty;
      open_yet = ap (λ (x : Shown). x.complete) empty;
      fits = omega arith;
      small = small;
    } in
    subst (λ (k : ℕ). HasNamed (state_in a (view s) k) names room 0) (sym first.scope) state
