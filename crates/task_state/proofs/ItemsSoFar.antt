-- What the items of a block make so far, and what the next makes after them.
use Rattle.std.specs.Prelude.{◌≡◌, ℕ, zero, suc, ◌+◌, ◌==◌, Bool, true, false, if◌then◌else◌, List, [], ◌∷◌, ◌++◌, Option, Some, length, slice_get, take}
use Rattle.std.proofs.Common.{refl, sym, ap, ◌∙◌, arith}
use Rattle.std.proofs.lemmas.List.{append-nil, append_assoc}
use Rattle.m2_base.specs.Lists.{IsPrefixOf}
use Rattle.m2_base.specs.declared.rows.Place.{Place}
use Rattle.m2_base.specs.declared.rows.Row.{Row}
use Rattle.m2_base.specs.declared.sites.Named.{Named}
use Rattle.m2_base.specs.Statics.BlockRows.{at_item, brought_in, declare_items}
use Rattle.m2_base.specs.Statics.Contexts.{Context, Scene}
use Rattle.m2_base.specs.Statics.Declarations.{declare}
use Rattle.m2_base.specs.Statics.Effects.{BlockEffects, Effect, heading_list}
use Rattle.m2_base.specs.Statics.Items.{Item}
use Rattle.m2_base.specs.Statics.Layouts.{extended, extended_by}
use Rattle.m2_base.specs.Statics.Makes.{Makes, with_rows}
use Rattle.m2_base.specs.declared.trees.declarations.StreamKind.{StreamKind}
use Rattle.m2_base.proofs.SceneLaws.{with-none, with-twice}
use Rattle.task_state.specs.Collecting.{result_from}
use Rattle.task_state.proofs.Lists.{some_is}

-- the context where these rows are made, and these names are brought by the items so far
abbrev pub after_items : Context → List Row → List (List Named) → Context
after_items c rows brought = record (with_rows c rows) { layout = extended_by c.layout brought }

-- what an item makes, as number i, after what those before have made
abbrev pub next_makes : Context → StreamKind → (i : ℕ) → Makes BlockEffects → Item → Makes Effect
next_makes c kind i made x = declare (at_item (after_items c made.rows made.value.brought) i) kind x made.value.cell

-- what the item makes comes behind, and its next cell is the next
pub record GoesOn (before : Makes BlockEffects) (one : Makes Effect) (after : Makes BlockEffects) : Type 0 where
  pub rows : after.rows ≡ before.rows ++ one.rows
  pub diags : after.diags ≡ before.diags ++ one.diags
  pub answers : after.answers ≡ before.answers ++ one.answers
  pub cell : after.value.cell ≡ one.value.cell
  pub copies : after.value.prologue ≡ before.value.prologue ++ one.value.prologue
  pub headings : after.value.headings ≡ before.value.headings ++ heading_list one.value.heading
  pub brought : after.value.brought ≡ before.value.brought ++ one.value.brought ∷ []

joined : {A : Type 0} (d m n a : List A) → a ≡ m ++ n → d ++ (a ++ []) ≡ (d ++ (m ++ [])) ++ n
joined d m n a e =
    ap (λ z. d ++ z) (append-nil a ∙ e) ∙ sym (append_assoc d m n) ∙ ap (λ z. (d ++ z) ++ n) (sym (append-nil m))

behind : {A : Type 0} (d m n a : List A) → a ≡ m ++ n → d ++ a ≡ (d ++ m) ++ n
behind d m n a e = ap (λ z. d ++ z) e ∙ sym (append_assoc d m n)

pub none_after : (c : Context) → after_items c [] [] ≡ c
none_after c = ap (λ (s : Scene). record { source = c.source; scene = s; layout = c.layout; item = c.item }) (with-none c.scene)

-- what an item leaves to the next
abbrev next_context : Context → Makes Effect → Context
next_context c one = brought_in (with_rows c one.rows) one.value.brought

after_twice : (c : Context) (one : Makes Effect) (rows : List Row) (brought : List (List Named))
    → after_items (next_context c one) rows brought ≡ after_items c (one.rows ++ (rows ++ [])) (one.value.brought ∷ brought)
after_twice c one rows brought =
    ap (λ (s : Scene). record { source = c.source; scene = s; layout = extended_by (extended c.layout one.value.brought) brought; item = c.item }) (with-twice c.scene one.rows rows)
    ∙ ap (λ zs. after_items c (one.rows ++ zs) (one.value.brought ∷ brought)) (sym (append-nil rows))

pub one_more : (before : List Item) (x : Item) (c : Context) (kind : StreamKind) (i cell : ℕ)
    → GoesOn (declare_items c kind i cell before) (next_makes c kind (i + length before) (declare_items c kind i cell before) x) (declare_items c kind i cell (before ++ x ∷ []))
one_more [] x c kind i cell =
    let number : i ≡ i + 0 = omega arith in
    let same : declare (at_item c i) kind x cell ≡ declare (at_item (after_items c [] []) (i + 0)) kind x cell =
    λ k. declare (at_item (sym (none_after c) k) (number k)) kind x cell in
    record {
      rows = append-nil (declare (at_item c i) kind x cell).rows ∙ ap (λ (m : Makes Effect). m.rows) same;
      diags = append-nil (declare (at_item c i) kind x cell).diags ∙ ap (λ (m : Makes Effect). m.diags) same;
      answers = append-nil (declare (at_item c i) kind x cell).answers ∙ ap (λ (m : Makes Effect). m.answers) same;
      cell = ap (λ (m : Makes Effect). m.value.cell) same;
      copies = append-nil (declare (at_item c i) kind x cell).value.prologue ∙ ap (λ (m : Makes Effect). m.value.prologue) same;
      headings = append-nil (heading_list (declare (at_item c i) kind x cell).value.heading) ∙ ap (λ (m : Makes Effect). heading_list m.value.heading) same;
      brought = ap (λ (m : Makes Effect). m.value.brought ∷ []) same;
    }
one_more (y ∷ before) x c kind i cell =
    let first = declare (at_item c i) kind y cell in
    let d = next_context c first in
    let some = declare_items d kind (i + 1) first.value.cell before in
    let next = next_makes d kind (i + 1 + length before) some x in
    let on : GoesOn some next (declare_items d kind (i + 1) first.value.cell (before ++ x ∷ [])) = one_more before x d kind (i + 1) first.value.cell in
    let number : i + 1 + length before ≡ i + suc (length before) = omega arith in
    let same : next ≡ next_makes c kind (i + suc (length before)) (declare_items c kind i cell (y ∷ before)) x =
    λ k. declare (at_item (after_twice c first some.rows some.value.brought k) (number k)) kind x some.value.cell in
    record {
      rows = joined first.rows some.rows next.rows _ on.rows ∙ ap (λ (m : Makes Effect). (first.rows ++ (some.rows ++ [])) ++ m.rows) same;
      diags = joined first.diags some.diags next.diags _ on.diags ∙ ap (λ (m : Makes Effect). (first.diags ++ (some.diags ++ [])) ++ m.diags) same;
      answers = joined first.answers some.answers next.answers _ on.answers ∙ ap (λ (m : Makes Effect). (first.answers ++ (some.answers ++ [])) ++ m.answers) same;
      cell = on.cell ∙ ap (λ (m : Makes Effect). m.value.cell) same;
      copies = behind first.value.prologue some.value.prologue next.value.prologue _ on.copies ∙ ap (λ (m : Makes Effect). (first.value.prologue ++ some.value.prologue) ++ m.value.prologue) same;
      headings = behind (heading_list first.value.heading) some.value.headings (heading_list next.value.heading) _ on.headings ∙ ap (λ (m : Makes Effect). (heading_list first.value.heading ++ some.value.headings) ++ heading_list m.value.heading) same;
      brought = ap (λ bs. first.value.brought ∷ bs) on.brought ∙ ap (λ (m : Makes Effect). first.value.brought ∷ (some.value.brought ++ m.value.brought ∷ [])) same;
    }

-- the rows of the items before are the first of all
pub first_rows : (before rest : List Item) (c : Context) (kind : StreamKind) (i cell : ℕ)
    → IsPrefixOf (declare_items c kind i cell before).rows (declare_items c kind i cell (before ++ rest)).rows
first_rows [] rest c kind i cell = record { rest = (declare_items c kind i cell rest).rows; joined = refl }
first_rows (y ∷ before) rest c kind i cell =
    let first = declare (at_item c i) kind y cell in
    let d = next_context c first in
    let some = declare_items d kind (i + 1) first.value.cell before in
    let more = first_rows before rest d kind (i + 1) first.value.cell in
    record {
      rest = more.rest;
      joined = sym (joined first.rows some.rows more.rest _ (sym more.joined));
    }

-- ** The result

-- the first item is made over no rows
pub first_makes : (c : Context) (kind : StreamKind) (cell : ℕ) (items : List Item) (x : Item) (n : ℕ) → n ≡ 0
    → next_makes c kind (0 + length (take n items)) (declare_items c kind 0 cell (take n items)) x ≡ declare (at_item c 0) kind x cell
first_makes c kind cell items x n none =
    (λ k. next_makes c kind (0 + length (take (none k) items)) (declare_items c kind 0 cell (take (none k) items)) x)
    ∙ (λ k. declare (at_item (none_after c k) 0) kind x cell)

pub same_number : (m n : ℕ) → (m == n) ≡ true → m ≡ n
same_number m n h = grind arith

-- what the next item leaves of it
pub result_next : (c : Context) (kind : StreamKind) (cell : ℕ) (items : List Item) (n : ℕ) (x : Item) (r before : Option Place) → slice_get items n ≡ Some x
    → (n ≡ 0 → r ≡ (declare (at_item c 0) kind x cell).value.result) → before ≡ result_from c kind cell (take n items)
    → (if n == 0 then r else before) ≡ result_from c kind cell (take (n + 1) items)
result_next c kind cell [] n x r before e first h = absurd (cc)
result_next c kind cell (y ∷ items) zero x r before e first h = first refl ∙ ap (λ (z : Item). (declare (at_item c 0) kind z cell).value.result) (sym (some_is y x e))
result_next c kind cell (y ∷ items) (suc n) x r before e first h =
    by (suc n == 0) refl
  where
    by : (b : Bool) → (suc n == 0) ≡ b → (if b then r else before) ≡ result_from c kind cell (take (suc n + 1) (y ∷ items))
    by true e = absurd (let bad = same_number (suc n) 0 e in omega (arith, bad))
    by false e =
        let number : suc (suc n) ≡ suc n + 1 = omega arith in
        h ∙ ap (λ (k : ℕ). result_from c kind cell (take k (y ∷ items))) number
