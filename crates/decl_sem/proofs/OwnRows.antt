-- The rows of an own definition, read one after another.
use Rattle.std.specs.Prelude.{◌≡◌, ◌≢◌, ℕ, ◌+◌, ◌-◌, ◌<◌, ◌≤◌, ◌^◌, ◌==◌, Bool, true, false, ◌||◌, if◌then◌else◌, List, [], ◌∷◌, ◌++◌, Option, Some, None, is_some, length, slice_get, Result, Ok}
use Rattle.std.proofs.Common.{inl, inr, refl, sym, ap, ◌∙◌, subst, arith, drop}
use Rattle.std.proofs.lemmas.List.{append-nil, append_assoc, drop_all, drop_more}
use Rattle.std.proofs.lemmas.Option.{get_or_from_slice_get, slice_get_cases, slice_get_within}
use Rattle.m2_base.specs.Asks.{IfKnown}
use Rattle.m2_base.specs.Finished.{IsFinished}
use Rattle.m2_base.specs.Rows.{row_meaning}
use Rattle.m2_base.specs.States.{Frame}
use Rattle.m2_base.specs.Statics.BlockRows.{cell_after, cells_after}
use Rattle.m2_base.specs.Statics.Closing.{Implemented, all_implemented, differing, differs_at, has_missing, implementation_diags, implemented, implements_opaque, is_implemented, is_missing, own_diags}
use Rattle.m2_base.specs.Statics.Contexts.{Context, Scene, diag}
use Rattle.m2_base.specs.Statics.Diagnostics.{heading_differs, not_implemented}
use Rattle.m2_base.specs.Statics.Types.{is_broken, range_of}
use Rattle.m2_base.specs.Tables.{rows_at}
use Rattle.m2_base.specs.Trees.{Stream}
use Rattle.m2_base.specs.declared.memory.Memory.{Memory}
use Rattle.m2_base.specs.declared.notes.Diag.{Diag}
use Rattle.m2_base.specs.declared.replies.Ask.{Ask}
use Rattle.m2_base.specs.declared.replies.Ask.TheVariants.{Known}
use Rattle.m2_base.specs.declared.rows.Place.{Place}
use Rattle.m2_base.specs.declared.rows.Row.{Row}
use Rattle.m2_base.specs.declared.rows.RowMeaning.{RowMeaning}
use Rattle.m2_base.specs.declared.rows.RowMeaning.TheVariants.{Opaque, Pointer, Set}
use Rattle.m2_base.specs.declared.sites.Around.{Around}
use Rattle.m2_base.specs.declared.sites.Site.{Site}
use Rattle.m2_base.specs.declared.trees.Ident.{Ident}
use Rattle.type_rules.specs.Scenes.{Hand, Suits, WhereTold, rows_of, scene_of}
use Rattle.type_rules.specs.Sites.{context_of}
use Rattle.type_rules.proofs.Counting.{counted_below}
use Rattle.decl_sem.specs.Closing.{AreChecked, row_implemented}

-- ** Rows that are left

past : (rows : List Row) (k : ℕ) → None ≡ slice_get rows k → length rows ≤ k
past rows k h = elim ((slice_get_cases rows k).1) as (λ _. length rows ≤ k) [
  | inl p ↦ absurd (let e = h ∙ p.2 in cc)
  | inr p ↦ p.0
]

row_next : (rows : List Row) (k : ℕ) (r : Row) → Some r ≡ slice_get rows k → drop k rows ≡ r ∷ drop (k + 1) rows
row_next rows k r h =
    drop_more rows k r (slice_get_within rows k r (sym h)) ∙ ap (λ (x : Row). x ∷ drop (k + 1) rows) (get_or_from_slice_get rows k r r (sym h))

rows_end : (rows : List Row) (k : ℕ) → None ≡ slice_get rows k → drop k rows ≡ []
rows_end rows k h = drop_all k rows (past rows k h)

-- no scope has so many rows that one comes after the last place
all_read : (f : Frame) (a : Around) (made : Hand) (own k : ℕ) → Suits f a → own < f.setting.fills → 4294967295 ≤ k → IsFinished f.setting.texts made.finished
    → drop k (rows_at (rows_of f made) own) ≡ []
all_read f a made own k suits before end told =
    let agrees = suits.told made.finished told in
    let few = agrees.few own in
    let same = ap length (counted_below f made own agrees before) in
    drop_all k (rows_at (rows_of f made) own) (omega arith)

-- ** The cells of the variables

module _ (f : Frame) (a : Around) (own : ℕ) where
  -- the cell after the rows from this one on
  abbrev pub behind : (made : Hand) (cell k : ℕ) → ℕ
  behind made cell k = cells_after (scene_of f made a) cell (drop k (rows_at (rows_of f made) own))

  pub cells_passed : (k cell next : ℕ) (row : Row) → WhereTold f (λ made. Some row ≡ slice_get (rows_at (rows_of f made) own) k)
      → WhereTold f (λ made. next ≡ cell_after (scene_of f made a) cell (row_meaning row)) → WhereTold f (λ made. behind made cell k ≡ behind made 0 0)
      → WhereTold f (λ made. behind made next (k + 1) ≡ behind made 0 0)
  cells_passed k cell next row read step so made in_hand told =
      let rows = rows_at (rows_of f made) own in
      let scene = scene_of f made a in
      ap (λ (n : ℕ). cells_after scene n (drop (k + 1) rows)) (step made in_hand told)
      ∙ sym (ap (cells_after scene cell) (row_next rows k row (read made in_hand told)))
      ∙ so made in_hand told

  pub cells_ended : (k cell : ℕ) → WhereTold f (λ made. None ≡ slice_get (rows_at (rows_of f made) own) k) → WhereTold f (λ made. behind made cell k ≡ behind made 0 0)
      → WhereTold f (λ made. cell ≡ cells_after (scene_of f made a) 0 (rows_at (rows_of f made) own))
  cells_ended k cell end so made in_hand told =
      sym (ap (cells_after (scene_of f made a) cell) (rows_end (rows_at (rows_of f made) own) k (end made in_hand told))) ∙ so made in_hand told

  pub cells_full : (k cell : ℕ) → Suits f a → own < f.setting.fills → 4294967295 ≤ k → WhereTold f (λ made. behind made cell k ≡ behind made 0 0)
      → WhereTold f (λ made. cell ≡ cells_after (scene_of f made a) 0 (rows_at (rows_of f made) own))
  cells_full k cell suits before end so made in_hand told =
      sym (ap (cells_after (scene_of f made a) cell) (all_read f a made own k suits before end told)) ∙ so made in_hand told

-- ** What implements the rows

differing-append : (c : Context) (xs ys : List Implemented) → differing c (xs ++ ys) ≡ differing c xs ++ differing c ys
differing-append c [] ys = refl
differing-append c (is_implemented ∷ xs) ys = differing-append c xs ys
differing-append c (is_missing ∷ xs) ys = differing-append c xs ys
differing-append c (differs_at at ∷ xs) ys = ap (λ (ds : List Diag). diag c at heading_differs ∷ ds) (differing-append c xs ys)

missing-append : (xs ys : List Implemented) → has_missing (xs ++ ys) ≡ (has_missing xs || has_missing ys)
missing-append [] ys = refl
missing-append (is_implemented ∷ xs) ys = missing-append xs ys
missing-append (is_missing ∷ xs) ys = refl
missing-append (differs_at at ∷ xs) ys = missing-append xs ys

one_more : (scene : Scene) (own k : ℕ) (r : Row) (rows : List Row) → all_implemented scene own k (r ∷ rows) ≡ all_implemented scene own k (r ∷ []) ++ all_implemented scene own (k + 1) rows
one_more scene own k r rows = go (r.name == 0) (implemented scene own k r.name (row_meaning r)) (all_implemented scene own (k + 1) rows)
  where
    go : (b : Bool) (x : Implemented) (xs : List Implemented) → (if b then xs else x ∷ xs) ≡ (if b then [] else x ∷ []) ++ xs
    go true x xs = refl
    go false x xs = refl

or_assoc : (a b c : Bool) → ((a || b) || c) ≡ (a || (b || c))
or_assoc true b c = refl
or_assoc false b c = refl

pub or_true : (a : Bool) → (a || true) ≡ true
or_true true = refl
or_true false = refl

pub or_false : (a : Bool) → (a || false) ≡ a
or_false true = refl
or_false false = refl

-- a row that has a name is implemented in this way
row_is : (c : Context) (p : Place) (r : Row) (x : Implemented) → r.name ≢ 0 → x ≡ implemented c.scene p.scope p.ordinal r.name (row_meaning r) → row_implemented c p r ≡ x ∷ []
row_is c p r x named is =
    let tested : (r.name == 0) ≡ false = grind arith in
    ap (λ (b : Bool). if b then [] else implemented c.scene p.scope p.ordinal r.name (row_meaning r) ∷ []) tested ∙ ap (λ (y : Implemented). y ∷ []) (sym is)

-- what is noted of one row
pub checked_as : (c : Context) (p : Place) (r : Row) (x : Implemented) (before after : List Diag) (missing : Bool) → r.name ≢ 0 → x ≡ implemented c.scene p.scope p.ordinal r.name (row_meaning r)
    → after ≡ before ++ differing c (x ∷ []) → missing ≡ has_missing (x ∷ []) → AreChecked c (row_implemented c p r) before after missing
checked_as c p r x before after missing named is noted lacks =
    subst (λ (all : List Implemented). AreChecked c all before after missing) (sym (row_is c p r x named is)) (record { noted = noted; missing_is = lacks })

-- a nameless row promises nothing
pub nameless_row : (c : Context) (p : Place) (r : Row) (ds : List Diag) → r.name ≡ 0 → AreChecked c (row_implemented c p r) ds ds false
nameless_row c p r ds none =
    let tested : (r.name == 0) ≡ true = grind arith in
    subst (λ (all : List Implemented). AreChecked c all ds ds false)
    (sym (ap (λ (b : Bool). if b then [] else implemented c.scene p.scope p.ordinal r.name (row_meaning r) ∷ []) tested))
    (record { noted = sym (append-nil ds); missing_is = refl })

-- What is noted so far with what the rest will note is all, and so is what is missing.
pub record IsLeft (c : Context) (all rest : List Implemented) (before after : List Diag) (missing : Bool) : Type 0 where
  pub noted : after ++ differing c rest ≡ before ++ differing c all
  pub missing_is : (missing || has_missing rest) ≡ has_missing all

nothing_left : (c : Context) (all rest : List Implemented) (before after : List Diag) (missing : Bool) → rest ≡ [] → IsLeft c all rest before after missing → AreChecked c all before after missing
nothing_left c all rest before after missing none so =
    record {
      noted = sym (append-nil after) ∙ sym (ap (λ (xs : List Implemented). after ++ differing c xs) none) ∙ so.noted;
      missing_is = sym (or_false missing) ∙ sym (ap (λ (xs : List Implemented). missing || has_missing xs) none) ∙ so.missing_is;
    }

one_checked : (c : Context) (all one rest whole : List Implemented) (before mid after : List Diag) (missing lacks : Bool) → whole ≡ one ++ rest → AreChecked c one mid after lacks
    → IsLeft c all whole before mid missing → IsLeft c all rest before after (missing || lacks)
one_checked c all one rest whole before mid after missing lacks joined checked so =
    record {
      noted = ap (λ (ds : List Diag). ds ++ differing c rest) checked.noted
          ∙ append_assoc mid (differing c one) (differing c rest)
          ∙ ap (λ (ds : List Diag). mid ++ ds) (sym (differing-append c one rest) ∙ ap (differing c) (sym joined))
          ∙ so.noted;
      missing_is = or_assoc missing lacks (has_missing rest)
          ∙ ap (λ (b : Bool). missing || (b || has_missing rest)) checked.missing_is
          ∙ ap (λ (b : Bool). missing || b) (sym (missing-append one rest) ∙ ap has_missing (sym joined))
          ∙ so.missing_is;
    }

module _ (f : Frame) (s : Site) (own : ℕ) where
  -- how the rows from this one on are implemented
  abbrev pub implemented_from : (made : Hand) (k : ℕ) → List Implemented
  implemented_from made k = all_implemented (scene_of f made s.around.now) own k (drop k (rows_at (rows_of f made) own))

  -- the rows before this one are checked
  abbrev pub AreCheckedTo : (before after : List Diag) (missing : Bool) (k : ℕ) → Type 0
  AreCheckedTo before after missing k =
      WhereTold f (λ made. IsLeft (context_of f made s) (implemented_from made 0) (implemented_from made k) before after missing)

  pub none_checked : (before : List Diag) → AreCheckedTo before before false 0
  none_checked before made in_hand told = record { noted = refl; missing_is = refl }

  pub row_checked : (before mid after : List Diag) (missing lacks : Bool) (k : ℕ) (row : Row) → WhereTold f (λ made. Some row ≡ slice_get (rows_at (rows_of f made) own) k)
      → WhereTold f (λ made. AreChecked (context_of f made s) (row_implemented (context_of f made s) (record { scope = own; ordinal = k }) row) mid after lacks)
      → AreCheckedTo before mid missing k → AreCheckedTo before after (missing || lacks) (k + 1)
  row_checked before mid after missing lacks k row read checked so made in_hand told =
      let rows = rows_at (rows_of f made) own in
      let scene = scene_of f made s.around.now in
      one_checked (context_of f made s) (implemented_from made 0) (all_implemented scene own k (row ∷ [])) (implemented_from made (k + 1)) (implemented_from made k) before mid after missing lacks
      (ap (all_implemented scene own k) (row_next rows k row (read made in_hand told)) ∙ one_more scene own k row (drop (k + 1) rows))
      (checked made in_hand told) (so made in_hand told)

  pub rows_checked : (before after : List Diag) (missing : Bool) (k : ℕ) → WhereTold f (λ made. None ≡ slice_get (rows_at (rows_of f made) own) k) → AreCheckedTo before after missing k
      → WhereTold f (λ made. AreChecked (context_of f made s) (all_implemented (scene_of f made s.around.now) own 0 (rows_at (rows_of f made) own)) before after missing)
  rows_checked before after missing k end so made in_hand told =
      nothing_left (context_of f made s) (implemented_from made 0) (implemented_from made k) before after missing
      (ap (all_implemented (scene_of f made s.around.now) own k) (rows_end (rows_at (rows_of f made) own) k (end made in_hand told))) (so made in_hand told)

  pub all_checked : (before after : List Diag) (missing : Bool) (k : ℕ) → Suits f s.around.now → own < f.setting.fills → 4294967295 ≤ k → AreCheckedTo before after missing k
      → WhereTold f (λ made. AreChecked (context_of f made s) (all_implemented (scene_of f made s.around.now) own 0 (rows_at (rows_of f made) own)) before after missing)
  all_checked before after missing k suits below end so made in_hand told =
      nothing_left (context_of f made s) (implemented_from made 0) (implemented_from made k) before after missing
      (ap (all_implemented (scene_of f made s.around.now) own k) (all_read f s.around.now made own k suits below end told)) (so made in_hand told)

-- what is noted of a definition whose rows are all checked
pub diags_missing : (c : Context) (i : Ident) (all : List Implemented) (before mid after : List Diag) (missing : Bool) → missing ≡ true → AreChecked c all before mid missing
    → after ≡ mid ++ diag c i.at not_implemented ∷ [] → after ≡ before ++ implementation_diags c (Some i) all
diags_missing c i all before mid after missing is checked noted =
    noted
    ∙ ap (λ (ds : List Diag). ds ++ diag c i.at not_implemented ∷ []) checked.noted
    ∙ append_assoc before (differing c all) (diag c i.at not_implemented ∷ [])
    ∙ ap (λ (b : Bool). before ++ (if b then differing c all ++ diag c i.at not_implemented ∷ [] else differing c all)) (sym is ∙ checked.missing_is)

pub diags_there : (c : Context) (i : Ident) (all : List Implemented) (before after : List Diag) (missing : Bool) → missing ≡ false → AreChecked c all before after missing
    → after ≡ before ++ implementation_diags c (Some i) all
diags_there c i all before after missing is checked =
    checked.noted ∙ ap (λ (b : Bool). before ++ (if b then differing c all ++ diag c i.at not_implemented ∷ [] else differing c all)) (sym is ∙ checked.missing_is)

-- a type that is neither opaque nor a set nor a pointer
pub other_opaque : (scene : Scene) (t : Place) (m : RowMeaning) → (m ≡ Opaque → ⊥) → ((b : Place) → m ≡ Set b → ⊥) → ((p : Place) → m ≡ Pointer p → ⊥)
    → (is_broken scene t || is_some (range_of scene t)) ≡ implements_opaque scene t m
other_opaque scene t Opaque opaque set pointer = absurd (opaque refl)
other_opaque scene t (Set b) opaque set pointer = absurd (set b refl)
other_opaque scene t (Pointer p) opaque set pointer = absurd (pointer p refl)
other_opaque scene t m opaque set pointer = refl

-- ** What a block owes its definition

nothing_noted : (ds es : List Diag) → es ≡ [] → ds ≡ ds ++ es
nothing_noted ds es none = sym (ap (λ (xs : List Diag). ds ++ xs) none ∙ append-nil ds)

-- a procedure owes nothing
inner_owes : (c : Context) (s : Stream) (own : Option ℕ) → c.scene.block.level ≢ 0 → own_diags c s own ≡ []
inner_owes c s None inner = refl
inner_owes c s (Some own) inner =
    let tested : (c.scene.block.level == 0) ≡ false = grind arith in
    ap (λ (b : Bool). if b then implementation_diags c s.name (all_implemented c.scene own 0 (rows_at c.scene.tables own)) else []) tested

pub inner_diags : (c : Context) (s : Stream) (own : Option ℕ) (ds : List Diag) → c.scene.block.level ≢ 0 → ds ≡ ds ++ own_diags c s own
inner_diags c s own ds inner = nothing_noted ds (own_diags c s own) (inner_owes c s own inner)

-- nor does a module without a definition of its own
pub alone_diags : (c : Context) (s : Stream) (own : Option ℕ) (ds : List Diag) → own ≡ None → ds ≡ ds ++ own_diags c s own
alone_diags c s own ds none = nothing_noted ds (own_diags c s own) (ap (own_diags c s) none)

either_none : (b : Bool) (ds : List Diag) → ds ≡ [] → (if b then ds else []) ≡ []
either_none true ds none = none
either_none false ds none = refl

-- nor one without a name
nameless_owes : (c : Context) (s : Stream) (own : Option ℕ) → s.name ≡ None → own_diags c s own ≡ []
nameless_owes c s None none = refl
nameless_owes c s (Some own) none =
    let all = all_implemented c.scene own 0 (rows_at c.scene.tables own) in
    ap (λ (i : Option Ident). if c.scene.block.level == 0 then implementation_diags c i all else []) none
    ∙ either_none (c.scene.block.level == 0) (implementation_diags c None all) refl

pub nameless_diags : (c : Context) (s : Stream) (own : Option ℕ) (ds : List Diag) → s.name ≡ None → ds ≡ ds ++ own_diags c s own
nameless_diags c s own ds none = nothing_noted ds (own_diags c s own) (nameless_owes c s own none)

-- an implementation module owes what its definition's rows promise
pub module_owes : (c : Context) (s : Stream) (o : Option ℕ) (own : ℕ) (i : Ident) → c.scene.block.level ≡ 0 → o ≡ Some own → s.name ≡ Some i
    → own_diags c s o ≡ implementation_diags c (Some i) (all_implemented c.scene own 0 (rows_at c.scene.tables own))
module_owes c s o own i top is name =
    let all = all_implemented c.scene own 0 (rows_at c.scene.tables own) in
    ap (own_diags c s) is
    ∙ ap (λ (n : ℕ). if n == 0 then implementation_diags c s.name all else []) top
    ∙ ap (λ (j : Option Ident). implementation_diags c j all) name

-- what a call says of its answer, where that is known
pub known_told : {T : Type 0} (answer : Result (Ask T) Memory) (asked : Ask T) (v : T) (f mid : Frame) (P : Frame → Hand → T → Type 0) → answer ≡ Ok asked → asked ≡ Known v → mid ≡ f
    → WhereTold mid (λ made. IfKnown answer (P mid made)) → WhereTold f (λ made. P f made v)
known_told {T} answer asked v f mid P is known same told =
    subst (λ (h : Frame). WhereTold h (λ made. P h made v)) same
    (subst (λ (a : Result (Ask T) Memory). WhereTold mid (λ made. IfKnown a (P mid made))) (is ∙ ap Ok known) told)
