-- A field, and whether it is the second of its name.
use Rattle.std.specs.List.{list_any}
use Rattle.std.specs.Prelude.{◌≡◌, ℕ, ◌<◌, ◌≤◌, ◌==◌, ◌&&◌, ◌||◌, Bool, true, false, if◌then◌else◌, List, [], ◌∷◌, ◌++◌, length, Result, Ok, Err, ◌+◌}
use Rattle.std.proofs.Common.{refl, sym, ap, ◌∙◌, subst, arith}
use Rattle.std.proofs.lemmas.List.{append-nil}
use Rattle.std.proofs.lemmas.List.Folds.{list_any-append}
use Rattle.m2_base.specs.Gives.{Gives}
use Rattle.m2_base.specs.Lists.{Each, IsPrefixOf}
use Rattle.m2_base.specs.Rows.{field_kind, row_meaning}
use Rattle.m2_base.specs.States.{Frame, State}
use Rattle.m2_base.specs.Statics.Cells.{most_cells}
use Rattle.m2_base.specs.Statics.Contexts.{Context, diag}
use Rattle.m2_base.specs.Statics.Diagnostics.{declared_twice}
use Rattle.m2_base.specs.Statics.Fields.{field_row, field_with}
use Rattle.m2_base.specs.Statics.Makes.{Makes, make_then, makes_row, only_gives, own_rows, with_rows}
use Rattle.m2_base.specs.Statics.ReadTrees.{IsReadName}
use Rattle.m2_base.specs.Statics.Shapes.{Shape, nameless}
use Rattle.m2_base.specs.Statics.TypeParts.{is_field, is_field_meaning}
use Rattle.m2_base.specs.Units.{UnitTexts}
use Rattle.m2_base.specs.declared.memory.Memory.{Memory}
use Rattle.m2_base.specs.declared.notes.Notes.{Notes}
use Rattle.m2_base.specs.declared.replies.Ask.{Ask}
use Rattle.m2_base.specs.declared.replies.Ask.TheVariants.{Known}
use Rattle.m2_base.specs.declared.rows.Place.{Place}
use Rattle.m2_base.specs.declared.rows.Row.{Row}
use Rattle.m2_base.specs.declared.rows.RowMeaning.{RowMeaning}
use Rattle.m2_base.specs.declared.rows.RowMeaning.TheVariants.{Field}
use Rattle.m2_base.specs.declared.sites.Site.{Site}
use Rattle.m2_base.specs.declared.trees.Ident.{Ident}
use Rattle.m2_base.proofs.Kept.{Works-notes}
use Rattle.type_rules.specs.Sites.{context_of}
use Rattle.decl_sem.specs.FieldNotes.{refused_if, second_refused}
use Rattle.decl_sem.specs.LaidRows.{none_laid}
use Rattle.decl_sem.specs.Making.{MakesAll, diag_in, next_ordinal}
use Rattle.decl_sem.specs.Pieces.{Declares, IsAny, IsBehind, IsMaking, IsNewMeaning, IsOwned, WhereMaking, item_end}
use Rattle.decl_sem.specs.declared.making.Made.{Made}
use Rattle.decl_sem.proofs.Hands.{hand_none, own_are}
use Rattle.decl_sem.proofs.OneRows.{before_next, small_scope}
use Rattle.decl_sem.proofs.Pieces.{described, then_after}

-- ** Fields among rows

-- rows whose fields are of records before this ordinal have none of the record there
none_before : (first own name : ℕ) → first ≤ own → (rows : List Row) → Each (λ r. IsOwned first (row_meaning r)) rows → list_any (is_field own name) rows ≡ false
none_before first own name le [] h = refl
none_before first own name le (r ∷ rows) h = ap (λ (b : Bool). b || list_any (is_field own name) rows) (none (row_meaning r) h.0) ∙ none_before first own name le rows h.1
  where
    none : (m : RowMeaning) → IsOwned first m → is_field_meaning own name m ≡ false
    none (Field t o q n) k =
        let other : (q == own) ≡ false = grind (arith, k, le) in
        ap (λ (b : Bool). b && (n == name)) other
    none other k = refl

-- so a record that is being made has no fields but those in hand
pub own_fields : {f : Frame} {s : Site} {x : Made} {ss : List Shape} (own name : ℕ) → x.first ≤ own → IsMaking f s x ss
    → WhereMaking f x (λ hand. list_any (is_field own name) (own_rows (context_of f hand s)) ≡ list_any (is_field own name) x.rows.items)
own_fields {f} {s} {x} own name le making hand in_hand told same =
    ap (λ (rows : List Row). list_any (is_field own name) rows) (own_are {f = f} {s = s} hand making.suits told ∙ ap (λ (rows : List Row). f.entered ++ rows) same)
    ∙ list_any-append (is_field own name) f.entered x.rows.items
    ∙ ap (λ (b : Bool). b || list_any (is_field own name) x.rows.items) (none_before x.first own name le f.entered making.entered)

-- ** The second of a name

-- what is noted where the name is that of a field already
pub second_noted : {y : Notes} (a : State) (x : Made) (s : Site) (own : ℕ) (i : Ident) (b : Bool) → x.first ≤ own → IsMaking a.frame s x [] → b ≡ list_any (is_field own i.name) x.rows.items
    → y.diags.items ≡ x.notes.diags.items ++ (if b then diag_in s.around.now.text i.at declared_twice ∷ [] else []) → IsPrefixOf x.notes.diags.items y.diags.items → y.answers.items ≡ x.notes.answers.items
    → Declares a a x (record x { notes = y }) s (Ok (Known tt)) [] IsAny (λ c. only_gives (second_refused c own i))
second_noted {y} a x s own i b le making is noted diags answers =
    record {
      works = Works-notes a x.notes y answers diags;
      waits = tt;
      first = refl;
      grown = record { rows = []; more = sym (append-nil x.rows.items); laid = none_laid; new = tt };
      told = λ hand in_hand told same.
          let c = context_of a.frame hand s in
          subst (λ (k : Bool). MakesAll {T = Unit {0}} x (record x { notes = y }) (only_gives (refused_if c i.at k)) tt) (is ∙ sym (own_fields own i.name le making hand in_hand told same)) (both c b refl noted);
      there = tt;
    }
  where
    both : (c : Context) (b : Bool) → c.scene.block.text ≡ s.around.now.text → y.diags.items ≡ x.notes.diags.items ++ (if b then diag_in s.around.now.text i.at declared_twice ∷ [] else [])
        → MakesAll {T = Unit {0}} x (record x { notes = y }) (only_gives (refused_if c i.at b)) tt
    both c true t k = record { value_is = refl; rows = sym (append-nil x.rows.items); diags = k ∙ ap (λ (n : ℕ). x.notes.diags.items ++ diag_in n i.at declared_twice ∷ []) (sym t); answers = answers ∙ sym (append-nil x.notes.answers.items) }
    both c false t k = record { value_is = refl; rows = sym (append-nil x.rows.items); diags = k; answers = answers ∙ sym (append-nil x.notes.answers.items) }

-- ** A field

-- the row of a field, after the note
pub field_after : (c : Context) (own : ℕ) (i : Ident) (t : Place) (offset : ℕ) → with_rows c [] ≡ c
    → make_then c (only_gives (second_refused c own i)) (λ d u. makes_row d i.at (Field t offset own i.name)) ≡ field_row c own i t offset
field_after c own i t offset none =
    ap (λ (k : Context). both (second_refused c own i) (makes_row k i.at (Field t offset own i.name))) none
    ∙ go (list_any (is_field own i.name) (own_rows c))
  where
    both : Gives (Unit {0}) → Makes Place → Makes Place
    both g m = record { value = m.value; rows = [] ++ m.rows; diags = g.diags ++ m.diags; answers = g.answers ++ m.answers }

    go : (b : Bool) → both (refused_if c i.at b) (makes_row c i.at (Field t offset own i.name)) ≡ field_with c own i t offset (if b then diag c i.at declared_twice ∷ [] else [])
    go true = refl
    go false = refl

-- the meaning of a field's row
pub field_meaning : {f : Frame} {s : Site} {x : Made} {ss : List Shape} {i : Ident} {t : Place} {offset own : ℕ} → IsMaking f s x ss → IsBehind f (next_ordinal x) t → IsReadName s.texts.now.names i → offset ≤ most_cells + 1 → own < item_end s
    → IsNewMeaning f s (next_ordinal x) (Field t offset own i.name)
field_meaning {f} {s} {x} {i = i} making behind read small within =
    record {
      small = behind.small;
      scopes = small_scope making behind;
      fits = (before_next behind, omega (arith, small), let few = making.few in omega (arith, few, within), subst (λ (u : UnitTexts). i.name < length u.names) making.suits.texts read.known);
      filled = tt;
      owned = within;
    }

-- a field is made
pub one_field : {a : State} {s : Site} {x y : Made} (z : Notes) (answer : Result (Ask Place) Memory) (own : ℕ) (i : Ident) (t : Place) (offset : ℕ) → IsMaking a.frame s x (nameless field_kind i.at ∷ [])
    → Declares a a x (record x { notes = z }) s (Ok (Known tt)) [] IsAny (λ c. only_gives (second_refused c own i))
    → Declares a a (record x { notes = z }) y s answer (nameless field_kind i.at ∷ []) IsBehind (λ c. makes_row c i.at (Field t offset own i.name))
    → Declares a a x y s answer (nameless field_kind i.at ∷ []) IsBehind (λ c. field_row c own i t offset)
one_field {a} {s} {x} {y} z answer own i t offset making p q =
    described answer (λ c. field_row c own i t offset)
    (then_after (λ c. only_gives (second_refused c own i)) (λ u c. makes_row c i.at (Field t offset own i.name)) answer tt making p q)
    (λ hand in_hand told same. field_after (context_of a.frame hand s) own i t offset (hand_none hand making.suits told))

-- no memory for the note
pub field_unnoted : {y : Notes} {ts : List Shape} {Q : Frame → ℕ → Place → Type 0} (a : State) (x : Made) (s : Site) (m : Memory) (g : Context → Makes Place) → y.answers.items ≡ x.notes.answers.items → IsPrefixOf x.notes.diags.items y.diags.items
    → Declares a a x (record x { notes = y }) s (Err m) ts Q g
field_unnoted {y} a x s m g answers diags = record { works = Works-notes a x.notes y answers diags; waits = tt; first = refl; grown = tt; told = λ hand in_hand told same. tt; there = tt }
