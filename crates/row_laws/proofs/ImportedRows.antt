-- The rows of an import from a module: that of its own name, and then those of the constants that it brings.
use Rattle.std.specs.Prelude.{◌≡◌, ℕ, ◌+◌, ◌^◌, ◌<◌, ◌≤◌, map, length, List, [], ◌∷◌, ◌++◌, slice_get, Option, Some, None}
use Rattle.std.proofs.Common.{ap, subst, sym, ◌∙◌, refl, inl, inr, arith}
use Rattle.std.proofs.lemmas.List.{append-nil, append_assoc, length-append}
use Rattle.m2_base.specs.Lists.{Each}
use Rattle.m2_base.specs.Rows.{alias_kind}
use Rattle.m2_base.specs.declared.rows.Place.{Place}
use Rattle.m2_base.specs.declared.rows.Row.{Row}
use Rattle.m2_base.specs.declared.rows.RowMeaning.TheVariants.{Alias}
use Rattle.m2_base.specs.declared.sites.Named.{Named}
use Rattle.m2_base.specs.declared.trees.Ident.{Ident}
use Rattle.m2_base.specs.declared.trees.declarations.StreamKind.{StreamKind}
use Rattle.m2_base.specs.Statics.BlockRows.{at_item, brought_in}
use Rattle.m2_base.specs.Statics.Contexts.{Context, Scene, scope_of_module}
use Rattle.m2_base.specs.Statics.Declarations.{declare}
use Rattle.m2_base.specs.Statics.Effects.{Effect}
use Rattle.m2_base.specs.Statics.ImportRows.{alias_by, alias_row, place_or_broken}
use Rattle.m2_base.specs.Statics.ImportedConstants.{Member, are_too_many, brought_by, brought_names, brought_row, members_of, new_members}
use Rattle.m2_base.specs.Statics.Items.{Item, const_item, heading_item, import_item, proc_item, type_item, vars_item}
use Rattle.m2_base.specs.Statics.Lookup.{entry_named}
use Rattle.m2_base.specs.Statics.Makes.{Makes, makes_named, own_rows, scene_with, with_rows}
use Rattle.m2_base.specs.Statics.ShapedRows.{AreShaped, more_of, none_of}
use Rattle.m2_base.specs.Statics.Shapes.{Shape, item_shapes, named}
use Rattle.m2_base.specs.Statics.Uses.{use_of}
use Rattle.m2_base.proofs.EachLaws.{each_append}
use Rattle.m2_base.proofs.ItemLaws.{item_of}
use Rattle.m2_base.proofs.LayoutLaws.{item_few}
use Rattle.m2_base.proofs.SceneLaws.{IsOpen, open-with, own_of, own-with, with-none}
use Rattle.m2_base.proofs.ShapeLaws.{named_of, one_of}
use Rattle.m2_base.proofs.SoundBrought.{extended_ok}
use Rattle.m2_base.proofs.SoundTypes.{either}
use Rattle.row_laws.proofs.Agreeing.{Ready, agree-append, agree-end, agree-then, named_agrees, one_agrees, ready-left, ready-right}
use Rattle.row_laws.proofs.Choices.{named_each}
use Rattle.row_laws.proofs.Numbers.{AllAgree, more_agree, none_agree}

-- ** Rows of aliases

abbrev pub IsAliasRow : Row → Type 0
IsAliasRow r = r.kind ≡ alias_kind

named_aliases : (c : Context) (name at : ℕ) (p : Place) → Each IsAliasRow (makes_named c name at (Alias p)).rows
named_aliases c name at p = named_each IsAliasRow c name at (Alias p) (λ n. refl)

own_aliases : (c : Context) (i : Ident) (p : Place) (o : Option Named) → Each IsAliasRow (alias_by c i p o).rows
own_aliases c i p None = named_aliases c i.name i.at p
own_aliases c i p (Some n) = (refl, tt)

mapped_aliases : (at : ℕ) (new : List Member) → Each IsAliasRow (map (brought_row at) new)
mapped_aliases at [] = tt
mapped_aliases at (m ∷ new) = (refl, mapped_aliases at new)

brought_aliases : (c : Context) (at : ℕ) (members : List Member) → Each IsAliasRow (brought_by c at members).rows
brought_aliases c at members =
    let new = new_members c [] members in
    either (λ (x : Makes (List Named)). Each IsAliasRow x.rows) (are_too_many c new) _ _ tt (mapped_aliases at new)

-- all rows of an import from a module are aliases
pub import_aliases : (m i : Ident) (c : Context) (kind : StreamKind) (cell : ℕ) → Each IsAliasRow (declare c kind (import_item (Some m) i) cell).rows
import_aliases m i c kind cell =
    let e = (use_of c (Some (scope_of_module c.source m.name)) i.name i.at).value in
    let d = with_rows c [] in
    let own = alias_row d i (place_or_broken e) in
    let f = with_rows d own.rows in
    let more = brought_by f i.at (members_of f.scene e) in
    each_append IsAliasRow (own.rows ++ more.rows) []
    (each_append IsAliasRow own.rows more.rows (own_aliases d i (place_or_broken e) (entry_named d.layout.brought i.name)) (brought_aliases f i.at (members_of f.scene e))) tt

-- ** Shapes that rows have

abbrev pub shape_of : Row → Shape
shape_of r = record { name = r.name; kind = r.kind; at = r.at }

pub own_shaped : (rows : List Row) → AreShaped (map shape_of rows) rows
own_shaped [] = none_of
own_shaped (r ∷ rows) = more_of (record { kind = refl; at = refl; name = inl refl }) (own_shaped rows)

-- what holds of the kind of an alias holds of those of aliases
pub alias_shapes : (P : ℕ → Type 0) → P alias_kind → (rows : List Row) → Each IsAliasRow rows → Each (λ (s : Shape). P s.kind) (map shape_of rows)
alias_shapes P h [] k = tt
alias_shapes P h (r ∷ rows) k = (subst P (sym k.0) h, alias_shapes P h rows k.1)

-- ** Aliases agree with all rows

own_agrees : (c : Context) (i : Ident) (p : Place) (o : Option Named) → AllAgree c.scene (alias_by c i p o).rows
own_agrees c i p None = named_agrees c i.name i.at (Alias p) (λ n. tt)
own_agrees c i p (Some n) = one_agrees 0 i.at (Alias p) tt

mapped_agree : (scene : Scene) (at : ℕ) (new : List Member) → AllAgree scene (map (brought_row at) new)
mapped_agree scene at [] = none_agree
mapped_agree scene at (m ∷ new) = more_agree tt (mapped_agree (scene_with scene (brought_row at m ∷ [])) at new)

brought_agree : (c : Context) (at : ℕ) (members : List Member) → AllAgree c.scene (brought_by c at members).rows
brought_agree c at members =
    let new = new_members c [] members in
    either (λ (x : Makes (List Named)). AllAgree c.scene x.rows) (are_too_many c new) _ _ none_agree (mapped_agree c.scene at new)

pub import_agrees : (m i : Ident) (c : Context) (kind : StreamKind) (cell : ℕ) → AllAgree c.scene (declare c kind (import_item (Some m) i) cell).rows
import_agrees m i c kind cell =
    let e = (use_of c (Some (scope_of_module c.source m.name)) i.name i.at).value in
    let d = with_rows c [] in
    let own = alias_row d i (place_or_broken e) in
    let f = with_rows d own.rows in
    agree-end (agree-then (agree-append (own_agrees d i (place_or_broken e) (entry_named d.layout.brought i.name)) (brought_agree f i.at (members_of f.scene e))))

-- ** What is brought

-- these rows of an item are aliases, and these their names: the first row has this ordinal
abbrev pub AreLaidOut : (item ordinal : ℕ) → List Named → List Row → Type 0
AreLaidOut i o [] [] = Unit {0}
AreLaidOut i o (n ∷ ns) (r ∷ rows) = (n.item ≡ i) × (n.ordinal ≡ o) × IsAliasRow r × AreLaidOut i (o + 1) ns rows
AreLaidOut i o ns rows = ⊥

pub laid_length : (i o : ℕ) (ns : List Named) (rows : List Row) → AreLaidOut i o ns rows → length rows ≡ length ns
laid_length i o [] [] h = refl
laid_length i o [] (r ∷ rows) h = absurd h
laid_length i o (n ∷ ns) [] h = absurd h
laid_length i o (n ∷ ns) (r ∷ rows) h = let rest = laid_length i (o + 1) ns rows h.3 in omega (arith, rest)

pub laid_items : (i o : ℕ) (ns : List Named) (rows : List Row) → AreLaidOut i o ns rows → Each (λ (n : Named). n.item ≡ i) ns
laid_items i o [] [] h = tt
laid_items i o [] (r ∷ rows) h = absurd h
laid_items i o (n ∷ ns) [] h = absurd h
laid_items i o (n ∷ ns) (r ∷ rows) h = (h.0, laid_items i (o + 1) ns rows h.3)

next_at : (front : List Row) (r : Row) (rows : List Row) → slice_get (front ++ r ∷ rows) (length front) ≡ Some r
next_at [] r rows = refl
next_at (x ∷ front) r rows = next_at front r rows

-- behind rows of which the first that is brought has the ordinal, each name has its row
pub laid_there : (i o : ℕ) (front : List Row) (ns : List Named) (rows : List Row) → length front ≡ o → AreLaidOut i o ns rows
    → Each (λ (n : Named). (r : Row) × (slice_get (front ++ rows) n.ordinal ≡ Some r) × (r.kind ≡ alias_kind)) ns
laid_there i o front [] [] e h = tt
laid_there i o front [] (r ∷ rows) e h = absurd h
laid_there i o front (n ∷ ns) [] e h = absurd h
laid_there i o front (n ∷ ns) (r ∷ rows) e h =
    let longer = length-append front (r ∷ []) in (
      (r, ap (slice_get (front ++ r ∷ rows)) (h.1 ∙ sym e) ∙ next_at front r rows, h.2),
      subst (λ (all : List Row). Each (λ (n : Named). (r : Row) × (slice_get all n.ordinal ≡ Some r) × (r.kind ≡ alias_kind)) ns) (append_assoc front (r ∷ []) rows)
          (laid_there i (o + 1) (front ++ r ∷ []) ns rows (omega (arith, longer, e)) h.3),
    )

mapped_laid : (i o at : ℕ) (new : List Member) → AreLaidOut i o (brought_names i o at new) (map (brought_row at) new)
mapped_laid i o at [] = tt
mapped_laid i o at (m ∷ new) = (refl, refl, refl, mapped_laid i (o + 1) at new)

-- what is made at an item, by its names and its rows
abbrev IsLaidOut : (item ordinal : ℕ) → Makes (List Named) → Type 0
IsLaidOut i o m = AreLaidOut i o m.value m.rows

brought_laid : (c : Context) (i at : ℕ) (members : List Member) → c.item ≡ Some i → IsLaidOut i (length (own_rows c)) (brought_by c at members)
brought_laid c i at members e =
    let new = new_members c [] members in
    subst (λ (o : Option ℕ). IsLaidOut i (length (own_rows c)) (brought_by (record c { item = o }) at members)) (sym e)
    (either (IsLaidOut i (length (own_rows c))) (are_too_many c new) _ _ tt (mapped_laid i (length (own_rows c)) at new))

-- an item's rows are those that its syntax gives, and then those of the names that it has brought
pub record Splits (c : Context) (i : ℕ) (x : Item) (m : Makes Effect) : Type 0 where
  pub own : List Row
  pub back : List Row
  pub joined : m.rows ≡ own ++ back
  pub shaped : AreShaped (item_shapes x) own
  pub laid : AreLaidOut i (length (own_of c.scene) + length own) m.value.brought back

whole : (c : Context) (i : ℕ) (x : Item) (m : Makes Effect) → m.value.brought ≡ [] → AreShaped (item_shapes x) m.rows → Splits c i x m
whole c i x m none shaped =
    record {
      own = m.rows;
      back = [];
      joined = sym (append-nil m.rows);
      shaped = shaped;
      laid = subst (λ (ns : List Named). AreLaidOut i (length (own_of c.scene) + length m.rows) ns []) (sym none) tt;
    }

own_shape : (c : Context) (i : Ident) (p : Place) (o : Option Named) → AreShaped (named alias_kind i ∷ []) (alias_by c i p o).rows
own_shape c i p None = named_of c alias_kind i (Alias p) refl refl refl refl refl refl
own_shape c i p (Some n) = one_of (record { kind = refl; at = refl; name = inr refl })

pub item_splits : (x : Item) (c : Context) (kind : StreamKind) (i cell : ℕ) → IsOpen c.scene → Splits c i x (declare (at_item c i) kind x cell)
item_splits (heading_item h) c kind i cell room = whole c i (heading_item h) _ refl (item_of (heading_item h) (at_item c i) kind cell)
item_splits (const_item n e) c kind i cell room = whole c i (const_item n e) _ refl (item_of (const_item n e) (at_item c i) kind cell)
item_splits (type_item n t) c kind i cell room = whole c i (type_item n t) _ refl (item_of (type_item n t) (at_item c i) kind cell)
item_splits (vars_item ns t) c kind i cell room = whole c i (vars_item ns t) _ refl (item_of (vars_item ns t) (at_item c i) kind cell)
item_splits (proc_item h s) c kind i cell room = whole c i (proc_item h s) _ refl (item_of (proc_item h s) (at_item c i) kind cell)
item_splits (import_item None n) c kind i cell room = whole c i (import_item None n) _ refl (item_of (import_item None n) (at_item c i) kind cell)
item_splits (import_item (Some m) n) c kind i cell room =
    let a = at_item c i in
    let e = (use_of a (Some (scope_of_module a.source m.name)) n.name n.at).value in
    let d = with_rows a [] in
    let own = alias_row d n (place_or_broken e) in
    let f = with_rows d own.rows in
    let more = brought_by f n.at (members_of f.scene e) in
    let made = own-with d.scene own.rows (open-with a.scene [] room) ∙ ap (λ (s : Scene). own_of s ++ own.rows) (with-none a.scene) in
    let many : length (own_rows f) ≡ length (own_of c.scene) + length own.rows = ap length made ∙ length-append (own_of c.scene) own.rows in
    record {
      own = own.rows;
      back = more.rows;
      joined = append-nil (own.rows ++ more.rows);
      shaped = own_shape d n (place_or_broken e) (entry_named d.layout.brought n.name);
      laid = subst (λ (o : ℕ). AreLaidOut i o more.value more.rows) many (brought_laid f i n.at (members_of f.scene e) refl);
    }

-- ** A layout with what is brought

laid_small : (i o k : ℕ) (ns : List Named) (rows : List Row) → o + length rows ≤ k → AreLaidOut i o ns rows → Each (λ (n : Named). n.ordinal < k) ns
laid_small i o k [] [] room h = tt
laid_small i o k [] (r ∷ rows) room h = absurd h
laid_small i o k (n ∷ ns) [] room h = absurd h
laid_small i o k (n ∷ ns) (r ∷ rows) room h = let e = h.1 in (omega (arith, e, room), laid_small i (o + 1) k ns rows (omega (arith, room)) h.3)

-- an item's context is as sound
pub ready-item : {names : ℕ} {xs : List Row} (c : Context) (i : ℕ) → Ready names c xs → Ready names (at_item c i) xs
ready-item c i h =
    let sound = h.sound in
    record {
      sound = record { scene = sound.scene; source = sound.source; few_names = sound.few_names; layout = sound.layout };
      before = h.before;
      ok = h.ok;
      room = h.room;
    }

-- the context behind an item is sound too
pub ready-next : {names : ℕ} (c : Context) (x : Item) (kind : StreamKind) (i cell : ℕ) (ys : List Row) → Ready names c ((declare (at_item c i) kind x cell).rows ++ ys)
    → Ready names (brought_in (with_rows c (declare (at_item c i) kind x cell).rows) (declare (at_item c i) kind x cell).value.brought) ys
ready-next c x kind i cell ys h =
    let m = declare (at_item c i) kind x cell in
    let split = item_splits x c kind i cell h.sound.scene.room in
    let right = ready-right m.rows ys h in
    let left = ready-left m.rows ys h in
    let enough = left.room.enough in
    let long = ap length split.joined in
    let parts = length-append split.own split.back in
    let small = laid_small i (length (own_of c.scene) + length split.own) (2 ^ 32) m.value.brought split.back (omega (arith, enough, long, parts)) split.laid in
    record {
      sound = record {
        scene = right.sound.scene;
        source = right.sound.source;
        few_names = right.sound.few_names;
        layout = extended_ok c.layout m.value.brought h.sound.layout small (item_few x (at_item c i) kind cell h.sound.layout.few);
      };
      before = right.before;
      ok = right.ok;
      room = right.room;
    }
