-- Fields of one type, one after another.
use Rattle.std.specs.Prelude.{◌≡◌, ℕ, ◌+◌, ◌<◌, ◌≤◌, List, [], ◌∷◌, ◌++◌, length, map, drop, Option, None, Some, Result, Ok, Err}
use Rattle.std.proofs.Common.{refl, sym, ap, ◌∙◌, subst, arith, get_or}
use Rattle.std.proofs.lemmas.List.{append-nil}
use Rattle.m2_base.specs.Lists.{Each}
use Rattle.m2_base.specs.Rows.{field_kind, row_meaning, type_name_kind}
use Rattle.m2_base.specs.States.{Frame, State}
use Rattle.m2_base.specs.Statics.Cells.{capped, most_cells}
use Rattle.m2_base.specs.Statics.Contexts.{Context, Scene}
use Rattle.m2_base.specs.Statics.Fields.{field_row, plain_rows, tag_rows}
use Rattle.m2_base.specs.Statics.Makes.{Makes, makes, with_rows}
use Rattle.m2_base.specs.Statics.ReadTrees.{AreReadNames, IsReadName}
use Rattle.m2_base.specs.Statics.Shapes.{Shape, nameless, tag_shapes}
use Rattle.m2_base.specs.Statics.Types.{size_of}
use Rattle.m2_base.specs.declared.memory.Memory.{Memory}
use Rattle.m2_base.specs.declared.replies.Ask.{Ask}
use Rattle.m2_base.specs.declared.replies.Ask.TheVariants.{Known}
use Rattle.m2_base.specs.declared.rows.Place.{Place}
use Rattle.m2_base.specs.declared.rows.Row.{Row}
use Rattle.m2_base.specs.declared.sites.Site.{Site}
use Rattle.m2_base.specs.declared.trees.Ident.{Ident}
use Rattle.m2_base.proofs.SceneLaws.{with-twice}
use Rattle.type_rules.specs.Asks.{Reads}
use Rattle.type_rules.specs.Scenes.{NamesNoType}
use Rattle.type_rules.specs.Sites.{context_of}
use Rattle.decl_sem.specs.FieldNotes.{sized_fields}
use Rattle.decl_sem.specs.Making.{next_ordinal}
use Rattle.decl_sem.specs.Pieces.{Declares, IsBehind, IsMaking}
use Rattle.decl_sem.specs.Records.{IsOffset, IsOwner}
use Rattle.decl_sem.specs.declared.making.Made.{Made}
use Rattle.decl_sem.proofs.OneRows.{behind_more}
use Rattle.decl_sem.proofs.Pieces.{GoesOn, asked_then, described, failed, goes_as, goes_end, goes_failed, goes_start, goes_step, making_front, next_on, then_after, value_alone}
use Rattle.decl_sem.proofs.VariableLists.{HasSize, IsSizeOf, has_size, next_left, none_left, read_at, size_asked, then_same, types-append}

-- the shapes of fields
abbrev pub shapes : List Ident → List Shape
shapes names = map (λ i. nameless field_kind i.at) names

pub read_field : (texts : List (List ℕ)) (xs : List Ident) (k : ℕ) (d : Ident) → k < length xs → AreReadNames texts xs → IsReadName texts (get_or xs k d)
read_field texts xs k d h all = read_at texts xs k d h all

-- ** In a loop

-- the first k of the fields are made, and the next offset is this one
pub record HasFields (a : State) (s : Site) (before now : Made) (own : ℕ) (of : Place) (size first : ℕ) (names : List Ident) (k offset : ℕ) : Type 0 where
  pub offset_is : offset ≤ most_cells + 1
  pub count : next_ordinal before ≤ next_ordinal now
  pub first_is : now.first ≡ before.first
  pub on : GoesOn a a before now s (shapes names) (shapes (drop k names)) IsOffset (λ c. sized_fields c own of size first names) (λ c. sized_fields c own of size offset (drop k names))

pub no_fields_yet : {a : State} {s : Site} {before : Made} {names : List Ident} (own : ℕ) (of : Place) (size first : ℕ) → IsMaking a.frame s before (shapes names) → first ≤ most_cells + 1
    → HasFields a s before before own of size first names 0 first
no_fields_yet own of size first making h = record { offset_is = h; count = omega arith; first_is = refl; on = goes_start making }

-- the record stands behind the rows so far
pub owner_behind : {s : Site} {x : Made} {ss : List Shape} {own : ℕ} → IsOwner s x ss own → x.first ≤ own
owner_behind owner = let h = owner.behind in omega arith

module _ {a : State} {s : Site} {before now : Made} {own : ℕ} {of : Place} {size first : ℕ} {names : List Ident} {offset : ℕ} (k : ℕ) (d : Ident) (h : k < length names) (so : HasFields a s before now own of size first names k offset) where
  abbrev i : Ident
  i = get_or names k d

  fields_at : GoesOn a a before now s (shapes names) (nameless field_kind i.at ∷ shapes (drop (k + 1) names)) IsOffset (λ c. sized_fields c own of size first names) (λ c. sized_fields c own of size offset (i ∷ drop (k + 1) names))
  fields_at =
      let e = next_left names k d h in
      goes_as (nameless field_kind i.at ∷ shapes (drop (k + 1) names)) (λ c. sized_fields c own of size offset (i ∷ drop (k + 1) names)) (ap shapes e)
      (λ hand in_hand told same. ap (λ (xs : List Ident). sized_fields (context_of a.frame hand s) own of size offset xs) (sym e)) so.on

  -- what the next field needs
  pub field_making : IsMaking a.frame s now (nameless field_kind i.at ∷ [])
  field_making = making_front (nameless field_kind i.at ∷ []) (shapes (drop (k + 1) names)) fields_at.making

  pub field_behind : IsBehind a.frame (next_ordinal before) of → IsBehind a.frame (next_ordinal now) of
  field_behind behind = behind_more so.count behind

  pub field_owned : {ss : List Shape} → IsOwner s before ss own → now.first ≤ own
  field_owned owner = let b = owner_behind owner in let e = so.first_is in omega (arith, b, e)

  pub one_more_field : {after : Made} {p : Place} (next : ℕ) → next ≡ capped (offset + size) → Declares a a now after s (Ok (Known p)) (nameless field_kind i.at ∷ []) IsBehind (λ c. field_row c own i of offset)
      → HasFields a s before after own of size first names (k + 1) next
  one_more_field {after} {p} next e piece =
      subst (λ (n : ℕ). HasFields a s before after own of size first names (k + 1) n) (sym e)
      (record {
        offset_is = omega arith;
        count = let n = next_on piece.first piece.grown in let m = so.count in omega arith;
        first_is = piece.first ∙ so.first_is;
        on = goes_step (λ c. field_row c own i of offset) (λ p c. sized_fields c own of size (capped (offset + size)) (drop (k + 1) names))
            (λ e. absurd (let b : field_kind ≡ type_name_kind = e in omega arith), tt) fields_at piece;
      })

  -- want of memory in the next field
  pub fields_failed : {after : Made} {m : Memory} (n : Memory) → Declares a a now after s (Err m) (nameless field_kind i.at ∷ []) IsBehind (λ c. field_row c own i of offset)
      → Declares a a before after s (Err n) (shapes names) IsOffset (λ c. sized_fields c own of size first names)
  fields_failed n piece = goes_failed fields_at piece n

-- all are made
pub all_fields : {a : State} {s : Site} {before now : Made} {own : ℕ} {of : Place} {size first : ℕ} {names : List Ident} {offset : ℕ} (k : ℕ) → k ≡ length names → HasFields a s before now own of size first names k offset
    → Declares a a before now s (Ok (Known offset)) (shapes names) IsOffset (λ c. sized_fields c own of size first names)
all_fields {a} {s} {own = own} {of = of} {size = size} {names = names} {offset = offset} k end so =
    let e : drop k names ≡ [] = ap (λ (n : ℕ). drop n names) end ∙ none_left names in
    goes_end offset
    (goes_as [] (λ c. makes offset) (ap shapes e) (λ hand in_hand told same. ap (λ (xs : List Ident). sized_fields (context_of a.frame hand s) own of size offset xs) (sym e)) so.on)
    so.offset_is

-- ** The size of the type

no_type_among : (c : Context) (own : ℕ) (i : Ident) (t : Place) (offset : ℕ) → Each (λ r. NamesNoType (row_meaning r)) (field_row c own i t offset).rows
no_type_among c own i t offset = (tt, tt)

-- fields of a type of this size are those of the definition
pub sized_plain : (names : List Ident) (c : Context) (own : ℕ) (t : Place) (size offset : ℕ) → HasSize c t size → sized_fields c own t size offset names ≡ plain_rows c own t offset names
sized_plain [] c own t size offset has = refl
sized_plain (i ∷ names) c own t size offset has =
    let m = field_row c own i t offset in
    let types = no_type_among c own i t offset in
    let d = with_rows c m.rows in
    then_same c m (λ d p. sized_fields d own t size (capped (offset + size)) names) (λ d p. plain_rows d own t (capped (offset + size_of d.scene t)) names)
    (sized_plain names d own t size (capped (offset + size))
    (λ rows none. has (m.rows ++ rows) (types-append m.rows rows types none) ∙ ap (λ (scene : Scene). size_of scene t) (sym (with-twice c.scene m.rows rows)))
    ∙ ap (λ (n : ℕ). plain_rows d own t (capped (offset + n)) names) (has m.rows types))

-- fields of a type, after the question for its size
pub fields_of_size : {a b : State} {x z : Made} {s : Site} (own : ℕ) (t : Place) (offset : ℕ) (names : List Ident) (size : ℕ) (answer : Result (Ask ℕ) Memory) → IsMaking a.frame s x (shapes names) → Reads a b → IsSizeOf a.frame x s t size
    → Declares b b x z s answer (shapes names) IsOffset (λ c. sized_fields c own t size offset names) → Declares a b x z s answer (shapes names) IsOffset (λ c. plain_rows c own t offset names)
fields_of_size {a} {b} {x} {z} {s} own t offset names size answer making reads is piece =
    described answer (λ c. plain_rows c own t offset names)
    (asked_then (λ c. size_of c.scene t) (λ size c. sized_fields c own t size offset names) answer making (size_asked t size reads is) piece)
    (λ hand in_hand told same.
    let c = context_of a.frame hand s in
    let has = has_size t size making is hand in_hand told same in
    let one : size ≡ size_of c.scene t = is hand in_hand told same [] tt ∙ ap (λ (rows : List Row). size_of (context_of a.frame (record { finished = hand.finished; rows = rows }) s).scene t) (append-nil hand.rows) in
    sized_plain names c own t (size_of c.scene t) offset (subst (λ (n : ℕ). HasSize c t n) one has))

-- ** A tag

-- a tag without a name
pub no_tag : (a : State) (x : Made) (s : Site) (own offset : ℕ) (t : Place) (tag : Option Ident) → tag ≡ None → offset ≤ most_cells + 1
    → Declares a a x x s (Ok (Known offset)) (tag_shapes tag) IsOffset (λ c. tag_rows c own offset t tag)
no_tag a x s own offset t tag e h =
    subst (λ (o : Option Ident). Declares a a x x s (Ok (Known offset)) (tag_shapes o) IsOffset (λ c. tag_rows c own offset t o)) (sym e) (value_alone a x s offset IsOffset h)

-- a tag with a name takes a cell
pub one_tag : {a : State} {x y : Made} {s : Site} {p : Place} (own offset : ℕ) (t : Place) (tag : Option Ident) (i : Ident) (next : ℕ) → tag ≡ Some i → next ≡ capped (offset + 1) → IsMaking a.frame s x (nameless field_kind i.at ∷ [])
    → Declares a a x y s (Ok (Known p)) (nameless field_kind i.at ∷ []) IsBehind (λ c. field_row c own i t offset)
    → Declares a a x y s (Ok (Known next)) (tag_shapes tag) IsOffset (λ c. tag_rows c own offset t tag)
one_tag {a} {x} {y} {s} own offset t tag i next e is making piece =
    subst (λ (o : Option Ident). Declares a a x y s (Ok (Known next)) (tag_shapes o) IsOffset (λ c. tag_rows c own offset t o)) (sym e)
    (then_after (λ c. field_row c own i t offset) (λ p c. makes (capped (offset + 1))) (Ok (Known next))
    (λ e. absurd (let b : field_kind ≡ type_name_kind = e in omega arith), tt) making piece
    (subst (λ (n : ℕ). Declares a a y y s (Ok (Known n)) [] IsOffset (λ c. makes (capped (offset + 1)))) (sym is)
    (value_alone a y s (capped (offset + 1)) IsOffset (omega arith))))

pub tag_failed : {a : State} {x y : Made} {s : Site} {m : Memory} {ss : List Shape} {P : Frame → ℕ → Place → Type 0} {g : Context → Makes Place} (own offset : ℕ) (t : Place) (tag : Option Ident) (n : Memory)
    → Declares a a x y s (Err m) ss P g → Declares a a x y s (Err n) (tag_shapes tag) IsOffset (λ c. tag_rows c own offset t tag)
tag_failed own offset t tag n p = failed p n
