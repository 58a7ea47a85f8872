-- The rows of the constants that an import brings are right.
use Rattle.std.specs.Prelude.{◌≡◌, ℕ, zero, suc, ◌+◌, ◌^◌, ◌<◌, ◌≤◌, ◌==◌, Bool, true, false, not, ◌&&◌, if◌then◌else◌, List, [], ◌∷◌, length, map, take, drop, slice_get, unwrap_or, Option, Some, None}
use Rattle.std.proofs.Common.{subst, refl, arith}
use Rattle.std.proofs.lemmas.List.{length-append, length-map}
use Rattle.m2_base.specs.Lists.{Each}
use Rattle.m2_base.specs.Rows.{Row, RowMeaning, Place, Alias, TypeName, Enum, at_place, row_meaning}
use Rattle.m2_base.specs.Statics.Contexts.{Context, Layout, Named, Scene}
use Rattle.m2_base.specs.Statics.ImportedConstants.{Member, are_too_many, brings, brought_names, brought_row, constants_from, is_constant, is_given, members_by, members_of, members_of_row, new_members}
use Rattle.m2_base.specs.Statics.Layouts.{extended}
use Rattle.m2_base.specs.Statics.Lookup.{Entry}
use Rattle.m2_base.specs.Statics.Makes.{Makes, own_rows, scene_with, with_rows}
use Rattle.m2_base.specs.Statics.Types.{meaning_at}
use Rattle.m2_base.specs.Tables.{rows_at}
use Rattle.m2_base.specs.declared.limits.TheConstants.{MOST_BROUGHT}
use Rattle.m2_base.proofs.EachLaws.{each_append}
use Rattle.m2_base.proofs.Sound.{Sound, EntryOk, AreOk, no_ok, ok-append, at_ordinal, IsThere, there-with, Room, room-left, room-right}
use Rattle.m2_base.proofs.SoundMade.{context-with, row_made}
use Rattle.m2_base.proofs.SoundOperations.{LayoutOk, SoundContext}
use Rattle.m2_base.proofs.SoundTypes.{either}

take_get : {A : Type 0} (n : ℕ) (xs : List A) (k : ℕ) (x : A) → slice_get (take n xs) k ≡ Some x → slice_get xs k ≡ Some x
take_get zero xs k x e = absurd (cc)
take_get (suc n) [] k x e = e
take_get (suc n) (y ∷ xs) zero x e = e
take_get (suc n) (y ∷ xs) (suc k) x e = take_get n xs k x e

drop_get : {A : Type 0} (m : ℕ) (xs : List A) (k : ℕ) (x : A) → slice_get (drop m xs) k ≡ Some x → slice_get xs (m + k) ≡ Some x
drop_get {A} zero xs k x e = let same : k ≡ 0 + k = omega arith in subst (λ n. slice_get xs n ≡ Some x) same (none_dropped xs e)
  where
    none_dropped : (xs : List A) → slice_get (drop 0 xs) k ≡ Some x → slice_get xs k ≡ Some x
    none_dropped [] e = e
    none_dropped (y ∷ xs) e = e
drop_get (suc m) [] k x e = absurd (cc)
drop_get (suc m) (y ∷ xs) k x e = let same : suc (m + k) ≡ suc m + k = omega arith in subst (λ n. slice_get (y ∷ xs) n ≡ Some x) same (drop_get m xs k x e)

-- a layout that grows stays right
pub extended_ok : (l : Layout) (b : List Named) → LayoutOk l → Each (λ n. n.ordinal < 2 ^ 32) b → length l.brought + length b ≤ MOST_BROUGHT → LayoutOk (extended l b)
extended_ok l [] ok small few = ok
extended_ok l (n ∷ b) ok small few =
    let e = length-append l.brought (n ∷ b) in
    record {
      names_small = ok.names_small;
      brought_small = each_append (λ (x : Named). x.ordinal < 2 ^ 32) l.brought (n ∷ b) ok.brought_small small;
      few = omega (arith, e, few);
    }

names_small : (item o at : ℕ) (ms : List Member) → o + length ms ≤ 2 ^ 32 → Each (λ (n : Named). n.ordinal < 2 ^ 32) (brought_names item o at ms)
names_small item o at [] h = tt
names_small item o at (m ∷ ms) h = (omega (arith, h), names_small item (o + 1) at ms (omega (arith, h)))

module _ (names : ℕ) where
  -- a constant whose name is one of the unit's, and whose row is there
  abbrev pub MemberOk : Scene → Member → Type 0
  MemberOk scene m = (m.name < names) × IsThere scene m.place

  constants_ok : (scene : Scene) (s : ℕ) (rows : List Row) (o : ℕ) → ((k : ℕ) (r : Row) → slice_get rows k ≡ Some r → EntryOk names scene (at_place s (o + k), r))
      → Each (MemberOk scene) (constants_from s o rows)
  constants_ok scene s [] o h = tt
  constants_ok scene s (r ∷ rows) o h =
      let first = h 0 r refl in
      let same : o + 0 ≡ o = omega arith in
      let there : IsThere scene (at_place s o) = subst (λ n. IsThere scene (at_place s n)) same first.there in
      let rest = constants_ok scene s rows (o + 1) (λ k x e. let more : o + suc k ≡ o + 1 + k = omega arith in subst (λ n. EntryOk names scene (at_place s n, x)) more (h (suc k) x e)) in
      either (Each (MemberOk scene)) (is_constant (row_meaning r) && not (r.name == 0)) (record { name = r.name; place = at_place s o } ∷ constants_from s (o + 1) rows) (constants_from s (o + 1) rows)
      ((first.row.formed.named, there), rest) rest

  members_by_ok : (scene : Scene) → Sound names scene → (t : Place) (m : RowMeaning) → Each (MemberOk scene) (members_by scene.tables t m)
  members_by_ok scene sound t (Enum n) =
      let rows = rows_at scene.tables t.scope in
      constants_ok scene t.scope (take n (drop (t.ordinal + 1) rows)) (t.ordinal + 1)
      (λ k r e. at_ordinal sound t.scope (t.ordinal + 1 + k) r (drop_get (t.ordinal + 1) rows k r (take_get n (drop (t.ordinal + 1) rows) k r e)))
  members_by_ok scene sound t m = tt

  members_of_row_ok : (scene : Scene) → Sound names scene → (m : RowMeaning) → Each (MemberOk scene) (members_of_row scene m)
  members_of_row_ok scene sound (TypeName t) =
      either (Each (MemberOk scene)) (t.scope == 0) [] (members_by scene.tables t (meaning_at scene t)) tt (members_by_ok scene sound t (meaning_at scene t))
  members_of_row_ok scene sound m = tt

  pub members_ok : (scene : Scene) → Sound names scene → (e : Option Entry) → Each (MemberOk scene) (members_of scene e)
  members_ok scene sound None = tt
  members_ok scene sound (Some e) = members_of_row_ok scene sound (row_meaning e.1)

  new_ok : (c : Context) (given : List ℕ) (ms : List Member) → Each (MemberOk c.scene) ms → Each (MemberOk c.scene) (new_members c given ms)
  new_ok c given [] h = tt
  new_ok c given (m ∷ ms) h =
      either (Each (MemberOk c.scene)) (is_given c given m.name) (new_members c given ms) (m ∷ new_members c (m.name ∷ given) ms)
      (new_ok c given ms h.1) (h.0, new_ok c (m.name ∷ given) ms h.1)

  member_with : (scene : Scene) (rows : List Row) → Sound names scene → (ms : List Member) → Each (MemberOk scene) ms → Each (MemberOk (scene_with scene rows)) ms
  member_with scene rows sound [] h = tt
  member_with scene rows sound (m ∷ ms) h = ((h.0.0, there-with scene rows m.place sound.room h.0.1), member_with scene rows sound ms h.1)

  rows_ok : (at : ℕ) (ms : List Member) (c : Context) → SoundContext names c → Each (MemberOk c.scene) ms → Room c.scene (map (brought_row at) ms) → AreOk names c.scene (map (brought_row at) ms)
  rows_ok at [] c sound h room = no_ok
  rows_ok at (m ∷ ms) c sound h room =
      let one = brought_row at m ∷ [] in
      let first = (row_made c sound m.name at (Alias m.place) h.0.0 h.0.1.0 h.0.1.1 tt).rows_ok in
      let left = room-left one (map (brought_row at) ms) room in
      ok-append first
      (rows_ok at ms (with_rows c one) (context-with sound first left) (member_with c.scene one sound.scene ms h.1)
      (room-right c.scene one (map (brought_row at) ms) sound.scene.room room))

  -- what is brought: its rows are right, and so is the layout with it
  abbrev pub BroughtOk : Context → Makes (List Named) → Type 0
  BroughtOk c b = AreOk names c.scene b.rows × LayoutOk (extended c.layout b.value)

  pub brought_ok : (c : Context) → SoundContext names c → (at : ℕ) (ms : List Member) → Each (MemberOk c.scene) ms → Room c.scene (brings c at ms (new_members c [] ms)).rows
      → length c.layout.brought + length (brings c at ms (new_members c [] ms)).value ≤ MOST_BROUGHT → BroughtOk c (brings c at ms (new_members c [] ms))
  brought_ok c sound at ms h = by_test (are_too_many c new) _ _ (λ room few. (no_ok, sound.layout)) made
    where
      new : List Member
      new = new_members c [] ms

      made : Room c.scene (map (brought_row at) new) → length c.layout.brought + length (brought_names (unwrap_or c.item 0) (length (own_rows c)) at new) ≤ MOST_BROUGHT
          → AreOk names c.scene (map (brought_row at) new) × LayoutOk (extended c.layout (brought_names (unwrap_or c.item 0) (length (own_rows c)) at new))
      made room few =
          let enough = room.enough in
          let many = length-map new (brought_row at) in (
            rows_ok at new c sound (new_ok c [] ms h) room,
            extended_ok c.layout (brought_names (unwrap_or c.item 0) (length (own_rows c)) at new) sound.layout
                (names_small (unwrap_or c.item 0) (length (own_rows c)) at new (omega (arith, enough, many))) few,
          )

      by_test : (b : Bool) (x y : Makes (List Named)) → (Room c.scene x.rows → length c.layout.brought + length x.value ≤ MOST_BROUGHT → BroughtOk c x)
          → (Room c.scene y.rows → length c.layout.brought + length y.value ≤ MOST_BROUGHT → BroughtOk c y)
          → Room c.scene (if b then x else y).rows → length c.layout.brought + length (if b then x else y).value ≤ MOST_BROUGHT → BroughtOk c (if b then x else y)
      by_test true x y p q room few = p room few
      by_test false x y p q room few = q room few
