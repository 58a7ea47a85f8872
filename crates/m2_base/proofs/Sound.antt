-- Scenes whose rows are all well formed, and what is found in them.
use Rattle.std.specs.Prelude.{◌≡◌, ℕ, zero, suc, ◌+◌, ◌^◌, ◌<◌, ◌≤◌, ◌==◌, Bool, true, false, if◌then◌else◌, ◌⊎◌, List, [], ◌∷◌, ◌++◌, length, slice_get, slice_index_or, Option, Some, None, unwrap_or}
use Rattle.std.proofs.Common.{ap, subst, sym, ◌∙◌, refl, inl, inr, arith}
use Rattle.std.proofs.lemmas.Bool.{cases_order}
use Rattle.std.proofs.lemmas.List.{length-append, get_or-set_other, get_or_past}
use Rattle.std.proofs.lemmas.Option.{get_or_from_slice_get, slice_get_within, slice_get_cases}
use Rattle.m2_base.specs.Lists.{WhereKept}
use Rattle.m2_base.specs.Rows.{Row, Place, at_place, row_of, row_meaning, RowMeaning, Broken, IsWellFormed, IsBefore, Fits, HasSmallOrdinals}
use Rattle.m2_base.specs.Standard.{standard_rows}
use Rattle.m2_base.specs.Tables.{first_named, found_or, lookup, rows_at}
use Rattle.m2_base.specs.Statics.Contexts.{Scene, row_at}
use Rattle.m2_base.specs.Statics.FormedRows.{IsFilled}
use Rattle.m2_base.specs.Statics.Lookup.{Entry}
use Rattle.m2_base.specs.Statics.Makes.{scene_with}
use Rattle.m2_base.proofs.RowLaws.{row_meaning-row_of}
use Rattle.m2_base.proofs.SceneLaws.{IsOpen, own_of, own-with, open-with, with-none, with-twice}

-- a row that is right at its place
pub record RowOk (names : ℕ) (p : Place) (r : Row) : Type 0 where
  pub formed : IsWellFormed names p r
  pub small : HasSmallOrdinals (row_meaning r)
  pub cells : IsFilled (row_meaning r)

pub made_ok : (names : ℕ) (p : Place) (n at : ℕ) (m : RowMeaning) → n < names → HasSmallOrdinals m → Fits names p m → IsFilled m → RowOk names p (row_of n at m)
made_ok names p n at m h s f k =
    let e = row_meaning-row_of n at m s in
    record {
      formed = record { named = h; written = ap (row_of n at) e; fits = subst (Fits names p) (sym e) f };
      small = subst HasSmallOrdinals (sym e) s;
      cells = subst IsFilled (sym e) k;
    }

-- the place of the next row
abbrev pub next_of : Scene → Place
next_of scene = at_place scene.block.scope (length (own_of scene))

-- the place of a row that is there
abbrev pub IsThere : Scene → Place → Type 0
IsThere scene p = (p.ordinal < 2 ^ 32) × IsBefore p (next_of scene)

pub record Sound (names : ℕ) (scene : Scene) : Type 0 where
  pub some : 0 < names
  pub room : IsOpen scene
  pub positive : 0 < scene.block.scope
  pub above : (s : ℕ) → scene.block.scope < s → rows_at scene.tables s ≡ []
  pub earlier : (s o : ℕ) (r : Row) → s < scene.block.scope → slice_get (rows_at scene.tables s) o ≡ Some r → (o < 2 ^ 32) × RowOk names (at_place s o) r
  pub own : (o : ℕ) (r : Row) → slice_get (own_of scene) o ≡ Some r → RowOk names (at_place scene.block.scope o) r
  pub standard : rows_at scene.tables 0 ≡ standard_rows
  pub few : length (own_of scene) < 2 ^ 31

-- each row is right after those before it
pub data AreOk (names : ℕ) : Scene → List Row → Type 0 where
  no_ok : {scene : Scene} → AreOk names scene []
  more_ok : {scene : Scene} {r : Row} {rows : List Row} → RowOk names (next_of scene) r → AreOk names (scene_with scene (r ∷ [])) rows → AreOk names scene (r ∷ rows)

pub ok-append : {names : ℕ} {scene : Scene} {xs ys : List Row} → AreOk names scene xs → AreOk names (scene_with scene xs) ys → AreOk names scene (xs ++ ys)
ok-append {names} {scene} {ys = ys} no_ok k = subst (λ s. AreOk names s ys) (with-none scene) k
ok-append {names} {scene} {ys = ys} (more_ok {r = r} {rows = rows} i h) k =
    more_ok i (ok-append h (subst (λ s. AreOk names s ys) (sym (with-twice scene (r ∷ []) rows)) k))

pub ok-end : {names : ℕ} {scene : Scene} {xs : List Row} → AreOk names scene xs → AreOk names scene (xs ++ [])
ok-end no_ok = no_ok
ok-end (more_ok i h) = more_ok i (ok-end h)

pub ok-then : {names : ℕ} {scene : Scene} {xs : List Row} → AreOk names (scene_with scene []) xs → AreOk names scene xs
ok-then {names} {scene} {xs} h = subst (λ s. AreOk names s xs) (with-none scene) h

-- there is room for these rows
pub record Room (scene : Scene) (rows : List Row) : Type 0 where
  pub enough : length (own_of scene) + length rows < 2 ^ 31

pub room-left : {scene : Scene} (xs ys : List Row) → Room scene (xs ++ ys) → Room scene xs
room-left {scene} xs ys h = let e = length-append xs ys in record { enough = omega (arith, e, h) }

pub room-right : (scene : Scene) (xs ys : List Row) → IsOpen scene → Room scene (xs ++ ys) → Room (scene_with scene xs) ys
room-right scene xs ys o h =
    let e = length-append xs ys in
    let f = ap length (own-with scene xs o) in
    let g = length-append (own_of scene) xs in
    record { enough = omega (arith, e, f, g, h) }

pub room-then : {scene : Scene} {xs : List Row} → Room scene xs → Room (scene_with scene []) xs
room-then {scene} {xs} h = subst (λ s. Room s xs) (sym (with-none scene)) h

-- ** More rows

pub there-with : (scene : Scene) (xs : List Row) (p : Place) → IsOpen scene → IsThere scene p → IsThere (scene_with scene xs) p
there-with scene xs p o h =
    let f = ap length (own-with scene xs o) in
    let g = length-append (own_of scene) xs in
    (h.0, omega (arith, f, g, h.1))

-- a row behind others
behind : (own : List Row) (r x : Row) (o : ℕ) → slice_get (own ++ r ∷ []) o ≡ Some x → (slice_get own o ≡ Some x) ⊎ ((o ≡ length own) × (r ≡ x))
behind [] r x zero e = inr (refl, ap (λ (o : Option Row). unwrap_or o r) e)
behind [] r x (suc o) e = absurd (cc)
behind (y ∷ own) r x zero e = inl e
behind (y ∷ own) r x (suc o) e = by_case (behind own r x o e)
  where
    by_case : (slice_get own o ≡ Some x) ⊎ ((o ≡ length own) × (r ≡ x)) → (slice_get own o ≡ Some x) ⊎ ((suc o ≡ suc (length own)) × (r ≡ x))
    by_case (inl h) = inl h
    by_case (inr h) = inr (ap suc h.0, h.1)

other_rows : (scene : Scene) (xs : List Row) (s : ℕ) → (s ≡ scene.block.scope → ⊥) → rows_at (scene_with scene xs).tables s ≡ rows_at scene.tables s
other_rows scene xs s h = get_or-set_other scene.tables scene.block.scope s (own_of scene ++ xs) [] h

pub sound-one : {names : ℕ} {scene : Scene} (r : Row) → Sound names scene → RowOk names (next_of scene) r → Room scene (r ∷ []) → Sound names (scene_with scene (r ∷ []))
sound-one {names} {scene} r s k room =
    record {
      some = s.some;
      room = open-with scene (r ∷ []) s.room;
      positive = s.positive;
      above = λ n h. other_rows scene (r ∷ []) n (λ e. omega (arith, e, h)) ∙ s.above n h;
      earlier = λ n o x h e. s.earlier n o x h (subst (λ (rows : List Row). slice_get rows o ≡ Some x) (other_rows scene (r ∷ []) n (λ e'. omega (arith, e', h))) e);
      own = λ o x e. by_case o x (behind (own_of scene) r x o (subst (λ (rows : List Row). slice_get rows o ≡ Some x) (own-with scene (r ∷ []) s.room) e));
      standard = other_rows scene (r ∷ []) 0 (λ e. let p = s.positive in omega (arith, e, p)) ∙ s.standard;
      few = let f = ap length (own-with scene (r ∷ []) s.room) in let g = length-append (own_of scene) (r ∷ []) in omega (arith, f, g, room);
    }
  where
    by_case : (o : ℕ) (x : Row) → (slice_get (own_of scene) o ≡ Some x) ⊎ ((o ≡ length (own_of scene)) × (r ≡ x)) → RowOk names (at_place scene.block.scope o) x
    by_case o x (inl h) = s.own o x h
    by_case o x (inr h) = subst (λ n. RowOk names (at_place scene.block.scope n) x) (sym h.0) (subst (RowOk names (next_of scene)) h.1 k)

pub sound-with : {names : ℕ} {scene : Scene} {xs : List Row} → Sound names scene → AreOk names scene xs → Room scene xs → Sound names (scene_with scene xs)
sound-with {names} {scene} s no_ok room = subst (Sound names) (sym (with-none scene)) s
sound-with {names} {scene} s (more_ok {r = r} {rows = rows} i h) room =
    let first : Room scene (r ∷ []) = record { enough = omega (arith, room) } in
    subst (Sound names) (with-twice scene (r ∷ []) rows)
    (sound-with (sound-one r s i first) h (room-right scene (r ∷ []) rows s.room room))

-- ** What is found

named_at : (name : ℕ) (xs : List Row) (k : ℕ) (hit : ℕ × Row) → first_named name xs k ≡ Some hit → (j : ℕ) × (hit.0 ≡ k + j) × (slice_get xs j ≡ Some hit.1)
named_at name [] k hit e = absurd (cc)
named_at name (r ∷ xs) k hit e = by_test (r.name == name) (named_at name xs (k + 1) hit) e
  where
    by_test : (b : Bool) → (first_named name xs (k + 1) ≡ Some hit → (j : ℕ) × (hit.0 ≡ k + 1 + j) × (slice_get xs j ≡ Some hit.1))
        → (if b then Some (k, r) else first_named name xs (k + 1)) ≡ Some hit → (j : ℕ) × (hit.0 ≡ k + j) × (slice_get (r ∷ xs) j ≡ Some hit.1)
    by_test true rest h =
        let e' : (k, r) ≡ hit = ap (λ (o : Option (ℕ × Row)). unwrap_or o (k, r)) h in
        let f : k ≡ hit.0 = ap (λ (x : ℕ × Row). x.0) e' in
        (0, omega (arith, f), ap (λ (x : ℕ × Row). Some x.1) e')
    by_test false rest h = let found = rest h in (suc found.0, omega (arith, found.1), found.2)

-- an entry that is right, and there
pub record EntryOk (names : ℕ) (scene : Scene) (e : Entry) : Type 0 where
  pub there : IsThere scene e.0
  pub row : RowOk names e.0 e.1

pub at_ordinal : {names : ℕ} {scene : Scene} → Sound names scene → (s o : ℕ) (r : Row) → slice_get (rows_at scene.tables s) o ≡ Some r → EntryOk names scene (at_place s o, r)
at_ordinal {names} {scene} sound s o r e = by_order (cases_order s scene.block.scope)
  where
    by_order : (s ≡ scene.block.scope) ⊎ ((s < scene.block.scope) ⊎ (scene.block.scope < s)) → EntryOk names scene (at_place s o, r)
    by_order (inl same) =
        let here : slice_get (own_of scene) o ≡ Some r = subst (λ n. slice_get (rows_at scene.tables n) o ≡ Some r) same e in
        let within = slice_get_within (own_of scene) o r here in
        let few = sound.few in
        record {
          there = (omega (arith, within, few), omega (arith, within, same));
          row = subst (λ n. RowOk names (at_place n o) r) (sym same) (sound.own o r here);
        }
    by_order (inr (inl less)) =
        let found = sound.earlier s o r less e in
        record { there = (found.0, omega (arith, found.0, less)); row = found.1 }
    by_order (inr (inr more)) =
        let none : slice_get [] o ≡ Some r = subst (λ (rows : List Row). slice_get rows o ≡ Some r) (sound.above s more) e in
        absurd (cc)

pub found_ok : {names : ℕ} {scene : Scene} → Sound names scene → (chain : List ℕ) (name : ℕ) → WhereKept (lookup scene.tables chain name) (EntryOk names scene)
found_ok sound [] name = tt
found_ok {names} {scene} sound (s ∷ chain) name = by_hit (first_named name (rows_at scene.tables s) 0) refl (found_ok sound chain name)
  where
    by_hit : (o : Option (ℕ × Row)) → first_named name (rows_at scene.tables s) 0 ≡ o → WhereKept (lookup scene.tables chain name) (EntryOk names scene)
        → WhereKept (found_or s o (lookup scene.tables chain name)) (EntryOk names scene)
    by_hit None e rest = rest
    by_hit (Some hit) e rest =
        let at = named_at name (rows_at scene.tables s) 0 hit e in
        let same : at.0 ≡ hit.0 = let h = at.1 in omega (arith, h) in
        subst (λ n. EntryOk names scene (at_place s n, hit.1)) same (at_ordinal sound s at.0 hit.1 at.2)

-- the row at a place is right there, also where it is missing
pub row_ok : {names : ℕ} {scene : Scene} → Sound names scene → (p : Place) → RowOk names p (row_at scene.tables p)
row_ok {names} {scene} sound p = by_case ((slice_get_cases (rows_at scene.tables p.scope) p.ordinal).1)
  where
    missing : RowOk names p (row_of 0 0 Broken)
    missing = made_ok names p 0 0 Broken sound.some tt tt tt

    by_case : ((x : Row) × (p.ordinal < length (rows_at scene.tables p.scope)) × (slice_get (rows_at scene.tables p.scope) p.ordinal ≡ Some x) × (slice_index_or (rows_at scene.tables p.scope) p.ordinal x ≡ x))
        ⊎ ((length (rows_at scene.tables p.scope) ≤ p.ordinal) × (slice_get (rows_at scene.tables p.scope) p.ordinal ≡ None))
        → RowOk names p (row_at scene.tables p)
    by_case (inl h) =
        subst (RowOk names p) (sym (get_or_from_slice_get (rows_at scene.tables p.scope) p.ordinal h.0 (row_of 0 0 Broken) h.2))
        ((at_ordinal sound p.scope p.ordinal h.0 h.2).row)
    by_case (inr h) = subst (RowOk names p) (sym (get_or_past (rows_at scene.tables p.scope) p.ordinal (row_of 0 0 Broken) h.0)) missing
