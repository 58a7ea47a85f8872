-- Aliases of constants, one after another.
use Rattle.std.specs.Prelude.{◌≡◌, ℕ, suc, ◌+◌, ◌<◌, ◌≤◌, ◌^◌, List, [], ◌∷◌, ◌++◌, drop, length, map}
use Rattle.std.proofs.Common.{refl, sym, ap, ◌∙◌, subst, arith, get_or}
use Rattle.std.proofs.lemmas.List.{append_assoc, append-nil, drop_all, drop_more, length-append, length-map}
use Rattle.m2_base.specs.Rows.{alias_kind, row_of}
use Rattle.m2_base.specs.Statics.ImportedConstants as plain
use Rattle.m2_base.specs.Statics.ImportedConstants.{brought_names, brought_row}
use Rattle.m2_base.specs.declared.notes.Notes.{Notes}
use Rattle.m2_base.specs.declared.rows.Row.{Row}
use Rattle.m2_base.specs.declared.rows.RowMeaning.TheVariants.{Alias}
use Rattle.m2_base.specs.declared.sites.Named.{Named}
use Rattle.decl_sem.specs.FoundConstants.{member_view}
use Rattle.decl_sem.specs.Making.{next_ordinal}
use Rattle.decl_sem.specs.declared.brought.Member.{Member}
use Rattle.decl_sem.specs.declared.making.Made.{Made}

-- k of the members are put: with those that are left they are all
pub record ArePut (at item : ℕ) (before now : Made) (brought : List Named) (members : List Member) (k : ℕ) : Type 0 where
  pub names : brought ++ brought_names item (next_ordinal now) at (map member_view (drop k members)) ≡ brought_names item (next_ordinal before) at (map member_view members)
  pub rows : now.rows.items ++ map (brought_row at) (map member_view (drop k members)) ≡ before.rows.items ++ map (brought_row at) (map member_view members)
  pub notes : now.notes ≡ before.notes
  pub first : now.first ≡ before.first

pub none_put : (at item : ℕ) (made : Made) (brought : List Named) (members : List Member) → brought ≡ [] → ArePut at item made made brought members 0
none_put at item made brought members none =
    record { names = ap (λ (ns : List Named). ns ++ brought_names item (next_ordinal made) at (map member_view members)) none; rows = refl; notes = refl; first = refl }

-- how many rows there are
pub put_count : {at item : ℕ} {before now : Made} {brought : List Named} {members : List Member} {k : ℕ} → ArePut at item before now brought members k → k < length members → next_ordinal now < next_ordinal before + length members
put_count {at} {item} {before} {now} {brought} {members} {k} h within =
    let more = drop_more members k (get_or members k (record { name = 0; place = record { scope = 0; ordinal = 0 } })) within in
    let e = ap length h.rows in
    let a = length-append now.rows.items (map (brought_row at) (map member_view (drop k members))) in
    let b = length-append before.rows.items (map (brought_row at) (map member_view members)) in
    let m = length-map (map member_view (drop k members)) (brought_row at) in
    let n = length-map (drop k members) member_view in
    let p = length-map (map member_view members) (brought_row at) in
    let q = length-map members member_view in
    let d = ap length more in
    let f = h.first in
    omega (arith, e, a, b, m, n, p, q, d, f)

pub one_put : {at item : ℕ} {before now after : Made} {brought more : List Named} {members : List Member} {k : ℕ} (m : Member) (ordinal : ℕ) → ArePut at item before now brought members k → k < length members → m ≡ get_or members k m
    → after.rows.items ≡ now.rows.items ++ row_of m.name at (Alias m.place) ∷ [] → after.notes ≡ now.notes → after.first ≡ now.first → ordinal ≡ next_ordinal now
    → more ≡ brought ++ record { name = m.name; ordinal = ordinal; kind = alias_kind; at = at; item = item } ∷ [] → ArePut at item before after more members (k + 1)
one_put {at} {item} {before} {now} {after} {brought} {more} {members} {k} m ordinal h within is rows notes first place longer =
    let left : drop k members ≡ m ∷ drop (k + 1) members = drop_more members k m within ∙ ap (λ (j : Member). j ∷ drop (k + 1) members) (sym is) in
    let next : next_ordinal after ≡ next_ordinal now + 1 = let e = ap length rows in let l = length-append now.rows.items (row_of m.name at (Alias m.place) ∷ []) in omega (arith, e, l, first) in
    record {
      names =
          ap (λ (ns : List Named). ns ++ brought_names item (next_ordinal after) at (map member_view (drop (k + 1) members))) longer
          ∙ append_assoc brought (record { name = m.name; ordinal = ordinal; kind = alias_kind; at = at; item = item } ∷ []) (brought_names item (next_ordinal after) at (map member_view (drop (k + 1) members)))
          ∙ ap (λ (n : ℕ). brought ++ record { name = m.name; ordinal = ordinal; kind = alias_kind; at = at; item = item } ∷ brought_names item n at (map member_view (drop (k + 1) members))) next
          ∙ ap (λ (n : ℕ). brought ++ record { name = m.name; ordinal = n; kind = alias_kind; at = at; item = item } ∷ brought_names item (next_ordinal now + 1) at (map member_view (drop (k + 1) members))) place
          ∙ ap (λ (ms : List Member). brought ++ brought_names item (next_ordinal now) at (map member_view ms)) (sym left)
          ∙ h.names;
      rows =
          ap (λ (rs : List Row). rs ++ map (brought_row at) (map member_view (drop (k + 1) members))) rows
          ∙ append_assoc now.rows.items (row_of m.name at (Alias m.place) ∷ []) (map (brought_row at) (map member_view (drop (k + 1) members)))
          ∙ ap (λ (ms : List Member). now.rows.items ++ map (brought_row at) (map member_view ms)) (sym left)
          ∙ h.rows;
      notes = notes ∙ h.notes;
      first = first ∙ h.first;
    }

pub all_names_put : {at item : ℕ} {before now : Made} {brought : List Named} {members : List Member} {k : ℕ} → ArePut at item before now brought members k → k ≡ length members → brought ≡ brought_names item (next_ordinal before) at (map member_view members)
all_names_put {at} {item} {before} {now} {brought} {members} {k} h end =
    sym (append-nil brought)
    ∙ ap (λ (ms : List Member). brought ++ brought_names item (next_ordinal now) at (map member_view ms)) (sym (drop_all k members (omega (arith, end))))
    ∙ h.names

pub all_rows_put : {at item : ℕ} {before now : Made} {brought : List Named} {members : List Member} {k : ℕ} → ArePut at item before now brought members k → k ≡ length members → now.rows.items ≡ before.rows.items ++ map (brought_row at) (map member_view members)
all_rows_put {at} {item} {before} {now} {brought} {members} {k} h end =
    sym (append-nil now.rows.items)
    ∙ ap (λ (ms : List Member). now.rows.items ++ map (brought_row at) (map member_view ms)) (sym (drop_all k members (omega (arith, end))))
    ∙ h.rows
