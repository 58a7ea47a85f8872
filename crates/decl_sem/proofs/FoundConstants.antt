-- The constants of an enumeration, one after another.
use Rattle.std.specs.HashSet.{contains}
use Rattle.std.specs.List.{list_any}
use Rattle.std.specs.Prelude.{◌≡◌, ◌≢◌, ◌⊎◌, ℕ, zero, suc, ◌+◌, ◌-◌, ◌<◌, ◌≤◌, ◌==◌, ◌||◌, ◌&&◌, nat_eq, nat_lt, Bool, true, false, not, cond, is_some, if◌then◌else◌, List, [], ◌∷◌, ◌++◌, length, map, take, drop, slice_get, slice_index_or, Option, None, Some, option_map, unwrap_or, Result, Ok, Err, ◌^◌, min}
use Rattle.std.proofs.Common.{refl, sym, ap, ◌∙◌, subst, arith, inl, inr}
use Rattle.std.proofs.lemmas.List.{append_assoc, append-nil, drop_all, drop_more, length-append, length-drop, length-map, take_all}
use Rattle.std.proofs.lemmas.List.Folds.{list_any-append}
use Rattle.m2_base.specs.Asks.{IfKnown}
use Rattle.m2_base.specs.Finished.{IsFinished}
use Rattle.m2_base.specs.declared.memory.Memory.{Memory}
use Rattle.m2_base.specs.declared.replies.Ask.{Ask}
use Rattle.m2_base.specs.declared.replies.Ask.TheVariants.{DontKnowYet, Known}
use Rattle.m2_base.specs.Lists.{Each}
use Rattle.m2_base.specs.Rows.{at_place, is_same_place, row_meaning, row_of}
use Rattle.m2_base.specs.Standard.{is_standard}
use Rattle.m2_base.specs.States.{Frame}
use Rattle.std.specs.declared.alloc.Global.{Global}
use Rattle.std.specs.declared.vec.Vec.{Vec}
use Rattle.std.specs.HashSet.{HashSet}
use Rattle.m2_base.specs.Statics.Contexts.{Context, diag, row_at}
use Rattle.m2_base.specs.Statics.Diagnostics.{declared_twice, too_many_constants}
use Rattle.m2_base.specs.Statics.Makes.{Makes, own_rows}
use Rattle.m2_base.specs.declared.sites.Named.{Named}
use Rattle.m2_base.specs.Statics.ImportedConstants as plain
use Rattle.m2_base.specs.Statics.ImportedConstants.{are_too_many, brings, brought_by, brought_names, brought_row, constants_from, is_constant, is_given, is_hidden, leads_elsewhere, new_members}
use Rattle.m2_base.specs.Statics.Lookup.{entry_in}
use Rattle.m2_base.specs.Tables.{rows_at}
use Rattle.m2_base.specs.declared.limits.TheConstants.{MOST_BROUGHT}
use Rattle.m2_base.specs.declared.rows.Place.{Place}
use Rattle.m2_base.specs.declared.rows.Row.{Row}
use Rattle.m2_base.specs.declared.rows.RowMeaning.TheVariants.{Broken}
use Rattle.m2_base.specs.declared.sites.Site.{Site}
use Rattle.m2_base.proofs.EachLaws.{each_append}
use Rattle.type_rules.specs.Scenes.{AreInHand, Hand, rows_of, scene_of}
use Rattle.type_rules.specs.Sites.{SuitsSite, context_of}
use Rattle.type_rules.proofs.Counting.{counted_below}
use Rattle.decl_sem.specs.Brought.{brings_new}
use Rattle.decl_sem.specs.FoundConstants.{AreFound, AreNewMembers, AreSeen, Differ, IsMember, IsNewMember, constant_by, constants_left, constants_of, member_view, with_member}
use Rattle.decl_sem.specs.Making.{next_ordinal}
use Rattle.decl_sem.specs.NewNames.{earlier_row}
use Rattle.decl_sem.specs.Pieces.{IsMaking, WhereMaking}
use Rattle.decl_sem.specs.declared.brought.Found.{Found}
use Rattle.decl_sem.specs.declared.brought.Member.{Member}
use Rattle.decl_sem.specs.declared.making.Made.{Made}
use Rattle.decl_sem.proofs.HiddenNames.{entry_by_layout, hidden_none, hidden_some, led, own_entry}

-- ** Lists of names

same_number : (m n : ℕ) → (m == n) ≡ true → m ≡ n
same_number m n h = grind arith

itself : (n : ℕ) → (n == n) ≡ true
itself n = grind arith

or_false : (b : Bool) → (b || false) ≡ b
or_false true = refl
or_false false = refl

or_swapped : (a b : Bool) → (a || b) ≡ (b || a)
or_swapped true true = refl
or_swapped true false = refl
or_swapped false true = refl
or_swapped false false = refl

or_grouped : (a b d : Bool) → (a || (b || d)) ≡ ((a || b) || d)
or_grouped true b d = refl
or_grouped false b d = refl

-- none of them has the name
names_differ : (name : ℕ) (members : List Member) → list_any (λ m. m.name == name) members ≡ false → Each (λ (m : Member). name ≢ m.name) members
names_differ name [] h = tt
names_differ name (m ∷ members) h = go (m.name == name) refl h (λ e. names_differ name members e)
  where
    go : (b : Bool) → (m.name == name) ≡ b → (b || list_any (λ k. k.name == name) members) ≡ false → (list_any (λ k. k.name == name) members ≡ false → Each (λ (k : Member). name ≢ k.name) members) → Each (λ (k : Member). name ≢ k.name) (m ∷ members)
    go true q e rest = absurd (cc)
    go false q e rest = ((λ same. let yes : (m.name == name) ≡ true = grind (arith, same) in let bad : true ≡ false = sym yes ∙ q in absurd (cc)), rest e)

differ_more : (members : List Member) (m : Member) → Differ members → Each (λ (k : Member). m.name ≢ k.name) members → Differ (members ++ m ∷ [])
differ_more [] m h others = (tt, tt)
differ_more (k ∷ members) m h others = (each_append (λ (j : Member). j.name ≢ k.name) members (m ∷ []) h.0 (others.0, tt), differ_more members m h.1 others.1)

new_more : (f : Frame) (s : Site) (made : Made) (members : List Member) (m : Member) → AreNewMembers f s made members → IsNewMember f s (next_ordinal made) m → list_any (λ k. k.name == m.name) members ≡ false → AreNewMembers f s made (members ++ m ∷ [])
new_more f s made members m h is other =
    record {
      each = each_append (IsNewMember f s (next_ordinal made)) members (m ∷ []) h.each (is, tt);
      differ = differ_more members m h.differ (names_differ m.name members other);
    }

-- ** The begin

pub found_none : (f : Frame) (s : Site) (made : Made) (all : Context → List plain.Member) (found : Found) → found.members.items ≡ [] → ((n : ℕ) → contains nat_eq found.names n ≡ false) → found.hidden ≡ false → AreFound f s made all all found
found_none f s made all found none empty shown =
    record {
      new = subst (λ (ms : List Member). AreNewMembers f s made ms) (sym none) (record { each = tt; differ = tt });
      names = [];
      same = λ n. sym (ap (λ (ms : List Member). list_any (λ (m : Member). m.name == n) ms) none);
      index = empty;
      told = λ hand in_hand told same. sym (ap (λ (ms : List Member). map member_view ms ++ new_members (context_of f hand s) [] (all (context_of f hand s))) none);
      hides = λ hand in_hand told same. sym (ap (λ (b : Bool). b || list_any (is_hidden (context_of f hand s)) (all (context_of f hand s))) shown);
    }

-- ** One more constant

has_some : (o : Option ℕ) (k : ℕ) (c : Context) (e : Option (Place × Row)) → o ≡ Some k → e ≡ option_map (own_entry c.scene) o → is_some e ≡ true
has_some o k c e h is = ap (λ r. is_some r) (is ∙ ap (option_map (own_entry c.scene)) h)

has_none : (o : Option ℕ) (c : Context) (e : Option (Place × Row)) → o ≡ None → e ≡ option_map (own_entry c.scene) o → is_some e ≡ false
has_none o c e h is = ap (λ r. is_some r) (is ∙ ap (option_map (own_entry c.scene)) h)

either_true : (a b : Bool) → (a || (true || b)) ≡ true
either_true true b = refl
either_true false b = refl

module _ {f : Frame} {s : Site} {made : Made} (making : IsMaking f s made []) (m : Member) (member : IsMember f m) (all rest : Context → List plain.Member) (old : Found) (found : AreFound f s made all (λ c. member_view m ∷ rest c) old) where
  -- the block has the name
  pub found_hidden : (new : Found) (k : ℕ) (target : Place) (d : Bool) → earlier_row s.layout.now (next_ordinal made) m.name ≡ Some k
      → WhereMaking f made (λ hand. target ≡ led (scene_of f hand s.around.now) k) → d ≡ not (is_same_place target m.place)
      → new.members ≡ old.members → new.names ≡ old.names → new.hidden ≡ (old.hidden || d) → AreFound f s made all rest new
  found_hidden new k target d earlier leads differs items index hidden =
      record {
        new = subst (λ (ms : Vec Member Global). AreNewMembers f s made ms.items) (sym items) found.new;
        names = found.names;
        same = λ n. found.same n ∙ ap (λ (ms : Vec Member Global). list_any (λ (j : Member). j.name == n) ms.items) (sym items);
        index = λ n. ap (λ (names : HashSet ℕ _). contains nat_eq names n) index ∙ found.index n;
        told = λ hand in_hand told same.
            let c = context_of f hand s in
            let has = has_some (earlier_row s.layout.now (next_ordinal made) m.name) k c (entry_in c.scene.tables c.scene.block.scope m.name) earlier (entry_by_layout m.name making member.named hand same told) in
            let given : is_given c found.names m.name ≡ true =
            ap (λ (b : Bool). is_standard m.name || (b || list_any (λ (j : ℕ). j == m.name) found.names)) has ∙ either_true (is_standard m.name) (list_any (λ (j : ℕ). j == m.name) found.names) in
            found.told hand in_hand told same
            ∙ ap (λ (b : Bool). map member_view old.members.items ++ (if b then new_members c found.names (rest c) else member_view m ∷ new_members c (m.name ∷ found.names) (rest c))) given
            ∙ ap (λ (ms : Vec Member Global). map member_view ms.items ++ new_members c found.names (rest c)) (sym items);
        hides = λ hand in_hand told same.
            let c = context_of f hand s in
            let entry = entry_in c.scene.tables c.scene.block.scope m.name in
            let here : entry ≡ Some (own_entry c.scene k) = entry_by_layout m.name making member.named hand same told ∙ ap (option_map (own_entry c.scene)) earlier in
            let is : d ≡ is_hidden c (member_view m) = hidden_some c.scene m.place target k entry d here (leads hand in_hand told same) differs in
            found.hides hand in_hand told same
            ∙ ap (λ (b : Bool). old.hidden || (b || list_any (is_hidden c) (rest c))) (sym is)
            ∙ or_grouped old.hidden d (list_any (is_hidden c) (rest c))
            ∙ ap (λ (b : Bool). b || list_any (is_hidden c) (rest c)) (sym hidden);
      }

  module _ (earlier : earlier_row s.layout.now (next_ordinal made) m.name ≡ None) where
    -- it isn't hidden
    shown_here : (hand : Hand) → hand.rows ≡ made.rows.items → IsFinished f.setting.texts hand.finished → false ≡ is_hidden (context_of f hand s) (member_view m)
    shown_here hand same told =
        let c = context_of f hand s in
        hidden_none c.scene m.place (entry_in c.scene.tables c.scene.block.scope m.name) (entry_by_layout m.name making member.named hand same told ∙ ap (option_map (own_entry c.scene)) earlier)

    given_here : (hand : Hand) → hand.rows ≡ made.rows.items → IsFinished f.setting.texts hand.finished → is_given (context_of f hand s) found.names m.name ≡ (is_standard m.name || contains nat_eq old.names m.name)
    given_here hand same told =
        let c = context_of f hand s in
        let has = has_none (earlier_row s.layout.now (next_ordinal made) m.name) c (entry_in c.scene.tables c.scene.block.scope m.name) earlier (entry_by_layout m.name making member.named hand same told) in
        ap (λ (b : Bool). is_standard m.name || (b || list_any (λ (j : ℕ). j == m.name) found.names)) has
        ∙ ap (λ (b : Bool). is_standard m.name || b) (sym (found.index m.name))

    hides_on : (new : Found) → new.hidden ≡ old.hidden → WhereMaking f made (λ hand. list_any (is_hidden (context_of f hand s)) (all (context_of f hand s)) ≡ (new.hidden || list_any (is_hidden (context_of f hand s)) (rest (context_of f hand s))))
    hides_on new hidden hand in_hand told same =
        let c = context_of f hand s in
        found.hides hand in_hand told same
        ∙ ap (λ (b : Bool). old.hidden || (b || list_any (is_hidden c) (rest c))) (sym (shown_here hand same told))
        ∙ ap (λ (b : Bool). b || list_any (is_hidden c) (rest c)) (sym hidden)

    -- the name is given otherwise
    pub found_given : (new : Found) → (is_standard m.name || contains nat_eq old.names m.name) ≡ true → new ≡ old → AreFound f s made all rest new
    found_given new given same_found =
        subst (λ (g : Found). AreFound f s made all rest g) (sym same_found)
        (record {
          new = found.new;
          names = found.names;
          same = found.same;
          index = found.index;
          told = λ hand in_hand told same.
              let c = context_of f hand s in
              found.told hand in_hand told same
              ∙ ap (λ (b : Bool). map member_view old.members.items ++ (if b then new_members c found.names (rest c) else member_view m ∷ new_members c (m.name ∷ found.names) (rest c))) (given_here hand same told ∙ given);
          hides = hides_on old refl;
        })

    no_standard : (a b : Bool) → (a || b) ≡ false → a ≡ false
    no_standard true b h = h
    no_standard false b h = refl

    no_index : (a b : Bool) → (a || b) ≡ false → b ≡ false
    no_index true b h = absurd (cc)
    no_index false b h = h

    either_or : (a b : Bool) → cond a true b ≡ (a || b)
    either_or true b = refl
    either_or false b = refl

    -- it is new
    pub found_new : (new : Found) → (is_standard m.name || contains nat_eq old.names m.name) ≡ false → new.members.items ≡ old.members.items ++ m ∷ []
        → ((n : ℕ) → contains nat_eq new.names n ≡ cond (nat_eq m.name n) true (contains nat_eq old.names n)) → new.hidden ≡ old.hidden → AreFound f s made all rest new
    found_new new unlike items index hidden =
        let lacks : contains nat_eq old.names m.name ≡ false = no_index (is_standard m.name) (contains nat_eq old.names m.name) unlike in
        record {
          new = subst (λ (ms : List Member). AreNewMembers f s made ms) (sym items)
              (new_more f s made old.members.items m found.new
              (record { member = member; plain = no_standard (is_standard m.name) (contains nat_eq old.names m.name) unlike; unknown = earlier })
              (sym (found.same m.name) ∙ sym (found.index m.name) ∙ lacks));
          names = m.name ∷ found.names;
          same = λ n.
              ap (λ (b : Bool). (m.name == n) || b) (found.same n)
              ∙ or_swapped (m.name == n) (list_any (λ (j : Member). j.name == n) old.members.items)
              ∙ ap (λ (b : Bool). list_any (λ (j : Member). j.name == n) old.members.items || b) (sym (or_false (m.name == n)))
              ∙ sym (list_any-append (λ (j : Member). j.name == n) old.members.items (m ∷ []))
              ∙ ap (λ (ms : List Member). list_any (λ (j : Member). j.name == n) ms) (sym items);
          index = λ n. index n ∙ either_or (nat_eq m.name n) (contains nat_eq old.names n) ∙ ap (λ (b : Bool). (m.name == n) || b) (found.index n);
          told = λ hand in_hand told same.
              let c = context_of f hand s in
              found.told hand in_hand told same
              ∙ ap (λ (b : Bool). map member_view old.members.items ++ (if b then new_members c found.names (rest c) else member_view m ∷ new_members c (m.name ∷ found.names) (rest c))) (given_here hand same told ∙ unlike)
              ∙ one_more (new_members c (m.name ∷ found.names) (rest c)) old.members.items
              ∙ ap (λ (ms : List Member). map member_view ms ++ new_members c (m.name ∷ found.names) (rest c)) (sym items);
          hides = hides_on new hidden;
        }
      where
        one_more : (more : List plain.Member) (ms : List Member) → map member_view ms ++ member_view m ∷ more ≡ map member_view (ms ++ m ∷ []) ++ more
        one_more more [] = refl
        one_more more (j ∷ ms) = ap (λ (xs : List plain.Member). member_view j ∷ xs) (one_more more ms)

    -- whichever it is
    pub found_added : (new : Found) → ((is_standard m.name || contains nat_eq old.names m.name) ≡ true → new ≡ old) → ((is_standard m.name || contains nat_eq old.names m.name) ≡ false → new.members.items ≡ old.members.items ++ m ∷ [])
        → ((is_standard m.name || contains nat_eq old.names m.name) ≡ false → (n : ℕ) → contains nat_eq new.names n ≡ cond (nat_eq m.name n) true (contains nat_eq old.names n)) → new.hidden ≡ old.hidden → AreFound f s made all rest new
    found_added new given items index hidden = go (is_standard m.name || contains nat_eq old.names m.name) refl
      where
        go : (b : Bool) → (is_standard m.name || contains nat_eq old.names m.name) ≡ b → AreFound f s made all rest new
        go true e = found_given new e (given e)
        go false e = found_new new e (items e) (index e) hidden

-- in another frame that is the same
pub found_framed : {f g : Frame} (s : Site) (made : Made) (all rest : Context → List plain.Member) (found : Found) → f ≡ g → AreFound f s made all rest found → AreFound g s made all rest found
found_framed s made all rest found e h = subst (λ (k : Frame). AreFound k s made all rest found) e h

-- ** The constants at their places

take_none : (n : ℕ) → take n (let xs : List Row = [] in xs) ≡ []
take_none zero = refl
take_none (suc n) = refl

past_row : (rows : List Row) (o : ℕ) (d : Row) → length rows ≤ o → slice_index_or rows o d ≡ d
past_row [] zero d h = refl
past_row [] (suc o) d h = refl
past_row (r ∷ rows) zero d h = absurd (omega (arith, h))
past_row (r ∷ rows) (suc o) d h = past_row rows o d (omega (arith, h))

within_or_past : (i n : ℕ) → (i < n) ⊎ (n ≤ i)
within_or_past i n = grind arith

by_test : (p : Place) (r : Row) (rest : List plain.Member) → (if is_constant (row_meaning r) && not (r.name == 0) then record { name = r.name; place = p } ∷ rest else rest) ≡ with_member (constant_by p r) rest
by_test p r rest = go (is_constant (row_meaning r) && not (r.name == 0))
  where
    go : (b : Bool) → (if b then record { name = r.name; place = p } ∷ rest else rest) ≡ with_member (if b then Some (record { name = r.name; place = p }) else None) rest
    go true = refl
    go false = refl

-- one more place
pub left_step : (scope o end : ℕ) (c : Context) → o < end → constants_left scope o end c ≡ with_member (constant_by (at_place scope o) (row_at c.scene.tables (at_place scope o))) (constants_left scope (o + 1) end c)
left_step scope o end c below = go (within_or_past o (length (rows_at c.scene.tables scope)))
  where
    rows : List Row
    rows = rows_at c.scene.tables scope

    row : Row
    row = slice_index_or rows o (row_of 0 0 Broken)

    count : end - o ≡ suc (end - (o + 1))
    count = omega (arith, below)

    go : (o < length (rows_at c.scene.tables scope)) ⊎ (length (rows_at c.scene.tables scope) ≤ o)
        → constants_from scope o (take (end - o) (drop o rows)) ≡ with_member (constant_by (at_place scope o) row) (constants_from scope (o + 1) (take (end - (o + 1)) (drop (o + 1) rows)))
    go (inl within) =
        ap (λ n. constants_from scope o (take n (drop o rows))) count
        ∙ ap (λ (rs : List Row). constants_from scope o (take (suc (end - (o + 1))) rs)) (drop_more rows o (row_of 0 0 Broken) within)
        ∙ by_test (at_place scope o) row (constants_from scope (o + 1) (take (end - (o + 1)) (drop (o + 1) rows)))
    go (inr past) =
        ap (λ (rs : List Row). constants_from scope o (take (end - o) rs)) (drop_all o rows past)
        ∙ ap (constants_from scope o) (take_none (end - o))
        ∙ sym (ap (λ (r : Row). with_member (constant_by (at_place scope o) r) (constants_from scope (o + 1) (take (end - (o + 1)) (drop (o + 1) rows)))) (past_row rows o (row_of 0 0 Broken) past)
        ∙ ap (λ (rs : List Row). constants_from scope (o + 1) (take (end - (o + 1)) rs)) (drop_all (o + 1) rows (omega (arith, past)))
        ∙ ap (constants_from scope (o + 1)) (take_none (end - (o + 1))))

-- none is left at the end
pub left_none : (scope o end : ℕ) (c : Context) → end ≤ o → constants_left scope o end c ≡ []
left_none scope o end c past = let none : end - o ≡ 0 = omega (arith, past) in ap (λ n. constants_from scope o (take n (drop o (rows_at c.scene.tables scope)))) none

-- as many rows as there are, or more
same_front : (n m : ℕ) (rows : List Row) → (n ≡ m) ⊎ ((length rows ≤ n) × (length rows ≤ m)) → take n rows ≡ take m rows
same_front n m rows (inl same) = ap (λ k. take k rows) same
same_front n m rows (inr all) = take_all n rows all.0 ∙ sym (take_all m rows all.1)

-- all are left at the begin, where no row stands behind the greatest ordinal
pub left_all : (of : Place) (count first end : ℕ) (c : Context) → of.ordinal < 2 ^ 32 → first ≡ min (of.ordinal + 1) (2 ^ 32 - 1) → end ≡ min (first + count) (2 ^ 32 - 1) → length (rows_at c.scene.tables of.scope) < 2 ^ 32
    → constants_of c.scene (Some (of, count)) ≡ constants_left of.scope first end c
left_all of count first end c small begin behind few = go (within_or_past (of.ordinal + 1) (2 ^ 32))
  where
    rows : List Row
    rows = rows_at c.scene.tables of.scope

    go : (of.ordinal + 1 < 2 ^ 32) ⊎ (2 ^ 32 ≤ of.ordinal + 1) → constants_of c.scene (Some (of, count)) ≡ constants_left of.scope first end c
    go (inl within) =
        let at : of.ordinal + 1 ≡ first = omega (arith, begin, within) in
        let l = length-drop (of.ordinal + 1) rows in
        let n : (count ≡ end - first) ⊎ ((length (drop (of.ordinal + 1) rows) ≤ count) × (length (drop (of.ordinal + 1) rows) ≤ end - first)) =
        elim (within_or_past (first + count) (2 ^ 32)) as (λ _. (count ≡ end - first) ⊎ ((length (drop (of.ordinal + 1) rows) ≤ count) × (length (drop (of.ordinal + 1) rows) ≤ end - first))) [
          | inl fits ↦ inl (omega (arith, behind, fits, at))
          | inr over ↦ inr (omega (arith, over, at, l, few), omega (arith, behind, over, at, l, few))
        ] in
        ap (constants_from of.scope (of.ordinal + 1)) (same_front count (end - first) (drop (of.ordinal + 1) rows) n)
        ∙ ap (λ k. constants_from of.scope k (take (end - first) (drop k rows))) at
    go (inr last) =
        ap (λ (rs : List Row). constants_from of.scope (of.ordinal + 1) (take count rs)) (drop_all (of.ordinal + 1) rows (omega (arith, last, few)))
        ∙ ap (constants_from of.scope (of.ordinal + 1)) (take_none count)
        ∙ sym (left_none of.scope first end c (omega (arith, begin, behind, last)))

-- the rows of a scope before have ordinals of 32 bits
pub few_rows : {f : Frame} {s : Site} (hand : Hand) (scope : ℕ) → SuitsSite f s → IsFinished f.setting.texts hand.finished → scope < f.setting.fills → length (rows_at (context_of f hand s).scene.tables scope) < 2 ^ 32
few_rows {f} hand scope suits told below =
    let agrees = suits.around.told hand.finished told in
    subst (λ (rows : List Row). length rows < 2 ^ 32) (sym (counted_below f hand scope agrees below)) (agrees.few scope)

-- the rest, told otherwise
pub found_rest : {f : Frame} {s : Site} {made : Made} {all : Context → List plain.Member} (rest more : Context → List plain.Member) {found : Found} → WhereMaking f made (λ hand. rest (context_of f hand s) ≡ more (context_of f hand s))
    → AreFound f s made all rest found → AreFound f s made all more found
found_rest {f} {s} {made} {all} rest more {found} e h =
    record {
      new = h.new;
      names = h.names;
      same = h.same;
      index = h.index;
      told = λ hand in_hand told same. let c = context_of f hand s in
          h.told hand in_hand told same ∙ ap (λ (ms : List plain.Member). map member_view found.members.items ++ new_members c h.names ms) (e hand in_hand told same);
      hides = λ hand in_hand told same. let c = context_of f hand s in
          h.hides hand in_hand told same ∙ ap (λ (ms : List plain.Member). found.hidden || list_any (is_hidden c) ms) (e hand in_hand told same);
    }

-- all, told otherwise
pub found_all : {f : Frame} {s : Site} {made : Made} (all every : Context → List plain.Member) {rest : Context → List plain.Member} {found : Found} → WhereMaking f made (λ hand. all (context_of f hand s) ≡ every (context_of f hand s))
    → AreFound f s made all rest found → AreFound f s made every rest found
found_all {f} {s} {made} all every {rest} {found} e h =
    record {
      new = h.new;
      names = h.names;
      same = h.same;
      index = h.index;
      told = λ hand in_hand told same. let c = context_of f hand s in
          ap (new_members c []) (sym (e hand in_hand told same)) ∙ h.told hand in_hand told same;
      hides = λ hand in_hand told same. let c = context_of f hand s in
          ap (list_any (is_hidden c)) (sym (e hand in_hand told same)) ∙ h.hides hand in_hand told same;
    }

-- one place more
pub place_taken : {f g : Frame} {s : Site} {made : Made} (scope first end o : ℕ) (old new : Found) → g ≡ f → o < end → AreFound f s made (constants_left scope first end) (constants_left scope o end) old
    → ((all rest : Context → List plain.Member) → AreFound g s made all (λ c. with_member (constant_by (at_place scope o) (row_at c.scene.tables (at_place scope o))) (rest c)) old → AreFound g s made all rest new)
    → AreFound f s made (constants_left scope first end) (constants_left scope (o + 1) end) new
place_taken {f} {g} {s} {made} scope first end o old new same below found step =
    let all = constants_left scope first end in
    let next : Context → List plain.Member = (λ c. with_member (constant_by (at_place scope o) (row_at c.scene.tables (at_place scope o))) (constants_left scope (o + 1) end c)) in
    let here : AreFound f s made all next old = found_rest (constants_left scope o end) next (λ hand in_hand told so. left_step scope o end (context_of f hand s) below) found in
    found_framed s made all (constants_left scope (o + 1) end) new same (step all (constants_left scope (o + 1) end) (found_framed s made all next old (sym same) here))

-- nothing at a place
pub place_passed : {f : Frame} {s : Site} {made : Made} {all rest : Context → List plain.Member} (p : Place) (o : Option plain.Member) (old : Found) → o ≡ None → WhereMaking f made (λ hand. o ≡ constant_by p (row_at (context_of f hand s).scene.tables p))
    → AreFound f s made all (λ c. with_member (constant_by p (row_at c.scene.tables p)) (rest c)) old → AreFound f s made all rest old
place_passed {f} {s} {made} {all} {rest} p o old none told found =
    found_rest (λ c. with_member (constant_by p (row_at c.scene.tables p)) (rest c)) rest
    (λ hand in_hand t same. ap (λ (k : Option plain.Member). with_member k (rest (context_of f hand s))) (sym (told hand in_hand t same) ∙ none)) found

-- a constant at a place
pub place_found : {f : Frame} {s : Site} {made : Made} {all rest : Context → List plain.Member} (p : Place) (o : Option plain.Member) (m : plain.Member) (old : Found) → o ≡ Some m → WhereMaking f made (λ hand. o ≡ constant_by p (row_at (context_of f hand s).scene.tables p))
    → AreFound f s made all (λ c. with_member (constant_by p (row_at c.scene.tables p)) (rest c)) old → AreFound f s made all (λ c. m ∷ rest c) old
place_found {f} {s} {made} {all} {rest} p o m old some told found =
    found_rest (λ c. with_member (constant_by p (row_at c.scene.tables p)) (rest c)) (λ c. m ∷ rest c)
    (λ hand in_hand t same. ap (λ (k : Option plain.Member). with_member k (rest (context_of f hand s))) (sym (told hand in_hand t same) ∙ some)) found

-- what is known after the constant at a place is taken
pub taken_at : {f h : Frame} (s : Site) (made : Made) (answer : Result (Ask (Unit {0})) Memory) (p : Place) (o : Option plain.Member) (m : plain.Member) (old new : Found) → h ≡ f → o ≡ Some m
    → WhereMaking f made (λ hand. o ≡ constant_by p (row_at (context_of f hand s).scene.tables p))
    → IfKnown answer (λ v. (all rest : Context → List plain.Member) → AreFound h s made all (λ c. m ∷ rest c) old → AreFound h s made all rest new)
    → IfKnown answer (λ v. (all rest : Context → List plain.Member) → AreFound f s made all (λ c. with_member (constant_by p (row_at c.scene.tables p)) (rest c)) old → AreFound f s made all rest new)
taken_at s made (Ok (Known v)) p o m old new same some told step =
    λ all rest found. found_framed s made all rest new same (step all rest (found_framed s made all (λ c. m ∷ rest c) old (sym same) (place_found p o m old some told found)))
taken_at s made (Ok (DontKnowYet head)) p o m old new same some told step = tt
taken_at s made (Err e) p o m old new same some told step = tt

-- a row that is missing
pub missing_row : (rows : List Row) (o : ℕ) (d : Row) → slice_get rows o ≡ None → slice_index_or rows o d ≡ d
missing_row [] zero d h = refl
missing_row [] (suc o) d h = refl
missing_row (r ∷ rows) zero d h = absurd (cc)
missing_row (r ∷ rows) (suc o) d h = missing_row rows o d h

-- ** The end

too_many_more : (k m n : ℕ) → nat_lt k m ≡ true → m ≤ n → nat_lt k n ≡ true
too_many_more k m n h le = grind (arith, h, le)

-- all are seen
pub seen_all : {f : Frame} {s : Site} {made : Made} {all rest : Context → List plain.Member} {found : Found} → AreFound f s made all rest found → WhereMaking f made (λ hand. rest (context_of f hand s) ≡ []) → AreSeen f s made all found
seen_all {f} {s} {made} {all} {rest} {found} h none =
    record {
      new = h.new;
      told = λ at hand in_hand told same.
          let c = context_of f hand s in
          let new : new_members c [] (all c) ≡ map member_view found.members.items =
          h.told hand in_hand told same ∙ ap (λ (ms : List plain.Member). map member_view found.members.items ++ new_members c h.names ms) (none hand in_hand told same) ∙ append-nil (map member_view found.members.items) in
          let hidden : list_any (is_hidden c) (all c) ≡ found.hidden =
          h.hides hand in_hand told same ∙ ap (λ (ms : List plain.Member). found.hidden || list_any (is_hidden c) ms) (none hand in_hand told same) ∙ or_false found.hidden in
          ap (λ (ms : List plain.Member). brings c at (all c) ms) new ∙ by_hidden c at (list_any (is_hidden c) (all c)) found.hidden (map member_view found.members.items) hidden;
    }
  where
    by_hidden : (c : Context) (at : ℕ) (a b : Bool) (new : List plain.Member) → a ≡ b
        → (if are_too_many c new then record { value = []; rows = []; diags = diag c at too_many_constants ∷ []; answers = [] }
        else record { value = brought_names (unwrap_or c.item 0) (length (own_rows c)) at new; rows = map (brought_row at) new; diags = if a then diag c at declared_twice ∷ [] else []; answers = [] })
        ≡ brings_new c at new b
    by_hidden c at a b new e = ap (λ (t : Bool). brings_new c at new t) e

-- so many are seen that they are too many
pub seen_enough : {f : Frame} {s : Site} {made : Made} {all rest : Context → List plain.Member} {found : Found} → AreFound f s made all rest found → nat_lt MOST_BROUGHT (length s.layout.now.brought + length found.members.items) ≡ true → AreSeen f s made all found
seen_enough {f} {s} {made} {all} {rest} {found} h many =
    record {
      new = h.new;
      told = λ at hand in_hand told same.
          let c = context_of f hand s in
          let more = new_members c h.names (rest c) in
          let count = length-map found.members.items member_view in
          let joined = length-append (map member_view found.members.items) more in
          let new : new_members c [] (all c) ≡ map member_view found.members.items ++ more = h.told hand in_hand told same in
          let over : are_too_many c (map member_view found.members.items) ≡ true =
          too_many_more MOST_BROUGHT (length s.layout.now.brought + length found.members.items) (length s.layout.now.brought + length (map member_view found.members.items)) many (omega (arith, count)) in
          let all_over : are_too_many c (map member_view found.members.items ++ more) ≡ true =
          too_many_more MOST_BROUGHT (length s.layout.now.brought + length found.members.items) (length s.layout.now.brought + length (map member_view found.members.items ++ more)) many (omega (arith, count, joined)) in
          ap (λ (ms : List plain.Member). brings c at (all c) ms) new
          ∙ too_many c at (are_too_many c (map member_view found.members.items ++ more)) _ all_over
          ∙ sym (too_many c at (are_too_many c (map member_view found.members.items)) _ over);
    }
  where
    too_many : (c : Context) (at : ℕ) (b : Bool) (other : Makes (List Named)) → b ≡ true
        → (if b then record { value = []; rows = []; diags = diag c at too_many_constants ∷ []; answers = [] } else other) ≡ record { value = []; rows = []; diags = diag c at too_many_constants ∷ []; answers = [] }
    too_many c at b other e = ap (λ (t : Bool). if t then record { value = []; rows = []; diags = diag c at too_many_constants ∷ []; answers = [] } else other) e

-- those that are seen, told otherwise
pub seen_as : {f : Frame} {s : Site} {made : Made} (all every : Context → List plain.Member) (found : Found) → WhereMaking f made (λ hand. all (context_of f hand s) ≡ every (context_of f hand s)) → AreSeen f s made all found → AreSeen f s made every found
seen_as {f} {s} {made} all every found e h =
    record {
      new = h.new;
      told = λ at hand in_hand told same. let c = context_of f hand s in ap (λ (ms : List plain.Member). brought_by c at ms) (sym (e hand in_hand told same)) ∙ h.told at hand in_hand told same;
    }

pub seen_framed : {f g : Frame} (s : Site) (made : Made) (all : Context → List plain.Member) (found : Found) → f ≡ g → AreSeen f s made all found → AreSeen g s made all found
seen_framed s made all found e h = subst (λ (k : Frame). AreSeen k s made all found) e h

-- where they are known, in another frame that is the same
pub seen_known : {f h : Frame} (s : Site) (made : Made) (answer : Result (Ask Found) Memory) (all every : Context → List plain.Member) → h ≡ f → WhereMaking f made (λ hand. all (context_of f hand s) ≡ every (context_of f hand s))
    → IfKnown answer (λ found. AreSeen h s made all found) → IfKnown answer (λ found. AreSeen f s made every found)
seen_known s made (Ok (Known found)) all every same e seen = seen_as all every found e (seen_framed s made all found same seen)
seen_known s made (Ok (DontKnowYet head)) all every same e seen = tt
seen_known s made (Err m) all every same e seen = tt
