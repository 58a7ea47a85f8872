-- Pieces of one row.
use Rattle.std.specs.Prelude.{◌≡◌, ◌≢◌, ◌⊎◌, ℕ, Bool, true, false, if◌then◌else◌, ◌<◌, ◌≤◌, ◌==◌, ◌^◌, List, [], ◌∷◌, ◌++◌, length, Result, Ok, Err}
use Rattle.std.proofs.Common.{refl, sym, ap, ◌∙◌, subst, arith, inl, inr}
use Rattle.std.proofs.lemmas.List.{length-append}
use Rattle.std.specs.Result.{IfOk}
use Rattle.m2_base.specs.Finished.{IsFinished}
use Rattle.m2_base.specs.Lists.{IsPrefixOf}
use Rattle.m2_base.specs.Names.{standard_names}
use Rattle.m2_base.specs.Standard.{is_standard}
use Rattle.m2_base.specs.Rows.{Fits, HasSmallOrdinals, IsBefore, IsSmallScope, at_place, row_of}
use Rattle.m2_base.specs.States.{Frame, State}
use Rattle.m2_base.specs.Statics.Contexts.{Context}
use Rattle.m2_base.specs.Statics.FormedRows.{IsFilled}
use Rattle.m2_base.specs.Statics.Contexts.{Layout}
use Rattle.m2_base.specs.Statics.Lookup.{first_entry}
use Rattle.m2_base.specs.Statics.Makes.{Makes, makes_named, makes_row}
use Rattle.m2_base.specs.Statics.Shapes.{Shape, named, nameless}
use Rattle.m2_base.specs.declared.memory.Memory.{Memory}
use Rattle.m2_base.specs.declared.notes.Notes.{Notes}
use Rattle.m2_base.specs.declared.replies.Ask.TheVariants.{Known}
use Rattle.m2_base.specs.declared.rows.Place.{Place}
use Rattle.m2_base.specs.declared.rows.Row.{Row}
use Rattle.m2_base.specs.declared.rows.RowMeaning.{RowMeaning}
use Rattle.m2_base.specs.declared.sites.Site.{Site}
use Rattle.m2_base.proofs.Kept.{IsPrefixOf-refl, Works-notes}
use Rattle.m2_base.proofs.RowLaws.{row_meaning-row_of}
use Rattle.m2_base.specs.declared.sites.Named.{Named}
use Rattle.m2_base.specs.declared.trees.Ident.{Ident}
use Rattle.type_rules.specs.Sites.{context_of}
use Rattle.type_rules.specs.Scenes.{Hand}
use Rattle.decl_sem.specs.LaidRows.{IsLaid, is_of, kept_name, more_laid, none_laid}
use Rattle.decl_sem.specs.Making.{IsInHand, IsNext, MakesAll, next_ordinal}
use Rattle.decl_sem.specs.Pieces.{Declares, IsBehind, IsMaking, IsNewMeaning, IsNewRow, IsOwned, WhereMaking, item_end, kind_number, known_of}
use Rattle.decl_sem.specs.declared.making.Made.{Made}
use Rattle.decl_sem.proofs.Hands.{hand_is, hand_next}
use Rattle.decl_sem.proofs.Pieces.{next_on}

-- ** Places

same_or_not : (m n : ℕ) → (m ≡ n) ⊎ (m ≢ n)
same_or_not m n = go (m == n) refl
  where
    go : (b : Bool) → (m == n) ≡ b → (m ≡ n) ⊎ (m ≢ n)
    go true e = inl (grind (arith, e))
    go false e = inr (λ k. let h : (m == n) ≡ true = grind (arith, k) in let bad : true ≡ false = sym h ∙ e in absurd (cc))

-- a type before a row, in a scope that numbers can name
pub small_scope : {f : Frame} {s : Site} {x : Made} {ss : List Shape} {next : ℕ} {p : Place} → IsMaking f s x ss → IsBehind f next p → IsSmallScope p
small_scope making h = let a = making.small in let b = h.scope in omega arith

pub before_next : {f : Frame} {next : ℕ} {p : Place} → IsBehind f next p → IsBefore p (at_place f.setting.fills next)
before_next {f} {next} {p} h = go (same_or_not p.scope f.setting.fills)
  where
    go : (p.scope ≡ f.setting.fills) ⊎ (p.scope ≢ f.setting.fills) → IsBefore p (at_place f.setting.fills next)
    go (inl e) = let b = h.before e in omega arith
    go (inr n) = let a = h.scope in let small = h.small in omega (arith, a, n, small)

pub behind_more : {f : Frame} {m n : ℕ} {p : Place} → m ≤ n → IsBehind f m p → IsBehind f n p
behind_more h b = record { small = b.small; scope = b.scope; before = λ e. let k = b.before e in omega (arith, h, k) }

-- ** The row

pub new_row : (f : Frame) (s : Site) (o name at : ℕ) (m : RowMeaning) → name < length f.setting.texts.names → IsNewMeaning f s o m → IsNewRow f (item_end s) o (row_of name at m)
new_row f s o name at m named h =
    let e = row_meaning-row_of name at m h.small in
    record {
      right = record {
        formed = record { named = named; written = ap (row_of name at) e; fits = subst (Fits (length f.setting.texts.names) (at_place f.setting.fills o)) (sym e) h.fits };
        small = subst HasSmallOrdinals (sym e) h.small;
        cells = subst IsFilled (sym e) h.filled;
      };
      owned = subst (IsOwned (item_end s)) (sym e) h.owned;
    }

standard_count : length standard_names ≡ 28
unfolding standard_names
standard_count = refl

pub some_names : {f : Frame} {s : Site} {x : Made} {ss : List Shape} → IsMaking f s x ss → 0 < length f.setting.texts.names
some_names {f} making =
    let p = making.suits.around.standard in
    let e = ap length p.joined in
    let l = length-append standard_names p.rest in
    let n = standard_count in
    omega arith

same_zero : (b : Bool) (n : ℕ) → n ≡ (if b then n else n)
same_zero true n = refl
same_zero false n = refl

nameless_kept : (layout : Layout) (o : ℕ) → kept_name layout o 0 ≡ 0
nameless_kept layout o = sym (same_zero (is_of o (first_entry layout 0)) 0)

-- a piece of one row, of any outcome
pub one_piece : {s : Site} {x y : Made} (shape : Shape) (row : Row) (g : Context → Makes Place) (result : Result Place Memory) (a : State)
    → IfOk result (λ place. WhereMaking a.frame x (λ hand. MakesAll x y (g (context_of a.frame hand s)) place))
    → IfOk result (λ place. y.rows.items ≡ x.rows.items ++ row ∷ [])
    → IfOk result (λ place. place ≡ at_place s.around.now.scope (next_ordinal x))
    → y.notes.answers.items ≡ x.notes.answers.items → IsPrefixOf x.notes.diags.items y.notes.diags.items → y.first ≡ x.first
    → IsMaking a.frame s x (shape ∷ []) → IsLaid s.layout.now (next_ordinal x) shape row → IsNewRow a.frame (item_end s) (next_ordinal x) row
    → Declares a a x y s (known_of result) (shape ∷ []) IsBehind g
one_piece {s} {x} {y} shape row g (Ok place) a made rows is answers diags first making laid new =
    record {
      works = Works-notes a x.notes y.notes answers diags;
      waits = tt;
      first = first;
      grown = record { rows = row ∷ []; more = rows; laid = more_laid laid none_laid; new = (new, tt) };
      told = made;
      there = subst (λ (p : Place). IsBehind a.frame (next_ordinal y) p) (sym is)
          (record {
            small = let r = making.room in let b = making.few in omega arith;
            scope = let e = making.suits.around.fills in omega arith;
            before = λ e. let l = length-append x.rows.items (row ∷ []) in let n = ap length rows in omega arith;
          });
    }
one_piece {s} {x} {y} shape row g (Err m) a made rows is answers diags first making laid new =
    record { works = Works-notes a x.notes y.notes answers diags; waits = tt; first = first; grown = tt; told = λ hand in_hand told same. tt; there = tt }

pub at_context : (s : Site) (x y : Made) (g : Context → Makes Place) (result : Result Place Memory) (f : Frame) → ((hand : Hand) → hand.rows ≡ x.rows.items → IsFinished f.setting.texts hand.finished → IfOk result (λ place. MakesAll x y (g (context_of f hand s)) place))
    → IfOk result (λ place. WhereMaking f x (λ hand. MakesAll x y (g (context_of f hand s)) place))
at_context s x y g (Ok place) f h = λ hand in_hand told same. h hand same told
at_context s x y g (Err m) f h = tt

-- a row without a name
pub row_piece : {s : Site} {x y : Made} (at : ℕ) (m : RowMeaning) (result : Result Place Memory)
    → IfOk result (λ place. (c : Context) → IsInHand c s x → MakesAll x y (makes_row c at m) place)
    → IfOk result (λ place. y.rows.items ≡ x.rows.items ++ row_of 0 at m ∷ [])
    → IfOk result (λ place. place ≡ at_place s.around.now.scope (next_ordinal x))
    → y.notes ≡ x.notes → y.first ≡ x.first
    → (a : State) → IsMaking a.frame s x (nameless (kind_number m) at ∷ []) → IsNewMeaning a.frame s (next_ordinal x) m
    → Declares a a x y s (known_of result) (nameless (kind_number m) at ∷ []) IsBehind (λ c. makes_row c at m)
row_piece {s} {x} {y} at m result made rows is notes first a making h =
    one_piece (nameless (kind_number m) at) (row_of 0 at m) (λ c. makes_row c at m) result a
    (at_context s x y (λ c. makes_row c at m) result a.frame (λ hand same told. at_hand result made hand same told)) rows is
    (ap (λ (n : Notes). n.answers.items) notes) (subst (λ (n : Notes). IsPrefixOf x.notes.diags.items n.diags.items) (sym notes) (IsPrefixOf-refl x.notes.diags.items)) first making
    (record { kind = refl; at = refl; name = sym (nameless_kept s.layout.now (next_ordinal x)) })
    (new_row a.frame s (next_ordinal x) 0 at m (some_names making) h)
  where
    at_hand : (r : Result Place Memory) → IfOk r (λ place. (c : Context) → IsInHand c s x → MakesAll x y (makes_row c at m) place) → (hand : Hand) → hand.rows ≡ x.rows.items → IsFinished a.frame.setting.texts hand.finished
        → IfOk r (λ place. MakesAll x y (makes_row (context_of a.frame hand s) at m) place)
    at_hand (Ok place) f hand same told = f (context_of a.frame hand s) (hand_is making hand same told)
    at_hand (Err e) f hand same told = tt

kept_small : (layout : Layout) (o name count : ℕ) → name < count → kept_name layout o name < count
kept_small layout o name count h = go (is_standard name) (is_of o (first_entry layout name))
  where
    go : (a b : Bool) → (if a then 0 else if b then name else 0) < count
    go true b = omega (arith, h)
    go false true = h
    go false false = omega (arith, h)

-- a row with a name
pub named_piece : {s : Site} {x y : Made} (i : Ident) (m : RowMeaning) (result : Result Place Memory)
    → IfOk result (λ place. (c : Context) → IsInHand c s x → IsNext c i.name → MakesAll x y (makes_named c i.name i.at m) place)
    → IfOk result (λ place. y.rows.items ≡ x.rows.items ++ row_of (kept_name s.layout.now (next_ordinal x) i.name) i.at m ∷ [])
    → IfOk result (λ place. place ≡ at_place s.around.now.scope (next_ordinal x))
    → y.notes.answers.items ≡ x.notes.answers.items → IsPrefixOf x.notes.diags.items y.notes.diags.items → y.first ≡ x.first
    → (a : State) → IsMaking a.frame s x (named (kind_number m) i ∷ []) → i.name ≢ 0 → i.name < length a.frame.setting.texts.names → IsNewMeaning a.frame s (next_ordinal x) m
    → Declares a a x y s (known_of result) (named (kind_number m) i ∷ []) IsBehind (λ c. makes_named c i.name i.at m)
named_piece {s} {x} {y} i m result made rows is answers diags first a making some known h =
    one_piece (named (kind_number m) i) (row_of (kept_name s.layout.now (next_ordinal x) i.name) i.at m) (λ c. makes_named c i.name i.at m) result a
    (at_context s x y (λ c. makes_named c i.name i.at m) result a.frame (λ hand same told. at_hand result made hand same told)) rows is answers diags first making
    (record { kind = refl; at = refl; name = refl })
    (new_row a.frame s (next_ordinal x) (kept_name s.layout.now (next_ordinal x) i.name) i.at m (kept_small s.layout.now (next_ordinal x) i.name (length a.frame.setting.texts.names) known) h)
  where
    at_hand : (r : Result Place Memory) → IfOk r (λ place. (c : Context) → IsInHand c s x → IsNext c i.name → MakesAll x y (makes_named c i.name i.at m) place) → (hand : Hand) → hand.rows ≡ x.rows.items → IsFinished a.frame.setting.texts hand.finished
        → IfOk r (λ place. MakesAll x y (makes_named (context_of a.frame hand s) i.name i.at m) place)
    at_hand (Ok place) f hand same told = f (context_of a.frame hand s) (hand_is making hand same told) (hand_next making some hand same told)
    at_hand (Err e) f hand same told = tt

-- there is room for a row
pub room_for_row : {f : Frame} {s : Site} {x : Made} {shape : Shape} {ss : List Shape} → IsMaking f s x (shape ∷ ss) → next_ordinal x < 2 ^ 32
room_for_row making = let a = making.room in let b = making.few in omega arith

-- and after a piece without rows
pub room_for_any : {T : Type 0} {a b : State} {s : Site} {x y : Made} {ss : List Shape} {P : Frame → ℕ → T → Type 0} {g : Context → Makes T} {v : T} → IsMaking a.frame s x ss → Declares a b x y s (Ok (Known v)) [] P g → next_ordinal x < 2 ^ 32 → next_ordinal y < 2 ^ 32
room_for_any making p h = let e = next_on p.first p.grown in omega arith

-- a row that comes after others has room for them
pub room_before_row : {f : Frame} {s : Site} {x : Made} (ss : List Shape) (shape : Shape) → IsMaking f s x (ss ++ shape ∷ []) → next_ordinal x < 2 ^ 32
room_before_row ss shape making = let l = length-append ss (shape ∷ []) in let a = making.room in let b = making.few in omega arith
