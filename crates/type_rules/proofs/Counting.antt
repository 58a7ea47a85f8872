-- The rows that count, with those in hand.
use Rattle.std.proofs.Common.{◌≡◌, ◌⊎◌, inl, inr, ℕ, zero, suc, ◌<◌, ◌≤◌, true, List, [], ◌∷◌, ◌++◌, Some, None, length, take, refl, sym, ◌∙◌, ap, subst, arith, get_or}
use Rattle.std.specs.Prelude.{slice_index_or, slice_get}
use Rattle.std.proofs.Math.ListN.{get_or-append, get_or-eq_default}
use Rattle.std.proofs.lemmas.List.{append-nil}
use Rattle.std.proofs.lemmas.Option.{get_or_from_slice_get, slice_get_within}
use Rattle.m2_base.specs.Finished.{IsFinished}
use Rattle.m2_base.specs.Rows.{row_of}
use Rattle.m2_base.specs.Scopes.{Fetched}
use Rattle.m2_base.specs.States.{State, Frame, texts_of}
use Rattle.m2_base.specs.Statics.Contexts.{row_at}
use Rattle.m2_base.specs.Tables.{rows_at}
use Rattle.m2_base.specs.declared.replies.Ask.TheVariants.{Known}
use Rattle.m2_base.specs.declared.rows.Place.{Place}
use Rattle.m2_base.specs.declared.rows.Row.{Row}
use Rattle.m2_base.specs.declared.rows.RowMeaning.TheVariants.{Broken}
use Rattle.m2_base.specs.declared.sites.Around.{Around}
use Rattle.type_rules.specs.Asks.{Reads}
use Rattle.type_rules.specs.Scenes.{Agrees, AreInHand, Hand, IsThere, Suits, hand, rows_of}

-- ** Rows in hand

-- none
pub none_in_hand : (f : Frame) (finished : List (List Row)) → AreInHand f (hand finished [])
none_in_hand f finished = record { closed = λ closed. refl; types = tt }

-- after a question they are what they were
pub still_in_hand : {a b : State} {made : Hand} → Reads a b → AreInHand a.frame made → AreInHand b.frame made
still_in_hand {a} {b} {made} reads in_hand = subst (λ (f : Frame). AreInHand f made) (sym reads.keeps.frame) in_hand

-- ** Rows that count

rows_below : (tables : List (List Row)) (own : List Row) (n s : ℕ) → s < n → n < length tables → slice_index_or (take n tables ++ own ∷ []) s [] ≡ slice_index_or tables s []
rows_below [] own n s below there = absurd (omega (arith, there))
rows_below (x ∷ tables) own zero s below there = absurd (omega (arith, below))
rows_below (x ∷ tables) own (suc n) zero below there = refl
rows_below (x ∷ tables) own (suc n) (suc s) below there = rows_below tables own n s (omega (arith, below)) (omega (arith, there))

rows_here : (tables : List (List Row)) (own : List Row) (n : ℕ) → n < length tables → slice_index_or (take n tables ++ own ∷ []) n [] ≡ own
rows_here [] own n there = absurd (omega (arith, there))
rows_here (x ∷ tables) own zero there = refl
rows_here (x ∷ tables) own (suc n) there = rows_here tables own n (omega (arith, there))

pub below_or_same : (a b : ℕ) → a ≤ b → (a < b) ⊎ (a ≡ b)
below_or_same a b h = grind arith

-- the rows of a scope before the own one are the finished ones
pub counted_below : (f : Frame) (made : Hand) (s : ℕ) → Agrees f made.finished → s < f.setting.fills → rows_at (rows_of f made) s ≡ rows_at made.finished s
counted_below f made s agrees below = rows_below made.finished (f.entered ++ made.rows) f.setting.fills s below agrees.scopes

-- those of the own one are entered, or in hand
pub counted_own : (f : Frame) (made : Hand) → Agrees f made.finished → rows_at (rows_of f made) f.setting.fills ≡ f.entered ++ made.rows
counted_own f made agrees = rows_here made.finished (f.entered ++ made.rows) f.setting.fills agrees.scopes

-- of a complete scope all are entered
pub counted_closed : (f : Frame) (made : Hand) → Agrees f made.finished → AreInHand f made → f.closed ≡ true → rows_at (rows_of f made) f.setting.fills ≡ f.entered
counted_closed f made agrees in_hand closed = counted_own f made agrees ∙ ap (λ rows. f.entered ++ rows) (in_hand.closed closed) ∙ append-nil f.entered

-- ** The row at a place, which is entered or of a complete scope

module _ (old new : State) (a : Around) (p : Place) (made : Hand) (suits : Suits old.frame a) (there : IsThere old.frame p) (in_hand : AreInHand old.frame made) where
  pub row_read : (r : Row) → Fetched old new p (Known (Some r)) → IsFinished (texts_of old) made.finished → r ≡ row_at (rows_of old.frame made) p
  row_read r fetched told =
      let f = old.frame in
      let agrees = suits.told made.finished told in
      let d : Row = row_of 0 0 Broken in
      elim (below_or_same p.scope f.setting.fills there.scope) as (λ _. r ≡ row_at (rows_of f made) p) [
        | inl below ↦ sym (
            ap (λ rows. get_or rows p.ordinal d) (counted_below f made p.scope agrees below)
            ∙ get_or_from_slice_get (rows_at made.finished p.scope) p.ordinal r d (fetched.says.told made.finished told))
        | inr same ↦ (
            let entered : slice_get f.entered p.ordinal ≡ Some r =
            subst (λ (g : Frame). slice_get g.entered p.ordinal ≡ Some r) fetched.keeps.frame
            (fetched.says.shown.own (same ∙ ap (λ (g : Frame). g.setting.fills) (sym fetched.keeps.frame))) in
            sym (
            ap (λ s. get_or (rows_at (rows_of f made) s) p.ordinal d) same
            ∙ ap (λ rows. get_or rows p.ordinal d) (counted_own f made agrees)
            ∙ get_or-append f.entered made.rows d p.ordinal (slice_get_within f.entered p.ordinal r entered)
            ∙ get_or_from_slice_get f.entered p.ordinal r d entered))
      ]

  pub row_past : Fetched old new p (Known None) → IsFinished (texts_of old) made.finished → row_of 0 0 Broken ≡ row_at (rows_of old.frame made) p
  row_past fetched told =
      let f = old.frame in
      let agrees = suits.told made.finished told in
      let d : Row = row_of 0 0 Broken in
      elim (below_or_same p.scope f.setting.fills there.scope) as (λ _. d ≡ row_at (rows_of f made) p) [
        | inl below ↦ sym (
            ap (λ rows. get_or rows p.ordinal d) (counted_below f made p.scope agrees below)
            ∙ get_or-eq_default (rows_at made.finished p.scope) d (fetched.says.told made.finished told))
        | inr same ↦ (
            let past : (f.closed ≡ true) × (length f.entered ≤ p.ordinal) =
            subst (λ (g : Frame). (g.closed ≡ true) × (length g.entered ≤ p.ordinal)) fetched.keeps.frame
            (fetched.says.own (same ∙ ap (λ (g : Frame). g.setting.fills) (sym fetched.keeps.frame))) in
            sym (
            ap (λ s. get_or (rows_at (rows_of f made) s) p.ordinal d) same
            ∙ ap (λ rows. get_or rows p.ordinal d) (counted_closed f made agrees in_hand past.0)
            ∙ get_or-eq_default f.entered d past.1))
      ]
