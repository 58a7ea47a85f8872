-- The rows in hand, as the definitions see them.
use Rattle.std.specs.Prelude.{◌≡◌, ◌≢◌, ℕ, zero, suc, ◌+◌, ◌<◌, ◌==◌, Bool, true, false, if◌then◌else◌, List, [], ◌∷◌, ◌++◌, length, take, slice_set, slice_index_or, Option, None, Some}
use Rattle.std.proofs.Common.{refl, sym, ap, ◌∙◌, subst, arith}
use Rattle.std.proofs.lemmas.List.{append_assoc, append-nil, length-append}
use Rattle.std.specs.Option.{IfSome}
use Rattle.m2_base.specs.Finished.{IsFinished}
use Rattle.m2_base.specs.Lists.{Each}
use Rattle.m2_base.specs.Rows.{row_meaning}
use Rattle.m2_base.specs.Standard.{is_standard}
use Rattle.m2_base.specs.States.{Frame}
use Rattle.m2_base.specs.Statics.Contexts.{Layout}
use Rattle.m2_base.specs.Statics.Lookup.{first_entry}
use Rattle.m2_base.specs.Statics.Makes.{own_rows, with_rows}
use Rattle.m2_base.specs.Statics.Shapes.{Shape}
use Rattle.m2_base.specs.Tables.{first_named, rows_at}
use Rattle.m2_base.specs.declared.rows.Row.{Row}
use Rattle.m2_base.specs.declared.sites.Named.{Named}
use Rattle.m2_base.specs.declared.sites.Site.{Site}
use Rattle.type_rules.specs.Scenes.{AreInHand, Hand, NamesNoType, rows_of}
use Rattle.type_rules.specs.Sites.{AreOfItem, AreOfSite, SuitsSite, context_of}
use Rattle.decl_sem.specs.LaidRows.{AreLaid, none_laid, more_laid, IsAhead, is_of, kept_name}
use Rattle.decl_sem.specs.Making.{IsInHand, IsNext}
use Rattle.decl_sem.specs.Pieces.{IsMaking, holding}
use Rattle.decl_sem.specs.declared.making.Made.{Made}
use Rattle.decl_sem.proofs.FirstNames.{known_before}

-- ** The own scope's rows

at_last : {A : Type 0} (xs : List A) (n : ℕ) (x d : A) → length xs ≡ n → slice_index_or (xs ++ x ∷ []) n d ≡ x
at_last [] zero x d e = refl
at_last [] (suc n) x d e = absurd (omega (arith, e))
at_last (y ∷ xs) zero x d e = absurd (omega (arith, e))
at_last (y ∷ xs) (suc n) x d e = at_last xs n x d (omega (arith, e))

set_last : {A : Type 0} (xs : List A) (n : ℕ) (x y : A) → length xs ≡ n → slice_set (xs ++ x ∷ []) n y ≡ xs ++ y ∷ []
set_last [] zero x y e = refl
set_last [] (suc n) x y e = absurd (omega (arith, e))
set_last (z ∷ xs) zero x y e = absurd (omega (arith, e))
set_last (z ∷ xs) (suc n) x y e = ap (λ t. z ∷ t) (set_last xs n x y (omega (arith, e)))

length-taken : {A : Type 0} (xs : List A) (n : ℕ) → n < length xs → length (take n xs) ≡ n
length-taken [] n h = absurd (omega (arith, h))
length-taken (x ∷ xs) zero h = refl
length-taken (x ∷ xs) (suc n) h = ap suc (length-taken xs n (omega (arith, h)))

scopes_before : {f : Frame} {s : Site} (hand : Hand) → SuitsSite f s → IsFinished f.setting.texts hand.finished → length (take f.setting.fills hand.finished) ≡ f.setting.fills
scopes_before {f} hand suits told = length-taken hand.finished f.setting.fills (suits.around.told hand.finished told).scopes

own_at : (tables : List (List Row)) (scope n : ℕ) (own : List Row) → length tables ≡ n → scope ≡ n → rows_at (tables ++ own ∷ []) scope ≡ own
own_at tables scope n own e h = at_last tables scope own [] (e ∙ sym h)

-- the own rows are those entered and then those in hand
pub own_are : {f : Frame} {s : Site} (hand : Hand) → SuitsSite f s → IsFinished f.setting.texts hand.finished → own_rows (context_of f hand s) ≡ f.entered ++ hand.rows
own_are {f = f} {s = s} hand suits told = own_at (take f.setting.fills hand.finished) s.around.now.scope f.setting.fills (f.entered ++ hand.rows) (scopes_before hand suits told) suits.around.fills

-- more rows in hand
pub hand_with : {f : Frame} {s : Site} (hand : Hand) (more : List Row) → SuitsSite f s → IsFinished f.setting.texts hand.finished → with_rows (context_of f hand s) more ≡ context_of f (holding hand more) s
hand_with {f} {s} hand more suits told =
    let before = take f.setting.fills hand.finished in
    let e : slice_set (rows_of f hand) s.around.now.scope (own_rows (context_of f hand s) ++ more) ≡ rows_of f (holding hand more) =
    ap (λ (own : List Row). slice_set (rows_of f hand) s.around.now.scope (own ++ more)) (own_are hand suits told)
    ∙ set_last before s.around.now.scope (f.entered ++ hand.rows) ((f.entered ++ hand.rows) ++ more) (scopes_before hand suits told ∙ sym suits.around.fills)
    ∙ ap (λ (own : List Row). before ++ own ∷ []) (append_assoc f.entered hand.rows more) in
    let c = context_of f hand s in
    ap (λ (tables : List (List Row)). record { source = c.source; scene = record { block = c.scene.block; tables = tables }; layout = c.layout; item = c.item }) e

pub hand_none : {f : Frame} {s : Site} (hand : Hand) → SuitsSite f s → IsFinished f.setting.texts hand.finished → with_rows (context_of f hand s) [] ≡ context_of f hand s
hand_none {f} {s} hand suits told = hand_with hand [] suits told ∙ ap (λ (rows : List Row). context_of f (record { finished = hand.finished; rows = rows }) s) (append-nil hand.rows)

-- ** Rows in hand, while an item's are made

module _ {f : Frame} {s : Site} {made : Made} {shapes : List Shape} (making : IsMaking f s made shapes) where
  pub in_hand : (hand : Hand) → hand.rows ≡ made.rows.items → AreInHand f hand
  in_hand hand same = record { closed = λ e. absurd (let h : true ≡ false = sym e ∙ making.begun in cc); types = subst (λ (rows : List Row). Each (λ r. NamesNoType (row_meaning r)) rows) (sym same) making.types }

  -- the context is that of the item in hand
  pub hand_is : (hand : Hand) → hand.rows ≡ made.rows.items → IsFinished f.setting.texts hand.finished → IsInHand (context_of f hand s) s made
  hand_is hand same told =
      let own = own_are {f = f} {s = s} hand making.suits told in
      record {
        scope = refl;
        exists = let n = scopes_before hand making.suits told in
            let l = length-append (take f.setting.fills hand.finished) ((f.entered ++ hand.rows) ∷ []) in
            let e = making.suits.around.fills in omega (arith, n, l, e);
        text = refl;
        layout = refl;
        count = let n = ap length own in
            let l = length-append f.entered hand.rows in
            let k = ap length same in
            let e = making.count in omega (arith, n, l, k, e);
      }

  -- the shapes are ahead there
  pub hand_ahead : (hand : Hand) → hand.rows ≡ made.rows.items → IsFinished f.setting.texts hand.finished → IsAhead s.layout.now (own_rows (context_of f hand s)) shapes
  hand_ahead hand same told =
      subst (λ (own : List Row). IsAhead s.layout.now own shapes) (ap (λ (rows : List Row). f.entered ++ rows) (sym same) ∙ sym (own_are {f = f} {s = s} hand making.suits told)) making.ahead

-- a name that is next
pub hand_next : {f : Frame} {s : Site} {made : Made} {shape : Shape} {shapes : List Shape} → IsMaking f s made (shape ∷ shapes) → shape.name ≢ 0 → (hand : Hand) → hand.rows ≡ made.rows.items → IsFinished f.setting.texts hand.finished
    → IsNext (context_of f hand s) shape.name
hand_next {f} {s} {made} {shape} {shapes} making some hand same told plain =
    known_before s.layout.now (own_rows (context_of f hand s)) shape shapes some plain (hand_ahead making hand same told)

-- ** Names of rows in hand

laid_behind : {layout : Layout} (xs ys : List Row) (o : ℕ) {ss : List Shape} → AreLaid layout o ss (xs ++ ys) → (ts : List Shape) × AreLaid layout (o + length xs) ts ys
laid_behind {layout} [] ys o {ss} h = (ss, subst (λ n. AreLaid layout n ss ys) (let e : o ≡ o + 0 = omega arith in e) h)
laid_behind {layout} (x ∷ xs) ys o (more_laid l more) =
    let (ts, rest) = laid_behind xs ys (o + 1) more in
    (ts, subst (λ n. AreLaid layout n ts ys) (let e : o + 1 + length xs ≡ o + suc (length xs) = omega arith in e) rest)

other_name : (layout : Layout) (o name other : ℕ) (e : Named) → name ≢ 0 → first_entry layout name ≡ Some e → e.ordinal < o → (kept_name layout o other == name) ≡ false
other_name layout o name other e some entry h = go (is_standard other) (is_of o (first_entry layout other)) (other == name) refl refl
  where
    go : (a b d : Bool) → is_of o (first_entry layout other) ≡ b → (other == name) ≡ d → ((if a then 0 else if b then other else 0) == name) ≡ false
    go true b d p q = grind arith
    go false false d p q = grind arith
    go false true false p q = q
    go false true true p q =
        let same : other ≡ name = grind (arith, q) in
        let is : is_of o (first_entry layout name) ≡ true = ap (λ (n : ℕ). is_of o (first_entry layout n)) (sym same) ∙ p in
        let here : (e.ordinal == o) ≡ true = ap (is_of o) (sym entry) ∙ is in
        let at : e.ordinal ≡ o = grind (arith, here) in
        absurd (omega (arith, at, h))

lacking : {layout : Layout} (name : ℕ) (e : Named) → name ≢ 0 → first_entry layout name ≡ Some e → (o k : ℕ) {ss : List Shape} {rows : List Row} → AreLaid layout o ss rows → e.ordinal < o → first_named name rows k ≡ None
lacking name e some entry o k none_laid h = refl
lacking {layout} name e some entry o k (more_laid {s = s} {r = r} {rs = rs} l more) h =
    let other : (r.name == name) ≡ false = ap (λ m. m == name) l.name ∙ other_name layout o name s.name e some entry h in
    ap (λ (b : Bool). if b then Some (k, r) else first_named name rs (k + 1)) other ∙ lacking name e some entry (o + 1) (k + 1) more (omega (arith, h))

-- none has a name that the layout first gives to an earlier item
pub of_this_site : {f : Frame} {s : Site} {made : Made} {shapes : List Shape} → IsMaking f s made shapes → (hand : Hand) → hand.rows ≡ made.rows.items → AreOfSite s hand
of_this_site {f} {s} {made} {shapes} making hand same =
    subst (λ (o : Option ℕ). IfSome o (λ item. AreOfItem s.layout.now item hand.rows)) (sym making.of_item)
    (subst (λ (rows : List Row). AreOfItem s.layout.now making.item rows) (sym same) of)
  where
    of : AreOfItem s.layout.now making.item made.rows.items
    of = record {
      lack = λ name e some entry before.
          let (ts, laid) = laid_behind f.entered made.rows.items 0 making.ahead.laid in
          let h = making.begins.before name e some entry before in
          let n = making.count in
          lacking name e some entry (0 + length f.entered) 0 laid (omega (arith, h, n));
    }
