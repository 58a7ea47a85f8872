-- Answers that rest on others.
use Rattle.std.proofs.Common.{◌≡◌, ◌∙◌, Bool, true, false, ◌&&◌, ◌||◌, ◌==◌, not, refl, sym, ap, subst}
use Rattle.std.proofs.lemmas.Bool.{eq-eqb, eqb-true, true≢false}
use Rattle.m2_base.specs.Rows.{is_same_place}
use Rattle.m2_base.specs.Standard.{character, nil_type, whole}
use Rattle.m2_base.specs.States.{Frame}
use Rattle.m2_base.specs.Statics.Compatible.{are_compatible_bases, is_compatible, is_integer_or_cardinal, is_pointer}
use Rattle.m2_base.specs.Statics.Contexts.{Scene}
use Rattle.m2_base.specs.Statics.Operands.{is_string, is_one_char, operand_type}
use Rattle.m2_base.specs.Statics.Types.{base_of}
use Rattle.m2_base.specs.declared.operands.Operand.{Operand}
use Rattle.m2_base.specs.declared.replies.Ask.{Ask}
use Rattle.m2_base.specs.declared.replies.Ask.TheVariants.{DontKnowYet, Known}
use Rattle.m2_base.specs.declared.rows.Place.{Place}
use Rattle.type_rules.specs.Asks.{WhereKnown}
use Rattle.type_rules.specs.Scenes.{Hand, WhereTold}

-- what a later question says, over the frame that it was asked in
pub told_later : (f mid : Frame) (P : Frame → Hand → Type 0) → mid ≡ f → WhereTold mid (P mid) → WhereTold f (P f)
told_later f mid P same says = subst (λ (h : Frame). WhereTold h (P h)) same says

-- The answer of a later question is the answer wanted: `given` is its definition, over the frame that it was asked in.
pub told_as : {T : Type 0} (answer : Ask T) (f mid : Frame) (given : Frame → Hand → T) (value : Hand → T) → mid ≡ f
    → WhereTold mid (λ made. WhereKnown answer (λ x. x ≡ given mid made)) → WhereTold f (λ made. given f made ≡ value made)
    → WhereTold f (λ made. WhereKnown answer (λ x. x ≡ value made))
told_as {T} answer f mid given value same asked is made in_hand told =
    subst (λ (n : T). WhereKnown answer (λ x. x ≡ n)) (is made in_hand told)
    (subst (λ (h : Frame). WhereTold h (λ rows. WhereKnown answer (λ x. x ≡ given h rows))) same asked made in_hand told)

-- what is answered under two conditions is what is wanted under them
pub told_under : {T : Type 0} (answer : Ask T) (A B : Type 0) (given value : T) → WhereKnown answer (λ x. x ≡ given) → (A → B → given ≡ value) → WhereKnown answer (λ x. A → B → x ≡ value)
told_under (Known x) A B given value asked is = λ a b. asked ∙ is a b
told_under (DontKnowYet h) A B given value asked is = tt

-- what a later question says under two conditions, which hold
pub told_met : {T : Type 0} (answer : Ask T) (f mid : Frame) (A B : Frame → Hand → Type 0) (given : Frame → Hand → T) → mid ≡ f
    → WhereTold mid (λ made. WhereKnown answer (λ x. A mid made → B mid made → x ≡ given mid made)) → WhereTold f (A f) → WhereTold f (B f)
    → WhereTold f (λ made. WhereKnown answer (λ x. x ≡ given f made))
told_met (Known x) f mid A B given same asked a b made in_hand told =
    subst (λ (h : Frame). WhereTold h (λ rows. A h rows → B h rows → x ≡ given h rows)) same asked made in_hand told (a made in_hand told) (b made in_hand told)
told_met (DontKnowYet h) f mid A B given same asked a b made in_hand told = tt

-- one of two operands of these bases is a string of one character, and the other a CHAR
abbrev pub beside : Operand → Place → Operand → Place → Bool
beside x l y r = is_one_char x && not (is_string y) && is_same_place r character || (is_one_char y && not (is_string x) && is_same_place l character)

pub compatible_by : (scene : Scene) (x y : Operand) (l r : Place) → l ≡ base_of scene (operand_type x) → r ≡ base_of scene (operand_type y)
    → (beside x l y r || are_compatible_bases scene l r) ≡ is_compatible scene x y
compatible_by scene x y l r left right =
    ap (λ b. beside x b y r || are_compatible_bases scene b r) left
    ∙ ap (λ b. beside x (base_of scene (operand_type x)) y b || are_compatible_bases scene (base_of scene (operand_type x)) b) right

pub compatible_beside : (scene : Scene) (x y : Operand) (l r : Place) → l ≡ base_of scene (operand_type x) → r ≡ base_of scene (operand_type y)
    → beside x l y r ≡ true → true ≡ is_compatible scene x y
compatible_beside scene x y l r left right is =
    sym (ap (λ b. b || are_compatible_bases scene l r) is) ∙ compatible_by scene x y l r left right

pub compatible_bases : (scene : Scene) (x y : Operand) (l r : Place) → l ≡ base_of scene (operand_type x) → r ≡ base_of scene (operand_type y)
    → beside x l y r ≡ false → are_compatible_bases scene l r ≡ is_compatible scene x y
compatible_bases scene x y l r left right is =
    sym (ap (λ b. b || are_compatible_bases scene l r) is) ∙ compatible_by scene x y l r left right

-- ** NIL beside another base

place_is : (p q : Place) → is_same_place p q ≡ true → p ≡ q
place_is p q h = go (p.scope == q.scope) (p.ordinal == q.ordinal) refl refl h
  where
    go : (a b : Bool) → (p.scope == q.scope) ≡ a → (p.ordinal == q.ordinal) ≡ b → (a && b) ≡ true → p ≡ q
    go true true s o both = λ k. record { scope = eqb-true p.scope q.scope s k; ordinal = eqb-true p.ordinal q.ordinal o k }
    go true false s o both = absurd (true≢false (sym both))
    go false b s o both = absurd (true≢false (sym both))

same_itself : (p : Place) → is_same_place p p ≡ true
same_itself p = λ k. eq-eqb p.scope p.scope refl k && eq-eqb p.ordinal p.ordinal refl k

other_way : (p q : Place) → is_same_place p q ≡ false → is_same_place q p ≡ false
other_way p q h = go (is_same_place q p) refl
  where
    go : (b : Bool) → is_same_place q p ≡ b → is_same_place q p ≡ false
    go false e = e
    go true e = absurd (true≢false (sym (same_itself p) ∙ ap (λ r. is_same_place p r) (sym (place_is q p e)) ∙ h))

pub nil_before : (scene : Scene) (x y : Place) → is_same_place x y ≡ false → is_same_place x nil_type ≡ true → is_pointer scene y ≡ are_compatible_bases scene x y
nil_before scene x y differ nil =
    let is : x ≡ nil_type = place_is x nil_type nil in
    let other : is_same_place nil_type y ≡ false = ap (λ t. is_same_place t y) (sym is) ∙ differ in
    go (is_same_place nil_type y) (is_same_place y whole) (is_same_place y nil_type) (is_pointer scene y) other (other_way nil_type y other)
    ∙ ap (λ t. are_compatible_bases scene t y) (sym is)
  where
    go : (a b c d : Bool) → a ≡ false → c ≡ false → d ≡ (a || (false && is_integer_or_cardinal y) || (b && false) || (true && d) || (c && is_pointer scene nil_type))
    go false true false true p q = refl
    go false true false false p q = refl
    go false false false true p q = refl
    go false false false false p q = refl
    go false b true d p q = absurd (true≢false q)
    go true b c d p q = absurd (true≢false p)

pub nil_behind : (scene : Scene) (x y : Place) → is_same_place x y ≡ false → is_same_place y nil_type ≡ true → is_pointer scene x ≡ are_compatible_bases scene x y
nil_behind scene x y differ nil =
    let is : y ≡ nil_type = place_is y nil_type nil in
    let other : is_same_place x nil_type ≡ false = ap (λ t. is_same_place x t) (sym is) ∙ differ in
    go (is_same_place x nil_type) (is_same_place x whole) (is_pointer scene x) other ∙ ap (λ t. are_compatible_bases scene x t) (sym is)
  where
    go : (a b d : Bool) → a ≡ false → d ≡ (a || (b && false) || (false && is_integer_or_cardinal x) || (a && is_pointer scene nil_type) || (true && d))
    go false true true p = refl
    go false true false p = refl
    go false false true p = refl
    go false false false p = refl
    go true b d p = absurd (true≢false p)
