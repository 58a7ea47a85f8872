-- The standard types, where their rows are where they belong, as they are where the texts are told.
use Rattle.std.proofs.Common.{◌≡◌, ◌⊎◌, ◌∙◌, ◌||◌, ◌+◌, ◌-◌, ◌<◌, ◌≤◌, ℕ, zero, suc, ℤ, pos, Bool, true, false, if◌then◌else◌, List, [], ◌∷◌, ◌++◌, length, map, None, refl, ap, sym, subst, arith, inl, inr}
use Rattle.std.specs.Prelude.{slice_index_or}
use Rattle.std.proofs.lemmas.Bool.{true≢false}
use Rattle.m2_base.specs.Lists.{Each}
use Rattle.m2_base.specs.Finished.{IsFinished}
use Rattle.m2_base.specs.Rows.{at_place, is_same_place, natural, row_meaning, row_of}
use Rattle.m2_base.specs.declared.operands.Operand.TheVariants.{Constant, InError, NamedType, StringConstant}
use Rattle.m2_base.specs.declared.rows.Row.{Row}
use Rattle.m2_base.specs.declared.rows.Place.{Place}
use Rattle.m2_base.specs.declared.rows.RowMeaning.{RowMeaning}
use Rattle.m2_base.specs.declared.rows.RowMeaning.TheVariants.{Broken, Cardinal, Character, Const, Enum, Integer, Nil, ProcType, Set, Subrange, Text, TypeName, Whole}
use Rattle.m2_base.specs.Standard.{bit_range, bitset, boolean, broken, cardinal, character, integer, is_standard, named_rows, nil_type, proc_type, standard_meanings, standard_place, standard_rows, text_type, whole}
use Rattle.m2_base.specs.States.{Frame}
use Rattle.m2_base.specs.Statics.Compatible.{is_integer_or_cardinal}
use Rattle.m2_base.specs.Statics.Constants.{in_constant}
use Rattle.m2_base.specs.Statics.Contexts.{Context, row_at}
use Rattle.m2_base.specs.Statics.Lookup.{entry_at}
use Rattle.m2_base.specs.Statics.NamedOperands.{operand_by, operand_of}
use Rattle.m2_base.specs.Statics.Operations.{is_set_kind}
use Rattle.m2_base.specs.Statics.Sets.{set_base, set_base_by}
use Rattle.m2_base.specs.Statics.Types.{base_by, base_of, is_broken, kind_of, meaning_at, range_by, range_of, stands_as, stands_for}
use Rattle.m2_base.specs.Tables.{rows_at}
use Rattle.m2_base.specs.declared.sites.Around.{Around}
use Rattle.m2_base.specs.declared.sites.Site.{Site}
use Rattle.m2_base.proofs.TypeLaws.{same_place-is}
use Rattle.type_rules.specs.Scenes.{Hand, Suits, rows_of, scene_of}
use Rattle.type_rules.specs.Sites.{SuitsSite, context_of}
use Rattle.const_eval.specs.Causes.{HasWholeBase, IsWholeOperand}
use Rattle.const_eval.specs.Standard.{HasStandardRows}
use Rattle.type_rules.proofs.Counting.{counted_below}

standard_at : (f : Frame) (made : Hand) (a : Around) → Suits f a → IsFinished f.setting.texts made.finished → rows_at (rows_of f made) 0 ≡ standard_rows
standard_at f made a suits told =
    let agrees = suits.told made.finished told in
    counted_below f made 0 agrees suits.inner ∙ agrees.standard

standard_meaning : (f : Frame) (made : Hand) (a : Around) → Suits f a → IsFinished f.setting.texts made.finished → (n : ℕ) (m : RowMeaning) → row_meaning (slice_index_or standard_rows n (row_of 0 0 Broken)) ≡ m → meaning_at (scene_of f made a) (at_place 0 n) ≡ m
standard_meaning f made a suits told n m e = ap (λ (rows : List Row). row_meaning (slice_index_or rows n (row_of 0 0 Broken))) (standard_at f made a suits told) ∙ e

pub broken_stands : (f : Frame) (made : Hand) (a : Around) → Suits f a → IsFinished f.setting.texts made.finished → stands_for (scene_of f made a) broken ≡ broken
broken_stands f made a suits told = ap (stands_as (scene_of f made a) broken) (standard_meaning f made a suits told 10 Broken refl)

-- the type of parts in error has no range
pub broken_range : (f : Frame) (made : Hand) (a : Around) → Suits f a → IsFinished f.setting.texts made.finished → range_of (scene_of f made a) broken ≡ None
broken_range f made a suits told =
    ap (λ (t : Place). range_by (meaning_at (scene_of f made a) t)) (broken_stands f made a suits told)
    ∙ ap range_by (standard_meaning f made a suits told 10 Broken refl)

pub standard_there : (f : Frame) (made : Hand) (s : Site) → SuitsSite f s → IsFinished f.setting.texts made.finished → HasStandardRows (context_of f made s)
standard_there f made s suits told = standard_at f made s.around.now suits.around told

behind : (xs ys : List Row) (k : ℕ) (d : Row) → slice_index_or (xs ++ ys) (length xs + k) d ≡ slice_index_or ys k d
behind [] ys k d = let e : 0 + k ≡ k = omega arith in ap (λ n. slice_index_or ys n d) e
behind (x ∷ xs) ys k d = let e : suc (length xs) + k ≡ suc (length xs + k) = omega arith in ap (λ n. slice_index_or (x ∷ (xs ++ ys)) n d) e ∙ behind xs ys k d

each_at : (P : Row → Type 0) (xs : List Row) (k : ℕ) (d : Row) → k < length xs → Each P xs → P (slice_index_or xs k d)
each_at P [] k d within all = absurd (omega (arith, within))
each_at P (x ∷ xs) zero d within all = all.0
each_at P (x ∷ xs) (suc k) d within all = each_at P xs k d (omega (arith, within)) all.1

module _ (c : Context) (there : HasStandardRows c) where
  meaning_of : (n : ℕ) (m : RowMeaning) → row_meaning (slice_index_or standard_rows n (row_of 0 0 Broken)) ≡ m → meaning_at c.scene (at_place 0 n) ≡ m
  meaning_of n m e = ap (λ (rows : List Row). row_meaning (slice_index_or rows n (row_of 0 0 Broken))) there ∙ e

  -- a type of the standard scope that isn't opaque stands for itself
  module _ (n : ℕ) (m : RowMeaning) (is : row_meaning (slice_index_or standard_rows n (row_of 0 0 Broken)) ≡ m) (stays : stands_as c.scene (at_place 0 n) m ≡ at_place 0 n) where
    stands_itself : stands_for c.scene (at_place 0 n) ≡ at_place 0 n
    stands_itself = ap (stands_as c.scene (at_place 0 n)) (meaning_of n m is) ∙ stays

    base_itself : base_by (at_place 0 n) m ≡ at_place 0 n → base_of c.scene (at_place 0 n) ≡ at_place 0 n
    base_itself e = ap (λ (t : Place). base_by t (meaning_at c.scene t)) stands_itself ∙ ap (base_by (at_place 0 n)) (meaning_of n m is) ∙ e

    kind_itself : kind_of c.scene (at_place 0 n) ≡ m
    kind_itself = ap (meaning_at c.scene) stands_itself ∙ meaning_of n m is

    broken_itself : is_broken c.scene (at_place 0 n) ≡ is_same_place (at_place 0 n) broken
    broken_itself = ap (λ (t : Place). is_same_place t broken) stands_itself

  pub char_base : base_of c.scene character ≡ character
  char_base = base_itself 2 Character refl refl refl

  pub whole_base : base_of c.scene whole ≡ whole
  whole_base = base_itself 9 Whole refl refl refl

  -- INTEGER or CARDINAL
  number_is : (t : Place) → is_integer_or_cardinal t ≡ true → (t ≡ integer) ⊎ (t ≡ cardinal)
  number_is t e = go (is_same_place t integer) (is_same_place t cardinal) refl refl e
    where
      go : (a b : Bool) → is_same_place t integer ≡ a → is_same_place t cardinal ≡ b → a || b ≡ true → (t ≡ integer) ⊎ (t ≡ cardinal)
      go true b x y e = inl (same_place-is t integer x)
      go false true x y e = inr (same_place-is t cardinal y)
      go false false x y e = absurd (cc)

  pub number_base : (t : Place) → is_integer_or_cardinal t ≡ true → base_of c.scene t ≡ t
  number_base t e =
      elim (number_is t e) as (λ _. base_of c.scene t ≡ t) [
        | inl is ↦ subst (λ (u : Place). base_of c.scene u ≡ u) (sym is) (base_itself 0 Integer refl refl refl)
        | inr is ↦ subst (λ (u : Place). base_of c.scene u ≡ u) (sym is) (base_itself 1 Cardinal refl refl refl)
      ]

  -- ** No standard type has a part in error

  -- one that is no set has no base
  plain_base : (t : Place) (m : RowMeaning) → kind_of c.scene t ≡ m → is_set_kind m ≡ false → HasWholeBase c.scene t
  plain_base t m kind plain set = absurd (let e = sym (ap is_set_kind kind ∙ plain) ∙ set in true≢false (sym e))

  pub boolean_whole : HasWholeBase c.scene boolean
  boolean_whole = plain_base boolean (Enum 2) (kind_itself 3 (Enum 2) refl refl) refl

  pub character_whole : HasWholeBase c.scene character
  character_whole = plain_base character Character (kind_itself 2 Character refl refl) refl

  pub cardinal_whole : HasWholeBase c.scene cardinal
  cardinal_whole = plain_base cardinal Cardinal (kind_itself 1 Cardinal refl refl) refl

  pub integer_whole : HasWholeBase c.scene integer
  integer_whole = plain_base integer Integer (kind_itself 0 Integer refl refl) refl

  pub whole_whole : HasWholeBase c.scene whole
  whole_whole = plain_base whole Whole (kind_itself 9 Whole refl refl) refl

  pub text_whole : HasWholeBase c.scene text_type
  text_whole = plain_base text_type Text (kind_itself 8 Text refl refl) refl

  pub number_whole : (t : Place) → is_integer_or_cardinal t ≡ true → HasWholeBase c.scene t
  number_whole t e =
      elim (number_is t e) as (λ _. HasWholeBase c.scene t) [
        | inl is ↦ subst (HasWholeBase c.scene) (sym is) integer_whole
        | inr is ↦ subst (HasWholeBase c.scene) (sym is) cardinal_whole
      ]

  pub bitset_base : is_broken c.scene (set_base c bitset) ≡ false
  bitset_base = ap (λ (m : RowMeaning). is_broken c.scene (set_base_by m)) (kind_itself 5 (Set bit_range) refl refl) ∙ broken_itself 4 (Subrange cardinal (pos 0) (pos 31)) refl refl

  pub bitset_whole : HasWholeBase c.scene bitset
  bitset_whole set = bitset_base

  -- a type's name, or a constant, of a type that is no set
  named_type : (n : ℕ) (m : RowMeaning) → row_meaning (slice_index_or standard_rows n (row_of 0 0 Broken)) ≡ m → stands_as c.scene (at_place 0 n) m ≡ at_place 0 n → is_same_place (at_place 0 n) broken ≡ false
      → HasWholeBase c.scene (at_place 0 n) → (name : ℕ) → IsWholeOperand c.scene (in_constant (operand_by c.scene name (TypeName (at_place 0 n))))
  named_type n m is stays other base name =
      let sound : is_broken c.scene (at_place 0 n) ≡ false = broken_itself n m is stays ∙ other in
      subst (λ (b : Bool). IsWholeOperand c.scene (in_constant (if b then InError else NamedType (at_place 0 n)))) (sym sound) (sound, base)

  named_constant : (n : ℕ) (m : RowMeaning) → row_meaning (slice_index_or standard_rows n (row_of 0 0 Broken)) ≡ m → stands_as c.scene (at_place 0 n) m ≡ at_place 0 n → is_same_place (at_place 0 n) broken ≡ false
      → is_same_place (at_place 0 n) text_type ≡ false → HasWholeBase c.scene (at_place 0 n) → (name : ℕ) (v : ℤ) → IsWholeOperand c.scene (in_constant (operand_by c.scene name (Const (at_place 0 n) v 0)))
  named_constant n m is stays other no_text base name v =
      let sound : is_broken c.scene (at_place 0 n) ≡ false = broken_itself n m is stays ∙ other in
      subst (λ (b : Bool). IsWholeOperand c.scene (in_constant (if b then InError else (if is_same_place (at_place 0 n) text_type then StringConstant (natural v) 0 else Constant (at_place 0 n) v)))) (sym sound)
      (subst (λ (b : Bool). IsWholeOperand c.scene (in_constant (if b then StringConstant (natural v) 0 else Constant (at_place 0 n) v))) (sym no_text) base)

  abbrev IsWholeRow : Row → Type 0
  IsWholeRow r = IsWholeOperand c.scene (in_constant (operand_by c.scene r.name (row_meaning r)))

  -- each standard name stands for what has no part in error
  names_whole : Each IsWholeRow (named_rows 1 standard_meanings)
  names_whole = (
    named_type 0 Integer refl refl refl integer_whole 1,
    (
      named_type 1 Cardinal refl refl refl cardinal_whole 2,
      (
        named_type 2 Character refl refl refl character_whole 3,
        (
          named_type 3 (Enum 2) refl refl refl boolean_whole 4,
          (
            named_type 5 (Set bit_range) refl refl refl bitset_whole 5,
            (
              named_type 6 (ProcType None 0 6) refl refl refl (plain_base proc_type (ProcType None 0 6) (kind_itself 6 (ProcType None 0 6) refl refl) refl) 6,
              (
                named_constant 3 (Enum 2) refl refl refl refl boolean_whole 7 (pos 1),
                (
                  named_constant 3 (Enum 2) refl refl refl refl boolean_whole 8 (pos 0),
                  (
                    named_constant 7 Nil refl refl refl refl (plain_base nil_type Nil (kind_itself 7 Nil refl refl) refl) 9 (pos 0),
                    (tt, (tt, (tt, (tt, (tt, (tt, (tt, (tt, (tt, (tt, (tt, (tt, (tt, (tt, (tt, (tt, (tt, tt))))))))))))))))),
                  ),
                ),
              ),
            ),
          ),
        ),
      ),
    ),
  )

  abbrev type_rows : List Row
  type_rows = map (row_of 0 0) (Integer ∷ Cardinal ∷ Character ∷ Enum 2 ∷ Subrange cardinal (pos 0) (pos 31) ∷ Set bit_range ∷ ProcType None 0 6 ∷ Nil ∷ Text ∷ Whole ∷ Broken ∷ [])

  pub standard_used : (name : ℕ) → is_standard name ≡ true → IsWholeOperand c.scene (in_constant (operand_of c.scene (entry_at c.scene (standard_place name))))
  standard_used name is =
      let low : 1 ≤ name = grind (arith, is) in
      let high : name ≤ 26 = grind (arith, is) in
      let d : Row = row_of 0 0 Broken in
      let at : name + 10 ≡ length type_rows + (name - 1) = omega (arith, low) in
      let row : row_at c.scene.tables (standard_place name) ≡ slice_index_or (named_rows 1 standard_meanings) (name - 1) d =
      ap (λ (rows : List Row). slice_index_or rows (name + 10) d) there
      ∙ ap (λ n. slice_index_or (type_rows ++ named_rows 1 standard_meanings) n d) at
      ∙ behind type_rows (named_rows 1 standard_meanings) (name - 1) d in
      subst IsWholeRow (sym row) (each_at IsWholeRow (named_rows 1 standard_meanings) (name - 1) d (omega (arith, low, high)) names_whole)
