use Rattle.std.proofs.Common.{◌≡◌, ◌∙◌, ◌<◌, [], ◌∷◌, ℕ, List, Some, arith, ap, false, length, refl, sym, true, subst}
use Rattle.std.specs.Prelude.{◌==◌, slice_get, slice_index_or, ◌^◌}
use Rattle.std.proofs.lemmas.Option.{get_or_from_slice_get}
use Rattle.m2_base.specs.Statics.Contexts.{Source, spelling}
use Rattle.m2_base.specs.Statics.Operands.{characters_of}
use Rattle.m2_base.specs.declared.operands.Operand.TheVariants.{StringConstant}
use Rattle.m2_base.specs.Units.{UnitTexts}
use Rattle.const_eval.proofs.steps.string_constant.Goals as goal

spelled : (source : Source) (names : List (List ℕ)) (n : ℕ) (bytes : List ℕ) → source.spellings ≡ names → slice_get names n ≡ Some bytes → bytes ≡ spelling source n
spelled source names n bytes same is = sym (get_or_from_slice_get names n bytes [] is) ∙ sym (ap (λ (l : List (List ℕ)). slice_index_or l n []) same)

one_character : (bytes : List ℕ) → (length bytes == 0) ≡ true → 1 ≡ length (characters_of bytes)
one_character [] h = refl
one_character (b ∷ bytes) h = absurd (grind (arith, h))

all_characters : (bytes : List ℕ) → (length bytes == 0) ≡ false → length bytes ≡ length (characters_of bytes)
all_characters [] h = absurd (grind (arith, h))
all_characters (b ∷ bytes) h = refl

pub returns-then-is_empty-clause-told : goal.returns-then-is_empty-clause-told
returns-then-is_empty-clause-told c source same =
    let bytes = c.bytes-bytes.result.now in
    ap (λ n. StringConstant c.args.name n)
    (one_character bytes (sym c.is_empty.ensures ∙ c.if-is_empty.true) ∙ ap (λ (l : List ℕ). length (characters_of l)) (spelled source _ c.args.name bytes (same ∙ sym (ap (λ (u : UnitTexts). u.names) c.texts.view_is)) c.bytes-bytes.ensures.text))

pub returns-else-is_empty-clause-told : goal.returns-else-is_empty-clause-told
returns-else-is_empty-clause-told c source same =
    let bytes = c.bytes-bytes.result.now in
    ap (λ n. StringConstant c.args.name n)
    (all_characters bytes (sym c.is_empty.ensures ∙ c.if-is_empty.false) ∙ ap (λ (l : List ℕ). length (characters_of l)) (spelled source _ c.args.name bytes (same ∙ sym (ap (λ (u : UnitTexts). u.names) c.texts.view_is)) c.bytes-bytes.ensures.text))

pub returns-then-is_empty-clause-there : goal.returns-then-is_empty-clause-there
returns-then-is_empty-clause-there c f same = subst (λ (u : UnitTexts). c.args.name < length u.names) same c.requires.named

pub returns-else-is_empty-clause-there : goal.returns-else-is_empty-clause-there
returns-else-is_empty-clause-there c f same = subst (λ (u : UnitTexts). c.args.name < length u.names) same c.requires.named

pub bytes-bytes-requires : goal.bytes-bytes-requires
bytes-bytes-requires c = subst (λ (u : UnitTexts). c.args.name < length u.names) (sym c.texts.view_is) c.requires.named

pub overflow_cast-result : goal.overflow_cast-result
overflow_cast-result c =
    let short = subst (λ (u : UnitTexts). length (slice_index_or u.names c.args.name []) < 2 ^ 32) (sym c.texts.view_is) c.requires.short in
    record { fits = subst (λ (l : List ℕ). length l < 2 ^ 32) (get_or_from_slice_get _ c.args.name c.bytes-bytes.result.now [] c.bytes-bytes.ensures.text) short }
