-- The bits of sets.
use Rattle.std.specs.Prelude.{◌≡◌, ℕ, ◌^◌, ◌<◌, ℤ, pos, bit_or}
use Rattle.std.proofs.Common.{◌∙◌, ap, refl, sym, subst, arith, to_z, w64}
use Rattle.std.proofs.lemmas.Int.{to_z_pos}
use Rattle.std.proofs.lemmas.Nat.{or_lt}
use Rattle.m2_base.specs.Rows.{IsValue, natural}
use Rattle.m2_base.specs.States.{Frame}
use Rattle.m2_base.specs.Statics.Operands.{worse}
use Rattle.m2_base.specs.Statics.Sets.{span, with_elements}
use Rattle.m2_base.specs.declared.operands.Operand.{Operand}
use Rattle.m2_base.specs.declared.operands.Operand.TheVariants.{Constant, InError}
use Rattle.m2_base.specs.declared.rows.Place.{Place}
use Rattle.const_eval.specs.Sites.{IsOperand}
use Rattle.m2_base.proofs.SoundOperands.{natural-value}
use Rattle.m2_base.proofs.ValueBounds.{natural_small, span_small}

pub bits_small : (bits : ℤ) (low high : ℕ) → IsValue bits → bit_or (natural bits) (span low high) < 2 ^ 32
bits_small bits low high h = or_lt 32 (natural bits) (span low high) (natural_small bits h) (span_small low high)

pub bits_value : (bits : ℤ) (low high : ℕ) → IsValue bits → IsValue (pos (bit_or (natural bits) (span low high)))
bits_value bits low high h = natural-value _ (bits_small bits low high h)

small_whole : (n : ℕ) → n < 2 ^ 32 → n < 2 ^ 63
small_whole n h = omega (arith, h)

-- the bits as a number of 64 bits
pub bits_told : (bits low high : ℤ) (a b d s : ℕ) → a ≡ natural bits → b ≡ natural low → d ≡ natural high → s ≡ span b d → IsValue bits
    → to_z w64 (bit_or a s) ≡ pos (bit_or (natural bits) (span (natural low) (natural high)))
bits_told bits low high a b d s e f g h value =
    ap (λ n. to_z w64 (bit_or n s)) e
    ∙ ap (λ n. to_z w64 (bit_or (natural bits) n)) (h ∙ ap (λ n. span n d) f ∙ ap (λ n. span (natural low) n) g)
    ∙ to_z_pos w64 (bit_or (natural bits) (span (natural low) (natural high))) (small_whole (bit_or (natural bits) (span (natural low) (natural high))) (bits_small bits (natural low) (natural high) value))

pub bits_fit : (bits : ℤ) (a b d s : ℕ) → a ≡ natural bits → s ≡ span b d → IsValue bits → bit_or a s < 2 ^ 32
bits_fit bits a b d s e h value = subst (λ n. bit_or n s < 2 ^ 32) (sym e) (subst (λ n. bit_or (natural bits) n < 2 ^ 32) (sym h) (bits_small bits b d value))

pub bits_kept : (bits low high : ℤ) (a b d s : ℕ) → a ≡ natural bits → b ≡ natural low → d ≡ natural high → s ≡ span b d → IsValue bits → IsValue (to_z w64 (bit_or a s))
bits_kept bits low high a b d s e f g h value = subst IsValue (sym (bits_told bits low high a b d s e f g h value)) (bits_value bits (natural low) (natural high) value)

-- a set, or an end of its range, that is no constant
abbrev IsNone : Operand → Type 0
IsNone o = (t : Place) (v : ℤ) → o ≡ Constant t v → ⊥

pub set_none : (set low high : Operand) → IsNone set → worse set (worse low high) ≡ with_elements set low high
set_none (Constant t bits) low high none = absurd (none t bits refl)
set_none set low high none = refl

pub low_none : (set low high : Operand) → IsNone low → worse set (worse low high) ≡ with_elements set low high
low_none (Constant t bits) (Constant u v) high none = absurd (none u v refl)
low_none (Constant t bits) low high none = refl
low_none set low high none = refl

pub high_none : (set low high : Operand) → IsNone high → worse set (worse low high) ≡ with_elements set low high
high_none (Constant t bits) (Constant u l) (Constant v h) none = absurd (none v h refl)
high_none (Constant t bits) (Constant u l) high none = refl
high_none (Constant t bits) low high none = refl
high_none set low high none = refl

-- what is worse may stand anywhere
pub worse_there : (f : Frame) (x y : Operand) → IsOperand f (worse x y)
worse_there f InError y = tt
worse_there f x InError = tt
worse_there f x y = tt
