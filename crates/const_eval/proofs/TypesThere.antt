-- The types of operands can be asked for.
use Rattle.std.proofs.Common.{ℕ, ◌<◌, length, sym, subst, arith}
use Rattle.m2_base.specs.Rows.{at_place}
use Rattle.m2_base.specs.States.{Frame}
use Rattle.m2_base.specs.Statics.Operands.{operand_type}
use Rattle.m2_base.specs.Statics.Folding.{number_type}
use Rattle.m2_base.specs.declared.operands.FoldKind.{FoldKind}
use Rattle.m2_base.specs.declared.operands.FoldKind.TheVariants.{Cardinal, Integer}
use Rattle.m2_base.specs.declared.operands.Operand.{Operand}
use Rattle.m2_base.specs.declared.operands.Operand.TheVariants.{Constant, StringConstant, Computed, Variable, NamedType, Procedure}
use Rattle.m2_base.specs.declared.sites.Around.{Around}
use Rattle.m2_base.specs.Units.{UnitTexts}
use Rattle.m2_base.specs.declared.sites.Site.{Site}
use Rattle.type_rules.specs.Scenes.{Suits, IsThere, IsOperandThere}
use Rattle.type_rules.specs.Sites.{SuitsSite}
use Rattle.const_eval.specs.Sites.{IsNamed, IsOperand, IsSmallConstant}

pub standard_there : {f : Frame} {a : Around} → Suits f a → (n : ℕ) → IsThere f (at_place 0 n)
standard_there {f} {a} suits n =
    record { scope = omega arith; entered = λ same open_yet. let inner = suits.inner in absurd (omega (arith, same, inner)) }

pub number_there : {f : Frame} {a : Around} → Suits f a → (k : FoldKind) → IsThere f (number_type k)
number_there suits Integer = standard_there suits 0
number_there suits Cardinal = standard_there suits 1
number_there suits k = standard_there suits 9

pub type_there : {f : Frame} {a : Around} → Suits f a → (o : Operand) → IsOperand f o → IsThere f (operand_type o)
type_there suits (Constant t v) h = h.0
type_there suits (StringConstant n l) h = standard_there suits 8
type_there suits (Computed t) h = h
type_there suits (Variable t) h = h
type_there suits o h = standard_there suits 10

pub operand_there : (f : Frame) (o : Operand) → IsOperand f o → IsOperandThere f o
operand_there f (Constant t v) h = h.0
operand_there f (Computed t) h = h
operand_there f (Variable t) h = h
operand_there f (NamedType t) h = h
operand_there f (Procedure n t k s) h = h
operand_there f o h = tt

pub small_constant : (f : Frame) (o : Operand) → IsOperand f o → IsSmallConstant o
small_constant f (Constant t v) h = h.1
small_constant f o h = tt

-- a string's name is one of the site's
pub operand_named : {f : Frame} {s : Site} → SuitsSite f s → (o : Operand) → IsOperand f o → IsNamed s.texts.now.names o
operand_named {f} {s} suits (StringConstant n l) h = subst (λ (u : UnitTexts). n < length u.names) (sym suits.texts) h
operand_named suits o h = tt

pub ruleset there = (standard_there, type_there, operand_there, small_constant, operand_named)
