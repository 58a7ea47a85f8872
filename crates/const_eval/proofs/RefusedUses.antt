-- Rules that note nothing and use no row in error, or whose value is wrong; uses of names among them.
use Rattle.std.specs.Prelude.{◌≡◌, ◌++◌, ℕ, [], Bool, true, false, if◌then◌else◌, Option, Some, None, drop, nat_lt}
use Rattle.std.proofs.Common.{◌∙◌, ap, refl, subst, sym}
use Rattle.m2_base.specs.Gives.{Gives, and_then, gives, gives_answer}
use Rattle.m2_base.specs.Lists.{Each}
use Rattle.m2_base.specs.Standard.{is_standard, standard_place}
use Rattle.m2_base.specs.Statics.Constants.{in_constant}
use Rattle.m2_base.specs.Statics.Contexts.{Context, refuse}
use Rattle.m2_base.specs.Statics.Diagnostics.{not_declared_there, unknown_name, used_before}
use Rattle.m2_base.specs.Statics.Lookup.{Entry, entry_at, entry_in, first_entry}
use Rattle.m2_base.specs.Statics.NamedOperands.{operand_of_use}
use Rattle.m2_base.specs.Statics.Uses.{answer_of, bound, bound_or, bound_outside, followed, stands_later, use_by_item, use_in_item, use_of}
use Rattle.m2_base.specs.Tables.{lookup}
use Rattle.m2_base.specs.declared.notes.Answer.{Answer}
use Rattle.m2_base.specs.declared.operands.Operand.TheVariants.{Computed, Constant, InError, ModuleName, NamedType, NotConstant, Procedure, StandardProcedure, StringConstant, Variable}
use Rattle.m2_base.specs.declared.operands.Operand.{Operand}
use Rattle.m2_base.specs.declared.sites.Named.{Named}
use Rattle.m2_base.proofs.EachLaws.{each_append}
use Rattle.const_eval.specs.Causes.{IsSoundUse, used_operand}
use Rattle.const_eval.proofs.RefusedSteps.{IsError, QuietOr, quiet, wrong}
use Rattle.const_eval.proofs.Silent.{IsSilent, silent}

-- nothing is noted, and no used row is in error; or the value is wrong
pub data SoundOr (c : Context) {A : Type 0} (Wrong : A → Type 0) (g : Gives A) : Type 0 where
  sound : g.diags ≡ [] → Each (IsSoundUse c.scene) g.answers → SoundOr c Wrong g
  spoilt : Wrong g.value → SoundOr c Wrong g

-- what isn't wrong was refused nowhere
pub quiet-unless : (c : Context) {A : Type 0} (W : A → Type 0) (g : Gives A) → SoundOr c W g → (W g.value → ⊥) → g.diags ≡ []
quiet-unless c W g (sound p s) right = p
quiet-unless c W g (spoilt w) right = absurd (right w)

-- and uses no row in error
pub sound-unless : (c : Context) {A : Type 0} (W : A → Type 0) (g : Gives A) → SoundOr c W g → (W g.value → ⊥) → Each (IsSoundUse c.scene) g.answers
sound-unless c W g (sound p s) right = s
sound-unless c W g (spoilt w) right = absurd (right w)

-- one rule after another, where what becomes of a wrong value is wrong
pub sound-then : (c : Context) {A B : Type 0} (V : A → Type 0) (W : B → Type 0) (a : Gives A) (f : A → Gives B) → SoundOr c V a
    → (V a.value → W (f a.value).value) → SoundOr c W (f a.value) → SoundOr c W (and_then a f)
sound-then c V W a f (sound p s) kept (sound q r) =
    sound (ap (λ l. l ++ (f a.value).diags) p ∙ q) (each_append (IsSoundUse c.scene) a.answers (f a.value).answers s r)
sound-then c V W a f (sound p s) kept (spoilt w) = spoilt w
sound-then c V W a f (spoilt v) kept q = spoilt (kept v)

-- by a test
pub sound-if : (c : Context) {A : Type 0} (W : A → Type 0) (t : Bool) (a b : Gives A) → SoundOr c W a → SoundOr c W b → SoundOr c W (if t then a else b)
sound-if c W true a b p q = p
sound-if c W false a b p q = q

-- a rule that binds no use
pub useless : (c : Context) {A : Type 0} (W : A → Type 0) (g : Gives A) → QuietOr W g → IsSilent g → SoundOr c W g
useless c W g (quiet p) (silent s) = sound p (subst (Each (IsSoundUse c.scene)) (sym s) tt)
useless c W g (wrong w) s = spoilt w

-- what is found is noted as an answer; its row may be in error
used-sound : (c : Context) {B : Type 0} (a : Answer) (x : B) (W : B → Type 0) → (used_operand c.scene a ≡ InError → W x) → SoundOr c W (gives_answer a x)
used-sound c a x W bad = go (used_operand c.scene a) refl
  where
    go : (o : Operand) → used_operand c.scene a ≡ o → SoundOr c W (gives_answer a x)
    go InError e = spoilt (bad e)
    go NotConstant e = sound refl ((λ is. absurd (let both = sym e ∙ is in cc)), tt)
    go (Constant t v) e = sound refl ((λ is. absurd (let both = sym e ∙ is in cc)), tt)
    go (Computed t) e = sound refl ((λ is. absurd (let both = sym e ∙ is in cc)), tt)
    go (StringConstant n l) e = sound refl ((λ is. absurd (let both = sym e ∙ is in cc)), tt)
    go (Variable t) e = sound refl ((λ is. absurd (let both = sym e ∙ is in cc)), tt)
    go (NamedType t) e = sound refl ((λ is. absurd (let both = sym e ∙ is in cc)), tt)
    go (ModuleName s) e = sound refl ((λ is. absurd (let both = sym e ∙ is in cc)), tt)
    go (Procedure n t k s) e = sound refl ((λ is. absurd (let both = sym e ∙ is in cc)), tt)
    go (StandardProcedure n) e = sound refl ((λ is. absurd (let both = sym e ∙ is in cc)), tt)

-- what a use found is in error, or it found nothing
abbrev pub IsBadUse : Context → Option Entry → Type 0
IsBadUse c e = IsError (in_constant (operand_of_use c.scene e))

module _ (c : Context) where
  bound-sound : (name at : ℕ) (e : Entry) → SoundOr c (IsBadUse c) (bound c name at e)
  bound-sound name at e = used-sound c (answer_of name at e) (Some (followed c.scene e)) (IsBadUse c) (λ bad. bad)

  found-sound : (code name at : ℕ) (e : Option Entry) → SoundOr c (IsBadUse c) (bound_or c code name at e)
  found-sound code name at None = spoilt refl
  found-sound code name at (Some e) = bound-sound name at e

  outside-sound : (name at : ℕ) (e : Option Entry) → SoundOr c (IsBadUse c) (bound_outside c name at e)
  outside-sound name at None = spoilt refl
  outside-sound name at (Some e) =
      sound-if c (IsBadUse c) (stands_later c at e) (and_then (gives_answer (answer_of name at e) None) (λ none. refuse c at used_before none)) (bound c name at e) (spoilt refl) (bound-sound name at e)

  in_item-sound : (item name at : ℕ) (n : Option Named) → SoundOr c (IsBadUse c) (use_in_item c item name at n)
  in_item-sound item name at None = outside-sound name at (lookup c.scene.tables (drop 1 c.scene.block.chain) name)
  in_item-sound item name at (Some n) =
      sound-if c (IsBadUse c) (nat_lt n.item item) (bound_or c unknown_name name at (entry_in c.scene.tables c.scene.block.scope name)) (refuse c at used_before None)
      (found-sound unknown_name name at (entry_in c.scene.tables c.scene.block.scope name)) (spoilt refl)

  by_item-sound : (name at : ℕ) (item : Option ℕ) → SoundOr c (IsBadUse c) (use_by_item c name at item)
  by_item-sound name at None = found-sound unknown_name name at (lookup c.scene.tables c.scene.block.chain name)
  by_item-sound name at (Some item) = in_item-sound item name at (first_entry c.layout name)

  pub use-sound : (within : Option ℕ) (name at : ℕ) → SoundOr c (IsBadUse c) (use_of c within name at)
  use-sound (Some s) name at = found-sound not_declared_there name at (entry_in c.scene.tables s name)
  use-sound None name at =
      sound-if c (IsBadUse c) (is_standard name) (gives (Some (entry_at c.scene (standard_place name)))) (use_by_item c name at c.item) (sound refl tt) (by_item-sound name at c.item)
