-- What words ask for.
use Rattle.std.proofs.Common.{◌⊎◌, inl, inr, ℕ, List, Option, Result, Ok, Err, IfOk, IfSome, subst}
use Rattle.command_words.specs.Command.{Asks, Command, IsNoCommand, big, compile, dump, run}
use Rattle.command_words.proofs.OneCommand.{one_command_lem}
use Rattle.m2_io.specs.Files.{Files}
use Rattle.m2c_top.specs.Effects.{AsksToCompile, IsToCompile, OfCompiled, ToCompile}
use Rattle.m2c_top.specs.Statuses.{IsCompiledAs}
use Rattle.m2c_top.specs.declared.ending.Stop.{Stop}
use Rattle.m2c_top.specs.declared.status.Status.{Status}
use Rattle.m2c_top.proofs.Carrying.{ComesDone}
use Rattle.m2c_top.proofs.Told.{map_told, told_all}

-- no words both ask and are no command
pub asks_none : (words : List (List ℕ)) (command : Command) → Asks words command → IsNoCommand words → ⊥
asks_none words command asks none = none command asks

-- what holds of the module that a command compiles holds of the one that the words ask to compile
pub asks_to_compile : (words : List (List ℕ)) (command : Command) → Asks words command → (P : List ℕ → Type 0) → IsToCompile command P → AsksToCompile words P
asks_to_compile words (compile name workers) asks P is = (name, workers, asks, is)
asks_to_compile words (run name steps cells) asks P is = absurd is
asks_to_compile words (dump name) asks P is = absurd is
asks_to_compile words (big procedures workers) asks P is = absurd is

pub or_asks : (words : List (List ℕ)) (command : Command) → Asks words command → (Q : Type 0) (P : List ℕ → Type 0) → Q ⊎ IsToCompile command P → Q ⊎ AsksToCompile words P
or_asks words command asks Q P (inl q) = inl q
or_asks words command asks Q P (inr is) = inr (asks_to_compile words command asks P is)

-- ** The status of the module that the words ask to compile

module _ (words : List (List ℕ)) (holds : Option Files) where
  abbrev pub ComesAsked : Result Status Stop → Type 0
  ComesAsked r = IfOk r (λ status. IfSome holds (λ files. ToCompile words (λ name. IsCompiledAs files name status)))

  pub commanded_comes : (command : Command) → Asks words command → (r : Result Status Stop) → ComesDone holds r command → ComesAsked r
  commanded_comes command asks (Ok status) comes = map_told holds (λ files. OfCompiled command (λ name. IsCompiledAs files name status)) (λ files. ToCompile words (λ name. IsCompiledAs files name status))
      (λ files h name workers other. subst (λ c. OfCompiled c (λ n. IsCompiledAs files n status)) (one_command_lem words command (compile name workers) asks other) h) comes
  commanded_comes command asks (Err s) comes = tt

  pub usage_comes : IsNoCommand words → (r : Result Status Stop) → ComesAsked r
  usage_comes none (Ok status) = told_all holds (λ files. ToCompile words (λ name. IsCompiledAs files name status)) (λ files name workers asks. absurd (none (compile name workers) asks))
  usage_comes none (Err s) = tt
