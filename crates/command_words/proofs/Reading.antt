-- What clap's answer says of the words.
use Rattle.std.proofs.Common.{◌≡◌, ℕ, true, List, [], ◌∷◌, Option, Some, None, MatchOption, inl, inr, refl, sym, subst, ◌∙◌, ap}
use Rattle.clap.specs.Faults.{fault_of, is_simple_and_free}
use Rattle.clap.specs.Kinds.{HasKind, IsAmong, Kinds}
use Rattle.clap.specs.Simple.{App, is_simple, matches_of}
use Rattle.clap.specs.Values.{kind_of}
use Rattle.clap.specs.Walk.{Row}
use Rattle.clap.specs.declared.error.Error.{Error}
use Rattle.clap.specs.declared.error.kind.ErrorKind.TheVariants.{OutOfMemory}
use Rattle.command_words.specs.Asking.{Finds, FindsNone, app_for}
use Rattle.command_words.specs.Command.{Asks, IsNoCommand, Makes, MakesNone, command_of}
use Rattle.command_words.specs.Parts.{Adds, Given, nothing}
use Rattle.command_words.specs.Verbs.{settings_of}
use Rattle.command_words.specs.Words.{GivesNone, HasSettings, given_of}
use Rattle.command_words.specs.declared.command.Command.{Command as HeldCommand}
use Rattle.command_words.specs.declared.given.Given.{Given as HeldGiven}
use Rattle.command_words.specs.declared.verb.Verb.{Verb}
use Rattle.command_words.specs.declared.verb.Verb.TheVariants as verbs
use Rattle.command_words.proofs.Answering.{given_is_taken, taken_is_given}
use Rattle.command_words.proofs.Lookups.{among_in}
use Rattle.command_words.proofs.Making.{asked, asks_made}
use Rattle.command_words.proofs.OneCommand.{one_given}

-- clap's contract is exact for the command of each verb
pub is_exact : (v : Verb) → (is_simple_and_free (app_for (settings_of v)) ≡ true) × (is_simple (app_for (settings_of v)) ≡ true)
is_exact verbs.Compile = (refl, refl)
is_exact verbs.Run = (refl, refl)
is_exact verbs.Dump = (refl, refl)
is_exact verbs.Big = (refl, refl)

module _ (v : Verb) (words : List (List ℕ)) (a : App) (is : a ≡ app_for (settings_of v)) where
  simple_and_free : is_simple_and_free a ≡ true
  simple_and_free = ap is_simple_and_free is ∙ (is_exact v).0

  simple : is_simple a ≡ true
  simple = ap is_simple is ∙ (is_exact v).1

  taken : (given : Given) → HasSettings (settings_of v) given → Adds nothing words given → (fault_of a words ≡ []) × Finds (matches_of a words) given
  taken given has adds =
      subst (λ x. (fault_of x words ≡ []) × Finds (matches_of x words) given) (sym is) (given_is_taken (settings_of v) words given adds (λ s n e. among_in (settings_of v) s (has s n e)))

  -- where clap takes them
  pub taken_reads : (rows : List Row) (r : Option HeldGiven) → (is_simple_and_free a ≡ true → fault_of a words ≡ []) → (is_simple a ≡ true → rows ≡ matches_of a words) → MatchOption r (FindsNone rows) (λ given. Finds rows (given_of given))
      → MatchOption r (GivesNone v words) (λ given. Adds nothing words (given_of given))
  taken_reads rows None none same h = λ given has adds. h given (subst (λ r. Finds r given) (sym (same simple)) (taken given has adds).1)
  taken_reads rows (Some given) none same h =
      taken_is_given (settings_of v) words (given_of given) (ap (λ x. fault_of x words) (sym is) ∙ none simple_and_free) (subst (λ r. Finds r (given_of given)) (same simple ∙ ap (λ x. matches_of x words) is) h)

  none_among : (k : Kinds) (e : Error) → k ≡ [] → (kind_of e ≡ OutOfMemory → ⊥) → HasKind k e → ⊥
  none_among k e none other (inl memory) = other memory
  none_among k e none other (inr among) = subst (IsAmong (kind_of e)) none among

  -- where it refuses them
  pub refused_reads : (e : Error) → (is_simple_and_free a ≡ true → HasKind (fault_of a words) e) → (kind_of e ≡ OutOfMemory → ⊥) → GivesNone v words
  refused_reads e kinds other given has adds = none_among (fault_of a words) e (taken given has adds).0 other (kinds simple_and_free)

-- a verb's command is the words' command
pub made_asks : (all : List (List ℕ)) (verb : List ℕ) (words : List (List ℕ)) (given : Given) (r : Option HeldCommand) → all ≡ verb ∷ words → Adds nothing words given
    → MatchOption r (MakesNone verb given) (λ c. Makes verb given (command_of c)) → MatchOption r (IsNoCommand all) (λ c. Asks all (command_of c))
made_asks all verb words given None e adds none = λ c asks.
    let a = asked all c verb words e asks in
    none c (subst (λ g. Makes verb g c) (one_given words a.0 given a.1 adds) a.2)
made_asks all verb words given (Some c) e adds makes = asks_made all verb words given e adds (command_of c) makes
