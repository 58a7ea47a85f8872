-- What doing the words' command leaves.
use Rattle.std.proofs.Common.{◌≡◌, ℕ, List, [], ◌∷◌, ◌++◌, Option, Some, None, Result, Ok, Err, refl, sym, ◌∙◌, ap, subst, IfSome, IfOk, OnErr, OnOk}
use Rattle.object_commands.specs.Outcomes.{ReadsPart}
use Rattle.m2_io.specs.Files.{Files}
use Rattle.m2_io.specs.Written.{WritesPart, with_bytes}
use Rattle.command_words.specs.Command.{Asks, Command, IsNoCommand, compile}
use Rattle.command_words.proofs.OneCommand.{one_command_lem}
use Rattle.m2c_top.specs.Effects.{Does, Effect, Gives, HasInput, IsTold, Leaves, OfCompiled, PrintsPart, ToCompile, commanded, no_command, usage}
use Rattle.m2c_top.specs.Statuses.{status_number}
use Rattle.m2c_top.specs.declared.status.Status.{Status}
use Rattle.m2c_top.specs.declared.status.Status.TheVariants.{Done, NoCommand}
use Rattle.m2c_top.specs.declared.ending.Stop.{Stop}
use Rattle.m2c_top.proofs.Told.{map_told, told}

module _ (words : List (List ℕ)) (holds after : Option Files) (old new before left : Option (List ℕ)) where
  module _ (command : Command) (asks : Asks words command) where
    given_part : (files : Files) (effect : Effect) → PrintsPart (Does files before command) old new → Gives words files before effect → WritesPart old effect.printed new
    given_part files effect part (no_command none) = absurd (none command asks)
    given_part files effect part (commanded c e other does) = part e (subst (λ x. Does files before x e) (one_command_lem words c command other asks) does)

    pub commanded_leaves : (r : Result Status Stop) → IfOk r (λ status. IfSome holds (λ files. IsTold before command → Leaves (Does files before command) (status_number status) after old new left))
        → IfOk r (λ status. IfSome holds (λ files. HasInput words before → Leaves (Gives words files before) (status_number status) after old new left))
    commanded_leaves (Ok status) leaves = map_told holds _ (λ files. HasInput words before → Leaves (Gives words files before) (status_number status) after old new left) (λ files h input.
        let l = h (input command asks) in
        record {
          effect = l.effect;
          is_given = commanded command l.effect asks l.is_given;
          status_is = l.status_is;
          files_are = l.files_are;
          printed_is = l.printed_is;
          left_is = l.left_is;
        }) leaves
    commanded_leaves (Err s) leaves = tt

    pub commanded_prints : (r : Result Status Stop) → OnErr r (IfSome holds (λ files. IsTold before command → PrintsPart (Does files before command) old new))
        → OnErr r (IfSome holds (λ files. HasInput words before → PrintsPart (Gives words files before) old new))
    commanded_prints (Ok status) prints = tt
    commanded_prints (Err s) prints = map_told holds _ (λ files. HasInput words before → PrintsPart (Gives words files before) old new) (λ files h input effect given. given_part files effect (h (input command asks)) given) prints

    pub commanded_object : (P : List ℕ → Type 0) (r : Result Status Stop) → IfOk r (λ status. status ≡ Done → OfCompiled command P) → IfOk r (λ status. status ≡ Done → ToCompile words P)
    commanded_object P (Ok status) object = λ done name workers other. subst (λ c. OfCompiled c P) (one_command_lem words command (compile name workers) asks other) (object done)
    commanded_object P (Err s) object = tt

  pub usage_leaves : (r : Result Status Stop) → after ≡ holds → left ≡ before → IsNoCommand words → IfOk r (λ status. status ≡ NoCommand) → OnOk r (new ≡ with_bytes old usage)
      → IfOk r (λ status. IfSome holds (λ files. HasInput words before → Leaves (Gives words files before) (status_number status) after old new left))
  usage_leaves (Ok status) same kept none is printed = told holds (λ files has input.
      subst (λ s. Leaves (Gives words files before) (status_number s) after old new left) (sym is) (record {
        effect = record { status = NoCommand; printed = usage; files = files; left = before };
        is_given = no_command none;
        status_is = refl;
        files_are = same ∙ has;
        printed_is = printed;
        left_is = kept;
      }))
  usage_leaves (Err s) same kept none is printed = tt

  pub usage_prints : (r : Result Status Stop) → IsNoCommand words → OnErr r (WritesPart old usage new) → OnErr r (IfSome holds (λ files. HasInput words before → PrintsPart (Gives words files before) old new))
  usage_prints (Ok status) none part = tt
  usage_prints (Err s) none part = told holds (λ files has input effect given. go effect given)
    where
      go : (effect : Effect) → {files : Files} → Gives words files before effect → WritesPart old effect.printed new
      go effect (no_command other) = part
      go effect (commanded c e asks does) = absurd (none c asks)

-- ** Where the words find no memory, nothing is printed and nothing is read

append-nil : (xs : List ℕ) → xs ++ [] ≡ xs
append-nil [] = refl
append-nil (x ∷ xs) = ap (λ ys. x ∷ ys) (append-nil xs)

printed_none : (old : Option (List ℕ)) (bytes : List ℕ) → WritesPart old bytes old
printed_none None bytes = (0, refl)
printed_none (Some old) bytes = (0, ap (λ x. Some x) (sym (append-nil old)))

pub nothing_printed : (words : List (List ℕ)) (holds : Option Files) (old before : Option (List ℕ)) → IfSome holds (λ files. HasInput words before → PrintsPart (Gives words files before) old old)
nothing_printed words holds old before = told holds (λ files has input effect given. printed_none old effect.printed)

pub nothing_read : (left : Option (List ℕ)) → IfSome left (λ input. ReadsPart input left)
nothing_read None = tt
nothing_read (Some input) = (0, refl)
