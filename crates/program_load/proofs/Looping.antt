-- What loading comes to, from the last module that was asked for.
use Rattle.std.proofs.Common.{◌≡◌, ℕ, ◌-◌, ◌<◌, ◌^◌, List, Option, Some, None, arith}
use Rattle.std.specs.Prelude.{IfSome}
use Rattle.m2_io.specs.Files.{Files}
use Rattle.object_file.specs.Contents.{Contents}
use Rattle.m2_link.specs.Refusals.{AreLinkedTo}
use Rattle.m2_link.specs.Views.{IsRefusalOf}
use Rattle.m2_link.specs.declared.fault.LinkFault.TheVariants as link
use Rattle.m2_link.specs.declared.fault.LinkFault.{LinkFault}
use Rattle.program_load.specs.Answers.{told}
use Rattle.program_load.specs.Closure.{Progress, next_module}
use Rattle.program_load.specs.Loads.{Asks, Failure, Loads, Reaches, Stops, fails, linked, links, refuses, stops, then_asks}
use Rattle.program_load.specs.declared.fault.LoadFault.TheVariants.{Refused}
use Rattle.program_load.specs.declared.fault.LoadFault.{LoadFault}
use Rattle.program_load.proofs.Reaching.{asked_one_more}

module _ (holds : Option Files) (main : List ℕ) where
  pub load_stops : (p : Progress) (name : List ℕ) (e : LoadFault) → Reaches holds main p → next_module p ≡ Some name → IfSome (told e) (Stops holds p name) → IfSome (told e) (λ f. Loads holds main (fails f))
  load_stops p name e reached next h = on (told e) h where
    on : (o : Option Failure) → IfSome o (Stops holds p name) → IfSome o (λ f. Loads holds main (fails f))
    on None h = tt
    on (Some f) h = stops reached next h

  pub load_refused : (p : Progress) (e : LinkFault) → Reaches holds main p → next_module p ≡ None → IsRefusalOf p.objects e → IfSome (told (Refused e)) (λ f. Loads holds main (fails f))
  load_refused p (link.Twice name) reached none h = refuses reached none h
  load_refused p (link.Missing name) reached none h = refuses reached none h
  load_refused p (link.KeyDiffers name) reached none h = refuses reached none h
  load_refused p link.Memory reached none h = tt

  pub load_links : (p : Progress) (program : List Contents) → Reaches holds main p → next_module p ≡ None → AreLinkedTo p.objects program → Loads holds main (linked program)
  load_links p program reached none h = links reached none h

  pub load_asked : (p q : Progress) (name : List ℕ) → Reaches holds main p → next_module p ≡ Some name → Asks holds p name q → Reaches holds main q
  load_asked p q name reached next asks = then_asks reached next asks

pub asked_fewer : (holds : Option Files) (p q : Progress) (name : List ℕ) → p.asked < 2 ^ 64 → Asks holds p name q → 2 ^ 64 - q.asked < 2 ^ 64 - p.asked
asked_fewer holds p q name small asks = let more = asked_one_more holds p q name asks in omega (arith, more, small)
