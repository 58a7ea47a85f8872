-- What holds of a command that words ask for: its values are within their ranges.
use Rattle.std.proofs.Common.{◌≡◌, ℕ, ◌<◌, ◌≤◌, Bool, true, false, List, [], ◌∷◌, map, Option, Some, None, IfSome, refl, sym, ◌∙◌, ap, subst, lit<, lit≤}
use Rattle.std.specs.Prelude.{if◌then◌else◌, is_some, option_and_then, unwrap_or}
use Rattle.m2_base.specs.Lists.{Each}
use Rattle.command_words.specs.Command.{Asks, Command, IsSound, Makes, behind_verb, to_big, to_compile, to_dump, to_run}
use Rattle.command_words.specs.Parts.{Adds, Given, IsOperand, Part, Spells, an_operand, a_value, joined, marked, named, nothing, over, spaced, with_part, with_parts}
use Rattle.command_words.specs.Settings.{most, standard, value_in}
use Rattle.command_words.specs.declared.setting.Setting.{Setting}
use Rattle.command_words.specs.declared.setting.Setting.TheVariants.{Cells, Steps, Workers}
use Rattle.command_words.proofs.Values.{valued}

IsSoundPart : Part → Type 0
IsSoundPart (an_operand word) = IsOperand word
IsSoundPart (a_value s n) = (0 < n) × (n ≤ most s)

value_within : (s : Setting) (word : List ℕ) (n : ℕ) → value_in s word ≡ Some n → (0 < n) × (n ≤ most s)
value_within s word n e = let v = valued (most s) word n e in (v.some, v.within)

each_part : (words : List (List ℕ)) → Each IsOperand words → Each IsSoundPart (map an_operand words)
unfolding IsSoundPart
each_part [] each = tt
each_part (word ∷ words) each = (each.0, each_part words each.1)

sound_parts : (words : List (List ℕ)) (parts : List Part) → Spells words parts → Each IsSoundPart parts
unfolding IsSoundPart
sound_parts words parts over = tt
sound_parts words parts (named word ws ps is rest) = (is, sound_parts ws ps rest)
sound_parts words parts (spaced s v n ws ps is rest) = (value_within s v n is, sound_parts ws ps rest)
sound_parts words parts (joined s v n ws ps is rest) = (value_within s v n is, sound_parts ws ps rest)
sound_parts words parts (marked ws each) = each_part ws each

pub record IsSoundGiven (g : Given) : Type 0 where
  pub workers : IfSome g.workers (λ n. (0 < n) × (n ≤ 64))
  pub cells : IfSome g.cells (λ n. 0 < n)

module _ (g h : Given) (sound : IsSoundGiven g) where
  taken : (b : Bool) (k : Given) → (if b then None else Some k) ≡ Some h → k ≡ h
  taken true k e = cc
  taken false k e = cc

  sound_part : (part : Part) → IsSoundPart part → with_part g part ≡ Some h → IsSoundGiven h
  unfolding IsSoundPart
  sound_part (an_operand word) is e = subst IsSoundGiven (taken (is_some g.operand) _ e) (record { workers = sound.workers; cells = sound.cells })
  sound_part (a_value Workers n) is e = subst IsSoundGiven (taken (is_some g.workers) _ e) (record { workers = is; cells = sound.cells })
  sound_part (a_value Steps n) is e = subst IsSoundGiven (taken (is_some g.steps) _ e) (record { workers = sound.workers; cells = sound.cells })
  sound_part (a_value Cells n) is e = subst IsSoundGiven (taken (is_some g.cells) _ e) (record { workers = sound.workers; cells = is.0 })

some_given : (g h : Given) → Some g ≡ Some h → g ≡ h
some_given g h e = cc

no_given : (h : Given) → None ≡ Some h → ⊥
no_given h e = cc

sound_all : (g h : Given) (parts : List Part) → IsSoundGiven g → Each IsSoundPart parts → with_parts g parts ≡ Some h → IsSoundGiven h
sound_all g h [] sound each e = subst IsSoundGiven (some_given g h e) sound
sound_all g h (part ∷ parts) sound each e = go (with_part g part) refl (λ k. sound_all k h parts)
  where
    go : (o : Option Given) → with_part g part ≡ o → ((k : Given) → IsSoundGiven k → Each IsSoundPart parts → with_parts k parts ≡ Some h → IsSoundGiven h) → IsSoundGiven h
    go None is rest = absurd (no_given h (sym (ap (option_and_then (λ k. with_parts k parts)) is) ∙ e))
    go (Some k) is rest = rest k (sound_part g k sound part each.0 is) each.1 (sym (ap (option_and_then (λ k. with_parts k parts)) is) ∙ e)

nothing_sound : IsSoundGiven nothing
nothing_sound = record { workers = tt; cells = tt }

sound_given : (words : List (List ℕ)) (g : Given) → Adds nothing words g → IsSoundGiven g
sound_given words g adds = sound_all nothing g adds.parts nothing_sound (sound_parts words adds.parts adds.spelled) adds.once

sound_cells : (cells : Option ℕ) → IfSome cells (λ n. 0 < n) → 0 < unwrap_or cells (standard Cells)
sound_cells None sound = lit< tt
sound_cells (Some n) sound = sound

sound_workers : (workers : Option ℕ) → IfSome workers (λ n. (0 < n) × (n ≤ 64)) → (0 < unwrap_or workers (standard Workers)) × (unwrap_or workers (standard Workers) ≤ 64)
sound_workers None sound = (lit< tt, lit≤ tt)
sound_workers (Some n) sound = sound

sound_made : (verb : List ℕ) (g : Given) (c : Command) → IsSoundGiven g → Makes verb g c → IsSound c
sound_made verb g c sound (to_compile n workers is) = let some = sound_workers workers sound.workers in (is, some.0, some.1)
sound_made verb g c sound (to_run n steps cells is) = (is, sound_cells cells sound.cells)
sound_made verb g c sound (to_dump n is) = is
sound_made verb g c sound (to_big word n workers is) =
    let some = sound_workers workers sound.workers in
    let procedures = valued 16384 word n is in
    (procedures.some, procedures.within, some.0, some.1)

pub asked_sound : (words : List (List ℕ)) (c : Command) → Asks words c → IsSound c
asked_sound words c (behind_verb verb behind given command gives makes) = sound_made verb given command (sound_given behind given gives) makes
