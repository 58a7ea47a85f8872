-- The command of a verb, from what the program holds.
use Rattle.std.proofs.Common.{◌≡◌, inl, inr, ℕ, Bool, false, List, [], ◌∷◌, Option, Some, None, refl, sym, ◌∙◌, ap, subst}
use Rattle.std.specs.Prelude.{IsTrue, codes, unwrap_or, is_some}
use Rattle.std.proofs.lemmas.Bool.{false≢true}
use Rattle.command_words.specs.Command.{Asks, Command, IsNoCommand, Makes, MakesNone, behind_verb, big, compile, dump, run, to_big, to_compile, to_dump, to_run}
use Rattle.command_words.specs.Names.{is_name}
use Rattle.command_words.specs.Operands.{procedures_in}
use Rattle.command_words.specs.Parts.{Adds, Given, nothing}
use Rattle.command_words.specs.Words.{GivesNone, HasSettings}
use Rattle.command_words.specs.Verbs.{IsVerb, settings_of, verb_text}
use Rattle.command_words.specs.declared.setting.Setting.TheVariants.{Cells, Steps, Workers}
use Rattle.command_words.specs.declared.verb.Verb.{Verb}
use Rattle.command_words.specs.declared.verb.Verb.TheVariants as verbs
use Rattle.command_words.proofs.Verbs.{no_compile_dump, no_compile_run, no_dump_big, no_run_big, no_run_dump}

-- what is given where its fields are these
same_given : (g : Given) (operand : Option (List ℕ)) (workers steps cells : Option ℕ) → g.operand ≡ operand → g.workers ≡ workers → g.steps ≡ steps → g.cells ≡ cells → record { operand = operand; workers = workers; steps = steps; cells = cells } ≡ g
same_given g operand workers steps cells a b c d =
    let first : record { operand = operand; workers = workers; steps = steps; cells = cells } ≡ record { operand = g.operand; workers = workers; steps = steps; cells = cells } =
    ap (λ n. record { operand = n; workers = workers; steps = steps; cells = cells }) (sym a) in
    let second : record { operand = g.operand; workers = workers; steps = steps; cells = cells } ≡ record { operand = g.operand; workers = g.workers; steps = steps; cells = cells } =
    ap (λ n. record { operand = g.operand; workers = n; steps = steps; cells = cells }) (sym b) in
    let third : record { operand = g.operand; workers = g.workers; steps = steps; cells = cells } ≡ record { operand = g.operand; workers = g.workers; steps = g.steps; cells = cells } =
    ap (λ n. record { operand = g.operand; workers = g.workers; steps = n; cells = cells }) (sym c) in
    let fourth : record { operand = g.operand; workers = g.workers; steps = g.steps; cells = cells } ≡ record { operand = g.operand; workers = g.workers; steps = g.steps; cells = g.cells } =
    ap (λ n. record { operand = g.operand; workers = g.workers; steps = g.steps; cells = n }) (sym d) in
    first ∙ second ∙ third ∙ fourth

module _ (verb : List ℕ) (g : Given) (name : List ℕ) (given : g.operand ≡ Some name) where
  makes : (v : List ℕ) (h : Given) (c : Command) → Makes v h c → v ≡ verb → h ≡ g → Makes verb g c
  makes v h c m e f = subst (λ x. Makes verb x c) f (subst (λ x. Makes x h c) e m)

  pub makes_compile : IsTrue (is_name name) → (workers : ℕ) → verb ≡ codes "compile" → g.steps ≡ None → g.cells ≡ None → workers ≡ unwrap_or g.workers 4 → Makes verb g (compile name workers)
  makes_compile named workers e steps cells is =
      subst (λ n. Makes verb g (compile name n)) (sym is)
      (makes _ _ (compile name (unwrap_or g.workers 4)) (to_compile name g.workers named) (sym e) (same_given g (Some name) g.workers None None given refl steps cells))

  pub makes_run : IsTrue (is_name name) → (steps cells : ℕ) → verb ≡ codes "run" → g.workers ≡ None → steps ≡ unwrap_or g.steps 10000000 → cells ≡ unwrap_or g.cells 1000000 → Makes verb g (run name steps cells)
  makes_run named steps cells e workers is this =
      subst (λ n. Makes verb g (run name n cells)) (sym is) (subst (λ n. Makes verb g (run name (unwrap_or g.steps 10000000) n)) (sym this)
      (makes _ _ (run name (unwrap_or g.steps 10000000) (unwrap_or g.cells 1000000)) (to_run name g.steps g.cells named) (sym e) (same_given g (Some name) None g.steps g.cells given workers refl refl)))

  pub makes_dump : IsTrue (is_name name) → verb ≡ codes "dump" → g.workers ≡ None → g.steps ≡ None → g.cells ≡ None → Makes verb g (dump name)
  makes_dump named e workers steps cells = makes _ _ (dump name) (to_dump name named) (sym e) (same_given g (Some name) None None None given workers steps cells)

  pub makes_big : (procedures workers : ℕ) → procedures_in name ≡ Some procedures → verb ≡ codes "big" → g.steps ≡ None → g.cells ≡ None → workers ≡ unwrap_or g.workers 4 → Makes verb g (big procedures workers)
  makes_big procedures workers counted e steps cells is =
      subst (λ n. Makes verb g (big procedures n)) (sym is)
      (makes _ _ (big procedures (unwrap_or g.workers 4)) (to_big name procedures g.workers counted) (sym e) (same_given g (Some name) g.workers None None given refl steps cells))

-- ** The command of words

-- the words ask for the command of their verb with what is given behind it
pub asked : (all : List (List ℕ)) (c : Command) (verb : List ℕ) (words : List (List ℕ)) → all ≡ verb ∷ words → Asks all c → (g : Given) × Adds nothing words g × Makes verb g c
asked all c verb words e (behind_verb v ws g command given made) =
    let same : v ≡ verb = cc in
    let others : ws ≡ words = cc in
    (g, subst (λ x. Adds nothing x g) others given, subst (λ x. Makes x g command) same made)

-- ** The verb

-- what makes a command is a verb
made_by_verb : (verb : List ℕ) (g : Given) (c : Command) → Makes verb g c → (v : Verb) × (verb ≡ verb_text v)
made_by_verb verb g c (to_compile name workers is) = (verbs.Compile, refl)
made_by_verb verb g c (to_run name steps cells is) = (verbs.Run, refl)
made_by_verb verb g c (to_dump name is) = (verbs.Dump, refl)
made_by_verb verb g c (to_big word procedures workers is) = (verbs.Big, refl)

no_verb_made : (verb : List ℕ) (g : Given) (r : Option Verb) → r ≡ None → IsVerb verb r → MakesNone verb g
no_verb_made verb g r none is c made =
    let other : (v : Verb) → verb ≡ verb_text v → ⊥ = subst (IsVerb verb) none is in
    let by = made_by_verb verb g c made in
    other by.0 by.1

-- words that begin with no verb
pub no_verb_asked : (all : List (List ℕ)) (verb : List ℕ) (words : List (List ℕ)) (r : Option Verb) → all ≡ verb ∷ words → r ≡ None → IsVerb verb r → IsNoCommand all
no_verb_asked all verb words r e none is c h =
    let a = asked all c verb words e h in
    no_verb_made verb a.0 r none is c a.2

-- ** A name that is none

-- every verb but `big` asks for a module's name
data IsNamed (verb : List ℕ) (g : Given) : Type 0 where
  by_name : (name : List ℕ) → g.operand ≡ Some name → IsTrue (is_name name) → IsNamed verb g
  by_number : verb ≡ codes "big" → IsNamed verb g

named_by : (verb : List ℕ) (g : Given) (c : Command) → Makes verb g c → IsNamed verb g
named_by verb g c (to_compile name workers is) = by_name name refl is
named_by verb g c (to_run name steps cells is) = by_name name refl is
named_by verb g c (to_dump name is) = by_name name refl is
named_by verb g c (to_big word procedures workers is) = by_number refl

pub nameless : (verb : List ℕ) (g : Given) (name : List ℕ) → (verb ≡ codes "big" → ⊥) → g.operand ≡ Some name → is_name name ≡ false → MakesNone verb g
nameless verb g name other given not c made = go (named_by verb g c made)
  where
    same : (x y : List ℕ) → Some x ≡ Some y → x ≡ y
    same x y e = cc

    go : IsNamed verb g → ⊥
    go (by_name n e is) = false≢true (sym not ∙ ap is_name (same name n (sym given ∙ e)) ∙ is)
    go (by_number e) = other e

-- what isn't there
pub none_of : (o : Option ℕ) (b : Bool) → b ≡ is_some o → b ≡ false → o ≡ None
none_of None b e f = refl
none_of (Some n) b e f = absurd (false≢true (sym f ∙ e))

-- ** The options of a verb

none_some : (n : ℕ) → None ≡ Some n → ⊥
none_some n e = cc

with_workers : (g : Given) → g.steps ≡ None → g.cells ≡ None → HasSettings (Workers ∷ []) g
with_workers g steps cells Workers n e = inl refl
with_workers g steps cells Steps n e = absurd (none_some n (sym steps ∙ e))
with_workers g steps cells Cells n e = absurd (none_some n (sym cells ∙ e))

with_both : (g : Given) → g.workers ≡ None → HasSettings (Steps ∷ Cells ∷ []) g
with_both g workers Workers n e = absurd (none_some n (sym workers ∙ e))
with_both g workers Steps n e = inl refl
with_both g workers Cells n e = inr (inl refl)

with_none : (g : Given) → g.workers ≡ None → g.steps ≡ None → g.cells ≡ None → HasSettings [] g
with_none g workers steps cells Workers n e = absurd (none_some n (sym workers ∙ e))
with_none g workers steps cells Steps n e = absurd (none_some n (sym steps ∙ e))
with_none g workers steps cells Cells n e = absurd (none_some n (sym cells ∙ e))

-- a verb's command is made of options of the verb
made_of : (text : List ℕ) (g : Given) (c : Command) (v : Verb) → Makes text g c → text ≡ verb_text v → HasSettings (settings_of v) g
made_of text g c verbs.Compile (to_compile name workers is) e = with_workers (record { operand = Some name; workers = workers; steps = None; cells = None }) refl refl
made_of text g c verbs.Run (to_compile name workers is) e = absurd (no_compile_run (codes "compile") refl e)
made_of text g c verbs.Dump (to_compile name workers is) e = absurd (no_compile_dump (codes "compile") refl e)
made_of text g c verbs.Big (to_compile name workers is) e = with_workers (record { operand = Some name; workers = workers; steps = None; cells = None }) refl refl
made_of text g c verbs.Compile (to_run name steps cells is) e = absurd (no_compile_run (codes "run") e refl)
made_of text g c verbs.Run (to_run name steps cells is) e = with_both (record { operand = Some name; workers = None; steps = steps; cells = cells }) refl
made_of text g c verbs.Dump (to_run name steps cells is) e = absurd (no_run_dump (codes "run") refl e)
made_of text g c verbs.Big (to_run name steps cells is) e = absurd (no_run_big (codes "run") refl e)
made_of text g c verbs.Compile (to_dump name is) e = absurd (no_compile_dump (codes "dump") e refl)
made_of text g c verbs.Run (to_dump name is) e = absurd (no_run_dump (codes "dump") e refl)
made_of text g c verbs.Dump (to_dump name is) e = with_none (record { operand = Some name; workers = None; steps = None; cells = None }) refl refl refl
made_of text g c verbs.Big (to_dump name is) e = absurd (no_dump_big (codes "dump") refl e)
made_of text g c verbs.Compile (to_big word procedures workers is) e = with_workers (record { operand = Some word; workers = workers; steps = None; cells = None }) refl refl
made_of text g c verbs.Run (to_big word procedures workers is) e = absurd (no_run_big (codes "big") e refl)
made_of text g c verbs.Dump (to_big word procedures workers is) e = absurd (no_dump_big (codes "big") e refl)
made_of text g c verbs.Big (to_big word procedures workers is) e = with_workers (record { operand = Some word; workers = workers; steps = None; cells = None }) refl refl

pub not_given : (all : List (List ℕ)) (text : List ℕ) (words : List (List ℕ)) (v : Verb) → all ≡ text ∷ words → text ≡ verb_text v → GivesNone v words → IsNoCommand all
not_given all text words v e is none c h =
    let a = asked all c text words e h in
    none a.0 (made_of text a.0 c v a.2 is) a.1

module _ (all : List (List ℕ)) (verb : List ℕ) (words : List (List ℕ)) (given : Given) (e : all ≡ verb ∷ words) (adds : Adds nothing words given) where
  pub asks_made : (c : Command) → Makes verb given c → Asks all c
  asks_made c made = subst (λ x. Asks x c) (sym e) (behind_verb verb words given c adds made)
