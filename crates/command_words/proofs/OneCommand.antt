-- Words ask for one command.
use Rattle.std.proofs.Common.{◌≡◌, ℕ, List, [], ◌∷◌, ◌++◌, map, Some, refl, sym, ◌∙◌, ap, subst}
use Rattle.std.specs.Prelude.{codes, unwrap_or}
use Rattle.command_words.specs.Command.{Asks, Command, Makes, behind_verb, big, compile, dump, run, to_big, to_compile, to_dump, to_run}
use Rattle.command_words.specs.Operands.{procedures_in}
use Rattle.command_words.specs.Parts.{Adds, Given, Part, Spells, an_operand, a_value, over, named, spaced, joined, marked, nothing, with_parts}
use Rattle.command_words.specs.Settings.{spelling, standard, value_in}
use Rattle.command_words.specs.declared.setting.Setting.TheVariants.{Workers, Steps, Cells}
use Rattle.command_words.proofs.Apart.{mark_joined, mark_spaced, named_joined, named_mark, named_spaced, one_joined, one_spaced, spaced_joined}
use Rattle.command_words.proofs.Verbs.{no_compile_big, no_compile_dump, no_compile_run, no_dump_big, no_run_big, no_run_dump}
use Rattle.command_words.proofs.Taking.{Begins, begins_here, by_joined, by_mark, by_operand, by_spaced, nothing_spelled}

some_value : (n m : ℕ) → Some n ≡ Some m → n ≡ m
some_value n m e = cc

-- they spell the same parts
pub one_spelling : (words : List (List ℕ)) (these those : List Part) → Spells words these → Spells words those → these ≡ those
one_spelling words these those over h = sym (nothing_spelled [] those refl h)
one_spelling words these those (named word words' parts is spelled) h = go (λ rest other. one_spelling words' parts rest spelled other) those (begins_here those word words' h)
  where
    go : ((rest : List Part) → Spells words' rest → parts ≡ rest) → (those : List Part) → Begins word words' those → an_operand word ∷ parts ≡ those
    go same_rest those (by_operand rest k other e) = ap (λ x. an_operand word ∷ x) (same_rest rest other) ∙ sym e
    go same_rest those (by_spaced t u m behind rest f g k l e) = absurd (named_spaced word t is f)
    go same_rest those (by_joined t u m rest f g k e) = absurd (named_joined word t u is f)
    go same_rest those (by_mark f g e) = absurd (named_mark word is f)
one_spelling words these those (spaced s v n words' parts is spelled) h = go (λ rest other. one_spelling words' parts rest spelled other) those (begins_here those (spelling s) (v ∷ words') h)
  where
    go : ((rest : List Part) → Spells words' rest → parts ≡ rest) → (those : List Part) → Begins (spelling s) (v ∷ words') those → a_value s n ∷ parts ≡ those
    go same_rest those (by_operand rest k other e) = absurd (named_spaced (spelling s) s k refl)
    go same_rest those (by_spaced t u m behind rest f g k l e) =
        let same : s ≡ t = one_spaced s t f in
        let text : v ≡ u = cc in
        let others : behind ≡ words' = cc in
        let count : n ≡ m = some_value n m (sym is ∙ ap (value_in s) text ∙ ap (λ x. value_in x u) same ∙ k) in
        ap (λ x. a_value x n ∷ parts) same ∙ ap (λ x. a_value t x ∷ parts) count ∙ ap (λ x. a_value t m ∷ x) (same_rest rest (subst (λ x. Spells x rest) others l)) ∙ sym e
    go same_rest those (by_joined t u m rest f g k e) = absurd (spaced_joined s t u f)
    go same_rest those (by_mark f g e) = absurd (mark_spaced s (sym f))
one_spelling words these those (joined s v n words' parts is spelled) h = go (λ rest other. one_spelling words' parts rest spelled other) those (begins_here those (spelling s ++ 61 ∷ v) words' h)
  where
    go : ((rest : List Part) → Spells words' rest → parts ≡ rest) → (those : List Part) → Begins (spelling s ++ 61 ∷ v) words' those → a_value s n ∷ parts ≡ those
    go same_rest those (by_operand rest k other e) = absurd (named_joined (spelling s ++ 61 ∷ v) s v k refl)
    go same_rest those (by_spaced t u m behind rest f g k l e) = absurd (spaced_joined t s v (sym f))
    go same_rest those (by_joined t u m rest f g k e) =
        let same = one_joined s t v u f in
        let count : n ≡ m = some_value n m (sym is ∙ ap (value_in s) same.1 ∙ ap (λ x. value_in x u) same.0 ∙ g) in
        ap (λ x. a_value x n ∷ parts) same.0 ∙ ap (λ x. a_value t x ∷ parts) count ∙ ap (λ x. a_value t m ∷ x) (same_rest rest k) ∙ sym e
    go same_rest those (by_mark f g e) = absurd (mark_joined s v (sym f))
one_spelling words these those (marked words' each) h = go those (begins_here those (codes "--") words' h)
  where
    go : (those : List Part) → Begins (codes "--") words' those → map an_operand words' ≡ those
    go those (by_operand rest k other e) = absurd (named_mark (codes "--") k refl)
    go those (by_spaced t u m behind rest f g k l e) = absurd (mark_spaced t f)
    go those (by_joined t u m rest f g k e) = absurd (mark_joined t u f)
    go those (by_mark f g e) = sym e

some_given : (g h : Given) → Some g ≡ Some h → g ≡ h
some_given g h e = cc

pub one_given : (words : List (List ℕ)) (these those : Given) → Adds nothing words these → Adds nothing words those → these ≡ those
one_given words these those a b = some_given these those (sym a.once ∙ ap (with_parts nothing) (one_spelling words a.parts b.parts a.spelled b.spelled) ∙ b.once)

-- a verb makes one command of what is given
abbrev workers_of : Given → ℕ
workers_of g = unwrap_or g.workers (standard Workers)

abbrev steps_of : Given → ℕ
steps_of g = unwrap_or g.steps (standard Steps)

abbrev cells_of : Given → ℕ
cells_of g = unwrap_or g.cells (standard Cells)

abbrev operand_of : Given → List ℕ
operand_of g = unwrap_or g.operand []

abbrev procedures_of : Given → ℕ
procedures_of g = unwrap_or (procedures_in (operand_of g)) 0

data As (verb : List ℕ) (g : Given) (c : Command) : Type 0 where
  as_compile : verb ≡ codes "compile" → c ≡ compile (operand_of g) (workers_of g) → As verb g c
  as_run : verb ≡ codes "run" → c ≡ run (operand_of g) (steps_of g) (cells_of g) → As verb g c
  as_dump : verb ≡ codes "dump" → c ≡ dump (operand_of g) → As verb g c
  as_big : verb ≡ codes "big" → c ≡ big (procedures_of g) (workers_of g) → As verb g c

as_made : (verb : List ℕ) (g : Given) (c : Command) → Makes verb g c → As verb g c
as_made verb g c (to_compile name workers is) = as_compile refl refl
as_made verb g c (to_run name steps cells is) = as_run refl refl
as_made verb g c (to_dump name is) = as_dump refl refl
as_made verb g c (to_big word procedures workers is) = as_big refl (ap (λ o. big (unwrap_or o 0) (unwrap_or workers (standard Workers))) (sym is))

one_made : (verb : List ℕ) (g : Given) (this other : Command) → As verb g this → As verb g other → this ≡ other
one_made verb g this other (as_compile v c) (as_compile w d) = c ∙ sym d
one_made verb g this other (as_compile v c) (as_run w d) = absurd (no_compile_run verb v w)
one_made verb g this other (as_compile v c) (as_dump w d) = absurd (no_compile_dump verb v w)
one_made verb g this other (as_compile v c) (as_big w d) = absurd (no_compile_big verb v w)
one_made verb g this other (as_run v c) (as_compile w d) = absurd (no_compile_run verb w v)
one_made verb g this other (as_run v c) (as_run w d) = c ∙ sym d
one_made verb g this other (as_run v c) (as_dump w d) = absurd (no_run_dump verb v w)
one_made verb g this other (as_run v c) (as_big w d) = absurd (no_run_big verb v w)
one_made verb g this other (as_dump v c) (as_compile w d) = absurd (no_compile_dump verb w v)
one_made verb g this other (as_dump v c) (as_run w d) = absurd (no_run_dump verb w v)
one_made verb g this other (as_dump v c) (as_dump w d) = c ∙ sym d
one_made verb g this other (as_dump v c) (as_big w d) = absurd (no_dump_big verb v w)
one_made verb g this other (as_big v c) (as_compile w d) = absurd (no_compile_big verb w v)
one_made verb g this other (as_big v c) (as_run w d) = absurd (no_run_big verb w v)
one_made verb g this other (as_big v c) (as_dump w d) = absurd (no_dump_big verb w v)
one_made verb g this other (as_big v c) (as_big w d) = c ∙ sym d

pub one_command_lem : (words : List (List ℕ)) (this other : Command) → Asks words this → Asks words other → this ≡ other
one_command_lem words this other (behind_verb verb behind given command gives makes) h = go (verb ∷ behind) other refl h
  where
    go : (all : List (List ℕ)) (other : Command) → all ≡ verb ∷ behind → Asks all other → command ≡ other
    go all other e (behind_verb verb' behind' given' command' gives' makes') =
        let same : verb' ≡ verb = cc in
        let rest : behind' ≡ behind = cc in
        let one : given' ≡ given = one_given behind given' given (subst (λ x. Adds nothing x given') rest gives') gives in
        one_made verb given command command' (as_made verb given command makes) (subst (λ x. As x given command') same (subst (λ x. As verb' x command') one (as_made verb' given' command' makes')))
