-- What is kept stays so when one more text is read.
use Rattle.std.proofs.Common.{◌≡◌, ℕ, ◌+◌, ◌<◌, ◌≤◌, Bool, List, [], ◌∷◌, ◌++◌, length, refl, sym, ◌∙◌, ap, subst, arith, if◌then◌else◌, append_assoc, length-append}
use Rattle.std.specs.List.{AllZip}
use Rattle.std.proofs.lemmas.List.Sums.{sum_by-append}
use Rattle.m2_base.specs.Lists.{Each, IsPrefixOf}
use Rattle.m2_base.specs.Meanings.{Meaning, blank, name, number, character, string, fixed, bad, meaning_of, is_blank_meaning}
use Rattle.m2_base.specs.Positions.{Position, after_bytes, first_position}
use Rattle.m2_base.specs.Tokens.{AreTokens, IsToken, Placed, names_in, names_of as names_meant, placed_from}
use Rattle.m2_base.specs.Units.{IsNamed}
use Rattle.m2_base.specs.declared.token.Token.{Token}
use Rattle.m2_base.proofs.Numbers.{length-with_names, with_names-grows}
use Rattle.m2_lex.proofs.TextUnit.{text_listed}
use Rattle.def_import.specs.Closure.{Found, IsKept, Progress, modules_named, modules_of, named_by, names_of, progress_of, tokens_in, with_modules}
use Rattle.def_import.specs.Outcomes.{IsRead, Reads}
use Rattle.def_import.proofs.FrontNames.{all_named, each_stays_named, front_named, numbers_named}
use Rattle.def_import.proofs.Naming.{with_modules-append, with_modules-longer}

-- ** Names: no text brings more than it has tokens

names_of_one : (m : Meaning) (behind : List (List ℕ)) (skipped added : List Placed) (x : Placed) → length behind ≤ length skipped → length behind ≤ length added
    → length (names_meant m ++ behind) ≤ length (if is_blank_meaning m then skipped else x ∷ added)
names_of_one blank behind skipped added x h k = h
names_of_one (name text) behind skipped added x h k = omega (arith, k)
names_of_one (number value) behind skipped added x h k = omega (arith, k)
names_of_one (character value) behind skipped added x h k = omega (arith, k)
names_of_one (string bytes) behind skipped added x h k = omega (arith, k)
names_of_one (fixed kind) behind skipped added x h k = omega (arith, k)
names_of_one (bad code) behind skipped added x h k = omega (arith, k)

names_placed : (p : Position) (at : ℕ) (lexemes : List (List ℕ)) → length (names_in lexemes) ≤ length (placed_from p at lexemes)
names_placed p at [] = omega arith
names_placed p at (l ∷ lexemes) =
    names_of_one (meaning_of l) (names_in lexemes) (placed_from (after_bytes p l) at lexemes) (placed_from (after_bytes p l) (at + 1) lexemes) (record { lexeme = l; at = at; position = p })
    (names_placed (after_bytes p l) at lexemes) (names_placed (after_bytes p l) (at + 1) lexemes)

zip_length : {A B : Type 0} (R : A → B → Type 0) (xs : List A) (ys : List B) → AllZip R xs ys → length xs ≤ length ys
zip_length R [] ys h = omega arith
zip_length R (x ∷ xs) [] h = absurd h
zip_length R (x ∷ xs) (y ∷ ys) h = omega (arith, zip_length R xs ys h.1)

pub few_names : (old new : List (List ℕ)) (bytes : List ℕ) (tokens : List Token) → AreTokens old new bytes tokens → length new ≤ length old + length tokens
few_names old new bytes tokens are =
    omega (arith, ap length are.names, length-with_names old (names_in are.lexemes), names_placed first_position 0 are.lexemes, zip_length (IsToken new) (placed_from first_position 0 are.lexemes) tokens are.each)

pub names_grow : (old new : List (List ℕ)) (bytes : List ℕ) (tokens : List Token) → AreTokens old new bytes tokens → IsPrefixOf old new
names_grow old new bytes tokens are = let grown = with_names-grows old (names_in are.lexemes) in record { rest = grown.0; joined = sym grown.1 ∙ sym are.names }

-- ** Modules and tokens

named_by-append : (found more : List Found) → named_by (found ++ more) ≡ named_by found ++ named_by more
named_by-append [] more = refl
named_by-append (f ∷ found) more = ap (λ n. names_of (modules_of f.front) ++ n) (named_by-append found more) ∙ sym (append_assoc (names_of (modules_of f.front)) (named_by found) (named_by more))

-- the modules named with one more text
pub modules_with : (found : List Found) (f : Found) → modules_named (found ++ f ∷ []) ≡ with_modules (modules_named found) (names_of (modules_of f.front))
modules_with found f =
    ap (with_modules []) (named_by-append found (f ∷ [])) ∙ with_modules-append [] (named_by found) (names_of (modules_of f.front) ++ [])
    ∙ with_modules-append (modules_named found) (names_of (modules_of f.front)) []

pub tokens_with : (found : List Found) (f : Found) → tokens_in (found ++ f ∷ []) ≡ tokens_in found + length f.text.tokens
tokens_with found f = omega (arith, sum_by-append (λ (g : Found). length g.text.tokens) found (f ∷ []))

-- if they are too many with the modules of this front, they are with the text
pub too_many_named : (found : List Found) (mods : List ℕ) (f : Found) → mods ≡ modules_named found → 257 ≤ length (with_modules mods (names_of (modules_of f.front)))
    → 257 ≤ length (modules_named (found ++ f ∷ []))
too_many_named found mods f kept many =
    omega (arith, many, ap (λ m. length (with_modules m (names_of (modules_of f.front)))) kept, ap length (modules_with found f))

-- the modules that a text names are names of the unit
pub read_named : (old new : List (List ℕ)) (definition : Bool) (name : ℕ) (bytes : List ℕ) (f : Found) → IsRead old definition name bytes new f → Each (IsNamed new) (names_of (modules_of f.front))
read_named old new definition file bytes f read =
    let values = (text_listed old new bytes f.text.tokens read.tokens read.short).1 in
    numbers_named new (modules_of f.front) (front_named new definition f.text.tokens f.front read.front values)

-- ** One more text

module _ (p : Progress) (mods keys : List ℕ) (count : ℕ) (definition : Bool) (name : ℕ) (bytes : List ℕ) (new : List (List ℕ)) (f : Found) (kept : IsKept p mods count)
    (read : IsRead p.names definition name bytes new f) (named : keys ≡ with_modules mods (names_of (modules_of f.front))) where
  -- the modules that are named then
  pub modules_are : keys ≡ modules_named (p.found ++ f ∷ [])
  modules_are = named ∙ ap (λ m. with_modules m (names_of (modules_of f.front))) kept.modules ∙ sym (modules_with p.found f)

  fronts_named : Each (IsNamed new) (names_of (modules_of f.front))
  fronts_named =
      let values = (text_listed p.names new bytes f.text.tokens read.tokens read.short).1 in
      numbers_named new (modules_of f.front) (front_named new definition f.text.tokens f.front read.front values)

  pub reads_on : length p.found ≤ length p.asked → length keys < 257 → count + length f.text.tokens ≤ 4194304 → (found : List Found) → found ≡ p.found ++ f ∷ []
      → IsKept (progress_of new found p.asked) keys (count + length f.text.tokens)
  reads_on room few fits found pushed = subst (λ all. IsKept (progress_of new all p.asked) keys (count + length f.text.tokens)) (sym pushed) (record {
    modules = modules_are;
    tokens = omega (arith, kept.tokens, tokens_with p.found f);
    few_tokens = fits;
    few_modules = few;
    few_names = omega (arith, kept.few_names, few_names p.names new bytes f.text.tokens read.tokens);
    few_asked = omega (arith, kept.few_asked, ap length named, with_modules-longer mods (names_of (modules_of f.front)));
    few_found = omega (arith, room, length-append p.found (f ∷ []));
    known =
        subst (Each (IsNamed new)) (sym named)
        (all_named new mods (names_of (modules_of f.front)) (each_stays_named (names_grow p.names new bytes f.text.tokens read.tokens) mods kept.known) fronts_named);
  })

  pub reads_one : length keys < 257 → count + length f.text.tokens ≤ 4194304 → (found : List Found) → found ≡ p.found ++ f ∷ [] → Reads p definition name bytes (progress_of new found p.asked)
  reads_one few fits found pushed = record {
    names = new;
    found = f;
    read = read;
    fits = record { tokens = omega (arith, kept.tokens, fits); texts = omega (arith, few, ap length modules_are) };
    longer = ap (λ all. progress_of new all p.asked) pushed;
  }
