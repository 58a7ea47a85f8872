-- The texts that are reached make up a unit.
use Rattle.std.proofs.Common.{◌≡◌, ◌≢◌, ℕ, zero, suc, ◌+◌, ◌<◌, ◌≤◌, Bool, true, false, ◌&&◌, ◌||◌, not, List, [], ◌∷◌, ◌++◌, Option, Some, None, length, length-append, get_or, map, refl, sym, ◌∙◌, ap, subst, arith, slice_get, if◌then◌else◌, nat_eq, inl, inr}
use Rattle.std.specs.List.{list_any}
use Rattle.std.specs.Prelude.{fold, position, sum_by}
use Rattle.std.proofs.lemmas.Bool.{eq-eqb, false≢true, true≢false}
use Rattle.std.proofs.lemmas.List.{get_or_append_left, length-map, map-append}
use Rattle.std.proofs.lemmas.Option.{slice_get_within}
use Rattle.m2_io.specs.Files.{Files}
use Rattle.m2_base.specs.Lists.{Each, IsIn, IsPrefixOf}
use Rattle.m2_base.specs.Names.{number_in, standard_names, with_name}
use Rattle.m2_base.specs.Units.{AllDiffer, HasOneMain, HasValue, IsIdentifier, IsNamed, IsNumbered, IsOwn, IsSpelling, IsText, IsUnit, TextOf, definitions_of}
use Rattle.m2_base.specs.declared.kind.TokenKind.TheVariants as kind
use Rattle.m2_base.specs.declared.kind.TokenKind.{TokenKind}
use Rattle.m2_base.specs.declared.token.Token.{Token}
use Rattle.m2_base.specs.declared.trees.Ident.{Ident}
use Rattle.m2_base.proofs.Kept.{IsPrefixOf-trans}
use Rattle.m2_base.proofs.Numbers.{length-standard_names, length-with_names, with_name-grows}
use Rattle.m2_lex.proofs.SpelledNames.{spelled_after, spelled_with, standard_spelled}
use Rattle.m2_lex.proofs.TextUnit.{numbered_at, text_at, text_listed}
use Rattle.def_import.specs.Closure.{Found, Progress, answer_at, answered, modules_named, modules_of, named_by, names_of, next_module, own_name, progress_of, text_of_module, tokens_in, with_module, with_modules}
use Rattle.def_import.specs.Dependencies.{and_taken, definitions, first_ready, is_in, is_ready, next_taken, taken_in}
use Rattle.def_import.specs.Outcomes.{IsRead, Reaches, Reads, begun, is_there, main_read, not_there, own_text, text_told, then_asks, unit_in}
use Rattle.def_import.proofs.Asking.{each_at}
use Rattle.def_import.proofs.FrontNames.{all_named, each_stays_named, stays_named}
use Rattle.def_import.proofs.Gathers.{few_modules}
use Rattle.def_import.proofs.Naming.{modules_grow, with_modules-longer}
use Rattle.def_import.proofs.OneMore.{few_names, modules_with, names_grow, read_named, tokens_with}

-- ** Texts stay texts

stays_numbered : {old new : List (List ℕ)} → IsPrefixOf old new → (name : ℕ) → IsNumbered old name → IsNumbered new name
stays_numbered {old} {new} grows name is =
    let same : get_or new name [] ≡ get_or old name [] =
    ap (λ (all : List (List ℕ)). get_or all name []) (sym grows.joined) ∙ get_or_append_left old grows.rest [] name is.there in
    record { there = omega (arith, is.there, ap length grows.joined, length-append old grows.rest); short = omega (arith, is.short, ap length same) }

module _ {old new : List (List ℕ)} (grows : IsPrefixOf old new) where
  value_stays : (k : TokenKind) (value : ℕ) → HasValue old k value → HasValue new k value
  value_stays kind.Identifier value h = stays_named grows value h
  value_stays kind.«String» value h = stays_numbered grows value h
  value_stays kind.Number value h = h
  value_stays kind.Character value h = h
  value_stays kind.Bad value h = h
  value_stays _ value h = tt

  values_stay : (ts : List Token) → Each (λ (t : Token). HasValue old t.kind t.value) ts → Each (λ (t : Token). HasValue new t.kind t.value) ts
  values_stay [] h = tt
  values_stay (t ∷ ts) h = (value_stays t.kind t.value h.0, values_stay ts h.1)

  texts_stay : (found : List Found) → Each (λ (f : Found). IsText old f.text) found → Each (λ (f : Found). IsText new f.text) found
  texts_stay [] h = tt
  texts_stay (f ∷ found) h =
      (record { named = stays_named grows f.text.name h.0.named; count = h.0.count; numbered = h.0.numbered; values = values_stay f.text.tokens h.0.values }, texts_stay found h.1)

pub each_pushed : {A : Type 0} (P : A → Type 0) (xs : List A) (x : A) → Each P xs → P x → Each P (xs ++ x ∷ [])
each_pushed P [] x h k = (k, tt)
each_pushed P (y ∷ xs) x h k = (h.0, each_pushed P xs x h.1 k)

each_map : {A B : Type 0} (P : B → Type 0) (f : A → B) (xs : List A) → Each (λ x. P (f x)) xs → Each P (map f xs)
each_map P f [] h = tt
each_map P f (x ∷ xs) h = (h.0, each_map P f xs h.1)

-- ** Lists whose items differ

pub not_in : (xs : List ℕ) (x : ℕ) → list_any (λ y. nat_eq y x) xs ≡ false → IsIn x xs → ⊥
not_in [] x h i = i
not_in (y ∷ xs) x h i = go (nat_eq y x) refl h i (λ h i. not_in xs x h i)
  where
    go : (b : Bool) → nat_eq y x ≡ b → (b || list_any (λ z. nat_eq z x) xs) ≡ false → IsIn x (y ∷ xs) → (list_any (λ z. nat_eq z x) xs ≡ false → IsIn x xs → ⊥) → ⊥
    go true e h i next = true≢false h
    go false e h (inl same) next = true≢false (sym (eq-eqb y x (sym same)) ∙ e)
    go false e h (inr i) next = next h i

not_among : (xs : List ℕ) (x : ℕ) → list_any (nat_eq x) xs ≡ false → IsIn x xs → ⊥
not_among [] x h i = i
not_among (y ∷ xs) x h i = go (nat_eq x y) refl h i (λ h i. not_among xs x h i)
  where
    go : (b : Bool) → nat_eq x y ≡ b → (b || list_any (nat_eq x) xs) ≡ false → IsIn x (y ∷ xs) → (list_any (nat_eq x) xs ≡ false → IsIn x xs → ⊥) → ⊥
    go true e h i next = true≢false h
    go false e h (inl same) next = true≢false (sym (eq-eqb x y same) ∙ e)
    go false e h (inr i) next = next h i

in_pushed : (xs : List ℕ) (x y : ℕ) → IsIn y (xs ++ x ∷ []) → (y ≢ x) → IsIn y xs
in_pushed [] x y (inl e) n = n e
in_pushed [] x y (inr i) n = i
in_pushed (z ∷ xs) x y (inl e) n = inl e
in_pushed (z ∷ xs) x y (inr i) n = inr (in_pushed xs x y i n)

in_front : (xs : List ℕ) (y z : ℕ) → y ≡ z → IsIn z xs → IsIn y xs
in_front xs y z e i = subst (λ w. IsIn w xs) (sym e) i

differ_pushed : (xs : List ℕ) (x : ℕ) → AllDiffer xs → (IsIn x xs → ⊥) → AllDiffer (xs ++ x ∷ [])
differ_pushed [] x d n = ((λ i. i), tt)
differ_pushed (y ∷ xs) x d n = ((λ i. d.0 (in_pushed xs x y i (λ e. n (inl (sym e))))), differ_pushed xs x d.1 (λ i. n (inr i)))

with_differ : (xs : List ℕ) (x : ℕ) → AllDiffer xs → AllDiffer (with_module xs x)
with_differ xs x d = go (list_any (nat_eq x) xs) refl
  where
    go : (b : Bool) → list_any (nat_eq x) xs ≡ b → AllDiffer (if b then xs else xs ++ x ∷ [])
    go true e = d
    go false e = differ_pushed xs x d (not_among xs x e)

all_with_differ : (xs ys : List ℕ) → AllDiffer xs → AllDiffer (with_modules xs ys)
all_with_differ xs [] d = d
all_with_differ xs (y ∷ ys) d = all_with_differ (with_module xs y) ys (with_differ xs y d)

-- ** The modules whose texts are there

abbrev chosen : List ℕ → List (Option ℕ) → List ℕ
chosen [] asked = []
chosen (m ∷ ms) [] = []
chosen (m ∷ ms) (None ∷ asked) = chosen ms asked
chosen (m ∷ ms) (Some k ∷ asked) = m ∷ chosen ms asked

chosen_nothing : (ms : List ℕ) → chosen ms [] ≡ []
chosen_nothing [] = refl
chosen_nothing (m ∷ ms) = refl

chosen_none : (ms : List ℕ) (asked : List (Option ℕ)) → chosen ms (asked ++ None ∷ []) ≡ chosen ms asked
chosen_none [] asked = refl
chosen_none (m ∷ ms) [] = chosen_nothing ms
chosen_none (m ∷ ms) (None ∷ asked) = chosen_none ms asked
chosen_none (m ∷ ms) (Some k ∷ asked) = ap (λ n. m ∷ n) (chosen_none ms asked)

chosen_some : (ms : List ℕ) (asked : List (Option ℕ)) (k x : ℕ) → slice_get ms (length asked) ≡ Some x → chosen ms (asked ++ Some k ∷ []) ≡ chosen ms asked ++ x ∷ []
chosen_some [] asked k x e = cc
chosen_some (m ∷ ms) [] k x e = let same : m ≡ x = cc in ap (λ n. m ∷ n) (chosen_nothing ms) ∙ ap (λ n. n ∷ []) same
chosen_some (m ∷ ms) (None ∷ asked) k x e = chosen_some ms asked k x e
chosen_some (m ∷ ms) (Some j ∷ asked) k x e = ap (λ n. m ∷ n) (chosen_some ms asked k x e)

chosen_more : (ms more : List ℕ) (asked : List (Option ℕ)) → length asked ≤ length ms → chosen (ms ++ more) asked ≡ chosen ms asked
chosen_more [] more [] h = chosen_nothing more
chosen_more [] more (a ∷ asked) h = absurd (omega (arith, h))
chosen_more (m ∷ ms) more [] h = refl
chosen_more (m ∷ ms) more (None ∷ asked) h = chosen_more ms more asked (omega (arith, h))
chosen_more (m ∷ ms) more (Some k ∷ asked) h = ap (λ n. m ∷ n) (chosen_more ms more asked (omega (arith, h)))

in_chosen : (ms : List ℕ) (asked : List (Option ℕ)) (x : ℕ) → IsIn x (chosen ms asked) → IsIn x ms
in_chosen [] asked x i = i
in_chosen (m ∷ ms) [] x i = absurd i
in_chosen (m ∷ ms) (None ∷ asked) x i = inr (in_chosen ms asked x i)
in_chosen (m ∷ ms) (Some k ∷ asked) x (inl e) = inl e
in_chosen (m ∷ ms) (Some k ∷ asked) x (inr i) = inr (in_chosen ms asked x i)

chosen_differ : (ms : List ℕ) (asked : List (Option ℕ)) → AllDiffer ms → AllDiffer (chosen ms asked)
chosen_differ [] asked d = tt
chosen_differ (m ∷ ms) [] d = tt
chosen_differ (m ∷ ms) (None ∷ asked) d = chosen_differ ms asked d.1
chosen_differ (m ∷ ms) (Some k ∷ asked) d = ((λ i. d.0 (in_chosen ms asked m i)), chosen_differ ms asked d.1)

-- ** The order

pub record IsNext (taken : List ℕ) (k n j : ℕ) : Type 0 where
  pub from : k ≤ j
  pub within : j < k + n
  pub new : is_in taken j ≡ false

pub left_true : (a b : Bool) → (not a && b) ≡ true → a ≡ false
left_true true b h = absurd (false≢true h)
left_true false b h = refl

pub next_is : (p : Progress) (taken : List ℕ) (k : ℕ) (found : List Found) (j : ℕ) → first_ready p taken k found ≡ Some j → IsNext taken k (length found) j
next_is p taken k [] j e = cc
next_is p taken k (f ∷ found) j e = go (is_ready p taken k f) refl e (λ e. next_is p taken (k + 1) found j e)
  where
    go : (b : Bool) → is_ready p taken k f ≡ b → (if b then Some k else first_ready p taken (k + 1) found) ≡ Some j
        → (first_ready p taken (k + 1) found ≡ Some j → IsNext taken (k + 1) (length found) j) → IsNext taken k (length (f ∷ found)) j
    go true ready e next =
        let same : k ≡ j = cc in
        record { from = omega (arith, same); within = omega (arith, same); new = subst (λ x. is_in taken x ≡ false) same (left_true (is_in taken k) _ ready) }
    go false ready e next = let rest = next e in record { from = omega (arith, rest.from); within = omega (arith, rest.within); new = rest.new }

pub record IsSoundOrder (n : ℕ) (order : List ℕ) : Type 0 where
  pub ordered : Each (λ k. (0 < k) × (k < n)) order
  pub once : AllDiffer order

definitions_few : (found : List Found) → 0 < length found → 1 + length (definitions found) ≡ length found
definitions_few [] h = absurd (omega (arith, h))
definitions_few (f ∷ found) h = omega arith

pub order_sound : (p : Progress) (rounds : ℕ) → 0 < length p.found → IsSoundOrder (length p.found) (taken_in p rounds)
order_sound p zero some = record { ordered = tt; once = tt }
order_sound p (suc rounds) some = go (next_taken p (taken_in p rounds)) refl (order_sound p rounds some)
  where
    go : (o : Option ℕ) → next_taken p (taken_in p rounds) ≡ o → IsSoundOrder (length p.found) (taken_in p rounds) → IsSoundOrder (length p.found) (and_taken (taken_in p rounds) o)
    go None e h = h
    go (Some j) e h =
        let next = next_is p (taken_in p rounds) 1 (definitions p.found) j e in
        record {
          ordered = each_pushed (λ k. (0 < k) × (k < length p.found)) (taken_in p rounds) j h.ordered (omega (arith, next.from), omega (arith, next.within, definitions_few p.found some));
          once = differ_pushed (taken_in p rounds) j h.once (not_in (taken_in p rounds) j next.new);
        }

-- ** All together

-- the number of a definition text, or none
abbrev IsAnswer : ℕ → Option ℕ → Type 0
IsAnswer n None = Unit {0}
IsAnswer n (Some k) = (0 < k) × (k < n)

answer_stays : (n m : ℕ) → n ≤ m → (o : Option ℕ) → IsAnswer n o → IsAnswer m o
answer_stays n m le None h = tt
answer_stays n m le (Some k) h = (h.0, omega (arith, h.1, le))

answers_stay : (n m : ℕ) → n ≤ m → (asked : List (Option ℕ)) → Each (IsAnswer n) asked → Each (IsAnswer m) asked
answers_stay n m le [] h = tt
answers_stay n m le (o ∷ asked) h = (answer_stays n m le o h.0, answers_stay n m le asked h.1)

answer_within : (n : ℕ) (asked : List (Option ℕ)) (place : Option ℕ) → Each (IsAnswer n) asked → IsAnswer n (answer_at asked place)
answer_within n asked None h = tt
answer_within n [] (Some zero) h = tt
answer_within n [] (Some (suc i)) h = tt
answer_within n (o ∷ asked) (Some zero) h = h.0
answer_within n (o ∷ asked) (Some (suc i)) h = answer_within n asked (Some i) h.1

abbrev pub file_names : List Found → List ℕ
file_names found = map (λ f. f.text.name) found

record IsSound (p : Progress) : Type 0 where
  standard : IsPrefixOf standard_names p.names
  spelled : Each IsSpelling p.names
  few_tokens : tokens_in p.found ≤ 4194304
  names_few : length p.names ≤ 29 + tokens_in p.found
  texts : Each (λ f. IsText p.names f.text) p.found
  some : 0 < length p.found
  few : length p.found ≤ length p.asked + 1
  main : HasOneMain (map (λ f. f.text) p.found)
  answers : Each (IsAnswer (length p.found)) p.asked
  asked : length p.asked ≤ length (modules_named p.found)
  chosen_names : file_names (definitions p.found) ≡ chosen (modules_named p.found) p.asked
  known : Each (IsNamed p.names) (modules_named p.found)

asked_sound : (p : Progress) (name : ℕ) → IsSound p → next_module p ≡ Some name → IsSound (answered p None)
asked_sound p name h next = record {
  standard = h.standard;
  spelled = h.spelled;
  few_tokens = h.few_tokens;
  names_few = h.names_few;
  texts = h.texts;
  some = h.some;
  few = omega (arith, h.few, length-append p.asked (None ∷ []));
  main = h.main;
  answers = each_pushed (IsAnswer (length p.found)) p.asked None h.answers tt;
  asked = omega (arith, slice_get_within (modules_named p.found) (length p.asked) name next, length-append p.asked (None ∷ []));
  chosen_names = h.chosen_names ∙ sym (chosen_none (modules_named p.found) p.asked);
  known = h.known;
}

one_main_more : (found : List Found) (f : Found) → 0 < length found → f.text.definition ≡ true → HasOneMain (map (λ (g : Found). g.text) found) → HasOneMain (map (λ (g : Found). g.text) (found ++ f ∷ []))
one_main_more [] f some d h = absurd h
one_main_more (g ∷ found) f some d h =
    (h.0, subst (Each (λ (t : TextOf). t.definition ≡ true)) (sym (map-append (λ (x : Found). x.text) found (f ∷ []))) (each_pushed (λ (t : TextOf). t.definition ≡ true) (map (λ (x : Found). x.text) found) f.text h.1 d))

definitions_more : (found : List Found) (f : Found) → 0 < length found → definitions (found ++ f ∷ []) ≡ definitions found ++ f ∷ []
definitions_more [] f some = absurd (omega (arith, some))
definitions_more (g ∷ found) f some = refl

module _ (old new : List (List ℕ)) (definition : Bool) (name : ℕ) (bytes : List ℕ) (f : Found) (read : IsRead old definition name bytes new f) where
  grown : IsPrefixOf old new
  grown = names_grow old new bytes f.text.tokens read.tokens

  spelled_then : Each IsSpelling old → Each IsSpelling new
  spelled_then h = spelled_after old new bytes f.text.tokens h read.short read.bytes read.tokens

  is_text : IsNamed new name → IsText new f.text
  is_text named =
      let listed = text_listed old new bytes f.text.tokens read.tokens read.short in
      let same : f.text.name ≡ name = ap (λ (t : TextOf). t.name) read.text in
      record { named = subst (IsNamed new) (sym same) named; count = read.few; numbered = listed.0; values = listed.1 }

  modules_known : (found : List Found) → Each (IsNamed old) (modules_named found) → Each (IsNamed new) (modules_named (found ++ f ∷ []))
  modules_known found h =
      subst (Each (IsNamed new)) (sym (modules_with found f))
      (all_named new (modules_named found) (names_of (modules_of f.front)) (each_stays_named grown (modules_named found) h) (read_named old new definition name bytes f read))

module _ (p q : Progress) (name : ℕ) (bytes : List ℕ) (h : IsSound p) (next : next_module p ≡ Some name) (reads : Reads (answered p (Some (length p.found))) true name bytes q) where
  the_name : IsNamed reads.names name
  the_name =
      stays_named (names_grow p.names reads.names bytes reads.found.text.tokens reads.read.tokens) name (each_at (IsNamed p.names) (modules_named p.found) (length p.asked) name next h.known)

  chosen_then : file_names (definitions (p.found ++ reads.found ∷ [])) ≡ chosen (modules_named (p.found ++ reads.found ∷ [])) (p.asked ++ Some (length p.found) ∷ [])
  chosen_then =
      let f = reads.found in
      let grown = modules_grow (modules_named p.found) (names_of (modules_of f.front)) in
      let within = slice_get_within (modules_named p.found) (length p.asked) name next in
      ap file_names (definitions_more p.found f h.some) ∙ map-append (λ (x : Found). x.text.name) (definitions p.found) (f ∷ [])
      ∙ ap (λ l. l ++ f.text.name ∷ []) h.chosen_names ∙ ap (λ n. chosen (modules_named p.found) p.asked ++ n ∷ []) (ap (λ (t : TextOf). t.name) reads.read.text)
      ∙ sym (chosen_some (modules_named p.found) p.asked (length p.found) name next)
      ∙ sym (chosen_more (modules_named p.found) grown.0 (p.asked ++ Some (length p.found) ∷ []) (omega (arith, within, length-append p.asked (Some (length p.found) ∷ []))))
      ∙ ap (λ ms. chosen ms (p.asked ++ Some (length p.found) ∷ [])) (sym (modules_with p.found f ∙ grown.1))

  then_sound : IsSound (progress_of reads.names (p.found ++ reads.found ∷ []) (p.asked ++ Some (length p.found) ∷ []))
  then_sound =
      let f = reads.found in
      let within = slice_get_within (modules_named p.found) (length p.asked) name next in
      let more = length-append p.found (f ∷ []) in
      record {
        standard = IsPrefixOf-trans h.standard (grown p.names reads.names true name bytes f reads.read);
        spelled = spelled_then p.names reads.names true name bytes f reads.read h.spelled;
        few_tokens = omega (arith, reads.fits.tokens, tokens_with p.found f);
        names_few = omega (arith, h.names_few, few_names p.names reads.names bytes f.text.tokens reads.read.tokens, tokens_with p.found f);
        texts =
            each_pushed (λ (g : Found). IsText reads.names g.text) p.found f (texts_stay (grown p.names reads.names true name bytes f reads.read) p.found h.texts)
            (is_text p.names reads.names true name bytes f reads.read the_name);
        some = omega (arith, more);
        few = omega (arith, more, h.few, length-append p.asked (Some (length p.found) ∷ []));
        main = one_main_more p.found f h.some (ap (λ (t : TextOf). t.definition) reads.read.text) h.main;
        answers =
            each_pushed (IsAnswer (length (p.found ++ f ∷ []))) p.asked (Some (length p.found)) (answers_stay (length p.found) (length (p.found ++ f ∷ [])) (omega (arith, more)) p.asked h.answers)
            (h.some, omega (arith, more));
        asked =
            omega (arith, within, length-append p.asked (Some (length p.found) ∷ []), ap length (modules_with p.found f), with_modules-longer (modules_named p.found) (names_of (modules_of f.front)));
        chosen_names = chosen_then;
        known = modules_known p.names reads.names true name bytes f reads.read p.found h.known;
      }

module _ (file main : List ℕ) (named : IsIdentifier file) (short : length file ≤ 1048576) (bytes : (i : ℕ) → get_or file i 0 < 256) where
  main_sound : (number : ℕ) (p : Progress) → number_in (with_name standard_names file) file ≡ Some number → Reads (begun file) false number main p
      → (reads : Reads (begun file) false number main p) → IsSound (progress_of reads.names (reads.found ∷ []) [])
  main_sound number p numbered r reads =
      let f = reads.found in
      let old = with_name standard_names file in
      let grows : IsPrefixOf old reads.names = grown old reads.names false number main f reads.read in
      let begins = with_name-grows standard_names file in
      let name : IsNamed old number =
      record { numbered = numbered_at old file number numbered short; spelled = subst IsIdentifier (sym (text_at old file number numbered)) named } in
      record {
        standard = IsPrefixOf-trans (record { rest = begins.0; joined = sym begins.1 }) grows;
        spelled = spelled_then old reads.names false number main f reads.read (spelled_with standard_names file standard_spelled short bytes);
        few_tokens = omega (arith, reads.fits.tokens, tokens_with [] f);
        names_few = omega (arith, few_names old reads.names main f.text.tokens reads.read.tokens, length-with_names standard_names (file ∷ []), length-standard_names, tokens_with [] f);
        texts = (is_text old reads.names false number main f reads.read (stays_named grows number name), tt);
        some = omega arith;
        few = omega arith;
        main = (ap (λ (t : TextOf). t.definition) reads.read.text, tt);
        answers = tt;
        asked = omega arith;
        chosen_names = sym (chosen_nothing (modules_named (f ∷ [])));
        known = modules_known old reads.names false number main f reads.read [] tt;
      }

  reached_sound : (holds : Option Files) (p : Progress) → Reaches holds file main p → IsSound p
  reached_sound holds p (main_read {number = number} numbered reads) = subst IsSound (sym reads.longer) (main_sound number p numbered reads reads)
  reached_sound holds _ (then_asks {p = p} {name = name} reached next (not_there has)) = asked_sound p name (reached_sound holds p reached) next
  reached_sound holds q (then_asks {p = p} {name = name} reached next (is_there {bytes = text} has reads)) =
      subst IsSound (sym reads.longer) (then_sound p q name text (reached_sound holds p reached) next reads)

own_within : (p : Progress) (found : List Found) (texts : List TextOf) → length texts ≡ length p.found → Each (IsAnswer (length p.found)) p.asked → IsOwn texts (own_text p found)
own_within p [] texts same h = tt
own_within p (main ∷ found) texts same h = go (own_name main.front)
  where
    as_own : (o : Option ℕ) → IsAnswer (length p.found) o → IsOwn texts o
    as_own None a = tt
    as_own (Some k) a = (a.0, omega (arith, a.1, same))

    go : (o : Option Ident) → IsOwn texts (text_told p o)
    go None = tt
    go (Some i) = as_own (text_of_module p i.name) (answer_within (length p.found) p.asked (position (nat_eq i.name) (modules_named p.found)) h)

pub definitions_named : (found : List Found) → map (λ (t : TextOf). t.name) (definitions_of (map (λ (f : Found). f.text) found)) ≡ file_names (definitions found)
definitions_named [] = refl
definitions_named (main ∷ found) = go found
  where
    go : (found : List Found) → map (λ (t : TextOf). t.name) (map (λ (f : Found). f.text) found) ≡ file_names found
    go [] = refl
    go (f ∷ found) = ap (λ n. f.text.name ∷ n) (go found)

tokens_of_texts : (found : List Found) → sum_by (λ (t : TextOf). length t.tokens) (map (λ (f : Found). f.text) found) ≡ tokens_in found
tokens_of_texts found = counted found 0
  where
    counted : (found : List Found) (n : ℕ) → fold (λ a (t : TextOf). a + length t.tokens) n (map (λ (f : Found). f.text) found) ≡ fold (λ a (f : Found). a + length f.text.tokens) n found
    counted [] n = refl
    counted (f ∷ found) n = counted found (n + length f.text.tokens)

each_ordered : (n m : ℕ) → n ≡ m → (order : List ℕ) → Each (λ k. (0 < k) × (k < n)) order → Each (λ k. (0 < k) × (k < m)) order
each_ordered n m e order h = subst (λ x. Each (λ k. (0 < k) × (k < x)) order) e h

pub reached_unit : (holds : Option Files) (file main : List ℕ) (p : Progress) → IsIdentifier file → length file ≤ 1048576 → ((i : ℕ) → get_or file i 0 < 256) → Reaches holds file main p → IsUnit (unit_in p)
reached_unit holds file main p named short bytes reached =
    let h = reached_sound file main named short bytes holds p reached in
    let order = order_sound p (length p.found) h.some in
    let many : length (map (λ (f : Found). f.text) p.found) ≡ length p.found = length-map p.found (λ (f : Found). f.text) in
    record {
      standard = h.standard;
      countable = omega (arith, h.names_few, h.few_tokens);
      spelled = h.spelled;
      main = h.main;
      few = omega (arith, many, h.few, h.asked, few_modules holds file main p reached);
      tokens = omega (arith, tokens_of_texts p.found, h.few_tokens);
      texts = each_map (IsText p.names) (λ (f : Found). f.text) p.found h.texts;
      differ =
          subst AllDiffer (sym (definitions_named p.found ∙ h.chosen_names)) (chosen_differ (modules_named p.found) p.asked (all_with_differ [] (named_by p.found) tt));
      ordered = each_ordered (length p.found) (length (map (λ (f : Found). f.text) p.found)) (sym many) (taken_in p (length p.found)) order.ordered;
      once = order.once;
      own_text = own_within p p.found (map (λ (f : Found). f.text) p.found) many h.answers;
    }
