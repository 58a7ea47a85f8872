-- Given files have one outcome.
use Rattle.std.proofs.Common.{◌≡◌, ℕ, ◌<◌, ◌≤◌, ◌==◌, Bool, true, false, List, [], ◌∷◌, ◌++◌, Option, Some, None, length, refl, sym, ◌∙◌, ap, subst, arith, slice_index_or, inl, inr}
use Rattle.std.specs.List.{AllZip}
use Rattle.std.proofs.lemmas.Bool.{cases_lt}
use Rattle.m2_io.specs.Files.{Files}
use Rattle.m2_base.specs.Fronts.{IsFront}
use Rattle.m2_base.specs.Names.{number_in, standard_names, with_name}
use Rattle.m2_base.specs.Tokens.{IsToken, placed}
use Rattle.m2_base.proofs.OneList.{one_list_of_names, one_list_of_tokens}
use Rattle.m2_base.proofs.OneReading.{one_list_of_lexemes}
use Rattle.m2_lex.specs.Faults.{HasTooMany}
use Rattle.m2_parse.proofs.FrontLaws.{one_front}
use Rattle.def_import.specs.Closure.{Found, Progress, answered, longer, modules_named, next_module}
use Rattle.def_import.specs.Library.{library_name}
use Rattle.def_import.specs.Outcomes.{AskPasses, Asks, ComesFrom, ComesOf, IsRead, Limit, Outcome, Passes, Reaches, Reads, Stops, at_main, at_module, begun, from_nothing, from_text, is_there, long, main_read, not_there, of_all, of_limit, of_texts, of_tokens, of_unit, stopped_at, then_asks, unit_in, unit_with}
use Rattle.def_import.specs.Shelves.{Has, HasDefinition, HasDefinitionOf, main_file}
use Rattle.def_import.specs.Wrongs.{wrongs_of}
use Rattle.def_import.proofs.Gathers.{asked_one_more}
use Rattle.def_import.proofs.Places.{some_is, some_none}

-- ** One text

module _ (old new other : List (List ℕ)) (definition : Bool) (name : ℕ) (bytes : List ℕ) (f g : Found) (a : IsRead old definition name bytes new f) (b : IsRead old definition name bytes other g) where
  one_names : new ≡ other
  one_names = one_list_of_names old new other bytes f.text.tokens g.text.tokens a.tokens b.tokens

  one_tokens : f.text.tokens ≡ g.text.tokens
  one_tokens = one_list_of_tokens old new other bytes f.text.tokens g.text.tokens a.tokens b.tokens

  one_found : f ≡ g
  one_found =
      let text : f.text ≡ g.text = a.text ∙ ap (λ ts. record { name = name; definition = definition; tokens = ts }) one_tokens ∙ sym b.text in
      let front : f.front ≡ g.front = one_front definition g.text.tokens f.front g.front (subst (λ ts. IsFront definition ts f.front) one_tokens a.front) b.front in
      λ i. record { text = text i; front = front i }

  one_count : length f.text.tokens ≡ length g.text.tokens
  one_count = ap length one_tokens

same_length : {A B : Type 0} (R : A → B → Type 0) (xs : List A) (ys : List B) → AllZip R xs ys → length xs ≡ length ys
same_length R [] [] h = refl
same_length R [] (y ∷ ys) h = absurd h
same_length R (x ∷ xs) [] h = absurd h
same_length R (x ∷ xs) (y ∷ ys) h = omega (arith, same_length R xs ys h.1)

-- a text that is read hasn't too many tokens
not_many : (old new : List (List ℕ)) (definition : Bool) (name : ℕ) (bytes : List ℕ) (f : Found) → IsRead old definition name bytes new f → HasTooMany bytes → ⊥
not_many old new definition name bytes f read many =
    let tokens = read.tokens in
    let same : tokens.lexemes ≡ many.0 = one_list_of_lexemes bytes tokens.lexemes many.0 tokens.split many.1 in
    let count : length (placed tokens.lexemes) ≡ length f.text.tokens = same_length (IsToken new) (placed tokens.lexemes) f.text.tokens tokens.each in
    let many_placed : 1048576 < length (placed tokens.lexemes) = subst (λ lexemes. 1048576 < length (placed lexemes)) (sym same) many.2 in
    omega (arith, read.few, count, many_placed)

-- ** One step

one_read : (p : Progress) (definition : Bool) (name : ℕ) (bytes : List ℕ) (q r : Progress) → Reads p definition name bytes q → Reads p definition name bytes r → q ≡ r
one_read p definition name bytes q r a b =
    let names = one_names p.names a.names b.names definition name bytes a.found b.found a.read b.read in
    let found = one_found p.names a.names b.names definition name bytes a.found b.found a.read b.read in
    a.longer ∙ ap (λ ns. longer p ns a.found) names ∙ ap (longer p b.names) found ∙ sym b.longer

module _ (names : List (List ℕ)) (found : List Found) (definition : Bool) (name : ℕ) (bytes : List ℕ) where
  one_limit : (l m : Limit) → Passes names found definition name bytes l → Passes names found definition name bytes m → l ≡ m
  one_limit _ _ (long a) (long b) = refl
  one_limit _ _ (long a) (of_tokens short b) = absurd (omega (arith, a, short))
  one_limit _ _ (long a) (of_unit read b) = absurd (omega (arith, a, read.short))
  one_limit _ _ (long a) (of_texts read few b) = absurd (omega (arith, a, read.short))
  one_limit _ _ (of_tokens short a) (long b) = absurd (omega (arith, b, short))
  one_limit _ _ (of_tokens short a) (of_tokens short' b) = refl
  one_limit _ _ (of_tokens short a) (of_unit {new = new} {f = f} read b) = absurd (not_many names new definition name bytes f read a)
  one_limit _ _ (of_tokens short a) (of_texts {new = new} {f = f} read few b) = absurd (not_many names new definition name bytes f read a)
  one_limit _ _ (of_unit read a) (long b) = absurd (omega (arith, b, read.short))
  one_limit _ _ (of_unit {new = new} {f = f} read a) (of_tokens short b) = absurd (not_many names new definition name bytes f read b)
  one_limit _ _ (of_unit read a) (of_unit other b) = refl
  one_limit _ _ (of_unit {new = new} {f = f} read a) (of_texts {new = other} {f = g} also few b) = absurd (omega (arith, a, few, one_count names new other definition name bytes f g read also))
  one_limit _ _ (of_texts read few a) (long b) = absurd (omega (arith, b, read.short))
  one_limit _ _ (of_texts {new = new} {f = f} read few a) (of_tokens short b) = absurd (not_many names new definition name bytes f read b)
  one_limit _ _ (of_texts {new = new} {f = f} read few a) (of_unit {new = other} {f = g} also b) = absurd (omega (arith, b, few, one_count names new other definition name bytes f g read also))
  one_limit _ _ (of_texts read few a) (of_texts other many b) = refl

-- a text that is read passes no limit
not_passed : (p : Progress) (definition : Bool) (name : ℕ) (bytes : List ℕ) (q : Progress) (l : Limit) → Reads p definition name bytes q → Passes p.names p.found definition name bytes l → ⊥
not_passed p definition name bytes q _ a (long b) = omega (arith, b, a.read.short)
not_passed p definition name bytes q _ a (of_tokens short b) = not_many p.names a.names definition name bytes a.found a.read b
not_passed p definition name bytes q _ a (of_unit {new = new} {f = f} read b) =
    omega (arith, b, a.fits.tokens, one_count p.names new a.names definition name bytes f a.found read a.read)
not_passed p definition name bytes q _ a (of_texts {new = new} {f = f} read few b) =
    let same = one_found p.names new a.names definition name bytes f a.found read a.read in
    omega (arith, b, a.fits.texts, ap (λ (x : Found). length (modules_named (p.found ++ x ∷ []))) same)

-- ** Over given files

module _ (files : Files) where
  one_file : (file : List ℕ) (a b : Option (List ℕ)) → Has (Some files) file a → Has (Some files) file b → a ≡ b
  one_file file a b x y = sym x ∙ y

  one_text : (names : List (List ℕ)) (name : ℕ) (a b : Option (List ℕ)) → HasDefinition (Some files) names name a → HasDefinition (Some files) names name b → a ≡ b
  one_text names name a b x y = go (name == library_name) x y
    where
      go : (library : Bool) → HasDefinitionOf library (Some files) (slice_index_or names name []) a → HasDefinitionOf library (Some files) (slice_index_or names name []) b → a ≡ b
      go true x y = x ∙ sym y
      go false x y = sym x ∙ y

  one_answer : (p : Progress) (name : ℕ) (q r : Progress) → Asks (Some files) p name q → Asks (Some files) p name r → q ≡ r
  one_answer p name _ _ (not_there a) (not_there b) = refl
  one_answer p name _ r (not_there a) (is_there {bytes = bytes} b reads) = absurd (some_none bytes (sym (one_text p.names name None (Some bytes) a b)))
  one_answer p name q _ (is_there {bytes = bytes} a reads) (not_there b) = absurd (some_none bytes (one_text p.names name (Some bytes) None a b))
  one_answer p name q r (is_there {bytes = bytes} a reads) (is_there {bytes = others} b also) =
      let same : bytes ≡ others = some_is bytes others (one_text p.names name (Some bytes) (Some others) a b) in
      one_read (answered p (Some (length p.found))) true name others q r (subst (λ (t : List ℕ). Reads (answered p (Some (length p.found))) true name t q) same reads) also

  one_passed : (p : Progress) (name : ℕ) (l m : Limit) → AskPasses (Some files) p name l → AskPasses (Some files) p name m → l ≡ m
  one_passed p name l m a b =
      let same : a.bytes ≡ b.bytes = some_is a.bytes b.bytes (one_text p.names name (Some a.bytes) (Some b.bytes) a.has b.has) in
      one_limit p.names p.found true name b.bytes l m (subst (λ (t : List ℕ). Passes p.names p.found true name t l) same a.passes) b.passes

  none_passed : (p : Progress) (name : ℕ) (q : Progress) (l : Limit) → Asks (Some files) p name q → AskPasses (Some files) p name l → ⊥
  none_passed p name _ l (not_there a) b = some_none b.bytes (sym (one_text p.names name None (Some b.bytes) a b.has))
  none_passed p name q l (is_there {bytes = bytes} a reads) b =
      let same : bytes ≡ b.bytes = some_is bytes b.bytes (one_text p.names name (Some bytes) (Some b.bytes) a b.has) in
      not_passed (answered p (Some (length p.found))) true name b.bytes q l (subst (λ (t : List ℕ). Reads (answered p (Some (length p.found))) true name t q) same reads) b.passes

  -- ** From text to text

  module _ (file main : List ℕ) where
    none_asked : (p : Progress) (number : ℕ) → Reads (begun file) false number main p → length p.asked ≡ 0
    none_asked p number reads = ap (λ (x : Progress). length x.asked) reads.longer

    one_state : (p q : Progress) → Reaches (Some files) file main p → Reaches (Some files) file main q → length p.asked ≡ length q.asked → p ≡ q
    one_state p q (main_read {number = m} numbered reads) (main_read {number = n} also others) same =
        let number : m ≡ n = some_is m n (sym numbered ∙ also) in
        one_read (begun file) false n main p q (subst (λ k. Reads (begun file) false k main p) number reads) others
    one_state p q (main_read {number = m} numbered reads) (then_asks {p = s} {name = name} reached next asks) same =
        absurd (omega (arith, same, none_asked p m reads, asked_one_more (Some files) s q name asks))
    one_state p q (then_asks {p = r} {name = name} reached next asks) (main_read {number = n} numbered reads) same =
        absurd (omega (arith, same, none_asked q n reads, asked_one_more (Some files) r p name asks))
    one_state p q (then_asks {p = r} {name = x} reached next asks) (then_asks {p = s} {name = y} reaches then also) same =
        let before : r ≡ s = one_state r s reached reaches (omega (arith, same, asked_one_more (Some files) r p x asks, asked_one_more (Some files) s q y also)) in
        let name : x ≡ y = some_is x y (sym next ∙ ap next_module before ∙ then) in
        one_answer s y p q (subst (λ (t : Progress). Asks (Some files) t y p) before (subst (λ n. Asks (Some files) r n p) name asks)) also

    -- the step at which so many were asked for
    record IsStep (count : ℕ) : Type 0 where
      state : Progress
      reached : Reaches (Some files) file main state
      asked : length state.asked ≡ count
      name : ℕ
      next : next_module state ≡ Some name
      after : Progress
      asks : Asks (Some files) state name after

    step_before : (count : ℕ) (q : Progress) → Reaches (Some files) file main q → count < length q.asked → IsStep count
    step_before count q (main_read {number = n} numbered reads) less = absurd (omega (arith, less, none_asked q n reads))
    step_before count q (then_asks {p = p} {name = name} reached next asks) less = elim (cases_lt count (length p.asked)) [
      | inl before ↦ step_before count p reached before
      | inr last ↦ record {
        state = p;
        reached = reached;
        asked = omega (arith, last, less, asked_one_more (Some files) p q name asks);
        name = name;
        next = next;
        after = q;
        asks = asks;
      }
    ]

    -- where all are read no step is left
    none_after : (p q : Progress) → Reaches (Some files) file main p → next_module p ≡ None → Reaches (Some files) file main q → length q.asked ≤ length p.asked
    none_after p q reached all reaches = elim (cases_lt (length p.asked) (length q.asked)) [
      | inl before ↦
          let step = step_before (length p.asked) q reaches before in
          let same : step.state ≡ p = one_state step.state p step.reached reached step.asked in
          absurd (some_none step.name (sym step.next ∙ ap next_module same ∙ all))
      | inr last ↦ last
    ]

    one_end : (p q : Progress) → Reaches (Some files) file main p → next_module p ≡ None → Reaches (Some files) file main q → next_module q ≡ None → p ≡ q
    one_end p q reached all reaches none =
        one_state p q reached reaches (omega (arith, none_after p q reached all reaches, none_after q p reaches none reached))

    record IsMainRead : Type 0 where
      number : ℕ
      numbered : number_in (with_name standard_names file) file ≡ Some number
      after : Progress
      reads : Reads (begun file) false number main after

    the_main : (p : Progress) → Reaches (Some files) file main p → IsMainRead
    the_main p (main_read {number = n} numbered reads) = record { number = n; numbered = numbered; after = p; reads = reads }
    the_main p (then_asks {p = q} reached next asks) = the_main q reached

    -- a main text that is read passes no limit
    main_passes : (p : Progress) (number : ℕ) (l : Limit) → Reaches (Some files) file main p → number_in (with_name standard_names file) file ≡ Some number
        → Passes (with_name standard_names file) [] false number main l → ⊥
    main_passes p number l reached numbered passes =
        let m = the_main p reached in
        let same : m.number ≡ number = some_is m.number number (sym m.numbered ∙ numbered) in
        not_passed (begun file) false number main m.after l (subst (λ k. Reads (begun file) false k main m.after) same m.reads) passes

    -- nor does one that is asked for before another
    earlier_passes : (p q : Progress) (name : ℕ) (l : Limit) → Reaches (Some files) file main p → Reaches (Some files) file main q → next_module p ≡ Some name → AskPasses (Some files) p name l
        → length p.asked < length q.asked → ⊥
    earlier_passes p q name l reached reaches next passes less =
        let step = step_before (length p.asked) q reaches less in
        let same : step.state ≡ p = one_state step.state p step.reached reached step.asked in
        let named : step.name ≡ name = some_is step.name name (sym step.next ∙ ap next_module same ∙ next) in
        let asks : Asks (Some files) p name step.after = subst (λ (s : Progress). Asks (Some files) s name step.after) same (subst (λ n. Asks (Some files) step.state n step.after) named step.asks) in
        none_passed p name step.after l asks passes

    not_both : (p : Progress) (l : Limit) → Reaches (Some files) file main p → next_module p ≡ None → Stops (Some files) file main l → ⊥
    not_both p l reached all (at_main {number = n} numbered passes) = main_passes p n l reached numbered passes
    not_both p l reached all (at_module {p = q} {name = name} reaches next passes) = elim (cases_lt (length q.asked) (length p.asked)) [
      | inl before ↦ earlier_passes q p name l reaches reached next passes before
      | inr last ↦
          let same : q ≡ p = one_state q p reaches reached (omega (arith, last, none_after p q reached all reaches)) in
          absurd (some_none name (sym next ∙ ap next_module same ∙ all))
    ]

    one_stop : (l m : Limit) → Stops (Some files) file main l → Stops (Some files) file main m → l ≡ m
    one_stop l m (at_main {number = i} numbered a) (at_main {number = j} also b) =
        let same : i ≡ j = some_is i j (sym numbered ∙ also) in
        one_limit (with_name standard_names file) [] false j main l m (subst (λ n. Passes (with_name standard_names file) [] false n main l) same a) b
    one_stop l m (at_main {number = i} numbered a) (at_module {p = q} reached next b) = absurd (main_passes q i l reached numbered a)
    one_stop l m (at_module {p = p} reached next a) (at_main {number = j} numbered b) = absurd (main_passes p j m reached numbered b)
    one_stop l m (at_module {p = p} {name = x} reached next a) (at_module {p = q} {name = y} reaches then b) = elim (cases_lt (length p.asked) (length q.asked)) [
      | inl before ↦ absurd (earlier_passes p q x l reached reaches next a before)
      | inr le ↦ elim (cases_lt (length q.asked) (length p.asked)) [
        | inl before ↦ absurd (earlier_passes q p y m reaches reached then b before)
        | inr ge ↦
            let same : p ≡ q = one_state p q reached reaches (omega (arith, le, ge)) in
            let name : x ≡ y = some_is x y (sym next ∙ ap next_module same ∙ then) in
            one_passed q y l m (subst (λ (s : Progress). AskPasses (Some files) s y l) same (subst (λ n. AskPasses (Some files) p n l) name a)) b
      ]
    ]

    pub one_of_text : (a b : Outcome) → ComesOf (Some files) file main a → ComesOf (Some files) file main b → a ≡ b
    one_of_text _ _ (of_all {unit = u} {wrongs = w} g) (of_all {unit = v} {wrongs = x} h) =
        let same : g.progress ≡ h.progress = one_end g.progress h.progress g.reached g.all h.reached h.all in
        let unit : u ≡ v = g.texts ∙ ap unit_in same ∙ sym h.texts in
        let wrong : w ≡ x = g.wrong ∙ ap wrongs_of same ∙ sym h.wrong in
        ap (λ t. unit_with t w) unit ∙ ap (unit_with v) wrong
    one_of_text _ _ (of_all g) (of_limit {limit = l} stops) = absurd (not_both g.progress l g.reached g.all stops)
    one_of_text _ _ (of_limit {limit = l} stops) (of_all g) = absurd (not_both g.progress l g.reached g.all stops)
    one_of_text _ _ (of_limit {limit = l} a) (of_limit {limit = m} b) = ap stopped_at (one_stop l m a b)

  pub one_from_files : (file : List ℕ) (a b : Outcome) → ComesFrom (Some files) file a → ComesFrom (Some files) file b → a ≡ b
  one_from_files file a b (from_text {main = main} has comes) (from_text {main = other} had came) =
      let same : main ≡ other = some_is main other (one_file (main_file file) (Some main) (Some other) has had) in
      one_of_text file other a b (subst (λ (t : List ℕ). ComesOf (Some files) file t a) same comes) came
  one_from_files file a _ (from_text {main = main} has comes) (from_nothing none) = absurd (some_none main (one_file (main_file file) (Some main) None has none))
  one_from_files file _ b (from_nothing none) (from_text {main = main} has comes) = absurd (some_none main (sym (one_file (main_file file) None (Some main) none has)))
  one_from_files file _ _ (from_nothing none) (from_nothing also) = refl
