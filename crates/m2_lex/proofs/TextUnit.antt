-- The tokens of a text make up a unit.
use Rattle.std.proofs.Common.{◌≡◌, ℕ, ◌+◌, ◌<◌, ◌≤◌, ◌^◌, Bool, true, false, nat_le, cond, min, List, [], ◌∷◌, Option, Some, None, length, get_or, refl, sym, ◌∙◌, ap, subst, arith, if◌then◌else◌, length-append, suc, lit≤}
use Rattle.std.specs.Prelude.{option_map, find, IsTrue, codes, is_some}
use Rattle.std.specs.List.{AllZip, list_all, take_while, prefix_len}
use Rattle.std.specs.Str.{bytes_eq}
use Rattle.std.proofs.lemmas.Bool.{false≢true, and_parts, leb-true}
use Rattle.std.proofs.lemmas.List.{length-take}
use Rattle.std.proofs.lemmas.Option.{get_or_from_slice_get}
use Rattle.m2_base.specs.Comments.{opens_comment, behind_comment}
use Rattle.m2_base.specs.Kinds.{kind_in, reserved_words, symbols}
use Rattle.m2_base.specs.Letters.{is_blank, is_letter, is_digit, is_octal_digit, is_hexadecimal_digit, is_quote, stays_in}
use Rattle.m2_base.specs.Lexemes.{is_lexeme, AreLexemes}
use Rattle.m2_base.specs.Lists.{Each, IsPrefixOf}
use Rattle.m2_base.specs.Meanings.{Meaning, blank, name, number, character, string, fixed, bad, meaning_of, fixed_or, number_of, character_of, value_in, numeral_meaning, string_meaning, is_blank_lexeme}
use Rattle.m2_base.specs.Names.{standard_names, number_in, with_name}
use Rattle.m2_base.specs.Positions.{Position, first_position, after_bytes}
use Rattle.m2_base.specs.Runs.{is_run_and}
use Rattle.m2_base.specs.Tokens.{AreTokens, IsToken, Means, placed_from, names_in}
use Rattle.m2_base.specs.Units.{IsSpelling, IsUnit, IsNamed, IsNumbered, IsIdentifier, HasValue, IsInner, AreNumbered}
use Rattle.m2_base.specs.declared.kind.TokenKind.{TokenKind}
use Rattle.m2_base.specs.declared.kind.TokenKind.TheVariants as kind
use Rattle.m2_base.specs.declared.token.Token.{Token}
use Rattle.m2_base.proofs.Kept.{IsPrefixOf-trans}
use Rattle.m2_base.proofs.Numbers.{number_in-below, number_in-with_names, slice_get-number_in, with_name-grows, with_names-grows}
use Rattle.m2_lex.specs.LoneTexts.{IsLoneText, one_text}
use Rattle.m2_lex.proofs.SpelledNames.{spelled_after, spelled_with, standard_spelled}

-- ** What a lexeme can stand for

-- the kind of a word or a symbol, whose value says nothing
abbrev pub is_fixed_kind : TokenKind → Bool
is_fixed_kind kind.EndOfText = false
is_fixed_kind kind.Identifier = false
is_fixed_kind kind.Number = false
is_fixed_kind kind.Character = false
is_fixed_kind kind.«String» = false
is_fixed_kind kind.Bad = false
is_fixed_kind kind.Cut = false
is_fixed_kind kind.StreamEnd = false
is_fixed_kind other = true

fixed_inner : (k : TokenKind) → is_fixed_kind k ≡ true → IsInner k
fixed_inner kind.EndOfText e = absurd (false≢true e)
fixed_inner kind.Cut e = absurd (false≢true e)
fixed_inner kind.StreamEnd e = absurd (false≢true e)
fixed_inner _ e = tt

fixed_value : (names : List (List ℕ)) (k : TokenKind) (value : ℕ) → is_fixed_kind k ≡ true → HasValue names k value
fixed_value names kind.Identifier value e = absurd (false≢true e)
fixed_value names kind.Number value e = absurd (false≢true e)
fixed_value names kind.Character value e = absurd (false≢true e)
fixed_value names kind.«String» value e = absurd (false≢true e)
fixed_value names kind.Bad value e = absurd (false≢true e)
fixed_value names _ value e = tt

-- what a lexeme's meaning keeps
abbrev pub MeansWell : List ℕ → Meaning → Type 0
MeansWell lexeme blank = Unit {0}
MeansWell lexeme (name text) = text ≡ lexeme
MeansWell lexeme (number value) = value ≤ 4294967295
MeansWell lexeme (character value) = value ≤ 255
MeansWell lexeme (string bytes) = length bytes ≤ length lexeme
MeansWell lexeme (fixed k) = is_fixed_kind k ≡ true
MeansWell lexeme (bad code) = (10 ≤ code) × (code ≤ 13)

some_is : (x y : TokenKind) → Some x ≡ Some y → x ≡ y
some_is x y e = cc

none_some : (x : TokenKind) → None ≡ Some x → ⊥
none_some x e = cc

kind_fixed : (table : List (List ℕ × TokenKind)) (bytes : List ℕ) (k : TokenKind) → list_all (λ entry. is_fixed_kind entry.1) table ≡ true → kind_in table bytes ≡ Some k → is_fixed_kind k ≡ true
kind_fixed [] bytes k all e = absurd (none_some k e)
kind_fixed (entry ∷ table) bytes k all e =
    let p = and_parts (is_fixed_kind entry.1) (list_all (λ x. is_fixed_kind x.1) table) all in
    go (bytes_eq bytes entry.0) e p.0 (kind_fixed table bytes k p.1)
  where
    go : (b : Bool) → option_map (λ x. x.1) (cond b (Some entry) (find (λ x. bytes_eq bytes x.0) table)) ≡ Some k → is_fixed_kind entry.1 ≡ true → (kind_in table bytes ≡ Some k → is_fixed_kind k ≡ true) → is_fixed_kind k ≡ true
    go true e here rest = subst (λ x. is_fixed_kind x ≡ true) (some_is entry.1 k e) here
    go false e here rest = rest e

module _ (lexeme : List ℕ) where
  well_if : (t : Bool) (x y : Meaning) → MeansWell lexeme x → MeansWell lexeme y → MeansWell lexeme (if t then x else y)
  well_if true x y h k = h
  well_if false x y h k = k

  well_fixed : (table : List (List ℕ × TokenKind)) (bytes : List ℕ) (other : Meaning) → list_all (λ entry. is_fixed_kind entry.1) table ≡ true → MeansWell lexeme other → MeansWell lexeme (fixed_or (kind_in table bytes) other)
  well_fixed table bytes other all h = go (kind_in table bytes) refl
    where
      go : (o : Option TokenKind) → kind_in table bytes ≡ o → MeansWell lexeme (fixed_or o other)
      go None e = h
      go (Some k) e = kind_fixed table bytes k all e

  well_number : (value : ℕ) → MeansWell lexeme (number_of value)
  well_number value = go (nat_le value 4294967295) refl
    where
      go : (b : Bool) → nat_le value 4294967295 ≡ b → MeansWell lexeme (if b then number value else bad 13)
      go true e = leb-true value 4294967295 e
      go false e = (omega arith, omega arith)

  well_character : (value : ℕ) → MeansWell lexeme (character_of value)
  well_character value = go (nat_le value 255) refl
    where
      go : (b : Bool) → nat_le value 255 ≡ b → MeansWell lexeme (if b then character value else bad 13)
      go true e = leb-true value 255 e
      go false e = (omega arith, omega arith)

  well_numeral : (bytes : List ℕ) → MeansWell lexeme (numeral_meaning bytes)
  well_numeral bytes =
      well_if (is_run_and is_hexadecimal_digit (codes "H") bytes) _ _ (well_number (value_in 16 (take_while is_hexadecimal_digit bytes)))
      (well_if (is_run_and is_octal_digit (codes "B") bytes) _ _ (well_number (value_in 8 (take_while is_octal_digit bytes)))
      (well_if (is_run_and is_octal_digit (codes "C") bytes) _ _ (well_character (value_in 8 (take_while is_octal_digit bytes))) (well_number (value_in 10 bytes))))

at_most : (n a b : ℕ) → n ≡ min a b → n ≤ suc b
at_most n a b e = omega (arith, e)

well_string : (b : ℕ) (bs : List ℕ) → MeansWell (b ∷ bs) (string_meaning b bs)
well_string b bs =
    well_if (b ∷ bs) (is_run_and (stays_in b) (b ∷ []) bs) (string (take_while (stays_in b) bs)) (bad 12)
    (let short : length (take_while (stays_in b) bs) ≡ min (prefix_len (stays_in b) bs) (length bs) = length-take (prefix_len (stays_in b) bs) bs in
    at_most (length (take_while (stays_in b) bs)) (prefix_len (stays_in b) bs) (length bs) short)
    (omega arith, omega arith)

-- what a lexeme stands for
well : (b : ℕ) (bs : List ℕ) → MeansWell (b ∷ bs) (meaning_of (b ∷ bs))
well b bs =
    let l : List ℕ = b ∷ bs in
    well_if l (is_blank b) _ _ tt
    (well_if l (is_letter b) _ _ (well_fixed l reserved_words l (name l) refl refl)
    (well_if l (is_digit b) _ _ (well_numeral l l)
    (well_if l (is_quote b) _ _ (well_string b bs)
    (well_if l (opens_comment l) _ _ (well_if l (is_some (behind_comment l)) _ _ tt (omega arith, omega arith))
    (well_fixed l symbols l (bad 10) refl (omega arith, omega arith))))))

-- ** What a token has

abbrev pub IsWellValued : List (List ℕ) → Token → Type 0
IsWellValued names t = IsInner t.kind × HasValue names t.kind t.value

valued : (names : List (List ℕ)) (t : Token) (k : TokenKind) → t.kind ≡ k → IsInner k × HasValue names k t.value → IsWellValued names t
valued names t k e h = subst (λ x. IsInner x × HasValue names x t.value) (sym e) h

pub text_at : (names : List (List ℕ)) (text : List ℕ) (n : ℕ) → number_in names text ≡ Some n → get_or names n [] ≡ text
text_at names text n e = get_or_from_slice_get names n text [] (slice_get-number_in names text n e)

pub numbered_at : (names : List (List ℕ)) (text : List ℕ) (n : ℕ) → number_in names text ≡ Some n → length text ≤ 1048576 → IsNumbered names n
numbered_at names text n e short = record { there = number_in-below names text n e; short = subst (λ t. length t ≤ 1048576) (sym (text_at names text n e)) short }

token_well : (names : List (List ℕ)) (lexeme : List ℕ) (m : Meaning) (t : Token) → meaning_of lexeme ≡ m → IsTrue (is_lexeme lexeme) → length lexeme ≤ 1048576 → MeansWell lexeme m → Means names m t → IsWellValued names t
token_well names lexeme blank t e one short w means = absurd means
token_well names lexeme (name text) t e one short w means =
    let spelled : IsIdentifier text = record { one = subst (λ l. IsTrue (is_lexeme l)) (sym w) one; spells = ap meaning_of w ∙ e } in
    valued names t kind.Identifier means.0 (
      tt,
      record {
        numbered = numbered_at names text t.value means.1 (subst (λ l. length l ≤ 1048576) (sym w) short);
        spelled = subst IsIdentifier (sym (text_at names text t.value means.1)) spelled;
      },
    )
token_well names lexeme (number value) t e one short w means = valued names t kind.Number means.0 (tt, subst (λ v. v ≤ 4294967295) (sym means.1) w)
token_well names lexeme (character value) t e one short w means = valued names t kind.Character means.0 (tt, subst (λ v. v ≤ 255) (sym means.1) w)
token_well names lexeme (string bytes) t e one short w means = valued names t kind.«String» means.0 (tt, numbered_at names bytes t.value means.1 (omega (arith, w, short)))
token_well names lexeme (fixed k) t e one short w means = valued names t k means.0 (fixed_inner k w, fixed_value names k t.value w)
token_well names lexeme (bad code) t e one short w means = valued names t kind.Bad means.0 (tt, subst (λ v. (10 ≤ v) × (v ≤ 13)) (sym means.1) w)

lexeme_well : (names lexemes : List (List ℕ)) (lexeme : List ℕ) (t : Token) (at : ℕ) (p : Position) → IsTrue (is_lexeme lexeme) → length lexeme ≤ 1048576
    → IsToken names (record { lexeme = lexeme; at = at; position = p }) t → IsWellValued names t
lexeme_well names lexemes [] t at p one short is = absurd (false≢true one)
lexeme_well names lexemes (b ∷ bs) t at p one short is = token_well names (b ∷ bs) (meaning_of (b ∷ bs)) t refl one short (well b bs) is.means

-- ** The tokens of a text

abbrev pub AreListed : List (List ℕ) → ℕ → List Token → Type 0
AreListed names at tokens = AreNumbered at tokens × Each (λ (t : Token). HasValue names t.kind t.value) tokens

end_listed : (names : List (List ℕ)) (at : ℕ) (p : Position) (tokens : List Token) → AllZip (IsToken names) (record { lexeme = []; at = at; position = p } ∷ []) tokens → AreListed names at tokens
end_listed names at p [] each = absurd each
end_listed names at p (t ∷ []) each = ((each.0.means.0, each.0.at), (subst (λ k. HasValue names k t.value) (sym each.0.means.0) tt, tt))
end_listed names at p (t ∷ u ∷ tokens) each = absurd each.1

more_listed : (names : List (List ℕ)) (at : ℕ) (t : Token) (tokens : List Token) → t.at ≡ at → IsWellValued names t → AreListed names (at + 1) tokens → AreListed names at (t ∷ tokens)
more_listed names at t [] e w rest = absurd rest.0
more_listed names at t (u ∷ tokens) e w rest = ((w.0, e, rest.0), (w.1, rest.1))

listed : (names : List (List ℕ)) (p : Position) (at : ℕ) (text : List ℕ) (lexemes : List (List ℕ)) (tokens : List Token) → length text ≤ 1048576 → AreLexemes text lexemes
    → AllZip (IsToken names) (placed_from p at lexemes) tokens → AreListed names at tokens
listed names p at text [] tokens short split each = end_listed names at p tokens each
listed names p at text (lexeme ∷ lexemes) tokens short split each =
    let sizes : length text ≡ length lexeme + length split.0 = ap length split.1 ∙ length-append lexeme split.0 in
    let after : length split.0 ≤ 1048576 = omega (arith, sizes, short) in
    go (is_blank_lexeme lexeme) tokens each (omega (arith, sizes, short)) (λ ts zip. listed names (after_bytes p lexeme) at split.0 lexemes ts after split.3 zip)
    (λ ts zip. listed names (after_bytes p lexeme) (at + 1) split.0 lexemes ts after split.3 zip)
  where
    go : (b : Bool) (tokens : List Token)
        → AllZip (IsToken names) (if b then placed_from (after_bytes p lexeme) at lexemes else record { lexeme = lexeme; at = at; position = p } ∷ placed_from (after_bytes p lexeme) (at + 1) lexemes) tokens
        → length lexeme ≤ 1048576
        → ((ts : List Token) → AllZip (IsToken names) (placed_from (after_bytes p lexeme) at lexemes) ts → AreListed names at ts)
        → ((ts : List Token) → AllZip (IsToken names) (placed_from (after_bytes p lexeme) (at + 1) lexemes) ts → AreListed names (at + 1) ts)
        → AreListed names at tokens
    go true tokens each here skip next = skip tokens each
    go false [] each here skip next = absurd each
    go false (t ∷ tokens) each here skip next =
        more_listed names at t tokens each.0.at (lexeme_well names lexemes lexeme t at p split.2.spells here each.0) (next tokens each.1)

-- ** The unit

module _ (old names : List (List ℕ)) (text : List ℕ) (tokens : List Token) (are : AreTokens old names text tokens) (short : length text ≤ 1048576) where
  pub text_listed : AreListed names 0 tokens
  text_listed = listed names first_position 0 text are.lexemes tokens short are.split are.each

  pub names_grow : IsPrefixOf standard_names old → IsPrefixOf standard_names names
  names_grow standard =
      let grown = with_names-grows old (names_in are.lexemes) in
      IsPrefixOf-trans standard (record { rest = grown.0; joined = sym grown.1 ∙ sym are.names })

  pub text_unit : (main : ℕ) → IsPrefixOf standard_names old → Each IsSpelling names → IsNamed names main → length tokens ≤ 1048576 → length names < 2 ^ 32 → IsUnit (one_text names main tokens)
  text_unit main standard spelled named few countable =
      record {
        standard = names_grow standard;
        countable = countable;
        spelled = spelled;
        main = (refl, tt);
        few = omega arith;
        tokens = omega (arith, few);
        texts = (record { named = named; count = few; numbered = text_listed.0; values = text_listed.1 }, tt);
        differ = tt;
        ordered = tt;
        once = tt;
        own_text = tt;
      }

-- ** The unit of a text alone

pub standard_few : length standard_names ≤ 1000
unfolding standard_names
standard_few = lit≤ tt

-- one more name leaves room
pub few_with : (file : List ℕ) → length (with_name standard_names file) ≤ 1001
few_with file =
    let grown = with_name-grows standard_names file in
    omega (arith, ap length grown.1, length-append standard_names grown.0, grown.2, standard_few)

standard_with : (file : List ℕ) → IsPrefixOf standard_names (with_name standard_names file)
standard_with file =
    let grown = with_name-grows standard_names file in
    record { rest = grown.0; joined = sym grown.1 }

module _ (file text : List ℕ) (names : List (List ℕ)) (number : ℕ) (tokens : List Token)
    (numbered : number_in (with_name standard_names file) file ≡ Some number) (are : AreTokens (with_name standard_names file) names text tokens) where
  -- the file's name keeps its number
  pub still_numbered : number_in names file ≡ Some number
  still_numbered =
      ap (λ all. number_in all file) are.names ∙ number_in-with_names (with_name standard_names file) (names_in are.lexemes) file number numbered

  pub lone_unit : IsIdentifier file → length file ≤ 1048576 → length text ≤ 1048576 → ((i : ℕ) → get_or file i 0 < 256) → ((i : ℕ) → get_or text i 0 < 256) → length tokens ≤ 1048576 → length names < 2 ^ 32
      → IsUnit (one_text names number tokens)
  lone_unit spelled short_name short file_bytes text_bytes few countable =
      text_unit (with_name standard_names file) names text tokens are short number (standard_with file)
      (spelled_after (with_name standard_names file) names text tokens (spelled_with standard_names file standard_spelled short_name file_bytes) short text_bytes are)
      (record { numbered = numbered_at names file number still_numbered short_name; spelled = subst IsIdentifier (sym (text_at names file number still_numbered)) spelled })
      few countable

  pub is_lone : IsLoneText file text (one_text names number tokens)
  is_lone = record { number = number; tokens = tokens; alone = refl; named = still_numbered; are_tokens = are }
