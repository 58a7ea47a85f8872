-- The names of a valid object's imports are identifiers, and so are text.
use Rattle.std.proofs.Common.{◌≡◌, ℕ, zero, suc, ◌<◌, true, List, [], ◌∷◌, ◌++◌, drop, arith, refl, subst}
use Rattle.std.specs.Prelude.{not}
use Rattle.std.specs.List.{AllByRecursion, list_all, list_any}
use Rattle.std.specs.Str.{IsAscii, IsUtf8, bytes_eq}
use Rattle.std.proofs.lemmas.Bool.{and_parts, false≢true}
use Rattle.std.proofs.lemmas.Bool.Decides.{nat_tests}
use Rattle.std.proofs.lemmas.Str.{IsUtf8-from_ascii}
use Rattle.std.proofs.lemmas.Str.Ascii.{IsAscii-nil, IsAscii-cons}
use Rattle.m2_base.specs.Letters.{goes_on, is_letter}
use Rattle.code_form.specs.Heights.{Callee}
use Rattle.code_form.specs.Modules.{Procedure}
use Rattle.object_file.specs.Contents.{Contents, Export, KeyedImport, object_bytes}
use Rattle.object_file.specs.Formats.{Format, done, exact, number, raw, text, ◌>>=◌, many, counted, Spells}
use Rattle.object_file.specs.ObjectFormat.{any, export_format, fields_format, format_with, heading_format, import_format, is_count, is_identifier, is_new_name, procedure_format, version_near}
use Rattle.object_file.specs.Validity.{IsValid}

-- ---- names are text

small : (c : ℕ) → goes_on c ≡ true → c < 128
small c h = grind (arith, nat_tests)

letter : (c : ℕ) → is_letter c ≡ true → c < 128
letter c h = grind (arith, nat_tests)

all_small : (bytes : List ℕ) → list_all goes_on bytes ≡ true → IsAscii bytes
all_small [] h = IsAscii-nil
all_small (b ∷ bytes) h = let p = and_parts (goes_on b) (list_all goes_on bytes) h in IsAscii-cons b bytes (small b p.0) (all_small bytes p.1)

pub identifier_text : (bytes : List ℕ) → is_identifier bytes ≡ true → IsUtf8 bytes
unfolding is_identifier
identifier_text [] h = absurd (false≢true h)
identifier_text (b ∷ bytes) h =
    let p = and_parts (is_letter b) (list_all goes_on bytes) h in
    IsUtf8-from_ascii (b ∷ bytes) (IsAscii-cons b bytes (letter b p.0) (all_small bytes p.1))

-- ---- names of imports

abbrev pub AreNamed : List KeyedImport → Type 0
AreNamed is = AllByRecursion (λ i. is_identifier i.definition.name ≡ true) is

spells_then : {A B : Type 0} (f : Format A) (g : A → Format B) (bytes : List ℕ) (y : B) (rest : List ℕ) → Spells (f >>= g) bytes y rest → (x : A) × (mid : List ℕ) × Spells f bytes x mid × Spells (g x) mid y rest
unfolding ◌>>=◌
spells_then (done x) g bytes y rest s = (x, bytes, (refl, refl), s)
spells_then (exact e next) g bytes y rest s = let t = spells_then next g s.0 y rest s.2 in (t.0, t.1, (s.0, s.1, t.2), t.3)
spells_then (number ok next) g bytes y rest s = let t = spells_then (next s.0) g s.1 y rest s.5 in (t.0, t.1, (s.0, s.1, s.2, s.3, s.4, t.2), t.3)
spells_then (text ok next) g bytes y rest s = let t = spells_then (next s.0) g s.1 y rest s.5 in (t.0, t.1, (s.0, s.1, s.2, s.3, s.4, t.2), t.3)
spells_then (raw n next) g bytes y rest s = let t = spells_then (next s.0) g s.1 y rest s.4 in (t.0, t.1, (s.0, s.1, s.2, s.3, t.2), t.3)

new_name : (before : List KeyedImport) (name : List ℕ) → is_new_name before name ≡ true → is_identifier name ≡ true
unfolding is_new_name
new_name before name h = (and_parts (is_identifier name) (not (list_any (λ i. bytes_eq name i.definition.name) before)) h).0

named_one : (version : ℕ) (before : List KeyedImport) (bytes : List ℕ) (x : KeyedImport) (rest : List ℕ) → Spells (import_format version before) bytes x rest → is_identifier x.definition.name ≡ true
unfolding import_format ◌>>=◌
named_one version before bytes x rest s =
    let k = s.5 in
    let c = k.4 in
    let last : List Callee → Format KeyedImport = λ hs. done (record { key = k.0; definition = record { name = s.0; cells = c.0; headings = hs } }) in
    let h = spells_then (counted any heading_format) last c.1 x rest c.5 in
    subst (λ (i : KeyedImport). is_identifier i.definition.name ≡ true) h.3.0 (new_name before s.0 s.4)

named_more : (is : List KeyedImport) (i : KeyedImport) → AreNamed is → is_identifier i.definition.name ≡ true → AreNamed (is ++ i ∷ [])
named_more [] i all one = (one, tt)
named_more (x ∷ is) i all one = (all.0, named_more is i all.1 one)

named_many : (version n : ℕ) (before : List KeyedImport) (bytes : List ℕ) (all : List KeyedImport) (rest : List ℕ) → Spells (many (import_format version) n before) bytes all rest → AreNamed before → AreNamed all
unfolding many
named_many version zero before bytes all rest s b = subst AreNamed s.0 b
named_many version (suc n) before bytes all rest s b =
    let t = spells_then (import_format version before) (λ x. many (import_format version) n (before ++ x ∷ [])) bytes all rest s in
    named_many version n (before ++ t.0 ∷ []) t.1 all rest t.3 (named_more before t.0 b (named_one version before bytes t.0 t.1 t.2))

named_in : (version : ℕ) (bytes : List ℕ) (o : Contents) (rest : List ℕ) → Spells (format_with version) bytes o rest → AreNamed o.imports
unfolding format_with fields_format ◌>>=◌
named_in version bytes o rest s =
    let s1 = s.2 in
    let s2 = s1.2 in
    let s3 = s2.5 in
    let s4 = s3.5 in
    let k = s4.5 in
    let last : List Export → List KeyedImport → List Procedure → Format Contents =
    λ es is ps. done (record { version = version; name = s2.0; key = k.0; cells = s3.0; own_cells = s4.0; exports = es; imports = is; procedures = ps }) in
    let with_procedures : List Export → List KeyedImport → Format Contents = λ es is. counted (is_count es) (procedure_format es) >>= λ ps. last es is ps in
    let with_imports : List Export → Format Contents = λ es. counted any (import_format version) >>= λ is. with_procedures es is in
    let e = spells_then (counted any export_format) with_imports k.1 o rest k.4 in
    let i = spells_then (counted any (import_format version)) (with_procedures e.0) e.1 o rest e.3 in
    let p = spells_then (counted (is_count e.0) (procedure_format e.0)) (last e.0 i.0) i.1 o rest i.3 in
    subst (λ (x : Contents). AreNamed x.imports) p.3.0 (named_many version i.2.0 [] i.2.1 i.0 i.1 i.2.5 tt)

pub imports_named : (o : Contents) → IsValid o → AreNamed o.imports
imports_named o v = named_in (version_near (drop 4 (object_bytes o))) (object_bytes o) o [] v.fields
