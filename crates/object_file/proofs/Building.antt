-- What has the fields that are asked is valid, if its code is: its bytes are its fields.
use Rattle.std.proofs.Common.{◌⊎◌, ◌≡◌, ◌^◌, ◌<◌, Bool, true, ℕ, List, [], ◌∷◌, ◌++◌, length, drop, refl, sym, ap, subst, ◌∙◌, append_assoc, inl, inr, arith}
use Rattle.std.specs.List.{flat_map}
use Rattle.std.proofs.lemmas.Bool.{le-leb}
use Rattle.std.proofs.lemmas.List.{append-nil}
use Rattle.code_form.specs.Heights.{Callee}
use Rattle.code_form.specs.Modules.{Procedure}
use Rattle.object_file.specs.Contents.{Export, KeyedImport, Contents, u32, with_length, magic, export_bytes, heading_bytes, import_bytes, frame_bytes, body_bytes, procedure_bytes, opening_bytes, lists_bytes, object_bytes, world_of}
use Rattle.object_file.specs.FieldsOf.{AllBehind, HasExport, HasHeading, HasImport, HasProcedure, HasFields}
use Rattle.object_file.specs.Formats.{Format, done, exact, number, text, raw, ◌>>=◌, many, counted, Spells}
use Rattle.object_file.specs.ObjectFormat.{any, is_count, export_format, heading_format, import_format, procedure_format, fields_format, format_with, version_near}
use Rattle.object_file.specs.Validity.{HaveValidCode, IsValid}
use Rattle.m2_base.specs.declared.limits.TheConstants.{MOST_CELLS}

-- ---- by parts

then_spelled : {A B : Type 0} (f : Format A) (g : A → Format B) (bytes : List ℕ) (x : A) (mid : List ℕ) (y : B) (rest : List ℕ) → Spells f bytes x mid → Spells (g x) mid y rest → Spells (f >>= g) bytes y rest
unfolding ◌>>=◌
then_spelled {A = A} (done a) g bytes x mid y rest s t = subst (λ (b : List ℕ). Spells (g a) b y rest) (sym s.1) (subst (λ (z : A). Spells (g z) mid y rest) (sym s.0) t)
then_spelled (exact e next) g bytes x mid y rest s t = (s.0, s.1, then_spelled next g s.0 x mid y rest s.2 t)
then_spelled (number ok next) g bytes x mid y rest s t = (s.0, s.1, s.2, s.3, s.4, then_spelled (next s.0) g s.1 x mid y rest s.5 t)
then_spelled (text ok next) g bytes x mid y rest s t = (s.0, s.1, s.2, s.3, s.4, then_spelled (next s.0) g s.1 x mid y rest s.5 t)
then_spelled (raw n next) g bytes x mid y rest s t = (s.0, s.1, s.2, s.3, then_spelled (next s.0) g s.1 x mid y rest s.4 t)

abbrev One : {A : Type 0} → (List A → Format A) → (A → List ℕ) → (List A → A → Type 0) → Type 0
One {A} one item Asked = (before : List A) (x : A) (rest : List ℕ) → Asked before x → Spells (one before) (item x ++ rest) x rest

many_spelled : {A : Type 0} (one : List A → Format A) (item : A → List ℕ) (Asked : List A → A → Type 0) → One one item Asked → (xs before : List A) (rest : List ℕ) → AllBehind Asked before xs
    → Spells (many one (length xs) before) (flat_map item xs ++ rest) (before ++ xs) rest
unfolding many
many_spelled one item Asked each [] before rest h = (sym (append-nil before), refl)
many_spelled {A = A} one item Asked each (x ∷ xs) before rest h =
    let further : Format (List A) = one before >>= λ y. many one (length xs) (before ++ y ∷ []) in
    let spelled = then_spelled (one before) (λ y. many one (length xs) (before ++ y ∷ [])) (item x ++ (flat_map item xs ++ rest)) x (flat_map item xs ++ rest) ((before ++ x ∷ []) ++ xs) rest
    (each before x (flat_map item xs ++ rest) h.0) (many_spelled one item Asked each xs (before ++ x ∷ []) rest h.1) in
    subst (λ (b : List ℕ). Spells further b (before ++ (x ∷ xs)) rest) (sym (append_assoc (item x) (flat_map item xs) rest))
    (subst (λ (all : List A). Spells further (item x ++ (flat_map item xs ++ rest)) all rest) (append_assoc before (x ∷ []) xs) spelled)

counted_spelled : {A : Type 0} (ok : ℕ → Bool) (one : List A → Format A) (item : A → List ℕ) (Asked : List A → A → Type 0) → One one item Asked → (xs : List A) (rest : List ℕ)
    → length xs < 2 ^ 32 → ok (length xs) ≡ true → AllBehind Asked [] xs → Spells (counted ok one) (u32 (length xs) ++ (flat_map item xs ++ rest)) xs rest
counted_spelled ok one item Asked each xs rest few fine h = (length xs, flat_map item xs ++ rest, few, refl, fine, many_spelled one item Asked each xs [] rest h)

-- ---- the object's parts

of_three : (a b c rest : List ℕ) → (a ++ b ++ c) ++ rest ≡ a ++ (b ++ (c ++ rest))
of_three a b c rest = simp append_assoc

export_spelled : One export_format export_bytes HasExport
unfolding export_format export_bytes ◌>>=◌
export_spelled before e rest h =
    subst (λ (b : List ℕ). Spells (export_format before) b e rest) (sym (of_three (u32 e.0) (u32 e.1) (u32 e.2) rest))
    (e.0, u32 e.1 ++ (u32 e.2 ++ rest), h.number, refl, h.some, (e.1, u32 e.2 ++ rest, h.params, refl, refl, (e.2, rest, h.result, refl, refl, (refl, refl))))

heading_spelled : One heading_format heading_bytes HasHeading
unfolding heading_format heading_bytes ◌>>=◌
heading_spelled before h rest fits =
    subst (λ (b : List ℕ). Spells (heading_format before) b h rest) (sym (append_assoc (u32 h.params) (u32 h.result) rest))
    (h.params, u32 h.result ++ rest, fits.params, refl, refl, (h.result, rest, fits.result, refl, refl, (refl, refl)))

of_five : (a b c d e rest : List ℕ) → (a ++ b ++ c ++ d ++ e) ++ rest ≡ a ++ (b ++ (c ++ (d ++ (e ++ rest))))
of_five a b c d e rest = simp append_assoc

import_spelled : (version : ℕ) → One (import_format version) import_bytes (HasImport version)
unfolding import_format import_bytes ◌>>=◌
import_spelled version before i rest h =
    let d = i.definition in
    let headings = flat_map heading_bytes d.headings ++ rest in
    let count = u32 (length d.headings) ++ headings in
    let cells = u32 d.cells ++ count in
    let key = i.key ++ cells in
    let of_headings = then_spelled (counted any heading_format) (λ (hs : List Callee). done (record { key = i.key; definition = record { name = d.name; cells = d.cells; headings = hs } }))
    count d.headings rest i rest (counted_spelled any heading_format heading_bytes HasHeading heading_spelled d.headings rest h.headings_few refl h.headings) (refl, refl) in
    subst (λ (b : List ℕ). Spells (import_format version before) b i rest) (sym (of_five (with_length d.name) i.key (u32 d.cells) (u32 (length d.headings)) (flat_map heading_bytes d.headings) rest))
    (d.name, key, h.name_short, refl, h.name, (i.key, cells, h.key, refl, (d.cells, count, h.cells, refl, refl, of_headings)))

of_seven : (a b c d e f g rest : List ℕ) → ((a ++ b ++ c ++ d) ++ (e ++ f ++ g)) ++ rest ≡ a ++ (b ++ (c ++ (d ++ (e ++ (f ++ (g ++ rest))))))
of_seven a b c d e f g rest = simp append_assoc

procedure_spelled : (exports : List Export) → One (procedure_format exports) procedure_bytes (HasProcedure exports)
unfolding procedure_format frame_bytes body_bytes ◌>>=◌
procedure_spelled exports before p rest h =
    let code = with_length p.code ++ rest in
    let strings = with_length p.bytes ++ code in
    let high = u32 p.high ++ strings in
    let locals = u32 p.locals ++ high in
    let result = u32 p.result ++ locals in
    let params = u32 p.params ++ result in
    subst (λ (b : List ℕ). Spells (procedure_format exports before) b p rest)
    (sym (of_seven (u32 p.outer) (u32 p.params) (u32 p.result) (u32 p.locals) (u32 p.high) (with_length p.bytes) (with_length p.code) rest)) (
      p.outer,
      params,
      h.outer_fits,
      refl,
      h.outer,
      (
        p.params,
        result,
        h.params_fit,
        refl,
        h.params,
        (
          p.result,
          locals,
          h.result_fits,
          refl,
          h.result,
          (
            p.locals,
            high,
            h.locals_fit,
            refl,
            h.locals,
            (p.high, strings, h.high, refl, refl, (p.bytes, code, h.bytes_short, refl, refl, (p.code, rest, h.code_short, refl, refl, (refl, refl)))),
          ),
        ),
      ),
    )

-- ---- the object

of_all : (a b c d e k f g h i j p : List ℕ)
    → ((a ++ b ++ c ++ d ++ e ++ k) ++ (f ++ g ++ h ++ i ++ j)) ++ p ≡ a ++ (b ++ (c ++ (d ++ (e ++ (k ++ (f ++ (g ++ (h ++ (i ++ (j ++ (p ++ [])))))))))))
of_all a b c d e k f g h i j p = simp (append_assoc, append-nil)

fields_spelled : (o : Contents) → HasFields o → Spells (format_with o.version) (object_bytes o) o []
unfolding format_with fields_format opening_bytes lists_bytes ◌>>=◌
fields_spelled o h =
    let last : List Export → List KeyedImport → List Procedure → Format Contents =
    λ es is ps. done (record { version = o.version; name = o.name; key = o.key; cells = o.cells; own_cells = o.own_cells; exports = es; imports = is; procedures = ps }) in
    let with_procedures : List Export → List KeyedImport → Format Contents = λ es is. counted (is_count es) (procedure_format es) >>= λ ps. last es is ps in
    let with_imports : List Export → Format Contents = λ es. counted any (import_format o.version) >>= λ is. with_procedures es is in
    let procedures = u32 (length o.procedures) ++ (flat_map procedure_bytes o.procedures ++ []) in
    let imports = u32 (length o.imports) ++ (flat_map import_bytes o.imports ++ procedures) in
    let exports = u32 (length o.exports) ++ (flat_map export_bytes o.exports ++ imports) in
    let key = o.key ++ exports in
    let own_cells = u32 o.own_cells ++ key in
    let cells = u32 o.cells ++ own_cells in
    let name = with_length o.name ++ cells in
    let few = h.cells in
    let own = h.own_cells in
    let of_procedures = then_spelled (counted (is_count o.exports) (procedure_format o.exports)) (last o.exports o.imports) procedures o.procedures [] o []
    (counted_spelled (is_count o.exports) (procedure_format o.exports) procedure_bytes (HasProcedure o.exports) (procedure_spelled o.exports) o.procedures [] h.procedures_few h.count h.procedures) (refl, refl) in
    let of_imports = then_spelled (counted any (import_format o.version)) (with_procedures o.exports) imports o.imports procedures o []
    (counted_spelled any (import_format o.version) import_bytes (HasImport o.version) (import_spelled o.version) o.imports procedures h.imports_few refl h.imports) of_procedures in
    let of_exports = then_spelled (counted any export_format) with_imports exports o.exports imports o []
    (counted_spelled any export_format export_bytes HasExport export_spelled o.exports imports h.exports_few refl h.exports) of_imports in
    subst (λ (b : List ℕ). Spells (format_with o.version) b o [])
    (sym (of_all magic (u32 o.version) (with_length o.name) (u32 o.cells) (u32 o.own_cells) o.key (u32 (length o.exports)) (flat_map export_bytes o.exports) (u32 (length o.imports)) (flat_map import_bytes o.imports) (u32 (length o.procedures)) (flat_map procedure_bytes o.procedures))) (
      u32 o.version ++ name,
      refl,
      (
        name,
        refl,
        (
          o.name,
          cells,
          h.name_short,
          refl,
          h.name,
          (
            o.cells,
            own_cells,
            omega (arith, few),
            refl,
            le-leb o.cells MOST_CELLS few,
            (o.own_cells, key, omega (arith, few, own), refl, le-leb o.own_cells o.cells own, (o.key, exports, h.key, refl, of_exports)),
          ),
        ),
      ),
    )

-- the bytes are of the object's version
of_magic : (o : Contents) (v : ℕ) → o.version ≡ v → version_near (drop 4 (object_bytes o)) ≡ version_near (u32 v)
unfolding version_near opening_bytes
of_magic o v e = ap (λ (n : ℕ). version_near (u32 n)) e

near_own : (o : Contents) → HasFields o → version_near (drop 4 (object_bytes o)) ≡ o.version
unfolding version_near
near_own o h = chosen h.version where
  chosen : (o.version ≡ 1) ⊎ (o.version ≡ 2) → version_near (drop 4 (object_bytes o)) ≡ o.version
  chosen (inl e) = of_magic o 1 e ∙ sym e
  chosen (inr e) = of_magic o 2 e ∙ sym e

pub valid_by_parts : (o : Contents) → HasFields o → HaveValidCode (world_of o) 0 o.procedures → IsValid o
valid_by_parts o h code = record {
  fields = subst (λ (v : ℕ). Spells (format_with v) (object_bytes o) o []) (sym (near_own o h)) (fields_spelled o h);
  code = code;
}
