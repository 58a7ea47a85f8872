-- What is spelled by the format of objects are the object's bytes, and its parts are short enough to be counted.
use Rattle.std.proofs.Common.{◌≡◌, ◌≢◌, Bool, ℕ, ◌^◌, ◌<◌, arith, zero, suc, List, [], ◌∷◌, ◌++◌, length, refl, sym, ap, subst, ◌∙◌, append_assoc}
use Rattle.std.specs.List.{AllByRecursion, flat_map}
use Rattle.std.proofs.lemmas.List.{append-nil}
use Rattle.code_form.specs.Heights.{Callee}
use Rattle.code_form.specs.Modules.{Procedure}
use Rattle.object_file.specs.Contents.{Export, KeyedImport, Contents, u32, with_length, magic, export_bytes, heading_bytes, import_bytes, frame_bytes, body_bytes, procedure_bytes, opening_bytes, lists_bytes, head_bytes, object_bytes}
use Rattle.object_file.specs.Short.{ShortImport, ShortProcedure, Short}
use Rattle.object_file.proofs.Outers.{Below, Below-more, smaller}
use Rattle.object_file.specs.Formats.{Format, done, exact, number, text, raw, ◌>>=◌, many, counted, Spells}
use Rattle.object_file.specs.ObjectFormat.{any, is_count, export_format, heading_format, import_format, procedure_format, fields_format, format_with}

-- ---- by parts

spells_then : {A B : Type 0} (f : Format A) (g : A → Format B) (bytes : List ℕ) (y : B) (rest : List ℕ) → Spells (f >>= g) bytes y rest → (x : A) × (mid : List ℕ) × Spells f bytes x mid × Spells (g x) mid y rest
unfolding ◌>>=◌
spells_then (done x) g bytes y rest s = (x, bytes, (refl, refl), s)
spells_then (exact e next) g bytes y rest s = let t = spells_then next g s.0 y rest s.2 in (t.0, t.1, (s.0, s.1, t.2), t.3)
spells_then (number ok next) g bytes y rest s = let t = spells_then (next s.0) g s.1 y rest s.5 in (t.0, t.1, (s.0, s.1, s.2, s.3, s.4, t.2), t.3)
spells_then (text ok next) g bytes y rest s = let t = spells_then (next s.0) g s.1 y rest s.5 in (t.0, t.1, (s.0, s.1, s.2, s.3, s.4, t.2), t.3)
spells_then (raw n next) g bytes y rest s = let t = spells_then (next s.0) g s.1 y rest s.4 in (t.0, t.1, (s.0, s.1, s.2, s.3, t.2), t.3)

join : (bytes a mid b rest : List ℕ) → bytes ≡ a ++ mid → mid ≡ b ++ rest → bytes ≡ (a ++ b) ++ rest
join bytes a mid b rest h k = h ∙ ap (λ (t : List ℕ). a ++ t) k ∙ sym (append_assoc a b rest)

-- entries are spelled one after another, and each is short
record Each {A : Type 0} (item : A → List ℕ) (Short : A → Type 0) (n : ℕ) (before : List A) (bytes : List ℕ) (all : List A) (rest : List ℕ) : Type 0 where
  more : List A
  all_are : all ≡ before ++ more
  so_many : length more ≡ n
  spelled : bytes ≡ flat_map item more ++ rest
  short : AllByRecursion Short more

abbrev One : {A : Type 0} → (List A → Format A) → (A → List ℕ) → (A → Type 0) → Type 0
One {A} one item Short = (before : List A) (bytes : List ℕ) (x : A) (rest : List ℕ) → Spells (one before) bytes x rest → (bytes ≡ item x ++ rest) × Short x

spells_many : {A : Type 0} (one : List A → Format A) (item : A → List ℕ) (Short : A → Type 0) → One one item Short → (n : ℕ) (before : List A) (bytes : List ℕ) (all : List A) (rest : List ℕ) → Spells (many one n before) bytes all rest → Each item Short n before bytes all rest
unfolding many
spells_many one item Short each zero before bytes all rest s = record { more = []; all_are = sym s.0 ∙ sym (append-nil before); so_many = refl; spelled = s.1; short = tt }
spells_many one item Short each (suc n) before bytes all rest s =
    let t = spells_then (one before) (λ x. many one n (before ++ x ∷ [])) bytes all rest s in
    let h = each before bytes t.0 t.1 t.2 in
    let r = spells_many one item Short each n (before ++ t.0 ∷ []) t.1 all rest t.3 in
    record {
      more = t.0 ∷ r.more;
      all_are = r.all_are ∙ append_assoc before (t.0 ∷ []) r.more;
      so_many = ap suc r.so_many;
      spelled = join bytes (item t.0) t.1 (flat_map item r.more) rest h.0 r.spelled;
      short = (h.1, r.short);
    }

-- a count, and so many entries
record Counted {A : Type 0} (item : A → List ℕ) (Short : A → Type 0) (bytes : List ℕ) (all : List A) (rest : List ℕ) : Type 0 where
  spelled : bytes ≡ u32 (length all) ++ (flat_map item all ++ rest)
  few : length all < 2 ^ 32
  short : AllByRecursion Short all

spells_counted : {A : Type 0} (ok : ℕ → Bool) (one : List A → Format A) (item : A → List ℕ) (Short : A → Type 0) → One one item Short → (bytes : List ℕ) (all : List A) (rest : List ℕ) → Spells (number ok (λ n. many one n [])) bytes all rest → Counted item Short bytes all rest
spells_counted {A = A} ok one item Short each bytes all rest s =
    let e = spells_many one item Short each s.0 [] s.1 all rest s.5 in
    let n : length all ≡ s.0 = ap length e.all_are ∙ e.so_many in
    let P : List A → Type 0 = λ xs. Counted item Short bytes xs rest in
    subst P (sym e.all_are) (record {
      spelled = s.3 ∙ ap (λ (k : ℕ). u32 k ++ s.1) (sym e.so_many) ∙ ap (λ (t : List ℕ). u32 (length e.more) ++ t) e.spelled;
      few = subst (λ (k : ℕ). k < 2 ^ 32) (sym e.so_many) s.2;
      short = e.short;
    })

-- ---- what is short enough to be counted

abbrev pub NoDemand : {A : Type 0} → A → Type 0
NoDemand x = Unit {0}

-- ---- the object's parts

spells_export : One export_format export_bytes NoDemand
unfolding export_format export_bytes ◌>>=◌
spells_export before bytes x rest s =
    let d = s.5.5.5 in
    let made : Export = (s.0, s.5.0, s.5.5.0) in
    let whole : bytes ≡ (u32 made.0 ++ u32 made.1 ++ u32 made.2) ++ s.5.5.1 =
    join bytes (u32 made.0 ++ u32 made.1) s.5.1 (u32 made.2) s.5.5.1 (join bytes (u32 made.0) s.1 (u32 made.1) s.5.1 s.3 s.5.3) s.5.5.3 in
    (subst (λ (e : Export). bytes ≡ (u32 e.0 ++ u32 e.1 ++ u32 e.2) ++ rest) d.0 (whole ∙ ap (λ (r : List ℕ). (u32 made.0 ++ u32 made.1 ++ u32 made.2) ++ r) d.1), tt)

spells_heading : One heading_format heading_bytes NoDemand
unfolding heading_format heading_bytes ◌>>=◌
spells_heading before bytes x rest s =
    let d = s.5.5 in
    let whole : bytes ≡ (u32 s.0 ++ u32 s.5.0) ++ s.5.1 = join bytes (u32 s.0) s.1 (u32 s.5.0) s.5.1 s.3 s.5.3 in
    (subst (λ (h : Callee). bytes ≡ (u32 h.params ++ u32 h.result) ++ rest) d.0 (whole ∙ ap (λ (r : List ℕ). (u32 s.0 ++ u32 s.5.0) ++ r) d.1), tt)

spells_import : (version : ℕ) → One (import_format version) import_bytes ShortImport
unfolding import_format import_bytes ◌>>=◌
spells_import version before bytes x rest s =
    let k = s.5 in
    let s1 = k.4 in
    let t = spells_then (counted any heading_format) (λ (hs : List Callee). done (record { key = k.0; definition = record { name = s.0; cells = s1.0; headings = hs } })) s1.1 x rest s1.5 in
    let c = spells_counted any heading_format heading_bytes NoDemand spells_heading s1.1 t.0 t.1 t.2 in
    let name = with_length s.0 in
    let key = k.0 in
    let cells = u32 s1.0 in
    let count = u32 (length t.0) in
    let headings = flat_map heading_bytes t.0 in
    let h0 : bytes ≡ (name ++ key) ++ k.1 = join bytes name s.1 key k.1 s.3 k.3 in
    let h1 : bytes ≡ (name ++ key ++ cells) ++ s1.1 = join bytes (name ++ key) k.1 cells s1.1 h0 s1.3 in
    let h2 : bytes ≡ (name ++ key ++ cells ++ count) ++ (headings ++ t.1) = join bytes (name ++ key ++ cells) s1.1 count (headings ++ t.1) h1 c.spelled in
    let h3 : bytes ≡ (name ++ key ++ cells ++ count ++ headings) ++ t.1 = join bytes (name ++ key ++ cells ++ count) (headings ++ t.1) headings t.1 h2 refl in
    let P : KeyedImport → Type 0 =
    λ i. (bytes ≡ (with_length i.definition.name ++ i.key ++ u32 i.definition.cells ++ u32 (length i.definition.headings) ++ flat_map heading_bytes i.definition.headings) ++ rest) × ShortImport i in
    subst P t.3.0 (h3 ∙ ap (λ (r : List ℕ). (name ++ key ++ cells ++ count ++ headings) ++ r) t.3.1, record { name = s.2; headings = c.few })

spells_procedure : (exports : List Export) → One (procedure_format exports) procedure_bytes ShortProcedure
unfolding procedure_format frame_bytes body_bytes ◌>>=◌
spells_procedure exports before bytes x rest s =
    let s1 = s.5 in
    let s2 = s1.5 in
    let s3 = s2.5 in
    let s4 = s3.5 in
    let s5 = s4.5 in
    let s6 = s5.5 in
    let d = s6.5 in
    let made : Procedure = record { outer = s.0; params = s1.0; result = s2.0; locals = s3.0; high = s4.0; bytes = s5.0; code = s6.0 } in
    let outer = u32 s.0 in
    let params = u32 s1.0 in
    let result = u32 s2.0 in
    let locals = u32 s3.0 in
    let high = u32 s4.0 in
    let strings = with_length s5.0 in
    let code = with_length s6.0 in
    let f1 : bytes ≡ (outer ++ params) ++ s1.1 = join bytes outer s.1 params s1.1 s.3 s1.3 in
    let f2 : bytes ≡ (outer ++ params ++ result) ++ s2.1 = join bytes (outer ++ params) s1.1 result s2.1 f1 s2.3 in
    let f3 : bytes ≡ (outer ++ params ++ result ++ locals) ++ s3.1 = join bytes (outer ++ params ++ result) s2.1 locals s3.1 f2 s3.3 in
    let b1 : s3.1 ≡ (high ++ strings) ++ s5.1 = join s3.1 high s4.1 strings s5.1 s4.3 s5.3 in
    let b2 : s3.1 ≡ (high ++ strings ++ code) ++ s6.1 = join s3.1 (high ++ strings) s5.1 code s6.1 b1 s6.3 in
    let whole : bytes ≡ ((outer ++ params ++ result ++ locals) ++ (high ++ strings ++ code)) ++ s6.1 = join bytes (outer ++ params ++ result ++ locals) s3.1 (high ++ strings ++ code) s6.1 f3 b2 in
    let P : Procedure → Type 0 = λ p. (bytes ≡ procedure_bytes p ++ rest) × ShortProcedure p in
    subst P d.0 (whole ∙ ap (λ (r : List ℕ). procedure_bytes made ++ r) d.1, record { bytes = s5.2; code = s6.2 })

-- what stands before the procedures, part by part
abbrev head_of : (version : ℕ) (name : List ℕ) (cells own_cells : ℕ) (key : List ℕ) (exports : List Export) (imports : List KeyedImport) (count : ℕ) → List ℕ
head_of version name cells own_cells key exports imports count =
    magic ++ u32 version ++ with_length name ++ u32 cells ++ u32 own_cells ++ key
    ++ u32 (length exports) ++ flat_map export_bytes exports
    ++ u32 (length imports) ++ flat_map import_bytes imports
    ++ u32 count

head_joined : (bytes : List ℕ) (version : ℕ) (name : List ℕ) (cells own_cells : ℕ) (key : List ℕ) (exports : List Export) (imports : List KeyedImport) (count : ℕ) (m0 m1 m2 m3 mk m4 m5 m6 m7 m8 rest : List ℕ)
    → bytes ≡ magic ++ m0 → m0 ≡ u32 version ++ m1 → m1 ≡ with_length name ++ m2 → m2 ≡ u32 cells ++ m3 → m3 ≡ u32 own_cells ++ mk → mk ≡ key ++ m4
    → m4 ≡ u32 (length exports) ++ m5 → m5 ≡ flat_map export_bytes exports ++ m6 → m6 ≡ u32 (length imports) ++ m7 → m7 ≡ flat_map import_bytes imports ++ m8
    → m8 ≡ u32 count ++ rest → bytes ≡ head_of version name cells own_cells key exports imports count ++ rest
head_joined bytes version name cells own_cells key exports imports count m0 m1 m2 m3 mk m4 m5 m6 m7 m8 rest h0 h1 h2 h3 h4 hk h5 h6 h7 h8 h9 =
    let ne = u32 (length exports) in
    let es = flat_map export_bytes exports in
    let ni = u32 (length imports) in
    let is = flat_map import_bytes imports in
    let t1 = magic ++ u32 version in
    let t2 = t1 ++ with_length name in
    let t3 = t2 ++ u32 cells in
    let t4 = t3 ++ u32 own_cells in
    let tk = t4 ++ key in
    let t5 = tk ++ ne in
    let t6 = t5 ++ es in
    let t7 = t6 ++ ni in
    let t8 = t7 ++ is in
    join bytes t8 m8 (u32 count) rest (join bytes t7 m7 is m8 (join bytes t6 m6 ni m7 (join bytes t5 m5 es m6 (join bytes tk m4 ne m5
    (join bytes t4 mk key m4 (join bytes t3 m3 (u32 own_cells) mk (join bytes t2 m2 (u32 cells) m3 (join bytes t1 m1 (with_length name) m2 (join bytes magic m0 (u32 version) m1 h0 h1) h2) h3) h4) hk) h5) h6) h7) h8) h9

parted : (a b c d e k f g h i j : List ℕ) → a ++ b ++ c ++ d ++ e ++ k ++ f ++ g ++ h ++ i ++ j ≡ (a ++ b ++ c ++ d ++ e ++ k) ++ (f ++ g ++ h ++ i ++ j)
parted a b c d e k f g h i j = simp append_assoc

outer_below : (es : List Export) (before : List Procedure) (bytes : List ℕ) (x : Procedure) (rest : List ℕ) → Spells (procedure_format es before) bytes x rest → x.outer ≢ 0 → x.outer < length before
unfolding procedure_format ◌>>=◌
outer_below es before bytes x rest s some =
    let is : s.0 ≡ x.outer = ap (λ (p : Procedure). p.outer) s.5.5.5.5.5.5.5.0 in
    subst (λ (n : ℕ). n < length before) is (smaller es (length before) s.0 s.4 (λ none. some (sym is ∙ none)))

-- the outer procedures of those that are spelled
below_many : (es : List Export) (n : ℕ) (before : List Procedure) (bytes : List ℕ) (all : List Procedure) (rest : List ℕ) → Spells (many (procedure_format es) n before) bytes all rest → Below 0 before → Below 0 all
unfolding many
below_many es zero before bytes all rest s b = subst (Below 0) s.0 b
below_many es (suc n) before bytes all rest s b =
    let t = spells_then (procedure_format es before) (λ x. many (procedure_format es) n (before ++ x ∷ [])) bytes all rest s in
    below_many es n (before ++ t.0 ∷ []) t.1 all rest t.3 (Below-more 0 before t.0 b (λ some. (let l = outer_below es before bytes t.0 t.1 t.2 some in omega (arith, l))))

pub record Written (version : ℕ) (bytes : List ℕ) (o : Contents) (rest : List ℕ) : Type 0 where
  pub version_is : o.version ≡ version
  pub spelled : bytes ≡ object_bytes o ++ rest
  pub short : Short o
  pub outers : Below 0 o.procedures

-- what is spelled so are the object's bytes
pub written : (version : ℕ) (bytes : List ℕ) (o : Contents) (rest : List ℕ) → Spells (format_with version) bytes o rest → Written version bytes o rest
unfolding format_with fields_format opening_bytes lists_bytes ◌>>=◌
written version bytes o rest s =
    let s1 = s.2 in
    let s2 = s1.2 in
    let s3 = s2.5 in
    let s4 = s3.5 in
    let k = s4.5 in
    let last : List Export → List KeyedImport → List Procedure → Format Contents =
    λ es is ps. done (record { version = version; name = s2.0; key = k.0; cells = s3.0; own_cells = s4.0; exports = es; imports = is; procedures = ps }) in
    let with_procedures : List Export → List KeyedImport → Format Contents = λ es is. counted (is_count es) (procedure_format es) >>= λ ps. last es is ps in
    let with_imports : List Export → Format Contents = λ es. counted any (import_format version) >>= λ is. with_procedures es is in
    let e = spells_then (counted any export_format) with_imports k.1 o rest k.4 in
    let i = spells_then (counted any (import_format version)) (with_procedures e.0) e.1 o rest e.3 in
    let p = spells_then (counted (is_count e.0) (procedure_format e.0)) (last e.0 i.0) i.1 o rest i.3 in
    let ce = spells_counted any export_format export_bytes NoDemand spells_export k.1 e.0 e.1 e.2 in
    let ci = spells_counted any (import_format version) import_bytes ShortImport (spells_import version) e.1 i.0 i.1 i.2 in
    let cp = spells_counted (is_count e.0) (procedure_format e.0) procedure_bytes ShortProcedure (spells_procedure e.0) i.1 p.0 p.1 p.2 in
    let made : Contents = record { version = version; name = s2.0; key = k.0; cells = s3.0; own_cells = s4.0; exports = e.0; imports = i.0; procedures = p.0 } in
    let head = head_of version s2.0 s3.0 s4.0 k.0 e.0 i.0 (length p.0) in
    let procedures = flat_map procedure_bytes p.0 in
    let front : bytes ≡ head ++ (procedures ++ p.1) =
    head_joined bytes version s2.0 s3.0 s4.0 k.0 e.0 i.0 (length p.0) s.0 s1.0 s2.1 s3.1 s4.1 k.1 (flat_map export_bytes e.0 ++ e.1) e.1 (flat_map import_bytes i.0 ++ i.1) i.1 (procedures ++ p.1)
    s.1 s1.1 s2.3 s3.3 s4.3 k.3 ce.spelled refl ci.spelled refl cp.spelled in
    let whole : bytes ≡ (head ++ procedures) ++ p.1 = join bytes head (procedures ++ p.1) procedures p.1 front refl in
    let halves : head ≡ head_bytes made =
    parted magic (u32 version) (with_length s2.0) (u32 s3.0) (u32 s4.0) k.0 (u32 (length e.0)) (flat_map export_bytes e.0) (u32 (length i.0)) (flat_map import_bytes i.0) (u32 (length p.0)) in
    let P : Contents → Type 0 = λ x. Written version bytes x rest in
    subst P p.3.0 (record {
      version_is = refl;
      spelled = whole ∙ ap (λ (r : List ℕ). (head ++ procedures) ++ r) p.3.1 ∙ ap (λ (h : List ℕ). (h ++ procedures) ++ rest) halves;
      short = record { name = s2.2; exports = ce.few; imports = ci.few; procedures = cp.few; each_import = ci.short; each_procedure = cp.short };
      outers = below_many e.0 p.2.0 [] p.2.1 p.0 p.1 p.2.5 tt;
    })
