-- Each diagnostic that stands in a listing has a line there.
use Rattle.std.proofs.Common.{◌≡◌, ℕ, ◌+◌, ◌<◌, Bool, true, false, List, [], ◌∷◌, ◌++◌, Option, Some, None, length, length-append, map, refl, sym, ◌∙◌, ap, subst, slice_get, append_assoc, if◌then◌else◌}
use Rattle.std.proofs.lemmas.List.{length-map, map-append}
use Rattle.m2_io.specs.Files.{Files}
use Rattle.std.specs.Prelude.{nat_eq, not}
use Rattle.m2_base.specs.Lists.{Each}
use Rattle.m2_base.specs.Statics.Leaves.{NameOptionHas, NamesHave}
use Rattle.m2_base.specs.Statics.StandingTrees.{IsBelow, Stands}
use Rattle.m2_base.specs.Units.{IsUnit, TextOf, UnitTexts}
use Rattle.m2_base.specs.declared.diagnostic.Diagnostic.TheVariants.{CircularImports, NoDefinitionText, OtherModuleName}
use Rattle.m2_base.specs.declared.diagnostic.Diagnostic.{Diagnostic}
use Rattle.m2_base.specs.declared.notes.Diag.{Diag}
use Rattle.m2_base.specs.declared.trees.Ident.{Ident}
use Rattle.m2_base.proofs.EachLaws.{each_append}
use Rattle.m2_base.proofs.LeafFronts.{FrontHas}
use Rattle.m2_base.proofs.StandingStreams.{front_stands, tokens_below}
use Rattle.m2_lex.proofs.TextUnit.{text_listed}
use Rattle.def_import.specs.Answers.{IsWhole}
use Rattle.def_import.specs.Closure.{Found, Progress, own_name}
use Rattle.def_import.specs.Dependencies.{dependency_order}
use Rattle.def_import.specs.Outcomes.{IsGatheredFrom, IsRead, Reaches, begun, is_there, main_read, not_there, then_asks}
use Rattle.def_import.specs.Wrongs.{is_circular, is_missing, missing_imports, no_own, wrong_at, wrong_name, wrongs_from, wrongs_in}
use Rattle.unit_merge.specs.Outcome.{diagnostics}
use Rattle.unit_outcome.specs.Outcomes.{ComesTo}
use Rattle.unit_outcome.specs.Tokens.{IsAtToken}
use Rattle.module_outcome.specs.Decisions.{Decides, DecidesUnit, has_diagnostics, has_no_text, has_wrong_imports, is_compiled, is_nested_too_deep, of_unit, passes_procedures, passes_texts}
use Rattle.module_outcome.specs.Lines.{HasLine}
use Rattle.module_outcome.specs.Verdicts.{Decision, listed}
use Rattle.module_outcome.proofs.GatheredUnits.{is_whole}

-- the text at a place of a list
at_place : {A : Type 0} (before : List A) (x : A) (behind : List A) → slice_get (before ++ x ∷ behind) (length before) ≡ Some x
at_place [] x behind = refl
at_place (b ∷ before) x behind = at_place before x behind

-- ** What is wrong with imports

-- the names of the text's front stand at its tokens
abbrev IsListed : Found → Type 0
IsListed f = FrontHas (Stands (IsBelow (length f.text.tokens))) f.front

each_pushed : {A : Type 0} (P : A → Type 0) (xs : List A) (x : A) → Each P xs → P x → Each P (xs ++ x ∷ [])
each_pushed P xs x h p = each_append P xs (x ∷ []) h (p, tt)

read_listed : (old new : List (List ℕ)) (definition : Bool) (name : ℕ) (bytes : List ℕ) (f : Found) → IsRead old definition name bytes new f → IsListed f
read_listed old new definition name bytes f read =
    front_stands (length f.text.tokens) definition f.text.tokens f.front read.front (tokens_below f.text.tokens (text_listed old new bytes f.text.tokens read.tokens read.short).0)

reached_listed : (holds : Option Files) (file main : List ℕ) (p : Progress) → Reaches holds file main p → Each IsListed p.found
reached_listed holds file main p (main_read {number = number} numbered reads) =
    subst (λ (q : Progress). Each IsListed q.found) (sym reads.longer) (read_listed (begun file).names reads.names false number main reads.found reads.read, tt)
reached_listed holds file main _ (then_asks {p = p} reached next (not_there has)) = reached_listed holds file main p reached
reached_listed holds file main q (then_asks {p = p} {name = name} reached next (is_there {bytes = bytes} has reads)) =
    subst (λ (q : Progress). Each IsListed q.found) (sym reads.longer)
    (each_pushed IsListed p.found reads.found (reached_listed holds file main p reached) (read_listed p.names reads.names true name bytes reads.found reads.read))

module _ (u : UnitTexts) (text : ℕ) (f : Found) (there : slice_get u.list text ≡ Some f.text) where
  one_line : (i : Ident) (kind : Diagnostic) (b : Bool) → i.at < length f.text.tokens → Each (HasLine u) (wrong_at text i kind b)
  one_line i kind false low = tt
  one_line i kind true low = ((f.text, there, low), tt)

  own_line : (p : Progress) (o : Option Ident) → NameOptionHas (Stands (IsBelow (length f.text.tokens))) o → Each (HasLine u) (no_own p text o)
  own_line p None h = tt
  own_line p (Some i) h = one_line i NoDefinitionText (is_missing p i) h

  name_line : (order : List ℕ) (o : Option Ident) → NameOptionHas (Stands (IsBelow (length f.text.tokens))) o → Each (HasLine u) (wrong_name order text f o)
  name_line order None h = tt
  name_line order (Some i) h =
      each_append (HasLine u) (wrong_at text i OtherModuleName (not (nat_eq i.name f.text.name))) (wrong_at text i CircularImports (is_circular order text))
      (one_line i OtherModuleName (not (nat_eq i.name f.text.name)) h) (one_line i CircularImports (is_circular order text) h)

  import_lines : (p : Progress) (imports : List Ident) → NamesHave (Stands (IsBelow (length f.text.tokens))) imports → Each (HasLine u) (missing_imports p text imports)
  import_lines p [] h = tt
  import_lines p (i ∷ imports) h =
      each_append (HasLine u) (wrong_at text i NoDefinitionText (is_missing p i)) (missing_imports p text imports) (one_line i NoDefinitionText (is_missing p i) h.0) (import_lines p imports h.1)

  own_stands : IsListed f → NameOptionHas (Stands (IsBelow (length f.text.tokens))) (own_name f.front)
  own_stands h = go f.front.implementation
    where
      go : (b : Bool) → NameOptionHas (Stands (IsBelow (length f.text.tokens))) (if b then f.front.name else None)
      go true = h.name
      go false = tt

  text_lines : (p : Progress) (order : List ℕ) → IsListed f → Each (HasLine u) (wrongs_in p order text f)
  text_lines p order h =
      let own = no_own p text (own_name f.front) in
      let name = wrong_name order text f f.front.name in
      each_append (HasLine u) (own ++ name) (missing_imports p text f.front.imports)
      (each_append (HasLine u) own name (own_line p (own_name f.front) (own_stands h)) (name_line order f.front.name h.name)) (import_lines p f.front.imports h.imports)

module _ (u : UnitTexts) (p : Progress) (texts : u.list ≡ map (λ (f : Found). f.text) p.found) where
  found_at : (before : List Found) (f : Found) (behind : List Found) → p.found ≡ before ++ f ∷ behind → slice_get u.list (length before) ≡ Some f.text
  found_at before f behind e =
      ap (λ (l : List TextOf). slice_get l (length before)) (texts ∙ ap (map (λ (x : Found). x.text)) e ∙ map-append (λ (x : Found). x.text) before (f ∷ behind))
      ∙ ap (slice_get (map (λ (x : Found). x.text) before ++ f.text ∷ map (λ (x : Found). x.text) behind)) (sym (length-map before (λ (x : Found). x.text)))
      ∙ at_place (map (λ (x : Found). x.text) before) f.text (map (λ (x : Found). x.text) behind)

  all_lines : (before behind : List Found) → p.found ≡ before ++ behind → Each IsListed behind → Each (HasLine u) (wrongs_from p (dependency_order p) (length before) behind)
  all_lines before [] e h = tt
  all_lines before (f ∷ behind) e h =
      let there : slice_get u.list (length before) ≡ Some f.text = found_at before f behind e in
      let rest = all_lines (before ++ f ∷ []) behind (e ∙ sym (append_assoc before (f ∷ []) behind)) h.1 in
      each_append (HasLine u) (wrongs_in p (dependency_order p) (length before) f) (wrongs_from p (dependency_order p) (length before + 1) behind)
      (text_lines u (length before) f there p (dependency_order p) h.0)
      (subst (λ (k : ℕ). Each (HasLine u) (wrongs_from p (dependency_order p) k behind)) (length-append before (f ∷ [])) rest)

pub wrong_imports_lined : (holds : Option Files) (name : List ℕ) (unit : UnitTexts) (wrongs : List Diag) → IsGatheredFrom holds name unit wrongs → Each (HasLine unit) wrongs
wrong_imports_lined holds name unit wrongs g =
    let p = g.gathered.progress in
    let texts : unit.list ≡ map (λ (f : Found). f.text) p.found = ap (λ (u : UnitTexts). u.list) g.gathered.texts in
    subst (λ (ds : List Diag). Each (HasLine unit) ds) (sym g.gathered.wrong) (all_lines unit p texts [] p.found refl (reached_listed holds name g.main p g.gathered.reached))

-- ** What is listed

wrong_is : (holds : Option Files) (name : List ℕ) (unit texts : UnitTexts) (wrongs diags : List Diag) → IsGatheredFrom holds name unit wrongs → listed unit wrongs ≡ listed texts diags → Each (HasLine texts) diags
wrong_is holds name unit texts wrongs diags g e =
    let same : unit ≡ texts = cc in
    let all : wrongs ≡ diags = cc in
    subst (λ (u : UnitTexts). Each (HasLine u) diags) same (subst (λ (ds : List Diag). Each (HasLine unit) ds) all (wrong_imports_lined holds name unit wrongs g))

-- the law on the diagnostics of units
abbrev pub StandInTexts : Type 0
StandInTexts = (texts : UnitTexts) (diags : List Diag) → IsUnit texts → IsWhole texts → ComesTo texts (diagnostics diags) → Each (IsAtToken texts) diags

unit_is : (unit texts : UnitTexts) (diags : List Diag) (d : Decision) → StandInTexts → IsUnit unit → IsWhole unit → DecidesUnit unit d → d ≡ listed texts diags → Each (HasLine texts) diags
unit_is unit texts diags _ law is whole (passes_procedures limit at) e = absurd cc
unit_is unit texts diags _ law is whole (is_nested_too_deep text at c) e = absurd cc
unit_is unit texts diags _ law is whole (has_diagnostics noted c) e =
    let same : unit ≡ texts = cc in
    let all : noted ≡ diags = cc in
    subst (λ (u : UnitTexts). Each (HasLine u) diags) same (subst (λ (ds : List Diag). Each (HasLine unit) ds) all (law unit noted is whole c.comes))
unit_is unit texts diags _ law is whole (is_compiled contents c) e = absurd cc

listed_is : (holds : Option Files) (name : List ℕ) (texts : UnitTexts) (diags : List Diag) (d : Decision) → StandInTexts → Decides holds name d → d ≡ listed texts diags → Each (HasLine texts) diags
listed_is holds name texts diags _ law (has_no_text has) e = absurd cc
listed_is holds name texts diags _ law (passes_texts limit s) e = absurd cc
listed_is holds name texts diags _ law (has_wrong_imports unit wrongs g some) e = wrong_is holds name unit texts wrongs diags g e
listed_is holds name texts diags d law (of_unit {unit = unit} h decides) e =
    unit_is unit texts diags d law h.is (is_whole holds name h.gathered.main unit h.gathered.gathered h.is) decides e

pub all_lined : StandInTexts → (holds : Option Files) (name : List ℕ) (texts : UnitTexts) (diags : List Diag) → Decides holds name (listed texts diags) → Each (HasLine texts) diags
all_lined law holds name texts diags h = listed_is holds name texts diags (listed texts diags) law h refl
