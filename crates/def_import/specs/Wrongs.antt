-- What is wrong with the imports of a unit, in the order of the texts and their tokens.
use Rattle.std.specs.Prelude.{ℕ, ◌+◌, Bool, true, false, ◌&&◌, not, List, [], ◌∷◌, ◌++◌, Option, Some, None}
use Rattle.std.specs.Prelude.{is_none, nat_eq, nat_lt}
use Rattle.m2_base.specs.Diagnostics.{code_of}
use Rattle.m2_base.specs.declared.diagnostic.Diagnostic.TheVariants.{CircularImports, NoDefinitionText}
use Rattle.m2_base.specs.declared.diagnostic.Diagnostic.TheVariants.{OtherModuleName}
use Rattle.m2_base.specs.declared.diagnostic.Diagnostic.{Diagnostic}
use Rattle.m2_base.specs.declared.notes.Diag.{Diag}
use Rattle.m2_base.specs.declared.trees.Ident.{Ident}
use Rattle.def_import.specs.Closure.{Found, Progress, own_name, text_of_module}
use Rattle.def_import.specs.Dependencies.{dependency_order, is_in}

-- the diagnostic at this name, where it is wrong
abbrev pub wrong_at : (text : ℕ) → Ident → Diagnostic → Bool → List Diag
wrong_at text i diagnostic false = []
wrong_at text i diagnostic true = record { text = text; at = i.at; code = code_of diagnostic } ∷ []

-- the module has no definition text
abbrev pub is_missing : Progress → Ident → Bool
is_missing p i = is_none (text_of_module p i.name)

-- the own definition of an implementation isn't there
abbrev pub no_own : Progress → (text : ℕ) → Option Ident → List Diag
no_own p text None = []
no_own p text (Some i) = wrong_at text i NoDefinitionText (is_missing p i)

-- it is a definition text, and was never taken
abbrev pub is_circular : (order : List ℕ) → (text : ℕ) → Bool
is_circular order text = nat_lt 0 text && not (is_in order text)

-- the module has another name than its text; its imports go in a circle
abbrev pub wrong_name : (order : List ℕ) → (text : ℕ) → Found → Option Ident → List Diag
wrong_name order text f None = []
wrong_name order text f (Some i) =
    wrong_at text i OtherModuleName (not (nat_eq i.name f.text.name))
    ++ wrong_at text i CircularImports (is_circular order text)

-- the imports of modules that aren't there
abbrev pub missing_imports : Progress → (text : ℕ) → List Ident → List Diag
missing_imports p text [] = []
missing_imports p text (i ∷ imports) =
    wrong_at text i NoDefinitionText (is_missing p i) ++ missing_imports p text imports

abbrev pub wrongs_in : Progress → (order : List ℕ) → (text : ℕ) → Found → List Diag
wrongs_in p order text f =
    no_own p text (own_name f.front) ++ wrong_name order text f f.front.name
    ++ missing_imports p text f.front.imports

-- those of these texts, whose numbers go from `text` on
abbrev pub wrongs_from : Progress → (order : List ℕ) → (text : ℕ) → List Found → List Diag
wrongs_from p order text [] = []
wrongs_from p order text (f ∷ found) = wrongs_in p order text f ++ wrongs_from p order (text + 1) found

abbrev pub wrongs_of : Progress → List Diag
wrongs_of p = wrongs_from p (dependency_order p) 0 p.found
