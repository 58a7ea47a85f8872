-- What is asked of what an object says, field by field, so that its bytes have it in them. (Apart from its code.)
use Rattle.std.specs.Prelude.{◌≡◌, ◌⊎◌, ℕ, ◌<◌, ◌≤◌, ◌^◌, true, List, [], ◌∷◌, ◌++◌, length}
use Rattle.code_form.specs.Heights.{Callee}
use Rattle.code_form.specs.Modules.{Procedure}
use Rattle.object_file.specs.Contents.{Export, KeyedImport, Contents}
use Rattle.object_file.specs.ObjectFormat.{key_length, is_identifier, is_new_name, is_export, is_count, is_outer}
use Rattle.object_file.specs.ObjectFormat.{is_params, is_result, is_locals}
use Rattle.m2_base.specs.declared.limits.TheConstants.{MOST_CELLS}

-- a number has four bytes
abbrev pub IsNumber : ℕ → Type 0
IsNumber n = n < 2 ^ 32

-- each of these has what is asked of it behind those before it
abbrev pub AllBehind : {A : Type 0} → (List A → A → Type 0) → List A → List A → Type 0
AllBehind Asked before [] = Unit {0}
AllBehind Asked before (x ∷ xs) = Asked before x × AllBehind Asked (before ++ x ∷ []) xs

pub record HasExport (before : List Export) (e : Export) : Type 0 where
  pub some : is_export e.0 ≡ true
  pub number : IsNumber e.0
  pub params : IsNumber e.1
  pub result : IsNumber e.2

pub record HasHeading (before : List Callee) (h : Callee) : Type 0 where
  pub params : IsNumber h.params
  pub result : IsNumber h.result

pub record HasImport (version : ℕ) (before : List KeyedImport) (i : KeyedImport) : Type 0 where
  pub name : is_new_name before i.definition.name ≡ true
  pub name_short : IsNumber (length i.definition.name)
  pub key : length i.key ≡ key_length version
  pub cells : IsNumber i.definition.cells
  pub headings_few : IsNumber (length i.definition.headings)
  pub headings : AllBehind HasHeading [] i.definition.headings

pub record HasProcedure (exports : List Export) (before : List Procedure) (p : Procedure) : Type 0 where
  pub outer : is_outer exports (length before) p.outer ≡ true
  pub outer_fits : IsNumber p.outer
  pub params : is_params exports (length before) p.params ≡ true
  pub params_fit : IsNumber p.params
  pub result : is_result exports (length before) p.result ≡ true
  pub result_fits : IsNumber p.result
  pub locals : is_locals p.params p.locals ≡ true
  pub locals_fit : IsNumber p.locals
  pub high : IsNumber p.high
  pub bytes_short : IsNumber (length p.bytes)
  pub code_short : IsNumber (length p.code)

pub record HasFields (o : Contents) : Type 0 where
  pub version : (o.version ≡ 1) ⊎ (o.version ≡ 2)
  pub name : is_identifier o.name ≡ true
  pub name_short : IsNumber (length o.name)
  pub key : length o.key ≡ key_length o.version
  pub cells : o.cells ≤ MOST_CELLS
  pub own_cells : o.own_cells ≤ o.cells
  pub exports_few : IsNumber (length o.exports)
  pub exports : AllBehind HasExport [] o.exports
  pub imports_few : IsNumber (length o.imports)
  pub imports : AllBehind (HasImport o.version) [] o.imports
  pub procedures_few : IsNumber (length o.procedures)
  pub count : is_count o.exports (length o.procedures) ≡ true
  pub procedures : AllBehind (HasProcedure o.exports) [] o.procedures
