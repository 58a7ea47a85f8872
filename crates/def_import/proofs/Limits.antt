-- Which limit a fault says, and by which text it is passed.
use Rattle.std.proofs.Common.{◌≡◌, ℕ, ◌+◌, ◌<◌, ◌≤◌, Bool, List, [], ◌∷◌, ◌++◌, length, refl, ap, subst, arith, Err, Ok, Result}
use Rattle.std.specs.Prelude.{IsErrOf, IfErr}
use Rattle.m2_io.specs.Causes.{Rose}
use Rattle.m2_lex.specs.Faults.{HasTooMany}
use Rattle.m2_lex.specs.declared.lexer.LexFault.TheVariants as lex
use Rattle.m2_lex.specs.declared.lexer.LexFault.{LexFault}
use Rattle.def_import.specs.Closure.{Found, modules_named, tokens_in}
use Rattle.def_import.specs.Outcomes.{IsRead, Limit, Passes, long, of_texts, of_tokens, of_unit, too_long, too_many_tokens, too_many_texts, too_many_unit_tokens}
use Rattle.def_import.specs.Views.{IsAskFault, IsNamingFault, IsShelfFault, IsTextFault, fault_of, fault_of_lex}
use Rattle.def_import.specs.declared.faults.GatherFault.TheVariants.{Memory, NoText, ReadFault, TooLong, TooManyTexts, TooManyUnitTokens}
use Rattle.def_import.specs.declared.faults.GatherFault.{GatherFault}

-- a fault is the same, whatever the call would have given
pub same_fault : {T U : Type 0} (x y : GatherFault) → IsErrOf {T = T} (Err x) y → IsErrOf {T = U} (Err x) y
same_fault x y e = let k : x ≡ y = cc in ap Err k

-- where a call gives something, it tells no fault
pub no_fault : {T : Type 0} {x : T} {f : GatherFault} → IsErrOf (Ok x) f → ⊥
no_fault e = cc

-- want of memory is no fault of the shelf
pub not_read_fault : {T : Type 0} → IsErrOf {T = T} (Err Memory) ReadFault → ⊥
not_read_fault e = cc

-- a fault of the shelf says no limit
pub no_limit : {T : Type 0} (f : GatherFault) (limit : Limit) → IsShelfFault f → IsErrOf {T = T} (Err f) (fault_of limit) → ⊥
no_limit ReadFault too_long own e = cc
no_limit ReadFault too_many_tokens own e = cc
no_limit ReadFault too_many_unit_tokens own e = cc
no_limit ReadFault too_many_texts own e = cc
no_limit Memory too_long own e = cc
no_limit Memory too_many_tokens own e = cc
no_limit Memory too_many_unit_tokens own e = cc
no_limit Memory too_many_texts own e = cc
no_limit other limit own e = own

-- asking for a module may have these faults
pub shelf_asks : (f : GatherFault) → IsShelfFault f → IsAskFault f
shelf_asks NoText own = own
shelf_asks other own = tt

pub text_asks : {T : Type 0} (r : Result T GatherFault) → IfErr r IsTextFault → IfErr r IsAskFault
text_asks (Ok x) own = tt
text_asks (Err NoText) own = own
text_asks (Err other) own = tt

pub text_asks_at : (f : GatherFault) → IsTextFault f → IsAskFault f
text_asks_at NoText own = own
text_asks_at other own = tt

-- that there is no text is no limit, no fault of the shelf, and none of asking
pub no_text_limit : {T : Type 0} (limit : Limit) → IsErrOf {T = T} (Err NoText) (fault_of limit) → ⊥
no_text_limit too_long e = cc
no_text_limit too_many_tokens e = cc
no_text_limit too_many_unit_tokens e = cc
no_text_limit too_many_texts e = cc

pub no_text_read : {T : Type 0} → IsErrOf {T = T} (Err NoText) ReadFault → ⊥
no_text_read e = cc

pub shelf_has_text : {T : Type 0} (f : GatherFault) → IsShelfFault f → IsErrOf {T = T} (Err f) NoText → ⊥
shelf_has_text NoText own e = own
shelf_has_text f own e = let k : f ≡ NoText = cc in subst IsShelfFault k own

pub asks_has_text : {T : Type 0} (r : Result T GatherFault) → IfErr r IsAskFault → IsErrOf r NoText → ⊥
asks_has_text (Ok x) own e = cc
asks_has_text (Err NoText) own e = own
asks_has_text (Err f) own e = let k : f ≡ NoText = cc in subst IsAskFault k own

-- a count that rose later rose
pub rose_later : (a b c : ℕ) → a ≤ b → Rose b c → Rose a c
rose_later a b c h r = omega (arith, h, r)

-- reading a text has no fault of the shelf
pub text_not_read : {T : Type 0} (r : Result T GatherFault) → IfErr r IsTextFault → IsErrOf r ReadFault → ⊥
text_not_read (Ok x) own e = cc
text_not_read (Err ReadFault) own e = own
text_not_read (Err f) own e = let k : f ≡ ReadFault = cc in subst IsTextFault k own

module _ (old : List (List ℕ)) (found : List Found) (definition : Bool) (name : ℕ) (bytes : List ℕ) where
  abbrev Stopped : Limit → Type 0
  Stopped limit = Passes old found definition name bytes limit

  pub when_long : {T : Type 0} (limit : Limit) → 1048576 < length bytes → IsErrOf {T = T} (Err TooLong) (fault_of limit) → Stopped limit
  when_long too_long h e = long h
  when_long too_many_tokens h e = cc
  when_long too_many_unit_tokens h e = cc
  when_long too_many_texts h e = cc

  pub when_lexing : {T U : Type 0} (fault : LexFault) (limit : Limit) → length bytes ≤ 1048576 → (IsErrOf {T = U} (Err fault) lex.TooManyTokens → HasTooMany bytes) → IsErrOf {T = T} (Err (fault_of_lex fault)) (fault_of limit) → Stopped limit
  when_lexing lex.TooManyTokens too_many_tokens short h e = of_tokens short (h refl)
  when_lexing lex.TooManyTokens too_long short h e = cc
  when_lexing lex.TooManyTokens too_many_unit_tokens short h e = cc
  when_lexing lex.TooManyTokens too_many_texts short h e = cc
  when_lexing lex.Memory too_long short h e = cc
  when_lexing lex.Memory too_many_tokens short h e = cc
  when_lexing lex.Memory too_many_unit_tokens short h e = cc
  when_lexing lex.Memory too_many_texts short h e = cc

  pub when_unit : {T : Type 0} {new : List (List ℕ)} {f : Found} (limit : Limit) → IsRead old definition name bytes new f → 4194304 < tokens_in found + length f.text.tokens
      → IsErrOf {T = T} (Err TooManyUnitTokens) (fault_of limit) → Stopped limit
  when_unit too_many_unit_tokens read h e = of_unit read h
  when_unit too_long read h e = cc
  when_unit too_many_tokens read h e = cc
  when_unit too_many_texts read h e = cc

  pub when_naming : {T U : Type 0} {new : List (List ℕ)} {f : Found} (fault : GatherFault) (limit : Limit) → IsRead old definition name bytes new f → tokens_in found + length f.text.tokens ≤ 4194304
      → (IsErrOf {T = U} (Err fault) TooManyTexts → 257 ≤ length (modules_named (found ++ f ∷ []))) → IfErr {T = U} (Err fault) IsNamingFault → IsErrOf {T = T} (Err fault) (fault_of limit) → Stopped limit
  when_naming TooManyTexts too_many_texts read few h own e = of_texts read few (h refl)
  when_naming TooManyTexts too_long read few h own e = cc
  when_naming TooManyTexts too_many_tokens read few h own e = cc
  when_naming TooManyTexts too_many_unit_tokens read few h own e = cc
  when_naming Memory too_long read few h own e = cc
  when_naming Memory too_many_tokens read few h own e = cc
  when_naming Memory too_many_unit_tokens read few h own e = cc
  when_naming Memory too_many_texts read few h own e = cc
  when_naming other limit read few h own e = absurd own
