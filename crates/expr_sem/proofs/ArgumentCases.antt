-- Arguments, by what they are.
use Rattle.std.proofs.Common.{◌≡◌, ◌∙◌, ℕ, ◌-◌, ◌∷◌, [], ◌&&◌, ◌||◌, not, Bool, true, false, List, Option, Some, None, Ok, ap, if◌then◌else◌, refl, sym}
use Rattle.std.specs.Prelude.{pos}
use Rattle.m2_base.specs.Gives.{Adds, Gives, gives}
use Rattle.m2_base.specs.Standard.{character}
use Rattle.m2_base.specs.States.{State}
use Rattle.m2_base.specs.Statics.Assignable.{is_open_kind}
use Rattle.m2_base.specs.Statics.Contexts.{Context, refuse}
use Rattle.m2_base.specs.Statics.Diagnostics.{not_a_variable, wrong_argument}
use Rattle.m2_base.specs.Statics.NamedOperands.{is_in_error}
use Rattle.m2_base.specs.Statics.Operands.{is_bad}
use Rattle.m2_base.specs.Statics.TypeParts.{Parameter}
use Rattle.m2_base.specs.Statics.Types.{is_broken, is_same, kind_of}
use Rattle.m2_base.specs.declared.notes.Notes.{Notes}
use Rattle.m2_base.specs.declared.operands.Operand.{Operand}
use Rattle.m2_base.specs.declared.operands.Operand.TheVariants.{InError, StringConstant, Variable}
use Rattle.m2_base.specs.declared.replies.Ask.TheVariants.{Known}
use Rattle.m2_base.specs.declared.rows.Place.{Place}
use Rattle.m2_base.specs.declared.rows.RowMeaning.{RowMeaning}
use Rattle.m2_base.specs.declared.rows.RowMeaning.TheVariants.{Array, OpenArray}
use Rattle.m2_base.specs.declared.sites.Site.{Site}
use Rattle.code_form.specs.declared.instr.Instr.TheVariants.{Push}
use Rattle.expr_sem.specs.ArgumentCodes.{IsArgument, argument_in}
use Rattle.block_code.specs.Arguments.{address_by, alike, array_argument, by_address, by_mode, by_value, checked_mode, is_variable, open_argument, open_element, string_argument, value_argument_by}
use Rattle.block_code.specs.Coded.{Coded, characters}
use Rattle.expr_sem.specs.Codings.{Coding, IsFragment}
use Rattle.block_code.specs.Fitting.{fitted_code}
use Rattle.expr_sem.specs.Fragments.{part}
use Rattle.block_code.specs.Parts.{Part, plain, text, ◌⨟◌}
use Rattle.block_code.specs.StandardFunctions.{high_code}
use Rattle.expr_sem.specs.declared.fragments.Fragment.{Fragment}
use Rattle.expr_sem.specs.declared.fragments.Node.{Node}
use Rattle.expr_sem.proofs.Operating.{value_alone}

some_added : {x y : Notes} {q v : Part} → Adds x y (gives q) v → Adds x y (gives (Some q)) (Some v)
some_added h = record { value_is = ap (λ (p : Part). Some p) h.value_is; diags = h.diags; answers = h.answers }

-- a fragment that is an argument
pub passed : {a b : State} {x y : Notes} {ns ms : List Node} {s : Site} {g : Context → Part} {f : Fragment} → Coding a b x y ns ms s (Ok (Known f)) IsFragment part (λ c. gives (g c))
    → Coding a b x y ns ms s (Ok (Known (Some f))) IsArgument argument_in (λ c. gives (Some (g c)))
passed p = record { works = p.works; waits = tt; grows = p.grows; told = λ made in_hand told of_site. some_added (p.told made in_hand told of_site); there = p.there }

-- no argument, of what is in error
pub none_passed : (a : State) (n : Notes) (ns : List Node) (s : Site) → Coding a a n n ns ns s (Ok (Known None)) IsArgument argument_in (λ c. gives None)
none_passed a n ns s = value_alone a n ns s None IsArgument argument_in (λ c. None) tt (λ c. refl)

pub other_argument : (c : Context) (t : Place) (x : Coded) (o : Operand) → (o ≡ InError → ⊥) → ((n l : ℕ) → o ≡ StringConstant n l → ⊥) → Some (fitted_code c t x) ≡ value_argument_by c t x o
other_argument c t x InError a b = absurd (a refl)
other_argument c t x (StringConstant n l) a b = absurd (b n l refl)
other_argument c t x o a b = refl

pub other_address : (c : Context) (t : Place) (at : ℕ) (code : Part) (o : Operand) → ((u : Place) → o ≡ Variable u → ⊥) → gives None ≡ address_by c t at code o
other_address c t at code (Variable u) a = absurd (a u refl)
other_address c t at code o a = refl

pub address_refused : (c : Context) (t : Place) (at : ℕ) (code : Part) (u : Place) → is_same c.scene t u ≡ false → refuse c at wrong_argument None ≡ address_by c t at code (Variable u)
address_refused c t at code u h = ap (λ b. if b then gives (Some code) else refuse c at wrong_argument None) (sym h)

-- which of two a test chooses
pub chosen : {A : Type 0} (b : Bool) (x y : A) → b ≡ true → x ≡ (if b then x else y)
chosen true x y e = refl
chosen false x y e = cc

pub other : {A : Type 0} (b : Bool) (x y : A) → b ≡ false → y ≡ (if b then x else y)
other true x y e = cc
other false x y e = refl

first_holds : (a b : Bool) → a ≡ true → (a || b) ≡ true
first_holds true b e = refl
first_holds false b e = cc

last_holds : (a b : Bool) → b ≡ true → (a || b) ≡ true
last_holds true b e = refl
last_holds false b e = e

neither_holds : (a b : Bool) → a ≡ false → b ≡ false → (a || b) ≡ false
neither_holds true b e f = cc
neither_holds false b e f = f

-- what is neither a string nor a variable
pub other_open : (c : Context) (want : Place) (at : ℕ) (x : Coded) (o : Operand) → ((n l : ℕ) → o ≡ StringConstant n l → ⊥) → ((t : Place) → o ≡ Variable t → ⊥) → refuse c at wrong_argument None ≡ open_argument c want at x o
other_open c want at x (StringConstant n l) a b = absurd (a n l refl)
other_open c want at x (Variable t) a b = absurd (b t refl)
other_open c want at x o a b = refl

-- a string, by whether the elements are of type CHAR
pub string_taken : (c : Context) (want : Place) (at n len : ℕ) → is_same c.scene want character ≡ true
    → gives (Some (text (characters c.source n) ⨟ plain (Push (pos (len - 1)) ∷ []))) ≡ string_argument c want at n len
string_taken c want at n len e = chosen (is_same c.scene want character) _ _ e

pub string_refused : (c : Context) (want : Place) (at n len : ℕ) → is_same c.scene want character ≡ false → refuse c at wrong_argument None ≡ string_argument c want at n len
string_refused c want at n len e = other (is_same c.scene want character) _ _ e

-- what is no array
pub other_array : (c : Context) (want : Place) (at : ℕ) (x : Coded) (m : RowMeaning) → ((i t : Place) (s : ℕ) → m ≡ Array i t s → ⊥) → ((t : Place) → m ≡ OpenArray t → ⊥) → refuse c at wrong_argument None ≡ array_argument c want at x m
other_array c want at x (Array i t s) a b = absurd (a i t s refl)
other_array c want at x (OpenArray t) a b = absurd (b t refl)
other_array c want at x m a b = refl

-- an array with this element type, by whether that is in error or is the wanted one
module _ (c : Context) (want : Place) (at : ℕ) (x : Coded) (m : RowMeaning) (t : Place) where
  abbrev whole : Gives (Option Part)
  whole = if is_same c.scene t want then gives (Some (x.code ⨟ high_code c.scene x m)) else refuse c at wrong_argument None

  pub alike_broken : is_broken c.scene t ≡ true → gives None ≡ alike c want at x m t
  alike_broken e = chosen (is_broken c.scene t) (gives None) whole e

  pub alike_same : is_broken c.scene t ≡ false → is_same c.scene t want ≡ true → gives (Some (x.code ⨟ high_code c.scene x m)) ≡ alike c want at x m t
  alike_same e f = chosen (is_same c.scene t want) _ _ f ∙ other (is_broken c.scene t) (gives None) whole e

  pub alike_other : is_broken c.scene t ≡ false → is_same c.scene t want ≡ false → refuse c at wrong_argument None ≡ alike c want at x m t
  alike_other e f = other (is_same c.scene t want) _ _ f ∙ other (is_broken c.scene t) (gives None) whole e

-- an argument by its parameter
module _ (c : Context) (p : Parameter) (at : ℕ) (x : Coded) where
  abbrev rest : Gives (Option Part)
  rest = if p.by_ref && not (is_variable x.operand) then refuse c at not_a_variable None else by_mode c p at x

  pub mode_bad : is_bad x.operand ≡ true → gives None ≡ checked_mode c p at x
  mode_bad e = chosen (is_bad x.operand || is_in_error c.scene p.typ) (gives None) rest (first_holds (is_bad x.operand) (is_in_error c.scene p.typ) e)

  pub mode_broken : is_in_error c.scene p.typ ≡ true → gives None ≡ checked_mode c p at x
  mode_broken e = chosen (is_bad x.operand || is_in_error c.scene p.typ) (gives None) rest (last_holds (is_bad x.operand) (is_in_error c.scene p.typ) e)

  pub mode_rest : is_bad x.operand ≡ false → is_in_error c.scene p.typ ≡ false → rest ≡ checked_mode c p at x
  mode_rest e f = other (is_bad x.operand || is_in_error c.scene p.typ) (gives None) rest (neither_holds (is_bad x.operand) (is_in_error c.scene p.typ) e f)

  pub mode_refused : is_bad x.operand ≡ false → is_in_error c.scene p.typ ≡ false → (p.by_ref && not (is_variable x.operand)) ≡ true → refuse c at not_a_variable None ≡ checked_mode c p at x
  mode_refused e f g = chosen (p.by_ref && not (is_variable x.operand)) (refuse c at not_a_variable None) (by_mode c p at x) g ∙ mode_rest e f

  pub mode_taken : is_bad x.operand ≡ false → is_in_error c.scene p.typ ≡ false → (p.by_ref && not (is_variable x.operand)) ≡ false → by_mode c p at x ≡ checked_mode c p at x
  mode_taken e f g = other (p.by_ref && not (is_variable x.operand)) (refuse c at not_a_variable None) (by_mode c p at x) g ∙ mode_rest e f

  abbrev mode : RowMeaning → Gives (Option Part)
  mode m = if is_open_kind m then open_argument c (open_element m) at x x.operand else if p.by_ref then by_address c p.typ at x else by_value c p.typ at x

  pub mode_open : (t : Place) → OpenArray t ≡ kind_of c.scene p.typ → open_argument c t at x x.operand ≡ by_mode c p at x
  mode_open t e = ap (λ (m : RowMeaning). mode m) e

  closed : (m : RowMeaning) → ((t : Place) → m ≡ OpenArray t → ⊥) → mode m ≡ (if p.by_ref then by_address c p.typ at x else by_value c p.typ at x)
  closed (OpenArray t) a = absurd (a t refl)
  closed m a = refl

  pub mode_address : (m : RowMeaning) → ((t : Place) → m ≡ OpenArray t → ⊥) → m ≡ kind_of c.scene p.typ → p.by_ref ≡ true → by_address c p.typ at x ≡ by_mode c p at x
  mode_address m a e f = chosen p.by_ref _ _ f ∙ (sym (closed m a) ∙ ap (λ (n : RowMeaning). mode n) e)

  pub mode_value : (m : RowMeaning) → ((t : Place) → m ≡ OpenArray t → ⊥) → m ≡ kind_of c.scene p.typ → p.by_ref ≡ false → by_value c p.typ at x ≡ by_mode c p at x
  mode_value m a e f = other p.by_ref _ _ f ∙ (sym (closed m a) ∙ ap (λ (n : RowMeaning). mode n) e)
