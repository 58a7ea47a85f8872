-- Calls, by what is called.
use Rattle.std.proofs.Common.{◌≡◌, ◌∙◌, ℕ, ◌+◌, ◌<◌, ◌==◌, ◌++◌, not, Bool, true, false, List, [], ◌∷◌, Option, Some, None, ap, arith, drop, if◌then◌else◌, is_some, length, map, refl, Result, Ok, Err, sym}
use Rattle.std.specs.Prelude.{get_or}
use Rattle.std.proofs.lemmas.List.{append-nil, drop_more}
use Rattle.m2_base.specs.Asks.{IfKnown}
use Rattle.m2_base.specs.Gives.{gives}
use Rattle.m2_base.specs.States.{Frame}
use Rattle.m2_base.specs.Statics.Assignable.{is_open_array, is_procedure_kind}
use Rattle.m2_base.specs.Statics.Contexts.{Context, Scene, refuse}
use Rattle.m2_base.specs.Statics.Diagnostics.{not_a_procedure, wrong_count}
use Rattle.m2_base.specs.Statics.TypeParts as parts
use Rattle.m2_base.specs.Statics.TypeParts.{parameters, parameters_by, result_by, result_of_type}
use Rattle.m2_base.specs.Statics.Types.{kind_of, stands_for}
use Rattle.m2_base.specs.declared.builtins.Builtin.{Builtin}
use Rattle.m2_base.specs.declared.memory.Memory.{Memory}
use Rattle.m2_base.specs.declared.operands.Operand.{Operand}
use Rattle.m2_base.specs.declared.operands.Operand.TheVariants.{InError, ModuleName, Procedure, StandardProcedure, Variable}
use Rattle.m2_base.specs.declared.replies.Ask.{Ask}
use Rattle.m2_base.specs.declared.replies.Ask.TheVariants.{Known, DontKnowYet}
use Rattle.m2_base.specs.declared.rows.Place.{Place}
use Rattle.m2_base.specs.declared.rows.RowMeaning.{RowMeaning}
use Rattle.m2_base.specs.declared.rows.RowMeaning.TheVariants.{ProcType}
use Rattle.m2_base.specs.declared.sites.Around.{Around}
use Rattle.type_rules.specs.Forms.{form_by, parameters_by as formals_by, parameters_from}
use Rattle.type_rules.specs.Scenes.{WhereTold, scene_of}
use Rattle.type_rules.specs.declared.forms.Form.{Form}
use Rattle.type_rules.specs.declared.forms.Formal.{Formal}
use Rattle.type_rules.proofs.Compatibles.{told_later}
use Rattle.expr_sem.specs.ArgumentCodes.{parameter_view}
use Rattle.expr_sem.specs.Callees.{allowed_by, target_called, variable_allowed}
use Rattle.block_code.specs.Calls.{Called, allowed, allowed_by_type, called_by, cells_of_all, is_same_truth, no_call, of_target, of_variable, standard_call}
use Rattle.block_code.specs.Parts.{Part}
use Rattle.block_code.specs.ProcedureNames.{Target}
use Rattle.expr_sem.specs.Signatures.{IsSignatureBy, IsSignatureOf}
use Rattle.block_code.specs.StandardProcedures.{is_function, takes_count}
use Rattle.expr_sem.specs.declared.arguments.Parameter.{Parameter}
use Rattle.expr_sem.specs.declared.signatures.Signature.{Signature}

-- ** What is allowed

module _ (c : Context) (at : ℕ) (w v n : Bool) (what : Called) where
  pub kind_refused : is_same_truth w v ≡ false → refuse c at not_a_procedure no_call ≡ allowed c at w v n what
  kind_refused e = ap (λ (b : Bool). if not b then refuse c at not_a_procedure no_call else if not n then refuse c at wrong_count no_call else gives what) (sym e)

  pub count_refused : is_same_truth w v ≡ true → n ≡ false → refuse c at wrong_count no_call ≡ allowed c at w v n what
  count_refused e f =
      ap (λ (m : Bool). if not m then refuse c at wrong_count no_call else gives what) (sym f)
      ∙ ap (λ (b : Bool). if not b then refuse c at not_a_procedure no_call else if not n then refuse c at wrong_count no_call else gives what) (sym e)

  pub all_allowed : is_same_truth w v ≡ true → n ≡ true → gives what ≡ allowed c at w v n what
  all_allowed e f =
      ap (λ (m : Bool). if not m then refuse c at wrong_count no_call else gives what) (sym f)
      ∙ ap (λ (b : Bool). if not b then refuse c at not_a_procedure no_call else if not n then refuse c at wrong_count no_call else gives what) (sym e)

pub standard_allowed : (c : Context) (at : ℕ) (w : Bool) (n : ℕ) (f b : Builtin) (v m : Bool) → v ≡ is_function f → m ≡ takes_count f n → f ≡ b
    → allowed c at w v m (standard_call f) ≡ allowed c at w (is_function b) (takes_count b n) (standard_call b)
standard_allowed c at w n f b v m e g h =
    ap (λ (u : Bool). allowed c at w u m (standard_call f)) e ∙ ap (λ (u : Bool). allowed c at w (is_function f) u (standard_call f)) g
    ∙ ap (λ (k : Builtin). allowed c at w (is_function k) (takes_count k n) (standard_call k)) h

-- by the parameters and the result
pub parts_allowed : (c : Context) (at : ℕ) (w : Bool) (n : ℕ) (ps : List parts.Parameter) (r : Option Place) (v m : Bool) (what other : Called) → v ≡ is_some r → m ≡ (n == length ps) → what ≡ other
    → allowed c at w v m what ≡ allowed_by c at w n ps r other
parts_allowed c at w n ps r v m what other e f h =
    ap (λ (u : Bool). allowed c at w u m what) e ∙ ap (λ (u : Bool). allowed c at w (is_some r) u what) f ∙ ap (λ (u : Called). allowed c at w (is_some r) (n == length ps) u) h

of_target_is : (scene : Scene) (t : Place) (target : Option Target) → target_called scene (parameters scene t) (result_of_type scene t) target ≡ of_target scene t target
of_target_is scene t None = refl
of_target_is scene t (Some p) = refl

-- and these are a type's
pub type_allowed : (c : Context) (at : ℕ) (w : Bool) (n : ℕ) (ps : List parts.Parameter) (r : Option Place) (t : Place) (target : Option Target) → ps ≡ parameters c.scene t → r ≡ result_of_type c.scene t
    → allowed_by c at w n ps r (target_called c.scene ps r target) ≡ allowed_by_type c at w n t (of_target c.scene t target)
type_allowed c at w n ps r t target e f =
    ap (λ (l : List parts.Parameter). allowed_by c at w n l r (target_called c.scene l r target)) e
    ∙ ap (λ (q : Option Place). allowed_by c at w n (parameters c.scene t) q (target_called c.scene (parameters c.scene t) q target)) f
    ∙ ap (λ (what : Called). allowed_by_type c at w n t what) (of_target_is c.scene t target)

-- ** Procedure types, by their form

pub form_parameters : (scene : Scene) (p : Place) (m : RowMeaning) (form : Form) → Some form ≡ form_by p m → parameters_from scene form.of form.first ≡ parameters_by scene p m
form_parameters scene p (ProcType r n first) form e = let h : form ≡ record { of = p; first = first; result = r } = cc in ap (λ (g : Form). parameters_from scene g.of g.first) h
form_parameters scene p m form e = absurd (cc)

pub form_result : (p : Place) (m : RowMeaning) (form : Form) → Some form ≡ form_by p m → form.result ≡ result_by m
form_result p (ProcType r n first) form e = let h : form ≡ record { of = p; first = first; result = r } = cc in ap (λ (g : Form). g.result) h
form_result p m form e = absurd (cc)

pub no_parameters : (scene : Scene) (p : Place) (m : RowMeaning) → None ≡ form_by p m → [] ≡ parameters_by scene p m
no_parameters scene p (ProcType r n first) e = absurd (cc)
no_parameters scene p m e = refl

pub no_result : (p : Place) (m : RowMeaning) → None ≡ form_by p m → None ≡ result_by m
no_result p (ProcType r n first) e = absurd (cc)
no_result p m e = refl

is_kind : (p : Place) (m : RowMeaning) (form : Form) → Some form ≡ form_by p m → is_procedure_kind m ≡ true
is_kind p (ProcType r n first) form e = refl
is_kind p m form e = absurd (cc)

not_kind : (p : Place) (m : RowMeaning) → None ≡ form_by p m → is_procedure_kind m ≡ false
not_kind p (ProcType r n first) e = absurd (cc)
not_kind p m e = refl

-- a variable of no procedure type
pub no_procedure : (c : Context) (w : Bool) (at n : ℕ) (code : Part) (t : Place) → None ≡ form_by (stands_for c.scene t) (kind_of c.scene t) → refuse c at not_a_procedure no_call ≡ called_by c w at n code (Variable t)
no_procedure c w at n code t e =
    ap (λ (b : Bool). if b then allowed_by_type c at w n t (of_variable c.scene t code) else refuse c at not_a_procedure no_call) (sym (not_kind (stands_for c.scene t) (kind_of c.scene t) e))

-- and one of a procedure type, by its form
pub form_allowed : (c : Context) (w : Bool) (at n : ℕ) (code : Part) (t : Place) (form : Form) → Some form ≡ form_by (stands_for c.scene t) (kind_of c.scene t)
    → variable_allowed c at w n code (parameters_from c.scene form.of form.first) form.result ≡ called_by c w at n code (Variable t)
form_allowed c w at n code t form e =
    let p = stands_for c.scene t in
    let m = kind_of c.scene t in
    ap (λ (l : List parts.Parameter). variable_allowed c at w n code l form.result) (form_parameters c.scene p m form e)
    ∙ ap (λ (r : Option Place). variable_allowed c at w n code (parameters c.scene t) r) (form_result p m form e)
    ∙ ap (λ (b : Bool). if b then allowed_by_type c at w n t (of_variable c.scene t code) else refuse c at not_a_procedure no_call) (sym (is_kind p m form e))

-- what is neither a procedure nor a variable, and not in error
pub other_called : (c : Context) (w : Bool) (at n : ℕ) (code : Part) (o : Operand) → ((k : ℕ) → o ≡ StandardProcedure k → ⊥) → ((name : ℕ) (t : Place) (k s : ℕ) → o ≡ Procedure name t k s → ⊥) → ((t : Place) → o ≡ Variable t → ⊥)
    → ((s : ℕ) → o ≡ ModuleName s → ⊥) → (o ≡ InError → ⊥) → refuse c at not_a_procedure no_call ≡ called_by c w at n code o
other_called c w at n code (StandardProcedure k) a b d e f = absurd (a k refl)
other_called c w at n code (Procedure name t k s) a b d e f = absurd (b name t k s refl)
other_called c w at n code (Variable t) a b d e f = absurd (d t refl)
other_called c w at n code (ModuleName s) a b d e f = absurd (e s refl)
other_called c w at n code InError a b d e f = absurd (f refl)
other_called c w at n code o a b d e f = refl

-- ** The parameters, one by one

pub last_parameter : (xs rest all : List parts.Parameter) → rest ≡ [] → xs ++ rest ≡ all → xs ≡ all
last_parameter xs rest all e f = sym (append-nil xs) ∙ ap (λ (l : List parts.Parameter). xs ++ l) (sym e) ∙ f

pub pushed_view : (xs : List Parameter) (p : Parameter) (rest : List parts.Parameter) → map parameter_view (xs ++ p ∷ []) ++ rest ≡ map parameter_view xs ++ parameter_view p ∷ rest
pushed_view [] p rest = refl
pushed_view (x ∷ xs) p rest = ap (λ (l : List parts.Parameter). parameter_view x ∷ l) (pushed_view xs p rest)

-- ** Cells

pub cells_step : (scene : Scene) (ps : List Parameter) (k : ℕ) (d : Parameter) (own before now : ℕ) → k < length ps → (if is_open_array scene (get_or ps k d).of then 2 else 1) ≡ own → now ≡ before + own
    → now + cells_of_all scene (map parameter_view (drop (k + 1) ps)) ≡ before + cells_of_all scene (map parameter_view (drop k ps))
cells_step scene ps k d own before now h e f =
    let all : cells_of_all scene (map parameter_view (drop k ps)) ≡ own + cells_of_all scene (map parameter_view (drop (k + 1) ps))
    = ap (λ (l : List Parameter). cells_of_all scene (map parameter_view l)) (drop_more ps k d h) ∙ ap (λ (n : ℕ). n + cells_of_all scene (map parameter_view (drop (k + 1) ps))) e in
    omega (arith, all, f)

-- ** What was told of a later question, over the frame before it

pub next_before : (f mid : Frame) (a : Around) (of : Place) (start : ℕ) (v : Option Formal) → mid ≡ f → WhereTold mid (λ made. parameters_from (scene_of mid made a) of start ≡ formals_by (scene_of mid made a) of v)
    → WhereTold f (λ made. parameters_from (scene_of f made a) of start ≡ formals_by (scene_of f made a) of v)
next_before f mid a of start v same says = told_later f mid (λ h made. parameters_from (scene_of h made a) of start ≡ formals_by (scene_of h made a) of v) same says

pub open_before : (f mid : Frame) (a : Around) (t : Place) (v : Bool) → mid ≡ f → WhereTold mid (λ made. v ≡ is_open_array (scene_of mid made a) t) → WhereTold f (λ made. v ≡ is_open_array (scene_of f made a) t)
open_before f mid a t v same says = told_later f mid (λ h made. v ≡ is_open_array (scene_of h made a) t) same says

-- by its form, the parameters and the result of a type
pub signature_told : (f mid : Frame) (a : Around) (t : Place) (form : Form) (answer : Result (Ask Signature) Memory) → mid ≡ f
    → WhereTold mid (λ made. IfKnown answer (λ s. IsSignatureBy (scene_of mid made a) form s)) → WhereTold f (λ made. Some form ≡ form_by (stands_for (scene_of f made a) t) (kind_of (scene_of f made a) t))
    → WhereTold f (λ made. IfKnown answer (λ s. IsSignatureOf (scene_of f made a) t s))
signature_told f mid a t form answer same says e made in_hand told =
    by_answer answer (told_later f mid (λ h rows. IfKnown answer (λ s. IsSignatureBy (scene_of h rows a) form s)) same says made in_hand told)
  where
    by_answer : (answer : Result (Ask Signature) Memory) → IfKnown answer (λ s. IsSignatureBy (scene_of f made a) form s) → IfKnown answer (λ s. IsSignatureOf (scene_of f made a) t s)
    by_answer (Ok (Known s)) h =
        let scene = scene_of f made a in
        record {
          params = h.params ∙ form_parameters scene (stands_for scene t) (kind_of scene t) form (e made in_hand told);
          result = h.result ∙ form_result (stands_for scene t) (kind_of scene t) form (e made in_hand told);
        }
    by_answer (Ok (DontKnowYet h)) s = tt
    by_answer (Err m) s = tt
