-- What a question of rows gives, and then the code that its answer makes.
use Rattle.std.specs.Prelude.{get_or, option_map, IsErr}
use Rattle.m2_base.specs.declared.sites.Around.{Around}
use Rattle.type_rules.specs.Scenes.{WhereTold, scene_of}
use Rattle.type_rules.proofs.Compatibles.{told_later}
use Rattle.std.proofs.lemmas.List.{drop_more}
use Rattle.std.specs.Option.{IfSome}
use Rattle.std.proofs.Common.{arith, ◌≡◌, ◌∙◌, [], ◌∷◌, ℕ, suc, ◌+◌, ◌<◌, drop, length, List, Option, Some, None, Result, Ok, Err, Bool, true, false, if◌then◌else◌, ap, sym, subst, refl}
use Rattle.m2_base.specs.Gives.{Gives, gives}
use Rattle.m2_base.specs.States.{Frame, State}
use Rattle.m2_base.specs.Statics.Contexts.{Block, Context, Scene, refuse}
use Rattle.m2_base.specs.Statics.Diagnostics.{not_a_pointer, not_a_record, not_an_array}
use Rattle.m2_base.specs.Statics.TypeParts.{field_of, named_target, target_by}
use Rattle.m2_base.specs.Statics.Types.{is_broken, kind_of, meaning_at}
use Rattle.m2_base.specs.declared.memory.Memory.{Memory}
use Rattle.m2_base.specs.declared.notes.Notes.{Notes}
use Rattle.m2_base.specs.declared.operands.Operand.{Operand}
use Rattle.m2_base.specs.declared.operands.Operand.TheVariants.{InError, ModuleName, NotConstant, Variable}
use Rattle.m2_base.specs.declared.replies.Ask.{Ask}
use Rattle.m2_base.specs.declared.replies.Ask.TheVariants.{Known}
use Rattle.m2_base.specs.declared.rows.Mode.{Mode}
use Rattle.m2_base.specs.declared.rows.Place.{Place}
use Rattle.m2_base.specs.declared.rows.Row.{Row}
use Rattle.m2_base.specs.declared.rows.RowMeaning.{RowMeaning}
use Rattle.m2_base.specs.declared.rows.RowMeaning.TheVariants.{Array, Field, OpenArray, Pointer, Record, Var}
use Rattle.m2_base.specs.declared.sites.Site.{Site}
use Rattle.m2_base.specs.declared.trees.Ident.{Ident}
use Rattle.type_rules.specs.Asks.{Reads}
use Rattle.code_form.specs.declared.instr.Instr.TheVariants.{Load, Nil}
use Rattle.m2_base.proofs.Kept.{Works-refl}
use Rattle.block_code.specs.Coded as code
use Rattle.block_code.specs.Coded.{bare, coded, in_error}
use Rattle.expr_sem.specs.Codings.{Coding, IsCoded, coded_in, high_in, with_types}
use Rattle.block_code.specs.Elements.{of_array, of_pointer, select_element_by, select_target_by}
use Rattle.expr_sem.specs.Fragments.{Grows, IsIn, IsMade}
use Rattle.block_code.specs.Parts.{Part, plain, with_record, ◌⨟◌}
use Rattle.block_code.specs.RecordFields.{field_by, field_coded, field_or, field_or_use, name_coded, with_field, no_selector, of_record, select_field_by}
use Rattle.expr_sem.specs.Selections.{number_or, pointed, with_number}
use Rattle.block_code.specs.Variables.{with_address}
use Rattle.expr_sem.specs.declared.coded.Coded.{Coded}
use Rattle.expr_sem.specs.declared.fragments.Fragment.{Fragment}
use Rattle.expr_sem.specs.declared.fragments.Node.{Node}
use Rattle.expr_sem.specs.declared.pieces.With.{With}
use Rattle.expr_sem.proofs.Operating.{described, made_wanted, value_alone}
use Rattle.expr_sem.proofs.Sequencing.{Grows-refl, Grows-trans}

-- ** Fragments

-- memory was wanted for a later fragment
pub made_full : {a b d : List Node} {p q : Part} {m : Memory} (r : Result Fragment Memory) → IsErr r → IsMade b d (Err m) p → Grows a b → IsMade a d r q
made_full (Ok f) is h g = absurd (let h : false ≡ true = is in cc)
made_full (Err n) is h g = record { grows = Grows-trans g h.grows; made = tt }

-- the code of the number of elements less 1 that is there
pub high_made : (ns : List Node) (h : Option Fragment) (f : Fragment) → h ≡ Some f → IfSome h (λ k. IsIn ns k) → IsMade ns ns (Ok f) (high_in ns h)
high_made ns h f e there =
    subst (λ (o : Option Fragment). IfSome o (λ k. IsIn ns k) → IsMade ns ns (Ok f) (high_in ns o)) (sym e) (λ t. record { grows = Grows-refl ns; made = record { there = t; part_is = refl } }) there

-- ** Codings

-- memory was wanted for a fragment
pub coding_full : {T V : Type 0} (a : State) (n : Notes) (s : Site) {ns ms : List Node} {m : Memory} {p : Part} {P : Frame → List Node → T → Type 0} {as_p : List Node → T → V} {g : Context → Gives V} (r : Result (Ask T) Memory)
    → IsErr r → IsMade ns ms (Err m) p → Coding a a n n ns ms s r P as_p g
coding_full a n s (Ok f) is h = absurd (let h : false ≡ true = is in cc)
coding_full a n s (Err k) is h = made_wanted a n s h k

-- memory was wanted after fragments that were made
pub grown_wanted : {T V : Type 0} (a : State) (n : Notes) (s : Site) {ns ms : List Node} {P : Frame → List Node → T → Type 0} {as_p : List Node → T → V} {g : Context → Gives V} → Grows ns ms → (k : Memory) → Coding a a n n ns ms s (Err k) P as_p g
grown_wanted a n s h k = record { works = Works-refl a n; waits = tt; grows = h; told = λ made in_hand told of_site. tt; there = tt }

-- a coding after fragments that were made
pub grown : {T V : Type 0} {a b : State} {x y : Notes} {s : Site} {n1 n2 n3 : List Node} {P : Frame → List Node → T → Type 0} {as_p : List Node → T → V} {g : Context → Gives V} {answer : Result (Ask T) Memory} → Grows n1 n2 → Coding a b x y n2 n3 s answer P as_p g → Coding a b x y n1 n3 s answer P as_p g
grown h p = record { works = p.works; waits = p.waits; grows = Grows-trans h p.grows; told = p.told; there = p.there }

-- what is in error
pub error_alone : (a : State) (n : Notes) (ns : List Node) (s : Site) (v : Coded) (g : Context → Gives code.Coded) → ((nodes : List Node) → coded_in nodes v ≡ in_error) → ((f : Frame) (nodes : List Node) → IsCoded f nodes v)
    → ((k : Context) → gives in_error ≡ g k) → Coding a a n n ns ns s (Ok (Known v)) IsCoded coded_in g
error_alone a n ns s v g told there e =
    described (Ok (Known v)) (value_alone a n ns s v IsCoded coded_in (λ k. in_error) (there a.frame ns) (λ k. told ns)) e

-- what could stand before a question can after it
pub stays_read : {a b : State} (Q : Frame → Type 0) → Reads a b → Q a.frame → Q b.frame
stays_read Q r h = subst (λ (f : Frame). Q f) (sym r.keeps.frame) h

-- ** Variables

pub with_other : (b : Block) (s : ℕ) (m : RowMeaning) (o : Operand) → ((t : Place) → o ≡ Variable t → ⊥) → bare o ≡ with_address b s m o
with_other b s (Var t mode k) (Variable u) h = absurd (h u refl)
with_other b s (Var t mode k) o h = refl
with_other b s m o h = refl

pub with_no_var : (b : Block) (s : ℕ) (m : RowMeaning) (u : Place) → ((t : Place) (mode : Mode) (k : ℕ) → m ≡ Var t mode k → ⊥) → bare (Variable u) ≡ with_address b s m (Variable u)
with_no_var b s (Var t mode k) u h = absurd (h t mode k refl)
with_no_var b s m u h = refl

-- ** Operands that take no selector

pub no_target : (c : Context) (first at : ℕ) (p : Part) (o : Operand) → ((t : Place) → o ≡ Variable t → ⊥) → (o ≡ InError → ⊥) → (o ≡ NotConstant → ⊥)
    → no_selector c first ≡ select_target_by c first at p o
no_target c first at p (Variable t) v e n = absurd (v t refl)
no_target c first at p InError v e n = absurd (e refl)
no_target c first at p NotConstant v e n = absurd (n refl)
no_target c first at p o v e n = refl

pub no_element : (c : Context) (first at i_at : ℕ) (i x : code.Coded) (o : Operand) → ((t : Place) → o ≡ Variable t → ⊥) → (o ≡ InError → ⊥) → (o ≡ NotConstant → ⊥)
    → no_selector c first ≡ select_element_by c first at i_at i x o
no_element c first at i_at i x (Variable t) v e n = absurd (v t refl)
no_element c first at i_at i x InError v e n = absurd (e refl)
no_element c first at i_at i x NotConstant v e n = absurd (n refl)
no_element c first at i_at i x o v e n = refl

pub no_field : (c : Context) (first at : ℕ) (i : Ident) (p : Part) (o : Operand) → ((m : ℕ) → o ≡ ModuleName m → ⊥) → ((t : Place) → o ≡ Variable t → ⊥) → (o ≡ InError → ⊥) → (o ≡ NotConstant → ⊥)
    → no_selector c first ≡ select_field_by c first at i p o
no_field c first at i p (ModuleName m) s v e n = absurd (s m refl)
no_field c first at i p (Variable t) s v e n = absurd (v t refl)
no_field c first at i p InError s v e n = absurd (e refl)
no_field c first at i p NotConstant s v e n = absurd (n refl)
no_field c first at i p o s v e n = refl

pub not_field : (scene : Scene) (p : Part) (m : RowMeaning) → ((t : Place) (o r n : ℕ) → m ≡ Field t o r n → ⊥) → in_error ≡ field_by scene p m
not_field scene p (Field t o r n) h = absurd (h t o r n refl)
not_field scene p m h = refl

-- ** Types that a selector isn't for

pub no_pointer : (c : Context) (at : ℕ) (p : Part) (t : Place) (m : RowMeaning) → ((q : Place) → m ≡ Pointer q → ⊥) → refuse c at not_a_pointer in_error ≡ of_pointer c at p t m
no_pointer c at p t (Pointer q) h = absurd (h q refl)
no_pointer c at p t m h = refl

-- what a variable points to whose type's row is that of a pointer
pub pointer_given : (c : Context) (at : ℕ) (p : Part) (t q : Place) → Pointer q ≡ kind_of c.scene t
    → pointed c.scene p (named_target q (meaning_at c.scene q)) ≡ of_pointer c at p t (kind_of c.scene t)
pointer_given c at p t q e = ap (λ m. pointed c.scene p (target_by c.scene m)) e ∙ ap (λ m. of_pointer c at p t m) e

pub pointed_broken : (scene : Scene) (p : Part) (v t : Place) → true ≡ is_broken scene v → v ≡ t → gives in_error ≡ pointed scene p t
pointed_broken scene p v t b e =
    ap (λ (h : Bool). if h then gives in_error else gives (coded (Variable v) (p ⨟ plain (Load ∷ Nil ∷ [])))) b ∙ ap (λ u. pointed scene p u) e

pub pointed_whole : (scene : Scene) (p : Part) (v t : Place) → false ≡ is_broken scene v → v ≡ t → gives (coded (Variable v) (p ⨟ plain (Load ∷ Nil ∷ []))) ≡ pointed scene p t
pointed_whole scene p v t b e =
    ap (λ (h : Bool). if h then gives in_error else gives (coded (Variable v) (p ⨟ plain (Load ∷ Nil ∷ [])))) b ∙ ap (λ u. pointed scene p u) e

pub no_record : (c : Context) (at : ℕ) (p : Part) (i : Ident) (t : Place) (m : RowMeaning) → ((f s : ℕ) → m ≡ Record f s → ⊥) → refuse c at not_a_record in_error ≡ of_record c at p i t m
no_record c at p i t (Record f s) h = absurd (h f s refl)
no_record c at p i t m h = refl

pub no_array : (c : Context) (at : ℕ) (x : code.Coded) (i_at : ℕ) (i : code.Coded) (m : RowMeaning) → ((j t : Place) (s : ℕ) → m ≡ Array j t s → ⊥) → ((t : Place) → m ≡ OpenArray t → ⊥)
    → refuse c at not_an_array in_error ≡ of_array c at x i_at i m
no_array c at x i_at i (Array j t s) h k = absurd (h j t s refl)
no_array c at x i_at i (OpenArray t) h k = absurd (k t refl)
no_array c at x i_at i m h k = refl

-- ** Fields of the records of WITHs

with_field_or : (scene : Scene) (k name : ℕ) (o : Option Row) (outer : Option code.Coded) (number : Option (ℕ × Row))
    → outer ≡ option_map (λ n. field_coded scene (with_record n.0) n.1) number
    → field_or scene k o outer ≡ option_map (λ n. field_coded scene (with_record n.0) n.1) (number_or k o number)
with_field_or scene k name None outer number e = e
with_field_or scene k name (Some r) outer number e = refl

-- the field that a WITH has, by its number and its row
pub with_field_numbered : (scene : Scene) (k : ℕ) (ts : List Place) (name : ℕ)
    → with_field scene k ts name ≡ option_map (λ n. field_coded scene (with_record n.0) n.1) (with_number scene k ts name)
with_field_numbered scene k [] name = refl
with_field_numbered scene k (t ∷ ts) name = with_field_or scene k name (field_of scene t name) _ _ (with_field_numbered scene (suc k) ts name)

-- a name where a designator begins, by the WITH that has a field of it
pub name_given : (c : Context) (i : Ident) (ws : List Place) (found : Option (ℕ × Row)) → found ≡ with_number c.scene 0 ws i.name
    → field_or_use c i (option_map (λ n. field_coded c.scene (with_record n.0) n.1) found) ≡ name_coded c ws i
name_given c i ws found e =
    ap (λ (o : Option (ℕ × Row)). field_or_use c i (option_map (λ n. field_coded c.scene (with_record n.0) n.1) o)) e ∙ ap (λ o. field_or_use c i o) (sym (with_field_numbered c.scene 0 ws i.name))

-- one WITH more was asked
pub with_step : (scene : Scene) (k : ℕ) (ws : List With) (d : With) (name : ℕ) (o : Option Row) → k < length ws → o ≡ field_of scene (get_or ws k d).of name
    → number_or k o (with_number scene (k + 1) (with_types (drop (k + 1) ws)) name) ≡ with_number scene k (with_types (drop k ws)) name
with_step scene k ws d name o h e =
    let s : suc k ≡ k + 1 = omega arith in
    ap (λ (r : Option Row). number_or k r (with_number scene (k + 1) (with_types (drop (k + 1) ws)) name)) e
    ∙ ap (λ (n : ℕ). number_or k (field_of scene (get_or ws k d).of name) (with_number scene n (with_types (drop (k + 1) ws)) name)) (sym s)
    ∙ sym (ap (λ (l : List With). with_number scene k (with_types l) name) (drop_more ws k d h))

-- what was told of a later question, over the frame before it
pub asked_before : (f mid : Frame) (a : Around) (t : Place) (name : ℕ) (v : Option Row) → mid ≡ f → WhereTold mid (λ made. v ≡ field_of (scene_of mid made a) t name) → WhereTold f (λ made. v ≡ field_of (scene_of f made a) t name)
asked_before f mid a t name v same says = told_later f mid (λ h made. v ≡ field_of (scene_of h made a) t name) same says
