-- The results of procedure types.
use Rattle.std.specs.Prelude.{◌≡◌, ℕ, Bool, true, false, if◌then◌else◌, [], Option, Some}
use Rattle.std.proofs.Common.{refl, sym, ap, subst, Ok, Result}
use Rattle.m2_base.specs.Noting.{IsRefused}
use Rattle.m2_base.specs.Gives.{Gives, and_then, gives}
use Rattle.m2_base.specs.Lists.{IsPrefixOf}
use Rattle.m2_base.specs.Standard.{broken}
use Rattle.m2_base.specs.States.{State}
use Rattle.m2_base.specs.Statics.Contexts.{Context, refuse}
use Rattle.m2_base.specs.Statics.Diagnostics.{result_not_scalar}
use Rattle.m2_base.specs.Statics.Makes.{only_gives}
use Rattle.m2_base.specs.Statics.ProcedureTypes.{checked_result, result_type}
use Rattle.m2_base.specs.Statics.TypeNames.{type_of_qual}
use Rattle.m2_base.specs.declared.memory.Memory.{Memory}
use Rattle.m2_base.specs.declared.notes.Notes.{Notes}
use Rattle.m2_base.specs.declared.replies.Ask.{Ask}
use Rattle.m2_base.specs.declared.replies.Ask.TheVariants.{Known}
use Rattle.m2_base.specs.declared.rows.Place.{Place}
use Rattle.m2_base.specs.declared.sites.Site.{Site}
use Rattle.m2_base.specs.declared.trees.Qual.{Qual}
use Rattle.type_rules.specs.Sites.{context_of}
use Rattle.decl_sem.specs.Making.{next_ordinal}
use Rattle.decl_sem.specs.Pieces.{Declares, IsBehind, IsMaking, IsOptionBehind}
use Rattle.decl_sem.specs.declared.making.Made.{Made}
use Rattle.decl_sem.proofs.Checks.{broken_behind}
use Rattle.decl_sem.proofs.Hands.{hand_none}
use Rattle.decl_sem.proofs.Pieces.{analysed, described, then_after, value_alone}
use Rattle.decl_sem.proofs.Uses.{refused}

abbrev pub scalar_given : (at : ℕ) → Place → Bool → Context → Gives (Option Place)
scalar_given at of b c = if b then refuse c at result_not_scalar (Some broken) else gives (Some of)

pub scalar : (a : State) (x : Made) (s : Site) (at : ℕ) (b : Bool) (of : Place) → b ≡ false → IsBehind a.frame (next_ordinal x) of
    → Declares a a x x s (Ok (Known (Some of))) [] IsOptionBehind (λ c. only_gives (scalar_given at of b c))
scalar a x s at b of is behind =
    described (Ok (Known (Some of))) (λ c. only_gives (scalar_given at of b c)) (value_alone a x s (Some of) IsOptionBehind behind)
    (λ hand in_hand told same. ap (λ (k : Bool). only_gives (scalar_given at of k (context_of a.frame hand s))) (sym is))

pub structured : {y : Notes} (a : State) (x : Made) (s : Site) (at : ℕ) (b : Bool) (of : Place) → b ≡ true → IsMaking a.frame s x [] → IsRefused x.notes y s.around.now.text at result_not_scalar
    → y.answers.items ≡ x.notes.answers.items → IsPrefixOf x.notes.diags.items y.diags.items
    → Declares a a x (record x { notes = y }) s (Ok (Known (Some broken))) [] IsOptionBehind (λ c. only_gives (scalar_given at of b c))
structured {y} a x s at b of is making noted answers diags =
    described (Ok (Known (Some broken))) (λ c. only_gives (scalar_given at of b c))
    (analysed {y = record x { notes = y }} (Ok (Known (Some broken))) {P = λ f v. v ≡ Some broken} {Q = IsOptionBehind} making refl refl (λ v h. subst (λ (p : Option Place). IsOptionBehind a.frame (next_ordinal x) p) (sym h) (broken_behind making))
    (refused a x.notes y s at result_not_scalar (Some broken) (λ f v. v ≡ Some broken) refl noted answers diags))
    (λ hand in_hand told same. ap (λ (k : Bool). only_gives (scalar_given at of k (context_of a.frame hand s))) (sym is))

-- a result that is named
pub named_result : {a b d : State} {x y z : Made} {s : Site} {t : Place} (q : Qual) (answer : Result (Ask (Option Place)) Memory) → IsMaking a.frame s x [] → Declares a b x y s (Ok (Known t)) [] IsBehind (λ c. only_gives (type_of_qual c q))
    → Declares b d y z s answer [] IsOptionBehind (λ c. only_gives (checked_result c q.first.at t)) → Declares a d x z s answer [] IsOptionBehind (λ c. only_gives (result_type c (Some q)))
named_result {a} {s = s} q answer making p r =
    described answer (λ c. only_gives (result_type c (Some q))) (then_after (λ c. only_gives (type_of_qual c q)) (λ t c. only_gives (checked_result c q.first.at t)) answer tt making p r)
    (λ hand in_hand told same. let c = context_of a.frame hand s in
    ap (λ (k : Context). let g = type_of_qual c q in only_gives (and_then g (λ t. checked_result k q.first.at t))) (hand_none hand making.suits told))

-- a result that is named, as an option
pub some_result : {a b : State} {x y : Made} {s : Site} {o : Option Qual} {q : Qual} (answer : Result (Ask (Option Place)) Memory) → o ≡ Some q → Declares a b x y s answer [] IsOptionBehind (λ c. only_gives (result_type c (Some q)))
    → Declares a b x y s answer [] IsOptionBehind (λ c. only_gives (result_type c o))
some_result {a} {b} {x} {y} {s} answer is p = subst (λ (o : Option Qual). Declares a b x y s answer [] IsOptionBehind (λ c. only_gives (result_type c o))) (sym is) p
