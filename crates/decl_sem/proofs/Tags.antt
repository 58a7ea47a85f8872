-- The type of a tag.
use Rattle.std.specs.Prelude.{◌≡◌, ℕ, ◌<◌, ◌^◌, Bool, true, false, if◌then◌else◌, List, [], Result, Ok}
use Rattle.std.proofs.Common.{refl, sym, ap, subst}
use Rattle.m2_base.specs.Noting.{IsRefused}
use Rattle.m2_base.specs.Gives.{Gives, and_then, gives}
use Rattle.m2_base.specs.Lists.{IsPrefixOf}
use Rattle.m2_base.specs.Standard.{broken}
use Rattle.m2_base.specs.States.{Frame, State}
use Rattle.m2_base.specs.Statics.Contexts.{Context, refuse}
use Rattle.m2_base.specs.Statics.Diagnostics.{wrong_operands}
use Rattle.m2_base.specs.Statics.Fields.{checked_tag, tag_type}
use Rattle.m2_base.specs.Statics.Makes.{Makes, only_gives}
use Rattle.m2_base.specs.Statics.Shapes.{Shape}
use Rattle.m2_base.specs.Statics.TypeNames.{type_of_qual}
use Rattle.m2_base.specs.declared.memory.Memory.{Memory}
use Rattle.m2_base.specs.declared.notes.Notes.{Notes}
use Rattle.m2_base.specs.declared.replies.Ask.{Ask}
use Rattle.m2_base.specs.declared.replies.Ask.TheVariants.{Known}
use Rattle.m2_base.specs.declared.rows.Place.{Place}
use Rattle.m2_base.specs.declared.sites.Site.{Site}
use Rattle.m2_base.specs.declared.trees.Qual.{Qual}
use Rattle.type_rules.specs.Asks.{Reads}
use Rattle.type_rules.specs.Scenes.{IsThere}
use Rattle.type_rules.specs.Sites.{context_of}
use Rattle.const_eval.specs.Analyses.{Analysed}
use Rattle.decl_sem.specs.Making.{next_ordinal}
use Rattle.decl_sem.specs.Pieces.{Declares, IsMaking}
use Rattle.decl_sem.specs.Records.{IsTagType}
use Rattle.decl_sem.specs.declared.making.Made.{Made}
use Rattle.decl_sem.proofs.Asking.{revalued}
use Rattle.decl_sem.proofs.Checks.{broken_behind}
use Rattle.decl_sem.proofs.Hands.{hand_none}
use Rattle.decl_sem.proofs.Held.{here_behind}
use Rattle.decl_sem.proofs.Pieces.{analysed, described, then_after, value_alone}
use Rattle.decl_sem.proofs.Uses.{broken_there, refused}

-- a tag's type, by whether it is wrong
abbrev pub tag_given : (at : ℕ) → Place → Bool → Context → Gives Place
tag_given at of wrong c = if wrong then refuse c at wrong_operands broken else gives of

-- one that is kept
pub tag_kept : (a : State) (x : Made) (s : Site) (at : ℕ) (wrong : Bool) (of : Place) → wrong ≡ false → IsTagType a.frame (next_ordinal x) of
    → Declares a a x x s (Ok (Known of)) [] IsTagType (λ c. only_gives (tag_given at of wrong c))
tag_kept a x s at wrong of is there =
    described (Ok (Known of)) (λ c. only_gives (tag_given at of wrong c)) (value_alone a x s of IsTagType there)
    (λ hand in_hand told same. ap (λ (k : Bool). only_gives (tag_given at of k (context_of a.frame hand s))) (sym is))

-- one that is refused
pub tag_refused : {y : Notes} (a : State) (x : Made) (s : Site) (at : ℕ) (wrong : Bool) (of : Place) → wrong ≡ true → IsMaking a.frame s x [] → IsRefused x.notes y s.around.now.text at wrong_operands
    → y.answers.items ≡ x.notes.answers.items → IsPrefixOf x.notes.diags.items y.diags.items
    → Declares a a x (record x { notes = y }) s (Ok (Known broken)) [] IsTagType (λ c. only_gives (tag_given at of wrong c))
tag_refused {y} a x s at wrong of is making noted answers diags =
    described (Ok (Known broken)) (λ c. only_gives (tag_given at of wrong c))
    (analysed {y = record x { notes = y }} (Ok (Known broken)) {P = λ f v. v ≡ broken} {Q = IsTagType} making refl refl
    (λ v h. subst (λ (p : Place). IsTagType a.frame (next_ordinal x) p) (sym h) (broken_there making.suits.around, broken_behind making))
    (refused a x.notes y s at wrong_operands broken (λ f v. v ≡ broken) refl noted answers diags))
    (λ hand in_hand told same. ap (λ (k : Bool). only_gives (tag_given at of k (context_of a.frame hand s))) (sym is))

-- a type that was found by its name
pub tag_there : {f : Frame} {s : Site} {x : Made} {p : Place} → IsMaking f s x [] → p.ordinal < 2 ^ 32 → IsThere f p → IsTagType f (next_ordinal x) p
tag_there making small there = (there, here_behind making small there)

pub tag_found : {a b : State} {x : Made} {n : Notes} {s : Site} {named of : Place} (q : Qual) → IsMaking a.frame s x [] → of ≡ named → named.ordinal < 2 ^ 32
    → Analysed a b x.notes n s (Ok (Known named)) IsThere (λ c. type_of_qual c q) → Declares a b x (record x { notes = n }) s (Ok (Known of)) [] IsTagType (λ c. only_gives (type_of_qual c q))
tag_found {a} {x = x} {n = n} {named = named} q making same small known =
    revalued same (λ there. subst (λ (p : Place). IsTagType a.frame (next_ordinal x) p) (sym same) (tag_there making small there))
    (analysed {y = record x { notes = n }} (Ok (Known named)) {P = IsThere} {Q = λ f k p. IsThere f p} making refl refl (λ v h. h) known)

-- a name, and then the check of its type
pub tag_named : {a b d : State} {x y z : Made} {s : Site} {t : Place} (q : Qual) (answer : Result (Ask Place) Memory) → IsMaking a.frame s x [] → Declares a b x y s (Ok (Known t)) [] IsTagType (λ c. only_gives (type_of_qual c q))
    → Declares b d y z s answer [] IsTagType (λ c. only_gives (checked_tag c q.first.at t)) → Declares a d x z s answer [] IsTagType (λ c. only_gives (tag_type c q))
tag_named {a} {s = s} q answer making p r =
    described answer (λ c. only_gives (tag_type c q)) (then_after (λ c. only_gives (type_of_qual c q)) (λ t c. only_gives (checked_tag c q.first.at t)) answer tt making p r)
    (λ hand in_hand told same. let c = context_of a.frame hand s in
    ap (λ (k : Context). let g = type_of_qual c q in only_gives (and_then g (λ t. checked_tag k q.first.at t))) (hand_none hand making.suits told))

-- the type of a tag stands where it was found
pub tag_stands : {a b : State} {x y : Made} {s : Site} {t : Place} {ss : List Shape} {g : Context → Makes Place} → Declares a b x y s (Ok (Known t)) ss IsTagType g → IsTagType b.frame (next_ordinal y) t
tag_stands {y = y} {t = t} p = subst (λ (f : Frame). IsTagType f (next_ordinal y) t) (sym p.works.keeps.frame) p.there

pub tag_read : {a b : State} {next : ℕ} {t : Place} → Reads a b → IsTagType a.frame next t → IsTagType b.frame next t
tag_read {next = next} {t = t} reads there = subst (λ (f : Frame). IsTagType f next t) (sym reads.keeps.frame) there
