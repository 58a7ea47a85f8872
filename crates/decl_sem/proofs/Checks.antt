-- Types that are kept or refused.
use Rattle.std.specs.Prelude.{◌≡◌, ℕ, Bool, true, false, if◌then◌else◌, List, []}
use Rattle.std.proofs.Common.{refl, sym, ap, subst, arith, Ok, Err}
use Rattle.m2_base.specs.Noting.{IsRefused}
use Rattle.m2_base.specs.Gives.{Gives, gives}
use Rattle.m2_base.specs.Lists.{IsPrefixOf}
use Rattle.m2_base.specs.Standard.{broken}
use Rattle.m2_base.specs.States.{Frame, State}
use Rattle.m2_base.specs.Statics.Contexts.{Context, refuse}
use Rattle.m2_base.specs.Statics.Diagnostics.{wrong_index}
use Rattle.m2_base.specs.Statics.Makes.{only_gives}
use Rattle.m2_base.specs.Statics.Shapes.{Shape}
use Rattle.m2_base.specs.declared.memory.Memory.{Memory}
use Rattle.m2_base.specs.declared.notes.Notes.{Notes}
use Rattle.m2_base.specs.declared.replies.Ask.TheVariants.{Known}
use Rattle.m2_base.specs.declared.rows.Place.{Place}
use Rattle.m2_base.specs.declared.sites.Site.{Site}
use Rattle.type_rules.specs.Sites.{context_of}
use Rattle.decl_sem.specs.Making.{next_ordinal}
use Rattle.decl_sem.specs.Pieces.{Declares, IsBehind, IsMaking}
use Rattle.decl_sem.specs.declared.making.Made.{Made}
use Rattle.decl_sem.proofs.Pieces.{analysed, described, value_alone}
use Rattle.decl_sem.proofs.Uses.{refused, unnoted}

pub broken_behind : {f : Frame} {s : Site} {x : Made} {ss : List Shape} {next : ℕ} → IsMaking f s x ss → IsBehind f next broken
broken_behind making =
    let inner = making.suits.around.inner in
    record { small = omega arith; scope = omega arith; before = λ same. absurd (omega (arith, same, inner)) }

-- a type that is kept
pub kept : (a : State) (x : Made) (s : Site) (at : ℕ) (keep : Bool) (of : Place) → keep ≡ true → IsBehind a.frame (next_ordinal x) of
    → Declares a a x x s (Ok (Known of)) [] IsBehind (λ c. only_gives (if keep then gives of else refuse c at wrong_index broken))
kept a x s at keep of is behind =
    described (Ok (Known of)) (λ c. only_gives (if keep then gives of else refuse c at wrong_index broken)) (value_alone a x s of IsBehind behind)
    (λ hand in_hand told same. let c = context_of a.frame hand s in ap (λ (b : Bool). only_gives (if b then gives of else refuse c at wrong_index broken)) (sym is))

-- one that is refused
pub refused_piece : {y : Notes} (a : State) (x : Made) (s : Site) (at : ℕ) (keep : Bool) (of : Place) → keep ≡ false → IsMaking a.frame s x [] → IsRefused x.notes y s.around.now.text at wrong_index
    → y.answers.items ≡ x.notes.answers.items → IsPrefixOf x.notes.diags.items y.diags.items
    → Declares a a x (record x { notes = y }) s (Ok (Known broken)) [] IsBehind (λ c. only_gives (if keep then gives of else refuse c at wrong_index broken))
refused_piece {y} a x s at keep of is making noted answers diags =
    described (Ok (Known broken)) (λ c. only_gives (if keep then gives of else refuse c at wrong_index broken))
    (analysed {y = record x { notes = y }} (Ok (Known broken)) {P = λ f v. v ≡ broken} {Q = IsBehind} making refl refl (λ v h. subst (λ (p : Place). IsBehind a.frame (next_ordinal x) p) (sym h) (broken_behind making))
    (refused a x.notes y s at wrong_index broken (λ f v. v ≡ broken) refl noted answers diags))
    (λ hand in_hand told same. let c = context_of a.frame hand s in ap (λ (b : Bool). only_gives (if b then gives of else refuse c at wrong_index broken)) (sym is))

-- no memory for the diagnostic
pub unnoted_piece : {T : Type 0} {y : Notes} {Q : Frame → ℕ → T → Type 0} (a : State) (x : Made) (s : Site) (m : Memory) (g : Context → Gives T) → IsMaking a.frame s x [] → y.answers.items ≡ x.notes.answers.items → IsPrefixOf x.notes.diags.items y.diags.items
    → Declares a a x (record x { notes = y }) s (Err m) [] Q (λ c. only_gives (g c))
unnoted_piece {T} {y} {Q} a x s m g making answers diags =
    analysed {y = record x { notes = y }} (Err m) {P = λ f v. ⊥} {Q = Q} making refl refl (λ v h. absurd h) (unnoted a x.notes y s m (λ f v. ⊥) g answers diags)
