use Rattle.std.proofs.Common.{◌≡◌, ◌∙◌, ◌&&◌, ◌||◌, ℕ, Bool, true, false, ap, refl, sym}
use Rattle.m2_base.specs.Statics.Contexts.{Scene}
use Rattle.m2_base.specs.Statics.Operands.{is_bad as spec_bad, is_string as spec_string}
use Rattle.m2_base.specs.Statics.Types.{is_broken as spec_broken, kind_of}
use Rattle.m2_base.specs.declared.operands.Operand.{Operand}
use Rattle.m2_base.specs.declared.rows.Place.{Place}
use Rattle.m2_base.specs.declared.rows.RowMeaning.{RowMeaning}
use Rattle.m2_base.specs.declared.rows.RowMeaning.TheVariants.{Array}
use Rattle.type_rules.proofs.Later.{IsThere_read, Suits_read, Waits_asked}
use Rattle.type_rules.proofs.Reading.{Reads-refl, Reads-trans, Waits_read}
use Rattle.block_code.specs.Values.{has_broken_part as spec_broken_part, is_passed_over as spec_passed_over}
use Rattle.type_rules.specs.Scenes.{scene_of}
use Rattle.type_rules.proofs.Compatibles.{told_as, told_later}
use Rattle.expr_sem.proofs.takings.is_passed_over.Goals as goal

-- a string for a type that isn't in error is passed over where a part of the type is in error
passed : (scene : Scene) (to : Place) (o : Operand) (b : Bool) → spec_bad o ≡ false → spec_broken scene to ≡ false → spec_string o ≡ true → b ≡ spec_broken_part scene (kind_of scene to) → b ≡ spec_passed_over scene to o
passed scene to o b fine sound string e =
    let part = spec_broken_part scene (kind_of scene to) in
    e ∙ sym (ap (λ (x : Bool). x || spec_broken scene to || (spec_string o && part)) fine ∙ ap (λ (x : Bool). x || (spec_string o && part)) sound ∙ ap (λ (x : Bool). x && part) string)

no_part : (scene : Scene) (m : RowMeaning) → ((i t : Place) (s : ℕ) → m ≡ Array i t s → ⊥) → false ≡ spec_broken_part scene m
no_part scene (Array i t s) h = absurd (h i t s refl)
no_part scene m h = refl

pub returns-then-is_bad-clause-told : goal.returns-then-is_bad-clause-told
returns-then-is_bad-clause-told g c made in_hand told =
    let scene = scene_of (g.S.Scopes.state c.args.scopes.now).frame made c.args.around.now in
    sym (ap (λ (b : Bool). b || spec_broken scene c.args.to || (spec_string c.args.operand && spec_broken_part scene (kind_of scene c.args.to))) (sym c.is_bad.ensures ∙ c.if-is_bad.true))

pub returns-then-value-clause-told : goal.returns-then-value-clause-told
returns-then-value-clause-told g c made in_hand told =
    let scene = scene_of (g.S.Scopes.state c.args.scopes.now).frame made c.args.around.now in
    let rest = spec_string c.args.operand && spec_broken_part scene (kind_of scene c.args.to) in
    let broken : spec_broken scene c.args.to ≡ true = sym (c.in-Known.ensures.told made in_hand told) ∙ c.if-value.true in
    sym (ap (λ (b : Bool). b || spec_broken scene c.args.to || rest) (sym c.is_bad.ensures ∙ c.if-is_bad.false) ∙ ap (λ (b : Bool). b || rest) broken)

pub returns-then-not-is_string-clause-told : goal.returns-then-not-is_string-clause-told
returns-then-not-is_string-clause-told g c made in_hand told =
    let scene = scene_of (g.S.Scopes.state c.args.scopes.now).frame made c.args.around.now in
    let part = spec_broken_part scene (kind_of scene c.args.to) in
    let sound : spec_broken scene c.args.to ≡ false = sym (c.in-Known.ensures.told made in_hand told) ∙ c.if-value.false in
    sym (ap (λ (b : Bool). b || spec_broken scene c.args.to || (spec_string c.args.operand && part)) (sym c.is_bad.ensures ∙ c.if-is_bad.false)
    ∙ ap (λ (b : Bool). b || (spec_string c.args.operand && part)) sound ∙ ap (λ (b : Bool). b && part) (sym c.is_string.ensures ∙ c.if-not-is_string.true))

pub returns-in-DontKnowYet-is_broken-clause-reads : goal.returns-in-DontKnowYet-is_broken-clause-reads
returns-in-DontKnowYet-is_broken-clause-reads g c = Reads-trans (Reads-trans c.in-Known.ensures.reads c.in-Known-stand.ensures.reads) c.in-DontKnowYet-is_broken.ensures.reads

pub returns-then-value-2-clause-told : goal.returns-then-value-2-clause-told
returns-then-value-2-clause-told g c made in_hand told =
    let f = (g.S.Scopes.state c.args.scopes.now).frame in
    let a = c.args.around.now in
    let scene = scene_of f made a in
    let reads = Reads-trans c.in-Known.ensures.reads c.in-Known-stand.ensures.reads in
    let kind = told_later f _ (λ e rows. c.in-Known-stand.value.1 ≡ kind_of (scene_of e rows a) c.args.to) c.in-Known.ensures.reads.keeps.frame c.in-Known-stand.ensures.kind made in_hand told in
    let first = told_later f _ (λ e rows. c.in-Known-is_broken.value ≡ spec_broken (scene_of e rows a) c.in-Array.index) reads.keeps.frame c.in-Known-is_broken.ensures.told made in_hand told in
    passed scene c.args.to c.args.operand true (sym c.is_bad.ensures ∙ c.if-is_bad.false) (sym (c.in-Known.ensures.told made in_hand told) ∙ c.if-value.false) (sym c.is_string.ensures ∙ c.if-not-is_string.false)
    (ap (λ (b : Bool). b || spec_broken scene c.in-Array.element) (sym c.if-value-2.true ∙ first) ∙ ap (spec_broken_part scene) (sym c.in-Array.is ∙ kind))

pub returns-else-value-2-clause-reads : goal.returns-else-value-2-clause-reads
returns-else-value-2-clause-reads g c =
    Reads-trans (Reads-trans (Reads-trans c.in-Known.ensures.reads c.in-Known-stand.ensures.reads) c.in-Known-is_broken.ensures.reads) c.is_broken-in-Array-2.ensures.reads

pub returns-else-value-2-clause-waits : goal.returns-else-value-2-clause-waits
returns-else-value-2-clause-waits g c =
    Waits_asked c.is_broken-in-Array-2.result (g.S.Scopes.state c.is_broken-in-Array-2.new.scopes) (Reads-trans (Reads-trans c.in-Known.ensures.reads c.in-Known-stand.ensures.reads) c.in-Known-is_broken.ensures.reads) c.is_broken-in-Array-2.ensures.waits

pub returns-else-value-2-clause-told : goal.returns-else-value-2-clause-told
returns-else-value-2-clause-told g c =
    let f = (g.S.Scopes.state c.args.scopes.now).frame in
    let a = c.args.around.now in
    let two = Reads-trans c.in-Known.ensures.reads c.in-Known-stand.ensures.reads in
    let three = Reads-trans two c.in-Known-is_broken.ensures.reads in
    told_as c.is_broken-in-Array-2.result f _ (λ h made. spec_broken (scene_of h made a) c.in-Array.element)
    (λ made. spec_passed_over (scene_of f made a) c.args.to c.args.operand)
    three.keeps.frame c.is_broken-in-Array-2.ensures.told
    (λ made in_hand told.
    let scene = scene_of f made a in
    let kind = told_later f _ (λ e rows. c.in-Known-stand.value.1 ≡ kind_of (scene_of e rows a) c.args.to) c.in-Known.ensures.reads.keeps.frame c.in-Known-stand.ensures.kind made in_hand told in
    let first = told_later f _ (λ e rows. c.in-Known-is_broken.value ≡ spec_broken (scene_of e rows a) c.in-Array.index) two.keeps.frame c.in-Known-is_broken.ensures.told made in_hand told in
    passed scene c.args.to c.args.operand (spec_broken scene c.in-Array.element) (sym c.is_bad.ensures ∙ c.if-is_bad.false) (sym (c.in-Known.ensures.told made in_hand told) ∙ c.if-value.false) (sym c.is_string.ensures ∙ c.if-not-is_string.false)
    (ap (λ (b : Bool). b || spec_broken scene c.in-Array.element) (sym c.if-value-2.false ∙ first) ∙ ap (spec_broken_part scene) (sym c.in-Array.is ∙ kind)))

pub returns-in_default-clause-told : goal.returns-in_default-clause-told
returns-in_default-clause-told g c made in_hand told =
    let f = (g.S.Scopes.state c.args.scopes.now).frame in
    let a = c.args.around.now in
    let scene = scene_of f made a in
    let kind = told_later f _ (λ e rows. c.in-Known-stand.value.1 ≡ kind_of (scene_of e rows a) c.args.to) c.in-Known.ensures.reads.keeps.frame c.in-Known-stand.ensures.kind made in_hand told in
    passed scene c.args.to c.args.operand false (sym c.is_bad.ensures ∙ c.if-is_bad.false) (sym (c.in-Known.ensures.told made in_hand told) ∙ c.if-value.false) (sym c.is_string.ensures ∙ c.if-not-is_string.false)
    (no_part scene c.in-Known-stand.value.1 c.in_default.not-Array ∙ ap (spec_broken_part scene) kind)

pub is_broken-requires-clause-suits : goal.is_broken-requires-clause-suits
is_broken-requires-clause-suits g c = c.requires.suits

pub is_broken-requires-clause-there : goal.is_broken-requires-clause-there
is_broken-requires-clause-there g c = c.requires.to

pub stand-requires-clause-suits : goal.stand-requires-clause-suits
stand-requires-clause-suits g c = Suits_read c.in-Known.ensures.reads c.requires.suits

pub stand-requires-clause-there : goal.stand-requires-clause-there
stand-requires-clause-there g c = IsThere_read c.in-Known.ensures.reads c.requires.to

pub returns-in-DontKnowYet-clause-reads : goal.returns-in-DontKnowYet-clause-reads
returns-in-DontKnowYet-clause-reads g c = c.in-DontKnowYet.ensures.reads

pub returns-in-DontKnowYet-clause-waits : goal.returns-in-DontKnowYet-clause-waits
returns-in-DontKnowYet-clause-waits g c = c.in-DontKnowYet.ensures.waits

pub returns-in-DontKnowYet-clause-told : goal.returns-in-DontKnowYet-clause-told
returns-in-DontKnowYet-clause-told g c made in_hand told = tt

pub returns-then-value-clause-reads : goal.returns-then-value-clause-reads
returns-then-value-clause-reads g c = c.in-Known.ensures.reads

pub returns-then-value-clause-waits : goal.returns-then-value-clause-waits
returns-then-value-clause-waits g c = tt

pub returns-then-not-is_string-clause-reads : goal.returns-then-not-is_string-clause-reads
returns-then-not-is_string-clause-reads g c = c.in-Known.ensures.reads

pub returns-then-not-is_string-clause-waits : goal.returns-then-not-is_string-clause-waits
returns-then-not-is_string-clause-waits g c = tt

pub returns-in-DontKnowYet-stand-clause-reads : goal.returns-in-DontKnowYet-stand-clause-reads
returns-in-DontKnowYet-stand-clause-reads g c = Reads-trans c.in-Known.ensures.reads c.in-DontKnowYet-stand.ensures.reads

pub returns-in-DontKnowYet-stand-clause-waits : goal.returns-in-DontKnowYet-stand-clause-waits
returns-in-DontKnowYet-stand-clause-waits g c = Waits_read c.in-Known.ensures.reads c.in-DontKnowYet-stand.ensures.waits

pub returns-in-DontKnowYet-stand-clause-told : goal.returns-in-DontKnowYet-stand-clause-told
returns-in-DontKnowYet-stand-clause-told g c made in_hand told = tt

pub is_broken-requires-in-Array-clause-suits : goal.is_broken-requires-in-Array-clause-suits
is_broken-requires-in-Array-clause-suits g c = Suits_read (Reads-trans c.in-Known.ensures.reads c.in-Known-stand.ensures.reads) c.requires.suits

pub returns-in-DontKnowYet-is_broken-clause-waits : goal.returns-in-DontKnowYet-is_broken-clause-waits
returns-in-DontKnowYet-is_broken-clause-waits g c = Waits_read (Reads-trans c.in-Known.ensures.reads c.in-Known-stand.ensures.reads) c.in-DontKnowYet-is_broken.ensures.waits

pub returns-in-DontKnowYet-is_broken-clause-told : goal.returns-in-DontKnowYet-is_broken-clause-told
returns-in-DontKnowYet-is_broken-clause-told g c made in_hand told = tt

pub returns-then-value-2-clause-reads : goal.returns-then-value-2-clause-reads
returns-then-value-2-clause-reads g c = Reads-trans (Reads-trans c.in-Known.ensures.reads c.in-Known-stand.ensures.reads) c.in-Known-is_broken.ensures.reads

pub returns-then-value-2-clause-waits : goal.returns-then-value-2-clause-waits
returns-then-value-2-clause-waits g c = tt

pub is_broken-requires-in-Array-2-clause-suits : goal.is_broken-requires-in-Array-2-clause-suits
is_broken-requires-in-Array-2-clause-suits g c = Suits_read (Reads-trans (Reads-trans c.in-Known.ensures.reads c.in-Known-stand.ensures.reads) c.in-Known-is_broken.ensures.reads) c.requires.suits

pub returns-in_default-clause-reads : goal.returns-in_default-clause-reads
returns-in_default-clause-reads g c = Reads-trans c.in-Known.ensures.reads c.in-Known-stand.ensures.reads

pub returns-in_default-clause-waits : goal.returns-in_default-clause-waits
returns-in_default-clause-waits g c = tt

pub returns-then-is_bad-clause-reads : goal.returns-then-is_bad-clause-reads
returns-then-is_bad-clause-reads g c = Reads-refl _

pub returns-then-is_bad-clause-waits : goal.returns-then-is_bad-clause-waits
returns-then-is_bad-clause-waits g c = tt
