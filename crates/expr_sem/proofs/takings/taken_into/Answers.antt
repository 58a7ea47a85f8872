use Rattle.std.proofs.Common.{◌≡◌, ◌∙◌, Bool, ap, false, refl, sym, true, if◌then◌else◌}
use Rattle.std.specs.Prelude.{◌&&◌, not}
use Rattle.m2_base.specs.Finished.{source_of}
use Rattle.m2_base.specs.Rows.{is_same_place}
use Rattle.m2_base.specs.Standard.{character}
use Rattle.m2_base.specs.Statics.Assignable.{taken_into}
use Rattle.m2_base.specs.Statics.Contexts.{Scene, Source}
use Rattle.m2_base.specs.Statics.Operands.{as_char, char_or_same, is_one_char, is_string}
use Rattle.m2_base.specs.Statics.Types.{base_of}
use Rattle.m2_base.specs.declared.operands.Operand.{Operand}
use Rattle.m2_base.specs.declared.operands.Operand.TheVariants.{Computed}
use Rattle.m2_base.specs.declared.rows.Place.{Place}
use Rattle.type_rules.specs.Scenes.{scene_of}
use Rattle.type_rules.proofs.Reading.{Reads-refl}
use Rattle.const_eval.proofs.TypesThere.{operand_named, standard_there}
use Rattle.expr_sem.proofs.takings.taken_into.Goals as goal

module _ (source : Source) (scene : Scene) (to : Place) (o : Operand) where
  -- what is no string of one character is taken as it is
  no_char : is_one_char o ≡ false → o ≡ taken_into source scene to o
  no_char one = sym (ap (λ (b : Bool). if b && not (is_string (Computed to)) && is_same_place (base_of scene to) character then as_char source o else o) one)

  -- a string of one character, by whether the base is CHAR
  by_base : (char : Bool) → is_one_char o ≡ true → is_same_place (base_of scene to) character ≡ char → (if char then as_char source o else o) ≡ taken_into source scene to o
  by_base char one e =
      sym (ap (λ (b : Bool). if b && not (is_string (Computed to)) && is_same_place (base_of scene to) character then as_char source o else o) one ∙ ap (λ (b : Bool). if b then as_char source o else o) e)

  same_char : is_one_char o ≡ true → char_or_same source o ≡ as_char source o
  same_char one = ap (λ (b : Bool). if b then as_char source o else o) one

pub returns-then-not-is_one_char-clause-reads : goal.returns-then-not-is_one_char-clause-reads
returns-then-not-is_one_char-clause-reads g c = Reads-refl _

pub returns-then-not-is_one_char-clause-told : goal.returns-then-not-is_one_char-clause-told
returns-then-not-is_one_char-clause-told g c made in_hand told =
    no_char (source_of c.args.site.now.texts.now) (scene_of (g.S.Scopes.state c.args.scopes.now).frame made c.args.site.now.around.now) c.args.to c.args.operand (sym c.is_one_char.ensures ∙ c.if-not-is_one_char.true)

pub char_of_string-requires : goal.char_of_string-requires
char_of_string-requires g c = operand_named c.requires.suits c.args.operand c.requires.operand

pub returns-then-eq-clause-reads : goal.returns-then-eq-clause-reads
returns-then-eq-clause-reads g c = c.base_of.ensures.reads

pub returns-then-eq-clause-told : goal.returns-then-eq-clause-told
returns-then-eq-clause-told g c made in_hand told =
    let source = source_of c.args.site.now.texts.now in
    let scene = scene_of (g.S.Scopes.state c.args.scopes.now).frame made c.args.site.now.around.now in
    let one = sym c.is_one_char.ensures ∙ c.if-not-is_one_char.false in
    c.char_of_string.ensures.told source refl ∙ same_char source scene c.args.to c.args.operand one
    ∙ by_base source scene c.args.to c.args.operand true one (ap (λ (t : Place). is_same_place t character) (sym (c.in-Known.ensures.told made in_hand told)) ∙ sym c.eq.ensures ∙ c.if-eq.true)

pub returns-then-eq-clause-there : goal.returns-then-eq-clause-there
returns-then-eq-clause-there g c = c.char_of_string.ensures.there _ (standard_there c.requires.suits.around 2) c.requires.operand

pub returns-else-eq-clause-reads : goal.returns-else-eq-clause-reads
returns-else-eq-clause-reads g c = c.base_of.ensures.reads

pub returns-else-eq-clause-told : goal.returns-else-eq-clause-told
returns-else-eq-clause-told g c made in_hand told =
    by_base (source_of c.args.site.now.texts.now) (scene_of (g.S.Scopes.state c.args.scopes.now).frame made c.args.site.now.around.now) c.args.to c.args.operand false (sym c.is_one_char.ensures ∙ c.if-not-is_one_char.false)
    (ap (λ (t : Place). is_same_place t character) (sym (c.in-Known.ensures.told made in_hand told)) ∙ sym c.eq.ensures ∙ c.if-eq.false)

pub returns-else-eq-clause-there : goal.returns-else-eq-clause-there
returns-else-eq-clause-there g c = c.requires.operand

pub returns-then-not-is_one_char-clause-waits : goal.returns-then-not-is_one_char-clause-waits
returns-then-not-is_one_char-clause-waits g c = tt

pub returns-then-eq-clause-waits : goal.returns-then-eq-clause-waits
returns-then-eq-clause-waits g c = tt

pub returns-else-eq-clause-waits : goal.returns-else-eq-clause-waits
returns-else-eq-clause-waits g c = tt
