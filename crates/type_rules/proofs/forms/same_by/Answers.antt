use Rattle.std.proofs.Common.{◌∙◌, ap, refl, sym, Fits, rules, w32}
use Rattle.m2_base.specs.Statics.SameForm.{is_same_part}
use Rattle.m2_base.specs.declared.rows.RowMeaning.TheVariants.{OpenArray}
use Rattle.type_rules.specs.Scenes.{scene_of}
use Rattle.type_rules.specs.Forms.{same_by as spec_same_by, same_kinds}
use Rattle.type_rules.proofs.Procedures.{default_same}
use Rattle.type_rules.proofs.Reading.{Reads-refl}
use Rattle.type_rules.proofs.Compatibles.{told_as}
use Rattle.type_rules.proofs.Later.{IsThere_before}
use Rattle.type_rules.proofs.forms.same_by.Goals as goal

pub returns-in_default : goal.returns-in_default
returns-in_default g c =
    record {
      reads = Reads-refl _;
      waits = tt;
      told = λ made in_hand told. c.same_places.ensures
          ∙ default_same (scene_of (g.S.Scopes.state c.args.scopes.now).frame made c.args.around.now) c.args.left.0 c.args.right.0 c.args.left.1 c.args.right.1
          c.in_default.not-OpenArray-0 c.in_default.not-OpenArray-1;
    }

pub eq-requires : goal.eq-requires
eq-requires g c = tt

pub eq-requires-in_default-OpenArray : goal.eq-requires-in_default-OpenArray
eq-requires-in_default-OpenArray g c = tt

pub same_places-requires : goal.same_places-requires
same_places-requires g c = tt

pub returns-in-OpenArray-OpenArray : goal.returns-in-OpenArray-OpenArray
returns-in-OpenArray-OpenArray g c =
    record {
      reads = c.same_part.ensures.reads;
      waits = c.same_part.ensures.waits;
      told = (let f = (g.S.Scopes.state c.args.scopes.now).frame in
          let x = c.in-OpenArray-OpenArray.x in
          let y = c.in-OpenArray-OpenArray.y in
          let l = c.args.left in
          let r = c.args.right in
          told_as c.same_part.result f f (λ h made. is_same_part (scene_of h made c.args.around.now) x y) (λ made. spec_same_by (scene_of f made c.args.around.now) l r) refl c.same_part.ensures.told
          (λ made in_hand told. let scene = scene_of f made c.args.around.now in
          sym (ap (λ k. same_kinds scene l.0 r.0 k r.1) c.in-OpenArray-OpenArray.is-0 ∙ ap (same_kinds scene l.0 r.0 (OpenArray x)) c.in-OpenArray-OpenArray.is-1)));
    }

pub same_part-requires-clause-suits : goal.same_part-requires-clause-suits
same_part-requires-clause-suits g c = c.requires.suits

pub same_part-requires-clause-x : goal.same_part-requires-clause-x
same_part-requires-clause-x g c =
    let o : Fits w32 c.args.left.0.ordinal = search rules in
    IsThere_before _ c.args.left.0 c.in-OpenArray-OpenArray.x o.fits c.requires.left.there (rw c.in-OpenArray-OpenArray.is-0 at c.requires.left.said.fits)

pub same_part-requires-clause-y : goal.same_part-requires-clause-y
same_part-requires-clause-y g c =
    let o : Fits w32 c.args.right.0.ordinal = search rules in
    IsThere_before _ c.args.right.0 c.in-OpenArray-OpenArray.y o.fits c.requires.right.there (rw c.in-OpenArray-OpenArray.is-1 at c.requires.right.said.fits)
