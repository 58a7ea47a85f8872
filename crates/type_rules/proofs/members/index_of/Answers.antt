use Rattle.std.proofs.Common.{◌≡◌, ◌∙◌, ap, sym}
use Rattle.m2_base.specs.Statics.Contexts.{row_at as spec_row}
use Rattle.m2_base.specs.Statics.TypeParts.{index_by}
use Rattle.m2_base.specs.Rows.{row_meaning}
use Rattle.m2_base.specs.Statics.Types.{stands_for as spec_stands, kind_of}
use Rattle.m2_base.specs.declared.rows.RowMeaning.TheVariants.{Array}
use Rattle.type_rules.specs.Scenes.{scene_of, rows_of}
use Rattle.type_rules.proofs.Later.{IsThere_read, Suits_read, IsRowOf_before}
use Rattle.type_rules.proofs.Reading.{Reads-trans, Waits_read}
use Rattle.type_rules.proofs.Compatibles.{told_later}
use Rattle.type_rules.proofs.Otherwise.{other_index}
use Rattle.type_rules.proofs.members.index_of.Goals as goal

pub row_at-requires-clause-suits : goal.row_at-requires-clause-suits
row_at-requires-clause-suits g c = Suits_read c.in-Known.ensures.reads c.requires.suits

pub row_at-requires-clause-there : goal.row_at-requires-clause-there
row_at-requires-clause-there g c = IsThere_read c.in-Known.ensures.reads c.in-Known.ensures.there

pub stands_for-requires : goal.stands_for-requires
stands_for-requires g c = record { suits = c.requires.suits; there = c.requires.there }

pub returns-in-DontKnowYet : goal.returns-in-DontKnowYet
returns-in-DontKnowYet g c =
    record {
      reads = c.in-DontKnowYet.ensures.reads;
      waits = c.in-DontKnowYet.ensures.waits;
      told = λ made in_hand told. tt;
      here = tt;
    }

pub returns-in-DontKnowYet-row_at : goal.returns-in-DontKnowYet-row_at
returns-in-DontKnowYet-row_at g c =
    record {
      reads = Reads-trans c.in-Known.ensures.reads c.in-DontKnowYet-row_at.ensures.reads;
      waits = Waits_read c.in-Known.ensures.reads c.in-DontKnowYet-row_at.ensures.waits;
      told = λ made in_hand told. tt;
      here = tt;
    }

pub read_row-requires : goal.read_row-requires
read_row-requires g c = c.in-Known-row_at.ensures.row.said.small

pub returns-in-Array : goal.returns-in-Array
returns-in-Array g c =
    record {
      reads = Reads-trans c.in-Known.ensures.reads c.in-Known-row_at.ensures.reads;
      waits = tt;
      told = λ made in_hand told. (let scene = scene_of (g.S.Scopes.state c.args.scopes.now).frame made c.args.around.now in
          let row = c.in-Known-row_at.value in
          let here : row ≡ spec_row (rows_of (g.S.Scopes.state c.args.scopes.now).frame made) (spec_stands scene c.args.of) =
          told_later (g.S.Scopes.state c.args.scopes.now).frame (g.S.Scopes.state c.stands_for.new.scopes).frame (λ h rows. row ≡ spec_row (rows_of h rows) c.in-Known.value) c.in-Known.ensures.reads.keeps.frame c.in-Known-row_at.ensures.told made in_hand told
          ∙ ap (spec_row (rows_of (g.S.Scopes.state c.args.scopes.now).frame made)) (c.in-Known.ensures.told made in_hand told) in
          let kind = c.read_row.ensures ∙ ap row_meaning here in
          ap (λ r. index_by r (Array c.in-Array.field-0 c.in-Array.field-1 c.in-Array.field-2)) here ∙ ap (index_by (spec_row (rows_of (g.S.Scopes.state c.args.scopes.now).frame made) (spec_stands scene c.args.of))) (sym c.in-Array.is ∙ kind));
      here = record { place = _; row = IsRowOf_before c.in-Known.ensures.reads c.in-Known-row_at.ensures.row };
    }

pub returns-in_default : goal.returns-in_default
returns-in_default g c =
    record {
      reads = Reads-trans c.in-Known.ensures.reads c.in-Known-row_at.ensures.reads;
      waits = tt;
      told = λ made in_hand told. (let scene = scene_of (g.S.Scopes.state c.args.scopes.now).frame made c.args.around.now in
          let row = c.in-Known-row_at.value in
          let here : row ≡ spec_row (rows_of (g.S.Scopes.state c.args.scopes.now).frame made) (spec_stands scene c.args.of) =
          told_later (g.S.Scopes.state c.args.scopes.now).frame (g.S.Scopes.state c.stands_for.new.scopes).frame (λ h rows. row ≡ spec_row (rows_of h rows) c.in-Known.value) c.in-Known.ensures.reads.keeps.frame c.in-Known-row_at.ensures.told made in_hand told
          ∙ ap (spec_row (rows_of (g.S.Scopes.state c.args.scopes.now).frame made)) (c.in-Known.ensures.told made in_hand told) in
          let kind = c.read_row.ensures ∙ ap row_meaning here in
          other_index row c.read_row.result c.in_default.not-Array ∙ ap (index_by row) kind ∙ ap (λ r. index_by r (kind_of scene c.args.of)) here);
      here = tt;
    }
