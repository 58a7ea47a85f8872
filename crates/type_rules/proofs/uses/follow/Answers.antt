use Rattle.std.proofs.Common.{◌≡◌, ◌∙◌, ap, refl, sym, arith, rules, w32, Fits}
use Rattle.m2_base.specs.Statics.Contexts.{Scene, row_at}
use Rattle.m2_base.specs.Statics.Lookup.{Entry}
use Rattle.m2_base.specs.Statics.Uses.{followed, followed_by}
use Rattle.m2_base.specs.Rows.{row_meaning}
use Rattle.m2_base.specs.declared.rows.Place.{Place}
use Rattle.m2_base.specs.declared.rows.Row.{Row}
use Rattle.m2_base.specs.declared.rows.RowMeaning.{RowMeaning}
use Rattle.m2_base.specs.declared.rows.RowMeaning.TheVariants.{Alias}
use Rattle.type_rules.specs.Scenes.{scene_of}
use Rattle.type_rules.proofs.Reading.{Reads-refl}
use Rattle.type_rules.proofs.Later.{IsThere_before}
use Rattle.type_rules.proofs.uses.follow.Goals as goal

alias_told : (scene : Scene) (e : Entry) (p : Place) (r : Row) → row_meaning e.1 ≡ Alias p → r ≡ row_at scene.tables p → (p, r) ≡ followed scene e
alias_told scene e p r is here = ap (λ (q : Row). (p, q)) here ∙ sym (ap (followed_by scene e) is)

other_told : (scene : Scene) (e : Entry) (m : RowMeaning) → ((p : Place) → m ≡ Alias p → ⊥) → e ≡ followed_by scene e m
other_told scene e (Alias p) other = absurd (other p refl)
other_told scene e m other = refl

pub read_row-requires : goal.read_row-requires
read_row-requires g c = c.requires.row.said.small

pub returns-in_default : goal.returns-in_default
returns-in_default g c =
    record {
      reads = Reads-refl _;
      waits = tt;
      told = λ made in_hand told. (let scene = scene_of (g.S.Scopes.state c.args.scopes.now).frame made c.args.around.now in
          other_told scene c.args.entry c.read_row.result c.in_default.not-Alias ∙ ap (followed_by scene c.args.entry) c.read_row.ensures);
      row = c.requires.row;
      upto = omega arith;
      of = tt;
    }

pub row_at-requires : goal.row_at-requires
row_at-requires g c =
    let o : Fits w32 c.args.entry.0.ordinal = search rules in
    record { suits = c.requires.suits; there = IsThere_before _ c.args.entry.0 c.in-Alias.target o.fits c.requires.row.there (rw (sym c.read_row.ensures ∙ c.in-Alias.is) at c.requires.row.said.fits) }

pub returns-in-DontKnowYet : goal.returns-in-DontKnowYet
returns-in-DontKnowYet g c =
    record {
      reads = c.in-DontKnowYet.ensures.reads;
      waits = c.in-DontKnowYet.ensures.waits;
      told = λ made in_hand told. tt;
      row = tt;
      upto = tt;
      of = (c.in-Alias.target, sym c.read_row.ensures ∙ c.in-Alias.is, c.in-DontKnowYet.ensures.of, c.in-DontKnowYet.ensures.stops);
    }

pub returns-in-Known : goal.returns-in-Known
returns-in-Known g c =
    record {
      reads = c.in-Known.ensures.reads;
      waits = tt;
      told = λ made in_hand told. alias_told (scene_of (g.S.Scopes.state c.args.scopes.now).frame made c.args.around.now) c.args.entry c.in-Alias.target c.in-Known.value
          (sym c.read_row.ensures ∙ c.in-Alias.is) (c.in-Known.ensures.told made in_hand told);
      row = c.in-Known.ensures.row;
      upto = (let o : Fits w32 c.args.entry.0.ordinal = search rules in
          let small = o.fits in
          let before = (rw (sym c.read_row.ensures ∙ c.in-Alias.is) at c.requires.row.said.fits) in
          omega (arith, small, before));
      of = tt;
    }
