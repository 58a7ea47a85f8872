use Rattle.std.proofs.Common.{◌∙◌, sym, refl, ap, [], ◌∷◌, if◌then◌else◌}
use Rattle.std.proofs.lemmas.Bool.{lt-ltb}
use Rattle.m2_base.proofs.Kept.{Works-notes}
use Rattle.type_rules.specs.Sites.{chain_in_item}
use Rattle.type_rules.proofs.Binding.{can_own, prefix_same}
use Rattle.type_rules.proofs.Naming.{earlier_told, later_told, outside_item}
use Rattle.type_rules.proofs.Outcomes.{asked_along, failed_known, failed_none, failed_waits, one_grows, one_longer}
use Rattle.type_rules.proofs.uses.use_in_item.Goals as goal

pub bound_or-requires : goal.bound_or-requires
bound_or-requires g c = record { suits = c.requires.suits; chain = can_own _ c.args.site.now c.requires.suits; named = c.requires.named }

pub bound_outside-requires : goal.bound_outside-requires
bound_outside-requires g c = record { suits = c.requires.suits; named = c.requires.named }

pub returns-in-Some : goal.returns-in-Some
returns-in-Some g c =
    let r = c.bound_or.result in
    let y = c.bound_or.new.notes in
    let b = c.bound_or.ensures in
    let own = c.args.site.now.around.now.scope ∷ [] in
    let first = sym c.first.ensures ∙ c.in-Some.is in
    record {
      works = b.works;
      waits = b.waits;
      asked = asked_along r (g.S.Scopes.state c.bound_or.new.scopes) y c.args.at c.args.name own _
          (ap (chain_in_item c.args.site.now c.args.item) first ∙ ap (λ t. if t then own else []) (lt-ltb c.in-Some.named.item c.args.item c.if-named-item.true)) b.asked;
      quiet = b.quiet;
      told = earlier_told r (g.S.Scopes.state c.args.scopes.now).frame c.args.site.now c.args.name c.args.at c.args.notes.now y
          c.args.item c.in-Some.named own first c.if-named-item.true refl c.requires.named b.told;
      none = b.none;
      row = b.row;
    }

pub returns-in_err-refuse-in-Some-2 : goal.returns-in_err-refuse-in-Some-2
returns-in_err-refuse-in-Some-2 g c =
    let r = c.from_residual.result in
    let is = c.from_residual.ensures.0 in
    let x = c.args.notes.now in
    let y = c.refuse.new.self in
    record {
      works = Works-notes (g.S.Scopes.state c.args.scopes.now) x y c.refuse.ensures.answers (prefix_same _ _ c.in_err-refuse-in-Some-2.ensures.kept);
      waits = failed_waits r _ is;
      asked = failed_waits r _ is;
      quiet = failed_waits r _ is;
      told = λ made in_hand told of_item. failed_known r _ is;
      none = failed_none r x y is;
      row = failed_known r _ is;
    }

pub returns-in_ok-refuse-in-Some-2 : goal.returns-in_ok-refuse-in-Some-2
returns-in_ok-refuse-in-Some-2 g c =
    let x = c.args.notes.now in
    let y = c.refuse.new.self in
    let refused = c.in_ok-refuse-in-Some-2.ensures.noted in
    record {
      works = Works-notes (g.S.Scopes.state c.args.scopes.now) x y c.refuse.ensures.answers (one_grows _ _ _ refused);
      waits = tt;
      asked = tt;
      quiet = tt;
      told = λ made in_hand told of_item. later_told (g.S.Scopes.state c.args.scopes.now).frame c.args.site.now made c.args.item c.args.name c.args.at
          c.in-Some.named x y (sym c.first.ensures ∙ c.in-Some.is) c.if-named-item.false refused c.refuse.ensures.answers;
      none = one_longer _ _ _ refused;
      row = tt;
    }

pub returns-in-None : goal.returns-in-None
returns-in-None g c =
    let r = c.bound_outside.result in
    let y = c.bound_outside.new.notes in
    let b = c.bound_outside.ensures in
    let first = sym c.first.ensures ∙ c.in-None.is in
    record {
      works = b.works;
      waits = b.waits;
      asked = asked_along r (g.S.Scopes.state c.bound_outside.new.scopes) y c.args.at c.args.name _ _ (ap (chain_in_item c.args.site.now c.args.item) first) b.asked;
      quiet = b.quiet;
      told = outside_item r (g.S.Scopes.state c.args.scopes.now).frame c.args.site.now c.args.name c.args.at c.args.notes.now y c.args.item first b.told;
      none = b.none;
      row = b.row;
    }
