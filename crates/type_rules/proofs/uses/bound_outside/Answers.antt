use Rattle.std.proofs.Common.{◌≡◌, ◌∙◌, inl, refl, sym, drop, Some, None}
use Rattle.m2_base.specs.Tables.{lookup}
use Rattle.m2_base.proofs.Kept.{Works-kept, IsPrefixOf-refl}
use Rattle.type_rules.specs.Scenes.{rows_of}
use Rattle.type_rules.proofs.Binding.{Works-bound, Works-later, by_outcome, prefix_same, can_rest, outside_told, rest_of}
use Rattle.type_rules.proofs.Naming.{outside_found, outside_later, outside_none}
use Rattle.type_rules.proofs.Outcomes.{IsRowOf_kept, Suits_kept, Waits_kept, failed_known, failed_none, failed_waits, followed_asked, followed_none, followed_row, last_along, one_grows, one_longer, where_waits}
use Rattle.type_rules.proofs.uses.bound_outside.Goals as goal

pub look_up-requires : goal.look_up-requires
look_up-requires g c =
    record { suits = c.requires.suits.around; chain = can_rest _ c.args.site.now c.scopes.result.now c.scopes.ensures c.requires.suits; named = c.requires.named }

pub bind-requires : goal.bind-requires
bind-requires g c =
    record {
      suits = Suits_kept c.in-Known-Some.ensures.looked.keeps c.requires.suits.around;
      row = IsRowOf_kept c.in-Known-Some.ensures.looked.keeps (rw c.in-Known-Some.field-0-is at c.in-Known-Some.ensures.row);
    }

pub returns-in_err-refuse_later-in-Known-Some : goal.returns-in_err-refuse_later-in-Known-Some
returns-in_err-refuse_later-in-Known-Some g c =
    let r = c.from_residual.result in
    let is = c.from_residual.ensures.0 in
    let x = c.args.notes.now in
    let y = c.refuse_later.new.notes in
    record {
      works = Works-later _ _ x y c.args.at c.args.name c.in-Known-Some.entry (rw c.in-Known-Some.field-0-is at c.in-Known-Some.ensures.looked)
          c.refuse_later.ensures.answers (prefix_same _ _ c.in_err-refuse_later-in-Known-Some.ensures.kept);
      waits = failed_waits r _ is;
      asked = failed_waits r _ is;
      quiet = failed_waits r _ is;
      told = λ made in_hand told. failed_known r _ is;
      none = failed_none r x y is;
      row = failed_known r _ is;
    }

pub returns-then-stands_later : goal.returns-then-stands_later
returns-then-stands_later g c =
    let f = (g.S.Scopes.state c.args.scopes.now).frame in
    let x = c.args.notes.now in
    let y = c.refuse_later.new.notes in
    let refused = c.in_ok-refuse_later-in-Known-Some.ensures.refused in
    record {
      works = Works-later _ _ x y c.args.at c.args.name c.in-Known-Some.entry (rw c.in-Known-Some.field-0-is at c.in-Known-Some.ensures.looked)
          c.refuse_later.ensures.answers (one_grows _ _ _ refused);
      waits = tt;
      asked = tt;
      quiet = tt;
      told = outside_later f c.args.site.now c.args.name c.args.at c.in-Known-Some.entry x y
          (λ made. lookup (rows_of f made) (drop 1 c.args.site.now.around.now.chain) c.args.name)
          (outside_found f c.args.site.now c.scopes.result.now c.args.name (Some c.in-Known-Some.entry) c.scopes.ensures c.requires.suits
          (λ made in_hand told lacks. rw c.in-Known-Some.field-0-is at (c.in-Known-Some.ensures.told made in_hand told lacks)))
          (sym c.stands_later.ensures ∙ c.if-stands_later.true)
          c.in_ok-refuse_later-in-Known-Some.ensures.noted refused;
      none = one_longer _ _ _ refused;
      row = tt;
    }

pub returns-else-stands_later : goal.returns-else-stands_later
returns-else-stands_later g c =
    let keeps = c.in-Known-Some.ensures.looked.keeps in
    let b = c.bind.ensures in
    let r = c.bind.result in
    let x = c.args.notes.now in
    let y = c.bind.new.notes in
    let old = g.S.Scopes.state c.args.scopes.now in
    let mid = g.S.Scopes.state c.look_up.new.scopes in
    let new = g.S.Scopes.state c.bind.new.scopes in
    let e = c.in-Known-Some.entry in
    let outer = drop 1 c.args.site.now.around.now.chain in
    record {
      works = Works-bound old mid new x y c.args.at c.args.name e (rw c.in-Known-Some.field-0-is at c.in-Known-Some.ensures.looked) b.reads
          (by_outcome _ _ _ b.noted b.kept) b.diags;
      waits = Waits_kept r new keeps b.waits;
      asked = followed_asked r new x y c.args.at c.args.name outer e b.noted b.of;
      quiet = where_waits r (y.diags.items ≡ x.diags.items) b.diags;
      told = outside_told r old.frame mid.frame c.args.site.now c.args.name c.args.at e x y
          (λ made. lookup (rows_of old.frame made) outer c.args.name) keeps.frame
          (outside_found old.frame c.args.site.now c.scopes.result.now c.args.name (Some e) c.scopes.ensures c.requires.suits
          (λ made in_hand told lacks. rw c.in-Known-Some.field-0-is at (c.in-Known-Some.ensures.told made in_hand told lacks)))
          (sym c.stands_later.ensures ∙ c.if-stands_later.false) b.noted b.diags b.told;
      none = followed_none r mid.frame x y b.row b.diags;
      row = followed_row r old.frame mid.frame keeps.frame b.row;
    }

pub returns-in_err-refuse-in-Known-None : goal.returns-in_err-refuse-in-Known-None
returns-in_err-refuse-in-Known-None g c =
    let r = c.from_residual-in_err-refuse-in-Known-None.result in
    let is = c.from_residual-in_err-refuse-in-Known-None.ensures.0 in
    let x = c.args.notes.now in
    let y = c.refuse.new.self in
    record {
      works = Works-kept x y c.in-Known-None.ensures.looked.keeps c.refuse.ensures.answers (prefix_same _ _ c.in_err-refuse-in-Known-None.ensures.kept);
      waits = failed_waits r _ is;
      asked = failed_waits r _ is;
      quiet = failed_waits r _ is;
      told = λ made in_hand told. failed_known r _ is;
      none = failed_none r x y is;
      row = failed_known r _ is;
    }

pub returns-in_ok-refuse-in-Known-None : goal.returns-in_ok-refuse-in-Known-None
returns-in_ok-refuse-in-Known-None g c =
    let f = (g.S.Scopes.state c.args.scopes.now).frame in
    let x = c.args.notes.now in
    let y = c.refuse.new.self in
    let refused = c.in_ok-refuse-in-Known-None.ensures.noted in
    record {
      works = Works-kept x y c.in-Known-None.ensures.looked.keeps c.refuse.ensures.answers (one_grows _ _ _ refused);
      waits = tt;
      asked = tt;
      quiet = tt;
      told = outside_none f c.args.site.now c.args.name c.args.at x y
          (λ made. lookup (rows_of f made) (drop 1 c.args.site.now.around.now.chain) c.args.name)
          (outside_found f c.args.site.now c.scopes.result.now c.args.name None c.scopes.ensures c.requires.suits
          (λ made in_hand told lacks. rw c.in-Known-None.field-0-is at (c.in-Known-None.ensures.told made in_hand told lacks)))
          refused c.refuse.ensures.answers;
      none = one_longer _ _ _ refused;
      row = tt;
    }

pub returns-in-DontKnowYet : goal.returns-in-DontKnowYet
returns-in-DontKnowYet g c =
    let e = c.in-DontKnowYet.ensures in
    record {
      works = Works-kept _ _ e.looked.keeps refl (IsPrefixOf-refl _);
      waits = e.waits;
      asked = inl (last_along _ c.args.at c.args.name _ _ (rest_of c.args.site.now c.scopes.result.now c.scopes.ensures) _ e.asked);
      quiet = refl;
      told = λ made in_hand told. tt;
      none = tt;
      row = tt;
    }
