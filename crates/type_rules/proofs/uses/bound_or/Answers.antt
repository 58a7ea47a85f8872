use Rattle.std.proofs.Common.{◌≡◌, inl, refl}
use Rattle.m2_base.specs.Diagnostics.{code_of}
use Rattle.m2_base.proofs.Kept.{Works-kept, IsPrefixOf-refl}
use Rattle.type_rules.proofs.Binding.{Works-bound, by_outcome, prefix_same}
use Rattle.type_rules.proofs.Naming.{found_told, refused_told}
use Rattle.type_rules.proofs.Outcomes.{IsRowOf_kept, Suits_kept, Waits_kept, failed_known, failed_none, failed_waits, followed_asked, followed_none, followed_row, followed_within, one_grows, one_longer, where_waits}
use Rattle.type_rules.proofs.uses.bound_or.Goals as goal

pub look_up-requires : goal.look_up-requires
look_up-requires g c = record { suits = c.requires.suits.around; chain = c.requires.chain; named = c.requires.named }

pub bind-requires : goal.bind-requires
bind-requires g c =
    record {
      suits = Suits_kept c.in-Known-Some.ensures.looked.keeps c.requires.suits.around;
      row = IsRowOf_kept c.in-Known-Some.ensures.looked.keeps (rw c.in-Known-Some.field-0-is at c.in-Known-Some.ensures.row);
    }

pub returns-in-Known-Some : goal.returns-in-Known-Some
returns-in-Known-Some g c =
    let keeps = c.in-Known-Some.ensures.looked.keeps in
    let b = c.bind.ensures in
    let r = c.bind.result in
    let x = c.args.notes.now in
    let y = c.bind.new.notes in
    let old = g.S.Scopes.state c.args.scopes.now in
    let mid = g.S.Scopes.state c.look_up.new.scopes in
    let new = g.S.Scopes.state c.bind.new.scopes in
    let chain = c.args.chain.now in
    let e = c.in-Known-Some.entry in
    record {
      works = Works-bound old mid new x y c.args.at c.args.name e (rw c.in-Known-Some.field-0-is at c.in-Known-Some.ensures.looked) b.reads (by_outcome _ _ _ b.noted b.kept) b.diags;
      waits = Waits_kept r new keeps b.waits;
      asked = followed_asked r new x y c.args.at c.args.name chain e b.noted b.of;
      quiet = where_waits r (y.diags.items ≡ x.diags.items) b.diags;
      told = found_told r old.frame mid.frame c.args.site.now chain (code_of c.args.diagnostic) c.args.name c.args.at e x y keeps.frame
          (λ made in_hand told lacks. rw c.in-Known-Some.field-0-is at (c.in-Known-Some.ensures.told made in_hand told lacks)) b.noted b.diags b.told;
      none = followed_none r mid.frame x y b.row b.diags;
      row = followed_row r old.frame mid.frame keeps.frame b.row;
      within = followed_within r chain e.0 (rw c.in-Known-Some.field-0-is at c.in-Known-Some.ensures.within) b.upto;
    }

pub returns-in_err-refuse-in-Known-None : goal.returns-in_err-refuse-in-Known-None
returns-in_err-refuse-in-Known-None g c =
    let r = c.from_residual.result in
    let is = c.from_residual.ensures.0 in
    let x = c.args.notes.now in
    let y = c.refuse.new.self in
    record {
      works = Works-kept x y c.in-Known-None.ensures.looked.keeps c.refuse.ensures.answers (prefix_same _ _ c.in_err-refuse-in-Known-None.ensures.kept);
      waits = failed_waits r _ is;
      asked = failed_waits r _ is;
      quiet = failed_waits r _ is;
      told = λ made in_hand told lacks. failed_known r _ is;
      none = failed_none r x y is;
      row = failed_known r _ is;
      within = failed_known r _ is;
    }

pub returns-in_ok-refuse-in-Known-None : goal.returns-in_ok-refuse-in-Known-None
returns-in_ok-refuse-in-Known-None g c =
    let refused = c.in_ok-refuse-in-Known-None.ensures.noted in
    record {
      works = Works-kept _ _ c.in-Known-None.ensures.looked.keeps c.refuse.ensures.answers (one_grows _ _ _ refused);
      waits = tt;
      asked = tt;
      quiet = tt;
      told = refused_told (g.S.Scopes.state c.args.scopes.now).frame c.args.site.now c.args.chain.now (code_of c.args.diagnostic) c.args.name c.args.at c.args.notes.now c.refuse.new.self
          (λ made in_hand told lacks. rw c.in-Known-None.field-0-is at (c.in-Known-None.ensures.told made in_hand told lacks)) refused c.refuse.ensures.answers;
      none = one_longer _ _ _ refused;
      row = tt;
      within = tt;
    }

pub returns-in-DontKnowYet : goal.returns-in-DontKnowYet
returns-in-DontKnowYet g c =
    let e = c.in-DontKnowYet.ensures in
    record {
      works = Works-kept _ _ e.looked.keeps refl (IsPrefixOf-refl _);
      waits = e.waits;
      asked = inl e.asked;
      quiet = refl;
      told = λ made in_hand told lacks. tt;
      none = tt;
      row = tt;
      within = tt;
    }
