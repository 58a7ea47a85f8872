use Rattle.std.proofs.Common.{◌∙◌, ap, refl, sym, subst, ◌≤◌, ◌∷◌, []}
use Rattle.std.specs.Option.{IfSome}
use Rattle.m2_base.proofs.Kept.{Works-refl}
use Rattle.type_rules.specs.Sites.{chain_by_item, chain_of}
use Rattle.type_rules.proofs.Binding.{standard_told, standard_row, can_before, can_whole}
use Rattle.type_rules.proofs.Naming.{item_told, plain_chain, whole_told, within_told}
use Rattle.type_rules.proofs.Outcomes.{asked_along, within_none, within_scope}
use Rattle.type_rules.proofs.uses.use_name.Goals as goal

pub returns-then-is_standard : goal.returns-then-is_standard
returns-then-is_standard g c =
    record {
      works = Works-refl _ _;
      waits = tt;
      asked = tt;
      quiet = tt;
      told = standard_told (g.S.Scopes.state c.args.scopes.now).frame c.args.site.now c.args.name c.args.at c.args.within c.standard_entry.result c.args.notes.now c.requires.suits c.in_default.is
          (sym c.is_standard.ensures ∙ c.if-is_standard.true) c.standard_entry.ensures.place c.standard_entry.ensures.row;
      none = refl;
      row = standard_row (g.S.Scopes.state c.args.scopes.now).frame c.args.site.now.around.now c.args.name c.standard_entry.result c.requires.suits.around c.standard_entry.ensures.place c.standard_entry.ensures.row;
      within = subst (λ w. IfSome w (λ scope. c.standard_entry.result.0.scope ≤ scope)) (sym c.in_default.is) tt;
    }

pub bound_or-requires : goal.bound_or-requires
bound_or-requires g c = record { suits = c.requires.suits; chain = can_before _ c.in-Some.scope (rw c.in-Some.is at c.requires.within); named = c.requires.named }

pub bound_or-requires-in-None : goal.bound_or-requires-in-None
bound_or-requires-in-None g c =
    record { suits = c.requires.suits; chain = can_whole _ c.args.site.now _ c.scopes-chain.ensures c.in-None.is c.requires.suits; named = c.requires.named }

pub use_in_item-requires : goal.use_in_item-requires
use_in_item-requires g c = record { suits = c.requires.suits; named = c.requires.named }

pub returns-in-Some : goal.returns-in-Some
returns-in-Some g c =
    let r = c.bound_or.result in
    let y = c.bound_or.new.notes in
    let b = c.bound_or.ensures in
    let s = c.args.site.now in
    record {
      works = b.works;
      waits = b.waits;
      asked = asked_along r (g.S.Scopes.state c.bound_or.new.scopes) y c.args.at c.args.name (c.in-Some.scope ∷ []) _ (ap (λ w. chain_of s w c.args.name) c.in-Some.is) b.asked;
      quiet = b.quiet;
      told = within_told r (g.S.Scopes.state c.args.scopes.now).frame s c.args.name c.args.at c.args.notes.now y c.args.within c.in-Some.scope c.in-Some.is
          (rw c.in-Some.is at c.requires.within) b.told;
      none = b.none;
      row = b.row;
      within = within_scope r c.args.within c.in-Some.scope c.in-Some.is b.within;
    }

pub returns-in-Some-item : goal.returns-in-Some-item
returns-in-Some-item g c =
    let r = c.use_in_item.result in
    let y = c.use_in_item.new.notes in
    let b = c.use_in_item.ensures in
    let s = c.args.site.now in
    let other = sym c.is_standard.ensures ∙ c.if-is_standard.false in
    record {
      works = b.works;
      waits = b.waits;
      asked = asked_along r (g.S.Scopes.state c.use_in_item.new.scopes) y c.args.at c.args.name _ _
          (plain_chain s c.args.within c.args.name c.in_default.is other ∙ ap (chain_by_item s c.args.name) c.in-Some-item.is) b.asked;
      quiet = b.quiet;
      told = item_told r (g.S.Scopes.state c.args.scopes.now).frame s c.args.name c.args.at c.args.notes.now y c.args.within c.in-Some-item.item c.in_default.is other c.in-Some-item.is b.told;
      none = b.none;
      row = b.row;
      within = within_none r c.args.within c.in_default.is;
    }

pub returns-in-None : goal.returns-in-None
returns-in-None g c =
    let r = c.bound_or-in-None.result in
    let y = c.bound_or-in-None.new.notes in
    let b = c.bound_or-in-None.ensures in
    let s = c.args.site.now in
    let xs = c.scopes-chain.result.now in
    let other = sym c.is_standard.ensures ∙ c.if-is_standard.false in
    record {
      works = b.works;
      waits = b.waits;
      asked = asked_along r (g.S.Scopes.state c.bound_or-in-None.new.scopes) y c.args.at c.args.name xs _
          (plain_chain s c.args.within c.args.name c.in_default.is other ∙ ap (chain_by_item s c.args.name) c.in-None.is ∙ sym c.scopes-chain.ensures) b.asked;
      quiet = b.quiet;
      told = whole_told r (g.S.Scopes.state c.args.scopes.now).frame s c.args.name c.args.at c.args.notes.now y c.args.within xs c.in_default.is other c.in-None.is c.scopes-chain.ensures c.requires.suits b.told;
      none = b.none;
      row = b.row;
      within = within_none r c.args.within c.in_default.is;
    }
