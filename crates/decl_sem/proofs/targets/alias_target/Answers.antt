use Rattle.std.proofs.Common.{Ok, Err, subst, sym}
use Rattle.m2_base.specs.Gives.{gives}
use Rattle.m2_base.specs.States.{Frame}
use Rattle.m2_base.specs.Statics.Lookup.{Entry, entry_at}
use Rattle.m2_base.specs.Statics.Targets.{entry_target}
use Rattle.m2_base.specs.Statics.Uses.{followed}
use Rattle.m2_base.specs.declared.replies.Ask.TheVariants.{Known}
use Rattle.const_eval.proofs.Analysing.{and_after, quiet}
use Rattle.type_rules.specs.Scenes.{IsRowOf, IsThere}
use Rattle.type_rules.specs.Sites.{SuitsSite}
use Rattle.decl_sem.proofs.targets.alias_target.Goals as goal

pub target_of_entry-requires : goal.target_of_entry-requires
target_of_entry-requires g c = c.in-Known.ensures.row.said.small

pub returns-in-Err : goal.returns-in-Err
returns-in-Err g c =
    let f = (g.S.Scopes.state c.args.scopes.now).frame in
    let same = c.in-Known.ensures.reads.keeps.frame in
    let first = quiet {T = Entry} c.args.notes.now c.args.site.now (Known c.in-Known.value) (λ f e. IsRowOf f e.0 e.1) (λ k. followed k.scene (entry_at k.scene c.args.place))
    c.in-Known.ensures.reads c.in-Known.ensures.waits c.in-Known.ensures.told c.in-Known.ensures.row in
    and_after (λ k. gives (followed k.scene (entry_at k.scene c.args.place))) (λ e k. entry_target k c.args.at e) (Err c.in-Err.memory) first
    (c.in-Err.ensures (g.S.Scopes.state c.aliased.new.scopes) (subst (λ (h : Frame). SuitsSite h c.args.site.now) (sym same) c.requires.suits) (subst (λ (h : Frame). IsThere h c.in-Known.value.0) (sym same) c.in-Known.ensures.row.there))

pub returns : goal.returns
returns g c =
    let f = (g.S.Scopes.state c.args.scopes.now).frame in
    let same = c.in-Known.ensures.reads.keeps.frame in
    let first = quiet {T = Entry} c.args.notes.now c.args.site.now (Known c.in-Known.value) (λ f e. IsRowOf f e.0 e.1) (λ k. followed k.scene (entry_at k.scene c.args.place))
    c.in-Known.ensures.reads c.in-Known.ensures.waits c.in-Known.ensures.told c.in-Known.ensures.row in
    and_after (λ k. gives (followed k.scene (entry_at k.scene c.args.place))) (λ e k. entry_target k c.args.at e) (Ok (Known c.in-Ok.value)) first
    (c.in-Ok.ensures (g.S.Scopes.state c.aliased.new.scopes) (subst (λ (h : Frame). SuitsSite h c.args.site.now) (sym same) c.requires.suits) (subst (λ (h : Frame). IsThere h c.in-Known.value.0) (sym same) c.in-Known.ensures.row.there))
