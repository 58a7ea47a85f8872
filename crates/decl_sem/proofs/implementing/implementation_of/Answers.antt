use Rattle.type_rules.proofs.Later.{Suits_read, Waits_asked}
use Rattle.type_rules.proofs.Reading.{Reads-trans, Waits_read, Reads-refl}
use Rattle.std.specs.Option.{IfSome}
use Rattle.std.proofs.Common.{◌≡◌, ◌∙◌, Bool, Option, subst, sym, if◌then◌else◌, ap}
use Rattle.m2_base.specs.declared.rows.RowMeaning.{RowMeaning}
use Rattle.m2_base.specs.States.{Frame}
use Rattle.m2_base.specs.Statics.Closing.{implemented, implements_heading, is_implemented, type_implemented}
use Rattle.m2_base.specs.Statics.Lookup.{Entry, entry_in}
use Rattle.type_rules.specs.Asks.{WhereKnown}
use Rattle.type_rules.specs.Scenes.{IsRowOf, rows_of, scene_of}
use Rattle.type_rules.proofs.Compatibles.{told_later}
use Rattle.decl_sem.specs.Implementing.{implemented_view}
use Rattle.decl_sem.proofs.OtherMeanings.{none_promised}
use Rattle.decl_sem.proofs.implementing.implementation_of.Goals as goal

pub entry_of_module-requires-clause-suits : goal.entry_of_module-requires-clause-suits
entry_of_module-requires-clause-suits g c = Suits_read c.in-Known.ensures.reads c.requires.suits

pub type_implemented-requires-clause-suits : goal.type_implemented-requires-clause-suits
type_implemented-requires-clause-suits g c = Suits_read (Reads-trans c.in-Known.ensures.reads c.in-Known-entry_of_module.ensures.reads) c.requires.suits

pub heading_implemented-requires-clause-suits : goal.heading_implemented-requires-clause-suits
heading_implemented-requires-clause-suits g c = Suits_read c.in-Known-entry_of_module-2.ensures.reads c.requires.suits

pub returns-in-DontKnowYet-entry_of_module-clause-reads : goal.returns-in-DontKnowYet-entry_of_module-clause-reads
returns-in-DontKnowYet-entry_of_module-clause-reads g c = Reads-trans c.in-Known.ensures.reads c.in-DontKnowYet-entry_of_module.ensures.reads

pub returns-in-DontKnowYet-entry_of_module-clause-waits : goal.returns-in-DontKnowYet-entry_of_module-clause-waits
returns-in-DontKnowYet-entry_of_module-clause-waits g c = Waits_read c.in-Known.ensures.reads c.in-DontKnowYet-entry_of_module.ensures.waits

pub returns-in-Known-entry_of_module-clause-waits : goal.returns-in-Known-entry_of_module-clause-waits
returns-in-Known-entry_of_module-clause-waits g c = Waits_asked c.type_implemented.result (g.S.Scopes.state c.type_implemented.new.scopes) (Reads-trans c.in-Known.ensures.reads c.in-Known-entry_of_module.ensures.reads) c.type_implemented.ensures.waits

pub returns-in-Known-entry_of_module-2-clause-reads : goal.returns-in-Known-entry_of_module-2-clause-reads
returns-in-Known-entry_of_module-2-clause-reads g c = Reads-trans c.in-Known-entry_of_module-2.ensures.reads c.heading_implemented.ensures.reads

pub returns-in-Known-entry_of_module-2-clause-waits : goal.returns-in-Known-entry_of_module-2-clause-waits
returns-in-Known-entry_of_module-2-clause-waits g c = Waits_asked c.heading_implemented.result (g.S.Scopes.state c.heading_implemented.new.scopes) c.in-Known-entry_of_module-2.ensures.reads c.heading_implemented.ensures.waits

pub returns-in-Known-entry_of_module-clause-reads : goal.returns-in-Known-entry_of_module-clause-reads
returns-in-Known-entry_of_module-clause-reads g c =
    Reads-trans (Reads-trans c.is_opaque_before.ensures.reads c.entry_of_module.ensures.reads) c.type_implemented.ensures.reads

pub type_implemented-requires-clause-row : goal.type_implemented-requires-clause-row
type_implemented-requires-clause-row g c =
    subst (λ (f : Frame). IfSome c.in-Known-entry_of_module.value (λ entry. IsRowOf f entry.0 entry.1)) (sym c.entry_of_module.ensures.reads.keeps.frame)
    c.in-Known-entry_of_module.ensures.row

pub returns-in-Known-entry_of_module-2-clause-told : goal.returns-in-Known-entry_of_module-2-clause-told
returns-in-Known-entry_of_module-2-clause-told g c made in_hand told =
    let f = (g.S.Scopes.state c.args.scopes.now).frame in
    let mid = (g.S.Scopes.state c.entry_of_module-in-Proc.new.scopes).frame in
    let a = c.args.around.now in
    let scene = scene_of f made a in
    let how = c.heading_implemented.result in
    let heading = c.in-Proc.heading in
    subst (λ (m : RowMeaning). WhereKnown how (λ i. implemented_view i ≡ implemented scene c.args.place.scope c.args.place.ordinal c.args.row.now.name m)) c.in-Proc.ensures
    (subst (λ (e : Option Entry). WhereKnown how (λ i. implemented_view i ≡ implements_heading scene heading e)) (c.in-Known-entry_of_module-2.ensures.told made in_hand told)
    (told_later f mid (λ h rows. WhereKnown how (λ i. implemented_view i ≡ implements_heading (scene_of h rows a) heading c.in-Known-entry_of_module-2.value))
    c.entry_of_module-in-Proc.ensures.reads.keeps.frame c.heading_implemented.ensures.told made in_hand told))

pub returns-in-Known-entry_of_module-clause-told : goal.returns-in-Known-entry_of_module-clause-told
returns-in-Known-entry_of_module-clause-told g c made in_hand told =
    let f = (g.S.Scopes.state c.args.scopes.now).frame in
    let first = (g.S.Scopes.state c.is_opaque_before.new.scopes).frame in
    let second = (g.S.Scopes.state c.entry_of_module.new.scopes).frame in
    let a = c.args.around.now in
    let scene = scene_of f made a in
    let how = c.type_implemented.result in
    let name = c.args.row.now.name in
    subst (λ (m : RowMeaning). WhereKnown how (λ i. implemented_view i ≡ implemented scene c.args.place.scope c.args.place.ordinal name m)) c.in-TypeName.ensures
    (subst (λ (b : Bool). WhereKnown how (λ i. implemented_view i ≡ (if b then type_implemented scene (entry_in scene.tables scene.block.home name) else is_implemented)))
    (sym c.if-not-value.false ∙ c.in-Known.ensures.told made in_hand told)
    (subst (λ (e : Option Entry). WhereKnown how (λ i. implemented_view i ≡ type_implemented scene e))
    (told_later f first (λ h rows. c.in-Known-entry_of_module.value ≡ entry_in (rows_of h rows) a.module name) c.is_opaque_before.ensures.reads.keeps.frame c.in-Known-entry_of_module.ensures.told made in_hand told)
    (told_later f second (λ h rows. WhereKnown how (λ i. implemented_view i ≡ type_implemented (scene_of h rows a) c.in-Known-entry_of_module.value))
    (Reads-trans c.is_opaque_before.ensures.reads c.entry_of_module.ensures.reads).keeps.frame c.type_implemented.ensures.told made in_hand told)))

pub returns-in_default : goal.returns-in_default
returns-in_default g c =
    record {
      reads = Reads-refl _;
      waits = tt;
      told = λ made in_hand told.
          let scene = scene_of (g.S.Scopes.state c.args.scopes.now).frame made c.args.around.now in
          none_promised scene c.args.place.scope c.args.place.ordinal c.args.row.now.name c.read_row.result c.in_default.not-TypeName c.in_default.not-Proc
          ∙ ap (implemented scene c.args.place.scope c.args.place.ordinal c.args.row.now.name) c.read_row.ensures;
    }

pub read_row-requires : goal.read_row-requires
read_row-requires g c = c.requires.row.said.small

pub is_opaque_before-requires-clause-suits : goal.is_opaque_before-requires-clause-suits
is_opaque_before-requires-clause-suits g c = c.requires.suits

pub heading_implemented-requires-clause-row : goal.heading_implemented-requires-clause-row
heading_implemented-requires-clause-row g c =
    subst (λ (f : Frame). IfSome c.in-Known-entry_of_module-2.value (λ entry. IsRowOf f entry.0 entry.1)) (sym c.entry_of_module-in-Proc.ensures.reads.keeps.frame)
    c.in-Known-entry_of_module-2.ensures.row

pub entry_of_module-requires-clause-complete : goal.entry_of_module-requires-clause-complete
entry_of_module-requires-clause-complete g c = ap (λ (f : Frame). f.closed) c.in-Known.ensures.reads.keeps.frame ∙ c.requires.complete

pub entry_of_module-requires-clause-named : goal.entry_of_module-requires-clause-named
entry_of_module-requires-clause-named g c = c.requires.named

pub entry_of_module-requires-in-Proc-clause-suits : goal.entry_of_module-requires-in-Proc-clause-suits
entry_of_module-requires-in-Proc-clause-suits g c = c.requires.suits

pub entry_of_module-requires-in-Proc-clause-complete : goal.entry_of_module-requires-in-Proc-clause-complete
entry_of_module-requires-in-Proc-clause-complete g c = c.requires.complete

pub entry_of_module-requires-in-Proc-clause-named : goal.entry_of_module-requires-in-Proc-clause-named
entry_of_module-requires-in-Proc-clause-named g c = c.requires.named

pub returns-in-DontKnowYet : goal.returns-in-DontKnowYet
returns-in-DontKnowYet g c = record { reads = c.in-DontKnowYet.ensures.reads; waits = c.in-DontKnowYet.ensures.waits; told = λ _ _ _. tt }

pub returns-in-DontKnowYet-entry_of_module-clause-told : goal.returns-in-DontKnowYet-entry_of_module-clause-told
returns-in-DontKnowYet-entry_of_module-clause-told g c made in_hand told = tt

pub returns-in-DontKnowYet-entry_of_module-2 : goal.returns-in-DontKnowYet-entry_of_module-2
returns-in-DontKnowYet-entry_of_module-2 g c = record { reads = c.in-DontKnowYet-entry_of_module-2.ensures.reads; waits = c.in-DontKnowYet-entry_of_module-2.ensures.waits; told = λ _ _ _. tt }

pub returns-then-not-value : goal.returns-then-not-value
returns-then-not-value g c =
    record {
      reads = c.in-Known.ensures.reads;
      waits = tt;
      told = λ made in_hand told.
          let scene = scene_of (g.S.Scopes.state c.args.scopes.now).frame made c.args.around.now in
          let name = c.args.row.now.name in
          sym (ap (λ (b : Bool). if b then type_implemented scene (entry_in scene.tables scene.block.home name) else is_implemented) (sym (c.in-Known.ensures.told made in_hand told) ∙ c.if-not-value.true))
          ∙ ap (implemented scene c.args.place.scope c.args.place.ordinal name) c.in-TypeName.ensures;
    }
