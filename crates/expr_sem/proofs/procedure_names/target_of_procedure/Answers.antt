use Rattle.std.proofs.Common.{◌≡◌, ◌∙◌, ◌<◌, ◌≤◌, ◌^◌, ℕ, Bool, Fits, None, Some, ap, arith, if◌then◌else◌, length, refl, rules, subst, sym, true, w32}
use Rattle.m2_base.specs.Rows as rows
use Rattle.m2_base.specs.Rows.{IsBefore}
use Rattle.m2_base.specs.States.{Frame}
use Rattle.m2_base.specs.Statics.Contexts.{Scene}
use Rattle.m2_base.specs.Statics.Lookup.{entry_in}
use Rattle.m2_base.specs.declared.rows.Place.{Place}
use Rattle.m2_base.specs.declared.rows.RowMeaning.{RowMeaning}
use Rattle.m2_base.specs.declared.rows.RowMeaning.TheVariants.{Proc}
use Rattle.type_rules.specs.Scenes.{IsThere, scene_of}
use Rattle.type_rules.proofs.Reading.{Reads-refl}
use Rattle.type_rules.proofs.Searches.{can_search, found_in, absent_in, waits_at, Reads-searched, found_row}
use Rattle.block_code.specs.ProcedureNames as code
use Rattle.block_code.specs.ProcedureNames.{target_by, target_of_entry, target_of_procedure}
use Rattle.expr_sem.proofs.OwnSearch.{own_is_known}
use Rattle.expr_sem.proofs.procedure_names.target_of_procedure.Goals as goal

no_procedure : (m : RowMeaning) → ((t : Place) (k s : ℕ) → m ≡ Proc t k s → ⊥) → None ≡ target_by m
no_procedure (Proc t k s) h = absurd (h t k s refl)
no_procedure m h = refl

-- a place before one that can be asked for can be asked for
before_there : (f : Frame) (p t : Place) → p.ordinal < 2 ^ 32 → IsThere f p → IsBefore t p → IsThere f t
before_there f p t small there before =
    let scope : t.scope ≤ p.scope = omega (arith, before, small) in
    let within = there.scope in
    record {
      scope = omega (arith, scope, within);
      entered = λ same open_yet.
          let here : p.scope ≡ f.setting.fills = omega (arith, scope, within, same) in
          let l = there.entered here open_yet in
          omega (arith, before, same, here, l);
    }

-- a heading of the own definition is the module's procedure of that name
own_heading : (scene : Scene) (name : ℕ) (t : Place) (k : ℕ) → code.is_own_definition scene.block.own t.scope ≡ true → target_of_entry (entry_in scene.tables scene.block.home name) ≡ target_of_procedure scene name t k
own_heading scene name t k own = sym (ap (λ (b : Bool). if b then target_of_entry (entry_in scene.tables scene.block.home name) else Some (code.target t k)) own)

pub search-requires : goal.search-requires
search-requires g c =
    can_search _ c.args.site.now.around.now _ _ c.requires.suits.around c.requires.suits.around.home c.if-name-eq0.false

pub read_row-requires : goal.read_row-requires
read_row-requires g c =
    let s : Fits w32 c.in-Found.field-0.scope = search rules in
    let o : Fits w32 c.in-Found.field-0.ordinal = search rules in
    let row = found_row _ _ _ _ _ _ _ _ c.requires.suits.around (c.requires.suits.around.home, tt) s.fits o.fits c.in-Found.ensures in
    row.said.small

pub returns-in-Proc-clause-reads : goal.returns-in-Proc-clause-reads
returns-in-Proc-clause-reads g c = Reads-searched c.search.ensures

pub returns-in-Proc-clause-told : goal.returns-in-Proc-clause-told
returns-in-Proc-clause-told g c made in_hand told =
    ap target_by (sym c.in-Proc.is ∙ c.read_row.ensures) ∙ ap target_of_entry (sym (found_in _ _ _ _ _ made c.requires.suits.around in_hand told _ _ _ c.requires.suits.around.home c.in-Found.ensures))
    ∙ own_heading (scene_of (g.S.Scopes.state c.args.scopes.now).frame made c.args.site.now.around.now) c.args.name c.args.named.of c.args.named.number (sym c.is_own_definition.ensures ∙ c.if-not-is_own_definition.false)

pub returns-in-Proc-clause-there : goal.returns-in-Proc-clause-there
returns-in-Proc-clause-there g c =
    let s : Fits w32 c.in-Found.field-0.scope = search rules in
    let o : Fits w32 c.in-Found.field-0.ordinal = search rules in
    let row = found_row _ _ _ _ _ _ _ _ c.requires.suits.around (c.requires.suits.around.home, tt) s.fits o.fits c.in-Found.ensures in
    let fits = subst (λ (m : RowMeaning). rows.Fits (length (g.S.Scopes.state c.args.scopes.now).frame.setting.texts.names) c.in-Found.field-0 m) (sym c.read_row.ensures ∙ c.in-Proc.is) row.said.fits in
    before_there _ c.in-Found.field-0 c.in-Proc.of o.fits row.there fits.0

pub returns-in_default-clause-reads : goal.returns-in_default-clause-reads
returns-in_default-clause-reads g c = Reads-searched c.search.ensures

pub returns-in_default-clause-told : goal.returns-in_default-clause-told
returns-in_default-clause-told g c made in_hand told =
    no_procedure c.read_row.result c.in_default.not-Proc ∙ ap target_by c.read_row.ensures ∙ ap target_of_entry (sym (found_in _ _ _ _ _ made c.requires.suits.around in_hand told _ _ _ c.requires.suits.around.home c.in-Found.ensures))
    ∙ own_heading (scene_of (g.S.Scopes.state c.args.scopes.now).frame made c.args.site.now.around.now) c.args.name c.args.named.of c.args.named.number (sym c.is_own_definition.ensures ∙ c.if-not-is_own_definition.false)

pub returns-in-Absent-clause-reads : goal.returns-in-Absent-clause-reads
returns-in-Absent-clause-reads g c = Reads-searched c.search.ensures

pub returns-in-Absent-clause-told : goal.returns-in-Absent-clause-told
returns-in-Absent-clause-told g c made in_hand told =
    ap target_of_entry (sym (absent_in _ _ _ _ _ made c.requires.suits.around in_hand told _ c.requires.suits.around.home c.in-Absent.ensures))
    ∙ own_heading (scene_of (g.S.Scopes.state c.args.scopes.now).frame made c.args.site.now.around.now) c.args.name c.args.named.of c.args.named.number (sym c.is_own_definition.ensures ∙ c.if-not-is_own_definition.false)

pub returns-in-DontKnowYet-clause-reads : goal.returns-in-DontKnowYet-clause-reads
returns-in-DontKnowYet-clause-reads g c = Reads-searched c.search.ensures

pub returns-in-DontKnowYet-clause-told : goal.returns-in-DontKnowYet-clause-told
returns-in-DontKnowYet-clause-told g c made in_hand told =
    absurd (own_is_known c.in-DontKnowYet.ensures (c.if-head-site.true ∙ c.requires.suits.around.fills) (c.requires.suits.done (search rules)))

pub returns-in-DontKnowYet-2-clause-reads : goal.returns-in-DontKnowYet-2-clause-reads
returns-in-DontKnowYet-2-clause-reads g c = Reads-searched c.search.ensures

pub returns-in-DontKnowYet-2-clause-waits : goal.returns-in-DontKnowYet-2-clause-waits
returns-in-DontKnowYet-2-clause-waits g c =
    waits_at _ _ _ _ _ _ (c.requires.suits.around.home, tt) (λ e. c.if-head-site.false (e ∙ sym c.requires.suits.around.fills)) c.in-DontKnowYet.ensures

pub returns-then-not-is_own_definition-clause-reads : goal.returns-then-not-is_own_definition-clause-reads
returns-then-not-is_own_definition-clause-reads g c = Reads-refl _

pub returns-then-not-is_own_definition-clause-waits : goal.returns-then-not-is_own_definition-clause-waits
returns-then-not-is_own_definition-clause-waits g c = tt

pub returns-then-not-is_own_definition-clause-there : goal.returns-then-not-is_own_definition-clause-there
returns-then-not-is_own_definition-clause-there g c = c.requires.named

pub returns-then-not-is_own_definition-clause-told : goal.returns-then-not-is_own_definition-clause-told
returns-then-not-is_own_definition-clause-told g c made in_hand told =
    let scene = scene_of (g.S.Scopes.state c.args.scopes.now).frame made c.args.site.now.around.now in
    sym (ap (λ (b : Bool). if b then target_of_entry (entry_in scene.tables scene.block.home c.args.name) else Some (code.target c.args.named.of c.args.named.number))
    (sym c.is_own_definition.ensures ∙ c.if-not-is_own_definition.true))

pub returns-then-name-eq0-clause-reads : goal.returns-then-name-eq0-clause-reads
returns-then-name-eq0-clause-reads g c = Reads-refl _

pub returns-then-name-eq0-clause-waits : goal.returns-then-name-eq0-clause-waits
returns-then-name-eq0-clause-waits g c = tt

pub returns-then-name-eq0-clause-there : goal.returns-then-name-eq0-clause-there
returns-then-name-eq0-clause-there g c = tt

pub returns-then-name-eq0-clause-told : goal.returns-then-name-eq0-clause-told
returns-then-name-eq0-clause-told g c made in_hand told = tt
