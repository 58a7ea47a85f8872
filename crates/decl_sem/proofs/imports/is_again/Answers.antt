use Rattle.std.proofs.Common.{◌≡◌, ◌∙◌, Bool, true, false, [], ◌∷◌, ap, refl, sym, if◌then◌else◌}
use Rattle.std.specs.Prelude.{not}
use Rattle.std.proofs.lemmas.Bool.{false≢true}
use Rattle.m2_base.specs.Rows.{is_same_place}
use Rattle.m2_base.specs.Standard.{broken}
use Rattle.m2_base.specs.Statics.Contexts.{diag}
use Rattle.m2_base.specs.Statics.Diagnostics.{declared_twice}
use Rattle.m2_base.specs.Statics.ImportedConstants.{leads_elsewhere}
use Rattle.m2_base.specs.Statics.Lookup.{entry_in}
use Rattle.m2_base.specs.declared.replies.Ask.{Ask}
use Rattle.m2_base.specs.declared.replies.Ask.TheVariants.{DontKnowYet, Known}
use Rattle.type_rules.specs.Asks.{WhereKnown}
use Rattle.type_rules.specs.Sites.{context_of}
use Rattle.decl_sem.proofs.imports.is_again.Goals as goal

pub is_hidden-requires-clause-making : goal.is_hidden-requires-clause-making
is_hidden-requires-clause-making g c = c.requires.making

pub returns-clause-waits : goal.returns-clause-waits
returns-clause-waits g c = c.is_hidden.ensures.waits

-- what isn't so is false
not_true : (b : Bool) → not b ≡ true → b ≡ false
not_true true h = absurd (false≢true h)
not_true false h = refl

-- what is known is so in other words
known_then : {T : Type 0} (answer : Ask T) (P Q : T → Type 0) → ((v : T) → P v → Q v) → WhereKnown answer P → WhereKnown answer Q
known_then (Known v) P Q f h = f v h
known_then (DontKnowYet head) P Q f h = tt

pub returns-clause-told : goal.returns-clause-told
returns-clause-told g c made in_hand told same =
    let k = context_of (g.S.Scopes.state c.args.scopes.now).frame made c.args.site.now in
    let there = diag k c.args.name.at declared_twice ∷ [] in
    let elsewhere = leads_elsewhere k.scene c.args.target (entry_in k.scene.tables k.scene.block.scope c.args.name.name) in
    let other : is_same_place c.args.target broken ≡ false = not_true (is_same_place c.args.target broken) (sym c.differ.ensures ∙ c.if-not-differ.false) in
    known_then c.is_hidden.result (λ again. again ≡ elsewhere) _
    (λ again h. ap (λ (b : Bool). if b then [] else (if elsewhere then there else [])) other ∙ ap (λ (b : Bool). if b then there else []) (sym h))
    (c.is_hidden.ensures.told made in_hand told same)
