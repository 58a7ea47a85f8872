use Rattle.std.proofs.Common.{◌≡◌, ◌∙◌, ℕ, Bool, List, Ok, Option, None, Result, Some, ap, false, true, refl, subst, sym, if◌then◌else◌}
use Rattle.std.specs.Option.{IfSome}
use Rattle.std.specs.Prelude.{◌||◌}
use Rattle.m2_base.specs.Gives.{gives}
use Rattle.m2_base.specs.States.{Frame, State}
use Rattle.m2_base.specs.Statics.Assignable.{taken_into}
use Rattle.m2_base.specs.Statics.Compatible.{is_compatible, taken_beside}
use Rattle.m2_base.specs.Statics.Contexts.{Context, refuse}
use Rattle.m2_base.specs.Statics.Diagnostics.{wrong_argument}
use Rattle.m2_base.specs.Statics.Operands.{is_bad, operand_type}
use Rattle.m2_base.specs.Statics.Sets.{set_base}
use Rattle.m2_base.specs.declared.memory.Memory.{Memory}
use Rattle.m2_base.specs.declared.notes.Notes.{Notes}
use Rattle.m2_base.specs.declared.operands.Operand.{Operand}
use Rattle.m2_base.specs.declared.operands.Operand.TheVariants.{Computed}
use Rattle.m2_base.specs.declared.replies.Ask.{Ask}
use Rattle.m2_base.specs.declared.replies.Ask.TheVariants.{Known}
use Rattle.m2_base.specs.declared.rows.Place.{Place}
use Rattle.m2_base.specs.declared.sites.Site.{Site}
use Rattle.const_eval.specs.Sites.{IsOperand}
use Rattle.const_eval.proofs.TypesThere.{type_there}
use Rattle.const_eval.proofs.Later.{SuitsSite_read}
use Rattle.type_rules.specs.Asks.{Reads}
use Rattle.type_rules.specs.Scenes.{IsThere, WhereTold}
use Rattle.type_rules.specs.Sites.{context_of}
use Rattle.type_rules.proofs.Later.{IsThere_read, Suits_read}
use Rattle.type_rules.proofs.Reading.{Reads-trans}
use Rattle.block_code.specs.Coded as code
use Rattle.block_code.specs.Coded.{in_error, taken}
use Rattle.expr_sem.specs.Codings.{Coding, IsCoded, coded_in}
use Rattle.expr_sem.specs.SetMembers.{member_by}
use Rattle.block_code.specs.StandardProcedures.{beside, element_of_base, set_member}
use Rattle.block_code.specs.Values.{as_value, in_range}
use Rattle.expr_sem.specs.declared.coded.Coded.{Coded}
use Rattle.expr_sem.specs.declared.fragments.Node.{Node}
use Rattle.expr_sem.proofs.Following.{by_coding, by_question, followed_by, then_waits}
use Rattle.expr_sem.proofs.Making.{after_question}
use Rattle.expr_sem.proofs.Operating.{coding_after, described, unknown, unmade, value_alone}
use Rattle.expr_sem.proofs.Selecting.{error_alone, stays_read}
use Rattle.expr_sem.proofs.set_members.set_member.Goals as goal

-- a member by whether it is compatible
by_compatible : (c : Context) (at : ℕ) (base : Place) (v : code.Coded) (o other : Operand) (b : Bool)
    → member_by c at base v (if b then Some (o, other) else None) ≡ (if b then in_range c at base (taken o v) else refuse c at wrong_argument in_error)
by_compatible c at base v o other true = refl
by_compatible c at base v o other false = refl

-- a value beside a set, by the base of the set's type
beside_set : {a b d : State} {l m n : Notes} {nodes : List Node} {s : Site} {v : Coded} (answer : Result (Ask Coded) Memory) (x : code.Coded) (at : ℕ) (e : code.Coded) (t base : Place)
    → Coding a a l m nodes nodes s (Ok (Known v)) IsCoded coded_in (λ k. as_value k at e) → (is_bad x.operand || is_bad v.operand) ≡ false → t ≡ operand_type x.operand
    → Reads a b → WhereTold a.frame (λ made. base ≡ set_base (context_of a.frame made s) t) → Coding b d m n nodes nodes s answer IsCoded coded_in (λ k. element_of_base k at base (coded_in nodes v))
    → Coding a d l n nodes nodes s answer IsCoded coded_in (λ k. set_member k x at e)
beside_set {a} {nodes = nodes} {s} {v} answer x at e t base first good typed reads is element =
    coding_after (λ k. as_value k at e) (λ v k. beside x (element_of_base k at (set_base k (operand_type x.operand))) v) answer first
    (described answer
    (after_question {h = λ k. element_of_base k at (set_base k t) (coded_in nodes v)} answer reads element (λ made in_hand told. ap (λ (t : Place). element_of_base (context_of a.frame made s) at t (coded_in nodes v)) (is made in_hand told)))
    (λ k. ap (λ (t : Place). element_of_base k at (set_base k t) (coded_in nodes v)) typed
    ∙ ap (λ (b : Bool). if b then gives in_error else element_of_base k at (set_base k (operand_type x.operand)) (coded_in nodes v)) (sym good)))

pub returns-in-DontKnowYet : goal.returns-in-DontKnowYet
returns-in-DontKnowYet g c nodes h = unknown (rw c.in-DontKnowYet.is at c.in-Ok.ensures (g.S.Scopes.state c.args.scopes.now) nodes h)

pub returns-in-Err : goal.returns-in-Err
returns-in-Err g c nodes h = unmade (c.in-Err.ensures (g.S.Scopes.state c.args.scopes.now) nodes h) _

pub returns-then-either_bad : goal.returns-then-either_bad
returns-then-either_bad g c nodes h =
    let one = rw c.in-Known.is at c.in-Ok.ensures (g.S.Scopes.state c.args.scopes.now) nodes h in
    coding_after (λ k. as_value k c.args.e.at (coded_in nodes c.args.e.coded)) (λ v k. beside (coded_in nodes c.args.x) (element_of_base k c.args.e.at (set_base k (operand_type c.args.x.operand))) v) (Ok (Known c.in_error.result)) one
    (error_alone _ _ nodes _ c.in_error.result _ c.in_error.ensures.told c.in_error.ensures.there
    (λ k. ap (λ (b : Bool). if b then gives in_error else element_of_base k c.args.e.at (set_base k (operand_type c.args.x.operand)) (coded_in nodes c.in-Known.value)) (sym c.if-either_bad.true ∙ c.either_bad.ensures)))

pub set_base-requires-clause-of : goal.set_base-requires-clause-of
set_base-requires-clause-of g c =
    subst (λ (t : Place). IsThere (g.S.Scopes.state c.args.scopes.now).frame t) (sym c.operand_type.ensures) (type_there c.requires.suits.around c.args.x.operand c.requires.x)

pub returns-in-DontKnowYet-set_base : goal.returns-in-DontKnowYet-set_base
returns-in-DontKnowYet-set_base g c nodes h =
    then_waits (by_coding (c.in-Ok.ensures (g.S.Scopes.state c.args.scopes.now) nodes h)) c.set_base.ensures.reads c.in-DontKnowYet-set_base.ensures.waits

pub is_broken-requires-clause-suits : goal.is_broken-requires-clause-suits
is_broken-requires-clause-suits g c = Suits_read c.set_base.ensures.reads c.requires.suits.around

pub is_broken-requires-clause-there : goal.is_broken-requires-clause-there
is_broken-requires-clause-there g c = IsThere_read c.set_base.ensures.reads c.in-Known-set_base.ensures.there

pub returns-in-DontKnowYet-is_broken : goal.returns-in-DontKnowYet-is_broken
returns-in-DontKnowYet-is_broken g c nodes h =
    then_waits (followed_by (by_coding (c.in-Ok.ensures (g.S.Scopes.state c.args.scopes.now) nodes h)) (by_question _ nodes c.set_base.ensures.reads)) c.is_broken.ensures.reads c.in-DontKnowYet-is_broken.ensures.waits

pub returns-then-value : goal.returns-then-value
returns-then-value g c nodes h =
    let one = rw c.in-Known.is at c.in-Ok.ensures (g.S.Scopes.state c.args.scopes.now) nodes h in
    let v = coded_in nodes c.in-Known.value in
    let base = c.in-Known-set_base.value in
    beside_set (Ok (Known c.in_error-then-value.result)) (coded_in nodes c.args.x) c.args.e.at (coded_in nodes c.args.e.coded) c.operand_type.result base one (sym c.either_bad.ensures ∙ c.if-either_bad.false) c.operand_type.ensures
    c.set_base.ensures.reads c.in-Known-set_base.ensures.told
    (after_question _ c.is_broken.ensures.reads
    (value_alone _ _ nodes c.args.site.now c.in_error-then-value.result IsCoded coded_in (λ k. in_error) (c.in_error-then-value.ensures.there _ nodes) (λ k. c.in_error-then-value.ensures.told nodes))
    (λ made in_hand told. let k = context_of (g.S.Scopes.state c.set_base.new.scopes).frame made c.args.site.now in
    ap (λ (b : Bool). if b then gives in_error else (if is_compatible k.scene c.in-Known.value.operand (Computed base) then in_range k c.args.e.at base (taken (taken_into k.source k.scene base c.in-Known.value.operand) v) else refuse k c.args.e.at wrong_argument in_error))
    (sym c.if-value.true ∙ c.in-Known-is_broken.ensures.told made in_hand told)))

pub compatible_pair-requires-clause-suits : goal.compatible_pair-requires-clause-suits
compatible_pair-requires-clause-suits g c = SuitsSite_read (Reads-trans c.set_base.ensures.reads c.is_broken.ensures.reads) c.requires.suits

pub compatible_pair-requires-clause-x : goal.compatible_pair-requires-clause-x
compatible_pair-requires-clause-x g c =
    stays_read (λ (f : Frame). IsOperand f c.in-Known.value.operand) (Reads-trans c.set_base.ensures.reads c.is_broken.ensures.reads)
    (rw c.in-Known.is at c.in-Ok.ensures (g.S.Scopes.state c.args.scopes.now) c.requires.e.0 c.requires.e.1).there.operand

pub compatible_pair-requires-clause-y : goal.compatible_pair-requires-clause-y
compatible_pair-requires-clause-y g c = IsThere_read (Reads-trans c.set_base.ensures.reads c.is_broken.ensures.reads) c.in-Known-set_base.ensures.there

pub returns-in-DontKnowYet-compatible_pair : goal.returns-in-DontKnowYet-compatible_pair
returns-in-DontKnowYet-compatible_pair g c nodes h =
    then_waits (followed_by (by_coding (c.in-Ok.ensures (g.S.Scopes.state c.args.scopes.now) nodes h)) (by_question _ nodes (Reads-trans c.set_base.ensures.reads c.is_broken.ensures.reads))) c.compatible_pair.ensures.reads c.in-DontKnowYet-compatible_pair.ensures.waits

pub in_range-requires-clause-suits : goal.in_range-requires-clause-suits
in_range-requires-clause-suits g c = SuitsSite_read (Reads-trans (Reads-trans c.set_base.ensures.reads c.is_broken.ensures.reads) c.compatible_pair.ensures.reads) c.requires.suits

pub in_range-requires-clause-to : goal.in_range-requires-clause-to
in_range-requires-clause-to g c = IsThere_read (Reads-trans (Reads-trans c.set_base.ensures.reads c.is_broken.ensures.reads) c.compatible_pair.ensures.reads) c.in-Known-set_base.ensures.there

pub returns-in-Some : goal.returns-in-Some
returns-in-Some g c nodes h =
    let one = rw c.in-Known.is at c.in-Ok.ensures (g.S.Scopes.state c.args.scopes.now) nodes h in
    let o = c.in-Known.value.operand in
    let v = coded_in nodes c.in-Known.value in
    let base = c.in-Known-set_base.value in
    let mid = (g.S.Scopes.state c.compatible_pair.new.scopes).frame in
    let second = c.compatible_pair.ensures.reads in
    let there =
    subst (λ (o : Option (Operand × Operand)). IfSome o (λ pair. IsOperand mid pair.0 × IsOperand mid pair.1)) c.in-Some.is
    (stays_read (λ (f : Frame). IfSome c.in-Known-compatible_pair.value (λ pair. IsOperand f pair.0 × IsOperand f pair.1)) second c.in-Known-compatible_pair.ensures.there) in
    let coded = stays_read (λ (f : Frame). IsCoded f nodes c.in-Known.value) (Reads-trans (Reads-trans c.set_base.ensures.reads c.is_broken.ensures.reads) second) one.there in
    beside_set c.in_range.result (coded_in nodes c.args.x) c.args.e.at (coded_in nodes c.args.e.coded) c.operand_type.result base one (sym c.either_bad.ensures ∙ c.if-either_bad.false) c.operand_type.ensures
    c.set_base.ensures.reads c.in-Known-set_base.ensures.told
    (after_question c.in_range.result c.is_broken.ensures.reads
    (after_question {h = λ k. if is_compatible k.scene o (Computed base) then in_range k c.args.e.at base (taken (taken_into k.source k.scene base o) v) else refuse k c.args.e.at wrong_argument in_error} c.in_range.result c.compatible_pair.ensures.reads (described c.in_range.result (c.in_range.ensures nodes (c.taken-coded.ensures.there mid nodes there.0 coded)) (λ k. ap (λ (y : code.Coded). in_range k c.args.e.at base y) (c.taken-coded.ensures.told nodes)))
    (λ made in_hand told. let k = context_of (g.S.Scopes.state c.is_broken.new.scopes).frame made c.args.site.now in
    ap (λ (o : Option (Operand × Operand)). member_by k c.args.e.at base v o) (sym c.in-Some.is ∙ c.in-Known-compatible_pair.ensures.told made in_hand told)
    ∙ by_compatible k c.args.e.at base v (taken_beside k.source k.scene o (Computed base)) (taken_beside k.source k.scene (Computed base) o) (is_compatible k.scene o (Computed base))))
    (λ made in_hand told. let k = context_of (g.S.Scopes.state c.set_base.new.scopes).frame made c.args.site.now in
    ap (λ (b : Bool). if b then gives in_error else (if is_compatible k.scene o (Computed base) then in_range k c.args.e.at base (taken (taken_into k.source k.scene base o) v) else refuse k c.args.e.at wrong_argument in_error))
    (sym c.if-value.false ∙ c.in-Known-is_broken.ensures.told made in_hand told)))

pub returns-in-None : goal.returns-in-None
returns-in-None g c nodes h =
    let one = rw c.in-Known.is at c.in-Ok.ensures (g.S.Scopes.state c.args.scopes.now) nodes h in
    let o = c.in-Known.value.operand in
    let v = coded_in nodes c.in-Known.value in
    let base = c.in-Known-set_base.value in
    beside_set c.refused.result (coded_in nodes c.args.x) c.args.e.at (coded_in nodes c.args.e.coded) c.operand_type.result base one (sym c.either_bad.ensures ∙ c.if-either_bad.false) c.operand_type.ensures
    c.set_base.ensures.reads c.in-Known-set_base.ensures.told
    (after_question c.refused.result c.is_broken.ensures.reads
    (after_question {h = λ k. if is_compatible k.scene o (Computed base) then in_range k c.args.e.at base (taken (taken_into k.source k.scene base o) v) else refuse k c.args.e.at wrong_argument in_error} c.refused.result c.compatible_pair.ensures.reads (c.refused.ensures (g.S.Scopes.state c.compatible_pair.new.scopes) nodes)
    (λ made in_hand told. let k = context_of (g.S.Scopes.state c.is_broken.new.scopes).frame made c.args.site.now in
    ap (λ (o : Option (Operand × Operand)). member_by k c.args.e.at base v o) (sym c.in-None.is ∙ c.in-Known-compatible_pair.ensures.told made in_hand told)
    ∙ by_compatible k c.args.e.at base v (taken_beside k.source k.scene o (Computed base)) (taken_beside k.source k.scene (Computed base) o) (is_compatible k.scene o (Computed base))))
    (λ made in_hand told. let k = context_of (g.S.Scopes.state c.set_base.new.scopes).frame made c.args.site.now in
    ap (λ (b : Bool). if b then gives in_error else (if is_compatible k.scene o (Computed base) then in_range k c.args.e.at base (taken (taken_into k.source k.scene base o) v) else refuse k c.args.e.at wrong_argument in_error))
    (sym c.if-value.false ∙ c.in-Known-is_broken.ensures.told made in_hand told)))
