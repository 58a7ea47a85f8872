use Rattle.std.proofs.Common.{[], Ok, Err, None, ap, sym, subst, Option}
use Rattle.m2_base.specs.Statics.Makes.{only_gives}
use Rattle.m2_base.specs.Statics.ProcedureTypes.{result_type}
use Rattle.m2_base.specs.declared.replies.Ask.TheVariants.{DontKnowYet, Known}
use Rattle.m2_base.specs.declared.trees.Qual.{Qual}
use Rattle.type_rules.specs.Sites.{context_of}
use Rattle.decl_sem.specs.Pieces.{IsOptionBehind}
use Rattle.m2_base.specs.Statics.ReadTrees.{IsReadQualOption}
use Rattle.decl_sem.specs.Stood.{is_structured_row}
use Rattle.decl_sem.proofs.Asking.{asked_waits, behind_read, first_made, making_read, tested}
use Rattle.decl_sem.proofs.Pieces.{described, making_on, value_alone}
use Rattle.decl_sem.proofs.Results.{named_result, scalar_given, some_result}
use Rattle.decl_sem.proofs.SectionLists.{type_stands}
use Rattle.decl_sem.proofs.outcomes.result_in.Goals as goal

pub returns-in_default : goal.returns-in_default
returns-in_default g c =
    let a = g.S.Scopes.state c.args.scopes.now in
    described (Ok (Known None)) (λ k. only_gives (result_type k c.args.qual)) (value_alone a c.args.made.now c.args.site.now None IsOptionBehind tt)
    (λ hand in_hand told same. ap (λ (o : Option Qual). only_gives (result_type (context_of a.frame hand c.args.site.now) o)) (sym c.in_default.is))

pub name_in-requires-clause-read : goal.name_in-requires-clause-read
name_in-requires-clause-read g c = subst (λ (o : Option Qual). IsReadQualOption c.args.site.now.texts.now.names o) c.in-Some.is c.requires.read

pub stand_in-requires-clause-making : goal.stand_in-requires-clause-making
stand_in-requires-clause-making g c =
    let of = first_made c.in-Ok.is c.in-Known.is c.name_in.ensures in
    making_on {ss = []} {ts = []} tt c.requires.making of

pub stand_in-requires-clause-there : goal.stand_in-requires-clause-there
stand_in-requires-clause-there g c =
    let of = first_made c.in-Ok.is c.in-Known.is c.name_in.ensures in
    type_stands of

pub returns-in-DontKnowYet-stand_in : goal.returns-in-DontKnowYet-stand_in
returns-in-DontKnowYet-stand_in g c =
    let of = first_made c.in-Ok.is c.in-Known.is c.name_in.ensures in
    some_result (Ok (DontKnowYet c.in-DontKnowYet-stand_in.head)) c.in-Some.is
    (named_result c.in-Some.qual (Ok (DontKnowYet c.in-DontKnowYet-stand_in.head)) c.requires.making of
    (asked_waits c.in-DontKnowYet-stand_in.head c.stand_in.ensures.reads c.in-DontKnowYet-stand_in.ensures.waits))

pub returns-in-Err-scalar_or_refuse : goal.returns-in-Err-scalar_or_refuse
returns-in-Err-scalar_or_refuse g c =
    let of = first_made c.in-Ok.is c.in-Known.is c.name_in.ensures in
    let making = making_on {ss = []} {ts = []} tt c.requires.making of in
    some_result (Err c.in-Err-scalar_or_refuse.memory) c.in-Some.is
    (named_result c.in-Some.qual (Err c.in-Err-scalar_or_refuse.memory) c.requires.making of
    (tested is_structured_row (λ b k. only_gives (scalar_given c.in-Some.qual.first.at c.in-Known.value b k)) c.in-Known.value (Err c.in-Err-scalar_or_refuse.memory) c.stand_in.result c.is_structured-structured.result making
    c.stand_in.ensures.reads c.stand_in.ensures.waits c.stand_in.ensures.told c.in-Known-stand_in.is c.is_structured-structured.ensures
    (c.in-Err-scalar_or_refuse.ensures (g.S.Scopes.state c.stand_in.new.scopes) (making_read c.stand_in.ensures.reads making) (behind_read c.stand_in.ensures.reads (type_stands of)))))

pub returns : goal.returns
returns g c =
    let of = first_made c.in-Ok.is c.in-Known.is c.name_in.ensures in
    let making = making_on {ss = []} {ts = []} tt c.requires.making of in
    some_result (Ok (Known c.in-Ok-scalar_or_refuse.value)) c.in-Some.is
    (named_result c.in-Some.qual (Ok (Known c.in-Ok-scalar_or_refuse.value)) c.requires.making of
    (tested is_structured_row (λ b k. only_gives (scalar_given c.in-Some.qual.first.at c.in-Known.value b k)) c.in-Known.value (Ok (Known c.in-Ok-scalar_or_refuse.value)) c.stand_in.result c.is_structured-structured.result making
    c.stand_in.ensures.reads c.stand_in.ensures.waits c.stand_in.ensures.told c.in-Known-stand_in.is c.is_structured-structured.ensures
    (c.in-Ok-scalar_or_refuse.ensures (g.S.Scopes.state c.stand_in.new.scopes) (making_read c.stand_in.ensures.reads making) (behind_read c.stand_in.ensures.reads (type_stands of)))))
