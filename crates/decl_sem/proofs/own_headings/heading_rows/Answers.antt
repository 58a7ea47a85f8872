use Rattle.std.specs.Prelude.{◌≡◌, ◌≤◌, ◌^◌, List, map, Ok, Err}
use Rattle.std.proofs.Common.{rules, subst, sym}
use Rattle.m2_base.specs.Statics.ProcedureRows.{sections_length}
use Rattle.m2_base.specs.Views.{section_view}
use Rattle.m2_base.specs.declared.replies.Ask.TheVariants.{DontKnowYet, Known}
use Rattle.m2_base.specs.declared.trees.declarations.Section.{Section}
use Rattle.decl_sem.proofs.Asking.{first_made}
use Rattle.decl_sem.proofs.OwnHeadings.{all_making, effect_given, few_own_rows, first_at, first_cells, first_of, heading_whole, result_making, sections_read}
use Rattle.decl_sem.proofs.Pieces.{failed, waiting}
use Rattle.decl_sem.proofs.own_headings.heading_rows.Goals as goal

pub heading_sizes-sizes-requires : goal.heading_sizes-sizes-requires
heading_sizes-sizes-requires g c =
    let same : c.deref.result.now ≡ c.args.heading.now.sections.items = search rules in
    subst (λ (xs : List Section). sections_length (map section_view xs) ≤ 2 ^ 31) (sym same) (few_own_rows c.args.heading.now c.requires.making)

pub sections_in-requires-clause-making : goal.sections_in-requires-clause-making
sections_in-requires-clause-making g c =
    let same : c.deref-2.result.now ≡ c.args.heading.now.sections.items = search rules in
    all_making c.args.heading.now c.deref-2.result.now same c.requires.making

pub sections_in-requires-clause-read : goal.sections_in-requires-clause-read
sections_in-requires-clause-read g c =
    let same : c.deref-2.result.now ≡ c.args.heading.now.sections.items = search rules in
    sections_read c.args.site.now.texts.now.names c.args.heading.now c.deref-2.result.now same c.requires.read.sections

pub sections_in-requires-clause-cells : goal.sections_in-requires-clause-cells
sections_in-requires-clause-cells g c = first_cells c.heading_sizes-sizes.result.cells c.new-first.ensures c.capped.ensures

pub result_in-requires-clause-making : goal.result_in-requires-clause-making
result_in-requires-clause-making g c =
    let same : c.deref-2.result.now ≡ c.args.heading.now.sections.items = search rules in
    let items : c.deref.result.now ≡ c.args.heading.now.sections.items = search rules in
    let is : c.new-first.result ≡ first_of c.args.heading.now = first_at c.args.heading.now c.deref.result.now items c.heading_sizes-sizes.ensures.cells c.capped.ensures c.new-first.ensures in
    result_making c.args.heading.now c.deref-2.result.now same c.requires.making is (first_made c.in-Ok.is c.in-Known.is c.sections_in.ensures)

pub returns-in-Err-result_in : goal.returns-in-Err-result_in
returns-in-Err-result_in g c =
    let same : c.deref-2.result.now ≡ c.args.heading.now.sections.items = search rules in
    let items : c.deref.result.now ≡ c.args.heading.now.sections.items = search rules in
    let is : c.new-first.result ≡ first_of c.args.heading.now = first_at c.args.heading.now c.deref.result.now items c.heading_sizes-sizes.ensures.cells c.capped.ensures c.new-first.ensures in
    heading_whole c.args.heading.now c.deref-2.result.now same c.requires.making is (first_made c.in-Ok.is c.in-Known.is c.sections_in.ensures) (Err c.in-Err-result_in.memory)
    (failed c.in-Err-result_in.ensures c.in-Err-result_in.memory)

pub returns-in-DontKnowYet-asked : goal.returns-in-DontKnowYet-asked
returns-in-DontKnowYet-asked g c =
    let same : c.deref-2.result.now ≡ c.args.heading.now.sections.items = search rules in
    let items : c.deref.result.now ≡ c.args.heading.now.sections.items = search rules in
    let is : c.new-first.result ≡ first_of c.args.heading.now = first_at c.args.heading.now c.deref.result.now items c.heading_sizes-sizes.ensures.cells c.capped.ensures c.new-first.ensures in
    heading_whole c.args.heading.now c.deref-2.result.now same c.requires.making is (first_made c.in-Ok.is c.in-Known.is c.sections_in.ensures) (Ok (DontKnowYet c.in-DontKnowYet-asked.head))
    (waiting (rw c.in-DontKnowYet-asked.is at c.in-Ok-result_in.ensures))

pub returns : goal.returns
returns g c =
    let same : c.deref-2.result.now ≡ c.args.heading.now.sections.items = search rules in
    let items : c.deref.result.now ≡ c.args.heading.now.sections.items = search rules in
    let is : c.new-first.result ≡ first_of c.args.heading.now = first_at c.args.heading.now c.deref.result.now items c.heading_sizes-sizes.ensures.cells c.capped.ensures c.new-first.ensures in
    heading_whole c.args.heading.now c.deref-2.result.now same c.requires.making is (first_made c.in-Ok.is c.in-Known.is c.sections_in.ensures) (Ok (Known c.into_effect.result))
    (effect_given c.args.heading.now.result c.in-Known.value c.into_effect.result c.into_effect.ensures (first_made c.in-Ok.is c.in-Known.is c.sections_in.ensures).there
    (first_made c.in-Ok-result_in.is c.in-Known-asked.is c.result_in.ensures))
