use Rattle.std.proofs.Common.{◌++◌, map, ap, ◌∙◌}
use Rattle.std.specs.Prelude.{flat_map, option_map}
use Rattle.m2_base.specs.Statics.Items.{heading_items, import_items, decl_item}
use Rattle.m2_base.specs.Views.{decl_view, heading_view, import_view}
use Rattle.decl_sem.specs.Progress.{with_items}
use Rattle.decl_sem.proofs.ManyItems.{all_counted, all_three, finished_layout}
use Rattle.decl_sem.proofs.layouts.layout.Goals as goal

pub finish-requires-clause-names : goal.finish-requires-clause-names
finish-requires-clause-names c =
    let s = c.args.stream.now in
    let heading = heading_items (option_map heading_view s.heading) in
    let imports = flat_map import_items (map import_view s.imports.items) in
    let declarations = map decl_item (map decl_view s.decls.items) in
    (all_counted ((heading ++ imports) ++ declarations) c.add_declarations.new.self
    (all_three heading imports declarations c.add_heading.new.self c.add_imports.new.self c.add_declarations.new.self
    (c.in_ok-add_heading.ensures ∙ ap (λ p. with_items p heading) c.new-progress.ensures)
    (c.in_ok-add_imports.ensures ∙ ap (λ is. with_items c.add_heading.new.self (flat_map import_items (map import_view is))) c.deref.ensures.value)
    (c.in_ok-add_declarations.ensures ∙ ap (λ ds. with_items c.add_imports.new.self (map decl_item (map decl_view ds))) c.deref-2.ensures.value))).names

pub finish-requires-clause-firsts : goal.finish-requires-clause-firsts
finish-requires-clause-firsts c =
    let s = c.args.stream.now in
    let heading = heading_items (option_map heading_view s.heading) in
    let imports = flat_map import_items (map import_view s.imports.items) in
    let declarations = map decl_item (map decl_view s.decls.items) in
    (all_counted ((heading ++ imports) ++ declarations) c.add_declarations.new.self
    (all_three heading imports declarations c.add_heading.new.self c.add_imports.new.self c.add_declarations.new.self
    (c.in_ok-add_heading.ensures ∙ ap (λ p. with_items p heading) c.new-progress.ensures)
    (c.in_ok-add_imports.ensures ∙ ap (λ is. with_items c.add_heading.new.self (flat_map import_items (map import_view is))) c.deref.ensures.value)
    (c.in_ok-add_declarations.ensures ∙ ap (λ ds. with_items c.add_imports.new.self (map decl_item (map decl_view ds))) c.deref-2.ensures.value))).firsts

pub returns : goal.returns
returns c =
    let s = c.args.stream.now in
    let heading = heading_items (option_map heading_view s.heading) in
    let imports = flat_map import_items (map import_view s.imports.items) in
    let declarations = map decl_item (map decl_view s.decls.items) in
    let one = c.in_ok-add_heading.ensures in
    let two = c.in_ok-add_imports.ensures in
    let three = c.in_ok-add_declarations.ensures in
    finished_layout c.finish.result ((heading ++ imports) ++ declarations) c.add_declarations.new.self
    (all_three heading imports declarations c.add_heading.new.self c.add_imports.new.self c.add_declarations.new.self
    (one ∙ ap (λ p. with_items p heading) c.new-progress.ensures)
    (two ∙ ap (λ is. with_items c.add_heading.new.self (flat_map import_items (map import_view is))) c.deref.ensures.value)
    (three ∙ ap (λ ds. with_items c.add_imports.new.self (map decl_item (map decl_view ds))) c.deref-2.ensures.value))
    c.finish.ensures.names c.finish.ensures.firsts c.finish.ensures.brought
