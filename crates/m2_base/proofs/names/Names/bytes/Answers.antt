use Rattle.std.proofs.Common.{◌≡◌, ◌∙◌, ◌<◌, ap, sym, subst, refl, length, map, slice_get, Some}
use Rattle.std.proofs.lemmas.List.{length-map}
use Rattle.std.proofs.lemmas.Option.{slice_get-map, slice_get_read}
use Rattle.std.specs.Prelude.{option_map}
use Rattle.m2_base.specs.Names.{number_in}
use Rattle.m2_base.proofs.Numbers.{number_in-slice_get}
use Rattle.m2_base.proofs.names.Names.bytes.Goals as goal

pub returns-clause-number : goal.returns-clause-number
returns-clause-number c =
    let kept = c.self.inside.texts.items in
    let inside : c.args.name < length kept = subst (λ n. c.args.name < n) (ap length (sym c.self.view_is) ∙ length-map kept (λ k. k.items)) c.requires in
    let there : slice_get (map (λ k. k.items) kept) c.args.name ≡ Some c.deref.result.now =
    slice_get-map (λ k. k.items) kept c.args.name
    ∙ ap (option_map (λ k. k.items)) (slice_get_read kept (length kept) c.args.name c.index.result.now refl inside c.index.ensures)
    ∙ ap Some (sym c.deref.ensures.value) in
    ap (λ names. number_in names c.deref.result.now) (sym c.self.view_is)
    ∙ number_in-slice_get (map (λ k. k.items) kept) c.deref.result.now c.args.name c.self.invariant.differ there
