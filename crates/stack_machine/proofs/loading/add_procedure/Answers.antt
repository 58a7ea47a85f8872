use Rattle.std.proofs.Common.{◌≡◌, List, ℕ, map, length, sym, ap, ◌∙◌, subst, refl}
use Rattle.code_form.specs.declared.instr.Instr.{Instr}
use Rattle.code_form.specs.Valid.{AreInstrs}
use Rattle.object_file.specs.Views.{procedure_of}
use Rattle.stack_machine.specs.declared.placed.Placed.{Placed}
use Rattle.stack_machine.specs.Sites.{spot_of}
use Rattle.stack_machine.proofs.Growing.{ok_map, block_grows}
use Rattle.stack_machine.proofs.loading.add_procedure.Goals as goal

pub returns : goal.returns
returns c =
    let a = c.in_ok-all.ensures.are in
    let os = c.args.scene.now.objects.now in
    let p = procedure_of c.args.procedure.now in
    ok_map c.push_origins.result c.push_origins.ensures (λ origins.
    block_grows os c.args.home.now.«module» c.args.home.now.object.now c.args.k c.args.text p c.args.listing.now _ a.0 c.place_behind-start.result c.args.home.now.named.now
    (map spot_of c.deref-3.result.now) (map spot_of c.deref-4.result.now) c.outer_of.result
    (subst (λ (code : List ℕ). AreInstrs code a.0) c.deref.ensures.value a.1)
    (ap (map spot_of) c.deref-3.ensures.value ∙ a.2)
    (ap (map spot_of) c.deref-4.ensures.value ∙ a.2)
    (c.place_behind-start.ensures.is ∙ ap (λ xs. length xs) c.deref-2.ensures.value)
    c.requires.named c.outer_of.ensures c.in_ok-push_ops.ensures origins c.in_ok-push.ensures.items)
