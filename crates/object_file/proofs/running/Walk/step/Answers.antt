use Rattle.std.proofs.Common.{◌≡◌, ◌<◌, ◌∙◌, ℕ, Option, Some, None, arith, ap, refl, sym, subst}
use Rattle.std.specs.Prelude.{option_map}
use Rattle.code_form.specs.Modules.{Import}
use Rattle.object_file.specs.Running.{object_of}
use Rattle.object_file.specs.Ways.{followed}
use Rattle.object_file.specs.Views.{import_of}
use Rattle.object_file.proofs.Directing.{leads_is, leads_within}
use Rattle.object_file.proofs.OnWays.{left_step, skip_step, enter_step, on_ok}
use Rattle.object_file.proofs.running.Walk.step.Goals as goal

pub overflow_add-next : goal.overflow_add-next
overflow_add-next c = let lt = c.in-Some.ensures.small in omega (arith, lt)

pub enter-requires : goal.enter-requires
enter-requires c =
    let os = c.args.objects.now in
    let i = import_of c.in-Some.note.now in
    let leads : object_of os i ≡ Some c.in-Some-object_of.k = leads_is c.args.directory.now os i c.requires.directory ∙ sym c.object_of.ensures ∙ c.in-Some-object_of.is in
    let h = leads_within os i c.in-Some-object_of.k leads in
    subst (λ (n : ℕ). c.in-Some-object_of.k < n) (sym c.requires.on.marks) h.1

pub returns-in_ok-push-in-None : goal.returns-in_ok-push-in-None
returns-in_ok-push-in-None c =
    let none : followed c.args.objects.now c.args.frame ≡ None = sym c.followed.ensures.import ∙ ap (option_map _) c.in-None.is in
    left_step c.args.objects.now c.args.frame c.args.self.now _ c.requires.on none refl refl c.in_ok-push-in-None.ensures.items

pub returns-in-None-object_of : goal.returns-in-None-object_of
returns-in-None-object_of c =
    let os = c.args.objects.now in
    let i = import_of c.in-Some.note.now in
    let some : followed os c.args.frame ≡ Some i = sym c.followed.ensures.import ∙ ap (option_map _) c.in-Some.is in
    let leads : object_of os i ≡ None = leads_is c.args.directory.now os i c.requires.directory ∙ sym c.object_of.ensures ∙ c.in-None-object_of.is in
    skip_step os c.args.frame c.args.self.now _ i c.requires.on c.requires.frame some leads refl c.in_ok-push-in-Some.ensures.items refl

pub returns-in-Some-object_of : goal.returns-in-Some-object_of
returns-in-Some-object_of c =
    let os = c.args.objects.now in
    let i = import_of c.in-Some.note.now in
    let k = c.in-Some-object_of.k in
    let some : followed os c.args.frame ≡ Some i = sym c.followed.ensures.import ∙ ap (option_map _) c.in-Some.is in
    let leads : object_of os i ≡ Some k = leads_is c.args.directory.now os i c.requires.directory ∙ sym c.object_of.ensures ∙ c.in-Some-object_of.is in
    let h = leads_within os i k leads in
    on_ok c.enter.result c.enter.ensures (λ e. enter_step os c.args.frame c.args.self.now _ c.enter.new.self i k h.0 c.requires.on c.requires.frame some leads h.1 h.2 refl c.in_ok-push-in-Some.ensures.items refl e)
