use Rattle.std.proofs.Common.{◌≡◌, ◌∙◌, Bool, false, cond, Some, None, ap, sym, List, ℕ}
use Rattle.std.specs.Prelude.{not, option_map}
use Rattle.object_file.specs.Directories.{found_in}
use Rattle.object_file.specs.Naming.{object_named}
use Rattle.object_file.specs.Views.{keyed_of}
use Rattle.m2_link.specs.Refusals.{is_in_out, agrees, in_out_given, disagrees, object_at}
use Rattle.m2_link.proofs.imports.differs.Goals as goal

pub returns-in-None : goal.returns-in-None
returns-in-None c =
    let os = c.args.objects.now in
    let i = keyed_of c.args.note.now in
    let v = c.args.version in
    let other : is_in_out i.definition ≡ false = sym c.is_in_out.ensures ∙ c.if-is_in_out.false in
    let there : None ≡ object_at os (object_named os i.definition.name) = sym (ap (option_map _) c.in-None.is) ∙ c.object_of.ensures ∙ ap (λ (n : List ℕ). object_at os (found_in c.args.directory.now n)) c.deref.ensures.value ∙ ap (object_at os) (c.requires.directory i.definition.name) in
    ap (disagrees v i) there ∙ ap (λ (b : Bool). cond b (not (agrees v i in_out_given)) (disagrees v i (object_at os (object_named os i.definition.name)))) (sym other)

pub returns-in-Some : goal.returns-in-Some
returns-in-Some c =
    let os = c.args.objects.now in
    let i = keyed_of c.args.note.now in
    let v = c.args.version in
    let other : is_in_out i.definition ≡ false = sym c.is_in_out.ensures ∙ c.if-is_in_out.false in
    let there : Some c.in-Some.object.now ≡ object_at os (object_named os i.definition.name) = sym (ap (option_map _) c.in-Some.is) ∙ c.object_of.ensures ∙ ap (λ (n : List ℕ). object_at os (found_in c.args.directory.now n)) c.deref.ensures.value ∙ ap (object_at os) (c.requires.directory i.definition.name) in
    ap not c.agrees_with_object.ensures ∙ ap (disagrees v i) there ∙ ap (λ (b : Bool). cond b (not (agrees v i in_out_given)) (disagrees v i (object_at os (object_named os i.definition.name)))) (sym other)
