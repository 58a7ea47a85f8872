use Rattle.std.proofs.Common.{◌≡◌, ◌++◌, List, ℤ, arith, ap, ◌∙◌, length, vec_len, replicate, pos}
use Rattle.stack_machine.specs.Loading.{all_data, data_at}
use Rattle.stack_machine.proofs.Starting.{filled, no_cells}
use Rattle.stack_machine.proofs.start.first_of.Goals as goal

pub returns : goal.returns
returns c =
    let os = c.args.objects.now in
    let xs = c.push_data.new.cells.items in
    let first : c.resize.new.self.items ≡ replicate (data_at os) (pos 0) =
    c.in_ok-resize.ensures.items ∙ no_cells c.args.texts (vec_len c.in_ok-cells.cells) c.in_ok-cells.cells.items c.in_ok-cells.ensures.items c.in_ok-cells.ensures.len ∙ ap (λ n. replicate n (pos 0)) c.requires.texts in
    let is : xs ≡ replicate (data_at os) (pos 0) ++ all_data os = c.in_ok-push_data.ensures ∙ ap (λ (ys : List ℤ). ys ++ all_data os) first in
    let len : vec_len c.push_data.new.cells ≡ length xs = omega (arith, c.push_data.new.cells.ok) in
    c.in_ok-resize-2.ensures.items ∙ filled os c.args.size (vec_len c.push_data.new.cells) xs is len c.requires.room
