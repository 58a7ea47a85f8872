use Rattle.std.proofs.Common.{◌≡◌, ◌≤◌, ◌∙◌, ap, length, take, drop, rules}
use Rattle.std.proofs.lemmas.List.{take_rest}
use Rattle.m2_io.proofs.LeftLemmas.{front-copied}
use Rattle.m2_io.proofs.memory_source.MemSourceSource.read.Goals as goal

pub returns-clause-front : goal.returns-clause-front
returns-clause-front c =
    let source = c.args.self.now in
    let n = c.min-count.result in
    let copied = c.copy_from_slice.new.self in
    let same : copied ≡ take n (drop source.read source.bytes.items) =
    c.copy_from_slice.ensures.after
    ∙ ap (take n) (take_rest c.deref.result.now source.read)
    ∙ ap (λ bytes. take n (drop source.read bytes)) c.deref.ensures.value in
    let long : n ≤ length copied = search rules in
    front-copied source.bytes.items (drop n c.args.buf.now) copied source.read n same long
