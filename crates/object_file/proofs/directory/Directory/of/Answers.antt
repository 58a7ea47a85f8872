use Rattle.std.proofs.Common.{◌≡◌, ◌∙◌, ◌+◌, ◌<◌, ℕ, Bool, true, false, List, Some, ap, refl, sym, length, take, drop}
use Rattle.std.specs.Prelude.{slice_get, is_some}
use Rattle.std.specs.BTreeMap.{get_by}
use Rattle.std.specs.Cmp.Lexicographic.{slice_cmp}
use Rattle.std.specs.Ordering.{nat_cmp}
use Rattle.std.proofs.lemmas.Map.Text.{btree_map_updates_str}
use Rattle.std.proofs.lemmas.Option.{slice_get_read}
use Rattle.object_file.specs.Contents.{Contents}
use Rattle.object_file.specs.Naming.{object_named, taken_again}
use Rattle.object_file.proofs.Directing.{again_here, again_more, kept_more, next_is, take_next}
use Rattle.object_file.proofs.directory.Directory.of.Goals as goal

pub returns-then-is_some-clause-twice : goal.returns-then-is_some-clause-twice
returns-then-is_some-clause-twice c =
    let os = c.args.objects.now in
    let k = c.loop-k.k in
    let o = c.index-objects-k.result in
    let there : slice_get os k ≡ Some o = slice_get_read os (length os) k o refl c.loop-k-test.true c.index-objects-k.is in
    let taken : is_some (object_named (take k os) o.name) ≡ true =
    ap (λ (n : List ℕ). is_some (object_named (take k os) n)) (sym c.name.ensures) ∙ ap is_some (sym (c.loop-k.invariant.kept c.name.result.now)) ∙ ap is_some (sym c.in_ok-insert.ensures.old) ∙ sym c.is_some.ensures ∙ c.if-is_some.true in
    (o, there, c.loop-k.invariant.names ∙ ap (taken_again (take k os)) (next_is os k o there) ∙ again_here (take k os) o (drop (k + 1) os) taken)

pub loop-k-preserved : goal.loop-k-preserved
loop-k-preserved c =
    let os = c.args.objects.now in
    let k = c.loop-k.k in
    let o = c.index-objects-k.result in
    let lt : k < length os = c.loop-k-test.true in
    let there : slice_get os k ≡ Some o = slice_get_read os (length os) k o refl lt c.index-objects-k.is in
    let free : is_some (object_named (take k os) o.name) ≡ false =
    ap (λ (n : List ℕ). is_some (object_named (take k os) n)) (sym c.name.ensures) ∙ ap is_some (sym (c.loop-k.invariant.kept c.name.result.now)) ∙ ap is_some (sym c.in_ok-insert.ensures.old) ∙ sym c.is_some.ensures ∙ c.if-is_some.false in
    record {
      kept = λ name.
          kept_more os k o c.name.result.now name (get_by (λ key. slice_cmp nat_cmp name key.now) c.loop-k.places) (get_by (λ key. slice_cmp nat_cmp name key.now) c.insert.new.self) lt there c.name.ensures free
          (c.loop-k.invariant.kept name) (btree_map_updates_str c.name.result.now c.loop-k.places c.insert.new.self (Some k) c.in_ok-insert.ensures.updates name);
      names = c.loop-k.invariant.names ∙ ap (taken_again (take k os)) (next_is os k o there) ∙ again_more (take k os) o (drop (k + 1) os) free
          ∙ ap (λ (xs : List Contents). taken_again xs (drop (k + 1) os)) (sym (take_next os k o there));
    }
