use Rattle.std.proofs.Common.{[], rules, arith, ap, subst, ◌∙◌, sym, refl, ◌≡◌, ◌<◌, ◌+◌, List, ℕ, drop, length, map, option_map, take}
use Rattle.std.specs.Prelude.{slice_get, slice_index_or}
use Rattle.std.proofs.lemmas.Option.{get_or_from_slice_get}
use Rattle.definition_keys.specs.Keys.{Keys, unit_keys}
use Rattle.m2_base.specs.Lists.{Each}
use Rattle.m2_base.specs.Units.{IsUnit, TextOf, UnitTexts}
use Rattle.m2_base.specs.declared.outputs.Output.{Output}
use Rattle.object_file.specs.Contents.{no_key}
use Rattle.object_file.specs.Views.{procedure_of}
use Rattle.object_file.specs.declared.parts.Parts.{Parts}
use Rattle.unit_merge.specs.Objects.{HasItsNumber, IsPlaceIn, cells_by, exports_in, headings_by, imports_from, of_own, without_own}
use Rattle.unit_merge.proofs.Keys.{keys_many, keys_there, numbers_of_texts}
use Rattle.unit_merge.proofs.Parts.{Gathered, definitions_long, gathered_is, main_there, own_in, vec_long}
use Rattle.unit_merge.proofs.object.unit_parts.Goals as goal

pub split_off-requires : goal.split_off-requires
split_off-requires c =
    let u = c.args.texts.now in
    let n : c.len.result ≡ length u.order = c.len.ensures ∙ vec_long c.texts.inside.order ∙ ap (λ (x : UnitTexts). length x.order) c.texts.view_is in
    let all = vec_long c.args.outputs in
    let some = main_there u c.args.outputs.items c.requires.each in
    omega (arith, n, all, some)

pub index-main-requires : goal.index-main-requires
index-main-requires c =
    let u = c.args.texts.now in
    let n : c.len.result ≡ length u.order = c.len.ensures ∙ vec_long c.texts.inside.order ∙ ap (λ (x : UnitTexts). length x.order) c.texts.view_is in
    let all = vec_long c.args.outputs in
    let some = main_there u c.args.outputs.items c.requires.each in
    let tail = c.in_ok-mains.ensures.tail_len in
    omega (arith, n, all, some, tail)

pub own_part-requires-clause-long : goal.own_part-requires-clause-long
own_part-requires-clause-long c =
    let u = c.args.texts.now in
    let front = c.requires.front in
    let fronts = c.requires.fronts in
    let n : c.len.result ≡ length u.order = c.len.ensures ∙ vec_long c.texts.inside.order ∙ ap (λ (x : UnitTexts). length x.order) c.texts.view_is in
    let defs : c.deref-2.result.now ≡ take (length u.order) c.args.outputs.items = c.deref-2.ensures.value ∙ c.in_ok-mains.ensures.items ∙ ap (λ k. take k c.args.outputs.items) n in
    let ks : c.deref.result.now ≡ unit_keys front u = c.deref.ensures.value ∙ c.in_ok-keys.ensures front fronts in
    ap length defs ∙ definitions_long (length u.order) c.args.outputs.items (unit_keys front u) (main_there u c.args.outputs.items c.requires.each) (keys_many front u) ∙ sym (ap length ks)

pub own_part-requires-clause-own : goal.own_part-requires-clause-own
own_part-requires-clause-own c =
    let u = c.args.texts.now in
    let front = c.requires.front in
    let fronts = c.requires.fronts in
    let ks : c.deref.result.now ≡ unit_keys front u = c.deref.ensures.value ∙ c.in_ok-keys.ensures front fronts in
    subst (λ (k : Keys). IsPlaceIn k c.own_place-own.result) (sym ks) (own_in (unit_keys front u) u c.own_place-own.result (keys_many front u) c.own_place-own.ensures)

pub other_imports-requires-clause-named : goal.other_imports-requires-clause-named
other_imports-requires-clause-named c =
    let u = c.args.texts.now in
    let front = c.requires.front in
    let fronts = c.requires.fronts in
    let unit : IsUnit u = subst IsUnit c.texts.view_is c.texts.invariant in
    let names : c.texts.inside.names ≡ u.names = ap (λ (x : UnitTexts). x.names) c.texts.view_is in
    let ks : c.deref-4.result.now ≡ unit_keys front u = c.deref-4.ensures.value ∙ c.in_ok-keys.ensures front fronts in
    subst (λ (ns : List (List ℕ)). Each (λ (k : ℕ × List ℕ). k.0 < length ns) c.deref-4.result.now) (sym names)
    (subst (Each (λ (k : ℕ × List ℕ). k.0 < length u.names)) (sym ks) (keys_there front u unit))

pub other_imports-requires-clause-long : goal.other_imports-requires-clause-long
other_imports-requires-clause-long c =
    let u = c.args.texts.now in
    let front = c.requires.front in
    let fronts = c.requires.fronts in
    let n : c.len.result ≡ length u.order = c.len.ensures ∙ vec_long c.texts.inside.order ∙ ap (λ (x : UnitTexts). length x.order) c.texts.view_is in
    let defs : c.deref-5.result.now ≡ take (length u.order) c.args.outputs.items = c.deref-5.ensures.value ∙ c.in_ok-mains.ensures.items ∙ ap (λ k. take k c.args.outputs.items) n in
    let ks : c.deref-4.result.now ≡ unit_keys front u = c.deref-4.ensures.value ∙ c.in_ok-keys.ensures front fronts in
    ap length defs ∙ definitions_long (length u.order) c.args.outputs.items (unit_keys front u) (main_there u c.args.outputs.items c.requires.each) (keys_many front u) ∙ sym (ap length ks)

pub other_imports-requires-clause-own : goal.other_imports-requires-clause-own
other_imports-requires-clause-own c =
    let u = c.args.texts.now in
    let front = c.requires.front in
    let fronts = c.requires.fronts in
    let ks : c.deref-4.result.now ≡ unit_keys front u = c.deref-4.ensures.value ∙ c.in_ok-keys.ensures front fronts in
    subst (λ (k : Keys). IsPlaceIn k c.own_place-own.result) (sym ks) (own_in (unit_keys front u) u c.own_place-own.result (keys_many front u) c.own_place-own.ensures)

pub returns-clause-contents : goal.returns-clause-contents
returns-clause-contents c = λ front fronts.
    let u = c.args.texts.now in
    let outputs = c.args.outputs.items in
    let own = c.own_place-own.result in
    let main = c.index-main.result.now in
    let n : c.len.result ≡ length u.order = c.len.ensures ∙ vec_long c.texts.inside.order ∙ ap (λ (x : UnitTexts). length x.order) c.texts.view_is in
    let names : c.texts.inside.names ≡ u.names = ap (λ (x : UnitTexts). x.names) c.texts.view_is in
    let ks : c.deref.result.now ≡ unit_keys front u = c.deref.ensures.value ∙ c.in_ok-keys.ensures front fronts in
    let ks4 : c.deref-4.result.now ≡ unit_keys front u = c.deref-4.ensures.value ∙ c.in_ok-keys.ensures front fronts in
    let defs : c.deref-2.result.now ≡ take (length u.order) outputs = c.deref-2.ensures.value ∙ c.in_ok-mains.ensures.items ∙ ap (λ k. take k outputs) n in
    let defs5 : c.deref-5.result.now ≡ take (length u.order) outputs = c.deref-5.ensures.value ∙ c.in_ok-mains.ensures.items ∙ ap (λ k. take k outputs) n in
    let tail : c.in_ok-mains.mains.items ≡ drop (length u.order) outputs = c.in_ok-mains.ensures.tail ∙ ap (λ k. drop k outputs) n in
    let main_is : main ≡ slice_index_or (drop (length u.order) outputs) 0 main = c.index-main.ensures ∙ ap (λ (os : List Output). slice_index_or os 0 main) tail in
    let nm : c.behind-texts.inside.name ≡ c.main.result.now.name = ap (λ (x : TextOf). x.name) c.behind-texts.view_is in
    let there = sym (λ i. slice_get (names i) (nm i)) ∙ c.bytes.ensures.text in
    let spelt : c.in_ok-name.name.items ≡ c.bytes.result.now = search rules in
    let parts : Parts =
    record {
      version = 2;
      name = c.in_ok-name.name;
      key = c.in_ok-part.part.key;
      cells = main.cells;
      own_cells = c.in_ok-part.part.cells;
      exports = c.in_ok-part.part.exports;
      imports = c.in_ok-imports.imports;
      procedures = c.in_ok-procedures.procedures;
    } in
    let gathered : Gathered u (unit_keys front u) outputs own main parts =
    record {
      version = refl;
      text = c.main.result.now;
      first = c.main.ensures.text;
      name = spelt ∙ sym (get_or_from_slice_get u.names c.main.result.now.name c.bytes.result.now [] there);
      key = c.in_ok-part.ensures.key ∙ ap (λ (k : Keys). of_own no_key (option_map (λ n. n + 1) own) (map (λ (x : ℕ × List ℕ). x.1) k)) ks;
      cells = refl;
      own_cells = c.in_ok-part.ensures.cells ∙ ap (λ (os : List Output). of_own 0 (option_map (λ n. n + 1) own) (cells_by os)) defs;
      exports = c.in_ok-part.ensures.exports ∙ (λ i. exports_in (c.deref-3.ensures.value i) (of_own [] (option_map (λ n. n + 1) own) (headings_by (defs i))));
      imports = c.in_ok-imports.ensures.imports ∙ (λ i. without_own (option_map (λ n. n + 1) own) (imports_from (names i) (ks4 i) (defs5 i)));
      procedures = c.in_ok-procedures.ensures.codes ∙ ap (map (λ (o : Output). procedure_of o.code)) tail;
    } in
    gathered_is u (unit_keys front u) outputs own main parts (main_there u outputs c.requires.each) (keys_many front u) c.own_place-own.ensures main_is gathered

pub returns-clause-numbers : goal.returns-clause-numbers
returns-clause-numbers c =
    let u = c.args.texts.now in
    let front = c.requires.front in
    let fronts = c.requires.fronts in
    let names : c.texts.inside.names ≡ u.names = ap (λ (x : UnitTexts). x.names) c.texts.view_is in
    let ks : c.deref-4.result.now ≡ unit_keys front u = c.deref-4.ensures.value ∙ c.in_ok-keys.ensures front fronts in
    numbers_of_texts front u (subst (Each (λ (k : ℕ × List ℕ). HasItsNumber u.names k.0)) ks
    (subst (λ (ns : List (List ℕ)). Each (λ (k : ℕ × List ℕ). HasItsNumber ns k.0) c.deref-4.result.now) names c.in_ok-imports.ensures.numbers))
