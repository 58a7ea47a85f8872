use Rattle.std.proofs.Common.{◌≡◌, ℕ, ◌+◌, ◌-◌, ◌<◌, ◌≤◌, List, Ok, Err, arith, map, drop, subst, sym}
use Rattle.std.proofs.lemmas.List.{drop_all}
use Rattle.m2_base.specs.declared.outputs.ProcCode.{ProcCode}
use Rattle.object_file.specs.declared.fault.Stop.{Stop}
use Rattle.object_file.specs.Telling.{TellsAll}
use Rattle.object_file.specs.Validity.{HaveValidCode}
use Rattle.object_file.specs.Views.{procedure_of, world_in}
use Rattle.object_file.proofs.Lengths.{behind_is, procedure_length, tells_at, tells_on}
use Rattle.object_file.proofs.sizes.check_all.Goals as goal

-- the bytes of this procedure are among those that are left
among : (rest : ℕ) {behind left one size : ℕ} → behind ≡ left → left ≡ one + rest → size ≡ one → size ≤ behind
among rest b l s = omega arith

-- those behind it
others : {behind left one rest size : ℕ} → behind ≡ left → left ≡ one + rest → size ≡ one → behind - size ≡ rest
others b l s = omega arith

fewer : (size : ℕ) {behind all : ℕ} → behind ≤ all → behind - size ≤ all
fewer size le = omega arith

few : (rest : ℕ) {behind left one all most : ℕ} → behind ≡ left → left ≡ one + rest → behind ≤ all → all < most → one < most
few rest b l le lt = omega arith

-- a part of its bytes and those behind it
few_behind : (rest part : ℕ) {behind left one all most size : ℕ} → behind ≡ left → left ≡ one + rest → size ≡ one → behind ≤ all → all < most → one ≡ 16 + part → part + (behind - size) < most
few_behind rest part b l s le lt p = omega arith

pub overflow_sub-behind : goal.overflow_sub-behind
overflow_sub-behind c = among _ c.loop-k.invariant.size (behind_is _ _ _ c.loop-k-test.true c.index-procedures-k.is) c.size-behind.ensures

pub size-behind-requires : goal.size-behind-requires
size-behind-requires c = few _ c.loop-k.invariant.size (behind_is _ _ _ c.loop-k-test.true c.index-procedures-k.is) c.loop-k.invariant.small c.requires.short

pub stop-requires : goal.stop-requires
stop-requires c = few_behind _ _ c.loop-k.invariant.size (behind_is _ _ _ c.loop-k-test.true c.index-procedures-k.is) c.size-behind.ensures c.loop-k.invariant.small c.requires.short (procedure_length _)

pub loop-k-preserved : goal.loop-k-preserved
loop-k-preserved c = record {
  size = others c.loop-k.invariant.size (behind_is _ _ _ c.loop-k-test.true c.index-procedures-k.is) c.size-behind.ensures;
  small = fewer _ c.loop-k.invariant.small;
  rest = λ r told. c.loop-k.invariant.rest r (tells_on _ _ _ _ r c.loop-k-test.true c.index-procedures-k.is c.in_default.ensures told);
}

pub returns : goal.returns
returns c =
    let w = world_in c.args.parts.now in
    let none = subst (λ (ps : List ProcCode). HaveValidCode w c.loop-k.k (map procedure_of ps)) (sym (drop_all _ _ c.loop-k-test.false)) tt in
    subst (λ (ps : List ProcCode). HaveValidCode w 0 (map procedure_of ps)) c.as_slice-procedures.ensures.value (c.loop-k.invariant.rest (Ok tt) none)

pub returns-in-Err : goal.returns-in-Err
returns-in-Err c =
    let w = world_in c.args.parts.now in
    let rest = others c.loop-k.invariant.size (behind_is _ _ _ c.loop-k-test.true c.index-procedures-k.is) c.size-behind.ensures in
    let told = tells_at w _ _ _ c.in-Err.fault _ c.loop-k-test.true c.index-procedures-k.is rest c.in-Err.ensures in
    let all = c.loop-k.invariant.rest (Err c.stop.result) (subst (λ (e : Stop). TellsAll w c.loop-k.k (map procedure_of (drop c.loop-k.k c.as_slice-procedures.result.now)) (Err e)) (sym c.stop.ensures) told) in
    subst (λ (ps : List ProcCode). TellsAll w 0 (map procedure_of ps) (Err c.stop.result)) c.as_slice-procedures.ensures.value all
