use Rattle.std.proofs.Common.{◌≡◌, ℕ, suc, ◌+◌, ◌-◌, ◌*◌, ◌<◌, ◌≤◌, List, [], ◌∷◌, ◌++◌, length, get_or, sym, ap, ◌∙◌, subst, arith, length-append}
use mathlib.Core.Logic.{dite}
use native.Mathlib.Decide.{ℕ_discrete}
use lib.ListN.{get_or-append}
use lib.Seq.{get_or-append_seam}
use Rattle.scope_table.specs.Cells.{IsWidth}
use Rattle.scope_table.specs.Opening.{AreBases, IsPart}
use Rattle.scope_table.proofs.Opening.{parts_more}
use Rattle.m2_base.proofs.Without.{if_ok_of_err}
use Rattle.scope_table.proofs.open.lay.Goals as goal

-- what is below the end is below what the loop came to
less : (k m n : ℕ) → k < m → m ≤ n → k < n
less k m n l le = omega arith

-- where all scopes are laid
laid_all : (bs ms sizes : List ℕ) (n end : ℕ) → length sizes ≤ n → n ≤ length sizes → length ms ≡ n → length bs ≡ n + 1 → get_or bs 0 0 ≡ length sizes
    → ((k : ℕ) → k < n → IsPart (get_or sizes k 0) (get_or bs k 0) (get_or ms k 0) (get_or bs (suc k) 0)) → get_or bs n 0 ≡ end
    → end < 4611686018427387904 → AreBases bs ms sizes
laid_all bs ms sizes n end le ge all many first parts last small =
    let same : n ≡ length sizes = omega arith in
    record {
      many = omega arith;
      all = omega arith;
      first = first;
      parts = λ k l. parts k (less k _ _ l le);
      small = let b = ap (λ (z : ℕ). get_or bs z 0) same in omega arith;
    }

pub loop-size-preserved : goal.loop-size-preserved
loop-size-preserved c =
    let inv = c.loop-size.invariant in let n = c.loop-size.size-index in let bs = c.loop-size.bases.items in let ms = c.loop-size.mids.items in let size = get_or c.args.sizes.now n 0 in let end = c.loop-size.end in
    let m : ℕ = end + 8 * size in let w : ℕ = c.cells_for.result in let e : ℕ = m + w in
    let bs' : c.push-in-loop-size-2.new.self.items ≡ bs ++ e ∷ [] = c.in_ok-push-3.ensures.items in let ms' : c.push-in-loop-size.new.self.items ≡ ms ++ m ∷ [] = c.in_ok-push-2.ensures.items in
    let lb = inv.many in let lm = inv.all in let lb' = ap length bs' ∙ length-append bs (e ∷ []) in let lm' = ap length ms' ∙ length-append ms (m ∷ []) in
    let test = c.loop-size-test.true in let narrow = c.requires.narrow n (omega arith) in let cells = c.cells_for.ensures.narrow in let some = cells.0 in let most = cells.1 in let small = c.if-end-ge-MOST_WORDS.false in
    let new : IsPart size (get_or bs n 0) m e = record {
      room = let q = inv.end_is in omega arith;
      width = subst (IsWidth size) (let q : w ≡ e - m = omega arith in q) c.cells_for.ensures.width;
      behind = omega arith;
      narrow = omega arith;
    } in record {
      all = omega arith;
      many = omega arith;
      first = ap (λ (l : List ℕ). get_or l 0 0) bs' ∙ (get_or-append bs (e ∷ []) 0 0 (omega arith) ∙ inv.first);
      parts = λ k l. subst (λ (z : List ℕ × List ℕ). IsPart (get_or c.args.sizes.now k 0) (get_or z.0 k 0) (get_or z.1 k 0) (get_or z.0 (suc k) 0)) (λ i. (sym bs' i, sym ms' i)) (parts_more bs ms c.args.sizes.now n m e lb lm inv.parts new k l);
      end_is = ap (λ (l : List ℕ). get_or l (n + 1) 0) bs' ∙ (ap (λ (z : ℕ). get_or (bs ++ e ∷ []) z 0) (sym lb) ∙ get_or-append_seam bs e [] 0);
      bounded = λ k l. subst (λ (b : List ℕ). get_or b k 0 < 1152921504606846976) (sym bs') (dite (ℕ_discrete k n)
          (λ q. subst (λ (z : ℕ). get_or (bs ++ e ∷ []) z 0 < 1152921504606846976) (sym q) (let h = inv.end_is in let o = get_or-append bs (e ∷ []) 0 n (omega arith) in omega arith))
          (λ q. let h = inv.bounded k (omega arith) in let o = get_or-append bs (e ∷ []) 0 k (omega arith) in omega arith));
      small = omega arith;
    }

pub returns-in_err-push-clause-bounded : goal.returns-in_err-push-clause-bounded
returns-in_err-push-clause-bounded c = if_ok_of_err _ c.from_residual-in_err-push.result c.from_residual-in_err-push.ensures.0

pub returns-in_err-push-clause-laid : goal.returns-in_err-push-clause-laid
returns-in_err-push-clause-laid c = if_ok_of_err _ c.from_residual-in_err-push.result c.from_residual-in_err-push.ensures.0

pub returns-in_err-push-2-clause-bounded : goal.returns-in_err-push-2-clause-bounded
returns-in_err-push-2-clause-bounded c = if_ok_of_err _ c.from_residual-in_err-push-2.result c.from_residual-in_err-push-2.ensures.0

pub returns-in_err-push-2-clause-laid : goal.returns-in_err-push-2-clause-laid
returns-in_err-push-2-clause-laid c = if_ok_of_err _ c.from_residual-in_err-push-2.result c.from_residual-in_err-push-2.ensures.0

pub returns-in_err-push-3-clause-bounded : goal.returns-in_err-push-3-clause-bounded
returns-in_err-push-3-clause-bounded c = if_ok_of_err _ c.from_residual-in_err-push-3.result c.from_residual-in_err-push-3.ensures.0

pub returns-in_err-push-3-clause-laid : goal.returns-in_err-push-3-clause-laid
returns-in_err-push-3-clause-laid c = if_ok_of_err _ c.from_residual-in_err-push-3.result c.from_residual-in_err-push-3.ensures.0

pub cells_for-requires : goal.cells_for-requires
cells_for-requires c = c.requires.narrow c.loop-size.size-index c.loop-size-test.true

pub loop-size-init : goal.loop-size-init
loop-size-init c =
    let n = length c.args.sizes.now in
    let is : c.push.new.self.items ≡ n ∷ [] = c.in_ok-push.ensures.items ∙ ap (λ (l : List ℕ). l ++ n ∷ []) c.in_ok-bases.ensures.items in
    let few = c.requires.few in record {
      all = ap length c.in_ok-mids.ensures.items;
      many = ap length is;
      first = ap (λ (l : List ℕ). get_or l 0 0) is;
      parts = λ k l. absurd (omega arith);
      end_is = ap (λ (l : List ℕ). get_or l 0 0) is;
      bounded = λ k l. absurd (omega arith);
      small = omega arith;
    }

pub returns-clause-laid : goal.returns-clause-laid
returns-clause-laid c =
    let inv = c.loop-size.invariant in
    laid_all _ _ c.args.sizes.now _ _ c.loop-size-test.false c.loop-size.auto.size-index-end inv.all inv.many inv.first inv.parts inv.end_is inv.small

pub returns-clause-bounded : goal.returns-clause-bounded
returns-clause-bounded c = λ k l. c.loop-size.invariant.bounded k (less k _ _ l c.loop-size-test.false)
