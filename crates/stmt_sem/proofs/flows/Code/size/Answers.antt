use Rattle.std.proofs.Common.{List, ◌≡◌, ◌∙◌, ◌∷◌, [], ◌+◌, ap, arith, map, subst, sym, ℕ}
use Rattle.std.specs.Prelude.{IfOk}
use Rattle.code_form.specs.Bytes.{size}
use Rattle.code_form.specs.Heights.{Step}
use Rattle.code_form.specs.declared.instr.Instr.TheVariants.{Load, Local, Store}
use Rattle.expr_sem.specs.Fragments.{part}
use Rattle.block_code.specs.Parts.{plain, plain_step, ◌⨟◌}
use Rattle.block_code.specs.Cases.{labels_code}
use Rattle.case_labels.specs.Seen.{test_seen}
use Rattle.stmt_sem.specs.FlowTrees.{MeasuresPart, code_by}
use Rattle.stmt_sem.specs.declared.flows.Code.{Code}
use Rattle.case_labels.specs.declared.tests.LabelTest.{LabelTest}
use Rattle.stmt_sem.proofs.FlowsSized.{compared_sized, if_ok, stored_sized}
use Rattle.stmt_sem.proofs.flows.Code.size.Goals as goal

pub returns-in-Fixed : goal.returns-in-Fixed
returns-in-Fixed c =
    let ns = c.args.fragments.now.nodes.items in
    subst (λ (d : Code). MeasuresPart (code_by ns d) c.size.result) (sym c.in-Fixed.is) (λ t at. c.size.ensures c.requires.sound at)

pub returns-in-Stored : goal.returns-in-Stored
returns-in-Stored c =
    let ns = c.args.fragments.now.nodes.items in
    let f = c.in-Stored.fragment in
    let n = c.size-in-Stored-3.result in
    let around = c.size-in-Stored.result + c.size-in-Stored-2.result in
    let a : c.size-in-Stored.result ≡ 9 = c.size-in-Stored.ensures.size in
    let b : c.size-in-Stored-2.result ≡ 1 = c.size-in-Stored-2.ensures.size in
    subst (λ (d : Code). IfOk c.sum.result (λ k. MeasuresPart (code_by ns d) k)) (sym c.in-Stored.is)
    (if_ok (λ k. k ≡ n + around) (λ k. MeasuresPart (λ t. plain (Local 0 t ∷ []) ⨟ part ns f ⨟ plain (Store ∷ [])) k) c.sum.result c.sum.ensures
    (λ k e. subst (λ (j : ℕ). MeasuresPart (λ t. plain (Local 0 t ∷ []) ⨟ part ns f ⨟ plain (Store ∷ [])) j) (omega (arith, e, a, b)) (stored_sized ns f n (c.size-in-Stored-3.ensures c.requires.sound))))

pub returns-in_ok-compared-in-Compared : goal.returns-in_ok-compared-in-Compared
returns-in_ok-compared-in-Compared c =
    let ns = c.args.fragments.now.nodes.items in
    let f = c.in-Compared.fragment in
    let i = c.in-Compared.instr in
    let n = c.size-in-Compared-4.result in
    let m = c.size-in-Compared-5.result in
    let a : c.size-in-Compared.result ≡ 1 = c.size-in-Compared.ensures.size in
    let b : c.size-in-Compared-2.result ≡ 9 = c.size-in-Compared-2.ensures.size in
    let d : c.size-in-Compared-3.result ≡ 1 = c.size-in-Compared-3.ensures.size in
    let before = c.in_ok-compared-in-Compared.ensures in
    let is_size : m ≡ size (plain_step i).instr = c.size-in-Compared-5.ensures ∙ ap (λ (s : Step). size s.instr) c.plain.ensures in
    subst (λ (d : Code). IfOk c.sum-in-Compared-2.result (λ k. MeasuresPart (code_by ns d) k)) (sym c.in-Compared.is)
    (if_ok (λ k. k ≡ c.in_ok-compared-in-Compared.compared + m) (λ k. MeasuresPart (λ t. part ns f ⨟ plain (Load ∷ Local 0 t ∷ Load ∷ i ∷ [])) k) c.sum-in-Compared-2.result c.sum-in-Compared-2.ensures
    (λ k e. subst (λ (j : ℕ). MeasuresPart (λ t. part ns f ⨟ plain (Load ∷ Local 0 t ∷ Load ∷ i ∷ [])) j) (omega (arith, e, before, a, b, d)) (compared_sized ns f i n m (c.size-in-Compared-4.ensures c.requires.sound) is_size)))

pub returns-in-Labels : goal.returns-in-Labels
returns-in-Labels c =
    let ns = c.args.fragments.now.nodes.items in
    subst (λ (d : Code). IfOk c.labels_size.result (λ k. MeasuresPart (code_by ns d) k)) (sym c.in-Labels.is)
    (subst (λ (ls : List LabelTest). IfOk c.labels_size.result (λ k. MeasuresPart (λ t. labels_code t (map test_seen ls)) k)) c.deref.ensures.value c.labels_size.ensures)
