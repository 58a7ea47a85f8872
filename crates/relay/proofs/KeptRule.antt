-- Each kind of step keeps each number in one place.
use Rattle.std.proofs.Common.{◌≡◌, ◌≢◌, ℕ, zero, suc, ◌+◌, ◌-◌, ◌<◌, ◌≤◌, Bool, false, List, [], ◌∷◌, ◌++◌, All, length, map, set, sum_by, sym, refl, ap, ◌∙◌, subst, ⊎_elim, arith, length-append}
use Rattle.std.proofs.lemmas.List.Elements.{All-nil, All-head, All-tail, All-push, Contains-push}
use Rattle.std.proofs.lemmas.List.Sums.{sum_by_push}
use mathlib.Core.Option.{some, some-injective, some-ne-none}
use lib.ListN.{get_elem?}
use Rattle.crossbeam_queue.specs.Fifo.{Pushes, Pops, Forks, Merges, Learns}
use Rattle.crossbeam_queue.proofs.Lists.{at_snoc}
use Rattle.relay.specs.declared.rule.Knows.{Knows}
use Rattle.relay.specs.Places.{knows, times, numbers_to, without_last, ComesFrom, MayWait, Placed, Taken, Told}
use Rattle.relay.proofs.Sums.{sum-set, sum-at, sum-two, sum-alone, sum-map, contains-at, each-set}
use Rattle.relay.proofs.Comings.{same, times-push, times-append, times-push_job, numbers-more, comes-more}

module _ {A : Type 0} (number : A → ℕ) (done : A → Bool) (stays : A → A → Type 0) where
  abbrev Holds : List A → List (Knows A) → Type 0
  Holds items views = Placed number done stays items views

  -- what is said of each view
  abbrev Fine : List A → Knows A → Type 0
  Fine jobs v = (0 < v.parts → v.jobs ≡ jobs) × (v.parts ≡ 0 → v.out ≡ [])

  pub begins : Holds [] (knows 1024 [] [] ∷ [])
  begins = record {
    jobs = [];
    whole = refl;
    once = λ x. refl;
    many = refl;
    wait = All-nil _;
    known = λ i v e _. (only i v e).0;
    idle = λ i v e _. (only i v e).1;
  }
    where
      only : (i : ℕ) (v : Knows A) → get_elem? (knows 1024 [] [] ∷ []) i ≡ some v → (v.jobs ≡ []) × (v.out ≡ [])
      only zero v e = let is : knows 1024 [] [] ≡ v = some-injective _ v e in (ap (λ u. u.jobs) (sym is), ap (λ u. u.out) (sym is))
      only (suc i) v e = absurd (some-ne-none v (sym e))

  -- numbers go from one of these places to another
  moved : (items items' : List A) (views : List (Knows A)) (i : ℕ) (v : Knows A) (out : List ℕ) → 0 < v.parts → (b : Holds items views) → get_elem? views i ≡ some v
      → ((x : ℕ) → times x (map number items') + times x out ≡ times x (map number items) + times x v.out)
      → length items' + length out ≡ length items + length v.out → All (MayWait number done stays b.jobs) items'
      → Holds items' (set views i (knows v.parts v.jobs out))
  moved items items' views i v out part b at same_times same_many wait =
      let w = knows v.parts v.jobs out in
      let fine : (k : ℕ) (d : Knows A) → get_elem? (set views i w) k ≡ some d → Fine b.jobs d = each-set (Fine b.jobs) views i w
      ((λ _. b.known i v at part), λ no. absurd (omega arith)) (λ k d _ e. (b.known k d e, b.idle k d e)) in record {
        jobs = b.jobs;
        whole = let s = sum-set (λ u. u.parts) views i v w at in let p = b.whole in omega arith;
        once = λ x. let s = sum-set (λ u. times x u.out) views i v w at in let p = b.once x in let q = same_times x in omega arith;
        many = let s = sum-set (λ u. length u.out) views i v w at in let p = b.many in omega arith;
        wait = wait;
        known = λ k d e. (fine k d e).0;
        idle = λ k d e. (fine k d e).1;
      }

  -- a job comes
  pub comes : (cap i : ℕ) (v : Knows A) (x : A) → v.parts ≡ 1024 → number x ≡ length v.jobs + 1 → stays x x → done x ≡ false
      → Pushes Holds cap i v x (λ w. w ≡ knows v.parts (v.jobs ++ x ∷ []) v.out)
  comes cap i v x all next itself undone items views room b at =
      let jobs = v.jobs ++ x ∷ [] in let w = knows v.parts jobs v.out in
      let old : v.jobs ≡ b.jobs = b.known i v at (omega arith) in
      let long = length-append v.jobs (x ∷ []) in let long_was = ap length old in
      let alone : (k : ℕ) (d : Knows A) → k ≢ i → get_elem? views k ≡ some d → 0 < d.parts → ⊥ = λ k d n e p.
      (let two = sum-two (λ u. u.parts) views i k v d (λ h. n (sym h)) at e in let q = b.whole in omega arith) in
      let fine : (k : ℕ) (d : Knows A) → get_elem? (set views i w) k ≡ some d → Fine jobs d = each-set (Fine jobs) views i w
      ((λ _. refl), λ no. absurd (omega arith)) (λ k d n e. ((λ p. absurd (alone k d n e p)), b.idle k d e)) in (
        w,
        record {
          jobs = jobs;
          whole = let s = sum-set (λ u. u.parts) views i v w at in let p = b.whole in omega arith;
          once = λ y.
              let s = sum-set (λ u. times y u.out) views i v w at in let p = b.once y in let q = times-push_job number y items x in
              let m = times-push y (numbers_to (length v.jobs)) (length v.jobs + 1) in
              let a = ap (times y) (numbers-more (length v.jobs)) in
              let e = ap (λ n. times y (numbers_to n)) long in let f = ap (λ n. times y (numbers_to n)) long_was in
              let z = ap (same y) next in omega arith;
          many = let s = sum-set (λ u. length u.out) views i v w at in let p = b.many in let q = length-append items (x ∷ []) in omega arith;
          wait = All-push (MayWait number done stays jobs) items x
              (λ k d l. let t = b.wait k d l in (comes-more stays v.jobs x _ (subst (λ js. ComesFrom stays js _) (sym old) t.0), t.1))
              ((x, Contains-push v.jobs x, itself), undone);
          known = λ k d e. (fine k d e).0;
          idle = λ k d e. (fine k d e).1;
        },
        refl,
      )

  -- a job goes out
  pub takes : (i : ℕ) (v : Knows A) → 0 < v.parts → Pops Holds i v (λ x w. Taken number done stays v x w)
  takes i v part x items views b at =
      let old : v.jobs ≡ b.jobs = b.known i v at part in let long = ap length old in let out = v.out ++ number x ∷ [] in (
        knows v.parts v.jobs out,
        moved (x ∷ items) items views i v out part b at
            (λ y. let a = times-push y v.out (number x) in let c = times-append y (number x ∷ []) (map number items) in omega arith)
            (let a = length-append v.out (number x ∷ []) in omega arith)
            (All-tail (MayWait number done stays b.jobs) x items b.wait),
        record {
          view = refl;
          wait = subst (λ js. MayWait number done stays js x) (sym old) (All-head (MayWait number done stays b.jobs) x items b.wait);
          room = let m = b.many in let t = sum-at (λ u. length u.out) views i v at in omega arith;
        },
      )

  -- a job comes back
  pub puts : (cap i : ℕ) (v : Knows A) (x : A) → 0 < v.parts → v.out ≡ without_last v.out ++ number x ∷ [] → MayWait number done stays v.jobs x
      → Pushes Holds cap i v x (λ w. w ≡ knows v.parts v.jobs (without_last v.out))
  puts cap i v x part out may items views room b at =
      let old : v.jobs ≡ b.jobs = b.known i v at part in (
        knows v.parts v.jobs (without_last v.out),
        moved items (items ++ x ∷ []) views i v (without_last v.out) part b at
            (λ y. let q = times-push_job number y items x in let t = ap (times y) out ∙ times-push y (without_last v.out) (number x) in omega arith)
            (let q = length-append items (x ∷ []) in let t = ap length out ∙ length-append (without_last v.out) (number x ∷ []) in omega arith)
            (All-push (MayWait number done stays b.jobs) items x b.wait (subst (λ js. MayWait number done stays js x) old may)),
        refl,
      )

  -- a pass is cut off
  pub forks : (i : ℕ) (v : Knows A) → 1 < v.parts → Forks Holds i v (knows (v.parts - 1) v.jobs v.out) (knows 1 v.jobs [])
  forks i v part items views b at =
      let l : Knows A = knows (v.parts - 1) v.jobs v.out in let r : Knows A = knows 1 v.jobs [] in let vs : List (Knows A) = set views i l in
      let old : v.jobs ≡ b.jobs = b.known i v at (omega arith) in
      let fine : (k : ℕ) (d : Knows A) → get_elem? vs k ≡ some d → Fine b.jobs d = each-set (Fine b.jobs) views i l
      ((λ _. old), λ no. absurd (omega arith)) (λ k d _ e. (b.known k d e, b.idle k d e)) in
      let all : (k : ℕ) (d : Knows A) → get_elem? (vs ++ r ∷ []) k ≡ some d → Fine b.jobs d = λ k d e.
      ⊎_elim (λ x. fine k d x) (λ (is : r ≡ d). subst (Fine b.jobs) is ((λ _. old), λ no. absurd (omega arith))) (at_snoc vs r d k e) in record {
        jobs = b.jobs;
        whole = let s = sum-set (λ u. u.parts) views i v l at in let t = sum_by_push (λ u. u.parts) vs r in let p = b.whole in omega arith;
        once = λ x. let s = sum-set (λ u. times x u.out) views i v l at in let t = sum_by_push (λ u. times x u.out) vs r in let p = b.once x in omega arith;
        many = let s = sum-set (λ u. length u.out) views i v l at in let t = sum_by_push (λ u. length u.out) vs r in let p = b.many in omega arith;
        wait = b.wait;
        known = λ k d e. (all k d e).0;
        idle = λ k d e. (all k d e).1;
      }

  -- a pass is taken in
  pub merges : (i : ℕ) (v : Knows A) (other : ℕ) (u : Knows A) → 0 < v.parts
      → Merges Holds i v other u (knows (v.parts + u.parts) v.jobs (v.out ++ u.out)) (knows 0 [] [])
  merges i v other u part items views b at two at' =
      let both : Knows A = knows (v.parts + u.parts) v.jobs (v.out ++ u.out) in let spent : Knows A = knows 0 [] [] in
      let vs : List (Knows A) = set views i both in
      let old : v.jobs ≡ b.jobs = b.known i v at part in
      let fine : (k : ℕ) (d : Knows A) → get_elem? vs k ≡ some d → Fine b.jobs d = each-set (Fine b.jobs) views i both
      ((λ _. old), λ no. absurd (omega arith)) (λ k d _ e. (b.known k d e, b.idle k d e)) in
      let all : (k : ℕ) (d : Knows A) → get_elem? (set vs other spent) k ≡ some d → Fine b.jobs d = each-set (Fine b.jobs) vs other spent
      ((λ p. absurd (omega arith)), λ _. refl) (λ k d _ e. fine k d e) in record {
        jobs = b.jobs;
        whole = let s = sum-set (λ w. w.parts) views i v both at in let t = sum-set (λ w. w.parts) vs other u spent at' in let p = b.whole in omega arith;
        once = λ x.
            let s = sum-set (λ w. times x w.out) views i v both at in let t = sum-set (λ w. times x w.out) vs other u spent at' in
            let a = times-append x v.out u.out in let p = b.once x in omega arith;
        many =
            let s = sum-set (λ w. length w.out) views i v both at in let t = sum-set (λ w. length w.out) vs other u spent at' in
            let a = length-append v.out u.out in let p = b.many in omega arith;
        wait = b.wait;
        known = λ k d e. (all k d e).0;
        idle = λ k d e. (all k d e).1;
      }

  -- what waits and what is out with the pass are no more than the jobs
  pub counts : (i : ℕ) (v : Knows A) → 0 < v.parts → Learns Holds i v (λ items. length items + length v.out ≤ length v.jobs)
  counts i v part items views b at =
      let long = ap length (b.known i v at part) in let m = b.many in let t = sum-at (λ u. length u.out) views i v at in omega arith

  pub counts_waiting : (i : ℕ) (v : Knows A) → 0 < v.parts → Learns Holds i v (λ items. length items ≤ length v.jobs)
  counts_waiting i v part items views b at = let c = counts i v part items views b at in omega arith

  -- where the others' numbers are
  pub tells : (i : ℕ) (v : Knows A) → 0 < v.parts → Learns Holds i v (λ items. Told number v items)
  tells i v part items views b at =
      let long = ap length (b.known i v at part) in
      let total : (x : ℕ) → times x (map number items) + sum_by (λ u. times x u.out) views ≡ times x (numbers_to (length v.jobs)) = λ x.
      b.once x ∙ ap (λ n. times x (numbers_to n)) (sym long) in record {
        spread = record {
          outs = map (λ u. u.out) views;
          mine_is = contains-at (λ u. u.out) views i v at;
          once = λ x. let s = sum-map (times x) (λ (u : Knows A). u.out) views in let t = total x in omega arith;
        };
        alone = λ all x.
            let others : (k : ℕ) (u : Knows A) → get_elem? views k ≡ some u → k ≢ i → times x u.out ≡ 0 = λ k u e n.
            ap (times x) (b.idle k u e (let two = sum-two (λ d. d.parts) views i k v u (λ h. n (sym h)) at e in let p = b.whole in omega arith)) in
            let s = sum-alone (λ u. times x u.out) views i v others at in let t = total x in omega arith;
      }
