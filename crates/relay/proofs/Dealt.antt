-- Jobs that come in their order, and hands that are dealt.
use Rattle.std.proofs.Common.{◌≡◌, ℕ, ◌+◌, ◌<◌, ◌≤◌, Bool, false, List, [], ◌∷◌, ◌++◌, All, Option, length, map, get_or, sum_by, sym, refl, ap, ◌∙◌, subst, arith, length-append}
use Rattle.std.specs.Prelude.{vec_capacity}
use Rattle.std.proofs.lemmas.List.{append-nil}
use Rattle.std.proofs.Math.ListN.{get_or-map}
use Rattle.std.proofs.Math.Seq.{get_or-append_seam}
use Rattle.std.proofs.lemmas.List.FromFn.{get_or-range_with_len}
use Rattle.std.proofs.lemmas.List.Elements.{All-push, All-nil}
use Rattle.std.proofs.lemmas.List.Sums.{sum_by_push}
use Rattle.crossbeam_queue.specs.Passes.{Pass, view, IsPassOf}
use Rattle.relay.specs.declared.rule.Knows.{Knows}
use Rattle.relay.specs.declared.hand.Hand.{Hand}
use Rattle.relay.specs.declared.hand.Relay.{Relay}
use Rattle.relay.specs.Places.{knows, numbers_to, Carries}
use Rattle.relay.specs.Hands.{jobs_of, many, part, held, kept, IsEmpty, IsHandOf}

module _ {A : Type 0} where
  -- these came, and those are to come
  pub record Coming (jobs : List A) (v : Knows A) (rest : List A) : Type 0 where
    pub parts : v.parts ≡ 1024
    pub out : v.out ≡ []
    pub jobs_are : v.jobs ++ rest ≡ jobs

  pub first : (jobs : List A) (v : Knows A) (rest : List A) → v ≡ knows 1024 [] [] → rest ≡ jobs → Coming jobs v rest
  first jobs v rest e is = record { parts = ap (λ u. u.parts) e; out = ap (λ u. u.out) e; jobs_are = ap (λ u. u.jobs ++ rest) e ∙ is }

  pub step : (jobs : List A) (v w : Knows A) (job : A) (rest : List A) → Coming jobs v (job ∷ rest) → w ≡ knows v.parts (v.jobs ++ job ∷ []) v.out → Coming jobs w rest
  step jobs v w job rest c e = subst (λ u. Coming jobs u rest) (sym e) record { parts = c.parts; out = c.out; jobs_are = moved v.jobs ∙ c.jobs_are }
    where
      moved : (came : List A) → (came ++ job ∷ []) ++ rest ≡ came ++ job ∷ rest
      moved [] = refl
      moved (x ∷ came) = ap (λ l. x ∷ l) (moved came)

  pub room : (jobs : List A) (v : Knows A) (job : A) (rest : List A) → Coming jobs v (job ∷ rest) → length v.jobs < length jobs
  room jobs v job rest c = let a = ap length c.jobs_are in let b = length-append v.jobs (job ∷ rest) in omega arith

  at : (P : A → Type 0) (jobs : List A) (v : Knows A) (job : A) (rest : List A) → Coming jobs v (job ∷ rest)
      → ((k : ℕ) (d : A) → k < length jobs → P (get_or jobs k d)) → P job
  at P jobs v job rest c all =
      subst P (ap (λ js. get_or js (length v.jobs) job) (sym c.jobs_are) ∙ get_or-append_seam v.jobs job rest job) (all (length v.jobs) job (room jobs v job rest c))

  pub ends : (jobs : List A) (v : Knows A) (rest : List A) → rest ≡ [] → Coming jobs v rest → v ≡ knows 1024 jobs []
  ends jobs v rest none c =
      let all : v.jobs ≡ jobs = sym (append-nil v.jobs) ∙ ap (λ r. v.jobs ++ r) (sym none) ∙ c.jobs_are in
      λ i. knows (c.parts i) (all i) (c.out i)

  -- the number of a job is its place
  pub number-at : (number : A → ℕ) (jobs : List A) (k : ℕ) (d : A) → map number jobs ≡ numbers_to (length jobs) → k < length jobs → number (get_or jobs k d) ≡ k + 1
  number-at number jobs k d order l =
      sym (get_or-map number jobs k d) ∙ ap (λ ns. get_or ns k (number d)) order ∙ get_or-range_with_len 1 (length jobs) k (number d) l ∙ (omega arith)

  pub next : (number : A → ℕ) (jobs : List A) (v : Knows A) (job : A) (rest : List A) → map number jobs ≡ numbers_to (length jobs) → Coming jobs v (job ∷ rest) → number job ≡ length v.jobs + 1
  next number jobs v job rest order c =
      ap number (sym (ap (λ js. get_or js (length v.jobs) job) (sym c.jobs_are) ∙ get_or-append_seam v.jobs job rest job)) ∙ number-at number jobs (length v.jobs) job order (room jobs v job rest c)

  pub undone : (done : A → Bool) (jobs : List A) (v : Knows A) (job : A) (rest : List A) → All (λ j. done j ≡ false) jobs → Coming jobs v (job ∷ rest) → done job ≡ false
  undone done jobs v job rest all c = at (λ j. done j ≡ false) jobs v job rest c all

  -- ** Hands

  pub dealt : (number : A → ℕ) (stays : A → A → Type 0) (r : Relay A) (h : Hand A) (p : Pass A (Knows A)) (parts : ℕ) → h.pass ≡ p → IsEmpty h → many r ≤ vec_capacity h.kept
      → IsPassOf r.queue p → view p ≡ knows parts (jobs_of r) [] → 0 < parts → IsHandOf number stays r h × (part h ≡ parts)
  dealt number stays r h p parts is empty long of v some =
      let w : view h.pass ≡ knows parts (jobs_of r) [] = ap (λ (q : Pass A (Knows A)). view q) is ∙ v in let n : part h ≡ parts = ap (λ u. u.parts) w in (
        record {
          pass = subst (λ (q : Pass A (Knows A)). IsPassOf r.queue q) (sym is) of;
          some_part = omega arith;
          jobs = ap (λ u. u.jobs) w;
          carries = subst (λ u. Carries number stays u (held h) (kept h) (vec_capacity h.kept)) (sym w)
              (subst (λ (t : Option ℕ × List A). Carries number stays (knows parts (jobs_of r) []) t.0 t.1 (vec_capacity h.kept)) (λ i. (sym empty.0 i, sym empty.1 i))
              record { out = refl; below = omega arith; room = long; of = All-nil _ });
        },
        n,
      )

  pub pushed : (number : A → ℕ) (stays : A → A → Type 0) (r : Relay A) (hands all : List (Hand A)) (h : Hand A) (n : ℕ) → all ≡ hands ++ h ∷ []
      → All (IsHandOf number stays r) hands → All IsEmpty hands → IsHandOf number stays r h × (part h ≡ n) → IsEmpty h
      → All (IsHandOf number stays r) all × All IsEmpty all × (sum_by part all ≡ sum_by part hands + n)
  pushed number stays r hands all h n e of empty one none =
      subst (λ (ks : List (Hand A)). All (IsHandOf number stays r) ks × All IsEmpty ks × (sum_by part ks ≡ sum_by part hands + n)) (sym e)
      (All-push (IsHandOf number stays r) hands h of one.0, All-push IsEmpty hands h empty none, (let t = sum_by_push part hands h in let p = one.1 in omega arith))
