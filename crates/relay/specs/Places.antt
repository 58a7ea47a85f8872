-- Where each job is: in the queue, or out with a pass.
use Rattle.std.specs.Prelude.{◌≡◌, ℕ, ◌+◌, ◌<◌, ◌≤◌, ◌==◌, Bool, false, List, [], ◌∷◌, ◌++◌, length, map, All, Option}
use Rattle.std.specs.Prelude.{Some, None, sum_by, count_by}
use Rattle.std.specs.List.{Contains, range_with_len}
use mathlib.Core.Option.{some}
use lib.ListN.{get_elem?}
use Rattle.relay.specs.declared.rule.Knows.{Knows}

-- ** Numbers

-- how often x stands in the list
abbrev pub times : (x : ℕ) → List ℕ → ℕ
times x ys = count_by (λ y. y == x) ys

-- the numbers of so many jobs: 1, 2 and so on
abbrev pub numbers_to : (many : ℕ) → List ℕ
numbers_to many = range_with_len 1 many

abbrev pub without_last : List ℕ → List ℕ
without_last [] = []
without_last (x ∷ []) = []
without_last (x ∷ y ∷ ys) = x ∷ without_last (y ∷ ys)

-- the number that is held, if any
abbrev pub those_of : Option ℕ → List ℕ
those_of None = []
those_of (Some x) = x ∷ []

-- Each number is once among those that wait and those that are out, where one has these out.
pub record Spread (waiting mine : List ℕ) (many : ℕ) : Type 0 where
  pub outs : List (List ℕ)
  pub mine_is : Contains outs mine
  pub once : (x : ℕ) → times x waiting + sum_by (times x) outs ≡ times x (numbers_to many)

-- ** What a pass knows

abbrev pub knows : {A : Type 0} → ℕ → List A → List ℕ → Knows A
knows parts jobs out = record { parts = parts; jobs = jobs; out = out }

-- it came as one of these jobs
abbrev pub ComesFrom : {A : Type 0} → (stays : A → A → Type 0) → List A → A → Type 0
ComesFrom {A} stays jobs job = (first : A) × Contains jobs first × stays first job

-- what a hand's pass has out are the numbers of its kept jobs, and the one that it holds
pub record Carries {A : Type 0} (number : A → ℕ) (stays : A → A → Type 0) (v : Knows A) (held : Option ℕ)
    (kept : List A) (places : ℕ) : Type 0 where
  pub out : v.out ≡ map number kept ++ those_of held
  pub below : length v.out ≤ length v.jobs
  pub room : length v.jobs ≤ places
  pub of : All (ComesFrom stays v.jobs) kept

-- what a pass is told of what waits
pub record Told {A : Type 0} (number : A → ℕ) (v : Knows A) (items : List A) : Type 0 where
  pub spread : Spread (map number items) v.out (length v.jobs)
  pub alone : v.parts ≡ 1024 → (x : ℕ)
      → times x (map number items) + times x v.out ≡ times x (numbers_to (length v.jobs))

module _ {A : Type 0} (number : A → ℕ) (done : A → Bool) (stays : A → A → Type 0) where
  -- a job that may wait in the queue
  abbrev pub MayWait : List A → A → Type 0
  MayWait jobs job = ComesFrom stays jobs job × (done job ≡ false)

  -- The numbers in the queue and those that are out with passes are those of the jobs, each once.
  pub record Placed (items : List A) (views : List (Knows A)) : Type 0 where
    pub jobs : List A
    pub whole : sum_by (λ v. v.parts) views ≡ 1024
    pub once : (x : ℕ)
        → times x (map number items) + sum_by (λ v. times x v.out) views ≡ times x (numbers_to (length jobs))
    pub many : length items + sum_by (λ v. length v.out) views ≡ length jobs
    pub wait : All (MayWait jobs) items
    pub known : (i : ℕ) (v : Knows A) → get_elem? views i ≡ some v → 0 < v.parts → v.jobs ≡ jobs
    pub idle : (i : ℕ) (v : Knows A) → get_elem? views i ≡ some v → v.parts ≡ 0 → v.out ≡ []

  -- a job went out with the pass
  pub record Taken (v : Knows A) (job : A) (w : Knows A) : Type 0 where
    pub view : w ≡ knows v.parts v.jobs (v.out ++ number job ∷ [])
    pub wait : MayWait v.jobs job
    pub room : length v.out < length v.jobs
