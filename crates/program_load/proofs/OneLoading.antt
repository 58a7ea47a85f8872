-- Over given files loading comes to one thing.
use Rattle.std.proofs.Common.{◌≡◌, ◌⊎◌, inl, inr, ℕ, zero, suc, ◌+◌, ◌<◌, ◌≤◌, List, Option, Some, None, length, refl, sym, ◌∙◌, ap, subst, arith}
use Rattle.std.specs.FinMap.{get}
use Rattle.std.proofs.lemmas.Bool.{cases_lt}
use Rattle.m2_io.specs.Files.{Files}
use Rattle.object_file.specs.Contents.{Contents}
use Rattle.object_file.specs.Validity.{IsObject}
use Rattle.object_file.proofs.OneTelling.{fine, one_code, one_object, one_place}
use Rattle.m2_link.specs.Refusals.{AreLinkedTo, Refusal, refusal}
use Rattle.program_load.specs.Closure.{Progress, longer, next_module, start}
use Rattle.program_load.specs.Loads.{Asks, Blocks, Failure, Finds, Loading, Loads, Reaches, Reads, Spoils, Stops, at_object, bad, begins, broken, fails, is_there, linked, links, nothing, not_there, refuses, refused, spoilt, stops, then_asks, too_long, too_many}
use Rattle.program_load.specs.Shelves.{HasObject, object_file}
use Rattle.program_load.proofs.Orders.{one_program}
use Rattle.program_load.proofs.Reaching.{asked_one_more}

some_one : {A : Type 0} (x y : A) → Some x ≡ Some y → x ≡ y
some_one x y e = cc

none_some : {A : Type 0} (o : Option A) (x : A) → o ≡ None → o ≡ Some x → ⊥
none_some o x e f = let h : None ≡ Some x = sym e ∙ f in cc

refusal_some : (o : Option Refusal) (r : Refusal) → o ≡ None → o ≡ Some r → ⊥
refusal_some o r e f = let h : None ≡ Some r = sym e ∙ f in cc

module _ (files : Files) where
  same_bytes : (name these those : List ℕ) → HasObject (Some files) name (Some these) → HasObject (Some files) name (Some those) → these ≡ those
  same_bytes name these those a b = some_one these those (sym a ∙ b)

  -- ** One object

  spoilt_once : (name bytes : List ℕ) (f g : Failure) → Spoils name bytes f → Spoils name bytes g → f ≡ g
  spoilt_once name bytes _ _ (too_long a) (too_long b) = refl
  spoilt_once name bytes _ _ (too_long a) (bad b at) = absurd (omega (arith, a, b))
  spoilt_once name bytes _ _ (bad b at) (too_long a) = absurd (omega (arith, a, b))
  spoilt_once name bytes _ _ (bad {offset = i} {code = c} a at) (bad {offset = j} {code = d} b at') =
      ap (λ (k : ℕ). broken name k c) (one_place bytes i c j d at at') ∙ ap (λ (k : ℕ). broken name j k) (one_code bytes i c j d at at')

  blocked_once : (p : Progress) (name bytes : List ℕ) (f g : Failure) → Blocks p name bytes f → Blocks p name bytes g → f ≡ g
  blocked_once p name bytes _ _ (too_many a) (too_many b) = refl
  blocked_once p name bytes _ g (too_many a) (spoilt few h) = absurd (omega (arith, a, few))
  blocked_once p name bytes f _ (spoilt few h) (too_many a) = absurd (omega (arith, a, few))
  blocked_once p name bytes f g (spoilt few h) (spoilt few' k) = spoilt_once name bytes f g h k

  pub one_stop : (p : Progress) (name : List ℕ) (f g : Failure) → Stops (Some files) p name f → Stops (Some files) p name g → f ≡ g
  one_stop p name _ _ (nothing none has) (nothing none' has') = refl
  one_stop p name _ g (nothing none has) (at_object {bytes = bytes} has' h) = absurd (none_some (get files (object_file name)) bytes has has')
  one_stop p name f _ (at_object {bytes = bytes} has' h) (nothing none has) = absurd (none_some (get files (object_file name)) bytes has has')
  one_stop p name f g (at_object {bytes = these} has h) (at_object {bytes = those} has' k) =
      blocked_once p name those f g (subst (λ b. Blocks p name b f) (same_bytes name these those has has') h) k

  spoils_no_object : (name bytes : List ℕ) (o : Contents) (f : Failure) → length bytes ≤ 67108864 → IsObject bytes o → Spoils name bytes f → ⊥
  spoils_no_object name bytes o _ short is (too_long long) = omega (arith, short, long)
  spoils_no_object name bytes o _ short is (bad {offset = i} {code = c} short' at) = fine bytes o i c is at

  blocks_no_read : (p q : Progress) (name bytes : List ℕ) (f : Failure) → Reads p bytes q → Blocks p name bytes f → ⊥
  blocks_no_read p q name bytes _ reads (too_many many) = omega (arith, reads.few, many)
  blocks_no_read p q name bytes f reads (spoilt few h) = spoils_no_object name bytes reads.object f reads.short reads.is h

  stops_no_ask : (p q : Progress) (name : List ℕ) (f : Failure) → Asks (Some files) p name q → Stops (Some files) p name f → ⊥
  stops_no_ask p _ name _ (not_there some has) (nothing none has') = some none
  stops_no_ask p _ name f (not_there some has) (at_object {bytes = bytes} has' h) = none_some (get files (object_file name)) bytes has has'
  stops_no_ask p q name _ (is_there {bytes = bytes} has reads) (nothing none has') = none_some (get files (object_file name)) bytes has' has
  stops_no_ask p q name f (is_there {bytes = these} has reads) (at_object {bytes = those} has' h) =
      blocks_no_read p q name those f (subst (λ b. Reads p b q) (same_bytes name these those has has') reads) h

  read_once : (p q r : Progress) (bytes : List ℕ) → Reads p bytes q → Reads p bytes r → q ≡ r
  read_once p q r bytes a b = a.longer ∙ ap (longer p) (one_object bytes a.object b.object a.is b.is) ∙ sym b.longer

  one_ask : (p q r : Progress) (name : List ℕ) → Asks (Some files) p name q → Asks (Some files) p name r → q ≡ r
  one_ask p _ _ name (not_there some has) (not_there some' has') = refl
  one_ask p _ r name (not_there some has) (is_there {bytes = bytes} has' reads) = absurd (none_some (get files (object_file name)) bytes has has')
  one_ask p q _ name (is_there {bytes = bytes} has' reads) (not_there some has) = absurd (none_some (get files (object_file name)) bytes has has')
  one_ask p q r name (is_there {bytes = these} has reads) (is_there {bytes = those} has' reads') =
      read_once p q r those (subst (λ b. Reads p b q) (same_bytes name these those has has') reads) reads'

  -- ** All objects

  module _ (main : List ℕ) where
    one_at : (n : ℕ) (p q : Progress) → Reaches (Some files) main p → Reaches (Some files) main q → p.asked ≡ n → q.asked ≡ n → p ≡ q
    one_at n _ _ begins begins e f = refl
    one_at n _ q begins (then_asks {p = q'} {name = name} reached next asks) e f = absurd (omega (arith, asked_one_more (Some files) q' q name asks, e, f))
    one_at n p _ (then_asks {p = p'} {name = name} reached next asks) begins e f = absurd (omega (arith, asked_one_more (Some files) p' p name asks, e, f))
    one_at zero p q (then_asks {p = p'} {name = name} reached next asks) (then_asks reached' next' asks') e f = absurd (omega (arith, asked_one_more (Some files) p' p name asks, e))
    one_at (suc n) p q (then_asks {p = p'} {name = name} reached next asks) (then_asks {p = q'} {name = name'} reached' next' asks') e f =
        let a : p'.asked ≡ n = omega (arith, asked_one_more (Some files) p' p name asks, e) in
        let b : q'.asked ≡ n = omega (arith, asked_one_more (Some files) q' q name' asks', f) in
        let same : p' ≡ q' = one_at n p' q' reached reached' a b in
        let named : name ≡ name' = some_one name name' (sym next ∙ ap next_module same ∙ next') in
        one_ask q' p q name' (subst (λ (x : Progress). Asks (Some files) x name' p) same (subst (λ m. Asks (Some files) p' m p) named asks)) asks'

    -- a module is asked for in this state
    record GoesOn (p : Progress) : Type 0 where
      name : List ℕ
      after : Progress
      next : next_module p ≡ Some name
      asks : Asks (Some files) p name after

    goes_by : (p q : Progress) → Reaches (Some files) main p → Reaches (Some files) main q → p.asked < q.asked → GoesOn p
    goes_by p _ reached begins less = absurd (omega (arith, less))
    goes_by p q reached (then_asks {p = q'} {name = name} reached' next asks) less = on (cases_lt p.asked q'.asked) (λ lt. goes_by p q' reached reached' lt) where
      more : q.asked ≡ q'.asked + 1
      more = asked_one_more (Some files) q' q name asks

      on : (p.asked < q'.asked) ⊎ (q'.asked ≤ p.asked) → (p.asked < q'.asked → GoesOn p) → GoesOn p
      on (inl lt) by = by lt
      on (inr le) by =
          let same : q' ≡ p = one_at q'.asked q' p reached' reached refl (omega (arith, le, less, more)) in
          subst GoesOn same (record { name = name; after = q; next = next; asks = asks })

    -- what loading comes to in its last state
    data Ends (p : Progress) : Loading → Type 0 where
      stopped : {name : List ℕ} {f : Failure} → next_module p ≡ Some name → Stops (Some files) p name f → Ends p (fails f)
      unlinked : {r : Refusal} → next_module p ≡ None → refusal p.objects ≡ Some r → Ends p (fails (refused r))
      all_linked : {program : List Contents} → next_module p ≡ None → AreLinkedTo p.objects program → Ends p (linked program)

    ends_once : (p : Progress) (this that : Loading) → Ends p this → Ends p that → this ≡ that
    ends_once p _ _ (stopped {name = name} {f = f} next h) (stopped {name = other} {f = g} next' k) =
        ap fails (one_stop p other f g (subst (λ n. Stops (Some files) p n f) (some_one name other (sym next ∙ next')) h) k)
    ends_once p _ _ (stopped {name = name} next h) (unlinked none k) = absurd (none_some (next_module p) name none next)
    ends_once p _ _ (stopped {name = name} next h) (all_linked none k) = absurd (none_some (next_module p) name none next)
    ends_once p _ _ (unlinked none k) (stopped {name = name} next h) = absurd (none_some (next_module p) name none next)
    ends_once p _ _ (unlinked {r = r} none h) (unlinked {r = s} none' k) = ap (λ (x : Refusal). fails (refused x)) (some_one r s (sym h ∙ k))
    ends_once p _ _ (unlinked {r = r} none h) (all_linked none' k) = absurd (refusal_some (refusal p.objects) r k.accepted h)
    ends_once p _ _ (all_linked none k) (stopped {name = name} next h) = absurd (none_some (next_module p) name none next)
    ends_once p _ _ (all_linked none' k) (unlinked {r = r} none h) = absurd (refusal_some (refusal p.objects) r k.accepted h)
    ends_once p _ _ (all_linked {program = a} none h) (all_linked {program = b} none' k) = ap linked (one_program p.objects a b h k)

    ends_there : (p : Progress) (loading : Loading) → Ends p loading → GoesOn p → ⊥
    ends_there p _ (stopped {name = name} {f = f} next h) g = stops_no_ask p g.after g.name f g.asks (subst (λ n. Stops (Some files) p n f) (some_one name g.name (sym next ∙ g.next)) h)
    ends_there p _ (unlinked none h) g = none_some (next_module p) g.name none g.next
    ends_there p _ (all_linked none h) g = none_some (next_module p) g.name none g.next

    record Comes (loading : Loading) : Type 0 where
      last : Progress
      reached : Reaches (Some files) main last
      ends : Ends last loading

    comes : (loading : Loading) → Loads (Some files) main loading → Comes loading
    comes _ (stops {p = p} reached next h) = record { last = p; reached = reached; ends = stopped next h }
    comes _ (refuses {p = p} reached none h) = record { last = p; reached = reached; ends = unlinked none h }
    comes _ (links {p = p} reached none h) = record { last = p; reached = reached; ends = all_linked none h }

    comes_once : (this that : Loading) → Comes this → Comes that → this ≡ that
    comes_once this that a b = on (cases_lt a.last.asked b.last.asked) (cases_lt b.last.asked a.last.asked) where
      on : (a.last.asked < b.last.asked) ⊎ (b.last.asked ≤ a.last.asked) → (b.last.asked < a.last.asked) ⊎ (a.last.asked ≤ b.last.asked) → this ≡ that
      on (inl lt) x = absurd (ends_there a.last this a.ends (goes_by a.last b.last a.reached b.reached lt))
      on (inr le) (inl lt) = absurd (ends_there b.last that b.ends (goes_by b.last a.last b.reached a.reached lt))
      on (inr le) (inr ge) =
          let same : a.last ≡ b.last = one_at b.last.asked a.last b.last a.reached b.reached (omega (arith, le, ge)) refl in
          ends_once b.last this that (subst (λ (x : Progress). Ends x this) same a.ends) b.ends

    pub one_loading_lem : (this that : Loading) → Loads (Some files) main this → Loads (Some files) main that → this ≡ that
    one_loading_lem this that a b = comes_once this that (comes this a) (comes that b)

  -- ** A single object

  pub one_found : (name : List ℕ) (this that : Contents) → Finds (Some files) name this → Finds (Some files) name that → this ≡ that
  one_found name this that a b = one_object b.bytes this that (subst (λ x. IsObject x this) (same_bytes name a.bytes b.bytes a.has b.has) a.is) b.is

  pub found_no_stop : (name : List ℕ) (object : Contents) (f : Failure) → Finds (Some files) name object → Stops (Some files) (start name) name f → ⊥
  found_no_stop name object f a h = stops_no_ask (start name) (longer (start name) object) name f
      (is_there a.has (record { few = omega arith; short = a.short; object = object; is = a.is; longer = refl })) h
