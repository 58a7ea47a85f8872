-- What a hand carries, from one call to the next.
use Rattle.std.proofs.Common.{◌≡◌, ℕ, ◌+◌, ◌<◌, ◌≤◌, Bool, List, [], ◌∷◌, ◌++◌, All, Option, Some, None, length, map, sym, refl, ap, ◌∙◌, subst, arith, length-append}
use Rattle.std.specs.Prelude.{vec_capacity}
use Rattle.std.proofs.lemmas.List.{map-append, length-map, append-nil}
use Rattle.std.proofs.lemmas.List.Elements.{All-push, All-append}
use Rattle.crossbeam_queue.specs.Fifo.{Held}
use Rattle.crossbeam_queue.specs.Passes.{view, IsSamePass}
use Rattle.relay.specs.declared.rule.Knows.{Knows}
use Rattle.relay.specs.declared.hand.Hand.{Hand}
use Rattle.relay.specs.declared.hand.Relay.{Relay}
use Rattle.relay.specs.Places.{knows, times, numbers_to, without_last, those_of, ComesFrom, Spread, Taken, Told, Carries}
use Rattle.relay.specs.Hands.{part, held, kept, IsHandOf}
use Rattle.relay.proofs.Comings.{without_last-push}

module _ {A : Type 0} (number : A → ℕ) (stays : A → A → Type 0) where
  -- a hand is of its relay while its pass is
  pub still : (r : Relay A) (h later : Hand A) → IsHandOf number stays r h → IsSamePass h.pass later.pass → part later ≡ part h
      → (view later.pass).jobs ≡ (view h.pass).jobs → Carries number stays (view later.pass) (held later) (kept later) (vec_capacity later.kept)
      → IsHandOf number stays r later × (part later ≡ part h)
  still r h later is pass parts jobs carries = (
    record {
      pass = (pass.0 ∙ is.pass.0, pass.2 ∙ is.pass.1);
      some_part = let p = is.some_part in omega arith;
      jobs = jobs ∙ is.jobs;
      carries = carries;
    },
    parts,
  )

  -- the same list in another place
  pub listed : (v : Knows A) (held : Option ℕ) (kept other : List A) (places others : ℕ) → other ≡ kept → others ≡ places
      → Carries number stays v held kept places → Carries number stays v held other others
  listed v held kept other places others e f c = subst (λ (p : List A × ℕ). Carries number stays v held p.0 p.1) (λ i. (sym e i, sym f i)) c

  -- where none is held
  pub free : (v : Knows A) (held : Option ℕ) (kept : List A) (places : ℕ) → held ≡ None → Carries number stays v held kept places → Carries number stays v None kept places
  free v held kept places none c = subst (λ h. Carries number stays v h kept places) none c

  with_held : (v : Knows A) (held : Option ℕ) (kept : List A) (places n : ℕ) → held ≡ Some n → Carries number stays v held kept places
      → v.out ≡ map number kept ++ n ∷ []
  with_held v held kept places n is c = c.out ∙ ap (λ h. map number kept ++ those_of h) is

  -- where none is held, those that are out are kept
  pub all_kept : (v : Knows A) (held : Option ℕ) (kept : List A) (places : ℕ) → held ≡ None → Carries number stays v held kept places → v.out ≡ map number kept
  all_kept v held kept places none c = c.out ∙ ap (λ h. map number kept ++ those_of h) none ∙ append-nil (map number kept)

  pub took : (done : A → Bool) (v w : Knows A) (held : Option ℕ) (kept : List A) (places n : ℕ) (x : A) → held ≡ None → n ≡ number x → Carries number stays v held kept places
      → Taken number done stays v x w → Carries number stays w (Some n) kept places
  took done v w held kept places n x none is c t = subst (λ u. Carries number stays u (Some n) kept places) (sym t.view) record {
    out = (λ i. all_kept v held kept places none c i ++ sym is i ∷ []);
    below = let a = length-append v.out (number x ∷ []) in let b = t.room in omega arith;
    room = c.room;
    of = c.of;
  }

  pub out_last : (v : Knows A) (held : Option ℕ) (kept : List A) (places n : ℕ) → held ≡ Some n → Carries number stays v held kept places
      → v.out ≡ without_last v.out ++ n ∷ []
  out_last v held kept places n is c =
      let e = with_held v held kept places n is c in e ∙ ap (λ o. o ++ n ∷ []) (sym (ap without_last e ∙ without_last-push (map number kept) n))

  pub returned : (v w : Knows A) (held : Option ℕ) (kept : List A) (places n : ℕ) → held ≡ Some n → Carries number stays v held kept places
      → w ≡ knows v.parts v.jobs (without_last v.out) → Carries number stays w None kept places
  returned v w held kept places n is c t = subst (λ u. Carries number stays u None kept places) (sym t) record {
    out = ap without_last (with_held v held kept places n is c) ∙ without_last-push (map number kept) n ∙ sym (append-nil (map number kept));
    below = let a = ap length (out_last v held kept places n is c) in let b = length-append (without_last v.out) (n ∷ []) in let d = c.below in omega arith;
    room = c.room;
    of = c.of;
  }

  pub keeps : (v : Knows A) (held : Option ℕ) (kept : List A) (places : ℕ) (x : A) → held ≡ Some (number x) → ComesFrom stays v.jobs x → Carries number stays v held kept places
      → Carries number stays v None (kept ++ x ∷ []) places
  keeps v held kept places x is of c = record {
    out = with_held v held kept places (number x) is c ∙ sym (map-append number kept (x ∷ [])) ∙ sym (append-nil (map number (kept ++ x ∷ [])));
    below = c.below;
    room = c.room;
    of = All-push (ComesFrom stays v.jobs) kept x c.of of;
  }

  pub room_left : (v : Knows A) (held : Option ℕ) (kept : List A) (places n : ℕ) → held ≡ Some n → Carries number stays v held kept places → length kept < places
  room_left v held kept places n is c =
      let a = ap length (with_held v held kept places n is c) in let b = length-append (map number kept) (n ∷ []) in
      let d = length-map kept number in let e = c.below in let f = c.room in omega arith

  -- one more is taken into the list of a hand that holds none
  pub drained : (done : A → Bool) (v w : Knows A) (kept : List A) (places : ℕ) (x : A) → Carries number stays v None kept places
      → Taken number done stays v x w → (length kept < places) × Carries number stays w None (kept ++ x ∷ []) places
  drained done v w kept places x c t =
      let d = took done v w None kept places (number x) x refl refl c t in (
        room_left w (Some (number x)) kept places (number x) refl d,
        keeps w (Some (number x)) kept places x refl (subst (λ js. ComesFrom stays js x) (sym (ap (λ u. u.jobs) t.view)) t.wait.0) d,
      )

  pub joined : (v u w : Knows A) (mine theirs : List A) (places others : ℕ) → Carries number stays v None mine places → Carries number stays u None theirs others
      → u.jobs ≡ v.jobs → w ≡ knows (v.parts + u.parts) v.jobs (v.out ++ u.out) → length w.out ≤ length w.jobs
      → (length mine + length theirs ≤ places) × Carries number stays w None (mine ++ theirs) places
  joined v u w mine theirs places others c d same e low =
      let out : w.out ≡ map number (mine ++ theirs) =
      ap (λ z. z.out) e ∙ (λ i. all_kept v None mine places refl c i ++ all_kept u None theirs others refl d i) ∙ sym (map-append number mine theirs) in
      let jobs : w.jobs ≡ v.jobs = ap (λ z. z.jobs) e in let long = ap length jobs in let room = c.room in (
        (let a = ap length out in let b = length-map (mine ++ theirs) number in let l = length-append mine theirs in omega arith),
        record {
          out = out ∙ sym (append-nil (map number (mine ++ theirs)));
          below = low;
          room = omega arith;
          of = subst (λ js. All (ComesFrom stays js) (mine ++ theirs)) (sym jobs)
              (All-append (ComesFrom stays v.jobs) mine theirs c.of (subst (λ js. All (ComesFrom stays js) theirs) same d.of));
        },
      )

  -- no job
  no_numbers : (items : List A) → length items ≡ 0 → map number items ≡ []
  no_numbers [] e = refl
  no_numbers (j ∷ js) e = absurd (omega arith)

  -- where the queue was empty, each number was out with a hand
  pub spread_out : (v : Knows A) (held : Option ℕ) (kept jobs : List A) (places : ℕ) → held ≡ None → Carries number stays v held kept places → v.jobs ≡ jobs
      → Held 0 (λ items. Told number v items) → Spread [] (map number kept) (length jobs)
  spread_out v held kept jobs places none c is h =
      subst (λ js. Spread [] (map number kept) (length js)) is
      (subst (λ mine. Spread [] mine (length v.jobs)) (all_kept v held kept places none c)
      (subst (λ ns. Spread ns v.out (length v.jobs)) (no_numbers h.0 h.1) h.2.spread))

  -- and where one hand has all parts, it has all numbers
  pub emptied : (v : Knows A) (kept jobs : List A) (places : ℕ) → Carries number stays v None kept places → v.parts ≡ 1024 → v.jobs ≡ jobs
      → Held 0 (λ items. Told number v items) → (x : ℕ) → times x (map number kept) ≡ times x (numbers_to (length jobs))
  emptied v kept jobs places c parts is h x =
      let f = h.2.alone parts x in let z = ap (times x) (no_numbers h.0 h.1) in
      let o = ap (times x) (all_kept v None kept places refl c) in let m = ap (λ js. times x (numbers_to (length js))) is in omega arith
