-- What stays from turn to turn.
use Rattle.std.proofs.Common.{◌≡◌, ℕ, ◌<◌, Bool, true, List, [], ◌++◌, All, length, sym, ap, ◌∙◌, arith, append_assoc}
use Rattle.std.specs.Prelude.{slice_index_or}
use Rattle.std.proofs.lemmas.List.{append-nil}
use Rattle.std.proofs.lemmas.List.Elements.{All-nil, All-append, All-contains}
use Rattle.relay.specs.declared.hand.Hand.{Hand}
use Rattle.relay.specs.declared.hand.Relay.{Relay}
use Rattle.relay.specs.Places.{ComesFrom}
use Rattle.relay.specs.Hands.{part, Rests, AllHands, KeepsDone}
use Rattle.relay.proofs.Sums.{sum-each}

module _ {A : Type 0} where
  pub none_more : (done : A → Bool) (kept : List A) → KeepsDone done kept kept
  none_more done kept = record { more = []; is = sym (append-nil kept); all_done = All-nil _ }

  pub more_and_more : (done : A → Bool) (a b c : List A) → KeepsDone done a b → KeepsDone done b c → KeepsDone done a c
  more_and_more done a b c m n = record {
    more = m.more ++ n.more;
    is = n.is ∙ ap (λ l. l ++ n.more) m.is ∙ append_assoc a m.more n.more;
    all_done = All-append (λ job. done job ≡ true) m.more n.more m.all_done n.all_done;
  }

  -- what holds of the jobs as they came, and stays, holds of what comes from them
  pub holds_on : (stays : A → A → Type 0) (P : A → Type 0) (jobs : List A) (job : A) → ((first later : A) → P first → stays first later → P later) → All P jobs
      → ComesFrom stays jobs job → P job
  holds_on stays P jobs job law all c = law c.0 job (All-contains P jobs c.0 all c.1) c.2

  pub comes_on : (stays : A → A → Type 0) (jobs : List A) (job later : A) → ((a b c : A) → stays a b → stays b c → stays a c)
      → ComesFrom stays jobs job → stays job later → ComesFrom stays jobs later
  comes_on stays jobs job later law c s = (c.0, c.1, law c.0 job later c.2 s)

  -- all hands went on as hands of the relay, each with its part
  pub all_went_on : (number : A → ℕ) (stays : A → A → Type 0) (r : Relay A) (before after : List (Hand A)) → length after ≡ length before
      → ((k : ℕ) (d : Hand A) → k < length before
      → Rests number stays r (slice_index_or after k d) × (part (slice_index_or after k d) ≡ part (slice_index_or before k d)))
      → AllHands number stays r before → AllHands number stays r after
  all_went_on number stays r before after long on all = record {
    order = all.order;
    each = λ k d l. (on k d (omega arith)).0.0;
    whole = sum-each part before after long (λ k d l. (on k d l).1) ∙ all.whole;
  }
