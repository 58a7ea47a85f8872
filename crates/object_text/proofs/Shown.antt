-- A text that is written piece by piece.
use Rattle.std.proofs.Common.{◌≡◌, ℕ, zero, suc, ◌+◌, ◌≤◌, List, [], ◌∷◌, ◌++◌, length, take, min, Option, Some, None, refl, sym, ap, subst, ◌∙◌, arith, append_assoc, append-nil}
use Rattle.std.specs.Prelude.{Result, Ok, Err, OnOk, OnErr}
use Rattle.m2_io.specs.Causes.{Rose}
use Rattle.m2_io.specs.Written.{with_bytes, WritesPart}

-- of the whole text all but the rest was written
pub record Shown (old now : Option (List ℕ)) (whole rest : List ℕ) : Type 0 where
  pub done : List ℕ
  pub whole_is : whole ≡ done ++ rest
  pub written : now ≡ with_bytes old done

nothing : (w : Option (List ℕ)) → w ≡ with_bytes w []
nothing None = refl
nothing (Some x) = ap Some (sym (append-nil x))

joined : (w : Option (List ℕ)) (a b : List ℕ) → with_bytes (with_bytes w a) b ≡ with_bytes w (a ++ b)
joined None a b = refl
joined (Some x) a b = ap Some (append_assoc x a b)

front_taken : (n : ℕ) (a b : List ℕ) → take (min n (length a)) (a ++ b) ≡ take n a
front_taken zero a b = let e : min 0 (length a) ≡ 0 = omega arith in ap (λ (k : ℕ). take k (a ++ b)) e
front_taken (suc n) [] b = let e : min (suc n) 0 ≡ 0 = omega arith in ap (λ (k : ℕ). take k b) e
front_taken (suc n) (x ∷ a) b = let e : min (suc n) (suc (length a)) ≡ suc (min n (length a)) = omega arith in ap (λ (k : ℕ). take k (x ∷ (a ++ b))) e ∙ ap (λ (t : List ℕ). x ∷ t) (front_taken n a b)

back_taken : (n : ℕ) (a b : List ℕ) → take (length a + n) (a ++ b) ≡ a ++ take n b
back_taken n [] b = let e : 0 + n ≡ n = omega arith in ap (λ (k : ℕ). take k b) e
back_taken n (x ∷ a) b = let e : suc (length a) + n ≡ suc (length a + n) = omega arith in ap (λ (k : ℕ). take k (x ∷ (a ++ b))) e ∙ ap (λ (t : List ℕ). x ∷ t) (back_taken n a b)

pub shown_start : (w : Option (List ℕ)) (whole rest : List ℕ) → whole ≡ rest → Shown w w whole rest
shown_start w whole rest e = record { done = []; whole_is = e; written = nothing w }

-- a piece more
pub shown_more : (old now new : Option (List ℕ)) (whole rest piece after : List ℕ) → Shown old now whole rest → rest ≡ piece ++ after → new ≡ with_bytes now piece → Shown old new whole after
shown_more old now new whole rest piece after s e w = record {
  done = s.done ++ piece;
  whole_is = s.whole_is ∙ ap (λ (r : List ℕ). s.done ++ r) e ∙ sym (append_assoc s.done piece after);
  written = w ∙ ap (λ (x : Option (List ℕ)). with_bytes x piece) s.written ∙ joined old s.done piece;
}

-- a part of a piece
pub shown_part : (old now new : Option (List ℕ)) (whole rest piece after : List ℕ) → Shown old now whole rest → rest ≡ piece ++ after → WritesPart now piece new → WritesPart old whole new
shown_part old now new whole rest piece after s e h =
    let n = min h.0 (length piece) in
    let all : whole ≡ s.done ++ (piece ++ after) = s.whole_is ∙ ap (λ (r : List ℕ). s.done ++ r) e in (
      length s.done + n,
      h.1 ∙ ap (λ (x : Option (List ℕ)). with_bytes x (take h.0 piece)) s.written ∙ joined old s.done (take h.0 piece)
          ∙ ap (λ (t : List ℕ). with_bytes old (s.done ++ t)) (sym (front_taken h.0 piece after))
          ∙ ap (with_bytes old) (sym (back_taken n s.done (piece ++ after)))
          ∙ ap (λ (t : List ℕ). with_bytes old (take (length s.done + n) t)) (sym all),
    )

-- nothing more
pub shown_so_far : (old now : Option (List ℕ)) (whole rest : List ℕ) → Shown old now whole rest → WritesPart old whole now
shown_so_far old now whole rest s = shown_part old now now whole rest [] rest s refl (0, nothing now)

pub shown_all : (old now : Option (List ℕ)) (whole rest : List ℕ) → Shown old now whole rest → rest ≡ [] → now ≡ with_bytes old whole
shown_all old now whole rest s none = s.written ∙ ap (with_bytes old) (sym (append-nil s.done) ∙ ap (λ (r : List ℕ). s.done ++ r) (sym none) ∙ sym s.whole_is)

pub rose_later : (first mid last : ℕ) → first ≤ mid → Rose mid last → Rose first last
rose_later first mid last le h = omega (arith, le, h)

pub on_err : {T E : Type 0} (r : Result T E) {P : Type 0} → P → OnErr r P
on_err (Ok x) p = tt
on_err (Err e) p = p

pub on_ok : {T E : Type 0} (r : Result T E) {P Q : Type 0} → OnOk r P → (P → Q) → OnOk r Q
on_ok (Ok x) h f = f h
on_ok (Err e) h f = tt

pub err_on : {T E : Type 0} (r : Result T E) {P Q : Type 0} → OnErr r P → (P → Q) → OnErr r Q
err_on (Ok x) h f = tt
err_on (Err e) h f = f h

-- two pieces
pub then_all : (old mid new : Option (List ℕ)) (a b : List ℕ) → mid ≡ with_bytes old a → new ≡ with_bytes mid b → new ≡ with_bytes old (a ++ b)
then_all old mid new a b e f = f ∙ ap (λ (x : Option (List ℕ)). with_bytes x b) e ∙ joined old a b

pub part_first : (old new : Option (List ℕ)) (a b : List ℕ) → WritesPart old a new → WritesPart old (a ++ b) new
part_first old new a b h = shown_part old old new (a ++ b) (a ++ b) a b (shown_start old (a ++ b) (a ++ b) refl) refl h

pub then_part : (old mid new : Option (List ℕ)) (a b : List ℕ) → mid ≡ with_bytes old a → WritesPart mid b new → WritesPart old (a ++ b) new
then_part old mid new a b e h = shown_part old mid new (a ++ b) b b [] (record { done = a; whole_is = refl; written = e }) (sym (append-nil b)) h
