-- Following static links.
use Rattle.std.proofs.Common.{◌≡◌, ℕ, zero, suc, ◌+◌, ◌-◌, ◌<◌, ◌≤◌, List, [], ◌∷◌, length, Option, Some, None, refl, sym, ap, ◌∙◌, subst, arith}
use Rattle.std.specs.Prelude.{slice_get}
use Rattle.stack_machine.specs.declared.core_state.Frame.{Frame}
use Rattle.stack_machine.specs.Step.{with_frame, base_out, number_out}

pub within : {A : Type 0} (xs : List A) (k : ℕ) (x : A) → slice_get xs k ≡ Some x → k < length xs
within [] k x e = absurd cc
within (y ∷ ys) zero x e = omega arith
within (y ∷ ys) (suc k) x e = let h = within ys k x e in omega (arith, h)

there : (o : Option Frame) (go : Frame → Option ℕ) (b : ℕ) → with_frame o go ≡ Some b → (f : Frame) × (o ≡ Some f)
there None go b e = absurd cc
there (Some f) go b e = (f, refl)

pub base_within : (fs : List Frame) (m base link b : ℕ) → base_out fs (suc m) base link ≡ Some b → link < length fs
unfolding base_out
base_within fs m base link b e = let h = there (slice_get fs link) (λ f. base_out fs m f.base f.link) b e in within fs link h.0 h.1

pub base_step : (fs : List Frame) (m base link : ℕ) (f : Frame) → slice_get fs link ≡ Some f → base_out fs (suc m) base link ≡ base_out fs m f.base f.link
unfolding base_out
base_step fs m base link f e = ap (λ (o : Option Frame). with_frame o (λ g. base_out fs m g.base g.link)) e

pub number_within : (fs : List Frame) (m number link b : ℕ) → number_out fs (suc m) number link ≡ Some b → link < length fs
unfolding number_out
number_within fs m number link b e = let h = there (slice_get fs link) (λ f. number_out fs m link f.link) b e in within fs link h.0 h.1

pub number_step : (fs : List Frame) (m number link : ℕ) (f : Frame) → slice_get fs link ≡ Some f → number_out fs (suc m) number link ≡ number_out fs m link f.link
unfolding number_out
number_step fs m number link f e = ap (λ (o : Option Frame). with_frame o (λ g. number_out fs m link g.link)) e

-- a walk that isn't over, from what is left of it
pub base_next : (fs : List Frame) (h i base link base0 link0 b : ℕ) → i < h → base_out fs (h - i) base link ≡ base_out fs h base0 link0 → base_out fs h base0 link0 ≡ Some b → base_out fs (suc (h - (i + 1))) base link ≡ Some b
base_next fs h i base link base0 link0 b lt inv is =
    let e : h - i ≡ suc (h - (i + 1)) = omega arith in
    ap (λ (n : ℕ). base_out fs n base link) (sym e) ∙ inv ∙ is

pub base_goes : (fs : List Frame) (h i base link base0 link0 : ℕ) (f : Frame) → i < h → base_out fs (h - i) base link ≡ base_out fs h base0 link0 → slice_get fs link ≡ Some f → base_out fs (h - (i + 1)) f.base f.link ≡ base_out fs h base0 link0
base_goes fs h i base link base0 link0 f lt inv is =
    let e : h - i ≡ suc (h - (i + 1)) = omega arith in
    sym (base_step fs (h - (i + 1)) base link f is) ∙ ap (λ (n : ℕ). base_out fs n base link) (sym e) ∙ inv

pub base_ends : (fs : List Frame) (h i base link base0 link0 : ℕ) → h ≤ i → base_out fs (h - i) base link ≡ base_out fs h base0 link0 → base_out fs h base0 link0 ≡ Some base
unfolding base_out
base_ends fs h i base link base0 link0 le inv =
    let e : h - i ≡ 0 = omega arith in
    sym inv ∙ ap (λ (n : ℕ). base_out fs n base link) e

pub number_next : (fs : List Frame) (h i number link number0 link0 b : ℕ) → i < h → number_out fs (h - i) number link ≡ number_out fs h number0 link0 → number_out fs h number0 link0 ≡ Some b → number_out fs (suc (h - (i + 1))) number link ≡ Some b
number_next fs h i number link number0 link0 b lt inv is =
    let e : h - i ≡ suc (h - (i + 1)) = omega arith in
    ap (λ (n : ℕ). number_out fs n number link) (sym e) ∙ inv ∙ is

pub number_goes : (fs : List Frame) (h i number link number0 link0 : ℕ) (f : Frame) → i < h → number_out fs (h - i) number link ≡ number_out fs h number0 link0 → slice_get fs link ≡ Some f → number_out fs (h - (i + 1)) link f.link ≡ number_out fs h number0 link0
number_goes fs h i number link number0 link0 f lt inv is =
    let e : h - i ≡ suc (h - (i + 1)) = omega arith in
    sym (number_step fs (h - (i + 1)) number link f is) ∙ ap (λ (n : ℕ). number_out fs n number link) (sym e) ∙ inv

pub number_ends : (fs : List Frame) (h i number link number0 link0 : ℕ) → h ≤ i → number_out fs (h - i) number link ≡ number_out fs h number0 link0 → number_out fs h number0 link0 ≡ Some number
unfolding number_out
number_ends fs h i number link number0 link0 le inv =
    let e : h - i ≡ 0 = omega arith in
    sym inv ∙ ap (λ (n : ℕ). number_out fs n number link) e

pub same_base : (o : Option ℕ) (b r n : ℕ) → o ≡ Some b → o ≡ Some r → b ≤ n → r ≤ n
same_base o b r n e f le = subst (λ (k : ℕ). k ≤ n) (some_is b r (sym e ∙ f)) le where
  some_is : (x y : ℕ) → Some x ≡ Some y → x ≡ y
  some_is x y e = cc
