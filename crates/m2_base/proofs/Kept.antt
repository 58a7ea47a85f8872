-- What calls of Scopes leave as before and what grows, through calls one after another.
use Rattle.std.proofs.Common.{◌≡◌, ℕ, ◌<◌, true, List, [], ◌∷◌, ◌++◌, Option, Some, None, refl, sym, ◌∙◌, ap, subst, arith, append_assoc, inl, inr}
use Rattle.m2_base.specs.Finished.{WhereFinished}
use Rattle.m2_base.specs.Gives.{Gives, gives, and_then, Adds}
use Rattle.m2_base.specs.Lists.{IsPrefixOf, IsIn, Grows}
use Rattle.m2_base.specs.Rows.{Row, Place}
use Rattle.m2_base.specs.Scopes.{Searched, looks_of, Entered, Completed}
use Rattle.m2_base.specs.States.{State, Frame, Setting, IsSound, Look, Mark, IsLater, Keeps, Turns, Works, Waits, IsAmong, texts_of, fills_of}
use Rattle.m2_base.specs.Units.{UnitTexts}
use Rattle.m2_base.specs.declared.notes.Answer.{Answer}
use Rattle.m2_base.specs.declared.notes.Notes.{Notes}
use Rattle.m2_base.specs.declared.replies.Head.{Head}
use Rattle.m2_base.specs.declared.replies.Reply.TheVariants.{Found}
use Rattle.m2_base.proofs.EachLaws.{each_append, each_then}

-- ** Lists

append-nil : {A : Type 0} (xs : List A) → xs ≡ xs ++ []
append-nil [] = refl
append-nil (x ∷ xs) = ap (λ t. x ∷ t) (append-nil xs)

pub IsPrefixOf-refl : {A : Type 0} (xs : List A) → IsPrefixOf xs xs
IsPrefixOf-refl xs = record { rest = []; joined = sym (append-nil xs) }

pub IsPrefixOf-trans : {A : Type 0} {xs ys zs : List A} → IsPrefixOf xs ys → IsPrefixOf ys zs → IsPrefixOf xs zs
IsPrefixOf-trans {A} {xs} {ys} {zs} p q =
    record { rest = p.rest ++ q.rest; joined = sym (append_assoc xs p.rest q.rest) ∙ ap (λ t. t ++ q.rest) p.joined ∙ q.joined }

pub Grows-refl : {A : Type 0} (o : Option (List A)) → Grows o [] o
Grows-refl None = tt
Grows-refl (Some xs) = append-nil xs

pub Grows-trans : {A : Type 0} (a b c : Option (List A)) (m n : List A) → Grows a m b → Grows b n c → Grows a (m ++ n) c
Grows-trans None None None m n p q = tt
Grows-trans None None (Some c) m n p q = absurd q
Grows-trans None (Some b) c m n p q = absurd p
Grows-trans (Some a) None c m n p q = absurd p
Grows-trans (Some a) (Some b) None m n p q = absurd q
Grows-trans (Some a) (Some b) (Some c) m n p q = q ∙ ap (λ t. t ++ n) p ∙ append_assoc a m n

-- ** Heads that are seen

pub IsLater-refl : (m : Mark) → IsLater m m
IsLater-refl m = record { count = omega arith; complete = λ h. refl }

pub IsLater-trans : {m n k : Mark} → IsLater m n → IsLater n k → IsLater m k
IsLater-trans {m} {n} {k} a b =
    record {
      count = omega (arith, a.count, b.count);
      complete = λ h. let e : n ≡ m = a.complete h in b.complete (ap (λ x. x.complete) e ∙ h) ∙ e;
    }

-- what was complete stays so
pub stays_complete : {m n : Mark} → IsLater m n → m.complete ≡ true → n.complete ≡ true
stays_complete later done = ap (λ mark. mark.complete) (later.complete done) ∙ done

-- ** Calls that only search

pub Keeps-refl : (a : State) → Keeps a a []
Keeps-refl a = record { frame = refl; seen = λ s. IsLater-refl (a.seen s); grows = Grows-refl a.looks }

pub Keeps-trans : {a b c : State} {m n : List Look} → Keeps a b m → Keeps b c n → Keeps a c (m ++ n)
Keeps-trans {a} {b} {c} {m} {n} p q =
    record {
      frame = q.frame ∙ p.frame;
      seen = λ s. IsLater-trans (p.seen s) (q.seen s);
      grows = Grows-trans a.looks b.looks c.looks m n p.grows q.grows;
    }

-- ** Analysers

pub IsAmong_left : (m n : List Look) (a : Answer) → IsAmong m a → IsAmong (m ++ n) a
IsAmong_left [] n a h = absurd h
IsAmong_left (l ∷ m) n a h = elim h as (λ _. IsAmong (l ∷ (m ++ n)) a) [ inl x ↦ inl x | inr x ↦ inr (IsAmong_left m n a x) ]

pub IsAmong_right : (m n : List Look) (a : Answer) → IsAmong n a → IsAmong (m ++ n) a
IsAmong_right [] n a h = h
IsAmong_right (l ∷ m) n a h = inr (IsAmong_right m n a h)

pub Works-refl : (a : State) (n : Notes) → Works a a n n
Works-refl a n =
    record { looks = []; keeps = Keeps-refl a; answers = []; noted = append-nil n.answers.items; shown = tt; diags = IsPrefixOf-refl n.diags.items }

pub Works-trans : {a b c : State} {x y z : Notes} → Works a b x y → Works b c y z → Works a c x z
Works-trans {a} {b} {c} {x} {y} {z} p q =
    record {
      looks = p.looks ++ q.looks;
      keeps = Keeps-trans p.keeps q.keeps;
      answers = p.answers ++ q.answers;
      noted = q.noted ∙ ap (λ t. t ++ q.answers) p.noted ∙ append_assoc x.answers.items p.answers q.answers;
      shown = each_append (IsAmong (p.looks ++ q.looks)) p.answers q.answers
          (each_then (IsAmong p.looks) (IsAmong (p.looks ++ q.looks)) p.answers (λ r. IsAmong_left p.looks q.looks r) p.shown)
          (each_then (IsAmong q.looks) (IsAmong (p.looks ++ q.looks)) q.answers (λ r. IsAmong_right p.looks q.looks r) q.shown);
      diags = IsPrefixOf-trans p.diags q.diags;
    }

-- notes without answers, and no call
pub Works-notes : (a : State) (x y : Notes) → y.answers.items ≡ x.answers.items → IsPrefixOf x.diags.items y.diags.items → Works a a x y
Works-notes a x y same grows =
    record { looks = []; keeps = Keeps-refl a; answers = []; noted = same ∙ append-nil x.answers.items; shown = tt; diags = grows }

-- notes without answers, after a call that keeps
pub Works-kept : {a b : State} {looks : List Look} (x y : Notes) → Keeps a b looks → y.answers.items ≡ x.answers.items → IsPrefixOf x.diags.items y.diags.items → Works a b x y
Works-kept {a} {b} {looks} x y keeps same grows =
    record { looks = looks; keeps = keeps; answers = []; noted = same ∙ append-nil x.answers.items; shown = tt; diags = grows }

found_among : (at name : ℕ) (chain : List ℕ) (heads : List Head) (p : Place) (r : Row) → IsIn p.scope chain → IsAmong (looks_of at name chain heads (Found p r)) (record { at = at; name = name; place = p; row = r })
found_among at name [] heads p r on = absurd on
found_among at name (s ∷ chain) heads p r on = inl (refl, refl, refl)

-- the answer of a search is noted
pub Works-found : {a b : State} {at name : ℕ} {chain : List ℕ} {p : Place} {r : Row} (x y : Notes) → Searched a b at chain name (Found p r) → y.answers.items ≡ x.answers.items ++ record { at = at; name = name; place = p; row = r } ∷ [] → IsPrefixOf x.diags.items y.diags.items → Works a b x y
Works-found {a} {b} {at} {name} {chain} {p} {r} x y searched noted grows =
    record {
      looks = looks_of at name chain searched.heads (Found p r);
      keeps = searched.keeps;
      answers = record { at = at; name = name; place = p; row = r } ∷ [];
      noted = noted;
      shown = (found_among at name chain searched.heads p r searched.says.on, tt);
      diags = grows;
    }

pub Works-trans3 : {a b c d : State} {x y z w : Notes} → Works a b x y → Works b c y z → Works c d z w → Works a d x w
Works-trans3 p q r = Works-trans (Works-trans p q) r

pub Works-trans4 : {a b c d e : State} {x y z w v : Notes} → Works a b x y → Works b c y z → Works c d z w → Works d e w v → Works a e x v
Works-trans4 p q r s = Works-trans (Works-trans3 p q r) s

pub Works-trans5 : {a b c d e f : State} {x y z w v u : Notes} → Works a b x y → Works b c y z → Works c d z w → Works d e w v → Works e f v u → Works a f x u
Works-trans5 p q r s t = Works-trans (Works-trans4 p q r s) t

-- what is told of the texts after a call is told of those before it
pub told_before : {a b : State} {x y : Notes} (Q : UnitTexts → List (List Row) → Type 0) → Works a b x y → WhereFinished (texts_of b) (Q (texts_of b)) → WhereFinished (texts_of a) (Q (texts_of a))
told_before {a} {b} Q w h = subst (λ (f : Frame). WhereFinished f.setting.texts (Q f.setting.texts)) w.keeps.frame h

-- ** Waiting

-- a call that waits, after another
pub Waits_after : {a b c : State} {m : List Look} {h : Head} → Keeps a b m → Waits b c h → Waits a c h
Waits_after {a} {b} {c} {m} {h} k w =
    record {
      smaller = subst (λ (f : Frame). h.scope < f.setting.fills) k.frame w.smaller;
      incomplete = w.incomplete;
      from = IsLater-trans (k.seen h.scope) w.from;
      upto = w.upto;
    }

-- and before another
pub Waits_before : {a b c : State} {m : List Look} {h : Head} → Waits a b h → Keeps b c m → Waits a c h
Waits_before {a} {b} {c} {m} {h} w k =
    record { smaller = w.smaller; incomplete = w.incomplete; from = w.from; upto = IsLater-trans w.upto (k.seen h.scope) }

-- ** Turns

pub Turns-refl : (a : State) → Turns a a
Turns-refl a = record { setting = refl; seen = λ s. IsLater-refl (a.seen s); looks = []; grows = Grows-refl a.looks }

pub Turns-trans : {a b c : State} → Turns a b → Turns b c → Turns a c
Turns-trans {a} {b} {c} p q =
    record {
      setting = q.setting ∙ p.setting;
      seen = λ s. IsLater-trans (p.seen s) (q.seen s);
      looks = p.looks ++ q.looks;
      grows = Grows-trans a.looks b.looks c.looks p.looks q.looks p.grows q.grows;
    }

pub Turns-keeps : {a b : State} {looks : List Look} → Keeps a b looks → Turns a b
Turns-keeps {a} {b} {looks} k = record { setting = ap (λ (f : Frame). f.setting) k.frame; seen = k.seen; looks = looks; grows = k.grows }

pub Turns-works : {a b : State} {x y : Notes} → Works a b x y → Turns a b
Turns-works w = Turns-keeps w.keeps

pub Turns-entered : {a b : State} {rows : List Row} → Entered a b rows → Turns a b
Turns-entered {a} {b} e =
    record { setting = ap (λ (f : Frame). f.setting) e.frame; seen = e.seen; looks = []; grows = subst (λ l. Grows a.looks [] l) (sym e.looks) (Grows-refl a.looks) }

pub Turns-completed : {a b : State} → Completed a b → Turns a b
Turns-completed {a} {b} e =
    record { setting = ap (λ (f : Frame). f.setting) e.frame; seen = e.seen; looks = []; grows = subst (λ l. Grows a.looks [] l) (sym e.looks) (Grows-refl a.looks) }

-- a call that waits, after any others
pub Waits_turned : {a b c : State} {h : Head} → Turns a b → Waits b c h → Waits a c h
Waits_turned {a} {b} {c} {h} t w =
    record {
      smaller = subst (λ (s : Setting). h.scope < s.fills) t.setting w.smaller;
      incomplete = w.incomplete;
      from = IsLater-trans (t.seen h.scope) w.from;
      upto = w.upto;
    }

-- ** What definitions give

pub Adds-refl : {T : Type 0} (n : Notes) (v : T) → Adds n n (gives v) v
Adds-refl n v = record { value_is = refl; diags = append-nil n.diags.items; answers = append-nil n.answers.items }

-- a part, and what comes after it
pub Adds-and_then : {A B : Type 0} {x y z : Notes} (a : Gives A) (f : A → Gives B) {u : A} {v : B} → Adds x y a u → Adds y z (f u) v → Adds x z (and_then a f) v
Adds-and_then {A} {B} {x} {y} {z} a f {u} {v} p q =
    let q' : Adds y z (f a.value) v = subst (λ w. Adds y z (f w) v) p.value_is q in
    record {
      value_is = q'.value_is;
      diags = q'.diags ∙ ap (λ t. t ++ (f a.value).diags) p.diags ∙ append_assoc x.diags.items a.diags (f a.value).diags;
      answers = q'.answers ∙ ap (λ t. t ++ (f a.value).answers) p.answers ∙ append_assoc x.answers.items a.answers (f a.value).answers;
    }

-- ** What every value keeps

pub IsSound-keeps : {a b : State} {looks : List Look} → Keeps a b looks → IsSound a → IsSound b
IsSound-keeps {a} {b} k s =
    record {
      zero_seen = stays_complete (k.seen 0) s.zero_seen;
      own_seen = subst (λ (f : Frame). f.closed ≡ true → (b.seen f.setting.fills).complete ≡ true) (sym k.frame) (λ h. stays_complete (k.seen (fills_of a)) (s.own_seen h));
    }

pub IsSound-entered : {a b : State} {rows : List Row} → Entered a b rows → IsSound a → IsSound b
IsSound-entered {a} {b} e s =
    record {
      zero_seen = stays_complete (e.seen 0) s.zero_seen;
      own_seen = subst (λ (f : Frame). f.closed ≡ true → (b.seen f.setting.fills).complete ≡ true) (sym e.frame) (λ h. stays_complete (e.seen (fills_of a)) (s.own_seen h));
    }

pub IsSound-completed : {a b : State} → Completed a b → IsSound a → IsSound b
IsSound-completed {a} {b} e s =
    record {
      zero_seen = stays_complete (e.seen 0) s.zero_seen;
      own_seen = subst (λ (f : Frame). f.closed ≡ true → (b.seen f.setting.fills).complete ≡ true) (sym e.frame) (λ h. ap (λ m. m.complete) e.head);
    }

-- ** Sets of these lemmas

pub ruleset kept = (IsLater-refl, IsLater-trans, Keeps-refl, Keeps-trans, Works-refl, Works-trans, Works-notes, Works-kept, Works-found, Waits_after, Waits_before, IsPrefixOf-refl, IsPrefixOf-trans, Adds-refl, Adds-and_then)

-- of an analyser of at most two calls in a row, a loop or a recursion
pub ruleset chain = (Works-refl, Works-trans, Works-kept, Waits_after, Adds-refl, Adds-and_then)

-- of three to five calls in a row
pub ruleset long = (Works-trans, Works-trans3, Works-trans4, Works-trans5)

-- of a task
pub ruleset turning = (Turns-refl, Turns-trans, Turns-works, Turns-entered, Turns-completed)
