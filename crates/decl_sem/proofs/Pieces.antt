-- Pieces of an item, one after another.
use Rattle.std.specs.Prelude.{◌≡◌, ◌≢◌, ℕ, suc, ◌+◌, ◌<◌, ◌==◌, Bool, true, false, if◌then◌else◌, List, [], ◌∷◌, ◌++◌, length, Result, Ok, Err}
use Rattle.std.proofs.Common.{refl, sym, ap, ◌∙◌, subst, arith, inl, inr}
use Rattle.std.proofs.lemmas.List.{append_assoc, append-nil, length-append}
use Rattle.m2_base.specs.Asks.{IfKnown, IfWaits}
use Rattle.m2_base.specs.Gives.{Gives}
use Rattle.m2_base.specs.Lists.{Each, IsIn}
use Rattle.m2_base.specs.Rows.{basic_of, natural, row_meaning, type_name_kind}
use Rattle.m2_base.specs.States.{Frame, State, Waits, Works}
use Rattle.m2_base.specs.Statics.Contexts.{Context, Layout}
use Rattle.m2_base.specs.Statics.Makes.{Makes, make_then, makes, only_gives}
use Rattle.m2_base.specs.Statics.Shapes.{Shape}
use Rattle.m2_base.specs.declared.memory.Memory.{Memory}
use Rattle.m2_base.specs.declared.notes.Notes.{Notes}
use Rattle.m2_base.specs.declared.replies.Ask.{Ask}
use Rattle.m2_base.specs.declared.replies.Ask.TheVariants.{Known, DontKnowYet}
use Rattle.m2_base.specs.declared.replies.Head.{Head}
use Rattle.m2_base.specs.declared.rows.Row.{Row}
use Rattle.m2_base.specs.declared.rows.RowMeaning.{RowMeaning}
use Rattle.m2_base.specs.declared.sites.Named.{Named}
use Rattle.m2_base.specs.declared.sites.Site.{Site}
use Rattle.m2_base.proofs.Kept.{IsPrefixOf-refl, Waits_after, Works-kept, Works-refl, Works-trans}
use Rattle.type_rules.specs.Asks.{Reads, WhereKnown, WhereWaiting}
use Rattle.type_rules.specs.Scenes.{AreInHand, Hand, NamesNoType}
use Rattle.type_rules.specs.Sites.{context_of}
use Rattle.const_eval.specs.Analyses.{Analysed}
use Rattle.decl_sem.specs.LaidRows.{AreLaid, HasFirsts, IsAhead, none_laid, more_laid}
use Rattle.decl_sem.specs.MadeRows.{RowsInHand}
use Rattle.decl_sem.specs.Making.{MakesAll, next_ordinal}
use Rattle.decl_sem.specs.Pieces.{AreAliasesBefore, AreNewRows, BeginsAt, Declares, Grown, IsMaking, holding, IsOwned, WhereMaking, item_end}
use Rattle.decl_sem.specs.declared.making.Made.{Made}
use Rattle.decl_sem.proofs.FirstNames.{AreLaid-append, gone_on}
use Rattle.decl_sem.proofs.Hands.{hand_with, hand_none, in_hand, of_this_site}
use Rattle.decl_sem.proofs.MakingOn.{makes_none, makes_then}

-- ** Rows that are added

pub new-append : (f : Frame) (limit o : ℕ) (xs ys : List Row) → AreNewRows f limit o xs → AreNewRows f limit (o + length xs) ys → AreNewRows f limit o (xs ++ ys)
new-append f limit o [] ys h k = subst (λ n. AreNewRows f limit n ys) (let e : o + 0 ≡ o = omega arith in e) k
new-append f limit o (x ∷ xs) ys h k =
    (h.0, new-append f limit (o + 1) xs ys h.1 (subst (λ n. AreNewRows f limit n ys) (let e : o + suc (length xs) ≡ o + 1 + length xs = omega arith in e) k))

pub laid-length : {layout : Layout} {o : ℕ} {ss : List Shape} {rs : List Row} → AreLaid layout o ss rs → length rs ≡ length ss
laid-length none_laid = refl
laid-length (more_laid l more) = ap suc (laid-length more)

-- the ordinal of the next row, when some more are made
pub next_on : {f : Frame} {s : Site} {x y : Made} {ss : List Shape} → y.first ≡ x.first → Grown f s x y ss → next_ordinal y ≡ next_ordinal x + length ss
next_on {f} {s} {x} {y} {ss} first grown =
    let e = ap length grown.more in
    let l = length-append x.rows.items grown.rows in
    let n = laid-length grown.laid in
    omega arith

pub grown_none : (f : Frame) (s : Site) (x : Made) → Grown f s x x []
grown_none f s x = record { rows = []; more = sym (append-nil x.rows.items); laid = none_laid; new = tt }

pub grown_then : {f : Frame} {s : Site} {x y z : Made} {ss ts : List Shape} → y.first ≡ x.first → Grown f s x y ss → Grown f s y z ts → Grown f s x z (ss ++ ts)
grown_then {f} {s} {x} {y} {z} {ss} {ts} first p q =
    let n : next_ordinal y ≡ next_ordinal x + length p.rows = let e = ap length p.more in let l = length-append x.rows.items p.rows in omega arith in
    record {
      rows = p.rows ++ q.rows;
      more = q.more ∙ ap (λ t. t ++ q.rows) p.more ∙ append_assoc x.rows.items p.rows q.rows;
      laid = AreLaid-append p.laid (subst (λ o. AreLaid s.layout.now o ts q.rows) n q.laid);
      new = new-append f (item_end s) (next_ordinal x) p.rows q.rows p.new (subst (λ o. AreNewRows f (item_end s) o q.rows) n q.new);
    }

-- ** Pieces without rows

module _ {T : Type 0} (a : State) (x : Made) (s : Site) (v : T) (P : Frame → ℕ → T → Type 0) where
  -- a value alone
  pub value_alone : P a.frame (next_ordinal x) v → Declares a a x x s (Ok (Known v)) [] P (λ c. makes v)
  value_alone h =
      record {
        works = Works-refl a x.notes;
        waits = tt;
        first = refl;
        grown = grown_none a.frame s x;
        told = λ hand in_hand told same. makes_none x v;
        there = h;
      }

module _ {T U : Type 0} {a b : State} {x y : Made} {s : Site} {ss ts : List Shape} {P : Frame → ℕ → T → Type 0} {Q : Frame → ℕ → U → Type 0} {g : Context → Makes T} {h : Context → Makes U} where
  -- after want of memory nothing more is said
  pub failed : {m : Memory} → Declares a b x y s (Err m) ss P g → (n : Memory) → Declares a b x y s (Err n) ts Q h
  failed p n = record { works = p.works; waits = tt; first = p.first; grown = tt; told = λ hand in_hand told same. tt; there = tt }

  -- what isn't known yet of a part isn't known yet of the whole
  pub waiting : {head : Head} → Declares a b x y s (Ok (DontKnowYet head)) ss P g → Declares a b x y s (Ok (DontKnowYet head)) ts Q h
  waiting p = record { works = p.works; waits = p.waits; first = p.first; grown = tt; told = λ hand in_hand told same. tt; there = tt }

-- ** Descriptions

module _ {T : Type 0} {a b : State} {x y : Made} {s : Site} {ss : List Shape} {P : Frame → ℕ → T → Type 0} {g : Context → Makes T} (answer : Result (Ask T) Memory) where
  -- the same, of a description that is equal where told
  pub described : (h : Context → Makes T) → Declares a b x y s answer ss P g → WhereMaking a.frame x (λ hand. g (context_of a.frame hand s) ≡ h (context_of a.frame hand s)) → Declares a b x y s answer ss P h
  described h p e =
      record {
        works = p.works;
        waits = p.waits;
        first = p.first;
        grown = p.grown;
        told = λ hand in_hand told same. subst (λ given. IfKnown answer (λ v. MakesAll x y given v)) (e hand in_hand told same) (p.told hand in_hand told same);
        there = p.there;
      }

  -- of the same shapes, written otherwise
  pub reshaped : (ts : List Shape) → ss ≡ ts → Declares a b x y s answer ss P g → Declares a b x y s answer ts P g
  reshaped ts e p = subst (λ shapes. Declares a b x y s answer shapes P g) e p

-- ** One after another

pub waits_on : {U : Type 0} {a b : State} (d : State) {x y : Notes} (answer : Result (Ask U) Memory) → Works a b x y → IfWaits answer (λ head. Waits b d head) → IfWaits answer (λ head. Waits a d head)
waits_on d (Ok (Known v)) w h = tt
waits_on d (Ok (DontKnowYet head)) w h = Waits_after w.keeps h
waits_on d (Err m) w h = tt

if_any : {U : Type 0} {G : Type 0} (answer : Result (Ask U) Memory) → G → IfKnown answer (λ v. G)
if_any (Ok (Known v)) h = h
if_any (Ok (DontKnowYet head)) h = tt
if_any (Err m) h = tt

pub if_known : {U : Type 0} (P Q : U → Type 0) (answer : Result (Ask U) Memory) → ((v : U) → P v → Q v) → IfKnown answer P → IfKnown answer Q
if_known P Q (Ok (Known v)) f h = f v h
if_known P Q (Ok (DontKnowYet head)) f h = tt
if_known P Q (Err m) f h = tt

-- ** Rows of no type names

-- none of the shapes is that of a type's name
abbrev pub AreNoTypes : List Shape → Type 0
AreNoTypes shapes = Each (λ s. s.kind ≢ type_name_kind) shapes

-- a shape of another kind
pub not_a_type : (shape : Shape) → (shape.kind == type_name_kind) ≡ false → AreNoTypes (shape ∷ [])
not_a_type shape other = ((λ e. let h : (shape.kind == type_name_kind) ≡ true = grind (arith, e) in let bad : true ≡ false = sym h ∙ other in absurd (cc)), tt)

pub no_types-append : (xs ys : List Shape) → AreNoTypes xs → AreNoTypes ys → AreNoTypes (xs ++ ys)
no_types-append [] ys h k = k
no_types-append (x ∷ xs) ys h k = (h.0, no_types-append xs ys h.1 k)

unless : (b : Bool) (m n : RowMeaning) → NamesNoType m → NamesNoType n → NamesNoType (if b then m else n)
unless true m n h k = h
unless false m n h k = k

never : (b : Bool) (m n : RowMeaning) → b ≡ false → NamesNoType n → NamesNoType (if b then m else n)
never true m n e k = absurd (let h : true ≡ false = e in cc)
never false m n e k = k

basic : (n : ℕ) → NamesNoType (basic_of n)
basic n = unless (n == 1) _ _ tt (unless (n == 2) _ _ tt (unless (n == 3) _ _ tt (unless (n == 4) _ _ tt (unless (n == 5) _ _ tt (unless (n == 6) _ _ tt tt)))))

-- a row of another kind is no type's name
pub no_type : (r : Row) → r.kind ≢ type_name_kind → NamesNoType (row_meaning r)
no_type r h =
    let k : ℕ = r.kind in
    unless (k == 1) _ _ tt (never (k == 2) _ _ (let e : (k == 2) ≡ false = grind (arith, h) in e)
    (unless (k == 3) _ _ tt (unless (k == 4) _ _ tt (unless (k == 5) _ _ tt (unless (k == 6) _ _ tt (unless (k == 7) _ _ tt (unless (k == 8) _ _ tt
    (unless (k == 9) _ _ tt (unless (k == 10) _ _ (basic (natural r.a)) (unless (k == 11) _ _ tt (unless (k == 12) _ _ tt (unless (k == 13) _ _ tt
    (unless (k == 14) _ _ tt (unless (k == 15) _ _ tt (unless (k == 16) _ _ tt (unless (k == 17) _ _ tt (unless (k == 18) _ _ tt (unless (k == 19) _ _ tt tt))))))))))))))))))

no_types : {layout : Layout} {o : ℕ} {ss : List Shape} {rs : List Row} → AreLaid layout o ss rs → AreNoTypes ss → Each (λ r. NamesNoType (row_meaning r)) rs
no_types none_laid h = tt
no_types (more_laid {r = r} l more) h = (no_type r (λ e. h.0 (sym l.kind ∙ e)), no_types more h.1)

types-append : (xs ys : List Row) → Each (λ r. NamesNoType (row_meaning r)) xs → Each (λ r. NamesNoType (row_meaning r)) ys → Each (λ r. NamesNoType (row_meaning r)) (xs ++ ys)
types-append [] ys h k = k
types-append (x ∷ xs) ys h k = (h.0, types-append xs ys h.1 k)

-- ** Going on

-- one of some shapes is one of more
pub in_behind : (t : Shape) (ss ts : List Shape) → IsIn t ts → IsIn t (ss ++ ts)
in_behind t [] ts on = on
in_behind t (x ∷ ss) ts on = inr (in_behind t ss ts on)

pub in_front : (t : Shape) (ss ts : List Shape) → IsIn t ss → IsIn t (ss ++ ts)
in_front t [] ts on = absurd on
in_front t (x ∷ ss) ts (inl e) = inl e
in_front t (x ∷ ss) ts (inr on) = inr (in_front t ss ts on)

-- what the next piece needs
pub making_on : {T : Type 0} {a b : State} {x y : Made} {s : Site} {ss ts : List Shape} {P : Frame → ℕ → T → Type 0} {g : Context → Makes T} {v : T}
    → AreNoTypes ss → IsMaking a.frame s x (ss ++ ts) → Declares a b x y s (Ok (Known v)) ss P g → IsMaking b.frame s y ts
making_on {a = a} {b = b} {x = x} {y = y} {s = s} {ss = ss} {ts = ts} none making p =
    subst (λ (f : Frame). IsMaking f s y ts) (sym p.works.keeps.frame) here
  where
    next : next_ordinal y ≡ next_ordinal x + length ss
    next = next_on p.first p.grown

    at : length (a.frame.entered ++ x.rows.items) ≡ next_ordinal x
    at = let l = length-append a.frame.entered x.rows.items in let n = making.count in omega arith

    here : IsMaking a.frame s y ts
    here = record {
      suits = making.suits;
      small = making.small;
      begun = making.begun;
      item = making.item;
      of_item = making.of_item;
      begins = subst (λ n. BeginsAt s.layout.now making.item n) (sym p.first) making.begins;
      old = subst (λ n. Each (λ b. b.ordinal < n) s.layout.now.brought) (sym p.first) making.old;
      aliases = λ t on is. subst (λ n. AreAliasesBefore s.layout.now n) (sym p.first) (making.aliases t (in_behind t ss ts on) is);
      count = making.count ∙ sym p.first;
      entered = subst (λ n. Each (λ r. IsOwned n (row_meaning r)) a.frame.entered) (sym p.first) making.entered;
      types = subst (λ (rows : List Row). Each (λ r. NamesNoType (row_meaning r)) rows) (sym p.grown.more)
          (types-append x.rows.items p.grown.rows making.types (no_types p.grown.laid none));
      rows = subst (λ (rows : List Row). AreNewRows a.frame (item_end s) y.first rows) (sym p.grown.more)
          (subst (λ n. AreNewRows a.frame (item_end s) n (x.rows.items ++ p.grown.rows)) (sym p.first)
          (new-append a.frame (item_end s) x.first x.rows.items p.grown.rows making.rows p.grown.new));
      ahead = subst (λ (rows : List Row). IsAhead s.layout.now (a.frame.entered ++ rows) ts) (sym p.grown.more)
          (subst (λ (rows : List Row). IsAhead s.layout.now rows ts) (append_assoc a.frame.entered x.rows.items p.grown.rows)
          (gone_on ss ts making.ahead (subst (λ n. AreLaid s.layout.now n ss p.grown.rows) (sym at) p.grown.laid)));
      room = let l = length-append ss ts in let r = making.room in let n = next in omega arith;
      few = making.few;
    }

module _ {T U : Type 0} {a b d : State} {x y z : Made} {s : Site} {ss ts : List Shape} {P : Frame → ℕ → T → Type 0} {Q : Frame → ℕ → U → Type 0} (g : Context → Makes T) (h : T → Context → Makes U) where
  -- one piece after another
  pub then_after : {v : T} (answer : Result (Ask U) Memory) → AreNoTypes ss → IsMaking a.frame s x (ss ++ ts) → Declares a b x y s (Ok (Known v)) ss P g → Declares b d y z s answer ts Q (h v)
      → Declares a d x z s answer (ss ++ ts) Q (λ c. make_then c (g c) (λ e u. h u e))
  then_after {v} answer none making p q =
      record {
        works = Works-trans p.works q.works;
        waits = waits_on d answer p.works q.waits;
        first = q.first ∙ p.first;
        grown = if_known _ _ answer (λ w more. grown_then p.first p.grown (subst (λ (f : Frame). Grown f s y z ts) same_frame more)) q.grown;
        told = both;
        there = subst (λ (f : Frame). IfKnown answer (λ w. Q f (next_ordinal z) w)) same_frame q.there;
      }
    where
      same_frame : b.frame ≡ a.frame
      same_frame = p.works.keeps.frame

      after : (held : Hand) → held.rows ≡ y.rows.items → AreInHand a.frame held
      after held same = subst (λ (f : Frame). AreInHand f held) same_frame (in_hand (making_on none making p) held same)

      later : WhereMaking a.frame y (λ hand. IfKnown answer (λ w. MakesAll y z (h v (context_of a.frame hand s)) w))
      later = subst (λ (f : Frame). WhereMaking f y (λ hand. IfKnown answer (λ w. MakesAll y z (h v (context_of f hand s)) w))) same_frame q.told

      both : WhereMaking a.frame x (λ hand. IfKnown answer (λ w. MakesAll x z (make_then (context_of a.frame hand s) (g (context_of a.frame hand s)) (λ e u. h u e)) w))
      both hand in_hand told same =
          let c = context_of a.frame hand s in
          let m = p.told hand in_hand told same in
          let same_rows : hand.rows ++ (g c).rows ≡ y.rows.items = ap (λ rows. rows ++ (g c).rows) same ∙ sym m.rows in
          let r = later (holding hand (g c).rows) (after (holding hand (g c).rows) same_rows) told same_rows in
          if_known _ _ answer (λ w n. makes_then c (g c) (λ e u. h u e) m (subst (λ (k : Context). MakesAll y z (h v k) w) (sym (hand_with hand (g c).rows making.suits told)) n)) r

-- the front of what is ahead
pub making_front : {f : Frame} {s : Site} {x : Made} (ss ts : List Shape) → IsMaking f s x (ss ++ ts) → IsMaking f s x ss
making_front {f} {s} {x} ss ts h =
    record {
      suits = h.suits;
      small = h.small;
      begun = h.begun;
      item = h.item;
      of_item = h.of_item;
      begins = h.begins;
      old = h.old;
      aliases = λ t on is. h.aliases t (in_front t ss ts on) is;
      count = h.count;
      entered = h.entered;
      types = h.types;
      rows = h.rows;
      ahead = record {
        before = h.ahead.before;
        rest = ts ++ h.ahead.rest;
        laid = h.ahead.laid;
        firsts = subst (λ shapes. HasFirsts s.layout.now shapes) (ap (λ zs. h.ahead.before ++ zs) (append_assoc ss ts h.ahead.rest)) h.ahead.firsts;
      };
      room = let l = length-append ss ts in let r = h.room in omega arith;
      few = h.few;
    }

-- ** Questions and analyses

-- what a question answers
pub asked : {T : Type 0} {a b : State} (x : Made) (s : Site) (answer : Ask T) (Q : Frame → ℕ → T → Type 0) (f : Context → T)
    → Reads a b → WhereWaiting answer (λ head. Waits a b head) → WhereMaking a.frame x (λ hand. WhereKnown answer (λ v. v ≡ f (context_of a.frame hand s)))
    → WhereKnown answer (λ v. Q a.frame (next_ordinal x) v) → Declares a b x x s (Ok answer) [] Q (λ c. makes (f c))
asked {T} {a} {b} x s (Known v) Q f reads waits told there =
    record {
      works = Works-kept x.notes x.notes reads.keeps refl (IsPrefixOf-refl x.notes.diags.items);
      waits = tt;
      first = refl;
      grown = grown_none a.frame s x;
      told = λ hand in_hand t same. subst (λ (w : T). MakesAll x x (makes w) v) (told hand in_hand t same) (makes_none x v);
      there = there;
    }
asked x s (DontKnowYet head) Q f reads waits told there =
    record {
      works = Works-kept x.notes x.notes reads.keeps refl (IsPrefixOf-refl x.notes.diags.items);
      waits = waits;
      first = refl;
      grown = tt;
      told = λ hand in_hand t same. tt;
      there = tt;
    }

-- an analysis with its own notes
pub analysed : {T : Type 0} {a b : State} {x y : Made} {s : Site} (answer : Result (Ask T) Memory) {P : Frame → T → Type 0} {Q : Frame → ℕ → T → Type 0} {g : Context → Gives T} {ss : List Shape}
    → IsMaking a.frame s x ss → y.rows ≡ x.rows → y.first ≡ x.first → ((v : T) → P a.frame v → Q a.frame (next_ordinal y) v)
    → Analysed a b x.notes y.notes s answer P g → Declares a b x y s answer [] Q (λ c. only_gives (g c))
analysed {T} {a} {b} {x} {y} {s} answer {P} {Q} {g} making rows first stands p =
    record {
      works = p.works;
      waits = p.waits;
      first = first;
      grown = if_any answer (record { rows = []; more = ap (λ (v : RowsInHand). v.items) rows ∙ sym (append-nil x.rows.items); laid = none_laid; new = tt });
      told = λ hand in_hand t same. if_known _ _ answer (λ v m. record { value_is = m.value_is; rows = ap (λ (v : RowsInHand). v.items) rows ∙ sym (append-nil x.rows.items); diags = m.diags; answers = m.answers })
          (p.told hand in_hand t (of_this_site making hand same));
      there = if_known _ _ answer stands p.there;
    }

module _ {T U : Type 0} {a b d : State} {x z : Made} {s : Site} {ts : List Shape} {P : Frame → ℕ → T → Type 0} {Q : Frame → ℕ → U → Type 0} (f : Context → T) (h : T → Context → Makes U) where
  -- a question, and what comes after it
  pub asked_then : {v : T} (answer : Result (Ask U) Memory) → IsMaking a.frame s x ts → Declares a b x x s (Ok (Known v)) [] P (λ c. makes (f c)) → Declares b d x z s answer ts Q (h v)
      → Declares a d x z s answer ts Q (λ c. h (f c) c)
  asked_then {v} answer making p q =
      described answer (λ c. h (f c) c) (then_after (λ c. makes (f c)) h answer tt making p q)
      (λ hand in_hand told same. ap (λ (k : Context). h (f (context_of a.frame hand s)) k) (hand_none hand making.suits told))

-- ** The rest of a whole

-- What is made of a whole so far: whatever the rest makes from here on, they make together.
pub record GoesOn {U : Type 0} (a b : State) (x y : Made) (s : Site) (whole rest : List Shape) (Q : Frame → ℕ → U → Type 0) (g h : Context → Makes U) : Type 0 where
  pub making : IsMaking b.frame s y rest
  pub on : (d : State) (z : Made) (answer : Result (Ask U) Memory) → Declares b d y z s answer rest Q h → Declares a d x z s answer whole Q g

pub goes_start : {U : Type 0} {a : State} {x : Made} {s : Site} {whole : List Shape} {Q : Frame → ℕ → U → Type 0} {g : Context → Makes U} → IsMaking a.frame s x whole → GoesOn a a x x s whole whole Q g g
goes_start making = record { making = making; on = λ d z answer p. p }

module _ {T U : Type 0} {a b d : State} {x y z : Made} {s : Site} {whole ss ts : List Shape} {P : Frame → ℕ → T → Type 0} {Q : Frame → ℕ → U → Type 0} {g : Context → Makes U} (p : Context → Makes T) (h : T → Context → Makes U) where
  -- one more piece
  pub goes_step : {v : T} → AreNoTypes ss → GoesOn a b x y s whole (ss ++ ts) Q g (λ c. make_then c (p c) (λ e u. h u e)) → Declares b d y z s (Ok (Known v)) ss P p → GoesOn a d x z s whole ts Q g (h v)
  goes_step none so q =
      record {
        making = making_on none so.making q;
        on = λ k w answer r. so.on k w answer (then_after p h answer none so.making q r);
      }

module _ {T U : Type 0} {a b d : State} {x y : Made} {s : Site} {whole ts : List Shape} {P : Frame → ℕ → T → Type 0} {Q : Frame → ℕ → U → Type 0} {g : Context → Makes U} (f : Context → T) (h : T → Context → Makes U) where
  -- one more question
  pub goes_ask : {v : T} → GoesOn a b x y s whole ts Q g (λ c. h (f c) c) → Declares b d y y s (Ok (Known v)) [] P (λ c. makes (f c)) → GoesOn a d x y s whole ts Q g (h v)
  goes_ask so q =
      record {
        making = making_on {ss = []} tt so.making q;
        on = λ k w answer r. so.on k w answer (asked_then f h answer so.making q r);
      }

module _ {T U : Type 0} {a b d : State} {x y z : Made} {s : Site} {whole ss ts : List Shape} {P : Frame → ℕ → T → Type 0} {Q : Frame → ℕ → U → Type 0} {g h : Context → Makes U} {p : Context → Makes T} where
  -- want of memory in a piece
  pub goes_failed : {m : Memory} → GoesOn a b x y s whole ts Q g h → Declares b d y z s (Err m) ss P p → (n : Memory) → Declares a d x z s (Err n) whole Q g
  goes_failed so q n = so.on d z (Err n) (failed q n)

  -- what isn't known yet of a piece
  pub goes_waiting : {head : Head} → GoesOn a b x y s whole ts Q g h → Declares b d y z s (Ok (DontKnowYet head)) ss P p → Declares a d x z s (Ok (DontKnowYet head)) whole Q g
  goes_waiting {head} so q = so.on d z (Ok (DontKnowYet head)) (waiting q)

-- nothing is left
pub goes_end : {U : Type 0} {a b : State} {x y : Made} {s : Site} {whole : List Shape} {Q : Frame → ℕ → U → Type 0} {g : Context → Makes U} (v : U)
    → GoesOn a b x y s whole [] Q g (λ c. makes v) → Q b.frame (next_ordinal y) v → Declares a b x y s (Ok (Known v)) whole Q g
goes_end {b = b} {y = y} {s = s} {Q = Q} v so h = so.on b y (Ok (Known v)) (value_alone b y s v Q h)

-- the rest, described otherwise
pub goes_as : {U : Type 0} {a b : State} {x y : Made} {s : Site} {whole rest : List Shape} {Q : Frame → ℕ → U → Type 0} {g h : Context → Makes U} (ts : List Shape) (k : Context → Makes U)
    → rest ≡ ts → WhereMaking b.frame y (λ hand. k (context_of b.frame hand s) ≡ h (context_of b.frame hand s)) → GoesOn a b x y s whole rest Q g h → GoesOn a b x y s whole ts Q g k
goes_as {b = b} {y = y} {s = s} {h = h} ts k e same so =
    record {
      making = subst (λ shapes. IsMaking b.frame s y shapes) e so.making;
      on = λ d z answer p. so.on d z answer (described answer h (reshaped answer _ (sym e) p) same);
    }
