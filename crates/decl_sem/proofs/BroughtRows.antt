-- Pieces of an item with the names that it brings.
use Rattle.std.specs.Option.{IfSome}
use Rattle.std.specs.Prelude.{◌≡◌, ◌≢◌, ℕ, suc, ◌+◌, ◌-◌, ◌<◌, ◌≤◌, ◌==◌, ◌^◌, nat_lt, Bool, true, false, is_some, if◌then◌else◌, List, [], ◌∷◌, ◌++◌, length, map, Option, None, Some, option_map, unwrap_or, Result, Ok, Err}
use Rattle.std.proofs.Common.{refl, sym, ap, ◌∙◌, subst, arith}
use Rattle.std.proofs.lemmas.List.{append_assoc, append-nil, length-append, length-map}
use Rattle.std.specs.Result.{IfOk}
use Rattle.m2_base.specs.Asks.{IfKnown}
use Rattle.m2_base.specs.Finished.{IsFinished}
use Rattle.m2_base.specs.Lists.{Each, IsPrefixOf}
use Rattle.m2_base.specs.Noting.{IsRefused}
use Rattle.m2_base.specs.Rows.{alias_kind, at_place, row_of}
use Rattle.m2_base.specs.Standard.{broken, is_standard}
use Rattle.m2_base.specs.States.{Frame, State, Waits, Works}
use Rattle.m2_base.specs.Statics.Contexts.{Context, Layout, diag}
use Rattle.m2_base.specs.Statics.Diagnostics.{declared_twice, too_many_constants}
use Rattle.m2_base.specs.Statics.ImportedConstants as plain
use Rattle.m2_base.specs.Statics.ImportedConstants.{are_too_many, brought_names, brought_row}
use Rattle.m2_base.specs.Statics.Lookup.{entry_named, entry_or, first_entry, moved}
use Rattle.m2_base.specs.Statics.Makes.{Makes, make_then, makes, one_row, own_rows}
use Rattle.m2_base.specs.Statics.Shapes.{Shape, named}
use Rattle.m2_base.specs.declared.limits.TheConstants.{MOST_BROUGHT}
use Rattle.m2_base.specs.declared.memory.Memory.{Memory}
use Rattle.m2_base.specs.declared.notes.Answer.{Answer}
use Rattle.m2_base.specs.declared.notes.Diag.{Diag}
use Rattle.m2_base.specs.declared.notes.Notes.{Notes}
use Rattle.m2_base.specs.declared.replies.Ask.{Ask}
use Rattle.m2_base.specs.declared.replies.Ask.TheVariants.{DontKnowYet, Known}
use Rattle.m2_base.specs.declared.replies.Head.{Head}
use Rattle.m2_base.specs.declared.rows.Place.{Place}
use Rattle.m2_base.specs.declared.rows.Row.{Row}
use Rattle.m2_base.specs.declared.rows.RowMeaning.TheVariants.{Alias}
use Rattle.m2_base.specs.declared.sites.Named.{Named}
use Rattle.m2_base.specs.declared.sites.Site.{Site}
use Rattle.m2_base.specs.declared.trees.Ident.{Ident}
use Rattle.m2_base.proofs.EachLaws.{each_then}
use Rattle.m2_base.proofs.Kept.{Works-kept, Works-notes, Works-trans, IsPrefixOf-refl}
use Rattle.type_rules.specs.Asks.{Reads}
use Rattle.type_rules.specs.Scenes.{AreInHand, Hand}
use Rattle.type_rules.specs.Sites.{context_of}
use Rattle.std.specs.declared.alloc.Global.{Global}
use Rattle.std.specs.declared.vec.Vec.{Vec}
use Rattle.decl_sem.specs.Brought.{DeclaresWith, GrownWith, all_names, brings_new, listed_of}
use Rattle.decl_sem.specs.MadeRows.{RowsInHand}
use Rattle.decl_sem.specs.FoundConstants.{AreNewMembers, Differ, IsMember, IsNewMember, member_view}
use Rattle.decl_sem.specs.LaidRows.{AreLaid, IsLaid, is_of, kept_name, none_laid}
use Rattle.decl_sem.specs.Making.{IsInHand, MakesAll, diag_in, next_ordinal}
use Rattle.decl_sem.specs.NewNames.{AreNewNames, AreRowsOf, ordinal_before}
use Rattle.decl_sem.specs.Pieces.{AreNewRows, Declares, IsAny, IsBehind, IsMaking, IsNewMeaning, IsNewRow, WhereMaking, holding, item_end, known_of}
use Rattle.decl_sem.specs.declared.brought.Found.{Found}
use Rattle.decl_sem.specs.declared.brought.Member.{Member}
use Rattle.decl_sem.specs.declared.making.Made.{Made}
use Rattle.decl_sem.proofs.FirstNames.{AreLaid-append}
use Rattle.decl_sem.proofs.FirstOrdinals.{entry_of}
use Rattle.decl_sem.proofs.Hands.{hand_is, hand_with, in_hand}
use Rattle.decl_sem.proofs.HiddenNames.{earlier_none}
use Rattle.decl_sem.proofs.MakingOn.{makes_then}
use Rattle.decl_sem.proofs.OneRows.{at_context, before_next, new_row, one_piece, small_scope, some_names}
use Rattle.decl_sem.proofs.Pieces.{AreNoTypes, if_known, laid-length, making_on, new-append, next_on, waits_on}

-- ** Pieces that bring nothing

module _ {T : Type 0} {a b : State} {x y : Made} {s : Site} {ss : List Shape} {P Q : Frame → ℕ → T → Type 0} {g : Context → Makes T} (names : T → List Named) where
  -- a piece whose value has no names
  pub bringing_none : {v : T} → names v ≡ [] → Q a.frame (next_ordinal y) v → Declares a b x y s (Ok (Known v)) ss P g → DeclaresWith a b x y s (Ok (Known v)) ss names Q g
  bringing_none {v} none stands p =
      record {
        works = p.works;
        waits = tt;
        first = p.first;
        grown = record {
          own = p.grown.rows;
          rows = [];
          more = p.grown.more ∙ ap (λ (rows : List Row). x.rows.items ++ rows) (sym (append-nil p.grown.rows));
          laid = p.grown.laid;
          of_names = subst (λ (ns : List Named). AreRowsOf ns []) (sym none) tt;
          names = subst (λ (ns : List Named). AreNewNames s.layout.now (unwrap_or s.item 0) (next_ordinal x + length ss) (next_ordinal x + length ss) ns) (sym none) tt;
          few = let e = ap length none in omega (arith, e);
          new = subst (λ (rows : List Row). AreNewRows a.frame (item_end s) (next_ordinal x) rows) (sym (append-nil p.grown.rows)) p.grown.new;
        };
        told = p.told;
        there = stands;
      }

module _ {T U : Type 0} {a b : State} {x y : Made} {s : Site} {ss ts : List Shape} {P : Frame → ℕ → T → Type 0} {Q : Frame → ℕ → U → Type 0} {g : Context → Makes T} {h : Context → Makes U} (names : U → List Named) where
  -- what isn't known yet
  pub bringing_waits : {head : Head} → Declares a b x y s (Ok (DontKnowYet head)) ss P g → DeclaresWith a b x y s (Ok (DontKnowYet head)) ts names Q h
  bringing_waits p = record { works = p.works; waits = p.waits; first = p.first; grown = tt; told = λ hand in_hand told same. tt; there = tt }

  -- want of memory
  pub bringing_failed : {m : Memory} → Declares a b x y s (Err m) ss P g → (n : Memory) → DeclaresWith a b x y s (Err n) ts names Q h
  bringing_failed p n = record { works = p.works; waits = tt; first = p.first; grown = tt; told = λ hand in_hand told same. tt; there = tt }

module _ {T U : Type 0} {a b : State} {x y : Made} {s : Site} {ss ts : List Shape} {P : Frame → ℕ → T → Type 0} {Q : Frame → ℕ → U → Type 0} {g : Context → Makes T} {h : Context → Makes U} (names : T → List Named) (more : U → List Named) where
  -- what isn't known yet of a part isn't known yet of the whole
  pub bringing_waiting : {head : Head} → DeclaresWith a b x y s (Ok (DontKnowYet head)) ss names P g → DeclaresWith a b x y s (Ok (DontKnowYet head)) ts more Q h
  bringing_waiting p = record { works = p.works; waits = p.waits; first = p.first; grown = tt; told = λ hand in_hand told same. tt; there = tt }

-- want of memory, after notes
pub bringing_unmade : {U : Type 0} {a b : State} {x y : Made} (s : Site) (ss : List Shape) (names : U → List Named) (Q : Frame → ℕ → U → Type 0) (h : Context → Makes U) (m : Memory) → Works a b x.notes y.notes → y.first ≡ x.first → DeclaresWith a b x y s (Err m) ss names Q h
bringing_unmade s ss names Q h m works first = record { works = works; waits = tt; first = first; grown = tt; told = λ hand in_hand told same. tt; there = tt }

-- what isn't known yet, after notes
pub bringing_unknown : {U : Type 0} {a b : State} {x y : Made} (s : Site) (ss : List Shape) (names : U → List Named) (Q : Frame → ℕ → U → Type 0) (h : Context → Makes U) (head : Head) → Works a b x.notes y.notes → Waits a b head → y.first ≡ x.first
    → DeclaresWith a b x y s (Ok (DontKnowYet head)) ss names Q h
bringing_unknown s ss names Q h head works waits first = record { works = works; waits = waits; first = first; grown = tt; told = λ hand in_hand told same. tt; there = tt }

-- ** One after another

module _ {T U : Type 0} {a b d : State} {x y z : Made} {s : Site} {ss ts : List Shape} {P : Frame → ℕ → T → Type 0} {Q : Frame → ℕ → U → Type 0} (names : U → List Named) (g : Context → Makes T) (h : T → Context → Makes U) where
  -- a piece, and then one that brings names
  pub bringing_after : {v : T} (answer : Result (Ask U) Memory) → AreNoTypes ss → IsMaking a.frame s x (ss ++ ts) → Declares a b x y s (Ok (Known v)) ss P g → DeclaresWith b d y z s answer ts names Q (h v)
      → DeclaresWith a d x z s answer (ss ++ ts) names Q (λ c. make_then c (g c) (λ e u. h u e))
  bringing_after {v} answer none making p q =
      record {
        works = Works-trans p.works q.works;
        waits = waits_on d answer p.works q.waits;
        first = q.first ∙ p.first;
        grown = if_known _ _ answer (λ w more. both_grown w (subst (λ (f : Frame). GrownWith f s y z ts (names w)) same_frame more)) q.grown;
        told = both;
        there = subst (λ (f : Frame). IfKnown answer (λ w. Q f (next_ordinal z) w)) same_frame q.there;
      }
    where
      same_frame : b.frame ≡ a.frame
      same_frame = p.works.keeps.frame

      next : next_ordinal y ≡ next_ordinal x + length ss
      next = next_on p.first p.grown

      behind : next_ordinal y + length ts ≡ next_ordinal x + length (ss ++ ts)
      behind = let l = length-append ss ts in let n = next in omega (arith, l, n)

      made : next_ordinal y ≡ next_ordinal x + length p.grown.rows
      made = let n = next in let l = laid-length p.grown.laid in omega (arith, n, l)

      both_grown : (w : U) → GrownWith a.frame s y z ts (names w) → GrownWith a.frame s x z (ss ++ ts) (names w)
      both_grown w q =
          record {
            own = p.grown.rows ++ q.own;
            rows = q.rows;
            more = q.more ∙ ap (λ (rows : List Row). rows ++ (q.own ++ q.rows)) p.grown.more ∙ append_assoc x.rows.items p.grown.rows (q.own ++ q.rows)
                ∙ ap (λ (rows : List Row). x.rows.items ++ rows) (sym (append_assoc p.grown.rows q.own q.rows));
            laid = AreLaid-append p.grown.laid (subst (λ (n : ℕ). AreLaid s.layout.now n ts q.own) made q.laid);
            of_names = q.of_names;
            names = subst (λ (n : ℕ). AreNewNames s.layout.now (unwrap_or s.item 0) n n (names w)) behind q.names;
            few = q.few;
            new = subst (λ (rows : List Row). AreNewRows a.frame (item_end s) (next_ordinal x) rows) (sym (append_assoc p.grown.rows q.own q.rows))
                (new-append a.frame (item_end s) (next_ordinal x) p.grown.rows (q.own ++ q.rows) p.grown.new (subst (λ (n : ℕ). AreNewRows a.frame (item_end s) n (q.own ++ q.rows)) made q.new));
          }

      after : (held : Hand) → held.rows ≡ y.rows.items → AreInHand a.frame held
      after held same = subst (λ (f : Frame). AreInHand f held) same_frame (in_hand (making_on none making p) held same)

      later : WhereMaking a.frame y (λ hand. IfKnown answer (λ w. MakesAll y z (h v (context_of a.frame hand s)) w))
      later = subst (λ (f : Frame). WhereMaking f y (λ hand. IfKnown answer (λ w. MakesAll y z (h v (context_of f hand s)) w))) same_frame q.told

      both : WhereMaking a.frame x (λ hand. IfKnown answer (λ w. MakesAll x z (make_then (context_of a.frame hand s) (g (context_of a.frame hand s)) (λ e u. h u e)) w))
      both hand in_hand told same =
          let c = context_of a.frame hand s in
          let m = p.told hand in_hand told same in
          let same_rows : hand.rows ++ (g c).rows ≡ y.rows.items = ap (λ rows. rows ++ (g c).rows) same ∙ sym m.rows in
          let r = later (holding hand (g c).rows) (after (holding hand (g c).rows) same_rows) told same_rows in
          if_known _ _ answer (λ w n. makes_then c (g c) (λ e u. h u e) m (subst (λ (k : Context). MakesAll y z (h v k) w) (sym (hand_with hand (g c).rows making.suits told)) n)) r

-- after questions
pub bringing_read : {U : Type 0} {a b : State} {x y : Made} {s : Site} {ts : List Shape} {Q : Frame → ℕ → U → Type 0} (names : U → List Named) (g h : Context → Makes U) (answer : Result (Ask U) Memory) → Reads a b
    → WhereMaking a.frame x (λ hand. h (context_of a.frame hand s) ≡ g (context_of a.frame hand s)) → DeclaresWith b b x y s answer ts names Q g → DeclaresWith a b x y s answer ts names Q h
bringing_read {a = a} {b = b} {x = x} {y = y} {s = s} {ts = ts} {Q = Q} names g h answer reads same q =
    let frame : b.frame ≡ a.frame = reads.keeps.frame in
    record {
      works = Works-trans (Works-kept x.notes x.notes reads.keeps refl (IsPrefixOf-refl x.notes.diags.items)) q.works;
      waits = waits_on b answer (Works-kept x.notes x.notes reads.keeps refl (IsPrefixOf-refl x.notes.diags.items)) q.waits;
      first = q.first;
      grown = subst (λ (f : Frame). IfKnown answer (λ w. GrownWith f s x y ts (names w))) frame q.grown;
      told = λ hand in_hand told so.
          subst (λ (m : Makes _). IfKnown answer (λ w. MakesAll x y m w)) (sym (same hand in_hand told so))
          ((subst (λ (f : Frame). WhereMaking f x (λ held. IfKnown answer (λ w. MakesAll x y (g (context_of f held s)) w))) frame q.told) hand in_hand told so);
      there = subst (λ (f : Frame). IfKnown answer (λ w. Q f (next_ordinal y) w)) frame q.there;
    }

-- the value of names, seen otherwise
pub bringing_valued : {T U : Type 0} {a b : State} {x y : Made} {s : Site} {ss : List Shape} {P : Frame → ℕ → T → Type 0} {g : Context → Makes T} {v : T} (names : T → List Named) (more : U → List Named) (Q : Frame → ℕ → U → Type 0) (F : T → U) (w : U) → w ≡ F v → more w ≡ names v
    → Q a.frame (next_ordinal y) w → DeclaresWith a b x y s (Ok (Known v)) ss names P g → DeclaresWith a b x y s (Ok (Known w)) ss more Q (λ c. make_then c (g c) (λ d p. makes (F p)))
bringing_valued {a = a} {x = x} {y = y} {s = s} {ss = ss} {g = g} {v = v} names more Q F w e same stands p =
    record {
      works = p.works;
      waits = tt;
      first = p.first;
      grown = subst (λ (ns : List Named). GrownWith a.frame s x y ss ns) (sym same) p.grown;
      told = λ hand in_hand told so.
          let m = p.told hand in_hand told so in
          let c = context_of a.frame hand s in
          record {
            value_is = e ∙ ap F m.value_is;
            rows = m.rows ∙ ap (λ (t : List Row). x.rows.items ++ t) (sym (append-nil (g c).rows));
            diags = m.diags ∙ ap (λ (t : List Diag). x.notes.diags.items ++ t) (sym (append-nil (g c).diags));
            answers = m.answers ∙ ap (λ (t : List Answer). x.notes.answers.items ++ t) (sym (append-nil (g c).answers));
          };
      there = stands;
    }

-- the same, otherwise described
pub bringing_as : {U : Type 0} {a b : State} {x y : Made} {s : Site} {ss ts : List Shape} {P Q : Frame → ℕ → U → Type 0} {g h : Context → Makes U} (names : U → List Named) (answer : Result (Ask U) Memory) → ss ≡ ts
    → WhereMaking a.frame x (λ hand. g (context_of a.frame hand s) ≡ h (context_of a.frame hand s)) → IfKnown answer (λ v. Q a.frame (next_ordinal y) v) → DeclaresWith a b x y s answer ss names P g → DeclaresWith a b x y s answer ts names Q h
bringing_as {a = a} {x = x} {y = y} {s = s} names answer shapes same stands p =
    record {
      works = p.works;
      waits = p.waits;
      first = p.first;
      grown = subst (λ (zs : List Shape). IfKnown answer (λ v. GrownWith a.frame s x y zs (names v))) shapes p.grown;
      told = λ hand in_hand told so. subst (λ (given : Makes _). IfKnown answer (λ v. MakesAll x y given v)) (same hand in_hand told so) (p.told hand in_hand told so);
      there = stands;
    }

-- ** Rows of new constants

names_laid : (l : Layout) (i limit o at : ℕ) (f : Frame) (s : Site) (ms : List Member) → s.layout.now ≡ l → Each (IsNewMember f s limit) ms → Differ ms → AreNewNames l i limit o (brought_names i o at (map member_view ms))
names_laid l i limit o at f s [] e each differ = tt
names_laid l i limit o at f s (m ∷ ms) e each differ = (
  record {
    named = each.0.member.named;
    plain = each.0.plain;
    kind = refl;
    of_item = refl;
    at = refl;
    unknown = subst (λ (k : Layout). ordinal_before limit (first_entry k m.name) ≡ None) e (earlier_none s.layout.now limit m.name each.0.unknown each.0.plain);
  },
  (others (o + 1) ms differ.0, names_laid l i limit (o + 1) at f s ms e each.1 differ.1),
)
  where
    others : (n : ℕ) (ks : List Member) → Each (λ (k : Member). k.name ≢ m.name) ks → Each (λ (d : Named). d.name ≢ m.name) (brought_names i n at (map member_view ks))
    others n [] h = tt
    others n (k ∷ ks) h = (h.0, others (n + 1) ks h.1)

rows_named : (i o at : ℕ) (ms : List Member) → AreRowsOf (brought_names i o at (map member_view ms)) (map (brought_row at) (map member_view ms))
rows_named i o at [] = tt
rows_named i o at (m ∷ ms) = (refl, refl, refl, rows_named i (o + 1) at ms)

names_length : (i o at : ℕ) (ms : List Member) → length (brought_names i o at (map member_view ms)) ≡ length ms
names_length i o at [] = refl
names_length i o at (m ∷ ms) = ap suc (names_length i (o + 1) at ms)

rows_new : {f : Frame} {s : Site} {x : Made} {ss : List Shape} (at o limit : ℕ) (ms : List Member) → IsMaking f s x ss → next_ordinal x ≤ o → Each (IsNewMember f s limit) ms → AreNewRows f (item_end s) o (map (brought_row at) (map member_view ms))
rows_new at o limit [] making h each = tt
rows_new {f} {s} {x} at o limit (m ∷ ms) making h each =
    let small = each.0.member.small in
    let before = each.0.member.before in
    let behind : IsBehind f o m.place = record { small = small; scope = omega (arith, before); before = λ own. absurd (omega (arith, own, before)) } in (
      new_row f s o m.name at (Alias m.place) each.0.member.known (record { small = small; scopes = small_scope making behind; fits = before_next behind; filled = tt; owned = tt }),
      rows_new at (o + 1) limit ms making (omega (arith, h)) each.1,
    )

not_full : (k m n : ℕ) → nat_lt k (m + n) ≡ false → n ≤ k - m
not_full k m n h = grind (arith, h)

few_test : (s : Site) (ms : List Member) (b : Bool) → nat_lt MOST_BROUGHT (length s.layout.now.brought + length ms) ≡ b → (c : Context) → c.layout ≡ s.layout.now → are_too_many c (map member_view ms) ≡ b
few_test s ms b h c same =
    ap (λ (l : Layout). nat_lt MOST_BROUGHT (length l.brought + length (map member_view ms))) same
    ∙ ap (λ (n : ℕ). nat_lt MOST_BROUGHT (length s.layout.now.brought + n)) (length-map ms member_view) ∙ h

-- all that is brought of new constants that are not too many
abbrev all_new : Context → (at : ℕ) → List plain.Member → (hidden : Bool) → Makes (List Named)
all_new c at new hidden =
    record { value = brought_names (unwrap_or c.item 0) (length (own_rows c)) at new; rows = map (brought_row at) new; diags = if hidden then diag c at declared_twice ∷ [] else []; answers = [] }

-- and where they are too many
abbrev none_new : Context → (at : ℕ) → Makes (List Named)
none_new c at = record { value = []; rows = []; diags = diag c at too_many_constants ∷ []; answers = [] }

by_few : (c : Context) (at : ℕ) (new : List plain.Member) (hidden : Bool) → are_too_many c new ≡ false → brings_new c at new hidden ≡ all_new c at new hidden
by_few c at new hidden e = ap (λ (b : Bool). if b then none_new c at else all_new c at new hidden) e

by_many : (c : Context) (at : ℕ) (new : List plain.Member) (hidden : Bool) → are_too_many c new ≡ true → brings_new c at new hidden ≡ none_new c at
by_many c at new hidden e = ap (λ (b : Bool). if b then none_new c at else all_new c at new hidden) e

module _ {s : Site} {x y : Made} (at : ℕ) (found : Found) (a : State) (making : IsMaking a.frame s x []) (new : AreNewMembers a.frame s x found.members.items) where
  -- all are put
  pub all_put : (brought : List Named) → brought ≡ brought_names (unwrap_or s.item 0) (next_ordinal x) at (map member_view found.members.items)
      → y.rows.items ≡ x.rows.items ++ map (brought_row at) (map member_view found.members.items)
      → y.notes.answers.items ≡ x.notes.answers.items → y.notes.diags.items ≡ x.notes.diags.items ++ (if found.hidden then record { text = s.around.now.text; at = at; code = declared_twice } ∷ [] else [])
      → y.first ≡ x.first → nat_lt MOST_BROUGHT (length s.layout.now.brought + length found.members.items) ≡ false
      → DeclaresWith a a x y s (Ok (Known brought)) [] all_names IsAny (λ c. brings_new c at (map member_view found.members.items) found.hidden)
  all_put brought is rows answers diags first few =
      let here : next_ordinal x + 0 ≡ next_ordinal x = omega arith in
      record {
        works = Works-notes a x.notes y.notes answers (record { rest = if found.hidden then record { text = s.around.now.text; at = at; code = declared_twice } ∷ [] else []; joined = sym diags });
        waits = tt;
        first = first;
        grown = record {
          own = [];
          rows = map (brought_row at) (map member_view found.members.items);
          more = rows;
          laid = none_laid;
          of_names = subst (λ (ns : List Named). AreRowsOf ns (map (brought_row at) (map member_view found.members.items))) (sym is) (rows_named (unwrap_or s.item 0) (next_ordinal x) at found.members.items);
          names = subst (λ (n : ℕ). AreNewNames s.layout.now (unwrap_or s.item 0) n n brought) (sym here)
              (subst (λ (ns : List Named). AreNewNames s.layout.now (unwrap_or s.item 0) (next_ordinal x) (next_ordinal x) ns) (sym is)
              (names_laid s.layout.now (unwrap_or s.item 0) (next_ordinal x) (next_ordinal x) at a.frame s found.members.items refl new.each new.differ));
          few = let e = ap length is in let n = names_length (unwrap_or s.item 0) (next_ordinal x) at found.members.items in
              let f = not_full MOST_BROUGHT (length s.layout.now.brought) (length found.members.items) few in omega (arith, e, n, f);
          new = rows_new at (next_ordinal x) (next_ordinal x) found.members.items making (omega arith) new.each;
        };
        told = λ hand in_hand told same.
            let c = context_of a.frame hand s in
            let count : length (own_rows c) ≡ next_ordinal x = (hand_is making hand same told).count in
            let right : MakesAll x y (all_new c at (map member_view found.members.items) found.hidden) brought =
            record {
              value_is = is ∙ ap (λ (n : ℕ). brought_names (unwrap_or s.item 0) n at (map member_view found.members.items)) (sym count);
              rows = rows;
              diags = diags;
              answers = answers ∙ sym (append-nil x.notes.answers.items);
            } in
            subst (λ (m : Makes (List Named)). MakesAll x y m brought) (sym (by_few c at (map member_view found.members.items) found.hidden (few_test s found.members.items false few c refl))) right;
        there = tt;
      }

  -- they are too many
  pub none_put : y.rows.items ≡ x.rows.items → y.notes.answers.items ≡ x.notes.answers.items → IsRefused x.notes y.notes s.around.now.text at too_many_constants → y.first ≡ x.first
      → nat_lt MOST_BROUGHT (length s.layout.now.brought + length found.members.items) ≡ true
      → (brought : List Named) → brought ≡ [] → DeclaresWith a a x y s (Ok (Known brought)) [] all_names IsAny (λ c. brings_new c at (map member_view found.members.items) found.hidden)
  none_put rows answers noted first many brought none =
      record {
        works = Works-notes a x.notes y.notes answers (record { rest = record { text = s.around.now.text; at = at; code = too_many_constants } ∷ []; joined = sym noted });
        waits = tt;
        first = first;
        grown = record {
          own = [];
          rows = [];
          more = rows ∙ sym (append-nil x.rows.items);
          laid = none_laid;
          of_names = subst (λ (ns : List Named). AreRowsOf ns []) (sym none) tt;
          names = subst (λ (ns : List Named). AreNewNames s.layout.now (unwrap_or s.item 0) (next_ordinal x + 0) (next_ordinal x + 0) ns) (sym none) tt;
          few = let e = ap length none in omega (arith, e);
          new = tt;
        };
        told = λ hand in_hand told same.
            let c = context_of a.frame hand s in
            subst (λ (m : Makes (List Named)). MakesAll x y m brought) (sym (by_many c at (map member_view found.members.items) found.hidden (few_test s found.members.items true many c refl)))
            (record { value_is = none; rows = rows ∙ sym (append-nil x.rows.items); diags = noted; answers = answers ∙ sym (append-nil x.notes.answers.items) });
        there = tt;
      }

-- there is room for them
pub room_for_brought : {f : Frame} {s : Site} {x : Made} {ss : List Shape} → IsMaking f s x ss → next_ordinal x < 2 ^ 32 - 16384
room_for_brought making = let r = making.room in let n = making.few in omega (arith, r, n)

pub places_small : {f : Frame} {s : Site} {x : Made} {ss : List Shape} → IsMaking f s x ss → (ms : List Member) → AreNewMembers f s x ms → Each (λ (m : Member). m.place.scope < 2 ^ 31) ms
places_small {f} {s} {x} making ms new = each_then (IsNewMember f s (next_ordinal x)) (λ (m : Member). m.place.scope < 2 ^ 31) ms (λ m h. let b = h.member.before in let n = making.small in omega (arith, b, n)) new.each

-- memory is wanted for a note
pub found_unmade : {s : Site} {x y : Made} (at : ℕ) (found : Found) (a : State) (m : Memory) → y.notes.answers.items ≡ x.notes.answers.items → IsPrefixOf x.notes.diags.items y.notes.diags.items → y.first ≡ x.first
    → DeclaresWith a a x y s (Err m) [] all_names IsAny (λ c. brings_new c at (map member_view found.members.items) found.hidden)
found_unmade {s} {x} {y} at found a m answers diags first = bringing_unmade s [] all_names IsAny (λ c. brings_new c at (map member_view found.members.items) found.hidden) m (Works-notes a x.notes y.notes answers diags) first

-- all are put, or memory is wanted
pub found_put : {s : Site} {x y z : Made} (at : ℕ) (found : Found) (a : State) → IsMaking a.frame s x [] → AreNewMembers a.frame s x found.members.items → (result : Result (Vec Named Global) Memory)
    → IfOk result (λ brought. brought.items ≡ brought_names (unwrap_or s.item 0) (next_ordinal y) at (map member_view found.members.items))
    → IfOk result (λ brought. z.rows.items ≡ y.rows.items ++ map (brought_row at) (map member_view found.members.items))
    → z.notes ≡ y.notes → y.notes.answers.items ≡ x.notes.answers.items → y.notes.diags.items ≡ x.notes.diags.items ++ (if found.hidden then diag_in s.around.now.text at declared_twice ∷ [] else [])
    → IsPrefixOf x.notes.diags.items y.notes.diags.items → z.first ≡ y.first → nat_lt MOST_BROUGHT (length s.layout.now.brought + length found.members.items) ≡ false → y.rows ≡ x.rows → y.first ≡ x.first
    → DeclaresWith a a x z s (known_of (listed_of result)) [] all_names IsAny (λ c. brings_new c at (map member_view found.members.items) found.hidden)
found_put {s} {x} {y} {z} at found a making new (Ok brought) names rows notes answers diags grows first few same_rows same_first =
    let count : next_ordinal y ≡ next_ordinal x = ap (λ (v : RowsInHand). y.first + length v.items) same_rows ∙ ap (λ (n : ℕ). n + length x.rows.items) same_first in
    all_put at found a making new brought.items (names ∙ ap (λ (n : ℕ). brought_names (unwrap_or s.item 0) n at (map member_view found.members.items)) count)
    (rows ∙ ap (λ (v : RowsInHand). v.items ++ map (brought_row at) (map member_view found.members.items)) same_rows)
    (ap (λ (n : Notes). n.answers.items) notes ∙ answers) (ap (λ (n : Notes). n.diags.items) notes ∙ diags) (first ∙ same_first) few
found_put {s} {x} {y} {z} at found a making new (Err m) names rows notes answers diags grows first few same_rows same_first =
    found_unmade at found a m (ap (λ (n : Notes). n.answers.items) notes ∙ answers) (subst (λ (n : Notes). IsPrefixOf x.notes.diags.items n.diags.items) (sym notes) grows) (first ∙ same_first)

-- ** The alias of a name that was brought before

not_same : (m n : ℕ) → m < n → (m == n) ≡ false
not_same m n h = grind (arith, h)

-- its row keeps no name
again_kept : (l : Layout) (o name : ℕ) → is_some (entry_named l.brought name) ≡ true → Each (λ b. b.ordinal < o) l.brought → 0 ≡ kept_name l o name
again_kept l o name some old = go (is_standard name) (entry_named l.brought name) refl some
  where
    go : (t : Bool) (e : Option Named) → entry_named l.brought name ≡ e → is_some e ≡ true → 0 ≡ (if t then 0 else if is_of o (entry_or (entry_named l.brought name) (option_map (moved l.brought) (entry_named l.names name))) then name else 0)
    go true e h k = refl
    go false None h k = absurd (cc)
    go false (Some n) h k =
        let below = entry_of (λ b. b.ordinal < o) l.brought name n old h in
        let other : is_of o (entry_or (entry_named l.brought name) (option_map (moved l.brought) (entry_named l.names name))) ≡ false =
        ap (λ (q : Option Named). is_of o (entry_or q (option_map (moved l.brought) (entry_named l.names name)))) h ∙ not_same n.ordinal o below in
        sym (ap (λ (b : Bool). if b then name else 0) other)

-- the row of such a name
pub again_piece : {s : Site} {x y : Made} (i : Ident) (target : Place) (again : Bool) (result : Result Place Memory)
    → IfOk result (λ place. (c : Context) → IsInHand c s x → MakesAll x y (one_row c (row_of 0 i.at (Alias target)) (if again then diag c i.at declared_twice ∷ [] else [])) place)
    → IfOk result (λ place. y.rows.items ≡ x.rows.items ++ row_of 0 i.at (Alias target) ∷ [])
    → IfOk result (λ place. place ≡ at_place s.around.now.scope (next_ordinal x))
    → y.notes.answers.items ≡ x.notes.answers.items → IsPrefixOf x.notes.diags.items y.notes.diags.items → y.first ≡ x.first
    → (a : State) → IsMaking a.frame s x (named alias_kind i ∷ []) → is_some (entry_named s.layout.now.brought i.name) ≡ true → IsBehind a.frame (next_ordinal x) target
    → Declares a a x y s (known_of result) (named alias_kind i ∷ []) IsBehind (λ c. one_row c (row_of 0 i.at (Alias target)) (if again then diag c i.at declared_twice ∷ [] else []))
again_piece {s} {x} {y} i target again result made rows is answers diags first a making some behind =
    one_piece (named alias_kind i) (row_of 0 i.at (Alias target)) (λ c. one_row c (row_of 0 i.at (Alias target)) (if again then diag c i.at declared_twice ∷ [] else [])) result a
    (at_context s x y (λ c. one_row c (row_of 0 i.at (Alias target)) (if again then diag c i.at declared_twice ∷ [] else [])) result a.frame (λ hand same told. at_hand result made hand same told)) rows is answers diags first making
    (record {
      kind = refl;
      at = refl;
      name = again_kept s.layout.now (next_ordinal x) i.name some
          (each_then (λ b. b.ordinal < x.first) (λ b. b.ordinal < next_ordinal x) s.layout.now.brought (λ b h. omega (arith, h)) making.old);
    })
    (new_row a.frame s (next_ordinal x) 0 i.at (Alias target) (some_names making) (record { small = behind.small; scopes = small_scope making behind; fits = before_next behind; filled = tt; owned = tt }))
  where
    at_hand : (r : Result Place Memory) → IfOk r (λ place. (c : Context) → IsInHand c s x → MakesAll x y (one_row c (row_of 0 i.at (Alias target)) (if again then diag c i.at declared_twice ∷ [] else [])) place) → (hand : Hand) → hand.rows ≡ x.rows.items → IsFinished a.frame.setting.texts hand.finished
        → IfOk r (λ place. MakesAll x y (one_row (context_of a.frame hand s) (row_of 0 i.at (Alias target)) (if again then diag (context_of a.frame hand s) i.at declared_twice ∷ [] else [])) place)
    at_hand (Ok place) f hand same told = f (context_of a.frame hand s) (hand_is making hand same told)
    at_hand (Err e) f hand same told = tt
