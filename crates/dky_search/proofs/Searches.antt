-- A search over the shared tables is one as all scopes promise it.
use Rattle.std.proofs.Common.{◌≡◌, ℕ, Bool, true, false, List, [], ◌∷◌, ◌++◌, Some, map, length, slice_get, sym, refl, ap, ◌∙◌, subst, inl, inr}
use Rattle.std.proofs.lemmas.Bool.{false≢true}
use Rattle.std.proofs.lemmas.Option.{slice_get_within}
use Rattle.m2_base.specs.Lists.{Each, IsIn}
use Rattle.m2_base.specs.Rows.{IsWellFormed}
use Rattle.m2_base.specs.Scopes.{IsLoaded, IsShown, IsTaken, StopsAt, Replied, Searched, looks_of}
use Rattle.m2_base.specs.States.{State, Look, Mark, IsLater, Keeps, mark_of}
use Rattle.m2_base.specs.Tables.{Table, Lacks, Settles, table_at, head_of, lookup, one_thread}
use Rattle.m2_base.specs.declared.replies.Head.{Head}
use Rattle.m2_base.specs.declared.replies.Reply.{Reply}
use Rattle.m2_base.specs.declared.replies.Reply.TheVariants.{Found, Absent, DontKnowYet}
use Rattle.m2_base.specs.declared.rows.Place.{Place}
use Rattle.m2_base.specs.declared.rows.Row.{Row}
use Rattle.m2_base.proofs.EachLaws.{each_then}
use Rattle.m2_base.proofs.Kept.{IsLater-refl}
use Rattle.scope_core.specs.Heads.{heads_of}
use Rattle.scope_core.proofs.Settling.{one_thread_settles, lawful_heads}
use Rattle.scope_table.specs.Rule.{scopes, shown_at, texts_in, IsBefore, IsSound}
use Rattle.scope_table.specs.declared.view.About.{About}
use Rattle.scope_table.specs.declared.view.Look.{Look as Noted}
use Rattle.scope_table.specs.declared.view.Shown.{Shown}
use Rattle.scope_table.specs.declared.view.View.{View}
use Rattle.dky_search.specs.Seen.{tables_in, mark_in, look_of, state_in, IsWithout, TellsOf}
use Rattle.dky_search.specs.SeatScopes.{StopsNew}
use Rattle.dky_search.proofs.Seen.{seen_table, later_marks, begun}
use Rattle.dky_search.proofs.Told.{tells, taken, each_head}

pub each_in : {A : Type 0} (P : A → Type 0) (xs : List A) (x : A) → Each P xs → IsIn x xs → P x
each_in P [] x all on = absurd on
each_in P (y ∷ xs) x all on = elim on as (λ _. P x) [ inl is ↦ subst P (sym is) all.0 | inr later ↦ each_in P xs x all.1 later ]

pub noted_looks : (xs ys : List Noted) → map look_of (xs ++ ys) ≡ map look_of xs ++ map look_of ys
noted_looks [] ys = refl
noted_looks (x ∷ xs) ys = ap (λ (ls : List Look). look_of x ∷ ls) (noted_looks xs ys)

-- From v to w only heads were loaded, and the own scope stands as it stood.
module _ (a : About) (own : ℕ) (v w : View) (later : (j : ℕ) → IsBefore (shown_at v j) (shown_at w j)) (mine : shown_at w own ≡ shown_at v own) where
  abbrev old : State
  old = state_in a v own

  abbrev new : State
  new = state_in a w own

  -- of a scope the rows and the mark
  rows_there : (s : ℕ) → (table_at (tables_in w) s).rows ≡ (shown_at w s).rows
  rows_there s = ap (λ (t : Table). t.rows) (seen_table w s)

  mark_there : (s : ℕ) → (table_at (tables_in w) s).complete ≡ (shown_at w s).complete
  mark_there s = ap (λ (t : Table). t.complete) (seen_table w s)

  head_there : (s : ℕ) → mark_of (head_of s (table_at (tables_in w) s)) ≡ mark_in (shown_at w s)
  head_there s = ap (λ (t : Table). mark_of (head_of s t)) (seen_table w s)

  -- the head of a scope, as it is seen now, was loaded in between
  pub now_loaded : (s : ℕ) → IsLoaded old new (head_of s (table_at (tables_in w) s))
  now_loaded s =
      record {
        from = subst (IsLater (old.seen s)) (sym (head_there s)) (later_marks (shown_at v s) (shown_at w s) (later s));
        upto = subst (λ (m : Mark). IsLater m (new.seen s)) (sym (head_there s)) (IsLater-refl (new.seen s));
      }

  pub stops_at : (h : Head) → h ≡ head_of h.scope (table_at (tables_in w) h.scope) → h.complete ≡ false → StopsAt old new h
  stops_at h is still =
      record {
        incomplete = still;
        loaded = subst (IsLoaded old new) (sym is) (now_loaded h.scope);
        own = λ same. (
          ap (λ (s : ℕ). (shown_at w s).complete) (sym same) ∙ (sym (mark_there h.scope) ∙ (sym (ap (λ (k : Head). k.complete) is) ∙ still)),
          ap (λ (k : Head). k.count) is ∙ (ap (λ (rows : List Row). length rows) (rows_there h.scope) ∙ ap (λ (s : ℕ). length (shown_at w s).rows) same),
        );
      }

  pub shown_there : (p : Place) (r : Row) → slice_get (table_at (tables_in w) p.scope).rows p.ordinal ≡ Some r → IsWellFormed (length (texts_in a).names) p r → IsShown new p r
  shown_there p r at formed =
      let seen : slice_get (shown_at w p.scope).rows p.ordinal ≡ Some r = subst (λ (rows : List Row). slice_get rows p.ordinal ≡ Some r) (rows_there p.scope) at in
      record {
        formed = formed;
        counted = slice_get_within (shown_at w p.scope).rows p.ordinal r seen;
        own = λ same. subst (λ (s : ℕ). slice_get (shown_at w s).rows p.ordinal ≡ Some r) same seen;
      }

  replied : (chain : List ℕ) (x : ℕ) (r : Reply) → TellsOf (tables_in w) chain x r → ((p : Place) (row : Row) → r ≡ Found p row → IsWellFormed (length (texts_in a).names) p row) → Replied old new chain x r
  replied chain x (Found p row) tells formed = record { on = tells.0; named = tells.1; shown = shown_there p row tells.2 (formed p row refl) }
  replied chain x Absent tells formed =
      record {
        complete = each_then (λ s. IsWithout x (table_at (tables_in w) s)) (λ s. (new.seen s).complete ≡ true) chain (λ s h. sym (mark_there s) ∙ h.complete) tells;
        own = λ on. let h = each_in (λ s. IsWithout x (table_at (tables_in w) s)) chain own tells on in
            (sym (mark_there own) ∙ h.complete, subst (λ (rows : List Row). Lacks rows x) (rows_there own) h.lacks);
      }
  replied chain x (DontKnowYet h) tells formed =
      record {
        on = tells.0;
        stops = stops_at h tells.1 tells.2;
        own = λ same. subst (λ (s : ℕ). Lacks (shown_at w s).rows x) same (subst (λ (rows : List Row). Lacks rows x) (rows_there h.scope) tells.3);
      }

  -- the marks and the rows of the own scope
  pub keeps : (looks : List Look) → map look_of w.looks ≡ map look_of v.looks ++ looks → Keeps old new looks
  keeps looks grows =
      record {
        frame = ap (λ (t : Shown). record { setting = old.frame.setting; entered = t.rows; closed = t.complete }) mine;
        seen = λ s. later_marks (shown_at v s) (shown_at w s) (later s);
        grows = grows;
      }

  pub searched : (at : ℕ) (chain : List ℕ) (x : ℕ) (r : Reply) → v.about ≡ a → w.about ≡ a → length w.seen ≡ scopes w.about → IsSound w
      → ((s : ℕ) → (IsIn s (map (λ h. h.scope) (heads_of (tables_in w) chain x)) → ⊥) → shown_at w s ≡ shown_at v s)
      → r ≡ one_thread (tables_in w) chain x → map look_of w.looks ≡ map look_of v.looks ++ looks_of at x chain (heads_of (tables_in w) chain x) r
      → ((p : Place) (row : Row) → r ≡ Found p row → IsWellFormed (length (texts_in a).names) p row) → Searched old new at chain x r
  searched at chain x r from about wide sound elsewhere is looks formed =
      record {
        heads = heads_of (tables_in w) chain x;
        taken = subst (IsTaken chain (heads_of (tables_in w) chain x)) (sym is) (taken (tables_in w) chain x);
        loaded = each_head (IsLoaded old new) (tables_in w) now_loaded chain x;
        keeps = keeps (looks_of at x chain (heads_of (tables_in w) chain x) r) looks;
        elsewhere = λ s no. ap mark_in (elsewhere s no);
        says = replied chain x r (subst (TellsOf (tables_in w) chain x) (sym is) (tells (tables_in w) chain x)) formed;
        lawful = λ finished told. is ∙ lawful_heads (tables_in w) finished chain x (begun a w about wide sound finished told);
        settled = λ finished told. subst (λ (q : Reply). Settles q (lookup finished chain x)) (sym is) (one_thread_settles (tables_in w) finished chain x (begun a w about wide sound finished told));
        alone = tt;
      }

  -- a scope that isn't seen complete now wasn't before
  pub not_before : (s : ℕ) → (shown_at w s).complete ≡ false → (shown_at v s).complete ≡ false
  not_before s still = go (shown_at v s).complete refl
    where
      go : (b : Bool) → (shown_at v s).complete ≡ b → (shown_at v s).complete ≡ false
      go false e = e
      go true e = absurd (false≢true (sym still ∙ (ap (λ (t : Shown). t.complete) (sym ((later s).done e)) ∙ e)))

  pub stops_new : (chain : List ℕ) (x : ℕ) (r : Reply) → TellsOf (tables_in w) chain x r → StopsNew old r
  stops_new chain x (Found p row) tells = tt
  stops_new chain x Absent tells = tt
  stops_new chain x (DontKnowYet h) tells = not_before h.scope (sym (mark_there h.scope) ∙ (sym (ap (λ (k : Head). k.complete) tells.1) ∙ tells.2))
