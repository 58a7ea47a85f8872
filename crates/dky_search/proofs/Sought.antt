-- All that a search over the shared tables tells.
use Rattle.std.proofs.Common.{◌≡◌, ℕ, List, [], ◌∷◌, ◌++◌, Some, map, length, get_or, sym, refl, ap, ◌∙◌, subst}
use Rattle.m2_base.specs.Lists.{IsIn}
use Rattle.m2_base.specs.Scopes.{Searched, looks_of}
use Rattle.m2_base.specs.Tables.{Table, one_thread}
use Rattle.m2_base.specs.declared.replies.Head.{Head}
use Rattle.m2_base.specs.declared.replies.Reply.{Reply}
use Rattle.m2_base.specs.declared.replies.Reply.TheVariants.{Absent}
use Rattle.scope_core.specs.Events.{Stays}
use Rattle.scope_core.specs.Flights.{Flown, heads_in, reply_of}
use Rattle.scope_core.specs.Heads.{heads_of}
use Rattle.std.proofs.lemmas.List.{append-nil}
use Rattle.std.specs.Prelude.{unwrap_or, Option}
use Rattle.scope_table.specs.Looks.{look_of as noted_look}
use Rattle.scope_table.specs.Rule.{scopes, nothing, shown_at, texts_in, IsBefore, IsSound}
use Rattle.scope_table.specs.declared.view.About.{About}
use Rattle.scope_table.specs.declared.view.Shown.{Shown}
use Rattle.scope_table.specs.declared.view.View.{View}
use Rattle.dky_search.specs.Flying.{IsFlown, noted_by}
use Rattle.dky_search.specs.Seen.{table_of, tables_in, look_of, state_in, HaveGrown, TellsOf}
use Rattle.dky_search.specs.SeatScopes.{StopsNew}
use Rattle.dky_search.proofs.Seen.{have_grown}
use Rattle.dky_search.proofs.Told.{stays, tells}
use Rattle.dky_search.proofs.Flights.{flown_is, found_formed}
use Rattle.dky_search.proofs.Searches.{noted_looks, searched, stops_new}

-- from the view v of the handle that fills `own`, to the view u
pub record IsSought (a : About) (own now : ℕ) (v u : View) (at : ℕ) (chain : List ℕ) (x : ℕ) (r : Reply) : Type 0 where
  pub searched : Searched (state_in a v own) (state_in a u now) at chain x r
  pub answer : r ≡ one_thread (tables_in u) chain x
  pub loads : u.loads ≡ v.loads ++ heads_of (tables_in u) chain x
  pub look : Some (map look_of u.looks) ≡ Some (map look_of v.looks ++ looks_of at x chain (heads_of (tables_in u) chain x) r)
  pub stops : StopsNew (state_in a v own) r
  pub grown : HaveGrown (tables_in v) (tables_in u)
  pub stays : (later : List Table) → HaveGrown (tables_in u) later → Stays r (one_thread later chain x)

noted_seen : (at : ℕ) (f : Flown) (chain : List ℕ) (w : View) → (noted_by at f chain w).seen ≡ w.seen
noted_seen at f [] w = refl
noted_seen at f (s ∷ chain) w = refl

noted_about : (at : ℕ) (f : Flown) (chain : List ℕ) (w : View) → (noted_by at f chain w).about ≡ w.about
noted_about at f [] w = refl
noted_about at f (s ∷ chain) w = refl

noted_loads : (at : ℕ) (f : Flown) (chain : List ℕ) (w : View) → (noted_by at f chain w).loads ≡ w.loads
noted_loads at f [] w = refl
noted_loads at f (s ∷ chain) w = refl

-- the looks that are noted are those of a search of this chain
noted_list : (at : ℕ) (f : Flown) (chain : List ℕ) (w : View) (r : Reply) → chain ≡ f.chain → reply_of f.chain f.loads ≡ Some r → map look_of (noted_by at f chain w).looks ≡ map look_of w.looks ++ looks_of at f.name chain (heads_in f.loads) r
noted_list at f [] w r e has = sym (append-nil (map look_of w.looks))
noted_list at f (s ∷ chain) w r e has =
    let is : unwrap_or (reply_of f.chain f.loads) Absent ≡ r = ap (λ (o : Option Reply). unwrap_or o Absent) has in
    noted_looks w.looks (noted_look at f ∷ [])
    ∙ (λ i. map look_of w.looks ++ record { at = at; name = f.name; chain = sym e i; heads = heads_in f.loads; reply = is i } ∷ [])

pub sought : (a : About) (own now : ℕ) (v w u : View) (f : Flown) (at : ℕ) (r : Reply) → IsFlown a own v w f → reply_of f.chain f.loads ≡ Some r → v.about ≡ a → now ≡ own → u ≡ noted_by at f f.chain w → length u.seen ≡ scopes u.about → IsSound u
    → IsSought a own now v u at f.chain f.name r
sought a own now v w u f at r flown has about same is wide sound =
    let seen : u.seen ≡ w.seen = ap (λ (x : View). x.seen) is ∙ noted_seen at f f.chain w in
    let shown : (j : ℕ) → shown_at w j ≡ shown_at u j = (λ j. ap (λ (xs : List Shown). get_or xs j nothing) (sym seen)) in
    let tables : tables_in w ≡ tables_in u = ap (λ (xs : List Shown). map table_of xs) (sym seen) in
    let done = flown_is w f.name f.chain f.loads r flown.flight flown.current has in
    let heads : heads_in f.loads ≡ heads_of (tables_in u) f.chain f.name = done.0 ∙ ap (λ (ts : List Table). heads_of ts f.chain f.name) tables in
    let answer : r ≡ one_thread (tables_in u) f.chain f.name = done.1 ∙ ap (λ (ts : List Table). one_thread ts f.chain f.name) tables in
    let later : (j : ℕ) → IsBefore (shown_at v j) (shown_at u j) = (λ j. subst (IsBefore (shown_at v j)) (shown j) (flown.later j)) in
    let mine : shown_at u own ≡ shown_at v own = sym (shown own) ∙ flown.mine in
    let looks : map look_of u.looks ≡ map look_of v.looks ++ looks_of at f.name f.chain (heads_of (tables_in u) f.chain f.name) r =
    ap (λ (x : View). map look_of x.looks) is
    ∙ (noted_list at f f.chain w r refl has ∙ (λ i. map look_of (flown.looks i) ++ looks_of at f.name f.chain (heads i) r)) in
    record {
      searched = subst (λ (z : ℕ). Searched (state_in a v own) (state_in a u z) at f.chain f.name r) (sym same)
          (searched a own v u later mine at f.chain f.name r about (ap (λ (x : View). x.about) is ∙ (noted_about at f f.chain w ∙ (flown.about ∙ about))) wide sound
          (λ s no. sym (shown s) ∙ flown.elsewhere s (λ on. no (subst (λ (hs : List Head). IsIn s (map (λ h. h.scope) hs)) heads on)))
          answer looks (λ p row e. found_formed (length (texts_in a).names) f.chain f.loads p row flown.formed (has ∙ ap Some e)));
      answer = answer;
      loads = ap (λ (x : View). x.loads) is ∙ (noted_loads at f f.chain w ∙ (flown.loads ∙ ap (λ (hs : List Head). v.loads ++ hs) heads));
      look = ap Some looks;
      stops = stops_new a own v u later mine f.chain f.name r (subst (TellsOf (tables_in u) f.chain f.name) (sym answer) (tells (tables_in u) f.chain f.name));
      grown = have_grown v u later;
      stays = λ after grown. subst (λ (q : Reply). Stays q (one_thread after f.chain f.name)) (sym answer) (stays (tables_in u) after f.chain f.name grown);
    }

-- the same of a chain and a name that are the search's
pub sought_of : (a : About) (own now : ℕ) (v w u : View) (f : Flown) (at : ℕ) (r : Reply) (chain : List ℕ) (x : ℕ) → f.chain ≡ chain → f.name ≡ x → IsFlown a own v w f → reply_of f.chain f.loads ≡ Some r → v.about ≡ a → now ≡ own → u ≡ noted_by at f chain w
    → length u.seen ≡ scopes u.about → IsSound u → IsSought a own now v u at chain x r
sought_of a own now v w u f at r chain x chain_is name_is flown has about same is wide sound =
    subst (λ (z : List ℕ × ℕ). IsSought a own now v u at z.0 z.1 r) (λ i. (chain_is i, name_is i))
    (sought a own now v w u f at r flown has about same (is ∙ ap (λ (l : List ℕ). noted_by at f l w) (sym chain_is)) wide sound)
