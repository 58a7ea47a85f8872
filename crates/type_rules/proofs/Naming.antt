-- What a name stands for, with rows in hand: none of them is found where it isn't entered.
use Rattle.std.proofs.Common.{◌≡◌, ◌≢◌, ◌∙◌, ℕ, ◌<◌, ◌≤◌, ◌++◌, true, false, if◌then◌else◌, List, [], ◌∷◌, Option, Some, None, Result, Ok, Err, drop, length, take, ◌-◌, refl, sym, ap, subst}
use Rattle.std.proofs.lemmas.Bool.{le-ltb, lt-ltb}
use Rattle.std.proofs.lemmas.List.{append-nil}
use Rattle.std.specs.Option.{IfSome}
use Rattle.std.specs.Result.{IfOk}
use Rattle.m2_base.specs.Noting.{IsRefused}
use Rattle.m2_base.specs.Asks.{IfKnown}
use Rattle.m2_base.specs.Gives.{Adds, and_then, gives, gives_answer}
use Rattle.m2_base.specs.Lists.{IsIn}
use Rattle.m2_base.specs.Standard.{is_standard, standard_place}
use Rattle.m2_base.specs.States.{Frame}
use Rattle.m2_base.specs.Statics.Contexts.{Context, refuse}
use Rattle.m2_base.specs.Statics.Diagnostics.{not_declared_there, unknown_name, used_before}
use Rattle.m2_base.specs.Statics.Lookup.{Entry, entry_at, entry_in, first_entry}
use Rattle.m2_base.specs.Statics.Uses.{answer_of, bound, bound_or, bound_outside, followed, stands_later, use_by_item, use_in_item, use_of}
use Rattle.m2_base.specs.Tables.{Lacks, lookup}
use Rattle.m2_base.specs.declared.memory.Memory.{Memory}
use Rattle.m2_base.specs.declared.notes.Notes.{Notes}
use Rattle.m2_base.specs.declared.replies.Ask.{Ask}
use Rattle.m2_base.specs.declared.replies.Ask.TheVariants.{Known, DontKnowYet}
use Rattle.m2_base.specs.declared.sites.Named.{Named}
use Rattle.m2_base.specs.declared.sites.Site.{Site}
use Rattle.type_rules.specs.Scenes.{Hand, WhereTold, hand, rows_of, scene_of}
use Rattle.type_rules.specs.Sites.{AreOfItem, AreOfSite, SuitsSite, chain_by_item, chain_of, context_of}
use Rattle.type_rules.proofs.Binding.{below_not, rest_of}

-- the scopes outside are others
lacks_outside : (f : Frame) (s : Site) (made : Hand) (name : ℕ) → SuitsSite f s → IsIn f.setting.fills (drop 1 s.around.now.chain) → Lacks made.rows name
lacks_outside f s made name suits on = absurd (below_not f.setting.fills (drop 1 s.around.now.chain) suits.down on)

-- ** A name that is found in a chain

pub found_told : (answer : Result (Ask (Option Entry)) Memory) (f mid : Frame) (s : Site) (chain : List ℕ) (code name at : ℕ) (e : Entry) (x y : Notes) → mid ≡ f
    → WhereTold f (λ made. (IsIn f.setting.fills chain → Lacks made.rows name) → Some e ≡ lookup (rows_of f made) chain name)
    → IfOk answer (λ _. y.answers.items ≡ x.answers.items ++ answer_of name at e ∷ []) → y.diags.items ≡ x.diags.items
    → WhereTold mid (λ made. IfKnown answer (λ found. found ≡ Some (followed (scene_of mid made s.around.now) e)))
    → WhereTold f (λ made. (IsIn f.setting.fills chain → Lacks made.rows name) → IfKnown answer (λ entry. Adds x y (bound_or (context_of f made s) code name at (lookup (rows_of f made) chain name)) entry))
found_told (Ok (Known v)) f mid s chain code name at e x y same found noted kept asked made in_hand told lacks =
    let value : v ≡ Some (followed (scene_of f made s.around.now) e) =
    subst (λ (h : Frame). WhereTold h (λ rows. v ≡ Some (followed (scene_of h rows s.around.now) e))) same asked made in_hand told in
    subst (λ o. Adds x y (bound_or (context_of f made s) code name at o) v) (found made in_hand told lacks)
    (record { value_is = value; diags = kept ∙ sym (append-nil x.diags.items); answers = noted })
found_told (Ok (DontKnowYet h)) f mid s chain code name at e x y same found noted kept asked made in_hand told lacks = tt
found_told (Err m) f mid s chain code name at e x y same found noted kept asked made in_hand told lacks = tt

-- ** A name that isn't found in a chain

pub refused_told : (f : Frame) (s : Site) (chain : List ℕ) (code name at : ℕ) (x y : Notes) → WhereTold f (λ made. (IsIn f.setting.fills chain → Lacks made.rows name) → None ≡ lookup (rows_of f made) chain name)
    → IsRefused x y s.around.now.text at code → y.answers.items ≡ x.answers.items
    → WhereTold f (λ made. (IsIn f.setting.fills chain → Lacks made.rows name) → Adds x y (bound_or (context_of f made s) code name at (lookup (rows_of f made) chain name)) None)
refused_told f s chain code name at x y none refused answers made in_hand told lacks =
    subst (λ o. Adds x y (bound_or (context_of f made s) code name at o) None) (none made in_hand told lacks)
    (record { value_is = refl; diags = refused; answers = answers ∙ sym (append-nil x.answers.items) })

-- ** A name from outside

-- what was found in the chain without its first scope
pub outside_found : (f : Frame) (s : Site) (xs : List ℕ) (name : ℕ) (o : Option Entry) → xs ≡ s.around.now.chain → SuitsSite f s
    → WhereTold f (λ made. (IsIn f.setting.fills (take (length xs - 1) (drop 1 xs)) → Lacks made.rows name) → o ≡ lookup (rows_of f made) (take (length xs - 1) (drop 1 xs)) name)
    → WhereTold f (λ made. lookup (rows_of f made) (drop 1 s.around.now.chain) name ≡ o)
outside_found f s xs name o same suits found made in_hand told =
    let rest = rest_of s xs same in
    ap (λ chain. lookup (rows_of f made) chain name) (sym rest)
    ∙ sym (found made in_hand told (λ on. lacks_outside f s made name suits (subst (λ chain. IsIn f.setting.fills chain) rest on)))

pub outside_none : (f : Frame) (s : Site) (name at : ℕ) (x y : Notes) (there : Hand → Option Entry) → WhereTold f (λ made. there made ≡ None)
    → IsRefused x y s.around.now.text at unknown_name → y.answers.items ≡ x.answers.items
    → WhereTold f (λ made. Adds x y (bound_outside (context_of f made s) name at (there made)) None)
outside_none f s name at x y there none refused answers made in_hand told =
    subst (λ o. Adds x y (bound_outside (context_of f made s) name at o) None) (sym (none made in_hand told))
    (record { value_is = refl; diags = refused; answers = answers ∙ sym (append-nil x.answers.items) })

pub outside_later : (f : Frame) (s : Site) (name at : ℕ) (e : Entry) (x y : Notes) (there : Hand → Option Entry) → WhereTold f (λ made. there made ≡ Some e)
    → stands_later (context_of f (hand [] []) s) at e ≡ true → y.answers.items ≡ x.answers.items ++ answer_of name at e ∷ [] → IsRefused x y s.around.now.text at used_before
    → WhereTold f (λ made. Adds x y (bound_outside (context_of f made s) name at (there made)) None)
outside_later f s name at e x y there found later noted refused made in_hand told =
    let c = context_of f made s in
    let refusal = and_then (gives_answer (answer_of name at e) None) (λ none. refuse c at used_before none) in
    let given : bound_outside c name at (there made) ≡ refusal =
    ap (bound_outside c name at) (found made in_hand told) ∙ ap (λ b. if b then refusal else bound c name at e) later in
    subst (λ g. Adds x y g None) (sym given) (record { value_is = refl; diags = refused; answers = noted })

-- ** A name in a declaration, of this item or a later one

pub later_told : (f : Frame) (s : Site) (made : Hand) (item name at : ℕ) (e : Named) (x y : Notes) → first_entry s.layout.now name ≡ Some e → item ≤ e.item
    → IsRefused x y s.around.now.text at used_before → y.answers.items ≡ x.answers.items → Adds x y (use_in_item (context_of f made s) item name at (first_entry s.layout.now name)) None
later_told f s made item name at e x y first later refused answers =
    let c = context_of f made s in
    let there = bound_or c unknown_name name at (entry_in c.scene.tables c.scene.block.scope name) in
    let given : use_in_item c item name at (first_entry s.layout.now name) ≡ refuse c at used_before None =
    ap (use_in_item c item name at) first ∙ ap (λ b. if b then there else refuse c at used_before None) (le-ltb e.item item later) in
    subst (λ g. Adds x y g None) (sym given) (record { value_is = refl; diags = refused; answers = answers ∙ sym (append-nil x.answers.items) })

-- ** A name by its place

-- one that is neither after a module's point nor standard
pub plain_chain : (s : Site) (within : Option ℕ) (name : ℕ) → within ≡ None → is_standard name ≡ false → chain_of s within name ≡ chain_by_item s name s.item
plain_chain s within name none other = ap (λ w. chain_of s w name) none ∙ ap (λ b. if b then [] else chain_by_item s name s.item) other

plain_use : (c : Context) (within : Option ℕ) (name at : ℕ) → within ≡ None → is_standard name ≡ false → use_of c within name at ≡ use_by_item c name at c.item
plain_use c within name at none other =
    ap (λ w. use_of c w name at) none ∙ ap (λ b. if b then gives (Some (entry_at c.scene (standard_place name))) else use_by_item c name at c.item) other

-- ** A name in a declaration, of an earlier item

module _ (answer : Result (Ask (Option Entry)) Memory) (f : Frame) (s : Site) (name at : ℕ) (x y : Notes) where
  pub earlier_told : (item : ℕ) (e : Named) (chain : List ℕ) → first_entry s.layout.now name ≡ Some e → e.item < item → chain ≡ s.around.now.scope ∷ [] → name ≢ 0
      → WhereTold f (λ made. (IsIn f.setting.fills chain → Lacks made.rows name) → IfKnown answer (λ entry. Adds x y (bound_or (context_of f made s) unknown_name name at (lookup (rows_of f made) chain name)) entry))
      → WhereTold f (λ made. AreOfItem s.layout.now item made.rows → IfKnown answer (λ entry. Adds x y (use_in_item (context_of f made s) item name at (first_entry s.layout.now name)) entry))
  earlier_told item e chain first earlier own named asked made in_hand told of_item =
      let c = context_of f made s in
      let there = bound_or c unknown_name name at (entry_in c.scene.tables c.scene.block.scope name) in
      let given : use_in_item c item name at (first_entry s.layout.now name) ≡ bound_or c unknown_name name at (lookup (rows_of f made) chain name) =
      ap (use_in_item c item name at) first
      ∙ ap (λ b. if b then there else refuse c at used_before None) (lt-ltb e.item item earlier)
      ∙ ap (λ scopes. bound_or c unknown_name name at (lookup (rows_of f made) scopes name)) (sym own) in
      subst (λ g. IfKnown answer (λ entry. Adds x y g entry)) (sym given) (asked made in_hand told (λ on. of_item.lack name e named first earlier))

  -- ** A name in a declaration, of no item

  pub outside_item : (item : ℕ) → first_entry s.layout.now name ≡ None
      → WhereTold f (λ made. IfKnown answer (λ entry. Adds x y (bound_outside (context_of f made s) name at (lookup (rows_of f made) (drop 1 s.around.now.chain) name)) entry))
      → WhereTold f (λ made. AreOfItem s.layout.now item made.rows → IfKnown answer (λ entry. Adds x y (use_in_item (context_of f made s) item name at (first_entry s.layout.now name)) entry))
  outside_item item none asked made in_hand told of_item =
      subst (λ o. IfKnown answer (λ entry. Adds x y (use_in_item (context_of f made s) item name at o) entry)) (sym none) (asked made in_hand told)

  -- ** A name by its place

  pub item_told : (within : Option ℕ) (item : ℕ) → within ≡ None → is_standard name ≡ false → s.item ≡ Some item
      → WhereTold f (λ made. AreOfItem s.layout.now item made.rows → IfKnown answer (λ entry. Adds x y (use_in_item (context_of f made s) item name at (first_entry s.layout.now name)) entry))
      → WhereTold f (λ made. AreOfSite s made → IfKnown answer (λ entry. Adds x y (use_of (context_of f made s) within name at) entry))
  item_told within item none other is asked made in_hand told of_site =
      let c = context_of f made s in
      subst (λ g. IfKnown answer (λ entry. Adds x y g entry)) (sym (plain_use c within name at none other ∙ ap (use_by_item c name at) is))
      (asked made in_hand told (subst (λ o. IfSome o (λ k. AreOfItem s.layout.now k made.rows)) is of_site))

  pub whole_told : (within : Option ℕ) (xs : List ℕ) → within ≡ None → is_standard name ≡ false → s.item ≡ None → xs ≡ s.around.now.chain → SuitsSite f s
      → WhereTold f (λ made. (IsIn f.setting.fills xs → Lacks made.rows name) → IfKnown answer (λ entry. Adds x y (bound_or (context_of f made s) unknown_name name at (lookup (rows_of f made) xs name)) entry))
      → WhereTold f (λ made. AreOfSite s made → IfKnown answer (λ entry. Adds x y (use_of (context_of f made s) within name at) entry))
  whole_told within xs none other is same suits asked made in_hand told of_site =
      let c = context_of f made s in
      let given : use_of c within name at ≡ bound_or c unknown_name name at (lookup (rows_of f made) xs name) =
      plain_use c within name at none other ∙ ap (use_by_item c name at) is ∙ ap (λ ks. bound_or c unknown_name name at (lookup (rows_of f made) ks name)) (sym same) in
      subst (λ g. IfKnown answer (λ entry. Adds x y g entry)) (sym given)
      (asked made in_hand told (λ on. subst (λ rows. Lacks rows name) (sym (in_hand.closed (suits.done is))) refl))

  -- ** A name after a module's point

  pub within_told : (within : Option ℕ) (scope : ℕ) → within ≡ Some scope → scope < f.setting.fills
      → WhereTold f (λ made. (IsIn f.setting.fills (scope ∷ []) → Lacks made.rows name) → IfKnown answer (λ entry. Adds x y (bound_or (context_of f made s) not_declared_there name at (lookup (rows_of f made) (scope ∷ []) name)) entry))
      → WhereTold f (λ made. AreOfSite s made → IfKnown answer (λ entry. Adds x y (use_of (context_of f made s) within name at) entry))
  within_told within scope is below asked made in_hand told of_site =
      subst (λ w. IfKnown answer (λ entry. Adds x y (use_of (context_of f made s) w name at) entry)) (sym is)
      (asked made in_hand told (λ on. absurd (below_not f.setting.fills (scope ∷ []) (below, tt) on)))
