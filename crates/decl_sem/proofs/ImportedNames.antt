-- The rows of imports.
use Rattle.std.specs.Prelude.{◌≡◌, ℕ, ◌<◌, ◌≤◌, ◌^◌, List, [], ◌∷◌, Option, None, Some, Result, Ok, Err}
use Rattle.std.proofs.Common.{refl, sym, ap, subst, arith}
use Rattle.std.specs.Option.{IfSome}
use Rattle.m2_base.specs.Rows.{alias_kind, module_kind}
use Rattle.m2_base.specs.Standard.{broken}
use Rattle.m2_base.specs.States.{Frame, State, Waits, Works}
use Rattle.m2_base.specs.Statics.Contexts.{Context}
use Rattle.m2_base.specs.Statics.ImportRows.{place_or_broken}
use Rattle.m2_base.specs.Statics.Makes.{Makes, make_then, makes, makes_named, only_gives}
use Rattle.m2_base.specs.Statics.Lookup.{Entry}
use Rattle.m2_base.specs.Statics.Shapes.{Shape, named}
use Rattle.m2_base.specs.Statics.Uses.{use_of}
use Rattle.m2_base.specs.declared.memory.Memory.{Memory}
use Rattle.m2_base.specs.declared.replies.Ask.{Ask}
use Rattle.m2_base.specs.declared.replies.Ask.TheVariants.{DontKnowYet, Known}
use Rattle.m2_base.specs.declared.replies.Head.{Head}
use Rattle.m2_base.specs.declared.rows.Place.{Place}
use Rattle.m2_base.specs.declared.rows.RowMeaning.TheVariants.{Alias, Module}
use Rattle.m2_base.specs.declared.sites.Site.{Site}
use Rattle.m2_base.specs.declared.trees.Ident.{Ident}
use Rattle.type_rules.specs.Scenes.{IsRowOf}
use Rattle.const_eval.specs.Analyses.{Analysed}
use Rattle.m2_base.specs.declared.sites.Named.{Named}
use Rattle.std.specs.declared.alloc.Global.{Global}
use Rattle.std.specs.declared.vec.Vec.{Vec}
use Rattle.m2_base.specs.Asks.{IfKnown}
use Rattle.m2_base.specs.Statics.Bringing.{BringsIts}
use Rattle.m2_base.specs.Statics.Contexts.{scope_of_module}
use Rattle.m2_base.specs.Statics.ImportRows.{import_rows}
use Rattle.m2_base.specs.Statics.Items.{import_item}
use Rattle.type_rules.specs.Sites.{context_of, source_of}
use Rattle.decl_sem.specs.Brought.{BringAny, DeclaresWith, all_names, listed}
use Rattle.decl_sem.specs.ImportedModules.{alias_rows, entry_rows}
use Rattle.decl_sem.specs.Making.{next_ordinal}
use Rattle.decl_sem.specs.Pieces.{Declares, IsAny, IsBehind, IsMaking, IsNewMeaning}
use Rattle.decl_sem.specs.declared.making.Made.{Made}
use Rattle.decl_sem.proofs.ConstantRows.{behind_standard, behind_there}
use Rattle.decl_sem.proofs.OneRows.{before_next, small_scope}
use Rattle.decl_sem.proofs.BroughtRows.{bringing_after, bringing_as, bringing_none}
use Rattle.decl_sem.proofs.ItemEffects.{valued}
use Rattle.decl_sem.proofs.Pieces.{analysed}

-- the entry is that of a row that can be asked for
abbrev pub IsEntry : Frame → Option Entry → Type 0
IsEntry f o = IfSome o (λ e. IsRowOf f e.0 e.1)

-- the row of a name of a module before is of a scope before
pub entry_before : (scope fills : ℕ) (o : Option Entry) → IfSome o (λ e. e.0.scope ≤ scope) → scope < fills → IfSome o (λ e. e.0.scope < fills)
entry_before scope fills None within before = tt
entry_before scope fills (Some e) within before = omega (arith, within, before)

pub module_meaning : {f : Frame} (s : Site) (o scope m : ℕ) → scope ≡ m → m < f.setting.fills → IsNewMeaning f s o (Module scope)
module_meaning s o scope m e h = record { small = tt; scopes = tt; fits = omega arith; filled = tt; owned = tt }

pub target_behind : {f : Frame} {s : Site} {x : Made} {ss : List Shape} (o : Option Entry) → IsMaking f s x ss → (place_or_broken o).ordinal < 2 ^ 32 → IsEntry f o → IsBehind f (next_ordinal x) (place_or_broken o)
target_behind None making small row = behind_standard broken making refl small
target_behind (Some e) making small row = behind_there e.0 making small row.there

pub alias_meaning : {f : Frame} {s : Site} {x : Made} {ss : List Shape} (o : Option Entry) (t : Place) → t ≡ place_or_broken o → IsMaking f s x ss → t.ordinal < 2 ^ 32 → IsEntry f o → IsNewMeaning f s (next_ordinal x) (Alias t)
alias_meaning {f} {s} {x} o t e making small row =
    let behind : IsBehind f (next_ordinal x) t = subst (λ (p : Place). IsBehind f (next_ordinal x) p) (sym e) (target_behind o making (subst (λ (p : Place). p.ordinal < 2 ^ 32) e small) row) in
    record { small = small; scopes = small_scope making behind; fits = before_next behind; filled = tt; owned = tt }

-- an alias and what it brings, after the search for its target
pub alias_row : {a b d : State} {x y z : Made} {s : Site} {o : Option Entry} (scope : ℕ) (name : Ident) (answer : Result (Ask (List Named)) Memory) → IsMaking a.frame s x (named alias_kind name ∷ []) → y.rows ≡ x.rows → y.first ≡ x.first
    → Analysed a b x.notes y.notes s (Ok (Known o)) IsEntry (λ c. use_of c (Some scope) name.name name.at)
    → DeclaresWith b d y z s answer (named alias_kind name ∷ []) all_names IsAny (λ c. entry_rows name o c)
    → DeclaresWith a d x z s answer (named alias_kind name ∷ []) all_names IsAny (λ c. alias_rows c scope name)
alias_row {a} {b} {x = x} {y = y} {s = s} {o = o} scope name answer making rows first analysis piece =
    let found : Declares a b x y s (Ok (Known o)) [] (λ f next v. IsEntry f v) (λ c. only_gives (use_of c (Some scope) name.name name.at)) = analysed (Ok (Known o)) making rows first (λ v h. h) analysis in
    bringing_after {ss = []} all_names (λ c. only_gives (use_of c (Some scope) name.name name.at)) (λ o c. entry_rows name o c) answer tt making found piece

known_any : (P : List Named → Type 0) (answer : Result (Ask (List Named)) Memory) → ((bs : List Named) → P bs) → IfKnown answer P
known_any P (Ok (Known bs)) h = h bs
known_any P (Ok (DontKnowYet head)) h = tt
known_any P (Err m) h = tt

-- a name of a module, whose scope is that of the module
pub member_as : {a b : State} {x y : Made} {s : Site} (outer name : Ident) (scope : ℕ) (result : Result (Ask (Vec Named Global)) Memory) → scope ≡ scope_of_module (source_of s.texts.now) outer.name
    → DeclaresWith a b x y s (listed result) (named alias_kind name ∷ []) all_names IsAny (λ c. alias_rows c scope name)
    → DeclaresWith a b x y s (listed result) (named alias_kind name ∷ []) all_names (BringAny (import_item (Some outer) name)) (λ c. import_rows c (Some outer) name)
member_as {a} {b} {x} {y} {s} outer name scope result is p =
    bringing_as all_names (listed result) refl (λ hand in_hand told same. ap (λ (n : ℕ). alias_rows (context_of a.frame hand s) n name) is)
    (known_any (λ bs. BringsIts (import_item (Some outer) name) bs) (listed result) (λ bs may. absurd (cc))) p

-- a module brings nothing
pub module_as : {a : State} {x y : Made} {s : Site} (name : Ident) (p : Place) (brought : List Named) → brought ≡ []
    → Declares a a x y s (Ok (Known p)) (named module_kind name ∷ []) IsBehind (λ c. makes_named c name.name name.at (Module (scope_of_module (source_of s.texts.now) name.name)))
    → DeclaresWith a a x y s (Ok (Known brought)) (named module_kind name ∷ []) all_names (BringAny (import_item None name)) (λ c. import_rows c None name)
module_as {a} {x} {y} {s} name p brought none piece =
    let row : Context → Makes Place = (λ c. makes_named c name.name name.at (Module (scope_of_module (source_of s.texts.now) name.name))) in
    let alone : Declares a a x y s (Ok (Known brought)) (named module_kind name ∷ []) IsAny (λ c. make_then c (row c) (λ d q. makes [])) = valued {g = row} IsAny (λ q. []) brought none tt piece in
    let with : DeclaresWith a a x y s (Ok (Known brought)) (named module_kind name ∷ []) all_names IsAny (λ c. make_then c (row c) (λ d q. makes [])) = bringing_none all_names none tt alone in
    bringing_as all_names (Ok (Known brought)) refl (λ hand in_hand told same. refl) (λ plain. none) with

-- a search that waits
pub search_waits : {T : Type 0} {a b : State} {x y : Made} (s : Site) (ss : List Shape) (P : Frame → ℕ → T → Type 0) (g : Context → Makes T) (head : Head) → y.first ≡ x.first → Works a b x.notes y.notes → Waits a b head → Declares a b x y s (Ok (DontKnowYet head)) ss P g
search_waits s ss P g head first works waits = record { works = works; waits = waits; first = first; grown = tt; told = λ hand in_hand told same. tt; there = tt }

-- want of memory
pub search_failed : {T : Type 0} {a b : State} {x y : Made} (s : Site) (ss : List Shape) (P : Frame → ℕ → T → Type 0) (g : Context → Makes T) (m : Memory) → y.first ≡ x.first → Works a b x.notes y.notes → Declares a b x y s (Err m) ss P g
search_failed s ss P g m first works = record { works = works; waits = tt; first = first; grown = tt; told = λ hand in_hand told same. tt; there = tt }
