-- The rows of a heading in the scope round the procedure.
use Rattle.std.specs.Prelude.{◌≡◌, ℕ, ◌+◌, ◌<◌, ◌≤◌, ◌^◌, List, [], ◌∷◌, ◌++◌, filter, flat_map, length, map, Option, Result, Ok, Err}
use Rattle.std.proofs.Common.{refl, sym, ap, ◌∙◌, subst, arith}
use Rattle.std.proofs.lemmas.List.{append-nil, length-append}
use Rattle.m2_base.specs.Rows.{proc_kind, proc_type_kind, type_name_kind}
use Rattle.m2_base.specs.States.{Frame, State}
use Rattle.m2_base.specs.Statics.Contexts.{Context}
use Rattle.m2_base.specs.Statics.Makes.{Makes, make_then, makes, makes_named, makes_row, only_gives, own_rows, with_rows}
use Rattle.m2_base.specs.Statics.ProcedureRows.{heading_note, is_proc, parameter_count, proc_number, proc_rows, proc_scope, section_rows, sections_length}
use Rattle.m2_base.specs.Statics.ProcedureTypes.{result_type}
use Rattle.m2_base.specs.Statics.Shapes.{Shape, named, nameless, section_shapes}
use Rattle.m2_base.specs.Views.{heading_view, section_view}
use Rattle.m2_base.specs.declared.memory.Memory.{Memory}
use Rattle.m2_base.specs.declared.outputs.HeadingNote.{HeadingNote}
use Rattle.m2_base.specs.declared.replies.Ask.{Ask}
use Rattle.m2_base.specs.declared.replies.Ask.TheVariants.{DontKnowYet, Known}
use Rattle.m2_base.specs.declared.replies.Head.{Head}
use Rattle.m2_base.specs.declared.rows.Place.{Place}
use Rattle.m2_base.specs.declared.rows.RowMeaning.TheVariants.{Proc, ProcType}
use Rattle.m2_base.specs.declared.rows.Row.{Row}
use Rattle.m2_base.specs.declared.sites.Site.{Site}
use Rattle.m2_base.specs.declared.trees.Ident.{Ident}
use Rattle.m2_base.specs.declared.trees.Qual.{Qual}
use Rattle.m2_base.specs.declared.trees.declarations.Heading.{Heading}
use Rattle.m2_base.specs.declared.trees.declarations.Section.{Section}
use Rattle.m2_base.specs.declared.trees.declarations.StreamKind.{StreamKind}
use Rattle.type_rules.specs.Sites.{context_of}
use Rattle.decl_sem.specs.Making.{next_ordinal}
use Rattle.decl_sem.specs.Pieces.{Declares, IsAny, IsBehind, IsMaking, IsNewMeaning}
use Rattle.decl_sem.specs.declared.making.Made.{Made}
use Rattle.decl_sem.proofs.Asking.{revalued}
use Rattle.decl_sem.proofs.Hands.{hand_is, own_are}
use Rattle.decl_sem.proofs.HeadingSums.{rows_are_shapes}
use Rattle.decl_sem.proofs.OneRows.{before_next, small_scope}
use Rattle.decl_sem.proofs.Parameters.{make_then_assoc}
use Rattle.decl_sem.proofs.Pieces.{AreNoTypes, described, failed, making_front, making_on, then_after, value_alone, waiting}
use Rattle.decl_sem.proofs.SectionLists.{sections_none}

-- the meaning of a procedure's row
pub proc_meaning : {f : Frame} {s : Site} {x : Made} {ss : List Shape} (of : Place) (number scope : ℕ) → number < 2 ^ 32 → scope < 2 ^ 32 → IsMaking f s x ss → IsBehind f (next_ordinal x) of → IsNewMeaning f s (next_ordinal x) (Proc of number scope)
proc_meaning of number scope h k making behind = record { small = behind.small; scopes = small_scope making behind; fits = (before_next behind, h, k); filled = tt; owned = tt }

-- the row of a procedure's type
abbrev pub type_given : (first count : ℕ) → Ident → Option Qual → Context → Makes Place
type_given first count i q c = make_then c (only_gives (result_type c q)) (λ e r. makes_row e i.at (ProcType r count first))

-- and the procedure
abbrev pub typed_given : (first count number scope : ℕ) → Ident → Option Qual → Context → Makes Place
typed_given first count number scope i q c = make_then c (type_given first count i q c) (λ f t. makes_named f i.name i.at (Proc t number scope))

pub type_none : (at : ℕ) → AreNoTypes (nameless proc_type_kind at ∷ [])
type_none at = (λ e. absurd (let h : proc_type_kind ≡ type_name_kind = e in omega arith), tt)

pub both_none : (at : ℕ) (i : Ident) → AreNoTypes (nameless proc_type_kind at ∷ named proc_kind i ∷ [])
both_none at i = (λ e. absurd (let h : proc_type_kind ≡ type_name_kind = e in omega arith), (λ e. absurd (let h : proc_kind ≡ type_name_kind = e in omega arith), tt))

-- a procedure after its type
pub typed_piece : {a b d : State} {x y z : Made} {s : Site} {t : Place} (first count number scope : ℕ) (i : Ident) (q : Option Qual) (answer : Result (Ask Place) Memory) → IsMaking a.frame s x (nameless proc_type_kind i.at ∷ named proc_kind i ∷ [])
    → Declares a b x y s (Ok (Known t)) (nameless proc_type_kind i.at ∷ []) IsBehind (type_given first count i q)
    → Declares b d y z s answer (named proc_kind i ∷ []) IsBehind (λ c. makes_named c i.name i.at (Proc t number scope))
    → Declares a d x z s answer (nameless proc_type_kind i.at ∷ named proc_kind i ∷ []) IsBehind (typed_given first count number scope i q)
typed_piece {s = s} first count number scope i q answer making p r =
    then_after {ss = nameless proc_type_kind i.at ∷ []} {ts = named proc_kind i ∷ []} (type_given first count i q) (λ t c. makes_named c i.name i.at (Proc t number scope)) answer (type_none i.at) making p r

-- the same after the same
then_same : {A B : Type 0} (c : Context) (m : Makes A) (f g : Context → A → Makes B) → f (with_rows c m.rows) m.value ≡ g (with_rows c m.rows) m.value → make_then c m f ≡ make_then c m g
then_same {B = B} c m f g e = ap (λ (b : Makes B). record { value = b.value; rows = m.rows ++ b.rows; diags = m.diags ++ b.diags; answers = m.answers ++ b.answers }) e

-- the rows that follow the sections, and the note
abbrev pub rest_given : (first count number scope : ℕ) → Heading → Option HeadingNote → Context → Makes (Option HeadingNote)
rest_given first count number scope h note c = make_then c (typed_given first count number scope h.name h.result c) (λ e p. makes note)

-- all together, flat
abbrev flat_given : (own first count number scope : ℕ) → Heading → Option HeadingNote → Context → Makes (Option HeadingNote)
flat_given own first count number scope h note c =
    make_then c (section_rows c own (heading_view h).sections) (λ d done.
    make_then d (only_gives (result_type d h.result)) (λ e r.
    make_then e (makes_row e h.name.at (ProcType r count first)) (λ f t.
    make_then f (makes_named f h.name.name h.name.at (Proc t number scope)) (λ g p.
    makes note))))

flattened : (own first count number scope : ℕ) (h : Heading) (note : Option HeadingNote) (c : Context)
    → make_then c (section_rows c own (heading_view h).sections) (λ d done. rest_given first count number scope h note d) ≡ flat_given own first count number scope h note c
flattened own first count number scope h note c =
    let d = with_rows c (section_rows c own (heading_view h).sections).rows in
    then_same c (section_rows c own (heading_view h).sections) (λ d done. rest_given first count number scope h note d)
    (λ d done. make_then d (only_gives (result_type d h.result)) (λ e r. make_then e (makes_row e h.name.at (ProcType r count first)) (λ f t. make_then f (makes_named f h.name.name h.name.at (Proc t number scope)) (λ g p. makes note))))
    (make_then_assoc d (type_given first count h.name h.result d) (λ f t. makes_named f h.name.name h.name.at (Proc t number scope)) (λ g p. makes note)
    ∙ make_then_assoc d (only_gives (result_type d h.result)) (λ e r. makes_row e h.name.at (ProcType r count first)) (λ f t. make_then f (makes_named f h.name.name h.name.at (Proc t number scope)) (λ g p. makes note)))

-- what the numbers of a heading are
pub record HasNumbers (f : Frame) (s : Site) (x : Made) (kind : StreamKind) (stream : ℕ) (h : Heading) (own first count number scope : ℕ) : Type 0 where
  pub first_is : first ≡ next_ordinal x
  pub own_is : own ≡ first + sections_length (heading_view h).sections
  pub count_is : count ≡ parameter_count (heading_view h).sections
  pub number_is : (c : Context) → c.scene.block.home ≡ s.around.now.module → length (filter is_proc (own_rows c)) ≡ length (filter is_proc f.entered) → proc_number c kind stream ≡ number
  pub scope_is : scope ≡ proc_scope kind stream

-- with the numbers of the context
numbered : (c : Context) (kind : StreamKind) (stream : ℕ) (h : Heading) (own first count number scope : ℕ) → first ≡ length (own_rows c) → own ≡ length (own_rows c) + sections_length (heading_view h).sections → count ≡ parameter_count (heading_view h).sections
    → number ≡ proc_number c kind stream → scope ≡ proc_scope kind stream → flat_given own first count number scope h (heading_note kind (heading_view h) number) c ≡ proc_rows c kind (heading_view h) stream
numbered c kind stream h own first count number scope first_is own_is count_is number_is scope_is =
    let note = λ (n : ℕ). heading_note kind (heading_view h) n in
    let first' = length (own_rows c) in
    let own' = first' + sections_length (heading_view h).sections in
    let count' = parameter_count (heading_view h).sections in
    let number' = proc_number c kind stream in
    ap (λ (n : ℕ). flat_given n first count number scope h (note number) c) own_is
    ∙ ap (λ (n : ℕ). flat_given own' n count number scope h (note number) c) first_is
    ∙ ap (λ (n : ℕ). flat_given own' first' n number scope h (note number) c) count_is
    ∙ ap (λ (n : ℕ). flat_given own' first' count' n scope h (note n) c) number_is
    ∙ ap (λ (n : ℕ). flat_given own' first' count' number' n h (note number') c) scope_is

-- what follows the sections, with the note
pub noted : {a b : State} {x y : Made} {s : Site} {p : Place} (first count number scope : ℕ) (h : Heading) (note : Option HeadingNote) → IsMaking a.frame s x (nameless proc_type_kind h.name.at ∷ named proc_kind h.name ∷ [])
    → Declares a b x y s (Ok (Known p)) (nameless proc_type_kind h.name.at ∷ named proc_kind h.name ∷ []) IsBehind (typed_given first count number scope h.name h.result)
    → Declares a b x y s (Ok (Known note)) (nameless proc_type_kind h.name.at ∷ named proc_kind h.name ∷ []) IsAny (rest_given first count number scope h note)
noted {b = b} {y = y} {s = s} first count number scope h note making p =
    then_after {ss = nameless proc_type_kind h.name.at ∷ named proc_kind h.name ∷ []} {ts = []} (typed_given first count number scope h.name h.result) (λ p c. makes note) (Ok (Known note)) (both_none h.name.at h.name) making p
    (value_alone b y s note IsAny tt)

-- the whole heading
pub heading_made : {a b d : State} {x y z : Made} {s : Site} {v : Unit {0}} (kind : StreamKind) (stream : ℕ) (h : Heading) (own first count number scope : ℕ) (answer : Result (Ask (Option HeadingNote)) Memory)
    → IsMaking a.frame s x (flat_map section_shapes (heading_view h).sections ++ nameless proc_type_kind h.name.at ∷ named proc_kind h.name ∷ []) → x.rows.items ≡ [] → HasNumbers a.frame s x kind stream h own first count number scope
    → Declares a b x y s (Ok (Known v)) (flat_map section_shapes (heading_view h).sections) IsAny (λ c. section_rows c own (heading_view h).sections)
    → Declares b d y z s answer (nameless proc_type_kind h.name.at ∷ named proc_kind h.name ∷ []) IsAny (rest_given first count number scope h (heading_note kind (heading_view h) number))
    → Declares a d x z s answer (flat_map section_shapes (heading_view h).sections ++ nameless proc_type_kind h.name.at ∷ named proc_kind h.name ∷ []) IsAny (λ c. proc_rows c kind (heading_view h) stream)
heading_made {a} {s = s} kind stream h own first count number scope answer making begun numbers p r =
    let note = heading_note kind (heading_view h) number in
    described answer (λ c. proc_rows c kind (heading_view h) stream)
    (then_after (λ c. section_rows c own (heading_view h).sections) (λ done c. rest_given first count number scope h note c) answer (sections_none h.sections.items) making p r)
    (λ hand in_hand told same.
    let c = context_of a.frame hand s in
    let at : length (own_rows c) ≡ first = (hand_is making hand same told).count ∙ sym numbers.first_is in
    let rows : own_rows c ≡ a.frame.entered = own_are {f = a.frame} {s = s} hand making.suits told ∙ ap (λ (more : List Row). a.frame.entered ++ more) (same ∙ begun) ∙ append-nil a.frame.entered in
    flattened own first count number scope h note c
    ∙ numbered c kind stream h own first count number scope (sym at) (numbers.own_is ∙ ap (λ (n : ℕ). n + sections_length (heading_view h).sections) (sym at)) numbers.count_is
    (sym (numbers.number_is c refl (ap (λ (own : List Row). length (filter is_proc own)) rows))) numbers.scope_is)

-- there is room for them
pub heading_room : {f : Frame} {s : Site} {x : Made} (ss ts : List Shape) → IsMaking f s x (ss ++ ts) → next_ordinal x < 2 ^ 32
heading_room ss ts making = let a = making.room in let b = making.few in omega arith

-- the last two shapes of a heading
abbrev pub last_shapes : Heading → List Shape
last_shapes h = nameless proc_type_kind h.name.at ∷ named proc_kind h.name ∷ []

-- the rows of the sections are within those of the item
pub rows_within : {f : Frame} {s : Site} {x : Made} (h : Heading) → IsMaking f s x (flat_map section_shapes (heading_view h).sections ++ last_shapes h) → next_ordinal x + sections_length (heading_view h).sections + 2 ≤ 2 ^ 31
rows_within h making =
    let l = length-append (flat_map section_shapes (heading_view h).sections) (last_shapes h) in
    let e = rows_are_shapes h.sections.items in
    let a = making.room in
    let b = making.few in
    omega arith

pub few_rows : {f : Frame} {s : Site} {x : Made} (h : Heading) → IsMaking f s x (flat_map section_shapes (heading_view h).sections ++ last_shapes h) → sections_length (map section_view h.sections.items) ≤ 2 ^ 31
few_rows h making = let w = rows_within h making in omega (arith, w)

-- what the sections need
pub sections_making : {f : Frame} {s : Site} {x : Made} (h : Heading) (sections : List Section) → sections ≡ h.sections.items → IsMaking f s x (flat_map section_shapes (heading_view h).sections ++ last_shapes h) → IsMaking f s x (flat_map section_shapes (map section_view sections))
sections_making {f} {s} {x} h sections same making =
    subst (λ (xs : List Section). IsMaking f s x (flat_map section_shapes (map section_view xs))) (sym same) (making_front (flat_map section_shapes (heading_view h).sections) (last_shapes h) making)

-- the sections, as the heading has them
pub sections_piece : {a b : State} {x y : Made} {s : Site} {v : Unit {0}} (own : ℕ) (h : Heading) (sections : List Section) → sections ≡ h.sections.items
    → Declares a b x y s (Ok (Known v)) (flat_map section_shapes (map section_view sections)) IsAny (λ c. section_rows c own (map section_view sections))
    → Declares a b x y s (Ok (Known v)) (flat_map section_shapes (heading_view h).sections) IsAny (λ c. section_rows c own (heading_view h).sections)
sections_piece {a} {b} {x} {y} {s} {v} own h sections same p =
    subst (λ (xs : List Section). Declares a b x y s (Ok (Known v)) (flat_map section_shapes (map section_view xs)) IsAny (λ c. section_rows c own (map section_view xs))) same p

module _ {a b : State} {x y : Made} {s : Site} {v : Unit {0}} (own : ℕ) (h : Heading) (making : IsMaking a.frame s x (flat_map section_shapes (heading_view h).sections ++ last_shapes h))
    (p : Declares a b x y s (Ok (Known v)) (flat_map section_shapes (heading_view h).sections) IsAny (λ c. section_rows c own (heading_view h).sections)) where
  pub typed_making : IsMaking b.frame s y (last_shapes h)
  typed_making = making_on {ss = flat_map section_shapes (heading_view h).sections} {ts = last_shapes h} (sections_none h.sections.items) making p

  module _ {d : State} {z : Made} (kind : StreamKind) (stream : ℕ) {first count number scope : ℕ} (begun : x.rows.items ≡ []) (numbers : HasNumbers a.frame s x kind stream h own first count number scope) where
    pub heading_known : {t : Place} (note : Option HeadingNote) → note ≡ heading_note kind (heading_view h) number → Declares b d y z s (Ok (Known t)) (last_shapes h) IsBehind (typed_given first count number scope h.name h.result)
        → Declares a d x z s (Ok (Known note)) (flat_map section_shapes (heading_view h).sections ++ last_shapes h) IsAny (λ c. proc_rows c kind (heading_view h) stream)
    heading_known kept is q =
        let given = heading_note kind (heading_view h) number in
        revalued is (λ k. tt) (heading_made kind stream h own first count number scope (Ok (Known given)) making begun numbers p (noted first count number scope h given typed_making q))

    pub heading_waits : {head : Head} → Declares b d y z s (Ok (DontKnowYet head)) (last_shapes h) IsBehind (typed_given first count number scope h.name h.result)
        → Declares a d x z s (Ok (DontKnowYet head)) (flat_map section_shapes (heading_view h).sections ++ last_shapes h) IsAny (λ c. proc_rows c kind (heading_view h) stream)
    heading_waits {head} q = heading_made kind stream h own first count number scope (Ok (DontKnowYet head)) making begun numbers p (waiting q)

    pub heading_failed : {m : Memory} (n : Memory) → Declares b d y z s (Err m) (last_shapes h) IsBehind (typed_given first count number scope h.name h.result)
        → Declares a d x z s (Err n) (flat_map section_shapes (heading_view h).sections ++ last_shapes h) IsAny (λ c. proc_rows c kind (heading_view h) stream)
    heading_failed n q = heading_made kind stream h own first count number scope (Err n) making begun numbers p (failed q n)
