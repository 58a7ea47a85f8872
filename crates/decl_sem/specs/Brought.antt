-- The names that an item brings.
use Rattle.std.specs.Prelude.{◌≡◌, ◌≤◌, ℕ, ◌+◌, ◌-◌, Bool, if◌then◌else◌, List, [], ◌∷◌, ◌++◌, length, map, unwrap_or}
use Rattle.std.specs.Prelude.{Result, Ok, Err}
use Rattle.std.specs.declared.alloc.Global.{Global}
use Rattle.std.specs.declared.vec.Vec.{Vec}
use Rattle.m2_base.specs.Asks.{IfKnown, IfWaits}
use Rattle.m2_base.specs.States.{Frame, State, Waits, Works}
use Rattle.m2_base.specs.Statics.Bringing.{BringsIts}
use Rattle.m2_base.specs.Statics.Contexts.{Context, diag}
use Rattle.m2_base.specs.Statics.Diagnostics.{declared_twice, too_many_constants}
use Rattle.m2_base.specs.Statics.ImportedConstants.{Member, are_too_many, brought_names, brought_row}
use Rattle.m2_base.specs.Statics.Items.{Item}
use Rattle.m2_base.specs.Statics.Makes.{Makes, own_rows}
use Rattle.m2_base.specs.Statics.Shapes.{Shape}
use Rattle.m2_base.specs.declared.limits.TheConstants.{MOST_BROUGHT}
use Rattle.m2_base.specs.declared.memory.Memory.{Memory}
use Rattle.m2_base.specs.declared.replies.Ask.{Ask}
use Rattle.m2_base.specs.declared.replies.Ask.TheVariants.{Known, DontKnowYet}
use Rattle.m2_base.specs.declared.rows.Row.{Row}
use Rattle.m2_base.specs.declared.sites.Site.{Site}
use Rattle.type_rules.specs.Sites.{context_of}
use Rattle.m2_base.specs.declared.sites.Named.{Named}
use Rattle.decl_sem.specs.LaidRows.{AreLaid}
use Rattle.decl_sem.specs.Making.{MakesAll, next_ordinal}
use Rattle.decl_sem.specs.NewNames.{AreNewNames, AreRowsOf}
use Rattle.decl_sem.specs.Pieces.{AreNewRows, WhereMaking, item_end}
use Rattle.decl_sem.specs.declared.making.Made.{Made}

-- ** What an item makes with the names that it brings

-- The rows in hand have grown by rows of these shapes, as the layout gives them, and then by rows of names that are
-- new behind them; the block's imports bring not too many.
pub record GrownWith (f : Frame) (s : Site) (before after : Made) (shapes : List Shape)
    (brought : List Named) : Type 0 where
  pub own : List Row
  pub rows : List Row
  pub more : after.rows.items ≡ before.rows.items ++ (own ++ rows)
  pub laid : AreLaid s.layout.now (next_ordinal before) shapes own
  pub of_names : AreRowsOf brought rows
  pub names : AreNewNames s.layout.now (unwrap_or s.item 0) (next_ordinal before + length shapes)
      (next_ordinal before + length shapes) brought
  pub few : length brought ≤ MOST_BROUGHT - length s.layout.now.brought
  pub new : AreNewRows f (item_end s) (next_ordinal before) (own ++ rows)

-- as a piece of an item declares (Pieces), with the names that are brought
pub record DeclaresWith {T : Type 0} (old new : State) (before after : Made) (s : Site)
    (answer : Result (Ask T) Memory) (shapes : List Shape) (names : T → List Named)
    (MayStand : Frame → (next : ℕ) → T → Type 0) (given : Context → Makes T) : Type 0 where
  pub works : Works old new before.notes after.notes
  pub waits : IfWaits answer (λ h. Waits old new h)
  pub first : after.first ≡ before.first
  pub grown : IfKnown answer (λ v. GrownWith old.frame s before after shapes (names v))
  pub told : WhereMaking old.frame before (λ hand.
      IfKnown answer (λ v. MakesAll before after (given (context_of old.frame hand s)) v))
  pub there : IfKnown answer (λ v. MayStand old.frame (next_ordinal after) v)

-- the names of which an answer has a list
abbrev pub listed : Result (Ask (Vec Named Global)) Memory → Result (Ask (List Named)) Memory
listed (Ok (Known brought)) = Ok (Known brought.items)
listed (Ok (DontKnowYet head)) = Ok (DontKnowYet head)
listed (Err m) = Err m

-- the names of which a result has a list
abbrev pub listed_of : Result (Vec Named Global) Memory → Result (List Named) Memory
listed_of (Ok brought) = Ok brought.items
listed_of (Err m) = Err m

-- only a name of a module brings any
abbrev pub BringAny : Item → Frame → (next : ℕ) → List Named → Type 0
BringAny x f next brought = BringsIts x brought

-- the names that an answer has are those brought
abbrev pub all_names : List Named → List Named
all_names brought = brought

-- what is brought where these constants are new, and one of the others is hidden
abbrev pub brings_new : Context → (at : ℕ) → (new : List Member) → (hidden : Bool) → Makes (List Named)
brings_new c at new hidden =
    if are_too_many c new then
    record { value = []; rows = []; diags = diag c at too_many_constants ∷ []; answers = [] }
    else record {
      value = brought_names (unwrap_or c.item 0) (length (own_rows c)) at new;
      rows = map (brought_row at) new;
      diags = if hidden then diag c at declared_twice ∷ [] else [];
      answers = [];
    }
