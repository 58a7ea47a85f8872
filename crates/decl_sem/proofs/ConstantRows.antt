-- What the rows of constants and of types' names say is right.
use Rattle.std.specs.Prelude.{◌≡◌, ℕ, ℤ, ◌<◌, ◌^◌, pos, List, [], ◌∷◌, ◌++◌, length, Option, None, Some, Result, Ok}
use Rattle.std.proofs.Common.{refl, sym, ap, subst, arith}
use Rattle.m2_base.specs.Rows.{HasSmallNumbers, HasSmallOrdinals, IsValue, const_kind, natural, opaque_kind, type_name_kind}
use Rattle.m2_base.specs.Standard.{broken, text_type}
use Rattle.m2_base.specs.States.{Frame, State}
use Rattle.m2_base.specs.Statics.Constants.{constant_of}
use Rattle.m2_base.specs.Statics.Makes.{makes_named, only_gives}
use Rattle.m2_base.specs.Statics.NameRows.{const_meaning, const_rows, declared_type, type_name_rows}
use Rattle.m2_base.specs.Statics.Shapes.{Shape, named, type_item_shapes}
use Rattle.m2_base.specs.Trees.{Expr, TypeExpr}
use Rattle.m2_base.specs.declared.memory.Memory.{Memory}
use Rattle.m2_base.specs.declared.operands.Operand.{Operand}
use Rattle.m2_base.specs.declared.operands.Operand.TheVariants.{Computed, Constant, InError, ModuleName, NamedType, NotConstant, Procedure, StandardProcedure, StringConstant, Variable}
use Rattle.m2_base.specs.declared.replies.Ask.{Ask}
use Rattle.m2_base.specs.declared.replies.Ask.TheVariants.{Known}
use Rattle.m2_base.specs.declared.rows.Place.{Place}
use Rattle.m2_base.specs.declared.rows.RowMeaning.{RowMeaning}
use Rattle.m2_base.specs.declared.rows.RowMeaning.TheVariants.{Const, Opaque, TypeName}
use Rattle.m2_base.specs.declared.sites.Site.{Site}
use Rattle.m2_base.specs.declared.trees.Ident.{Ident}
use Rattle.m2_base.proofs.SoundOperands.{natural-value}
use Rattle.std.specs.Option.{IfSome}
use Rattle.type_rules.specs.Scenes.{IsThere}
use Rattle.const_eval.specs.Analyses.{Analysed}
use Rattle.const_eval.specs.NamedTexts.{IsNamedText}
use Rattle.const_eval.specs.Sites.{IsOperand}
use Rattle.decl_sem.specs.Making.{next_ordinal}
use Rattle.decl_sem.specs.Pieces.{Declares, IsBehind, IsMaking, IsNewMeaning, kind_number}
use Rattle.decl_sem.specs.declared.making.Made.{Made}
use Rattle.decl_sem.proofs.NoTypeNames.{types_name_none}
use Rattle.decl_sem.proofs.OneRows.{before_next, small_scope}
use Rattle.decl_sem.proofs.Pieces.{AreNoTypes, analysed, making_on, then_after}

-- a type that can be asked for stands before the next row
pub behind_there : {f : Frame} {s : Site} {x : Made} {ss : List Shape} (t : Place) → IsMaking f s x ss → t.ordinal < 2 ^ 32 → IsThere f t → IsBehind f (next_ordinal x) t
behind_there {f} {s} {x} t making small there =
    record {
      small = small;
      scope = there.scope;
      before = λ own. let h = there.entered own making.begun in let n = making.count in omega arith;
    }

-- a standard type stands before every row
pub behind_standard : {f : Frame} {s : Site} {x : Made} {ss : List Shape} (t : Place) → IsMaking f s x ss → t.scope ≡ 0 → t.ordinal < 2 ^ 32 → IsBehind f (next_ordinal x) t
behind_standard {f} {s} {x} t making zero small =
    let inner = making.suits.around.inner in
    record { small = small; scope = omega arith; before = λ own. absurd (omega arith) }

pub value_meaning : {f : Frame} {s : Site} {x : Made} {ss : List Shape} (t : Place) (v w : ℤ) → w ≡ v → IsMaking f s x ss → t.ordinal < 2 ^ 32 → IsThere f t → IsValue v → (t ≡ text_type → natural v < length f.setting.texts.names)
    → IsNewMeaning f s (next_ordinal x) (Const t w 0)
value_meaning {f} {s} {x} t v w e making small there value text =
    let behind = behind_there t making small there in
    subst (λ (z : ℤ). IsNewMeaning f s (next_ordinal x) (Const t z 0)) (sym e) (record { small = small; scopes = small_scope making behind; fits = (before_next behind, value, omega arith, text); filled = tt; owned = tt })

pub string_meaning : {f : Frame} {s : Site} {x : Made} {ss : List Shape} (n l : ℕ) (w : ℤ) → w ≡ pos n → IsMaking f s x ss → n < length f.setting.texts.names → l < 2 ^ 32 → IsNewMeaning f s (next_ordinal x) (Const text_type w l)
string_meaning {f} {s} {x} n l w e making known small =
    let behind = behind_standard text_type making refl (omega arith) in
    let few = making.suits.around.names in
    subst (λ (z : ℤ). IsNewMeaning f s (next_ordinal x) (Const text_type z l)) (sym e)
    (record { small = omega arith; scopes = small_scope making behind; fits = (before_next behind, natural-value n (omega arith), small, λ e. known); filled = tt; owned = tt })

pub broken_meaning : {f : Frame} {s : Site} {x : Made} {ss : List Shape} → IsMaking f s x ss → IsNewMeaning f s (next_ordinal x) (Const broken (pos 0) 0)
broken_meaning making =
    let behind = behind_standard broken making refl (omega arith) in
    record {
      small = omega arith;
      scopes = small_scope making behind;
      fits = (before_next behind, natural-value 0 (omega arith), omega arith, λ e. absurd (let o : 10 ≡ 8 = ap (λ (p : Place). p.ordinal) e in omega arith));
      filled = tt;
      owned = tt;
    }

pub name_meaning : {f : Frame} {s : Site} {x : Made} {ss : List Shape} (t : Place) → IsMaking f s x ss → IsBehind f (next_ordinal x) t → IsNewMeaning f s (next_ordinal x) (TypeName t)
name_meaning t making behind = record { small = behind.small; scopes = small_scope making behind; fits = before_next behind; filled = tt; owned = tt }

pub opaque_meaning : (f : Frame) (s : Site) (o : ℕ) → IsNewMeaning f s o Opaque
opaque_meaning f s o = record { small = tt; scopes = tt; fits = tt; filled = tt; owned = tt }

-- ** After what comes first

-- an operand that a row can have
abbrev pub IsForRow : Frame → Option Operand → Type 0
IsForRow f o = IfSome o (λ operand. IsOperand f operand × IsNamedText f operand)

-- what the row of a constant says is right
pub constant_meaning : {f : Frame} {s : Site} {x : Made} {ss : List Shape} (o : Option Operand) (m : RowMeaning) → m ≡ const_meaning o → HasSmallOrdinals m → HasSmallNumbers m → IsMaking f s x ss → IsForRow f o → IsNewMeaning f s (next_ordinal x) m
constant_meaning {f} {s} {x} o m e ordinals numbers making known =
    subst (λ (n : RowMeaning). IsNewMeaning f s (next_ordinal x) n) (sym e) (go o (subst HasSmallOrdinals e ordinals) (subst HasSmallNumbers e numbers) known)
  where
    go : (o : Option Operand) → HasSmallOrdinals (const_meaning o) → HasSmallNumbers (const_meaning o) → IsForRow f o → IsNewMeaning f s (next_ordinal x) (const_meaning o)
    go (Some (Constant t v)) small numbers known = value_meaning t v v refl making small known.0.0 known.0.1 known.1
    go (Some (StringConstant n l)) small numbers known = string_meaning n l (pos n) refl making known.0 numbers
    go (Some (Computed t)) small numbers known = broken_meaning making
    go (Some (Variable t)) small numbers known = broken_meaning making
    go (Some (NamedType t)) small numbers known = broken_meaning making
    go (Some (Procedure n t k l)) small numbers known = broken_meaning making
    go (Some (StandardProcedure n)) small numbers known = broken_meaning making
    go (Some (ModuleName n)) small numbers known = broken_meaning making
    go (Some NotConstant) small numbers known = broken_meaning making
    go (Some InError) small numbers known = broken_meaning making
    go None small numbers known = broken_meaning making

module _ {a b : State} {x y : Made} {s : Site} {o : Option Operand} (name : Ident) (e : Expr) (making : IsMaking a.frame s x (named const_kind name ∷ [])) (rows : y.rows ≡ x.rows) (first : y.first ≡ x.first) (value : Analysed a b x.notes y.notes s (Ok (Known o)) IsForRow (λ c. constant_of c e)) where
  -- the value of a constant
  valued : Declares a b x y s (Ok (Known o)) [] (λ f next v. IsForRow f v) (λ c. only_gives (constant_of c e))
  valued = analysed (Ok (Known o)) making rows first (λ v h. h) value

  -- what its row needs, after that
  pub constant_making : (m : RowMeaning) → kind_number m ≡ const_kind → IsMaking b.frame s y (named (kind_number m) name ∷ [])
  constant_making m kind = subst (λ (k : ℕ). IsMaking b.frame s y (named k name ∷ [])) (sym kind) (making_on {ss = []} {ts = named const_kind name ∷ []} tt making valued)

  pub constant_known : IsForRow b.frame o
  constant_known = subst (λ (f : Frame). IsForRow f o) (sym valued.works.keeps.frame) valued.there

  -- the row
  pub constant_row : {d : State} {z : Made} (m : RowMeaning) (answer : Result (Ask Place) Memory) → m ≡ const_meaning o → kind_number m ≡ const_kind
      → Declares b d y z s answer (named (kind_number m) name ∷ []) IsBehind (λ c. makes_named c name.name name.at m)
      → Declares a d x z s answer (named const_kind name ∷ []) IsBehind (λ c. const_rows c name e)
  constant_row {d} {z} m answer same kind piece =
      then_after (λ c. only_gives (constant_of c e)) (λ o c. makes_named c name.name name.at (const_meaning o)) answer tt making valued
      (subst (λ (k : ℕ). Declares b d y z s answer (named k name ∷ []) IsBehind (λ c. makes_named c name.name name.at (const_meaning o))) kind
      (subst (λ (n : RowMeaning). Declares b d y z s answer (named (kind_number m) name ∷ []) IsBehind (λ c. makes_named c name.name name.at n)) same piece))

-- none of a declared type's rows is that of a type's name
pub declared_names_none : (name : Ident) (typ : Option TypeExpr) → AreNoTypes (type_item_shapes name typ)
declared_names_none name None = ((λ e. absurd (let h : opaque_kind ≡ type_name_kind = e in omega arith)), tt)
declared_names_none name (Some t) = types_name_none t

-- the name of a type, after its rows
pub type_name_row : {a b d : State} {x y z : Made} {s : Site} {t : Place} (name : Ident) (typ : Option TypeExpr) (answer : Result (Ask Place) Memory) → IsMaking a.frame s x (type_item_shapes name typ ++ named type_name_kind name ∷ [])
    → Declares a b x y s (Ok (Known t)) (type_item_shapes name typ) IsBehind (λ c. declared_type c name typ)
    → Declares b d y z s answer (named type_name_kind name ∷ []) IsBehind (λ c. makes_named c name.name name.at (TypeName t))
    → Declares a d x z s answer (type_item_shapes name typ ++ named type_name_kind name ∷ []) IsBehind (λ c. type_name_rows c name typ)
type_name_row name typ answer making p q =
    then_after (λ c. declared_type c name typ) (λ t c. makes_named c name.name name.at (TypeName t)) answer (declared_names_none name typ) making p q
