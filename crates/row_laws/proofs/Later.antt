-- What agrees in a scene agrees in every later one.
use Rattle.std.specs.Prelude.{ℕ, ◌+◌, ◌*◌, ◌^◌, ◌≤◌, List, [], ◌∷◌, length}
use Rattle.std.proofs.Common.{ap, subst, ◌∙◌, arith}
use Rattle.m2_base.specs.Lists.{Each}
use Rattle.m2_base.specs.Rows.{row_meaning, Fits, HasSmallOrdinals}
use Rattle.m2_base.specs.declared.rows.Place.{Place}
use Rattle.m2_base.specs.declared.rows.Row.{Row}
use Rattle.m2_base.specs.declared.rows.RowMeaning.{RowMeaning}
use Rattle.m2_base.specs.declared.rows.RowMeaning.TheVariants.{Array, Subrange, TypeName}
use Rattle.m2_base.specs.Statics.Assignable.{is_open_kind}
use Rattle.m2_base.specs.Statics.Contexts.{Context, Scene}
use Rattle.m2_base.specs.Statics.Makes.{scene_with, with_rows}
use Rattle.m2_base.proofs.SceneLaws.{own_of, with-twice}
use Rattle.m2_base.proofs.Sound.{Sound, AreOk, more_ok, RowOk, next_of}
use Rattle.row_laws.proofs.Numbers.{Agrees, AllAgree, none_agree, more_agree}
use Rattle.row_laws.proofs.Agreeing.{Ready, index_later, ready-right}
use Rattle.row_laws.proofs.Settled.{IsLater, later-with}

-- what agrees in a scene agrees later
pub agrees_later : (names : ℕ) (scene later : Scene) → Sound names scene → IsLater scene later → (p : Place) → p.scope * 2 ^ 32 + p.ordinal ≤ scene.block.scope * 2 ^ 32 + length (own_of scene) → (m : RowMeaning) → Fits names p m → HasSmallOrdinals m
    → Agrees scene m → Agrees later m
agrees_later names scene later sound is p near (Subrange b low high) fits ordinals h = h
agrees_later names scene later sound is p near (Array i t s) fits ordinals h =
    index_later sound is i (let b = fits.0 in let o = ordinals.0 in (o, omega (arith, b, near))) h
agrees_later names scene later sound is p near (TypeName t) fits ordinals h =
    ap (λ (r : Row). is_open_kind (row_meaning r)) (is.rows_same t (ordinals, omega (arith, fits, near))) ∙ h
agrees_later names scene later sound is p near m fits ordinals h = tt

pub first_ok : {names : ℕ} {scene : Scene} {r : Row} {rows : List Row} → AreOk names scene (r ∷ rows) → RowOk names (next_of scene) r
first_ok (more_ok i h) = i

-- the rows agree with all of them
pub agree_each : (names : ℕ) (c : Context) (rows : List Row) → Ready names c rows → AllAgree c.scene rows → Each (λ r. Agrees (scene_with c.scene rows) (row_meaning r)) rows
agree_each names c [] ready none_agree = tt
agree_each names c (r ∷ rows) ready (more_agree h rest) =
    let ok = first_ok ready.ok in (
      agrees_later names c.scene (scene_with c.scene (r ∷ rows)) ready.sound.scene (later-with c.scene (r ∷ rows) ready.sound.scene ready.before) (next_of c.scene) (omega arith)
          (row_meaning r) ok.formed.fits ok.small h,
      subst (λ s. Each (λ x. Agrees s (row_meaning x)) rows) (with-twice c.scene (r ∷ []) rows) (agree_each names (with_rows c (r ∷ [])) rows (ready-right (r ∷ []) rows ready) rest),
    )
