-- Parts of an item, made one after another.
use Rattle.std.specs.Prelude.{◌≡◌, List, ◌++◌, length}
use Rattle.std.proofs.Common.{refl, sym, ap, ◌∙◌, subst, arith}
use Rattle.std.proofs.lemmas.List.{append_assoc, append-nil, length-append}
use Rattle.m2_base.proofs.SceneLaws.{own-with, open-with}
use Rattle.m2_base.specs.Statics.Contexts.{Context}
use Rattle.m2_base.specs.Statics.Makes.{Makes, make_then, makes, own_rows, with_rows}
use Rattle.m2_base.specs.Statics.Shapes.{Shape}
use Rattle.m2_base.specs.declared.rows.Row.{Row}
use Rattle.m2_base.specs.declared.sites.Site.{Site}
use Rattle.decl_sem.specs.LaidRows.{AreLaid, IsAhead}
use Rattle.decl_sem.specs.Making.{IsInHand, MakesAll}
use Rattle.decl_sem.specs.declared.making.Made.{Made}
use Rattle.decl_sem.proofs.FirstNames.{gone_on}

-- nothing is made
pub makes_none : {T : Type 0} (made : Made) (v : T) → MakesAll made made (makes v) v
makes_none made v = record { value_is = refl; rows = sym (append-nil made.rows.items); diags = sym (append-nil made.notes.diags.items); answers = sym (append-nil made.notes.answers.items) }

-- a part, and what comes after it
pub makes_then : {A B : Type 0} {x y z : Made} (c : Context) (a : Makes A) (f : Context → A → Makes B) {u : A} {v : B}
    → MakesAll x y a u → MakesAll y z (f (with_rows c a.rows) u) v → MakesAll x z (make_then c a f) v
makes_then {A} {B} {x} {y} {z} c a f {u} {v} p q =
    let r : MakesAll y z (f (with_rows c a.rows) a.value) v = subst (λ (w : A). MakesAll y z (f (with_rows c a.rows) w) v) p.value_is q in
    let b : Makes B = f (with_rows c a.rows) a.value in
    record {
      value_is = r.value_is;
      rows = r.rows ∙ ap (λ t. t ++ b.rows) p.rows ∙ append_assoc x.rows.items a.rows b.rows;
      diags = r.diags ∙ ap (λ t. t ++ b.diags) p.diags ∙ append_assoc x.notes.diags.items a.diags b.diags;
      answers = r.answers ∙ ap (λ t. t ++ b.answers) p.answers ∙ append_assoc x.notes.answers.items a.answers b.answers;
    }

-- the context after more rows
pub in_hand_on : {c : Context} {s : Site} {before after : Made} (rows : List Row) → after.first ≡ before.first → after.rows.items ≡ before.rows.items ++ rows
    → IsInHand c s before → IsInHand (with_rows c rows) s after
in_hand_on {c} {s} {before} {after} rows first more h =
    record {
      scope = h.scope;
      exists = open-with c.scene rows h.exists;
      text = h.text;
      layout = h.layout;
      count = let own = ap length (own-with c.scene rows h.exists) in
          let joined = length-append (own_rows c) rows in
          let made = ap length more in
          let longer = length-append before.rows.items rows in
          let count = h.count in
          omega arith;
    }

-- and what is ahead then
pub ahead_on : {c : Context} {s : Site} {made : Made} {rows : List Row} (xs ys : List Shape) → IsInHand c s made → AreLaid c.layout (length (own_rows c)) xs rows
    → IsAhead c.layout (own_rows c) (xs ++ ys) → IsAhead c.layout (own_rows (with_rows c rows)) ys
ahead_on {c} {s} {made} {rows} xs ys h laid ahead =
    subst (λ (own : List Row). IsAhead c.layout own ys) (sym (own-with c.scene rows h.exists)) (gone_on xs ys ahead laid)
