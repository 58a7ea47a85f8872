-- Words for units that are written out: parts of trees by their fields, and what is noted in order, each once.
use Rattle.std.specs.Prelude.{ℕ, ◌==◌, nat_lt, Bool, false, ◌&&◌, ◌||◌, if◌then◌else◌, List, [], ◌∷◌, Option, map, fold}
use Rattle.m2_base.specs.Statics.Contexts.{DefinitionModule}
use Rattle.m2_base.specs.Trees.{Ident, Qual, Formal, Section, Heading, Import, Decl, Statements, Stream, StreamKind}
use Rattle.m2_base.specs.declared.notes.Answer.{Answer}
use Rattle.m2_base.specs.declared.notes.Diag.{Diag}

abbrev pub ident : ℕ → ℕ → Ident
ident n at = record { name = n; at = at }

abbrev pub qual : Ident → Option Ident → Qual
qual first second = record { first = first; second = second }

abbrev pub formal : Bool → Bool → Qual → Formal
formal by_ref is_open of = record { by_ref = by_ref; is_open = is_open; of = of }

abbrev pub section : Bool → List Ident → Bool → Qual → Section
section by_ref names is_open of = record { by_ref = by_ref; names = names; is_open = is_open; of = of }

abbrev pub heading : Ident → List Section → Option Qual → Heading
heading name sections result = record { name = name; sections = sections; result = result }

abbrev pub an_import : Option Ident → List Ident → Import
an_import from names = record { from = from; names = names }

abbrev pub stream : StreamKind → Bool → Option Ident → List Import → Option Heading → List Decl → Statements → Ident → Stream
stream kind implementation name imports h decls body close =
    record { kind = kind; implementation = implementation; name = name; imports = imports; heading = h; decls = decls; body = body; close = close }

abbrev pub definition_module : ℕ → ℕ → DefinitionModule
definition_module name text = record { name = name; text = text }

-- the order of lists of numbers, by the first number that differs
abbrev pub is_less : List ℕ → List ℕ → Bool
is_less (x ∷ xs) (y ∷ ys) = nat_lt x y || ((x == y) && is_less xs ys)
is_less xs ys = false

-- in order with a further one, each once
abbrev pub put_in : List (List ℕ) → List ℕ → List (List ℕ)
put_in [] x = x ∷ []
put_in (y ∷ ys) x = if is_less x y then x ∷ y ∷ ys else (if is_less y x then y ∷ put_in ys x else y ∷ ys)

abbrev pub in_order : List (List ℕ) → List (List ℕ)
in_order xs = fold put_in [] xs

-- text, token and code of each diagnostic
abbrev pub sorted_diags : List Diag → List (List ℕ)
sorted_diags ds = in_order (map (λ d. d.text ∷ d.at ∷ d.code ∷ []) ds)

-- token, scope and ordinal of each answer
abbrev pub sorted_answers : List Answer → List (List ℕ)
sorted_answers answers = in_order (map (λ a. a.at ∷ a.place.scope ∷ a.place.ordinal ∷ []) answers)
