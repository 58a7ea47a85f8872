-- The key of a definition text: the digest of its tokens and of the keys of the definitions that it imports. So two
-- keys are equal where the definitions and all that they rest on are, but for their blanks and comments.
use Rattle.std.specs.Prelude.{◌≡◌, ℕ, Bool, ◌==◌, nat_eq, if◌then◌else◌, List, [], ◌∷◌, ◌++◌, fold, map}
use Rattle.std.specs.Prelude.{slice_index_or}
use Rattle.std.specs.List.{flat_map, list_any}
use Rattle.sha2.specs.Sha256.{sha256}
use Rattle.m2_base.specs.Finished.{no_text}
use Rattle.m2_base.specs.Fronts as fronts
use Rattle.m2_base.specs.Fronts.{IsFront}
use Rattle.m2_base.specs.Units.{Front, TextOf, UnitTexts}
use Rattle.m2_base.specs.declared.token.Token.{Token}
use Rattle.stream_split.specs.Fronts.{front_of}
use Rattle.definition_keys.specs.KeyBytes.{text_bytes}

-- the names with this one among them
abbrev pub with_name : List ℕ → ℕ → List ℕ
with_name names name = if list_any (nat_eq name) names then names else names ++ name ∷ []

-- each of these names once, where it stands first
abbrev pub firsts : List ℕ → List ℕ
firsts names = fold with_name [] names

-- the keys of modules, each with the name of its module
abbrev pub Keys : Type 0
Keys = List (ℕ × List ℕ)

-- the key of the module with this name, if there is one
abbrev pub key_in : Keys → (name : ℕ) → List ℕ
key_in [] name = []
key_in (k ∷ keys) name = if k.0 == name then k.1 else key_in keys name

-- what is digested of a text: its tokens, and behind them the keys of the modules that it imports, in the order of
-- their first import
abbrev pub message_of : (names : List (List ℕ)) → (front : TextOf → Front) → Keys → TextOf → List ℕ
message_of names front keys t = text_bytes names t.tokens ++ flat_map (key_in keys) (firsts (front t).imports)

abbrev pub key_of : (names : List (List ℕ)) → (front : TextOf → Front) → Keys → TextOf → List ℕ
key_of names front keys t = sha256 (message_of names front keys t)

-- the keys of these texts behind those before, each over all before it
abbrev pub keys_from : (names : List (List ℕ)) → (front : TextOf → Front) → Keys → List TextOf → Keys
keys_from names front keys [] = keys
keys_from names front keys (t ∷ texts) = keys_from names front (keys ++ (t.name, key_of names front keys t) ∷ []) texts

-- the definition texts of a unit in dependency order
abbrev pub ordered_texts : UnitTexts → List TextOf
ordered_texts u = map (λ k. slice_index_or u.list k no_text) u.order

-- The keys of a unit's definition texts, in dependency order, in which each text stands behind those that it imports.
-- How a front is read is the grammar's to say: it is a parameter here.
unfoldable pub unit_keys : (front : TextOf → Front) → UnitTexts → Keys
unit_keys front u = keys_from u.names front [] (ordered_texts u)

-- ** What the code asks and keeps

-- this is the front of the text
abbrev pub IsFrontAt : (front : TextOf → Front) → TextOf → Type 0
IsFrontAt front t = (f : fronts.Front) → IsFront t.definition t.tokens f → front t ≡ front_of f

-- these are the modules that the text imports, in the order of their first import
abbrev pub AreImports : (definition : Bool) → List Token → List ℕ → Type 0
AreImports definition tokens modules =
    (f : fronts.Front) × IsFront definition tokens f × (modules ≡ firsts (front_of f).imports)
