-- The program's map and the texts that a shelf holds.
use Rattle.std.proofs.Common.{◌≡◌, ℕ, Bool, true, false, cond, List, [], ◌∷◌, Option, Some, map, refl, sym, ◌∙◌, ap, Vec, Global, String, string_bytes}
use Rattle.std.specs.Prelude.{option_map}
use Rattle.std.specs.Ordering.{nat_cmp, is_eq, eq_by_cmp}
use Rattle.std.specs.Cmp.Lexicographic.{slice_cmp}
use Rattle.std.specs.Str.{bytes_eq}
use Rattle.std.specs.Map.{lookup}
use Rattle.std.specs.BTreeMap.{BTreeMap, get_by_text, is_at, UpdatesBy}
use Rattle.std.specs.String.{string_cmp}
use Rattle.std.specs.FinMap.{find, get, insert, get-from_entries, get-insert, same_map, slice_cmp-IsAntisymmetric, nat_cmp-IsAntisymmetric}
use Rattle.std.proofs.lemmas.Cmp.{nat_list_cmp_total, nat_list_eq_equiv}
use Rattle.std.proofs.lemmas.Map.Text.{is_eq-slice_cmp, btree_map_updates_text}
use Rattle.m2_io.specs.FilesOf.{files_of}

map-cond : {A B : Type 0} (f : A → B) (b : Bool) (x : A) (o : Option A) → option_map f (cond b (Some x) o) ≡ cond b (Some (f x)) (option_map f o)
map-cond f true x o = refl
map-cond f false x o = refl

find-map : (es : List (String Global × Vec ℕ Global)) (q : List ℕ)
    → find (slice_cmp nat_cmp) q (map (λ e. (string_bytes e.0, e.1.items)) es) ≡ option_map (λ text. text.items) (lookup (is_at (λ k. slice_cmp nat_cmp q (string_bytes k))) es)
find-map [] q = refl
find-map (e ∷ es) q =
    let here = is_eq (slice_cmp nat_cmp q (string_bytes e.0)) in
    ap (cond here (Some e.1.items)) (find-map es q) ∙ sym (map-cond (λ text. text.items) here e.1 (lookup (is_at (λ k. slice_cmp nat_cmp q (string_bytes k))) es))

-- what the shelf has under a name
pub get-files_of : (files : BTreeMap (String Global) (Vec ℕ Global)) (q : List ℕ) → get (files_of files) q ≡ option_map (λ text. text.items) (get_by_text files q)
get-files_of files q = get-from_entries nat_list_cmp_total _ q ∙ find-map files.entries q

-- the map after a text is put under a name
pub files_of-insert : (old new : BTreeMap (String Global) (Vec ℕ Global)) (name : List ℕ) (text : Vec ℕ Global)
    → UpdatesBy string_cmp (λ k. slice_cmp nat_cmp name (string_bytes k)) old new (Some text) → files_of new ≡ insert (files_of old) name text.items
files_of-insert old new name text updates = same_map nat_list_cmp_total (slice_cmp-IsAntisymmetric nat_cmp-IsAntisymmetric) _ _ (λ q.
    let keys : bytes_eq name q ≡ eq_by_cmp (slice_cmp nat_cmp) q name = nat_list_eq_equiv.symm name q ∙ sym (is_eq-slice_cmp q name) in
    get-files_of new q
    ∙ ap (option_map (λ t. t.items)) (btree_map_updates_text name old new (Some text) updates q)
    ∙ map-cond (λ t. t.items) (bytes_eq name q) text (get_by_text old q)
    ∙ ap (λ b. cond b (Some text.items) (option_map (λ t. t.items) (get_by_text old q))) keys
    ∙ sym (get-insert nat_list_cmp_total (files_of old) name text.items q ∙ ap (cond (eq_by_cmp (slice_cmp nat_cmp) q name) (Some text.items)) (get-files_of old q)))
