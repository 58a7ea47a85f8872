-- What a call of the shelf gives of an object.
use Rattle.std.proofs.Common.{◌≡◌, ℕ, ◌<◌, ◌≤◌, List, Option, Some, None, length, take, refl, sym, ◌∙◌, ap, subst, arith, Vec, Global, vec_len}
use Rattle.std.specs.Prelude.{IfErr, IfOk, IfSome, OnOk, Result, Ok, Err, option_map}
use Rattle.std.specs.FinMap.{get}
use Rattle.std.proofs.lemmas.List.{length-take, take_all}
use Rattle.m2_io.specs.Files.{Files, front_of}
use Rattle.object_file.specs.Contents.{Contents}
use Rattle.object_file.specs.Validity.{IsObject}
use Rattle.program_load.specs.Answers.{told}
use Rattle.program_load.specs.Closure.{Progress, start}
use Rattle.program_load.specs.Loads.{Asks, Blocks, Failure, Finds, Reads, Spoils, Stops, at_object, bad, is_there, spoilt, too_long, too_many}
use Rattle.program_load.specs.declared.fault.LoadFault.{LoadFault}
use Rattle.program_load.specs.Shelves.{HasObject, IsReadOf, object_file}

pub read_of : (holds : Option Files) (name file : List ℕ) (given : Option (Vec ℕ Global)) → file ≡ object_file name → IfSome holds (λ files. option_map (λ text. text.items) given ≡ front_of files file 67108865)
    → IfSome given (λ text. vec_len text ≤ 67108865) → IsReadOf holds name (option_map (λ text. text.items) given)
unfolding front_of
read_of None name file None same found most = record { whole = None; has = tt; front = refl }
read_of None name file (Some text) same found most = record { whole = Some text.items; has = tt; front = ap Some (sym (take_all 67108865 text.items (omega (arith, text.ok.0, most)))) }
read_of (Some files) name file given same found most = record { whole = get files file; has = ap (get files) (sym same); front = found }

-- bytes of which no more is read than an object may have are read whole
whole_is : (all bytes : List ℕ) → bytes ≡ take 67108865 all → length bytes ≤ 67108864 → all ≡ bytes
whole_is all bytes is short =
    let few : length all ≤ 67108864 = omega (arith, ap length is, length-take 67108865 all, short) in
    sym (is ∙ take_all 67108865 all (omega (arith, few)))

some_bytes : (bytes : List ℕ) (all : Option (List ℕ)) → Some bytes ≡ option_map (take 67108865) all → (full : List ℕ) × (all ≡ Some full) × (bytes ≡ take 67108865 full)
some_bytes bytes None e = cc
some_bytes bytes (Some full) e = (full, refl, cc)

none_is : (all : Option (List ℕ)) → None ≡ option_map (take 67108865) all → all ≡ None
none_is None e = refl
none_is (Some all) e = cc

module _ (holds : Option Files) (name : List ℕ) where
  pub nothing_there : IsReadOf holds name None → HasObject holds name None
  nothing_there read = subst (HasObject holds name) (none_is read.whole read.front) read.has

  -- the shelf has the bytes that are read, where they are no more than an object may have
  pub there : (bytes : List ℕ) → IsReadOf holds name (Some bytes) → length bytes ≤ 67108864 → HasObject holds name (Some bytes)
  there bytes read short =
      let t = some_bytes bytes read.whole read.front in
      subst (λ b. HasObject holds name (Some b)) (whole_is t.0 bytes t.2 short) (subst (HasObject holds name) t.1 read.has)

  spoils_all : (all bytes : List ℕ) (failure : Failure) → bytes ≡ take 67108865 all → Spoils name bytes failure → Spoils name all failure
  spoils_all all bytes _ is (too_long long) = too_long (omega (arith, ap length is, length-take 67108865 all, long))
  spoils_all all bytes failure is (bad short at) = subst (λ b. Spoils name b failure) (sym (whole_is all bytes is short)) (bad short at)

  -- and what they are spoilt by spoils all
  pub spoils : (bytes : List ℕ) (failure : Failure) → IsReadOf holds name (Some bytes) → Spoils name bytes failure → (all : List ℕ) × HasObject holds name (Some all) × Spoils name all failure
  spoils bytes failure read h =
      let t = some_bytes bytes read.whole read.front in
      (t.0, subst (HasObject holds name) t.1 read.has, spoils_all t.0 bytes failure t.2 h)

  pub stops_at : (p : Progress) (bytes : List ℕ) (failure : Failure) → IsReadOf holds name (Some bytes) → Blocks p name bytes failure → Stops holds p name failure
  stops_at p bytes _ read (too_many many) =
      let t = some_bytes bytes read.whole read.front in
      at_object (subst (HasObject holds name) t.1 read.has) (too_many many)
  stops_at p bytes failure read (spoilt few h) = let s = spoils bytes failure read h in at_object s.1 (spoilt few s.2)

  pub asks_there : (p q : Progress) (bytes : List ℕ) → IsReadOf holds name (Some bytes) → Reads p bytes q → Asks holds p name q
  asks_there p q bytes read reads = is_there (there bytes read reads.short) reads

  pub stops_so : {T : Type 0} (bytes given : List ℕ) (result : Result T LoadFault) → IsReadOf holds name (Some bytes) → given ≡ bytes → IfErr result (λ e. IfSome (told e) (Spoils name given))
      → IfErr result (λ e. IfSome (told e) (Stops holds (start name) name))
  stops_so bytes given (Ok x) read same h = tt
  stops_so bytes given (Err e) read same h = on (told e) h where
    on : (o : Option Failure) → IfSome o (Spoils name given) → IfSome o (Stops holds (start name) name)
    on None h = tt
    on (Some f) h = stops_at (start name) bytes f read (spoilt (omega arith) (subst (λ b. Spoils name b f) same h))

  pub finds_so : {E : Type 0} (bytes given : List ℕ) (result : Result Contents E) → IsReadOf holds name (Some bytes) → given ≡ bytes → OnOk result (length given ≤ 67108864)
      → IfOk result (λ o. IsObject given o) → IfOk result (Finds holds name)
  finds_so bytes given (Err e) read same short is = tt
  finds_so bytes given (Ok o) read same short is =
      let few : length bytes ≤ 67108864 = omega (arith, short, ap length same) in
      record { bytes = bytes; has = there bytes read few; short = few; is = subst (λ b. IsObject b o) same is }

  -- and of a program
  pub ends_so : {T : Type 0} (p : Progress) (bytes given : List ℕ) (result : Result T LoadFault) → IsReadOf holds name (Some bytes) → given ≡ bytes → IfErr result (λ e. IfSome (told e) (Blocks p name given))
      → IfErr result (λ e. IfSome (told e) (Stops holds p name))
  ends_so p bytes given (Ok x) read same h = tt
  ends_so p bytes given (Err e) read same h = on (told e) h where
    on : (o : Option Failure) → IfSome o (Blocks p name given) → IfSome o (Stops holds p name)
    on None h = tt
    on (Some f) h = stops_at p bytes f read (subst (λ b. Blocks p name b f) same h)

  pub asks_so : {E : Type 0} (p : Progress) (bytes given : List ℕ) (result : Result Progress E) → IsReadOf holds name (Some bytes) → given ≡ bytes → IfOk result (Reads p given) → IfOk result (Asks holds p name)
  asks_so p bytes given (Err e) read same h = tt
  asks_so p bytes given (Ok q) read same h = asks_there p q bytes read (subst (λ b. Reads p b q) same h)

-- bytes that are no object block, where there is room for one
pub blocks_so : (p : Progress) (name bytes : List ℕ) (e : LoadFault) → length p.objects < 256 → IfSome (told e) (Spoils name bytes) → IfSome (told e) (Blocks p name bytes)
blocks_so p name bytes e few h = on (told e) h where
  on : (o : Option Failure) → IfSome o (Spoils name bytes) → IfSome o (Blocks p name bytes)
  on None h = tt
  on (Some f) h = spoilt few h
