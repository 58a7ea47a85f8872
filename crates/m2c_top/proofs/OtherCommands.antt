-- The commands differ.
use Rattle.std.proofs.Common.{◌≡◌, ℕ, List}
use Rattle.command_words.specs.Command.{big, compile, dump, run}

pub compile_run : (name : List ℕ) (workers : ℕ) (other : List ℕ) (steps cells : ℕ) → compile name workers ≡ run other steps cells → ⊥
compile_run name workers other steps cells e = cc

pub compile_dump : (name : List ℕ) (workers : ℕ) (other : List ℕ) → compile name workers ≡ dump other → ⊥
compile_dump name workers other e = cc

pub run_dump : (name : List ℕ) (steps cells : ℕ) (other : List ℕ) → run name steps cells ≡ dump other → ⊥
run_dump name steps cells other e = cc

pub compile_big : (name : List ℕ) (workers procedures other : ℕ) → compile name workers ≡ big procedures other → ⊥
compile_big name workers procedures other e = cc

pub run_big : (name : List ℕ) (steps cells procedures other : ℕ) → run name steps cells ≡ big procedures other → ⊥
run_big name steps cells procedures other e = cc

pub dump_big : (name : List ℕ) (procedures other : ℕ) → dump name ≡ big procedures other → ⊥
dump_big name procedures other e = cc
