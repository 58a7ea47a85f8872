-- Runs of bytes of one class.
use Rattle.std.specs.Prelude.{ℕ, Bool, List, drop}
use Rattle.std.specs.List.{prefix_len}
use Rattle.std.specs.Str.{bytes_eq}

-- what follows the bytes of the class at the front
abbrev pub after_run : (ℕ → Bool) → List ℕ → List ℕ
after_run is_one bytes = drop (prefix_len is_one bytes) bytes

-- the bytes are some of the class, and then these
abbrev pub is_run_and : (ℕ → Bool) → List ℕ → List ℕ → Bool
is_run_and is_one last bytes = bytes_eq (after_run is_one bytes) last
