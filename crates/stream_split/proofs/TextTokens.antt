-- The tokens of a unit's texts are as read.
use Rattle.std.specs.Prelude.{ℕ, zero, suc, List, [], ◌∷◌, slice_get}
use Rattle.m2_base.specs.Finished.{tokens_in}
use Rattle.m2_base.specs.Lists.{Each, IsPrefixOf}
use Rattle.m2_base.specs.Names.{standard_names}
use Rattle.m2_base.specs.Statics.ReadTrees.{IsReadToken}
use Rattle.m2_base.specs.Units.{IsText, TextOf}
use Rattle.m2_base.proofs.ReadTokens.{tokens_read}

module _ (names : List (List ℕ)) (standard : IsPrefixOf standard_names names) where
  -- the tokens of each text
  pub text_read : (texts : List TextOf) → Each (IsText names) texts → (k : ℕ) → Each (IsReadToken names) (tokens_in (slice_get texts k))
  text_read [] h k = tt
  text_read (t ∷ texts) h zero = tokens_read names standard 0 t.tokens h.0.numbered h.0.values
  text_read (t ∷ texts) h (suc k) = text_read texts h.1 k
