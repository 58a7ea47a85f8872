-- One token of look-ahead tells what to read.
use Rattle.std.proofs.Common.{◌≡◌, ℕ, zero, suc, true, refl}
use Rattle.ll_grammar.specs.LookAhead.{passes, IsLL1, IsRoot}
use Rattle.ll_grammar.specs.Grammar.{sub}
use Rattle.m2_base.specs.declared.trees.declarations.StreamKind.{StreamKind}
use Rattle.m2_base.specs.declared.trees.declarations.StreamKind.TheVariants.{Main, Definition, Procedure}
use Rattle.m2_base.specs.Grammar.{grammar, main, stream}

pub is_ll1 : IsLL1 grammar
is_ll1 = record { rules = rules; ends = refl }
  where
    rules : (n : ℕ) → passes grammar n ≡ true
    rules zero = refl
    rules (suc zero) = refl
    rules (suc (suc zero)) = refl
    rules (suc (suc (suc zero))) = refl
    rules (suc (suc (suc (suc zero)))) = refl
    rules (suc (suc (suc (suc (suc n))))) = refl

-- the grammars of the streams
pub stream_is_root : (kind : StreamKind) → IsRoot grammar (stream kind)
stream_is_root Main = refl
stream_is_root Definition = refl
stream_is_root Procedure = refl

-- the grammars of the unsplit texts
pub main_is_root : IsRoot grammar (main sub)
main_is_root = refl
