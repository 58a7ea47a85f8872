-- The test of the index's keys is the definition's.
use Rattle.std.proofs.Common.{◌≡◌, ℕ, refl}
use Rattle.std.specs.HashMap.{HashMap, get, get_by}
use Rattle.m2_base.specs.Keys.{is_same_key}
use Rattle.m2_base.specs.contracts.rows.RowKeyPartialEq.TheImpl.{eq-value}
use Rattle.m2_base.specs.declared.rows.RowKey.{RowKey}
use Rattle.m2_base.specs.declared.rows.RowKey.TheVariants.{Name, Member}

pub same_key : (x y : RowKey) → eq-value.it x y ≡ is_same_key x y
same_key (Name x) (Name y) = refl
same_key (Name x) (Member q y) = refl
same_key (Member p x) (Name y) = refl
same_key (Member p x) (Member q y) = refl

-- so what stands under a key is the same by either
pub get-same_key : {S : Type 0} (index : HashMap RowKey ℕ S) (key : RowKey) → get eq-value.it index key ≡ get is_same_key index key
get-same_key index key = λ i. get_by (λ x. same_key key x i) index
