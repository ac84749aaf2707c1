-- What the keys that a scan found say after one more.
use Rattle.std.proofs.Common.{◌≡◌, ℕ, cond, List, Some, arith}
use Rattle.std.specs.Prelude.{bytes_eq}
use Rattle.plain_database.proofs.Common.{common_steps, is_at, is_eq-slice_cmp, key_cmp, lookup}
use Rattle.plain_database.specs.Table.{source_found}

-- the sources after one was taken in
pub found_put : (es fs : List (List ℕ × ℕ)) (x z : List ℕ) (t : ℕ) → z ≡ x → ((q : List ℕ) → lookup (is_at (key_cmp q)) fs ≡ cond (is_at (key_cmp z) q) (Some t) (lookup (is_at (key_cmp q)) es)) → (y : List ℕ) → source_found fs y ≡ cond (bytes_eq x y) t (source_found es y)
found_put es fs x z t same put y = grind (arith, common_steps, put, is_eq-slice_cmp)
