-- Trees, test by test.
use Rattle.json_lines.proofs.Common.{IsUtf8, IsUtf8-from_is_utf8, common_steps, is_utf8-from_IsUtf8, members_len, ne_eqb}
use Rattle.std.proofs.Common.{arith, ◌≡◌, ◌≢◌, ℕ, Bool, cond, List, Option, Some, None, Result, Ok, Err, ap, ◌∙◌}
use Rattle.std.specs.Prelude.{ok_or, ◌==◌}
use Rattle.serde_json.specs.Data.{Data, Members}
use Rattle.serde_json.specs.Read.{read}
use Rattle.serde_json.specs.Find.{as_object}
use Rattle.serde_json.proofs.Views.{members_len-members_view}
use Rattle.json_lines.specs.declared.fault.MessageFault.{MessageFault}
use Rattle.json_lines.specs.declared.fault.MessageFault.TheVariants.{NotJson, Shape}
use Rattle.json_lines.specs.Meaning.{Texts, ◌>>=◌}
use Rattle.json_lines.specs.Tests.{tree_of, texts_in, resolved_in, row_in}

-- UTF-8 that is read
pub tree_good : (line : List ℕ) (d : Data) → IsUtf8 line → read line ≡ Some d → tree_of line ≡ Ok d
unfolding tree_of
tree_good line d utf8 e = ap (λ (b : Bool). cond b (ok_or (read line) NotJson) (Err NotJson)) (is_utf8-from_IsUtf8 line utf8) ∙ ap (λ (o : Option Data). ok_or o NotJson) e

-- no UTF-8, or none that is read
pub tree_bad : (line : List ℕ) → (IsUtf8 line → read line ≡ None) → tree_of line ≡ Err NotJson
unfolding tree_of
tree_bad line none = grind (arith, common_steps, IsUtf8-from_is_utf8)

abbrev by_count : Data → ℕ → Result Texts MessageFault
by_count tree n = cond (n == 1) (resolved_in tree) (cond (n == 3) (row_in tree) (Err Shape))

-- an object goes by how many members it has
pub texts_by_count : (tree : Data) (ms : Members) (n : ℕ) → as_object tree ≡ Some ms → members_len ms ≡ n → texts_in tree ≡ by_count tree n
unfolding texts_in
texts_by_count tree ms n e count = grind (arith, common_steps)

pub texts_none : (tree : Data) → as_object tree ≡ None → texts_in tree ≡ Err Shape
unfolding texts_in
texts_none tree e = ap (λ (o : Option Members). ok_or o Shape >>= λ m. by_count tree (members_len m)) e

pub texts_other : (tree : Data) (ms : Members) (n : ℕ) → as_object tree ≡ Some ms → members_len ms ≡ n → n ≢ 1 → n ≢ 3 → texts_in tree ≡ Err Shape
texts_other tree ms n e count one three = grind (arith, common_steps, texts_by_count tree ms n e count, ne_eqb n 1 one, ne_eqb n 3 three)

pub ruleset counted = (texts_by_count, texts_none, texts_other, members_len-members_view)
