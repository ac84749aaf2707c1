use Rattle.std.proofs.Common.{◌≡◌, ◌++◌, length}
use Rattle.json_lines.specs.Messages.{base64, Keeps}
use Rattle.json_lines.proofs.base64_text.put_base64.Given as goal

abbrev pub invariant-loop-rest : goal.invariant-loop-rest
invariant-loop-rest l = record {
  keeps : Keeps l.fn.out.items l.out.items;
  so_far : l.out.items ++ base64 l.rest ≡ l.fn.out.items ++ base64 l.bytes;
}

abbrev pub decreases-loop-rest : goal.decreases-loop-rest
decreases-loop-rest l = length l.rest
