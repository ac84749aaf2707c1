use Rattle.std.proofs.Common.{arith}
use Rattle.std.proofs.lemmas.Grind.{common_steps}
use Rattle.json_lines.proofs.Writing.{keeping}
use Rattle.json_lines.proofs.Base64.{base64_step}
use Rattle.json_lines.proofs.base64_text.put_base64.Goals as goal

pub loop-rest-preserved : goal.loop-rest-preserved
loop-rest-preserved c = record {
  keeps = grind (arith, common_steps, keeping);
  so_far = rw c.in_ok-extend_from_slice.ensures.items (base64_step c.loop-rest.out.items c.loop-rest.rest.now c.split_at.result.0.now c.split_at.result.1.now c.symbols_of_three-text.result _ c.loop-rest-test.true c.split_at.ensures.front c.split_at.ensures.back c.symbols_of_three-text.ensures c.loop-rest.invariant.so_far);
}
