use Rattle.std.proofs.Common.{◌≡◌, length, sym, arith}
use Rattle.json_lines.proofs.Common.{append-nil}
use Rattle.json_lines.proofs.Base64.{base64_empty}
use Rattle.json_lines.proofs.base64_text.put_last.Goals as goal

pub returns-in-empty-clause-ok : goal.returns-in-empty-clause-ok
returns-in-empty-clause-ok c =
    let none : length c.args.bytes.now ≡ 0 = omega arith in
    rw (base64_empty c.args.bytes.now none) (sym (append-nil c.args.out.now.items))
