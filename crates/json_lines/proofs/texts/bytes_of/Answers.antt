use Rattle.json_lines.proofs.Meanings.{bytes_bad}
use Rattle.json_lines.proofs.texts.bytes_of.Goals as goal

pub returns-in-Err-DecodeError-clause-exact : goal.returns-in-Err-DecodeError-clause-exact
returns-in-Err-DecodeError-clause-exact c = λ _. bytes_bad c.args.text.now c.in-Err-DecodeError.field-0-0 (rw c.in-Err-DecodeError.field-0-is at c.in-Err-DecodeError.ensures.err)
