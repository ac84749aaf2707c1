use Rattle.std.proofs.Common.{◌≡◌, ◌∙◌, ◌<◌, ◌≤◌, ◌-◌, ◌++◌, false, take, drop, length, sym, ap, arith, rules, List, ℕ}
use Rattle.std.specs.Prelude.{◌==◌}
use Rattle.sessions.proofs.Common.{eqb-false, length-take-le}
use Rattle.sessions.specs.Devices.{Reads}
use Rattle.sessions.specs.Waiting.{waiting}
use Rattle.sessions.proofs.Blocks.{grown}
use Rattle.sessions.proofs.lines.Lines.read_more.Goals as goal

-- a read that isn't the end gave a byte
some_given : (n : ℕ) (bytes : List ℕ) → n ≤ length bytes → (n == 0) ≡ false → 0 < length (take n bytes)
some_given n bytes few some = let other = eqb-false n 0 some in let size = length-take-le n bytes few in omega arith

pub returns-clause-read : goal.returns-clause-read
returns-clause-read g c = let l = c.move_to_front.new.self in let xs = c.deref_mut.result.now in let m = c.move_to_front.ensures in
    let within : l.end ≤ length xs = search rules in
    let s = c.in_ok-count.ensures in
    let n = c.in_ok-count.count in
    let same : take (l.end - l.start) (drop l.start xs) ≡ waiting l = ap (λ (ys : List ℕ). take (l.end - l.start) (drop l.start ys)) c.deref_mut.ensures.value in
    record {
      got = take n c.read.new.block;
      gave = ap (λ (r : Reads). r.given) s.given;
      waits = grown l.start l.end n l.block.len xs c.read.new.block _ _ m.front within s.count (search rules) ∙ ap (λ (ys : List ℕ). ys ++ take n c.read.new.block) (same ∙ m.waits);
      found = ap (λ (k : ℕ). k == 0) (sym (length-take-le n c.read.new.block s.count)) ∙ sym (ap (λ (r : Reads). r.ended) s.given);
      some = some_given n c.read.new.block s.count;
      format = m.format;
      worked = ap (λ (r : Reads). r.failures) s.given;
    }
