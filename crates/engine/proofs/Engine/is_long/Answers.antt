use Rattle.std.proofs.Common.{ap, sym, ◌∙◌}
use Rattle.engine.proofs.Common.{effects_of, is_some}
use Rattle.std.specs.Prelude.{◌&&◌}
use Rattle.engine.specs.Layers.{feeds_of, kept_of}
use Rattle.engine.specs.Room.{most_rows, scan_end}
use Rattle.engine.proofs.TooLong.{ends_long, readable_is, usable_is}
use Rattle.engine.proofs.Engine.is_long.Goals as goal

pub returns-then-is_usable-clause-long : goal.returns-then-is_usable-clause-long
returns-then-is_usable-clause-long c = λ h stands. let e = c.args.self.now.layers in
    let past = usable_is (kept_of e) (effects_of h) stands.kept.fits c.args.seat c.in-Scan.ts c.is_usable.result (c.is_usable.ensures (feeds_of e.feeds)) in
    rw c.in-Scan.is (c.is_some.ensures ∙ ends_long _ c.scan_end.result _ (sym c.if-is_usable.true ∙ past) (c.scan_end.ensures h stands))

pub returns-else-is_usable-clause-long : goal.returns-else-is_usable-clause-long
returns-else-is_usable-clause-long c = λ h stands. let e = c.args.self.now.layers in
    let past = usable_is (kept_of e) (effects_of h) stands.kept.fits c.args.seat c.in-Scan.ts c.is_usable.result (c.is_usable.ensures (feeds_of e.feeds)) in
    rw c.in-Scan.is (c.if-is_usable.false ∙ ap (λ b. b && is_some (scan_end (effects_of h) c.in-Scan.ts c.in-Scan.span most_rows c.args.most)) (sym c.if-is_usable.false ∙ past))

pub returns-then-is_readable-clause-long : goal.returns-then-is_readable-clause-long
returns-then-is_readable-clause-long c = λ h stands. let e = c.args.self.now.layers in
    let past = readable_is (kept_of e) (effects_of h) stands.kept.fits c.in-ScanAt.t c.is_readable.result (c.is_readable.ensures (feeds_of e.feeds)) in
    rw c.in-ScanAt.is (c.is_some-then-is_readable.ensures ∙ ends_long _ c.scan_end-then-is_readable.result _ (sym c.if-is_readable.true ∙ past) (c.scan_end-then-is_readable.ensures h stands))

pub returns-else-is_readable-clause-long : goal.returns-else-is_readable-clause-long
returns-else-is_readable-clause-long c = λ h stands. let e = c.args.self.now.layers in
    let past = readable_is (kept_of e) (effects_of h) stands.kept.fits c.in-ScanAt.t c.is_readable.result (c.is_readable.ensures (feeds_of e.feeds)) in
    rw c.in-ScanAt.is (c.if-is_readable.false ∙ ap (λ b. b && is_some (scan_end (effects_of h) c.in-ScanAt.t c.in-ScanAt.span most_rows c.args.most)) (sym c.if-is_readable.false ∙ past))
