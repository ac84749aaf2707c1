use Rattle.std.proofs.Common.{inl}
use Rattle.engine.specs.Layers.{feeds_of}
use Rattle.engine.proofs.Replies.{alone, rules_answer}
use Rattle.engine.proofs.layers.Layers.step.Goals as goal

pub returns-in-Begin : goal.returns-in-Begin
returns-in-Begin c = rules_answer c.args.self.now c.begin.new.self c.args.seat c.args.cmd.now _ c.begin.result c.in-Begin.is c.begin.ensures.step

pub returns-in-Get : goal.returns-in-Get
returns-in-Get c = rules_answer c.args.self.now c.get.new.self c.args.seat c.args.cmd.now _ c.get.result c.in-Get.is c.get.ensures.step

pub returns-in-Scan : goal.returns-in-Scan
returns-in-Scan c = rules_answer c.args.self.now c.scan.new.self c.args.seat c.args.cmd.now _ c.scan.result c.in-Scan.is c.scan.ensures.step

pub returns-in-Put : goal.returns-in-Put
returns-in-Put c = rules_answer c.args.self.now c.write.new.self c.args.seat c.args.cmd.now _ c.write.result c.in-Put.is c.write.ensures.step

pub returns-in-Del : goal.returns-in-Del
returns-in-Del c = rules_answer c.args.self.now c.write-in-Del.new.self c.args.seat c.args.cmd.now _ c.write-in-Del.result c.in-Del.is c.write-in-Del.ensures.step

pub returns-in-Commit : goal.returns-in-Commit
returns-in-Commit c = rules_answer c.args.self.now c.commit.new.self c.args.seat c.args.cmd.now _ c.commit.result c.in-Commit.is c.commit.ensures.step

pub returns-in-Abort : goal.returns-in-Abort
returns-in-Abort c = rules_answer c.args.self.now c.abort.new.self c.args.seat c.args.cmd.now _ c.abort.result c.in-Abort.is c.abort.ensures.step

pub returns-in-Close : goal.returns-in-Close
returns-in-Close c = rules_answer c.args.self.now c.close.new.self c.args.seat c.args.cmd.now _ c.close.result c.in-Close.is (c.close.ensures.step c.args.seat)

pub returns-in-CloseHard : goal.returns-in-CloseHard
returns-in-CloseHard c = rules_answer c.args.self.now c.close_hard.new.self c.args.seat c.args.cmd.now _ c.close_hard.result c.in-CloseHard.is (c.close_hard.ensures.step c.args.seat)

pub returns-in-ReadAt : goal.returns-in-ReadAt
returns-in-ReadAt c = rules_answer c.args.self.now c.args.self.now.rules c.args.seat c.args.cmd.now _ c.read_at.result c.in-ReadAt.is (c.read_at.ensures.step c.args.seat)

pub returns-in-ScanAt : goal.returns-in-ScanAt
returns-in-ScanAt c = rules_answer c.args.self.now c.args.self.now.rules c.args.seat c.args.cmd.now _ c.scan_at.result c.in-ScanAt.is (c.scan_at.ensures.step c.args.seat)

pub returns-in-Protect : goal.returns-in-Protect
returns-in-Protect c = rules_answer c.args.self.now c.protect.new.self c.args.seat c.args.cmd.now _ c.protect.result c.in-Protect.is (c.protect.ensures.step c.args.seat)

pub returns-in-Release : goal.returns-in-Release
returns-in-Release c = rules_answer c.args.self.now c.release.new.self c.args.seat c.args.cmd.now _ c.release.result c.in-Release.is (c.release.ensures.step c.args.seat)

pub returns-in-Collect : goal.returns-in-Collect
returns-in-Collect c = let e = c.args.self.now in
    alone e c.collect.new.self c.args.seat c.args.cmd.now _ c.collect.result c.in-Collect.is (inl (c.collect.ensures.answered c.args.seat (feeds_of e.feeds) c.least_floor.ensures))
