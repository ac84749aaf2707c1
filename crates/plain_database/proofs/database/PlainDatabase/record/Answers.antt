use Rattle.std.proofs.Common.{refl}
use Rattle.plain_database.proofs.Common.{Stats}
use Rattle.plain_database.proofs.Events.{stands_read_at, stands_scan_at, stands_still}
use Rattle.plain_database.proofs.database.PlainDatabase.record.Goals as goal

pub returns-in_ok-record_begin-in-Begin-clause-ok : goal.returns-in_ok-record_begin-in-Begin-clause-ok
returns-in_ok-record_begin-in-Begin-clause-ok c = λ h n. rw c.in-Begin.is (c.in_ok-record_begin-in-Begin.ensures.ok h n)

pub returns-in_ok-record_get-in-Get-clause-ok : goal.returns-in_ok-record_get-in-Get-clause-ok
returns-in_ok-record_get-in-Get-clause-ok c = λ h n. rw c.in-Get.is (c.in_ok-record_get-in-Get.ensures.ok c.args.seat h n)

pub returns-in_ok-record_scan-in-Scan-clause-ok : goal.returns-in_ok-record_scan-in-Scan-clause-ok
returns-in_ok-record_scan-in-Scan-clause-ok c = λ h n. rw c.in-Scan.is (c.in_ok-record_scan-in-Scan.ensures.ok c.args.seat h n)

pub returns-in_ok-record_write-in-Put-clause-ok : goal.returns-in_ok-record_write-in-Put-clause-ok
returns-in_ok-record_write-in-Put-clause-ok c = λ h n. rw c.in-Put.is (c.in_ok-record_write-in-Put.ensures.ok c.args.seat h n)

pub returns-in_ok-record_write-in-Del-clause-ok : goal.returns-in_ok-record_write-in-Del-clause-ok
returns-in_ok-record_write-in-Del-clause-ok c = λ h n. rw c.in-Del.is (c.in_ok-record_write-in-Del.ensures.ok c.args.seat h n)

pub returns-in-Commit-clause-ok : goal.returns-in-Commit-clause-ok
returns-in-Commit-clause-ok c = λ h n. rw c.in-Commit.is (c.record_commit.ensures c.args.seat h n)

pub returns-in-Abort-clause-ok : goal.returns-in-Abort-clause-ok
returns-in-Abort-clause-ok c = λ h n. rw c.in-Abort.is (c.record_abort.ensures c.args.seat h n)

pub returns-in-Close-clause-ok : goal.returns-in-Close-clause-ok
returns-in-Close-clause-ok c = λ h n. rw c.in-Close.is (c.record_close.ensures.soft c.args.seat c.in-Close.to h n)

pub returns-in-CloseHard-clause-ok : goal.returns-in-CloseHard-clause-ok
returns-in-CloseHard-clause-ok c = λ h n. rw c.in-CloseHard.is (c.record_close-in-CloseHard.ensures.hard c.args.seat c.in-CloseHard.to h n)

pub returns-in-ReadAt-clause-ok : goal.returns-in-ReadAt-clause-ok
returns-in-ReadAt-clause-ok c = λ h n stands. rw c.in-ReadAt.is (stands_read_at c.args.self.now h n c.args.seat _ _ c.args.reply.now stands)

pub returns-in-ScanAt-clause-ok : goal.returns-in-ScanAt-clause-ok
returns-in-ScanAt-clause-ok c = λ h n stands. rw c.in-ScanAt.is (stands_scan_at c.args.self.now h n c.args.seat _ _ c.args.reply.now stands)

pub returns-in_ok-record_protect-in-Protect-clause-ok : goal.returns-in_ok-record_protect-in-Protect-clause-ok
returns-in_ok-record_protect-in-Protect-clause-ok c = λ h n. rw c.in-Protect.is (c.in_ok-record_protect-in-Protect.ensures.ok c.args.seat h n)

pub returns-in-Release-clause-ok : goal.returns-in-Release-clause-ok
returns-in-Release-clause-ok c = λ h n. rw c.in-Release.is (c.record_release.ensures c.args.seat h n)

pub returns-in_ok-record_open-in-Open-clause-ok : goal.returns-in_ok-record_open-in-Open-clause-ok
returns-in_ok-record_open-in-Open-clause-ok c = λ h n. rw c.in-Open.is (c.in_ok-record_open-in-Open.ensures.ok h n)

pub returns-in_ok-record_open-in-OpenInitial-clause-ok : goal.returns-in_ok-record_open-in-OpenInitial-clause-ok
returns-in_ok-record_open-in-OpenInitial-clause-ok c = λ h n. rw c.in-OpenInitial.is (c.in_ok-record_open-in-OpenInitial.ensures.ok h n)

pub returns-in_ok-record_open-in-OpenEvery-clause-ok : goal.returns-in_ok-record_open-in-OpenEvery-clause-ok
returns-in_ok-record_open-in-OpenEvery-clause-ok c = λ h n. rw c.in-OpenEvery.is (c.in_ok-record_open-in-OpenEvery.ensures.ok h n)

pub returns-in_ok-record_open-in-OpenInitialEvery-clause-ok : goal.returns-in_ok-record_open-in-OpenInitialEvery-clause-ok
returns-in_ok-record_open-in-OpenInitialEvery-clause-ok c = λ h n. rw c.in-OpenInitialEvery.is (c.in_ok-record_open-in-OpenInitialEvery.ensures.ok h n)

pub returns-in-Cancel-clause-ok : goal.returns-in-Cancel-clause-ok
returns-in-Cancel-clause-ok c = λ h n. rw c.in-Cancel.is (c.record_cancel.ensures c.args.seat h n)

pub returns-in-Collect-clause-ok : goal.returns-in-Collect-clause-ok
returns-in-Collect-clause-ok c = λ h n. rw c.in-Collect.is (c.record_collect.ensures c.args.seat h n)

pub returns-in_ok-record_poll-in-Poll-clause-ok : goal.returns-in_ok-record_poll-in-Poll-clause-ok
returns-in_ok-record_poll-in-Poll-clause-ok c = λ h n. rw c.in-Poll.is (c.in_ok-record_poll-in-Poll.ensures.ok c.args.seat c.in-Poll.max h n)

pub returns-in-Stats-clause-ok : goal.returns-in-Stats-clause-ok
returns-in-Stats-clause-ok c = λ h n. rw c.in-Stats.is (stands_still c.args.self.now h n c.args.seat Stats c.args.reply.now refl)
