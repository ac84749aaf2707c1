use Rattle.std.proofs.Common.{List, [], ℕ, sym}
use Rattle.restarts.proofs.Common.{Event, StandsFor, effects_of, legal_allowed, open_is}
use Rattle.restarts.specs.Dump.{dump, rebuilt}
use Rattle.restarts.specs.Restart.{CanRestart}
use Rattle.restarts.proofs.Alike.{committed_begun, map_same, none_lives, stream_same}
use Rattle.restarts.proofs.Crashing.{crash_stands}
use Rattle.restarts.proofs.Foreseeing.{dump_accepted, run_is}
use Rattle.restarts.proofs.GoingOnAlike.{go_on_alike}
use Rattle.restarts.proofs.InRange.{has_mark}
use Rattle.restarts.proofs.Rebuilding.{AllBelow, left_kept, rebuilt_stands}
use Rattle.restarts.proofs.law.law_of_restarts.Goals as goal

below : (h : List Event) (m : ℕ) → CanRestart h m → AllBelow (effects_of h) m
below h m can = record { in_range = can.in_range; closed = can.closed; committed = λ t is. can.begun t (committed_begun (effects_of h) (legal_allowed h can.legal) t is) }

stands : (h : List Event) (m : ℕ) → CanRestart h m → StandsFor (left_kept (effects_of h) m) (rebuilt h m)
stands h m can = rebuilt_stands (effects_of h) m (legal_allowed h can.legal) (below h m can)

pub returns-clause-marks : goal.returns-clause-marks
returns-clause-marks c = has_mark

pub returns-clause-rebuilds : goal.returns-clause-rebuilds
returns-clause-rebuilds c = λ h m can. (stands h m can).legal

pub returns-clause-foreseen : goal.returns-clause-foreseen
returns-clause-foreseen c = λ h m can. run_is [] (dump (effects_of h) m) (dump_accepted (effects_of h) m) (stands h m can).legal

pub returns-clause-crashes : goal.returns-clause-crashes
returns-clause-crashes c = λ h m can. (crash_stands h m can).legal

pub returns-clause-closed : goal.returns-clause-closed
returns-clause-closed c = λ h m can. sym (stands h m can).fits.closed_at

pub returns-clause-horizon : goal.returns-clause-horizon
returns-clause-horizon c = λ h m can. sym (stands h m can).fits.horizon_at

pub returns-clause-decided : goal.returns-clause-decided
returns-clause-decided c = λ h m can t. let s = stands h m can in sym (open_is (left_kept (effects_of h) m) (effects_of (rebuilt h m)) (legal_allowed (rebuilt h m) s.legal) s.fits t)

pub returns-clause-no_feed : goal.returns-clause-no_feed
returns-clause-no_feed c = λ h m can. let s = stands h m can in none_lives (effects_of h) (effects_of (rebuilt h m)) m (legal_allowed (rebuilt h m) s.legal) s.fits

pub returns-clause-no_protection : goal.returns-clause-no_protection
returns-clause-no_protection c = λ h m can. sym (stands h m can).fits.protected

pub returns-clause-maps : goal.returns-clause-maps
returns-clause-maps c = λ h m can t x high. let s = stands h m can in map_same (effects_of h) (effects_of (rebuilt h m)) m (legal_allowed (rebuilt h m) s.legal) s.fits t x high

pub returns-clause-streams : goal.returns-clause-streams
returns-clause-streams c = λ h m can span cursor t high. let s = stands h m can in stream_same (effects_of h) (effects_of (rebuilt h m)) m (legal_allowed (rebuilt h m) s.legal) s.fits span cursor t high

pub returns-clause-goes_on : goal.returns-clause-goes_on
returns-clause-goes_on c = λ h m can es. go_on_alike h m (stands h m can) (crash_stands h m can) es
