use Rattle.std.proofs.Common.{List, ◌∷◌, ◌++◌, ℕ, ◌≤◌, ◌≡◌, sym, ◌∙◌, subst, arith}
use Rattle.restarts.proofs.Common.{After, AllAllowed, IsLegal, StandsFor, effects_of, horizon_of, legal_allowed}
use Rattle.spans.specs.Serial.{map_at}
use Rattle.restarts.proofs.Alike.{map_same, stream_same}
use Rattle.restarts.proofs.Rebuilding.{left_kept}
use Rattle.journals.specs.Batches.{AreInOrder, BeginsWith, Noted, did, events_of, kept_part}
use Rattle.journals.specs.Law.{beginning}
use Rattle.journals.specs.Lives.{AreLives, CanCrash, Life, copied, noted, there}
use Rattle.journals.specs.OneHistory.{GoesOnAsSurvivors, survivors}
use Rattle.journals.proofs.GoingOn.{alike, goes_as, survivors_can}
use Rattle.journals.proofs.OneHistory.{one}
use Rattle.journals.proofs.Recovering.{go_on}
use Rattle.journals.proofs.Parting.{can_restart, kept_begins, kept_told, legal_begins, ordered_before}
use Rattle.journals.proofs.Reading.{found_rests, read_there, snapshot_rests, snapshot_there}
use Rattle.journals.proofs.Living.{lived}
use Rattle.journals.proofs.Wholes.{one_history}
use Rattle.journals.proofs.law.law_of_journals.Goals as goal

stands : (l : Life) (ls : List Life) → AreLives (l ∷ ls) → StandsFor (left_kept (effects_of (beginning (noted l ls) l.kept)) l.mark) (there l ls)
stands l ls are = (lived l ls are).recovered'.stands

pub returns-clause-begins : goal.returns-clause-begins
returns-clause-begins c = λ l ls are. kept_begins l.kept (noted l ls)

pub returns-clause-told : goal.returns-clause-told
returns-clause-told c = λ l ls are. kept_told (noted l ls) l.kept

pub returns-clause-legal : goal.returns-clause-legal
returns-clause-legal c = λ l ls are. (stands l ls are).legal

pub returns-clause-foreseen : goal.returns-clause-foreseen
returns-clause-foreseen c = λ l ls are. let life = lived l ls are in life.recovered'.foreseen (copied (l ∷ ls)).0 (copied (l ∷ ls)).1 life.next.right

pub returns-clause-closed : goal.returns-clause-closed
returns-clause-closed c = λ l ls are. sym (stands l ls are).fits.closed_at

pub returns-clause-horizon : goal.returns-clause-horizon
returns-clause-horizon c = λ l ls are. sym (stands l ls are).fits.horizon_at

pub returns-clause-maps : goal.returns-clause-maps
returns-clause-maps c = λ l ls are t x high. let s = stands l ls are in map_same (effects_of (beginning (noted l ls) l.kept)) (effects_of (there l ls)) l.mark (legal_allowed (there l ls) s.legal) s.fits t x high

pub returns-clause-streams : goal.returns-clause-streams
returns-clause-streams c = λ l ls are span cursor t high. let s = stands l ls are in stream_same (effects_of (beginning (noted l ls) l.kept)) (effects_of (there l ls)) l.mark (legal_allowed (there l ls) s.legal) s.fits span cursor t high

pub returns-clause-goes_on : goal.returns-clause-goes_on
returns-clause-goes_on c = λ l ls are es. go_on (beginning (noted l ls) l.kept) (there l ls) l.mark (stands l ls are) (can_restart (noted l ls) l.kept l.mark are.0) es

-- a told value is in the map that is there
told_there : (l : Life) (ls : List Life) → AreLives (l ∷ ls) → (t : ℕ) (x : List ℕ) (v : After) → horizon_of (effects_of (beginning (noted l ls) l.kept)) ≤ t → map_at (did (kept_part l.kept (noted l ls))) t x ≡ v → map_at (effects_of (there l ls)) t x ≡ v
told_there l ls are t x v high is = let s = stands l ls are in map_same (effects_of (beginning (noted l ls) l.kept)) (effects_of (there l ls)) l.mark (legal_allowed (there l ls) s.legal) s.fits t x high ∙ is

allowed_now : (ns : List Noted) (n : Noted) (old : List Noted) (m : ℕ) → CanCrash ns m → (b : BeginsWith ns (n ∷ old)) → AllAllowed (did (b.0 ++ n ∷ old)) × AllAllowed (did (n ∷ old))
allowed_now ns n old m can b =
    let legal : IsLegal (events_of (b.0 ++ n ∷ old)) = subst (λ ws. IsLegal (events_of ws)) b.1 can.legal in
    (legal_allowed (events_of (b.0 ++ n ∷ old)) legal, legal_allowed (events_of (n ∷ old)) (legal_begins b.0 (n ∷ old) legal))

pub returns-clause-reads : goal.returns-clause-reads
returns-clause-reads c = λ l ls are n old t x v b f low high.
    let all = allowed_now (noted l ls) n old l.mark are.0 b in
    let ordered : AreInOrder (n ∷ old) = ordered_before b.0 (n ∷ old) (subst AreInOrder b.1 are.0.ordered) in
    told_there l ls are t x v high (subst (λ ws. map_at (did (kept_part l.kept ws)) t x ≡ v) (sym b.1) (read_there b.0 old n l.kept t x v all.0 all.1 f (omega (arith, low, found_rests n old ordered.1 t x v f))))

pub returns-clause-snapshots : goal.returns-clause-snapshots
returns-clause-snapshots c = λ l ls are n old t x v b f low high.
    let all = allowed_now (noted l ls) n old l.mark are.0 b in
    let ordered : AreInOrder (n ∷ old) = ordered_before b.0 (n ∷ old) (subst AreInOrder b.1 are.0.ordered) in
    told_there l ls are t x v high (subst (λ ws. map_at (did (kept_part l.kept ws)) t x ≡ v) (sym b.1) (snapshot_there b.0 old n l.kept t x v all.0 all.1 f (omega (arith, low, snapshot_rests n old ordered.1 t x v f))))

pub returns-clause-survivors : goal.returns-clause-survivors
returns-clause-survivors c = λ l ls are. (one l.kept (noted l ls) are.0.ordered are.0.legal).legal

goes : (l : Life) (ls : List Life) → AreLives (l ∷ ls) → GoesOnAsSurvivors (noted l ls) l.kept l.mark (there l ls)
goes l ls are es = goes_as (beginning (noted l ls) l.kept) (survivors l.kept (noted l ls)) (there l ls) l.mark (alike l.kept (noted l ls) are.0.ordered are.0.legal) (stands l ls are) (survivors_can (noted l ls) l.kept l.mark are.0) es

pub returns-clause-goes_on_as_one : goal.returns-clause-goes_on_as_one
returns-clause-goes_on_as_one c = λ l ls are. goes l ls are

pub returns-clause-one_history : goal.returns-clause-one_history
returns-clause-one_history c = λ l ls are. one_history goes l ls are
