-- Allowed deeds keep what the guide promises.
use Rattle.spans.proofs.Common.{common_steps, eqb-true}
use Rattle.std.proofs.Common.{rules, ◌≡◌, ℕ, ◌+◌, ◌≤◌, List, [], ◌∷◌, ◌++◌, length, Some, refl, sym, ◌∙◌, subst, inl, inr, arith}
use Rattle.spans.specs.declared.calls.events.Event.{Event}
use Rattle.spans.specs.Legal.{IsLegal}
use Rattle.spans.specs.Effects.{effects_of, After, Effect, Reads, Scans, Protects, Releases}
use Rattle.spans.specs.Transactions.{closed_of}
use Rattle.spans.specs.Versions.{write_of, visible}
use Rattle.spans.specs.Collection.{Protection, protections_of, versions_of, is_dead, dead_of}
use Rattle.spans.specs.Promises.{ReadsOwn, HasRisen, MapsStand, Stands, ProtectionsHold, IsHorizonHeld, left_versions, AreVersionsCounted}
use Rattle.spans.proofs.Steps.{by_test}
use Rattle.spans.proofs.Keyed.{among_rows}
use Rattle.spans.proofs.Copies.{IsActive, AllAllowed, closed_grows}
use Rattle.spans.proofs.Legal.{legal_allowed}
use Rattle.spans.proofs.Listing.{map_stays}
use Rattle.spans.proofs.Members.{Has, all_of, has_filter, parted}
use Rattle.spans.proofs.VersionNames.{versions_distinct}
use Rattle.spans.proofs.Horizon.{horizon_low, horizon_grows, protections_high}
use Rattle.spans.proofs.FeedFloors.{floors_high, live_floor_high}

-- of a key that it wrote an open transaction sees what it wrote last
sees_own : (p : List Effect) (x : List ℕ) (t : ℕ) (a : After) → IsActive p t → write_of p t x ≡ Some a → (visible p x t).after ≡ a
sees_own p x t a here wrote = grind (arith, common_steps)

pub reads_own : (p : List Effect) → AllAllowed p → ReadsOwn p
reads_own [] all = tt
reads_own (Reads t x v ∷ p) all = (λ a wrote. all.0.2 ∙ sees_own p x t a all.0.0 wrote, reads_own p all.1)
reads_own (Scans t span rows ∷ p) all = (
  λ x a inside wrote. among_rows span (λ y. (visible p y t).after) rows all.0.2 x inside
      ∙ sees_own p x t a all.0.0 wrote,
  reads_own p all.1,
)
reads_own (_ ∷ p) all = reads_own p all.1

pub has_risen : (p : List Effect) → AllAllowed p → HasRisen p
has_risen [] all = tt
has_risen (d ∷ p) all = (record { closed = closed_grows p d all.0; horizon = horizon_grows p d all.0 }, has_risen p all.1)

-- closed is at least where it was, and each map up to there is what it was
stands_for_ever : (later h : List Event) → IsLegal (later ++ h)
    → (closed_of (effects_of h) ≤ closed_of (effects_of (later ++ h))) × MapsStand (effects_of (later ++ h)) (effects_of h)
stands_for_ever [] h legal = (omega arith, λ t low. refl)
stands_for_ever (e ∷ later) h legal =
    let before = stands_for_ever later h legal.1 in
    let allowed = (legal_allowed (e ∷ later ++ h) legal).0 in
    grind (arith, common_steps, closed_grows, map_stays)

pub maps_stand : (later h : List Event) → IsLegal (later ++ h) → MapsStand (effects_of (later ++ h)) (effects_of h)
maps_stand later h legal = (stands_for_ever later h legal).1

abbrev protection : ℕ → ℕ → Protection
protection id t = record { id = id; at = t }

-- a protection that isn't released is one of those that stand
stands_listed : (after before : List Effect) (id t : ℕ) → Stands id after → Has (protection id t) (protections_of (after ++ Protects id t ∷ before))
stands_listed [] before id t stands = inl refl
stands_listed (Protects n m ∷ after) before id t stands = inr (stands_listed after before id t stands)
stands_listed (Releases n ∷ after) before id t stands = grind (arith, common_steps, by_test, eqb-true, has_filter, stands_listed after before id t stands.1)
stands_listed (_ ∷ after) before id t stands = stands_listed after before id t stands

protections_hold : (p : List Effect) → AllAllowed p → ProtectionsHold p
protections_hold p all = λ after before id t is stands. protections_high p all (protection id t) (subst (λ q. Has (protection id t) (protections_of q)) (sym is) (stands_listed after before id t stands))

pub horizon_held : (p : List Effect) → AllAllowed p → IsHorizonHeld p
horizon_held p all = search (horizon_low, all_of, protections_high, live_floor_high, protections_hold, floors_high, rules, arith)

pub versions_counted : (p : List Effect) → AllAllowed p → AreVersionsCounted p
versions_counted p all =
    let both : length (versions_of p) ≡ length (left_versions p) + length (dead_of p) = parted (is_dead p) (versions_of p) in
    grind (arith, common_steps, versions_distinct)
