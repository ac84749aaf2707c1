-- What the layers of an engine hold, as what is kept of a history, and how far they have come.
use Rattle.std.specs.Prelude.{List, length, ℕ, ◌≡◌, Option}
use Rattle.kept.specs.Places.{IsLeastFloor}
use Rattle.kept.specs.Finding.{IsOldest}
use Rattle.mvto_rules.specs.Holding.{horizon_of}
use Rattle.kept.specs.StandsFor as keeping
use Rattle.engine.specs.Prelude.{IsReachedIn, IsLimit, Event, Kept, Standing, holding, opened_in, place_in, closed_in, closing_of, transactions_of, Places}
use Rattle.engine.specs.declared.layers.Layers.{Layers}

-- what the feeds are, and nothing else
abbrev pub feeds_of : Standing → Kept
feeds_of s = record keeping.nothing_kept { feed = place_in s; feeds_opened = opened_in s }

-- each layer's part
abbrev pub kept_of : Layers → Kept
kept_of e = holding (feeds_of e.feeds) e.rules

-- the layers hold what is kept of a legal history of so many events
pub record StandsFor (e : Layers) (steps : ℕ) (h : List Event) : Type 0 where
  pub kept : keeping.StandsFor (kept_of e) h
  pub counted : steps ≡ length h

-- of some history
abbrev pub HasHistory : Layers → ℕ → Type 0
HasHistory e steps = (h : List Event) × StandsFor e steps h

-- how far the layers have come, by what each holds
pub record HavePlaces (e : Layers) (places : Places) : Type 0 where
  pub closed : places.closed ≡ closed_in (closing_of e.rules)
  pub horizon : places.horizon ≡ horizon_of e.rules
  pub limit : (floor : Option ℕ) × IsLeastFloor (place_in e.feeds) floor × IsLimit (closing_of e.rules) floor places.limit
  pub oldest : IsOldest (transactions_of e.rules) places.oldest
  pub reached : IsReachedIn (kept_of e) places.reached
