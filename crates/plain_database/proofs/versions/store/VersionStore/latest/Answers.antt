use Rattle.std.proofs.Common.{ap, inl, inr, refl, arith, false, true, ◌≡◌, ℕ, ◌<◌, length, [], ◌∷◌}
use Rattle.std.specs.Prelude.{is_some}
use Rattle.std.proofs.lemmas.Map.Keys.{ge_from_not_lt}
use Rattle.plain_database.specs.Table.{AllBegun, begun_at}
use Rattle.plain_database.proofs.Opening.{latest_is}
use Rattle.plain_database.proofs.versions.store.VersionStore.latest.Goals as goal

one_there : (t : ℕ) (es : AllBegun) → is_some (begun_at es t) ≡ true → 0 < length es
one_there t [] is = cc
one_there t (e ∷ es) is = omega arith

pub returns-in-None : goal.returns-in-None
returns-in-None c = rw (← c.self.view_is, ← c.self-inside.view_is) (λ p all tied. latest_is _ p tied 0 (λ t is. absurd (let no : false ≡ true = c.in-None.ensures.variant.1 (one_there t _ is) in cc)) (inl refl))

pub returns-in-Some : goal.returns-in-Some
returns-in-Some c = rw (← c.self.view_is, ← c.self-inside.view_is, c.ts.view_is) (λ p all tied. latest_is _ p tied c.in-Some.ts.now (λ t is. ge_from_not_lt c.in-Some.ts.now t (c.in-Some.ensures.greatest t is)) (inr (ap is_some c.in-Some.ensures.value)))
