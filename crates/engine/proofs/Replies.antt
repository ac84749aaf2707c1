-- The replies of commands that the rules answer.
use Rattle.std.proofs.Common.{subst, sym, ℕ, ◌≡◌}
use Rattle.engine.proofs.Common.{Cmd, IsStep, Reply, Steps, holding}
use Rattle.mvto_rules.specs.declared.rules.Rules.{Rules}
use Rattle.engine.specs.Layers.{feeds_of, kept_of}
use Rattle.engine.specs.declared.layers.Layers.{Layers}

-- the feeds stay as they were
pub alone : (e : Layers) (r : Rules) (seat : ℕ) (cmd cmd' : Cmd) (reply : Reply) → cmd ≡ cmd' → IsStep (kept_of e) (holding (feeds_of e.feeds) r) seat cmd' reply → IsStep (kept_of e) (kept_of (record e { rules = r })) seat cmd reply
alone e r seat cmd cmd' reply same step = subst (λ d. IsStep (kept_of e) (kept_of (record e { rules = r })) seat d reply) (sym same) step

-- whatever the feeds are
pub rules_answer : (e : Layers) (r : Rules) (seat : ℕ) (cmd cmd' : Cmd) (reply : Reply) → cmd ≡ cmd' → Steps e.rules r seat cmd' reply → IsStep (kept_of e) (kept_of (record e { rules = r })) seat cmd reply
rules_answer e r seat cmd cmd' reply same steps = alone e r seat cmd cmd' reply same (steps (feeds_of e.feeds))
