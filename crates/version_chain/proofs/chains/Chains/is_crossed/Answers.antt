use Rattle.std.proofs.Common.{Some, None, sym, ◌≡◌, ◌∙◌}
use Rattle.version_chain.proofs.Common.{IsOwn, number_in}
use Rattle.version_chain.proofs.Recorded.{IsHere, crossed_here, told_nowhere}
use Rattle.version_chain.proofs.chains.Chains.is_crossed.Goals as goal

pub returns-in-None : goal.returns-in-None
returns-in-None c = let m = c.args.self.now in
    told_nowhere m.keys m.records.items m.spans m.forgotten c.args.key.now c.args.t c.latest.result c.max.result (sym c.requires.number ∙ c.in-None.is) c.latest.ensures c.max.ensures

pub returns-in-Some : goal.returns-in-Some
returns-in-Some c = let m = c.args.self.now in
    let number : number_in m.keys c.args.key.now ≡ Some c.in-Some.number = sym c.requires.number ∙ c.in-Some.is in
    let own : IsOwn m.keys c.args.key.now c.in-Some.number = rw c.in-Some.is at c.requires.own in
    let here : IsHere m.keys m.records.items c.args.key.now c.in-Some.number c.index.result.now = record { number = number; own = own; low = m.low c.args.key.now c.in-Some.number number; value = c.index.ensures } in
    crossed_here m.keys m.records.items m.spans m.forgotten c.args.key.now c.in-Some.number c.index.result.now c.args.t c.is_crossed.result here c.is_crossed.ensures
