use Rattle.std.proofs.Common.{◌∙◌, ◌&&◌, ap, subst}
use Rattle.version_chain.proofs.Common.{RisingKeys, filter, in_span, keys_of}
use Rattle.version_chain.specs.Stores.{Entry, Stored, has_versions}
use Rattle.version_chain.proofs.store.Store.in_span.Goals as goal

pub returns-clause-found : goal.returns-clause-found
returns-clause-found c = c.in_span.ensures.those ∙ ap (λ (s : Stored). filter (λ (e : Entry). in_span c.args.span.now e.0 && has_versions e.1) s.entries) c.self.view_is

pub returns-clause-ordered : goal.returns-clause-ordered
returns-clause-ordered c = subst (λ (s : Stored). RisingKeys (keys_of s.entries)) c.self.view_is c.in_span.ensures.ordered
