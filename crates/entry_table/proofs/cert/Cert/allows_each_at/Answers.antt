-- The entry is looked up at its place.
use Rattle.std.proofs.Common.{◌∙◌, sym}
use Rattle.std.proofs.lemmas.Bool.{true≢false}
use Rattle.entry_table.proofs.WithAllLemmas.{allows_here, found_at, none_past}
use Rattle.entry_table.proofs.cert.Cert.allows_each_at.Goals as goal

pub returns-in-Some : goal.returns-in-Some
returns-in-Some c =
    let entries = c.args.self.now in
    let entry = c.in-Some.entry.now in
    let look = c.in-Some.ensures.lookup in
    let at = found_at c.entries.result.now entries c.args.place entry c.entries.ensures look.0 look.1 in (
      λ yes. (entry, (at, (sym c.state.ensures ∙ c.if-state.true, c.allows_each.ensures.0 yes))),
      λ allows. c.allows_each.ensures.1 (allows_here entries c.args.state c.args.configs.now c.args.place entry at allows),
    )

pub returns-in-None : goal.returns-in-None
returns-in-None c = (
  λ bad. absurd (true≢false (sym bad)),
  λ allows. absurd (none_past c.entries.result.now c.args.self.now c.args.place allows.0 c.entries.ensures c.in-None.ensures.lookup.0 allows.1.0),
)
