use Rattle.std.proofs.Common.{◌≡◌, ◌∙◌, ℕ, if◌then◌else◌, Some, is_some, refl, sym, ap}
use Rattle.mg_names.specs.declared.identifiers.TermId.TheVariants.{Eph}
use Rattle.mg_model.specs.Board.{exists}
use Rattle.mg_model.specs.Messages.{Request}
use Rattle.requests.specs.Connected.{Connected, board_in, has_line, start_in}
use Rattle.gateway.specs.Calls.{call_entry, with_call, keeping, creating}
use Rattle.gateway.specs.Creators.{creator_at, any_created}
use Rattle.gateway.specs.Execution.{IsNoted}
use Rattle.gateway.specs.GatewayValue.{GatewayValue, is_open}
use Rattle.gateway.proofs.CreatorLemmas.{new_ones}
use Rattle.gateway.proofs.NoteLemmas.{lines_stay_through}
use Rattle.gateway.proofs.TieLemmas.{changed_twice, tied_still, settled_line, settled_ephemeral, put_is}
use Rattle.gateway.proofs.gateway.Gateway.put.Goals as goal

pub note_creators-requires-clause-new : goal.note_creators-requires-clause-new
note_creators-requires-clause-new c k made =
    let run = c.requires.runs in
    let request : Request = c.args.request.now in
    new_ones request.number c.args.chosen (start_in c.args.self.now.connected) request.commands _ run.failure run.is_end.runs refl k (rw c.results.ensures at made)

pub note_creators-requires-clause-open : goal.note_creators-requires-clause-open
unfolding is_open
note_creators-requires-clause-open c = ap is_some c.requires.new.is_state

-- the gateway as it was before what was created was noted, with that
was : (c : goal.After-keep) → (record { association = c.self.inside.association.0; connected = c.self.inside.connections; holders = c.self.inside.holders.entries; calls = c.self.inside.calls.entries; creators = c.self.inside.creators.entries })
    ≡ (record c.args.self.now { calls = c.note_creators.new.self.calls; creators = c.note_creators.new.self.creators })
was c = c.self.view_is ∙ (rw c.in-Ok.is at c.note_creators.ensures.noted).rest

pub invariant_of-self : goal.invariant_of-self
invariant_of-self c =
    let run = c.requires.runs in
    let ends = run.is_end in
    let request : Request = c.args.request.now in
    tied_still (record { association = c.self.inside.association.0; connected = c.self.inside.connections; holders = c.self.inside.holders.entries; calls = c.self.inside.calls.entries; creators = c.self.inside.creators.entries })
    _ _ _ refl refl refl (λ s. refl) (λ s. refl) (λ s. refl)
    (λ l. ap (λ (x : Connected). has_line (board_in x) l) c.change_places.ensures
    ∙ settled_line ends.board (board_in c.args.ended.connections) ends.is_settled l
    ∙ lines_stay_through request.number c.args.chosen (start_in c.args.self.now.connected) 0 request.commands _ run.failure ends.runs l
    ∙ ap (λ (w : GatewayValue). has_line (board_in w.connected) l) (sym (was c)))
    c.keep.ensures
    (λ k. ap (λ (x : Connected). (board_in x).used_ephemeral k) c.change_places.ensures ∙ settled_ephemeral ends.board (board_in c.args.ended.connections) ends.is_settled k
    ∙ ap (λ (x : Connected). exists (board_in x) (Eph k)) (sym c.change_places.ensures))
    c.self.invariant

pub returns : goal.returns
returns c =
    let old : GatewayValue = c.args.self.now in
    let request : Request = c.args.request.now in
    let noted : IsNoted request.call c.results.result.now old c.note_creators.new.self = rw c.in-Ok.is at c.note_creators.ensures.noted in
    let before = was c in
    let same : c.self.inside.connections ≡ old.connected = ap (λ (w : GatewayValue). w.connected) before in
    put_is old _ request c.args.chosen c.args.last c.args.ended.connections c.args.ended.reply c.args.ended.kept c.args.ended.notes.items c.args.ended.last
    (λ k. ap (λ (x : Connected). (board_in x).used_ephemeral k) (sym same) ∙ c.self.invariant.settled k ∙ ap (λ (x : Connected). exists (board_in x) (Eph k)) same) c.requires.new c.requires.runs
    (record {
      association = ap (λ (w : GatewayValue). w.association) before;
      connected = c.change_places.ensures;
      holders = ap (λ (w : GatewayValue). w.holders) before;
      created = noted.created;
      calls = λ n. c.keep.ensures n ∙ ap (λ (m : ℕ). with_call (call_entry c.self.inside.calls.entries) m (keeping c.args.ended.kept c.args.ended.last) n) c.call.ensures
          ∙ ap (λ (w : GatewayValue). with_call (call_entry w.calls) request.call (keeping c.args.ended.kept c.args.ended.last) n) before
          ∙ changed_twice (call_entry old.calls) (call_entry c.note_creators.new.self.calls) request.call (creating noted.created) (keeping c.args.ended.kept c.args.ended.last) noted.calls n;
      creators = λ k. ap (λ (w : GatewayValue). creator_at w.creators k) before ∙ noted.creators k ∙ ap (λ ds. if any_created ds k then Some request.call else creator_at old.creators k) c.results.ensures;
    })
