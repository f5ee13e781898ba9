-- The phase of a call that its shard shows is that of the report.
use Rattle.std.proofs.Common.{◌≡◌, ◌∙◌, ◌==◌, ℕ, Bool, true, false, List, if◌then◌else◌, refl, sym, ap}
use Rattle.mg_model.specs.Agent.{Phase, awaits_reply, awaits_pass, resting, is_resting}
use Rattle.mg_model.specs.Reports.{phase_word}
use Rattle.mg_model.specs.Script.{Script}
use Rattle.mg_model.specs.Tables.{state_of}
use Rattle.mg_model.specs.World.{World}
use Rattle.agent.specs.CallValue.{rests, waits, has_ended}
use Rattle.gateway.specs.GatewayValue.{gateway_of}
use Rattle.run_shards.specs.Shards.{IsWorldOf, ShardValue}
use Rattle.run_shards.specs.Standings.{StandsAs}
use Rattle.run_shards.specs.Standing.{Standing}
use Rattle.run_shards.specs.ReportLines.{phase_in, phase_standing, phase_text}

word_is : (test is_end : Bool) (phase : Phase)
    → phase_text (phase_in test (if is_resting phase then (if is_end then has_ended else rests) else waits)) ≡ phase_word test is_end phase
word_is false is_end phase = refl
word_is true is_end (awaits_reply request) = refl
word_is true is_end awaits_pass = refl
word_is true true resting = refl
word_is true false resting = refl

-- the word for a call of an association, in a gateway's
abbrev word_with : Script → (own current : ℕ) → (at_rest : Bool) → (state : ℕ) → List ℕ
word_with script own current at_rest state =
    phase_text (phase_in (own == current) (if at_rest then (if (state_of script state).is_end then has_ended else rests) else waits))

-- the word for a standing is that for the agent that stands so, in whatever world the shard shows
pub standing_word : (script : Script) (v : ShardValue) (w : World) (number association : ℕ) (s : Standing) → IsWorldOf v w → (stands : StandsAs w number s)
    → association ≡ v.gateway.association → phase_text (phase_standing script s association)
    ≡ phase_word (stands.agent.association == w.gateway.association) (state_of script stands.agent.state).is_end stands.agent.phase
unfolding gateway_of
standing_word script v w number association s is stands now =
    ap (λ (n : ℕ). word_with script n association s.is_resting s.state) stands.association
    ∙ ap (λ (n : ℕ). word_with script stands.agent.association n s.is_resting s.state) shown
    ∙ ap (λ (at_rest : Bool). word_with script stands.agent.association w.gateway.association at_rest s.state) stands.at_rest
    ∙ ap (λ (n : ℕ). word_with script stands.agent.association w.gateway.association (is_resting stands.agent.phase) n) stands.state
    ∙ word_is (stands.agent.association == w.gateway.association) (state_of script stands.agent.state).is_end stands.agent.phase
  where
    shown : association ≡ w.gateway.association
    shown = now ∙ sym (ap (λ g. g.association) is.shows.gateway)
