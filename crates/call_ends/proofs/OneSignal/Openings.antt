-- A script of which one signal alone is told is accepted as it was, and what is left of an opening is an opening of it.
use Rattle.std.proofs.Common.{Contains, List, None, Option, Some, ap, map, refl, ℕ, ◌∙◌, ◌≡◌}
use Rattle.std.specs.Prelude.{option_map}
use Rattle.mg_names.specs.declared.signals.Signal.{Signal}
use Rattle.mg_model.specs.declared.line_events.SignalSet.{SignalSet}
use Rattle.mg_model.specs.Accepted.{IsScript}
use Rattle.mg_model.specs.Agent.{Agent}
use Rattle.mg_model.specs.Script.{Script}
use Rattle.mg_model.specs.World.{IsLineOf, IsOpening, Opened, World, armed_line}
use Rattle.mg_model.proofs.Cases.{none_is_some}
use Rattle.call_ends.proofs.OneSignal.Lines.{row_alone}
use Rattle.call_ends.proofs.OneSignal.Messages.{agent_alone, request_alone}
use Rattle.call_ends.proofs.OneSignal.Sets.{alone_silent, script_alone}
use Rattle.call_ends.proofs.OneSignal.Worlds.{world_alone}

module _ (g : Signal) (script : Script) where
  -- the script of which the signal alone is told
  abbrev lone : Script
  lone = script_alone g script

  pub accepted_alone : IsScript script → IsScript lone
  accepted_alone is = record { lines = is.lines; ephemerals = is.ephemerals; contexts = is.contexts; states = is.states }

  module _ (calls : List Opened) (w : World) (opens : IsOpening script calls w) where
    line_of : (l call : ℕ) → IsLineOf script calls l call → IsLineOf lone calls l call
    line_of l call is = record { one = is.one; i = is.i; among = is.among; is_call = is.is_call; within = is.within; is_line = is.is_line }

    of_line : (l call : ℕ) → IsLineOf lone calls l call → IsLineOf script calls l call
    of_line l call is = record { one = is.one; i = is.i; among = is.among; is_call = is.is_call; within = is.within; is_line = is.is_line }

    no_other : (call : ℕ) (a : Agent) (o : Option Agent) → w.agent call ≡ o → option_map (agent_alone g) o ≡ Some a
        → (one : Opened) × Contains calls one × (one.call ≡ call)
    no_other call a None is e = absurd (none_is_some a e)
    no_other call a (Some b) is e = opens.agents.no_other call b is

    pub opening_alone : IsOpening lone calls (world_alone g w)
    opening_alone = record {
      distinct = record { calls_differ = opens.distinct.calls_differ; lines_differ = opens.distinct.lines_differ };
      lines = record {
        held = λ l call. let held = opens.lines.held l call in (λ h. line_of l call (held.0 h), λ is. held.1 (of_line l call is));
        stand = opens.lines.stand;
        armed = λ l call held.
            ap (row_alone g) (opens.lines.armed l call held)
            ∙ ap (λ (set : SignalSet). record armed_line { playing = set }) (alone_silent g);
        others_null = opens.lines.others_null;
      };
      gateway = record {
        association = opens.gateway.association;
        no_ephemeral = opens.gateway.no_ephemeral;
        nothing_cut = opens.gateway.nothing_cut;
        no_context_given = opens.gateway.no_context_given;
        no_ephemeral_given = opens.gateway.no_ephemeral_given;
        no_creator = opens.gateway.no_creator;
        no_reply_kept = opens.gateway.no_reply_kept;
        none_retired = opens.gateway.none_retired;
      };
      agents = record {
        opened = λ one among. ap (option_map (agent_alone g)) (opens.agents.opened one among);
        no_other = λ call a there. no_other call a (w.agent call) refl there;
      };
      messages = record {
        no_request = ap (map (request_alone g)) opens.messages.no_request;
        no_answer = opens.messages.no_answer;
        no_note = opens.messages.no_note;
      };
    }
