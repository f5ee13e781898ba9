-- The promise over runs: openings are sound, every event keeps a world sound, and sound worlds are good.
use Rattle.mg_safety.proofs.Words.{ℕ, List, [], ◌∷◌, sym, subst, Script, CallEvent, Event, OfCall, Restart, replied, noted, line_places, World, IsCovered}
use Rattle.mg_safety.proofs.Words.{AgentSteps, OccursTo, Occurs, IsScript, AddLine, AddEphemeral, ModifyLine, ModifyEphemeral, MoveLine, MoveEphemeral}
use Rattle.mg_safety.proofs.Words.{Subtract, SubtractAll, SetTopology}
use Rattle.mg_model.specs.declared.events.CallEvent.TheVariants as to_call
use Rattle.mg_model.specs.World.{Runs}
use Rattle.mg_safety.proofs.Invariant.Sound.{Listed}
use Rattle.mg_safety.proofs.InvariantWords.{IsSound, IsClosed, KeepsSound}
use Rattle.mg_safety.specs.Headline.{EveryRunIsGood, EveryRunOfOneCallIsGood}
use Rattle.mg_safety.proofs.Commands.AddEphemeral.{add_ephemeral_carried}
use Rattle.mg_safety.proofs.Commands.AddLine.{add_line_carried}
use Rattle.mg_safety.proofs.Commands.Modify.{modify_ephemeral_carried, modify_line_carried}
use Rattle.mg_safety.proofs.Commands.Move.{move_ephemeral_carried, move_line_carried}
use Rattle.mg_safety.proofs.Commands.SubtractCarried.{subtract_carried, subtract_all_carried}
use Rattle.mg_safety.proofs.Commands.TopologyCarried.{topology_carried}
use Rattle.mg_safety.proofs.Agents.AgentSound.{pass_sound, timer_sound}
use Rattle.mg_safety.proofs.Certificate.Closed.{closed}
use Rattle.mg_safety.proofs.Events.BeginSound.{begin_sound}
use Rattle.mg_safety.proofs.Events.ExecuteSound.{execute_sound}
use Rattle.mg_safety.proofs.Events.ExecutedCalls.{OtherLost}
use Rattle.mg_safety.proofs.GoodWorlds.Good.{sound_good}
use Rattle.mg_safety.proofs.Agents.HearSound.{hear_sound}
use Rattle.mg_safety.proofs.Events.LineEventsSound.{line_sound}
use Rattle.mg_safety.proofs.Agents.NoteSound.{note_sound}
use Rattle.mg_safety.proofs.Events.Openings.{openings_sound}
use Rattle.mg_safety.proofs.Events.Others.{others_stay, owners_agree, other_lost}
use Rattle.mg_safety.proofs.Agents.ReplySound.{reply_sound}
use Rattle.mg_safety.proofs.Events.Restarts.{restart_sound}
use Rattle.mg_safety.proofs.Requests.Run.{CommandsCarry, requests_run}

pub commands_carry : CommandsCarry
commands_carry (AddLine create j i o) = add_line_carried create j i o
commands_carry (AddEphemeral create j k o) = add_ephemeral_carried create j k o
commands_carry (ModifyLine place i o) = modify_line_carried place i o
commands_carry (ModifyEphemeral place k o) = modify_ephemeral_carried place k o
commands_carry (MoveLine j i o) = move_line_carried j i o
commands_carry (MoveEphemeral j k o) = move_ephemeral_carried j k o
commands_carry (Subtract j t) = subtract_carried j t
commands_carry (SubtractAll j) = subtract_all_carried j
commands_carry (SetTopology j t u topology) = topology_carried j t u topology

others_lost : OtherLost
others_lost script g end after call b lost change differ association held lines link =
    other_lost script g end after b call lost change differ association held lines link

call_sound : (call : ℕ) (happens : CallEvent) → KeepsSound (λ script w after. OccursTo script w call happens after)
call_sound call (to_call.OnLine line event) script Among is_script closes w after sound occurs =
    line_sound line.0 event script Among is_script closes w after sound occurs.1
call_sound call (to_call.Execute number chosen) script Among is_script closes w after sound (request, of_call, executes) =
    execute_sound (requests_run commands_carry) others_stay owners_agree others_lost request chosen script Among is_script closes w after sound
    (of_call.0, executes)
call_sound call (to_call.Reply number) script Among is_script closes w after sound (answer, of_call, steps) =
    reply_sound answer script Among is_script closes w after sound
    (of_call.0, subst (λ (c : ℕ). AgentSteps w c (λ a. replied script a answer) after) (sym of_call.1) steps)
call_sound call to_call.Pass script Among is_script closes w after sound occurs = pass_sound call script Among is_script closes w after sound occurs
call_sound call (to_call.Note number) script Among is_script closes w after sound (sent, of_call, steps) =
    note_sound sent script Among is_script closes w after sound
    (of_call.0, subst (λ (c : ℕ). AgentSteps w c (λ a. noted script a (line_places script) sent) after) (sym of_call.1) steps)
call_sound call (to_call.Begin old) script Among is_script closes w after sound occurs =
    begin_sound call old.0 script Among is_script closes w after sound occurs
call_sound call to_call.Timer script Among is_script closes w after sound occurs = timer_sound call script Among is_script closes w after sound occurs
call_sound call (to_call.Hear association) script Among is_script closes w after sound occurs =
    hear_sound call association.0 script Among is_script closes w after sound occurs

event_sound : (event : Event) → KeepsSound (λ script w after. Occurs script w event after)
event_sound (OfCall call happens) = call_sound call.0 happens
event_sound Restart = restart_sound

pub runs_sound : (script : Script) (Among : Listed) → IsScript script → IsClosed script Among → (events : List Event) (w end : World)
    → IsSound script Among w → Runs script events w end → IsSound script Among end
unfolding Runs
runs_sound script Among is_script closes [] w end sound runs = subst (IsSound script Among) (sym runs) sound
runs_sound script Among is_script closes (event ∷ more) w end sound runs =
    runs_sound script Among is_script closes more runs.0 end
    (event_sound event script Among is_script closes w runs.0 sound runs.1.0) runs.1.1

pub every_run : EveryRunIsGood
every_run script entries is_script listed none_broken calls events opening end opens runs =
    let closes = closed script entries is_script listed none_broken in
    sound_good script (IsCovered entries) is_script closes end
    (runs_sound script (IsCovered entries) is_script closes events opening end (openings_sound script (IsCovered entries) is_script closes calls opening opens) runs)

pub every_run_of_one : EveryRunOfOneCallIsGood
every_run_of_one script entries is_script listed none_broken call = every_run script entries is_script listed none_broken (call ∷ [])
