-- The component that an entry gives for a key lists the key's thing.
use Rattle.std.proofs.Common.{◌≡◌, ◌∙◌, Bool, true, Option, Some, None, refl, sym, ap}
use Rattle.std.specs.Prelude.{◌&&◌, IsTrue, option_map}
use Rattle.mg_model.specs.declared.commands.Termination.{Termination}
use Rattle.mg_model.specs.declared.commands.Termination.TheVariants.{Line, Ephemeral}
use Rattle.mg_model.specs.Accepted.{is_links, is_spots, is_modes, is_events, is_plays, is_contexts, is_remotes, is_cuts}
use Rattle.mg_model.specs.Configuration.{is_same}
use Rattle.mg_model.specs.Script.{Script}
use Rattle.mg_model.specs.Entries.{Component, links, spots, modes, events, plays, contexts, remotes, cuts}
use Rattle.mg_model.proofs.Cases.{none_is_some, the_some, same_itself}
use Rattle.mg_model.proofs.Terminations.{is_same_self}
use Rattle.certificate.specs.Components.{component_meant}
use Rattle.certificate.specs.Written as written
use Rattle.certificate.specs.declared.key.Key.{Key}
use Rattle.certificate.specs.declared.key.Key.TheVariants as key

-- the test that a component of a key passes
abbrev pub is_of : Key → Component → Bool
is_of key.Link component = is_links component
is_of (key.Spot t) component = is_spots t component
is_of (key.Mode t) component = is_modes t component
is_of (key.Events i) component = is_events i component
is_of (key.Plays i) component = is_plays i component
is_of (key.Context j) component = is_contexts j component
is_of (key.Remote k) component = is_remotes k component
is_of (key.Cut t u) component = is_cuts t u component

both_themselves : (t u : Termination) → (is_same t t && is_same u u) ≡ true
both_themselves t u = ap (λ b. b && is_same u u) (is_same_self t) ∙ is_same_self u

-- what each set makes passes, so what is made passes
made_passes : {A : Type 0} (make : A → Component) (test : Component → Bool) → ((values : A) → test (make values) ≡ true)
    → (o : Option A) (component : Component) → option_map make o ≡ Some component → test component ≡ true
made_passes make test each None component e = absurd (none_is_some component e)
made_passes make test each (Some values) component e = sym (ap test (the_some (make values) component e)) ∙ each values

pub meant_passes : (script : Script) (entry : written.Entry) (k : Key) (component : Component) → component_meant script entry k ≡ Some component
    → IsTrue (is_of k component)
meant_passes script entry key.Link component e = made_passes links is_links (λ values. refl) _ component e
meant_passes script entry (key.Spot (Line i)) component e = made_passes (spots (Line i)) (is_spots (Line i)) (λ values. is_same_self (Line i)) _ component e
meant_passes script entry (key.Spot (Ephemeral k)) component e =
    made_passes (spots (Ephemeral k)) (is_spots (Ephemeral k)) (λ values. is_same_self (Ephemeral k)) _ component e
meant_passes script entry (key.Mode (Line i)) component e = made_passes (modes (Line i)) (is_modes (Line i)) (λ values. is_same_self (Line i)) _ component e
meant_passes script entry (key.Mode (Ephemeral k)) component e =
    made_passes (modes (Ephemeral k)) (is_modes (Ephemeral k)) (λ values. is_same_self (Ephemeral k)) _ component e
meant_passes script entry (key.Events i) component e = made_passes (events i) (is_events i) (λ values. same_itself i) _ component e
meant_passes script entry (key.Plays i) component e = made_passes (plays i) (is_plays i) (λ values. same_itself i) _ component e
meant_passes script entry (key.Context j) component e = made_passes (contexts j) (is_contexts j) (λ values. same_itself j) _ component e
meant_passes script entry (key.Remote k) component e = made_passes (remotes k) (is_remotes k) (λ values. same_itself k) _ component e
meant_passes script entry (key.Cut t u) component e = made_passes (cuts t u) (is_cuts t u) (λ values. both_themselves t u) _ component e
