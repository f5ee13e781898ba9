-- Changes of configurations by which each component goes its way by itself: what they make of a hull is in the hull of what they make of each.
use Rattle.std.proofs.Common.{◌≡◌, ◌∙◌, ◌||◌, ℕ, ◌==◌, ◌&&◌, Bool, false, if◌then◌else◌, List, map, refl, sym, ap}
use Rattle.std.specs.Prelude.{unwrap_or}
use Rattle.mg_names.specs.declared.context_values.ContextValue.{ContextValue}
use Rattle.mg_names.specs.declared.modes.Mode.{Mode}
use Rattle.mg_names.specs.declared.modes.Mode.TheVariants.{Inactive}
use Rattle.mg_names.specs.declared.phases.LinkPhase.{LinkPhase}
use Rattle.mg_model.specs.declared.commands.EphemeralOptions.{EphemeralOptions}
use Rattle.mg_model.specs.declared.commands.EventsName.{EventsName}
use Rattle.mg_model.specs.declared.commands.EventsName.TheVariants.{Empty}
use Rattle.mg_model.specs.declared.commands.LineOptions.{LineOptions}
use Rattle.mg_model.specs.declared.commands.Termination.{Termination}
use Rattle.mg_model.specs.declared.commands.Termination.TheVariants.{Line, Ephemeral}
use Rattle.mg_model.specs.declared.components.Remote.{Remote}
use Rattle.mg_model.specs.declared.components.Spot.{Spot}
use Rattle.mg_model.specs.Configuration.{Configuration, is_same, value_of, with_of}
use Rattle.mg_model.specs.Effects.{plays_after, remote_after, remote_set, spot_after, with_ephemeral_options, with_line_options, with_pair, without_cuts_of, without_terminations}
use Rattle.mg_model.specs.Script.{Script}
use Rattle.mg_model.specs.Updates.{with_at}
use Rattle.closure.specs.Hulls.{HasOne, IsInHull}
use Rattle.closure.specs.Placing.{valued_at}
use Rattle.closure.proofs.HullLemmas.{contains_map, of_one_number, of_one_termination}

-- what is made of a component is made of that component alone
pub record IsByComponent (f : Configuration → Configuration) : Type 0 where
  pub state : (d e : Configuration) → d.state ≡ e.state → (f d).state ≡ (f e).state
  pub link : (d e : Configuration) → d.link ≡ e.link → (f d).link ≡ (f e).link
  pub spot : (t : Termination) (d e : Configuration) → d.spot t ≡ e.spot t → (f d).spot t ≡ (f e).spot t
  pub mode : (t : Termination) (d e : Configuration) → d.mode t ≡ e.mode t → (f d).mode t ≡ (f e).mode t
  pub events : (i : ℕ) (d e : Configuration) → d.events i ≡ e.events i → (f d).events i ≡ (f e).events i
  pub plays : (i : ℕ) (d e : Configuration) → d.plays i ≡ e.plays i → (f d).plays i ≡ (f e).plays i
  pub context : (j : ℕ) (d e : Configuration) → d.context j ≡ e.context j → (f d).context j ≡ (f e).context j
  pub remote : (k : ℕ) (d e : Configuration) → d.remote k ≡ e.remote k → (f d).remote k ≡ (f e).remote k
  pub cut : (t u : Termination) (d e : Configuration) → d.cut t u ≡ e.cut t u → (f d).cut t u ≡ (f e).cut t u

module _ (some : List Configuration) (f : Configuration → Configuration) (c : Configuration) where
  one_by : {A : Type 0} (of : Configuration → A) → ((d e : Configuration) → of d ≡ of e → of (f d) ≡ of (f e)) → HasOne some of (of c)
      → HasOne (map f some) of (of (f c))
  one_by of by one = (f one.0, (contains_map f some one.0 one.1.0, by one.0 c one.1.1))

  pub hull_by : IsByComponent f → IsInHull some c → IsInHull (map f some) (f c)
  hull_by by inside = record {
    state = one_by (λ d. d.state) by.state inside.state;
    link = one_by (λ d. d.link) by.link inside.link;
    spot = λ t. one_by (λ d. d.spot t) (by.spot t) (inside.spot t);
    mode = λ t. one_by (λ d. d.mode t) (by.mode t) (inside.mode t);
    events = λ i. one_by (λ d. d.events i) (by.events i) (inside.events i);
    plays = λ i. one_by (λ d. d.plays i) (by.plays i) (inside.plays i);
    context = λ j. one_by (λ d. d.context j) (by.context j) (inside.context j);
    remote = λ k. one_by (λ d. d.remote k) (by.remote k) (inside.remote k);
    cut = λ t u. one_by (λ d. d.cut t u) (by.cut t u) (inside.cut t u);
  }

-- ---- one after another

pub then_by : (f g : Configuration → Configuration) → IsByComponent f → IsByComponent g → IsByComponent (λ (d : Configuration). g (f d))
then_by f g first second = record {
  state = λ d e same. second.state (f d) (f e) (first.state d e same);
  link = λ d e same. second.link (f d) (f e) (first.link d e same);
  spot = λ t d e same. second.spot t (f d) (f e) (first.spot t d e same);
  mode = λ t d e same. second.mode t (f d) (f e) (first.mode t d e same);
  events = λ i d e same. second.events i (f d) (f e) (first.events i d e same);
  plays = λ i d e same. second.plays i (f d) (f e) (first.plays i d e same);
  context = λ j d e same. second.context j (f d) (f e) (first.context j d e same);
  remote = λ k d e same. second.remote k (f d) (f e) (first.remote k d e same);
  cut = λ t u d e same. second.cut t u (f d) (f e) (first.cut t u d e same);
}

-- ---- the changes that commands and steps are made of

-- nothing
pub unchanged : IsByComponent (λ (d : Configuration). d)
unchanged = record {
  state = λ d e same. same;
  link = λ d e same. same;
  spot = λ t d e same. same;
  mode = λ t d e same. same;
  events = λ i d e same. same;
  plays = λ i d e same. same;
  context = λ j d e same. same;
  remote = λ k d e same. same;
  cut = λ t u d e same. same;
}

pub linked_by : (link : LinkPhase) → IsByComponent (λ (d : Configuration). record d { link = link })
linked_by link = record {
  state = λ d e same. same;
  link = λ d e same. refl;
  spot = λ t d e same. same;
  mode = λ t d e same. same;
  events = λ i d e same. same;
  plays = λ i d e same. same;
  context = λ j d e same. same;
  remote = λ k d e same. same;
  cut = λ t u d e same. same;
}

pub entered_by : (state : ℕ) (link : LinkPhase) → IsByComponent (λ (d : Configuration). record d { state = state; link = link })
entered_by state link = record {
  state = λ d e same. refl;
  link = λ d e same. refl;
  spot = λ t d e same. same;
  mode = λ t d e same. same;
  events = λ i d e same. same;
  plays = λ i d e same. same;
  context = λ j d e same. same;
  remote = λ k d e same. same;
  cut = λ t u d e same. same;
}

-- a termination is put somewhere, and a context name stands for something
pub placed_by : (t : Termination) (spot : Spot) (j : ℕ) (value : ContextValue)
    → IsByComponent (λ (d : Configuration). record d { spot = with_of d.spot t spot; context = with_at d.context j value })
placed_by t spot j value = record {
  state = λ d e same. same;
  link = λ d e same. same;
  spot = λ u d e same. ap (λ (v : Spot). if is_same u t then spot else v) same;
  mode = λ u d e same. same;
  events = λ i d e same. same;
  plays = λ i d e same. same;
  context = λ n d e same. ap (λ (v : ContextValue). if n == j then value else v) same;
  remote = λ k d e same. same;
  cut = λ u v d e same. same;
}

-- a context name alone
pub named_by : (j : ℕ) (value : ContextValue) → IsByComponent (λ (d : Configuration). record d { context = with_at d.context j value })
named_by j value = record {
  state = λ d e same. same;
  link = λ d e same. same;
  spot = λ u d e same. same;
  mode = λ u d e same. same;
  events = λ i d e same. same;
  plays = λ i d e same. same;
  context = λ n d e same. ap (λ (v : ContextValue). if n == j then value else v) same;
  remote = λ k d e same. same;
  cut = λ u v d e same. same;
}

-- a context name stands for what exists or not
pub valued_by : (j : ℕ) (exists : Bool) → IsByComponent (valued_at j exists)
valued_by j exists = record {
  state = λ d e same. same;
  link = λ d e same. same;
  spot = λ u d e same. same;
  mode = λ u d e same. same;
  events = λ i d e same. same;
  plays = λ i d e same. same;
  context = λ n d e same. of_one_number d.context (λ v. value_of v exists) j n
      ∙ ap (λ (v : ContextValue). if n == j then value_of v exists else v) same ∙ sym (of_one_number e.context (λ v. value_of v exists) j n);
  remote = λ k d e same. same;
  cut = λ u v d e same. same;
}

-- the options of a line
pub line_by : (script : Script) (i : ℕ) (options : LineOptions) → IsByComponent (λ (d : Configuration). with_line_options script d i options)
line_by script i options =
    let mode : Mode → Mode = λ v. unwrap_or options.mode v in
    let list : EventsName → EventsName = λ v. unwrap_or options.events v in
    let plays : Bool → Bool = plays_after script options.signals in
    record {
      state = λ d e same. same;
      link = λ d e same. same;
      spot = λ t d e same. same;
      mode = λ t d e same. of_one_termination d.mode mode (Line i) t ∙ ap (λ (v : Mode). if is_same t (Line i) then mode v else v) same
          ∙ sym (of_one_termination e.mode mode (Line i) t);
      events = λ n d e same. of_one_number d.events list i n ∙ ap (λ (v : EventsName). if n == i then list v else v) same ∙ sym (of_one_number e.events list i n);
      plays = λ n d e same. of_one_number d.plays plays i n ∙ ap (λ (v : Bool). if n == i then plays v else v) same ∙ sym (of_one_number e.plays plays i n);
      context = λ j d e same. same;
      remote = λ k d e same. same;
      cut = λ t u d e same. same;
    }

-- the options of an ephemeral
pub ephemeral_by : (k : ℕ) (options : EphemeralOptions) → IsByComponent (λ (d : Configuration). with_ephemeral_options d k options)
ephemeral_by k options =
    let mode : Mode → Mode = λ v. unwrap_or options.mode v in
    let remote : Remote → Remote = remote_set options.remote in
    record {
      state = λ d e same. same;
      link = λ d e same. same;
      spot = λ t d e same. same;
      mode = λ t d e same. of_one_termination d.mode mode (Ephemeral k) t ∙ ap (λ (v : Mode). if is_same t (Ephemeral k) then mode v else v) same
          ∙ sym (of_one_termination e.mode mode (Ephemeral k) t);
      events = λ n d e same. same;
      plays = λ n d e same. same;
      context = λ j d e same. same;
      remote = λ n d e same. of_one_number d.remote remote k n ∙ ap (λ (v : Remote). if n == k then remote v else v) same
          ∙ sym (of_one_number e.remote remote k n);
      cut = λ t u d e same. same;
    }

-- what was set for pairs of some terminations is forgotten
pub uncut_by : (leaves : Termination → Bool) → IsByComponent (λ (d : Configuration). record d { cut = without_cuts_of leaves d.cut })
uncut_by leaves = record {
  state = λ d e same. same;
  link = λ d e same. same;
  spot = λ t d e same. same;
  mode = λ t d e same. same;
  events = λ i d e same. same;
  plays = λ i d e same. same;
  context = λ j d e same. same;
  remote = λ k d e same. same;
  cut = λ t u d e same. ap (λ (v : Bool). if leaves t || leaves u then false else v) same;
}

-- a pair is cut or not
pub pair_by : (t u : Termination) (value : Bool) → IsByComponent (λ (d : Configuration). record d { cut = with_pair d.cut t u value })
pair_by t u value = record {
  state = λ d e same. same;
  link = λ d e same. same;
  spot = λ x d e same. same;
  mode = λ x d e same. same;
  events = λ i d e same. same;
  plays = λ i d e same. same;
  context = λ j d e same. same;
  remote = λ k d e same. same;
  cut = λ x y d e same. ap (λ (v : Bool). if is_same x t && is_same y u then value else v) same;
}

-- terminations are subtracted, whoever they are
pub without_by : (leaves : Termination → Bool) → IsByComponent (λ (d : Configuration). without_terminations d leaves)
without_by leaves = record {
  state = λ d e same. same;
  link = λ d e same. same;
  spot = λ t d e same. ap (λ (v : Spot). if leaves t then spot_after t else v) same;
  mode = λ t d e same. ap (λ (v : Mode). if leaves t then Inactive else v) same;
  events = λ i d e same. ap (λ (v : EventsName). if leaves (Line i) then Empty else v) same;
  plays = λ i d e same. ap (λ (v : Bool). if leaves (Line i) then false else v) same;
  context = λ j d e same. same;
  remote = λ k d e same. ap (remote_after leaves k) same;
  cut = λ t u d e same. ap (λ (v : Bool). if leaves t || leaves u then false else v) same;
}
