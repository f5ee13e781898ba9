-- Choices of different components may be made in either order.
use Rattle.std.proofs.Common.{◌≡◌, ◌∙◌, ℕ, ◌+◌, ◌*◌, ◌==◌, zero, suc, Bool, true, false, ◌&&◌, if◌then◌else◌, List, [], ◌∷◌, map, refl, sym, ap}
use Rattle.std.proofs.Math.Path.{fun_ext}
use Rattle.std.proofs.lemmas.Bool.{and_parts, eqb-true}
use Rattle.std.specs.List.{slice_index_or}
use Rattle.mg_model.specs.declared.commands.Termination.{Termination}
use Rattle.mg_model.specs.declared.commands.Termination.TheVariants.{Line, Ephemeral}
use Rattle.mg_names.specs.declared.modes.Mode.{Mode}
use Rattle.mg_model.specs.declared.components.Spot.{Spot}
use Rattle.mg_model.specs.Configuration.{Configuration, is_same, with_of}
use Rattle.mg_model.specs.Updates.{with_at}
use Rattle.mg_model.specs.Effects.{with_pair}
use Rattle.mg_model.specs.Entries.{Component, Choice, links, spots, modes, events, plays, contexts, remotes, cuts, choices_of, same_choice, link_choice, spot_choice, mode_choice, events_choice, plays_choice, context_choice, remote_choice, cut_choice}
use Rattle.mg_model.proofs.Terminations.{is_same_is}
use Rattle.entry_table.specs.Numbers.{number_of, termination_number}

-- ---- two changes of a function, at different places

swap : {A : Type 0} (p q : Bool) (v w a : A) → (p ≡ true → q ≡ true → ⊥) → (if p then v else (if q then w else a)) ≡ (if q then w else (if p then v else a))
swap true true v w a apart = absurd (apart refl refl)
swap true false v w a apart = refl
swap false true v w a apart = refl
swap false false v w a apart = refl

at_swapped : {A : Type 0} (i j : ℕ) (v w : A) (f : ℕ → A) → (i ≡ j → ⊥) → with_at (with_at f j w) i v ≡ with_at (with_at f i v) j w
at_swapped i j v w f apart =
    fun_ext (λ k. swap (k == i) (k == j) v w (f k) (λ e g. apart (sym (eqb-true k i e) ∙ eqb-true k j g)))

of_swapped : {A : Type 0} (t u : Termination) (v w : A) (f : Termination → A) → (t ≡ u → ⊥) → with_of (with_of f u w) t v ≡ with_of (with_of f t v) u w
of_swapped t u v w f apart =
    fun_ext (λ x. swap (is_same x t) (is_same x u) v w (f x) (λ e g. apart (sym (is_same_is x t e) ∙ is_same_is x u g)))

pair_swapped : (t u t' u' : Termination) (v w : Bool) (f : Termination → Termination → Bool) → (t ≡ t' → u ≡ u' → ⊥)
    → with_pair (with_pair f t' u' w) t u v ≡ with_pair (with_pair f t u v) t' u' w
pair_swapped t u t' u' v w f apart =
    fun_ext (λ x. fun_ext (λ y. swap (is_same x t && is_same y u) (is_same x t' && is_same y u') v w (f x y)
    (λ e g. let one = and_parts (is_same x t) (is_same y u) e in let two = and_parts (is_same x t') (is_same y u') g in
    apart (sym (is_same_is x t one.0) ∙ is_same_is x t' two.0) (sym (is_same_is y u one.1) ∙ is_same_is y u' two.1))))

-- ---- components with different numbers are different

spots_number : (t : Termination) (vs ws : List Spot) → number_of (spots t vs) ≡ number_of (spots t ws)
spots_number (Line i) vs ws = refl
spots_number (Ephemeral k) vs ws = refl

spots_apart : (t u : Termination) (vs ws : List Spot) → (number_of (spots t vs) ≡ number_of (spots u ws) → ⊥) → t ≡ u → ⊥
spots_apart t u vs ws other e = other (spots_number t vs ws ∙ ap (λ (x : Termination). number_of (spots x ws)) e)

modes_number : (t : Termination) (vs ws : List Mode) → number_of (modes t vs) ≡ number_of (modes t ws)
modes_number (Line i) vs ws = refl
modes_number (Ephemeral k) vs ws = refl

modes_apart : (t u : Termination) (vs ws : List Mode) → (number_of (modes t vs) ≡ number_of (modes u ws) → ⊥) → t ≡ u → ⊥
modes_apart t u vs ws other e = other (modes_number t vs ws ∙ ap (λ (x : Termination). number_of (modes x ws)) e)

cuts_apart : (t u t' u' : Termination) (vs ws : List Bool) → (number_of (cuts t u vs) ≡ number_of (cuts t' u' ws) → ⊥) → t ≡ t' → u ≡ u' → ⊥
cuts_apart t u t' u' vs ws other e g =
    other (ap (λ (x : Termination). 33 + 8 * termination_number x + termination_number u) e ∙ ap (λ (x : Termination). 33 + 8 * termination_number t' + termination_number x) g)

-- ---- choices

-- what holds of each value's choice, and of no choice, holds of the choice at any place
at_map : {V : Type 0} (h : V → Choice) (P : Choice → Type 0) → P same_choice → ((v : V) → P (h v)) → (values : List V) (n : ℕ)
    → P (slice_index_or (map h values) n same_choice)
at_map h P none each [] n = none
at_map h P none each (v ∷ values) zero = each v
at_map h P none each (v ∷ values) (suc n) = at_map h P none each values n

-- the choice at a place
abbrev pub at_place : Component → ℕ → Choice
at_place component n = slice_index_or (choices_of component) n same_choice

both : {V W : Type 0} (h : V → Choice) (k : W → Choice) (vs : List V) (ws : List W) (n m : ℕ)
    → ((v : V) (w : W) (c : Configuration) → h v (k w c) ≡ k w (h v c)) → (c : Configuration)
    → slice_index_or (map h vs) n same_choice (slice_index_or (map k ws) m same_choice c) ≡ slice_index_or (map k ws) m same_choice (slice_index_or (map h vs) n same_choice c)
both h k vs ws n m each =
    at_map h (λ f. (c : Configuration) → f (slice_index_or (map k ws) m same_choice c) ≡ slice_index_or (map k ws) m same_choice (f c)) (λ c. refl)
    (λ v. at_map k (λ g. (c : Configuration) → h v (g c) ≡ g (h v c)) (λ c. refl) (λ w c. each v w c) ws m) vs n

pub commute : (a b : Component) → (number_of a ≡ number_of b → ⊥) → (n m : ℕ) (c : Configuration) → at_place a n (at_place b m c) ≡ at_place b m (at_place a n c)
commute (links vs1) (links vs2) other n m = absurd (other refl)
commute (links vs1) (spots t2 vs2) other n m = both link_choice (spot_choice t2) vs1 vs2 n m (λ v w c. refl)
commute (links vs1) (modes t2 vs2) other n m = both link_choice (mode_choice t2) vs1 vs2 n m (λ v w c. refl)
commute (links vs1) (events i2 vs2) other n m = both link_choice (events_choice i2) vs1 vs2 n m (λ v w c. refl)
commute (links vs1) (plays i2 vs2) other n m = both link_choice (plays_choice i2) vs1 vs2 n m (λ v w c. refl)
commute (links vs1) (contexts j2 vs2) other n m = both link_choice (context_choice j2) vs1 vs2 n m (λ v w c. refl)
commute (links vs1) (remotes k2 vs2) other n m = both link_choice (remote_choice k2) vs1 vs2 n m (λ v w c. refl)
commute (links vs1) (cuts t2 u2 vs2) other n m = both link_choice (cut_choice t2 u2) vs1 vs2 n m (λ v w c. refl)
commute (spots t1 vs1) (links vs2) other n m = both (spot_choice t1) link_choice vs1 vs2 n m (λ v w c. refl)
commute (spots t1 vs1) (spots t2 vs2) other n m = both (spot_choice t1) (spot_choice t2) vs1 vs2 n m (λ v w c. ap (λ f. record c { spot = f }) (of_swapped t1 t2 v w c.spot (spots_apart t1 t2 vs1 vs2 other)))
commute (spots t1 vs1) (modes t2 vs2) other n m = both (spot_choice t1) (mode_choice t2) vs1 vs2 n m (λ v w c. refl)
commute (spots t1 vs1) (events i2 vs2) other n m = both (spot_choice t1) (events_choice i2) vs1 vs2 n m (λ v w c. refl)
commute (spots t1 vs1) (plays i2 vs2) other n m = both (spot_choice t1) (plays_choice i2) vs1 vs2 n m (λ v w c. refl)
commute (spots t1 vs1) (contexts j2 vs2) other n m = both (spot_choice t1) (context_choice j2) vs1 vs2 n m (λ v w c. refl)
commute (spots t1 vs1) (remotes k2 vs2) other n m = both (spot_choice t1) (remote_choice k2) vs1 vs2 n m (λ v w c. refl)
commute (spots t1 vs1) (cuts t2 u2 vs2) other n m = both (spot_choice t1) (cut_choice t2 u2) vs1 vs2 n m (λ v w c. refl)
commute (modes t1 vs1) (links vs2) other n m = both (mode_choice t1) link_choice vs1 vs2 n m (λ v w c. refl)
commute (modes t1 vs1) (spots t2 vs2) other n m = both (mode_choice t1) (spot_choice t2) vs1 vs2 n m (λ v w c. refl)
commute (modes t1 vs1) (modes t2 vs2) other n m = both (mode_choice t1) (mode_choice t2) vs1 vs2 n m (λ v w c. ap (λ f. record c { mode = f }) (of_swapped t1 t2 v w c.mode (modes_apart t1 t2 vs1 vs2 other)))
commute (modes t1 vs1) (events i2 vs2) other n m = both (mode_choice t1) (events_choice i2) vs1 vs2 n m (λ v w c. refl)
commute (modes t1 vs1) (plays i2 vs2) other n m = both (mode_choice t1) (plays_choice i2) vs1 vs2 n m (λ v w c. refl)
commute (modes t1 vs1) (contexts j2 vs2) other n m = both (mode_choice t1) (context_choice j2) vs1 vs2 n m (λ v w c. refl)
commute (modes t1 vs1) (remotes k2 vs2) other n m = both (mode_choice t1) (remote_choice k2) vs1 vs2 n m (λ v w c. refl)
commute (modes t1 vs1) (cuts t2 u2 vs2) other n m = both (mode_choice t1) (cut_choice t2 u2) vs1 vs2 n m (λ v w c. refl)
commute (events i1 vs1) (links vs2) other n m = both (events_choice i1) link_choice vs1 vs2 n m (λ v w c. refl)
commute (events i1 vs1) (spots t2 vs2) other n m = both (events_choice i1) (spot_choice t2) vs1 vs2 n m (λ v w c. refl)
commute (events i1 vs1) (modes t2 vs2) other n m = both (events_choice i1) (mode_choice t2) vs1 vs2 n m (λ v w c. refl)
commute (events i1 vs1) (events i2 vs2) other n m = both (events_choice i1) (events_choice i2) vs1 vs2 n m (λ v w c. ap (λ f. record c { events = f }) (at_swapped i1 i2 v w c.events (λ e. other (ap (λ (x : ℕ). number_of (events x [])) e))))
commute (events i1 vs1) (plays i2 vs2) other n m = both (events_choice i1) (plays_choice i2) vs1 vs2 n m (λ v w c. refl)
commute (events i1 vs1) (contexts j2 vs2) other n m = both (events_choice i1) (context_choice j2) vs1 vs2 n m (λ v w c. refl)
commute (events i1 vs1) (remotes k2 vs2) other n m = both (events_choice i1) (remote_choice k2) vs1 vs2 n m (λ v w c. refl)
commute (events i1 vs1) (cuts t2 u2 vs2) other n m = both (events_choice i1) (cut_choice t2 u2) vs1 vs2 n m (λ v w c. refl)
commute (plays i1 vs1) (links vs2) other n m = both (plays_choice i1) link_choice vs1 vs2 n m (λ v w c. refl)
commute (plays i1 vs1) (spots t2 vs2) other n m = both (plays_choice i1) (spot_choice t2) vs1 vs2 n m (λ v w c. refl)
commute (plays i1 vs1) (modes t2 vs2) other n m = both (plays_choice i1) (mode_choice t2) vs1 vs2 n m (λ v w c. refl)
commute (plays i1 vs1) (events i2 vs2) other n m = both (plays_choice i1) (events_choice i2) vs1 vs2 n m (λ v w c. refl)
commute (plays i1 vs1) (plays i2 vs2) other n m = both (plays_choice i1) (plays_choice i2) vs1 vs2 n m (λ v w c. ap (λ f. record c { plays = f }) (at_swapped i1 i2 v w c.plays (λ e. other (ap (λ (x : ℕ). number_of (plays x [])) e))))
commute (plays i1 vs1) (contexts j2 vs2) other n m = both (plays_choice i1) (context_choice j2) vs1 vs2 n m (λ v w c. refl)
commute (plays i1 vs1) (remotes k2 vs2) other n m = both (plays_choice i1) (remote_choice k2) vs1 vs2 n m (λ v w c. refl)
commute (plays i1 vs1) (cuts t2 u2 vs2) other n m = both (plays_choice i1) (cut_choice t2 u2) vs1 vs2 n m (λ v w c. refl)
commute (contexts j1 vs1) (links vs2) other n m = both (context_choice j1) link_choice vs1 vs2 n m (λ v w c. refl)
commute (contexts j1 vs1) (spots t2 vs2) other n m = both (context_choice j1) (spot_choice t2) vs1 vs2 n m (λ v w c. refl)
commute (contexts j1 vs1) (modes t2 vs2) other n m = both (context_choice j1) (mode_choice t2) vs1 vs2 n m (λ v w c. refl)
commute (contexts j1 vs1) (events i2 vs2) other n m = both (context_choice j1) (events_choice i2) vs1 vs2 n m (λ v w c. refl)
commute (contexts j1 vs1) (plays i2 vs2) other n m = both (context_choice j1) (plays_choice i2) vs1 vs2 n m (λ v w c. refl)
commute (contexts j1 vs1) (contexts j2 vs2) other n m = both (context_choice j1) (context_choice j2) vs1 vs2 n m (λ v w c. ap (λ f. record c { context = f }) (at_swapped j1 j2 v w c.context (λ e. other (ap (λ (x : ℕ). number_of (contexts x [])) e))))
commute (contexts j1 vs1) (remotes k2 vs2) other n m = both (context_choice j1) (remote_choice k2) vs1 vs2 n m (λ v w c. refl)
commute (contexts j1 vs1) (cuts t2 u2 vs2) other n m = both (context_choice j1) (cut_choice t2 u2) vs1 vs2 n m (λ v w c. refl)
commute (remotes k1 vs1) (links vs2) other n m = both (remote_choice k1) link_choice vs1 vs2 n m (λ v w c. refl)
commute (remotes k1 vs1) (spots t2 vs2) other n m = both (remote_choice k1) (spot_choice t2) vs1 vs2 n m (λ v w c. refl)
commute (remotes k1 vs1) (modes t2 vs2) other n m = both (remote_choice k1) (mode_choice t2) vs1 vs2 n m (λ v w c. refl)
commute (remotes k1 vs1) (events i2 vs2) other n m = both (remote_choice k1) (events_choice i2) vs1 vs2 n m (λ v w c. refl)
commute (remotes k1 vs1) (plays i2 vs2) other n m = both (remote_choice k1) (plays_choice i2) vs1 vs2 n m (λ v w c. refl)
commute (remotes k1 vs1) (contexts j2 vs2) other n m = both (remote_choice k1) (context_choice j2) vs1 vs2 n m (λ v w c. refl)
commute (remotes k1 vs1) (remotes k2 vs2) other n m = both (remote_choice k1) (remote_choice k2) vs1 vs2 n m (λ v w c. ap (λ f. record c { remote = f }) (at_swapped k1 k2 v w c.remote (λ e. other (ap (λ (x : ℕ). number_of (remotes x [])) e))))
commute (remotes k1 vs1) (cuts t2 u2 vs2) other n m = both (remote_choice k1) (cut_choice t2 u2) vs1 vs2 n m (λ v w c. refl)
commute (cuts t1 u1 vs1) (links vs2) other n m = both (cut_choice t1 u1) link_choice vs1 vs2 n m (λ v w c. refl)
commute (cuts t1 u1 vs1) (spots t2 vs2) other n m = both (cut_choice t1 u1) (spot_choice t2) vs1 vs2 n m (λ v w c. refl)
commute (cuts t1 u1 vs1) (modes t2 vs2) other n m = both (cut_choice t1 u1) (mode_choice t2) vs1 vs2 n m (λ v w c. refl)
commute (cuts t1 u1 vs1) (events i2 vs2) other n m = both (cut_choice t1 u1) (events_choice i2) vs1 vs2 n m (λ v w c. refl)
commute (cuts t1 u1 vs1) (plays i2 vs2) other n m = both (cut_choice t1 u1) (plays_choice i2) vs1 vs2 n m (λ v w c. refl)
commute (cuts t1 u1 vs1) (contexts j2 vs2) other n m = both (cut_choice t1 u1) (context_choice j2) vs1 vs2 n m (λ v w c. refl)
commute (cuts t1 u1 vs1) (remotes k2 vs2) other n m = both (cut_choice t1 u1) (remote_choice k2) vs1 vs2 n m (λ v w c. refl)
commute (cuts t1 u1 vs1) (cuts t2 u2 vs2) other n m = both (cut_choice t1 u1) (cut_choice t2 u2) vs1 vs2 n m (λ v w c. ap (λ f. record c { cut = f }) (pair_swapped t1 u1 t2 u2 v w c.cut (cuts_apart t1 u1 t2 u2 vs1 vs2 other)))
