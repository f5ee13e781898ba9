-- What isn't given stays.
use Rattle.std.proofs.Common.{◌≡◌, ℕ, ◌==◌, Bool, true, false, refl, ap}
use Rattle.std.specs.Prelude.{if◌then◌else◌}
use Rattle.std.proofs.Math.Path.{fun_ext}
use Rattle.std.proofs.lemmas.Bool.{eqb-true}
use Rattle.mg_model.specs.declared.commands.Termination.{Termination}
use Rattle.mg_model.specs.Configuration.{Configuration, is_same, with_of}
use Rattle.mg_model.specs.Updates.{with_at}
use Rattle.mg_model.proofs.Terminations.{is_same_is}

stays : {A : Type 0} (b : Bool) (new old : A) → (b ≡ true → old ≡ new) → old ≡ (if b then new else old)
stays true new old h = h refl
stays false new old h = refl

of_same : {A : Type 0} (f : Termination → A) (t : Termination) → f ≡ with_of f t (f t)
of_same f t = fun_ext (λ u. stays (is_same u t) (f t) (f u) (λ e. ap f (is_same_is u t e)))

at_same : {A : Type 0} (f : ℕ → A) (i : ℕ) → f ≡ with_at f i (f i)
at_same f i = fun_ext (λ k. stays (k == i) (f i) (f k) (λ e. ap f (eqb-true k i e)))

pub mode_stays : (c : Configuration) (t : Termination) → c ≡ record c { mode = with_of c.mode t (c.mode t) }
mode_stays c t = ap (λ mode. record c { mode = mode }) (of_same c.mode t)

pub events_stay : (c : Configuration) (i : ℕ) → c ≡ record c { events = with_at c.events i (c.events i) }
events_stay c i = ap (λ events. record c { events = events }) (at_same c.events i)

pub plays_stay : (c : Configuration) (i : ℕ) → c ≡ record c { plays = with_at c.plays i (c.plays i) }
plays_stay c i = ap (λ plays. record c { plays = plays }) (at_same c.plays i)

pub remote_stays : (c : Configuration) (k : ℕ) → c ≡ record c { remote = with_at c.remote k (c.remote k) }
remote_stays c k = ap (λ remote. record c { remote = remote }) (at_same c.remote k)
