-- What a write of one bit of the cuts' word makes of the configuration that is shown.
use Rattle.std.proofs.Common.{◌≡◌, ℕ, ◌<◌, ◌==◌, ◌&&◌, Bool, true, false, nat_lt, refl, ap, sym, ◌∙◌, arith}
use Rattle.std.proofs.lemmas.Grind.{common_steps}
use Rattle.std.specs.Prelude.{if◌then◌else◌}
use Rattle.mg_model.specs.declared.commands.Termination.{Termination}
use Rattle.mg_model.specs.declared.commands.Termination.TheVariants.{Line, Ephemeral}
use Rattle.mg_model.specs.Configuration.{is_same}
use Rattle.mg_model.specs.Effects.{with_pair}
use Rattle.mg_model.proofs.ConfigurationLemmas.{same_configurations}
use Rattle.configuration.specs.Places.{index_of}
use Rattle.configuration.specs.Fields.{field_of, IsPut}
use Rattle.configuration.specs.Codes.{flag_at}
use Rattle.configuration.specs.Packed.{Words, pair_place}
use Rattle.configuration.specs.Config.{configuration_of, spot_in, mode_in}
use Rattle.configuration.proofs.PlaceLemmas.{index_of-same, index_of-other}
use Rattle.configuration.proofs.PutLemmas.{kept}

-- two pairs have one place only where they are one
pub pairs_apart : (m n x y : ℕ) → m < 8 → n < 8 → x < 8 → y < 8 → pair_place x y ≡ pair_place m n → (x ≡ m) × (y ≡ n)
pairs_apart m n x y hm hn hx hy e = by_first (x == y) refl (m == n) refl (nat_lt x y) refl (nat_lt m n) refl
  where
    by_first : (a : Bool) → (x == y) ≡ a → (b : Bool) → (m == n) ≡ b → (c : Bool) → nat_lt x y ≡ c → (d : Bool) → nat_lt m n ≡ d →
        (x ≡ m) × (y ≡ n)
    by_first a ea b eb c ec d ed = grind (arith, common_steps)

-- two bits are one or apart
pub bit_kept : {new old place other value : ℕ} → IsPut new old place 1 value → (other ≡ place → ⊥) →
    field_of new other 1 ≡ field_of old other 1
bit_kept {place = place} {other = other} p differ = kept p other 1 (λ a b. differ (omega arith))

-- what is read of another pair
pub other_pair : (new old value m n x y : ℕ) → IsPut new old (pair_place m n) 1 value → m < 8 → n < 8 →
    ((x ≡ m) × (y ≡ n) → ⊥) → (i j : Bool) → nat_lt x 8 ≡ i → nat_lt y 8 ≡ j →
    (i && j && flag_at (field_of new (pair_place x y) 1)) ≡ (i && j && flag_at (field_of old (pair_place x y) 1))
other_pair new old value m n x y p hm hn differ false j ei ej = refl
other_pair new old value m n x y p hm hn differ true false ei ej = refl
other_pair new old value m n x y p hm hn differ true true ei ej =
    ap flag_at (bit_kept p (λ q. differ (pairs_apart m n x y hm hn (grind (arith, common_steps)) (grind (arith, common_steps)) q)))

pub with_pair-at : (w : Words) (new value : ℕ) (t u x y : Termination) (cut : Bool) → index_of t < 8 → index_of u < 8 →
    IsPut new w.cuts (pair_place (index_of t) (index_of u)) 1 value → flag_at value ≡ cut →
    (a b : Bool) → is_same x t ≡ a → is_same y u ≡ b → (i j : Bool) → nat_lt (index_of x) 8 ≡ i → nat_lt (index_of y) 8 ≡ j →
    (i && j && flag_at (field_of new (pair_place (index_of x) (index_of y)) 1))
    ≡ (if a && b then cut else i && j && flag_at (field_of w.cuts (pair_place (index_of x) (index_of y)) 1))
with_pair-at w new value t u x y cut ht hu p e true true ea eb i j ei ej =
    let one : index_of x ≡ index_of t = index_of-same t x ht ea in
    let other : index_of y ≡ index_of u = index_of-same u y hu eb in
    let first : i ≡ true = sym ei ∙ grind (arith, common_steps) in
    let second : j ≡ true = sym ej ∙ grind (arith, common_steps) in
    let here : flag_at (field_of new (pair_place (index_of t) (index_of u)) 1) ≡ cut = ap flag_at p.here ∙ e in
    rw (first, second, one, other) here
with_pair-at w new value t u x y cut ht hu p e true false ea eb i j ei ej =
    other_pair new w.cuts value _ _ (index_of x) (index_of y) p ht hu (λ q. index_of-other u y hu eb q.1) i j ei ej
with_pair-at w new value t u x y cut ht hu p e false b ea eb i j ei ej =
    other_pair new w.cuts value _ _ (index_of x) (index_of y) p ht hu (λ q. index_of-other t x ht ea q.0) i j ei ej

pub cut-set : (w : Words) (new value : ℕ) (t u : Termination) (cut : Bool) → index_of t < 8 → index_of u < 8 →
    IsPut new w.cuts (pair_place (index_of t) (index_of u)) 1 value → flag_at value ≡ cut →
    configuration_of (record w { cuts = new })
    ≡ record (configuration_of w) { cut = with_pair (configuration_of w).cut t u cut }
unfolding configuration_of
cut-set w new value t u cut ht hu p e = same_configurations _ _ record {
  state = refl;
  link = refl;
  spot = λ x. spots x;
  mode = λ x. modes x;
  events = λ i. refl;
  plays = λ i. refl;
  context = λ j. refl;
  remote = λ k. refl;
  cut = λ x y. with_pair-at w new value t u x y cut ht hu p e (is_same x t) (is_same y u) refl refl _ _ refl refl;
}
  where
    spots : (x : Termination) → spot_in (record w { cuts = new }) x ≡ spot_in w x
    spots (Line i) = refl
    spots (Ephemeral k) = refl

    modes : (x : Termination) → mode_in (record w { cuts = new }) x ≡ mode_in w x
    modes (Line i) = refl
    modes (Ephemeral k) = refl
