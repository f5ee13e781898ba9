-- Where no bit is set nothing is cut. All pairs, one by one, are the cuts of the termination: nothing else is cut.
use Rattle.std.proofs.Common.{◌≡◌, ◌∙◌, Bool, true, false, ◌&&◌, ◌||◌, nat_lt, refl, ap, sym}
use Rattle.std.specs.Prelude.{if◌then◌else◌}
use Rattle.mg_model.specs.declared.commands.Termination.{Termination}
use Rattle.mg_model.specs.Configuration.{is_same}
use Rattle.mg_model.specs.Effects.{without_cuts_of}
use Rattle.configuration.specs.Codes.{flag_at}
use Rattle.configuration.specs.Config.{configuration_of, cut_in}
use Rattle.configuration.specs.Fields.{field_of}
use Rattle.configuration.specs.Packed.{Words, pair_place}
use Rattle.configuration.specs.Places.{index_of}
use Rattle.configuration.proofs.SlotLemmas.{no_cuts}
use Rattle.configuration.proofs.UnusedLemmas.{zero_field}
use Rattle.closure.proofs.SubtractLemmas.{forget_all}
use Rattle.closure.proofs.effects.cuts.forget_cuts.Goals as goal

nothing_cut : (w : Words) → w.cuts ≡ 0 → (t u : Termination) → cut_in w t u ≡ false
nothing_cut w none t u =
    ap (λ word. nat_lt (index_of t) 8 && nat_lt (index_of u) 8 && flag_at (field_of word (pair_place (index_of t) (index_of u)) 1)) none
    ∙ ap (λ bit. nat_lt (index_of t) 8 && nat_lt (index_of u) 8 && flag_at bit) (zero_field (pair_place (index_of t) (index_of u)) 1)
    ∙ neither (nat_lt (index_of t) 8) (nat_lt (index_of u) 8)
  where
    neither : (a b : Bool) → (a && b && false) ≡ false
    neither true true = refl
    neither true false = refl
    neither false b = refl

-- what isn't cut may be forgotten
forgotten : (cut : Termination → Termination → Bool) (leaves : Termination → Bool) → ((t u : Termination) → cut t u ≡ false)
    → cut ≡ without_cuts_of leaves cut
forgotten cut leaves none = λ i t u. same t u i
  where
    by_test : (b v : Bool) → v ≡ false → v ≡ (if b then false else v)
    by_test true v e = e
    by_test false v e = refl

    same : (t u : Termination) → cut t u ≡ without_cuts_of leaves cut t u
    same t u = by_test (leaves t || leaves u) (cut t u) (none t u)

pub returns-then-config_word-eq0 : goal.returns-then-config_word-eq0
unfolding configuration_of
returns-then-config_word-eq0 c =
    let w = c.args.config.now in
    ap (λ (cut : Termination → Termination → Bool). record (configuration_of w) { cut = cut })
    (forgotten (cut_in w) (is_same c.args.termination.now) (nothing_cut w (sym c.config_word.ensures.value ∙ c.if-config_word-eq0.true)))

pub returns : goal.returns
returns c = c.forget_each.ensures ∙ forget_all (configuration_of c.args.config.now) (no_cuts c.args.config.now) c.args.termination.now
