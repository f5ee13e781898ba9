-- The tests of the fields are those of the components.
use Rattle.std.proofs.Common.{◌≡◌, ◌≢◌, ℕ, ◌==◌, nat_eq, Bool, not, ◌||◌, ◌&&◌, arith, sym, ◌∙◌}
use Rattle.std.proofs.lemmas.Grind.{common_steps}
use Rattle.configuration.proofs.EphemeralLemmas.{ephemeral_test}
use Rattle.configuration.proofs.well_formed.is_ephemeral_right.Goals as goal

none_there : (n whole : ℕ) (b : Bool) → n ≡ whole → n ≡ 0 → nat_eq n 0 ≡ (whole == 0 || b)
none_there n whole b e h = grind (arith, common_steps)

some_there : (n whole e a : ℕ) (names known : Bool) → n ≡ whole → n ≢ 0 → e ≡ a → e ≢ 0 → names ≡ known →
    names ≡ (whole == 0 || (not (a == 0) && known))
some_there n whole e a names known p h q g r = grind (arith, common_steps)

not_there : (n whole e a : ℕ) (known : Bool) → n ≡ whole → n ≢ 0 → e ≡ a → e ≡ 0 →
    not (nat_eq e 0) ≡ (whole == 0 || (not (a == 0) && known))
not_there n whole e a known p h q g = grind (arith, common_steps)

pub returns-then-field-eq0 : goal.returns-then-field-eq0
returns-then-field-eq0 c =
    let whole = rw (c.ephemeral_place-place.ensures.value, c.ephemerals_word-word.ensures.value) at c.field-2.ensures.value in
    none_there c.field-2.result _ _ whole c.if-field-eq0.true
    ∙ sym (ephemeral_test c.args.config.now c.args.ephemeral c.ephemeral_place-place.ensures.slot c.ephemerals_word-word.ensures.packed.ephemerals)

pub returns-then-exists : goal.returns-then-exists
returns-then-exists c =
    let whole = rw (c.ephemeral_place-place.ensures.value, c.ephemerals_word-word.ensures.value) at c.field-2.ensures.value in
    let exists = rw (c.ephemeral_place-place.ensures.value, c.ephemerals_word-word.ensures.value) at c.field-exists.ensures.value in
    let name = rw (c.ephemeral_place-place.ensures.value, c.ephemerals_word-word.ensures.value) at c.field.ensures.value in
    let names = rw (name, c.ephemerals_word-word.ensures.value) at c.names_present-names.ensures in
    some_there c.field-2.result _ c.field-exists.result _ _ _ whole c.if-field-eq0.false exists c.if-exists.true names
    ∙ sym (ephemeral_test c.args.config.now c.args.ephemeral c.ephemeral_place-place.ensures.slot c.ephemerals_word-word.ensures.packed.ephemerals)

pub returns-else-exists : goal.returns-else-exists
returns-else-exists c =
    let whole = rw (c.ephemeral_place-place.ensures.value, c.ephemerals_word-word.ensures.value) at c.field-2.ensures.value in
    let exists = rw (c.ephemeral_place-place.ensures.value, c.ephemerals_word-word.ensures.value) at c.field-exists.ensures.value in
    not_there c.field-2.result _ c.field-exists.result _ _ whole c.if-field-eq0.false exists c.if-exists.false
    ∙ sym (ephemeral_test c.args.config.now c.args.ephemeral c.ephemeral_place-place.ensures.slot c.ephemerals_word-word.ensures.packed.ephemerals)
