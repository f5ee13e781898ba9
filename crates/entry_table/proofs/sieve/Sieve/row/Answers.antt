-- A number of at most 5 bits has its row, and the members that were narrowed last are taken out of it.
use Rattle.std.proofs.Common.{◌≡◌, ◌∙◌, ◌-◌, ◌/◌, ◌^◌, ◌<◌, ◌≤◌, ℕ, List, ap, bit_and, slice_index, subst, sym, arith}
use Rattle.std.proofs.lemmas.Nat.{and_mask, mod_below, pow_pos}
use Rattle.configuration.specs.Bits.{has}
use Rattle.configuration.specs.Fields.{field_of}
use Rattle.configuration.specs.Packed.{Words}
use Rattle.configuration.specs.Regions.{AreWordsOf}
use Rattle.configuration.proofs.FieldLemmas.{power_le}
use Rattle.entry_table.specs.Sieves.{Sieve, number_in, passes}
use Rattle.entry_table.proofs.SieveLemmas.{by_rows, told_together}
use Rattle.entry_table.proofs.sieve.Sieve.row.Goals as goal

-- what the code shifts and masks
masked_off : (word at bits mask : ℕ) → mask ≡ 2 ^ bits - 1 → bit_and (word / 2 ^ at) mask ≡ field_of word at bits
unfolding field_of
masked_off word at bits mask is = ap (bit_and (word / 2 ^ at)) is ∙ and_mask (word / 2 ^ at) bits

below_rows : (word at bits mask : ℕ) → mask ≡ 2 ^ bits - 1 → bits ≤ 5 → bit_and (word / 2 ^ at) mask < 32
below_rows word at bits mask is few =
    let rest = ap (bit_and (word / 2 ^ at)) is ∙ and_mask (word / 2 ^ at) bits in
    omega (arith, rest, mod_below (word / 2 ^ at) (2 ^ bits) (pow_pos bits), power_le bits 5 few)

pub bounds-self-inside-number : goal.bounds-self-inside-number
bounds-self-inside-number c =
    let inside = c.self.inside in
    below_rows (slice_index c.args.words.now inside.word) inside.at inside.bits inside.mask c.self.invariant.4 c.self.invariant.2

pub field-is_allowed-requires-clause-place : goal.field-is_allowed-requires-clause-place
field-is_allowed-requires-clause-place c =
    let inside = c.self.inside in
    omega (arith, below_rows (slice_index c.args.words.now inside.word) inside.at inside.bits inside.mask c.self.invariant.4 c.self.invariant.2)

-- the number that is read is the one in the field
read_number : (numbers : List ℕ) (sieve : Sieve) (mask : ℕ) (w : Words) → mask ≡ 2 ^ sieve.bits - 1 → sieve.word < 3 → AreWordsOf numbers w
    → bit_and (slice_index numbers sieve.word / 2 ^ sieve.at) mask ≡ number_in sieve w
read_number numbers sieve mask w is small are =
    masked_off (slice_index numbers sieve.word) sieve.at sieve.bits mask is ∙ ap (λ k. field_of k sieve.at sieve.bits) (are sieve.word small)

pub returns-then-self-eq0 : goal.returns-then-self-eq0
returns-then-self-eq0 c member w are below =
    let inside = c.self.inside in
    let shown : Sieve = record { word = inside.word; at = inside.at; bits = inside.bits; rows = inside.rows; members = inside.members; allowed = inside.allowed } in
    subst (λ (s : Sieve). has (slice_index inside.rows (bit_and (slice_index c.args.words.now inside.word / 2 ^ inside.at) inside.mask)) member ≡ passes s member w)
    c.self.view_is
    (ap (λ n. has (slice_index inside.rows n) member) (read_number c.args.words.now shown inside.mask w c.self.invariant.4 c.self.invariant.0 are)
    ∙ sym (by_rows shown member w c.if-self-eq0.true))

pub returns : goal.returns
returns c member w are below =
    let inside = c.self.inside in
    let shown : Sieve = record { word = inside.word; at = inside.at; bits = inside.bits; rows = inside.rows; members = inside.members; allowed = inside.allowed } in
    subst (λ (s : Sieve). has c.narrowed.result member ≡ passes s member w) c.self.view_is
    (told_together shown c.narrowed.result (bit_and (slice_index c.args.words.now inside.word / 2 ^ inside.at) inside.mask) c.field-is_allowed.result member w
    (read_number c.args.words.now shown inside.mask w c.self.invariant.4 c.self.invariant.0 are) c.field-is_allowed.ensures.value
    (c.narrowed.ensures member below))
