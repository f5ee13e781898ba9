-- Each turn adds what is arrived at; where nothing is added, all paths are found.
use Rattle.std.proofs.Common.{refl, ◌≡◌, ℕ, ◌-◌, ◌<◌, ◌≤◌, ◌==◌, not, ap, ◌∙◌, arith}
use Rattle.std.proofs.lemmas.Bool.{lt-ltb}
use Rattle.configuration.specs.Bits.{has}
use Rattle.configuration.specs.Fields.{field_of}
use Rattle.configuration.proofs.SearchLemmas.{has_low, alone, alone_small, none_arrived, next_arrived, search_ends}
use Rattle.configuration.proofs.config.paths.heard.Goals as goal

less_left : (m n : ℕ) → m ≤ n → (m ≡ n → ⊥) → n < 256 → 256 - n < 256 - m
less_left m n h other l = omega arith

bit_read : (n r p : ℕ) → n ≡ field_of r p 1 → not (n == 0) ≡ has r p
unfolding has
bit_read n r p e = ap (λ m. not (m == 0)) e

pub loop-mask-init : goal.loop-mask-init
loop-mask-init c = record {
  small = rw c.index.ensures.value (alone_small c.args.from c.index.ensures.in_range);
  small_more = c.next-more.ensures.small;
  below = c.next-more.ensures.more;
  start = rw c.index.ensures.value (alone c.args.from c.index.ensures.in_range);
  arrived = λ config rows crossings. rw c.index.ensures.value (none_arrived c.args.rows c.args.crossings c.args.from c.index.ensures.in_range config);
  lines = c.next-more.ensures.lines;
  ephemerals = c.next-more.ensures.ephemerals;
}

pub next-more-requires-in-loop-mask : goal.next-more-requires-in-loop-mask
next-more-requires-in-loop-mask c = c.loop-mask.invariant.small_more

pub loop-mask-smaller : goal.loop-mask-smaller
loop-mask-smaller c = less_left c.loop-mask.mask c.loop-mask.more c.loop-mask.invariant.below c.loop-mask-test.true c.loop-mask.invariant.small_more

pub loop-mask-preserved : goal.loop-mask-preserved
loop-mask-preserved c = record {
  small = c.loop-mask.invariant.small_more;
  small_more = c.next-more-in-loop-mask.ensures.small;
  below = c.next-more-in-loop-mask.ensures.more;
  start = λ t h. c.loop-mask.invariant.lines t h ∙ c.loop-mask.invariant.start t h;
  arrived = next_arrived c.args.rows c.args.crossings c.args.from c.loop-mask.mask c.loop-mask.more c.index.ensures.in_range c.loop-mask.invariant;
  lines = c.next-more-in-loop-mask.ensures.lines;
  ephemerals = c.next-more-in-loop-mask.ensures.ephemerals;
}

pub returns-clause-lines : goal.returns-clause-lines
returns-clause-lines c config rows crossings small j below =
    let low : has c.field.result j ≡ has c.reached.result j =
    ap (λ n. has n j) c.field.ensures.value ∙ has_low c.reached.result 4 j ∙ rw (lt-ltb j 4 below) refl in
    search_ends c.args.rows c.args.crossings c.args.from j c.loop-mask.mask c.loop-mask.more c.field.result
    c.index.ensures.in_range below c.loop-mask.invariant c.loop-mask-test.false
    (low ∙ c.reached.ensures j (omega (arith, below))) config rows crossings small
