-- The bits of the pairs of terminations, as they are counted row by row.
use Rattle.std.proofs.Common.{◌≡◌, ℕ, ◌-◌, ◌*◌, ◌^◌, ◌<◌, nat_lt, Bool, true, false, refl, arith}
use Rattle.std.specs.Prelude.{if◌then◌else◌}
use Rattle.std.proofs.lemmas.Grind.{common_steps}
use Rattle.mg_model.specs.declared.commands.Termination.TheVariants.{Line, Ephemeral}
use Rattle.configuration.specs.Places.{index_of}
use Rattle.configuration.specs.Fields.{field_of}
use Rattle.configuration.specs.Codes.{flag_code}
use Rattle.configuration.specs.Packed.{Words, pair_place}
use Rattle.configuration.specs.Config.{configuration_of}
use Rattle.configuration.specs.Words.{termination_at, row_number, third_word}
use Rattle.configuration.proofs.SumLemmas.{seven_sum, rows_sum}
use Rattle.configuration.proofs.WordLemmas.{flag_back, small}

pub place_at : (m : ℕ) → m < 8 → index_of (termination_at m) ≡ m
place_at m h = by_test (nat_lt m 4) refl
  where
    by_test : (b : Bool) → nat_lt m 4 ≡ b → index_of (if b then Line m else Ephemeral (m - 4)) ≡ m
    by_test true e = rw e refl
    by_test false e = grind (arith, common_steps)

pub pair_back : (w : Words) (m n : ℕ) → m < 8 → n < 8 →
    flag_code ((configuration_of w).cut (termination_at m) (termination_at n)) ≡ field_of w.cuts (pair_place m n) 1
unfolding configuration_of
pair_back w m n hm hn =
    let inside : nat_lt m 8 ≡ true = grind (arith, common_steps) in
    let other_inside : nat_lt n 8 ≡ true = grind (arith, common_steps) in
    rw (place_at m hm, place_at n hn, inside, other_inside) (flag_back (field_of w.cuts (pair_place m n) 1) (small w.cuts (pair_place m n) 1))

row_0 : (w : Words) → row_number (configuration_of w) 0 ≡ field_of w.cuts 0 7 * 2 ^ 0
row_0 w =
    let p1 = pair_back w 0 1 (omega arith) (omega arith) in
    let p2 = pair_back w 0 2 (omega arith) (omega arith) in
    let p3 = pair_back w 0 3 (omega arith) (omega arith) in
    let p4 = pair_back w 0 4 (omega arith) (omega arith) in
    let p5 = pair_back w 0 5 (omega arith) (omega arith) in
    let p6 = pair_back w 0 6 (omega arith) (omega arith) in
    let p7 = pair_back w 0 7 (omega arith) (omega arith) in
    rw (p1, p2, p3, p4, p5, p6, p7) (omega (arith, seven_sum w.cuts 0))

row_1 : (w : Words) → row_number (configuration_of w) 1 ≡ field_of w.cuts 7 7 * 2 ^ 7
row_1 w =
    let p0 = pair_back w 1 0 (omega arith) (omega arith) in
    let p2 = pair_back w 1 2 (omega arith) (omega arith) in
    let p3 = pair_back w 1 3 (omega arith) (omega arith) in
    let p4 = pair_back w 1 4 (omega arith) (omega arith) in
    let p5 = pair_back w 1 5 (omega arith) (omega arith) in
    let p6 = pair_back w 1 6 (omega arith) (omega arith) in
    let p7 = pair_back w 1 7 (omega arith) (omega arith) in
    rw (p0, p2, p3, p4, p5, p6, p7) (omega (arith, seven_sum w.cuts 7))

row_2 : (w : Words) → row_number (configuration_of w) 2 ≡ field_of w.cuts 14 7 * 2 ^ 14
row_2 w =
    let p0 = pair_back w 2 0 (omega arith) (omega arith) in
    let p1 = pair_back w 2 1 (omega arith) (omega arith) in
    let p3 = pair_back w 2 3 (omega arith) (omega arith) in
    let p4 = pair_back w 2 4 (omega arith) (omega arith) in
    let p5 = pair_back w 2 5 (omega arith) (omega arith) in
    let p6 = pair_back w 2 6 (omega arith) (omega arith) in
    let p7 = pair_back w 2 7 (omega arith) (omega arith) in
    rw (p0, p1, p3, p4, p5, p6, p7) (omega (arith, seven_sum w.cuts 14))

row_3 : (w : Words) → row_number (configuration_of w) 3 ≡ field_of w.cuts 21 7 * 2 ^ 21
row_3 w =
    let p0 = pair_back w 3 0 (omega arith) (omega arith) in
    let p1 = pair_back w 3 1 (omega arith) (omega arith) in
    let p2 = pair_back w 3 2 (omega arith) (omega arith) in
    let p4 = pair_back w 3 4 (omega arith) (omega arith) in
    let p5 = pair_back w 3 5 (omega arith) (omega arith) in
    let p6 = pair_back w 3 6 (omega arith) (omega arith) in
    let p7 = pair_back w 3 7 (omega arith) (omega arith) in
    rw (p0, p1, p2, p4, p5, p6, p7) (omega (arith, seven_sum w.cuts 21))

row_4 : (w : Words) → row_number (configuration_of w) 4 ≡ field_of w.cuts 28 7 * 2 ^ 28
row_4 w =
    let p0 = pair_back w 4 0 (omega arith) (omega arith) in
    let p1 = pair_back w 4 1 (omega arith) (omega arith) in
    let p2 = pair_back w 4 2 (omega arith) (omega arith) in
    let p3 = pair_back w 4 3 (omega arith) (omega arith) in
    let p5 = pair_back w 4 5 (omega arith) (omega arith) in
    let p6 = pair_back w 4 6 (omega arith) (omega arith) in
    let p7 = pair_back w 4 7 (omega arith) (omega arith) in
    rw (p0, p1, p2, p3, p5, p6, p7) (omega (arith, seven_sum w.cuts 28))

row_5 : (w : Words) → row_number (configuration_of w) 5 ≡ field_of w.cuts 35 7 * 2 ^ 35
row_5 w =
    let p0 = pair_back w 5 0 (omega arith) (omega arith) in
    let p1 = pair_back w 5 1 (omega arith) (omega arith) in
    let p2 = pair_back w 5 2 (omega arith) (omega arith) in
    let p3 = pair_back w 5 3 (omega arith) (omega arith) in
    let p4 = pair_back w 5 4 (omega arith) (omega arith) in
    let p6 = pair_back w 5 6 (omega arith) (omega arith) in
    let p7 = pair_back w 5 7 (omega arith) (omega arith) in
    rw (p0, p1, p2, p3, p4, p6, p7) (omega (arith, seven_sum w.cuts 35))

row_6 : (w : Words) → row_number (configuration_of w) 6 ≡ field_of w.cuts 42 7 * 2 ^ 42
row_6 w =
    let p0 = pair_back w 6 0 (omega arith) (omega arith) in
    let p1 = pair_back w 6 1 (omega arith) (omega arith) in
    let p2 = pair_back w 6 2 (omega arith) (omega arith) in
    let p3 = pair_back w 6 3 (omega arith) (omega arith) in
    let p4 = pair_back w 6 4 (omega arith) (omega arith) in
    let p5 = pair_back w 6 5 (omega arith) (omega arith) in
    let p7 = pair_back w 6 7 (omega arith) (omega arith) in
    rw (p0, p1, p2, p3, p4, p5, p7) (omega (arith, seven_sum w.cuts 42))

row_7 : (w : Words) → row_number (configuration_of w) 7 ≡ field_of w.cuts 49 7 * 2 ^ 49
row_7 w =
    let p0 = pair_back w 7 0 (omega arith) (omega arith) in
    let p1 = pair_back w 7 1 (omega arith) (omega arith) in
    let p2 = pair_back w 7 2 (omega arith) (omega arith) in
    let p3 = pair_back w 7 3 (omega arith) (omega arith) in
    let p4 = pair_back w 7 4 (omega arith) (omega arith) in
    let p5 = pair_back w 7 5 (omega arith) (omega arith) in
    let p6 = pair_back w 7 6 (omega arith) (omega arith) in
    rw (p0, p1, p2, p3, p4, p5, p6) (omega (arith, seven_sum w.cuts 49))

pub third_back : (w : Words) → third_word (configuration_of w) ≡ field_of w.cuts 0 56
third_back w = rw (row_0 w, row_1 w, row_2 w, row_3 w, row_4 w, row_5 w, row_6 w, row_7 w) (omega (arith, rows_sum w.cuts))
