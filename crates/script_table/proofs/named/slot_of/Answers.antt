use Rattle.std.proofs.Common.{◌<◌, arith, string_bytes, sym, ◌∙◌, String, Global}
use Rattle.std.specs.Str.{bytes_eq}
use Rattle.script_table.proofs.MappedPlaces.{position-mapped, slot_is}
use Rattle.script_table.proofs.named.slot_of.Goals as goal

pub returns-in_err-place : goal.returns-in_err-place
returns-in_err-place c = c.from_residual.ensures ∙ (c.in_err-place.ensures.place ∙ sym (position-mapped (λ other. bytes_eq c.args.name.now other) (λ (n : String Global). string_bytes n) c.args.names.now))

pub returns : goal.returns
returns c =
    let small : c.in_ok-place.place < 4 = omega (arith, c.in_ok-place.ensures.within, c.requires) in
    slot_is c.new.result c.in_ok-place.place c.new.ensures.value c.new.ensures.refused small
    ∙ (c.in_ok-place.ensures.place ∙ sym (position-mapped (λ other. bytes_eq c.args.name.now other) (λ (n : String Global). string_bytes n) c.args.names.now))
