-- The member's bit is cleared.
use Rattle.std.proofs.Common.{◌≡◌, ◌∙◌, Bool, true, false, not, ◌&&◌, ◌||◌, ap, refl}
use Rattle.configuration.specs.Bits.{has}
use Rattle.configuration.proofs.BitLemmas.{has_and, has_not}
use Rattle.entry_table.proofs.rows.narrowed.Goals as goal

or_not : (a b : Bool) → b ≡ false → a ≡ (a || b)
or_not true b is = refl
or_not false true is = absurd (cc)
or_not false false is = refl

pub returns : goal.returns
returns c b below =
    let members = c.args.members in
    has_and c.args.row _ b
    ∙ ap (λ d. has c.args.row b && d)
    (has_not members b c.ranges.members.fits below ∙ or_not (not (has members b)) c.args.is_allowed c.if-is_allowed.false)
