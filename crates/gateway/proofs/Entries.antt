-- The entry of a number with which no call was opened.
use Rattle.std.proofs.Common.{◌≡◌, false, Option, Some, None, is_some, refl, true≢false}
use Rattle.gateway.specs.Calls.{OpenCall, open_entry, is_retired_entry}

pub no_entry : (entry : Option (Option OpenCall)) → is_some entry ≡ false → (is_some (open_entry entry) ≡ false) × (is_retired_entry entry ≡ false)
no_entry None none = (refl, refl)
no_entry (Some entry) none = absurd (true≢false none)
